-- What demand 3's hypotheses allow, as a test that can be computed, and its soundness: events that pass it are allowed.
-- Assumes nothing.
use mathlib.Core.Path.{◌≡◌, refl}
use mathlib.Core.Bool.{Bool, true, not}
use mathlib.Core.List.{List, [], ◌∷◌, ◌++◌}
use Prim.Native.Nat.{ℕ, ◌+◌, ◌^◌}
use borrow.Author.Tests.{ltb-true, leb-true, not-true}
use lib.Dec.{ltb, leb}
use lib.ListN.{length}
use Rattle.basics.specs.Basics.{◌and◌, is_done}
use Rattle.basics.proofs.Choices.{and_true}
use Rattle.circle.specs.Lengths.{half}
use Rattle.bearer.specs.Keeper as K
use Rattle.bearer.specs.Ledger as G
use Rattle.bearer.specs.World.{World, Event, send, copy, stray, expire, confirm, status, deliver, other, take_one, open_secondary, open_master, step}
use Rattle.bearer.specs.Demand3.{Allowed, AllAllowed, after}

-- an event passes
abbrev pub is_allowed : ℕ → World → Event → Bool
is_allowed L w (send p z) = true
is_allowed L w (copy i) = ltb i (length w.sent) and leb (length w.sent) (i + half L)
is_allowed L w (stray n p) = not (is_done (K.arrive w.keeper n p).answer)
is_allowed L w (expire n) = true
is_allowed L w (confirm n) = true
is_allowed L w (status d m final buffer) = ltb d (2 ^ 32) and ltb m (2 ^ 32)
is_allowed L w deliver = true
is_allowed L w (other o) = not (is_done (G.accept w.ledger o).answer)
is_allowed L w take_one = true
is_allowed L w (open_secondary bits n f) = not (is_done (K.open_keeper bits n f))
is_allowed L w (open_master bits n f) = not (is_done (G.open_ledger {A = ℕ} bits n f))

-- an event that passes is allowed
allowed : (L : ℕ) (w : World) (e : Event) → is_allowed L w e ≡ true → Allowed L w e
allowed L w (send p z) t = tt
allowed L w (copy i) t =
    let b = and_true (ltb i (length w.sent)) (leb (length w.sent) (i + half L)) t in
    (ltb-true i (length w.sent) b.0, leb-true (length w.sent) (i + half L) b.1)
allowed L w (stray n p) t = not-true (is_done (K.arrive w.keeper n p).answer) t
allowed L w (expire n) t = tt
allowed L w (confirm n) t = tt
allowed L w (status d m final buffer) t = let b = and_true (ltb d (2 ^ 32)) (ltb m (2 ^ 32)) t in (ltb-true d (2 ^ 32) b.0, ltb-true m (2 ^ 32) b.1)
allowed L w deliver t = tt
allowed L w (other o) t = not-true (is_done (G.accept w.ledger o).answer) t
allowed L w take_one t = tt
allowed L w (open_secondary bits n f) t = not-true (is_done (K.open_keeper bits n f)) t
allowed L w (open_master bits n f) t = not-true (is_done (G.open_ledger {A = ℕ} bits n f)) t

-- each event of a list passes when it happens, and then a test of the world that they leave
abbrev passes : ℕ → ℕ → World → List Event → (World → Bool) → Bool
passes L first w [] then = then w
passes L first w (e ∷ es) then = is_allowed L w e and passes L first (step L first w e) es then

-- events that pass are allowed, and the test holds of the world after them
passed : (L first : ℕ) (w : World) (es : List Event) (then : World → Bool) → passes L first w es then ≡ true
    → AllAllowed L first w es × (then (after L first w es) ≡ true)
passed L first w [] then t = (tt, t)
passed L first w (e ∷ es) then t =
    let b = and_true (is_allowed L w e) (passes L first (step L first w e) es then) t in
    let rest = passed L first (step L first w e) es then b.1 in
    ((allowed L w e b.0, rest.0), rest.1)

-- events, and more of them, are allowed one after another
more_allowed : (L first : ℕ) (w : World) (es fs : List Event) → AllAllowed L first w es → AllAllowed L first (after L first w es) fs → AllAllowed L first w (es ++ fs)
more_allowed L first w [] fs a b = b
more_allowed L first w (e ∷ es) fs a b = (a.0, more_allowed L first (step L first w e) es fs a.1 b)

-- and leave what the second leave of what the first leave
after_more : (L first : ℕ) (w : World) (es fs : List Event) → after L first w (es ++ fs) ≡ after L first (after L first w es) fs
after_more L first w [] fs = refl
after_more L first w (e ∷ es) fs = after_more L first (step L first w e) es fs

-- events pass with a test of the world that they leave, and more events with another
abbrev pub course : ℕ → ℕ → World → List Event → (World → Bool) → List Event → (World → Bool) → Bool
course L first w es p fs q = passes L first w es (λ (v : World). p v and passes L first v fs q)

-- they are allowed one after another, and both tests hold
pub record Course (L first : ℕ) (w : World) (es : List Event) (p : World → Bool) (fs : List Event) (q : World → Bool) : Type 0 where
  pub allowed : AllAllowed L first w (es ++ fs)
  pub then : p (after L first w es) ≡ true
  pub at_end : q (after L first w (es ++ fs)) ≡ true

pub ran : (L first : ℕ) (w : World) (es : List Event) (p : World → Bool) (fs : List Event) (q : World → Bool) → course L first w es p fs q ≡ true → Course L first w es p fs q
ran L first w es p fs q t =
    let v : World = after L first w es in
    let one = passed L first w es (λ (u : World). p u and passes L first u fs q) t in
    let both = and_true (p v) (passes L first v fs q) one.1 in
    let two = passed L first v fs q both.1 in
    record { allowed = more_allowed L first w es fs one.0 two.0; then = both.0; at_end = rw (after_more L first w es fs) two.1 }
