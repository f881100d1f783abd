-- Confirm and status keep what a state means. A status reports the runs that it carries, and lets go of records that are all
-- confirmed and before the first run left out; the next record is unconfirmed, or lies past that run.
-- Assumes nothing.
use mathlib.Core.Path.{◌≡◌, refl, sym, ◌∙◌, ap, subst}
use mathlib.Core.Bool.{Bool, true, false}
use mathlib.Core.List.{List, [], ◌∷◌, ◌++◌}
use mathlib.Core.Logic.{◌⊎◌, inl, inr, ⊎_elim}
use Prim.Native.Nat.{ℕ, ◌+◌, ◌≤◌, ◌<◌}
use native.Mathlib.Omega.{arith}
use borrow.Author.Tests.{ltb-true, ltb-false}
use lib.Dec.{ltb}
use lib.ListN.{length, get_or, take, drop, set, length-append, length-drop, length-set, take-append-drop}
use lib.Seq.{map-set_same, drop-append_seam, drop-drop}
use Rattle.basics.proofs.Lists.{map_take, map_drop}
use Rattle.basics.proofs.Choices.{tested, contrary, and_true}
use Rattle.frame_layout.specs.Frames.{most_ranges}
use Rattle.bearer.specs.Bearer.{window}
use Rattle.bearer.specs.Losses.{Gap}
use Rattle.bearer.specs.Rule.{Fates}
use Rattle.bearer.specs.Packets.{In, Each}
use Rattle.bearer.specs.Account.{Held, packets_of, indexes}
use Rattle.bearer.proofs.Lists.Mapped.{each_take, each_drop, each_at, each_so, each_both}
use Rattle.bearer.proofs.Lists.Elements.{in_drop, in_split, each_set, each_in, rising_drop, each_run, run_ends}
use Rattle.bearer.proofs.Lists.Rows.{packets_of_append, run_in}
use Rattle.bearer.proofs.Secondary.Index.{Indexed, froms, no_held, delivered_i, confirmed_i, may_go_i, let_go_i, reported_i}
use Rattle.bearer.proofs.Secondary.Runs.{maximal_drop}
use Rattle.bearer.proofs.Secondary.Follows.{marks, mark_base, mark_run, mark_record, in_marks, Follows}

-- ---- confirm

module _ {h : ℕ} {a : Indexed} {r : Fates} {told : ℕ} (F : Follows h a r told) where
  pub follows_confirm : (p : ℕ) → p < length a.records → (get_or a.records p no_held).index < a.base → Follows h (confirmed_i a p) r told
  follows_confirm p inside before = record {
    fates = F.fates;
    runs = F.runs;
    records = record {
      rising = rw same F.records.rising;
      received = of_index (λ (j : ℕ). In j r.received) F.records.received;
      from_base_on = λ i l t. rw same (F.records.from_base_on i l t);
      confirmed_before = each_set (λ (x : Held). x.confirmed ≡ true → x.index < a.base) a.records p x (λ e. before) F.records.confirmed_before;
      within_window = of_index (λ (j : ℕ). j < a.base + window) F.records.within_window;
      most = rw (length-set a.records p x) F.records.most;
      floor = of_index (λ (j : ℕ). a.base ≤ j + h) F.records.floor;
    };
    span = λ j f t u. F.span j f (rw same at t) (rw same at u);
  }
    where
      x : Held
      x = delivered_i (get_or a.records p no_held)

      same : indexes (set a.records p x) ≡ indexes a.records
      same = map-set_same (λ (y : Held). y.index) a.records p x no_held refl

      -- what is said of a record's index
      of_index : (P : ℕ → Type 0) → Each (λ (y : Held). P y.index) a.records → Each (λ (y : Held). P y.index) (set a.records p x)
      of_index P e = each_set (λ (y : Held). P y.index) a.records p x (each_at (λ (y : Held). P y.index) a.records p no_held inside e) e

-- ---- what a status lets go

-- a packet lies before the first of runs, if there is one
abbrev pub BeforeFirst : List Gap → ℕ → Type 0
BeforeFirst [] j = Unit
BeforeFirst (g ∷ gs) j = j < g.from

-- a packet lies past the first of runs
abbrev pub PastFirst : List Gap → ℕ → Type 0
PastFirst [] j = ⊥
PastFirst (g ∷ gs) j = g.to ≤ j

-- how many of the lost are told when it has carried its runs
abbrev pub told_after : Indexed → ℕ → ℕ
told_after a told = told + length (packets_of (take most_ranges a.runs))

-- a record that may go is confirmed and lies before the first run left out
may_go_lem : (gs : List Gap) (x : Held) → may_go_i gs x ≡ true → (x.confirmed ≡ true) × BeforeFirst gs x.index
may_go_lem [] x e = (e, tt)
may_go_lem (g ∷ gs) x e = let both = and_true x.confirmed (ltb x.index g.from) e in (both.0, ltb-true x.index g.from both.1)

-- every record let go is confirmed and lies before the first run left out
pub let_go : (a : Indexed) → Each (λ (x : Held). (x.confirmed ≡ true) × BeforeFirst (drop most_ranges a.runs) x.index) (take (let_go_i a) a.records)
let_go a =
    each_so (take (let_go_i a) a.records) (may_go_lem (drop most_ranges a.runs)) (each_run (may_go_i (drop most_ranges a.runs)) a.records)

module _ {h : ℕ} {a : Indexed} {r : Fates} {told : ℕ} (F : Follows h a r told) where
  -- the records let go lie before base
  let_go_before : (j : ℕ) → In j (take (let_go_i a) (indexes a.records)) → j < a.base
  let_go_before j t =
      each_in (λ (x : Held). x.index) (λ (i : ℕ). i < a.base) (take (let_go_i a) a.records)
      (each_so (take (let_go_i a) a.records) (λ x w. w.0 w.1.0)
      (each_both (λ (x : Held). x.confirmed ≡ true → x.index < a.base)
      (λ (x : Held). (x.confirmed ≡ true) × BeforeFirst (drop most_ranges a.runs) x.index)
      (take (let_go_i a) a.records)
      (each_take (λ (x : Held). x.confirmed ≡ true → x.index < a.base) (let_go_i a) a.records F.records.confirmed_before)
      (let_go a)))
      j (rw (map_take (λ (x : Held). x.index) (let_go_i a) a.records) at t)

  -- ---- the runs that it carries, and those left out

  -- they hold what was to be told
  pub parts : packets_of (take most_ranges a.runs) ++ packets_of (drop most_ranges a.runs) ≡ drop told r.lost
  parts = sym (packets_of_append (take most_ranges a.runs) (drop most_ranges a.runs)) ∙ ap packets_of (take-append-drop most_ranges a.runs) ∙ F.runs.hold

  pub left_out_lem : packets_of (drop most_ranges a.runs) ≡ drop (told_after a told) r.lost
  left_out_lem =
      let carried = packets_of (take most_ranges a.runs) in
      sym (sym (drop-drop (length carried) told r.lost) ∙ ap (drop (length carried)) (sym parts) ∙ drop-append_seam carried (packets_of (drop most_ranges a.runs)))

  pub told_then : told_after a told ≤ length r.lost
  told_then =
      let e = ap length parts in
      let f = length-append (packets_of (take most_ranges a.runs)) (packets_of (drop most_ranges a.runs)) in
      let g = length-drop told r.lost in
      omega (arith, e, f, g, F.runs.told_most)

  pub follows_status : (final : Bool) → Follows h (reported_i a final) r (told_after a told)
  follows_status final = record {
    fates = F.fates;
    runs = record {
      hold = left_out_lem;
      told_most = told_then;
      maximal = maximal_drop most_ranges a.runs F.runs.maximal;
      before = each_drop _ most_ranges a.runs F.runs.before;
      most = rw (length-drop most_ranges a.runs) (omega (arith, F.runs.most));
      floor = each_drop _ most_ranges a.runs F.runs.floor;
    };
    records = record {
      rising = rw indexes_are (rising_drop k (indexes a.records) F.records.rising);
      received = each_drop _ k a.records F.records.received;
      from_base_on = λ i l t.
          rw indexes_are
          (⊎_elim (λ u. absurd (omega (arith, let_go_before i u))) (λ u. u) (in_split i k (indexes a.records) (F.records.from_base_on i l t)));
      confirmed_before = each_drop _ k a.records F.records.confirmed_before;
      within_window = each_drop _ k a.records F.records.within_window;
      most = rw (length-drop k a.records) (omega (arith, F.records.most));
      floor = each_drop _ k a.records F.records.floor;
    };
    span = λ j f t u. F.span j f (kept_record j t) (kept_mark f (in_marks (reported_i a final) f u));
  }
    where
      k : ℕ
      k = let_go_i a

      indexes_are : indexes (drop k a.records) ≡ drop k (indexes a.records)
      indexes_are = sym (map_drop (λ (x : Held). x.index) k a.records)

      kept_record : (j : ℕ) → In j (indexes (drop k a.records)) → In j (indexes a.records)
      kept_record j t = in_drop j k (indexes a.records) (rw indexes_are at t)

      kept_mark : (f : ℕ) → (f ≡ a.base) ⊎ (In f (froms (drop most_ranges a.runs)) ⊎ In f (indexes (drop k a.records))) → In f (marks a)
      kept_mark f (inl q) = subst (λ (x : ℕ). In x (marks a)) (sym q) (mark_base a)
      kept_mark f (inr (inl t)) = mark_run a f (in_drop f most_ranges (froms a.runs) (rw (map_drop (λ (g : Gap). g.from) most_ranges a.runs) t))
      kept_mark f (inr (inr t)) = mark_record a f (kept_record f t)

  -- the record that a status keeps first is unconfirmed, or lies past the first run left out
  pub let_go_ends : let_go_i a < length a.records
      → ((get_or a.records (let_go_i a) no_held).confirmed ≡ false) ⊎ PastFirst (drop most_ranges a.runs) (get_or a.records (let_go_i a) no_held).index
  let_go_ends l =
      stops (drop most_ranges a.runs) left_out_lem (get_or a.records (let_go_i a) no_held)
      (each_at (λ (x : Held). In x.index r.received) a.records (let_go_i a) no_held l F.records.received)
      (run_ends (may_go_i (drop most_ranges a.runs)) a.records no_held l)
    where
      -- a received packet is in no run
      past : (g : Gap) (gs : List Gap) → packets_of (g ∷ gs) ≡ drop (told_after a told) r.lost
          → (j : ℕ) → In j r.received → g.from ≤ j → g.to ≤ j
      past g gs e j got l =
          ⊎_elim
          (λ t. absurd (contrary (in_drop j (told_after a told) r.lost (rw e at (run_in g gs j l (ltb-true j g.to t)))) (F.fates.not_both j got)))
          (ltb-false j g.to) (tested (ltb j g.to))

      stops : (gs : List Gap) → packets_of gs ≡ drop (told_after a told) r.lost
          → (x : Held) → In x.index r.received → may_go_i gs x ≡ false → (x.confirmed ≡ false) ⊎ PastFirst gs x.index
      stops [] e x got f = inl f
      stops (g ∷ gs) e x got f =
          ⊎_elim (λ c. inr (past g gs e x.index got (ltb-false x.index g.from (rw c at f)))) (λ c. inl c) (tested x.confirmed)
