-- Every call on a master that calls reach is refused with the first number of document 01's table whose sentence holds, and accepted if none
-- does (specs/Refusals.antt).
-- Assumes nothing.
use Rattle.std.specs.Prelude.{if◌then◌else◌}
use mathlib.Core.Path.{◌≡◌, refl, sym, ◌∙◌, ap}
use mathlib.Core.Bool.{Bool, true, false, not}
use mathlib.Core.List.{List, [], ◌∷◌, ◌++◌}
use mathlib.Core.Logic.{inl, inr}
use Prim.Native.Nat.{ℕ, suc, ◌+◌, ◌^◌, ◌≤◌, ◌<◌}
use native.Mathlib.Omega.{arith}
use borrow.Author.Tests.{ltb-true, not-false}
use lib.Dec.{ltb, leb, eqb}
use lib.ListN.{length, take, drop, length-map}
use Rattle.basics.specs.Basics.{◌or◌, alike, refused, is_done}
use Rattle.basics.specs.Refusals.{Refusal, ◌when◌, Given}
use Rattle.basics.proofs.Choices.{contrary, and_true, never_done}
use Rattle.basics.proofs.Refusals.{Says, says_below, says_same, says_at_most, says_holds, says_and, says_not, says_as, says_past, says_more, says_not_both, given_of, given_append, refused_alike}
use Rattle.circle.specs.Lengths.{is_long, modulus_of, pdcps}
use Rattle.frame_layout.specs.Frames.{Range, Status, width, status_type, type_in, in_form, list_at, count_in, status_in, Reading, data_of, status_of, refuse, read_frame}
use Rattle.frame_layout.specs.Refusals.{read_refusals, answered}
use Rattle.frame_layout.specs.Trips.{AreOctets, Frame, data_frame, status_frame, reading_of}
use Rattle.frame_layout.proofs.Forms.{types_apart}
use Rattle.frame_layout.proofs.Octets.{ranges_at_in_form}
use Rattle.frame_layout.proofs.Read.{Read, as_data, as_status, frame_read}
use Rattle.frame_layout.proofs.Refusals.{reads_given}
use Rattle.bearer.specs.Bearer.{most_entries, most_size}
use Rattle.bearer.specs.Ledger.{Entry, Ledger, waits, follows, is_in_order, is_size, send, mark_lost, accept_reading, accept, take_at, take_from, take_oldest}
use Rattle.bearer.specs.Packets.{packets, Each}
use Rattle.bearer.specs.LedgerMeaning.{Books, LedgerReached, waiting_in, lost_in}
use Rattle.bearer.specs.Refusals.{NoSize, FollowsOldest, OutOfOrder, send_refusals, accept_refusals, take_refusals, MasterGiven}
use Rattle.bearer.proofs.Lists.Mapped.{each_so, each_of_all}
use Rattle.bearer.proofs.Lists.Lengths.{half_is}
use Rattle.bearer.proofs.Master.Marks.{waiting_of}
use Rattle.bearer.proofs.Master.Sound.{Oldest, none_waits, oldest_waits, the_oldest}
use Rattle.bearer.proofs.Master.LedgerMeans.{sound, counts_sum}
use Rattle.bearer.proofs.Master.GivenMarks.{answer_of, from33, marks_given}

-- ---- the tests say the sentences

-- a type is that of a status of one form
type_says : (a b : Bool) → Says (alike a b) (status_type a ≡ status_type b)
type_says true true = record { there = λ e. refl; back = λ q. refl }
type_says true false = record { there = λ e. absurd (contrary e refl); back = λ q. absurd (omega arith) }
type_says false true = record { there = λ e. absurd (contrary e refl); back = λ q. absurd (omega arith) }
type_says false false = record { there = λ e. refl; back = λ q. refl }

-- forms that are alike are the same
same_form : (a b : Bool) → not (alike a b) ≡ false → a ≡ b
same_form true b e = sym (not-false b e)
same_form false true e = absurd (contrary refl e)
same_form false false e = refl

module _ {L first f : ℕ} {l : Ledger ℕ} {b : Books} (x : LedgerReached L first f l b) where
  -- 9
  closed_says : Says l.closed (b.final ≡ true)
  closed_says = says_holds (sound x).figures.closed_is

  -- 10
  number_says : (p : ℕ) → Says (not (ltb p (pdcps l.bits))) (2 ^ L ≤ p)
  number_says p = rw (sound x).master.bits_are (says_past p (pdcps L))

  -- 39
  size_says : (z : ℕ) → Says (not (is_size z)) (NoSize z)
  size_says z = says_not_both (leb 1 z) (leb z most_size) (says_more 1 z) (says_more z most_size)

  -- 35
  order_says : (p : ℕ) → Says (not (is_in_order l p)) (OutOfOrder L f b (waiting_of l.entries) p)
  order_says p =
      let s = sound x in
      let differs : Says (not (eqb p l.highest)) (p ≡ b.highest → ⊥) = rw s.figures.highest_is (says_not (says_same p b.highest)) in
      says_not (says_and differs (from_oldest_lem (drop l.oldest l.entries) (waiting_of l.entries) (the_oldest s.master)))
    where
      -- with entries waiting the test is that of the oldest; with none it is none
      from_oldest_lem : (ds : List (Entry ℕ)) (ws : List ℕ) → Oldest b.sent ds ws → Says (follows l p ds) (FollowsOldest L f b ws p)
      from_oldest_lem ds ws none_waits = record { there = λ t. tt; back = λ t. refl }
      from_oldest_lem ds ws (oldest_waits e es is pdcp_is) =
          let s = sound x in
          rw (s.master.bits_are, s.figures.last_is, half_is L s.ok, pdcp_is) (says_and (says_below _ _) (says_below _ _))

  -- 36
  full_says : Says (leb most_entries (length l.entries)) (512 ≤ length (waiting_of l.entries) + length (packets (lost_in l.entries)))
  full_says =
      let n = counts_sum l.entries in
      let w = length-map (waiting_in l.entries) (λ (e : Entry ℕ). e.label) in
      let t = length-map (lost_in l.entries) (λ (e : Entry ℕ). e.label) in
      says_as (says_at_most most_entries (length l.entries)) (λ h. omega (arith, h, n, w, t)) (λ h. omega (arith, h, n, w, t))

  -- ---- sends

  module _ (p z : ℕ) where
    -- the order, from each number on
    abbrev from36 : List Refusal
    from36 = (36 when (512 ≤ length (waiting_of l.entries) + length (packets (lost_in l.entries)))) ∷ []

    abbrev from35 : List Refusal
    from35 = (35 when OutOfOrder L f b (waiting_of l.entries) p) ∷ from36

    abbrev from39 : List Refusal
    from39 = (39 when NoSize z) ∷ from35

    abbrev from10 : List Refusal
    from10 = (10 when (2 ^ L ≤ p)) ∷ from39

    -- 9, 10, 39, 35, 36, or accepted
    send_given : Given (send_refusals L f b (waiting_of l.entries) (packets (lost_in l.entries)) p z) (send l p z (length b.sent)).answer
    send_given =
        given_of answer_of l.closed 9 from10 _ _ closed_says refl λ _.
        given_of answer_of (not (ltb p (pdcps l.bits))) 10 from39 _ _ (number_says p) refl λ _.
        given_of answer_of (not (is_size z)) 39 from35 _ _ (size_says z) refl λ _.
        given_of answer_of (not (is_in_order l p)) 35 from36 _ _ (order_says p) refl λ _.
        given_of answer_of (leb most_entries (length l.entries)) 36 [] _ _ full_says refl λ _.
        refl

  -- ---- accepting a status

  -- 32
  most_says : (h : ℕ) → Says (leb (pdcps l.bits) h) (2 ^ L ≤ h)
  most_says h = rw (sound x).master.bits_are (says_at_most (pdcps L) h)

  module _ (o : List ℕ) (octets : AreOctets o) where
    -- the status that stands in them, of the bearer's form
    abbrev in_frame : Status
    in_frame = status_in (is_long L) o

    -- its ranges end at numbers below M
    ends_below : Each (λ (r : Range). r.end < modulus_of L) in_frame.ranges
    ends_below =
        each_so in_frame.ranges (λ r t. ltb-true r.end (modulus_of L) (and_true (ltb r.start (modulus_of L)) (ltb r.end (modulus_of L)) t).1)
        (each_of_all (in_form (is_long L)) in_frame.ranges (ranges_at_in_form (is_long L) o (list_at (width (is_long L))) (count_in o (width (is_long L))) octets))

    -- the order, from 32 and from 31 on
    abbrev from32 : List Refusal
    from32 = (32 when (2 ^ L ≤ in_frame.highest)) ∷ from33 x in_frame ends_below

    abbrev from31 : List Refusal
    from31 = (31 when (type_in o ≡ status_type (is_long L) → ⊥)) ∷ from32

    -- a frame that was read: 31, 32, 33, 34, or accepted
    frame_given : (g : Frame) → Read o g → Given from31 (accept_reading l (reading_of g)).answer
    frame_given g (as_data long t) = inl ((λ e. types_apart (is_long L) long (sym e ∙ t)), refl)
    frame_given g (as_status long t fits) =
        given_of answer_of (not (alike long (is_long l.bits))) 31 from32 _ _ form_says refl λ u.
        rw (same_form long (is_long l.bits) u ∙ ap is_long (sound x).master.bits_are)
        (given_of answer_of (leb (pdcps l.bits) in_frame.highest) 32 (from33 x in_frame ends_below) _ _ (most_says in_frame.highest) refl λ _.
        marks_given x in_frame ends_below (mark_lost l.bits l.entries in_frame.ranges) refl)
      where
        form_says : Says (not (alike long (is_long l.bits))) (type_in o ≡ status_type (is_long L) → ⊥)
        form_says = rw ((sound x).master.bits_are, t) (says_not (type_says long (is_long L)))

    -- what is refused as a frame is refused so here
    frame_refused : (r : Reading) (n : ℕ) → answered r ≡ refused n → (accept_reading l r).answer ≡ refused n
    frame_refused (data_of long m) n e = never_done n tt (sym e)
    frame_refused (status_of s) n e = never_done n tt (sym e)
    frame_refused (refuse m) n e = refused_alike m n e

    -- and what is read is judged as a frame
    frame_read_given : (r : Reading) → read_frame o ≡ r → is_done (answered r) ≡ true → Given from31 (accept_reading l r).answer
    frame_read_given (data_of long m) q d = frame_given (data_frame long m) (frame_read o (data_frame long m) q).1
    frame_read_given (status_of s) q d = frame_given (status_frame s) (frame_read o (status_frame s) q).1
    frame_read_given (refuse n) q d = absurd (contrary d refl)

    -- 9, 1 to 6, 31, 32, 33, 34, or accepted
    accept_given : Given (accept_refusals L first b (waiting_of l.entries) o) (accept l o).answer
    accept_given =
        given_of answer_of l.closed 9 (read_refusals o ++ from31) _ _ closed_says refl λ _.
        given_append (read_refusals o) from31 (reads_given o) (frame_refused (read_frame o)) (frame_read_given (read_frame o) refl)

-- ---- take

-- 38, of entries: no lost one, and once closed no waiting one either
abbrev Nothing : Bool → List (Entry ℕ) → Type 0
Nothing c es = (packets (lost_in es) ≡ []) × (c ≡ true → waiting_of es ≡ [])

-- no list with an element is empty
not_empty : {A P : Type 0} (y : A) (ys : List A) → y ∷ ys ≡ [] → P
not_empty y ys q = absurd (let z : ◌≡◌ {A = ℕ} 0 1 = cc in omega arith)

-- where nothing stands from the place of a take on, there is nothing to take
nothing_there : (c : Bool) (es : List (Entry ℕ)) → drop (take_at c es) es ≡ [] → Nothing c es
nothing_there c [] q = (refl, λ k. refl)
nothing_there c (e ∷ es) q = go c (waits e) q (nothing_there c es)
  where
    go : (c w : Bool) → drop (if c or not w then 0 else suc (take_at c es)) (e ∷ es) ≡ [] → (drop (take_at c es) es ≡ [] → Nothing c es)
        → (packets (if w then lost_in es else e ∷ lost_in es) ≡ []) × (c ≡ true → packets (if w then e ∷ waiting_in es else waiting_in es) ≡ [])
    go true w q rest = not_empty e es q
    go false false q rest = not_empty e es q
    go false true q rest = ((rest q).0, λ k. absurd (contrary k refl))

-- and the other way round
there_nothing : (c : Bool) (es : List (Entry ℕ)) → Nothing c es → drop (take_at c es) es ≡ []
there_nothing c [] n = refl
there_nothing c (e ∷ es) n = go c (waits e) n (there_nothing c es)
  where
    go : (c w : Bool) → (packets (if w then lost_in es else e ∷ lost_in es) ≡ []) × (c ≡ true → packets (if w then e ∷ waiting_in es else waiting_in es) ≡ [])
        → (Nothing c es → drop (take_at c es) es ≡ []) → drop (if c or not w then 0 else suc (take_at c es)) (e ∷ es) ≡ []
    go c false n rest = not_empty e.label (packets (lost_in es)) n.0
    go true true n rest = not_empty e.label (waiting_of es) (n.1 refl)
    go false true n rest = rest (n.0, λ k. absurd (contrary k refl))

-- 38, or accepted
take_given : {L first f : ℕ} {l : Ledger ℕ} {b : Books} → LedgerReached L first f l b
    → Given (take_refusals b (waiting_of l.entries) (packets (lost_in l.entries))) (take_oldest l).answer
take_given {l = l} {b} x = rw (← (sound x).figures.closed_is) (go (drop (take_at l.closed l.entries) l.entries) refl)
  where
    go : (rest : List (Entry ℕ)) → drop (take_at l.closed l.entries) l.entries ≡ rest
        → Given ((38 when Nothing l.closed l.entries) ∷ []) (take_from l (take (take_at l.closed l.entries) l.entries) rest).answer
    go [] q = inl (nothing_there l.closed l.entries q, refl)
    go (e ∷ es) q = inr ((λ n. not_empty e es (sym q ∙ there_nothing l.closed l.entries n)), refl)

-- ---- the master

-- every call on a master that calls reach
pub master_given : MasterGiven
master_given L first f l b x = record { sends = send_given x; accepts = accept_given x; takes = take_given x }
