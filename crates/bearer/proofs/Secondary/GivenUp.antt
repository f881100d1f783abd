-- What arrival and expiry share: all open packets below base + l are declared lost, and base moves past them. `Receives` says
-- what such a call received, `Advances` where base comes to stand and `Records` which records there are; the state then follows
-- the fates (`follows_step`).
-- Assumes nothing.
use mathlib.Core.Path.{◌≡◌, sym, ◌∙◌, ap}
use mathlib.Core.Bool.{true, false, not}
use mathlib.Core.List.{List, [], ◌∷◌, ◌++◌, map, map-append}
use mathlib.Core.Logic.{◌⊎◌, inl, inr, ⊎_elim}
use Prim.Native.Nat.{ℕ, suc, ◌+◌, ◌-◌, ◌≤◌, ◌<◌}
use native.Mathlib.Nat.{add-zero}
use native.Mathlib.Omega.{arith}
use borrow.Author.Tests.{ltb-true, ltb-false}
use lib.Dec.{ltb}
use lib.ListN.{length, drop, length-append}
use lib.Seq.{drop-append-le}
use Rattle.basics.proofs.Choices.{tested, refuted, contrary, same_test, and_yes}
use Rattle.bearer.specs.Bearer.{window, most_runs, most_records}
use Rattle.bearer.specs.Losses.{Gap, gaps, size_of, lowest}
use Rattle.bearer.specs.Rule.{Fates, is_in, is_open, only, open_below, declare, Lowest}
use Rattle.bearer.specs.Packets.{In, Rising, Each}
use Rattle.bearer.specs.Account.{Held, packets_from, packets_of, Maximal, runs_in, indexes}
use Rattle.bearer.proofs.Lists.Mapped.{each_so, Below, gaps_below}
use Rattle.bearer.proofs.Lists.Elements.{in_left, in_right, in_append, in_last, in_drop, each_in, in_each, rising_append, rising_drop, front, from_front, behind_front}
use Rattle.bearer.proofs.Lists.Rows.{in_packets, packets_in, rising_packets}
use Rattle.bearer.proofs.Secondary.Index.{Indexed, ◌with_base◌, ◌with_runs◌, ◌with_records◌, froms, past_base, above_i, given_up_i, gap_at, runs_after_i, base_after_i, raised_base_i}
use Rattle.bearer.proofs.Secondary.Open.{open_is, open_unreceived, received_closed, lost_closed, closed, only_alike, in_only, only_in, rising_only, open_from}
use Rattle.bearer.proofs.Secondary.Gaps.{gaps_shift, lowest_shift, size_packets, gaps_packets, least}
use Rattle.bearer.proofs.Secondary.Runs.{gaps_from, gaps_maximal, each_with_runs, packets_with_runs, maximal_with_runs}
use Rattle.bearer.proofs.Secondary.RunsIn.{runs_of_packets}
use Rattle.bearer.proofs.Secondary.Follows.{marks, mark_base, mark_run, in_marks, Follows, record_received, not_lost}

-- the packets with records from base on
abbrev pub above : Indexed → List ℕ
above a = drop (front a.base (indexes a.records)) (indexes a.records)

-- the gaps that are given up below base + l
abbrev pub lost_gaps : Indexed → ℕ → List Gap
lost_gaps a l = map (gap_at a.base) (given_up_i a l)

-- one of the marks, or from base on
abbrev pub Marked : Indexed → ℕ → Type 0
Marked a f = In f (marks a) ⊎ (a.base ≤ f)

-- the fates when got are received
abbrev pub having : Fates → List ℕ → Fates
having r got = record { received = got; lost = r.lost }

-- a call after which got are received, and by which each open packet below n is declared lost
pub record Receives (a : Indexed) (r : Fates) (got : List ℕ) (l n : ℕ) : Type 0 where
  -- what was received still is, and nothing lost is
  pub still : (j : ℕ) → In j r.received → In j got
  pub kept : (j : ℕ) → In j got → is_in j r.lost ≡ false
  -- of those below base + l only packets with records are received
  pub here : (j : ℕ) → a.base ≤ j → j < a.base + l → In j got → In j (indexes a.records)
  pub bound : n - a.base ≡ l

-- base comes to stand at b: the first from base + l on that is not received, at most half the circle past floor
pub record Advances (h : ℕ) (a : Indexed) (got : List ℕ) (l b : ℕ) : Type 0 where
  pub past : a.base + l ≤ b
  pub between : (j : ℕ) → a.base + l ≤ j → j < b → In j got
  pub free : is_in b got ≡ false
  pub reach : (f : ℕ) → In f (marks a) → b ≤ f + h

-- the records are xs: of the packets got, each of those from base on, none of them 256 or more past base + l, and each less
-- than half the circle past floor
pub record Records (h : ℕ) (a : Indexed) (got : List ℕ) (l : ℕ) (xs : List Held) : Type 0 where
  pub rising : Rising (indexes xs)
  pub received : Each (λ (x : Held). In x.index got) xs
  pub every : (j : ℕ) → a.base ≤ j → In j got → In j (indexes xs)
  pub confirmed : Each (λ (x : Held). x.confirmed ≡ true → x.index < a.base) xs
  pub near : Each (λ (x : Held). x.index < a.base + l + window) xs
  pub most : length xs ≤ most_records
  pub marked : (j : ℕ) → In j (indexes xs) → Marked a j
  pub span : (j f : ℕ) → In j (indexes xs) → In f (marks a) → j < f + h

-- the packets xs are received, and from c on no others
pub advances : {h : ℕ} {a : Indexed} {got : List ℕ} {l : ℕ} (c : ℕ) (xs : List ℕ) → Rising xs → a.base + l ≤ c
    → ((j : ℕ) → a.base + l ≤ j → j < c → In j got) → ((j : ℕ) → In j xs → In j got) → ((j : ℕ) → c ≤ j → In j got → In j xs)
    → ((f : ℕ) → In f (marks a) → c ≤ f + h) → ((j f : ℕ) → In j xs → In f (marks a) → j < f + h)
    → Advances h a got l (lowest c xs)
advances {h} {got = got} c xs r past below sub sup near span =
    let m = least c xs r in
    record {
      past = omega (arith, m.from);
      between = λ j g k. ⊎_elim (λ e. below j g (ltb-true j c e)) (λ e. sub j (m.between j (ltb-false j c e) k)) (tested (ltb j c));
      free = refuted (is_in (lowest c xs) got) (λ t. contrary (sup (lowest c xs) m.from t) m.free);
      reach = λ f t. ⊎_elim (λ e. omega (arith, ltb-true c (lowest c xs) e, span (lowest c xs - 1) f (m.between (lowest c xs - 1) (omega (arith, ltb-true c (lowest c xs) e)) (omega (arith, ltb-true c (lowest c xs) e))) t))
          (λ e. omega (arith, ltb-false c (lowest c xs) e, near f t)) (tested (ltb c (lowest c xs)));
    }

-- how many are lost when gaps are given up
pub lost_count : (b : ℕ) (ls : List ℕ) (gs : List Gap) → length (ls ++ packets_of (map (gap_at b) gs)) ≡ length ls + size_of gs
lost_count b ls gs = rw (size_packets b gs) (length-append ls (packets_of (map (gap_at b) gs)))

module _ {h : ℕ} {a : Indexed} {r : Fates} {told : ℕ} (F : Follows h a r told) where
  pub above_rising : Rising (above a)
  above_rising = rising_drop (front a.base (indexes a.records)) (indexes a.records) F.records.rising

  pub in_above : (j : ℕ) → a.base ≤ j → In j (indexes a.records) → In j (above a)
  in_above j l t = behind_front a.base (indexes a.records) F.records.rising j l t

  pub above_in : (j : ℕ) → In j (above a) → In j (indexes a.records)
  above_in j t = in_drop j (front a.base (indexes a.records)) (indexes a.records) t

  pub above_from : (j : ℕ) → In j (above a) → a.base ≤ j
  above_from j t = from_front a.base (indexes a.records) j t

  lost_gaps_are : (l : ℕ) → lost_gaps a l ≡ gaps a.base (a.base + l) (above a)
  lost_gaps_are l = gaps_shift a.base 0 l (above a) above_from ∙ rw (add-zero a.base)

  pub lost_gaps_from : (l : ℕ) → Each (λ (g : Gap). a.base ≤ g.from) (lost_gaps a l)
  lost_gaps_from l = rw (lost_gaps_are l) (gaps_from a.base (a.base + l) (above a) above_rising above_from)

  pub lost_gaps_below : (l : ℕ) → Each (Below (a.base + l)) (lost_gaps a l)
  lost_gaps_below l = rw (lost_gaps_are l) (gaps_below a.base (a.base + l) (above a))

  pub lost_gaps_maximal : (l : ℕ) → Maximal (lost_gaps a l)
  lost_gaps_maximal l = rw (lost_gaps_are l) (gaps_maximal a.base (a.base + l) (above a) above_rising above_from)

  -- where base comes to stand when all below base + l is given up
  pub base_after_lowest : (l : ℕ) → base_after_i a l ≡ lowest (a.base + l) (above a)
  base_after_lowest l = lowest_shift a.base l (above a) above_from

  -- ... and base + t has a record
  pub raised_base_lowest : (l t : ℕ) → raised_base_i a l t ≡ lowest (a.base + l) (above a ++ ((a.base + t) ∷ []))
  raised_base_lowest l t =
      let e : a.base + t - a.base ≡ t = omega arith in
      let shifted : past_base a.base (above a ++ ((a.base + t) ∷ [])) ≡ above_i a ++ (t ∷ []) =
      map-append (λ (j : ℕ). j - a.base) (above a) ((a.base + t) ∷ []) ∙ rw e in
      ap (λ (xs : List ℕ). a.base + lowest l xs) (sym shifted)
      ∙ lowest_shift a.base l (above a ++ ((a.base + t) ∷ []))
      (λ j u. ⊎_elim (above_from j) (λ q. omega arith) (in_last j (above a) (a.base + t) u))

  -- a bound that floor keeps is kept by all that lies from base on
  pub from_marks : (x : ℕ) → ((f : ℕ) → In f (marks a) → x ≤ f + h) → (f : ℕ) → Marked a f → x ≤ f + h
  from_marks x k f (inl t) = k f t
  from_marks x k f (inr l) = let g : x ≤ a.base + h = k a.base (mark_base a) in omega arith

  module _ {got : List ℕ} {l n b : ℕ} (R : Receives a r got l n) (A : Advances h a got l b) where
    -- ---- what is declared lost

    none_below : (j : ℕ) → j < a.base → is_open (having r got) j ≡ false
    none_below j g =
        ⊎_elim (λ p. received_closed (having r got) j (R.still j p)) (λ q. lost_closed (having r got) j q) (closed r j (F.fates.lowest.none_below j g))

    open_here : (j : ℕ) → a.base ≤ j → j < a.base + l → is_open (having r got) j ≡ not (is_in j (above a))
    open_here j g k =
        let same : is_in j got ≡ is_in j (above a) =
        same_test (is_in j got) (is_in j (above a)) (λ t. in_above j g (R.here j g k t)) (λ t. R.still j (record_received F j (above_in j t))) in
        rw (not_lost F j g, same) (and_yes (not (is_in j (above a))))

    declared_is : open_below (having r got) n ≡ only (is_open (having r got)) (packets_from a.base l)
    declared_is = open_from (having r got) a.base n none_below ∙ rw R.bound

    -- the packets declared lost are those of the gaps
    pub declared : open_below (having r got) n ≡ packets_of (lost_gaps a l)
    declared =
        let e : a.base + l - a.base ≡ l = omega arith in
        declared_is
        ∙ only_alike (is_open (having r got)) (λ (i : ℕ). not (is_in i (above a))) (packets_from a.base l)
        (λ i t. let w = in_packets a.base l i t in open_here i w.0 w.1)
        ∙ sym (ap packets_of (lost_gaps_are l) ∙ gaps_packets a.base (a.base + l) (above a) above_rising above_from ∙ rw e)

    in_declared : (j : ℕ) → In j (open_below (having r got) n) → (a.base ≤ j) × (j < a.base + l) × (is_open (having r got) j ≡ true)
    in_declared j t =
        let o = in_only (is_open (having r got)) (packets_from a.base l) j (rw declared_is at t) in
        let w = in_packets a.base l j o.0 in
        (w.0, w.1, o.1)

    declared_in : (j : ℕ) → a.base ≤ j → j < a.base + l → is_open (having r got) j ≡ true → In j (open_below (having r got) n)
    declared_in j g k o = rw declared_is (only_in (is_open (having r got)) (packets_from a.base l) j (packets_in a.base l j g k) o)

    -- ---- the fates then

    in_lost : (j : ℕ) → In j (declare (having r got) n).lost → In j r.lost ⊎ In j (open_below (having r got) n)
    in_lost j t = in_append j r.lost (open_below (having r got) n) t

    stays_closed : (j : ℕ) → is_open (having r got) j ≡ false → is_open (declare (having r got) n) j ≡ false
    stays_closed j o =
        ⊎_elim (received_closed (declare (having r got) n) j)
        (λ q. lost_closed (declare (having r got) n) j (in_left j r.lost (open_below (having r got) n) q))
        (closed (having r got) j o)

    closed_below : (j : ℕ) → a.base ≤ j → j < a.base + l → is_open (declare (having r got) n) j ≡ false
    closed_below j g k =
        ⊎_elim (λ o. lost_closed (declare (having r got) n) j (in_right j r.lost (open_below (having r got) n) (declared_in j g k o))) (stays_closed j)
        (tested (is_open (having r got) j))

    step_lost_before : (j : ℕ) → In j (declare (having r got) n).lost → j < b
    step_lost_before j t =
        let p = A.past in
        ⊎_elim (λ u. omega (arith, F.fates.lost_before j u)) (λ u. omega (arith, (in_declared j u).1)) (in_lost j t)

    step_lowest : Lowest (declare (having r got) n) b
    step_lowest = record {
      open_itself = open_is (declare (having r got) n) b A.free (refuted (is_in b (declare (having r got) n).lost) (λ t. omega (arith, step_lost_before b t)));
      none_below = λ j g.
          ⊎_elim (λ e. stays_closed j (none_below j (ltb-true j a.base e)))
          (λ e. ⊎_elim (λ f. closed_below j (ltb-false j a.base e) (ltb-true j (a.base + l) f))
          (λ f. received_closed (declare (having r got) n) j (A.between j (ltb-false j (a.base + l) f) g))
          (tested (ltb j (a.base + l))))
          (tested (ltb j a.base));
    }

    step_not_both : (j : ℕ) → In j got → is_in j (declare (having r got) n).lost ≡ false
    step_not_both j t =
        refuted (is_in j (declare (having r got) n).lost)
        (λ u. ⊎_elim (λ q. contrary q (R.kept j t)) (λ q. contrary t (open_unreceived (having r got) j (in_declared j q).2)) (in_lost j u))

    step_lost_rising : Rising (declare (having r got) n).lost
    step_lost_rising =
        rising_append a.base r.lost (open_below (having r got) n) F.fates.lost_rising
        (rw declared_is (rising_only (is_open (having r got)) (packets_from a.base l) (rising_packets a.base l)))
        F.fates.lost_before (λ j t. (in_declared j t).0)

    -- ---- the listed runs then

    step_runs_hold : packets_of (runs_after_i a l) ≡ drop told (declare (having r got) n).lost
    step_runs_hold =
        packets_with_runs a.runs (lost_gaps a l) F.runs.maximal (lost_gaps_maximal l)
        ∙ rw (F.runs.hold, ← declared)
        (sym (drop-append-le told r.lost (open_below (having r got) n) F.runs.told_most))

    step_told_most : told ≤ length (declare (having r got) n).lost
    step_told_most = rw (length-append r.lost (open_below (having r got) n)) (omega (arith, F.runs.told_most))

    step_runs_maximal : Maximal (runs_after_i a l)
    step_runs_maximal =
        maximal_with_runs a.base a.runs (lost_gaps a l) F.runs.maximal (lost_gaps_maximal l) F.runs.before
        (lost_gaps_from l)

    -- they are the maximal runs of what is lost and unreported then
    pub step_listed : runs_in (drop told (declare (having r got) n).lost) ≡ runs_after_i a l
    step_listed = ap runs_in (sym step_runs_hold) ∙ runs_of_packets (runs_after_i a l) step_runs_maximal

    step_runs_before : Each (λ (g : Gap). g.to ≤ b) (runs_after_i a l)
    step_runs_before =
        let p = A.past in
        each_with_runs (λ (g : Gap). g.to ≤ b) (λ x y t u. u) a.runs (lost_gaps a l)
        (each_so a.runs (λ g w. omega arith) F.runs.before)
        (each_so (lost_gaps a l) (λ g w. omega arith) (lost_gaps_below l))

    -- the runs start where runs did, or from base on
    step_froms : (f : ℕ) → In f (froms (runs_after_i a l)) → Marked a f
    step_froms =
        each_in (λ (g : Gap). g.from) (Marked a) (runs_after_i a l)
        (each_with_runs (λ (g : Gap). Marked a g.from) (λ x y t u. t) a.runs (lost_gaps a l)
        (in_each (λ (g : Gap). g.from) (Marked a) a.runs (λ f t. inl (mark_run a f t)))
        (each_so (lost_gaps a l) (λ g w. inr w) (lost_gaps_from l)))

  -- the state after such a call follows the fates after it
  pub follows_step : {got : List ℕ} {l n b : ℕ} {xs : List Held} → Receives a r got l n → Advances h a got l b → Records h a got l xs
      → length (runs_after_i a l) ≤ most_runs
      → Follows h (a with_base b with_runs runs_after_i a l with_records xs) (declare (having r got) n) told
  follows_step {l = l} {b = b} {xs = xs} R A K few =
      let onward : a.base + l ≤ b = A.past in
      record {
        fates = record { lowest = step_lowest R A; not_both = step_not_both R A; lost_rising = step_lost_rising R A; lost_before = step_lost_before R A };
        runs = record {
          hold = step_runs_hold R A;
          told_most = step_told_most R A;
          maximal = step_runs_maximal R A;
          before = step_runs_before R A;
          most = few;
          floor = in_each (λ (g : Gap). g.from) (λ (f : ℕ). b ≤ f + h) (runs_after_i a l) (λ f t. from_marks b A.reach f (step_froms R A f t));
        };
        records = record {
          rising = K.rising;
          received = K.received;
          from_base_on = λ j g t. K.every j (omega arith) t;
          confirmed_before = each_so xs (λ x k e. omega (arith, k e)) K.confirmed;
          within_window = each_so xs (λ x k. omega arith) K.near;
          most = K.most;
          floor = in_each (λ (x : Held). x.index) (λ (f : ℕ). b ≤ f + h) xs (λ f t. from_marks b A.reach f (K.marked f t));
        };
        span = λ j f t u.
            from_marks (suc j) (λ g v. K.span j g t v) f
            (⊎_elim (λ q. inr (omega arith)) (⊎_elim (step_froms R A f) (K.marked f)) (in_marks (a with_base b with_runs runs_after_i a l with_records xs) f u));
      }
