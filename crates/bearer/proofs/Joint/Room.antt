-- Why the secondary gives none of 13, 14 and 15 while both ends are joined: whatever it holds and lists, and what arrives, waits at the master,
-- which holds at most 512 (14, 15), and from any that waits on at most half the PDCP numbers were sent, which are no more than M/2 (13).
-- Assumes nothing.
use mathlib.Core.Path.{◌≡◌, ◌∙◌}
use mathlib.Core.Bool.{true, false}
use mathlib.Core.List.{List, [], ◌∷◌}
use mathlib.Core.Logic.{◌⊎◌, inl, inr, ⊎_elim}
use Prim.Native.Nat.{ℕ, ◌+◌, ◌≤◌, ◌<◌}
use native.Mathlib.Omega.{arith}
use lib.ListN.{length, drop, length-map}
use Rattle.basics.proofs.Lists.{inserted, length_inserted}
use Rattle.circle.specs.Lengths.{is_length, half}
use Rattle.bearer.specs.Bearer.{most_runs, most_records, most_entries}
use Rattle.bearer.specs.Losses.{Gap}
use Rattle.bearer.specs.Keeper.{limit_of}
use Rattle.bearer.specs.Rule.{is_in, is_open}
use Rattle.bearer.specs.Packets.{In, Each}
use Rattle.bearer.specs.World.{World}
use Rattle.bearer.specs.Account.{Held, indexes, Maximal}
use Rattle.bearer.proofs.Lists.Mapped.{each_so}
use Rattle.bearer.proofs.Lists.Elements.{in_head, in_drop, in_each, each_in, rising_first, in_inserted, rising_inserted}
use Rattle.bearer.proofs.Secondary.Index.{Indexed, froms, first_back, floor_i, place_i, runs_after_i}
use Rattle.bearer.proofs.Secondary.Open.{open_is}
use Rattle.bearer.proofs.Secondary.Runs.{starts_in, maximal_rising, each_with_runs, maximal_with_runs}
use Rattle.bearer.proofs.Secondary.Follows.{recorded, not_lost}
use Rattle.bearer.proofs.Secondary.GivenUp.{lost_gaps, lost_gaps_from, lost_gaps_below, lost_gaps_maximal}
use Rattle.bearer.proofs.Master.Marks.{waiting_of}
use Rattle.bearer.proofs.Joint.Joined.{Joint}
use Rattle.bearer.proofs.Joint.Delivery.{base_sent}
use Rattle.bearer.proofs.Joint.Waiting.{runs_count, waits_unlost, waits_untold, waits_held, at_most, sent_most, sent_near}

-- ---- 14 isn't given

module _ {L first : ℕ} (ok : is_length L ≡ true) {w : World} (j : Joint L first w) (o : w.keeper.closed ≡ false) where
  abbrev a : Indexed
  a = j.second.a

  -- packets from base on were not lost, so they wait
  from_base_on : (y : ℕ) → a.base ≤ y → y < length w.sent → In y (waiting_of w.ledger.entries)
  from_base_on y h k = waits_unlost ok j o y (let c = j.second.cut_base in omega arith) k (not_lost j.second.follows y h)

  -- and at most 512 of them were sent
  pub base_near : length w.sent ≤ a.base + most_entries
  base_near = sent_most ok j o a.base from_base_on

  -- a listed run's first packet is still to be told
  run_untold : (f : ℕ) → In f (froms a.runs) → In f (drop j.second.told w.fates.lost)
  run_untold f p = rw (← j.second.follows.runs.hold) (starts_in a.runs j.second.follows.runs.maximal f p)

  -- from the first of the runs on all packets wait, so the runs are few
  pub few_runs : (l : ℕ) → a.base + l ≤ length w.sent → length (runs_after_i a l) ≤ most_runs
  few_runs l h =
      let F = j.second.follows in
      let news = lost_gaps a l in
      by (runs_after_i a l)
      (maximal_with_runs a.base a.runs news F.runs.maximal (lost_gaps_maximal F l) F.runs.before (lost_gaps_from F l))
      -- a run starts at a loss still to be told, or from base on
      (each_in (λ (g : Gap). g.from) (λ (f : ℕ). In f (froms a.runs) ⊎ (a.base ≤ f)) (runs_after_i a l)
      (each_with_runs (λ (g : Gap). In g.from (froms a.runs) ⊎ (a.base ≤ g.from)) (λ x y t u. t) a.runs news
      (in_each (λ (g : Gap). g.from) (λ (f : ℕ). In f (froms a.runs) ⊎ (a.base ≤ f)) a.runs (λ f t. inl t))
      (each_so news (λ g u. inr u) (lost_gaps_from F l))))
      (each_with_runs (λ (g : Gap). g.to ≤ length w.sent) (λ x y t u. u) a.runs news
      (each_so a.runs (λ g u. let b = base_sent j.second in omega arith) F.runs.before)
      (each_so news (λ g u. omega arith) (lost_gaps_below F l)))
    where
      by : (gs : List Gap) → Maximal gs → ((f : ℕ) → In f (froms gs) → In f (froms a.runs) ⊎ (a.base ≤ f)) → Each (λ (g : Gap). g.to ≤ length w.sent) gs → length gs ≤ most_runs
      by [] m s e = omega arith
      by (g ∷ gs) m s e =
          let near : length w.sent ≤ g.from + most_entries =
          sent_most ok j o g.from (λ y p q.
          ⊎_elim (λ t. waits_untold ok j o g.from y (run_untold g.from t) p q) (λ t. from_base_on y (omega arith) q) (s g.from (in_head g.from (froms gs))))
          in
          let c = runs_count g.from (length w.sent) (g ∷ gs) m (rising_first g.from (froms gs) (maximal_rising (g ∷ gs) m)) e in
          omega arith

-- ---- none is given to a packet that is open

module _ {L first : ℕ} (ok : is_length L ≡ true) {w : World} (j : Joint L first w) (o : w.keeper.closed ≡ false) (d : ℕ)
    (sent-it : j.second.a.base + d < length w.sent) (fresh : is_in (j.second.a.base + d) w.fates.received ≡ false) where
  -- the packet
  abbrev i : ℕ
  i = j.second.a.base + d

  -- 13: base, what is listed and what has a record wait, so from each of them on at most half the numbers were sent
  pub floor_near : floor_i j.second.a + d < half L
  floor_near =
      let runs = back (froms j.second.a.runs) (λ x p. waits_untold ok j o x x (run_untold ok j o x p) (omega arith) (lost_sent x (run_untold ok j o x p))) in
      let recs = back (indexes j.second.a.records) (waits_held ok j o) in
      omega arith
    where
      lost_sent : (x : ℕ) → In x (drop j.second.told w.fates.lost) → x < length w.sent
      lost_sent x p = j.second.were_sent.lost x (in_drop x j.second.told w.fates.lost p)

      -- base waits
      near : d < half L
      near = let n = sent_near ok j o j.second.a.base (from_base_on ok j o j.second.a.base (omega arith) (omega arith)) in omega arith

      -- the first of packets that wait lies less than half the numbers behind the packet
      back : (xs : List ℕ) → ((x : ℕ) → In x xs → In x (waiting_of w.ledger.entries)) → first_back j.second.a.base xs + d < half L
      back [] f = omega (arith, near)
      back (x ∷ xs) f = let n = sent_near ok j o x (f x (in_head x xs)) in omega (arith, near)

  -- 14
  pub runs_near : length (runs_after_i j.second.a (limit_of d)) ≤ most_runs
  runs_near = few_runs ok j o (limit_of d) (omega arith)

  -- 15: the packet and all that have records wait at the master
  pub records_near : length j.second.a.records < most_records
  records_near =
      let s = j.second in
      let xs = indexes s.a.records in
      let p = place_i s.a i in
      let most =
      at_most ok j o (inserted p i xs) (rising_inserted i xs s.follows.records.rising (recorded s.follows i (omega arith) ∙ fresh)) (λ x q.
      ⊎_elim
      (λ e. rw e (from_base_on ok j o i (omega arith) sent-it))
      (waits_held ok j o x)
      (in_inserted x p i xs q))
      in
      let one = length_inserted p i xs in
      let same = length-map s.a.records (λ (h : Held). h.index) in
      omega (arith, most, one, same)

  pub was_open : is_open w.fates i ≡ true
  was_open = open_is w.fates i fresh (not_lost j.second.follows i (omega arith))
