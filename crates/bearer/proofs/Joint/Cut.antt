-- What a status lets go and leaves out, by packets: where the new cut lies, and what lies on either side of it.
-- Assumes nothing.
use mathlib.Core.Path.{◌≡◌, sym, ◌∙◌, ap}
use mathlib.Core.Bool.{true, false}
use mathlib.Core.List.{List, [], ◌∷◌, ◌++◌}
use mathlib.Core.Logic.{◌⊎◌, inl, inr, ⊎_elim}
use Prim.Native.Nat.{ℕ, zero, suc, ◌-◌, ◌≤◌, ◌<◌}
use native.Mathlib.Omega.{arith}
use lib.ListN.{length, get_or, take, drop, length-map, get_or-map}
use lib.Seq.{take-add, get_or-take, length-take-le, take-append_seam}
use Rattle.basics.proofs.Choices.{contrary, order}
use Rattle.basics.proofs.Lists.{map_take}
use Rattle.frame_layout.specs.Frames.{most_ranges}
use Rattle.bearer.specs.Losses.{Gap}
use Rattle.bearer.specs.Keeper.{Keeper}
use Rattle.bearer.specs.Rule.{Fates, is_in}
use Rattle.bearer.specs.Packets.{In, Each}
use Rattle.bearer.specs.Account.{Held, indexes, packets_of, Maximal}
use Rattle.bearer.proofs.Lists.Mapped.{each_so, each_take, each_at, each_both}
use Rattle.bearer.proofs.Lists.Elements.{in_left, in_right, in_take, in_drop, in_split, each_in, in_none, parts_apart, through, past_place, first_behind_lem, some_behind, run_within}
use Rattle.bearer.proofs.Lists.Rows.{run_in, runs_from}
use Rattle.bearer.proofs.Secondary.Index.{Indexed, no_held, may_go_i, let_go_i}
use Rattle.bearer.proofs.Secondary.Open.{closed}
use Rattle.bearer.proofs.Secondary.Runs.{maximal_first, maximal_drop}
use Rattle.bearer.proofs.Secondary.FollowsStatus.{BeforeFirst, PastFirst, told_after, let_go, let_go_ends, parts, left_out_lem}
use Rattle.bearer.proofs.Master.Pdcps.{pdcp_of}
use Rattle.bearer.proofs.Joint.Joined.{Second}

-- ---- the new cut

-- behind the last packet let go; the former one where none is
abbrev pub cut_after : Indexed → ℕ → ℕ → ℕ
cut_after a cut zero = cut
cut_after a cut (suc q) = suc (get_or a.records q no_held).index

module _ {L first : ℕ} {k : Keeper} {r : Fates} {sent confirmed : List ℕ} (s : Second L first k r sent confirmed) where
  -- the secondary's state, how many of the lost it told, and its cut
  abbrev a : Indexed
  a = s.a

  abbrev told : ℕ
  told = s.told

  abbrev cut : ℕ
  cut = s.cut

  -- the packets of the runs that it carries
  abbrev said : List ℕ
  said = packets_of (take most_ranges a.runs)

  -- the runs left out
  abbrev left : List Gap
  left = drop most_ranges a.runs

  pub told_now : take (told_after a told) r.lost ≡ take told r.lost ++ said
  told_now =
      take-add told (length said) r.lost
      ∙ ap (λ (l : List ℕ). take told r.lost ++ take (length said) l) (sym (parts s.follows))
      ∙ ap (λ (l : List ℕ). take told r.lost ++ l) (take-append_seam said (packets_of left))

  pub carried : said ≡ take (told_after a told - told) (drop told r.lost)
  carried =
      let e : told_after a told - told ≡ length said = omega arith in
      sym (ap (λ (n : ℕ). take n (drop told r.lost)) e ∙ ap (take (length said)) (sym (parts s.follows)) ∙ take-append_seam said (packets_of left))

  to_tell : drop (told_after a told) r.lost ≡ packets_of left
  to_tell = sym (left_out_lem s.follows)

  left_maximal : Maximal left
  left_maximal = maximal_drop most_ranges a.runs s.follows.runs.maximal

  -- ---- the last packet let go

  -- a packet before the first of runs lies before all that they hold
  before_runs : (gs : List Gap) → Maximal gs → (i : ℕ) → BeforeFirst gs i → (x : ℕ) → In x (packets_of gs) → i < x
  before_runs [] m i b x p = absurd (in_none p)
  before_runs (g ∷ gs) m i b x p = let c = runs_from g gs m x p in omega arith

  index_at : (q : ℕ) → get_or (indexes a.records) q 0 ≡ (get_or a.records q no_held).index
  index_at q = get_or-map (λ (h : Held). h.index) a.records q no_held

  last_goes : (q : ℕ) → let_go_i a ≡ suc q
      → (q < length a.records) × ((get_or a.records q no_held).confirmed ≡ true) × BeforeFirst left (get_or a.records q no_held).index
  last_goes q e =
      let most : suc q ≤ length a.records = rw e at (run_within (may_go_i left) a.records) in
      let there : get_or (take (suc q) a.records) q no_held ≡ get_or a.records q no_held = get_or-take (suc q) a.records q no_held (omega arith) in
      let long : q < length (take (suc q) a.records) = rw (length-take-le (suc q) a.records most) (omega arith) in
      let goes = each_at (λ (h : Held). (h.confirmed ≡ true) × BeforeFirst left h.index) (take (suc q) a.records) q no_held long (rw e at (let_go a)) in
      (most, rw there at goes.0, rw there at goes.1)

  -- it is below base, was sent, isn't lost, and isn't before the former cut
  pub record Last (q : ℕ) : Type 0 where
    pub within : q < length a.records
    pub below_base : (get_or a.records q no_held).index < a.base
    pub was_sent : (get_or a.records q no_held).index < length sent
    pub not_lost : is_in (get_or a.records q no_held).index r.lost ≡ false
    pub from_cut : cut ≤ (get_or a.records q no_held).index
    pub pdcp_is : (get_or a.records q no_held).pdcp ≡ pdcp_of sent (get_or a.records q no_held).index
    pub before_left : (x : ℕ) → In x (packets_of left) → (get_or a.records q no_held).index < x

  pub the_last : (q : ℕ) → let_go_i a ≡ suc q → Last q
  the_last q e =
      let g = last_goes q e in
      let got : In (get_or a.records q no_held).index r.received = each_at (λ (h : Held). In h.index r.received) a.records q no_held g.0 s.follows.records.received in
      record {
        within = g.0;
        below_base = each_at (λ (h : Held). h.confirmed ≡ true → h.index < a.base) a.records q no_held g.0 s.follows.records.confirmed_before g.1;
        was_sent = s.were_sent.received (get_or a.records q no_held).index got;
        not_lost = s.follows.fates.not_both (get_or a.records q no_held).index got;
        from_cut = each_at (λ (h : Held). cut ≤ h.index) a.records q no_held g.0 s.remembered.from_cut;
        pdcp_is = each_at (λ (h : Held). h.pdcp ≡ pdcp_of sent h.index) a.records q no_held g.0 s.numbered.records_are;
        before_left = before_runs left left_maximal (get_or a.records q no_held).index g.2;
      }

  -- ---- on either side of the new cut

  pub cut_onward : (n : ℕ) → let_go_i a ≡ n → cut ≤ cut_after a cut n
  cut_onward zero e = omega arith
  cut_onward (suc q) e = let l = the_last q e in let h = l.from_cut in omega arith

  pub cut_below_base : (n : ℕ) → let_go_i a ≡ n → cut_after a cut n ≤ a.base
  cut_below_base zero e = s.cut_base
  cut_below_base (suc q) e = (the_last q e).below_base

  -- what has a record and is let go lies before it, and what keeps its record doesn't
  pub gone_before : (n : ℕ) → let_go_i a ≡ n → (x : ℕ) → In x (take n (indexes a.records)) → x < cut_after a cut n
  gone_before zero e x p = absurd (in_none p)
  gone_before (suc q) e x p =
      let l = the_last q e in
      let h = through q (indexes a.records) x (rw (length-map a.records (λ (h : Held). h.index)) l.within) s.follows.records.rising p in
      let i = index_at q in
      omega (arith, h, i)

  pub kept_behind : (n : ℕ) → let_go_i a ≡ n → (x : ℕ) → In x (drop n (indexes a.records)) → cut_after a cut n ≤ x
  kept_behind zero e x p = each_in (λ (h : Held). h.index) (λ (x : ℕ). cut ≤ x) a.records s.remembered.from_cut x p
  kept_behind (suc q) e x p =
      let l = the_last q e in
      let h = past_place q (indexes a.records) x (rw (length-map a.records (λ (h : Held). h.index)) l.within) s.follows.records.rising p in
      let i = index_at q in
      omega (arith, h, i)

  -- what is still to be told lies from it on
  pub above_after : (n : ℕ) → let_go_i a ≡ n → (x : ℕ) → In x (drop (told_after a told) r.lost) → cut_after a cut n ≤ x
  above_after zero e x p =
      s.divides.above x (rw (← parts s.follows) (in_right x said (packets_of left) (rw to_tell at p)))
  above_after (suc q) e x p = (the_last q e).before_left x (rw to_tell at p)

  -- what lies before it was told or is confirmed
  pub below_after : (n : ℕ) → let_go_i a ≡ n → (i : ℕ) → i < cut_after a cut n → In i (take (told_after a told) r.lost) ⊎ In i confirmed
  below_after n e i h =
      ⊎_elim
      (λ (c : i < cut). ⊎_elim (λ p. inl (rw told_now (in_left i (take told r.lost) said p))) inr (s.divides.below i c))
      (λ (c : cut ≤ i).
      let b = cut_below_base n e in
      ⊎_elim (λ p. inr (confirmed_gone c p)) (λ p. inl (told_lost p))
      (closed r i (s.follows.fates.lowest.none_below i (omega arith))))
      (order i cut)
    where
      all_confirmed : Each (λ (h : Held). In h.index confirmed) (take (let_go_i a) a.records)
      all_confirmed =
          each_so (take (let_go_i a) a.records) (λ h b. b.0 b.1.0)
          (each_both (λ (h : Held). h.confirmed ≡ true → In h.index confirmed) (λ (h : Held). (h.confirmed ≡ true) × BeforeFirst left h.index) (take (let_go_i a) a.records)
          (each_take _ (let_go_i a) a.records s.marked.only) (let_go a))

      confirmed_gone : cut ≤ i → In i r.received → In i confirmed
      confirmed_gone c p =
          ⊎_elim (λ (q : i < cut). absurd (omega arith))
          (λ q. ⊎_elim
          (λ t. each_in (λ (h : Held). h.index) (λ (x : ℕ). In x confirmed) (take (let_go_i a) a.records) all_confirmed i (rw (← map_take (λ (h : Held). h.index) (let_go_i a) a.records) (rw e t)))
          (λ t. absurd (let z = kept_behind n e i t in omega arith))
          (in_split i n (indexes a.records) q))
          (s.remembered.held_or_gone i p)

      told_lost : In i r.lost → In i (take (told_after a told) r.lost)
      told_lost p =
          ⊎_elim (λ q. q) (λ q. absurd (let z = above_after n e i q in omega arith)) (in_split i (told_after a told) r.lost p)

  -- whoever was confirmed, with every predecessor confirmed or told, lies before it
  pub deserving_after : (n : ℕ) → let_go_i a ≡ n → (i : ℕ) → In i confirmed → ((j : ℕ) → j < i → In j confirmed ⊎ In j (take (told_after a told) r.lost)) → i < cut_after a cut n
  deserving_after n e i p f =
      ⊎_elim
      (λ (c : i < cut). let z = cut_onward n e in omega arith)
      (λ q. ⊎_elim (λ t. gone_before n e i t) (λ t. absurd (stuck t)) (in_split i n (indexes a.records) q))
      (s.remembered.held_or_gone i (s.marked.received i p))
    where
      -- a packet at most i that was received is confirmed
      is_confirmed : (y : ℕ) → y ≤ i → In y r.received → In y confirmed
      is_confirmed y h g =
          ⊎_elim
          (λ (l : y < i). ⊎_elim (λ t. t) (λ t. absurd (contrary (in_take y (told_after a told) r.lost t) (s.follows.fates.not_both y g))) (f y l))
          (λ (l : i ≤ y). let z : y ≡ i = omega arith in rw z p)
          (order y i)

      -- nothing that is left out lies at or before i
      none_left : (x : ℕ) → In x (packets_of left) → x ≤ i → ⊥
      none_left x t h =
          let d : In x (drop (told_after a told) r.lost) = rw to_tell t in
          let lost : In x r.lost = in_drop x (told_after a told) r.lost d in
          let clash : In x r.received → ⊥ = λ g. contrary lost (s.follows.fates.not_both x g) in
          ⊎_elim
          (λ (l : x < i).
          ⊎_elim (λ c. clash (s.marked.received x c))
          (λ c. contrary c (parts_apart (told_after a told) r.lost x s.follows.fates.lost_rising d))
          (f x l))
          (λ (l : i ≤ x). let z : x ≡ i = omega arith in clash (rw z (s.marked.received i p)))
          (order x i)

      stuck : In i (drop n (indexes a.records)) → ⊥
      stuck t =
          let far : n < length a.records = rw (length-map a.records (λ (h : Held). h.index)) at (some_behind n (indexes a.records) i t) in
          let y = get_or a.records n no_held in
          let near : y.index ≤ i = rw (index_at n) at (first_behind_lem n (indexes a.records) i s.follows.records.rising t) in
          let got : In y.index r.received = each_at (λ (h : Held). In h.index r.received) a.records n no_held far s.follows.records.received in
          let marked : y.confirmed ≡ true = each_at (λ (h : Held). In h.index confirmed → h.confirmed ≡ true) a.records n no_held far s.marked.all (is_confirmed y.index near got) in
          ⊎_elim (λ u. contrary marked u) (λ u. past left left_maximal none_left y.index near u) (rw e at (let_go_ends s.follows (rw e far)))
        where
          past : (gs : List Gap) → Maximal gs → ((x : ℕ) → In x (packets_of gs) → x ≤ i → ⊥) → (y : ℕ) → y ≤ i → PastFirst gs y → ⊥
          past [] m out y near u = absurd u
          past (g ∷ gs) m out y near u = let h = maximal_first g gs m in out g.from (run_in g gs g.from (omega arith) h) (omega arith)
