-- The secondary is asked for a status: it is refused and nothing changes, or a frame is built that takes reporting to a new mark.
-- Assumes nothing.
use mathlib.Core.Path.{◌≡◌, refl, sym, ◌∙◌, ap, subst}
use mathlib.Core.Bool.{Bool, true, false}
use mathlib.Core.List.{List, [], ◌∷◌, ◌++◌, map, map-append, append-nil}
use mathlib.Core.Logic.{inl, inr, ⊎_elim}
use Prim.Native.Nat.{ℕ, zero, suc, ◌-◌, ◌^◌, ◌≤◌, ◌<◌}
use native.Mathlib.Omega.{arith}
use lib.ListN.{length, get_or, take, drop, length-take, length-append}
use lib.Seq.{take-append-le, drop-append-le, take-append_seam}
use Rattle.basics.proofs.Lists.{map_drop}
use Rattle.circle.specs.Lengths.{is_length, pdcps}
use Rattle.frame_layout.specs.Frames.{Status, Reading, read_frame, status_octets, most_ranges}
use Rattle.frame_layout.specs.Trips.{status_frame, WritableStatus}
use Rattle.frame_layout.proofs.Trips.{is_read}
use Rattle.bearer.specs.Losses.{Gap}
use Rattle.bearer.specs.Keeper as K
use Rattle.bearer.specs.Packets.{number_of, in_ranges}
use Rattle.bearer.specs.World.{World, Built, ◌with_keeper◌, ◌with_built◌, in_flight, final_read, had_final, after_status}
use Rattle.bearer.specs.Demand3.{in_frames, ranges_read}
use Rattle.bearer.specs.Account.{Held, run_at, indexes, packets_of}
use Rattle.bearer.proofs.Lists.Mapped.{each_so, each_drop, each_take}
use Rattle.bearer.proofs.Lists.Elements.{in_split, in_each}
use Rattle.bearer.proofs.Lists.Lengths.{roomy}
use Rattle.bearer.proofs.Answers.Reported.{Reports, refuses, builds, reports}
use Rattle.bearer.proofs.Secondary.Index.{Indexed, image, no_held, let_go_i, highest_i, reported_i}
use Rattle.bearer.proofs.Secondary.Image.{InReach}
use Rattle.bearer.proofs.Lists.RunNumbers.{runs_fit}
use Rattle.bearer.proofs.Secondary.ImageStatus.{image_status, image_carried}
use Rattle.bearer.proofs.Secondary.FollowsStatus.{told_after, told_then, follows_status}
use Rattle.bearer.proofs.Secondary.FollowsMeans.{follows_reach}
use Rattle.bearer.proofs.Master.Pdcps.{pdcp_of}
use Rattle.bearer.proofs.Joint.Flight.{Lifted, same, up, Divides, Says, flight_more}
use Rattle.bearer.proofs.Joint.Joined.{Second, Joint, second_mark}
use Rattle.bearer.proofs.Joint.Delivery.{frames_append, final_last}
use Rattle.bearer.proofs.Joint.Cut.{cut_after, told_now, carried, the_last, cut_onward, cut_below_base, gone_before, kept_behind, above_after, below_after, deserving_after}

module _ {L first : ℕ} (ok : is_length L ≡ true) {w : World} (j : Joint L first w) (d m : ℕ) (final : Bool) (sizes : (d < 2 ^ 32) × (m < 2 ^ 32)) where
  -- the secondary's state
  abbrev a : Indexed
  a = j.second.a

  -- how many of the lost are told then, and the cut
  abbrev told' : ℕ
  told' = told_after a j.second.told

  abbrev cut' : ℕ
  cut' = cut_after a j.second.cut (let_go_i a)

  reach : InReach L a
  reach = follows_reach j.second.follows

  -- what the status says
  abbrev said : Status
  said = K.status_now (image L first a) d m final

  highest_is : said.highest ≡ highest_i a (let_go_i a)
  highest_is = (image_status L first a reach).highest

  -- the highest is a PDCP number
  fits : (n : ℕ) → let_go_i a ≡ n → highest_i a n < pdcps L
  fits zero e = j.second.numbered.reported_fits
  fits (suc q) e =
      let l = the_last j.second q e in
      rw l.pdcp_is (j.there.master.ordered.below (get_or a.records q no_held).index l.was_sent)

  pub writable : WritableStatus said
  writable = record {
    highest_fits = let r = (roomy L ok).bears_all in let h : said.highest < pdcps L = rw highest_is (fits (let_go_i a) refl) in omega arith;
    desired_fits = sizes.0;
    minimum_fits = sizes.1;
    ranges_few = rw (length-take most_ranges (map (run_at L first) a.runs)) (omega arith);
    ranges_fit = rw ((image_status L first a reach).ranges d m final) (runs_fit L first (take most_ranges a.runs));
  }

  -- the frame that is built
  abbrev frame : Built
  frame = record { frame = status_octets said; confirmed = w.confirmed }

  lifts : (n : ℕ) → let_go_i a ≡ n → Lifted w.sent w.fates.lost (second_mark j.second) (record { told = told'; cut = cut_after a j.second.cut n; highest = highest_i a n; closed = final })
  lifts zero e = same refl refl
  lifts (suc q) e =
      let l = the_last j.second q e in
      let i = (get_or a.records q no_held).index in
      let back : suc i - 1 ≡ i = omega arith in
      up (let h = l.from_cut in omega arith) l.was_sent (l.pdcp_is ∙ ap (pdcp_of w.sent) (sym back)) (rw back l.not_lost)

  divides_after : Divides told' cut' w.fates.lost w.confirmed
  divides_after = record { below = below_after j.second (let_go_i a) refl; above = above_after j.second (let_go_i a) refl }

  second_after : Second L first (K.reported_state (image L first a) final) w.fates w.sent w.confirmed
  second_after =
      let s = j.second in
      let n = let_go_i a in
      let indexes_are = map_drop (λ (h : Held). h.index) n a.records in
      record {
        a = reported_i a final;
        told = told';
        cut = cut';
        keeper_is = (image_status L first a reach).state_is final;
        follows = follows_status s.follows final;
        were_sent = s.were_sent;
        numbered = record { records_are = each_drop _ n a.records s.numbered.records_are; reported_fits = fits n refl };
        remembered = record {
          from_cut = in_each (λ (h : Held). h.index) (λ (i : ℕ). cut' ≤ i) (drop n a.records) (λ i p. kept_behind s n refl i (rw (← indexes_are) at p));
          held_or_gone = λ i p.
              ⊎_elim (λ (c : i < s.cut). inl (let z = cut_onward s n refl in omega arith))
              (λ q. ⊎_elim (λ t. inl (gone_before s n refl i t)) (λ t. inr (rw (← indexes_are) t)) (in_split i n (indexes a.records) q))
              (s.remembered.held_or_gone i p);
        };
        marked = record {
          only = each_drop _ n a.records s.marked.only;
          all = each_drop _ n a.records s.marked.all;
          received = s.marked.received;
        };
        divides = divides_after;
        cut_base = cut_below_base s n refl;
      }

  says : w.keeper.closed ≡ false → Says L first w.sent w.fates frame (second_mark j.second) (second_mark second_after)
  unfolding second_after
  says c = record {
    carries = record {
      gaps = take most_ranges a.runs;
      status = said;
      read = is_read (status_frame said) writable;
      form = refl;
      ranges = (image_status L first a reach).ranges d m final;
      listed = image_carried L first a reach d m final;
      highest_is = highest_is;
      final_is = refl;
      fits = fits (let_go_i a) refl;
      open_before = ap (λ (k : K.Keeper). k.closed) (sym j.second.keeper_is) ∙ c;
      proper =
          each_so (take most_ranges a.runs) (λ g p. p.0) (each_take (λ (g : Gap). (g.from < g.to) × (g.to ≤ a.base)) most_ranges a.runs reach.runs_before);
      told_up = omega arith;
    };
    told_most = told_then j.second.follows;
    names = carried j.second;
    lifted = lifts (let_go_i a) refl;
    earned = record { divides = divides_after; deserving = deserving_after j.second (let_go_i a) refl; confirmed_received = j.second.marked.received };
  }

  -- the frame is built, and both ends stay joined
  pub built_joint : w.keeper.closed ≡ false → Joint L first (w with_keeper K.reported_state (image L first a) final with_built (w.built ++ (frame ∷ [])))
  unfolding second_after
  built_joint c =
      let most = j.frames.delivered_most in
      let there : take w.delivered (w.built ++ (frame ∷ [])) ≡ take w.delivered w.built = take-append-le w.delivered w.built (frame ∷ []) most in
      let flying : drop w.delivered (w.built ++ (frame ∷ [])) ≡ in_flight w ++ (frame ∷ []) = drop-append-le w.delivered w.built (frame ∷ []) most in
      let new : in_frames L (frame ∷ []) ≡ map (number_of L first) (packets_of (take most_ranges a.runs)) =
      append-nil (in_ranges L (ranges_read (read_frame frame.frame)))
      ∙ ap (λ (r : Reading). in_ranges L (ranges_read r)) (is_read (status_frame said) writable)
      ∙ image_carried L first a reach d m final
      in
      record {
        second = second_after;
        there = rw there j.there;
        flight = rw flying (flight_more frame j.flight (says c));
        frames = record {
          all_told =
              frames_append L w.built (frame ∷ [])
              ∙ ap (λ (l : List ℕ). l ++ in_frames L (frame ∷ [])) j.frames.all_told
              ∙ ap (λ (l : List ℕ). map (number_of L first) (take j.second.told w.fates.lost) ++ l) new
              ∙ sym (map-append (number_of L first) (take j.second.told w.fates.lost) (packets_of (take most_ranges a.runs)))
              ∙ ap (map (number_of L first)) (sym (told_now j.second));
          count_there = ap (λ (l : List Built). length (in_frames L l)) there ∙ j.frames.count_there;
          delivered_most = let e = length-append w.built (frame ∷ []) in omega (arith, e, most);
        };
        closes = record {
          secondary = sym (final_last w.built frame (sym j.closes.secondary ∙ c) ∙ ap final_read (is_read (status_frame said) writable));
          master = j.closes.master ∙ ap had_final (sym there);
        };
      }

pub joint_status : {L first : ℕ} {w : World} → is_length L ≡ true → Joint L first w → (d m : ℕ) (final : Bool) (buffer : List ℕ) → (d < 2 ^ 32) × (m < 2 ^ 32)
    → Joint L first (after_status w (K.status w.keeper d m final buffer))
joint_status {L} {first} {w} ok j d m final buffer sizes = by (reports w.keeper d m final buffer)
  where
    world_of : K.Keeper → List Built → World
    world_of k bs = w with_keeper k with_built bs

    -- the world with the frame of a secondary
    built_by : K.Keeper → List ℕ → World
    built_by k octets = world_of (K.reported_state k final) (w.built ++ (record { frame = octets; confirmed = w.confirmed } ∷ []))

    by : {r : K.Reported} → Reports w.keeper (K.status_now w.keeper d m final) final buffer r → Joint L first (after_status w r)
    by (refuses n) = subst (Joint L first) (ap (world_of w.keeper) (sym (append-nil w.built))) j
    by (builds c room) =
        let octets = status_octets (K.status_now w.keeper d m final) in
        subst (Joint L first)
        (ap (λ (k : K.Keeper). built_by k (status_octets (K.status_now k d m final))) (sym j.second.keeper_is)
        ∙ ap (built_by w.keeper) (sym (take-append_seam octets (drop (length octets) buffer))))
        (built_joint ok j d m final sizes c)
