-- A status frame reaches the master: it accepts it, and both ends stay joined.
-- Assumes nothing.
use mathlib.Core.Path.{◌≡◌, refl, sym, ◌∙◌, ap, subst}
use mathlib.Core.Bool.{Bool, true, false}
use mathlib.Core.List.{List, [], ◌∷◌, ◌++◌, append_assoc}
use mathlib.Core.Logic.{⊎_elim}
use Prim.Native.Nat.{ℕ, suc, ◌+◌, ◌-◌, ◌≤◌, ◌<◌}
use native.Mathlib.Omega.{arith}
use lib.ListN.{length, take, drop, length-append, length-drop, length-map}
use lib.Seq.{take-add, drop-drop, length-take-le}
use Rattle.basics.proofs.Choices.{contrary, or_false, or_no, order}
use Rattle.circle.specs.Lengths.{is_length}
use Rattle.frame_layout.specs.Frames.{Reading, read_frame}
use Rattle.bearer.specs.Keeper.{Keeper}
use Rattle.bearer.specs.Ledger.{accept}
use Rattle.bearer.specs.Rule.{Fates, is_in, is_open}
use Rattle.bearer.specs.Packets.{number_of, packets, In, in_ranges}
use Rattle.bearer.specs.World.{World, Built, in_flight, final_read, had_final, without, at_master, after_delivery}
use Rattle.bearer.specs.Demand3.{in_frames, ranges_read, last_confirmed, confirmed_then, Accepts}
use Rattle.bearer.specs.Account.{packets_of}
use Rattle.bearer.proofs.Lists.Elements.{in_left, in_right, in_append, in_take, in_drop, rising_take, rising_drop, not_in, parts_apart}
use Rattle.bearer.proofs.Master.Marks.{Names}
use Rattle.bearer.proofs.Master.Accepts.{Highest, stays, moves_to, Took, takes}
use Rattle.bearer.proofs.Joint.Flight.{Mark, Lifted, same, up, lifted_up, Says, Flight, then}
use Rattle.bearer.proofs.Joint.Joined.{Second, First, Joint, second_mark, master_mark}

-- ---- lists

-- the front of a list that goes on with b, and b
front_more : {A : Type 0} (d : ℕ) (l : List A) (b : A) (bs : List A) → drop d l ≡ b ∷ bs → (take (suc d) l ≡ take d l ++ (b ∷ [])) × (drop (suc d) l ≡ bs)
front_more d l b bs e =
    let n : suc d ≡ d + 1 = omega arith in (
      ap (λ (i : ℕ). take i l) n ∙ take-add d 1 l ∙ ap (λ (x : List _). take d l ++ take 1 x) e,
      ap (λ (i : ℕ). drop i l) n ∙ sym (drop-drop 1 d l) ∙ ap (drop 1) e,
    )

-- what was confirmed when the last of frames was built
pub last_of : (bs : List Built) (b : Built) → last_confirmed (bs ++ (b ∷ [])) ≡ b.confirmed
last_of [] b = refl
last_of (c ∷ []) b = refl
last_of (c ∷ d ∷ bs) b = last_of (d ∷ bs) b

pub frames_append : (L : ℕ) (xs ys : List Built) → in_frames L (xs ++ ys) ≡ in_frames L xs ++ in_frames L ys
frames_append L [] ys = refl
frames_append L (x ∷ xs) ys =
    ap (λ (l : List ℕ). in_ranges L (ranges_read (read_frame x.frame)) ++ l) (frames_append L xs ys)
    ∙ sym (append_assoc (in_ranges L (ranges_read (read_frame x.frame))) (in_frames L xs) (in_frames L ys))

-- behind frames without Final: Final is in the last or in none
pub final_last : (bs : List Built) (b : Built) → had_final bs ≡ false → had_final (bs ++ (b ∷ [])) ≡ final_read (read_frame b.frame)
final_last [] b e = or_no (final_read (read_frame b.frame))
final_last (c ∷ bs) b e =
    let none = or_false (final_read (read_frame c.frame)) (had_final bs) e in
    rw none.0 (final_last bs b none.1)

-- ---- base is no farther than what was sent

pub base_sent : {L first : ℕ} {k : Keeper} {r : Fates} {sent confirmed : List ℕ} (s : Second L first k r sent confirmed) → s.a.base ≤ length sent
base_sent {r = r} {sent = sent} s =
    ⊎_elim (λ (h : length sent < s.a.base). absurd (contrary open_there (s.follows.fates.lowest.none_below (length sent) h))) (λ (h : s.a.base ≤ length sent). h)
    (order (length sent) s.a.base)
  where
    fresh : (l : List ℕ) → ((i : ℕ) → In i l → i < length sent) → is_in (length sent) l ≡ false
    fresh l f = not_in (length sent) l (λ p. let k = f (length sent) p in omega arith)

    open_there : is_open r (length sent) ≡ true
    open_there = rw (fresh r.received s.were_sent.received, fresh r.lost s.were_sent.lost)

-- ---- the frame is one that the master takes

module _ {L first : ℕ} (ok : is_length L ≡ true) {w : World} (j : Joint L first w) {b : Built} {n : Mark} (s : Says L first w.sent w.fates b (master_mark j.there) n) where
  abbrev lost : List ℕ
  lost = w.fates.lost

  -- how many the master was told, and its cut
  abbrev told : ℕ
  told = j.there.told

  abbrev cut : ℕ
  cut = j.there.cut

  -- the packets that the frame names
  abbrev xs : List ℕ
  xs = packets_of s.carries.gaps

  open_end : w.ledger.closed ≡ false
  open_end = s.carries.open_before

  told_of : (x : ℕ) → In x xs → In x (drop told lost)
  told_of x p = in_take x (n.told - told) (drop told lost) (rw s.names at p)

  names_waiting : Names s.carries.gaps w.ledger.entries
  names_waiting = record {
    proper = s.carries.proper;
    in_order = rw s.names (rising_take (n.told - told) (drop told lost) (rising_drop told lost j.second.follows.fates.lost_rising));
    all_wait = λ x p.
        let d = told_of x p in
        j.there.waiting.all open_end x (j.there.earned.divides.above x d) (j.second.were_sent.lost x (in_drop x told lost d))
        (parts_apart told lost x j.second.follows.fates.lost_rising d);
  }

  -- what the frame tells, behind what was told
  more_told : take n.told lost ≡ take told lost ++ xs
  more_told =
      let e : n.told ≡ told + (n.told - told) = let u = s.carries.told_up in omega arith in
      ap (λ (i : ℕ). take i lost) e ∙ take-add told (n.told - told) lost ∙ ap (λ (l : List ℕ). take told lost ++ l) (sym s.names)

  untold : (x : ℕ) → is_in x (take n.told lost) ≡ false → (is_in x (take told lost) ≡ false) × (is_in x xs ≡ false)
  untold x h = (
    not_in x (take told lost) (λ p. contrary (rw more_told (in_left x (take told lost) xs p)) h),
    not_in x xs (λ p. contrary (rw more_told (in_right x (take told lost) xs p)) h),
  )

  still_untold : (x : ℕ) → is_in x (take told lost) ≡ false → is_in x xs ≡ false → is_in x (take n.told lost) ≡ false
  still_untold x h g = not_in x (take n.told lost) (λ p. ⊎_elim (λ q. contrary q h) (λ q. contrary q g) (in_append x (take told lost) xs (rw more_told at p)))

  highest_of_lem : Highest w.sent w.ledger xs s.carries.status.highest cut n.cut
  highest_of_lem = go s.lifted
    where
      go : Lifted w.sent lost (master_mark j.there) n → Highest w.sent w.ledger xs s.carries.status.highest cut n.cut
      go (same e h) = rw e (stays (s.carries.highest_is ∙ h))
      go (up a b c d) =
          let g = n.cut - 1 in
          let e : n.cut ≡ suc g = omega arith in
          let out : is_in g (take told lost) ≡ false = not_in g (take told lost) (λ p. contrary (in_take g told lost p) d) in
          let free : is_in g xs ≡ false = not_in g xs (λ p. contrary (in_drop g told lost (told_of g p)) d) in
          subst (Highest w.sent w.ledger xs s.carries.status.highest cut) (sym e)
          (moves_to g (j.there.waiting.all open_end g (omega arith) (omega arith) out) free (s.carries.highest_is ∙ c))

  pub took : Took L first n.cut w.sent xs w.ledger s.carries.status (accept w.ledger b.frame)
  took =
      let c = s.carries in
      takes ok j.there.master c.status c.gaps names_waiting n.cut b.frame open_end c.read c.form (rw c.highest_is c.fits) c.ranges highest_of_lem

  -- the packets that leave by it
  abbrev gone : List ℕ
  gone = without (packets w.ledger.entries) (packets (accept w.ledger b.frame).state.entries)

  there_after : First L first (accept w.ledger b.frame).state w.fates w.sent (w.freed ++ gone) b.confirmed
  there_after = record {
    told = n.told;
    cut = n.cut;
    master = took.master;
    waiting = record {
      only = λ c x p. let q = took.waits_on x p in still_untold x (t.waiting.only open_end x q.0) q.1;
      all = λ c x h k f. let u = untold x f in took.waits_still x (t.waiting.all open_end x (omega (arith, onward)) k u.0) u.1 h;
    };
    were_freed = record {
      only = λ x p.
          ⊎_elim
          (λ q.
          let f = t.were_freed.only x q in (
            (let a = f.0 in omega (arith, onward)),
            still_untold x f.1 (not_in x xs (λ u. let a = f.0 in let z = t.earned.divides.above x (told_of x u) in omega arith)),
          ))
          (λ q. let f = took.freed_only x q in (f.2, still_untold x (t.waiting.only open_end x f.0) f.1))
          (in_append x w.freed gone p);
      all = λ x h f.
          let u = untold x f in
          ⊎_elim
          (λ (k : x < cut). in_left x w.freed gone (t.were_freed.all x k u.0))
          (λ (k : cut ≤ x).
          in_right x w.freed gone (took.freed_all x (t.waiting.all open_end x k (let z = took.master.cut_sent in omega arith) u.0) u.1 h))
          (order x cut);
    };
    earned = s.earned;
  }
    where
      t : First L first w.ledger w.fates w.sent w.freed (confirmed_then w)
      t = j.there

      onward : cut ≤ n.cut
      onward = lifted_up s.lifted

  told_count : length xs ≡ n.told - told
  told_count =
      ap length s.names ∙ length-take-le (n.told - told) (drop told lost) (let e = length-drop told lost in let t = s.told_most in omega (arith, e))

  pub joint_after : (bs : List Built) → in_flight w ≡ b ∷ bs → Flight L first w.sent w.fates bs n (second_mark j.second)
      → Joint L first (at_master w (suc w.delivered) (accept w.ledger b.frame).state)
  unfolding there_after
  joint_after bs e f =
      let parts = front_more w.delivered w.built b bs e in
      let mark : master_mark there_after ≡ n =
      ap (λ (h : ℕ). record { told = n.told; cut = n.cut; highest = h; closed = (accept w.ledger b.frame).state.closed }) (took.highest_is ∙ s.carries.highest_is)
      ∙ ap (λ (c : Bool). record { told = n.told; cut = n.cut; highest = n.highest; closed = c }) (took.closed_by ∙ s.carries.final_is)
      in
      let here : last_confirmed (take (suc w.delivered) w.built) ≡ b.confirmed = ap last_confirmed parts.0 ∙ last_of (take w.delivered w.built) b in
      let ranges : length (in_ranges L (ranges_read (read_frame b.frame))) ≡ n.told - told =
      ap (λ (r : Reading). length (in_ranges L (ranges_read r))) s.carries.read ∙ ap length s.carries.listed ∙ length-map xs (number_of L first) ∙ told_count
      in
      let count : length (in_frames L (take (suc w.delivered) w.built)) ≡ n.told =
      ap (λ (l : List Built). length (in_frames L l)) parts.0
      ∙ ap length (frames_append L (take w.delivered w.built) (b ∷ []))
      ∙ length-append (in_frames L (take w.delivered w.built)) (in_frames L (b ∷ []))
      ∙ (let one = length-append (in_ranges L (ranges_read (read_frame b.frame))) [] in
      let z = j.frames.count_there in
      let u = s.carries.told_up in
      omega (arith, one, ranges))
      in
      record {
        second = j.second;
        there = rw here there_after;
        flight = rw (mark, parts.1) f;
        frames = record {
          all_told = j.frames.all_told;
          count_there = count;
          delivered_most = let n = ap length e in let d = length-drop w.delivered w.built in omega (arith, n, d);
        };
        closes = record {
          secondary = j.closes.secondary;
          master =
              took.closed_by
              ∙ sym (ap had_final parts.0 ∙ final_last (take w.delivered w.built) b (sym j.closes.master ∙ open_end) ∙ ap final_read s.carries.read);
        };
      }

-- the next frame in flight is accepted
pub joint_accepts : {L first : ℕ} {w : World} → is_length L ≡ true → Joint L first w → Accepts w (in_flight w)
joint_accepts {L} {first} {w} ok j = go (in_flight w) j.flight
  where
    go : (bs : List Built) → Flight L first w.sent w.fates bs (master_mark j.there) (second_mark j.second) → Accepts w bs
    go [] f = tt
    go (b ∷ bs) (then s f) = (took ok j s).accepted

-- and both ends stay joined
pub joint_deliver : {L first : ℕ} {w : World} → is_length L ≡ true → Joint L first w → Joint L first (after_delivery w (in_flight w))
joint_deliver {L} {first} {w} ok j = go (in_flight w) refl j.flight
  where
    go : (bs : List Built) → in_flight w ≡ bs → Flight L first w.sent w.fates bs (master_mark j.there) (second_mark j.second) → Joint L first (after_delivery w bs)
    go [] e f = j
    go (b ∷ bs) e (then s f) = joint_after ok j s bs e f
