-- More is received and lost at the secondary, which tells as much as it told: both ends stay joined.
-- Assumes nothing.
use mathlib.Core.Path.{◌≡◌, sym, ◌∙◌, ap}
use mathlib.Core.Bool.{true}
use mathlib.Core.List.{List, map}
use mathlib.Core.Logic.{⊎_elim}
use Prim.Native.Nat.{ℕ, ◌≤◌, ◌<◌}
use native.Mathlib.Omega.{arith}
use lib.ListN.{length}
use Rattle.basics.proofs.Choices.{contrary, order}
use Rattle.bearer.specs.Keeper.{Keeper}
use Rattle.bearer.specs.Ledger.{Ledger}
use Rattle.bearer.specs.Rule.{Fates, is_open, Lowest}
use Rattle.bearer.specs.Packets.{number_of, In}
use Rattle.bearer.specs.World.{World, ◌with_keeper◌, ◌with_fates◌}
use Rattle.bearer.proofs.Lists.Elements.{in_left}
use Rattle.bearer.proofs.Secondary.Open.{received_closed, lost_closed, closed}
use Rattle.bearer.proofs.Joint.Flight.{Mark, Onward, told_same, earned_onward, flight_cut, flight_told, flight_onward}
use Rattle.bearer.proofs.Joint.Joined.{Second, First, Joint, second_mark}

-- base doesn't go back
pub base_onward : {sent sent' : List ℕ} {r t : Fates} {new : List ℕ} {b c : ℕ} → Onward sent sent' r t new → Lowest r b → Lowest t c → b ≤ c
base_onward {r = r} {t = t} {new = new} {b = b} {c = c} o l m =
    ⊎_elim
    (λ (h : c < b).
    absurd (contrary m.open_itself
    (⊎_elim (λ p. received_closed t c (o.received_on c p)) (λ p. lost_closed t c (rw o.lost_is (in_left c r.lost new p))) (closed r c (l.none_below c h)))))
    (λ (h : b ≤ c). h)
    (order c b)

-- packets that are open lie from base on, and so from the secondary's cut on
pub open_ahead : {L first : ℕ} {k : Keeper} {r : Fates} {sent confirmed : List ℕ} (s : Second L first k r sent confirmed) (x : ℕ) → is_open r x ≡ true → s.cut ≤ x
open_ahead s x o =
    ⊎_elim (λ (h : x < s.a.base). absurd (contrary o (s.follows.fates.lowest.none_below x h))) (λ (h : s.a.base ≤ x). let c = s.cut_base in omega arith)
    (order x s.a.base)

-- the master's part says what it said
first_onward : {L first : ℕ} {l : Ledger ℕ} {r t : Fates} {sent freed C new : List ℕ} → Onward sent sent r t new → (f : First L first l r sent freed C)
    → f.told ≤ length r.lost → ((x : ℕ) → In x new → f.cut ≤ x) → First L first l t sent freed C
first_onward o f h ahead = record {
  told = f.told;
  cut = f.cut;
  master = f.master;
  waiting = rw (told_same o f.told h) f.waiting;
  were_freed = rw (told_same o f.told h) f.were_freed;
  earned = earned_onward o h ahead f.earned;
}

-- losses that were open before: both ends stay joined over the secondary's new part
pub joint_onward : {L first : ℕ} {w : World} {k : Keeper} {t : Fates} {new : List ℕ} (j : Joint L first w) → Onward w.sent w.sent w.fates t new
    → ((x : ℕ) → In x new → is_open w.fates x ≡ true) → (s : Second L first k t w.sent w.confirmed) → second_mark s ≡ second_mark j.second
    → Joint L first (w with_keeper k with_fates t)
unfolding first_onward
joint_onward {L} {first} {w} {k = k} {new = new} j o was_open s mark =
    let most : j.second.told ≤ length w.fates.lost = j.second.follows.runs.told_most in
    let ahead : (x : ℕ) → In x new → j.second.cut ≤ x = λ x p. open_ahead j.second x (was_open x p) in
    let cuts = flight_cut j.flight in
    let tolds = flight_told j.flight in
    let told : s.told ≡ j.second.told = ap (λ (m : Mark). m.told) mark in
    let closed : k.closed ≡ w.keeper.closed = ap (λ (x : Keeper). x.closed) s.keeper_is ∙ ap (λ (m : Mark). m.closed) mark ∙ ap (λ (x : Keeper). x.closed) (sym j.second.keeper_is) in
    record {
      second = s;
      there = first_onward o j.there (omega arith) (λ x p. let k = ahead x p in omega arith);
      flight = rw mark (flight_onward o ahead j.flight);
      frames = record {
        all_told = rw told (j.frames.all_told ∙ ap (map (number_of L first)) (sym (told_same o j.second.told most)));
        count_there = j.frames.count_there;
        delivered_most = j.frames.delivered_most;
      };
      closes = record { secondary = closed ∙ j.closes.secondary; master = j.closes.master };
    }
