-- A state that follows the packets' fates, with half the circle as its bound: all its packets lie within reach of base, as the image asks
-- (ImageState.antt), and that of an account means what specs/KeeperMeaning.antt says.
-- Assumes nothing.
use mathlib.Core.Path.{refl}
use Prim.Native.Nat.{ℕ, ◌+◌, ◌≤◌, ◌<◌}
use Rattle.circle.specs.Lengths.{half}
use Rattle.bearer.specs.Losses.{Gap}
use Rattle.bearer.specs.Rule.{Fates}
use Rattle.bearer.specs.Account.{Held, Account}
use Rattle.bearer.specs.KeeperMeaning.{Means, keeper_of}
use Rattle.bearer.proofs.Lists.Mapped.{each_both}
use Rattle.bearer.proofs.Lists.Elements.{in_each}
use Rattle.bearer.proofs.Secondary.Index.{Indexed}
use Rattle.bearer.proofs.Secondary.ImageState.{InReach}
use Rattle.bearer.proofs.Secondary.Runs.{maximal_each}
use Rattle.bearer.proofs.Secondary.Follows.{mark_base, Follows}
use Rattle.bearer.proofs.Secondary.Accounts.{indexed_of}

pub follows_means : {L base : ℕ} {a : Account} (first : ℕ) → Follows (half L) (indexed_of base a) a.fates a.told → Means L first (keeper_of L first base a) a
follows_means {base = base} first F = record {
  base = base;
  lowest = F.fates.lowest;
  state_is = refl;
  not_both = F.fates.not_both;
  lost_rising = F.fates.lost_rising;
  lost_before = F.fates.lost_before;
  told_most = F.runs.told_most;
  records_rising = F.records.rising;
  records_received = F.records.received;
  from_base_on = F.records.from_base_on;
  confirmed_before = F.records.confirmed_before;
  within_window = F.records.within_window;
  runs_at_most = F.runs.most;
  records_at_most = F.records.most;
  floor_runs = F.runs.floor;
  floor_records = F.records.floor;
}

pub follows_reach : {L : ℕ} {a : Indexed} {r : Fates} {told : ℕ} → Follows (half L) a r told → InReach L a
follows_reach {L} {a = a} F = record {
  rising = F.records.rising;
  floor_runs = F.runs.floor;
  floor_records = F.records.floor;
  records_ahead = in_each (λ (x : Held). x.index) (λ (j : ℕ). j < a.base + half L) a.records (λ j t. F.span j a.base t (mark_base a));
  runs_before = each_both (λ (g : Gap). g.from < g.to) (λ (g : Gap). g.to ≤ a.base) a.runs (maximal_each a.runs F.runs.maximal) F.runs.before;
  confirmed_before = F.records.confirmed_before;
}
