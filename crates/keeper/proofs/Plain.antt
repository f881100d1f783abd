-- What a confirm leaves of marks that are 0 or 1, and of arrays that are plain.
-- Assumes nothing.
use mathlib.Core.Path.{sym, subst}
use mathlib.Core.Logic.{⊎_elim}
use mathlib.Core.List.{List}
use Prim.Native.Nat.{ℕ, ◌<◌}
use lib.ListN.{set, take}
use lib.Seq.{take-set-lt, take-set-le}
use Rattle.basics.proofs.Choices.{order}
use Rattle.bearer.specs.Packets.{Each}
use Rattle.bearer.proofs.Lists.Elements.{each_set}
use Rattle.keeper_state.specs.declared.Words.{Words}
use Rattle.keeper.specs.Plain.{Marked, PlainIn}

-- a mark is 0 or 1
abbrev Flag : ℕ → Type 0
Flag mark = mark < 2

-- one is set, of those counted or past them
marked_set : {cs : List ℕ} (count at v : ℕ) → v < 2 → Marked count cs → Marked count (set cs at v)
marked_set {cs} count at v flag marked = record {
  within = marked.within;
  flags =
      ⊎_elim (λ h. subst (Each Flag) (sym (take-set-lt count cs at v h)) (each_set Flag (take count cs) at v flag marked.flags))
      (λ h. subst (Each Flag) (sym (take-set-le count cs at v h)) marked.flags) (order at count);
}

-- of a confirm, which stores a mark alone
pub plain_confirmed : {w : Words} {cs : List ℕ} (at mark : ℕ) → mark < 2 → PlainIn w cs → PlainIn w (set cs at mark)
plain_confirmed {w} at mark flag p = record { bits = p.bits; opened = p.opened; runs = p.runs; records = marked_set w.records at mark flag p.records }
