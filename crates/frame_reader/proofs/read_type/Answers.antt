-- `read_type`: types 1 and 2 are statuses, the long one where it is 2. Assumes nothing.
use Rattle.std.proofs.Common.{◌≡◌, ℕ, zero, suc, ◌<◌, List, refl, ◌∙◌, eqb, arith}
use Rattle.frame_layout.specs.Frames.{read_status, read_type}
use Rattle.frame_reader.proofs.read_type.Goals as goal

-- types 1 and 2 are statuses, the long one where it is 2
either : (k : ℕ) (s : List ℕ) → (k ≡ 0 → ⊥) → k < 3 → read_status (eqb k 2) s ≡ read_type k s
either zero s n h = absurd (n refl)
either (suc zero) s n h = refl
either (suc (suc zero)) s n h = refl
either (suc (suc (suc k))) s n h = absurd (omega arith)

pub returns-in-1-to-2 : goal.returns-in-1-to-2
returns-in-1-to-2 c = c.read_status.ensures ∙ either c.args.kind c.args.frame.now (omega arith) (omega arith)
