-- `index_of`: where the number is found, it stands first. Assumes nothing.
use Rattle.std.proofs.Common.{ℕ, rules, ◌∙◌}
use Rattle.std.proofs.Math.Dec.{eqb}
use Rattle.std.proofs.lemmas.Iterator.{YieldsList-from_slice}
use Rattle.std.proofs.lemmas.Iterator.Search.{position_from_yields_List}
use borrow.Author.Tests.{tests}
use Rattle.keeper_loss.proofs.Ends.{found_is}
use Rattle.keeper_loss.proofs.index_of.Goals as goal

pub returns : goal.returns
returns c =
    position_from_yields_List (λ (m : ℕ). eqb m c.args.number) _ _ _ c.position.ensures.ran (YieldsList-from_slice c.args.numbers.now cc) (λ x b q k. search (rules, tests))
    ∙ found_is c.args.number c.args.numbers.now
