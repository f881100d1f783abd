-- `step`: what is held and listed is shown whole. Assumes nothing.
use Rattle.std.proofs.Common.{◌≡◌, ap, ◌∙◌}
use Rattle.bearer.specs.Keeper.{Keeper}
use Rattle.keeper_state.specs.Lent.{keeper_of}
use Rattle.replay_ends.specs.Steps.{shown}
use Rattle.replay_ends.proofs.Steps.{plays_shown}
use Rattle.replay_states.specs.States.{keeper_listed, keeper_fields}
use Rattle.replay_states.proofs.Elements.{listed_whole}
use Rattle.replay_keeper.proofs.step.Goals as goal

pub returns-in-Show-clause-plays : goal.returns-in-Show-clause-plays
returns-in-Show-clause-plays c =
    let k = keeper_of c.args.state.now in
    let whole : keeper_listed c.held.result ≡ k = listed_whole c.held.ensures.shows ∙ c.held.ensures.state in
    rw c.in-Show.is (plays_shown (keeper_fields (keeper_listed c.held.result)) (ap (λ (x : Keeper). shown k (keeper_fields x)) whole) c.lay_keeper.ensures)
