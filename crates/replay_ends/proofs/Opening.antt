-- An open that the secondary refuses.
-- Assumes nothing.
use Rattle.std.proofs.Common.{◌≡◌, Bool, ap}
use Rattle.std.specs.Prelude.{Err}
use Rattle.basics.specs.Basics.{Outcome, done, refused}
use Rattle.bearer.specs.Bearer.{After}
use Rattle.bearer.specs.Keeper as secondary
use Rattle.bearer.specs.Ledger as master
use Rattle.keeper.specs.View.{answered, opens_into}
use Rattle.refusal.specs.declared.Refusal.{Refusal}
use Rattle.refusal.specs.Numbers.{number_of}
use Rattle.replay_answers.specs.Answers.{refused_fields}
use Rattle.replay_ends.specs.Steps.{shown}
use Rattle.replay_ends.specs.Playing.{ends_of, opening}

-- it leaves both ends as they are, and is answered by its refusal
pub refused_alike : (opened : Bool) (k k' : secondary.Keeper) (l : master.Ledger Unit) (o : Outcome secondary.Keeper) (m : Outcome (master.Ledger Unit)) (e : Refusal)
    → answered (Err e) k' ≡ opens_into k o → shown (ends_of opened k' l) (refused_fields (number_of e)) ≡ opening (ends_of opened k l) o m
refused_alike opened k k' l (done new) m e is =
    let answer = ap (λ (x : After secondary.Keeper Unit). x.answer) is in
    cc answer
refused_alike opened k k' l (refused n) m e is =
    let answer = ap (λ (x : After secondary.Keeper Unit). x.answer) is in
    let number : number_of e ≡ n = cc answer in
    rw (ap (λ (x : After secondary.Keeper Unit). x.state) is, number)
