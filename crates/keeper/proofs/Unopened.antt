-- On memory that was never opened each call but open answers 9 and changes nothing.
-- Assumes nothing.
use Rattle.std.specs.Prelude.{Err}
use mathlib.Core.Path.{sym}
use Rattle.refusal.specs.declared.Refusal.TheVariants.{Closed}
use Rattle.keeper_state.specs.Unopened.{Answers9}
use Rattle.keeper_state.proofs.Opened.{unopened_answers_9, unopened_asks_9}
use Rattle.keeper.specs.View.{Arrays, words_in, state_held}
use Rattle.keeper.specs.Unopened.{NeverOpened, ArrivalOnly9, ExpiryOnly9, ConfirmOnly9, StatusOnly9, AnythingOnly9}
use Rattle.keeper.proofs.Unique.{read_call, read_status_lem, one_question}

-- the machine's answers
nine : (a : Arrays) → NeverOpened a → Answers9 (state_held a)
nine a = unopened_answers_9 (words_in a.words) a.numbers a.pdcps a.marks a.starts a.ends

pub arrival_only_9 : ArrivalOnly9
arrival_only_9 n p before after r not-open says stays =
    let both = read_call _ r (Err Closed) (state_held after) (state_held before) says (sym ((nine before not-open).arrival n p)) in
    (both.0, stays Closed both.0)

pub expiry_only_9 : ExpiryOnly9
expiry_only_9 n before after r not-open says stays =
    let both = read_call _ r (Err Closed) (state_held after) (state_held before) says (sym ((nine before not-open).expiry n)) in
    (both.0, stays Closed both.0)

pub confirm_only_9 : ConfirmOnly9
confirm_only_9 n before after r not-open says stays =
    let both = read_call _ r (Err Closed) (state_held after) (state_held before) says (sym ((nine before not-open).confirming n)) in
    (both.0, stays Closed both.0)

pub status_only_9 : StatusOnly9
status_only_9 before after desired minimum final d e r not-open says stays =
    let all = read_status_lem _ r (Err Closed) (state_held after) (state_held before) e d says (sym ((nine before not-open).report desired minimum final d)) in
    ((all.0, stays Closed all.0), all.2)

pub anything_only_9 : AnythingOnly9
anything_only_9 a r not-open says = one_question _ r (Err Closed) says (sym (unopened_asks_9 (words_in a.words) a.numbers a.pdcps a.marks a.starts a.ends not-open))
