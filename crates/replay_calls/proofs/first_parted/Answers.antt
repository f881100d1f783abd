-- `first_parted`: the first field ends at the first tab. Assumes nothing.
use Rattle.std.proofs.Common.{◌≡◌, length, ◌∙◌, rules, tests}
use Rattle.std.specs.Prelude.{◌==◌}
use Rattle.std.specs.List.{position}
use Rattle.std.proofs.lemmas.Iterator.{YieldsList-from_slice}
use Rattle.std.proofs.lemmas.Iterator.Search.{position_from_yields_List}
use Rattle.lister_text.specs.Texts.{tab}
use Rattle.replay_calls.specs.Calls.{first_field}
use Rattle.replay_calls.proofs.Fields.{first_front, first_at}
use Rattle.replay_calls.proofs.first_parted.Goals as goal

-- where it ends
ends : (c : goal.After-split_at) → c.unwrap_or-end.result ≡ length (first_field c.args.octets.now)
ends c =
    let l = c.args.octets.now in
    let found : c.position.result ≡ position (λ x. x == tab) l = position_from_yields_List (λ x. x == tab) _ _ c.position.result c.position.ensures.ran (YieldsList-from_slice l cc) (λ x b q k. search (rules, tests)) in
    c.unwrap_or-end.ensures ∙ rw found (first_at l)

pub returns-clause-field : goal.returns-clause-field
returns-clause-field c = c.split_at.ensures.front ∙ rw (ends c) (first_front c.args.octets.now)

pub returns-clause-behind : goal.returns-clause-behind
returns-clause-behind c = c.split_at.ensures.back ∙ rw (ends c)
