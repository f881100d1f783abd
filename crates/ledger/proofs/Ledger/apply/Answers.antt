-- `apply`: what the passes leave is what the machine makes of the ranges and the highest, and the oldest that waits is found again.
-- Assumes nothing.
use Rattle.std.proofs.Common.{◌≡◌, ◌∙◌, List, ℕ, Err, Result, sym, ap, rules}
use Rattle.std.proofs.Math.Option.{Option}
use Rattle.circle.specs.Lengths.{is_long, length_in}
use Rattle.bearer.specs.Ledger.{Passed, marking, mark_lost, accept_marked}
use Rattle.frame_reader.specs.declared.Cursor.{Cursor}
use Rattle.frame_reader.specs.declared.Head.{Head}
use Rattle.frame_reader.specs.Answers.{cursor_of, head_status, Held}
use Rattle.refusal.specs.declared.Refusal.{Refusal}
use Rattle.ledger_entries.specs.View.{entries_of}
use Rattle.ledger_entries.proofs.Sums.{lowers_then}
use Rattle.ledger_marks.specs.Walked.{walked}
use Rattle.ledger_marks.proofs.Walks.{all_met}
use Rattle.ledger.specs.declared.Accepted.{Accepted}
use Rattle.ledger.specs.declared.Ledger.{Ledger}
use Rattle.ledger.specs.View.{ledger_in, accepted_as, beside}
use Rattle.ledger.proofs.Calls.{accept_highest, accept_done}
use Rattle.ledger.proofs.Ledger.apply.Goals as goal

-- the ranges that were met are the status's, and they are applied to all the entries
marks : (l : Ledger) (s : List ℕ) (h : Head) → Held s (cursor_of h) → h.long ≡ is_long (length_in l.bits) → (from : Cursor) → from ≡ cursor_of h → {o : Option (Passed Unit)}
    → ((L : ℕ) → is_long L ≡ from.long → o ≡ mark_lost L (entries_of l.entries) (walked s from)) → o ≡ marking (ledger_in l) (head_status s h)
marks l s h held form from first marked =
    marked (length_in l.bits) (sym (ap (λ (c : Cursor). c.long) first ∙ form))
    ∙ ap (mark_lost (length_in l.bits) (entries_of l.entries)) (ap (walked s) first ∙ all_met s h.long _ _ held)

pub returns-in_err-marked : goal.returns-in_err-marked
returns-in_err-marked c =
    let l = c.args.self.now in
    let s = c.args.frame.now in
    let h = c.args.head in
    let marked = marks l s h c.requires.0 c.requires.1 _ c.first_range-first.ensures c.in_err-marked.ensures.0 in
    let is : c.from_residual.result ≡ Err c.in_err-marked.field-0.0 = search rules in
    ap (λ (r : Result Accepted Refusal). beside (accepted_as r) (ledger_in l)) (is ∙ ap (λ (r : Refusal). Err r) c.in_err-marked.ensures.1)
    ∙ ap (accept_marked (ledger_in l) (head_status s h)) marked

pub returns-then-not-may_be_highest : goal.returns-then-not-may_be_highest
returns-then-not-may_be_highest c =
    let l = c.args.self.now in
    let s = c.args.frame.now in
    let h = c.args.head in
    let marked = marks l s h c.requires.0 c.requires.1 _ c.first_range-first.ensures c.in_ok-marked.ensures.0 in
    sym (accept_highest (ledger_in l) (head_status s h) (entries_of c.in_ok-marked.marked.entries) c.in_ok-marked.marked.lost (sym c.if-not-may_be_highest.ensures))
    ∙ ap (accept_marked (ledger_in l) (head_status s h)) marked

pub returns : goal.returns
returns c =
    let l = c.args.self.now in
    let s = c.args.frame.now in
    let h = c.args.head in
    let marked = marks l s h c.requires.0 c.requires.1 _ c.first_range-first.ensures c.in_ok-marked.ensures.0 in
    let freed = c.free_through-freed in
    sym (accept_done (ledger_in l) (head_status s h) (entries_of c.in_ok-marked.marked.entries) c.in_ok-marked.marked.lost (sym c.if-not-may_be_highest.ensures)
    (entries_of freed.new.self) freed.result freed.ensures.0 c.waiting_from-self.result c.waiting_from-self.ensures freed.new.octets
    (lowers_then c.in_ok-marked.ensures.2 freed.ensures.2))
    ∙ ap (accept_marked (ledger_in l) (head_status s h)) marked
