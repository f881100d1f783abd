-- `free_through`: the next entry is freed, or it is kept.
-- Assumes nothing.
use Rattle.std.proofs.Common.{◌≡◌, ◌∙◌, ◌+◌, ◌-◌, [], ℕ, List, length, drop, get_or, min, false, sym, ap, arith}
use Rattle.std.proofs.Math.ListN.{drop_of_length-le}
use Rattle.std.proofs.lemmas.List.{append-nil}
use Rattle.basics.specs.Basics.{◌and◌}
use Rattle.bearer.specs.Bearer.{most_entries}
use Rattle.bearer.specs.Ledger.{Entry, waits}
use Rattle.ledger_entries.specs.View.{entry_in, entries_in, entries_of}
use Rattle.ledger_entries.specs.Steps.{free_while, passed_of}
use Rattle.ledger_entries.proofs.Slots.{unread, stands, laid, held_count, held_length}
use Rattle.ledger_entries.proofs.Passes.{in_front, stays, goes, all_passed}
use Rattle.ledger_entries.proofs.Sums.{lowers_passed, lowers_kept}
use Rattle.ledger_entries.proofs.Entries.free_through.Goals as goal
use Rattle.ledger_entries.proofs.Entries.free_through.Goals.{then-going+then-waits, else-going, else-going-via-then-going+else-waits, else-going-via-else-going}

pub loop-entry-preserved : goal.loop-entry-preserved
loop-entry-preserved c =
    let p = c.loop-entry in
    let v = p.invariant in
    let held = c.held-held.result.now in
    let o = c.args.others.now in
    let slots : length o.slots ≡ most_entries = omega arith in
    let i = p.entry-index in
    let front = entries_in p.self.slots p.kept in
    let x = get_or held i unread in
    let at = stands held c.held-held.ensures i c.loop-entry-test.true unread in
    elim c.if-going.branch [
      | then-going+then-waits w ↦
          let count : i + 1 - p.kept ≡ i - p.kept + 1 = omega arith in
          let waited = sym w.if-waits.ensures in
          rw (w.self-is, w.octets-is, w.going-is, w.kept-is, count)
          (record {
            below = omega arith;
            frees = v.frees ∙ goes c.args.highest p.going (i - p.kept) front at (rw w.if-going.true waited);
            lowers = lowers_passed front at v.lowers waited (omega arith);
          })
      | else-going w ↦
          let count : i + 1 - (p.kept + 1) ≡ i - p.kept = omega arith in
          let stayed : (p.going and waits (entry_in x)) ≡ false = elim w.else-going.branch [
            | else-going-via-then-going+else-waits u ↦ rw u.if-going.true (sym u.if-waits.ensures)
            | else-going-via-else-going u ↦ rw u.if-going.false
          ] in
          rw (w.self-is, w.octets-is, w.going-is, w.kept-is, count, laid p.self.slots p.kept x (omega (arith, held_count o.slots o.count slots held c.held-held.ensures)))
          (record {
            below = omega arith;
            frees = v.frees ∙ stays c.args.highest p.going (i - p.kept) front at stayed;
            lowers = lowers_kept front at v.lowers;
          })
    ]

pub returns : goal.returns
returns c =
    let p = c.loop-entry in
    let v = p.invariant in
    let o = c.args.others.now in
    let es = entries_of o in
    let held = c.held-held.result.now in
    let front = entries_in p.self.slots p.kept in
    let all : p.entry-index ≡ length held = omega arith in
    let slots : length o.slots ≡ most_entries = omega arith in
    let few : min p.kept most_entries ≡ p.kept = omega (arith, held_count o.slots o.count slots held c.held-held.ensures) in
    let none_left : drop p.entry-index es ≡ [] = drop_of_length-le es (omega (arith, held_length o.slots o.count slots, held_count o.slots o.count slots held c.held-held.ensures)) in (
      rw few (ap (λ (n : ℕ). passed_of front (n - p.kept)) (sym all) ∙ sym (v.frees ∙ ap (λ (ys : List (Entry Unit)). in_front (p.entry-index - p.kept) front (free_while p.going c.args.highest ys)) none_left ∙ all_passed c.args.highest p.going (p.entry-index - p.kept) front)),
      omega (arith, v.below, held_length o.slots o.count slots, held_count o.slots o.count slots held c.held-held.ensures),
      rw few (rw (none_left, append-nil) at v.lowers),
    )
