-- `put_fields`: each turn puts the next number of those that are left. Assumes nothing.
use Rattle.std.proofs.Common.{◌≡◌, ℕ, ◌+◌, ◌<◌, List, ◌++◌, length, get_or, drop, add-one, drop-cons}
use Rattle.lister_text.specs.Texts.{tab}
use Rattle.lister_answers.specs.Parts.{marked, tabbed}
use Rattle.lister_answers.proofs.Putting.{leaves_on}
use Rattle.lister_answers.proofs.put_fields.Goals as goal

-- the next number and those behind it
next : (ns : List ℕ) (i : ℕ) → i < length ns → tabbed (drop i ns) ≡ marked (get_or ns i 0) tab ++ tabbed (drop (i + 1) ns)
next ns i h = rw (add-one, drop-cons ns i 0)

pub loop-n-preserved : goal.loop-n-preserved
loop-n-preserved c =
    let l = c.loop-n in
    leaves_on (rw (next c.args.numbers.now l.n-index c.loop-n-test.true) at l.invariant) c.put_marked.ensures
