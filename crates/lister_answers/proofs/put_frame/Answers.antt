-- `put_frame`: a frame that is read as a status holds its ranges. Assumes nothing.
use Rattle.std.proofs.Common.{sym, ◌∙◌, ap}
use Rattle.frame_reader.specs.Answers.{reading_of}
use Rattle.frame_reader.proofs.Walk.{held_first}
use Rattle.lister_answers.proofs.put_frame.Goals as goal

pub put_status-requires : goal.put_status-requires
put_status-requires c =
    let frame = c.args.frame.now in
    held_first frame c.in-Status.head (sym (ap (reading_of frame) c.in-Status.is) ∙ c.read.ensures)
