use Rattle.std.proofs.Common.{rules, ◌≤◌, length, sym, ◌∙◌}
use Rattle.isdu.specs.Composing.{shortest_heading, total_length}
use Rattle.isdu.proofs.Buffers.{Ready, enclosed, kept, moved}
use Rattle.isdu.proofs.writing.enclose.Goals as goal
use Rattle.isdu.proofs.writing.enclose.Goals.{then-takes_second, else-takes_second}

pub returns-clause-buffer : goal.returns-clause-buffer
returns-clause-buffer c =
    let n = c.args.n in
    let xs = c.args.out.now in
    let digit = c.args.digit.value in
    let room : total_length n ≤ length xs = search rules in
    let second = sym c.takes_second.ensures in
    let ready : Ready (length (shortest_heading digit n)) n xs c.if-takes_second.out =
    elim c.if-takes_second.branch [
      | then-takes_second w ↦ moved digit n xs _ (second ∙ w.if-takes_second.true) room (w.out-is ∙ w.move_up.ensures)
      | else-takes_second w ↦ kept digit n xs _ (second ∙ w.if-takes_second.false) w.out-is
    ] in
    enclosed digit n _ xs _ _ _ room ready c.put_heading-at.ensures.end c.put_heading-at.ensures.buffer
    c.put_check.ensures.buffer
