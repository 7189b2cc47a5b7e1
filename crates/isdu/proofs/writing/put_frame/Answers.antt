use Rattle.std.proofs.Common.{sym, ap, ◌∙◌}
use Rattle.octets.specs.Buffers.{over}
use Rattle.isdu.proofs.Buffers.{framed_parts, four_writes}
use Rattle.isdu.proofs.writing.put_frame.Goals as goal

pub returns-clause-buffer : goal.returns-clause-buffer
returns-clause-buffer c =
    let w = four_writes _ _ _ c.args.out.now _ _ _ _ _ _ _ c.put_heading-at.ensures.end c.put_heading-at.ensures.buffer
    c.put-at.ensures.end c.put-at.ensures.buffer c.put-at-2.ensures.end c.put-at-2.ensures.buffer
    c.put_check.ensures.buffer in
    w ∙ ap (λ us. over us c.args.out.now) (sym (framed_parts c.args.digit.value c.args.address.now c.args.data.now))
