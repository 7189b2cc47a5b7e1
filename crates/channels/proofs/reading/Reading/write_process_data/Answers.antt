use Rattle.std.proofs.Common.{◌+◌, ◌≤◌, length, set, sym, ◌∙◌, arith}
use Rattle.octets.proofs.Rooms.{placed_room}
use Rattle.channels.specs.Readings.{reading_octets, process_data}
use Rattle.channels.proofs.ProcessData.{block_long, shown_wide, two_behind}
use Rattle.channels.proofs.reading.Reading.write_process_data.Goals as goal

pub returns-clause-buffer : goal.returns-clause-buffer
returns-clause-buffer g c =
    let m = g.K.Kind.meaning in
    let l = g.met.K.Kind.lawful in
    let out = c.args.out.now in
    let ws = reading_octets m c.args.self in
    let a = c.args.scale in
    let b = c.args.signals in
    let bs = process_data m c.args.self a b in
    let wide = shown_wide m l c.args.self in
    let h : length bs ≤ length out = omega (
      arith,
      block_long m l c.args.self a b,
      c.width-width.ensures,
      c.process_data_length.ensures,
    ) in
    let k : length ws ≤ length out = omega (arith, wide, c.process_data_length.ensures) in
    let n : c.width-width.result + 2 ≤ length out =
    omega (arith, c.width-width.ensures, c.process_data_length.ensures) in
    (λ i. set (set ((c.write.ensures.buffer ∙ sym (placed_room ws out k)) i) c.width-width.result a)
    (c.width-width.result + 1) b)
    ∙ two_behind ws out c.width-width.result a b (wide ∙ sym c.width-width.ensures) n
    ∙ placed_room bs out h
