use Rattle.std.proofs.Common.{◌≡◌, ◌<◌, ◌≤◌, Bool, cond, length, Ok, Err, sym, ap, ◌∙◌, arith, le-ltb, lt-ltb}
use Rattle.std.specs.Option.{ok_or}
use Rattle.octets.specs.Buffers.{fitting, over, placed}
use Rattle.octets.proofs.Rooms.{fitting_room, placed_room}
use Rattle.faults.specs.declared.Denial.TheVariants.{BufferTooShort}
use Rattle.faults.specs.Denials.{fault}
use Rattle.channels.specs.Readings.{process_data, process_data_length, within}
use Rattle.channels.specs.Table.{judged_table, signals_octet}
use Rattle.channels.proofs.ProcessData.{block_long}
use Rattle.sensor.specs.Answers.{counted}
use Rattle.sensor.specs.Calls.{samples, to_sample}
use Rattle.sensor.specs.Rules.{carried, device_by, done, sample_written}
use Rattle.sensor.specs.Samples.{heard, sample_data}
use Rattle.sensor.proofs.device.Device.sample.Goals as goal

-- the buffer is too short
pub returns-then-out-process_data_length : goal.returns-then-out-process_data_length
returns-then-out-process_data_length g c =
    let m = g.K.Kind.meaning in
    let d = c.args.self.now in
    let r = within m d.range.low d.range.high c.args.reading in
    let out = c.args.out.now in
    let h : length out < process_data_length m = omega (arith, c.process_data_length.ensures) in
    let e = ap (λ (b : Bool). carried m d (cond b (Err (fault BufferTooShort)) (Ok (to_sample r))))
    (sym (lt-ltb (length out) (process_data_length m) h)) in
    record {
      reply = ap Err c.of.ensures ∙ ap (λ x. counted (sample_written m d x) x) e;
      device = ap (device_by m d) e;
      buffer = ap (λ x. over (sample_written m d x) out) e;
    }

pub returns : goal.returns
returns g c =
    let m = g.K.Kind.meaning in
    let l = g.met.K.Kind.lawful in
    let d = c.args.self.now in
    let r = within m d.range.low d.range.high c.args.reading in
    let out = c.args.out.now in
    let h : process_data_length m ≤ length out = omega (arith, c.process_data_length.ensures) in
    let e = ap (λ (b : Bool). carried m d (cond b (Err (fault BufferTooShort)) (Ok (to_sample r))))
    (sym (le-ltb (length out) (process_data_length m) h)) in
    let block-is = sample_data m d r in
    let reading-is : c.within-reading.result ≡ r = c.within-reading.ensures in
    let signals-is : c.judge_and_feed-signals.result ≡ signals_octet (judged_table m r d.channels) =
    c.judge_and_feed-signals.ensures.signals ∙ ap (λ x. signals_octet (judged_table m x d.channels)) reading-is in
    let block-shown : process_data m c.within-reading.result d.scale c.judge_and_feed-signals.result ≡ block-is =
    λ i. process_data m (reading-is i) d.scale (signals-is i) in
    let long : length block-is ≡ process_data_length m =
    block_long m l r d.scale (signals_octet (judged_table m r d.channels)) in
    let room : length block-is ≤ length out = omega (arith, long) in
    record {
      reply =
          c.ok_or.ensures.value
          ∙ ap (λ o. ok_or o c.of-2.result) (c.write_process_data.ensures.answer ∙ ap (λ bs. fitting bs out) block-shown
          ∙ sym (fitting_room block-is out room))
          ∙ ap (λ x. counted (sample_written m d x) x) e;
      device = c.judge_and_feed-signals.ensures.device ∙ ap (λ x. done m d (samples x (heard m d x))) reading-is
          ∙ ap (device_by m d) e;
      buffer =
          c.write_process_data.ensures.buffer
          ∙ ap (λ bs. placed bs out) block-shown
          ∙ sym (placed_room block-is out room)
          ∙ ap (λ x. over (sample_written m d x) out) e;
    }
