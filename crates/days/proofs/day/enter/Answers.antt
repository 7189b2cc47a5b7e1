use Rattle.std.proofs.Common.{◌≡◌, length, vec_items, ap, ◌∙◌, inr}
use Rattle.std.proofs.lemmas.List.{length-replicate}
use Rattle.sensor.specs.Calls.{Call}
use Rattle.sensor.specs.Rules.{next}
use Rattle.bench_sensor.specs.Told.{call_of, called, read_from}
use Rattle.bench_sensor.proofs.Replies.{read_back}
use Rattle.days.proofs.Entering.{channels_shown, next_by_name, on_err, written_back}
use Rattle.days.proofs.day.enter.Goals as goal

pub returns-clause-entry : goal.returns-clause-entry
returns-clause-entry g c =
    let m = g.K.Kind.meaning in
    let s = c.args.bench.now.sensor in
    let made = c.make-reply in
    let line = c.args.line.now in
    let zeros = c.as_mut_slice.result.now in
    let call : Call = called c.lend.result (length zeros) in
    let room : length zeros ≡ line.room = ap length (c.as_mut_slice.ensures.value ∙ c.in_ok-out.ensures)
    ∙ length-replicate line.room 0 in
    let call-is : call ≡ call_of line = ap (called c.lend.result) room ∙ c.lend.ensures in
    let told =
    c.keep_octets.ensures
    ∙ ap (λ buffer. read_from buffer made.result)
    (written_back made.new.out _ c.in_ok-out.out.len (made.auto.out ∙ c.as_mut_slice.ensures.len))
    ∙ read_back m s call (call_of line) zeros made.new.out made.result made.ensures.reply made.ensures.buffer call-is in
    let shows =
    channels_shown made.new.self.sensor (next m s (call_of line)) (vec_items c.in_ok-channels.channels)
    c.in_ok-channels.ensures
    (next_by_name m s made.new.self.sensor call (call_of line) made.ensures.sensor call-is) in
    λ i. record { reply = told i; channels = shows i }

pub returns-clause-sensor : goal.returns-clause-sensor
returns-clause-sensor g c =
    let made = c.make-reply in
    let line = c.args.line.now in
    let zeros = c.as_mut_slice.result.now in
    let call : Call = called c.lend.result (length zeros) in
    let room : length zeros ≡ line.room = ap length (c.as_mut_slice.ensures.value ∙ c.in_ok-out.ensures)
    ∙ length-replicate line.room 0 in
    let call-is : call ≡ call_of line = ap (called c.lend.result) room ∙ c.lend.ensures in
    next_by_name g.K.Kind.meaning c.args.bench.now.sensor made.new.self.sensor call (call_of line) made.ensures.sensor
    call-is

pub returns-in_err-channels-clause-part : goal.returns-in_err-channels-clause-part
returns-in_err-channels-clause-part g c =
    let made = c.make-reply in
    let line = c.args.line.now in
    let zeros = c.as_mut_slice.result.now in
    let call : Call = called c.lend.result (length zeros) in
    let room : length zeros ≡ line.room = ap length (c.as_mut_slice.ensures.value ∙ c.in_ok-out.ensures)
    ∙ length-replicate line.room 0 in
    let call-is : call ≡ call_of line = ap (called c.lend.result) room ∙ c.lend.ensures in
    let s = c.args.bench.now.sensor in
    let led = next_by_name g.K.Kind.meaning s made.new.self.sensor call (call_of line) made.ensures.sensor call-is in
    on_err c.from_residual-in_err-channels.result _ (inr led)
