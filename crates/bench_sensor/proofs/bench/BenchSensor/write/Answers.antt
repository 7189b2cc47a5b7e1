use Rattle.std.proofs.Common.{ℕ, ap}
use Rattle.sensor.specs.Calls.{write_keypad}
use Rattle.keypad.specs.Operations.{serial_of}
use Rattle.bench_sensor.proofs.Keeping.{stays}
use Rattle.bench_sensor.proofs.Replies.{plain_told}
use Rattle.bench_sensor.proofs.bench.BenchSensor.write.Goals as goal

pub returns-clause-reply : goal.returns-clause-reply
returns-clause-reply g c =
    let call = λ (n : ℕ). write_keypad n c.args.channel c.args.setpoint c.args.octets.now in
    plain_told g.K.Kind.meaning c.args.self.now.sensor (call (serial_of c.spare.result.1)) (call c.args.serial)
    c.keypad_write-answer.result c.plainly.result tt
    c.plainly.ensures c.keypad_write-answer.ensures.reply (ap (λ t. call (serial_of t)) c.spare.ensures.ticket)

pub invariant_of-self : goal.invariant_of-self
invariant_of-self g c =
    let call = write_keypad (serial_of c.spare.result.1) c.args.channel c.args.setpoint c.args.octets.now in
    record {
      kept = stays g.K.Kind.meaning c.args.self.now.sensor c.keypad_write-answer.new.self c.args.self.now.ticket call tt
          c.args.self.now.kept
          c.keypad_write-answer.ensures.sensor;
    }
