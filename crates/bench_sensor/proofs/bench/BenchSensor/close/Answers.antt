use Rattle.std.proofs.Common.{sym, ap, ◌∙◌, subst}
use Rattle.keypad.specs.Operations.{serial_of}
use Rattle.bench_sensor.specs.Kept.{TakesBack, due}
use Rattle.bench_sensor.proofs.Keeping.{closed_serial, closing, not_closed}
use Rattle.bench_sensor.proofs.Replies.{closed_told, unclosed_told}
use Rattle.bench_sensor.proofs.bench.BenchSensor.close.Goals as goal

pub invariant_of-self : goal.invariant_of-self
invariant_of-self g c =
    let p = closing g.K.Kind.meaning c.args.self.now.sensor c.spare.result.1 c.in-Ok.ensures.reply in
    record { kept = c.take.ensures.after ∙ p.1 ∙ ap due (sym c.close_keypad.ensures.sensor) }

-- the ticket that was kept bears the serial number
pub give_back-requires : goal.give_back-requires
give_back-requires g c =
    let bears = ap serial_of c.spare.ensures.ticket in
    let own = c.in-Some.ensures.value ∙ c.args.self.now.kept in
    subst (TakesBack c.spare.result.0)
    (closed_serial g.K.Kind.meaning c.args.self.now.sensor c.spare.result.1 c.in-Some.own c.args.serial bears own
    c.in-Ok.ensures.reply)
    c.spare.ensures.keypad

pub invariant_of-self-in-Err-1 : goal.invariant_of-self-in-Err-1
invariant_of-self-in-Err-1 g c = record {
  kept = (not_closed g.K.Kind.meaning c.args.self.now.sensor c.close_keypad.new.self c.args.self.now.ticket
      c.spare.result.1 c.in-Err.field-0 c.args.self.now.kept
      c.in-Err.ensures.reply c.close_keypad.ensures.sensor).0;
}

-- and so does the ticket that is handed back
pub give_back-requires-in-Err : goal.give_back-requires-in-Err
give_back-requires-in-Err g c =
    let same = (not_closed g.K.Kind.meaning c.args.self.now.sensor c.close_keypad.new.self c.args.self.now.ticket
    c.spare.result.1 c.in-Err.field-0
    c.args.self.now.kept c.in-Err.ensures.reply c.close_keypad.ensures.sensor).1 in
    subst (TakesBack c.spare.result.0) (sym (ap serial_of (same ∙ c.spare.ensures.ticket))) c.spare.ensures.keypad

pub returns-in-Some-clause-reply : goal.returns-in-Some-clause-reply
returns-in-Some-clause-reply g c =
    closed_told g.K.Kind.meaning c.args.self.now.sensor c.spare.result.1 c.args.serial
    (ap serial_of c.spare.ensures.ticket) c.in-Ok.ensures.reply

pub returns-in_default-clause-reply : goal.returns-in_default-clause-reply
returns-in_default-clause-reply g c =
    closed_told g.K.Kind.meaning c.args.self.now.sensor c.spare.result.1 c.args.serial
    (ap serial_of c.spare.ensures.ticket) c.in-Ok.ensures.reply

pub returns-in-Err-clause-reply : goal.returns-in-Err-clause-reply
returns-in-Err-clause-reply g c =
    unclosed_told g.K.Kind.meaning c.args.self.now.sensor c.spare.result.1 c.args.serial c.in-Err.field-0
    (ap serial_of c.spare.ensures.ticket) c.in-Err.ensures.reply
