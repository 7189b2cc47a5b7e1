use Rattle.std.proofs.Common.{sym, ap, ◌∙◌}
use Rattle.bench_sensor.specs.Kept.{due}
use Rattle.bench_sensor.specs.declared.call.Reply.TheVariants.{Ticket}
use Rattle.bench_sensor.proofs.Keeping.{not_opened, opening}
use Rattle.bench_sensor.proofs.Replies.{opened_told, unopened_told}
use Rattle.bench_sensor.proofs.bench.BenchSensor.open.Goals as goal

pub keep-requires : goal.keep-requires
keep-requires g c =
    let s = c.args.self.now.sensor in
    c.args.self.now.kept ∙ (opening g.K.Kind.meaning s c.in-Ok.ticket c.in-Ok.ensures.reply).0

pub invariant_of-self : goal.invariant_of-self
invariant_of-self g c =
    let s = c.args.self.now.sensor in
    record {
      kept = c.keep.ensures ∙ (opening g.K.Kind.meaning s c.in-Ok.ticket c.in-Ok.ensures.reply).1
          ∙ ap due (sym c.open_keypad.ensures.sensor);
    }

pub invariant_of-self-in-Err-1 : goal.invariant_of-self-in-Err-1
invariant_of-self-in-Err-1 g c =
    let s = c.args.self.now.sensor in
    record {
      kept = not_opened g.K.Kind.meaning s c.open_keypad.new.self c.args.self.now.ticket c.in-Err.fault
          c.args.self.now.kept c.in-Err.ensures.reply c.open_keypad.ensures.sensor;
    }

pub returns-in-Ok-clause-reply : goal.returns-in-Ok-clause-reply
returns-in-Ok-clause-reply g c =
    let s = c.args.self.now.sensor in
    ap Ticket c.serial-serial.ensures ∙ opened_told g.K.Kind.meaning s c.in-Ok.ticket c.in-Ok.ensures.reply

pub returns-in-Err-clause-reply : goal.returns-in-Err-clause-reply
returns-in-Err-clause-reply g c = unopened_told g.K.Kind.meaning c.args.self.now.sensor c.in-Err.fault
    c.in-Err.ensures.reply
