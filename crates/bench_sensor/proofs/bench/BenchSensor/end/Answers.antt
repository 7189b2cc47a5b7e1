use Rattle.std.proofs.Common.{sym, ap, ◌∙◌}
use Rattle.sensor.specs.Calls.{close_keypad}
use Rattle.sensor.specs.Rules.{next, serial}
use Rattle.bench_sensor.proofs.Keeping.{closes_with_its_own, none_closed, takes_back}
use Rattle.bench_sensor.proofs.bench.BenchSensor.end.Goals as goal

pub unreachable-requires : goal.unreachable-requires
unreachable-requires g c =
    closes_with_its_own g.K.Kind.meaning c.args.self.sensor c.in-Some.ticket c.in-Err._unclosed (sym c.in-Some.is
    ∙ c.args.self.kept) c.in-Err.ensures.reply

pub returns-in-Ok : goal.returns-in-Ok
returns-in-Ok g c =
    let m = g.K.Kind.meaning in
    let s = c.args.self.sensor in
    c.close_keypad.ensures.sensor
    ∙ ap (λ n. next m s (close_keypad n)) (takes_back m s c.in-Some.ticket (sym c.in-Some.is ∙ c.args.self.kept)).1

pub returns-in_default : goal.returns-in_default
returns-in_default g c = none_closed g.K.Kind.meaning c.args.self.sensor (serial c.args.self.sensor)
    (sym c.in_default.is ∙ c.args.self.kept)
