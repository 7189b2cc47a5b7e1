use Rattle.std.proofs.Common.{◌++◌, map}
use Rattle.laws.proofs.Settings.{last_written_stands}
use Rattle.laws.proofs.Stored.{stores_within_captured}
use Rattle.laws.proofs.Strikes.{foreign_calls_leave_no_trace}
use Rattle.laws.proofs.Taught.{taught_from_captured}
use Rattle.laws.proofs.Turns.{turns_apart}
use Rattle.bench_sensor.specs.Told.{call_of}
use Rattle.days.proofs.day.run.Goals as goal

pub returns-clause-foreign_calls_leave_no_trace : goal.returns-clause-foreign_calls_leave_no_trace
returns-clause-foreign_calls_leave_no_trace g c before =
    foreign_calls_leave_no_trace g.K.Kind.meaning (before ++ map call_of c.args.lines.now)

pub returns-clause-stores_within_captured : goal.returns-clause-stores_within_captured
returns-clause-stores_within_captured g c before =
    stores_within_captured g.K.Kind.meaning g.met.K.Kind.lawful (before ++ map call_of c.args.lines.now)

pub returns-clause-taught_from_captured : goal.returns-clause-taught_from_captured
returns-clause-taught_from_captured g c before =
    taught_from_captured g.K.Kind.meaning (before ++ map call_of c.args.lines.now)

pub returns-clause-turns_apart : goal.returns-clause-turns_apart
returns-clause-turns_apart g c before = turns_apart g.K.Kind.meaning g.met.K.Kind.lawful (before
    ++ map call_of c.args.lines.now)

pub returns-clause-last_written_stands : goal.returns-clause-last_written_stands
returns-clause-last_written_stands g c before =
    last_written_stands g.K.Kind.meaning (before ++ map call_of c.args.lines.now)
