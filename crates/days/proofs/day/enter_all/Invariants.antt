use Rattle.std.proofs.Common.{◌≡◌, ◌++◌, map, drop, vec_items}
use Rattle.sensor.specs.Rules.{after, entries}
use Rattle.bench_sensor.specs.Told.{call_of, sensor_of}
use Rattle.days.specs.Entries.{entry_told}
use Rattle.days.proofs.Entering.{Carries}
use Rattle.days.proofs.day.enter_all.Given as goal

-- what was entered so far, and what the calls that are left will give, is what all calls give; and the calls that are
-- left will lead to the sensor to which all calls lead, and their first ones to where the first of all calls lead
abbrev pub invariant-loop-line : goal.invariant-loop-line
invariant-loop-line g l =
    let m = g.K.Kind.meaning in
    let left = map call_of (drop l.line-index l.lines) in
    let calls = map call_of l.lines in
    (map entry_told (vec_items l.log) ++ entries m (sensor_of l.bench) left ≡ entries m (sensor_of l.fn.bench) calls)
    × (after m (sensor_of l.bench) left ≡ after m (sensor_of l.fn.bench) calls)
    × Carries m (sensor_of l.bench) left (sensor_of l.fn.bench) calls
