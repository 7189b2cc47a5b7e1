use Rattle.std.proofs.Common.{rules}
use Rattle.bench_sensor.proofs.Sizes.{sensor_fits}
use Rattle.bench.proofs.run.Bench.run.Goals as goal

pub end-sensor-requires : goal.end-sensor-requires
end-sensor-requires g c = search (rules, sensor_fits)
