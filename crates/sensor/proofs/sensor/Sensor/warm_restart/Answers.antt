use Rattle.std.proofs.Common.{rules}
use Rattle.sensor.proofs.Sizes.{device_fits}
use Rattle.sensor.proofs.sensor.Sensor.warm_restart.Goals as goal

pub restart-requires : goal.restart-requires
restart-requires g c = search (rules, device_fits)
