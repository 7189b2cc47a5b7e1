use Rattle.std.proofs.Common.{rules}
use Rattle.sensor.proofs.Sizes.{table_fits}
use Rattle.sensor.proofs.sensor.Sensor.channels.Goals as goal

pub present-requires : goal.present-requires
present-requires g c = search (rules, table_fits)
