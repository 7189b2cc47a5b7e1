use Rattle.std.proofs.Common.{rules}
use Rattle.sensor.proofs.Sizes.{device_fits}
use Rattle.sensor.proofs.sensor.Sensor.keypad_write.Goals as goal

pub keypad_write-requires : goal.keypad_write-requires
keypad_write-requires g c = search (rules, device_fits)
