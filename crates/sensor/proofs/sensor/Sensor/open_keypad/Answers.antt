use Rattle.std.proofs.Common.{rules}
use Rattle.sensor.proofs.Sizes.{device_fits}
use Rattle.sensor.proofs.sensor.Sensor.open_keypad.Goals as goal

pub open_keypad-requires : goal.open_keypad-requires
open_keypad-requires g c = search (rules, device_fits)
