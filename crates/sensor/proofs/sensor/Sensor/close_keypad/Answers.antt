use Rattle.std.proofs.Common.{rules}
use Rattle.sensor.proofs.Sizes.{device_fits}
use Rattle.sensor.proofs.sensor.Sensor.close_keypad.Goals as goal

pub close_keypad-requires : goal.close_keypad-requires
close_keypad-requires g c = search (rules, device_fits)
