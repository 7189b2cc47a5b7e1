-- The session of Float32T, computed on the patterns of its values.
use Rattle.std.proofs.Common.{refl}
use Rattle.std.specs.Float.Ieee.{eq, fits, of_bits, of_int, to_bits}
use Rattle.sensor.specs.Rules.{checked}
use Rattle.worked.specs.Sessions.{DeniesNotANumber}

pub denies_not_a_number : DeniesNotANumber
unfolding checked eq fits of_bits of_int to_bits
denies_not_a_number = refl
