-- The sensor on a bench is no larger than the bench: by where a first field of two ends.
use Rattle.std.proofs.Common.{ℕ, ◌+◌, ◌<◌, arith}
use prog.Memory.{up}
use prog.Align.{up-ge}

pub sensor_fits : (limit k l e x y : ℕ) → up k (up l (e + x) + y) < limit → x < limit
sensor_fits limit k l e x y h = omega (arith, h, up-ge k (up l (e + x) + y), up-ge l (e + x))
