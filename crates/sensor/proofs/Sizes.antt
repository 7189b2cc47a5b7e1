-- What is stored in a sensor is no larger than the sensor: by where a last field, and what a Some holds, end.
use Rattle.std.proofs.Common.{ℕ, ◌+◌, ◌<◌, ◌≤◌, max, arith}
use prog.Memory.{up}
use prog.Align.{up-ge}

last_field : (k e x : ℕ) → x ≤ up k (e + x)
last_field k e x = omega (arith, up-ge k (e + x))

in_some : (k e x : ℕ) → x ≤ up k (max 1 (max (e + x) 1))
in_some k e x = omega (arith, up-ge k (max 1 (max (e + x) 1)))

-- the device
pub device_fits : (limit k e l f x : ℕ) → up k (e + up l (max 1 (max (f + x) 1))) < limit → x < limit
device_fits limit k e l f x h = omega (arith, h, in_some l f x, last_field k e (up l (max 1 (max (f + x) 1))))

-- its table
pub table_fits : (limit k e l f p q x : ℕ) → up k (e + up l (max 1 (max (f + up p (q + x)) 1))) < limit → x < limit
table_fits limit k e l f p q x h = omega (arith, device_fits limit k e l f (up p (q + x)) h, last_field p q x)
