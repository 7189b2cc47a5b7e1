-- Floats of 32 bits: which of them are values, how they are ordered, and how they are moved.
use Rattle.std.specs.Prelude.{ℕ, ◌%◌, ◌^◌, ◌<◌, min, Bool, true, false, cond, not, ◌&&◌, ℤ, pos, neg_ℤ, ◌==◌}
use Rattle.std.specs.Prelude.{from_bits, nat_le, to_bits, Float}
use Rattle.std.specs.Float.{binary32}
use Rattle.std.specs.Float.Ieee.{add, mul, le, eq, of_int, fits}
use Rattle.std.specs.Float.Ieee.Exact.{HasValue}
use Rattle.std.specs.Float.Ieee.Scale.{finite}

-- the sign bit of a float's pattern, and its other 31 bits
abbrev pub negative : Float → Bool
negative x = nat_le (2 ^ 31) (to_bits binary32 x)

abbrev pub magnitude : Float → ℕ
magnitude x = to_bits binary32 x % 2 ^ 31

-- n with a sign
abbrev pub signed : Bool → ℕ → ℤ
signed false n = pos n
signed true n = neg_ℤ (pos n)

-- the magnitude with the sign: it ascends as the values do, and that of zero is 0
abbrev pub rank : Float → ℤ
rank x = signed (negative x) (magnitude x)

-- a value: a float of 32 bits that is finite and not -0
abbrev pub proper : Float → Bool
proper x = fits binary32 x && (finite x && not (to_bits binary32 x == 2 ^ 31))

abbrev pub zero_float : Float
zero_float = from_bits binary32 0

-- -0 taken as +0, and any other float as it is
abbrev pub plain : Float → Float
plain x = cond (eq x zero_float) zero_float x

-- n steps of 2^-10, whose pattern is 3A800000; a number of steps has 16 bits
abbrev pub step : Float
step = from_bits binary32 0x3a800000

abbrev pub distance : ℕ → Float
distance n = mul binary32 (of_int binary32 (pos (min n 65535))) step

-- the distance is n / 1024, not rounded
abbrev pub ExactDistances : Type 0
ExactDistances = (n : ℕ) → n < 2 ^ 16 → HasValue (distance n) false n 1024

-- the lower and the higher of two
abbrev pub lesser : Float → Float → Float
lesser x y = cond (le x y) x y

abbrev pub greater : Float → Float → Float
greater x y = cond (le x y) y x

-- x where it lies between low and high, else the end that it is beyond
abbrev pub between : Float → Float → Float → Float
between x low high = cond (le low x) (cond (le x high) x high) low

-- each is halved and the halves are added, every operation rounded once; the pattern of 0.5 is 3F000000
abbrev pub half : Float
half = from_bits binary32 0x3f000000

abbrev pub halves : Float → Float → Float
halves x y = add binary32 (mul binary32 x half) (mul binary32 y half)

-- the middle of two: that sum, brought between them
abbrev pub middle : Float → Float → Float
middle x y = plain (between (halves x y) (lesser x y) (greater x y))
