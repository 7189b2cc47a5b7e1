-- Numbers written in two or in four octets, the high octet first.
use Rattle.std.specs.Prelude.{ℕ, ◌+◌, ◌*◌, ◌/◌, ◌%◌, List, [], ◌∷◌, Some, None, Option}

-- A coding: how many octets it takes, the octets of a number, and the number that octets write.
-- Any other number of octets writes none.
pub record Coding : Type 0 where
  pub count : ℕ
  pub written : ℕ → List ℕ
  pub number : List ℕ → Option ℕ

-- ---- two octets
abbrev pub two_octets : ℕ → List ℕ
two_octets n = (n / 256 % 256) ∷ (n % 256) ∷ []

abbrev pub two_number : ℕ → ℕ → ℕ
two_number high low = high * 256 + low

abbrev pub number_of_two : List ℕ → Option ℕ
number_of_two [] = None
number_of_two (a ∷ []) = None
number_of_two (a ∷ b ∷ []) = Some (two_number a b)
number_of_two (a ∷ b ∷ c ∷ more) = None

abbrev pub two : Coding
two = record { count = 2; written = two_octets; number = number_of_two }

-- ---- four octets
abbrev pub four_octets : ℕ → List ℕ
four_octets n = (n / 16777216 % 256) ∷ (n / 65536 % 256) ∷ (n / 256 % 256) ∷ (n % 256) ∷ []

abbrev pub four_number : ℕ → ℕ → ℕ → ℕ → ℕ
four_number a b c d = a * 16777216 + b * 65536 + c * 256 + d

abbrev pub number_of_four : List ℕ → Option ℕ
number_of_four [] = None
number_of_four (a ∷ []) = None
number_of_four (a ∷ b ∷ []) = None
number_of_four (a ∷ b ∷ c ∷ []) = None
number_of_four (a ∷ b ∷ c ∷ d ∷ []) = Some (four_number a b c d)
number_of_four (a ∷ b ∷ c ∷ d ∷ e ∷ more) = None

abbrev pub four : Coding
four = record { count = 4; written = four_octets; number = number_of_four }
