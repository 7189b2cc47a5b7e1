-- Octets that a number is written in give the number back.
use Rattle.std.proofs.Common.{◌≡◌, ℕ, ◌+◌, ◌*◌, ◌/◌, ◌%◌, ◌^◌, ◌<◌, List, [], ◌∷◌, length, Some, refl, ap, ◌∙◌, arith}
use Rattle.std.proofs.lemmas.Option.{none-some}
use Rattle.std.proofs.Math.Nat.{div-div-eq-div-mul}
use Rattle.octets.specs.Numbers.{Coding, two, four, two_number, number_of_two, four_number, number_of_four}

-- What makes a coding of numbers below a bound sound.
pub record Sound (c : Coding) (bound : ℕ) : Type 0 where
  pub wide : (n : ℕ) → length (c.written n) ≡ c.count
  pub back : (n : ℕ) → n < bound → c.number (c.written n) ≡ Some n
  pub only : (xs : List ℕ) (n : ℕ) → c.number xs ≡ Some n → length xs ≡ c.count

-- ---- two octets
pub two_sound : Sound two (2 ^ 16)
two_sound = record { wide = λ n. refl; back = λ n h. ap Some (together n h); only = only }
  where
    together : (n : ℕ) → n < 2 ^ 16 → two_number (n / 256 % 256) (n % 256) ≡ n
    together n h = omega arith

    only : (xs : List ℕ) (n : ℕ) → number_of_two xs ≡ Some n → length xs ≡ 2
    only [] n e = absurd (none-some n e)
    only (a ∷ []) n e = absurd (none-some n e)
    only (a ∷ b ∷ []) n e = refl
    only (a ∷ b ∷ c ∷ more) n e = absurd (none-some n e)

-- ---- four octets
digit : (n : ℕ) → n ≡ n / 256 * 256 + n % 256
digit n = omega arith

-- by quotients q and remainders r of 256, one after another
regrouped : (n q₁ q₂ q₃ r₀ r₁ r₂ : ℕ) → n ≡ q₁ * 256 + r₀ → q₁ ≡ q₂ * 256 + r₁ → q₂ ≡ q₃ * 256 + r₂
    → four_number q₃ r₂ r₁ r₀ ≡ n
regrouped n q₁ q₂ q₃ r₀ r₁ r₂ e f g = omega arith

high_digit : (n : ℕ) → n < 2 ^ 32 → n / 16777216 % 256 ≡ n / 16777216
high_digit n h = omega arith

four_together : (n : ℕ) → n < 2 ^ 32 → four_number (n / 16777216 % 256) (n / 65536 % 256) (n / 256 % 256) (n % 256) ≡ n
four_together n h =
    ap (λ (q : ℕ). four_number q (n / 65536 % 256) (n / 256 % 256) (n % 256)) (high_digit n h)
    ∙ regrouped n (n / 256) (n / 65536) (n / 16777216) (n % 256) (n / 256 % 256) (n / 65536 % 256) (digit n)
    (digit (n / 256) ∙ ap (λ (q : ℕ). q * 256 + n / 256 % 256) (div-div-eq-div-mul n 256 256))
    (digit (n / 65536) ∙ ap (λ (q : ℕ). q * 256 + n / 65536 % 256) (div-div-eq-div-mul n 65536 256))

pub four_sound : Sound four (2 ^ 32)
four_sound = record { wide = λ n. refl; back = λ n h. ap Some (four_together n h); only = only }
  where
    only : (xs : List ℕ) (n : ℕ) → number_of_four xs ≡ Some n → length xs ≡ 4
    only [] n e = absurd (none-some n e)
    only (a ∷ []) n e = absurd (none-some n e)
    only (a ∷ b ∷ []) n e = absurd (none-some n e)
    only (a ∷ b ∷ c ∷ []) n e = absurd (none-some n e)
    only (a ∷ b ∷ c ∷ d ∷ []) n e = refl
    only (a ∷ b ∷ c ∷ d ∷ f ∷ more) n e = absurd (none-some n e)
