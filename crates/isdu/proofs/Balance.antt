-- The check octet: with it the exclusive-or is 0, and no other octet makes it so.
use Rattle.std.proofs.Common.{◌≡◌, ◌==◌, ℕ, suc, ◌+◌, ◌-◌, ◌≤◌, List, [], ◌∷◌, ◌++◌, length, get_or, take, drop, sym}
use Rattle.std.proofs.Common.{ap, ◌∙◌, arith}
use lib.Bits.{xor_assoc}
use Rattle.std.specs.Cmp.{both_ways}
use Rattle.std.specs.Int.Bits.{bit_xor, xor_self, xor_zero_r}
use Rattle.std.proofs.lemmas.Bool.{eq-eqb, eqb-true}
use Rattle.std.proofs.lemmas.List.{length_push, length-take-le, take_all, take_at, take_more}
use Rattle.std.proofs.lemmas.List.Sums.{fold_push}
use Rattle.std.specs.List.{fold}
use Rattle.isdu.specs.CheckOctet.{exclusive_or, with_check, before_check}

pub checked_balanced : (xs : List ℕ) → exclusive_or (with_check xs) ≡ 0
checked_balanced xs = fold_push bit_xor 0 xs (exclusive_or xs) ∙ xor_self (exclusive_or xs)

pub before_check_push : (xs : List ℕ) (c : ℕ) → before_check (xs ++ c ∷ []) ≡ xs
before_check_push xs c = take_at xs (c ∷ []) (length (xs ++ c ∷ []) - 1) (omega (arith, length_push xs c))

pub before_check_length : (xs : List ℕ) → length (before_check xs) ≡ length xs - 1
before_check_length xs = length-take-le (length xs - 1) xs (omega arith)

-- the octets before the last, and the last
pub split_last : (xs : List ℕ) → 1 ≤ length xs → xs ≡ before_check xs ++ get_or xs (length xs - 1) 0 ∷ []
split_last xs h =
    let e : length xs - 1 + 1 ≡ length xs = omega arith in
    sym (take_all (length xs - 1 + 1) xs (omega arith)) ∙ take_more xs (length xs - 1) 0 (omega arith)

-- the first octet, those in between, and the last
pub split_ends : (xs : List ℕ) → 2 ≤ length xs → xs ≡ get_or xs 0 0 ∷ take (length xs - 1 - 1) (drop 1 xs)
    ++ get_or xs (length xs - 1) 0 ∷ []
split_ends [] h = absurd (omega arith)
split_ends (x ∷ []) h = absurd (omega arith)
split_ends (x ∷ y ∷ ys) h =
    let n = length (y ∷ ys) in
    let k : n - 1 ≡ length (x ∷ y ∷ ys) - 1 - 1 = omega arith in
    let l : suc (n - 1) ≡ length (x ∷ y ∷ ys) - 1 = omega arith in
    ap (λ us. x ∷ us) (split_last (y ∷ ys) (omega arith))
    ∙ (λ i. x ∷ take (k i) (y ∷ ys) ++ get_or (x ∷ y ∷ ys) (l i) 0 ∷ [])

-- two octets are equal exactly where their exclusive-or is 0
same_octets : (a c : ℕ) → (a == c) ≡ (bit_xor a c == 0)
same_octets a c =
    let back : bit_xor (bit_xor a c) c ≡ a = xor_assoc a c c ∙ ap (λ n. bit_xor a n) (xor_self c) ∙ xor_zero_r a in
    both_ways (a == c) (bit_xor a c == 0)
    (λ h. eq-eqb (bit_xor a c) 0 (ap (λ n. bit_xor n c) (eqb-true a c h) ∙ xor_self c))
    (λ h. eq-eqb a c (sym back ∙ ap (λ n. bit_xor n c) (eqb-true (bit_xor a c) 0 h)))

-- the last octet is the check octet of those before it exactly where the exclusive-or of all is 0
pub last_balances : (first : ℕ) (xs : List ℕ) (last : ℕ)
    → (fold bit_xor first xs == last) ≡ (exclusive_or (first ∷ xs ++ last ∷ []) == 0)
last_balances first xs last = same_octets (fold bit_xor first xs) last
    ∙ ap (λ n. n == 0) (sym (fold_push bit_xor first xs last))
