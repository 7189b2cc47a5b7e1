-- The check octet: the last octet of a frame, which makes the exclusive-or of all its octets 0.
use Rattle.std.specs.Prelude.{ℕ, ◌-◌, List, [], ◌∷◌, ◌++◌, length, take, fold, bit_xor}

-- the exclusive-or of all octets
abbrev pub exclusive_or : List ℕ → ℕ
exclusive_or octets = fold bit_xor 0 octets

-- octets with their check octet behind them
abbrev pub with_check : List ℕ → List ℕ
with_check octets = octets ++ (exclusive_or octets ∷ [])

-- the octets before the last, which is the check octet
abbrev pub before_check : List ℕ → List ℕ
before_check octets = take (length octets - 1) octets
