-- Index and subindex as octets.
use Rattle.std.specs.Prelude.{ℕ, ◌%◌, cond, List, [], ◌∷◌, ◌++◌, Some, None, Option, ◌==◌, nat_lt}
use Rattle.octets.specs.Numbers.{two_number, two_octets}
use Rattle.isdu.specs.declared.services.Addressing.{Addressing}
use Rattle.isdu.specs.declared.services.Addressing.TheVariants.{Index8, Index8Sub, Index16Sub}

-- the octets that give index and subindex; the short addressing leaves a subindex of 0 out
abbrev pub address_octets : Addressing → ℕ → ℕ → List ℕ
address_octets Index8 index subindex = (index % 256) ∷ []
address_octets Index8Sub index subindex = (index % 256) ∷ subindex ∷ []
address_octets Index16Sub index subindex = two_octets index ++ (subindex ∷ [])

-- index, subindex and the octets after them, unless there are too few
abbrev pub address_of : Addressing → List ℕ → Option (ℕ × ℕ × List ℕ)
address_of Index8 [] = None
address_of Index8 (index ∷ rest) = Some (index, 0, rest)
address_of Index8Sub [] = None
address_of Index8Sub (index ∷ []) = None
address_of Index8Sub (index ∷ subindex ∷ rest) = Some (index, subindex, rest)
address_of Index16Sub [] = None
address_of Index16Sub (high ∷ []) = None
address_of Index16Sub (high ∷ low ∷ []) = None
address_of Index16Sub (high ∷ low ∷ subindex ∷ rest) = Some (two_number high low, subindex, rest)

-- the addressing that takes the fewest octets
abbrev pub shortest_addressing : ℕ → ℕ → Addressing
shortest_addressing index subindex = cond (nat_lt index 256) (cond (subindex == 0) Index8 Index8Sub) Index16Sub
