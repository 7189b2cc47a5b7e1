-- What composing and decoding promise of one another.
use Rattle.std.specs.Prelude.{◌≡◌, ℕ, ◌<◌, ◌≤◌, List, [], ◌∷◌, length, take, Ok, Err, Result}
use Rattle.faults.specs.declared.Fault.{Fault}
use Rattle.isdu.specs.Requests.{Asked}
use Rattle.isdu.specs.Decoding.{decoded}
use Rattle.isdu.specs.Composing.{frame_of, composed}

-- the octets written to the buffer decode as the same request
abbrev pub ReadsBack : Asked → Result ℕ Fault → List ℕ → Type 0
ReadsBack asked (Ok n) buffer = decoded (take n buffer) ≡ Ok asked
ReadsBack asked (Err denied) buffer = Unit {0}

-- numbers that are octets
abbrev pub Octets : List ℕ → Type 0
Octets [] = Unit {0}
Octets (octet ∷ rest) = (octet < 256) × Octets rest

-- no octets that decode as the same request are fewer
abbrev pub Shortest : Asked → Result ℕ Fault → Type 0
Shortest asked (Ok n) = (frame : List ℕ) → Octets frame → decoded frame ≡ Ok asked → n ≤ length frame
Shortest asked (Err denied) = Unit {0}

-- what was decoded from n octets composes again, in n octets or fewer, wherever there is room for them
abbrev pub Recomposes : Result Asked Fault → ℕ → Type 0
Recomposes (Ok asked) n =
    (length (frame_of asked) ≤ n)
    × ((room : ℕ) → length (frame_of asked) ≤ room → composed asked room ≡ Ok (length (frame_of asked)))
Recomposes (Err denied) n = Unit {0}
