-- What a read shows of a channel.
use Rattle.std.specs.Prelude.{ℕ, ◌≤◌, List, [], ◌∷◌, ◌++◌, length, Some, None, Option}
use Rattle.octets.specs.Numbers.{two_octets}
use Rattle.kinds.specs.Meaning.{Meaning}
use Rattle.channels.specs.declared.row.Row.{Row}
use Rattle.objects.specs.declared.part.Part.{Part}
use Rattle.objects.specs.declared.part.Part.TheVariants.{Setpoints, Sp1, Sp2, Configuration, Logic, Mode, Hysteresis}

-- what a read shows has one octet to eight
abbrev pub OneToEight : List ℕ → Type 0
OneToEight octets = (1 ≤ length octets) × (length octets ≤ 8)

module _ {V : Type 0} where
  -- the octets of a part of a row
  abbrev pub part_read : Meaning V → Part → Row V → List ℕ
  part_read m Setpoints r = m.octets r.sp1 ++ m.octets r.sp2
  part_read m Sp1 r = m.octets r.sp1
  part_read m Sp2 r = m.octets r.sp2
  part_read m Configuration r = r.logic ∷ r.mode ∷ two_octets r.hysteresis
  part_read m Logic r = r.logic ∷ []
  part_read m Mode r = r.mode ∷ []
  part_read m Hysteresis r = two_octets r.hysteresis

  -- a channel that is not there shows nothing
  abbrev pub row_read : (Row V → List ℕ) → Option (Row V) → List ℕ
  row_read f None = []
  row_read f (Some r) = f r
