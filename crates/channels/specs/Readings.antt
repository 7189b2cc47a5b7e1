-- Readings, and how they are shown.
use Rattle.std.specs.Prelude.{ℕ, ◌+◌, cond, List, [], ◌∷◌, ◌++◌}
use Rattle.kinds.specs.Meaning.{Meaning, under}
use Rattle.channels.specs.declared.reading.Reading.{Reading}
use Rattle.channels.specs.declared.reading.Reading.TheVariants.{Value, Below, Above, NoData}

module _ {V : Type 0} (m : Meaning V) where
  -- a value under the range counts as Below, over it as Above
  abbrev pub within : V → V → Reading V → Reading V
  within low high (Value v) = cond (under m v low) Below (cond (under m high v) Above (Value v))
  within low high Below = Below
  within low high Above = Above
  within low high NoData = NoData

  -- the octets of a value, or of what stands in its place
  abbrev pub reading_octets : Reading V → List ℕ
  reading_octets (Value v) = m.octets v
  reading_octets Below = m.below_substitute
  reading_octets Above = m.above_substitute
  reading_octets NoData = m.no_data_substitute

  -- process data: the octets of the reading, the scale octet, the octet of signals
  abbrev pub process_data : Reading V → ℕ → ℕ → List ℕ
  process_data r scale signals = reading_octets r ++ (scale ∷ signals ∷ [])

  -- two octets more than a value has
  abbrev pub process_data_length : ℕ
  process_data_length = m.width + 2
