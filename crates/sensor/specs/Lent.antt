-- Readings and set-ups with lent octets, as the rules take them.
use Rattle.std.specs.Prelude.{ℕ, List}
use Rattle.std.specs.Borrow.{Bor}
use Rattle.channels.specs.declared.reading.Reading.{Reading}
use Rattle.channels.specs.declared.reading.Reading.TheVariants.{Value, Below, Above, NoData}
use Rattle.sensor.specs.declared.setup.Setup.{Setup}

abbrev pub lent_reading : Reading (Bor (List ℕ)) → Reading (List ℕ)
lent_reading (Value octets) = Value octets.now
lent_reading Below = Below
lent_reading Above = Above
lent_reading NoData = NoData

abbrev pub lent_setup : Setup (Bor (List ℕ)) → Setup (List ℕ)
lent_setup g = record {
  serial = g.serial;
  channels = g.channels;
  scale = g.scale;
  terms = g.terms;
  range = record { low = g.range.low.now; high = g.range.high.now };
}
