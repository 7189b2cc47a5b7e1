-- What the entries of a log stand for.
use Rattle.std.specs.Prelude.{Bool, map, vec_items}
use Rattle.channels.specs.declared.row.Row.{Row}
use Rattle.channels.specs.Judging.{signal}
use Rattle.sensor.specs.Rules as rules
use Rattle.bench_sensor.specs.Told.{told}
use Rattle.days.specs.declared.entry.Channel.{Channel}
use Rattle.days.specs.declared.entry.Entry.{Entry}

module _ {V : Type 0} where
  -- a row with its signal
  abbrev pub channel_of : Row V → Channel V
  channel_of r = record { row = r; signal = signal r }

  abbrev pub channel_told : Channel V → Row V × Bool
  channel_told c = (c.row, c.signal)

  -- an entry: the reply, and what every channel shows after it
  abbrev pub entry_told : Entry V → rules.Entry V
  entry_told e = record { reply = told e.reply; channels = map channel_told (vec_items e.channels) }
