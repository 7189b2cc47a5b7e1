-- The channel table under a reading, and the octet of signals.
use Rattle.std.specs.Prelude.{ℕ, zero, suc, ◌+◌, ◌-◌, ◌*◌, min, Bool, false, cond, ◌&&◌, nat_le}
use Rattle.std.specs.Prelude.{List, [], ◌∷◌, ◌++◌, map, take, drop, replicate, slice_set, Some, None, Option}
use Rattle.kinds.specs.Meaning.{Meaning}
use Rattle.channels.specs.declared.reading.Reading.{Reading}
use Rattle.channels.specs.declared.row.Row.{Row}
use Rattle.channels.specs.declared.table.Table.{Table}
use Rattle.channels.specs.Judging.{judged, signal, single_point}

-- every row is judged
abbrev pub judged_rows : {V : Type 0} → Meaning V → Reading V → List (Row V) → List (Row V)
judged_rows m reading rows = map (judged m reading) rows

-- an octet whose lowest bit is the first signal, and so on
abbrev pub packed : List Bool → ℕ
packed [] = 0
packed (b ∷ bs) = cond b 1 0 + 2 * packed bs

-- a sensor has at most so many channels
abbrev pub most_channels : ℕ
most_channels = 8

-- what stands at a place of a list, counted from 0
abbrev pub nth : {A : Type 0} → List A → ℕ → Option A
nth [] k = None
nth (x ∷ xs) zero = Some x
nth (x ∷ xs) (suc k) = nth xs k

module _ {V : Type 0} where
  -- a table has a row for each channel that there may be, of which the first `count` are channels
  abbrev pub rows_present : Table V → ℕ
  rows_present t = min t.count most_channels

  abbrev pub present : Table V → List (Row V)
  present t = take (rows_present t) t.rows

  -- bit k-1 is channel k's signal, 0 where the channel is absent
  abbrev pub signals_octet : Table V → ℕ
  signals_octet t = packed (map signal (present t))

  -- a reading judges every channel by its settings
  abbrev pub judged_table : Meaning V → Reading V → Table V → Table V
  judged_table m reading t = record {
    rows = judged_rows m reading (present t) ++ drop (rows_present t) t.rows;
    count = t.count;
  }

  -- an inactive row: its settings are as they were
  abbrev pub inactive_row : Row V → Row V
  inactive_row r = record r { active = false }

  -- every channel is inactive
  abbrev pub inactive_table : Table V → Table V
  inactive_table t = record { rows = map inactive_row (present t) ++ drop (rows_present t) t.rows; count = t.count }

  -- after set-up: SP1 low, SP2 high, logic 0, mode 1, hysteresis 0, inactive
  abbrev pub fresh_row : V → V → Row V
  fresh_row low high = record { sp1 = low; sp2 = high; hysteresis = 0; logic = 0; mode = single_point; active = false }

  abbrev pub fresh_table : ℕ → V → V → Table V
  fresh_table count low high = record { rows = replicate most_channels (fresh_row low high); count = count }

  -- channels count from 1
  abbrev pub has_channel : Table V → ℕ → Bool
  has_channel t k = nat_le 1 k && nat_le k (rows_present t)

  -- the row of a channel, if it is present
  abbrev pub row_at : Table V → ℕ → Option (Row V)
  row_at t k = cond (has_channel t k) (nth t.rows (k - 1)) None

  -- the table with another row for a channel, if it is present
  abbrev pub with_row : Table V → ℕ → Row V → Table V
  with_row t k r = record { rows = cond (has_channel t k) (slice_set t.rows (k - 1) r) t.rows; count = t.count }
