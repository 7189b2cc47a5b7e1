-- What a read shows has one octet to eight, and a channel that has its row has it among the rows.
use Rattle.std.proofs.Common.{◌≡◌, ℕ, zero, suc, ◌-◌, Bool, true, false, cond, List, [], ◌∷◌, slice_index_or, is_some}
use Rattle.std.proofs.Common.{Some, None, Option, refl, arith}
use Rattle.kinds.specs.Meaning.{Meaning, Lawful}
use Rattle.channels.specs.declared.row.Row.{Row}
use Rattle.channels.specs.declared.table.Table.{Table}
use Rattle.channels.specs.Table.{has_channel, nth, row_at}
use Rattle.objects.specs.declared.access.Shown.{Shown}
use Rattle.objects.specs.declared.access.Shown.TheVariants.{Selected, TeachResult, Channel}
use Rattle.objects.specs.Objects.{ShownHasRow}
use Rattle.objects.specs.Reads.{OneToEight, part_read, row_read}
use Rattle.objects.proofs.Showing.{part_shown}
use Rattle.sensor.specs.declared.device.Device.{Device}
use Rattle.sensor.specs.Requests.{octets_shown}

module _ {V : Type 0} (m : Meaning V) (l : Lawful V m) where
  row_shown : (f : Row V → List ℕ) → ((r : Row V) → OneToEight (f r)) → (o : Option (Row V)) → is_some o ≡ true
      → OneToEight (row_read f o)
  row_shown f h None e = absurd (let z : ◌≡◌ {A = ℕ} 0 1 = cc in omega arith)
  row_shown f h (Some r) e = h r

  pub read_shown : (d : Device V) (shown : Shown) → ShownHasRow d.channels shown → OneToEight (octets_shown m d shown)
  read_shown d Selected h = (omega arith, omega arith)
  read_shown d TeachResult h = (omega arith, omega arith)
  read_shown d (Channel k p) h = row_shown (part_read m p) (part_shown m l p) (row_at d.channels k) h

module _ {V : Type 0} where
  nth_some : (rows : List (Row V)) (j : ℕ) (d : Row V) → is_some (nth rows j) ≡ true
      → Some (slice_index_or rows j d) ≡ nth rows j
  nth_some [] j d h = absurd (let z : ◌≡◌ {A = ℕ} 0 1 = cc in omega arith)
  nth_some (r ∷ rows) zero d h = refl
  nth_some (r ∷ rows) (suc j) d h = nth_some rows j d h

  pub row_some : (t : Table V) (k : ℕ) (d : Row V) → is_some (row_at t k) ≡ true
      → Some (slice_index_or t.rows (k - 1) d) ≡ row_at t k
  row_some t k d = by_presence (has_channel t k)
    where
      by_presence : (b : Bool) → is_some (cond b (nth t.rows (k - 1)) None) ≡ true
          → Some (slice_index_or t.rows (k - 1) d) ≡ cond b (nth t.rows (k - 1)) None
      by_presence true h = nth_some t.rows (k - 1) d h
      by_presence false h = absurd (let z : ◌≡◌ {A = ℕ} 0 1 = cc in omega arith)
