-- What a read shows of a channel has from one to eight octets.
use Rattle.std.proofs.Common.{◌≤◌, ◌++◌, inl, inr, arith, length-append}
use Rattle.kinds.specs.Meaning.{Meaning, Lawful}
use Rattle.channels.specs.declared.row.Row.{Row}
use Rattle.objects.specs.declared.part.Part.{Part}
use Rattle.objects.specs.declared.part.Part.TheVariants.{Setpoints, Sp1, Sp2, Configuration, Logic, Mode, Hysteresis}
use Rattle.objects.specs.Reads.{OneToEight, part_read}

module _ {V : Type 0} (m : Meaning V) (l : Lawful V m) where
  narrow : (2 ≤ m.width) × (m.width ≤ 4)
  narrow = elim l.width_two_or_four [ inl e ↦ (omega arith, omega arith) | inr e ↦ (omega arith, omega arith) ]

  one : (v : V) → OneToEight (m.octets v)
  one v = (omega (arith, l.octets_wide v, narrow), omega (arith, l.octets_wide v, narrow))

  both : (v w : V) → OneToEight (m.octets v ++ m.octets w)
  both v w =
      let all = length-append (m.octets v) (m.octets w) in (
        omega (arith, all, l.octets_wide v, l.octets_wide w, narrow),
        omega (arith, all, l.octets_wide v, l.octets_wide w, narrow),
      )

  pub part_shown : (p : Part) (r : Row V) → OneToEight (part_read m p r)
  part_shown Setpoints r = both r.sp1 r.sp2
  part_shown Sp1 r = one r.sp1
  part_shown Sp2 r = one r.sp2
  part_shown Configuration r = (omega arith, omega arith)
  part_shown Logic r = (omega arith, omega arith)
  part_shown Mode r = (omega arith, omega arith)
  part_shown Hysteresis r = (omega arith, omega arith)
