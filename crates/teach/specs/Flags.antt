-- The flags of captured teachpoints.
use Rattle.std.specs.Prelude.{ℕ, ◌+◌, Bool, true, false, cond, ◌&&◌}
use Rattle.teach.specs.declared.command.Setpoint.{Setpoint}
use Rattle.teach.specs.declared.command.Setpoint.TheVariants.{Sp1, Sp2}
use Rattle.teach.specs.declared.machine.Teachpoints.{Teachpoints}
use Rattle.teach.specs.declared.machine.Flags.{Flags}
use Rattle.teach.specs.declared.machine.Change.{Change}
use Rattle.teach.specs.declared.machine.Change.TheVariants.{Keep, Clear, Set}
use Rattle.teach.specs.Teachpoints.{with_teachpoint}

abbrev pub of_setpoint : Flags → Setpoint → Teachpoints Bool
of_setpoint f Sp1 = f.sp1
of_setpoint f Sp2 = f.sp2

-- both teachpoints of a setpoint are flagged
abbrev pub both_set : Flags → Setpoint → Bool
both_set f sp = (of_setpoint f sp).tp1 && (of_setpoint f sp).tp2

abbrev pub none_set : Teachpoints Bool
none_set = record { tp1 = false; tp2 = false }

abbrev pub no_flags : Flags
no_flags = record { sp1 = none_set; sp2 = none_set }

abbrev pub with_setpoint : Setpoint → Teachpoints Bool → Flags → Flags
with_setpoint Sp1 c f = record { sp1 = c; sp2 = f.sp2 }
with_setpoint Sp2 c f = record { sp1 = f.sp1; sp2 = c }

-- the flags after a step: kept, cleared for a setpoint, or one of them set
abbrev pub changed : Change → Flags → Flags
changed Keep f = f
changed (Clear sp) f = with_setpoint sp none_set f
changed (Set sp tp) f = with_setpoint sp (with_teachpoint (of_setpoint f sp) tp true) f

-- SP1 TP1, SP1 TP2, SP2 TP1, SP2 TP2 in bits 4 to 7
abbrev pub flag_bits : Flags → ℕ
flag_bits f = cond f.sp1.tp1 16 0 + cond f.sp1.tp2 32 0 + cond f.sp2.tp1 64 0 + cond f.sp2.tp2 128 0
