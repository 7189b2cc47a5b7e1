-- What an access with lent octets stands for.
use Rattle.std.specs.Prelude.{List, ℕ, Ok, Err, Result}
use Rattle.std.specs.Borrow.{Bor}
use Rattle.faults.specs.declared.Fault.{Fault}
use Rattle.objects.specs.declared.access.Access.{Access}
use Rattle.objects.specs.declared.access.Access.TheVariants.{Read, Write}
use Rattle.objects.specs.declared.access.Content.{Content}
use Rattle.objects.specs.declared.access.Content.TheVariants.{Setpoints, Sp1, Sp2}
use Rattle.objects.specs.declared.access.Content.TheVariants.{Configuration, Logic, Mode, Hysteresis}
use Rattle.objects.specs.declared.access.Written.{Written}
use Rattle.objects.specs.declared.access.Written.TheVariants.{Command, Select, Channel}

-- octets that a caller lends
abbrev pub Lent : Type 0
Lent = Bor (List ℕ)

abbrev pub lent_content : Content Lent → Content (List ℕ)
lent_content (Setpoints sp1 sp2) = Setpoints sp1.now sp2.now
lent_content (Sp1 octets) = Sp1 octets.now
lent_content (Sp2 octets) = Sp2 octets.now
lent_content (Configuration logic mode hysteresis) = Configuration logic mode hysteresis
lent_content (Logic code) = Logic code
lent_content (Mode code) = Mode code
lent_content (Hysteresis steps) = Hysteresis steps

abbrev pub lent_written : Written Lent → Written (List ℕ)
lent_written (Command code) = Command code
lent_written (Select channel) = Select channel
lent_written (Channel k content) = Channel k (lent_content content)

abbrev pub lent_access : Access Lent → Access (List ℕ)
lent_access (Read shown) = Read shown
lent_access (Write written) = Write (lent_written written)

abbrev pub lent_write : Result (Written Lent) Fault → Result (Written (List ℕ)) Fault
lent_write (Ok written) = Ok (lent_written written)
lent_write (Err f) = Err f

abbrev pub lent_result : Result (Access Lent) Fault → Result (Access (List ℕ)) Fault
lent_result (Ok access) = Ok (lent_access access)
lent_result (Err f) = Err f
