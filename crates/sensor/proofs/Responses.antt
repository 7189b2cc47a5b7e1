-- What a request writes, by what its steps answered.
use Rattle.std.proofs.Common.{◌≡◌, ℕ, ◌≤◌, List, [], length, Ok, Err, Result, IfOk, refl, ap, arith, le-ltb}
use Rattle.std.proofs.lemmas.Bool.{cond-false}
use Rattle.faults.specs.declared.Fault.{Fault}
use Rattle.faults.specs.declared.Denial.TheVariants.{ResponseBuffer}
use Rattle.faults.specs.Denials.{fault}
use Rattle.isdu.specs.Composing.{delivered}
use Rattle.isdu.specs.Replies.{write_reply}
use Rattle.isdu.specs.Requests.{Asked}
use Rattle.sensor.specs.Answers.{ShowsOneToEight, counted, plain}
use Rattle.sensor.specs.Calls.{Act, shows}
use Rattle.sensor.specs.Requests.{refused, response_room}
use Rattle.sensor.specs.Rules.{granted_by, request_written}
use Rattle.sensor.proofs.Orders.{Writing}

-- the response to a write that is done has room in every response buffer
pub write_confirmed : (room : ℕ) → response_room ≤ room → delivered (length write_reply) room ≡ Ok (length write_reply)
write_confirmed room h = cond-false _ _ _ (le-ltb room 2 (omega arith))

-- a buffer that is too short has no response
pub short_silent : (a : Result Asked Fault) → refused a (fault ResponseBuffer) ≡ []
short_silent (Ok a) = refl
short_silent (Err e) = refl

module _ {V : Type 0} where
  -- a write has the response of a write
  write_response : (a : Act V) → Writing a → (granted_by (Ok a) ≡ write_reply) × ShowsOneToEight a
  write_response (shows octets) w = absurd w
  write_response a w = (refl, tt)

  -- a write that is done
  pub write_done : (x : Result (Act V) Fault) → Ok tt ≡ plain x → IfOk x Writing
      → (granted_by x ≡ write_reply) × (counted (granted_by x) x ≡ Ok (length write_reply)) × IfOk x ShowsOneToEight
  write_done (Ok a) h w =
      let r = write_response a w in
      (r.0, ap (λ octets. Ok (length octets)) r.0, r.1)
  write_done (Err f) h w = cc

  -- a request that is granted has its whole response
  pub granted_written : (a : Asked) (x : Result (Act V) Fault) (n : ℕ) → Ok n ≡ counted (granted_by x) x
      → granted_by x ≡ request_written (Ok a) x
  granted_written a (Ok act) n h = refl
  granted_written a (Err f) n h = cc

  pub fault_counted : (x : Result (Act V) Fault) (octets : List ℕ) (f : Fault) → Err f ≡ counted octets x → x ≡ Err f
  fault_counted (Ok a) octets f h = cc
  fault_counted (Err e) octets f h = cc
