use Rattle.std.proofs.Common.{◌≡◌, Bool, cond, length, IfOk, Ok, Err, sym, ap, ◌∙◌, subst, le-ltb, lt-ltb}
use Rattle.std.proofs.lemmas.Result.{err_from_is_err_and}
use Rattle.octets.specs.Buffers.{over}
use Rattle.faults.specs.declared.Denial.TheVariants.{ResponseBuffer}
use Rattle.faults.specs.Denials.{entry, fault, then}
use Rattle.isdu.specs.Decoding.{decoded}
use Rattle.isdu.specs.Views.{asks}
use Rattle.sensor.specs.Answers.{ShowsOneToEight, counted}
use Rattle.sensor.specs.Requests.{asked_of, negative, refused, response_room}
use Rattle.sensor.specs.Rules.{carried, device_by, granted_by, request_written}
use Rattle.sensor.proofs.Responses.{fault_counted, granted_written, short_silent}
use Rattle.sensor.proofs.device.Device.request.Goals as goal

-- the buffer is too short
pub returns-then-out-lt-RESPONSE_ROOM : goal.returns-then-out-lt-RESPONSE_ROOM
returns-then-out-lt-RESPONSE_ROOM g c =
    let m = g.K.Kind.meaning in
    let d = c.args.self.now in
    let out = c.args.out.now in
    let frame = decoded c.args.frame.now in
    let e =
    ap (λ (b : Bool). carried m d (cond b (Err (fault ResponseBuffer)) (then frame (asked_of m d))))
    (sym (lt-ltb (length out) response_room c.if-out-lt-RESPONSE_ROOM.true)) in
    record {
      reply = ap Err c.of.ensures ∙ ap (λ x. counted (request_written frame x) x) e;
      device = ap (device_by m d) e;
      buffer = ap (λ octets. over octets out) (sym (short_silent frame))
          ∙ ap (λ x. over (request_written frame x) out) e;
      shown = subst (λ x. IfOk x ShowsOneToEight) e tt;
    }

-- the frame is no request
pub returns-in_err-request : goal.returns-in_err-request
returns-in_err-request g c =
    let m = g.K.Kind.meaning in
    let d = c.args.self.now in
    let out = c.args.out.now in
    let frame = decoded c.args.frame.now in
    let f = c.in_err-request.field-0.0 in
    let p = err_from_is_err_and c.from_residual.result c.from_residual.ensures.1 in
    let none : Err f ≡ frame = c.in_err-request.ensures.value in
    let e =
    ap (λ r. carried m d (then r (asked_of m d))) none
    ∙ ap (λ (b : Bool). carried m d (cond b (Err (fault ResponseBuffer)) (then frame (asked_of m d))))
    (sym (le-ltb (length out) response_room c.if-out-lt-RESPONSE_ROOM.false)) in
    record {
      reply = p.1 ∙ ap Err p.2 ∙ ap (λ x. counted (request_written frame x) x) e;
      device = ap (device_by m d) e;
      buffer = ap (λ r. over (refused r f) out) none ∙ ap (λ x. over (request_written frame x) out) e;
      shown = subst (λ x. IfOk x ShowsOneToEight) e tt;
    }

-- the request is granted
pub returns-in-Ok : goal.returns-in-Ok
returns-in-Ok g c =
    let m = g.K.Kind.meaning in
    let d = c.args.self.now in
    let out = c.args.out.now in
    let frame = decoded c.args.frame.now in
    let a = asks c.in_ok-request.request in
    let x₀ = carried m d (asked_of m d a) in
    let is : Ok a ≡ frame = c.in_ok-request.ensures.value in
    let e =
    ap (λ r. carried m d (then r (asked_of m d))) is
    ∙ ap (λ (b : Bool). carried m d (cond b (Err (fault ResponseBuffer)) (then frame (asked_of m d))))
    (sym (le-ltb (length out) response_room c.if-out-lt-RESPONSE_ROOM.false)) in
    let whole = granted_written a x₀ c.in-Ok.n c.in-Ok.ensures.reply in
    record {
      reply =
          c.in-Ok.ensures.reply
          ∙ ap (λ octets. counted octets x₀) whole
          ∙ ap (λ r. counted (request_written r x₀) x₀) is
          ∙ ap (λ x. counted (request_written frame x) x) e;
      device = c.in-Ok.ensures.device ∙ ap (device_by m d) e;
      buffer =
          c.in-Ok.ensures.buffer
          ∙ ap (λ octets. over octets out) whole
          ∙ ap (λ r. over (request_written r x₀) out) is
          ∙ ap (λ x. over (request_written frame x) out) e;
      shown = subst (λ x. IfOk x ShowsOneToEight) e c.in-Ok.ensures.shown;
    }

-- it is denied, with its negative response
pub returns-in-Err : goal.returns-in-Err
returns-in-Err g c =
    let m = g.K.Kind.meaning in
    let d = c.args.self.now in
    let out = c.args.out.now in
    let frame = decoded c.args.frame.now in
    let a = asks c.in_ok-request.request in
    let f = c.in-Err.fault in
    let x₀ = carried m d (asked_of m d a) in
    let is : Ok a ≡ frame = c.in_ok-request.ensures.value in
    let e =
    ap (λ r. carried m d (then r (asked_of m d))) is
    ∙ ap (λ (b : Bool). carried m d (cond b (Err (fault ResponseBuffer)) (then frame (asked_of m d))))
    (sym (le-ltb (length out) response_room c.if-out-lt-RESPONSE_ROOM.false)) in
    let denied = fault_counted x₀ (granted_by x₀) f c.in-Err.ensures.reply in
    record {
      reply = c.deny.ensures.reply ∙ ap (λ x. counted (request_written frame x) x) (sym denied ∙ e);
      device = c.in-Err.ensures.device ∙ ap (device_by m d) e;
      buffer =
          c.deny.ensures.buffer
          ∙ ap (over (negative a.direction (entry f.denial).code)) (c.in-Err.ensures.buffer
          ∙ ap (λ x. over (granted_by x) out) denied)
          ∙ ap (λ r. over (refused r f) out) is
          ∙ ap (λ x. over (request_written frame x) out) (sym denied ∙ e);
      shown = subst (λ x. IfOk x ShowsOneToEight) (sym denied ∙ e) tt;
    }
