use Rattle.std.proofs.Common.{◌≡◌, List, ℕ, length, IfOk, Ok, Err, Result, sym, ap, ◌∙◌, subst, rules}
use Rattle.std.proofs.lemmas.Result.{err_from_is_err_and}
use Rattle.octets.specs.Buffers.{left, over}
use Rattle.faults.specs.declared.Fault.{Fault}
use Rattle.faults.specs.Denials.{then}
use Rattle.isdu.specs.Replies.{write_reply}
use Rattle.isdu.specs.Views.{asks}
use Rattle.objects.specs.declared.access.Access.{Access}
use Rattle.objects.specs.Lent.{lent_access, lent_written}
use Rattle.objects.specs.Objects.{AccessHasRow, place_of}
use Rattle.sensor.specs.Answers.{ShowsOneToEight, counted}
use Rattle.sensor.specs.Requests.{access_asked, write_asked}
use Rattle.sensor.specs.Rules.{carried, device_by, granted_by}
use Rattle.sensor.proofs.Orders.{plain_denied, write_writes}
use Rattle.sensor.proofs.Reading.{read_shown}
use Rattle.sensor.proofs.Responses.{write_confirmed, write_done}
use Rattle.sensor.proofs.device.Device.grant.Goals as goal

pub show-requires : goal.show-requires
show-requires g c = let row = subst (AccessHasRow c.args.self.now.channels) c.in-Read.is c.in_ok-shown.ensures.row in
    search rules

pub write-requires : goal.write-requires
write-requires g c = let row = subst (AccessHasRow c.args.self.now.channels) c.in-Write.is c.in_ok-shown.ensures.row in
    search rules

pub returns-in-Read-clause-shown : goal.returns-in-Read-clause-shown
returns-in-Read-clause-shown g c =
    let m = g.K.Kind.meaning in
    let d = c.args.self.now in
    let a = asks c.args.request.now in
    let comes = λ (y : Result (Access (List ℕ)) Fault). carried m d (then y (access_asked m d (place_of a))) in
    let row = subst (AccessHasRow d.channels) c.in-Read.is c.in_ok-shown.ensures.row in
    let to = ap (λ z. comes (Ok (lent_access z))) (sym c.in-Read.is) ∙ ap comes c.in_ok-shown.ensures.access in
    subst (λ x. IfOk x ShowsOneToEight) to (read_shown m g.met.K.Kind.lawful d c.in-Read.shown row)

-- the write is denied
pub returns-in_err-write-in-Write : goal.returns-in_err-write-in-Write
returns-in_err-write-in-Write g c =
    let m = g.K.Kind.meaning in
    let d = c.args.self.now in
    let a = asks c.args.request.now in
    let out = c.args.out.now in
    let w = lent_written c.in-Write.written in
    let f = c.in_err-write-in-Write.field-0.0 in
    let comes = λ (y : Result (Access (List ℕ)) Fault). carried m d (then y (access_asked m d (place_of a))) in
    let to =
    ap (λ p. carried m d (write_asked m d p w)) c.place_of.ensures
    ∙ ap (λ z. comes (Ok (lent_access z))) (sym c.in-Write.is)
    ∙ ap comes c.in_ok-shown.ensures.access in
    let denied = sym (plain_denied (carried m d (write_asked m d c.place_of.result w)) f
    c.in_err-write-in-Write.ensures.reply) ∙ to in
    let p = err_from_is_err_and c.from_residual-in_err-write-in-Write.result
    c.from_residual-in_err-write-in-Write.ensures.1 in
    record {
      reply = p.1 ∙ ap Err p.2 ∙ ap (λ x. counted (granted_by x) x) denied;
      device = c.write.ensures.device ∙ ap (device_by m d) to;
      buffer = ap (λ x. over (granted_by x) out) denied;
      shown = subst (λ x. IfOk x ShowsOneToEight) denied tt;
    }

-- the write is done
pub returns-in_ok-write-in-Write : goal.returns-in_ok-write-in-Write
returns-in_ok-write-in-Write g c =
    let m = g.K.Kind.meaning in
    let d = c.args.self.now in
    let a = asks c.args.request.now in
    let out = c.args.out.now in
    let w = lent_written c.in-Write.written in
    let comes = λ (y : Result (Access (List ℕ)) Fault). carried m d (then y (access_asked m d (place_of a))) in
    let to =
    ap (λ p. carried m d (write_asked m d p w)) c.place_of.ensures
    ∙ ap (λ z. comes (Ok (lent_access z))) (sym c.in-Write.is)
    ∙ ap comes c.in_ok-shown.ensures.access in
    let done = write_done (carried m d (write_asked m d c.place_of.result w)) c.in_ok-write-in-Write.ensures.reply
    (write_writes m d c.place_of.result w) in
    let whole : c.confirm_write.result ≡ Ok (length write_reply) =
    c.confirm_write.ensures.answer ∙ write_confirmed (length out) c.requires in
    record {
      reply = whole ∙ sym done.1 ∙ ap (λ x. counted (granted_by x) x) to;
      device = c.write.ensures.device ∙ ap (device_by m d) to;
      buffer =
          c.confirm_write.ensures.buffer
          ∙ ap (λ r. left r write_reply out) whole
          ∙ ap (λ octets. over octets out) (sym done.0)
          ∙ ap (λ x. over (granted_by x) out) to;
      shown = subst (λ x. IfOk x ShowsOneToEight) to done.2;
    }
