use Rattle.std.proofs.Common.{◌≡◌, Ok, Err, sym, ap, ◌∙◌, rules}
use Rattle.std.proofs.lemmas.Result.{err_from_is_err_and}
use Rattle.faults.specs.Denials.{then}
use Rattle.sensor.specs.Answers.{plain}
use Rattle.sensor.specs.Calls.{set_up, starts}
use Rattle.sensor.specs.Lent.{lent_setup}
use Rattle.sensor.specs.Rules.{checked, next_by}
use Rattle.sensor.proofs.Sizes.{device_fits}
use Rattle.sensor.proofs.Starting.{denied_next, set_up_is, started_next}
use Rattle.sensor.proofs.sensor.Sensor.set_up.Goals as goal

pub checked-requires : goal.checked-requires
checked-requires g c = search (rules, device_fits)

pub returns-in_err-checked : goal.returns-in_err-checked
returns-in_err-checked g c =
    let m = g.K.Kind.meaning in
    let s = c.args.self.now in
    let setup = lent_setup c.args.setup.now in
    let f = c.in_err-checked.field-0.0 in
    let p = err_from_is_err_and c.from_residual.result c.from_residual.ensures.1 in
    let e : Err f ≡ checked m s (set_up setup) = ap (λ y. then y (λ d. Ok (starts d))) c.in_err-checked.ensures
    ∙ sym (set_up_is m s setup) in
    record {
      reply = p.1 ∙ ap Err p.2 ∙ ap plain e;
      sensor = ap (λ o. record { device = o }) (denied_next m s.device f)
          ∙ ap (λ x. record { device = next_by m s.device x }) e;
    }

pub returns : goal.returns
returns g c =
    let m = g.K.Kind.meaning in
    let s = c.args.self.now in
    let setup = lent_setup c.args.setup.now in
    let d = c.in_ok-checked.field-0 in
    let e : Ok (starts d) ≡ checked m s (set_up setup) = ap (λ y. then y (λ x. Ok (starts x))) c.in_ok-checked.ensures
    ∙ sym (set_up_is m s setup) in
    record {
      reply = ap plain e;
      sensor = ap (λ o. record { device = o }) (started_next m s.device d)
          ∙ ap (λ x. record { device = next_by m s.device x }) e;
    }
