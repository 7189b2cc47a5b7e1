use Rattle.std.proofs.Common.{◌≡◌, length, IfOk, Some, ap, ◌∙◌, subst, rules}
use Rattle.sensor.specs.Answers.{ShowsOneToEight, counted}
use Rattle.sensor.specs.Calls.{request}
use Rattle.sensor.specs.Rules.{checked, checked_by, written_by}
use Rattle.sensor.proofs.Sizes.{device_fits}
use Rattle.sensor.proofs.sensor.Sensor.request.Goals as goal

pub request-requires : goal.request-requires
request-requires g c = search (rules, device_fits)

pub returns-clause-reply : goal.returns-clause-reply
unfolding checked
returns-clause-reply g c =
    let m = g.K.Kind.meaning in
    let call = request c.args.frame.now (length c.args.out.now) in
    let device-is : Some c.in_ok-ok_or.field-0.now ≡ c.args.self.now.device = search rules in
    c.request.ensures.reply ∙ ap (λ o. counted (written_by m o call (checked_by m o call)) (checked_by m o call))
    device-is

pub returns-clause-shown : goal.returns-clause-shown
unfolding checked
returns-clause-shown g c =
    let m = g.K.Kind.meaning in
    let call = request c.args.frame.now (length c.args.out.now) in
    let device-is : Some c.in_ok-ok_or.field-0.now ≡ c.args.self.now.device = search rules in
    subst (λ o. IfOk (checked_by m o call) ShowsOneToEight) device-is c.request.ensures.shown
