use Rattle.std.proofs.Common.{◌≡◌, Some, None, Err, Option, refl, ap}
use Rattle.std.proofs.lemmas.Result.{err_from_is_err_and}
use Rattle.faults.specs.declared.Fault.{Fault}
use Rattle.faults.specs.declared.Place.{Place}
use Rattle.faults.specs.Denials.{then}
use Rattle.teach.specs.declared.teaching.Teach.{Teach}
use Rattle.teach.specs.Machine.{Moved, effect_by, row_checked, state_by}
use Rattle.teach.specs.Teaching.{row_in, store_by, teach_by, with_state}
use Rattle.teach.proofs.Laws.{evaluates_within as within}
use Rattle.teach.proofs.teaching.Teach.command.Goals as goal

module _ {V : Type 0} (place : Place) (t : Teach V) where
  -- a command that the machine denies leaves the teach as it was
  denied : (x : Option (Moved V)) (f : Fault) → Err f ≡ effect_by (row_checked place x)
      → (Err f ≡ store_by (row_checked place x))
      × (with_state t (state_by t.state (row_checked place x)) ≡ teach_by t (row_checked place x))
  denied None f h = (cc, refl)
  denied (Some x) f h = cc

pub returns-in_err-command-clause-evaluates_within : goal.returns-in_err-command-clause-evaluates_within
returns-in_err-command-clause-evaluates_within g c = within g.K.Kind.meaning g.met.K.Kind.lawful c.args.terms

pub returns-in_err-effect-clause-reply : goal.returns-in_err-effect-clause-reply
returns-in_err-effect-clause-reply g c =
    let m = g.K.Kind.meaning in
    let t = c.args.self.now in
    let p = err_from_is_err_and c.from_residual-in_err-effect.result c.from_residual-in_err-effect.ensures.1 in
    let d = denied c.args.place t (row_in m c.args.terms t c.in_ok-command.command) c.in_err-effect.field-0.0
    c.in_err-effect.ensures.reply in
    let k = ap (λ x. store_by (then x (λ y. row_checked c.args.place (row_in m c.args.terms t y))))
    c.in_ok-command.ensures in
    cc

pub returns-in_err-effect-clause-teach : goal.returns-in_err-effect-clause-teach
returns-in_err-effect-clause-teach g c =
    let m = g.K.Kind.meaning in
    let t = c.args.self.now in
    let d = denied c.args.place t (row_in m c.args.terms t c.in_ok-command.command) c.in_err-effect.field-0.0
    c.in_err-effect.ensures.reply in
    let k = ap (λ x. teach_by t (then x (λ y. row_checked c.args.place (row_in m c.args.terms t y))))
    c.in_ok-command.ensures in
    cc

pub returns-in_err-effect-clause-evaluates_within : goal.returns-in_err-effect-clause-evaluates_within
returns-in_err-effect-clause-evaluates_within g c = within g.K.Kind.meaning g.met.K.Kind.lawful c.args.terms

pub returns-clause-evaluates_within : goal.returns-clause-evaluates_within
returns-clause-evaluates_within g c = within g.K.Kind.meaning g.met.K.Kind.lawful c.args.terms
