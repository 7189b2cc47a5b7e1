use Rattle.std.proofs.Common.{nat_eq, ap, ◌∙◌}
use Rattle.isdu.proofs.Balance.{last_balances}
use Rattle.isdu.proofs.checks.has_check.Goals as goal

pub returns : goal.returns
returns c = ap (λ n. nat_eq n c.args.last) c.exclusive_or_from.ensures
    ∙ last_balances c.args.first c.args.inner.now c.args.last
