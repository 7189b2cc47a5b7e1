use Rattle.teach.proofs.Laws.{takes_exactly_c}
use Rattle.teach.proofs.teaching.Teach.feed.Goals as goal

pub returns-clause-takes_exactly_c : goal.returns-clause-takes_exactly_c
returns-clause-takes_exactly_c g c = takes_exactly_c g.K.Kind.meaning c.args.terms
