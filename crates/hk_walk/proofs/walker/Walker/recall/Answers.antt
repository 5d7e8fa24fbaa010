use Rattle.std.proofs.Common.{sym}
use Rattle.hk_walk.proofs.Pairs.{latest-found, latest-stays}
use Rattle.hk_walk.proofs.walker.Walker.recall.Goals as goal

pub returns-in-Some-clause-value : goal.returns-in-Some-clause-value
returns-in-Some-clause-value c = sym (latest-found c.args.key.now c.args.self.now.pairs c.in-Some.entry c.in-Some.ensures)

pub returns-in-Some-clause-pairs : goal.returns-in-Some-clause-pairs
returns-in-Some-clause-pairs c = λ i. record c.args.self.now { pairs = sym (latest-stays c.args.key.now c.args.self.now.pairs c.in-Some.entry c.in-Some.ensures) i }
