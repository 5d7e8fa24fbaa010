use Rattle.std.proofs.Common.{ap}
use Rattle.hk_walk.specs.Remembered.{Remembered}
use Rattle.hk_table.proofs.Stays.{walks_left}
use Rattle.hk_table.proofs.settling.settle_and_forget.Goals as goal

pub returns-clause-walks : goal.returns-clause-walks
returns-clause-walks c = λ right.
    walks_left c.args.objects.now.slots c.settle-gone.new.objects.slots c.settle-gone.result c.args.walker.now.pairs c.forget_where.new.walker.pairs c.settle-gone.ensures.left
    c.settle-gone.ensures.removed (ap (λ (w : Remembered). w.pairs) c.forget_where.ensures) right
