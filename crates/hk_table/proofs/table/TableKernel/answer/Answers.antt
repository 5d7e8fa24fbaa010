use Rattle.std.proofs.Common.{sym}
use Rattle.hk_table.proofs.Named.{act_leaves}
use Rattle.hk_table.proofs.table.TableKernel.answer.Goals as goal

pub invariant_of-self : goal.invariant_of-self
invariant_of-self c =
    let leaves = act_leaves (λ acted. acted.reply) c.self.inside.parts c.act.new.self c.args.cpu c.in-Some.proc _ c.act.result (sym c.in-Some.ensures.value) c.act.ensures.reply
    c.act.ensures.numbers c.act.ensures.err (c.self.invariant.0, c.self.invariant.1) in
    (leaves.0, leaves.1, c.act.ensures.rooted)
