use Rattle.hk_table.proofs.Named.{dispatch_leaves}
use Rattle.hk_table.proofs.Rooms.{not_known}
use Rattle.hk_table.proofs.table.TableKernel.dispatch.Goals as goal

pub invariant_of-self : goal.invariant_of-self
invariant_of-self c =
    let leaves = dispatch_leaves c.self.inside.parts c.dispatch.new.self c.args.cpu c.dispatch.result c.dispatch.ensures.given c.dispatch.ensures.none
    (c.self.invariant.0, c.self.invariant.1) in
    (leaves.0, leaves.1, not_known c.dispatch.new.self)
