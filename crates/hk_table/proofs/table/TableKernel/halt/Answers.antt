use Rattle.std.proofs.Common.{sym}
use Rattle.hk_table.proofs.Named.{halt_lasts}
use Rattle.hk_table.proofs.Rooms.{not_known}
use Rattle.hk_table.proofs.table.TableKernel.halt.Goals as goal

pub invariant_of-self : goal.invariant_of-self
invariant_of-self c =
    let leaves = halt_lasts c.self.inside.parts c.halt.new.self c.args.cpu c.in-Some.proc (sym c.in-Some.ensures.value) c.halt.ensures
    (c.self.invariant.0, c.self.invariant.1) in
    (leaves.0, leaves.1, not_known c.halt.new.self)
