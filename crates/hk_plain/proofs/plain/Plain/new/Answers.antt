-- The world's objects have given names.
use Rattle.std.proofs.Common.{sym, subst}
use Rattle.hk_plain.specs.Numbers.{FewNumbers}
use Rattle.hk_plain.specs.Changes.{IsWhole}
use Rattle.hk_plain.proofs.WholeStays.{opening_whole}
use Rattle.hk_plain.proofs.plain.Plain.new.Goals as goal

pub invariant_of-result : goal.invariant_of-result
invariant_of-result c =
    subst IsWhole (sym c.in_ok-tables.ensures.state) (opening_whole c.args.world.now (subst FewNumbers c.in_ok-tables.ensures.state c.in_ok-tables.ensures.numbers))
