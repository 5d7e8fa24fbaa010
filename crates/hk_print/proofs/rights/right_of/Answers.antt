use Rattle.std.proofs.Common.{rules, IsTrue}
use Rattle.hk_rights.specs.Rights.{is_right}
use Rattle.hk_print.proofs.Names.{has_right}
use Rattle.hk_print.proofs.rights.right_of.Goals as goal

pub returns-in-None : goal.returns-in-None
returns-in-None c =
    let none : IsTrue (is_right c.args.number) → ⊥ = search rules in
    rw (has_right c.args.rights c.args.number c.requires none)
