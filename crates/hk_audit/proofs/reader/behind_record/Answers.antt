use Rattle.std.proofs.Common.{arith, refl, sym, ◌∙◌}
use Rattle.hk_audit.proofs.ReadOn.{behind_left}
use Rattle.hk_audit.proofs.reader.behind_record.Goals as goal

pub returns-clause-some : goal.returns-clause-some
returns-clause-some c = λ n.
    behind_left c.args.bytes.now _ c.first_of-start.result c.min.result (sym c.is_empty.ensures ∙ c.if-is_empty.false) c.first_of-start.ensures.place
    c.first_of-start.ensures.within (λ low. omega (arith, low, c.min.ensures)) (λ high. omega (arith, high, c.min.ensures)) refl n
