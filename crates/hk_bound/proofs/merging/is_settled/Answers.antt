use Rattle.std.proofs.Common.{◌≡◌, ◌∙◌, Some, ap, sym, arith}
use Rattle.std.proofs.lemmas.Bool.Decides.{nat_tests}
use Rattle.hk_bound.proofs.Merges.{same_settled}
use Rattle.hk_bound.proofs.merging.is_settled.Goals as goal

pub returns-then-old-of : goal.returns-then-old-of
returns-then-old-of c same_bits =
    let same : c.bits.result ≡ c.bits-then-old-of.result = grind (arith, nat_tests, same_bits) in
    c.in-Some.is ∙ ap Some (same_settled c.in-Some.old c.args.of c.args.rights c.if-old-of.true (sym c.bits.ensures.same ∙ (same ∙ c.bits-then-old-of.ensures.same)))
