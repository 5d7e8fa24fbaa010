use Rattle.std.proofs.Common.{List, Option, None, get_or, arith, ap, ◌∙◌}
use Rattle.hk_objects.proofs.Padding.{get_or-padded}
use Rattle.hk_objects.proofs.front.Front.get.Goals as goal

pub returns-in-Some : goal.returns-in-Some
returns-in-Some g c =
    rw (← c.self.view_is, get_or-padded)
    (c.as_ref.ensures.value ∙ c.in-Some.ensures.lookup.4 (omega arith) None ∙ ap (λ (xs : List (Option g.row.T.Denot)). get_or xs c.args.slot None) c.deref.ensures.value)

pub returns-in-None : goal.returns-in-None
returns-in-None g c =
    rw (← c.self.view_is, get_or-padded)
    (c.in-None.ensures.lookup.4 (omega arith) None ∙ ap (λ (xs : List (Option g.row.T.Denot)). get_or xs c.args.slot None) c.deref.ensures.value)
