use Rattle.std.proofs.Common.{subst, sym}
use Rattle.std.specs.Prelude.{IsSome}
use Rattle.hk_bound.proofs.Sorted.{search_some}
use Rattle.hk_bound.proofs.forms.place_of.Goals as goal

pub returns-clause-some : goal.returns-clause-some
returns-clause-some c holds =
    subst IsSome (sym c.ok.ensures.value) (search_some c.args.forms.now c.args.form.now c.binary_search.result c.requires c.binary_search.ensures.position holds)
