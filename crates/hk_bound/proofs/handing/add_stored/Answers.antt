use Rattle.std.proofs.Common.{◌∙◌, refl, sym}
use Rattle.hk_bound.specs.Filled.{Stored, NotStored}
use Rattle.hk_bound.proofs.handing.add_stored.Goals as goal

pub returns-in_ok-push : goal.returns-in_ok-push
returns-in_ok-push c = Stored (sym c.stores.ensures ∙ c.if-stores.true) (c.in_ok-push.ensures {u = tt}).items

pub returns-else-stores : goal.returns-else-stores
returns-else-stores c = NotStored (sym c.stores.ensures ∙ c.if-stores.false) refl
