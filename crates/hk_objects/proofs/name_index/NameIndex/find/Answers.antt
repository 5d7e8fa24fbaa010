use Rattle.std.proofs.Common.{◌≡◌, ℕ, ◌%◌, Some, None, IfNone, Option, List, subst}
use Rattle.std.specs.Prelude.{slice_get}
use Rattle.hk_model.specs.declared.names.Name.{Name}
use Rattle.hk_links.specs.Chained.{listed}
use Rattle.hk_objects.specs.Indexed.{named_at}
use Rattle.hk_objects.proofs.Indexing.{none_named}
use Rattle.hk_objects.proofs.name_index.NameIndex.find.Goals as goal

pub returns-in-None-clause-none : goal.returns-in-None-clause-none
returns-in-None-clause-none c =
    subst (λ (v : List (Option Name)). IfNone c.find_listed.result ((k : ℕ) → named_at v k ≡ Some c.args.name → ⊥)) c.self.view_is
    (by c.find_listed.result c.find_listed.ensures.none)
  where
    by : (r : Option ℕ)
        → IfNone r ((k slot : ℕ) → slice_get (listed c.self.inside.chains.lists (c.args.name.0 % 65536)) k ≡ Some slot → named_at c.self.inside.names slot ≡ Some c.args.name → ⊥)
        → IfNone r ((k : ℕ) → named_at c.self.inside.names k ≡ Some c.args.name → ⊥)
    by None none =
        none_named _ _ _ c.args.name c.self.invariant
        (λ named. c.is_named.ensures.no c.if-is_named.false (rw c.remainder-home.ensures named))
        c.in-None.ensures.none
        none
    by (Some slot) none = none
