use Rattle.std.proofs.Common.{subst, sym}
use Rattle.std.proofs.lemmas.List.Filters.{dedup_is}
use Rattle.hk_bound.specs.contracts.forms.FormOrd.TheImpl.Laws.{matches_eq-law}
use Rattle.hk_bound.specs.Forms.{AreSorted, KeepsForms}
use Rattle.hk_bound.proofs.Sorted.{once_sorted, once_keeps}
use Rattle.hk_bound.proofs.forms.put_in_order.Goals as goal

pub returns-clause-sorted : goal.returns-clause-sorted
returns-clause-sorted c =
    subst AreSorted (sym (dedup_is _ _ _ c.dedup.ensures.filtered)) (once_sorted _ matches_eq-law c.sort_unstable.new.self.items c.sort_unstable.ensures.sorted)

pub returns-clause-keeps : goal.returns-clause-keeps
returns-clause-keeps c =
    subst (KeepsForms c.args.forms.now.items) (sym (dedup_is _ _ _ c.dedup.ensures.filtered))
    (once_keeps _ matches_eq-law c.args.forms.now.items c.sort_unstable.new.self.items c.sort_unstable.ensures.permutation)
