use Rattle.std.proofs.Common.{◌≡◌, ◌<◌, ◌≤◌, ◌∙◌, ℕ, List, Some, length, get_or, slice_get, sym, ap, arith}
use Rattle.std.proofs.lemmas.List.{get_or_read}
use Rattle.hk_reclaim.proofs.Marking.{get_at, none_behind, get_has, mark_within}
use Rattle.hk_reclaim.proofs.marks.Marks.at.Goals as goal

read : (xs : List ℕ) (i s : ℕ) → i < length xs → s ≡ get_or xs i s → slice_get xs i ≡ Some s
read xs i s low is = get_at xs i 0 low ∙ ap (λ x. Some x) (sym (get_or_read xs i s low is 0))

pub returns-then-place-len-clause-slot : goal.returns-then-place-len-clause-slot
returns-then-place-len-clause-slot c =
    let low : c.args.place < length c.self.inside.order.items = omega (arith, c.if-place-len.true, c.self.inside.order.ok.0) in
    let at : slice_get c.self.inside.order.items c.args.place ≡ Some c.index.result.now = read _ _ _ low c.index.ensures in
    rw (← c.self.view_is) (mark_within _ _ c.index.result.now c.self.invariant.0 (get_has _ c.args.place c.index.result.now at))

pub returns-else-place-len-clause-at : goal.returns-else-place-len-clause-at
returns-else-place-len-clause-at c =
    let high : length c.self.inside.order.items ≤ c.args.place = omega (arith, c.if-place-len.false, c.self.inside.order.ok.0) in
    rw (← c.self.view_is) (sym (none_behind c.self.inside.order.items c.args.place high))
