use Rattle.std.proofs.Common.{◌≡◌, ◌<◌, ◌∙◌, length, get_or, false, subst, sym, arith}
use Rattle.std.proofs.lemmas.List.{get_or_read}
use Rattle.hk_reclaim.specs.Marks.{Marked}
use Rattle.hk_reclaim.proofs.Marking.{room_left}
use Rattle.hk_reclaim.proofs.marks.Marks.mark.Goals as goal

pub push_reserved-requires : goal.push_reserved-requires
push_reserved-requires c =
    let low : c.args.slot < length c.self.inside.marked = subst (λ (v : Marked). c.args.slot < v.size) (sym c.self.view_is) c.requires in
    let down : get_or c.self.inside.marked c.args.slot false ≡ false =
    sym (get_or_read c.self.inside.marked c.args.slot c.get.result low c.get.ensures false) ∙ c.if-not-get.true in
    omega (arith, room_left _ _ _ c.self.invariant.0 low down, c.self.invariant.1, c.self.inside.order.ok.0)
