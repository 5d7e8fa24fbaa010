use Rattle.std.proofs.Common.{◌≡◌, Bool, subst, sym}
use Rattle.std.specs.Prelude.{Decides}
use Rattle.hk_top.proofs.TakenBack.{line_decided}
use Rattle.hk_top.proofs.taking_back.is_same.Goals as goal

pub returns : goal.returns
returns c =
    subst (λ (b : Bool). Decides b (c.args.made.now ≡ c.args.line.now)) (sym c.all_three.ensures)
    (line_decided c.args.made.now c.args.line.now c.is_by_same-by.result c.is_same_event-event.result c.is_same_reply-reply.result c.is_by_same-by.ensures
    c.is_same_event-event.ensures c.is_same_reply-reply.ensures)
