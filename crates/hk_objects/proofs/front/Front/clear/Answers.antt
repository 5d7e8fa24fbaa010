use Rattle.std.proofs.Common.{◌<◌, length, None, arith, sym}
use Rattle.std.proofs.lemmas.Grind.{common_steps}
use Rattle.hk_objects.proofs.Padding.{set-padded, clear_behind}
use Rattle.hk_objects.proofs.front.Front.clear.Goals as goal

pub returns-else-slot-len : goal.returns-else-slot-len
returns-else-slot-len g c =
    let high = c.if-slot-len.false in
    let ok = c.self.inside.items.ok in
    rw (← c.self.view_is) (sym (clear_behind c.self.inside.items.items c.args.slot (omega (arith, ok, high))))

pub returns-then-slot-len : goal.returns-then-slot-len
returns-then-slot-len g c =
    let ok = c.self.inside.items.ok in
    let low : c.args.slot < length c.self.inside.items.items = omega (arith, c.len.ensures, c.if-slot-len.true, ok) in
    rw (← c.self.view_is, set-padded c.self.inside.items.items c.args.slot None low)
    (grind (arith, common_steps))
