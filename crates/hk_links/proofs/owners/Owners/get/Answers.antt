use Rattle.std.proofs.Common.{◌≡◌, ◌<◌, ◌≤◌, ℕ, None, arith, length, rules, sym, ◌∙◌}
use Rattle.std.proofs.lemmas.List.{get_or_read}
use Rattle.hk_links.proofs.Spreads.{length-spread, get_or-spread_front, get_or-spread_behind}
use Rattle.hk_links.proofs.owners.Owners.get.Goals as goal

pub returns-then-cell-len : goal.returns-then-cell-len
returns-then-cell-len c =
    let size : length c.args.self.now ≡ c.self.inside.cells = rw (← c.self.view_is) (length-spread _ _ _ _) in
    let near : c.args.cell < length c.self.inside.front.items = search rules in
    let low : c.args.cell < c.self.inside.cells = omega arith in
    rw (← c.self.view_is) (get_or_read c.self.inside.front.items c.args.cell c.index.result.now near c.index.ensures None
    ∙ sym (get_or-spread_front (λ (_ : ℕ). None) c.self.inside.cells 0 c.self.inside.front.items c.args.cell None low near))

pub returns-else-cell-len : goal.returns-else-cell-len
returns-else-cell-len c =
    let size : length c.args.self.now ≡ c.self.inside.cells = rw (← c.self.view_is) (length-spread _ _ _ _) in
    let far : length c.self.inside.front.items ≤ c.args.cell = search rules in
    let low : c.args.cell < c.self.inside.cells = omega arith in
    rw (← c.self.view_is) (sym (get_or-spread_behind (λ (_ : ℕ). None) c.self.inside.cells 0 c.self.inside.front.items c.args.cell None low far))
