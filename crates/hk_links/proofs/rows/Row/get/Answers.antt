use Rattle.std.proofs.Common.{◌≡◌, ◌<◌, ◌≤◌, ℕ, arith, length, rules, sym, ◌∙◌}
use Rattle.std.proofs.lemmas.List.{get_or_read}
use Rattle.hk_links.proofs.Spreads.{length-spread, get_or-spread_front, get_or-spread_behind}
use Rattle.hk_links.proofs.rows.Row.get.Goals as goal

pub overflow_add-result : goal.overflow_add-result
overflow_add-result c =
    let size : length c.args.self.now ≡ c.self.inside.nodes = rw (← c.self.view_is) (length-spread _ _ _ _) in
    omega arith

pub returns-then-place-len : goal.returns-then-place-len
returns-then-place-len c =
    let size : length c.args.self.now ≡ c.self.inside.nodes = rw (← c.self.view_is) (length-spread _ _ _ _) in
    let near : c.args.place < length c.self.inside.front.items = search rules in
    let low : c.args.place < c.self.inside.nodes = omega arith in
    rw (← c.self.view_is) (get_or_read c.self.inside.front.items c.args.place c.index.result.now near c.index.ensures 0
    ∙ sym (get_or-spread_front (λ (node : ℕ). node) c.self.inside.nodes c.self.inside.first c.self.inside.front.items c.args.place 0 low near))

pub returns-else-place-len : goal.returns-else-place-len
returns-else-place-len c =
    let size : length c.args.self.now ≡ c.self.inside.nodes = rw (← c.self.view_is) (length-spread _ _ _ _) in
    let far : length c.self.inside.front.items ≤ c.args.place = search rules in
    let low : c.args.place < c.self.inside.nodes = omega arith in
    rw (← c.self.view_is) (sym (get_or-spread_behind (λ (node : ℕ). node) c.self.inside.nodes c.self.inside.first c.self.inside.front.items c.args.place 0 low far))
