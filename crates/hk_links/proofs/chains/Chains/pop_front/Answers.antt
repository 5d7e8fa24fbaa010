use Rattle.std.proofs.Common.{◌≡◌, ap, ◌∷◌, drop, set}
use Rattle.hk_links.specs.Chained.{Chained, listed}
use Rattle.hk_links.proofs.Paths.{first_of, same_chained}
use Rattle.hk_links.proofs.chains.Chains.pop_front.Goals as goal

pub returns-in-Some-clause-rest : goal.returns-in-Some-clause-rest
returns-in-Some-clause-rest c =
    let first : listed c.args.self.now.lists c.args.list ≡ c.in-Some.cell ∷ drop 1 (listed c.args.self.now.lists c.args.list) = first_of (listed c.args.self.now.lists c.args.list)
    c.in-Some.cell c.in-Some.ensures.first in
    let lists : c.unlink.new.self.lists ≡ set c.args.self.now.lists c.args.list (drop 1 (listed c.args.self.now.lists c.args.list)) = c.unlink.ensures.first
    c.args.list _ c.requires first in
    let cells : c.unlink.new.self.cells ≡ c.args.self.now.cells = ap (λ (v : Chained). v.cells) c.unlink.ensures.lists in
    same_chained _ _ _ cells lists
