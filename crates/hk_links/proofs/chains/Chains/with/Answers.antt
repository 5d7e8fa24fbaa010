use Rattle.std.proofs.Common.{ℕ, ap, List}
use Rattle.hk_links.specs.Chained.{Chained}
use Rattle.hk_links.proofs.Empty.{empty_linked, empty_shown}
use Rattle.hk_links.proofs.chains.Chains.with.Goals as goal

pub invariant_of-result : goal.invariant_of-result
invariant_of-result c =
    let a = c.in_ok-with.ensures in let b = c.in_ok-with-2.ensures in let o = c.in_ok-with-3.ensures in
    (empty_shown _ _ _ _ _ (empty_linked _ _ _ c.args.cells c.args.lists a.0 b.0 o.0 a.1 b.1 o.1)).0

pub returns : goal.returns
returns c =
    let a = c.in_ok-with.ensures in let b = c.in_ok-with-2.ensures in let o = c.in_ok-with-3.ensures in
    ap (λ (ls : List (List ℕ)). let v : Chained = record { cells = c.args.cells; lists = ls } in v)
    (empty_shown _ _ _ _ _ (empty_linked _ _ _ c.args.cells c.args.lists a.0 b.0 o.0 a.1 b.1 o.1)).1
