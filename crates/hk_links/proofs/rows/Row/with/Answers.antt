use Rattle.std.proofs.Common.{ℕ, arith, ap, length}
use Rattle.hk_links.proofs.Spreads.{length-spread, get_or-spread_behind}
use Rattle.hk_links.proofs.rows.Row.with.Goals as goal

pub returns : goal.returns
returns c = (
  length-spread _ _ _ _,
  λ k low. get_or-spread_behind (λ (node : ℕ). node) c.args.nodes c.args.first c.in_ok-front.front.items k 0 low (omega (arith, ap length c.in_ok-front.ensures.items)),
)
