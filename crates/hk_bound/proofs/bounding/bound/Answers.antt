use Rattle.std.proofs.Common.{ℕ, [], ◌∷◌, length, length-append, arith, subst, sym, ap}
use Rattle.std.specs.Prelude.{IfSome, slice_get}
use Rattle.hk_bound.specs.Columns.{proc_at}
use Rattle.hk_bound.specs.Listed.{IsBoundOf}
use Rattle.hk_bound.proofs.Exact.{exact_push, exact_none}
use Rattle.hk_bound.proofs.bounding.bound.Goals as goal

pub loop-process-init : goal.loop-process-init
loop-process-init c = record {
  count = ap length c.new-bounds.ensures.items;
  exact = exact_none (λ p names. IsBoundOf c.args.world.now (proc_at p) names.items) c.new-bounds.result.items c.new-bounds.ensures.items;
}

pub loop-process-preserved : goal.loop-process-preserved
loop-process-preserved c =
    let w = c.args.world.now in
    let i = c.loop-process.invariant in
    let x = c.in_ok-push.ensures {u = tt} in
    let longer = ap length x.items in
    let count = i.count in
    record {
      count = omega (arith, length-append c.loop-process.bounds.items (c.in_ok-bound_of.field-0 ∷ []), longer, count);
      exact = subst (λ xs. (p : ℕ) → IfSome (slice_get xs p) (λ names. IsBoundOf c.args.world.now (proc_at p) names.items)) (sym x.items)
          (exact_push (λ p names. IsBoundOf c.args.world.now (proc_at p) names.items) c.loop-process.bounds.items c.in_ok-bound_of.field-0 i.exact
          (subst (λ (n : ℕ). IsBoundOf c.args.world.now (proc_at n) c.in_ok-bound_of.field-0.items) (sym count) (c.in_ok-bound_of.ensures {u = tt})));
    }
