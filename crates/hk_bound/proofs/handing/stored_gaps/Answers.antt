use Rattle.std.proofs.Common.{ℕ, List, Option, length, length-append, ◌∷◌, [], ap, subst, arith}
use Rattle.hk_bound.specs.Columns.{Finds}
use Rattle.hk_bound.specs.Rules.{StoredFrom}
use Rattle.hk_bound.specs.Handed.{AllWaysPass, WaysPass, TakenRule}
use Rattle.hk_bound.proofs.FindsLemmas.{finds_none, finds_more}
use Rattle.hk_bound.proofs.Handed.{Here, here_none, here_more}
use Rattle.hk_bound.proofs.handing.stored_gaps.Goals as goal

pub loop-process-init : goal.loop-process-init
loop-process-init c =
    let w = c.args.table.now.world.now in
    let forms = c.args.table.now.forms.now in
    let rows = c.args.table.now.rows.now in
    record {
      count = ap length c.new-ways.ensures.items;
      finds = finds_none w forms rows (Here w forms rows c.args.earlier.now c.args.other 0 c.new-ways.result.items) c.args.gaps.now.items
          (here_none w forms rows c.args.earlier.now c.args.other c.new-ways.result.items c.new-ways.ensures.items);
    }

pub loop-process-preserved : goal.loop-process-preserved
loop-process-preserved c =
    let w = c.args.table.now.world.now in
    let forms = c.args.table.now.forms.now in
    let rows = c.args.table.now.rows.now in
    let i = c.loop-process.invariant in
    let count = i.count in
    let items = (c.in_ok-push.ensures {u = tt}).items in
    let long = ap length items in
    record {
      count = omega (arith, count, long, length-append c.loop-process.ways.items (c.in_ok-by.by ∷ []));
      finds =
          here_more w forms rows c.args.earlier.now c.args.other c.loop-process.process c.loop-process.ways.items c.push.new.self.items c.in_ok-by.by c.args.gaps.now.items
          c.loop-process.gaps.items c.take_stored.new.gaps.items count items i.finds
          (subst (λ (ways : List (Option ℕ)). Finds w forms rows
          (AllWaysPass w forms rows c.args.earlier.now → WaysPass w forms rows c.args.other ways → TakenRule w forms rows c.loop-process.process c.args.other c.in_ok-by.by)
          c.loop-process.gaps.items c.take_stored.new.gaps.items) c.deref-in-loop-process.ensures.value (c.in_ok-by.ensures {u = tt}));
    }

pub returns : goal.returns
returns c =
    let w = c.args.table.now.world.now in
    let forms = c.args.table.now.forms.now in
    let rows = c.args.table.now.rows.now in
    let end = c.loop-process-test.false in
    let count = ap length c.tasks-process-end.ensures.value in
    finds_more w forms rows (Here w forms rows c.args.earlier.now c.args.other c.loop-process.process c.loop-process.ways.items)
    (AllWaysPass w forms rows c.args.earlier.now → StoredFrom w forms rows c.args.other × WaysPass w forms rows c.args.other c.loop-process.ways.items)
    c.args.gaps.now.items c.loop-process.gaps.items
    (λ h before. let here = h before in (λ k low. here.0 k (omega (arith, low, end, count)), here.1))
    c.loop-process.invariant.finds
