use Rattle.std.proofs.Common.{length, length-append, ◌∷◌, [], ap, arith}
use Rattle.hk_bound.proofs.FindsLemmas.{finds_none}
use Rattle.hk_bound.proofs.Handed.{Before, before_none, before_more}
use Rattle.hk_bound.proofs.handing.all_stored_gaps.Goals as goal

pub loop-other-init : goal.loop-other-init
loop-other-init c =
    let w = c.args.table.now.world.now in
    let forms = c.args.table.now.forms.now in
    let rows = c.args.table.now.rows.now in
    let none = c.in_ok-earlier.ensures {u = tt} in
    record {
      count = ap length none;
      finds = finds_none w forms rows (Before w forms rows 0 c.in_ok-earlier.earlier) c.args.gaps.now.items (before_none w forms rows c.in_ok-earlier.earlier none);
    }

pub loop-other-preserved : goal.loop-other-preserved
loop-other-preserved c =
    let w = c.args.table.now.world.now in
    let forms = c.args.table.now.forms.now in
    let rows = c.args.table.now.rows.now in
    let i = c.loop-other.invariant in
    let count = i.count in
    let pushed = c.in_ok-push.ensures {u = tt} in
    let long = ap length pushed in
    record {
      count = omega (arith, count, long, length-append c.loop-other.earlier (c.in_ok-ways.ways.items ∷ []));
      finds =
          before_more w forms rows c.loop-other.other c.loop-other.earlier c.push.new.self c.in_ok-ways.ways.items c.args.gaps.now.items c.loop-other.gaps.items
          c.stored_gaps.new.gaps.items count pushed i.finds (c.in_ok-ways.ensures {u = tt});
    }
