use Rattle.std.proofs.Common.{Some, None}
use Rattle.hk_bound.specs.Rules.{PassedRule}
use Rattle.hk_bound.specs.Handed.{AllWaysPass, WaysPass, TakenRule}
use Rattle.hk_bound.proofs.FindsLemmas.{finds_none, finds_more}
use Rattle.hk_bound.proofs.Through.{stored_rule}
use Rattle.hk_bound.proofs.Handed.{stored_none, is_handed_rule}
use Rattle.hk_bound.proofs.gaps.Table.take_stored.Goals as goal

pub returns-in_default : goal.returns-in_default
returns-in_default c =
    let w = c.args.self.now.world.now in
    let forms = c.args.self.now.forms.now in
    let rows = c.args.self.now.rows.now in
    finds_none w forms rows
    (AllWaysPass w forms rows c.args.earlier.now → WaysPass w forms rows c.args.other c.args.ways.now → TakenRule w forms rows c.args.process c.args.other None)
    c.args.gaps.now.items
    (λ before here. stored_none w forms rows c.args.process c.args.other c.through.result c.in_default.is c.through.ensures.made c.through.ensures.all)

pub returns-then-is_handed : goal.returns-then-is_handed
returns-then-is_handed c =
    let w = c.args.self.now.world.now in
    let forms = c.args.self.now.forms.now in
    let rows = c.args.self.now.rows.now in
    finds_none w forms rows
    (AllWaysPass w forms rows c.args.earlier.now → WaysPass w forms rows c.args.other c.args.ways.now → TakenRule w forms rows c.args.process c.args.other (Some c.in-Some.by))
    c.args.gaps.now.items
    (λ before here.
    let rule = is_handed_rule w forms rows c.args.earlier.now c.args.ways.now c.args.process c.args.other c.in-Some.by (c.is_handed.ensures c.if-is_handed.true) before here in
    record {
      stored = stored_rule w forms rows c.args.process c.args.other c.through.result c.in-Some.by c.in-Some.is c.through.ensures.made c.through.ensures.all rule;
      taken = rule;
    })

pub returns : goal.returns
returns c =
    let w = c.args.self.now.world.now in
    let forms = c.args.self.now.forms.now in
    let rows = c.args.self.now.rows.now in
    finds_more w forms rows (PassedRule w forms rows c.args.process c.args.other c.in-Some.by)
    (AllWaysPass w forms rows c.args.earlier.now → WaysPass w forms rows c.args.other c.args.ways.now → TakenRule w forms rows c.args.process c.args.other (Some c.in-Some.by))
    c.args.gaps.now.items c.take_row.new.gaps.items
    (λ rule before here. record {
      stored = stored_rule w forms rows c.args.process c.args.other c.through.result c.in-Some.by c.in-Some.is c.through.ensures.made c.through.ensures.all rule;
      taken = rule;
    })
    (c.in_ok-take_row.ensures {u = tt})
