use Rattle.hk_bound.specs.Rules.{MergesRule}
use Rattle.hk_bound.specs.Merges.{settled_at, SettledRule}
use Rattle.hk_bound.proofs.FindsLemmas.{finds_none, finds_more}
use Rattle.hk_bound.proofs.Merges.{settled_by_merges, merges_by_settled, kept_settled, settled_more}
use Rattle.hk_bound.proofs.gaps.Table.merge_unsettled.Goals as goal

pub returns-then-knows : goal.returns-then-knows
returns-then-knows c =
    let w = c.args.self.now.world.now in
    let forms = c.args.self.now.forms.now in
    let rows = c.args.self.now.rows.now in
    let sets = c.args.settled.now.sets.items in
    finds_none w forms rows (SettledRule w forms rows c.args.process sets sets (MergesRule w forms rows c.args.process c.args.name c.args.by)) c.args.gaps.now.items
    (λ known. (
      merges_by_settled w forms rows c.args.process c.args.name c.args.by c.type_of-of.result c.type_of-of.ensures c.requires.cell
          (kept_settled w forms rows c.args.process sets (settled_at c.type_of-of.result c.args.by) known (c.knows.ensures c.if-knows.true)),
      known,
    ))

pub returns-then-len-before : goal.returns-then-len-before
returns-then-len-before c =
    let w = c.args.self.now.world.now in
    let forms = c.args.self.now.forms.now in
    let rows = c.args.self.now.rows.now in
    let sets = c.args.settled.now.sets.items in
    finds_more w forms rows (MergesRule w forms rows c.args.process c.args.name c.args.by)
    (SettledRule w forms rows c.args.process sets sets (MergesRule w forms rows c.args.process c.args.name c.args.by)) c.args.gaps.now.items c.merge_all.new.gaps.items
    (λ merges known. (merges, known)) (c.in_ok-merge_all.ensures {u = tt})

pub returns : goal.returns
returns c =
    let w = c.args.self.now.world.now in
    let forms = c.args.self.now.forms.now in
    let rows = c.args.self.now.rows.now in
    let sets = c.args.settled.now.sets.items in
    finds_more w forms rows (MergesRule w forms rows c.args.process c.args.name c.args.by)
    (SettledRule w forms rows c.args.process sets c.add.new.self.sets.items (MergesRule w forms rows c.args.process c.args.name c.args.by))
    c.args.gaps.now.items c.merge_all.new.gaps.items
    (λ merges known. (
      merges,
      settled_more w forms rows c.args.process c.type_of-of.result c.args.by sets c.add.new.self.sets.items c.add.ensures known
          (settled_by_merges w forms rows c.args.process c.args.name c.args.by c.type_of-of.result c.type_of-of.ensures c.requires.cell merges),
    ))
    (c.in_ok-merge_all.ensures {u = tt})
