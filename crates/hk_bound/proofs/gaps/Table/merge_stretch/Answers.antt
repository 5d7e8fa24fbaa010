use Rattle.std.proofs.Common.{arith}
use Rattle.hk_bound.specs.Merges.{MergesFrom}
use Rattle.hk_bound.proofs.FindsLemmas.{finds_none}
use Rattle.hk_bound.proofs.Merges.{stretch_rule}
use Rattle.hk_bound.proofs.gaps.Table.merge_stretch.Goals as goal

pub returns-then-is_idle-clause-finds : goal.returns-then-is_idle-clause-finds
returns-then-is_idle-clause-finds c =
    let w = c.args.self.now.world.now in
    let forms = c.args.self.now.forms.now in
    let rows = c.args.self.now.rows.now in
    let low = c.if-start-stretch.false in
    finds_none w forms rows (MergesFrom w forms rows c.args.process c.args.name c.args.by c.args.start c.args.stretch.now.end) c.args.gaps.now.items
    (stretch_rule w forms rows c.args.process c.args.name c.args.by c.args.start c.args.stretch.now c.requires.cell c.requires.stretch (omega (arith, low))
    (c.is_idle.ensures c.if-is_idle.true))
