use Rattle.std.proofs.Common.{length, refl, arith}
use Rattle.std.proofs.lemmas.Option.{slice_get_read}
use Rattle.hk_bound.specs.Rules.{MergesRule}
use Rattle.hk_bound.specs.Merges.{MergesFrom}
use Rattle.hk_bound.proofs.FindsLemmas.{finds_then, finds_more}
use Rattle.hk_bound.proofs.Merges.{merges_then}
use Rattle.hk_bound.proofs.gaps.Table.merge_all.Goals as goal

pub merge_stretch-requires-clause-stretch : goal.merge_stretch-requires-clause-stretch
merge_stretch-requires-clause-stretch c =
    c.requires.stretches c.loop-number.number c.index-stretches-number.result
    (slice_get_read c.args.stretches.now (length c.args.stretches.now) c.loop-number.number c.index-stretches-number.result refl c.loop-number-test.true
    c.index-stretches-number.is)

pub loop-number-preserved : goal.loop-number-preserved
loop-number-preserved c =
    let w = c.args.self.now.world.now in
    let forms = c.args.self.now.forms.now in
    let rows = c.args.self.now.rows.now in
    let s = c.loop-number.invariant.start in
    let low = s.2 in
    let next = c.in_ok-next.ensures {u = tt} in
    let more = next.more in
    let before = MergesFrom w forms rows c.args.process c.args.name c.args.by 0 c.loop-number.place in
    let here = MergesFrom w forms rows c.args.process c.args.name c.args.by c.loop-number.place c.in_ok-next.next in
    record {
      finds = finds_more w forms rows (before × here) (MergesFrom w forms rows c.args.process c.args.name c.args.by 0 c.in_ok-next.next)
          c.args.gaps.now.items c.merge_stretch.new.gaps.items
          (λ h. merges_then w forms rows c.args.process c.args.name c.args.by c.loop-number.place c.in_ok-next.next h.0 h.1)
          (finds_then w forms rows before here c.args.gaps.now.items c.loop-number.gaps.items c.merge_stretch.new.gaps.items
          c.loop-number.invariant.finds next.finds);
      start = (s.0, s.1, omega (arith, low, more));
    }

pub returns : goal.returns
returns c =
    let w = c.args.self.now.world.now in
    let forms = c.args.self.now.forms.now in
    let rows = c.args.self.now.rows.now in
    let before = MergesFrom w forms rows c.args.process c.args.name c.args.by 0 c.loop-number.place in
    let rest = MergesFrom w forms rows c.args.process c.args.name c.args.by c.loop-number.place (length forms) in
    finds_more w forms rows (before × rest) (MergesRule w forms rows c.args.process c.args.name c.args.by)
    c.args.gaps.now.items c.merge_between.new.gaps.items
    (λ h place low. merges_then w forms rows c.args.process c.args.name c.args.by c.loop-number.place (length forms) h.0 h.1 place (omega arith) low)
    (finds_then w forms rows before rest c.args.gaps.now.items c.loop-number.gaps.items c.merge_between.new.gaps.items
    c.loop-number.invariant.finds (c.in_ok-merge_between.ensures {u = tt}))
