use Rattle.std.proofs.Common.{ℕ, List, ◌∙◌, ap, take}
use Rattle.std.specs.List.{between}
use Rattle.hk_report.specs.Histories.{history_of}
use Rattle.hk_report.specs.Hops.{is_made, latest_at, first_from}
use Rattle.hk_report.specs.Blocks.{in_block, end_of}
use Rattle.hk_report.proofs.BlockLemmas.{cut_from, from_front, first_block, next_blocks, block_end, seen_block, seen_rest}
use Rattle.hk_report.proofs.hops.Ground.first_by_runs.Goals as goal
use Rattle.hk_report.proofs.hops.Ground.first_by_runs.Goals.{then-not-is_passed, else-not-is_passed}

pub split_at-requires : goal.split_at-requires
split_at-requires c =
    let s = c.args.self.now in
    let spans = (history_of s.histories.now c.args.from.now.name).spans in
    (first_block c.loop-block.start c.loop-block.rest.now spans c.blocks_at-block-items.result.now c.loop-block.block-index c.loop-block.invariant.ahead c.loop-block-test.true).0

pub first_through-first-requires-clause-runs : goal.first_through-first-requires-clause-runs
first_through-first-requires-clause-runs c =
    let s = c.args.self.now in
    let spans = (history_of s.histories.now c.args.from.now.name).spans in
    rw c.split_at.ensures.front
    (from_front in_block c.loop-block.start c.loop-block.rest.now spans (cut_from c.loop-block.start c.loop-block.rest.now spans c.loop-block.invariant.seeing.cut))

pub loop-block-preserved : goal.loop-block-preserved
loop-block-preserved c =
    let s = c.args.self.now in
    let from = c.args.from.now in
    let made = is_made s.families.now s.begun s.histories.now in
    let level = latest_at made s.histories.now c.args.level.now in
    let spans = (history_of s.histories.now from.name).spans in
    let split = c.split_at.ensures in
    let start = c.loop-block.start in
    let rest = c.loop-block.rest.now in
    let seeing = c.loop-block.invariant.seeing in
    let blocks = c.blocks_at-block-items.result.now in
    let there = block_end start rest c.split_at.result.0.now split.front split.front_len in
    let ahead = next_blocks start _ rest c.split_at.result.1.now spans blocks c.loop-block.block-index c.loop-block.invariant.ahead c.loop-block-test.true there split.back in
    elim c.if-not-is_passed.branch [
      | then-not-is_passed w ↦ record {
        seeing = seen_block made level from in_block spans start _ rest c.split_at.result.1.now c.loop-block.first c.if-not-is_passed.first seeing there split.back
            (w.first-is ∙ w.first_through-first.ensures.first
            ∙ ap (λ (xs : List ℕ). first_from made level from c.loop-block.first (between start (end_of start xs) spans)) split.front);
        ahead = ahead;
        known = rw w.known-is w.first_through-first.ensures.known;
      }
      | else-not-is_passed w ↦ record {
        seeing = seen_block made level from in_block spans start _ rest c.split_at.result.1.now c.loop-block.first c.if-not-is_passed.first seeing there split.back
            (w.first-is
            ∙ c.is_passed.ensures w.if-not-is_passed.false made s.histories.now (between start (end_of start (take in_block rest)) spans)
            (first_block start rest spans blocks c.loop-block.block-index c.loop-block.invariant.ahead c.loop-block-test.true).1.0);
        ahead = ahead;
        known = rw w.known-is c.loop-block.invariant.known;
      }
    ]

pub first_through-requires-clause-runs : goal.first_through-requires-clause-runs
first_through-requires-clause-runs c =
    let s = c.args.self.now in
    cut_from c.loop-block.start c.loop-block.rest.now (history_of s.histories.now c.args.from.now.name).spans c.loop-block.invariant.seeing.cut

pub returns : goal.returns
returns c =
    let s = c.args.self.now in
    let made = is_made s.families.now s.begun s.histories.now in
    seen_rest made (latest_at made s.histories.now c.args.level.now) c.args.from.now (history_of s.histories.now c.args.from.now.name).spans c.loop-block.start c.loop-block.rest.now
    c.loop-block.first c.first_through.result c.loop-block.invariant.seeing c.first_through.ensures.first
