use Rattle.std.proofs.Common.{Bool, List, sym, ◌∙◌, ap, filter, Bor}
use Rattle.hk_model.specs.declared.names.Name.{Name}
use Rattle.hk_report.specs.declared.holders.Stretch.{Stretch}
use Rattle.hk_report.specs.declared.hops.Bounds.{Bounds}
use Rattle.hk_report.specs.declared.hops.Latest.{Latest}
use Rattle.hk_report.specs.declared.hops.Raise.{Raise}
use Rattle.hk_report.specs.Hops.{bounds_at}
use Rattle.hk_report.specs.Reachable.{moment_at, can_come}
use Rattle.hk_report.specs.Blocks.{in_block}
use Rattle.hk_report.specs.Holders.{live_at, raised_at, raised_over}
use Rattle.hk_report.proofs.HeldBlockLemmas.{alone_all, alone_front, alone_back, first_held_block, raised_parts}
use Rattle.hk_report.proofs.Raising.{nothing_raised}
use Rattle.hk_report.proofs.hops.Ground.raise_holders.Goals as goal
use Rattle.hk_report.proofs.hops.Ground.raise_holders.Goals.{then-not-raises_nothing+in_ok-raise_each, else-not-raises_nothing}

pub loop-block-init : goal.loop-block-init
loop-block-init c =
    let s = c.args.self.now in
    let live = can_come (moment_at s.lasts.now) s.begun.moment in
    let made = c.is_made-made.result in
    let level = bounds_at c.args.next.now in
    let rest = c.holders_of-rest.result.now in
    record {
      alone = alone_all s.histories.now s.runs.now s.cut s.holders.now s.held c.args.name rest c.holders_of-rest.ensures;
      ahead = rw (c.holders_of-rest.ensures, c.held_blocks_at-block-items.ensures) (s.held_blocked c.args.name);
      left =
          ap (λ (l : Latest). raised_over s.histories.now c.args.latest made (raised_at level c.args.name l) (filter (λ (x : Stretch). live x.by) rest)) c.no_latest.ensures
          ∙ ap (λ (l : Name → Latest). raised_over s.histories.now c.args.latest made l (filter (λ (x : Stretch). live x.by) rest)) (nothing_raised level c.args.name)
          ∙ ap (λ (xs : List Stretch). raised_over s.histories.now c.args.latest made level (filter (λ (x : Stretch). live x.by) xs)) c.holders_of-rest.ensures;
    }

pub split_at-requires : goal.split_at-requires
split_at-requires c =
    let s = c.args.self.now in
    (first_held_block (moment_at s.lasts.now) c.loop-block.rest.now c.held_blocks_at-block-items.result.now c.loop-block.block-index c.loop-block.invariant.ahead c.loop-block-test.true).0

pub raise_each-requires : goal.raise_each-requires
raise_each-requires c = rw c.split_at.ensures.front (alone_front c.args.self.now.histories.now in_block c.loop-block.rest.now c.loop-block.invariant.alone)

pub loop-block-preserved : goal.loop-block-preserved
loop-block-preserved c =
    let s = c.args.self.now in
    let histories = s.histories.now in
    let lasts = moment_at s.lasts.now in
    let live = can_come lasts s.begun.moment in
    let latest = c.args.latest in
    let made = c.is_made-made.result in
    let split = c.split_at.ensures in
    let rest = c.loop-block.rest.now in
    let some = c.split_at.result.0.now in
    let there = c.loop-block.invariant in
    let waiting = c.loop-block.waiting in
    let next = c.if-not-raises_nothing.next in
    let waits = c.if-not-raises_nothing.waiting in
    let more = c.if-not-raises_nothing.rest.now in
    let before = raised_at (bounds_at c.loop-block.next) waiting.name waiting.latest in
    let all = raised_over histories latest made (bounds_at c.args.next.now) (live_at live s.holders.now c.args.name) in
    let first = first_held_block lasts rest c.held_blocks_at-block-items.result.now c.loop-block.block-index there.ahead c.loop-block-test.true in
    let alone = alone_front histories in_block rest there.alone in
    elim c.if-not-raises_nothing.branch [
      | then-not-raises_nothing+in_ok-raise_each w ↦
          let behind = ap (λ (r : Bor (List Stretch)). r.now) w.rest-is ∙ split.back in
          record {
            alone = rw behind (alone_back histories in_block rest there.alone);
            ahead = rw behind first.1.1;
            left = raised_parts live histories latest made in_block rest some more before (raised_at (bounds_at next) waits.name waits.latest) all split.front behind
                (ap (λ (n : Bounds). raised_at (bounds_at n) waits.name waits.latest) w.next-is
                ∙ ap (λ (x : Raise). raised_at (bounds_at w.raise_each.new.next) x.name x.latest) w.waiting-is ∙ w.in_ok-raise_each.ensures)
                there.left;
          }
      | else-not-raises_nothing w ↦
          let behind = ap (λ (r : Bor (List Stretch)). r.now) w.rest-is ∙ split.back in
          record {
            alone = rw behind (alone_back histories in_block rest there.alone);
            ahead = rw behind first.1.1;
            left = raised_parts live histories latest made in_block rest some more before (raised_at (bounds_at next) waits.name waits.latest) all split.front behind
                (ap (λ (n : Bounds). raised_at (bounds_at n) waits.name waits.latest) w.next-is
                ∙ ap (λ (x : Raise). raised_at (bounds_at c.loop-block.next) x.name x.latest) w.waiting-is
                ∙ sym (c.raises_nothing.ensures w.if-not-raises_nothing.false some (rw split.front first.1.0) (rw split.front alone) made before))
                there.left;
          }
    ]

pub raise_each-requires-2 : goal.raise_each-requires-2
raise_each-requires-2 c = c.loop-block.invariant.alone

pub returns : goal.returns
returns c =
    let s = c.args.self.now in
    let live = can_come (moment_at s.lasts.now) s.begun.moment in
    let waits = c.raise_each-2.new.waiting in
    let all =
    c.in_ok-raise_each-2.ensures ∙ c.loop-block.invariant.left
    ∙ ap (λ (m : Bool). raised_over s.histories.now c.args.latest m (bounds_at c.args.next.now) (live_at live s.holders.now c.args.name)) c.is_made-made.ensures in
    rw all at c.raise.ensures
