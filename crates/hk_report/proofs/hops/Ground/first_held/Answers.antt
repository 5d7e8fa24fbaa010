use Rattle.std.proofs.Common.{sym, ◌∙◌, arith}
use Rattle.std.proofs.lemmas.Bool.{eqb-true}
use Rattle.hk_report.specs.Hops.{is_made, alone, latest_at}
use Rattle.hk_report.proofs.HeldIn.{alone_in, alone_at, first_found, whole_over}
use Rattle.hk_report.proofs.RunsBelow.{seen_held}
use Rattle.hk_report.proofs.hops.Ground.first_held.Goals as goal

pub returns-then-is_empty : goal.returns-then-is_empty
returns-then-is_empty c =
    let s = c.args.self.now in
    let made = is_made s.families.now s.begun s.histories.now in
    let latest = latest_at made s.histories.now c.args.level.now c.args.object in
    let none = eqb-true _ _ (sym c.is_empty.ensures ∙ c.if-is_empty.true) in
    first_found made c.args.from.now s.histories.now s.runs.now s.holders.now c.args.object c.args.from.now.name latest s.cut s.held c.args.first c.args.first
    c.held_in-runs.result.now 0 c.held_in-runs.ensures (omega (arith, none))
    (whole_over made (alone c.args.object latest) c.args.from.now s.histories.now c.args.first c.held_in-runs.result.now)

pub run_of-requires : goal.run_of-requires
run_of-requires c =
    let s = c.args.self.now in (
      c.args.object,
      alone_in s.histories.now s.runs.now s.cut s.holders.now s.held c.args.object c.args.from.now.name c.held_in-runs.result.now c.loop-held.held-index c.held-item.result
          c.held_in-runs.ensures c.loop-held-test.true c.held-item.is,
    )

pub loop-held-init : goal.loop-held-init
loop-held-init c =
    let s = c.args.self.now in
    let made = is_made s.families.now s.begun s.histories.now in
    whole_over made (alone c.args.object (latest_at made s.histories.now c.args.level.now c.args.object)) c.args.from.now s.histories.now c.args.first c.held_in-runs.result.now

pub first_open_below-first-requires : goal.first_open_below-first-requires
first_open_below-first-requires c =
    let s = c.args.self.now in
    let alone =
    alone_in s.histories.now s.runs.now s.cut s.holders.now s.held c.args.object c.args.from.now.name c.held_in-runs.result.now c.loop-held.held-index c.held-item.result
    c.held_in-runs.ensures c.loop-held-test.true c.held-item.is in
    rw c.run_of.ensures alone.run

pub loop-held-preserved : goal.loop-held-preserved
loop-held-preserved c =
    let s = c.args.self.now in
    let made = is_made s.families.now s.begun s.histories.now in
    let latest = latest_at made s.histories.now c.args.level.now c.args.object in
    seen_held made (alone c.args.object latest) c.args.from.now s.histories.now c.held_in-runs.result.now c.loop-held.held-index c.held-item.result c.run_of.result.now c.args.object
    c.latest_at-latest.result c.is_made-made.result c.loop-held.first c.first_open_below-first.result _ c.loop-held-test.true c.held-item.is
    (alone_in s.histories.now s.runs.now s.cut s.holders.now s.held c.args.object c.args.from.now.name c.held_in-runs.result.now c.loop-held.held-index c.held-item.result
    c.held_in-runs.ensures c.loop-held-test.true c.held-item.is)
    c.run_of.ensures (c.latest_at-latest.ensures ∙ alone_at c.args.object latest) c.is_made-made.ensures c.first_open_below-first.ensures c.loop-held.invariant

pub returns : goal.returns
returns c =
    let s = c.args.self.now in
    let made = is_made s.families.now s.begun s.histories.now in
    first_found made c.args.from.now s.histories.now s.runs.now s.holders.now c.args.object c.args.from.now.name
    (latest_at made s.histories.now c.args.level.now c.args.object) s.cut s.held c.args.first c.loop-held.first c.held_in-runs.result.now c.loop-held.held-index
    c.held_in-runs.ensures c.loop-held-test.false c.loop-held.invariant
