use Rattle.std.proofs.Common.{None, refl, sym, ap, ◌∙◌, arith}
use Rattle.std.specs.Prelude.{option_copied}
use Rattle.hk_report.specs.Hops.{earlier, first_open_below, is_made, latest_at}
use Rattle.hk_report.proofs.LateRuns.{run_late}
use Rattle.hk_report.proofs.RunsBelow.{over_first, stays_run}
use Rattle.hk_report.proofs.RunSkips.{over_nothing, over_found}
use Rattle.hk_report.proofs.hops.Ground.first_over.Goals as goal

pub returns-then-stays_first-clause-first : goal.returns-then-stays_first-clause-first
returns-then-stays_first-clause-first c =
    let s = c.args.self.now in
    let made = is_made s.families.now s.begun s.histories.now in
    stays_run made (latest_at made s.histories.now c.args.level.now) c.args.from.now c.args.first c.args.run.now c.in-Some.span.now c.requires.run c.in-Some.ensures.value
    (c.stays_first.ensures c.if-stays_first.true)

pub returns-then-is_late-clause-first : goal.returns-then-is_late-clause-first
returns-then-is_late-clause-first c =
    let s = c.args.self.now in
    let made = is_made s.families.now s.begun s.histories.now in
    run_late made (latest_at made s.histories.now c.args.level.now) c.args.from.now c.in-Some.span.now.from (c.is_late.ensures c.if-is_late.true made s.histories.now) c.args.first
    c.args.run.now c.in-Some.span.now c.requires.run c.in-Some.ensures.value (omega arith)

pub returns-in_default-first_open-clause-first : goal.returns-in_default-first_open-clause-first
returns-in_default-first_open-clause-first c =
    let s = c.args.self.now in
    let made = is_made s.families.now s.begun s.histories.now in
    over_found made (latest_at made s.histories.now c.args.level.now) c.args.from.now c.args.first c.args.first c.args.run.now None c.requires.run
    (sym (ap option_copied c.in_default-first_open.is) ∙ c.first_open.ensures) refl

pub returns-then-latest-eq0-2-clause-first : goal.returns-then-latest-eq0-2-clause-first
returns-then-latest-eq0-2-clause-first c =
    let s = c.args.self.now in
    let made = is_made s.families.now s.begun s.histories.now in
    over_nothing made (latest_at made s.histories.now c.args.level.now) c.args.from.now c.args.first c.args.run.now c.in-Some.span.now
    c.latest_known-latest.result c.requires.run c.in-Some.ensures.value c.latest_known-latest.ensures.value c.if-latest-eq0.true c.if-latest-eq0-2.true

pub returns-clause-first : goal.returns-clause-first
returns-clause-first c =
    let s = c.args.self.now in
    let made = is_made s.families.now s.begun s.histories.now in
    c.earlier.ensures ∙ ap (earlier c.args.first) c.onward_below.ensures
    ∙ ap (first_open_below c.latest_known-latest.result c.is_made.result c.args.from.now c.args.first)
    (sym (ap option_copied c.in-Some-first_open.is) ∙ c.first_open.ensures)
    ∙ over_first made (latest_at made s.histories.now c.args.level.now) c.args.from.now c.args.first c.args.run.now c.in-Some.span.now c.latest_known-latest.result
    c.is_made.result c.requires.run c.in-Some.ensures.value c.latest_known-latest.ensures.value c.is_made.ensures
