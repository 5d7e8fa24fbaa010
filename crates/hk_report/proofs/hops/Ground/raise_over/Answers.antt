use Rattle.std.proofs.Common.{◌∙◌, ap}
use Rattle.hk_report.specs.declared.hops.Latest.{Latest}
use Rattle.hk_report.specs.Hops.{bounds_at}
use Rattle.hk_report.specs.Holders.{spans_in, raised_at}
use Rattle.hk_report.proofs.Raising.{covered, late, over_run}
use Rattle.hk_report.proofs.hops.Ground.raise_over.Goals as goal

-- it begins too late
pub returns-then-begins_late : goal.returns-then-begins_late
returns-then-begins_late c =
    let held = c.args.held.now in
    let waiting = c.args.waiting.now in
    let far = c.begins_late.ensures c.if-begins_late.true in
    late (raised_at (bounds_at c.args.next.now) waiting.name waiting.latest) held.by held.from c.most_over-most.result (spans_in c.args.self.now.histories.now held) held.cap
    c.args.latest c.args.made c.requires.1.alike c.requires.1.begun c.most_over-most.ensures far.0 far.1

-- it is raised as far already
pub returns-then-covers : goal.returns-then-covers
returns-then-covers c =
    let held = c.args.held.now in
    let waiting = c.args.waiting.now in
    let far = c.covers.ensures c.if-covers.true in
    covered (bounds_at c.args.next.now) waiting.name held.by waiting.latest c.most_over-most.result (spans_in c.args.self.now.histories.now held) held.cap c.args.latest
    c.args.made c.requires.1.alike c.most_over-most.ensures far.0 far.1 far.2

pub returns : goal.returns
returns c =
    let held = c.args.held.now in
    let waiting = c.args.waiting.now in
    c.in_ok-raise_later.ensures
    ∙ ap (λ (l : Latest). raised_at (raised_at (bounds_at c.args.next.now) waiting.name waiting.latest) held.by l)
    (over_run (spans_in c.args.self.now.histories.now held) held.cap c.args.latest c.args.made c.most_over-most.result c.latest_over-over.result c.requires.1.alike
    c.most_over-most.ensures c.latest_over-over.ensures)
