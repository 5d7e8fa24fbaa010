use Rattle.std.proofs.Common.{sym, ◌∙◌, ap, arith}
use Rattle.std.proofs.lemmas.Bool.{not-true}
use Rattle.hk_report.specs.Reachable.{moment_at, from_end, is_by}
use Rattle.hk_report.proofs.HeldBlockLemmas.{none_in_time, none_live}
use Rattle.hk_report.proofs.hops.Ground.raises_nothing.Goals as goal

pub returns-then-greater-block : goal.returns-then-greater-block
returns-then-greater-block c passed held within alone made level =
    let s = c.args.self.now in
    let begins = c.if-greater-block.true in
    let most = c.greater.ensures in
    none_in_time (moment_at s.lasts.now) (from_end s.begun.moment) c.args.block.now held s.histories.now c.args.latest made level within alone (omega (arith, begins, most))

pub returns-else-greater-block : goal.returns-else-greater-block
returns-else-greater-block c passed held within alone made level =
    let s = c.args.self.now in
    none_live (moment_at s.lasts.now) (from_end s.begun.moment) c.args.block.now held s.histories.now c.args.latest made level within
    (sym (c.is_by.ensures ∙ ap (is_by c.args.block.now.last) c.from_end.ensures) ∙ not-true c.is_by.result passed)
