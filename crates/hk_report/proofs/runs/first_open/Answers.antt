use Rattle.std.proofs.Common.{leb, rules, ◌∙◌}
use Rattle.std.proofs.lemmas.List.Sorted.{IsPartitionPoint-from_clause}
use Rattle.hk_report.specs.declared.histories.Span.{Span}
use Rattle.hk_report.proofs.RunLemmas.{ended_first, open_found, got_is}
use Rattle.hk_report.proofs.runs.first_open.Goals as goal

pub returns : goal.returns
returns c =
    let run = c.args.run.now in
    let ended = c.partition_point-ended.result in
    let point =
    IsPartitionPoint-from_clause (λ (s : Span). leb s.until c.args.moment) run ended c.partition_point-ended.ensures.partitioned
    (ended_first run c.args.moment c.requires) (λ a r q k. search rules) in
    got_is run ended c.get.result c.get.ensures.lookup.3 ∙ open_found run c.args.moment ended c.partition_point-ended.ensures.bound point
