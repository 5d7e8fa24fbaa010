use Rattle.std.proofs.Common.{ltb, rules, sym, ◌∙◌, ap}
use Rattle.std.specs.Option.{option_copied}
use Rattle.std.proofs.lemmas.List.Sorted.{IsPartitionPoint-from_clause}
use Rattle.hk_report.specs.declared.histories.Span.{Span}
use Rattle.hk_report.proofs.RunLemmas.{started_first, all_begun, none_begun, last_begun}
use Rattle.hk_report.proofs.hops.most_on.Goals as goal

-- the last span has begun
pub returns-then-span-bound : goal.returns-then-span-bound
returns-then-span-bound c =
    c.from_on.ensures
    ∙ all_begun c.args.run.now c.args.bound c.in-Some.span.now c.requires (ap option_copied (sym c.in-Some.is) ∙ c.last.ensures.value) c.if-span-bound.true

-- none has
pub returns-then-begun-eq0 : goal.returns-then-begun-eq0
returns-then-begun-eq0 c =
    let point =
    IsPartitionPoint-from_clause (λ (s : Span). ltb s.from c.args.bound) c.args.run.now c.partition_point-begun.result c.partition_point-begun.ensures.partitioned
    (started_first c.args.run.now c.args.bound c.requires) (λ a r q k. search rules) in
    none_begun c.args.run.now c.args.bound c.partition_point-begun.result c.if-begun-eq0.true point

pub returns : goal.returns
returns c =
    let point =
    IsPartitionPoint-from_clause (λ (s : Span). ltb s.from c.args.bound) c.args.run.now c.partition_point-begun.result c.partition_point-begun.ensures.partitioned
    (started_first c.args.run.now c.args.bound c.requires) (λ a r q k. search rules) in
    c.from_on-2.ensures
    ∙ last_begun c.args.run.now c.args.bound c.partition_point-begun.result c.index-run-begun.result c.requires c.partition_point-begun.ensures.bound c.if-begun-eq0.false point
    c.index-run-begun.is
