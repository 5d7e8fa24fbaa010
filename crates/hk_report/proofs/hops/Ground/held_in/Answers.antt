use Rattle.std.proofs.Common.{ltb, leb, rules, List, sym, ◌∙◌, ap, take, length, ◌-◌, ◌≡◌, true, false, subst}
use Rattle.std.specs.Prelude.{drop, filter}
use Rattle.std.specs.List.Sorted.{IsNonDecreasingBy, IsPartitionPoint}
use Rattle.std.proofs.lemmas.List.Sorted.{IsPartitionPoint-from_clause, IsPartitionedBy-ltb, IsPartitionedBy-leb}
use Rattle.hk_report.specs.declared.holders.Stretch.{Stretch}
use Rattle.hk_report.specs.Holders.{stands_in}
use Rattle.hk_report.proofs.HeldIn.{held_rising, halved, rising_behind, all_behind}
use Rattle.hk_report.proofs.hops.Ground.held_in.Goals as goal

pub returns : goal.returns
returns c =
    let s = c.args.self.now in
    let by = c.args.by in
    let held = c.holders_of-held.result.now in
    let start = c.partition_point-start.result in
    let count = c.partition_point-count.result in
    let up = held_rising s.histories.now s.runs.now s.holders.now s.held c.args.name held c.holders_of-held.ensures in
    let first =
    IsPartitionPoint-from_clause (λ (t : Stretch). ltb t.by.0 by.0) held start c.partition_point-start.ensures.partitioned
    (IsPartitionedBy-ltb (λ (t : Stretch). t.by.0) held by.0 up) (λ a r q k. search rules) in
    let rest = take (length held - start) (drop start held) in
    let same : rest ≡ drop start held = all_behind start held in
    let up_rest = subst (IsNonDecreasingBy (λ (t : Stretch). t.by.0)) (sym same) (rising_behind held start up) in
    let last =
    IsPartitionPoint-from_clause (λ (t : Stretch). leb t.by.0 by.0) rest count c.partition_point-count.ensures.partitioned
    (IsPartitionedBy-leb (λ (t : Stretch). t.by.0) rest by.0 up_rest) (λ a r q k. search rules) in
    let found = halved by held start count first (subst (λ (xs : List Stretch). IsPartitionPoint (λ t. leb t.by.0 by.0 ≡ true) (λ t. leb t.by.0 by.0 ≡ false) xs count) same last) in
    ap (take count) same ∙ found ∙ ap (filter (stands_in by)) c.holders_of-held.ensures
