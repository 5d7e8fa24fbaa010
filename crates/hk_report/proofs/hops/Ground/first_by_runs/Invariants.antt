-- The runs to come are left, with their blocks, and what was asked last is so.
use Rattle.std.specs.Prelude.{◌≡◌, IfSome, drop}
use Rattle.hk_report.specs.Histories.{history_of}
use Rattle.hk_report.specs.Hops.{is_made, latest_at}
use Rattle.hk_report.specs.Blocks.{AreBlocks}
use Rattle.hk_report.proofs.RunHops.{Seeing}
use Rattle.hk_report.proofs.hops.Ground.first_by_runs.Given as goal

abbrev pub invariant-loop-block : goal.invariant-loop-block
invariant-loop-block l =
    let made = is_made l.self.families.now l.self.begun l.self.histories.now in
    let level = latest_at made l.self.histories.now l.level in
    let spans = (history_of l.self.histories.now l.from.name).spans in
    record {
      seeing : Seeing made level l.from spans l.start l.rest l.first;
      ahead : AreBlocks l.start l.rest spans (drop l.block-index l.block-items);
      known : IfSome l.known (λ kept. kept.latest ≡ level kept.name);
    }
