-- The runs to come are left, and what was asked last is so.
use Rattle.std.specs.Prelude.{◌≡◌, IfSome, drop}
use Rattle.std.specs.List.{between}
use Rattle.hk_report.specs.Hops.{is_made, latest_at, first_from}
use Rattle.hk_report.specs.Blocks.{end_of}
use Rattle.hk_report.proofs.BlockLemmas.{Going}
use Rattle.hk_report.proofs.hops.Ground.first_through.Given as goal

abbrev pub invariant-loop-end : goal.invariant-loop-end
invariant-loop-end l =
    let made = is_made l.self.families.now l.self.begun l.self.histories.now in
    let level = latest_at made l.self.histories.now l.level in
    record {
      going : Going made level l.from l.spans l.start (drop l.end-index l.ends) l.first
          (first_from made level l.from l.fn.first (between l.fn.start (end_of l.fn.start l.ends) l.spans));
      known : IfSome l.known (λ kept. kept.latest ≡ level kept.name);
    }
