use Rattle.hk_bound.specs.Filled.{AreWays, Gains}
use Rattle.hk_bound.proofs.gaps.Table.take_from_all.Given as goal

abbrev pub invariant-loop-other : goal.invariant-loop-other
invariant-loop-other l = record {
  ways : AreWays l.self.world.now l.self.forms.now l.ways.known;
  gaps : Gains l.self.world.now l.self.forms.now l.self.rows.now l.fn.gaps.items l.gaps.items;
}
