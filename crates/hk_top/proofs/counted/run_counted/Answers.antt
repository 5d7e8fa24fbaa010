use Rattle.std.proofs.Common.{refl, sym, subst}
use Rattle.hk_top.specs.Outputs.{IsCountedRun}
use Rattle.hk_top.proofs.CountedRuns.{counting_none, counting_fewer, counting_confined, counting_last}
use Rattle.hk_top.proofs.counted.run_counted.Goals as goal

pub loop-counting-init : goal.loop-counting-init
loop-counting-init g c = record {
  counting = counting_none c.args.world.now c.in_ok-counting.counting c.in_ok-machine.machine c.in_ok-counting.ensures c.in_ok-machine.ensures.opened;
  sound = c.in_ok-machine.ensures.sound;
}

pub loop-counting-smaller : goal.loop-counting-smaller
loop-counting-smaller g c =
    counting_fewer c.args.world.now c.loop-counting.counting c.loop-counting.machine c.step_into.new.line c.step_into.new.self c.loop-counting.invariant.counting
    (c.in_ok-step_into.ensures.made c.if-branch.true)

pub loop-counting-preserved : goal.loop-counting-preserved
loop-counting-preserved g c = record {
  counting = counting_confined c.args.world.now c.loop-counting.counting c.add.new.self c.loop-counting.machine c.step_into.new.line c.step_into.new.self
      c.requires.confined c.loop-counting.invariant.counting (c.in_ok-step_into.ensures.made c.if-branch.true) c.in_ok-add.ensures.counted;
  sound = c.step_into.ensures.sound;
}

pub unreachable-requires : goal.unreachable-requires
unreachable-requires g c =
    (counting_last c.args.world.now c.loop-counting.counting c.loop-counting.machine c.step_into.new.self c.step_into.new.self.state
    c.end_word.result c.loop-counting.invariant.sound.world c.loop-counting.invariant.counting (c.in_ok-step_into.ensures.none c.if-branch.false)
    refl c.end_word.ensures).there
    c.in_default.is

pub returns : goal.returns
returns g c =
    subst (λ s. IsCountedRun c.args.world.now c.changes.result c.in-Some.end s) (sym c.into_kernel.ensures)
    ((counting_last c.args.world.now c.loop-counting.counting c.loop-counting.machine c.step_into.new.self c.step_into.new.self.state
    c.end_word.result c.loop-counting.invariant.sound.world c.loop-counting.invariant.counting (c.in_ok-step_into.ensures.none c.if-branch.false)
    refl c.end_word.ensures).run c.in-Some.end c.changes.result c.in-Some.is c.changes.ensures.all)
