use Rattle.std.proofs.Common.{refl, sym, subst}
use Rattle.hk_top.specs.Outputs.{IsWrittenRun}
use Rattle.hk_top.proofs.WrittenRuns.{told_none, told_line, told_fewer, told_more, told_last}
use Rattle.hk_top.proofs.written.write_run.Goals as goal

pub loop-writer-init : goal.loop-writer-init
loop-writer-init g c = record {
  told = told_none c.args.world.now c.in_ok-writer.writer c.in_ok-machine.machine c.in_ok-writer.ensures c.in_ok-machine.ensures.opened;
  sound = c.in_ok-machine.ensures.sound;
}

pub add-requires : goal.add-requires
add-requires g c =
    told_line c.args.world.now c.loop-writer.writer c.loop-writer.machine c.step_into.new.line c.step_into.new.self c.loop-writer.invariant.sound.world
    c.loop-writer.invariant.told (c.in_ok-step_into.ensures.made c.if-branch.true)

pub loop-writer-smaller : goal.loop-writer-smaller
loop-writer-smaller g c =
    told_fewer c.args.world.now c.loop-writer.writer c.loop-writer.machine c.step_into.new.line c.step_into.new.self c.loop-writer.invariant.told
    (c.in_ok-step_into.ensures.made c.if-branch.true)

pub loop-writer-preserved : goal.loop-writer-preserved
loop-writer-preserved g c = record {
  told =
      told_more c.args.world.now c.loop-writer.writer c.add.new.self c.loop-writer.machine c.step_into.new.line c.step_into.new.self c.loop-writer.invariant.told
      (c.in_ok-step_into.ensures.made c.if-branch.true) c.in_ok-add.ensures;
  sound = c.step_into.ensures.sound;
}

pub unreachable-requires : goal.unreachable-requires
unreachable-requires g c =
    (told_last c.args.world.now c.loop-writer.writer c.loop-writer.machine c.step_into.new.self c.step_into.new.self.state c.end_word.result
    c.loop-writer.invariant.sound.world c.loop-writer.invariant.told (c.in_ok-step_into.ensures.none c.if-branch.false) refl c.end_word.ensures).there
    c.in_default.is

pub returns : goal.returns
returns g c =
    subst (λ s. IsWrittenRun c.args.world.now c.in_ok-finish.field-0 c.in-Some.end s) (sym c.into_kernel.ensures)
    ((told_last c.args.world.now c.loop-writer.writer c.loop-writer.machine c.step_into.new.self c.step_into.new.self.state c.end_word.result
    c.loop-writer.invariant.sound.world c.loop-writer.invariant.told (c.in_ok-step_into.ensures.none c.if-branch.false) refl
    c.end_word.ensures).written c.in-Some.end c.in_ok-finish.field-0 c.in-Some.is c.in_ok-finish.ensures)
