use Rattle.std.proofs.Common.{◌∙◌, length, ap, arith}
use Rattle.hk_bound.specs.Copies.{added}
use Rattle.hk_bound.proofs.Copies.{storers_none, storers_more, storers_all}
use Rattle.hk_bound.proofs.gaps.Table.storers.Goals as goal

pub loop-process-init : goal.loop-process-init
loop-process-init c = storers_none c.args.self.now.world.now c.args.self.now.rows.now c.args.name c.new-processes.result.items c.new-processes.ensures.items

pub loop-process-preserved : goal.loop-process-preserved
loop-process-preserved c =
    let test = c.loop-process-test.true in
    let tasks = ap length c.tasks-process-end.ensures.value in
    storers_more c.args.self.now.world.now c.args.self.now.rows.now c.args.name c.loop-process.process c.loop-process.processes.items c.add.new.numbers.items
    (omega (arith, test, tasks)) (c.in_ok-add.ensures {u = tt} ∙ ap (added c.loop-process.processes.items) c.storer.ensures) c.loop-process.invariant

pub returns : goal.returns
returns c asked =
    let end = c.loop-process-test.false in
    let tasks = ap length c.tasks-process-end.ensures.value in
    storers_all c.args.self.now.world.now c.args.self.now.rows.now c.args.name c.loop-process.process c.loop-process.processes.items (omega (arith, end, tasks)) c.loop-process.invariant
