use Rattle.std.specs.Prelude.{◌≡◌, ◌<◌, ◌≤◌, length}
use Rattle.std.proofs.Common.{arith, rules}
use Rattle.std.proofs.lemmas.Option.{slice_get-get_or}
use Rattle.hk_model.specs.Control.{index_of}
use Rattle.hk_program.proofs.Paths.{take_set_more}
use Rattle.hk_program.proofs.operands.path_of_all.Goals as goal

pub loop-step-preserved : goal.loop-step-preserved
loop-step-preserved c =
    let few : length c.args.route.now.at ≤ 8 = c.requires.1 in
    let route_is : length c.as_slice-route.result.now ≡ length c.args.route.now.at = rw c.as_slice-route.ensures in
    let within : c.loop-step.step < length c.loop-step.indices = omega (arith, c.loop-step.invariant.room, c.loop-step-test.true) in
    record {
      room = search rules;
      worth = take_set_more (index_of c.args.frame.now) c.loop-step.indices c.as_slice-route.result.now c.loop-step.step c.index.result _
          within (slice_get-get_or _ _ _ c.loop-step-test.true) c.index.ensures c.loop-step.invariant.worth;
    }
