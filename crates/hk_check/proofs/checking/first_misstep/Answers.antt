use Rattle.std.proofs.Common.{refl, length, arith}
use Rattle.std.proofs.lemmas.Option.{slice_get_read}
use Rattle.hk_check.proofs.Replays.{few_lines, line_is_bad, replay_goes_on, misstep_none}
use Rattle.hk_check.proofs.checking.first_misstep.Goals as goal

pub overflow_cast-result : goal.overflow_cast-result
overflow_cast-result g c =
    let few = few_lines c.args.world.now c.args.lines.now c.loop-before.before c.loop-before.machine c.loop-before.invariant (omega (arith, c.loop-before-test.true)) in
    omega (arith, few)

pub overflow_add-result : goal.overflow_add-result
overflow_add-result g c =
    let few = few_lines c.args.world.now c.args.lines.now c.loop-before.before c.loop-before.machine c.loop-before.invariant (omega (arith, c.loop-before-test.true)) in
    omega (arith, few)

pub returns-in-Some-clause-some : goal.returns-in-Some-clause-some
returns-in-Some-clause-some g c = λ end.
    line_is_bad c.args.world.now c.args.lines.now end c.loop-before.before c.loop-before.machine c.index-lines-before.result c.in-Some.cause c.loop-before.invariant
    (slice_get_read c.args.lines.now (length c.args.lines.now) c.loop-before.before c.index-lines-before.result refl c.loop-before-test.true c.index-lines-before.is)
    (rw c.in-Some.is at c.in_ok-cause.ensures.some)

pub loop-before-preserved : goal.loop-before-preserved
loop-before-preserved g c =
    replay_goes_on c.args.world.now c.args.lines.now c.loop-before.before c.loop-before.machine c.misstep.new.machine c.index-lines-before.result c.loop-before.invariant
    (slice_get_read c.args.lines.now (length c.args.lines.now) c.loop-before.before c.index-lines-before.result refl c.loop-before-test.true c.index-lines-before.is)
    (misstep_none _ c.in_ok-cause.field-0 c.in_ok-cause.ensures.none c.in_default.not-Some)
    c.in_ok-cause.ensures.sound
