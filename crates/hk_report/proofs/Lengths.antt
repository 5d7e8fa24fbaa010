-- How many lines a history has.
use Rattle.std.proofs.Common.{◌≡◌, ◌+◌, ◌<◌, ◌^◌, List, length, refl, arith}
use Rattle.hk_model.specs.declared.lines.Line.{Line}
use Rattle.hk_model.specs.Limits.{event_limit}
use Rattle.hk_model.specs.WorldValue.{WorldValue, IsWorld}
use Rattle.hk_model.specs.Running.{AreStepsOf}
use Rattle.hk_program.proofs.Machines.{lines_within}

-- they can be numbered from 1 on, and one more
pub lines_few : (w : WorldValue) (lines : List Line) → IsWorld w → AreStepsOf w lines → length lines + 1 < 2 ^ 32
lines_few w lines world steps =
    let c = lines_within w lines world steps in
    let d = world.few_events in
    let e : event_limit ≡ 1000000 = refl in
    omega (arith, c, d, e)
