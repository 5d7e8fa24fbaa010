use Rattle.std.proofs.Common.{◌<◌, ◌≤◌, ◌++◌, length, take, arith, refl, length-append}
use Rattle.hk_io.proofs.Streaming.{Consumes-append}
use Rattle.hk_io.proofs.whole.read_all.Goals as goal

pub returns-then-count-limit-clause-long : goal.returns-then-count-limit-clause-long
returns-then-count-limit-clause-long g c =
    let more = take c.in_ok-count.count c.read.new.buf in
    let over : c.args.limit < length (c.turns.bytes.items ++ more) =
    omega (arith, c.in_ok-count.ensures.bound.1, length-append c.turns.bytes.items more, c.turns.bytes.ok.0, c.len.ensures, c.if-count-limit.true) in (
      c.turns.bytes.items ++ more,
      Consumes-append _ _ _ c.turns.bytes.items more c.turns.invariant.taken c.in_ok-count.ensures.bytes.0,
      (λ _. over, λ _. refl),
    )

pub returns-in_err-extend_from_slice-clause-long : goal.returns-in_err-extend_from_slice-clause-long
returns-in_err-extend_from_slice-clause-long g c =
    let more = take c.in_ok-count.count c.read.new.buf in
    let within : length (c.turns.bytes.items ++ more) ≤ c.args.limit =
    omega (arith, c.in_ok-count.ensures.bound.1, length-append c.turns.bytes.items more, c.turns.bytes.ok.0, c.len.ensures, c.if-count-limit.false, c.turns.invariant.within) in
    let gives = c.from_residual-in_err-extend_from_slice.ensures in (
      c.turns.bytes.items ++ more,
      Consumes-append _ _ _ c.turns.bytes.items more c.turns.invariant.taken c.in_ok-count.ensures.bytes.0,
      (λ says. let other = rw says at gives.1 in cc, λ over. absurd (omega (arith, within, over))),
    )
