use Rattle.std.proofs.Common.{arith, ap}
use Rattle.hk_io.proofs.Streaming.{a_read}
use Rattle.hk_io.proofs.planned.BytesSource.read.Goals as goal

pub returns-clause-bytes : goal.returns-clause-bytes
returns-clause-bytes c =
    let each = ap (λ plan. plan.each) c.in_ok-call.ensures.ok in
    rw (← c.self.view_is)
    (a_read c.self.inside.bytes.items c.deref.result.now c.args.buf.now c.copy_from_slice.new.self c.self.inside.at c.min.result c.min-count.result
    c.deref.ensures.value c.copy_from_slice.ensures.after c.min-count.ensures (omega (arith, c.min.ensures))
    (λ some. omega (arith, c.min.ensures, c.each.ensures, each, c.self.invariant.1, some)))
