use Rattle.std.proofs.Common.{length, arith}
use Rattle.hk_io.proofs.Streaming.{a_read}
use Rattle.hk_io.proofs.sure.SureBytesSource.read.Goals as goal

pub returns-clause-bytes : goal.returns-clause-bytes
returns-clause-bytes c =
    rw (← c.self.view_is)
    (a_read c.self.inside.bytes.items c.deref.result.now c.args.buf.now c.copy_from_slice.new.self c.self.inside.at (length c.args.buf.now) c.min-count.result
    c.deref.ensures.value c.copy_from_slice.ensures.after c.min-count.ensures (omega arith) (λ some. omega (arith, some)))
