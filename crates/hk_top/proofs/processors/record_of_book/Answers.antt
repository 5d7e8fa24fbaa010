use Rattle.hk_top.proofs.Closing.{book_recorded}
use Rattle.hk_top.proofs.processors.record_of_book.Goals as goal

pub returns : goal.returns
returns g c =
    book_recorded g.K.Kernel.state c.args.world.now c.args.cpus c.args.book c.kernel.result.now c.into_kernel.result c.lines.result.now c.in-Some.end c.in_ok-end.field-0
    c.in_ok-record.field-0.status c.in_ok-record.field-0.text
    c.requires.cpus c.requires.closed c.kernel.ensures c.in_ok-end.ensures c.in-Some.is c.lines.ensures c.in_ok-record.ensures c.into_kernel.ensures
