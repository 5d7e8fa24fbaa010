use Rattle.std.proofs.Common.{sym, ◌∙◌}
use Rattle.hk_shared.proofs.Turning.{ask_stopped, ask_over, some_of, none_of}
use Rattle.hk_shared.proofs.book.Book.ask.Goals as goal

pub returns-then-is_some-clause-answer : goal.returns-then-is_some-clause-answer
returns-then-is_some-clause-answer g c =
    let stop = some_of c.args.self.now.stop c.is_some.result c.if-is_some.true c.is_some.ensures in
    ask_stopped g.K.Kernel.state g.J.Naming.world c.args.cpu c.args.self.now c.requires.sound stop.0 stop.1

pub returns-then-is_over-clause-answer : goal.returns-then-is_over-clause-answer
returns-then-is_over-clause-answer g c =
    ask_over g.K.Kernel.state g.J.Naming.world c.args.cpu c.args.self.now c.requires.sound (none_of c.args.self.now.stop c.is_some.result c.if-is_some.false c.is_some.ensures)
    (sym c.is_over.ensures ∙ c.if-is_over.true)
