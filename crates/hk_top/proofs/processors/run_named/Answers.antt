use Rattle.std.proofs.Common.{arith, ap, subst, sym, ◌∙◌, ℕ}
use Rattle.std.specs.Prelude.{All, ◌<◌, is_some}
use Rattle.hk_model.specs.WorldValue.{WorldValue}
use Rattle.hk_procs.specs.Notes.{owner_of}
use Rattle.hk_turn.specs.Turns.{seat_count}
use Rattle.hk_top.specs.Workers.{IsClosed}
use Rattle.hk_top.proofs.Closing.{closed_all, unstopped}
use Rattle.hk_top.proofs.processors.run_named.Goals as goal

pub record_of_book-requires-clause-closed : goal.record_of_book-requires-clause-closed
record_of_book-requires-clause-closed g c =
    let stands = c.close-book.ensures in
    let back = c.in_ok-desk-2.ensures in
    let made = c.in_ok-desk.ensures in
    let few = c.requires.cpus in
    let seats = ap (λ desk. seat_count desk.turns) back.desk ∙ made.seats in
    let going = unstopped c.close-book.result.stop (ap is_some (sym c.stop.ensures) ∙ (sym c.is_some.ensures ∙ c.if-is_some.false)) in
    subst (λ (w : WorldValue). IsClosed g.K.Kernel.state w c.args.cpus c.close-book.result) (sym c.requires.world)
    (closed_all g.K.Kernel.state g.J.Naming.world c.args.cpus c.close-book.result stands.0 c.in_ok-desk-2.passes.items (omega (arith, back.count, made.count, few.0))
    stands.1 going back.ends stands.2
    (subst (λ (n : ℕ). All (λ note. owner_of note < n) stands.0) seats stands.3))
