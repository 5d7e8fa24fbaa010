use Rattle.std.proofs.Common.{ap, ◌∙◌, subst, ℕ}
use Rattle.hk_turn.specs.Passes.{seen_list}
use Rattle.hk_turn.specs.Turns.{found_list, turn_value}
use Rattle.hk_procs.specs.Notes.{cpu_of}
use Rattle.hk_procs.specs.Promises.{AnswersCall}
use Rattle.hk_shared.specs.Books.{notes_of_book}
use Rattle.hk_shared.specs.declared.boxed.BoxedBook.{BoxedBook}
use Rattle.hk_shared.proofs.AtDesk.{few_found, still_runs, still_next, call_answers}
use Rattle.hk_shared.proofs.desk.SharedDesk.call.Goals as goal

pub call-note-requires-clause-runs : goal.call-note-requires-clause-runs
call-note-requires-clause-runs g c =
    let t = c.take-turn.result in
    rw (c.value.ensures.value, c.number.ensures)
    (still_runs g.K.Kernel.state g.J.Naming.world (cpu_of c.args.pass) (turn_value t).book.value (seen_list c.args.pass) (found_list t) c.take-turn.ensures.stands c.take-turn.ensures.goes_on
    c.args.proc c.args.next c.args.context c.requires.shown)

pub call-note-requires-clause-next : goal.call-note-requires-clause-next
call-note-requires-clause-next g c =
    let t = c.take-turn.result in
    rw c.value.ensures.value
    (still_next g.K.Kernel.state g.J.Naming.world (cpu_of c.args.pass) (turn_value t).book.value (seen_list c.args.pass) (found_list t) c.take-turn.ensures.stands c.take-turn.ensures.goes_on
    c.args.proc c.args.next c.args.context c.requires.shown)

pub give_back-requires-clause-room : goal.give_back-requires-clause-room
give_back-requires-clause-room g c =
    let t = c.take-turn.result in
    few_found g.K.Kernel.state g.J.Naming.world (cpu_of c.args.pass) (turn_value t).book.value (seen_list c.args.pass) (found_list t) c.take-turn.ensures.stands

pub returns-clause-answer : goal.returns-clause-answer
returns-clause-answer g c =
    let t = c.take-turn.result in
    let answer = subst (λ (n : ℕ). AnswersCall g.J.Naming.world g.K.Kernel.wants (record { 0 = n }) (notes_of_book c.value.result.now.book.value) (notes_of_book c.call-note.new.self.book.value)
    c.args.proc c.args.next c.call-note.result.1) c.number.ensures c.call-note.ensures.answer in
    call_answers g.J.Naming.world (cpu_of c.args.pass) (seen_list c.args.pass) (found_list t) (notes_of_book c.value.result.now.book.value) (notes_of_book c.call-note.new.self.book.value)
    (seen_list c.give_back.result) c.call-note.result.0
    c.take-turn.ensures.goes_on (ap (λ (v : BoxedBook _ _). notes_of_book v.book.value) c.value.ensures.value ∙ c.take-turn.ensures.stands.0) c.call-note.ensures.next.notes c.give_back.ensures.seen g.K.Kernel.wants
    c.args.proc c.args.next c.call-note.result.1 answer
