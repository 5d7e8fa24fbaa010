use Rattle.std.proofs.Common.{ap, ◌∙◌, subst, ℕ}
use Rattle.hk_turn.specs.Passes.{seen_list}
use Rattle.hk_turn.specs.Turns.{found_list, turn_value}
use Rattle.hk_procs.specs.Notes.{cpu_of}
use Rattle.hk_procs.specs.Promises.{AnswersAsk}
use Rattle.hk_shared.specs.Books.{notes_of_book}
use Rattle.hk_shared.specs.declared.boxed.BoxedBook.{BoxedBook}
use Rattle.hk_shared.proofs.AtDesk.{few_found, still_idle, ask_answers}
use Rattle.hk_shared.proofs.desk.SharedDesk.ask.Goals as goal

pub ask-note-requires-clause-idle : goal.ask-note-requires-clause-idle
ask-note-requires-clause-idle g c =
    let t = c.take-turn.result in
    rw (c.value.ensures.value, c.number.ensures)
    (still_idle g.K.Kernel.state g.J.Naming.world (cpu_of c.args.pass) (turn_value t).book.value (seen_list c.args.pass) (found_list t) c.take-turn.ensures.stands
    c.take-turn.ensures.goes_on c.requires.idle)

pub give_back-requires-clause-room : goal.give_back-requires-clause-room
give_back-requires-clause-room g c =
    let t = c.take-turn.result in
    few_found g.K.Kernel.state g.J.Naming.world (cpu_of c.args.pass) (turn_value t).book.value (seen_list c.args.pass) (found_list t) c.take-turn.ensures.stands

pub returns-clause-answer : goal.returns-clause-answer
returns-clause-answer g c =
    let t = c.take-turn.result in
    let answer = subst (λ (n : ℕ). AnswersAsk g.J.Naming.world (record { 0 = n }) (notes_of_book c.value.result.now.book.value) (notes_of_book c.ask-note.new.self.book.value) c.ask-note.result.1)
    c.number.ensures c.ask-note.ensures.answer in
    ask_answers g.J.Naming.world (cpu_of c.args.pass) (seen_list c.args.pass) (found_list t) (notes_of_book c.value.result.now.book.value) (notes_of_book c.ask-note.new.self.book.value)
    (seen_list c.give_back.result) c.ask-note.result.0
    c.take-turn.ensures.goes_on (ap (λ (v : BoxedBook _ _). notes_of_book v.book.value) c.value.ensures.value ∙ c.take-turn.ensures.stands.0) c.ask-note.ensures.next.notes c.give_back.ensures.seen
    c.ask-note.result.1 answer
