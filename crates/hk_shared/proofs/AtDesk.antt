-- What a desk knows of the book that it finds at a turn, by what the pass has seen.
use Rattle.std.specs.Prelude.{◌≡◌, ◌<◌, ◌^◌, List, ◌++◌, length, Option, Some, None}
use Rattle.std.proofs.Common.{arith, ap, sym, ◌∙◌, subst}
use Rattle.hk_model.specs.declared.names.Proc.{Proc}
use Rattle.hk_model.specs.declared.names.Cpu.{Cpu}
use Rattle.hk_model.specs.declared.lines.Line.{Line}
use Rattle.hk_model.specs.declared.frames.Todo.{Todo}
use Rattle.hk_model.specs.WorldValue.{WorldValue}
use Rattle.hk_model.specs.State.{State}
use Rattle.hk_model.specs.Control.{Context, next}
use Rattle.hk_model.specs.Processors.{runner}
use Rattle.hk_model.specs.Running.{context_of, AreStepsOf, state_after}
use Rattle.hk_turn.specs.Rule.{GoesOn}
use Rattle.hk_procs.specs.declared.notes.Noted.{Noted}
use Rattle.hk_procs.specs.Notes.{owner_of, lines_of}
use Rattle.hk_procs.specs.Shown.{RunsNothing, MakesNext, state_shown}
use Rattle.hk_procs.specs.declared.answers.Asked.{Asked}
use Rattle.hk_procs.specs.declared.answers.Called.{Called}
use Rattle.hk_procs.specs.Promises.{AnswersAsk, AnswersCall}
use Rattle.hk_model.specs.declared.calls.Call.{Call}
use Rattle.hk_shared.proofs.FromSeen.{ask_from, call_from}
use Rattle.std.specs.Prelude.{Bool}
use Rattle.hk_shared.specs.declared.book.Book.{Book}
use Rattle.hk_shared.specs.Contexts.{machine_after}
use Rattle.hk_shared.specs.Books.{IsNext, IsBookOf, added}
use Rattle.hk_shared.proofs.LinesMost.{lines_most}
use Rattle.hk_shared.proofs.Notes.{lines_book, few_notes, runner_same, context_same}

module _ {K J : Type 0} (state : K → State) (w : WorldValue) (cpu : Cpu) (b : Book K J) (seen found : List Noted) (h : IsBookOf state w b found) where
  lines_are : lines_of found ≡ b.lines.items
  lines_are = ap lines_of (sym h.0) ∙ lines_book b.lines.items b.stop

  found_steps : AreStepsOf w (lines_of found)
  found_steps = subst (λ (ls : List Line). AreStepsOf w ls) (sym lines_are) h.1.steps

  found_state : state_shown w found ≡ state b.kernel
  found_state = ap (λ (ls : List Line). state_after w ls) lines_are ∙ sym h.1.kernel

  pub few_found : length found < 2 ^ 62
  few_found =
      let most = lines_most w b.lines.items h.1.valid h.1.steps in
      let limit = h.1.valid.few_events in
      let few = few_notes b.lines.items b.stop in
      let same = ap length h.0 in
      omega (arith, most, limit, few, same)

  -- the book after the turn stands for the notes found and the one that is added
  pub stands_next : (b' : Book K J) (note : Option Noted) → IsNext state w cpu b b' note → IsBookOf state w b' (found ++ added note)
  stands_next b' note n = (n.notes ∙ ap (λ (ns : List Noted). ns ++ added note) h.0, n.sound)

  module _ (goes : GoesOn owner_of cpu.0 seen found) where
    -- the processor still runs nothing
    pub still_idle : RunsNothing w cpu seen → runner (state b.kernel) cpu ≡ None
    still_idle idle = sym (ap (λ (s : State). runner s cpu) found_state) ∙ (runner_same w h.1.valid cpu seen found goes found_steps ∙ idle)

    -- the processor still runs the process
    pub still_runs : (proc : Proc) (todo : Todo) (context : Context) → MakesNext w cpu seen proc todo context → runner (state b.kernel) cpu ≡ Some proc
    still_runs proc todo context m = sym (ap (λ (s : State). runner s cpu) found_state) ∙ (runner_same w h.1.valid cpu seen found goes found_steps ∙ m.0)

    -- and the same is next for it
    pub still_next : (proc : Proc) (todo : Todo) (context : Context) → MakesNext w cpu seen proc todo context
        → (todo, context) ≡ next w (context_of (machine_after w b.lines.items) proc)
    still_next proc todo context m =
        m.1 ∙ ap (λ (c : Context). next w c) (sym (context_same w h.1.valid cpu seen found goes found_steps proc m.0) ∙ ap
        (λ (ls : List Line). context_of (machine_after w ls) proc) lines_are)

-- what the book answers is the desk's answer by what the pass had seen
module _ (w : WorldValue) (cpu : Cpu) (seen found was now after : List Noted) (note : Option Noted) (goes : GoesOn owner_of cpu.0 seen found)
    (was_is : was ≡ found) (now_is : now ≡ was ++ added note) (after_is : after ≡ found ++ added note) where
  same_after : now ≡ after
  same_after = now_is ∙ (ap (λ (ns : List Noted). ns ++ added note) was_is ∙ sym after_is)

  pub ask_answers : (answer : Asked) → AnswersAsk w cpu was now answer → AnswersAsk w cpu seen after answer
  ask_answers answer h =
      ask_from w cpu seen found after goes answer (subst (λ (ns : List Noted). AnswersAsk w cpu found ns answer) same_after
      (subst (λ (ns : List Noted). AnswersAsk w cpu ns now answer) was_is h))

  pub call_answers : (wants : Call → Bool) (proc : Proc) (next : Todo) (answer : Called) → AnswersCall w wants cpu was now proc next answer
      → AnswersCall w wants cpu seen after proc next answer
  call_answers wants proc next answer h =
      call_from w cpu seen found after goes wants proc next answer
      (subst (λ (ns : List Noted). AnswersCall w wants cpu found ns proc next answer) same_after
      (subst (λ (ns : List Noted). AnswersCall w wants cpu ns now proc next answer) was_is h))
