-- What the answers of a desk promise, by what a pass had seen and has seen now. docs/TURNS.md, "The desk".
use Rattle.std.specs.Prelude.{◌≡◌, Bool, true, false, List, [], ◌∷◌, ◌++◌, length}
use Rattle.hk_model.specs.declared.names.Proc.{Proc}
use Rattle.hk_model.specs.declared.names.Inc.{Inc}
use Rattle.hk_model.specs.declared.names.Cpu.{Cpu}
use Rattle.hk_model.specs.declared.calls.Call.{Call}
use Rattle.hk_model.specs.declared.calls.Reply.{Reply}
use Rattle.hk_model.specs.declared.calls.Reply.TheVariants as reply
use Rattle.hk_model.specs.declared.lines.What.{What}
use Rattle.hk_model.specs.declared.lines.What.TheVariants as what
use Rattle.hk_model.specs.declared.frames.Todo.{Todo}
use Rattle.hk_model.specs.declared.frames.Todo.TheVariants as todo
use Rattle.hk_model.specs.WorldValue.{WorldValue}
use Rattle.hk_model.specs.Running.{AreStepsOf}
use Rattle.hk_turn.specs.Rule.{GoesOn}
use Rattle.hk_procs.specs.declared.notes.Noted.{Noted}
use Rattle.hk_procs.specs.declared.notes.Noted.TheVariants.{Event, Stop}
use Rattle.hk_procs.specs.declared.answers.Asked.{Asked}
use Rattle.hk_procs.specs.declared.answers.Asked.TheVariants as asked
use Rattle.hk_procs.specs.declared.answers.Called.{Called}
use Rattle.hk_procs.specs.declared.answers.Called.TheVariants as called
use Rattle.hk_procs.specs.Notes.{owner_of, lines_of, IsGoing, IsStopped}
use Rattle.hk_procs.specs.Shown.{RunsNothing, HandsOut, has_left_shown, is_limit_shown, is_end_shown, is_idle_shown}

-- the history found at a turn: it goes on from what was seen with no note of the processor, and its lines are steps
abbrev pub IsFound : WorldValue → Cpu → List Noted → List Noted → Type 0
IsFound w cpu seen found = GoesOn owner_of cpu.0 seen found × AreStepsOf w (lines_of found)

-- at a turn at which no processor had stopped, this one added a note; all lines are steps
pub record Adds (w : WorldValue) (cpu : Cpu) (seen after : List Noted) (note : Noted) : Type 0 where
  pub found : List Noted
  pub goes_on : GoesOn owner_of cpu.0 seen found
  pub going : IsGoing found
  pub added : after ≡ found ++ note ∷ []
  pub steps : AreStepsOf w (lines_of after)
  -- it stops only below the limit
  pub below : is_limit_shown w found ≡ false

-- the note is of a line of the process
abbrev pub AddsLine : WorldValue → Cpu → List Noted → List Noted → Proc → What → Reply → Type 0
AddsLine w cpu seen after proc what reply =
    (inc : Inc) × Adds w cpu seen after (Event (record { cpu = cpu; proc = proc; inc = inc; what = what; reply = reply }))

-- of a call of `ask`
abbrev pub AnswersAsk : WorldValue → Cpu → List Noted → List Noted → Asked → Type 0
AnswersAsk w cpu seen after (asked.Given proc context) =
    AddsLine w cpu seen after proc what.Dispatch reply.Done × HandsOut w cpu after proc context
AnswersAsk w cpu seen after (asked.Idle n) =
    IsFound w cpu seen after × IsGoing after × RunsNothing w cpu after × (n ≡ length (lines_of after)) × (is_idle_shown w after ≡ true)
AnswersAsk w cpu seen after asked.Over = IsFound w cpu seen after × IsGoing after × (is_end_shown w after ≡ true)
AnswersAsk w cpu seen after asked.Stopped = IsFound w cpu seen after × IsStopped after

-- what the line of a call or a halt tells
abbrev pub todo_told : Todo → What
todo_told (todo.Do c) = what.Call c
todo_told todo.Halt = what.Halt

-- a call that may want memory
abbrev pub may_want : (Call → Bool) → Todo → Bool
may_want wants (todo.Do c) = wants c
may_want wants todo.Halt = false

-- of a call of `call`
abbrev pub AnswersCall : WorldValue → (Call → Bool) → Cpu → List Noted → List Noted → Proc → Todo → Called → Type 0
AnswersCall w wants cpu seen after proc next (called.Goes reply context) =
    AddsLine w cpu seen after proc (todo_told next) reply × HandsOut w cpu after proc context
AnswersCall w wants cpu seen after proc next (called.Gone reply) =
    AddsLine w cpu seen after proc (todo_told next) reply × RunsNothing w cpu after × (has_left_shown w after proc ≡ true)
AnswersCall w wants cpu seen after proc next called.Limit = IsFound w cpu seen after × IsGoing after × (is_limit_shown w after ≡ true)
AnswersCall w wants cpu seen after proc next called.Stopped = IsFound w cpu seen after × IsStopped after
AnswersCall w wants cpu seen after proc next called.NoMemory = Adds w cpu seen after (Stop cpu) × (may_want wants next ≡ true)
