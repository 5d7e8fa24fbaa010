-- Workers of one run: their passes, and the book that they leave. docs/TURNS.md, "Runs".
use Rattle.std.specs.Prelude.{◌≡◌, ◌<◌, ◌⊎◌, ℕ, true, List, [], None, All}
use Rattle.hk_model.specs.declared.lines.Line.{Line}
use Rattle.hk_model.specs.WorldValue.{WorldValue}
use Rattle.hk_model.specs.State.{State}
use Rattle.hk_model.specs.Running.{AreStepsOf, state_after}
use Rattle.hk_model.specs.Legal.{end_word}
use Rattle.hk_turn.specs.declared.pass.Pass.{Pass}
use Rattle.hk_turn.specs.declared.turns.Turns.{Turns}
use Rattle.hk_model.specs.Limits.{cpu_limit}
use Rattle.hk_turn.specs.Passes.{pass_number, seen_list}
use Rattle.hk_turn.specs.Turns.{IsPassOf}
use Rattle.hk_procs.specs.declared.notes.Noted.{Noted}
use Rattle.hk_procs.specs.Notes.{IsStopped}
use Rattle.hk_procs.specs.Shown.{is_end_shown}
use Rattle.hk_shared.specs.declared.book.Book.{Book}

-- a pass of these turns and of a processor that there is, which has seen nothing
abbrev pub IsFresh : {T : Type 0} → Turns T Noted → Pass Noted → Type 0
IsFresh {T} turns pass = IsPassOf turns pass × (pass_number pass < cpu_limit) × (seen_list pass ≡ [])

-- the work is at its end: the limit is reached, no process is ready and none runs, or a processor has stopped
abbrev pub IsEnd : WorldValue → List Noted → Type 0
IsEnd w notes = (is_end_shown w notes ≡ true) ⊎ IsStopped notes

-- what the pass has seen comes to the end of the work
abbrev pub HasSeenEnd : WorldValue → Pass Noted → Type 0
HasSeenEnd w pass = IsEnd w (seen_list pass)

-- the book of a run by so many processors, of which none has stopped: its lines are steps that lead to its kernel's state, which has an end word
pub record IsClosed {K J : Type 0} (state : K → State) (w : WorldValue) (cpus : ℕ) (book : Book K J) : Type 0 where
  pub steps : AreStepsOf w book.lines.items
  pub below : All (λ (line : Line). line.cpu.0 < cpus) book.lines.items
  pub kernel : state book.kernel ≡ state_after w book.lines.items
  pub ends : end_word (state_after w book.lines.items) ≡ None → ⊥
