-- A process without a frame is halted.
use Rattle.std.specs.Prelude.{◌≡◌, [], ◌∷◌, None, Result, Ok, Err, IfOk, slice_get, refl}
use Rattle.hk_model.specs.declared.names.Cpu.{Cpu}
use Rattle.hk_model.specs.declared.calls.Reply.TheVariants.{Done}
use Rattle.hk_model.specs.declared.kernel.NoMemory.{NoMemory}
use Rattle.hk_model.specs.declared.lines.What.TheVariants as what
use Rattle.hk_model.specs.WorldValue.{WorldValue}
use Rattle.hk_model.specs.State.{State}
use Rattle.hk_model.specs.Processors.{halted_on, process_on}
use Rattle.hk_model.specs.Control.{Context, next}
use Rattle.hk_model.specs.Running.{turn}
use Rattle.hk_undo.specs.declared.turning.Turned.{Turned}

turn_halts : (w : WorldValue) (s : State) (cpu : Cpu) (frames : Context) → slice_get frames 0 ≡ None
    → turn w s (process_on s cpu) (next w frames) ≡ (what.Halt, Done, halted_on s cpu, [])
unfolding next
turn_halts w s cpu [] h = refl
turn_halts w s cpu (f ∷ rest) h = absurd (cc)

pub halt_made : (w : WorldValue) (s : State) (cpu : Cpu) (frames : Context) (found : Result Turned NoMemory) (after : State) (left : Context) → slice_get frames 0 ≡ None
    → IfOk found (λ made. (made.what ≡ what.Halt) × (made.reply ≡ Done)) → IfOk found (λ made. after ≡ halted_on s cpu) → IfOk found (λ made. left ≡ [])
    → IfOk found (λ made. turn w s (process_on s cpu) (next w frames) ≡ (made.what, made.reply, after, left))
halt_made w s cpu frames (Err error) after left none event state gone = tt
halt_made w s cpu frames (Ok made) after left none event state gone = rw (event.0, event.1, state, gone) (turn_halts w s cpu frames none)
