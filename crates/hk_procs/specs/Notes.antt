-- Lists of notes, which are histories of a desk. docs/TURNS.md, "The desk".
use Rattle.std.specs.Prelude.{◌≡◌, ℕ, List, [], ◌∷◌, ◌++◌}
use Rattle.hk_model.specs.declared.names.Cpu.{Cpu}
use Rattle.hk_model.specs.declared.lines.Line.{Line}
use Rattle.hk_turn.specs.declared.pass.Pass.{Pass}
use Rattle.hk_turn.specs.Passes.{pass_number}
use Rattle.hk_procs.specs.declared.notes.Noted.{Noted}
use Rattle.hk_procs.specs.declared.notes.Noted.TheVariants.{Event, Stop}

-- the processor that has the pass
abbrev pub cpu_of : Pass Noted → Cpu
cpu_of pass = record { 0 = pass_number pass }

-- the number of the processor that made the note
abbrev pub owner_of : Noted → ℕ
owner_of (Event line) = line.cpu.0
owner_of (Stop cpu) = cpu.0

-- the lines among the notes
abbrev pub lines_of : List Noted → List Line
lines_of [] = []
lines_of (Event line ∷ notes) = line ∷ lines_of notes
lines_of (Stop cpu ∷ notes) = lines_of notes

-- a note of each line
abbrev pub events : List Line → List Noted
events [] = []
events (line ∷ lines) = Event line ∷ events lines

-- no processor has stopped: each note is of a line
abbrev pub IsGoing : List Noted → Type 0
IsGoing notes = (lines : List Line) × (notes ≡ events lines)

-- this processor has stopped, which is the last note; all others are of lines
abbrev pub IsStoppedBy : Cpu → List Noted → Type 0
IsStoppedBy cpu notes = (lines : List Line) × (notes ≡ events lines ++ Stop cpu ∷ [])

-- a processor has stopped
abbrev pub IsStopped : List Noted → Type 0
IsStopped notes = (cpu : Cpu) × IsStoppedBy cpu notes
