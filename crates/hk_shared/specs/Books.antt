-- What a book stands for, and what a turn at it leaves. docs/TURNS.md, "The shared kernel".
use Rattle.std.specs.Prelude.{◌≡◌, ◌≤◌, ℕ, List, [], ◌∷◌, ◌++◌, Option, Some, None}
use Rattle.std.specs.Vec.{vec_capacity}
use Rattle.hk_model.specs.declared.names.Cpu.{Cpu}
use Rattle.hk_model.specs.WorldValue.{WorldValue, IsWorld}
use Rattle.hk_model.specs.State.{State}
use Rattle.hk_model.specs.Running.{AreStepsOf, state_after}
use Rattle.hk_procs.specs.declared.notes.Noted.{Noted}
use Rattle.hk_procs.specs.declared.notes.Noted.TheVariants.{Stop}
use Rattle.hk_procs.specs.Notes.{events, owner_of}
use Rattle.hk_shared.specs.declared.book.Book.{Book}
use Rattle.hk_shared.specs.declared.boxed.BoxedBook.{BoxedBook}
use Rattle.hk_shared.specs.Contexts.{machine_after, KeepsContexts}

-- the note of a stop, if there is one
abbrev pub stops : Option Cpu → List Noted
stops None = []
stops (Some cpu) = Stop cpu ∷ []

-- the notes that a turn adds
abbrev pub added : Option Noted → List Noted
added None = []
added (Some note) = note ∷ []

-- they are those of the processor of this number
abbrev pub IsOwnedBy : ℕ → Option Noted → Type 0
IsOwnedBy number None = Unit {0}
IsOwnedBy number (Some note) = owner_of note ≡ number

module _ {K J : Type 0} where
  -- a note of each line, and then that of the stop
  abbrev pub notes_of_book : Book K J → List Noted
  notes_of_book b = events b.lines.items ++ stops b.stop

  -- the lines are steps of the world that lead to the kernel's state, and the contexts are kept
  pub record IsSound (state : K → State) (w : WorldValue) (b : Book K J) : Type 0 where
    pub world : b.world ≡ w
    pub valid : IsWorld w
    pub steps : AreStepsOf w b.lines.items
    pub kernel : state b.kernel ≡ state_after w b.lines.items
    pub contexts : KeepsContexts (machine_after w b.lines.items) b.contexts.items
    -- there is room for as many lines as the limit
    pub room : w.limit ≤ vec_capacity b.lines

  -- the book stands for the notes
  abbrev pub IsBookOf : (K → State) → WorldValue → Book K J → List Noted → Type 0
  IsBookOf state w b notes = (notes_of_book b ≡ notes) × IsSound state w b

  -- and so does one that stays in its place
  abbrev pub IsBoxedBookOf : (K → State) → WorldValue → BoxedBook K J → List Noted → Type 0
  IsBoxedBookOf state w b notes = IsBookOf state w b.book.value notes

  -- the book after a turn of the processor, which may add a note of its own
  pub record IsNext (state : K → State) (w : WorldValue) (cpu : Cpu) (b next : Book K J) (note : Option Noted) : Type 0 where
    pub sound : IsSound state w next
    pub notes : notes_of_book next ≡ notes_of_book b ++ added note
    pub own : IsOwnedBy cpu.0 note
