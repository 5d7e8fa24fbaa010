-- What reads the pieces of a line from the left, so that the leftmost cause comes first. docs/FORMATS.md, "Grammar".
use Rattle.std.specs.Prelude.{ℕ, zero, suc, List, [], ◌∷◌, Option, Some, None, Result, Ok, Err}
use Rattle.hk_format.specs.declared.causes.ParseCause.{ParseCause}
use Rattle.hk_format.specs.declared.causes.ParseCause.TheVariants.{UnknownWord, Missing, Extra, OutOfRange}
use Rattle.hk_format.specs.Pieces.{Piece}

-- what was read, and the pieces that are left, or the first cause
abbrev pub Found : Type 0 → Type 0
Found A = Result (A × List Piece) ParseCause

-- a reader of the pieces that are left of a line
abbrev pub Reads : Type 0 → Type 0
Reads A = List Piece → Found A

-- what is read next, where nothing was refused before
abbrev pub onward : {A B : Type 0} → Found A → (A → Reads B) → Found B
onward (Ok x) next = next x.0 x.1
onward (Err cause) next = Err cause

infixl 10 ◌>>=◌
-- one reader, and then the next
abbrev pub ◌>>=◌ : {A B : Type 0} → Reads A → (A → Reads B) → Reads B
◌>>=◌ first next pieces = onward (first pieces) next

-- a value that was read, or the cause, with the pieces behind it
abbrev pub taken : {A : Type 0} → Result A ParseCause → List Piece → Found A
taken (Ok x) rest = Ok (x, rest)
taken (Err cause) rest = Err cause

-- the next piece, which is to be of a form
abbrev pub wanted : {A : Type 0} → (Piece → Result A ParseCause) → Reads A
wanted form [] = Err Missing
wanted form (p ∷ ps) = taken (form p) ps

-- the end of the line
abbrev pub end : {A : Type 0} → A → Reads A
end x [] = Ok (x, [])
end x (p ∷ ps) = Err Extra

-- a word that is not allowed here
abbrev pub unknown : {A : Type 0} → Reads A
unknown pieces = Err UnknownWord

-- the next piece, if there is one
abbrev pub optional : {A : Type 0} → (Piece → Result A ParseCause) → Reads (Option A)
optional form [] = Ok (None, [])
optional form (p ∷ ps) = onward (wanted form (p ∷ ps)) (λ x rest. Ok (Some x, rest))

-- all the pieces that are left
abbrev pub each : {A : Type 0} → (Piece → Result A ParseCause) → Reads (List A)
each form [] = Ok ([], [])
each form (p ∷ ps) = onward (wanted form (p ∷ ps)) (λ x rest. onward (each form ps) (λ xs end. Ok (x ∷ xs, end)))

-- the same, at most so many: one piece more has its own cause first
abbrev pub at_most : {A : Type 0} → ℕ → (Piece → Result A ParseCause) → Reads (List A)
at_most room form [] = Ok ([], [])
at_most zero form (p ∷ ps) = onward (wanted form (p ∷ ps)) (λ x rest. Err OutOfRange)
at_most (suc room) form (p ∷ ps) = onward (wanted form (p ∷ ps)) (λ x rest. onward (at_most room form ps) (λ xs end. Ok (x ∷ xs, end)))
