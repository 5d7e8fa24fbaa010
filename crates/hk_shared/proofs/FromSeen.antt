-- What is promised by the history found is promised by what was seen, where that history goes on from it.
use Rattle.std.specs.Prelude.{◌≢◌, ℕ, zero, suc, Bool, List, [], ◌∷◌, ◌++◌, All}
use Rattle.std.proofs.Common.{arith, ap, ◌∙◌, append_assoc}
use Rattle.hk_model.specs.declared.names.Proc.{Proc}
use Rattle.hk_model.specs.declared.names.Cpu.{Cpu}
use Rattle.hk_model.specs.declared.calls.Call.{Call}
use Rattle.hk_model.specs.declared.frames.Todo.{Todo}
use Rattle.hk_model.specs.WorldValue.{WorldValue}
use Rattle.hk_turn.specs.Rule.{GoesOn}
use Rattle.hk_procs.specs.declared.notes.Noted.{Noted}
use Rattle.hk_procs.specs.declared.answers.Asked.{Asked}
use Rattle.hk_procs.specs.declared.answers.Asked.TheVariants as asked
use Rattle.hk_procs.specs.declared.answers.Called.{Called}
use Rattle.hk_procs.specs.declared.answers.Called.TheVariants as called
use Rattle.hk_procs.specs.Notes.{owner_of}
use Rattle.hk_procs.specs.Promises.{Adds, AnswersAsk, AnswersCall}

all_cons : (P : Noted → Type 0) (x : Noted) (xs : List Noted) → ((d : Noted) → P x) → All P xs → All P (x ∷ xs)
all_cons P x xs h g zero d l = h d
all_cons P x xs h g (suc k) d l = g k d (omega (arith, l))

all_append : (P : Noted → Type 0) (xs ys : List Noted) → All P xs → All P ys → All P (xs ++ ys)
all_append P [] ys h g = g
all_append P (x ∷ xs) ys h g = all_cons P x (xs ++ ys) (λ d. h 0 d (omega arith)) (all_append P xs ys (λ k d l. h (suc k) d (omega (arith, l))) g)

pub goes_further : (number : ℕ) (seen found after : List Noted) → GoesOn owner_of number seen found → GoesOn owner_of number found after → GoesOn owner_of number seen after
goes_further number seen found after h g =
    (h.0 ++ g.0, g.1 ∙ (ap (λ (l : List Noted). l ++ g.0) h.1 ∙ append_assoc seen h.0 g.0), all_append (λ n. owner_of n ≢ number) h.0 g.0 h.2 g.2)

module _ (w : WorldValue) (cpu : Cpu) (seen found after : List Noted) (goes : GoesOn owner_of cpu.0 seen found) where
  adds_from : (note : Noted) → Adds w cpu found after note → Adds w cpu seen after note
  adds_from note h = record { found = h.found; goes_on = goes_further cpu.0 seen found h.found goes h.goes_on; going = h.going; added = h.added; steps = h.steps; below = h.below }

  pub ask_from : (answer : Asked) → AnswersAsk w cpu found after answer → AnswersAsk w cpu seen after answer
  ask_from (asked.Given proc context) h = ((h.0.0, adds_from _ h.0.1), h.1)
  ask_from (asked.Idle n) h = ((goes_further cpu.0 seen found after goes h.0.0, h.0.1), h.1, h.2, h.3, h.4)
  ask_from asked.Over h = ((goes_further cpu.0 seen found after goes h.0.0, h.0.1), h.1, h.2)
  ask_from asked.Stopped h = ((goes_further cpu.0 seen found after goes h.0.0, h.0.1), h.1)

  pub call_from : (wants : Call → Bool) (proc : Proc) (next : Todo) (answer : Called) → AnswersCall w wants cpu found after proc next answer
      → AnswersCall w wants cpu seen after proc next answer
  call_from wants proc next (called.Goes reply context) h = ((h.0.0, adds_from _ h.0.1), h.1)
  call_from wants proc next (called.Gone reply) h = ((h.0.0, adds_from _ h.0.1), h.1, h.2)
  call_from wants proc next called.Limit h = ((goes_further cpu.0 seen found after goes h.0.0, h.0.1), h.1, h.2)
  call_from wants proc next called.Stopped h = ((goes_further cpu.0 seen found after goes h.0.0, h.0.1), h.1)
  call_from wants proc next called.NoMemory h = (adds_from _ h.0, h.1)
