-- What is shown of a world without processes, for the tests.
use Rattle.std.specs.Prelude.{◌≡◌, true, List, [], Some, None, refl}
use Rattle.std.proofs.Common.{sym, ◌∙◌, arith}
use Rattle.hk_model.specs.declared.names.Cpu.{Cpu}
use Rattle.hk_model.specs.declared.names.Proc.{Proc}
use Rattle.hk_model.specs.declared.frames.Todo.{Todo}
use Rattle.hk_model.specs.WorldValue.{world_value}
use Rattle.hk_model.specs.Control.{Context}
use Rattle.hk_model.specs.Opening.{opening}
use Rattle.hk_model.specs.Processors.{runner}
use Rattle.hk_model.specs.Running.{opened}
use Rattle.hk_procs.specs.declared.notes.Noted.{Noted}
use Rattle.hk_procs.specs.Shown.{RunsNothing, MakesNext, state_shown, is_end_shown}
use Rattle.hk_procs.specs.declared.answers.Asked.TheVariants.{Over}
use Rattle.hk_procs.specs.Promises.{AnswersAsk}

nothing_runs : (cpu : Cpu) → RunsNothing (world_value 1 [] [] []) cpu []
unfolding opened opening
nothing_runs cpu = refl

-- no processor runs anything
pub empty_runs_nothing : (cpu : Cpu) (notes : List Noted) → notes ≡ [] → RunsNothing (world_value 1 [] [] []) cpu notes
empty_runs_nothing cpu notes h = rw h (nothing_runs cpu)

over : is_end_shown (world_value 1 [] [] []) [] ≡ true
unfolding opened opening
over = refl

empty_is_over : (cpu : Cpu) → AnswersAsk (world_value 1 [] [] []) cpu [] [] Over
empty_is_over cpu = ((([], refl, λ k d l. absurd (omega (arith, l))), tt), ([], refl), over)

-- so a desk of it may say that it is over
pub empty_answers_over : (cpu : Cpu) (notes : List Noted) → notes ≡ [] → AnswersAsk (world_value 1 [] [] []) cpu notes notes Over
empty_answers_over cpu notes h = rw h (empty_is_over cpu)

-- no process has a call to make
pub empty_makes_nothing : (cpu : Cpu) (notes : List Noted) (proc : Proc) (todo : Todo) (context : Context) → notes ≡ []
    → MakesNext (world_value 1 [] [] []) cpu notes proc todo context → ⊥
empty_makes_nothing cpu notes proc todo context h makes =
    let none : runner (state_shown (world_value 1 [] [] []) notes) cpu ≡ None = empty_runs_nothing cpu notes h in
    let some : runner (state_shown (world_value 1 [] [] []) notes) cpu ≡ Some proc = makes.0 in
    let clash : ◌≡◌ {A = _} None (Some proc) = sym none ∙ some in
    absurd (cc)
