-- Who is woken at a semaphore. docs/RULES.md, "What each call does".
use Rattle.std.specs.Prelude.{◌≡◌, Bool, true, false, [], ◌∷◌, ◌++◌, Ok}
use Rattle.hk_model.specs.declared.names.Name.{Name}
use Rattle.hk_model.specs.declared.names.Proc.{Proc}
use Rattle.hk_model.specs.declared.calls.Answer.TheVariants.{Done}
use Rattle.hk_model.specs.declared.objects.ProcessState.TheVariants.{Waiting}
use Rattle.hk_model.specs.State.{State, object, process, put_object, put_process}
use Rattle.hk_model.specs.Rule.{token_given}

-- the process waits at the object, behind the others
abbrev pub waited : State → Proc → Name → State
waited s proc name =
    put_process (put_object s name (record (object s name) { waiters = (object s name).waiters ++ proc ∷ [] })) proc (record (process s proc) { run = Waiting name })

-- a token went to the first who waits; or nobody waits, and nothing has changed
abbrev pub Wakes : State → Name → Bool → State → Type 0
Wakes before name true after = token_given before name (object before name) (object before name).waiters ≡ Ok (Done, after)
Wakes before name false after = ((object before name).waiters ≡ []) × (after ≡ before)
