use Rattle.std.specs.Prelude.{◌≡◌, ◌++◌, [], ◌∷◌, map, Some}
use Rattle.hk_model.specs.declared.world.Task.{Task}
use Rattle.hk_model.specs.Control.{new_frame}
use Rattle.hk_shared.proofs.shared.places.Given as goal

-- the places so far and those of the contexts that are left are those of the processes
abbrev pub invariant-loop-context : goal.invariant-loop-context
invariant-loop-context l = l.places.items ++ map Some l.context-iterator.rest.items ≡ map (λ (t : Task). Some (new_frame t.code ∷ [])) l.tasks
