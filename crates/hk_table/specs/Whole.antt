-- The objects of the state, from what stands in the slots and who waits there. docs/RULES.md, "Objects, incarnations, processes".
use Rattle.std.specs.Prelude.{List, [], ◌∷◌, Option, Some, None}
use Rattle.hk_model.specs.declared.names.Name.{Name}
use Rattle.hk_model.specs.declared.names.Proc.{Proc}
use Rattle.hk_model.specs.declared.objects.Object.{Object}
use Rattle.hk_objects.specs.declared.body.Body.{Body}
use Rattle.hk_objects.specs.Shelf.{code_of, params_of}

-- an object, with who waits there
abbrev pub whole_object : Body → List Proc → Object
whole_object b procs =
    record { of = b.of; words = b.words; entries = b.entries; count = b.count; waiters = procs; code = code_of b.procedure; params = params_of b.procedure }

-- what stands in a slot, with who waits there
abbrev pub with_waiters : Option (Name × Body) → List Proc → Option (Name × Object)
with_waiters None procs = None
with_waiters (Some e) procs = Some (e.0, whole_object e.1 procs)

-- each slot with the list of its number
abbrev pub whole : List (Option (Name × Body)) → List (List Proc) → List (Option (Name × Object))
whole [] waiting = []
whole (p ∷ ps) [] = with_waiters p [] ∷ whole ps []
whole (p ∷ ps) (procs ∷ waiting) = with_waiters p procs ∷ whole ps waiting
