-- What the end of a path names, from what was named before, and whose list a call changes. docs/RULES.md, "Walks" and "Under a call".
use Rattle.std.specs.Prelude.{ℕ, List, [], ◌∷◌, Option, Some, None, option_map}
use Rattle.hk_model.specs.declared.names.Name.{Name}
use Rattle.hk_model.specs.declared.names.Inc.{Inc}
use Rattle.hk_model.specs.declared.calls.Call.{Call}
use Rattle.hk_model.specs.declared.calls.Call.TheVariants as call
use Rattle.hk_model.specs.State.{State}
use Rattle.hk_model.specs.Places.{EntryOf, standing, object_named, named_by}
use Rattle.hk_model.specs.Lines.{changes_path}

-- the object that is named at the last step, from the one that a step before names
abbrev pub named_last : State → Name → List ℕ → Name
named_last s name [] = name
named_last s name (at ∷ rest) = named_last s (object_named (standing s (EntryOf name at))) rest

-- the path to the object whose list is changed, where a Store, Append or Erase was done
abbrev pub lists_path : Option Call → Option (List ℕ)
lists_path (Some (call.Store list at from)) = Some list
lists_path (Some (call.Append list from)) = Some list
lists_path (Some (call.Erase list at)) = Some list
lists_path _ = None

-- the object that a call names whose list it changes where it is done
abbrev pub named_list : State → Inc → Option Call → Option Name
named_list s inc c = option_map (named_by s inc) (lists_path c)

-- the object that a call names which it changes where it is done
abbrev pub named_change : State → Inc → Option Call → Option Name
named_change s inc c = option_map (named_by s inc) (changes_path c)
