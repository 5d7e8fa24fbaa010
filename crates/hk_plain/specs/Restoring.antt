-- What a taking back makes before anything changes, and what goes again where memory is short. docs/RULES.md, "Lines taken back".
use Rattle.std.specs.Prelude.{◌≡◌, ⊤, List, [], ◌∷◌, Option, Some, None}
use Rattle.std.specs.Map.{lookup, remove_entry}
use Rattle.hk_model.specs.declared.names.Name.{Name}
use Rattle.hk_model.specs.declared.names.Inc.{Inc}
use Rattle.hk_model.specs.declared.names.Proc.{Proc}
use Rattle.hk_model.specs.declared.objects.Object.{Object}
use Rattle.hk_model.specs.declared.objects.Incarnation.{Incarnation}
use Rattle.hk_model.specs.State.{same_name, same_inc}
use Rattle.hk_plain.specs.declared.changes.Part.{Part}
use Rattle.hk_plain.specs.declared.changes.Part.TheVariants.{Word, Item, NewWord, NewItem, Tokens, NewWaiter, FirstWaiter}

-- objects without those of these names, and incarnations without those of these numbers
abbrev pub objects_without : List (Name × Object) → List (Name × Object) → List (Name × Object)
objects_without [] objects = objects
objects_without (e ∷ gone) objects = objects_without gone (remove_entry (same_name e.0) objects)

abbrev pub incarnations_without : List (Inc × Incarnation) → List (Inc × Incarnation) → List (Inc × Incarnation)
incarnations_without [] live = live
incarnations_without (e ∷ left) live = incarnations_without left (remove_entry (same_inc e.0) live)

-- who waited before the first went on; of another part nobody
abbrev pub waiters_before : Part → Object → List Proc
waiters_before (Word at old) o = []
waiters_before (Item at old) o = []
waiters_before NewWord o = []
waiters_before NewItem o = []
waiters_before (Tokens old) o = []
waiters_before NewWaiter o = []
waiters_before (FirstWaiter first) o = first ∷ o.waiters

-- these waited before at the object of a part, if it stands
abbrev pub HaveWaited : List Proc → Option (Name × Part) → List (Name × Object) → Type 0
HaveWaited waiters None objects = ⊤
HaveWaited waiters (Some (name, part)) objects = (o : Object) → lookup (same_name name) objects ≡ Some o → waiters ≡ waiters_before part o
