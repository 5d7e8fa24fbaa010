-- How many times each made object is named. docs/RULES.md, "Objects that vanish".
use Rattle.std.specs.Prelude.{◌≡◌, ℕ, ◌+◌, ◌-◌, ◌==◌, Bool, true, false, nat_lt, if◌then◌else◌, List, ◌++◌, count_by, is_some, slice_index_or}
use Rattle.std.specs.List.{flat_map}
use Rattle.std.specs.Option.{unwrap_or}
use Rattle.std.specs.Map.{lookup}
use Rattle.hk_model.specs.declared.names.Name.{Name}
use Rattle.hk_model.specs.declared.names.Inc.{Inc}
use Rattle.hk_model.specs.declared.objects.Object.{Object}
use Rattle.hk_model.specs.declared.objects.Incarnation.{Incarnation}
use Rattle.hk_model.specs.declared.objects.Process.{Process}
use Rattle.hk_model.specs.State.{same_name, no_object}
use Rattle.hk_model.specs.Keeping.{entry_names, object_names, run_names, is_among}

-- the numbers of the made objects by their names, from the first made one on; those that may be named no more; and whether
-- the numbers are right
pub record Tally : Type 0 where
  pub first_new : Name
  pub numbers : List ℕ
  pub lost : List Name
  pub exact : Bool

-- the k-th made object, and its number
abbrev pub made : Tally → ℕ → Name
made t k = record { 0 = t.first_new.0 + k }

abbrev pub number : Tally → ℕ → ℕ
number t k = slice_index_or t.numbers k 0

-- how many times these names have this one
unfoldable pub times : Name → List Name → ℕ
times name names = count_by (same_name name) names

-- an object whose number is 0 is on the list of the lost ones
abbrev pub IsFound : Tally → ℕ → Type 0
IsFound t k = number t k ≡ 0 → is_among (made t k) t.lost ≡ true

-- the object is made, and its number is 0
abbrev pub is_unnamed : Tally → Name → Bool
is_unnamed t name = if nat_lt name.0 t.first_new.0 then false else number t (name.0 - t.first_new.0) == 0

-- the k-th made object is among these
abbrev pub has_made : Tally → ℕ → List (Name × Object) → Bool
has_made t k objects = is_some (lookup (same_name (made t k)) objects)

-- some names came, and others went
pub record Moved (old new : Tally) (came went : List Name) : Type 0 where
  pub first : new.first_new ≡ old.first_new
  pub exact : new.exact ≡ true → old.exact ≡ true
  pub counted : new.exact ≡ true → (k : ℕ) → number new k + times (made old k) went ≡ number old k + times (made old k) came
  pub found : new.exact ≡ true → (k : ℕ) → IsFound old k → IsFound new k

-- what the slots of incarnations name, the waiting processes, and the objects
abbrev pub slot_names : List (Inc × Incarnation) → List Name
slot_names live = flat_map (λ (e : Inc × Incarnation). flat_map entry_names e.1.slots) live

abbrev pub waiting_names : List Process → List Name
waiting_names processes = flat_map (λ (p : Process). run_names p.run) processes

abbrev pub inner_names : List (Name × Object) → List Name
inner_names objects = flat_map (λ (e : Name × Object). object_names e.1) objects

abbrev pub names_in : List (Inc × Incarnation) → List Process → List (Name × Object) → List Name
names_in live processes objects = (slot_names live ++ waiting_names processes) ++ inner_names objects

-- the object of a name among these
abbrev pub object_in : List (Name × Object) → Name → Object
object_in objects name = unwrap_or (lookup (same_name name) objects) no_object

-- the numbers are right, and each object that stands and is named nowhere is on the list
pub record AreCounted (live : List (Inc × Incarnation)) (processes : List Process) (objects : List (Name × Object)) (t : Tally) : Type 0 where
  pub counted : t.exact ≡ true → (k : ℕ) → number t k ≡ times (made t k) (names_in live processes objects)
  pub found : t.exact ≡ true → (k : ℕ) → has_made t k objects ≡ true → IsFound t k
