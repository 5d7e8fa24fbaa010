-- The rules of taking over rows of cells: what a process gets where the rows have the cells of a rule. docs/RULES.md, "The static bound".
use Rattle.std.specs.Prelude.{◌≡◌, ◌==◌, ◌&&◌, ◌||◌, ◌⊎◌, ℕ, ◌+◌, ◌<◌, Bool, true, false, List, length, Option, Some, None, IsTrue, is_some, IfSome, MatchOption}
use Rattle.std.specs.Prelude.{slice_get, if◌then◌else◌, bit_or, option_map}
use Rattle.hk_model.specs.declared.names.Name.{Name}
use Rattle.hk_model.specs.declared.entries.Entry.{Entry}
use Rattle.hk_model.specs.declared.entries.Entry.TheVariants as entry
use Rattle.hk_model.specs.declared.entries.Param.{Param}
use Rattle.hk_model.specs.declared.entries.Template.TheVariants as template
use Rattle.hk_model.specs.declared.world.Task.{Task}
use Rattle.hk_rights.specs.Rights.{has, all_rights, ENV, load_right, store_right, append_right, copy_right, modify_right, env_right, unconf_right, a0_right}
use Rattle.hk_model.specs.WorldValue.{WorldValue, IsWorld}
use Rattle.hk_model.specs.Walking.{reduced_rights}
use Rattle.hk_model.specs.Merging.{merged_rights}
use Rattle.hk_model.specs.Targets.{TYPE, PROCEDURE, is_general, is_listed}
use Rattle.hk_bound.specs.declared.forms.Form.{Form}
use Rattle.hk_bound.specs.declared.gaps.Taking.{Taking}
use Rattle.hk_bound.specs.Taking.{Slots, at_opening, type_of}
use Rattle.hk_bound.specs.Each.{Each, Among}
use Rattle.hk_bound.specs.Forms.{AreForms, IsFirst, param_form, made_form}
use Rattle.hk_bound.specs.Columns.{name_at, proc_at, joined, opening_entries, opening_params, object_count, thing_count, width_of, cell, covers, CellFollows, RowsFollow}

-- what is known of rows
pub record IsKnown (w : WorldValue) (forms : List Form) (rows : List (List (Option ℕ))) : Type 0 where
  pub world : IsWorld w
  pub forms_are : AreForms w forms
  pub follow : RowsFollow w forms rows

-- the cell has ENV
abbrev pub env_in : Option ℕ → Bool
env_in None = false
env_in (Some rights) = has rights env_right

-- through a cell for an object of a type entries are put into its list
abbrev pub stores_in : Name → Option ℕ → Bool
stores_in of None = false
stores_in of (Some by) = is_listed of && (has by modify_right && (has by store_right || has by append_right))

-- how a cell for an object of a type takes from its list: by a call, a Load or a Copy
abbrev pub taking_of : Name → Option ℕ → Option Taking
taking_of of None = None
taking_of of (Some by) =
    if (of.0 == PROCEDURE && has by a0_right) then Some (record { by = bit_or by ENV; copied = false })
    else (if has by load_right then Some (record { by = by; copied = false })
    else (if (is_general of && (has by copy_right && has by env_right)) then Some (record { by = by; copied = true }) else None))

-- the column and the rights that an entry counts for
abbrev pub IsHeld : WorldValue → List Form → Entry → ℕ → ℕ → Type 0
IsHeld w forms entry.Empty column rights = ⊥
IsHeld w forms (entry.Held cap) column rights = (column ≡ cap.name.0) × (rights ≡ cap.rights)
IsHeld w forms (entry.Form (template.Amplify None check give)) column rights = ⊥
IsHeld w forms (entry.Form (template.Amplify (Some of) check give)) column rights =
    ((place : ℕ) × IsFirst forms (record { of = of; check = check; give = give }) place × (column ≡ thing_count w + place)) × (rights ≡ ENV)
IsHeld w forms (entry.Form (template.Create of give)) column rights = ⊥

-- what an entry counts for: nothing, or one column with rights
abbrev pub IsHeldAs : WorldValue → List Form → Entry → Option (ℕ × ℕ) → Type 0
IsHeldAs w forms e found = MatchOption found
    ((column rights : ℕ) → IsHeld w forms e column rights → ⊥)
    (λ held. IsHeld w forms e held.0 held.1 × ((column rights : ℕ) → IsHeld w forms e column rights → (column ≡ held.0) × (rights ≡ held.1)))

-- an opening entry of an object has ENV for a column
pub record OpensWithEnv (w : WorldValue) (forms : List Form) (name column : ℕ) : Type 0 where
  pub index : ℕ
  pub item : Entry
  pub rights : ℕ
  pub at : slice_get (opening_entries w name) index ≡ Some item
  pub held : IsHeld w forms item column rights
  pub env : IsTrue (has rights env_right)

-- a process may store something with ENV for a column into the list of an object
pub record StoredWithEnv (w : WorldValue) (rows : List (List (Option ℕ))) (name column : ℕ) : Type 0 where
  pub process : ℕ
  pub runs : process < length w.tasks
  pub stores : stores_in (type_of w (name_at name)) (cell rows process name) ≡ true
  pub env : env_in (cell rows process column) ≡ true

-- what the list of an object has for a column has ENV
abbrev pub ListedWithEnv : WorldValue → List Form → List (List (Option ℕ)) → ℕ → ℕ → Type 0
ListedWithEnv w forms rows name column = OpensWithEnv w forms name column ⊎ StoredWithEnv w rows name column

-- a cell has these rights
abbrev pub Offered : List (List (Option ℕ)) → ℕ → ℕ → ℕ → Type 0
Offered rows p column rights = covers (cell rows p column) rights ≡ true

-- ---- what a process gets

-- of one entry in the list of an object
abbrev pub EntryRule : WorldValue → List Form → List (List (Option ℕ)) → ℕ → ℕ → Taking → Entry → Type 0
EntryRule w forms rows p name t e =
    (column rights : ℕ) → IsHeld w forms e column rights → (t.copied ≡ false) ⊎ ListedWithEnv w forms rows name column → Offered rows p column (reduced_rights t.by rights)

-- of the opening entries of an object
abbrev pub EntriesRule : WorldValue → List Form → List (List (Option ℕ)) → ℕ → ℕ → Type 0
EntriesRule w forms rows p name =
    (t : Taking) → taking_of (type_of w (name_at name)) (cell rows p name) ≡ Some t → Each (EntryRule w forms rows p name t) (opening_entries w name)

-- a template: wherever it is among the templates it is had
abbrev pub FormRule : WorldValue → List Form → List (List (Option ℕ)) → ℕ → Form → Type 0
FormRule w forms rows p form = (place : ℕ) × (slice_get forms place ≡ Some form) × Offered rows p (thing_count w + place) ENV

-- of a parameter
abbrev pub ParamRule : WorldValue → List Form → List (List (Option ℕ)) → ℕ → Param → Type 0
ParamRule w forms rows p param = IfSome (param_form param) (FormRule w forms rows p)

-- of the parameters of a procedure
abbrev pub ParamsRule : WorldValue → List Form → List (List (Option ℕ)) → ℕ → ℕ → ℕ → Type 0
ParamsRule w forms rows p name by =
    has by a0_right ≡ true → (type_of w (name_at name)).0 ≡ PROCEDURE → Each (ParamRule w forms rows p) (opening_params w name)

-- of a type
abbrev pub TypeRule : WorldValue → List Form → List (List (Option ℕ)) → ℕ → ℕ → ℕ → Type 0
TypeRule w forms rows p name by =
    has by a0_right ≡ true → has by env_right ≡ true → (type_of w (name_at name)).0 ≡ TYPE → FormRule w forms rows p (made_form (name_at name))

-- of one template for an object
abbrev pub MergeRule : WorldValue → List Form → List (List (Option ℕ)) → ℕ → ℕ → ℕ → ℕ → Type 0
MergeRule w forms rows p name by place =
    (form : Form) → slice_get forms place ≡ Some form → form.of ≡ type_of w (name_at name)
    → ((n : ℕ) → IsTrue (has all_rights n) → IsTrue (has form.check n) → IsTrue (has by n)) → env_in (cell rows p (thing_count w + place)) ≡ true
    → Offered rows p name (merged_rights by (Some form.of) form.give)

abbrev pub MergesRule : WorldValue → List Form → List (List (Option ℕ)) → ℕ → ℕ → ℕ → Type 0
MergesRule w forms rows p name by = (place : ℕ) → place < length forms → MergeRule w forms rows p name by place

-- by what it has for an object of the opening
pub record ObjectRule (w : WorldValue) (forms : List Form) (rows : List (List (Option ℕ))) (p name : ℕ) : Type 0 where
  pub entries : EntriesRule w forms rows p name
  pub params : (by : ℕ) → cell rows p name ≡ Some by → ParamsRule w forms rows p name by
  pub types : (by : ℕ) → cell rows p name ≡ Some by → TypeRule w forms rows p name by
  pub merges : (by : ℕ) → cell rows p name ≡ Some by → MergesRule w forms rows p name by

-- ---- what a process gets of another

-- whatever the other has with ENV comes to this one through these rights
abbrev pub Passes : WorldValue → List Form → ℕ → ℕ → ℕ → Type 0
Passes w forms p q by =
    (column rights : ℕ) → has rights env_right ≡ true → CellFollows w forms (Slots (proc_at q)) column rights
    → CellFollows w forms (Slots (proc_at p)) column (reduced_rights by rights)

-- one of two processes has what the other makes
abbrev pub share_made : WorldValue → List (List (Option ℕ)) → ℕ → ℕ → Bool
share_made w rows p q = is_some (cell rows p (object_count w + q)) || is_some (cell rows q (object_count w + p))

-- the rights through which a process takes from an object into which another stores, by their cells for it
abbrev pub through_in : Name → Option ℕ → Option ℕ → Option ℕ
through_in of mine theirs = if stores_in of theirs then option_map (λ (t : Taking). t.by) (taking_of of mine) else None

-- a cell with the rights of another besides
abbrev pub joined_cells : Option ℕ → Option ℕ → Option ℕ
joined_cells cell None = cell
joined_cells cell (Some rights) = joined cell rights

-- the rights pass whatever these pass
abbrev pub Reaches : ℕ → ℕ → Type 0
Reaches all more = (has more unconf_right ≡ true → has all unconf_right ≡ true) × (has more env_right ≡ true → has all env_right ≡ true)

-- no more passes through any other rights
abbrev pub passes_all : Option ℕ → Bool
passes_all None = false
passes_all (Some by) = has by unconf_right && has by env_right

-- the rights pass what passes through those objects of a kind into which the other stores
abbrev pub HasTakings : WorldValue → List (List (Option ℕ)) → ℕ → ℕ → (ℕ → Type 0) → Option ℕ → Type 0
HasTakings w rows p q Is by =
    (name more : ℕ) → Is name → through_in (type_of w (name_at name)) (cell rows p name) (cell rows q name) ≡ Some more → (all : ℕ) × (by ≡ Some all) × Reaches all more

-- the objects of the opening into which a process stores, all of them
pub record AreStored (w : WorldValue) (rows : List (List (Option ℕ))) (q : ℕ) (names : List ℕ) : Type 0 where
  pub low : Each (λ name. name < object_count w) names
  pub all : (name : ℕ) → name < object_count w → stores_in (type_of w (name_at name)) (cell rows q name) ≡ true → Among names name

-- what the other has with ENV is there, through these rights
abbrev pub CellRule : List (List (Option ℕ)) → ℕ → ℕ → ℕ → ℕ → Type 0
CellRule rows p q by column = (rights : ℕ) → cell rows q column ≡ Some rights → has rights env_right ≡ true → Offered rows p column (reduced_rights by rights)

abbrev pub PassedRule : WorldValue → List Form → List (List (Option ℕ)) → ℕ → ℕ → ℕ → Type 0
PassedRule w forms rows p q by = (column : ℕ) → column < width_of w forms → CellRule rows p q by column

pub record StoredRule (w : WorldValue) (forms : List Form) (rows : List (List (Option ℕ))) (p q : ℕ) : Type 0 where
  pub made : share_made w rows p q ≡ true → PassedRule w forms rows p q all_rights
  pub stored : share_made w rows p q ≡ false → (name more : ℕ) → name < object_count w → through_in (type_of w (name_at name)) (cell rows p name) (cell rows q name) ≡ Some more
      → (all : ℕ) × Reaches all more × PassedRule w forms rows p q all

-- ---- what a process has at the opening and makes

-- the process has this entry in a slot at the opening
pub record OpensWith (w : WorldValue) (p : ℕ) (e : Entry) : Type 0 where
  pub index : ℕ
  pub at : at_opening w (Slots (proc_at p)) index ≡ e
  pub task : Task
  pub is : slice_get w.tasks p ≡ Some task
  pub slot : slice_get task.slots index ≡ Some e

abbrev pub SlotRule : WorldValue → List Form → List (List (Option ℕ)) → ℕ → Entry → Type 0
SlotRule w forms rows p e = (column rights : ℕ) → IsHeld w forms e column rights → Offered rows p column rights

pub record MadeRule (w : WorldValue) (rows : List (List (Option ℕ))) (p maker : ℕ) : Type 0 where
  pub own : maker ≡ p → Offered rows p (object_count w + maker) all_rights
  pub had : is_some (cell rows p (object_count w + maker)) ≡ true → Offered rows p (object_count w + maker) all_rights

-- the rules of a process by what it has itself
pub record OwnRule (w : WorldValue) (forms : List Form) (rows : List (List (Option ℕ))) (p : ℕ) : Type 0 where
  pub slots : (task : Task) → slice_get w.tasks p ≡ Some task → Each (SlotRule w forms rows p) task.slots
  pub made : (maker : ℕ) → maker < length w.tasks → MadeRule w rows p maker
  pub objects : (name : ℕ) → name < object_count w → ObjectRule w forms rows p name

-- all rules of a process
pub record ProcessRule (w : WorldValue) (forms : List Form) (rows : List (List (Option ℕ))) (p : ℕ) : Type 0 where
  pub slots : (task : Task) → slice_get w.tasks p ≡ Some task → Each (SlotRule w forms rows p) task.slots
  pub made : (maker : ℕ) → maker < length w.tasks → MadeRule w rows p maker
  pub objects : (name : ℕ) → name < object_count w → ObjectRule w forms rows p name
  pub others : (q : ℕ) → q < length w.tasks → StoredRule w forms rows p q

-- the rules of all processes: by what they have themselves, of what one stores and of what all store, and all of them
abbrev pub OwnRules : WorldValue → List Form → List (List (Option ℕ)) → Type 0
OwnRules w forms rows = (p : ℕ) → p < length w.tasks → OwnRule w forms rows p

abbrev pub StoredFrom : WorldValue → List Form → List (List (Option ℕ)) → ℕ → Type 0
StoredFrom w forms rows q = (p : ℕ) → p < length w.tasks → StoredRule w forms rows p q

abbrev pub StoredRules : WorldValue → List Form → List (List (Option ℕ)) → Type 0
StoredRules w forms rows = (q : ℕ) → q < length w.tasks → StoredFrom w forms rows q

abbrev pub AllRules : WorldValue → List Form → List (List (Option ℕ)) → Type 0
AllRules w forms rows = (p : ℕ) → p < length w.tasks → ProcessRule w forms rows p
