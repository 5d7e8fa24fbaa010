-- Tables over a world: what the columns of a row stand for, and what the cells of rows tell of processes.
-- docs/RULES.md, "The static bound".
use Rattle.std.specs.Prelude.{◌≡◌, ◌==◌, ℕ, ◌+◌, ◌<◌, ◌≤◌, Bool, false, List, [], length, Option, Some, None, IsTrue, slice_get, slice_index_or}
use Rattle.std.specs.Prelude.{slice_set, replicate, bit_and, bit_or, option_map}
use Rattle.std.specs.Option.{unwrap_or}
use Rattle.hk_model.specs.declared.names.Name.{Name}
use Rattle.hk_model.specs.declared.names.Proc.{Proc}
use Rattle.hk_model.specs.declared.entries.Entry.{Entry}
use Rattle.hk_model.specs.declared.entries.Param.{Param}
use Rattle.hk_model.specs.declared.world.Born.{Born}
use Rattle.hk_model.specs.declared.objects.Object.{Object}
use Rattle.hk_rights.specs.Rights.{has, all_rights, IsRightsWord, env_right}
use Rattle.hk_model.specs.WorldValue.{WorldValue}
use Rattle.hk_model.specs.State.{no_object, object}
use Rattle.hk_model.specs.Opening.{opening, object_of}
use Rattle.hk_model.specs.Targets.{kernel_types}
use Rattle.hk_bound.specs.declared.forms.Form.{Form}
use Rattle.hk_bound.specs.declared.gaps.Gap.{Gap}
use Rattle.hk_bound.specs.Each.{Each}
use Rattle.hk_bound.specs.Taking.{Thing, Old, MadeBy, Holder, Slots, Has, Right, Amplifies, Follows}

abbrev pub name_at : ℕ → Name
name_at n = record { 0 = n }

abbrev pub proc_at : ℕ → Proc
proc_at p = record { 0 = p }

-- the object of a name at the opening
abbrev pub opening_object : WorldValue → ℕ → Object
opening_object w n = object (opening w) (name_at n)

abbrev pub opening_entries : WorldValue → ℕ → List Entry
opening_entries w n = (opening_object w n).entries

abbrev pub opening_params : WorldValue → ℕ → List Param
opening_params w n = (opening_object w n).params

-- what a script's object is at the opening, by its place in the script
abbrev pub born_object : List Born → ℕ → Object
born_object bs place = unwrap_or (option_map (λ (b : Born). object_of b.kind) (slice_get bs place)) no_object

-- ---- columns: the objects of the opening, what each process makes, and the templates

abbrev pub object_count : WorldValue → ℕ
object_count w = kernel_types + length w.objects

abbrev pub thing_count : WorldValue → ℕ
thing_count w = object_count w + length w.tasks

abbrev pub width_of : WorldValue → List Form → ℕ
width_of w forms = thing_count w + length forms

-- ---- rows of cells

abbrev pub cell : List (List (Option ℕ)) → ℕ → ℕ → Option ℕ
cell rows p column = slice_index_or (slice_index_or rows p []) column None

-- the cell has all of these rights
abbrev pub covers : Option ℕ → ℕ → Bool
covers None rights = false
covers (Some old) rights = bit_and old rights == rights

-- the cell with these rights besides
abbrev pub joined : Option ℕ → ℕ → Option ℕ
joined None rights = Some rights
joined (Some old) rights = Some (bit_or old rights)

-- the rows with these rights besides in a cell
abbrev pub joined_rows : List (List (Option ℕ)) → ℕ → ℕ → ℕ → List (List (Option ℕ))
joined_rows rows p column rights = slice_set rows p (slice_set (slice_index_or rows p []) column (joined (cell rows p column) rights))

-- rows of cells with nothing
abbrev pub empty_rows : ℕ → ℕ → List (List (Option ℕ))
empty_rows count width = replicate count (replicate width None)

-- a row for each process, with a cell for each column
pub record AreRows (w : WorldValue) (forms : List Form) (rows : List (List (Option ℕ))) : Type 0 where
  pub count : length rows ≡ length w.tasks
  pub width : (p : ℕ) → p < length rows → length (slice_index_or rows p []) ≡ width_of w forms

-- it follows that a holder comes to have a thing with these rights
pub record ThingFollows (w : WorldValue) (h : Holder) (x : Thing) (rights : ℕ) : Type 0 where
  pub had : Follows w (Has h x)
  pub given : (n : ℕ) → IsTrue (has all_rights n) → IsTrue (has rights n) → Follows w (Right h x n)

-- it follows what a column with these rights tells of a holder
pub record CellFollows (w : WorldValue) (forms : List Form) (h : Holder) (column rights : ℕ) : Type 0 where
  pub old : column < object_count w → ThingFollows w h (Old (name_at column)) rights
  pub made : (maker : ℕ) → maker < length w.tasks → column ≡ object_count w + maker → ThingFollows w h (MadeBy (proc_at maker)) rights
  pub form : (place : ℕ) (f : Form) → slice_get forms place ≡ Some f → column ≡ thing_count w + place → IsTrue (has rights env_right) → Follows w (Amplifies h f.of f.check f.give)

-- all that rows tell follows
abbrev pub RowsFollow : WorldValue → List Form → List (List (Option ℕ)) → Type 0
RowsFollow w forms rows = (p column rights : ℕ) → cell rows p column ≡ Some rights → CellFollows w forms (Slots (proc_at p)) column rights

-- a gap: what follows, is in the range of the rows, and is not in them
pub record IsGap (w : WorldValue) (forms : List Form) (rows : List (List (Option ℕ))) (gap : Gap) : Type 0 where
  pub follows : CellFollows w forms (Slots (proc_at gap.process)) gap.column gap.rights
  pub process : gap.process < length w.tasks
  pub column : gap.column < width_of w forms
  pub word : IsRightsWord gap.rights
  pub lacking : covers (cell rows gap.process gap.column) gap.rights ≡ false

abbrev pub AreGaps : WorldValue → List Form → List (List (Option ℕ)) → List Gap → Type 0
AreGaps w forms rows gaps = Each (IsGap w forms rows) gaps

-- gaps that are found of a rule: where none is new, the rule holds
pub record Finds (w : WorldValue) (forms : List Form) (rows : List (List (Option ℕ))) (Rule : Type 0) (before after : List Gap) : Type 0 where
  pub more : length before ≤ length after
  pub gaps : AreGaps w forms rows before → AreGaps w forms rows after
  pub none : length after ≡ length before → Rule
