-- The Amplify templates of a world that name a type. docs/RULES.md, "The static bound".
use Rattle.std.specs.Prelude.{◌≡◌, ◌⊎◌, ℕ, ◌<◌, ◌≤◌, List, length, Option, Some, None, IfSome, slice_get, option_map}
use Rattle.hk_model.specs.declared.names.Name.{Name}
use Rattle.hk_model.specs.declared.entries.Entry.{Entry}
use Rattle.hk_model.specs.declared.entries.Entry.TheVariants as entry
use Rattle.hk_model.specs.declared.entries.Param.{Param}
use Rattle.hk_model.specs.declared.entries.Template.TheVariants as template
use Rattle.hk_model.specs.declared.world.Task.{Task}
use Rattle.hk_rights.specs.Rights.{all_rights}
use Rattle.hk_model.specs.WorldValue.{WorldValue}
use Rattle.hk_model.specs.Targets.{TYPE}
use Rattle.hk_bound.specs.declared.forms.Form.{Form}
use Rattle.hk_bound.specs.Taking.{type_of}
use Rattle.hk_bound.specs.Each.{Each}
use Rattle.hk_bound.specs.Columns.{name_at, object_count, opening_entries, opening_params}

-- the template that an entry is, and a parameter
abbrev pub entry_form : Entry → Option Form
entry_form entry.Empty = None
entry_form (entry.Held cap) = None
entry_form (entry.Form (template.Amplify None check give)) = None
entry_form (entry.Form (template.Amplify (Some of) check give)) = Some (record { of = of; check = check; give = give })
entry_form (entry.Form (template.Create of give)) = None

abbrev pub param_form : Param → Option Form
param_form param = option_map (λ of. record { of = of; check = param.check; give = param.give }) param.of

-- the template for a type that asks for nothing and gives all
abbrev pub made_form : Name → Form
made_form of = record { of = of; check = 0; give = all_rights }

-- the template is among these
pub record Holds (forms : List Form) (form : Form) : Type 0 where
  pub place : ℕ
  pub is : slice_get forms place ≡ Some form

-- the first place of a template among these
pub record IsFirst (forms : List Form) (form : Form) (place : ℕ) : Type 0 where
  pub is : slice_get forms place ≡ Some form
  pub first : (k : ℕ) → k < place → slice_get forms k ≡ Some form → ⊥

-- a template stands before another: by the type that it is for, then by what it asks for, then by what it gives
abbrev pub IsBefore : Form → Form → Type 0
IsBefore f g = (f.of.0 < g.of.0) ⊎ ((f.of.0 ≡ g.of.0) × ((f.check < g.check) ⊎ ((f.check ≡ g.check) × (f.give < g.give))))

-- each template stands before those behind it, so each stands there once
abbrev pub AreSorted : List Form → Type 0
AreSorted forms = (j k : ℕ) (f g : Form) → j < k → slice_get forms j ≡ Some f → slice_get forms k ≡ Some g → IsBefore f g

-- from this place on stand the templates for a type and for those with later names
pub record IsStart (forms : List Form) (of start : ℕ) : Type 0 where
  pub before : (k : ℕ) (f : Form) → k < start → slice_get forms k ≡ Some f → f.of.0 < of
  pub behind : (k : ℕ) (f : Form) → start ≤ k → slice_get forms k ≡ Some f → of ≤ f.of.0
  pub within : start ≤ length forms

-- what is among the first is among the second
abbrev pub KeepsForms : List Form → List Form → Type 0
KeepsForms old new = (form : Form) → Holds old form → Holds new form

-- the templates of these entries, and of these parameters, are all there
abbrev pub HaveEntryForms : List Form → List Entry → Type 0
HaveEntryForms forms entries = Each (λ e. IfSome (entry_form e) (Holds forms)) entries

abbrev pub HaveParamForms : List Form → List Param → Type 0
HaveParamForms forms params = Each (λ param. IfSome (param_form param) (Holds forms)) params

-- what an object of the opening has of templates is there
pub record HaveObjectForms (w : WorldValue) (forms : List Form) (name : ℕ) : Type 0 where
  pub entries : HaveEntryForms forms (opening_entries w name)
  pub params : HaveParamForms forms (opening_params w name)
  pub made : (type_of w (name_at name)).0 ≡ TYPE → Holds forms (made_form (name_at name))

-- all templates of a world are there, sorted
pub record AreForms (w : WorldValue) (forms : List Form) : Type 0 where
  pub sorted : AreSorted forms
  pub objects : (name : ℕ) → name < object_count w → HaveObjectForms w forms name
  pub slots : Each (λ (task : Task). HaveEntryForms forms task.slots) w.tasks
