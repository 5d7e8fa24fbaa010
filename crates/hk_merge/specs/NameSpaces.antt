-- Merging with a template, and how a name space is written. docs/RULES.md, "Merging" and "Calls of procedures".
use Rattle.std.specs.Prelude.{ℕ, ◌+◌, List, [], ◌∷◌, Result, Ok, Err, slice_set, map}
use Rattle.hk_model.specs.declared.names.Name.{Name}
use Rattle.hk_model.specs.declared.entries.Cap.{Cap}
use Rattle.hk_model.specs.declared.entries.Template.{Template}
use Rattle.hk_model.specs.declared.entries.Entry.{Entry}
use Rattle.hk_model.specs.declared.entries.Entry.TheVariants.{Held, Form}
use Rattle.hk_model.specs.declared.calls.Refusal.{Refusal}
use Rattle.hk_model.specs.Refusing.{◌>>=◌}
use Rattle.hk_model.specs.Merging.{merged}
pub use Rattle.hk_model.specs.Merging.{merged_arg, merged_all, name_space}
use Rattle.hk_model.specs.Targets.{amplify_form}

-- a capability for an object of type `of`, merged with a template, which is to be an Amplify template
abbrev pub merged_with : Cap → Name → Template → ℕ → ℕ → Result Cap Refusal
merged_with cap of template step form_step = do
  form ← amplify_form (Form template) form_step
  merged cap of form step

-- the slots, with entries written over them from a slot on
abbrev pub overwritten : List Entry → ℕ → List Entry → List Entry
overwritten slots at [] = slots
overwritten slots at (entry ∷ entries) = overwritten (slice_set slots at entry) (at + 1) entries

-- the slots, with the capabilities written over them from a slot on, if there are any
abbrev pub with_caps : List Entry → ℕ → Result (List Cap) Refusal → Result (List Entry) Refusal
with_caps slots at (Ok caps) = Ok (overwritten slots at (map (λ (c : Cap). Held c) caps))
with_caps slots at (Err refusal) = Err refusal
