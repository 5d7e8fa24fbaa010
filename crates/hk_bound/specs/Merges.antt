-- What merges give to a process: with templates that stand one behind another, and for which rights they give nothing that it lacks. docs/RULES.md,
-- "The static bound", rule 7.
use Rattle.std.specs.Prelude.{◌≡◌, ◌⊎◌, ℕ, ◌+◌, ◌<◌, ◌≤◌, true, List, length, Option, Some, IsTrue, IfSome, slice_get}
use Rattle.hk_rights.specs.Rights.{has, all_rights, HasAll}
use Rattle.hk_model.specs.WorldValue.{WorldValue}
use Rattle.hk_model.specs.Merging.{merged_rights}
use Rattle.hk_model.specs.declared.names.Name.{Name}
use Rattle.hk_bound.specs.declared.forms.Form.{Form}
use Rattle.hk_bound.specs.declared.merging.Stretch.{Stretch}
use Rattle.hk_bound.specs.declared.merging.Settled.{Settled}
use Rattle.hk_bound.specs.Each.{Each}
use Rattle.hk_bound.specs.Columns.{thing_count, cell, covers}
use Rattle.hk_bound.specs.Rules.{env_in, MergeRule}

-- where a merge with the template can be made with these rights, what it gives is among them
abbrev pub IsIdle : ℕ → Form → Type 0
IsIdle by form = ((n : ℕ) → IsTrue (has all_rights n) → IsTrue (has form.check n) → IsTrue (has by n)) → covers (Some by) (merged_rights by (Some form.of) form.give) ≡ true

-- templates from a place to before another: each asks for all that is told, and gives nothing that is not
pub record IsStretch (forms : List Form) (s : Stretch) : Type 0 where
  pub within : s.end ≤ length forms
  pub asks : (place : ℕ) (form : Form) → s.start ≤ place → place < s.end → slice_get forms place ≡ Some form → HasAll form.check s.check
  pub gives : (place : ℕ) (form : Form) → s.start ≤ place → place < s.end → slice_get forms place ≡ Some form → HasAll s.give form.give

-- the rule of merges, of the templates from a place to before another
abbrev pub MergesFrom : WorldValue → List Form → List (List (Option ℕ)) → ℕ → ℕ → ℕ → ℕ → ℕ → Type 0
MergesFrom w forms rows p name by start end = (place : ℕ) → start ≤ place → place < end → MergeRule w forms rows p name by place

abbrev pub settled_at : Name → ℕ → Settled
settled_at of rights = record { of = of; rights = rights }

-- whatever a template of the type that the process has gives for these rights is among them. It depends on the type of an object and on the rights for it alone
abbrev pub IsSettled : WorldValue → List Form → List (List (Option ℕ)) → ℕ → Settled → Type 0
IsSettled w forms rows p s =
    (place : ℕ) (form : Form) → slice_get forms place ≡ Some form → form.of ≡ s.of
    → ((n : ℕ) → IsTrue (has all_rights n) → IsTrue (has form.check n) → IsTrue (has s.rights n)) → env_in (cell rows p (thing_count w + place)) ≡ true
    → covers (Some s.rights) (merged_rights s.rights (Some form.of) form.give) ≡ true

-- all that are kept are settled
abbrev pub AreSettled : WorldValue → List Form → List (List (Option ℕ)) → ℕ → List (Option Settled) → Type 0
AreSettled w forms rows p sets = Each (λ set. IfSome set (IsSettled w forms rows p)) sets

-- a rule, and what is known after it, where what was known before it holds
abbrev pub SettledRule : WorldValue → List Form → List (List (Option ℕ)) → ℕ → List (Option Settled) → List (Option Settled) → Type 0 → Type 0
SettledRule w forms rows p before after Rule = AreSettled w forms rows p before → Rule × AreSettled w forms rows p after

-- whatever is kept was kept before, or is these rights for objects of this type
abbrev pub AddsSettled : Name → ℕ → List (Option Settled) → List (Option Settled) → Type 0
AddsSettled of rights before after = Each (λ set. ((k : ℕ) × (slice_get before k ≡ Some set)) ⊎ (set ≡ Some (settled_at of rights))) after
