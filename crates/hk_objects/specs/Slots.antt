-- A table of slots, as contracts see it, and the objects that stand in it.
use Rattle.std.specs.Prelude.{◌≡◌, ℕ, ◌<◌, List, [], ◌∷◌, Option, Some, None, slice_index_or, slice_set, option_map}
use Rattle.std.specs.BTreeMap.{insert_entry}
use Rattle.hk_model.specs.declared.names.Name.{Name}
use Rattle.hk_model.specs.State.{name_cmp}

-- the objects in the slots, by rising name
abbrev pub placed : {X : Type 0} → Option (Name × X) → List (Name × X) → List (Name × X)
placed None es = es
placed (Some e) es = insert_entry name_cmp es e.0 e.1

abbrev pub standing : {X : Type 0} → List (Option (Name × X)) → List (Name × X)
standing [] = []
standing (p ∷ ps) = placed p (standing ps)

-- what stands in a slot
abbrev pub place : {X : Type 0} → List (Option (Name × X)) → ℕ → Option (Name × X)
place ps i = slice_index_or ps i None

-- the name of the object in a slot
abbrev pub name_at : {X : Type 0} → List (Option (Name × X)) → ℕ → Option Name
name_at ps i = option_map (λ e. e.0) (place ps i)

-- no two slots have one name
abbrev pub AreApart : {X : Type 0} → List (Option (Name × X)) → Type 0
AreApart ps = (i j : ℕ) (n : Name) → name_at ps i ≡ Some n → name_at ps j ≡ Some n → i ≡ j

-- the slots with a part of one object changed
abbrev pub change : {X : Type 0} → List (Option (Name × X)) → ℕ → (X → X) → List (Option (Name × X))
change ps s f = slice_set ps s (option_map (λ e. (e.0, f e.1)) (place ps s))

-- each of so many slots has the object whose name is the slot's own number
abbrev pub AreInPlace : {X : Type 0} → List (Option (Name × X)) → ℕ → Type 0
AreInPlace ps many = (k : ℕ) → k < many → name_at ps k ≡ Some (record { 0 = k })
