-- What a Copy takes of the list of an object: what the list has with ENV. docs/RULES.md, "The static bound", rule 5.
use Rattle.std.specs.Prelude.{◌≡◌, ℕ, ◌<◌, true, List, [], ◌∷◌, ◌++◌, length, Option, Some, None, IsTrue, MatchOption, if◌then◌else◌}
use Rattle.hk_rights.specs.Rights.{has, env_right}
use Rattle.hk_model.specs.declared.names.Name.{Name}
use Rattle.hk_model.specs.declared.entries.Entry.{Entry}
use Rattle.hk_model.specs.WorldValue.{WorldValue}
use Rattle.hk_bound.specs.declared.forms.Form.{Form}
use Rattle.hk_bound.specs.Taking.{type_of}
use Rattle.hk_bound.specs.Each.{Each, Among}
use Rattle.hk_bound.specs.Columns.{name_at, cell, opening_entries}
use Rattle.hk_bound.specs.Rules.{IsHeld, OpensWithEnv, env_in, stores_in}

-- numbers, and one more if there is one
abbrev pub added : List ℕ → Option ℕ → List ℕ
added xs None = xs
added xs (Some x) = xs ++ x ∷ []

-- the column for which an entry has ENV, if it has
abbrev pub IsEnvColumn : WorldValue → List Form → Entry → Option ℕ → Type 0
IsEnvColumn w forms e found = MatchOption found
    ((column rights : ℕ) → IsHeld w forms e column rights → IsTrue (has rights env_right) → ⊥)
    (λ at. ((rights : ℕ) × IsHeld w forms e at rights × IsTrue (has rights env_right))
    × ((column rights : ℕ) → IsHeld w forms e column rights → IsTrue (has rights env_right) → column ≡ at))

-- the columns for which opening entries of an object have ENV, all of them
pub record AreOpened (w : WorldValue) (forms : List Form) (name : ℕ) (columns : List ℕ) : Type 0 where
  pub sound : Each (OpensWithEnv w forms name) columns
  pub all : Each (λ e. (column rights : ℕ) → IsHeld w forms e column rights → IsTrue (has rights env_right) → Among columns column) (opening_entries w name)

-- a process, if it puts entries into the list of an object of a type
abbrev pub storer_in : Name → List (List (Option ℕ)) → ℕ → ℕ → Option ℕ
storer_in of rows name process = if stores_in of (cell rows process name) then Some process else None

-- the processes that put entries into the list of an object, all of them
pub record AreStorers (w : WorldValue) (rows : List (List (Option ℕ))) (name : ℕ) (processes : List ℕ) : Type 0 where
  pub sound : Each (λ q. (q < length w.tasks) × (stores_in (type_of w (name_at name)) (cell rows q name) ≡ true)) processes
  pub all : (q : ℕ) → q < length w.tasks → stores_in (type_of w (name_at name)) (cell rows q name) ≡ true → Among processes q

-- one of some processes has ENV for a column
pub record SomeHasEnv (rows : List (List (Option ℕ))) (processes : List ℕ) (column : ℕ) : Type 0 where
  pub process : ℕ
  pub among : Among processes process
  pub env : env_in (cell rows process column) ≡ true
