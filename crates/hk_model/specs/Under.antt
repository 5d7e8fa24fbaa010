-- Which incarnations are under a call, and what was made under it. docs/RULES.md, "Under a call".
use Rattle.std.specs.Prelude.{◌≡◌, ℕ, suc, Bool, true, false, List, [], ◌∷◌, ◌++◌, take, drop, slice_get, Some, is_some}
use Rattle.std.specs.List.{list_any}
use Rattle.std.specs.Map.{lookup}
use Rattle.std.specs.Option.{option_and_then}
use Rattle.hk_model.specs.declared.names.Name.{Name}
use Rattle.hk_model.specs.declared.names.Inc.{Inc}
use Rattle.hk_model.specs.declared.entries.Entry.{Entry}
use Rattle.hk_model.specs.declared.lines.Line.{Line}
use Rattle.hk_model.specs.WorldValue.{WorldValue}
use Rattle.hk_model.specs.State.{State, incarnation, same_name, same_inc}
use Rattle.hk_model.specs.Running.{Machine, machine_at, state_at}
use Rattle.hk_model.specs.Lines.{done_call, makes_object, enters_call, param_count, line_before, told}

-- the incarnation is one of these
abbrev pub is_one_of : Inc → List Inc → Bool
is_one_of inc incs = list_any (same_inc inc) incs

-- the incarnation lives
abbrev pub is_live : State → Inc → Bool
is_live s inc = is_some (lookup (same_inc inc) s.incarnations)

-- one more incarnation is under a call where one that is under it has entered a procedure
abbrev pub under_by : State → Line → State → List Inc → List Inc
under_by s line t under = elim (enters_call (done_call line)) [
  | true ↦ elim (is_one_of line.inc under) [ true ↦ under ++ s.next_inc ∷ [] | false ↦ under ]
  | false ↦ under
]

-- the incarnations under a call that stands alone at its beginning, after these lines
abbrev pub under_after : WorldValue → Machine → List Line → Inc → List Inc
under_after w m lines call = told under_by w m lines (call ∷ [])

-- the incarnation is the call that begins at moment k, or its chain of callers leads there, in the whole history
abbrev pub is_under : WorldValue → List Line → ℕ → Inc → Inc → Bool
is_under w lines k call inc = is_one_of inc (under_after w (machine_at w lines k) (drop k lines) call)

-- the same in the history up to a moment
abbrev pub is_under_by : WorldValue → List Line → ℕ → Inc → ℕ → Inc → Bool
is_under_by w lines k call moment inc = is_one_of inc (under_after w (machine_at w lines k) (drop k (take moment lines)) call)

-- one more object is made under a call where an incarnation under it has done a Create or a Copy
abbrev pub made_by : (Inc → Bool) → State → Line → State → List Name → List Name
made_by under s line t made = elim (makes_object (done_call line)) [
  | true ↦ elim (under line.inc) [ true ↦ made ++ s.next_name ∷ [] | false ↦ made ]
  | false ↦ made
]

-- the object was made under the call that begins at moment k
abbrev pub is_made_under : WorldValue → List Line → ℕ → Inc → Name → Bool
is_made_under w lines k call name =
    list_any (same_name name) (told (made_by (is_under w lines k call)) w (machine_at w lines k) (drop k lines) [])

-- the call that begins at moment k: the incarnation that the line before, an Enter answered Done, has made
pub record IsCall (w : WorldValue) (lines : List Line) (k : ℕ) (call : Inc) : Type 0 where
  pub earlier : ℕ
  pub moment : k ≡ suc earlier
  pub line : Line
  pub is : slice_get lines earlier ≡ Some line
  pub enters : enters_call (done_call line) ≡ true
  pub made : call ≡ (state_at w lines earlier).next_inc

-- the merged parameters of the call that begins at moment k, which stand in its first slots then
abbrev pub parameters : WorldValue → List Line → ℕ → Inc → List Entry
parameters w lines k call =
    take (param_count (option_and_then done_call (line_before lines k))) (incarnation (state_at w lines k) call).slots
