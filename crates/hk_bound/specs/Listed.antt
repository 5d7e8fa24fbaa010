-- The bound of a process as a list, and rows that tell exactly what follows. docs/RULES.md, "The static bound".
use Rattle.std.specs.Prelude.{◌≡◌, ◌&&◌, ◌||◌, ◌==◌, ℕ, suc, ◌<◌, Bool, true, false, List, Option, Some, None, slice_get}
use Rattle.hk_model.specs.declared.names.Name.{Name}
use Rattle.hk_model.specs.declared.names.Proc.{Proc}
use Rattle.hk_rights.specs.Rights.{has, all_rights, putdata_right, adddata_right, store_right, append_right, kill_right, modify_right, a0_right, a1_right}
use Rattle.hk_model.specs.WorldValue.{WorldValue}
use Rattle.hk_model.specs.Targets.{SEMAPHORE, is_general, is_listed}
use Rattle.hk_bound.specs.Taking.{Old, Slots, Right, Follows}
use Rattle.hk_bound.specs.Bounds.{IsInBound}
use Rattle.hk_bound.specs.Each.{Each, Among}
use Rattle.hk_bound.specs.Columns.{name_at, proc_at, object_count, cell}

-- the objects in the bound of a process, and no others, in rising order of their names
pub record IsBoundOf (w : WorldValue) (proc : Proc) (names : List Name) : Type 0 where
  pub sound : Each (IsInBound w proc) names
  pub all : (x : Name) → IsInBound w proc x → Among names x
  pub rising : (k : ℕ) (x y : Name) → slice_get names k ≡ Some x → slice_get names (suc k) ≡ Some y → x.0 < y.0

-- the cell has the right
abbrev pub has_in : Option ℕ → ℕ → Bool
has_in None n = false
has_in (Some r) n = has r n

-- rows tell exactly the rights that follow for objects of the opening
pub record AreExact (w : WorldValue) (rows : List (List (Option ℕ))) : Type 0 where
  pub sound : (p x n : ℕ) → x < object_count w → has all_rights n ≡ true → has_in (cell rows p x) n ≡ true → Follows w (Right (Slots (proc_at p)) (Old (name_at x)) n)
  pub all : (p : Proc) (x : Name) (n : ℕ) → Follows w (Right (Slots p) (Old x) n) → has_in (cell rows p.0 x.0) n ≡ true

-- these rights change an object of a type
abbrev pub changes_in : Name → ℕ → Bool
changes_in of r =
    has r modify_right
    && ((is_general of && (has r putdata_right || has r adddata_right))
    || ((is_listed of && (has r store_right || (has r append_right || has r kill_right)))
    || (of.0 == SEMAPHORE && (has r a0_right || has r a1_right))))

-- such a list of the objects below a name alone
pub record Listing (w : WorldValue) (proc : Proc) (n : ℕ) (names : List Name) : Type 0 where
  pub sound : Each (IsInBound w proc) names
  pub all : (x : Name) → x.0 < n → IsInBound w proc x → Among names x
  pub rising : (k : ℕ) (x y : Name) → slice_get names k ≡ Some x → slice_get names (suc k) ≡ Some y → x.0 < y.0
  pub below : Each (λ (x : Name). x.0 < n) names
