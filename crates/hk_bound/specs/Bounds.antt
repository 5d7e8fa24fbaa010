-- The bound of a process: the objects of the opening that it may ever change, and the law that it changes no others.
-- docs/RULES.md, "The static bound".
use Rattle.std.specs.Prelude.{◌≡◌, ◌⊎◌, ℕ, ◌+◌, List, Some, IsTrue, map, slice_get}
use Rattle.hk_model.specs.declared.names.Name.{Name}
use Rattle.hk_model.specs.declared.names.Proc.{Proc}
use Rattle.hk_model.specs.declared.lines.Line.{Line}
use Rattle.hk_model.specs.declared.world.Code.{Code}
use Rattle.hk_rights.specs.Rights.{has, modify_right, PUTDATA, ADDDATA, STORE, APPEND, KILL, A0, A1}
use Rattle.hk_model.specs.WorldValue.{WorldValue, IsObject}
use Rattle.hk_model.specs.Targets.{SEMAPHORE, is_general, is_listed}
use Rattle.hk_model.specs.Running.{state_at}
use Rattle.hk_model.specs.Lines.{changed}
use Rattle.hk_bound.specs.Taking.{Right, Slots, Old, Follows, type_of}

-- the rights that change an object, beside MODIFY, by what its type is: general, listed, or SEMAPHORE
abbrev pub word_changes : ℕ
word_changes = PUTDATA + ADDDATA

abbrev pub list_changes : ℕ
list_changes = STORE + APPEND + KILL

abbrev pub count_changes : ℕ
count_changes = A0 + A1

-- the process comes to have one of these rights for the object
pub record HasOneOf (w : WorldValue) (proc : Proc) (name : Name) (rights : ℕ) : Type 0 where
  pub right : ℕ
  pub of : IsTrue (has rights right)
  pub follows : Follows w (Right (Slots proc) (Old name) right)

-- the process comes to have a right that changes an object of this type, beside MODIFY
abbrev pub HasChanging : WorldValue → Proc → Name → Type 0
HasChanging w proc name =
    (IsTrue (is_general (type_of w name)) × HasOneOf w proc name word_changes)
    ⊎ ((IsTrue (is_listed (type_of w name)) × HasOneOf w proc name list_changes)
    ⊎ (((type_of w name).0 ≡ SEMAPHORE) × HasOneOf w proc name count_changes))

-- the object of the opening is in the bound of the process
pub record IsInBound (w : WorldValue) (proc : Proc) (name : Name) : Type 0 where
  pub opening : IsObject w name
  pub modify : Follows w (Right (Slots proc) (Old name) modify_right)
  pub changes : HasChanging w proc name

-- the worlds differ in the instructions of their codes alone
pub record DiffersInCodes (w other : WorldValue) : Type 0 where
  pub limit : other.limit ≡ w.limit
  pub objects : other.objects ≡ w.objects
  pub tasks : other.tasks ≡ w.tasks
  pub labels : map (λ (c : Code). c.label) other.codes ≡ map (λ (c : Code). c.label) w.codes

-- the law: each object of the opening that a line of a process changes is in the bound of that process
abbrev pub BoundLaw : WorldValue → WorldValue → List Line → Type 0
BoundLaw w other lines =
    (moment : ℕ) (line : Line) (name : Name) → slice_get lines moment ≡ Some line → IsObject w name
    → changed (state_at other lines moment) line ≡ Some name → IsInBound w line.proc name
