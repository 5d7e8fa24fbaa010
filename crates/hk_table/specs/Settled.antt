-- The slots and counts that tell a state's objects. docs/RULES.md, "Objects that vanish".
use Rattle.std.specs.Prelude.{◌≡◌, ◌≤◌, ◌⊎◌, ℕ, ◌+◌, List, Option, Some, None, slice_index}
use Rattle.hk_model.specs.declared.names.Name.{Name}
use Rattle.hk_model.specs.declared.names.Proc.{Proc}
use Rattle.hk_model.specs.declared.objects.Process.{Process}
use Rattle.hk_model.specs.State.{State}
use Rattle.hk_model.specs.Keeping.{outer_names, run_names}
use Rattle.hk_objects.specs.declared.body.Body.{Body}
use Rattle.hk_objects.specs.Slots.{standing, name_at}
use Rattle.hk_reclaim.specs.Naming.{times, named_in}
use Rattle.hk_reclaim.specs.Tally.{Tally}
use Rattle.hk_spaces.specs.declared.stack.StackFrame.{StackFrame}
use Rattle.std.specs.List.{flat_map, sum_by}
use Rattle.hk_table.specs.Whole.{whole}

-- the objects are those in the slots with who waits there, and each that is no opening object is counted from outside as often as the slots of live
-- incarnations and the waiting processes name it
pub record Tells (s : State) (slots : List (Option (Name × Body))) (waiting : List (List Proc)) (t : Tally) : Type 0 where
  pub objects : s.objects ≡ standing (whole slots waiting)
  pub first_new : s.first_new ≡ t.first_new
  pub outside : (k : ℕ) (n : Name) → name_at slots k ≡ Some n → t.first_new.0 ≤ n.0 → slice_index t.outside k ≡ times n (outer_names s)

-- what the slots of a process's frames name
abbrev pub stack_names : List StackFrame → List Name
stack_names fs = flat_map (λ (f : StackFrame). named_in f.space) fs

-- what those of all frames name
abbrev pub all_names : List (List StackFrame) → List Name
all_names stacks = flat_map stack_names stacks

-- how often the slots of a process's frames name an object, and how often those of all frames do
abbrev pub stack_namings : Name → List StackFrame → ℕ
stack_namings n fs = sum_by (λ (f : StackFrame). times n (named_in f.space)) fs

abbrev pub frame_namings : Name → List (List StackFrame) → ℕ
frame_namings n stacks = sum_by (λ (fs : List StackFrame). stack_namings n fs) stacks

-- how often waiting processes name an object
abbrev pub wait_namings : Name → List Process → ℕ
wait_namings n ps = sum_by (λ (p : Process). times n (run_names p.run)) ps

-- how often an object is named from outside
abbrev pub outside_namings : Name → List (List StackFrame) → List Process → ℕ
outside_namings n stacks ps = frame_namings n stacks + wait_namings n ps

-- where nothing stands any longer nothing is counted from outside, or nothing stood
abbrev pub FreesUncounted : List (Option (Name × Body)) → List (Option (Name × Body)) → Tally → Type 0
FreesUncounted old new t = (k : ℕ) → name_at new k ≡ None → (name_at old k ≡ None) ⊎ (slice_index t.outside k ≡ 0)
