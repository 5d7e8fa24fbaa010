-- A table has no more objects, entries, frames and slots than there may be. docs/RULES.md, "Limits".
use Rattle.std.specs.Prelude.{◌≡◌, ℕ, ◌≤◌, List, [], length, Option, Some, slice_index_or}
use Rattle.hk_model.specs.declared.names.Name.{Name}
use Rattle.hk_model.specs.declared.objects.Process.{Process}
use Rattle.hk_objects.specs.declared.body.Body.{Body}
use Rattle.hk_objects.specs.Slots.{place}
use Rattle.hk_spaces.specs.declared.stack.StackFrame.{StackFrame}
use Rattle.hk_table.specs.Stacked.{frame_at}

pub record AreSmall (slots : List (Option (Name × Body))) (stacks : List (List StackFrame)) (ps : List Process) : Type 0 where
  pub room : length slots ≡ 65536
  pub entries : (k : ℕ) (e : Name × Body) → place slots k ≡ Some e → length e.1.entries ≤ 256
  pub many : length stacks ≤ 256
  pub frames : (q : ℕ) → length (slice_index_or stacks q []) ≤ 64
  pub spaces : (q k : ℕ) (f : StackFrame) → frame_at stacks q k ≡ Some f → length f.space ≤ 64
  pub processes : length ps ≤ 256

-- no more processes, frames and slots than there may be
pub record AreSmallStacks (stacks : List (List StackFrame)) : Type 0 where
  pub many : length stacks ≤ 256
  pub frames : (q : ℕ) → length (slice_index_or stacks q []) ≤ 64
  pub spaces : (q k : ℕ) (f : StackFrame) → frame_at stacks q k ≡ Some f → length f.space ≤ 64
