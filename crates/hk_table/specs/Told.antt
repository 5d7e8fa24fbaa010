-- The parts of a table with the counts of who names what. docs/RULES.md, "Objects that vanish".
use Rattle.std.specs.Prelude.{◌≡◌, true, List}
use Rattle.hk_model.specs.declared.names.Name.{Name}
use Rattle.hk_model.specs.declared.objects.Process.{Process}
use Rattle.hk_model.specs.State.{State}
use Rattle.hk_model.specs.Keeping.{are_supporting, stands}
use Rattle.hk_objects.specs.Shelf.{Shelf}
use Rattle.hk_queues.specs.Queued.{Queued}
use Rattle.hk_reclaim.specs.Naming.{namings}
use Rattle.hk_reclaim.specs.Tally.{Tally}
use Rattle.hk_spaces.specs.declared.stack.StackFrame.{StackFrame}
use Rattle.hk_walk.specs.Remembered.{Remembered}
use Rattle.hk_table.specs.Held.{AreHeld}
use Rattle.hk_table.specs.Joined.{IsJoined}
use Rattle.hk_table.specs.Settled.{outside_namings}
use Rattle.hk_table.specs.Small.{AreSmall}
use Rattle.hk_table.specs.Stacked.{Stacked}

-- each object that is no opening one is counted as often as frames and waiting processes name it, and each object as often as objects do
pub record AreTold (objects : Shelf) (stacks : List (List StackFrame)) (ps : List Process) (first : Name) (t : Tally) : Type 0 where
  pub held : AreHeld objects.slots (λ n. outside_namings n stacks ps) (namings objects.slots) t
  pub begins : t.first_new ≡ first
  pub small : AreSmall objects.slots stacks ps

-- the parts of a table are joined, and counted
pub record AreParts (objects : Shelf) (q : Queued) (ps : List Process) (st : Stacked) (w : Remembered) (first : Name) (t : Tally) : Type 0 where
  pub joined : IsJoined objects q ps st w
  pub told : AreTold objects st.stacks ps first t

-- whatever is named stands, and so does each object of the opening
abbrev pub AllNamedStand : State → Type 0
AllNamedStand s = (name : Name) → are_supporting s s.objects name ≡ true → stands s name ≡ true
