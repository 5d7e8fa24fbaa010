-- The live incarnations, from the stacks of the processes. docs/RULES.md, "Objects, incarnations, processes".
use Rattle.std.specs.Prelude.{◌≡◌, ℕ, zero, suc, ◌+◌, ◌-◌, ◌<◌, false, List, [], ◌∷◌, ◌++◌, length, replicate, Option, Some, None, slice_get, slice_set, slice_index_or}
use Rattle.std.specs.BTreeMap.{insert_entry}
use Rattle.hk_model.specs.declared.names.Inc.{Inc}
use Rattle.hk_model.specs.declared.names.Proc.{Proc}
use Rattle.hk_model.specs.declared.names.Slot.{Slot}
use Rattle.hk_model.specs.declared.entries.Entry.{Entry}
use Rattle.hk_model.specs.declared.entries.Entry.TheVariants.{Empty}
use Rattle.hk_model.specs.declared.objects.Incarnation.{Incarnation}
use Rattle.hk_model.specs.declared.world.Task.{Task}
use Rattle.hk_model.specs.Limits.{slot_limit}
use Rattle.hk_model.specs.State.{inc_cmp}
use Rattle.hk_spaces.specs.declared.stack.StackFrame.{StackFrame}
use Rattle.hk_spaces.specs.Slots.{with_top}

-- the stacks by process, the base of each first, and the number that the next incarnation takes
pub record Stacked : Type 0 where
  pub stacks : List (List StackFrame)
  pub next : Inc

-- the incarnation of a frame, which the one below it called
abbrev pub incarnation_of : Proc → Option Inc → StackFrame → Incarnation
incarnation_of proc caller f =
    record { proc = proc; procedure = f.procedure; caller = caller; into = f.into; confined = f.confined; slots = f.space }

-- the caller of the frame at a depth is the one below it; that of the first is told
abbrev pub caller_at : Option Inc → List StackFrame → ℕ → Option Inc
caller_at caller fs zero = caller
caller_at caller [] (suc k) = caller
caller_at caller (f ∷ fs) (suc k) = caller_at (Some f.inc) fs k

-- the frames of a process put among incarnations by rising number
abbrev pub live_with : Proc → Option Inc → List StackFrame → List (Inc × Incarnation) → List (Inc × Incarnation)
live_with proc caller [] es = es
live_with proc caller (f ∷ fs) es = insert_entry inc_cmp (live_with proc (Some f.inc) fs es) f.inc (incarnation_of proc caller f)

-- the frames of all processes, which are numbered from n on
abbrev pub live_from : ℕ → List (List StackFrame) → List (Inc × Incarnation)
live_from n [] = []
live_from n (fs ∷ rest) = live_with (record { 0 = n }) None fs (live_from (n + 1) rest)

-- the frame of a process at a depth
abbrev pub frame_at : List (List StackFrame) → ℕ → ℕ → Option StackFrame
frame_at stacks q k = slice_get (slice_index_or stacks q []) k

-- no two frames have one number, and all numbers are below the next one
pub record AreNumbered (stacks : List (List StackFrame)) (next : Inc) : Type 0 where
  pub apart : (p q i j : ℕ) (f g : StackFrame) → frame_at stacks p i ≡ Some f → frame_at stacks q j ≡ Some g → f.inc.0 ≡ g.inc.0 → (p ≡ q) × (i ≡ j)
  pub below : (q k : ℕ) (f : StackFrame) → frame_at stacks q k ≡ Some f → f.inc.0 < next.0

-- the base frame of a process that opens with these entries
abbrev pub base_frame : ℕ → List Entry → StackFrame
base_frame n entries =
    record { space = entries ++ replicate (slot_limit - length entries) Empty; inc = record { 0 = n }; into = record { 0 = 0 }; confined = false; procedure = None }

-- the stacks as a world opens: process k has the base incarnation k
abbrev pub base_stacks : ℕ → List Task → List (List StackFrame)
base_stacks n [] = []
base_stacks n (t ∷ ts) = (base_frame n t.slots ∷ []) ∷ base_stacks (n + 1) ts

-- the top frame of a stack, if there is one, and its slots
abbrev pub top_of : List StackFrame → Option StackFrame
top_of fs = slice_get fs (length fs - 1)

abbrev pub slots_of : Option StackFrame → List Entry
slots_of None = []
slots_of (Some f) = f.space

-- the stacks with an entry in a slot of the top frame of a process
abbrev pub with_top_of : List (List StackFrame) → ℕ → ℕ → Entry → List (List StackFrame)
with_top_of stacks q slot entry = slice_set stacks q (with_top (slice_index_or stacks q []) slot entry)

-- a frame more on the stack of a process, which has the next number
abbrev pub with_frame : Stacked → ℕ → StackFrame → Stacked
with_frame st q f = record { stacks = slice_set st.stacks q (slice_index_or st.stacks q [] ++ f ∷ []); next = record { 0 = st.next.0 + 1 } }

-- the top frame of a process has gone, and this slot takes what it returns; or there was none
abbrev pub Pops : List (List StackFrame) → ℕ → Option Slot → List (List StackFrame) → Type 0
Pops old q None new = (slice_index_or old q [] ≡ []) × (new ≡ old)
Pops old q (Some into) new = (fs : List StackFrame) × (f : StackFrame) × (slice_index_or old q [] ≡ fs ++ f ∷ []) × (f.into ≡ into) × (new ≡ slice_set old q fs)

-- the entry stands in that slot
abbrev pub IsIn : List Entry → ℕ → Entry → Type 0
IsIn slots at entry = (at < length slots) × (entry ≡ slice_index_or slots at Empty)
