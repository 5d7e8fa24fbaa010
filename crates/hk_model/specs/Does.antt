-- The rules of the kernel calls a second time, as inference rules: one constructor for each way in which a call is answered.
-- docs/RULES.md, "The rules as inference rules". They share with the rule table the state, the rights, the limits, the names of the kernel
-- types and which objects are kept or rooted, and none of its tests, its order, its targets, its walk, its reduction and its merging.
use Rattle.std.specs.Prelude.{◌≡◌, ◌<◌, ◌≤◌, ℕ, ◌+◌, ◌-◌, ◌*◌, ◌^◌, ◌==◌, not, List, [], ◌∷◌, ◌++◌, length, Option, Some, None, All, bit_and, count_by, map, replicate, slice_set}
use Rattle.std.specs.Map.{remove_entry}
use Rattle.std.specs.BTreeMap.{insert_entry}
use Rattle.hk_model.specs.declared.names.Name.{Name}
use Rattle.hk_model.specs.declared.names.Inc.{Inc}
use Rattle.hk_model.specs.declared.names.Proc.{Proc}
use Rattle.hk_model.specs.declared.names.Slot.{Slot}
use Rattle.hk_model.specs.declared.entries.Cap.{Cap}
use Rattle.hk_model.specs.declared.entries.Template.{Template}
use Rattle.hk_model.specs.declared.entries.Template.TheVariants.{Amplify, Create}
use Rattle.hk_model.specs.declared.entries.Making.{Making}
use Rattle.hk_model.specs.declared.entries.Making.TheVariants as making
use Rattle.hk_model.specs.declared.entries.Entry.{Entry}
use Rattle.hk_model.specs.declared.entries.Entry.TheVariants.{Empty, Held, Form}
use Rattle.hk_model.specs.declared.calls.Refusal.{Refusal}
use Rattle.hk_model.specs.declared.calls.Refusal.TheVariants as refused
use Rattle.hk_model.specs.declared.calls.What8.TheVariants as full
use Rattle.hk_model.specs.declared.calls.Reply.{Reply}
use Rattle.hk_model.specs.declared.calls.Reply.TheVariants.{Done, Word, Waits, No}
use Rattle.hk_model.specs.declared.calls.Call.{Call}
use Rattle.hk_model.specs.declared.calls.Call.TheVariants as call
use Rattle.hk_model.specs.declared.objects.Object.{Object}
use Rattle.hk_model.specs.declared.objects.ProcessState.TheVariants.{Ready, Waiting, Ended}
use Rattle.hk_rights.specs.Rights.{getdata_right, putdata_right, adddata_right, store_right, append_right, kill_right, copy_right, modify_right, env_right, unconf_right, a0_right, a1_right, has}
use Rattle.hk_model.specs.Limits.{word_limit, entry_limit, slot_limit, depth_limit, token_limit}
use Rattle.hk_model.specs.State.{State, object, incarnation, process, put_object, put_slot, put_process, add_object, same_inc, inc_cmp}
use Rattle.hk_model.specs.Keeping.{restricted}
use Rattle.hk_model.specs.Targets.{TYPE, SEMAPHORE, PROCEDURE}
use Rattle.hk_model.specs.Rule.{rule}
use Rattle.hk_model.specs.Judgments.{Has, Lacks, IsGeneral, IsListed, IsType, IsUncreated, IsAt, IsPastEnd, IsSlot, IsNoSlot, Stands, Leads, LeadsNowhere, end_step, Target, NoTarget}
use Rattle.hk_model.specs.Judgments.{IsStorable, NotStorable, NoCapability, Merges, NoMerge, Passes, PassesNot, Inherits, CopiesAll, MakesRoom, IsFullTable}

-- the first slot of these, counted from a step on, that has no number below 64
pub data FirstNoSlot : ℕ → List ℕ → ℕ → Type 0 where
  this_slot : {step slot : ℕ} {slots : List ℕ} → IsNoSlot slot → FirstNoSlot step (slot ∷ slots) step
  later_slot : {step slot found : ℕ} {slots : List ℕ} → IsSlot slot → FirstNoSlot (step + 1) slots found → FirstNoSlot step (slot ∷ slots) found

-- what Look replies
pub data Looks : Entry → ℕ → Type 0 where
  at_nothing : Looks Empty 0
  at_capability : {cap : Cap} → Looks (Held cap) (2 ^ 24 + cap.rights)
  at_amplify : {of : Option Name} {check give : ℕ} → Looks (Form (Amplify of check give)) (2 * 2 ^ 24 + give)
  at_create : {of : Name} {give : ℕ} → Looks (Form (Create of give)) (3 * 2 ^ 24 + give)

-- the template that a MakeTemplate makes
pub data Makes (of : Name) : Making → Template → Type 0 where
  makes_amplify : {check give : ℕ} → Makes of (making.Amplify check give) (Amplify (Some of) check give)
  makes_create : {give : ℕ} → Makes of (making.Create give) (Create of give)

-- the entry of this step is no Create template, for this cause
pub data IsNoCreate (step : ℕ) : Entry → Refusal → Type 0 where
  creates_nothing : IsNoCreate step Empty (refused.Empty step)
  creates_capability : {cap : Cap} → IsNoCreate step (Held cap) (refused.BadTemplate step)
  creates_amplify : {of : Option Name} {check give : ℕ} → IsNoCreate step (Form (Amplify of check give)) (refused.BadTemplate step)

-- the entry of this step is no Amplify template, for this cause
pub data IsNoAmplify (step : ℕ) : Entry → Refusal → Type 0 where
  amplifies_nothing : IsNoAmplify step Empty (refused.Empty step)
  amplifies_capability : {cap : Cap} → IsNoAmplify step (Held cap) (refused.BadTemplate step)
  amplifies_create : {of : Name} {give : ℕ} → IsNoAmplify step (Form (Create of give)) (refused.BadTemplate step)

-- the state with one more object, and a capability for it in a slot
abbrev pub with_new : State → Object → Inc → ℕ → ℕ → State
with_new s o inc slot rights = put_slot (add_object s o) inc slot (Held (record { name = s.next_name; rights = rights }))

-- an object of this type with these words and entries
abbrev pub new_object : Name → List ℕ → List Entry → Object
new_object of words entries = record { of = of; words = words; entries = entries; count = 0; waiters = []; code = None; params = [] }

-- how many live incarnations a process has
abbrev pub incarnations_of : State → Proc → ℕ
incarnations_of s proc = count_by (λ e. e.1.proc.0 == proc.0) s.incarnations

-- the state without an incarnation
abbrev pub without : State → Inc → State
without s inc = record s { incarnations = remove_entry (same_inc inc) s.incarnations }

-- a call of an incarnation is answered, and leaves this state but for what then vanishes
pub data Answers (s : State) (proc : Proc) (inc : Inc) : Call → Reply → State → Type 0 where
  get : {path : List ℕ} {at word : ℕ} {cap : Cap}
      → Target s inc path IsGeneral (getdata_right ∷ []) cap
      → IsAt (object s cap.name).words at word
      → Answers s proc inc (call.Get path at) (Word word) s
  put : {path : List ℕ} {at word : ℕ} {cap : Cap}
      → Target s inc path IsGeneral (putdata_right ∷ modify_right ∷ []) cap
      → at < length (object s cap.name).words
      → Answers s proc inc (call.Put path at word) Done
      (put_object s cap.name (record (object s cap.name) { words = slice_set (object s cap.name).words at word }))
  add : {path : List ℕ} {word : ℕ} {cap : Cap}
      → Target s inc path IsGeneral (adddata_right ∷ modify_right ∷ []) cap
      → length (object s cap.name).words < word_limit
      → Answers s proc inc (call.Add path word) Done (put_object s cap.name (record (object s cap.name) { words = (object s cap.name).words ++ word ∷ [] }))
  count : {path : List ℕ} {cap : Cap}
      → Target s inc path IsGeneral (getdata_right ∷ []) cap
      → Answers s proc inc (call.Length path) (Word (length (object s cap.name).words)) s
  load_slot : {path : List ℕ} {entry : Entry} {into : Slot}
      → IsSlot into.0
      → Leads s inc path entry
      → (entry ≡ Empty → ⊥)
      → Answers s proc inc (call.Load path into) Done (put_slot s inc into.0 entry)
  store : {path : List ℕ} {at : ℕ} {cap : Cap} {entry : Entry} {from : Slot}
      → IsSlot from.0
      → Target s inc path IsListed (store_right ∷ modify_right ∷ []) cap
      → at < length (object s cap.name).entries
      → Stands s inc from.0 entry
      → IsStorable entry
      → Answers s proc inc (call.Store path at from) Done
      (put_object s cap.name (record (object s cap.name) { entries = slice_set (object s cap.name).entries at entry }))
  append : {path : List ℕ} {cap : Cap} {entry : Entry} {from : Slot}
      → IsSlot from.0
      → Target s inc path IsListed (append_right ∷ modify_right ∷ []) cap
      → Stands s inc from.0 entry
      → IsStorable entry
      → length (object s cap.name).entries < entry_limit
      → Answers s proc inc (call.Append path from) Done
      (put_object s cap.name (record (object s cap.name) { entries = (object s cap.name).entries ++ entry ∷ [] }))
  erase : {path : List ℕ} {at : ℕ} {cap : Cap}
      → Target s inc path IsListed (kill_right ∷ modify_right ∷ []) cap
      → at < length (object s cap.name).entries
      → Answers s proc inc (call.Erase path at) Done
      (put_object s cap.name (record (object s cap.name) { entries = slice_set (object s cap.name).entries at Empty }))
  drop : {slot : Slot}
      → IsSlot slot.0
      → Answers s proc inc (call.Drop slot) Done (put_slot s inc slot.0 Empty)
  restrict : {slot : Slot} {keep : ℕ} {cap : Cap}
      → IsSlot slot.0
      → Stands s inc slot.0 (Held cap)
      → Answers s proc inc (call.Restrict slot keep) Done (put_slot s inc slot.0 (Held (record cap { rights = bit_and cap.rights keep })))
  look : {path : List ℕ} {entry : Entry} {word : ℕ}
      → Leads s inc path entry
      → Looks entry word
      → Answers s proc inc (call.Look path) (Word word) s
  make_template : {path : List ℕ} {kind : Making} {into : Slot} {cap : Cap} {form : Template}
      → IsSlot into.0
      → Target s inc path (IsType TYPE) (env_right ∷ a0_right ∷ []) cap
      → Makes cap.name kind form
      → Answers s proc inc (call.MakeTemplate path kind into) Done (put_slot s inc into.0 (Form form))
  create : {path : List ℕ} {into : Slot} {of : Name} {give : ℕ} {t : State}
      → IsSlot into.0
      → Leads s inc path (Form (Create of give))
      → (IsUncreated of → ⊥)
      → MakesRoom s t
      → Answers s proc inc (call.Create path into) Done (with_new t (new_object of [] []) inc into.0 give)
  merge : {path : List ℕ} {from into : Slot} {of : Option Name} {check give : ℕ} {cap new : Cap}
      → IsSlot from.0
      → IsSlot into.0
      → Leads s inc path (Form (Amplify of check give))
      → Stands s inc from.0 (Held cap)
      → Merges cap (object s cap.name).of (record { of = of; check = check; give = give }) new
      → Answers s proc inc (call.Merge path from into) Done (put_slot s inc into.0 (Held new))
  copy : {path : List ℕ} {into : Slot} {cap : Cap} {entries : List Entry} {t : State}
      → IsSlot into.0
      → Target s inc path IsGeneral (copy_right ∷ []) cap
      → CopiesAll cap.rights (object s cap.name).entries entries
      → MakesRoom s t
      → Answers s proc inc (call.Copy path into) Done (with_new t (new_object (object s cap.name).of (object s cap.name).words entries) inc into.0 cap.rights)
  enter : {path args : List ℕ} {into : Slot} {cap : Cap} {caps : List Cap} {inherited : List Entry}
      → All IsSlot args
      → IsSlot into.0
      → Target s inc path (IsType PROCEDURE) (a0_right ∷ []) cap
      → Passes s inc args (object s cap.name).params caps
      → Inherits cap.rights (object s cap.name).entries inherited
      → length caps + length (object s cap.name).entries ≤ slot_limit
      → incarnations_of s proc < depth_limit
      → Answers s proc inc (call.Enter path args into) Done
      (record (put_process s proc (record (process s proc) { current = s.next_inc })) {
        incarnations = insert_entry inc_cmp s.incarnations s.next_inc (record {
          proc = proc;
          procedure = Some cap.name;
          caller = Some inc;
          into = into;
          confined = not (has cap.rights unconf_right);
          slots = map (λ (c : Cap). Held c) caps ++ (inherited ++ replicate (slot_limit - (length caps + length (object s cap.name).entries)) Empty);
        });
        next_inc = record { 0 = s.next_inc.0 + 1 };
      })
  leave : {caller : Inc}
      → (incarnation s inc).caller ≡ Some caller
      → Answers s proc inc (call.Leave None) Done (put_process (without s inc) proc (record (process s proc) { current = caller }))
  leave_with : {slot : Slot} {cap : Cap} {caller : Inc}
      → IsSlot slot.0
      → Stands s inc slot.0 (Held cap)
      → Has cap.rights env_right
      → (incarnation s inc).caller ≡ Some caller
      → Answers s proc inc (call.Leave (Some slot)) Done
      (put_slot (put_process (without s inc) proc (record (process s proc) { current = caller })) caller (incarnation s inc).into.0 (Held cap))
  end : (incarnation s inc).caller ≡ None
      → Answers s proc inc (call.Leave None) Done (put_process (without s inc) proc (record (process s proc) { run = Ended }))
  end_with : {slot : Slot} {cap : Cap}
      → IsSlot slot.0
      → Stands s inc slot.0 (Held cap)
      → Has cap.rights env_right
      → (incarnation s inc).caller ≡ None
      → Answers s proc inc (call.Leave (Some slot)) Done (put_process (without s inc) proc (record (process s proc) { run = Ended }))
  p : {path : List ℕ} {cap : Cap}
      → Target s inc path (IsType SEMAPHORE) (modify_right ∷ a0_right ∷ []) cap
      → 0 < (object s cap.name).count
      → Answers s proc inc (call.P path) Done (put_object s cap.name (record (object s cap.name) { count = (object s cap.name).count - 1 }))
  p_waits : {path : List ℕ} {cap : Cap}
      → Target s inc path (IsType SEMAPHORE) (modify_right ∷ a0_right ∷ []) cap
      → (object s cap.name).count ≡ 0
      → Answers s proc inc (call.P path) Waits
      (put_process (put_object s cap.name (record (object s cap.name) { waiters = (object s cap.name).waiters ++ proc ∷ [] })) proc
      (record (process s proc) { run = Waiting cap.name }))
  v : {path : List ℕ} {cap : Cap}
      → Target s inc path (IsType SEMAPHORE) (modify_right ∷ a1_right ∷ []) cap
      → (object s cap.name).waiters ≡ []
      → (object s cap.name).count < token_limit
      → Answers s proc inc (call.V path) Done (put_object s cap.name (record (object s cap.name) { count = (object s cap.name).count + 1 }))
  v_wakes : {path : List ℕ} {cap : Cap} {first : Proc} {rest : List Proc}
      → Target s inc path (IsType SEMAPHORE) (modify_right ∷ a1_right ∷ []) cap
      → (object s cap.name).waiters ≡ first ∷ rest
      → Answers s proc inc (call.V path) Done
      (record (put_process (put_object s cap.name (record (object s cap.name) { waiters = rest })) first (record (process s first) { run = Ready })) {
        ready = s.ready ++ first ∷ [];
      })
  yield : Answers s proc inc call.Yield Done (record (put_process s proc (record (process s proc) { run = Ready })) { ready = s.ready ++ proc ∷ [] })

-- a call of an incarnation is refused
pub data Refuses (s : State) (proc : Proc) (inc : Inc) : Call → Refusal → Type 0 where
  get_target : {path : List ℕ} {at : ℕ} {refusal : Refusal}
      → NoTarget s inc path IsGeneral (getdata_right ∷ []) refusal
      → Refuses s proc inc (call.Get path at) refusal
  get_range : {path : List ℕ} {at : ℕ} {cap : Cap}
      → Target s inc path IsGeneral (getdata_right ∷ []) cap
      → IsPastEnd (object s cap.name).words at
      → Refuses s proc inc (call.Get path at) (refused.Range (length path))
  put_target : {path : List ℕ} {at word : ℕ} {refusal : Refusal}
      → NoTarget s inc path IsGeneral (putdata_right ∷ modify_right ∷ []) refusal
      → Refuses s proc inc (call.Put path at word) refusal
  put_range : {path : List ℕ} {at word : ℕ} {cap : Cap}
      → Target s inc path IsGeneral (putdata_right ∷ modify_right ∷ []) cap
      → IsPastEnd (object s cap.name).words at
      → Refuses s proc inc (call.Put path at word) (refused.Range (length path))
  add_target : {path : List ℕ} {word : ℕ} {refusal : Refusal}
      → NoTarget s inc path IsGeneral (adddata_right ∷ modify_right ∷ []) refusal
      → Refuses s proc inc (call.Add path word) refusal
  add_full : {path : List ℕ} {word : ℕ} {cap : Cap}
      → Target s inc path IsGeneral (adddata_right ∷ modify_right ∷ []) cap
      → word_limit ≤ length (object s cap.name).words
      → Refuses s proc inc (call.Add path word) (refused.Full full.Words)
  count_target : {path : List ℕ} {refusal : Refusal}
      → NoTarget s inc path IsGeneral (getdata_right ∷ []) refusal
      → Refuses s proc inc (call.Length path) refusal
  load_into : {path : List ℕ} {into : Slot}
      → IsNoSlot into.0
      → Refuses s proc inc (call.Load path into) (refused.Range (length path))
  load_nowhere : {path : List ℕ} {into : Slot} {refusal : Refusal}
      → IsSlot into.0
      → LeadsNowhere s inc path refusal
      → Refuses s proc inc (call.Load path into) refusal
  load_nothing : {path : List ℕ} {into : Slot}
      → IsSlot into.0
      → Leads s inc path Empty
      → Refuses s proc inc (call.Load path into) (refused.Empty (end_step path))
  store_from : {path : List ℕ} {at : ℕ} {from : Slot}
      → IsNoSlot from.0
      → Refuses s proc inc (call.Store path at from) (refused.Range (length path + 1))
  store_target : {path : List ℕ} {at : ℕ} {from : Slot} {refusal : Refusal}
      → IsSlot from.0
      → NoTarget s inc path IsListed (store_right ∷ modify_right ∷ []) refusal
      → Refuses s proc inc (call.Store path at from) refusal
  store_range : {path : List ℕ} {at : ℕ} {from : Slot} {cap : Cap}
      → IsSlot from.0
      → Target s inc path IsListed (store_right ∷ modify_right ∷ []) cap
      → IsPastEnd (object s cap.name).entries at
      → Refuses s proc inc (call.Store path at from) (refused.Range (length path))
  store_what : {path : List ℕ} {at : ℕ} {from : Slot} {cap : Cap} {entry : Entry} {refusal : Refusal}
      → IsSlot from.0
      → Target s inc path IsListed (store_right ∷ modify_right ∷ []) cap
      → at < length (object s cap.name).entries
      → Stands s inc from.0 entry
      → NotStorable (length path + 1) entry refusal
      → Refuses s proc inc (call.Store path at from) refusal
  append_from : {path : List ℕ} {from : Slot}
      → IsNoSlot from.0
      → Refuses s proc inc (call.Append path from) (refused.Range (length path))
  append_target : {path : List ℕ} {from : Slot} {refusal : Refusal}
      → IsSlot from.0
      → NoTarget s inc path IsListed (append_right ∷ modify_right ∷ []) refusal
      → Refuses s proc inc (call.Append path from) refusal
  append_what : {path : List ℕ} {from : Slot} {cap : Cap} {entry : Entry} {refusal : Refusal}
      → IsSlot from.0
      → Target s inc path IsListed (append_right ∷ modify_right ∷ []) cap
      → Stands s inc from.0 entry
      → NotStorable (length path) entry refusal
      → Refuses s proc inc (call.Append path from) refusal
  append_full : {path : List ℕ} {from : Slot} {cap : Cap} {entry : Entry}
      → IsSlot from.0
      → Target s inc path IsListed (append_right ∷ modify_right ∷ []) cap
      → Stands s inc from.0 entry
      → IsStorable entry
      → entry_limit ≤ length (object s cap.name).entries
      → Refuses s proc inc (call.Append path from) (refused.Full full.Entries)
  erase_target : {path : List ℕ} {at : ℕ} {refusal : Refusal}
      → NoTarget s inc path IsListed (kill_right ∷ modify_right ∷ []) refusal
      → Refuses s proc inc (call.Erase path at) refusal
  erase_range : {path : List ℕ} {at : ℕ} {cap : Cap}
      → Target s inc path IsListed (kill_right ∷ modify_right ∷ []) cap
      → IsPastEnd (object s cap.name).entries at
      → Refuses s proc inc (call.Erase path at) (refused.Range (length path))
  drop_slot : {slot : Slot}
      → IsNoSlot slot.0
      → Refuses s proc inc (call.Drop slot) (refused.Range 0)
  restrict_slot : {slot : Slot} {keep : ℕ}
      → IsNoSlot slot.0
      → Refuses s proc inc (call.Restrict slot keep) (refused.Range 0)
  restrict_what : {slot : Slot} {keep : ℕ} {entry : Entry} {refusal : Refusal}
      → IsSlot slot.0
      → Stands s inc slot.0 entry
      → NoCapability 0 entry refusal
      → Refuses s proc inc (call.Restrict slot keep) refusal
  look_nowhere : {path : List ℕ} {refusal : Refusal}
      → LeadsNowhere s inc path refusal
      → Refuses s proc inc (call.Look path) refusal
  make_template_into : {path : List ℕ} {kind : Making} {into : Slot}
      → IsNoSlot into.0
      → Refuses s proc inc (call.MakeTemplate path kind into) (refused.Range (length path))
  make_template_target : {path : List ℕ} {kind : Making} {into : Slot} {refusal : Refusal}
      → IsSlot into.0
      → NoTarget s inc path (IsType TYPE) (env_right ∷ a0_right ∷ []) refusal
      → Refuses s proc inc (call.MakeTemplate path kind into) refusal
  create_into : {path : List ℕ} {into : Slot}
      → IsNoSlot into.0
      → Refuses s proc inc (call.Create path into) (refused.Range (length path))
  create_nowhere : {path : List ℕ} {into : Slot} {refusal : Refusal}
      → IsSlot into.0
      → LeadsNowhere s inc path refusal
      → Refuses s proc inc (call.Create path into) refusal
  create_what : {path : List ℕ} {into : Slot} {entry : Entry} {refusal : Refusal}
      → IsSlot into.0
      → Leads s inc path entry
      → IsNoCreate (end_step path) entry refusal
      → Refuses s proc inc (call.Create path into) refusal
  create_type : {path : List ℕ} {into : Slot} {of : Name} {give : ℕ}
      → IsSlot into.0
      → Leads s inc path (Form (Create of give))
      → IsUncreated of
      → Refuses s proc inc (call.Create path into) (refused.WrongType (end_step path))
  create_full : {path : List ℕ} {into : Slot} {of : Name} {give : ℕ}
      → IsSlot into.0
      → Leads s inc path (Form (Create of give))
      → (IsUncreated of → ⊥)
      → IsFullTable s
      → Refuses s proc inc (call.Create path into) (refused.Full full.Objects)
  merge_from : {path : List ℕ} {from into : Slot}
      → IsNoSlot from.0
      → Refuses s proc inc (call.Merge path from into) (refused.Range (length path))
  merge_into : {path : List ℕ} {from into : Slot}
      → IsSlot from.0
      → IsNoSlot into.0
      → Refuses s proc inc (call.Merge path from into) (refused.Range (length path + 1))
  merge_nowhere : {path : List ℕ} {from into : Slot} {refusal : Refusal}
      → IsSlot from.0
      → IsSlot into.0
      → LeadsNowhere s inc path refusal
      → Refuses s proc inc (call.Merge path from into) refusal
  merge_what : {path : List ℕ} {from into : Slot} {entry : Entry} {refusal : Refusal}
      → IsSlot from.0
      → IsSlot into.0
      → Leads s inc path entry
      → IsNoAmplify (end_step path) entry refusal
      → Refuses s proc inc (call.Merge path from into) refusal
  merge_cap : {path : List ℕ} {from into : Slot} {of : Option Name} {check give : ℕ} {entry : Entry} {refusal : Refusal}
      → IsSlot from.0
      → IsSlot into.0
      → Leads s inc path (Form (Amplify of check give))
      → Stands s inc from.0 entry
      → NoCapability (length path) entry refusal
      → Refuses s proc inc (call.Merge path from into) refusal
  merge_refused : {path : List ℕ} {from into : Slot} {of : Option Name} {check give : ℕ} {cap : Cap} {refusal : Refusal}
      → IsSlot from.0
      → IsSlot into.0
      → Leads s inc path (Form (Amplify of check give))
      → Stands s inc from.0 (Held cap)
      → NoMerge (length path) cap (object s cap.name).of (record { of = of; check = check; give = give }) refusal
      → Refuses s proc inc (call.Merge path from into) refusal
  copy_into : {path : List ℕ} {into : Slot}
      → IsNoSlot into.0
      → Refuses s proc inc (call.Copy path into) (refused.Range (length path))
  copy_target : {path : List ℕ} {into : Slot} {refusal : Refusal}
      → IsSlot into.0
      → NoTarget s inc path IsGeneral (copy_right ∷ []) refusal
      → Refuses s proc inc (call.Copy path into) refusal
  copy_full : {path : List ℕ} {into : Slot} {cap : Cap}
      → IsSlot into.0
      → Target s inc path IsGeneral (copy_right ∷ []) cap
      → IsFullTable s
      → Refuses s proc inc (call.Copy path into) (refused.Full full.Objects)
  enter_argument : {path args : List ℕ} {into : Slot} {step : ℕ}
      → FirstNoSlot (length path) args step
      → Refuses s proc inc (call.Enter path args into) (refused.Range step)
  enter_into : {path args : List ℕ} {into : Slot}
      → All IsSlot args
      → IsNoSlot into.0
      → Refuses s proc inc (call.Enter path args into) (refused.Range (length path + length args))
  enter_target : {path args : List ℕ} {into : Slot} {refusal : Refusal}
      → All IsSlot args
      → IsSlot into.0
      → NoTarget s inc path (IsType PROCEDURE) (a0_right ∷ []) refusal
      → Refuses s proc inc (call.Enter path args into) refusal
  enter_count : {path args : List ℕ} {into : Slot} {cap : Cap}
      → All IsSlot args
      → IsSlot into.0
      → Target s inc path (IsType PROCEDURE) (a0_right ∷ []) cap
      → (length args ≡ length (object s cap.name).params → ⊥)
      → Refuses s proc inc (call.Enter path args into) refused.Count
  enter_passes : {path args : List ℕ} {into : Slot} {cap : Cap} {refusal : Refusal}
      → All IsSlot args
      → IsSlot into.0
      → Target s inc path (IsType PROCEDURE) (a0_right ∷ []) cap
      → length args ≡ length (object s cap.name).params
      → PassesNot s inc (length path) args (object s cap.name).params refusal
      → Refuses s proc inc (call.Enter path args into) refusal
  enter_full : {path args : List ℕ} {into : Slot} {cap : Cap} {caps : List Cap}
      → All IsSlot args
      → IsSlot into.0
      → Target s inc path (IsType PROCEDURE) (a0_right ∷ []) cap
      → Passes s inc args (object s cap.name).params caps
      → slot_limit < length caps + length (object s cap.name).entries
      → Refuses s proc inc (call.Enter path args into) (refused.Full full.Slots)
  enter_deep : {path args : List ℕ} {into : Slot} {cap : Cap} {caps : List Cap}
      → All IsSlot args
      → IsSlot into.0
      → Target s inc path (IsType PROCEDURE) (a0_right ∷ []) cap
      → Passes s inc args (object s cap.name).params caps
      → length caps + length (object s cap.name).entries ≤ slot_limit
      → depth_limit ≤ incarnations_of s proc
      → Refuses s proc inc (call.Enter path args into) refused.Deep
  leave_slot : {slot : Slot}
      → IsNoSlot slot.0
      → Refuses s proc inc (call.Leave (Some slot)) (refused.Range 0)
  leave_what : {slot : Slot} {entry : Entry} {refusal : Refusal}
      → IsSlot slot.0
      → Stands s inc slot.0 entry
      → NoCapability 0 entry refusal
      → Refuses s proc inc (call.Leave (Some slot)) refusal
  leave_denied : {slot : Slot} {cap : Cap}
      → IsSlot slot.0
      → Stands s inc slot.0 (Held cap)
      → Lacks cap.rights env_right
      → Refuses s proc inc (call.Leave (Some slot)) (refused.Denied 0 env_right)
  p_target : {path : List ℕ} {refusal : Refusal}
      → NoTarget s inc path (IsType SEMAPHORE) (modify_right ∷ a0_right ∷ []) refusal
      → Refuses s proc inc (call.P path) refusal
  v_target : {path : List ℕ} {refusal : Refusal}
      → NoTarget s inc path (IsType SEMAPHORE) (modify_right ∷ a1_right ∷ []) refusal
      → Refuses s proc inc (call.V path) refusal
  v_full : {path : List ℕ} {cap : Cap}
      → Target s inc path (IsType SEMAPHORE) (modify_right ∷ a1_right ∷ []) cap
      → (object s cap.name).waiters ≡ []
      → token_limit ≤ (object s cap.name).count
      → Refuses s proc inc (call.V path) (refused.Full full.Tokens)

-- the call of a process in its current incarnation gives this reply and this state: each call is one event, and what is no longer
-- kept vanishes where it is not refused
pub data Does (s : State) (proc : Proc) : Call → Reply → State → Type 0 where
  is_answered : {c : Call} {reply : Reply} {after : State}
      → Answers s proc (process s proc).current c reply after
      → Does s proc c reply (record (restricted after) { events = s.events + 1 })
  is_refused : {c : Call} {refusal : Refusal}
      → Refuses s proc (process s proc).current c refusal
      → Does s proc c (No refusal) (record s { events = s.events + 1 })

-- in every state, for every process and call, the reply and the state that the rule table gives are given by an inference rule
abbrev pub RulesInferred : Type 0
RulesInferred = (s : State) (proc : Proc) (c : Call) → Does s proc c (rule s proc c).0 (rule s proc c).1
