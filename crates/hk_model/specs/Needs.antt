-- What each kernel call needs, as one table, and what the table says of what is answered and refused: the permission law and the
-- denial law. docs/RULES.md, "What each call needs".
use Rattle.std.specs.Prelude.{◌≡◌, ◌<◌, ◌≤◌, ℕ, ◌+◌, true, List, [], ◌∷◌, ◌++◌, length, Option, Some, None, Contains, map, take}
use Rattle.hk_model.specs.declared.names.Name.{Name}
use Rattle.hk_model.specs.declared.names.Inc.{Inc}
use Rattle.hk_model.specs.declared.names.Proc.{Proc}
use Rattle.hk_model.specs.declared.names.Slot.{Slot}
use Rattle.hk_model.specs.declared.entries.Cap.{Cap}
use Rattle.hk_model.specs.declared.entries.Param.{Param}
use Rattle.hk_model.specs.declared.entries.Template.{Template}
use Rattle.hk_model.specs.declared.entries.Template.TheVariants.{Amplify, Create}
use Rattle.hk_model.specs.declared.entries.Entry.{Entry}
use Rattle.hk_model.specs.declared.entries.Entry.TheVariants.{Empty, Held, Form}
use Rattle.hk_model.specs.declared.calls.Refusal.{Refusal}
use Rattle.hk_model.specs.declared.calls.Refusal.TheVariants as refused
use Rattle.hk_model.specs.declared.calls.What8.TheVariants as full
use Rattle.hk_model.specs.declared.calls.Reply.TheVariants.{No}
use Rattle.hk_model.specs.declared.calls.Call.{Call}
use Rattle.hk_model.specs.declared.calls.Call.TheVariants as call
use Rattle.hk_model.specs.declared.lines.What.TheVariants as what
use Rattle.hk_model.specs.declared.lines.Line.{Line}
use Rattle.hk_rights.specs.Rights.{getdata_right, putdata_right, adddata_right, load_right, store_right, append_right, kill_right, copy_right, modify_right, env_right, a0_right, a1_right}
use Rattle.hk_model.specs.Limits.{word_limit, entry_limit, slot_limit, depth_limit, token_limit}
use Rattle.hk_model.specs.WorldValue.{WorldValue}
use Rattle.hk_model.specs.State.{State, object, incarnation}
use Rattle.hk_model.specs.Targets.{TYPE, SEMAPHORE, PROCEDURE}
use Rattle.hk_model.specs.Judgments.{Has, Lacks, rights_of, IsGeneral, IsListed, IsType, IsUncreated, IsAt, Stands, Leads, end_step, NamesOther, IsFullTable}
use Rattle.hk_model.specs.Does.{incarnations_of}
use Rattle.hk_model.specs.Lines.{done_call, makes_object}
use Rattle.hk_model.specs.Running.{state_at}

-- what a call needs of what a slot carries: nothing, ENV of a capability, or what its template checks
pub data Demand : Type 0 where
  Anything : Demand
  Env : Demand
  Checked : Demand

-- what stands behind the path of a call: the index of a word or of an entry, a slot whose entry is carried, and a slot that is written
pub data Behind : Type 0 where
  Word : (at : ℕ) → Behind
  Item : (at : ℕ) → Behind
  Carried : (slot : ℕ) (demand : Demand) → Behind
  Into : (slot : ℕ) → Behind

-- a row of the table: the path, the rights that the capability at its end needs, by rising number, and what stands behind it
pub record Needs : Type 0 where
  pub path : List ℕ
  pub rights : List ℕ
  pub behind : List Behind

-- what each call needs. Besides, each step of a path but the last needs LOAD, and ENV where the next entry is a template
abbrev pub needs : Call → Needs
needs (call.Get path at) = record { path = path; rights = getdata_right ∷ []; behind = Word at ∷ [] }
needs (call.Put path at word) = record { path = path; rights = putdata_right ∷ modify_right ∷ []; behind = Word at ∷ [] }
needs (call.Add path word) = record { path = path; rights = adddata_right ∷ modify_right ∷ []; behind = [] }
needs (call.Length path) = record { path = path; rights = getdata_right ∷ []; behind = [] }
needs (call.Load path into) = record { path = path; rights = []; behind = Into into.0 ∷ [] }
needs (call.Store path at from) = record { path = path; rights = store_right ∷ modify_right ∷ []; behind = Item at ∷ Carried from.0 Env ∷ [] }
needs (call.Append path from) = record { path = path; rights = append_right ∷ modify_right ∷ []; behind = Carried from.0 Env ∷ [] }
needs (call.Erase path at) = record { path = path; rights = kill_right ∷ modify_right ∷ []; behind = Item at ∷ [] }
needs (call.Drop slot) = record { path = []; rights = []; behind = Into slot.0 ∷ [] }
needs (call.Restrict slot keep) = record { path = []; rights = []; behind = Carried slot.0 Anything ∷ [] }
needs (call.Look path) = record { path = path; rights = []; behind = [] }
needs (call.MakeTemplate path kind into) = record { path = path; rights = env_right ∷ a0_right ∷ []; behind = Into into.0 ∷ [] }
needs (call.Create path into) = record { path = path; rights = []; behind = Into into.0 ∷ [] }
needs (call.Merge path from into) = record { path = path; rights = []; behind = Carried from.0 Checked ∷ Into into.0 ∷ [] }
needs (call.Copy path into) = record { path = path; rights = copy_right ∷ []; behind = Into into.0 ∷ [] }
needs (call.Enter path args into) = record { path = path; rights = a0_right ∷ []; behind = map (λ arg. Carried arg Checked) args ++ Into into.0 ∷ [] }
needs (call.Leave None) = record { path = []; rights = []; behind = [] }
needs (call.Leave (Some slot)) = record { path = []; rights = []; behind = Carried slot.0 Env ∷ [] }
needs (call.P path) = record { path = path; rights = modify_right ∷ a0_right ∷ []; behind = [] }
needs (call.V path) = record { path = path; rights = modify_right ∷ a1_right ∷ []; behind = [] }
needs call.Yield = record { path = []; rights = []; behind = [] }

-- what a call finds at a step: at one of its path, what the walk gives there, and behind it what a slot carries
pub data Finds (s : State) (inc : Inc) (c : Call) : ℕ → Entry → Type 0 where
  on_path : (step : ℕ) {entry : Entry}
      → step < length (needs c).path → Leads s inc (take (step + 1) (needs c).path) entry
      → Finds s inc c step entry
  in_slot : (place : ℕ) {slot : ℕ} {demand : Demand} {entry : Entry}
      → IsAt (needs c).behind place (Carried slot demand) → Stands s inc slot entry
      → Finds s inc c (length (needs c).path + place) entry

-- the template that the slot at a place behind the path is merged with: the one at the path's end, or the parameter of that number
pub data MergesWith (s : State) (inc : Inc) : Call → ℕ → Param → Type 0 where
  with_template : {path : List ℕ} {from into : Slot} {of : Option Name} {check give : ℕ}
      → Leads s inc path (Form (Amplify of check give))
      → MergesWith s inc (call.Merge path from into) 0 (record { of = of; check = check; give = give })
  with_parameter : {path args : List ℕ} {into : Slot} {place : ℕ} {cap : Cap} {param : Param}
      → Leads s inc path (Held cap) → IsAt (object s cap.name).params place param → place < length args
      → MergesWith s inc (call.Enter path args into) place param

-- the call needs this right of the capability at this step
pub data IsNeeded (s : State) (inc : Inc) (c : Call) : ℕ → ℕ → Type 0 where
  -- LOAD at each step of the path but the last
  to_go_on : (step : ℕ) → step + 1 < length (needs c).path → IsNeeded s inc c step load_right
  -- ENV where the next entry is a template
  to_give : (step at : ℕ) {cap : Cap} {form : Template}
      → IsAt (needs c).path (step + 1) at → Leads s inc (take (step + 1) (needs c).path) (Held cap) → IsAt (object s cap.name).entries at (Form form)
      → IsNeeded s inc c step env_right
  -- the rights of the row at the path's end
  at_the_end : {right : ℕ} → Contains (needs c).rights right → IsNeeded s inc c (end_step (needs c).path) right
  -- ENV of a capability that is handed on
  to_hand_on : (place : ℕ) {slot : ℕ} {cap : Cap}
      → IsAt (needs c).behind place (Carried slot Env) → Stands s inc slot (Held cap)
      → IsNeeded s inc c (length (needs c).path + place) env_right
  -- what the template checks
  to_merge : (place : ℕ) {right : ℕ} {form : Param}
      → MergesWith s inc c place form → Contains (rights_of form.check) right
      → IsNeeded s inc c (length (needs c).path + place) right

-- the call finds a capability with this right at this step
pub record HasThere (s : State) (inc : Inc) (c : Call) (step right : ℕ) : Type 0 where
  pub cap : Cap
  pub there : Finds s inc c step (Held cap)
  pub permits : Has cap.rights right

-- the call has every right that it needs
abbrev pub IsPermitted : State → Inc → Call → Type 0
IsPermitted s inc c = (step right : ℕ) → IsNeeded s inc c step right → HasThere s inc c step right

-- the first right that is needed at this step and missing there
pub record IsDenied (s : State) (inc : Inc) (c : Call) (step right : ℕ) : Type 0 where
  pub cap : Cap
  pub there : Finds s inc c step (Held cap)
  pub needed : IsNeeded s inc c step right
  pub missing : Lacks cap.rights right
  pub first : (lower : ℕ) → lower < right → IsNeeded s inc c step lower → Has cap.rights lower

-- the number that a call gives at a step, and what it is to be below
pub data Counts (s : State) (inc : Inc) (c : Call) : ℕ → ℕ → ℕ → Type 0 where
  of_slots : {at : ℕ} → IsAt (needs c).path 0 at → Counts s inc c 0 at (length (incarnation s inc).slots)
  of_list : (step : ℕ) {at : ℕ} {cap : Cap}
      → IsAt (needs c).path (step + 1) at → Leads s inc (take (step + 1) (needs c).path) (Held cap)
      → Counts s inc c (step + 1) at (length (object s cap.name).entries)
  of_words : (place : ℕ) {at : ℕ} {cap : Cap}
      → IsAt (needs c).behind place (Word at) → Leads s inc (needs c).path (Held cap)
      → Counts s inc c (length (needs c).path + place) at (length (object s cap.name).words)
  of_items : (place : ℕ) {at : ℕ} {cap : Cap}
      → IsAt (needs c).behind place (Item at) → Leads s inc (needs c).path (Held cap)
      → Counts s inc c (length (needs c).path + place) at (length (object s cap.name).entries)
  of_carried : (place : ℕ) {slot : ℕ} {demand : Demand}
      → IsAt (needs c).behind place (Carried slot demand) → Counts s inc c (length (needs c).path + place) slot slot_limit
  of_written : (place : ℕ) {slot : ℕ} → IsAt (needs c).behind place (Into slot) → Counts s inc c (length (needs c).path + place) slot slot_limit

-- the types of the object at the path's end that a call wants
abbrev pub Wants : Call → Name → Type 0
Wants (call.Get path at) = IsGeneral
Wants (call.Put path at word) = IsGeneral
Wants (call.Add path word) = IsGeneral
Wants (call.Length path) = IsGeneral
Wants (call.Copy path into) = IsGeneral
Wants (call.Store path at from) = IsListed
Wants (call.Append path from) = IsListed
Wants (call.Erase path at) = IsListed
Wants (call.MakeTemplate path kind into) = IsType TYPE
Wants (call.Enter path args into) = IsType PROCEDURE
Wants (call.P path) = IsType SEMAPHORE
Wants (call.V path) = IsType SEMAPHORE
Wants _ = λ of. Unit {0}

-- the calls that have a path
abbrev pub HasPath : Call → Type 0
HasPath (call.Drop slot) = ⊥
HasPath (call.Restrict slot keep) = ⊥
HasPath (call.Leave give) = ⊥
HasPath call.Yield = ⊥
HasPath _ = Unit {0}

-- an entry of another kind than the template by which an object is created, or a capability merged
pub data IsNoCreateTemplate : Entry → Type 0 where
  capability_to_create : {cap : Cap} → IsNoCreateTemplate (Held cap)
  amplify_to_create : {of : Option Name} {check give : ℕ} → IsNoCreateTemplate (Form (Amplify of check give))

pub data IsNoAmplifyTemplate : Entry → Type 0 where
  capability_to_merge : {cap : Cap} → IsNoAmplifyTemplate (Held cap)
  create_to_merge : {of : Name} {give : ℕ} → IsNoAmplifyTemplate (Form (Create of give))

-- the plain cause of each refusal of a call: what is so in the state before it
pub data Cause (s : State) (proc : Proc) (inc : Inc) : Call → Refusal → Type 0 where
  nothing_there : {c : Call} {step : ℕ} → Finds s inc c step Empty → Cause s proc inc c (refused.Empty step)
  template_there : {c : Call} {step : ℕ} {form : Template} → Finds s inc c step (Form form) → Cause s proc inc c (refused.NotCap step)
  right_missing : {c : Call} {step right : ℕ} → IsDenied s inc c step right → Cause s proc inc c (refused.Denied step right)
  number_too_large : {c : Call} {step at bound : ℕ} → Counts s inc c step at bound → bound ≤ at → Cause s proc inc c (refused.Range step)
  no_number : {c : Call} → HasPath c → (needs c).path ≡ [] → Cause s proc inc c (refused.Range 0)
  type_unwanted : {c : Call} {cap : Cap}
      → Leads s inc (needs c).path (Held cap) → (Wants c (object s cap.name).of → ⊥)
      → Cause s proc inc c (refused.WrongType (end_step (needs c).path))
  type_uncreated : {path : List ℕ} {into : Slot} {of : Name} {give : ℕ}
      → Leads s inc path (Form (Create of give)) → IsUncreated of
      → Cause s proc inc (call.Create path into) (refused.WrongType (end_step path))
  type_of_template : {c : Call} (place : ℕ) {form : Param} {cap : Cap}
      → MergesWith s inc c place form → Finds s inc c (length (needs c).path + place) (Held cap) → NamesOther form (object s cap.name).of
      → Cause s proc inc c (refused.WrongType (length (needs c).path + place))
  no_create_template : {path : List ℕ} {into : Slot} {entry : Entry}
      → Leads s inc path entry → IsNoCreateTemplate entry
      → Cause s proc inc (call.Create path into) (refused.BadTemplate (end_step path))
  no_amplify_template : {path : List ℕ} {from into : Slot} {entry : Entry}
      → Leads s inc path entry → IsNoAmplifyTemplate entry
      → Cause s proc inc (call.Merge path from into) (refused.BadTemplate (end_step path))
  arguments_miscounted : {path args : List ℕ} {into : Slot} {cap : Cap}
      → Leads s inc path (Held cap) → (length args ≡ length (object s cap.name).params → ⊥)
      → Cause s proc inc (call.Enter path args into) refused.Count
  words_full : {path : List ℕ} {word : ℕ} {cap : Cap}
      → Leads s inc path (Held cap) → word_limit ≤ length (object s cap.name).words
      → Cause s proc inc (call.Add path word) (refused.Full full.Words)
  entries_full : {path : List ℕ} {from : Slot} {cap : Cap}
      → Leads s inc path (Held cap) → entry_limit ≤ length (object s cap.name).entries
      → Cause s proc inc (call.Append path from) (refused.Full full.Entries)
  objects_full : {c : Call} → makes_object (Some c) ≡ true → IsFullTable s → Cause s proc inc c (refused.Full full.Objects)
  slots_full : {path args : List ℕ} {into : Slot} {cap : Cap}
      → Leads s inc path (Held cap) → slot_limit < length (object s cap.name).params + length (object s cap.name).entries
      → Cause s proc inc (call.Enter path args into) (refused.Full full.Slots)
  tokens_full : {path : List ℕ} {cap : Cap}
      → Leads s inc path (Held cap) → (object s cap.name).waiters ≡ [] → token_limit ≤ (object s cap.name).count
      → Cause s proc inc (call.V path) (refused.Full full.Tokens)
  too_deep : {path args : List ℕ} {into : Slot} → depth_limit ≤ incarnations_of s proc → Cause s proc inc (call.Enter path args into) refused.Deep

-- a call that was answered and not refused had, at the moment before, every right that it needs, where it needs it
abbrev pub PermissionLaw : WorldValue → List Line → Type 0
PermissionLaw w lines =
    (n : ℕ) (line : Line) (c : Call) → IsAt lines n line → done_call line ≡ Some c → IsPermitted (state_at w lines n) line.inc c

-- a call that was refused had, at the moment before, the cause that its refusal tells: of a denial the right is the first that is needed
-- there and missing
abbrev pub DenialLaw : WorldValue → List Line → Type 0
DenialLaw w lines =
    (n : ℕ) (line : Line) (c : Call) (refusal : Refusal) → IsAt lines n line → line.what ≡ what.Call c → line.reply ≡ No refusal
    → Cause (state_at w lines n) line.proc line.inc c refusal
