-- The judgments that the inference rules of the kernel calls share: rights, types, reduction, walks, targets and merges.
-- docs/RULES.md, "The rules as inference rules".
use Rattle.std.specs.Prelude.{◌≡◌, ◌<◌, ◌≤◌, ◌⊎◌, ℕ, ◌+◌, ◌-◌, true, false, List, [], ◌∷◌, ◌++◌, length, Some, None, All, filter, slice_get, slice_index_or, bit_and}
use Rattle.hk_model.specs.declared.names.Name.{Name}
use Rattle.hk_model.specs.declared.names.Inc.{Inc}
use Rattle.hk_model.specs.declared.entries.Cap.{Cap}
use Rattle.hk_model.specs.declared.entries.Param.{Param}
use Rattle.hk_model.specs.declared.entries.Template.{Template}
use Rattle.hk_model.specs.declared.entries.Entry.{Entry}
use Rattle.hk_model.specs.declared.entries.Entry.TheVariants.{Empty, Held, Form}
use Rattle.hk_model.specs.declared.calls.Refusal.{Refusal}
use Rattle.hk_model.specs.declared.calls.Refusal.TheVariants as refused
use Rattle.hk_rights.specs.Rights.{MODIFY, ENV, UNCONF, has, load_right, env_right, unconf_right, special_rights, right_numbers, minus}
use Rattle.hk_model.specs.Limits.{object_limit, slot_limit}
use Rattle.hk_model.specs.State.{State, object, incarnation}
use Rattle.hk_model.specs.Keeping.{rooted_objects}
use Rattle.hk_model.specs.Targets.{DATA, UNIVERSAL, PROCEDURE, PROCESS, LNS}

-- ---- rights, types and lists

-- the set has the right of this number, and lacks it
abbrev pub Has : ℕ → ℕ → Type 0
Has rights right = has rights right ≡ true

abbrev pub Lacks : ℕ → ℕ → Type 0
Lacks rights right = has rights right ≡ false

-- the set has each of these rights
abbrev pub HasEach : ℕ → List ℕ → Type 0
HasEach rights needed = All (Has rights) needed

-- the first of these rights that the set lacks
pub data FirstLacking (rights : ℕ) : List ℕ → ℕ → Type 0 where
  this : {right : ℕ} {more : List ℕ} → Lacks rights right → FirstLacking rights (right ∷ more) right
  a_later : {right lacking : ℕ} {more : List ℕ} → Has rights right → FirstLacking rights more lacking → FirstLacking rights (right ∷ more) lacking

-- the rights of a set, by rising number
abbrev pub rights_of : ℕ → List ℕ
rights_of set = filter (has set) right_numbers

-- a general type
pub data IsGeneral : Name → Type 0 where
  of_data : {of : Name} → of.0 ≡ DATA → IsGeneral of
  of_universal : {of : Name} → of.0 ≡ UNIVERSAL → IsGeneral of
  of_declared : {of : Name} → LNS < of.0 → IsGeneral of

-- a listed type
pub data IsListed : Name → Type 0 where
  lists_universal : {of : Name} → of.0 ≡ UNIVERSAL → IsListed of
  lists_procedure : {of : Name} → of.0 ≡ PROCEDURE → IsListed of
  lists_declared : {of : Name} → LNS < of.0 → IsListed of

-- the kernel type of this number
abbrev pub IsType : ℕ → Name → Type 0
IsType type of = of.0 ≡ type

-- what no program creates
abbrev pub IsUncreated : Name → Type 0
IsUncreated of = IsType PROCEDURE of ⊎ (IsType PROCESS of ⊎ IsType LNS of)

-- what stands at an index of a list, and that the index is past the end
abbrev pub IsAt : {A : Type 0} → List A → ℕ → A → Type 0
IsAt items at item = slice_get items at ≡ Some item

abbrev pub IsPastEnd : {A : Type 0} → List A → ℕ → Type 0
IsPastEnd items at = length items ≤ at

-- a slot has a number below 64
abbrev pub IsSlot : ℕ → Type 0
IsSlot slot = slot < slot_limit

abbrev pub IsNoSlot : ℕ → Type 0
IsNoSlot slot = slot_limit ≤ slot

-- what stands in a slot: nothing in one that the incarnation does not have
abbrev pub Stands : State → Inc → ℕ → Entry → Type 0
Stands s inc slot entry = slice_index_or (incarnation s inc).slots slot Empty ≡ entry

-- ---- reduction and walks

-- what is left of rights that are obtained through a capability with the rights `by`
pub data Reduction (by rights : ℕ) : ℕ → Type 0 where
  unreduced : Has by unconf_right → Has by env_right → Reduction by rights rights
  without_env : Has by unconf_right → Lacks by env_right → Reduction by rights (minus rights ENV)
  without_unconf : Lacks by unconf_right → Has by env_right → Reduction by rights (minus rights (MODIFY + UNCONF))
  without_both : Lacks by unconf_right → Lacks by env_right → Reduction by rights (minus rights (MODIFY + ENV + UNCONF))

-- what becomes of an entry that is obtained through a capability with the rights `by`: a template is not given without ENV
pub data Obtains (by : ℕ) : Entry → Entry → Type 0 where
  obtains_nothing : Obtains by Empty Empty
  obtains_template : {form : Template} → Has by env_right → Obtains by (Form form) (Form form)
  obtains_capability : {cap : Cap} {rights : ℕ} → Reduction by cap.rights rights → Obtains by (Held cap) (Held (record cap { rights = rights }))

-- the path of an incarnation leads to this entry
pub data Leads (s : State) (inc : Inc) : List ℕ → Entry → Type 0 where
  at_slot : {at : ℕ} {entry : Entry} → IsAt (incarnation s inc).slots at entry → Leads s inc (at ∷ []) entry
  one_more : (path : List ℕ) (at : ℕ) {cap : Cap} {next entry : Entry}
      → Leads s inc path (Held cap) → Has cap.rights load_right → IsAt (object s cap.name).entries at next → Obtains cap.rights next entry
      → Leads s inc (path ++ at ∷ []) entry

-- the last step of a path
abbrev pub end_step : List ℕ → ℕ
end_step path = length path - 1

-- the path of an incarnation leads nowhere, for this cause
pub data LeadsNowhere (s : State) (inc : Inc) : List ℕ → Refusal → Type 0 where
  no_path : LeadsNowhere s inc [] (refused.Range 0)
  no_slot : {at : ℕ} → IsPastEnd (incarnation s inc).slots at → LeadsNowhere s inc (at ∷ []) (refused.Range 0)
  stopped : (at next : ℕ) (path : List ℕ) {refusal : Refusal} → LeadsNowhere s inc (at ∷ path) refusal → LeadsNowhere s inc (at ∷ (path ++ next ∷ [])) refusal
  from_nothing : (path : List ℕ) (at : ℕ) → Leads s inc path Empty → LeadsNowhere s inc (path ++ at ∷ []) (refused.Empty (end_step path))
  from_template : (path : List ℕ) (at : ℕ) {form : Template} → Leads s inc path (Form form) → LeadsNowhere s inc (path ++ at ∷ []) (refused.NotCap (end_step path))
  without_load : (path : List ℕ) (at : ℕ) {cap : Cap}
      → Leads s inc path (Held cap) → Lacks cap.rights load_right → LeadsNowhere s inc (path ++ at ∷ []) (refused.Denied (end_step path) load_right)
  past_end : (path : List ℕ) (at : ℕ) {cap : Cap}
      → Leads s inc path (Held cap) → Has cap.rights load_right → IsPastEnd (object s cap.name).entries at
      → LeadsNowhere s inc (path ++ at ∷ []) (refused.Range (length path))
  template_without_env : (path : List ℕ) (at : ℕ) {cap : Cap} {form : Template}
      → Leads s inc path (Held cap) → Has cap.rights load_right → IsAt (object s cap.name).entries at (Form form) → Lacks cap.rights env_right
      → LeadsNowhere s inc (path ++ at ∷ []) (refused.Denied (end_step path) env_right)

-- ---- targets

-- the path leads to a capability for an object of such a type, with these rights
pub record Target (s : State) (inc : Inc) (path : List ℕ) (types : Name → Type 0) (needed : List ℕ) (cap : Cap) : Type 0 where
  pub leads : Leads s inc path (Held cap)
  pub typed : types (object s cap.name).of
  pub permits : HasEach cap.rights needed

-- the path leads to no such capability, for this cause
pub data NoTarget (s : State) (inc : Inc) (path : List ℕ) (types : Name → Type 0) (needed : List ℕ) : Refusal → Type 0 where
  nowhere : {refusal : Refusal} → LeadsNowhere s inc path refusal → NoTarget s inc path types needed refusal
  nothing : Leads s inc path Empty → NoTarget s inc path types needed (refused.Empty (end_step path))
  no_capability : {form : Template} → Leads s inc path (Form form) → NoTarget s inc path types needed (refused.NotCap (end_step path))
  other_type : {cap : Cap} → Leads s inc path (Held cap) → (types (object s cap.name).of → ⊥) → NoTarget s inc path types needed (refused.WrongType (end_step path))
  denied : {cap : Cap} {right : ℕ}
      → Leads s inc path (Held cap) → types (object s cap.name).of → FirstLacking cap.rights needed right
      → NoTarget s inc path types needed (refused.Denied (end_step path) right)

-- ---- what slots carry

-- a slot holds what may stand in a list: a template, or a capability with ENV
pub data IsStorable : Entry → Type 0 where
  stores_template : {form : Template} → IsStorable (Form form)
  stores_capability : {cap : Cap} → Has cap.rights env_right → IsStorable (Held cap)

-- the entry of this step may not stand in a list, for this cause
pub data NotStorable (step : ℕ) : Entry → Refusal → Type 0 where
  stores_nothing : NotStorable step Empty (refused.Empty step)
  kept_local : {cap : Cap} → Lacks cap.rights env_right → NotStorable step (Held cap) (refused.Denied step env_right)

-- the entry of this step is no capability, for this cause
pub data NoCapability (step : ℕ) : Entry → Refusal → Type 0 where
  is_nothing : NoCapability step Empty (refused.Empty step)
  is_template : {form : Template} → NoCapability step (Form form) (refused.NotCap step)

-- ---- merging

-- a capability for an object of type `of`, merged with a template that names that type or none
pub data Merges (cap : Cap) (of : Name) : Param → Cap → Type 0 where
  -- all that the template gives, but of the special rights only those that the capability has
  by_its_type : {check give : ℕ}
      → HasEach cap.rights (rights_of check)
      → Merges cap of (record { of = Some of; check = check; give = give }) (record cap { rights = minus give (minus special_rights cap.rights) })
  -- what both have
  by_any_type : {check give : ℕ}
      → HasEach cap.rights (rights_of check)
      → Merges cap of (record { of = None; check = check; give = give }) (record cap { rights = bit_and give cap.rights })

-- the template names another type
pub record NamesOther (form : Param) (of : Name) : Type 0 where
  pub type : Name
  pub names : form.of ≡ Some type
  pub other : type ≡ of → ⊥

-- the capability of this step does not merge with the template, for this cause
pub data NoMerge (step : ℕ) (cap : Cap) (of : Name) (form : Param) : Refusal → Type 0 where
  merge_other : NamesOther form of → NoMerge step cap of form (refused.WrongType step)
  merge_denied : {right : ℕ} → (NamesOther form of → ⊥) → FirstLacking cap.rights (rights_of form.check) right → NoMerge step cap of form (refused.Denied step right)

-- the arguments in these slots are as many as the parameters, and merge with them to these capabilities
pub data Passes (s : State) (inc : Inc) : List ℕ → List Param → List Cap → Type 0 where
  passes_none : Passes s inc [] [] []
  passes_more : {slot : ℕ} {args : List ℕ} {param : Param} {params : List Param} {cap new : Cap} {caps : List Cap}
      → Stands s inc slot (Held cap) → Merges cap (object s cap.name).of param new → Passes s inc args params caps
      → Passes s inc (slot ∷ args) (param ∷ params) (new ∷ caps)

-- one of the arguments, of which the first has this step, does not merge with its parameter, for this cause
pub data PassesNot (s : State) (inc : Inc) : ℕ → List ℕ → List Param → Refusal → Type 0 where
  argument_missing : {step slot : ℕ} {args : List ℕ} {param : Param} {params : List Param} {entry : Entry} {refusal : Refusal}
      → Stands s inc slot entry → NoCapability step entry refusal
      → PassesNot s inc step (slot ∷ args) (param ∷ params) refusal
  argument_refused : {step slot : ℕ} {args : List ℕ} {param : Param} {params : List Param} {cap : Cap} {refusal : Refusal}
      → Stands s inc slot (Held cap) → NoMerge step cap (object s cap.name).of param refusal
      → PassesNot s inc step (slot ∷ args) (param ∷ params) refusal
  argument_later : {step slot : ℕ} {args : List ℕ} {param : Param} {params : List Param} {cap new : Cap} {refusal : Refusal}
      → Stands s inc slot (Held cap) → Merges cap (object s cap.name).of param new → PassesNot s inc (step + 1) args params refusal
      → PassesNot s inc step (slot ∷ args) (param ∷ params) refusal

-- what a call inherits of the list of a procedure, through a capability with these rights
pub data Inherits (by : ℕ) : List Entry → List Entry → Type 0 where
  inherits_none : Inherits by [] []
  inherits_as_is : {entry : Entry} {rest inherited : List Entry} → Has by unconf_right → Inherits by rest inherited → Inherits by (entry ∷ rest) (entry ∷ inherited)
  inherits_empty : {rest inherited : List Entry} → Lacks by unconf_right → Inherits by rest inherited → Inherits by (Empty ∷ rest) (Empty ∷ inherited)
  inherits_template : {form : Template} {rest inherited : List Entry}
      → Lacks by unconf_right → Inherits by rest inherited → Inherits by (Form form ∷ rest) (Form form ∷ inherited)
  inherits_confined : {cap : Cap} {rest inherited : List Entry}
      → Lacks by unconf_right → Inherits by rest inherited
      → Inherits by (Held cap ∷ rest) (Held (record cap { rights = minus cap.rights (MODIFY + UNCONF) }) ∷ inherited)

-- ---- copies, and room

-- an entry of a copy, made through a capability with the rights `by`: what does not keep ENV is left out
pub data CopiesTo (by : ℕ) : Entry → Entry → Type 0 where
  copies_nothing : CopiesTo by Empty Empty
  copies_template : {form : Template} → Has by env_right → CopiesTo by (Form form) (Form form)
  leaves_template : {form : Template} → Lacks by env_right → CopiesTo by (Form form) Empty
  copies_capability : {cap : Cap} {rights : ℕ} → Reduction by cap.rights rights → Has rights env_right → CopiesTo by (Held cap) (Held (record cap { rights = rights }))
  leaves_capability : {cap : Cap} {rights : ℕ} → Reduction by cap.rights rights → Lacks rights env_right → CopiesTo by (Held cap) Empty

-- each entry of a list and its copy
pub data CopiesAll (by : ℕ) : List Entry → List Entry → Type 0 where
  copies_none : CopiesAll by [] []
  copies_more : {entry copy : Entry} {rest copies : List Entry} → CopiesTo by entry copy → CopiesAll by rest copies → CopiesAll by (entry ∷ rest) (copy ∷ copies)

-- the objects that stay where one more is made
pub data MakesRoom (s : State) : State → Type 0 where
  already : length s.objects < object_limit → MakesRoom s s
  collected : object_limit ≤ length s.objects → length (rooted_objects s) < object_limit → MakesRoom s (record s { objects = rooted_objects s })

-- the table is full, and stays so when it is collected
pub record IsFullTable (s : State) : Type 0 where
  pub full : object_limit ≤ length s.objects
  pub rooted : object_limit ≤ length (rooted_objects s)
