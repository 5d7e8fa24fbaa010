-- The items of a script as a world, or the first line that is refused and its first cause. docs/FORMATS.md, "Loading".
use Rattle.std.specs.Prelude.{ℕ, ◌+◌, ◌==◌, Bool, true, false, not, List, [], ◌∷◌, ◌++◌, length, Option, Some, None, Result, Ok, Err, if◌then◌else◌, nat_lt, nat_le, map, codes}
use Rattle.std.specs.Prelude.{slice_index_or, option_map, min}
use Rattle.std.specs.List.{find, filter_map, position}
use Rattle.hk_model.specs.declared.names.Name.{Name}
use Rattle.hk_model.specs.declared.entries.Entry.{Entry}
use Rattle.hk_model.specs.declared.entries.Entry.TheVariants.{Empty, Held, Form}
use Rattle.hk_model.specs.declared.entries.Making.{Making}
use Rattle.hk_model.specs.declared.entries.Making.TheVariants as making
use Rattle.hk_model.specs.declared.entries.Param.{Param}
use Rattle.hk_model.specs.declared.entries.Template.TheVariants as template
use Rattle.hk_model.specs.declared.instructions.Instr.{Instr}
use Rattle.hk_model.specs.declared.instructions.Instr.TheVariants as instr
use Rattle.hk_format.specs.declared.syntax.MakingText.{MakingText}
use Rattle.hk_format.specs.declared.syntax.MakingText.TheVariants as written_making
use Rattle.hk_format.specs.declared.syntax.Written.{Written}
use Rattle.hk_format.specs.declared.syntax.Written.TheVariants as written
use Rattle.hk_format.specs.declared.syntax.Head.{Head}
use Rattle.hk_format.specs.declared.syntax.Head.TheVariants.{LimitIs, TypeIs, ObjectIs, SemaphoreIs, ProcedureIs, CodeIs, ProcessIs}
use Rattle.hk_format.specs.declared.syntax.Body.{Body}
use Rattle.hk_format.specs.declared.syntax.Body.TheVariants.{WordsAre, EmptyEntry, CapEntry, AmplifyEntry, CreateEntry, ParamIs, LabelIs, StepIs}
use Rattle.hk_format.specs.declared.syntax.Part.{Part}
use Rattle.hk_format.specs.declared.syntax.Item.{Item}
use Rattle.hk_model.specs.declared.world.Kind.{Kind}
use Rattle.hk_model.specs.declared.world.Kind.TheVariants as kind
use Rattle.hk_format.specs.declared.causes.LoadCause.{LoadCause}
use Rattle.hk_format.specs.declared.causes.LoadCause.TheVariants.{UnknownName, WrongPart, TooMany, BadRights}
use Rattle.hk_model.specs.Labels.{same_text}
use Rattle.hk_model.specs.Refusing.{◌>>=◌, ◌>>◌}
use Rattle.hk_model.specs.Limits.{object_limit, word_limit, entry_limit, slot_limit, param_limit, code_limit, process_limit, usual_limit}
use Rattle.hk_model.specs.Targets.{DATA, kernel_types, is_general}
use Rattle.hk_format.specs.RightsTexts.{rights_spelled}
use Rattle.hk_model.specs.WorldValue.{WorldValue, world_value}
use Rattle.hk_format.specs.Names.{Names, kernel_names, kernel_flags}

-- a line and its cause
abbrev pub Refused : Type 0
Refused = ℕ × LoadCause

-- nothing is refused where the test holds
abbrev pub unless : Bool → LoadCause → Result (Unit {0}) LoadCause
unless true cause = Ok tt
unless false cause = Err cause

-- what was found, or the cause
abbrev pub found : {A : Type 0} → Option A → LoadCause → Result A LoadCause
found (Some x) cause = Ok x
found None cause = Err cause

-- the names that the heads declare, wherever they stand

-- the label of an object's head
abbrev pub object_label : Head → Option (List ℕ)
object_label (TypeIs name) = Some name
object_label (ObjectIs name of) = Some name
object_label (SemaphoreIs name count) = Some name
object_label (ProcedureIs name code) = Some name
object_label _ = None

-- of an object's head: it is a type
abbrev pub is_type_head : Head → Option Bool
is_type_head (TypeIs name) = Some true
is_type_head (ObjectIs name of) = Some false
is_type_head (SemaphoreIs name count) = Some false
is_type_head (ProcedureIs name code) = Some false
is_type_head _ = None

-- the label of a code's head
abbrev pub code_label : Head → Option (List ℕ)
code_label (CodeIs name) = Some name
code_label _ = None

-- the names that these heads declare
abbrev pub names_of : List Head → Names
names_of heads = record {
  objects = kernel_names ++ filter_map object_label heads;
  types = kernel_flags ++ filter_map is_type_head heads;
  codes = filter_map code_label heads;
}

-- the number of a name: how many stand before it
abbrev pub place : List (List ℕ) → List ℕ → Option ℕ
place names t = position (same_text t) names

-- the name of this number
abbrev pub name_numbered : ℕ → Name
name_numbered n = record { 0 = n }

-- an object of any kind
abbrev pub object_named : Names → List ℕ → Result ℕ LoadCause
object_named names t = found (place names.objects t) UnknownName

-- an object that is a type
abbrev pub type_named : Names → List ℕ → Result ℕ LoadCause
type_named names t = do
  n ← object_named names t
  unless (slice_index_or names.types n false) UnknownName
  Ok n

-- the name that was found, as that of a type which is wanted
abbrev pub some_name : Result ℕ LoadCause → Result (Option Name) LoadCause
some_name named = do
  n ← named
  Ok (Some (name_numbered n))

-- a type, or `any`, which is no type
abbrev pub kind_named : Names → List ℕ → Result (Option Name) LoadCause
kind_named names t = if same_text t (codes "any") then Ok None else some_name (type_named names t)

-- a number of a code or an instruction, or the limit: where some number passes it, a line of the script is refused
abbrev pub to_limit : ℕ → ℕ
to_limit n = min n code_limit

-- the number of a code
abbrev pub code_named : Names → List ℕ → Result ℕ LoadCause
code_named names t = found (option_map to_limit (place names.codes t)) UnknownName

-- a set of rights
abbrev pub rights_named : List ℕ → Result ℕ LoadCause
rights_named t = found (rights_spelled t) BadRights

-- single lines: UnknownName and BadRights from the left

-- a capability as an entry
abbrev pub held_entry : ℕ → ℕ → Entry
held_entry n rights = Held (record { name = name_numbered n; rights = rights })

-- an entry line. No other line stands in a list.
abbrev pub entry_meant : Names → Body → Result Entry LoadCause
entry_meant names (CapEntry object rights) = do
  n ← object_named names object
  r ← rights_named rights
  Ok (held_entry n r)
entry_meant names (AmplifyEntry kind check give) = do
  of ← kind_named names kind
  c ← rights_named check
  g ← rights_named give
  Ok (Form (template.Amplify of c g))
entry_meant names (CreateEntry of give) = do
  n ← type_named names of
  g ← rights_named give
  Ok (Form (template.Create (name_numbered n) g))
entry_meant names EmptyEntry = Ok Empty
entry_meant names (WordsAre words) = Err WrongPart
entry_meant names (ParamIs kind check give) = Err WrongPart
entry_meant names (LabelIs label) = Err WrongPart
entry_meant names (StepIs step) = Err WrongPart

-- a parameter template
abbrev pub parameter : Option Name → ℕ → ℕ → Param
parameter of check give = record { of = of; check = check; give = give }

-- a parameter line
abbrev pub param_of : Names → List ℕ → List ℕ → List ℕ → Result Param LoadCause
param_of names kind check give = do
  of ← kind_named names kind
  c ← rights_named check
  g ← rights_named give
  Ok (parameter of c g)

-- the line, and then WrongPart where nothing of its kind may stand
abbrev pub permitted : {A : Type 0} → Bool → Result A LoadCause → Result A LoadCause
permitted may line = do
  x ← line
  unless may WrongPart
  Ok x

-- the line, and then TooMany where it passes a limit
abbrev pub limited : {A : Type 0} → Bool → Result A LoadCause → Result A LoadCause
limited few line = do
  x ← line
  unless few TooMany
  Ok x

-- what a line gives, put before what the lines behind it give, unless it is refused or one of them is
abbrev pub onto : {A B : Type 0} → (A → B → B) → ℕ → Result A LoadCause → Result B Refused → Result B Refused
onto put line (Err cause) rest = Err (line, cause)
onto put line (Ok x) (Err refused) = Err refused
onto put line (Ok x) (Ok xs) = Ok (put x xs)

-- the lines of an object, a procedure or a process

-- what these lines give
pub record Contents : Type 0 where
  pub words : List ℕ
  pub params : List Param
  pub entries : List Entry

-- words, parameters and entries
abbrev pub contents : List ℕ → List Param → List Entry → Contents
contents words params entries = record { words = words; params = params; entries = entries }

-- words in front
abbrev pub more_words : List ℕ → Contents → Contents
more_words words c = contents (words ++ c.words) c.params c.entries

-- a parameter in front
abbrev pub one_param : Param → Contents → Contents
one_param param c = contents c.words (param ∷ c.params) c.entries

-- an entry in front
abbrev pub one_entry : Entry → Contents → Contents
one_entry entry c = contents c.words c.params (entry ∷ c.entries)

-- how many words, parameters and entries the lines before have given
pub record Used : Type 0 where
  pub words : ℕ
  pub params : ℕ
  pub entries : ℕ

-- so many words, parameters and entries
abbrev pub used : ℕ → ℕ → ℕ → Used
used words params entries = record { words = words; params = params; entries = entries }

-- what an item has room for: whether it may have entries, and how many at most
pub record Room : Type 0 where
  pub listed : Bool
  pub entries : ℕ

-- room for so many entries, if any may stand
abbrev pub room : Bool → ℕ → Room
room listed entries = record { listed = listed; entries = entries }

-- a line before those behind it, which count on from what they are given
abbrev pub content_onto : Names → Room → Used → ℕ → Body → (Used → Result Contents Refused) → Result Contents Refused
content_onto names r u line (WordsAre words) rest =
    onto more_words line (limited (nat_le (u.words + length words) word_limit) (Ok words)) (rest (used (u.words + length words) u.params u.entries))
content_onto names r u line (ParamIs kind check give) rest =
    onto one_param line (limited (nat_lt u.params param_limit) (param_of names kind check give)) (rest (used u.words (u.params + 1) u.entries))
content_onto names r u line body rest =
    onto one_entry line (limited (nat_lt u.entries r.entries) (permitted r.listed (entry_meant names body))) (rest (used u.words u.params (u.entries + 1)))

-- what the lines give, behind lines that have given so many
abbrev pub contents_of : Names → Room → Used → List Part → Result Contents Refused
contents_of names r u [] = Ok (contents [] [] [])
contents_of names r u (p ∷ ps) = content_onto names r u p.line p.body (λ next. contents_of names r next ps)

-- the lines of a code

-- a label, and the number of the instruction behind it
pub record Label : Type 0 where
  pub text : List ℕ
  pub place : ℕ

-- a line before those behind it: a label stands at the number of the instruction that comes next
abbrev pub label_onto : ℕ → Body → (ℕ → List Label) → List Label
label_onto n (LabelIs label) rest = record { text = label; place = n } ∷ rest n
label_onto n _ rest = rest (n + 1)

-- the labels of a code's lines, before which so many instructions stand
abbrev pub labels_from : ℕ → List Part → List Label
labels_from n [] = []
labels_from n (p ∷ ps) = label_onto n p.body (λ next. labels_from next ps)

-- where a jump to this label goes
abbrev pub target : List Label → List ℕ → Result ℕ LoadCause
target labels t = found (option_map (λ (l : Label). to_limit l.place) (find (λ (l : Label). same_text t l.text) labels)) UnknownName

-- the kind of template that an instruction makes
abbrev pub making_of : MakingText → Result Making LoadCause
making_of (written_making.Amplify check give) = do
  c ← rights_named check
  g ← rights_named give
  Ok (making.Amplify c g)
making_of (written_making.Create give) = do
  g ← rights_named give
  Ok (making.Create g)

-- an instruction's line
abbrev pub instr_of : List Label → Written → Result Instr LoadCause
instr_of labels (written.Get of at reg) = Ok (instr.Get of at reg)
instr_of labels (written.Put of at word) = Ok (instr.Put of at word)
instr_of labels (written.Add of word) = Ok (instr.Add of word)
instr_of labels (written.Length of reg) = Ok (instr.Length of reg)
instr_of labels (written.Load from into) = Ok (instr.Load from into)
instr_of labels (written.Store list at from) = Ok (instr.Store list at from)
instr_of labels (written.Append list from) = Ok (instr.Append list from)
instr_of labels (written.Erase list at) = Ok (instr.Erase list at)
instr_of labels (written.Drop slot) = Ok (instr.Drop slot)
instr_of labels (written.Restrict slot keep) = do
  r ← rights_named keep
  Ok (instr.Restrict slot r)
instr_of labels (written.Look of reg) = Ok (instr.Look of reg)
instr_of labels (written.MakeTemplate of text into) = do
  m ← making_of text
  Ok (instr.MakeTemplate of m into)
instr_of labels (written.Create by into) = Ok (instr.Create by into)
instr_of labels (written.Merge with cap into) = Ok (instr.Merge with cap into)
instr_of labels (written.Copy of into) = Ok (instr.Copy of into)
instr_of labels (written.Enter proc args into) = Ok (instr.Enter proc args into)
instr_of labels (written.Leave give) = Ok (instr.Leave give)
instr_of labels (written.P of) = Ok (instr.P of)
instr_of labels (written.V of) = Ok (instr.V of)
instr_of labels written.Yield = Ok instr.Yield
instr_of labels (written.SetReg reg to) = Ok (instr.SetReg reg to)
instr_of labels (written.AddReg reg by) = Ok (instr.AddReg reg by)
instr_of labels (written.Goto to) = do
  n ← target labels to
  Ok (instr.Goto n)
instr_of labels (written.IfEq left right to) = do
  n ← target labels to
  Ok (instr.IfEq left right n)
instr_of labels (written.IfLess left right to) = do
  n ← target labels to
  Ok (instr.IfLess left right n)
instr_of labels (written.IfDenied to) = do
  n ← target labels to
  Ok (instr.IfDenied n)

-- an item in front of a list
abbrev pub front : {A : Type 0} → A → List A → List A
front x xs = x ∷ xs

-- a label is no instruction, and does not count
abbrev pub instr_onto : List Label → ℕ → ℕ → Body → (ℕ → Result (List Instr) Refused) → Result (List Instr) Refused
instr_onto labels n line (StepIs step) rest = onto front line (limited (nat_lt n code_limit) (instr_of labels step)) (rest (n + 1))
instr_onto labels n line _ rest = rest n

-- the instructions of a code's lines, before which so many stand
abbrev pub instrs_of : List Label → ℕ → List Part → Result (List Instr) Refused
instrs_of labels n [] = Ok []
instrs_of labels n (p ∷ ps) = instr_onto labels n p.line p.body (λ next. instrs_of labels next ps)

-- items

-- how many objects, codes and processes the items before have given
pub record Counts : Type 0 where
  pub objects : ℕ
  pub codes : ℕ
  pub tasks : ℕ

-- so many objects, codes and processes
abbrev pub counts : ℕ → ℕ → ℕ → Counts
counts objects codes tasks = record { objects = objects; codes = codes; tasks = tasks }

-- the item with this head counted too
abbrev pub counted : Counts → Head → Counts
counted n (LimitIs limit) = n
counted n (CodeIs name) = counts n.objects (n.codes + 1) n.tasks
counted n (ProcessIs name code) = counts n.objects n.codes (n.tasks + 1)
counted n _ = counts (n.objects + 1) n.codes n.tasks

-- there is room for one object more, the kernel types counted
abbrev pub object_fits : Counts → Bool
object_fits n = nat_lt (kernel_types + n.objects) object_limit

-- what an item adds in front of a world

-- a limit on events
abbrev pub with_limit : ℕ → WorldValue → WorldValue
with_limit n w = world_value n w.objects w.codes w.tasks

-- an object
abbrev pub with_object : List ℕ → Kind → WorldValue → WorldValue
with_object label kind w = world_value w.limit (record { label = label; kind = kind } ∷ w.objects) w.codes w.tasks

-- a code
abbrev pub with_code : List ℕ → List Instr → WorldValue → WorldValue
with_code label steps w = world_value w.limit w.objects (record { label = label; steps = steps } ∷ w.codes) w.tasks

-- a process
abbrev pub with_task : List ℕ → ℕ → List Entry → WorldValue → WorldValue
with_task label code slots w = world_value w.limit w.objects w.codes (record { label = label; code = code; slots = slots } ∷ w.tasks)

-- a line of its own
abbrev pub at_line : {A : Type 0} → ℕ → Result A LoadCause → Result A Refused
at_line line (Ok x) = Ok x
at_line line (Err cause) = Err (line, cause)

-- the type of an object: DATA, UNIVERSAL or a type of the script
abbrev pub plain_type : Names → List ℕ → Result ℕ LoadCause
plain_type names of = do
  n ← type_named names of
  unless (is_general (name_numbered n)) WrongPart
  Ok n

-- the item with this head and these lines behind it
abbrev pub head_loaded : Names → Counts → ℕ → List Part → Head → Result (WorldValue → WorldValue) Refused
head_loaded names n line parts (LimitIs limit) = Ok (with_limit limit)
head_loaded names n line parts (TypeIs name) = do
  at_line line (unless (object_fits n) TooMany)
  Ok (with_object name kind.TypeObject)
head_loaded names n line parts (ObjectIs name of) = do
  t ← at_line line (limited (object_fits n) (plain_type names of))
  c ← contents_of names (room (not (t == DATA)) entry_limit) (used 0 0 0) parts
  Ok (with_object name (kind.Plain (name_numbered t) c.words c.entries))
head_loaded names n line parts (SemaphoreIs name count) = do
  at_line line (unless (object_fits n) TooMany)
  Ok (with_object name (kind.Semaphore count))
head_loaded names n line parts (ProcedureIs name code) = do
  k ← at_line line (limited (object_fits n) (code_named names code))
  c ← contents_of names (room true entry_limit) (used 0 0 0) parts
  Ok (with_object name (kind.Procedure k c.params c.entries))
head_loaded names n line parts (CodeIs name) = do
  at_line line (unless (nat_lt n.codes code_limit) TooMany)
  steps ← instrs_of (labels_from 0 parts) 0 parts
  Ok (with_code name steps)
head_loaded names n line parts (ProcessIs name code) = do
  k ← at_line line (limited (nat_lt n.tasks process_limit) (code_named names code))
  c ← contents_of names (room true slot_limit) (used 0 0 0) parts
  Ok (with_task name k c.entries)

-- what an item adds to a world
abbrev pub item_of : Names → Counts → Item → Result (WorldValue → WorldValue) Refused
item_of names n i = head_loaded names n i.line i.parts i.head

-- an item before those behind it, unless it is refused or one of them is
abbrev pub put_item : Result (WorldValue → WorldValue) Refused → Result WorldValue Refused → Result WorldValue Refused
put_item (Err refused) rest = Err refused
put_item (Ok put) (Err refused) = Err refused
put_item (Ok put) (Ok w) = Ok (put w)

-- the items in order; a world without any has the usual limit
abbrev pub items_of : Names → Counts → List Item → Result WorldValue Refused
items_of names n [] = Ok (world_value usual_limit [] [] [])
items_of names n (i ∷ is) = put_item (item_of names n i) (items_of names (counted n i.head) is)

-- the world of the items of a script
abbrev pub load : List Item → Result WorldValue Refused
load items = items_of (names_of (map (λ (i : Item). i.head) items)) (counts 0 0 0) items
