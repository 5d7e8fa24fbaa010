-- Items in form and range, whatever the lines on which they stand. docs/FORMATS.md, "Grammar".
use Rattle.std.specs.Prelude.{ℕ, ◌+◌, ◌≤◌, ◌||◌, List, [], ◌∷◌, length, IsTrue, if◌then◌else◌, codes}
use Rattle.std.specs.List.{AllByRecursion}
use Rattle.hk_format.specs.declared.syntax.MakingText.{MakingText}
use Rattle.hk_format.specs.declared.syntax.MakingText.TheVariants as making
use Rattle.hk_format.specs.declared.syntax.Written.{Written}
use Rattle.hk_format.specs.declared.syntax.Written.TheVariants as written
use Rattle.hk_format.specs.declared.syntax.Head.{Head}
use Rattle.hk_format.specs.declared.syntax.Head.TheVariants.{LimitIs, TypeIs, ObjectIs, SemaphoreIs, ProcedureIs, CodeIs, ProcessIs}
use Rattle.hk_format.specs.declared.syntax.Body.{Body}
use Rattle.hk_format.specs.declared.syntax.Body.TheVariants.{WordsAre, EmptyEntry, CapEntry, AmplifyEntry, CreateEntry, ParamIs, LabelIs, StepIs}
use Rattle.hk_format.specs.declared.syntax.Part.{Part}
use Rattle.hk_format.specs.declared.syntax.Item.{Item}
use Rattle.hk_model.specs.Labels.{is_word, is_name, same_text}
use Rattle.hk_model.specs.Limits.{event_limit, token_limit}
use Rattle.hk_model.specs.WorldValue.{IsSlot, IsSlotOrNone, IsReg, IsOperand, IsRoute, IsArguments, IsWord32}
use Rattle.hk_format.specs.Pieces.{is_upper}
use Rattle.hk_format.specs.Spelling.{has_parts}
use Rattle.hk_format.specs.Grammar.{GivenNames, nothing_seen, is_new, noted, is_new_label, noted_label, item_at, part_at}

-- the text of a code or a label
abbrev pub IsWordText : List ℕ → Type 0
IsWordText t = IsTrue (is_word t)

-- a name that a head may give
abbrev pub IsName : List ℕ → Type 0
IsName t = IsTrue (is_name t)

-- the text of a type, an object or `any`
abbrev pub IsTypeText : List ℕ → Type 0
IsTypeText t = IsTrue (is_word t || is_upper t)

-- the text of a set of rights, whose names need not exist
abbrev pub IsRightsText : List ℕ → Type 0
IsRightsText t = IsTrue (same_text t (codes "-") || is_upper t)

-- the texts of rights in the kind of a template
abbrev pub IsMakingText : MakingText → Type 0
IsMakingText (making.Amplify check give) = IsRightsText check × IsRightsText give
IsMakingText (making.Create give) = IsRightsText give

-- an instruction whose operands are in their ranges, in the order of the operands
abbrev pub IsWritten : Written → Type 0
IsWritten (written.Get of at reg) = IsRoute of × IsOperand at × IsReg reg
IsWritten (written.Put of at word) = IsRoute of × IsOperand at × IsOperand word
IsWritten (written.Add of word) = IsRoute of × IsOperand word
IsWritten (written.Length of reg) = IsRoute of × IsReg reg
IsWritten (written.Load from into) = IsRoute from × IsSlot into
IsWritten (written.Store list at from) = IsRoute list × IsOperand at × IsSlot from
IsWritten (written.Append list from) = IsRoute list × IsSlot from
IsWritten (written.Erase list at) = IsRoute list × IsOperand at
IsWritten (written.Drop slot) = IsSlot slot
IsWritten (written.Restrict slot keep) = IsSlot slot × IsRightsText keep
IsWritten (written.Look of reg) = IsRoute of × IsReg reg
IsWritten (written.MakeTemplate of kind into) = IsRoute of × IsMakingText kind × IsSlot into
IsWritten (written.Create by into) = IsRoute by × IsSlot into
IsWritten (written.Merge with cap into) = IsRoute with × IsSlot cap × IsSlot into
IsWritten (written.Copy of into) = IsRoute of × IsSlot into
IsWritten (written.Enter proc args into) = IsRoute proc × IsArguments args × IsSlot into
IsWritten (written.Leave give) = IsSlotOrNone give
IsWritten (written.P of) = IsRoute of
IsWritten (written.V of) = IsRoute of
IsWritten written.Yield = Unit {0}
IsWritten (written.SetReg reg to) = IsReg reg × IsOperand to
IsWritten (written.AddReg reg by) = IsReg reg × IsOperand by
IsWritten (written.Goto to) = IsWordText to
IsWritten (written.IfEq left right to) = IsOperand left × IsOperand right × IsWordText to
IsWritten (written.IfLess left right to) = IsOperand left × IsOperand right × IsWordText to
IsWritten (written.IfDenied to) = IsWordText to

-- a head whose names and numbers have their forms and ranges
abbrev pub IsHead : Head → Type 0
IsHead (LimitIs n) = (1 ≤ n) × (n ≤ event_limit)
IsHead (TypeIs name) = IsName name
IsHead (ObjectIs name of) = IsName name × IsTypeText of
IsHead (SemaphoreIs name count) = IsName name × (count ≤ token_limit)
IsHead (ProcedureIs name code) = IsName name × IsWordText code
IsHead (CodeIs name) = IsName name
IsHead (ProcessIs name code) = IsName name × IsWordText code

-- an entry line
abbrev pub IsEntryBody : Body → Type 0
IsEntryBody (WordsAre words) = ⊥
IsEntryBody EmptyEntry = Unit {0}
IsEntryBody (CapEntry object rights) = IsTypeText object × IsRightsText rights
IsEntryBody (AmplifyEntry kind check give) = IsTypeText kind × IsRightsText check × IsRightsText give
IsEntryBody (CreateEntry of give) = IsTypeText of × IsRightsText give
IsEntryBody (ParamIs kind check give) = ⊥
IsEntryBody (LabelIs label) = ⊥
IsEntryBody (StepIs step) = ⊥

-- one number at least
abbrev pub IsWordsLine : List ℕ → Type 0
IsWordsLine [] = ⊥
IsWordsLine (word ∷ words) = IsWord32 word × AllByRecursion IsWord32 words

-- a line of an item with this head
abbrev pub Belongs : Head → Body → Type 0
Belongs (ObjectIs name of) (WordsAre words) = IsWordsLine words
Belongs (ObjectIs name of) body = IsEntryBody body
Belongs (ProcedureIs name code) (ParamIs kind check give) = IsTypeText kind × IsRightsText check × IsRightsText give
Belongs (ProcedureIs name code) body = IsEntryBody body
Belongs (CodeIs name) (LabelIs label) = IsWordText label
Belongs (CodeIs name) (StepIs step) = IsWritten step
Belongs (CodeIs name) body = ⊥
Belongs (ProcessIs name code) body = IsEntryBody body
Belongs head body = ⊥

-- the lines of an item, behind lines that have given these labels
abbrev pub AreParts : Head → List (List ℕ) → List Part → Type 0
AreParts head labels [] = Unit {0}
AreParts head labels (p ∷ ps) = Belongs head p.body × IsTrue (is_new_label labels p.body) × AreParts head (noted_label labels p.body) ps

-- items behind others that have given these names
abbrev pub AreItems : GivenNames → List Item → Type 0
AreItems seen [] = Unit {0}
AreItems seen (i ∷ is) = IsHead i.head × IsTrue (is_new seen i.head) × AreParts i.head [] i.parts × AreItems (noted seen i.head) is

-- the items of some script, apart from the numbers of their lines
abbrev pub IsSyntax : List Item → Type 0
IsSyntax items = AreItems nothing_seen items

-- the items with the numbers of the lines that they stand on in a script without empty lines, from line n on

-- parts, from line n on
abbrev pub placed_parts : ℕ → List Part → List Part
placed_parts n [] = []
placed_parts n (p ∷ ps) = part_at n p.body ∷ placed_parts (n + 1) ps

-- an item whose head stands on line n
abbrev pub placed_item : ℕ → Item → Item
placed_item n i = item_at n i.head (if has_parts i.head then placed_parts (n + 1) i.parts else [])

-- the number of lines of an item
abbrev pub lines_taken : Item → ℕ
lines_taken i = if has_parts i.head then length i.parts + 2 else 1

-- items, from line n on
abbrev pub placed : ℕ → List Item → List Item
placed n [] = []
placed n (i ∷ is) = placed_item n i ∷ placed (n + lines_taken i) is
