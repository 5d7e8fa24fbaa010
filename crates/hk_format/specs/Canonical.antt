-- A world as items, and its canonical script. docs/FORMATS.md, "Canonical script".
use Rattle.std.specs.Prelude.{ℕ, ◌+◌, ◌==◌, Bool, false, List, [], ◌∷◌, ◌++◌, length, Option, if◌then◌else◌, nat_le, map}
use Rattle.std.specs.List.{list_any, onto_first}
use Rattle.std.specs.Fmt.{decimal}
use Rattle.hk_model.specs.declared.names.Name.{Name}
use Rattle.hk_model.specs.declared.entries.Entry.{Entry}
use Rattle.hk_model.specs.declared.entries.Making.{Making}
use Rattle.hk_model.specs.declared.entries.Making.TheVariants as making
use Rattle.hk_model.specs.declared.entries.Param.{Param}
use Rattle.hk_model.specs.declared.instructions.Instr.{Instr}
use Rattle.hk_model.specs.declared.instructions.Instr.TheVariants as instr
use Rattle.hk_format.specs.declared.syntax.MakingText.{MakingText}
use Rattle.hk_format.specs.declared.syntax.MakingText.TheVariants as written_making
use Rattle.hk_format.specs.declared.syntax.Written.{Written}
use Rattle.hk_format.specs.declared.syntax.Written.TheVariants as written
use Rattle.hk_format.specs.declared.syntax.Head.{Head}
use Rattle.hk_format.specs.declared.syntax.Head.TheVariants.{LimitIs, TypeIs, ObjectIs, SemaphoreIs, ProcedureIs, CodeIs, ProcessIs}
use Rattle.hk_format.specs.declared.syntax.Body.{Body}
use Rattle.hk_format.specs.declared.syntax.Body.TheVariants.{WordsAre, LabelIs, StepIs}
use Rattle.hk_format.specs.declared.syntax.Part.{Part}
use Rattle.hk_format.specs.declared.syntax.Item.{Item}
use Rattle.hk_model.specs.declared.world.Born.{Born}
use Rattle.hk_model.specs.declared.world.Code.{Code}
use Rattle.hk_model.specs.declared.world.Kind.{Kind}
use Rattle.hk_model.specs.declared.world.Kind.TheVariants as kind
use Rattle.hk_model.specs.declared.world.Task.{Task}
use Rattle.hk_model.specs.Limits.{usual_limit, line_bytes}
use Rattle.hk_model.specs.WorldValue.{WorldValue}
use Rattle.hk_format.specs.RightsTexts.{rights_text}
use Rattle.hk_format.specs.Names.{Names, spoken, object_text, code_text}
use Rattle.hk_format.specs.EntryTexts.{kind_spelled, entry_spelled, param_spelled}
use Rattle.hk_format.specs.Texts.{spell_lines}
use Rattle.hk_format.specs.Spelling.{script_lines}

-- a type, or `any`
abbrev pub kind_text : Names → Option Name → List ℕ
kind_text names of = kind_spelled (object_text names) of

-- lines and items, which are given no numbers here

-- a line inside an item
abbrev pub part : Body → Part
part body = record { line = 0; body = body }

-- an item with these lines inside
abbrev pub item : Head → List Part → Item
item head parts = record { line = 0; head = head; parts = parts }

-- the line of an entry
abbrev pub entry_body : Names → Entry → Body
entry_body names entry = entry_spelled (object_text names) entry

-- the lines of entries
abbrev pub entry_parts : Names → List Entry → List Part
entry_parts s entries = map (λ (e : Entry). part (entry_body s e)) entries

-- the line of a parameter
abbrev pub param_body : Names → Param → Body
param_body names param = param_spelled (object_text names) param

-- the lines of parameters
abbrev pub param_parts : Names → List Param → List Part
param_parts s params = map (λ (p : Param). part (param_body s p)) params

-- the bytes of `words`
abbrev pub words_bytes : ℕ
words_bytes = 5

-- the bytes of a number, and of the space before it
abbrev pub number_bytes : ℕ → ℕ
number_bytes word = 1 + length (decimal word)

-- a word that ends its line at this byte: on that line where it fits, else on the next; the rest goes on behind it
abbrev pub fitted : ℕ → ℕ → (ℕ → List (List ℕ)) → List (List ℕ)
fitted word end rest =
    if nat_le end line_bytes then onto_first word (rest end)
    else [] ∷ onto_first word (rest (words_bytes + number_bytes word))

-- the words, cut into the lines that they stand on, the first of which has so many bytes already
abbrev pub words_from : ℕ → List ℕ → List (List ℕ)
words_from used [] = [] ∷ []
words_from used (word ∷ words) = fitted word (used + number_bytes word) (λ end. words_from end words)

-- as few lines as keep each within its length, filled from the first
abbrev pub word_lines : List ℕ → List (List ℕ)
word_lines [] = []
word_lines (word ∷ words) = words_from words_bytes (word ∷ words)

-- the `words` lines
abbrev pub word_parts : List ℕ → List Part
word_parts words = map (λ line. part (WordsAre line)) (word_lines words)

-- the label of an instruction: `l` and its number
abbrev pub label_text : ℕ → List ℕ
label_text n = 108 ∷ decimal n

-- the kind of template that an instruction makes, with its rights in canonical spelling
abbrev pub making_text : Making → MakingText
making_text (making.Amplify check give) = written_making.Amplify (rights_text check) (rights_text give)
making_text (making.Create give) = written_making.Create (rights_text give)

-- an instruction as it is written
abbrev pub written_of : Instr → Written
written_of (instr.Get of at reg) = written.Get of at reg
written_of (instr.Put of at word) = written.Put of at word
written_of (instr.Add of word) = written.Add of word
written_of (instr.Length of reg) = written.Length of reg
written_of (instr.Load from into) = written.Load from into
written_of (instr.Store list at from) = written.Store list at from
written_of (instr.Append list from) = written.Append list from
written_of (instr.Erase list at) = written.Erase list at
written_of (instr.Drop slot) = written.Drop slot
written_of (instr.Restrict slot keep) = written.Restrict slot (rights_text keep)
written_of (instr.Look of reg) = written.Look of reg
written_of (instr.MakeTemplate of kind into) = written.MakeTemplate of (making_text kind) into
written_of (instr.Create by into) = written.Create by into
written_of (instr.Merge with cap into) = written.Merge with cap into
written_of (instr.Copy of into) = written.Copy of into
written_of (instr.Enter proc args into) = written.Enter proc args into
written_of (instr.Leave give) = written.Leave give
written_of (instr.P of) = written.P of
written_of (instr.V of) = written.V of
written_of instr.Yield = written.Yield
written_of (instr.SetReg reg to) = written.SetReg reg to
written_of (instr.AddReg reg by) = written.AddReg reg by
written_of (instr.Goto to) = written.Goto (label_text to)
written_of (instr.IfEq left right to) = written.IfEq left right (label_text to)
written_of (instr.IfLess left right to) = written.IfLess left right (label_text to)
written_of (instr.IfDenied to) = written.IfDenied (label_text to)

-- the instruction may go on at the instruction of this number
abbrev pub jumps_to : ℕ → Instr → Bool
jumps_to n (instr.Goto to) = to == n
jumps_to n (instr.IfEq left right to) = to == n
jumps_to n (instr.IfLess left right to) = to == n
jumps_to n (instr.IfDenied to) = to == n
jumps_to n _ = false

-- the label line of a place, where some jump of the code goes there
abbrev pub label_parts : List Instr → ℕ → List Part
label_parts all n = if list_any (jumps_to n) all then part (LabelIs (label_text n)) ∷ [] else []

-- the instructions from number n on, with the labels before them and at the end
abbrev pub code_parts : List Instr → ℕ → List Instr → List Part
code_parts all n [] = label_parts all n
code_parts all n (i ∷ is) = label_parts all n ++ part (StepIs (written_of i)) ∷ code_parts all (n + 1) is

-- an object of this label: its words stand before its entries, and its parameters too
abbrev pub kind_item : Names → List ℕ → Kind → Item
kind_item s label kind.TypeObject = item (TypeIs label) []
kind_item s label (kind.Plain of words entries) = item (ObjectIs label (object_text s of)) (word_parts words ++ entry_parts s entries)
kind_item s label (kind.Semaphore count) = item (SemaphoreIs label count) []
kind_item s label (kind.Procedure code params entries) = item (ProcedureIs label (code_text s code)) (param_parts s params ++ entry_parts s entries)

-- the item of an object
abbrev pub object_item : Names → Born → Item
object_item s born = kind_item s born.label born.kind

-- the item of a code
abbrev pub code_item : Code → Item
code_item code = item (CodeIs code.label) (code_parts code.steps 0 code.steps)

-- the item of a process
abbrev pub task_item : Names → Task → Item
task_item s task = item (ProcessIs task.label (code_text s task.code)) (entry_parts s task.slots)

-- the limit, where it is not the usual one
abbrev pub limit_items : ℕ → List Item
limit_items n = if n == usual_limit then [] else item (LimitIs n) [] ∷ []

-- the items of a world: its limit, its objects, its codes, its processes, each in the order of their numbers
abbrev pub syntax_of : WorldValue → List Item
syntax_of w =
    limit_items w.limit
    ++ (map (object_item (spoken w)) w.objects
    ++ (map code_item w.codes
    ++ map (task_item (spoken w)) w.tasks))

-- the canonical script of a world
unfoldable pub canon : WorldValue → List ℕ
canon w = spell_lines (script_lines (syntax_of w))
