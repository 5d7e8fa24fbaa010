-- The JSON value of a world, in the words of its script: what an item says is that of the canonical script, and here it has keys, which
-- rise. docs/FORMATS.md, "Worlds as JSON".
use Rattle.std.specs.Prelude.{ℕ, List, map, codes}
use Rattle.serde_json.specs.Data.{Data, null, number, string, array, object, unsigned, member, no_members}
use Rattle.serde_json.specs.View.{items_of}
use Rattle.hk_model.specs.declared.entries.Entry.{Entry}
use Rattle.hk_model.specs.declared.entries.Param.{Param}
use Rattle.hk_model.specs.declared.instructions.Instr.{Instr}
use Rattle.hk_model.specs.declared.world.Born.{Born}
use Rattle.hk_model.specs.declared.world.Code.{Code}
use Rattle.hk_model.specs.declared.world.Kind.{Kind}
use Rattle.hk_model.specs.declared.world.Kind.TheVariants as kind
use Rattle.hk_model.specs.declared.world.Task.{Task}
use Rattle.hk_model.specs.WorldValue.{WorldValue}
use Rattle.hk_format.specs.declared.syntax.Body.{Body}
use Rattle.hk_format.specs.declared.syntax.Body.TheVariants.{WordsAre, EmptyEntry, CapEntry, AmplifyEntry, CreateEntry, ParamIs, LabelIs, StepIs}
use Rattle.hk_format.specs.Texts.{spell_line}
use Rattle.hk_format.specs.Spelling.{written_pieces}
use Rattle.hk_format.specs.Names.{Names, spoken, object_text, code_text}
use Rattle.hk_format.specs.Canonical.{entry_body, param_body, written_of}

-- the value of a list, by the value of each
abbrev pub list_value : {A : Type 0} → (A → Data) → List A → Data
list_value value xs = array (items_of (map value xs))

-- a number
abbrev pub number_value : ℕ → Data
number_value n = number (unsigned n)

-- an object of two keys
abbrev pub two : List ℕ → Data → List ℕ → Data → Data
two key value next other = object (member key value (member next other no_members))

-- an object of three keys
abbrev pub three : List ℕ → Data → List ℕ → Data → List ℕ → Data → Data
three key value next other last third = object (member key value (member next other (member last third no_members)))

-- a line inside an item: an entry, a parameter or an instruction. Words stand in a list of their own, and jumps name their labels.
abbrev pub body_value : Body → Data
body_value (WordsAre words) = null
body_value EmptyEntry = null
body_value (CapEntry held rights) = two (codes "cap") (string held) (codes "rights") (string rights)
body_value (AmplifyEntry kind check give) = three (codes "amplify") (string kind) (codes "check") (string check) (codes "give") (string give)
body_value (CreateEntry of give) = two (codes "create") (string of) (codes "give") (string give)
body_value (ParamIs kind check give) = three (codes "check") (string check) (codes "give") (string give) (codes "of") (string kind)
body_value (LabelIs label) = null
body_value (StepIs step) = string (spell_line (written_pieces step))

-- an entry of an object or a process
abbrev pub entry_value : Names → Entry → Data
entry_value names entry = body_value (entry_body names entry)

-- a parameter of a procedure
abbrev pub param_value : Names → Param → Data
param_value names param = body_value (param_body names param)

-- an instruction
abbrev pub step_value : Instr → Data
step_value instr = body_value (StepIs (written_of instr))

-- an object of this label, by its kind
abbrev pub kind_value : Names → List ℕ → Kind → Data
kind_value names label kind.TypeObject = two (codes "kind") (string (codes "type")) (codes "name") (string label)
kind_value names label (kind.Plain of words entries) =
    object (member (codes "entries") (list_value (entry_value names) entries)
    (member (codes "kind") (string (codes "object"))
    (member (codes "name") (string label)
    (member (codes "type") (string (object_text names of))
    (member (codes "words") (list_value number_value words) no_members)))))
kind_value names label (kind.Semaphore count) =
    three (codes "count") (number_value count) (codes "kind") (string (codes "semaphore")) (codes "name") (string label)
kind_value names label (kind.Procedure code params entries) =
    object (member (codes "code") (string (code_text names code))
    (member (codes "entries") (list_value (entry_value names) entries)
    (member (codes "kind") (string (codes "procedure"))
    (member (codes "name") (string label)
    (member (codes "params") (list_value (param_value names) params) no_members)))))

-- an object
abbrev pub object_value : Names → Born → Data
object_value names born = kind_value names born.label born.kind

-- a code
abbrev pub code_value : Code → Data
code_value code = two (codes "name") (string code.label) (codes "steps") (list_value step_value code.steps)

-- a process
abbrev pub task_value : Names → Task → Data
task_value names task =
    three (codes "code") (string (code_text names task.code)) (codes "entries") (list_value (entry_value names) task.slots) (codes "name") (string task.label)

-- the value of a world
abbrev pub value : WorldValue → Data
value w =
    object (member (codes "codes") (list_value code_value w.codes)
    (member (codes "limit") (number_value w.limit)
    (member (codes "objects") (list_value (object_value (spoken w)) w.objects)
    (member (codes "processes") (list_value (task_value (spoken w)) w.tasks) no_members))))
