-- What the items of a script give, one after another. docs/FORMATS.md, "Loading".
use Rattle.std.specs.Prelude.{ℕ, ◌==◌, not, List, [], ◌∷◌, ◌++◌, length, Option, Some, None, Result, Ok, Err, nat_lt, true}
use Rattle.hk_format.specs.declared.causes.LoadCause.TheVariants.{TooMany}
use Rattle.hk_format.specs.declared.syntax.Head.{Head}
use Rattle.hk_format.specs.declared.syntax.Head.TheVariants.{LimitIs, TypeIs, ObjectIs, SemaphoreIs, ProcedureIs, CodeIs, ProcessIs}
use Rattle.hk_format.specs.declared.syntax.Part.{Part}
use Rattle.hk_model.specs.declared.entries.Entry.{Entry}
use Rattle.hk_model.specs.declared.instructions.Instr.{Instr}
use Rattle.hk_model.specs.declared.world.Born.{Born}
use Rattle.hk_model.specs.declared.world.Code.{Code}
use Rattle.hk_model.specs.declared.world.Task.{Task}
use Rattle.hk_model.specs.declared.world.Kind.{Kind}
use Rattle.hk_model.specs.declared.world.Kind.TheVariants as kind
use Rattle.hk_model.specs.Limits.{entry_limit, slot_limit, code_limit, process_limit, usual_limit}
use Rattle.hk_model.specs.Targets.{DATA}
use Rattle.hk_model.specs.WorldValue.{WorldValue, world_value}
use Rattle.hk_format.specs.Names.{Names}
use Rattle.hk_format.specs.Loading.{Refused, Counts, counts, object_fits, at_line, unless, limited, plain_type, code_named, name_numbered, room, used, contents_of, labels_from}
use Rattle.hk_format.specs.Loading.{instrs_of}
use Rattle.hk_model.specs.Refusing.{◌>>=◌, ◌>>◌}
use Rattle.hk_load.specs.declared.items.Loaded.{Loaded}

-- what items have given
pub record Built : Type 0 where
  pub limit : Option ℕ
  pub objects : List Born
  pub codes : List Code
  pub tasks : List Task

abbrev pub built : Option ℕ → List Born → List Code → List Task → Built
built limit objects codes tasks = record { limit = limit; objects = objects; codes = codes; tasks = tasks }

-- the same by what is kept of it
abbrev pub built_of : Loaded → Built
built_of l = built l.limit l.objects l.codes l.tasks

-- how many that are
abbrev pub counts_of : Built → Counts
counts_of b = counts (length b.objects) (length b.codes) (length b.tasks)

-- the first limit, if there is one
abbrev pub limit_or : Option ℕ → ℕ → ℕ
limit_or (Some limit) other = limit
limit_or None other = other

-- the world of what was given
abbrev pub finished : Built → WorldValue
finished b = world_value (limit_or b.limit usual_limit) b.objects b.codes b.tasks

-- a limit, if there is none yet
abbrev pub with_limit : Built → ℕ → Built
with_limit b limit = built (Some (limit_or b.limit limit)) b.objects b.codes b.tasks

-- an object more
abbrev pub with_born : Built → List ℕ → Kind → Built
with_born b label kind = built b.limit (b.objects ++ record { label = label; kind = kind } ∷ []) b.codes b.tasks

-- a code more
abbrev pub with_code : Built → List ℕ → List Instr → Built
with_code b label steps = built b.limit b.objects (b.codes ++ record { label = label; steps = steps } ∷ []) b.tasks

-- a process more
abbrev pub with_task : Built → List ℕ → ℕ → List Entry → Built
with_task b label code slots = built b.limit b.objects b.codes (b.tasks ++ record { label = label; code = code; slots = slots } ∷ [])

-- an object of one line, or TooMany
abbrev pub single_added : Built → ℕ → List ℕ → Kind → Result Built Refused
single_added b line name kind = do
  at_line line (unless (object_fits (counts_of b)) TooMany)
  Ok (with_born b name kind)

-- the item with this head and these lines behind it
abbrev pub added : Names → Built → ℕ → List Part → Head → Result Built Refused
added names b line parts (LimitIs limit) = Ok (with_limit b limit)
added names b line parts (TypeIs name) = single_added b line name kind.TypeObject
added names b line parts (ObjectIs name of) = do
  t ← at_line line (limited (object_fits (counts_of b)) (plain_type names of))
  c ← contents_of names (room (not (t == DATA)) entry_limit) (used 0 0 0) parts
  Ok (with_born b name (kind.Plain (name_numbered t) c.words c.entries))
added names b line parts (SemaphoreIs name count) = single_added b line name (kind.Semaphore count)
added names b line parts (ProcedureIs name code) = do
  k ← at_line line (limited (object_fits (counts_of b)) (code_named names code))
  c ← contents_of names (room true entry_limit) (used 0 0 0) parts
  Ok (with_born b name (kind.Procedure k c.params c.entries))
added names b line parts (CodeIs name) = do
  at_line line (unless (nat_lt (length b.codes) code_limit) TooMany)
  steps ← instrs_of (labels_from 0 parts) 0 parts
  Ok (with_code b name steps)
added names b line parts (ProcessIs name code) = do
  k ← at_line line (limited (nat_lt (length b.tasks) process_limit) (code_named names code))
  c ← contents_of names (room true slot_limit) (used 0 0 0) parts
  Ok (with_task b name k c.entries)

-- what earlier items gave, before what later ones give
abbrev pub after : Built → Result WorldValue Refused → Result WorldValue Refused
after b (Ok w) = Ok (world_value (limit_or b.limit w.limit) (b.objects ++ w.objects) (b.codes ++ w.codes) (b.tasks ++ w.tasks))
after b (Err refused) = Err refused
