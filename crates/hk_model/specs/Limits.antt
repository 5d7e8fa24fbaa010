-- How many of each there can be. docs/RULES.md, "Limits".
use Rattle.std.specs.Prelude.{ℕ, ◌^◌}

-- objects, the kernel types counted
abbrev pub object_limit : ℕ
object_limit = 65536

-- words of an object
abbrev pub word_limit : ℕ
word_limit = 4096

-- entries of an object
abbrev pub entry_limit : ℕ
entry_limit = 256

-- slots of an incarnation
abbrev pub slot_limit : ℕ
slot_limit = 64

-- parameters of a procedure
abbrev pub param_limit : ℕ
param_limit = 8

-- arguments of a call
abbrev pub argument_limit : ℕ
argument_limit = 8

-- indices of a path
abbrev pub path_limit : ℕ
path_limit = 8

-- what each index of a path is below, and each slot that a call can name
abbrev pub index_bound : ℕ
index_bound = 65536

abbrev pub slot_bound : ℕ
slot_bound = 256

-- what each step that a refusal tells is below
abbrev pub step_bound : ℕ
step_bound = 256

-- what each word of an object and each register is below, and each number of an incarnation
abbrev pub word_bound : ℕ
word_bound = 2 ^ 32

abbrev pub inc_bound : ℕ
inc_bound = 2 ^ 64

-- registers of a frame
abbrev pub register_limit : ℕ
register_limit = 8

-- incarnations of a process, the base counted
abbrev pub depth_limit : ℕ
depth_limit = 64

-- tokens of a semaphore
abbrev pub token_limit : ℕ
token_limit = 65535

-- codes, and the instructions of a code
abbrev pub code_limit : ℕ
code_limit = 4096

-- processes
abbrev pub process_limit : ℕ
process_limit = 256

-- processors
abbrev pub cpu_limit : ℕ
cpu_limit = 16

-- local instructions between two kernel calls
abbrev pub local_limit : ℕ
local_limit = 10000

-- the largest limit on events, and the one of a script that names none
abbrev pub event_limit : ℕ
event_limit = 1000000

abbrev pub usual_limit : ℕ
usual_limit = 10000

-- bytes of a line of a script, without its line feed
abbrev pub line_bytes : ℕ
line_bytes = 1000

-- bytes of a script, and of a record
abbrev pub script_bytes : ℕ
script_bytes = 1048576

abbrev pub record_bytes : ℕ
record_bytes = 536870912
