-- The constants of the code are the limits of the definitions, so that to change one alone breaks the proof.
use Rattle.std.specs.Prelude.{◌≡◌, refl}
use Rattle.hk_model.specs.declared.limits.TheConstants.{OBJECT_LIMIT, WORD_LIMIT, ENTRY_LIMIT, SLOT_LIMIT, PARAM_LIMIT, ARGUMENT_LIMIT, PATH_LIMIT, INDEX_BOUND}
use Rattle.hk_model.specs.declared.limits.TheConstants.{SLOT_BOUND, STEP_BOUND, REGISTER_LIMIT, DEPTH_LIMIT, TOKEN_LIMIT, CODE_LIMIT, PROCESS_LIMIT, CPU_LIMIT}
use Rattle.hk_model.specs.declared.limits.TheConstants.{LOCAL_LIMIT, EVENT_LIMIT, USUAL_LIMIT, LINE_BYTES, SCRIPT_BYTES, RECORD_BYTES}
use Rattle.hk_model.specs.Limits.{object_limit, word_limit, entry_limit, slot_limit, param_limit, argument_limit, path_limit, index_bound}
use Rattle.hk_model.specs.Limits.{slot_bound, step_bound, register_limit, depth_limit, token_limit, code_limit, process_limit, cpu_limit}
use Rattle.hk_model.specs.Limits.{local_limit, event_limit, usual_limit, line_bytes, script_bytes, record_bytes}

object_limit_is : OBJECT_LIMIT ≡ object_limit
object_limit_is = refl

word_limit_is : WORD_LIMIT ≡ word_limit
word_limit_is = refl

entry_limit_is : ENTRY_LIMIT ≡ entry_limit
entry_limit_is = refl

slot_limit_is : SLOT_LIMIT ≡ slot_limit
slot_limit_is = refl

param_limit_is : PARAM_LIMIT ≡ param_limit
param_limit_is = refl

argument_limit_is : ARGUMENT_LIMIT ≡ argument_limit
argument_limit_is = refl

path_limit_is : PATH_LIMIT ≡ path_limit
path_limit_is = refl

index_bound_is : INDEX_BOUND ≡ index_bound
index_bound_is = refl

slot_bound_is : SLOT_BOUND ≡ slot_bound
slot_bound_is = refl

step_bound_is : STEP_BOUND ≡ step_bound
step_bound_is = refl

register_limit_is : REGISTER_LIMIT ≡ register_limit
register_limit_is = refl

depth_limit_is : DEPTH_LIMIT ≡ depth_limit
depth_limit_is = refl

token_limit_is : TOKEN_LIMIT ≡ token_limit
token_limit_is = refl

code_limit_is : CODE_LIMIT ≡ code_limit
code_limit_is = refl

process_limit_is : PROCESS_LIMIT ≡ process_limit
process_limit_is = refl

cpu_limit_is : CPU_LIMIT ≡ cpu_limit
cpu_limit_is = refl

local_limit_is : LOCAL_LIMIT ≡ local_limit
local_limit_is = refl

event_limit_is : EVENT_LIMIT ≡ event_limit
event_limit_is = refl

usual_limit_is : USUAL_LIMIT ≡ usual_limit
usual_limit_is = refl

line_bytes_is : LINE_BYTES ≡ line_bytes
line_bytes_is = refl

script_bytes_is : SCRIPT_BYTES ≡ script_bytes
script_bytes_is = refl

record_bytes_is : RECORD_BYTES ≡ record_bytes
record_bytes_is = refl
