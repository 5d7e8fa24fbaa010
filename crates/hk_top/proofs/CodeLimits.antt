-- The constants of the code are the limits of the definitions, so that to change one alone breaks the proof.
use Rattle.std.specs.Prelude.{◌≡◌, refl}
use Rattle.hk_top.specs.declared.words.TheConstants.{TRACE_LIMIT, BACK_LIMIT, JSON_BYTES}
use Rattle.hk_top.specs.Words.{trace_limit, back_limit, json_bytes}

trace_limit_is : TRACE_LIMIT ≡ trace_limit
trace_limit_is = refl

back_limit_is : BACK_LIMIT ≡ back_limit
back_limit_is = refl

json_bytes_is : JSON_BYTES ≡ json_bytes
json_bytes_is = refl
