-- Numbers without leading zeros. docs/FORMATS.md, "Audit lines and records" and "Statuses and outputs".
use Rattle.std.specs.Prelude.{ℕ, ◌==◌, Bool, not, ◌&&◌, ◌||◌, List, length, Option, Some, None, if◌then◌else◌, nat_lt}
use Rattle.hk_model.specs.Labels.{first}
use Rattle.hk_format.specs.Pieces.{is_number, value}
use Rattle.hk_model.specs.Limits.{inc_bound}

-- a number without a leading zero
abbrev pub is_numeral : List ℕ → Bool
is_numeral t = is_number t && (not (first t == 48) || length t == 1)

-- the number that a text spells, below 2 ^ 64
abbrev pub numeral_of : List ℕ → Option ℕ
numeral_of t = if is_numeral t && nat_lt (value t) inc_bound then Some (value t) else None
