use Rattle.std.proofs.Common.{◌≡◌, ◌≤◌, ◌^◌, cond, drop, min, Some, None}
use Rattle.std.specs.List.{list_all}
use Rattle.hk_model.specs.Labels.{is_digit}
use Rattle.hk_model.specs.Limits.{word_bound}
use Rattle.hk_format.specs.Pieces.{value}
use Rattle.hk_text.proofs.Digits.{digits_on}
use Rattle.hk_text.proofs.pieces.digits.Given as goal

abbrev pub invariant-loop-byte : goal.invariant-loop-byte
invariant-loop-byte l = record {
  low : l.n ≤ 2 ^ 32;
  rest : digits_on l.n (drop l.byte-index l.text) ≡ cond (list_all is_digit l.text) (Some (min (value l.text) word_bound)) None;
}
