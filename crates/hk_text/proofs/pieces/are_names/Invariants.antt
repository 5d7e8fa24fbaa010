use Rattle.std.proofs.Common.{◌≡◌, drop}
use Rattle.hk_format.specs.Pieces.{is_names, is_upper}
use Rattle.hk_text.proofs.pieces.are_names.Given as goal

abbrev pub invariant-loop-byte : goal.invariant-loop-byte
invariant-loop-byte l = is_names l.begins (drop l.byte-index l.text) ≡ is_upper l.text
