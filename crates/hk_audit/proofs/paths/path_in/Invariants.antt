use Rattle.std.proofs.Common.{◌≡◌, ◌≤◌, ◌++◌, ◌==◌, length, map, take}
use Rattle.std.specs.List.{list_all, slice_split}
use Rattle.hk_format.specs.Pieces.{value}
use Rattle.hk_audit.specs.Left.{texts}
use Rattle.hk_audit.specs.TextPieces.{is_index_numeral}
use Rattle.hk_audit.proofs.paths.path_in.Given as goal

abbrev pub invariant-loop-part : goal.invariant-loop-part
invariant-loop-part l = record {
  few : l.count ≤ 8;
  room : length l.indices ≡ 8;
  values : take l.count l.indices ++ map value (texts l.parts) ≡ map value (slice_split (λ b. b == 46) l.text);
  good : list_all is_index_numeral (texts l.parts) ≡ list_all is_index_numeral (slice_split (λ b. b == 46) l.text);
}

abbrev pub decreases-loop-part : goal.decreases-loop-part
decreases-loop-part l = length (texts l.parts)
