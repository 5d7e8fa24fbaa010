use Rattle.std.proofs.Common.{◌≡◌, ◌++◌, take, map, string_bytes}
use Rattle.std.specs.List.{join_with_byte}
use denote.Text.{Utf8}
use denote.Shadow.{shadow}
use Rattle.hk_format.specs.Pieces.{spell_index}
use Rattle.hk_print.proofs.Joined.{separator}
use Rattle.hk_print.proofs.operands.RouteAsPiece.write_next.Given as goal

abbrev pub invariant-loop-index : goal.invariant-loop-index
invariant-loop-index l = record {
  ascii : shadow (Utf8 l.separator);
  text : string_bytes l.out ≡ string_bytes l.initial.out ++ join_with_byte 46 (map spell_index (take l.index-index l.index-items));
  before : l.separator ≡ separator 46 (take l.index-index l.index-items);
}
