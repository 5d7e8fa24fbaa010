use Rattle.std.proofs.Common.{string_bytes, rules}
use Rattle.hk_print.proofs.Indices.{next_path_whole}
use Rattle.hk_print.proofs.operands.PathAsPiece.write_next.Goals as goal

pub returns : goal.returns
returns c =
    let same = c.as_slice-indices.ensures in
    next_path_whole c.args.self.now (string_bytes c.args.out.now) (string_bytes c.write_next_operand.new.out) _ c.requires.0 (search rules) (rw (← same) (search rules))
