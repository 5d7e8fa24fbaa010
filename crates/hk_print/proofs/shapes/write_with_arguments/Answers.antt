use Rattle.std.proofs.Common.{arith}
use Rattle.std.proofs.lemmas.Grind.{common_steps}
use Rattle.hk_format.specs.Pieces.{spell}
use Rattle.hk_print.proofs.Arguments.{slots_spelled}
use Rattle.hk_print.proofs.shapes.write_with_arguments.Goals as goal

pub returns : goal.returns
returns g c = grind (arith, common_steps, slots_spelled (spell (g.A.AsPiece.piece c.args.of.now)) c.args.args.now c.args.into.now)
