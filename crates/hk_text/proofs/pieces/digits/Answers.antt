use Rattle.std.proofs.Common.{arith}
use Rattle.hk_text.proofs.Digits.{digits_are}
use Rattle.hk_text.proofs.pieces.digits.Goals as goal

pub loop-byte-init : goal.loop-byte-init
loop-byte-init c = record { low = omega arith; rest = digits_are c.args.text.now }
