use Rattle.std.proofs.Common.{refl}
use Rattle.hk_rights.specs.Rights.{right_table}
use Rattle.hk_rights.proofs.word.RightsWordFlags.flags.Goals as goal

pub returns : goal.returns
unfolding right_table
returns c = λ _. refl
