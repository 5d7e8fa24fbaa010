use Rattle.hk_walk.proofs.Kept.{right_grown}
use Rattle.hk_walk.proofs.laws.right_while_lists_appear.Goals as goal

pub returns : goal.returns
returns c = λ before after pairs grown right. right_grown before after grown pairs right
