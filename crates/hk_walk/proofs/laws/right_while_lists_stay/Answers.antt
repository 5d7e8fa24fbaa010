use Rattle.hk_walk.proofs.Kept.{right_same}
use Rattle.hk_walk.proofs.laws.right_while_lists_stay.Goals as goal

pub returns : goal.returns
returns c = λ before after pairs same right. right_same before after same pairs right
