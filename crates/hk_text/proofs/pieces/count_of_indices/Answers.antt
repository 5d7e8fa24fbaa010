use Rattle.std.proofs.Common.{rules, tests, eqb}
use Rattle.std.proofs.lemmas.Iterator.Splits.{YieldsList-from_slice_split}
use Rattle.std.proofs.lemmas.Iterator.Consumers.{count_from_yields_List}
use Rattle.hk_text.proofs.pieces.count_of_indices.Goals as goal

pub returns : goal.returns
returns c =
    count_from_yields_List c.split.result c.count.result c.count.ensures.ran (YieldsList-from_slice_split _
    (λ b. eqb b 46) c.args.text.now c.split.ensures.rest c.split.ensures.done c.split.ensures.closure (λ x b q k. search (rules, tests)))
