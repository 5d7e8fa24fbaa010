use Rattle.std.proofs.Common.{rules, tests, eqb}
use Rattle.std.proofs.lemmas.Iterator.Splits.{YieldsList-from_slice_split}
use Rattle.std.proofs.lemmas.Iterator.Search.{all_from_yields_List}
use Rattle.hk_format.specs.Pieces.{is_index_text}
use Rattle.hk_text.proofs.pieces.are_indices.Goals as goal

pub returns : goal.returns
returns c =
    all_from_yields_List is_index_text _ _ c.all.result c.all.ensures.ran (YieldsList-from_slice_split _
    (λ b. eqb b 46) c.args.text.now c.split.ensures.rest c.split.ensures.done c.split.ensures.closure (λ x b q k. search (rules, tests))) (λ x b q k. search (rules, tests))
