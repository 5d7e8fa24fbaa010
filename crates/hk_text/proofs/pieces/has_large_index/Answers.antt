use Rattle.std.proofs.Common.{rules, tests, eqb}
use Rattle.std.proofs.lemmas.Iterator.Splits.{YieldsList-from_slice_split}
use Rattle.std.proofs.lemmas.Iterator.Search.{any_from_yields_List}
use Rattle.hk_format.specs.Pieces.{is_too_large}
use Rattle.hk_text.proofs.pieces.has_large_index.Goals as goal

pub returns : goal.returns
returns c =
    any_from_yields_List is_too_large _ _ c.any.result c.any.ensures.ran (YieldsList-from_slice_split _
    (λ b. eqb b 46) c.args.text.now c.split.ensures.rest c.split.ensures.done c.split.ensures.closure (λ x b q k. search (rules, tests))) (λ x b q k. search (rules, tests))
