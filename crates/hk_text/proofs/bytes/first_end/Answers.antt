use Rattle.std.proofs.Common.{rules, tests}
use Rattle.std.proofs.lemmas.Iterator.{YieldsList-from_slice}
use Rattle.std.proofs.lemmas.Iterator.Search.{position_from_yields_List}
use Rattle.hk_text.specs.Views.{is_end}
use Rattle.hk_text.proofs.Numbers.{found_place}
use Rattle.hk_text.proofs.bytes.first_end.Goals as goal

pub returns-in-Some-clause-place : goal.returns-in-Some-clause-place
returns-in-Some-clause-place c =
    let e = position_from_yields_List is_end _ _ c.position.result c.position.ensures.ran (YieldsList-from_slice c.args.text.now cc) (λ x b q k. search (rules, tests)) in
    rw c.in-Some.is at (found_place is_end c.args.text.now c.position.result e)

pub returns-in-None-clause-place : goal.returns-in-None-clause-place
returns-in-None-clause-place c =
    let e = position_from_yields_List is_end _ _ c.position.result c.position.ensures.ran (YieldsList-from_slice c.args.text.now cc) (λ x b q k. search (rules, tests)) in
    rw c.in-None.is at (found_place is_end c.args.text.now c.position.result e)
