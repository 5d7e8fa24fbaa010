use Rattle.std.proofs.Common.{◌≡◌, rules, sym, ◌∙◌, length, arith, lit<, Some, None}
use Rattle.std.proofs.lemmas.List.{length_push, at_drop_all}
use Rattle.std.proofs.lemmas.Iterator.Consumers.{YieldsList-turn, YieldsList-end}
use Rattle.std.proofs.lemmas.Iterator.Splits.{YieldsList-from_str_split}
use Rattle.hk_rights.specs.Rights.{number_named}
use Rattle.hk_format.specs.RightsTexts.{union_of}
use Rattle.hk_load.specs.Texts.{names_in, united}
use Rattle.hk_load.proofs.Unions.{united_turn, united_bad, union_nothing}
use Rattle.hk_load.proofs.rights.union_of.Goals as goal

pub returns-in_err-by_name : goal.returns-in_err-by_name
returns-in_err-by_name c =
    let same = c.into_iter-name-iterator.ensures.into_iter_gives in
    let text = c.split-name-items.ensures.text in
    let more = c.split-name-items.ensures.has_more in
    let pattern = c.split-name-items.ensures.pattern in
    let road = YieldsList-from_str_split {s = c.into_iter-name-iterator.result} 43 c.args.names.now (lit< tt) (cc) (cc) (cc) in
    let t = YieldsList-turn road c.loop-name.yielded _ c.loop-name.yielded_by _ _ c.in-Some.name c.in-Some.is c.next.ensures.steps in
    let none : number_named c.in-Some.name.now ≡ None = sym c.by_name.ensures ∙ c.in_err-by_name.was in
    let bad = united_bad (names_in c.args.names.now) (length c.loop-name.yielded) c.in-Some.name.now c.loop-name.rights t none in
    let none_given : c.from_residual.result ≡ None = search rules in
    none_given ∙ sym bad ∙ c.loop-name.invariant

pub loop-name-preserved : goal.loop-name-preserved
loop-name-preserved c =
    let same = c.into_iter-name-iterator.ensures.into_iter_gives in
    let text = c.split-name-items.ensures.text in
    let more = c.split-name-items.ensures.has_more in
    let pattern = c.split-name-items.ensures.pattern in
    let road = YieldsList-from_str_split {s = c.into_iter-name-iterator.result} 43 c.args.names.now (lit< tt) (cc) (cc) (cc) in
    let t = YieldsList-turn road c.loop-name.yielded _ c.loop-name.yielded_by _ _ c.in-Some.name c.in-Some.is c.next.ensures.steps in
    let some : number_named c.in-Some.name.now ≡ Some c.in_ok-by_name.field-0 = sym c.by_name.ensures ∙ c.in_ok-by_name.was in
    let turn = united_turn (names_in c.args.names.now) (length c.loop-name.yielded) c.in-Some.name.now c.loop-name.rights c.in_ok-by_name.field-0 t some in
    let size = length_push c.loop-name.yielded c.in-Some.name in
    rw (size, c.union-rights.ensures.word, c.one.ensures.word) (sym turn ∙ c.loop-name.invariant)

pub returns : goal.returns
returns c =
    let same = c.into_iter-name-iterator.ensures.into_iter_gives in
    let text = c.split-name-items.ensures.text in
    let more = c.split-name-items.ensures.has_more in
    let pattern = c.split-name-items.ensures.pattern in
    let road = YieldsList-from_str_split {s = c.into_iter-name-iterator.result} 43 c.args.names.now (lit< tt) (cc) (cc) (cc) in
    let t = YieldsList-end road c.loop-name.yielded _ c.loop-name.yielded_by _ _ c.in-None.is c.next.ensures.steps in
    let last = at_drop_all (λ xs. united c.loop-name.rights (union_of xs)) (names_in c.args.names.now) (length c.loop-name.yielded) (omega (arith, t.1)) in
    sym (union_nothing c.loop-name.rights) ∙ sym last ∙ c.loop-name.invariant
