use Rattle.std.proofs.Common.{◌≡◌, ◌∷◌, [], length, rules, arith, sym, ap, subst, ◌∙◌}
use Rattle.std.specs.List.{AllByRecursion}
use Rattle.std.specs.Vec.Iter.{into_iter_items}
use Rattle.std.proofs.lemmas.Grind.{common_steps}
use Rattle.std.proofs.lemmas.Result.{err_from_is_err_and}
use Rattle.hk_format.specs.declared.syntax.Item.{Item}
use Rattle.hk_format.specs.Loading.{items_of, load}
use Rattle.hk_format.proofs.WorldValid.{loaded_world}
use Rattle.hk_load.specs.Jumping.{HasNewLabels}
use Rattle.hk_load.specs.Building.{Built, built_of, counts_of, finished, added, after}
use Rattle.hk_load.proofs.Buildings.{front_turn, first_items, no_item}
use Rattle.hk_load.proofs.Parts.{all_new}
use Rattle.hk_load.proofs.Lefts.{nothing_left}
use Rattle.hk_load.proofs.Outcomes.{item_stops, item_goes}
use Rattle.hk_load.proofs.loading.load_with.Goals as goal

pub loop-item-init : goal.loop-item-init
loop-item-init c =
    let e = c.into_iter-item-iterator.ensures.into_iter_gives.0 in
    record {
      new = rw e (all_new c.args.items.items c.requires.syntax);
      all = rw e (first_items c.args.declared.now (built_of c.new-loaded.result) c.args.items.items c.new-loaded.ensures c.requires.names);
      left = first_of (search rules, grind (arith, common_steps));
    }

pub add-requires : goal.add-requires
add-requires c =
    let all = subst (λ is. AllByRecursion (λ (i : Item). HasNewLabels [] i.parts) is) c.in-Some.ensures.steps.0 c.loop-item.invariant.new in
    all.0

pub loop-item-preserved : goal.loop-item-preserved
loop-item-preserved c =
    let rest = into_iter_items c.next.new.self in
    let at = c.in-Some.item in
    let steps : into_iter_items c.loop-item.item-iterator ≡ at ∷ rest = c.in-Some.ensures.steps.0 in
    record {
      new = (subst (λ is. AllByRecursion (λ (i : Item). HasNewLabels [] i.parts) is) steps c.loop-item.invariant.new).1;
      all =
          item_goes (added c.args.declared.now (built_of c.loop-item.loaded) at.line at.parts at.head) (built_of c.add.new.self)
          (λ (d : Built). after d (items_of c.args.declared.now (counts_of d) rest)) (load c.args.items.items) c.in_ok-add.ensures
          (sym c.loop-item.invariant.all ∙ ap (λ is. after (built_of c.loop-item.loaded) (items_of c.args.declared.now (counts_of (built_of c.loop-item.loaded)) is)) steps
          ∙ front_turn c.args.declared.now (built_of c.loop-item.loaded) at rest);
      left =
          let was = c.loop-item.invariant.left in let gone = c.in-Some.ensures.steps.1 in let short = ap length steps in omega arith;
    }

pub returns-in_err-add : goal.returns-in_err-add
returns-in_err-add c =
    let rest = into_iter_items c.next.new.self in
    let at = c.in-Some.item in
    let steps : into_iter_items c.loop-item.item-iterator ≡ at ∷ rest = c.in-Some.ensures.steps.0 in
    let p = err_from_is_err_and c.from_residual.result c.from_residual.ensures.1 in
    rw (p.1, p.2) (item_stops c.in_err-add.field-0.0 (added c.args.declared.now (built_of c.loop-item.loaded) at.line at.parts at.head)
    (λ (d : Built). after d (items_of c.args.declared.now (counts_of d) rest)) (load c.args.items.items) c.in_err-add.ensures
    (sym c.loop-item.invariant.all ∙ ap (λ is. after (built_of c.loop-item.loaded) (items_of c.args.declared.now (counts_of (built_of c.loop-item.loaded)) is)) steps
    ∙ front_turn c.args.declared.now (built_of c.loop-item.loaded) at rest))

pub finish-requires : goal.finish-requires
finish-requires c =
    let none = c.in-None.ensures.steps in
    let empty : into_iter_items c.loop-item.item-iterator ≡ [] = nothing_left _ (sym c.loop-item.invariant.left ∙ none.0) in
    loaded_world c.args.items.items (finished (built_of c.loop-item.loaded)) c.requires.syntax (sym (rw empty at c.loop-item.invariant.all) ∙ no_item (built_of c.loop-item.loaded))

pub returns : goal.returns
returns c =
    let none = c.in-None.ensures.steps in
    let empty : into_iter_items c.loop-item.item-iterator ≡ [] = nothing_left _ (sym c.loop-item.invariant.left ∙ none.0) in
    rw c.finish.ensures (sym (rw empty at c.loop-item.invariant.all) ∙ no_item (built_of c.loop-item.loaded))
