use Rattle.std.proofs.Common.{◌≡◌, ◌∷◌, [], length, rules, arith, sym, ap, ◌∙◌}
use Rattle.std.specs.Vec.Iter.{into_iter_items}
use Rattle.std.proofs.lemmas.Grind.{common_steps}
use Rattle.hk_format.specs.Loading.{instrs_of}
use Rattle.hk_load.specs.Jumping.{step_added, after_steps}
use Rattle.hk_load.proofs.Jumps.{step_turn, no_step, last_step}
use Rattle.hk_load.proofs.Lefts.{nothing_left}
use Rattle.hk_load.proofs.Outcomes.{line_stops, line_goes}
use Rattle.hk_load.proofs.steps.steps_with.Goals as goal

pub loop-part-init : goal.loop-part-init
loop-part-init c =
    let e = c.into_iter-part-iterator.ensures.into_iter_gives.0 in
    let none : c.from_vec-steps.result ≡ [] = c.from_vec-steps.ensures ∙ c.in_ok-with_capacity.ensures.items in
    record { all = rw (e, none) (no_step (instrs_of c.args.labels.now 0 c.args.parts.items)); left = first_of (search rules, grind (arith, common_steps)) }

pub returns-in-Err : goal.returns-in-Err
returns-in-Err c =
    let rest = into_iter_items c.next.new.self in
    let at = c.in-Some.part in
    let steps : into_iter_items c.loop-part.part-iterator ≡ at ∷ rest = c.in-Some.ensures.steps.0 in
    rw c.on_line.ensures (line_stops c.in-Err.error at.line (step_added c.args.labels.now c.loop-part.steps at.body)
    (λ s. after_steps s (instrs_of c.args.labels.now (length s) rest)) (instrs_of c.args.labels.now 0 c.args.parts.items) c.in-Err.ensures
    (sym c.loop-part.invariant.all ∙ ap (λ ps. after_steps c.loop-part.steps (instrs_of c.args.labels.now (length c.loop-part.steps) ps)) steps
    ∙ step_turn c.args.labels.now c.loop-part.steps at rest))

pub loop-part-preserved : goal.loop-part-preserved
loop-part-preserved c =
    let rest = into_iter_items c.next.new.self in
    let at = c.in-Some.part in
    let steps : into_iter_items c.loop-part.part-iterator ≡ at ∷ rest = c.in-Some.ensures.steps.0 in
    record {
      all =
          line_goes at.line (step_added c.args.labels.now c.loop-part.steps at.body) c.add_step.new.steps
          (λ s. after_steps s (instrs_of c.args.labels.now (length s) rest)) (instrs_of c.args.labels.now 0 c.args.parts.items) c.in_default.ensures
          (sym c.loop-part.invariant.all ∙ ap (λ ps. after_steps c.loop-part.steps (instrs_of c.args.labels.now (length c.loop-part.steps) ps)) steps
          ∙ step_turn c.args.labels.now c.loop-part.steps at rest);
      left =
          let was = c.loop-part.invariant.left in let gone = c.in-Some.ensures.steps.1 in let short = ap length steps in omega arith;
    }

pub returns : goal.returns
returns c =
    let none = c.in-None.ensures.steps in
    let empty : into_iter_items c.loop-part.part-iterator ≡ [] = nothing_left _ (sym c.loop-part.invariant.left ∙ none.0) in
    sym (rw empty at c.loop-part.invariant.all) ∙ last_step c.args.labels.now c.loop-part.steps
