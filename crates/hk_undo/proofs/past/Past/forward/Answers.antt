use Rattle.std.proofs.Common.{◌++◌, [], ◌∷◌, List, ap, ◌∙◌, sym, subst}
use Rattle.hk_undo.specs.declared.reversible.Made.{Made}
use Rattle.hk_undo.specs.Pasts.{IsPast}
use Rattle.hk_undo.proofs.LinesMade.{past_more, past_sound, step_line, step_none}
use Rattle.hk_undo.proofs.past.Past.forward.Goals as goal

pub forward-requires : goal.forward-requires
forward-requires c = past_sound c.self.inside.world c.self.inside.machine c.self.inside.made.items c.self.invariant

pub invariant_of-self-in-Some : goal.invariant_of-self-in-Some
invariant_of-self-in-Some c =
    subst (IsPast c.self.inside.world c.forward.new.self)
    (sym (c.push_reserved.ensures.items ∙ ap (λ (made : List Made). made ++ c.in-Some.made ∷ []) c.reserve.ensures.items))
    (past_more c.self.inside.world c.self.inside.machine c.self.inside.made.items c.args.cpu c.in-Some.made c.forward.new.self c.self.invariant
    (rw c.in-Some.is at c.in_ok-made.ensures.made))

pub returns-in-Some-clause-made : goal.returns-in-Some-clause-made
returns-in-Some-clause-made c =
    step_line c.self.inside.world c.self.inside.machine c.self.inside.made.items c.args.self.now c.args.cpu c.in-Some.made c.forward.new.self c.self.invariant c.self.view_is
    (rw c.in-Some.is at c.in_ok-made.ensures.made)

pub returns-in-None-clause-made : goal.returns-in-None-clause-made
returns-in-None-clause-made c =
    step_none c.self.inside.world c.self.inside.machine c.self.inside.made.items c.args.self.now c.args.cpu c.self.invariant c.self.view_is
    (rw c.in-None.is at c.in_ok-made.ensures.none).0
