use Rattle.std.proofs.Common.{◌≡◌, ◌-◌, List, Some, length, slice_get, subst}
use Rattle.hk_undo.specs.declared.reversible.Made.{Made}
use Rattle.hk_undo.proofs.LinesMade.{read_behind, read_frames, read_less}
use Rattle.hk_undo.proofs.past.Past.back.Goals as goal

pub take_back-requires : goal.take_back-requires
take_back-requires c =
    read_behind c.self.inside.world c.self.inside.machine c.self.inside.made.items c.in-Some.made.now c.self.invariant
    (subst (λ (made : List Made). Some c.in-Some.made.now ≡ slice_get made (length made - 1)) c.deref.ensures.value c.in-Some.ensures.value)

pub put_back-requires : goal.put_back-requires
put_back-requires c =
    read_frames c.self.inside.world c.self.inside.machine c.self.inside.made.items c.pop.new.self.items c.in-Some.made.now c.in-Some-pop.made c.self.invariant
    (subst (λ (made : List Made). Some c.in-Some.made.now ≡ slice_get made (length made - 1)) c.deref.ensures.value c.in-Some.ensures.value)
    c.in-Some-pop.ensures.items c.take_back.new.self c.in_ok-take_back-in-Some.ensures.ok

pub invariant_of-self-in-Some-pop : goal.invariant_of-self-in-Some-pop
invariant_of-self-in-Some-pop c =
    read_less c.self.inside.world c.self.inside.machine c.self.inside.made.items c.pop.new.self.items c.in-Some.made.now c.in-Some-pop.made c.self.invariant
    (subst (λ (made : List Made). Some c.in-Some.made.now ≡ slice_get made (length made - 1)) c.deref.ensures.value c.in-Some.ensures.value)
    c.in-Some-pop.ensures.items c.take_back.new.self c.in_ok-take_back-in-Some.ensures.ok c.put_back.new.self c.put_back.ensures
