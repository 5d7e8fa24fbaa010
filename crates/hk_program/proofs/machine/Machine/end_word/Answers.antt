use Rattle.std.proofs.Common.{ap, ◌≡◌, subst, sym, ◌∙◌}
use Rattle.hk_model.specs.Legal.{end_word}
use Rattle.hk_model.specs.Running.{Machine}
use Rattle.hk_program.specs.Contexts.{has_no_frame}
use Rattle.hk_program.specs.Machines.{IsSound}
use Rattle.std.specs.List.{list_all}
use Rattle.hk_program.proofs.Endings.{going_word, over_word}
use Rattle.hk_program.proofs.machine.Machine.end_word.Goals as goal

pub returns-then-not-over : goal.returns-then-not-over
returns-then-not-over g c =
    let state = g.K.Kernel.state c.self.inside.kernel in
    let over = sym c.over.ensures ∙ c.if-not-over.true in
    subst (λ (m : Machine). c.first_word.result ≡ end_word m.state) c.self.view_is
    (c.first_word.ensures ∙ going_word state over c.limit_reached-full.result c.limit_reached-full.ensures)

pub returns : goal.returns
returns g c =
    let over = sym c.over.ensures ∙ c.if-not-over.false in
    let sound = subst (IsSound c.args._world.now) (sym c.self.view_is) c.requires in
    let done = c.none_goes_on-done.ensures ∙ ap (list_all has_no_frame) c.deref.ensures.value in
    subst (λ (m : Machine). c.first_word-2.result ≡ end_word m.state) c.self.view_is
    (c.first_word-2.ensures ∙ over_word c.args._world.now _ sound over c.limit_reached-full.result c.none_goes_on-done.result c.limit_reached-full.ensures done)
