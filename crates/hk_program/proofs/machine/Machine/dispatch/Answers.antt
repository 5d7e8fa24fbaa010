use Rattle.std.proofs.Common.{◌≡◌, sym, ◌∙◌, ap, subst}
use Rattle.std.specs.Prelude.{Some, None}
use Rattle.std.proofs.lemmas.Option.{none-some}
use Rattle.hk_model.specs.declared.calls.Reply.TheVariants.{Done}
use Rattle.hk_model.specs.declared.lines.What.TheVariants as what
use Rattle.hk_model.specs.declared.lines.Line.{Line}
use Rattle.hk_model.specs.State.{State}
use Rattle.hk_model.specs.Processors.{dispatched}
use Rattle.hk_model.specs.Running.{Machine}
use Rattle.hk_program.proofs.Events.{dispatched_runs, dispatch_steps, nothing_steps, second_is}
use Rattle.hk_program.proofs.machine.Machine.dispatch.Goals as goal

pub unreachable-requires : goal.unreachable-requires
unreachable-requires g c =
    let given = subst (λ (m : Machine). dispatched m.state c.args.cpu ≡ Some (c.in-Some.proc, g.K.Kernel.state c.dispatch.new.self)) c.self.view_is c.in-Some.ensures.given in
    none-some _ (sym c.in-None.is ∙ (c.current.ensures ∙ dispatched_runs c.args.world.now c.args.self.now c.args.cpu c.in-Some.proc (g.K.Kernel.state c.dispatch.new.self)
    c.requires.sound c.requires.idle given))

pub returns-clause-given : goal.returns-clause-given
returns-clause-given g c _ =
    let state : State = g.K.Kernel.state c.dispatch.new.self in
    let line : Line = record { cpu = c.args.cpu; proc = c.in-Some.proc; inc = c.in-Some-current.inc; what = what.Dispatch; reply = Done } in
    let given = subst (λ (m : Machine). dispatched m.state c.args.cpu ≡ Some (c.in-Some.proc, state)) c.self.view_is c.in-Some.ensures.given in
    let runs = dispatched_runs c.args.world.now c.args.self.now c.args.cpu c.in-Some.proc state c.requires.sound c.requires.idle given in
    dispatch_steps c.args.world.now c.args.self.now c.args.cpu c.in-Some.proc c.in-Some-current.inc state c.requires.cpu c.requires.below c.requires.idle given
    (second_is _ _ _ _ (sym c.in-Some-current.is ∙ (c.current.ensures ∙ runs)))
    ∙ ap (λ (m : Machine). let made : Line × Machine = (line, record m { state = state }) in Some made) (sym c.self.view_is)

pub returns-in_default-clause-none : goal.returns-in_default-clause-none
returns-in_default-clause-none g c _ =
    let none = subst (λ (m : Machine). dispatched m.state c.args.cpu ≡ None) c.self.view_is c.in_default.ensures.none.0 in (
      nothing_steps c.args.world.now c.args.self.now c.args.cpu c.requires.cpu c.requires.below c.requires.idle none,
      ap (λ (s : State). let m : Machine = record { state = s; contexts = c.self.inside.contexts.items } in m) c.in_default.ensures.none.1 ∙ c.self.view_is,
    )
