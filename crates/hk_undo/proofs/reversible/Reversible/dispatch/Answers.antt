use Rattle.std.proofs.Common.{true, ◌≡◌, refl, sym, ◌∙◌, subst, None}
use Rattle.hk_model.specs.Processors.{may_step, running_on}
use Rattle.hk_model.specs.Running.{Machine, step}
use Rattle.hk_model.specs.declared.lines.Line.{Line}
use Rattle.hk_model.specs.declared.lines.What.TheVariants as what
use Rattle.hk_program.specs.Machines.{IsSound}
use Rattle.hk_undo.specs.declared.reversible.Made.{Made}
use Rattle.hk_undo.specs.Pasts.{IsMade}
use Rattle.hk_undo.proofs.EventsMade.{dispatch_made, never_none, none_ready}
use Rattle.hk_undo.proofs.reversible.Reversible.dispatch.Goals as goal

pub returns-then-not-any_ready-clause-none : goal.returns-then-not-any_ready-clause-none
returns-then-not-any_ready-clause-none c =
    let m : Machine = record { state = c.self.inside.kernel; contexts = c.self.inside.contexts.items } in (
      subst (λ (k : Machine). step c.args.world.now k c.args.cpu ≡ None) c.self.view_is
          (none_ready c.args.world.now m c.args.cpu c.any_ready.result c.requires.cpu (subst (λ (k : Machine). may_step k.state ≡ true) (sym c.self.view_is) c.requires.below)
          (subst (λ (k : Machine). running_on k.state c.args.cpu ≡ None) (sym c.self.view_is) c.requires.idle) c.any_ready.ensures c.if-not-any_ready.true),
      refl,
    )

pub unreachable-requires : goal.unreachable-requires
unreachable-requires c =
    let m : Machine = record { state = c.self.inside.kernel; contexts = c.self.inside.contexts.items } in
    never_none c.args.world.now m c.args.cpu (subst (IsSound c.args.world.now) (sym c.self.view_is) c.requires.sound)
    (subst (λ (k : Machine). running_on k.state c.args.cpu ≡ None) (sym c.self.view_is) c.requires.idle) c.forward.new.self
    c.in_ok-acted.ensures.done.first c.in_ok-acted.ensures.done.given
    (sym c.current.ensures ∙ c.in-None.is)

pub returns-clause-made : goal.returns-clause-made
returns-clause-made c =
    let m : Machine = record { state = c.self.inside.kernel; contexts = c.self.inside.contexts.items } in
    let line : Line = record { cpu = c.args.cpu; proc = c.in-Some.proc; inc = c.in-Some.inc; what = what.Dispatch; reply = c.in_ok-acted.acted.reply } in
    let made : Made = record { line = line; inverse = c.in_ok-acted.inverse; frames = None } in
    let left : Machine = record { state = c.forward.new.self; contexts = m.contexts } in
    subst (λ (k : Machine). IsMade c.args.world.now k c.args.cpu made left) c.self.view_is
    (dispatch_made c.args.world.now m c.args.cpu (subst (IsSound c.args.world.now) (sym c.self.view_is) c.requires.sound)
    (subst (λ (k : Machine). running_on k.state c.args.cpu ≡ None) (sym c.self.view_is) c.requires.idle) c.forward.new.self
    c.in_ok-acted.ensures.done.first c.in_ok-acted.ensures.done.given
    c.in-Some.proc c.in-Some.inc c.in_ok-acted.acted.reply c.in_ok-acted.inverse c.requires.cpu
    (subst (λ (k : Machine). may_step k.state ≡ true) (sym c.self.view_is) c.requires.below)
    (sym c.current.ensures ∙ c.in-Some.is) c.in_ok-acted.ensures.done.reply c.in_ok-acted.ensures.behind c.in_ok-acted.ensures.back)
