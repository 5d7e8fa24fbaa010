-- What the dispatch saved is its inverse.
use Rattle.std.proofs.Common.{◌≡◌, ◌∙◌, ap, sym, subst, Some, []}
use Rattle.hk_model.specs.declared.names.Proc.{Proc}
use Rattle.hk_model.specs.State.{State}
use Rattle.hk_model.specs.Processors.{dispatched}
use Rattle.hk_plain.specs.declared.changes.Saved.{Saved}
use Rattle.hk_plain.specs.Changes.{Changes}
use Rattle.hk_plain.specs.Forward.{IsInverse}
use Rattle.hk_plain.proofs.Forwarded.{changes, none_first, first_is, dispatch_inverse}
use Rattle.hk_plain.proofs.tables.Tables.dispatch_forward.Goals as goal

pub returns-in_err-first-clause-none : goal.returns-in_err-first-clause-none
returns-in_err-first-clause-none c =
    let none : c.args.self.now.ready ≡ [] = none_first c.args.self.now.ready (sym c.first_ready.ensures ∙ c.in_err-first.was) in
    rw c.from_residual.ensures none

pub returns-clause-inverse : goal.returns-clause-inverse
returns-clause-inverse c =
    let s : State = c.args.self.now in
    let same : c.in_ok-first.first ≡ c.in_ok-_proc._proc =
    first_is s c.args.cpu c.in_ok-_proc._proc c.in_ok-first.first c.dispatch.new.self c.in_ok-_proc.ensures.given (sym c.in_ok-first.was ∙ c.first_ready.ensures) in
    let given : dispatched s c.args.cpu ≡ Some (c.in_ok-first.first, c.dispatch.new.self) =
    c.in_ok-_proc.ensures.given ∙ ap (λ (proc : Proc). Some (proc, c.dispatch.new.self)) (sym same) in
    subst (λ (x : Changes). IsInverse x s c.dispatch.new.self)
    (sym (c.inverse_of.ensures ∙ ap (λ (v : Saved). changes v c.dropped.result) c.dispatch_saved-saved.ensures))
    (dispatch_inverse s c.args.cpu c.in_ok-first.first c.dispatch.new.self c.dropped.result c.requires.whole c.most_to_go-many.ensures.laid_out c.dropped.ensures.gone
    c.dropped.ensures.left given)
