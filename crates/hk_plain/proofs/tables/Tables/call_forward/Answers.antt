-- What the call saved and what went by it are its inverse.
use Rattle.std.proofs.Common.{◌≡◌, ◌∙◌, ap, sym, subst}
use Rattle.hk_model.specs.declared.names.Inc.{Inc}
use Rattle.hk_model.specs.State.{State, process}
use Rattle.hk_plain.specs.declared.changes.Saved.{Saved}
use Rattle.hk_plain.specs.Changes.{Changes, call_saved}
use Rattle.hk_plain.specs.Removing.{saved_by}
use Rattle.hk_plain.specs.Forward.{IsInverse}
use Rattle.hk_plain.proofs.Forwarded.{changes, call_inverse}
use Rattle.hk_plain.proofs.tables.Tables.call_forward.Goals as goal

pub returns-clause-inverse : goal.returns-clause-inverse
returns-clause-inverse c =
    let s : State = c.args.self.now in
    let was : Saved = call_saved s c.args.proc (process s c.args.proc).current c.args.call.now in
    let saved : c.saved_by-saved.result ≡ saved_by c.in_ok-acted.acted.reply was =
    c.saved_by-saved.ensures
    ∙ ap (saved_by c.in_ok-acted.acted.reply) (c.call_saved-saved.ensures ∙ ap (λ (inc : Inc). call_saved s c.args.proc inc c.args.call.now) c.current_of-inc.ensures) in
    subst (λ (x : Changes). IsInverse x s c.act.new.self) (sym (c.inverse_of.ensures ∙ ap (λ (v : Saved). changes v c.act.new.removed) saved))
    (call_inverse s c.args.proc c.args.call.now c.in_ok-acted.acted.reply c.act.new.self c.in_ok-removed.removed c.act.new.removed c.requires.whole
    c.in_ok-removed.ensures.laid_out c.in_ok-removed.ensures.fresh c.in_ok-acted.ensures.reply c.in_ok-acted.ensures.back)
