-- What the halt saved and what went by it are its inverse.
use Rattle.std.proofs.Common.{◌∙◌, ap, sym, subst}
use Rattle.hk_plain.specs.declared.changes.Saved.{Saved}
use Rattle.hk_plain.specs.Changes.{Changes}
use Rattle.hk_plain.specs.Forward.{IsInverse}
use Rattle.hk_plain.proofs.Forwarded.{changes, halt_inverse}
use Rattle.hk_plain.proofs.tables.Tables.halt_forward.Goals as goal

pub returns-clause-inverse : goal.returns-clause-inverse
returns-clause-inverse c =
    subst (λ (x : Changes). IsInverse x c.args.self.now c.halt.new.self)
    (sym (c.inverse_of.ensures ∙ ap (λ (v : Saved). changes v c.halt.new.removed) c.halt_saved-saved.ensures))
    (halt_inverse c.args.self.now c.args.proc c.halt.new.self c.in_ok-removed.removed c.halt.new.removed c.requires.whole c.in_ok-removed.ensures.laid_out
    c.in_ok-removed.ensures.fresh c.halt.ensures.value c.halt.ensures.back)
