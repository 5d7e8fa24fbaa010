use Rattle.std.proofs.Common.{◌≡◌, ℕ, List, map, sym, ap, subst, ◌∙◌, refl}
use Rattle.hk_model.specs.declared.lines.Line.{Line}
use Rattle.hk_format.specs.AuditLines.{line_body}
use Rattle.hk_format.specs.LineReading.{event_line, reply_line}
use Rattle.hk_format.specs.LineRanges.{IsLine}
use Rattle.hk_audit.specs.Halves.{halves_text}
use Rattle.hk_audit.specs.TextPieces.{seen}
use Rattle.hk_audit.proofs.LineCuts.{event_refused, reply_refused, line_found}
use Rattle.hk_audit.proofs.reading.line_in.Goals as goal

pub returns-in_default-clause-none : goal.returns-in_default-clause-none
returns-in_default-clause-none c =
    event_refused c.args.event.now c.args.reply.now c.in_default.field-0 (sym (ap (λ (ts : List (List ℕ)). event_line (map seen ts)) c.new.ensures) ∙ c.in_default.ensures.refused)

pub returns-in_default-reply-clause-none : goal.returns-in_default-reply-clause-none
returns-in_default-reply-clause-none c =
    reply_refused c.args.event.now c.args.reply.now c.in_default-reply.field-0 (sym (ap (λ (ts : List (List ℕ)). reply_line (map seen ts)) c.new-2.ensures)
    ∙ c.in_default-reply.ensures)

pub returns-clause-some : goal.returns-clause-some
returns-clause-some c =
    subst (λ (l : Line). IsLine l × (line_body l ≡ halves_text c.args.event.now c.args.reply.now)) (sym c.with_reply.ensures)
    (line_found (halves_text c.args.event.now c.args.reply.now) c.args.event.now c.args.reply.now _ _ _ _ refl
    (sym (ap (λ (ts : List (List ℕ)). event_line (map seen ts)) c.new.ensures) ∙ c.in-Ok.ensures.ok)
    (sym (ap (λ (ts : List (List ℕ)). reply_line (map seen ts)) c.new-2.ensures) ∙ c.in-Ok-reply.ensures))
