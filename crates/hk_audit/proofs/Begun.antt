-- A record that is written as its lines come.
use Rattle.std.proofs.Common.{◌≡◌, ℕ, List, [], ◌∷◌, ◌++◌, ap, sym, ◌∙◌, append_assoc}
use mathlib.Core.List.{append-nil}
use Rattle.std.proofs.lemmas.Grind.{flat_map-append}
use Rattle.hk_model.specs.declared.lines.Line.{Line}
use Rattle.hk_model.specs.declared.lines.End.{End}
use Rattle.hk_model.specs.WorldValue.{WorldValue}
use Rattle.hk_format.specs.Texts.{ended_line}
use Rattle.hk_format.specs.Canonical.{canon}
use Rattle.hk_format.specs.AuditLines.{line_text}
use Rattle.hk_format.specs.Records.{record_text, end_text, record_word, lines_text}
use Rattle.hk_audit.specs.Begun.{begun}

-- one line more
pub begun_more : (w : WorldValue) (lines : List Line) (line : Line) (old new : List ℕ)
    → new ≡ old ++ line_text line → old ≡ begun w lines → new ≡ begun w (lines ++ line ∷ [])
begun_more w lines line old new n o =
    n ∙ ap (λ t. t ++ line_text line) o
    ∙ append_assoc (canon w) (ended_line record_word ++ lines_text lines) (line_text line)
    ∙ ap (λ t. canon w ++ t) (append_assoc (ended_line record_word) (lines_text lines) (line_text line))
    ∙ ap (λ t. canon w ++ (ended_line record_word ++ t)) (ap (λ t. lines_text lines ++ t) (sym (append-nil (line_text line))) ∙ sym (flat_map-append line_text lines (line ∷ [])))

-- the end line behind all
pub begun_whole : (w : WorldValue) (lines : List Line) (end : End) (old new : List ℕ)
    → new ≡ old ++ ended_line (end_text end) → old ≡ begun w lines → new ≡ record_text w lines end
unfolding record_text
begun_whole w lines end old new n o =
    n ∙ ap (λ t. t ++ ended_line (end_text end)) o
    ∙ append_assoc (canon w) (ended_line record_word ++ lines_text lines) (ended_line (end_text end))
    ∙ ap (λ t. canon w ++ t) (append_assoc (ended_line record_word) (lines_text lines) (ended_line (end_text end)))
