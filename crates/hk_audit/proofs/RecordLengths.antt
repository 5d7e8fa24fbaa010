-- The record of steps of a script's world is no longer than a record may be.
use Rattle.std.proofs.Common.{◌≡◌, ℕ, ◌+◌, ◌≤◌, List, [], ◌∷◌, ◌++◌, length, arith, Ok}
use Rattle.std.proofs.lemmas.List.{length-append}
use Rattle.std.proofs.lemmas.List.Elements.{recursion_from_All}
use Rattle.hk_model.specs.declared.lines.Line.{Line}
use Rattle.hk_model.specs.declared.lines.End.{End}
use Rattle.hk_model.specs.declared.lines.End.TheVariants as end
use Rattle.hk_model.specs.Limits.{script_bytes, record_bytes}
use Rattle.hk_model.specs.WorldValue.{WorldValue, IsWorld}
use Rattle.hk_model.specs.Running.{AreStepsOf}
use Rattle.hk_format.specs.Texts.{ended_line}
use Rattle.hk_format.specs.LineRanges.{IsLine}
use Rattle.hk_format.specs.Canonical.{canon}
use Rattle.hk_format.specs.Records.{record_word, end_text, lines_text, record_text}
use Rattle.hk_format.specs.Worlds.{world}
use Rattle.hk_audit.proofs.StepsInRange.{steps_in_range, lines_most}
use Rattle.hk_audit.proofs.ScriptCounts.{world_few}
use Rattle.hk_audit.proofs.ScriptLengths.{script_size}
use Rattle.hk_audit.proofs.LineLengths.{lines_size}

end_size : (end : End) → length (end_text end) ≤ 9
end_size end.Done = omega arith
end_size end.Stuck = omega arith
end_size end.Limit = omega arith

-- the parts of a record
record_size : (w : WorldValue) (lines : List Line) (end : End) → length (record_text w lines end) ≤ length (canon w) + length (lines_text lines) + 17
unfolding record_text
record_size w lines end =
    let last = ended_line (end_text end) in
    omega (
      arith,
      length-append (canon w) (ended_line record_word ++ (lines_text lines ++ last)),
      length-append (lines_text lines) last,
      length-append (end_text end) (10 ∷ []),
      end_size end,
    )

-- the law
pub record_fits : (source : List ℕ) (w : WorldValue) (lines : List Line) (end : End) → IsWorld w → world source ≡ Ok w → length source ≤ script_bytes → AreStepsOf w lines
    → length (record_text w lines end) ≤ record_bytes
record_fits source w lines end valid read few steps =
    omega (
      arith,
      record_size w lines end,
      script_size w valid,
      world_few source w read,
      lines_size lines (recursion_from_All IsLine lines (steps_in_range w lines valid steps)),
      lines_most w lines valid steps,
    )
