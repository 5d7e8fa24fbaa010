use Rattle.std.proofs.Common.{◌≡◌, ◌++◌, drop, string_bytes}
use Rattle.hk_format.specs.Canonical.{code_parts}
use Rattle.hk_print.specs.ItemTexts.{parts_text}
use Rattle.hk_print.proofs.codes.write_steps.Given as goal

abbrev pub invariant-loop-place : goal.invariant-loop-place
invariant-loop-place l =
    string_bytes l.out ++ parts_text (code_parts l.steps l.place (drop l.place l.steps)) ≡ string_bytes l.initial.out ++ parts_text (code_parts l.steps 0 l.steps)
