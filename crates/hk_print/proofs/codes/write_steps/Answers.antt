use Rattle.std.proofs.Common.{◌≡◌, ◌++◌, ◌∙◌, ap, length, get_or, string_bytes, rules, arith}
use Rattle.std.specs.List.{list_any}
use Rattle.hk_model.specs.declared.instructions.Instr.{Instr}
use Rattle.hk_format.specs.declared.syntax.Body.TheVariants.{StepIs}
use Rattle.hk_format.specs.Canonical.{code_parts, jumps_to, label_parts, written_of}
use Rattle.hk_print.specs.ItemTexts.{body_text, parts_text}
use Rattle.hk_print.proofs.StepByStep.{label_written, mark_found, step_written, steps_over}
use Rattle.hk_print.proofs.codes.write_steps.Goals as goal

pub loop-place-preserved : goal.loop-place-preserved
loop-place-preserved c =
    let all = c.args.steps.now in
    let place = c.loop-place.place in
    let mark : c.index.result.now ≡ list_any (jumps_to place) all = mark_found c.in_ok-marks.marks.items place c.index.result.now
    (omega (arith, c.in_ok-marks.ensures.len)) c.index.ensures ∙ c.in_ok-marks.ensures.marked place (omega arith) in
    let label : string_bytes c.write_label.new.out ≡ string_bytes c.loop-place.out ++ parts_text (label_parts all place) =
    label_written all place c.index.result.now (string_bytes c.loop-place.out) (string_bytes c.write_label.new.out) mark c.in_ok-write_label.ensures in
    let step = c.index-steps-place.result in
    let here : step ≡ get_or all place step = search rules in
    let text : string_bytes c.write_step.new.out ≡ string_bytes c.write_label.new.out ++ body_text (StepIs (written_of (get_or all place step))) =
    c.in_ok-write_step.ensures ∙ ap (λ (i : Instr). string_bytes c.write_label.new.out ++ body_text (StepIs (written_of i))) here in
    step_written all place step (string_bytes c.args.out.now ++ parts_text (code_parts all 0 all)) (string_bytes c.loop-place.out) (string_bytes c.write_label.new.out)
    (string_bytes c.write_step.new.out) c.loop-place-test.true c.loop-place.invariant label text

pub returns : goal.returns
returns c =
    let all = c.args.steps.now in
    let mark : c.index-2.result.now ≡ list_any (jumps_to (length all)) all = mark_found c.in_ok-marks.marks.items (length all) c.index-2.result.now
    (omega (arith, c.in_ok-marks.ensures.len)) c.index-2.ensures ∙ c.in_ok-marks.ensures.marked (length all) (omega arith) in
    let label : string_bytes c.write_label-2.new.out ≡ string_bytes c.loop-place.out ++ parts_text (label_parts all (length all)) =
    label_written all (length all) c.index-2.result.now (string_bytes c.loop-place.out) (string_bytes c.write_label-2.new.out) mark c.in_ok-write_label-2.ensures in
    steps_over all c.loop-place.place (string_bytes c.args.out.now ++ parts_text (code_parts all 0 all)) (string_bytes c.loop-place.out) (string_bytes c.write_label-2.new.out)
    (omega arith) c.loop-place.invariant label
