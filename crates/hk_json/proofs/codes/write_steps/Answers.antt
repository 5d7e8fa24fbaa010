use Rattle.std.proofs.Common.{◌≡◌, ◌++◌, ◌∙◌, ap, length, map, get_or, string_bytes, rules, arith}
use Rattle.std.specs.List.{list_any}
use Rattle.serde_json.specs.View.{view}
use Rattle.serde_json.specs.declared.value.Value.{Value}
use Rattle.hk_print.proofs.StepByStep.{mark_found}
use Rattle.hk_json.specs.Scripts.{goes_to, label_said, steps_said, text_said}
use Rattle.hk_json.proofs.Written.{label_written, step_written, steps_over}
use Rattle.hk_json.proofs.codes.write_steps.Goals as goal

pub loop-place-preserved : goal.loop-place-preserved
loop-place-preserved c =
    let steps = c.args.steps.now in
    let all = map view steps in
    let place = c.loop-place.place in
    let mark : c.index.result.now ≡ list_any (goes_to place) all = mark_found c.in_ok-marks.marks.items place c.index.result.now
    (omega (arith, c.in_ok-marks.ensures.len)) c.index.ensures ∙ c.in_ok-marks.ensures.marked place (omega arith) in
    let label : string_bytes c.write_label.new.out ≡ string_bytes c.loop-place.out ++ label_said all place =
    label_written all place c.index.result.now (string_bytes c.loop-place.out) (string_bytes c.write_label.new.out) mark c.in_ok-write_label.ensures in
    let step = c.index-steps-place.result in
    let here : step ≡ get_or steps place step = search rules in
    let text : c.text_of-text.result.now ≡ text_said (view (get_or steps place step)) = c.text_of-text.ensures ∙ ap (λ (v : Value). text_said (view v)) here in
    step_written all steps place step (string_bytes c.args.out.now ++ steps_said all 0 all) (string_bytes c.loop-place.out) (string_bytes c.write_label.new.out)
    c.text_of-text.result.now (string_bytes c.write.new.self) c.loop-place-test.true c.loop-place.invariant label text c.in_ok-write.ensures.bytes

pub returns : goal.returns
returns c =
    let steps = c.args.steps.now in
    let all = map view steps in
    let mark : c.index-2.result.now ≡ list_any (goes_to (length steps)) all = mark_found c.in_ok-marks.marks.items (length steps) c.index-2.result.now
    (omega (arith, c.in_ok-marks.ensures.len)) c.index-2.ensures ∙ c.in_ok-marks.ensures.marked (length steps) (omega arith) in
    let label : string_bytes c.write_label-2.new.out ≡ string_bytes c.loop-place.out ++ label_said all (length steps) =
    label_written all (length steps) c.index-2.result.now (string_bytes c.loop-place.out) (string_bytes c.write_label-2.new.out) mark c.in_ok-write_label-2.ensures in
    steps_over all steps c.loop-place.place (string_bytes c.args.out.now ++ steps_said all 0 all) (string_bytes c.loop-place.out) (string_bytes c.write_label-2.new.out)
    (omega arith) c.loop-place.invariant label
