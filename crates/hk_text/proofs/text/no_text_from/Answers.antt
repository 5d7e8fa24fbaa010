use Rattle.std.proofs.Common.{◌≡◌, ◌-◌, length, drop, arith}
use Rattle.std.specs.List.{slice_range}
use Rattle.std.proofs.lemmas.List.{length-drop, take_all}
use Rattle.hk_text.proofs.Marks.{marked_end, behind_mark}
use Rattle.hk_text.proofs.text.no_text_from.Goals as goal

pub returns-then-mark-text-clause-place : goal.returns-then-mark-text-clause-place
returns-then-mark-text-clause-place c = marked_end c.args.text.now c.args.mark c.requires.mark (λ more here. absurd (omega (arith, more, c.if-mark-text.true)))

pub returns-then-text-mark-ne35-clause-place : goal.returns-then-text-mark-ne35-clause-place
returns-then-text-mark-ne35-clause-place c = marked_end c.args.text.now c.args.mark c.requires.mark (λ more here. c.if-text-mark-ne35.true here)

pub returns-clause-place : goal.returns-clause-place
returns-clause-place c =
    let text = c.args.text.now in
    let size = length-drop c.args.mark text in
    let whole : slice_range text c.args.mark (length text) ≡ drop c.args.mark text = take_all (length text - c.args.mark) (drop c.args.mark text) (omega arith) in
    rw (c.first_no_text.ensures.place, whole) (behind_mark text c.args.mark c.requires.mark)
