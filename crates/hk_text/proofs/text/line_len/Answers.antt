use Rattle.std.proofs.Common.{eqb, take, ap, ◌∙◌, arith, refl}
use Rattle.std.specs.List.{position_or_len}
use Rattle.hk_text.proofs.Cleans.{clean_line, bad_line}
use Rattle.hk_text.proofs.Marks.{marked_comment}
use Rattle.hk_text.proofs.text.line_len.Goals as goal

pub returns-then-len-text-clause-line : goal.returns-then-len-text-clause-line
returns-then-len-text-clause-line c =
    clean_line c.args.text.now c.no_text_from-len.result c.no_text_from-len.ensures.place (λ more. absurd (omega (arith, more, c.if-len-text.true)))

pub returns-then-len-text-clause-comment : goal.returns-then-len-text-clause-comment
returns-then-len-text-clause-comment c =
    let text = c.args.text.now in
    let len = c.no_text_from-len.result in
    let line = clean_line text len c.no_text_from-len.ensures.place (λ more. absurd (omega (arith, more, c.if-len-text.true))) in
    (marked_comment text c.args.mark len c.requires.mark c.no_text_from-len.ensures.place).0 ∙ ap (λ n. position_or_len (λ b. eqb b 35) (take n text)) line.0

pub returns-then-len-text-clause-before : goal.returns-then-len-text-clause-before
returns-then-len-text-clause-before c =
    (marked_comment c.args.text.now c.args.mark c.no_text_from-len.result c.requires.mark c.no_text_from-len.ensures.place).1

pub returns-then-text-len-eq10-clause-line : goal.returns-then-text-len-eq10-clause-line
returns-then-text-len-eq10-clause-line c = clean_line c.args.text.now c.no_text_from-len.result c.no_text_from-len.ensures.place (λ more. c.if-text-len-eq10.true)

pub returns-then-text-len-eq10-clause-comment : goal.returns-then-text-len-eq10-clause-comment
returns-then-text-len-eq10-clause-comment c =
    let text = c.args.text.now in
    let len = c.no_text_from-len.result in
    let line = clean_line text len c.no_text_from-len.ensures.place (λ more. c.if-text-len-eq10.true) in
    (marked_comment text c.args.mark len c.requires.mark c.no_text_from-len.ensures.place).0 ∙ ap (λ n. position_or_len (λ b. eqb b 35) (take n text)) line.0

pub returns-then-text-len-eq10-clause-before : goal.returns-then-text-len-eq10-clause-before
returns-then-text-len-eq10-clause-before c =
    (marked_comment c.args.text.now c.args.mark c.no_text_from-len.result c.requires.mark c.no_text_from-len.ensures.place).1

pub returns-clause-line : goal.returns-clause-line
returns-clause-line c = (
  refl,
  bad_line c.args.text.now c.no_text_from-len.result c.no_text_from-len.ensures.place
      (omega (arith, c.no_text_from-len.ensures.within, c.if-len-text.false)) c.if-text-len-eq10.false,
)
