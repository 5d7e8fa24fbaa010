use Rattle.std.proofs.Common.{arith, ap, sym, ◌∙◌, ◌≡◌, Some, None}
use Rattle.hk_text.specs.Numerals.{numeral_of}
use Rattle.hk_text.proofs.NumeralTexts.{numeral_is}
use Rattle.hk_top.proofs.WordLemmas.{none_spelled, other_spelled, from_none}
use Rattle.hk_top.proofs.words.number_to.Goals as goal
use Rattle.hk_top.proofs.words.number_to.Goals.{then-number-lt1-via-then-number-lt1, then-number-lt1-via-else-number-lt1+then-number-most}

pub returns-in_err-number-clause-none : goal.returns-in_err-number-clause-none
returns-in_err-number-clause-none c =
    let none : numeral_of c.args.word.now ≡ None = ap numeral_of (sym c.as_bytes.ensures.value) ∙ (sym c.numeral.ensures ∙ c.in_err-number.was) in
    from_none c.from_residual.result (none_spelled c.args.largest c.args.word.now c.ranges.largest.fits none)

pub returns-then-number-lt1-clause-none : goal.returns-then-number-lt1-clause-none
returns-then-number-lt1-clause-none c =
    let some : numeral_of c.args.word.now ≡ Some c.in_ok-number.number = ap numeral_of (sym c.as_bytes.ensures.value) ∙ (sym c.numeral.ensures ∙ c.in_ok-number.was) in
    other_spelled c.args.largest c.args.word.now c.in_ok-number.number c.ranges.largest.fits some (λ may. elim c.then-number-lt1.branch [
      | then-number-lt1-via-then-number-lt1 w ↦ let less = w.if-number-lt1.true in omega (arith, may.0, less)
      | then-number-lt1-via-else-number-lt1+then-number-most w ↦ let more = w.if-number-most.true in omega (arith, may.1, more)
    ])

pub returns-clause-some : goal.returns-clause-some
returns-clause-some c =
    let some : numeral_of c.args.word.now ≡ Some c.in_ok-number.number = ap numeral_of (sym c.as_bytes.ensures.value) ∙ (sym c.numeral.ensures ∙ c.in_ok-number.was) in
    let least = c.if-number-lt1.false in
    let most = c.if-number-most.false in
    (sym (numeral_is c.args.word.now c.in_ok-number.number some), (omega (arith, least), omega (arith, most)))
