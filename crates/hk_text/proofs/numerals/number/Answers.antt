use Rattle.std.proofs.Common.{rules}
use Rattle.hk_text.proofs.Numbers.{number_utf8}
use Rattle.hk_text.proofs.NumeralTexts.{too_large}
use Rattle.hk_text.proofs.numerals.number.Goals as goal

pub returns-in-Err-parse : goal.returns-in-Err-parse
returns-in-Err-parse c = rw (too_large c.args.text.now c.in-Err-parse.field-0 c.requires (search (rules, c.in-Err-parse.ensures)))

pub returns-in-Err : goal.returns-in-Err
returns-in-Err c = absurd (c.in-Err.ensures.cases.0 (number_utf8 c.args.text.now c.requires))
