use Rattle.std.proofs.Common.{◌≡◌, length}
use Rattle.hk_format.specs.declared.syntax.Verb.TheVariants as verb
use Rattle.hk_format.specs.Grammar.{object_part}
use Rattle.hk_script.specs.Lines.{rest}
use Rattle.hk_script.proofs.Lists.{words_on}
use Rattle.hk_script.proofs.line.Line.words.Given as goal

abbrev pub invariant-loop-words : goal.invariant-loop-words
invariant-loop-words l = words_on l.words (rest l.self) ≡ object_part verb.Words (rest l.fn.self)

abbrev pub decreases-loop-words : goal.decreases-loop-words
decreases-loop-words l = length (rest l.self)
