use Rattle.std.proofs.Common.{◌≡◌, [], ap, length, string_bytes, rules, arith}
use Rattle.std.proofs.lemmas.Bool.Decides.{nat_tests}
use Rattle.hk_print.proofs.WordByWord.{words_over}
use Rattle.hk_print.proofs.words.write_words.Goals as goal

pub returns : goal.returns
returns c =
    let some : c.args.words.now ≡ [] → ⊥ = λ none. grind (arith, nat_tests, ap length none) in
    words_over c.args.words.now c.loop-word.word-index c.loop-word.used (string_bytes c.args.out.now) (string_bytes c.push_str.new.self) (string_bytes c.loop-word.out)
    (string_bytes c.push_str-2.new.self) some (omega arith) (search rules) c.loop-word.invariant.text (search rules)
