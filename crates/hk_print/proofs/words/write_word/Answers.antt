use Rattle.std.proofs.Common.{◌≡◌, ◌∷◌, ◌≤◌, ap, length, string_bytes, rules, arith}
use Rattle.std.specs.Fmt.{decimal}
use Rattle.std.proofs.lemmas.Fmt.{length-decimal-le}
use Rattle.hk_print.proofs.WordByWord.{word_written, word_moved}
use Rattle.hk_print.proofs.words.write_word.Goals as goal

pub returns-clause-few : goal.returns-clause-few
returns-clause-few c =
    let size : length (decimal c.args.word) ≤ 10 = length-decimal-le 10 c.args.word (omega arith) (omega arith) (omega arith) in
    let bytes : c.format-number.result.now ≡ decimal c.args.word = search rules in
    omega (arith, ap length bytes)

pub returns-then-used-more-le-LINE_BYTES-clause-text : goal.returns-then-used-more-le-LINE_BYTES-clause-text
returns-then-used-more-le-LINE_BYTES-clause-text c =
    let bytes : (32 ∷ c.format-number.result.now) ≡ 32 ∷ decimal c.args.word = search rules in
    λ rest. word_written c.args.used c.args.word _ (string_bytes c.args.out.now) (32 ∷ c.format-number.result.now)
    (string_bytes c.write_behind_space.new.out) rest (omega arith) bytes (search rules) (search rules)

pub returns-clause-text : goal.returns-clause-text
returns-clause-text c =
    let bytes : (32 ∷ c.format-number.result.now) ≡ 32 ∷ decimal c.args.word = search rules in
    λ rest. word_moved c.args.used c.args.word _ (string_bytes c.args.out.now) (32 ∷ c.format-number.result.now) (string_bytes c.push_str.new.self)
    (string_bytes c.write_behind_space-2.new.out) rest (omega arith) bytes (search rules) (search rules) (search rules)
