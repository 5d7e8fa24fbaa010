use Rattle.std.proofs.Common.{◌≡◌, ◌-◌, ◌<◌, length, take, drop, sym, ◌∙◌, arith}
use Rattle.std.proofs.lemmas.List.{length-drop, take_all}
use Rattle.hk_text.proofs.Tokens.{word_ends, word_goes_on}
use Rattle.hk_text.proofs.bytes.first_token.Goals as goal

pub returns-then-len-text-clause-place : goal.returns-then-len-text-clause-place
returns-then-len-text-clause-place c =
    (word_ends c.args.text.now c.word_len-len.result c.word_len-len.ensures.place (λ more. absurd (omega (arith, more, c.if-len-text.true)))).0

pub returns-then-len-text-clause-word : goal.returns-then-len-text-clause-word
returns-then-len-text-clause-word c =
    sym (word_ends c.args.text.now c.word_len-len.result c.word_len-len.ensures.place (λ more. absurd (omega (arith, more, c.if-len-text.true)))).1

pub returns-then-is_end-clause-place : goal.returns-then-is_end-clause-place
returns-then-is_end-clause-place c =
    (word_ends c.args.text.now c.word_len-len.result c.word_len-len.ensures.place (λ more. sym c.is_end.ensures ∙ c.if-is_end.true)).0

pub returns-then-is_end-clause-word : goal.returns-then-is_end-clause-word
returns-then-is_end-clause-word c =
    sym (word_ends c.args.text.now c.word_len-len.result c.word_len-len.ensures.place (λ more. sym c.is_end.ensures ∙ c.if-is_end.true)).1

pub returns-clause-place : goal.returns-clause-place
returns-clause-place c =
    let text = c.args.text.now in
    let len = c.word_len-len.result in
    let more : c.word_len-len.result < length c.args.text.now = omega (arith, c.word_len-len.ensures.within, c.if-len-text.false) in
    let size = length-drop len text in
    let whole : take (length text - len) (drop len text) ≡ drop len text = take_all (length text - len) (drop len text) (omega arith) in
    rw (c.first_end.ensures.place, whole) (word_goes_on text len c.word_len-len.ensures.place more (sym c.is_end.ensures ∙ c.if-is_end.false)).0

pub returns-clause-word : goal.returns-clause-word
returns-clause-word c =
    let text = c.args.text.now in
    let len = c.word_len-len.result in
    let more : c.word_len-len.result < length c.args.text.now = omega (arith, c.word_len-len.ensures.within, c.if-len-text.false) in
    let size = length-drop len text in
    let whole : take (length text - len) (drop len text) ≡ drop len text = take_all (length text - len) (drop len text) (omega arith) in
    rw (c.first_end.ensures.place, whole) (sym (word_goes_on text len c.word_len-len.ensures.place more (sym c.is_end.ensures ∙ c.if-is_end.false)).1)
