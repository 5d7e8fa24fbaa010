use Rattle.std.proofs.Common.{◌≡◌, ◌++◌, ◌∷◌, [], ◌∙◌, List, ℕ, map, refl, sym, ap, string_bytes, rules}
use Rattle.std.specs.Prelude.{codes}
use Rattle.std.specs.List.{flat_map}
use Rattle.serde_json.specs.Data.{Data}
use Rattle.serde_json.specs.View.{view}
use Rattle.hk_format.specs.declared.syntax.Head.TheVariants.{ObjectIs}
use Rattle.hk_format.specs.declared.syntax.Item.{Item}
use Rattle.hk_format.specs.Canonical.{word_parts}
use Rattle.hk_print.specs.ItemTexts.{body_text, parts_text, item_text}
use Rattle.hk_print.proofs.Items.{item_of_two}
use Rattle.hk_print.proofs.Pieces.{object_spelled}
use Rattle.hk_json.specs.Scripts.{text_at, list_at, parts_said, entry_said, word_said}
use Rattle.hk_json.proofs.Written.{parts_written, plain_said}
use Rattle.hk_json.proofs.script.write_plain.Goals as goal

pub returns : goal.returns
returns c =
    let d = view c.args.object.now in
    let name = text_at (codes "name") d in
    let of = text_at (codes "type") d in
    let words = map word_said (list_at (codes "words") d) in
    let old = string_bytes c.args.out.now in
    let begun = string_bytes c.write.new.self in
    let middle = string_bytes c.write_words.new.out in
    let wrote : begun ≡ old ++ (codes "object " ++ (name ++ 32 ∷ (of ++ 10 ∷ []))) = search rules in
    let half : middle ≡ begun ++ parts_text (word_parts words) = c.in_ok-write_words.ensures
    ∙ ap (λ (ws : List ℕ). begun ++ parts_text (word_parts ws)) (c.as_slice.ensures.value ∙ c.in_ok-words.ensures ∙ ap (map word_said) c.list_at.ensures) in
    let filled : string_bytes c.write_entries.new.out ≡ middle ++ parts_text (parts_said entry_said (codes "entries") d) = c.in_ok-write_entries.ensures
    ∙ ap (λ (ds : List Data). middle ++ flat_map (λ (x : Data). body_text (entry_said x)) ds) c.list_at-2.ensures
    ∙ ap (λ (t : List ℕ). middle ++ t) (sym (parts_written entry_said (list_at (codes "entries") d))) in
    item_of_two (ObjectIs name of) (word_parts words) (parts_said entry_said (codes "entries") d) old begun middle
    (string_bytes c.write_entries.new.out) (string_bytes c.push_str.new.self) refl
    (wrote ∙ ap (λ (t : List ℕ). old ++ t) (sym (object_spelled name of))) half filled (search rules)
    ∙ ap (λ (i : Item). old ++ item_text i) (sym (plain_said d c.requires))
