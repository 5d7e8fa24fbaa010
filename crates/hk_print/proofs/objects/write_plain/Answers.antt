use Rattle.std.proofs.Common.{◌≡◌, ◌++◌, ◌∷◌, [], ◌∙◌, sym, ap, refl, List, ℕ, string_bytes, rules}
use Rattle.std.specs.Prelude.{codes}
use Rattle.hk_format.specs.declared.syntax.Head.TheVariants.{ObjectIs}
use Rattle.hk_format.specs.Names.{spoken, object_text}
use Rattle.hk_format.specs.Canonical.{entry_parts, word_parts}
use Rattle.hk_print.specs.ItemTexts.{parts_text}
use Rattle.hk_print.proofs.Items.{item_of_two, entries_spelled}
use Rattle.hk_print.proofs.Pieces.{object_spelled}
use Rattle.hk_print.proofs.objects.write_plain.Goals as goal

pub returns : goal.returns
returns c =
    let s = spoken c.args.world.now in
    let label = c.args.label.now in
    let of = object_text s c.args.of in
    let words = c.args.words.now in
    let entries = c.args.entries.now in
    let wrote : string_bytes c.write_head.new.out ≡ string_bytes c.args.out.now ++ (codes "object " ++ (label ++ 32 ∷ (of ++ 10 ∷ []))) = search rules in
    let begun = wrote ∙ ap (λ (t : List ℕ). string_bytes c.args.out.now ++ t) (sym (object_spelled label of)) in
    let half : string_bytes c.write_words.new.out ≡ string_bytes c.write_head.new.out ++ parts_text (word_parts words) = search rules in
    let filled : string_bytes c.write_entries.new.out ≡ string_bytes c.write_words.new.out ++ parts_text (entry_parts s entries) = rw (entries_spelled s entries) (search rules) in
    item_of_two (ObjectIs label of) (word_parts words) (entry_parts s entries) (string_bytes c.args.out.now) (string_bytes c.write_head.new.out) (string_bytes c.write_words.new.out)
    (string_bytes c.write_entries.new.out) (string_bytes c.push_str.new.self) refl begun half filled (search rules)
