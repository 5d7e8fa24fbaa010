-- What an unconfined call inherits.
use Rattle.std.proofs.Common.{◌≡◌, ◌≤◌, ◌+◌, ℕ, false, List, [], ◌∷◌, ◌++◌, length, map, drop, take, refl, sym, subst, ap, ◌∙◌, arith}
use Rattle.std.proofs.Math.Seq.{drop-append-add}
use Rattle.std.proofs.lemmas.List.{take-append-drop, length-append, length-take-le}
use Rattle.hk_model.specs.declared.entries.Entry.{Entry}
use Rattle.hk_model.specs.declared.entries.Entry.TheVariants.{Empty, Held, Form}
use Rattle.hk_model.specs.Merging.{inherited}
use Rattle.hk_merge.specs.NameSpaces.{overwritten}
use Rattle.hk_merge.proofs.Filling.{overwritten-at}

as_it_is : (e : Entry) → inherited false e ≡ e
as_it_is Empty = refl
as_it_is (Held cap) = refl
as_it_is (Form form) = refl

all_as_they_are : (es : List Entry) → map (inherited false) es ≡ es
all_as_they_are [] = refl
all_as_they_are (e ∷ es) = ap (λ (x : Entry). x ∷ map (inherited false) es) (as_it_is e) ∙ ap (λ (xs : List Entry). e ∷ xs) (all_as_they_are es)

-- entries written as a whole stand where they would if they were written one after another
as_a_whole : (slots es : List Entry) (start : ℕ) → length slots ≡ 64 → start + length es ≤ 64
    → overwritten slots start es ≡ take start slots ++ (es ++ drop (start + length es) slots)
as_a_whole slots es start all few =
    let before : List Entry = take start slots in
    let after : List Entry = drop start slots in
    let whole : before ++ after ≡ slots = take-append-drop start slots in
    let far : length before ≡ start = length-take-le start slots (omega (arith, few, all)) in
    let left : length before + length after ≡ length slots = sym (length-append before after) ∙ ap length whole in
    let fits : length es ≤ length after = omega (arith, few, all, far, left) in
    let written : overwritten (before ++ after) (length before) es ≡ before ++ (es ++ drop (length before + length es) (before ++ after)) =
    overwritten-at before after es fits ∙ ap (λ rest. before ++ (es ++ rest)) (sym (drop-append-add before after (length es))) in
    subst (λ (xs : List Entry). overwritten xs start es ≡ before ++ (es ++ drop (start + length es) xs)) whole
    (subst (λ (n : ℕ). overwritten (before ++ after) n es ≡ before ++ (es ++ drop (n + length es) (before ++ after))) far written)

-- what an unconfined call inherits, written as a whole
pub all_inherited : (slots es new : List Entry) (start : ℕ) → length slots ≡ 64 → start + length es ≤ 64
    → new ≡ take start slots ++ (es ++ drop (start + length es) slots) → new ≡ overwritten slots start (map (inherited false) es)
all_inherited slots es new start all few is = rw (all_as_they_are es) (is ∙ sym (as_a_whole slots es start all few))
