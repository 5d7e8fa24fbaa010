-- What a change of a slot does to the objects by rising name.
use Rattle.std.proofs.Common.{◌≡◌, ◌≢◌, ℕ, zero, suc, ◌+◌, ◌<◌, ◌≤◌, List, [], ◌∷◌, length, set, Option, Some, None, refl, ap, ◌∙◌, sym, arith, ⊎_elim, ◌⊎◌, inl, inr, option_map}
use Rattle.std.proofs.Common.{IfSome, IsSome, get_or-set_same, get_or-set_other}
use Rattle.std.proofs.lemmas.List.{set-set, set-get_or, get_or_past}
use Rattle.std.proofs.lemmas.Bool.{cases_eq, cases_lt}
use Rattle.std.proofs.lemmas.Bool.Decides.{nat_tests}
use Rattle.std.specs.Map.{lookup, set_value, remove_entry}
use Rattle.std.specs.BTreeMap.{insert_entry}
use Rattle.hk_model.specs.declared.names.Name.{Name}
use Rattle.hk_model.specs.State.{name_cmp, same_name}
use Rattle.hk_objects.specs.Slots.{standing, place, name_at, AreApart, change}

name_apart : (n m : Name) → (Some n ≡ Some m → ⊥) → n.0 ≢ m.0
name_apart n m apart same = apart (ap (λ (x : ℕ). let y : Name = record { 0 = x } in Some y) same)

module _ {X : Type 0} where
  -- written over what was just put in
  pub set-insert : (n : Name) (o w : X) (es : List (Name × X)) → set_value (same_name n) (insert_entry name_cmp es n o) w ≡ insert_entry name_cmp es n w
  set-insert n o w [] = grind (arith, nat_tests)
  set-insert n o w (e ∷ es) = grind (arith, nat_tests, set-insert n o w es)

  -- found again
  pub lookup-insert_same : (n : Name) (o : X) (es : List (Name × X)) → lookup (same_name n) (insert_entry name_cmp es n o) ≡ Some o
  lookup-insert_same n o [] = grind (arith, nat_tests)
  lookup-insert_same n o (e ∷ es) = grind (arith, nat_tests, lookup-insert_same n o es)

  pub lookup-insert_other : (n m : Name) (o : X) (es : List (Name × X)) → n.0 ≢ m.0 → lookup (same_name m) (insert_entry name_cmp es n o) ≡ lookup (same_name m) es
  lookup-insert_other n m o [] apart = grind (arith, nat_tests)
  lookup-insert_other n m o (e ∷ es) apart = grind (arith, nat_tests, lookup-insert_other n m o es apart)

  -- taken away again
  pub remove-insert : (n : Name) (o : X) (es : List (Name × X)) → lookup (same_name n) es ≡ None → remove_entry (same_name n) (insert_entry name_cmp es n o) ≡ es
  remove-insert n o [] absent = grind (arith, nat_tests)
  remove-insert n o (e ∷ es) absent = grind (arith, nat_tests, remove-insert n o es)

  -- two new objects, in either order
  pub insert_comm : (n m : Name) (o w : X) (es : List (Name × X)) → n.0 ≢ m.0
      → insert_entry name_cmp (insert_entry name_cmp es n o) m w ≡ insert_entry name_cmp (insert_entry name_cmp es m w) n o
  insert_comm n m o w [] apart = grind (arith, nat_tests)
  insert_comm n m o w (e ∷ es) apart = grind (arith, nat_tests, insert_comm n m o w es apart)

  -- what stands in a slot stands in order among the others
  pub standing-place : (ps : List (Option (Name × X))) (s : ℕ) (n : Name) (o : X) → place ps s ≡ Some (n, o) → ((k : ℕ) → k ≢ s → name_at ps k ≡ Some n → ⊥)
      → standing ps ≡ insert_entry name_cmp (standing (set ps s None)) n o
  standing-place [] s n o here alone = absurd (cc)
  standing-place (p ∷ ps) zero n o here alone = rw here refl
  standing-place (None ∷ ps) (suc s) n o here alone =
      standing-place ps s n o here (λ k apart named. alone (suc k) (omega arith) named)
  standing-place (Some e ∷ ps) (suc s) n o here alone =
      ap (λ es. insert_entry name_cmp es e.0 e.1) (standing-place ps s n o here (λ k apart named. alone (suc k) (omega arith) named))
      ∙ insert_comm n e.0 o e.1 (standing (set ps s None)) (name_apart n e.0 (λ same. alone zero (omega arith) (sym same)))

  -- a name that no slot has
  pub lookup-absent : (ps : List (Option (Name × X))) (n : Name) → ((k : ℕ) → name_at ps k ≡ Some n → ⊥) → lookup (same_name n) (standing ps) ≡ None
  lookup-absent [] n none = refl
  lookup-absent (None ∷ ps) n none = lookup-absent ps n (λ k. none (suc k))
  lookup-absent (Some e ∷ ps) n none =
      lookup-insert_other e.0 n e.1 (standing ps) (name_apart e.0 n (none zero)) ∙ lookup-absent ps n (λ k. none (suc k))

  alone_from_apart : (ps : List (Option (Name × X))) (s : ℕ) (n : Name) (o : X) → place ps s ≡ Some (n, o) → AreApart ps → (k : ℕ) → k ≢ s → name_at ps k ≡ Some n → ⊥
  alone_from_apart ps s n o here apart k other named = other (apart k s n named (ap (option_map (λ (e : Name × X). e.0)) here))

  within : (ps : List (Option (Name × X))) (s : ℕ) (n : Name) (o : X) → place ps s ≡ Some (n, o) → s < length ps
  within [] s n o here = absurd (cc)
  within (p ∷ ps) zero n o here = omega arith
  within (p ∷ ps) (suc s) n o here = let h = within ps s n o here in omega arith

  -- an object found by its name
  pub lookup-place : (ps : List (Option (Name × X))) (s : ℕ) (n : Name) (o : X) → place ps s ≡ Some (n, o) → AreApart ps → lookup (same_name n) (standing ps) ≡ Some o
  lookup-place ps s n o here apart =
      ap (lookup (same_name n)) (standing-place ps s n o here (alone_from_apart ps s n o here apart)) ∙ lookup-insert_same n o _

  -- one more object in a free slot
  pub standing_make : (ps : List (Option (Name × X))) (s : ℕ) (n : Name) (o : X) → place ps s ≡ None → s < length ps → ((k : ℕ) → name_at ps k ≡ Some n → ⊥)
      → standing (set ps s (Some (n, o))) ≡ insert_entry name_cmp (standing ps) n o
  standing_make ps s n o free low fresh =
      let new : List (Option (Name × X)) = set ps s (Some (n, o)) in
      let old : set new s None ≡ ps = set-set ps s _ _ ∙ ap (set ps s) (sym free) ∙ set-get_or ps s None in
      standing-place new s n o (get_or-set_same ps s _ _ low) (λ k other named. fresh k (sym (ap (option_map (λ (e : Name × X). e.0)) (get_or-set_other ps s k _ _ other)) ∙ named))
      ∙ ap (λ qs. insert_entry name_cmp (standing qs) n o) old

  -- an object in place of another of its name
  pub standing-put : (ps : List (Option (Name × X))) (s : ℕ) (n : Name) (o w : X) → place ps s ≡ Some (n, o) → AreApart ps
      → standing (set ps s (Some (n, w))) ≡ set_value (same_name n) (standing ps) w
  standing-put ps s n o w here apart =
      let low : s < length ps = within ps s n o here in
      let alone = alone_from_apart ps s n o here apart in
      standing-place (set ps s (Some (n, w))) s n w (get_or-set_same ps s _ _ low)
      (λ k other named. alone k other (sym (ap (option_map (λ (e : Name × X). e.0)) (get_or-set_other ps s k _ _ other)) ∙ named))
      ∙ ap (λ qs. insert_entry name_cmp (standing qs) n w) (set-set ps s _ _)
      ∙ sym (set-insert n o w _)
      ∙ ap (λ es. set_value (same_name n) es w) (sym (standing-place ps s n o here alone))

  gone : (ps : List (Option (Name × X))) (s : ℕ) (n : Name) → s < length ps → ((k : ℕ) → k ≢ s → name_at ps k ≡ Some n → ⊥) → (k : ℕ) → name_at (set ps s None) k ≡ Some n → ⊥
  gone ps s n low alone k named =
      ⊎_elim
      (λ (same : k ≡ s). let e : name_at (set ps s None) k ≡ None = rw same (ap (option_map (λ (e : Name × X). e.0)) (get_or-set_same ps s None None low))
      in absurd (cc (e, named)))
      (λ (other : k ≢ s). alone k other (sym (ap (option_map (λ (e : Name × X). e.0)) (get_or-set_other ps s k _ _ other)) ∙ named))
      (cases_eq k s)

  -- an object taken away
  pub standing-remove : (ps : List (Option (Name × X))) (s : ℕ) (n : Name) (o : X) → place ps s ≡ Some (n, o) → AreApart ps
      → standing (set ps s None) ≡ remove_entry (same_name n) (standing ps)
  standing-remove ps s n o here apart =
      let low : s < length ps = within ps s n o here in
      let alone = alone_from_apart ps s n o here apart in
      let absent : lookup (same_name n) (standing (set ps s None)) ≡ None = lookup-absent (set ps s None) n (gone ps s n low alone) in
      sym (ap (remove_entry (same_name n)) (standing-place ps s n o here alone) ∙ remove-insert n o (standing (set ps s None)) absent)

  named : Option (Name × X) → Option Name
  named p = option_map (λ e. e.0) p

  name_at-change_part : (q p : Option (Name × X)) (f : X → X) → q ≡ option_map (λ e. (e.0, f e.1)) p → option_map (λ (e : Name × X). e.0) q ≡ option_map (λ (e : Name × X). e.0) p
  name_at-change_part q None f h = ap (option_map (λ (e : Name × X). e.0)) h
  name_at-change_part q (Some e) f h = ap (option_map (λ (e : Name × X). e.0)) h

  -- a change of an object's parts leaves the names
  pub name_at_change : (ps : List (Option (Name × X))) (s : ℕ) (f : X → X) (k : ℕ) → name_at (change ps s f) k ≡ name_at ps k
  name_at_change [] s f k = refl
  name_at_change (p ∷ ps) zero f zero = name_at-change_part (option_map (λ e. (e.0, f e.1)) p) p f refl
  name_at_change (p ∷ ps) zero f (suc k) = refl
  name_at_change (p ∷ ps) (suc s) f zero = refl
  name_at_change (p ∷ ps) (suc s) f (suc k) = name_at_change ps s f k

  -- and the object alone is another
  pub standing_change : (ps : List (Option (Name × X))) (s : ℕ) (f : X → X) → AreApart ps
      → IfSome (place ps s) (λ e. standing (change ps s f) ≡ set_value (same_name e.0) (standing ps) (f e.1))
  standing_change ps s f apart = with (place ps s) refl where
    with : (p : Option (Name × X)) → place ps s ≡ p → IfSome p (λ e. standing (set ps s (option_map (λ e. (e.0, f e.1)) p)) ≡ set_value (same_name e.0) (standing ps) (f e.1))
    with None h = tt
    with (Some e) h = standing-put ps s e.0 e.1 (f e.1) h apart

  pub lookup_absent_below : (ps : List (Option (Name × X))) (n : Name) → ((k : ℕ) → k < length ps → name_at ps k ≡ Some n → ⊥) → lookup (same_name n) (standing ps) ≡ None
  lookup_absent_below ps n none =
      lookup-absent ps n (λ k h. ⊎_elim (λ (low : k < length ps). none k low h)
      (λ (high : length ps ≤ k). let e : name_at ps k ≡ None = ap (option_map (λ (e : Name × X). e.0)) (get_or_past ps k None high) in absurd (cc (e, h))) (cases_lt k (length ps)))

  pub standing_gone : (ps : List (Option (Name × X))) (s : ℕ) → AreApart ps → IfSome (place ps s) (λ e. standing (set ps s None) ≡ remove_entry (same_name e.0) (standing ps))
  standing_gone ps s apart = with (place ps s) refl where
    with : (p : Option (Name × X)) → place ps s ≡ p → IfSome p (λ e. standing (set ps s None) ≡ remove_entry (same_name e.0) (standing ps))
    with None h = tt
    with (Some e) h = standing-remove ps s e.0 e.1 h apart

  -- the names after a write
  pub name_at_set : (ps : List (Option (Name × X))) (s : ℕ) (p : Option (Name × X)) (k : ℕ) → s < length ps
      → (k ≡ s × (name_at (set ps s p) k ≡ option_map (λ (e : Name × X). e.0) p)) ⊎ (k ≢ s × (name_at (set ps s p) k ≡ name_at ps k))
  name_at_set ps s p k low =
      ⊎_elim
      (λ (same : k ≡ s). inl (same, rw same (ap (option_map (λ (e : Name × X). e.0)) (get_or-set_same ps s p None low))))
      (λ (other : k ≢ s). inr (other, ap (option_map (λ (e : Name × X). e.0)) (get_or-set_other ps s k p None other)))
      (cases_eq k s)

  pub within_some : (ps : List (Option (Name × X))) (s : ℕ) → IsSome (place ps s) → s < length ps
  within_some [] s here = absurd (cc)
  within_some (p ∷ ps) zero here = omega arith
  within_some (p ∷ ps) (suc s) here = let h = within_some ps s here in omega arith

  pub none_from_below : (ps : List (Option (Name × X))) (n : Name) → ((k : ℕ) → k < length ps → name_at ps k ≡ Some n → ⊥) → (k : ℕ) → name_at ps k ≡ Some n → ⊥
  none_from_below ps n none k h =
      ⊎_elim (λ (low : k < length ps). none k low h) (λ (high : length ps ≤ k). let e : name_at ps k ≡ None = ap (option_map (λ (e : Name × X). e.0)) (get_or_past ps k None high)
      in absurd (cc (e, h))) (cases_lt k (length ps))

  length-insert : (n : Name) (o : X) (es : List (Name × X)) → lookup (same_name n) es ≡ None → length (insert_entry name_cmp es n o) ≡ length es + 1
  length-insert n o [] absent = refl
  length-insert n o (e ∷ es) absent = grind (arith, nat_tests, length-insert n o es)

  pub apart_tail : (p : Option (Name × X)) (ps : List (Option (Name × X))) → AreApart (p ∷ ps) → AreApart ps
  apart_tail p ps apart i j n a b = let h : suc i ≡ suc j = apart (suc i) (suc j) n a b in omega arith

  -- every slot is taken exactly where as many objects stand
  pub all_taken : (ps : List (Option (Name × X))) → AreApart ps → ((k : ℕ) → k < length ps → IsSome (place ps k)) → length (standing ps) ≡ length ps
  all_taken [] apart all = refl
  all_taken (None ∷ ps) apart all = absurd (let h = all 0 (omega arith) in cc)
  all_taken (Some e ∷ ps) apart all =
      length-insert e.0 e.1 (standing ps) (lookup-absent ps e.0 (λ k named. let h : suc k ≡ 0 = apart (suc k) 0 e.0 named refl in absurd (omega arith)))
      ∙ (let r : length (standing ps) ≡ length ps = all_taken ps (apart_tail (Some e) ps apart) (λ k low. all (suc k) (omega arith)) in omega arith)

  length-insert-le : (n : Name) (o : X) (es : List (Name × X)) → length (insert_entry name_cmp es n o) ≤ length es + 1
  length-insert-le n o [] = omega arith
  length-insert-le n o (e ∷ es) = grind (arith, nat_tests, length-insert-le n o es)

  few_standing : (ps : List (Option (Name × X))) → length (standing ps) ≤ length ps
  few_standing [] = omega arith
  few_standing (None ∷ ps) = let h = few_standing ps in omega arith
  few_standing (Some e ∷ ps) = let h = few_standing ps in let i = length-insert-le e.0 e.1 (standing ps) in omega arith

  pub one_free : (ps : List (Option (Name × X))) (s : ℕ) → s < length ps → place ps s ≡ None → length (standing ps) < length ps
  one_free [] s low free = absurd (omega arith)
  one_free (p ∷ ps) zero low free = rw free (let h = few_standing ps in omega arith)
  one_free (None ∷ ps) (suc s) low free = let h = few_standing ps in omega arith
  one_free (Some e ∷ ps) (suc s) low free =
      let h : length (standing ps) < length ps = one_free ps s (omega arith) free in let i = length-insert-le e.0 e.1 (standing ps) in omega arith

  -- where a slot has a name an object stands
  pub stands_named : (ps : List (Option (Name × X))) (s : ℕ) (n : Name) → name_at ps s ≡ Some n → IsSome (place ps s)
  stands_named ps s n named = with (place ps s) named where
    with : (p : Option (Name × X)) → option_map (λ (e : Name × X). e.0) p ≡ Some n → IsSome p
    with None e = absurd (cc)
    with (Some e) h = refl
