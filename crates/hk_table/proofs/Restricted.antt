-- The objects by rising name, where only some of those in the slots are kept.
use Rattle.std.proofs.Common.{◌≡◌, ◌≢◌, suc, ◌<◌, ◌≤◌, Bool, true, false, cond, List, [], ◌∷◌, map, Option, Some, None, refl, ap, ◌∙◌, sym, subst, arith, ⊎_elim}
use Rattle.std.proofs.lemmas.Bool.{cases_eq, cases_lt}
use Rattle.std.proofs.lemmas.Map.Entries.{option_filter}
use Rattle.std.specs.Ordering.{match_ordering}
use Rattle.std.specs.List.{filter}
use Rattle.std.proofs.lemmas.Bool.Decides.{nat_tests}
use Rattle.std.specs.Map.{lookup}
use Rattle.std.specs.BTreeMap.{insert_entry}
use Rattle.hk_model.specs.declared.names.Name.{Name}
use Rattle.hk_model.specs.State.{name_cmp, same_name}
use Rattle.hk_objects.specs.Slots.{placed, standing, AreApart}
use Rattle.hk_objects.proofs.Standing.{lookup-absent, apart_tail}

module _ {X : Type 0} where
  abbrev Above : Name → List (Name × X) → Type 0
  Above n [] = Unit {0}
  Above n (e ∷ es) = (n.0 < e.0.0) × Above n es

  abbrev Rising : List (Name × X) → Type 0
  Rising [] = Unit {0}
  Rising (e ∷ es) = Above e.0 es × Rising es

  above_more : (m n : Name) (es : List (Name × X)) → m.0 < n.0 → Above n es → Above m es
  above_more m n [] low h = tt
  above_more m n (e ∷ es) low h = (let k : n.0 < e.0.0 = h.0 in omega arith, above_more m n es low h.1)

  above_filter : (p : Name × X → Bool) (n : Name) (es : List (Name × X)) → Above n es → Above n (filter p es)
  above_filter p n [] h = tt
  above_filter p n (e ∷ es) h =
      let rest : Above n (filter p es) = above_filter p n es h.1 in
      elim (p e) as (λ (b : Bool). Above n (cond b (e ∷ filter p es) (filter p es))) [ true ↦ (h.0, rest) | false ↦ rest ]

  insert_first : (n : Name) (o : X) (es : List (Name × X)) → Above n es → insert_entry name_cmp es n o ≡ (n, o) ∷ es
  insert_first n o [] h = refl
  insert_first n o (e ∷ es) h = let k : n.0 < e.0.0 = h.0 in grind (arith, nat_tests)

  -- the three cases of a place in the order
  pub three : (n m : Name) (P : List (Name × X) → Type 0) (a b c : List (Name × X)) → (n.0 < m.0 → P a) → (n.0 ≡ m.0 → P b) → (m.0 < n.0 → P c)
      → P (match_ordering (name_cmp n m) a b c)
  three n m P a b c l e g =
      ⊎_elim
      (λ (low : n.0 < m.0). let k : match_ordering (name_cmp n m) a b c ≡ a = grind (arith, nat_tests) in subst P (sym k) (l low))
      (λ (high : m.0 ≤ n.0). ⊎_elim
      (λ (same : n.0 ≡ m.0). let k : match_ordering (name_cmp n m) a b c ≡ b = grind (arith, nat_tests) in subst P (sym k) (e same))
      (λ (other : n.0 ≢ m.0). let k : match_ordering (name_cmp n m) a b c ≡ c = grind (arith, nat_tests) in subst P (sym k) (g (omega arith)))
      (cases_eq n.0 m.0))
      (cases_lt n.0 m.0)

  pub there : (n : Name) (e : Name × X) (es : List (Name × X)) → n.0 ≡ e.0.0 → lookup (same_name n) (e ∷ es) ≡ None → ⊥
  there n e es same absent = let k : same_name n e.0 ≡ true = grind (arith, nat_tests) in
      absurd (let h : cond true (Some e.1) (lookup (same_name n) es) ≡ None = subst (λ (b : Bool). cond b (Some e.1) (lookup (same_name n) es) ≡ None) k absent in cc)

  pub elsewhere : (n : Name) (e : Name × X) (es : List (Name × X)) → e.0.0 < n.0 → lookup (same_name n) (e ∷ es) ≡ None → lookup (same_name n) es ≡ None
  elsewhere n e es high absent = let k : same_name n e.0 ≡ false = grind (arith, nat_tests) in subst (λ (b : Bool). cond b (Some e.1) (lookup (same_name n) es) ≡ None) k absent

  past_cases : (b c : Bool) (n : Name) (o : X) (e : Name × X) (xs ys : List (Name × X)) → e.0.0 < n.0 → ys ≡ cond b (insert_entry name_cmp xs n o) xs
      → cond c (e ∷ ys) ys ≡ cond b (insert_entry name_cmp (cond c (e ∷ xs) xs) n o) (cond c (e ∷ xs) xs)
  past_cases true true n o e xs ys high h = grind (arith, nat_tests)
  past_cases true false n o e xs ys high h = h
  past_cases false true n o e xs ys high h = ap (λ zs. e ∷ zs) h
  past_cases false false n o e xs ys high h = h

  past : (p : Name × X → Bool) (n : Name) (o : X) (e : Name × X) (xs ys : List (Name × X)) → e.0.0 < n.0 → ys ≡ cond (p (n, o)) (insert_entry name_cmp xs n o) xs
      → cond (p e) (e ∷ ys) ys ≡ cond (p (n, o)) (insert_entry name_cmp (cond (p e) (e ∷ xs) xs) n o) (cond (p e) (e ∷ xs) xs)
  past p n o e xs ys high h = past_cases (p (n, o)) (p e) n o e xs ys high h

  kept_one : (b : Bool) (e : Name × X) (xs : List (Name × X)) → placed (cond b (Some e) None) xs ≡ cond b (insert_entry name_cmp xs e.0 e.1) xs
  kept_one true e xs = refl
  kept_one false e xs = refl

  above_insert : (m n : Name) (o : X) (es : List (Name × X)) → m.0 < n.0 → Above m es → Above m (insert_entry name_cmp es n o)
  above_insert m n o [] low h = (low, tt)
  above_insert m n o (e ∷ es) low h =
      let rest : Above m (insert_entry name_cmp es n o) = above_insert m n o es low h.1 in
      let P : List (Name × X) → Type 0 = λ xs. Above m xs in
      three n e.0 P ((n, o) ∷ e ∷ es) ((e.0, o) ∷ es) (e ∷ insert_entry name_cmp es n o) (λ _. (low, h)) (λ _. (h.0, h.1)) (λ _. (h.0, rest))

  rising_insert : (n : Name) (o : X) (es : List (Name × X)) → Rising es → Rising (insert_entry name_cmp es n o)
  rising_insert n o [] h = (tt, tt)
  rising_insert n o (e ∷ es) h =
      let rest : Rising (insert_entry name_cmp es n o) = rising_insert n o es h.1 in
      three n e.0 (λ xs. Rising xs) ((n, o) ∷ e ∷ es) ((e.0, o) ∷ es) (e ∷ insert_entry name_cmp es n o)
      (λ low. ((low, above_more n e.0 es low h.0), h)) (λ _. h) (λ high. (above_insert e.0 n o es high h.0, rest))

  pub rising_standing : (ps : List (Option (Name × X))) → Rising (standing ps)
  rising_standing [] = tt
  rising_standing (None ∷ ps) = rising_standing ps
  rising_standing (Some e ∷ ps) = rising_insert e.0 e.1 (standing ps) (rising_standing ps)

  filter_insert : (p : Name × X → Bool) (n : Name) (o : X) (es : List (Name × X)) → Rising es → lookup (same_name n) es ≡ None
      → filter p (insert_entry name_cmp es n o) ≡ cond (p (n, o)) (insert_entry name_cmp (filter p es) n o) (filter p es)
  filter_insert p n o [] h absent = refl
  filter_insert p n o (e ∷ es) h absent =
      three n e.0 (λ xs. filter p xs ≡ cond (p (n, o)) (insert_entry name_cmp (filter p (e ∷ es)) n o) (filter p (e ∷ es)))
      ((n, o) ∷ e ∷ es) ((e.0, o) ∷ es) (e ∷ insert_entry name_cmp es n o)
      (λ low.
      let above : Above n (filter p (e ∷ es)) = above_filter p n (e ∷ es) (low, above_more n e.0 es low h.0) in
      ap (λ (xs : List (Name × X)). cond (p (n, o)) xs (filter p (e ∷ es))) (sym (insert_first n o (filter p (e ∷ es)) above)))
      (λ same. absurd (there n e es same absent))
      (λ high. past p n o e (filter p es) (filter p (insert_entry name_cmp es n o)) high
      (filter_insert p n o es h.1 (elsewhere n e es high absent)))

  -- the kept ones of the slots, by rising name
  pub standing_kept : (p : Name × X → Bool) (ps : List (Option (Name × X))) → AreApart ps → standing (map (option_filter p) ps) ≡ filter p (standing ps)
  standing_kept p [] apart = refl
  standing_kept p (None ∷ ps) apart = standing_kept p ps (apart_tail None ps apart)
  standing_kept p (Some e ∷ ps) apart =
      let rest : standing (map (option_filter p) ps) ≡ filter p (standing ps) = standing_kept p ps (apart_tail (Some e) ps apart) in
      let absent : lookup (same_name e.0) (standing ps) ≡ None = lookup-absent ps e.0 (λ k named. let h : suc k ≡ 0 = apart (suc k) 0 e.0 named refl in absurd (omega arith)) in
      kept_one (p e) e (standing (map (option_filter p) ps)) ∙ ap (λ xs. cond (p e) (insert_entry name_cmp xs e.0 e.1) xs) rest
      ∙ sym (filter_insert p e.0 e.1 (standing ps) (rising_standing ps) absent)
