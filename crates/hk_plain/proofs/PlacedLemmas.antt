-- An incarnation's number that is put back at its place among the others, and one that is given back.
use Rattle.std.proofs.Common.{◌≡◌, ℕ, zero, suc, ◌+◌, ◌-◌, ◌<◌, ◌≤◌, ◌==◌, nat_lt, Bool, true, false, not, cond, List, [], ◌∷◌, ◌++◌, length, take, drop, get_or, Some, None, refl, ap, sym, ◌∙◌, arith, subst}
use Rattle.std.proofs.lemmas.List.{at_drop_more, take_more, append_assoc}
use Rattle.std.proofs.Math.ListN.{drop_of_length-le}
use Rattle.std.specs.Map.{lookup, remove_entry}
use Rattle.std.specs.Ordering.{nat_cmp, is_eq, match_ordering}
use Rattle.std.specs.declared.cmp.Ordering.{Ordering}
use Rattle.std.specs.declared.cmp.Ordering.TheVariants.{Less, Equal, Greater}
use Rattle.std.specs.BTreeMap.{insert_entry}
use Rattle.std.proofs.lemmas.Bool.Decides.{nat_tests}
use Rattle.hk_model.specs.declared.names.Inc.{Inc}
use Rattle.hk_model.specs.declared.names.Proc.{Proc}
use Rattle.hk_model.specs.declared.objects.Incarnation.{Incarnation}
use Rattle.hk_model.specs.State.{same_inc, inc_cmp}
use Rattle.hk_plain.specs.Stacks.{numbers_of, stack, without, placed, Rises, IsStacked}
use Rattle.hk_plain.proofs.StackLemmas.{Live, AllAbove, rises_span, numbers_above, numbers_removed, numbers_other}

-- ---- the place among some numbers

-- the place is found from the front
module _ (inc : Inc) (xs : List Inc) (n : ℕ) (x : Inc) (there : n < length xs) (is : x ≡ get_or xs n x) where
  rest_is : drop n xs ≡ x ∷ drop (n + 1) xs
  rest_is = at_drop_more (λ (ys : List Inc). ys) xs n x there ∙ ap (λ (y : Inc). y ∷ drop (n + 1) xs) (sym is)

  front_is : take (n + 1) xs ≡ take n xs ++ x ∷ []
  front_is = take_more xs n x there ∙ ap (λ (y : Inc). take n xs ++ y ∷ []) (sym is)

  pub place_further : x.0 < inc.0 → take n xs ++ placed inc (drop n xs) ≡ placed inc xs → take (n + 1) xs ++ placed inc (drop (n + 1) xs) ≡ placed inc xs
  place_further low h =
      let below : nat_lt x.0 inc.0 ≡ true = grind (arith, nat_tests) in
      let step : placed inc (drop n xs) ≡ x ∷ placed inc (drop (n + 1) xs) =
      ap (placed inc) rest_is ∙ ap (λ (b : Bool). cond b (x ∷ placed inc (drop (n + 1) xs)) (inc ∷ x ∷ drop (n + 1) xs)) below in
      ap (λ (ys : List Inc). ys ++ placed inc (drop (n + 1) xs)) front_is
      ∙ append_assoc (take n xs) (x ∷ []) (placed inc (drop (n + 1) xs))
      ∙ ap (λ (ys : List Inc). take n xs ++ ys) (sym step) ∙ h

  pub place_here : inc.0 ≤ x.0 → take n xs ++ placed inc (drop n xs) ≡ placed inc xs → take n xs ++ inc ∷ drop n xs ≡ placed inc xs
  place_here low h =
      let above : nat_lt x.0 inc.0 ≡ false = grind (arith, nat_tests) in
      let step : placed inc (drop n xs) ≡ inc ∷ drop n xs =
      ap (placed inc) rest_is ∙ ap (λ (b : Bool). cond b (x ∷ placed inc (drop (n + 1) xs)) (inc ∷ x ∷ drop (n + 1) xs)) above
      ∙ ap (λ (ys : List Inc). inc ∷ ys) (sym rest_is) in
      ap (λ (ys : List Inc). take n xs ++ ys) (sym step) ∙ h

pub place_last : (inc : Inc) (xs : List Inc) (n : ℕ) → length xs ≤ n → take n xs ++ placed inc (drop n xs) ≡ placed inc xs → take n xs ++ inc ∷ drop n xs ≡ placed inc xs
place_last inc xs n past h =
    let none : drop n xs ≡ [] = drop_of_length-le xs past in
    ap (λ (ys : List Inc). take n xs ++ inc ∷ ys) none ∙ ap (λ (ys : List Inc). take n xs ++ placed inc ys) (sym none) ∙ h

-- before those that are above
placed_first : (inc : Inc) (xs : List Inc) → AllAbove inc.0 xs → placed inc xs ≡ inc ∷ xs
placed_first inc [] above = refl
placed_first inc (x ∷ xs) above =
    let past : nat_lt x.0 inc.0 ≡ false = not_below x.0 inc.0 above.0 in
    ap (λ (b : Bool). cond b (x ∷ placed inc xs) (inc ∷ x ∷ xs)) past
  where
    not_below : (a b : ℕ) → b < a → nat_lt a b ≡ false
    not_below a b low = grind (arith, nat_tests)

-- a number that is put in goes again
without_placed : (inc : Inc) (xs : List Inc) → without inc (placed inc xs) ≡ without inc xs
without_placed inc [] = let it : (inc.0 == inc.0) ≡ true = grind (arith, nat_tests) in rw it refl
without_placed inc (x ∷ xs) = by (nat_lt x.0 inc.0) (without_placed inc xs)
  where
    by : (b : Bool) → without inc (placed inc xs) ≡ without inc xs → without inc (cond b (x ∷ placed inc xs) (inc ∷ x ∷ xs)) ≡ without inc (x ∷ xs)
    by true rest = ap (λ (ys : List Inc). cond (not (x.0 == inc.0)) (x ∷ ys) ys) rest
    by false rest = let it : (inc.0 == inc.0) ≡ true = grind (arith, nat_tests) in rw it refl

-- ---- an incarnation that is put back

rises_placed : (low : ℕ) (es : Live) (high : ℕ) (inc : Inc) (x : Incarnation) → low ≤ inc.0 → inc.0 < high → Rises low es high → Rises low (insert_entry inc_cmp es inc x) high
rises_placed low [] high inc x from to h = (from, omega arith)
rises_placed low (e ∷ es) high inc x from to h = by (λ up. rises_placed (e.0.0 + 1) es high inc x up to h.1) (inc_cmp inc e.0) refl
  where
    less : (a b : ℕ) → nat_cmp a b ≡ Less → a + 1 ≤ b
    less a b k = grind (arith, nat_tests)

    greater : (a b : ℕ) → nat_cmp a b ≡ Greater → b + 1 ≤ a
    greater a b k = grind (arith, nat_tests)

    by : (e.0.0 + 1 ≤ inc.0 → Rises (e.0.0 + 1) (insert_entry inc_cmp es inc x) high) → (r : Ordering) → inc_cmp inc e.0 ≡ r
        → Rises low (match_ordering r ((inc, x) ∷ e ∷ es) ((e.0, x) ∷ es) (e ∷ insert_entry inc_cmp es inc x)) high
    by rest Less k = (from, (less inc.0 e.0.0 k, h.1))
    by rest Equal k = (h.0, h.1)
    by rest Greater k = (h.0, rest (greater inc.0 e.0.0 k))

numbers_placed : (proc : Proc) (low : ℕ) (es : Live) (high : ℕ) (inc : Inc) (x : Incarnation) → Rises low es high → lookup (same_inc inc) es ≡ None
    → numbers_of proc (insert_entry inc_cmp es inc x) ≡ cond (x.proc.0 == proc.0) (placed inc (numbers_of proc es)) (numbers_of proc es)
numbers_placed proc low [] high inc x h none = refl
numbers_placed proc low (e ∷ es) high inc x h none = by (λ absent. numbers_placed proc (e.0.0 + 1) es high inc x h.1 absent) (inc_cmp inc e.0) refl none
  where
    low_one : (a b : ℕ) → nat_cmp a b ≡ Less → a < b
    low_one a b k = grind (arith, nat_tests)

    below : (a b : ℕ) → nat_cmp a b ≡ Greater → nat_lt b a ≡ true
    below a b k = grind (arith, nat_tests)

    first : AllAbove inc.0 (numbers_of proc (e ∷ es)) → (c : Bool)
        → cond c (inc ∷ numbers_of proc (e ∷ es)) (numbers_of proc (e ∷ es)) ≡ cond c (placed inc (numbers_of proc (e ∷ es))) (numbers_of proc (e ∷ es))
    first above true = sym (placed_first inc (numbers_of proc (e ∷ es)) above)
    first above false = refl

    later : nat_lt e.0.0 inc.0 ≡ true → (b c : Bool) → numbers_of proc (insert_entry inc_cmp es inc x) ≡ cond c (placed inc (numbers_of proc es)) (numbers_of proc es)
        → cond b (e.0 ∷ numbers_of proc (insert_entry inc_cmp es inc x)) (numbers_of proc (insert_entry inc_cmp es inc x)) ≡ cond c
        (placed inc (cond b (e.0 ∷ numbers_of proc es) (numbers_of proc es))) (cond b (e.0 ∷ numbers_of proc es) (numbers_of proc es))
    later past true true rest =
        ap (λ (ys : List Inc). e.0 ∷ ys) rest ∙ sym (ap (λ (b : Bool). cond b (e.0 ∷ placed inc (numbers_of proc es)) (inc ∷ e.0 ∷ numbers_of proc es)) past)
    later past true false rest = ap (λ (ys : List Inc). e.0 ∷ ys) rest
    later past false c rest = rest

    by : (lookup (same_inc inc) es ≡ None → numbers_of proc (insert_entry inc_cmp es inc x) ≡ cond (x.proc.0 == proc.0) (placed inc (numbers_of proc es)) (numbers_of proc es))
        → (r : Ordering) → inc_cmp inc e.0 ≡ r → cond (is_eq r) (Some e.1) (lookup (same_inc inc) es) ≡ None
        → numbers_of proc (match_ordering r ((inc, x) ∷ e ∷ es) ((e.0, x) ∷ es) (e ∷ insert_entry inc_cmp es inc x)) ≡ cond (x.proc.0 == proc.0)
        (placed inc (numbers_of proc (e ∷ es))) (numbers_of proc (e ∷ es))
    by rest Less k absent = first (numbers_above proc e.0.0 (e ∷ es) high inc.0 (low_one inc.0 e.0.0 k) (omega arith, h.1)) (x.proc.0 == proc.0)
    by rest Equal k absent = absurd (cc)
    by rest Greater k absent = later (below inc.0 e.0.0 k) (e.1.proc.0 == proc.0) (x.proc.0 == proc.0) (rest absent)

pub stacked_placed : (live : Live) (stacks later : List (Proc × List Inc)) (next inc : Inc) (x : Incarnation) → IsStacked live stacks next → inc.0 < next.0
    → lookup (same_inc inc) live ≡ None → ((q : Proc) → stack later q ≡ cond (x.proc.0 == q.0) (placed inc (stack stacks q)) (stack stacks q))
    → IsStacked (insert_entry inc_cmp live inc x) later next
stacked_placed live stacks later next inc x h low none more = record {
  rising = rises_placed 0 live next.0 inc x (omega arith) low h.rising;
  stacked =
      λ q. more q ∙ ap (λ (xs : List Inc). cond (x.proc.0 == q.0) (placed inc xs) xs) (h.stacked q) ∙ sym (numbers_placed q 0 live next.0 inc x h.rising none);
}

-- a number that was put in goes again
remove_absent : (inc : Inc) (es : Live) → lookup (same_inc inc) es ≡ None → remove_entry (same_inc inc) es ≡ es
remove_absent inc [] none = refl
remove_absent inc (e ∷ es) none = by (same_inc inc e.0) none (λ rest. remove_absent inc es rest)
  where
    by : (b : Bool) → cond b (Some e.1) (lookup (same_inc inc) es) ≡ None → (lookup (same_inc inc) es ≡ None → remove_entry (same_inc inc) es ≡ es)
        → cond b es (e ∷ remove_entry (same_inc inc) es) ≡ e ∷ es
    by true absent rest = absurd (cc)
    by false absent rest = ap (λ (ys : Live). e ∷ ys) (rest absent)

pub stacked_unplaced : (live : Live) (stacks put later : List (Proc × List Inc)) (next inc : Inc) (proc : Proc) → IsStacked live stacks next → lookup (same_inc inc) live ≡ None
    → ((q : Proc) → stack put q ≡ cond (proc.0 == q.0) (placed inc (stack stacks q)) (stack stacks q))
    → ((q : Proc) → stack later q ≡ cond (proc.0 == q.0) (without inc (stack put q)) (stack put q)) → IsStacked live later next
stacked_unplaced live stacks put later next inc proc h none more less = record {
  rising = h.rising;
  stacked = λ q. less q ∙ by q (proc.0 == q.0) (more q);
}
  where
    not_there : (q : Proc) → without inc (numbers_of q live) ≡ numbers_of q live
    not_there q = sym (numbers_removed q 0 live next.0 inc h.rising) ∙ ap (λ (es : Live). numbers_of q es) (remove_absent inc live none)

    by : (q : Proc) (b : Bool) → stack put q ≡ cond b (placed inc (stack stacks q)) (stack stacks q) → cond b (without inc (stack put q)) (stack put q) ≡ numbers_of q live
    by q true e = ap (without inc) e ∙ without_placed inc (stack stacks q) ∙ ap (without inc) (h.stacked q) ∙ not_there q
    by q false e = e ∙ h.stacked q

-- ---- the last number is given back

rises_past : (n : ℕ) (es : Live) (high : ℕ) → high ≤ n → Rises n es high → es ≡ []
rises_past n [] high past h = refl
rises_past n (e ∷ es) high past h = absurd (omega (arith, h.0, rises_span (e.0.0 + 1) es high h.1))

rises_last : (low : ℕ) (es : Live) (last : Inc) → low ≤ last.0 → Rises low es (last.0 + 1) → Rises low (remove_entry (same_inc last) es) last.0
rises_last low [] last from h = from
rises_last low (e ∷ es) last from h = by (λ up. rises_last (e.0.0 + 1) es last up h.1) (is_eq (nat_cmp last.0 e.0.0)) refl
  where
    is_last : (a b : ℕ) → is_eq (nat_cmp a b) ≡ true → a ≡ b
    is_last a b k = grind (arith, nat_tests)

    is_other : (a b : ℕ) → is_eq (nat_cmp a b) ≡ false → b ≤ a → b + 1 ≤ a
    is_other a b k l = grind (arith, nat_tests)

    by : (e.0.0 + 1 ≤ last.0 → Rises (e.0.0 + 1) (remove_entry (same_inc last) es) last.0)
        → (b : Bool) → is_eq (nat_cmp last.0 e.0.0) ≡ b → Rises low (cond b es (e ∷ remove_entry (same_inc last) es)) last.0
    by rest true k =
        let it : last.0 ≡ e.0.0 = is_last last.0 e.0.0 k in
        let none : es ≡ [] = rises_past (e.0.0 + 1) es (last.0 + 1) (omega arith) h.1 in
        subst (λ (ys : Live). Rises low ys last.0) (sym none) from
    by rest false k =
        let within : e.0.0 ≤ last.0 = omega (arith, rises_span (e.0.0 + 1) es (last.0 + 1) h.1) in
        (h.0, rest (is_other last.0 e.0.0 k within))

rises_back : (es : Live) (next last : Inc) → last.0 ≡ next.0 - 1 → Rises 0 es next.0 → Rises 0 (remove_entry (same_inc last) es) last.0
rises_back es next last is h = by next.0 refl
  where
    by : (n : ℕ) → next.0 ≡ n → Rises 0 (remove_entry (same_inc last) es) last.0
    by zero k =
        let none : es ≡ [] = rises_past 0 es next.0 (omega arith) h in
        subst (λ (ys : Live). Rises 0 (remove_entry (same_inc last) ys) last.0) (sym none) (omega arith)
    by (suc n) k =
        let up : next.0 ≡ last.0 + 1 = omega arith in
        rises_last 0 es last (omega arith) (subst (λ (m : ℕ). Rises 0 es m) up h)

pub stacked_last : (live : Live) (stacks later : List (Proc × List Inc)) (next last : Inc) (x : Incarnation) → last.0 ≡ next.0 - 1 → IsStacked live stacks next
    → lookup (same_inc last) live ≡ Some x → ((q : Proc) → stack later q ≡ cond (x.proc.0 == q.0) (without last (stack stacks q)) (stack stacks q))
    → IsStacked (remove_entry (same_inc last) live) later last
stacked_last live stacks later next last x is h there less = record {
  rising = rises_back live next last is h.rising;
  stacked = λ q. less q ∙ by q (x.proc.0 == q.0) refl;
}
  where
    by : (q : Proc) (b : Bool) → (x.proc.0 == q.0) ≡ b → cond b (without last (stack stacks q)) (stack stacks q) ≡ numbers_of q (remove_entry (same_inc last) live)
    by q true e = ap (without last) (h.stacked q) ∙ sym (numbers_removed q 0 live next.0 last h.rising)
    by q false e = h.stacked q ∙ sym (numbers_other q (same_inc last) live x there e)

-- no incarnation took it
pub stacked_none : (live : Live) (stacks : List (Proc × List Inc)) (next last : Inc) → last.0 ≡ next.0 - 1 → IsStacked live stacks next → lookup (same_inc last) live ≡ None
    → IsStacked live stacks last
stacked_none live stacks next last is h none = record {
  rising = subst (λ (es : Live). Rises 0 es last.0) (remove_absent last live none) (rises_back live next last is h.rising);
  stacked = h.stacked;
}

pub none_removed : (inc : Inc) (es : Live) → None ≡ lookup (same_inc inc) es → remove_entry (same_inc inc) es ≡ es
none_removed inc es none = remove_absent inc es (sym none)
