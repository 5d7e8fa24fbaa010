-- What keeps an index.
use Rattle.std.proofs.Common.{◌≡◌, ◌≢◌, ℕ, zero, suc, ◌<◌, ◌≤◌, ◌%◌, Bool, true, false, cond, List, [], ◌∷◌, ◌++◌, length, set, map, Option, Some, None, IsSome, refl, ap, ◌∙◌, sym}
use Rattle.std.proofs.Common.{subst, arith, ⊎_elim, ◌||◌, length-set, replicate, get_or-set_same, get_or-set_other}
use Rattle.std.specs.Prelude.{slice_get, slice_index_or}
use Rattle.std.proofs.lemmas.Bool.Decides.{nat_tests}
use Rattle.std.proofs.lemmas.Bool.{cases_eq}
use Rattle.std.proofs.lemmas.List.{length-map, length-replicate}
use Rattle.std.specs.Bool.{◌==◌}
use Rattle.std.specs.List.{list_any}
use Rattle.hk_model.specs.declared.names.Name.{Name}
use Rattle.hk_links.specs.Chained.{Chained, in_list, listed, without}
use Rattle.hk_links.proofs.Lists.{in_list-unlink, in_list-push}
use Rattle.hk_objects.specs.Indexed.{IsIndexed, named_at, is_led_to, leads}

-- one of three tests holds
none_of : (a b d : Bool) → (a || b) || d ≡ true → (a ≡ true → ⊥) → (b ≡ true → ⊥) → (d ≡ true → ⊥) → ⊥
none_of true b d h first second third = first refl
none_of false true d h first second third = second refl
none_of false false d h first second third = third h

by_first : (a b d : Bool) → a ≡ true → (a || b) || d ≡ true
by_first true b d h = refl
by_first false b d h = absurd (cc)

by_second : (a b d : Bool) → b ≡ true → (a || b) || d ≡ true
by_second true b d h = refl
by_second false true d h = refl
by_second false false d h = absurd (cc)

by_third : (a b d : Bool) → d ≡ true → (a || b) || d ≡ true
by_third true b d h = refl
by_third false true d h = refl
by_third false false d h = h

more : (a b d c e : Bool) → (b ≡ true → c ≡ true) → (d ≡ true → e ≡ true) → (a || b) || d ≡ true → (a || c) || e ≡ true
more true b d c e second third h = refl
more false true d c e second third h = by_second false c e (second refl)
more false false d c e second third h = by_third false c e (third h)

-- a free slot is in no list
pub lone_slot : (ns : List (Option Name)) (ps : List (Option ℕ)) (c : Chained) (s : ℕ) → IsIndexed ns ps c → named_at ns s ≡ None
    → (l : ℕ) → l < length c.lists → in_list c.lists l s ≡ false
lone_slot ns ps c s h free l low = with (in_list c.lists l s) (h.named l s (omega (arith, h.size))) where
  with : (b : Bool) → (b ≡ true → IsSome (named_at ns s)) → b ≡ false
  with true some = absurd (let o : Option Name = None in let k : IsSome o = subst (λ (o : Option Name). IsSome o) free (some refl) in cc)
  with false some = refl

-- neither the slot of its remainder has a name, nor the one that this leads to, nor one in its list, so none has it
pub none_named : (ns : List (Option Name)) (ps : List (Option ℕ)) (c : Chained) (n : Name) → IsIndexed ns ps c
    → (named_at ns (n.0 % 65536) ≡ Some n → ⊥)
    → ((s : ℕ) → is_led_to ps (n.0 % 65536) s ≡ true → named_at ns s ≡ Some n → ⊥)
    → ((k s : ℕ) → slice_get (listed c.lists (n.0 % 65536)) k ≡ Some s → named_at ns s ≡ Some n → ⊥)
    → (s : ℕ) → named_at ns s ≡ Some n → ⊥
none_named ns ps c n h home led none s named =
    none_of (s == n.0 % 65536) (is_led_to ps (n.0 % 65536) s) (in_list c.lists (n.0 % 65536) s) (h.there s n named)
    (λ is. let same : s ≡ n.0 % 65536 = grind (arith, nat_tests) in home (subst (λ (t : ℕ). named_at ns t ≡ Some n) same named))
    (λ is. led s is named)
    (λ is. among (listed c.lists (n.0 % 65536)) none is)
  where
    among : (xs : List ℕ) → ((k t : ℕ) → slice_get xs k ≡ Some t → named_at ns t ≡ Some n → ⊥) → list_any (λ x. s == x) xs ≡ true → ⊥
    among [] none any = cc
    among (x ∷ xs) none any =
        ⊎_elim
        (λ (same : s ≡ x). none zero s (ap (λ (y : ℕ). let o : Option ℕ = Some y in o) (sym same)) named)
        (λ (other : s ≢ x). among xs (λ k. none (suc k)) (grind (arith, nat_tests)))
        (cases_eq s x)

pub past_end : (xs : List ℕ) (k : ℕ) → None ≡ slice_get xs k → length xs ≤ k
past_end [] k e = omega arith
past_end (x ∷ xs) zero e = absurd (cc)
past_end (x ∷ xs) (suc k) e = let h = past_end xs k e in omega arith

short : (xs : List ℕ) (k s : ℕ) → slice_get xs k ≡ Some s → k < length xs
short [] k s e = absurd (cc)
short (x ∷ xs) zero s e = omega arith
short (x ∷ xs) (suc k) s e = let h = short xs k s e in omega arith

-- what holds of all places of a list below a number that is not less than its length holds of all
pub none_below : (ns : List (Option Name)) (xs : List ℕ) (n : Name) (m : ℕ) → length xs ≤ m
    → ((k s : ℕ) → k < m → slice_get xs k ≡ Some s → named_at ns s ≡ Some n → ⊥)
    → (k s : ℕ) → slice_get xs k ≡ Some s → named_at ns s ≡ Some n → ⊥
none_below ns xs n m few none k s here = let low : k < length xs = short xs k s here in none k s (omega (arith, low)) here

-- a slot with a name has one still, where one slot more has
named_more : (ns : List (Option Name)) (s : ℕ) (n : Name) (t : ℕ) → s < length ns → IsSome (named_at ns t) → IsSome (named_at (set ns s (Some n)) t)
named_more ns s n t low some =
    ⊎_elim
    (λ (same : t ≡ s). let k : named_at (set ns s (Some n)) t ≡ Some n = rw same (get_or-set_same ns s (Some n) None low) in rw k refl)
    (λ (other : t ≢ s). rw (get_or-set_other ns s t (Some n) None other) some)
    (cases_eq t s)

-- what the slot that was given a name has
named_now : (ns : List (Option Name)) (s : ℕ) (n m : Name) (t : ℕ) → s < length ns → t ≡ s → named_at (set ns s (Some n)) t ≡ Some m → m ≡ n
named_now ns s n m t low same named = let k : named_at (set ns s (Some n)) t ≡ Some n = rw same (get_or-set_same ns s (Some n) None low) in cc (k, named)

-- a name in the slot of its remainder
pub put_home : (ns : List (Option Name)) (ps : List (Option ℕ)) (c : Chained) (s : ℕ) (n : Name) → IsIndexed ns ps c → s < 65536 → s ≡ n.0 % 65536
    → IsIndexed (set ns s (Some n)) ps c
put_home ns ps c s n h low home = record {
  room = length-set ns s (Some n) ∙ h.room;
  leading = h.leading;
  cells = h.cells;
  size = h.size;
  there = λ t m named.
      ⊎_elim
      (λ (same : t ≡ s).
      let q : m ≡ n = named_now ns s n m t (omega (arith, h.room)) same named in
      let e : (t == m.0 % 65536) ≡ true = rw (q, same) (grind (arith, nat_tests)) in
      by_first (t == m.0 % 65536) (is_led_to ps (m.0 % 65536) t) (in_list c.lists (m.0 % 65536) t) e)
      (λ (other : t ≢ s). h.there t m (sym (get_or-set_other ns s t (Some n) None other) ∙ named))
      (cases_eq t s);
  named = λ l t small here. named_more ns s n t (omega (arith, h.room)) (h.named l t small here);
}

-- a remainder that leads to no slot with a name of its own leads to none that has one
not_led : (ns : List (Option Name)) (ps : List (Option ℕ)) (r t : ℕ) (m : Name) → leads ns ps r ≡ false → named_at ns t ≡ Some m → m.0 % 65536 ≡ r
    → is_led_to ps r t ≡ true → ⊥
not_led ns ps r t m none named same led = by (slice_index_or ps r None) none led where
  by : (o : Option ℕ) → elim o [ None ↦ false | Some place ↦ elim (named_at ns place) [ None ↦ false | Some name ↦ name.0 % 65536 == r ] ] ≡ false
      → elim o [ None ↦ false | Some place ↦ place == t ] ≡ true → ⊥
  by None none led = cc
  by (Some place) none led =
      let e : place ≡ t = grind (arith, nat_tests) in
      let k : named_at ns place ≡ Some m = rw e named in
      let q : (m.0 % 65536 == r) ≡ false = subst (λ (o : Option Name). elim o [ None ↦ false | Some name ↦ name.0 % 65536 == r ] ≡ false) k none in
      grind (arith, nat_tests)

-- a name in a slot that its remainder leads to from now on
pub put_led : (ns : List (Option Name)) (ps : List (Option ℕ)) (c : Chained) (s : ℕ) (n : Name) → IsIndexed ns ps c → s < 65536
    → leads ns ps (n.0 % 65536) ≡ false → IsIndexed (set ns s (Some n)) (set ps (n.0 % 65536) (Some s)) c
put_led ns ps c s n h low none =
    let r : ℕ = n.0 % 65536 in
    let small : r < length ps = omega (arith, h.leading) in
    record {
      room = length-set ns s (Some n) ∙ h.room;
      leading = length-set ps r (Some s) ∙ h.leading;
      cells = h.cells;
      size = h.size;
      there = λ t m named.
          ⊎_elim
          (λ (same : t ≡ s).
          let q : m ≡ n = named_now ns s n m t (omega (arith, h.room)) same named in
          let e : slice_index_or (set ps r (Some s)) (m.0 % 65536) None ≡ Some s = rw q (get_or-set_same ps r (Some s) None small) in
          let k : (s == t) ≡ true = grind (arith, nat_tests) in
          let g : is_led_to (set ps r (Some s)) (m.0 % 65536) t ≡ true = subst (λ (o : Option ℕ). elim o [ None ↦ false | Some place ↦ place == t ] ≡ true) (sym e) k in
          by_second (t == m.0 % 65536) (is_led_to (set ps r (Some s)) (m.0 % 65536) t) (in_list c.lists (m.0 % 65536) t) g)
          (λ (other : t ≢ s).
          let was : named_at ns t ≡ Some m = sym (get_or-set_other ns s t (Some n) None other) ∙ named in
          more (t == m.0 % 65536) (is_led_to ps (m.0 % 65536) t) (in_list c.lists (m.0 % 65536) t)
          (is_led_to (set ps r (Some s)) (m.0 % 65536) t) (in_list c.lists (m.0 % 65536) t)
          (λ led.
          ⊎_elim
          (λ (rest : m.0 % 65536 ≡ r).
          absurd (not_led ns ps r t m none was rest (subst (λ (x : ℕ). is_led_to ps x t ≡ true) rest led)))
          (λ (rest : m.0 % 65536 ≢ r).
          subst (λ (o : Option ℕ). elim o [ None ↦ false | Some place ↦ place == t ] ≡ true) (sym (get_or-set_other ps r (m.0 % 65536) (Some s) None rest)) led)
          (cases_eq (m.0 % 65536) r))
          (λ (is : in_list c.lists (m.0 % 65536) t ≡ true). is)
          (h.there t m was))
          (cases_eq t s);
      named = λ l t few here. named_more ns s n t (omega (arith, h.room)) (h.named l t few here);
    }

-- a name in a slot of the list of its remainder
pub put_listed : (ns : List (Option Name)) (ps : List (Option ℕ)) (c d : Chained) (s : ℕ) (n : Name) → IsIndexed ns ps c → s < 65536
    → d ≡ record { cells = c.cells; lists = set c.lists (n.0 % 65536) (listed c.lists (n.0 % 65536) ++ s ∷ []) } → IsIndexed (set ns s (Some n)) ps d
put_listed ns ps c d s n h low e =
    let l : ℕ = n.0 % 65536 in
    let inside : l < length c.lists = omega (arith, h.size) in
    let now : (m t : ℕ) → in_list d.lists m t ≡ cond (m == l) (in_list c.lists l t || (t == s)) (in_list c.lists m t) =
    λ m t. ap (λ (v : Chained). in_list v.lists m t) e ∙ in_list-push c.lists l s m t inside in
    record {
      room = length-set ns s (Some n) ∙ h.room;
      leading = h.leading;
      cells = ap (λ (v : Chained). v.cells) e ∙ h.cells;
      size = ap (λ (v : Chained). length v.lists) e ∙ length-set c.lists l _ ∙ h.size;
      there = λ t m named.
          ⊎_elim
          (λ (same : t ≡ s).
          let q : m ≡ n = named_now ns s n m t (omega (arith, h.room)) same named in
          let k : in_list d.lists (m.0 % 65536) t ≡ true = now (m.0 % 65536) t ∙ rw (q, same) (grind (arith, nat_tests)) in
          by_third (t == m.0 % 65536) (is_led_to ps (m.0 % 65536) t) (in_list d.lists (m.0 % 65536) t) k)
          (λ (other : t ≢ s).
          let was : named_at ns t ≡ Some m = sym (get_or-set_other ns s t (Some n) None other) ∙ named in
          more (t == m.0 % 65536) (is_led_to ps (m.0 % 65536) t) (in_list c.lists (m.0 % 65536) t)
          (is_led_to ps (m.0 % 65536) t) (in_list d.lists (m.0 % 65536) t)
          (λ (is : is_led_to ps (m.0 % 65536) t ≡ true). is)
          (λ is. now (m.0 % 65536) t ∙ kept (m.0 % 65536) l t s (in_list c.lists (m.0 % 65536) t) (in_list c.lists l t) (λ same. ap (λ j. in_list c.lists j t) same) is)
          (h.there t m was))
          (cases_eq t s);
      named = λ m t small here.
          ⊎_elim
          (λ (same : t ≡ s).
          let k : named_at (set ns s (Some n)) t ≡ Some n = rw same (get_or-set_same ns s (Some n) None (omega (arith, h.room))) in rw k refl)
          (λ (other : t ≢ s).
          let k : in_list c.lists m t ≡ true = was m l t s (in_list c.lists m t) (in_list c.lists l t) (λ same. ap (λ j. in_list c.lists j t) same) other (sym (now m t) ∙ here) in
          rw (get_or-set_other ns s t (Some n) None other) (h.named m t small k))
          (cases_eq t s);
    } where
      kept : (m l t s : ℕ) (a b : Bool) → (m ≡ l → a ≡ b) → a ≡ true → cond (m == l) (b || (t == s)) a ≡ true
      kept m l t s a b same h = grind (arith, nat_tests)

      was : (m l t s : ℕ) (a b : Bool) → (m ≡ l → a ≡ b) → t ≢ s → cond (m == l) (b || (t == s)) a ≡ true → a ≡ true
      was m l t s a b same other h = grind (arith, nat_tests)

pub index_clear : (ns : List (Option Name)) (ps : List (Option ℕ)) (c d : Chained) (s : ℕ) → IsIndexed ns ps c → s < 65536
    → d ≡ record { cells = c.cells; lists = map (without s) c.lists } → IsIndexed (set ns s None) ps d
index_clear ns ps c d s h low e =
    let now : (m t : ℕ) → in_list d.lists m t ≡ cond (t == s) false (in_list c.lists m t) =
    λ m t. ap (λ (v : Chained). in_list v.lists m t) e ∙ in_list-unlink c.lists s m t in
    record {
      room = length-set ns s None ∙ h.room;
      leading = h.leading;
      cells = ap (λ (v : Chained). v.cells) e ∙ h.cells;
      size = ap (λ (v : Chained). length v.lists) e ∙ length-map c.lists (without s) ∙ h.size;
      there = λ t m named.
          ⊎_elim
          (λ (same : t ≡ s).
          let k : named_at (set ns s None) t ≡ None = rw same (get_or-set_same ns s None None (omega (arith, h.room))) in absurd (cc (k, named)))
          (λ (other : t ≢ s).
          more (t == m.0 % 65536) (is_led_to ps (m.0 % 65536) t) (in_list c.lists (m.0 % 65536) t)
          (is_led_to ps (m.0 % 65536) t) (in_list d.lists (m.0 % 65536) t)
          (λ (is : is_led_to ps (m.0 % 65536) t ≡ true). is)
          (λ is. now (m.0 % 65536) t ∙ grind (arith, nat_tests, is))
          (h.there t m (sym (get_or-set_other ns s t None None other) ∙ named)))
          (cases_eq t s);
      named = λ m t small here.
          ⊎_elim
          (λ (same : t ≡ s). let k : (t == s) ≡ true = grind (arith, nat_tests) in absurd
          (let q : cond (t == s) false (in_list c.lists m t) ≡ true = sym (now m t) ∙ here in let r : cond true false (in_list c.lists m t) ≡ true = subst
          (λ (b : Bool). cond b false (in_list c.lists m t) ≡ true) k q in cc))
          (λ (other : t ≢ s).
          let k : (t == s) ≡ false = grind (arith, nat_tests) in
          let q : cond (t == s) false (in_list c.lists m t) ≡ true = sym (now m t) ∙ here in
          let r : in_list c.lists m t ≡ true = subst (λ (b : Bool). cond b false (in_list c.lists m t) ≡ true) k q in
          rw (get_or-set_other ns s t None None other) (h.named m t small r))
          (cases_eq t s);
    }

any-nothing : (k l s : ℕ) → in_list (replicate k []) l s ≡ false
any-nothing zero l s = refl
any-nothing (suc k) zero s = refl
any-nothing (suc k) (suc l) s = any-nothing k l s

-- nothing is in lists with nothing in them
pub index_empty : (ns : List (Option Name)) (ps : List (Option ℕ)) (c : Chained) (size : ℕ) → size ≡ 65536
    → c ≡ record { cells = size; lists = replicate size [] } → length ns ≡ size → length ps ≡ size
    → ((k : ℕ) → named_at ns k ≡ None) → IsIndexed ns ps c
index_empty ns ps c size small e room leading none = record {
  room = room ∙ small;
  leading = leading ∙ small;
  cells = ap (λ (v : Chained). v.cells) e ∙ small;
  size = ap (λ (v : Chained). length v.lists) e ∙ length-replicate size [] ∙ small;
  there = λ s n named. absurd (let k : named_at ns s ≡ None = none s in cc (k, named));
  named = λ l s low here. absurd (let k : in_list c.lists l s ≡ false = ap (λ (v : Chained). in_list v.lists l s) e ∙ any-nothing size l s in cc (k, here));
}
