-- Rows that keep the rules are exact, and so is the bound that is read off them.
use Rattle.std.proofs.Common.{◌≡◌, ℕ, zero, suc, ◌+◌, ◌<◌, ◌≤◌, List, [], ◌∷◌, ◌++◌, length, Bool, true, false, Option, Some, None, refl, sym, ◌∙◌, ap, subst, arith}
use Rattle.std.specs.Prelude.{IfSome, slice_get, ◌⊎◌, ◌||◌, ◌&&◌, ◌==◌, ◌^◌, bit_or}
use mathlib.Core.Logic.{inl, inr}
use Rattle.std.proofs.lemmas.Bool.{true≢false, false≢true}
use Rattle.std.proofs.lemmas.Bool.Decides.{nat_tests}
use Rattle.std.proofs.lemmas.Option.{slice_get_within}
use Rattle.hk_model.specs.declared.names.Name.{Name}
use Rattle.hk_model.specs.declared.names.Proc.{Proc}
use Rattle.hk_rights.specs.Rights.{has, all_rights, STORE, APPEND, KILL, putdata_right, adddata_right, store_right, append_right, kill_right}
use Rattle.hk_rights.specs.Rights.{modify_right, a0_right, a1_right}
use Rattle.hk_rights.proofs.Sets.{has-bit_or_cases, has-pow, left_of, right_of, or_right}
use Rattle.hk_model.specs.WorldValue.{WorldValue, IsWorld}
use Rattle.hk_model.specs.Targets.{SEMAPHORE, is_general, is_listed}
use Rattle.hk_bound.specs.declared.forms.Form.{Form}
use Rattle.hk_bound.specs.Taking.{Old, Slots, Right, Follows, type_of}
use Rattle.hk_bound.specs.Bounds.{word_changes, list_changes, count_changes, HasOneOf, HasChanging, IsInBound}
use Rattle.hk_bound.specs.Each.{Each, Among}
use Rattle.hk_bound.specs.Columns.{name_at, proc_at, object_count, cell, RowsFollow}
use Rattle.hk_bound.specs.Forms.{AreForms}
use Rattle.hk_bound.specs.Rules.{ProcessRule}
use Rattle.hk_bound.specs.Listed.{IsBoundOf, Listing, has_in, AreExact, changes_in}
use Rattle.hk_bound.proofs.Complete.{HasIn, all_rights_told}

told : (o : Option ℕ) (n : ℕ) → HasIn o n → has_in o n ≡ true
told None n h = absurd h
told (Some r) n h = h

pub exact : (w : WorldValue) (forms : List Form) (rows : List (List (Option ℕ))) → IsWorld w → AreForms w forms → RowsFollow w forms rows
    → ((p : ℕ) → p < length w.tasks → ProcessRule w forms rows p) → AreExact w rows
exact w forms rows world are follow rules = record {
  sound = λ p x n low is h. by p x n low is (cell rows p x) refl h;
  all = λ p x n h. told (cell rows p.0 x.0) n (all_rights_told w forms rows rules are world p x n h);
}
  where
    by : (p x n : ℕ) → x < object_count w → has all_rights n ≡ true → (o : Option ℕ) → cell rows p x ≡ o → has_in o n ≡ true
        → Follows w (Right (Slots (proc_at p)) (Old (name_at x)) n)
    by p x n low is None e h = absurd (false≢true h)
    by p x n low is (Some r) e h = ((follow p x r e).old low).given n is h

or_some : (x y : Bool) → (x || y) ≡ true → (x ≡ true) ⊎ (y ≡ true)
or_some true y h = inl refl
or_some false y h = inr h

or_left : (x y : Bool) → x ≡ true → (x || y) ≡ true
or_left true y h = refl
or_left false y h = absurd (false≢true h)

both : (x y : Bool) → x ≡ true → y ≡ true → (x && y) ≡ true
both true true h g = refl
both true false h g = absurd (false≢true g)
both false y h g = absurd (false≢true h)

one_pow : (one n : ℕ) → has (2 ^ one) n ≡ true → n ≡ one
one_pow one n h = let e : (n == one) ≡ true = sym (has-pow one n) ∙ h in grind (arith, nat_tests, e)

two_of : (a b n : ℕ) → has (bit_or (2 ^ a) (2 ^ b)) n ≡ true → (n ≡ a) ⊎ (n ≡ b)
two_of a b n h = elim (has-bit_or_cases (2 ^ a) (2 ^ b) n h) [ inl k ↦ inl (one_pow a n k) | inr k ↦ inr (one_pow b n k) ]

module _ (w : WorldValue) (rows : List (List (Option ℕ))) (are : AreExact w rows) where
  module _ (p x r : ℕ) (low : x < object_count w) (at : cell rows p x ≡ Some r) where
    gives : (n : ℕ) → has all_rights n ≡ true → has r n ≡ true → Follows w (Right (Slots (proc_at p)) (Old (name_at x)) n)
    gives n is h = are.sound p x n low is (ap (λ (o : Option ℕ). has_in o n) at ∙ h)

    takes : (n : ℕ) → Follows w (Right (Slots (proc_at p)) (Old (name_at x)) n) → has r n ≡ true
    takes n h = sym (ap (λ (o : Option ℕ). has_in o n) at) ∙ are.all (proc_at p) (name_at x) n h

    one_of : (set n : ℕ) → has all_rights n ≡ true → has set n ≡ true → has r n ≡ true → HasOneOf w (proc_at p) (name_at x) set
    one_of set n is of h = record { right = n; of = of; follows = gives n is h }

    of : Name
    of = type_of w (name_at x)

    words : (has r putdata_right || has r adddata_right) ≡ true → HasOneOf w (proc_at p) (name_at x) word_changes
    words h =
        elim (or_some (has r putdata_right) (has r adddata_right) h)
        [ inl k ↦ one_of word_changes putdata_right refl refl k | inr k ↦ one_of word_changes adddata_right refl refl k ]

    lists : (has r store_right || (has r append_right || has r kill_right)) ≡ true → HasOneOf w (proc_at p) (name_at x) list_changes
    lists h = elim (or_some (has r store_right) (has r append_right || has r kill_right) h) [
      | inl k ↦ one_of list_changes store_right refl refl k
      | inr k ↦ elim (or_some (has r append_right) (has r kill_right) k)
          [ inl j ↦ one_of list_changes append_right refl refl j | inr j ↦ one_of list_changes kill_right refl refl j ]
    ]

    counts : (has r a0_right || has r a1_right) ≡ true → HasOneOf w (proc_at p) (name_at x) count_changes
    counts h = elim (or_some (has r a0_right) (has r a1_right) h) [ inl k ↦ one_of count_changes a0_right refl refl k | inr k ↦ one_of count_changes a1_right refl refl k ]

    changing : (t : Name) → t ≡ type_of w (name_at x) → (g l s : Bool) → is_general t ≡ g → is_listed t ≡ l → (t.0 == SEMAPHORE) ≡ s
        → ((g && (has r putdata_right || has r adddata_right)) ||
        ((l && (has r store_right || (has r append_right || has r kill_right))) || (s && (has r a0_right || has r a1_right)))) ≡ true
        → HasChanging w (proc_at p) (name_at x)
    changing t same g l s a b c h =
        elim (or_some (g && (has r putdata_right || has r adddata_right))
        ((l && (has r store_right || (has r append_right || has r kill_right))) || (s && (has r a0_right || has r a1_right))) h) [
          | inl k ↦ inl (
            ap is_general (sym same) ∙ (a ∙ left_of g (has r putdata_right || has r adddata_right) k),
            words
                (right_of g (has r putdata_right || has r adddata_right) k),
          )
          | inr k ↦ elim (or_some (l && (has r store_right || (has r append_right || has r kill_right))) (s && (has r a0_right || has r a1_right)) k) [
            | inl j ↦ inr (inl (
              ap is_listed (sym same) ∙ (b ∙ left_of l (has r store_right || (has r append_right || has r kill_right)) j),
              lists
                  (right_of l (has r store_right || (has r append_right || has r kill_right)) j),
            ))
            | inr j ↦ inr (inr (
              ap (λ (n : Name). n.0) (sym same)
                  ∙ (let e : (t.0 == SEMAPHORE) ≡ true = c ∙ left_of s (has r a0_right || has r a1_right) j in grind (arith, nat_tests, e)),
              counts
                  (right_of s (has r a0_right || has r a1_right) j),
            ))
          ]
        ]

    abbrev Rest : Name → Bool
    Rest t =
        (is_general t && (has r putdata_right || has r adddata_right)) ||
        ((is_listed t && (has r store_right || (has r append_right || has r kill_right))) || (t.0 == SEMAPHORE && (has r a0_right || has r a1_right)))

    pub in_bound_from : changes_in (type_of w (name_at x)) r ≡ true → IsInBound w (proc_at p) (name_at x)
    in_bound_from h = record {
      opening = low;
      modify = gives modify_right refl (left_of (has r modify_right) (Rest (type_of w (name_at x))) h);
      changes =
          changing (type_of w (name_at x)) refl (is_general (type_of w (name_at x))) (is_listed (type_of w (name_at x))) ((type_of w (name_at x)).0 == SEMAPHORE) refl refl refl
          (right_of (has r modify_right) (Rest (type_of w (name_at x))) h);
    }

    one_to : (n m : ℕ) → n ≡ m → Follows w (Right (Slots (proc_at p)) (Old (name_at x)) n) → has r m ≡ true
    one_to n m e h = subst (λ (k : ℕ). has r k ≡ true) e (takes n h)

    words_to : HasOneOf w (proc_at p) (name_at x) word_changes → (has r putdata_right || has r adddata_right) ≡ true
    words_to o = elim (two_of putdata_right adddata_right o.right o.of) [
      | inl e ↦ or_left (has r putdata_right) (has r adddata_right) (one_to o.right putdata_right e o.follows)
      | inr e ↦ or_right (has r putdata_right) (has r adddata_right) (one_to o.right adddata_right e o.follows)
    ]

    lists_to : HasOneOf w (proc_at p) (name_at x) list_changes → (has r store_right || (has r append_right || has r kill_right)) ≡ true
    lists_to o = elim (has-bit_or_cases STORE (bit_or APPEND KILL) o.right o.of) [
      | inl k ↦ or_left (has r store_right) (has r append_right || has r kill_right) (one_to o.right store_right (one_pow store_right o.right k) o.follows)
      | inr k ↦ or_right (has r store_right) (has r append_right || has r kill_right) (elim (two_of append_right kill_right o.right k) [
        | inl e ↦ or_left (has r append_right) (has r kill_right) (one_to o.right append_right e o.follows)
        | inr e ↦ or_right (has r append_right) (has r kill_right) (one_to o.right kill_right e o.follows)
      ])
    ]

    counts_to : HasOneOf w (proc_at p) (name_at x) count_changes → (has r a0_right || has r a1_right) ≡ true
    counts_to o = elim (two_of a0_right a1_right o.right o.of) [
      | inl e ↦ or_left (has r a0_right) (has r a1_right) (one_to o.right a0_right e o.follows)
      | inr e ↦ or_right (has r a0_right) (has r a1_right) (one_to o.right a1_right e o.follows)
    ]

    rest_to : HasChanging w (proc_at p) (name_at x) → Rest (type_of w (name_at x)) ≡ true
    rest_to (inl h) =
        or_left (is_general (type_of w (name_at x)) && (has r putdata_right || has r adddata_right)) _
        (both (is_general (type_of w (name_at x))) (has r putdata_right || has r adddata_right) h.0 (words_to h.1))
    rest_to (inr (inl h)) =
        or_right (is_general (type_of w (name_at x)) && (has r putdata_right || has r adddata_right)) _
        (or_left (is_listed (type_of w (name_at x)) && (has r store_right || (has r append_right || has r kill_right))) _
        (both (is_listed (type_of w (name_at x))) (has r store_right || (has r append_right || has r kill_right)) h.0 (lists_to h.1)))
    rest_to (inr (inr h)) =
        let e = h.0 in
        let test : ((type_of w (name_at x)).0 == SEMAPHORE) ≡ true = grind (arith, nat_tests, e) in
        or_right (is_general (type_of w (name_at x)) && (has r putdata_right || has r adddata_right)) _
        (or_right (is_listed (type_of w (name_at x)) && (has r store_right || (has r append_right || has r kill_right))) _
        (both ((type_of w (name_at x)).0 == SEMAPHORE) (has r a0_right || has r a1_right) test (counts_to h.1)))

    pub in_bound_to : IsInBound w (proc_at p) (name_at x) → changes_in (type_of w (name_at x)) r ≡ true
    in_bound_to b = both (has r modify_right) (Rest (type_of w (name_at x))) (takes modify_right b.modify) (rest_to b.changes)

  pub no_bound : (p x : ℕ) → cell rows p x ≡ None → IsInBound w (proc_at p) (name_at x) → ⊥
  no_bound p x at b = true≢false (sym (are.all (proc_at p) (name_at x) modify_right b.modify) ∙ ap (λ (o : Option ℕ). has_in o modify_right) at)

-- ---- the list of a bound

push_cases : {A : Type 0} (xs : List A) (y x : A) (k : ℕ) → slice_get (xs ++ y ∷ []) k ≡ Some x → (slice_get xs k ≡ Some x) ⊎ ((k ≡ length xs) × (y ≡ x))
push_cases [] y x zero e = inr (refl, let same : y ≡ x = cc in same)
push_cases [] y x (suc zero) e = absurd (cc)
push_cases [] y x (suc (suc k)) e = absurd (cc)
push_cases (z ∷ xs) y x zero e = inl e
push_cases (z ∷ xs) y x (suc k) e = elim (push_cases xs y x k e) [ inl h ↦ inl h | inr h ↦ inr (ap suc h.0, h.1) ]

pub push_keeps : {A : Type 0} (xs : List A) (y x : A) (k : ℕ) → slice_get xs k ≡ Some x → slice_get (xs ++ y ∷ []) k ≡ Some x
push_keeps [] y x zero e = absurd (cc)
push_keeps [] y x (suc k) e = absurd (cc)
push_keeps (z ∷ xs) y x zero e = e
push_keeps (z ∷ xs) y x (suc k) e = push_keeps xs y x k e

pub push_last : {A : Type 0} (xs : List A) (y : A) → slice_get (xs ++ y ∷ []) (length xs) ≡ Some y
push_last [] y = refl
push_last (z ∷ xs) y = push_last xs y

less_or_same : (k n : ℕ) → k < n + 1 → (k < n) ⊎ (k ≡ n)
less_or_same k n h = grind arith

same_names : (x : Name) (n : ℕ) → x.0 ≡ n → name_at n ≡ x
same_names x n e = ap (λ (m : ℕ). name_at m) (sym e)

pub listing_skip : (w : WorldValue) (proc : Proc) (n : ℕ) (names : List Name) → (IsInBound w proc (name_at n) → ⊥) → Listing w proc n names → Listing w proc (n + 1) names
listing_skip w proc n names never h = record {
  sound = h.sound;
  all = λ x low b. by x b (less_or_same x.0 n low);
  rising = h.rising;
  below = λ k x e. let low = h.below k x e in omega (arith, low);
}
  where
    by : (x : Name) → IsInBound w proc x → (x.0 < n) ⊎ (x.0 ≡ n) → Among names x
    by x b (inl less) = h.all x less b
    by x b (inr same) = absurd (never (subst (IsInBound w proc) (sym (same_names x n same)) b))

pub listing_push : (w : WorldValue) (proc : Proc) (n : ℕ) (names : List Name) → IsInBound w proc (name_at n) → Listing w proc n names
    → Listing w proc (n + 1) (names ++ name_at n ∷ [])
listing_push w proc n names new h = record {
  sound = λ k x e. elim (push_cases names (name_at n) x k e) [ inl before ↦ h.sound k x before | inr last ↦ subst (IsInBound w proc) last.1 new ];
  all = λ x low b. by x b (less_or_same x.0 n low);
  rising = λ k x y e f. rises k x y (push_cases names (name_at n) x k e) (push_cases names (name_at n) y (suc k) f);
  below =
      λ k x e. elim (push_cases names (name_at n) x k e) [
        | inl before ↦ (let low = h.below k x before in omega (arith, low))
        | inr last
            ↦ (let same : n ≡ x.0 = ap (λ (m : Name). m.0) last.1 in omega (arith, same))
      ];
}
  where
    by : (x : Name) → IsInBound w proc x → (x.0 < n) ⊎ (x.0 ≡ n) → Among (names ++ name_at n ∷ []) x
    by x b (inl less) = let a = h.all x less b in record { place = a.place; is = push_keeps names (name_at n) x a.place a.is }
    by x b (inr same) = record { place = length names; is = push_last names (name_at n) ∙ ap Some (same_names x n same) }

    rises : (k : ℕ) (x y : Name) → (slice_get names k ≡ Some x) ⊎ ((k ≡ length names) × (name_at n ≡ x))
        → (slice_get names (suc k) ≡ Some y) ⊎ ((suc k ≡ length names) × (name_at n ≡ y)) → x.0 < y.0
    rises k x y (inl a) (inl b) = h.rising k x y a b
    rises k x y (inl a) (inr b) = let low = h.below k x a in let same : n ≡ y.0 = ap (λ (m : Name). m.0) b.1 in omega (arith, low, same)
    rises k x y (inr a) (inl b) = let within = slice_get_within names (suc k) y b in let e = a.0 in absurd (omega (arith, within, e))
    rises k x y (inr a) (inr b) = let e = a.0 in let f = b.0 in absurd (omega (arith, e, f))

pub listing_none : (w : WorldValue) (proc : Proc) (names : List Name) → names ≡ [] → Listing w proc 0 names
listing_none w proc names e =
    subst (Listing w proc 0) (sym e) (record {
      sound = none (IsInBound w proc);
      all = λ x low b. absurd (omega (arith, low));
      rising = λ k x y a b. absurd (empty k x a);
      below = none (λ (x : Name). x.0 < 0);
    })
  where
    empty : (k : ℕ) (x : Name) → slice_get [] k ≡ Some x → ⊥
    empty zero x a = absurd (cc)
    empty (suc k) x a = absurd (cc)

    none : (P : Name → Type 0) → Each P []
    none P k x a = absurd (empty k x a)

pub listing_all : (w : WorldValue) (proc : Proc) (names : List Name) (n : ℕ) → object_count w ≤ n → Listing w proc n names → IsBoundOf w proc names
listing_all w proc names n end h = record { sound = h.sound; all = λ x b. h.all x (let low = b.opening in omega (arith, low, end)) b; rising = h.rising }

pub exact_push : {V : Type 0} (P : ℕ → V → Type 0) (xs : List V) (y : V) → ((p : ℕ) → IfSome (slice_get xs p) (P p)) → P (length xs) y → (p : ℕ)
    → IfSome (slice_get (xs ++ y ∷ []) p) (P p)
exact_push P [] y h new zero = new
exact_push P [] y h new (suc zero) = tt
exact_push P [] y h new (suc (suc p)) = tt
exact_push P (x ∷ xs) y h new zero = h zero
exact_push P (x ∷ xs) y h new (suc p) = exact_push (λ k. P (suc k)) xs y (λ k. h (suc k)) new p

pub exact_none : {V : Type 0} (P : ℕ → V → Type 0) (xs : List V) → xs ≡ [] → (p : ℕ) → IfSome (slice_get xs p) (P p)
exact_none {V} P xs e p = subst (λ (l : List V). IfSome (slice_get l p) (P p)) (sym e) (by p)
  where
    by : (k : ℕ) → IfSome (slice_get [] k) (P k)
    by zero = tt
    by (suc k) = tt
