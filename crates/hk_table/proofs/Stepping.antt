-- The names of a list of entries come or go, one entry behind the other.
use Rattle.std.proofs.Common.{◌≡◌, ℕ, zero, suc, ◌+◌, ◌<◌, ◌≤◌, ◌^◌, List, [], ◌∷◌, ◌++◌, length, get_or, drop, refl, ap, ◌∙◌, sym, subst, arith, Option, Some, None}
use Rattle.std.proofs.lemmas.List.{drop_all}
use Rattle.hk_model.specs.declared.names.Name.{Name}
use Rattle.hk_model.specs.declared.entries.Entry.{Entry}
use Rattle.hk_model.specs.declared.entries.Entry.TheVariants.{Empty, Held, Form}
use Rattle.hk_model.specs.declared.entries.Template.TheVariants as template
use Rattle.hk_model.specs.Keeping.{entry_names}
use Rattle.hk_reclaim.specs.Naming.{times, named, named_in, with_name}
use Rattle.hk_reclaim.specs.Tally.{Tally, owing}
use Rattle.hk_reclaim.proofs.Counting.{times_none}
use Rattle.hk_table.specs.Held.{AreFew, CanHold, CanRelease, CanReleaseInside, Holds, Releases, HoldsInside, ReleasesInside}
use Rattle.hk_table.proofs.FrameNames.{times-append}
use Rattle.hk_table.proofs.Holding.{Slots, held_same, owed_same}

-- names can be counted one behind the other
pub record IsStepwise (Can : List Name → Tally → Type 0) (Does : List Name → Tally → Tally → Type 0) : Type 0 where
  pub first : (xs ys : List Name) (t : Tally) → Can (xs ++ ys) t → Can xs t
  pub rest : (xs ys : List Name) (t u : Tally) → Can (xs ++ ys) t → Does xs t u → Can ys u
  pub more : (xs ys : List Name) (t u v : Tally) → Does xs t u → Does ys u v → Does (xs ++ ys) t v
  pub nothing : (t : Tally) → Does [] t t

added : (f : Name → ℕ) (n : Name) → owing f [] n ≡ f n
added f n = let z : times n [] ≡ 0 = times_none n in omega arith

behind : (f : Name → ℕ) (xs ys : List Name) (n : Name) → owing (owing f xs) ys n ≡ owing f (xs ++ ys) n
behind f xs ys n = let z : times n (xs ++ ys) ≡ times n xs + times n ys = times-append n xs ys in omega arith

before : (f : Name → ℕ) (xs ys : List Name) (n : Name) → owing f (xs ++ ys) n ≡ owing (owing f ys) xs n
before f xs ys n = let z : times n (xs ++ ys) ≡ times n xs + times n ys = times-append n xs ys in omega arith

few_first : (f g : Name → ℕ) (xs ys : List Name) → AreFew f g (xs ++ ys) → AreFew f g xs
few_first f g xs ys few n =
    let z : times n (xs ++ ys) ≡ times n xs + times n ys = times-append n xs ys in let h : f n + g n + times n (xs ++ ys) < 2 ^ 32 = few n in omega arith

few_rest : (f g : Name → ℕ) (xs ys : List Name) → AreFew f g (xs ++ ys) → AreFew (owing f xs) g ys
few_rest f g xs ys few n =
    let z : times n (xs ++ ys) ≡ times n xs + times n ys = times-append n xs ys in let h : f n + g n + times n (xs ++ ys) < 2 ^ 32 = few n in omega arith

few_inside : (f g : Name → ℕ) (xs ys : List Name) → AreFew f g (xs ++ ys) → AreFew f (owing g xs) ys
few_inside f g xs ys few n =
    let z : times n (xs ++ ys) ≡ times n xs + times n ys = times-append n xs ys in let h : f n + g n + times n (xs ++ ys) < 2 ^ 32 = few n in omega arith

pub holding : (ps : Slots) → IsStepwise (λ names t. CanHold ps names t) (λ names t u. Holds ps names t u)
holding ps = record {
  first = λ xs ys t can. (can.0, can.1, can.2, few_first can.0 can.1 xs ys can.3);
  rest = λ xs ys t u can does. (owing can.0 xs, can.1, does.1 can.0 can.1 can.2, few_rest can.0 can.1 xs ys can.3);
  more = λ xs ys t u v one two. (
    two.0 ∙ one.0,
    λ outer owed h. held_same ps (owing (owing outer xs) ys) (owing outer (xs ++ ys)) owed v (behind outer xs ys) (two.1 (owing outer xs) owed (one.1 outer owed h)),
  );
  nothing = λ t. (refl, λ outer owed h. held_same ps outer (owing outer []) owed t (λ n. sym (added outer n)) h);
}

pub releasing : (ps : Slots) → IsStepwise (λ names t. CanRelease ps names t) (λ names t u. Releases ps names t u)
releasing ps = record {
  first = λ xs ys t can. (owing can.0 ys, can.1, held_same ps (owing can.0 (xs ++ ys)) (owing (owing can.0 ys) xs) can.1 t (before can.0 xs ys) can.2);
  rest = λ xs ys t u can does.
      (can.0, can.1, does.1 (owing can.0 ys) can.1 (held_same ps (owing can.0 (xs ++ ys)) (owing (owing can.0 ys) xs) can.1 t (before can.0 xs ys) can.2));
  more = λ xs ys t u v one two. (
    two.0 ∙ one.0,
    λ outer owed h. two.1 outer owed (one.1 (owing outer ys) owed (held_same ps (owing outer (xs ++ ys)) (owing (owing outer ys) xs) owed t (before outer xs ys) h)),
  );
  nothing = λ t. (refl, λ outer owed h. held_same ps (owing outer []) outer owed t (added outer) h);
}

pub holding_inside : (ps : Slots) → IsStepwise (λ names t. CanHold ps names t) (λ names t u. HoldsInside ps names t u)
holding_inside ps = record {
  first = λ xs ys t can. (can.0, can.1, can.2, few_first can.0 can.1 xs ys can.3);
  rest = λ xs ys t u can does. (can.0, owing can.1 xs, does.1 can.0 can.1 can.2, few_inside can.0 can.1 xs ys can.3);
  more = λ xs ys t u v one two. (
    two.0 ∙ one.0,
    λ outer owed h. owed_same ps outer (owing (owing owed xs) ys) (owing owed (xs ++ ys)) v (behind owed xs ys) (two.1 outer (owing owed xs) (one.1 outer owed h)),
  );
  nothing = λ t. (refl, λ outer owed h. owed_same ps outer owed (owing owed []) t (λ n. sym (added owed n)) h);
}

pub releasing_inside : (ps : Slots) → IsStepwise (λ names t. CanReleaseInside ps names t) (λ names t u. ReleasesInside ps names t u)
releasing_inside ps = record {
  first = λ xs ys t can. (can.0, owing can.1 ys, owed_same ps can.0 (owing can.1 (xs ++ ys)) (owing (owing can.1 ys) xs) t (before can.1 xs ys) can.2);
  rest = λ xs ys t u can does.
      (can.0, can.1, does.1 can.0 (owing can.1 ys) (owed_same ps can.0 (owing can.1 (xs ++ ys)) (owing (owing can.1 ys) xs) t (before can.1 xs ys) can.2));
  more = λ xs ys t u v one two. (
    two.0 ∙ one.0,
    λ outer owed h. two.1 outer owed (one.1 outer (owing owed ys) (owed_same ps outer (owing owed (xs ++ ys)) (owing (owing owed ys) xs) t (before owed xs ys) h)),
  );
  nothing = λ t. (refl, λ outer owed h. owed_same ps outer (owing owed []) owed t (added owed) h);
}

-- what an entry names
entry_with : (e : Entry) → entry_names e ≡ with_name (named e) []
entry_with Empty = refl
entry_with (Held cap) = refl
entry_with (Form (template.Amplify None check give)) = refl
entry_with (Form (template.Amplify (Some of) check give)) = refl
entry_with (Form (template.Create of give)) = refl

entry_names_one : (e : Entry) (name : Option Name) → name ≡ named e → entry_names e ≡ with_name name []
entry_names_one e name is = entry_with e ∙ ap (λ (n : Option Name). with_name n []) (sym is)

next_entry : (es : List Entry) (i : ℕ) → i < length es → named_in (drop i es) ≡ entry_names (get_or es i Empty) ++ named_in (drop (i + 1) es)
next_entry [] i low = absurd (omega arith)
next_entry (e ∷ es) zero low = refl
next_entry (e ∷ es) (suc i) low = let k : suc i + 1 ≡ suc (i + 1) = omega arith in rw k (next_entry es i (omega arith))

module _ (Can : List Name → Tally → Type 0) (Does : List Name → Tally → Tally → Type 0) (h : IsStepwise Can Does) where
  pub one_can : (e : Entry) (x : Name) (t : Tally) → Some x ≡ named e → Can (entry_names e) t → Can (x ∷ []) t
  one_can e x t is can = subst (λ (ns : List Name). Can ns t) (entry_names_one e (Some x) is) can

  pub one_done : (e : Entry) (x : Name) (t u : Tally) → Some x ≡ named e → Does (x ∷ []) t u → Does (entry_names e) t u
  one_done e x t u is does = subst (λ (ns : List Name). Does ns t u) (sym (entry_names_one e (Some x) is)) does

  pub none_done : (e : Entry) (t : Tally) → None ≡ named e → Does (entry_names e) t t
  none_done e t is = subst (λ (ns : List Name). Does ns t t) (sym (entry_names_one e None is)) (h.nothing t)

  split : (es : List Entry) (i : ℕ) (e : Entry) → i < length es → e ≡ get_or es i Empty → named_in (drop i es) ≡ entry_names e ++ named_in (drop (i + 1) es)
  split es i e low is = next_entry es i low ∙ ap (λ (x : Entry). entry_names x ++ named_in (drop (i + 1) es)) (sym is)

  pub next_can : (es : List Entry) (i : ℕ) (e : Entry) (t : Tally) → i < length es → e ≡ get_or es i Empty → Can (named_in (drop i es)) t → Can (entry_names e) t
  next_can es i e t low is can = h.first (entry_names e) (named_in (drop (i + 1) es)) t (subst (λ (ns : List Name). Can ns t) (split es i e low is) can)

  pub later_can : (es : List Entry) (i : ℕ) (e : Entry) (t u : Tally) → i < length es → e ≡ get_or es i Empty → Does (entry_names e) t u → Can (named_in (drop i es)) t
      → Can (named_in (drop (i + 1) es)) u
  later_can es i e t u low is does can =
      h.rest (entry_names e) (named_in (drop (i + 1) es)) t u (subst (λ (ns : List Name). Can ns t) (split es i e low is) can) does

  pub later_done : (es : List Entry) (i : ℕ) (e : Entry) (t u final : Tally) → i < length es → e ≡ get_or es i Empty → Does (entry_names e) t u
      → Does (named_in (drop (i + 1) es)) u final
      → Does (named_in (drop i es)) t final
  later_done es i e t u final low is does later =
      subst (λ (ns : List Name). Does ns t final) (sym (split es i e low is)) (h.more (entry_names e) (named_in (drop (i + 1) es)) t u final does later)

  pub all_done : (es : List Entry) (i : ℕ) (t : Tally) → length es ≤ i → Does (named_in (drop i es)) t t
  all_done es i t high = subst (λ (ns : List Name). Does ns t t) (sym (ap (λ (xs : List Entry). named_in xs) (drop_all i es high))) (h.nothing t)
