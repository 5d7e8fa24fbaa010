-- A name is looked up among all names of a script, and what it stands for tells its number.
use Rattle.std.proofs.Common.{◌≡◌, ℕ, suc, zero, ◌+◌, ◌<◌, Bool, true, false, cond, not, List, [], ◌∷◌, ◌++◌, length, get_or, refl, sym, ap, ◌∙◌, Some, None, Option, Ok, Result, arith}
use Rattle.std.specs.Prelude.{slice_get, slice_index_or, option_map}
use Rattle.std.specs.List.{list_any, filter_map, position_from}
use Rattle.std.proofs.lemmas.Bool.{and_parts, not-true, or_parts}
use Rattle.std.proofs.lemmas.Iterator.Adapters.{position_from-zero}
use Rattle.std.proofs.lemmas.Slice.Eq.{bytes_eq-Decides}
use Rattle.std.proofs.lemmas.List.{length-append}
use mathlib.Core.List.{append_assoc}
use Rattle.hk_format.specs.declared.causes.LoadCause.{LoadCause}
use Rattle.hk_format.specs.declared.causes.LoadCause.TheVariants.{UnknownName}
use Rattle.hk_model.specs.Labels.{same_text, are_apart}
use Rattle.hk_model.specs.Refusing.{◌>>=◌, ◌>>◌}
use Rattle.hk_format.specs.Names.{Names, kernel_names, kernel_flags}
use Rattle.hk_format.specs.Loading.{place, found, unless, object_named, type_named, to_limit, code_named}
use Rattle.hk_load.specs.declared.meanings.Meaning.{Meaning}
use Rattle.hk_load.specs.declared.meanings.Meaning.TheVariants.{IsType, IsObject, IsCode, IsProcess}
use Rattle.hk_load.specs.Meanings.{object_before, objects_among, type_flag, code_before, codes_among, names_meant, IsNext, object_behind, code_behind, AreNumbered, AreMeant}
use Rattle.hk_load.specs.Meanings.{meaning_at, meaning_named, object_meant, type_meant, code_meant, or_else}

-- what the first of these names stands for that is this text
first_meaning : List ℕ → List (List ℕ) → List Meaning → Option Meaning
first_meaning t [] ms = None
first_meaning t (u ∷ us) [] = None
first_meaning t (u ∷ us) (m ∷ ms) = cond (same_text t u) (Some m) (first_meaning t us ms)

at_length : {X : Type 0} (xs : List X) (x : X) (ys : List X) → slice_get (xs ++ x ∷ ys) (length xs) ≡ Some x
at_length [] x ys = refl
at_length (y ∷ xs) x ys = at_length xs x ys

-- it stands at the place of the name
placed_from : (t : List ℕ) (o c n : ℕ) (front : List Meaning) (us : List (List ℕ)) (ms : List Meaning) → n ≡ length front → AreNumbered o c us ms
    → meaning_at (front ++ ms) (position_from (same_text t) n us) ≡ first_meaning t us ms
unfolding first_meaning
placed_from t o c n front [] ms e k = refl
placed_from t o c n front (u ∷ us) [] e k = absurd k
placed_from t o c n front (u ∷ us) (m ∷ ms) e k =
    by (same_text t u)
    (placed_from t (object_behind o m) (code_behind c m) (n + 1) (front ++ m ∷ []) us ms (let longer = length-append front (m ∷ []) in omega (arith, longer, e)) k.1)
  where
    by : (b : Bool) → meaning_at ((front ++ m ∷ []) ++ ms) (position_from (same_text t) (n + 1) us) ≡ first_meaning t us ms
        → meaning_at (front ++ m ∷ ms) (cond b (Some n) (position_from (same_text t) (n + 1) us)) ≡ cond b (Some m) (first_meaning t us ms)
    by true later = rw e (at_length front m ms)
    by false later = ap (λ (xs : List Meaning). meaning_at xs (position_from (same_text t) (n + 1) us)) (sym (append_assoc front (m ∷ []) ms)) ∙ later

named_first : (t : List ℕ) (us : List (List ℕ)) (ms : List Meaning) → AreNumbered 7 0 us ms → meaning_named us ms t ≡ first_meaning t us ms
named_first t us ms k = ap (meaning_at ms) (position_from-zero (same_text t) us) ∙ placed_from t 7 0 0 [] us ms refl k

-- names that are apart

same_other : (t u : List ℕ) → same_text u t ≡ false → same_text t u ≡ false
same_other t u h = by (same_text t u) refl
  where
    by : (b : Bool) → same_text t u ≡ b → b ≡ false
    by false e = refl
    by true e = absurd (let same : t ≡ u = (bytes_eq-Decides t u).0 e in let yes : same_text u t ≡ true = (bytes_eq-Decides u t).1 (sym same) in let clash = sym yes ∙ h in cc)

no_object : (t : List ℕ) (i : ℕ) (us : List (List ℕ)) (ms : List Meaning) → list_any (λ u. same_text u t) us ≡ false → position_from (same_text t) i (objects_among us ms) ≡ None
no_object t i [] ms h = refl
no_object t i (u ∷ us) [] h = refl
no_object t i (u ∷ us) (m ∷ ms) h = by m (λ j. no_object t j us ms parts.1)
  where
    parts : (same_text u t ≡ false) × (list_any (λ y. same_text y t) us ≡ false)
    parts = or_parts (same_text u t) (list_any (λ y. same_text y t) us) h

    by : (m : Meaning) → ((j : ℕ) → position_from (same_text t) j (objects_among us ms) ≡ None) → position_from (same_text t) i (object_before m u (objects_among us ms)) ≡ None
    by (IsType n) later = rw (same_other t u parts.0) (later (i + 1))
    by (IsObject n) later = rw (same_other t u parts.0) (later (i + 1))
    by (IsCode n) later = later i
    by IsProcess later = later i

no_code : (t : List ℕ) (i : ℕ) (us : List (List ℕ)) (ms : List Meaning) → list_any (λ u. same_text u t) us ≡ false → position_from (same_text t) i (codes_among us ms) ≡ None
no_code t i [] ms h = refl
no_code t i (u ∷ us) [] h = refl
no_code t i (u ∷ us) (m ∷ ms) h = by m (λ j. no_code t j us ms parts.1)
  where
    parts : (same_text u t ≡ false) × (list_any (λ y. same_text y t) us ≡ false)
    parts = or_parts (same_text u t) (list_any (λ y. same_text y t) us) h

    by : (m : Meaning) → ((j : ℕ) → position_from (same_text t) j (codes_among us ms) ≡ None) → position_from (same_text t) i (code_before m u (codes_among us ms)) ≡ None
    by (IsType n) later = later i
    by (IsObject n) later = later i
    by (IsCode n) later = rw (same_other t u parts.0) (later (i + 1))
    by IsProcess later = later i

-- a text that is the first of names that are apart is none of the others
others_differ : (t u : List ℕ) (us : List (List ℕ)) → same_text t u ≡ true → not (list_any (λ y. same_text y u) us) ≡ true → list_any (λ y. same_text y t) us ≡ false
others_differ t u us h apart = let same : t ≡ u = (bytes_eq-Decides t u).0 h in rw same (not-true (list_any (λ y. same_text y u) us) apart)

-- an object's number is its place among the objects
object_first : (t : List ℕ) (o c : ℕ) (us : List (List ℕ)) (ms : List Meaning) → are_apart us ≡ true → AreNumbered o c us ms
    → position_from (same_text t) o (objects_among us ms) ≡ object_meant (first_meaning t us ms)
unfolding first_meaning
object_first t o c [] ms apart k = refl
object_first t o c (u ∷ us) [] apart k = absurd k
object_first t o c (u ∷ us) (m ∷ ms) apart k = by m k.0 (same_text t u) refl k.1 (λ p q l. object_first t p q us ms both.1 l)
  where
    both : (not (list_any (λ y. same_text y u) us) ≡ true) × (are_apart us ≡ true)
    both = and_parts (not (list_any (λ y. same_text y u) us)) (are_apart us) apart

    by : (m : Meaning) → IsNext o c m → (b : Bool) → same_text t u ≡ b → AreNumbered (object_behind o m) (code_behind c m) us ms
        → ((p q : ℕ) → AreNumbered p q us ms → position_from (same_text t) p (objects_among us ms) ≡ object_meant (first_meaning t us ms))
        → position_from (same_text t) o (object_before m u (objects_among us ms)) ≡ object_meant (cond b (Some m) (first_meaning t us ms))
    by (IsType n) e true h k later = rw (h, e) refl
    by (IsType n) e false h k later = rw h (later (o + 1) c k)
    by (IsObject n) e true h k later = rw (h, e) refl
    by (IsObject n) e false h k later = rw h (later (o + 1) c k)
    by (IsCode n) e true h k later = no_object t o us ms (others_differ t u us h both.0)
    by (IsCode n) e false h k later = later o (c + 1) k
    by IsProcess e true h k later = no_object t o us ms (others_differ t u us h both.0)
    by IsProcess e false h k later = later o c k

-- and a code's among the codes
code_first : (t : List ℕ) (o c : ℕ) (us : List (List ℕ)) (ms : List Meaning) → are_apart us ≡ true → AreNumbered o c us ms
    → position_from (same_text t) c (codes_among us ms) ≡ code_meant (first_meaning t us ms)
unfolding first_meaning
code_first t o c [] ms apart k = refl
code_first t o c (u ∷ us) [] apart k = absurd k
code_first t o c (u ∷ us) (m ∷ ms) apart k = by m k.0 (same_text t u) refl k.1 (λ p q l. code_first t p q us ms both.1 l)
  where
    both : (not (list_any (λ y. same_text y u) us) ≡ true) × (are_apart us ≡ true)
    both = and_parts (not (list_any (λ y. same_text y u) us)) (are_apart us) apart

    by : (m : Meaning) → IsNext o c m → (b : Bool) → same_text t u ≡ b → AreNumbered (object_behind o m) (code_behind c m) us ms
        → ((p q : ℕ) → AreNumbered p q us ms → position_from (same_text t) q (codes_among us ms) ≡ code_meant (first_meaning t us ms))
        → position_from (same_text t) c (code_before m u (codes_among us ms)) ≡ code_meant (cond b (Some m) (first_meaning t us ms))
    by (IsType n) e true h k later = no_code t c us ms (others_differ t u us h both.0)
    by (IsType n) e false h k later = later (o + 1) c k
    by (IsObject n) e true h k later = no_code t c us ms (others_differ t u us h both.0)
    by (IsObject n) e false h k later = later (o + 1) c k
    by (IsCode n) e true h k later = rw (h, e) refl
    by (IsCode n) e false h k later = rw h (later o (c + 1) k)
    by IsProcess e true h k later = no_code t c us ms (others_differ t u us h both.0)
    by IsProcess e false h k later = later o c k

-- which of the objects are types

-- the number, if a type has it
typed : List Bool → Option ℕ → Option ℕ
typed flags None = None
typed flags (Some n) = cond (get_or flags n false) (Some n) None

flag_at : (front : List Bool) (flag : Bool) (flags : List Bool) (n o : ℕ) → n ≡ o → o ≡ length front → get_or (front ++ flag ∷ flags) n false ≡ flag
flag_at front flag flags n o e f = rw (e, f) (go front)
  where
    go : (front : List Bool) → get_or (front ++ flag ∷ flags) (length front) false ≡ flag
    go [] = refl
    go (x ∷ xs) = go xs

-- of names behind others, whose flags are there
abbrev FlagsFit : List ℕ → List (List ℕ) → List Meaning → Type 0
FlagsFit t us ms =
    (o c : ℕ) (front : List Bool) → o ≡ length front → AreNumbered o c us ms
    → typed (front ++ filter_map type_flag ms) (object_meant (first_meaning t us ms)) ≡ type_meant (first_meaning t us ms)

type_first : (t : List ℕ) (o c : ℕ) (front : List Bool) (us : List (List ℕ)) (ms : List Meaning) → o ≡ length front → AreNumbered o c us ms
    → typed (front ++ filter_map type_flag ms) (object_meant (first_meaning t us ms)) ≡ type_meant (first_meaning t us ms)
unfolding first_meaning typed
type_first t o c front [] ms f k = refl
type_first t o c front (u ∷ us) [] f k = absurd k
type_first t o c front (u ∷ us) (m ∷ ms) f k = by m k.0 (same_text t u) k.1 (λ p q flags g l. type_first t p q flags us ms g l)
  where
    -- one flag more
    longer : (flag : Bool) → AreNumbered (o + 1) c us ms → FlagsFit t us ms
        → typed (front ++ flag ∷ filter_map type_flag ms) (object_meant (first_meaning t us ms)) ≡ type_meant (first_meaning t us ms)
    longer flag k later =
        ap (λ (flags : List Bool). typed flags (object_meant (first_meaning t us ms))) (sym (append_assoc front (flag ∷ []) (filter_map type_flag ms)))
        ∙ later (o + 1) c (front ++ flag ∷ []) (let more = length-append front (flag ∷ []) in omega (arith, more, f)) k

    by : (m : Meaning) → IsNext o c m → (b : Bool) → AreNumbered (object_behind o m) (code_behind c m) us ms → FlagsFit t us ms
        → typed (front ++ filter_map type_flag (m ∷ ms)) (object_meant (cond b (Some m) (first_meaning t us ms))) ≡ type_meant (cond b (Some m) (first_meaning t us ms))
    by (IsType n) e true k later = rw (flag_at front true (filter_map type_flag ms) n o e f) refl
    by (IsType n) e false k later = longer true k later
    by (IsObject n) e true k later = rw (flag_at front false (filter_map type_flag ms) n o e f) refl
    by (IsObject n) e false k later = longer false k later
    by (IsCode n) e true k later = refl
    by (IsCode n) e false k later = later o (c + 1) front f k
    by IsProcess e true k later = refl
    by IsProcess e false k later = later o c front f k

-- the kernel types stand before the names of a script

behind : {X : Type 0} (p : X → Bool) (i : ℕ) (xs ys : List X) → position_from p i (xs ++ ys) ≡ or_else (position_from p i xs) (position_from p (i + length xs) ys)
behind p i [] ys = ap (λ n. position_from p n ys) (omega arith)
behind p i (x ∷ xs) ys = by (p x) (behind p (i + 1) xs ys)
  where
    by : (b : Bool) → position_from p (i + 1) (xs ++ ys) ≡ or_else (position_from p (i + 1) xs) (position_from p (i + 1 + length xs) ys)
        → cond b (Some i) (position_from p (i + 1) (xs ++ ys)) ≡ or_else (cond b (Some i) (position_from p (i + 1) xs)) (position_from p (i + length (x ∷ xs)) ys)
    by true later = refl
    by false later = later ∙ ap (λ n. or_else (position_from p (i + 1) xs) (position_from p n ys)) (omega arith)

below : {X : Type 0} (p : X → Bool) (i n : ℕ) (xs : List X) → position_from p i xs ≡ Some n → n < i + length xs
below p i n [] h = cc
below p i n (x ∷ xs) h = by (p x) h (below p (i + 1) n xs)
  where
    by : (b : Bool) → cond b (Some i) (position_from p (i + 1) xs) ≡ Some n → (position_from p (i + 1) xs ≡ Some n → n < i + 1 + length xs) → n < i + length (x ∷ xs)
    by true e later = let same : i ≡ n = cc in omega (arith, same)
    by false e later = let low = later e in omega (arith, low)

kernel_flag : (flags : List Bool) (n : ℕ) → n < 7 → get_or (kernel_flags ++ flags) n false ≡ true
kernel_flag flags zero h = refl
kernel_flag flags (suc zero) h = refl
kernel_flag flags (suc (suc zero)) h = refl
kernel_flag flags (suc (suc (suc zero))) h = refl
kernel_flag flags (suc (suc (suc (suc zero)))) h = refl
kernel_flag flags (suc (suc (suc (suc (suc zero))))) h = refl
kernel_flag flags (suc (suc (suc (suc (suc (suc zero)))))) h = refl
kernel_flag flags (suc (suc (suc (suc (suc (suc (suc n))))))) h = absurd (omega arith)

-- look-ups

object_place : (ts : List (List ℕ)) (ms : List Meaning) (t : List ℕ) → AreMeant ts ms
    → place (names_meant ts ms).objects t ≡ or_else (place kernel_names t) (object_meant (meaning_named ts ms t))
object_place ts ms t k =
    position_from-zero (same_text t) (kernel_names ++ objects_among ts ms)
    ∙ behind (same_text t) 0 kernel_names (objects_among ts ms)
    ∙ ap (λ (o : Option ℕ). or_else o (position_from (same_text t) 7 (objects_among ts ms))) (sym (position_from-zero (same_text t) kernel_names))
    ∙ ap (or_else (place kernel_names t)) (object_first t 7 0 ts ms k.apart k.numbered ∙ ap object_meant (sym (named_first t ts ms k.numbered)))

object_is : (ts : List (List ℕ)) (ms : List Meaning) (t : List ℕ) → AreMeant ts ms
    → object_named (names_meant ts ms) t ≡ found (or_else (place kernel_names t) (object_meant (meaning_named ts ms t))) UnknownName
object_is ts ms t k = ap (λ (o : Option ℕ). found o UnknownName) (object_place ts ms t k)

code_is : (ts : List (List ℕ)) (ms : List Meaning) (t : List ℕ) → AreMeant ts ms → place (names_meant ts ms).codes t ≡ code_meant (meaning_named ts ms t)
code_is ts ms t k =
    position_from-zero (same_text t) (codes_among ts ms) ∙ code_first t 7 0 ts ms k.apart k.numbered ∙ ap code_meant (sym (named_first t ts ms k.numbered))

type_found : (flags : List Bool) (o : Option ℕ)
    → (found o UnknownName >>= (λ n. unless (slice_index_or flags n false) UnknownName >> Ok n)) ≡ found (typed flags o) UnknownName
unfolding typed
type_found flags None = refl
type_found flags (Some n) = by (get_or flags n false)
  where
    by : (b : Bool) → (unless b UnknownName >> Ok n) ≡ found (cond b (Some n) None) UnknownName
    by true = refl
    by false = refl

type_place : (ts : List (List ℕ)) (ms : List Meaning) (t : List ℕ) → AreMeant ts ms
    → typed (kernel_flags ++ filter_map type_flag ms) (or_else (place kernel_names t) (object_meant (meaning_named ts ms t)))
    ≡ or_else (place kernel_names t) (type_meant (meaning_named ts ms t))
unfolding typed
type_place ts ms t k = by (place kernel_names t) refl
  where
    by : (o : Option ℕ) → place kernel_names t ≡ o
        → typed (kernel_flags ++ filter_map type_flag ms) (or_else o (object_meant (meaning_named ts ms t))) ≡ or_else o (type_meant (meaning_named ts ms t))
    by (Some n) e =
        let low : n < 7 = below (same_text t) 0 n kernel_names (sym (position_from-zero (same_text t) kernel_names) ∙ e) in
        rw (kernel_flag (filter_map type_flag ms) n low) refl
    by None e =
        ap (λ (o : Option Meaning). typed (kernel_flags ++ filter_map type_flag ms) (object_meant o)) (named_first t ts ms k.numbered)
        ∙ type_first t 7 0 kernel_flags ts ms refl k.numbered
        ∙ ap type_meant (sym (named_first t ts ms k.numbered))

type_is : (ts : List (List ℕ)) (ms : List Meaning) (t : List ℕ) → AreMeant ts ms
    → type_named (names_meant ts ms) t ≡ found (or_else (place kernel_names t) (type_meant (meaning_named ts ms t))) UnknownName
type_is ts ms t k =
    ap (λ (o : Result ℕ LoadCause). o >>= (λ n. unless (slice_index_or (kernel_flags ++ filter_map type_flag ms) n false) UnknownName >> Ok n)) (object_is ts ms t k)
    ∙ type_found (kernel_flags ++ filter_map type_flag ms) (or_else (place kernel_names t) (object_meant (meaning_named ts ms t)))
    ∙ ap (λ (o : Option ℕ). found o UnknownName) (type_place ts ms t k)

-- the same, as the methods have them

pub object_gives : (ts : List (List ℕ)) (ms us : List Meaning) (n : Names) (t u : List ℕ) (r : Option ℕ) → AreMeant ts ms → names_meant ts ms ≡ n → us ≡ ms → u ≡ t
    → r ≡ or_else (place kernel_names u) (object_meant (meaning_named ts us u)) → object_named n t ≡ found r UnknownName
object_gives ts ms us n t u r k v e f g =
    let here : r ≡ or_else (place kernel_names t) (object_meant (meaning_named ts ms t)) = rw (e, f) at g in
    ap (λ (m : Names). object_named m t) (sym v) ∙ object_is ts ms t k ∙ ap (λ (o : Option ℕ). found o UnknownName) (sym here)

pub type_gives : (ts : List (List ℕ)) (ms us : List Meaning) (n : Names) (t u : List ℕ) (r : Option ℕ) → AreMeant ts ms → names_meant ts ms ≡ n → us ≡ ms → u ≡ t
    → r ≡ or_else (place kernel_names u) (type_meant (meaning_named ts us u)) → type_named n t ≡ found r UnknownName
type_gives ts ms us n t u r k v e f g =
    let here : r ≡ or_else (place kernel_names t) (type_meant (meaning_named ts ms t)) = rw (e, f) at g in
    ap (λ (m : Names). type_named m t) (sym v) ∙ type_is ts ms t k ∙ ap (λ (o : Option ℕ). found o UnknownName) (sym here)

pub code_gives : (ts : List (List ℕ)) (ms us : List Meaning) (n : Names) (t u : List ℕ) (r : Option ℕ) → AreMeant ts ms → names_meant ts ms ≡ n → us ≡ ms → u ≡ t
    → r ≡ code_meant (meaning_named ts us u) → code_named n t ≡ found (option_map to_limit r) UnknownName
code_gives ts ms us n t u r k v e f g =
    let here : r ≡ code_meant (meaning_named ts ms t) = rw (e, f) at g in
    ap (λ (m : Names). code_named m t) (sym v) ∙ ap (λ (o : Option ℕ). found (option_map to_limit o) UnknownName) (code_is ts ms t k ∙ sym here)
