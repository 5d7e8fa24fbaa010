-- Names and entries of a world are found again by the labels that they are written as.
use Rattle.std.proofs.Common.{◌≡◌, ℕ, suc, zero, ◌+◌, ◌-◌, ◌<◌, inl, inr, Bool, true, false, eqb, List, [], ◌∷◌, ◌++◌, length, get_or, refl, sym, ap, ◌∙◌, arith, ◌&&◌, ◌||◌, not}
use Rattle.std.proofs.Common.{map, min, Ok, Option, Some, None}
use Rattle.std.specs.List.{list_any, position_or_len, AllByRecursion}
use Rattle.std.specs.Prelude.{codes, IsTrue, slice_get}
use Rattle.std.proofs.lemmas.Bool.{and_parts, and_from, lt-ltb, eq-eqb, not-true}
use Rattle.std.proofs.lemmas.Bool.Decides.{nat_tests}
use Rattle.std.proofs.lemmas.List.{length-map, get_or-map, get_or-append_right}
use Rattle.std.proofs.lemmas.List.Folds.{list_any-append}
use Rattle.std.proofs.lemmas.Option.{slice_get_within, get_or_from_slice_get}
use Rattle.hk_model.specs.declared.names.Name.{Name}
use Rattle.hk_model.specs.declared.entries.Entry.{Entry}
use Rattle.hk_model.specs.declared.entries.Entry.TheVariants.{Empty, Held, Form}
use Rattle.hk_model.specs.declared.entries.Param.{Param}
use Rattle.hk_model.specs.declared.entries.Template.TheVariants as template
use Rattle.hk_model.specs.declared.world.Kind.{Kind}
use Rattle.hk_model.specs.declared.world.Kind.TheVariants as kind
use Rattle.hk_model.specs.declared.world.Born.{Born}
use Rattle.hk_model.specs.declared.world.Code.{Code}
use Rattle.hk_model.specs.declared.world.Task.{Task}
use Rattle.hk_model.specs.Labels.{same_text, is_lower, is_name, is_word, is_register, first, are_apart}
use Rattle.hk_model.specs.WorldValue.{WorldValue, IsWorld, IsObject, IsType, IsTypeOrAny, IsTypeKind, IsEntry, IsParam}
use Rattle.hk_format.specs.RightsTexts.{rights_text}
use Rattle.hk_rights.specs.Rights.{IsRightsWord}
use Rattle.hk_format.specs.Names.{Names, kernel_names, kernel_flags, is_type_kind, spoken, object_text, code_text}
use Rattle.hk_format.specs.Canonical.{kind_text, entry_body}
use Rattle.hk_format.specs.Loading.{object_named, type_named, kind_named, code_named, rights_named, entry_meant, param_of, place}
use Rattle.hk_format.proofs.RightsAgain.{rights_again}

pub same_self : (xs : List ℕ) → same_text xs xs ≡ true
same_self [] = refl
same_self (x ∷ xs) = and_from _ _ (eq-eqb x x refl) (same_self xs)

none_at : {X : Type 0} (p : X → Bool) (xs : List X) (k : ℕ) (d : X) → list_any p xs ≡ false → k < length xs → p (get_or xs k d) ≡ false
none_at p [] k d h l = absurd (omega arith)
none_at p (x ∷ xs) zero d h l = grind arith
none_at p (x ∷ xs) (suc k) d h l = none_at p xs k d (grind arith) (omega arith)

place_again : (xs : List (List ℕ)) (k : ℕ) → are_apart xs ≡ true → k < length xs → position_or_len (same_text (get_or xs k [])) xs ≡ k
place_again [] k h l = absurd (omega arith)
place_again (x ∷ xs) zero h l = rw (same_self x)
place_again (x ∷ xs) (suc k) h l =
    let both = and_parts (not (list_any (λ y. same_text y x) xs)) (are_apart xs) h in
    let other : same_text (get_or xs k []) x ≡ false = none_at (λ y. same_text y x) xs k [] (not-true _ both.0) (omega arith) in
    rw other (omega (arith, place_again xs k both.1 (omega arith)))

-- a name that stands once is found at its place
pub place_found : (xs : List (List ℕ)) (k : ℕ) → are_apart xs ≡ true → k < length xs → place xs (get_or xs k []) ≡ Some k
place_found xs k h l = rw (place_again xs k h l, lt-ltb k (length xs) l)

apart_behind : (xs ys : List (List ℕ)) → are_apart (xs ++ ys) ≡ true → are_apart ys ≡ true
apart_behind [] ys h = h
apart_behind (x ∷ xs) ys h = apart_behind xs ys (and_parts (not (list_any (λ u. same_text u x) (xs ++ ys))) (are_apart (xs ++ ys)) h).1

apart_before : (xs ys : List (List ℕ)) → are_apart (xs ++ ys) ≡ true → are_apart xs ≡ true
apart_before [] ys h = refl
apart_before (x ∷ xs) ys h =
    let both = and_parts (not (list_any (λ u. same_text u x) (xs ++ ys))) (are_apart (xs ++ ys)) h in
    let none : list_any (λ u. same_text u x) xs ≡ false = left (list_any (λ u. same_text u x) xs) (list_any (λ u. same_text u x) ys)
    (sym (list_any-append (λ u. same_text u x) xs ys) ∙ not-true _ both.0) in
    and_from _ _ (rw none refl) (apart_before xs ys both.1)
  where
    left : (a b : Bool) → (a || b) ≡ false → a ≡ false
    left true b h = h
    left false b h = refl

-- names begin with small letters, and the kernel types with capital ones
name_first : (t : List ℕ) → is_name t ≡ true → is_lower (first t) ≡ true
name_first t h =
    let word = (and_parts (is_word t) (not (is_register t)) (and_parts (is_word t && not (is_register t)) (not (same_text t (codes "any"))) h).0).0 in
    (and_parts (is_lower (first t)) _ (and_parts (is_lower (first t) && _) _ word).0).0

no_kernel : (k : ℕ) (ks : List ℕ) (ls : List (List ℕ)) → is_lower k ≡ false → AllByRecursion (λ l. IsTrue (is_name l)) ls → list_any (λ u. same_text u (k ∷ ks)) ls ≡ false
no_kernel k ks [] big h = refl
no_kernel k ks (l ∷ ls) big h = rw (differs l (name_first l h.0)) (no_kernel k ks ls big h.1)
  where
    differs : (l : List ℕ) → is_lower (first l) ≡ true → same_text l (k ∷ ks) ≡ false
    differs [] low = refl
    differs (x ∷ xs) low = go (eqb x k) refl
      where
        go : (b : Bool) → eqb x k ≡ b → (b && same_text xs ks) ≡ false
        go true e = absurd (grind (arith, nat_tests))
        go false e = refl

pub kernel_apart : (ls : List (List ℕ)) → AllByRecursion (λ l. IsTrue (is_name l)) ls → are_apart ls ≡ true → are_apart (kernel_names ++ ls) ≡ true
kernel_apart ls h apart =
    rw (
      no_kernel 84 (codes "YPE") ls refl h,
      no_kernel 68 (codes "ATA") ls refl h,
      no_kernel 85 (codes "NIVERSAL") ls refl h,
      no_kernel 83 (codes "EMAPHORE") ls refl h,
      no_kernel 80 (codes "ROCEDURE") ls refl h,
      no_kernel 80 (codes "ROCESS") ls refl h,
      no_kernel 76 (codes "NS") ls refl h,
    ) apart

names_front : (xs ys : List (List ℕ)) → AllByRecursion (λ l. IsTrue (is_name l)) (xs ++ ys) → AllByRecursion (λ l. IsTrue (is_name l)) xs
names_front [] ys h = tt
names_front (x ∷ xs) ys h = (h.0, names_front xs ys h.1)

-- the object is a type
unfoldable pub is_type_object : Born → Bool
is_type_object born = is_type_kind born.kind

-- what a world's names are in both directions
pub record Known (w : WorldValue) (names : Names) : Type 0 where
  pub objects : names.objects ≡ (spoken w).objects
  pub types : names.types ≡ kernel_flags ++ map is_type_object w.objects
  pub codes : names.codes ≡ (spoken w).codes
  pub world : IsWorld w

objects_apart : (w : WorldValue) → IsWorld w → are_apart (spoken w).objects ≡ true
objects_apart w h =
    let own = map (λ (b : Born). b.label) w.objects in
    let rest = map (λ (c : Code). c.label) w.codes ++ map (λ (t : Task). t.label) w.tasks in
    kernel_apart own (names_front own rest h.names) (apart_before own rest h.apart)

codes_apart : (w : WorldValue) → IsWorld w → are_apart (spoken w).codes ≡ true
codes_apart w h =
    let own = map (λ (b : Born). b.label) w.objects in
    let codes = map (λ (c : Code). c.label) w.codes in
    let tasks = map (λ (t : Task). t.label) w.tasks in
    apart_before codes tasks (apart_behind own (codes ++ tasks) h.apart)

pub object_again : {w : WorldValue} {names : Names} → Known w names → (n : Name) → IsObject w n → object_named names (object_text (spoken w) n) ≡ Ok n.0
object_again {w} k n h =
    let size : length (spoken w).objects ≡ 7 + length w.objects = rw length-map (omega arith) in
    rw (k.objects, place_found (spoken w).objects n.0 (objects_apart w k.world) (omega arith))

there_at : {X : Type 0} (xs : List X) (k : ℕ) (x : X) → slice_get xs k ≡ Some x → (k < length xs) × (get_or xs k x ≡ x)
there_at xs k x e = (slice_get_within xs k x e, get_or_from_slice_get xs k x x e)

pub type_object : (w : WorldValue) (n : Name) → IsType w n → IsObject w n
type_object w n (inl low) = omega arith
type_object w n (inr declared) = let at = (there_at w.objects (n.0 - 7) declared.born declared.there).0 in let above = declared.above in omega arith

flag_low : (fs : List Bool) (n : ℕ) → n < 7 → get_or (kernel_flags ++ fs) n false ≡ true
flag_low fs zero h = refl
flag_low fs (suc zero) h = refl
flag_low fs (suc (suc zero)) h = refl
flag_low fs (suc (suc (suc zero))) h = refl
flag_low fs (suc (suc (suc (suc zero)))) h = refl
flag_low fs (suc (suc (suc (suc (suc zero))))) h = refl
flag_low fs (suc (suc (suc (suc (suc (suc zero)))))) h = refl
flag_low fs (suc (suc (suc (suc (suc (suc (suc n))))))) h = absurd (omega arith)

type_flag : (b : Born) → IsTypeKind b.kind → is_type_object b ≡ true
unfolding is_type_object
type_flag b h = go b.kind h
  where
    go : (k : Kind) → IsTypeKind k → is_type_object (record { label = []; kind = k }) ≡ true
    go kind.TypeObject h = refl
    go (kind.Plain of words entries) h = absurd h
    go (kind.Semaphore count) h = absurd h
    go (kind.Procedure code params entries) h = absurd h

flag_again : (w : WorldValue) (n : Name) → IsType w n → get_or (kernel_flags ++ map is_type_object w.objects) n.0 false ≡ true
flag_again w n (inl low) = flag_low (map is_type_object w.objects) n.0 low
flag_again w n (inr declared) =
    let there = there_at w.objects (n.0 - 7) declared.born declared.there in
    get_or-append_right kernel_flags (map is_type_object w.objects) 7 n.0 false refl declared.above ∙ get_or-map is_type_object w.objects (n.0 - 7) declared.born false there.0
    ∙ ap is_type_object there.1 ∙ type_flag declared.born declared.is_type

pub type_again : {w : WorldValue} {names : Names} → Known w names → (n : Name) → IsType w n → type_named names (object_text (spoken w) n) ≡ Ok n.0
type_again {w} k n h = rw (object_again k n (type_object w n h), k.types, flag_again w n h)

-- labels of a world are not `any`
object_not_any : (w : WorldValue) → IsWorld w → (n : Name) → IsObject w n → same_text (object_text (spoken w) n) (codes "any") ≡ false
object_not_any w h n there = go (spoken w).objects n.0 (all_other w h) (let size : length (spoken w).objects ≡ 7 + length w.objects = rw length-map (omega arith) in omega arith)
  where
    go : (ls : List (List ℕ)) (k : ℕ) → AllByRecursion (λ l. same_text l (codes "any") ≡ false) ls → k < length ls → same_text (get_or ls k []) (codes "any") ≡ false
    go [] k all inside = absurd (omega arith)
    go (l ∷ ls) zero all inside = all.0
    go (l ∷ ls) (suc k) all inside = go ls k all.1 (omega arith)

    others : (ls : List (List ℕ)) → AllByRecursion (λ l. IsTrue (is_name l)) ls → AllByRecursion (λ l. same_text l (codes "any") ≡ false) ls
    others [] all = tt
    others (l ∷ ls) all = (not-true _ (and_parts (is_word l && not (is_register l)) (not (same_text l (codes "any"))) all.0).1, others ls all.1)

    all_other : (w : WorldValue) → IsWorld w → AllByRecursion (λ l. same_text l (codes "any") ≡ false) (spoken w).objects
    all_other w h = (
      refl,
      (
        refl,
        (
          refl,
          (
            refl,
            (
              refl,
              (
                refl,
                (
                  refl,
                  others (map (λ (b : Born). b.label) w.objects)
                      (names_front (map (λ (b : Born). b.label) w.objects) (map (λ (c : Code). c.label) w.codes ++ map (λ (t : Task). t.label) w.tasks) h.names),
                ),
              ),
            ),
          ),
        ),
      ),
    )

pub kind_again : {w : WorldValue} {names : Names} → Known w names → (of : Option Name) → IsTypeOrAny w of → kind_named names (kind_text (spoken w) of) ≡ Ok of
kind_again k None h = refl
kind_again {w} k (Some n) h = rw (object_not_any w k.world n (type_object w n h), type_again k n h)

pub code_again : {w : WorldValue} {names : Names} → Known w names → (n : ℕ) → n < length w.codes → code_named names (code_text (spoken w) n) ≡ Ok n
code_again {w} k n h =
    let few = k.world.few_codes in
    let least : min n 4096 ≡ n = omega arith in
    rw (k.codes, place_found (spoken w).codes n (codes_apart w k.world) (rw length-map h), least)

pub rights_found : (r : ℕ) → IsRightsWord r → rights_named (rights_text r) ≡ Ok r
rights_found r h = rw (rights_again r h)

pub entry_again : {w : WorldValue} {names : Names} → Known w names → (e : Entry) → IsEntry w e → entry_meant names (entry_body (spoken w) e) ≡ Ok e
entry_again k Empty h = refl
entry_again k (Held cap) h = rw (object_again k cap.name h.0, rights_found cap.rights h.1)
entry_again k (Form (template.Amplify of check give)) h = rw (kind_again k of h.0, rights_found check h.1, rights_found give h.2)
entry_again k (Form (template.Create of give)) h = rw (type_again k of h.0, rights_found give h.1)

pub param_again : {w : WorldValue} {names : Names} → Known w names → (p : Param) → IsParam w p
    → param_of names (kind_text (spoken w) p.of) (rights_text p.check) (rights_text p.give) ≡ Ok p
param_again k p h = rw (kind_again k p.of h.0, rights_found p.check h.1, rights_found p.give h.2)
