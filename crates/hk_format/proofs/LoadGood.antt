-- What is loaded from the items of a script is a world.
use Rattle.std.proofs.Common.{◌≡◌, ℕ, ◌+◌, ◌-◌, ◌<◌, ◌≤◌, ◌⊎◌, inl, inr, ◌==◌, Bool, true, false, cond, ltb, List, [], ◌∷◌, ◌++◌, length, get_or, map, min, refl, sym, ap, ◌∙◌}
use Rattle.std.proofs.Common.{subst, arith, Ok, Err, Result, Option, Some, None}
use Rattle.std.specs.Prelude.{codes, slice_get, slice_index_or}
use Rattle.std.specs.List.{position_or_len, slice_split}
use Rattle.std.proofs.lemmas.Bool.{ltb-true, false≢true, eqb-true}
use Rattle.std.proofs.lemmas.Bool.Decides.{nat_tests}
use Rattle.std.proofs.lemmas.List.{get_or-append_right, get_or-map}
use Rattle.std.proofs.lemmas.Option.{slice_get_cases}
use Rattle.hk_rights.specs.Rights.{IsRightsWord, number_named, all_rights}
use Rattle.hk_rights.proofs.Words.{IsRightsWord-from_HasAll, IsRightsWord-bit_or}
use Rattle.hk_rights.proofs.Sets.{has-pow}
use Rattle.hk_rights.proofs.Table.{has-all_rights, named-is_right}
use Rattle.hk_rights.specs.Rights.{is_right}
use Rattle.std.specs.Prelude.{◌^◌, bit_or, option_map}
use Rattle.hk_model.specs.declared.names.Name.{Name}
use Rattle.hk_model.specs.declared.entries.Entry.{Entry}
use Rattle.hk_model.specs.declared.entries.Entry.TheVariants.{Empty, Form}
use Rattle.hk_model.specs.declared.entries.Param.{Param}
use Rattle.hk_model.specs.declared.entries.Template.TheVariants as template
use Rattle.hk_format.specs.declared.syntax.Body.{Body}
use Rattle.hk_format.specs.declared.syntax.Body.TheVariants.{EmptyEntry, CapEntry, AmplifyEntry, CreateEntry}
use Rattle.hk_model.specs.declared.world.Born.{Born}
use Rattle.hk_model.specs.declared.world.Kind.{Kind}
use Rattle.hk_model.specs.declared.world.Kind.TheVariants as kind
use Rattle.hk_format.specs.declared.causes.LoadCause.{LoadCause}
use Rattle.hk_format.specs.declared.causes.LoadCause.TheVariants.{UnknownName, WrongPart, TooMany, BadRights}
use Rattle.hk_model.specs.Labels.{same_text}
use Rattle.hk_format.specs.RightsTexts.{rights_spelled, right_of, both, union_of}
use Rattle.hk_model.specs.WorldValue.{WorldValue, IsEntry, IsParam, IsObject, IsType, IsTypeOrAny, IsTypeKind}
use Rattle.hk_format.specs.Names.{Names, kernel_flags}
use Rattle.hk_format.specs.Loading.{Refused, found, unless, limited, permitted, onto, object_named, type_named, kind_named, some_name, code_named, rights_named}
use Rattle.hk_model.specs.Refusing.{◌>>=◌, ◌>>◌}
use Rattle.hk_format.specs.Loading.{name_numbered, entry_meant, param_of, parameter, held_entry, place, to_limit}
use Rattle.hk_format.proofs.NamesAgain.{is_type_object}

-- a test that passed, and what came before it

pub bind_ok : {A B C : Type 0} (r : Result A C) (f : A → Result B C) (y : B) → (r >>= f) ≡ Ok y → (x : A) × (r ≡ Ok x) × (f x ≡ Ok y)
bind_ok (Ok x) f y h = (x, refl, h)
bind_ok (Err e) f y h = absurd (let k : Err e ≡ Ok y = h in cc)

pub then_ok : {A B C : Type 0} (r : Result A C) (next : Result B C) (y : B) → (r >> next) ≡ Ok y → (x : A) × (r ≡ Ok x) × (next ≡ Ok y)
then_ok (Ok x) next y h = (x, refl, h)
then_ok (Err e) next y h = absurd (let k : Err e ≡ Ok y = h in cc)

pub onto_ok : {A B : Type 0} (put : A → B → B) (line : ℕ) (r : Result A LoadCause) (rest : Result B Refused) (y : B) → onto put line r rest ≡ Ok y
    → (x : A) × (xs : B) × (r ≡ Ok x) × (rest ≡ Ok xs) × (put x xs ≡ y)
onto_ok put line (Ok x) (Ok xs) y h = (x, xs, refl, refl, cc)
onto_ok put line (Ok x) (Err e) y h = absurd (let k : Err e ≡ Ok y = h in cc)
onto_ok put line (Err c) rest y h = absurd (let k : Err (line, c) ≡ Ok y = h in cc)

pub found_ok : {A : Type 0} (o : Option A) (c : LoadCause) (x : A) → found o c ≡ Ok x → o ≡ Some x
found_ok (Some y) c x h = cc
found_ok None c x h = absurd (let k : Err c ≡ Ok x = h in cc)

pub unless_ok : (test : Bool) (c : LoadCause) (x : Unit {0}) → unless test c ≡ Ok x → test ≡ true
unless_ok true c x h = refl
unless_ok false c x h = absurd (let k : Err c ≡ Ok x = h in cc)

pub limited_ok : {A : Type 0} (few : Bool) (r : Result A LoadCause) (x : A) → limited few r ≡ Ok x → (r ≡ Ok x) × (few ≡ true)
limited_ok true (Ok y) x h = (h, refl)
limited_ok false (Ok y) x h = absurd (let k : Err TooMany ≡ Ok x = h in cc)
limited_ok few (Err c) x h = absurd (let k : Err c ≡ Ok x = h in cc)

pub permitted_ok : {A : Type 0} (may : Bool) (r : Result A LoadCause) (x : A) → permitted may r ≡ Ok x → (r ≡ Ok x) × (may ≡ true)
permitted_ok true (Ok y) x h = (h, refl)
permitted_ok false (Ok y) x h = absurd (let k : Err WrongPart ≡ Ok x = h in cc)
permitted_ok may (Err c) x h = absurd (let k : Err c ≡ Ok x = h in cc)

pub moved : {A C : Type 0} (P : A → Type 0) (x y : A) → ◌≡◌ {A = Result A C} (Ok x) (Ok y) → P x → P y
moved P x y h p = let e : x ≡ y = cc in subst P e p

pub place_below : (names : List (List ℕ)) (t : List ℕ) (n : ℕ) → place names t ≡ Some n → n < length names
place_below names t n h = go (ltb (position_or_len (same_text t) names) (length names)) refl h
  where
    go : (b : Bool) → ltb (position_or_len (same_text t) names) (length names) ≡ b → cond b (Some (position_or_len (same_text t) names)) None ≡ Some n → n < length names
    go true e k = let below = ltb-true _ _ e in let same : position_or_len (same_text t) names ≡ n = cc in omega arith
    go false e k = absurd (let none : None ≡ Some n = k in cc)

-- rights

pow_right : (name : List ℕ) (n : ℕ) → number_named name ≡ Some n → IsRightsWord (2 ^ n)
pow_right name n e =
    IsRightsWord-from_HasAll (2 ^ n) (λ k there.
    let same : k ≡ n = eqb-true k n (sym (has-pow n k) ∙ there) in
    has-all_rights k ∙ (ap (λ (j : ℕ). is_right j) same ∙ named-is_right name n e))

right_word : (t : List ℕ) (r : ℕ) → right_of t ≡ Some r → IsRightsWord r
right_word t r h = go (number_named t) refl h
  where
    go : (o : Option ℕ) → number_named t ≡ o → option_map (λ number. 2 ^ number) o ≡ Some r → IsRightsWord r
    go (Some n) e k = let same : 2 ^ n ≡ r = cc in subst IsRightsWord same (pow_right t n e)
    go None e k = absurd (let none : None ≡ Some r = k in cc)

union_word : (ts : List (List ℕ)) (r : ℕ) → union_of ts ≡ Some r → IsRightsWord r
union_word [] r h = let same : 0 ≡ r = cc in subst IsRightsWord same refl
union_word (t ∷ ts) r h = go (right_of t) refl (union_of ts) refl h (λ s e. union_word ts s e)
  where
    go : (a : Option ℕ) → right_of t ≡ a → (b : Option ℕ) → union_of ts ≡ b → both a b ≡ Some r → ((s : ℕ) → union_of ts ≡ Some s → IsRightsWord s) → IsRightsWord r
    go (Some x) e (Some y) f k rest = let same : bit_or x y ≡ r = cc in subst IsRightsWord same (IsRightsWord-bit_or x y (right_word t x e) (rest y f))
    go (Some x) e None f k rest = absurd (let none : None ≡ Some r = k in cc)
    go None e b f k rest = absurd (let none : None ≡ Some r = k in cc)

-- what a text of rights means is a set of rights
pub rights_word : (t : List ℕ) (r : ℕ) → rights_named t ≡ Ok r → IsRightsWord r
unfolding rights_spelled
rights_word t r h = go (same_text t (codes "-")) (same_text t (codes "ALL")) (found_ok (rights_spelled t) BadRights r h)
  where
    go : (a b : Bool) → cond a (Some 0) (cond b (Some all_rights) (union_of (slice_split (λ c. c == 43) t))) ≡ Some r → IsRightsWord r
    go true b k = let same : 0 ≡ r = cc in subst IsRightsWord same refl
    go false true k = let same : all_rights ≡ r = cc in subst IsRightsWord same refl
    go false false k = union_word (slice_split (λ c. c == 43) t) r k

-- names

-- the names are those of this world
pub record NamesFit (w : WorldValue) (names : Names) : Type 0 where
  pub objects : length names.objects ≡ 7 + length w.objects
  pub types : names.types ≡ kernel_flags ++ map is_type_object w.objects
  pub codes : length names.codes ≡ length w.codes

pub object_loaded : {w : WorldValue} {names : Names} → NamesFit w names → (t : List ℕ) (n : ℕ) → object_named names t ≡ Ok n → IsObject w (name_numbered n)
object_loaded {w} {names} fit t n h = let below = place_below names.objects t n (found_ok (place names.objects t) UnknownName n h) in let size = fit.objects in omega arith

type_kind : (b : Born) → is_type_object b ≡ true → IsTypeKind b.kind
unfolding is_type_object
type_kind b h = go b.kind h
  where
    go : (k : Kind) → is_type_object (record { label = []; kind = k }) ≡ true → IsTypeKind k
    go kind.TypeObject h = tt
    go (kind.Plain of words entries) h = absurd (false≢true h)
    go (kind.Semaphore count) h = absurd (false≢true h)
    go (kind.Procedure code params entries) h = absurd (false≢true h)

-- a number whose flag is set is that of a type
type_flagged : (w : WorldValue) (n : ℕ) → n < 7 + length w.objects → get_or (kernel_flags ++ map is_type_object w.objects) n false ≡ true → IsType w (name_numbered n)
type_flagged w n there flag = go (ltb n 7) refl
  where
    declared : 7 ≤ n → ((born : Born) × (n - 7 < length w.objects) × (slice_get w.objects (n - 7) ≡ Some born) × (get_or w.objects (n - 7) born ≡ born))
        → IsType w (name_numbered n)
    declared above at =
        let flagged : is_type_object at.0 ≡ true = ap is_type_object (sym at.3) ∙ sym (get_or-map is_type_object w.objects (n - 7) at.0 false at.1)
        ∙ sym (get_or-append_right kernel_flags (map is_type_object w.objects) 7 n false refl above) ∙ flag in
        inr (record { born = at.0; above = above; there = at.2; is_type = type_kind at.0 flagged })

    either : 7 ≤ n
        → (((born : Born) × (n - 7 < length w.objects) × (slice_get w.objects (n - 7) ≡ Some born) × (get_or w.objects (n - 7) born ≡ born)) ⊎
        ((length w.objects ≤ n - 7) × (slice_get w.objects (n - 7) ≡ None)))
        → IsType w (name_numbered n)
    either above (inl at) = declared above at
    either above (inr past) = absurd (let end = past.0 in omega arith)

    go : (b : Bool) → ltb n 7 ≡ b → IsType w (name_numbered n)
    go true e = inl (ltb-true n 7 e)
    go false e = let above : 7 ≤ n = grind (arith, nat_tests) in either above (slice_get_cases w.objects (n - 7)).1

pub type_loaded : {w : WorldValue} {names : Names} → NamesFit w names → (t : List ℕ) (n : ℕ) → type_named names t ≡ Ok n → IsType w (name_numbered n)
type_loaded {w} {names} fit t n h =
    let a = bind_ok (object_named names t) (λ m. unless (slice_index_or names.types m false) UnknownName >> Ok m) n h in
    let b = then_ok (unless (slice_index_or names.types a.0 false) UnknownName) (Ok a.0) n a.2 in
    let flag = unless_ok (slice_index_or names.types a.0 false) UnknownName b.0 b.1 in
    let flagged = sym (ap (λ (fs : List Bool). slice_index_or fs a.0 false) fit.types) ∙ flag in
    moved (λ (m : ℕ). IsType w (name_numbered m)) a.0 n b.2 (type_flagged w a.0 (object_loaded fit t a.0 a.1) flagged)

kind_loaded : {w : WorldValue} {names : Names} → NamesFit w names → (t : List ℕ) (of : Option Name) → kind_named names t ≡ Ok of → IsTypeOrAny w of
kind_loaded {w} {names} fit t of h = go (same_text t (codes "any")) h
  where
    go : (b : Bool) → cond b (Ok None) (some_name (type_named names t)) ≡ Ok of → IsTypeOrAny w of
    go true k = moved (IsTypeOrAny w) None of k tt
    go false k =
        let a = bind_ok (type_named names t) (λ n. Ok (Some (name_numbered n))) of k in
        moved (IsTypeOrAny w) (Some (name_numbered a.0)) of a.2 (type_loaded fit t a.0 a.1)

pub code_loaded : {w : WorldValue} {names : Names} → NamesFit w names → (t : List ℕ) (n : ℕ) → code_named names t ≡ Ok n → n < length w.codes
code_loaded {w} {names} fit t n h = go (place names.codes t) refl (found_ok (option_map to_limit (place names.codes t)) UnknownName n h)
  where
    go : (o : Option ℕ) → place names.codes t ≡ o → option_map to_limit o ≡ Some n → n < length w.codes
    go (Some m) e k = let below = place_below names.codes t m e in let same : min m 4096 ≡ n = cc in let size = fit.codes in omega arith
    go None e k = absurd (let none : None ≡ Some n = k in cc)

-- single lines

pub entry_loaded : {w : WorldValue} {names : Names} → NamesFit w names → (body : Body) (e : Entry) → entry_meant names body ≡ Ok e → IsEntry w e
entry_loaded {w} {names} fit (CapEntry object rights) e h =
    let a = bind_ok (object_named names object) (λ n. rights_named rights >>= (λ r. Ok (held_entry n r))) e h in
    let b = bind_ok (rights_named rights) (λ r. Ok (held_entry a.0 r)) e a.2 in
    moved (IsEntry w) (held_entry a.0 b.0) e b.2 (object_loaded fit object a.0 a.1, rights_word rights b.0 b.1)
entry_loaded {w} {names} fit (AmplifyEntry kind check give) e h =
    let a = bind_ok (kind_named names kind) (λ of. rights_named check >>= (λ c. rights_named give >>= (λ g. Ok (Form (template.Amplify of c g))))) e h in
    let b = bind_ok (rights_named check) (λ c. rights_named give >>= (λ g. Ok (Form (template.Amplify a.0 c g)))) e a.2 in
    let d = bind_ok (rights_named give) (λ g. Ok (Form (template.Amplify a.0 b.0 g))) e b.2 in
    moved (IsEntry w) (Form (template.Amplify a.0 b.0 d.0)) e d.2 (kind_loaded fit kind a.0 a.1, rights_word check b.0 b.1, rights_word give d.0 d.1)
entry_loaded {w} {names} fit (CreateEntry of give) e h =
    let a = bind_ok (type_named names of) (λ n. rights_named give >>= (λ g. Ok (Form (template.Create (name_numbered n) g)))) e h in
    let b = bind_ok (rights_named give) (λ g. Ok (Form (template.Create (name_numbered a.0) g))) e a.2 in
    moved (IsEntry w) (Form (template.Create (name_numbered a.0) b.0)) e b.2 (type_loaded fit of a.0 a.1, rights_word give b.0 b.1)
entry_loaded {w} fit EmptyEntry e h = moved (IsEntry w) Empty e h tt
entry_loaded {w} fit _ e h = cc

pub param_loaded : {w : WorldValue} {names : Names} → NamesFit w names → (kind check give : List ℕ) (p : Param) → param_of names kind check give ≡ Ok p → IsParam w p
param_loaded {w} {names} fit kind check give p h =
    let a = bind_ok (kind_named names kind) (λ of. rights_named check >>= (λ c. rights_named give >>= (λ g. Ok (parameter of c g)))) p h in
    let b = bind_ok (rights_named check) (λ c. rights_named give >>= (λ g. Ok (parameter a.0 c g))) p a.2 in
    let d = bind_ok (rights_named give) (λ g. Ok (parameter a.0 b.0 g)) p b.2 in
    moved (IsParam w) (parameter a.0 b.0 d.0) p d.2 (kind_loaded fit kind a.0 a.1, rights_word check b.0 b.1, rights_word give d.0 d.1)
