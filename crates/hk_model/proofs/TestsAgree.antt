-- Each test of the rule table passes, and refuses, exactly where the judgment of the inference rules holds that stands for it.
use Rattle.std.proofs.Common.{◌≡◌, ◌<◌, ◌≤◌, ℕ, zero, suc, List, [], ◌∷◌, length, Bool, true, false, not, ◌&&◌, Option, Some, None, Result, Ok, Err, refl, sym, ◌∙◌, ap, cond, subst, arith}
use Rattle.std.specs.Prelude.{find, filter, slice_get, nat_lt, nat_le}
use Rattle.std.proofs.lemmas.List.Elements.{All-cons, All-nil}
use Rattle.std.proofs.lemmas.Bool.{ltb-true, lt-ltb, ltb-false, le-ltb, leb-true, leb-false}
use Rattle.std.proofs.lemmas.Option.{slice_get_past}
use Rattle.hk_model.specs.declared.calls.Refusal.{Refusal}
use Rattle.hk_model.specs.declared.calls.Refusal.TheVariants as refused
use Rattle.hk_rights.specs.Rights.{has, first_missing, right_numbers}
use Rattle.hk_model.specs.Refusing.{◌>>=◌, ◌>>◌, unless, allowed, item_at}
use Rattle.hk_model.specs.Judgments.{Has, HasEach, FirstLacking, this, a_later, rights_of, IsAt, IsPastEnd}

-- what a test gives: something of its answer, or of its refusal
pub data Gives {A : Type 0} (P : A → Type 0) (Q : Refusal → Type 0) : Result A Refusal → Type 0 where
  gives : {x : A} → P x → Gives P Q (Ok x)
  refuses : {r : Refusal} → Q r → Gives P Q (Err r)

-- two tests, one after the other
pub gives_then : {A B : Type 0} {P : A → Type 0} {Q S : Refusal → Type 0} {R : B → Type 0} {r : Result A Refusal} {f : A → Result B Refusal}
    → Gives P Q r → ((x : A) → P x → Gives R S (f x)) → ((e : Refusal) → Q e → S e) → Gives R S (r >>= f)
gives_then (gives p) h k = h _ p
gives_then (refuses q) h k = refuses (k _ q)

pub gives_and : {A B : Type 0} {P : A → Type 0} {Q S : Refusal → Type 0} {R : B → Type 0} {r : Result A Refusal} {next : Result B Refusal}
    → Gives P Q r → ((x : A) → P x → Gives R S next) → ((e : Refusal) → Q e → S e) → Gives R S (r >> next)
gives_and (gives p) h k = h _ p
gives_and (refuses q) h k = refuses (k _ q)

-- what a test gives, in other words
pub gives_as : {A : Type 0} {P R : A → Type 0} {Q S : Refusal → Type 0} {r : Result A Refusal} → Gives P Q r → ((x : A) → P x → R x) → ((e : Refusal) → Q e → S e) → Gives R S r
gives_as (gives p) h k = gives (h _ p)
gives_as (refuses q) h k = refuses (k _ q)

-- a test that passes, and one that refuses, before others
pub ok_then : {A B : Type 0} {r : Result A Refusal} {x : A} {y : Result B Refusal} (f : A → Result B Refusal) → r ≡ Ok x → f x ≡ y → (r >>= f) ≡ y
ok_then f e h = ap (λ q. q >>= f) e ∙ h

pub ok_and : {A B : Type 0} {r : Result A Refusal} {x : A} {y : Result B Refusal} (next : Result B Refusal) → r ≡ Ok x → next ≡ y → (r >> next) ≡ y
ok_and next e h = ap (λ q. q >> next) e ∙ h

pub err_then : {A B : Type 0} {r : Result A Refusal} {e : Refusal} (f : A → Result B Refusal) → r ≡ Err e → (r >>= f) ≡ Err e
err_then f h = ap (λ q. q >>= f) h

pub err_and : {A B : Type 0} {r : Result A Refusal} {e : Refusal} (next : Result B Refusal) → r ≡ Err e → (r >> next) ≡ Err e
err_and next h = ap (λ q. q >> next) h

-- ---- rights

-- the first right of a list that is missing
abbrev missing : ℕ → List ℕ → Option ℕ
missing rights needed = find (λ n. not (has rights n)) needed

-- what is needed of a set is what is needed of the list of its rights
find_filter : (f g : ℕ → Bool) (xs : List ℕ) → find (λ n. f n && g n) xs ≡ find g (filter f xs)
find_filter f g [] = refl
find_filter f g (x ∷ xs) = by (f x) (find_filter f g xs)
  where
    by : (b : Bool) {left : Option ℕ} → left ≡ find g (filter f xs) → cond (b && g x) (Some x) left ≡ find g (cond b (x ∷ filter f xs) (filter f xs))
    by true e = rw e refl
    by false e = e

missing_is : (rights need : ℕ) → first_missing rights need ≡ missing rights (rights_of need)
unfolding first_missing
missing_is rights need = find_filter (has need) (λ n. not (has rights n)) right_numbers

-- whether a list has a right that is missing
pub data Misses (rights : ℕ) (needed : List ℕ) : Option ℕ → Type 0 where
  none_missing : HasEach rights needed → Misses rights needed None
  one_missing : {n : ℕ} → FirstLacking rights needed n → Misses rights needed (Some n)

misses : (rights : ℕ) (needed : List ℕ) → Misses rights needed (missing rights needed)
misses rights [] = none_missing (All-nil (Has rights))
misses rights (right ∷ more) = by (has rights right) refl (misses rights more)
  where
    later : {o : Option ℕ} → Has rights right → Misses rights more o → Misses rights (right ∷ more) o
    later there (none_missing h) = none_missing (All-cons (Has rights) right more there h)
    later there (one_missing h) = one_missing (a_later there h)

    by : (b : Bool) → has rights right ≡ b → {o : Option ℕ} → Misses rights more o → Misses rights (right ∷ more) (cond (not b) (Some right) o)
    by true e h = later e h
    by false e h = one_missing (this e)

has_each_none : (rights : ℕ) (needed : List ℕ) → HasEach rights needed → missing rights needed ≡ None
has_each_none rights [] h = refl
has_each_none rights (right ∷ more) h =
    let there : Has rights right = h 0 right (omega arith) in
    rw there (has_each_none rights more (λ k d less. h (suc k) d (omega (arith, less))))

first_some : {rights : ℕ} {needed : List ℕ} {n : ℕ} → FirstLacking rights needed n → missing rights needed ≡ Some n
first_some (this lacks) = rw lacks refl
first_some (a_later there h) = rw there (first_some h)

-- the rights of a capability
abbrev answered : ℕ → Option ℕ → Result (Unit {0}) Refusal
answered step o = elim o [ None ↦ Ok tt | Some n ↦ Err (refused.Denied step n) ]

missing_of : (rights need : ℕ) (needed : List ℕ) → rights_of need ≡ needed → first_missing rights need ≡ missing rights needed
missing_of rights need needed same = missing_is rights need ∙ ap (missing rights) same

pub record IsMissing (rights : ℕ) (needed : List ℕ) (step : ℕ) (r : Refusal) : Type 0 where
  pub right : ℕ
  pub first : FirstLacking rights needed right
  pub is : r ≡ refused.Denied step right

pub allowed_gives : (rights need step : ℕ) (needed : List ℕ) → rights_of need ≡ needed
    → Gives (λ (u : Unit {0}). HasEach rights needed) (IsMissing rights needed step) (allowed rights need step)
allowed_gives rights need step needed same =
    subst (λ o. Gives (λ (u : Unit {0}). HasEach rights needed) (IsMissing rights needed step) (answered step o)) (sym (missing_of rights need needed same))
    (by (missing rights needed) (misses rights needed))
  where
    by : (o : Option ℕ) → Misses rights needed o → Gives (λ (u : Unit {0}). HasEach rights needed) (IsMissing rights needed step) (answered step o)
    by None (none_missing h) = gives h
    by (Some n) (one_missing h) = refuses (record { right = n; first = h; is = refl })

pub allowed_ok : (rights need step : ℕ) (needed : List ℕ) → rights_of need ≡ needed → HasEach rights needed → allowed rights need step ≡ Ok tt
allowed_ok rights need step needed same h = ap (answered step) (missing_of rights need needed same ∙ has_each_none rights needed h)

pub allowed_err : (rights need step : ℕ) (needed : List ℕ) (n : ℕ) → rights_of need ≡ needed → FirstLacking rights needed n
    → allowed rights need step ≡ Err (refused.Denied step n)
allowed_err rights need step needed n same h = ap (answered step) (missing_of rights need needed same ∙ first_some h)

-- ---- lists and limits

past_end : {A : Type 0} (ys : List A) (i : ℕ) → slice_get ys i ≡ None → length ys ≤ i
past_end [] i h = omega arith
past_end (y ∷ ys) zero h = absurd (cc)
past_end (y ∷ ys) (suc i) h = let g = past_end ys i h in omega (arith, g)

abbrev found : {A : Type 0} → ℕ → Option A → Result A Refusal
found step o = elim o [ None ↦ Err (refused.Range step) | Some x ↦ Ok x ]

pub item_gives : {A : Type 0} (xs : List A) (at step : ℕ) → Gives (IsAt xs at) (λ r. IsPastEnd xs at × (r ≡ refused.Range step)) (item_at xs at step)
item_gives {A} xs at step = by (slice_get xs at) refl
  where
    by : (o : Option A) → slice_get xs at ≡ o → Gives (IsAt xs at) (λ r. IsPastEnd xs at × (r ≡ refused.Range step)) (found step o)
    by (Some x) e = gives e
    by None e = refuses (past_end xs at e, refl)

pub item_ok : {A : Type 0} (xs : List A) (at step : ℕ) (x : A) → IsAt xs at x → item_at xs at step ≡ Ok x
item_ok xs at step x h = ap (found step) h

pub item_err : {A : Type 0} (xs : List A) (at step : ℕ) → IsPastEnd xs at → item_at xs at step ≡ Err (refused.Range step)
item_err xs at step h = ap (found step) (slice_get_past xs at h)

-- what is below a limit
pub below_gives : (a b : ℕ) (refusal : Refusal) → Gives (λ (u : Unit {0}). a < b) (λ r. (b ≤ a) × (r ≡ refusal)) (unless (nat_lt a b) refusal)
below_gives a b refusal = by (nat_lt a b) refl
  where
    by : (c : Bool) → nat_lt a b ≡ c → Gives (λ (u : Unit {0}). a < b) (λ r. (b ≤ a) × (r ≡ refusal)) (unless c refusal)
    by true e = gives (ltb-true a b e)
    by false e = refuses (ltb-false a b e, refl)

pub below_ok : (a b : ℕ) (refusal : Refusal) → a < b → unless (nat_lt a b) refusal ≡ Ok tt
below_ok a b refusal h = rw (lt-ltb a b h) refl

pub below_err : (a b : ℕ) (refusal : Refusal) → b ≤ a → unless (nat_lt a b) refusal ≡ Err refusal
below_err a b refusal h = rw (le-ltb a b h) refl

-- what is at most a limit
pub within_gives : (a b : ℕ) (refusal : Refusal) → Gives (λ (u : Unit {0}). a ≤ b) (λ r. (b < a) × (r ≡ refusal)) (unless (nat_le a b) refusal)
within_gives a b refusal = by (nat_le a b) refl
  where
    by : (c : Bool) → nat_le a b ≡ c → Gives (λ (u : Unit {0}). a ≤ b) (λ r. (b < a) × (r ≡ refusal)) (unless c refusal)
    by true e = gives (leb-true a b e)
    by false e = refuses (leb-false a b e, refl)
