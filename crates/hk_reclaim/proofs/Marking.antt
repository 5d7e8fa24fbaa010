-- What a mark does to the flags and to the order.
use Rattle.std.proofs.Common.{◌≡◌, ℕ, zero, suc, ◌+◌, ◌<◌, ◌≤◌, Bool, true, false, cond, List, [], ◌∷◌, length, get_or, set, drop, refl, ◌∙◌, sym, arith}
use Rattle.std.proofs.Common.{⊎_elim, length-set, Some, None, ◌||◌, slice_get}
use Rattle.std.proofs.lemmas.Bool.Decides.{nat_tests}
use Rattle.std.proofs.lemmas.Bool.{cases_lt}
use Rattle.std.proofs.lemmas.List.{drop_all, get_or_past}
use Rattle.std.proofs.lemmas.List.Sums.{count_by-le-length, sum_by-set}
use Rattle.std.specs.Bool.{◌==◌}
use Rattle.std.specs.List.{count_by}
use Rattle.hk_reclaim.specs.Marks.{AreMarks}
use Rattle.hk_reclaim.specs.Tally.{has}

-- places in the order
pub get_has : (xs : List ℕ) (i s : ℕ) → slice_get xs i ≡ Some s → has xs s ≡ true
get_has [] i s e = absurd (cc)
get_has (x ∷ xs) zero s e = let f : s ≡ x = cc in grind (arith, nat_tests)
get_has (x ∷ xs) (suc i) s e = let h : has xs s ≡ true = get_has xs i s e in either (s == x) (has xs s) h where
  either : (a b : Bool) → b ≡ true → (a || b) ≡ true
  either true b h = refl
  either false b h = h

pub get_at : (xs : List ℕ) (i d : ℕ) → i < length xs → slice_get xs i ≡ Some (get_or xs i d)
get_at [] i d low = absurd (omega arith)
get_at (x ∷ xs) zero d low = refl
get_at (x ∷ xs) (suc i) d low = get_at xs i d (omega arith)

pub none_behind : (xs : List ℕ) (i : ℕ) → length xs ≤ i → slice_get xs i ≡ None
none_behind [] i high = refl
none_behind (x ∷ xs) zero high = absurd (omega arith)
none_behind (x ∷ xs) (suc i) high = none_behind xs i (omega arith)

-- a flag that is down leaves room
one_more : (marked : List Bool) (s : ℕ) → s < length marked → get_or marked s false ≡ false → count_by (λ b. b) (set marked s true) ≡ count_by (λ b. b) marked + 1
one_more marked s low down =
    let h = sum_by-set (λ b. cond b 1 0) marked s true false low in
    let z : cond {A = ℕ} (get_or marked s false) 1 0 ≡ 0 = rw down refl in
    omega arith

pub room_left : (marked : List Bool) (order : List ℕ) (s : ℕ) → AreMarks marked order → s < length marked → get_or marked s false ≡ false → length order < length marked
room_left marked order s h low down =
    let l : count_by (λ b. b) (set marked s true) ≤ length (set marked s true) = count_by-le-length (λ b. b) (set marked s true) in
    let c : count_by (λ b. b) (set marked s true) ≡ count_by (λ b. b) marked + 1 = one_more marked s low down in
    omega (arith, length-set marked s true, h.many)

-- what is marked is within
pub flag_within : (marked : List Bool) (k : ℕ) → get_or marked k false ≡ true → k < length marked
flag_within marked k up = ⊎_elim
    (λ (l : k < length marked). l)
    (λ (g : length marked ≤ k). absurd (let f : false ≡ true = sym (get_or_past marked k false g) ∙ up in cc))
    (cases_lt k (length marked))

pub mark_within : (marked : List Bool) (order : List ℕ) (k : ℕ) → AreMarks marked order → has order k ≡ true → k < length marked
mark_within marked order k h m = flag_within marked k (h.flags k ∙ m)

-- the flags of the marked slots are taken down one by one, until none is left
pub all_lowered : (marked : List Bool) (order : List ℕ) (i : ℕ) → length order ≤ i → ((k : ℕ) → get_or marked k false ≡ true → has (drop i order) k ≡ true)
    → (k : ℕ) → get_or marked k false ≡ false
all_lowered marked order i high h k = by (get_or marked k false) (h k) where
  by : (b : Bool) → (b ≡ true → has (drop i order) k ≡ true) → b ≡ false
  by false up = refl
  by true up = absurd (
      let none : has (drop i order) k ≡ false = rw (drop_all i order high) refl in
      let some : has (drop i order) k ≡ true = up refl in cc (none, some))

none_up : (marked : List Bool) → ((k : ℕ) → get_or marked k false ≡ false) → count_by (λ b. b) marked ≡ 0
none_up [] down = refl
none_up (b ∷ marked) down = let f : b ≡ false = down 0 in rw f (none_up marked (λ k. down (suc k)))

pub none_marked : (marked : List Bool) → ((k : ℕ) → get_or marked k false ≡ false) → AreMarks marked []
none_marked marked down = record { flags = down; many = none_up marked down }
