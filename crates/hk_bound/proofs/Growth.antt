-- Rows grow: how much they weigh, and what a cell with more rights tells.
use Rattle.std.proofs.Common.{◌≡◌, ℕ, zero, suc, ◌+◌, ◌*◌, ◌<◌, ◌≤◌, List, [], ◌∷◌, length, Bool, true, false, Option, Some, None, refl, sym, ◌∙◌, ap, subst, arith, cond}
use Rattle.std.proofs.Common.{bit_and, bit_or, replicate}
use mathlib.Core.Logic.{inl, inr}
use Rattle.std.specs.Prelude.{IfSome, slice_set, slice_index_or, ◌||◌, ◌&&◌, ◌⊎◌, not, find}
use Rattle.std.specs.Option.{unwrap_or}
use Rattle.std.proofs.lemmas.Bool.{true≢false, false≢true, cases_lt}
use Rattle.std.proofs.lemmas.Bool.Decides.{nat_tests}
use Rattle.hk_rights.specs.Rights.{has, HasAll, IsRightsWord, first_missing, right_numbers, right_table, env_right}
use Rattle.hk_rights.proofs.Missing.{HasAll-from_first_missing}
use Rattle.hk_rights.proofs.Sets.{has-bit_or, has-bit_or_cases, same_rights, bit_and-from_HasAll}
use Rattle.hk_model.specs.WorldValue.{WorldValue}
use Rattle.hk_bound.specs.declared.forms.Form.{Form}
use Rattle.hk_bound.specs.Taking.{Thing, Old, MadeBy, Holder, Slots}
use Rattle.hk_bound.specs.Columns.{name_at, proc_at, cell, covers, joined, joined_rows, empty_rows, width_of, AreRows, ThingFollows, CellFollows, RowsFollow}
use Rattle.hk_bound.specs.Weights.{bit, count, cell_weight, row_weight, rows_weight}

-- a test that holds wherever another does holds as often
count_more : (f g : ℕ → Bool) (ns : List ℕ) → ((n : ℕ) → f n ≡ true → g n ≡ true) → count f ns ≤ count g ns
count_more f g [] h = omega arith
count_more f g (n ∷ ns) h = by (f n) (g n) (h n) (count_more f g ns h)
  where
    by : (x y : Bool) → (x ≡ true → y ≡ true) → count f ns ≤ count g ns → bit x + count f ns ≤ bit y + count g ns
    by true true k r = omega (arith, r)
    by true false k r = absurd (false≢true (k refl))
    by false true k r = omega (arith, r)
    by false false k r = omega (arith, r)

-- and only the same test as seldom
count_same : (f g : ℕ → Bool) (ns : List ℕ) → ((n : ℕ) → f n ≡ true → g n ≡ true) → count g ns ≤ count f ns → find (λ n. g n && not (f n)) ns ≡ None
count_same f g [] h e = refl
count_same f g (n ∷ ns) h e = by (f n) (g n) (h n) e (count_more f g ns h) (count_same f g ns h)
  where
    by : (x y : Bool) → (x ≡ true → y ≡ true) → bit y + count g ns ≤ bit x + count f ns → count f ns ≤ count g ns
        → (count g ns ≤ count f ns → find (λ n. g n && not (f n)) ns ≡ None) → cond (y && not x) (Some n) (find (λ n. g n && not (f n)) ns) ≡ None
    by true true k l m r = r (omega (arith, l))
    by true false k l m r = absurd (false≢true (k refl))
    by false true k l m r = absurd (omega (arith, l, m))
    by false false k l m r = r (omega (arith, l))

or_left : (x y : Bool) → x ≡ true → (x || y) ≡ true
or_left true y h = refl
or_left false y h = absurd (false≢true h)

more_rights : (a r n : ℕ) → has a n ≡ true → has (bit_or a r) n ≡ true
more_rights a r n h = has-bit_or a r n ∙ or_left (has a n) (has r n) h

both_ways : (x y : Bool) → (x ≡ true → y ≡ true) → (y ≡ true → x ≡ true) → x ≡ y
both_ways true y f g = sym (f refl)
both_ways false true f g = g refl
both_ways false false f g = refl

-- a cell that has grown weighs more
pub cell_grows : (cell : Option ℕ) (rights : ℕ) → cell_weight cell ≤ cell_weight (joined cell rights)
cell_grows None rights = omega arith
cell_grows (Some a) rights = let m = count_more (has a) (has (bit_or a rights)) right_numbers (more_rights a rights) in omega (arith, m)

first_none : (x y : ℕ) → find (λ n. has y n && not (has x n)) right_numbers ≡ None → first_missing x y ≡ None
unfolding first_missing
first_none x y e = e

cell_still : (cell : Option ℕ) (rights : ℕ) → IsRightsWord (unwrap_or (joined cell rights) 0) → cell_weight (joined cell rights) ≤ cell_weight cell → joined cell rights ≡ cell
cell_still None rights word h = absurd (omega (arith, h))
cell_still (Some a) rights word h =
    let none : first_missing a (bit_or a rights) ≡ None = first_none a (bit_or a rights)
    (count_same (has a) (has (bit_or a rights)) right_numbers (more_rights a rights) (omega (arith, h))) in
    ap (λ (r : ℕ). Some r) (same_rights (bit_or a rights) a
    (λ n. both_ways (has (bit_or a rights) n) (has a n) (HasAll-from_first_missing a (bit_or a rights) word none n) (more_rights a rights n)))

-- a row with another cell
pub set_weighs : (row : List (Option ℕ)) (at : ℕ) (cell low : Option ℕ) → at < length row
    → row_weight (slice_set row at cell) + cell_weight (slice_index_or row at low) ≡ row_weight row + cell_weight cell
set_weighs [] at cell low h = absurd (omega (arith, h))
set_weighs (old ∷ row) zero cell low h = omega arith
set_weighs (old ∷ row) (suc at) cell low h = let r = set_weighs row at cell low (omega (arith, h)) in omega (arith, r)

-- a row has a right 19 times at most for each thing
count_most : (f : ℕ → Bool) (ns : List ℕ) → count f ns ≤ length ns
count_most f [] = omega arith
count_most f (n ∷ ns) = by (f n) (count_most f ns)
  where
    by : (x : Bool) → count f ns ≤ length ns → bit x + count f ns ≤ length (n ∷ ns)
    by true r = omega (arith, r)
    by false r = omega (arith, r)

cell_most : (cell : Option ℕ) → cell_weight cell ≤ 20
unfolding right_numbers right_table
cell_most None = omega arith
cell_most (Some r) = let m = count_most (has r) right_numbers in omega (arith, m)

pub row_most : (row : List (Option ℕ)) → row_weight row ≤ 20 * length row
row_most [] = omega arith
row_most (cell ∷ row) = let a = cell_most cell in let b = row_most row in omega (arith, a, b)

-- ---- rows

or_here : (x y : Bool) → y ≡ true → (x || y) ≡ true
or_here true y h = refl
or_here false y h = h

covered : (a r : ℕ) → bit_or a r ≡ a → covers (Some a) r ≡ true
covered a r e =
    let all : HasAll a r = λ n h. sym (ap (λ m. has m n) e) ∙ (has-bit_or a r n ∙ or_here (has a n) (has r n) h) in
    let same : bit_and a r ≡ r = bit_and-from_HasAll a r all in
    grind (arith, nat_tests, same)

-- rights that the cell lacks make it heavier
pub cell_heavier : (o : Option ℕ) (r : ℕ) → IfSome (joined o r) (λ x. IsRightsWord x) → covers o r ≡ false → cell_weight o < cell_weight (joined o r)
cell_heavier None r word h = omega arith
cell_heavier (Some a) r word h = elim (cases_lt (cell_weight (Some a)) (cell_weight (joined (Some a) r))) [
  | inl less ↦ less
  | inr more ↦ absurd (true≢false (sym (covered a r (some_same (cell_still (Some a) r word more))) ∙ h))
]
  where
    some_same : {x y : ℕ} → ◌≡◌ {A = Option ℕ} (Some x) (Some y) → x ≡ y
    some_same e = cc

row_length : (row : List (Option ℕ)) (k : ℕ) (x : Option ℕ) → length (slice_set row k x) ≡ length row
row_length [] zero x = refl
row_length [] (suc k) x = refl
row_length (y ∷ row) zero x = refl
row_length (y ∷ row) (suc k) x = ap suc (row_length row k x)

rows_length : (rows : List (List (Option ℕ))) (k : ℕ) (x : List (Option ℕ)) → length (slice_set rows k x) ≡ length rows
rows_length [] zero x = refl
rows_length [] (suc k) x = refl
rows_length (y ∷ rows) zero x = refl
rows_length (y ∷ rows) (suc k) x = ap suc (rows_length rows k x)

set_rows : (rows : List (List (Option ℕ))) (p : ℕ) (row : List (Option ℕ)) → p < length rows
    → rows_weight (slice_set rows p row) + row_weight (slice_index_or rows p []) ≡ rows_weight rows + row_weight row
set_rows [] p row h = absurd (omega (arith, h))
set_rows (old ∷ rows) zero row h = omega arith
set_rows (old ∷ rows) (suc p) row h = let r = set_rows rows p row (omega (arith, h)) in omega (arith, r)

joined_weighs : (rows : List (List (Option ℕ))) (p c r : ℕ) → p < length rows → c < length (slice_index_or rows p [])
    → rows_weight (joined_rows rows p c r) + cell_weight (cell rows p c) ≡ rows_weight rows + cell_weight (joined (cell rows p c) r)
joined_weighs rows p c r h g =
    let a = set_rows rows p (slice_set (slice_index_or rows p []) c (joined (cell rows p c) r)) h in
    let b = set_weighs (slice_index_or rows p []) c (joined (cell rows p c) r) None g in
    omega (arith, a, b)

pub joined_no_less : (rows : List (List (Option ℕ))) (p c r : ℕ) → p < length rows → c < length (slice_index_or rows p []) → rows_weight rows ≤ rows_weight (joined_rows rows p c r)
joined_no_less rows p c r h g = let a = joined_weighs rows p c r h g in let b = cell_grows (cell rows p c) r in omega (arith, a, b)

pub joined_more : (rows : List (List (Option ℕ))) (p c r : ℕ) → p < length rows → c < length (slice_index_or rows p []) → IfSome (joined (cell rows p c) r) (λ x. IsRightsWord x)
    → covers (cell rows p c) r ≡ false
    → rows_weight rows < rows_weight (joined_rows rows p c r)
joined_more rows p c r h g word lacks = let a = joined_weighs rows p c r h g in let b = cell_heavier (cell rows p c) r word lacks in omega (arith, a, b)

-- rows of so many cells weigh no more than this
pub rows_most : (rows : List (List (Option ℕ))) (width : ℕ) → ((p : ℕ) → p < length rows → length (slice_index_or rows p []) ≡ width)
    → rows_weight rows ≤ length rows * (20 * width)
rows_most [] width h = omega arith
rows_most (row ∷ rows) width h =
    let a = row_most row in
    let b : length row ≡ width = h 0 (omega arith) in
    let c = rows_most rows width (λ p g. h (suc p) (omega (arith, g))) in
    grind (arith, a, b, c)

-- ---- what stands in a row

-- at a place that was set, or at another
set_at : {A : Type 0} (xs : List A) (k j : ℕ) (x d : A) → ((k ≡ j) × (slice_index_or (slice_set xs k x) j d ≡ x)) ⊎ (slice_index_or (slice_set xs k x) j d ≡ slice_index_or xs j d)
set_at [] zero j x d = inr refl
set_at [] (suc k) j x d = inr refl
set_at (y ∷ xs) zero zero x d = inl (refl, refl)
set_at (y ∷ xs) zero (suc j) x d = inr refl
set_at (y ∷ xs) (suc k) zero x d = inr refl
set_at (y ∷ xs) (suc k) (suc j) x d = elim (set_at xs k j x d) [ inl h ↦ inl (ap suc h.0, h.1) | inr h ↦ inr h ]

pub joined_at : (rows : List (List (Option ℕ))) (p c r q j : ℕ)
    → ((p ≡ q) × (c ≡ j) × (cell (joined_rows rows p c r) q j ≡ joined (cell rows p c) r)) ⊎ (cell (joined_rows rows p c r) q j ≡ cell rows q j)
joined_at rows p c r q j = by (set_at rows p q (slice_set (slice_index_or rows p []) c (joined (cell rows p c) r)) [])
  where
    new : List (Option ℕ)
    new = slice_set (slice_index_or rows p []) c (joined (cell rows p c) r)

    in_row : (p ≡ q) → (row : List (Option ℕ)) → row ≡ slice_set (slice_index_or rows p []) c (joined (cell rows p c) r)
        → ((c ≡ j) × (slice_index_or (slice_set (slice_index_or rows p []) c (joined (cell rows p c) r)) j None ≡ joined (cell rows p c) r)) ⊎
        (slice_index_or (slice_set (slice_index_or rows p []) c (joined (cell rows p c) r)) j None ≡ slice_index_or (slice_index_or rows p []) j None)
        → ((p ≡ q) × (c ≡ j) × (slice_index_or row j None ≡ joined (cell rows p c) r)) ⊎ (slice_index_or row j None ≡ cell rows q j)
    in_row same row is (inl g) = inl (same, g.0, ap (λ (l : List (Option ℕ)). slice_index_or l j None) is ∙ g.1)
    in_row same row is (inr g) = inr (ap (λ (l : List (Option ℕ)). slice_index_or l j None) is ∙ (g ∙ ap (λ (n : ℕ). cell rows n j) same))

    by : ((p ≡ q) × (slice_index_or (joined_rows rows p c r) q [] ≡ slice_set (slice_index_or rows p []) c (joined (cell rows p c) r))) ⊎
        (slice_index_or (joined_rows rows p c r) q [] ≡ slice_index_or rows q [])
        → ((p ≡ q) × (c ≡ j) × (cell (joined_rows rows p c r) q j ≡ joined (cell rows p c) r)) ⊎ (cell (joined_rows rows p c r) q j ≡ cell rows q j)
    by (inl h) = in_row h.0 (slice_index_or (joined_rows rows p c r) q []) h.1 (set_at (slice_index_or rows p []) c j (joined (cell rows p c) r) None)
    by (inr h) = inr (ap (λ (l : List (Option ℕ)). slice_index_or l j None) h)

pub joined_count : (rows : List (List (Option ℕ))) (p c r : ℕ) → length (joined_rows rows p c r) ≡ length rows
joined_count rows p c r = rows_length rows p (slice_set (slice_index_or rows p []) c (joined (cell rows p c) r))

module _ (w : WorldValue) (forms : List Form) where
  pub joined_rows_are : (rows : List (List (Option ℕ))) (p c r : ℕ) → AreRows w forms rows → AreRows w forms (joined_rows rows p c r)
  joined_rows_are rows p c r are = record {
    count = rows_length rows p (slice_set (slice_index_or rows p []) c (joined (cell rows p c) r)) ∙ are.count;
    width =
        λ q h. by q (let e = rows_length rows p (slice_set (slice_index_or rows p []) c (joined (cell rows p c) r)) in omega (arith, h, e))
        (set_at rows p q (slice_set (slice_index_or rows p []) c (joined (cell rows p c) r)) []);
  }
    where
      by : (q : ℕ) → q < length rows
          → ((p ≡ q) × (slice_index_or (joined_rows rows p c r) q [] ≡ slice_set (slice_index_or rows p []) c (joined (cell rows p c) r))) ⊎
          (slice_index_or (joined_rows rows p c r) q [] ≡ slice_index_or rows q [])
          → length (slice_index_or (joined_rows rows p c r) q []) ≡ width_of w forms
      by q low (inl g) = ap length g.1 ∙ (row_length (slice_index_or rows p []) c (joined (cell rows p c) r) ∙ are.width p (subst (λ (n : ℕ). n < length rows) (sym g.0) low))
      by q low (inr g) = ap length g ∙ are.width q low

  cell_or : (h : Holder) (column a b : ℕ) → CellFollows w forms h column a → CellFollows w forms h column b → CellFollows w forms h column (bit_or a b)
  cell_or h column a b f g = record {
    old = λ low. both (Old (name_at column)) (f.old low) (g.old low);
    made = λ maker low e. both (MadeBy (proc_at maker)) (f.made maker low e) (g.made maker low e);
    form = λ place form at e there. elim (has-bit_or_cases a b env_right there) [ inl k ↦ f.form place form at e k | inr k ↦ g.form place form at e k ];
  }
    where
      both : (t : Thing) → ThingFollows w h t a → ThingFollows w h t b → ThingFollows w h t (bit_or a b)
      both t u v = record { had = u.had; given = λ n is there. elim (has-bit_or_cases a b n there) [ inl k ↦ u.given n is k | inr k ↦ v.given n is k ] }

  pub joined_follow : (rows : List (List (Option ℕ))) (p c r : ℕ) → RowsFollow w forms rows → CellFollows w forms (Slots (proc_at p)) c r
      → RowsFollow w forms (joined_rows rows p c r)
  joined_follow rows p c r follow gap q j s e = by (joined_at rows p c r q j)
    where
      here : (o : Option ℕ) → cell rows p c ≡ o → joined o r ≡ Some s → CellFollows w forms (Slots (proc_at p)) c s
      here None f g = let same : r ≡ s = cc in subst (CellFollows w forms (Slots (proc_at p)) c) same gap
      here (Some a) f g = let same : bit_or a r ≡ s = cc in subst (CellFollows w forms (Slots (proc_at p)) c) same (cell_or (Slots (proc_at p)) c a r (follow p c a f) gap)

      by : ((p ≡ q) × (c ≡ j) × (cell (joined_rows rows p c r) q j ≡ joined (cell rows p c) r)) ⊎ (cell (joined_rows rows p c r) q j ≡ cell rows q j)
          → CellFollows w forms (Slots (proc_at q)) j s
      by (inl g) =
          subst (λ (n : ℕ). CellFollows w forms (Slots (proc_at n)) j s) g.0
          (subst (λ (n : ℕ). CellFollows w forms (Slots (proc_at p)) n s) g.1 (here (cell rows p c) refl (sym g.2 ∙ e)))
      by (inr g) = follow q j s (sym g ∙ e)

-- ---- the first rows

no_cell : (width j : ℕ) → let row : List (Option ℕ) = replicate width None in slice_index_or row j None ≡ None
no_cell zero zero = refl
no_cell zero (suc j) = refl
no_cell (suc n) zero = refl
no_cell (suc n) (suc j) = no_cell n j

pub nothing : (count width p j : ℕ) → cell (empty_rows count width) p j ≡ None
nothing zero width zero zero = refl
nothing zero width zero (suc j) = refl
nothing zero width (suc p) zero = refl
nothing zero width (suc p) (suc j) = refl
nothing (suc n) width zero j = no_cell width j
nothing (suc n) width (suc p) j = nothing n width p j

many_cells : (width : ℕ) → length (replicate {A = Option ℕ} width None) ≡ width
many_cells zero = refl
many_cells (suc n) = ap suc (many_cells n)

pub empty_count : (count width : ℕ) → length (empty_rows count width) ≡ count
empty_count zero width = refl
empty_count (suc n) width = ap suc (empty_count n width)

empty_width : (count width p : ℕ) → p < length (empty_rows count width) → length (slice_index_or (empty_rows count width) p []) ≡ width
empty_width zero width p h = absurd (omega (arith, h))
empty_width (suc n) width zero h = many_cells width
empty_width (suc n) width (suc p) h = empty_width n width p (omega (arith, h))

pub empty_follow : (w : WorldValue) (forms : List Form) (count width : ℕ) → RowsFollow w forms (empty_rows count width)
empty_follow w forms count width p j r e = let none = nothing count width p j in absurd (let clash : None ≡ Some r = sym none ∙ e in cc)

pub empty_are : (w : WorldValue) (forms : List Form) → AreRows w forms (empty_rows (length w.tasks) (width_of w forms))
empty_are w forms = record { count = empty_count (length w.tasks) (width_of w forms); width = empty_width (length w.tasks) (width_of w forms) }
