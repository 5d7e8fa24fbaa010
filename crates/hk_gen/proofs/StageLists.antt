-- Lists with one item in their middle, and entries behind all of lower numbers.
use Rattle.std.proofs.Common.{◌≡◌, ℕ, ◌+◌, ◌<◌, ◌≤◌, List, [], ◌∷◌, ◌++◌, length, Bool, true, false, Some, None, refl, ◌∙◌, ap, arith, cond}
use Rattle.std.specs.Prelude.{slice_get, slice_set, count_by, ◌==◌}
use Rattle.std.specs.List.{AllByRecursion, list_all}
use Rattle.std.specs.Map.{lookup, remove_entry}
use Rattle.std.specs.BTreeMap.{insert_entry}
use Rattle.std.specs.Ordering.{nat_cmp, is_eq}
use Rattle.std.specs.declared.cmp.Ordering.TheVariants.{Greater}
use Rattle.std.proofs.Math.Seq.{set-append_seam}
use Rattle.std.proofs.lemmas.Bool.{and_parts, and_from}
use Rattle.std.proofs.lemmas.List.{length-append}
use Rattle.std.proofs.lemmas.List.Folds.{list_all-append}
use Rattle.std.proofs.lemmas.List.Sums.{sum_by-cons}
use Rattle.std.proofs.lemmas.Bool.Decides.{nat_tests}
use Rattle.hk_model.specs.declared.names.Inc.{Inc}
use Rattle.hk_model.specs.declared.names.Cpu.{Cpu}
use Rattle.hk_model.specs.declared.objects.Incarnation.{Incarnation}
use Rattle.hk_model.specs.declared.objects.Process.{Process}
use Rattle.hk_model.specs.declared.objects.ProcessState.{ProcessState}
use Rattle.hk_model.specs.declared.objects.ProcessState.TheVariants.{Ready, Running, Waiting, Ended}
use Rattle.hk_model.specs.declared.world.Task.{Task}
use Rattle.hk_model.specs.State.{same_inc, inc_cmp}
use Rattle.hk_model.specs.Opening.{bases, base_of, all_ready}
use Rattle.hk_model.specs.Processors.{is_on, has_ended, runner_from}

-- ---- an item in the middle

module _ {X : Type 0} where
  -- the item behind the others before it
  get_at : (xs : List X) (x : X) (ys : List X) → slice_get (xs ++ x ∷ ys) (length xs) ≡ Some x
  get_at [] x ys = refl
  get_at (y ∷ xs) x ys = get_at xs x ys

  -- the same, where n stand before it
  pub get_middle : (xs : List X) (x : X) (ys : List X) (n : ℕ) → length xs ≡ n → slice_get (xs ++ x ∷ ys) n ≡ Some x
  get_middle xs x ys n h = rw (← h) (get_at xs x ys)

  -- and what is put in its place
  pub set_middle : (xs : List X) (x z : X) (ys : List X) (n : ℕ) → length xs ≡ n → slice_set (xs ++ x ∷ ys) n z ≡ xs ++ z ∷ ys
  set_middle xs x z ys n h = rw (← h) (set-append_seam xs x ys z)

  -- there is one more of them where it goes to them
  pub length_more : (xs : List X) (x : X) (n : ℕ) → length xs ≡ n → length (xs ++ x ∷ []) ≡ n + 1
  length_more xs x n h = omega (arith, length-append xs (x ∷ []), h)

-- ---- processes

-- every process of the list has ended
abbrev pub AllEnded : List Process → Type 0
AllEnded ps = list_all (λ (p : Process). has_ended p.run) ps ≡ true

-- so has one more
pub ended_more : (ps : List Process) (p : Process) → AllEnded ps → has_ended p.run ≡ true → AllEnded (ps ++ p ∷ [])
ended_more ps p h g = rw (list_all-append (λ (p : Process). has_ended p.run) ps (p ∷ [])) (and_from _ _ h (and_from _ _ g refl))

-- who has ended runs nowhere
not_on : (cpu : Cpu) (run : ProcessState) → has_ended run ≡ true → is_on cpu run ≡ false
not_on cpu Ready h = refl
not_on cpu (Running other) h = absurd (cc)
not_on cpu (Waiting at) h = refl
not_on cpu Ended h = refl

-- the runner is the one in the middle, where those before it have ended
pub runner_middle : (done : List Process) (p : Process) (later : List Process) (cpu : Cpu) (first n : ℕ) → AllEnded done → is_on cpu p.run ≡ true → first + length done ≡ n
    → runner_from (done ++ p ∷ later) cpu first ≡ Some (record { 0 = n })
runner_middle [] p later cpu first n over on e = let same : first ≡ n = omega arith in rw (on, same)
runner_middle (x ∷ done) p later cpu first n over on e =
    let both = and_parts (has_ended x.run) (list_all (λ (p : Process). has_ended p.run) done) over in
    rw (not_on cpu x.run both.0) (runner_middle done p later cpu (first + 1) n both.1 on (omega arith))

-- nobody runs where all are ready
none_ready : (cpu : Cpu) (first n : ℕ) (ts : List Task) → runner_from (all_ready n ts) cpu first ≡ None
none_ready cpu first n [] = refl
none_ready cpu first n (t ∷ ts) = none_ready cpu (first + 1) (n + 1) ts

-- nor does anybody where some have ended and the others are ready
pub none_runs : (done : List Process) (cpu : Cpu) (first n : ℕ) (ts : List Task) → AllEnded done → runner_from (done ++ all_ready n ts) cpu first ≡ None
none_runs [] cpu first n ts over = none_ready cpu first n ts
none_runs (x ∷ done) cpu first n ts over =
    let both = and_parts (has_ended x.run) (list_all (λ (p : Process). has_ended p.run) done) over in
    rw (not_on cpu x.run both.0) (none_runs done cpu (first + 1) n ts both.1)

-- ---- incarnations

-- their numbers are all lower
abbrev pub AllBelow : ℕ → List (Inc × Incarnation) → Type 0
AllBelow q es = AllByRecursion (λ (e : Inc × Incarnation). e.0.0 < q) es

-- a higher number compares as Greater, and each as equal to itself
is_above : (q a : ℕ) → a < q → nat_cmp q a ≡ Greater
is_above q a h = grind (arith, nat_tests)

itself : (a : ℕ) → is_eq (nat_cmp a a) ≡ true
itself a = grind (arith, nat_tests)

-- the one with a higher number stands last
pub lookup_last : (es : List (Inc × Incarnation)) (q : ℕ) (x : Incarnation) → AllBelow q es → lookup (same_inc (record { 0 = q })) (es ++ (record { 0 = q }, x) ∷ []) ≡ Some x
lookup_last [] q x h = rw (itself q)
lookup_last (e ∷ es) q x h = rw (is_above q e.0.0 h.0) (lookup_last es q x h.1)

-- it is put there
pub insert_last : (es : List (Inc × Incarnation)) (q : ℕ) (x : Incarnation) → AllBelow q es → insert_entry inc_cmp es (record { 0 = q }) x ≡ es ++ (record { 0 = q }, x) ∷ []
insert_last [] q x h = refl
insert_last (e ∷ es) q x h = rw (is_above q e.0.0 h.0) (ap (λ l. e ∷ l) (insert_last es q x h.1))

-- and taken away again
pub remove_last : (es : List (Inc × Incarnation)) (q : ℕ) (x : Incarnation) → AllBelow q es → remove_entry (same_inc (record { 0 = q })) (es ++ (record { 0 = q }, x) ∷ []) ≡ es
remove_last [] q x h = rw (itself q)
remove_last (e ∷ es) q x h = rw (is_above q e.0.0 h.0) (ap (λ l. e ∷ l) (remove_last es q x h.1))

-- the first one is found, and taken away
pub lookup_first : (n : ℕ) (x : Incarnation) (es : List (Inc × Incarnation)) → lookup (same_inc (record { 0 = n })) ((record { 0 = n }, x) ∷ es) ≡ Some x
lookup_first n x es = rw (itself n)

pub remove_first : (n : ℕ) (x : Incarnation) (es : List (Inc × Incarnation)) → remove_entry (same_inc (record { 0 = n })) ((record { 0 = n }, x) ∷ es) ≡ es
remove_first n x es = rw (itself n)

-- what is below a number is below a higher one
pub below_higher : (es : List (Inc × Incarnation)) (q r : ℕ) → q ≤ r → AllBelow q es → AllBelow r es
below_higher [] q r h g = tt
below_higher (e ∷ es) q r h g = (omega arith, below_higher es q r h g.1)

-- the bases have the numbers of their processes
pub bases_below : (n q : ℕ) (ts : List Task) → n + length ts ≤ q → AllBelow q (bases n ts)
bases_below n q [] h = tt
bases_below n q (t ∷ ts) h = (omega arith, bases_below (n + 1) q ts (omega arith))

-- one item more is counted, or not
count_more : {X : Type 0} (test : X → Bool) (x : X) (xs : List X) (b : Bool) (n : ℕ) → test x ≡ b → count_by test xs ≡ n → count_by test (x ∷ xs) ≡ cond b 1 0 + n
count_more test x xs b n h g =
    sum_by-cons (λ y. cond (test y) 1 0) x xs ∙ (ap (λ c. cond c 1 0 + count_by test xs) h ∙ ap (λ k. cond b 1 0 + k) g)

-- and none is of a lower process
bases_of_others : (n p : ℕ) (ts : List Task) → p < n → count_by (λ (e : Inc × Incarnation). e.1.proc.0 == p) (bases n ts) ≡ 0
bases_of_others n p [] h = refl
bases_of_others n p (t ∷ ts) h =
    let apart : (n == p) ≡ false = grind (arith, nat_tests) in
    count_more (λ (e : Inc × Incarnation). e.1.proc.0 == p) (record { 0 = n }, base_of (record { 0 = n }) t.slots) (bases (n + 1) ts) false 0 apart
    (bases_of_others (n + 1) p ts (omega arith))

-- so the one base of a process is all that it has
pub base_alone : (n : ℕ) (t : Task) (ts : List Task) → count_by (λ (e : Inc × Incarnation). e.1.proc.0 == n) (bases n (t ∷ ts)) ≡ 1
base_alone n t ts =
    let same : (n == n) ≡ true = grind (arith, nat_tests) in
    count_more (λ (e : Inc × Incarnation). e.1.proc.0 == n) (record { 0 = n }, base_of (record { 0 = n }) t.slots) (bases (n + 1) ts) true 0 same
    (bases_of_others (n + 1) n ts (omega arith))
