-- The generated worlds can be run.
use Rattle.std.proofs.Common.{◌≡◌, ℕ, zero, suc, ◌+◌, ◌-◌, ◌<◌, ◌≤◌, List, [], ◌∷◌, ◌++◌, length, map, Bool, true, false, not, ◌||◌, refl, ap, sym, ◌∙◌, arith, inl, lit<, lit≤}
use Rattle.std.specs.Prelude.{IsTrue, codes}
use Rattle.std.specs.List.{AllByRecursion, list_all, list_any}
use Rattle.std.specs.Fmt.{digits}
use Rattle.std.proofs.lemmas.Bool.{and_parts, and_from, not-true}
use Rattle.std.proofs.lemmas.List.{map-append}
use Rattle.std.proofs.lemmas.List.Folds.{list_any-append}
use Rattle.hk_model.specs.declared.world.Born.{Born}
use Rattle.hk_model.specs.declared.world.Code.{Code}
use Rattle.hk_model.specs.declared.world.Task.{Task}
use Rattle.hk_model.specs.Labels.{is_name, are_apart, same_text}
use Rattle.hk_model.specs.Limits.{process_limit, event_limit, slot_limit}
use Rattle.hk_model.specs.Generated.{generate, processes_from, process_numbered, objects, code, bump_steps, main_steps, at_slot}
use Rattle.hk_model.specs.WorldValue.{IsWorld, IsRoute, IsTask, labels, world_value}

-- one more process stands at the end
processes_from-end : (n k : ℕ) → processes_from n k ++ process_numbered (n + k) ∷ [] ≡ processes_from n (k + 1)
processes_from-end n zero = let e : n + 0 ≡ n = omega arith in rw e refl
processes_from-end n (suc k) =
    let more : suc k + 1 ≡ suc (k + 1) = omega arith in
    let last : n + suc k ≡ (n + 1) + k = omega arith in
    rw (more, last) (ap (λ ts. process_numbered n ∷ ts) (processes_from-end (n + 1) k))

-- so it is when it is put there
pub processes_from-put : (before after : List Task) (last : Task) (k : ℕ) → after ≡ before ++ last ∷ [] → before ≡ processes_from 0 k → last ≡ process_numbered k
    → after ≡ processes_from 0 (k + 1)
processes_from-put before after last k put so_far is =
    let first : 0 + k ≡ k = omega arith in
    put ∙ (rw (so_far, is) (rw first at (processes_from-end 0 k)))

-- as many processes, and then those behind them
processes_from-more : (n j k : ℕ) → processes_from n (j + k) ≡ processes_from n j ++ processes_from (n + j) k
processes_from-more n zero k =
    let all : 0 + k ≡ k = omega arith in
    let first : n + 0 ≡ n = omega arith in
    rw (all, first) refl
processes_from-more n (suc j) k =
    let more : suc j + k ≡ suc (j + k) = omega arith in
    let first : n + suc j ≡ (n + 1) + j = omega arith in
    rw (more, first) (ap (λ ts. process_numbered n ∷ ts) (processes_from-more (n + 1) j k))

-- the labels of the objects and codes
abbrev other_labels : List (List ℕ)
other_labels = codes "total" ∷ codes "lock" ∷ codes "bump" ∷ codes "cbump" ∷ codes "main" ∷ []

-- the labels of the processes from number n on
process_labels : ℕ → ℕ → List (List ℕ)
process_labels n k = map (λ (t : Task). t.label) (processes_from n k)

-- a larger world has the labels of a smaller one, and then more
labels-more : (k j : ℕ) → labels (generate (k + j)) ≡ labels (generate k) ++ process_labels k j
unfolding generate process_labels
labels-more k j =
    let first : 0 + k ≡ k = omega arith in
    ap (λ ls. other_labels ++ ls) (ap (map (λ (t : Task). t.label)) (rw first at (processes_from-more 0 k j)) ∙ map-append (λ (t : Task). t.label)
    (processes_from 0 k) (processes_from k j))

-- no two of the first are the same where no two of all are
apart_front : (xs ys : List (List ℕ)) → are_apart (xs ++ ys) ≡ true → are_apart xs ≡ true
apart_front [] ys h = refl
apart_front (x ∷ xs) ys h =
    let both = and_parts (not (list_any (λ u. same_text u x) (xs ++ ys))) (are_apart (xs ++ ys)) h in
    let none : list_any (λ u. same_text u x) xs ≡ false = left (list_any (λ u. same_text u x) xs) (list_any (λ u. same_text u x) ys)
    (sym (list_any-append (λ u. same_text u x) xs ys) ∙ not-true _ both.0) in
    and_from _ _ (rw none refl) (apart_front xs ys both.1)
  where
    left : (a b : Bool) → (a || b) ≡ false → a ≡ false
    left true b h = h
    left false b h = refl

-- the first are names where all are
names_front : (xs ys : List (List ℕ)) → list_all is_name (xs ++ ys) ≡ true → AllByRecursion (λ l. IsTrue (is_name l)) xs
names_front [] ys h = tt
names_front (x ∷ xs) ys h = let both = and_parts (is_name x) (list_all is_name (xs ++ ys)) h in (both.0, names_front xs ys both.1)

-- the labels of the largest world are names, and no two are the same
most_names : list_all is_name (labels (generate process_limit)) ≡ true
unfolding digits generate
most_names = refl

most_apart : are_apart (labels (generate process_limit)) ≡ true
unfolding digits generate
most_apart = refl

-- the labels of each, with those that the largest has besides
labels_within : (k : ℕ) → k ≤ process_limit → labels (generate process_limit) ≡ labels (generate k) ++ process_labels k (process_limit - k)
labels_within k few = let all : k + (process_limit - k) ≡ process_limit = omega arith in rw all at (labels-more k (process_limit - k))

names_are : (k : ℕ) → k ≤ process_limit → AllByRecursion (λ l. IsTrue (is_name l)) (labels (generate k))
names_are k few = names_front (labels (generate k)) (process_labels k (process_limit - k)) (rw (labels_within k few) at most_names)

apart_are : (k : ℕ) → k ≤ process_limit → IsTrue (are_apart (labels (generate k)))
apart_are k few = apart_front (labels (generate k)) (process_labels k (process_limit - k)) (rw (labels_within k few) at most_apart)

length-processes : (n k : ℕ) → length (processes_from n k) ≡ k
length-processes n zero = refl
length-processes n (suc k) = ap suc (length-processes (n + 1) k)

-- each process can stand in a generated world
tasks_are : (j n k : ℕ) → AllByRecursion (IsTask (generate j)) (processes_from n k)
unfolding generate
tasks_are j n zero = tt
tasks_are j n (suc k) =
    ((lit< tt, lit≤ tt, ((lit< tt, refl), ((lit< tt, refl), ((lit< tt, refl), tt)))), tasks_are j (n + 1) k)

-- the path of one slot
at_a_slot : (n : ℕ) → n < slot_limit → IsRoute (at_slot n)
at_a_slot n h = (h, lit≤ tt, (omega arith, tt))

-- the parts of a generated world make it
pub world_value_lem : (objects' : List Born) (codes' : List Code) (tasks : List Task) (k : ℕ) → objects' ≡ objects
    → codes' ≡ code (codes "cbump") bump_steps ∷ code (codes "main") main_steps ∷ [] → tasks ≡ processes_from 0 k → world_value event_limit objects' codes' tasks ≡ generate k
unfolding generate
world_value_lem objects' codes' tasks k p q r = cc

-- a generated world can be run
pub generated_is_world : (k : ℕ) → k ≤ process_limit → IsWorld (generate k)
unfolding generate
generated_is_world k few = record {
  some_events = lit< tt;
  few_events = lit≤ tt;
  few_objects = lit≤ tt;
  few_codes = lit≤ tt;
  few_tasks = rw length-processes few;
  names = names_are k few;
  apart = apart_are k few;
  kinds = (
    (inl (refl, refl), lit≤ tt, (lit< tt, tt), lit≤ tt, tt),
    (
      lit≤ tt,
      (
        (lit< tt, lit≤ tt, ((inl (lit< tt), refl, refl), tt), lit≤ tt, tt),
        tt,
      ),
    ),
  );
  codes_are = (
    (lit≤ tt, ((at_a_slot 0 (lit< tt), lit< tt, lit< tt), ((lit< tt, lit< tt), ((at_a_slot 0 (lit< tt), lit< tt, lit< tt), tt)))),
    (
      (
        lit≤ tt,
        (
          at_a_slot 2 (lit< tt),
          (
            (at_a_slot 0 (lit< tt), (lit≤ tt, (lit< tt, tt)), lit< tt),
            (at_a_slot 2 (lit< tt), ((lit< tt, lit< tt), ((lit< tt, lit< tt, lit≤ tt), tt))),
          ),
        ),
      ),
      tt,
    ),
  );
  tasks_are = tasks_are k 0 k;
}
