-- The numbers of the live incarnations of each process, as incarnations come and go.
use Rattle.std.proofs.Common.{◌≡◌, ℕ, ◌+◌, ◌-◌, ◌<◌, ◌≤◌, ◌==◌, Bool, true, false, not, cond, List, [], ◌∷◌, ◌++◌, length, take, Option, Some, None, refl, ap, sym, ◌∙◌, arith}
use Rattle.std.proofs.Common.{filter, count_by, Result, Ok, Err, get_or, drop}
use Rattle.std.proofs.lemmas.List.{length-append}
use Rattle.std.proofs.lemmas.List.Sums.{sum_by-cons}
use Rattle.std.specs.Map.{lookup, set_value, remove_entry}
use Rattle.std.specs.Option.{unwrap_or, is_some}
use Rattle.std.specs.Result.{is_err, OnErr, OnOk}
use Rattle.std.proofs.lemmas.List.{at_drop_more}
use Rattle.std.specs.Ordering.{nat_cmp, is_eq}
use Rattle.std.specs.declared.cmp.Ordering.TheVariants.{Greater}
use Rattle.std.specs.BTreeMap.{insert_entry}
use Rattle.std.proofs.lemmas.Bool.Decides.{nat_tests}
use Rattle.hk_model.specs.declared.names.Inc.{Inc}
use Rattle.hk_model.specs.declared.names.Proc.{Proc}
use Rattle.hk_model.specs.declared.objects.Incarnation.{Incarnation}
use Rattle.hk_model.specs.State.{same_inc, inc_cmp, no_incarnation}
use Rattle.hk_plain.proofs.Maps.{set_value_absent}
use Rattle.hk_plain.specs.Stacks.{numbers_of, same_proc, stack, without, remove_all, Rises, IsStacked}

abbrev pub Live : Type 0
Live = List (Inc × Incarnation)

-- numbers and their tests

after : (n k : ℕ) → n < k → nat_cmp k n ≡ Greater
after n k less = grind (arith, nat_tests)

apart : (n k : ℕ) → n < k → is_eq (nat_cmp n k) ≡ false
apart n k less = grind (arith, nat_tests)

apart_after : (n k : ℕ) → n < k → is_eq (nat_cmp k n) ≡ false
apart_after n k less = grind (arith, nat_tests)

unlike : (n k : ℕ) → n < k → (k == n) ≡ false
unlike n k less = grind (arith, nat_tests)

itself : (n : ℕ) → (n == n) ≡ true
itself n = grind (arith, nat_tests)

same_itself : (n : ℕ) → is_eq (nat_cmp n n) ≡ true
same_itself n = grind (arith, nat_tests)

same_is : (n k : ℕ) → is_eq (nat_cmp n k) ≡ true → n ≡ k
same_is n k e = grind (arith, nat_tests)

same_as : (n k : ℕ) → is_eq (nat_cmp n k) ≡ (k == n)
same_as n k = grind (arith, nat_tests)

-- what rises from a number on rises from each lower one on
pub rises_lower : (low lower : ℕ) (es : Live) (high : ℕ) → lower ≤ low → Rises low es high → Rises lower es high
rises_lower low lower [] high less h = omega arith
rises_lower low lower (e ∷ es) high less h = (omega (arith, h.0), h.1)

pub rises_span : (low : ℕ) (es : Live) (high : ℕ) → Rises low es high → low ≤ high
rises_span low [] high h = h
rises_span low (e ∷ es) high h = omega (arith, h.0, rises_span (e.0.0 + 1) es high h.1)

-- one more incarnation, with the next number, stands behind the others
at_end : (low : ℕ) (es : Live) (next : Inc) (new : Incarnation) → Rises low es next.0 → insert_entry inc_cmp es next new ≡ es ++ (next, new) ∷ []
at_end low [] next new h = refl
at_end low (e ∷ es) next new h =
    let past : nat_cmp next.0 e.0.0 ≡ Greater = after e.0.0 next.0 (omega (arith, rises_span (e.0.0 + 1) es next.0 h.1)) in
    rw past (ap (λ (rest : Live). e ∷ rest) (at_end (e.0.0 + 1) es next new h.1))

rises_end : (low : ℕ) (es : Live) (next : Inc) (new : Incarnation) → Rises low es next.0 → Rises low (es ++ (next, new) ∷ []) (next.0 + 1)
rises_end low [] next new h = (h, omega arith)
rises_end low (e ∷ es) next new h = (h.0, rises_end (e.0.0 + 1) es next new h.1)

pub rises_added : (low : ℕ) (es : Live) (next : Inc) (new : Incarnation) → Rises low es next.0 → Rises low (insert_entry inc_cmp es next new) (next.0 + 1)
rises_added low es next new h = rw (at_end low es next new h) (rises_end low es next new h)

numbers_end : (proc : Proc) (es : Live) (next : Inc) (new : Incarnation)
    → numbers_of proc (es ++ (next, new) ∷ []) ≡ cond (new.proc.0 == proc.0) (numbers_of proc es ++ next ∷ []) (numbers_of proc es)
numbers_end proc [] next new = refl
numbers_end proc (e ∷ es) next new = by (e.1.proc.0 == proc.0) (new.proc.0 == proc.0) (numbers_end proc es next new)
  where
    by : (b c : Bool) → numbers_of proc (es ++ (next, new) ∷ []) ≡ cond c (numbers_of proc es ++ next ∷ []) (numbers_of proc es)
        → cond b (e.0 ∷ numbers_of proc (es ++ (next, new) ∷ [])) (numbers_of proc (es ++ (next, new) ∷ [])) ≡ cond c
        (cond b (e.0 ∷ numbers_of proc es) (numbers_of proc es) ++ next ∷ []) (cond b (e.0 ∷ numbers_of proc es) (numbers_of proc es))
    by true true h = ap (λ (rest : List Inc). e.0 ∷ rest) h
    by true false h = ap (λ (rest : List Inc). e.0 ∷ rest) h
    by false true h = h
    by false false h = h

pub numbers_added : (proc : Proc) (low : ℕ) (es : Live) (next : Inc) (new : Incarnation) → Rises low es next.0
    → numbers_of proc (insert_entry inc_cmp es next new) ≡ cond (new.proc.0 == proc.0) (numbers_of proc es ++ next ∷ []) (numbers_of proc es)
numbers_added proc low es next new h = rw (at_end low es next new h) (numbers_end proc es next new)

-- an incarnation changes, but for its process
pub rises_set : (low : ℕ) (test : Inc → Bool) (es : Live) (x : Incarnation) (high : ℕ) → Rises low es high → Rises low (set_value test es x) high
rises_set low test [] x high h = h
rises_set low test (e ∷ es) x high h = by (test e.0) (rises_set (e.0.0 + 1) test es x high h.1)
  where
    by : (b : Bool) → Rises (e.0.0 + 1) (set_value test es x) high → Rises low (cond b ((e.0, x) ∷ es) (e ∷ set_value test es x)) high
    by true rest = (h.0, h.1)
    by false rest = (h.0, rest)

pub numbers_set : (proc : Proc) (test : Inc → Bool) (es : Live) (x y : Incarnation) → lookup test es ≡ Some y → x.proc.0 ≡ y.proc.0
    → numbers_of proc (set_value test es x) ≡ numbers_of proc es
numbers_set proc test [] x y there same = absurd (cc)
numbers_set proc test (e ∷ es) x y there same = by (test e.0) there (λ rest. numbers_set proc test es x y rest same)
  where
    by : (b : Bool) → cond b (Some e.1) (lookup test es) ≡ Some y → (lookup test es ≡ Some y → numbers_of proc (set_value test es x) ≡ numbers_of proc es)
        → numbers_of proc (cond b ((e.0, x) ∷ es) (e ∷ set_value test es x)) ≡ numbers_of proc (e ∷ es)
    by true found later =
        let is : y ≡ e.1 = cc in
        let alike : x.proc.0 ≡ e.1.proc.0 = same ∙ ap (λ (z : Incarnation). z.proc.0) is in
        rw alike refl
    by false found later = ap (λ (rest : List Inc). cond (e.1.proc.0 == proc.0) (e.0 ∷ rest) rest) (later found)

-- an incarnation goes
pub rises_removed : (low : ℕ) (test : Inc → Bool) (es : Live) (high : ℕ) → Rises low es high → Rises low (remove_entry test es) high
rises_removed low test [] high h = h
rises_removed low test (e ∷ es) high h = by (test e.0) (rises_removed (e.0.0 + 1) test es high h.1)
  where
    by : (b : Bool) → Rises (e.0.0 + 1) (remove_entry test es) high → Rises low (cond b es (e ∷ remove_entry test es)) high
    by true rest = rises_lower (e.0.0 + 1) low es high (omega (arith, h.0)) h.1
    by false rest = (h.0, rest)

-- a number below all others is not among them
not_among : (proc : Proc) (low : ℕ) (es : Live) (high : ℕ) (inc : Inc) → inc.0 < low → Rises low es high → without inc (numbers_of proc es) ≡ numbers_of proc es
not_among proc low [] high inc less h = refl
not_among proc low (e ∷ es) high inc less h = by (e.1.proc.0 == proc.0) (not_among proc (e.0.0 + 1) es high inc (omega (arith, h.0)) h.1)
  where
    other : (e.0.0 == inc.0) ≡ false
    other = unlike inc.0 e.0.0 (omega (arith, h.0))

    by : (b : Bool) → without inc (numbers_of proc es) ≡ numbers_of proc es
        → without inc (cond b (e.0 ∷ numbers_of proc es) (numbers_of proc es)) ≡ cond b (e.0 ∷ numbers_of proc es) (numbers_of proc es)
    by true rest = rw other (ap (λ (more : List Inc). e.0 ∷ more) rest)
    by false rest = rest

pub numbers_removed : (proc : Proc) (low : ℕ) (es : Live) (high : ℕ) (inc : Inc) → Rises low es high
    → numbers_of proc (remove_entry (same_inc inc) es) ≡ without inc (numbers_of proc es)
numbers_removed proc low [] high inc h = refl
numbers_removed proc low (e ∷ es) high inc h = by (is_eq (nat_cmp inc.0 e.0.0)) refl (numbers_removed proc (e.0.0 + 1) es high inc h.1)
  where
    -- the number goes, and is not among those behind it
    here : (c : Bool) → inc.0 ≡ e.0.0 → numbers_of proc es ≡ without inc (cond c (e.0 ∷ numbers_of proc es) (numbers_of proc es))
    here true same = let found : (e.0.0 == inc.0) ≡ true = grind (arith, nat_tests) in rw found (sym (not_among proc (e.0.0 + 1) es high inc (omega arith) h.1))
    here false same = sym (not_among proc (e.0.0 + 1) es high inc (omega arith) h.1)

    past : (c : Bool) → (e.0.0 == inc.0) ≡ false → numbers_of proc (remove_entry (same_inc inc) es) ≡ without inc (numbers_of proc es)
        → cond c (e.0 ∷ numbers_of proc (remove_entry (same_inc inc) es)) (numbers_of proc (remove_entry (same_inc inc) es)) ≡ without inc
        (cond c (e.0 ∷ numbers_of proc es) (numbers_of proc es))
    past true other rest = rw other (ap (λ (more : List Inc). e.0 ∷ more) rest)
    past false other rest = rest

    by : (b : Bool) → is_eq (nat_cmp inc.0 e.0.0) ≡ b → numbers_of proc (remove_entry (same_inc inc) es) ≡ without inc (numbers_of proc es)
        → numbers_of proc (cond b es (e ∷ remove_entry (same_inc inc) es)) ≡ without inc (numbers_of proc (e ∷ es))
    by true same rest = here (e.1.proc.0 == proc.0) (same_is inc.0 e.0.0 same)
    by false same rest = past (e.1.proc.0 == proc.0) (sym (same_as inc.0 e.0.0) ∙ same) rest

-- an incarnation of another process goes
pub numbers_other : (proc : Proc) (test : Inc → Bool) (es : Live) (x : Incarnation) → lookup test es ≡ Some x → (x.proc.0 == proc.0) ≡ false
    → numbers_of proc (remove_entry test es) ≡ numbers_of proc es
numbers_other proc test [] x there other = absurd (cc)
numbers_other proc test (e ∷ es) x there other = by (test e.0) there (λ rest. numbers_other proc test es x rest other)
  where
    by : (b : Bool) → cond b (Some e.1) (lookup test es) ≡ Some x → (lookup test es ≡ Some x → numbers_of proc (remove_entry test es) ≡ numbers_of proc es)
        → numbers_of proc (cond b es (e ∷ remove_entry test es)) ≡ numbers_of proc (e ∷ es)
    by true found later = let same : e.1 ≡ x = cc in let apart : (e.1.proc.0 == proc.0) ≡ false = rw same other in rw apart refl
    by false found later = ap (λ (rest : List Inc). cond (e.1.proc.0 == proc.0) (e.0 ∷ rest) rest) (later found)

-- all incarnations of a process go
abbrev pub others : Proc → Live → Live
others proc es = filter (λ e. not (e.1.proc.0 == proc.0)) es

pub rises_others : (low : ℕ) (proc : Proc) (es : Live) (high : ℕ) → Rises low es high → Rises low (others proc es) high
rises_others low proc [] high h = h
rises_others low proc (e ∷ es) high h = by (e.1.proc.0 == proc.0) (rises_others (e.0.0 + 1) proc es high h.1)
  where
    by : (b : Bool) → Rises (e.0.0 + 1) (others proc es) high → Rises low (cond (not b) (e ∷ others proc es) (others proc es)) high
    by true rest = rises_lower (e.0.0 + 1) low (others proc es) high (omega (arith, h.0)) rest
    by false rest = (h.0, rest)

pub numbers_others : (proc gone : Proc) (es : Live) → numbers_of proc (others gone es) ≡ cond (gone.0 == proc.0) [] (numbers_of proc es)
numbers_others proc gone [] = by (gone.0 == proc.0)
  where
    by : (b : Bool) → ◌≡◌ {A = List Inc} [] (cond b [] [])
    by true = refl
    by false = refl
numbers_others proc gone (e ∷ es) = by (e.1.proc.0 == gone.0) refl (gone.0 == proc.0) refl (numbers_others proc gone es)
  where
    kept : (s : Bool) → (gone.0 == proc.0) ≡ s → (m : Bool) → (e.1.proc.0 == proc.0) ≡ m → (e.1.proc.0 == gone.0) ≡ false
        → numbers_of proc (others gone es) ≡ cond s [] (numbers_of proc es)
        → cond m (e.0 ∷ numbers_of proc (others gone es)) (numbers_of proc (others gone es)) ≡ cond s [] (cond m (e.0 ∷ numbers_of proc es) (numbers_of proc es))
    kept true s true m other rest = absurd (grind (arith, nat_tests))
    kept true s false m other rest = rest
    kept false s true m other rest = ap (λ (more : List Inc). e.0 ∷ more) rest
    kept false s false m other rest = rest

    left : (s : Bool) → (gone.0 == proc.0) ≡ s → (m : Bool) → (e.1.proc.0 == proc.0) ≡ m → (e.1.proc.0 == gone.0) ≡ true
        → numbers_of proc (others gone es) ≡ cond s [] (numbers_of proc es) → numbers_of proc (others gone es) ≡ cond s [] (cond m (e.0 ∷ numbers_of proc es) (numbers_of proc es))
    left true s m t other rest = rest
    left false s true t other rest = absurd (grind (arith, nat_tests))
    left false s false t other rest = rest

    by : (b : Bool) → (e.1.proc.0 == gone.0) ≡ b → (s : Bool) → (gone.0 == proc.0) ≡ s → numbers_of proc (others gone es) ≡ cond (gone.0 == proc.0) [] (numbers_of proc es)
        → numbers_of proc (cond (not b) (e ∷ others gone es) (others gone es)) ≡ cond s [] (numbers_of proc (e ∷ es))
    by true own s t rest = left s t (e.1.proc.0 == proc.0) refl own (rw t at rest)
    by false own s t rest = kept s t (e.1.proc.0 == proc.0) refl own (rw t at rest)

-- the numbers lie above one that is below all
abbrev pub AllAbove : ℕ → List Inc → Type 0
AllAbove n [] = Unit {0}
AllAbove n (i ∷ is) = (n < i.0) × AllAbove n is

pub numbers_above : (proc : Proc) (low : ℕ) (es : Live) (high : ℕ) (n : ℕ) → n < low → Rises low es high → AllAbove n (numbers_of proc es)
numbers_above proc low [] high n less h = tt
numbers_above proc low (e ∷ es) high n less h = by (e.1.proc.0 == proc.0) (numbers_above proc (e.0.0 + 1) es high n (omega (arith, h.0)) h.1)
  where
    by : (b : Bool) → AllAbove n (numbers_of proc es) → AllAbove n (cond b (e.0 ∷ numbers_of proc es) (numbers_of proc es))
    by true rest = (omega (arith, h.0), rest)
    by false rest = rest

-- the first incarnation stays where its number is below those that go
first_stays : (numbers : List Inc) (e : Inc × Incarnation) (es : Live) → AllAbove e.0.0 numbers → remove_all numbers (e ∷ es) ≡ e ∷ remove_all numbers es
first_stays [] e es above = refl
first_stays (i ∷ is) e es above =
    let other : is_eq (nat_cmp i.0 e.0.0) ≡ false = apart_after e.0.0 i.0 above.0 in
    rw other (first_stays is e (remove_entry (same_inc i) es) above.1)

pub removed_all : (proc : Proc) (low : ℕ) (es : Live) (high : ℕ) → Rises low es high → remove_all (numbers_of proc es) es ≡ others proc es
removed_all proc low [] high h = refl
removed_all proc low (e ∷ es) high h = by (e.1.proc.0 == proc.0) (removed_all proc (e.0.0 + 1) es high h.1)
  where
    by : (b : Bool) → remove_all (numbers_of proc es) es ≡ others proc es
        → remove_all (cond b (e.0 ∷ numbers_of proc es) (numbers_of proc es)) (e ∷ es) ≡ cond (not b) (e ∷ others proc es) (others proc es)
    by true rest =
        ap (λ (b : Bool). remove_all (numbers_of proc es) (cond b es (e ∷ remove_entry (same_inc e.0) es))) (same_itself e.0.0) ∙ rest
    by false rest =
        first_stays (numbers_of proc es) e es (numbers_above proc (e.0.0 + 1) es high e.0.0 (omega arith) h.1) ∙ ap (λ (more : Live). e ∷ more) rest

-- how many incarnations a process has
pub numbers_counted : (proc : Proc) (es : Live) → length (numbers_of proc es) ≡ count_by (λ (e : Inc × Incarnation). e.1.proc.0 == proc.0) es
numbers_counted proc [] = refl
numbers_counted proc (e ∷ es) = by (e.1.proc.0 == proc.0) (sum_by-cons (λ (x : Inc × Incarnation). cond (x.1.proc.0 == proc.0) 1 0) e es) (numbers_counted proc es)
  where
    by : (b : Bool) → count_by (λ (x : Inc × Incarnation). x.1.proc.0 == proc.0) (e ∷ es) ≡ cond b 1 0 + count_by (λ (x : Inc × Incarnation). x.1.proc.0 == proc.0) es
        → length (numbers_of proc es) ≡ count_by (λ (x : Inc × Incarnation). x.1.proc.0 == proc.0) es
        → length (cond b (e.0 ∷ numbers_of proc es) (numbers_of proc es)) ≡ count_by (λ (x : Inc × Incarnation). x.1.proc.0 == proc.0) (e ∷ es)
    by true more rest = omega (arith, more, rest)
    by false more rest = omega (arith, more, rest)

-- the stacks, as they keep to the incarnations

-- one more incarnation
pub stacked_added : (live : Live) (stacks later : List (Proc × List Inc)) (next : Inc) (new : Incarnation) → IsStacked live stacks next
    → ((q : Proc) → stack later q ≡ cond (new.proc.0 == q.0) (stack stacks q ++ next ∷ []) (stack stacks q))
    → IsStacked (insert_entry inc_cmp live next new) later (record { 0 = next.0 + 1 })
stacked_added live stacks later next new h more = record {
  rising = rises_added 0 live next new h.rising;
  stacked = λ q. more q ∙ ap (λ (xs : List Inc). cond (new.proc.0 == q.0) (xs ++ next ∷ []) xs) (h.stacked q) ∙ sym (numbers_added q 0 live next new h.rising);
}

-- a number that was pushed goes again
pub pushed_popped : (b : Bool) (xs ys zs : List Inc) (i : Inc) → ys ≡ cond b (xs ++ i ∷ []) xs → zs ≡ cond b (take (length ys - 1) ys) ys → zs ≡ xs
pushed_popped false xs ys zs i pushed popped = popped ∙ pushed
pushed_popped true xs ys zs i pushed popped =
    let many : length ys - 1 ≡ length xs = omega (arith, ap (λ (all : List Inc). length all) pushed, length-append xs (i ∷ [])) in
    popped ∙ rw (many, pushed) (take_all_of xs)
  where
    take_all_of : (all : List Inc) → take (length all) (all ++ i ∷ []) ≡ all
    take_all_of [] = refl
    take_all_of (x ∷ all) = ap (λ (rest : List Inc). x ∷ rest) (take_all_of all)

pub stacked_again : (live : Live) (stacks pushed popped : List (Proc × List Inc)) (next : Inc) (proc : Proc) → IsStacked live stacks next
    → ((q : Proc) → stack pushed q ≡ cond (proc.0 == q.0) (stack stacks q ++ next ∷ []) (stack stacks q))
    → ((q : Proc) → stack popped q ≡ cond (proc.0 == q.0) (take (length (stack pushed q) - 1) (stack pushed q)) (stack pushed q)) → IsStacked live popped next
stacked_again live stacks pushed popped next proc h more less = record {
  rising = h.rising;
  stacked = λ q. pushed_popped (proc.0 == q.0) (stack stacks q) (stack pushed q) (stack popped q) next (more q) (less q) ∙ h.stacked q;
}

-- an incarnation changes, but for its process
pub stacked_set : (live : Live) (stacks : List (Proc × List Inc)) (next inc : Inc) (x y : Incarnation) → IsStacked live stacks next → lookup (same_inc inc) live ≡ Some y
    → x.proc.0 ≡ y.proc.0 → IsStacked (set_value (same_inc inc) live x) stacks next
stacked_set live stacks next inc x y h there same = record {
  rising = rises_set 0 (same_inc inc) live x next.0 h.rising;
  stacked = λ q. h.stacked q ∙ sym (numbers_set q (same_inc inc) live x y there same);
}

-- an incarnation goes
pub stacked_removed : (live : Live) (stacks later : List (Proc × List Inc)) (next inc : Inc) (x : Incarnation) → IsStacked live stacks next → lookup (same_inc inc) live ≡ Some x
    → ((q : Proc) → stack later q ≡ cond (x.proc.0 == q.0) (without inc (stack stacks q)) (stack stacks q)) → IsStacked (remove_entry (same_inc inc) live) later next
stacked_removed live stacks later next inc x h there less = record {
  rising = rises_removed 0 (same_inc inc) live next.0 h.rising;
  stacked = λ q. less q ∙ by q (x.proc.0 == q.0) refl;
}
  where
    by : (q : Proc) (b : Bool) → (x.proc.0 == q.0) ≡ b → cond b (without inc (stack stacks q)) (stack stacks q) ≡ numbers_of q (remove_entry (same_inc inc) live)
    by q true e = ap (without inc) (h.stacked q) ∙ sym (numbers_removed q 0 live next.0 inc h.rising)
    by q false e = h.stacked q ∙ sym (numbers_other q (same_inc inc) live x there e)

-- all incarnations of a process go
pub stacked_gone : (live : Live) (stacks later : List (Proc × List Inc)) (next : Inc) (proc : Proc) → IsStacked live stacks next
    → ((q : Proc) → stack later q ≡ cond (proc.0 == q.0) [] (stack stacks q)) → IsStacked (others proc live) later next
stacked_gone live stacks later next proc h less = record {
  rising = rises_others 0 proc live next.0 h.rising;
  stacked = λ q. less q ∙ ap (λ (xs : List Inc). cond (proc.0 == q.0) [] xs) (h.stacked q) ∙ sym (numbers_others q proc live);
}

pub gone_are : (live : Live) (stacks : List (Proc × List Inc)) (next : Inc) (proc : Proc) → IsStacked live stacks next → remove_all (stack stacks proc) live ≡ others proc live
gone_are live stacks next proc h = ap (λ (xs : List Inc). remove_all xs live) (h.stacked proc) ∙ removed_all proc 0 live next.0 h.rising

-- the stacks after a write, by each process

abbrev held : Option (List Inc) → List Inc
held o = unwrap_or o []

pub stack_written : (stacks : List (Proc × List Inc)) (proc : Proc) (new : List Inc) (f : List Inc → List Inc) → (lookup (same_proc proc) stacks ≡ None → f [] ≡ [])
    → new ≡ f (stack stacks proc) → (q : Proc) → stack (set_value (same_proc proc) stacks new) q ≡ cond (proc.0 == q.0) (f (stack stacks q)) (stack stacks q)
stack_written [] proc new f none is q = by (proc.0 == q.0)
  where
    by : (b : Bool) → [] ≡ cond b (f []) []
    by true = sym (none refl)
    by false = refl
stack_written (e ∷ es) proc new f none is q = by (is_eq (nat_cmp proc.0 e.0.0)) refl none is (λ missing later. stack_written es proc new f missing later q)
  where
    -- the process's own stack stands first
    own : proc.0 ≡ e.0.0 → new ≡ f e.1 → (b : Bool) → (proc.0 == q.0) ≡ b
        → held (cond (is_eq (nat_cmp q.0 e.0.0)) (Some new) (lookup (same_proc q) es)) ≡ cond b (f (held (cond (is_eq (nat_cmp q.0 e.0.0)) (Some e.1) (lookup (same_proc q) es))))
        (held (cond (is_eq (nat_cmp q.0 e.0.0)) (Some e.1) (lookup (same_proc q) es)))
    own same here true f' = let found : is_eq (nat_cmp q.0 e.0.0) ≡ true = grind (arith, nat_tests) in rw found here
    own same here false f' = let missed : is_eq (nat_cmp q.0 e.0.0) ≡ false = grind (arith, nat_tests) in rw missed refl

    -- another stack stands first
    other : (c : Bool) → is_eq (nat_cmp q.0 e.0.0) ≡ c → is_eq (nat_cmp proc.0 e.0.0) ≡ false
        → stack (set_value (same_proc proc) es new) q ≡ cond (proc.0 == q.0) (f (stack es q)) (stack es q)
        → held (cond c (Some e.1) (lookup (same_proc q) (set_value (same_proc proc) es new))) ≡ cond (proc.0 == q.0) (f (held (cond c (Some e.1) (lookup (same_proc q) es))))
        (held (cond c (Some e.1) (lookup (same_proc q) es)))
    other true at past rest = let apart_from : (proc.0 == q.0) ≡ false = grind (arith, nat_tests) in rw apart_from refl
    other false at past rest = rest

    by : (b : Bool) → is_eq (nat_cmp proc.0 e.0.0) ≡ b → (cond b (Some e.1) (lookup (same_proc proc) es) ≡ None → f [] ≡ [])
        → new ≡ f (held (cond b (Some e.1) (lookup (same_proc proc) es)))
        → ((lookup (same_proc proc) es ≡ None → f [] ≡ []) → new ≡ f (stack es proc) → stack (set_value (same_proc proc) es new) q ≡ cond (proc.0 == q.0)
        (f (stack es q)) (stack es q))
        → stack (cond b ((e.0, new) ∷ es) (e ∷ set_value (same_proc proc) es new)) q ≡ cond (proc.0 == q.0) (f (stack (e ∷ es) q)) (stack (e ∷ es) q)
    by true at missing here rest = own (same_is proc.0 e.0.0 at) here (proc.0 == q.0) refl
    by false at missing later rest = other (is_eq (nat_cmp q.0 e.0.0)) refl at (rest missing later)

-- an empty stack for a process that has none changes no stack
missing : (o : Option (List Inc)) → is_some o ≡ false → o ≡ None
missing None e = refl
missing (Some x) e = absurd (cc)

pub present : (o : Option (List Inc)) → is_some o ≡ true → o ≡ None → ⊥
present None e none = absurd (cc)
present (Some x) e none = absurd (cc)

pub stack_opened : (stacks later : List (Proc × List Inc)) (proc q : Proc) (new : List Inc) → new ≡ [] → is_some (lookup (same_proc proc) stacks) ≡ false
    → lookup (same_proc q) later ≡ cond (is_eq (nat_cmp proc.0 q.0)) (Some new) (lookup (same_proc q) stacks) → stack later q ≡ stack stacks q
stack_opened stacks later proc q new empty none is = by (is_eq (nat_cmp proc.0 q.0)) refl is
  where
    by : (b : Bool) → is_eq (nat_cmp proc.0 q.0) ≡ b → lookup (same_proc q) later ≡ cond b (Some new) (lookup (same_proc q) stacks) → stack later q ≡ stack stacks q
    by true at found =
        let same : proc ≡ q = ap (λ (n : ℕ). let p : Proc = record { 0 = n } in p) (same_is proc.0 q.0 at) in
        let nothing : lookup (same_proc q) stacks ≡ None = rw same at (missing (lookup (same_proc proc) stacks) none) in
        ap held found ∙ empty ∙ sym (ap held nothing)
    by false at found = ap held found

-- a stack that is taken
pub stack_taken : (stacks later : List (Proc × List Inc)) (proc q : Proc) → lookup (same_proc q) later ≡ cond (is_eq (nat_cmp proc.0 q.0)) None (lookup (same_proc q) stacks)
    → stack later q ≡ cond (proc.0 == q.0) [] (stack stacks q)
stack_taken stacks later proc q is = by (is_eq (nat_cmp proc.0 q.0)) refl (proc.0 == q.0) refl is
  where
    by : (b : Bool) → is_eq (nat_cmp proc.0 q.0) ≡ b → (c : Bool) → (proc.0 == q.0) ≡ c → lookup (same_proc q) later ≡ cond b None (lookup (same_proc q) stacks)
        → stack later q ≡ cond c [] (stack stacks q)
    by true at true t found = ap held found
    by true at false t found = absurd (grind (arith, nat_tests))
    by false at true t found = absurd (grind (arith, nat_tests))
    by false at false t found = ap held found

-- the stacks may be kept otherwise
pub stacked_same : (live : Live) (stacks later : List (Proc × List Inc)) (next : Inc) → IsStacked live stacks next → ((q : Proc) → stack later q ≡ stack stacks q)
    → IsStacked live later next
stacked_same live stacks later next h same = record { rising = h.rising; stacked = λ q. same q ∙ h.stacked q }

-- an incarnation that is there, or is not, changes but for its process
pub stacked_written : (live : Live) (stacks : List (Proc × List Inc)) (next inc : Inc) (x : Incarnation) → IsStacked live stacks next
    → x.proc.0 ≡ (unwrap_or (lookup (same_inc inc) live) no_incarnation).proc.0 → IsStacked (set_value (same_inc inc) live x) stacks next
stacked_written live stacks next inc x h same = by (lookup (same_inc inc) live) refl same
  where
    by : (o : Option Incarnation) → lookup (same_inc inc) live ≡ o → x.proc.0 ≡ (unwrap_or o no_incarnation).proc.0 → IsStacked (set_value (same_inc inc) live x) stacks next
    by None is alike = rw (set_value_absent (same_inc inc) live x is) h
    by (Some y) is alike = stacked_set live stacks next inc x y h is alike

-- what holds of an insert by its answer
pub on_err : {A E : Type 0} (r : Result A E) (P : Type 0) → is_err r ≡ true → OnErr r P → P
on_err (Ok x) P e h = absurd (cc)
on_err (Err x) P e h = h

pub on_ok : {A E : Type 0} (r : Result A E) (P : Type 0) → is_err r ≡ false → OnOk r P → P
on_ok (Ok x) P e h = h
on_ok (Err x) P e h = absurd (cc)

-- the numbers that are left to remove, one further
pub next_removed : (numbers : List Inc) (n : ℕ) (d : Inc) (es : Live) → n < length numbers
    → remove_all (drop (n + 1) numbers) (remove_entry (same_inc (get_or numbers n d)) es) ≡ remove_all (drop n numbers) es
next_removed numbers n d es there = sym (at_drop_more (λ (xs : List Inc). remove_all xs es) numbers n d there)

-- a process without a stack has no incarnations
pub none_gone : (live : Live) (stacks : List (Proc × List Inc)) (next : Inc) (proc : Proc) → IsStacked live stacks next → [] ≡ stack stacks proc → live ≡ others proc live
none_gone live stacks next proc h none = ap (λ (xs : List Inc). remove_all xs live) none ∙ gone_are live stacks next proc h

-- the incarnations of the numbers that were taken go
pub taken_gone : (live after : Live) (stacks : List (Proc × List Inc)) (next : Inc) (proc : Proc) (numbers : List Inc) → IsStacked live stacks next → numbers ≡ stack stacks proc
    → after ≡ remove_all numbers live → after ≡ others proc live
taken_gone live after stacks next proc numbers h taken removed =
    removed ∙ ap (λ (xs : List Inc). remove_all xs live) taken ∙ gone_are live stacks next proc h
