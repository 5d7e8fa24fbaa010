-- What the slots of live incarnations name, frame by frame.
use Rattle.std.proofs.Common.{◌≡◌, ℕ, suc, ◌+◌, ◌==◌, cond, List, [], ◌∷◌, ◌++◌, Option, Some, None, refl, sym, ap, ◌∙◌, arith}
use Rattle.std.specs.Prelude.{slice_get}
use Rattle.std.specs.List.{flat_map, sum_by}
use Rattle.std.specs.Map.{lookup}
use Rattle.std.specs.BTreeMap.{insert_entry}
use Rattle.std.proofs.lemmas.List.Sums.{sum_by-cons, sum_by-append}
use Rattle.std.proofs.lemmas.Bool.Decides.{nat_tests}
use Rattle.hk_model.specs.declared.names.Name.{Name}
use Rattle.hk_model.specs.declared.names.Inc.{Inc}
use Rattle.hk_model.specs.declared.names.Proc.{Proc}
use Rattle.hk_model.specs.declared.objects.Incarnation.{Incarnation}
use Rattle.hk_model.specs.State.{inc_cmp, same_inc}
use Rattle.hk_model.specs.Keeping.{entry_names}
use Rattle.hk_reclaim.specs.Naming.{times, named_in}
use Rattle.hk_reclaim.proofs.Counting.{times_none}
use Rattle.hk_spaces.specs.declared.stack.StackFrame.{StackFrame}
use Rattle.hk_table.specs.Stacked.{incarnation_of, live_with, live_from, frame_at, AreNumbered}
use Rattle.hk_table.specs.Settled.{frame_namings}
use Rattle.hk_table.proofs.Live.{live-none, no_frame}

abbrev Ones : Type 0
Ones = List (Inc × Incarnation)

pub times-append : (n : Name) (xs ys : List Name) → times n (xs ++ ys) ≡ times n xs + times n ys
unfolding times
times-append n xs ys = sum_by-append (λ m. cond (n.0 == m.0) 1 0) xs ys

abbrev slot_times : Name → Inc × Incarnation → ℕ
slot_times n e = times n (named_in e.1.slots)

-- of all the names, those of each
named_sum : (n : Name) (es : Ones) → times n (flat_map (λ (e : Inc × Incarnation). flat_map entry_names e.1.slots) es) ≡ sum_by (slot_times n) es
named_sum n [] = times_none n
named_sum n (e ∷ es) =
    times-append n (named_in e.1.slots) (flat_map (λ (e : Inc × Incarnation). flat_map entry_names e.1.slots) es)
    ∙ ap (λ (k : ℕ). times n (named_in e.1.slots) + k) (named_sum n es) ∙ sym (sum_by-cons (slot_times n) e es)

sum-insert : (f : Inc × Incarnation → ℕ) (k : Inc) (o : Incarnation) (es : Ones) → lookup (same_inc k) es ≡ None → sum_by f (insert_entry inc_cmp es k o) ≡ f (k, o) + sum_by f es
sum-insert f k o [] absent = sum_by-cons f (k, o) []
sum-insert f k o (e ∷ es) absent =
    grind (arith, nat_tests, sum-insert f k o es, sum_by-cons f (k, o) (e ∷ es), sum_by-cons f e es, sum_by-cons f e (insert_entry inc_cmp es k o))

abbrev pub space_times : Name → StackFrame → ℕ
space_times n f = times n (named_in f.space)

sum_with : (n : Name) (proc : Proc) (caller : Option Inc) (fs : List StackFrame) (es : Ones)
    → ((i j : ℕ) (f g : StackFrame) → slice_get fs i ≡ Some f → slice_get fs j ≡ Some g → f.inc.0 ≡ g.inc.0 → i ≡ j)
    → ((k : ℕ) (f : StackFrame) → slice_get fs k ≡ Some f → lookup (same_inc f.inc) es ≡ None)
    → sum_by (slot_times n) (live_with proc caller fs es) ≡ sum_by (space_times n) fs + sum_by (slot_times n) es
sum_with n proc caller [] es one absent = omega arith
sum_with n proc caller (f ∷ fs) es one absent =
    let rest = sum_with n proc (Some f.inc) fs es (λ i j a b there here same. let e : suc i ≡ suc j = one (suc i) (suc j) a b there here same in omega arith)
    (λ k g there. absent (suc k) g there) in
    let first = sum_by-cons (space_times n) f fs in
    sum-insert (slot_times n) f.inc (incarnation_of proc caller f) (live_with proc (Some f.inc) fs es)
    (live-none proc (Some f.inc) fs es f.inc (λ k g there same. let e : suc k ≡ 0 = one (suc k) 0 g f there refl same in absurd (omega arith)) ∙ absent 0 f refl)
    ∙ omega (arith, rest, first)

sum_from : (n : Name) (m : ℕ) (stacks : List (List StackFrame))
    → ((p r i j : ℕ) (f g : StackFrame) → frame_at stacks p i ≡ Some f → frame_at stacks r j ≡ Some g → f.inc.0 ≡ g.inc.0 → (p ≡ r) × (i ≡ j))
    → sum_by (slot_times n) (live_from m stacks) ≡ frame_namings n stacks
sum_from n m [] apart = refl
sum_from n m (fs ∷ rest) apart =
    let later = sum_from n (m + 1) rest (λ p r i j f g a b same. let w = apart (suc p) (suc r) i j f g a b same in (omega (arith, w.0), w.1)) in
    let first = sum_by-cons (λ (fs : List StackFrame). sum_by (space_times n) fs) fs rest in
    sum_with n (record { 0 = m }) None fs (live_from (m + 1) rest) (λ i j f g a b same. (apart 0 0 i j f g a b same).1)
    (λ k f a. no_frame (m + 1) rest f.inc (λ p j g b same. let e : suc p ≡ 0 = (apart (suc p) 0 j k g f b a same).0 in absurd (omega arith)))
    ∙ omega (arith, later, first)

pub frames_named : (n : Name) (stacks : List (List StackFrame)) (next : Inc) → AreNumbered stacks next
    → times n (flat_map (λ (e : Inc × Incarnation). flat_map entry_names e.1.slots) (live_from 0 stacks)) ≡ frame_namings n stacks
frames_named n stacks next h = named_sum n (live_from 0 stacks) ∙ sum_from n 0 stacks h.apart
