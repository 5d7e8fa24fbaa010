-- One more frame on the stack of a process, among the live incarnations.
use Rattle.std.proofs.Common.{◌≡◌, ℕ, zero, suc, ◌+◌, ◌-◌, ◌<◌, ◌==◌, Bool, true, false, List, [], ◌∷◌, ◌++◌, length, set, Option, Some, None, refl, sym, ap, ◌∙◌, arith}
use Rattle.std.specs.Prelude.{slice_get, slice_index_or, count_by, filter, cond}
use Rattle.std.specs.Map.{lookup, remove_entry}
use Rattle.std.specs.BTreeMap.{insert_entry}
use Rattle.std.proofs.lemmas.List.Sums.{sum_by-cons}
use Rattle.std.proofs.lemmas.Bool.Decides.{nat_tests}
use Rattle.hk_model.specs.declared.names.Inc.{Inc}
use Rattle.hk_model.specs.declared.names.Proc.{Proc}
use Rattle.hk_model.specs.declared.objects.Incarnation.{Incarnation}
use Rattle.hk_model.specs.State.{inc_cmp, same_inc}
use Rattle.hk_spaces.specs.declared.stack.StackFrame.{StackFrame}
use Rattle.hk_table.specs.Stacked.{caller_at, incarnation_of, live_with, live_from, frame_at}
use Rattle.hk_table.proofs.Live.{IsNoneOf, live-none}

abbrev Ones : Type 0
Ones = List (Inc × Incarnation)

-- put in and taken away again
pub remove-insert : (n : Inc) (o : Incarnation) (es : Ones) → lookup (same_inc n) es ≡ None → remove_entry (same_inc n) (insert_entry inc_cmp es n o) ≡ es
remove-insert n o [] absent = grind (arith, nat_tests)
remove-insert n o (e ∷ es) absent = grind (arith, nat_tests, remove-insert n o es)

-- two in either order
insert_comm : (n m : Inc) (o w : Incarnation) (es : Ones) → (n.0 ≡ m.0 → ⊥)
    → insert_entry inc_cmp (insert_entry inc_cmp es n o) m w ≡ insert_entry inc_cmp (insert_entry inc_cmp es m w) n o
insert_comm n m o w [] apart = grind (arith, nat_tests)
insert_comm n m o w (e ∷ es) apart = grind (arith, nat_tests, insert_comm n m o w es apart)

-- how many there are of a kind
count-cons : (p : Inc × Incarnation → Bool) (e : Inc × Incarnation) (es : Ones) → count_by p (e ∷ es) ≡ cond (p e) 1 0 + count_by p es
count-cons p e es = sum_by-cons (λ (x : Inc × Incarnation). cond {A = ℕ} (p x) 1 0) e es

count-insert : (p : Inc × Incarnation → Bool) (n : Inc) (o : Incarnation) (es : Ones) → lookup (same_inc n) es ≡ None
    → count_by p (insert_entry inc_cmp es n o) ≡ cond (p (n, o)) 1 0 + count_by p es
count-insert p n o [] absent = grind (arith, nat_tests)
count-insert p n o (e ∷ es) absent =
    grind (arith, nat_tests, count-insert p n o es, count-cons p (n, o) (e ∷ es), count-cons p e es, count-cons p e (insert_entry inc_cmp es n o))

-- without those of a kind that it is of
pub filter-insert : (p : Inc × Incarnation → Bool) (n : Inc) (o : Incarnation) (es : Ones) → lookup (same_inc n) es ≡ None → p (n, o) ≡ false
    → filter p (insert_entry inc_cmp es n o) ≡ filter p es
filter-insert p n o [] absent out = grind (arith, nat_tests)
filter-insert p n o (e ∷ es) absent out = grind (arith, nat_tests, filter-insert p n o es)

-- the last frame of a process
live_last : (proc : Proc) (caller : Option Inc) (fs : List StackFrame) (f : StackFrame) (es : Ones) → IsNoneOf f.inc fs
    → live_with proc caller (fs ++ f ∷ []) es ≡ insert_entry inc_cmp (live_with proc caller fs es) f.inc (incarnation_of proc (caller_at caller fs (length fs)) f)
live_last proc caller [] f es none = refl
live_last proc caller (g ∷ fs) f es none =
    ap (λ (v : Ones). insert_entry inc_cmp v g.inc (incarnation_of proc caller g)) (live_last proc (Some g.inc) fs f es (λ k h there. none (suc k) h there))
    ∙ insert_comm f.inc g.inc (incarnation_of proc (caller_at (Some g.inc) fs (length fs)) f) (incarnation_of proc caller g) (live_with proc (Some g.inc) fs es)
    (λ same. none 0 g refl (sym same))

-- one more below the frames of a process
live-insert : (proc : Proc) (caller : Option Inc) (fs : List StackFrame) (es : Ones) (n : Inc) (o : Incarnation) → IsNoneOf n fs
    → live_with proc caller fs (insert_entry inc_cmp es n o) ≡ insert_entry inc_cmp (live_with proc caller fs es) n o
live-insert proc caller [] es n o none = refl
live-insert proc caller (g ∷ fs) es n o none =
    ap (λ (v : Ones). insert_entry inc_cmp v g.inc (incarnation_of proc caller g)) (live-insert proc (Some g.inc) fs es n o (λ k h there. none (suc k) h there))
    ∙ insert_comm n g.inc o (incarnation_of proc caller g) (live_with proc (Some g.inc) fs es) (λ same. none 0 g refl (sym same))

-- no frame has the number
abbrev pub IsFree : List (List StackFrame) → Inc → Type 0
IsFree stacks inc = (q k : ℕ) (f : StackFrame) → frame_at stacks q k ≡ Some f → f.inc.0 ≡ inc.0 → ⊥

push_at : (n : ℕ) (stacks : List (List StackFrame)) (q : ℕ) (f : StackFrame) → q < length stacks → IsFree stacks f.inc
    → live_from n (set stacks q (slice_index_or stacks q [] ++ f ∷ []))
    ≡ insert_entry inc_cmp (live_from n stacks) f.inc (incarnation_of (record { 0 = n + q }) (caller_at None (slice_index_or stacks q []) (length (slice_index_or stacks q []))) f)
push_at n [] q f low free = absurd (omega arith)
push_at n (fs ∷ rest) zero f low free =
    live_last (record { 0 = n }) None fs f (live_from (n + 1) rest) (free 0)
    ∙ (let e : n ≡ n + 0 = omega arith in
    ap (λ (m : ℕ). insert_entry inc_cmp (live_from n (fs ∷ rest)) f.inc (incarnation_of (record { 0 = m }) (caller_at None fs (length fs)) f)) e)
push_at n (fs ∷ rest) (suc q) f low free =
    let more : Incarnation = incarnation_of (record { 0 = n + 1 + q }) (caller_at None (slice_index_or rest q []) (length (slice_index_or rest q []))) f in
    ap (λ (v : Ones). live_with (record { 0 = n }) None fs v) (push_at (n + 1) rest q f (omega arith) (λ p k g there same. free (suc p) k g there same))
    ∙ live-insert (record { 0 = n }) None fs (live_from (n + 1) rest) f.inc more (free 0)
    ∙ (let e : n + 1 + q ≡ n + suc q = omega arith in
    ap (λ (m : ℕ).
    insert_entry inc_cmp (live_from n (fs ∷ rest)) f.inc
    (incarnation_of (record { 0 = m }) (caller_at None (slice_index_or rest q []) (length (slice_index_or rest q []))) f)) e)

pub pushed : (stacks : List (List StackFrame)) (q : ℕ) (f : StackFrame) → q < length stacks → IsFree stacks f.inc
    → live_from 0 (set stacks q (slice_index_or stacks q [] ++ f ∷ []))
    ≡ insert_entry inc_cmp (live_from 0 stacks) f.inc (incarnation_of (record { 0 = q }) (caller_at None (slice_index_or stacks q []) (length (slice_index_or stacks q []))) f)
pushed stacks q f low free =
    push_at 0 stacks q f low free
    ∙ (let e : 0 + q ≡ q = omega arith in
    ap (λ (m : ℕ).
    insert_entry inc_cmp (live_from 0 stacks) f.inc
    (incarnation_of (record { 0 = m }) (caller_at None (slice_index_or stacks q []) (length (slice_index_or stacks q []))) f)) e)

-- the last caller is the last frame
pub last_caller : (caller : Option Inc) (fs : List StackFrame) (f : StackFrame) → slice_get fs (length fs - 1) ≡ Some f → caller_at caller fs (length fs) ≡ Some f.inc
last_caller caller [] f e = absurd (cc)
last_caller caller (g ∷ []) f e = let same : g ≡ f = cc in ap (λ (x : StackFrame). Some x.inc) same
last_caller caller (g ∷ h ∷ fs) f e =
    let k : length (g ∷ h ∷ fs) - 1 ≡ suc (length (h ∷ fs) - 1) = omega arith in
    last_caller (Some g.inc) (h ∷ fs) f (sym (ap (slice_get (g ∷ h ∷ fs)) k) ∙ e)

-- how many frames a process has
pub count_frames : (q : ℕ) (proc : Proc) (caller : Option Inc) (fs : List StackFrame) (es : Ones)
    → ((i j : ℕ) (f g : StackFrame) → slice_get fs i ≡ Some f → slice_get fs j ≡ Some g → f.inc.0 ≡ g.inc.0 → i ≡ j)
    → ((k : ℕ) (f : StackFrame) → slice_get fs k ≡ Some f → lookup (same_inc f.inc) es ≡ None)
    → count_by (λ (e : Inc × Incarnation). e.1.proc.0 == q) (live_with proc caller fs es)
    ≡ cond (proc.0 == q) (length fs) 0 + count_by (λ (e : Inc × Incarnation). e.1.proc.0 == q) es
count_frames q proc caller [] es one absent = none (proc.0 == q) where
  none : (b : Bool) → count_by (λ (e : Inc × Incarnation). e.1.proc.0 == q) es ≡ cond b 0 0 + count_by (λ (e : Inc × Incarnation). e.1.proc.0 == q) es
  none true = omega arith
  none false = omega arith
count_frames q proc caller (f ∷ fs) es one absent =
    count-insert (λ (e : Inc × Incarnation). e.1.proc.0 == q) f.inc (incarnation_of proc caller f) (live_with proc (Some f.inc) fs es)
    (live-none proc (Some f.inc) fs es f.inc (λ k g there same. let e : suc k ≡ 0 = one (suc k) 0 g f there refl same in absurd (omega arith)) ∙ absent 0 f refl)
    ∙ more (proc.0 == q)
    (count_frames q proc (Some f.inc) fs es (λ i j a b there here same. let e : suc i ≡ suc j = one (suc i) (suc j) a b there here same in omega arith)
    (λ k g there. absent (suc k) g there)) where
      more : (b : Bool)
          → count_by (λ (e : Inc × Incarnation). e.1.proc.0 == q) (live_with proc (Some f.inc) fs es) ≡ cond b (length fs) 0 + count_by
          (λ (e : Inc × Incarnation). e.1.proc.0 == q) es
          → cond b 1 0 + count_by (λ (e : Inc × Incarnation). e.1.proc.0 == q) (live_with proc (Some f.inc) fs es)
          ≡ cond b (suc (length fs)) 0 + count_by (λ (e : Inc × Incarnation). e.1.proc.0 == q) es
      more true h = omega (arith, h)
      more false h = omega (arith, h)
