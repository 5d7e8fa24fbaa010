-- What a frame is among the live incarnations.
use Rattle.std.proofs.Common.{◌≡◌, ℕ, zero, suc, ◌+◌, ◌-◌, List, [], ◌∷◌, length, Option, Some, None, refl, sym, ap, ◌∙◌, arith}
use Rattle.std.specs.Prelude.{slice_get, slice_index_or}
use Rattle.std.specs.Map.{lookup}
use Rattle.std.specs.Option.{unwrap_or}
use Rattle.std.specs.BTreeMap.{insert_entry}
use Rattle.std.proofs.lemmas.Bool.Decides.{nat_tests}
use Rattle.hk_model.specs.declared.names.Inc.{Inc}
use Rattle.hk_model.specs.declared.names.Proc.{Proc}
use Rattle.hk_model.specs.declared.objects.Incarnation.{Incarnation}
use Rattle.hk_model.specs.State.{inc_cmp, same_inc, no_incarnation}
use Rattle.hk_spaces.specs.declared.stack.StackFrame.{StackFrame}
use Rattle.hk_table.specs.Stacked.{caller_at, incarnation_of, live_with, live_from, frame_at, top_of, slots_of, AreNumbered}
use Rattle.hk_table.specs.Joined.{IsCurrentOf, IsCurrent}

abbrev Ones : Type 0
Ones = List (Inc × Incarnation)

-- found again after another was put in
pub lookup-insert_same : (n : Inc) (o : Incarnation) (es : Ones) → lookup (same_inc n) (insert_entry inc_cmp es n o) ≡ Some o
lookup-insert_same n o [] = grind (arith, nat_tests)
lookup-insert_same n o (e ∷ es) = grind (arith, nat_tests, lookup-insert_same n o es)

lookup-insert_other : (n m : Inc) (o : Incarnation) (es : Ones) → (n.0 ≡ m.0 → ⊥) → lookup (same_inc m) (insert_entry inc_cmp es n o) ≡ lookup (same_inc m) es
lookup-insert_other n m o [] apart = grind (arith, nat_tests)
lookup-insert_other n m o (e ∷ es) apart = grind (arith, nat_tests, lookup-insert_other n m o es apart)

lookup-insert_number : (n m : Inc) (o : Incarnation) (es : Ones) → n.0 ≡ m.0 → lookup (same_inc m) (insert_entry inc_cmp es n o) ≡ Some o
lookup-insert_number n m o es same = ap (λ (k : ℕ). let i : Inc = record { 0 = k } in lookup (same_inc i) (insert_entry inc_cmp es n o)) (sym same) ∙ lookup-insert_same n o es

-- the number of a frame is none of these
abbrev pub IsNoneOf : Inc → List StackFrame → Type 0
IsNoneOf n fs = (k : ℕ) (f : StackFrame) → slice_get fs k ≡ Some f → f.inc.0 ≡ n.0 → ⊥

pub live-none : (proc : Proc) (caller : Option Inc) (fs : List StackFrame) (es : Ones) (n : Inc) → IsNoneOf n fs
    → lookup (same_inc n) (live_with proc caller fs es) ≡ lookup (same_inc n) es
live-none proc caller [] es n none = refl
live-none proc caller (f ∷ fs) es n none =
    lookup-insert_other f.inc n (incarnation_of proc caller f) (live_with proc (Some f.inc) fs es) (none 0 f refl)
    ∙ live-none proc (Some f.inc) fs es n (λ k g h. none (suc k) g h)

pub live-there : (proc : Proc) (caller : Option Inc) (fs : List StackFrame) (es : Ones) (k : ℕ) (f : StackFrame) → slice_get fs k ≡ Some f
    → ((j : ℕ) (g : StackFrame) → slice_get fs j ≡ Some g → g.inc.0 ≡ f.inc.0 → j ≡ k)
    → lookup (same_inc f.inc) (live_with proc caller fs es) ≡ Some (incarnation_of proc (caller_at caller fs k) f)
live-there proc caller [] es k f here one = absurd (cc)
live-there proc caller (g ∷ fs) es zero f here one =
    let same : g ≡ f = cc in
    lookup-insert_number g.inc f.inc (incarnation_of proc caller g) (live_with proc (Some g.inc) fs es) (ap (λ (x : StackFrame). x.inc.0) same)
    ∙ ap (λ (x : StackFrame). Some (incarnation_of proc caller x)) same
live-there proc caller (g ∷ fs) es (suc k) f here one =
    lookup-insert_other g.inc f.inc (incarnation_of proc caller g) (live_with proc (Some g.inc) fs es) (λ same. let e : 0 ≡ suc k = one 0 g refl same in absurd (omega arith))
    ∙ live-there proc (Some g.inc) fs es k f here (λ j h there same. let e : suc j ≡ suc k = one (suc j) h there same in omega arith)

-- the frame of a process at a depth, among all
pub found_frame : (n : ℕ) (stacks : List (List StackFrame)) (q k : ℕ) (f : StackFrame) → frame_at stacks q k ≡ Some f
    → ((p j : ℕ) (g : StackFrame) → frame_at stacks p j ≡ Some g → g.inc.0 ≡ f.inc.0 → (p ≡ q) × (j ≡ k))
    → lookup (same_inc f.inc) (live_from n stacks) ≡ Some (incarnation_of (record { 0 = n + q }) (caller_at None (slice_index_or stacks q []) k) f)
found_frame n [] q k f here one = absurd (cc)
found_frame n (fs ∷ rest) zero k f here one =
    live-there (record { 0 = n }) None fs (live_from (n + 1) rest) k f here (λ j g there same. (one 0 j g there same).1)
    ∙ (let e : n ≡ n + 0 = omega arith in ap (λ (m : ℕ). Some (incarnation_of (record { 0 = m }) (caller_at None fs k) f)) e)
found_frame n (fs ∷ rest) (suc q) k f here one =
    live-none (record { 0 = n }) None fs (live_from (n + 1) rest) f.inc (λ j g there same. let e : 0 ≡ suc q = (one 0 j g there same).0 in absurd (omega arith))
    ∙ found_frame (n + 1) rest q k f here (λ p j g there same. let w = one (suc p) j g there same in (omega (arith, w.0), w.1))
    ∙ (let e : n + 1 + q ≡ n + suc q = omega arith in ap (λ (m : ℕ). Some (incarnation_of (record { 0 = m }) (caller_at None (slice_index_or rest q []) k) f)) e)

-- a number that no frame has
pub no_frame : (n : ℕ) (stacks : List (List StackFrame)) (inc : Inc) → ((q k : ℕ) (f : StackFrame) → frame_at stacks q k ≡ Some f → f.inc.0 ≡ inc.0 → ⊥)
    → lookup (same_inc inc) (live_from n stacks) ≡ None
no_frame n [] inc none = refl
no_frame n (fs ∷ rest) inc none = live-none (record { 0 = n }) None fs (live_from (n + 1) rest) inc (none 0) ∙ no_frame (n + 1) rest inc (λ q. none (suc q))

abbrev pub live_one : Ones → Inc → Incarnation
live_one ones inc = unwrap_or (lookup (same_inc inc) ones) no_incarnation

-- what the top frame of a process is: the incarnation with the current number
abbrev pub incarnation_or_none : Proc → List StackFrame → Option StackFrame → Incarnation
incarnation_or_none proc fs None = no_incarnation
incarnation_or_none proc fs (Some f) = incarnation_of proc (caller_at None fs (length fs - 1)) f

pub current_one : (stacks : List (List StackFrame)) (next : Inc) (q : ℕ) (inc : Inc) → AreNumbered stacks next → IsCurrent stacks inc q
    → live_one (live_from 0 stacks) inc ≡ incarnation_or_none (record { 0 = q }) (slice_index_or stacks q []) (top_of (slice_index_or stacks q []))
current_one stacks next q inc h current = by (top_of (slice_index_or stacks q [])) refl current where
  by : (o : Option StackFrame) → top_of (slice_index_or stacks q []) ≡ o → IsCurrentOf stacks inc o
      → live_one (live_from 0 stacks) inc ≡ incarnation_or_none (record { 0 = q }) (slice_index_or stacks q []) o
  by None e none = ap (λ (o : Option Incarnation). unwrap_or o no_incarnation) (no_frame 0 stacks inc none)
  by (Some f) e same =
      let k : ℕ = length (slice_index_or stacks q []) - 1 in
      let z : 0 + q ≡ q = omega arith in
      ap (λ (i : Inc). live_one (live_from 0 stacks) i) same
      ∙ ap (λ (o : Option Incarnation). unwrap_or o no_incarnation) (found_frame 0 stacks q k f e (λ p j g there number. let w = h.apart p q j k g f there e number in (w.0, w.1)))
      ∙ ap (λ (m : ℕ). incarnation_of (record { 0 = m }) (caller_at None (slice_index_or stacks q []) k) f) z

-- its slots
slots_are : (proc : Proc) (fs : List StackFrame) (o : Option StackFrame) → (incarnation_or_none proc fs o).slots ≡ slots_of o
slots_are proc fs None = refl
slots_are proc fs (Some f) = refl

pub current_slots : (stacks : List (List StackFrame)) (next : Inc) (q : ℕ) (inc : Inc) → AreNumbered stacks next → IsCurrent stacks inc q
    → (live_one (live_from 0 stacks) inc).slots ≡ slots_of (top_of (slice_index_or stacks q []))
current_slots stacks next q inc h current =
    ap (λ (i : Incarnation). i.slots) (current_one stacks next q inc h current) ∙ slots_are (record { 0 = q }) (slice_index_or stacks q []) (top_of (slice_index_or stacks q []))
