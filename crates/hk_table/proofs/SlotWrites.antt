-- An entry written into a slot of the top frame of a process.
use Rattle.std.proofs.Common.{◌≡◌, ℕ, zero, suc, ◌+◌, ◌-◌, ◌<◌, ◌≤◌, List, [], ◌∷◌, length, set, Option, Some, None, refl, sym, ap, ◌∙◌, subst, arith, option_map}
use Rattle.std.specs.Prelude.{slice_get, slice_set, slice_index_or, Bool, true, false, cond}
use Rattle.std.specs.Map.{lookup, set_value}
use Rattle.std.specs.BTreeMap.{insert_entry}
use Rattle.std.proofs.lemmas.List.{set-get_or, length-set}
use Rattle.std.proofs.lemmas.Bool.Decides.{nat_tests}
use Rattle.hk_model.specs.declared.names.Inc.{Inc}
use Rattle.hk_model.specs.declared.names.Proc.{Proc}
use Rattle.hk_model.specs.declared.entries.Entry.{Entry}
use Rattle.hk_model.specs.declared.objects.Incarnation.{Incarnation}
use Rattle.hk_model.specs.State.{inc_cmp, same_inc}
use Rattle.hk_spaces.specs.declared.stack.StackFrame.{StackFrame}
use Rattle.hk_spaces.specs.Slots.{with_slot, with_changed, with_top}
use Rattle.hk_table.specs.Stacked.{caller_at, incarnation_of, live_with, live_from, frame_at, top_of, slots_of, with_top_of, AreNumbered}
use Rattle.hk_table.specs.Joined.{IsCurrentOf, IsCurrent}
use Rattle.hk_table.proofs.Live.{IsNoneOf, no_frame, live_one, current_one, incarnation_or_none}

abbrev Ones : Type 0
Ones = List (Inc × Incarnation)

-- written over what was just put in, and over another
set-insert : (n : Inc) (o w : Incarnation) (es : Ones) → set_value (same_inc n) (insert_entry inc_cmp es n o) w ≡ insert_entry inc_cmp es n w
set-insert n o w [] = grind (arith, nat_tests)
set-insert n o w (e ∷ es) = grind (arith, nat_tests, set-insert n o w es)

pub set-insert_other : (n m : Inc) (o w : Incarnation) (es : Ones) → (n.0 ≡ m.0 → ⊥)
    → set_value (same_inc m) (insert_entry inc_cmp es n o) w ≡ insert_entry inc_cmp (set_value (same_inc m) es w) n o
set-insert_other n m o w [] apart = grind (arith, nat_tests)
set-insert_other n m o w (e ∷ es) apart = grind (arith, nat_tests, set-insert_other n m o w es apart)

-- a frame in place of another of the same number
live-put : (proc : Proc) (caller : Option Inc) (fs : List StackFrame) (es : Ones) (k : ℕ) (f g : StackFrame) → slice_get fs k ≡ Some f → g.inc ≡ f.inc
    → ((j : ℕ) (h : StackFrame) → slice_get fs j ≡ Some h → h.inc.0 ≡ f.inc.0 → j ≡ k)
    → live_with proc caller (set fs k g) es ≡ set_value (same_inc f.inc) (live_with proc caller fs es) (incarnation_of proc (caller_at caller fs k) g)
live-put proc caller [] es k f g here same one = absurd (cc)
live-put proc caller (h ∷ fs) es zero f g here same one =
    let there : h.inc ≡ f.inc = (let e : h ≡ f = cc in ap (λ (x : StackFrame). x.inc) e) in
    ap (λ (i : Inc). insert_entry inc_cmp (live_with proc (Some i) fs es) i (incarnation_of proc caller g)) (same ∙ sym there)
    ∙ sym (set-insert h.inc (incarnation_of proc caller h) (incarnation_of proc caller g) (live_with proc (Some h.inc) fs es))
    ∙ ap (λ (i : Inc). set_value (same_inc i) (live_with proc caller (h ∷ fs) es) (incarnation_of proc caller g)) there
live-put proc caller (h ∷ fs) es (suc k) f g here same one =
    ap (λ (v : Ones). insert_entry inc_cmp v h.inc (incarnation_of proc caller h))
    (live-put proc (Some h.inc) fs es k f g here same (λ j x there number. let e : suc j ≡ suc k = one (suc j) x there number in omega arith))
    ∙ sym (set-insert_other h.inc f.inc (incarnation_of proc caller h) (incarnation_of proc (caller_at (Some h.inc) fs k) g) (live_with proc (Some h.inc) fs es)
    (λ number. let e : 0 ≡ suc k = one 0 h refl number in absurd (omega arith)))

pub live-set : (proc : Proc) (caller : Option Inc) (fs : List StackFrame) (es : Ones) (n : Inc) (w : Incarnation) → IsNoneOf n fs
    → live_with proc caller fs (set_value (same_inc n) es w) ≡ set_value (same_inc n) (live_with proc caller fs es) w
live-set proc caller [] es n w none = refl
live-set proc caller (f ∷ fs) es n w none =
    ap (λ (v : Ones). insert_entry inc_cmp v f.inc (incarnation_of proc caller f)) (live-set proc (Some f.inc) fs es n w (λ k g h. none (suc k) g h))
    ∙ sym (set-insert_other f.inc n (incarnation_of proc caller f) w (live_with proc (Some f.inc) fs es) (none 0 f refl))

put_frame : (n : ℕ) (stacks : List (List StackFrame)) (q k : ℕ) (f g : StackFrame) → frame_at stacks q k ≡ Some f → g.inc ≡ f.inc
    → ((p j : ℕ) (h : StackFrame) → frame_at stacks p j ≡ Some h → h.inc.0 ≡ f.inc.0 → (p ≡ q) × (j ≡ k))
    → live_from n (set stacks q (set (slice_index_or stacks q []) k g))
    ≡ set_value (same_inc f.inc) (live_from n stacks) (incarnation_of (record { 0 = n + q }) (caller_at None (slice_index_or stacks q []) k) g)
put_frame n [] q k f g here same one = absurd (cc)
put_frame n (fs ∷ rest) zero k f g here same one =
    live-put (record { 0 = n }) None fs (live_from (n + 1) rest) k f g here same (λ j h there number. (one 0 j h there number).1)
    ∙ (let e : n ≡ n + 0 = omega arith in
    ap (λ (m : ℕ). set_value (same_inc f.inc) (live_from n (fs ∷ rest)) (incarnation_of (record { 0 = m }) (caller_at None fs k) g)) e)
put_frame n (fs ∷ rest) (suc q) k f g here same one =
    ap (λ (v : Ones). live_with (record { 0 = n }) None fs v)
    (put_frame (n + 1) rest q k f g here same (λ p j h there number. let w = one (suc p) j h there number in (omega (arith, w.0), w.1)))
    ∙ live-set (record { 0 = n }) None fs (live_from (n + 1) rest) f.inc (incarnation_of (record { 0 = n + 1 + q }) (caller_at None (slice_index_or rest q []) k) g)
    (λ j h there number. let e : 0 ≡ suc q = (one 0 j h there number).0 in absurd (omega arith))
    ∙ (let e : n + 1 + q ≡ n + suc q = omega arith in
    ap (λ (m : ℕ). set_value (same_inc f.inc) (live_from n (fs ∷ rest)) (incarnation_of (record { 0 = m }) (caller_at None (slice_index_or rest q []) k) g)) e)

-- a value for a number that is not there changes nothing
by_test : (test : Inc → Bool) (e : Inc × Incarnation) (es : Ones) (w : Incarnation) (b : Bool) → cond b (Some e.1) (lookup test es) ≡ None
    → (lookup test es ≡ None → set_value test es w ≡ es) → cond b ((e.0, w) ∷ es) (e ∷ set_value test es w) ≡ e ∷ es
by_test test e es w true absent later = absurd (cc)
by_test test e es w false absent later = ap (λ rest. e ∷ rest) (later absent)

set_value_absent : (test : Inc → Bool) (es : Ones) (w : Incarnation) → lookup test es ≡ None → set_value test es w ≡ es
set_value_absent test [] w absent = refl
set_value_absent test (e ∷ es) w absent = by_test test e es w (test e.0) absent (λ rest. set_value_absent test es w rest)

abbrev written : Incarnation → ℕ → Entry → Incarnation
written i slot entry = record i { slots = slice_set i.slots slot entry }

pub top_put : (stacks : List (List StackFrame)) (next : Inc) (q : ℕ) (inc : Inc) (slot : ℕ) (entry : Entry) → AreNumbered stacks next → IsCurrent stacks inc q
    → live_from 0 (with_top_of stacks q slot entry) ≡ set_value (same_inc inc) (live_from 0 stacks) (written (live_one (live_from 0 stacks) inc) slot entry)
top_put stacks next q inc slot entry h current = by (top_of (slice_index_or stacks q [])) refl current where
  by : (o : Option StackFrame) → top_of (slice_index_or stacks q []) ≡ o → IsCurrentOf stacks inc o
      → live_from 0 (set stacks q (with_changed (slice_index_or stacks q []) (length (slice_index_or stacks q []) - 1) (top_of (slice_index_or stacks q [])) slot entry))
      ≡ set_value (same_inc inc) (live_from 0 stacks) (written (live_one (live_from 0 stacks) inc) slot entry)
  by None e none =
      ap (λ (o : Option StackFrame). live_from 0 (set stacks q (with_changed (slice_index_or stacks q []) (length (slice_index_or stacks q []) - 1) o slot entry))) e
      ∙ ap (live_from 0) (set-get_or stacks q [])
      ∙ sym (set_value_absent (same_inc inc) (live_from 0 stacks) (written (live_one (live_from 0 stacks) inc) slot entry) (no_frame 0 stacks inc none))
  by (Some f) e same =
      let k : ℕ = length (slice_index_or stacks q []) - 1 in
      let z : 0 + q ≡ q = omega arith in
      let is : live_one (live_from 0 stacks) inc ≡ incarnation_of (record { 0 = q }) (caller_at None (slice_index_or stacks q []) k) f =
      current_one stacks next q inc h current ∙ ap (incarnation_or_none (record { 0 = q }) (slice_index_or stacks q [])) e in
      ap (λ (o : Option StackFrame). live_from 0 (set stacks q (with_changed (slice_index_or stacks q []) k o slot entry))) e
      ∙ put_frame 0 stacks q k f (with_slot f slot entry) e refl (λ p j g there number. h.apart p q j k g f there e number)
      ∙ ap (λ (m : ℕ). set_value (same_inc f.inc) (live_from 0 stacks) (incarnation_of (record { 0 = m }) (caller_at None (slice_index_or stacks q []) k)
      (with_slot f slot entry))) z
      ∙ ap (λ (i : Inc). set_value (same_inc i) (live_from 0 stacks) (written (incarnation_of (record { 0 = q }) (caller_at None (slice_index_or stacks q []) k) f) slot entry))
      (sym same)
      ∙ ap (λ (i : Incarnation). set_value (same_inc inc) (live_from 0 stacks) (written i slot entry)) (sym is)

-- stacks whose frames have the same numbers
abbrev number_of : Option StackFrame → Option Inc
number_of o = option_map (λ (f : StackFrame). f.inc) o

pub record SameFrames (old new : List (List StackFrame)) : Type 0 where
  pub many : (q : ℕ) → length (slice_index_or new q []) ≡ length (slice_index_or old q [])
  pub numbers : (q k : ℕ) → number_of (frame_at new q k) ≡ number_of (frame_at old q k)

with_number : (o : Option StackFrame) (i : Inc) → number_of o ≡ Some i → (g : StackFrame) × (o ≡ Some g) × (g.inc ≡ i)
with_number None i e = absurd (cc)
with_number (Some g) i e = (g, refl, (let s : g.inc ≡ i = cc in s))

back : (old new : List (List StackFrame)) → SameFrames old new → (q k : ℕ) (f : StackFrame) → frame_at new q k ≡ Some f
    → (g : StackFrame) × (frame_at old q k ≡ Some g) × (g.inc ≡ f.inc)
back old new s q k f here = with_number (frame_at old q k) f.inc (sym (s.numbers q k) ∙ ap number_of here)

pub numbered_same : (old new : List (List StackFrame)) (next : Inc) → SameFrames old new → AreNumbered old next → AreNumbered new next
numbered_same old new next s h = record {
  apart = λ p q i j f g a b same.
      let x = back old new s p i f a in
      let y = back old new s q j g b in
      h.apart p q i j x.0 y.0 x.1 y.1 (ap (λ (n : Inc). n.0) x.2 ∙ same ∙ sym (ap (λ (n : Inc). n.0) y.2));
  below = λ q k f a.
      let x = back old new s q k f a in
      subst (λ (n : Inc). n.0 < next.0) x.2 (h.below q k x.0 x.1);
}

current_moved : (old new : List (List StackFrame)) (inc : Inc) → SameFrames old new → (o p : Option StackFrame) → number_of p ≡ number_of o → IsCurrentOf old inc o
    → IsCurrentOf new inc p
current_moved old new inc s None None e none = λ q k f here same. let x = back old new s q k f here in none q k x.0 x.1 (ap (λ (n : Inc). n.0) x.2 ∙ same)
current_moved old new inc s None (Some p) e none = absurd (cc)
current_moved old new inc s (Some o) None e same = absurd (cc)
current_moved old new inc s (Some o) (Some p) e same = same ∙ (let n : o.inc ≡ p.inc = cc in n)

pub current_same : (old new : List (List StackFrame)) (inc : Inc) (n : ℕ) → SameFrames old new → IsCurrent old inc n → IsCurrent new inc n
current_same old new inc n s h =
    current_moved old new inc s (frame_at old n (length (slice_index_or old n []) - 1)) (frame_at new n (length (slice_index_or new n []) - 1))
    (ap (λ (m : ℕ). number_of (frame_at new n (m - 1))) (s.many n) ∙ s.numbers n (length (slice_index_or old n []) - 1)) h

-- the frames of a stack in which one has another name space
numbers_put : (fs : List StackFrame) (k : ℕ) (f g : StackFrame) → slice_get fs k ≡ Some f → g.inc ≡ f.inc → (j : ℕ)
    → number_of (slice_get (set fs k g) j) ≡ number_of (slice_get fs j)
numbers_put [] k f g here same j = refl
numbers_put (x ∷ fs) zero f g here same zero = let e : x ≡ f = cc in ap (λ (i : Inc). Some i) (same ∙ sym (ap (λ (y : StackFrame). y.inc) e))
numbers_put (x ∷ fs) zero f g here same (suc j) = refl
numbers_put (x ∷ fs) (suc k) f g here same zero = refl
numbers_put (x ∷ fs) (suc k) f g here same (suc j) = numbers_put fs k f g here same j

top_numbers : (fs : List StackFrame) (slot : ℕ) (entry : Entry) (j : ℕ) → number_of (slice_get (with_top fs slot entry) j) ≡ number_of (slice_get fs j)
top_numbers fs slot entry j = by (top_of fs) refl where
  by : (o : Option StackFrame) → top_of fs ≡ o → number_of (slice_get (with_changed fs (length fs - 1) (top_of fs) slot entry) j) ≡ number_of (slice_get fs j)
  by None e = ap (λ (o : Option StackFrame). number_of (slice_get (with_changed fs (length fs - 1) o slot entry) j)) e
  by (Some f) e = ap (λ (o : Option StackFrame). number_of (slice_get (with_changed fs (length fs - 1) o slot entry) j)) e
      ∙ numbers_put fs (length fs - 1) f (with_slot f slot entry) e refl j

pub top_many : (fs : List StackFrame) (slot : ℕ) (entry : Entry) → length (with_top fs slot entry) ≡ length fs
top_many fs slot entry = by (top_of fs) where
  by : (o : Option StackFrame) → length (with_changed fs (length fs - 1) o slot entry) ≡ length fs
  by None = refl
  by (Some f) = length-set fs (length fs - 1) (with_slot f slot entry)

-- an entry past the slots changes nothing
set-past : (es : List Entry) (k : ℕ) (x : Entry) → length es ≤ k → set es k x ≡ es
set-past [] k x past = refl
set-past (e ∷ es) zero x past = absurd (omega arith)
set-past (e ∷ es) (suc k) x past = ap (λ (rest : List Entry). e ∷ rest) (set-past es k x (omega arith))

set-frame : (fs : List StackFrame) (k : ℕ) (f g : StackFrame) → slice_get fs k ≡ Some f → g ≡ f → set fs k g ≡ fs
set-frame [] k f g here same = refl
set-frame (x ∷ fs) zero f g here same = let e : x ≡ f = cc in ap (λ (y : StackFrame). y ∷ fs) (same ∙ sym e)
set-frame (x ∷ fs) (suc k) f g here same = ap (λ (rest : List StackFrame). x ∷ rest) (set-frame fs k f g here same)

pub past_top : (fs : List StackFrame) (slot : ℕ) (entry : Entry) (f : StackFrame) → slice_get fs (length fs - 1) ≡ Some f → length f.space ≤ slot → fs ≡ with_top fs slot entry
past_top fs slot entry f here past =
    sym (ap (λ (o : Option StackFrame). with_changed fs (length fs - 1) o slot entry) here
    ∙ set-frame fs (length fs - 1) f (with_slot f slot entry) here (ap (λ (es : List Entry). record f { space = es }) (set-past f.space slot entry past)))

-- of a list in one place: a fact of all places holds after the change
placed_put : {Y : Type 0} (part : List StackFrame → Y) (stacks : List (List StackFrame)) (q : ℕ) (fs : List StackFrame) → part fs ≡ part (slice_index_or stacks q [])
    → (p : ℕ) → part (slice_index_or (set stacks q fs) p []) ≡ part (slice_index_or stacks p [])
placed_put part [] q fs same p = refl
placed_put part (x ∷ stacks) zero fs same zero = same
placed_put part (x ∷ stacks) zero fs same (suc p) = refl
placed_put part (x ∷ stacks) (suc q) fs same zero = refl
placed_put part (x ∷ stacks) (suc q) fs same (suc p) = placed_put part stacks q fs same p

pub top_same : (stacks : List (List StackFrame)) (q slot : ℕ) (entry : Entry) → SameFrames stacks (with_top_of stacks q slot entry)
top_same stacks q slot entry = record {
  many = placed_put (λ (fs : List StackFrame). length fs) stacks q (with_top (slice_index_or stacks q []) slot entry) (top_many (slice_index_or stacks q []) slot entry);
  numbers = λ p k.
      placed_put (λ (fs : List StackFrame). number_of (slice_get fs k)) stacks q (with_top (slice_index_or stacks q []) slot entry)
      (top_numbers (slice_index_or stacks q []) slot entry k) p;
}

-- and a slot past those of the top frame of a process
pub past_slots : (stacks : List (List StackFrame)) (q slot : ℕ) (entry : Entry) → length (slots_of (top_of (slice_index_or stacks q []))) ≤ slot
    → stacks ≡ with_top_of stacks q slot entry
past_slots stacks q slot entry past =
    sym (ap (set stacks q) (sym (by (top_of (slice_index_or stacks q [])) refl past)) ∙ set-get_or stacks q []) where
      by : (o : Option StackFrame) → top_of (slice_index_or stacks q []) ≡ o → length (slots_of o) ≤ slot
          → slice_index_or stacks q [] ≡ with_top (slice_index_or stacks q []) slot entry
      by None e low =
          sym (ap (λ (o : Option StackFrame). with_changed (slice_index_or stacks q []) (length (slice_index_or stacks q []) - 1) o slot entry) e)
      by (Some f) e low = past_top (slice_index_or stacks q []) slot entry f e low
