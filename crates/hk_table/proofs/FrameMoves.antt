-- The stacks where a frame comes or goes.
use Rattle.std.proofs.Common.{◌≡◌, ℕ, zero, suc, ◌+◌, ◌-◌, ◌<◌, ◌==◌, ◌⊎◌, inl, inr, Bool, true, false, List}
use Rattle.std.proofs.Common.{[], ◌∷◌, ◌++◌, length, set, Option, Some, None, refl, sym, ap, ◌∙◌, subst, arith, ⊎_elim}
use Rattle.std.proofs.Common.{get_or-set_same, get_or-set_other, option_map}
use Rattle.std.specs.Prelude.{slice_get, slice_index_or, count_by, cond}
use Rattle.std.specs.Map.{lookup, remove_entry}
use Rattle.std.specs.BTreeMap.{insert_entry}
use Rattle.std.proofs.lemmas.List.{length-set, length-append, set-set, set-get_or}
use Rattle.std.proofs.lemmas.Bool.{cases_eq}
use Rattle.std.proofs.lemmas.Bool.Decides.{nat_tests}
use Rattle.hk_model.specs.declared.names.Inc.{Inc}
use Rattle.hk_model.specs.declared.names.Slot.{Slot}
use Rattle.hk_model.specs.declared.objects.Incarnation.{Incarnation}
use Rattle.hk_model.specs.State.{inc_cmp, same_inc}
use Rattle.hk_spaces.specs.declared.stack.StackFrame.{StackFrame}
use Rattle.hk_table.specs.Stacked.{Stacked, caller_at, incarnation_of, live_from, frame_at, top_of, Pops, AreNumbered}
use Rattle.hk_table.specs.Joined.{IsCurrentOf, IsCurrent}
use Rattle.hk_table.proofs.Live.{no_frame, lookup-insert_same}
use Rattle.hk_table.proofs.FramePushes.{IsFree, pushed, remove-insert, last_caller, count_frames}

abbrev Ones : Type 0
Ones = List (Inc × Incarnation)

-- the last frame of a stack
pub top_last : (fs : List StackFrame) (f : StackFrame) → top_of (fs ++ f ∷ []) ≡ Some f
top_last fs f = let k : length (fs ++ f ∷ []) - 1 ≡ length fs = omega (arith, length-append fs (f ∷ [])) in ap (slice_get (fs ++ f ∷ [])) k ∙ there fs where
  there : (xs : List StackFrame) → slice_get (xs ++ f ∷ []) (length xs) ≡ Some f
  there [] = refl
  there (x ∷ xs) = there xs

there_last : (fs : List StackFrame) (f : StackFrame) → slice_get (fs ++ f ∷ []) (length fs) ≡ Some f
there_last [] f = refl
there_last (x ∷ xs) f = there_last xs f

last_or : (fs : List StackFrame) (f : StackFrame) (k : ℕ) (h : StackFrame) → slice_get (fs ++ f ∷ []) k ≡ Some h → (slice_get fs k ≡ Some h) ⊎ ((k ≡ length fs) × (h ≡ f))
last_or [] f zero h e = inr (refl, (let s : f ≡ h = cc in sym s))
last_or [] f (suc k) h e = absurd (cc)
last_or (x ∷ fs) f zero h e = inl e
last_or (x ∷ fs) f (suc k) h e =
    ⊎_elim (λ (old : slice_get fs k ≡ Some h). inl old) (λ (new : (k ≡ length fs) × (h ≡ f)). inr (ap suc new.0, new.1)) (last_or fs f k h e)

first_ones : (fs : List StackFrame) (f : StackFrame) (k : ℕ) (h : StackFrame) → slice_get fs k ≡ Some h → slice_get (fs ++ f ∷ []) k ≡ Some h
first_ones [] f k h e = absurd (cc)
first_ones (x ∷ fs) f zero h e = e
first_ones (x ∷ fs) f (suc k) h e = first_ones fs f k h e

past_none : (fs : List StackFrame) (h : StackFrame) → slice_get fs (length fs) ≡ Some h → ⊥
past_none [] h e = cc
past_none (x ∷ fs) h e = past_none fs h e

-- the stack of a process, where one was changed
pub stack_here : (stacks : List (List StackFrame)) (q p : ℕ) (fs : List StackFrame) → q < length stacks → p ≡ q → slice_index_or (set stacks q fs) p [] ≡ fs
stack_here stacks q p fs low same = ap (λ (m : ℕ). slice_index_or (set stacks q fs) m []) same ∙ get_or-set_same stacks q fs [] low

pub stack_there : (stacks : List (List StackFrame)) (q p : ℕ) (fs : List StackFrame) → (p ≡ q → ⊥) → slice_index_or (set stacks q fs) p [] ≡ slice_index_or stacks p []
stack_there stacks q p fs other = get_or-set_other stacks q p fs [] other

-- a frame comes
module _ (stacks : List (List StackFrame)) (next : Inc) (q : ℕ) (f : StackFrame) (low : q < length stacks) (numbered : AreNumbered stacks next) (number : f.inc ≡ next) where
  frame_or : (p k : ℕ) (h : StackFrame) → frame_at (set stacks q (slice_index_or stacks q [] ++ f ∷ [])) p k ≡ Some h
      → (frame_at stacks p k ≡ Some h) ⊎ ((p ≡ q) × (k ≡ length (slice_index_or stacks q [])) × (h ≡ f))
  frame_or p k h e =
      ⊎_elim (λ (same : p ≡ q).
      ⊎_elim (λ (old : slice_get (slice_index_or stacks q []) k ≡ Some h). inl (ap (λ (m : ℕ). frame_at stacks m k) same ∙ old))
      (λ (new : (k ≡ length (slice_index_or stacks q [])) × (h ≡ f)). inr (same, new.0, new.1))
      (last_or (slice_index_or stacks q []) f k h (sym (ap (λ (fs : List StackFrame). slice_get fs k) (stack_here stacks q p (slice_index_or stacks q [] ++ f ∷ []) low same))
      ∙ e)))
      (λ (other : p ≡ q → ⊥). inl (sym (ap (λ (fs : List StackFrame). slice_get fs k) (stack_there stacks q p (slice_index_or stacks q [] ++ f ∷ []) other)) ∙ e))
      (cases_eq p q)

  pub free_number : IsFree stacks f.inc
  free_number p k h e same = let b = numbered.below p k h e in let n : h.inc.0 ≡ next.0 = same ∙ ap (λ (i : Inc). i.0) number in omega (arith, b, n)

  pub push_numbered : AreNumbered (set stacks q (slice_index_or stacks q [] ++ f ∷ [])) (record { 0 = next.0 + 1 })
  push_numbered = record {
    apart = λ p r i j g h a b same.
        ⊎_elim (λ (x : frame_at stacks p i ≡ Some g).
        ⊎_elim (λ (y : frame_at stacks r j ≡ Some h). numbered.apart p r i j g h x y same)
        (λ (y : (r ≡ q) × (j ≡ length (slice_index_or stacks q [])) × (h ≡ f)). absurd (free_number p i g x (same ∙ ap (λ (z : StackFrame). z.inc.0) y.2)))
        (frame_or r j h b))
        (λ (x : (p ≡ q) × (i ≡ length (slice_index_or stacks q [])) × (g ≡ f)).
        ⊎_elim (λ (y : frame_at stacks r j ≡ Some h). absurd (free_number r j h y (sym same ∙ ap (λ (z : StackFrame). z.inc.0) x.2)))
        (λ (y : (r ≡ q) × (j ≡ length (slice_index_or stacks q [])) × (h ≡ f)). (x.0 ∙ sym y.0, x.1 ∙ sym y.1)) (frame_or r j h b)) (frame_or p i g a);
    below = λ p k h e.
        ⊎_elim (λ (x : frame_at stacks p k ≡ Some h). let b = numbered.below p k h x in omega (arith, b))
        (λ (x : (p ≡ q) × (k ≡ length (slice_index_or stacks q [])) × (h ≡ f)).
        let n : h.inc.0 ≡ next.0 = ap (λ (z : StackFrame). z.inc.0) x.2 ∙ ap (λ (i : Inc). i.0) number in omega (arith, n)) (frame_or p k h e);
  }

  -- another process has the current incarnation that it had, and this one the new one
  pub push_current_other : (p : ℕ) (inc : Inc) → (p ≡ q → ⊥) → inc.0 < next.0 → IsCurrent stacks inc p → IsCurrent (set stacks q (slice_index_or stacks q [] ++ f ∷ [])) inc p
  push_current_other p inc other known h =
      subst (λ (fs : List StackFrame). IsCurrentOf (set stacks q (slice_index_or stacks q [] ++ f ∷ [])) inc (top_of fs))
      (sym (stack_there stacks q p (slice_index_or stacks q [] ++ f ∷ []) other)) (by (top_of (slice_index_or stacks p [])) h) where
        by : (o : Option StackFrame) → IsCurrentOf stacks inc o → IsCurrentOf (set stacks q (slice_index_or stacks q [] ++ f ∷ [])) inc o
        by None none = λ r k g e same.
            ⊎_elim (λ (x : frame_at stacks r k ≡ Some g). none r k g x same)
            (λ (x : (r ≡ q) × (k ≡ length (slice_index_or stacks q [])) × (g ≡ f)).
            let n : inc.0 ≡ next.0 = sym same ∙ ap (λ (z : StackFrame). z.inc.0) x.2 ∙ ap (λ (i : Inc). i.0) number in omega (arith, n, known)) (frame_or r k g e)
        by (Some g) same = same

  pub push_current : IsCurrent (set stacks q (slice_index_or stacks q [] ++ f ∷ [])) next q
  push_current =
      subst (λ (o : Option StackFrame). IsCurrentOf (set stacks q (slice_index_or stacks q [] ++ f ∷ [])) next o)
      (sym (ap top_of (stack_here stacks q q (slice_index_or stacks q [] ++ f ∷ []) low refl) ∙ top_last (slice_index_or stacks q []) f)) (sym number)

-- a frame goes
module _ (old : List (List StackFrame)) (next : Inc) (q : ℕ) (fs : List StackFrame) (f : StackFrame) (numbered : AreNumbered old next)
    (split : slice_index_or old q [] ≡ fs ++ f ∷ []) where
  pub split_low : q < length old
  split_low = some old q split where
    some : (xs : List (List StackFrame)) (k : ℕ) → slice_index_or xs k [] ≡ fs ++ f ∷ [] → k < length xs
    some [] k e = absurd (nothing fs e) where
      nothing : (ys : List StackFrame) → [] ≡ ys ++ f ∷ [] → ⊥
      nothing [] e = cc
      nothing (y ∷ ys) e = cc
    some (x ∷ xs) zero e = omega arith
    some (x ∷ xs) (suc k) e = let h = some xs k e in omega (arith, h)

  was_there : (p k : ℕ) (h : StackFrame) → frame_at (set old q fs) p k ≡ Some h → frame_at old p k ≡ Some h
  was_there p k h e =
      ⊎_elim (λ (same : p ≡ q).
      ap (λ (m : ℕ). frame_at old m k) same ∙ ap (λ (xs : List StackFrame). slice_get xs k) split
      ∙ first_ones fs f k h (sym (ap (λ (xs : List StackFrame). slice_get xs k) (stack_here old q p fs split_low same)) ∙ e))
      (λ (other : p ≡ q → ⊥). sym (ap (λ (xs : List StackFrame). slice_get xs k) (stack_there old q p fs other)) ∙ e) (cases_eq p q)

  pub pop_numbered : AreNumbered (set old q fs) next
  pop_numbered = record {
    apart = λ p r i j g h a b same. numbered.apart p r i j g h (was_there p i g a) (was_there r j h b) same;
    below = λ p k h e. numbered.below p k h (was_there p k h e);
  }

  last_one : frame_at old q (length fs) ≡ Some f
  last_one = ap (λ (xs : List StackFrame). slice_get xs (length fs)) split ∙ there_last fs f

  pub gone_number : IsFree (set old q fs) f.inc
  gone_number p k h e same =
      let w = numbered.apart p q k (length fs) h f (was_there p k h e) last_one same in
      past_none fs h (sym (ap (λ (xs : List StackFrame). slice_get xs (length fs)) (stack_here old q p fs split_low w.0)) ∙ sym (ap (frame_at (set old q fs) p) w.1) ∙ e)

  again : set (set old q fs) q (slice_index_or (set old q fs) q [] ++ f ∷ []) ≡ old
  again =
      ap (λ (xs : List StackFrame). set (set old q fs) q (xs ++ f ∷ [])) (stack_here old q q fs split_low refl)
      ∙ set-set old q fs (fs ++ f ∷ []) ∙ ap (set old q) (sym split) ∙ set-get_or old q []

  -- what was live: what still is, and the incarnation that has gone
  pub were : live_from 0 old ≡ insert_entry inc_cmp (live_from 0 (set old q fs)) f.inc (incarnation_of (record { 0 = q }) (caller_at None fs (length fs)) f)
  were =
      sym (ap (live_from 0) again) ∙ pushed (set old q fs) q f (let e = length-set old q fs in omega (arith, e, split_low)) gone_number
      ∙ ap (λ (xs : List StackFrame). insert_entry inc_cmp (live_from 0 (set old q fs)) f.inc (incarnation_of (record { 0 = q }) (caller_at None xs (length xs)) f))
      (stack_here old q q fs split_low refl)

  pub pop_live : remove_entry (same_inc f.inc) (live_from 0 old) ≡ live_from 0 (set old q fs)
  pop_live =
      ap (remove_entry (same_inc f.inc)) were
      ∙ remove-insert f.inc (incarnation_of (record { 0 = q }) (caller_at None fs (length fs)) f) (live_from 0 (set old q fs)) (no_frame 0 (set old q fs) f.inc gone_number)

  pub pop_found : lookup (same_inc f.inc) (live_from 0 old) ≡ Some (incarnation_of (record { 0 = q }) (caller_at None fs (length fs)) f)
  pop_found =
      ap (lookup (same_inc f.inc)) were ∙ lookup-insert_same f.inc (incarnation_of (record { 0 = q }) (caller_at None fs (length fs)) f) (live_from 0 (set old q fs))

  pub pop_was_current : (inc : Inc) → IsCurrent old inc q → inc ≡ f.inc
  pop_was_current inc h = subst (λ (o : Option StackFrame). IsCurrentOf old inc o) (ap top_of split ∙ top_last fs f) h

  pub pop_current_other : (p : ℕ) (inc : Inc) → (p ≡ q → ⊥) → IsCurrent old inc p → IsCurrent (set old q fs) inc p
  pop_current_other p inc other h =
      subst (λ (xs : List StackFrame). IsCurrentOf (set old q fs) inc (top_of xs)) (sym (stack_there old q p fs other)) (by (top_of (slice_index_or old p [])) h) where
        by : (o : Option StackFrame) → IsCurrentOf old inc o → IsCurrentOf (set old q fs) inc o
        by None none = λ r k g e same. none r k g (was_there r k g e) same
        by (Some g) same = same

  -- the frame below is on top, or none is
  pub pop_current : (inc : Inc) → Some inc ≡ option_map (λ (g : StackFrame). g.inc) (top_of (slice_index_or (set old q fs) q [])) → IsCurrent (set old q fs) inc q
  pop_current inc e = by (top_of (slice_index_or (set old q fs) q [])) e where
    by : (o : Option StackFrame) → Some inc ≡ option_map (λ (g : StackFrame). g.inc) o → IsCurrentOf (set old q fs) inc o
    by None e = absurd (cc)
    by (Some g) e = cc

  pub pop_none : None ≡ option_map (λ (g : StackFrame). g.inc) (top_of (slice_index_or (set old q fs) q [])) → IsCurrent (set old q fs) f.inc q
  pop_none e = by (top_of (slice_index_or (set old q fs) q [])) e where
    by : (o : Option StackFrame) → None ≡ option_map (λ (g : StackFrame). g.inc) o → IsCurrentOf (set old q fs) f.inc o
    by None e = gone_number
    by (Some g) e = absurd (cc)

  pub pop_below : top_of (slice_index_or (set old q fs) q []) ≡ top_of fs
  pop_below = ap top_of (stack_here old q q fs split_low refl)

  pub pop_many : length (set old q fs) ≡ length old
  pop_many = length-set old q fs

-- the caller of the last frame is the one on top of the others
pub caller_none : (fs : List StackFrame) → None ≡ option_map (λ (g : StackFrame). g.inc) (top_of fs) → caller_at None fs (length fs) ≡ None
caller_none [] e = refl
caller_none (x ∷ fs) e = absurd (some (top_of (x ∷ fs)) (top_there x fs) e) where
  top_there : (x : StackFrame) (fs : List StackFrame) → (g : StackFrame) × (top_of (x ∷ fs) ≡ Some g)
  top_there x [] = (x, refl)
  top_there x (y ∷ fs) =
      let w = top_there y fs in
      let k : length (x ∷ y ∷ fs) - 1 ≡ suc (length (y ∷ fs) - 1) = omega arith in
      (w.0, ap (slice_get (x ∷ y ∷ fs)) k ∙ w.1)

  some : (o : Option StackFrame) → ((g : StackFrame) × (o ≡ Some g)) → None ≡ option_map (λ (g : StackFrame). g.inc) o → ⊥
  some None w e = cc
  some (Some g) w e = cc

pub caller_some : (fs : List StackFrame) (inc : Inc) → Some inc ≡ option_map (λ (g : StackFrame). g.inc) (top_of fs) → caller_at None fs (length fs) ≡ Some inc
caller_some fs inc e = by (top_of fs) refl e where
  by : (o : Option StackFrame) → top_of fs ≡ o → Some inc ≡ option_map (λ (g : StackFrame). g.inc) o → caller_at None fs (length fs) ≡ Some inc
  by None is e = absurd (cc)
  by (Some g) is e = last_caller None fs g is ∙ sym e

-- how many frames a process has
none_below : (n q : ℕ) (stacks : List (List StackFrame)) → q < n
    → ((p r i j : ℕ) (f g : StackFrame) → frame_at stacks p i ≡ Some f → frame_at stacks r j ≡ Some g → f.inc.0 ≡ g.inc.0 → (p ≡ r) × (i ≡ j))
    → count_by (λ (e : Inc × Incarnation). e.1.proc.0 == q) (live_from n stacks) ≡ 0
none_below n q [] less apart = refl
none_below n q (fs ∷ rest) less apart =
    let other : (n == q) ≡ false = grind (arith, nat_tests) in
    count_frames q (record { 0 = n }) None fs (live_from (n + 1) rest) (λ i j f g a b same. (apart 0 0 i j f g a b same).1)
    (λ k f a. no_frame (n + 1) rest f.inc (λ p j g b same. let e : suc p ≡ 0 = (apart (suc p) 0 j k g f b a same).0 in absurd (omega arith)))
    ∙ ap (λ (b : Bool). cond b (length fs) 0 + count_by (λ (e : Inc × Incarnation). e.1.proc.0 == q) (live_from (n + 1) rest)) other
    ∙ (let none = none_below (n + 1) q rest (omega arith) (λ p r i j f g a b same. let w = apart (suc p) (suc r) i j f g a b same in (omega (arith, w.0), w.1)) in
    omega (arith, none))

depth_at : (n q k : ℕ) (stacks : List (List StackFrame)) → q ≡ n + k
    → ((p r i j : ℕ) (f g : StackFrame) → frame_at stacks p i ≡ Some f → frame_at stacks r j ≡ Some g → f.inc.0 ≡ g.inc.0 → (p ≡ r) × (i ≡ j))
    → count_by (λ (e : Inc × Incarnation). e.1.proc.0 == q) (live_from n stacks) ≡ length (slice_index_or stacks k [])
depth_at n q k [] is apart = refl
depth_at n q zero (fs ∷ rest) is apart =
    let here : (n == q) ≡ true = grind (arith, nat_tests) in
    let none = none_below (n + 1) q rest (omega arith) (λ p r i j f g a b same. let w = apart (suc p) (suc r) i j f g a b same in (omega (arith, w.0), w.1)) in
    count_frames q (record { 0 = n }) None fs (live_from (n + 1) rest) (λ i j f g a b same. (apart 0 0 i j f g a b same).1)
    (λ k f a. no_frame (n + 1) rest f.inc (λ p j g b same. let e : suc p ≡ 0 = (apart (suc p) 0 j k g f b a same).0 in absurd (omega arith)))
    ∙ ap (λ (b : Bool). cond b (length fs) 0 + count_by (λ (e : Inc × Incarnation). e.1.proc.0 == q) (live_from (n + 1) rest)) here
    ∙ omega (arith, none)
depth_at n q (suc k) (fs ∷ rest) is apart =
    let other : (n == q) ≡ false = grind (arith, nat_tests) in
    count_frames q (record { 0 = n }) None fs (live_from (n + 1) rest) (λ i j f g a b same. (apart 0 0 i j f g a b same).1)
    (λ k f a. no_frame (n + 1) rest f.inc (λ p j g b same. let e : suc p ≡ 0 = (apart (suc p) 0 j k g f b a same).0 in absurd (omega arith)))
    ∙ ap (λ (b : Bool). cond b (length fs) 0 + count_by (λ (e : Inc × Incarnation). e.1.proc.0 == q) (live_from (n + 1) rest)) other
    ∙ (let later = depth_at (n + 1) q k rest (omega arith) (λ p r i j f g a b same. let w = apart (suc p) (suc r) i j f g a b same in (omega (arith, w.0), w.1)) in
    omega (arith, later))

pub depth_is : (stacks : List (List StackFrame)) (next : Inc) (q : ℕ) → AreNumbered stacks next
    → count_by (λ (e : Inc × Incarnation). e.1.proc.0 == q) (live_from 0 stacks) ≡ length (slice_index_or stacks q [])
depth_is stacks next q h = depth_at 0 q q stacks (omega arith) h.apart

pub popped_numbered : (old new : List (List StackFrame)) (next : Inc) (q : ℕ) (o : Option Slot) → AreNumbered old next → Pops old q o new → AreNumbered new next
popped_numbered old new next q None h p = subst (λ (v : List (List StackFrame)). AreNumbered v next) (sym p.1) h
popped_numbered old new next q (Some into) h p = subst (λ (v : List (List StackFrame)). AreNumbered v next) (sym p.4) (pop_numbered old next q p.0 p.1 h p.2)

pub pushed_numbered : (st : Stacked) (q : ℕ) (f : StackFrame) (new : List (List StackFrame)) → q < length st.stacks → AreNumbered st.stacks st.next → f.inc ≡ st.next
    → new ≡ set st.stacks q (slice_index_or st.stacks q [] ++ f ∷ []) → AreNumbered new (record { 0 = st.next.0 + 1 })
pushed_numbered st q f new low h number e =
    subst (λ (v : List (List StackFrame)). AreNumbered v (record { 0 = st.next.0 + 1 })) (sym e) (push_numbered st.stacks st.next q f low h number)
