-- The confined calls so far, with the incarnations that are under each: a line adds the incarnation that it makes to the calls
-- that its own is under, and says no more of who has a number.
use Rattle.std.proofs.Common.{◌≡◌, ℕ, zero, suc, ◌+◌, ◌<◌, List, [], ◌∷◌, ◌++◌, length, map, Bool, true, false, Some, None, refl, sym, ◌∙◌, ap, arith, cond, subst}
use Rattle.std.specs.Prelude.{◌||◌, filter, option_map, slice_index_or, ◌⊎◌}
use mathlib.Core.Logic.{inl, inr}
use Rattle.std.specs.List.{list_any}
use Rattle.std.proofs.lemmas.Bool.{true≢false, false_from_ne_true}
use Rattle.std.proofs.lemmas.Bool.Decides.{nat_tests}
use Rattle.std.proofs.lemmas.List.{append-nil, map-append, get_or_append_left}
use Rattle.std.proofs.lemmas.List.Elements.{filter-append}
use Rattle.hk_model.specs.declared.names.Inc.{Inc}
use Rattle.hk_model.specs.declared.lines.Line.{Line}
use Rattle.hk_model.specs.State.{State, incarnation, same_inc}
use Rattle.hk_model.specs.Lines.{done_call, enters_call}
use Rattle.hk_model.specs.Under.{is_one_of, under_by}
use Rattle.hk_model.specs.Changes.{Beginning, confined_by}
use Rattle.hk_model.proofs.NamesStand.{All, all_more, all_append, all_map, all_each}
use Rattle.hk_model.proofs.Standing.{inc_same}
use Rattle.hk_model.proofs.Turns.{Enters, Turn, Still, Enter, Leave, Halt}
use Rattle.hk_model.proofs.UnderLemmas.{under_more, member_cases, member_new, one_itself}
use Rattle.hk_model.proofs.Histories.{LineKnown, enters_turn}
use Rattle.hk_report.specs.declared.doings.Entered.{Entered}
use Rattle.hk_report.specs.declared.families.Begun.{Begun}
use Rattle.hk_report.specs.Doings.{doing}
use Rattle.hk_report.specs.Families.{told_call, calls_entered, families_by}

-- a confined call, with the incarnations that are under it so far
pub record Followed : Type 0 where
  pub of : Beginning
  pub under : List Inc

abbrev pub started : Beginning → Followed
started b = record { of = b; under = b.call ∷ [] }

abbrev pub goes_on : State → Line → State → Followed → Followed
goes_on s line t p = record { of = p.of; under = under_by s line t p.under }

-- the confined call that a line begins
abbrev pub new_calls : State → Line → State → List Beginning
new_calls s line t = elim (enters_call (done_call line)) [
  | true ↦ elim (incarnation t s.next_inc).confined [ true ↦ record { call = s.next_inc; moment = t.events } ∷ [] | false ↦ [] ]
  | false ↦ []
]

-- a confined call that begins by a line, at a moment
abbrev pub begun_at : State → ℕ → Beginning
begun_at s moment = record { call = s.next_inc; moment = moment }

abbrev pub followed_by : State → Line → State → List Followed → List Followed
followed_by s line t ps = map (goes_on s line t) ps ++ map started (new_calls s line t)

abbrev pub calls_of : List Followed → List Beginning
calls_of ps = map (λ (p : Followed). p.of) ps

-- the calls that an incarnation is under
abbrev pub calls_with : Inc → List Followed → List Beginning
calls_with i ps = calls_of (filter (λ (p : Followed). is_one_of i p.under) ps)

-- ---- the calls

call_adds : (s : State) (line : Line) (t : State) (calls : List Beginning) → confined_by s line t calls ≡ calls ++ new_calls s line t
call_adds s line t calls = by (enters_call (done_call line)) (incarnation t s.next_inc).confined
  where
    by : (b d : Bool) → ◌≡◌ {A = List Beginning} (elim b [ true ↦ elim d [ true ↦ calls ++ record { call = s.next_inc; moment = t.events } ∷ [] | false ↦ calls ] | false ↦ calls ])
        (calls ++ elim b [ true ↦ elim d [ true ↦ record { call = s.next_inc; moment = t.events } ∷ [] | false ↦ [] ] | false ↦ [] ])
    by true true = refl
    by true false = sym (append-nil calls)
    by false d = sym (append-nil calls)

of_gone : (s : State) (line : Line) (t : State) (ps : List Followed) → calls_of (map (goes_on s line t) ps) ≡ calls_of ps
of_gone s line t [] = refl
of_gone s line t (p ∷ ps) = ap (λ (bs : List Beginning). p.of ∷ bs) (of_gone s line t ps)

of_started : (bs : List Beginning) → calls_of (map started bs) ≡ bs
of_started [] = refl
of_started (b ∷ bs) = ap (λ (cs : List Beginning). b ∷ cs) (of_started bs)

pub calls_followed : (s : State) (line : Line) (t : State) (ps : List Followed) → confined_by s line t (calls_of ps) ≡ calls_of (followed_by s line t ps)
calls_followed s line t ps =
    call_adds s line t (calls_of ps)
    ∙ sym (map-append (λ (p : Followed). p.of) (map (goes_on s line t) ps) (map started (new_calls s line t))
    ∙ rw (of_gone s line t ps, of_started (new_calls s line t)) refl)

-- ---- the calls that an incarnation is under

with_append : (i : Inc) (ps qs : List Followed) → calls_with i (ps ++ qs) ≡ calls_with i ps ++ calls_with i qs
with_append i ps qs =
    ap calls_of (filter-append (λ (p : Followed). is_one_of i p.under) ps qs)
    ∙ map-append (λ (p : Followed). p.of) (filter (λ (p : Followed). is_one_of i p.under) ps) (filter (λ (p : Followed). is_one_of i p.under) qs)

with_gone : (i j : Inc) (s : State) (line : Line) (t : State) (ps : List Followed)
    → All (λ (p : Followed). is_one_of i (under_by s line t p.under) ≡ is_one_of j p.under) ps → calls_with i (map (goes_on s line t) ps) ≡ calls_with j ps
with_gone i j s line t [] h = refl
with_gone i j s line t (p ∷ ps) h = by (is_one_of i (under_by s line t p.under)) (is_one_of j p.under) h.0 (with_gone i j s line t ps h.1)
  where
    xs : List Followed
    xs = filter (λ (q : Followed). is_one_of i q.under) (map (goes_on s line t) ps)

    ys : List Followed
    ys = filter (λ (q : Followed). is_one_of j q.under) ps

    by : (a b : Bool) → a ≡ b → calls_of xs ≡ calls_of ys → calls_of (cond a (goes_on s line t p ∷ xs) xs) ≡ calls_of (cond b (p ∷ ys) ys)
    by true true e g = ap (λ (bs : List Beginning). p.of ∷ bs) g
    by false false e g = g
    by true false e g = absurd (true≢false e)
    by false true e g = absurd (true≢false (sym e))

-- ---- who has a number already

any_other : {X : Type 0} (p : X → Bool) (xs : List X) (n : X) → p n ≡ false → list_any p (xs ++ n ∷ []) ≡ list_any p xs
any_other p [] n h = ap (λ (b : Bool). b || false) h
any_other p (x ∷ xs) n h = ap (λ (b : Bool). p x || b) (any_other p xs n h)

inc_apart : (i n : Inc) → i.0 < n.0 → same_inc i n ≡ false
inc_apart i n h = grind (arith, nat_tests)

module _ (s : State) (line : Line) (t : State) where
  old_same : (i : Inc) → i.0 < s.next_inc.0 → (us : List Inc) → is_one_of i (under_by s line t us) ≡ is_one_of i us
  old_same i early us = by (enters_call (done_call line)) (is_one_of line.inc us)
    where
      by : (e m : Bool) → is_one_of i (elim e [ true ↦ elim m [ true ↦ us ++ s.next_inc ∷ [] | false ↦ us ] | false ↦ us ]) ≡ is_one_of i us
      by true true = any_other (same_inc i) us s.next_inc (inc_apart i s.next_inc early)
      by true false = refl
      by false m = refl

  new_out : (i : Inc) → i.0 < s.next_inc.0 → calls_with i (map started (new_calls s line t)) ≡ []
  new_out i early = by (enters_call (done_call line)) (incarnation t s.next_inc).confined
    where
      by : (e d : Bool)
          → calls_with i (map started (elim e [ true ↦ elim d [ true ↦ record { call = s.next_inc; moment = t.events } ∷ [] | false ↦ [] ] | false ↦ [] ])) ≡ []
      by true true = ap (λ (b : Bool). calls_of (cond (b || false) (started (begun_at s t.events) ∷ []) [])) (inc_apart i s.next_inc early)
      by true false = refl
      by false d = refl

  pub old_with : (i : Inc) → i.0 < s.next_inc.0 → (ps : List Followed) → calls_with i (followed_by s line t ps) ≡ calls_with i ps
  old_with i early ps =
      with_append i (map (goes_on s line t) ps) (map started (new_calls s line t))
      ∙ ap (λ (bs : List Beginning). calls_with i (map (goes_on s line t) ps) ++ bs) (new_out i early) ∙ append-nil (calls_with i (map (goes_on s line t) ps))
      ∙ with_gone i i s line t ps (all_each (λ (p : Followed). is_one_of i (under_by s line t p.under) ≡ is_one_of i p.under) (λ p. old_same i early p.under) ps)

  -- ---- whom the line enters

  abbrev AreFresh : ℕ → List Followed → Type 0
  AreFresh n ps = All (λ (p : Followed). (i : Inc) → is_one_of i p.under ≡ true → i.0 < n) ps

  module _ (enters : enters_call (done_call line) ≡ true) where
    new_same : (us : List Inc) → ((i : Inc) → is_one_of i us ≡ true → i.0 < s.next_inc.0) → is_one_of s.next_inc (under_by s line t us) ≡ is_one_of line.inc us
    new_same us fresh = ap (is_one_of s.next_inc) (under_more s line t us enters) ∙ here (is_one_of line.inc us)
      where
        here : (b : Bool) → is_one_of s.next_inc (elim b [ true ↦ us ++ s.next_inc ∷ [] | false ↦ us ]) ≡ b
        here true = member_new us s.next_inc
        here false = false_from_ne_true (is_one_of s.next_inc us) (λ g. let n = fresh s.next_inc g in omega (arith, n))

    new_in : calls_with s.next_inc (map started (new_calls s line t)) ≡ new_calls s line t
    new_in = by (enters_call (done_call line)) (incarnation t s.next_inc).confined
      where
        by : (e d : Bool)
            → ◌≡◌ {A = List Beginning}
            (calls_with s.next_inc (map started (elim e [ true ↦ elim d [ true ↦ record { call = s.next_inc; moment = t.events } ∷ [] | false ↦ [] ] | false ↦ [] ])))
            (elim e [ true ↦ elim d [ true ↦ record { call = s.next_inc; moment = t.events } ∷ [] | false ↦ [] ] | false ↦ [] ])
        by true true = ap (λ (b : Bool). calls_of (cond b (started (begun_at s t.events) ∷ []) [])) (one_itself s.next_inc)
        by true false = refl
        by false d = refl

    new_with : (ps : List Followed) → AreFresh s.next_inc.0 ps → calls_with s.next_inc (followed_by s line t ps) ≡ calls_with line.inc ps ++ new_calls s line t
    new_with ps fresh =
        with_append s.next_inc (map (goes_on s line t) ps) (map started (new_calls s line t))
        ∙ ap (λ (bs : List Beginning). calls_with s.next_inc (map (goes_on s line t) ps) ++ bs) new_in
        ∙ ap (λ (bs : List Beginning). bs ++ new_calls s line t)
        (with_gone s.next_inc line.inc s line t ps
        (all_more (λ (p : Followed). (i : Inc) → is_one_of i p.under ≡ true → i.0 < s.next_inc.0)
        (λ (p : Followed). is_one_of s.next_inc (under_by s line t p.under) ≡ is_one_of line.inc p.under) (λ p f. new_same p.under f) ps fresh))

-- ---- the families

-- the families tell the calls that each incarnation is under which has a number
pub record FamiliesFit (s : State) (families : List (List Begun)) (ps : List Followed) : Type 0 where
  pub count : length families ≡ s.next_inc.0
  pub fresh : All (λ (p : Followed). (i : Inc) → is_one_of i p.under ≡ true → i.0 < s.next_inc.0) ps
  pub same : (i : Inc) → i.0 < s.next_inc.0 → slice_index_or families i.0 [] ≡ map told_call (calls_with i ps)

still_next : (s : State) (line : Line) (t : State) → Turn s line t → enters_call (done_call line) ≡ false → t.next_inc ≡ s.next_inc
still_next s line t (Still q e) h = q.next
still_next s line t (Enter e) h = absurd (true≢false (sym e.is ∙ h))
still_next s line t (Leave e) h = e.next
still_next s line t (Halt e) h = e.next

module _ (s : State) (line : Line) (t : State) (known : LineKnown s line t) where
  up : (s.next_inc.0 < t.next_inc.0) ⊎ (t.next_inc ≡ s.next_inc) → (b : ℕ) → b < s.next_inc.0 → b < t.next_inc.0
  up (inl a) b h = omega (arith, a, h)
  up (inr e) b h = subst (λ (j : Inc). b < j.0) (sym e) h

  rises : (s.next_inc.0 < t.next_inc.0) ⊎ (t.next_inc ≡ s.next_inc)
  rises = by (enters_call (done_call line)) refl
    where
      by : (b : Bool) → enters_call (done_call line) ≡ b → (s.next_inc.0 < t.next_inc.0) ⊎ (t.next_inc ≡ s.next_inc)
      by true e = let n = (enters_turn s line t known.turn e).next in inl (omega (arith, n))
      by false e = inr (still_next s line t known.turn e)

  pub rises_above : (n : ℕ) → n < s.next_inc.0 → n < t.next_inc.0
  rises_above n h = up rises n h

module _ (s : State) (line : Line) (t : State) (known : LineKnown s line t) (next : t.events ≡ s.events + 1) (families : List (List Begun)) (ps : List Followed)
    (fits : FamiliesFit s families ps) where
  -- the families behind the line, by whether it enters
  abbrev families_for : Bool → List (List Begun)
  families_for b =
      elim (option_map (λ (inc : Inc). let e : Entered = record { inc = inc; confined = (incarnation t inc).confined } in e) (elim b [ true ↦ Some s.next_inc | false ↦ None ])) [
        | None ↦ families
        | Some new ↦ families ++ calls_entered s.events new (slice_index_or families line.inc.0 []) ∷ []
      ]

  -- those under a call are those who were, and whom it enters
  fresh_gone : (us : List Inc) → ((i : Inc) → is_one_of i us ≡ true → i.0 < s.next_inc.0) → (i : Inc) → is_one_of i (under_by s line t us) ≡ true → i.0 < t.next_inc.0
  fresh_gone us f i h = by (enters_call (done_call line)) refl (is_one_of line.inc us) h
    where
      by : (e : Bool) → enters_call (done_call line) ≡ e → (m : Bool)
          → is_one_of i (elim e [ true ↦ elim m [ true ↦ us ++ s.next_inc ∷ [] | false ↦ us ] | false ↦ us ]) ≡ true → i.0 < t.next_inc.0
      by true e true g = on (member_cases us s.next_inc i g)
        where
          on : (is_one_of i us ≡ true) ⊎ (i ≡ s.next_inc) → i.0 < t.next_inc.0
          on (inl a) = rises_above s line t known i.0 (f i a)
          on (inr a) = let n = (enters_turn s line t known.turn e).next in let b = ap (λ (j : Inc). j.0) a in omega (arith, n, b)
      by true e false g = rises_above s line t known i.0 (f i g)
      by false e m g = rises_above s line t known i.0 (f i g)

  fresh_new : (b : Bool) → enters_call (done_call line) ≡ b → (d : Bool)
      → All (λ (p : Followed). (i : Inc) → is_one_of i p.under ≡ true → i.0 < t.next_inc.0)
      (map started (elim b [ true ↦ elim d [ true ↦ record { call = s.next_inc; moment = t.events } ∷ [] | false ↦ [] ] | false ↦ [] ]))
  fresh_new true e true = (λ i h. of i (same_inc i s.next_inc) refl h, tt)
    where
      of : (i : Inc) (b : Bool) → same_inc i s.next_inc ≡ b → (b || false) ≡ true → i.0 < t.next_inc.0
      of i true g h =
          let n = (enters_turn s line t known.turn e).next in
          let a = ap (λ (j : Inc). j.0) (inc_same i s.next_inc g) in
          omega (arith, n, a)
      of i false g h = absurd (true≢false (sym h))
  fresh_new true e false = tt
  fresh_new false e d = tt

  all_fresh : All (λ (p : Followed). (i : Inc) → is_one_of i p.under ≡ true → i.0 < t.next_inc.0) (followed_by s line t ps)
  all_fresh =
      all_append (λ (p : Followed). (i : Inc) → is_one_of i p.under ≡ true → i.0 < t.next_inc.0) (map (goes_on s line t) ps) (map started (new_calls s line t))
      (all_map (λ (p : Followed). (i : Inc) → is_one_of i p.under ≡ true → i.0 < t.next_inc.0) (goes_on s line t) ps
      (all_more (λ (p : Followed). (i : Inc) → is_one_of i p.under ≡ true → i.0 < s.next_inc.0)
      (λ (p : Followed). (i : Inc) → is_one_of i (under_by s line t p.under) ≡ true → i.0 < t.next_inc.0) (λ p f. fresh_gone p.under f) ps fits.fresh))
      (fresh_new (enters_call (done_call line)) refl (incarnation t s.next_inc).confined)

  -- the family of whom the line enters
  entered_told : (d : Bool) (xs : List Begun) (calls : List Beginning) → xs ≡ map told_call calls
      → elim d as (λ x. List Begun) [ true ↦ xs ++ record { call = s.next_inc; moment = s.events + 1 } ∷ [] | false ↦ xs ]
      ≡ map told_call (calls ++ elim d [ true ↦ record { call = s.next_inc; moment = t.events } ∷ [] | false ↦ [] ])
  entered_told true xs calls h =
      ap (λ (ys : List Begun). ys ++ told_call (begun_at s (s.events + 1)) ∷ []) h ∙ ap (λ (n : ℕ). map told_call calls ++ told_call (begun_at s n) ∷ []) (sym next)
      ∙ sym (map-append told_call calls (begun_at s t.events ∷ []))
  entered_told false xs calls h = h ∙ ap (map told_call) (sym (append-nil calls))

  length_more : (xs : List (List Begun)) (x : List Begun) → length (xs ++ x ∷ []) ≡ length xs + 1
  length_more [] x = refl
  length_more (y ∷ xs) x = let h = length_more xs x in omega (arith, h)

  last_at : (xs : List (List Begun)) (x : List Begun) (n : ℕ) → n ≡ length xs → slice_index_or (xs ++ x ∷ []) n [] ≡ x
  last_at [] x n h = rw h refl
  last_at (y ∷ xs) x n h = rw h (last_at xs x (length xs) refl)

  below_next : (n m : ℕ) → n < m + 1 → (n < m) ⊎ (n ≡ m)
  below_next zero zero h = inr refl
  below_next zero (suc m) h = inl (omega arith)
  below_next (suc n) zero h = absurd (omega (arith, h))
  below_next (suc n) (suc m) h = by (below_next n m (omega (arith, h)))
    where
      by : (n < m) ⊎ (n ≡ m) → (suc n < suc m) ⊎ (suc n ≡ suc m)
      by (inl a) = inl (omega (arith, a))
      by (inr e) = inr (ap suc e)

  same_number : (a b : Inc) → a.0 ≡ b.0 → a ≡ b
  same_number a b e = ap (λ (m : ℕ). let z : Inc = record { 0 = m } in z) e

  -- a line that enters a procedure
  entering : enters_call (done_call line) ≡ true → line.inc.0 < s.next_inc.0 → FamiliesFit t (families_for true) (followed_by s line t ps)
  entering e numbered = record {
    count = length_more families x ∙ (let b = fits.count in let n = turned.next in omega (arith, b, n));
    fresh = all_fresh;
    same = λ i h. of i (let n = turned.next in below_next i.0 s.next_inc.0 (omega (arith, h, n)));
  }
    where
      turned : Enters s line t
      turned = enters_turn s line t known.turn e

      x : List Begun
      x = calls_entered s.events (record { inc = s.next_inc; confined = (incarnation t s.next_inc).confined }) (slice_index_or families line.inc.0 [])

      new_is : new_calls s line t ≡ elim (incarnation t s.next_inc).confined [ true ↦ record { call = s.next_inc; moment = t.events } ∷ [] | false ↦ [] ]
      new_is = ap (λ (b : Bool). elim b as (λ x. List Beginning) [
        | true ↦ elim (incarnation t s.next_inc).confined [ true ↦ record { call = s.next_inc; moment = t.events } ∷ [] | false ↦ [] ]
        | false ↦ []
      ]) e

      of : (i : Inc) → (i.0 < s.next_inc.0) ⊎ (i.0 ≡ s.next_inc.0) → slice_index_or (families ++ x ∷ []) i.0 [] ≡ map told_call (calls_with i (followed_by s line t ps))
      of i (inl early) =
          let count = fits.count in
          get_or_append_left families (x ∷ []) [] i.0 (omega (arith, count, early)) ∙ fits.same i early ∙ ap (map told_call) (sym (old_with s line t i early ps))
      of i (inr last) =
          last_at families x i.0 (last ∙ sym fits.count)
          ∙ entered_told (incarnation t s.next_inc).confined (slice_index_or families line.inc.0 []) (calls_with line.inc ps) (fits.same line.inc numbered)
          ∙ ap (λ (bs : List Beginning). map told_call (calls_with line.inc ps ++ bs)) (sym new_is)
          ∙ ap (map told_call) (sym (new_with s line t e ps fits.fresh))
          ∙ ap (λ (j : Inc). map told_call (calls_with j (followed_by s line t ps))) (sym (same_number i s.next_inc last))

  -- one that does not
  staying : enters_call (done_call line) ≡ false → FamiliesFit t (families_for false) (followed_by s line t ps)
  staying e = record {
    count = fits.count ∙ sym (ap (λ (j : Inc). j.0) same);
    fresh = all_fresh;
    same = λ i h. let early : i.0 < s.next_inc.0 = subst (λ (j : Inc). i.0 < j.0) same h in fits.same i early ∙ ap (map told_call) (sym (old_with s line t i early ps));
  }
    where
      same : t.next_inc ≡ s.next_inc
      same = still_next s line t known.turn e

  pub fits_line : (enters_call (done_call line) ≡ true → line.inc.0 < s.next_inc.0) → FamiliesFit t (families_by s.events (doing s line t) families) (followed_by s line t ps)
  fits_line numbered = by (enters_call (done_call line)) refl
    where
      by : (b : Bool) → enters_call (done_call line) ≡ b → FamiliesFit t (families_for b) (followed_by s line t ps)
      by true e = entering e (numbered e)
      by false e = staying e
