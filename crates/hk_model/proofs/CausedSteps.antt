-- Where a call finds what, and which rights it needs at a step: what the causes of its refusals are shown by.
use Rattle.std.proofs.Common.{◌≡◌, ◌<◌, ◌≤◌, ◌⊎◌, ℕ, ◌+◌, List, [], ◌∷◌, ◌++◌, length, Some, Bool, true, false, cond, take, filter, Contains, slice_get}
use Rattle.std.proofs.Common.{refl, sym, ap, ◌∙◌, inl, inr, arith, length-append, append-nil}
use Rattle.std.proofs.Math.Seq.{take-append_seam}
use Rattle.std.proofs.lemmas.Option.{slice_get_within}
use Rattle.hk_model.specs.declared.names.Inc.{Inc}
use Rattle.hk_model.specs.declared.entries.Param.{Param}
use Rattle.hk_model.specs.declared.entries.Entry.{Entry}
use Rattle.hk_model.specs.declared.entries.Entry.TheVariants.{Held}
use Rattle.hk_model.specs.declared.calls.Call.{Call}
use Rattle.hk_rights.specs.Rights.{MODIFY, ENV, UNCONF, has, load_right, env_right, unconf_right, right_numbers, right_table, minus}
use Rattle.hk_model.specs.State.{State, object}
use Rattle.hk_model.specs.Judgments.{Has, Lacks, FirstLacking, rights_of, IsAt, Reduction, Obtains, Leads, end_step}
use Rattle.hk_model.specs.Judgments.Reduction.{unreduced, without_env, without_unconf, without_both}
use Rattle.hk_model.specs.Judgments.Obtains.{obtains_nothing, obtains_template, obtains_capability}
use Rattle.hk_model.specs.Judgments.Leads.{at_slot, one_more}
use Rattle.hk_model.specs.Judgments.FirstLacking.{this, a_later}
use Rattle.hk_model.specs.Needs.{Carried, Env, needs, Finds, on_path, MergesWith, IsNeeded, to_go_on, to_give, at_the_end, to_hand_on, to_merge}
use Rattle.hk_model.proofs.Members.{Has as IsIn, has_from, contains_from}

-- ---- what a path leads to

-- lists that end in one item each and are the same have the same beginning and the same end
same_ends : (xs ys : List ℕ) (x y : ℕ) → xs ++ x ∷ [] ≡ ys ++ y ∷ [] → (xs ≡ ys) × (x ≡ y)
same_ends [] [] x y e = (refl, cc)
same_ends [] (b ∷ []) x y e = absurd (cc)
same_ends [] (b ∷ d ∷ ys) x y e = absurd (cc)
same_ends (a ∷ []) [] x y e = absurd (cc)
same_ends (a ∷ c ∷ xs) [] x y e = absurd (cc)
same_ends (a ∷ xs) (b ∷ ys) x y e =
    let rest : xs ++ x ∷ [] ≡ ys ++ y ∷ [] = cc in
    let first : a ≡ b = cc in
    let ends = same_ends xs ys x y rest in
    (λ i. first i ∷ ends.0 i, ends.1)

-- what is left of rights, by whether UNCONF and ENV are there
left : Bool → Bool → ℕ → ℕ
left true true rights = rights
left true false rights = minus rights ENV
left false true rights = minus rights (MODIFY + UNCONF)
left false false rights = minus rights (MODIFY + ENV + UNCONF)

-- a reduction leaves that
is_left : {by rights : ℕ} (kept : ℕ) → Reduction by rights kept → left (has by unconf_right) (has by env_right) rights ≡ kept
unfolding left
is_left kept (unreduced h g) = rw (h, g) refl
is_left kept (without_env h g) = rw (h, g) refl
is_left kept (without_unconf h g) = rw (h, g) refl
is_left kept (without_both h g) = rw (h, g) refl

-- what is obtained is one entry
one_obtained : {by : ℕ} (next a b : Entry) → Obtains by next a → Obtains by next b → a ≡ b
one_obtained next a b obtains_nothing obtains_nothing = refl
one_obtained next a b (obtains_template h) (obtains_template g) = refl
one_obtained next a b (obtains_capability {cap} {rights} h) (obtains_capability {rights = others} g) =
    let same : rights ≡ others = sym (is_left rights h) ∙ is_left others g in
    λ i. Held (record cap { rights = same i })

module _ {s : State} {inc : Inc} where
  -- a path that leads anywhere has an index
  pub leads_by_some : (path : List ℕ) (entry : Entry) → Leads s inc path entry → 0 < length path
  leads_by_some path entry (at_slot h) = omega arith
  leads_by_some path entry (one_more before at h g i j) = omega (arith, length-append before (at ∷ []))

  -- and leads to one entry
  leads_to_one : (a b : List ℕ) (x y : Entry) → Leads s inc a x → Leads s inc b y → a ≡ b → x ≡ y
  leads_to_one a b x y (at_slot h) (at_slot g) e = let same : Some x ≡ Some y = cc in cc
  leads_to_one a b x y (at_slot {at = m} h) (one_more path at led g i j) e =
      let far = leads_by_some path _ led in
      let lengths = ap length e in
      absurd (omega (arith, length-append path (at ∷ []), far, lengths))
  leads_to_one a b x y (one_more path at led g i j) (at_slot {at = m} h) e =
      let far = leads_by_some path _ led in
      let lengths = ap length e in
      absurd (omega (arith, length-append path (at ∷ []), far, lengths))
  leads_to_one a b x y (one_more path at {cap} {next} led g i j) (one_more others last {cap = cap2} {next = next2} led2 g2 i2 j2) e =
      let ends = same_ends path others at last e in
      let caps = leads_to_one path others (Held cap) (Held cap2) led led2 ends.0 in
      let one : cap ≡ cap2 = cc in
      let index = ends.1 in
      let there : slice_get (object s cap.name).entries at ≡ Some next2 = rw (one, index) i2 in
      let nexts : next ≡ next2 = cc in
      one_obtained next x y j (rw (one, nexts) j2)

  pub one_end : {path : List ℕ} (x y : Entry) → Leads s inc path x → Leads s inc path y → x ≡ y
  one_end {path} x y h g = leads_to_one path path x y h g refl

-- ---- rising lists of rights

-- a list that rises, from this number on
abbrev pub Rises : ℕ → List ℕ → Type 0
Rises from [] = Unit {0}
Rises from (x ∷ xs) = (from ≤ x) × Rises (x + 1) xs

-- a rising list rises from a lower number too, and so does what is left of it by a test
rises_from_less : (less from : ℕ) (xs : List ℕ) → less ≤ from → Rises from xs → Rises less xs
rises_from_less less from [] le h = tt
rises_from_less less from (x ∷ xs) le h = let first = h.0 in (omega (arith, le, first), h.1)

rises_filtered : (p : ℕ → Bool) (from : ℕ) (xs : List ℕ) → Rises from xs → Rises from (filter p xs)
rises_filtered p from [] h = tt
rises_filtered p from (x ∷ xs) h = by (p x) (rises_filtered p (x + 1) xs h.1)
  where
    by : (b : Bool) → Rises (x + 1) (filter p xs) → Rises from (cond b (x ∷ filter p xs) (filter p xs))
    by true later = (h.0, later)
    by false later = let first = h.0 in rises_from_less from (x + 1) (filter p xs) (omega (arith, first)) later

-- the numbers of the rights rise
numbers_rise : Rises 0 right_numbers
unfolding right_numbers right_table
numbers_rise = omega arith

-- the rights of a set rise
pub rights_rise : (set : ℕ) → Rises 0 (rights_of set)
rights_rise set = rises_filtered (has set) 0 right_numbers numbers_rise

-- no item of a list that rises is below where it begins
above_first : (from n : ℕ) (xs : List ℕ) → Rises from xs → IsIn xs n → from ≤ n
above_first from n [] h i = absurd i
above_first from n (x ∷ xs) h (inl e) = let first = h.0 in omega (arith, first, e)
above_first from n (x ∷ xs) h (inr i) = let first = h.0 in let later = above_first (x + 1) n xs h.1 i in omega (arith, first, later)

-- where a right is the first that is missing of a list that rises, each lower one of the list is there
pub lower_had : (rights from right lower : ℕ) (xs : List ℕ) → Rises from xs → FirstLacking rights xs right → Contains xs lower → lower < right → Has rights lower
lower_had rights from right lower xs rise lacking within less = go from xs rise lacking (has_from xs lower within)
  where
    go : (from : ℕ) (xs : List ℕ) → Rises from xs → FirstLacking rights xs right → IsIn xs lower → Has rights lower
    go from [] h f i = absurd i
    go from (x ∷ xs) h (this g) (inl e) = absurd (omega (arith, less, e))
    go from (x ∷ xs) h (this g) (inr i) = let later = above_first (x + 1) lower xs h.1 i in absurd (omega (arith, less, later))
    go from (x ∷ xs) h (a_later g f) (inl e) = rw (← e) g
    go from (x ∷ xs) h (a_later g f) (inr i) = go (x + 1) xs h.1 f i

-- the first right that is missing is one of the list
pub is_in_list : (rights right : ℕ) (xs : List ℕ) → FirstLacking rights xs right → Lacks rights right × Contains xs right
is_in_list rights right xs h = let g = go xs h in (g.0, contains_from xs right g.1)
  where
    go : (xs : List ℕ) → FirstLacking rights xs right → Lacks rights right × IsIn xs right
    go [] h = elim h [ ]
    go (x ∷ xs) (this g) = (g, inl refl)
    go (x ∷ xs) (a_later g f) = let later = go xs f in (later.0, inr later.1)

-- ---- what a call finds, and needs, at a step

-- what stands at an index of a list stands there in a longer one
at_length : {A : Type 0} (xs more : List A) (x : A) → IsAt ((xs ++ x ∷ []) ++ more) (length xs) x
at_length [] more x = refl
at_length (y ∷ xs) more x = at_length xs more x

module _ (s : State) (inc : Inc) where
  -- the beginning of a call's path
  take_beginning : (path more : List ℕ) → 0 < length path → take (end_step path + 1) (path ++ more) ≡ path
  take_beginning path more far = let steps : end_step path + 1 ≡ length path = omega (arith, far) in rw steps (take-append_seam path more)

  -- where the beginning leads, by what the call's path begins with
  pub leads_on : (path whole more : List ℕ) {entry : Entry} → whole ≡ path ++ more → Leads s inc path entry → Leads s inc (take (end_step path + 1) whole) entry
  leads_on path whole more {entry} e led = rw (e, take_beginning path more (leads_by_some path entry led)) led

  -- a call finds at the last step of a path's beginning what that leads to
  pub found : {c : Call} (path more : List ℕ) {entry : Entry} → (needs c).path ≡ path ++ more → Leads s inc path entry → Finds s inc c (end_step path) entry
  found {c} path more {entry} e led =
      let far = leads_by_some path entry led in
      let lengths = ap length e in
      on_path (end_step path) (omega (arith, far, lengths, length-append path more)) (leads_on path (needs c).path more e led)

  -- and at the last step of its whole path what that leads to
  pub found_end : {c : Call} {entry : Entry} → Leads s inc (needs c).path entry → Finds s inc c (end_step (needs c).path) entry
  found_end {c} led = found (needs c).path [] (sym (append-nil (needs c).path)) led

  -- what comes behind the beginning of a path
  pub next_at : (path more whole : List ℕ) (at : ℕ) → whole ≡ (path ++ at ∷ []) ++ more → IsAt whole (length path) at
  next_at path more whole at e = rw e (at_length path more at)

  -- at a step before the last of a path a call needs LOAD and ENV at most
  pub needed_before : {c : Call} (step right : ℕ) → IsNeeded s inc c step right → step + 1 < length (needs c).path → (right ≡ load_right) ⊎ (right ≡ env_right)
  needed_before step right (to_go_on step2 lt) before = inl refl
  needed_before step right (to_give step2 at i led j) before = inr refl
  needed_before {c} step right (at_the_end i) before = absurd (omega (arith, before))
  needed_before step right (to_hand_on place i st) before = absurd (omega (arith, before))
  needed_before step right (to_merge place m i) before = absurd (omega (arith, before))

  -- at the last one it needs the rights of its row
  pub needed_end : {c : Call} (step right : ℕ) → IsNeeded s inc c step right → 0 < length (needs c).path → step ≡ end_step (needs c).path
      → Contains (needs c).rights right
  needed_end step right (to_go_on step2 lt) far e = absurd (omega (arith, lt, far, e))
  needed_end {c} step right (to_give step2 at i led j) far e =
      let within = slice_get_within (needs c).path (step + 1) at i in absurd (omega (arith, within, far, e))
  needed_end step right (at_the_end i) far e = i
  needed_end step right (to_hand_on place i st) far e = absurd (omega (arith, far, e))
  needed_end step right (to_merge place m i) far e = absurd (omega (arith, far, e))

  -- ENV is needed of what the slot at this place hands on
  abbrev pub HandsOn : Call → ℕ → Type 0
  HandsOn c place = (slot : ℕ) × IsAt (needs c).behind place (Carried slot Env)

  -- a right that the template of this place checks
  abbrev pub MergesIt : Call → ℕ → ℕ → Type 0
  MergesIt c place right = (form : Param) × (MergesWith s inc c place form × Contains (rights_of form.check) right)

  -- behind it what is handed on needs ENV, and what is merged what its template checks
  pub needed_behind : {c : Call} (place step right : ℕ) → IsNeeded s inc c step right → step ≡ length (needs c).path + place
      → ((needs c).path ≡ [] → (needs c).rights ≡ []) → ((right ≡ env_right) × HandsOn c place) ⊎ MergesIt c place right
  needed_behind place step right (to_go_on step2 lt) e none = absurd (omega (arith, lt, e))
  needed_behind {c} place step right (to_give step2 at i led j) e none =
      let within = slice_get_within (needs c).path (step + 1) at i in absurd (omega (arith, within, e))
  needed_behind {c} place step right (at_the_end i) e none = absurd (by (needs c).path refl)
    where
      by : (path : List ℕ) → (needs c).path ≡ path → ⊥
      by [] f = let row = none f in let within : Contains [] right = rw row at i in let lt = within.1 in omega (arith, lt)
      by (x ∷ xs) f = let lengths = ap length f in omega (arith, lengths, e)
  needed_behind {c} place step right (to_hand_on other {slot} i st) e none = let same : place ≡ other = omega (arith, e) in inl (refl, (slot, rw same i))
  needed_behind {c} place step right (to_merge other {form = form} m i) e none = let same : place ≡ other = omega (arith, e) in inr (form, (rw same m, i))
