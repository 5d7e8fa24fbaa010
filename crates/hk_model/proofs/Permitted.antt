-- A call that is answered had every right that it needs, by cases on the way in which it is answered.
use Rattle.std.proofs.Common.{◌≡◌, ◌<◌, ℕ, zero, suc, ◌+◌, ◌⊎◌, inl, inr, List, [], ◌∷◌, ◌++◌, length, map, take, Option, Some, refl, sym, ◌∙◌, ap}
use Rattle.std.proofs.Common.{arith, cond, subst, length-append, take_all}
use Rattle.std.proofs.lemmas.List.{take-append-le, take_at}
use Rattle.std.proofs.lemmas.List.Elements.{All-contains}
use Rattle.std.proofs.lemmas.Option.{slice_get_within}
use Rattle.std.specs.Prelude.{Contains, slice_get}
use Rattle.hk_model.specs.declared.names.Name.{Name}
use Rattle.hk_model.specs.declared.names.Inc.{Inc}
use Rattle.hk_model.specs.declared.names.Proc.{Proc}
use Rattle.hk_model.specs.declared.names.Slot.{Slot}
use Rattle.hk_model.specs.declared.entries.Cap.{Cap}
use Rattle.hk_model.specs.declared.entries.Param.{Param}
use Rattle.hk_model.specs.declared.entries.Template.{Template}
use Rattle.hk_model.specs.declared.entries.Template.TheVariants.{Amplify}
use Rattle.hk_model.specs.declared.entries.Entry.{Entry}
use Rattle.hk_model.specs.declared.entries.Entry.TheVariants.{Empty, Held, Form}
use Rattle.hk_model.specs.declared.calls.Call.{Call}
use Rattle.hk_model.specs.declared.calls.Call.TheVariants as call
use Rattle.hk_model.specs.declared.calls.Reply.{Reply}
use Rattle.hk_rights.specs.Rights.{MODIFY, ENV, UNCONF, has, minus, load_right, env_right, unconf_right}
use Rattle.hk_model.specs.State.{State, object}
use Rattle.hk_model.specs.Judgments.{Has, HasEach, rights_of, IsAt, Stands, Reduction, unreduced, without_env, without_unconf, without_both}
use Rattle.hk_model.specs.Judgments.{Obtains, obtains_nothing, obtains_template, obtains_capability, Leads, at_slot, one_more, end_step, Target}
use Rattle.hk_model.specs.Judgments.{IsStorable, stores_template, stores_capability, Merges, by_its_type, by_any_type, Passes, passes_none, passes_more}
use Rattle.hk_model.specs.Does as does
use Rattle.hk_model.specs.Does.{Answers}
use Rattle.hk_model.specs.Needs.{needs, Env, Checked, Behind, Carried, Into, on_path, in_slot, MergesWith, with_template, with_parameter}
use Rattle.hk_model.specs.Needs.{to_go_on, to_give, at_the_end, to_hand_on, to_merge, HasThere, IsPermitted}

-- ---- lists

module _ {X : Type 0} where
  -- what stands in the front part of a list
  get_front : (xs ys : List X) (i : ℕ) → i < length xs → slice_get (xs ++ ys) i ≡ slice_get xs i
  get_front [] ys i h = absurd (omega arith)
  get_front (x ∷ xs) ys zero h = refl
  get_front (x ∷ xs) ys (suc i) h = get_front xs ys i (omega arith)

  -- the last item of a list
  get_last : (xs : List X) (x : X) → slice_get (xs ++ x ∷ []) (length xs) ≡ Some x
  get_last [] x = refl
  get_last (y ∷ xs) x = get_last xs x

  -- lists with a last item that are equal have equal fronts and equal last items
  parts_equal : (xs ys : List X) (x y : X) → xs ++ x ∷ [] ≡ ys ++ y ∷ [] → (xs ≡ ys) × (x ≡ y)
  parts_equal [] [] x y e = (refl, cc)
  parts_equal [] (b ∷ []) x y e = absurd (cc)
  parts_equal [] (b ∷ (d ∷ ys)) x y e = absurd (cc)
  parts_equal (a ∷ []) [] x y e = absurd (cc)
  parts_equal (a ∷ (d ∷ xs)) [] x y e = absurd (cc)
  parts_equal (a ∷ xs) (b ∷ ys) x y e =
      let rest : xs ++ x ∷ [] ≡ ys ++ y ∷ [] = cc in
      let same = parts_equal xs ys x y rest in
      let front : xs ≡ ys = same.0 in
      let first : a ≡ b = cc in
      (cc, same.1)

  -- what holds of each item, by recursion on the list
  abbrev Each : (X → Type 0) → List X → Type 0
  Each P [] = Unit {0}
  Each P (x ∷ xs) = P x × Each P xs

  -- what holds of each item holds of the one at an index
  each_at : (P : X → Type 0) (xs : List X) (i : ℕ) (x : X) → Each P xs → IsAt xs i x → P x
  each_at P [] i x h e = absurd (cc)
  each_at P (y ∷ xs) zero x h e = let same : y ≡ x = cc in subst P same h.0
  each_at P (y ∷ xs) (suc i) x h e = each_at P xs i x h.1 e

  -- what holds of each item of two lists holds of each of them together
  each_both : (P : X → Type 0) (xs ys : List X) → Each P xs → Each P ys → Each P (xs ++ ys)
  each_both P [] ys h g = g
  each_both P (x ∷ xs) ys h g = (h.0, each_both P xs ys h.1 g)

-- ---- walks

-- the rights that are left, by the two that decide it
abbrev left_rights : ℕ → ℕ → ℕ
left_rights by rights =
    cond (has by unconf_right) (cond (has by env_right) rights (minus rights ENV))
    (cond (has by env_right) (minus rights (MODIFY + UNCONF)) (minus rights (MODIFY + ENV + UNCONF)))

-- a reduction leaves no other rights
reduction_is : {by rights left : ℕ} → Reduction by rights left → left ≡ left_rights by rights
reduction_is (unreduced u e) = rw (u, e) refl
reduction_is (without_env u e) = rw (u, e) refl
reduction_is (without_unconf u e) = rw (u, e) refl
reduction_is (without_both u e) = rw (u, e) refl

-- what is obtained is fixed by what stands there
given : ℕ → Entry → Entry
given by Empty = Empty
given by (Form form) = Form form
given by (Held cap) = Held (record cap { rights = left_rights by cap.rights })

-- nothing else is obtained
obtains_given : {by : ℕ} {next entry : Entry} → Obtains by next entry → entry ≡ given by next
unfolding given
obtains_given obtains_nothing = refl
obtains_given (obtains_template h) = refl
obtains_given (obtains_capability {cap = cap} r) = ap (λ n. Held (record cap { rights = n })) (reduction_is r)

-- a template is obtained through ENV only
obtains_form : {by : ℕ} {next entry : Entry} {form : Template} → Obtains by next entry → next ≡ Form form → Has by env_right
obtains_form obtains_nothing e = absurd (cc)
obtains_form (obtains_template h) e = h
obtains_form (obtains_capability r) e = absurd (cc)

-- the hop from a step of a path to the next: LOAD is there, and ENV where a template is next
record Hop (s : State) (inc : Inc) (path : List ℕ) (step : ℕ) : Type 0 where
  cap : Cap
  leads : Leads s inc (take (step + 1) path) (Held cap)
  load : Has cap.rights load_right
  env : (at : ℕ) (form : Template) → IsAt path (step + 1) at → IsAt (object s cap.name).entries at (Form form) → Has cap.rights env_right

module _ (s : State) (inc : Inc) where
  -- a path that leads somewhere has a step
  pub leads_nonempty : {path : List ℕ} {entry : Entry} → Leads s inc path entry → 0 < length path
  leads_nonempty (at_slot h) = omega arith
  leads_nonempty (one_more path at l load next ob) = rw length-append (omega arith)

  -- a path leads to one entry
  pub leads_one : {path other : List ℕ} {entry found : Entry} → Leads s inc path entry → Leads s inc other found → path ≡ other → entry ≡ found
  leads_one (at_slot {at = a} h) (at_slot {at = b} g) e = let same : a ≡ b = cc in cc
  leads_one (at_slot h) (one_more other at l load next ob) e = absurd (omega (arith, leads_nonempty l, rw length-append at (ap length e)))
  leads_one (one_more path at l load next ob) (at_slot g) e = absurd (omega (arith, leads_nonempty l, rw length-append at (ap length e)))
  leads_one {entry = entry} {found = found} (one_more path at {cap = a} {next = x} l load next ob) (one_more other on {cap = b} {next = y} m more there got) e =
      let parts = parts_equal path other at on e in
      let same = leads_one l m parts.0 in
      let step : at ≡ on = parts.1 in
      let caps : a ≡ b = cc in
      let nexts : x ≡ y = cc in
      let first : entry ≡ given a.rights x = obtains_given ob in
      let second : found ≡ given b.rights y = obtains_given got in
      cc

  -- a path that leads somewhere has a hop at each step but the last
  hop : {path : List ℕ} {entry : Entry} → Leads s inc path entry → (step : ℕ) → step + 1 < length path → Hop s inc path step
  hop (at_slot h) step lt = absurd (omega arith)
  hop (one_more path at {cap = from} {next = x} l load next ob) step lt =
      let low : step + 1 < length path + 1 = rw length-append at lt in
      by (grind arith) (hop l step)
    where
      by : (step + 1 < length path) ⊎ (length path ≡ step + 1) → (step + 1 < length path → Hop s inc path step) → Hop s inc (path ++ at ∷ []) step
      by (inl below) before =
          let there = before below in
          record {
            cap = there.cap;
            leads = rw (take-append-le (step + 1) path (at ∷ []) (omega (arith, below))) there.leads;
            load = there.load;
            env = λ a form i j. there.env a form (sym (get_front path (at ∷ []) (step + 1) below) ∙ i) j;
          }
      by (inr full) before = record {
        cap = from;
        leads = rw (take_at path (at ∷ []) (step + 1) full) l;
        load = load;
        env = λ a form i j.
            let last : slice_get (path ++ at ∷ []) (step + 1) ≡ Some at = rw full at (get_last path at) in
            let same : at ≡ a = cc in
            let form_there : x ≡ Form form = cc in
            obtains_form ob form_there;
      }

-- ---- calls

-- the calls that merge
abbrev IsMerging : Call → Type 0
IsMerging (call.Merge path from into) = Unit {0}
IsMerging (call.Enter path args into) = Unit {0}
IsMerging _ = ⊥

module _ (s : State) (inc : Inc) where
  -- a capability that is handed on has ENV
  abbrev HandsOn : Behind → Type 0
  HandsOn (Carried slot Env) = (cap : Cap) → Stands s inc slot (Held cap) → Has cap.rights env_right
  HandsOn _ = Unit {0}

  -- what is merged has what its template checks
  abbrev HasChecked : Call → Type 0
  HasChecked c =
      (place right : ℕ) (form : Param) → MergesWith s inc c place form → Contains (rights_of form.check) right
      → HasThere s inc c (length (needs c).path + place) right

  -- no other call merges
  merging_only : {c : Call} {place : ℕ} {form : Param} → MergesWith s inc c place form → IsMerging c
  merging_only (with_template l) = tt
  merging_only (with_parameter l is lt) = tt

  none_checked : (c : Call) → (IsMerging c → ⊥) → HasChecked c
  none_checked c other place right form m h = absurd (other (merging_only m))

  -- a call is permitted if each part of what it needs is there
  by_parts : (c : Call)
      → ((step : ℕ) → step + 1 < length (needs c).path → Hop s inc (needs c).path step)
      → ((right : ℕ) → Contains (needs c).rights right → HasThere s inc c (end_step (needs c).path) right)
      → Each HandsOn (needs c).behind → HasChecked c → IsPermitted s inc c
  by_parts c hops ends hands merges step right (to_go_on n h) =
      let there = hops n h in
      record { cap = there.cap; there = on_path n (omega (arith, h)) there.leads; permits = there.load }
  by_parts c hops ends hands merges step right (to_give n at {cap = cap} {form = form} is l e) =
      let lt : n + 1 < length (needs c).path = slice_get_within (needs c).path (n + 1) at is in
      let there = hops n lt in
      let held = leads_one s inc l there.leads refl in
      let same : cap ≡ there.cap = cc in
      record {
        cap = there.cap;
        there = on_path n (omega (arith, lt)) there.leads;
        permits = there.env at form is (subst (λ (x : Cap). IsAt (object s x.name).entries at (Form form)) same e);
      }
  by_parts c hops ends hands merges step right (at_the_end h) = ends right h
  by_parts c hops ends hands merges step right (to_hand_on place {slot = slot} {cap = cap} is stands) = record {
    cap = cap;
    there = in_slot place is stands;
    permits = each_at HandsOn (needs c).behind place (Carried slot Env) hands is cap stands;
  }
  by_parts c hops ends hands merges step right (to_merge place {form = form} m h) = merges place right form m h

  -- a target has the rights that are needed at the path's end
  ends_at : (c : Call) {types : Name → Type 0} {cap : Cap} → Target s inc (needs c).path types (needs c).rights cap
      → (right : ℕ) → Contains (needs c).rights right → HasThere s inc c (end_step (needs c).path) right
  ends_at c {cap = cap} t right h =
      let some = leads_nonempty s inc t.leads in
      record {
        cap = cap;
        there = on_path (end_step (needs c).path) (omega (arith, some)) (rw (take_all (end_step (needs c).path + 1) (needs c).path (omega (arith, some))) t.leads);
        permits = All-contains (Has cap.rights) (needs c).rights right t.permits h;
      }

  -- of a call with a target
  by_target : (c : Call) {types : Name → Type 0} {cap : Cap} → Target s inc (needs c).path types (needs c).rights cap → Each HandsOn (needs c).behind → HasChecked c
      → IsPermitted s inc c
  by_target c t hands merges = by_parts c (hop s inc t.leads) (ends_at c t) hands merges

  -- no right is needed at the path's end
  none_needed : (c : Call) → (needs c).rights ≡ [] → (right : ℕ) → Contains (needs c).rights right → HasThere s inc c (end_step (needs c).path) right
  none_needed c none right h = let lt : h.0 < length (needs c).rights = h.1 in absurd (omega (arith, lt, ap length none))

  -- of a call that only walks
  by_walk : (c : Call) {entry : Entry} → (needs c).rights ≡ [] → Leads s inc (needs c).path entry → Each HandsOn (needs c).behind → HasChecked c
      → IsPermitted s inc c
  by_walk c none l hands merges = by_parts c (hop s inc l) (none_needed c none) hands merges

  -- of a call without a path
  by_slots : (c : Call) → (needs c).rights ≡ [] → (needs c).path ≡ [] → Each HandsOn (needs c).behind → HasChecked c → IsPermitted s inc c
  by_slots c none short hands merges = by_parts c (λ step lt. absurd (omega (arith, lt, ap length short))) (none_needed c none) hands merges

-- a capability that is stored has ENV
stored_env : {entry : Entry} {cap : Cap} → IsStorable entry → entry ≡ Held cap → Has cap.rights env_right
stored_env stores_template e = absurd (cc)
stored_env {cap = cap} (stores_capability {cap = a} h) e = let same : a ≡ cap = cc in subst (λ (x : Cap). Has x.rights env_right) same h

-- a capability that merges has what the template checks
merges_checks : {cap new : Cap} {of : Name} {form : Param} → Merges cap of form new → HasEach cap.rights (rights_of form.check)
merges_checks (by_its_type h) = h
merges_checks (by_any_type h) = h

-- the argument of a parameter
record Passed (s : State) (inc : Inc) (args : List ℕ) (place : ℕ) (param : Param) : Type 0 where
  slot : ℕ
  cap : Cap
  is : IsAt args place slot
  stands : Stands s inc slot (Held cap)
  checks : HasEach cap.rights (rights_of param.check)

module _ (s : State) (inc : Inc) where
  -- each parameter has its argument
  passes_at : {args : List ℕ} {params : List Param} {caps : List Cap} → Passes s inc args params caps
      → (place : ℕ) (param : Param) → IsAt params place param → Passed s inc args place param
  passes_at passes_none place param e = absurd (cc)
  passes_at (passes_more {slot = slot} {param = first} {cap = cap} stands m rest) zero param e =
      let same : first ≡ param = cc in
      record { slot = slot; cap = cap; is = refl; stands = stands; checks = subst (λ (q : Param). HasEach cap.rights (rights_of q.check)) same (merges_checks m) }
  passes_at (passes_more stands m rest) (suc place) param e =
      let there = passes_at rest place param e in
      record { slot = there.slot; cap = there.cap; is = there.is; stands = there.stands; checks = there.checks }

  -- the place of an argument behind the path
  carried_at : (args : List ℕ) (more : List Behind) (place slot : ℕ) → IsAt args place slot
      → IsAt (map (λ arg. Carried arg Checked) args ++ more) place (Carried slot Checked)
  carried_at [] more place slot e = absurd (cc)
  carried_at (a ∷ args) more zero slot e = let same : a ≡ slot = cc in ap (λ n. Some (Carried n Checked)) same
  carried_at (a ∷ args) more (suc place) slot e = carried_at args more place slot e

  -- arguments are not handed on
  none_handed : (args : List ℕ) → Each (HandsOn s inc) (map (λ arg. Carried arg Checked) args)
  none_handed [] = tt
  none_handed (a ∷ args) = (tt, none_handed args)

  -- the arguments have what the parameters check
  arguments_checked : (path args : List ℕ) (into : Slot) {cap : Cap} {caps : List Cap} → Leads s inc path (Held cap) → Passes s inc args (object s cap.name).params caps
      → HasChecked s inc (call.Enter path args into)
  arguments_checked path args into {cap = cap} l passes place right form (with_parameter {cap = a} m is lt) h =
      let held = leads_one s inc m l refl in
      let same : a ≡ cap = cc in
      let there = passes_at passes place form (subst (λ (x : Cap). IsAt (object s x.name).params place form) same is) in
      record {
        cap = there.cap;
        there = in_slot place (carried_at args (Into into.0 ∷ []) place there.slot there.is) there.stands;
        permits = All-contains (Has there.cap.rights) (rights_of form.check) right there.checks h;
      }

  -- what a Merge merges has what the template checks
  merged_checked : (path : List ℕ) (from into : Slot) (of : Option Name) (check give : ℕ) (cap : Cap)
      → Leads s inc path (Form (Amplify of check give)) → Stands s inc from.0 (Held cap) → HasEach cap.rights (rights_of check)
      → HasChecked s inc (call.Merge path from into)
  merged_checked path from into of check give cap l stands checks place right form (with_template {check = other} m) h =
      let forms = leads_one s inc m l refl in
      let same : other ≡ check = cc in
      record {
        cap = cap;
        there = in_slot 0 refl stands;
        permits = All-contains (Has cap.rights) (rights_of check) right checks (subst (λ n. Contains (rights_of n) right) same h);
      }

-- what is answered was permitted
pub permitted : (s : State) (proc : Proc) (inc : Inc) {c : Call} {reply : Reply} {t : State} → Answers s proc inc c reply t → IsPermitted s inc c
permitted s proc inc {c = c} (does.get t at) = by_target s inc c t (tt, tt) (none_checked s inc c (λ m. m))
permitted s proc inc {c = c} (does.put t at) = by_target s inc c t (tt, tt) (none_checked s inc c (λ m. m))
permitted s proc inc {c = c} (does.add t room) = by_target s inc c t tt (none_checked s inc c (λ m. m))
permitted s proc inc {c = c} (does.count t) = by_target s inc c t tt (none_checked s inc c (λ m. m))
permitted s proc inc {c = c} (does.load_slot i l some) = by_walk s inc c refl l (tt, tt) (none_checked s inc c (λ m. m))
permitted s proc inc {c = c} (does.store i t at stands storable) =
    by_target s inc c t (tt, (λ cap there. stored_env storable (sym stands ∙ there), tt)) (none_checked s inc c (λ m. m))
permitted s proc inc {c = c} (does.append i t stands storable room) =
    by_target s inc c t (λ cap there. stored_env storable (sym stands ∙ there), tt) (none_checked s inc c (λ m. m))
permitted s proc inc {c = c} (does.erase t at) = by_target s inc c t (tt, tt) (none_checked s inc c (λ m. m))
permitted s proc inc {c = c} (does.drop i) = by_slots s inc c refl refl (tt, tt) (none_checked s inc c (λ m. m))
permitted s proc inc {c = c} (does.restrict i stands) = by_slots s inc c refl refl (tt, tt) (none_checked s inc c (λ m. m))
permitted s proc inc {c = c} (does.look l looks) = by_walk s inc c refl l tt (none_checked s inc c (λ m. m))
permitted s proc inc {c = c} (does.make_template i t makes) = by_target s inc c t (tt, tt) (none_checked s inc c (λ m. m))
permitted s proc inc {c = c} (does.create i l can room) = by_walk s inc c refl l (tt, tt) (none_checked s inc c (λ m. m))
permitted s proc inc {c = c} (does.merge {path = path} {from = from} {into = into} {of = of} {check = check} {give = give} {cap = a} i j l stands merges) =
    by_walk s inc c refl l (tt, (tt, tt)) (merged_checked s inc path from into of check give a l stands (merges_checks merges))
permitted s proc inc {c = c} (does.copy i t copies room) = by_target s inc c t (tt, tt) (none_checked s inc c (λ m. m))
permitted s proc inc {c = c} (does.enter {path = path} {args = args} {into = into} i j t passes inherits fits deep) =
    by_target s inc c t
    (each_both (HandsOn s inc) (map (λ arg. Carried arg Checked) args) (Into into.0 ∷ []) (none_handed s inc args) (tt, tt))
    (arguments_checked s inc path args into t.leads passes)
permitted s proc inc {c = c} (does.leave called) = by_slots s inc c refl refl tt (none_checked s inc c (λ m. m))
permitted s proc inc {c = c} (does.leave_with i stands env called) =
    by_slots s inc c refl refl (λ cap there. stored_env (stores_capability env) (sym stands ∙ there), tt) (none_checked s inc c (λ m. m))
permitted s proc inc {c = c} (does.end called) = by_slots s inc c refl refl tt (none_checked s inc c (λ m. m))
permitted s proc inc {c = c} (does.end_with i stands env called) =
    by_slots s inc c refl refl (λ cap there. stored_env (stores_capability env) (sym stands ∙ there), tt) (none_checked s inc c (λ m. m))
permitted s proc inc {c = c} (does.p t some) = by_target s inc c t tt (none_checked s inc c (λ m. m))
permitted s proc inc {c = c} (does.p_waits t none) = by_target s inc c t tt (none_checked s inc c (λ m. m))
permitted s proc inc {c = c} (does.v t none room) = by_target s inc c t tt (none_checked s inc c (λ m. m))
permitted s proc inc {c = c} (does.v_wakes t some) = by_target s inc c t tt (none_checked s inc c (λ m. m))
permitted s proc inc {c = c} does.yield = by_slots s inc c refl refl tt (none_checked s inc c (λ m. m))
