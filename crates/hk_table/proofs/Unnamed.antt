-- What no object has as its name is named nowhere, where whatever is named stands.
use Rattle.std.proofs.Common.{◌≡◌, ℕ, ◌<◌, ◌≤◌, true, List, [], ◌∷◌, Option, Some, None, refl, sym, ap, ◌∙◌, subst, arith, ⊎_elim, option_map}
use Rattle.std.specs.Prelude.{filter}
use Rattle.std.proofs.lemmas.Bool.{cases_lt}
use Rattle.std.proofs.lemmas.Bool.Decides.{nat_tests}
use Rattle.std.proofs.lemmas.List.Folds.{list_any-append}
use Rattle.hk_model.specs.declared.names.Name.{Name}
use Rattle.hk_model.specs.declared.objects.Object.{Object}
use Rattle.hk_model.specs.declared.objects.Process.{Process}
use Rattle.hk_model.specs.State.{State, same_name}
use Rattle.hk_model.specs.Keeping.{outer_names, object_names, names_with, is_among, is_opening, are_supporting}
use Rattle.std.specs.List.{flat_map}
use Rattle.hk_objects.specs.declared.body.Body.{Body}
use Rattle.hk_objects.specs.Shelf.{Shelf}
use Rattle.hk_objects.specs.Slots.{place, name_at, AreApart}
use Rattle.hk_queues.specs.Queued.{Queued}
use Rattle.hk_reclaim.specs.Naming.{times, names_in, namings}
use Rattle.hk_reclaim.specs.Tally.{Tally}
use Rattle.hk_reclaim.proofs.Counting.{times_none, namer}
use Rattle.hk_table.specs.Settled.{Tells, outside_namings}
use Rattle.hk_table.specs.Stacked.{Stacked, AreNumbered}
use Rattle.hk_table.specs.Told.{AreTold, AllNamedStand}
use Rattle.hk_table.proofs.FrameSums.{outside_named}
use Rattle.hk_table.proofs.KeptMeets.{or_left, or_right, any_times, at_stands, member_to}
use Rattle.hk_table.proofs.Opens.{told}

-- the counts of a table are those of the state that it tells
pub tells_told : (o : Shelf) (q : Queued) (ps : List Process) (st : Stacked) (first : Name) (events limit : ℕ) (t : Tally) → AreNumbered st.stacks st.next
    → AreTold o st.stacks ps first t → Tells (told o q ps st first events limit) o.slots q.waiting t
tells_told o q ps st first events limit t numbered h = record {
  objects = refl;
  first_new = sym h.begins;
  outside = λ k n named made. h.held.outside k n named made ∙ sym (outside_named n (told o q ps st first events limit) st.stacks st.next numbered refl);
}

all_members : (es : List (Name × Object)) → filter (λ (e : Name × Object). true) es ≡ es
all_members [] = refl
all_members (e ∷ es) = ap (λ (rest : List (Name × Object)). e ∷ rest) (all_members es)

module _ (o : Shelf) (q : Queued) (ps : List Process) (st : Stacked) (first : Name) (events limit : ℕ) (t : Tally) (numbered : AreNumbered st.stacks st.next)
    (h : AreTold o st.stacks ps first t) (apart : AreApart o.slots) (n : Name) (absent : (k : ℕ) → name_at o.slots k ≡ Some n → ⊥)
    (named : AllNamedStand (told o q ps st first events limit)) where
  abbrev state : State
  state = told o q ps st first events limit

  tells : Tells state o.slots q.waiting t
  tells = tells_told o q ps st first events limit t numbered h

  unsupported : are_supporting state state.objects n ≡ true → ⊥
  unsupported supported = let w = at_stands state o.slots q.waiting t apart tells n (named n supported) in absent w.0 w.1

  -- nor is it a name of the opening, whose objects stand
  pub unopened : first.0 ≤ n.0
  unopened =
      ⊎_elim
      (λ (opens : n.0 < first.0).
      let e : is_opening state n ≡ true = grind (arith, nat_tests) in
      absurd (unsupported (or_left (is_opening state n) (is_among n (names_with state state.objects)) e)))
      (λ (late : first.0 ≤ n.0). late)
      (cases_lt n.0 first.0)

  pub unnamed_outside : outside_namings n st.stacks ps ≡ 0
  unnamed_outside =
      ⊎_elim
      (λ (some : 0 < outside_namings n st.stacks ps).
      let there : 0 < times n (outer_names state) = let e = outside_named n state st.stacks st.next numbered refl in omega (arith, e, some) in
      absurd (unsupported (or_right (is_opening state n) (is_among n (names_with state state.objects))
      (list_any-append (same_name n) (outer_names state) (flat_map (λ (e : Name × Object). object_names e.1) state.objects)
      ∙ or_left (is_among n (outer_names state)) (is_among n (flat_map (λ (e : Name × Object). object_names e.1) state.objects)) (any_times n (outer_names state) there)))))
      (λ (none : outside_namings n st.stacks ps ≤ 0). omega (arith, none))
      (cases_lt 0 (outside_namings n st.stacks ps))

  namer_named : (p : Option (Name × Body)) → 0 < times n (names_in p) → (m : Name) × (option_map (λ (e : Name × Body). e.0) p ≡ Some m)
  namer_named None some = let z = times_none n in absurd (omega (arith, z, some))
  namer_named (Some e) some = (e.0, refl)

  pub unnamed_inside : namings o.slots n ≡ 0
  unnamed_inside =
      ⊎_elim
      (λ (some : 0 < namings o.slots n).
      let w = namer o.slots n some in
      let m = namer_named (place o.slots w.0) w.1 in
      let supported : are_supporting state (filter (λ (e : Name × Object). true) state.objects) n ≡ true =
      member_to state o.slots q.waiting t apart tells (λ x. true) n (w.0, m.0, m.1, refl, w.1) in
      absurd (unsupported (subst (λ (es : List (Name × Object)). are_supporting state es n ≡ true) (all_members state.objects) supported)))
      (λ (none : namings o.slots n ≤ 0). omega (arith, none))
      (cases_lt 0 (namings o.slots n))
