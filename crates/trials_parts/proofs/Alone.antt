-- One object that stands alone in a table, and its counts.
use Rattle.std.proofs.Common.{◌≡◌, ◌≢◌, ℕ, ◌+◌, ◌<◌, ◌≤◌, List, [], ◌∷◌, ◌++◌, length, get_or, set, replicate, Option, Some, None, IsSome, refl, sym, ap, ◌∙◌, subst, arith}
use Rattle.std.proofs.Common.{⊎_elim, option_map, get_or-set_same, get_or-set_other}
use Rattle.std.proofs.lemmas.Bool.{cases_eq, cases_lt}
use Rattle.std.proofs.lemmas.List.{get_or-replicate, length-replicate}
use Rattle.hk_model.specs.declared.names.Name.{Name}
use Rattle.hk_model.specs.declared.entries.Cap.{Cap}
use Rattle.hk_model.specs.declared.entries.Entry.{Entry}
use Rattle.hk_model.specs.declared.entries.Entry.TheVariants.{Held}
use Rattle.hk_objects.specs.declared.body.Body.{Body}
use Rattle.hk_objects.specs.Shelf.{new_body}
use Rattle.hk_objects.specs.Slots.{place, name_at, change, AreApart}
use Rattle.hk_objects.proofs.Standing.{name_at_change, within_some}
use Rattle.hk_reclaim.specs.Naming.{times, names_in, namings}
use Rattle.hk_reclaim.specs.Tally.{Tally, raised, lowered, released, due, owing, AreCounted}
use Rattle.hk_reclaim.proofs.Counting.{times_none, times-cons, due_same, due_other, counted_same, namer}
use Rattle.hk_reclaim.proofs.Keeping.{namings_set, release_outside_counted}
use Rattle.hk_reclaim.proofs.Settling.{name_of_some, some_name}

-- what stands in the slots of a table
abbrev pub Slots : Type 0
Slots = List (Option (Name × Body))

-- ---- nothing is counted yet

pub none_yet : (m k : ℕ) (xs : List ℕ) → xs ≡ replicate m 0 → k < m → get_or xs k 0 ≡ 0
none_yet m k xs is low = ap (λ (ys : List ℕ). get_or ys k 0) is ∙ get_or-replicate m k 0 0 low

pub low_in : (m k : ℕ) (xs : List ℕ) → xs ≡ replicate m 0 → k < m → k < length xs
low_in m k xs is low = let long : length xs ≡ m = ap (λ (ys : List ℕ). length ys) is ∙ length-replicate {A = ℕ} m 0 in omega (arith, long, low)

pub one_then : (m k : ℕ) (xs : List ℕ) → xs ≡ replicate m 0 → k < m → get_or (raised xs k) k 0 ≡ 1
one_then m k xs is low =
    get_or-set_same xs k (get_or xs k 0 + 1) 0 (low_in m k xs is low) ∙ ap (λ (j : ℕ). j + 1) (none_yet m k xs is low)

-- where nothing stands nothing is named
pub nothing_named : (ps : Slots) (n : Name) → ((k : ℕ) → place ps k ≡ None) → namings ps n ≡ 0
nothing_named ps n none = ⊎_elim
    (λ (some : 0 < namings ps n).
    let w = namer ps n some in
    let z : times n (names_in (place ps w.0)) ≡ 0 = ap (λ (p : Option (Name × Body)). times n (names_in p)) (none w.0) ∙ times_none n in
    absurd (let h : 0 < times n (names_in (place ps w.0)) = w.1 in omega (arith, h, z)))
    (λ (no : namings ps n ≤ 0). omega (arith, no))
    (cases_lt 0 (namings ps n))

-- ---- what is owed

-- a name that no slot has counts nowhere
pub nowhere_counted : (ps : Slots) (owed : Name → ℕ) (t : Tally) (x : Name) → ((k : ℕ) → name_at ps k ≡ Some x → ⊥) → AreCounted ps owed t → AreCounted ps (owing owed (x ∷ [])) t
nowhere_counted ps owed t x none h = record {
  sizes = h.sizes;
  room = h.room;
  totals = λ k. h.totals k ∙ ap (λ (m : ℕ). get_or t.outside k 0 + m)
      (due_same owed (owing owed []) (name_at ps k) (λ n. let z : times n [] ≡ 0 = times_none n in omega (arith, z))
      ∙ sym (due_other owed x [] (name_at ps k) (none k)));
  pending = h.pending;
}

-- counts depend on the names in the slots alone
counted_renamed : (ps qs : Slots) (owed : Name → ℕ) (t : Tally) → ((k : ℕ) → name_at qs k ≡ name_at ps k) → AreCounted ps owed t → AreCounted qs owed t
counted_renamed ps qs owed t same h = record {
  sizes = h.sizes;
  room = λ k some.
      let w = some_name (place qs k) some in
      h.room k (name_of_some (place ps k) w.0 (sym (same k) ∙ w.1));
  totals = λ k. h.totals k ∙ ap (λ (p : Option Name). get_or t.outside k 0 + due owed p) (sym (same k));
  pending = λ k. (λ e. let w = (h.pending k).0 e in (w.0, same k ∙ w.1, w.2, w.3), λ w. (h.pending k).1 (w.0, sym (same k) ∙ w.1, w.2, w.3));
}

-- ---- the object comes, and none has the name of its type

module _ (ps : Slots) (s : ℕ) (n of : Name) (none : (k : ℕ) → place ps k ≡ None) (low : s < length ps) (other : n ≢ of) where
  abbrev came : Slots
  came = set ps s (Some (n, new_body of [] []))

  pub came_from : (qs : Slots) (words : List ℕ) (entries : List Entry) → qs ≡ set ps s (Some (n, new_body of words entries)) → words ≡ [] → entries ≡ [] → qs ≡ came
  came_from qs words entries is no_words no_entries =
      is ∙ ap (λ (ws : List ℕ). set ps s (Some (n, new_body of ws entries))) no_words ∙ ap (λ (es : List Entry). set ps s (Some (n, new_body of [] es))) no_entries

  pub came_there : place came s ≡ Some (n, new_body of [] [])
  came_there = get_or-set_same ps s (Some (n, new_body of [] [])) None low

  only_there : (k : ℕ) (m : Name) → name_at came k ≡ Some m → k ≡ s
  only_there k m named = ⊎_elim
      (λ (same : k ≡ s). same)
      (λ (ne : k ≢ s).
      let e : None ≡ Some m = sym (ap (option_map (λ (e : Name × Body). e.0)) (get_or-set_other ps s k (Some (n, new_body of [] [])) None ne ∙ none k)) ∙ named in
      absurd (cc))
      (cases_eq k s)

  pub came_apart : AreApart came
  came_apart i j m here there = only_there i m here ∙ sym (only_there j m there)

  unnamed : (k : ℕ) → name_at came k ≡ Some of → ⊥
  unnamed k named =
      let e : Some n ≡ Some of = sym (ap (name_at came) (only_there k of named) ∙ ap (option_map (λ (e : Name × Body). e.0)) came_there) ∙ named in
      other (cc)

  pub object_counted : (t : Tally) → AreCounted came (namings ps) t → AreCounted came (namings came) t
  object_counted t h =
      counted_same came (owing (namings ps) (of ∷ [])) (namings came) t
      (λ m.
      let w = namings_set ps s (Some (n, new_body of [] [])) m low in
      let a : times m (names_in (place ps s)) ≡ 0 = ap (λ (p : Option (Name × Body)). times m (names_in p)) (none s) ∙ times_none m in
      omega (arith, w, a)) (nowhere_counted came (namings ps) t of unnamed h)

-- ---- the object names itself

module _ (ps : Slots) (s : ℕ) (n of : Name) (cap : Cap) (here : place ps s ≡ Some (n, new_body of [] [])) where
  abbrev ring : Slots
  ring = change ps s (λ (body : Body). record body { entries = body.entries ++ Held cap ∷ [] })

  abbrev itself : Name × Body
  itself = (n, record (new_body of [] []) { entries = Held cap ∷ [] })

  ring_is : ring ≡ set ps s (Some itself)
  ring_is = ap (λ (p : Option (Name × Body)). set ps s (option_map (λ (x : Name × Body). (x.0, record x.1 { entries = x.1.entries ++ Held cap ∷ [] })) p)) here

  ring_namings : (m : Name) → namings ps m + times m (cap.name ∷ []) ≡ namings ring m
  ring_namings m =
      let low : s < length ps = within_some ps s (subst (λ (p : Option (Name × Body)). IsSome p) (sym here) refl) in
      let w = namings_set ps s (Some itself) m low in
      let a : namings ring m ≡ namings (set ps s (Some itself)) m = ap (λ (qs : Slots). namings qs m) ring_is in
      let b : times m (names_in (place ps s)) ≡ times m (of ∷ []) = ap (λ (p : Option (Name × Body)). times m (names_in p)) here in
      let c = times-cons m of (cap.name ∷ []) in
      let d = times-cons m of [] in
      let z = times_none m in
      omega (arith, w, a, b, c, d, z)

  pub ring_counted : (t : Tally) → AreCounted ps (owing (namings ps) (cap.name ∷ [])) t → AreCounted ring (namings ring) t
  ring_counted t h =
      counted_same ring (owing (namings ps) (cap.name ∷ [])) (namings ring) t ring_namings
      (counted_renamed ps ring (owing (namings ps) (cap.name ∷ [])) t (name_at_change ps s (λ (body : Body). record body { entries = body.entries ++ Held cap ∷ [] })) h)

-- ---- the object is named from outside no longer

pub released_counted : (ps : Slots) (t u : Tally) (s : ℕ) (n : Name) → name_at ps s ≡ Some n → s < length t.total → get_or t.outside s 0 ≡ 1 → AreCounted ps (namings ps) t
    → u ≡ record (released t s n) { outside = lowered t.outside s } → AreCounted ps (namings ps) u
released_counted ps t u s n here low one h is =
    subst (λ (v : Tally). AreCounted ps (namings ps) v) (sym is) (release_outside_counted ps (namings ps) t s n here low (omega (arith, one)) h)
