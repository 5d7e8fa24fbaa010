-- One more object in the slots of a table.
use Rattle.std.proofs.Common.{◌≡◌, ◌≢◌, ℕ, suc, ◌+◌, ◌<◌, ◌⊎◌, inl, inr, true, List, [], ◌∷◌}
use Rattle.std.proofs.Common.{length, map, set, Option, Some, None, refl, sym, ap, ◌∙◌, subst, arith, ⊎_elim, option_map}
use Rattle.std.proofs.Common.{get_or-set_other}
use Rattle.std.specs.Prelude.{slice_set, slice_index_or}
use Rattle.std.specs.Map.{lookup}
use Rattle.std.specs.Option.{unwrap_or}
use Rattle.std.specs.BTreeMap.{insert_entry}
use Rattle.std.proofs.lemmas.List.{length-map}
use Rattle.std.proofs.lemmas.Bool.{cases_eq}
use Rattle.std.proofs.lemmas.Bool.Decides.{nat_tests}
use Rattle.hk_model.specs.declared.names.Name.{Name}
use Rattle.hk_model.specs.declared.names.Proc.{Proc}
use Rattle.hk_model.specs.declared.entries.Entry.{Entry}
use Rattle.hk_model.specs.declared.objects.Object.{Object}
use Rattle.hk_model.specs.declared.objects.Process.{Process}
use Rattle.hk_model.specs.State.{name_cmp, same_name, object, no_object}
use Rattle.hk_model.specs.Rule.{plain_object, add_beside, has_room}
use Rattle.hk_objects.specs.declared.body.Body.{Body}
use Rattle.hk_objects.specs.Shelf.{Shelf, new_body}
use Rattle.hk_objects.specs.Slots.{standing, place, name_at}
use Rattle.hk_objects.proofs.Standing.{standing_make, lookup-absent, lookup-insert_other}
use Rattle.hk_queues.specs.Queued.{Queued, waiters, is_queued}
use Rattle.hk_walk.specs.Remembered.{Remembered}
use Rattle.hk_walk.specs.Walks.{seen, shown_at, AreRight}
use Rattle.hk_walk.proofs.Kept.{right_grown}
use Rattle.hk_table.specs.Whole.{whole, whole_object, with_waiters}
use Rattle.hk_table.specs.Stacked.{Stacked}
use Rattle.hk_table.specs.Joined.{AreQueued, IsJoined}
use Rattle.hk_table.proofs.Opens.{told}
use Rattle.hk_table.proofs.Whole.{place-whole, name_at-whole, whole-set, whole_unwaited}
use Rattle.hk_table.proofs.EntryLists.{read, standing-read, read-whole}
use Rattle.hk_table.proofs.QueueMoves.{first_queued}

-- as many objects stand in the slots as in the state
pub standing_many : (ps : List (Option (Name × Body))) (ws : List (List Proc)) → length (standing (whole ps ws)) ≡ length (standing ps)
standing_many ps ws =
    let one : map (read (λ (o : Object). o.entries)) (standing (whole ps ws)) ≡ map (read (λ (b : Body). b.entries)) (standing ps) =
    sym (standing-read (λ (o : Object). o.entries) (whole ps ws)) ∙ ap standing (read-whole ps ws) ∙ standing-read (λ (b : Body). b.entries) ps in
    sym (length-map (standing (whole ps ws)) (read (λ (o : Object). o.entries))) ∙ ap (λ (es : List (Name × List Entry)). length es) one
    ∙ length-map (standing ps) (read (λ (b : Body). b.entries))

pub has_place : (ps : List (Option (Name × Body))) (ws : List (List Proc)) → has_room (standing (whole ps ws)) ≡ true → length (standing ps) < 65536
has_place ps ws h = let same = standing_many ps ws in let low : length (standing (whole ps ws)) < 65536 = grind (arith, nat_tests) in omega (arith, same, low)

pub length-whole : (ps : List (Option (Name × Body))) (ws : List (List Proc)) → length (whole ps ws) ≡ length ps
length-whole [] ws = refl
length-whole (p ∷ ps) [] = ap suc (length-whole ps [])
length-whole (p ∷ ps) (x ∷ ws) = ap suc (length-whole ps ws)

-- nobody waits at a slot in which nothing stands
empty_list : (procs : List Proc) → ((p : Proc) → is_queued p procs ≡ true → ⊥) → procs ≡ []
empty_list [] h = refl
empty_list (p ∷ procs) h = absurd (h p (first_queued p procs))

free_waiters : (slots : List (Option (Name × Body))) (q : Queued) (ps : List Process) (s : ℕ) → AreQueued slots q ps → place slots s ≡ None → waiters q s ≡ []
free_waiters slots q ps s h free = empty_list (waiters q s) (λ p in'.
    let w = h.waiting s p in' in
    let e : None ≡ Some w.0 = sym (ap (option_map (λ (e : Name × Body). e.0)) free) ∙ w.1 in cc)

module _ (ps : List (Option (Name × Body))) (s : ℕ) (n : Name) (b : Body) (free : place ps s ≡ None) (low : s < length ps)
    (fresh : (k : ℕ) → name_at ps k ≡ Some n → ⊥) where
  made_objects : (ws : List (List Proc)) → slice_index_or ws s [] ≡ []
      → standing (whole (set ps s (Some (n, b))) ws) ≡ insert_entry name_cmp (standing (whole ps ws)) n (whole_object b [])
  made_objects ws none =
      ap standing (whole-set ps ws s (Some (n, b)) ∙ ap (λ (procs : List Proc). set (whole ps ws) s (Some (n, whole_object b procs))) none)
      ∙ standing_make (whole ps ws) s n (whole_object b []) (place-whole ps ws s ∙ ap (λ (p : Option (Name × Body)). with_waiters p (slice_index_or ws s [])) free)
      (let e = length-whole ps ws in omega (arith, e, low)) (λ k named. fresh k (sym (name_at-whole ps ws k) ∙ named))

  -- walks see one more object
  seen_made : standing (map shown_at (set ps s (Some (n, b)))) ≡ insert_entry name_cmp (standing (map shown_at ps)) n (whole_object b [])
  seen_made =
      ap standing (sym (whole_unwaited (set ps s (Some (n, b))) 0)) ∙ made_objects [] refl
      ∙ ap (λ (qs : List (Option (Name × Object))). insert_entry name_cmp (standing qs) n (whole_object b [])) (whole_unwaited ps 0)

  absent_shown : (m : Name) → m.0 ≡ n.0 → lookup (same_name m) (standing (map shown_at ps)) ≡ None
  absent_shown m same =
      ap (λ (qs : List (Option (Name × Object))). lookup (same_name m) (standing qs)) (sym (whole_unwaited ps 0))
      ∙ lookup-absent (whole ps []) m (λ k named.
      fresh k (sym (name_at-whole ps [] k) ∙ named ∙ ap (λ (x : ℕ). let y : Name = record { 0 = x } in Some y) same))

  pub lists_grown : (m : Name) → ((object (seen ps) m).entries ≡ []) ⊎ ((object (seen ps) m).entries ≡ (object (seen (set ps s (Some (n, b)))) m).entries)
  lists_grown m =
      ⊎_elim (λ (same : m.0 ≡ n.0). inl (ap (λ (o : Option Object). (unwrap_or o no_object).entries) (absent_shown m same)))
      (λ (other : m.0 ≢ n.0).
      inr (sym (ap (λ (o : Option Object). (unwrap_or o no_object).entries)
      (ap (lookup (same_name m)) seen_made ∙ lookup-insert_other n m (whole_object b []) (standing (map shown_at ps)) (λ e. other (sym e))))))
      (cases_eq m.0 n.0)

pub made_joined : (objects new : Shelf) (q : Queued) (ps : List Process) (st : Stacked) (w : Remembered) (s : ℕ) (n : Name) (b : Body) → place objects.slots s ≡ None
    → s < length objects.slots → ((k : ℕ) → name_at objects.slots k ≡ Some n → ⊥) → IsJoined objects q ps st w → new.slots ≡ slice_set objects.slots s (Some (n, b))
    → IsJoined new q ps st w
made_joined objects new q ps st w s n b free low fresh h e = record {
  queued = record {
    lists = h.queued.lists;
    all = h.queued.all;
    ready = h.queued.ready;
    waiting = λ k p in'.
        let v = h.queued.waiting k p in' in
        let other : k ≢ s =
        λ same. let f : None ≡ Some v.0 = sym (ap (option_map (λ (e : Name × Body). e.0)) free) ∙ ap (name_at objects.slots) (sym same) ∙ v.1 in cc in (
          v.0,
          ap (λ (slots : List (Option (Name × Body))). name_at slots k) e ∙ ap (option_map (λ (e : Name × Body). e.0)) (get_or-set_other objects.slots s k (Some (n, b)) None other)
              ∙ v.1,
          v.2,
        );
    ready_once = h.queued.ready_once;
    waiting_once = h.queued.waiting_once;
  };
  stacked = h.stacked;
  current = h.current;
  known = h.known;
  right = subst (λ (slots : List (Option (Name × Body))). AreRight (seen slots) w.pairs) (sym e)
      (right_grown (seen objects.slots) (seen (set objects.slots s (Some (n, b)))) (lists_grown objects.slots s n b free low fresh) w.pairs h.right);
}

pub made_told : (objects new : Shelf) (q : Queued) (ps : List Process) (st : Stacked) (first_new : Name) (events limit s : ℕ) (of : Name) (words : List ℕ) (entries : List Entry)
    → place objects.slots s ≡ None → s < length objects.slots → ((k : ℕ) → name_at objects.slots k ≡ Some objects.next → ⊥) → AreQueued objects.slots q ps
    → new ≡ record { slots = slice_set objects.slots s (Some (objects.next, new_body of words entries)); next = record { 0 = objects.next.0 + 1 } }
    → told new q ps st first_new events limit
    ≡ add_beside (told objects q ps st first_new events limit) (told objects q ps st first_new events limit).objects (plain_object of words entries)
made_told objects new q ps st first_new events limit s of words entries free low fresh h e =
    ap (λ (v : Shelf). told v q ps st first_new events limit) e
    ∙ (λ i.
    record (told objects q ps st first_new events limit) {
      objects = made_objects objects.slots s objects.next (new_body of words entries) free low fresh q.waiting (free_waiters objects.slots q ps s h free) i;
      next_name = record { 0 = objects.next.0 + 1 };
    })
