-- What a change of a slot, or of a list of those who wait, is to the objects of the state.
use Rattle.std.proofs.Common.{◌≡◌, ℕ, zero, suc, ◌<◌, Bool, true, false, cond, List, [], ◌∷◌, length, set, map, replicate, Option, Some, None, IfSome, refl, ap}
use Rattle.std.proofs.Common.{◌∙◌, sym, subst, arith, option_map}
use Rattle.std.specs.Prelude.{slice_index_or}
use Rattle.std.specs.Map.{lookup, set_value}
use Rattle.std.specs.Option.{unwrap_or}
use Rattle.hk_model.specs.declared.names.Name.{Name}
use Rattle.hk_model.specs.declared.names.Proc.{Proc}
use Rattle.hk_model.specs.declared.objects.Object.{Object}
use Rattle.hk_model.specs.State.{no_object, same_name}
use Rattle.hk_objects.specs.declared.body.Body.{Body}
use Rattle.hk_objects.specs.Slots.{standing, place, name_at, AreApart, change}
use Rattle.hk_objects.proofs.Standing.{standing-put, lookup-place, lookup-absent}
use Rattle.hk_walk.specs.Walks.{shown_at}
use Rattle.hk_table.specs.Whole.{whole, whole_object, with_waiters}

-- where nobody waits
nobody : (p : Option (Name × Body)) → with_waiters p [] ≡ shown_at p
nobody None = refl
nobody (Some e) = refl

pub whole_unwaited : (ps : List (Option (Name × Body))) (k : ℕ) → whole ps (replicate k []) ≡ map shown_at ps
whole_unwaited [] k = refl
whole_unwaited (p ∷ ps) zero =
    ap (λ (q : Option (Name × Object)). q ∷ whole ps []) (nobody p) ∙ ap (λ (qs : List (Option (Name × Object))). shown_at p ∷ qs) (whole_unwaited ps zero)
whole_unwaited (p ∷ ps) (suc k) =
    ap (λ (q : Option (Name × Object)). q ∷ whole ps (replicate k [])) (nobody p) ∙ ap (λ (qs : List (Option (Name × Object))). shown_at p ∷ qs) (whole_unwaited ps k)

-- what stands in a slot, and its name
pub place-whole : (ps : List (Option (Name × Body))) (ws : List (List Proc)) (s : ℕ) → place (whole ps ws) s ≡ with_waiters (place ps s) (slice_index_or ws s [])
place-whole [] ws s = refl
place-whole (p ∷ ps) [] zero = refl
place-whole (p ∷ ps) [] (suc s) = place-whole ps [] s
place-whole (p ∷ ps) (x ∷ ws) zero = refl
place-whole (p ∷ ps) (x ∷ ws) (suc s) = place-whole ps ws s

named-part : (p : Option (Name × Body)) (procs : List Proc) → option_map (λ (e : Name × Object). e.0) (with_waiters p procs) ≡ option_map (λ (e : Name × Body). e.0) p
named-part None procs = refl
named-part (Some e) procs = refl

pub name_at-whole : (ps : List (Option (Name × Body))) (ws : List (List Proc)) (s : ℕ) → name_at (whole ps ws) s ≡ name_at ps s
name_at-whole ps ws s = ap (option_map (λ (e : Name × Object). e.0)) (place-whole ps ws s) ∙ named-part (place ps s) (slice_index_or ws s [])

pub apart-whole : (ps : List (Option (Name × Body))) (ws : List (List Proc)) → AreApart ps → AreApart (whole ps ws)
apart-whole ps ws apart i j n a b = apart i j n (sym (name_at-whole ps ws i) ∙ a) (sym (name_at-whole ps ws j) ∙ b)

-- a slot with a name is one of all
pub named_low : (ps : List (Option (Name × Body))) (s m : ℕ) (n : Name) → length ps ≡ m → name_at ps s ≡ Some n → s < m
named_low [] s m n size named = absurd (cc)
named_low (p ∷ ps) zero m n size named = omega (arith, size)
named_low (p ∷ ps) (suc s) m n size named = let h = named_low ps s (length ps) n refl named in omega (arith, h, size)

-- a slot written
pub whole-set : (ps : List (Option (Name × Body))) (ws : List (List Proc)) (s : ℕ) (p : Option (Name × Body))
    → whole (set ps s p) ws ≡ set (whole ps ws) s (with_waiters p (slice_index_or ws s []))
whole-set [] ws s p = refl
whole-set (q ∷ ps) [] zero p = refl
whole-set (q ∷ ps) [] (suc s) p = ap (λ (qs : List (Option (Name × Object))). with_waiters q [] ∷ qs) (whole-set ps [] s p)
whole-set (q ∷ ps) (x ∷ ws) zero p = refl
whole-set (q ∷ ps) (x ∷ ws) (suc s) p = ap (λ (qs : List (Option (Name × Object))). with_waiters q x ∷ qs) (whole-set ps ws s p)

-- a list written
pub whole-list : (ps : List (Option (Name × Body))) (ws : List (List Proc)) (s : ℕ) (procs : List Proc) → s < length ws
    → whole ps (set ws s procs) ≡ set (whole ps ws) s (with_waiters (place ps s) procs)
whole-list [] ws s procs low = refl
whole-list (q ∷ ps) [] s procs low = absurd (omega arith)
whole-list (q ∷ ps) (x ∷ ws) zero procs low = refl
whole-list (q ∷ ps) (x ∷ ws) (suc s) procs low = ap (λ (qs : List (Option (Name × Object))). with_waiters q x ∷ qs) (whole-list ps ws s procs (omega arith))

body_there : (p : Option (Name × Body)) (n : Name) → option_map (λ (e : Name × Body). e.0) p ≡ Some n → (b : Body) × (p ≡ Some (n, b))
body_there None n h = absurd (cc)
body_there (Some e) n h = let k : e.0 ≡ n = cc in (e.1, ap (λ (m : Name). let q : Option (Name × Body) = Some (m, e.1) in q) k)

abbrev pub object_in : List (Name × Object) → Name → Object
object_in objects name = unwrap_or (lookup (same_name name) objects) no_object

module _ (ps : List (Option (Name × Body))) (ws : List (List Proc)) (s : ℕ) (n : Name) (apart : AreApart ps) (named : name_at ps s ≡ Some n) where
  there : (b : Body) × (place ps s ≡ Some (n, b))
  there = body_there (place ps s) n named

  stands : place (whole ps ws) s ≡ Some (n, whole_object there.0 (slice_index_or ws s []))
  stands = place-whole ps ws s ∙ ap (λ (p : Option (Name × Body)). with_waiters p (slice_index_or ws s [])) there.1

  found : object_in (standing (whole ps ws)) n ≡ whole_object there.0 (slice_index_or ws s [])
  found = ap (λ o. unwrap_or o no_object) (lookup-place (whole ps ws) s n (whole_object there.0 (slice_index_or ws s [])) stands (apart-whole ps ws apart))

  -- a part of the body
  pub part_read : {Y : Type 0} (f : Body → Y) (g : Object → Y) → ((b : Body) (procs : List Proc) → g (whole_object b procs) ≡ f b) → (y : Y)
      → ((b : Body) → place ps s ≡ Some (n, b) → y ≡ f b) → y ≡ g (object_in (standing (whole ps ws)) n)
  part_read f g same y read = read there.0 there.1 ∙ sym (ap g found ∙ same there.0 (slice_index_or ws s []))

  pub words_inside : (at : ℕ) → at < length (object_in (standing (whole ps ws)) n).words → IfSome (place ps s) (λ e. at < length e.1.words)
  words_inside at low = subst (λ (p : Option (Name × Body)). IfSome p (λ e. at < length e.1.words)) (sym there.1) (subst (λ (o : Object). at < length o.words) found low)

  -- what holds of a number of the object holds of what stands in its slot
  pub holds_inside : (f : Body → ℕ) (g : Object → ℕ) → ((b : Body) (procs : List Proc) → g (whole_object b procs) ≡ f b) → (P : ℕ → Type 0)
      → P (g (object_in (standing (whole ps ws)) n)) → IfSome (place ps s) (λ e. P (f e.1))
  holds_inside f g same P h =
      subst (λ (p : Option (Name × Body)). IfSome p (λ e. P (f e.1))) (sym there.1) (subst P (ap g found ∙ same there.0 (slice_index_or ws s [])) h)

  -- the waiters
  pub waiters_read : slice_index_or ws s [] ≡ (object_in (standing (whole ps ws)) n).waiters
  waiters_read = sym (ap (λ (o : Object). o.waiters) found)

  pub part_written : (f : Body → Body) (g : Object → Object) → ((b : Body) (procs : List Proc) → whole_object (f b) procs ≡ g (whole_object b procs))
      → standing (whole (change ps s f) ws) ≡ set_value (same_name n) (standing (whole ps ws)) (g (object_in (standing (whole ps ws)) n))
  part_written f g same =
      ap standing (whole-set ps ws s (option_map (λ e. (e.0, f e.1)) (place ps s))
      ∙ ap (λ (p : Option (Name × Body)). set (whole ps ws) s (with_waiters (option_map (λ e. (e.0, f e.1)) p) (slice_index_or ws s []))) there.1)
      ∙ standing-put (whole ps ws) s n (whole_object there.0 (slice_index_or ws s [])) (whole_object (f there.0) (slice_index_or ws s [])) stands (apart-whole ps ws apart)
      ∙ ap (set_value (same_name n) (standing (whole ps ws))) (same there.0 (slice_index_or ws s []) ∙ ap g (sym found))

  pub list_written : (procs : List Proc) → s < length ws
      → standing (whole ps (set ws s procs)) ≡ set_value (same_name n) (standing (whole ps ws)) (record (object_in (standing (whole ps ws)) n) { waiters = procs })
  list_written procs low =
      ap standing (whole-list ps ws s procs low ∙ ap (λ (p : Option (Name × Body)). set (whole ps ws) s (with_waiters p procs)) there.1)
      ∙ standing-put (whole ps ws) s n (whole_object there.0 (slice_index_or ws s [])) (whole_object there.0 procs) stands (apart-whole ps ws apart)
      ∙ ap (λ (o : Object). set_value (same_name n) (standing (whole ps ws)) (record o { waiters = procs })) (sym found)

-- a value for a key that is not there changes nothing
by_test : (test : Name → Bool) (e : Name × Object) (es : List (Name × Object)) (w : Object) (b : Bool) → cond b (Some e.1) (lookup test es) ≡ None
    → (lookup test es ≡ None → set_value test es w ≡ es) → cond b ((e.0, w) ∷ es) (e ∷ set_value test es w) ≡ e ∷ es
by_test test e es w true absent later = absurd (cc)
by_test test e es w false absent later = ap (λ rest. e ∷ rest) (later absent)

set_value_absent : (test : Name → Bool) (es : List (Name × Object)) (w : Object) → lookup test es ≡ None → set_value test es w ≡ es
set_value_absent test [] w absent = refl
set_value_absent test (e ∷ es) w absent = by_test test e es w (test e.0) absent (λ rest. set_value_absent test es w rest)

module _ (ps : List (Option (Name × Body))) (ws : List (List Proc)) (n : Name) (none : (k : ℕ) → name_at ps k ≡ Some n → ⊥) where
  lookup_missing : lookup (same_name n) (standing (whole ps ws)) ≡ None
  lookup_missing = lookup-absent (whole ps ws) n (λ k h. none k (sym (name_at-whole ps ws k) ∙ h))

  -- of a name that is not found nothing is read or written
  pub missing_stays : (w : Object) → set_value (same_name n) (standing (whole ps ws)) w ≡ standing (whole ps ws)
  missing_stays w = set_value_absent (same_name n) (standing (whole ps ws)) w lookup_missing

  pub missing_read : object_in (standing (whole ps ws)) n ≡ no_object
  missing_read = ap (λ o. unwrap_or o no_object) lookup_missing
