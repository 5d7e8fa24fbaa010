-- One line of a descent: what it came from stood, and its mark was there.
use Rattle.std.proofs.Common.{◌≡◌, ℕ, zero, suc, ◌<◌, List, [], ◌∷◌, length, Bool, true, false, Option, Some, None, refl, sym, ◌∙◌, ap, arith, subst}
use Rattle.std.specs.Prelude.{not, ◌||◌, ◌&&◌, slice_index_or}
use mathlib.Core.Logic.{inl, inr}
use Rattle.std.specs.Option.{option_and_then}
use Rattle.std.specs.List.{Contains, list_any}
use Rattle.std.proofs.lemmas.Bool.{and_parts, true≢false, false≢true}
use Rattle.hk_model.specs.declared.names.Inc.{Inc}
use Rattle.hk_model.specs.declared.names.Name.{Name}
use Rattle.hk_model.specs.declared.entries.Entry.{Entry}
use Rattle.hk_model.specs.declared.entries.Entry.TheVariants.{Empty, Held, Form}
use Rattle.hk_model.specs.declared.lines.Line.{Line}
use Rattle.hk_model.specs.State.{State}
use Rattle.hk_model.specs.Places.{Place, SlotOf, EntryOf, standing, is_empty, end_from, walk_end, next_place, passed_from, passed, named_by}
use Rattle.hk_model.specs.Ways.{Way, Walked, Stored, Lessened, Merged, Inherited, Copied, CopyOf, Created, Formed, Emptied, line_way, Writes, Wrote}
use Rattle.hk_model.specs.Origins.{origin_of}
use Rattle.hk_model.specs.Descent.{Reduces}
use Rattle.hk_model.specs.Marks.{passes_mark, carries, marked_by, mark}
use Rattle.hk_model.proofs.WalkLemmas.{walk_reduces, leads_named, copied_reduces, inherited_reduces}
use Rattle.hk_model.proofs.LineWays.{LineWrites}
use Rattle.hk_descent.specs.Joined.{place_of, CameFrom, Stayed, Linked, LoadPassed, CopyPassed, CopyOfPassed, CameByWalk}

-- ---- what was written came from something

pub full : (x : Entry) → is_empty x ≡ false → x ≡ Empty → ⊥
full x h e = true≢false (sym (ap is_empty e) ∙ h)

reduced_full : (a x : Entry) → Reduces a x → is_empty x ≡ false → is_empty a ≡ false
reduced_full (Held a) x h f = refl
reduced_full (Form a) x h f = refl
reduced_full Empty Empty h f = f
reduced_full Empty (Held b) h f = absurd h
reduced_full Empty (Form b) h f = absurd h

pub same_some : {X : Type 0} {x y : X} → ◌≡◌ {A = Option X} (Some x) (Some y) → x ≡ y
same_some k = cc

pub none_some : {X : Type 0} (x : X) → ◌≡◌ {A = Option X} None (Some x) → ⊥
none_some x k = absurd (cc)

-- the place that a way takes its entry from
abbrev pub source : State → Inc → Way → Option Place
source s inc v = option_and_then place_of (origin_of s inc v)

way_full : (s : State) (inc : Inc) (v : Way) (x : Entry) (q : Place) → Writes s inc v x → is_empty x ≡ false → source s inc v ≡ Some q → is_empty (standing s q) ≡ false
way_full s inc (Walked path) x q h f e =
    subst (λ z. is_empty (standing s z) ≡ false) (same_some e) (reduced_full (standing s (walk_end s inc path)) x (walk_reduces s inc path x h) f)
way_full s inc (Stored slot) x q h f e = subst (λ z. is_empty (standing s z) ≡ false) (same_some e) (ap is_empty (sym h.0) ∙ f)
way_full s inc (Lessened slot keep) x q h f e = subst (λ z. is_empty (standing s z) ≡ false) (same_some e) (ap is_empty h.held)
way_full s inc (Merged slot form) x q h f e = subst (λ z. is_empty (standing s z) ≡ false) (same_some e) (ap is_empty h.held)
way_full s inc (Inherited procedure index confined) x q h f e =
    subst (λ z. is_empty (standing s z) ≡ false) (same_some e)
    (reduced_full (standing s (EntryOf procedure index)) x (rw h (inherited_reduces confined (standing s (EntryOf procedure index)))) f)
way_full s inc (Copied path index) x q h f e =
    subst (λ z. is_empty (standing s z) ≡ false) (same_some e)
    (reduced_full (standing s (EntryOf (named_by s inc path) index)) x
    (rw (leads_named s inc path h.cap h.leads, h.is) (copied_reduces h.cap.rights (standing s (EntryOf h.cap.name index)))) f)
way_full s inc (CopyOf path) x q h f e = absurd (none_some q e)
way_full s inc (Created path) x q h f e = absurd (none_some q e)
way_full s inc (Formed path kind) x q h f e = absurd (none_some q e)
way_full s inc Emptied x q h f e = absurd (none_some q e)

-- what stands after a line, where nothing of a way was written, stood before it; and of a way, it was written
pub left_same : (s : State) (inc : Inc) (old x : Entry) → Wrote s inc old None x → is_empty x ≡ false → x ≡ old
left_same s inc old x (inl e) f = absurd (full x f e)
left_same s inc old x (inr e) f = e

pub way_wrote : (s : State) (inc : Inc) (old x : Entry) (v : Way) → Wrote s inc old (Some v) x → is_empty x ≡ false → Writes s inc v x
way_wrote s inc old x v (inl e) f = absurd (full x f e)
way_wrote s inc old x v (inr h) f = h

-- what it came from by its origin stood
pub came_full : (s : State) (line : Line) (t : State) (p q : Place) → LineWrites s line t → is_empty (standing t p) ≡ false → CameFrom s line p q → is_empty (standing s q) ≡ false
came_full s line t p q h f (Stayed e same) =
    let wrote : Wrote s line.inc (standing s p) None (standing t p) = subst (λ o. Wrote s line.inc (standing s p) o (standing t p)) e (h.entries p) in
    subst (λ z. is_empty (standing s z) ≡ false) same (ap is_empty (sym (left_same s line.inc (standing s p) (standing t p) wrote f)) ∙ f)
came_full s line t p q h f (Linked e) = by (line_way s line p) (h.entries p) e
  where
    by : (o : Option Way) → Wrote s line.inc (standing s p) o (standing t p) → option_and_then place_of (option_and_then (origin_of s line.inc) o) ≡ Some q
        → is_empty (standing s q) ≡ false
    by None wrote g = absurd (none_some q g)
    by (Some v) wrote g = way_full s line.inc v (standing t p) q (way_wrote s line.inc (standing s p) (standing t p) v wrote f) f g

-- ---- what is marked was marked before

any_one : (f : Place → Bool) (xs : List Place) → list_any f xs ≡ true → (q : Place) × Contains xs q × (f q ≡ true)
any_one f [] h = absurd (false≢true h)
any_one f (x ∷ xs) h = by (f x) refl h (any_one f xs)
  where
    by : (b : Bool) → f x ≡ b → (b || list_any f xs) ≡ true → (list_any f xs ≡ true → (q : Place) × Contains xs q × (f q ≡ true))
        → (q : Place) × Contains (x ∷ xs) q × (f q ≡ true)
    by true e g rest = (x, (0, omega arith, refl), e)
    by false e g rest =
        let r = rest g in
        let c = r.1 in
        let few : c.0 < length xs = c.1 in
        (r.0, (suc c.0, omega (arith, few), c.2), r.2)

or_left : (a b : Bool) → a ≡ true → (a || b) ≡ true
or_left true b h = refl
or_left false b h = absurd (false≢true h)

or_right : (a b : Bool) → b ≡ true → (a || b) ≡ true
or_right true b h = refl
or_right false b h = h

any_at : (f : Place → Bool) (xs : List Place) (q : Place) (k : ℕ) → k < length xs → slice_index_or xs k q ≡ q → f q ≡ true → list_any f xs ≡ true
any_at f [] q k h e g = absurd (omega (arith, h))
any_at f (x ∷ xs) q zero h e g = or_left (f x) (list_any f xs) (ap f e ∙ g)
any_at f (x ∷ xs) q (suc k) h e g = or_right (f x) (list_any f xs) (any_at f xs q k (omega (arith, h)) e g)

one_any : (f : Place → Bool) (xs : List Place) (q : Place) → Contains xs q → f q ≡ true → list_any f xs ≡ true
one_any f xs q c g = any_at f xs q c.0 c.1 c.2 g

-- a walk passes its end
end_passed : (s : State) (marks : Place → Bool) (place : Place) (path : List ℕ) → marks (end_from s place path) ≡ true → list_any marks (passed_from s place path) ≡ true
end_passed s marks place [] h = or_left (marks place) false h
end_passed s marks place (at ∷ rest) h =
    or_right (marks place) (list_any marks (passed_from s (next_place s place at) rest)) (end_passed s marks (next_place s place at) rest h)

-- what a marked place came from was marked
abbrev pub Before : State → Line → (Place → Bool) → Place → Type 0
Before s line marks p = (q : Place) × (marks q ≡ true) × CameByWalk s line p q

or_parts : (a b : Bool) → (a || b) ≡ true → (a ≡ false → b ≡ true)
or_parts true b h e = absurd (true≢false e)
or_parts false b h e = h

module _ (s : State) (line : Line) (marks : Place → Bool) (p : Place) where
  by_source : (v : Way) (q : Place) → line_way s line p ≡ Some v → source s line.inc v ≡ Some q → CameByWalk s line p q
  by_source v q e g = inl (Linked (ap (λ o. option_and_then place_of (option_and_then (origin_of s line.inc) o)) e ∙ g))

  carried_before : (v : Way) → line_way s line p ≡ Some v → carries s line.inc marks v ≡ true → Before s line marks p
  carried_before (Walked path) e h = let c = any_one marks (passed s line.inc path) h in (c.0, c.2, inr (LoadPassed path e c.1))
  carried_before (Stored slot) e h = (SlotOf line.inc slot, h, by_source (Stored slot) (SlotOf line.inc slot) e refl)
  carried_before (Lessened slot keep) e h = (SlotOf line.inc slot, h, by_source (Lessened slot keep) (SlotOf line.inc slot) e refl)
  carried_before (Merged slot form) e h = (SlotOf line.inc slot, h, by_source (Merged slot form) (SlotOf line.inc slot) e refl)
  carried_before (Copied path index) e h = by (passes_mark s line.inc marks path) refl
    where
      by : (b : Bool) → passes_mark s line.inc marks path ≡ b → Before s line marks p
      by true g = let c = any_one marks (passed s line.inc path) g in (c.0, c.2, inr (CopyPassed path index e c.1))
      by false g = (
        EntryOf (named_by s line.inc path) index,
        or_parts (passes_mark s line.inc marks path) (marks (EntryOf (named_by s line.inc path) index)) h g,
        by_source (Copied path index) (EntryOf (named_by s line.inc path) index) e refl,
      )
  carried_before (CopyOf path) e h = let c = any_one marks (passed s line.inc path) h in (c.0, c.2, inr (CopyOfPassed path e c.1))
  carried_before (Inherited procedure index confined) e h = absurd (false≢true h)
  carried_before (Created path) e h = absurd (false≢true h)
  carried_before (Formed path kind) e h = absurd (false≢true h)
  carried_before Emptied e h = absurd (false≢true h)

  pub marked_before : marked_by s line.inc marks (line_way s line p) p ≡ true → Before s line marks p
  marked_before h = by (line_way s line p) refl h
    where
      by : (o : Option Way) → line_way s line p ≡ o → marked_by s line.inc marks o p ≡ true → Before s line marks p
      by None e g = (p, g, inl (Stayed e refl))
      by (Some v) e g = carried_before v e g

  -- ---- what comes from a marked place is marked, where no list has a mark

  module _ (lists : (name : Name) (index : ℕ) → marks (EntryOf name index) ≡ true → ⊥) where
    at_source : {a q : Place} → ◌≡◌ {A = Option Place} (Some a) (Some q) → marks q ≡ true → marks a ≡ true
    at_source e h = ap marks (same_some e) ∙ h

    source_carries : (v : Way) (x : Entry) (q : Place) → Writes s line.inc v x → source s line.inc v ≡ Some q → marks q ≡ true → carries s line.inc marks v ≡ true
    source_carries (Walked []) x q w e h = absurd (cc)
    source_carries (Walked (at ∷ rest)) x q w e h = end_passed s marks (SlotOf line.inc at) rest (at_source e h)
    source_carries (Stored slot) x q w e h = at_source e h
    source_carries (Lessened slot keep) x q w e h = at_source e h
    source_carries (Merged slot form) x q w e h = at_source e h
    source_carries (Inherited procedure index confined) x q w e h = absurd (lists procedure index (at_source e h))
    source_carries (Copied path index) x q w e h =
        or_right (passes_mark s line.inc marks path) (marks (EntryOf (named_by s line.inc path) index)) (at_source e h)
    source_carries (CopyOf path) x q w e h = absurd (none_some q e)
    source_carries (Created path) x q w e h = absurd (none_some q e)
    source_carries (Formed path kind) x q w e h = absurd (none_some q e)
    source_carries Emptied x q w e h = absurd (none_some q e)

    came_marked : (t : State) (q : Place) → LineWrites s line t → is_empty (standing t p) ≡ false → marks q ≡ true → CameByWalk s line p q
        → marked_by s line.inc marks (line_way s line p) p ≡ true
    came_marked t q w f h (inl (Stayed e same)) = rw e (ap marks same ∙ h)
    came_marked t q w f h (inl (Linked e)) = by (line_way s line p) (w.entries p) e
      where
        by : (o : Option Way) → Wrote s line.inc (standing s p) o (standing t p) → option_and_then place_of (option_and_then (origin_of s line.inc) o) ≡ Some q
            → marked_by s line.inc marks o p ≡ true
        by None wrote g = absurd (none_some q g)
        by (Some v) wrote g = source_carries v (standing t p) q (way_wrote s line.inc (standing s p) (standing t p) v wrote f) g h
    came_marked t q w f h (inr (LoadPassed path e c)) = rw e (one_any marks (passed s line.inc path) q c h)
    came_marked t q w f h (inr (CopyPassed path index e c)) =
        rw e (or_left (passes_mark s line.inc marks path) (marks (EntryOf (named_by s line.inc path) index)) (one_any marks (passed s line.inc path) q c h))
    came_marked t q w f h (inr (CopyOfPassed path e c)) = rw e (one_any marks (passed s line.inc path) q c h)

    stands_and : (x : Entry) (b : Bool) → is_empty x ≡ false → b ≡ true → (not (is_empty x) && b) ≡ true
    stands_and x b f h = rw (f, h) refl

    pub came_mark : (t : State) (q : Place) → LineWrites s line t → is_empty (standing t p) ≡ false → marks q ≡ true → CameByWalk s line p q → mark s line t marks p ≡ true
    came_mark t q w f h c = stands_and (standing t p) (marked_by s line.inc marks (line_way s line p) p) f (came_marked t q w f h c)

  -- and what is marked after a line stands, and came from what was marked
  pub mark_before : (t : State) → mark s line t marks p ≡ true → (is_empty (standing t p) ≡ false) × Before s line marks p
  mark_before t h =
      let both = and_parts (not (is_empty (standing t p))) (marked_by s line.inc marks (line_way s line p) p) h in
      (stands (standing t p) both.0, marked_before both.1)
    where
      stands : (x : Entry) → not (is_empty x) ≡ true → is_empty x ≡ false
      stands Empty g = absurd (cc)
      stands (Held c) g = refl
      stands (Form f) g = refl
