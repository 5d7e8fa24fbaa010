-- The way back over the writings of a history is the chain of the definitions.
use Rattle.std.specs.Prelude.{◌≡◌, ℕ, zero, suc, ◌+◌, ◌-◌, ◌<◌, ◌≤◌, Bool, true, false, List, [], ◌∷◌, length, map, filter, take, slice_get, not, Option, Some, None, refl}
use Rattle.std.proofs.Common.{arith, ap, sym, ◌∙◌, subst, cond}
use Rattle.std.proofs.lemmas.Bool.{true≢false, false≢true, and_parts}
use Rattle.hk_model.specs.declared.entries.Entry.{Entry}
use Rattle.hk_model.specs.declared.entries.Entry.TheVariants.{Empty, Held, Form}
use Rattle.hk_model.specs.declared.lines.What.{What}
use Rattle.hk_model.specs.declared.lines.What.TheVariants as what
use Rattle.hk_model.specs.declared.lines.Line.{Line}
use Rattle.hk_model.specs.WorldValue.{WorldValue}
use Rattle.hk_model.specs.State.{State}
use Rattle.hk_model.specs.Running.{Machine, opened, moved, after_lines, state_at, state_after, AreStepsOf}
use Rattle.hk_model.specs.Places as places
use Rattle.hk_model.specs.Places.{standing, is_empty}
use Rattle.hk_model.specs.Lines.{done_call}
use Rattle.hk_model.specs.Origins.{Origin, From, Through, Made, line_origin}
use Rattle.hk_model.specs.Descent as descent
use Rattle.hk_model.specs.Descent.{Gate, extended, extend, chains, IsLink, IfThere, Descends, DescentLaw}
use Rattle.hk_model.proofs.Steps.{told_last, first_steps}
use Rattle.hk_model.proofs.EventCounts.{events_are}
use Rattle.hk_trace.specs.declared.chains.Place.{Place}
use Rattle.hk_trace.specs.declared.chains.Chain.{Chain}
use Rattle.hk_trace.specs.declared.following.WayBack.{WayBack}
use Rattle.hk_trace.specs.declared.writings.Writing.{Writing}
use Rattle.hk_trace.specs.declared.using.UsedPlace.{UsedPlace}
use Rattle.hk_trace.specs.Told.{told_place, meant, told_standing, links_of, end_of}
use Rattle.hk_trace.specs.Used.{Looked, looked_at, is_refused_before, is_used, used_by, used}
use Rattle.hk_trace.specs.Traced.{chain_after, traced, trace_of}
use Rattle.hk_trace.specs.Held.{held_entry}
use Rattle.hk_trace.specs.Writings.{came, source_told, writing_of, writings_of, writing_at, source_in, way_back, trail_by}
use Rattle.hk_trace.specs.Uses.{told_use, chain_found}
use Rattle.hk_trace.proofs.WritingLemmas.{line_told}

-- ---- lists

take_none : (lines : List Line) → take zero lines ≡ []
take_none [] = refl
take_none (x ∷ lines) = refl

take_all : (lines : List Line) → take (length lines) lines ≡ lines
take_all [] = refl
take_all (x ∷ lines) = ap (λ (l : List Line). x ∷ l) (take_all lines)

length_take : (lines : List Line) (n : ℕ) → n ≤ length lines → length (take n lines) ≡ n
length_take lines zero h = ap (length {A = Line}) (take_none lines)
length_take [] (suc n) h = absurd (omega arith)
length_take (x ∷ lines) (suc n) h = let rest = length_take lines n (omega arith) in omega (arith, rest)

there : (lines : List Line) (n : ℕ) → n < length lines → (line : Line) × (slice_get lines n ≡ Some line)
there [] n h = absurd (omega arith)
there (x ∷ lines) zero h = (x, refl)
there (x ∷ lines) (suc n) h = there lines n (omega arith)

writings_many : (w : WorldValue) (m : Machine) (lines : List Line) → length (writings_of w m lines) ≡ length lines
writings_many w m [] = refl
writings_many w m (line ∷ lines) = let h = writings_many w (moved w m line.cpu) lines in omega (arith, h)

writing_is : (w : WorldValue) (m : Machine) (lines : List Line) (n : ℕ) (line : Line) → slice_get lines n ≡ Some line
    → writing_at (writings_of w m lines) n ≡ writing_of (after_lines w m (take n lines)).state line.inc (done_call line)
writing_is w m [] n line h = absurd (cc)
writing_is w m (x ∷ lines) zero line h = let same : x ≡ line = cc in rw same refl
writing_is w m (x ∷ lines) (suc n) line h = writing_is w (moved w m x.cpu) lines n line h

-- ---- one line

-- a chain as a way back
abbrev pub told_trail : descent.Chain → WayBack
told_trail chain = record { links = links_of chain; origin = end_of chain }

meant_told : (r : places.Place) → meant (told_place r) ≡ r
meant_told (places.SlotOf inc slot) = refl
meant_told (places.EntryOf name index) = refl

-- where something stands, it came from where something stood
linked : (from : Entry) (gate : Option Gate) (x : Entry) (D : Type 0) → is_empty x ≡ false → IfThere x (IsLink from gate x × D) → (is_empty from ≡ false) × D
linked from gate Empty D e h = absurd (true≢false e)
linked Empty None (Held b) D e h = absurd h.0
linked Empty None (Form b) D e h = absurd h.0
linked Empty (Some gate) (Held b) D e h = absurd h.0
linked Empty (Some gate) (Form b) D e h = absurd h.0
linked (Held a) gate (Held b) D e h = (refl, h.1)
linked (Held a) gate (Form b) D e h = (refl, h.1)
linked (Form a) gate (Held b) D e h = (refl, h.1)
linked (Form a) gate (Form b) D e h = (refl, h.1)

module _ (w : WorldValue) (s : State) (line : ℕ) (before : Place → WayBack) (g : places.Place → descent.Chain)
    (known : (p : Place) (x : Entry) → is_empty x ≡ false → Descends w x (g (meant p)) → before p ≡ told_trail (g (meant p))) where
  trail_known : (r : places.Place) (x : Entry) → is_empty x ≡ false → Descends w x (g r) → before (told_place r) ≡ told_trail (g r)
  trail_known r x e d =
      let same = meant_told r in
      known (told_place r) x e (subst (λ (q : places.Place). Descends w x (g q)) (sym same) d) ∙ ap (λ (q : places.Place). told_trail (g q)) same

  from_there : (p : Place) (r : places.Place) (y : Entry) → is_empty y ≡ false → Descends w y (g r)
      → trail_by line (came (held_entry (told_place r) y)) before p
      ≡ record { links = record { line = line; from = record { place = told_place r; entry = y } } ∷ links_of (g r); origin = end_of (g r) }
  from_there p r Empty e d = absurd (true≢false e)
  from_there p r (Held cap) e d = rw (trail_known r (Held cap) e d) refl
  from_there p r (Form form) e d = rw (trail_known r (Form form) e d) refl

  goes_back : (p : Place) (x : Entry) (o : Option Origin) → s.events + 1 ≡ line → is_empty x ≡ false → Descends w x (extended s g o (meant p))
      → trail_by line (source_told s o) before p ≡ told_trail (extended s g o (meant p))
  goes_back p x None n e d = known p x e d
  goes_back p x (Some (From r)) n e d =
      let h = linked (standing s r) None x (Descends w (standing s r) (g r)) e d in
      rw n (from_there p r (standing s r) h.0 h.1)
  goes_back p x (Some (Through r form)) n e d =
      let h = linked (standing s r) (Some _) x (Descends w (standing s r) (g r)) e d in
      rw n (from_there p r (standing s r) h.0 h.1)
  goes_back p x (Some (Made by target)) n e d = rw n refl

-- ---- a history

pub follows : (w : WorldValue) (lines : List Line) → AreStepsOf w lines → (n : ℕ) → n ≤ length lines → (p : Place) (x : Entry) → is_empty x ≡ false
    → Descends w x (chains w (take n lines) (meant p)) → way_back (writings_of w (opened w) lines) n p ≡ told_trail (chains w (take n lines) (meant p))
follows w lines steps zero few p x e d = refl
follows w lines steps (suc n) few p x e d =
    let found = there lines n (omega arith) in
    let last : chains w (take (suc n) lines) (meant p) ≡ extended (state_at w lines n) (chains w (take n lines)) (line_origin (state_at w lines n) found.0 (meant p)) (meant p)
    = ap (λ (g : places.Place → descent.Chain). g (meant p)) (told_last extend w (opened w) lines n found.0 descent.Opened found.1) in
    let many : (state_at w lines n).events + 1 ≡ suc n =
    let a = events_are w (take n lines) (first_steps w (opened w) lines n steps) in let b = length_take lines n (omega arith) in omega (arith, a, b) in
    let wrote : source_in (writing_at (writings_of w (opened w) lines) n) p ≡ source_told (state_at w lines n) (line_origin (state_at w lines n) found.0 (meant p))
    = ap (λ (t : Writing). source_in t p) (writing_is w (opened w) lines n found.0 found.1) ∙ line_told (state_at w lines n) found.0 p in
    rw (wrote, last)
    (goes_back w (state_at w lines n) (suc n) (way_back (writings_of w (opened w) lines) n) (chains w (take n lines)) (follows w lines steps n (omega arith)) p x
    (line_origin (state_at w lines n) found.0 (meant p)) many e (subst (Descends w x) last d))

-- ---- the chains of a line

same_chain : (w : WorldValue) (lines : List Line) → AreStepsOf w lines → DescentLaw w lines → (l : Looked) → is_empty (standing (state_after w lines) l.place) ≡ false
    → chain_found (writings_of w (opened w) lines) (told_use (state_after w lines) l) ≡ chain_after w lines l
same_chain w lines steps law l full =
    let all = take_all lines in
    let many = writings_many w (opened w) lines in
    let place = meant_told l.place in
    let descends : Descends w (standing (state_after w lines) l.place) (chains w lines l.place)
    = subst (λ (ls : List Line). Descends w (standing (state_after w ls) l.place) (chains w ls l.place)) all (law (length lines) l.place) in
    let same : way_back (writings_of w (opened w) lines) (length lines) (told_place l.place) ≡ told_trail (chains w (take (length lines) lines) (meant (told_place l.place)))
    = follows w lines steps (length lines) (omega arith) (told_place l.place) (standing (state_after w lines) l.place) full
    (rw (all, place) descends) in
    let whole : way_back (writings_of w (opened w) lines) (length (writings_of w (opened w) lines)) (told_place l.place) ≡ told_trail (chains w lines l.place)
    = rw many (same ∙ rw (all, place) refl) in
    ap (λ (t : WayBack). let c : Chain = record { step = l.step; at = told_standing (state_after w lines) l.place; links = t.links; origin = t.origin } in c) whole

map_kept : {A B : Type 0} (f g : A → B) (test : A → Bool) (xs : List A) → ((x : A) → test x ≡ true → f x ≡ g x) → map f (filter test xs) ≡ map g (filter test xs)
map_kept f g test [] h = refl
map_kept {A} {B} f g test (x ∷ xs) h = by (test x) refl (map_kept f g test xs h)
  where
    by : (b : Bool) → test x ≡ b → map f (filter test xs) ≡ map g (filter test xs)
        → map f (cond b (x ∷ filter test xs) (filter test xs)) ≡ map g (cond b (x ∷ filter test xs) (filter test xs))
    by true e rest = rw (h x e, rest) refl
    by false e rest = rest

map_twice : {A B C : Type 0} (f : B → C) (g : A → B) (xs : List A) → map f (map g xs) ≡ map (λ x. f (g x)) xs
map_twice f g [] = refl
map_twice f g (x ∷ xs) = ap (λ l. f (g x) ∷ l) (map_twice f g xs)

is_there : (b : Bool) → not b ≡ true → b ≡ false
is_there true h = absurd (false≢true h)
is_there false h = refl

pub uses_traced : (w : WorldValue) (lines : List Line) → AreStepsOf w lines → DescentLaw w lines → (line : Line)
    → map (chain_found (writings_of w (opened w) lines)) (map (told_use (state_after w lines)) (used (state_after w lines) line))
    ≡ map (chain_after w lines) (used (state_after w lines) line)
uses_traced w lines steps law line = by line.what
  where
    by : (what : What) → map (chain_found (writings_of w (opened w) lines)) (map (told_use (state_after w lines)) (used_by (state_after w lines) line.inc what line.reply))
        ≡ map (chain_after w lines) (used_by (state_after w lines) line.inc what line.reply)
    by what.Dispatch = refl
    by what.Halt = refl
    by (what.Call c) =
        map_twice (chain_found (writings_of w (opened w) lines)) (told_use (state_after w lines))
        (filter (is_used (state_after w lines) c line.reply) (looked_at (state_after w lines) line.inc c))
        ∙ map_kept (λ l. chain_found (writings_of w (opened w) lines) (told_use (state_after w lines) l)) (chain_after w lines) (is_used (state_after w lines) c line.reply)
        (looked_at (state_after w lines) line.inc c)
        (λ l e. same_chain w lines steps law l
        (is_there (is_empty (standing (state_after w lines) l.place))
        (and_parts (not (is_empty (standing (state_after w lines) l.place))) (not (is_refused_before c line.reply l.order l.step)) e).0))

-- what is found of a line is what is traced
pub found_traced : (w : WorldValue) (lines : List Line) (line : Line) (m : Machine) (writings : List Writing) (s : State) (us : List UsedPlace) (cs : List Chain)
    → AreStepsOf w lines
    → DescentLaw w lines → m ≡ after_lines w (opened w) lines → writings ≡ writings_of w (opened w) lines → s ≡ m.state → us ≡ map (told_use s) (used s line)
    → cs ≡ map (chain_found writings) us → cs ≡ map (chain_after w lines) (used (state_after w lines) line)
found_traced w lines line m writings s us cs steps law hm ht hs hu hc = rw (hc, hu, hs, ht, hm) (uses_traced w lines steps law line)

-- as many writings as lines
pub writings_few : (w : WorldValue) (lines : List Line) (writings : List Writing) → writings ≡ writings_of w (opened w) lines → length writings ≡ length lines
writings_few w lines writings h = ap (length {A = Writing}) h ∙ writings_many w (opened w) lines

-- the line of a number
pub traced_at : (w : WorldValue) (lines : List Line) (n : ℕ) → 0 < n → trace_of w lines n ≡ traced w (take (n - 1) lines) (slice_get lines (n - 1))
traced_at w lines zero h = absurd (omega arith)
traced_at w lines (suc n) h = let e : suc n - 1 ≡ n = omega arith in rw e refl

pub traced_line : (w : WorldValue) (lines : List Line) (n : ℕ) (line : Line) → 0 < n → slice_get lines (n - 1) ≡ Some line
    → trace_of w lines n ≡ map (chain_after w (take (n - 1) lines)) (used (state_after w (take (n - 1) lines)) line)
traced_line w lines n line h e = traced_at w lines n h ∙ ap (traced w (take (n - 1) lines)) e

pub traced_none : (w : WorldValue) (lines : List Line) (n : ℕ) → 0 < n → slice_get lines (n - 1) ≡ None → trace_of w lines n ≡ []
traced_none w lines n h e = traced_at w lines n h ∙ ap (traced w (take (n - 1) lines)) e

pub first_lines : (w : WorldValue) (lines : List Line) (n : ℕ) → AreStepsOf w lines → AreStepsOf w (take n lines)
first_lines w lines n h = first_steps w (opened w) lines n h
