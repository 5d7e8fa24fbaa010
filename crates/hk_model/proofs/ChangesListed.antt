-- The list of changes has an item exactly where the confinement law speaks of one.
use Rattle.std.proofs.Common.{◌≡◌, ℕ, zero, suc, List, [], ◌∷◌, ◌++◌, length, map, Bool, true, false, Option, Some, None, refl, sym, ap, ◌∙◌, subst}
use Rattle.std.specs.Prelude.{◌⊎◌, take, slice_get}
use mathlib.Core.Logic.{inl, inr}
use Rattle.std.proofs.lemmas.List.{append-nil}
use Rattle.hk_model.specs.declared.names.Name.{Name}
use Rattle.hk_model.specs.declared.names.Inc.{Inc}
use Rattle.hk_model.specs.declared.lines.Line.{Line}
use Rattle.hk_model.specs.WorldValue.{WorldValue}
use Rattle.hk_model.specs.State.{State, incarnation}
use Rattle.hk_model.specs.Running.{Machine, opened, moved, after_lines, state_at, AreStepsOf}
use Rattle.hk_model.specs.Lines.{done_call, enters_call, changed}
use Rattle.hk_model.specs.Under.{is_under}
use Rattle.hk_model.specs.Confinement.{IsConfinedCall, IsChange}
use Rattle.hk_model.specs.Changes.{Beginning, BareChange, confined_by, confined_calls, calls_over, bare_changes_by, bare_changes, bare_change, ListsChanges}
use Rattle.hk_model.proofs.Members.{Has, has_from, contains_from, has_filtered, has_filter, has_mapped, has_map}
use Rattle.hk_model.proofs.Collected.{IsAdded, told_has, told_adds}
use Rattle.hk_model.proofs.ChangesInOrder.{changes_in_order}
use Rattle.hk_model.proofs.EventCounts.{events_are}
use Rattle.hk_model.proofs.Steps.{first_steps, after_next}

-- the events at a moment that the history comes to
length_taken : (lines : List Line) (n : ℕ) (line : Line) → slice_get lines n ≡ Some line → length (take n lines) ≡ n
length_taken [] n line e = absurd (cc)
length_taken (x ∷ lines) zero line e = refl
length_taken (x ∷ lines) (suc n) line e = ap suc (length_taken lines n line e)

length_next : (lines : List Line) (n : ℕ) (line : Line) → slice_get lines n ≡ Some line → length (take (suc n) lines) ≡ suc n
length_next [] n line e = absurd (cc)
length_next (x ∷ lines) zero line e = refl
length_next (x ∷ lines) (suc n) line e = ap suc (length_next lines n line e)

pub events_before : (w : WorldValue) (lines : List Line) (n : ℕ) (line : Line) → AreStepsOf w lines → slice_get lines n ≡ Some line → (state_at w lines n).events ≡ n
events_before w lines n line steps e = events_are w (take n lines) (first_steps w (opened w) lines n steps) ∙ length_taken lines n line e

pub events_behind : (w : WorldValue) (lines : List Line) (n : ℕ) (line : Line) → AreStepsOf w lines → slice_get lines n ≡ Some line → (state_at w lines (suc n)).events ≡ suc n
events_behind w lines n line steps e = events_are w (take (suc n) lines) (first_steps w (opened w) lines (suc n) steps) ∙ length_next lines n line e

-- ---- the confined calls

-- what one line adds
abbrev new_call : State → Line → State → List Beginning
new_call s line t = elim (enters_call (done_call line)) [
  | true ↦ elim (incarnation t s.next_inc).confined [ true ↦ record { call = s.next_inc; moment = t.events } ∷ [] | false ↦ [] ]
  | false ↦ []
]

call_adds : (s : State) (line : Line) (t : State) (calls : List Beginning) → confined_by s line t calls ≡ calls ++ new_call s line t
call_adds s line t calls = by (enters_call (done_call line)) (incarnation t s.next_inc).confined
  where
    by : (b d : Bool) → ◌≡◌ {A = List Beginning} (elim b [ true ↦ elim d [ true ↦ calls ++ record { call = s.next_inc; moment = t.events } ∷ [] | false ↦ calls ] | false ↦ calls ])
        (calls ++ elim b [ true ↦ elim d [ true ↦ record { call = s.next_inc; moment = t.events } ∷ [] | false ↦ [] ] | false ↦ [] ])
    by true true = refl
    by true false = sym (append-nil calls)
    by false d = sym (append-nil calls)

-- which call that is
pub record IsNewCall (s : State) (line : Line) (t : State) (b : Beginning) : Type 0 where
  pub enters : enters_call (done_call line) ≡ true
  pub confined : (incarnation t s.next_inc).confined ≡ true
  pub is : record { call = s.next_inc; moment = t.events } ≡ b

new_is : (s : State) (line : Line) (t : State) (b : Beginning) → Has (new_call s line t) b → IsNewCall s line t b
new_is s line t b h = by (enters_call (done_call line)) (incarnation t s.next_inc).confined refl refl h
  where
    by : (e d : Bool) → enters_call (done_call line) ≡ e → (incarnation t s.next_inc).confined ≡ d
        → Has (elim e as (λ x. List Beginning) [ true ↦ elim d [ true ↦ record { call = s.next_inc; moment = t.events } ∷ [] | false ↦ [] ] | false ↦ [] ]) b → IsNewCall s line t b
    by true true f g (inl same) = record { enters = f; confined = g; is = same }
    by true true f g (inr none) = absurd none
    by true false f g none = absurd none
    by false d f g none = absurd none

is_new : (s : State) (line : Line) (t : State) (b : Beginning) → IsNewCall s line t b → Has (new_call s line t) b
is_new s line t b h = by (enters_call (done_call line)) (incarnation t s.next_inc).confined h.enters h.confined
  where
    by : (e d : Bool) → e ≡ true → d ≡ true
        → Has (elim e as (λ x. List Beginning) [ true ↦ elim d [ true ↦ record { call = s.next_inc; moment = t.events } ∷ [] | false ↦ [] ] | false ↦ [] ]) b
    by true true f g = inl h.is
    by true false f g = absurd (cc)
    by false d f g = absurd (cc)

-- a confined call that is listed is one
listed_call : (w : WorldValue) (lines : List Line) (b : Beginning) → AreStepsOf w lines → Has (confined_calls w lines) b → IsConfinedCall w lines b.moment b.call
listed_call w lines b steps h = by (told_has confined_by new_call call_adds w (opened w) lines [] b h)
  where
    by : Has [] b ⊎ IsAdded confined_by new_call call_adds w (opened w) lines b → IsConfinedCall w lines b.moment b.call
    by (inl none) = absurd none
    by (inr a) =
        let next : state_at w lines (suc a.moment) ≡ (moved w (after_lines w (opened w) (take a.moment lines)) a.line.cpu).state =
        ap (λ (m : Machine). m.state) (after_next w (opened w) lines a.moment a.line a.is) in
        let n =
        new_is (state_at w lines a.moment) a.line (state_at w lines (suc a.moment)) b
        (subst (λ (t : State). Has (new_call (state_at w lines a.moment) a.line t) b) (sym next) a.has) in
        let number = events_behind w lines a.moment a.line steps a.is in
        let k : b.moment ≡ suc a.moment = sym (ap (λ (x : Beginning). x.moment) n.is) ∙ number in
        let call : b.call ≡ (state_at w lines a.moment).next_inc = sym (ap (λ (x : Beginning). x.call) n.is) in
        rw (k, call) (record {
          is = record { earlier = a.moment; moment = refl; line = a.line; is = a.is; enters = n.enters; made = refl };
          confined = n.confined;
        })

-- and each confined call is listed
call_listed : (w : WorldValue) (lines : List Line) (k : ℕ) (call : Inc) → AreStepsOf w lines → IsConfinedCall w lines k call
    → Has (confined_calls w lines) (record { call = call; moment = k })
call_listed w lines k call steps h =
    let i = h.is in
    let next : state_at w lines (suc i.earlier) ≡ (moved w (after_lines w (opened w) (take i.earlier lines)) i.line.cpu).state =
    ap (λ (m : Machine). m.state) (after_next w (opened w) lines i.earlier i.line i.is) in
    let number = events_behind w lines i.earlier i.line steps i.is in
    let at : state_at w lines k ≡ state_at w lines (suc i.earlier) = ap (state_at w lines) i.moment in
    let confined : (incarnation (state_at w lines (suc i.earlier)) (state_at w lines i.earlier).next_inc).confined ≡ true =
    ap (λ (n : Inc). (incarnation (state_at w lines (suc i.earlier)) n).confined) (sym i.made) ∙ (ap (λ (s : State). (incarnation s call).confined) (sym at) ∙ h.confined) in
    told_adds confined_by new_call call_adds w (opened w) lines [] (record { call = call; moment = k }) i.earlier i.line i.is
    (subst (λ (t : State). Has (new_call (state_at w lines i.earlier) i.line t) (record { call = call; moment = k })) next
    (is_new (state_at w lines i.earlier) i.line (state_at w lines (suc i.earlier)) (record { call = call; moment = k }) (record {
      enters = i.enters;
      confined = confined;
      is = rw (i.made, i.moment, number) refl;
    })))

-- ---- the changes

abbrev new_changes : WorldValue → List Line → List Beginning → State → Line → State → List BareChange
new_changes w lines calls s line t = elim (changed s line) [
  | None ↦ []
  | Some name ↦ map (λ b. record { moment = s.events; under = b; object = name }) (calls_over w lines calls line)
]

changes_add : (w : WorldValue) (lines : List Line) (calls : List Beginning) (s : State) (line : Line) (t : State) (so_far : List BareChange)
    → bare_changes_by w lines calls s line t so_far ≡ so_far ++ new_changes w lines calls s line t
changes_add w lines calls s line t so_far = by (changed s line)
  where
    by : (o : Option Name)
        → ◌≡◌ {A = List BareChange} (elim o [
          | None ↦ so_far
          | Some name ↦ so_far ++ map (λ b. record { moment = s.events; under = b; object = name })
              (calls_over w lines calls line)
        ])
        (so_far ++ elim o [ None ↦ [] | Some name ↦ map (λ b. record { moment = s.events; under = b; object = name }) (calls_over w lines calls line) ])
    by None = sym (append-nil so_far)
    by (Some name) = refl

-- which change that is
pub record IsNewChange (w : WorldValue) (lines : List Line) (calls : List Beginning) (s : State) (line : Line) (x : BareChange) : Type 0 where
  pub changes : changed s line ≡ Some x.object
  pub moment : s.events ≡ x.moment
  pub call : Has calls x.under
  pub under : is_under w lines x.under.moment x.under.call line.inc ≡ true

change_is : (w : WorldValue) (lines : List Line) (calls : List Beginning) (s : State) (line : Line) (t : State) (x : BareChange) → Has (new_changes w lines calls s line t) x
    → IsNewChange w lines calls s line x
change_is w lines calls s line t x h = by (changed s line) refl h
  where
    of : (name : Name) → changed s line ≡ Some name
        → (b : Beginning) × (Has (calls_over w lines calls line) b × ((let c : BareChange = record { moment = s.events; under = b; object = name } in c) ≡ x))
        → IsNewChange w lines calls s line x
    of name e g =
        let f = has_filtered (λ (b : Beginning). is_under w lines b.moment b.call line.inc) calls g.0 g.1.0 in
        let same : (let c : BareChange = record { moment = s.events; under = g.0; object = name } in c) ≡ x = g.1.1 in
        let under : g.0 ≡ x.under = ap (λ (c : BareChange). c.under) same in
        record {
          changes = e ∙ ap (λ (c : BareChange). Some c.object) same;
          moment = ap (λ (c : BareChange). c.moment) same;
          call = subst (λ (b : Beginning). Has calls b) under f.0;
          under = subst (λ (b : Beginning). is_under w lines b.moment b.call line.inc ≡ true) under f.1;
        }

    by : (o : Option Name) → changed s line ≡ o
        → Has (elim o as (λ x. List BareChange) [ None ↦ [] | Some name ↦ map (λ b. record { moment = s.events; under = b; object = name }) (calls_over w lines calls line) ]) x
        → IsNewChange w lines calls s line x
    by None e none = absurd none
    by (Some name) e g =
        of name e (has_mapped (λ (b : Beginning). let c : BareChange = record { moment = s.events; under = b; object = name } in c) (calls_over w lines calls line) x g)

is_change : (w : WorldValue) (lines : List Line) (calls : List Beginning) (s : State) (line : Line) (t : State) (b : Beginning) (name : Name) → changed s line ≡ Some name
    → Has calls b → is_under w lines b.moment b.call line.inc ≡ true
    → Has (new_changes w lines calls s line t) (record { moment = s.events; under = b; object = name })
is_change w lines calls s line t b name e h under = by (changed s line) e
  where
    here : Has (map (λ (b : Beginning). let c : BareChange = record { moment = s.events; under = b; object = name } in c) (calls_over w lines calls line))
        (record { moment = s.events; under = b; object = name })
    here = has_map (λ (b : Beginning). let c : BareChange = record { moment = s.events; under = b; object = name } in c) (calls_over w lines calls line) b
        (has_filter (λ (b : Beginning). is_under w lines b.moment b.call line.inc) calls b h under)

    by : (o : Option Name) → o ≡ Some name
        → Has (elim o as (λ x. List BareChange) [ None ↦ [] | Some name ↦ map (λ b. record { moment = s.events; under = b; object = name }) (calls_over w lines calls line) ])
        (record { moment = s.events; under = b; object = name })
    by None f = absurd (cc)
    by (Some other) f = let same : other ≡ name = cc in rw same here

-- an item of the list is a change under a confined call
listed_is : (w : WorldValue) (lines : List Line) → AreStepsOf w lines → (k moment : ℕ) (call : Inc) (name : Name) → Has (bare_changes w lines) (bare_change k call moment name)
    → IsConfinedCall w lines k call × IsChange w lines k call moment name
listed_is w lines steps k moment call name h =
    by (told_has (bare_changes_by w lines (confined_calls w lines)) (new_changes w lines (confined_calls w lines)) (changes_add w lines (confined_calls w lines)) w (opened w) lines
    [] (bare_change k call moment name) h)
  where
    by : Has [] (bare_change k call moment name) ⊎ IsAdded (bare_changes_by w lines (confined_calls w lines)) (new_changes w lines (confined_calls w lines))
        (changes_add w lines (confined_calls w lines)) w (opened w) lines (bare_change k call moment name)
        → IsConfinedCall w lines k call × IsChange w lines k call moment name
    by (inl none) = absurd none
    by (inr a) =
        let s : State = state_at w lines a.moment in
        let n =
        change_is w lines (confined_calls w lines) s a.line (moved w (after_lines w (opened w) (take a.moment lines)) a.line.cpu).state (bare_change k call moment name) a.has in
        let here : a.moment ≡ moment = sym (events_before w lines a.moment a.line steps a.is) ∙ n.moment in (
          listed_call w lines (record { call = call; moment = k }) steps n.call,
          record {
            line = a.line;
            is = ap (slice_get lines) (sym here) ∙ a.is;
            under = n.under;
            changes = ap (λ (m : ℕ). changed (state_at w lines m) a.line)
                (sym here) ∙ n.changes;
          },
        )

-- and each such change is listed
is_listed : (w : WorldValue) (lines : List Line) → AreStepsOf w lines → (k moment : ℕ) (call : Inc) (name : Name)
    → IsConfinedCall w lines k call × IsChange w lines k call moment name → Has (bare_changes w lines) (bare_change k call moment name)
is_listed w lines steps k moment call name (c, h) =
    let s : State = state_at w lines moment in
    let t : State = (moved w (after_lines w (opened w) (take moment lines)) h.line.cpu).state in
    let number : s.events ≡ moment = events_before w lines moment h.line steps h.is in
    told_adds (bare_changes_by w lines (confined_calls w lines)) (new_changes w lines (confined_calls w lines)) (changes_add w lines (confined_calls w lines)) w
    (opened w) lines [] (bare_change k call moment name) moment h.line h.is
    (subst (λ (n : ℕ). Has (new_changes w lines (confined_calls w lines) s h.line t) (bare_change k call n name)) number
    (is_change w lines (confined_calls w lines) s h.line t (record { call = call; moment = k }) name h.changes (call_listed w lines k call steps c) h.under))

-- in every history
pub lists_changes : (w : WorldValue) (lines : List Line) → AreStepsOf w lines → ListsChanges w lines
lists_changes w lines steps = record {
  exactly = λ k moment call name. (
    λ h. listed_is w lines steps k moment call name (has_from (bare_changes w lines) (bare_change k call moment name) h),
    λ h. contains_from (bare_changes w lines) (bare_change k call moment name) (is_listed w lines steps k moment call name h),
  );
  in_order = changes_in_order w lines steps;
}
