-- The list of changes is in order: by line and then by call, and none stands twice.
use Rattle.std.proofs.Common.{◌≡◌, ◌<◌, ℕ, ◌+◌, List, [], ◌∷◌, ◌++◌, map, Bool, true, false, Option, Some, None, refl, arith, cond}
use Rattle.std.specs.Prelude.{filter, ◌⊎◌}
use mathlib.Core.Logic.{inl, inr}
use Rattle.hk_model.specs.declared.names.Name.{Name}
use Rattle.hk_model.specs.declared.lines.Line.{Line}
use Rattle.hk_model.specs.WorldValue.{WorldValue}
use Rattle.hk_model.specs.State.{State, incarnation}
use Rattle.hk_model.specs.Running.{AreStepsOf, opened}
use Rattle.hk_model.specs.Lines.{done_call, enters_call, changed}
use Rattle.hk_model.specs.Under.{is_under}
use Rattle.hk_model.specs.Changes.{Beginning, BareChange, confined_by, confined_calls, calls_over, bare_changes_by, bare_changes, IsBefore, AreInOrder}
use Rattle.hk_model.proofs.EventCounts.{events_each}
use Rattle.hk_model.proofs.Histories.{Sound, LineKnown, known_each, opening_sound}
use Rattle.hk_model.proofs.NamesStand.{All, all_more, all_append, all_map, all_filter}
use Rattle.hk_model.proofs.Steps.{each_more, told_keeps}
use Rattle.hk_model.proofs.Turns.{Turn, Still, Enter, Leave, Halt}

-- ---- the confined calls

-- each is called before all later ones
abbrev Rising : List Beginning → Type 0
Rising [] = Unit {0}
Rising (b ∷ bs) = All (λ (c : Beginning). b.call.0 < c.call.0) bs × Rising bs

abbrev AllBelow : ℕ → List Beginning → Type 0
AllBelow n bs = All (λ (b : Beginning). b.call.0 < n) bs

rising_last : (bs : List Beginning) (new : Beginning) → Rising bs → AllBelow new.call.0 bs → Rising (bs ++ new ∷ [])
rising_last [] new h g = (tt, tt)
rising_last (b ∷ bs) new h g = (all_append (λ (c : Beginning). b.call.0 < c.call.0) bs (new ∷ []) h.0 (g.0, tt), rising_last bs new h.1 g.1)

rising_filter : (p : Beginning → Bool) (bs : List Beginning) → Rising bs → Rising (filter p bs)
rising_filter p [] h = tt
rising_filter p (b ∷ bs) h = by (p b) (rising_filter p bs h.1)
  where
    by : (d : Bool) → Rising (filter p bs) → Rising (cond d (b ∷ filter p bs) (filter p bs))
    by true later = (all_filter (λ (c : Beginning). b.call.0 < c.call.0) p bs h.0, later)
    by false later = later

-- of a line: the next number does not fall, and rises by a call
next_call : (s : State) (line : Line) (t : State) → Turn s line t → (s.next_inc.0 < t.next_inc.0) ⊎ ((t.next_inc ≡ s.next_inc) × (enters_call (done_call line) ≡ false))
next_call s line t (Still q e) = inr (q.next, e)
next_call s line t (Enter e) = let up = e.next in inl (omega (arith, up))
next_call s line t (Leave e) = inr (e.next, e.is)
next_call s line t (Halt e) = inr (e.next, rw e.is refl)

abbrev CallsSoFar : State → List Beginning → Type 0
CallsSoFar s calls = Sound s × Rising calls × AllBelow s.next_inc.0 calls

calls_line : (s : State) (line : Line) (t : State) → (Sound s → LineKnown s line t) → (calls : List Beginning) → CallsSoFar s calls → CallsSoFar t (confined_by s line t calls)
calls_line s line t known calls h = by (known h.0).after (next_call s line t (known h.0).turn) (enters_call (done_call line)) refl (incarnation t s.next_inc).confined
  where
    by : Sound t → (s.next_inc.0 < t.next_inc.0) ⊎ ((t.next_inc ≡ s.next_inc) × (enters_call (done_call line) ≡ false)) → (e : Bool) → enters_call (done_call line) ≡ e → (d : Bool)
        → CallsSoFar t (elim e [ true ↦ elim d [ true ↦ calls ++ record { call = s.next_inc; moment = t.events } ∷ [] | false ↦ calls ] | false ↦ calls ])
    by sound (inl up) true f true = (
      sound,
      rising_last calls (record { call = s.next_inc; moment = t.events }) h.1 h.2,
      all_append (λ (b : Beginning). b.call.0 < t.next_inc.0) calls (record { call = s.next_inc; moment = t.events } ∷ [])
          (all_more (λ (b : Beginning). b.call.0 < s.next_inc.0) (λ b. b.call.0 < t.next_inc.0) (λ b g. omega (arith, g, up)) calls h.2) (up, tt),
    )
    by sound (inl up) true f false = (sound, h.1, all_more (λ (b : Beginning). b.call.0 < s.next_inc.0) (λ b. b.call.0 < t.next_inc.0) (λ b g. omega (arith, g, up)) calls h.2)
    by sound (inl up) false f d = (sound, h.1, all_more (λ (b : Beginning). b.call.0 < s.next_inc.0) (λ b. b.call.0 < t.next_inc.0) (λ b g. omega (arith, g, up)) calls h.2)
    by sound (inr same) true f d = let clash : true ≡ false = rw (← f) same.1 in absurd (cc)
    by sound (inr same) false f d = (sound, h.1, rw same.0 h.2)

calls_rise : (w : WorldValue) (lines : List Line) → AreStepsOf w lines → Rising (confined_calls w lines)
unfolding opened
calls_rise w lines steps =
    (told_keeps confined_by CallsSoFar (each_more (λ s line t. Sound s → LineKnown s line t)
    (λ s line t. (calls : List Beginning) → CallsSoFar s calls → CallsSoFar t (confined_by s line t calls)) calls_line known_each)
    w (opened w) lines [] steps (opening_sound w, tt, tt)).1

-- ---- the changes

in_order_append : (xs ys : List BareChange) → AreInOrder xs → AreInOrder ys → All (λ (x : BareChange). All (IsBefore x) ys) xs → AreInOrder (xs ++ ys)
in_order_append [] ys h g k = g
in_order_append (x ∷ xs) ys h g k = (all_append (IsBefore x) xs ys h.0 k.0, in_order_append xs ys h.1 g k.1)

abbrev change_at : ℕ → Name → Beginning → BareChange
change_at moment name b = record { moment = moment; under = b; object = name }

one_line : (moment : ℕ) (name : Name) (bs : List Beginning) → Rising bs → AreInOrder (map (change_at moment name) bs)
one_line moment name [] h = tt
one_line moment name (b ∷ bs) h = (
  all_map (IsBefore (change_at moment name b)) (change_at moment name) bs
      (all_more (λ (c : Beginning). b.call.0 < c.call.0) (λ c. IsBefore (change_at moment name b) (change_at moment name c)) (λ c g. inr (refl, g)) bs h.0),
  one_line moment name bs h.1,
)

abbrev ChangesSoFar : State → List BareChange → Type 0
ChangesSoFar s xs = AreInOrder xs × All (λ (x : BareChange). x.moment < s.events) xs

later_than : (moment : ℕ) (name : Name) (bs : List Beginning) (x : BareChange) → x.moment < moment → All (IsBefore x) (map (change_at moment name) bs)
later_than moment name bs x h =
    all_map (IsBefore x) (change_at moment name) bs (all_more (λ (b : Beginning). Unit {0}) (λ b. IsBefore x (change_at moment name b)) (λ b u. inl h) bs (any bs))
  where
    any : (cs : List Beginning) → All (λ (b : Beginning). Unit {0}) cs
    any [] = tt
    any (c ∷ cs) = (tt, any cs)

module _ (w : WorldValue) (lines : List Line) (calls : List Beginning) (rising : Rising calls) where
  changes_line : (s : State) (line : Line) (t : State) → t.events ≡ s.events + 1 → (xs : List BareChange) → ChangesSoFar s xs
      → ChangesSoFar t (bare_changes_by w lines calls s line t xs)
  changes_line s line t next xs h = by (changed s line)
    where
      new : List Beginning
      new = calls_over w lines calls line

      more : All (λ (x : BareChange). x.moment < t.events) xs
      more = all_more (λ (x : BareChange). x.moment < s.events) (λ x. x.moment < t.events) (λ x g. omega (arith, g, next)) xs h.1

      by : (o : Option Name)
          → ChangesSoFar t (elim o [ None ↦ xs | Some name ↦ xs ++ map (λ b. record { moment = s.events; under = b; object = name }) (calls_over w lines calls line) ])
      by None = (h.0, more)
      by (Some name) = (
        in_order_append xs (map (change_at s.events name) new) h.0
            (one_line s.events name new (rising_filter (λ (b : Beginning). is_under w lines b.moment b.call line.inc) calls rising))
            (all_more (λ (x : BareChange). x.moment < s.events) (λ x. All (IsBefore x) (map (change_at s.events name) new)) (λ x g. later_than s.events name new x g) xs h.1),
        all_append (λ (x : BareChange). x.moment < t.events) xs (map (change_at s.events name) new) more
            (all_map (λ (x : BareChange). x.moment < t.events) (change_at s.events name) new (at_line new)),
      )
        where
          at_line : (cs : List Beginning) → All (λ (b : Beginning). s.events < t.events) cs
          at_line [] = tt
          at_line (c ∷ cs) = (omega (arith, next), at_line cs)

-- in every history
pub changes_in_order : (w : WorldValue) (lines : List Line) → AreStepsOf w lines → AreInOrder (bare_changes w lines)
changes_in_order w lines steps =
    let calls = confined_calls w lines in
    let rising = calls_rise w lines steps in
    (told_keeps (bare_changes_by w lines calls) ChangesSoFar
    (each_more (λ s line t. t.events ≡ s.events + 1) (λ s line t. (xs : List BareChange) → ChangesSoFar s xs → ChangesSoFar t (bare_changes_by w lines calls s line t xs))
    (changes_line w lines calls rising) events_each)
    w (opened w) lines [] steps (tt, tt)).0
