-- The type, the code and the parameters of an object never change, and no name is given twice.
use Rattle.std.proofs.Common.{◌≡◌, ◌≤◌, ◌<◌, ℕ, ◌+◌, List, [], ◌∷◌, ◌++◌, length, Bool, true, false, Option, Some, None, refl, sym, ◌∙◌, ap, subst, arith, map, replicate, cond}
use Rattle.std.proofs.Common.{take, drop}
use Rattle.std.proofs.lemmas.Bool.{false≢true}
use Rattle.hk_model.specs.declared.names.Name.{Name}
use Rattle.hk_model.specs.declared.objects.Object.{Object}
use Rattle.hk_model.specs.declared.lines.Line.{Line}
use Rattle.hk_model.specs.declared.world.Born.{Born}
use Rattle.hk_model.specs.WorldValue.{WorldValue}
use Rattle.hk_model.specs.State.{State, same_name}
use Rattle.hk_model.specs.Targets.{kernel_types}
use Rattle.hk_model.specs.Opening.{opening, object_of, type_object, numbered}
use Rattle.hk_model.specs.Lines.{done_call, makes_object}
use Rattle.hk_model.specs.Running.{Machine, opened, after_lines, state_at, AreStepsOf}
use Rattle.hk_model.specs.Effects.{there, IsSameKind, Becomes, Stays, Goes, Changes, IsNew, LeavesOthers, NamesLast}
use Rattle.hk_model.proofs.Standing.{name_same}
use Rattle.hk_model.proofs.Steps.{EachStep, each_both, each_more, moved_holds, line_steps, after_next, state_kept, first_steps, later_steps, after_later, take_less}
use Rattle.hk_model.proofs.NextNames.{NextName, next_each, next_up}
use Rattle.hk_model.proofs.NamesGiven.{born_count}
use Rattle.hk_model.proofs.ObjectsLeft.{ObjectsGiven, leaves_each}

some_object : {x y : Object} → ◌≡◌ {A = Option Object} (Some x) (Some y) → x ≡ y
some_object h = cc

pub kind_self : (o : Object) → IsSameKind o o
kind_self o = record { of = refl; code = refl; params = refl }

kind_next : (o p q : Object) → IsSameKind o p → IsSameKind p q → IsSameKind o q
kind_next o p q h g = record { of = g.of ∙ h.of; code = g.code ∙ h.code; params = g.params ∙ h.params }

-- what stands under a name that was given is of this kind, or nothing does
abbrev pub IsOfKind : Name → Object → State → Type 0
IsOfKind name o s = (name.0 < s.next_name.0) × ((x : Object) → there s.objects name ≡ Some x → IsSameKind o x)

-- nothing stands under a name that was given
abbrev pub HasGone : Name → State → Type 0
HasGone name s = (name.0 < s.next_name.0) × (there s.objects name ≡ None)

abbrev Told : State → Line → State → Type 0
Told s line t = (ObjectsGiven s → (name : Name) → Becomes s line t.objects name) × NextName s (done_call line) t

told_each : EachStep Told
told_each = each_both (λ s line t. ObjectsGiven s → (name : Name) → Becomes s line t.objects name) (λ s line t. NextName s (done_call line) t) leaves_each next_each

made_next : (s : State) (line : Line) (t : State) → NextName s (done_call line) t → makes_object (done_call line) ≡ true → s.next_name.0 < t.next_name.0
made_next s line t next made = by (makes_object (done_call line)) made next
  where
    by : (b : Bool) → b ≡ true → t.next_name.0 ≡ elim b [ true ↦ s.next_name.0 + 1 | false ↦ s.next_name.0 ] → s.next_name.0 < t.next_name.0
    by true e g = omega (arith, g)
    by false e g = absurd (false≢true e)

given_line : (s : State) (line : Line) (t : State) → Told s line t → ObjectsGiven s → ObjectsGiven t
given_line s line t told h name o e = by (told.0 h name)
  where
    by : Becomes s line t.objects name → name.0 < t.next_name.0
    by (Stays same) = let low = h name o (sym same ∙ e) in let up = next_up s (done_call line) t told.1 in omega (arith, low, up)
    by (Goes was go opening stood gone) = let clash : None ≡ Some o = sym gone ∙ e in absurd (cc)
    by (Changes before after c was is kind) = let low = h name before was in let up = next_up s (done_call line) t told.1 in omega (arith, low, up)
    by (IsNew new made is none at kind how) = let up = made_next s line t told.1 made in let same : name.0 ≡ s.next_name.0 = ap (λ (n : Name). n.0) is in omega (arith, same, up)

kind_line : (name : Name) (o : Object) (s : State) (line : Line) (t : State) → Told s line t → ObjectsGiven s → IsOfKind name o s → IsOfKind name o t
kind_line name o s line t told given h = (let low = h.0 in let up = next_up s (done_call line) t told.1 in omega (arith, low, up), λ x e. by x e (told.0 given name))
  where
    by : (x : Object) → there t.objects name ≡ Some x → Becomes s line t.objects name → IsSameKind o x
    by x e (Stays same) = h.1 x (sym same ∙ e)
    by x e (Goes was go opening stood gone) = let clash : None ≡ Some x = sym gone ∙ e in absurd (cc)
    by x e (Changes before after c was is kind) =
        let same : after ≡ x = some_object (sym is ∙ e) in
        kind_next o before x (h.1 before was) (subst (λ (y : Object). IsSameKind before y) same kind)
    by x e (IsNew new made is none at kind how) = let low = h.0 in let same : name.0 ≡ s.next_name.0 = ap (λ (n : Name). n.0) is in absurd (omega (arith, same, low))

gone_line : (name : Name) (s : State) (line : Line) (t : State) → Told s line t → ObjectsGiven s → HasGone name s → HasGone name t
gone_line name s line t told given h = (let low = h.0 in let up = next_up s (done_call line) t told.1 in omega (arith, low, up), by (told.0 given name))
  where
    by : Becomes s line t.objects name → there t.objects name ≡ None
    by (Stays same) = same ∙ h.1
    by (Goes was go opening stood gone) = gone
    by (Changes before after c was is kind) = let clash : None ≡ Some before = sym h.1 ∙ was in absurd (cc)
    by (IsNew new made is none at kind how) = let low = h.0 in let same : name.0 ≡ s.next_name.0 = ap (λ (n : Name). n.0) is in absurd (omega (arith, same, low))

pub given_each : EachStep (λ s line t. ObjectsGiven s → ObjectsGiven t)
given_each = each_more Told (λ s line t. ObjectsGiven s → ObjectsGiven t) given_line told_each

pub kind_each : (name : Name) (o : Object) → EachStep (λ s line t. ObjectsGiven s × IsOfKind name o s → ObjectsGiven t × IsOfKind name o t)
kind_each name o = each_more Told (λ s line t. ObjectsGiven s × IsOfKind name o s → ObjectsGiven t × IsOfKind name o t)
    (λ s line t told h. (given_line s line t told h.0, kind_line name o s line t told h.0 h.1)) told_each

pub gone_each : (name : Name) → EachStep (λ s line t. ObjectsGiven s × HasGone name s → ObjectsGiven t × HasGone name t)
gone_each name = each_more Told (λ s line t. ObjectsGiven s × HasGone name s → ObjectsGiven t × HasGone name t)
    (λ s line t told h. (given_line s line t told h.0, gone_line name s line t told h.0 h.1)) told_each

-- ---- the opening

found_below : (n : ℕ) (os : List Object) (name : Name) (o : Object) → there (numbered {A = Object} {B = Name} (λ k. record { 0 = k }) n os) name ≡ Some o → name.0 < n + length os
found_below n [] name o e = absurd (cc)
found_below n (x ∷ os) name o e = by (same_name name (record { 0 = n })) refl e (found_below (n + 1) os name o)
  where
    by : (b : Bool) → same_name name (record { 0 = n }) ≡ b → cond b (Some x) (there (numbered {A = Object} {B = Name} (λ k. record { 0 = k }) (n + 1) os) name) ≡ Some o
        → (there (numbered {A = Object} {B = Name} (λ k. record { 0 = k }) (n + 1) os) name ≡ Some o → name.0 < n + 1 + length os) → name.0 < n + length (x ∷ os)
    by true g h later = let same : name.0 ≡ n = ap (λ (k : Name). k.0) (name_same name (record { 0 = n }) g) in omega (arith, same)
    by false g h later = let low = later h in omega (arith, low)

pub opening_objects : (w : WorldValue) → ObjectsGiven (opening w)
unfolding opening
opening_objects w name o e =
    let low = found_below 0 (replicate kernel_types type_object ++ map (λ (b : Born). object_of b.kind) w.objects) name o e in
    let many = born_count w.objects in
    omega (arith, low, many)

-- ---- every moment

pub objects_given_at : (w : WorldValue) (lines : List Line) (moment : ℕ) → AreStepsOf w lines → ObjectsGiven (state_at w lines moment)
unfolding opened
objects_given_at w lines moment steps = state_kept ObjectsGiven given_each w (opened w) (take moment lines) (first_steps w (opened w) lines moment steps) (opening_objects w)

-- what becomes of each object, in every history
pub leaves_others : (w : WorldValue) (lines : List Line) → AreStepsOf w lines → LeavesOthers w lines
leaves_others w lines steps moment line at name =
    let before = after_lines w (opened w) (take moment lines) in
    subst (λ (m : Machine). Becomes before.state line m.state.objects name) (sym (after_next w (opened w) lines moment line at))
    (moved_holds (λ s l t. ObjectsGiven s → (name : Name) → Becomes s l t.objects name) leaves_each w before line (line_steps w (opened w) lines moment line steps at)
    (objects_given_at w lines moment steps) name)

-- what a law keeps from line to line it keeps from a moment to a later one
pub from_moment : (I : State → Type 0) → EachStep (λ s line t. I s → I t) → (w : WorldValue) (lines : List Line) (early late : ℕ) → AreStepsOf w lines → early ≤ late
    → I (state_at w lines early) → I (state_at w lines late)
from_moment I each w lines early late steps l h =
    let some = first_steps w (opened w) lines late steps in
    let same : after_lines w (opened w) (take early (take late lines)) ≡ after_lines w (opened w) (take early lines) =
    ap (after_lines w (opened w)) (take_less early late lines l) in
    let before : I (after_lines w (opened w) (take early (take late lines))).state = subst (λ (m : Machine). I m.state) (sym same) h in
    subst (λ (m : Machine). I m.state) (after_later w (opened w) (take late lines) early)
    (state_kept I each w (after_lines w (opened w) (take early (take late lines))) (drop early (take late lines)) (later_steps w (opened w) (take late lines) early some) before)

-- an object keeps its type, its code and its parameters for as long as it stands
kind_stays : (w : WorldValue) (lines : List Line) (early late : ℕ) (name : Name) (o x : Object) → AreStepsOf w lines → early ≤ late
    → there (state_at w lines early).objects name ≡ Some o → there (state_at w lines late).objects name ≡ Some x → IsSameKind o x
kind_stays w lines early late name o x steps l e g =
    (from_moment (λ s. ObjectsGiven s × IsOfKind name o s) (kind_each name o) w lines early late steps l (
      objects_given_at w lines early steps,
      (
        objects_given_at w lines early steps name o e,
        λ y f. subst (λ (z : Object). IsSameKind o z)
            (some_object (sym e ∙ f)) (kind_self o),
      ),
    )).1.1 x g

-- an object that has gone does not come again
gone_stays : (w : WorldValue) (lines : List Line) (early late : ℕ) (name : Name) → AreStepsOf w lines → early ≤ late → name.0 < (state_at w lines early).next_name.0
    → there (state_at w lines early).objects name ≡ None → there (state_at w lines late).objects name ≡ None
gone_stays w lines early late name steps l low e =
    (from_moment (λ s. ObjectsGiven s × HasGone name s) (gone_each name) w lines early late steps l (objects_given_at w lines early steps, (low, e))).1.1

pub names_last : (w : WorldValue) (lines : List Line) → AreStepsOf w lines → NamesLast w lines
names_last w lines steps = record {
  kinds = λ early late name before after l e g. kind_stays w lines early late name before after steps l e g;
  gone = λ early late name l low e. gone_stays w lines early late name steps l low e;
}
