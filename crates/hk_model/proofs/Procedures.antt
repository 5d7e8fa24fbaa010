-- Each procedure that stands has a code.
use Rattle.std.proofs.Common.{◌≡◌, ◌==◌, ℕ, zero, suc, List, [], ◌∷◌, ◌++◌, true, false, Option, Some, None, refl, sym, ◌∙◌, ap, subst, arith, map, replicate, ◌≤◌}
use Rattle.std.specs.Prelude.{IsSome, ◌⊎◌, take}
use Rattle.std.specs.List.{AllByRecursion}
use mathlib.Core.Logic.{inl, inr}
use Rattle.std.specs.Option.{unwrap_or}
use Rattle.std.proofs.lemmas.Bool.{true≢false, false≢true}
use Rattle.std.proofs.lemmas.Bool.Decides.{nat_tests}
use Rattle.hk_model.specs.declared.names.Name.{Name}
use Rattle.hk_model.specs.declared.objects.Object.{Object}
use Rattle.hk_model.specs.declared.lines.Line.{Line}
use Rattle.hk_model.specs.declared.world.Born.{Born}
use Rattle.hk_model.specs.declared.world.Kind.{Kind}
use Rattle.hk_model.specs.declared.world.Kind.TheVariants as kind
use Rattle.hk_model.specs.WorldValue.{WorldValue, IsKind, IsWorld, IsPlainType}
use Rattle.hk_model.specs.State.{State, no_object}
use Rattle.hk_model.specs.Targets.{DATA, UNIVERSAL, PROCEDURE, kernel_types}
use Rattle.hk_model.specs.Opening.{opening, object_of, type_object}
use Rattle.hk_model.specs.Running.{opened, state_at, AreStepsOf}
use Rattle.hk_model.specs.Effects.{Becomes, Stays, Goes, Changes, IsNew}
use Rattle.hk_model.specs.Shapes.{ProceduresHaveCodes, AreShapes}
use Rattle.hk_model.proofs.Steps.{EachStep, each_both, each_more, state_kept, first_steps}
use Rattle.hk_model.proofs.ObjectsLeft.{ObjectsGiven, leaves_each}
use Rattle.hk_model.proofs.KindsStay.{given_each, opening_objects}
use Rattle.hk_model.proofs.NamesGiven.{numbered_holds}
use Rattle.hk_model.proofs.Linked.{currents_at}
use Rattle.hk_model.proofs.CallersLive.{callers_at}

-- a procedure has a code
abbrev HasCode : Object → Type 0
HasCode o = (o.of.0 == PROCEDURE) ≡ true → IsSome o.code

some_object : {x y : Object} → ◌≡◌ {A = Option Object} (Some x) (Some y) → x ≡ y
some_object h = cc

-- a line keeps it
line_codes : (s : State) (line : Line) (t : State) → ((name : Name) → Becomes s line t.objects name) → ProceduresHaveCodes s → ProceduresHaveCodes t
line_codes s line t becomes h name o e p = by (becomes name)
  where
    by : Becomes s line t.objects name → IsSome o.code
    by (Stays same) = h name o (sym same ∙ e) p
    by (Goes was go opening stood gone) = let clash : None ≡ Some o = sym gone ∙ e in absurd (cc)
    by (Changes before after told was is kind) =
        let same : after ≡ o = some_object (sym is ∙ e) in
        let of : o.of ≡ before.of = ap (λ (x : Object). x.of) (sym same) ∙ kind.of in
        let code : o.code ≡ before.code = ap (λ (x : Object). x.code) (sym same) ∙ kind.code in
        rw code (h name before was (ap (λ (n : Name). n.0 == PROCEDURE) (sym of) ∙ p))
    by (IsNew new made is none at kind how) =
        let same : new ≡ o = some_object (sym at ∙ e) in
        absurd (true≢false (sym p ∙ (ap (λ (x : Object). x.of.0 == PROCEDURE) (sym same) ∙ kind.of)))

codes_each : EachStep (λ s line t. ObjectsGiven s × ProceduresHaveCodes s → ObjectsGiven t × ProceduresHaveCodes t)
codes_each =
    each_more (λ s line t. (ObjectsGiven s → (name : Name) → Becomes s line t.objects name) × (ObjectsGiven s → ObjectsGiven t))
    (λ s line t. ObjectsGiven s × ProceduresHaveCodes s → ObjectsGiven t × ProceduresHaveCodes t)
    (λ s line t known h. (known.1 h.0, line_codes s line t (known.0 h.0) h.1))
    (each_both (λ s line t. ObjectsGiven s → (name : Name) → Becomes s line t.objects name) (λ s line t. ObjectsGiven s → ObjectsGiven t) leaves_each given_each)

-- ---- the opening

number_plain : (n : ℕ) → ((n ≡ DATA) ⊎ ((n ≡ UNIVERSAL) ⊎ (kernel_types ≤ n))) → (n == PROCEDURE) ≡ false
number_plain n (inl e) = grind (arith, nat_tests, e)
number_plain n (inr (inl e)) = grind (arith, nat_tests, e)
number_plain n (inr (inr e)) = grind (arith, nat_tests, e)

kind_code : (w : WorldValue) (k : Kind) → IsKind w k → HasCode (object_of k)
kind_code w kind.TypeObject h p = absurd (false≢true p)
kind_code w (kind.Plain of words entries) h p = absurd (false≢true (sym (number_plain of.0 (by h.0)) ∙ p))
  where
    by : IsPlainType w of entries → (of.0 ≡ DATA) ⊎ ((of.0 ≡ UNIVERSAL) ⊎ (kernel_types ≤ of.0))
    by (inl e) = inl e.0
    by (inr (inl e)) = inr (inl e)
    by (inr (inr d)) = inr (inr d.above)
kind_code w (kind.Semaphore count) h p = absurd (false≢true p)
kind_code w (kind.Procedure code params entries) h p = refl

kinds_code : (w : WorldValue) (bs : List Born) → AllByRecursion (λ (b : Born). IsKind w b.kind) bs → AllByRecursion HasCode (map (λ (b : Born). object_of b.kind) bs)
kinds_code w [] h = tt
kinds_code w (b ∷ bs) h = (kind_code w b.kind h.0, kinds_code w bs h.1)

types_code : (n : ℕ) (os : List Object) → AllByRecursion HasCode os → AllByRecursion HasCode (replicate n type_object ++ os)
types_code zero os h = h
types_code (suc n) os h = (λ p. absurd (false≢true p), types_code n os h)

opening_codes : (w : WorldValue) → IsWorld w → ProceduresHaveCodes (opening w)
unfolding opening
opening_codes w world name o e p =
    let all = types_code kernel_types (map (λ (b : Born). object_of b.kind) w.objects) (kinds_code w w.objects world.kinds) in
    let found = numbered_holds HasCode (λ q. absurd (false≢true q)) 0 (replicate kernel_types type_object ++ map (λ (b : Born). object_of b.kind) w.objects) all name in
    subst HasCode (ap (λ (x : Option Object). unwrap_or x no_object) e) found p

-- ---- every moment

pub codes_at : (w : WorldValue) (lines : List Line) → IsWorld w → AreStepsOf w lines → (moment : ℕ) → ProceduresHaveCodes (state_at w lines moment)
unfolding opened
codes_at w lines world steps moment =
    (state_kept (λ s. ObjectsGiven s × ProceduresHaveCodes s) codes_each w (opened w) (take moment lines) (first_steps w (opened w) lines moment steps)
    (opening_objects w, opening_codes w world)).1

pub shapes_are : (w : WorldValue) (lines : List Line) → IsWorld w → AreStepsOf w lines → AreShapes w lines
shapes_are w lines world steps = record { codes = codes_at w lines world steps; currents = currents_at w lines steps; callers = callers_at w lines steps }
