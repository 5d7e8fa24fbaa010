-- What every state of a history has: codes of procedures, a current incarnation of each process that calls none, and callers
-- that live.
-- docs/RULES.md, "Objects, incarnations, processes".
use Rattle.std.specs.Prelude.{◌≡◌, ◌==◌, ◌⊎◌, ℕ, true, List, Some, IsSome}
use Rattle.std.specs.Map.{lookup}
use Rattle.hk_model.specs.declared.names.Name.{Name}
use Rattle.hk_model.specs.declared.names.Inc.{Inc}
use Rattle.hk_model.specs.declared.names.Proc.{Proc}
use Rattle.hk_model.specs.declared.objects.Object.{Object}
use Rattle.hk_model.specs.declared.objects.Incarnation.{Incarnation}
use Rattle.hk_model.specs.declared.lines.Line.{Line}
use Rattle.hk_model.specs.WorldValue.{WorldValue}
use Rattle.hk_model.specs.State.{State, process, same_inc}
use Rattle.hk_model.specs.Targets.{PROCEDURE}
use Rattle.hk_model.specs.Running.{state_at}
use Rattle.hk_model.specs.Effects.{there}

-- each procedure that stands has a code
abbrev pub ProceduresHaveCodes : State → Type 0
ProceduresHaveCodes s = (name : Name) (o : Object) → there s.objects name ≡ Some o → (o.of.0 == PROCEDURE) ≡ true → IsSome o.code

-- the incarnation of this number lives, and is this one
abbrev pub Lives : State → Inc → Incarnation → Type 0
Lives s i x = lookup (same_inc i) s.incarnations ≡ Some x

-- it is the caller of one that lives
pub record IsCaller (s : State) (i : Inc) : Type 0 where
  pub callee : Inc
  pub called : Incarnation
  pub lives : Lives s callee called
  pub by : called.caller ≡ Some i

-- of the live incarnations of a process the current one calls none, and every other one calls one; and where one lives the
-- current one does
pub record CurrentsCallNone (s : State) : Type 0 where
  pub none : (i : Inc) (x : Incarnation) → Lives s i x → (process s x.proc).current ≡ i → IsCaller s i → ⊥
  pub others : (i : Inc) (x : Incarnation) → Lives s i x → ((process s x.proc).current ≡ i) ⊎ IsCaller s i
  pub lives : (i : Inc) (x : Incarnation) → Lives s i x → IsSome (lookup (same_inc (process s x.proc).current) s.incarnations)

-- the incarnation of this number lives, and is of this process
pub record IsKin (s : State) (i : Inc) (proc : Proc) : Type 0 where
  pub is : Incarnation
  pub lives : Lives s i is
  pub same : is.proc ≡ proc

-- each caller lives, is of the process of the one that it called, and is the caller of no other
pub record CallersAreKin (s : State) : Type 0 where
  pub live : (i caller : Inc) (x : Incarnation) → Lives s i x → x.caller ≡ Some caller → IsKin s caller x.proc
  pub one : (i j caller : Inc) (x y : Incarnation) → Lives s i x → Lives s j y → x.caller ≡ Some caller → y.caller ≡ Some caller → i ≡ j

-- at every moment
pub record AreShapes (w : WorldValue) (lines : List Line) : Type 0 where
  pub codes : (moment : ℕ) → ProceduresHaveCodes (state_at w lines moment)
  pub currents : (moment : ℕ) → CurrentsCallNone (state_at w lines moment)
  pub callers : (moment : ℕ) → CallersAreKin (state_at w lines moment)
