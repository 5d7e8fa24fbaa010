-- A worked row: what chains and marks tell of one small world, and where they differ.
use Rattle.std.specs.Prelude.{◌≡◌, ℕ, ◌+◌, List, [], ◌∷◌, Some, None, true, take, map, refl}
use mathlib.Core.Logic.{inl, inr}
use Rattle.std.proofs.Common.{lit≤, arith, ap}
use Rattle.hk_model.specs.declared.names.Name.{Name}
use Rattle.hk_model.specs.declared.names.Inc.{Inc}
use Rattle.hk_model.specs.declared.names.Slot.{Slot}
use Rattle.hk_model.specs.declared.entries.Entry.{Entry}
use Rattle.hk_model.specs.declared.entries.Entry.TheVariants.{Held}
use Rattle.hk_model.specs.declared.calls.Call.TheVariants as call
use Rattle.hk_model.specs.declared.calls.Reply.TheVariants.{Done}
use Rattle.hk_model.specs.declared.instructions.Index.TheVariants.{Fixed}
use Rattle.hk_model.specs.declared.instructions.Instr.TheVariants as instr
use Rattle.hk_model.specs.declared.instructions.Route.{Route}
use Rattle.hk_model.specs.declared.lines.What.{What}
use Rattle.hk_model.specs.declared.lines.What.TheVariants as what
use Rattle.hk_model.specs.declared.lines.Line.{Line}
use Rattle.hk_model.specs.declared.world.Kind.TheVariants as kind
use Rattle.hk_rights.specs.Rights.{GETDATA, LOAD, COPY, ENV, A0, first_missing, right_numbers, right_table}
use Rattle.hk_model.specs.Limits.{usual_limit}
use Rattle.hk_model.specs.WorldValue.{WorldValue}
use Rattle.hk_model.specs.Targets.{DATA, UNIVERSAL}
use Rattle.hk_model.specs.Opening.{opening}
use Rattle.hk_model.specs.Control.{next, next_from, after}
use Rattle.hk_model.specs.Rule.{load_entry, restrict_slot, enter_procedure, leave}
use Rattle.hk_model.specs.Keeping.{kept_objects}
use Rattle.hk_model.specs.Running.{AreStepsOf, opened, step}
use Rattle.hk_model.specs.Places.{Place, SlotOf, EntryOf}
use Rattle.hk_model.specs.Descent.{chains}
use Rattle.hk_model.specs.Marks.{marks, IsLocalParam}
use Rattle.hk_descent.specs.Joined.{LeadsBack}

abbrev name : ℕ → Name
name n = record { 0 = n }

abbrev inc : ℕ → Inc
inc n = record { 0 = n }

abbrev slot : ℕ → Slot
slot n = record { 0 = n }

abbrev cap : ℕ → ℕ → Entry
cap n rights = Held (record { name = name n; rights = rights })

abbrev route : List ℕ → Route
route at = record { at = map (λ n. Fixed n) at }

abbrev slot_of : ℕ → ℕ → Place
slot_of i n = SlotOf (inc i) n

-- lines of processor 0 and of process 0
abbrev line : ℕ → What → Line
line i w = record { cpu = record { 0 = 0 }; proc = record { 0 = 0 }; inc = inc i; what = w; reply = Done }

-- a call loads through its parameter without ENV, and then restricts the parameter
abbrev joining : WorldValue
joining = record {
  limit = usual_limit;
  objects = record { label = 97 ∷ []; kind = kind.Plain (name DATA) [] [] }
      ∷ record { label = 98 ∷ []; kind = kind.Plain (name UNIVERSAL) [] (cap 7 (GETDATA + ENV) ∷ []) }
      ∷ record { label = 99 ∷ []; kind = kind.Procedure 0 (record { of = Some (name UNIVERSAL); check = LOAD; give = LOAD + COPY } ∷ []) [] }
      ∷ [];
  codes = record { label = 100 ∷ []; steps = instr.Load (route (0 ∷ 0 ∷ [])) (slot 1) ∷ instr.Restrict (slot 0) LOAD ∷ [] }
      ∷ record { label = 101 ∷ []; steps = instr.Enter (route (1 ∷ [])) (0 ∷ []) (slot 2) ∷ [] }
      ∷ [];
  tasks = record { label = 102 ∷ []; code = 1; slots = cap 8 (LOAD + COPY + ENV) ∷ cap 9 A0 ∷ [] } ∷ [];
}

abbrev joining_lines : List Line
joining_lines =
    line 0 what.Dispatch
    ∷ line 0 (what.Call (call.Enter (1 ∷ []) (0 ∷ []) (slot 2)))
    ∷ line 1 (what.Call (call.Load (0 ∷ 0 ∷ []) (slot 1)))
    ∷ line 1 (what.Call (call.Restrict (slot 0) LOAD))
    ∷ line 1 (what.Call (call.Leave None))
    ∷ []

joining-steps : AreStepsOf joining joining_lines
unfolding opened opening step next next_from after kept_objects load_entry restrict_slot enter_procedure leave first_missing right_numbers right_table
joining-steps = (refl, (refl, (refl, (refl, (refl, tt)))))

parameter-lacks-environment : IsLocalParam joining joining_lines 2 (inc 1) 0
unfolding opened opening step next next_from after kept_objects load_entry restrict_slot enter_procedure leave first_missing right_numbers right_table
parameter-lacks-environment = record {
  is = record { earlier = 1; moment = refl; line = line 0 (what.Call (call.Enter (1 ∷ []) (0 ∷ []) (slot 2))); is = refl; enters = refl; made = refl };
  cap = record { name = name 8; rights = LOAD + COPY };
  holds = refl;
  lacks = refl;
}

-- the chain of the restricted parameter leads back to it by the Restrict, and no further than its call: it is marked
restricted-leads-back : LeadsBack 2 (slot_of 1 0) (slot_of 1 0) (chains joining (take 4 joining_lines) (slot_of 1 0))
unfolding opened opening step next next_from after kept_objects load_entry restrict_slot enter_procedure leave first_missing right_numbers right_table
restricted-leads-back = inr (lit≤ tt, inl (lit≤ tt, refl))

restricted-is-marked : marks joining joining_lines 2 (inc 1) 0 4 (slot_of 1 0) ≡ true
unfolding opened opening step next next_from after kept_objects load_entry restrict_slot enter_procedure leave first_missing right_numbers right_table
restricted-is-marked = refl

-- what was loaded through it is marked too, by the walk alone: its chain leads back to the list, and not to the parameter
loaded-is-marked : marks joining joining_lines 2 (inc 1) 0 4 (slot_of 1 1) ≡ true
unfolding opened opening step next next_from after kept_objects load_entry restrict_slot enter_procedure leave first_missing right_numbers right_table
loaded-is-marked = refl

loaded-leads-to-the-list : LeadsBack 2 (EntryOf (name 8) 0) (slot_of 1 1) (chains joining (take 4 joining_lines) (slot_of 1 1))
unfolding opened opening step next next_from after kept_objects load_entry restrict_slot enter_procedure leave first_missing right_numbers right_table
loaded-leads-to-the-list = inr (lit≤ tt, refl)

-- whether it is a place in a list
abbrev in_list : Place → ℕ
in_list (SlotOf i n) = 0
in_list (EntryOf a n) = 1

loaded-leads-not-to-the-parameter : LeadsBack 2 (slot_of 1 0) (slot_of 1 1) (chains joining (take 4 joining_lines) (slot_of 1 1)) → ⊥
unfolding opened opening step next next_from after kept_objects load_entry restrict_slot enter_procedure leave first_missing right_numbers right_table
loaded-leads-not-to-the-parameter (inl h) = let few = h.0 in absurd (omega (arith, few))
loaded-leads-not-to-the-parameter (inr h) = let e : 1 ≡ 0 = ap in_list h.1 in absurd (omega (arith, e))
