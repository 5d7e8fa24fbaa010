-- In a world of bare entries each call is confined, and the generated worlds are such.
use Rattle.std.proofs.Common.{◌≡◌, ℕ, zero, suc, ◌+◌, ◌-◌, List, [], ◌∷◌, ◌++◌, length, map, true, false, not, Option, Some, Ok, Err, refl, sym, ◌∙◌, ap, replicate, subst}
use Rattle.std.specs.Prelude.{IfOk, take, slice_index_or}
use Rattle.std.specs.List.{AllByRecursion}
use Rattle.std.specs.Option.{unwrap_or}
use Rattle.std.specs.Map.{lookup}
use Rattle.std.specs.BTreeMap.{insert_entry}
use Rattle.std.proofs.lemmas.Bool.{true≢false}
use Rattle.hk_rights.specs.Rights.{A0, has, unconf_right}
use Rattle.hk_model.specs.declared.names.Name.{Name}
use Rattle.hk_model.specs.declared.names.Inc.{Inc}
use Rattle.hk_model.specs.declared.names.Proc.{Proc}
use Rattle.hk_model.specs.declared.names.Slot.{Slot}
use Rattle.hk_model.specs.declared.entries.Cap.{Cap}
use Rattle.hk_model.specs.declared.entries.Entry.{Entry}
use Rattle.hk_model.specs.declared.entries.Entry.TheVariants.{Empty, Held}
use Rattle.hk_model.specs.declared.calls.Call.{Call}
use Rattle.hk_model.specs.declared.calls.Call.TheVariants as call
use Rattle.hk_model.specs.declared.lines.What.TheVariants as what
use Rattle.hk_model.specs.declared.lines.Line.{Line}
use Rattle.hk_model.specs.declared.objects.Object.{Object}
use Rattle.hk_model.specs.declared.objects.Incarnation.{Incarnation}
use Rattle.hk_model.specs.declared.world.Born.{Born}
use Rattle.hk_model.specs.Limits.{slot_limit}
use Rattle.hk_model.specs.WorldValue.{WorldValue}
use Rattle.hk_model.specs.State.{State, incarnation, process, same_name, same_inc, inc_cmp, no_object, no_incarnation}
use Rattle.hk_model.specs.Opening.{opening, numbered, type_object, object_of, bases, base_of}
use Rattle.hk_model.specs.Targets.{PROCEDURE, kernel_types, is_of_type, target}
use Rattle.hk_model.specs.Rule.{Outcome, outcome, settled, enter, called_incarnation, enter_procedure}
use Rattle.hk_model.specs.Places.{SlotOf, EntryOf}
use Rattle.hk_model.specs.Running.{Machine, opened, moved, machine_at, state_at, AreStepsOf}
use Rattle.hk_model.specs.Lines.{done_by, done_call, enters_call}
use Rattle.hk_model.specs.Generated.{generate, objects, processes_from, process_numbered, main_slots}
use Rattle.hk_model.proofs.Standing.{inc_laws, insert_holds, on_cond}
use Rattle.hk_model.proofs.TestLemmas.{then_is, and_is, ok_each}
use Rattle.hk_model.proofs.WalkLemmas.{target_is}
use Rattle.hk_model.proofs.LineWays.{answered_done}
use Rattle.hk_model.proofs.Steps.{EachStep, each_more, moved_holds, state_kept, first_steps, line_steps, after_next}
use Rattle.hk_model.proofs.Histories.{Sound, LineKnown, known_each, opening_sound}
use Rattle.hk_gen.specs.ConfinedCalls.{AllCallsConfined}
use Rattle.hk_gen.proofs.BareEntries.{Bare, IsBare, walked_bare, line_bare}

-- ---- what a call makes

-- where the entries are bare, the incarnation that an Enter makes is confined
abbrev MakesConfined : State → Option Call → State → Type 0
MakesConfined s c t = IsBare s → enters_call c ≡ true → (incarnation t s.next_inc).confined ≡ true

put_in : (es : List (Inc × Incarnation)) (n : Inc) (x : Incarnation) → unwrap_or (lookup (same_inc n) (insert_entry inc_cmp es n x)) no_incarnation ≡ x
put_in es n x = insert_holds inc_cmp inc_laws (λ b y. b ≡ true → y ≡ x) n n es x no_incarnation (λ h. refl) (λ h. absurd (cc)) (inc_laws.refl n)

enter_leaf : (s : State) (proc : Proc) (inc : Inc) (path args : List ℕ) (into : Slot) (cap : Cap) (slots : List Entry) → target s inc path (is_of_type PROCEDURE) A0 ≡ Ok cap
    → MakesConfined s (Some (call.Enter path args into)) (enter s (called_incarnation proc cap.name inc into (not (has cap.rights unconf_right)) slots))
enter_leaf s proc inc path args into cap slots h bare e =
    let lacks : has cap.rights unconf_right ≡ false = (walked_bare s inc bare path (Held cap) (target_is s inc path (is_of_type PROCEDURE) A0 cap h).leads).1 in
    ap (λ (x : Incarnation). x.confined) (put_in s.incarnations s.next_inc (called_incarnation proc cap.name inc into (not (has cap.rights unconf_right)) slots)) ∙ ap not lacks

enter_confined : (s : State) (proc : Proc) (inc : Inc) (path args : List ℕ) (into : Slot)
    → IfOk (enter_procedure s proc inc path args into) (λ f. MakesConfined s (Some (call.Enter path args into)) f.1)
unfolding enter_procedure
enter_confined s proc inc path args into = search (then_is, and_is, enter_leaf) depth 12

outcome_confined : (s : State) (proc : Proc) (inc : Inc) (c : Call) → IfOk (outcome s proc inc c) (λ f. MakesConfined s (Some c) f.1)
outcome_confined s proc inc (call.Enter path args into) = enter_confined s proc inc path args into
outcome_confined s proc inc c = ok_each (λ f. MakesConfined s (Some c) f.1) (outcome s proc inc c) (λ f bare e. absurd (true≢false (sym e)))

settled_confined : (s : State) (c : Call) (o : Outcome) → IfOk o (λ f. MakesConfined s (Some c) f.1) → MakesConfined s (done_by (what.Call c) (settled s o).0) (settled s o).1
settled_confined s c (Ok f) h = subst (λ (d : Option Call). MakesConfined s d f.1) (sym (answered_done c f.0)) h
settled_confined s c (Err r) h = λ bare e. absurd (true≢false (sym e))

confined_each : EachStep (λ s line t. MakesConfined s (done_call line) t)
confined_each = record {
  calls = λ s cpu proc c r. settled_confined s c (outcome s proc (process s proc).current c) (outcome_confined s proc (process s proc).current c);
  halts = λ s cpu proc r bare e. absurd (true≢false (sym e));
  dispatches = λ s cpu first rest r bare e. absurd (true≢false (sym e));
}

-- ---- every history

bare_at : (w : WorldValue) (lines : List Line) (moment : ℕ) → IsBare (opening w) → AreStepsOf w lines → IsBare (state_at w lines moment)
unfolding opened
bare_at w lines moment opens h =
    (state_kept (λ s. Sound s × IsBare s) (each_more (λ s line t. Sound s → LineKnown s line t) (λ s line t. Sound s × IsBare s → Sound t × IsBare t)
    (λ s line t k g. ((k g.0).after, line_bare s line t (k g.0) g.1)) known_each)
    w (opened w) (take moment lines) (first_steps w (opened w) lines moment h) (opening_sound w, opens)).1

-- where the world opens bare, each call is confined
bare_confines : (w : WorldValue) → IsBare (opening w) → AllCallsConfined w
bare_confines w opens lines h k call is = record { is = is; confined = rw (is.moment, is.made) there }
  where
    made : MakesConfined (state_at w lines is.earlier) (done_call is.line) (moved w (machine_at w lines is.earlier) is.line.cpu).state
    made = moved_holds (λ s line t. MakesConfined s (done_call line) t) confined_each w (machine_at w lines is.earlier) is.line
        (line_steps w (opened w) lines is.earlier is.line h is.is)

    there : (incarnation (state_at w lines (suc is.earlier)) (state_at w lines is.earlier).next_inc).confined ≡ true
    there =
        ap (λ (m : Machine). (incarnation m.state (state_at w lines is.earlier).next_inc).confined) (after_next w (opened w) lines is.earlier is.line is.is)
        ∙ made (bare_at w lines is.earlier opens h) is.enters

-- ---- the opening of a generated world

no_entry : (index : ℕ) → Bare (slice_index_or [] index Empty)
no_entry zero = tt
no_entry (suc n) = tt

empties_bare : (many index : ℕ) → Bare (slice_index_or (replicate many Empty) index Empty)
empties_bare zero index = no_entry index
empties_bare (suc many) zero = tt
empties_bare (suc many) (suc n) = empties_bare many n

-- each process holds the procedure, the word and the lock
held_bare : (index : ℕ) → Bare (slice_index_or (main_slots ++ replicate (slot_limit - length main_slots) Empty) index Empty)
held_bare zero = (refl, refl)
held_bare (suc zero) = (refl, refl)
held_bare (suc (suc zero)) = (refl, refl)
held_bare (suc (suc (suc n))) = empties_bare (slot_limit - length main_slots) n

slots_bare : (inc : Inc) (index first n many : ℕ)
    → Bare (slice_index_or (unwrap_or (lookup (same_inc inc) (bases first (processes_from n many))) no_incarnation).slots index Empty)
slots_bare inc index first n zero = no_entry index
slots_bare inc index first n (suc many) =
    on_cond (λ (o : Option Incarnation). Bare (slice_index_or (unwrap_or o no_incarnation).slots index Empty)) (same_inc inc (record { 0 = first }))
    (Some (base_of (record { 0 = first }) (process_numbered n).slots)) (lookup (same_inc inc) (bases (first + 1) (processes_from (n + 1) many)))
    (λ e. held_bare index) (λ e. slots_bare inc index (first + 1) (n + 1) many)

-- and no object lists anything
lists_bare : (name : Name) (index first : ℕ) (os : List Object) → AllByRecursion (λ (o : Object). o.entries ≡ []) os
    → Bare (slice_index_or (unwrap_or (lookup (same_name name) (numbered {A = Object} {B = Name} (λ n. record { 0 = n }) first os)) no_object).entries index Empty)
lists_bare name index first [] h = no_entry index
lists_bare name index first (o ∷ os) h =
    on_cond (λ (found : Option Object). Bare (slice_index_or (unwrap_or found no_object).entries index Empty)) (same_name name (record { 0 = first })) (Some o)
    (lookup (same_name name) (numbered {A = Object} {B = Name} (λ n. record { 0 = n }) (first + 1) os))
    (λ e. subst (λ (es : List Entry). Bare (slice_index_or es index Empty)) (sym h.0) (no_entry index)) (λ e. lists_bare name index (first + 1) os h.1)

opens_bare : (count : ℕ) → IsBare (opening (generate count))
unfolding opening generate
opens_bare count (SlotOf inc index) = slots_bare inc index 0 0 count
opens_bare count (EntryOf name index) =
    lists_bare name index 0 (replicate kernel_types type_object ++ map (λ (b : Born). object_of b.kind) objects)
    (refl, (refl, (refl, (refl, (refl, (refl, (refl, (refl, (refl, (refl, tt))))))))))

-- each call of a generated world is confined
pub generated_calls_are_confined : (count : ℕ) → AllCallsConfined (generate count)
generated_calls_are_confined count = bare_confines (generate count) (opens_bare count)
