-- The arguments of a call, its name space, copies and room: the rule table answers what the judgments of the inference rules say.
use Rattle.std.proofs.Common.{◌≡◌, ◌<◌, ◌≤◌, ◌==◌, ℕ, suc, ◌+◌, ◌-◌, ◌++◌, List, [], ◌∷◌, length, map, Bool, not, Result, Ok, Err}
use Rattle.std.proofs.Common.{refl, sym, ◌∙◌, ap, cond, arith}
use Rattle.std.specs.Prelude.{nat_lt, nat_le, All, replicate}
use Rattle.std.proofs.lemmas.Bool.{lt-ltb, le-ltb, le-leb, lt-leb}
use Rattle.hk_model.specs.declared.names.Name.{Name}
use Rattle.hk_model.specs.declared.names.Inc.{Inc}
use Rattle.hk_model.specs.declared.objects.Object.{Object}
use Rattle.hk_model.specs.declared.entries.Cap.{Cap}
use Rattle.hk_model.specs.declared.entries.Param.{Param}
use Rattle.hk_model.specs.declared.entries.Entry.{Entry}
use Rattle.hk_model.specs.declared.entries.Entry.TheVariants.{Empty, Held, Form}
use Rattle.hk_model.specs.declared.calls.Refusal.{Refusal}
use Rattle.hk_model.specs.declared.calls.Refusal.TheVariants as refused
use Rattle.hk_model.specs.declared.calls.What8.TheVariants as full
use Rattle.hk_rights.specs.Rights.{has, env_right, unconf_right}
use Rattle.hk_model.specs.Limits.{object_limit, slot_limit}
use Rattle.hk_model.specs.State.{State, object}
use Rattle.hk_model.specs.Keeping.{rooted_objects}
use Rattle.hk_model.specs.Refusing.{◌>>=◌, ◌>>◌, unless}
use Rattle.hk_model.specs.Merging.{merged, merged_arg, merged_all, inherited, call_slots, name_space}
use Rattle.hk_model.specs.Rule.{room_made, copied, slots_at, type_held, argument}
use Rattle.hk_model.specs.Judgments.{IsSlot, Stands, NoCapability, Passes, passes_none, passes_more}
use Rattle.hk_model.specs.Judgments.{PassesNot, argument_missing, argument_refused, argument_later, Inherits, inherits_none, inherits_as_is, inherits_empty, inherits_template, inherits_confined}
use Rattle.hk_model.specs.Judgments.{CopiesTo, copies_nothing, copies_template, leaves_template, copies_capability, leaves_capability, CopiesAll, copies_none, copies_more}
use Rattle.hk_model.specs.Judgments.{IsFullTable}
use Rattle.hk_model.specs.Does.{FirstNoSlot, this_slot, later_slot}
use Rattle.hk_model.proofs.TestsAgree.{ok_then, ok_and, err_then, err_and, below_ok, below_err}
use Rattle.hk_top.proofs.DoesWalks.{reduction_is}
use Rattle.hk_top.proofs.DoesTests.{not_true, same_number, same_is, held_err, merged_ok, merged_err}

-- lists of which the first items and the rests are equal
two : {a b : Entry} {xs ys : List Entry} → a ≡ b → xs ≡ ys → a ∷ xs ≡ b ∷ ys
two e g = cc

-- ---- the arguments' slots

pub slots_ok : (args : List ℕ) (step : ℕ) → All IsSlot args → slots_at args step ≡ Ok tt
slots_ok [] step h = refl
slots_ok (slot ∷ args) step h =
    let first : IsSlot slot = h 0 slot (omega arith) in
    ok_and (slots_at args (step + 1)) (below_ok slot slot_limit (refused.Range step) first) (slots_ok args (step + 1) (λ k d less. h (suc k) d (omega (arith, less))))

pub slots_err : {args : List ℕ} {step found : ℕ} → FirstNoSlot step args found → slots_at args step ≡ Err (refused.Range found)
slots_err (this_slot {step = step} {slot = slot} {slots = slots} h) = err_and (slots_at slots (step + 1)) (below_err slot slot_limit (refused.Range step) h)
slots_err (later_slot {step = step} {slot = slot} {slots = slots} h more) =
    ok_and (slots_at slots (step + 1)) (below_ok slot slot_limit (refused.Range step) h) (slots_err more)

-- ---- the arguments of a call

-- what is inherited
inherits_is : {by : ℕ} {entries found : List Entry} → Inherits by entries found → found ≡ map (inherited (not (has by unconf_right))) entries
inherits_is inherits_none = refl
inherits_is (inherits_as_is {entry = entry} u rest) = two (ap (λ b. inherited (not b) entry) (sym u)) (inherits_is rest)
inherits_is (inherits_empty u rest) = two (ap (λ b. inherited (not b) Empty) (sym u)) (inherits_is rest)
inherits_is (inherits_template {form = form} u rest) = two (ap (λ b. inherited (not b) (Form form)) (sym u)) (inherits_is rest)
inherits_is (inherits_confined {cap = cap} u rest) = two (ap (λ b. inherited (not b) (Held cap)) (sym u)) (inherits_is rest)

module _ (s : State) (inc : Inc) where
  abbrev merges_of : Param → ℕ → Entry → Result Cap Refusal
  merges_of param step e = merged_arg (record { entry = e; of = type_held s e }) param step

  -- an argument that is a capability, and one that is none
  arg_held : (slot : ℕ) {cap : Cap} {r : Result Cap Refusal} (param : Param) (step : ℕ) → Stands s inc slot (Held cap) → merged cap (object s cap.name).of param step ≡ r
      → merged_arg (argument s inc slot) param step ≡ r
  arg_held slot param step stands h = ap (merges_of param step) stands ∙ h

  arg_none : (slot : ℕ) {entry : Entry} {refusal : Refusal} (param : Param) (step : ℕ) → Stands s inc slot entry → NoCapability step entry refusal
      → merged_arg (argument s inc slot) param step ≡ Err refusal
  arg_none slot {entry = entry} param step stands h =
      ap (merges_of param step) stands ∙ err_then (λ cap. merged cap (type_held s entry) param step) (held_err h)

  passes_ok : {args : List ℕ} {params : List Param} {caps : List Cap} (step : ℕ) → Passes s inc args params caps
      → merged_all (map (argument s inc) args) params step ≡ Ok caps
  passes_ok step passes_none = refl
  passes_ok step (passes_more {slot = slot} {args = args} {param = param} {params = params} {new = new} {caps = caps} stands m rest) =
      ok_then (λ x. merged_all (map (argument s inc) args) params (step + 1) >>= (λ others. Ok (x ∷ others))) (arg_held slot param step stands (merged_ok step m))
      (ok_then (λ others. Ok (new ∷ others)) (passes_ok (step + 1) rest) refl)

  passes_err : {step : ℕ} {args : List ℕ} {params : List Param} {refusal : Refusal} → PassesNot s inc step args params refusal
      → merged_all (map (argument s inc) args) params step ≡ Err refusal
  passes_err (argument_missing {step = step} {slot = slot} {args = args} {param = param} {params = params} stands h) =
      err_then (λ x. merged_all (map (argument s inc) args) params (step + 1) >>= (λ others. Ok (x ∷ others))) (arg_none slot param step stands h)
  passes_err (argument_refused {step = step} {slot = slot} {args = args} {param = param} {params = params} stands h) =
      err_then (λ x. merged_all (map (argument s inc) args) params (step + 1) >>= (λ others. Ok (x ∷ others))) (arg_held slot param step stands (merged_err h))
  passes_err (argument_later {step = step} {slot = slot} {args = args} {param = param} {params = params} {new = new} stands m h) =
      ok_then (λ x. merged_all (map (argument s inc) args) params (step + 1) >>= (λ others. Ok (x ∷ others))) (arg_held slot param step stands (merged_ok step m))
      (err_then (λ others. Ok (new ∷ others)) (passes_err h))

  -- arguments that pass are as many as the parameters
  passes_count : {args : List ℕ} {params : List Param} {caps : List Cap} → Passes s inc args params caps → length args ≡ length params
  passes_count passes_none = refl
  passes_count (passes_more stands m rest) = ap suc (passes_count rest)

  arguments_length : (args : List ℕ) → length (map (argument s inc) args) ≡ length args
  arguments_length [] = refl
  arguments_length (a ∷ args) = ap suc (arguments_length args)

  -- ---- the name space of a call

  module _ (args : List ℕ) (params : List Param) (entries : List Entry) (confined : Bool) (step : ℕ) where
    abbrev fits : List Cap → Result (List Entry) Refusal
    fits caps = unless (nat_le (length caps + length entries) slot_limit) (refused.Full full.Slots) >> Ok (call_slots caps entries confined)

    abbrev spaces : Result (List Entry) Refusal
    spaces = name_space (map (argument s inc) args) params entries confined step

    abbrev passing : Result (List Entry) Refusal
    passing = merged_all (map (argument s inc) args) params step >>= fits

    as_many : length args ≡ length params → unless (length (map (argument s inc) args) == length params) refused.Count ≡ Ok tt
    as_many e = ap (λ b. unless b refused.Count) (same_is (length (map (argument s inc) args)) (length params) (arguments_length args ∙ e))

    pub space_ok : {caps : List Cap} → Passes s inc args params caps → length caps + length entries ≤ slot_limit → spaces ≡ Ok (call_slots caps entries confined)
    space_ok {caps} h room =
        ok_and passing (as_many (passes_count h))
        (ok_then fits (passes_ok step h) (ok_and (Ok (call_slots caps entries confined))
        (ap (λ b. unless b (refused.Full full.Slots)) (le-leb (length caps + length entries) slot_limit room)) refl))

    pub space_full : {caps : List Cap} → Passes s inc args params caps → slot_limit < length caps + length entries → spaces ≡ Err (refused.Full full.Slots)
    space_full {caps} h over =
        ok_and passing (as_many (passes_count h))
        (ok_then fits (passes_ok step h) (err_and (Ok (call_slots caps entries confined))
        (ap (λ b. unless b (refused.Full full.Slots)) (lt-leb (length caps + length entries) slot_limit over))))

    pub space_err : {refusal : Refusal} → length args ≡ length params → PassesNot s inc step args params refusal → spaces ≡ Err refusal
    space_err e h = ok_and passing (as_many e) (err_then fits (passes_err h))

    pub space_count : (length args ≡ length params → ⊥) → spaces ≡ Err refused.Count
    space_count h =
        err_and passing (ap (λ b. unless b refused.Count) (not_true (length (map (argument s inc) args) == length params) (λ e.
        h (sym (arguments_length args) ∙ same_number (length (map (argument s inc) args)) (length params) e))))

-- what the name space holds
pub call_slots_is : (caps : List Cap) {by : ℕ} {entries found : List Entry} → Inherits by entries found
    → call_slots caps entries (not (has by unconf_right)) ≡ map (λ (c : Cap). Held c) caps ++ (found ++ replicate (slot_limit - (length caps + length entries)) Empty)
call_slots_is caps {by} {entries} {found} h =
    ap (λ xs. map (λ (c : Cap). Held c) caps ++ (xs ++ replicate (slot_limit - (length caps + length entries)) Empty)) (sym (inherits_is h))

-- ---- copies

-- an entry of a copy
copy_is : {by : ℕ} {entry copy : Entry} → CopiesTo by entry copy → copy ≡ copied by entry
copy_is copies_nothing = refl
copy_is (copies_template h) = rw h refl
copy_is (leaves_template h) = rw h refl
copy_is {by} (copies_capability {cap = cap} {rights = rights} r env) = ap (λ b. cond b (Held (record cap { rights = rights })) Empty) (sym env)
    ∙ ap (λ n. cond (has n env_right) (Held (record cap { rights = n })) Empty) (reduction_is r)
copy_is {by} (leaves_capability {cap = cap} {rights = rights} r env) = ap (λ b. cond b (Held (record cap { rights = rights })) Empty) (sym env)
    ∙ ap (λ n. cond (has n env_right) (Held (record cap { rights = n })) Empty) (reduction_is r)

pub copies_are : {by : ℕ} {entries copies : List Entry} → CopiesAll by entries copies → map (copied by) entries ≡ copies
copies_are copies_none = refl
copies_are (copies_more c rest) = two (sym (copy_is c)) (copies_are rest)

-- ---- room

abbrev collects : State → Result (List (Name × Object)) Refusal
collects s = unless (nat_lt (length (rooted_objects s)) object_limit) (refused.Full full.Objects) >> Ok (rooted_objects s)

pub room_already : (s : State) → length s.objects < object_limit → room_made s ≡ Ok s.objects
room_already s h = ap (λ b. cond b (Ok s.objects) (collects s)) (lt-ltb (length s.objects) object_limit h)

pub room_collected : (s : State) → object_limit ≤ length s.objects → length (rooted_objects s) < object_limit → room_made s ≡ Ok (rooted_objects s)
room_collected s h few =
    ap (λ b. cond b (Ok s.objects) (collects s)) (le-ltb (length s.objects) object_limit h)
    ∙ ok_and (Ok (rooted_objects s)) (below_ok (length (rooted_objects s)) object_limit (refused.Full full.Objects) few) refl

pub room_err : (s : State) → IsFullTable s → room_made s ≡ Err (refused.Full full.Objects)
room_err s h =
    ap (λ b. cond b (Ok s.objects) (collects s)) (le-ltb (length s.objects) object_limit h.full)
    ∙ err_and (Ok (rooted_objects s)) (below_err (length (rooted_objects s)) object_limit (refused.Full full.Objects) h.rooted)
