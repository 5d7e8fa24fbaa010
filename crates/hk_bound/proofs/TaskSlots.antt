-- What stands in the slots of a process at the opening, by its line of the script.
use Rattle.std.proofs.Common.{◌≡◌, ℕ, zero, suc, ◌+◌, ◌-◌, ◌<◌, List, [], ◌∷◌, ◌++◌, length, Bool, true, false, Option, Some, None, refl, sym, ◌∙◌, ap, arith}
use Rattle.std.proofs.Common.{replicate}
use Rattle.std.specs.Prelude.{slice_get, slice_index_or}
use Rattle.std.specs.Option.{unwrap_or}
use Rattle.std.specs.Map.{lookup}
use Rattle.std.proofs.lemmas.Bool.{true≢false}
use Rattle.hk_model.specs.declared.names.Inc.{Inc}
use Rattle.hk_model.specs.declared.entries.Entry.{Entry}
use Rattle.hk_model.specs.declared.entries.Entry.TheVariants.{Empty}
use Rattle.hk_model.specs.declared.objects.Incarnation.{Incarnation}
use Rattle.hk_model.specs.declared.world.Task.{Task}
use Rattle.hk_model.specs.Limits.{slot_limit}
use Rattle.hk_model.specs.WorldValue.{WorldValue}
use Rattle.hk_model.specs.State.{same_inc, no_incarnation}
use Rattle.hk_model.specs.Opening.{opening, bases}
use Rattle.hk_model.specs.Places.{is_empty}
use Rattle.hk_model.proofs.Standing.{inc_laws, inc_same}
use Rattle.hk_bound.specs.Taking.{Slots, at_opening}
use Rattle.hk_bound.specs.Columns.{proc_at}
use Rattle.hk_bound.specs.Rules.{OpensWith}

abbrev inc_at : ℕ → Inc
inc_at n = record { 0 = n }

apart_incs : (n k : ℕ) → k < n → same_inc (inc_at n) (inc_at k) ≡ false
apart_incs n k h = by (same_inc (inc_at n) (inc_at k)) refl
  where
    by : (b : Bool) → same_inc (inc_at n) (inc_at k) ≡ b → b ≡ false
    by false e = refl
    by true e = let same : n ≡ k = ap (λ (x : Inc). x.0) (inc_same (inc_at n) (inc_at k) e) in absurd (omega (arith, h, same))

-- what stands in a slot of a base incarnation, by what it is looked up to be
abbrev slot_in : Option Incarnation → ℕ → Entry
slot_in o index = slice_index_or (unwrap_or o no_incarnation).slots index Empty

abbrev task_slot : Option Task → ℕ → Entry
task_slot None index = Empty
task_slot (Some t) index = slice_index_or (t.slots ++ replicate (slot_limit - length t.slots) Empty) index Empty

no_slot : (index : ℕ) → slice_index_or [] index Empty ≡ Empty
no_slot zero = refl
no_slot (suc n) = refl

bases_at : (n k j : ℕ) (ts : List Task) (index : ℕ) → n ≡ k + j → slot_in (lookup (same_inc (inc_at n)) (bases k ts)) index ≡ task_slot (slice_get ts j) index
bases_at n k zero [] index e = no_slot index
bases_at n k (suc j) [] index e = no_slot index
bases_at n k zero (t ∷ ts) index e =
    let same : n ≡ k = omega (arith, e) in
    let here : same_inc (inc_at n) (inc_at k) ≡ true = rw same (inc_laws.refl (inc_at k)) in
    rw here refl
bases_at n k (suc j) (t ∷ ts) index e =
    let other : same_inc (inc_at n) (inc_at k) ≡ false = apart_incs n k (omega (arith, e)) in
    let next : n ≡ k + 1 + j = omega (arith, e) in
    rw other (bases_at n (k + 1) j ts index next)

slots_are : (w : WorldValue) (p index : ℕ) → at_opening w (Slots (proc_at p)) index ≡ task_slot (slice_get w.tasks p) index
unfolding opening
slots_are w p index = bases_at p 0 p w.tasks index (omega arith)

padded : (es : List Entry) (m k : ℕ) (e : Entry) → slice_get es k ≡ Some e → slice_index_or (es ++ replicate m Empty) k Empty ≡ e
padded [] m zero e h = absurd (cc)
padded [] m (suc k) e h = absurd (cc)
padded (x ∷ es) m zero e h = let same : x ≡ e = cc in same
padded (x ∷ es) m (suc k) e h = padded es m k e h

empties : (m k : ℕ) → slice_index_or (replicate m Empty) k Empty ≡ Empty
empties zero zero = refl
empties zero (suc k) = refl
empties (suc m) zero = refl
empties (suc m) (suc k) = empties m k

unpadded : (es : List Entry) (m k : ℕ) (e : Entry) → slice_index_or (es ++ replicate m Empty) k Empty ≡ e → is_empty e ≡ false → slice_get es k ≡ Some e
unpadded [] m k e h f = absurd (true≢false (sym (ap is_empty (sym h ∙ empties m k)) ∙ f))
unpadded (x ∷ es) m zero e h f = ap Some h
unpadded (x ∷ es) m (suc k) e h f = unpadded es m k e h f

pub opens_from : (w : WorldValue) (p k : ℕ) (task : Task) (e : Entry) → slice_get w.tasks p ≡ Some task → slice_get task.slots k ≡ Some e → OpensWith w p e
opens_from w p k task e is slot = record {
  index = k;
  at = slots_are w p k ∙ (ap (λ (o : Option Task). task_slot o k) is ∙ padded task.slots (slot_limit - length task.slots) k e slot);
  task = task;
  is = is;
  slot = slot;
}

pub opens_to : (w : WorldValue) (p k : ℕ) (e : Entry) → at_opening w (Slots (proc_at p)) k ≡ e → is_empty e ≡ false → OpensWith w p e
opens_to w p k e at full = by (slice_get w.tasks p) refl (sym (slots_are w p k) ∙ at)
  where
    by : (o : Option Task) → slice_get w.tasks p ≡ o → task_slot o k ≡ e → OpensWith w p e
    by None is h = absurd (true≢false (ap is_empty h ∙ full))
    by (Some task) is h = record { index = k; at = at; task = task; is = is; slot = unpadded task.slots (slot_limit - length task.slots) k e h full }
