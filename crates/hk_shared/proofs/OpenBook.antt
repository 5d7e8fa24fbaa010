-- The book of a kernel that has opened its world.
use Rattle.std.specs.Prelude.{◌≡◌, ℕ, zero, suc, ◌+◌, List, [], ◌∷◌, length, map, true, Option, Some, slice_get, refl}
use Rattle.std.specs.Option.{unwrap_or}
use Rattle.std.proofs.Common.{ap, sym, ◌∙◌}
use Rattle.hk_model.specs.declared.lines.Line.{Line}
use Rattle.hk_model.specs.declared.world.Task.{Task}
use Rattle.hk_model.specs.WorldValue.{WorldValue}
use Rattle.hk_model.specs.State.{State}
use Rattle.hk_model.specs.Control.{Context, new_frame}
use Rattle.hk_model.specs.Opening.{opening, all_ready}
use Rattle.hk_model.specs.Running.{opened, AreStepsOf, state_after}
use Rattle.hk_program.proofs.Queues.{run_at}
use Rattle.hk_shared.specs.Contexts.{machine_after, is_resting, KeepsContexts}

pub no_steps : (w : WorldValue) (lines : List Line) → lines ≡ [] → AreStepsOf w lines
no_steps w lines e = rw e tt

opened_state : (w : WorldValue) → (opened w).state ≡ opening w
unfolding opened
opened_state w = refl

pub open_state : (w : WorldValue) (lines : List Line) (s : State) → lines ≡ [] → s ≡ opening w → s ≡ state_after w lines
open_state w lines s e is = is ∙ (sym (opened_state w) ∙ ap (λ (ls : List Line). state_after w ls) (sym e))

same_count : (ts : List Task) → length (map (λ (t : Task). ◌∷◌ (new_frame t.code) []) ts) ≡ length ts
same_count [] = refl
same_count (t ∷ ts) = ap suc (same_count ts)

held_count : (ts : List Task) → length (map {B = Option Context} (λ (t : Task). Some (new_frame t.code ∷ [])) ts) ≡ length ts
held_count [] = refl
held_count (t ∷ ts) = ap suc (held_count ts)

each_held : (k : ℕ) (ts : List Task) (n : ℕ) → is_resting (run_at (all_ready k ts) n) ≡ true
    → slice_get (map {B = Option Context} (λ (t : Task). Some (new_frame t.code ∷ [])) ts) n ≡ Some
    (Some (unwrap_or (slice_get (map (λ (t : Task). new_frame t.code ∷ []) ts) n) []))
each_held k [] n h = absurd (cc)
each_held k (t ∷ ts) zero h = refl
each_held k (t ∷ ts) (suc n) h = each_held (k + 1) ts n h

opened_keeps : (w : WorldValue) → KeepsContexts (opened w) (map {B = Option Context} (λ (t : Task). Some (new_frame t.code ∷ [])) w.tasks)
unfolding opened opening
opened_keeps w = record {
  count = held_count w.tasks ∙ sym (same_count w.tasks);
  each = λ n r. each_held 0 w.tasks n r;
}

pub open_keeps : (w : WorldValue) (lines : List Line) (held : List (Option Context)) → lines ≡ []
    → held ≡ map {B = Option Context} (λ (t : Task). Some (new_frame t.code ∷ [])) w.tasks → KeepsContexts (machine_after w lines) held
open_keeps w lines held e is = rw (e, is) (opened_keeps w)
