-- A process never has more than 64 frames.
use Rattle.std.specs.Prelude.{◌≡◌, ℕ, zero, suc, ◌<◌, ◌≤◌, List, [], ◌∷◌, length, Option, Some, None, IfSome, map, slice_get, slice_set}
use Rattle.std.specs.Option.{unwrap_or}
use Rattle.std.specs.List.{AllByRecursion}
use Rattle.std.proofs.Common.{arith, ap, sym, ◌∙◌, subst}
use Rattle.hk_model.specs.declared.names.Proc.{Proc}
use Rattle.hk_model.specs.declared.names.Cpu.{Cpu}
use Rattle.hk_model.specs.declared.calls.Call.{Call}
use Rattle.hk_model.specs.declared.calls.Reply.{Reply}
use Rattle.hk_model.specs.declared.frames.Todo.{Todo}
use Rattle.hk_model.specs.declared.lines.Line.{Line}
use Rattle.hk_model.specs.declared.world.Task.{Task}
use Rattle.hk_model.specs.WorldValue.{WorldValue}
use Rattle.hk_model.specs.State.{process}
use Rattle.hk_model.specs.Rule.{rule}
use Rattle.hk_model.specs.Processors.{entered_code}
use Rattle.hk_model.specs.Control.{Context, after, new_frame}
use Rattle.hk_model.specs.Running.{Machine, after_lines, context_of, moved, opened}
use Rattle.hk_program.specs.Machines.{IsSound}
use Rattle.hk_program.proofs.Frames.{next_length, after_kept, after_length}
use Rattle.hk_program.proofs.Machines.{moved_sound, opened_sound, sound_room}
use Rattle.hk_program.proofs.StepCases.{moved_by}

abbrev AreFew : List Context → Type 0
AreFew contexts = AllByRecursion (λ (frames : Context). length frames ≤ 64) contexts

set_few : (xs : List Context) (n : ℕ) (new : Context) → AreFew xs → length new ≤ 64 → AreFew (slice_set xs n new)
set_few [] n new h few = tt
set_few (x ∷ xs) zero new h few = (few, h.1)
set_few (x ∷ xs) (suc n) new h few = (h.0, set_few xs n new h.1 few)

one_few : (xs : List Context) (n : ℕ) → AreFew xs → length (unwrap_or (slice_get xs n) []) ≤ 64
one_few [] n h = omega arith
one_few (x ∷ xs) zero h = h.0
one_few (x ∷ xs) (suc n) h = one_few xs n h.1

tasks_few : (ts : List Task) → AreFew (map (λ (t : Task). new_frame t.code ∷ []) ts)
tasks_few [] = tt
tasks_few (t ∷ ts) = (omega arith, tasks_few ts)

opened_few : (w : WorldValue) → AreFew (opened w).contexts
unfolding opened
opened_few w = tasks_few w.tasks

-- after a call there are no more, or one more where there was room
call_few : (w : WorldValue) (frames : Context) (c : Call) (reply : Reply) (code : Option ℕ) → length frames ≤ 64 → IfSome code (λ _. length frames < 64)
    → length (after w frames c reply code) ≤ 64
call_few w frames c reply None few room = let a = after_kept w frames c reply in omega (arith, a, few)
call_few w frames c reply (Some n) few room = let a = after_length w frames c reply (Some n) in omega (arith, a, room)

some_room : (code : Option ℕ) (a b : ℕ) → a ≡ b → IfSome code (λ _. b < 64) → IfSome code (λ _. a < 64)
some_room None a b e h = tt
some_room (Some n) a b e h = omega (arith, e, h)

moved_few : (w : WorldValue) (m : Machine) (cpu : Cpu) → IsSound w m → AreFew m.contexts → AreFew (moved w m cpu).contexts
moved_few w m cpu sound h = moved_by w m cpu (λ k. AreFew k.contexts) h (record {
  none = tt;
  calls = λ proc c frames may r e. called proc c frames (sym (ap (λ (f : Todo × Context). length f.1) e) ∙ next_length w (context_of m proc));
  halts = λ proc frames may r e. set_few m.contexts proc.0 [] h (omega arith);
  dispatches = λ first rest may e. h;
})
  where
    called : (proc : Proc) (c : Call) (frames : Context) → length frames ≡ length (context_of m proc)
        → AreFew (slice_set m.contexts proc.0 (after w frames c (rule m.state proc c).0 (entered_code m.state (process m.state proc).current c (rule m.state proc c).0)))
    called proc c frames same =
        let old = one_few m.contexts proc.0 h in
        set_few m.contexts proc.0 _ h
        (call_few w frames c (rule m.state proc c).0 (entered_code m.state (process m.state proc).current c (rule m.state proc c).0) (omega (arith, same, old))
        (some_room _ (length frames) (length (context_of m proc)) same (sound_room w m proc c sound)))

after_few : (w : WorldValue) (m : Machine) (lines : List Line) → IsSound w m → AreFew m.contexts → AreFew (after_lines w m lines).contexts
after_few w m [] sound h = h
after_few w m (line ∷ lines) sound h = after_few w (moved w m line.cpu) lines (moved_sound w m line.cpu sound) (moved_few w m line.cpu sound h)

-- the frames of a process in a machine that a world comes to
pub sound_few : (w : WorldValue) (m : Machine) (proc : Proc) → IsSound w m → length (context_of m proc) ≤ 64
sound_few w m proc h =
    one_few m.contexts proc.0 (subst (λ (k : Machine). AreFew k.contexts) (sym h.is) (after_few w (opened w) h.lines (opened_sound w h.world) (opened_few w)))
