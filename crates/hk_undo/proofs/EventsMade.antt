-- An event with what was kept of it, as a line that was made.
use Rattle.std.specs.Prelude.{◌≡◌, ◌↔◌, ℕ, zero, suc, ◌<◌, ◌≤◌, List, [], ◌∷◌, length, Bool, true, false, Option, Some, None, slice_get, slice_set, get_or, refl}
use Rattle.std.specs.Option.{unwrap_or}
use Rattle.std.proofs.Common.{arith, ap, sym, ◌∙◌, subst}
use Rattle.std.proofs.lemmas.Option.{slice_get_read}
use Rattle.hk_model.specs.declared.names.Inc.{Inc}
use Rattle.hk_model.specs.declared.names.Proc.{Proc}
use Rattle.hk_model.specs.declared.names.Cpu.{Cpu}
use Rattle.hk_model.specs.declared.calls.Reply.{Reply}
use Rattle.hk_model.specs.declared.calls.Reply.TheVariants.{Done}
use Rattle.hk_model.specs.declared.lines.Line.{Line}
use Rattle.hk_model.specs.declared.lines.What.{What}
use Rattle.hk_model.specs.declared.lines.What.TheVariants as what
use Rattle.hk_model.specs.WorldValue.{WorldValue}
use Rattle.hk_model.specs.State.{State, process}
use Rattle.hk_model.specs.Processors.{may_step, process_on, running_on, dispatched, dispatched_from}
use Rattle.hk_model.specs.Control.{Context, next}
use Rattle.hk_model.specs.Running.{Machine, context_of, step, turn}
use Rattle.hk_plain.specs.Changes.{Changes, IsBehind, taken_back}
use Rattle.hk_program.specs.Machines.{IsSound}
use Rattle.hk_program.proofs.Events.{context_within, context_read, dispatch_steps, dispatched_runs, nothing_steps, turn_steps}
use Rattle.hk_undo.specs.declared.frames.FramesBefore.{FramesBefore}
use Rattle.hk_undo.specs.declared.reversible.Made.{Made}
use Rattle.hk_undo.specs.Pasts.{CanPutBack, IsMade, LeadsBack, frames_back}
use Rattle.hk_undo.proofs.FewFrames.{sound_few}

-- ---- one context written and written back

set_get : (xs : List Context) (n : ℕ) (new : Context) → n < length xs → slice_get (slice_set xs n new) n ≡ Some new
set_get [] n new h = absurd (omega arith)
set_get (x ∷ xs) zero new h = refl
set_get (x ∷ xs) (suc n) new h = set_get xs n new (omega arith)

set_back : (xs : List Context) (n : ℕ) (new old : Context) → slice_get xs n ≡ Some old → slice_set (slice_set xs n new) n old ≡ xs
set_back [] n new old h = refl
set_back (x ∷ xs) zero new old h = let same : x ≡ old = cc in ap (λ (y : Context). y ∷ xs) (sym same)
set_back (x ∷ xs) (suc n) new old h = ap (λ (ys : List Context). x ∷ ys) (set_back xs n new old h)

set_length : (xs : List Context) (n : ℕ) (new : Context) → length (slice_set xs n new) ≡ length xs
set_length [] n new = refl
set_length (x ∷ xs) zero new = refl
set_length (x ∷ xs) (suc n) new = let rest = set_length xs n new in omega (arith, rest)

-- ---- the event of a process

module _ (w : WorldValue) (m : Machine) (cpu : Cpu) (proc : Proc) (inc : Inc) (sound : IsSound w m) (runs : running_on m.state cpu ≡ Some (proc, inc)) where
  -- its frames are at most 64
  pub read_few : (frames : Context) → frames ≡ get_or m.contexts proc.0 frames → length frames ≤ 64
  read_few frames h =
      let few = sound_few w m proc sound in
      let same = ap (λ (f : Context). length f) (context_read w m cpu proc inc sound runs frames h) in
      omega (arith, few, same)

  module _ (what : What) (reply : Reply) (s : State) (behind : Context) (inverse : Changes) (kept : FramesBefore) where
    abbrev made : Made
    made = record { line = record { cpu = cpu; proc = proc; inc = inc; what = what; reply = reply }; inverse = inverse; frames = Some kept }

    abbrev left : Machine
    left = record { state = s; contexts = slice_set m.contexts proc.0 behind }

    there : context_of left proc ≡ behind
    there = ap (λ (o : Option Context). unwrap_or o []) (set_get m.contexts proc.0 behind (context_within w m cpu proc inc sound runs))

    pub event_made : (frames : Context) → frames ≡ get_or m.contexts proc.0 frames → cpu.0 < 16 → may_step m.state ≡ true
        → turn w m.state (process_on m.state cpu) (next w frames) ≡ (what, reply, s, behind)
        → IsBehind inverse s → taken_back inverse s ≡ m.state → LeadsBack kept behind frames
        → IsMade w m cpu made left
    event_made frames read low may e can back leads = record {
      step = turn_steps w m cpu proc inc sound runs frames (what, reply, s, behind) read low may e;
      can = record {
        state = can;
        frames = (omega (arith, set_length m.contexts proc.0 behind, within), subst (CanPutBack kept) (sym there) leads.can);
      };
      back = ap (λ (t : State). let k : Machine = record { state = t; contexts = slice_set left.contexts proc.0 (frames_back kept (context_of left proc)) } in k) back
          ∙ ap (λ (cs : List Context). let k : Machine = record { state = m.state; contexts = cs } in k)
          (ap (λ (f : Context). slice_set left.contexts proc.0 f) (ap (frames_back kept) there ∙ leads.back)
          ∙ set_back m.contexts proc.0 behind frames (slice_get_read m.contexts (length m.contexts) proc.0 frames refl within read));
    }
      where
        within : proc.0 < length m.contexts
        within = context_within w m cpu proc inc sound runs

-- ---- a dispatch

-- where none is ready there is no step
pub none_ready : (w : WorldValue) (m : Machine) (cpu : Cpu) (b : Bool) → cpu.0 < 16 → may_step m.state ≡ true → running_on m.state cpu ≡ None
    → (b ≡ false) ↔ (m.state.ready ≡ []) → b ≡ false → step w m cpu ≡ None
none_ready w m cpu b low may idle h e = nothing_steps w m cpu low may idle (ap (dispatched_from m.state cpu) (h.0 e))

module _ (w : WorldValue) (m : Machine) (cpu : Cpu) (sound : IsSound w m) (idle : running_on m.state cpu ≡ None) (s : State) (first : Proc)
    (given : dispatched m.state cpu ≡ Some (first, s)) where
  runs : running_on s cpu ≡ Some (first, (process s first).current)
  runs = dispatched_runs w m cpu first s sound idle given

  -- the processor runs what it got
  pub never_none : running_on s cpu ≡ None → ⊥
  never_none h = absurd (cc (h, runs))

  pub dispatch_made : (proc : Proc) (inc : Inc) (reply : Reply) (inverse : Changes) → cpu.0 < 16 → may_step m.state ≡ true
      → running_on s cpu ≡ Some (proc, inc) → reply ≡ Done → IsBehind inverse s → taken_back inverse s ≡ m.state
      → IsMade w m cpu (record { line = record { cpu = cpu; proc = proc; inc = inc; what = what.Dispatch; reply = reply }; inverse = inverse; frames = None })
      (record { state = s; contexts = m.contexts })
  dispatch_made proc inc reply inverse low may on done can back = record {
    step = dispatch_steps w m cpu first inc s low may idle given (ap (λ (x : Proc × Inc). x.1) same)
        ∙ ap (λ (l : Line). let found : Line × Machine = (l, record { state = s; contexts = m.contexts }) in Some found) line_is;
    can = record { state = can; frames = tt };
    back = ap (λ (t : State). let k : Machine = record { state = t; contexts = m.contexts } in k) back;
  }
    where
      same : ◌≡◌ {A = Proc × Inc} (proc, inc) (first, (process s first).current)
      same = cc (on, runs)

      line_is : ◌≡◌ {A = Line} (record { cpu = cpu; proc = first; inc = inc; what = what.Dispatch; reply = Done })
          (record { cpu = cpu; proc = proc; inc = inc; what = what.Dispatch; reply = reply })
      line_is = rw (done, ap (λ (x : Proc × Inc). x.0) same) refl
