-- What a turn at a sound book leaves, and what it may answer.
use Rattle.std.specs.Prelude.{◌≡◌, ◌⊎◌, ℕ, zero, suc, ◌<◌, List, [], ◌∷◌, ◌++◌, length, Bool, true, false, not, ◌||◌, Option, Some, None, slice_get, slice_set, refl, IfSome}
use Rattle.std.specs.Prelude.{option_map, is_some}
use Rattle.std.specs.List.{list_any}
use Rattle.std.specs.Vec.{vec_capacity}
use Rattle.std.proofs.Common.{arith, ap, sym, ◌∙◌, subst, get_or, unwrap_or}
use Rattle.std.proofs.lemmas.Bool.{true≢false}
use mathlib.Core.Logic.{inl, inr}
use Rattle.hk_model.specs.declared.names.Proc.{Proc}
use Rattle.hk_model.specs.declared.names.Inc.{Inc}
use Rattle.hk_model.specs.declared.names.Cpu.{Cpu}
use Rattle.hk_model.specs.declared.calls.Call.{Call}
use Rattle.hk_model.specs.declared.calls.Reply.{Reply}
use Rattle.hk_model.specs.declared.calls.Reply.TheVariants.{Done}
use Rattle.hk_model.specs.declared.lines.What.{What}
use Rattle.hk_model.specs.declared.lines.What.TheVariants as what
use Rattle.hk_model.specs.declared.lines.Line.{Line}
use Rattle.hk_model.specs.declared.objects.Process.{Process}
use Rattle.hk_model.specs.declared.objects.ProcessState.{ProcessState}
use Rattle.hk_model.specs.declared.objects.ProcessState.TheVariants.{Ready, Running, Waiting, Ended}
use Rattle.hk_model.specs.declared.frames.Todo.{Todo}
use Rattle.hk_model.specs.declared.frames.Todo.TheVariants as todo
use Rattle.hk_model.specs.WorldValue.{WorldValue}
use Rattle.hk_model.specs.State.{State, process}
use Rattle.hk_model.specs.Control.{Context, next}
use Rattle.hk_model.specs.Processors.{is_ready, is_running, is_over, process_on, runner, running_on, may_step, acted_on, entered_on, has_left, dispatched, dispatched_from}
use Rattle.hk_model.specs.Running.{context_of, turn, AreStepsOf, state_after}
use Rattle.hk_program.specs.Contexts.{AreFrames}
use Rattle.hk_program.proofs.Frames.{next_frames, next_length}
use Rattle.hk_program.proofs.Machines.{sound_after, sound_frames, sound_code, sound_room, lines_few}
use Rattle.hk_procs.specs.declared.notes.Noted.TheVariants.{Event, Stop}
use Rattle.hk_procs.specs.declared.answers.Asked.TheVariants as asked
use Rattle.hk_procs.specs.declared.answers.Called.TheVariants as called
use Rattle.hk_procs.specs.Notes.{lines_of, events}
use Rattle.hk_procs.specs.Shown.{state_shown, HandsOut, is_idle_of}
use Rattle.hk_procs.specs.Promises.{IsFound, Adds, AnswersAsk, AnswersCall, todo_told}
use Rattle.hk_shared.specs.declared.book.Book.{Book}
use Rattle.hk_shared.specs.Contexts.{machine_after, is_resting, KeepsContexts}
use Rattle.hk_shared.specs.Books.{IsSound, IsNext, notes_of_book, added, stops}
use Rattle.hk_shared.proofs.Notes.{append_nil, lines_book, one_more, stops_now, is_going, is_stopped, goes_self}
use Rattle.hk_shared.proofs.Placed.{idle_shows}
use Rattle.hk_shared.proofs.PlacedAlways.{placed_after}
use Rattle.hk_shared.proofs.Events.{Makes, Gets, turn_makes, dispatch_gets, get_there, set_length, get_here, same_or}

module _ {K J : Type 0} (state : K → State) (w : WorldValue) (cpu : Cpu) (b : Book K J) (h : IsSound state w b) where
  -- what the book's notes show is the kernel's state
  pub shown : state_shown w (notes_of_book b) ≡ state b.kernel
  shown = ap (λ (ls : List Line). state_after w ls) (lines_book b.lines.items b.stop) ∙ sym h.kernel

  pub found : IsFound w cpu (notes_of_book b) (notes_of_book b)
  found = (goes_self cpu.0 (notes_of_book b), subst (λ (ls : List Line). AreStepsOf w ls) (sym (lines_book b.lines.items b.stop)) h.steps)

  -- a turn that changes nothing
  pub stays : IsNext state w cpu b b None
  stays = record { sound = h; notes = sym (append_nil (notes_of_book b)); own = tt }

  -- a turn at which the kernel alone changes, and its state does not
  pub same_kernel : (k : K) → state k ≡ state b.kernel → IsNext state w cpu b (record b { kernel = k }) None
  same_kernel k e = record {
    sound = record { world = h.world; valid = h.valid; steps = h.steps; kernel = e ∙ h.kernel; contexts = h.contexts; room = h.room };
    notes = sym (append_nil (notes_of_book b));
    own = tt;
  }

  -- there is room for a line below the limit
  pub has_room : may_step (state b.kernel) ≡ true → length b.lines.items < vec_capacity b.lines
  has_room may =
      let few = lines_few w b.lines.items h.valid h.steps (sym (ap may_step h.kernel) ∙ may) in
      let room = h.room in omega (arith, few, room)

  pub ask_stopped : (other : Cpu) → b.stop ≡ Some other → AnswersAsk w cpu (notes_of_book b) (notes_of_book b) asked.Stopped
  ask_stopped other e = (found, is_stopped b.lines.items b.stop other e)

  pub ask_over : b.stop ≡ None → (not (may_step (state b.kernel)) || is_over (state b.kernel)) ≡ true → AnswersAsk w cpu (notes_of_book b) (notes_of_book b) asked.Over
  ask_over e over = (found, is_going b.lines.items b.stop e, ap (λ (s : State). not (may_step s) || is_over s) shown ∙ over)

  below : (may over : Bool) → (not may || over) ≡ false → (may ≡ true) × (over ≡ false)
  below true over e = (refl, e)
  below false over e = absurd (cc)

  pub goes_below : (not (may_step (state b.kernel)) || is_over (state b.kernel)) ≡ false → (may_step (state b.kernel) ≡ true) × (is_over (state b.kernel) ≡ false)
  goes_below e = below (may_step (state b.kernel)) (is_over (state b.kernel)) e

  none_dispatched : (s : State) → dispatched s cpu ≡ None → s.ready ≡ []
  none_dispatched s = by s.ready
    where
      by : (ready : List Proc) → dispatched_from s cpu ready ≡ None → ready ≡ []
      by [] e = refl
      by (first ∷ rest) e = absurd (cc)

  pub ask_idle : (n : ℕ) → b.stop ≡ None → runner (state b.kernel) cpu ≡ None → (not (may_step (state b.kernel)) || is_over (state b.kernel)) ≡ false
      → dispatched (state b.kernel) cpu ≡ None → n ≡ length b.lines.items → AnswersAsk w cpu (notes_of_book b) (notes_of_book b) (asked.Idle n)
  ask_idle n e idle over none n_is = (
    found,
    is_going b.lines.items b.stop e,
    ap (λ (s : State). runner s cpu) shown ∙ idle,
    n_is ∙ ap length (sym (lines_book b.lines.items b.stop)),
    ap is_idle_of shown
        ∙ rw (goes.0, shows.0, shows.1) refl,
  )
    where
      goes : (may_step (state b.kernel) ≡ true) × (is_over (state b.kernel) ≡ false)
      goes = goes_below over

      shows : (list_any (λ (p : Process). is_ready p.run) (state b.kernel).processes ≡ false) × (list_any (λ (p : Process). is_running p.run) (state b.kernel).processes ≡ true)
      shows = idle_shows (state b.kernel) (rw h.kernel (placed_after w b.lines.items h.valid).listed) (none_dispatched (state b.kernel) none) goes.1

  -- ---- a dispatch

  pub gets : (proc : Proc) (t : State) (inc : Inc) → cpu.0 < 16 → runner (state b.kernel) cpu ≡ None → may_step (state b.kernel) ≡ true
      → dispatched (state b.kernel) cpu ≡ Some (proc, t) → inc ≡ (process t proc).current
      → Gets w b.lines.items b.contexts.items cpu proc (record { cpu = cpu; proc = proc; inc = inc; what = what.Dispatch; reply = Done }) t
  gets proc t inc low idle may e inc_is =
      dispatch_gets w b.lines.items b.contexts.items h.valid h.steps h.contexts cpu low (sym (ap may_step h.kernel) ∙ may)
      (sym (ap (λ (s : State). runner s cpu) h.kernel) ∙ idle) proc t inc
      (sym (ap (λ (s : State). dispatched s cpu) h.kernel) ∙ e) inc_is

  -- ---- a call or a halt of the process that the processor runs

  runner_of : (s : State) (proc : Proc) (inc : Inc) → running_on s cpu ≡ Some (proc, inc) → runner s cpu ≡ Some proc
  runner_of s proc inc = by (runner s cpu)
    where
      by : (o : Option Proc) → option_map {U = Proc × Inc} (λ (p : Proc). (p, (process s p).current)) o ≡ Some (proc, inc) → o ≡ Some proc
      by None e = absurd (cc)
      by (Some p) e =
          let pair : ◌≡◌ {A = Proc × Inc} (p, (process s p).current) (proc, inc) = cc in
          ap (λ (f : Proc × Inc). Some f.0) pair

  pub carries : (proc : Proc) (inc : Inc) (next_is : Todo) (frames : Context) (happened : What) (reply : Reply) (t : State) (new : Context) → cpu.0 < 16
      → may_step (state b.kernel) ≡ true
      → running_on (state b.kernel) cpu ≡ Some (proc, inc) → (next_is, frames) ≡ next w (context_of (machine_after w b.lines.items) proc)
      → turn w (state b.kernel) (process_on (state b.kernel) cpu) (next_is, frames) ≡ (happened, reply, t, new)
      → Makes w b.lines.items b.contexts.items cpu proc (record { cpu = cpu; proc = proc; inc = inc; what = happened; reply = reply }) t new
  carries proc inc next_is frames happened reply t new low may on nx made =
      turn_makes w b.lines.items b.contexts.items h.valid h.steps h.contexts cpu low (sym (ap may_step h.kernel) ∙ may) proc inc next_is frames happened reply t new
      (sym (ap (λ (s : State). running_on s cpu) h.kernel) ∙ on) nx (sym (ap (λ (s : State). turn w s (process_on s cpu) (next_is, frames)) h.kernel) ∙ made)

  -- whether the process has left the processor
  pub left_is : (proc : Proc) (inc : Inc) (t : State) (gone : Bool) → running_on (state b.kernel) cpu ≡ Some (proc, inc) → gone ≡ has_left (state b.kernel) cpu t
      → gone ≡ not (is_running (process t proc).run)
  left_is proc inc t gone on e = e ∙ ap (λ (o : Option Proc). not (is_running (process t (unwrap_or o (record { 0 = 0 }))).run)) (runner_of (state b.kernel) proc inc on)

  -- the context that is next has frames of the world
  pub frames_next : (proc : Proc) (todo : Todo) (frames : Context) → (todo, frames) ≡ next w (context_of (machine_after w b.lines.items) proc) → AreFrames w frames
  frames_next proc todo frames e =
      let m = machine_after w b.lines.items in
      rw (ap (λ (f : Todo × Context). f.1) e) (next_frames w (context_of m proc) h.valid.codes_are (sound_frames w m proc (sound_after w b.lines.items h.steps h.valid)))

  -- the code of an entered procedure is one of the world, and there is room for its frame
  pub code_known : (proc : Proc) (inc : Inc) → running_on (state b.kernel) cpu ≡ Some (proc, inc) → (c : Call) (reply : Reply)
      → IfSome (entered_on (state b.kernel) cpu c reply) (λ n. n < length w.codes)
  code_known proc inc on c reply =
      let r = runner_of (state b.kernel) proc inc on in
      rw (r, h.kernel) (sound_code w (machine_after w b.lines.items) proc c reply (sound_after w b.lines.items h.steps h.valid))

  pub room_known : (proc : Proc) (inc : Inc) (next_is : Todo) (frames : Context) → running_on (state b.kernel) cpu ≡ Some (proc, inc)
      → (next_is, frames) ≡ next w (context_of (machine_after w b.lines.items) proc)
      → (c : Call) → IfSome (entered_on (state b.kernel) cpu c (acted_on (state b.kernel) cpu c).0) (λ n. length frames < 64)
  room_known proc inc next_is frames on nx c =
      let m = machine_after w b.lines.items in
      let r = runner_of (state b.kernel) proc inc on in
      let same : length frames ≡ length (context_of m proc) = ap (λ (f : Todo × Context). length f.1) nx ∙ next_length w (context_of m proc) in
      rw (r, h.kernel, same) (sound_room w m proc c (sound_after w b.lines.items h.steps h.valid))

  -- a stop is added, and nothing else
  pub next_stop : (k : K) → b.stop ≡ None → state k ≡ state b.kernel → IsNext state w cpu b (record b { kernel = k; stop = Some cpu }) (Some (Stop cpu))
  next_stop k e same = record {
    sound = record { world = h.world; valid = h.valid; steps = h.steps; kernel = same ∙ h.kernel; contexts = h.contexts; room = h.room };
    notes = stops_now b.lines.items b.stop cpu e;
    own = refl;
  }

  pub adds_stop : b.stop ≡ None → may_step (state b.kernel) ≡ true → Adds w cpu (notes_of_book b) (events b.lines.items ++ Stop cpu ∷ []) (Stop cpu)
  adds_stop e may = record {
    found = notes_of_book b;
    goes_on = goes_self cpu.0 (notes_of_book b);
    going = is_going b.lines.items b.stop e;
    added = stops_now b.lines.items b.stop cpu e;
    steps = subst (λ (ls : List Line). AreStepsOf w ls) (sym (lines_book b.lines.items (Some cpu))) h.steps;
    below = ap (λ (s : State). not (may_step s)) shown ∙ rw may refl;
  }

  pub call_stopped : (other : Cpu) → b.stop ≡ Some other → (wants : Call → Bool) (proc : Proc) (todo : Todo)
      → AnswersCall w wants cpu (notes_of_book b) (notes_of_book b) proc todo called.Stopped
  call_stopped other e wants proc todo = (found, is_stopped b.lines.items b.stop other e)

  pub call_limit : b.stop ≡ None → not (may_step (state b.kernel)) ≡ true → (wants : Call → Bool) (proc : Proc) (todo : Todo)
      → AnswersCall w wants cpu (notes_of_book b) (notes_of_book b) proc todo called.Limit
  call_limit e limit wants proc todo = (found, is_going b.lines.items b.stop e, ap (λ (s : State). not (may_step s)) shown ∙ limit)

  -- the notes of the book with one line more
  module _ (b' : Book K J) (line : Line) (e : b.stop ≡ None) (stop : b'.stop ≡ b.stop) (lines : b'.lines.items ≡ b.lines.items ++ line ∷ []) where
    pub more_notes : notes_of_book b' ≡ notes_of_book b ++ added (Some (Event line))
    more_notes =
        ap (λ (ls : List Line). events ls ++ stops b'.stop) lines
        ∙ (ap (λ (o : Option Cpu). events (b.lines.items ++ line ∷ []) ++ stops o) stop ∙ one_more b.lines.items line b.stop e)

    pub shown_lines : lines_of (notes_of_book b') ≡ b.lines.items ++ line ∷ []
    shown_lines = lines_book b'.lines.items b'.stop ∙ lines

    pub adds : AreStepsOf w (b.lines.items ++ line ∷ []) → may_step (state b.kernel) ≡ true → Adds w cpu (notes_of_book b) (notes_of_book b') (Event line)
    adds steps may = record {
      found = notes_of_book b;
      goes_on = goes_self cpu.0 (notes_of_book b);
      going = is_going b.lines.items b.stop e;
      added = more_notes;
      steps = subst (λ (ls : List Line). AreStepsOf w ls) (sym shown_lines) steps;
      below = ap (λ (s : State). not (may_step s)) shown ∙ rw may refl;
    }

    pub hands_out : (t : State) (proc : Proc) (context : Context) → AreStepsOf w (b.lines.items ++ line ∷ []) → t ≡ state_after w (b.lines.items ++ line ∷ [])
        → runner t cpu ≡ Some proc
        → context ≡ context_of (machine_after w (b.lines.items ++ line ∷ [])) proc → HandsOut w cpu (notes_of_book b') proc context
    hands_out t proc context steps state_is runs is = (
      (
        ap (λ (ls : List Line). runner (state_after w ls) cpu) shown_lines ∙ (sym (ap (λ (s : State). runner s cpu) state_is) ∙ runs),
        is ∙ sym (ap (λ (ls : List Line). context_of (machine_after w ls) proc) shown_lines),
      ),
      rw is (sound_frames w (machine_after w (b.lines.items ++ line ∷ [])) proc (sound_after w (b.lines.items ++ line ∷ []) steps h.valid)),
    )

    pub shown_now : (t : State) → t ≡ state_after w (b.lines.items ++ line ∷ []) → state_shown w (notes_of_book b') ≡ t
    shown_now t state_is = ap (λ (ls : List Line). state_after w ls) shown_lines ∙ sym state_is

    -- the contexts that are kept behind it
    module _ (t : State) (world_is : b'.world ≡ b.world) (kernel_is : state b'.kernel ≡ t) (room_is : vec_capacity b'.lines ≡ vec_capacity b.lines) where
      pub sound_more : AreStepsOf w (b.lines.items ++ line ∷ []) → t ≡ state_after w (b.lines.items ++ line ∷ [])
          → KeepsContexts (machine_after w (b.lines.items ++ line ∷ [])) b'.contexts.items → line.cpu.0 ≡ cpu.0
          → IsNext state w cpu b b' (Some (Event line))
      sound_more steps state_is keeps own = record {
        sound = record {
          world = world_is ∙ h.world;
          valid = h.valid;
          steps = subst (λ (ls : List Line). AreStepsOf w ls) (sym lines) steps;
          kernel = kernel_is ∙ (state_is ∙ sym (ap (λ (ls : List Line). state_after w ls) lines));
          contexts = subst (λ (ls : List Line). KeepsContexts (machine_after w ls) b'.contexts.items) (sym lines) keeps;
          room = rw room_is h.room;
        };
        notes = more_notes;
        own = own;
      }

-- ---- the contexts that are kept behind an event

running_rests : (r : ProcessState) → is_running r ≡ true → is_resting r ≡ true → ⊥
running_rests Ready h g = absurd (cc)
running_rests (Running c) h g = absurd (cc)
running_rests (Waiting at) h g = absurd (cc)
running_rests Ended h g = absurd (cc)

-- the context of the process that got the processor is taken
pub taken_keeps : (w : WorldValue) (lines : List Line) (held held' : List (Option Context)) (cpu : Cpu) (proc : Proc) (line : Line) (t : State) → Gets w lines held cpu proc line t
    → held' ≡ slice_set held proc.0 None → KeepsContexts (machine_after w (lines ++ line ∷ [])) held'
taken_keeps w lines held held' cpu proc line t g e = rw e (record {
  count = set_length held proc.0 None ∙ g.count;
  each = λ n r.
      let other = g.others n (rw g.state r) in
      get_there held proc.0 n None other.0 ∙ other.1;
})

-- the process goes on, and the processor keeps its context
pub goes_keeps : (w : WorldValue) (lines : List Line) (held : List (Option Context)) (cpu : Cpu) (proc : Proc) (line : Line) (t : State) (frames : Context)
    → Makes w lines held cpu proc line t frames
    → is_running (process t proc).run ≡ true → KeepsContexts (machine_after w (lines ++ line ∷ [])) held
goes_keeps w lines held cpu proc line t frames g runs = record {
  count = g.count;
  each = λ n r. by n (rw g.state r) (same_or n proc.0);
}
  where
    by : (n : ℕ) → is_resting (process t (record { 0 = n })).run ≡ true → ((n ≡ proc.0) ⊎ (n ≡ proc.0 → ⊥))
        → slice_get held n ≡ Some (Some (context_of (machine_after w (lines ++ line ∷ [])) (record { 0 = n })))
    by n r (inr apart) = g.others n apart r
    by n r (inl same) = absurd (running_rests (process t proc).run runs (subst (λ (k : ℕ). is_resting (process t (record { 0 = k })).run ≡ true) same r))

-- the process has gone, and its context is put back
pub gone_keeps : (w : WorldValue) (lines : List Line) (held held' : List (Option Context)) (cpu : Cpu) (proc : Proc) (line : Line) (t : State) (frames : Context)
    → Makes w lines held cpu proc line t frames
    → held' ≡ slice_set held proc.0 (Some frames) → KeepsContexts (machine_after w (lines ++ line ∷ [])) held'
gone_keeps w lines held held' cpu proc line t frames g e = rw e (record {
  count = set_length held proc.0 (Some frames) ∙ g.count;
  each = λ n r. by n (rw g.state r) (same_or n proc.0);
})
  where
    by : (n : ℕ) → is_resting (process t (record { 0 = n })).run ≡ true → ((n ≡ proc.0) ⊎ (n ≡ proc.0 → ⊥))
        → slice_get (slice_set held proc.0 (Some frames)) n ≡ Some (Some (context_of (machine_after w (lines ++ line ∷ [])) (record { 0 = n })))
    by n r (inr apart) = get_there held proc.0 n (Some frames) apart ∙ g.others n apart r
    by n r (inl same) =
        subst (λ (k : ℕ). slice_get (slice_set held proc.0 (Some frames)) k ≡ Some (Some (context_of (machine_after w (lines ++ line ∷ [])) (record { 0 = k })))) (sym same)
        (get_here held proc.0 (Some frames) g.there ∙ ap (λ (c : Context). Some (Some c)) g.context)

-- a processor that runs a process has a current incarnation
pub no_current : (s : State) (cpu : Cpu) (proc : Proc) (found : Option (Proc × Inc)) → found ≡ None → found ≡ running_on s cpu → runner s cpu ≡ Some proc → ⊥
no_current s cpu proc found n e r =
    true≢false (sym (ap (λ (o : Option Proc). is_some (option_map {U = Proc × Inc} (λ (p : Proc). (p, (process s p).current)) o)) r) ∙ ap is_some (sym e ∙ n))

-- its current incarnation
pub current_is : (s : State) (cpu : Cpu) (proc : Proc) (x : Proc) (inc : Inc) → Some (x, inc) ≡ running_on s cpu → runner s cpu ≡ Some proc
    → (x ≡ proc) × (inc ≡ (process s proc).current)
current_is s cpu proc x inc e r =
    let both : ◌≡◌ {A = Option (Proc × Inc)} (Some (x, inc)) (Some (proc, (process s proc).current)) = e ∙ ap
    (λ (o : Option Proc). option_map {U = Proc × Inc} (λ (p : Proc). (p, (process s p).current)) o) r in
    let pair : ◌≡◌ {A = Proc × Inc} (x, inc) (proc, (process s proc).current) = cc in
    (ap (λ (f : Proc × Inc). f.0) pair, ap (λ (f : Proc × Inc). f.1) pair)

-- what stands at a place is in the list
pub get_below : {A : Type 0} (xs : List A) (n : ℕ) (x : A) → slice_get xs n ≡ Some x → n < length xs
get_below [] n x h = absurd (cc)
get_below (y ∷ xs) zero x h = omega arith
get_below (y ∷ xs) (suc n) x h = let g = get_below xs n x h in omega (arith, g)

-- what stands at a place is what is read there
get_or_is : {A : Type 0} (xs : List A) (n : ℕ) (d x : A) → slice_get xs n ≡ Some x → get_or xs n d ≡ x
get_or_is [] n d x h = absurd (cc)
get_or_is (y ∷ xs) zero d x h = cc
get_or_is (y ∷ xs) (suc n) d x h = get_or_is xs n d x h

-- the context that was taken is the one that stood there
pub taken_is : (held : List (Option Context)) (n : ℕ) (frames : Context) (now d : Option Context) → slice_get held n ≡ Some (Some frames) → now ≡ get_or held n d
    → now ≡ Some frames
taken_is held n frames now d h e = e ∙ get_or_is held n d (Some frames) h

pub not_both : (frames : Context) (found : Option Context) → found ≡ None → found ≡ Some frames → ⊥
not_both frames found h g = true≢false (sym (ap is_some g) ∙ ap is_some h)

pub same_frames : (a b : Context) (found : Option Context) → found ≡ Some a → found ≡ Some b → a ≡ b
same_frames a b found h g = let both : ◌≡◌ {A = Option Context} (Some a) (Some b) = sym h ∙ g in cc

pub some_of : (stop : Option Cpu) (b : Bool) → b ≡ true → b ≡ is_some stop → (cpu : Cpu) × (stop ≡ Some cpu)
some_of None b h e = absurd (true≢false (sym h ∙ e))
some_of (Some cpu) b h e = (cpu, refl)

pub none_of : (stop : Option Cpu) (b : Bool) → b ≡ false → b ≡ is_some stop → stop ≡ None
none_of None b h e = refl
none_of (Some cpu) b h e = absurd (true≢false (sym e ∙ h))

pub not_true : (a b : Bool) → a ≡ true → a ≡ not b → b ≡ false
not_true a true h e = absurd (true≢false (sym h ∙ e))
not_true a false h e = refl

pub not_false : (a b : Bool) → a ≡ false → a ≡ not b → b ≡ true
not_false a true h e = refl
not_false a false h e = absurd (true≢false (sym e ∙ h))

-- what a turn tells
pub told_is : (w : WorldValue) (s : State) (proc : Proc) (next_is : Todo) (frames : Context) (happened : What) (reply : Reply) (t : State) (new : Context)
    → turn w s proc (next_is, frames) ≡ (happened, reply, t, new) → happened ≡ todo_told next_is
told_is w s proc (todo.Do c) frames happened reply t new h = sym (ap (λ (x : What × Reply × State × Context). x.0) h)
told_is w s proc todo.Halt frames happened reply t new h = sym (ap (λ (x : What × Reply × State × Context). x.0) h)
