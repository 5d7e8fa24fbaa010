-- The states of a generated world while one process runs after the other, and what each call makes of them.
use Rattle.std.proofs.Common.{◌≡◌, ℕ, ◌+◌, ◌%◌, List, [], ◌∷◌, ◌++◌, ◌-◌, Bool, true, false, Some, None, Ok, refl, ap, ◌∙◌, replicate}
use Rattle.std.specs.Prelude.{count_by, ◌==◌, if◌then◌else◌, nat_lt, slice_get, slice_set}
use Rattle.std.specs.Map.{lookup, remove_entry}
use Rattle.std.specs.BTreeMap.{insert_entry}
use Rattle.hk_rights.specs.Rights.{first_missing, right_table, right_numbers}
use Rattle.hk_model.specs.declared.names.Name.{Name}
use Rattle.hk_model.specs.declared.names.Inc.{Inc}
use Rattle.hk_model.specs.declared.names.Proc.{Proc}
use Rattle.hk_model.specs.declared.entries.Entry.TheVariants.{Empty}
use Rattle.hk_model.specs.declared.calls.Answer.TheVariants.{Done, Word}
use Rattle.hk_model.specs.declared.calls.Call.TheVariants as call
use Rattle.hk_model.specs.declared.calls.Reply.TheVariants as reply
use Rattle.hk_model.specs.declared.frames.Frame.{Frame}
use Rattle.hk_model.specs.declared.frames.Todo.{Todo}
use Rattle.hk_model.specs.declared.frames.Todo.TheVariants.{Do}
use Rattle.hk_model.specs.declared.objects.Object.{Object}
use Rattle.hk_model.specs.declared.objects.Incarnation.{Incarnation}
use Rattle.hk_model.specs.declared.objects.Process.{Process}
use Rattle.hk_model.specs.declared.objects.ProcessState.TheVariants.{Ended}
use Rattle.hk_model.specs.declared.world.Kind.TheVariants as kind
use Rattle.hk_model.specs.Limits.{event_limit, local_limit, word_bound}
use Rattle.hk_model.specs.Targets.{DATA, kernel_types}
use Rattle.hk_model.specs.State.{State, same_inc, inc_cmp}
use Rattle.hk_model.specs.Opening.{numbered, type_object, object_of, base_of}
use Rattle.hk_model.specs.Keeping.{kept_objects, restricted}
use Rattle.hk_model.specs.Rule.{take_token, give_token, get_word, put_word, enter_procedure, enter, leave, called_incarnation}
use Rattle.hk_model.specs.Processors.{entered_code}
use Rattle.hk_model.specs.Control.{Context, Local, go_to, step_over, next_from, next, after}
use Rattle.hk_model.specs.Generated.{generate, main, main_steps, name, slot, bump_param, bump, total, cbump, main_slots, capability, GETDATA+PUTDATA+MODIFY}

-- the objects, with this word and so many tokens
abbrev pub things : ℕ → ℕ → List (Name × Object)
things word tokens =
    numbered name 0 (replicate kernel_types type_object ++ object_of (kind.Plain (name DATA) (word ∷ []) []) ∷ object_of (kind.Semaphore tokens)
    ∷ object_of (kind.Procedure cbump (bump_param ∷ []) []) ∷ [])

-- the word after this one, as `bump` counts
abbrev pub following : ℕ → ℕ
following word = (word + 1) % word_bound

-- the state with these incarnations and processes; the ten objects of the opening are all that there are
abbrev pub stage : ℕ → ℕ → List (Inc × Incarnation) → List Process → List Proc → ℕ → ℕ → State
stage word tokens incs processes ready next events = record {
  objects = things word tokens;
  incarnations = incs;
  processes = processes;
  ready = ready;
  next_name = name 10;
  next_inc = record { 0 = next };
  first_new = name 10;
  events = events;
  limit = event_limit;
}

-- the incarnation of a call of `bump`
abbrev pub callee : Proc → Inc → Incarnation
callee proc caller =
    called_incarnation proc (name bump) caller (slot 3) true (capability total GETDATA+PUTDATA+MODIFY ∷ replicate 63 Empty)

module _ (word : ℕ) (incs : List (Inc × Incarnation)) (processes : List Process) (ready : List Proc) (next events : ℕ) where
  -- no object vanishes
  pub nothing_vanishes : (tokens : ℕ) → restricted (stage word tokens incs processes ready next events) ≡ stage word tokens incs processes ready next events
  unfolding kept_objects
  nothing_vanishes tokens = refl

  module _ (proc : Proc) (inc : Inc) where
    -- P takes the token
    pub takes : lookup (same_inc inc) incs ≡ Some (base_of proc main_slots)
        → take_token (stage word 1 incs processes ready next events) proc inc (2 ∷ []) ≡ Ok (Done, stage word 0 incs processes ready next events)
    unfolding take_token first_missing right_numbers right_table
    takes h = rw h

    -- V gives it back
    pub gives : lookup (same_inc inc) incs ≡ Some (base_of proc main_slots)
        → give_token (stage word 0 incs processes ready next events) inc (2 ∷ []) ≡ Ok (Done, stage word 1 incs processes ready next events)
    unfolding give_token first_missing right_numbers right_table
    gives h = rw h

    -- Enter makes an incarnation with the word for its argument
    pub enters : lookup (same_inc inc) incs ≡ Some (base_of proc main_slots) → count_by (λ (e : Inc × Incarnation). e.1.proc.0 == proc.0) incs ≡ 1
        → enter_procedure (stage word 0 incs processes ready next events) proc inc (0 ∷ []) (1 ∷ []) (slot 3)
        ≡ Ok (Done, enter (stage word 0 incs processes ready next events) (callee proc inc))
    unfolding enter_procedure first_missing right_numbers right_table
    enters h g = rw (h, g)

    -- Get answers the word
    pub gets : (caller : Inc) → lookup (same_inc inc) incs ≡ Some (callee proc caller)
        → get_word (stage word 0 incs processes ready next events) inc (0 ∷ []) 0 ≡ Ok (Word word, stage word 0 incs processes ready next events)
    unfolding get_word first_missing right_numbers right_table
    gets caller h = rw h

    -- Put writes it
    pub puts : (caller : Inc) (new : ℕ) → lookup (same_inc inc) incs ≡ Some (callee proc caller)
        → put_word (stage word 0 incs processes ready next events) inc (0 ∷ []) 0 new ≡ Ok (Done, stage new 0 incs processes ready next events)
    unfolding put_word first_missing right_numbers right_table
    puts caller new h = rw h

    -- it is the last then, and the current one
    pub entered : (caller : Inc) (more : List (Inc × Incarnation)) (p : Process) (goes_on : List Process)
        → insert_entry inc_cmp incs (record { 0 = next }) (callee proc caller) ≡ more
        → slice_get processes proc.0 ≡ Some p → slice_set processes proc.0 (record p { current = record { 0 = next } }) ≡ goes_on
        → enter (stage word 0 incs processes ready next events) (callee proc caller) ≡ stage word 0 more goes_on ready (next + 1) events
    entered caller more p goes_on h g e = rw (h, g, e)

    -- it leads into the procedure's code
    pub enters_bump : lookup (same_inc inc) incs ≡ Some (base_of proc main_slots)
        → entered_code (stage word 0 incs processes ready next events) inc (call.Enter (0 ∷ []) (1 ∷ []) (slot 3)) reply.Done ≡ Some cbump
    enters_bump h = rw h

    -- Leave takes the incarnation away, and its caller goes on
    pub leaves : (caller : Inc) (before : List (Inc × Incarnation)) (p : Process) (goes_on : List Process) → lookup (same_inc inc) incs ≡ Some (callee proc caller)
        → remove_entry (same_inc inc) incs ≡ before → slice_get processes proc.0 ≡ Some p → slice_set processes proc.0 (record p { current = caller }) ≡ goes_on
        → leave (stage word 0 incs processes ready next events) proc inc None ≡ Ok (Done, stage word 0 before goes_on ready next events)
    unfolding leave
    leaves caller before p goes_on h r g e = rw (h, r, g, e)

    -- and of the base the process ends
    pub ends : (before : List (Inc × Incarnation)) (p : Process) (without : List Process) → lookup (same_inc inc) incs ≡ Some (base_of proc main_slots)
        → remove_entry (same_inc inc) incs ≡ before → slice_get processes proc.0 ≡ Some p → slice_set processes proc.0 (record p { run = Ended }) ≡ without
        → leave (stage word 1 incs processes ready next events) proc inc None ≡ Ok (Done, stage word 1 before without ready next events)
    unfolding leave
    ends before p without h r g e = rw (h, r, g, e)

-- ---- control

-- the frame of a process behind so many rounds
abbrev pub main_frame : ℕ → ℕ → Frame
main_frame at rounds = record { code = main; at = at; registers = rounds ∷ replicate 7 0; refused = false }

-- the frame of a call, with this word in its register
abbrev pub bump_frame : ℕ → ℕ → Frame
bump_frame at word = record { code = cbump; at = at; registers = 0 ∷ word ∷ replicate 6 0; refused = false }

module _ (count : ℕ) where
  -- what is next in each frame

  pub next_takes : next (generate count) (main_frame 0 0 ∷ []) ≡ (Do (call.P (2 ∷ [])), main_frame 0 0 ∷ [])
  unfolding next next_from generate
  next_takes = refl

  pub next_enters : (rounds : ℕ) → next (generate count) (main_frame 1 rounds ∷ []) ≡ (Do (call.Enter (0 ∷ []) (1 ∷ []) (slot 3)), main_frame 1 rounds ∷ [])
  unfolding next next_from generate
  next_enters rounds = refl

  pub next_gets : (word : ℕ) (rest : Context) → next (generate count) (bump_frame 0 word ∷ rest) ≡ (Do (call.Get (0 ∷ []) 0), bump_frame 0 word ∷ rest)
  unfolding next next_from generate
  next_gets word rest = refl

  pub next_puts : (word : ℕ) (rest : Context)
      → next (generate count) (bump_frame 1 word ∷ rest) ≡ (Do (call.Put (0 ∷ []) 0 (following word)), bump_frame 2 (following word) ∷ rest)
  unfolding next next_from generate
  next_puts word rest = refl

  pub next_leaves : (word : ℕ) (rest : Context) → next (generate count) (bump_frame 3 word ∷ rest) ≡ (Do (call.Leave None), bump_frame 3 word ∷ rest)
  unfolding next next_from generate
  next_leaves word rest = refl

  pub next_gives : (rounds : ℕ) → next (generate count) (main_frame 2 rounds ∷ []) ≡ (Do (call.V (2 ∷ [])), main_frame 2 rounds ∷ [])
  unfolding next next_from generate
  next_gives rounds = refl

  -- the jump, by what the register holds and what the test of it says
  jumped : ℕ → Bool → Todo × Context
  jumped rounds again =
      let frame = main_frame 4 rounds in
      let found = next_from (local_limit - 1) main_steps frame (Local (if again then go_to frame 0 else step_over frame)) in (found.0, found.1 ∷ [])

  pub next_again : (rounds : ℕ) → (rounds + 1) % word_bound ≡ rounds + 1 → nat_lt (rounds + 1) 100 ≡ true
      → next (generate count) (main_frame 3 rounds ∷ []) ≡ (Do (call.P (2 ∷ [])), main_frame 0 (rounds + 1) ∷ [])
  unfolding next next_from generate jumped
  next_again rounds h g = ap (λ (n : ℕ). jumped n (nat_lt n 100)) h ∙ ap (λ (b : Bool). jumped (rounds + 1) b) g

  pub next_ends : (rounds : ℕ) → rounds + 1 ≡ 100 → next (generate count) (main_frame 3 rounds ∷ []) ≡ (Do (call.Leave None), main_frame 5 100 ∷ [])
  unfolding next next_from generate
  next_ends rounds h = rw h

  -- what each reply leaves

  pub after_takes : (rounds : ℕ) → after (generate count) (main_frame 0 rounds ∷ []) (call.P (2 ∷ [])) reply.Done None ≡ main_frame 1 rounds ∷ []
  unfolding after generate
  after_takes rounds = refl

  pub after_enters : (rounds : ℕ)
      → after (generate count) (main_frame 1 rounds ∷ []) (call.Enter (0 ∷ []) (1 ∷ []) (slot 3)) reply.Done (Some cbump) ≡ bump_frame 0 0 ∷ main_frame 2 rounds ∷ []
  unfolding after generate
  after_enters rounds = refl

  pub after_gets : (word old : ℕ) (rest : Context) → after (generate count) (bump_frame 0 old ∷ rest) (call.Get (0 ∷ []) 0) (reply.Word word) None ≡ bump_frame 1 word ∷ rest
  unfolding after generate
  after_gets word old rest = refl

  pub after_puts : (word new : ℕ) (rest : Context) → after (generate count) (bump_frame 2 word ∷ rest) (call.Put (0 ∷ []) 0 new) reply.Done None ≡ bump_frame 3 word ∷ rest
  unfolding after generate
  after_puts word new rest = refl

  pub after_leaves : (frame : Frame) (rest : Context) → after (generate count) (frame ∷ rest) (call.Leave None) reply.Done None ≡ rest
  unfolding after generate
  after_leaves frame rest = refl

  pub after_gives : (rounds : ℕ) → after (generate count) (main_frame 2 rounds ∷ []) (call.V (2 ∷ [])) reply.Done None ≡ main_frame 3 rounds ∷ []
  unfolding after generate
  after_gives rounds = refl
