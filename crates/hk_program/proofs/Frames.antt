-- What a turn and a reply leave of the frames of a process: frames of the world, and how many.
use Rattle.std.specs.Prelude.{◌≡◌, ℕ, zero, suc, ◌+◌, ◌<◌, ◌≤◌, ◌==◌, List, [], ◌∷◌, length, Bool, true, false, Option, Some, None, nat_lt, slice_get, slice_set, IfSome, refl}
use Rattle.std.specs.Prelude.{if◌then◌else◌}
use Rattle.std.specs.List.{AllByRecursion}
use Rattle.std.proofs.Common.{arith, ◌∙◌}
use Rattle.std.proofs.lemmas.Bool.Decides.{nat_tests}
use Rattle.std.proofs.lemmas.Option.{slice_get_within}
use Rattle.hk_model.specs.declared.names.Slot.{Slot}
use Rattle.hk_model.specs.declared.calls.Call.{Call}
use Rattle.hk_model.specs.declared.calls.Call.TheVariants as call
use Rattle.hk_model.specs.declared.calls.Reply.{Reply}
use Rattle.hk_model.specs.declared.calls.Reply.TheVariants.{Done, Word, Waits, No}
use Rattle.hk_model.specs.declared.frames.Frame.{Frame}
use Rattle.hk_model.specs.declared.instructions.Instr.{Instr}
use Rattle.hk_model.specs.declared.instructions.Instr.TheVariants as instr
use Rattle.hk_model.specs.declared.world.Code.{Code}
use Rattle.hk_model.specs.Limits.{local_limit}
use Rattle.hk_model.specs.WorldValue.{WorldValue, IsInstr, IsCode}
use Rattle.hk_model.specs.Control.{Context, Meaning, Calls, Local, meaning, here, next_from, next, after, frames_after, behind, with_word, steps_of, step_over, go_to, operand}
use Rattle.hk_model.specs.Control.{target_register}
use Rattle.hk_model.proofs.Standing.{on_cond}
use Rattle.hk_program.specs.Contexts.{IsFrame, AreFrames}

-- ---- local instructions

-- a local instruction leads to an instruction of the same code, or to its end
abbrev Leads : List Instr → Frame → Meaning → Type 0
Leads steps f (Calls c) = Unit {0}
Leads steps f (Local g) = (g.at ≤ length steps) × (g.code ≡ f.code)

jump_leads : (steps : List Instr) (f : Frame) (b : Bool) (to : ℕ) → to ≤ length steps → f.at < length steps → Leads steps f (Local (if b then go_to f to else step_over f))
jump_leads steps f true to h g = (h, refl)
jump_leads steps f false to h g = (omega arith, refl)

meaning_leads : (steps : List Instr) (f : Frame) (i : Instr) → IsInstr (length steps) i → f.at < length steps → Leads steps f (meaning f i)
meaning_leads steps f (instr.SetReg reg to) h g = (omega arith, refl)
meaning_leads steps f (instr.AddReg reg by) h g = (omega arith, refl)
meaning_leads steps f (instr.Goto to) h g = (h, refl)
meaning_leads steps f (instr.IfEq left right to) h g = jump_leads steps f (operand f left == operand f right) to h.2 g
meaning_leads steps f (instr.IfLess left right to) h g = jump_leads steps f (nat_lt (operand f left) (operand f right)) to h.2 g
meaning_leads steps f (instr.IfDenied to) h g = jump_leads steps f f.refused to h g
meaning_leads steps f i h g = tt

one_of : {A : Type 0} (P : A → Type 0) (xs : List A) (i : ℕ) (x : A) → AllByRecursion P xs → slice_get xs i ≡ Some x → P x
one_of P [] i x h e = absurd (cc)
one_of P (y ∷ xs) zero x h e = let same : y ≡ x = cc in rw (← same) h.0
one_of P (y ∷ xs) (suc i) x h e = one_of P xs i x h.1 e

here_leads : (steps : List Instr) (f : Frame) → AllByRecursion (IsInstr (length steps)) steps → Leads steps f (here steps f)
here_leads steps f all = by (slice_get steps f.at) refl
  where
    by : (o : Option Instr) → slice_get steps f.at ≡ o → Leads steps f (elim o [ None ↦ Calls (call.Leave None) | Some i ↦ meaning f i ])
    by None e = tt
    by (Some i) e = meaning_leads steps f i (one_of (IsInstr (length steps)) steps f.at i all e) (slice_get_within steps f.at i e)

-- and so do as many as are run
from_leads : (n : ℕ) (steps : List Instr) (f : Frame) (what : Meaning) → AllByRecursion (IsInstr (length steps)) steps → f.at ≤ length steps → Leads steps f what
    → ((next_from n steps f what).1.at ≤ length steps) × ((next_from n steps f what).1.code ≡ f.code)
unfolding next_from
from_leads zero steps f (Calls c) all h g = (h, refl)
from_leads (suc n) steps f (Calls c) all h g = (h, refl)
from_leads zero steps f (Local x) all h g = (h, refl)
from_leads (suc n) steps f (Local x) all h g =
    let r = from_leads n steps x (here steps x) all g.0 (here_leads steps x all) in (r.0, r.1 ∙ g.1)

-- the codes of the world
code_steps : (codes : List Code) → AllByRecursion IsCode codes → (o : Option Code) (n : ℕ) → slice_get codes n ≡ o
    → let steps : List Instr = elim o [ None ↦ [] | Some c ↦ c.steps ] in AllByRecursion (IsInstr (length steps)) steps
code_steps codes all None n e = tt
code_steps codes all (Some c) n e = (one_of IsCode codes n c all e).1

-- ---- a turn

-- what is next leaves frames of the world
pub next_frames : (w : WorldValue) (frames : Context) → AllByRecursion IsCode w.codes → AreFrames w frames → AreFrames w (next w frames).1
unfolding next
next_frames w [] codes h = tt
next_frames w (f ∷ rest) codes h =
    let steps = steps_of w f.code in
    let all : AllByRecursion (IsInstr (length steps)) steps = code_steps w.codes codes (slice_get w.codes f.code) f.code refl in
    let r = from_leads local_limit steps f (here steps f) all h.0.1 (here_leads steps f all) in
    ((rw r.1 h.0.0, rw r.1 r.0), h.1)

-- as many as before, and changes the current one alone
pub next_length : (w : WorldValue) (frames : Context) → length (next w frames).1 ≡ length frames
unfolding next
next_length w [] = refl
next_length w (f ∷ rest) = refl

-- ---- a reply

word_code : (f : Frame) (i : Option Instr) (reply : Reply) → (with_word f i reply).code ≡ f.code
word_code f None reply = refl
word_code f (Some i) Done = refl
word_code f (Some i) Waits = refl
word_code f (Some i) (No refusal) = refl
word_code f (Some i) (Word n) = by (target_register i)
  where
    by : (o : Option ℕ) → (elim o as (λ x. Frame) [ None ↦ f | Some reg ↦ record f { registers = slice_set f.registers reg n } ]).code ≡ f.code
    by None = refl
    by (Some reg) = refl

behind_frame : (w : WorldValue) (f : Frame) (reply : Reply) → IsFrame w f → IsFrame w (behind w f reply)
behind_frame w f reply h =
    let same = word_code f (slice_get (steps_of w f.code) f.at) reply in
    (rw same h.0, rw same (on_cond (λ n. n ≤ length (steps_of w f.code)) (nat_lt f.at (length (steps_of w f.code))) (f.at + 1) f.at (λ g. grind (arith, nat_tests)) (λ g. h.1)))

kept_frames : (w : WorldValue) (c : Call) (reply : Reply) (frames : Context) → AreFrames w frames → AreFrames w (frames_after c reply None frames)
kept_frames w (call.Leave give) Done [] h = h
kept_frames w (call.Leave give) Done (f ∷ rest) h = h.1
kept_frames w c reply frames h = h

code_frames : (w : WorldValue) (c : Call) (reply : Reply) (code : Option ℕ) (frames : Context) → IfSome code (λ n. n < length w.codes) → AreFrames w frames
    → AreFrames w (frames_after c reply code frames)
code_frames w c reply None frames g h = kept_frames w c reply frames h
code_frames w c reply (Some n) frames g h = ((g, omega arith), h)

-- a reply leaves frames of the world, where an entered code is one of the world
pub after_frames : (w : WorldValue) (frames : Context) (c : Call) (reply : Reply) (code : Option ℕ) → IfSome code (λ n. n < length w.codes) → AreFrames w frames
    → AreFrames w (after w frames c reply code)
unfolding after
after_frames w [] c reply code g h = tt
after_frames w (f ∷ rest) c reply code g h = code_frames w c reply code (behind w f reply ∷ rest) g (behind_frame w f reply h.0, h.1)

kept_length : (c : Call) (reply : Reply) (frames : Context) → length (frames_after c reply None frames) ≤ length frames
kept_length (call.Leave give) Done [] = omega arith
kept_length (call.Leave give) Done (f ∷ rest) = omega arith
kept_length c reply frames = omega arith

code_length : (c : Call) (reply : Reply) (code : Option ℕ) (frames : Context) → length (frames_after c reply code frames) ≤ length frames + 1
code_length c reply None frames = let h = kept_length c reply frames in omega (arith, h)
code_length c reply (Some n) frames = omega arith

-- at most one more than before
pub after_length : (w : WorldValue) (frames : Context) (c : Call) (reply : Reply) (code : Option ℕ) → length (after w frames c reply code) ≤ length frames + 1
unfolding after
after_length w [] c reply code = omega arith
after_length w (f ∷ rest) c reply code = code_length c reply code (behind w f reply ∷ rest)

-- no more where no procedure was entered
pub after_kept : (w : WorldValue) (frames : Context) (c : Call) (reply : Reply) → length (after w frames c reply None) ≤ length frames
unfolding after
after_kept w [] c reply = omega arith
after_kept w (f ∷ rest) c reply = kept_length c reply (behind w f reply ∷ rest)

-- and one less after a return
pub after_left : (w : WorldValue) (frames : Context) (give : Option Slot) (n : ℕ) → length frames ≤ n + 1 → length (after w frames (call.Leave give) Done None) ≤ n
unfolding after
after_left w [] give n h = omega arith
after_left w (f ∷ rest) give n h = omega (arith, h)
