-- Lines that were made, of which the last comes and goes.
use Rattle.std.specs.Prelude.{◌≡◌, ℕ, zero, suc, ◌+◌, ◌-◌, ◌<◌, List, [], ◌∷◌, ◌++◌, length, take, Option, Some, None, IfSome, option_map, slice_get, refl}
use Rattle.std.specs.Option.{unwrap_or}
use Rattle.std.proofs.Common.{arith, ap, sym, ◌∙◌, subst, length-append}
use Rattle.std.proofs.lemmas.Option.{slice_get_within}
use Rattle.hk_model.specs.declared.names.Cpu.{Cpu}
use Rattle.hk_model.specs.declared.lines.Line.{Line}
use Rattle.hk_model.specs.WorldValue.{WorldValue}
use Rattle.hk_model.specs.Running.{Machine, AreSteps, AreStepsOf, after_lines, context_of, line_of, moved, opened, step}
use Rattle.hk_plain.specs.Changes.{IsBehind, taken_back}
use Rattle.hk_program.specs.Machines.{IsSound}
use Rattle.hk_program.proofs.Machines.{step_cpu}
use Rattle.hk_undo.specs.declared.reversible.Made.{Made}
use Rattle.hk_undo.specs.Pasts.{AreMade, CanPutBack, History, IsMade, IsPast, contexts_back, lines_of, machine_after, machine_back}

-- what a step leaves, and its line
moved_is : (w : WorldValue) (m : Machine) (cpu : Cpu) (line : Line) (new : Machine) → step w m cpu ≡ Some (line, new) → moved w m cpu ≡ new
moved_is w m cpu line new e = ap (λ (found : Option (Line × Machine)). unwrap_or (option_map (λ f. f.1) found) m) e

pub line_is : (w : WorldValue) (m : Machine) (cpu : Cpu) (line : Line) (new : Machine) → step w m cpu ≡ Some (line, new) → line_of w m cpu ≡ Some line
line_is w m cpu line new e = ap (λ (found : Option (Line × Machine)). option_map (λ f. f.0) found) e

pub no_line : (w : WorldValue) (m : Machine) (cpu : Cpu) → step w m cpu ≡ None → line_of w m cpu ≡ None
no_line w m cpu e = ap (λ (found : Option (Line × Machine)). option_map (λ f. f.0) found) e

pub made_cpu : (w : WorldValue) (m : Machine) (cpu : Cpu) (made : Made) (new : Machine) → IsMade w m cpu made new → made.line.cpu ≡ cpu
made_cpu w m cpu made new h = subst (λ found. IfSome found (λ f. f.0.cpu ≡ cpu)) h.step (step_cpu w m cpu)

-- ---- what was made are the steps of its lines

pub made_steps : (w : WorldValue) (m : Machine) (made : List Made) (last : Machine) → AreMade w m made last → AreSteps w m (lines_of made)
made_steps w m [] last h = tt
made_steps w m (x ∷ made) last h = (line_is w m x.line.cpu x.line _ h.0.step, made_steps w (moved w m x.line.cpu) made last h.1)

pub made_after : (w : WorldValue) (m : Machine) (made : List Made) (last : Machine) → AreMade w m made last → last ≡ after_lines w m (lines_of made)
made_after w m [] last h = h
made_after w m (x ∷ made) last h = made_after w (moved w m x.line.cpu) made last h.1

pub past_sound : (w : WorldValue) (m : Machine) (made : List Made) → IsPast w m made → IsSound w m
past_sound w m made h = record { world = h.world; lines = lines_of made; steps = made_steps w (opened w) made m h.lines; is = made_after w (opened w) made m h.lines }

-- ---- one more

made_more : (w : WorldValue) (m : Machine) (made : List Made) (last : Machine) (one : Made) (new : Machine) → AreMade w m made last → IsMade w last one.line.cpu one new
    → AreMade w m (made ++ one ∷ []) new
made_more w m [] last one new h more =
    let from : IsMade w m one.line.cpu one new = subst (λ (k : Machine). IsMade w k one.line.cpu one new) h more in
    let goes = moved_is w m one.line.cpu one.line new from.step in
    (subst (IsMade w m one.line.cpu one) (sym goes) from, sym goes)
made_more w m (x ∷ made) last one new h more = (h.0, made_more w (moved w m x.line.cpu) made last one new h.1 more)

pub past_more : (w : WorldValue) (m : Machine) (made : List Made) (cpu : Cpu) (one : Made) (new : Machine) → IsPast w m made → IsMade w m cpu one new
    → IsPast w new (made ++ one ∷ [])
past_more w m made cpu one new h more = record {
  world = h.world;
  lines = made_more w (opened w) made m one new h.lines (subst (λ (c : Cpu). IsMade w m c one new) (sym (made_cpu w m cpu one new more)) more);
}

pub lines_more : (made : List Made) (one : Made) → lines_of (made ++ one ∷ []) ≡ lines_of made ++ one.line ∷ []
lines_more [] one = refl
lines_more (x ∷ made) one = ap (λ (l : List Line). x.line ∷ l) (lines_more made one)

-- ---- one less

-- the machine before the last line
pub record IsLast (w : WorldValue) (m : Machine) (made : List Made) (one : Made) (last : Machine) : Type 0 where
  pub before : Machine
  pub rest : AreMade w m made before
  pub one_made : IsMade w before one.line.cpu one last

made_last : (w : WorldValue) (m : Machine) (made : List Made) (one : Made) (last : Machine) → AreMade w m (made ++ one ∷ []) last → IsLast w m made one last
made_last w m [] one last h = record { before = m; rest = refl; one_made = subst (IsMade w m one.line.cpu one) (sym h.1) h.0 }
made_last w m (x ∷ made) one last h =
    let found = made_last w (moved w m x.line.cpu) made one last h.1 in
    record { before = found.before; rest = (h.0, found.rest); one_made = found.one_made }

pub past_last : (w : WorldValue) (m : Machine) (made : List Made) (one : Made) → IsPast w m (made ++ one ∷ []) → IsLast w (opened w) made one m
past_last w m made one h = made_last w (opened w) made one m h.lines

-- what is left once it is taken back
pub past_less : (w : WorldValue) (m : Machine) (made : List Made) (one : Made) → IsPast w m (made ++ one ∷ []) → IsPast w (machine_back one m) made
past_less w m made one h =
    let found = past_last w m made one h in
    record { world = h.world; lines = subst (AreMade w (opened w) made) (sym found.one_made.back) found.rest }

-- ---- by what callers see: the lines

abbrev pub history_of : WorldValue → List Made → History
history_of w made = record { world = w; lines = lines_of made }

-- the machine is the one after them
pub past_after : (w : WorldValue) (m : Machine) (made : List Made) (h : History) → IsPast w m made → history_of w made ≡ h → m ≡ machine_after h
past_after w m made h past e = made_after w (opened w) made m past.lines ∙ ap machine_after e

pub past_steps : (w : WorldValue) (m : Machine) (made : List Made) (h : History) → IsPast w m made → history_of w made ≡ h → AreStepsOf h.world h.lines
past_steps w m made h past e = subst (λ (k : History). AreStepsOf k.world k.lines) e (made_steps w (opened w) made m past.lines)

pub step_line : (w : WorldValue) (m : Machine) (made : List Made) (h : History) (cpu : Cpu) (one : Made) (new : Machine) → IsPast w m made → history_of w made ≡ h
    → IsMade w m cpu one new → Some one.line ≡ line_of h.world (machine_after h) cpu
step_line w m made h cpu one new past e more =
    sym (line_is w m cpu one.line new more.step) ∙ (ap (λ (k : Machine). line_of w k cpu) (made_after w (opened w) made m past.lines)
    ∙ ap (λ (k : History). line_of k.world (machine_after k) cpu) e)

pub step_none : (w : WorldValue) (m : Machine) (made : List Made) (h : History) (cpu : Cpu) → IsPast w m made → history_of w made ≡ h
    → step w m cpu ≡ None → ◌≡◌ {A = Option Line} None (line_of h.world (machine_after h) cpu)
step_none w m made h cpu past e none =
    sym (no_line w m cpu none) ∙ (ap (λ (k : Machine). line_of w k cpu) (made_after w (opened w) made m past.lines)
    ∙ ap (λ (k : History). line_of k.world (machine_after k) cpu) e)

-- ---- the last line, as the code reads it

ends_with : (xs : List Made) (n : ℕ) (x : Made) → slice_get xs n ≡ Some x → length xs ≡ n + 1 → xs ≡ take n xs ++ x ∷ []
ends_with [] n x h e = absurd (cc)
ends_with (y ∷ []) zero x h e = let same : y ≡ x = cc in ap (λ (z : Made). z ∷ []) same
ends_with (y ∷ z ∷ ys) zero x h e = absurd (omega arith)
ends_with (y ∷ ys) (suc n) x h e = ap (λ (l : List Made). y ∷ l) (ends_with ys n x h (omega arith))

get_last : (rest : List Made) (y : Made) → slice_get (rest ++ y ∷ []) (length rest) ≡ Some y
get_last [] y = refl
get_last (x ∷ rest) y = get_last rest y

abbrev IsRead : List Made → Made → Type 0
IsRead made one = Some one ≡ slice_get made (length made - 1)

-- it can be taken back
pub read_behind : (w : WorldValue) (m : Machine) (made : List Made) (one : Made) → IsPast w m made → IsRead made one → IsBehind one.inverse m.state
read_behind w m made one past read =
    let within = slice_get_within made (length made - 1) one (sym read) in
    let whole = ends_with made (length made - 1) one (sym read) (omega (arith, within)) in
    (past_last w m (take (length made - 1) made) one (subst (IsPast w m) whole past)).one_made.can.state

-- and is the one that goes
read_same : (made rest : List Made) (one last : Made) → IsRead made one → made ≡ rest ++ last ∷ [] → one ≡ last
read_same made rest one last read e =
    let more = length-append rest (last ∷ []) in
    let place : length (rest ++ last ∷ []) - 1 ≡ length rest = omega (arith, more) in
    let found : Some one ≡ Some last = subst (λ (xs : List Made). IsRead xs one) e read ∙ (ap (slice_get (rest ++ last ∷ [])) place ∙ get_last rest last) in
    cc

module _ (w : WorldValue) (m : Machine) (made rest : List Made) (one last : Made) (past : IsPast w m made) (read : IsRead made one) (whole : made ≡ rest ++ last ∷ [])
    (taken : Machine) (took : taken ≡ record m { state = taken_back one.inverse m.state }) where
  before : IsPast w m (rest ++ last ∷ [])
  before = subst (IsPast w m) whole past

  pub read_frames : IfSome last.frames (λ kept. (last.line.proc.0 < length taken.contexts) × CanPutBack kept (context_of taken last.line.proc))
  read_frames = rw took (past_last w m rest last before).one_made.can.frames

  -- the lines before it are left
  pub read_less : (new : Machine) → new ≡ record taken { contexts = contexts_back taken last.line.proc last.frames } → IsPast w new rest
  read_less new e = subst (λ (k : Machine). IsPast w k rest) (sym (e ∙ back)) (past_less w m rest last before)
    where
      back : ◌≡◌ {A = Machine} (record taken { contexts = contexts_back taken last.line.proc last.frames }) (machine_back last m)
      back = rw (took, read_same made rest one last read whole) refl
