-- The changes of a run, counted as its lines come.
use Rattle.std.proofs.Common.{◌≡◌, ◌≢◌, ℕ, suc, ◌+◌, ◌-◌, ◌<◌, List, [], ◌∷◌, ◌++◌, length, Bool, true, false, Option, Some, None, refl, ap, ◌∙◌, sym, subst}
use Rattle.std.specs.Prelude.{option_map, slice_get, slice_index_or, take}
use Rattle.std.specs.Option.{unwrap_or}
use Rattle.hk_model.specs.declared.names.Cpu.{Cpu}
use Rattle.hk_model.specs.declared.names.Inc.{Inc}
use Rattle.hk_model.specs.declared.names.Proc.{Proc}
use Rattle.hk_model.specs.declared.lines.Line.{Line}
use Rattle.hk_model.specs.declared.lines.End.{End}
use Rattle.hk_model.specs.declared.lines.End.TheVariants as ending
use Rattle.hk_model.specs.WorldValue.{WorldValue, IsWorld}
use Rattle.hk_model.specs.State.{State, incarnation}
use Rattle.hk_model.specs.Processors.{running_on}
use Rattle.hk_model.specs.Lines.{done_call, enters_call}
use Rattle.hk_model.specs.Under.{IsCall}
use Rattle.hk_model.specs.Legal.{end_word}
use Rattle.hk_model.specs.Changes.{bare_changes}
use Rattle.hk_model.specs.Generated.{generate}
use Rattle.hk_model.specs.Running.{Machine, AreStepsOf, line_of, moved, opened, state_after, step}
use Rattle.hk_model.proofs.Steps.{moved_holds}
use Rattle.hk_model.proofs.EventCounts.{events_are}
use Rattle.hk_gen.specs.ConfinedCalls.{AllCallsConfined}
use Rattle.hk_gen.specs.WholeRuns.{WholeRunsEnd}
use Rattle.hk_report.specs.Counts.{Counted, changes_more, confined_on, counted, counted_by, depth_entered}
use Rattle.hk_report.proofs.Counts.{RunsNew, counted_more, runs_each}
use Rattle.hk_report.proofs.NextLines.{step_line, step_moves}
use Rattle.hk_top.specs.Runs.{first_processor, status_of}
use Rattle.hk_top.specs.Outputs.{IsCountedRun, IsSummed}
use Rattle.hk_top.specs.Summaries.{summed_text}
use Rattle.hk_top.proofs.Histories.{IsHistory, begins, grows_by, last}
use Rattle.hk_top.proofs.WrittenRuns.{lawful}

-- the count so far is of a history that leads to the machine
pub record IsCounting (w : WorldValue) (c : Counted) (m : Machine) : Type 0 where
  pub lines : List Line
  pub history : IsHistory w lines m
  pub counted_is : c ≡ counted w lines

pub counting_none : (w : WorldValue) (c : Counted) (m : Machine) → c ≡ counted w [] → m ≡ opened w → IsCounting w c m
counting_none w c m h e = record { lines = []; history = begins w [] m refl e; counted_is = h }

pub counting_fewer : (w : WorldValue) (c : Counted) (m : Machine) (line : Line) (after : Machine) → IsCounting w c m
    → step w m first_processor ≡ Some (line, after) → after.state.limit - after.state.events < m.state.limit - m.state.events
counting_fewer w c m line after t made = (grows_by w t.lines m (Some line) line after t.history made refl).fewer

pub counting_more : (w : WorldValue) (c new : Counted) (m : Machine) (line : Line) (after : Machine) (s : State) (confined : Bool) → IsCounting w c m
    → step w m first_processor ≡ Some (line, after) → s ≡ after.state → confined ≡ confined_on s line.cpu → new ≡ counted_by line confined c
    → IsCounting w new after
counting_more w c new m line after s confined t made at b h =
    let g = (grows_by w t.lines m (Some line) line after t.history made refl).history in
    record {
      lines = t.lines ++ line ∷ [];
      history = g;
      counted_is = counted_more w t.lines line s confined c new (ap (λ (x : Machine). x.state) g.machine ∙ sym at) t.counted_is b h;
    }

-- the call that the last line of a history has entered

front : (lines : List Line) (line : Line) → take (length lines) (lines ++ line ∷ []) ≡ lines
front [] line = refl
front (x ∷ lines) line = ap (λ (ls : List Line). x ∷ ls) (front lines line)

whole : (lines : List Line) (line : Line) → take (suc (length lines)) (lines ++ line ∷ []) ≡ lines ++ line ∷ []
whole [] line = refl
whole (x ∷ lines) line = ap (λ (ls : List Line). x ∷ ls) (whole lines line)

line_last : (lines : List Line) (line : Line) → slice_get (lines ++ line ∷ []) (length lines) ≡ Some line
line_last [] line = refl
line_last (x ∷ lines) line = line_last lines line

entered_last : (w : WorldValue) (lines : List Line) (line : Line) → AllCallsConfined w → AreStepsOf w (lines ++ line ∷ []) → enters_call (done_call line) ≡ true
    → (incarnation (state_after w (lines ++ line ∷ [])) (state_after w lines).next_inc).confined ≡ true
entered_last w lines line all steps e =
    let is : IsCall w (lines ++ line ∷ []) (suc (length lines)) (state_after w lines).next_inc = record {
      earlier = length lines;
      moment = refl;
      line = line;
      is = line_last lines line;
      enters = e;
      made = ap (λ (ls : List Line). (state_after w ls).next_inc) (sym (front lines line));
    } in
    ap (λ (ls : List Line). (incarnation (state_after w ls) (state_after w lines).next_inc).confined) (sym (whole lines line))
    ∙ (all (lines ++ line ∷ []) steps (suc (length lines)) (state_after w lines).next_inc is).confined

-- where a line has entered nothing, it does not matter what its processor runs
unentered : (line : Line) (c : Counted) (a b : Bool) → enters_call (done_call line) ≡ false → counted_by line a c ≡ counted_by line b c
unentered line c a b e =
    subst (λ (enters : Bool). ◌≡◌ {A = Counted} (counted_where line c enters a) (counted_where line c enters b)) (sym e) refl
  where
    counted_where : Line → Counted → Bool → Bool → Counted
    counted_where line c enters confined = record {
      depths = elim enters [ true ↦ c.depths ++ depth_entered confined (slice_index_or c.depths line.inc.0 0) ∷ [] | false ↦ c.depths ];
      changes = c.changes + changes_more line c.depths;
    }

-- whether the call is confined that a processor runs
confined_run : (s : State) (cpu : Cpu) (inc : Inc) → option_map (λ (x : Proc × Inc). x.1) (running_on s cpu) ≡ Some inc
    → confined_on s cpu ≡ (incarnation s inc).confined
confined_run s cpu inc h = by (running_on s cpu) h
  where
    by : (o : Option (Proc × Inc)) → option_map (λ (x : Proc × Inc). x.1) o ≡ Some inc
        → unwrap_or (option_map (λ (x : Proc × Inc). (incarnation s x.1).confined) o) false ≡ (incarnation s inc).confined
    by None e = absurd (cc)
    by (Some x) e = let same : x.1 ≡ inc = cc in ap (λ (i : Inc). (incarnation s i).confined) same

-- one line more, where every call is confined
pub counting_confined : (w : WorldValue) (c new : Counted) (m : Machine) (line : Line) (after : Machine) → AllCallsConfined w → IsCounting w c m
    → step w m first_processor ≡ Some (line, after) → new ≡ counted_by line true c → IsCounting w new after
counting_confined w c new m line after all t made h =
    counting_more w c new m line after after.state (confined_on after.state line.cpu) t made refl refl (h ∙ by (enters_call (done_call line)) refl)
  where
    tells : line_of w m line.cpu ≡ Some line
    tells = step_line w m first_processor line after made

    moves : after ≡ moved w m line.cpu
    moves = step_moves w m first_processor line after made

    grown : IsHistory w (t.lines ++ line ∷ []) after
    grown = (grows_by w t.lines m (Some line) line after t.history made refl).history

    runs : enters_call (done_call line) ≡ true → running_on after.state line.cpu ≡ Some (line.proc, m.state.next_inc)
    runs e = ap (λ (x : Machine). running_on x.state line.cpu) moves ∙ moved_holds RunsNew runs_each w m line tells e

    is_confined : enters_call (done_call line) ≡ true → confined_on after.state line.cpu ≡ true
    is_confined e =
        confined_run after.state line.cpu m.state.next_inc (ap (λ (o : Option (Proc × Inc)). option_map (λ (x : Proc × Inc). x.1) o) (runs e))
        ∙ sym (ap (λ (x : Machine). (incarnation x.state m.state.next_inc).confined) grown.machine)
        ∙ sym (ap (λ (x : Machine). (incarnation (state_after w (t.lines ++ line ∷ [])) x.state.next_inc).confined) t.history.machine)
        ∙ entered_last w t.lines line all grown.steps e

    by : (b : Bool) → enters_call (done_call line) ≡ b → counted_by line true c ≡ counted_by line (confined_on after.state line.cpu) c
    by true e = ap (λ (confined : Bool). counted_by line confined c) (sym (is_confined e))
    by false e = unentered line c true (confined_on after.state line.cpu) e

-- where the run stops
pub record IsCounted (w : WorldValue) (c : Counted) (s : State) (word : Option End) : Type 0 where
  pub there : word ≢ None
  pub run : (end : End) (changes : ℕ) → word ≡ Some end
      → ((v : WorldValue) → (lines : List Line) → AreStepsOf v lines → c ≡ counted v lines → changes ≡ length (bare_changes v lines))
      → IsCountedRun w changes end s

pub counting_last : (w : WorldValue) (c : Counted) (m after : Machine) (s : State) (word : Option End) → IsWorld w → IsCounting w c m
    → (step w m first_processor ≡ None) × (after ≡ m) → s ≡ after.state → word ≡ end_word s → IsCounted w c s word
counting_last w c m after s word world t none at e =
    let l = last w t.lines m None after s word t.history none refl at e in
    record {
      there = l.there;
      run = λ end changes g all. record {
        lines = t.lines;
        run = l.whole end g;
        laws = lawful w t.lines world t.history.steps;
        changes_is = all w t.lines t.history.steps t.counted_is;
        state_is = l.state;
      };
    }

-- the summary of such a run: its lines are as many as there were events
summed_done : (count changes : ℕ) (text : List ℕ) (s : State) → IsCountedRun (generate count) changes ending.Done s
    → text ≡ summed_text count (length s.objects) s.events changes ending.Done → IsSummed count 0 text (Some s)
summed_done count changes text s r told =
    let events : s.events ≡ length r.lines = ap (λ (x : State). x.events) r.state_is ∙ events_are (generate count) r.lines r.run.legal.steps in
    record {
      lines = r.lines;
      run = r.run;
      laws = r.laws;
      status_is = refl;
      text_is = told
          ∙ ap (λ (n : ℕ). summed_text count (length s.objects) n changes ending.Done) events
          ∙ ap (λ (n : ℕ). summed_text count (length s.objects) (length r.lines) n ending.Done) r.changes_is
          ∙ ap (λ (x : State). summed_text count (length x.objects) (length r.lines) (length (bare_changes (generate count) r.lines)) ending.Done) r.state_is;
      kernel = ap (λ (x : State). Some x) r.state_is;
    }

-- every process has ended behind it
whole_is_done : (w : WorldValue) (changes : ℕ) (end : End) (s : State) → WholeRunsEnd w → IsCountedRun w changes end s → end ≡ ending.Done
whole_is_done w changes end s ends r =
    let word : Some end ≡ Some ending.Done = sym r.run.legal.ends ∙ ends r.lines r.run.legal.steps r.run.alone r.run.last in cc (word)

pub summed : (count changes status : ℕ) (w : WorldValue) (text : List ℕ) (end : End) (s : State) → w ≡ generate count → WholeRunsEnd (generate count)
    → status ≡ status_of end → IsCountedRun w changes end s → text ≡ summed_text count (length s.objects) s.events changes end
    → IsSummed count status text (Some s)
summed count changes status w text end s made ends is r told =
    let g : IsCountedRun (generate count) changes end s = rw made at r in
    let over : end ≡ ending.Done = whole_is_done (generate count) changes end s ends g in
    let done : IsCountedRun (generate count) changes ending.Done s = rw over at g in
    let text_is : text ≡ summed_text count (length s.objects) s.events changes ending.Done = rw over at told in
    subst (λ (n : ℕ). IsSummed count n text (Some s)) (sym (is ∙ ap status_of over)) (summed_done count changes text s done text_is)
