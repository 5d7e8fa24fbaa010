-- The record of a run, as its lines come.
use Rattle.std.proofs.Common.{◌≡◌, ◌≢◌, ℕ, ◌-◌, ◌<◌, List, [], ◌∷◌, ◌++◌, Option, Some, None, refl, ap}
use Rattle.std.proofs.lemmas.List.Elements.{All-pop}
use Rattle.hk_model.specs.declared.lines.Line.{Line}
use Rattle.hk_model.specs.declared.lines.End.{End}
use Rattle.hk_model.specs.WorldValue.{WorldValue, IsWorld}
use Rattle.hk_model.specs.State.{State}
use Rattle.hk_model.specs.Legal.{end_word}
use Rattle.hk_format.specs.LineRanges.{IsLine}
use Rattle.hk_format.specs.Records.{record_text}
use Rattle.hk_model.specs.Running.{Machine, AreStepsOf, opened, step}
use Rattle.hk_audit.specs.Begun.{begun}
use Rattle.hk_audit.proofs.StepsInRange.{steps_in_range}
use Rattle.hk_model.proofs.ChainLines.{chains_fall}
use Rattle.hk_model.proofs.KindsStay.{leaves_others, names_last}
use Rattle.hk_model.proofs.ReachRules.{reaches_are_least}
use Rattle.hk_descent.proofs.Chains.{descent}
use Rattle.hk_descent.proofs.Joined.{one_descent}
use Rattle.hk_descent.proofs.Environment.{environment}
use Rattle.hk_confine.proofs.Confined.{confinement, closed_call}
use Rattle.hk_confine.proofs.Untouched.{untouched}
use Rattle.hk_model.proofs.NeededRights.{permission_law, denial_law}
use Rattle.hk_program.proofs.AlwaysKept.{kept_law}
use Rattle.hk_bound.proofs.Law.{law}
use Rattle.hk_top.specs.Runs.{first_processor, status_of, IsLawful, IsRecorded, IsRunOf}
use Rattle.hk_top.specs.Outputs.{IsWrittenRun}
use Rattle.hk_top.specs.Words.{IsRun}
use Rattle.hk_top.proofs.Histories.{IsHistory, begins, grows_by, last}

-- the record so far is of a history that leads to the machine
pub record IsTold (w : WorldValue) (text : List ℕ) (m : Machine) : Type 0 where
  pub lines : List Line
  pub history : IsHistory w lines m
  pub text_is : text ≡ begun w lines

pub told_none : (w : WorldValue) (text : List ℕ) (m : Machine) → text ≡ begun w [] → m ≡ opened w → IsTold w text m
told_none w text m t e = record { lines = []; history = begins w [] m refl e; text_is = t }

-- the line of the next step has a text
pub told_line : (w : WorldValue) (text : List ℕ) (m : Machine) (line : Line) (after : Machine) → IsWorld w → IsTold w text m
    → step w m first_processor ≡ Some (line, after) → IsLine line
told_line w text m line after world t made =
    let g = grows_by w t.lines m (Some line) line after t.history made refl in
    (All-pop IsLine (t.lines ++ line ∷ []) t.lines (Some line) refl (steps_in_range w (t.lines ++ line ∷ []) world g.history.steps)).1

pub told_fewer : (w : WorldValue) (text : List ℕ) (m : Machine) (line : Line) (after : Machine) → IsTold w text m
    → step w m first_processor ≡ Some (line, after) → after.state.limit - after.state.events < m.state.limit - m.state.events
told_fewer w text m line after t made = (grows_by w t.lines m (Some line) line after t.history made refl).fewer

pub told_more : (w : WorldValue) (text new : List ℕ) (m : Machine) (line : Line) (after : Machine) → IsTold w text m
    → step w m first_processor ≡ Some (line, after)
    → ((v : WorldValue) → (lines : List Line) → text ≡ begun v lines → new ≡ begun v (lines ++ line ∷ [])) → IsTold w new after
told_more w text new m line after t made add =
    record { lines = t.lines ++ line ∷ []; history = (grows_by w t.lines m (Some line) line after t.history made refl).history; text_is = add w t.lines t.text_is }

-- the laws hold of the lines of a history
pub lawful : (w : WorldValue) (lines : List Line) → IsWorld w → AreStepsOf w lines → IsLawful w lines
lawful w lines world steps = record {
  permission = permission_law w lines steps;
  denial = denial_law w lines steps;
  descent = descent w lines steps;
  chains = chains_fall w lines steps;
  one_descent = one_descent w lines steps;
  environment = environment w lines steps;
  confinement = confinement w lines steps world;
  closed_call = closed_call w lines steps world;
  untouched = untouched w lines steps world;
  others = leaves_others w lines steps;
  names = names_last w lines steps;
  reaches = reaches_are_least w lines;
  kept = kept_law w world lines steps;
  bound = law w w lines world (record { limit = refl; objects = refl; tasks = refl; labels = refl }) steps;
}

-- where the run stops
pub record IsStopped (w : WorldValue) (text : List ℕ) (s : State) (word : Option End) : Type 0 where
  pub there : word ≢ None
  pub written : (end : End) → (whole : List ℕ) → word ≡ Some end → ((v : WorldValue) → (lines : List Line) → text ≡ begun v lines
      → whole ≡ record_text v lines end) → IsWrittenRun w whole end s

pub told_last : (w : WorldValue) (text : List ℕ) (m after : Machine) (s : State) (word : Option End) → IsWorld w → IsTold w text m
    → (step w m first_processor ≡ None) × (after ≡ m) → s ≡ after.state → word ≡ end_word s → IsStopped w text s word
told_last w text m after s word world t none at e =
    let l = last w t.lines m None after s word t.history none refl at e in
    record {
      there = l.there;
      written = λ end whole g finish. record {
        lines = t.lines;
        run = l.whole end g;
        laws = lawful w t.lines world t.history.steps;
        text_is = finish w t.lines t.text_is;
        state_is = l.state;
      };
    }

-- such a record is that of a run that the words ask for
pub written_due : (words : List (List ℕ)) (w : WorldValue) (status : ℕ) (text : List ℕ) (end : End) (s : State) → IsRun words → status ≡ status_of end
    → IsWrittenRun w text end s → IsRecorded words w status text (Some s)
written_due words w status text end s asked is r = record {
  lines = r.lines;
  end = end;
  run = IsRunOf.alone asked r.run;
  record_is = record { laws = r.laws; status_is = is; text_is = r.text_is };
  kernel = ap (λ x. Some x) r.state_is;
}
