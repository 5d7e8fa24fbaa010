-- A record, as its lines are found to be steps.
use Rattle.std.proofs.Common.{◌≡◌, ℕ, ◌+◌, ◌<◌, ◌^◌, List, [], ◌∷◌, ◌++◌, length, Option, Some, None, Ok, Err, IfOk, Result, refl, ap, subst, arith}
use Rattle.std.specs.Prelude.{IfSome}
use Rattle.std.proofs.lemmas.List.{length-append}
use Rattle.std.proofs.lemmas.List.Elements.{All-pop}
use Rattle.hk_model.specs.declared.kernel.NoMemory.{NoMemory}
use Rattle.hk_model.specs.declared.names.Cpu.{Cpu}
use Rattle.hk_model.specs.declared.lines.Line.{Line}
use Rattle.hk_model.specs.declared.lines.End.{End}
use Rattle.hk_model.specs.WorldValue.{WorldValue, IsWorld}
use Rattle.hk_model.specs.Legal.{end_word}
use Rattle.hk_model.specs.Running.{Machine, AreStepsOf, after_lines, opened, step}
use Rattle.hk_format.specs.AuditLines.{line_body, line_text}
use Rattle.hk_format.specs.LineRanges.{IsLine}
use Rattle.hk_format.specs.Audits.{audit, audited, events}
use Rattle.hk_audit.specs.Followed.{IsReadTo}
use Rattle.hk_audit.proofs.ReadOn.{read_more}
use Rattle.hk_audit.proofs.StepsInRange.{steps_in_range}
use Rattle.hk_program.specs.Machines.{IsSound}
use Rattle.hk_program.proofs.Machines.{steps_snoc}
use Rattle.hk_top.specs.declared.served.DueText.{DueText}
use Rattle.hk_report.specs.declared.replay.Retelling.{Retelling}
use Rattle.hk_report.specs.Retold.{IsRetold, IsToldMore}
use Rattle.hk_report.proofs.NextLines.{step_moves}
use Rattle.hk_report.proofs.Retold.{retold_count, retold_more}
use Rattle.hk_top.specs.Follows.{AreDue, IsFollowed, IsFollowedTold}
use Rattle.hk_top.specs.Outputs.{IsChecked, TellsChanges, legal}
use Rattle.hk_top.proofs.WrittenRuns.{lawful}

-- these lines were read from the record, and lead to the machine
pub record IsOnWay (w : WorldValue) (first left : List ℕ) (lines : List Line) (m : Machine) : Type 0 where
  pub read : (bytes : List ℕ) → IsReadTo bytes w [] first → IsReadTo bytes w lines left
  pub steps : AreStepsOf w lines
  pub is : m ≡ after_lines w (opened w) lines

-- some lines were
abbrev pub IsSomeWay : WorldValue → List ℕ → List ℕ → Machine → Type 0
IsSomeWay w first left m = (lines : List Line) × IsOnWay w first left lines m

pub way_begins : (w : WorldValue) (first : List ℕ) (lines : List Line) (m : Machine) → lines ≡ [] → m ≡ opened w → IsOnWay w first first lines m
way_begins w first lines m none is = rw (none, is) (record { read = λ bytes r. r; steps = tt; is = refl })

-- the line of a step has a text
pub step_has_text : (w : WorldValue) (m : Machine) (cpu : Cpu) (line : Line) (after : Machine) → IsSound w m → step w m cpu ≡ Some (line, after) → IsLine line
step_has_text w m cpu line after sound made =
    let longer = steps_snoc w sound.lines m cpu line after sound.steps sound.is made in
    (All-pop IsLine (sound.lines ++ line ∷ []) sound.lines (Some line) refl (steps_in_range w (sound.lines ++ line ∷ []) sound.world longer.steps)).1

-- one line more
pub way_goes_on : (w : WorldValue) (first left new : List ℕ) (lines : List Line) (m after : Machine) (cpu : Cpu) (line : Line) → IsOnWay w first left lines m
    → step w m cpu ≡ Some (line, after) → IsLine line × (left ≡ line_text line ++ new) → IsOnWay w first new (lines ++ line ∷ []) after
way_goes_on w first left new lines m after cpu line h made taken =
    let longer = steps_snoc w lines m cpu line after h.steps h.is made in
    record {
      read = λ bytes r. read_more bytes w lines line left new taken.0 taken.1 (h.read bytes r);
      steps = longer.steps;
      is = longer.is;
    }

pub some_way_goes_on : (w : WorldValue) (first left new : List ℕ) (m after : Machine) (cpu : Cpu) (line : Line) → IsSomeWay w first left m
    → step w m cpu ≡ Some (line, after) → IsLine line × (left ≡ line_text line ++ new) → IsSomeWay w first new after
some_way_goes_on w first left new m after cpu line h made taken = (h.0 ++ line ∷ [], way_goes_on w first left new h.0 m after cpu line h.1 made taken)

-- fewer bytes are left
pub fewer_left : (left new : List ℕ) (line : Line) → IsLine line × (left ≡ line_text line ++ new) → length new < length left
fewer_left left new line taken =
    let size = ap (λ (b : List ℕ). length b) taken.1 in
    let parts = length-append (line_text line) new in
    let text = length-append (line_body line) (10 ∷ []) in
    omega (arith, size, parts, text)

-- the end of the record
pub way_ends : (w : WorldValue) (first left : List ℕ) (lines : List Line) (m : Machine) (end : End) → IsWorld w → IsOnWay w first left lines m → end_word m.state ≡ Some end
    → ((bytes : List ℕ) (v : WorldValue) (told : List Line) → IsReadTo bytes v told left → audit bytes ≡ Ok (audited v (events told end))) → IsFollowed w first lines end
way_ends w first left lines m end world h ends whole = record {
  told = λ bytes r. whole bytes w lines (h.read bytes r);
  legal = record { steps = h.steps; ends = subst (λ (k : Machine). end_word k.state ≡ Some end) h.is ends };
  laws = lawful w lines world h.steps;
}

-- the same, of the end word that was found
pub way_ends_by : (w : WorldValue) (first left : List ℕ) (m : Machine) (r : Option End) → IsWorld w → IsSomeWay w first left m
    → IfSome r (λ end. end_word m.state ≡ Some end)
    → IfSome r (λ end. (bytes : List ℕ) (v : WorldValue) (told : List Line) → IsReadTo bytes v told left → audit bytes ≡ Ok (audited v (events told end)))
    → IfSome r (λ end. (lines : List Line) × IsFollowed w first lines end)
way_ends_by w first left m None world h ends whole = tt
way_ends_by w first left m (Some end) world h ends whole = (h.0, way_ends w first left h.0 m end world h.1 ends whole)

-- ---- lines that are told as they come

-- the lines that were read lead to the machine, and were told
pub record IsToldWay (w : WorldValue) (first left : List ℕ) (r : Retelling) : Type 0 where
  pub lines : List Line
  pub way : IsOnWay w first left lines r.machine
  pub told : IsRetold w lines r

pub told_way_begins : (w : WorldValue) (first : List ℕ) (r : Retelling) → r.machine ≡ opened w → IsRetold w [] r → IsToldWay w first first r
told_way_begins w first r is told = record { lines = []; way = way_begins w first [] r.machine refl is; told = told }

pub told_few : (w : WorldValue) (first left : List ℕ) (r : Retelling) → IsSound w r.machine → IsToldWay w first left r → r.count + 1 < 2 ^ 32
told_few w first left r sound h = retold_count w h.lines r sound.world h.told

pub told_way_goes_on : (w : WorldValue) (first left new : List ℕ) (cpu : Cpu) (line : Line) (old more : Retelling) → IsToldWay w first left old
    → step w old.machine cpu ≡ Some (line, more.machine) → IsToldMore old more line → IsLine line × (left ≡ line_text line ++ new) → IsToldWay w first new more
told_way_goes_on w first left new cpu line old more h made tells taken =
    let way = way_goes_on w first left new h.lines old.machine more.machine cpu line h.way made taken in
    record {
      lines = h.lines ++ line ∷ [];
      way = way;
      told = retold_more w h.lines line old more h.told way.steps (step_moves w old.machine cpu line more.machine made) tells;
    }

pub told_way_ends : (w : WorldValue) (first left : List ℕ) (r : Retelling) (end : End) → IsWorld w → IsToldWay w first left r
    → end_word r.machine.state ≡ Some end
    → ((bytes : List ℕ) (v : WorldValue) (told : List Line) → IsReadTo bytes v told left → audit bytes ≡ Ok (audited v (events told end))) → IsFollowedTold w first r
told_way_ends w first left r end world h ends whole =
    record { lines = h.lines; end = end; followed = way_ends w first left h.lines r.machine end world h.way ends whole; told = h.told }

-- the changes of such lines are due
pub changes_are_due : (w : WorldValue) (left : List ℕ) (r : Retelling) (due : DueText) → IsFollowedTold w left r
    → (due.status ≡ 0) × ((lines : List Line) → IsRetold w lines r → TellsChanges w lines due.text) → AreDue w left due
changes_are_due w left r due f h = record { lines = f.lines; end = f.end; followed = f.followed; status_is = h.0; tells = h.1 f.lines f.told }

-- what is told of a record that was followed
pub followed_due : (w : WorldValue) (left : List ℕ) (lines : List Line) (end : End) (Told : WorldValue → List Line → List ℕ → Type 0) (r : Result DueText NoMemory)
    → IsFollowed w left lines end → IfOk r (λ due. (due.status ≡ 0) × Told w lines due.text)
    → IfOk r (λ due. IsChecked (audited w (events lines end)) Told due.status due.text)
followed_due w left lines end Told (Ok due) f h = rw h.0 (legal due.text f.legal f.laws h.1)
followed_due w left lines end Told (Err error) f h = tt
