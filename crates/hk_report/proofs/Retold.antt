-- What is told of lines as they come, one by one.
use Rattle.std.proofs.Common.{◌≡◌, ℕ, zero, suc, ◌+◌, ◌<◌, ◌≤◌, ◌^◌, List, [], ◌∷◌, ◌++◌, length, replicate, Bool, true, false, Option, Some, None, refl, sym, ap, subst, ◌∙◌, arith, append_assoc, take, option_map, slice_get}
use Rattle.std.specs.Prelude.{codes, slice_index_or}
use Rattle.std.specs.Option.{unwrap_or}
use Rattle.std.specs.Fmt.{decimal}
use Rattle.std.proofs.lemmas.List.{append-nil, length-append, take_all}
use Rattle.hk_format.specs.Texts.{ended_line}
use Rattle.hk_model.specs.declared.entries.Cap.{Cap}
use Rattle.hk_model.specs.declared.lines.Line.{Line}
use Rattle.hk_model.specs.WorldValue.{WorldValue, IsWorld}
use Rattle.hk_model.specs.State.{State}
use Rattle.hk_model.specs.Running.{Machine, opened, moved, after_lines, line_of, step, AreStepsOf}
use Rattle.hk_model.proofs.Steps.{first_steps, line_steps}
use Rattle.hk_report.specs.declared.doings.Before.{Before}
use Rattle.hk_report.specs.declared.doings.Doing.{Doing}
use Rattle.hk_report.specs.declared.families.Begun.{Begun}
use Rattle.hk_report.specs.declared.families.BareChange.{BareChange}
use Rattle.hk_report.specs.declared.histories.History.{History}
use Rattle.hk_report.specs.declared.replay.Retelling.{Retelling}
use Rattle.hk_report.specs.Doings.{before_line, doing, doing_behind, doings, given_params, kept_params, params_given}
use Rattle.hk_report.specs.Families.{changes_by, changes_from, families_after, families_by}
use Rattle.hk_report.specs.Histories.{finished_below, histories_after, noted, opened_below, told_histories}
use Rattle.hk_report.specs.Reasons.{AreFew}
use Rattle.hk_report.specs.Retold.{IsRetold, IsToldMore}
use Rattle.hk_report.specs.Reachable.{IsEnough}
use Rattle.hk_report.specs.Written.{AreWritten, IsReport}
use Rattle.hk_report.proofs.NextLines.{IsAsked}
use Rattle.hk_report.proofs.Lengths.{lines_few}
use Rattle.hk_report.proofs.Explained.{few_told}
use Rattle.hk_report.proofs.WrittenLemmas.{reported}

-- ---- one more at the end

after_one : (w : WorldValue) (m : Machine) (lines : List Line) (line : Line) → after_lines w m (lines ++ line ∷ []) ≡ moved w (after_lines w m lines) line.cpu
after_one w m [] line = refl
after_one w m (x ∷ lines) line = after_one w (moved w m x.cpu) lines line

doings_one : (w : WorldValue) (m : Machine) (lines : List Line) (line : Line)
    → doings w m (lines ++ line ∷ []) ≡ doings w m lines ++ doing (after_lines w m lines).state line (moved w (after_lines w m lines) line.cpu).state ∷ []
doings_one w m [] line = refl
doings_one w m (x ∷ lines) line = ap (λ (ds : List Doing). doing m.state x (moved w m x.cpu).state ∷ ds) (doings_one w (moved w m x.cpu) lines line)

-- the parameters that a line gives
abbrev params_from : Line → State → State → List (List (Option Cap))
params_from line s t = kept_params (doing s line t).entered (given_params line (before_line s line) t)

abbrev params_by : WorldValue → Machine → Line → List (List (Option Cap))
params_by w m line = params_from line m.state (moved w m line.cpu).state

params_one : (w : WorldValue) (m : Machine) (lines : List Line) (line : Line)
    → params_given w m (lines ++ line ∷ [])
    ≡ params_given w m lines ++ params_by w (after_lines w m lines) line
params_one w m [] line = append-nil (params_by w m line)
params_one w m (x ∷ lines) line =
    ap (λ (ps : List (List (Option Cap))). params_by w m x ++ ps) (params_one w (moved w m x.cpu) lines line)
    ∙ sym (append_assoc (params_by w m x) (params_given w (moved w m x.cpu) lines) (params_by w (after_lines w (moved w m x.cpu) lines) line))

doings_as_many : (w : WorldValue) (m : Machine) (lines : List Line) → length (doings w m lines) ≡ length lines
doings_as_many w m [] = refl
doings_as_many w m (x ∷ lines) = ap suc (doings_as_many w (moved w m x.cpu) lines)

-- behind so many of them
changes_one : (n k : ℕ) (families : List (List Begun)) (ds : List Doing) (d : Doing) → k ≡ n + length ds
    → changes_from n families (ds ++ d ∷ [])
    ≡ changes_from n families ds ++ changes_by k d.changed (slice_index_or (families_after n ds families) d.inc.0 [])
changes_one n k families [] d e =
    let same : n ≡ k = omega (arith, e) in
    append-nil (changes_by n d.changed (slice_index_or families d.inc.0 []))
    ∙ ap (λ (j : ℕ). changes_by j d.changed (slice_index_or families d.inc.0 [])) same
changes_one n k families (x ∷ ds) d e =
    ap (λ (cs : List BareChange). changes_by n x.changed (slice_index_or families x.inc.0 []) ++ cs)
    (changes_one (n + 1) k (families_by n x families) ds d (omega (arith, e)))
    ∙ sym (append_assoc (changes_by n x.changed (slice_index_or families x.inc.0 [])) (changes_from (n + 1) (families_by n x families) ds)
    (changes_by k d.changed (slice_index_or (families_after (n + 1) ds (families_by n x families)) d.inc.0 [])))

families_one : (n k : ℕ) (families : List (List Begun)) (ds : List Doing) (d : Doing) → k ≡ n + length ds
    → families_after n (ds ++ d ∷ []) families ≡ families_by k d (families_after n ds families)
families_one n k families [] d e = let same : n ≡ k = omega (arith, e) in ap (λ (j : ℕ). families_by j d families) same
families_one n k families (x ∷ ds) d e = families_one (n + 1) k (families_by n x families) ds d (omega (arith, e))

histories_one : (w : WorldValue) (n k : ℕ) (m : Machine) (lines : List Line) (line : Line) (histories : List History) → k ≡ n + length lines
    → histories_after w n m (lines ++ line ∷ []) histories
    ≡ noted (k + 1) (doing (after_lines w m lines).state line (moved w (after_lines w m lines) line.cpu).state) (moved w (after_lines w m lines) line.cpu).state
    (histories_after w n m lines histories)
histories_one w n k m [] line histories e =
    let same : n ≡ k = omega (arith, e) in
    ap (λ (j : ℕ). noted (j + 1) (doing m.state line (moved w m line.cpu).state) (moved w m line.cpu).state histories) same
histories_one w n k m (x ∷ lines) line histories e =
    histories_one w (n + 1) k (moved w m x.cpu) lines line (noted (n + 1) (doing m.state x (moved w m x.cpu).state) (moved w m x.cpu).state histories) (omega (arith, e))

-- the first lines, and one more
take_one : (lines : List Line) (n : ℕ) (line : Line) → slice_get lines n ≡ Some line → take (n + 1) lines ≡ take n lines ++ line ∷ []
take_one lines n line h = ap (λ (k : ℕ). take k lines) (one_more n) ∙ by lines n h
  where
    one_more : (n : ℕ) → n + 1 ≡ suc n
    one_more n = omega arith

    by : (lines : List Line) (n : ℕ) → slice_get lines n ≡ Some line → take (suc n) lines ≡ take n lines ++ line ∷ []
    by [] n h = absurd (cc)
    by (x ∷ lines) zero h = let same : x ≡ line = cc in rw same refl
    by (x ∷ lines) (suc n) h = ap (λ (l : List Line). x ∷ l) (by lines n h)

some_same : {a b : Line} → Some a ≡ Some b → a ≡ b
some_same h = cc

none_some : {a : Line} → None ≡ Some a → ⊥
none_some h = cc

-- ---- what was told

-- of no line
pub retold_none : (w : WorldValue) (r : Retelling) → r.machine ≡ opened w → r.count ≡ 0 → r.telling.families.changes.items ≡ []
    → r.telling.families.calls ≡ replicate (opened w).state.next_inc.0 [] → r.telling.params ≡ []
    → r.telling.histories.items ≡ opened_below (opened w).state (opened w).state.next_name.0 → IsRetold w [] r
retold_none w r m n c f p h = record { steps = tt; machine = m; count = n; changes = c; calls = f; params = p; histories = h }

-- of one line more
pub retold_more : (w : WorldValue) (lines : List Line) (line : Line) (old new : Retelling) → IsRetold w lines old → AreStepsOf w (lines ++ line ∷ [])
    → new.machine ≡ moved w old.machine line.cpu → IsToldMore old new line → IsRetold w (lines ++ line ∷ []) new
retold_more w lines line old new r steps m told =
    let c = told.changes in
    let f = told.calls ∙ ap (λ (k : Machine). families_by old.count (doing old.machine.state line k.state) old.telling.families.calls) m in
    let p = told.params ∙ ap (λ (k : Machine). old.telling.params ++ params_from line old.machine.state k.state) m in
    let h = told.histories ∙ ap (λ (k : Machine). noted (old.count + 1) (doing old.machine.state line k.state) k.state old.telling.histories.items) m in
    let n = told.count in
    let many : old.count ≡ 0 + length (doings w (opened w) lines) = let a = r.count in let b = doings_as_many w (opened w) lines in omega (arith, a, b) in
    let few : old.count ≡ 0 + length lines = let a = r.count in omega (arith, a) in
    let d : Machine → Doing = λ (k : Machine). doing k.state line (moved w k line.cpu).state in
    record {
      steps = steps;
      machine = m ∙ ap (λ (k : Machine). moved w k line.cpu) r.machine ∙ sym (after_one w (opened w) lines line);
      count = let a = r.count in let b = length-append lines (line ∷ []) in omega (arith, n, a, b);
      changes =
          c
          ∙ ap (λ (cs : List BareChange). cs ++ changes_by old.count (before_line old.machine.state line).changed (slice_index_or old.telling.families.calls line.inc.0 [])) r.changes
          ∙ ap (λ (fs : List (List Begun)). changes_from 0 (replicate (opened w).state.next_inc.0 []) (doings w (opened w) lines)
          ++ changes_by old.count (before_line old.machine.state line).changed (slice_index_or fs line.inc.0 [])) r.calls
          ∙ ap (λ (k : Machine). changes_from 0 (replicate (opened w).state.next_inc.0 []) (doings w (opened w) lines)
          ++ changes_by old.count (before_line k.state line).changed
          (slice_index_or (families_after 0 (doings w (opened w) lines) (replicate (opened w).state.next_inc.0 [])) line.inc.0 [])) r.machine
          ∙ sym (ap (changes_from 0 (replicate (opened w).state.next_inc.0 [])) (doings_one w (opened w) lines line)
          ∙ changes_one 0 old.count (replicate (opened w).state.next_inc.0 []) (doings w (opened w) lines) (d (after_lines w (opened w) lines)) many);
      calls =
          f
          ∙ ap (λ (k : Machine). families_by old.count (d k) old.telling.families.calls) r.machine
          ∙ ap (families_by old.count (d (after_lines w (opened w) lines))) r.calls
          ∙ sym (ap (λ (ds : List Doing). families_after 0 ds (replicate (opened w).state.next_inc.0 [])) (doings_one w (opened w) lines line)
          ∙ families_one 0 old.count (replicate (opened w).state.next_inc.0 []) (doings w (opened w) lines) (d (after_lines w (opened w) lines)) many);
      params =
          p
          ∙ ap (λ (ps : List (List (Option Cap))). ps ++ params_by w old.machine line) r.params
          ∙ ap (λ (k : Machine). params_given w (opened w) lines ++ params_by w k line) r.machine
          ∙ sym (params_one w (opened w) lines line);
      histories =
          h
          ∙ ap (λ (k : Machine). noted (old.count + 1) (d k) (moved w k line.cpu).state old.telling.histories.items) r.machine
          ∙ ap (noted (old.count + 1) (d (after_lines w (opened w) lines)) (moved w (after_lines w (opened w) lines) line.cpu).state) r.histories
          ∙ sym (histories_one w 0 old.count (opened w) lines line (opened_below (opened w).state (opened w).state.next_name.0) few);
    }

-- of one line more of a history, which is made once more
pub retold_line : (w : WorldValue) (lines : List Line) (n : ℕ) (line made : Line) (moves : Bool) (old new : Retelling) → AreStepsOf w lines → slice_get lines n ≡ Some line
    → IsRetold w (take n lines) old → (moves ≡ true → step w old.machine line.cpu ≡ Some (made, new.machine)) → (moves ≡ true → IsToldMore old new made)
    → (moves ≡ false → (step w old.machine line.cpu ≡ None) × (new ≡ old)) → IsRetold w (take (n + 1) lines) new
retold_line w lines n line made moves old new steps there r some told none = by moves some told none
  where
    longer : take (n + 1) lines ≡ take n lines ++ line ∷ []
    longer = take_one lines n line there

    is_line : line_of w old.machine line.cpu ≡ Some line
    is_line = subst (λ (m : Machine). line_of w m line.cpu ≡ Some line) (sym r.machine) (line_steps w (opened w) lines n line steps there)

    by : (b : Bool) → (b ≡ true → step w old.machine line.cpu ≡ Some (made, new.machine)) → (b ≡ true → IsToldMore old new made)
        → (b ≡ false → (step w old.machine line.cpu ≡ None) × (new ≡ old)) → IsRetold w (take (n + 1) lines) new
    by true some told none =
        let e = some refl in
        let same : made ≡ line = some_same (sym (ap (λ (f : Option (Line × Machine)). option_map (λ f. f.0) f) e) ∙ is_line) in
        subst (λ (l : List Line). IsRetold w l new) (sym longer)
        (retold_more w (take n lines) line old new r (subst (λ (l : List Line). AreStepsOf w l) longer (first_steps w (opened w) lines (n + 1) steps))
        (sym (ap (λ (f : Option (Line × Machine)). unwrap_or (option_map (λ f. f.1) f) old.machine) e)) (subst (λ (l : Line). IsToldMore old new l) same (told refl)))
    by false some told none = absurd (none_some (sym (ap (λ (f : Option (Line × Machine)). option_map (λ f. f.0) f) (none refl).0) ∙ is_line))

-- of no line yet, and of all
pub retold_begins : (w : WorldValue) (lines : List Line) (r : Retelling) → IsRetold w [] r → IsRetold w (take 0 lines) r
retold_begins w [] r h = h
retold_begins w (line ∷ lines) r h = h

pub retold_whole : (w : WorldValue) (lines : List Line) (n : ℕ) (r : Retelling) → length lines ≤ n → IsRetold w (take n lines) r → IsRetold w lines r
retold_whole w lines n r h is = subst (λ (l : List Line). IsRetold w l r) (take_all n lines h) is

-- a line more, of which this was asked before it
pub told_more : (old new : Retelling) (line : Line) (t : Machine) (before : Before) → IsAsked old.telling.families.calls old.machine.state line before → new.machine ≡ t
    → new.count ≡ old.count + 1
    → new.telling.families.changes.items ≡ old.telling.families.changes.items
    ++ changes_by old.count before.changed (slice_index_or old.telling.families.calls before.inc.0 [])
    → new.telling.families.calls ≡ families_by old.count (doing_behind before t.state) old.telling.families.calls
    → new.telling.params ≡ old.telling.params ++ kept_params (doing_behind before t.state).entered (given_params line before t.state)
    → new.telling.histories.items ≡ noted (old.count + 1) (doing_behind before t.state) t.state old.telling.histories.items → IsToldMore old new line
told_more old new line t before asked m n c f p h = let e = asked.is in record {
  count = n;
  changes =
      c
      ∙ ap (λ (b : Before). old.telling.families.changes.items ++ changes_by old.count before.changed (slice_index_or old.telling.families.calls b.inc.0 [])) e
      ∙ ap (λ (cs : List BareChange). old.telling.families.changes.items ++ cs) (asked.same old.count);
  calls =
      f
      ∙ ap (λ (b : Before). families_by old.count (doing_behind b t.state) old.telling.families.calls) e
      ∙ ap (λ (k : Machine). families_by old.count (doing old.machine.state line k.state) old.telling.families.calls) (sym m);
  params =
      p
      ∙ ap (λ (b : Before). old.telling.params ++ kept_params (doing_behind b t.state).entered (given_params line b t.state)) e
      ∙ ap (λ (k : Machine). old.telling.params ++ params_from line old.machine.state k.state) (sym m);
  histories =
      h
      ∙ ap (λ (b : Before). noted (old.count + 1) (doing_behind b t.state) t.state old.telling.histories.items) e
      ∙ ap (λ (k : Machine). noted (old.count + 1) (doing old.machine.state line k.state) k.state old.telling.histories.items) (sym m);
}

-- they can be numbered
pub retold_count : (w : WorldValue) (lines : List Line) (r : Retelling) → IsWorld w → IsRetold w lines r → r.count + 1 < 2 ^ 32
retold_count w lines r world h = let a = h.count in let b = lines_few w lines world h.steps in omega (arith, a, b)

pub retold_few : (w : WorldValue) (lines : List Line) (r : Retelling) → IsWorld w → IsRetold w lines r → AreFew r.telling.families.changes.items
retold_few w lines r world h = few_told w lines r.telling.families.changes.items world h.steps h.changes

-- what has stood in lists, where all that stands ends
pub retold_ended : (w : WorldValue) (lines : List Line) (r : Retelling) (told : List History) → IsRetold w lines r
    → told ≡ finished_below (r.count + 1) (length r.telling.histories.items) r.telling.histories.items → told ≡ told_histories w lines
retold_ended w lines r told t h =
    h ∙ ap (λ (k : ℕ). finished_below (k + 1) (length r.telling.histories.items) r.telling.histories.items) t.count
    ∙ ap (λ (hs : List History). finished_below (length lines + 1) (length hs) hs) t.histories

-- the text of what was told
pub retold : (r : Retelling) (told histories : List History) (params : List (List (Option Cap))) (families : List (List Begun)) (found : List BareChange)
    (count : ℕ) (none mid text : List ℕ)
    → told ≡ finished_below (r.count + 1) (length r.telling.histories.items) r.telling.histories.items → IsEnough families params found told histories → params ≡ r.telling.params
    → families ≡ r.telling.families.calls → found ≡ r.telling.families.changes.items
    → count ≡ length found → none ≡ [] → AreWritten families histories params found none mid → text ≡ mid ++ ended_line (codes "changes " ++ decimal count)
    → (w : WorldValue) → (lines : List Line) → IsWorld w → IsRetold w lines r → IsReport w lines text
retold r told histories params families found count none mid text h same p f c many n is e w lines world t =
    reported w lines told histories params families found count none mid text world t.steps
    (retold_ended w lines r told t h)
    same (p ∙ t.params) (f ∙ t.calls) (c ∙ t.changes) many n is e
