-- The changes that are found line by line are those of the definitions, which look at who is under a call in the whole history.
use Rattle.std.proofs.Common.{◌≡◌, ℕ, zero, suc, ◌+◌, ◌<◌, ◌^◌, List, [], ◌∷◌, ◌++◌, length, map, Bool, true, false, Option, Some, None, Ok, Err}
use Rattle.std.proofs.Common.{refl, sym, ◌∙◌, ap, arith, cond, subst}
use Rattle.std.specs.Prelude.{IsTrue, Result, filter, option_map, slice_get, slice_index_or, take, drop, replicate}
use Rattle.std.specs.Option.{option_and_then}
use Rattle.std.proofs.lemmas.Bool.{true≢false}
use Rattle.std.proofs.lemmas.List.{append-nil, append_assoc, map-append, length-replicate, get_or-replicate}
use Rattle.hk_model.specs.declared.names.Name.{Name}
use Rattle.hk_model.specs.declared.names.Inc.{Inc}
use Rattle.hk_model.specs.declared.entries.Cap.{Cap}
use Rattle.hk_model.specs.declared.entries.Entry.{Entry}
use Rattle.hk_model.specs.declared.calls.Call.{Call}
use Rattle.hk_model.specs.declared.calls.Call.TheVariants as call
use Rattle.hk_model.specs.declared.calls.Refusal.{Refusal}
use Rattle.hk_model.specs.declared.lines.Line.{Line}
use Rattle.hk_model.specs.WorldValue.{WorldValue, IsWorld}
use Rattle.hk_model.specs.State.{State, incarnation}
use Rattle.hk_model.specs.Walking.{walk}
use Rattle.hk_model.specs.Places.{named_by, cap_of, cap_found, entry_given}
use Rattle.hk_model.specs.Running.{Machine, opened, moved, after_lines, machine_at, AreSteps, AreStepsOf}
use Rattle.hk_model.specs.Lines.{done_call, enters_call, changes_path, changed_by, changed, told}
use Rattle.hk_model.specs.Under.{is_one_of, is_live, under_by, is_under}
use Rattle.hk_model.specs.Changes.{Beginning, confined_by, confined_calls, calls_over, bare_changes_by, bare_changes}
use Rattle.hk_model.specs.Changes as changes
use Rattle.hk_model.proofs.NamesStand.{All, all_append, all_map}
use Rattle.hk_model.proofs.Steps.{moved_holds, after_next}
use Rattle.hk_model.proofs.Activations.{activation}
use Rattle.hk_model.proofs.ActivationLists.{activation_live}
use Rattle.hk_model.proofs.EventCounts.{events_next, opened_events}
use Rattle.hk_model.proofs.Turns.{walks_live}
use Rattle.hk_model.proofs.CallShown.{HasTarget, ShownIf, shown_each}
use Rattle.hk_model.proofs.Histories.{Sound, LineKnown, known_each, opening_sound, enters_turn}
use Rattle.hk_report.specs.declared.doings.Doing.{Doing}
use Rattle.hk_report.specs.declared.families.Begun.{Begun}
use Rattle.hk_report.specs.declared.families.BareChange.{BareChange}
use Rattle.hk_report.specs.Named.{named_change}
use Rattle.hk_report.specs.Doings.{doing, doings}
use Rattle.hk_report.specs.Families.{told_call, told_change, families_by, families_after, change_under, changes_by, changes_from}
use Rattle.hk_report.proofs.Lengths.{lines_few}
use Rattle.hk_report.proofs.Followed.{Followed, started, goes_on, new_calls, followed_by, calls_of, calls_with, calls_followed, old_with, rises_above, FamiliesFit, fits_line}

-- ---- what a line changes

-- the object that a done call changes is the one that its path names
target_named : (s : State) (inc : Inc) (path : List ℕ) (types : Name → Bool) (rights : ℕ) → HasTarget s inc path types rights
    → option_map (λ (cap : Cap). cap.name) (cap_found s inc path) ≡ Some (named_by s inc path)
target_named s inc path types rights h =
    ap (λ (r : Result Entry Refusal). option_map (λ (cap : Cap). cap.name) (cap_of (entry_given r))) h.is.leads ∙ ap Some (sym h.is.name)

pub changed_named : (s : State) (inc : Inc) (o : Option Call) → ShownIf s inc o → changed_by s inc o ≡ named_change s inc o
changed_named s inc None h = refl
changed_named s inc (Some (call.Put of at word)) h = target_named s inc of _ _ h
changed_named s inc (Some (call.Add of word)) h = target_named s inc of _ _ h
changed_named s inc (Some (call.Store list at from)) h = target_named s inc list _ _ h
changed_named s inc (Some (call.Append list from)) h = target_named s inc list _ _ h
changed_named s inc (Some (call.Erase list at)) h = target_named s inc list _ _ h
changed_named s inc (Some (call.P of)) h = target_named s inc of _ _ h
changed_named s inc (Some (call.V of)) h = target_named s inc of _ _ h
changed_named s inc (Some (call.Get of at)) h = refl
changed_named s inc (Some (call.Length of)) h = refl
changed_named s inc (Some (call.Load path into)) h = refl
changed_named s inc (Some (call.Drop slot)) h = refl
changed_named s inc (Some (call.Restrict slot keep)) h = refl
changed_named s inc (Some (call.Look of)) h = refl
changed_named s inc (Some (call.MakeTemplate of kind into)) h = refl
changed_named s inc (Some (call.Create by into)) h = refl
changed_named s inc (Some (call.Merge with cap into)) h = refl
changed_named s inc (Some (call.Copy of into)) h = refl
changed_named s inc (Some (call.Enter path args into)) h = refl
changed_named s inc (Some (call.Leave give)) h = refl
changed_named s inc (Some call.Yield) h = refl

-- who changes something lives
pub changer_lives : (s : State) (inc : Inc) (o : Option Call) (name : Name) → changed_by s inc o ≡ Some name → IsTrue (is_live s inc)
changer_lives s inc o name h = by (changes_path o) h
  where
    walked : (path : List ℕ) (r : Result Entry Refusal) → walk s inc path ≡ r → option_map (λ (cap : Cap). cap.name) (cap_of (entry_given r)) ≡ Some name → IsTrue (is_live s inc)
    walked path (Ok entry) e g = walks_live s inc path entry e
    walked path (Err refusal) e g = absurd (cc)

    by : (p : Option (List ℕ)) → option_map (λ (cap : Cap). cap.name) (option_and_then (cap_found s inc) p) ≡ Some name → IsTrue (is_live s inc)
    by None g = absurd (cc)
    by (Some path) g = walked path (walk s inc path) refl g

pub live_numbered : (s : State) (inc : Inc) → Sound s → IsTrue (is_live s inc) → inc.0 < s.next_inc.0
live_numbered s inc sound live = sound.stacked.below inc (activation (incarnation s inc)) (activation_live s.incarnations inc live)

-- ---- the lines to come

pub drop_get : (k : ℕ) (lines : List Line) (line : Line) (rest : List Line) → drop k lines ≡ line ∷ rest → slice_get lines k ≡ Some line
drop_get zero [] line rest h = absurd (cc)
drop_get zero (x ∷ lines) line rest h = cc
drop_get (suc k) [] line rest h = absurd (cc)
drop_get (suc k) (x ∷ lines) line rest h = drop_get k lines line rest h

pub drop_next : (k : ℕ) (lines : List Line) (line : Line) (rest : List Line) → drop k lines ≡ line ∷ rest → drop (suc k) lines ≡ rest
drop_next zero [] line rest h = absurd (cc)
drop_next zero (x ∷ []) line rest h = cc
drop_next zero (x ∷ y ∷ lines) line rest h = cc
drop_next (suc k) [] line rest h = absurd (cc)
drop_next (suc k) (x ∷ lines) line rest h = drop_next k lines line rest h

pub take_zero : (lines : List Line) → take 0 lines ≡ []
take_zero [] = refl
take_zero (x ∷ lines) = refl

pub drop_zero : (lines : List Line) → drop 0 lines ≡ lines
drop_zero [] = refl
drop_zero (x ∷ lines) = refl

-- ---- what is told of one change

abbrev listed_change : ℕ → Name → Beginning → changes.BareChange
listed_change moment name b = record { moment = moment; under = b; object = name }

told_under : (moment : ℕ) (name : Name) (bs : List Beginning) → map told_change (map (listed_change moment name) bs) ≡ map (change_under moment name) (map told_call bs)
told_under moment name [] = refl
told_under moment name (b ∷ bs) = ap (λ (cs : List BareChange). change_under moment name (told_call b) ∷ cs) (told_under moment name bs)

module _ (w : WorldValue) (lines : List Line) where
  -- these lines are those from the machine on
  record At (m : Machine) (rest : List Line) : Type 0 where
    machine : machine_at w lines m.state.events ≡ m
    left : drop m.state.events lines ≡ rest

  at_next : (m : Machine) (line : Line) (rest : List Line) → AreSteps w m (line ∷ rest) → At m (line ∷ rest) → At (moved w m line.cpu) rest
  at_next m line rest steps at =
      let next = events_next w m line rest steps in
      let k : (moved w m line.cpu).state.events ≡ suc m.state.events = omega (arith, next) in
      let here = drop_get m.state.events lines line rest at.left in
      record {
        machine = ap (machine_at w lines) k ∙ after_next w (opened w) lines m.state.events line here ∙ ap (λ (n : Machine). moved w n line.cpu) at.machine;
        left = ap (λ (n : ℕ). drop n lines) k ∙ drop_next m.state.events lines line rest at.left;
      }

  -- the incarnations under a call so far lead to those in the whole history
  abbrev Linked : Machine → List Line → Followed → Type 0
  Linked m rest p = (i : Inc) → is_under w lines p.of.moment p.of.call i ≡ is_one_of i (told under_by w m rest p.under)

  linked_new : (m : Machine) (rest : List Line) (n : Inc) → At m rest
      → Linked m rest (started (record { call = n; moment = m.state.events }))
  linked_new m rest n at i =
      ap (λ (k : Machine). is_one_of i (told under_by w k (drop m.state.events lines) (n ∷ []))) at.machine
      ∙ ap (λ (ls : List Line). is_one_of i (told under_by w m ls (n ∷ []))) at.left

  linked_next : (m : Machine) (line : Line) (rest : List Line) (ps : List Followed) → At (moved w m line.cpu) rest → All (Linked m (line ∷ rest)) ps
      → All (Linked (moved w m line.cpu) rest) (followed_by m.state line (moved w m line.cpu).state ps)
  linked_next m line rest ps at h =
      all_append (Linked (moved w m line.cpu) rest) (map (goes_on m.state line (moved w m line.cpu).state) ps) (map started (new_calls m.state line (moved w m line.cpu).state))
      (all_map (Linked (moved w m line.cpu) rest) (goes_on m.state line (moved w m line.cpu).state) ps h)
      (by (enters_call (done_call line)) (incarnation (moved w m line.cpu).state m.state.next_inc).confined)
    where
      t : State
      t = (moved w m line.cpu).state

      by : (e d : Bool) → All (Linked (moved w m line.cpu) rest)
          (map started (elim e [
            | true ↦ elim d [ true ↦ record { call = m.state.next_inc; moment = (moved w m line.cpu).state.events } ∷ [] | false ↦ [] ]
            | false ↦ []
          ]))
      by true true = (linked_new (moved w m line.cpu) rest m.state.next_inc at, tt)
      by true false = tt
      by false d = tt

  -- the calls that an incarnation is under, of those so far
  linked_with : (m : Machine) (i : Inc) (ps : List Followed) → All (Linked m []) ps → filter (λ (b : Beginning). is_under w lines b.moment b.call i) (calls_of ps) ≡ calls_with i ps
  linked_with m i [] h = refl
  linked_with m i (p ∷ ps) h = by (is_under w lines p.of.moment p.of.call i) (is_one_of i p.under) (h.0 i) (linked_with m i ps h.1)
    where
      xs : List Beginning
      xs = filter (λ (b : Beginning). is_under w lines b.moment b.call i) (calls_of ps)

      ys : List Followed
      ys = filter (λ (q : Followed). is_one_of i q.under) ps

      by : (a b : Bool) → a ≡ b → xs ≡ calls_of ys → cond a (p.of ∷ xs) xs ≡ calls_of (cond b (p ∷ ys) ys)
      by true true e g = ap (λ (bs : List Beginning). p.of ∷ bs) g
      by false false e g = g
      by true false e g = absurd (true≢false e)
      by false true e g = absurd (true≢false (sym e))

  known : (m : Machine) (line : Line) (rest : List Line) → AreSteps w m (line ∷ rest) → Sound m.state → LineKnown m.state line (moved w m line.cpu).state
  known m line rest steps sound = moved_holds (λ s l t. Sound s → LineKnown s l t) known_each w m line steps.0 sound

  -- and of those that are to come none more
  all_with : (m : Machine) (rest : List Line) (i : Inc) (ps : List Followed) → AreSteps w m rest → Sound m.state → i.0 < m.state.next_inc.0 → At m rest → All (Linked m rest) ps
      → filter (λ (b : Beginning). is_under w lines b.moment b.call i) (told confined_by w m rest (calls_of ps)) ≡ calls_with i ps
  all_with m [] i ps steps sound early at h = linked_with m i ps h
  all_with m (line ∷ rest) i ps steps sound early at h =
      ap (λ (bs : List Beginning). filter (λ (b : Beginning). is_under w lines b.moment b.call i) (told confined_by w (moved w m line.cpu) rest bs))
      (calls_followed m.state line (moved w m line.cpu).state ps)
      ∙ all_with (moved w m line.cpu) rest i (followed_by m.state line (moved w m line.cpu).state ps) steps.1 k.after later (at_next m line rest steps at)
      (linked_next m line rest ps (at_next m line rest steps at) h)
      ∙ old_with m.state line (moved w m line.cpu).state i early ps
    where
      k : LineKnown m.state line (moved w m line.cpu).state
      k = known m line rest steps sound

      later : i.0 < (moved w m line.cpu).state.next_inc.0
      later = rises_above m.state line (moved w m line.cpu).state k i.0 early

  -- what one line adds
  line_changes : (m : Machine) (line : Line) (rest : List Line) (families : List (List Begun)) (ps : List Followed) (calls : List Beginning) (so_far : List changes.BareChange)
      → AreSteps w m (line ∷ rest) → Sound m.state → At m (line ∷ rest) → All (Linked m (line ∷ rest)) ps → FamiliesFit m.state families ps
      → told confined_by w m (line ∷ rest) (calls_of ps) ≡ calls
      → map told_change (bare_changes_by w lines calls m.state line (moved w m line.cpu).state so_far)
      ≡ map told_change so_far ++ changes_by m.state.events (named_change m.state line.inc (done_call line)) (slice_index_or families line.inc.0 [])
  line_changes m line rest families ps calls so_far steps sound at linked fits all =
      by (changed m.state line) refl ∙ ap (λ (o : Option Name). map told_change so_far ++ changes_by m.state.events o (slice_index_or families line.inc.0 [])) named
    where
      shown : ShownIf m.state line.inc (done_call line)
      shown = moved_holds (λ s l t. ShownIf s l.inc (done_call l)) shown_each w m line steps.0

      named : changed m.state line ≡ named_change m.state line.inc (done_call line)
      named = changed_named m.state line.inc (done_call line) shown

      over : line.inc.0 < m.state.next_inc.0 → map told_call (calls_over w lines calls line) ≡ slice_index_or families line.inc.0 []
      over early =
          ap (λ (bs : List Beginning). map told_call (filter (λ (b : Beginning). is_under w lines b.moment b.call line.inc) bs)) (sym all)
          ∙ ap (map told_call) (all_with m (line ∷ rest) line.inc ps steps sound early at linked) ∙ sym (fits.same line.inc early)

      by : (o : Option Name) → changed m.state line ≡ o
          → map told_change (elim o [
            | None ↦ so_far
            | Some name ↦ so_far ++ map (λ b. record { moment = m.state.events; under = b; object = name }) (calls_over w lines calls line)
          ])
          ≡ map told_change so_far ++ changes_by m.state.events o (slice_index_or families line.inc.0 [])
      by None e = sym (append-nil (map told_change so_far))
      by (Some name) e =
          map-append told_change so_far (map (listed_change m.state.events name) (calls_over w lines calls line))
          ∙ ap (λ (cs : List BareChange). map told_change so_far ++ cs)
          (told_under m.state.events name (calls_over w lines calls line)
          ∙ ap (map (change_under m.state.events name)) (over (live_numbered m.state line.inc sound (changer_lives m.state line.inc (done_call line) name e))))

  -- all lines from a machine on
  lines_change : (m : Machine) (rest : List Line) (families : List (List Begun)) (ps : List Followed) (calls : List Beginning) (so_far : List changes.BareChange)
      → AreSteps w m rest → Sound m.state → At m rest → All (Linked m rest) ps → FamiliesFit m.state families ps → told confined_by w m rest (calls_of ps) ≡ calls
      → map told_change (told (bare_changes_by w lines calls) w m rest so_far) ≡ map told_change so_far ++ changes_from m.state.events families (doings w m rest)
  lines_change m [] families ps calls so_far steps sound at linked fits all = sym (append-nil (map told_change so_far))
  lines_change m (line ∷ rest) families ps calls so_far steps sound at linked fits all =
      lines_change (moved w m line.cpu) rest (families_by m.state.events (doing m.state line t) families) (followed_by m.state line t ps) calls
      (bare_changes_by w lines calls m.state line t so_far) steps.1 k.after (at_next m line rest steps at) (linked_next m line rest ps (at_next m line rest steps at) linked)
      (fits_line m.state line t k next families ps fits (λ e. live_numbered m.state line.inc sound (enters_turn m.state line t k.turn e).live))
      (ap (told confined_by w (moved w m line.cpu) rest) (sym (calls_followed m.state line t ps)) ∙ all)
      ∙ ap (λ (cs : List BareChange). cs ++ changes_from t.events (families_by m.state.events (doing m.state line t) families) (doings w (moved w m line.cpu) rest))
      (line_changes m line rest families ps calls so_far steps sound at linked fits all)
      ∙ ap (λ (n : ℕ). (map told_change so_far ++ first) ++ changes_from n (families_by m.state.events (doing m.state line t) families) (doings w (moved w m line.cpu) rest)) next
      ∙ append_assoc (map told_change so_far) first
      (changes_from (m.state.events + 1) (families_by m.state.events (doing m.state line t) families) (doings w (moved w m line.cpu) rest))
    where
      t : State
      t = (moved w m line.cpu).state

      k : LineKnown m.state line (moved w m line.cpu).state
      k = known m line rest steps sound

      next : (moved w m line.cpu).state.events ≡ m.state.events + 1
      next = events_next w m line rest steps

      first : List BareChange
      first = changes_by m.state.events (named_change m.state line.inc (done_call line)) (slice_index_or families line.inc.0 [])

  -- who is under which call at the end
  pub record FamiliesEnd (t : State) (families : List (List Begun)) (calls : List Beginning) : Type 0 where
    pub followed : List Followed
    pub fits : FamiliesFit t families followed
    pub linked : All (λ (p : Followed). (i : Inc) → is_under w lines p.of.moment p.of.call i ≡ is_one_of i p.under) followed
    pub all : calls_of followed ≡ calls

  families_go : (m : Machine) (rest : List Line) (families : List (List Begun)) (ps : List Followed) → AreSteps w m rest → Sound m.state → At m rest → All (Linked m rest) ps
      → FamiliesFit m.state families ps
      → FamiliesEnd (after_lines w m rest).state (families_after m.state.events (doings w m rest) families) (told confined_by w m rest (calls_of ps))
  families_go m [] families ps steps sound at linked fits = record { followed = ps; fits = fits; linked = linked; all = refl }
  families_go m (line ∷ rest) families ps steps sound at linked fits =
      subst (λ (n : ℕ). FamiliesEnd (after_lines w (moved w m line.cpu) rest).state
      (families_after n (doings w (moved w m line.cpu) rest) (families_by m.state.events (doing m.state line (moved w m line.cpu).state) families))
      (told confined_by w (moved w m line.cpu) rest (confined_by m.state line (moved w m line.cpu).state (calls_of ps)))) (events_next w m line rest steps)
      (subst (λ (calls : List Beginning). FamiliesEnd (after_lines w (moved w m line.cpu) rest).state
      (families_after (moved w m line.cpu).state.events (doings w (moved w m line.cpu) rest) (families_by m.state.events (doing m.state line (moved w m line.cpu).state) families))
      (told confined_by w (moved w m line.cpu) rest calls)) (sym (calls_followed m.state line (moved w m line.cpu).state ps))
      (families_go (moved w m line.cpu) rest (families_by m.state.events (doing m.state line (moved w m line.cpu).state) families)
      (followed_by m.state line (moved w m line.cpu).state ps) steps.1 k.after (at_next m line rest steps at) (linked_next m line rest ps (at_next m line rest steps at) linked)
      (fits_line m.state line (moved w m line.cpu).state k (events_next w m line rest steps) families ps fits
      (λ e. live_numbered m.state line.inc sound (enters_turn m.state line (moved w m line.cpu).state k.turn e).live))))
    where
      k : LineKnown m.state line (moved w m line.cpu).state
      k = known m line rest steps sound

  at_opening : At (opened w) lines
  at_opening = record {
    machine = ap (machine_at w lines) (opened_events w) ∙ ap (after_lines w (opened w)) (take_zero lines);
    left = ap (λ (n : ℕ). drop n lines) (opened_events w) ∙ drop_zero lines;
  }

  fits_opening : FamiliesFit (opened w).state (replicate (opened w).state.next_inc.0 []) []
  fits_opening = record {
    count = length-replicate (opened w).state.next_inc.0 [];
    fresh = tt;
    same = λ i h. get_or-replicate (opened w).state.next_inc.0 i.0 [] [] h;
  }

pub opened_sound : (w : WorldValue) → Sound (opened w).state
unfolding opened
opened_sound w = opening_sound w

-- of a whole history
pub changes_found : (w : WorldValue) (lines : List Line) (found : List BareChange) → AreStepsOf w lines
    → found ≡ changes_from 0 (replicate (opened w).state.next_inc.0 []) (doings w (opened w) lines) → found ≡ map told_change (bare_changes w lines)
changes_found w lines found steps h =
    h
    ∙ (ap (λ (n : ℕ). changes_from n (replicate (opened w).state.next_inc.0 []) (doings w (opened w) lines)) (sym (opened_events w))
    ∙ sym (lines_change w lines (opened w) lines (replicate (opened w).state.next_inc.0 []) [] (confined_calls w lines) [] steps (opened_sound w) (at_opening w lines) tt
    (fits_opening w lines) refl))

-- who is under which call, in a whole history
pub families_end : (w : WorldValue) (lines : List Line) → AreStepsOf w lines
    → FamiliesEnd w lines (after_lines w (opened w) lines).state (families_after 0 (doings w (opened w) lines) (replicate (opened w).state.next_inc.0 [])) (confined_calls w lines)
families_end w lines steps =
    subst (λ (n : ℕ). FamiliesEnd w lines (after_lines w (opened w) lines).state (families_after n (doings w (opened w) lines) (replicate (opened w).state.next_inc.0 []))
    (confined_calls w lines)) (opened_events w)
    (families_go w lines (opened w) lines (replicate (opened w).state.next_inc.0 []) [] steps (opened_sound w) (at_opening w lines) tt (fits_opening w lines))

-- ---- how many lines there are

doings_many : (w : WorldValue) (m : Machine) (lines : List Line) → length (doings w m lines) ≡ length lines
doings_many w m [] = refl
doings_many w m (line ∷ lines) = let h = doings_many w (moved w m line.cpu) lines in omega (arith, h)

-- fewer than a number can tell
pub doings_few : (w : WorldValue) (lines : List Line) (all : List Doing) → IsWorld w → AreStepsOf w lines → all ≡ doings w (opened w) lines → length all < 2 ^ 32
doings_few w lines all world steps h =
    let a = ap (length {A = Doing}) h in
    let b = doings_many w (opened w) lines in
    let c = lines_few w lines world steps in
    omega (arith, a, b, c)
