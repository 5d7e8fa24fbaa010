-- What is known of a block of the runs that hold an object, and what is raised over the runs of one.
use Rattle.std.proofs.Common.{◌≡◌, ℕ, zero, suc, ◌+◌, ◌<◌, ◌≤◌, List, [], ◌∷◌, ◌++◌, length, Bool, true, false, Option, Some, None, refl, sym, ◌∙◌, ap, arith, cond, subst, take}
use Rattle.std.specs.Prelude.{◌==◌, ◌⊎◌, drop, filter, nat_le, slice_index_or}
use mathlib.Core.Logic.{inl, inr}
use Rattle.std.specs.List.{AllByRecursion}
use Rattle.std.proofs.lemmas.Bool.{true≢false, eqb-true, eqb-false, cases_lt, leb-true, le-leb}
use Rattle.std.proofs.lemmas.List.{get_or_default, append-nil, append_assoc, length-append, take-append-drop}
use Rattle.std.proofs.lemmas.List.Elements.{filter-append}
use Rattle.hk_rights.specs.Rights.{has, modify_right, unconf_right}
use Rattle.hk_model.specs.declared.names.Name.{Name}
use Rattle.hk_model.specs.declared.entries.Cap.{Cap}
use Rattle.hk_model.proofs.Members.{Has}
use Rattle.hk_report.specs.declared.histories.History.{History}
use Rattle.hk_report.specs.declared.holders.Stretch.{Stretch}
use Rattle.hk_report.specs.declared.held_blocks.HeldBlock.{HeldBlock}
use Rattle.hk_report.specs.declared.hops.Latest.{Latest}
use Rattle.hk_report.specs.Hops.{greater}
use Rattle.hk_report.specs.Runs.{AreRuns}
use Rattle.hk_report.specs.Reachable.{is_by, IsByThen}
use Rattle.hk_report.specs.Blocks.{in_block}
use Rattle.hk_report.specs.Holders.{spans_in, held_at, HoldsAlone, AreHolders, latest_within, entry_most, handed_most, raised_at, raised_over}
use Rattle.hk_report.specs.HeldBlocks.{IsWithin, AreHeldBlocks, held_blocks_at, AreHeldBlocked}
use Rattle.hk_report.proofs.HolderLemmas.{drop_more, beyond, last_same, last_other}
use Rattle.hk_report.proofs.Stretches.{alone_each}
use Rattle.hk_report.proofs.Raising.{left_within, right_within, both_within, late}
use Rattle.hk_report.proofs.BlockLemmas.{all_more}

-- ---- moments that are told, or none

through : (a b c : Option ℕ) → IsByThen a b → IsByThen b c → IsByThen a c
through a b None h g = tt
through a None (Some k) h g = absurd g
through None (Some m) (Some k) h g = absurd h
through (Some n) (Some m) (Some k) h g = omega (arith, h, g)

-- where no call comes to a block, none comes to a list of it
none_then : (a b : Option ℕ) (moment : ℕ) → IsByThen a b → is_by a moment ≡ false → is_by b moment ≡ false
none_then a None moment h e = refl
none_then None (Some k) moment h e = absurd h
none_then (Some n) (Some k) moment h e = by (nat_le k moment) refl
  where
    by : (o : Bool) → nat_le k moment ≡ o → o ≡ false
    by false f = refl
    by true f = let l = leb-true k moment f in absurd (true≢false (sym (le-leb n moment (omega (arith, h, l))) ∙ e))

-- ---- blocks that are made one after another

-- a run more is within
pub within_more : (lasts : Name → Option ℕ) (before after : HeldBlock) (held : List Stretch) (k : ℕ) (stretch : Stretch) → AllByRecursion (IsWithin lasts before) (take k held)
    → k < length held → stretch ≡ slice_index_or held k stretch → after.from ≤ before.from → after.from ≤ stretch.from → IsByThen after.last before.last
    → IsByThen after.last (lasts stretch.by) → AllByRecursion (IsWithin lasts after) (take (k + 1) held)
within_more lasts before after held k stretch h l e f g m n = all_more (IsWithin lasts before) (IsWithin lasts after) wider held k stretch h l e (g, n)
  where
    wider : (s : Stretch) → IsWithin lasts before s → IsWithin lasts after s
    wider s i = let x = i.0 in (omega (arith, x, f), through after.last before.last (lasts s.by) m i.1)

-- the blocks so far, and those of the runs to come
pub record HeldBlocking (lasts : Name → Option ℕ) (held : List Stretch) (blocks : List HeldBlock) (rest : List Stretch) : Type 0 where
  pub so_far : (more : List HeldBlock) → AreHeldBlocks lasts rest more → AreHeldBlocks lasts held (blocks ++ more)

pub held_blocking_none : (lasts : Name → Option ℕ) (held : List Stretch) (blocks : List HeldBlock) → blocks ≡ [] → HeldBlocking lasts held blocks held
held_blocking_none lasts held blocks e = record { so_far = λ more a. subst (λ (xs : List HeldBlock). AreHeldBlocks lasts held (xs ++ more)) (sym e) a }

pub held_blocking_more : (lasts : Name → Option ℕ) (held : List Stretch) (blocks after : List HeldBlock) (rest some more : List Stretch) (block : HeldBlock)
    → HeldBlocking lasts held blocks rest → in_block ≤ length rest → some ≡ take in_block rest → more ≡ drop in_block rest → AllByRecursion (IsWithin lasts block) some
    → after ≡ blocks ++ block ∷ [] → HeldBlocking lasts held after more
held_blocking_more lasts held blocks after rest some more block h l e f within is = record {
  so_far = λ others a.
      subst (λ (xs : List HeldBlock). AreHeldBlocks lasts held xs) (sym (ap (λ (xs : List HeldBlock). xs ++ others) is ∙ append_assoc blocks (block ∷ []) others))
      (h.so_far (block ∷ others)
      (l, (subst (λ (xs : List Stretch). AllByRecursion (IsWithin lasts block) xs) e within, subst (λ (xs : List Stretch). AreHeldBlocks lasts xs others) f a)));
}

pub held_blocking_all : (lasts : Name → Option ℕ) (held : List Stretch) (blocks : List HeldBlock) (rest : List Stretch) → HeldBlocking lasts held blocks rest
    → AreHeldBlocks lasts held blocks
held_blocking_all lasts held blocks rest h = subst (λ (xs : List HeldBlock). AreHeldBlocks lasts held xs) (append-nil blocks) (h.so_far [] tt)

-- ---- one object after another

pub record AreHeldBlockedBelow (lasts : Name → Option ℕ) (holders : List (List Stretch)) (all : List (List HeldBlock)) (n : ℕ) : Type 0 where
  pub many : length all ≡ n
  pub each : (name : Name) → name.0 < n → AreHeldBlocks lasts (held_at holders name) (held_blocks_at all name)

pub held_blocked_none : (lasts : Name → Option ℕ) (holders : List (List Stretch)) (all : List (List HeldBlock)) → all ≡ [] → AreHeldBlockedBelow lasts holders all 0
held_blocked_none lasts holders all e = record { many = ap length e; each = λ name l. absurd (omega (arith, l)) }

pub held_blocked_more : (lasts : Name → Option ℕ) (holders : List (List Stretch)) (all after : List (List HeldBlock)) (n : ℕ) (held : List Stretch) (blocks : List HeldBlock)
    → AreHeldBlockedBelow lasts holders all n → held ≡ slice_index_or holders n [] → AreHeldBlocks lasts held blocks → after ≡ all ++ blocks ∷ []
    → AreHeldBlockedBelow lasts holders after (n + 1)
held_blocked_more lasts holders all after n held blocks h e are is = record {
  many = let many = h.many in let more = length-append all (blocks ∷ []) in let whole = ap length is in omega (arith, many, more, whole);
  each = λ name l. by name l (n == name.0) refl;
}
  where
    here : AreHeldBlocks lasts (slice_index_or holders n []) (slice_index_or after n [])
    here =
        subst (λ (xs : List Stretch). AreHeldBlocks lasts xs (slice_index_or after n [])) e
        (subst (λ (xs : List HeldBlock). AreHeldBlocks lasts held xs) (sym (ap (λ (xs : List (List HeldBlock)). slice_index_or xs n []) is ∙ last_same all blocks n h.many)) are)

    by : (name : Name) → name.0 < n + 1 → (b : Bool) → (n == name.0) ≡ b → AreHeldBlocks lasts (held_at holders name) (held_blocks_at after name)
    by name l true f = subst (λ (k : ℕ). AreHeldBlocks lasts (slice_index_or holders k []) (slice_index_or after k [])) (eqb-true n name.0 f) here
    by name l false f =
        let other = eqb-false n name.0 f in
        subst (λ (xs : List HeldBlock). AreHeldBlocks lasts (held_at holders name) xs)
        (sym (ap (λ (xs : List (List HeldBlock)). slice_index_or xs name.0 []) is ∙ last_other all blocks n name.0 h.many f)) (h.each name (omega (arith, l, other)))

pub held_blocked_all : (lasts : Name → Option ℕ) (holders : List (List Stretch)) (all : List (List HeldBlock)) (n : ℕ) → AreHeldBlockedBelow lasts holders all n
    → AreHeldBlocked lasts holders all
held_blocked_all lasts holders all n h name = by (cases_lt name.0 n)
  where
    by : (name.0 < n) ⊎ (n ≤ name.0) → AreHeldBlocks lasts (held_at holders name) (held_blocks_at all name)
    by (inl low) = h.each name low
    by (inr high) =
        let many = h.many in
        subst (λ (xs : List HeldBlock). AreHeldBlocks lasts (held_at holders name) xs) (sym (beyond all name.0 (omega (arith, many, high)))) tt

-- ---- the first of the blocks to come

abbrev pub no_held_block : HeldBlock
no_held_block = record { from = 0; last = None }

pub first_held_block : (lasts : Name → Option ℕ) (rest : List Stretch) (blocks : List HeldBlock) (k : ℕ) → AreHeldBlocks lasts rest (drop k blocks) → k < length blocks
    → AreHeldBlocks lasts rest (slice_index_or blocks k no_held_block ∷ drop (k + 1) blocks)
first_held_block lasts rest blocks k h l =
    let block = slice_index_or blocks k no_held_block in
    subst (λ (xs : List HeldBlock). AreHeldBlocks lasts rest xs) (drop_more blocks k block l (get_or_default blocks k no_held_block block l)) h

-- ---- what is raised over the runs of a block

-- each is a run that holds an object
abbrev pub AreAlone : List History → List Stretch → Type 0
AreAlone histories held = AllByRecursion (λ (stretch : Stretch). (name : Name) × HoldsAlone histories name stretch) held

pub alone_all : (histories : List History) (runs : List (List ℕ)) → AreRuns histories runs → (holders : List (List Stretch)) → AreHolders histories runs holders → (name : Name) (held : List Stretch)
    → held ≡ held_at holders name → AreAlone histories held
alone_all histories runs cut holders are name held e =
    all_from held (λ s h. (name, alone_each histories runs cut holders are name s (subst (λ (xs : List Stretch). Has xs s) e h)))
  where
    all_from : (xs : List Stretch) → ((s : Stretch) → Has xs s → (x : Name) × HoldsAlone histories x s) → AreAlone histories xs
    all_from [] f = tt
    all_from (x ∷ xs) f = (f x (inl refl), all_from xs (λ s h. f s (inr h)))

pub alone_one : (histories : List History) (held : List Stretch) (k : ℕ) (stretch : Stretch) → AreAlone histories held → k < length held → stretch ≡ slice_index_or held k stretch
    → (name : Name) × HoldsAlone histories name stretch
alone_one histories [] k stretch h l e = absurd (omega (arith, l))
alone_one histories (s ∷ held) zero stretch h l e = subst (λ (x : Stretch). (name : Name) × HoldsAlone histories name x) (sym e) h.0
alone_one histories (s ∷ held) (suc k) stretch h l e = alone_one histories held k stretch h.1 (omega (arith, l)) e

pub alone_front : (histories : List History) (n : ℕ) (held : List Stretch) → AreAlone histories held → AreAlone histories (take n held)
alone_front histories zero [] h = tt
alone_front histories (suc n) [] h = tt
alone_front histories zero (s ∷ held) h = tt
alone_front histories (suc n) (s ∷ held) h = (h.0, alone_front histories n held h.1)

pub alone_back : (histories : List History) (n : ℕ) (held : List Stretch) → AreAlone histories held → AreAlone histories (drop n held)
alone_back histories zero [] h = tt
alone_back histories (suc n) [] h = tt
alone_back histories zero (s ∷ held) h = h
alone_back histories (suc n) (s ∷ held) h = alone_back histories n held h.1

module _ (live : Name → Bool) (histories : List History) (latest : Latest) (made : Bool) where
  abbrev lives : Stretch → Bool
  lives stretch = live stretch.by

  raised_append : (level : Name → Latest) (xs ys : List Stretch) → raised_over histories latest made level (xs ++ ys) ≡ raised_over histories latest made (raised_over histories latest made level xs) ys
  raised_append level [] ys = refl
  raised_append level (x ∷ xs) ys = raised_append (raised_at level x.by (latest_within (spans_in histories x) latest made)) xs ys

  -- the first so many, and then the rest
  pub raised_parts : (n : ℕ) (held some more : List Stretch) (before after all : Name → Latest) → some ≡ take n held → more ≡ drop n held
      → after ≡ raised_over histories latest made before (filter lives some) → raised_over histories latest made before (filter lives held) ≡ all
      → raised_over histories latest made after (filter lives more) ≡ all
  raised_parts n held some more before after all e f is h =
      ap (λ (l : Name → Latest). raised_over histories latest made l (filter lives more)) is
      ∙ sym (raised_append before (filter lives some) (filter lives more))
      ∙ ap (raised_over histories latest made before)
      (sym (filter-append lives some more) ∙ ap (filter lives) (ap (λ (xs : List Stretch). xs ++ more) e ∙ ap (λ (xs : List Stretch). take n held ++ xs) f ∙ take-append-drop n held))
      ∙ h

  -- the call comes to none of them
  none_raised : (level : Name → Latest) (held : List Stretch) → AllByRecursion (λ (s : Stretch). live s.by ≡ false) held → raised_over histories latest made level (filter lives held) ≡ level
  none_raised level [] h = refl
  none_raised level (s ∷ held) h =
      ap (λ (b : Bool). raised_over histories latest made level (cond b (s ∷ filter lives held) (filter lives held))) h.0 ∙ none_raised level held h.1

  -- all begin too late
  kept : (b : Bool) (n : ℕ) → cond b n 0 ≤ n
  kept true n = omega arith
  kept false n = omega arith

  entry_within : (cap : Cap) → entry_most cap latest ≤ greater latest.modify latest.unconf
  entry_within cap =
      let a = kept (has cap.rights modify_right) latest.modify in
      let b = kept (has cap.rights unconf_right) latest.unconf in
      let m = left_within latest.modify latest.unconf in
      let u = right_within latest.modify latest.unconf in
      both_within (cond (has cap.rights modify_right) latest.modify 0) (cond (has cap.rights unconf_right) latest.unconf 0) (greater latest.modify latest.unconf)
      (omega (arith, a, m)) (omega (arith, b, u))

  handed_within : (m : Bool) → handed_most m latest ≤ greater latest.modify latest.unconf
  handed_within true = omega arith
  handed_within false = omega arith

  late_one : (level : Name → Latest) (name : Name) (stretch : Stretch) → HoldsAlone histories name stretch → greater latest.modify latest.unconf ≤ stretch.from
      → raised_at level stretch.by (latest_within (spans_in histories stretch) latest made) ≡ level
  late_one level name stretch alone l =
      let most : Latest = record { modify = handed_most made latest; unconf = entry_most stretch.cap latest } in
      let h = handed_within made in
      let e = entry_within stretch.cap in
      sym (late level stretch.by stretch.from most (spans_in histories stretch) stretch.cap latest made alone.alike alone.begun refl (omega (arith, h, l)) (omega (arith, e, l)))

  late_raised : (lasts : Name → Option ℕ) (block : HeldBlock) (level : Name → Latest) (held : List Stretch) → AllByRecursion (IsWithin lasts block) held → AreAlone histories held
      → greater latest.modify latest.unconf ≤ block.from → raised_over histories latest made level (filter lives held) ≡ level
  late_raised lasts block level [] h alone l = refl
  late_raised lasts block level (s ∷ held) h alone l = by (live s.by) (late_raised lasts block level held h.1 alone.1 l)
    where
      begins : greater latest.modify latest.unconf ≤ s.from
      begins = let from = h.0.0 in omega (arith, from, l)

      by : (b : Bool) → raised_over histories latest made level (filter lives held) ≡ level
          → raised_over histories latest made level (cond b (s ∷ filter lives held) (filter lives held)) ≡ level
      by true more = ap (λ (n : Name → Latest). raised_over histories latest made n (filter lives held)) (late_one level alone.0.0 s alone.0.1 begins) ∙ more
      by false more = more

-- over a block to none of whose lists the call comes
pub none_live : (lasts : Name → Option ℕ) (moment : ℕ) (block : HeldBlock) (held : List Stretch) (histories : List History) (latest : Latest) (made : Bool) (level : Name → Latest)
    → AllByRecursion (IsWithin lasts block) held → is_by block.last moment ≡ false
    → raised_over histories latest made level (filter (λ (s : Stretch). is_by (lasts s.by) moment) held) ≡ level
none_live lasts moment block held histories latest made level h e =
    none_raised (λ name. is_by (lasts name) moment) histories latest made level held (all_none held h)
  where
    all_none : (xs : List Stretch) → AllByRecursion (IsWithin lasts block) xs → AllByRecursion (λ (s : Stretch). is_by (lasts s.by) moment ≡ false) xs
    all_none [] g = tt
    all_none (x ∷ xs) g = (none_then block.last (lasts x.by) moment g.0.1 e, all_none xs g.1)

-- over one that begins too late
pub none_in_time : (lasts : Name → Option ℕ) (moment : ℕ) (block : HeldBlock) (held : List Stretch) (histories : List History) (latest : Latest) (made : Bool) (level : Name → Latest)
    → AllByRecursion (IsWithin lasts block) held → AreAlone histories held → greater latest.modify latest.unconf ≤ block.from
    → raised_over histories latest made level (filter (λ (s : Stretch). is_by (lasts s.by) moment) held) ≡ level
none_in_time lasts moment block held histories latest made level h alone l = late_raised (λ name. is_by (lasts name) moment) histories latest made lasts block level held h alone l
