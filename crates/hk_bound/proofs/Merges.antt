-- Merges that give nothing: with templates that stand one behind another, and for any object of a type with the same rights.
use Rattle.std.proofs.Common.{◌≡◌, ℕ, ◌+◌, ◌<◌, ◌≤◌, List, [], ◌∷◌, ◌++◌, Bool, false, Option, Some, None, ◌∙◌, ap, subst, sym, refl, true, arith, bit_and, bit_or}
use Rattle.std.specs.Prelude.{IfSome, ◌⊎◌, ◌||◌, slice_get}
use mathlib.Core.Logic.{inl, inr}
use Rattle.std.proofs.lemmas.Bool.{false≢true}
use Rattle.std.proofs.lemmas.Option.{slice_get_within}
use Rattle.hk_rights.specs.Rights.{has, HasAll, IsRightsWord, all_but, minus, special_rights}
use Rattle.hk_rights.proofs.Sets.{has-bit_and_left, has-bit_and_right, has-bit_or, HasAll-bit_or, HasAll-bit_and_right, or_right}
use Rattle.hk_model.specs.WorldValue.{WorldValue}
use Rattle.hk_model.specs.Merging.{merged_rights}
use Rattle.hk_model.specs.declared.names.Name.{Name}
use Rattle.hk_bound.specs.declared.forms.Form.{Form}
use Rattle.hk_bound.specs.declared.merging.Stretch.{Stretch}
use Rattle.hk_bound.specs.declared.merging.Settled.{Settled}
use Rattle.hk_bound.specs.Taking.{type_of}
use Rattle.hk_bound.specs.Each.{Among, Each}
use Rattle.hk_bound.specs.Columns.{name_at, cell, covers}
use Rattle.hk_bound.specs.Rules.{MergeRule, MergesRule}
use Rattle.hk_bound.specs.Merges.{settled_at, IsIdle, IsStretch, MergesFrom, IsSettled, AreSettled, AddsSettled}
use Rattle.hk_bound.proofs.EachLemmas.{below_or_last}
use Rattle.hk_bound.proofs.FindsLemmas.{push_cases}
use Rattle.hk_bound.proofs.Handed.{all_covers}
use Rattle.hk_bound.proofs.Reductions.{masked}
use Rattle.hk_bound.proofs.Sources.{word_right, same_some}

or_left : (x y : Bool) → x ≡ true → (x || y) ≡ true
or_left true y h = refl
or_left false y h = absurd (false≢true h)

pub each_push : {A : Type 0} (P : A → Type 0) (xs : List A) (y : A) → Each P xs → P y → Each P (xs ++ y ∷ [])
each_push P xs y all here k x at = elim (push_cases xs y x k at) [
  | inl before ↦ all k x before
  | inr same ↦ subst P same here
]

pub same_settled : (s : Settled) (of : Name) (rights : ℕ) → s.of.0 ≡ of.0 → s.rights ≡ rights → s ≡ settled_at of rights
same_settled s of rights a b =
    ap (λ (n : ℕ). let x : Settled = record { of = record { 0 = n }; rights = s.rights } in x) a ∙ ap (λ (n : ℕ). let x : Settled = record { of = of; rights = n } in x) b

module _ (w : WorldValue) (forms : List Form) (rows : List (List (Option ℕ))) (p name by : ℕ) (of : Name) (type : of ≡ type_of w (name_at name))
    (at : cell rows p name ≡ Some by) where
  pub settled_by_merges : MergesRule w forms rows p name by → IsSettled w forms rows p (settled_at of by)
  settled_by_merges merges place form is same checked env =
      subst (λ (o : Option ℕ). covers o (merged_rights by (Some form.of) form.give) ≡ true) at
      (merges place (slice_get_within forms place form is) form is (same ∙ type) checked env)

  pub merges_by_settled : IsSettled w forms rows p (settled_at of by) → MergesRule w forms rows p name by
  merges_by_settled settled place low form is same checked env =
      subst (λ (o : Option ℕ). covers o (merged_rights by (Some form.of) form.give) ≡ true) (sym at) (settled place form is (same ∙ sym type) checked env)

module _ (w : WorldValue) (forms : List Form) (rows : List (List (Option ℕ))) (p : ℕ) where
  -- what is kept is settled
  pub kept_settled : (sets : List (Option Settled)) (s : Settled) → AreSettled w forms rows p sets → Among sets (Some s) → IsSettled w forms rows p s
  kept_settled sets s all among = all among.place (Some s) among.is

  pub none_settled : (sets : List (Option Settled)) → Each (λ (set : Option Settled). set ≡ None) sets → AreSettled w forms rows p sets
  none_settled sets none k set at = subst (λ (o : Option Settled). IfSome o (IsSettled w forms rows p)) (sym (none k set at)) tt

  -- one more is kept
  pub settled_more : (of : Name) (rights : ℕ) (before after : List (Option Settled)) → AddsSettled of rights before after → AreSettled w forms rows p before
      → IsSettled w forms rows p (settled_at of rights) → AreSettled w forms rows p after
  settled_more of rights before after adds all here k set at = elim (adds k set at) [
    | inl old ↦ all old.0 set old.1
    | inr new ↦ subst (λ (o : Option Settled). IfSome o (IsSettled w forms rows p)) (sym new) here
  ]

-- ---- templates that give nothing

-- what is asked for is not there
pub idle_unasked : (by check : ℕ) (form : Form) → IsRightsWord check → (HasAll by check → ⊥) → HasAll form.check check → IsIdle by form
idle_unasked by check form word lacks asks premise = absurd (lacks (λ n there. premise n (word_right check n word there) (asks n there)))

less_special : (have give n : ℕ) → HasAll have give → has (minus give special_rights) n ≡ true → has (minus have special_rights) n ≡ true
less_special have give n h there = masked have (all_but special_rights) n (h n (has-bit_and_left give (all_but special_rights) n there)) (has-bit_and_right give (all_but special_rights) n there)

-- what is given, but for the special rights, is there
pub idle_given : (by give : ℕ) (form : Form) → HasAll by (minus give special_rights) → HasAll give form.give → IsIdle by form
idle_given by give form had gives premise =
    all_covers by (merged_rights by (Some form.of) form.give)
    (HasAll-bit_or (minus form.give special_rights) (bit_and (bit_and form.give special_rights) by) by
    (λ n there. had n (less_special give form.give n gives there))
    (HasAll-bit_and_right (bit_and form.give special_rights) by))

-- one template more in a stretch
pub asks_more : (forms : List Form) (start place check : ℕ) (here : Form)
    → ((k : ℕ) (f : Form) → start ≤ k → k < place → slice_get forms k ≡ Some f → HasAll f.check check) → slice_get forms place ≡ Some here
    → (k : ℕ) (f : Form) → start ≤ k → k < place + 1 → slice_get forms k ≡ Some f → HasAll f.check (bit_and check here.check)
asks_more forms start place check here below at k f low high is = by (below_or_last k place high)
  where
    by : (k < place) ⊎ (k ≡ place) → HasAll f.check (bit_and check here.check)
    by (inl less) = λ n there. below k f low less is n (has-bit_and_left check here.check n there)
    by (inr same) =
        subst (λ (g : Form). HasAll g.check (bit_and check here.check)) (same_some (sym at ∙ subst (λ (m : ℕ). slice_get forms m ≡ Some f) same is))
        (HasAll-bit_and_right check here.check)

pub gives_more : (forms : List Form) (start place give : ℕ) (here : Form)
    → ((k : ℕ) (f : Form) → start ≤ k → k < place → slice_get forms k ≡ Some f → HasAll give f.give) → slice_get forms place ≡ Some here
    → (k : ℕ) (f : Form) → start ≤ k → k < place + 1 → slice_get forms k ≡ Some f → HasAll (bit_or give here.give) f.give
gives_more forms start place give here below at k f low high is = by (below_or_last k place high)
  where
    by : (k < place) ⊎ (k ≡ place) → HasAll (bit_or give here.give) f.give
    by (inl less) = λ n there. has-bit_or give here.give n ∙ or_left (has give n) (has here.give n) (below k f low less is n there)
    by (inr same) =
        subst (λ (g : Form). HasAll (bit_or give here.give) g.give) (same_some (sym at ∙ subst (λ (m : ℕ). slice_get forms m ≡ Some f) same is))
        (λ n there. has-bit_or give here.give n ∙ or_right (has give n) (has here.give n) there)

module _ (w : WorldValue) (forms : List Form) (rows : List (List (Option ℕ))) (p name by : ℕ) where
  -- where a template is idle its rule holds
  pub idle_rule : (place : ℕ) (form : Form) → cell rows p name ≡ Some by → slice_get forms place ≡ Some form → IsIdle by form → MergeRule w forms rows p name by place
  idle_rule place form at is idle f here type checked env =
      let same : form ≡ f = same_some (sym is ∙ here) in
      subst (λ (o : Option ℕ). covers o (merged_rights by (Some f.of) f.give) ≡ true) (sym at) (subst (IsIdle by) same idle checked)

  pub merges_none : (start : ℕ) → MergesFrom w forms rows p name by start start
  merges_none start place low high = absurd (omega (arith, low, high))

  pub merges_more : (start place : ℕ) → MergesFrom w forms rows p name by start place → MergeRule w forms rows p name by place
      → MergesFrom w forms rows p name by start (place + 1)
  merges_more start place below here k low high = elim (below_or_last k place high) [
    | inl less ↦ below k low less
    | inr same ↦ subst (MergeRule w forms rows p name by) (sym same) here
  ]

  pub merges_then : (middle end : ℕ) → MergesFrom w forms rows p name by 0 middle → MergesFrom w forms rows p name by middle end → MergesFrom w forms rows p name by 0 end
  merges_then middle end first second place low high = elim (less_or_not place middle) [
    | inl less ↦ first place low less
    | inr not_less ↦ second place not_less high
  ]
    where
      less_or_not : (a b : ℕ) → (a < b) ⊎ (b ≤ a)
      less_or_not a b = grind arith

  -- a stretch that is passed over
  pub stretch_rule : (start : ℕ) (s : Stretch) → cell rows p name ≡ Some by → IsStretch forms s → s.start ≤ start
      → ((form : Form) → HasAll form.check s.check → HasAll s.give form.give → IsIdle by form) → MergesFrom w forms rows p name by start s.end
  stretch_rule start s at is low idle place begins ends form here =
      idle_rule place form at here (idle form (is.asks place form (omega (arith, low, begins)) ends here) (is.gives place form (omega (arith, low, begins)) ends here)) form here
