-- Runs from a place on, and what is known of a block of them.
use Rattle.std.proofs.Common.{◌≡◌, ℕ, zero, suc, ◌+◌, ◌-◌, ◌<◌, ◌≤◌, List, [], ◌∷◌, ◌++◌, length, Bool, true, false, Option, Some, None, refl, sym, ◌∙◌, ap, arith, subst, take}
use Rattle.std.specs.Prelude.{◌==◌, ◌⊎◌, drop, slice_index_or}
use mathlib.Core.Logic.{inl, inr}
use Rattle.std.specs.List.{AllByRecursion, between}
use Rattle.std.proofs.lemmas.Bool.{le-ltb, eqb-true, eqb-false, cases_lt}
use Rattle.std.proofs.lemmas.List.{get_or_default, append-nil, append_assoc, drop-drop, length-append}
use Rattle.std.proofs.lemmas.List.Edits.{between_none}
use Rattle.std.proofs.Math.Seq.{take-add}
use Rattle.hk_model.specs.declared.names.Name.{Name}
use Rattle.hk_report.specs.declared.blocks.Block.{Block}
use Rattle.hk_report.specs.declared.histories.Span.{Span}
use Rattle.hk_report.specs.declared.histories.History.{History}
use Rattle.hk_report.specs.declared.hops.Arrived.{Arrived}
use Rattle.hk_report.specs.declared.hops.Latest.{Latest}
use Rattle.hk_report.specs.declared.hops.Onward.{Onward}
use Rattle.hk_report.specs.Histories.{no_history, history_of}
use Rattle.hk_report.specs.Hops.{later, earlier, onward_over, first_from, IsBy, StaysBefore}
use Rattle.hk_report.specs.Runs.{IsRun, AreCut, ends_at}
use Rattle.hk_report.specs.Blocks.{in_block, end_of, AreFrom, IsIn, IsAround, AreBlocks, blocks_at, AreBlocked}
use Rattle.hk_report.proofs.HolderLemmas.{drop_more, beyond, last_same, last_other}
use Rattle.hk_report.proofs.HopLemmas.{stays_over}
use Rattle.hk_report.proofs.LateRuns.{over_late}
use Rattle.hk_report.proofs.MomentLemmas.{all_so}
use Rattle.hk_report.proofs.Onwards.{later_first, later_second, later_most}
use Rattle.hk_report.proofs.RunHops.{earlier_none, none_over, first_append, cut_off, none_left, Seeing}

-- ---- runs from a place on

pub cut_from : (start : ℕ) (ends : List ℕ) (spans : List Span) → AreCut start ends spans → AreFrom start ends spans
cut_from start [] spans h = tt
cut_from start (end ∷ ends) spans h = (h.0, (h.1.0, (h.1.1.0, cut_from end ends spans h.1.1.1)))

pub end_behind : (start : ℕ) (ends : List ℕ) (spans : List Span) → AreFrom start ends spans → start ≤ end_of start ends
end_behind start [] spans h = omega arith
end_behind start (end ∷ ends) spans h = let a = h.0 in let b = end_behind end ends spans h.1.1.1 in omega (arith, a, b)

pub end_within : (start : ℕ) (ends : List ℕ) (spans : List Span) → AreFrom start ends spans → start ≤ length spans → end_of start ends ≤ length spans
end_within start [] spans h l = l
end_within start (end ∷ ends) spans h l = end_within end ends spans h.1.1.1 h.1.0

end_past : (start : ℕ) (ends : List ℕ) (spans : List Span) → AreCut start ends spans → length spans ≤ end_of start ends
end_past start [] spans h = h
end_past start (end ∷ ends) spans h = end_past end ends spans h.1.1.1

-- the first so many of them, and the rest
pub from_front : (n start : ℕ) (ends : List ℕ) (spans : List Span) → AreFrom start ends spans → AreFrom start (take n ends) spans
from_front zero start [] spans h = tt
from_front (suc n) start [] spans h = tt
from_front zero start (end ∷ ends) spans h = tt
from_front (suc n) start (end ∷ ends) spans h = (h.0, (h.1.0, (h.1.1.0, from_front n end ends spans h.1.1.1)))

pub cut_behind : (n start : ℕ) (ends : List ℕ) (spans : List Span) → AreCut start ends spans → AreCut (end_of start (take n ends)) (drop n ends) spans
cut_behind zero start [] spans h = h
cut_behind (suc n) start [] spans h = h
cut_behind zero start (end ∷ ends) spans h = h
cut_behind (suc n) start (end ∷ ends) spans h = cut_behind n end ends spans h.1.1.1

-- the last place is the end of them
pub last_end : (ends : List ℕ) (n start : ℕ) → length ends ≡ n + 1 → slice_index_or ends n 0 ≡ end_of start ends
last_end [] n start e = absurd (omega (arith, e))
last_end (end ∷ ends) zero start e = none ends end (omega (arith, e))
  where
    none : (xs : List ℕ) (x : ℕ) → length xs ≡ 0 → x ≡ end_of x xs
    none [] x f = refl
    none (y ∷ xs) x f = absurd (omega (arith, f))
last_end (end ∷ ends) (suc n) start e = last_end ends n end (omega (arith, e))

pub block_end : (start : ℕ) (rest runs : List ℕ) → runs ≡ take in_block rest → length runs ≡ in_block → slice_index_or runs 63 0 ≡ end_of start (take in_block rest)
block_end start rest runs e many = last_end runs 63 start many ∙ ap (end_of start) e

between_parts : (a b c : ℕ) (spans : List Span) → a ≤ b → b ≤ c → between a c spans ≡ between a b spans ++ between b c spans
between_parts a b c spans l m =
    let parts : c - a ≡ (b - a) + (c - b) = omega (arith, l, m) in
    let same : a + (b - a) ≡ b = omega (arith, l) in
    ap (λ (n : ℕ). take n (drop a spans)) parts ∙ take-add (b - a) (c - b) (drop a spans)
    ∙ ap (λ (xs : List Span). take (b - a) (drop a spans) ++ take (c - b) xs) (drop-drop (b - a) a spans ∙ ap (λ (n : ℕ). drop n spans) same)

none_behind : (ends : List ℕ) (k : ℕ) → length ends ≤ k → drop k ends ≡ []
none_behind [] zero l = refl
none_behind [] (suc k) l = refl
none_behind (end ∷ ends) zero l = absurd (omega (arith, l))
none_behind (end ∷ ends) (suc k) l = none_behind ends k (omega (arith, l))

-- the first of the blocks to come
abbrev pub no_block : Block
no_block = record { from = 0; until = 0 }

pub first_block : (start : ℕ) (rest : List ℕ) (spans : List Span) (blocks : List Block) (k : ℕ) → AreBlocks start rest spans (drop k blocks) → k < length blocks
    → AreBlocks start rest spans (slice_index_or blocks k no_block ∷ drop (k + 1) blocks)
first_block start rest spans blocks k h l =
    let block = slice_index_or blocks k no_block in
    subst (λ (xs : List Block). AreBlocks start rest spans xs) (drop_more blocks k block l (get_or_default blocks k no_block block l)) h

pub next_blocks : (start end : ℕ) (rest more : List ℕ) (spans : List Span) (blocks : List Block) (k : ℕ) → AreBlocks start rest spans (drop k blocks) → k < length blocks
    → end ≡ end_of start (take in_block rest) → more ≡ drop in_block rest → AreBlocks end more spans (drop (k + 1) blocks)
next_blocks start end rest more spans blocks k h l e f =
    subst (λ (n : ℕ). AreBlocks n more spans (drop (k + 1) blocks)) (sym e)
    (subst (λ (xs : List ℕ). AreBlocks (end_of start (take in_block rest)) xs spans (drop (k + 1) blocks)) (sym f) (first_block start rest spans blocks k h l).1.1)

-- ---- the first hop, run by run and block by block

module _ (made : Name → Bool) (level : Name → Latest) (from : Arrived) where
  -- the runs to come are left, up to the end of these
  pub record Going (spans : List Span) (start : ℕ) (ends : List ℕ) (first all : Option Onward) : Type 0 where
    pub are : AreFrom start ends spans
    pub left : first_from made level from first (between start (end_of start ends) spans) ≡ all

  going_cons : (spans : List Span) (start end : ℕ) (ends : List ℕ) (first after all : Option Onward) → Going spans start (end ∷ ends) first all
      → after ≡ first_from made level from first (between start end spans) → Going spans end ends after all
  going_cons spans start end ends first after all h e = record {
    are = h.are.1.1.1;
    left =
        ap (λ (o : Option Onward). first_from made level from o (between end (end_of end ends) spans)) e
        ∙ sym (first_append made level from first (between start end spans) (between end (end_of end ends) spans))
        ∙ ap (λ (xs : List Span). first_from made level from first xs) (sym (between_parts start end (end_of end ends) spans h.are.0 (end_behind end ends spans h.are.1.1.1)))
        ∙ h.left;
  }

  pub going_more : (spans : List Span) (ends : List ℕ) (k start : ℕ) (first after all : Option Onward) → Going spans start (drop k ends) first all → k < length ends
      → after ≡ first_from made level from first (between start (slice_index_or ends k 0) spans) → Going spans (slice_index_or ends k 0) (drop (k + 1) ends) after all
  going_more spans ends k start first after all h l e =
      let end = slice_index_or ends k 0 in
      going_cons spans start end (drop (k + 1) ends) first after all
      (subst (λ (xs : List ℕ). Going spans start xs first all) (drop_more ends k end l (get_or_default ends k 0 end l)) h) e

  pub going_all : (spans : List Span) (ends : List ℕ) (k start : ℕ) (first all : Option Onward) → Going spans start (drop k ends) first all → length ends ≤ k → first ≡ all
  going_all spans ends k start first all h l =
      ap (λ (xs : List Span). first_from made level from first xs) (sym (between_none spans start))
      ∙ ap (λ (xs : List ℕ). first_from made level from first (between start (end_of start xs) spans)) (sym (none_behind ends k l)) ∙ h.left

  pub going_run : (spans : List Span) (ends : List ℕ) (k start : ℕ) (first all : Option Onward) → Going spans start (drop k ends) first all → k < length ends
      → (start ≤ slice_index_or ends k 0) × ((slice_index_or ends k 0 ≤ length spans) × IsRun (between start (slice_index_or ends k 0) spans))
  going_run spans ends k start first all h l =
      let end = slice_index_or ends k 0 in
      let are = subst (λ (xs : List ℕ). AreFrom start xs spans) (drop_more ends k end l (get_or_default ends k 0 end l)) h.are in
      (are.0, (are.1.0, are.1.1.0))

  -- the first block is gone over, or passed over
  pub seen_block : (n : ℕ) (spans : List Span) (start end : ℕ) (rest more : List ℕ) (first after : Option Onward) → Seeing made level from spans start rest first
      → end ≡ end_of start (take n rest) → more ≡ drop n rest → after ≡ first_from made level from first (between start (end_of start (take n rest)) spans)
      → Seeing made level from spans end more after
  seen_block n spans start end rest more first after h e f is =
      subst (λ (k : ℕ). Seeing made level from spans k more after) (sym e) (subst (λ (xs : List ℕ). Seeing made level from spans there xs after) (sym f) seen)
    where
      there : ℕ
      there = end_of start (take n rest)

      seen : Seeing made level from spans there (drop n rest) after
      seen = record {
        cut = cut_behind n start rest spans h.cut;
        left =
            ap (λ (o : Option Onward). first_from made level from o (drop there spans)) is
            ∙ sym (first_append made level from first (between start there spans) (drop there spans))
            ∙ ap (λ (xs : List Span). first_from made level from first xs)
            (sym (cut_off made level from start there spans (end_behind start (take n rest) spans (from_front n start rest spans (cut_from start rest spans h.cut)))))
            ∙ h.left;
      }

  -- what stands behind the last block
  pub seen_rest : (spans : List Span) (start : ℕ) (rest : List ℕ) (first after : Option Onward) → Seeing made level from spans start rest first
      → after ≡ first_from made level from first (between start (end_of start rest) spans) → after ≡ first_from made level from None spans
  seen_rest spans start rest first after h e =
      e
      ∙ ap (λ (xs : List Span). first_from made level from first xs)
      (sym (append-nil (between start (end_of start rest) spans))
      ∙ ap (λ (xs : List Span). between start (end_of start rest) spans ++ xs) (sym (none_left made level from spans (end_of start rest) (end_past start rest spans h.cut)))
      ∙ sym (cut_off made level from start (end_of start rest) spans (end_behind start rest spans (cut_from start rest spans h.cut))))
      ∙ h.left

  -- ---- a block that is passed over

  skipped : (first : Option Onward) (spans : List Span) → AllByRecursion (λ (s : Span). earlier first (onward_over made level from s) ≡ first) spans
      → first ≡ first_from made level from first spans
  skipped first [] h = refl
  skipped first (s ∷ spans) h = skipped first spans h.1 ∙ ap (λ (o : Option Onward). first_from made level from o spans) (sym h.0)

  -- all of it has ended
  pub ended_block : (block : Block) (first : Option Onward) (spans : List Span) → IsAround block spans → block.until ≤ from.moment → first ≡ first_from made level from first spans
  ended_block block first spans h l = skipped first spans (all_so (IsIn block) (λ s. earlier first (onward_over made level from s) ≡ first) one spans h)
    where
      one : (s : Span) → IsIn block s → earlier first (onward_over made level from s) ≡ first
      one s i =
          let u = i.1 in
          ap (earlier first) (none_over made level from s (le-ltb from.moment s.until (omega (arith, u, l)))) ∙ earlier_none first

  -- it begins behind a hop
  pub later_block : (block : Block) (first : Option Onward) (spans : List Span) → IsAround block spans → StaysBefore from block.from first → first ≡ first_from made level from first spans
  later_block block None spans h l = absurd l
  later_block block (Some a) spans h l = skipped (Some a) spans (all_so (IsIn block) (λ s. earlier (Some a) (onward_over made level from s) ≡ Some a) one spans h)
    where
      one : (s : Span) → IsIn block s → earlier (Some a) (onward_over made level from s) ≡ Some a
      one s i =
          let f = i.0 in
          let x = later_first from.moment s.from in
          let y = later_second from.moment s.from in
          let m = later_most from.moment block.from (later from.moment s.from) x (omega (arith, f, y)) in
          stays_over made level from s a (inl (omega (arith, l, m)))

  -- it begins when the way has to have come
  pub late_block : (block : Block) (first : Option Onward) (spans : List Span) → ((name : Name) → IsBy block.from (level name)) → IsAround block spans
      → first ≡ first_from made level from first spans
  late_block block first spans low h = skipped first spans (all_so (IsIn block) (λ s. earlier first (onward_over made level from s) ≡ first) one spans h)
    where
      one : (s : Span) → IsIn block s → earlier first (onward_over made level from s) ≡ first
      one s i = ap (earlier first) (over_late made level from block.from low s i.0) ∙ earlier_none first

-- ---- blocks that are made one after another

-- what holds of one more, and of those before it
pub all_more : {X : Type 0} (P Q : X → Type 0) → ((x : X) → P x → Q x) → (xs : List X) (k : ℕ) (x : X) → AllByRecursion P (take k xs) → k < length xs → x ≡ slice_index_or xs k x → Q x
    → AllByRecursion Q (take (k + 1) xs)
all_more {X = X} P Q wider xs k x h l e q = subst (λ (j : ℕ). AllByRecursion Q (take j xs)) number (by xs k h l e)
  where
    number : suc k ≡ k + 1
    number = omega arith

    by : (ys : List X) (j : ℕ) → AllByRecursion P (take j ys) → j < length ys → x ≡ slice_index_or ys j x → AllByRecursion Q (take (suc j) ys)
    by [] j i b is = absurd (omega (arith, b))
    by (y ∷ ys) zero i b is = (subst Q is q, none ys)
      where
        none : (zs : List X) → AllByRecursion Q (take 0 zs)
        none [] = tt
        none (z ∷ zs) = tt
    by (y ∷ ys) (suc j) i b is = (wider y i.0, by ys j i.1 (omega (arith, b)) is)

-- a span more is within
pub around_more : (before after : Block) (spans : List Span) (k : ℕ) (span : Span) → IsAround before (take k spans) → k < length spans → span ≡ slice_index_or spans k span
    → after.from ≤ before.from → after.from ≤ span.from → before.until ≤ after.until → span.until ≤ after.until → IsAround after (take (k + 1) spans)
around_more before after spans k span h l e f g m n = all_more (IsIn before) (IsIn after) wider spans k span h l e (g, n)
  where
    wider : (s : Span) → IsIn before s → IsIn after s
    wider s i = let x = i.0 in let y = i.1 in (omega (arith, x, f), omega (arith, y, m))

-- the blocks so far, and those from a place on
pub record Blocking (spans : List Span) (ends : List ℕ) (blocks : List Block) (start : ℕ) (rest : List ℕ) : Type 0 where
  pub cut : AreCut start rest spans
  pub inside : start ≤ length spans
  pub so_far : (more : List Block) → AreBlocks start rest spans more → AreBlocks 0 ends spans (blocks ++ more)

pub blocking_none : (spans : List Span) (ends : List ℕ) (blocks : List Block) → AreCut 0 ends spans → blocks ≡ [] → Blocking spans ends blocks 0 ends
blocking_none spans ends blocks h e = record {
  cut = h;
  inside = omega arith;
  so_far = λ more a. subst (λ (xs : List Block). AreBlocks 0 ends spans (xs ++ more)) (sym e) a;
}

-- the next block stands within the list
pub blocking_end : (spans : List Span) (ends : List ℕ) (blocks : List Block) (start : ℕ) (rest runs : List ℕ) → Blocking spans ends blocks start rest → runs ≡ take in_block rest
    → length runs ≡ in_block → (start ≤ slice_index_or runs 63 0) × (slice_index_or runs 63 0 ≤ length spans)
blocking_end spans ends blocks start rest runs h e many =
    let from = from_front in_block start rest spans (cut_from start rest spans h.cut) in
    let is = block_end start rest runs e many in
    let low = end_behind start (take in_block rest) spans from in
    let high = end_within start (take in_block rest) spans from h.inside in
    (omega (arith, is, low), omega (arith, is, high))

pub blocking_more : (spans : List Span) (ends : List ℕ) (blocks after : List Block) (start end : ℕ) (rest : List ℕ) (block : Block) → Blocking spans ends blocks start rest
    → in_block ≤ length rest → end ≡ end_of start (take in_block rest) → IsAround block (between start end spans) → after ≡ blocks ++ block ∷ []
    → Blocking spans ends after end (drop in_block rest)
blocking_more spans ends blocks after start end rest block h l e around is =
    subst (λ (n : ℕ). Blocking spans ends after n (drop in_block rest)) (sym e) record {
      cut = cut_behind in_block start rest spans h.cut;
      inside = end_within start (take in_block rest) spans (from_front in_block start rest spans (cut_from start rest spans h.cut)) h.inside;
      so_far = λ more a.
          subst (λ (xs : List Block). AreBlocks 0 ends spans xs) (sym (ap (λ (xs : List Block). xs ++ more) is ∙ append_assoc blocks (block ∷ []) more))
          (h.so_far (block ∷ more) (l, (subst (λ (n : ℕ). IsAround block (between start n spans)) e around, a)));
    }

pub blocking_all : (spans : List Span) (ends : List ℕ) (blocks : List Block) (start : ℕ) (rest : List ℕ) → Blocking spans ends blocks start rest → AreBlocks 0 ends spans blocks
blocking_all spans ends blocks start rest h = subst (λ (xs : List Block). AreBlocks 0 ends spans xs) (append-nil blocks) (h.so_far [] tt)

-- ---- one list after another

pub record AreBlockedBelow (histories : List History) (runs : List (List ℕ)) (all : List (List Block)) (n : ℕ) : Type 0 where
  pub many : length all ≡ n
  pub each : (name : Name) → name.0 < n → AreBlocks 0 (ends_at runs name) (history_of histories name).spans (blocks_at all name)

pub blocked_none : (histories : List History) (runs : List (List ℕ)) (all : List (List Block)) → all ≡ [] → AreBlockedBelow histories runs all 0
blocked_none histories runs all e = record { many = ap length e; each = λ name l. absurd (omega (arith, l)) }

pub blocked_more : (histories : List History) (runs : List (List ℕ)) (all after : List (List Block)) (n : ℕ) (spans : List Span) (ends : List ℕ) (blocks : List Block)
    → AreBlockedBelow histories runs all n → spans ≡ (slice_index_or histories n no_history).spans → ends ≡ slice_index_or runs n [] → AreBlocks 0 ends spans blocks
    → after ≡ all ++ blocks ∷ [] → AreBlockedBelow histories runs after (n + 1)
blocked_more histories runs all after n spans ends blocks h s e are is = record {
  many = let many = h.many in let more = length-append all (blocks ∷ []) in let whole = ap length is in omega (arith, many, more, whole);
  each = λ name l. by name l (n == name.0) refl;
}
  where
    here : AreBlocks 0 (slice_index_or runs n []) (slice_index_or histories n no_history).spans (slice_index_or after n [])
    here =
        subst (λ (xs : List ℕ). AreBlocks 0 xs (slice_index_or histories n no_history).spans (slice_index_or after n [])) e
        (subst (λ (xs : List Span). AreBlocks 0 ends xs (slice_index_or after n [])) s
        (subst (λ (xs : List Block). AreBlocks 0 ends spans xs) (sym (ap (λ (xs : List (List Block)). slice_index_or xs n []) is ∙ last_same all blocks n h.many)) are))

    by : (name : Name) → name.0 < n + 1 → (b : Bool) → (n == name.0) ≡ b → AreBlocks 0 (ends_at runs name) (history_of histories name).spans (blocks_at after name)
    by name l true f =
        subst (λ (k : ℕ). AreBlocks 0 (slice_index_or runs k []) (slice_index_or histories k no_history).spans (slice_index_or after k [])) (eqb-true n name.0 f) here
    by name l false f =
        let other = eqb-false n name.0 f in
        subst (λ (xs : List Block). AreBlocks 0 (ends_at runs name) (history_of histories name).spans xs)
        (sym (ap (λ (xs : List (List Block)). slice_index_or xs name.0 []) is ∙ last_other all blocks n name.0 h.many f)) (h.each name (omega (arith, l, other)))

pub blocked_all : (histories : List History) (runs : List (List ℕ)) (all : List (List Block)) (n : ℕ) → AreBlockedBelow histories runs all n → AreBlocked histories runs all
blocked_all histories runs all n h name = by (cases_lt name.0 n)
  where
    by : (name.0 < n) ⊎ (n ≤ name.0) → AreBlocks 0 (ends_at runs name) (history_of histories name).spans (blocks_at all name)
    by (inl low) = h.each name low
    by (inr high) =
        let many = h.many in
        subst (λ (xs : List Block). AreBlocks 0 (ends_at runs name) (history_of histories name).spans xs) (sym (beyond all name.0 (omega (arith, many, high)))) tt
