use Rattle.std.proofs.Common.{◌≡◌, ℕ, zero, suc, ◌+◌, ◌<◌, List, [], ◌∷◌, ◌++◌, length, map, take, get_or, Vec, Global, string_bytes, sym, ap, ◌∙◌, arith}
use Rattle.std.proofs.lemmas.List.{append_assoc, append-nil}
use Rattle.hk_model.specs.declared.names.Name.{Name}
use Rattle.hk_top.specs.BoundTexts.{bounds_from, pairs_text, pair_count}
use Rattle.hk_top.proofs.bounds.write_bounds.Goals as goal

-- the lists of the bounds
abbrev lists : List (Vec Name Global) → List (List Name)
lists bounds = map (λ (names : Vec Name Global). names.items) bounds

-- the lines of one process more
one_more : (xs : List (Vec Name Global)) (n i : ℕ) (x : Vec Name Global) → i < length xs → x ≡ get_or xs i x
    → bounds_from n (lists (take (suc i) xs)) ≡ bounds_from n (lists (take i xs)) ++ pairs_text (n + i) x.items
one_more [] n i x h e = absurd (omega (arith, h))
one_more (y ∷ ys) n zero x h e =
    append-nil (pairs_text n y.items) ∙ (ap (λ (v : Vec Name Global). pairs_text n v.items) (sym e) ∙ ap (λ (m : ℕ). pairs_text m x.items) (omega arith))
one_more (y ∷ ys) n (suc i) x h e =
    ap (λ (r : List ℕ). pairs_text n y.items ++ r) (one_more ys (n + 1) i x (omega (arith, h)) e)
    ∙ (sym (append_assoc (pairs_text n y.items) (bounds_from (n + 1) (lists (take i ys))) (pairs_text (n + 1 + i) x.items))
    ∙ ap (λ (m : ℕ). (pairs_text n y.items ++ bounds_from (n + 1) (lists (take i ys))) ++ pairs_text m x.items) (omega arith))

-- and how many these are
count_more : (xs : List (Vec Name Global)) (i : ℕ) (x : Vec Name Global) → i < length xs → x ≡ get_or xs i x
    → pair_count (lists (take (suc i) xs)) ≡ pair_count (lists (take i xs)) + length x.items
count_more [] i x h e = absurd (omega (arith, h))
count_more (y ∷ ys) zero x h e = let same = ap (λ (v : Vec Name Global). length v.items) e in omega (arith, same)
count_more (y ∷ ys) (suc i) x h e = let more = count_more ys i x (omega (arith, h)) e in omega (arith, more)

-- what was written with the lines of one process more
written_more : (xs : List (Vec Name Global)) (i : ℕ) (x : Vec Name Global) (names : List Name) (before old new : List ℕ) → i < length xs → x ≡ get_or xs i x → names ≡ x.items
    → old ≡ before ++ bounds_from 0 (lists (take i xs)) → new ≡ old ++ pairs_text i names → new ≡ before ++ bounds_from 0 (lists (take (i + 1) xs))
written_more xs i x names before old new h e same o n =
    n ∙ (ap (λ (b : List ℕ). b ++ pairs_text i names) o
    ∙ (append_assoc before (bounds_from 0 (lists (take i xs))) (pairs_text i names)
    ∙ ap (λ (r : List ℕ). before ++ r) (ap (λ (ns : List Name). bounds_from 0 (lists (take i xs)) ++ pairs_text i ns) same
    ∙ (ap (λ (m : ℕ). bounds_from 0 (lists (take i xs)) ++ pairs_text m x.items) (omega arith)
    ∙ (sym (one_more xs 0 i x h e) ∙ (let up : suc i ≡ i + 1 = omega arith in ap (λ (m : ℕ). bounds_from 0 (lists (take m xs))) up))))))

counted_more : (xs : List (Vec Name Global)) (i : ℕ) (x : Vec Name Global) (count len : ℕ) → i < length xs → x ≡ get_or xs i x → len ≡ length x.items
    → count ≡ pair_count (lists (take i xs)) → count + len ≡ pair_count (lists (take (i + 1) xs))
counted_more xs i x count len h e l n =
    let more = count_more xs i x h e in
    let sum : count + len ≡ pair_count (lists (take (suc i) xs)) = omega (arith, more, l, n) in
    let up : suc i ≡ i + 1 = omega arith in
    sum ∙ ap (λ (m : ℕ). pair_count (lists (take m xs))) up

pub loop-process-preserved : goal.loop-process-preserved
loop-process-preserved c =
    let i = c.loop-process.process in let x = c.index-bounds-process.result in let inv = c.loop-process.invariant in (
      written_more c.args.bounds.now i x c.as_slice-names.result.now (string_bytes c.args.out.now) (string_bytes c.loop-process.out) (string_bytes c.write_pairs.new.out)
          c.loop-process-test.true c.index-bounds-process.is c.as_slice-names.ensures.value inv.0 c.in_ok-write_pairs.ensures.text,
      counted_more c.args.bounds.now i x c.loop-process.count (length c.as_slice-names.result.now) c.loop-process-test.true c.index-bounds-process.is
          (ap length c.as_slice-names.ensures.value) inv.1,
      (let most = inv.2 in let more = c.in_ok-write_pairs.ensures.more in omega (arith, most, more)),
    )
