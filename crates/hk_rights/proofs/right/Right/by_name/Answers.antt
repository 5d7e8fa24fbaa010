use Rattle.std.proofs.Common.{◌≡◌, ◌<◌, ◌^◌, ℕ, List, Some, ap, ◌∙◌, sym, IsTrue}
use Rattle.std.proofs.lemmas.Bool.Decides.{Decides-eqb}
use Rattle.std.proofs.lemmas.Nat.{pow_pos}
use Rattle.bitflags.specs.Sets.{find_name}
use Rattle.hk_rights.specs.Rights.{has, is_right, number_named, word_table, IsRightsWord}
use Rattle.hk_rights.proofs.Sets.{has-pow}
use Rattle.hk_rights.proofs.Words.{IsRightsWord-from_HasAll}
use Rattle.hk_rights.proofs.Table.{has-all_rights, named_some, named_none, named-is_right}
use Rattle.hk_rights.proofs.right.Right.by_name.Goals as goal

-- the one right in the set of one right
only : (word n one : ℕ) → word ≡ 2 ^ one → IsTrue (has word n) → n ≡ one
only word n one e there = (Decides-eqb n one).0 (sym (has-pow one n) ∙ (ap (λ w. has w n) (sym e) ∙ there))

rights : (name : List ℕ) (word bits : ℕ) → bits ≡ word → Some word ≡ find_name word_table name → IsRightsWord bits
rights name word bits same e =
    let found = named_some name word e in
    IsRightsWord-from_HasAll bits (λ n there.
    let here : n ≡ found.0 = only bits n found.0 (same ∙ found.2) there in
    has-all_rights n ∙ (ap (λ k. is_right k) here ∙ named-is_right name found.0 found.1))

some : (name : List ℕ) (word bits : ℕ) → bits ≡ word → Some word ≡ find_name word_table name → 0 < bits
some name word bits same e =
    let found = named_some name word e in
    rw (same ∙ found.2) (pow_pos found.0)

named : (name : List ℕ) (word bits n : ℕ) → bits ≡ word → Some word ≡ find_name word_table name → IsTrue (has bits n) → Some n ≡ number_named name
named name word bits n same e there =
    let found = named_some name word e in
    ap (λ k. Some k) (only bits n found.0 (same ∙ found.2) there) ∙ sym found.1

pub lowest-requires-clause-rights : goal.lowest-requires-clause-rights
lowest-requires-clause-rights c = rights c.args.name.now c.in-Some.word.0 c.bits.result (c.bits.ensures tt) (c.in-Some.ensures tt)

pub lowest-requires-clause-some : goal.lowest-requires-clause-some
lowest-requires-clause-some c = some c.args.name.now c.in-Some.word.0 c.bits.result (c.bits.ensures tt) (c.in-Some.ensures tt)

pub returns-in-None : goal.returns-in-None
returns-in-None c = sym (named_none c.args.name.now (c.in-None.ensures tt))

pub returns-in-Some : goal.returns-in-Some
returns-in-Some c = named c.args.name.now c.in-Some.word.0 c.bits.result c.lowest.result (c.bits.ensures tt) (c.in-Some.ensures tt) c.lowest.ensures.there
