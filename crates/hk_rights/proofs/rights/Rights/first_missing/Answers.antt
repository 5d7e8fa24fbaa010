use Rattle.std.proofs.Common.{◌≡◌, ◌<◌, ◌&&◌, not, ℕ, Some, None, false, ap, ◌∙◌, sym, IsTrue}
use Rattle.hk_rights.specs.Rights.{has, first_missing, IsRightsWord}
use Rattle.hk_rights.proofs.Sets.{lacking, has-lacking, same_rights}
use Rattle.hk_rights.proofs.Words.{HasAll-all_rights}
use Rattle.hk_rights.proofs.Missing.{first_missing-some, first_missing-none, HasAll-from_lacking}
use Rattle.hk_rights.proofs.rights.Rights.first_missing.Goals as goal

-- the set of what is needed and not there
missing_is : (have need missing : ℕ) → ((n : ℕ) → has missing n ≡ (has need n && not (has have n))) → missing ≡ lacking need have
missing_is have need missing members = same_rights missing (lacking need have) (λ n. members n ∙ sym (has-lacking need have n))

-- nothing is missing
nothing : (have need missing : ℕ) → ((n : ℕ) → has missing n ≡ (has need n && not (has have n))) → missing ≡ 0 → first_missing have need ≡ None
nothing have need missing members zero =
    first_missing-none have need (HasAll-from_lacking have need (sym (missing_is have need missing members) ∙ zero))

pub returns-then-missing-eq0-clause-first : goal.returns-then-missing-eq0-clause-first
returns-then-missing-eq0-clause-first c =
    sym (nothing c.args.self c.args.need c.without.result c.without.ensures.members (sym c.bits-missing.ensures.same ∙ c.if-missing-eq0.true))

-- the lowest right of what is missing
first : (have need missing n : ℕ) → ((n : ℕ) → has missing n ≡ (has need n && not (has have n))) → IsRightsWord missing → IsTrue (has missing n)
    → ((k : ℕ) → k < n → has missing k ≡ false) → first_missing have need ≡ Some n
first have need missing n members word there least =
    let is : missing ≡ lacking need have = missing_is have need missing members in
    first_missing-some have need n (HasAll-all_rights missing word n there) (ap (λ w. has w n) (sym is) ∙ there) (λ k less. ap (λ w. has w k) (sym is) ∙ least k less)

pub returns-else-missing-eq0-clause-first : goal.returns-else-missing-eq0-clause-first
returns-else-missing-eq0-clause-first c =
    sym (first c.args.self c.args.need c.bits-missing.result c.lowest.result (λ n. ap (λ w. has w n) c.bits-missing.ensures.same ∙ c.without.ensures.members n)
    c.bits-missing.ensures.known c.lowest.ensures.there c.lowest.ensures.least)
