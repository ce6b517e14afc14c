use Rattle.std.proofs.Common.{◌≡◌, ℕ, ◌+◌, ◌-◌, ◌*◌, ◌/◌, ◌%◌, ◌∙◌, sym, refl, ap}
use Rattle.raid_map.specs.LeftSymmetric.{parity_of, parity_at}
use Rattle.raid_map.proofs.Rows.{answer_of, sector_from, none_is_data, some_is_data, some_is_no_parity}
use Rattle.raid_map.proofs.unplace.Goals as goal

-- the code's parity is that of the place
parity : (n member m sector k p : ℕ) → m ≡ member → k ≡ n → p ≡ parity_of k (sector / 128) → m ≡ p → member ≡ parity_at n sector
unfolding parity_at
parity n member m sector k p em ek ep same = sym em ∙ same ∙ ep ∙ ap (λ (v : ℕ). parity_of v (sector / 128)) ek

parity_back : (n member m sector k p : ℕ) → m ≡ member → k ≡ n → p ≡ parity_of k (sector / 128) → member ≡ parity_at n sector → m ≡ p
unfolding parity_at
parity_back n member m sector k p em ek ep same = em ∙ same ∙ ap (λ (v : ℕ). parity_of v (sector / 128)) (sym ek) ∙ sym ep

-- the code's answer is that of the place
answer : (n member m sector k p : ℕ) → m ≡ member → k ≡ n → p ≡ parity_of k (sector / 128) → answer_of n member sector ≡ (sector / 128 * (k - 1) + (m + k - p - 1) % k) * 128 + sector % 128
unfolding answer_of sector_from parity_of
answer n member m sector k p em ek ep = rw (ep, em, ek) refl

pub returns-then-member-parity-clause-data : goal.returns-then-member-parity-clause-data
returns-then-member-parity-clause-data c =
    none_is_data c.args.n c.args.member c.args.sector c.requires.members.least
    (parity c.args.n c.args.member c.from-member.result c.args.sector c.from-members.result c.parity_member-parity.result c.from-member.ensures c.from-members.ensures c.parity_member-parity.ensures.formula c.if-member-parity.true)

pub returns-then-member-parity-clause-parity : goal.returns-then-member-parity-clause-parity
returns-then-member-parity-clause-parity c = (
  (λ _. parity c.args.n c.args.member c.from-member.result c.args.sector c.from-members.result c.parity_member-parity.result c.from-member.ensures c.from-members.ensures c.parity_member-parity.ensures.formula c.if-member-parity.true),
  (λ _. refl),
)

pub returns-clause-data : goal.returns-clause-data
returns-clause-data c =
    rw (← answer c.args.n c.args.member c.from-member.result c.args.sector c.from-members.result c.parity_member-parity.result c.from-member.ensures c.from-members.ensures c.parity_member-parity.ensures.formula)
    (some_is_data c.args.n c.args.member c.args.sector c.requires.members.least c.requires.member
    (λ same. c.if-member-parity.false (parity_back c.args.n c.args.member c.from-member.result c.args.sector c.from-members.result c.parity_member-parity.result c.from-member.ensures c.from-members.ensures c.parity_member-parity.ensures.formula same)))

pub returns-clause-parity : goal.returns-clause-parity
returns-clause-parity c =
    some_is_no_parity c.args.n c.args.member c.args.sector _
    (λ same. c.if-member-parity.false (parity_back c.args.n c.args.member c.from-member.result c.args.sector c.from-members.result c.parity_member-parity.result c.from-member.ensures c.from-members.ensures c.parity_member-parity.ensures.formula same))
