use Rattle.std.proofs.Common.{◌*◌, ◌-◌, ◌/◌, ◌<◌, ℕ, ap, subst, sym, ◌∙◌}
use Rattle.raid_map.specs.LeftSymmetric.{parity_at}
use Rattle.raid_map.proofs.Rows.{row_members_differ}
use Rattle.reshape_laws.proofs.RowCall.{parity_first}
use Rattle.array_reshape.proofs.new_rows.parity_on.Goals as goal

pub returns-clause-parity : goal.returns-clause-parity
returns-clause-parity c =
    c.place.ensures.parity
    ∙ ap (parity_at c.args.members) c.place.ensures.sector
    ∙ parity_first c.args.members c.args.sector (c.args.sector / 128 * (128 * (c.from.result - 1))) c.requires.members
    (ap (λ (n : ℕ). c.args.sector / 128 * (128 * (n - 1))) c.from.ensures)

pub returns-clause-member : goal.returns-clause-member
returns-clause-member c =
    subst (λ (p : ℕ). p < c.args.members)
    (sym (c.place.ensures.parity
    ∙ ap (parity_at c.args.members) c.place.ensures.sector
    ∙ parity_first c.args.members c.args.sector (c.args.sector / 128 * (128 * (c.from.result - 1))) c.requires.members
    (ap (λ (n : ℕ). c.args.sector / 128 * (128 * (n - 1))) c.from.ensures)))
    ((row_members_differ c.args.members c.requires.members).parity_is_member c.args.sector)
