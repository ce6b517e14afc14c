use Rattle.std.proofs.Common.{refl, ap, sym}
use Rattle.raid_map.specs.LeftSymmetric.{row_of, column_of, parity_of, parity_at, member_of, sector_of}
use Rattle.raid_map.proofs.Rows.{row_at-sector_of}
use Rattle.raid_map.proofs.place.Goals as goal

pub returns-clause-member : goal.returns-clause-member
unfolding row_of column_of member_of
returns-clause-member c = rw (c.parity_member-parity.ensures.formula, c.from-members.ensures) refl

pub returns-clause-sector : goal.returns-clause-sector
unfolding row_of sector_of
returns-clause-sector c = rw c.from-members.ensures refl

pub returns-clause-parity : goal.returns-clause-parity
unfolding row_of parity_at sector_of
returns-clause-parity c =
    rw (c.parity_member-parity.ensures.formula, c.from-members.ensures) (ap (parity_of c.args.n) (sym (row_at-sector_of c.args.n c.args.x)))
