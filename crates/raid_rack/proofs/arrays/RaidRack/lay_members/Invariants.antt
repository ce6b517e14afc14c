use Rattle.std.proofs.Common.{◌≡◌, ◌+◌, ℕ, true, take}
use Rattle.array_core.specs.Seats.{names}
use Rattle.array_image.specs.Places.{member_slice}
use Rattle.array_image.specs.States.{is_current}
use Rattle.slice_rack.specs.SliceRack.{tables}
use Rattle.slice_rack.specs.Slices.{sectors_of}
use Rattle.raid_rack.specs.RaidRack.{arrays_in, slices_in}
use Rattle.raid_rack.proofs.LaidMembers.{LaysOnly}
use Rattle.raid_rack.proofs.arrays.RaidRack.lay_members.Given as goal

abbrev pub invariant-loop-place : goal.invariant-loop-place
invariant-loop-place g l = record {
  laid : (p : ℕ) → names (take l.place-index l.place-items) p ≡ true → is_current (arrays_in l.fn.self).state p ≡ true
      → sectors_of (tables (slices_in l.self)) (member_slice p l.number) ≡ l.sectors;
  lays : LaysOnly g.R.Rack.seen (l.number + 1) l.fn.self l.self;
}
