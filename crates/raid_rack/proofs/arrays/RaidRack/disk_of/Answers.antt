use Rattle.std.proofs.Common.{◌≡◌, ◌≤◌, ℕ, Option, Some, None, refl, ap, ◌∙◌, arith}
use Rattle.slice_rack.specs.SliceRack.{tables, below_of}
use Rattle.slice_rack.specs.Slices.{seat_of as disk_at}
use Rattle.raid_rack.specs.RaidRack.{slices_in}
use Rattle.raid_rack.proofs.arrays.RaidRack.disk_of.Goals as goal

pub returns : goal.returns
returns g c =
    let t = tables (slices_in c.args.self.now) in
    let x = g.R.Rack.seen (below_of (slices_in c.args.self.now)) in
    of (disk_at t c.args.place)
    (λ d is.
    let low = c.requires.fit.1.seats c.args.place d is in
    let disks : c.disks-disk-end.result ≡ x.disks = c.disks-disk-end.ensures ∙ ap (λ r. (g.R.Rack.seen r).disks) c.below.ensures in
    let end : c.disks-disk-end.result ≤ c.loop-disk.disk = omega (arith, c.loop-disk-test.false) in
    c.loop-disk.invariant d (omega (arith, low, disks, end)) is)
  where
    of : (o : Option ℕ) → ((d : ℕ) → o ≡ Some d → ⊥) → None ≡ o
    of None none = refl
    of (Some d) none = absurd (none d refl)
