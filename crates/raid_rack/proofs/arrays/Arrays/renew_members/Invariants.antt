use Rattle.std.proofs.Common.{◌≡◌, ℕ, ◌&&◌, nat_lt, slice_get}
use Rattle.raid_laws.specs.Enlisting as spec
use Rattle.raid_rack.specs.RaidRack.{is_written}
use Rattle.raid_rack.proofs.arrays.Arrays.renew_members.Given as goal

abbrev pub invariant-loop-number : goal.invariant-loop-number
invariant-loop-number l = record {
  each :
      (n : ℕ)
      → slice_get l.self.all.items n ≡ spec.renewed_at l.place l.drive (λ k. nat_lt k l.number && is_written l.joining k) n (slice_get l.fn.self.all.items n);
  rest : l.self ≡ record l.fn.self { all = l.self.all };
}
