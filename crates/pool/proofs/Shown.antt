-- The arrays of a book, as a list.
use Rattle.std.proofs.Common.{◌≡◌, ◌+◌, ◌<◌, length, subst, arith}
use Rattle.std.proofs.lemmas.List.{ext_get_or}
use Rattle.std.proofs.lemmas.List.FromFn.{get_or-map-range_with_len, length-map-range_with_len}
use Rattle.raid_rack.specs.declared.arrays.Arrays.{Arrays}
use Rattle.raid_rack.specs.RaidRack.{no_array, raid_by}
use Rattle.pool.specs.Moment.{views_of}

-- by number, they are those that the pool has
pub views_are : (a : Arrays) → length a.all.items ≡ a.state.made → views_of (raid_by a) ≡ a.all.items
views_are a count =
    let many = length-map-range_with_len (raid_by a).arrays 0 a.state.made in
    ext_get_or no_array (views_of (raid_by a)) a.all.items (omega (arith, many, count))
    (λ i low.
    let zero : 0 + i ≡ i = omega arith in
    get_or-map-range_with_len (raid_by a).arrays 0 a.state.made i i no_array (subst (λ n. i < n) many low) zero)
