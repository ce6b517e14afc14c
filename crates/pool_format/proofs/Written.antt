-- The data of a member, as it is written.
use Rattle.std.proofs.Common.{◌≡◌, ℕ, ◌+◌, ◌-◌, ◌*◌, ◌/◌, ◌<◌, ◌≤◌, ◌↔◌, ◌^◌, List, [], ◌∷◌, map, Option, Some, None, refl, sym, ap, subst, arith, unwrap_or, slice_index}
use Rattle.std.proofs.Math.Nat.{mul-le-mul_left}
use Rattle.parity.specs.Xor.{xor_all}
use Rattle.raid_map.specs.LeftSymmetric.{StandsAt, parity_at}
use Rattle.lvm_group.specs.declared.founding.NewGroup.{NewGroup}
use Rattle.lvm_group.specs.Founding.{extent_of, numbers_of, sectors_of}
use Rattle.lvm_group.specs.Made.{new_sector}
use Rattle.pool_format.specs.declared.Birth.{Birth}
use Rattle.pool_format.specs.declared.planning.NewPool.{NewPool}
use Rattle.pool_format.specs.Data.{IsMemberData, IsNewGroup, array_sector, group_sector, row_sectors, sizes_of}
use Rattle.pool_format.proofs.Lists.{no_element}

-- what stands in a mirror
pub mirror_data : (n : ℕ) (array : ℕ → List ℕ) (position sector : ℕ) → n ≡ 2 → IsMemberData n array position sector (array sector)
mirror_data n array position sector two = record {
  mirror = λ same. refl;
  own = λ more. absurd (omega (arith, two, more));
  parity = λ more. absurd (omega (arith, two, more));
}

-- a sector of the array
pub own_data : (n : ℕ) (array : ℕ → List ℕ) (position sector own : ℕ) → (n ≡ 2 → ⊥) → ((x : ℕ) → (◌≡◌ {A = Option ℕ} (Some own) (Some x)) ↔ StandsAt n x position sector)
    → ((◌≡◌ {A = Option ℕ} (Some own) None) ↔ (position ≡ parity_at n sector)) → IsMemberData n array position sector (array own)
own_data n array position sector own more at none = record {
  mirror = λ same. absurd (more same);
  own = λ many x stands. ap array (ap (λ o. unwrap_or o own) ((at x).1 stands));
  parity = λ many parity. absurd (no_element (sym (none.1 parity)));
}

-- the parity
pub parity_data : (n : ℕ) (array : ℕ → List ℕ) (position sector : ℕ) → (n ≡ 2 → ⊥) → ((x : ℕ) → (◌≡◌ {A = Option ℕ} None (Some x)) ↔ StandsAt n x position sector)
    → IsMemberData n array position sector (xor_all 512 (map array (row_sectors n sector)))
parity_data n array position sector more at = record {
  mirror = λ same. absurd (more same);
  own = λ many x stands. absurd (no_element ((at x).1 stands));
  parity = λ many parity. refl;
}

-- the sectors of a row are low
pub row_low : (members sector column : ℕ) → 2 ≤ members → members ≤ 16 → sector < 2 ^ 48 → column < members - 1 → (sector / 128 * (members - 1) + column) * 128 < 2 ^ 60
row_low members sector column least most low below =
    let rows : sector / 128 < 2 ^ 41 = omega (arith, low) in
    let few : members - 1 ≤ 15 = omega (arith, most) in
    let times : sector / 128 * (members - 1) ≤ sector / 128 * 15 = mul-le-mul_left (sector / 128) few in
    omega (arith, rows, times, below, most)

-- what the group of a new pool says is what its arrays hold
pub group_data : (plan : NewPool) (birth : Birth) (group : NewGroup) (k n position sector : ℕ) (v : List ℕ) → IsNewGroup plan birth group
    → IsMemberData n (group_sector group k) position sector v → IsMemberData n (array_sector plan birth k) position sector v
group_data plan birth group k n position sector v new datum =
    subst (λ (numbers : List ℕ). IsMemberData n (new_sector birth.pool plan.extent (slice_index (sizes_of plan)) numbers k) position sector v) new.numbers_are
    (subst (λ (sizes : List ℕ). IsMemberData n (new_sector birth.pool plan.extent (slice_index sizes) (numbers_of group) k) position sector v) new.sectors_are
    (subst (λ (extent : ℕ). IsMemberData n (new_sector birth.pool extent (slice_index (sectors_of group)) (numbers_of group) k) position sector v) new.extent_is
    (subst (λ (pool : List ℕ). IsMemberData n (new_sector pool (extent_of group) (slice_index (sectors_of group)) (numbers_of group) k) position sector v) new.pool_is datum)))

-- a function of values of another
pub map_twice : (f : ℕ → List ℕ) (g : ℕ → ℕ) (xs : List ℕ) → map f (map g xs) ≡ map (λ x. f (g x)) xs
map_twice f g [] = refl
map_twice f g (x ∷ xs) = ap (λ ys. f (g x) ∷ ys) (map_twice f g xs)
