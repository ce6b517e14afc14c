-- Sums over the disks of a rack.
use Rattle.std.proofs.Common.{◌≡◌, ℕ, zero, suc, ◌<◌, ◌≤◌, inl, inr, refl, arith}
use Rattle.std.proofs.lemmas.Bool.{cases_eq}
use Rattle.rack.specs.Seen.{Rose}
use Rattle.lvm_group.specs.Shown.{total}

-- a disk's number is no more than the sum
pub in_total : (f : ℕ → ℕ) (disks disk : ℕ) → disk < disks → f disk ≤ total f disks
in_total f zero disk below = absurd (omega arith)
in_total f (suc disks) disk below = elim (cases_eq disk disks) [
  | inl last ↦ rw last (omega arith)
  | inr other ↦ let before = in_total f disks disk (omega arith) in omega arith
]

-- where no number falls, the sum doesn't
pub total_grows : (f g : ℕ → ℕ) (disks : ℕ) → ((disk : ℕ) → f disk ≤ g disk) → total f disks ≤ total g disks
total_grows f g zero grows = omega arith
total_grows f g (suc disks) grows =
    let before = total_grows f g disks grows in
    let last = grows disks in
    omega arith

-- where one rises beside, the sum rises
total_rises : (f g : ℕ → ℕ) (disks disk : ℕ) → ((disk : ℕ) → f disk ≤ g disk) → disk < disks → f disk < g disk → total f disks < total g disks
total_rises f g zero disk grows below rises = absurd (omega arith)
total_rises f g (suc disks) disk grows below rises = elim (cases_eq disk disks) [
  | inl last ↦
      let before = total_grows f g disks grows in
      let risen : f disks < g disks = rw (← last) rises in
      omega arith
  | inr other ↦
      let before = total_rises f g disks disk grows (omega arith) rises in
      let last = grows disks in
      omega arith
]

-- where a disk's count rose, or stands at its last value, the sum of all counts did
pub total_rose : (f g : ℕ → ℕ) (disks disk : ℕ) → ((disk : ℕ) → f disk ≤ g disk) → disk < disks → Rose (f disk) (g disk) → Rose (total f disks) (total g disks)
total_rose f g disks disk grows below (inl rises) = inl (total_rises f g disks disk grows below rises)
total_rose f g disks disk grows below (inr stands) = inr (let within = in_total g disks disk below in omega arith)

-- the sum over the same numbers
pub total_same : (f g : ℕ → ℕ) (disks : ℕ) → ((disk : ℕ) → g disk ≡ f disk) → total g disks ≡ total f disks
total_same f g zero same = refl
total_same f g (suc disks) same = rw (total_same f g disks same, same disks) refl
