-- Files that have all current values, and those that refused.
use Rattle.std.proofs.Common.{◌≡◌, ◌≢◌, ◌⊎◌, ℕ, zero, suc, ◌+◌, ◌<◌, List, [], ◌∷◌, Some, slice_get, length, refl, sym, subst, ◌∙◌, inl, inr, arith}
use Rattle.std.proofs.lemmas.Bool.{cases_eq}
use Rattle.rack.specs.Seen.{Rose}
use Rattle.rack.specs.Joins.{rose_before, rose_since}
use Rattle.rack.specs.Sequences.{OnlyReads}
use Rattle.rack.proofs.Reading.{same_after}
use Rattle.buffered_bay.specs.View.{View, IsPlain, IsWritten, KeepsFile}
use Rattle.buffered_bay.specs.Buffered.{AreWindows, HasClean}
use Rattle.buffered_bay.specs.declared.windows.Window.{Window}
use Rattle.buffered_bay.proofs.Answered.{all_clean}

-- what stands in a list
item_at : {A : Type 0} (xs : List A) (i : ℕ) → i < length xs → (x : A) × (slice_get xs i ≡ Some x)
item_at [] i inside = absurd (omega (arith, inside))
item_at (x ∷ xs) zero inside = (x, refl)
item_at (x ∷ xs) (suc i) inside = item_at xs i (omega (arith, inside))

-- a disk of which nothing is dirty
pub written_clean :
    {tells : Type 0} (a : View) (ws : List Window) (disk : ℕ) → AreWindows tells a ws → disk < a.seen.disks → HasClean ws disk
    → IsWritten tells a disk
written_clean a ws disk windows has clean =
    let at = item_at ws disk (subst (λ n. disk < n) (sym windows.count) has) in
    all_clean at.0 (clean at.0 at.1) (windows.each disk at.0 at.1)

-- a file that stays has its values still
written_still :
    {tells : Type 0} (a b : View) (d : ℕ) → IsPlain tells a.seen → IsPlain tells b.seen → OnlyReads a.seen b.seen → d < a.seen.disks
    → KeepsFile tells a b d → IsWritten tells a d → IsWritten tells b d
written_still a b d before after reads has kept written =
    λ t s below.
    let inside = subst (λ n. s < n) (reads.stays.sectors d) below in
    kept t s inside ∙ (written t s inside ∙ sym (same_after d s reads has inside (before.told d t) (after.unspent d s)))

-- each of the first disks has its values in its file, or has refused
abbrev pub AreWritten : Type 0 → View → View → ℕ → Type 0
AreWritten tells a b n =
    (d : ℕ) → d < n → IsWritten tells b d ⊎ Rose (a.seen.faults d) (b.seen.faults d)

-- one disk more
pub written_more :
    {tells : Type 0} (a b c : View) (n : ℕ) → IsPlain tells b.seen → IsPlain tells c.seen → OnlyReads a.seen b.seen → OnlyReads b.seen c.seen
    → n < b.seen.disks
    → ((d : ℕ) → d < b.seen.disks → d ≢ n → KeepsFile tells b c d)
    → IsWritten tells c n ⊎ Rose (b.seen.faults n) (c.seen.faults n)
    → AreWritten tells a b n → AreWritten tells a c (n + 1)
written_more {tells} a b c n before after first second has others now written d below =
    elim (cases_eq d n) [
      | inl same ↦ subst (λ e. IsWritten tells c e ⊎ Rose (a.seen.faults e) (c.seen.faults e)) (sym same) (later now)
      | inr other ↦
          let under : d < n = omega (arith, below, other) in
          let there : d < b.seen.disks = omega (arith, under, has) in
          elim (written d under) [
            | inl old ↦ inl (written_still b c d before after second there (others d there other) old)
            | inr rose ↦ inr (rose_before (second.stays.faults d) rose)
          ]
    ]
  where
    later : IsWritten tells c n ⊎ Rose (b.seen.faults n) (c.seen.faults n) → IsWritten tells c n ⊎ Rose (a.seen.faults n) (c.seen.faults n)
    later (inl new) = inl new
    later (inr rose) = inr (rose_since (first.stays.faults n) rose)
