-- Calls that write beside a volume's sectors alone, as those of its extension do: labels, headers and a text, before the first extent.
use Rattle.std.proofs.Common.{◌≡◌, ℕ, ◌<◌, ◌≤◌, List, None, false, ap, inl, inr, subst, sym, ◌∙◌, arith, length}
use Rattle.std.specs.Prelude.{Result}
use Rattle.std.specs.Option.{option_or}
use Rattle.std.proofs.lemmas.Bool.{cases_lt}
use Rattle.rack.specs.declared.Gone.{Gone}
use Rattle.rack.specs.Joins.{keeps_then, leaves_weaker}
use Rattle.rack.specs.Seen.{IsLive, RackView}
use Rattle.rack.specs.Sequences.{IsMix, IsPayload, WritesOnly}
use Rattle.rack.specs.Targets.{look}
use Rattle.rack.specs.Values.{MayLeave, only}
use Rattle.rack.proofs.Phases.{look-append, payload_none}
use Rattle.parity.specs.Xor.{zeros}
use Rattle.lvm_group.specs.Changing.{Changes}
use Rattle.lvm_group.specs.Laws.{array_below, sector_below}
use Rattle.lvm_group.specs.Runs.{array_of, data_start, IsOrderly, Linear, sector_of, sectors_in}
use Rattle.lvm_group.specs.Shown.{IsInside, volume_of}
use Rattle.lvm_group.specs.Writing.{AreStarts, first_targets, header_target, new_targets, start_at, targets_to}
use Rattle.lvm_group.proofs.NewTargets.{first_at, first_elsewhere, head_nowhere, look_nowhere, look_other_disk, new_at, place_bounds, text_nowhere}
use Rattle.transition_laws.specs.Growth.{KeepsOldSectors}
use Rattle.volume_laws.specs.Lengthening.{HoldsZeros}
use Rattle.volume_laws.proofs.KeepsOld.{leaves_sector}

-- A sector that calls may not write keeps its values.
module _ (a b : RackView) (may : ℕ → ℕ → List ℕ → Type 0) (writes : WritesOnly a b may) where
  live_after : (n y : ℕ) → n < a.disks → y < a.sectors n → a.told n → b.spent n y ≡ false → IsLive a b n y
  live_after n y disk inside told alive = record {
    disk = subst (λ k. n < k) (sym writes.stays.disks) disk;
    sector = subst (λ k. y < k) (sym (writes.stays.sectors n)) inside;
    is_told = told;
    unspent = alive;
  }

  -- So a volume keeps its sectors, where calls write none from the arrays' first extents on;
  pub keeps_beside : (l : Linear) → IsOrderly l → IsInside l a → ((n y : ℕ) (v : List ℕ) → data_start ≤ y → may n y v → ⊥) → KeepsOldSectors 1 (volume_of l a) (volume_of l b)
  keeps_beside l orderly inside never =
      let live : (s : ℕ) → s < sectors_in l → ((n : ℕ) → n < l.arrays → a.told n) → b.spent (array_of l s) (sector_of l s) ≡ false → IsLive a b (array_of l s) (sector_of l s) =
      λ s within told alive.
      let array = array_below l a s orderly inside within in
      let arrays = inside.arrays in
      live_after (array_of l s) (sector_of l s) (omega arith) (sector_below l a s orderly inside within) (told (array_of l s) array) alive in
      record {
        told = λ d one told n below. writes.stays.told n (told n below);
        spent = λ d s one within alive. writes.stays.spent (array_of l s) (sector_of l s) alive;
        held = λ d s one told within alive.
            writes.others (array_of l s) (sector_of l s) (live s within told alive) (λ v. never (array_of l s) (sector_of l s) v (omega arith));
        stops = λ traced d s one told within alive.
            leaves_sector l a b d s (a.held (array_of l s) (sector_of l s)) within
            (leaves_weaker (IsMix a b may) (λ c. MayLeave (a.held (array_of l s) (sector_of l s)) (c (array_of l s) (sector_of l s)))
            (λ c mix. elim (mix (array_of l s) (sector_of l s) (live s within told alive)) [
              | inl old ↦ old
              | inr new ↦ absurd (never (array_of l s) (sector_of l s) (c (array_of l s) (sector_of l s)) (omega arith) new)
            ])
            (writes.stops traced));
      }

  -- and an array holds zeros after them in those sectors in which it did.
  pub zeros_beside : (n first : ℕ) → n < a.disks → a.told n → ((y : ℕ) (v : List ℕ) → first ≤ y → may n y v → ⊥) → HoldsZeros a n first → HoldsZeros b n first
  zeros_beside n first disk told never zero y past within alive =
      let inside : y < a.sectors n = subst (λ k. y < k) (writes.stays.sectors n) within in
      keeps_then (only (zeros 512)) (a.held n y) (b.held n y) (zero y past inside (writes.stays.spent n y alive))
      (writes.others n y (live_after n y disk inside told alive) (λ v. never y v past))

-- ---- an extension

-- what is written for a new text lies before the first extent
new_nowhere : (pool : List ℕ) (sectors : ℕ → ℕ) (starts : List _) (text : List ℕ) (n d s : ℕ) → AreStarts starts → length text ≤ 262144 → data_start ≤ s
    → look (new_targets pool sectors starts text n) d s ≡ None
new_nowhere pool sectors starts text n d s are short past =
    let other : (k : ℕ) → k < data_start → k ≡ s → ⊥ = λ k low same. absurd (omega (arith, low, same, past)) in
    elim (cases_lt d n) [
      | inl below ↦
          new_at pool sectors starts text n d s None below (other 8 (omega arith))
          (first_at pool sectors starts text d s None
          (text_nowhere d (start_at starts d).sector d s text
          (λ k inside. other _ (place_bounds (start_at starts d).sector k (are d).0 (are d).1 (omega (arith, inside, short))).1))
          (head_nowhere pool d (sectors d) s (start_at starts d).blank (other 1 (omega arith)) (other 8 (omega arith))))
      | inr over ↦
          look-append (targets_to (first_targets pool sectors starts text) n) (targets_to (header_target starts text) n) d s
          ∙ ap (λ o. option_or o (look (targets_to (first_targets pool sectors starts text) n) d s))
          (look_nowhere (header_target starts text) n d s
          (λ j low. look_other_disk j 8 d s _ (λ same. absurd (omega (arith, low, same, over)))))
          ∙ look_nowhere (first_targets pool sectors starts text) n d s (λ j low. first_elsewhere pool sectors starts text j d s (λ same. absurd (omega (arith, low, same, over))))
    ]

module _ (pool text : List ℕ) (n : ℕ) (a b : RackView) (result : Result (Unit {0}) Gone) (short : length text ≤ 262144) (changes : Changes pool text n a b result) where
  never_there : (d s : ℕ) (v : List ℕ) → data_start ≤ s → IsPayload (new_targets pool a.sectors changes.starts text n) d s v → ⊥
  never_there d s v past = payload_none (new_targets pool a.sectors changes.starts text n) d s (new_nowhere pool a.sectors changes.starts text n d s changes.inside short past) v

  -- The old volume keeps its sectors when its group gets a new text,
  pub extension_keeps : (l : Linear) → IsOrderly l → IsInside l a → KeepsOldSectors 1 (volume_of l a) (volume_of l b)
  extension_keeps l orderly inside = keeps_beside a b (IsPayload (new_targets pool a.sectors changes.starts text n)) changes.puts.only l orderly inside never_there

  -- and the arrays the zeros that they hold from some sector on, where that isn't before their first extent.
  pub extension_zeros : (d first : ℕ) → d < a.disks → a.told d → data_start ≤ first → HoldsZeros a d first → HoldsZeros b d first
  extension_zeros d first disk told behind zero =
      zeros_beside a b (IsPayload (new_targets pool a.sectors changes.starts text n)) changes.puts.only d first disk told (λ y v past. never_there d y v (omega arith)) zero
