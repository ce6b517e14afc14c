-- The arrays that are opened are those of the pool's truths.
use Rattle.std.proofs.Common.{◌≡◌, ℕ, ◌/◌, ◌<◌, Bool, not, if◌then◌else◌, List, slice_get, Option, Some, inl, inr, sym, ap, subst, ◌∙◌, lt-ltb}
use Rattle.std.specs.Option.{option_map_or}
use Rattle.md_super.specs.declared.superblock.Super.{Super}
use Rattle.array_image.specs.SoundArray.{first_unsynced}
use Rattle.array_model.specs.View.{View, HasGeometry}
use Rattle.array_model.specs.declared.Seat.TheVariants.{Missing}
use Rattle.array_core.specs.Opening.{seat_by}
use Rattle.array_core.specs.Seats.{gone, restarted}
use Rattle.array_core.specs.Slots.{place_by}
use Rattle.array_core.proofs.Stripped.{some_same}
use Rattle.pool_image.specs.Drives.{Found}
use Rattle.pool_image.specs.Meaning.{super_at, truth_of}
use Rattle.pool_check.specs.Layers.{IsOpened}
use Rattle.raid_laws.specs.Losing.{geometry_then}
use Rattle.raid_laws.specs.Moves.{OnlyFailures}
use Rattle.assembler_laws.specs.Holding.{IsArrayOf}

-- losses leave it so
pub array_later : (f : Found) (n : ℕ) (t : Super) (u w : View) → IsArrayOf f n t u → OnlyFailures u w → IsArrayOf f n t w
array_later f n t u w of only = record {
  geometry = geometry_then t u.truth w.truth of.geometry only.same.geometry;
  rows = only.same.resync ∙ of.rows;
  young = only.same.young ∙ of.young;
  members = λ k low. elim (only.seats k) [
    | inr lost ↦ inl lost
    | inl same ↦ elim (of.members k low) [ inl missing ↦ inl (same ∙ missing) | inr said ↦ inr (same ∙ said) ]
  ];
}

-- pools that say the same of an array's members
pub array_same : (f g : Found) (n : ℕ) (t : Super) (v : View) → ((p : ℕ) → super_at g n p ≡ super_at f n p) → IsArrayOf g n t v → IsArrayOf f n t v
array_same f g n t v same of = record {
  geometry = of.geometry;
  rows = of.rows;
  young = of.young;
  members = λ k low. elim (of.members k low) [
    | inl missing ↦ inl missing
    | inr said ↦ inr (said ∙ ap (λ (o : Option Super). Some (option_map_or seat_by o Missing)) (same (place_by t k)))
  ];
}

pub array_founded : (f : Found) (n : ℕ) (t : Super) (u before w : View) (places : List ℕ) → IsOpened f n u → n < f.state.joined → truth_of f n ≡ Some t
    → before ≡ gone places (restarted u) → OnlyFailures before w
    → ((k : ℕ) → k < t.raid_disks → slice_get before.seats k ≡ Some (option_map_or seat_by (super_at f n (place_by t k)) Missing)) → IsArrayOf f n t w
array_founded f n t u before w places of joined truth is only said =
    let same = some_same of.truth t (sym of.truth_is ∙ truth) in
    let opened : before.truth ≡ t = ap (λ (z : View). z.truth) is ∙ (ap (λ (z : View). z.truth) of.view ∙ same) in
    record {
      geometry = subst (λ (z : Super). HasGeometry z w.truth) opened only.same.geometry;
      rows =
          only.same.resync
          ∙ (ap (λ (z : View). z.resync) is
          ∙ (ap (λ (z : View). z.resync) of.view
          ∙ (ap (λ (b : Bool). if not b then of.truth.size / 128 else first_unsynced of.truth) (lt-ltb n f.state.joined joined)
          ∙ ap first_unsynced same)));
      young =
          only.same.young ∙ (ap (λ (z : View). z.young) is ∙ (ap (λ (z : View). z.young) of.view ∙ ap not (lt-ltb n f.state.joined joined)));
      members = λ k low. elim (only.seats k) [ inr lost ↦ inl lost | inl kept ↦ inr (kept ∙ said k low) ];
    }
