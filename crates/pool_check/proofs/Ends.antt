-- How a check ends: the first refusal, or none.
use Rattle.std.proofs.Common.{◌≡◌, ℕ, zero, suc, List, [], ◌∷◌, ◌<◌, ◌≤◌, Bool, if◌then◌else◌, Option, Some, None, refl, sym, ap, ◌∙◌, lt-ltb, le-ltb, arith}
use Rattle.std.specs.Prelude.{count_by, filter, is_none, length, slice_get}
use Rattle.std.specs.Option.{option_or}
use Rattle.std.specs.List.{range_with_len}
use Rattle.std.proofs.lemmas.List.Sums.{count_by-le-length, length-filter}
use Rattle.std.proofs.lemmas.List.FromFn.{length-range_with_len}
use Rattle.pool_state.specs.declared.contents.State.{State}
use Rattle.array_image.specs.States.{current_places, is_current}
use Rattle.pool_image.specs.Disks.{Seats}
use Rattle.pool_image.specs.Drives.{Found}
use Rattle.pool_image.specs.Meaning.{Refusal, absent, absent_count}
use Rattle.pool_check.specs.declared.Halt.{Halt}
use Rattle.pool_check.specs.declared.Halt.TheVariants.{Fault, Went}
use Rattle.pool_check.specs.declared.Layer.{Layer}
use Rattle.pool_check.specs.declared.ArraysRead.{ArraysRead}
use Rattle.pool_check.specs.Drives.{HasFewPlaces}
use Rattle.pool_check.specs.Refusing.{CountsAbsent, IsFault, IsOfFew, damage_with, first_with, refused_arrays, refused_with}
use Rattle.pool_check.specs.Layers.{AreLayers}
use Rattle.pool_check.specs.Checking.{IsChecked, refused_by_layers}
use Rattle.pool_check.proofs.Begins.{AreSmall}
use Rattle.pool_check.proofs.Parts.{none_is}
use Rattle.pool_check.proofs.Refused.{faultless, layers_refuse}

-- no more places are absent than there are
pub few_absent : (s : State) (seats : Seats) → length s.drives.items ≤ 16 → count_by (λ place. is_none (seats place)) (current_places s) ≤ 16
unfolding current_places
few_absent s seats few =
    let one = count_by-le-length (λ place. is_none (seats place)) (filter (is_current s) (range_with_len 0 (length s.drives.items))) in
    let two = count_by-le-length (is_current s) (range_with_len 0 (length s.drives.items)) in
    omega (arith, one, two, few, length-filter (is_current s) (range_with_len 0 (length s.drives.items)), length-range_with_len 0 (length s.drives.items))

-- two or more are absent
pub absent_refused : (well : ℕ → Bool) (last : Option Refusal) (f : Found) → 1 < absent_count f → refused_with well last f ≡ Some (absent (absent_count f))
unfolding refused_with
absent_refused well last f many =
    ap (λ (b : Bool). if b then Some (absent (absent_count f)) else option_or (first_with well f) (refused_arrays last f)) (lt-ltb 1 (absent_count f) many)

-- fewer are
pub present_refused : (well : ℕ → Bool) (last : Option Refusal) (f : Found) → absent_count f ≤ 1
    → refused_with well last f ≡ option_or (first_with well f) (refused_arrays last f)
unfolding refused_with
present_refused well last f few =
    ap (λ (b : Bool). if b then Some (absent (absent_count f)) else option_or (first_with well f) (refused_arrays last f)) (le-ltb 1 (absent_count f) few)

-- a drive is damaged
pub damage_refused : (well : ℕ → Bool) (last : Option Refusal) (f : Found) (r : Refusal) → absent_count f ≤ 1 → first_with well f ≡ Some r
    → refused_with well last f ≡ Some r
damage_refused well last f r few is = present_refused well last f few ∙ ap (λ o. option_or o (refused_arrays last f)) is

module _ (well : ℕ → Bool) (f : Found) (few : HasFewPlaces f.state f.seats) (small : AreSmall f) (sixteen : f.state.made ≤ 16)
    (present : absent_count f ≤ 1) (sound : (p : ℕ) → p < 16 → damage_with well f p ≡ None) where
  -- no drive is: the refusal is that of the arrays
  pub arrays_refused : {layers : ArraysRead} → AreLayers f f.state.made layers → refused_with well None f ≡ refused_by_layers layers.all.items
  arrays_refused {layers} are =
      present_refused well None f present ∙ ap (λ o. option_or o (refused_arrays None f)) (none_is well f few sound)
      ∙ sym (layers_refuse well f layers.all.items few small sixteen sound (record { count = are.count; each = are.each }))

  -- and where they have none, they are open
  pub arrays_open : {layers : ArraysRead} → AreLayers f f.state.made layers → refused_by_layers layers.all.items ≡ None
      → IsChecked well f layers.opened
  arrays_open {layers} are none = record {
    sound = arrays_refused {layers = layers} are ∙ none;
    opened = are.opened (λ n below.
        let at = listed layers.all.items n (let count = are.count in omega (arith, below, count)) in
        sym (are.each n at.0 at.1).fault ∙ faultless layers.all.items none n at.0 at.1);
  }
    where
      listed : (xs : List Layer) (n : ℕ) → n < length xs → (layer : Layer) × (slice_get xs n ≡ Some layer)
      listed [] n below = absurd (omega (arith, below))
      listed (x ∷ xs) zero below = (x, refl)
      listed (x ∷ xs) (suc n) below = listed xs n (omega (arith, below))

-- a check that ends with a fault of a drive, where at most one is absent
pub few_counts : (wanting : ℕ) (halt : Halt) → wanting ≤ 1 → IsFault IsOfFew halt → IsFault (CountsAbsent wanting) halt
few_counts wanting (Fault fault) few is = is wanting few
few_counts wanting (Went place) few is = tt
