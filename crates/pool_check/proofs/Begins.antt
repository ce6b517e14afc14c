-- Where the slices of arrays begin, and the superblocks that stand there.
use Rattle.std.proofs.Common.{◌≡◌, ℕ, suc, ◌+◌, ◌<◌, ◌≤◌, ◌^◌, Bool, nat_lt, if◌then◌else◌, List, [], ◌∷◌, map, length, Option, Some, None, option_map, refl, ap, ◌∙◌, le-ltb, arith}
use Rattle.std.specs.Option.{option_map_or, option_and_then}
use Rattle.rack.specs.Seen.{Image}
use Rattle.shr_base.specs.Blocks.{number_at, bytes_at}
use Rattle.md_super.specs.declared.superblock.Super.{Super}
use Rattle.pool_state.specs.declared.contents.State.{State}
use Rattle.array_image.specs.Foremost.{foremost}
use Rattle.array_image.specs.Places.{member_slice, super_sector, place_of, data_sector}
use Rattle.array_image.specs.States.{current_places}
use Rattle.array_image.specs.Supers.{is_super_of, only_if, super_of, super_in, truth_in}
use Rattle.pool_image.specs.Drives.{Found, drive_sector, end_of, extent_from, extent_of, first_of, slices_from, truth_from}
use Rattle.pool_image.specs.Meaning.{truth_of}
use Rattle.pool_image.proofs.Truths.{no_truth}
use Rattle.pool_check.specs.Layers.{IsNext}

-- no bytes are no superblock
pub no_super : super_of [] ≡ None
unfolding number_at bytes_at
no_super = refl

pub nothing_in : (s : State) (c : Image) (array place : ℕ) → c (member_slice place array) super_sector ≡ [] → super_in s c array place ≡ None
nothing_in s c array place none =
    ap (λ block. only_if (is_super_of s.pool.0 s.extent (length s.drives.items) array place) (super_of block)) none
    ∙ ap (only_if (is_super_of s.pool.0 s.extent (length s.drives.items) array place)) no_super

foremost_none : {X : Type 0} (measure : X → ℕ) (f : ℕ → Option X) (xs : List ℕ) → ((x : ℕ) → f x ≡ None) → foremost measure (map f xs) ≡ None
unfolding foremost
foremost_none measure f [] none = refl
foremost_none measure f (x ∷ xs) none =
    ap (λ o. foremost measure (o ∷ map f xs)) (none x) ∙ foremost_none measure f xs none

pub truthless : (s : State) (c : Image) (array : ℕ) → ((place : ℕ) → super_in s c array place ≡ None) → truth_in s c array ≡ None
unfolding truth_in
truthless s c array none = foremost_none (λ t. t.events) (super_in s c array) (current_places s) none

-- disks have fewer than 2^48 sectors
abbrev pub AreSmall : Found → Type 0
AreSmall f = (place d : ℕ) → f.seats place ≡ Some d → f.disks.sectors d < 2 ^ 48

-- nothing stands past every disk
past_disks : (f : Found) (place s : ℕ) → AreSmall f → 2 ^ 48 ≤ s → drive_sector f place s ≡ []
past_disks f place s small far = by (f.seats place) refl
  where
    by : (o : Option ℕ) → f.seats place ≡ o → option_map_or (λ d. if nat_lt s (f.disks.sectors d) then f.contents d s else []) o [] ≡ []
    by None seat = refl
    by (Some d) seat =
        ap (λ (b : Bool). if b then f.contents d s else [])
        (le-ltb s (f.disks.sectors d) (let less = small place d seat in omega (arith, less, far)))

-- a place without a disk has no superblock
pub unseated_none : (f : Found) (array first place : ℕ) → array < 16 → f.seats place ≡ None → super_in f.state (slices_from f first) array place ≡ None
unseated_none f array first place low none =
    let same : place_of (member_slice place array) ≡ place = omega arith in
    nothing_in f.state (slices_from f first) array place
    (ap (λ o. option_map_or (λ d. if nat_lt (first + super_sector) (f.disks.sectors d) then f.contents d (first + super_sector) else []) o [])
    (ap f.seats same ∙ none))

far_truth : (f : Found) (array first : ℕ) → AreSmall f → 2 ^ 48 ≤ first → truth_from f array first ≡ None
far_truth f array first small far =
    truthless f.state (slices_from f first) array
    (λ place. nothing_in f.state (slices_from f first) array place
    (past_disks f (place_of (member_slice place array)) (first + super_sector) small (omega (arith, far))))

-- an array that has no truth where its slices begin has none, and the next ones begin nowhere
pub record IsUnknown (f : Found) (array : ℕ) : Type 0 where
  pub truth : truth_of f array ≡ None
  pub extent : extent_of f (suc array) ≡ None
  pub next : first_of f (suc array) ≡ None

no_extent : (f : Found) (array : ℕ) (o : Option ℕ) → ((first : ℕ) → o ≡ Some first → truth_from f array first ≡ None)
    → option_and_then (extent_from f array) o ≡ None
no_extent f array None none = refl
no_extent f array (Some first) none =
    ap (option_map (λ (t : Super). record { first = first; sectors = data_sector + t.size })) (none first refl)

no_next : (f : Found) (array : ℕ) (o : Option ℕ) → ((first : ℕ) → o ≡ Some first → truth_from f array first ≡ None)
    → option_and_then (λ first. option_map end_of (extent_from f array first)) o ≡ None
no_next f array None none = refl
no_next f array (Some first) none =
    ap (λ (o : Option Super). option_map end_of (option_map (λ (t : Super). record { first = first; sectors = data_sector + t.size }) o)) (none first refl)

pub unknown_by : (f : Found) (array : ℕ) → array < 16 → ((first : ℕ) → first_of f array ≡ Some first → truth_from f array first ≡ None) → IsUnknown f array
unfolding extent_of first_of
unknown_by f array low none =
    let extent : extent_of f (suc array) ≡ None = no_extent f array (first_of f array) none in
    record {
      truth =
          no_truth f array low extent
          ∙ truthless f.state (λ k s. []) array (λ place. nothing_in f.state (λ k s. []) array place refl);
      extent = extent;
      next = no_next f array (first_of f array) none;
    }

-- one whose slices would begin past every disk is such an array
pub unknown_far : (f : Found) (array : ℕ) → array < 16 → AreSmall f → IsNext f array None → IsUnknown f array
unknown_far f array low small next = unknown_by f array low (λ first begins. far_truth f array first small (next first begins))
