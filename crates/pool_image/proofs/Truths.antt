-- The truth of an array is that of the slices where it was looked for, so the extents of slices are where slices lie.
use Rattle.std.proofs.Common.{◌≡◌, ℕ, suc, ◌+◌, ◌<◌, Bool, nat_lt, if◌then◌else◌, [], Some, None, ap, ◌∙◌, lt-ltb, arith, option_map}
use Rattle.std.specs.Option.{option_map_or, option_and_then}
use Rattle.md_super.specs.declared.superblock.Super.{Super}
use Rattle.array_image.specs.Places.{member_slice, super_sector, data_sector, slice_of}
use Rattle.array_image.specs.Supers.{truth_in}
use Rattle.array_image.proofs.Frames.{super_of_sector, truth_by_supers}
use Rattle.pool_image.specs.Replay.{Extent}
use Rattle.pool_image.specs.Drives.{Found, first_of, extent_of, extent_from, truth_from, slices_from, slices_of}

-- the number of a member's slice, and its place
pub slice_of_member : (place array : ℕ) → array < 16 → slice_of (member_slice place array) ≡ suc array
slice_of_member place array inside = omega arith

-- where the slices of an array lie
pub extent_found : (f : Found) (array first : ℕ) (t : Super)
    → first_of f array ≡ Some first
    → truth_from f array first ≡ Some t
    → extent_of f (suc array) ≡ Some (record { first = first; sectors = data_sector + t.size })
unfolding extent_of
extent_found f array first t begins is =
    ap (option_and_then (extent_from f array)) begins
    ∙ ap (option_map (λ (u : Super). record { first = first; sectors = data_sector + u.size })) is

-- a sector of a slice that lies there
pub slice_sector : (f : Found) (k s first sectors : ℕ)
    → extent_of f (slice_of k) ≡ Some (record { first = first; sectors = sectors })
    → s < sectors
    → slices_of f k s ≡ slices_from f first k s
unfolding slices_of
slice_sector f k s first sectors lies inside =
    ap (λ o. option_map_or (λ (e : Extent). if nat_lt s e.sectors then slices_from f e.first k s else []) o []) lies
    ∙ ap (λ (b : Bool). if b then slices_from f first k s else []) (lt-ltb s sectors inside)

-- where an array has a truth, that of all slices is the one that was found where its slices begin
pub truth_found : (f : Found) (array first : ℕ) (t : Super)
    → array < 16
    → first_of f array ≡ Some first
    → truth_from f array first ≡ Some t
    → truth_in f.state (slices_of f) array ≡ Some t
truth_found f array first t inside begins is =
    truth_by_supers f.state (slices_of f) (slices_from f first) array
    (λ place. super_of_sector f.state (slices_of f) (slices_from f first) array place
    (slice_sector f (member_slice place array) super_sector first (data_sector + t.size)
    (ap (extent_of f) (slice_of_member place array inside) ∙ extent_found f array first t begins is)
    (omega arith)))
    ∙ is

-- and where it has none there, it has none at all
pub no_truth : (f : Found) (array : ℕ)
    → array < 16
    → extent_of f (suc array) ≡ None
    → truth_in f.state (slices_of f) array ≡ truth_in f.state (λ k s. []) array
unfolding slices_of
no_truth f array inside none =
    truth_by_supers f.state (slices_of f) (λ k s. []) array
    (λ place. super_of_sector f.state (slices_of f) (λ k s. []) array place
    (ap (λ o. option_map_or (λ (e : Extent). if nat_lt super_sector e.sectors then slices_from f e.first (member_slice place array) super_sector else []) o [])
    (ap (extent_of f) (slice_of_member place array inside) ∙ none)))
