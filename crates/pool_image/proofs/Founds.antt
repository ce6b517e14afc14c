-- Two pools that say the same, whose drives hold the same but for gates, mean the same.
use Rattle.std.proofs.Common.{◌≡◌, ◌≢◌, ℕ, zero, suc, ◌+◌, ◌<◌, ◌≤◌, ◌&&◌, ◌||◌, not, Bool, true, false, nat_lt, bytes_eq, if◌then◌else◌, is_some, is_none, List, [], ◌∷◌, find, count_by, Option, Some, None, option_map, refl, ap, ap₂, ◌∙◌, arith, ltb-true}
use Rattle.std.specs.Option.{option_map_or, option_and_then, option_or}
use Rattle.std.specs.List.{list_all, range_with_len}
use Rattle.std.proofs.lemmas.Option.{none-some}
use Rattle.rack.specs.Seen.{Image}
use Rattle.gpt_table.specs.declared.Table.{Table}
use Rattle.md_super.specs.declared.superblock.Super.{Super}
use Rattle.array_image.specs.Places.{place_of, slice_of, member_slice, super_sector, data_sector, state_sector, arrays_first}
use Rattle.array_image.specs.Stripes.{sector_in}
use Rattle.array_image.specs.Arrays.{Shape, shape_in, layout_at, value_by, sectors_by}
use Rattle.array_image.specs.States.{current_places, id_of}
use Rattle.array_image.specs.Supers.{is_unclean, is_named, super_in, truth_in}
use Rattle.array_image.proofs.Frames.{SameSupers, super_of_sector, truth_by_supers, shape_by_supers, value_by_data}
use Rattle.pool_image.specs.Disks.{Disks, Identity}
use Rattle.pool_image.specs.Replay.{Extent}
use Rattle.pool_image.specs.Drives.{Found, end_of, extent_from, truth_from, slices_from, drive_sector, first_of, extent_of, slices_of}
use Rattle.pool_image.specs.Volumes.{first_bad, group_in, linear_of}
use Rattle.pool_image.specs.Meaning.{Part, Refusal, absent, damaged, too_few, dirty_degraded, bad_volume, arrays_of, truth_of, shape_of, super_at, is_member, has_slice, kind_of, has_table, has_log, has_supers, in_table, in_state, in_log, in_superblock, damage_on, damage_of, first_damaged, absent_count, lacking_of, is_too_few, is_dirty_degraded, arrays_held, array_sectors, joined_arrays, refused_by, volume_by, volumes_of}
use Rattle.pool_image.specs.Alike.{drive_gate, IsSamePool}

-- the table of a drive, by the extents of slices and the arrays that it is a member of
abbrev is_table_by : (ℕ → Option Extent) → (ℕ → Bool) → Option (List ℕ) → ℕ → ℕ → Table → Bool
is_table_by ext mem id made sectors table =
    option_map_or (bytes_eq table.disk_id.0) id false
    && (option_map_or (has_slice sectors table (0 + 1) (kind_of 0)) (ext 0) false
    && list_all (λ n. not (mem n) || option_map_or (has_slice sectors table (n + 1 + 1) (kind_of (n + 1))) (ext (n + 1)) false) (range_with_len 0 made))

-- whether a place is a member of arrays
abbrev member_by : ℕ → Found → ℕ → Bool
member_by p h n = is_member h n p

module _ (f g : Found) (same : IsSamePool f g) where
  -- a sector of a drive that is no gate
  drive_same : (p t : ℕ) → t ≢ drive_gate → drive_sector g p t ≡ drive_sector f p t
  drive_same p t no_gate =
      ap (λ o. option_map_or (λ d. if nat_lt t (g.disks.sectors d) then g.contents d t else []) o []) (same.seats p)
      ∙ ap (λ (disks : Disks). option_map_or (λ d. if nat_lt t (disks.sectors d) then g.contents d t else []) (f.seats p) []) same.disks
      ∙ of_seat (f.seats p) refl
    where
      of_test : (d : ℕ) → f.seats p ≡ Some d → (b : Bool) → nat_lt t (f.disks.sectors d) ≡ b → (if b then g.contents d t else []) ≡ (if b then f.contents d t else [])
      of_test d seat true within = same.contents p d t seat (ltb-true t (f.disks.sectors d) within) no_gate
      of_test d seat false past = refl

      of_seat : (o : Option ℕ) → f.seats p ≡ o
          → option_map_or (λ d. if nat_lt t (f.disks.sectors d) then g.contents d t else []) o [] ≡ option_map_or (λ d. if nat_lt t (f.disks.sectors d) then f.contents d t else []) o []
      of_seat None seat = refl
      of_seat (Some d) seat = of_test d seat (nat_lt t (f.disks.sectors d)) refl

  -- ---- extents

  truth_same : (array first : ℕ) → arrays_first ≤ first → truth_from g array first ≡ truth_from f array first
  truth_same array first behind =
      ap (λ s. truth_in s (slices_from g first) array) same.state
      ∙ truth_by_supers f.state (slices_from g first) (slices_from f first) array
      (λ place. super_of_sector f.state (slices_from g first) (slices_from f first) array place
      (drive_same (place_of (member_slice place array)) (first + super_sector) (λ is. absurd (omega (arith, is, behind)))))

  extent_same : (array first : ℕ) → arrays_first ≤ first → extent_from g array first ≡ extent_from f array first
  extent_same array first behind = ap (option_map (λ (t : Super). record { first = first; sectors = data_sector + t.size })) (truth_same array first behind)

-- an array's slices begin behind the log slice
pub first_behind : (f : Found) (n m : ℕ) → first_of f n ≡ Some m → arrays_first ≤ m
unfolding first_of
first_behind f zero m is = (let same : arrays_first ≡ m = ap (λ (o : Option ℕ). option_map_or (λ k. k) o 0) is in omega (arith, same))
first_behind f (suc n) m is = of_first (λ first has. first_behind f n first has) (first_of f n) refl is
  where
    of_truth : (first : ℕ) → arrays_first ≤ first → (o : Option Super)
        → option_map end_of (option_map (λ (t : Super). record { first = first; sectors = data_sector + t.size }) o) ≡ Some m → arrays_first ≤ m
    of_truth first behind None at = absurd (none-some m at)
    of_truth first behind (Some t) at = (let same : first + (data_sector + t.size) ≡ m = ap (λ (o : Option ℕ). option_map_or (λ k. k) o 0) at in omega (arith, same, behind))

    of_first : ((first : ℕ) → first_of f n ≡ Some first → arrays_first ≤ first)
        → (o : Option ℕ) → first_of f n ≡ o → option_and_then (λ first. option_map end_of (extent_from f n first)) o ≡ Some m → arrays_first ≤ m
    of_first lower None has at = absurd (none-some m at)
    of_first lower (Some first) has at = of_truth first (lower first has) (truth_from f n first) at

module _ (f g : Found) (same : IsSamePool f g) where
  first_same : (n : ℕ) → first_of g n ≡ first_of f n
  unfolding first_of
  first_same zero = refl
  first_same (suc n) = ap (option_and_then (λ first. option_map end_of (extent_from g n first))) (first_same n) ∙ of_first (first_of f n) refl
    where
      of_first : (o : Option ℕ) → first_of f n ≡ o
          → option_and_then (λ first. option_map end_of (extent_from g n first)) o ≡ option_and_then (λ first. option_map end_of (extent_from f n first)) o
      of_first None has = refl
      of_first (Some first) has = ap (option_map end_of) (extent_same f g same n first (first_behind f n first has))

  pub lies_same : (n : ℕ) → extent_of g n ≡ extent_of f n
  unfolding extent_of
  lies_same zero = refl
  lies_same (suc n) = ap (option_and_then (extent_from g n)) (first_same n) ∙ of_first (first_of f n) refl
    where
      of_first : (o : Option ℕ) → first_of f n ≡ o → option_and_then (extent_from g n) o ≡ option_and_then (extent_from f n) o
      of_first None has = refl
      of_first (Some first) has = extent_same f g same n first (first_behind f n first has)

-- where a slice begins
extent_first : (f : Found) (n : ℕ) (e : Extent) → extent_of f n ≡ Some e → state_sector ≤ e.first
unfolding extent_of
extent_first f zero e is = (let same : state_sector ≡ e.first = ap (λ (o : Option Extent). option_map_or (λ x. x.first) o 0) is in omega (arith, same))
extent_first f (suc n) e is = of_first (first_of f n) refl is
  where
    of_truth : (first : ℕ) → arrays_first ≤ first → (o : Option Super) → option_map (λ (t : Super). record { first = first; sectors = data_sector + t.size }) o ≡ Some e → state_sector ≤ e.first
    of_truth first behind None at = absurd (none-some e at)
    of_truth first behind (Some t) at = (let same : first ≡ e.first = ap (λ (o : Option Extent). option_map_or (λ x. x.first) o 0) at in omega (arith, same, behind))

    of_first : (o : Option ℕ) → first_of f n ≡ o → option_and_then (extent_from f n) o ≡ Some e → state_sector ≤ e.first
    of_first None has at = absurd (none-some e at)
    of_first (Some first) has at = of_truth first (first_behind f n first has) (truth_from f n first) at

module _ (f g : Found) (same : IsSamePool f g) where
  -- sectors of slices behind their second one
  pub slices_same : (k t : ℕ) → 1 < t → slices_of g k t ≡ slices_of f k t
  unfolding slices_of
  slices_same k t behind =
      ap (λ o. option_map_or (λ (e : Extent). if nat_lt t e.sectors then slices_from g e.first k t else []) o []) (lies_same f g same (slice_of k))
      ∙ of_extent (extent_of f (slice_of k)) refl
    where
      of_extent : (o : Option Extent) → extent_of f (slice_of k) ≡ o
          → option_map_or (λ (e : Extent). if nat_lt t e.sectors then slices_from g e.first k t else []) o []
          ≡ option_map_or (λ (e : Extent). if nat_lt t e.sectors then slices_from f e.first k t else []) o []
      of_extent None has = refl
      of_extent (Some e) has =
          ap (λ (v : List ℕ). if nat_lt t e.sectors then v else [])
          (drive_same f g same (place_of k) (e.first + t) (λ is. absurd (omega (arith, is, behind, extent_first f (slice_of k) e has))))

  pub supers_same : (n : ℕ) → SameSupers f.state n (slices_of g) (slices_of f)
  supers_same n place = super_of_sector f.state (slices_of g) (slices_of f) n place (slices_same (member_slice place n) super_sector (omega arith))

  pub truths_same : (n : ℕ) → truth_of g n ≡ truth_of f n
  truths_same n = ap (λ s. truth_in s (slices_of g) n) same.state ∙ truth_by_supers f.state (slices_of g) (slices_of f) n (supers_same n)

  pub shapes_same : (n : ℕ) → shape_of g n ≡ shape_of f n
  shapes_same n = ap (λ s. shape_in s (slices_of g) n) same.state ∙ shape_by_supers f.state (slices_of g) (slices_of f) n (supers_same n)

  pub super_same : (n place : ℕ) → super_at g n place ≡ super_at f n place
  super_same n place = ap (λ s. super_in s (slices_of g) n place) same.state ∙ supers_same n place

  value_same : (n x : ℕ) → arrays_held g n x ≡ arrays_held f n x
  value_same n x = ap (λ (o : Option Shape). option_map_or (λ shape. value_by shape (slices_of g) n x) o []) (shapes_same n) ∙ of_shape (shape_of f n)
    where
      of_shape : (o : Option Shape) → option_map_or (λ shape. value_by shape (slices_of g) n x) o [] ≡ option_map_or (λ shape. value_by shape (slices_of f) n x) o []
      of_shape None = refl
      of_shape (Some shape) =
          value_by_data shape (slices_of g) (slices_of f) n x
          (λ m among counts. slices_same (member_slice m.place n) (data_sector + sector_in (layout_at shape x) x) (omega arith))

  held_same : arrays_held g ≡ arrays_held f
  held_same = λ i n x. value_same n x i

  pub joined_same : joined_arrays g ≡ joined_arrays f
  joined_same =
      ap (λ s. record { pool = s.pool.0; extent = s.extent; joined = s.joined; sectors = array_sectors g; contents = arrays_held g }) same.state
      ∙ ap₂ (λ (sectors : ℕ → ℕ) (held : Image). record { pool = f.state.pool.0; extent = f.state.extent; joined = f.state.joined; sectors = sectors; contents = held })
      (λ i n. ap (λ (o : Option Shape). option_map_or sectors_by o 0) (shapes_same n) i) held_same

  -- ---- the refusal

  -- the parts of a seated disk
  damage_on_same : (p d : ℕ) → f.seats p ≡ Some d → damage_on g p d ≡ damage_on f p d
  damage_on_same p d seat =
      ap (λ b. if not b then Some in_table else if is_none (g.identities d).copied then Some in_state else if not (has_log g p) then Some in_log else if not (has_supers g p) then Some in_superblock else None) table
      ∙ ap (λ (id : Identity). if not (has_table f p d) then Some in_table else if is_none id.copied then Some in_state else if not (has_log g p) then Some in_log else if not (has_supers g p) then Some in_superblock else None) (same.identities p d seat)
      ∙ ap₂ (λ l b. if not (has_table f p d) then Some in_table else if is_none (f.identities d).copied then Some in_state else if not l then Some in_log else if not b then Some in_superblock else None) (same.logs p d seat) supers
    where
      extents : extent_of g ≡ extent_of f
      extents = λ i n. lies_same f g same n i

      members : member_by p g ≡ member_by p f
      members = λ i n. ap (λ (o : Option Super). option_map_or (λ t. is_named t p) o false) (truths_same n) i

      table : has_table g p d ≡ has_table f p d
      table =
          ap₂ (λ (disks : Disks) (id : Identity). option_map_or (λ t. is_table_by (extent_of g) (λ n. is_member g n p) (id_of g.state p) g.state.made (disks.sectors d) t) id.table false) same.disks (same.identities p d seat)
          ∙ ap₂ (λ (ext : ℕ → Option Extent) (mem : ℕ → Bool). option_map_or (λ t. is_table_by ext mem (id_of g.state p) g.state.made (f.disks.sectors d) t) (f.identities d).table false) extents members
          ∙ ap (λ s. option_map_or (λ t. is_table_by (extent_of f) (λ n. is_member f n p) (id_of s p) s.made (f.disks.sectors d) t) (f.identities d).table false) same.state

      supers : has_supers g p ≡ has_supers f p
      supers =
          ap₂ (λ (mem : ℕ → Bool) (own : ℕ → Option Super). list_all (λ n. not (mem n) || is_some (own n)) (arrays_of g)) members (λ i n. super_same n p i)
          ∙ ap (λ s. list_all (λ n. not (is_member f n p) || is_some (super_at f n p)) (range_with_len 0 s.made)) same.state

  pub damage_same : (p : ℕ) → damage_of g p ≡ damage_of f p
  unfolding damage_of
  damage_same p = ap (option_and_then (damage_on g p)) (same.seats p) ∙ of_seat (f.seats p) refl
    where
      of_seat : (o : Option ℕ) → f.seats p ≡ o → option_and_then (damage_on g p) o ≡ option_and_then (damage_on f p) o
      of_seat None seat = refl
      of_seat (Some d) seat = damage_on_same p d seat

  first_damaged_same : first_damaged g ≡ first_damaged f
  first_damaged_same =
      ap (λ (damage : ℕ → Option Part). option_and_then (λ place. option_map (damaged place) (damage place)) (find (λ place. is_some (damage place)) (current_places g.state))) (λ i p. damage_same p i)
      ∙ ap (λ s. option_and_then (λ place. option_map (damaged place) (damage_of f place)) (find (λ place. is_some (damage_of f place)) (current_places s))) same.state

  too_few_same : option_map too_few (find (is_too_few g) (arrays_of g)) ≡ option_map too_few (find (is_too_few f) (arrays_of f))
  too_few_same =
      ap (λ (shapes : ℕ → Option Shape). option_map too_few (find (λ n. option_map_or (λ shape. nat_lt 1 (lacking_of shape)) (shapes n) true) (arrays_of g))) (λ i n. shapes_same n i)
      ∙ ap (λ s. option_map too_few (find (is_too_few f) (range_with_len 0 s.made))) same.state

  dirty_same : option_map dirty_degraded (find (is_dirty_degraded g) (arrays_of g)) ≡ option_map dirty_degraded (find (is_dirty_degraded f) (arrays_of f))
  dirty_same =
      ap₂ (λ (shapes : ℕ → Option Shape) (truths : ℕ → Option Super). option_map dirty_degraded (find (λ n. nat_lt n g.state.joined && (option_map_or (λ shape. nat_lt 0 (lacking_of shape)) (shapes n) false && option_map_or is_unclean (truths n) false)) (arrays_of g)))
      (λ i n. shapes_same n i) (λ i n. truths_same n i)
      ∙ ap (λ s. option_map dirty_degraded (find (λ n. nat_lt n s.joined && (option_map_or (λ shape. nat_lt 0 (lacking_of shape)) (shape_of f n) false && option_map_or is_unclean (truth_of f n) false)) (range_with_len 0 s.made))) same.state

  absent_same : absent_count g ≡ absent_count f
  absent_same =
      ap (λ (seats : ℕ → Option ℕ). count_by (λ place. is_none (seats place)) (current_places g.state)) (λ i p. same.seats p i)
      ∙ ap (λ s. count_by (λ place. is_none (f.seats place)) (current_places s)) same.state

  pub refused_same : refused_by g ≡ refused_by f
  unfolding refused_by
  refused_same =
      ap₂ (λ (n : ℕ) (why : Option Refusal). if nat_lt 1 n then Some (absent n) else why) absent_same
      (ap₂ option_or first_damaged_same (ap₂ option_or too_few_same (ap₂ option_or dirty_same (ap (λ a. option_map bad_volume (first_bad a)) joined_same))))

  pub volumes_same : volumes_of g ≡ volumes_of f
  volumes_same = ap₂ (λ a (held : Image). option_map_or (λ group. volume_by (linear_of a group) held ∷ []) (group_in a) []) joined_same held_same
