-- Superblocks as they are read from a sector of a disk.
use Rattle.std.proofs.Common.{◌≡◌, ℕ, ◌+◌, ◌<◌, ◌≤◌, ◌^◌, Bool, true, false, ◌||◌, ◌==◌, nat_lt, nat_le, is_ok, bytes_eq, if◌then◌else◌, [], length, Option, Some, None, refl, sym, ap, subst, ◌∙◌, inl, inr, lt-ltb, le-ltb, arith}
use Rattle.std.specs.Option.{option_map_or}
use Rattle.std.proofs.lemmas.Bool.{and_parts, cases_Bool, cases_lt, le-leb}
use Rattle.rack.specs.Seen.{RackView}
use Rattle.gpt_table.specs.Disk.{Contents}
use Rattle.md_super.specs.declared.superblock.Super.{Super}
use Rattle.md_super.specs.Profile.{profiled}
use Rattle.pool_state.specs.declared.contents.State.{State}
use Rattle.array_image.specs.Places.{array_id, member_slice, place_of, super_sector}
use Rattle.array_image.specs.Supers.{has_roles, has_whole_row, is_super_of, only_if, super_in, super_of}
use Rattle.array_core.specs.Model.{is_truth}
use Rattle.array_core.proofs.Truths.{valid_truth}
use Rattle.pool_image.specs.Disks.{Seats}
use Rattle.pool_image.specs.Drives.{slices_from}
use Rattle.pool_check.specs.Drives.{AreDrivesOf, Drives, IsFitState, found_with}
use Rattle.pool_check.specs.Layers.{is_usable, super_on}
use Rattle.pool_check.proofs.Begins.{no_super}

-- past the end of the disk there is none
pub super_past : (s : State) (array place sectors sector : ℕ) (contents : Contents) → sectors ≤ sector → None ≡ super_on s array place sectors sector contents
super_past s array place sectors sector contents past =
    let valid = only_if (is_super_of s.pool.0 s.extent (length s.drives.items) array place) in
    sym (ap (λ (b : Bool). valid (super_of (if b then contents sector else []))) (le-ltb sector sectors past) ∙ ap valid no_super)

pub super_there : (s : State) (array place sectors sector : ℕ) (contents : Contents) → sector < sectors
    → only_if (is_super_of s.pool.0 s.extent (length s.drives.items) array place) (super_of (contents sector)) ≡ super_on s array place sectors sector contents
super_there s array place sectors sector contents inside =
    sym (ap (λ (b : Bool). only_if (is_super_of s.pool.0 s.extent (length s.drives.items) array place) (super_of (if b then contents sector else [])))
    (lt-ltb sector sectors inside))

-- a valid superblock of a member's size is one that an array can go by
valid_usable : (s : State) (array place : ℕ) (t : Super) → IsFitState s
    → is_super_of s.pool.0 s.extent (length s.drives.items) array place t ≡ true → is_usable t ≡ true
valid_usable s array place t fit passes =
    let one = and_parts (is_ok (profiled t s.extent)) _ passes in
    let two = and_parts (bytes_eq t.set_id.0 (array_id s.pool.0 array)) _ one.1 in
    let three = and_parts (t.dev_number == place) _ two.1 in
    let four = and_parts (nat_lt 0 t.events) _ three.1 in
    let five = and_parts (nat_lt t.events (2 ^ 63)) _ four.1 in
    let six = and_parts (has_whole_row t) (has_roles (length s.drives.items) t) five.1 in
    elim (cases_lt t.size (2 ^ 48)) [
      | inl small ↦
          or_second (nat_le (2 ^ 48) t.size) (is_truth t)
          (valid_truth t fit.chunks (length s.drives.items) (subst (λ (n : ℕ). is_ok (profiled t n) ≡ true) fit.extent one.0) six.0 six.1 fit.few small)
      | inr far ↦ ap (λ b. b || is_truth t) (le-leb (2 ^ 48) t.size far)
    ]
  where
    or_second : (a b : Bool) → b ≡ true → (a || b) ≡ true
    or_second true b is = refl
    or_second false b is = is

pub usable_super : (s : State) (array place : ℕ) (o : Option Super) → IsFitState s
    → option_map_or is_usable (only_if (is_super_of s.pool.0 s.extent (length s.drives.items) array place) o) true ≡ true
usable_super s array place None fit = refl
usable_super s array place (Some t) fit =
    elim (cases_Bool (is_super_of s.pool.0 s.extent (length s.drives.items) array place t)) [
      | inl is ↦ ap (λ (b : Bool). option_map_or is_usable (if b then Some t else None) true) is ∙ valid_usable s array place t fit is
      | inr fails ↦ ap (λ (b : Bool). option_map_or is_usable (if b then Some t else None) true) fails
    ]

-- the superblock of a seated place is that of its disk's sector
pub super_seated : (x : RackView) (s : State) (seats : Seats) (o : Drives) (array first place d : ℕ) → array < 16 → seats place ≡ Some d
    → AreDrivesOf x seats o
    → super_on s array place (x.sectors d) (first + super_sector) (o.contents d) ≡ super_in s (slices_from (found_with s seats o) first) array place
super_seated x s seats o array first place d low seat are =
    let valid = only_if (is_super_of s.pool.0 s.extent (length s.drives.items) array place) in
    let same : place ≡ place_of (member_slice place array) = omega arith in
    let sector = first + super_sector in
    ap (λ n. valid (super_of (if nat_lt sector n then o.contents d sector else []))) (sym (are.sectors place d seat))
    ∙ ap (λ seat. valid (super_of (option_map_or (λ d. if nat_lt sector (o.disks.sectors d) then o.contents d sector else []) seat []))) (sym seat ∙ ap seats same)
