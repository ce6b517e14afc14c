-- The states of copies that a scan read are valid.
use Rattle.std.proofs.Common.{◌≡◌, ℕ, ◌<◌, ◌≤◌, true, ◌&&◌, nat_le, nat_lt, length, Option, Some, None, refl, subst, lt-ltb, leb-true, arith}
use Rattle.std.specs.Prelude.{List, slice_get}
use Rattle.std.specs.Int.{is_power_of_two}
use Rattle.std.specs.Option.{option_and_then}
use Rattle.std.proofs.lemmas.Bool.{and_parts, and_from}
use Rattle.std.proofs.lemmas.Option.{none-some}
use Rattle.rack.specs.Seen.{RackView}
use Rattle.pool_state.specs.declared.contents.State.{State}
use Rattle.pool_state.specs.Valid.{has_arrays, has_places, is_extent, is_valid, place_of}
use Rattle.pool_scan.specs.declared.Known.{Known}
use Rattle.pool_scan.specs.Scanning.{IsScan, IsValidCopy}
use Rattle.pool_scan.specs.Choosing.{HasCopyOf}

-- a state that is valid for one place is so for each of its list
pub valid_at : (s : State) (own other : ℕ) → is_valid s own ≡ true → other < length s.drives.items → is_valid s other ≡ true
valid_at s own other valid low =
    let one = and_parts (is_extent s.extent) _ valid in
    let two = and_parts (has_places s own) _ one.1 in
    let three = and_parts (nat_le 2 (length s.drives.items) && nat_le (length s.drives.items) 16) _ two.0 in
    let four = and_parts (nat_lt own (length s.drives.items)) (nat_lt (place_of s.plan) (length s.drives.items)) three.1 in
    and_from (is_extent s.extent) _ one.0
    (and_from (has_places s other) _
    (and_from _ _ three.0 (and_from (nat_lt other (length s.drives.items)) _ (lt-ltb other (length s.drives.items) low) four.1)) two.1)

pub valid_places : (s : State) (own : ℕ) → is_valid s own ≡ true → (2 ≤ length s.drives.items) × (length s.drives.items ≤ 16)
valid_places s own valid =
    let two = and_parts (has_places s own) _ (and_parts (is_extent s.extent) _ valid).1 in
    let three = and_parts (nat_le 2 (length s.drives.items) && nat_le (length s.drives.items) 16) _ two.0 in
    let four = and_parts (nat_le 2 (length s.drives.items)) (nat_le (length s.drives.items) 16) three.0 in
    (leb-true 2 (length s.drives.items) four.0, leb-true (length s.drives.items) 16 four.1)

pub valid_arrays : (s : State) (own : ℕ) → is_valid s own ≡ true → (1 ≤ s.made) × (s.made ≤ 16) × (1 ≤ s.joined) × (s.joined ≤ s.made)
valid_arrays s own valid =
    let two = and_parts (has_places s own) _ (and_parts (is_extent s.extent) _ valid).1 in
    let three = and_parts (has_arrays s) _ two.1 in
    let four = and_parts (nat_le 1 s.made && nat_le s.made 16) _ three.0 in
    let made = and_parts (nat_le 1 s.made) (nat_le s.made 16) four.0 in
    let five = and_parts (nat_le 1 s.joined) _ four.1 in
    let six = and_parts (nat_le s.joined s.made) _ five.1 in
    (leb-true 1 s.made made.0, leb-true s.made 16 made.1, leb-true 1 s.joined five.0, leb-true s.joined s.made six.0)

pub valid_extent : (s : State) (own : ℕ) → is_valid s own ≡ true → 128 ≤ s.extent
valid_extent s own valid =
    let one = and_parts (is_extent s.extent) _ valid in
    let two = and_parts (is_power_of_two s.extent) _ one.0 in
    leb-true 128 s.extent (and_parts (nat_le 128 s.extent) (nat_le s.extent 65536) two.1).0

-- so is that of a copy that was read
pub copy_valid : (a b : RackView) (known : List Known) (s : State) → IsScan a b known → HasCopyOf known s → is_valid s 0 ≡ true
copy_valid a b known s scan has = at (slice_get known has.disk) refl has.read
  where
    at : (o : Option Known) → slice_get known has.disk ≡ o → option_and_then (λ k. k.copied) o ≡ Some has.copy → is_valid s 0 ≡ true
    at None is read = absurd (none-some has.copy read)
    at (Some k) is read =
        let copy : IsValidCopy (Some has.copy) = subst IsValidCopy read (scan.each has.disk k is).valid in
        let valid : is_valid s has.copy.own ≡ true = subst (λ t. is_valid t has.copy.own ≡ true) has.state copy in
        let many = (valid_places s has.copy.own valid).0 in
        valid_at s has.copy.own 0 valid (omega (arith, many))
