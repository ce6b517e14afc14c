-- Reading and writing a list of locations one after the other, as a loop does.
use Rattle.std.proofs.Common.{◌≡◌, ℕ, zero, suc, ◌-◌, ◌+◌, ◌*◌, take, get_or, ◌≤◌, ◌<◌, true, false, eqb, List, [], ◌∷◌, ◌++◌, length, drop, Option, Some, None, option_map, refl, sym, ap, ◌∙◌, append_assoc, arith}
use Rattle.std.proofs.lemmas.List.{append-nil, length-append, length-take-le, take_more}
use Rattle.std.proofs.lemmas.List.Concat.{flat_map-append}
use Rattle.std.specs.List.{flat_map}
use Rattle.lvm_label.specs.Fields.{number_at}
use Rattle.lvm_label.specs.Header.{locations_at, location_at, location_bytes, before}
use Rattle.lvm_label.specs.declared.header.Location.{Location}

-- what was read before, and what is still read
abbrev pub with_front : List Location → Option (List Location) → Option (List Location)
with_front front read = option_map (λ (x : List Location). front ++ x) read

regroup : (front : List Location) (location : Location) (read : Option (List Location)) → with_front front (before location read) ≡ with_front (front ++ location ∷ []) read
regroup front location (Some x) = ap Some (simp append_assoc)
regroup front location None = refl

pub locations_at-end : (room : ℕ) (bytes : List ℕ) → eqb (number_at 8 0 bytes) 0 ≡ true → locations_at room bytes ≡ Some []
unfolding locations_at
locations_at-end zero bytes e = rw e refl
locations_at-end (suc room) bytes e = rw e refl

locations_at-full : (bytes : List ℕ) → eqb (number_at 8 0 bytes) 0 ≡ false → locations_at 0 bytes ≡ None
unfolding locations_at
locations_at-full bytes e = rw e refl

pub locations_at-more : (room : ℕ) (bytes : List ℕ) → eqb (number_at 8 0 bytes) 0 ≡ false → locations_at (suc room) bytes ≡ before (location_at bytes) (locations_at room (drop 24 bytes))
unfolding locations_at
locations_at-more room bytes e = rw e refl

pub ends : (front : List Location) (bytes : List ℕ) (total : Option (List Location)) → eqb (number_at 8 0 bytes) 0 ≡ true
    → with_front front (locations_at (4 - length front) bytes) ≡ total → Some front ≡ total
ends front bytes total done so_far =
    ap Some (sym (append-nil front)) ∙ ap (with_front front) (sym (locations_at-end (4 - length front) bytes done)) ∙ so_far

pub is_full : (front : List Location) (bytes : List ℕ) (total : Option (List Location)) → eqb (number_at 8 0 bytes) 0 ≡ false → length front ≡ 4
    → with_front front (locations_at (4 - length front) bytes) ≡ total → None ≡ total
is_full front bytes total more full so_far =
    let k : 4 - length front ≡ 0 = omega arith in
    ap (with_front front) (sym (ap (λ (n : ℕ). locations_at n bytes) k ∙ locations_at-full bytes more)) ∙ so_far

pub goes_on : (front now : List Location) (location : Location) (bytes rest : List ℕ) (total : Option (List Location)) → location ≡ location_at bytes → rest ≡ drop 24 bytes → now ≡ front ++ location ∷ []
    → eqb (number_at 8 0 bytes) 0 ≡ false → length front < 4
    → with_front front (locations_at (4 - length front) bytes) ≡ total → with_front now (locations_at (4 - length now) rest) ≡ total
goes_on front now location bytes rest total is after pushed more room so_far =
    let appended : now ≡ front ++ location_at bytes ∷ [] = pushed ∙ ap (λ (a : Location). front ++ a ∷ []) is in
    let len : length now ≡ length front + 1 = ap length appended ∙ length-append front (location_at bytes ∷ []) in
    let k : 4 - length front ≡ suc (4 - (length front + 1)) = omega arith in
    rw (len, after, appended) (
    sym (regroup front (location_at bytes) (locations_at (4 - (length front + 1)) (drop 24 bytes)))
    ∙ ap (with_front front) (sym (ap (λ (n : ℕ). locations_at n bytes) k ∙ locations_at-more (4 - (length front + 1)) bytes more))
    ∙ so_far)

-- ---- writing

pub length-location_bytes : (location : Location) → length (location_bytes location) ≡ 24
unfolding location_bytes
length-location_bytes location = refl

pub length-locations : (locations : List Location) → length (flat_map location_bytes locations) ≡ 24 * length locations
length-locations [] = refl
length-locations (location ∷ locations) =
    omega (arith, length-append (location_bytes location) (flat_map location_bytes locations), length-locations locations, length-location_bytes location)

pub locations_more : (locations : List Location) (i : ℕ) (d : Location) (bytes : List ℕ) → i < length locations → bytes ≡ location_bytes (get_or locations i d) → flat_map location_bytes (take (i + 1) locations) ≡ flat_map location_bytes (take i locations) ++ bytes
locations_more locations i d bytes h is =
    ap (flat_map location_bytes) (take_more locations i d h) ∙ flat_map-append location_bytes (take i locations) (get_or locations i d ∷ [])
    ∙ ap (λ (t : List ℕ). flat_map location_bytes (take i locations) ++ t) (append-nil (location_bytes (get_or locations i d)) ∙ sym is)

pub length-locations_below : (locations : List Location) (i at : ℕ) (text : List ℕ) → i ≤ length locations → length text ≡ at → length (text ++ flat_map location_bytes (take i locations)) ≡ at + 24 * i
length-locations_below locations i at text h long =
    omega (arith, length-append text (flat_map location_bytes (take i locations)), length-locations (take i locations), length-take-le i locations h)
