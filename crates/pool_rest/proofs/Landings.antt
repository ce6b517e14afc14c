-- Where a record's targets land on the disks.
use Rattle.std.proofs.Common.{◌≡◌, ◌⊎◌, ℕ, ◌+◌, ◌-◌, ◌<◌, ◌≤◌, ◌==◌, ◌&&◌, ◌||◌, not, Bool, true, false, nat_lt, nat_le, bytes_eq, if◌then◌else◌, find, List, [], ◌∷◌, Option, Some, None, refl, sym, ap, ap₂, subst, ◌∙◌, inl, inr, arith, eq-eqb, eqb-true, ltb-true, leb-true, le-leb, add-one}
use Rattle.std.specs.Option.{option_or, option_and_then}
use Rattle.std.specs.List.{filter_map, cons_option, list_all}
use Rattle.std.proofs.lemmas.Bool.{cases_eq, both_ways, and_parts}
use Rattle.std.proofs.lemmas.Option.{none-some, cond_some}
use Rattle.rack.specs.Sequences.{IsPayload}
use Rattle.rack.specs.Targets.{Target, is_at, look}
use Rattle.gpt_table.specs.declared.Table.{Table}
use Rattle.gpt_table.specs.declared.Entry.{Entry}
use Rattle.pool_state.specs.declared.contents.State.{State}
use Rattle.array_image.specs.Places.{place_of, slice_of, log_slice, state_sector, log_sectors, arrays_first, raid_kind}
use Rattle.array_image.specs.Record.{is_target, are_apart}
use Rattle.pool_image.specs.Disks.{Disks, Identities, seat_of}
use Rattle.pool_image.specs.Replay.{Extent, slice_entry, extents_below, entry_extent, extent_by, landed}
use Rattle.commit_log.proofs.Story.{payload_is}
use Rattle.pool_rest.proofs.Extents.{extent_by_is, free_entry}

-- ---- targets that others come from

-- a target of a list, with what it has become
pub record IsFrom (f : Target → Option Target) (xs : List Target) (d t : ℕ) (v : List ℕ) : Type 0 where
  pub target : Target
  pub is_valid : is_target target ≡ true
  pub payload : IsPayload xs target.disk target.sector target.bytes
  pub gives : f target ≡ Some (record { disk = d; sector = t; bytes = v })

from_later : {f : Target → Option Target} {xs : List Target} {d t : ℕ} {v : List ℕ} (x : Target) → IsFrom f xs d t v → IsFrom f (x ∷ xs) d t v
from_later x is = record { target = is.target; is_valid = is.is_valid; payload = inr is.payload; gives = is.gives }

at_itself : (x : Target) → is_at x.disk x.sector x ≡ true
at_itself x = ap₂ (λ a b. a && b) (eq-eqb x.disk x.disk refl) (eq-eqb x.sector x.sector refl)

pub look_from : (f : Target → Option Target) (xs : List Target) (d t : ℕ) (v : List ℕ) → list_all is_target xs ≡ true
    → look (filter_map f xs) d t ≡ Some v → IsFrom f xs d t v
unfolding look
look_from f [] d t v valid is = absurd (none-some v is)
look_from f (x ∷ xs) d t v valid is =
    of_first (f x) refl (λ w later. look_from f xs d t w parts.1 later) is
  where
    parts : (is_target x ≡ true) × (list_all is_target xs ≡ true)
    parts = and_parts (is_target x) (list_all is_target xs) valid

    some_bytes : (k m : List ℕ) → Some k ≡ Some m → k ≡ m
    some_bytes k m same = (cc)

    of_later : (y : Target) → f x ≡ Some y → ((w : List ℕ) → look (filter_map f xs) d t ≡ Some w → IsFrom f xs d t w)
        → (o : Option (List ℕ)) → look (filter_map f xs) d t ≡ o → option_or o (if is_at d t y then Some y.bytes else None) ≡ Some v → IsFrom f (x ∷ xs) d t v
    of_later y gives rest (Some w) later at = subst (λ (u : List ℕ). IsFrom f (x ∷ xs) d t u) (some_bytes w v at) (from_later x (rest w later))
    of_later y gives rest None later at =
        let here = cond_some (is_at d t y) y.bytes v at in
        let both = and_parts (y.disk == d) (y.sector == t) here.0 in
        record {
          target = x;
          is_valid = parts.0;
          payload = inl (at_itself x, refl);
          gives =
              gives ∙ ap₂ (λ e s. Some (record { disk = e; sector = s; bytes = y.bytes })) (eqb-true y.disk d both.0) (eqb-true y.sector t both.1)
              ∙ ap (λ (u : List ℕ). Some (record { disk = d; sector = t; bytes = u })) here.1;
        }

    of_first : (o : Option Target) → f x ≡ o → ((w : List ℕ) → look (filter_map f xs) d t ≡ Some w → IsFrom f xs d t w)
        → look (cons_option o (filter_map f xs)) d t ≡ Some v → IsFrom f (x ∷ xs) d t v
    of_first None gives rest at = from_later x (rest v at)
    of_first (Some y) gives rest at = of_later y gives rest (look (filter_map f xs) d t) refl at

-- a target that lands somewhere is found there
pub look_lands : (f : Target → Option Target) (xs : List Target) (k s d t : ℕ) (u : List ℕ)
    → ((x : Target) → x.disk ≡ k → x.sector ≡ s → (v : List ℕ) × (f x ≡ Some (record { disk = d; sector = t; bytes = v })))
    → look xs k s ≡ Some u → look (filter_map f xs) d t ≡ None → ⊥
unfolding look
look_lands f [] k s d t u lands is none = none-some u is
look_lands f (x ∷ xs) k s d t u lands is none =
    of_look (λ w later. look_lands f xs k s d t w lands later (rest_none (f x) none)) (look xs k s) refl is
  where
    first_none : (y : Target) (o : Option (List ℕ)) → option_or o (if is_at d t y then Some y.bytes else None) ≡ None → o ≡ None
    first_none y None at = refl
    first_none y (Some w) at = absurd (none-some w (sym at))

    rest_none : (o : Option Target) → look (cons_option o (filter_map f xs)) d t ≡ None → look (filter_map f xs) d t ≡ None
    rest_none None at = at
    rest_none (Some y) at = first_none y (look (filter_map f xs) d t) at

    some_left : (v : List ℕ) (o : Option (List ℕ)) → option_or o (Some v) ≡ None → ⊥
    some_left v None at = none-some v (sym at)
    some_left v (Some w) at = none-some w (sym at)

    never : (v : List ℕ) → f x ≡ Some (record { disk = d; sector = t; bytes = v }) → ⊥
    never v gives =
        some_left v (look (filter_map f xs) d t)
        (sym (ap (λ b. option_or (look (filter_map f xs) d t) (if b then Some v else None)) (at_itself (record { disk = d; sector = t; bytes = v })))
        ∙ ap (λ (o : Option Target). look (cons_option o (filter_map f xs)) d t) (sym gives) ∙ none)

    of_look : ((w : List ℕ) → look xs k s ≡ Some w → ⊥)
        → (o : Option (List ℕ)) → look xs k s ≡ o → option_or o (if is_at k s x then Some x.bytes else None) ≡ Some u → ⊥
    of_look rest (Some w) later at = rest w later
    of_look rest None later at =
        let both = and_parts (x.disk == k) (x.sector == s) (cond_some (is_at k s x) x.bytes u at).0 in
        let there = lands x (eqb-true x.disk k both.0) (eqb-true x.sector s both.1) in
        never there.0 there.1

-- ---- where slices lie

-- a sector of a member's slice lies in the arrays' part of its disk
part_of_extent : (sectors : ℕ) (table : Option Table) (n k : ℕ) (e : Extent) → extent_by sectors table (n + 1) ≡ Some e → k < e.sectors
    → (arrays_first ≤ e.first + k) × (e.first + k + 33 < sectors)
unfolding extent_by
part_of_extent sectors None n k e is within = absurd (none-some e (sym (ap (extent_by sectors None) (add-one n)) ∙ is))
part_of_extent sectors (Some table) n k e is within =
    of_entry (find (λ e. e.number == n + 2) table.entries.items)
    (free_entry (extents_below sectors table n) (entry_extent sectors table n) e (sym (extent_by_is sectors table n) ∙ is))
  where
    of_entry : (o : Option Entry) → option_and_then (slice_entry sectors) o ≡ Some e → (arrays_first ≤ e.first + k) × (e.first + k + 33 < sectors)
    of_entry None at = absurd (none-some e at)
    of_entry (Some entry) at =
        let test = cond_some (bytes_eq entry.slice.kind.0 raid_kind && (nat_le arrays_first entry.slice.first && nat_lt (entry.slice.last + 33) sectors))
        (record { first = entry.slice.first; sectors = entry.slice.last + 1 - entry.slice.first }) e at in
        let parts = and_parts (nat_le arrays_first entry.slice.first) (nat_lt (entry.slice.last + 33) sectors) (and_parts (bytes_eq entry.slice.kind.0 raid_kind) _ test.0).1 in
        let behind = leb-true arrays_first entry.slice.first parts.0 in
        let before = ltb-true (entry.slice.last + 33) sectors parts.1 in
        let first : entry.slice.first ≡ e.first = ap (λ (x : Extent). x.first) test.1 in
        let size : entry.slice.last + 1 - entry.slice.first ≡ e.sectors = ap (λ (x : Extent). x.sectors) test.1 in
        (omega (arith, behind, first), omega (arith, before, first, size, within))

-- ---- targets of a record

-- a copy of a state that a record has for a place lands on its disk's sector for it
pub record IsCopyAt (disks : Disks) (i : Identities) (z : State) (xs : List Target) (d t : ℕ) (v : List ℕ) : Type 0 where
  pub place : ℕ
  pub sector : t ≡ state_sector
  pub room : arrays_first ≤ disks.sectors d
  pub seat : seat_of z disks i place ≡ Some d
  pub target : look xs (log_slice place) 0 ≡ Some v

-- a target on a slice of a disk
abbrev lying : Target → ℕ → Extent → Option Target
lying x e f = if nat_lt x.sector f.sectors then Some (record { disk = e; sector = f.first + x.sector; bytes = x.bytes }) else None

-- other targets land in the arrays' part
pub where_landed : (disks : Disks) (i : Identities) (z : State) (xs : List Target) → list_all is_target xs ≡ true → are_apart xs ≡ true
    → (d t : ℕ) (v : List ℕ) → look (filter_map (landed disks i (seat_of z disks i)) xs) d t ≡ Some v
    → IsCopyAt disks i z xs d t v ⊎ ((arrays_first ≤ t) × (t + 33 < disks.sectors d))
unfolding extent_by
where_landed disks i z xs valid apart d t v is = of_from (look_from (landed disks i (seat_of z disks i)) xs d t v valid is)
  where
    of_extent : (x : Target) → is_target x ≡ true → look xs x.disk x.sector ≡ Some x.bytes → (e : ℕ) → seat_of z disks i (place_of x.disk) ≡ Some e
        → (o : Option Extent) → extent_by (disks.sectors e) (i e).table (slice_of x.disk) ≡ o
        → option_and_then (lying x e) o
        ≡ Some (record { disk = d; sector = t; bytes = v })
        → IsCopyAt disks i z xs d t v ⊎ ((arrays_first ≤ t) × (t + 33 < disks.sectors d))
    of_extent x target has e seat None at same = absurd (none-some (record { disk = d; sector = t; bytes = v }) same)
    of_extent x target has e seat (Some f) at same =
        let test = cond_some (nat_lt x.sector f.sectors) (record { disk = e; sector = f.first + x.sector; bytes = x.bytes }) (record { disk = d; sector = t; bytes = v }) same in
        let disk : e ≡ d = ap (λ (y : Target). y.disk) test.1 in
        let sector : f.first + x.sector ≡ t = ap (λ (y : Target). y.sector) test.1 in
        let bytes : x.bytes ≡ v = ap (λ (y : Target). y.bytes) test.1 in
        let within : x.sector < f.sectors = ltb-true x.sector f.sectors test.0 in
        elim (cases_eq (slice_of x.disk) 0) [
          | inr member ↦
              let number : slice_of x.disk ≡ (slice_of x.disk - 1) + 1 = omega (arith, member) in
              let part = part_of_extent (disks.sectors e) (i e).table (slice_of x.disk - 1) x.sector f (ap (extent_by (disks.sectors e) (i e).table) (sym number) ∙ at) within in
              let size : disks.sectors e ≡ disks.sectors d = ap disks.sectors disk in
              inr (omega (arith, part.0, sector), omega (arith, part.1, sector, size))
          | inl log ↦
              let zero_sector : x.sector ≡ 0 = no_other x target log in
              let is_log : x.disk ≡ log_slice (place_of x.disk) = omega (arith, log) in
              let extent = of_log e f (ap (extent_by (disks.sectors e) (i e).table) (sym log) ∙ at) in
              inl (record {
                place = place_of x.disk;
                sector = omega (arith, sector, zero_sector, extent.0);
                room = (let long = extent.1 in let size : disks.sectors e ≡ disks.sectors d = ap disks.sectors disk in omega (arith, long, size));
                seat = seat ∙ ap Some disk;
                target = ap₂ (λ k s. look xs k s) (sym is_log) (sym zero_sector) ∙ has ∙ ap Some bytes;
              })
        ]
      where
        no_other : (x : Target) → is_target x ≡ true → slice_of x.disk ≡ 0 → x.sector ≡ 0
        no_other x target log =
            eqb-true x.sector 0
            (by (slice_of x.disk == 0) (eq-eqb (slice_of x.disk) 0 log) (and_parts (nat_lt x.disk 272) _ target).1)
          where
            by : (b : Bool) → b ≡ true → (not b || (x.sector == 0)) ≡ true → (x.sector == 0) ≡ true
            by true is at = at
            by false is at = absurd (both_ways false refl is)

        of_log : (e : ℕ) (f : Extent) → extent_by (disks.sectors e) (i e).table 0 ≡ Some f → (f.first ≡ state_sector) × (arrays_first ≤ disks.sectors e)
        of_log e f at =
            let test = cond_some (nat_le arrays_first (disks.sectors e)) (record { first = state_sector; sectors = log_sectors }) f at in
            (sym (ap (λ (x : Extent). x.first) test.1), leb-true arrays_first (disks.sectors e) test.0)

    of_seat : (x : Target) → is_target x ≡ true → look xs x.disk x.sector ≡ Some x.bytes → (o : Option ℕ) → seat_of z disks i (place_of x.disk) ≡ o
        → option_and_then (λ e. option_and_then (lying x e) (extent_by (disks.sectors e) (i e).table (slice_of x.disk))) o
        ≡ Some (record { disk = d; sector = t; bytes = v })
        → IsCopyAt disks i z xs d t v ⊎ ((arrays_first ≤ t) × (t + 33 < disks.sectors d))
    of_seat x target has None seat same = absurd (none-some (record { disk = d; sector = t; bytes = v }) same)
    of_seat x target has (Some e) seat same = of_extent x target has e seat (extent_by (disks.sectors e) (i e).table (slice_of x.disk)) refl same

    of_from : IsFrom (landed disks i (seat_of z disks i)) xs d t v → IsCopyAt disks i z xs d t v ⊎ ((arrays_first ≤ t) × (t + 33 < disks.sectors d))
    of_from from =
        of_seat from.target from.is_valid (payload_is xs from.target.disk from.target.sector from.target.bytes apart from.payload)
        (seat_of z disks i (place_of from.target.disk)) refl from.gives

-- where the record has a copy for a place with a log slice, it lands
pub copy_lands : (disks : Disks) (i : Identities) (z : State) (xs : List Target) (p d : ℕ) (u : List ℕ)
    → seat_of z disks i p ≡ Some d → arrays_first ≤ disks.sectors d → look xs (log_slice p) 0 ≡ Some u
    → look (filter_map (landed disks i (seat_of z disks i)) xs) d state_sector ≡ None → ⊥
unfolding extent_by
copy_lands disks i z xs p d u seat room has =
    look_lands (landed disks i (seat_of z disks i)) xs (log_slice p) 0 d state_sector u (λ x disk sector. (x.bytes, lands x disk sector)) has
  where
    lands : (x : Target) → x.disk ≡ log_slice p → x.sector ≡ 0 → landed disks i (seat_of z disks i) x ≡ Some (record { disk = d; sector = state_sector; bytes = x.bytes })
    lands x disk sector =
        let of_place : place_of x.disk ≡ p = omega (arith, disk) in
        let of_slice : slice_of x.disk ≡ 0 = omega (arith, disk) in
        ap (λ (o : Option ℕ). option_and_then (λ e. option_and_then (lying x e) (extent_by (disks.sectors e) (i e).table (slice_of x.disk))) o)
        (ap (seat_of z disks i) of_place ∙ seat)
        ∙ ap (λ k. option_and_then (lying x d) (extent_by (disks.sectors d) (i d).table k)) of_slice
        ∙ ap (λ (b : Bool). option_and_then (lying x d) (if b then Some (record { first = state_sector; sectors = log_sectors }) else None)) (le-leb arrays_first (disks.sectors d) room)
        ∙ ap (λ s. if nat_lt s log_sectors then Some (record { disk = d; sector = state_sector + s; bytes = x.bytes }) else None) sector
