-- An array that is filled sector by sector.
use Rattle.std.proofs.Common.{◌≡◌, ℕ, ◌+◌, ◌-◌, ◌≤◌, ◌==◌, nat_le, nat_lt, ◌&&◌, ◌||◌, Bool, true, false, if◌then◌else◌, List, refl, sym, ◌∙◌, ap, arith}
use Rattle.std.proofs.lemmas.Grind.{common_steps}
use Rattle.std.proofs.lemmas.Bool.Decides.{nat_tests}
use Rattle.rack.specs.Values.{Values, append}
use Rattle.flat_array.specs.Array.{FlatArray, written, filled}

-- a value is appended where all or the last one of some sectors have it
value_more :
    (all before here : Bool) (h : Values) (v : List ℕ)
    → all ≡ (before || here)
    → (before && here) ≡ false
    → (if all then append h v else h)
    ≡ (if here then append (if before then append h v else h) v else (if before then append h v else h))
value_more true true false h v either apart = refl
value_more true false true h v either apart = refl
value_more false false false h v either apart = refl
value_more all true true h v either apart = cc
value_more false true false h v either apart = cc
value_more false false true h v either apart = cc
value_more true false false h v either apart = cc

-- one sector more
up_to_next :
    (sector count s : ℕ)
    → (nat_le sector s && nat_lt s (sector + (count + 1)))
    ≡ ((nat_le sector s && nat_lt s (sector + count)) || (s == sector + count))
up_to_next sector count s = grind (arith, nat_tests, common_steps)

apart_from_next :
    (sector count s : ℕ) → ((nat_le sector s && nat_lt s (sector + count)) && (s == sector + count)) ≡ false
apart_from_next sector count s = grind (arith, nat_tests, common_steps)

pub filled_more :
    (a : FlatArray) (sector count : ℕ) (bytes : List ℕ)
    → filled a sector (count + 1) bytes ≡ written (filled a sector count bytes) (sector + count) bytes
filled_more a sector count bytes =
    λ k.
    record a {
      values =
          λ s.
          value_more
          (nat_le sector s && nat_lt s (sector + (count + 1)))
          (nat_le sector s && nat_lt s (sector + count))
          (s == sector + count)
          (a.values s) bytes
          (up_to_next sector count s)
          (apart_from_next sector count s)
          k;
    }

-- no sector
none_before : (sector s : ℕ) → (nat_le sector s && nat_lt s (sector + 0)) ≡ false
none_before sector s = grind (arith, nat_tests, common_steps)

pub filled_none : (a : FlatArray) (sector : ℕ) (bytes : List ℕ) → filled a sector 0 bytes ≡ a
filled_none a sector bytes =
    λ k.
    record a {
      values = λ s. ap (λ here. if here then append (a.values s) bytes else a.values s) (none_before sector s) k;
    }

-- the sectors up to one, and that one
pub filled_next :
    (a : FlatArray) (sector at : ℕ) (bytes : List ℕ)
    → sector ≤ at
    → written (filled a sector (at - sector) bytes) at bytes ≡ filled a sector (at + 1 - sector) bytes
filled_next a sector at bytes from =
    let one : at + 1 - sector ≡ (at - sector) + 1 = omega arith in
    let here : sector + (at - sector) ≡ at = omega arith in
    sym
    (ap (λ count. filled a sector count bytes) one
    ∙ (filled_more a sector (at - sector) bytes
    ∙ ap (λ s. written (filled a sector (at - sector) bytes) s bytes) here))
