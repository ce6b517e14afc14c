-- An origin that says nothing of copies: so a promise can be kept over any changes of a book.
use Rattle.std.proofs.Common.{◌≡◌, ℕ, ◌^◌, ◌<◌, ◌&&◌, not, Bool, true, false, nat_lt, nat_le, if◌then◌else◌, List, [], ◌∷◌, Some, Ok, Err, refl, sym, ap, subst, ltb-true}
use Rattle.std.specs.List.{list_all}
use Rattle.std.specs.Result.{result_ok}
use Rattle.std.proofs.lemmas.Option.{none-some}
use Rattle.array_core.proofs.Stripped.{some_same}
use Rattle.std.proofs.lemmas.Bool.{both_ways, and_parts}
use Rattle.pool_state.specs.declared.contents.Copied.{Copied}
use Rattle.pool_state.specs.declared.contents.State.{State}
use Rattle.pool_state.specs.declared.contents.StateFault.TheVariants.{NotState, BadSum, BadField}
use Rattle.pool_state.specs.Sector.{copied_of, decoded, has_right_sum, is_canonical, is_state, is_well_formed}
use Rattle.pool_state.specs.Valid.{has_arrays, has_epoch, has_places, is_drive, is_extent, is_valid}
use Rattle.array_image.specs.States.{is_current}
use Rattle.raid_laws.specs.Raid.{Raid}
use Rattle.transition_laws.specs.Changes.{Change, changed}
use Rattle.transition_laws.specs.Holds.{IsFrom, Origin, Promise, taking}
use Rattle.transition_laws.specs.Makes.{AreOwned}

-- a copy's epoch is below the end of numbers
copy_epoch : (block : List ℕ) (copy : Copied) → decoded block ≡ Ok copy → copy.state.epoch < 2 ^ 63
copy_epoch block copy is = by_state (is_state block) (has_right_sum block) (is_well_formed block) refl (ap result_ok is)
  where
    few : is_well_formed block ≡ true → (copied_of block).state.epoch < 2 ^ 63
    few well =
        let s : State = (copied_of block).state in
        let own = (copied_of block).own in
        let valid : is_valid s own ≡ true = (and_parts (is_canonical block) (is_valid s own) well).1 in
        let rest = (and_parts (is_extent s.extent) (has_places s own && (has_arrays s && (list_all is_drive s.drives.items && has_epoch s))) valid).1 in
        let others = (and_parts (has_places s own) (has_arrays s && (list_all is_drive s.drives.items && has_epoch s)) rest).1 in
        let last = (and_parts (has_arrays s) (list_all is_drive s.drives.items && has_epoch s) others).1 in
        let epoch = (and_parts (list_all is_drive s.drives.items) (has_epoch s) last).1 in
        ltb-true s.epoch (2 ^ 63) (and_parts (nat_le 1 s.epoch) (nat_lt s.epoch (2 ^ 63)) epoch).1

    by_state : (a b d : Bool) → is_well_formed block ≡ d
        → result_ok (if not a then Err NotState else if not b then Err BadSum else if not d then Err BadField else Ok (copied_of block)) ≡ Some copy
        → copy.state.epoch < 2 ^ 63
    by_state false b d well is = absurd (none-some copy is)
    by_state true false d well is = absurd (none-some copy is)
    by_state true true false well is = absurd (none-some copy is)
    by_state true true true well is = subst (λ (k : Copied). k.state.epoch < 2 ^ 63) (some_same (copied_of block) copy is) (few well)

-- All places may have got other drives by a state that has none as current, and copies are of lower epochs.
abbrev pub any_origin : State → Origin
any_origin s = taking (λ q. true) (record s { epoch = 2 ^ 63 }) (record s { drives = record { items = [] } })

pub from_any : (s : State) (p : ℕ) (block : List ℕ) → IsFrom (any_origin s) p block
from_any s p block = record {
  own = λ old was. absurd (both_ways true old refl);
  joins = λ copy how now is. absurd (both_ways (is_current (record s { drives = record { items = [] } }) p) refl now);
  former = λ copy past never is. copy_epoch block copy is;
}

pub any_owned : (s : State) (p : Promise) (xs : List Change) (d : Raid) → p.origin ≡ any_origin s → AreOwned p xs d
any_owned s p [] d origin = tt
any_owned s p (x ∷ xs) d origin = (λ q u current is. subst (λ (o : Origin). IsFrom o q u) (sym origin) (from_any s q u), any_owned s p xs (changed x d) origin)
