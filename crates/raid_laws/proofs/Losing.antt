-- Arrays of which nothing has changed but whom they lost, their events and their marks.
use Rattle.std.proofs.Common.{◌≡◌, ◌⊎◌, ℕ, Bool, true, false, if◌then◌else◌, List, slice_get, Option, Some, None, option_map, refl, sym, subst, inl, inr}
use Rattle.rack.specs.Seen.{RackView}
use Rattle.array_model.specs.declared.Seat.{Seat}
use Rattle.array_model.specs.declared.Seat.TheVariants.{Missing}
use Rattle.array_model.specs.View.{View, HasGeometry, IsArray, place_at}
use Rattle.array_model.specs.Members.{Notes}
use Rattle.array_model.proofs.Views.{same_geometry}
use Rattle.array_core.specs.Seats.{names, gone, heeded}
use Rattle.raid_laws.specs.Moves.{OnlyFailures}
use Rattle.raid_laws.proofs.Seated.{gone_lost}

-- a seat after losses
pub lost_seat : (lost : Bool) (o p : Option Seat) → p ≡ option_map (λ seat. if lost then Missing else seat) o → (p ≡ o) ⊎ (p ≡ Some Missing)
lost_seat lost None p is = inl is
lost_seat true (Some seat) p is = inr is
lost_seat false (Some seat) p is = inl is

pub only_notes : (u w : View) (a b : RackView) → Notes u w a b → OnlyFailures u w
only_notes u w a b notes = record {
  same = record {
    number = notes.same.number;
    geometry = subst (HasGeometry u.truth) (sym notes.same.truth) (same_geometry u.truth);
    devices = notes.same.devices;
    resync = notes.same.resync;
    young = notes.same.young;
  };
  seats = λ k. lost_seat (notes.lost (place_at u k)) (slice_get u.seats k) (slice_get w.seats k) (notes.loses.seats k);
}

pub only_gone : (u w : View) (lost : List ℕ) → IsArray u → w ≡ gone lost u → OnlyFailures u w
only_gone u w lost is_array same =
    subst (OnlyFailures u) (sym same)
    (record {
      same = record { number = refl; geometry = same_geometry u.truth; devices = refl; resync = refl; young = refl };
      seats = λ k. lost_seat (names lost (place_at u k)) (slice_get u.seats k) (slice_get (gone lost u).seats k) (gone_lost u lost is_array k);
    })

pub only_heeded : (u w : View) → w ≡ heeded u → OnlyFailures u w
only_heeded u w same =
    subst (OnlyFailures u) (sym same)
    (record {
      same = record { number = refl; geometry = same_geometry u.truth; devices = refl; resync = refl; young = refl };
      seats = λ k. inl refl;
    })
