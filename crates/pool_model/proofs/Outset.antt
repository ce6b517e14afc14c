-- A sound pool that disks had is one by which later moments go.
use Rattle.std.proofs.Common.{◌≡◌, ℕ, ◌≤◌, Option, Some, None, refl, sym, ap, ◌∙◌, inl, inr, arith}
use Rattle.std.specs.Option.{option_map_or}
use Rattle.std.proofs.lemmas.Bool.{cases_lt}
use Rattle.pool_state.specs.declared.contents.Copied.{Copied}
use Rattle.pool_state.specs.declared.contents.State.{State}
use Rattle.array_image.specs.States.{epoch_of}
use Rattle.log_laws.specs.Kept.{IsNoLater}
use Rattle.pool_scan.proofs.Valid.{valid_arrays, valid_places}
use Rattle.pool_image.specs.Drives.{Found}
use Rattle.pool_model.specs.InService.{HasSeat, IsArranged, IsOutset, epoch_at}
use Rattle.pool_model.specs.Pools.{IsSoundPool}
use Rattle.pool_model.proofs.Found.{IsFound, first_epoch, latest, valid}
use Rattle.pool_model.proofs.Named.{IsAhead, candidate_is, seat_ahead}

pub arranged_of : (f : Found) → IsOutset f → IsArranged f
arranged_of f outset = record {
  epoch = outset.epoch;
  places = outset.places;
  made = outset.made;
  joined = outset.joined;
  seated = λ p d seat. let one = outset.seated p d seat in (one.current, one.low);
  truths = outset.truths;
  own = outset.own;
}

pub no_later_epoch : (s : State) (copy : Copied) → IsNoLater s copy → copy.state.epoch ≤ s.epoch
no_later_epoch s copy is = elim is [
  | inl less ↦ omega (arith, less)
  | inr same ↦ (let epoch : copy.state.epoch ≡ s.epoch = ap (λ (z : State). z.epoch) same in omega (arith, epoch))
]

ahead_seat : (f : Found) → IsFound f → (p d : ℕ) → IsAhead f.state f.disks f.identities p d → HasSeat f p d
ahead_seat f is p d ahead = record {
  current = ahead.current;
  low = ahead.low;
  stands = ahead.stands;
  before = λ q less never stands.
      let early = ahead.before q (record { disk = q; epoch = epoch_at (f.identities q) }) less (candidate_is f.state f.identities p q stands) in
      let most : epoch_at (f.identities d) ≤ f.state.epoch = of (f.identities d).copied refl in
      omega (arith, early, most);
}
  where
    of : (o : Option Copied) → (f.identities d).copied ≡ o → option_map_or epoch_of o 0 ≤ f.state.epoch
    of None none = omega arith
    of (Some copy) some = latest f is d copy ahead.low some

-- a sound pool that disks had
pub outset_of : (f : Found) → IsFound f → IsSoundPool f → IsOutset f
outset_of f is sound =
    let one = valid f is in
    let arrays = valid_arrays f.state one.0 one.1 in
    record {
      epoch = first_epoch f is;
      places = (valid_places f.state one.0 one.1).1;
      made = (arrays.0, arrays.1);
      joined = (arrays.2, arrays.3);
      copies = λ d copy low here.
          let most = latest f is d copy low here in
          elim (cases_lt copy.state.epoch f.state.epoch) [
            | inl less ↦ inl less
            | inr from ↦ inr (sound.rules.copies d copy low here (omega (arith, most, from)))
          ];
      seated = λ p d seat. ahead_seat f is p d (seat_ahead f.state f.disks f.identities p d (sym (is.seats p) ∙ seat));
      truths = λ n low. let one = sound.rules.arrays n low in (one.0, one.1);
      own = sound.own;
    }
