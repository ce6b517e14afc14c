-- What a stop leaves while a new drive joins, once the record counts that brings the state with it, holds the pool with it.
use Rattle.std.proofs.Common.{◌≡◌, ℕ, true, Some, ◌∙◌}
use Rattle.rack.specs.Seen.{Image}
use Rattle.slice_rack.specs.Slices.{Slices}
use Rattle.pool_state.specs.declared.contents.State.{State}
use Rattle.array_image.specs.States.{is_current}
use Rattle.raid_laws.specs.Book.{OnlyMarksSince}
use Rattle.raid_laws.specs.Raid.{Raid}
use Rattle.pool_image.specs.Drives.{Found}
use Rattle.pool_model.specs.Laid.{IsCalledBy, ShowsJoining, ShowsParts}
use Rattle.pool_model.specs.Stopped.{RecoversInCall}
use Rattle.pool_model.proofs.JoiningStands.{joining_stands}
use Rattle.pool_model.proofs.Shown.{says_stopped, stood_between}

-- h is the pool with the drive, r the book that has it, and v the state before. A drive is left that the pool had.
pub joining_late : (h : Found) (u : Slices) (v : State) (r w : Raid) (place : ℕ) (i : Image) (is : IsCalledBy h u r) (parts : ShowsParts h u r w i)
    (left : (p : ℕ) × (is_current v p ≡ true) × (is_current w.state p ≡ true))
    → ShowsJoining (record h { identities = parts.said.identities }) u v r.state parts.logs.state place i → RecoversInCall h u r.state w.state i
joining_late h u v r w place i is parts left shows =
    let someone : (s : State) → OnlyMarksSince r.state s → OnlyMarksSince s w.state → (p d : ℕ) × (is_current s p ≡ true) × (h.seats p ≡ Some d) =
    λ s later sooner. (
    let now = sooner.current left.0 left.2 in
    let drive = shows.present left.0 (later.current left.0 now) in
    (left.0, drive.0, now, drive.1)) in
    let between =
    stood_between h u r w i is parts someone
    (joining_stands (record h { identities = parts.said.identities }) u v r.state parts.logs.state place i (says_stopped h u r w i is parts someone) shows) in
    record {
      between = between;
      present = λ p counts. let one = shows.present p (between.later.current p counts) in (one.0, between.still.seats p counts ∙ one.1);
    }
