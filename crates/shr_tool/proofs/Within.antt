-- What a stop inside an event leaves holds the pool by which the run goes.
use Rattle.std.proofs.Common.{◌≡◌, ℕ, ◌<◌, true, false, List, None, refl, inl, inr}
use Rattle.std.proofs.lemmas.Bool.{both_ways, cases_Bool}
use Rattle.flat_array.specs.Array.{FlatArray}
use Rattle.pool_image.specs.Drives.{Found}
use Rattle.pool_model.specs.Taken.{AreSerial}
use Rattle.array_image.specs.States.{is_current}
use Rattle.pool.specs.Calls.{CallFrame}
use Rattle.pool.specs.Continuing.{Continues}
use Rattle.pool.specs.Moment.{moment_of}
use Rattle.pool.specs.View.{View, book, slices_shown, spent_by}
use Rattle.pool.specs.Volume.{VolumeIs, size_of}
use Rattle.shr_tool.specs.Between.{HoldsWithin}
use Rattle.shr_tool.specs.Events.{Event, any_takes, takes_disk}
use Rattle.shr_tool.specs.Events.Event.{answered, spent, lost, last, replaced, declined, stepped, stuck, shown}
use Rattle.shr_tool.specs.Heads.{KeepsHeads}
use Rattle.shr_tool.specs.Service.{BeginsOn, GoesBy, IsServed}
use Rattle.shr_tool.specs.Serving.{IsServing}
use Rattle.shr_tool.specs.Timeline.{LineContract}
use Rattle.shr_tool.proofs.Between.{holds_inside}
use Rattle.shr_tool.proofs.GivingStops.{giving_amid}
use Rattle.shr_tool.proofs.LeavingStops.{declined_amid}
use Rattle.shr_tool.proofs.Serviced.{IsServedBy, served_first, served_last}
use Rattle.shr_tool.proofs.TakingStops.{taking_amid}

-- a sector can be had after one that takes a disk
served_some : (y z : View) (event : Event) → takes_disk event ≡ true → IsServedBy y z event → (s : ℕ) × (s < size_of y) × (spent_by y.linear (book z) s ≡ false)
served_some y z event takes (inl none) = absurd (both_ways (takes_disk event) none takes)
served_some y z event takes (inr some) = some

module _ {L G : Type 0} (x y z : View) (a b : FlatArray) (events : List Event) (text : List ℕ) (Serial : Type 0) (f : Found) (continues : Continues x y)
    (passes : any_takes events ≡ false → CallFrame x y) (heads : KeepsHeads (book x) (book y) (slices_shown x) (slices_shown y)) (serving : IsServing x a) (holds : VolumeIs y b) (begins : BeginsOn G x)
    (traced : x.bay.traced) (unspent : (d s : ℕ) → z.bay.spent d s ≡ false)
    (goes : IsServed (moment_of y) events → (any_takes events ≡ true → Serial) → GoesBy L None f y)
    (serials : IsServed (moment_of y) events → Serial → AreSerial f.state) where
  pub holds_within : (event : Event) → LineContract y z event text → HoldsWithin z.bay.stops Serial L G events f (moment_of y) (moment_of z) event
  holds_within (answered line) performs = holds_inside x y z a b events Serial f continues passes heads serving holds begins traced (performs.passes refl) goes
  holds_within (spent line sector) performs = holds_inside x y z a b events Serial f continues passes heads serving holds begins traced (performs.passes refl) goes
  holds_within (lost place) performs = holds_inside x y z a b events Serial f continues passes heads serving holds begins traced (performs.passes refl) goes
  holds_within (last place) performs = holds_inside x y z a b events Serial f continues passes heads serving holds begins traced (performs.passes refl) goes
  holds_within (replaced place name) performs = λ served serial lands fit waits lasts.
      let event = replaced place name in
      let before = served_first y z events event text performs served in
      let some = served_some y z event refl (served_last y z events event performs.continues.linear served) in
      let going = goes before (λ takes. serial) in
      let told = continues.proceeds.traced serving.0.shelf traced in
      elim (cases_Bool (is_current (book y).state place)) [
        | inl current ↦ giving_amid y z place name text b unspent continues.proceeds.fit performs holds some f going current fit waits (serials before serial) lands lasts told
        | inr missing ↦ taking_amid y z place name text b unspent continues.proceeds.fit performs holds some f going missing fit waits (serials before serial) lands lasts told
      ]
  holds_within (declined place name fault) performs = (
    λ none. holds_inside x y z a b events Serial f continues passes heads serving holds begins traced (performs.passes none) goes,
    λ looks served serial lands waits lasts.
        let event = declined place name fault in
        let before = served_first y z events event text performs served in
        declined_amid y z place name fault text b looks unspent continues.proceeds.fit performs holds (served_some y z event looks (served_last y z events event performs.continues.linear served)) f
        (goes before (λ takes. serial)) waits lands lasts (continues.proceeds.traced serving.0.shelf traced),
  )
  holds_within (stepped count left) performs = holds_inside x y z a b events Serial f continues passes heads serving holds begins traced (performs.passes refl) goes
  holds_within (stuck count array) performs = holds_inside x y z a b events Serial f continues passes heads serving holds begins traced (performs.passes refl) goes
  holds_within (shown words) performs = holds_inside x y z a b events Serial f continues passes heads serving holds begins traced (performs.passes refl) goes
