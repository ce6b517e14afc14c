-- Which disks some events took, or tried to, and one event more; what an event leaves on the disk that it names.
use Rattle.std.proofs.Common.{◌≡◌, ℕ, ◌<◌, ◌||◌, Bool, true, false, List, [], ◌∷◌, ◌++◌, slice_get, Some, refl, ◌∙◌, ap, inl, inr}
use Rattle.std.proofs.lemmas.Bool.{both_ways, cases_Bool}
use Rattle.pool.specs.Moment.{moment_of}
use Rattle.pool.specs.Replaced.{ChangesDrive, TakesImage}
use Rattle.pool.specs.View.{View}
use Rattle.shr_tool.specs.Timeline.{Changes, KeepsNamed}
use Rattle.shr_tool.specs.Events.{AnyTakes, Event, Takes, any_takes, takes_disk}
use Rattle.shr_tool.specs.Events.Event.{answered, spent, lost, last, replaced, declined, stepped, stuck, shown}

takes_later :
    (old new : List (List ℕ)) → ((d : ℕ) (name : List ℕ) → slice_get old d ≡ Some name → slice_get new d ≡ Some name)
    → (event : Event) (d : ℕ) → Takes old event d → Takes new event d
takes_later old new same (answered line) d takes = takes
takes_later old new same (spent line sector) d takes = takes
takes_later old new same (lost place) d takes = takes
takes_later old new same (last place) d takes = takes
takes_later old new same (replaced place name) d takes = same d name takes
takes_later old new same (declined place name fault) d takes = same d name takes
takes_later old new same (stepped count left) d takes = takes
takes_later old new same (stuck count array) d takes = takes
takes_later old new same (shown text) d takes = takes

pub any_takes_before :
    (old new : List (List ℕ)) → ((d : ℕ) (name : List ℕ) → slice_get old d ≡ Some name → slice_get new d ≡ Some name)
    → (events : List Event) (event : Event) (d : ℕ) → AnyTakes old events d → AnyTakes new (events ++ event ∷ []) d
any_takes_before old new same [] event d takes = absurd takes
any_takes_before old new same (first ∷ events) event d (inl takes) = inl (takes_later old new same first d takes)
any_takes_before old new same (first ∷ events) event d (inr takes) = inr (any_takes_before old new same events event d takes)

pub any_takes_last : (names : List (List ℕ)) (events : List Event) (event : Event) (d : ℕ) → Takes names event d → AnyTakes names (events ++ event ∷ []) d
any_takes_last names [] event d takes = inl takes
any_takes_last names (first ∷ events) event d takes = inr (any_takes_last names events event d takes)

pub or_parts : (a b : Bool) → (a || b) ≡ false → (a ≡ false) × (b ≡ false)
or_parts false b none = (refl, none)
or_parts true b none = absurd (both_ways true none refl)

pub none_takes : (events : List Event) (event : Event) → any_takes (events ++ event ∷ []) ≡ false → (any_takes events ≡ false) × (takes_disk event ≡ false)
none_takes [] event none = (refl, (or_parts (takes_disk event) false none).0)
none_takes (first ∷ events) event none =
    let parts = or_parts (takes_disk first) (any_takes (events ++ event ∷ [])) none in
    let rest = none_takes events event parts.1 in
    (ap (λ b. b || any_takes events) parts.0 ∙ rest.0, rest.1)

-- one of them takes a disk, so one of all does
pub takes_first : (events : List Event) (event : Event) → any_takes events ≡ true → any_takes (events ++ event ∷ []) ≡ true
takes_first events event takes = elim (cases_Bool (any_takes (events ++ event ∷ []))) [
  | inl some ↦ some
  | inr none ↦ absurd (both_ways (any_takes events) (none_takes events event none).0 takes)
]

pub takes_last : (events : List Event) (event : Event) → takes_disk event ≡ true → any_takes (events ++ event ∷ []) ≡ true
takes_last events event takes = elim (cases_Bool (any_takes (events ++ event ∷ []))) [
  | inl some ↦ some
  | inr none ↦ absurd (both_ways (takes_disk event) (none_takes events event none).1 takes)
]

-- ---- what an event leaves

-- what a line leaves on the disk that it names
named_of : (x y : View) (place : ℕ) (name : List ℕ) → ChangesDrive x y place name → x.shelf.told → ((d : ℕ) → d < x.bay.disks → x.bay.told d)
    → TakesImage x.linear (moment_of x) (moment_of y) place name
named_of x y place name changes told all = record { names = changes.names; image = changes.image told all }

pub named_by : (x y : View) (event : Event) → Changes x y event → x.shelf.told → ((d : ℕ) → d < x.bay.disks → x.bay.told d)
    → KeepsNamed (moment_of x) (moment_of y) event
named_by x y (answered line) changes told all = tt
named_by x y (spent line sector) changes told all = tt
named_by x y (lost place) changes told all = tt
named_by x y (last place) changes told all = tt
named_by x y (replaced place name) changes told all = named_of x y place name changes.0 told all
named_by x y (declined place name fault) changes told all = named_of x y place name changes.0 told all
named_by x y (stepped count left) changes told all = tt
named_by x y (stuck count array) changes told all = tt
named_by x y (shown text) changes told all = tt
