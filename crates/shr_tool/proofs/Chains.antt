-- The pool by which a run goes after one event more.
use Rattle.std.proofs.Common.{◌≡◌, Bool, false, true, if◌then◌else◌, List, [], ◌∷◌, ◌++◌, refl, ap, subst}
use Rattle.std.proofs.lemmas.Bool.{both_ways}
use Rattle.pool_image.specs.Drives.{Found}
use Rattle.pool_model.specs.Taken.{attached}
use Rattle.pool.specs.Moment.{Moment}
use Rattle.shr_tool.specs.Events.{Event, any_takes, looks_at, takes_disk}
use Rattle.shr_tool.specs.Events.Event.{answered, spent, lost, last, replaced, declined, stepped, stuck, shown}
use Rattle.shr_tool.specs.Service.{AreFit, AreLone, IsFitFor, IsLoneFor, Lone, disks_at, pool_after, pool_by}
use Rattle.shr_tool.specs.Timeline.{Steps}
use Rattle.shr_tool.proofs.Taking.{or_parts}

abbrev pub steps_more : (p : Moment) (events : List Event) (mid : Moment) (event : Event) (q : Moment) → Steps p events mid → Steps p (events ++ event ∷ []) q
steps_more p [] mid event q same = (q, refl)
steps_more p (first ∷ events) mid event q steps = (steps.0, steps_more steps.0 events mid event q steps.1)

pub pool_by-snoc :
    (f : Found) (p : Moment) (events : List Event) (mid : Moment) (event : Event) (q : Moment) (steps : Steps p events mid)
    → pool_by f p (events ++ event ∷ []) q (steps_more p events mid event q steps) ≡ pool_after (pool_by f p events mid steps) mid q event
pool_by-snoc f p [] mid event q same = ap (λ m. pool_after f m q event) same
pool_by-snoc f p (first ∷ events) mid event q steps = pool_by-snoc (pool_after f p steps.0 first) steps.0 events mid event q steps.1

-- what is known of the disks of all is known of those of the first, and of the last one's
pub fit_parts :
    (f : Found) (p : Moment) (events : List Event) (mid : Moment) (event : Event) (q : Moment) (steps : Steps p events mid)
    → AreFit f p (events ++ event ∷ []) q (steps_more p events mid event q steps)
    → AreFit f p events mid steps × IsFitFor (pool_by f p events mid steps) mid event
fit_parts f p [] mid event q same fit = (tt, subst (λ m. IsFitFor f m event) same fit.0)
fit_parts f p (first ∷ events) mid event q steps fit =
    let rest = fit_parts (pool_after f p steps.0 first) steps.0 events mid event q steps.1 fit.1 in
    ((fit.0, rest.0), rest.1)

-- so it is of what is known so that it stands alone
pub lone_parts :
    (f : Found) (l : Lone) (p : Moment) (events : List Event) (mid : Moment) (event : Event) (q : Moment) (steps : Steps p events mid)
    → AreLone f l p (events ++ event ∷ []) q (steps_more p events mid event q steps)
    → AreLone f l p events mid steps × IsLoneFor (pool_by f p events mid steps) l mid q event
lone_parts f l p [] mid event q same lone = (tt, subst (λ m. IsLoneFor f l m q event) same lone.0)
lone_parts f l p (first ∷ events) mid event q steps lone =
    let rest = lone_parts (pool_after f p steps.0 first) l steps.0 events mid event q steps.1 lone.1 in
    ((lone.0, rest.0), rest.1)

-- an event that takes no disk leaves it, and nothing is to be known then
pub pool_still : (f : Found) (p q : Moment) (event : Event) → takes_disk event ≡ false → pool_after f p q event ≡ f
pool_still f p q (answered line) none = refl
pool_still f p q (spent line sector) none = refl
pool_still f p q (lost place) none = refl
pool_still f p q (last place) none = refl
pool_still f p q (replaced place name) none = absurd (both_ways true none refl)
pool_still f p q (declined place name fault) none = ap (λ (b : Bool). if b then attached f (disks_at q) else f) none
pool_still f p q (stepped count left) none = refl
pool_still f p q (stuck count array) none = refl
pool_still f p q (shown text) none = refl

fit_still : (f : Found) (p : Moment) (event : Event) → takes_disk event ≡ false → IsFitFor f p event
fit_still f p (answered line) none = tt
fit_still f p (spent line sector) none = tt
fit_still f p (lost place) none = tt
fit_still f p (last place) none = tt
fit_still f p (replaced place name) none = absurd (both_ways true none refl)
fit_still f p (declined place name fault) none = λ looks. absurd (both_ways (looks_at fault) none looks)
fit_still f p (stepped count left) none = tt
fit_still f p (stuck count array) none = tt
fit_still f p (shown text) none = tt

-- where none does nothing is to be known of a disk
pub none_fit : (f : Found) (p : Moment) (events : List Event) (q : Moment) (steps : Steps p events q) → any_takes events ≡ false → AreFit f p events q steps
none_fit f p [] q steps none = tt
none_fit f p (event ∷ events) q steps none =
    let parts = or_parts (takes_disk event) (any_takes events) none in
    (fit_still f p event parts.0, none_fit (pool_after f p steps.0 event) steps.0 events q steps.1 parts.1)
