-- The volume's extension is tried: what the calls of the arrays below it keep, and what it asks for.
use Rattle.std.proofs.Common.{◌≡◌, ℕ, ◌^◌, ◌≤◌, false, List, Err, refl, ap, ◌∙◌, inl, arith}
use Rattle.rack.specs.Seen.{RackView}
use Rattle.rack.specs.Several.{Several}
use Rattle.rack.specs.Shelf.{Shelf}
use Rattle.slice_rack.specs.Slices.{seat_of}
use Rattle.slice_rack.specs.SliceRack.{tables}
use Rattle.growth_laws.specs.Losses.{LosesBook}
use Rattle.growth_laws.proofs.Losing.{as_long}
use Rattle.lvm_group.specs.Runs.{Linear}
use Rattle.lvm_group.specs.Volume.{linear, most_extended}
use Rattle.growth_plan.specs.Target.{targets}
use Rattle.growth_plan.specs.declared.Progress.{Progress}
use Rattle.pool_state.specs.declared.contents.State.{State}
use Rattle.pool_state.specs.declared.contents.Work.TheVariants.{Extend}
use Rattle.raid_laws.specs.Raid.{Raid}
use Rattle.raid_rack.specs.AllRuns.{AreRuns, IsOneCall}
use Rattle.raid_rack.specs.RaidRack.{raid_in}
use Rattle.raid_rack.specs.declared.arrays.RaidRack.{RaidRack}
use Rattle.raid_rack.proofs.Raises.{several_raise}
use Rattle.pool.specs.declared.Pool.{Pool}
use Rattle.pool.specs.Growing.{KeepsGrowing, TriesWork, can_extend, target_of}
use Rattle.pool.specs.View.{View, arrays_of, bay_in, book, view, volume}
use Rattle.pool.specs.Works.{progress_by}
use Rattle.pool.proofs.Serving.{KeepNames}
use Rattle.pool.proofs.Grows.{goes_of, keeps_by, keeps_more, keeps_none}

-- what the arrays say of calls that they serve
pub loses_by : {R : Type 0} (seen : R → RackView) (runs : R → R → Type 0) (old new : RaidRack R) → AreRuns seen runs old new → LosesBook (raid_in old) (raid_in new)
loses_by seen runs old new ran = record { marks = ran.1.book; plan = ran.2.plan; arrays = ran.2.arrays; number = ran.1.number; events = ran.1.events }

pub volume_grows : {R : Type 0} (seen : R → RackView) (shelf : R → Shelf) (runs : R → R → Type 0) (names : KeepNames shelf runs) (p q : Pool R) (n : ℕ) → (volume (view seen shelf p)).fit
    → (volume (view seen shelf q)).fit → AreRuns seen runs (arrays_of p) (arrays_of q) → n ≤ 16
    → Several (λ a b. IsOneCall (raid_in a) (raid_in b)) (most_extended n) (arrays_of p) (arrays_of q) → KeepsGrowing 1 (view seen shelf p) (view seen shelf q)
volume_grows seen shelf runs names p q n fit after ran few several =
    let x = view seen shelf p in
    let y = view seen shelf q in
    keeps_by x y fit after (as_long (book x) (book y) ran.1.book.same.made (λ k low. ran.2.sectors k)) (λ place. ap (λ t. seat_of t place) ran.0.tables)
    (goes_of (ran.0.apart fit.0.running.set.fit.0 fit.0.running.set.fit.1)) (names (bay_in p) (bay_in q) ran.0.below) ran.1.caused (2 ^ 20) (omega arith)
    (several_raise (most_extended n) (2 ^ 20) (arrays_of p) (arrays_of q) (omega (arith, few)) several)

-- what the arrays offer is what is asked for
pub numbers_are : (l : Linear) (v : Raid) (s : State) (p : Progress) (numbers : List ℕ) → s ≡ v.state → p ≡ progress_by l v → numbers ≡ targets s p.arrays.items → numbers ≡ target_of v
numbers_are l v s p numbers state progress is =
    is ∙ ap (λ (k : State). targets k p.arrays.items) state ∙ ap (λ (k : Progress). targets v.state k.arrays.items) progress

-- it can't be extended, and nothing is called
pub extend_refused : (x : View) (runs : x.bays.one → x.bays.one → Type 0) (bay : x.bays.one) → (volume x).fit → can_extend x.linear (book x) (target_of (book x)) ≡ false
    → TriesWork Extend x x runs bay (Err (record { array = 0 }))
extend_refused x runs bay fit is = record { keeps = keeps_more 0 1 x x (omega arith) (keeps_none x fit); done = tt; stuck = (refl, inl (is, refl, refl)) }
