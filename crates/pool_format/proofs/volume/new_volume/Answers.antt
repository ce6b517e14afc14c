use Rattle.std.proofs.Common.{◌≡◌, ◌<◌, ◌^◌, ℕ, List, Some, length, slice_get, slice_index, get_or, ap, ap₂, subst, sym, ◌∙◌, arith}
use Rattle.std.proofs.lemmas.List.{length-map}
use Rattle.slice_rack.specs.SliceRack.{tables, below_of}
use Rattle.array_model.specs.View.{View, sectors_of}
use Rattle.lvm_group.specs.Made.{new_volume}
use Rattle.lvm_group.specs.Shown.{total}
use Rattle.pool_state.specs.declared.contents.State.{State}
use Rattle.raid_rack.specs.RaidRack.{arrays_in, arrays_of, no_array, raid_in, slices_in}
use Rattle.pool_format.specs.declared.planning.NewArray.{NewArray}
use Rattle.pool_format.specs.Arrays.{new_views}
use Rattle.pool_format.proofs.Founded.{new_fit}
use Rattle.pool_format.proofs.Making.{sizes_are, total_small}
use Rattle.pool_format.proofs.volume.new_volume.Goals as goal

pub over-requires-clause-fit : goal.over-requires-clause-fit
over-requires-clause-fit g c =
    let raid = c.new_raid-raid.result in
    new_fit c.args.plan.now c.args.birth.now c.requires.plan (g.R.Rack.seen (below_of (slices_in raid))) (tables (slices_in raid)) (arrays_in raid) c.new_raid-raid.ensures.new
    c.new_raid-raid.ensures.fit (subst (λ r. (g.R.Rack.seen r).lasting) (sym c.new_raid-raid.ensures.below) c.requires.lasting)

pub over-requires-clause-small : goal.over-requires-clause-small
over-requires-clause-small g c =
    let new = c.new_raid-raid.ensures.new in
    let plan = c.args.plan.now in
    subst (λ (vs : List View). total (λ n. sectors_of (get_or vs n no_array)) (raid_in c.new_raid-raid.result).state.made < 2 ^ 52) (sym new.arrays)
    (subst (λ (s : State). total (λ n. sectors_of (get_or (new_views c.args.birth.now 0 plan.arrays.items) n no_array)) s.made < 2 ^ 52) (sym new.state)
    (total_small plan c.args.birth.now (g.R.Rack.seen c.args.rack) c.requires.plan c.requires.room
    (λ n v at. new.are n v (subst (λ (vs : List View). slice_get vs n ≡ Some v) (sym new.arrays) at))))

pub over-requires-clause-arrays : goal.over-requires-clause-arrays
over-requires-clause-arrays g c =
    let many = ap length c.requires.group.numbers_are ∙ length-map c.args.plan.now.arrays.items (λ (a : NewArray). a.extents) in
    let made = ap (λ (s : State). s.made) c.new_raid-raid.ensures.new.state in
    omega (arith, many, made)

pub over-requires-clause-sizes : goal.over-requires-clause-sizes
over-requires-clause-sizes g c = λ array below.
    let new = c.new_raid-raid.ensures.new in
    let plan = c.args.plan.now in
    let many = ap length c.requires.group.numbers_are ∙ length-map plan.arrays.items (λ (a : NewArray). a.extents) in
    ap (λ (vs : List View). sectors_of (get_or vs array no_array)) new.arrays
    ∙ sizes_are plan c.args.birth.now (g.R.Rack.seen c.args.rack) c.requires.plan c.requires.room
    (λ n v at. new.are n v (subst (λ (vs : List View). slice_get vs n ≡ Some v) (sym new.arrays) at)) array (omega (arith, below, many))
    ∙ ap (λ (sizes : List ℕ). slice_index sizes array) (sym c.requires.group.sectors_are)

pub returns-clause-below : goal.returns-clause-below
returns-clause-below g c = ap (λ r. below_of (slices_in r)) c.over.ensures.below ∙ c.new_raid-raid.ensures.below

pub returns-clause-volume : goal.returns-clause-volume
returns-clause-volume g c = c.over.ensures.volume ∙ ap₂ new_volume c.requires.group.extent_is c.requires.group.numbers_are

pub returns-clause-state : goal.returns-clause-state
returns-clause-state g c = ap (λ r. (raid_in r).state) c.over.ensures.below ∙ c.new_raid-raid.ensures.new.state

pub returns-clause-arrays : goal.returns-clause-arrays
returns-clause-arrays g c = ap arrays_of c.over.ensures.below ∙ c.new_raid-raid.ensures.new.arrays
