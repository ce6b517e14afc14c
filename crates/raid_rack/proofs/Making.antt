-- A new array is made, or isn't, once its members' entries are in the tables of their disks.
use Rattle.std.proofs.Common.{◌≡◌, ◌⊎◌, ℕ, ◌+◌, Bool, true, false, List, refl, sym, ap, subst, ◌∙◌, inl, arith}
use Rattle.rack.specs.Seen.{RackView, SameRack}
use Rattle.pool_state.specs.declared.contents.Work.TheVariants.{Make}
use Rattle.slice_rack.specs.declared.SliceRack.{SliceRack}
use Rattle.slice_rack.specs.SliceRack.{below_of, tables}
use Rattle.slice_rack.specs.Sliced.{slices_of}
use Rattle.slice_rack.specs.Slices.{Slices, seat_of as disk_at}
use Rattle.array_image.specs.States.{is_current}
use Rattle.array_core.specs.Pool.{Goes}
use Rattle.array_core.specs.Seats.{names}
use Rattle.array_core.proofs.LogWrites.{goes_then}
use Rattle.raid_laws.specs.Moves.{RaisesBy}
use Rattle.raid_laws.specs.NewDrive.{first_in}
use Rattle.raid_laws.specs.Raid.{Raid}
use Rattle.transition_laws.specs.Changes.{Change, makes}
use Rattle.growth_laws.specs.Growing.{GrowsBy, Lacks, reaching, views_of}
use Rattle.growth_laws.specs.Losses.{LosesBook}
use Rattle.growth_laws.specs.NewArrays.{new_size, new_view}
use Rattle.growth_laws.proofs.Layers.{first_still, reaching_still, size_still}
use Rattle.growth_laws.proofs.Steps.{FaultsRise, grows_behind, grows_nothing, grows_over}
use Rattle.raid_rack.specs.declared.arrays.Arrays.{Arrays}
use Rattle.raid_rack.specs.declared.arrays.RaidRack.{RaidRack}
use Rattle.raid_rack.specs.Growing.{CannotAdd, CannotEnter, CannotMake}
use Rattle.raid_rack.specs.RaidRack.{SliceRuns, raid_by, raid_in, slices_in, slices_seen}
use Rattle.raid_rack.proofs.Entered.{HasEntered}
use Rattle.raid_rack.proofs.Laid.{faults_rise, runs_goes, runs_stay}
use Rattle.raid_rack.proofs.LaidMembers.{LaysOnly, lays_faults}
use Rattle.raid_rack.proofs.Raises.{raises_more, raises_then}

-- a member's slice couldn't be entered or laid where it would lie
pub cannot_make : {R : Type 0} (seen : R → RackView) (runs : R → R → Type 0) (t : Slices) (r : R) (v w : Raid) (height place first sectors : ℕ) (members : List ℕ) → LosesBook v w
    → members ≡ reaching v height → first ≡ first_in (views_of v) v.state.made → sectors ≡ new_size v height + 2048 → names members place ≡ true → is_current w.state place ≡ true
    → CannotEnter seen runs t r place first sectors ⊎ CannotAdd t (seen r) place v.state.made first sectors → CannotMake seen runs t r w height
cannot_make seen runs t r v w height place first sectors members loses members_are first_is sectors_are among current cause =
    let made = sym loses.marks.same.made in
    let begin = first_is ∙ sym (first_still v w loses) in
    let long = sectors_are ∙ ap (λ size. size + 2048) (sym (size_still v w height loses)) in
    record {
      place = place;
      among = ap (λ ps. names ps place) (reaching_still v w height loses ∙ sym members_are) ∙ among;
      current = current;
      cause = subst (λ n. CannotEnter seen runs t r place (first_in (views_of w) w.state.made) (new_size w height + 2048)
          ⊎ CannotAdd t (seen r) place n (first_in (views_of w) w.state.made) (new_size w height + 2048)) made
          (subst (λ f. CannotEnter seen runs t r place f (new_size w height + 2048) ⊎ CannotAdd t (seen r) place v.state.made f (new_size w height + 2048)) begin
          (subst (λ s. CannotEnter seen runs t r place first s ⊎ CannotAdd t (seen r) place v.state.made first s) long cause));
    }

-- the change, by the book before the commit, and why it can't be done
abbrev pub making : (seconds height : ℕ) → Raid → Change
making seconds height mid = makes (new_view seconds mid height)

abbrev pub Refuses : {R : Type 0} → (R → RackView) → (R → R → Type 0) → RaidRack R → (n height : ℕ) → Raid → Raid → Type 0
Refuses seen runs p n height mid w = Lacks (Make n height) mid w ⊎ CannotMake seen runs (tables (slices_in p)) (below_of (slices_in p)) mid height

-- A rack of arrays p, after the entries, q, and once slices of the new array's number are laid, or taken away again, s.
module _ {R : Type 0} (seen : R → RackView) (runs : R → R → Type 0) (join : (r s u : R) → runs r s → runs s u → runs r u) (n height : ℕ) (p q s : RaidRack R)
    (entered : HasEntered seen runs 16 p q) (lays : LaysOnly seen (n + 1) q s) where
  -- it isn't made
  pub unmade : Refuses seen runs p n height (raid_in q) (raid_in q)
      → GrowsBy (making p.seconds height) (Refuses seen runs p n height) (raid_in p) (raid_in s) (slices_seen seen p) (slices_seen seen s) false
  unmade refused =
      let change = making p.seconds height in
      let L : Raid → Raid → Type 0 = Refuses seen runs p n height in
      let x = slices_seen seen p in
      let y = slices_seen seen q in
      let z = slices_seen seen s in
      subst (λ a. GrowsBy change L (raid_in p) (raid_by a) x z false) (sym lays.arrays)
      (grows_over change L L (raid_in p) (raid_in q) x y x z false (λ d. refl) (lays_faults seen (n + 1) q s lays) (λ mid w is. is)
      (grows_nothing change L (raid_in p) (raid_in q) x y entered.loses entered.caused entered.fit.heeded refused))

  module _ (b : Arrays) (r : SliceRack R) (ran : SliceRuns seen runs (slices_in s) r) where
    -- THE COMMIT IS A CHANGE OF THE BOOK BEFORE THE ENTRIES
    pub made_grows : (made answered : Bool) → made ≡ answered
        → GrowsBy (making s.seconds height) (Lacks (Make (raid_in s).state.made height)) (raid_in s) (raid_by b) (slices_seen seen s) (slices_of (tables r) (seen (below_of r))) made
        → GrowsBy (making p.seconds height) (Refuses seen runs p n height) (raid_in p) (raid_by b) (slices_seen seen p) (slices_of (tables r) (seen (below_of r))) answered
    made_grows made answered same grows =
        let change = making p.seconds height in
        let Less : Raid → Raid → Type 0 = Lacks (Make n height) in
        let More : Raid → Raid → Type 0 = Refuses seen runs p n height in
        let x = slices_seen seen p in
        let y = slices_seen seen q in
        let z = slices_of (tables r) (seen (below_of r)) in
        let stays : SameRack (seen (below_of (slices_in q))) (seen (below_of r)) =
        subst (λ k. SameRack (seen k) (seen (below_of r))) lays.below (runs_stay (tables (slices_in s)) (tables r) _ _ _ ran lays.fit) in
        let early : FaultsRise x y =
        faults_rise (tables (slices_in p)) (tables (slices_in q)) _ _ entered.goes.stays (λ place. ap (λ t. disk_at t place) entered.tables_are) in
        let late : FaultsRise y z = faults_rise (tables (slices_in q)) (tables r) _ _ stays (λ place. ap (λ t. disk_at t place) ran.tables ∙ lays.seats place) in
        let own : GrowsBy change Less (raid_in s) (raid_by b) (slices_seen seen s) z answered =
        subst (λ k. GrowsBy (making k height) Less (raid_in s) (raid_by b) (slices_seen seen s) z answered) (lays.seconds ∙ entered.seconds)
        (subst (λ k. GrowsBy (making s.seconds height) Less (raid_in s) (raid_by b) (slices_seen seen s) z k) same grows) in
        grows_behind change Less More (raid_in p) (raid_in q) (raid_by b) x y z answered early late entered.loses entered.caused (λ mid w is. inl is)
        (subst (λ a. GrowsBy change Less (raid_by a) (raid_by b) y z answered) lays.arrays
        (grows_over change Less Less (raid_in s) (raid_by b) (slices_seen seen s) z y z answered (λ d. sym (lays_faults seen (n + 1) q s lays d)) (λ d. refl) (λ mid w is. is) own))

    pub made_raises : RaisesBy 18 (raid_in s) (raid_by b) → RaisesBy 330 (raid_in p) (raid_by b)
    made_raises raises =
        raises_more 290 330 (raid_in p) (raid_by b) (omega arith)
        (raises_then 272 18 (raid_in p) (raid_in q) (raid_by b) entered.loses.marks.same.made entered.raises
        (subst (λ a. RaisesBy 18 (raid_by a) (raid_by b)) lays.arrays raises))

    pub made_seats : (place : ℕ) → disk_at (tables r) place ≡ disk_at (tables (slices_in p)) place
    made_seats place = ap (λ t. disk_at t place) ran.tables ∙ lays.seats place ∙ ap (λ t. disk_at t place) entered.tables_are

    pub made_goes : Goes (seen (below_of (slices_in p))) (seen (below_of r))
    made_goes =
        goes_then _ _ _ entered.goes
        (subst (λ k. Goes (seen k) (seen (below_of r))) lays.below (runs_goes (tables (slices_in s)) (tables r) _ _ _ ran lays.fit))

    pub made_runs : runs (below_of (slices_in p)) (below_of r)
    made_runs = join _ _ _ entered.below (subst (λ k. runs k (below_of r)) lays.below ran.below)
