use Rattle.std.proofs.Common.{◌≡◌, ℕ, List, [], ◌∷◌, true, false, get_or, length, eq-eqb, refl, ap, sym, subst, ◌∙◌, ◌||◌, arith}
use Rattle.std.proofs.lemmas.Bool.{both_ways}
use Rattle.std.proofs.lemmas.Option.{slice_get-get_or}
use Rattle.arrayvec.specs.ArrayVec.{with_items}
use Rattle.rack.specs.Targets.{Target}
use Rattle.pool_state.specs.Valid.{is_valid}
use Rattle.pool_state.specs.declared.contents.Plan.{Plan}
use Rattle.pool_state.specs.declared.contents.Plan.TheVariants.{Add}
use Rattle.pool_state.specs.declared.contents.State.{State}
use Rattle.array_image.specs.States.{is_current}
use Rattle.log_laws.specs.View.{LogView, names}
use Rattle.array_core.specs.Seats.{gone as without}
use Rattle.raid_laws.specs.Losses.{AddsCopies}
use Rattle.raid_laws.proofs.Added.{names_current}
use Rattle.transition_laws.specs.Changes.{enlisted}
use Rattle.growth_laws.specs.NewDrives.{TakesIn}
use Rattle.growth_laws.proofs.Listing.{MayBeNext, current_next, next_heeded, next_raid, next_set}
use Rattle.growth_laws.proofs.Stating.{current_place, listed_current, stated_apart, stated_had, stated_valid}
use Rattle.raid_rack.specs.RaidRack.{raid_by}
use Rattle.raid_rack.proofs.AddDrive.{HasAdded, IsAdding, adding_stated, has_added, takes_in}
use Rattle.raid_rack.proofs.Mended.{each_items, some_copies}
use Rattle.raid_rack.proofs.Raises.{raises_then}
use Rattle.raid_rack.proofs.arrays.Arrays.add.Given.{Over}
use Rattle.raid_rack.proofs.arrays.Arrays.add.Goals as goal
use Rattle.raid_rack.proofs.arrays.Arrays.add.Goals.{After-add_copies, After-clear, After-list_drive, After-note_gone}

-- the state with the drive
state_is : (g : Over) (c : After-list_drive g)
    → c.list_drive.new.state ≡ enlisted (length c.args.self.now.state.drives.items) c.args.units (Add (length c.args.self.now.state.drives.items)) c.args.self.now.state
state_is g c =
    let s = c.args.self.now.state in
    c.list_drive.ensures ∙ ap (λ (p : Plan). enlisted (length s.drives.items) c.args.units p s) c.requires.plan

may_be : (g : Over) (c : After-list_drive g) → MayBeNext (length c.args.self.now.state.drives.items) c.args.units (raid_by c.args.self.now) (g.S.Rack.seen c.args.rack.now)
may_be g c = record {
  set = c.requires.running.set;
  heeded = c.requires.heeded;
  next = refl;
  some = c.requires.some;
  few = c.requires.few;
  units_some = c.requires.units;
  units_most = c.requires.units_end;
  log = c.requires.log;
}

is_adding : (g : Over) (c : After-add_copies g)
    → IsAdding c.args.self.now c.args.units c.list_drive.new.state c.current_places-on.result.items c.current_places-current.result.items c.add_copies.new.log (g.S.Rack.seen c.args.rack.now)
is_adding g c = record {
  running = c.requires.running;
  heeded = c.requires.heeded;
  some = c.requires.some;
  few = c.requires.few;
  units_some = c.requires.units;
  units_most = c.requires.units_end;
  log = c.requires.log;
  t_is =
      let s = c.args.self.now.state in
      c.list_drive.ensures ∙ ap (λ (p : Plan). enlisted (length s.drives.items) c.args.units p s) c.requires.plan;
  on_is = c.current_places-on.ensures;
  takes_are = c.current_places-current.ensures;
  copies =
      subst (λ (xs : List Target). AddsCopies c.list_drive.new.state c.current_places-current.result.items xs c.add_copies.new.log.added) (ap (λ (l : LogView). l.added) c.clear.ensures)
      c.add_copies.ensures.added;
  number = ap (λ (l : LogView). l.number) c.add_copies.ensures.log ∙ ap (λ (l : LogView). l.number) c.clear.ensures;
}

pub add_copies-requires-clause-valid : goal.add_copies-requires-clause-valid
add_copies-requires-clause-valid g c n place at =
    let before = (goal.at.add_copies-requires-clause-valid g c).After-list_drive in
    let own = length c.args.self.now.state.drives.items in
    let v = raid_by c.args.self.now in
    let x = g.S.Rack.seen c.args.rack.now in
    let is = state_is g before in
    let may = may_be g before in
    ap (λ (s : State). is_valid s place) is
    ∙ (current_place (next_raid own c.args.units v) x place (next_set own c.args.units v x may) (next_heeded own c.args.units v x may)
    (ap (λ (s : State). is_current s place) (sym is) ∙ listed_current c.list_drive.new.state c.current_places-current.result.items n place c.current_places-current.ensures at)).0

pub add_copies-requires-clause-places : goal.add_copies-requires-clause-places
add_copies-requires-clause-places g c n place at =
    let before = (goal.at.add_copies-requires-clause-places g c).After-list_drive in
    let own = length c.args.self.now.state.drives.items in
    let v = raid_by c.args.self.now in
    let x = g.S.Rack.seen c.args.rack.now in
    let may = may_be g before in
    (current_place (next_raid own c.args.units v) x place (next_set own c.args.units v x may) (next_heeded own c.args.units v x may)
    (ap (λ (s : State). is_current s place) (sym (state_is g before))
    ∙ listed_current c.list_drive.new.state c.current_places-current.result.items n place c.current_places-current.ensures at)).1

pub commit-gone-requires-clause-logs : goal.commit-gone-requires-clause-logs
commit-gone-requires-clause-logs g c j low =
    let a = c.args.self.now in
    let x = g.S.Rack.seen c.args.rack.now in
    let on = c.current_places-on.result.items in
    let at = current_place (raid_by a) x (get_or on j 0) c.requires.running.set c.requires.heeded
    (listed_current a.state on j (get_or on j 0) c.current_places-on.ensures (slice_get-get_or on j 0 low)) in
    (at.1, at.2)

pub commit-gone-requires-clause-some : goal.commit-gone-requires-clause-some
commit-gone-requires-clause-some g c =
    let s = c.args.self.now.state in
    let own = length s.drives.items in
    let current = c.current_places-current.result.items in
    let named : names current own ≡ true =
    ap (λ ps. names ps own) c.current_places-current.ensures ∙ names_current c.list_drive.new.state own
    ∙ ap (λ (z : State). is_current z own) (state_is g (goal.at.commit-gone-requires-clause-some g c).After-list_drive)
    ∙ current_next own c.args.units (Add own) s own refl ∙ ap (λ b. b || is_current s own) (eq-eqb own own refl) in
    some_copies c.list_drive.new.state current c.clear.new.self.added c.add_copies.new.log.added c.add_copies.ensures.added
    (λ none. both_ways (names current own) (no_names current own none) named)
  where
    no_names : (ps : List ℕ) (p : ℕ) → length ps ≡ 0 → names ps p ≡ false
    no_names [] p none = refl
    no_names (q ∷ ps) p none = absurd (omega (arith, none))

pub commit-gone-requires-clause-valid : goal.commit-gone-requires-clause-valid
commit-gone-requires-clause-valid g c =
    stated_valid _ _ _ _ _ (adding_stated _ _ _ _ _ _ _ (is_adding g (goal.at.commit-gone-requires-clause-valid g c).After-add_copies))

pub commit-gone-requires-clause-apart : goal.commit-gone-requires-clause-apart
commit-gone-requires-clause-apart g c =
    stated_apart _ _ _ _ _ (adding_stated _ _ _ _ _ _ _ (is_adding g (goal.at.commit-gone-requires-clause-apart g c).After-add_copies))

pub commit-gone-requires-clause-had : goal.commit-gone-requires-clause-had
commit-gone-requires-clause-had g c =
    stated_had _ _ _ _ _ (adding_stated _ _ _ _ _ _ _ (is_adding g (goal.at.commit-gone-requires-clause-had g c).After-add_copies))

-- what the commit makes of the arrays
added : (g : Over) (c : After-note_gone g)
    → IsAdding c.args.self.now c.args.units c.list_drive.new.state c.current_places-on.result.items c.current_places-current.result.items c.add_copies.new.log (g.S.Rack.seen c.args.rack.now)
    → HasAdded c.args.self.now (record c.args.self.now { state = c.list_drive.new.state; all = with_items c.args.self.now.all c.note_gone.new.arrays; log = c.commit-gone.new.self })
    c.args.units (g.S.Rack.seen c.args.rack.now) (g.S.Rack.seen c.commit-gone.new.rack)
added g c adding =
    let a = c.args.self.now in
    let gone = c.commit-gone.result.items in
    let after = each_items a.all c.as_mut_slice.result.now c.note_gone.new.arrays (without gone) c.as_mut_slice.ensures.value c.note_gone.ensures in
    has_added a c.args.units c.list_drive.new.state c.current_places-on.result.items c.current_places-current.result.items c.add_copies.new.log (g.S.Rack.seen c.args.rack.now)
    adding (with_items a.all c.note_gone.new.arrays) c.commit-gone.new.self gone (g.S.Rack.seen c.commit-gone.new.rack) c.commit-gone.ensures.commits after.0 after.1
    (ap (λ (l : LogView). l.number) c.commit-gone.ensures.log)

pub mend-requires : goal.mend-requires
mend-requires g c =
    let at = goal.at.mend-requires g c in
    record { running = (added g at.After-note_gone (is_adding g at.After-add_copies)).running }

pub returns-clause-takes : goal.returns-clause-takes
returns-clause-takes g c =
    let at = goal.at.returns-clause-takes g c in
    let a = c.args.self.now in
    let own = length a.state.drives.items in
    let x = g.S.Rack.seen c.args.rack.now in
    subst (λ (p : Plan). TakesIn own c.args.units p (λ n. false) (raid_by a) (raid_by c.mend.new.self) x (g.S.Rack.seen c.mend.new.rack)) (sym c.requires.plan)
    (takes_in a c.args.units c.list_drive.new.state c.current_places-on.result.items c.current_places-current.result.items c.add_copies.new.log x (is_adding g at.After-add_copies)
    _ c.mend.new.self c.commit-gone.result.items (g.S.Rack.seen c.commit-gone.new.rack) (g.S.Rack.seen c.mend.new.rack) (added g at.After-note_gone (is_adding g at.After-add_copies)) c.commit-gone.ensures.commits c.mend.ensures.mends)

pub returns-clause-raises : goal.returns-clause-raises
returns-clause-raises g c =
    let at = goal.at.returns-clause-raises g c in
    let one = added g at.After-note_gone (is_adding g at.After-add_copies) in
    let made = one.loses.marks.same.made in
    raises_then 2 17 (raid_by c.args.self.now) _ (raid_by c.mend.new.self) made one.raises c.mend.ensures.raises

pub returns-clause-runs : goal.returns-clause-runs
returns-clause-runs g c = g.met.S.Rack.runs_then _ _ _ c.commit-gone.ensures.runs c.mend.ensures.runs
