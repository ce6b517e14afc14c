use Rattle.std.proofs.Common.{◌≡◌, ◌<◌, ◌≤◌, ◌+◌, ◌*◌, ◌||◌, ℕ, true, false, All, length, sym, ap, subst, ◌∙◌, inl, inr, arith}
use Rattle.array_image.specs.Places.{member_slice}
use Rattle.array_image.specs.States.{is_current}
use Rattle.array_core.specs.Seats.{names}
use Rattle.slice_rack.specs.SliceRack.{below_of, tables}
use Rattle.slice_rack.specs.Slices.{seat_of as disk_at, sectors_of}
use Rattle.raid_laws.specs.Moves.{RaisesBy}
use Rattle.raid_laws.specs.NewDrive.{first_in}
use Rattle.raid_laws.specs.Raid.{Raid}
use Rattle.growth_laws.specs.Growing.{is_ended, lacks_places}
use Rattle.growth_laws.specs.NewArrays.{may_make, new_size, reaching, views_of}
use Rattle.growth_laws.proofs.Layers.{MayMake, make_parts, may_make_still, reaching_listed, reaching_still, size_still}
use Rattle.growth_laws.proofs.Steps.{grows_nothing}
use Rattle.raid_rack.specs.declared.arrays.Arrays.{Arrays}
use Rattle.raid_rack.specs.Growing.{CannotAdd}
use Rattle.raid_rack.specs.RaidRack.{IsFit, raid_by, raid_in, slices_in, slices_seen}
use Rattle.raid_rack.proofs.Entered.{HasEntered}
use Rattle.raid_rack.proofs.Grown.{views_items}
use Rattle.raid_rack.proofs.Laid.{cannot_before}
use Rattle.raid_rack.proofs.LaidMembers.{LaysOnly, lays_fit, lays_then}
use Rattle.raid_rack.proofs.Making.{Refuses, cannot_make, made_goes, made_grows, made_raises, made_runs, made_seats, making, unmade}
use Rattle.raid_rack.proofs.Raises.{raises_more}
use Rattle.raid_rack.proofs.arrays.RaidRack.make.Given.{Over}
use Rattle.raid_rack.proofs.arrays.RaidRack.make.Goals.{After-add_entries, After-drop_members, After-lay_members, then-not-add_entries-via-then-not-add_entries, then-not-add_entries-via-else-not-add_entries+then-lacks_places}
use Rattle.raid_rack.proofs.arrays.RaidRack.make.Goals as goal

-- ---- what is due, and its members

abbrev old : (g : Over) (c : After-add_entries g) → Raid
old g c = raid_in c.args.self.now

due : (g : Over) (c : After-add_entries g) → may_make (old g c) c.args.number c.args.height ≡ true
due g c = sym c.may_make.ensures ∙ c.if-not-may_make.false

parts : (g : Over) (c : After-add_entries g) → MayMake (old g c) c.args.number c.args.height
parts g c = make_parts (old g c) c.args.number c.args.height (due g c)

first_is : (g : Over) (c : After-add_entries g) → c.first_in-first.result ≡ first_in (views_of (old g c)) (old g c).state.made
first_is g c =
    c.first_in-first.ensures.first
    ∙ ap (λ us. first_in us c.args.number) (c.as_slice.ensures.value ∙ sym (views_items c.args.self.now.arrays c.requires.fit.running.count))
    ∙ ap (first_in (views_of (old g c))) (parts g c).number

abbrev sectors : (g : Over) (c : After-add_entries g) → ℕ
sectors g c = c.args.height * c.from.result + 2048 + 2048

sectors_are : (g : Over) (c : After-add_entries g) → sectors g c ≡ new_size (old g c) c.args.height + 2048
sectors_are g c = ap (λ extent. c.args.height * extent + 2048 + 2048) c.from.ensures

pub add_entries-requires-clause-places : goal.add_entries-requires-clause-places
add_entries-requires-clause-places g c =
    let v = raid_in c.args.self.now in
    subst (All (λ (p : ℕ). p < length v.state.drives.items)) (sym c.reaching-members.ensures) (reaching_listed v c.args.height)

few_places : (g : Over) (c : After-add_entries g) → All (λ (p : ℕ). p < 16) c.reaching-members.result.items
few_places g c =
    subst (All (λ (p : ℕ). p < 16)) (sym c.reaching-members.ensures)
    (λ k d low. let at = reaching_listed (old g c) c.args.height k d low in let few = c.requires.fit.running.set.few in omega (arith, at, few))

pub lay_members-requires-clause-places : goal.lay_members-requires-clause-places
lay_members-requires-clause-places g c = few_places g (goal.at.lay_members-requires-clause-places g c).After-add_entries

pub drop_members-requires-clause-places : goal.drop_members-requires-clause-places
drop_members-requires-clause-places g c = few_places g (goal.at.drop_members-requires-clause-places g c).After-add_entries

-- ---- the entries

entered : (g : Over) (c : After-add_entries g) → HasEntered g.R.Rack.seen g.R.Rack.runs 16 (record c.args.self.now { written = c.note_written.new.written }) c.add_entries.new.self
entered g c =
    let done = c.add_entries.ensures in
    record {
      fit = done.fit;
      loses = done.loses;
      caused = done.caused;
      raises = done.raises;
      refused = done.refused;
      written = done.written;
      seconds = done.seconds;
      tables_are = done.tables;
      goes = done.goes;
      below = done.runs;
    }

-- the places that reach it are the same after them
members_still : (g : Over) (c : After-add_entries g) → reaching (raid_in c.add_entries.new.self) c.args.height ≡ c.reaching-members.result.items
members_still g c = reaching_still (old g c) (raid_in c.add_entries.new.self) c.args.height c.add_entries.ensures.loses ∙ sym c.reaching-members.ensures

-- and it is the next array still
next_still : (g : Over) (c : After-add_entries g) → c.args.number ≡ (raid_in c.add_entries.new.self).state.made
next_still g c = (parts g c).number ∙ sym c.add_entries.ensures.loses.marks.same.made

pub returns-then-not-add_entries-clause-grows : goal.returns-then-not-add_entries-clause-grows
returns-then-not-add_entries-clause-grows g c is =
    let at = (goal.at.returns-then-not-add_entries-clause-grows g c).After-add_entries in
    let v = raid_in c.args.self.now in
    let w = raid_in c.add_entries.new.self in
    let done = c.add_entries.ensures in
    grows_nothing (making c.args.self.now.seconds c.args.height) (Refuses g.R.Rack.seen g.R.Rack.runs c.args.self.now c.args.number c.args.height) v w (slices_seen g.R.Rack.seen c.args.self.now) (slices_seen g.R.Rack.seen c.add_entries.new.self) done.loses done.caused done.fit.heeded
    (elim c.then-not-add_entries.branch [
      | then-not-add_entries-via-then-not-add_entries k ↦
          let cannot = done.cannot k.if-not-add_entries.true in
          inr (cannot_make g.R.Rack.seen g.R.Rack.runs (tables (slices_in c.args.self.now)) (below_of (slices_in c.args.self.now)) v w c.args.height cannot.0 c.first_in-first.result
          (sectors g at) c.reaching-members.result.items done.loses c.reaching-members.ensures (first_is g at) (sectors_are g at) cannot.1 cannot.2 (inl cannot.3))
      | then-not-add_entries-via-else-not-add_entries+then-lacks_places k ↦
          inl (ap (λ ps. is_ended w || lacks_places w ps) (members_still g at) ∙ sym k.lacks_places.ensures ∙ k.if-lacks_places.true)
    ])

pub returns-then-not-add_entries-clause-raises : goal.returns-then-not-add_entries-clause-raises
returns-then-not-add_entries-clause-raises g c =
    raises_more 272 330 (raid_in c.args.self.now) (raid_in c.add_entries.new.self) (omega arith) c.add_entries.ensures.raises

-- ---- the slices

laid : (g : Over) (c : After-lay_members g) → LaysOnly g.R.Rack.seen (c.args.number + 1) c.add_entries.new.self c.lay_members.new.self
laid g c =
    let done = c.lay_members.ensures in
    record {
      others = done.others;
      below = done.below;
      arrays = done.arrays;
      refused = done.refused;
      written = done.written;
      seconds = done.seconds;
      seats = done.seats;
      fit = done.fit;
    }

-- they can't be laid, and are taken away again
dropped : (g : Over) (c : After-drop_members g) → LaysOnly g.R.Rack.seen (c.args.number + 1) c.lay_members.new.self c.drop_members.new.self
dropped g c =
    let done = c.drop_members.ensures in
    record {
      others = done.others;
      below = done.below;
      arrays = done.arrays;
      refused = done.refused;
      written = done.written;
      seconds = done.seconds;
      seats = done.seats;
      fit = done.fit;
    }

pub returns-then-not-lay_members-clause-grows : goal.returns-then-not-lay_members-clause-grows
returns-then-not-lay_members-clause-grows g c is =
    let here = goal.at.returns-then-not-lay_members-clause-grows g c in
    let at = here.After-add_entries in
    let seen = g.R.Rack.seen in
    let p = c.args.self.now in
    let q = c.add_entries.new.self in
    let t = tables (slices_in c.args.self.now) in
    let r = below_of (slices_in c.args.self.now) in
    let cannot = c.lay_members.ensures.cannot c.if-not-lay_members.true in
    let before =
    cannot_before t (tables (slices_in q)) (seen r) (seen (below_of (slices_in q))) cannot.0 c.args.number c.first_in-first.result (sectors g at) c.add_entries.ensures.tables
    c.add_entries.ensures.goes.stays cannot.3 in
    unmade seen g.R.Rack.runs g.met.R.Rack.runs_then c.args.number c.args.height (record p { written = c.note_written.new.written }) q c.drop_members.new.self (entered g at)
    (lays_then seen (c.args.number + 1) q c.lay_members.new.self c.drop_members.new.self (laid g here.After-lay_members) (dropped g here.After-drop_members))
    (inr (cannot_make seen g.R.Rack.runs t r (raid_in c.args.self.now) (raid_in q) c.args.height cannot.0 c.first_in-first.result (sectors g at) c.reaching-members.result.items
    c.add_entries.ensures.loses c.reaching-members.ensures (first_is g at) (sectors_are g at) cannot.1 cannot.2
    (inr (subst (λ n. CannotAdd t (seen r) cannot.0 n c.first_in-first.result (sectors g at)) (parts g at).number before))))

pub returns-then-not-lay_members-clause-fit : goal.returns-then-not-lay_members-clause-fit
returns-then-not-lay_members-clause-fit g c =
    let here = goal.at.returns-then-not-lay_members-clause-fit g c in
    lays_fit g.R.Rack.seen c.args.number c.add_entries.new.self c.drop_members.new.self
    (lays_then g.R.Rack.seen (c.args.number + 1) c.add_entries.new.self c.lay_members.new.self c.drop_members.new.self (laid g here.After-lay_members) (dropped g here.After-drop_members))
    (next_still g here.After-add_entries) c.add_entries.ensures.fit

pub returns-then-not-lay_members-clause-raises : goal.returns-then-not-lay_members-clause-raises
returns-then-not-lay_members-clause-raises g c =
    raises_more 272 330 (raid_in c.args.self.now) (raid_in c.drop_members.new.self) (omega arith)
    (subst (λ a. RaisesBy 272 (raid_in c.args.self.now) (raid_by a)) (sym (c.drop_members.ensures.arrays ∙ c.lay_members.ensures.arrays)) c.add_entries.ensures.raises)

pub returns-then-not-lay_members-clause-refused : goal.returns-then-not-lay_members-clause-refused
returns-then-not-lay_members-clause-refused g c n = c.drop_members.ensures.refused n ∙ c.lay_members.ensures.refused n ∙ c.add_entries.ensures.refused n

pub returns-then-not-lay_members-clause-written : goal.returns-then-not-lay_members-clause-written
returns-then-not-lay_members-clause-written g c n other =
    c.drop_members.ensures.written n ∙ c.lay_members.ensures.written n ∙ c.add_entries.ensures.written n ∙ c.note_written.ensures.others n other

pub returns-then-not-lay_members-clause-seats : goal.returns-then-not-lay_members-clause-seats
returns-then-not-lay_members-clause-seats g c place =
    c.drop_members.ensures.seats place ∙ c.lay_members.ensures.seats place ∙ ap (λ t. disk_at t place) c.add_entries.ensures.tables

-- ---- the commit

fit_laid : (g : Over) (c : After-lay_members g) → c.args.number ≡ (raid_in c.add_entries.new.self).state.made
    → IsFit c.lay_members.new.self.arrays (slices_seen g.R.Rack.seen c.lay_members.new.self)
fit_laid g c next = lays_fit g.R.Rack.seen c.args.number c.add_entries.new.self c.lay_members.new.self (laid g c) next c.add_entries.ensures.fit

pub make_array-requires-clause-running : goal.make_array-requires-clause-running
make_array-requires-clause-running g c =
    let here = goal.at.make_array-requires-clause-running g c in
    (fit_laid g here.After-lay_members (next_still g here.After-add_entries)).running

pub make_array-requires-clause-heeded : goal.make_array-requires-clause-heeded
make_array-requires-clause-heeded g c =
    let here = goal.at.make_array-requires-clause-heeded g c in
    (fit_laid g here.After-lay_members (next_still g here.After-add_entries)).heeded

pub make_array-requires-clause-due : goal.make_array-requires-clause-due
make_array-requires-clause-due g c =
    let at = (goal.at.make_array-requires-clause-due g c).After-add_entries in
    let v = raid_in c.args.self.now in
    let w = raid_in c.add_entries.new.self in
    subst (λ (a : Arrays). may_make (raid_by a) a.state.made c.args.height ≡ true) (sym c.lay_members.ensures.arrays)
    (may_make_still v w w.state.made c.args.height c.add_entries.ensures.loses ∙ ap (λ n. may_make v n c.args.height) (sym (next_still g at)) ∙ due g at)

pub make_array-requires-clause-some : goal.make_array-requires-clause-some
make_array-requires-clause-some g c =
    let at = (goal.at.make_array-requires-clause-some g c).After-add_entries in
    let w = raid_in c.add_entries.new.self in
    subst (λ (a : Arrays). (is_ended (raid_by a) || lacks_places (raid_by a) (reaching (raid_by a) c.args.height)) ≡ false) (sym c.lay_members.ensures.arrays)
    (ap (λ ps. is_ended w || lacks_places w ps) (members_still g at) ∙ sym c.lacks_places.ensures ∙ c.if-lacks_places.false)

pub make_array-requires-clause-slices : goal.make_array-requires-clause-slices
make_array-requires-clause-slices g c =
    let at = (goal.at.make_array-requires-clause-slices g c).After-add_entries in
    let w = raid_in c.add_entries.new.self in
    let t = tables (slices_in c.lay_members.new.self) in
    subst (λ (a : Arrays). (p : ℕ) → names (reaching (raid_by a) c.args.height) p ≡ true → is_current a.state p ≡ true
    → 2048 + new_size (raid_by a) c.args.height ≤ sectors_of t (member_slice p a.state.made)) (sym c.lay_members.ensures.arrays)
    (λ p named current.
    let on = c.lay_members.ensures.laid c.if-not-lay_members.false p (ap (λ ps. names ps p) (sym (members_still g at)) ∙ named) current in
    let here = ap (λ n. sectors_of t (member_slice p n)) (next_still g at) in
    let long = sectors_are g at in
    subst (λ size. 2048 + size ≤ sectors_of t (member_slice p w.state.made)) (sym (size_still (old g at) w c.args.height c.add_entries.ensures.loses)) (omega (arith, on, here, long)))

pub returns-then-make_array-clause-grows : goal.returns-then-make_array-clause-grows
returns-then-make_array-clause-grows g c is =
    let here = goal.at.returns-then-make_array-clause-grows g c in
    made_grows g.R.Rack.seen g.R.Rack.runs g.met.R.Rack.runs_then c.args.number c.args.height (record c.args.self.now { written = c.note_written.new.written }) c.add_entries.new.self
    c.lay_members.new.self (entered g here.After-add_entries) (laid g here.After-lay_members) c.make_array.new.self c.make_array.new.rack c.make_array.ensures.runs c.make_array.result true c.if-make_array.true c.make_array.ensures.grows

pub returns-then-make_array-clause-raises : goal.returns-then-make_array-clause-raises
returns-then-make_array-clause-raises g c =
    let here = goal.at.returns-then-make_array-clause-raises g c in
    made_raises g.R.Rack.seen g.R.Rack.runs g.met.R.Rack.runs_then c.args.number c.args.height (record c.args.self.now { written = c.note_written.new.written }) c.add_entries.new.self
    c.lay_members.new.self (entered g here.After-add_entries) (laid g here.After-lay_members) c.make_array.new.self c.make_array.new.rack c.make_array.ensures.runs c.make_array.ensures.raises

pub returns-then-make_array-clause-seats : goal.returns-then-make_array-clause-seats
returns-then-make_array-clause-seats g c =
    let here = goal.at.returns-then-make_array-clause-seats g c in
    made_seats g.R.Rack.seen g.R.Rack.runs g.met.R.Rack.runs_then c.args.number c.args.height (record c.args.self.now { written = c.note_written.new.written }) c.add_entries.new.self
    c.lay_members.new.self (entered g here.After-add_entries) (laid g here.After-lay_members) c.make_array.new.self c.make_array.new.rack c.make_array.ensures.runs

pub returns-then-make_array-clause-goes : goal.returns-then-make_array-clause-goes
returns-then-make_array-clause-goes g c =
    let here = goal.at.returns-then-make_array-clause-goes g c in
    made_goes g.R.Rack.seen g.R.Rack.runs g.met.R.Rack.runs_then c.args.number c.args.height (record c.args.self.now { written = c.note_written.new.written }) c.add_entries.new.self
    c.lay_members.new.self (entered g here.After-add_entries) (laid g here.After-lay_members) c.make_array.new.self c.make_array.new.rack c.make_array.ensures.runs

pub returns-then-make_array-clause-runs : goal.returns-then-make_array-clause-runs
returns-then-make_array-clause-runs g c =
    let here = goal.at.returns-then-make_array-clause-runs g c in
    made_runs g.R.Rack.seen g.R.Rack.runs g.met.R.Rack.runs_then c.args.number c.args.height (record c.args.self.now { written = c.note_written.new.written }) c.add_entries.new.self
    c.lay_members.new.self (entered g here.After-add_entries) (laid g here.After-lay_members) c.make_array.new.self c.make_array.new.rack c.make_array.ensures.runs

pub returns-then-make_array-clause-refused : goal.returns-then-make_array-clause-refused
returns-then-make_array-clause-refused g c n = c.lay_members.ensures.refused n ∙ c.add_entries.ensures.refused n

pub returns-then-make_array-clause-written : goal.returns-then-make_array-clause-written
returns-then-make_array-clause-written g c n other = c.lay_members.ensures.written n ∙ c.add_entries.ensures.written n ∙ c.note_written.ensures.others n other

pub returns-else-make_array-clause-grows : goal.returns-else-make_array-clause-grows
returns-else-make_array-clause-grows g c is =
    let here = goal.at.returns-else-make_array-clause-grows g c in
    made_grows g.R.Rack.seen g.R.Rack.runs g.met.R.Rack.runs_then c.args.number c.args.height (record c.args.self.now { written = c.note_written.new.written }) c.add_entries.new.self
    c.lay_members.new.self (entered g here.After-add_entries) (laid g here.After-lay_members) c.make_array.new.self c.make_array.new.rack c.make_array.ensures.runs c.make_array.result false c.if-make_array.false c.make_array.ensures.grows

pub returns-else-make_array-clause-raises : goal.returns-else-make_array-clause-raises
returns-else-make_array-clause-raises g c =
    let here = goal.at.returns-else-make_array-clause-raises g c in
    made_raises g.R.Rack.seen g.R.Rack.runs g.met.R.Rack.runs_then c.args.number c.args.height (record c.args.self.now { written = c.note_written.new.written }) c.add_entries.new.self
    c.lay_members.new.self (entered g here.After-add_entries) (laid g here.After-lay_members) c.make_array.new.self c.make_array.new.rack c.make_array.ensures.runs c.make_array.ensures.raises

pub returns-else-make_array-clause-seats : goal.returns-else-make_array-clause-seats
returns-else-make_array-clause-seats g c =
    let here = goal.at.returns-else-make_array-clause-seats g c in
    made_seats g.R.Rack.seen g.R.Rack.runs g.met.R.Rack.runs_then c.args.number c.args.height (record c.args.self.now { written = c.note_written.new.written }) c.add_entries.new.self
    c.lay_members.new.self (entered g here.After-add_entries) (laid g here.After-lay_members) c.make_array.new.self c.make_array.new.rack c.make_array.ensures.runs

pub returns-else-make_array-clause-goes : goal.returns-else-make_array-clause-goes
returns-else-make_array-clause-goes g c =
    let here = goal.at.returns-else-make_array-clause-goes g c in
    made_goes g.R.Rack.seen g.R.Rack.runs g.met.R.Rack.runs_then c.args.number c.args.height (record c.args.self.now { written = c.note_written.new.written }) c.add_entries.new.self
    c.lay_members.new.self (entered g here.After-add_entries) (laid g here.After-lay_members) c.make_array.new.self c.make_array.new.rack c.make_array.ensures.runs

pub returns-else-make_array-clause-runs : goal.returns-else-make_array-clause-runs
returns-else-make_array-clause-runs g c =
    let here = goal.at.returns-else-make_array-clause-runs g c in
    made_runs g.R.Rack.seen g.R.Rack.runs g.met.R.Rack.runs_then c.args.number c.args.height (record c.args.self.now { written = c.note_written.new.written }) c.add_entries.new.self
    c.lay_members.new.self (entered g here.After-add_entries) (laid g here.After-lay_members) c.make_array.new.self c.make_array.new.rack c.make_array.ensures.runs

pub returns-else-make_array-clause-refused : goal.returns-else-make_array-clause-refused
returns-else-make_array-clause-refused g c n = c.lay_members.ensures.refused n ∙ c.add_entries.ensures.refused n

pub returns-else-make_array-clause-written : goal.returns-else-make_array-clause-written
returns-else-make_array-clause-written g c n other = c.lay_members.ensures.written n ∙ c.add_entries.ensures.written n ∙ c.note_written.ensures.others n other
