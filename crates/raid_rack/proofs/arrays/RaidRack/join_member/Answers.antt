use Rattle.std.proofs.Common.{◌≡◌, ◌⊎◌, None, false, refl, ap, sym, subst, ◌∙◌, inl, inr, arith}
use Rattle.pool_state.specs.declared.contents.Work.TheVariants.{Begin}
use Rattle.array_core.specs.Pool.{Goes}
use Rattle.array_core.specs.Seats.{seat_of}
use Rattle.slice_rack.specs.SliceRack.{below_of, tables}
use Rattle.slice_rack.specs.Sliced.{slices_of}
use Rattle.slice_rack.specs.Slices.{seat_of as disk_at}
use Rattle.raid_laws.specs.Moves.{IsSet}
use Rattle.raid_laws.specs.NewDrive.{first_in, slice_length}
use Rattle.raid_laws.specs.Raid.{Raid, raid_of}
use Rattle.transition_laws.specs.Growth.{KeepsOldSectors}
use Rattle.growth_laws.specs.Growing.{Grows, HasSettledSlice, Lacks, MakesReshape, change_of, views_of}
use Rattle.growth_laws.proofs.Due.{begin_parts}
use Rattle.growth_laws.proofs.Losing.{loses_nothing}
use Rattle.growth_laws.proofs.Steps.{caused_nothing, grows_nothing, grows_over, reshapes_more, reshapes_nothing}
use Rattle.raid_rack.specs.Growing.{CannotLay}
use Rattle.raid_rack.specs.BareSlices.{AreBare, is_member_slice}
use Rattle.raid_rack.specs.RaidRack.{IsFit, raid_by, raid_in, raid_seen, refused_in, slices_seen}
use Rattle.raid_rack.proofs.JoinOld.{join_old}
use Rattle.raid_rack.proofs.Laid.{runs_goes, runs_stay, same_faults}
use Rattle.raid_rack.proofs.LaidTables.{laid_old}
use Rattle.raid_rack.proofs.arrays.RaidRack.join_member.Goals as goal

pub lay_member-requires-clause-apart : goal.lay_member-requires-clause-apart
lay_member-requires-clause-apart g c = (begin_parts (raid_by c.args.self.now.arrays) c.args.array c.args.place c.requires.due).joins

pub returns-then-not-lay_member-clause-grows : goal.returns-then-not-lay_member-clause-grows
returns-then-not-lay_member-clause-grows g c =
    let n = c.args.array in
    let place = c.args.place in
    let v = raid_in c.args.self.now in
    let x = slices_seen g.R.Rack.seen c.args.self.now in
    let y = slices_seen g.R.Rack.seen c.lay_member.new.self in
    let L : Raid → Raid → Type 0 =
    λ mid w. Lacks (Begin n place) mid w ⊎ CannotLay (tables c.args.self.now.slices) (g.R.Rack.seen (below_of c.args.self.now.slices)) mid place n in
    subst (λ k. Grows (Begin n place) L v (raid_by k) x y false) (sym c.lay_member.ensures.arrays)
    (grows_nothing (change_of (Begin n place)) L v v x y (loses_nothing v) (caused_nothing v x y) c.requires.fit.heeded (inr (c.lay_member.ensures.cannot c.if-not-lay_member.true)))

pub drop_member-requires-clause-place : goal.drop_member-requires-clause-place
drop_member-requires-clause-place g c =
    let listed = (begin_parts (raid_by c.args.self.now.arrays) c.args.array c.args.place c.requires.due).listed in
    let few = c.requires.fit.running.set.few in
    omega (arith, listed, few)

pub returns-clause-grows : goal.returns-clause-grows
returns-clause-grows g c =
    let n = c.args.array in
    let place = c.args.place in
    let v = raid_in c.args.self.now in
    let seen = g.R.Rack.seen in
    let x = slices_seen g.R.Rack.seen c.args.self.now in
    let y = slices_seen g.R.Rack.seen c.drop_member.new.self in
    let t = tables c.args.self.now.slices in
    let t1 = tables c.lay_member.new.self.slices in
    let t2 = tables c.begin_array-begun.new.rack in
    let t3 = tables c.drop_member.new.self.slices in
    let L : Raid → Raid → Type 0 =
    λ mid w. Lacks (Begin n place) mid w ⊎ CannotLay (tables c.args.self.now.slices) (g.R.Rack.seen (below_of c.args.self.now.slices)) mid place n in
    subst (λ k. Grows (Begin n place) L (raid_by k) (raid_in c.drop_member.new.self) x y c.begin_array-begun.result) c.lay_member.ensures.arrays
    (subst (λ k. Grows (Begin n place) L (raid_by c.lay_member.new.self.arrays) (raid_by k) x y c.begin_array-begun.result) (sym c.drop_member.ensures.arrays)
    (grows_over (change_of (Begin n place)) (Lacks (Begin n place)) L (raid_by c.lay_member.new.self.arrays) (raid_by c.begin_array-begun.new.self)
    (slices_of t1 (seen (below_of c.lay_member.new.self.slices))) (slices_of t2 (seen (below_of c.begin_array-begun.new.rack))) x y c.begin_array-begun.result
    (λ d. sym (ap (λ r. (slices_of t1 (seen r)).faults d) c.lay_member.ensures.below ∙ same_faults t t1 (seen (below_of c.args.self.now.slices)) c.lay_member.ensures.seats d))
    (λ d. ap (λ r. (slices_of t3 (seen r)).faults d) c.drop_member.ensures.below ∙ same_faults t2 t3 (seen (below_of c.begin_array-begun.new.rack)) c.drop_member.ensures.seats d)
    (λ mid w is. inl is) c.begin_array-begun.ensures.grows))

pub returns-clause-refused : goal.returns-clause-refused
returns-clause-refused g c n = c.drop_member.ensures.refused n ∙ c.lay_member.ensures.refused n

pub returns-clause-written : goal.returns-clause-written
returns-clause-written g c n = c.drop_member.ensures.written n ∙ c.lay_member.ensures.written n

pub returns-clause-seats : goal.returns-clause-seats
returns-clause-seats g c p = c.drop_member.ensures.seats p ∙ ap (λ t. disk_at t p) c.begin_array-begun.ensures.runs.tables ∙ c.lay_member.ensures.seats p

pub returns-clause-goes : goal.returns-clause-goes
returns-clause-goes g c =
    let seen = g.R.Rack.seen in
    let after = below_of c.begin_array-begun.new.rack in
    let ran =
    runs_goes (tables c.lay_member.new.self.slices) (tables c.begin_array-begun.new.rack) _ _ _ c.begin_array-begun.ensures.runs
    c.lay_member.ensures.fit.running.set.fit in
    subst (λ r. Goes (seen (below_of c.args.self.now.slices)) (seen r)) (sym c.drop_member.ensures.below)
    (subst (λ r. Goes (seen r) (seen after)) c.lay_member.ensures.below ran)

pub returns-then-not-lay_member-clause-contents : goal.returns-then-not-lay_member-clause-contents
returns-then-not-lay_member-clause-contents g c =
    let n = c.args.array in
    let place = c.args.place in
    let v = raid_in c.args.self.now in
    let seen = g.R.Rack.seen in
    let y = slices_seen seen c.lay_member.new.self in
    let L : Raid → Raid → Type 0 =
    λ mid w. Lacks (Begin n place) mid w ⊎ CannotLay (tables c.args.self.now.slices) (g.R.Rack.seen (below_of c.args.self.now.slices)) mid place n in
    record {
      laid = c.lay_member.new.self.slices;
      last = c.lay_member.new.self.slices;
      lays = c.lay_member.ensures.lays;
      step = λ settled.
          subst (λ k. MakesReshape (change_of (Begin n place)) L n v (raid_by k) y y false) (sym c.lay_member.ensures.arrays)
          (reshapes_nothing (change_of (Begin n place)) L n v y (subst (λ k. IsSet (raid_by k) y) c.lay_member.ensures.arrays c.lay_member.ensures.fit.running.set) c.requires.fit.heeded
          (inr (c.lay_member.ensures.cannot c.if-not-lay_member.true)));
      drops = (refl, inl refl);
      old = λ settled was laid last ready.
          let a = below_of c.args.self.now.slices in
          let t = tables c.args.self.now.slices in
          let u = tables c.lay_member.new.self.slices in
          let e = c.lay_member.ensures in
          let parts = begin_parts v n place c.requires.due in
          let fit = IsFit c.lay_member.new.self.arrays y in
          let before = IsFit c.args.self.now.arrays (slices_of t (seen a)) in
          let q = refused_in c.lay_member.new.self in
          let r = refused_in c.args.self.now in
          subst (λ k. KeepsOldSectors v.state.joined (raid_seen seen c.args.self.now) (raid_of fit q (raid_by k) y)) (sym e.arrays)
          (subst (λ k. KeepsOldSectors v.state.joined (raid_of before r v (slices_of t (seen k))) (raid_of fit q v y)) e.below
          (laid_old {F = before} {G = fit} {r = r} {q = q} v t u (seen (below_of c.lay_member.new.self.slices)) place n (first_in (views_of v) n) (slice_length (v.arrays n)) e.lays.1 parts.synced.low parts.joins
          (subst (λ k. IsSet v (slices_of t (seen k))) (sym e.below) c.requires.fit.running.set) (subst (λ k. IsSet (raid_by k) y) e.arrays e.fit.running.set) c.requires.fit.heeded
          (subst (λ k. AreBare (is_member_slice place n) (slices_of t (seen k))) (sym e.below) was) laid));
    }

pub returns-clause-contents : goal.returns-clause-contents
returns-clause-contents g c =
    let n = c.args.array in
    let place = c.args.place in
    let v = raid_in c.args.self.now in
    let seen = g.R.Rack.seen in
    let y = slices_seen seen c.lay_member.new.self in
    let z = slices_of (tables c.begin_array-begun.new.rack) (seen (below_of c.begin_array-begun.new.rack)) in
    let L : Raid → Raid → Type 0 =
    λ mid w. Lacks (Begin n place) mid w ⊎ CannotLay (tables c.args.self.now.slices) (g.R.Rack.seen (below_of c.args.self.now.slices)) mid place n in
    let w = raid_in c.drop_member.new.self in
    let makes : HasSettledSlice v n place y → MakesReshape (change_of (Begin n place)) L n v w y z c.begin_array-begun.result =
    λ settled.
    subst (λ k. MakesReshape (change_of (Begin n place)) L n (raid_by k) w y z c.begin_array-begun.result) c.lay_member.ensures.arrays
    (subst (λ k. MakesReshape (change_of (Begin n place)) L n (raid_by c.lay_member.new.self.arrays) (raid_by k) y z c.begin_array-begun.result) (sym c.drop_member.ensures.arrays)
    (reshapes_more (change_of (Begin n place)) (Lacks (Begin n place)) L n (raid_by c.lay_member.new.self.arrays) (raid_by c.begin_array-begun.new.self) y z c.begin_array-begun.result
    (λ mid w is. inl is)
    (c.begin_array-begun.ensures.contents (subst (λ k. HasSettledSlice (raid_by k) n place y) (sym c.lay_member.ensures.arrays) settled)))) in
    record {
      laid = c.lay_member.new.self.slices;
      last = c.begin_array-begun.new.rack;
      lays = c.lay_member.ensures.lays;
      step = makes;
      drops = c.drop_member.ensures.drops;
      old = λ settled was laid last ready.
          let t = tables c.args.self.now.slices in
          let t1 = tables c.lay_member.new.self.slices in
          let t2 = tables c.begin_array-begun.new.rack in
          let t3 = tables c.drop_member.new.self.slices in
          let a1 = below_of c.lay_member.new.self.slices in
          let b = below_of c.begin_array-begun.new.rack in
          let e = c.lay_member.ensures in
          let d = c.drop_member.ensures in
          let before = IsFit c.args.self.now.arrays (slices_seen seen c.args.self.now) in
          let after = IsFit c.drop_member.new.self.arrays (slices_seen seen c.drop_member.new.self) in
          let r = refused_in c.args.self.now in
          let q = refused_in c.drop_member.new.self in
          subst (λ k. KeepsOldSectors v.state.joined (raid_seen seen c.args.self.now) (raid_of after q w (slices_of t3 (seen k)))) (sym d.below)
          (subst (λ k. KeepsOldSectors v.state.joined (raid_of before r v (slices_of t (seen k))) (raid_of after q w (slices_of t3 (seen b)))) e.below
          (join_old {F = before} {G = after} {r = r} {q = q} v w t t1 t2 t3 (seen a1) (seen b) n place (first_in (views_of v) n) (slice_length (v.arrays n)) L c.begin_array-begun.result
          (subst (λ k. IsSet v (slices_of t (seen k))) (sym e.below) c.requires.fit.running.set) (subst (λ k. IsSet (raid_by k) y) e.arrays e.fit.running.set) c.requires.fit.heeded
          (subst (λ k. IsSet (raid_by k) z) (sym d.arrays) c.begin_array-begun.ensures.running.set) (subst (λ k. IsSet w (slices_of t3 (seen k))) d.below d.fit.running.set) c.requires.due
          c.requires.clean e.lays.1
          (elim d.drops.1 [
            | inl same ↦ inl same
            | inr adds ↦ elim d.apart [
              | inl same ↦ inl same
              | inr none ↦ inr (adds, subst (λ k. seat_of ((raid_by k).arrays n) place ≡ None) (sym d.arrays) none)
            ]
          ])
          (runs_stay t1 t2 (seen a1) (seen b) _ c.begin_array-begun.ensures.runs e.fit.running.set.fit).traced
          (subst (λ k. AreBare (is_member_slice place n) (slices_of t (seen k))) (sym e.below) was) laid last (makes settled) ready));
    }
