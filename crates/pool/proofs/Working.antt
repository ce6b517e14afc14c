-- Works of maintenance in a row, and what they are to the volume.
use Rattle.std.proofs.Common.{◌≡◌, ℕ, ◌+◌, ◌*◌, ◌≤◌, refl, sym, subst, ◌∙◌, inl, arith}
use Rattle.rack.proofs.Writing.{only_quiet}
use Rattle.rack.specs.Seen.{IsPick, RackView, SameRack}
use Rattle.rack.specs.Shelf.{Shelf}
use Rattle.rack.specs.Calls.{KeepsAll}
use Rattle.rack.specs.Joins.{keeps_all_then, stays_same, stays_then, keeps_same, leaves_same}
use Rattle.slice_rack.specs.Runs.{runs_join, runs_none}
use Rattle.slice_rack.specs.SliceRack.{tables}
use Rattle.lvm_group.proofs.Below.{keeps_volume, stays_volume}
use Rattle.lvm_group.specs.Runs.{Linear}
use Rattle.lvm_group.specs.Shown.{volume_of}
use Rattle.lvm_group.specs.Volume.{linear}
use Rattle.lvm_group.specs.Framed.{IsShown}
use Rattle.raid_laws.specs.Moves.{RaisesBy}
use Rattle.raid_rack.specs.RaidRack.{KeepsRack, SliceRuns, raid_in, raid_seen, slices_in, slices_seen, written_in}
use Rattle.raid_laws.specs.Runs.{RaidRuns, raid_runs_same, raid_runs_then}
use Rattle.raid_rack.specs.declared.arrays.RaidRack.{RaidRack}
use Rattle.pool.specs.declared.Pool.{Pool}
use Rattle.pool.specs.View.{arrays_of, bay_in, view, volume}
use Rattle.pool.specs.Keeping.{KeepsBook, most_raised}
use Rattle.pool.specs.Works.{IsWorked, KeepsAllMembers, KeepsPlan}
use Rattle.pool.specs.Volume.{Refines, unchanged}
use Rattle.raid_rack.proofs.Raises.{raises_more, raises_none, raises_then}
use Rattle.pool.proofs.Booked.{book_same, book_then}
use Rattle.pool.proofs.Closing.{all_members_then, members_same, plan_then}
use Rattle.pool.proofs.Doing.{does_kept}
use Rattle.pool.proofs.Reached.{with_arrays}
use Rattle.pool.proofs.Serving.{IsCall, KeepNames, Laws, is_call}

module _ {R : Type 0} (seen : R → RackView) (shelf : R → Shelf) (runs : R → R → Type 0) where
  -- no work
  pub worked_none : ((r : R) → runs r r) → (p : Pool R) → (volume (view seen shelf p)).fit → IsWorked seen runs 0 p p
  worked_none same p fit =
      let raid = arrays_of p in
      record {
        linear = refl;
        keeps = record { stays = stays_same (raid_seen seen raid) fit.0; keeps = record { held = λ d s live. keeps_same ((raid_seen seen raid).held d s); stops = λ traced. leaves_same (raid_seen seen raid) (IsPick (raid_seen seen raid) (raid_seen seen raid) (raid_seen seen raid).held) } };
        ran = runs_none (tables (slices_in raid)) (seen (bay_in p)) (runs (bay_in p) (bay_in p)) (same (bay_in p));
        book = raid_runs_same (written_in raid) (raid_in raid) (slices_seen seen raid);
        arrays = book_same (raid_in raid);
        members = members_same (raid_in raid);
        plan = inl refl;
        raises = raises_none (raid_in raid);
      }

  -- a work of the arrays, reached through the volume
  pub worked_by : (p : Pool R) (old new : RaidRack R) → old ≡ arrays_of p → KeepsRack (raid_seen seen old) (raid_seen seen new)
      → SliceRuns seen runs (slices_in old) (slices_in new)
      → RaidRuns (written_in old) (written_in new) (raid_in old) (raid_in new) (slices_seen seen old) (slices_seen seen new)
      → KeepsBook (raid_in (arrays_of p)) (raid_in new) → KeepsAllMembers (raid_in (arrays_of p)) (raid_in new)
      → KeepsPlan (linear p.volume) (raid_in (arrays_of p)) (raid_in new) → RaisesBy 18 (raid_in old) (raid_in new)
      → IsWorked seen runs 1 p (with_arrays p new)
  worked_by p old new same keeps ran book arrays members plan raises = record {
    linear = refl;
    keeps = subst (λ (r : RaidRack R). KeepsRack (raid_seen seen r) (raid_seen seen new)) same keeps;
    ran = subst (λ (r : RaidRack R). SliceRuns seen runs (slices_in r) (slices_in new)) same ran;
    book = subst (λ (r : RaidRack R). RaidRuns (written_in r) (written_in new) (raid_in r) (raid_in new) (slices_seen seen r) (slices_seen seen new)) same book;
    arrays = arrays;
    members = members;
    plan = plan;
    raises = raises_more 18 most_raised (raid_in (arrays_of p)) (raid_in new) (omega arith)
        (subst (λ (r : RaidRack R). RaisesBy 18 (raid_in r) (raid_in new)) same raises);
  }

  -- as many calls of the arrays, and more works
  pub worked_many : (least most : ℕ) (p q : Pool R) → least ≤ most → IsWorked seen runs least p q → IsWorked seen runs most p q
  worked_many least most p q fewer worked = record {
    linear = worked.linear;
    keeps = worked.keeps;
    ran = worked.ran;
    book = worked.book;
    arrays = worked.arrays;
    members = worked.members;
    plan = worked.plan;
    raises = raises_more (most_raised * least) (most_raised * most) (raid_in (arrays_of p)) (raid_in (arrays_of q)) (omega (arith, fewer)) worked.raises;
  }

  -- works in a row
  pub worked_then : ((r s t : R) → runs r s → runs s t → runs r t) → (count : ℕ) (p q r : Pool R) → IsWorked seen runs count p q → IsWorked seen runs 1 q r
      → IsWorked seen runs (count + 1) p r
  worked_then join count p q r one two =
      let a = arrays_of p in
      let b = arrays_of q in
      let c = arrays_of r in
      record {
        linear = two.linear ∙ one.linear;
        keeps = record {
          stays = stays_then one.keeps.stays two.keeps.stays;
          keeps = keeps_all_then one.keeps.stays two.keeps.stays one.keeps.keeps two.keeps.keeps;
        };
        ran = runs_join (tables (slices_in a)) (tables (slices_in b)) (tables (slices_in c)) (seen (bay_in p)) (seen (bay_in q)) (seen (bay_in r))
            (runs (bay_in p) (bay_in q)) (runs (bay_in q) (bay_in r)) (runs (bay_in p) (bay_in r)) one.ran two.ran
            (join (bay_in p) (bay_in q) (bay_in r) one.ran.below two.ran.below);
        book = raid_runs_then (written_in a) (written_in b) (written_in c) (raid_in a) (raid_in b) (raid_in c)
            (slices_seen seen a) (slices_seen seen b) (slices_seen seen c) one.book two.book;
        arrays = book_then (raid_in a) (raid_in b) (raid_in c) one.book.book.same.made two.book.book one.arrays two.arrays;
        members = all_members_then (raid_in a) (raid_in b) (raid_in c) one.book.book.same.made one.members two.members;
        plan = plan_then (linear p.volume) (raid_in a) (raid_in b) (raid_in c) one.book.book two.book.book one.arrays two.arrays one.members one.plan
            (subst (λ (l : Linear). KeepsPlan l (raid_in b) (raid_in c)) one.linear two.plan);
        raises = raises_more (most_raised * count + most_raised) (most_raised * (count + 1)) (raid_in a) (raid_in c) (omega arith)
            (raises_then (most_raised * count) most_raised (raid_in a) (raid_in b) (raid_in c) one.book.book.same.made one.raises two.raises);
      }

  -- the volume after them
  worked_stays : (count : ℕ) (p q : Pool R) → (volume (view seen shelf p)).fit → IsWorked seen runs count p q → SameRack (volume (view seen shelf p)) (volume (view seen shelf q))
  worked_stays count p q fit worked =
      subst (λ (l : Linear). SameRack (volume (view seen shelf p)) (volume_of l (raid_seen seen (arrays_of q)))) (sym worked.linear)
      (stays_volume {l = linear p.volume} {a = raid_seen seen (arrays_of p)} {b = raid_seen seen (arrays_of q)} fit.1 worked.keeps.stays)

  worked_keeps : (count : ℕ) (p q : Pool R) → (volume (view seen shelf p)).fit → IsWorked seen runs count p q → KeepsAll (volume (view seen shelf p)) (volume (view seen shelf q))
  worked_keeps count p q fit worked =
      let l = linear p.volume in
      let a = raid_seen seen (arrays_of p) in
      let b = raid_seen seen (arrays_of q) in
      subst (λ (own : Linear). KeepsAll (volume (view seen shelf p)) (volume_of own b)) (sym worked.linear)
      (keeps_volume {l = l} {a = a} {b = b} p.volume.orderly (stays_volume {l = l} {a = a} {b = b} fit.1 worked.keeps.stays).fit.1 worked.keeps.keeps)

  pub worked_fit : (count : ℕ) (p q : Pool R) → (volume (view seen shelf p)).fit → IsWorked seen runs count p q → (volume (view seen shelf q)).fit
  worked_fit count p q fit worked = (worked_stays count p q fit worked).fit

  pub worked_call : (laws : Laws seen) (names : KeepNames shelf runs) (count : ℕ) (p q : Pool R) → (volume (view seen shelf p)).fit → IsWorked seen runs count p q → IsCall count (view seen shelf p) (view seen shelf q)
  worked_call laws names count p q fit worked =
      is_call seen shelf runs laws names count p q fit (worked_stays count p q fit worked) worked.linear worked.ran worked.book.book worked.book.caused worked.arrays worked.book.truths worked.book.moments worked.book.unwritten
      (only_quiet (IsShown (linear p.volume)) worked.keeps.stays worked.keeps.keeps) worked.raises

  pub worked_does : (laws : Laws seen) (names : KeepNames shelf runs) (count : ℕ) (p q : Pool R) → (volume (view seen shelf p)).fit → IsWorked seen runs count p q
      → Refines (view seen shelf p) (view seen shelf q) unchanged unchanged
  worked_does laws names count p q fit worked =
      let call = worked_call laws names count p q fit worked in
      does_kept (view seen shelf p) (view seen shelf q) call.passes call.sound (worked_keeps count p q fit worked)
