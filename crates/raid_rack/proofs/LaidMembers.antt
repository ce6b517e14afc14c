-- The slices of a new array's members, laid one after the other, or taken away again: slices of other numbers stay.
use Rattle.std.proofs.Common.{◌≡◌, ◌≢◌, ◌<◌, ◌≤◌, ◌+◌, ◌*◌, ℕ, true, false, None, Result, Ok, Err, is_ok, refl, sym, ap, subst, ◌∙◌, inl, inr, arith}
use Rattle.std.proofs.lemmas.Bool.{both_ways}
use Rattle.rack.specs.Seen.{RackView}
use Rattle.array_image.specs.Places.{log_slice, member_slice, slice_of}
use Rattle.array_model.specs.View.{place_at}
use Rattle.slice_rack.specs.declared.SliceFault.{SliceFault}
use Rattle.slice_rack.specs.declared.SliceFault.TheVariants.{Outside, Overlap, Unseated}
use Rattle.slice_rack.specs.Changes.{IsPast, IsWithin, Overlaps}
use Rattle.slice_rack.specs.SliceRack.{below_of, tables}
use Rattle.slice_rack.specs.Sliced.{slices_of}
use Rattle.slice_rack.specs.Slices.{Slices, place_of, seat_of as disk_at}
use Rattle.raid_laws.specs.Moves.{IsSet}
use Rattle.raid_laws.specs.Raid.{Raid}
use Rattle.raid_rack.specs.declared.arrays.RaidRack.{RaidRack}
use Rattle.raid_rack.specs.Growing.{CannotAdd, KeepsOtherSlices}
use Rattle.raid_rack.specs.RaidRack.{IsFit, arrays_in, raid_in, refused_in, slices_in, slices_seen, written_in}
use Rattle.raid_rack.proofs.Laid.{same_faults}

-- where it is refused, it couldn't be laid before others of this number either
pub cannot_add : (s t : Slices) (x y : RackView) (place n first sectors : ℕ) (result : Result (Unit {0}) SliceFault) → n < 16 → ((d : ℕ) → y.sectors d ≡ x.sectors d)
    → KeepsOtherSlices (n + 1) s t → ((p : ℕ) → disk_at t p ≡ disk_at s p)
    → (result ≡ Err Unseated → disk_at t place ≡ None) → (result ≡ Err Outside → IsPast t y place first sectors)
    → (result ≡ Err Overlap → IsWithin t y place first sectors × Overlaps t (17 * place + (n + 1)) first sectors) → is_ok result ≡ false → CannotAdd s x place n first sectors
cannot_add s t x y place n first sectors (Ok is) low size others seats unseated outside overlap refused = absurd (both_ways true refused refl)
cannot_add s t x y place n first sectors (Err Unseated) low size others seats unseated outside overlap refused = inl (sym (seats place) ∙ unseated refl)
cannot_add s t x y place n first sectors (Err Outside) low size others seats unseated outside overlap refused =
    let past = outside refl in
    inr (inl (past.0, sym (seats place) ∙ past.1, subst (λ k. k < first + sectors) (size past.0) past.2))
cannot_add s t x y place n first sectors (Err Overlap) low size others seats unseated outside overlap refused =
    let over = (overlap refl).1 in
    let d = over.0 in
    let on = over.1 in
    let apart = over.2 in
    let shares = over.3 in
    let other : slice_of d ≢ n + 1 = λ same. apart (omega (arith, same, on, low)) in
    inr (inr (
      d,
      (let at : place_of (member_slice place n) ≡ place_of (17 * place + (n + 1)) = omega (arith, low) in on ∙ sym at),
      (λ same. apart (omega (arith, same))),
      (
        shares.0,
        (
          shares.1.0,
          shares.1.1,
          subst (λ k. shares.1.0 < k) (others.sectors d other) shares.1.2,
          shares.1.3 ∙ ap (λ k. k + shares.1.0) (others.firsts d other),
        ),
      ),
    ))

-- ---- the arrays that are there

-- they stand over the other tables as they did: none of them has a slice of the next number
pub other_slices_set : (t u : Slices) (x : RackView) (v : Raid) → KeepsOtherSlices (v.state.made + 1) t u → (slices_of u x).fit → IsSet v (slices_of t x) → IsSet v (slices_of u x)
other_slices_set t u x v others fit set = record {
  fit = fit;
  lasting = set.lasting;
  disks = refl;
  few = set.few;
  most = set.most;
  valid = set.valid;
  logs = λ p left. others.sectors (log_slice p) (λ same. omega (arith, same)) ∙ set.logs p left;
  arrays = λ m low.
      let at = set.arrays m low in
      record {
        is_array = at.is_array;
        number = at.number;
        slices = record {
          fit = fit;
          lasting = at.slices.lasting;
          disks = at.slices.disks;
          sectors = λ k inside there.
              subst (λ size. 2048 + (v.arrays m).truth.size ≤ size)
              (sym (others.sectors (member_slice (place_at (v.arrays m) k) (v.arrays m).number)
              (λ same. let most = set.most in let number = at.number in omega (arith, same, number, low, most))))
              (at.slices.sectors k inside there);
        };
        marks = at.marks;
        is_of_pool = at.is_of_pool;
      };
  marked = set.marked;
}

-- A rack of arrays of which only slices of one number may have changed.
pub record LaysOnly {R : Type 0} (seen : R → RackView) (number : ℕ) (p q : RaidRack R) : Type 0 where
  pub others : KeepsOtherSlices number (tables (slices_in p)) (tables (slices_in q))
  pub below : below_of (slices_in q) ≡ below_of (slices_in p)
  pub arrays : arrays_in q ≡ arrays_in p
  pub refused : (n : ℕ) → refused_in q n ≡ refused_in p n
  pub written : (n : ℕ) → written_in q n ≡ written_in p n
  pub seconds : q.seconds ≡ p.seconds
  pub seats : (place : ℕ) → disk_at (tables (slices_in q)) place ≡ disk_at (tables (slices_in p)) place
  pub fit : (slices_seen seen q).fit

pub lays_then : {R : Type 0} (seen : R → RackView) (number : ℕ) (p q s : RaidRack R) → LaysOnly seen number p q → LaysOnly seen number q s → LaysOnly seen number p s
lays_then seen number p q s one two = record {
  others = record { sectors = λ d other. two.others.sectors d other ∙ one.others.sectors d other; firsts = λ d other. two.others.firsts d other ∙ one.others.firsts d other };
  below = two.below ∙ one.below;
  arrays = two.arrays ∙ one.arrays;
  refused = λ n. two.refused n ∙ one.refused n;
  written = λ n. two.written n ∙ one.written n;
  seconds = two.seconds ∙ one.seconds;
  seats = λ place. two.seats place ∙ one.seats place;
  fit = two.fit;
}

-- its arrays are fit, where the number is that of the next array's slices
pub lays_fit : {R : Type 0} (seen : R → RackView) (n : ℕ) (p q : RaidRack R) → LaysOnly seen (n + 1) p q → n ≡ (raid_in p).state.made → IsFit (arrays_in p) (slices_seen seen p)
    → IsFit (arrays_in q) (slices_seen seen q)
lays_fit seen n p q lays next was =
    let t = tables (slices_in p) in
    let u = tables (slices_in q) in
    let r = below_of (slices_in q) in
    let v = raid_in p in
    subst (λ a. IsFit a (slices_seen seen q)) (sym lays.arrays)
    (record {
      running = record {
        count = was.running.count;
        set = other_slices_set t u (seen r) v (subst (λ k. KeepsOtherSlices (k + 1) t u) next lays.others) lays.fit
            (subst (λ k. IsSet v (slices_of t (seen k))) (sym lays.below) was.running.set);
      };
      heeded = was.heeded;
    })

-- and no disk's faults changed
pub lays_faults : {R : Type 0} (seen : R → RackView) (number : ℕ) (p q : RaidRack R) → LaysOnly seen number p q → (d : ℕ) → (slices_seen seen q).faults d ≡ (slices_seen seen p).faults d
lays_faults seen number p q lays d =
    ap (λ r. (slices_of (tables (slices_in q)) (seen r)).faults d) lays.below
    ∙ same_faults (tables (slices_in p)) (tables (slices_in q)) (seen (below_of (slices_in p))) lays.seats d
