-- The disk of a name takes the place of a drive of other units, by what its parts say.
use Rattle.std.specs.Prelude.{Ok, Err, OnOk}
use Rattle.std.proofs.Common.{◌≡◌, ◌≢◌, ℕ, ◌*◌, ◌<◌, ◌&&◌, not, Bool, true, false, List, length, None, refl, sym, ap, subst, ◌∙◌, inl, inr, arith}
use Rattle.std.proofs.lemmas.Bool.{and_from, and_parts, both_ways, cases_Bool}
use Rattle.rack.specs.Seen.{Rose}
use Rattle.slice_rack.specs.Slices.{IsOrderly}
use Rattle.array_image.specs.States.{is_current}
use Rattle.pool_state.specs.declared.contents.Plan.TheVariants.{Replace}
use Rattle.raid_laws.specs.Book.{OnlyMarksSince}
use Rattle.raid_laws.specs.Moves.{RaisesBy}
use Rattle.raid_rack.proofs.Raises.{raises_more}
use Rattle.pool.specs.Adding.{IsTakenIn}
use Rattle.pool.specs.Enlarging.{Enlarges, EnlargesBy, EnlargesDrive, TakesLarger}
use Rattle.pool.specs.Keeping.{most_raised}
use Rattle.pool.specs.Moment.{moment_of}
use Rattle.pool.specs.Replaced.{HasMarked, HasMarkedOther, IsAnswer}
use Rattle.pool.specs.Replacing.{has_other_missing, has_same, refusal_of}
use Rattle.pool.specs.Taking.{AttachesDisk}
use Rattle.pool.specs.View.{View, book, volume}
use Rattle.pool.specs.declared.replacing.GrowFault.TheVariants.{Gone, NoSuchDrive, NotWhole}
use Rattle.pool.proofs.Admitted.{others_current}
use Rattle.pool.proofs.Composed.{declined_since}
use Rattle.pool.proofs.NamedDisks.{before_same, here, names_since, not_drive, only, rose_from}
use Rattle.pool.proofs.Continuing.{continues_then}
use Rattle.pool.proofs.Late.{Answer, never_fault, same_fault}
use Rattle.pool.proofs.Later.{later}
use Rattle.pool.proofs.Readying.{many_same, other_missing}
use Rattle.pool.proofs.Ways.{other_marked}

-- the whole of a call on the bay, by its tries
pub enlarged : (x y : View) (place disk : ℕ) (r : Answer) → disk < x.bay.disks → refusal_of x.linear (book x) place (x.bay.sectors disk) ≡ None
    → has_same (book x) place (x.bay.sectors disk) ≡ false → (k : ℕ) → k < most_raised → RaisesBy k (book x) (book y) → (r ≡ Err NotWhole → HasMarkedOther (moment_of x) (moment_of y) place)
    → EnlargesBy x y place disk r → Enlarges x y place disk r
enlarged x y place disk r low admits other k few raises lost by =
    let size : y.bay.sectors disk ≡ x.bay.sectors disk = by.continues.proceeds.disks.sectors disk low in
    record {
      larger = (ap (refusal_of x.linear (book x) place) size ∙ admits, ap (has_same (book x) place) size ∙ other);
      raises = raises_more k (most_raised * 1) (book x) (book y) (omega (arith, few)) raises;
      not_whole = lost;
      by = by;
    }

-- where a try found a drive gone, and not that of the place alone, another one is marked
pub other_lost : (x y : View) (place : ℕ) → has_other_missing (book x).state place ≡ false → OnlyMarksSince (book x).state (book y).state
    → (not (is_current (book y).state place) && not (has_other_missing (book y).state place)) ≡ false → HasMarked (moment_of x) (moment_of y)
    → HasMarkedOther (moment_of x) (moment_of y) place
other_lost x y place whole marks apart lost =
    elim (cases_Bool (is_current (book y).state place)) [
      | inl current ↦ other_marked x y place (inr current) lost
      | inr gone ↦
          elim (cases_Bool (has_other_missing (book y).state place)) [
            | inl lacks ↦
                let one = other_missing (book y).state place lacks in
                (one.0, one.1, was one.0 one.1 one.2, one.3)
            | inr alone ↦
                absurd
                (both_ways (not (is_current (book y).state place) && not (has_other_missing (book y).state place)) apart
                (and_from (not (is_current (book y).state place)) (not (has_other_missing (book y).state place)) (ap not gone) (ap not alone)))
          ]
    ]
  where
    was : (k : ℕ) → k ≢ place → k < length (book y).state.drives.items → is_current (book x).state k ≡ true
    was k away inside = others_current (book x).state place whole k (let count = many_same (book x).state (book y).state marks in omega (arith, inside, count)) away

-- the place's own is missing then, and no other
pub alone_is : (m : View) (place : ℕ) → (not (is_current (book m).state place) && not (has_other_missing (book m).state place)) ≡ true
    → (is_current (book m).state place ≡ false) × (has_other_missing (book m).state place ≡ false)
alone_is m place is =
    let both = and_parts (not (is_current (book m).state place)) (not (has_other_missing (book m).state place)) is in
    (is_not (is_current (book m).state place) both.0, is_not (has_other_missing (book m).state place) both.1)
  where
    is_not : (b : Bool) → not b ≡ true → b ≡ false
    is_not true is = sym is
    is_not false is = refl

-- a drive that another try marked was current before the first
pub lost_then : (x m y : View) (place : ℕ) → OnlyMarksSince (book x).state (book m).state → HasMarkedOther (moment_of m) (moment_of y) place → HasMarkedOther (moment_of x) (moment_of y) place
lost_then x m y place marks lost = (lost.0, lost.1, marks.current lost.0 lost.2, lost.3)

-- it isn't answered that the place isn't in the list
pub listed_then : (r : Answer) → IsAnswer None r → r ≡ Err NoSuchDrive → ⊥
listed_then r (inl served) is = never_fault NoSuchDrive (sym served ∙ is)
listed_then r (inr (inl gone)) is = let e : Gone ≡ NoSuchDrive = same_fault Gone NoSuchDrive (sym gone ∙ is) in cc e
listed_then r (inr (inr whole)) is = let e : NotWhole ≡ NoSuchDrive = same_fault NotWhole NoSuchDrive (sym whole ∙ is) in cc e

-- ---- by the name

module _ (x : View) (bay : x.bays.one) (place : ℕ) (name : List ℕ) (listed : place < length (book x).state.drives.items) (fit : (volume x).fit) (ordered : IsOrderly x.slices)
    (disk : ℕ) (at : AttachesDisk x (later x (x.bays.seen bay) (x.bays.shelf bay) x.slices x.arrays) name (Ok disk)) (y : View) (r : Answer) where
  abbrev m : View
  m = later x (x.bays.seen bay) (x.bays.shelf bay) x.slices x.arrays

  taken_since : (r : Answer) → OnOk r (IsTakenIn (moment_of m) (moment_of y) place (Replace place) disk) → OnOk r (IsTakenIn (moment_of x) (moment_of y) place (Replace place) disk)
  taken_since (Err e) is = tt
  taken_since (Ok u) is =
      record { turns = is.turns; cause = λ now. subst (λ n. Rose n (y.bay.faults disk)) (before_same x bay name disk at disk) (is.cause now); seats = is.seats }

  by_since : EnlargesBy m y place disk r → EnlargesBy x y place disk r
  by_since by = record {
    continues = continues_then x m y at.continues by.continues;
    marks = λ k was now. elim (by.marks k was now) [ inl rose ↦ inl (rose_from x bay name disk at fit ordered y k was rose) | inr own ↦ inr own ];
    takes = record {
      answer = by.takes.answer;
      gone = λ is. subst (λ n. Rose n (y.bay.faults disk)) (before_same x bay name disk at disk) (by.takes.gone is);
      declined = declined_since x bay place name listed fit ordered disk at y r by.takes.declined;
      taken = taken_since r by.takes.taken;
    };
  }

  pub enlarged_by : y.shelf.names ≡ (x.bays.shelf bay).names → y.bay.disks ≡ (x.bays.seen bay).disks → Enlarges m y place disk r → EnlargesDrive x y place name r
  enlarged_by names disks is =
      let by = by_since is.by in
      record {
        continues = by.continues;
        raises = is.raises;
        marks = by.marks;
        enlarging = record {
          listed = listed;
          other = not_drive x bay name disk at;
          disk = disk;
          named = here x bay name disk at y names;
          larger = is.larger;
        };
        enlarges = record {
          names = names_since x bay name disk at y names disks;
          not_whole = is.not_whole;
          takes = λ d is_d. subst (λ e. TakesLarger (moment_of x) (moment_of y) place e r) (sym (only x bay name disk at y names d is_d)) by.takes;
        };
      }
