-- The disk of a name is added, by what its parts say.
use Rattle.std.specs.Prelude.{Ok, Err, OnOk}
use Rattle.std.proofs.Common.{ℕ, ◌+◌, ◌*◌, ◌<◌, List, length, refl, sym, subst, inl, inr, arith}
use Rattle.std.proofs.lemmas.Bool.{both_ways}
use Rattle.rack.specs.Seen.{Rose}
use Rattle.array_image.specs.States.{is_current}
use Rattle.raid_rack.proofs.Raises.{raises_more}
use Rattle.slice_rack.specs.Slices.{IsOrderly}
use Rattle.pool.specs.Adding.{AddsBy, AddsDrive, IsAdded, refusal_of_add}
use Rattle.pool.specs.Keeping.{most_raised}
use Rattle.pool.specs.Moment.{IsNamed, moment_of}
use Rattle.pool.specs.Taking.{AttachesDisk}
use Rattle.pool.specs.View.{View, book, volume}
use Rattle.pool.specs.declared.replacing.GrowFault.{GrowFault}
use Rattle.pool.proofs.Added.{late_add}
use Rattle.pool.proofs.Booked.{raises_still}
use Rattle.pool.proofs.Continuing.{continues_then}
use Rattle.pool.proofs.Late.{Answer}
use Rattle.pool.proofs.Later.{later}
use Rattle.pool.proofs.NamedDisks.{attached_cause, before_same, names_since, only, rose_from, unattached_cause}

module _ (x : View) (bay : x.bays.one) (name : List ℕ) (fit : (volume x).fit) (ordered : IsOrderly x.slices) where
  abbrev m : View
  m = later x (x.bays.seen bay) (x.bays.shelf bay) x.slices x.arrays

  -- the place after the last one
  abbrev next : ℕ
  next = length (book x).state.drives.items

  past_last : next < next + 1
  past_last = omega arith

  -- no disk is attached
  pub added_unattached : (e : GrowFault) → AttachesDisk x m name (Err e) → AddsDrive x m name (Err e)
  added_unattached e at = record {
    continues = at.continues;
    raises = raises_still 1 x;
    marks = λ k was now. absurd (both_ways (is_current (book x).state k) now was);
    adds = record {
      names = at.names;
      cause = unattached_cause x bay name (next + 1) next (refusal_of_add x.linear (book x)) ⊥ past_last e at;
      declined = (refl, refl);
      added = tt;
    };
  }

  -- one is
  module _ (disk : ℕ) (at : AttachesDisk x m name (Ok disk)) where
    added_since : (y : View) → IsAdded (moment_of m) (moment_of y) disk → IsAdded (moment_of x) (moment_of y) disk
    added_since y is = record {
      turns = is.turns;
      cause = λ now. subst (λ n. Rose n (y.bay.faults disk)) (before_same x bay name disk at disk) (is.cause now);
      seats = is.seats;
    }

    pub added_by : (y : View) (r : Answer) → AddsBy m y disk r → AddsDrive x y name r
    added_by y r by = record {
      continues = continues_then x m y at.continues by.continues;
      raises = raises_more 36 (most_raised * 1) (book x) (book y) (omega arith) by.raises;
      marks = λ k was now. elim (by.marks k was now) [ inl rose ↦ inl (rose_from x bay name disk at fit ordered y k was rose) | inr never ↦ absurd never ];
      adds = record {
        names = names_since x bay name disk at y by.names by.disks;
        cause =
            attached_cause x bay name disk at y by.names (next + 1) next (refusal_of_add x.linear (book x)) ⊥ past_last r (by.continues.proceeds.disks.sectors disk at.ok.1)
            (late_add x.linear (book x) (m.bay.sectors disk)) by.answer by.gone (λ same. inl (by.not_whole same));
        declined = by.declined;
        added = all r by.added;
      };
    }
      where
        all : (r : Answer) → OnOk r (IsAdded (moment_of m) (moment_of y) disk)
            → OnOk r ((d : ℕ) → IsNamed (moment_of y) name d → IsAdded (moment_of x) (moment_of y) d)
        all (Err e) none = tt
        all (Ok u) is = λ d named. subst (λ e. IsAdded (moment_of x) (moment_of y) e) (sym (only x bay name disk at y by.names d named)) (added_since y is)
