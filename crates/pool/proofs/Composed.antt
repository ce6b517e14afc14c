-- A replacing, by what its parts say.
use Rattle.std.specs.Prelude.{Ok, Err, IfErr, OnOk}
use Rattle.std.proofs.Common.{◌≡◌, ◌⊎◌, ℕ, ◌<◌, ◌≤◌, true, false, List, length, slice_get, Some, refl, sym, ap, subst, ◌∙◌, inl, inr, arith}
use Rattle.std.proofs.lemmas.Bool.{both_ways, cases_Bool}
use Rattle.rack.specs.Joins.{keeps_same}
use Rattle.rack.specs.Values.{Keeps, MayLeave, Values}
use Rattle.rack.specs.Moments.{IsSound}
use Rattle.rack.specs.Seen.{Image, Rose, RackView}
use Rattle.rack.specs.Shelf.{Shelf}
use Rattle.flat_array.specs.Array.{FlatArray}
use Rattle.array_image.specs.States.{is_current}
use Rattle.raid_laws.specs.Book.{OnlyMarksSince, after_same}
use Rattle.raid_laws.specs.Losing.{arrays_same}
use Rattle.raid_laws.specs.Moves.{KeepsArrays}
use Rattle.raid_laws.specs.Enlisting.{new_table}
use Rattle.raid_laws.specs.NewDrive.{IsOfDrive as IsLaid}
use Rattle.raid_laws.specs.Raid.{Raid}
use Rattle.pool.specs.declared.replacing.GrowFault.{GrowFault}
use Rattle.pool.specs.declared.replacing.GrowFault.TheVariants.{NoSuchDrive, Attach, Twice, Memory, Gone, NotWhole}
use Rattle.rack.specs.Untouched.{KeepsDisk}
use Rattle.pool.specs.Continuing.{NoDisk}
use Rattle.pool.specs.Moment.{IsImage, IsNamed, moment_of, views_of}
use Rattle.pool.specs.Replaced.{DriveWentSince, HasMarkedOther, HasTable, IsAnswer, IsDeclined, IsLaidOn, IsReplaced, LeavesNew, MeansFormer, MeansWith}
use Rattle.pool.specs.Naming.{EntersDrive, EntersNamed, ReplacesDrive}
use Rattle.pool.specs.Replacing.{IsAdmissible, refusal_of}
use Rattle.pool.specs.Entering.{Declines, Enters, StaysStill}
use Rattle.pool.specs.Taking.{AreTold, AttachesDisk, ReplacesBy}
use Rattle.array_image.specs.Places.{log_slice}
use Rattle.slice_rack.specs.Runs.{IsSliced}
use Rattle.slice_rack.specs.Slices.{IsOrderly, disk_of}
use Rattle.pool.specs.View.{View, book, volume}
use Rattle.pool.specs.Volume.{VolumeIs}
use Rattle.pool.proofs.Booked.{book_same, raises_still}
use Rattle.pool.proofs.Carrying.{carries_same, carries_then, ends_of, holds_of}
use Rattle.pool.proofs.Continuing.{continues_same, continues_then, outside_fewer, outside_then}
use Rattle.pool.proofs.Enlisted.{book_but}
use Rattle.pool.proofs.NamedDisks.{attached_cause, before_same, names_since, not_drive, rose_from, unattached_cause}
use Rattle.pool.proofs.Later.{later}
use Rattle.pool.proofs.Late.{Answer, refusal_late, same_fault}

-- nothing is called
still_disk : (Told : Type 0) (a b : RackView) (d : ℕ) → ((k : ℕ) → b.held d k ≡ a.held d k) → b.clock ≡ a.clock → KeepsDisk Told a b d
still_disk Told a b d held clock = record {
  held = λ k within told. subst (λ h. Keeps (a.held d k) h) (sym (held k)) (keeps_same (a.held d k));
  stops = λ told traced k i since until stopped. absurd (omega (arith, since, until, clock));
}

-- ---- the place isn't in the list

-- nothing was called
declined_none : (x y : View) (place : ℕ) (fault : GrowFault) → book y ≡ book x → y.slices ≡ x.slices → y.bay.clock ≡ x.bay.clock
    → ((d : ℕ) → d < x.bay.disks → (s : ℕ) → y.bay.held d s ≡ x.bay.held d s) → IsDeclined (moment_of x) (moment_of y) place fault
declined_none x y place fault same slices clock held = record {
  marks = subst (λ (v : Raid). OnlyMarksSince (book x).state v.state) (sym same) (after_same (book x).state);
  plan = ap (λ (v : Raid). v.state.plan) same;
  arrays = subst (λ (v : Raid). KeepsArrays (book x) v) (sym same) (arrays_same (book x));
  cause = λ k was now. absurd (both_ways (is_current (book x).state k) (subst (λ (v : Raid). is_current v.state k ≡ false) same now) was);
  slices = inl slices;
  unmarked = λ is missing. same;
  others = λ is k away was. subst (λ (v : Raid). is_current v.state k ≡ true) (sym same) was;
  quiet = λ other none. (same, slices, clock, held);
}

pub replaced_unlisted : (x : View) (place : ℕ) (name : List ℕ) → (volume x).fit → (x.bay.traced → IsSound (volume x))
    → length (book x).state.drives.items ≤ place → ReplacesDrive x x place name (Err NoSuchDrive)
replaced_unlisted x place name fit sound past = record {
  continues = continues_same x fit;
  raises = raises_still 1 x;
  keeps = book_but place (book x) (book x) (book_same (book x));
  kept = book_same (book x);
  outside = record {
    slices = λ d s v is. inl is;
    held = λ d s out. keeps_same (x.bay.held d s);
    stops = λ told traced k i since until stopped. absurd (omega (arith, since, until));
  };
  changes = λ low. absurd (omega (arith, low, past));
  cause = record {
    missing = (λ same. past, λ same. refl);
    attach = λ same. absurd (let e : NoSuchDrive ≡ Attach = same_fault NoSuchDrive Attach same in cc e);
    none = λ why. refl;
    used = λ d named. (λ same. let e : NoSuchDrive ≡ Attach = same_fault NoSuchDrive Attach same in cc e, λ same. let e : NoSuchDrive ≡ Memory = same_fault NoSuchDrive Memory same in cc e);
    twice = (λ same. absurd (let e : NoSuchDrive ≡ Twice = same_fault NoSuchDrive Twice same in cc e), λ at. absurd (let low = at.0 in omega (arith, low, past)));
    named = λ at. absurd (let low = at.listed in omega (arith, low, past));
    answer = λ at. absurd (let low = at.listed in omega (arith, low, past));
    gone = λ same. absurd (let e : NoSuchDrive ≡ Gone = same_fault NoSuchDrive Gone same in cc e);
    not_whole = λ same. absurd (let e : NoSuchDrive ≡ NotWhole = same_fault NoSuchDrive NotWhole same in cc e);
  };
  declined = declined_none x x place NoSuchDrive refl refl refl (λ d low s. refl);
  replaced = tt;
  table = tt;
  moments = tt;
  holds = λ a holds. holds;
  truths = λ names all n low held. held;
  leaves = λ traced a holds k i since until stopped. absurd (omega (arith, since, until));
  steps = record { enters = tt; left = inl (refl, refl, refl) };
  ends = λ traced a holds i stopped. ends_of x (sound traced) a holds i stopped;
}

-- a refusal by how the pool stands
pub nothing_done : (x : View) (place disk : ℕ) (e : GrowFault) → (volume x).fit → refusal_of x.linear (book x) place (x.bay.sectors disk) ≡ Some e
    → ReplacesBy x x place disk (Err e)
nothing_done x place disk e fit is = record {
  takes = record {
    continues = continues_same x fit;
    carries = carries_same x;
    keeps = book_but place (book x) (book x) (book_same (book x));
    kept = book_same (book x);
    outside = record {
      slices = λ d s v is. inl is;
      held = λ d s out. keeps_same (x.bay.held d s);
      stops = λ told traced k i since until stopped. absurd (omega (arith, since, until));
    };
    names = refl;
    bare = λ d seat other. inl refl;
    disks = refl;
    gone = λ same. absurd ((refusal_late x.linear (book x) place (x.bay.sectors disk) e is).1 (same_fault e Gone same));
    declined = declined_none x x place e refl refl refl (λ d low s. refl);
    replaced = tt;
    table = tt;
    moments = tt;
    leaves = λ traced a holds k i since until stopped. absurd (omega (arith, since, until));
  };
  raises = raises_still 1 x;
  retired = λ k d low missing seat other. still_disk x.shelf.told x.bay x.bay d (λ k. refl) refl;
  laid = λ low all k v within unsliced left. inl left;
  admitted = inl refl;
  answer = subst (λ o. IsAnswer o (Err e)) (sym is) refl;
  not_whole = λ same. inl (is ∙ ap Some (same_fault e NotWhole same));
  left = inl (refl, refl, refl);
  enters = tt;
}

-- ---- a disk is attached, or none

module _ (x : View) (bay : x.bays.one) (place : ℕ) (name : List ℕ) (listed : place < length (book x).state.drives.items) (fit : (volume x).fit) (ordered : IsOrderly x.slices) where
  abbrev b : RackView
  b = x.bays.seen bay

  abbrev s : Shelf
  s = x.bays.shelf bay

  abbrev m : View
  m = later x b s x.slices x.arrays

  -- none is
  pub replaced_unattached : (e : GrowFault) → AttachesDisk x m name (Err e) → (b.traced → IsSound (volume m)) → ReplacesDrive x m place name (Err e)
  replaced_unattached e at sound = record {
    continues = at.continues;
    raises = raises_still 1 x;
    keeps = book_but place (book x) (book x) (book_same (book x));
    kept = book_same (book x);
    outside = outside_fewer x.slices x.slices NoDisk (IsNamed (moment_of m) name) x.shelf.told x.bay b (λ d none. absurd none) at.outside;
    changes = λ low. record {
      names = at.names;
      bare = λ d seat unnamed. inl refl;
      retired = λ k d low missing seat unnamed. still_disk x.shelf.told x.bay b d (at.held d (fit.0.running.set.fit.1.seats k d seat)) at.clock;
      admitted = inl refl;
      current = λ of. at.outside;
      image = λ told all d named.
          let one = at.image told d named in
          (one.0, one.1, λ k v within unsliced left. inl (subst (λ h. MayLeave h v) (one.2 k within) left));
      spent = at.carries.spent;
      truths = at.carries.truths;
      held = at.carries.held;
    };
    cause = unattached_cause x bay name (length (book x).state.drives.items) place (refusal_of x.linear (book x) place) (HasMarkedOther (moment_of x) (moment_of m) place) listed e at;
    declined = declined_none x m place e refl refl at.clock at.held;
    replaced = tt;
    table = tt;
    moments = tt;
    holds = holds_of x m at.continues at.carries;
    truths = at.carries.truths;
    leaves = λ traced a holds k i since until stopped. let clock = at.clock in absurd (omega (arith, since, until, clock));
    steps = record { enters = tt; left = inl (at.clock, refl, refl) };
    ends = λ traced a holds i stopped. ends_of m (sound (at.continues.proceeds.traced holds.shelf traced)) a (holds_of x m at.continues at.carries a holds) i stopped;
  }

  -- a disk is, and takes the place of the drive
  module _ (disk : ℕ) (at : AttachesDisk x m name (Ok disk)) where
    went_since : (y : View) (k : ℕ) → DriveWentSince (moment_of m) (moment_of y) k → DriveWentSince (moment_of x) (moment_of y) k
    went_since y k rose =
        let d = disk_of y.slices (log_slice k) in
        subst (λ n. Rose n (y.bay.faults d)) (before_same x bay name disk at d) rose

    former_since : (y : View) (a : FlatArray) (i : Image) → MeansFormer (moment_of m) (moment_of y) place a i → MeansFormer (moment_of x) (moment_of y) place a i
    former_since y a i (inl means) = inl means
    former_since y a i (inr without) =
        elim (cases_Bool (is_current (book x).state place)) [
          | inr missing ↦ inr (inl missing, without.1)
          | inl was ↦ elim without.0 [
            | inl missing ↦ absurd (both_ways (is_current (book x).state place) missing was)
            | inr rose ↦ inr (inr (rose_from x bay name disk at fit ordered y place was rose), without.1)
          ]
        ]

    pub declined_since : (y : View) (r : Answer) → IfErr r (IsDeclined (moment_of m) (moment_of y) place) → IfErr r (IsDeclined (moment_of x) (moment_of y) place)
    declined_since y (Ok u) declined = tt
    declined_since y (Err e) declined = record {
      marks = declined.marks;
      plan = declined.plan;
      arrays = declined.arrays;
      cause = λ k was now. rose_from x bay name disk at fit ordered y k was (declined.cause k was now);
      slices = declined.slices;
      unmarked = declined.unmarked;
      others = declined.others;
      quiet = λ other none.
          let still = declined.quiet other none in
          (still.0, still.1, still.2 ∙ at.clock, λ d low s. still.3 d (let more = at.continues.proceeds.disks.disks in omega (arith, low, more)) s ∙ at.held d low s);
    }

    pub replaced_by : (y : View) (r : Answer) → ReplacesBy m y place disk r → (y.bay.traced → IsSound (volume y)) → ReplacesDrive x y place name r
    replaced_by y r by sound =
        let go = continues_then x m y at.continues by.takes.continues in
        let carries = carries_then x m y at.continues at.carries by.takes.carries in
        let here : IsNamed (moment_of y) name disk = ap (λ names. slice_get names disk) by.takes.names ∙ at.ok.0 in
        let size : y.bay.sectors disk ≡ b.sectors disk = by.takes.continues.proceeds.disks.sectors disk at.ok.1 in
        record {
          continues = go;
          raises = by.raises;
          keeps = by.takes.keeps;
          kept = by.takes.kept;
          outside = outside_fewer x.slices y.slices (λ d. NoDisk d ⊎ (d ≡ disk)) (IsNamed (moment_of y) name) x.shelf.told x.bay y.bay (λ d is. named_at y here d is)
              (outside_then x m y NoDisk (λ d. d ≡ disk) at.continues by.takes.continues at.outside by.takes.outside);
          changes = λ low. record {
            names = names_since x bay name disk at y by.takes.names by.takes.disks;
            retired = λ p d inside missing seat unnamed.
                let keeps = by.retired p d inside missing seat (λ is. unnamed (named_at y here d (inr is))) in
                let old = fit.0.running.set.fit.1.seats p d seat in
                let size_d : b.sectors d ≡ x.bay.sectors d = at.continues.proceeds.disks.sectors d old in
                record {
                  held = λ k within told.
                      subst (λ h. Keeps h (y.bay.held d k)) (at.held d old k)
                      (keeps.held k (subst (λ n. k < n) (sym size_d) within) (at.continues.tells d old told));
                  stops = λ told traced k i since until stopped q within tells.
                      subst (λ h. MayLeave h (i d q)) (at.held d old q)
                      (keeps.stops (at.continues.proceeds.told told) (at.continues.proceeds.traced told traced) k i (let clock = at.clock in omega (arith, since, clock)) until stopped q
                      (subst (λ n. q < n) (sym size_d) within) (at.continues.tells d old tells));
                };
            bare = λ d seat unnamed. by.takes.bare d seat (λ is. unnamed (named_at y here d (inr is)));
            admitted = elim by.admitted [
              | inl same ↦ inl same
              | inr none ↦ inr (disk, here, subst (IsAdmissible x.linear (book x) place) (sym size) none)
            ];
            current = λ of. absurd (not_drive x bay name disk at of);
            image = λ told all d named. subst (λ e. IsKept y e) (sym (only y by d named)) (kept y by told all);
            spent = λ s alive. carries.spent s alive;
            truths = carries.truths;
            held = carries.held;
          };
          cause =
              attached_cause x bay name disk at y by.takes.names (length (book x).state.drives.items) place (refusal_of x.linear (book x) place) (HasMarkedOther (moment_of x) (moment_of y) place)
              listed r size (refusal_late x.linear (book x) place (b.sectors disk)) by.answer by.takes.gone by.not_whole;
          declined = declined_since y r by.takes.declined;
          replaced = replaced_since y r (only y by) by.takes.replaced;
          table = table_since y r (only y by) by.takes.table;
          moments = moments_since y r (only y by) by.takes.moments;
          holds = holds_of x y go carries;
          truths = carries.truths;
          leaves = λ traced a holds k i since until stopped.
              elim (by.takes.leaves (at.continues.proceeds.traced holds.shelf traced) a (holds_of x m at.continues at.carries a holds) k i
              (let clock = at.clock in omega (arith, since, clock)) until stopped) [
                | inl former ↦ inl (former_since y a i former)
                | inr means ↦ inr means
              ];
          steps = steps_since y r (only y by) here by.enters by.left;
          ends = λ traced a holds i stopped. ends_of y (sound (go.proceeds.traced holds.shelf traced)) a (holds_of x y go carries a holds) i stopped;
        }
      where
        named_at : (y : View) → IsNamed (moment_of y) name disk → (d : ℕ) → NoDisk d ⊎ (d ≡ disk) → IsNamed (moment_of y) name d
        named_at y here d (inl none) = absurd none
        named_at y here d (inr is) = subst (λ e. IsNamed (moment_of y) name e) (sym is) here

        only : (y : View) → ReplacesBy m y place disk r → (d : ℕ) → IsNamed (moment_of y) name d → d ≡ disk
        only y by d named = at.names.one d disk (ap (λ names. slice_get names d) (sym by.takes.names) ∙ named) at.ok.0

        -- what the disk may be left with
        IsKept : View → ℕ → Type 0
        IsKept y d =
            (held : ℕ → Values)
            × IsImage (moment_of x) name (y.bay.sectors d) held
            × ((k : ℕ) (v : List ℕ) → k < y.bay.sectors d → ((u : List ℕ) → IsSliced y.slices d k u → ⊥) → MayLeave (y.bay.held d k) v
            → MayLeave (held k) v ⊎ IsLaidOn x.linear (moment_of x) place name (y.bay.sectors d) d k v)

        kept : (y : View) → ReplacesBy m y place disk r → x.shelf.told → AreTold x → IsKept y disk
        kept y by told all =
            let one = at.image told disk at.ok.0 in
            let size : y.bay.sectors disk ≡ b.sectors disk = by.takes.continues.proceeds.disks.sectors disk at.ok.1 in (
              one.0,
              subst (λ n. IsImage (moment_of x) name n one.0) (sym size) one.1,
              λ k v within unsliced left.
                  let inside : k < b.sectors disk = subst (λ n. k < n) size within in
                  elim (by.laid at.ok.1 (at.continues.known told all) k v inside unsliced left) [
                    | inl before ↦ inl (subst (λ h. MayLeave h v) (one.2 k inside) before)
                    | inr new ↦ inr (record {
                      admitted = subst (IsAdmissible x.linear (book x) place) (sym size) new.0;
                      other = not_drive x bay name disk at;
                      value = subst (λ n. IsLaid disk (new_table (book x).state (views_of (book x)) place n) disk k v) (sym size) new.1;
                    })
                  ],
            )

        replaced_since : (y : View) (r : Answer) → ((d : ℕ) → IsNamed (moment_of y) name d → d ≡ disk) → OnOk r (IsReplaced (moment_of m) (moment_of y) place disk)
            → OnOk r ((d : ℕ) → IsNamed (moment_of y) name d → IsReplaced (moment_of x) (moment_of y) place d)
        replaced_since y (Err e) same replaced = tt
        replaced_since y (Ok u) same replaced =
            λ d named.
            subst (IsReplaced (moment_of x) (moment_of y) place) (sym (same d named))
            (record {
              units = replaced.units;
              units_is = replaced.units_is;
              enough = replaced.enough;
              marks = replaced.marks;
              plan = replaced.plan;
              cause = λ k was now. went_since y k (replaced.cause k was now);
              seats = replaced.seats;
              arrays = replaced.arrays;
            })

        steps_since : (y : View) (r : Answer) → ((d : ℕ) → IsNamed (moment_of y) name d → d ≡ disk) → IsNamed (moment_of y) name disk → OnOk r (Enters m y place disk)
            → IfErr r (λ e. StaysStill m y ⊎ Declines m y place disk) → EntersDrive x y place name r
        steps_since y (Err e) same here enters left = record {
          enters = tt;
          left = elim left [
            | inl still ↦ inl (still.0 ∙ at.clock, still.1, still.2)
            | inr why ↦ inr (record { disk = disk; named = here; bay = bay; attaches = at; leaves = why })
          ];
        }
        steps_since y (Ok u) same here enters left = record {
          enters = λ d named. subst (EntersNamed x y place name) (sym (same d named)) (record { bay = bay; attaches = at; enters = enters });
          left = tt;
        }

        table_since : (y : View) (r : Answer) → ((d : ℕ) → IsNamed (moment_of y) name d → d ≡ disk) → OnOk r (HasTable m y place disk)
            → OnOk r ((d : ℕ) → IsNamed (moment_of y) name d → HasTable x y place d)
        table_since y (Err e) same table = tt
        table_since y (Ok u) same table =
            λ d named.
            subst (HasTable x y place) (sym (same d named))
            (record {
              copies = λ names all. table.copies (at.continues.proceeds.told names) (at.continues.known names all);
              durable = λ names all. table.durable (at.continues.proceeds.told names) (at.continues.known names all);
            })

        moments_since : (y : View) (r : Answer) → ((d : ℕ) → IsNamed (moment_of y) name d → d ≡ disk)
            → OnOk r (b.traced → (a : FlatArray) → VolumeIs m a → LeavesNew m y (λ i. MeansFormer (moment_of m) (moment_of y) place a i ⊎ MeansWith m y place disk a i))
            → OnOk r ((d : ℕ) → IsNamed (moment_of y) name d → x.bay.traced → (a : FlatArray) → VolumeIs x a → LeavesNew x y (λ i. MeansFormer (moment_of x) (moment_of y) place a i ⊎ MeansWith x y place d a i))
        moments_since y (Err e) same moments = tt
        moments_since y (Ok u) same moments =
            λ d named traced a holds k i since until stopped.
            subst (λ e. MeansFormer (moment_of x) (moment_of y) place a i ⊎ MeansWith x y place e a i) (sym (same d named))
            (elim (moments (at.continues.proceeds.traced holds.shelf traced) a (holds_of x m at.continues at.carries a holds) k i
            (let clock = at.clock in omega (arith, since, clock)) until stopped) [
              | inl former ↦ inl (former_since y a i former)
              | inr means ↦ inr means
            ])
