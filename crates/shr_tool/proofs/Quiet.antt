-- A pool stands alone on its disks after a line that was declined and laid nothing on the disk that it named, where it did so before.
use Rattle.std.specs.Prelude.{Err}
use Rattle.std.proofs.Common.{◌≡◌, ◌≢◌, ◌⊎◌, ℕ, zero, suc, ◌<◌, ◌≤◌, bytes_eq, true, false, List, [], ◌∷◌, length, slice_get, Option, Some, None, Result, Ok, refl, sym, ◌∙◌, ap, subst, inl, inr, arith}
use Rattle.std.proofs.lemmas.Bool.{both_ways, cases_Bool, cases_lt}
use Rattle.std.proofs.lemmas.Option.{none-some}
use Rattle.std.proofs.lemmas.Slice.Eq.{bytes_eq-Decides}
use Rattle.rack.specs.Seen.{Image}
use Rattle.rack.specs.Values.{MayLeave, Values}
use Rattle.slice_rack.specs.Runs.{IsSliced}
use Rattle.slice_rack.specs.Slices.{Slices}
use Rattle.flat_array.specs.Array.{FlatArray}
use Rattle.array_image.specs.Places.{state_sector}
use Rattle.array_core.proofs.Stripped.{some_same}
use Rattle.pool_image.specs.Disks.{disks_of, identities_of}
use Rattle.pool_image.specs.Drives.{Found}
use Rattle.pool_model.specs.Alone.{IsStranger}
use Rattle.pool_model.specs.Left.{IsPickOutsideSlices}
use Rattle.pool_model.specs.Taken.{attached}
use Rattle.pool_model.proofs.Alone.{alone_attached}
use Rattle.pool_model.proofs.Unsliced.{free_stranger}
use Rattle.pool.specs.declared.replacing.GrowFault.{GrowFault}
use Rattle.pool.specs.declared.replacing.GrowFault.TheVariants.{Attach, Gone, Memory, NoSuchDrive, NotResynced, NotWhole, PlanPending, Size, Smaller, TooManyDrives, TooManyLayers, TooManySegments, Twice}
use Rattle.pool.specs.Moment.{IsNamed, moment_of}
use Rattle.pool.specs.Replaced.{ChangesDrive, IsAnswer, IsDeclined, IsLookedAt, IsOfDrive}
use Rattle.pool.specs.Replacing.{refusal_of}
use Rattle.pool.specs.View.{View, book, volume}
use Rattle.pool.specs.Volume.{VolumeIs, is_spent, size_of}
use Rattle.shr_tool.specs.Events.{looks_at}
use Rattle.shr_tool.specs.Events.Event.{declined}
use Rattle.shr_tool.specs.Service.{GoesBy, HoldOwn, IsOut, LaysNothing, Lone, StandsLone, said_by}
use Rattle.shr_tool.specs.Timeline.{LineContract}
use Rattle.shr_tool.proofs.LeavingOut.{alone_later, out_later}
use Rattle.shr_tool.proofs.TakenIn.{count_is, disks_more, live_at, sectors_kept, sliced_old}

pub same_fault : (e f : GrowFault) → ◌≡◌ {A = Result (Unit {0}) GrowFault} (Err e) (Err f) → e ≡ f
same_fault e f same = cc

-- a name is that of a disk, or of none
pub named_or : (names : List (List ℕ)) (name : List ℕ) → ((d : ℕ) × (slice_get names d ≡ Some name)) ⊎ ((d : ℕ) → slice_get names d ≡ Some name → ⊥)
named_or [] name = inr (λ d is. none-some name is)
named_or (first ∷ names) name = elim (cases_Bool (bytes_eq first name)) [
  | inl same ↦ inl (zero, ap Some ((bytes_eq-Decides first name).0 same))
  | inr other ↦ elim (named_or names name) [
    | inl one ↦ inl (suc one.0, one.1)
    | inr none ↦ inr (λ d is. never d is other none)
  ]
]
  where
    never : (d : ℕ) → slice_get (first ∷ names) d ≡ Some name → bytes_eq first name ≡ false → ((k : ℕ) → slice_get names k ≡ Some name → ⊥) → ⊥
    never zero is other none = both_ways (bytes_eq first name) other ((bytes_eq-Decides first name).1 (some_same first name is))
    never (suc d) is other none = none d is

-- whether a fault says that the disk is a drive's
pub twice_or : (fault : GrowFault) → (fault ≡ Twice) ⊎ (fault ≢ Twice)
twice_or NoSuchDrive = inr (λ same. let e : NoSuchDrive ≡ Twice = same in cc e)
twice_or Attach = inr (λ same. let e : Attach ≡ Twice = same in cc e)
twice_or Twice = inl refl
twice_or Memory = inr (λ same. let e : Memory ≡ Twice = same in cc e)
twice_or PlanPending = inr (λ same. let e : PlanPending ≡ Twice = same in cc e)
twice_or NotWhole = inr (λ same. let e : NotWhole ≡ Twice = same in cc e)
twice_or NotResynced = inr (λ same. let e : NotResynced ≡ Twice = same in cc e)
twice_or Size = inr (λ same. let e : Size ≡ Twice = same in cc e)
twice_or Smaller = inr (λ same. let e : Smaller ≡ Twice = same in cc e)
twice_or TooManyDrives = inr (λ same. let e : TooManyDrives ≡ Twice = same in cc e)
twice_or TooManyLayers = inr (λ same. let e : TooManyLayers ≡ Twice = same in cc e)
twice_or TooManySegments = inr (λ same. let e : TooManySegments ≡ Twice = same in cc e)
twice_or Gone = inr (λ same. let e : Gone ≡ Twice = same in cc e)

-- the place of a line that looked at a disk is in the list
pub listed_of : (x y : View) (place : ℕ) (name : List ℕ) (fault : GrowFault) (text : List ℕ) → looks_at fault ≡ true → LineContract x y (declined place name fault) text
    → place < length (book x).state.drives.items
listed_of x y place name fault text looks performs = elim (cases_lt place (length (book x).state.drives.items)) [
  | inl low ↦ low
  | inr past ↦ absurd (both_ways (looks_at fault) (ap looks_at (same_fault fault NoSuchDrive (performs.cause.0.missing.1 past))) looks)
]

module _ {L : Type 0} {o : Option Lone} (x y : View) (place : ℕ) (name : List ℕ) (fault : GrowFault) (text : List ℕ) (b : FlatArray) (looks : looks_at fault ≡ true)
    (unspent : (d s : ℕ) → y.bay.spent d s ≡ false) (fit : (volume x).fit) (performs : LineContract x y (declined place name fault) text) (holds : VolumeIs x b) (f : Found)
    (goes : GoesBy L o f x) (l : Lone) (so : o ≡ Some l) (nothing : LaysNothing f l.bound (moment_of x) (moment_of y) name fault) where
  abbrev changes : ChangesDrive x y place name
  changes = (performs.changes looks).0

  abbrev is : IsDeclined (moment_of x) (moment_of y) place fault
  is = performs.cause.1

  told : (d : ℕ) → d < y.bay.disks → y.bay.told d
  told = (performs.holds b holds).disks

  stands : StandsLone l f goes.tables x
  stands = goes.alone l so

  -- the book and the slices stayed, and what the disks hold
  stayed : (book y ≡ book x) × (y.slices ≡ x.slices) × (y.bay.clock ≡ x.bay.clock) × ((d : ℕ) → d < x.bay.disks → (s : ℕ) → y.bay.held d s ≡ x.bay.held d s)
  stayed = is.quiet nothing.stayed nothing.unmarked

  -- what the disks may be left with outside the slices they might have been left with before
  before : (i : Image) → IsPickOutsideSlices goes.tables y.bay i → IsPickOutsideSlices goes.tables x.bay i
  before i off d s live never =
      let low : d < y.bay.disks = (let at = live.disk in let more = performs.continues.proceeds.disks.disks in omega (arith, at, more)) in
      let within : s < y.bay.sectors d = subst (λ n. s < n) (sym (performs.continues.proceeds.disks.sectors d live.disk)) live.sector in
      subst (λ h. MayLeave h (i d s)) (stayed.3 d live.disk s)
      (off d s (live_at x y place name unspent performs.continues (performs.outside looks) changes told f goes d s low within) never)

  -- each drive has its own copy still
  own : (s : ℕ) → s < size_of y → is_spent y s ≡ false → HoldOwn f (IsOut l y.shelf.names) (book y).state y.bay
  own s within alive p d u copy seat why may says =
      let there : d < x.bay.disks =
      (let low = (goes.service.arranged.seated p d seat).1 in
      let same = count_is x y place name unspent performs.continues (performs.outside looks) changes told f goes in
      omega (arith, low, same)) in
      stands.own s (subst (λ n. s < n) performs.continues.size within) (changes.spent s alive) p d u copy seat
      (elim why [
        | inl now ↦ inl (is.marks.current p now)
        | inr stays ↦ inr (λ out. stays (out_later l x.shelf.names y.shelf.names performs.continues.proceeds.disks.names d out))
      ])
      (subst (λ h. MayLeave h u) (stayed.3 d there state_sector) may) says

  -- ---- a disk that came

  module _ (d : ℕ) (past : x.bay.disks ≤ d) (low : d < y.bay.disks) where
    named : IsNamed (moment_of y) name d
    named = changes.names.came d past low

    -- no disk had the name
    new_name : (e : ℕ) → IsNamed (moment_of x) name e → e < x.bay.disks → ⊥
    new_name e was there =
        let same : e ≡ d = changes.names.one e d (performs.continues.proceeds.disks.names e name was) named in
        omega (arith, same, there, past)

    -- something was against taking it
    against : (IsOfDrive (moment_of x) name → ⊥) → refusal_of x.linear (book x) place (y.bay.sectors d) ≡ None → ⊥
    against never none = elim (subst (λ e. IsAnswer e (Err fault)) none (performs.cause.0.answer look d named)) [
      | inl ok ↦ (let e : ◌≡◌ {A = Result (Unit {0}) GrowFault} (Err fault) (Ok tt) = ok in cc e)
      | inr (inl gone) ↦ nothing.stayed (same_fault fault Gone gone)
      | inr (inr whole) ↦ elim (performs.cause.0.not_whole whole d named) [
        | inl some ↦ none-some NotWhole (sym none ∙ some)
        | inr marked ↦ nothing.unmarked (marked.0, marked.2, marked.3)
      ]
    ]
      where
        more : x.bay.disks < y.bay.disks
        more = omega (arith, past, low)

        look : IsLookedAt (length (book x).state.drives.items) place (Err fault)
        look = record {
          listed = listed_of x y place name fault text looks performs;
          attached = λ same. (let none = performs.cause.0.none (inl same) in omega (arith, none, more));
          had = λ same. (let none = performs.cause.0.none (inr same) in omega (arith, none, more));
          other = λ same. never (performs.cause.0.twice.0 same).1;
        }

    -- it is a stranger, as its image was
    came : (i : Image) → IsPickOutsideSlices goes.tables y.bay i → IsStranger f l.bound (identities_of (disks_of y.bay) i d)
    came i off =
        let count = count_is x y place name unspent performs.continues (performs.outside looks) changes told f goes in
        let image = changes.image holds.shelf holds.disks d named in
        let unseated : (k : ℕ) → f.seats k ≡ Some d → ⊥ = λ k seat. (let there = (goes.service.arranged.seated k d seat).1 in omega (arith, there, past, count)) in
        elim image.1 [
          | inl old ↦ absurd (new_name old.0 old.2 old.1)
          | inr new ↦
              (let w = new.1.0 in
              let sectors : y.bay.sectors d ≡ w.sectors = new.1.2 in
              let never : IsOfDrive (moment_of x) name → ⊥ = λ of. new.0 of.0 of.2 in
              let is_image : (s : ℕ) → s < w.sectors → i d s ≡ w.contents s =
              λ s within.
              (let within_now : s < y.bay.sectors d = omega (arith, within, sectors) in
              let free : (v : List ℕ) → IsSliced goes.tables d s v → ⊥ = λ v at. free_stranger f goes.tables d s v goes.service.slices unseated at in
              let left = off d s (live_at x y place name unspent performs.continues (performs.outside looks) changes told f goes d s low within_now) free in
              let unsliced : (v : List ℕ) → IsSliced y.slices d s v → ⊥ = λ v at.
              free v
              (sliced_old x y place name unspent performs.continues (performs.outside looks) changes told f goes d s v (subst (λ (t : Slices). IsSliced t d s v) stayed.1 at)) in
              elim (image.2 s (i d s) within_now unsliced left) [
                | inr laid ↦ absurd (against never laid.admitted.0)
                | inl held ↦
                    elim (subst (λ (g : ℕ → Values). MayLeave (g s) (i d s)) new.1.3 held) [ inl same ↦ same | inr none ↦ absurd none ]
              ]) in
              subst (λ n. IsStranger f l.bound (said_by n (i d))) (sym sectors) (nothing.stranger new.0 w new.1.1 (i d) is_image))
        ]

  pub stands_declined : StandsLone l (attached f (disks_of y.bay)) goes.tables y
  stands_declined = record {
    alone =
        alone_attached f l.bound (IsOut l y.shelf.names) (book y).state goes.tables x.bay y.bay goes.service.arranged
        (disks_more x y place name unspent performs.continues (performs.outside looks) changes told f goes)
        (sectors_kept x y place name unspent performs.continues (performs.outside looks) changes told f goes) before
        (λ i off d past low stays.
        (let count = count_is x y place name unspent performs.continues (performs.outside looks) changes told f goes in came d (omega (arith, past, count)) low i off))
        (alone_later f l x.shelf.names y.shelf.names performs.continues.proceeds.disks.names (book x).state (book y).state goes.tables x.bay is.marks.current stands.alone);
    distinct = stands.distinct;
    own = own;
  }
