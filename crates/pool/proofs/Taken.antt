-- A disk that isn't taken in: it refused a call, or another drive was found gone.
use Rattle.std.specs.Prelude.{Err}
use Rattle.std.proofs.Common.{◌≡◌, ◌≢◌, ◌⊎◌, ℕ, ◌<◌, Bool, true, false, List, Some, None, if◌then◌else◌, refl, sym, ap, subst, ◌∙◌, inl, inr, arith}
use Rattle.std.proofs.lemmas.Bool.{both_ways, cases_Bool, cases_eq, ne_eqb}
use Rattle.rack.specs.Seen.{IsLive, Rose, RackView}
use Rattle.rack.specs.Sequences.{WritesOnly}
use Rattle.rack.specs.Values.{MayLeave}
use Rattle.rack.specs.Shelf.{KeepsShelf, Shelf}
use Rattle.rack.proofs.Writing.{only_weaker}
use Rattle.slice_rack.specs.Changes.{Seats}
use Rattle.slice_rack.specs.Runs.{IsSliced}
use Rattle.slice_rack.specs.Slices.{IsOrderly, Slices, disk_of, place_of, seat_of}
use Rattle.slice_rack.specs.Sliced.{slices_of}
use Rattle.array_image.specs.Places.{log_slice}
use Rattle.array_image.specs.States.{is_current}
use Rattle.array_model.specs.View.{HasFault}
use Rattle.lvm_group.specs.Runs.{IsOrderly as IsOrderlyVolume}
use Rattle.raid_rack.specs.declared.arrays.Arrays.{Arrays}
use Rattle.raid_laws.specs.Book.{OnlyMarksSince, after_same}
use Rattle.raid_laws.specs.Enlisting.{IsNotWhole, IsRefused, IsWrittenBy, new_table}
use Rattle.raid_laws.specs.Losing.{arrays_same}
use Rattle.raid_laws.specs.Moves.{IsSet, KeepsArrays}
use Rattle.raid_laws.specs.NewDrive.{IsOfDrive}
use Rattle.raid_laws.specs.Raid.{Raid, is_left}
use Rattle.raid_rack.specs.RaidRack.{IsFit, raid_by}
use Rattle.raid_laws.proofs.Apart.{reads_apart, seat_is}
use Rattle.raid_rack.proofs.Raises.{raises_more, raises_none}
use Rattle.raid_laws.proofs.Whole.{heeded_left}
use Rattle.pool.specs.declared.replacing.GrowFault.{GrowFault}
use Rattle.pool.specs.declared.replacing.GrowFault.TheVariants.{Gone, NotWhole}
use Rattle.rack.specs.Untouched.{KeepsDisk}
use Rattle.pool.specs.Continuing.{Continues, KeepsOutside, NoDisk}
use Rattle.pool.specs.Entering.{IsVacating, LeavesOut, Vacates, table_on}
use Rattle.pool_state.specs.declared.contents.State.{State}
use Rattle.log_laws.proofs.Kept.{place_of_log}
use Rattle.rack.specs.Joins.{keeps_same}
use Rattle.raid_rack.proofs.Vacated.{disk_left}
use Rattle.pool.specs.Moment.{moment_of}
use Rattle.pool.specs.Replaced.{HasMarked, IsDeclined}
use Rattle.pool.specs.Replacing.{IsAdmitted}
use Rattle.pool.specs.Taking.{AreTold, Carries, TakesBy}
use Rattle.pool.specs.View.{View, book, volume}
use Rattle.pool.proofs.Attaching.{IsBay}
use Rattle.pool.proofs.Booked.{book_lost, book_same}
use Rattle.pool.proofs.Enlisted.{book_but}
use Rattle.pool.proofs.Held.{held_moves, held_reads}
use Rattle.pool.proofs.Carrying.{carries_kept, carries_same, carries_then, holds_of, means_kept}
use Rattle.pool.proofs.Continuing.{continues_same, continues_then, outside_fewer, outside_then, outside_writes}
use Rattle.pool.proofs.Keeping.{not_left, went}
use Rattle.pool.proofs.Later.{inside_later, later, moved, only_read}
use Rattle.pool.proofs.Shown.{views_are}
use Rattle.pool.proofs.Vacating.{bay_continues, without_carries, without_continues, without_outside}
use Rattle.raid_rack.proofs.Truths.{truths_reads}

-- the drive of a place that is left is one of the bay's disks
pub low_disk : (v : Raid) (t : Slices) (a : RackView) (p : ℕ) → IsOrderly t → IsSet v (slices_of t a) → is_left v p ≡ true → disk_of t (log_slice p) < a.disks
low_disk v t a p orderly set left =
    let long = set.logs p left in
    set.fit.1.seats (place_of (log_slice p)) (disk_of t (log_slice p)) (seat_is t (log_slice p) 0 orderly (omega (arith, long)))

pub one_disk : (disk d : ℕ) → NoDisk d ⊎ (d ≡ disk) → d ≡ disk
one_disk disk d (inl none) = absurd none
one_disk disk d (inr is) = is

-- a disk that isn't written is as it was
kept_disk : (Told : Type 0) (a b : RackView) (may : ℕ → ℕ → List ℕ → Type 0) (d : ℕ) → WritesOnly a b may → ((e k : ℕ) → b.spent e k ≡ false) → d < a.disks
    → ((k : ℕ) (v : List ℕ) → may d k v → ⊥) → KeepsDisk Told a b d
kept_disk Told a b may d only unspent low never = record {
  held = λ k within told. only.others d k (live k within told) (never k);
  stops = λ told traced k i since until stopped q within tells.
      elim ((only.stops traced).new k i since until stopped d q (live q within tells)) [ inl before ↦ before | inr written ↦ absurd (never q (i d q) written) ];
}
  where
    live : (k : ℕ) → k < a.sectors d → a.told d → IsLive a b d k
    live k within told = record {
      disk = subst (λ n. d < n) (sym only.stays.disks) low;
      sector = subst (λ n. k < n) (sym (only.stays.sectors d)) within;
      is_told = told;
      unspent = unspent d k;
    }

module _ (x : View) (b : RackView) (s : Shelf) (place disk : ℕ) (t : Slices) (linear : IsOrderlyVolume x.linear) (fit : (volume x).fit)
    (kind : IsVacating x place t) (empty : IsFit x.arrays (slices_of t x.bay))
    (now : IsBay b s) (names : KeepsShelf x.shelf s) (ordered : IsOrderly x.slices) (orderly : IsOrderly t) where
  abbrev mid : View
  mid = later x x.bay x.shelf t x.arrays

  -- the table that it is to have, by the list of arrays
  table_is : new_table x.arrays.state x.arrays.all.items place (x.bay.sectors disk) ≡ table_on x place disk
  table_is = ap (λ vs. new_table x.arrays.state vs place (x.bay.sectors disk)) (sym (views_are x.arrays fit.0.running.count))

  pub mid_fit : (volume mid).fit
  mid_fit = (empty, inside_later x x.bay x.shelf t x.arrays fit refl (λ n. refl))

  pub mid_goes : Continues x mid
  mid_goes = elim kind [
    | inl gave ↦ without_continues x place t linear fit gave.0 gave.1 empty orderly
    | inr stays ↦ subst (λ k. Continues x (later x x.bay x.shelf k x.arrays)) (sym stays.1) (continues_same x fit)
  ]

  pub mid_carries : Carries x mid
  mid_carries = elim kind [
    | inl gave ↦ without_carries x place t linear fit gave.0 gave.1 empty
    | inr stays ↦ subst (λ k. Carries x (later x x.bay x.shelf k x.arrays)) (sym stays.1) (carries_same x)
  ]

  mid_outside : KeepsOutside x.slices t NoDisk x.shelf.told x.bay x.bay
  mid_outside = elim kind [
    | inl gave ↦ without_outside x place t linear fit gave.0 gave.1 empty NoDisk
    | inr stays ↦ record {
      slices = λ d k v is. inl (subst (λ u. IsSliced u d k v) stays.1 is);
      held = λ d k out. keeps_same (x.bay.held d k);
      stops = λ told traced k i since until stopped. absurd (omega (arith, since, until));
    }
  ]

  -- a current place has the disk that it had
  pub same_disk : (k : ℕ) → is_current (book x).state k ≡ true → disk_of t (log_slice k) ≡ disk_of x.slices (log_slice k)
  same_disk k was = elim kind [
    | inl gave ↦
        disk_left place x.slices t x.bay gave.1 (log_slice k)
        (λ here. both_ways (is_current (book x).state place) gave.0 (subst (λ p. is_current (book x).state p ≡ true) (sym (place_of_log k) ∙ here) was))
    | inr stays ↦ ap (λ u. disk_of u (log_slice k)) stays.1
  ]

  -- ---- what the parts of the call say of the bay

  pub goes_on : (u : Slices) (z : Arrays) (may : ℕ → ℕ → List ℕ → Type 0) → WritesOnly x.bay b may → (volume (later x b s u z)).fit → IsOrderly u → Continues x (later x b s u z)
  goes_on u z may only after ordered_now = continues_then x mid (later x b s u z) mid_goes (bay_continues mid (later x b s u z) may only names after ordered_now refl)

  pub outside_of_it : (u : Slices) (z : Arrays) (may : ℕ → ℕ → List ℕ → Type 0) → WritesOnly x.bay b may → (volume (later x b s u z)).fit → IsOrderly u
      → ((d k : ℕ) (v : List ℕ) → may d k v → IsSliced t d k v ⊎ (d ≡ disk)) → ((d k : ℕ) (v : List ℕ) → IsSliced u d k v → IsSliced t d k v ⊎ (d ≡ disk))
      → KeepsOutside x.slices u (λ d. d ≡ disk) x.shelf.told x.bay b
  outside_of_it u z may only after ordered_now writes slices =
      outside_fewer x.slices u (λ d. NoDisk d ⊎ (d ≡ disk)) (λ d. d ≡ disk) x.shelf.told x.bay b (one_disk disk)
      (outside_then x mid (later x b s u z) NoDisk (λ d. d ≡ disk) mid_goes (bay_continues mid (later x b s u z) may only names after ordered_now refl) mid_outside
      (outside_writes t u (λ d. d ≡ disk) x.shelf.told x.bay b may only now.unspent writes slices))

  -- the disk that the place gave up has no slice any more
  bare_mid : Seats x.slices t place None → (d : ℕ) → seat_of x.slices place ≡ Some d → (k : ℕ) (v : List ℕ) → IsSliced t d k v → ⊥
  bare_mid vacated d seat k v is =
      elim (cases_eq (place_of is.slice) place) [
        | inl same ↦ let empty_slice = vacated.cleared is.slice same in let within = is.within in omega (arith, empty_slice, within)
        | inr away ↦
            let on = seat_is t is.slice is.at orderly is.within in
            let was : seat_of x.slices (place_of is.slice) ≡ Some d =
            sym (ap (λ (c : Bool). if c then None else seat_of x.slices (place_of is.slice)) (ne_eqb (place_of is.slice) place away)) ∙ sym (vacated.seats (place_of is.slice))
            ∙ on ∙ ap Some (sym is.disk_is) in
            away (ordered.one_place (place_of is.slice) place d was seat)
      ]

  -- a disk that is written nowhere
  pub retired_by : (may : ℕ → ℕ → List ℕ → Type 0) → WritesOnly x.bay b may → (d : ℕ) → seat_of x.slices place ≡ Some d → ((k : ℕ) (v : List ℕ) → may d k v → ⊥)
      → KeepsDisk x.shelf.told x.bay b d
  retired_by may only d seat never = kept_disk x.shelf.told x.bay b may d only now.unspent (fit.0.running.set.fit.1.seats place d seat) never

  -- what is left on the disk outside the slices
  pub laid_by : (u : Slices) → WritesOnly x.bay b (IsWrittenBy u disk (table_on x place disk)) → disk < x.bay.disks → AreTold x
      → (k : ℕ) (v : List ℕ) → k < x.bay.sectors disk → ((w : List ℕ) → IsSliced u disk k w → ⊥) → MayLeave (b.held disk k) v
      → MayLeave (x.bay.held disk k) v ⊎ IsOfDrive disk (table_on x place disk) disk k v
  laid_by u only low all k v within unsliced left =
      elim (only.within disk k v live left) [
        | inl before ↦ inl before
        | inr written ↦ elim written [
          | inl own ↦ inr own
          | inr sliced ↦ absurd (unsliced v sliced)
        ]
      ]
    where
      live : IsLive x.bay b disk k
      live = record {
        disk = subst (λ n. disk < n) (sym only.stays.disks) low;
        sector = subst (λ n. k < n) (sym (only.stays.sectors disk)) within;
        is_told = all disk low;
        unspent = now.unspent disk k;
      }

  -- by tables in which the place has its disk, or none
  bare_left : (u : Slices) → u ≡ t → (d : ℕ) → seat_of x.slices place ≡ Some d → d ≢ disk → (u ≡ x.slices) ⊎ ((k : ℕ) (v : List ℕ) → IsSliced u d k v → ⊥)
  bare_left u same d seat other = elim kind [
    | inl gave ↦ inr (λ k v is. bare_mid gave.1 d seat k v (subst (λ q. IsSliced q d k v) same is))
    | inr stays ↦ inl (same ∙ stays.1)
  ]

  pub slices_left : (e : GrowFault) → (e ≡ Gone) ⊎ (e ≡ NotWhole) → (s : State) → ((p : ℕ) → is_current s p ≡ true → is_current (book x).state p ≡ true)
      → (t ≡ x.slices) ⊎ (((e ≡ Gone) ⊎ (e ≡ NotWhole)) × (is_current s place ≡ false) × Seats x.slices t place None)
  slices_left e which s fewer = elim kind [
    | inl gave ↦ inr (
      which,
      elim (cases_Bool (is_current s place)) [ inl is ↦ absurd (both_ways (is_current (book x).state place) gave.0 (fewer place is)) | inr none ↦ none ],
      gave.1,
    )
    | inr stays ↦ inl stays.1
  ]

  -- ---- it isn't taken in

  -- it refused a call
  pub declined_gone : IsDeclined (moment_of x) (moment_of (later x b s t x.arrays)) place Gone
  declined_gone = record {
    marks = after_same (book x).state;
    plan = refl;
    arrays = arrays_same (book x);
    cause = λ k was gone. absurd (both_ways (is_current (book x).state k) gone was);
    slices = slices_left Gone (inl refl) (book x).state (λ p is. is);
    unmarked = λ is missing. refl;
    others = λ is k away was. was;
    quiet = λ other none. absurd (other refl);
  }

  -- another drive was found gone
  pub declined_lost : (z : Arrays) → OnlyMarksSince (book x).state (raid_by z).state → (raid_by z).state.plan ≡ (book x).state.plan → KeepsArrays (book x) (raid_by z)
      → ((k : ℕ) → is_left (book x) k ≡ true → is_left (raid_by z) k ≡ false → HasFault (slices_of t x.bay) (slices_of t b) k) → HasMarked (moment_of x) (moment_of (later x b s t z))
      → IsDeclined (moment_of x) (moment_of (later x b s t z)) place NotWhole
  declined_lost z marks plan arrays cause lost = record {
    marks = marks;
    plan = plan;
    arrays = arrays;
    cause = λ k was gone.
        let left = heeded_left (book x) k fit.0.heeded was in
        subst (λ d. Rose (x.bay.faults d) (b.faults d)) (same_disk k was) (went mid (later x b s t z) k refl (cause k left (not_left (raid_by z) k gone)));
    slices = slices_left NotWhole (inr refl) (raid_by z).state marks.current;
    unmarked = λ is. absurd (let e : NotWhole ≡ Gone = is in cc e);
    others = λ is. absurd (let e : NotWhole ≡ Gone = is in cc e);
    quiet = λ other none. absurd (none lost);
  }

  -- ---- a disk of the same units

  module _ (admits : IsAdmitted (book x) place (x.bay.sectors disk)) where
    -- the tables from which it is taken in
    abbrev pub vacates : Vacates x place disk
    vacates = record { admits = admits; tables = t; seats = kind; orderly = orderly; fit = empty }

    -- ---- it refused a call

    pub taken_gone : IsRefused t disk (new_table x.arrays.state x.arrays.all.items place (x.bay.sectors disk)) (book x) x.bay b → ((p : ℕ) → seat_of t p ≢ Some disk)
        → IsFit x.arrays (slices_of t b) → TakesBy x (later x b s t x.arrays) place disk (Err Gone)
    taken_gone by_list free after =
        let refused = subst (λ e. IsRefused t disk e (book x) x.bay b) table_is by_list in
        let only = refused.only in
        let y = later x b s t x.arrays in
        let may : ℕ → ℕ → List ℕ → Type 0 = IsOfDrive disk (table_on x place disk) in
        let reads = reads_apart t x.bay b disk may orderly empty.running.set.fit.1 only (λ d k v at. at.0) free in
        let both = only_read mid b s linear mid_fit after reads in
        let fit_now : (volume y).fit = (after, inside_later x b s t x.arrays fit refl (λ n. refl)) in
        record {
          takes = record {
            continues = goes_on t x.arrays may only fit_now orderly;
            carries = carries_then x mid y mid_goes mid_carries (carries_kept mid y both.0 both.1 refl (λ names all. truths_reads (book x) (slices_of t x.bay) (slices_of t b) empty.running.set reads)
                (λ names all. held_reads mid b mid_fit after reads));
            keeps = book_but place (book x) (book x) (book_same (book x));
            kept = book_same (book x);
            outside = outside_of_it t x.arrays may only fit_now orderly (λ d k v at. inr at.0) (λ d k v is. inl is);
            names = names.names;
            bare = bare_left t refl;
            disks = only.stays.disks;
            gone = λ same. refused.gone;
            declined = declined_gone;
            replaced = tt;
            table = tt;
            moments = tt;
            leaves = λ traced a holds k i since until stopped.
                inr (means_kept mid y both.0 both.1 traced a (holds_of x mid mid_goes mid_carries a holds) k i since until stopped);
          };
          raises = raises_more 0 19 (book x) (book x) (omega arith) (raises_none (book x));
          retired = λ why d seat other. retired_by may only d seat (λ k v at. other at.0);
          laid = laid_by t (only_weaker may (IsWrittenBy t disk (table_on x place disk)) (λ d k v own. inl own) only);
          answer = inr (inl refl);
          not_whole = λ same. absurd (let e : Gone ≡ NotWhole = cc same in cc e);
          left = inl (record { vacates = vacates; slices = refl; same = refl; refused = refused });
          out = λ same. absurd (let e : Gone ≡ NotWhole = cc same in cc e);
          enters = tt;
        }

    -- ---- another drive was found gone

    pub taken_lost : (z : Arrays) → IsNotWhole t disk (new_table x.arrays.state x.arrays.all.items place (x.bay.sectors disk)) (book x) (raid_by z) x.bay b → IsFit z (slices_of t b)
        → TakesBy x (later x b s t z) place disk (Err NotWhole)
    taken_lost z by_list after =
        let lost = subst (λ e. IsNotWhole t disk e (book x) (raid_by z) x.bay b) table_is by_list in
        let only = lost.only in
        let mends = lost.mends in
        let y = later x b s t z in
        let may : ℕ → ℕ → List ℕ → Type 0 = IsWrittenBy t disk (table_on x place disk) in
        let moves = mends.moves in
        let both = moved mid b s t z linear mid_fit after moves in
        let fit_now : (volume y).fit = (after, inside_later x b s t z fit moves.book.same.made moves.sectors) in
        let out : LeavesOut x y place disk = record { vacates = vacates; slices = refl; not_whole = lost } in
        let kept = book_lost (book x) (raid_by z) (slices_of t b) after.running.set after.heeded moves.book.same.made moves.arrays in
        record {
          takes = record {
            continues = goes_on t z may only fit_now orderly;
            carries = carries_then x mid y mid_goes mid_carries (carries_kept mid y both.0 both.1 moves.book.same.made (λ names all. lost.truths) (λ names all. held_moves mid b t z mid_fit after moves));
            keeps = book_but place (book x) (raid_by z) kept;
            kept = kept;
            outside = outside_of_it t z may only fit_now orderly (λ d k v at. elim at [ inl own ↦ inr own.0 | inr sliced ↦ inl sliced ]) (λ d k v is. inl is);
            names = names.names;
            bare = bare_left t refl;
            disks = only.stays.disks;
            gone = λ same. absurd (let e : NotWhole ≡ Gone = cc same in cc e);
            declined = declined_lost z moves.book moves.plan moves.arrays moves.cause (lost.lost.0, lost.lost.1, lost.lost.2);
            replaced = tt;
            table = tt;
            moments = tt;
            leaves = λ traced a holds k i since until stopped.
                inr (means_kept mid y both.0 both.1 traced a (holds_of x mid mid_goes mid_carries a holds) k i since until stopped);
          };
          raises = raises_more 18 19 (book x) (raid_by z) (omega arith) lost.raises;
          retired = λ why d seat other.
              retired_by may only d seat
              (λ k v at. elim at [
                | inl own ↦ other own.0
                | inr sliced ↦ elim kind [
                  | inl gave ↦ bare_mid gave.1 d seat k v sliced
                  | inr stays ↦ elim why [ inl missing ↦ both_ways (is_current (book x).state place) missing stays.0 | inr never ↦ never refl ]
                ]
              ]);
          laid = laid_by t only;
          answer = inr (inr refl);
          not_whole = λ same. (lost.lost.0, lost.lost.1, lost.lost.2);
          left = inr out;
          out = λ same. out;
          enters = tt;
        }
