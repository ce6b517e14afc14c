-- A place whose drive is missing has given its disk up, as the volume shows it, and what is written on a disk afterwards.
use Rattle.std.proofs.Common.{◌≡◌, ℕ, ◌+◌, ◌<◌, Bool, false, if◌then◌else◌, List, Some, None, slice_get, refl, sym, ap, subst, ◌∙◌, inl, inr, arith}
use Rattle.std.proofs.lemmas.Bool.{cases_eq, eq-eqb, ne_eqb}
use Rattle.rack.specs.Joins.{keeps_same}
use Rattle.rack.specs.Sequences.{WritesOnly}
use Rattle.rack.specs.Shelf.{KeepsShelf}
use Rattle.slice_rack.specs.Changes.{Seats}
use Rattle.slice_rack.specs.Runs.{IsSliced}
use Rattle.slice_rack.specs.Slices.{IsOrderly, Slices, place_of, seat_of}
use Rattle.slice_rack.specs.Sliced.{slices_of}
use Rattle.array_image.specs.States.{is_current}
use Rattle.array_model.specs.View.{View as ArrayView}
use Rattle.lvm_group.specs.Laws.{array_below}
use Rattle.lvm_group.specs.Runs.{IsOrderly as IsOrderlyVolume, array_of, sector_of, sectors_in}
use Rattle.raid_laws.specs.NewDrive.{SeatsDrive}
use Rattle.raid_laws.specs.Raid.{raid_of}
use Rattle.raid_rack.specs.RaidRack.{IsFit}
use Rattle.raid_rack.proofs.Vacated.{disk_left, vacated_keeps, vacated_told, vacated_truths}
use Rattle.pool.specs.Continuing.{Continues, KeepsOutside}
use Rattle.pool.specs.Entering.{IsVacating}
use Rattle.pool.specs.Taking.{Carries}
use Rattle.pool.specs.View.{View, book, slices_shown, volume}
use Rattle.pool.proofs.Later.{inside_later, later}

module _ (x : View) (place : ℕ) (t : Slices) (linear : IsOrderlyVolume x.linear) (fit : (volume x).fit) (missing : is_current (book x).state place ≡ false)
    (vacated : Seats x.slices t place None) (after : IsFit x.arrays (slices_of t x.bay)) where
  abbrev pub without : View
  without = later x x.bay x.shelf t x.arrays

  pub without_fit : (volume without).fit
  without_fit = (after, inside_later x x.bay x.shelf t x.arrays fit refl (λ n. refl))

  pub without_continues : IsOrderly t → Continues x without
  without_continues orderly = record {
    proceeds = record {
      fit = without_fit;
      disks = record {
        disks = omega arith;
        sectors = λ d low. refl;
        faults = λ d low. omega arith;
        names = λ d name is. is;
        waits = λ name. inl refl;
      };
      told = λ told. told;
      traced = λ told traced. traced;
      later = λ told traced. omega arith;
      past = λ told traced k i until stopped. stopped;
    };
    orderly = λ before. orderly;
    linear = refl;
    size = refl;
    unattached = omega arith;
    tells = λ d low told. told;
    known = λ told all. all;
    lasting = λ lasting. lasting;
    lasts = λ lasting d s low alive. alive;
  }

  low_array : (n : ℕ) → n < x.linear.arrays → n < (book x).state.made
  low_array n low = let arrays = fit.1.arrays in omega (arith, low, arrays)

  pub without_carries : Carries x without
  without_carries = record {
    spent = λ k alive. alive;
    told = λ names all k low alive told n below.
        vacated_told place x.slices t x.bay vacated (book x) fit.0.heeded missing fit.0.running.set after.running.set.fit n (low_array n below) (told n below);
    keeps = λ names all k low alive told.
        let n = array_of x.linear k in
        let below = array_below x.linear (raid_of (IsFit x.arrays (slices_shown x)) x.refused (book x) (slices_shown x)) k linear fit.1 low in
        vacated_keeps place x.slices t x.bay vacated (book x) fit.0.heeded missing fit.0.running.set after.running.set.fit n (low_array n below) (told n below)
        (sector_of x.linear k) alive;
    made = refl;
    truths = λ names all. vacated_truths place x.slices t x.bay vacated (book x) fit.0.heeded missing fit.0.running.set;
    held = λ names all. record {
      sectors = λ n. refl;
      live = λ n k low alive. alive;
      told = λ n k low alive told. vacated_told place x.slices t x.bay vacated (book x) fit.0.heeded missing fit.0.running.set after.running.set.fit n low told;
      keeps = λ n k low within alive told.
          vacated_keeps place x.slices t x.bay vacated (book x) fit.0.heeded missing fit.0.running.set after.running.set.fit n low told k alive;
    };
  }

  -- a sector of a slice was one
  pub sliced_before : (d k : ℕ) (v : List ℕ) → IsSliced t d k v → IsSliced x.slices d k v
  sliced_before d k v is =
      elim (cases_eq (place_of is.slice) place) [
        | inl same ↦ let none = vacated.cleared is.slice same in let within = is.within in absurd (omega (arith, none, within))
        | inr other ↦ record {
          slice = is.slice;
          at = is.at;
          within = subst (λ n. is.at < n) (vacated.sectors is.slice other) is.within;
          disk_is = is.disk_is ∙ disk_left place x.slices t x.bay vacated is.slice other;
          sector_is = is.sector_is ∙ ap (λ n. n + is.at) (vacated.firsts is.slice other);
        }
      ]

  pub without_outside : (named : ℕ → Type 0) → KeepsOutside x.slices t named x.shelf.told x.bay x.bay
  without_outside named = record {
    slices = λ d k v is. inl (sliced_before d k v is);
    held = λ d k out. keeps_same (x.bay.held d k);
    stops = λ told traced k i since until stopped. absurd (omega (arith, since, until));
  }

-- the slices of a new drive, beside those that there were before the place gave its disk up
pub seats_from : (x : View) (place disk : ℕ) (t u : Slices) (arrays : List ArrayView) (sectors : ℕ) → IsVacating x place t → SeatsDrive arrays place disk sectors t u
    → SeatsDrive arrays place disk sectors x.slices u
seats_from x place disk t u arrays sectors kind seats = elim kind [
  | inl gave ↦ record {
    seats = λ p.
        elim (cases_eq p place) [
          | inl same ↦
              seats.seats p ∙ ap (λ (c : Bool). if c then Some disk else seat_of t p) (eq-eqb p place same)
              ∙ sym (ap (λ (c : Bool). if c then Some disk else seat_of x.slices p) (eq-eqb p place same))
          | inr other ↦
              seats.seats p ∙ ap (λ (c : Bool). if c then Some disk else seat_of t p) (ne_eqb p place other)
              ∙ (gave.1.seats p ∙ ap (λ (c : Bool). if c then None else seat_of x.slices p) (ne_eqb p place other))
              ∙ sym (ap (λ (c : Bool). if c then Some disk else seat_of x.slices p) (ne_eqb p place other))
        ];
    own = seats.own;
    own_firsts = seats.own_firsts;
    others = λ d other. seats.others d other ∙ gave.1.sectors d other;
    firsts = λ d other. seats.firsts d other ∙ gave.1.firsts d other;
  }
  | inr stays ↦ subst (λ r. SeatsDrive arrays place disk sectors r u) stays.1 seats
]

-- a call that writes on the disks, by what it may write
pub bay_continues : (x y : View) (may : ℕ → ℕ → List ℕ → Type 0) → WritesOnly x.bay y.bay may → KeepsShelf x.shelf y.shelf → (volume y).fit → IsOrderly y.slices → y.linear ≡ x.linear
    → Continues x y
bay_continues x y may only names fit orderly same =
    let bay = only.stays in
    record {
      proceeds = record {
        fit = fit;
        disks = record {
          disks = let equal = bay.disks in omega (arith, equal);
          sectors = λ d low. bay.sectors d;
          faults = λ d low. bay.faults d;
          names = λ d name is. ap (λ names. slice_get names d) names.names ∙ is;
          waits = λ name. inl (names.ready name);
        };
        told = names.told;
        traced = λ told traced. bay.traced traced;
        later = λ told traced. (only.stops traced).later;
        past = λ told traced k i until stopped. (only.stops traced).past k i until stopped;
      };
      orderly = λ before. orderly;
      linear = same;
      size = ap (λ l. sectors_in l) same;
      unattached = let equal = names.faults in omega (arith, equal);
      tells = λ d low told. bay.told d told;
      known = λ told all d low. bay.told d (all d (subst (λ n. d < n) bay.disks low));
      lasting = bay.lasting;
      lasts = λ lasting d s low alive. bay.lasts lasting d s alive;
    }
