-- What a call of the rack below is to the rack of its slices.
use Rattle.std.proofs.Common.{◌≡◌, ℕ, ◌+◌, ◌<◌, ◌==◌, ◌&&◌, if◌then◌else◌, inl, inr, Bool, true, false, List, Option, Some, None, Ok, Err, refl, sym, ap, subst, ◌∙◌, arith}
use Rattle.std.specs.Prelude.{unwrap_or}
use Rattle.std.proofs.lemmas.Bool.{cases_eq, eq-eqb, eqb-true}
use Rattle.rack.specs.declared.Gone.{Gone}
use Rattle.rack.specs.Values.{Values, MayLeave, Keeps, append}
use Rattle.rack.specs.Seen.{Image, Held, RackView, IsPick, SameRack, appended}
use Rattle.rack.specs.Moments.{Leaves}
use Rattle.rack.specs.Calls.{KeepsAll, Reads, Writes}
use Rattle.slice_rack.specs.Slices.{Slices, IsOrderly, seat_of, place_of, disk_of, first_of, sectors_of}
use Rattle.slice_rack.specs.Sliced.{IsInside, Shows, slices_of}
use Rattle.slice_rack.specs.Laws.{live_below, shows_inside}
use Rattle.slice_rack.specs.Runs.{inside_still}

-- what no call changes
pub stays_sliced : {t : Slices} {a b : RackView} → IsInside t a → SameRack a b → SameRack (slices_of t a) (slices_of t b)
stays_sliced {t} {a} {b} inside stays = record {
  fit = (stays.fit, inside_still stays inside);
  disks = refl;
  sectors = λ d. refl;
  faults = λ d. stays.faults (disk_of t d);
  spent = λ d s. stays.spent (disk_of t d) (first_of t d + s);
  lasting = stays.lasting;
  lasts = λ lasting d s. stays.lasts lasting (disk_of t d) (first_of t d + s);
  steady = stays.steady;
  told = λ d. stays.told (disk_of t d);
  traced = stays.traced;
}

-- stops leave in the slices what they leave below
leaves_sliced : {t : Slices} {a b : RackView} (P Q : Image → Type 0) → ((below c : Image) → Shows t below c → P below → Q c)
    → Leaves a b P → Leaves (slices_of t a) (slices_of t b) Q
leaves_sliced P Q shown leaves = record {
  later = leaves.later;
  kept = λ k c until left. (left.0, leaves.kept k left.0 until left.1, left.2);
  past = λ k c until left. (left.0, leaves.past k left.0 until left.1, left.2);
  new = λ k c after until left. shown left.0 c left.2 (leaves.new k left.0 after until left.1);
}

-- a pick below is a pick of the slices
pick_sliced : {t : Slices} {a b : RackView} (held sliced : Held) → IsOrderly t → IsInside t b
    → ((d s : ℕ) → s < sectors_of t d → held (disk_of t d) (first_of t d + s) ≡ sliced d s)
    → (below c : Image) → Shows t below c → IsPick a b held below → IsPick (slices_of t a) (slices_of t b) sliced c
pick_sliced {t} held sliced orderly inside same below c shows pick d s live =
    subst (λ h. MayLeave h (c d s)) (same d s live.sector)
    (subst (MayLeave (held (disk_of t d) (first_of t d + s))) (sym (shows_inside t below c d s shows live.sector))
    (pick (disk_of t d) (first_of t d + s) (live_below orderly inside live)))

-- no value comes, and no current value changes
pub keeps_sliced : {t : Slices} {a b : RackView} → IsOrderly t → IsInside t b → KeepsAll a b → KeepsAll (slices_of t a) (slices_of t b)
keeps_sliced {t} {a} {b} orderly inside keeps = record {
  held = λ d s live. keeps.held (disk_of t d) (first_of t d + s) (live_below orderly inside live);
  stops = λ traced. leaves_sliced (IsPick a b a.held) (IsPick (slices_of t a) (slices_of t b) (slices_of t a).held)
      (pick_sliced a.held (slices_of t a).held orderly inside (λ d s within. refl)) (keeps.stops traced);
}

-- the disk of a slice with a sector
seat_at : (t : Slices) (d s : ℕ) → IsOrderly t → s < sectors_of t d → (disk : ℕ) × (seat_of t (place_of d) ≡ Some disk)
seat_at t d s orderly within =
    let Seat : Option ℕ → Type 0 = λ o. seat_of t (place_of d) ≡ o → (disk : ℕ) × (seat_of t (place_of d) ≡ Some disk) in
    let seat : Seat (seat_of t (place_of d)) =
    elim (seat_of t (place_of d)) as Seat [
      | None ↦ λ none. absurd (omega (arith, orderly.seated d none))
      | Some disk ↦ λ some. (disk, some)
    ] in
    seat refl

-- one sector below belongs to one sector of a slice alone
pub one_sector : (t : Slices) (d s e u : ℕ) → IsOrderly t → s < sectors_of t d → u < sectors_of t e
    → disk_of t d ≡ disk_of t e → first_of t d + s ≡ first_of t e + u → (d ≡ e) × (s ≡ u)
one_sector t d s e u orderly d_within e_within same_disk same_sector =
    let d_seat : (disk : ℕ) × (seat_of t (place_of d) ≡ Some disk) = seat_at t d s orderly d_within in
    let e_seat : (disk : ℕ) × (seat_of t (place_of e) ≡ Some disk) = seat_at t e u orderly e_within in
    let d_disk : disk_of t d ≡ d_seat.0 = ap (λ o. unwrap_or o 0) d_seat.1 in
    let e_disk : disk_of t e ≡ e_seat.0 = ap (λ o. unwrap_or o 0) e_seat.1 in
    let one_disk : e_seat.0 ≡ d_seat.0 = sym e_disk ∙ sym same_disk ∙ d_disk in
    let same_place : place_of d ≡ place_of e = orderly.one_place (place_of d) (place_of e) d_seat.0 d_seat.1 (e_seat.1 ∙ ap Some one_disk) in
    elim (cases_eq d e) [
      | inl one ↦ (one, omega (arith, ap (first_of t) one))
      | inr other ↦ absurd (orderly.apart d e same_place other s u d_within e_within same_sector)
    ]

-- two tests with the same answer
pub same_test : (p q : Bool) → (p ≡ true → q ≡ true) → (q ≡ true → p ≡ true) → p ≡ q
same_test true q there back = sym (there refl)
same_test false true there back = back refl
same_test false false there back = refl

both : (p q : Bool) → (p && q) ≡ true → (p ≡ true) × (q ≡ true)
both true q e = (refl, e)
both false q e = cc

and_both : (p q : Bool) → p ≡ true → q ≡ true → (p && q) ≡ true
and_both p q e f = rw (e, f) refl

-- a write to a sector of a slice is the write to its sector below, and to no other
appended_sliced : (t : Slices) (a : RackView) (d s : ℕ) (value : List ℕ) → IsOrderly t → s < sectors_of t d → (e u : ℕ) → u < sectors_of t e
    → appended a.held (disk_of t d) (first_of t d + s) value (disk_of t e) (first_of t e + u) ≡ appended (slices_of t a).held d s value e u
appended_sliced t a d s value orderly within e u e_within =
    let held : Values = a.held (disk_of t e) (first_of t e + u) in
    ap (λ test. if test then append held value else held)
    (same_test ((disk_of t e == disk_of t d) && (first_of t e + u == first_of t d + s)) ((e == d) && (u == s))
    (λ is.
    let tests : ((disk_of t e == disk_of t d) ≡ true) × ((first_of t e + u == first_of t d + s) ≡ true) = both _ _ is in
    let one : (e ≡ d) × (u ≡ s) = one_sector t e u d s orderly e_within within (eqb-true _ _ tests.0) (eqb-true _ _ tests.1) in
    and_both _ _ (eq-eqb e d one.0) (eq-eqb u s one.1))
    (λ is.
    let tests : ((e == d) ≡ true) × ((u == s) ≡ true) = both _ _ is in
    let same_slice : e ≡ d = eqb-true e d tests.0 in
    let same_sector : u ≡ s = eqb-true u s tests.1 in
    and_both _ _ (eq-eqb (disk_of t e) (disk_of t d) (ap (disk_of t) same_slice))
    (eq-eqb (first_of t e + u) (first_of t d + s) (ap (λ f. first_of t f + u) same_slice ∙ ap (λ v. first_of t d + v) same_sector))))

-- the stops of a write
write_stops : {t : Slices} {a b : RackView} (d s : ℕ) (value : List ℕ) → IsOrderly t → IsInside t b → s < sectors_of t d
    → Leaves a b (IsPick a b (appended a.held (disk_of t d) (first_of t d + s) value))
    → Leaves (slices_of t a) (slices_of t b) (IsPick (slices_of t a) (slices_of t b) (appended (slices_of t a).held d s value))
write_stops {t} {a} {b} d s value orderly inside within =
    leaves_sliced (IsPick a b (appended a.held (disk_of t d) (first_of t d + s) value)) (IsPick (slices_of t a) (slices_of t b) (appended (slices_of t a).held d s value))
    (pick_sliced (appended a.held (disk_of t d) (first_of t d + s) value) (appended (slices_of t a).held d s value) orderly inside
    (λ e u e_within. appended_sliced t a d s value orderly within e u e_within))

-- a write that was answered
pub write_sliced : {t : Slices} {a b : RackView} (d s : ℕ) (value : List ℕ) → IsOrderly t → IsInside t a → s < sectors_of t d
    → Writes a b (disk_of t d) (first_of t d + s) value {X = Unit {0}} (Ok tt)
    → Writes (slices_of t a) (slices_of t b) d s value {X = Unit {0}} (Ok tt)
write_sliced {t} {a} {b} d s value orderly inside within w = record {
  stays = stays_sliced inside w.stays;
  cause = record { served = w.cause.served; gone = tt; spent = w.cause.spent };
  stops = λ traced. write_stops d s value orderly (inside_still w.stays inside) within (w.stops traced);
  done = λ e u live.
      subst (λ h. Keeps h (b.held (disk_of t e) (first_of t e + u))) (appended_sliced t a d s value orderly within e u live.sector)
      (w.done (disk_of t e) (first_of t e + u) (live_below orderly (inside_still w.stays inside) live));
  failed = tt;
}

-- a write that was refused
pub refused_sliced : {t : Slices} {a b : RackView} (d s : ℕ) (value : List ℕ) (gone : Gone) → IsOrderly t → IsInside t a → s < sectors_of t d
    → Writes a b (disk_of t d) (first_of t d + s) value {X = Unit {0}} (Err gone)
    → Writes (slices_of t a) (slices_of t b) d s value {X = Unit {0}} (Err (record { disk = d }))
refused_sliced {t} {a} {b} d s value gone orderly inside within w = record {
  stays = stays_sliced inside w.stays;
  cause = record { served = tt; gone = (refl, w.cause.gone.1); spent = w.cause.spent };
  stops = λ traced. write_stops d s value orderly (inside_still w.stays inside) within (w.stops traced);
  done = tt;
  failed = λ e u live.
      elim (w.failed (disk_of t e) (first_of t e + u) (live_below orderly (inside_still w.stays inside) live)) [
        | inl before ↦ inl before
        | inr after ↦ inr (subst (λ h. Keeps h (b.held (disk_of t e) (first_of t e + u))) (appended_sliced t a d s value orderly within e u live.sector) after)
      ];
}

-- a read that was refused
pub unread_sliced : {t : Slices} {a b : RackView} (d s : ℕ) (into : List ℕ) (gone : Gone) → IsOrderly t → IsInside t a
    → Reads a b (disk_of t d) (first_of t d + s) into {X = Unit {0}} (Err gone)
    → Reads (slices_of t a) (slices_of t b) d s into {X = Unit {0}} (Err (record { disk = d }))
unread_sliced {t} {a} {b} d s into gone orderly inside r = record {
  stays = stays_sliced inside r.stays;
  cause = record { served = tt; gone = (refl, r.cause.gone.1); spent = r.cause.spent };
  keeps = keeps_sliced orderly (inside_still r.stays inside) r.keeps;
  value = tt;
}
