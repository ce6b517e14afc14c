-- The tables when a place gets another disk, and when a slice is added.
use Rattle.std.proofs.Common.{◌≡◌, ◌≢◌, ℕ, ◌+◌, ◌<◌, ◌^◌, ◌==◌, if◌then◌else◌, inl, inr, false, Option, Some, None, refl, sym, ap, subst, ◌∙◌, arith, List, length, set, get_or}
use Rattle.std.specs.Prelude.{unwrap_or, slice_get}
use Rattle.std.specs.Option.{option_map_or}
use Rattle.std.proofs.lemmas.Option.{unwrap_or-slice_get}
use Rattle.std.proofs.lemmas.List.{get_or-set_same, get_or-set_other}
use Rattle.std.proofs.lemmas.Bool.{cases_eq, eq-eqb}
use Rattle.std.proofs.lemmas.Bool.Decides.{nat_tests}
use Rattle.rack.specs.Seen.{RackView}
use Rattle.slice_rack.specs.declared.Slice.{Slice}
use Rattle.slice_rack.specs.Slices.{Slices, IsOrderly, seat_of, place_of, disk_of, first_of, sectors_of}
use Rattle.slice_rack.specs.Sliced.{IsInside}
use Rattle.slice_rack.specs.Changes.{IsEmpty, Seats, Adds, IsFree, IsWithin}

differs : (a b : ℕ) → (a ≡ b → ⊥) → (a == b) ≡ false
differs a b apart = grind (arith, nat_tests)

-- a seat or none, by its place in the list
no_more_than : (seat : Option (Option ℕ)) → option_map_or (λ s. s) seat None ≡ unwrap_or seat None
no_more_than None = refl
no_more_than (Some seat) = refl

seat_read : (seats : List (Option ℕ)) (place : ℕ) → option_map_or (λ s. s) (slice_get seats place) None ≡ get_or seats place None
seat_read seats place = no_more_than (slice_get seats place) ∙ unwrap_or-slice_get seats place None

-- the seats after one was put in
pub put_in : (seats : List (Option ℕ)) (place : ℕ) (seat : Option ℕ) → place < length seats
    → (p : ℕ) → option_map_or (λ s. s) (slice_get (set seats place seat) p) None ≡ (if p == place then seat else option_map_or (λ s. s) (slice_get seats p) None)
put_in seats place seat within p =
    seat_read (set seats place seat) p
    ∙ elim (cases_eq p place) [
      | inl here ↦ rw (here, get_or-set_same seats place seat None within, eq-eqb place place refl) refl
      | inr other ↦ rw (get_or-set_other seats place p seat None other, differs p place other) (sym (seat_read seats p))
    ]

-- empty tables are orderly
pub empty_orderly : (t : Slices) → IsEmpty t → IsOrderly t
empty_orderly t empty = record {
  seated = λ d none. empty.slices d;
  one_place = λ p q disk at_p at_q. let no : None ≡ Some disk = sym (empty.seats p) ∙ at_p in cc;
  apart = λ d e same other s u d_within e_within same_sector. absurd (omega (arith, empty.slices d));
}

-- and lie inside any rack
pub empty_inside : (t : Slices) (a : RackView) → IsEmpty t → ((disk : ℕ) → disk < a.disks → a.sectors disk < 2 ^ 48) → IsInside t a
empty_inside t a empty small = record {
  small = small;
  seats = λ place disk at. let no : None ≡ Some disk = sym (empty.seats place) ∙ at in cc;
  slices = λ d some. absurd (omega (arith, empty.slices d));
}

-- the disk of the place, and those of the others
seat_here : {a b : Slices} {place : ℕ} {seat : Option ℕ} → Seats a b place seat → (p : ℕ) → p ≡ place → seat_of b p ≡ seat
seat_here {a} {b} {place} {seat} change p here = change.seats p ∙ ap (λ test. if test then seat else seat_of a p) (eq-eqb p place here)

seat_other : {a b : Slices} {place : ℕ} {seat : Option ℕ} → Seats a b place seat → (p : ℕ) → p ≢ place → seat_of b p ≡ seat_of a p
seat_other {a} {b} {place} {seat} change p other = change.seats p ∙ ap (λ test. if test then seat else seat_of a p) (differs p place other)

-- tables stay orderly when a place gets another disk, which has no other place
pub seats_orderly : (a b : Slices) (place : ℕ) (seat : Option ℕ) → Seats a b place seat
    → ((p disk : ℕ) → seat ≡ Some disk → seat_of a p ≡ Some disk → p ≡ place) → IsOrderly a → IsOrderly b
seats_orderly a b place seat change free orderly = record {
  seated = λ d none. elim (cases_eq (place_of d) place) [
    | inl here ↦ change.cleared d here
    | inr other ↦ change.sectors d other ∙ orderly.seated d (sym (seat_other change (place_of d) other) ∙ none)
  ];
  one_place = λ p q disk at_p at_q. elim (cases_eq p place) [
    | inl p_here ↦ elim (cases_eq q place) [
      | inl q_here ↦ p_here ∙ sym q_here
      | inr q_other ↦ p_here ∙ sym (free q disk (sym (seat_here change p p_here) ∙ at_p) (sym (seat_other change q q_other) ∙ at_q))
    ]
    | inr p_other ↦ elim (cases_eq q place) [
      | inl q_here ↦ free p disk (sym (seat_here change q q_here) ∙ at_q) (sym (seat_other change p p_other) ∙ at_p) ∙ sym q_here
      | inr q_other ↦ orderly.one_place p q disk (sym (seat_other change p p_other) ∙ at_p) (sym (seat_other change q q_other) ∙ at_q)
    ]
  ];
  apart = λ d e same other s u d_within e_within same_sector. elim (cases_eq (place_of d) place) [
    | inl here ↦ omega (arith, change.cleared d here)
    | inr there ↦
        let there_too : place_of e ≢ place = λ is. there (same ∙ is) in
        orderly.apart d e same other s u (subst (λ n. s < n) (change.sectors d there) d_within) (subst (λ n. u < n) (change.sectors e there_too) e_within)
        (ap (λ f. f + s) (sym (change.firsts d there)) ∙ same_sector ∙ ap (λ f. f + u) (change.firsts e there_too))
  ];
}

-- and the slices that are left still lie inside
pub seats_inside : (a b : Slices) (place : ℕ) (seat : Option ℕ) (x : RackView) → Seats a b place seat → ((disk : ℕ) → seat ≡ Some disk → disk < x.disks)
    → IsInside a x → IsInside b x
seats_inside a b place seat x change known inside = record {
  small = inside.small;
  seats = λ p disk at. elim (cases_eq p place) [
    | inl here ↦ known disk (sym (seat_here change p here) ∙ at)
    | inr other ↦ inside.seats p disk (sym (seat_other change p other) ∙ at)
  ];
  slices = λ d some. elim (cases_eq (place_of d) place) [
    | inl here ↦ absurd (omega (arith, change.cleared d here))
    | inr other ↦
        let disk : disk_of b d ≡ disk_of a d = ap (λ o. unwrap_or o 0) (seat_other change (place_of d) other) in
        rw (disk, change.sectors d other, change.firsts d other) (inside.slices d (omega (arith, change.sectors d other)))
  ];
}

-- the slice that was added, and the others
sectors_here : {a b : Slices} {at first sectors : ℕ} → Adds a b at first sectors → (d : ℕ) → d ≡ at → sectors_of b d ≡ sectors
sectors_here {a} {b} {at} {first} {sectors} adds d here = adds.sectors_are d ∙ ap (λ test. if test then sectors else sectors_of a d) (eq-eqb d at here)

sectors_other : {a b : Slices} {at first sectors : ℕ} → Adds a b at first sectors → (d : ℕ) → d ≢ at → sectors_of b d ≡ sectors_of a d
sectors_other {a} {b} {at} {first} {sectors} adds d other = adds.sectors_are d ∙ ap (λ test. if test then sectors else sectors_of a d) (differs d at other)

first_here : {a b : Slices} {at first sectors : ℕ} → Adds a b at first sectors → (d : ℕ) → d ≡ at → first_of b d ≡ first
first_here {a} {b} {at} {first} {sectors} adds d here = adds.firsts d ∙ ap (λ test. if test then first else first_of a d) (eq-eqb d at here)

first_other : {a b : Slices} {at first sectors : ℕ} → Adds a b at first sectors → (d : ℕ) → d ≢ at → first_of b d ≡ first_of a d
first_other {a} {b} {at} {first} {sectors} adds d other = adds.firsts d ∙ ap (λ test. if test then first else first_of a d) (differs d at other)

-- tables stay orderly when a slice is added that overlaps no other of its place
pub adds_orderly : (a b : Slices) (at first sectors disk : ℕ) → Adds a b at first sectors → seat_of a (place_of at) ≡ Some disk
    → IsFree a at first sectors → IsOrderly a → IsOrderly b
adds_orderly a b at first sectors disk adds seated free orderly = record {
  seated = λ d none. elim (cases_eq d at) [
    | inl here ↦
        let no : None ≡ Some disk = sym none ∙ adds.seats (place_of d) ∙ ap (λ e. seat_of a (place_of e)) here ∙ seated in
        cc
    | inr other ↦ sectors_other adds d other ∙ orderly.seated d (sym (adds.seats (place_of d)) ∙ none)
  ];
  one_place = λ p q x at_p at_q. orderly.one_place p q x (sym (adds.seats p) ∙ at_p) (sym (adds.seats q) ∙ at_q);
  apart = λ d e same other s u d_within e_within same_sector. elim (cases_eq d at) [
    | inl d_here ↦
        let e_there : e ≢ at = λ is. other (d_here ∙ sym is) in
        free e (sym same ∙ ap place_of d_here) e_there (
          s,
          (
            u,
            subst (λ n. s < n) (sectors_here adds d d_here) d_within,
            subst (λ n. u < n) (sectors_other adds e e_there) e_within,
            ap (λ f. f + s) (sym (first_here adds d d_here)) ∙ same_sector ∙ ap (λ f. f + u) (first_other adds e e_there),
          ),
        )
    | inr d_there ↦ elim (cases_eq e at) [
      | inl e_here ↦
          free d (same ∙ ap place_of e_here) d_there (
            u,
            (
              s,
              subst (λ n. u < n) (sectors_here adds e e_here) e_within,
              subst (λ n. s < n) (sectors_other adds d d_there) d_within,
              ap (λ f. f + u) (sym (first_here adds e e_here)) ∙ sym same_sector ∙ ap (λ f. f + s) (first_other adds d d_there),
            ),
          )
      | inr e_there ↦
          orderly.apart d e same other s u (subst (λ n. s < n) (sectors_other adds d d_there) d_within) (subst (λ n. u < n) (sectors_other adds e e_there) e_within)
          (ap (λ f. f + s) (sym (first_other adds d d_there)) ∙ same_sector ∙ ap (λ f. f + u) (first_other adds e e_there))
    ]
  ];
}

-- what a slice that was put in changes
pub put_adds : (a b : Slices) (at : ℕ) (slice : Slice) → slice_get b.slices at ≡ Some slice → ((d : ℕ) → d ≢ at → slice_get b.slices d ≡ slice_get a.slices d)
    → b.seats ≡ a.seats → Adds a b at slice.first slice.sectors
put_adds a b at slice here others seats = record {
  seats = λ place. ap (λ s. option_map_or (λ seat. seat) (slice_get s place) None) seats;
  firsts = λ d. elim (cases_eq d at) [
    | inl is ↦ rw (is, here, eq-eqb at at refl) refl
    | inr other ↦ rw (others d other, differs d at other) refl
  ];
  sectors_are = λ d. elim (cases_eq d at) [
    | inl is ↦ rw (is, here, eq-eqb at at refl) refl
    | inr other ↦ rw (others d other, differs d at other) refl
  ];
}

-- and the slices still lie inside
pub adds_inside : (a b : Slices) (at first sectors : ℕ) (x : RackView) → Adds a b at first sectors → IsWithin a x (place_of at) first sectors → IsInside a x → IsInside b x
adds_inside a b at first sectors x adds within inside = record {
  small = inside.small;
  seats = λ place disk seat. inside.seats place disk (sym (adds.seats place) ∙ seat);
  slices = λ d some.
      let same : disk_of b d ≡ disk_of a d = ap (λ o. unwrap_or o 0) (adds.seats (place_of d)) in
      elim (cases_eq d at) [
        | inl here ↦
            let disk : disk_of a d ≡ within.0 = ap (λ o. unwrap_or o 0) (ap (λ e. seat_of a (place_of e)) here ∙ within.1) in
            rw (same, disk, first_here adds d here, sectors_here adds d here) within.2
        | inr other ↦ rw (same, first_other adds d other, sectors_other adds d other) (inside.slices d (subst (λ n. 0 < n) (sectors_other adds d other) some))
      ];
}
