-- What stands on the slices in the midst of a commit, and what it leaves pending.
use Rattle.std.proofs.Common.{◌≡◌, ◌≢◌, ◌⊎◌, ℕ, ◌+◌, ◌%◌, ◌<◌, ◌≤◌, ◌==◌, ◌&&◌, Bool, true, false, nat_lt, nat_le, if◌then◌else◌, List, [], ◌∷◌, Some, None, unwrap_or, refl, ap, subst, ◌∙◌, inl, inr, arith, eqb-true, eq-eqb, ltb-true}
use Rattle.std.proofs.lemmas.Bool.{cases_Bool, both_ways, and_parts, leb-true, ne_eqb, cond-true, cond-false}
use Rattle.rack.specs.Values.{MayLeave}
use Rattle.rack.specs.Seen.{Image, RackView, IsLive}
use Rattle.rack.specs.Targets.{Target, look, put}
use Rattle.shr_base.specs.Blocks.{bytes_at}
use Rattle.array_image.specs.Places.{slice_of, place_of, log_slice, log_sectors}
use Rattle.array_image.specs.Record.{Gate, gate_sector, gate_of, half_of, record_in, pending}
use Rattle.array_image.specs.Arrays.{replayed}
use Rattle.log_laws.specs.View.{LogView, names, is_left}
use Rattle.log_laws.specs.Standing.{IsLogPart, IsInside, deciding}
use Rattle.log_laws.specs.Commits.{IsWritten}
use Rattle.commit_log.proofs.Deciding.{names_first, names_later, names_either}

-- ---- the terms of a commit

-- the sectors of a number's half
abbrev pub in_half : ℕ → ℕ → Bool
in_half number t = nat_le (half_of number) t && nat_lt t (half_of number + 4092)

pub record Terms (l : LogView) (on : List ℕ) (number : ℕ) (opened closed : List ℕ) (a : RackView) : Type 0 where
  pub number_is : number ≡ l.number + 1
  pub opened_is : gate_of opened ≡ Some (record { is_open = true; number = number })
  pub closed_is : gate_of closed ≡ Some (record { is_open = false; number = number })
  pub logs : (p : ℕ) → names on p ≡ true → (p < 16) × (a.sectors (log_slice p) ≡ log_sectors)
  pub targets : (d t : ℕ) (v : List ℕ) → look l.added d t ≡ Some v → (t < a.sectors d) × (IsLogPart d t → ⊥)

-- a place whose gate is open has the whole record
pub record IsNew (number : ℕ) (xs : List Target) (opened : List ℕ) (c : Image) (p : ℕ) : Type 0 where
  pub gate : c (log_slice p) gate_sector ≡ opened
  pub holds : record_in c p number ≡ Some xs

-- it was closed, all targets written
pub record IsShut (xs : List Target) (closed : List ℕ) (c : Image) (p : ℕ) : Type 0 where
  pub gate : c (log_slice p) gate_sector ≡ closed
  pub written : IsWritten xs c

-- the parts of the log that no commit of this number writes are as before
pub record IsAround (on : List ℕ) (number : ℕ) (a : RackView) (c : Image) : Type 0 where
  pub inside : IsInside a.sectors c
  pub parts :
      (p t : ℕ) → IsLive a a (log_slice p) t → 1 < t → (names on p ≡ false) ⊎ (in_half number t ≡ false)
      → MayLeave (a.held (log_slice p) t) (c (log_slice p) t)

-- before a target is written
pub record IsEarly (l : LogView) (on : List ℕ) (number : ℕ) (opened : List ℕ) (a : RackView) (c : Image) : Type 0 where
  pub around : IsAround on number a c
  pub gates :
      (p : ℕ) → IsLive a a (log_slice p) gate_sector
      → MayLeave (a.held (log_slice p) gate_sector) (c (log_slice p) gate_sector) ⊎ ((names on p ≡ true) × IsNew number l.added opened c p)
  pub others : (d t : ℕ) → IsLive a a d t → (IsLogPart d t → ⊥) → MayLeave (a.held d t) (c d t)

-- once the gates of those left are open
pub record IsLate (l : LogView) (on lost : List ℕ) (number : ℕ) (opened closed : List ℕ) (a : RackView) (c : Image) : Type 0 where
  pub around : IsAround on number a c
  pub gates :
      (p : ℕ) → IsLive a a (log_slice p) gate_sector
      → MayLeave (a.held (log_slice p) gate_sector) (c (log_slice p) gate_sector)
      ⊎ ((names on p ≡ true) × (IsNew number l.added opened c p ⊎ IsShut l.added closed c p))
  pub others :
      (d t : ℕ) → IsLive a a d t → (IsLogPart d t → ⊥) → MayLeave (a.held d t) (c d t) ⊎ (look l.added d t ≡ Some (c d t))
  pub left : (p : ℕ) → is_left on lost p ≡ true → IsNew number l.added opened c p ⊎ IsShut l.added closed c p

-- ---- numbers of disks and sectors

pub slice_of_log : (p : ℕ) → slice_of (log_slice p) ≡ 0
slice_of_log p = omega arith

pub place_of_log : (p : ℕ) → place_of (log_slice p) ≡ p
place_of_log p = omega arith

pub log_of_place : (d : ℕ) → slice_of d ≡ 0 → log_slice (place_of d) ≡ d
log_of_place d is = omega (arith, is)

pub not_state : (p : ℕ) → IsLogPart (log_slice p) 0 → ⊥
not_state p part = absurd (omega (arith, part.1))

pub half_least : (number : ℕ) → 8 ≤ half_of number
half_least number = elim (cases_Bool (number % 2 == 0)) [
  | inl even ↦ let is : half_of number ≡ 8 = cond-true (number % 2 == 0) 8 4100 even in omega (arith, is)
  | inr odd ↦ let is : half_of number ≡ 4100 = cond-false (number % 2 == 0) 8 4100 odd in omega (arith, is)
]

pub half_most : (number : ℕ) → half_of number ≤ 4100
half_most number = elim (cases_Bool (number % 2 == 0)) [
  | inl even ↦ let is : half_of number ≡ 8 = cond-true (number % 2 == 0) 8 4100 even in omega (arith, is)
  | inr odd ↦ let is : half_of number ≡ 4100 = cond-false (number % 2 == 0) 8 4100 odd in omega (arith, is)
]

pub not_in_half : (number t : ℕ) → (t < half_of number) ⊎ (half_of number + 4092 ≤ t) → in_half number t ≡ false
not_in_half number t out =
    elim (cases_Bool (in_half number t)) [
      | inr is ↦ is
      | inl within ↦
          let parts = and_parts (nat_le (half_of number) t) (nat_lt t (half_of number + 4092)) within in
          elim out [
            | inl below ↦ absurd (omega (arith, below, leb-true (half_of number) t parts.0))
            | inr past ↦ absurd (omega (arith, past, ltb-true t (half_of number + 4092) parts.1))
          ]
    ]

-- the half of the number before is the other one
pub other_half : (number before k : ℕ) → number ≡ before + 1 → k < 4092 → in_half number (half_of before + k) ≡ false
other_half number before k is below =
    not_in_half number (half_of before + k)
    (elim (cases_Bool (before % 2 == 0)) [
      | inl even ↦
          let rest : before % 2 ≡ 0 = eqb-true (before % 2) 0 even in
          let here : half_of before ≡ 8 = cond-true (before % 2 == 0) 8 4100 even in
          let there : half_of number ≡ 4100 = cond-false (number % 2 == 0) 8 4100 (ne_eqb (number % 2) 0 (λ zero. absurd (omega (arith, zero, rest, is)))) in
          inl (omega (arith, here, there, below))
      | inr odd ↦
          let rest : before % 2 ≢ 0 = λ zero. both_ways (before % 2 == 0) odd (eq-eqb (before % 2) 0 zero) in
          let here : half_of before ≡ 4100 = cond-false (before % 2 == 0) 8 4100 odd in
          let there : half_of number ≡ 8 = cond-true (number % 2 == 0) 8 4100 (eq-eqb (number % 2) 0 (odd_next before number rest is)) in
          inr (omega (arith, here, there))
    ])
  where
    odd_next : (m n : ℕ) → m % 2 ≢ 0 → n ≡ m + 1 → n % 2 ≡ 0
    odd_next m n odd is = omega (arith, odd, is)

-- the same targets put into contents that agree
pub same_replayed : (a : RackView) (c e : Image) (d t : ℕ) → pending (deciding c) c ≡ pending (deciding e) e → c d t ≡ e d t
    → replayed a.sectors c d t ≡ replayed a.sectors e d t
unfolding replayed
same_replayed a c e d t targets here =
    ap (λ (xs : List Target). put a.sectors xs c d t) targets
    ∙ ap (λ (v : List ℕ). if nat_lt t (a.sectors d) then unwrap_or (look (pending (deciding e) e) d t) v else v) here

pub replayed_as : (a : RackView) (c : Image) (xs : List Target) (d t : ℕ) → pending (deciding c) c ≡ xs → replayed a.sectors c d t ≡ put a.sectors xs c d t
unfolding replayed
replayed_as a c xs d t targets = ap (λ (ys : List Target). put a.sectors ys c d t) targets

-- ---- gates that decide

-- the gate of a place that decides: none, or one from before
pub data IsOld (l : LogView) (a : RackView) (c : Image) (p : ℕ) : Type 0 where
  absent : c (log_slice p) gate_sector ≡ [] → IsOld l a c p
  lower : (g : Gate) → gate_of (c (log_slice p) gate_sector) ≡ Some g → g.number ≤ l.number → IsOld l a c p

pub no_gate_in_nothing : gate_of [] ≡ None
unfolding gate_of bytes_at
no_gate_in_nothing = refl

-- each of some places has something, or something else holds
pub each_or : (P : ℕ → Type 0) (W : Type 0) (ps : List ℕ) → ((p : ℕ) → names ps p ≡ true → P p ⊎ W) → ((p : ℕ) → names ps p ≡ true → P p) ⊎ W
each_or P W [] each = inl (λ p none. absurd (both_ways false refl none))
each_or P W (q ∷ ps) each =
    elim (each q (names_first q ps)) [
      | inr other ↦ inr other
      | inl here ↦
          elim (each_or P W ps (λ p among. each p (names_later q ps p among))) [
            | inr other ↦ inr other
            | inl later ↦
                inl (λ p among.
                elim (names_either q ps p among) [
                  | inl same ↦ subst P same here
                  | inr behind ↦ later p behind
                ])
          ]
    ]
