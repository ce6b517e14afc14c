-- Causes of refusals, from where the opening began.
use Rattle.std.proofs.Common.{◌≡◌, ◌⊎◌, ℕ, ◌<◌, ◌≤◌, ◌&&◌, Bool, true, false, nat_lt, not, if◌then◌else◌, List, Option, Some, None, inl, inr, refl, sym, ap, subst, ◌∙◌, lt-ltb, le-ltb, ltb-true, arith}
use Rattle.std.specs.Option.{option_and_then}
use Rattle.std.proofs.lemmas.Bool.{both_ways, cases_Bool, cases_lt}
use Rattle.std.proofs.lemmas.Option.{none-some, slice_get_cases}
use Rattle.rack.specs.Seen.{RackView, Rose, SameRack}
use Rattle.rack.specs.Joins.{rose_early, rose_later, stays_then}
use Rattle.rack.specs.Sequences.{OnlyReads}
use Rattle.pool_state.specs.declared.contents.State.{State}
use Rattle.pool_state.specs.Valid.{is_valid}
use Rattle.array_model.specs.View.{View, IsSameArray}
use Rattle.array_model.proofs.Views.{same_array}
use Rattle.array_core.specs.Seats.{gone as without, restarted}
use Rattle.log_laws.specs.View.{names}
use Rattle.pool_image.specs.Disks.{Seats}
use Rattle.pool_scan.specs.declared.Known.{Known}
use Rattle.pool_scan.specs.Choosing.{seat_by}
use Rattle.pool_scan.specs.Scanning.{AllTold, copied_at, copied_on, now_in}
use Rattle.pool_scan.proofs.Seated.{seat_by_stands}
use Rattle.pool_scan.proofs.Valid.{valid_places}
use Rattle.pool_rest.specs.Resting.{IsFlagged}
use Rattle.pool_rest.specs.Standing.{IsLasting, IsNewest, since}
use Rattle.pool_check.specs.Drives.{Goes, Loses}
use Rattle.raid_laws.specs.Losing.{geometry_then}
use Rattle.raid_laws.specs.Moves.{OnlyFailures}
use Rattle.raid_laws.proofs.Noted.{current_few}
use Rattle.assembler.specs.declared.refusal.Refusal.{Refusal}
use Rattle.assembler.specs.Causes.{RefusesDrives}
use Rattle.assembler_laws.specs.Marking.{AreMarkedFor}
use Rattle.assembler.specs.Refusing.{FailsCheck, seats_left}

-- a disk that is left is that of a current place that hasn't gone
left_seat : (known : List Known) (s : State) (gone : List ℕ) (p d : ℕ) → seats_left known s gone p ≡ Some d
    → (p < 16) × (names gone p ≡ false) × (seat_by s known p ≡ Some d)
left_seat known s gone p d is = by (nat_lt p 16) (names gone p) refl refl is
  where
    by : (b c : Bool) → nat_lt p 16 ≡ b → names gone p ≡ c → (if b && not c then seat_by s known p else None) ≡ Some d
        → (p < 16) × (names gone p ≡ false) × (seat_by s known p ≡ Some d)
    by false c low out at = absurd (none-some d at)
    by true true low out at = absurd (none-some d at)
    by true false low out at = (ltb-true p 16 low, out, at)

module _ (a x y : RackView) (known : List Known) (s : State) (gone : List ℕ) (seats : Seats) (first : SameRack a x) (second : SameRack x y)
    (loses : Loses x y (seats_left known s gone) seats) where
  -- a place that lost its disk in the check, or that had gone before it, lost it since the opening began
  pub loses_since : is_valid s 0 ≡ true → ((p d : ℕ) → names gone p ≡ true → seat_by s known p ≡ Some d → Rose (a.faults d) (x.faults d))
      → Loses a y (seat_by s known) seats
  loses_since valid cause p = elim (cases_lt p 16) [
    | inl low ↦
        by (names gone p) refl (seat_by s known p) refl (ap (λ (b : Bool). if b && not (names gone p) then seat_by s known p else None) (lt-ltb p 16 low))
    | inr past ↦
        inl (none_of (ap (λ (b : Bool). if b && not (names gone p) then seat_by s known p else None) (le-ltb p 16 past)) ∙ sym (none_past past (seat_by s known p) refl))
  ]
    where
      none_past : 16 ≤ p → (o : Option ℕ) → seat_by s known p ≡ o → seat_by s known p ≡ None
      none_past past None seat = seat
      none_past past (Some d) seat =
          let few = current_few s p (valid_places s 0 valid).1 (seat_by_stands s known p d seat).2 in
          absurd (omega (arith, few, past))

      none_of : seats_left known s gone p ≡ None → seats p ≡ None
      none_of none = elim (loses p) [ inl kept ↦ kept ∙ none | inr lost ↦ lost.0 ]

      by : (b : Bool) → names gone p ≡ b → (o : Option ℕ) → seat_by s known p ≡ o → seats_left known s gone p ≡ (if not (names gone p) then seat_by s known p else None)
          → (seats p ≡ seat_by s known p) ⊎ ((seats p ≡ None) × Goes a y (seat_by s known) p)
      by false out o seat left =
          let same : seats_left known s gone p ≡ seat_by s known p = left ∙ ap (λ (b : Bool). if not b then seat_by s known p else None) out in
          elim (loses p) [
            | inl kept ↦ inl (kept ∙ same)
            | inr lost ↦ (let goes = lost.1 in inr (lost.0, (goes.0, sym same ∙ goes.1, rose_later a x y goes.0 first goes.2)))
          ]
      by true named None seat left = inl (none_of (left ∙ ap (λ (b : Bool). if not b then seat_by s known p else None) named) ∙ sym seat)
      by true named (Some d) seat left =
          inr (none_of (left ∙ ap (λ (b : Bool). if not b then seat_by s known p else None) named), (d, seat, rose_early a x y d second (cause p d named seat)))

  -- the copy of each disk that is left was read
  pub read_left : (AllTold a → IsLasting a → IsNewest (since a x) x known s)
      → ((p d : ℕ) → p < 16 → seat_by s known p ≡ Some d → IsFlagged known d → names gone p ≡ true)
      → AllTold a → IsLasting a → (p d : ℕ) → seats p ≡ Some d → copied_at known d ≡ copied_on (x.sectors d) (now_in x d)
  read_left newest unread told lasts p d seat = elim (loses p) [
    | inr lost ↦ absurd (none-some d (sym lost.0 ∙ seat))
    | inl kept ↦
        let left = left_seat known s gone p d (sym kept ∙ seat) in
        let scan = (newest told lasts).scan in
        let listed = (seat_by_stands s known p d left.2).0 in
        elim (slice_get_cases known d).1 [
          | inr past ↦ absurd (let long = past.0 in omega (arith, listed, long))
          | inl got ↦
              let k : Known = got.0 in
              let there : k.gone ≡ false =
              elim (cases_Bool k.gone) [ inr there ↦ there | inl flagged ↦ absurd (both_ways (names gone p) left.1 (unread p d left.0 left.2 (k, got.2, flagged))) ] in
              let inside : d < a.disks = (let count = scan.count in let disks = first.disks in omega (arith, listed, count, disks)) in
              ap (option_and_then (λ (n : Known). n.copied)) got.2 ∙ ((scan.each d k got.2).sees (first.told d (told d inside))).read there
        ]
  ]

-- drives that didn't pass their check
pub refuses_drives : (a x y : RackView) (known : List Known) (s : State) (gone : List ℕ) (bad : Option ℕ) (why : Refusal) → is_valid s 0 ≡ true → SameRack a x → OnlyReads x y
    → ((p d : ℕ) → names gone p ≡ true → seat_by s known p ≡ Some d → Rose (a.faults d) (x.faults d))
    → ((p d : ℕ) → p < 16 → seat_by s known p ≡ Some d → IsFlagged known d → names gone p ≡ true)
    → (AllTold a → IsLasting a → IsNewest (since a x) x known s) → FailsCheck x y known s gone bad why → RefusesDrives a x y known s bad why
refuses_drives a x y known s gone bad why valid first reads cause unread newest fails = record {
  fault = fails.fault;
  said = fails.said;
  only = reads;
  seats = fails.seats;
  loses = loses_since a x y known s gone fails.seats first reads.stays fails.loses valid cause;
  counts = fails.counts;
  read = read_left a x y known s gone fails.seats first reads.stays fails.loses newest unread;
  first = fails.exact;
}

-- who was marked since the drives' check had no disk or refused a call since the opening began
pub marked_since : (a x y z : RackView) (first : SameRack a x) (second : SameRack x y) (third : SameRack y z) (before now : Seats) (s t : State)
    → Loses a y before now → AreMarkedFor y z now s t → AreMarkedFor a z before s t
marked_since a x y z first second third before now s t loses marks p current off = elim (loses p) [
  | inr lost ↦ inr (lost.1.0, lost.1.1, rose_early a y z lost.1.0 third lost.1.2)
  | inl same ↦ elim (marks p current off) [
    | inl none ↦ inl (sym same ∙ none)
    | inr goes ↦ inr (goes.0, sym same ∙ goes.1, rose_later a y z goes.0 (stays_then first second) goes.2)
  ]
]

-- an array of a rack is the one that was opened, whomever it has lost
pub made_array : (places : List ℕ) (u v w : View) → v ≡ without places (restarted u) → OnlyFailures v w → IsSameArray u w
made_array places u v w is loses =
    let one : IsSameArray u v =
    subst (IsSameArray u) (sym is) (record { number = refl; geometry = (same_array u).geometry; devices = refl; resync = refl; young = refl }) in
    record {
      number = loses.same.number ∙ one.number;
      geometry = geometry_then u.truth v.truth w.truth one.geometry loses.same.geometry;
      devices = loses.same.devices ∙ one.devices;
      resync = loses.same.resync ∙ one.resync;
      young = loses.same.young ∙ one.young;
    }
