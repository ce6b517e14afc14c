-- The log's number that an opening finds is that of a gate which a drive of the pool had.
use Rattle.std.proofs.Common.{◌≡◌, ℕ, ◌+◌, ◌<◌, ◌≤◌, Bool, true, nat_lt, if◌then◌else◌, List, [], Option, Some, None, unwrap_or, inl, inr, refl, sym, ap, subst, ◌∙◌, ltb-true, lt-ltb, arith}
use Rattle.std.proofs.lemmas.Bool.{and_parts}
use Rattle.rack.specs.Seen.{RackView}
use Rattle.rack.specs.Sequences.{OnlyReads}
use Rattle.slice_rack.specs.Slices.{IsOrderly, Slices, disk_of, first_of, seat_of, sectors_of}
use Rattle.slice_rack.specs.Sliced.{slices_of}
use Rattle.pool_state.specs.declared.contents.State.{State}
use Rattle.array_image.specs.Left.{reading}
use Rattle.array_image.specs.Places.{log_slice, place_of}
use Rattle.array_image.specs.Record.{Gate, gate_in, gate_of, gate_sector}
use Rattle.array_image.specs.States.{is_current}
use Rattle.log_laws.specs.View.{LogView, names}
use Rattle.pool_image.specs.Alike.{drive_gate}
use Rattle.pool_image.specs.Disks.{disks_of, identities_of, seat_of as pool_seat}
use Rattle.pool_image.specs.Drives.{Found}
use Rattle.pool_scan.specs.Scanning.{AllTold, now_in}
use Rattle.pool_rest.specs.SoundLogs.{IsSettled}
use Rattle.pool_rest.specs.Standing.{IsLasting}
use Rattle.pool_check.specs.declared.Checked.{Checked}
use Rattle.assembler_laws.specs.Holding.{HoldPool}
use Rattle.assembler_laws.specs.Members.{AreMembers}
use Rattle.assembler.specs.Sound.{HaveGatesUpTo}

module _ (f : Found) (t : Slices) (y : RackView) (checked : Checked) (absent : List ℕ) (orderly : IsOrderly t) (m : AreMembers f.state t y checked absent)
    (l : LogView) (holds : HoldPool f.state t y l f) where
  log_place : (p : ℕ) → place_of (log_slice p) ≡ p
  log_place p = omega arith

  -- a gate that the log found is its drive's
  gate_read : (p : ℕ) (g : Gate) → names holds.log.on p ≡ true → gate_in (reading (slices_of t y)) p ≡ Some g
      → (d : ℕ) × (seat_of t p ≡ Some d) × (gate_of (now_in y d drive_gate) ≡ Some g)
  gate_read p g named is = by (seat_of t p) refl
    where
      by : (o : Option ℕ) → seat_of t p ≡ o → (d : ℕ) × (seat_of t p ≡ Some d) × (gate_of (now_in y d drive_gate) ≡ Some g)
      by None free =
          let parts = and_parts (is_current f.state p) (nat_lt 0 (sectors_of t (log_slice p))) (sym (holds.log.places p) ∙ named) in
          let some : 0 < sectors_of t (log_slice p) = ltb-true 0 (sectors_of t (log_slice p)) parts.1 in
          let none = orderly.seated (log_slice p) (ap (seat_of t) (log_place p) ∙ free) in
          absurd (omega (arith, some, none))
      by (Some d) seat =
          let size = m.logs p d seat in
          let at = m.firsts p d seat in
          let inside : gate_sector < sectors_of t (log_slice p) = omega (arith, size) in
          let disk : disk_of t (log_slice p) ≡ d = ap (λ o. unwrap_or o 0) (ap (seat_of t) (log_place p) ∙ seat) in
          let first : first_of t (log_slice p) + gate_sector ≡ drive_gate = omega (arith, at) in
          let read : reading (slices_of t y) (log_slice p) gate_sector ≡ now_in y d drive_gate =
          ap (λ (b : Bool). if b then (y.held (disk_of t (log_slice p)) (first_of t (log_slice p) + gate_sector)).current else []) (lt-ltb gate_sector (sectors_of t (log_slice p)) inside)
          ∙ ap (λ k. (y.held k (first_of t (log_slice p) + gate_sector)).current) disk ∙ ap (λ u. (y.held d u).current) first in
          (d, seat, ap gate_of (sym read) ∙ is)

  -- so no bound of the numbers of the gates before is below it
  pub number_found : (a x : RackView) (s : State) (is_pending : Bool) (damaged : Option ℕ) (e : Found) → IsSettled a x s is_pending damaged → OnlyReads x y → AllTold x → IsLasting x
      → ((p : ℕ) → seat_of t p ≡ pool_seat s (disks_of x) (identities_of (disks_of x) (now_in x)) p) → ((p : ℕ) → e.seats p ≡ seat_of t p)
      → (most : ℕ) → HaveGatesUpTo a e most → l.number ≤ most
  number_found a x s is_pending damaged e settled reads told lasts seats_x seats_e most bound =
      elim holds.log.finds.number [
        | inl none ↦ omega (arith, none)
        | inr some ↦
            let at = gate_read some.0 some.1 some.2 some.3 in
            let room = m.room some.0 at.0 at.1 in
            let size = reads.stays.sectors at.0 in
            let inside : drive_gate < x.sectors at.0 = omega (arith, room, size) in
            let there = m.fit.1.seats some.0 at.0 at.1 in
            let kept : now_in y at.0 drive_gate ≡ now_in x at.0 drive_gate =
            (reads.keeps.held at.0 drive_gate (record {
              disk = there;
              sector = omega (arith, room);
              is_told = told at.0 (subst (λ n. at.0 < n) reads.stays.disks there);
              unspent = reads.stays.lasts lasts.lasting at.0 drive_gate (lasts.unspent at.0 drive_gate);
            })).current in
            let had = settled.numbers some.0 at.0 some.1 (sym (seats_x some.0) ∙ at.1) inside
            (ap gate_of (sym kept) ∙ at.2) in
            let low = bound had.place had.disk had.gate (seats_e had.place ∙ seats_x had.place ∙ had.seat) had.has in
            let same = had.number_is in
            let found = some.4 in
            omega (arith, low, same, found)
      ]
