-- The slices of a pool whose drives passed their check are those that the drives' tables have for a replay.
use Rattle.std.proofs.Common.{◌≡◌, ℕ, suc, ◌+◌, ◌-◌, ◌<◌, ◌≤◌, ◌&&◌, Bool, nat_lt, if◌then◌else◌, List, Option, Some, None, inl, inr, refl, sym, ap, subst, ◌∙◌, le-leb, ltb-true, arith}
use Rattle.std.specs.Prelude.{unwrap_or}
use Rattle.std.proofs.lemmas.Bool.{and_parts, cases_Bool, cases_eq}
use Rattle.rack.specs.Seen.{RackView}
use Rattle.gpt_table.specs.Changes.{the_table}
use Rattle.slice_rack.specs.Slices.{Slices, IsOrderly, disk_of, first_of, seat_of, sectors_of}
use Rattle.slice_rack.specs.Sliced.{IsInside}
use Rattle.pool_state.specs.declared.contents.State.{State}
use Rattle.array_image.specs.Places.{arrays_first, log_sectors, log_slice, member_slice, place_of, slice_of, state_sector}
use Rattle.log_laws.specs.View.{LogView}
use Rattle.pool_image.specs.Disks.{disks_of, identities_of}
use Rattle.pool_image.specs.Drives.{Found}
use Rattle.pool_image.specs.Meaning.{is_member}
use Rattle.pool_image.specs.Replay.{Extent, extent_by}
use Rattle.pool_scan.specs.declared.Known.{Known}
use Rattle.pool_scan.specs.Choosing.{seat_by}
use Rattle.pool_scan.specs.Scanning.{now_in}
use Rattle.pool_scan.proofs.Seated.{seat_by_is}
use Rattle.pool_check.specs.declared.Checked.{Checked}
use Rattle.pool_rest.specs.Members.{Lies}
use Rattle.pool_rest.specs.Moments.{AreOfDrives}
use Rattle.assembler_laws.specs.Holding.{IsFoundOn}
use Rattle.assembler_laws.specs.Members.{AreMembers}
use Rattle.pool_model.specs.Pools.{AreSlicesOf, extent_in}
use Rattle.pool_model.specs.Stopped.{HaveTables}
use Rattle.assembler_laws.proofs.Finding.{same}

module _ (x : RackView) (known : List Known) (s : State) (r : Slices) (on : List ℕ) (l : LogView) (is_pending : Bool) (damaged : Option ℕ) (f : Found)
    (is : IsFoundOn x known s r on l is_pending damaged f)
    (t : Slices) (y : RackView) (checked : Checked) (absent : List ℕ) (orderly : IsOrderly t) (m : AreMembers f.state t y checked absent)
    (lie : AreSlicesOf f t) (inside : IsInside t x) (beyond : (k : ℕ) → 272 ≤ k → sectors_of t k ≡ 0) (have : HaveTables f) where
  seated : (p : ℕ) → seat_of t p ≡ seat_by s known p
  seated p =
      lie.seats p
      ∙ ap (λ (k : Found). k.seats p) (sym (same x known s r on l is_pending damaged f is))
      ∙ sym (seat_by_is (disks_of x) (identities_of (disks_of x) (now_in x)) known is.scan s p)

  log_lies : (k d : ℕ) → seat_of t (place_of k) ≡ Some d → slice_of k ≡ 0 → Lies t k (extent_by (x.sectors d) (the_table (x.sectors d) (now_in x d)) (slice_of k))
  unfolding extent_by
  log_lies k d seat log =
      let p = place_of k in
      let is_log : log_slice p ≡ k = omega (arith, log) in
      let size : sectors_of t k ≡ log_sectors = subst (λ j. sectors_of t j ≡ log_sectors) is_log (m.logs p d seat) in
      let first : first_of t k ≡ state_sector = subst (λ j. first_of t j ≡ state_sector) is_log (m.firsts p d seat) in
      let disk : disk_of t k ≡ d = ap (λ (o : Option ℕ). unwrap_or o 0) seat in
      let room : first_of t k + sectors_of t k ≤ x.sectors d = subst (λ j. first_of t k + sectors_of t k ≤ x.sectors j) disk (inside.slices k (omega (arith, size))) in
      subst (λ n. Lies t k (extent_by (x.sectors d) (the_table (x.sectors d) (now_in x d)) n)) (sym log)
      (subst (λ (b : Bool). Lies t k (if b then Some (record { first = state_sector; sectors = log_sectors }) else None))
      (sym (le-leb arrays_first (x.sectors d) (omega (arith, room, size, first))))
      (record { sectors = size; first = λ some. first }))

  member_lies : (k d : ℕ) → k < 272 → seat_of t (place_of k) ≡ Some d → 0 < slice_of k → 0 < sectors_of t k
      → Lies t k (extent_by (x.sectors d) (the_table (x.sectors d) (now_in x d)) (slice_of k))
  member_lies k d few seat member some =
      let p = place_of k in
      let n = slice_of k - 1 in
      let here : member_slice p n ≡ k = omega (arith, member) in
      let number : slice_of k ≡ suc n = omega (arith, member) in
      let low : n < 16 = omega arith in
      let at : f.seats p ≡ Some d = sym (lie.seats p) ∙ seat in
      elim (cases_Bool (nat_lt n f.state.made && is_member f n p)) [
        | inr other ↦ (let none : sectors_of t k ≡ 0 = subst (λ j. sectors_of t j ≡ 0) here (lie.others n p low other) in absurd (omega (arith, some, none)))
        | inl both ↦
            let parts = and_parts (nat_lt n f.state.made) (is_member f n p) both in
            let made = ltb-true n f.state.made parts.0 in
            let extent : extent_by (x.sectors d) (the_table (x.sectors d) (now_in x d)) (suc n) ≡ Some (extent_in t (member_slice p n)) =
            subst (λ (h : Found). extent_by (h.disks.sectors d) (h.identities d).table (suc n) ≡ Some (extent_in t (member_slice p n)))
            (sym (same x known s r on l is_pending damaged f is)) (have n p d made at parts.1 ∙ lie.members n p d made at parts.1) in
            subst (λ j. Lies t k (extent_by (x.sectors d) (the_table (x.sectors d) (now_in x d)) j)) (sym number)
            (subst (λ (o : Option Extent). Lies t k o) (sym (extent ∙ ap (λ j. Some (extent_in t j)) here))
            (record { sectors = refl; first = λ more. refl }))
      ]

  pub of_drives : AreOfDrives x (seat_by s known) t
  of_drives = record {
    orderly = orderly;
    inside = inside;
    seated = λ p few. seated p;
    beyond = beyond;
    lies = λ k d few seat which. elim (cases_eq (slice_of k) 0) [
      | inl log ↦ log_lies k d seat log
      | inr member ↦ elim which [
        | inl log ↦ absurd (member log)
        | inr some ↦ member_lies k d few seat (omega (arith, member)) some
      ]
    ];
  }
