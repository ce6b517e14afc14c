-- What a stop leaves while a new drive joins, and before the record counts that brings the state with it, holds the pool that it had still: the places that are
-- current have the slices that they had, and the new drive says no state.
use Rattle.std.proofs.Common.{◌≡◌, ◌≢◌, ℕ, ◌<◌, ◌≤◌, ◌&&◌, nat_lt, if◌then◌else◌, Bool, true, false, Some, sym, ap, ap₂, subst, ◌∙◌, inl, inr, le-ltb, arith}
use Rattle.std.proofs.lemmas.Bool.{both_ways, cases_eq, cases_lt, ne_eqb}
use Rattle.rack.specs.Seen.{Image, RackView}
use Rattle.slice_rack.specs.Slices.{IsOrderly, Slices, place_of, seat_of as slice_seat, sectors_of}
use Rattle.slice_rack.specs.Sliced.{IsInside}
use Rattle.array_image.specs.Places.{log_slice, member_slice}
use Rattle.array_image.specs.States.{is_current}
use Rattle.raid_laws.specs.Raid.{Raid}
use Rattle.pool_image.specs.Disks.{Disks, Identities, disks_of, identities_of}
use Rattle.pool_image.specs.Drives.{Found}
use Rattle.pool_image.specs.Meaning.{is_member}
use Rattle.pool_model.specs.InService.{HoldSaid, RunInvariant}
use Rattle.pool_model.specs.Laid.{IsCalledBy, IsLaidOutsideSlices, SaysBooks}
use Rattle.pool_model.specs.Left.{HavePlaces}
use Rattle.pool_model.specs.Pools.{AreSlicesOf, extent_in}
use Rattle.pool_model.specs.Stopped.{AreSlicesNow, RecoversInCall, HoldTables, LieByTables}
use Rattle.pool_model.specs.Taken.{LacksDrive, SeatsNew, views_of}
use Rattle.pool_model.proofs.Alike.{has_truths, member_same, slices_said}
use Rattle.pool_model.proofs.Amid.{inside_of}
use Rattle.pool_model.proofs.Laying.{laid_alone, laid_said, laid_tables, said_before, shown_amid, vacant_apart, vacant_said}
use Rattle.pool_model.proofs.Tables.{lie_same, slice_apart, tables_vacant}
use Rattle.pool_model.proofs.Taken.{IsKnownBefore}
use Rattle.pool_model.proofs.TakenSlices.{none_here}
use Rattle.pool_model.proofs.Vacant.{seats_from}

module _ (f : Found) (t u : Slices) (v : Raid) (place disk : ℕ) (x : RackView) (is : RunInvariant f t v x) (new : SeatsNew f t u v place disk (x.sectors disk))
    (missing : is_current v.state place ≡ false) where
  few : f.state.made ≤ 16
  few = is.arranged.made.1

  -- a current place is another one
  other_place : (p : ℕ) → is_current v.state p ≡ true → p ≢ place
  other_place p now same = both_ways (is_current v.state p) (subst (λ q. is_current v.state q ≡ false) (sym same) missing) now

  seat_other : (p : ℕ) → p ≢ place → slice_seat u p ≡ slice_seat t p
  seat_other p other = new.seats.seats p ∙ ap (λ (b : Bool). if b then Some disk else slice_seat t p) (ne_eqb p place other)

  extent_other : (k : ℕ) → place_of k ≢ place → extent_in u k ≡ extent_in t k
  extent_other k other = ap₂ (λ (a b : ℕ). record { first = a; sectors = b }) (new.seats.firsts k other) (new.seats.others k other)

  log_apart : (p : ℕ) → p ≢ place → place_of (log_slice p) ≢ place
  log_apart p other same = other (let e : p ≡ place = omega (arith, same) in e)

  -- the new drive has slices of the arrays that the place is a member of
  none_new : (n : ℕ) → n < 16 → (nat_lt n f.state.made && is_member f n place) ≡ false → sectors_of u (member_slice place n) ≡ 0
  none_new n small none =
      let known : IsKnownBefore f v = record { outset = is.arranged; after = is.after; geometry = is.geometry } in
      none_here f t u v (disks_of x) place disk 0 v.state.plan new known (λ d low. ap (λ (q : Disks). q.sectors d) (sym is.disks)) n small none

  -- so the current places have the slices that they had
  slices_early : (e : Identities) → AreSlicesNow (record f { identities = e }) u v.state
  slices_early e =
      let g : Found = record f { identities = e } in
      let had : AreSlicesOf g t = slices_said f e few is.arranged.truths t is.slices in
      record {
        seats = λ p d now seat. seat_other p (other_place p now) ∙ had.seats p ∙ seat;
        logs = λ p d now seat. had.logs p d seat ∙ ap Some (sym (extent_other (log_slice p) (log_apart p (other_place p now))));
        members = λ n p d low now seat member.
            had.members n p d low seat member ∙ ap Some (sym (extent_other (member_slice p n) (slice_apart p place n (other_place p now) (omega (arith, low, few)))));
        others = λ n p small none. elim (cases_eq p place) [
          | inl same ↦
              subst (λ q. sectors_of u (member_slice q n) ≡ 0) (sym same)
              (none_new n small (was e n (subst (λ q. (nat_lt n f.state.made && is_member g n q) ≡ false) same none)))
          | inr other ↦ new.seats.others (member_slice p n) (slice_apart p place n other small) ∙ had.others n p small none
        ];
        unseated = λ k now free. new.seats.others k (other_place (place_of k) now) ∙ had.unseated k free;
      }
    where
      was : (e : Identities) (n : ℕ) → (nat_lt n f.state.made && is_member (record f { identities = e }) n place) ≡ false → (nat_lt n f.state.made && is_member f n place) ≡ false
      was e n none = elim (cases_lt n f.state.made) [
        | inl low ↦
            ap (λ b. nat_lt n f.state.made && b)
            (sym (member_same f (record f { identities = e }) few is.arranged.truths (has_truths f e few is.arranged.truths) n low place)) ∙ none
        | inr past ↦ ap (λ b. b && is_member f n place) (le-ltb n f.state.made past)
      ]

  -- Contents that say the book by the slices with the new drive, once the place gave its disk up: r are the slices then.
  pub joining_early : (r : Slices) (i : Image) → LacksDrive f t r v place x → IsOrderly r → IsInside r x → IsOrderly u → IsInside u x → HoldTables f t v.state x
      → HavePlaces v.state f → (p : ℕ) → is_current v.state p ≡ true
      → IsLaidOutsideSlices f r v.state disk x i → SaysBooks f.state.made u v v i → RecoversInCall f u v.state v.state i
  joining_early r i lacks orderly inside orderly_now inside_now tables present someone now laid says =
      let by : IsCalledBy f u v =
      record {
        arranged = is.arranged;
        after = is.after;
        joined = is.joined;
        geometry = is.geometry;
        slices = slices_early;
        orderly = orderly_now;
        inside = inside_of f u x is.disks inside_now;
      } in
      let held : HoldSaid f r v.state x = vacant_said f t r v place x is lacks orderly inside in
      let seats = seats_from t r place lacks.vacated (views_of v) disk (x.sectors disk) u new.seats in
      let seat_was : (p : ℕ) → p ≢ place → slice_seat u p ≡ slice_seat r p =
      λ p other. seats.seats p ∙ ap (λ (b : Bool). if b then Some disk else slice_seat r p) (ne_eqb p place other) in
      let lie : LieByTables f r v.state i =
      laid_tables f r v.state disk x i laid (vacant_apart f t r v place x is lacks orderly inside disk i laid)
      (tables_vacant f t r place v.state x lacks.vacated lacks.missing tables) in
      shown_amid f u v v i by (laid_said f r v.state disk x i laid is.arranged is.disks held) (laid_alone f r v.state disk x i laid is.arranged is.disks held)
      (λ p d now seat.
      lie_same r u p (f.disks.sectors d) (i d)
      (λ n small.
      let other = slice_apart p place n (other_place p now) small in
      ap₂ (λ (a b : ℕ). record { first = a; sectors = b }) (seats.firsts (member_slice p n) other) (seats.others (member_slice p n) other))
      (lie p d now (sym (seat_was p (other_place p now)) ∙ seat)))
      present
      (λ p d copy seat past here. elim (cases_eq p place) [
        | inr other ↦ absurd (both_ways (is_current v.state p) past (new.others p d other seat).0)
        | inl same ↦
            let before = said_before f r v.state disk x i laid d copy (subst (λ (q : Disks). (identities_of q i d).copied ≡ Some copy) is.disks here) in
            lacks.earlier d (subst (λ q. f.seats q ≡ Some d) same seat) before.0 before.1 copy before.2
      ])
      says new.room someone now
