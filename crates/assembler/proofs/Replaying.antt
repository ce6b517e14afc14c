-- While the record that was pending is replayed, and the disks are read round it, what a stop leaves holds the pool that they had.
use Rattle.std.proofs.Common.{◌≡◌, ◌⊎◌, ℕ, ◌+◌, ◌<◌, ◌≤◌, ◌&&◌, Bool, true, false, nat_le, nat_lt, if◌then◌else◌, List, [], Option, Some, None, refl, sym, ap, ap₂, subst, ◌∙◌, inl, inr, arith, eq-eqb, le-leb, leb-true, lt-ltb}
use Rattle.std.specs.Option.{option_map_or}
use Rattle.std.specs.Result.{result_ok}
use Rattle.std.proofs.lemmas.Bool.{cases_eq, ne_eqb}
use Rattle.std.proofs.lemmas.Option.{none-some}
use Rattle.rack.specs.Joins.{leaves_weaker}
use Rattle.rack.specs.Moments.{Leaves}
use Rattle.rack.specs.Seen.{Image, RackView}
use Rattle.rack.specs.Sequences.{OnlyReads}
use Rattle.gpt_table.specs.Changes.{the_table}
use Rattle.slice_rack.specs.Slices.{IsOrderly, Slices, seat_of, sectors_of}
use Rattle.slice_rack.specs.Sliced.{IsInside, sliced, slices_of}
use Rattle.slice_rack.specs.SliceRack.{below_of, tables}
use Rattle.pool_state.specs.declared.contents.Copied.{Copied}
use Rattle.pool_state.specs.declared.contents.State.{State}
use Rattle.pool_state.specs.Sector.{decoded}
use Rattle.array_image.specs.Places.{arrays_first, log_sectors, log_slice, place_of, slice_of, state_sector}
use Rattle.array_image.specs.Record.{damaged_log}
use Rattle.array_image.specs.States.{copy_in, current_places, state_in}
use Rattle.array_core.proofs.Stripped.{some_same}
use Rattle.log_laws.specs.Kept.{IsNoLater}
use Rattle.pool_image.specs.Alike.{Agree}
use Rattle.pool_image.specs.Disks.{Disks, Identity, disks_of, identities_of, newest}
use Rattle.pool_image.specs.Drives.{Found}
use Rattle.pool_image.specs.Replay.{Extent, Standing, extent_by, log_extent, standing, standing_by}
use Rattle.pool_image.proofs.Rested.{stood_by}
use Rattle.pool_scan.specs.declared.Known.{Known}
use Rattle.pool_scan.specs.Choosing.{seat_by}
use Rattle.pool_scan.specs.Scanning.{now_in}
use Rattle.pool_scan.proofs.Seated.{seat_by_is}
use Rattle.pool_rest.specs.Members.{Lies}
use Rattle.pool_rest.specs.Moments.{AreOfDrives, StandsMidway, TakesLower}
use Rattle.pool_rest.specs.Resting as resting
use Rattle.pool_rest.specs.Standing.{IsLaid}
use Rattle.pool_rest.specs.declared.resting.AtRest.{AtRest}
use Rattle.pool_model.specs.Left.{NoStraySuperblock}
use Rattle.pool_model.specs.Openings.{RecoversInOpening, IsIdleIn, MayReplay}
use Rattle.pool_model.specs.Stopped.{LieApart, StoodInLog}
use Rattle.pool_model.proofs.Found.{few_places, found_is}
use Rattle.pool_model.proofs.Openings.{opened_same}
use Rattle.pool_model.proofs.Outset.{outset_of}
use Rattle.pool_model.proofs.Rereading.{agree_holds, midway_holds, same_apart}
use Rattle.pool_model.proofs.Settled.{idle_logs}
use Rattle.assembler.specs.Sound.{HoldSound}
use Rattle.assembler.proofs.AtRest.{pool_alone, rest_one}
use Rattle.assembler.proofs.Before.{before_is}
use Rattle.assembler.proofs.Entry.{IsRested, f, pool_same, rest_found}
use Rattle.assembler_laws.proofs.Finding.{idle, newest_is, same as found_same}
use Rattle.assembler.proofs.Rereading.{rereading_leaves}
use Rattle.assembler_laws.proofs.Rest.{nothing_decodes, ok_of, state_of_latest}

-- ---- log slices of drives, as they are laid

laid_drives : (x : RackView) (known : List Known) (s : State) (t : Slices) (on : List ℕ) → IsOrderly t → IsInside t x → IsLaid x known s t on → AreOfDrives x (seat_by s known) t
unfolding extent_by
laid_drives x known s t on orderly inside laid = record {
  orderly = orderly;
  inside = inside;
  seated = laid.seats;
  beyond = laid.none;
  lies = λ k d few seat which. elim (cases_eq (slice_of k) 0) [
    | inl log ↦ subst (λ n. Lies t k (extent_by (x.sectors d) (the_table (x.sectors d) (now_in x d)) n)) (sym log) (of_room k d (nat_le arrays_first (x.sectors d)) refl (size k d few log seat))
    | inr member ↦ elim which [
      | inl log ↦ absurd (member log)
      | inr some ↦ absurd (let none = no_member k few member in omega (arith, some, none))
    ]
  ];
}
  where
    by : ℕ → ℕ
    by k = option_map_or (λ d. if nat_le arrays_first (x.sectors d) then log_sectors else 0) (seat_by s known (place_of k)) 0

    no_member : (k : ℕ) → k < 272 → (slice_of k ≡ 0 → ⊥) → sectors_of t k ≡ 0
    no_member k few member = laid.sectors k few ∙ ap (λ b. if b then by k else 0) (ne_eqb (slice_of k) 0 member)

    size : (k d : ℕ) → k < 272 → slice_of k ≡ 0 → seat_of t (place_of k) ≡ Some d → sectors_of t k ≡ (if nat_le arrays_first (x.sectors d) then log_sectors else 0)
    size k d few log seat =
        laid.sectors k few ∙ ap (λ b. if b then by k else 0) (eq-eqb (slice_of k) 0 log)
        ∙ ap (λ o. option_map_or (λ d. if nat_le arrays_first (x.sectors d) then log_sectors else 0) o 0) (sym (laid.seats (place_of k) (omega (arith, few))) ∙ seat)

    of_room : (k d : ℕ) (b : Bool) → nat_le arrays_first (x.sectors d) ≡ b → sectors_of t k ≡ (if nat_le arrays_first (x.sectors d) then log_sectors else 0)
        → Lies t k (log_extent (x.sectors d))
    of_room k d true room is =
        subst (λ (b : Bool). Lies t k (if b then Some (record { first = state_sector; sectors = log_sectors }) else None)) (sym room)
        (record { sectors = is ∙ ap (λ b. if b then log_sectors else 0) room; first = laid.firsts k })
    of_room k d false room is =
        let none = is ∙ ap (λ b. if b then log_sectors else 0) room in
        subst (λ (b : Bool). Lies t k (if b then Some (record { first = state_sector; sectors = log_sectors }) else None)) (sym room)
        (record { sectors = none; first = λ more. absurd (omega (arith, more, none)) })

-- ---- where they are brought to rest

module _ {R : Type 0} (seen : R → RackView) (a : RackView) (rest : AtRest R) (e : Found) (sound : HoldSound a e) (rested : IsRested seen a rest) (apart : LieApart e)
    (alone : NoStraySuperblock e e.contents) where
  abbrev x : RackView
  x = seen (below_of rest.slices)

  abbrev pool : Found
  pool = f seen a rest e sound rested

  abbrev known : List Known
  known = rest.scan.disks.items

  disks_same : disks_of a ≡ disks_of x
  disks_same = ap₂ (λ count sectors. record { count = count; sectors = sectors }) (sym rested.stays.disks) (λ k d. sym (rested.stays.sectors d) k)

  newest_rest : newest (disks_of x) (identities_of (disks_of x) (now_in x)) ≡ Some rest.state
  newest_rest = newest_is x known rest.state (tables rest.slices) rest.on.items rest.log rest.pending rest.damaged pool (rest_found seen a rest e sound rested)

  idle_rest : (standing_by (disks_of x) (now_in x) rest.state).targets ≡ []
  idle_rest = idle x known rest.state (tables rest.slices) rest.on.items rest.log rest.pending rest.damaged pool (rest_found seen a rest e sound rested)

  -- what they hold in the end
  rest_agrees : (i : Image) → Agree (disks_of a) i (now_in x) → RecoversInOpening e 0 i
  rest_agrees i agree =
      let at = rest_found seen a rest e sound rested in
      let whole : damaged_log (current_places rest.state) (standing_by (disks_of x) (now_in x) rest.state).logs ≡ None = sym rested.stands.damaged_is ∙ rested.settled.whole in
      let none : IsIdleIn (disks_of x) (now_in x) = λ before is.
      ap (λ (z : Standing). z.targets) (some_same before (standing_by (disks_of x) (now_in x) rest.state) (sym is ∙ rested.stands.stands)) ∙ idle_rest in
      opened_same e pool 0 i (pool_same seen a rest e sound rested) (rest_one seen a rest e sound rested)
      (agree_holds (disks_of x) (now_in x) i pool at.found_is at.sound
      (idle_logs (disks_of x) (now_in x) rest.state newest_rest idle_rest whole) (same_apart e pool (pool_same seen a rest e sound rested) apart) (pool_alone seen a rest e sound rested alone) (inl none) (subst (λ (k : Disks). Agree k i (now_in x)) disks_same agree))

  module _ (laid : IsLaid x known rest.state (tables rest.slices) rest.on.items) (fit : (slices_of (tables rest.slices) x).fit) where
    abbrev u : Slices
    u = tables rest.slices

    -- ---- the state that the log slices say before

    seats : (p : ℕ) → seat_by rest.state known p ≡ e.seats p
    seats p =
        seat_by_is (disks_of x) (identities_of (disks_of x) (now_in x)) known (rest_found seen a rest e sound rested).scan rest.state p
        ∙ ap (λ (k : Found). k.seats p)
        (found_same x known rest.state (tables rest.slices) rest.on.items rest.log rest.pending rest.damaged pool (rest_found seen a rest e sound rested))
        ∙ (pool_same seen a rest e sound rested).seats p

    module _ (in_log : StoodInLog e) (b : Standing) (stands : standing (disks_of a) (now_in a) ≡ Some b) where
      abbrev c : Image
      c = sliced u (now_in a)

      before : e.before ≡ b
      before = before_is (disks_of a) (now_in a) e b sound.found_is stands

      said : (d : ℕ) → e.before.identities d ≡ identities_of (disks_of a) (now_in a) d
      said d = ap (λ (z : Standing). z.identities d) (before ∙ (stood_by (disks_of a) (now_in a) b stands).2)

      abbrev copy_by : Option ℕ → Option Copied
      copy_by o = result_ok (decoded (option_map_or (λ d. option_map_or (λ (k : Extent). now_in a d (k.first + 0)) (log_extent (x.sectors d)) []) o []))

      read : (p : ℕ) → p < 16 → copy_in c p ≡ copy_by (e.seats p)
      read p few =
          let log : slice_of (log_slice p) ≡ 0 = omega arith in
          let place : place_of (log_slice p) ≡ p = omega arith in
          ap (λ v. result_ok (decoded v))
          (laid.shows (now_in a) (log_slice p) 0 (omega (arith, few))
          ∙ ap (λ t. if t && nat_lt 0 log_sectors then option_map_or (λ d. option_map_or (λ (k : Extent). now_in a d (k.first + 0)) (log_extent (x.sectors d)) []) (seat_by rest.state known (place_of (log_slice p))) [] else [])
          (eq-eqb (slice_of (log_slice p)) 0 log))
          ∙ ap copy_by (ap (seat_by rest.state known) place ∙ seats p)

      of_room : (d : ℕ) (r : Bool) → nat_le arrays_first (x.sectors d) ≡ r → copy_by (Some d) ≡ (if r then (e.before.identities d).copied else None)
      of_room d true room =
          ap (λ r. result_ok (decoded (option_map_or (λ (k : Extent). now_in a d (k.first + 0)) (if r then Some (record { first = state_sector; sectors = log_sectors }) else None) []))) room
          ∙ sym (ap (λ (z : Identity). z.copied) (said d)
          ∙ ap (λ r. if r then result_ok (decoded (now_in a d state_sector)) else None)
          (lt-ltb state_sector (a.sectors d) (let long = leb-true arrays_first (x.sectors d) room in let same = rested.stays.sectors d in omega (arith, long, same))))
      of_room d false room =
          ap (λ r. result_ok (decoded (option_map_or (λ (k : Extent). now_in a d (k.first + 0)) (if r then Some (record { first = state_sector; sectors = log_sectors }) else None) []))) room
          ∙ nothing (result_ok (decoded [])) refl
        where
          nothing : (o : Option Copied) → result_ok (decoded []) ≡ o → result_ok (decoded []) ≡ None
          nothing None is = is
          nothing (Some copy) is = absurd (nothing_decodes copy (ok_of (decoded []) copy is))

      few_seat : (p d : ℕ) → e.seats p ≡ Some d → p < 16
      few_seat p d seat =
          let at = (found_is (disks_of a) (now_in a) e sound.found_is).0 in
          few_places e at p ((outset_of e at sound.sound).seated p d seat).current

      sectors_is : (d : ℕ) → e.disks.sectors d ≡ x.sectors d
      sectors_is d = ap (λ (k : Disks). k.sectors d) ((found_is (disks_of a) (now_in a) e sound.found_is).1 ∙ disks_same)

      stood_state : state_in c ≡ Some b.state
      stood_state =
          let had = in_log.stood in
          let few = few_seat had.place had.disk had.seat in
          let room : nat_le arrays_first (x.sectors had.disk) ≡ true =
          le-leb arrays_first (x.sectors had.disk) (subst (λ n. arrays_first ≤ n) (sectors_is had.disk) in_log.room) in
          subst (λ (z : Standing). state_in c ≡ Some z.state) before
          (state_of_latest c e.before.state had.place had.own few
          (read had.place few ∙ ap copy_by had.seat ∙ of_room had.disk true room ∙ had.copy)
          (λ p copy low is. by p copy (sym (read p low) ∙ is) (e.seats p) refl))
        where
          of : (p d : ℕ) (copy : Copied) → e.seats p ≡ Some d → (r : Bool) → (if r then (e.before.identities d).copied else None) ≡ Some copy → IsNoLater e.before.state copy
          of p d copy seat true is = in_log.stood.latest p d copy seat is
          of p d copy seat false is = absurd (none-some copy is)

          by : (p : ℕ) (copy : Copied) → copy_by (e.seats p) ≡ Some copy → (o : Option ℕ) → e.seats p ≡ o → IsNoLater e.before.state copy
          by p copy is (Some d) seat =
              of p d copy seat (nat_le arrays_first (x.sectors d)) (sym (of_room d (nat_le arrays_first (x.sectors d)) refl) ∙ ap copy_by (sym seat) ∙ is)
          by p copy is None none =
              absurd (nothing_decodes copy (ok_of (decoded []) copy (ap copy_by (sym none) ∙ is)))

    -- ---- at each moment

    -- `idle` and `midway` are what bringing them to rest says where no disk refused a call.
    pub replaying_leaves : MayReplay (disks_of a) (now_in a) e → (resting.IsIdle a → OnlyReads a x)
        → (TakesLower a → (t : Slices) → AreOfDrives x (seat_by rest.state rest.scan.disks.items) t
        → ((before : Standing) → standing (disks_of a) (now_in a) ≡ Some before → state_in (sliced t (now_in a)) ≡ Some before.state)
        → a.traced → Leaves a x (λ i. StandsMidway (disks_of a) (now_in a) i ⊎ Agree (disks_of a) i (now_in x)))
        → a.traced → Leaves a x (RecoversInOpening e 0)
    replaying_leaves may idle midway traced = elim may [
      | inl none ↦ rereading_leaves a x e sound apart alone (inl none) (idle none) traced
      | inr amid ↦
          leaves_weaker (λ i. StandsMidway (disks_of a) (now_in a) i ⊎ Agree (disks_of a) i (now_in x)) (RecoversInOpening e 0)
          (λ i stop. elim stop [
            | inl mid ↦ midway_holds (disks_of a) (now_in a) i e sound.found_is sound.sound sound.logs apart alone (inr amid) mid
            | inr end ↦ rest_agrees i end
          ])
          (midway amid.1 u (laid_drives x known rest.state u rest.on.items rest.slices.orderly fit.1 laid) (λ b stands. stood_state amid.0 b stands) traced)
    ]
