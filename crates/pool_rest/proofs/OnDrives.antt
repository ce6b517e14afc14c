-- A replay on slices that are cut by the drives' tables, as it is on the disks.
use Rattle.std.proofs.Common.{◌≡◌, ◌≢◌, ◌⊎◌, ℕ, ◌+◌, ◌-◌, ◌<◌, ◌≤◌, ◌==◌, Bool, true, false, nat_lt, nat_le, if◌then◌else◌, List, [], ◌∷◌, Option, Some, None, unwrap_or, refl, sym, ap, ap₂, subst, ◌∙◌, inl, inr, arith, eq-eqb, le-ltb, ltb-true}
use Rattle.std.specs.Option.{option_map_or, option_and_then}
use Rattle.std.specs.List.{filter_map, cons_option, list_all}
use Rattle.std.proofs.lemmas.Option.{none-some}
use Rattle.std.proofs.lemmas.Bool.{cases_Bool, cases_eq, cases_lt, both_ways, and_parts}
use Rattle.rack.specs.Values.{MayLeave, Keeps}
use Rattle.rack.specs.Seen.{RackView, IsLive, SameRack}
use Rattle.rack.specs.Joins.{rose_early, rose_later, live_first, stays_then}
use Rattle.rack.specs.Sequences.{OnlyReads, WritesOnly}
use Rattle.rack.specs.Targets.{Target, look}
use Rattle.slice_rack.specs.Slices.{Slices, IsOrderly, seat_of, first_of, sectors_of, disk_of}
use Rattle.slice_rack.specs.Sliced.{IsInside, slices_of}
use Rattle.slice_rack.specs.Runs.{IsSliced}
use Rattle.slice_rack.specs.Landing.{landing}
use Rattle.slice_rack.proofs.Landed.{look_landed, look_nowhere}
use Rattle.slice_rack.proofs.Running.{sliced_or}
use Rattle.pool_state.specs.declared.contents.State.{State}
use Rattle.gpt_table.specs.Changes.{the_table}
use Rattle.gpt_table.specs.Disk.{now_on}
use Rattle.array_image.specs.Places.{place_of, slice_of, member_slice, state_sector, log_sectors, arrays_first}
use Rattle.array_image.specs.Record.{is_target}
use Rattle.pool_image.specs.Disks.{Identities, disks_of, identities_of}
use Rattle.pool_image.specs.Disks as disks
use Rattle.pool_image.specs.Replay.{Extent, log_extent, extent_by, landed}
use Rattle.log_laws.specs.View.{LogView, names}
use Rattle.log_laws.specs.Opening.{ReplayCall, HasWork}
use Rattle.commit_log.proofs.Story.{valid_apart}
use Rattle.pool_scan.specs.declared.Known.{Known}
use Rattle.pool_scan.specs.Scanning.{AllTold, IsUnfaulted, now_in}
use Rattle.pool_scan.specs.Choosing.{AreOf, seat_by}
use Rattle.pool_scan.proofs.Seated.{seat_by_is}
use Rattle.pool_rest.specs.Laying.{IsLaidBelow}
use Rattle.pool_rest.specs.Members.{Lies, IsCutBelow}
use Rattle.pool_rest.specs.Standing.{IsLasting}
use Rattle.pool_image.specs.Alike.{drive_gate}
use Rattle.pool_rest.specs.Resting.{IsOfDrive}

-- The parts of a replay: seats and log slices, members' slices by tables, and the log's call.
pub record OnDrives (x w y : RackView) (known : List Known) (s : State) (t u : Slices) (on unread closing lost : List ℕ) (l : LogView) : Type 0 where
  pub laid : IsLaidBelow x known s 16 t on
  pub reads : OnlyReads x w
  pub cut : IsCutBelow x w 16 t u unread
  pub orderly : IsOrderly u
  pub inside : IsInside u w
  pub apart : WritesOnly w y (IsSliced u)
  pub call : ReplayCall l closing lost (slices_of u w) (slices_of u y)

-- slices past the last one
pub past_none : {x w y : RackView} {known : List Known} {s : State} {t u : Slices} {on unread closing lost : List ℕ} {l : LogView}
    → OnDrives x w y known s t u on unread closing lost l → (k : ℕ) → 272 ≤ k → sectors_of u k ≡ 0
past_none {t = t} {u = u} parts k past =
    elim (cases_eq (slice_of k) 0) [
      | inl log ↦ parts.cut.sectors k log ∙ parts.laid.empty k (omega (arith, past))
      | inr member ↦ parts.cut.upper k (omega (arith, past)) (omega (arith, member))
    ]

-- a log slice begins at the state's sector
pub log_first : {x w y : RackView} {known : List Known} {s : State} {t u : Slices} {on unread closing lost : List ℕ} {l : LogView}
    → OnDrives x w y known s t u on unread closing lost l → (k : ℕ) → slice_of k ≡ 0 → 0 < sectors_of u k → first_of u k ≡ state_sector
log_first parts k log some = parts.cut.firsts k log ∙ parts.laid.firsts k (subst (λ n. 0 < n) (parts.cut.sectors k log) some)

log_size : {x w y : RackView} {known : List Known} {s : State} {t u : Slices} {on unread closing lost : List ℕ} {l : LogView}
    → OnDrives x w y known s t u on unread closing lost l → (k : ℕ) → slice_of k ≡ 0 → sectors_of u k ≤ log_sectors
log_size {x} {w} {y} {known} {s} {t} {u} parts k log =
    elim (cases_lt (place_of k) 16) [
      | inr past ↦ (let none : sectors_of u k ≡ 0 = past_none parts k (omega (arith, past)) in omega (arith, none))
      | inl few ↦ (let is : sectors_of u k ≤ log_sectors = subst (λ n. n ≤ log_sectors) (sym (parts.cut.sectors k log ∙ parts.laid.sectors k few)) (most (slice_of k == 0) (seat_by s known (place_of k))) in is)
    ]
  where
    of_room : (b : Bool) → (if b then log_sectors else 0) ≤ log_sectors
    of_room true = omega arith
    of_room false = omega arith

    most : (b : Bool) (o : Option ℕ) → (if b then option_map_or (λ d. if nat_le arrays_first (x.sectors d) then log_sectors else 0) o 0 else 0) ≤ log_sectors
    most false o = omega arith
    most true None = omega arith
    most true (Some d) = of_room (nat_le arrays_first (x.sectors d))

-- ---- which sectors are written

pub sliced_place : {x w y : RackView} {known : List Known} {s : State} {t u : Slices} {on unread closing lost : List ℕ} {l : LogView}
    → OnDrives x w y known s t u on unread closing lost l → (k : ℕ) → 0 < sectors_of u k
    → (place_of k < 16) × (seat_by s known (place_of k) ≡ Some (disk_of u k))
sliced_place {x} {w} {y} {known} {s} {t} {u} parts k some =
    elim (cases_lt (place_of k) 16) [
      | inr past ↦ absurd (omega (arith, some, past_none parts k (omega (arith, past))))
      | inl few ↦ (few, of_seat (seat_of u (place_of k)) refl few)
    ]
  where
    of_seat : (o : Option ℕ) → seat_of u (place_of k) ≡ o → place_of k < 16 → seat_by s known (place_of k) ≡ Some (disk_of u k)
    of_seat None is few = absurd (omega (arith, some, parts.orderly.seated k is))
    of_seat (Some d) is few =
        sym (parts.laid.seats (place_of k) few) ∙ sym (parts.cut.seats (place_of k)) ∙ is ∙ ap Some (sym (ap (λ o. unwrap_or o 0) is))

pub of_drive : {x w y : RackView} {known : List Known} {s : State} {t u : Slices} {on unread closing lost : List ℕ} {l : LogView}
    → OnDrives x w y known s t u on unread closing lost l → (d i : ℕ) (v : List ℕ) → IsSliced u d i v → IsOfDrive x known s d i v
of_drive {x} {w} {y} {known} {s} {t} {u} parts d i v is =
    let some : 0 < sectors_of u is.slice = omega (arith, is.within) in
    let place = sliced_place parts is.slice some in
    let seat : seat_by s known (place_of is.slice) ≡ Some d = place.1 ∙ ap Some (sym is.disk_is) in
    elim (cases_eq (slice_of is.slice) 0) [
      | inl log ↦
          let first : first_of u is.slice ≡ state_sector = log_first parts is.slice log some in
          let size : sectors_of u is.slice ≤ log_sectors = log_size parts is.slice log in
          record {
            place = place_of is.slice;
            seat = seat;
            behind = omega (arith, is.sector_is, first);
            before = inl (omega (arith, is.sector_is, first, size, is.within));
          }
      | inr member ↦
          let within = parts.cut.within is.slice (omega (arith, member)) some in
          let room : x.sectors d ≡ x.sectors (disk_of u is.slice) = ap x.sectors is.disk_is in
          record {
            place = place_of is.slice;
            seat = seat;
            behind = omega (arith, is.sector_is, within.behind);
            before = inr (omega (arith, is.sector_is, within.before, is.within, room));
          }
    ]

-- ---- slices as the drives' tables have them

-- no disk refused a call: all tables were read, and no place has gone
pub no_unread : {x w y : RackView} {known : List Known} {s : State} {t u : Slices} {on unread closing lost : List ℕ} {l : LogView}
    → OnDrives x w y known s t u on unread closing lost l → IsUnfaulted x y → (p : ℕ) → names unread p ≡ false
no_unread {x} {w} {y} {unread = unread} parts free p =
    elim (cases_Bool (names unread p)) [
      | inr none ↦ none
      | inl named ↦ (let gone = parts.cut.refused p named in absurd (free gone.1 (rose_early x w y gone.1 parts.apart.stays gone.3)))
    ]

pub no_lost : {x w y : RackView} {known : List Known} {s : State} {t u : Slices} {on unread closing lost : List ℕ} {l : LogView}
    → OnDrives x w y known s t u on unread closing lost l → IsUnfaulted x y → (p : ℕ) → names lost p ≡ false
no_lost {x} {w} {y} {u = u} {lost = lost} parts free p =
    elim (cases_Bool (names lost p)) [
      | inr none ↦ none
      | inl named ↦ (let gone = parts.call.gone.cause p named in absurd (free (disk_of u gone.0) (rose_later x w y (disk_of u gone.0) parts.reads.stays gone.2)))
    ]

-- a slice of a seated place
pub slice_lies : {x w y : RackView} {known : List Known} {s : State} {t u : Slices} {on unread closing lost : List ℕ} {l : LogView}
    → OnDrives x w y known s t u on unread closing lost l → IsUnfaulted x y → (k d : ℕ) → k < 272 → seat_of u (place_of k) ≡ Some d → x.told d
    → Lies u k (extent_by (x.sectors d) (the_table (x.sectors d) (now_on x d)) (slice_of k))
unfolding extent_by
slice_lies {x} {w} {y} {known} {s} {t} {u} parts free k d few seat told =
    elim (cases_eq (slice_of k) 0) [
      | inl log ↦ subst (λ n. Lies u k (extent_by (x.sectors d) (the_table (x.sectors d) (now_on x d)) n)) (sym log) (of_log log (nat_le arrays_first (x.sectors d)) refl)
      | inr member ↦
          let n : ℕ = slice_of k - 1 in
          let is : k ≡ member_slice (place_of k) n = omega (arith, member) in
          let number : slice_of k ≡ n + 1 = omega (arith, member) in
          subst (λ m. Lies u k (extent_by (x.sectors d) (the_table (x.sectors d) (now_on x d)) m)) (sym number)
          (subst (λ j. Lies u j (extent_by (x.sectors d) (the_table (x.sectors d) (now_on x d)) (n + 1))) (sym is)
          (parts.cut.lies (place_of k) n d (omega (arith, few)) (omega arith) (no_unread parts free (place_of k)) seat told))
    ]
  where
    has : seat_by s known (place_of k) ≡ Some d
    has = sym (parts.laid.seats (place_of k) (omega (arith, few))) ∙ sym (parts.cut.seats (place_of k)) ∙ seat

    size : slice_of k ≡ 0 → sectors_of u k ≡ (if nat_le arrays_first (x.sectors d) then log_sectors else 0)
    size log =
        parts.cut.sectors k log ∙ parts.laid.sectors k (omega (arith, few))
        ∙ ap (λ b. if b then option_map_or (λ d. if nat_le arrays_first (x.sectors d) then log_sectors else 0) (seat_by s known (place_of k)) 0 else 0) (eq-eqb (slice_of k) 0 log)
        ∙ ap (λ o. option_map_or (λ d. if nat_le arrays_first (x.sectors d) then log_sectors else 0) o 0) has

    of_log : slice_of k ≡ 0 → (b : Bool) → nat_le arrays_first (x.sectors d) ≡ b → Lies u k (log_extent (x.sectors d))
    of_log log b room =
        subst (Lies u k) (sym (ap (λ (b : Bool). if b then Some (record { first = state_sector; sectors = log_sectors }) else None) room))
        (by_room b (size log ∙ ap (λ b. if b then log_sectors else 0) room))
      where
        by_room : (b : Bool) → sectors_of u k ≡ (if b then log_sectors else 0) → Lies u k (if b then Some (record { first = state_sector; sectors = log_sectors }) else None)
        by_room true is = record { sectors = is; first = log_first parts k log }
        by_room false is = record { sectors = is; first = λ some. absurd (omega (arith, some, is)) }

-- a target lands where its slice has it
pub landing_is : {x w y : RackView} {known : List Known} {s : State} {t u : Slices} {on unread closing lost : List ℕ} {l : LogView}
    → OnDrives x w y known s t u on unread closing lost l → IsUnfaulted x y → AllTold x
    → AreOf (disks_of x) (identities_of (disks_of x) (now_in x)) known
    → (z : Target) → z.disk < 272
    → landed (disks_of x) (identities_of (disks_of x) (now_in x)) (disks.seat_of s (disks_of x) (identities_of (disks_of x) (now_in x))) z ≡ landing u z
landing_is {x} {w} {y} {known} {s} {t} {u} parts free told are z few = of_seat (seat_of u (place_of z.disk)) refl
  where
    ids : Identities
    ids = identities_of (disks_of x) (now_in x)

    at : (o : Option ℕ) → Option Target
    at o =
        option_and_then
        (λ d. option_and_then
        (λ (e : Extent). if nat_lt z.sector e.sectors then Some (record { disk = d; sector = e.first + z.sector; bytes = z.bytes }) else None)
        (extent_by (x.sectors d) (the_table (x.sectors d) (now_in x d)) (slice_of z.disk)))
        o

    seats : disks.seat_of s (disks_of x) ids (place_of z.disk) ≡ seat_of u (place_of z.disk)
    seats =
        sym (seat_by_is (disks_of x) ids known are s (place_of z.disk))
        ∙ sym (parts.laid.seats (place_of z.disk) (omega (arith, few))) ∙ sym (parts.cut.seats (place_of z.disk))

    nothing : sectors_of u z.disk ≡ 0 → landing u z ≡ None
    nothing none =
        ap (λ b. if b then Some (record { disk = disk_of u z.disk; sector = first_of u z.disk + z.sector; bytes = z.bytes }) else None)
        (le-ltb z.sector (sectors_of u z.disk) (omega (arith, none)))

    of_extent : (d : ℕ) → seat_of u (place_of z.disk) ≡ Some d → (o : Option Extent) → extent_by (x.sectors d) (the_table (x.sectors d) (now_in x d)) (slice_of z.disk) ≡ o
        → Lies u z.disk o
        → option_and_then (λ (e : Extent). if nat_lt z.sector e.sectors then Some (record { disk = d; sector = e.first + z.sector; bytes = z.bytes }) else None) o ≡ landing u z
    of_extent d seat None is lies = sym (nothing lies.sectors)
    of_extent d seat (Some e) is lies = by_test (nat_lt z.sector e.sectors) refl
      where
        on : disk_of u z.disk ≡ d
        on = ap (λ o. unwrap_or o 0) seat

        by_test : (b : Bool) → nat_lt z.sector e.sectors ≡ b
            → (if nat_lt z.sector e.sectors then Some (record { disk = d; sector = e.first + z.sector; bytes = z.bytes }) else None) ≡ landing u z
        by_test false outside =
            ap (λ b. if b then Some (record { disk = d; sector = e.first + z.sector; bytes = z.bytes }) else None) outside
            ∙ sym (ap (λ b. if b then Some (record { disk = disk_of u z.disk; sector = first_of u z.disk + z.sector; bytes = z.bytes }) else None)
            (ap (nat_lt z.sector) lies.sectors ∙ outside))
        by_test true within =
            let some : 0 < sectors_of u z.disk = (let low = ltb-true z.sector e.sectors within in let size = lies.sectors in omega (arith, low, size)) in
            ap (λ b. if b then Some (record { disk = d; sector = e.first + z.sector; bytes = z.bytes }) else None) within
            ∙ ap₂ (λ i f. Some (record { disk = i; sector = f + z.sector; bytes = z.bytes })) (sym on) (sym (lies.first some))
            ∙ sym (ap (λ b. if b then Some (record { disk = disk_of u z.disk; sector = first_of u z.disk + z.sector; bytes = z.bytes }) else None)
            (ap (nat_lt z.sector) lies.sectors ∙ within))

    of_seat : (o : Option ℕ) → seat_of u (place_of z.disk) ≡ o → landed (disks_of x) ids (disks.seat_of s (disks_of x) ids) z ≡ landing u z
    of_seat None is = ap at (seats ∙ is) ∙ sym (nothing (parts.orderly.seated z.disk is))
    of_seat (Some d) is =
        ap at (seats ∙ is)
        ∙ of_extent d is (extent_by (x.sectors d) (the_table (x.sectors d) (now_in x d)) (slice_of z.disk)) refl
        (slice_lies parts free z.disk d few is
        (told d (subst (λ n. d < n) parts.reads.stays.disks (parts.inside.seats (place_of z.disk) d is))))

pub filter_same : (f g : Target → Option Target) (xs : List Target) → list_all is_target xs ≡ true → ((z : Target) → z.disk < 272 → f z ≡ g z) → filter_map f xs ≡ filter_map g xs
filter_same f g [] valid same = refl
filter_same f g (z ∷ xs) valid same =
    let parts = and_parts (is_target z) (list_all is_target xs) valid in
    let low = (and_parts (nat_lt z.disk 272) _ parts.0).0 in
    ap₂ (λ o ys. cons_option o ys) (same z (ltb-true z.disk 272 low)) (filter_same f g xs parts.1 same)

-- ---- what the disks hold

pub live_slice : {x w y : RackView} {known : List Known} {s : State} {t u : Slices} {on unread closing lost : List ℕ} {l : LogView}
    → OnDrives x w y known s t u on unread closing lost l → (d i : ℕ) (v : List ℕ) → (is : IsSliced u d i v) → is.slice < 272 → IsLive w y d i
    → IsLive (slices_of u w) (slices_of u y) is.slice is.at
live_slice {x} {w} {y} {u = u} parts d i v is few live = record {
  disk = few;
  sector = is.within;
  is_told = subst (λ n. w.told n) is.disk_is live.is_told;
  unspent = ap (λ n. y.spent n (first_of u is.slice + is.at)) (sym is.disk_is) ∙ ap (y.spent d) (sym is.sector_is) ∙ live.unspent;
}

-- a sector without a target that is no gate keeps its values
pub untouched : {x w y : RackView} {known : List Known} {s : State} {t u : Slices} {on unread closing lost : List ℕ} {l : LogView}
    → OnDrives x w y known s t u on unread closing lost l → (d i : ℕ) → IsLive x y d i → i ≢ drive_gate
    → look (filter_map (landing u) l.pending) d i ≡ None
    → Keeps (x.held d i) (y.held d i)
untouched {x} {w} {y} {known} {s} {t} {u} {on} {unread} {closing} {lost} {l} parts d i live no_gate none =
    keeps_both (parts.reads.keeps.held d i (live_first parts.apart.stays live)) (later (sliced_or u d i (past_none parts)))
  where
    keeps_both : Keeps (x.held d i) (w.held d i) → Keeps (w.held d i) (y.held d i) → Keeps (x.held d i) (y.held d i)
    keeps_both first second = record { current = second.current ∙ first.current; within = λ v may. first.within v (second.within v may) }

    here : IsLive w y d i
    here = record {
      disk = live.disk;
      sector = live.sector;
      is_told = parts.reads.stays.told d live.is_told;
      unspent = live.unspent;
    }

    later : ((is : (v : List ℕ) → IsSliced u d i v) × ((v : List ℕ) → (is v).slice < 272)) ⊎ ((v : List ℕ) → IsSliced u d i v → ⊥) → Keeps (w.held d i) (y.held d i)
    later (inr nowhere) = parts.apart.others d i here nowhere
    later (inl some) =
        let is : IsSliced u d i [] = some.0 [] in
        let no_target : look l.pending is.slice is.at ≡ None =
        sym (look_landed u parts.orderly l.pending is.slice is.at is.within)
        ∙ ap₂ (λ e j. look (filter_map (landing u) l.pending) e j) (sym is.disk_is) (sym is.sector_is) ∙ none in
        subst (λ e. Keeps (w.held e i) (y.held e i)) (sym is.disk_is)
        (subst (λ j. Keeps (w.held (disk_of u is.slice) j) (y.held (disk_of u is.slice) j)) (sym is.sector_is)
        (parts.call.apart is.slice is.at (live_slice parts d i [] is (some.1 []) here)
        (λ shut. no_gate
        (let first : first_of u is.slice ≡ state_sector = log_first parts is.slice (omega (arith, shut.slice)) (omega (arith, is.within)) in
        omega (arith, first, shut.gate, is.sector_is)))
        no_target))

-- a target's sector has its payload
pub written_there : {x w y : RackView} {known : List Known} {s : State} {t u : Slices} {on unread closing lost : List ℕ} {l : LogView}
    → OnDrives x w y known s t u on unread closing lost l → IsUnfaulted x y → list_all is_target l.pending ≡ true
    → (d i : ℕ) (v : List ℕ) → IsLive x y d i → look (filter_map (landing u) l.pending) d i ≡ Some v
    → (z : List ℕ) → MayLeave (y.held d i) z → z ≡ v
written_there {x} {w} {y} {known} {s} {t} {u} {on} {unread} {closing} {lost} {l} parts free valid d i v live is z may =
    of_slice (sliced_or u d i (past_none parts))
  where
    here : IsLive w y d i
    here = record {
      disk = live.disk;
      sector = live.sector;
      is_told = parts.reads.stays.told d live.is_told;
      unspent = live.unspent;
    }

    of_slice : ((is : (v : List ℕ) → IsSliced u d i v) × ((v : List ℕ) → (is v).slice < 272)) ⊎ ((v : List ℕ) → IsSliced u d i v → ⊥) → z ≡ v
    of_slice (inr nowhere) =
        absurd (none-some v (sym (look_nowhere u l.pending d i
        (λ k j inside disk sector. nowhere [] (record { slice = k; at = j; within = inside; disk_is = disk; sector_is = sector }))) ∙ is))
    of_slice (inl some) =
        let at : IsSliced u d i [] = some.0 [] in
        let target : look l.pending at.slice at.at ≡ Some v =
        sym (look_landed u parts.orderly l.pending at.slice at.at at.within)
        ∙ ap₂ (λ e j. look (filter_map (landing u) l.pending) e j) (sym at.disk_is) (sym at.sector_is) ∙ is in
        parts.call.written at.slice at.at v z (live_slice parts d i [] at (some.1 []) here) (valid_apart l.pending at.slice at.at v valid target)
        (no_lost parts free (place_of at.slice)) target
        (subst (λ j. MayLeave (y.held (disk_of u at.slice) j) z) at.sector_is (subst (λ e. MayLeave (y.held e i) z) at.disk_is may))

pub live_all : (x y : RackView) → SameRack x y → AllTold x → IsLasting x → (d i : ℕ) → d < x.disks → i < x.sectors d → IsLive x y d i
live_all x y stays told lasts d i disk sector = record {
  disk = subst (λ n. d < n) (sym stays.disks) disk;
  sector = subst (λ n. i < n) (sym (stays.sectors d)) sector;
  is_told = told d disk;
  unspent = stays.lasts lasts.lasting d i (lasts.unspent d i);
}

-- the log has something to write, or hasn't
pub has_work_or : (l : LogView) → HasWork l ⊎ (HasWork l → ⊥)
has_work_or l = of_pending l.pending refl
  where
    of_open : l.pending ≡ [] → (l.is_open ≡ true) ⊎ (l.is_open ≡ false) → HasWork l ⊎ (HasWork l → ⊥)
    of_open none (inl is) = inl (inr is)
    of_open none (inr shut) = inr (λ work. elim work [ inl some ↦ some none | inr is ↦ both_ways l.is_open shut is ])

    of_pending : (xs : List Target) → l.pending ≡ xs → HasWork l ⊎ (HasWork l → ⊥)
    of_pending [] is = of_open is (cases_Bool l.is_open)
    of_pending (z ∷ xs) is = inl (inl (λ none. nonempty z xs (sym is ∙ none)))
      where
        nonempty : (z : Target) (xs : List Target) → z ∷ xs ≡ [] → ⊥
        nonempty z xs same = cc

pub all_stays : {x w y : RackView} {known : List Known} {s : State} {t u : Slices} {on unread closing lost : List ℕ} {l : LogView}
    → OnDrives x w y known s t u on unread closing lost l → SameRack x y
all_stays parts = stays_then parts.reads.stays parts.apart.stays

-- gates and halves of logs have no target
pub no_target : {x w y : RackView} {known : List Known} {s : State} {t u : Slices} {on unread closing lost : List ℕ} {l : LogView}
    → OnDrives x w y known s t u on unread closing lost l → list_all is_target l.pending ≡ true
    → (d i : ℕ) → state_sector < i → i < arrays_first → look (filter_map (landing u) l.pending) d i ≡ None
no_target {x} {w} {y} {known} {s} {t} {u} {on} {unread} {closing} {lost} {l} parts valid d i past before = none (sliced_or u d i (past_none parts))
  where
    none : ((is : (v : List ℕ) → IsSliced u d i v) × ((v : List ℕ) → (is v).slice < 272)) ⊎ ((v : List ℕ) → IsSliced u d i v → ⊥)
        → look (filter_map (landing u) l.pending) d i ≡ None
    none (inr nowhere) =
        look_nowhere u l.pending d i (λ k j inside disk sector. nowhere [] (record { slice = k; at = j; within = inside; disk_is = disk; sector_is = sector }))
    none (inl some) =
        let is : IsSliced u d i [] = some.0 [] in
        ap₂ (λ e j. look (filter_map (landing u) l.pending) e j) is.disk_is is.sector_is
        ∙ look_landed u parts.orderly l.pending is.slice is.at is.within
        ∙ elim (cases_eq (slice_of is.slice) 0) [
          | inl log ↦
              let first : first_of u is.slice ≡ state_sector = log_first parts is.slice log (omega (arith, is.within)) in
              of_look log (omega (arith, first, is.sector_is, past)) (look l.pending is.slice is.at) refl
          | inr member ↦
              let within = parts.cut.within is.slice (omega (arith, member)) (omega (arith, is.within)) in
              absurd (omega (arith, within.behind, is.sector_is, before))
        ]
      where
        of_look : slice_of (some.0 []).slice ≡ 0 → 0 < (some.0 []).at → (o : Option (List ℕ)) → look l.pending (some.0 []).slice (some.0 []).at ≡ o
            → look l.pending (some.0 []).slice (some.0 []).at ≡ None
        of_look log behind None is = is
        of_look log behind (Some v) is = absurd (valid_apart l.pending (some.0 []).slice (some.0 []).at v valid is (log, behind))
