-- A pool that was made ready for a disk at a place, whose drive wasn't missing: how a run's pool goes by it, and what stops leave until then. It was cleaned, and it may be that
-- the place's own drive was found gone after that, while the disk was being laid.
use Rattle.std.proofs.Common.{◌≡◌, ◌≢◌, ◌⊎◌, ℕ, ◌-◌, ◌<◌, ◌≤◌, ◌^◌, true, false, List, length, Some, None, Ok, refl, sym, ap, subst, inl, inr, arith}
use Rattle.std.proofs.lemmas.Bool.{both_ways, cases_eq}
use Rattle.rack.specs.Joins.{leaves_then, leaves_weaker}
use Rattle.rack.specs.Moments.{Leaves}
use Rattle.rack.specs.Seen.{Image, IsLive, SameRack}
use Rattle.rack.specs.Values.{MayLeave}
use Rattle.slice_rack.specs.Changes.{Seats}
use Rattle.slice_rack.specs.Runs.{IsSliced}
use Rattle.slice_rack.specs.Slices.{Slices}
use Rattle.slice_rack.specs.Sliced.{IsInside, slices_of}
use Rattle.flat_array.specs.Array.{FlatArray}
use Rattle.lvm_group.specs.Runs.{array_of}
use Rattle.pool_state.specs.declared.contents.Copied.{Copied}
use Rattle.pool_state.specs.declared.contents.State.{State}
use Rattle.array_image.specs.Places.{arrays_first, state_sector}
use Rattle.array_image.specs.States.{is_current}
use Rattle.array_core.proofs.Opened.{current_below}
use Rattle.raid_rack.specs.declared.arrays.Arrays.{Arrays}
use Rattle.raid_laws.specs.Book.{OnlyMarksSince, after_same}
use Rattle.raid_laws.specs.Enlisting.{IsNotWhole, IsOpenDisk}
use Rattle.raid_laws.specs.Moves.{IsHeeded, IsSet}
use Rattle.raid_laws.specs.Raid.{IsTracked, is_failed}
use Rattle.raid_rack.specs.RaidRack.{raid_by}
use Rattle.raid_laws.specs.Unlost.{KeepsPlace}
use Rattle.raid_laws.proofs.Noted.{current_few}
use Rattle.raid_laws.proofs.Over.{number_room}
use Rattle.pool_image.specs.Disks.{disks_of, identities_of}
use Rattle.pool_image.specs.Drives.{Found, first_of}
use Rattle.pool_image.specs.Meaning.{array_sectors, is_member}
use Rattle.pool_model.specs.InService.{RunInvariant}
use Rattle.pool_model.specs.Left.{HasNoSuper, IsPickOutsideSlices}
use Rattle.pool_model.specs.Stopped.{RecoversInCall, HoldTables}
use Rattle.pool_model.specs.Taken.{KeepsOthers, LacksDrive, attached}
use Rattle.pool_model.proofs.Amid.{tables_calls}
use Rattle.pool_model.proofs.InService.{one_seat, service_attached, service_calls}
use Rattle.pool_model.proofs.Lost.{former_value}
use Rattle.pool_model.proofs.Outset.{no_later_epoch}
use Rattle.pool_model.proofs.ReplacingEarly.{replacing_not_whole}
use Rattle.pool_model.proofs.Tables.{tables_attached}
use Rattle.pool_model.proofs.Unsliced.{free_stranger, laid_state, laid_super}
use Rattle.pool_model.proofs.Vacant.{vacant_free}
use Rattle.pool.specs.Entering.{Cleaned, LosesOwn, Readies, Vacates, meanwhile, table_on}
use Rattle.pool.specs.Moment.{moment_of, views_of}
use Rattle.pool.specs.Taking.{AttachesDisk}
use Rattle.pool.specs.View.{View, book, over, volume}
use Rattle.pool.specs.Volume.{VolumeIs, is_spent, size_of}
use Rattle.pool.proofs.Admitted.{reaches_each}
use Rattle.shr_tool.specs.Service.{GoesBy, IsFitDisk}
use Rattle.pool_model.proofs.Likewise.{amid_likewise}
use Rattle.shr_tool.proofs.Entered.{heeded_ready, out as out_ready, set_ready, stays_ready, told_ready as arrays_ready, told_vacated}
use Rattle.shr_tool.proofs.Former.{copy_parts, not_over, on_same, seat_listed, told_by}
use Rattle.shr_tool.proofs.GivesWay.{after, copy_then, low_then as low_ready, others_then as others_ready, told_then as told_ready}
use Rattle.shr_tool.proofs.NamedDisk as one
use Rattle.shr_tool.proofs.Serviced.{goes_amid}

-- What is known of a pool c that was made ready for a disk at a place: t are the tables from which the disk is taken in, f is the pool by which the run went at x, and h the same with the disk.
pub record IsReadied (x m c : View) (place disk : ℕ) (t : Slices) (f h : Found) : Type 0 where
  -- no other drive was lost, and where the place's own wasn't either no state came
  pub others : (k : ℕ) → k ≢ place → KeepsPlace (book x).state (book c).state k
  pub seated : (k d : ℕ) → k ≢ place → h.seats k ≡ Some d → is_current (book c).state k ≡ true
  pub still : is_current (book c).state place ≡ true → (book c).state ≡ (book x).state
  pub epoch : (book c).state.epoch < 2 ^ 63 - 1
  pub apart : (p : ℕ) → h.seats p ≡ Some disk → ⊥
  pub members : (n p : ℕ) → n < f.state.made → is_member h n p ≡ is_member f n p
  pub firsts : (n : ℕ) → n < f.state.made → first_of h n ≡ first_of f n
  pub sectors : (n : ℕ) → n < f.state.made → array_sectors h n ≡ array_sectors f n
  pub service : RunInvariant h x.slices (book c) c.bay
  pub tables : HoldTables h x.slices (book c).state c.bay
  pub told : (n : ℕ) → n < h.state.made → IsTracked (book c) (slices_of x.slices c.bay) n
  pub inside : IsInside x.slices c.bay
  pub lasting : c.bay.lasting
  pub traced : c.bay.traced
  pub opened : IsOpenDisk c.bay disk
  pub room : 10273 ≤ c.bay.sectors disk
  pub disks : disks_of c.bay ≡ disks_of m.bay
  -- behind its log slice the disk holds what it held, or what has no superblock
  pub kept :
      (s : ℕ) → arrays_first ≤ s → s < m.bay.sectors disk → (v : List ℕ) → MayLeave (c.bay.held disk s) v
      → MayLeave (m.bay.held disk s) v ⊎ ((pool : List ℕ) (n : ℕ) → HasNoSuper pool n v)
  -- what a stop leaves until then
  pub readying : Leaves m.bay c.bay (RecoversInCall h x.slices (book x).state (book c).state)
  -- where the place's drive was lost until then
  pub gave : is_current (book c).state place ≡ false → Seats x.slices t place None
  pub lacks : is_current (book c).state place ≡ false → LacksDrive h x.slices t (book c) place c.bay
  pub left : is_current (book c).state place ≡ false → (n : ℕ) → n < h.state.made → IsTracked (book c) (slices_of t c.bay) n

module _ {L : Type 0} (x : View) (bay : x.bays.one) (name : List ℕ) (place disk : ℕ) (at : AttachesDisk x (over x bay) name (Ok disk)) (later : x.bays.one) (arrays : Arrays)
    (refused : ℕ → ℕ) (readies : Readies (over x bay) (meanwhile (over x bay) later arrays refused) place disk) (vacates : Vacates (meanwhile (over x bay) later arrays refused) place disk)
    (unspent : (d s : ℕ) → (x.bays.seen later).spent d s ≡ false) (fit : (volume x).fit) (b : FlatArray) (holds : VolumeIs x b)
    (some : (s : ℕ) × (s < size_of x) × (is_spent x s ≡ false)) (f : Found) (goes : GoesBy L None f x) (waits : IsFitDisk f (moment_of x) name)
    (current : is_current (book x).state place ≡ true) (lands : L) (lasts : (n : ℕ) → n < f.state.made → is_failed (raid_by arrays) n ≡ false) (traced : x.bay.traced) where
  abbrev m : View
  m = over x bay

  -- the pool that is ready
  abbrev c : View
  c = meanwhile m later arrays refused

  -- ---- whom it has lost

  marks : OnlyMarksSince (book x).state (book c).state
  marks = after x bay place name disk at later arrays refused readies

  -- each other place is current, since nothing was against taking the disk in
  others_then : (k : ℕ) → k < length (book x).state.drives.items → k ≢ place → is_current (book c).state k ≡ true
  others_then = others_ready x bay place name disk at later arrays refused readies vacates.admits.whole

  others_kept : (k : ℕ) → k ≢ place → KeepsPlace (book x).state (book c).state k
  others_kept k away was = others_then k (current_below (book x).state k was) away

  all_current : (k : ℕ) → k < length (book x).state.drives.items → is_current (book x).state k ≡ true
  all_current k low = elim (cases_eq k place) [
    | inl same ↦ subst (λ p. is_current (book x).state p ≡ true) (sym same) current
    | inr away ↦ marks.current k (others_then k low away)
  ]

  -- so none gave up its disk
  same_tables : x.slices ≡ goes.tables
  same_tables = elim goes.vacant [ inl same ↦ same | inr gone ↦ absurd (both_ways (is_current (book x).state gone.0) gone.2.missing (all_current gone.0 gone.1)) ]

  -- where the place's drive wasn't lost either no state came
  same_state : is_current (book c).state place ≡ true → (book c).state ≡ (book x).state
  same_state still = elim readies [
    | inl cleaned ↦
        cleaned.unlost.state
        (λ k. elim (cases_eq k place) [
          | inl same ↦ λ was. subst (λ p. is_current (book c).state p ≡ true) (sym same) still
          | inr away ↦ others_kept k away
        ])
    | inr lose ↦ absurd (both_ways (is_current (book c).state place) lose.lost still)
  ]

  -- ---- the run's pool, with the disk

  abbrev h : Found
  h = attached f (disks_of m.bay)

  stays : SameRack m.bay c.bay
  stays = stays_ready m later arrays refused place disk readies

  unspent_named : (d s : ℕ) → m.bay.spent d s ≡ false
  unspent_named d s = stays.spent d s (unspent d s)

  first : 0 < f.state.made
  first = (let made = goes.service.arranged.made.0 in omega (arith, made))

  low_seat : (p d : ℕ) → f.seats p ≡ Some d → p < length (book x).state.drives.items
  low_seat = seat_listed f goes.tables (book x) x.bay goes.service

  -- the disk is none of its drives
  apart : (p : ℕ) → f.seats p ≡ Some disk → ⊥
  apart p seat = one.not_current x bay name disk at unspent_named fit b holds f goes waits p (all_current p (low_seat p disk seat)) seat

  holds_named : VolumeIs m b
  holds_named = one.holds_named x bay name disk at unspent_named fit b holds f goes waits

  told_named : (n : ℕ) → n < f.state.made → IsTracked (book x) (slices_of x.slices m.bay) n
  told_named = one.arrays_named x bay name disk at unspent_named fit b holds f goes waits some.0 some.1 some.2

  service_named : RunInvariant h x.slices (book x) m.bay
  service_named = subst (λ (u : Slices). RunInvariant h u (book x) m.bay) (sym same_tables) (one.service_named x bay name disk at unspent_named fit b holds f goes waits)

  tables_named : HoldTables h x.slices (book x).state m.bay
  tables_named = subst (λ (u : Slices). HoldTables h u (book x).state m.bay) (sym same_tables) (one.tables_named x bay name disk at unspent_named fit b holds f goes waits lands)

  lasting_named : m.bay.lasting
  lasting_named = at.continues.lasting goes.lasting

  traced_named : m.bay.traced
  traced_named = at.continues.proceeds.traced holds.shelf traced

  inside_named : IsInside x.slices m.bay
  inside_named = at.continues.proceeds.fit.0.running.set.fit.1

  -- ---- once it was cleaned

  module _ (between : x.bays.one) (cleared : Arrays) (answers : ℕ → ℕ) (cleaned : Cleaned m (meanwhile m between cleared answers))
      (going : (n : ℕ) → n < f.state.made → is_failed (raid_by cleared) n ≡ false) where
    abbrev z : View
    z = meanwhile m between cleared answers

    service_cleaned : RunInvariant h x.slices (book z) z.bay
    service_cleaned =
        service_calls h x.slices (book x) (book z) m.bay z.bay service_named lasting_named cleaned.ends.passes.apart cleaned.ends.passes.marks
        (λ n low. (cleaned.ends.passes.book n low).geometry)

    tables_cleaned : HoldTables h x.slices (book z).state z.bay
    tables_cleaned = tables_calls h x.slices (book x).state (book z).state m.bay z.bay lasting_named cleaned.ends.passes.apart cleaned.ends.passes.marks tables_named

    told_cleaned : (n : ℕ) → n < f.state.made → IsTracked (book z) (slices_of x.slices z.bay) n
    told_cleaned n low = cleaned.ends.passes.moments.told n (told_named n low)

    cleaning : Leaves m.bay z.bay (RecoversInCall h x.slices (book x).state (book z).state)
    cleaning =
        goes_amid m z h inside_named cleaned.ends.passes (one.goes_named x bay name disk at unspent_named fit b holds f goes waits) lands told_named going traced_named

    set_cleaned : IsSet (book z) (slices_of x.slices z.bay)
    set_cleaned = (cleaned.ends.passes.stays.fit).0.running.set

  -- ---- and the place's own drive was found gone after that

  module _ (lose : LosesOwn m c place disk) where
    abbrev w : View
    w = meanwhile m lose.bay lose.arrays lose.refused

    out : IsNotWhole x.slices disk (table_on w place disk) (book w) (book c) w.bay c.bay
    out = out_ready m later arrays refused place disk readies lose

    going_lost : (n : ℕ) → n < f.state.made → is_failed (book w) n ≡ false
    going_lost n low = out.moments.still n (lasts n low)

    service_own : RunInvariant h x.slices (book w) w.bay
    service_own = service_cleaned lose.bay lose.arrays lose.refused lose.cleaned going_lost

    told_own : (n : ℕ) → n < f.state.made → IsTracked (book w) (slices_of x.slices w.bay) n
    told_own = told_cleaned lose.bay lose.arrays lose.refused lose.cleaned going_lost

    tables_own : HoldTables h x.slices (book w).state w.bay
    tables_own = tables_cleaned lose.bay lose.arrays lose.refused lose.cleaned going_lost

    stays_own : SameRack m.bay w.bay
    stays_own = lose.cleaned.ends.passes.apart.stays

    lasting_own : w.bay.lasting
    lasting_own = stays_own.lasting lasting_named

    traced_own : w.bay.traced
    traced_own = stays_own.traced traced_named

    unspent_own : (d s : ℕ) → w.bay.spent d s ≡ false
    unspent_own d s = out.only.stays.spent d s (unspent d s)

    live_own : (d s : ℕ) → d < w.bay.disks → s < w.bay.sectors d → IsLive w.bay c.bay d s
    live_own d s low within = record {
      disk = (let same = out.only.stays.disks in omega (arith, low, same));
      sector = (let same = out.only.stays.sectors d in omega (arith, within, same));
      is_told = stays_own.told d (holds_named.disks d (let same = stays_own.disks in omega (arith, low, same)));
      unspent = unspent d s;
    }

    free_disk : (s : ℕ) (v : List ℕ) → IsSliced x.slices disk s v → ⊥
    free_disk s v is = free_stranger h x.slices disk s v service_named.slices apart is

    room_own : 10273 ≤ w.bay.sectors disk
    room_own = (reaches_each (views_of (book w)) place (w.bay.sectors disk) lose.left.vacates.admits.reaches).0

    low_own : disk < w.bay.disks
    low_own = (let low = at.ok.1 in let same = stays_own.disks in omega (arith, low, same))

    opened_own : IsOpenDisk w.bay disk
    opened_own s within = record {
      disk = low_own;
      sector = within;
      is_told = stays_own.told disk (holds_named.disks disk at.ok.1);
      unspent = unspent_own disk s;
    }

    -- outside the slices other disks show what they did, and this one says no other state
    others_own : KeepsOthers h x.slices (book w).state disk w.bay c.bay
    others_own = record {
      disks = (let one = stays.disks in omega (arith, one));
      sectors = λ d low. stays.sectors d;
      drive = inl apart;
      outside = λ d s other live never. (
        record {
          disk = (let low = live.disk in let same = out.only.stays.disks in omega (arith, low, same));
          sector = (let within = live.sector in let same = out.only.stays.sectors d in omega (arith, within, same));
          is_told = out.only.stays.told d live.is_told;
          unspent = unspent d s;
        },
        out.only.others d s (live_own d s live.disk live.sector) (λ v may. elim may [ inl laid ↦ other laid.0 | inr slice ↦ never v slice ]),
      );
      alone = λ i off n p first low now seat none begins within. absurd (apart p seat);
      earlier = λ i off d low past copy here. absurd (let same = stays.disks in omega (arith, low, past, same));
      stranger = λ i off never low copy here.
          let parts = copy_parts (c.bay.sectors disk) (i disk state_sector) copy here in
          let within : state_sector < w.bay.sectors disk = (let far = parts.0 in let same = out.only.stays.sectors disk in omega (arith, far, same)) in
          let live = live_own disk state_sector low_own within in
          let left =
          off disk state_sector
          (record { disk = live.disk; sector = live.sector; is_told = out.only.stays.told disk live.is_told; unspent = live.unspent })
          (free_disk state_sector) in
          elim (out.only.within disk state_sector (i disk state_sector) live left) [
            | inl was ↦ was
            | inr may ↦ elim may [
              | inl laid ↦ absurd (laid_state disk (table_on w place disk) (i disk state_sector) copy room_own laid parts.1)
              | inr slice ↦ absurd (free_disk state_sector (i disk state_sector) slice)
            ]
          ];
    }

    disks_same : disks_of c.bay ≡ disks_of m.bay
    disks_same j = record { count = stays.disks j; sectors = λ d. stays.sectors d j }

    pool_same : attached h (disks_of c.bay) ≡ h
    pool_same j = record h { disks = disks_same j }

    service_lost : RunInvariant h x.slices (book c) c.bay
    service_lost =
        subst (λ (g : Found). RunInvariant g x.slices (book c) c.bay) pool_same
        (service_attached h x.slices (book w) (book c) disk w.bay c.bay service_own others_own out.mends.moves.book out.mends.moves.arrays)

    tables_lost : HoldTables h x.slices (book c).state c.bay
    tables_lost =
        subst (λ (g : Found). HoldTables g x.slices (book c).state c.bay) pool_same
        (λ i off p d now.
        tables_attached h x.slices (book w).state disk w.bay c.bay service_own.arranged service_own.slices others_own
        (λ j pick q was seat. absurd (apart q seat)) tables_own i off p d (out.mends.moves.book.current p now))

    losing : Leaves m.bay c.bay (RecoversInCall h x.slices (book x).state (book c).state)
    losing =
        leaves_then (RecoversInCall h x.slices (book x).state (book c).state)
        (leaves_weaker (RecoversInCall h x.slices (book x).state (book w).state) (RecoversInCall h x.slices (book x).state (book c).state)
        (λ i amid.
        amid_likewise h h x.slices (book x).state (book w).state (book x).state (book c).state i refl refl refl (λ n low. refl) (after_same (book x).state) out.mends.moves.book amid)
        (cleaning lose.bay lose.arrays lose.refused lose.cleaned going_lost))
        (leaves_weaker (RecoversInCall h x.slices (book w).state (book c).state) (RecoversInCall h x.slices (book x).state (book c).state)
        (λ i amid.
        amid_likewise h h x.slices (book w).state (book c).state (book x).state (book c).state i refl refl refl (λ n low. refl) lose.cleaned.ends.passes.marks (after_same (book c).state) amid)
        (replacing_not_whole h x.slices (book w) place disk w.bay service_own apart goes.orderly (inside_own lose) tables_own opened_own room_own lasting_own traced_own (table_on w place disk) refl (book c) c.bay out
        told_own lasts))
      where
        inside_own : LosesOwn m c place disk → IsInside x.slices w.bay
        inside_own is = (set_cleaned lose.bay lose.arrays lose.refused lose.cleaned going_lost).fit.1

  -- ---- the pool that is ready

  service : RunInvariant h x.slices (book c) c.bay
  service = elim readies [ inl cleaned ↦ service_cleaned later arrays refused cleaned lasts | inr lose ↦ service_lost lose ]

  tables : HoldTables h x.slices (book c).state c.bay
  tables = elim readies [ inl cleaned ↦ tables_cleaned later arrays refused cleaned lasts | inr lose ↦ tables_lost lose ]

  told : (n : ℕ) → n < f.state.made → IsTracked (book c) (slices_of x.slices c.bay) n
  told n low = arrays_ready m later arrays refused place disk readies n (told_named n low)

  -- what a stop leaves until then
  readying : Leaves m.bay c.bay (RecoversInCall h x.slices (book x).state (book c).state)
  readying = elim readies [ inl cleaned ↦ cleaning later arrays refused cleaned lasts | inr lose ↦ losing lose ]

  set_then : IsSet (book c) (slices_of x.slices c.bay)
  set_then = set_ready m later arrays refused place disk readies

  heeded_then : IsHeeded (book c)
  heeded_then = heeded_ready m later arrays refused place disk readies

  inside_then : IsInside x.slices c.bay
  inside_then = set_then.fit.1

  lasting_then : c.bay.lasting
  lasting_then = stays.lasting lasting_named

  traced_then : c.bay.traced
  traced_then = stays.traced traced_named

  low_then : disk < c.bay.disks
  low_then = (let low = at.ok.1 in let same = stays.disks in omega (arith, low, same))

  room_then : 10273 ≤ c.bay.sectors disk
  room_then = (reaches_each (views_of (book c)) place (c.bay.sectors disk) vacates.admits.reaches).0

  told_disk : (d : ℕ) → d < m.bay.disks → c.bay.told d
  told_disk d low = stays.told d (holds_named.disks d low)

  opened_then : IsOpenDisk c.bay disk
  opened_then s within = record { disk = low_then; sector = within; is_told = told_disk disk at.ok.1; unspent = unspent disk s }

  epoch_then : (book c).state.epoch < 2 ^ 63 - 1
  epoch_then = (let most = (number_room (book c) 0 (lasts 0 first)).1 in omega (arith, most))

  disks_then : disks_of c.bay ≡ disks_of m.bay
  disks_then j = record { count = stays.disks j; sectors = λ d. stays.sectors d j }

  -- behind its log slice the disk holds what it held, or what was laid on it
  kept_then : (s : ℕ) → arrays_first ≤ s → s < m.bay.sectors disk → (v : List ℕ) → MayLeave (c.bay.held disk s) v
      → MayLeave (m.bay.held disk s) v ⊎ ((pool : List ℕ) (n : ℕ) → HasNoSuper pool n v)
  kept_then s past before v left = elim readies [
    | inl cleaned ↦ inl (still later arrays refused cleaned unspent left)
    | inr lose ↦
        (let within : s < (w lose).bay.sectors disk = (let same = (stays_own lose).sectors disk in omega (arith, before, same)) in
        elim ((out lose).only.within disk s v (live_own lose disk s (low_own lose) within) left) [
          | inl was ↦ inl (still lose.bay lose.arrays lose.refused lose.cleaned (unspent_own lose) was)
          | inr may ↦ elim may [
            | inl laid ↦ inr (λ pool n. laid_super pool n disk (table_on (w lose) place disk) s v past laid)
            | inr slice ↦ absurd (free_disk lose s v slice)
          ]
        ])
  ]
    where
      still : (between : x.bays.one) (cleared : Arrays) (answers : ℕ → ℕ) → Cleaned m (meanwhile m between cleared answers) → ((d k : ℕ) → (x.bays.seen between).spent d k ≡ false)
          → MayLeave ((x.bays.seen between).held disk s) v → MayLeave (m.bay.held disk s) v
      still between cleared answers cleaned free may =
          (cleaned.ends.passes.apart.others disk s
          (record {
            disk = (let low = at.ok.1 in let same = cleaned.ends.passes.apart.stays.disks in omega (arith, low, same));
            sector = (let same = cleaned.ends.passes.apart.stays.sectors disk in omega (arith, before, same));
            is_told = holds_named.disks disk at.ok.1;
            unspent = free disk s;
          })
          (λ u is. free_stranger h x.slices disk s u service_named.slices apart is)).within v may

  -- ---- where the place's drive was lost until then

  module _ (missing : is_current (book c).state place ≡ false) where
    gave : Seats x.slices vacates.tables place None
    gave = elim vacates.seats [ inl given ↦ given.1 | inr kept ↦ absurd (both_ways (is_current (book c).state place) missing kept.0) ]

    -- its mark came by a state of a later epoch
    raised_then : (book x).state.epoch < (book c).state.epoch
    raised_then = elim marks.raised [
      | inl same ↦ absurd (both_ways (is_current (book c).state place) missing (subst (λ (s : State). is_current s place ≡ true) (sym same) current))
      | inr (inl above) ↦ above
      | inr (inr most) ↦ (let below = epoch_then in absurd (omega (arith, most, below)))
    ]

    -- the drive's copy of the state isn't written meanwhile, so it says the state of before at most
    earlier : (d : ℕ) → f.seats place ≡ Some d → (i : Image) → IsPickOutsideSlices vacates.tables c.bay i → (copy : Copied)
        → (identities_of (disks_of c.bay) i d).copied ≡ Some copy → copy.state.epoch < (book c).state.epoch
    earlier d seat i off copy here =
        let parts = copy_parts (c.bay.sectors d) (i d state_sector) copy here in
        let left =
        off d state_sector
        (record {
          disk = low_ready x bay place name disk at later arrays refused readies vacates.admits.whole unspent fit f goes d seat (on_same x f goes place d seat same_tables) holds;
          sector = parts.0;
          is_told = told_ready x bay place name disk at later arrays refused readies vacates.admits.whole unspent fit f goes d seat (on_same x f goes place d seat same_tables) holds;
          unspent = unspent d state_sector;
        })
        (λ u is.
        vacant_free x.slices vacates.tables place gave h service.slices d state_sector u (λ q other. one_seat h x.slices (book c) c.bay service q place d other seat) is) in
        let kept = copy_then x bay place name disk at later arrays refused readies vacates.admits.whole unspent fit f goes d seat (on_same x f goes place d seat same_tables) holds in
        let most =
        no_later_epoch (book x).state copy
        (former_value h x.slices vacates.tables (book x) x.bay c.bay place d service.slices seat (current_few f.state place goes.service.arranged.places (goes.service.arranged.seated place d seat).0)
        (array_of x.linear some.0) (told_by x b some.0 fit holds some.1 some.2) (not_over x.linear (book x) some.0 some.2) (i d state_sector) copy
        (kept.within (i d state_sector) left) parts.1) in
        let up = raised_then in
        omega (arith, most, up)

    lacks : LacksDrive h x.slices vacates.tables (book c) place c.bay
    lacks = record { vacated = gave; missing = missing; earlier = earlier }

    -- each array is told by the slices that are left
    left_then : (n : ℕ) → n < f.state.made → IsTracked (book c) (slices_of vacates.tables c.bay) n
    left_then n low =
        told_vacated c place disk vacates set_then heeded_then n (let was = goes.service.after.same.made in let made = marks.same.made in omega (arith, low, was, made)) (told n low)

  pool_then : h ≡ attached f (disks_of c.bay)
  pool_then = ap (attached f) (sym disks_then)

  pub readied : IsReadied x m c place disk vacates.tables f (attached f (disks_of c.bay))
  readied = subst (λ (g : Found). IsReadied x m c place disk vacates.tables f g) pool_then (record {
    others = others_kept;
    seated = λ k d away seat. others_then k (low_seat k d seat) away;
    still = same_state;
    epoch = epoch_then;
    apart = apart;
    members = λ n p low. one.member_named x bay name disk at unspent_named fit b holds f goes waits n p low;
    firsts = one.first_named x bay name disk at unspent_named fit b holds f goes waits;
    sectors = one.sectors_named x bay name disk at unspent_named fit b holds f goes waits;
    service = service;
    tables = tables;
    told = told;
    inside = inside_then;
    lasting = lasting_then;
    traced = traced_then;
    opened = opened_then;
    room = room_then;
    disks = disks_then;
    kept = kept_then;
    readying = readying;
    gave = gave;
    lacks = lacks;
    left = left_then;
  })
