-- Replayed contents stay over the reads round a replay too, and over all of bringing a pool to rest.
use Rattle.std.proofs.Common.{◌≡◌, ◌≢◌, ◌⊎◌, ℕ, ◌+◌, ◌<◌, ◌≤◌, ◌^◌, Bool, true, false, nat_le, if◌then◌else◌, List, [], Option, Some, None, inl, inr, refl, sym, ap, subst, ◌∙◌, arith}
use Rattle.std.proofs.lemmas.Bool.{cases_lt}
use Rattle.rack.specs.Values.{MayLeave}
use Rattle.std.specs.List.{list_all}
use Rattle.rack.specs.Seen.{Image, RackView, IsLive, IsPick, SameRack}
use Rattle.rack.specs.Joins.{leaves_then, leaves_weaker, rose_early, stays_then}
use Rattle.rack.specs.Moments.{Leaves}
use Rattle.rack.specs.Sequences.{OnlyReads}
use Rattle.rack.specs.Targets.{Target}
use Rattle.gpt_table.specs.declared.Table.{Table}
use Rattle.gpt_table.specs.Changes.{the_table}
use Rattle.slice_rack.specs.Slices.{Slices, IsOrderly, disk_of, first_of, seat_of, sectors_of}
use Rattle.slice_rack.specs.Sliced.{IsInside, sliced, slices_of}
use Rattle.slice_rack.specs.Laws.{disk_below, sector_below}
use Rattle.slice_rack.specs.Runs.{inside_still}
use Rattle.pool_state.specs.declared.contents.State.{State}
use Rattle.array_image.specs.Arrays.{replayed}
use Rattle.array_image.specs.Left.{reading}
use Rattle.array_image.specs.Places.{arrays_first, log_sectors, log_slice, place_of, slice_of, state_sector}
use Rattle.array_image.specs.Record.{is_target}
use Rattle.array_image.specs.States.{state_in}
use Rattle.array_image.proofs.Frames.{state_same}
use Rattle.pool_image.specs.Alike.{Agree}
use Rattle.pool_image.specs.Disks.{Disks, disks_of, identities_of}
use Rattle.pool_image.specs.Disks as disks
use Rattle.pool_image.specs.Replay.{extent_by, standing_by}
use Rattle.pool_image.proofs.Identities.{table_same}
use Rattle.log_laws.specs.Standing.{IsAlike}
use Rattle.log_laws.specs.View.{LogView}
use Rattle.pool_scan.specs.declared.Known.{Known}
use Rattle.pool_scan.specs.Choosing.{AreOf, seat_by}
use Rattle.pool_scan.specs.Scanning.{AllTold, IsScan, IsUnfaulted, now_in}
use Rattle.pool_scan.proofs.Meant.{scan_meant}
use Rattle.pool_scan.proofs.Seated.{seat_by_is}
use Rattle.pool_rest.specs.Members.{Lies}
use Rattle.pool_rest.specs.Moments.{AreOfDrives, BringsNoState, BringsState, GivesNow, KeepsReplayed, StandsMidway, StandsReplaying, TakesLower}
use Rattle.pool_rest.specs.Resting.{AreSingle, Rests, seated_state}
use Rattle.pool_rest.specs.SoundLogs.{HasSoundLogs}
use Rattle.pool_rest.specs.Standing.{FindsAll, HasLooked, IsLaid, IsLasting, StandsAs}
use Rattle.pool_rest.proofs.Again.{laid_later}
use Rattle.pool_rest.proofs.Agreeing.{disks_same, lasting_later, reads_agree, told_later}
use Rattle.pool_rest.proofs.Meanwhile.{Meanwhile, reads_stop, replaying_moves}
use Rattle.pool_rest.proofs.Midway.{still_stands}
use Rattle.pool_rest.proofs.SameMeaning.{are_later, targets_valid}
use Rattle.pool_rest.proofs.Sliced.{sliced_inside, sliced_outside}
use Rattle.pool_rest.proofs.Quiet.{brings_state, lower_still, seats_now, sector_still, state_still, tables_now, whole_before}
use Rattle.pool_rest.proofs.Stood.{found_still, same_reading}

-- slices show the same of contents that agree in their sectors
same_shown : (t : Slices) (c e : Image) → ((k j : ℕ) → j < sectors_of t k → c (disk_of t k) (first_of t k + j) ≡ e (disk_of t k) (first_of t k + j)) → sliced t c ≡ sliced t e
same_shown t c e same = λ i k j. at k j i
  where
    at : (k j : ℕ) → sliced t c k j ≡ sliced t e k j
    at k j = elim (cases_lt j (sectors_of t k)) [
      | inl low ↦ sliced_inside t c k j low ∙ same k j low ∙ sym (sliced_inside t e k j low)
      | inr past ↦ sliced_outside t c k j past ∙ sym (sliced_outside t e k j past)
    ]

-- ---- reads

module _ (a x : RackView) (reads : OnlyReads a x) (told : AllTold a) (lasts : IsLasting a) where
  live_read : (d j : ℕ) → d < x.disks → j < x.sectors d → IsLive a x d j
  live_read d j disk sector = record {
    disk = disk;
    sector = sector;
    is_told = told d (subst (λ n. d < n) reads.stays.disks disk);
    unspent = reads.stays.lasts lasts.lasting d j (lasts.unspent d j);
  }

  live_then : (d j : ℕ) → d < x.disks → j < x.sectors d → IsLive x x d j
  live_then d j disk sector = record {
    disk = disk;
    sector = sector;
    is_told = reads.stays.told d (told d (subst (λ n. d < n) reads.stays.disks disk));
    unspent = reads.stays.lasts lasts.lasting d j (lasts.unspent d j);
  }

  live_first : (d j : ℕ) → d < x.disks → j < x.sectors d → IsLive a a d j
  live_first d j disk sector = record {
    disk = subst (λ n. d < n) reads.stays.disks disk;
    sector = subst (λ n. j < n) (reads.stays.sectors d) sector;
    is_told = told d (subst (λ n. d < n) reads.stays.disks disk);
    unspent = lasts.unspent d j;
  }

  pub single_later : AreSingle a → AreSingle x
  single_later single d j disk sector b may =
      let kept = reads.keeps.held d j (live_read d j disk sector) in
      single d j (subst (λ n. d < n) reads.stays.disks disk) (subst (λ n. j < n) (reads.stays.sectors d) sector) b (kept.within b may) ∙ sym kept.current

  -- what the slices read as is the same
  shown_later : (t : Slices) → IsOrderly t → IsInside t x → sliced t (now_in x) ≡ sliced t (now_in a)
  shown_later t orderly inside =
      same_shown t (now_in x) (now_in a)
      (λ k j low. (reads.keeps.held (disk_of t k) (first_of t k + j) (live_read (disk_of t k) (first_of t k + j) (disk_below t x k j orderly inside low) (sector_below t x k j inside low))).current)

  -- reads before
  pub keeps_since : (b : RackView) (t : Slices) → AreSingle a → KeepsReplayed x b t → KeepsReplayed a b t
  keeps_since b t single keeps =
      let picked : (i : Image) → ((d j : ℕ) → d < x.disks → j < x.sectors d → MayLeave (a.held d j) (i d j)) → IsPick x x x.held i = λ i may d j live.
      inl (single d j (subst (λ n. d < n) reads.stays.disks live.disk) (subst (λ n. j < n) (reads.stays.sectors d) live.sector) (i d j) (may d j live.disk live.sector)
      ∙ sym (reads.keeps.held d j (live_read d j live.disk live.sector)).current) in
      record {
        first = λ i pick. keeps.first i (picked i (λ d j disk sector. pick d j (live_first d j disk sector)));
        during = λ traced.
            leaves_then (GivesNow t b)
            (leaves_weaker (IsPick a x a.held) (GivesNow t b) (λ i pick. keeps.first i (picked i (λ d j disk sector. pick d j (live_read d j disk sector)))) (reads.keeps.stops traced))
            (keeps.during (reads.stays.traced traced));
        last = keeps.last;
      }

  -- reads after
  pub keeps_until : (w : RackView) (t : Slices) → SameRack w a → IsOrderly t → IsInside t x → KeepsReplayed w a t → KeepsReplayed w x t
  keeps_until w t stays orderly inside keeps =
      let later : (i : Image) → GivesNow t a i → GivesNow t x i = λ i gives.
      subst (λ (c : Image). IsAlike (replayed (sectors_of t) (sliced t i)) (replayed (sectors_of t) c)) (sym (shown_later t orderly inside)) gives in
      let older : (i : Image) → ((d j : ℕ) → d < x.disks → j < x.sectors d → MayLeave (a.held d j) (i d j)) → IsPick a a a.held i = λ i may d j live.
      may d j (subst (λ n. d < n) (sym reads.stays.disks) live.disk) (subst (λ n. j < n) (sym (reads.stays.sectors d)) live.sector) in
      record {
        first = λ i pick. later i (keeps.first i pick);
        during = λ traced.
            leaves_then (GivesNow t x)
            (leaves_weaker (GivesNow t a) (GivesNow t x) later (keeps.during traced))
            (leaves_weaker (IsPick a x a.held) (GivesNow t x) (λ i pick. later i (keeps.last i (older i (λ d j disk sector. pick d j (live_read d j disk sector)))))
            (reads.keeps.stops (stays.traced traced)));
        last = λ i pick.
            later i (keeps.last i (older i (λ d j disk sector.
            (reads.keeps.held d j (live_read d j disk sector)).within (i d j) (pick d j (live_then d j disk sector)))));
      }

  -- reads alone
  pub keeps_read : (t : Slices) → AreSingle a → IsOrderly t → IsInside t x → KeepsReplayed a x t
  keeps_read t single orderly inside =
      let now : (i : Image) → ((d j : ℕ) → d < x.disks → j < x.sectors d → MayLeave (a.held d j) (i d j)) → GivesNow t x i = λ i may.
      subst (λ (c : Image). IsAlike (replayed (sectors_of t) c) (replayed (sectors_of t) (sliced t (now_in x))))
      (sym (same_shown t i (now_in x) (λ k j low.
      let d = disk_of t k in
      let s = first_of t k + j in
      let disk = disk_below t x k j orderly inside low in
      let sector = sector_below t x k j inside low in
      single d s (subst (λ n. d < n) reads.stays.disks disk) (subst (λ n. s < n) (reads.stays.sectors d) sector) (i d s) (may d s disk sector)
      ∙ sym (reads.keeps.held d s (live_read d s disk sector)).current)))
      (λ d j part. refl) in
      record {
        first = λ i pick. now i (λ d j disk sector. pick d j (live_first d j disk sector));
        during = λ traced. leaves_weaker (IsPick a x a.held) (GivesNow t x) (λ i pick. now i (λ d j disk sector. pick d j (live_read d j disk sector))) (reads.keeps.stops traced);
        last = λ i pick. now i (λ d j disk sector. (reads.keeps.held d j (live_read d j disk sector)).within (i d j) (pick d j (live_then d j disk sector)));
      }

-- ---- slices inside the disks lay there before

pub inside_before : (t : Slices) (a b : RackView) → SameRack a b → IsInside t b → IsInside t a
inside_before t a b stays inside = record {
  small = λ disk below. subst (λ n. n < 2 ^ 48) (stays.sectors disk) (inside.small disk (subst (λ n. disk < n) (sym stays.disks) below));
  seats = λ place disk seat. subst (λ n. disk < n) stays.disks (inside.seats place disk seat);
  slices = λ d some. subst (λ n. first_of t d + sectors_of t d ≤ n) (stays.sectors (disk_of t d)) (inside.slices d some);
}

-- ---- a replay, with the reads round it

-- what a replay keeps, by slices on which its record was found
abbrev pub Replaying : RackView → RackView → List Known → State → State → LogView → Type 0
Replaying x y known st z m =
    (t u : Slices) (on : List ℕ) (is_pending : Bool) → IsLaid x known st t on → FindsAll x t on m is_pending None
    → BringsState x known st z m on (reading (slices_of t x)) → AreOfDrives x (seat_by z known) u → state_in (sliced u (now_in x)) ≡ Some st → KeepsReplayed x y u

-- where no disk refuses a call
abbrev pub KeepsBrought : RackView → RackView → List Known → State → State → LogView → Type 0
KeepsBrought x y known st z m = AllTold x → IsLasting x → IsUnfaulted x y → AreSingle x → Replaying x y known st z m

-- the disks were looked at once more
pub again_brought : {R : Type 0} (seen : R → RackView) (r0 r1 rd rb : R) → r1 ≡ r0 → (known : List Known) (st z : State) (m : LogView) → z ≡ seated_state m.pending st
    → SameRack (seen r1) (seen rd) → OnlyReads (seen rd) (seen rb) → KeepsBrought (seen r1) (seen rd) known st z m
    → KeepsBrought (seen r0) (seen rb) known st (seated_state m.pending st) m
again_brought seen r0 r1 rd rb back known st z m seated stays reads keeps told lasts free single t u on is_pending laid finds brings of is =
    let a = seen r0 in
    let y = seen rd in
    let b = seen rb in
    let early : SameRack a y = subst (λ r. SameRack (seen r) y) back stays in
    let moved : KeepsBrought a y known st (seated_state m.pending st) m =
    subst (λ r. KeepsBrought (seen r) y known st (seated_state m.pending st) m) back (subst (λ k. KeepsBrought (seen r1) y known st k m) seated keeps) in
    keeps_until y b reads (told_later a y early told) (lasting_later a y early lasts) a u early of.orderly (inside_still reads.stays (inside_still early of.inside))
    (moved told lasts (λ d rose. free d (rose_early a y b d reads.stays rose)) single t u on is_pending laid finds brings of is)

module _ (a x b : RackView) (known : List Known) (st : State) (m : LogView) (is_pending : Bool) (damaged : Option ℕ) (t : Slices)
    (reads : OnlyReads a x) (stays : SameRack x b) (scan : IsScan a x known) (some : m.pending ≢ [])
    (told : AllTold a) (lasts : IsLasting a) (free : IsUnfaulted a x)
    (stands : StandsAs a st t m is_pending damaged)
    (rests : Rests a b (standing_by (disks_of a) (now_in a) st))
    (sound : HasSoundLogs (disks_of a) (now_in a))
    (single : AreSingle a)
    (s : State) (again : List Known) (now : AreOf (disks_of b) (identities_of (disks_of b) (now_in b)) again)
    (same : s ≡ seated_state (standing_by (disks_of a) (now_in a) st).targets st) where
  all : SameRack a b
  all = stays_then reads.stays stays

  are : AreOf (disks_of a) (identities_of (disks_of a) (now_in a)) known
  are = scan_meant a x known scan told free

  abbrev brought : State
  brought = seated_state (standing_by (disks_of a) (now_in a) st).targets st

  seats : (p : ℕ) → seat_by s again p ≡ seat_by brought known p
  seats p =
      seat_by_is (disks_of b) (identities_of (disks_of b) (now_in b)) again now s p
      ∙ ap (λ (dk : Disks). disks.seat_of s dk (identities_of dk (now_in b)) p) (disks_same a b all)
      ∙ ap (λ (z : State). disks.seat_of z (disks_of a) (identities_of (disks_of a) (now_in b)) p) same
      ∙ seats_now a x b known st m is_pending damaged t reads stays scan some told lasts free stands rests sound p
      ∙ sym (seat_by_is (disks_of a) (identities_of (disks_of a) (now_in a)) known are brought p)

  -- tables are as they were when the replay began
  tables : (d : ℕ) → d < a.disks → the_table (b.sectors d) (now_in b d) ≡ the_table (x.sectors d) (now_in x d)
  tables d there =
      ap (λ n. the_table n (now_in b d)) (all.sectors d)
      ∙ tables_now a x b known st m is_pending damaged t reads stays scan some told lasts free stands rests sound d there
      ∙ sym (table_same (a.sectors d) (now_in x d) (now_in a d) (λ j below of. reads_agree a x reads told lasts d j there below))
      ∙ ap (λ n. the_table n (now_in x d)) (sym (reads.stays.sectors d))

  drives_before : (u : Slices) → AreOfDrives b (seat_by s again) u → AreOfDrives x (seat_by brought known) u
  drives_before u of = record {
    orderly = of.orderly;
    inside = inside_before u x b stays of.inside;
    seated = λ p few. of.seated p few ∙ seats p;
    beyond = of.beyond;
    lies = λ k d few seat which.
        let there : d < a.disks = subst (λ n. d < n) all.disks (of.inside.seats (place_of k) d seat) in
        subst (λ (o : Option Table). Lies u k (extent_by (x.sectors d) o (slice_of k))) (tables d there)
        (subst (λ n. Lies u k (extent_by n (the_table (b.sectors d) (now_in b d)) (slice_of k))) (stays.sectors d) (of.lies k d few seat which));
  }

  module _ (on gone : List ℕ) (orderly : IsOrderly t) (fit : (slices_of t x).fit) (laid : IsLaid a known st t on) (looked : HasLooked a x t on gone m is_pending damaged) where
    laid_now : IsLaid x known st t on
    laid_now = laid_later a x known st t on reads.stays laid

    finds_now : FindsAll x t on m is_pending None
    finds_now =
        subst (λ o. FindsAll x t on m is_pending o) (whole_before a x b known st m is_pending damaged t reads stays scan some told lasts free stands rests sound)
        (found_still a x t on gone m is_pending damaged orderly fit reads looked told lasts free)

    pub rest_brought : TakesLower a → Replaying x b known st (seated_state m.pending st) m → (u : Slices) → AreOfDrives b (seat_by s again) u → state_in (sliced u (now_in a)) ≡ Some st → KeepsReplayed a b u
    rest_brought lower replaying u of is =
        let before = standing_by (disks_of a) (now_in a) st in
        let here : brought ≡ seated_state m.pending st = ap (λ xs. seated_state xs st) (sym (stands.targets lasts)) in
        let drives = drives_before u of in
        keeps_since a x reads told lasts b u single
        (replaying t u on is_pending laid_now finds_now
        (subst (λ (z : State). BringsState x known st z m on (reading (slices_of t x))) here
        (brings_state a x b known st m is_pending damaged t reads stays scan some told lasts free stands rests sound on laid_now
        (λ k j few. ap (λ (c : Image). c k j) (same_reading t a x orderly fit.1 told lasts reads) ∙ stands.logs k j few)
        lower))
        (subst (λ (z : State). AreOfDrives x (seat_by z known) u) here drives)
        (ap state_in (shown_later a x reads told lasts u drives.orderly drives.inside) ∙ is))

    -- What stands on the disks meanwhile, and in the end.
    pub rest_stands : TakesLower a
        → (AreOf (disks_of x) (identities_of (disks_of x) (now_in x)) known → list_all is_target m.pending ≡ true → Meanwhile x b known st (seated_state m.pending st) m
        (λ i. StandsReplaying (disks_of x) st (seated_state m.pending st) m.pending (now_in x) i ⊎ Agree (disks_of x) i (now_in b)))
        → (u : Slices) → AreOfDrives b (seat_by s again) u → state_in (sliced u (now_in a)) ≡ Some st
        → a.traced → Leaves a b (λ i. StandsMidway (disks_of a) (now_in a) i ⊎ Agree (disks_of a) i (now_in b))
    rest_stands lower meanwhile u of is traced =
        let P : Image → Type 0 = λ i. StandsMidway (disks_of a) (now_in a) i ⊎ Agree (disks_of a) i (now_in b) in
        let Q : Image → Type 0 = λ i. StandsReplaying (disks_of x) st (seated_state m.pending st) m.pending (now_in x) i ⊎ Agree (disks_of x) i (now_in b) in
        let here : brought ≡ seated_state m.pending st = ap (λ xs. seated_state xs st) (sym (stands.targets lasts)) in
        let drives = drives_before u of in
        let same : disks_of x ≡ disks_of a = disks_same a x reads.stays in
        let agree : Agree (disks_of a) (now_in x) (now_in a) = reads_agree a x reads told lasts in
        let moves : (i : Image) → StandsReplaying (disks_of x) st (seated_state m.pending st) m.pending (now_in x) i → StandsMidway (disks_of a) (now_in a) i = λ i stop.
        record {
          before = standing_by (disks_of a) (now_in a) st;
          stands = stands.stands;
          is =
              subst (λ (xs : List Target). StandsReplaying (disks_of a) st (seated_state xs st) xs (now_in a) i) (stands.targets lasts)
              (replaying_moves (disks_of a) st (seated_state m.pending st) m.pending (now_in x) (now_in a) i agree
              (subst (λ (dk : Disks). StandsReplaying dk st (seated_state m.pending st) m.pending (now_in x) i) same stop));
        } in
        leaves_then P
        (leaves_weaker (IsPick a x a.held) P
        (λ i pick. inl (record {
          before = standing_by (disks_of a) (now_in a) st;
          stands = stands.stands;
          is =
              still_stands (disks_of a) st brought (standing_by (disks_of a) (now_in a) st).targets (now_in a) i
              (λ d j there within. reads_stop a x reads told lasts single i pick d j there within ∙ agree d j there within);
        }))
        (reads.keeps.stops traced))
        (leaves_weaker Q P
        (λ i stop. elim stop [
          | inl midway ↦ inl (moves i midway)
          | inr end ↦ inr (subst (λ (dk : Disks). Agree dk i (now_in b)) same end)
        ])
        (meanwhile (are_later a x known reads told lasts are) (targets_valid a st m.pending (stands.targets lasts))
        t u on is_pending laid_now finds_now
        (subst (λ (z : State). BringsState x known st z m on (reading (slices_of t x))) here
        (brings_state a x b known st m is_pending damaged t reads stays scan some told lasts free stands rests sound on laid_now
        (λ k j few. ap (λ (c : Image). c k j) (same_reading t a x orderly fit.1 told lasts reads) ∙ stands.logs k j few)
        lower))
        (subst (λ (z : State). AreOfDrives x (seat_by z known) u) here drives)
        (ap state_in (shown_later a x reads told lasts u drives.orderly drives.inside) ∙ is) (reads.stays.traced traced)))

    -- a log slice of a drive begins with the state's sector
    state_at : (u : Slices) → AreOfDrives b (seat_by s again) u → (p : ℕ) → 0 < sectors_of u (log_slice p) → first_of u (log_slice p) + 0 ≡ state_sector
    unfolding extent_by
    state_at u of p some =
        let k = log_slice p in
        let few : k < 272 = elim (cases_lt k 272) [ inl low ↦ low | inr past ↦ (let none = of.beyond k past in absurd (omega (arith, some, none))) ] in
        by few (seat_of u (place_of k)) refl
      where
        log : ℕ
        log = log_slice p

        slice : slice_of log ≡ 0
        slice = omega arith

        of_room : (d : ℕ) (r : Bool) → Lies u log (if r then Some (record { first = state_sector; sectors = log_sectors }) else None) → first_of u log + 0 ≡ state_sector
        of_room d true lies = (let first = lies.first some in omega (arith, first))
        of_room d false lies = absurd (let none = lies.sectors in omega (arith, some, none))

        by : log < 272 → (o : Option ℕ) → seat_of u (place_of log) ≡ o → first_of u log + 0 ≡ state_sector
        by few None none = absurd (let nothing = of.orderly.seated log none in omega (arith, some, nothing))
        by few (Some d) seat =
            of_room d (nat_le arrays_first (b.sectors d))
            (subst (λ n. Lies u log (extent_by (b.sectors d) (the_table (b.sectors d) (now_in b d)) n)) slice (of.lies log d few seat (inl slice)))

    -- so it is of a record that writes no state's sector, by the state that stands at the end
    pub rest_keeps : BringsNoState a → Replaying x b known st (seated_state m.pending st) m → (u : Slices) → AreOfDrives b (seat_by s again) u → state_in (sliced u (now_in b)) ≡ Some s → KeepsReplayed a b u
    rest_keeps none replaying u of is =
        rest_brought (lower_still a x b known st m is_pending damaged t reads stays scan some told lasts free stands rests sound none) replaying u of
        (state_same (sliced u (now_in a)) (sliced u (now_in b)) kept ∙ is
        ∙ ap Some (same ∙ state_still a x b known st m is_pending damaged t reads stays scan some told lasts free stands rests sound (none (standing_by (disks_of a) (now_in a) st) stands.stands)))
      where
        kept : (p : ℕ) → sliced u (now_in a) (log_slice p) 0 ≡ sliced u (now_in b) (log_slice p) 0
        kept p = elim (cases_lt 0 (sectors_of u (log_slice p))) [
          | inr past ↦ sliced_outside u (now_in a) (log_slice p) 0 past ∙ sym (sliced_outside u (now_in b) (log_slice p) 0 past)
          | inl low ↦
              let d = disk_of u (log_slice p) in
              let at = state_at u of p low in
              let there = disk_below u b (log_slice p) 0 of.orderly of.inside low in
              let room = subst (λ n. n < b.sectors d) at (sector_below u b (log_slice p) 0 of.inside low) in
              sliced_inside u (now_in a) (log_slice p) 0 low ∙ ap (now_in a d) at
              ∙ sym (sector_still a x b known st m is_pending damaged t reads stays scan some told lasts free stands rests sound none d
              (subst (λ n. d < n) all.disks there) (subst (λ n. state_sector < n) (all.sectors d) room))
              ∙ sym (ap (now_in b d) at) ∙ sym (sliced_inside u (now_in b) (log_slice p) 0 low)
        ]
