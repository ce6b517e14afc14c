-- The drive that a place has while another one joins in its stead: the call doesn't write it, so it says the state before, and its gate is none of a later number than the log had
-- then. While the state before stands, it is the drive of its place.
use Rattle.std.proofs.Common.{◌≡◌, ◌≢◌, ℕ, ◌+◌, ◌<◌, ◌≤◌, ◌==◌, ◌&&◌, if◌then◌else◌, Bool, true, false, bytes_eq, position, List, [], Option, Some, None, unwrap_or, refl, sym, ap, ap₂, subst, ◌∙◌, inl, inr, eq-eqb, le-leb, lt-ltb, ne_eqb, arith}
use Rattle.std.specs.Option.{option_and_then, option_map_or}
use Rattle.std.specs.Result.{result_ok}
use Rattle.std.proofs.lemmas.Bool.{cases_eq}
use Rattle.rack.specs.Seen.{Image, IsLive, RackView}
use Rattle.rack.specs.Joins.{keeps_same}
use Rattle.rack.specs.Values.{MayLeave}
use Rattle.slice_rack.specs.Laws.{live_below}
use Rattle.slice_rack.specs.Runs.{IsSliced}
use Rattle.slice_rack.specs.Slices.{IsOrderly, Slices, disk_of, first_of, place_of, seat_of as slice_seat, sectors_of}
use Rattle.slice_rack.specs.Sliced.{IsInside, sliced, slices_of}
use Rattle.gpt_table.specs.declared.Table.{Table}
use Rattle.gpt_table.specs.Changes.{the_table}
use Rattle.pool_state.specs.declared.contents.Copied.{Copied}
use Rattle.pool_state.specs.declared.contents.Drive.{Drive}
use Rattle.pool_state.specs.declared.contents.Plan.{Plan}
use Rattle.array_image.specs.Places.{arrays_first, log_sectors, log_slice, slice_of, state_sector}
use Rattle.array_image.specs.Record.{GateAt, gate_sector, pending_at}
use Rattle.array_image.specs.States.{current_places, epoch_of, is_current, id_of}
use Rattle.array_core.proofs.Stripped.{some_same}
use Rattle.log_laws.specs.Kept.{IsCopyOf, LogInvariant}
use Rattle.raid_laws.specs.Book.{after_same}
use Rattle.raid_laws.specs.Enlisting.{enlisted, next_drive}
use Rattle.raid_laws.specs.Missing.{raised}
use Rattle.raid_laws.specs.Raid.{IsTracked, Raid, is_failed}
use Rattle.raid_laws.specs.Since.{AreTakenSince}
use Rattle.raid_laws.proofs.Apart.{seat_is}
use Rattle.pool_image.specs.Disks.{Disks, Identity, disks_of, id_by, identities_of, seat_of, stands_for}
use Rattle.pool_image.specs.Drives.{Found}
use Rattle.pool_image.specs.Replay.{Extent, log_extent, logs_of}
use Rattle.pool_rest.specs.Moments.{IsGateBelow}
use Rattle.pool_model.specs.InService.{RunInvariant, epoch_at}
use Rattle.pool_model.specs.Laid.{IsFormerYet, IsJoinedOutsideSlices, SaysFormerly}
use Rattle.pool_model.specs.Left.{IsPickOutsideSlices}
use Rattle.pool_model.specs.Taken.{SeatsNew}
use Rattle.pool_model.proofs.Amid.{inside_of}
use Rattle.pool_model.proofs.Joined.{current_here, id_here}
use Rattle.pool_model.proofs.JoiningNames.{count, e, first_before, h, had, id_before, ids, named, new_id, own_stands, seat_new, seat_old, stranger_is, stranger_low}
use Rattle.pool_model.proofs.Lost.{former_earlier, log_disk, log_lies}
use Rattle.pool_model.proofs.Logs.{copied_in, many_in, reads_in, room_in}
use Rattle.pool_model.proofs.Named.{stands_named}
use Rattle.pool_model.proofs.Said.{AreInside}
use Rattle.pool_model.proofs.Seats.{seat_leads}

-- By the tables with the new drive the former one's disk has no slice.
pub former_free : (f : Found) (t u : Slices) (v : Raid) (place disk sectors : ℕ) → SeatsNew f t u v place disk sectors → IsOrderly t → IsOrderly u → (d : ℕ) → slice_seat t place ≡ Some d
    → d ≢ disk → (k : ℕ) (w : List ℕ) → IsSliced u d k w → ⊥
former_free f t u v place disk sectors new orderly orderly_now d seat other k w at =
    let on : slice_seat u (place_of at.slice) ≡ Some d = seat_is u at.slice at.at orderly_now at.within ∙ ap Some (sym at.disk_is) in
    elim (cases_eq (place_of at.slice) place) [
      | inl same ↦
          other (some_same d disk
          (sym on ∙ new.seats.seats (place_of at.slice) ∙ ap (λ (b : Bool). if b then Some disk else slice_seat t (place_of at.slice)) (eq-eqb (place_of at.slice) place same)))
      | inr away ↦
          away (orderly.one_place (place_of at.slice) place d
          (sym (new.seats.seats (place_of at.slice) ∙ ap (λ (b : Bool). if b then Some disk else slice_seat t (place_of at.slice)) (ne_eqb (place_of at.slice) place away)) ∙ on) seat)
    ]

-- Its copy is of no later state than the book's, so it is earlier than the one that has the new drive.
pub former_below : (f : Found) (t u : Slices) (v : Raid) (place disk : ℕ) (x : RackView) → RunInvariant f t v x → SeatsNew f t u v place disk (x.sectors disk) → IsOrderly t → IsOrderly u
    → IsInside t x → is_current v.state place ≡ true → IsTracked v (slices_of t x) 0 → is_failed v 0 ≡ false → (d : ℕ) → d ≢ disk → f.seats place ≡ Some d
    → (j : Image) → IsPickOutsideSlices u x j → (copy : Copied) → (identities_of (disks_of x) j d).copied ≡ Some copy → copy.state.epoch < raised v.state.epoch
former_below f t u v place disk x is new orderly orderly_now inside was told lasts d other seat =
    let log = (told.stood lasts).log in
    let lies = log_lies f t x place d is.slices seat in
    let there : 0 < sectors_of t (log_slice place) = (let many = lies.1 in omega (arith, many)) in
    let begins : first_of t (log_slice place) + 0 ≡ state_sector = (let at = lies.0 in omega (arith, at)) in
    let live : IsLive x x d state_sector =
    subst (λ q. IsLive x x q state_sector) (log_disk f t x place d is.slices seat)
    (subst (λ k. IsLive x x (disk_of t (log_slice place)) k) begins (live_below orderly inside (log.logs place 0 (log.few place was) there))) in
    former_earlier f t u v x x place d is.slices seat (log.few place was) 0 told lasts new.room live (keeps_same (x.held d state_sector))
    (former_free f t u v place disk (x.sectors disk) new orderly orderly_now d (is.slices.seats place ∙ seat) other state_sector)

-- t are the tables by which the pool goes, and u those with the new drive. Off the slices of these the other disks have what they may have had.
module _ (f : Found) (t u : Slices) (v : Raid) (place disk : ℕ) (x : RackView) (i : Image) (is : RunInvariant f t v x) (new : SeatsNew f t u v place disk (x.sectors disk))
    (others : (q k : ℕ) → q ≢ disk → IsLive x x q k → ((w : List ℕ) → IsSliced u q k w → ⊥) → MayLeave (x.held q k) (i q k))
    (orderly : IsOrderly t) (orderly_now : IsOrderly u) (inside : IsInside t x)
    (log : LogInvariant v.state v.number (λ p. false) (slices_of t x)) (was : is_current v.state place ≡ true) (d : ℕ) (seat : f.seats place ≡ Some d) (other : d ≢ disk) where
  within : AreInside f t
  within = inside_of f t x is.disks inside

  on : slice_seat t place ≡ Some d
  on = is.slices.seats place ∙ seat

  on_place : place_of (log_slice place) ≡ place
  on_place = omega arith

  disk_is : disk_of t (log_slice place) ≡ d
  disk_is = ap (λ o. unwrap_or o 0) (ap (slice_seat t) on_place ∙ on)

  many : sectors_of t (log_slice place) ≡ log_sectors
  many = many_in f t i within place d on (is.slices.logs place d seat)

  -- it has what it may have had
  may : (k : ℕ) → k < log_sectors → MayLeave ((slices_of t x).held (log_slice place) k) (sliced t i (log_slice place) k)
  may k low =
      let there : k < sectors_of t (log_slice place) = (let long = many in omega (arith, low, long)) in
      subst (MayLeave (x.held (disk_of t (log_slice place)) (first_of t (log_slice place) + k)))
      (sym (ap (λ (c : Bool). if c then i (disk_of t (log_slice place)) (first_of t (log_slice place) + k) else []) (lt-ltb k (sectors_of t (log_slice place)) there)))
      (others (disk_of t (log_slice place)) (first_of t (log_slice place) + k) (λ same. other (sym disk_is ∙ same))
      (live_below orderly inside (log.logs place k (log.few place was) there))
      (λ w at. former_free f t u v place disk (x.sectors disk) new orderly orderly_now d on other (first_of t (log_slice place) + k) w
      (subst (λ q. IsSliced u q (first_of t (log_slice place) + k) w) disk_is at)))

  pub own : IsCopyOf v.state place (sliced t i (log_slice place) 0)
  own = log.copies.own place (sliced t i (log_slice place) 0) was refl (may 0 (omega arith))

  pub former_copy : (identities_of (disks_of x) i d).copied ≡ Some (record { state = v.state; own = own.own })
  former_copy =
      ap (λ (q : Disks). (identities_of q i d).copied) (sym is.disks) ∙ copied_in f t i within place d on (is.slices.logs place d seat) ∙ ap result_ok own.copy

  pub former_own : (copy : Copied) → (identities_of (disks_of x) i d).copied ≡ Some copy → SaysFormerly v.state place copy
  former_own copy here =
      let same : record { state = v.state; own = own.own } ≡ copy = some_same (record { state = v.state; own = own.own }) copy (sym former_copy ∙ here) in
      subst (SaysFormerly v.state place) same (inr (inr refl, own.drive))

  pub former_gate : (number : ℕ) → v.number < number → IsGateBelow number (sliced t i (log_slice place) gate_sector)
  former_gate number late =
      let at = log.numbers place was (let long = many in omega (arith, long)) (sliced t i (log_slice place) gate_sector) (may gate_sector (omega arith)) in
      let most = at.2 in
      (at.0, at.1, omega (arith, most, late))

  -- ---- whose place it is

  module _ (joined : IsJoinedOutsideSlices f u v place disk x i) (units : ℕ) (plan : Plan)
      (formerly : (q : ℕ) (copy : Copied) → f.seats place ≡ Some q → q ≢ disk → (identities_of (disks_of x) i q).copied ≡ Some copy → SaysFormerly v.state place copy)
      (now_inside : AreInside (h f t u v place disk units plan x i is new joined formerly) u)
      (since : AreTakenSince (λ p. p == place) v.state (enlisted place units plan v.state) (sectors_of u) (sliced u i))
      (table : Table) (drive : table.disk_id.0 ≡ (next_drive v.state).0) (tabled : the_table (x.sectors disk) (i disk) ≡ Some table)
      (renamed : id_of v.state place ≢ Some (next_drive v.state).0) where
    abbrev says : ℕ → Identity
    says = ids f t u v place disk units plan x i is new joined formerly

    abbrev old_id : List ℕ
    old_id = (named f t u v place disk units plan x i is new joined formerly place d seat).id

    old_stands : stands_for v.state (says d) ≡ Some place
    old_stands =
        ap (λ (o : Option Copied). stands_for v.state (record { copied = o; table = (says d).table })) former_copy
        ∙ ap (option_and_then (λ id. position (λ (k : Drive). bytes_eq k.id.0 id) v.state.drives.items)) (own.drive ∙ id_before f t u v place disk units plan x i is new joined formerly place d seat)
        ∙ first_before f t u v place disk units plan x i is new joined formerly place d seat

    old_epoch : epoch_at (says d) ≡ v.state.epoch
    old_epoch = ap (λ (o : Option Copied). option_map_or epoch_of o 0) former_copy

    -- another disk that stands for the place by the state before is no drive
    no_drive : (q : ℕ) → q ≢ d → stands_for v.state (says q) ≡ Some place → (p : ℕ) → f.seats p ≡ Some q → ⊥
    no_drive q apart stands p had_it = elim (cases_eq p place) [
      | inl same ↦ apart (some_same q d (sym had_it ∙ ap f.seats same ∙ seat))
      | inr away ↦
          away (some_same p place (sym (own_stands f t u v place disk units plan x i is new joined formerly now_inside since v.state p q (inl (after_same v.state)) away had_it) ∙ stands))
    ]

    not_new : (q : ℕ) → stands_for v.state (says q) ≡ Some place → q ≢ disk
    not_new q stands same =
        let one = stands_named v.state (says q) place stands in
        renamed (one.place ∙ sym one.says ∙ ap (λ k. id_by (says k).table (says k).copied) same ∙ new_id f t u v place disk units plan x i is new joined formerly now_inside since table drive tabled)

    -- nor one of the pool with the new one
    none_now : (q : ℕ) → q ≢ d → stands_for v.state (says q) ≡ Some place → (p : ℕ) → (h f t u v place disk units plan x i is new joined formerly).seats p ≡ Some q → ⊥
    none_now q apart stands p has = elim (cases_eq p place) [
      | inl same ↦ not_new q stands (some_same q disk (sym has ∙ ap (λ k. (h f t u v place disk units plan x i is new joined formerly).seats k) same ∙ seat_new f t u v place disk units plan x i is new joined formerly))
      | inr away ↦ no_drive q apart stands p (sym (seat_old f t u v place disk units plan x i is new joined formerly p away) ∙ has)
    ]

    low : d < x.disks
    low = let less = (had f t u v place disk units plan x i is new joined formerly place d seat).low in let same = count f t u v place disk units plan x i is new joined formerly in omega (arith, less, same)

    before : (q : ℕ) → q < d → stands_for v.state (says q) ≡ Some place → epoch_at (says q) < epoch_at (says d)
    before q less stands =
        let apart : q ≢ d = λ same. omega (arith, less, same) in
        let none = no_drive q apart stands in
        let within_disks : q < x.disks = (let bound = low in omega (arith, less, bound)) in
        let same = stranger_is f t u v place disk units plan x i is new joined formerly q none (not_new q stands) within_disks in
        let one = stands_named v.state (says q) place stands in
        let same_id : one.id ≡ old_id = some_same one.id old_id (sym one.place ∙ id_before f t u v place disk units plan x i is new joined formerly place d seat) in
        let was_for : stands_for f.state (says q) ≡ Some place =
        ap (option_and_then (λ id. position (λ (k : Drive). bytes_eq k.id.0 id) f.state.drives.items)) (one.says ∙ ap Some same_id) ∙ (named f t u v place disk units plan x i is new joined formerly place d seat).first in
        let early = (had f t u v place disk units plan x i is new joined formerly place d seat).before q less none (ap (stands_for f.state) (sym same) ∙ was_for) in
        let here : epoch_at (says q) ≡ epoch_at (e f t u v place disk units plan x i is new joined formerly q) = ap epoch_at same in
        let up = is.after.epoch in
        let most = old_epoch in
        omega (arith, early, here, up, most)

    behind : (q : ℕ) → d < q → q < x.disks → stands_for v.state (says q) ≡ Some place → epoch_at (says q) ≤ epoch_at (says d)
    behind q late within_disks stands =
        let most = stranger_low f t u v place disk units plan x i is new joined formerly q (none_now q (λ same. omega (arith, late, same)) stands) within_disks in
        let same = old_epoch in
        omega (arith, most, same)

    pub former_seat : seat_of v.state (disks_of x) says place ≡ Some d
    former_seat = seat_leads v.state (disks_of x) says place d was low old_stands before behind

    -- ---- its gate

    read : Option ℕ → List ℕ
    read o = option_map_or (λ q. option_map_or (λ (z : Extent). i q (z.first + gate_sector)) (log_extent (x.sectors q)) []) o []

    gate_same : logs_of (disks_of x) (seat_of v.state (disks_of x) says) i (log_slice place) gate_sector ≡ sliced t i (log_slice place) gate_sector
    unfolding read
    gate_same =
        let of_log : slice_of (log_slice place) ≡ 0 = omega arith in
        let room : arrays_first ≤ x.sectors d =
        subst (λ (q : Disks). arrays_first ≤ q.sectors d) is.disks (room_in f t i within place d on (is.slices.logs place d seat)) in
        ap₂ (λ (n : ℕ) (b : Bool). if (n == 0) && b then read (seat_of v.state (disks_of x) says (place_of (log_slice place))) else []) of_log (lt-ltb gate_sector log_sectors (omega arith))
        ∙ ap (λ k. read (seat_of v.state (disks_of x) says k)) on_place
        ∙ ap read former_seat
        ∙ ap (λ (b : Bool). option_map_or (λ (z : Extent). i d (z.first + gate_sector)) (if b then Some (record { first = state_sector; sectors = log_sectors }) else None) [])
        (le-leb arrays_first (x.sectors d) room)
        ∙ sym (reads_in f t i within place d on (is.slices.logs place d seat) gate_sector (omega arith))

    -- So it has its drive yet, where the record that is pending has a later number than the log had.
    pub former_yet : ((a : GateAt) → pending_at (current_places v.state) (sliced u i) ≡ Some a → v.number < a.gate.number)
        → IsFormerYet (disks_of x) u v.state (enlisted place units plan v.state) place i
    former_yet later = record {
      joins = record {
        now = current_here place units plan v.state new.listed;
        new = inr (λ same. renamed (sym same ∙ id_here place units plan v.state new.listed));
      };
      lower = λ a at. inr (subst (IsGateBelow a.gate.number) (sym gate_same) (former_gate a.gate.number (later a at)));
    }
