-- A cleaning, from the sync and the superblocks in it.
use Rattle.std.proofs.Common.{◌≡◌, ◌⊎◌, ℕ, ◌+◌, ◌-◌, ◌*◌, ◌%◌, ◌<◌, ◌≤◌, ◌^◌, Bool, true, false, ◌==◌, ◌||◌, nat_lt, if◌then◌else◌, [], map, take, length, slice_get, not, is_ok, unwrap_or, ap₂, Option, Some, None, option_map, refl, sym, ap, subst, ◌∙◌, inl, inr, eq-eqb, lt-ltb, arith}
use Rattle.std.proofs.lemmas.Bool.{both_ways}
use Rattle.rack.specs.Values.{Values}
use Rattle.rack.specs.Seen.{Image, RackView, IsLive, SameRack}
use Rattle.rack.specs.Joins.{keeps_then, stays_same, live_first, live_second}
use Rattle.rack.specs.Sequences.{OnlyReads, IsMix}
use Rattle.pool_state.specs.declared.contents.State.{State}
use Rattle.array_image.specs.Places.{log_slice, member_slice, super_sector, data_sector}
use Rattle.array_image.specs.Stripes.{width, sector_in, there, AgreeIn}
use Rattle.array_image.specs.Supers.{is_unclean}
use Rattle.array_image.specs.SoundArray.{first_unsynced}
use Rattle.array_image.specs.Arrays.{Member, Shape, layout_at, replayed}
use Rattle.array_image.specs.Even.{AreEven}
use Rattle.array_image.specs.Held.{Among, IsSynced, current_in}
use Rattle.array_image.specs.Left.{IsInside, PicksLogs}
use Rattle.array_image.proofs.Settled.{among_take}
use Rattle.array_image.proofs.Marked.{among_lowered}
use Rattle.array_model.specs.declared.Seat.{Seat}
use Rattle.array_model.specs.View.{View, IsArray, IsNoted, LosesPlaces, shape_of, has_gone, place_at, rows_of, member_by_seat}
use Rattle.array_model.specs.Says.{ImageShowsArray, ArrayInvariant}
use Rattle.array_model.specs.ArrayCalls.{IncludesSpent, Keeping, SyncsArray}
use Rattle.array_model.specs.Members.{Notes}
use Rattle.array_model.proofs.DataFrames.{columns_same}
use Rattle.array_model.proofs.Keeping.{live_on, live_after, settled_kept}
use Rattle.array_model.proofs.Moves.{CallRefines, moves_then, moves_by, acts_of}
use Rattle.array_model.proofs.Noting.{losing_by, covers_before, holds_noted, shape_noted}
use Rattle.array_model.proofs.Views.{loses_then, fault_early, fault_later, either_of}
use Rattle.array_model.proofs.RowWrites.{gone_none}
use Rattle.array_core.specs.Superblocks.{settled, settled_truth, left_offset, is_settled, raised}
use Rattle.array_core.specs.Settling.{Cleans, IsNewSuper, KeepsOthers, WritesSupers}
use Rattle.array_core.specs.Pool.{MayRenew}
use Rattle.array_core.proofs.Direct.{restated, renew_moves}
use Rattle.array_core.proofs.Settled.{spent_same}
use Rattle.array_core.proofs.LogFrames.{kept_logs}
use Rattle.log_laws.specs.Kept.{LogInvariant}
use Rattle.array_image.proofs.Frames.{map_same}
use Rattle.array_image.specs.Places.{array_id}
use Rattle.array_image.specs.States.{is_current}
use Rattle.array_image.specs.Supers.{has_roles, has_whole_row}
use Rattle.array_image.specs.Arrays.{place_with}
use Rattle.array_image.specs.Left.{NothingPending}
use Rattle.md_super.specs.declared.superblock.Super.{Super}
use Rattle.md_super.specs.Profile.{profiled}
use Rattle.std.specs.List.{range_with_len}
use Rattle.array_model.specs.declared.Seat.TheVariants.{Missing}
use Rattle.array_model.specs.View.{HasGeometry, member_on, is_missing_seat}
use Rattle.array_model.proofs.Views.{shape_is, shape_with}

-- ---- views in which nobody went

none_lost : (v u : View) (lost : ℕ → Bool) → LosesPlaces v u lost → u.went ≡ [] → (place : ℕ) → lost place ≡ false
none_lost v u lost loses fresh place = by (lost place) (sym (loses.went place) ∙ gone_none u fresh place)
  where
    by : (b : Bool) → (b || has_gone v place) ≡ false → b ≡ false
    by true is = absurd (both_ways true is refl)
    by false is = refl

pub seats_kept : (v u : View) (lost : ℕ → Bool) → LosesPlaces v u lost → u.went ≡ [] → (n : ℕ) → slice_get u.seats n ≡ slice_get v.seats n
seats_kept v u lost loses fresh n =
    loses.seats n ∙ ap (λ (b : Bool). option_map (λ (seat : Seat). if b then Missing else seat) (slice_get v.seats n)) (none_lost v u lost loses fresh (place_at v n)) ∙ same (slice_get v.seats n)
  where
    same : (o : Option Seat) → option_map (λ (seat : Seat). seat) o ≡ o
    same None = refl
    same (Some seat) = refl

pub shape_kept : (v u : View) (a b : RackView) → Notes v u a b → u.went ≡ [] → shape_of u ≡ shape_of v
shape_kept v u a b notes fresh =
    let truth = notes.same.truth in
    let member : (k : ℕ) → member_on u k ≡ member_on v k = λ k.
    ap₂ (λ (t : Super) (o : Option Seat). member_by_seat t.size (unwrap_or (place_with t.roles.items k) 16) o)
    truth (seats_kept v u notes.lost notes.loses fresh k) in
    shape_is u
    ∙ ap₂ shape_with truth
    (ap (λ (t : Super). map (member_on u) (range_with_len 0 t.raid_disks)) truth ∙ map_same (member_on u) (member_on v) (range_with_len 0 v.truth.raid_disks) member)
    ∙ sym (shape_is v)

-- ---- notes over a change of the truth

pub noted_restated : (v u w : View) (e o : ℕ) (m : Bool) (a b c : RackView) → SameRack a b → SameRack b c → Notes v u a b → Notes (restated e o m u) w b c → IsNoted v w a c
noted_restated v u w e o m a b c first second one two =
    let loses : LosesPlaces u w two.lost = record { seats = two.loses.seats; went = two.loses.went } in
    record {
      same = record {
        number = two.same.number ∙ one.same.number;
        geometry = geometry;
        devices = two.same.devices ∙ one.same.devices;
        resync = two.same.resync ∙ one.same.resync;
        young = two.same.young ∙ one.same.young;
      };
      lost = λ place. two.lost place || one.lost place;
      loses = loses_then v u w one.lost two.lost one.same.truth one.loses loses;
      cause = λ place is.
          elim (either_of (two.lost place) (one.lost place) is) [
            | inl later ↦ fault_later a b c place first (two.cause place later)
            | inr early ↦ fault_early a b c place second (one.cause place early)
          ];
    }
  where
    geometry : HasGeometry v.truth w.truth
    geometry = record {
      set = ap (λ (t : Super). t.set_id) two.same.truth ∙ ap (λ (t : Super). t.set_id) one.same.truth;
      level = ap (λ (t : Super). t.level) two.same.truth ∙ ap (λ (t : Super). t.level) one.same.truth;
      size = ap (λ (t : Super). t.size) two.same.truth ∙ ap (λ (t : Super). t.size) one.same.truth;
      disks = ap (λ (t : Super). t.raid_disks) two.same.truth ∙ ap (λ (t : Super). t.raid_disks) one.same.truth;
      roles = ap (λ (t : Super). t.roles) two.same.truth ∙ ap (λ (t : Super). t.roles) one.same.truth;
      features = ap (λ (t : Super). t.feature_map) two.same.truth ∙ ap (λ (t : Super). t.feature_map) one.same.truth;
      position = ap (λ (t : Super). t.reshape_position) two.same.truth ∙ ap (λ (t : Super). t.reshape_position) one.same.truth;
    }

-- ---- what renewing needs, after reads in which nobody went

pub renew_then : (s : State) (v u : View) (a b : RackView) → a.lasting → SameRack a b → IsArray v → IsArray u → Notes v u a b → u.went ≡ [] → MayRenew s v a → MayRenew s u b
renew_then s v u a b lasting stays is_array now notes fresh may =
    let seats = seats_kept v u notes.lost notes.loses fresh in
    let truth = notes.same.truth in
    record {
      state = record {
        set = ap (λ (t : Super). t.set_id.0) truth ∙ may.state.set ∙ ap (λ n. array_id s.pool.0 n) (sym notes.same.number);
        profile = ap (λ (t : Super). is_ok (profiled t s.extent)) truth ∙ may.state.profile;
        events = subst (λ (t : Super). 0 < t.events) (sym truth) may.state.events;
        events_end = subst (λ (t : Super). t.events < 2 ^ 63) (sym truth) may.state.events_end;
        row = ap has_whole_row truth ∙ may.state.row;
        roles = ap (has_roles (length s.drives.items)) truth ∙ may.state.roles;
        marks = λ n low.
            let disks : u.truth.raid_disks ≡ v.truth.raid_disks = ap (λ (t : Super). t.raid_disks) truth in
            ap (option_map (λ seat. not (is_missing_seat seat))) (seats n)
            ∙ may.state.marks n (omega (arith, low, now.seats, is_array.seats, disks))
            ∙ ap (λ (t : Super). Some (is_current s (unwrap_or (place_with t.roles.items n) 16))) (sym truth);
      };
      fresh = fresh;
      supers = λ place few inside.
          let number = notes.same.number in
          let before = subst (λ n. super_sector < a.sectors (member_slice place n)) number
          (subst (λ k. super_sector < k) (stays.sectors (member_slice place u.number)) inside) in
          subst (λ n. IsLive b b (member_slice place n) super_sector) (sym number) (live_after stays (live_on lasting stays (may.supers place few before)));
      rows = λ n to is. subst (λ (t : Super). (to % 128 ≡ 0) × (to < t.size)) (sym truth) (may.rows n to (sym (seats n) ∙ is));
      events = subst (λ (t : Super). t.events < 2 ^ 63 - 1) (sym truth) may.events;
    }

-- ---- settled members

-- rows that agree in what settled members hold agree in contents of a moment that wrote no data
pub even_settled : (v : View) (x : View) (a b : RackView) (c : Image) → a.lasting → SameRack a b → v.number < 16
    → ((m : Member) (i : ℕ) → Among m (shape_of v).members → i < m.reach → IsLive a a (member_slice m.place v.number) (data_sector + i))
    → NothingPending v.number a → IsSynced (shape_of v) v.number a.held
    → AreEven (shape_of v) v.number v.resync (current_in a.held)
    → IsInside a.sectors c → IsMix a b (IsNewSuper x) c → x.number ≡ v.number
    → (first : ℕ) → first ≤ v.resync
    → AreEven (shape_of v) v.number first (replayed a.sectors c)
even_settled v x a b c lasting stays few opened closed settled even inside mix number first low y small synced counts =
    let layout = layout_at (shape_of v) y in
    let sector = sector_in layout y in
    let logs : PicksLogs a c = record {
      picks = λ place t live.
          elim (mix (log_slice place) t (live_on lasting stays live)) [
            | inl held ↦ held
            | inr new ↦ let disk = new.disk in absurd (omega (arith, disk, few, number))
          ];
      inside = λ place t out. inside (log_slice place) t out;
    } in
    subst (λ stripe. AgreeIn layout (there stripe))
    (sym (columns_same (replayed a.sectors c) (current_in a.held) v.number sector (take (width layout) (shape_of v).members)
    (λ m among counted.
    let live = opened m sector (among_take (width layout) (shape_of v).members m among) counted in
    let d = member_slice m.place v.number in
    closed c logs m.place (data_sector + sector)
    ∙ elim (mix d (data_sector + sector) (live_on lasting stays live)) [
      | inl held ↦ settled m sector (among_take (width layout) (shape_of v).members m among) counted (c d (data_sector + sector)) held
      | inr new ↦ let at = new.sector in absurd (omega (arith, at))
    ])))
    (even y small (omega (arith, synced, low)) counts)

-- ---- the clause

pub left_offset_rows : (v : View) → is_settled v ≡ false → (left_offset v ≡ 2 ^ 64 - 1) ⊎ (left_offset v % 128 ≡ 0)
left_offset_rows v unsettled = by v.young (is_unclean v.truth) refl refl
  where
    by : (young unclean : Bool) → v.young ≡ young → is_unclean v.truth ≡ unclean → (left_offset v ≡ 2 ^ 64 - 1) ⊎ (left_offset v % 128 ≡ 0)
    by true true is clean =
        let same : left_offset v ≡ v.truth.resync_offset =
        ap (λ (b : Bool). if b then (if is_unclean v.truth then v.truth.resync_offset else 2 ^ 64 - 1) else if nat_lt v.resync (rows_of v) then v.resync * 128 else 2 ^ 64 - 1) is
        ∙ ap (λ (b : Bool). if b then v.truth.resync_offset else 2 ^ 64 - 1) clean in
        absurd (both_ways (v.truth.resync_offset == left_offset v) unsettled (eq-eqb v.truth.resync_offset (left_offset v) (sym same)))
    by true false is clean =
        inl (ap (λ (b : Bool). if b then (if is_unclean v.truth then v.truth.resync_offset else 2 ^ 64 - 1) else if nat_lt v.resync (rows_of v) then v.resync * 128 else 2 ^ 64 - 1) is
        ∙ ap (λ (b : Bool). if b then v.truth.resync_offset else 2 ^ 64 - 1) clean)
    by false unclean is clean =
        subst (λ k. (k ≡ 2 ^ 64 - 1) ⊎ (k % 128 ≡ 0))
        (sym (ap (λ (b : Bool). if b then (if is_unclean v.truth then v.truth.resync_offset else 2 ^ 64 - 1) else if nat_lt v.resync (rows_of v) then v.resync * 128 else 2 ^ 64 - 1) is))
        (rows (nat_lt v.resync (rows_of v)))
      where
        rows : (b : Bool) → ((if b then v.resync * 128 else 2 ^ 64 - 1) ≡ 2 ^ 64 - 1) ⊎ ((if b then v.resync * 128 else 2 ^ 64 - 1) % 128 ≡ 0)
        rows true = inr (omega arith)
        rows false = inl refl

pub raised_more : (n : ℕ) → n < 2 ^ 63 - 1 → (n < raised n) × (raised n < 2 ^ 63)
raised_more n low = subst (λ k. (n < k) × (k < 2 ^ 63)) (sym (ap (λ (b : Bool). if b then n + 1 else n) (lt-ltb n (2 ^ 63 - 1) low))) (omega arith, omega (arith, low))

pub clean_acts : (v u w : View) (a b c : RackView) → a.lasting → IsArray v → IsArray u → IsArray (settled u) → OnlyReads a b → Notes v u a b
    → ((s : State) (durable : Shape) (vals : ℕ → Values) (spent : ℕ → Bool) → IncludesSpent u spent → SyncsArray s v u spent a b durable vals)
    → u.went ≡ [] → is_settled u ≡ false → first_unsynced (settled_truth u) ≤ u.resync
    → (many : ℕ) → WritesSupers (settled u) w b c many
    → (s : State) (vals : ℕ → Values) (spent : ℕ → Bool) → IncludesSpent w spent → MayRenew s v a → Keeping s v w spent a c (shape_of v) vals
clean_acts v u w a b c lasting is_array now later reads notes syncs fresh unsettled unsynced many writes s vals spent covers may =
    let n = v.number in
    let number = notes.same.number in
    let may_u = renew_then s v u a b lasting reads.stays is_array now notes fresh may in
    let covers_su = covers_before (settled u) w writes.notes.lost (losing_by (settled u) w b c writes.notes) spent covers in
    let sync = syncs s (shape_of v) vals spent (λ y alive. sym (spent_same u y) ∙ covers_su y alive) in
    let shape = shape_kept v u a b notes fresh in
    let Middle : Type 0 = ArrayInvariant s (shape_of u) u vals spent b × IsSynced (shape_of u) u.number b.held in
    let first : CallRefines n a b (ArrayInvariant s (shape_of v) v vals spent a) (ImageShowsArray s n (shape_of v) vals spent) Middle = record {
      stays = sync.acts.stays;
      leaves = sync.acts.leaves;
      holds = λ h. (subst (λ (f : Shape). ArrayInvariant s f u vals spent b) (sym shape) (sync.acts.holds h), sync.settled h);
      apart = sync.acts.apart;
      calm = sync.acts.calm;
      bounded = sync.acts.bounded;
    } in
    let raise = raised_more u.truth.events may_u.events in
    let lasting_b = reads.stays.lasting lasting in
    let second : CallRefines u.number b c Middle (ImageShowsArray s u.number (shape_of u) vals spent) (ArrayInvariant s (shape_of u) (settled u) vals spent c) =
    renew_moves s u (raised u.truth.events) (left_offset u) false b c now may_u.state may_u.rows raise.0 raise.1 (left_offset_rows u unsettled) lasting_b may_u.supers writes.only
    false Middle vals spent fresh (λ q. q.0)
    (λ q i inside mix.
    even_settled u (settled u) b c i lasting_b writes.only.stays now.few q.0.shape.open_left (q.0.closed fresh) q.1 q.0.shape.even inside mix refl
    (first_unsynced (settled_truth u)) unsynced)
    (λ q steady. q.1) (λ is. absurd (both_ways false refl is)) (λ is. absurd (both_ways false refl is)) in
    let here : CallRefines n b c Middle (ImageShowsArray s n (shape_of v) vals spent) (ArrayInvariant s (shape_of v) (settled u) vals spent c) =
    subst (λ (f : Shape). CallRefines n b c Middle (ImageShowsArray s n f vals spent) (ArrayInvariant s f (settled u) vals spent c)) shape
    (subst (λ k. CallRefines k b c Middle (ImageShowsArray s k (shape_of u) vals spent) (ArrayInvariant s (shape_of u) (settled u) vals spent c)) number second) in
    let both = moves_then n a b c (ArrayInvariant s (shape_of v) v vals spent a) Middle (ArrayInvariant s (shape_of v) (settled u) vals spent c) (ImageShowsArray s n (shape_of v) vals spent) lasting
    (λ d t live other. reads.keeps.held d t live) first here in
    acts_of s v w spent a c (shape_of v) vals (ImageShowsArray s n (shape_of v) vals spent) (shape_of v) vals
    (moves_by n a c (ArrayInvariant s (shape_of v) v vals spent a) (ArrayInvariant s (shape_of v) v vals spent a) (ArrayInvariant s (shape_of v) (settled u) vals spent c) (ArrayInvariant s (shape_of v) w vals spent c)
    (ImageShowsArray s n (shape_of v) vals spent) (ImageShowsArray s n (shape_of v) vals spent) (λ h. h) (λ r p. p)
    (holds_noted (settled u) w b c c later writes.notes s (shape_of v) vals spent covers) both)
    (noted_restated v u w (raised u.truth.events) (left_offset u) false a b c reads.stays writes.only.stays notes writes.notes)

-- ---- what is written

pub clean_others : (u w : View) (a b c : RackView) (many : ℕ) → OnlyReads a b → WritesSupers (settled u) w b c many → KeepsOthers a c
clean_others u w a b c many reads writes d t live other =
    keeps_then (a.held d t) (b.held d t) (c.held d t)
    (reads.keeps.held d t (live_first writes.only.stays live))
    (writes.only.others d t (live_second reads.stays live) (λ x new. other new.sector))

settled_shape : (u : View) → shape_of (settled u) ≡ shape_of u
unfolding shape_of
settled_shape u = refl

-- whoever is left has one value in each sector
pub clean_settled : (v u w : View) (a b c : RackView) (many : ℕ) → a.lasting → OnlyReads a b
    → ((s : State) (durable : Shape) (vals : ℕ → Values) (spent : ℕ → Bool) → IncludesSpent u spent → SyncsArray s v u spent a b durable vals)
    → WritesSupers (settled u) w b c many
    → (s : State) (durable : Shape) (vals : ℕ → Values) (spent : ℕ → Bool) → IncludesSpent w spent → ArrayInvariant s durable v vals spent a
    → IsSynced (shape_of w) w.number c.held
clean_settled v u w a b c many lasting reads syncs writes s durable vals spent covers holds =
    let covers_su = covers_before (settled u) w writes.notes.lost (losing_by (settled u) w b c writes.notes) spent covers in
    let sync = syncs s durable vals spent (λ y alive. sym (spent_same u y) ∙ covers_su y alive) in
    let single = sync.settled holds in
    let among : (m : Member) (sector : ℕ) → Among m (shape_of w).members → sector < m.reach → Among m (shape_of u).members =
    λ m sector inside counts.
    subst (λ (f : Shape). Among m f.members) (settled_shape u)
    (among_lowered writes.notes.lost sector (shape_of (settled u)).members m
    (subst (λ (f : Shape). Among m f.members) (shape_noted (settled u) w b c writes.notes) inside) counts) in
    subst (λ k. IsSynced (shape_of w) k c.held) (sym writes.notes.same.number)
    (settled_kept b.held c.held (shape_of w) u.number
    (λ m sector inside counts.
    writes.only.others (member_slice m.place u.number) (data_sector + sector)
    (live_on (reads.stays.lasting lasting) writes.only.stays ((sync.acts.holds holds).shape.open_left m sector (among m sector inside counts) counts))
    (λ x new. let at = new.sector in absurd (omega (arith, at))))
    (λ m sector inside counts. single m sector (among m sector inside counts) counts))

-- ---- the log

pub clean_logs : (s : State) (number : ℕ) (u w : View) (a b c : RackView) (many : ℕ) → a.lasting → u.number < 16 → OnlyReads a b → WritesSupers (settled u) w b c many
    → LogInvariant s number (λ place. false) a → LogInvariant s number (λ place. false) c
clean_logs s number u w a b c many lasting few reads writes kept =
    kept_logs s number b c (reads.stays.lasting lasting) writes.only.stays
    (λ place t live. writes.only.others (log_slice place) t live (λ x new. let disk = new.disk in absurd (omega (arith, disk, few))))
    (kept_logs s number a b lasting reads.stays (λ place t live. reads.keeps.held (log_slice place) t live) kept)

-- ---- the view

notes_over : (v w : View) (a b c d : RackView) → SameRack a b → SameRack c d → Notes v w b c → Notes v w a d
notes_over v w a b c d first last notes = record {
  same = notes.same;
  lost = notes.lost;
  loses = notes.loses;
  cause = λ place is. fault_later a b d place first (fault_early b c d place last (notes.cause place is));
}

pub cleans_view : (v u w : View) (a b c : RackView) → a.fit → OnlyReads a b → Notes v u a b → u.went ≡ [] → is_settled u ≡ false → WritesSupers (settled u) w b c u.truth.raid_disks → Cleans v w a c
cleans_view v u w a b c fit reads notes fresh unsettled writes = record {
  synced = u;
  notes = notes_over v u a a b c (stays_same a fit) writes.only.stays notes;
  either = inr (record {
    fresh = fresh;
    open_rows = unsettled;
    notes = notes_over (settled u) w a b c c reads.stays (stays_same c writes.only.stays.fit) writes.notes;
    durable = λ n low left live x may. writes.durable n low left (live_second reads.stays live) x may;
  });
}
