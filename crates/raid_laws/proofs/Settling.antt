-- One array more is settled.
use Rattle.std.proofs.Common.{◌≡◌, ℕ, ◌+◌, ◌<◌, ◌≤◌, Bool, true, false, ◌||◌, List, [], get_or, length, slice_get, Some, unwrap_or, refl, sym, ap, subst, ◌∙◌, inl, inr, eq-eqb, arith}
use Rattle.std.proofs.lemmas.Bool.{cases_eq, cases_lt, both_ways}
use Rattle.std.proofs.lemmas.List.{length-append}
use Rattle.std.proofs.lemmas.Option.{slice_get-get_or}
use Rattle.rack.specs.Values.{Values}
use Rattle.rack.specs.Seen.{RackView, IsPick}
use Rattle.rack.specs.Joins.{stays_same, stays_then, leaves_same, keeps_same, keeps_all_then}
use Rattle.rack.specs.Targets.{Target}
use Rattle.rack.specs.Sequences.{OnlyReads}
use Rattle.pool_state.specs.declared.contents.State.{State}
use Rattle.array_image.specs.Places.{member_slice, data_sector}
use Rattle.array_image.specs.Record.{are_apart}
use Rattle.array_image.specs.Arrays.{Shape}
use Rattle.array_image.specs.Held.{IsSynced}
use Rattle.array_model.specs.declared.Seat.{Seat}
use Rattle.array_model.specs.declared.Seat.TheVariants.{Missing}
use Rattle.array_model.specs.View.{View, IsArray, has_gone, is_missing_seat, place_at, shape_of}
use Rattle.array_model.specs.Members.{slice_on}
use Rattle.array_model.specs.Says.{IsOpen, ArrayInvariant}
use Rattle.array_model.specs.ArrayCalls.{IncludesSpent, SyncsArray}
use Rattle.log_laws.proofs.Kept.{live_on}
use Rattle.array_model.specs.Stages.{AmongTargets}
use Rattle.array_model.proofs.Keeping.{settled_kept}
use Rattle.array_model.proofs.RowWrites.{places_apart}
use Rattle.array_model.proofs.Noting.{final_is}
use Rattle.array_core.specs.declared.slots.Slot.{Slot}
use Rattle.array_core.specs.Slots.{slots_of, place_by}
use Rattle.array_core.specs.Staging.{AddsSupersOf}
use Rattle.array_core.specs.Superblocks.{left_offset}
use Rattle.array_core.proofs.StagedTargets.{targets_apart}
use Rattle.raid_laws.specs.Raid.{Raid}
use Rattle.raid_laws.specs.Moves.{IsSet, IsTrackedInCall, IsUnmarked}
use Rattle.raid_laws.specs.Settling.{IsSuperOf, HasSupers, HasStaged, SettlesTo}
use Rattle.raid_laws.proofs.Moving.{moves_same, moves_then}
use Rattle.raid_laws.proofs.Noted.{with_arrays}
use Rattle.raid_laws.proofs.Rows.{left_same, settled_just}
use Rattle.raid_laws.proofs.Calls.{ReadsOne, moves_read}
use Rattle.raid_laws.proofs.Elements.{among_either, among_first, among_second, apart_append, slot_at_position, supers_from, supers_count}

-- ---- the superblocks of one array

pub slot_facts : (u : View) (k : ℕ) (s : Slot) → IsArray u → slice_get (slots_of u) k ≡ Some s
    → (k < u.truth.raid_disks) × (s.place ≡ place_at u k) × (slice_get u.seats k ≡ Some s.seat)
slot_facts u k s is_array is =
    let at = slot_at_position (place_by u.truth) 0 u.truth.raid_disks u.seats u.devices k s is_array.seats is_array.devices is in
    (at.0, at.1 ∙ ap (place_by u.truth) (let e : 0 + k ≡ k = omega arith in e), at.2)

-- an array has 16 members at most
slots_few : (u : View) → IsArray u → length (slots_of u) ≤ 16
slots_few u is_array =
    elim (cases_lt u.truth.raid_disks (length (slots_of u))) [
      | inl more ↦
          let at = slot_facts u u.truth.raid_disks (get_or (slots_of u) u.truth.raid_disks no_slot) is_array (slice_get-get_or (slots_of u) u.truth.raid_disks no_slot more) in
          let low = at.0 in absurd (omega (arith, low))
      | inr few ↦ let most = (final_is u is_array).count in omega (arith, few, most)
    ]
  where
    no_slot : Slot
    no_slot = record { place = 0; seat = Missing; device = record { 0 = [] } }

-- a seat that isn't missing
not_missing : (seat : Seat) → is_missing_seat seat ≡ false → seat ≡ Missing → ⊥
not_missing seat there is = both_ways true (sym (ap is_missing_seat is) ∙ there) refl

of_member : (v : Raid) (m : ℕ) (x : Target) (before added : List Target) (adds : AddsSupersOf (v.arrays m) before added)
    → IsArray (v.arrays m) → AmongTargets x adds.targets → IsSuperOf v (m + 1) x
of_member v m x before added adds is_array among =
    let u = v.arrays m in
    let from = supers_from u.number u.truth (slots_of u) adds.targets x adds.supers among in
    let at = slot_facts u from.index from.slot is_array from.at in
    record {
      array = m;
      low = omega arith;
      position = from.index;
      inside = at.0;
      there = λ missing. not_missing from.slot.seat from.there (ap (λ o. unwrap_or o Missing) (sym at.2 ∙ missing));
      disk = from.on.disk ∙ ap (λ p. member_slice p u.number) at.1;
      sector = from.on.sector;
    }

-- superblocks of an array are apart, and lie in its slices
own_apart : (u : View) (before added : List Target) (adds : AddsSupersOf u before added) → IsArray u → are_apart adds.targets ≡ true
own_apart u before added adds is_array =
    targets_apart u.number u.truth is_array.few (slots_of u) adds.targets
    (λ n m s t one two same.
    let first = slot_facts u n s is_array one in
    let second = slot_facts u m t is_array two in
    places_apart u n m is_array first.0 second.0 (sym first.1 ∙ same ∙ second.1))
    adds.supers

-- ---- of the first arrays

pub more_super : (v w : Raid) (k m : ℕ) (x : Target) → k ≤ m → ((n : ℕ) → n < k → w.arrays n ≡ v.arrays n) → IsSuperOf v k x → IsSuperOf w m x
more_super v w k m x less same super =
    let is = sym (same super.array super.low) in
    record {
      array = super.array;
      low = let low = super.low in omega (arith, less, low);
      position = super.position;
      inside = subst (λ (u : View). super.position < u.truth.raid_disks) is super.inside;
      there = subst (λ (u : View). slice_get u.seats super.position ≡ Some Missing → ⊥) is super.there;
      disk = super.disk ∙ ap (λ (u : View). slice_on u super.position) is;
      sector = super.sector;
    }

pub more_supers : (u w : View) (xs ys : List Target) → w ≡ u → ((x : Target) → AmongTargets x xs → AmongTargets x ys) → HasSupers u xs → HasSupers w ys
more_supers u w xs ys same more has =
    subst (λ (z : View). HasSupers z ys) (sym same)
    (record { before = has.before; added = has.added; adds = has.adds; among = λ x among. more x (has.among x among); unmarked = has.unmarked })

-- the place and the array of a slice
slice_array : (v : Raid) (n m j k : ℕ) → n < 16 → m < 16 → (v.arrays n).number ≡ n → (v.arrays m).number ≡ m
    → slice_on (v.arrays n) j ≡ slice_on (v.arrays m) k → n ≡ m
slice_array v n m j k few also one two same = omega (arith, few, also, one, two, same)

pub staged_more : (v w : Raid) (m : ℕ) (xs ys : List Target) → m < 16
    → ((n : ℕ) → n < m → (v.arrays n).number ≡ n) → ((n : ℕ) → (n ≡ m → ⊥) → w.arrays n ≡ v.arrays n) → (w.arrays m).number ≡ m → IsArray (w.arrays m)
    → HasStaged v m xs → AddsSupersOf (w.arrays m) xs ys → IsUnmarked (w.arrays m) → HasStaged w (m + 1) ys
staged_more v w m xs ys few numbers others number is_array staged adds unmarked =
    let u = w.arrays m in
    let earlier : (n : ℕ) → n < m → w.arrays n ≡ v.arrays n = λ n less. others n (λ same. omega (arith, less, same)) in
    record {
      only = λ z among.
          elim (among_either z xs adds.targets (subst (AmongTargets z) adds.appended among)) [
            | inl old ↦ more_super v w m (m + 1) z (omega arith) earlier (staged.only z old)
            | inr new ↦ of_member w m z xs ys adds is_array new
          ];
      apart = ap are_apart adds.appended
          ∙ apart_append xs adds.targets staged.apart (own_apart u xs ys adds is_array)
          (λ p q one two disk sector.
          let old = staged.only p one in
          let new = of_member w m q xs ys adds is_array two in
          let less = old.low in
          let number_old = numbers old.array less in
          let number_new : u.number ≡ m = number in
          let at_old : p.disk ≡ slice_on (v.arrays old.array) old.position = old.disk in
          let from = supers_from u.number u.truth (slots_of u) adds.targets q adds.supers two in
          let at_new = from.on.disk in
          absurd (omega (arith, less, few, number_old, number_new, at_old, at_new, disk)));
      each = λ n less.
          elim (cases_eq n m) [
            | inl same ↦ subst (λ k. HasSupers (w.arrays k) ys) (sym same)
                (record { before = xs; added = ys; adds = adds; among = λ z among. subst (AmongTargets z) (sym adds.appended) (among_second z xs adds.targets among); unmarked = unmarked })
            | inr other ↦
                let below : n < m = omega (arith, less, other) in
                more_supers (v.arrays n) (w.arrays n) xs ys (earlier n below)
                (λ z among. subst (AmongTargets z) (sym adds.appended) (among_first z xs adds.targets among)) (staged.each n below)
          ];
      few =
          let count = supers_count u.number u.truth (slots_of u) adds.targets adds.supers in
          let most = slots_few u is_array in
          let old = staged.few in
          let sum : length ys ≡ length xs + length adds.targets = ap length adds.appended ∙ length-append xs adds.targets in
          omega (arith, count, most, old, sum);
    }

-- ---- one array more

or_right : (b c : Bool) → c ≡ true → (b || c) ≡ true
or_right true c is = refl
or_right false c is = is

-- the members of a settled array have one value still
settled_later : (w : Raid) (b c : RackView) (n : ℕ) (vals : ℕ → Values) (spent : ℕ → Bool) → b.lasting → OnlyReads b c → IsTrackedInCall w b n vals spent
    → IsSynced (shape_of (w.arrays n)) n b.held → IsSynced (shape_of (w.arrays n)) n c.held
settled_later w b c n vals spent lasting reads amid single =
    settled_kept b.held c.held (shape_of (w.arrays n)) n
    (λ m sector among counts.
    reads.keeps.held (member_slice m.place n) (data_sector + sector)
    (live_on lasting reads.stays
    (subst (λ k. IsOpen (shape_of (w.arrays n)) k b) amid.stood.number amid.stood.holds.shape.open_left m sector among counts)))
    single

pub settles_first : (v : Raid) (x : RackView) → IsSet v x → SettlesTo v v x x 0 []
settles_first v x set =
    record {
      moves = moves_same v x set;
      reads = record { stays = stays_same x set.fit; keeps = record { held = λ d s live. keeps_same (x.held d s); stops = λ traced. leaves_same x (IsPick x x x.held) } };
      same = refl;
      number = refl;
      raised = λ n low. omega arith;
      rest = λ n low past. refl;
      left = λ n low less young. absurd (omega (arith, less));
      went = λ n p low is. is;
      staged = record { only = λ y among. absurd among; apart = refl; each = λ n low. absurd (omega (arith, low)); few = omega arith };
      settled = λ n vals spent low joined goes covers amid. absurd (omega (arith, low));
    }

pub settles_more : (v w : Raid) (f : ℕ → View) (a b c : RackView) (m : ℕ) (xs ys : List Target) → w.state.made ≤ 16
    → SettlesTo v w a b m xs → ReadsOne w f m b c
    → ((s : State) (durable : Shape) (vals : ℕ → Values) (spent : ℕ → Bool) → IncludesSpent (f m) spent → SyncsArray s (w.arrays m) (f m) spent b c durable vals)
    → AddsSupersOf (f m) xs ys → (f m).marked ≡ false → (f m).truth.events ≤ (w.arrays m).truth.events + 1
    → (f m).truth.resync_offset ≡ left_offset (w.arrays m)
    → SettlesTo v (with_arrays w f) a c (m + 1) ys
settles_more v w f a b c m xs ys few before call syncs adds unmarked raised left =
    let step = moves_read w f m b c before.moves.set call in
    record {
      moves = moves_then v w (with_arrays w f) a b c before.moves step;
      reads = record { stays = stays_then before.reads.stays call.reads.stays; keeps = keeps_all_then before.reads.stays call.reads.stays before.reads.keeps call.reads.keeps };
      same = before.same;
      number = before.number;
      raised = λ n low.
          elim (cases_eq n m) [
            | inl same ↦
                subst (λ k. (f k).truth.events ≤ (v.arrays k).truth.events + 1) (sym same)
                (let e = before.rest m (subst (λ k. k < v.state.made) same low) (omega arith) in omega (arith, raised, e))
            | inr other ↦
                let e = ap (λ (u : View). u.truth.events) (call.views.others n other) in
                let was = before.raised n low in
                omega (arith, e, was)
          ];
      rest = λ n low past.
          ap (λ (u : View). u.truth.events) (call.views.others n (λ same. omega (arith, same, past)))
          ∙ before.rest n low (omega (arith, past));
      left = λ n low less young.
          elim (cases_eq n m) [
            | inl same ↦
                subst (λ k. (f k).truth.resync_offset ≡ left_offset (w.arrays k)) (sym same) left
                ∙ left_same (v.arrays n) (w.arrays n) (before.moves.arrays n low).same young
            | inr other ↦
                ap (λ (u : View). u.truth.resync_offset) (call.views.others n other) ∙ before.left n low (omega (arith, less, other)) young
          ];
      went = λ n p low is.
          let had = before.went n p low is in
          elim (cases_eq n m) [
            | inl same ↦
                ap (λ k. has_gone (f k) p) same ∙ call.views.went p ∙ or_right (call.views.lost p) (has_gone (w.arrays m) p) (subst (λ k. has_gone (w.arrays k) p ≡ true) same had)
            | inr other ↦ ap (λ (u : View). has_gone u p) (call.views.others n other) ∙ had
          ];
      staged = staged_more w (with_arrays w f) m xs ys (let last = call.views.low in omega (arith, last, few))
          (λ n less. (before.moves.set.arrays n (let last = call.views.low in omega (arith, less, last))).number)
          call.views.others call.views.seated.number call.views.seated.is_array before.staged adds
          (record {
            mark = unmarked;
            rows = λ young.
                let same = call.loses.only.same in
                settled_just (f m) call.views.seated.is_array young
                (eq-eqb (f m).truth.resync_offset (left_offset (f m)) (left ∙ sym (left_same (w.arrays m) (f m) same (sym same.young ∙ young))))
                call.views.seated.is_of_pool.unsynced;
          });
      settled = λ n vals spent low joined goes covers amid.
          let made : n < w.state.made = let last = call.views.low in omega (arith, low, last) in
          let was : n < v.state.made = subst (λ (s : State). n < s.made) before.same made in
          let earlier = step.still n made goes in
          let covered : IncludesSpent (w.arrays n) spent = λ y alive. step.spent n y made (covers y alive) in
          let mid = (before.moves.parts n vals spent joined was earlier covered).holds amid in
          elim (cases_eq n m) [
            | inl same ↦
                let goal : IsSynced (shape_of (f m)) m c.held =
                subst (λ k. IsSynced (shape_of (f m)) k c.held) call.views.seated.number
                ((syncs w.state mid.durable vals spent (subst (λ k. IncludesSpent (f k) spent) same covers)).settled
                (subst (λ k. ArrayInvariant w.state mid.durable (w.arrays k) vals spent b) same mid.stood.holds)) in
                subst (λ k. IsSynced (shape_of (f k)) k c.held) (sym same) goal
            | inr other ↦
                subst (λ (u : View). IsSynced (shape_of u) n c.held) (sym (call.views.others n other))
                (settled_later w b c n vals spent before.moves.set.lasting call.reads mid
                (before.settled n vals spent (omega (arith, low, other)) joined earlier covered amid))
          ];
    }
