-- A call that is one commit, from what it has staged to the array after it.
use Rattle.std.proofs.Common.{length, ◌<◌, ◌≤◌, ◌+◌, ◌-◌, slice_get, option_map, unwrap_or, ◌∷◌, not, suc, zero, ◌≡◌, ℕ, Bool, true, false, ◌||◌, if◌then◌else◌, List, [], ◌++◌, Some, None, refl, sym, ap, subst, ◌∙◌, ltb-false, le-ltb, arith}
use Rattle.std.proofs.lemmas.Bool.{both_ways}
use Rattle.std.proofs.lemmas.List.{length-append}
use Rattle.std.specs.List.{list_all}
use Rattle.rack.specs.Seen.{RackView}
use Rattle.rack.specs.Targets.{Target, look}
use Rattle.rack.specs.Sequences.{OnlyReads}
use Rattle.shr_base.specs.declared.Id.{Id}
use Rattle.md_super.specs.declared.superblock.Super.{Super}
use Rattle.array_image.specs.Places.{data_sector}
use Rattle.array_image.specs.Record.{are_apart, is_target}
use Rattle.array_image.specs.Arrays.{Member}
use Rattle.array_image.specs.Spent.{wanting}
use Rattle.log_laws.specs.View.{LogView, names, next_number}
use Rattle.log_laws.specs.Commits.{CommitCall}
use Rattle.log_laws.specs.Phases.{IsHad}
use Rattle.array_model.specs.declared.Seat.{Seat}
use Rattle.array_model.specs.declared.Seat.TheVariants.{Missing}
use Rattle.array_model.specs.View.{View, IsArray, LosesPlaces, is_missing_seat, place_at, rows_of, seat_unless}
use Rattle.array_model.specs.Members.{HasSlices, IsSameButSeats, Notes, members_of, slice_on}
use Rattle.array_model.proofs.Spared.{wanting_more}
use Rattle.array_model.proofs.Views.{loses_then, members_then, same_view, same_view_then}
use Rattle.array_core.specs.declared.Change.{Change}
use Rattle.array_core.specs.declared.slots.Slot.{Slot}
use Rattle.array_core.specs.Slots.{place_by, slots_of}
use Rattle.array_core.specs.Staging.{AddsSupersOf, AreSupersOn, present}
use Rattle.array_core.specs.Superblocks.{adopted}
use Rattle.array_core.specs.TruthHeld.{HasFewBits}
use Rattle.array_core.specs.Writing.{KeepsElsewhere}
use Rattle.array_core.proofs.Staged.{no_device, slot_on, slots_zipped}
use Rattle.sync_laws.proofs.Answering.{row_elsewhere}
use Rattle.reshape_laws.specs.Ahead.{changed}
use Rattle.reshape_laws.specs.Reshapes.{Reshapes, lacks_two}
use Rattle.reshape_laws.proofs.Adopts.{KeepsMembers, adopted_next, next_same}
use Rattle.reshape_laws.proofs.Committing.{Step, all_apart, committed_reshapes, on_members}
use Rattle.reshape_laws.proofs.LoggedOn.{AreOnMembers, all_had, all_valid}
use Rattle.reshape_laws.proofs.Truths.{unspent_before}

-- ---- a superblock is among the targets

on_length : (number : ℕ) (t : Super) (slots : List Slot) (xs : List Target) → AreSupersOn number t slots xs → length xs ≡ length slots
on_length number t [] [] are = refl
on_length number t [] (x ∷ xs) are = absurd are
on_length number t (s ∷ slots) [] are = absurd are
on_length number t (s ∷ slots) (x ∷ xs) are = ap suc (on_length number t slots xs are.1)

present_some : (slots : List Slot) (k : ℕ) (s : Slot) → slice_get slots k ≡ Some s → is_missing_seat s.seat ≡ false → 0 < length (present slots)
present_some [] k s is there = absurd (let bad : None ≡ Some s = is in cc)
present_some (u ∷ slots) zero s is there = by (is_missing_seat u.seat) (ap (λ o. is_missing_seat (unwrap_or (option_map (λ (x : Slot). x.seat) o) u.seat)) is ∙ there)
  where
    by : (b : Bool) → b ≡ false → 0 < length (if not b then u ∷ present slots else present slots)
    by true off = absurd (both_ways true off refl)
    by false off = omega arith
present_some (u ∷ slots) (suc k) s is there = more (is_missing_seat u.seat) (present_some slots k s is there)
  where
    more : (b : Bool) → 0 < length (present slots) → 0 < length (if not b then u ∷ present slots else present slots)
    more true some = some
    more false some = omega arith

some_supers : (g : View) (xs : List Target) → IsArray g → AddsSupersOf g [] xs → (k : ℕ) → k < g.truth.raid_disks → is_missing_seat (slot_on g k).seat ≡ false → 0 < length xs
some_supers g xs is_array adds k low there =
    let at : slice_get (slots_of g) k ≡ Some (slot_on g k) =
    slots_zipped (place_by g.truth) 0 g.truth.raid_disks g.seats g.devices is_array.seats is_array.devices k low
    ∙ ap (λ (j : ℕ). Some (record { place = place_by g.truth j; seat = unwrap_or (slice_get g.seats k) Missing; device = unwrap_or (slice_get g.devices k) no_device })) (let e : 0 + k ≡ k = omega arith in e) in
    let long = on_length g.number g.truth (present (slots_of g)) adds.targets adds.supers in
    let same : length xs ≡ length adds.targets = ap length adds.appended in
    let some = present_some (slots_of g) k (slot_on g k) at there in
    omega (arith, long, same, some)

-- ---- what the commit asks of its targets

module _ (v : View) (t : Super) (seats : List Seat) (devices : List Id) (resync : ℕ) (joins : Member → Type 0) (supers own_data xs : List Target) (a b : RackView)
    (step : Step v t seats devices resync joins own_data a b) (adds : AddsSupersOf (changed v t seats devices resync v.marked) [] supers) (added : xs ≡ supers ++ own_data) where
  pub call_on : AreOnMembers (changed v t seats devices resync v.marked) xs
  call_on = subst (AreOnMembers (changed v t seats devices resync v.marked)) (sym added) (on_members v t seats devices resync joins supers own_data a b step adds)

  pub call_some : 0 < length xs
  call_some =
      let some = some_supers (changed v t seats devices resync v.marked) supers step.next adds step.some step.some_low step.some_there in
      let long : length xs ≡ length supers + length own_data = ap length added ∙ length-append supers own_data in
      omega (arith, some, long)

  pub call_valid : list_all is_target xs ≡ true
  call_valid = all_valid (changed v t seats devices resync v.marked) xs step.next call_on

  pub call_apart : are_apart xs ≡ true
  call_apart = ap are_apart added ∙ all_apart v t seats devices resync joins supers own_data a b step adds

  pub call_had : HasSlices (changed v t seats devices resync v.marked) a → OnlyReads a b → (d s : ℕ) (u : List ℕ) → look xs d s ≡ Some u → IsHad b d s
  call_had slices reads = all_had (changed v t seats devices resync v.marked) a b xs slices reads.stays call_on

-- no other slice is written
pub call_elsewhere : (v : View) (t : Super) (seats : List Seat) (devices : List Id) (resync : ℕ) (joins : Member → Type 0) (supers own_data : List Target) (a b c : RackView) (l : LogView) (on lost : List ℕ)
    → Step v t seats devices resync joins own_data a b → AddsSupersOf (changed v t seats devices resync v.marked) [] supers → l.added ≡ supers ++ own_data
    → OnlyReads a b → CommitCall l on lost b c
    → KeepsElsewhere false (changed v t seats devices resync v.marked) on a c
call_elsewhere v t seats devices resync joins supers own_data a b c l on lost step adds added reads commit =
    row_elsewhere (changed v t seats devices resync v.marked) l on lost a b c step.next.few reads
    (λ d s u pay.
    let at = call_on v t seats devices resync joins supers own_data l.added a b step adds added d s u pay in
    record { position = at.position; low = at.low; there = at.there; disk = at.disk; sector = at.sector })
    commit

-- ---- a call that leaves the array its members

-- the superblocks that are staged are those of the next array
pub staged_next : (v : View) (t : Super) (c : Change) (x y : List Target) → IsArray v → KeepsMembers v.truth t → c ≡ record { truth = t; place = None; to = 0 } → x ≡ []
    → AddsSupersOf (adopted c v) x y → AddsSupersOf (record v { truth = t }) [] y
staged_next v t c x y is_array keeps change empty adds =
    subst (λ (u : View). AddsSupersOf u [] y)
    (ap (λ (d : Change). adopted d v) change ∙ adopted_next v v t is_array (same_view v) keeps)
    (subst (λ xs. AddsSupersOf (adopted c v) xs y) empty adds)

-- whom it lacks is whom it lacked before the change
pub next_lacks : (v z w : View) (t : Super) (c : Change) → IsSameButSeats v z → IsArray z → KeepsMembers v.truth t → c ≡ record { truth = t; place = None; to = 0 } → w ≡ adopted c z
    → lacks_two w ≡ lacks_two z
next_lacks v z w t c same z_array keeps change adopts =
    ap lacks_two (adopts ∙ ap (λ (d : Change). adopted d z) change ∙ adopted_next v z t z_array same keeps)
    ∙ (λ i. lacks_two (record z { truth = record t { size = size i; raid_disks = disks i; roles = roles i } }))
  where
    size : t.size ≡ z.truth.size
    size = keeps.size ∙ sym (ap (λ (u : Super). u.size) same.truth)

    disks : t.raid_disks ≡ z.truth.raid_disks
    disks = keeps.disks ∙ sym (ap (λ (u : Super). u.raid_disks) same.truth)

    roles : t.roles ≡ z.truth.roles
    roles = keeps.roles ∙ sym (ap (λ (u : Super). u.roles) same.truth)

-- an array that lacks at most one after losses did so before them
pub two_before : (v u : View) (a b : RackView) → Notes v u a b → lacks_two u ≡ false → lacks_two v ≡ false
two_before v u a b notes few =
    let t = v.truth.size - 1 in
    let more : wanting (v.truth.size - 1) (members_of v) ≤ wanting (v.truth.size - 1) (members_of u) =
    subst (λ (ms : List Member). wanting (v.truth.size - 1) (members_of v) ≤ wanting (v.truth.size - 1) ms) (sym (members_then v u notes.lost notes.same.truth notes.loses))
    (wanting_more notes.lost (v.truth.size - 1) (members_of v)) in
    let one : wanting (u.truth.size - 1) (members_of u) ≤ 1 = ltb-false 1 (wanting (u.truth.size - 1) (members_of u)) few in
    let same : wanting (u.truth.size - 1) (members_of u) ≡ wanting (v.truth.size - 1) (members_of u) = ap (λ (s : Super). wanting (s.size - 1) (members_of u)) notes.same.truth in
    le-ltb 1 (wanting (v.truth.size - 1) (members_of v)) (omega (arith, more, one, same))

-- THE WHOLE CALL: v when it began, u after its reads, z once the places that went in the commit are noted, w in the end
pub call_reshapes : (v u z w : View) (t : Super) (a b c : RackView) (l : LogView) (on lost : List ℕ) (supers own_data : List Target) (number after : ℕ) (change : Change) (answered : Bool)
    → (step : Step v t v.seats v.devices v.resync (λ m. ⊥) own_data a b) → AddsSupersOf (record v { truth = t }) [] supers → l.added ≡ supers ++ own_data
    → KeepsMembers v.truth t → lacks_two v ≡ false → v.resync ≡ rows_of v → (HasFewBits v.truth → HasFewBits t)
    → HasSlices v a → OnlyReads a b → Notes v u a b → CommitCall l on lost b c → IsSameButSeats u z → LosesPlaces u z (names lost) → IsArray z
    → change ≡ record { truth = t; place = None; to = 0 } → w ≡ adopted change z → l.number ≡ number → after ≡ next_number l.number
    → Reshapes v (record v { truth = t }) w number after on a c answered
call_reshapes v u z w t a b c l on lost supers own_data number after change answered step adds added keeps few synced bits slices reads notes commit same loses z_array change_is adopts number_is after_is =
    let w_is : w ≡ adopted (record { truth = t; place = None; to = 0 }) z = adopts ∙ ap (λ (d : Change). adopted d z) change_is in
    let same_v = same_view_then v u z notes.same same in
    let seats : w ≡ record z { truth = t } = w_is ∙ adopted_next v z t z_array same_v keeps in
    let both = loses_then v u z notes.lost (names lost) notes.same.truth notes.loses loses in
    committed_reshapes v u w t v.seats v.devices v.resync (λ m. ⊥) a b c l on lost supers own_data number after step adds added
    (record {
      fit = slices.fit;
      lasting = slices.lasting;
      disks = λ k low there. subst (λ d. d < a.disks) (slice_is k) (slices.disks k (low_before k low) there);
      sectors = λ k low there.
          subst (λ d. data_sector + t.size ≤ a.sectors d) (slice_is k)
          (subst (λ n. data_sector + n ≤ a.sectors (slice_on v k)) (sym keeps.size) (slices.sectors k (low_before k low) there));
    })
    reads notes commit
    (next_same v z w t z_array same_v keeps w_is)
    (subst (λ (x : View). LosesPlaces (record v { truth = t }) x (λ p. names lost p || notes.lost p)) (sym seats)
    (record { seats = λ n. both.seats n ∙ ap (λ (p : ℕ). option_map (seat_unless (λ q. names lost q || notes.lost q) p) (slice_get v.seats n)) (place_is n); went = both.went }))
    number_is after_is answered
    (λ rows y low alive. unspent_before v step.is_array few synced y low)
    bits
  where
    place_is : (n : ℕ) → place_at v n ≡ place_at (record v { truth = t }) n
    place_is n = λ i. place_at (record v { truth = record t { roles = sym keeps.roles i } }) n

    slice_is : (n : ℕ) → slice_on v n ≡ slice_on (record v { truth = t }) n
    slice_is n = λ i. slice_on (record v { truth = record t { roles = sym keeps.roles i } }) n

    low_before : (k : ℕ) → k < t.raid_disks → k < v.truth.raid_disks
    low_before k low = subst (λ n. k < n) keeps.disks low
