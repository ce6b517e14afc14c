-- A commit that has copies of the book's state, with superblocks of arrays before them or none, and losses in a row.
use Rattle.std.proofs.Common.{◌≡◌, ◌⊎◌, ℕ, zero, suc, ◌+◌, ◌-◌, ◌^◌, ◌<◌, ◌≤◌, Bool, true, false, ◌==◌, ◌&&◌, ◌||◌, not, if◌then◌else◌, List, [], ◌∷◌, length, slice_get, Option, None, Some, option_map, unwrap_or, refl, sym, ap, subst, ◌∙◌, inl, inr, eq-eqb, eqb-true, le-ltb, lt-ltb, ne_eqb, arith}
use Rattle.std.proofs.lemmas.Bool.{cases_Bool, cases_lt, both_ways, and_parts, and_from}
use Rattle.std.proofs.lemmas.Option.{slice_get_past}
use Rattle.std.specs.List.{list_all, list_any}
use Rattle.std.specs.Option.{option_map_or}
use Rattle.rack.specs.Seen.{RackView}
use Rattle.rack.specs.Joins.{stays_same}
use Rattle.rack.specs.Targets.{Target, look}
use Rattle.pool_state.specs.Valid.{is_valid}
use Rattle.pool_state.specs.declared.contents.State.{State}
use Rattle.array_image.specs.Places.{log_sectors, log_slice, member_slice, place_of, slice_of}
use Rattle.array_image.specs.Record.{are_apart, is_target}
use Rattle.array_image.specs.States.{is_current, current_places}
use Rattle.log_laws.specs.View.{LogView, names, next_number}
use Rattle.log_laws.specs.Commits.{CommitCall}
use Rattle.log_laws.specs.Phases.{IsHad}
use Rattle.array_model.specs.declared.Seat.{Seat}
use Rattle.array_model.specs.declared.Seat.TheVariants.{Missing}
use Rattle.array_model.specs.View.{View, IsArray, HasFault, has_gone, is_missing_seat, is_whole_array, place_at}
use Rattle.array_model.specs.Stages.{AmongTargets}
use Rattle.array_core.specs.Seats.{gone as without}
use Rattle.array_core.specs.Slots.{slots_of}
use Rattle.array_core.specs.Staging.{AddsSupersOf}
use Rattle.array_core.proofs.StagedTargets.{targets_apart}
use Rattle.array_model.proofs.Noting.{final_is}
use Rattle.array_model.proofs.RowWrites.{places_apart}
use Rattle.raid_laws.specs.Book.{after_same, after_then}
use Rattle.raid_laws.specs.Losing.{arrays_same, arrays_then}
use Rattle.raid_laws.specs.Losses.{AddsCopies, AreCopiesOn}
use Rattle.raid_laws.specs.Moves.{AreCaused, IsHeeded, IsMarkedWhole, IsSeated, IsSet, Mends, RaisesBy}
use Rattle.raid_laws.specs.Raid.{Raid, gone_in, is_left}
use Rattle.raid_laws.proofs.Added.{names_current}
use Rattle.raid_laws.specs.Settling.{IsSuperOf}
use Rattle.raid_laws.proofs.Adding.{IsCopyFor, copies_apart, copies_from}
use Rattle.raid_laws.proofs.Agreed.{slots_count}
use Rattle.raid_laws.proofs.Changed.{seated_still}
use Rattle.raid_laws.proofs.Committed.{next_later}
use Rattle.raid_laws.proofs.Elements.{all_among, among_either, any_among, apart_append, look_among, supers_count, supers_from}
use Rattle.raid_laws.proofs.Losing.{only_gone}
use Rattle.raid_laws.proofs.Noted.{bool_same, current_few, gone_from, gone_some}
use Rattle.raid_laws.proofs.Settling.{slot_facts}
use Rattle.raid_laws.proofs.Seated.{gone_seated, listed, listed_loses, missing_of, names_joined, place_few, whole_then}
use Rattle.raid_laws.proofs.Whole.{heeded_left, heeded_whole}
use Rattle.growth_laws.specs.Losses.{LosesBook}

-- ---- losses

pub loses_same : (v : Raid) → LosesBook v v
loses_same v = record { marks = after_same v.state; plan = refl; arrays = arrays_same v; number = omega arith; events = λ n low. omega arith }

pub loses_then : (v w z : Raid) → LosesBook v w → LosesBook w z → LosesBook v z
loses_then v w z one two = record {
  marks = after_then v.state w.state z.state one.marks two.marks;
  plan = two.plan ∙ one.plan;
  arrays = arrays_then v w z one.marks.same.made one.arrays two.arrays;
  number = let a = one.number in let b = two.number in omega (arith, a, b);
  events = λ n low. let a = one.events n low in let b = two.events n (subst (λ k. n < k) (sym one.marks.same.made) low) in omega (arith, a, b);
}

-- those that are mended
pub loses_mended : (v w : Raid) (a b : RackView) → Mends v w a b → LosesBook v w
loses_mended v w a b mends = record {
  marks = mends.moves.book;
  plan = mends.moves.plan;
  arrays = mends.moves.arrays;
  number = mends.moves.number;
  events = mends.moves.events;
}

-- ---- numbers

-- one more, or the last one
pub raised_up : (n : ℕ) → next_number n ≤ n + 1
raised_up n = elim (cases_lt n (2 ^ 63 - 1)) [
  | inl room ↦ let e : next_number n ≡ n + 1 = ap (λ (z : Bool). if z then n + 1 else n) (lt-ltb n (2 ^ 63 - 1) room) in omega (arith, e)
  | inr last ↦ let e : next_number n ≡ n = ap (λ (z : Bool). if z then n + 1 else n) (le-ltb n (2 ^ 63 - 1) last) in omega (arith, e)
]

-- ---- what such a commit asks

-- What is to be committed: superblocks of members that aren't missing, each sector once, and copies of the state on all places that it has as
-- current.
pub record AreStated (v : Raid) (takes : List ℕ) (supers added : List Target) (x : RackView) : Type 0 where
  pub set : IsSet v x
  pub heeded : IsHeeded v
  pub takes_are : takes ≡ current_places v.state
  pub only : (y : Target) → AmongTargets y supers → IsSuperOf v v.state.made y
  pub apart : are_apart supers ≡ true
  pub copies : AddsCopies v.state takes supers added

-- a current place is one of the list, and the state is valid for it; its log slice is there
pub current_place : (v : Raid) (x : RackView) (p : ℕ) → IsSet v x → IsHeeded v → is_current v.state p ≡ true
    → (is_valid v.state p ≡ true) × (p < 16) × (x.sectors (log_slice p) ≡ log_sectors)
current_place v x p set heeded current = (set.valid p low, current_few v.state p set.few current, set.logs p (heeded_left v p heeded current))
  where
    low : p < length v.state.drives.items
    low =
        elim (cases_lt p (length v.state.drives.items)) [
          | inl below ↦ below
          | inr past ↦
              absurd (both_ways (is_current v.state p)
              (ap (λ o. option_map_or (λ drive. not drive.missing) o false) (slice_get_past v.state.drives.items p past)) current)
        ]

-- an element of a list of current places
pub listed_current : (s : State) (on : List ℕ) (j p : ℕ) → on ≡ current_places s → slice_get on j ≡ Some p → is_current s p ≡ true
listed_current s on j p on_is at = sym (names_current s p) ∙ ap (λ ps. names ps p) (sym on_is) ∙ named on j at
  where
    or_last : (b c : Bool) → c ≡ true → (b || c) ≡ true
    or_last true c is = refl
    or_last false c is = is

    named : (xs : List ℕ) (j : ℕ) → slice_get xs j ≡ Some p → names xs p ≡ true
    named [] j at = absurd (let bad : None ≡ Some p = at in cc)
    named (q ∷ xs) zero at = ap (λ b. b || names xs p) (eq-eqb q p (ap (λ o. unwrap_or o p) at))
    named (q ∷ xs) (suc j) at = or_last (q == p) (names xs p) (named xs j at)

-- the superblocks of one array are of members that aren't missing, each sector once
pub supers_of : (v : Raid) (m : ℕ) (supers : List Target) → m < v.state.made → IsArray (v.arrays m) → AddsSupersOf (v.arrays m) [] supers
    → ((y : Target) → AmongTargets y supers → IsSuperOf v v.state.made y) × (are_apart supers ≡ true) × (length supers ≤ 16)
supers_of v m supers low is_array adds =
    let u = v.arrays m in (
      λ y among.
          let from = supers_from u.number u.truth (slots_of u) adds.targets y adds.supers (subst (AmongTargets y) adds.appended among) in
          let at = slot_facts u from.index from.slot is_array from.at in
          record {
            array = m;
            low = low;
            position = from.index;
            inside = at.0;
            there = λ missing. both_ways true (sym (ap (λ o. is_missing_seat (unwrap_or o Missing)) (sym at.2 ∙ missing)) ∙ from.there) refl;
            disk = from.on.disk ∙ ap (λ p. member_slice p u.number) at.1;
            sector = from.on.sector;
          },
      ap are_apart adds.appended
          ∙ targets_apart u.number u.truth is_array.few (slots_of u) adds.targets
          (λ j k s t one two same.
          let first = slot_facts u j s is_array one in
          let second = slot_facts u k t is_array two in
          places_apart u j k is_array first.0 second.0 (sym first.1 ∙ same ∙ second.1))
          adds.supers,
      let few = supers_count u.number u.truth (slots_of u) adds.targets adds.supers in
          let members = slots_count u is_array.seats is_array.devices in
          let most = (final_is u is_array).count in
          let all = ap length adds.appended in
          omega (arith, few, members, most, all),
    )

-- where a target is that is to be committed: on a current place, in a slice that is there
record IsPlaced (v : Raid) (x : RackView) (y : Target) : Type 0 where
  place : ℕ
  few : place < 16
  current : is_current v.state place ≡ true
  on : place_of y.disk ≡ place
  valid : is_target y ≡ true
  had : IsHad x y.disk y.sector

or_second : (b c : Bool) → c ≡ true → (b || c) ≡ true
or_second true c is = refl
or_second false c is = is

-- a superblock is
super_placed : (v : Raid) (x : RackView) (y : Target) → IsSet v x → IsHeeded v → IsSuperOf v v.state.made y → IsPlaced v x y
super_placed v x y set heeded super =
    let u = v.arrays super.array in
    let p = place_at u super.position in
    let seated = set.arrays super.array super.low in
    let few = place_few u super.position seated.is_array super.inside in
    let low = super.low in
    let most = set.most in
    let number = seated.number in
    let disk = super.disk in
    let sector = super.sector in
    let room = seated.slices.sectors super.position super.inside super.there in
    record {
      place = p;
      few = few;
      current = (and_parts (is_current v.state p) (not (has_gone u p)) (seat_there (slice_get u.seats super.position) (is_current v.state p && not (has_gone u p)) super.there (seated.marks super.position super.inside))).0;
      on = omega (arith, disk, number, low, most);
      valid =
          and_from _ _ (lt-ltb y.disk 272 (omega (arith, disk, number, low, most, few)))
          (ap (λ b. not b || (y.sector == 0)) (ne_eqb (slice_of y.disk) 0 (λ none. omega (arith, none, disk, number, low, most))));
      had = (
        subst (λ e. e < x.disks) (sym disk) (seated.slices.disks super.position super.inside super.there),
        subst (λ e. y.sector < x.sectors e) (sym disk) (omega (arith, room, sector)),
      );
    }
  where
    seat_there : (o : Option Seat) (b : Bool) → (o ≡ Some Missing → ⊥) → option_map is_missing_seat o ≡ Some (not b) → b ≡ true
    seat_there None b there is = absurd (let bad : None ≡ Some (not b) = is in cc)
    seat_there (Some seat) true there is = refl
    seat_there (Some seat) false there is = absurd (there (missing_of (Some seat) false false refl is))

-- and a copy
copy_placed : (v : Raid) (x : RackView) (takes : List ℕ) (y : Target) → IsSet v x → IsHeeded v → takes ≡ current_places v.state → IsCopyFor v.state takes y → IsPlaced v x y
copy_placed v x takes y set heeded takes_are copy =
    let p = copy.place in
    let current : is_current v.state p ≡ true = sym (names_current v.state p) ∙ ap (λ ps. names ps p) (sym takes_are) ∙ copy.named in
    let at = current_place v x p set heeded current in
    let few = at.1 in
    let disk = copy.copy.disk in
    let sector = copy.copy.sector in
    let disks = set.disks in
    let sectors = at.2 in
    record {
      place = p;
      few = few;
      current = current;
      on = omega (arith, disk);
      valid = and_from _ _ (lt-ltb y.disk 272 (omega (arith, disk, few))) (or_second (not (slice_of y.disk == 0)) (y.sector == 0) (eq-eqb y.sector 0 sector));
      had = (omega (arith, disk, few, disks), subst (λ e. y.sector < x.sectors e) (sym disk) (omega (arith, sectors, sector)));
    }

module _ (v : Raid) (takes : List ℕ) (supers added : List Target) (x : RackView) (stated : AreStated v takes supers added x) where
  -- so each target is
  stated_placed : (y : Target) → AmongTargets y added → IsPlaced v x y
  stated_placed y among =
      elim (among_either y supers stated.copies.targets (subst (AmongTargets y) stated.copies.appended among)) [
        | inl super ↦ super_placed v x y stated.set stated.heeded (stated.only y super)
        | inr copy ↦ copy_placed v x takes y stated.set stated.heeded stated.takes_are (copies_from v.state takes stated.copies.targets y stated.copies.copies copy)
      ]

  pub stated_valid : list_all is_target added ≡ true
  stated_valid = all_among is_target added (λ y among. (stated_placed y among).valid)

  pub stated_apart : are_apart added ≡ true
  unfolding current_places
  stated_apart =
      ap are_apart stated.copies.appended
      ∙ apart_append supers stated.copies.targets stated.apart
      (copies_apart v.state (is_current v.state) 0 (length v.state.drives.items) stated.copies.targets
      (subst (λ ps. AreCopiesOn v.state ps stated.copies.targets) stated.takes_are stated.copies.copies))
      (λ y z one two disk sector.
      let high = (stated.only y one).sector in
      let low = (copies_from v.state takes stated.copies.targets z stated.copies.copies two).copy.sector in
      omega (arith, high, low, sector))

  pub stated_had : (d s : ℕ) (w : List ℕ) → look added d s ≡ Some w → IsHad x d s
  stated_had d s w is =
      let found = look_among added d s w is in
      let had = (stated_placed found.0 found.1).had in
      (subst (λ e. e < x.disks) found.2 had.0, subst (λ e. s < x.sectors e) found.2 (subst (λ t. t < x.sectors found.0.disk) found.3 had.1))

  -- a place that has one is current
  stated_current : (p : ℕ) → list_any (λ y. place_of y.disk == p) added ≡ true → is_current v.state p ≡ true
  stated_current p any =
      let at = any_among (λ y. place_of y.disk == p) added any in
      let placed = stated_placed at.0 at.1 in
      subst (λ q. is_current v.state q ≡ true) (sym placed.on ∙ eqb-true (place_of at.0.disk) p at.2) placed.current

-- ---- the commit

-- A commit of a state, of which the book has made already what it is to be, by the logs of some of its current places; and who went in it is
-- noted in all arrays.
pub record IsStating (v : Raid) (on takes gone : List ℕ) (supers : List Target) (l : LogView) (f : ℕ → View) (b c : RackView) : Type 0 where
  pub stated : AreStated v takes supers l.added b
  pub number : l.number ≡ v.number
  pub fewer : (p : ℕ) → names on p ≡ true → is_current v.state p ≡ true
  pub call : CommitCall l on gone b c
  pub arrays : (n : ℕ) → n < v.state.made → f n ≡ without gone (v.arrays n)

-- the book after it
abbrev pub after_stating : Raid → ℕ → (ℕ → View) → Raid
after_stating v number f = record v { number = number; arrays = f }

-- a whole array is so once places are noted as gone, or one of them is current
whole_without : (s : State) (n : ℕ) (u : View) (gone : List ℕ) (x : RackView) → IsSeated s n u x → is_whole_array u ≡ true
    → (is_whole_array (without gone u) ≡ true) ⊎ ((p : ℕ) × (is_current s p ≡ true) × (names gone p ≡ true))
unfolding listed
whole_without s n u gone x seated all =
    whole_then s n u (listed u gone) (names gone) x seated
    (record { number = refl; truth = refl; devices = refl; resync = refl; young = refl; marked = refl })
    (listed_loses u gone seated.is_array).seats all

module _ (v : Raid) (on takes gone : List ℕ) (supers : List Target) (l : LogView) (f : ℕ → View) (b c : RackView) (commit : IsStating v on takes gone supers l f b c) where
  -- who goes in it is one of those it writes to
  stating_current : (p : ℕ) → names gone p ≡ true → is_current v.state p ≡ true
  stating_current p is =
      elim (commit.call.gone.called p is) [
        | inl named ↦ commit.fewer p named
        | inr any ↦ stated_current v takes supers l.added b commit.stated p any
      ]

  stating_few : (p : ℕ) → names gone p ≡ true → p < 16
  stating_few p is = current_few v.state p commit.stated.set.few (stating_current p is)

  -- after it those have gone that went in it
  stating_gone : (p : ℕ) → gone_in (after_stating v (next_number l.number) f) p ≡ true → names gone p ≡ true
  stating_gone p is =
      let at = gone_some (after_stating v (next_number l.number) f) p is in
      let n = at.1.0 in
      sym (ap (λ (u : View). has_gone u p) (commit.arrays n at.1.1) ∙ names_joined (v.arrays n).went gone p at.0
      ∙ ap (λ (ps : List ℕ). names ps p || names gone p) (commit.stated.heeded n at.1.1)) ∙ at.1.2

  stating_went : (n p : ℕ) → n < v.state.made → gone_in (after_stating v (next_number l.number) f) p ≡ names gone p
  stating_went n p low =
      bool_same (gone_in (after_stating v (next_number l.number) f) p) (names gone p) (stating_gone p)
      (λ is.
      gone_from (after_stating v (next_number l.number) f) p n (stating_few p is) low
      (ap (λ (u : View). has_gone u p) (commit.arrays n low) ∙ names_joined (v.arrays n).went gone p (stating_few p is)
      ∙ ap (λ (ps : List ℕ). names ps p || names gone p) (commit.stated.heeded n low) ∙ is))

  stating_left : (p : ℕ) → is_left (after_stating v (next_number l.number) f) p ≡ true → is_left v p ≡ true
  stating_left p is =
      heeded_left v p commit.stated.heeded (and_parts (is_current v.state p) (not (gone_in (after_stating v (next_number l.number) f) p)) is).0

  stating_cause : (p : ℕ) → is_left v p ≡ true → is_left (after_stating v (next_number l.number) f) p ≡ false → HasFault b c p
  stating_cause p was now =
      let current = (and_parts (is_current v.state p) (not (gone_in v p)) was).0 in
      elim (cases_Bool (gone_in (after_stating v (next_number l.number) f) p)) [
        | inl is ↦ commit.call.gone.cause p (stating_gone p is)
        | inr none ↦
            absurd (both_ways (is_left (after_stating v (next_number l.number) f) p) now
            (and_from (is_current v.state p) (not (gone_in (after_stating v (next_number l.number) f) p)) current (ap not none)))
      ]

  pub stating_caused : AreCaused v (after_stating v (next_number l.number) f) b c
  stating_caused = record { left = stating_left; cause = stating_cause }

  -- a marked array is whole still, or a current place went
  stating_whole : (n : ℕ) → n < v.state.made → IsMarkedWhole (after_stating v (next_number l.number) f) n
  stating_whole n low is =
      let u = v.arrays n in
      let seated = commit.stated.set.arrays n low in
      let was = heeded_whole v n commit.stated.heeded (commit.stated.set.marked n low) (ap (λ (z : View). z.marked) (sym (commit.arrays n low)) ∙ is) in
      elim (whole_without v.state n u gone b seated was) [
        | inl all ↦ inl (ap is_whole_array (commit.arrays n low) ∙ all)
        | inr lost ↦ inr (lost.0, lost.1, stating_went n lost.0 low ∙ lost.2)
      ]

  pub stating_set : IsSet (after_stating v (next_number l.number) f) c
  stating_set =
      let set = commit.stated.set in
      record {
        fit = commit.call.stays.fit;
        lasting = commit.call.stays.lasting set.lasting;
        disks = commit.call.stays.disks ∙ set.disks;
        few = set.few;
        most = set.most;
        valid = set.valid;
        logs = λ p left. commit.call.stays.sectors (log_slice p) ∙ set.logs p (stating_left p left);
        arrays = λ n low.
            subst (λ (u : View). IsSeated v.state n u c) (sym (commit.arrays n low))
            (gone_seated v.state n (v.arrays n) gone c (stays_same c commit.call.stays.fit) (λ p current. current_few v.state p set.few current)
            (seated_still v.state n (v.arrays n) b c commit.call.stays (set.arrays n low)));
        marked = stating_whole;
      }

  -- losses alone come to the book
  pub stating_loses : LosesBook v (after_stating v (next_number l.number) f)
  stating_loses = record {
    marks = after_same v.state;
    plan = refl;
    arrays = λ n low. only_gone (v.arrays n) (f n) gone (commit.stated.set.arrays n low).is_array (commit.arrays n low);
    number = let more = next_later l.number in let same = commit.number in omega (arith, more, same);
    events = λ n low. let e = ap (λ (u : View). u.truth.events) (commit.arrays n low) in omega (arith, e);
  }

  pub stating_raises : RaisesBy 1 v (after_stating v (next_number l.number) f)
  stating_raises = record {
    number = let up = raised_up l.number in let same = commit.number in omega (arith, up, same);
    epoch = omega arith;
    events = λ n low. let e = ap (λ (u : View). u.truth.events) (commit.arrays n low) in omega (arith, e);
  }
