-- A young array is made: this is all that its commit makes of the book, where its slices hold rows that agree.
use Rattle.std.proofs.Common.{◌≡◌, ◌⊎◌, ℕ, suc, ◌+◌, ◌<◌, Bool, true, false, ◌==◌, ◌&&◌, ◌||◌, not, if◌then◌else◌, List, [], ◌∷◌, length, slice_get, Some, None, option_map, unwrap_or, refl, sym, ap, subst, ◌∙◌, inl, inr, arith, eq-eqb, eqb-true, ne_eqb}
use Rattle.std.proofs.lemmas.Bool.{and_parts, both_ways, cases_lt}
use Rattle.std.proofs.lemmas.Map.Views.{any-filter_same}
use Rattle.std.specs.List.{list_any, range_with_len}
use Rattle.rack.specs.Seen.{IsLive, RackView}
use Rattle.rack.specs.Targets.{look, Target}
use Rattle.array_image.specs.Places.{log_slice, member_slice, place_of, super_sector}
use Rattle.array_image.specs.States.{is_current}
use Rattle.array_model.specs.declared.Seat.{Seat}
use Rattle.array_model.specs.declared.Seat.TheVariants.{Missing, Rebuilding, Whole}
use Rattle.array_model.specs.Stages.{AmongTargets, IsStateOf}
use Rattle.array_model.specs.Says.{IsOpen}
use Rattle.array_model.specs.View.{IsArray, has_gone, is_missing_seat, place_at, present, shape_of, View}
use Rattle.array_core.specs.Seats.{gone as without}
use Rattle.array_core.specs.Slots.{slots_of}
use Rattle.array_core.specs.Staging.{AddsSupersOf}
use Rattle.array_core.specs.Superblocks.{left_offset}
use Rattle.log_laws.specs.View.{names, next_number}
use Rattle.raid_laws.specs.Marking.{NoData}
use Rattle.raid_laws.specs.Moves.{IsHeeded, IsSet}
use Rattle.raid_laws.specs.Raid.{AreLive, gone_in, Raid}
use Rattle.raid_laws.proofs.Added.{names_current}
use Rattle.raid_laws.proofs.Adding.{copies_from, IsCopyFor}
use Rattle.raid_laws.proofs.Brought.{copies_bring, copies_own}
use Rattle.raid_laws.proofs.Committed.{raised_more, raised_range}
use Rattle.raid_laws.proofs.Elements.{among_either, among_first, any_among, apart_found, look_among, look_lacks, supers_from}
use Rattle.raid_laws.proofs.Losing.{only_gone}
use Rattle.raid_laws.proofs.Noted.{current_few}
use Rattle.raid_laws.proofs.Restated.{IsStaged}
use Rattle.raid_laws.proofs.Seated.{place_few}
use Rattle.raid_laws.proofs.Settling.{slot_facts}
use Rattle.raid_laws.proofs.Whole.{heeded_gone, heeded_left}
use Rattle.raid_laws.proofs.Written.{opened, state_of}
use Rattle.transition_laws.specs.Changes.{changed, makes}
use Rattle.transition_laws.specs.Losses.{IsRunOf, MakesLosses}
use Rattle.transition_laws.specs.Makes.{Makes}
use Rattle.transition_laws.specs.Making.{FitsMake}
use Rattle.transition_laws.proofs.Committing.{commits, IsCommitting, run_after}
use Rattle.transition_laws.proofs.MadeMakes.{IsComing, made_makes, with_made}
use Rattle.transition_laws.proofs.RunsOf.{run_loses, run_of_itself}
use Rattle.growth_laws.specs.Growing.{AnyValues, MakesTurn}
use Rattle.growth_laws.specs.Stating.{CommitsState}
use Rattle.growth_laws.proofs.Made.{IsUnzeroed, made_heeded, made_set, MayCome}
use Rattle.growth_laws.proofs.Stating.{AreStated, stated_apart, supers_of}
use Rattle.growth_laws.proofs.Turning.{turn_then}

-- a member that is there
seat_left : (seats : List Seat) → 0 < present seats → (k : ℕ) × (k < length seats) × (is_missing_seat (unwrap_or (slice_get seats k) Missing) ≡ false)
seat_left [] some = absurd (omega (arith, some))
seat_left (Whole ∷ seats) some = (0, omega arith, refl)
seat_left (Rebuilding to ∷ seats) some = (0, omega arith, refl)
seat_left (Missing ∷ seats) some = let rest = seat_left seats some in (suc rest.0, omega (arith, rest.1), rest.2)

module _ (v w : Raid) (next : View) (supers : List Target) (b c : RackView) (set : IsSet v b) (heeded : IsHeeded v) (may : MayCome v next b) (fresh : IsUnzeroed next)
    (adds : AddsSupersOf next [] supers) (commit : CommitsState (changed (makes next) v) w supers b c) (fits : FitsMake v.state v.state.made next b) where
  abbrev y : Raid
  y = changed (makes next) v

  own_view : (changed (makes next) v).arrays v.state.made ≡ next
  own_view = ap (λ (t : Bool). if t then next else v.arrays v.state.made) (eq-eqb v.state.made v.state.made refl)

  other_view : (k : ℕ) → k < v.state.made → (changed (makes next) v).arrays k ≡ v.arrays k
  other_view k low = ap (λ (t : Bool). if t then next else v.arrays k) (ne_eqb k v.state.made (λ is. omega (arith, is, low)))

  is_array : IsArray next
  is_array = may.seated.is_array

  next_set : IsSet (changed (makes next) v) b
  next_set = made_set v next b may heeded set

  next_heeded : IsHeeded (changed (makes next) v)
  next_heeded = made_heeded v next heeded may.went

  named : (p : ℕ) → names commit.on p ≡ is_current v.state p
  named p = ap (λ ps. names ps p) commit.on_is ∙ names_current (with_made v.state) p

  -- ---- its targets

  -- the superblock of a member that is there
  record IsNew (t : Target) : Type 0 where
    position : ℕ
    inside : position < next.truth.raid_disks
    current : is_current v.state (place_at next position) ≡ true
    there : slice_get next.seats position ≡ Some Missing → ⊥
    disk : t.disk ≡ member_slice (place_at next position) v.state.made
    sector : t.sector ≡ super_sector

  new_super : (t : Target) → AmongTargets t supers → IsNew t
  new_super t among =
      let from = supers_from next.number next.truth (slots_of next) adds.targets t adds.supers (subst (AmongTargets t) adds.appended among) in
      let at = slot_facts next from.index from.slot is_array from.at in
      let marks : Some (is_missing_seat from.slot.seat) ≡ Some (not (is_current v.state (place_at next from.index) && not (has_gone next (place_at next from.index)))) =
      sym (ap (option_map is_missing_seat) at.2) ∙ may.seated.marks from.index at.0 in
      record {
        position = from.index;
        inside = at.0;
        current = (and_parts (is_current v.state (place_at next from.index)) (not (has_gone next (place_at next from.index)))
            (not_false (is_current v.state (place_at next from.index) && not (has_gone next (place_at next from.index))) (sym (ap (λ o. unwrap_or o true) marks) ∙ from.there))).0;
        there = λ missing. both_ways true (sym (ap (λ o. is_missing_seat (unwrap_or o Missing)) (sym at.2 ∙ missing)) ∙ from.there) refl;
        disk = from.on.disk ∙ ap (λ p. member_slice p next.number) at.1 ∙ ap (member_slice (place_at next from.index)) may.seated.number;
        sector = from.on.sector;
      }
    where
      not_false : (z : Bool) → not z ≡ false → z ≡ true
      not_false true is = refl
      not_false false is = sym is

  target : (t : Target) → AmongTargets t commit.log.added → IsNew t ⊎ IsCopyFor (with_made v.state) commit.on t
  target t among =
      elim (among_either t supers commit.copies.targets (subst (AmongTargets t) commit.copies.appended among)) [
        | inl super ↦ inl (new_super t super)
        | inr copy ↦ inr (copies_from (with_made v.state) commit.on commit.copies.targets t commit.copies.copies copy)
      ]

  few_place : (t : Target) (new : IsNew t) → place_at next new.position < 16
  few_place t new = place_few next new.position is_array new.inside

  few : v.state.made < 16
  few = may.few

  no_member : (k place u : ℕ) → k < v.state.made → look commit.log.added (member_slice place k) u ≡ None
  no_member k place u low =
      look_lacks commit.log.added (member_slice place k) u
      (λ t among disk sector.
      let most = few in
      elim (target t among) [
        | inl new ↦ let on = new.disk in omega (arith, low, most, disk, on)
        | inr copy ↦ let on = copy.copy.disk in omega (arith, low, most, disk, on)
      ])

  no_other : (place : ℕ) → ((k : ℕ) → k < next.truth.raid_disks → place_at next k ≡ place → ⊥) → look commit.log.added (member_slice place v.state.made) super_sector ≡ None
  no_other place other =
      look_lacks commit.log.added (member_slice place v.state.made) super_sector
      (λ t among disk sector.
      let most = few in
      elim (target t among) [
        | inl new ↦ let on = new.disk in other new.position new.inside (omega (arith, most, disk, on))
        | inr copy ↦ let on = copy.copy.disk in omega (arith, most, disk, on)
      ])

  no_data : NoData commit.log.added
  no_data d t u is =
      let at = look_among commit.log.added d t u is in
      elim (target at.0 at.1) [
        | inl new ↦ inr (sym at.3 ∙ new.sector)
        | inr copy ↦ inl (let on = copy.copy.disk in let same = at.2 in omega (arith, on, same))
      ]

  -- none of the superblocks is a copy
  no_copy : (p : ℕ) → look supers (log_slice p) 0 ≡ None
  no_copy p = look_lacks supers (log_slice p) 0 (λ t among disk sector. let at = (new_super t among).sector in omega (arith, at, sector))

  on_member : (p : ℕ) → list_any (λ t. place_of t.disk == p) supers ≡ true → names commit.on p ≡ true
  on_member p any =
      let at = any_among (λ t. place_of t.disk == p) supers any in
      let new = new_super at.0 at.1 in
      let here : place_of at.0.disk ≡ p = eqb-true (place_of at.0.disk) p at.2 in
      let disk = new.disk in
      let most = few in
      let same : place_at next new.position ≡ p = omega (arith, here, disk, most) in
      named p ∙ ap (is_current v.state) (sym same) ∙ new.current

  -- who goes in it is one of those it writes to
  went : (q : ℕ) → names commit.gone q ≡ true → is_current v.state q ≡ true
  went q is = elim (commit.call.gone.called q is) [
    | inl on ↦ sym (named q) ∙ on
    | inr any ↦
        let at = any_among (λ t. place_of t.disk == q) commit.log.added any in
        let here : place_of at.0.disk ≡ q = eqb-true (place_of at.0.disk) q at.2 in
        let most = few in
        elim (target at.0 at.1) [
          | inl new ↦
              let disk = new.disk in
              let same : place_at next new.position ≡ q = omega (arith, here, disk, most) in
              ap (is_current v.state) (sym same) ∙ new.current
          | inr copy ↦
              let disk = copy.copy.disk in
              let same : copy.place ≡ q = omega (arith, here, disk) in
              sym (named q) ∙ ap (names commit.on) (sym same) ∙ copy.named
        ]
  ]

  left : (q : ℕ) → is_current v.state q ≡ (is_current v.state q && not (gone_in v q))
  left q = sym (and_true (is_current v.state q)) ∙ ap (λ (g : Bool). is_current v.state q && not g) (sym (heeded_gone v heeded q))
    where
      and_true : (z : Bool) → (z && true) ≡ z
      and_true true = refl
      and_true false = refl

  after : w.arrays v.state.made ≡ without commit.gone next
  after = commit.arrays v.state.made (omega arith) ∙ ap (without commit.gone) own_view

  listed : (q : ℕ) → names (without commit.gone next).went q ≡ true → names commit.gone q ≡ true
  listed q is =
      let found = sym (any-filter_same (λ k. k == q) (λ k. names next.went k || names commit.gone k) (names next.went q || names commit.gone q)
      (λ k same. ap (λ z. names next.went z || names commit.gone z) (eqb-true k q same)) (range_with_len 0 16)) ∙ is in
      sym (ap (λ ps. names ps q || names commit.gone q) may.went) ∙ both (names next.went q || names commit.gone q) (list_any (λ k. k == q) (range_with_len 0 16)) found
    where
      both : (z t : Bool) → (z && t) ≡ true → z ≡ true
      both true t is = refl
      both false t is = is

  live : AreLive v.state.made b → AreLive (v.state.made + 1) b
  live all n place u low there inside = elim (cases_lt n v.state.made) [
    | inl below ↦ all n place u below there inside
    | inr high ↦
        let same : v.state.made ≡ n = omega (arith, low, high) in
        subst (λ k. IsLive b b (member_slice place k) u) same (fits.told place u there (subst (λ k. u < b.sectors (member_slice place k)) (sym same) inside))
  ]

  committing : IsCommitting (makes next) v v.number v.arrays commit.on commit.gone commit.log w.arrays b c
  committing = record {
    due = fresh.young;
    set = set;
    call = commit.call;
    number = commit.number;
    arrays = λ k low. commit.arrays k (omega (arith, low)) ∙ ap (without commit.gone) (other_view k low);
    fresh = λ k low none. heeded k low;
    current = left;
    on_is = named;
    called = went;
    made = omega arith;
    new = λ n high low q is.
        listed q (sym (ap (λ (u : View). has_gone u q) (ap w.arrays (let same : n ≡ v.state.made = omega (arith, high, low) in same) ∙ after)) ∙ is);
    slices = live;
    few = λ few. few;
    epoch = (raised_range v.state.epoch).0;
    later = λ room. raised_more v.state.epoch room;
    last = λ room. let up = (raised_range v.state.epoch).0 in omega (arith, room, up);
    drives = record { pool = refl; ids = λ p on. refl };
    brings = λ room. copies_bring (with_made v.state) v.state commit.on supers commit.log.added commit.copies (raised_more v.state.epoch room) (λ p is. is) named on_member no_copy;
    own = copies_own (with_made v.state) commit.on supers commit.log.added commit.copies no_copy;
    none = no_data;
    live = λ slices logs e u z is.
        let at = look_among commit.log.added e u z is in
        elim (target at.0 at.1) [
          | inl new ↦
              let room = may.seated.slices.sectors new.position new.inside new.there in
              let number = may.seated.number in
              let place = place_at next new.position in
              subst (λ k. IsLive b b k u) (sym new.disk ∙ at.2)
              (subst (λ k. IsLive b b (member_slice place v.state.made) k) (sym new.sector ∙ at.3)
              (fits.told place super_sector (few_place at.0 new) (subst (λ k. super_sector < b.sectors (member_slice place k)) number (omega (arith, room)))))
          | inr copy ↦
              let p = copy.place in
              let current : is_current v.state p ≡ true = sym (named p) ∙ copy.named in
              let size = set.logs p (heeded_left v p heeded current) in
              subst (λ k. IsLive b b k u) (sym copy.copy.disk ∙ at.2)
              (subst (λ k. IsLive b b (log_slice p) k) (sym copy.copy.sector ∙ at.3) (logs p 0 (current_few v.state p set.few current) (omega (arith, size))))
        ];
  }

  -- ---- the new array

  stated : AreStated (changed (makes next) v) commit.on supers commit.log.added b
  stated =
      let parts = supers_of (changed (makes next) v) v.state.made supers (omega arith) (subst IsArray (sym own_view) is_array) (subst (λ (u : View). AddsSupersOf u [] supers) (sym own_view) adds) in
      record { set = next_set; heeded = next_heeded; takes_are = commit.on_is; only = parts.0; apart = parts.1; copies = commit.copies }

  staged : 0 < present next.seats → IsStaged v.state (with_made v.state) (gone_in v) next commit.log.added b v.state.made
  staged some =
      let member = seat_left next.seats some in
      record {
        few = few;
        number = may.seated.number;
        seats = is_array.seats;
        devices = is_array.devices;
        placed = λ k inside. place_few next k is_array inside;
        state = subst (λ (u : View). IsStateOf u (with_made v.state)) own_view (state_of (changed (makes next) v) b v.state.made next_set next_heeded (omega arith));
        marks = record { current = left; pool = refl; extent = refl; drives = refl };
        before = [];
        added = supers;
        adds = adds;
        are_targets = λ t among.
            let super = subst (AmongTargets t) (sym adds.appended) among in
            let new = new_super t super in
            let room = may.seated.slices.sectors new.position new.inside new.there in
            let number = may.seated.number in
            let sector = new.sector in (
              apart_found commit.log.added t (stated_apart (changed (makes next) v) commit.on supers commit.log.added b stated)
                  (subst (AmongTargets t) (sym commit.copies.appended) (among_first t supers commit.copies.targets super)),
              subst (λ d. t.sector < b.sectors d) (ap (member_slice (place_at next new.position)) number ∙ sym new.disk) (omega (arith, room, sector)),
            );
        no_other = no_other;
        none = no_data;
        member = member.0;
        low = (let below = member.1 in let count = is_array.seats in omega (arith, below, count));
        left = member.2;
        rows = may.seated.is_of_pool.rows;
        written = fits.written;
        unsynced = let none = fresh.none in omega (arith, none);
        settled = fits.synced;
        unmarked = may.unmarked;
      }

  whole : run_after v (with_made v.state) (next_number commit.log.number) w.arrays ≡ w
  whole = let back = sym commit.state in let number = sym commit.next in λ i. record { state = back i; arrays = w.arrays; number = number i }

  coming : IsComing v (run_after v (with_made v.state) (next_number commit.log.number) w.arrays) next commit.gone commit.log.added b
  coming = record {
    few = few;
    number = may.seated.number;
    young = fresh.young;
    unmarked = may.unmarked;
    went = may.went;
    none = fresh.none;
    is_array = is_array;
    is_open = λ slices.
        subst (λ k. IsOpen (shape_of next) k b) may.seated.number (opened (with_made v.state) (v.state.made + 1) v.state.made next b may.seated (live slices) (omega arith));
    after = after;
    called = λ q is. current_few v.state q set.few (went q is);
    heeded = λ q current. heeded_gone v heeded q;
    staged = staged;
    others = no_member;
    fits = fits;
  }

  run : IsRunOf (changed (makes next) v) w
  run =
      run_loses (changed (makes next) v) (changed (makes next) v) w commit.state
      (λ k low. only_gone ((changed (makes next) v).arrays k) (w.arrays k) commit.gone (next_set.arrays k low).is_array (commit.arrays k low)) (λ k low. ap left_offset (commit.arrays k low))
      (run_of_itself (changed (makes next) v) b next_set)

  pub made_turn : (z : Raid) (d : RackView) → ((u : Raid) → IsRunOf u w → MakesLosses u w z c d) → MakesTurn (makes next) true AnyValues v z b d
  made_turn z d losses =
      turn_then (makes next) AnyValues v w z b c d
      (λ vals any.
      subst (λ (u : Raid). Makes (makes next ∷ []) v v u vals vals b c) whole
      (made_makes v (run_after v (with_made v.state) (next_number commit.log.number) w.arrays) next commit.log commit.on commit.gone vals b c
      (commits (makes next) v v.number v.arrays commit.on commit.gone commit.log w.arrays b c committing) coming))
      (losses (changed (makes next) v) run)
