-- The commit by which a young array is the volume's makes that change of the book: the run has the array no longer young before it, in memory alone.
use Rattle.array_image.specs.Held.{IsSynced}
use Rattle.transition_laws.proofs.ArraysFor.{fewer_rows, grown_for}
use Rattle.std.proofs.Common.{◌≡◌, ◌⊎◌, ℕ, ◌+◌, ◌-◌, ◌<◌, ◌≤◌, Bool, true, false, ◌==◌, ◌&&◌, not, nat_lt, if◌then◌else◌, List, ◌∷◌, Some, None, refl, sym, ap, ap₂, subst, ◌∙◌, inl, inr, eq-eqb, ne_eqb, le-ltb, lt-ltb, arith, ◌||◌, []}
use Rattle.std.proofs.lemmas.Bool.{and_parts, both_ways, cases_Bool, cases_eq, cases_lt, and_from}
use Rattle.std.specs.List.{list_all}
use Rattle.rack.specs.Values.{Values}
use Rattle.rack.specs.Seen.{Image, RackView}
use Rattle.rack.specs.Joins.{leaves_weaker}
use Rattle.rack.specs.Targets.{look}
use Rattle.md_super.specs.declared.superblock.Super.{Super}
use Rattle.raid_map.specs.LeftSymmetric.{row_at}
use Rattle.array_image.specs.Arrays.{final_layout, first_layout, layout_at, replayed, Shape}
use Rattle.array_image.specs.Left.{IsInside, Picks}
use Rattle.array_image.specs.Places.{member_slice}
use Rattle.array_image.specs.SoundArray.{first_unsynced}
use Rattle.array_image.specs.States.{is_current}
use Rattle.array_image.specs.Spent.{spent_by}
use Rattle.array_image.specs.Stripes.{parity, sector_in}
use Rattle.array_image.specs.Supers.{is_reshaping, truth_in}
use Rattle.array_core.specs.Contents.{lacking_in}
use Rattle.array_core.specs.Seats.{ready}
use Rattle.array_core.specs.TruthHeld.{HoldTruth}
use Rattle.array_model.specs.ArrayCalls.{IncludesSpent}
use Rattle.array_model.specs.Says.{ImageShowsArray}
use Rattle.array_model.specs.View.{IsArray, is_whole_array, is_whole_seat, may_vary, rows_of, sectors_of, shape_of, View}
use Rattle.array_model.proofs.Layouts.{layout_by, sector_inside}
use Rattle.log_laws.specs.View.{LogView, next_number}
use Rattle.raid_laws.specs.Moves.{IsHeeded, IsMarkedWhole, IsSeated, IsSet}
use Rattle.raid_laws.specs.Raid.{gone_in, Raid}
use Rattle.raid_laws.proofs.Whole.{heeded_gone, heeded_whole}
use Rattle.transition_laws.specs.Changes.{changed, readied, with_ready}
use Rattle.transition_laws.specs.Holds.{has_sector, HoldsBook, HoldsMembers, Promise, RestsArray, ShowsArray, Stands, StandsArray, spent_at, rows_for}
use Rattle.transition_laws.specs.Makes.{HoldsAlong, Makes, Suits}
use Rattle.transition_laws.specs.Readying.{FitsReady}
use Rattle.transition_laws.proofs.Committing.{committing_makes, IsCommitting, run_after}
use Rattle.transition_laws.proofs.Readied.{HasAllRows, stages_readied}
use Rattle.transition_laws.proofs.Shown.{spent_same}
use Rattle.transition_laws.proofs.TruthShown.{truth_shown}

-- the book whose next array is no longer young
abbrev pub readying : Raid → Raid
readying v = record v { arrays = λ k. record (v.arrays k) { young = (v.arrays k).young && not (k == v.state.joined) } }

-- What there is before the commit: a pool over its slices where nobody has gone, and its young array is zeroed.
pub record IsReadying (v : Raid) (x : RackView) : Type 0 where
  pub set : IsSet v x
  pub heeded : IsHeeded v
  pub due : v.state.joined < v.state.made
  pub last : v.state.made ≤ v.state.joined + 1
  pub young : (v.arrays v.state.joined).young ≡ true
  pub rows : rows_of (v.arrays v.state.joined) ≤ first_unsynced (v.arrays v.state.joined).truth

-- ---- sectors

and_or : (a b : Bool) → (a && (not b || true)) ≡ a
and_or true true = refl
and_or true false = refl
and_or false b = refl

-- those of an array with all rows zeroed don't go by whether it is young
zeroed_sectors : (u : View) (young : Bool) → IsArray u → is_reshaping u.truth ≡ false → rows_of u ≤ first_unsynced u.truth → (y : ℕ)
    → has_sector (record u { young = young }) y ≡ nat_lt y (sectors_of u)
zeroed_sectors u young is_array still rows y =
    let moved : (nat_lt y (sectors_of u) || nat_lt y (if is_reshaping u.truth then u.truth.reshape_position else 0)) ≡ (nat_lt y (sectors_of u) || false) =
    ap₂ (λ a b. a || b) refl (ap (λ (b : Bool). nat_lt y (if b then u.truth.reshape_position else 0)) still ∙ le-ltb y 0 (omega arith)) in
    elim (cases_lt y (sectors_of u)) [
      | inl low ↦
          let here : sector_in (first_layout u.truth) y < u.truth.size = subst (λ l. sector_in l y < u.truth.size) (first y) (sector_inside u y is_array low) in
          let whole = is_array.whole_rows in
          let zeroed : nat_lt (row_at (sector_in (first_layout u.truth) y)) (first_unsynced u.truth) ≡ true =
          lt-ltb (row_at (sector_in (first_layout u.truth) y)) (first_unsynced u.truth) (omega (arith, here, whole, rows)) in
          ap₂ (λ a b. a && (not young || b)) (moved ∙ or_false (nat_lt y (sectors_of u))) zeroed ∙ and_or (nat_lt y (sectors_of u)) young
      | inr past ↦
          let none = le-ltb y (sectors_of u) past in
          ap (λ a. a && (not young || nat_lt (row_at (sector_in (first_layout u.truth) y)) (first_unsynced u.truth))) (moved ∙ or_false (nat_lt y (sectors_of u)) ∙ none) ∙ sym none
    ]
  where
    or_false : (b : Bool) → (b || false) ≡ b
    or_false true = refl
    or_false false = refl

    first : (y : ℕ) → layout_at (shape_of u) y ≡ first_layout u.truth
    first y =
        layout_by u y false (nat_lt y u.truth.reshape_position) still refl ∙ sym (ap (λ (b : Bool). if b then parity (u.truth.raid_disks - 1) else final_layout u.truth) still)

-- ---- the run before the commit

and_true : (b : Bool) → (b && true) ≡ b
and_true true = refl
and_true false = refl

and_false : (b : Bool) → (b && false) ≡ false
and_false true = refl
and_false false = refl

kept_shape : (u : View) (young : Bool) → shape_of (record u { young = young }) ≡ shape_of u
unfolding shape_of
kept_shape u young = refl

own_view : (v : Raid) (n : ℕ) → n ≡ v.state.joined → (readying v).arrays n ≡ ready (v.arrays n)
own_view v n same = ap (λ b. record (v.arrays n) { young = b }) (ap (λ b. (v.arrays n).young && not b) (eq-eqb n v.state.joined same) ∙ and_false (v.arrays n).young)

other_view : (v : Raid) (n : ℕ) → (n ≡ v.state.joined → ⊥) → (readying v).arrays n ≡ v.arrays n
other_view v n apart = ap (λ b. record (v.arrays n) { young = b }) (ap (λ b. (v.arrays n).young && not b) (ne_eqb n v.state.joined apart) ∙ and_true (v.arrays n).young)

-- the change makes no array of it another one
pub readied_again : (v : Raid) (n : ℕ) → (changed readied (readying v)).arrays n ≡ (readying v).arrays n
readied_again v n = elim (cases_eq n v.state.joined) [
  | inl same ↦
      ap (λ (b : Bool). if b then ready ((readying v).arrays n) else (readying v).arrays n) (eq-eqb n v.state.joined same)
      ∙ ap ready (own_view v n same) ∙ sym (own_view v n same)
  | inr apart ↦ ap (λ (b : Bool). if b then ready ((readying v).arrays n) else (readying v).arrays n) (ne_eqb n v.state.joined apart)
]

-- and makes the same book of it as of the one that it began with
pub readied_same : (v : Raid) → changed readied (readying v) ≡ changed readied v
readied_same v = λ i. record { state = with_ready v.state; arrays = λ k. each k i; number = v.number }
  where
    each : (k : ℕ) → (changed readied (readying v)).arrays k ≡ (changed readied v).arrays k
    each k = elim (cases_eq k v.state.joined) [
      | inl same ↦ readied_again v k ∙ own_view v k same ∙ sym (ap (λ (b : Bool). if b then ready (v.arrays k) else v.arrays k) (eq-eqb k v.state.joined same))
      | inr apart ↦ readied_again v k ∙ other_view v k apart ∙ sym (ap (λ (b : Bool). if b then ready (v.arrays k) else v.arrays k) (ne_eqb k v.state.joined apart))
    ]

module _ (v : Raid) (x : RackView) (is : IsReadying v x) where
  is_array : (n : ℕ) → n < v.state.made → IsArray (v.arrays n)
  is_array n low = (is.set.arrays n low).is_array

  at_joined : (P : ℕ → View → Type 0) (n : ℕ) → n ≡ v.state.joined → P v.state.joined (v.arrays v.state.joined) → P n (v.arrays n)
  at_joined P n same has = subst (λ k. P k (v.arrays k)) (sym same) has

  -- no mark stands on the young array
  unmarked : (n : ℕ) → n ≡ v.state.joined → n < v.state.made → (v.arrays n).marked ≡ false
  unmarked n same low = elim (cases_Bool (v.arrays n).marked) [
    | inr none ↦ none
    | inl marked ↦
        let u = v.arrays n in
        let rest = and_parts (list_all is_whole_seat u.seats) ((u.resync == rows_of u) && (not u.young && not (is_reshaping u.truth))) (heeded_whole v n is.heeded (is.set.marked n low) marked) in
        let more = and_parts (u.resync == rows_of u) (not u.young && not (is_reshaping u.truth)) rest.1 in
        absurd (both_ways (not u.young) (ap not (at_joined (λ k z. z.young ≡ true) n same is.young)) (and_parts (not u.young) (not (is_reshaping u.truth)) more.1).0)
  ]

  -- ---- over the slices

  seated_own : (n : ℕ) → n ≡ v.state.joined → IsSeated v.state n (v.arrays n) x → IsSeated v.state n (ready (v.arrays n)) x
  seated_own n same seated =
      let a = seated.is_array in
      let pool = seated.is_of_pool in
      let all = at_joined (λ k z. rows_of z ≤ first_unsynced z.truth) n same is.rows in
      let some = pool.unsynced in
      let most = a.synced in
      record {
        is_array = record {
          few = a.few;
          level = a.level;
          least = a.least;
          most = a.most;
          seats = a.seats;
          devices = a.devices;
          small = a.small;
          whole_rows = a.whole_rows;
          placed = a.placed;
          synced = a.synced;
          reshape = a.reshape;
        };
        number = seated.number;
        slices = record { fit = seated.slices.fit; lasting = seated.slices.lasting; disks = seated.slices.disks; sectors = seated.slices.sectors };
        marks = seated.marks;
        is_of_pool = record {
          set = pool.set;
          profile = pool.profile;
          events = pool.events;
          events_end = pool.events_end;
          row = pool.row;
          roles = pool.roles;
          unsynced = pool.unsynced;
          synced = λ old part. inl (omega (arith, all, some, most));
          zeroed = λ young. absurd (both_ways false refl young);
          rows = pool.rows;
        };
      }

  by_view : (P : View → Type 0) (n : ℕ) → (n ≡ v.state.joined → P (ready (v.arrays n))) → P (v.arrays n) → P ((readying v).arrays n)
  by_view P n own other = elim (cases_eq n v.state.joined) [
    | inl same ↦ subst P (sym (own_view v n same)) (own same)
    | inr apart ↦ subst P (sym (other_view v n apart)) other
  ]

  pub readying_set : IsSet (readying v) x
  readying_set = record {
    fit = is.set.fit;
    lasting = is.set.lasting;
    disks = is.set.disks;
    few = is.set.few;
    most = is.set.most;
    valid = is.set.valid;
    logs = is.set.logs;
    arrays = λ n low. by_view (λ u. IsSeated v.state n u x) n (λ same. seated_own n same (is.set.arrays n low)) (is.set.arrays n low);
    marked = λ n low. marks n low;
  }
    where
      marks : (n : ℕ) → n < v.state.made → IsMarkedWhole (readying v) n
      marks n low =
          by_view (λ u. u.marked ≡ true → (is_whole_array u ≡ true) ⊎ ((place : ℕ) × (is_current v.state place ≡ true) × (gone_in v place ≡ true))) n
          (λ same marked. absurd (both_ways (v.arrays n).marked (unmarked n same low) marked)) (λ marked. inl (heeded_whole v n is.heeded (is.set.marked n low) marked))

  module _ (fits : FitsReady v v.state.joined x) where
    -- no sector comes or goes
    sectors : (n : ℕ) → n < v.state.made → (y : ℕ) → has_sector ((readying v).arrays n) y ≡ has_sector (v.arrays n) y
    sectors n low y = elim (cases_eq n v.state.joined) [
      | inl same ↦
          let still = at_joined (λ k z. is_reshaping z.truth ≡ false) n same fits.steady in
          let rows = at_joined (λ k z. rows_of z ≤ first_unsynced z.truth) n same is.rows in
          zeroed_sectors (v.arrays n) ((readying v).arrays n).young (is_array n low) still rows y ∙ sym (zeroed_sectors (v.arrays n) (v.arrays n).young (is_array n low) still rows y)
      | inr apart ↦ ap (λ (u : View). has_sector u y) (other_view v n apart)
    ]

    all_rows : (n : ℕ) → n < v.state.made → (n < v.state.joined) ⊎ HasAllRows ((readying v).arrays n)
    all_rows n low = elim (cases_eq n v.state.joined) [
      | inl same ↦ inr (
          let seated = readying_set.arrays n low in
          let rows = at_joined (λ k z. rows_of z ≤ first_unsynced z.truth) n same is.rows in
          let some = (is.set.arrays n low).is_of_pool.unsynced in
          record {
            is_array = seated.is_array;
            steady = at_joined (λ k z. is_reshaping z.truth ≡ false) n same fits.steady;
            unmarked = unmarked n same low;
            grown = ap (λ (u : View). u.young) (own_view v n same);
            rows = omega (arith, rows, some);
          })
      | inr apart ↦ inl (below n low apart)
    ]
      where
        below : (n : ℕ) → n < v.state.made → (n ≡ v.state.joined → ⊥) → n < v.state.joined
        below n low apart = let last = is.last in elim (cases_lt n v.state.joined) [
          | inl less ↦ less
          | inr more ↦ absurd (apart (omega (arith, low, last, more)))
        ]

    module _ (p : Promise) (vals : ℕ → ℕ → Values) (stands : Stands v v p vals x) (n : ℕ) (live : p.live n ≡ true) (low : n < v.state.made) where
      spent : spent_at p n ((readying v).arrays n) ≡ spent_at p n (v.arrays n)
      spent = spent_same p n ((readying v).arrays n) (v.arrays n) (sectors n low)

      shape : shape_of ((readying v).arrays n) ≡ shape_of (v.arrays n)
      shape = kept_shape (v.arrays n) ((readying v).arrays n).young

      -- no more rows than are zeroed
      rows : rows_for p ((readying v).arrays n) ≤ rows_for p (v.arrays n)
      rows = elim (cases_eq n v.state.joined) [
        | inl same ↦
            let u = v.arrays n in
            let own : rows_for p ((readying v).arrays n) ≡ u.resync =
            ap (λ (b : Bool). if b then first_unsynced u.truth else u.resync) (grown_for p ((readying v).arrays n) (ap (λ (z : View). z.young) (own_view v n same))) in
            let all = at_joined (λ k z. rows_of z ≤ first_unsynced z.truth) n same is.rows in
            let most = (is_array n low).synced in
            let many = either u (p.growing && u.young) (omega (arith, all, most)) in
            omega (arith, own, many)
        | inr apart ↦ let same = ap (rows_for p) (other_view v n apart) in omega (arith, same)
      ]
        where
          either : (u : View) (b : Bool) → u.resync ≤ first_unsynced u.truth → u.resync ≤ (if b then first_unsynced u.truth else u.resync)
          either u true less = less
          either u false less = omega arith

      -- each image says that all rows are zeroed
      unsynced : n ≡ v.state.joined → (c : Image) → Picks x c → (t : Super) → truth_in v.state (replayed x.sectors c) n ≡ Some t → (v.arrays n).resync ≤ first_unsynced t
      unsynced same c picks t truth =
          let held = at_joined (λ k z. HoldTruth z x) n same fits.supers in
          let fields = ap first_unsynced (truth_shown v x n is.set is.heeded low held p vals stands live c picks t truth) in
          let rows = at_joined (λ k z. rows_of z ≤ first_unsynced z.truth) n same is.rows in
          let most = (is_array n low).synced in
          omega (arith, fields, rows, most)

      grown : (n ≡ v.state.joined → ⊥) → ((readying v).arrays n).young ≡ false → (v.arrays n).young ≡ false
      grown apart old = sym (ap (λ (u : View). u.young) (other_view v n apart)) ∙ old

      rests : (c : Image) → Picks x c → RestsArray v.state ((readying v).arrays n) p n (vals n) (replayed x.sectors c)
      rests c picks =
          let r : Image = replayed x.sectors c in
          let was = stands.images c picks n live low in
          record {
            shows = record {
              says = subst (λ (unspent : ℕ → Bool). ImageShowsArray v.state n (shape_of ((readying v).arrays n)) (vals n) unspent r) (sym spent)
                  (subst (λ (sh : Shape). ImageShowsArray v.state n sh (vals n) (spent_at p n (v.arrays n)) r) (sym shape) was.shows.says);
              rows = λ old kept t truth. elim (cases_eq n v.state.joined) [
                | inl same ↦ unsynced same c picks t truth
                | inr apart ↦ was.shows.rows (grown apart old) kept t truth
              ];
              lacks = λ old wanted some t truth. elim (cases_eq n v.state.joined) [
                | inl same ↦ unsynced same c picks t truth
                | inr apart ↦ was.shows.lacks (grown apart old) wanted (subst (λ (sh : Shape). 0 < lacking_in sh) shape some) t truth
              ];
            };
            truth = was.truth;
            mark = was.mark;
            alone = was.alone;
          }

      array : StandsArray ((readying v).arrays n) ((readying v).arrays n) n (vals n) p x
      array =
          let was = stands.arrays n live low in
          record {
            number = was.number;
            book_number = was.book_number;
            few = was.few;
            written = was.written;
            members =
                fewer_rows n (shape_of ((readying v).arrays n)) (shape_of ((readying v).arrays n)) (rows_for p (v.arrays n)) (rows_for p ((readying v).arrays n)) (may_vary (v.arrays n)) (vals n)
                (spent_at p n ((readying v).arrays n)) x rows
                (subst (λ (unspent : ℕ → Bool). HoldsMembers n (shape_of ((readying v).arrays n)) (shape_of ((readying v).arrays n)) (rows_for p (v.arrays n)) (may_vary (v.arrays n)) (vals n) unspent x) (sym spent)
                (subst (λ (sh : Shape). HoldsMembers n sh sh (rows_for p (v.arrays n)) (may_vary (v.arrays n)) (vals n) (spent_at p n (v.arrays n)) x) (sym shape) was.members));
            single = λ young.
                let parts = and_parts p.growing ((readying v).arrays n).young young in
                subst (λ (sh : Shape). IsSynced sh n x.held) (sym shape)
                (was.single (and_from p.growing (v.arrays n).young parts.0 (and_parts (v.arrays n).young (not (n == v.state.joined)) parts.1).0));
            closed = was.closed;
            truth = was.truth;
            mark = was.mark;
            roles = was.roles;
            disks = was.disks;
            sectors = λ y. refl;
          }

      -- what shows it shows the array as it was
      shows_young : (r : Image) → ShowsArray v.state ((readying v).arrays n) p n (vals n) r → ShowsArray v.state (v.arrays n) p n (vals n) r
      shows_young r shows = record {
        says = subst (λ (unspent : ℕ → Bool). ImageShowsArray v.state n (shape_of (v.arrays n)) (vals n) unspent r) spent
            (subst (λ (sh : Shape). ImageShowsArray v.state n sh (vals n) (spent_at p n ((readying v).arrays n)) r) shape shows.says);
        rows = λ old kept t truth. shows.rows (ap (λ b. b && not (n == v.state.joined)) old) kept t truth;
        lacks = λ old wanted some t truth. shows.lacks (ap (λ b. b && not (n == v.state.joined)) old) wanted (subst (λ (sh : Shape). 0 < lacking_in sh) (sym shape) some) t truth;
      }

    stands_readying : (p : Promise) (vals : ℕ → ℕ → Values) → Stands v v p vals x → Stands (readying v) (readying v) p vals x
    stands_readying p vals stands = record {
      few = stands.few;
      one = stands.one;
      log = stands.log;
      someone = stands.someone;
      copies = stands.copies;
      since = stands.since;
      same = refl;
      images = λ c picks n live low. rests p vals stands n live low c picks;
      arrays = λ n live low. array p vals stands n live low;
      alike = λ marked n live low. record { shape = refl; frame = refl; resync = refl; young = refl };
      slices = stands.slices;
    }

    -- ---- the commit

    pub ready_makes : (on gone : List ℕ) (l : LogView) (f : ℕ → View) (b : RackView) → IsCommitting readied (readying v) v.number (readying v).arrays on gone l f x b
        → ((n place u : ℕ) → n < 16 → look l.added (member_slice place n) u ≡ None) → (vals : ℕ → ℕ → Values)
        → Makes (readied ∷ []) v v (run_after v (with_ready v.state) (next_number l.number) f) vals vals x b
    ready_makes on gone l f b commit others vals =
        let w = run_after v (with_ready v.state) (next_number l.number) f in
        let one : Makes (readied ∷ []) (readying v) (readying v) w vals vals x b =
        committing_makes readied (readying v) v.number (readying v).arrays on gone l f x b commit vals
        (λ p suits. stages_readied (readying v) w vals l.added x b p (readied_again v) all_rows (λ q current. heeded_gone v is.heeded q) others) in
        let suit : (p : Promise) → Suits p (readied ∷ []) v → Suits p (readied ∷ []) (readying v) = λ p suits. record { free = suits.free; owned = suits.owned; growing = suits.growing } in
        record {
          due = (is.due, tt);
          stays = one.stays;
          back = λ p suits promised.
              let before = one.back p (suit p suits) promised in
              record { is_one = before.is_one; goes = before.goes; covers = λ n live low. covers p n low (before.covers n live low) };
          grows = λ n y u may. may;
          stops = λ p suits promised stands traced.
              leaves_weaker (λ c. IsInside x.sectors c → HoldsAlong (readied ∷ []) (readying v) p vals x.sectors c) (λ c. IsInside x.sectors c → HoldsAlong (readied ∷ []) v p vals x.sectors c)
              (λ c holds inside. elim (holds inside) [
                | inl old ↦ inl (record { log = old.log; since = old.since; arrays = λ n live low. shows_young p vals stands n live low (replayed x.sectors c) (old.arrays n live low) })
                | inr new ↦ inr (subst (λ (u : Raid). HoldsBook u p vals x.sectors c) (readied_same v) new)
              ])
              (one.stops p (suit p suits) promised (stands_readying p vals stands) traced);
          after = λ p suits promised stands. subst (λ (u : Raid). Stands u w p vals b) (readied_same v) (one.after p (suit p suits) promised (stands_readying p vals stands));
        }
      where
        covers : (p : Promise) (n : ℕ) → n < v.state.made → IncludesSpent ((readying v).arrays n) (spent_at p n ((readying v).arrays n)) → IncludesSpent (v.arrays n) (spent_at p n (v.arrays n))
        covers p n low included y alive =
            ap (λ (sh : Shape). spent_by sh (v.arrays n).resync y) (sym (kept_shape (v.arrays n) ((readying v).arrays n).young))
            ∙ included y (ap (λ (sp : ℕ → Bool). sp y) (spent_same p n ((readying v).arrays n) (v.arrays n) (sectors n low)) ∙ alive)
