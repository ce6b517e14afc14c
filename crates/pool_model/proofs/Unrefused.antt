-- What it says of contents that they aren't refused, and for what those are whose pool has its drives; and the disks of a whole pool without one are found by the same state.
use Rattle.std.proofs.Common.{◌≡◌, ◌⊎◌, ℕ, zero, suc, ◌+◌, ◌<◌, ◌≤◌, ◌||◌, Bool, true, false, not, bytes_eq, nat_lt, if◌then◌else◌, is_none, is_some, find, Option, Some, None, option_map, refl, sym, ap, ap₂, subst, ◌∙◌, inl, inr, le-ltb, lt-ltb, arith}
use Rattle.std.specs.Option.{option_and_then, option_map_or, option_or}
use Rattle.std.specs.List.{list_any, range_with_len}
use Rattle.std.proofs.lemmas.Bool.{both_ways, cases_lt}
use Rattle.std.proofs.lemmas.Option.{none-some}
use Rattle.std.proofs.lemmas.Slice.Eq.{bytes_eq-Decides}
use Rattle.rack.specs.Seen.{Image}
use Rattle.shr_base.specs.declared.Id.{Id}
use Rattle.pool_state.specs.declared.contents.Copied.{Copied}
use Rattle.pool_state.specs.declared.contents.State.{State}
use Rattle.array_image.specs.States.{current_places, is_current}
use Rattle.array_core.proofs.Stripped.{some_same}
use Rattle.log_laws.specs.Kept.{IsNoLater}
use Rattle.log_laws.specs.View.{names}
use Rattle.commit_log.proofs.LeftPlaces.{any_found}
use Rattle.log_laws.proofs.Naming.{range_below}
use Rattle.raid_laws.proofs.Added.{names_current}
use Rattle.pool_image.specs.Disks.{Disks, all_disks, identities_of, newest}
use Rattle.pool_image.specs.Drives.{Found, found}
use Rattle.pool_image.specs.Replay.{Standing, standing, standing_by}
use Rattle.pool_image.specs.Meaning.{Part, Refusal, absent, absent_count, arrays_of, bad_volume, damage_of, damage_on, damaged, dirty_degraded, first_damaged, has_log, has_other_pool, has_supers, has_table, in_log, in_state, in_superblock, in_table, is_dirty_degraded, is_too_few, joined_arrays, no_pool, refusal_of, refused_at, refused_by, too_few, two_pools}
use Rattle.pool_image.specs.Sound.{skip}
use Rattle.pool_image.specs.Volumes.{first_bad}
use Rattle.pool_image.proofs.Identities.{seat_inside}
use Rattle.pool_model.specs.Absent.{IsWholePool}
use Rattle.pool_model.specs.Reopening.{HasOtherPool}
use Rattle.pool_model.proofs.Found.{found_is, latest, newest_latest}
use Rattle.pool_model.proofs.Named.{seat_ahead}
use Rattle.pool_model.proofs.Skipped.{back, back_inside, skip_inside}
use Rattle.pool_model.proofs.Standing.{found_at, pool_at}
use Rattle.pool_model.proofs.Undamaged.{find_false}
use Rattle.pool_model.proofs.Away.{beside, disk_back, fewer, find_passes, idle_now, inside, is_found, none_found, other_disk, rest, seat_there}

-- ---- a place without a damage

pub record IsUndamaged (f : Found) (p d : ℕ) : Type 0 where
  pub table : has_table f p d ≡ true
  pub copy : is_some (f.identities d).copied ≡ true
  pub log : has_log f p ≡ true
  pub supers : has_supers f p ≡ true

abbrev part_by : Bool → Bool → Bool → Bool → Option Part
part_by table lacks log supers = if not table then Some in_table else if lacks then Some in_state else if not log then Some in_log else if not supers then Some in_superblock else None

none_copied : (o : Option Copied) → is_none o ≡ false → is_some o ≡ true
none_copied None is = absurd (both_ways true is refl)
none_copied (Some copy) is = refl

pub undamaged : (f : Found) (p d : ℕ) → f.seats p ≡ Some d → damage_of f p ≡ None → IsUndamaged f p d
unfolding damage_of
undamaged f p d seat none =
    of (has_table f p d) refl (is_none (f.identities d).copied) refl (has_log f p) refl (has_supers f p) refl
    (sym (ap (option_and_then (damage_on f p)) seat) ∙ none)
  where
    of : (a : Bool) → has_table f p d ≡ a → (b : Bool) → is_none (f.identities d).copied ≡ b → (l : Bool) → has_log f p ≡ l → (s : Bool) → has_supers f p ≡ s
        → part_by a b l s ≡ None → IsUndamaged f p d
    of true table false copy true log true supers at =
        record { table = table; copy = none_copied (f.identities d).copied copy; log = log; supers = supers }
    of true table false copy true log false supers at = absurd (none-some in_superblock (sym at))
    of true table false copy false log s supers at = absurd (none-some in_log (sym at))
    of true table true copy l log s supers at = absurd (none-some in_state (sym at))
    of false table b copy l log s supers at = absurd (none-some in_table (sym at))

some_copied : (o : Option Copied) → is_some o ≡ true → is_none o ≡ false
some_copied None is = absurd (both_ways false refl is)
some_copied (Some copy) is = refl

-- a drive with its table, a copy and a sound log wants a superblock alone
superblocks_alone : (f : Found) (p d : ℕ) → f.seats p ≡ Some d → has_table f p d ≡ true → is_none (f.identities d).copied ≡ false → has_log f p ≡ true
    → damage_of f p ≡ (if not (has_supers f p) then Some in_superblock else None)
unfolding damage_of
superblocks_alone f p d seat table copy log =
    ap (option_and_then (damage_on f p)) seat
    ∙ ap₂ (λ a b. part_by a b (has_log f p) (has_supers f p)) table copy
    ∙ ap (λ l. part_by true false l (has_supers f p)) log

pub no_damage : (f : Found) (p d : ℕ) → f.seats p ≡ Some d → IsUndamaged f p d → damage_of f p ≡ None
no_damage f p d seat fine =
    superblocks_alone f p d seat fine.table (some_copied (f.identities d).copied fine.copy) fine.log
    ∙ ap (λ s. if not s then Some in_superblock else None) fine.supers

-- nor where there is no drive
pub no_drive : (f : Found) (p : ℕ) → f.seats p ≡ None → damage_of f p ≡ None
unfolding damage_of
no_drive f p free = ap (option_and_then (damage_on f p)) free

-- no place is damaged, or the first one is
damage_none : (o : Option Part) → is_some o ≡ false → o ≡ None
damage_none None is = refl
damage_none (Some part) is = absurd (both_ways true is refl)

pub none_damaged : (f : Found) (p : ℕ) → first_damaged f ≡ None → is_current f.state p ≡ true → damage_of f p ≡ None
none_damaged f p none counts = of (find (λ place. is_some (damage_of f place)) (current_places f.state)) refl none
  where
    lacks : (q : ℕ) (o : Option Part) → damage_of f q ≡ o → is_some o ≡ true → option_map (damaged q) o ≡ None → ⊥
    lacks q None is some at = both_ways false refl some
    lacks q (Some part) is some at = none-some (damaged q part) (sym at)

    of : (o : Option ℕ) → find (λ place. is_some (damage_of f place)) (current_places f.state) ≡ o
        → option_and_then (λ place. option_map (damaged place) (damage_of f place)) o ≡ None → damage_of f p ≡ None
    of None is at = damage_none (damage_of f p) (find_false (λ place. is_some (damage_of f place)) (current_places f.state) p is (names_current f.state p ∙ counts))
    of (Some q) is at =
        let passes = (find_passes (λ place. is_some (damage_of f place)) (current_places f.state) q is).0 in
        absurd (lacks q (damage_of f q) refl passes at)

pub no_damages : (f : Found) → ((p : ℕ) → is_current f.state p ≡ true → damage_of f p ≡ None) → first_damaged f ≡ None
no_damages f none =
    ap (option_and_then (λ place. option_map (damaged place) (damage_of f place)))
    (none_found (λ place. is_some (damage_of f place)) (current_places f.state)
    (λ p among. ap is_some (none p (sym (names_current f.state p) ∙ among))))

-- ---- no refusal

-- not many drives are wanting then
pub unrefused_few : (f : Found) → refused_by f ≡ None → absent_count f ≤ 1
unfolding refused_by
unrefused_few f none = of (nat_lt 1 (absent_count f)) refl none
  where
    of : (b : Bool) → nat_lt 1 (absent_count f) ≡ b
        → (if b then Some (absent (absent_count f)) else option_or (first_damaged f) (option_or (option_map too_few (find (is_too_few f) (arrays_of f)))
        (option_or (option_map dirty_degraded (find (is_dirty_degraded f) (arrays_of f))) (option_map bad_volume (first_bad (joined_arrays f)))))) ≡ None
        → absent_count f ≤ 1
    of true many at = absurd (none-some (absent (absent_count f)) (sym at))
    of false few at = elim (cases_lt 1 (absent_count f)) [
      | inl more ↦ absurd (both_ways (nat_lt 1 (absent_count f)) few (lt-ltb 1 (absent_count f) more))
      | inr least ↦ least
    ]

pub unrefused : (f : Found) → refused_by f ≡ None → (first_damaged f ≡ None) × (first_bad (joined_arrays f) ≡ None)
unfolding refused_by
unrefused f none =
    of (nat_lt 1 (absent_count f)) (first_damaged f) (option_map too_few (find (is_too_few f) (arrays_of f)))
    (option_map dirty_degraded (find (is_dirty_degraded f) (arrays_of f))) (first_bad (joined_arrays f)) none
  where
    of : (b : Bool) (x y z : Option Refusal) (o : Option ℕ)
        → (if b then Some (absent (absent_count f)) else option_or x (option_or y (option_or z (option_map bad_volume o)))) ≡ None → (x ≡ None) × (o ≡ None)
    of true x y z o at = absurd (none-some (absent (absent_count f)) (sym at))
    of false (Some x) y z o at = absurd (none-some x (sym at))
    of false None (Some y) z o at = absurd (none-some y (sym at))
    of false None None (Some z) o at = absurd (none-some z (sym at))
    of false None None None (Some n) at = absurd (none-some (bad_volume n) (sym at))
    of false None None None None at = (refl, refl)

pub not_refused : (f : Found) → absent_count f ≤ 1 → first_damaged f ≡ None → find (is_too_few f) (arrays_of f) ≡ None
    → find (is_dirty_degraded f) (arrays_of f) ≡ None → first_bad (joined_arrays f) ≡ None → refused_by f ≡ None
unfolding refused_by
not_refused f few undamaged enough clean good =
    ap₂ (λ b x. if b then Some (absent (absent_count f)) else option_or x (option_or (option_map too_few (find (is_too_few f) (arrays_of f)))
    (option_or (option_map dirty_degraded (find (is_dirty_degraded f) (arrays_of f))) (option_map bad_volume (first_bad (joined_arrays f)))))) (low few) undamaged
    ∙ ap₂ (λ x y. option_or (option_map too_few x) (option_or (option_map dirty_degraded y) (option_map bad_volume (first_bad (joined_arrays f))))) enough clean
    ∙ ap (option_map bad_volume) good
  where
    low : absent_count f ≤ 1 → nat_lt 1 (absent_count f) ≡ false
    low few = le-ltb 1 (absent_count f) few

pub unrefused_by : (disks : Disks) (c : Image) (f : Found) → found disks c ≡ Some f → refusal_of disks c ≡ None → refused_by f ≡ None
unfolding refusal_of
unrefused_by disks c f is none = of (standing disks c) none
  where
    by : (b : Bool) → (if b then Some two_pools else option_map_or refused_by (found disks c) (Some no_pool)) ≡ None → refused_by f ≡ None
    by true at = absurd (none-some two_pools (sym at))
    by false at = sym (ap (λ o. option_map_or refused_by o (Some no_pool)) is) ∙ at

    of : (o : Option Standing) → option_map_or (refused_at disks c) o (Some no_pool) ≡ None → refused_by f ≡ None
    of None at = absurd (none-some no_pool (sym at))
    of (Some x) at = by (has_other_pool disks x) at

-- ---- a reason

-- A disk of another pool is none of the drives, where the copies of these are of the pool.
pub other_pool : (g : Found) → g.state.pool ≡ g.before.state.pool
    → ((p d : ℕ) (copy : Copied) → g.seats p ≡ Some d → (g.before.identities d).copied ≡ Some copy → copy.state.pool ≡ g.state.pool)
    → has_other_pool g.disks g.before ≡ true → HasOtherPool g
other_pool g same own other = of (find is_other (all_disks g.disks)) refl (any_found is_other (all_disks g.disks) ∙ other)
  where
    is_other : ℕ → Bool
    is_other d = option_map_or (λ copy. not (bytes_eq copy.state.pool.0 g.before.state.pool.0)) (g.before.identities d).copied false

    by : (d : ℕ) → d < g.disks.count → (o : Option Copied) → (g.before.identities d).copied ≡ o
        → option_map_or (λ copy. not (bytes_eq copy.state.pool.0 g.before.state.pool.0)) o false ≡ true → HasOtherPool g
    by d low None here is = absurd (both_ways false refl is)
    by d low (Some copy) here is =
        let apart : copy.state.pool ≡ g.state.pool → ⊥ =
        λ alike. both_ways (not (bytes_eq copy.state.pool.0 g.before.state.pool.0)) (ap not ((bytes_eq-Decides copy.state.pool.0 g.before.state.pool.0).1 (ap (λ (k : Id). k.0) (alike ∙ same)))) is in
        record { disk = d; low = low; unseated = λ p seat. apart (own p d copy seat here); copy = copy; says = here; other = apart }

    of : (o : Option ℕ) → find is_other (all_disks g.disks) ≡ o → is_some o ≡ true → HasOtherPool g
    of None none some = absurd (both_ways false refl some)
    of (Some d) lowest some =
        let at = find_passes is_other (all_disks g.disks) d lowest in
        let low = range_below 0 g.disks.count d at.1 in
        by d (omega (arith, low)) (g.before.identities d).copied refl at.0

-- A pool that lacks no more than a drive and has no bad array is refused for one of its arrays or for a damage.
module _ (g : Found) (Excuse : Refusal → Type 0) (few : (n : ℕ) → n < g.state.made → is_too_few g n ≡ true → Excuse (too_few n))
    (dirty : (n : ℕ) → n < g.state.made → is_dirty_degraded g n ≡ true → Excuse (dirty_degraded n))
    (present : absent_count g ≤ 1) (good : first_bad (joined_arrays g) ≡ None) (why : Refusal) where
  pub refused_or : refused_by g ≡ Some why → Excuse why ⊎ (first_damaged g ≡ Some why)
  unfolding refused_by
  refused_or is =
      of (first_damaged g) (find (is_too_few g) (arrays_of g)) (find (is_dirty_degraded g) (arrays_of g)) refl refl refl
      (sym (ap₂ (λ b o. if b then Some (absent (absent_count g)) else option_or (first_damaged g) (option_or (option_map too_few (find (is_too_few g) (arrays_of g)))
      (option_or (option_map dirty_degraded (find (is_dirty_degraded g) (arrays_of g))) (option_map bad_volume o)))) (le-ltb 1 (absent_count g) present) good)
      ∙ is)
    where
      below : (n : ℕ) → names (arrays_of g) n ≡ true → n < g.state.made
      below n among = let low = range_below 0 g.state.made n among in omega (arith, low)

      of : (x : Option Refusal) (a b : Option ℕ) → first_damaged g ≡ x → find (is_too_few g) (arrays_of g) ≡ a → find (is_dirty_degraded g) (arrays_of g) ≡ b
          → option_or x (option_or (option_map too_few a) (option_or (option_map dirty_degraded b) None)) ≡ Some why → Excuse why ⊎ (first_damaged g ≡ Some why)
      of (Some r) a b wants one two at = inr (wants ∙ at)
      of None (Some n) b wants one two at =
          let lacks = find_passes (is_too_few g) (arrays_of g) n one in
          inl (subst Excuse (some_same (too_few n) why at) (few n (below n lacks.1) lacks.0))
      of None None (Some n) wants one two at =
          let lacks = find_passes (is_dirty_degraded g) (arrays_of g) n two in
          inl (subst Excuse (some_same (dirty_degraded n) why at) (dirty n (below n lacks.1) lacks.0))
      of None None None wants one two at = absurd (none-some why at)

-- Where all its drives are there and their copies are of it, so are contents that have it, or for another pool's disk.
module _ (g : Found) (Excuse : Refusal → Type 0) (others : HasOtherPool g → Excuse two_pools)
    (few : (n : ℕ) → n < g.state.made → is_too_few g n ≡ true → Excuse (too_few n))
    (dirty : (n : ℕ) → n < g.state.made → is_dirty_degraded g n ≡ true → Excuse (dirty_degraded n))
    (present : absent_count g ≡ 0) (good : first_bad (joined_arrays g) ≡ None) (why : Refusal) where
  pub refused_so : (c : Image) → standing g.disks c ≡ Some g.before → found g.disks c ≡ Some g → g.state.pool ≡ g.before.state.pool
      → ((p d : ℕ) (copy : Copied) → g.seats p ≡ Some d → (g.before.identities d).copied ≡ Some copy → copy.state.pool ≡ g.state.pool)
      → refusal_of g.disks c ≡ Some why → Excuse why ⊎ (first_damaged g ≡ Some why)
  unfolding refusal_of
  refused_so c stands found_at same own is =
      of (has_other_pool g.disks g.before) refl (sym (ap (λ o. option_map_or (refused_at g.disks c) o (Some no_pool)) stands) ∙ is)
    where
      of : (b : Bool) → has_other_pool g.disks g.before ≡ b → (if b then Some two_pools else option_map_or refused_by (found g.disks c) (Some no_pool)) ≡ Some why
          → Excuse why ⊎ (first_damaged g ≡ Some why)
      of true other at = inl (subst Excuse (some_same two_pools why at) (others (other_pool g same own other)))
      of false none at =
          refused_or g Excuse few dirty (let none = present in omega (arith, none)) good why (sym (ap (λ o. option_map_or refused_by o (Some no_pool)) found_at) ∙ at)

-- ---- tables

-- Each drive of a pool that isn't refused has its table.
pub tables_meant : (disks : Disks) (c : Image) (f : Found) → found disks c ≡ Some f → refusal_of disks c ≡ None → (p d : ℕ) → f.seats p ≡ Some d → has_table f p d ≡ true
tables_meant disks c f is none p d seat =
    let current = (seat_ahead f.state f.disks f.identities p d (sym ((found_is disks c f is).0.seats p) ∙ seat)).current in
    (undamaged f p d seat (none_damaged f p (unrefused f (unrefused_by disks c f is none)).0 current)).table

pub stands_at : (disks : Disks) (c : Image) (s : State) → newest disks (identities_of disks c) ≡ Some s → standing disks c ≡ Some (standing_by disks c s)
unfolding standing
stands_at disks c s is = ap (option_map (standing_by disks c)) is

pub none_any : (test : ℕ → Bool) (a m : ℕ) → ((k : ℕ) → k < a + m → test k ≡ false) → list_any test (range_with_len a m) ≡ false
none_any test a zero none = refl
none_any test a (suc m) none = ap₂ (λ x y. x || y) (none a (omega arith)) (none_any test (a + 1) m (λ k low. none k (omega (arith, low))))

pub any_none : (test : ℕ → Bool) (a m k : ℕ) → list_any test (range_with_len a m) ≡ false → a ≤ k → k < a + m → test k ≡ false
any_none test a zero k none least most = absurd (omega (arith, least, most))
any_none test a (suc m) k none least most = elim (cases_lt a k) [
  | inl more ↦ any_none test (a + 1) m k (second (test a) (list_any test (range_with_len (a + 1) m)) none) (omega (arith, more)) (omega (arith, most))
  | inr here ↦ (let same : k ≡ a = omega (arith, least, here) in ap test same ∙ first (test a) (list_any test (range_with_len (a + 1) m)) none)
]
  where
    first : (x y : Bool) → (x || y) ≡ false → x ≡ false
    first true y is = absurd (both_ways true is refl)
    first false y is = refl

    second : (x y : Bool) → (x || y) ≡ false → y ≡ false
    second true y is = absurd (both_ways true is refl)
    second false y is = is

module _ (disks : Disks) (c : Image) (s : State) (newest_is : newest disks (identities_of disks c) ≡ Some s)
    (w : IsWholePool disks c (pool_at disks c s)) where
  abbrev f : Found
  f = pool_at disks c s

  abbrev foreign : Disks → Image → ℕ → Bool
  foreign h i d = option_map_or (λ copy. not (bytes_eq copy.state.pool.0 s.pool.0)) (identities_of h i d).copied false

  -- no disk is of another pool, and the pool isn't refused
  pub means_of : (has_other_pool disks f.before ≡ false) × (refused_by f ≡ None)
  unfolding refusal_of
  means_of =
      of (has_other_pool disks f.before) refl
      (sym (ap (λ o. option_map_or (refused_at disks c) o (Some no_pool)) (stands_at disks c s newest_is)) ∙ w.means)
    where
      of : (b : Bool) → has_other_pool disks f.before ≡ b → (if b then Some two_pools else option_map_or refused_by (found disks c) (Some no_pool)) ≡ None
          → (has_other_pool disks f.before ≡ false) × (refused_by f ≡ None)
      of true is at = absurd (none-some two_pools (sym at))
      of false is at = (is, sym (ap (λ o. option_map_or refused_by o (Some no_pool)) w.is_found) ∙ at)

  pub parts_of : (q e : ℕ) → is_current s q ≡ true → f.seats q ≡ Some e → IsUndamaged f q e
  parts_of q e counts seat = undamaged f q e seat (none_damaged f q (unrefused f means_of.1).0 counts)

  module _ (p d : ℕ) (seat : f.seats p ≡ Some d) where
    abbrev less : Disks
    less = fewer disks c s newest_is w p d seat

    abbrev left : Image
    left = rest disks c s newest_is w p d seat

    -- another place's drive has a copy of the state
    copy_beside : (e : ℕ) × (copy : Copied) × (e < less.count) × ((identities_of less left e).copied ≡ Some copy) × (copy.state ≡ s)
    copy_beside =
        let near = beside disks c s newest_is w p d seat in
        let one = seat_there disks c s newest_is w _ near.1 in
        let e = one.0 in
        let is = disk_back disks c s newest_is w p d seat _ e near.0 one.1 in
        let low = seat_inside s disks f.identities _ e one.1 in
        of e (f.identities e).copied refl (parts_of _ e near.1 one.1).copy
        (λ copy here. (
          back d e,
          copy,
          back_inside d e disks.count (other_disk disks c s newest_is w p d seat _ e near.0 one.1) (inside disks c s newest_is w p d seat) low,
          ap (λ k. (f.identities k).copied) is ∙ here,
          w.sound.copies e copy low here (w.sound.epochs _ e copy one.1 here),
        ))
      where
        of : {Goal : Type 0} (e : ℕ) (o : Option Copied) → (f.identities e).copied ≡ o → is_some o ≡ true → ((copy : Copied) → (f.identities e).copied ≡ Some copy → Goal) → Goal
        of e None is some next = absurd (both_ways false refl some)
        of e (Some copy) is some next = next copy is

    pub newest_now : newest less (identities_of less left) ≡ Some s
    newest_now =
        let one = copy_beside in
        newest_latest (λ k. (identities_of less left k).copied) less.count one.0 one.1 s one.2 one.3 one.4 each
      where
        each : (k : ℕ) (copy : Copied) → k < less.count → (identities_of less left k).copied ≡ Some copy → IsNoLater s copy
        each k copy low here =
            let within = skip_inside d k disks.count (inside disks c s newest_is w p d seat) low in
            let most = latest f (is_found disks c s newest_is w) (skip d k) copy within here in
            elim (cases_lt copy.state.epoch s.epoch) [
              | inl lower ↦ inl lower
              | inr from ↦ inr (w.sound.copies (skip d k) copy within here (omega (arith, most, from)))
            ]

    pub found_now : found less left ≡ Some (pool_at less left s)
    found_now = found_at less left s newest_now (idle_now disks c s newest_is w p d seat)

    pub one_pool : has_other_pool less (pool_at less left s).before ≡ false
    one_pool =
        none_any (foreign less left) 0 less.count
        (λ k low. any_none (foreign disks c) 0 disks.count (skip d k) means_of.0 (omega arith)
        (let within = skip_inside d k disks.count (inside disks c s newest_is w p d seat) (omega (arith, low)) in omega (arith, within)))

    pub stands_now : standing less left ≡ Some (standing_by less left s)
    stands_now = stands_at less left s newest_now
