-- A drive at the next place of a pool's list: the state with it, and the arrays by it.
use Rattle.std.proofs.Common.{◌≡◌, ◌≢◌, ◌⊎◌, ℕ, zero, suc, ◌+◌, ◌<◌, ◌≤◌, ◌^◌, ◌==◌, ◌&&◌, ◌||◌, not, nat_le, nat_lt, if◌then◌else◌, Bool, true, false, List, [], ◌∷◌, ◌++◌, length, slice_get, slice_set, Option, Some, unwrap_or, refl, sym, ap, subst, ◌∙◌, inl, inr, eq-eqb, lt-ltb, ltb-true, arith, length-append}
use Rattle.std.specs.List.{list_all}
use Rattle.std.specs.Option.{option_map_or}
use Rattle.std.proofs.lemmas.Bool.{and_from, and_parts, both_ways, cases_eq, cases_lt, le-leb as le_leb, leb-true, ne_eqb}
use Rattle.std.proofs.lemmas.Option.{slice_get_past}
use Rattle.rack.specs.Seen.{RackView}
use Rattle.md_super.specs.declared.superblock.Super.{Super}
use Rattle.md_super.specs.Profile.{is_mirror}
use Rattle.pool_state.specs.Valid.{is_valid, is_drive, is_extent, has_places, has_arrays, has_epoch, place_of as planned_place}
use Rattle.pool_state.specs.declared.contents.Drive.{Drive}
use Rattle.pool_state.specs.declared.contents.Plan.{Plan}
use Rattle.pool_state.specs.declared.contents.Plan.TheVariants.{Add}
use Rattle.pool_state.specs.declared.contents.State.{State}
use Rattle.array_image.specs.Places.{log_sectors, log_slice}
use Rattle.array_image.specs.States.{is_current}
use Rattle.array_image.specs.Supers.{has_roles, named_places}
use Rattle.array_model.specs.View.{View, has_gone, place_at}
use Rattle.array_core.specs.Seats.{renewed}
use Rattle.raid_laws.specs.Enlisting.{IsEnlisted, next_drive, with_drive}
use Rattle.raid_laws.specs.Missing.{raised}
use Rattle.raid_laws.specs.Moves.{AreCaused, IsHeeded, IsSeated, IsSet, RaisesBy}
use Rattle.raid_laws.specs.Raid.{Raid, gone_in, is_left}
use Rattle.raid_laws.proofs.Committed.{raised_range}
use Rattle.raid_laws.proofs.Others.{place_listed}
use Rattle.raid_laws.proofs.Whole.{heeded_left}
use Rattle.growth_laws.proofs.Stating.{loses_same, raised_up}
use Rattle.growth_laws.specs.NewDrives.{TakesIn}
use Rattle.growth_laws.specs.Losses.{LosesBook}
use Rattle.transition_laws.specs.Changes.{changed, enlisted, enlists, put_drive}

-- ---- the list

-- the new drive
abbrev pub new_drive : (units : ℕ) → State → Drive
new_drive units s = record { id = next_drive s; units = units; missing = false }

pub put_next : (place : ℕ) (d : Drive) (ds : List Drive) → place ≡ length ds → put_drive place d ds ≡ ds ++ d ∷ []
put_next place d ds next = ap (λ b. if b then ds ++ d ∷ [] else slice_set ds place d) (eq-eqb place (length ds) next)

drives_next : (place units : ℕ) (plan : Plan) (s : State) → place ≡ length s.drives.items
    → (enlisted place units plan s).drives.items ≡ s.drives.items ++ new_drive units s ∷ []
drives_next place units plan s next = put_next place (new_drive units s) s.drives.items next

pub more_drives : (place units : ℕ) (plan : Plan) (s : State) → place ≡ length s.drives.items
    → length (enlisted place units plan s).drives.items ≡ length s.drives.items + 1
more_drives place units plan s next = ap length (drives_next place units plan s next) ∙ length-append s.drives.items (new_drive units s ∷ [])

-- an element of a list with one more behind it
get_before : (ds : List Drive) (d : Drive) (p : ℕ) → p < length ds → slice_get (ds ++ d ∷ []) p ≡ slice_get ds p
get_before [] d p low = absurd (omega (arith, low))
get_before (x ∷ ds) d zero low = refl
get_before (x ∷ ds) d (suc p) low = get_before ds d p (omega (arith, low))

get_last : (ds : List Drive) (d : Drive) → slice_get (ds ++ d ∷ []) (length ds) ≡ Some d
get_last [] d = refl
get_last (x ∷ ds) d = get_last ds d

-- the next place is current by it, and all others are as before
pub current_next : (place units : ℕ) (plan : Plan) (s : State) (p : ℕ) → place ≡ length s.drives.items
    → is_current (enlisted place units plan s) p ≡ ((p == place) || is_current s p)
current_next place units plan s p next =
    let ds = s.drives.items in
    let d = new_drive units s in
    let list = drives_next place units plan s next in
    let test : Option Drive → Bool = λ o. option_map_or (λ (z : Drive). not z.missing) o false in
    ap (λ (es : List Drive). test (slice_get es p)) list
    ∙ elim (cases_eq p place) [
      | inl same ↦
          ap (λ k. test (slice_get (ds ++ d ∷ []) k)) (same ∙ next) ∙ ap test (get_last ds d)
          ∙ sym (ap (λ b. b || is_current s p) (eq-eqb p place same))
      | inr other ↦
          ap test (elim (cases_lt p (length ds)) [
            | inl low ↦ get_before ds d p low
            | inr past ↦
                slice_get_past (ds ++ d ∷ []) p (let long = length-append ds (d ∷ []) in omega (arith, past, long, other, next)) ∙ sym (slice_get_past ds p past)
          ])
          ∙ sym (ap (λ b. b || is_current s p) (ne_eqb p place other))
    ]

-- it wasn't current before
pub next_vacant : (place : ℕ) (s : State) → place ≡ length s.drives.items → is_current s place ≡ false
next_vacant place s next =
    ap (λ (o : Option Drive). option_map_or (λ (z : Drive). not z.missing) o false) (slice_get_past s.drives.items place (omega (arith, next)))

all_more : (ds : List Drive) (d : Drive) → list_all is_drive ds ≡ true → is_drive d ≡ true → list_all is_drive (ds ++ d ∷ []) ≡ true
all_more [] d all new = and_from (is_drive d) true new refl
all_more (x ∷ ds) d all new =
    let both = and_parts (is_drive x) (list_all is_drive ds) all in
    and_from (is_drive x) (list_all is_drive (ds ++ d ∷ [])) both.0 (all_more ds d both.1 new)

-- the state is valid for each of its places
pub valid_next : (place units own : ℕ) (s : State) → place ≡ length s.drives.items → place < 16 → 0 < units → units < 2 ^ 41 → own < place + 1
    → is_valid s 0 ≡ true → is_valid (enlisted place units (Add place) s) own ≡ true
valid_next place units own s next few some most low is =
    let ds = s.drives.items in
    let t = enlisted place units (Add place) s in
    let one = and_parts (is_extent s.extent) (has_places s 0 && (has_arrays s && (list_all is_drive ds && has_epoch s))) is in
    let two = and_parts (has_places s 0) (has_arrays s && (list_all is_drive ds && has_epoch s)) one.1 in
    let three = and_parts (has_arrays s) (list_all is_drive ds && has_epoch s) two.1 in
    let four = and_parts (list_all is_drive ds) (has_epoch s) three.1 in
    let five = and_parts (nat_le 1 s.epoch) (nat_lt s.epoch (2 ^ 63)) four.1 in
    let places = and_parts (nat_le 2 (length ds) && nat_le (length ds) 16) (nat_lt 0 (length ds) && nat_lt (planned_place s.plan) (length ds)) two.0 in
    let least = leb-true 2 (length ds) (and_parts (nat_le 2 (length ds)) (nat_le (length ds) 16) places.0).0 in
    let count = more_drives place units (Add place) s next in
    let drive : is_drive (new_drive units s) ≡ true = and_from (nat_le 1 units) (nat_lt units (2 ^ 41)) (le_leb 1 units (omega (arith, some))) (lt-ltb units (2 ^ 41) most) in
    let range = raised_range s.epoch in
    and_from (is_extent s.extent) _ one.0
    (and_from (has_places t own) _
    (and_from (nat_le 2 (length t.drives.items) && nat_le (length t.drives.items) 16) (nat_lt own (length t.drives.items) && nat_lt place (length t.drives.items))
    (and_from (nat_le 2 (length t.drives.items)) (nat_le (length t.drives.items) 16) (le_leb 2 (length t.drives.items) (omega (arith, count, least)))
    (le_leb (length t.drives.items) 16 (omega (arith, count, next, few))))
    (and_from (nat_lt own (length t.drives.items)) (nat_lt place (length t.drives.items)) (lt-ltb own (length t.drives.items) (omega (arith, count, next, low)))
    (lt-ltb place (length t.drives.items) (omega (arith, count, next)))))
    (and_from (has_arrays s) _ three.0
    (and_from (list_all is_drive t.drives.items) _
    (ap (list_all is_drive) (drives_next place units (Add place) s next) ∙ all_more ds (new_drive units s) four.0 drive)
    (and_from (nat_le 1 (raised s.epoch)) (nat_lt (raised s.epoch) (2 ^ 63))
    (le_leb 1 (raised s.epoch) (let first = leb-true 1 s.epoch five.0 in let up = range.0 in omega (arith, first, up)))
    (lt-ltb (raised s.epoch) (2 ^ 63) (range.1 (ltb-true s.epoch (2 ^ 63) five.1)))))))

-- ---- the arrays

all_weaker : (f g : ℕ → Bool) (ps : List ℕ) → ((p : ℕ) → f p ≡ true → g p ≡ true) → list_all f ps ≡ true → list_all g ps ≡ true
all_weaker f g [] weaker all = refl
all_weaker f g (p ∷ ps) weaker all =
    let both = and_parts (f p) (list_all f ps) all in
    and_from (g p) (list_all g ps) (weaker p both.0) (all_weaker f g ps weaker both.1)

-- roles name places of a longer list, too
pub roles_longer : (k m : ℕ) (t : Super) → k ≤ m → has_roles k t ≡ true → has_roles m t ≡ true
roles_longer k m t more roles =
    let one = and_parts (length (named_places t) == t.raid_disks) _ roles in
    let two = and_parts (list_all (λ p. nat_lt p k) (named_places t)) _ one.1 in
    and_from (length (named_places t) == t.raid_disks) _ one.0
    (and_from (list_all (λ p. nat_lt p m) (named_places t)) _
    (all_weaker (λ p. nat_lt p k) (λ p. nat_lt p m) (named_places t)
    (λ p low. lt-ltb p m (let below = ltb-true p k low in omega (arith, below, more))) two.0) two.1)

-- no member is on the next place
pub apart_next : (place : ℕ) (s : State) (n : ℕ) (u : View) (x : RackView) (k : ℕ) → place ≡ length s.drives.items → IsSeated s n u x → k < u.truth.raid_disks
    → place_at u k ≢ place
apart_next place s n u x k next seated low here =
    let at = seated.is_array.placed k low in
    let is : place_at u k ≡ at.0 = ap (λ o. unwrap_or o 16) at.1 in
    let most = few (is_mirror u.truth) seated.is_array.most in
    let below = place_listed (length s.drives.items) u.truth k at.0 seated.is_of_pool.roles (omega (arith, most, low)) at.1 in
    omega (arith, is, here, below, next)
  where
    few : (b : Bool) → u.truth.raid_disks ≤ (if b then 2 else 16) → u.truth.raid_disks ≤ 16
    few true most = omega (arith, most)
    few false most = most

-- an array of the pool is one by the state with the drive
pub seated_next : (place units : ℕ) (plan : Plan) (s : State) (n : ℕ) (u : View) (x : RackView) → place ≡ length s.drives.items → IsSeated s n u x
    → IsSeated (enlisted place units plan s) n u x
seated_next place units plan s n u x next seated =
    let pool = seated.is_of_pool in
    record {
      is_array = seated.is_array;
      number = seated.number;
      slices = seated.slices;
      marks = λ k low.
          seated.marks k low
          ∙ ap (λ b. Some (not (b && not (has_gone u (place_at u k)))))
          (sym (current_next place units plan s (place_at u k) next ∙ ap (λ b. b || is_current s (place_at u k)) (ne_eqb (place_at u k) place (apart_next place s n u x k next seated low))));
      is_of_pool = record {
        set = pool.set;
        profile = pool.profile;
        events = pool.events;
        events_end = pool.events_end;
        row = pool.row;
        roles = roles_longer (length s.drives.items) (length (enlisted place units plan s).drives.items) u.truth
            (let more = more_drives place units plan s next in omega (arith, more)) pool.roles;
        unsynced = pool.unsynced;
        synced = λ young part.
            elim (pool.synced young part) [
              | inl rows ↦ inl rows
              | inr lost ↦
                  inr (lost.0, current_next place units plan s lost.0 next ∙ ap (λ b. (lost.0 == place) || b) lost.1 ∙ or_true (lost.0 == place), lost.2)
            ];
        zeroed = pool.zeroed;
        rows = pool.rows;
      };
    }
  where
    or_true : (b : Bool) → (b || true) ≡ true
    or_true true = refl
    or_true false = refl

-- The arrays of a pool over slices that the new place's disk has already: its log slice.
pub record MayBeNext (place units : ℕ) (v : Raid) (x : RackView) : Type 0 where
  pub set : IsSet v x
  pub heeded : IsHeeded v
  pub next : place ≡ length v.state.drives.items
  pub some : 0 < place
  pub few : place < 16
  pub units_some : 0 < units
  pub units_most : units < 2 ^ 41
  pub log : x.sectors (log_slice place) ≡ log_sectors

-- the pool with the drive, which is a member of no array
abbrev pub next_raid : (place units : ℕ) → Raid → Raid
next_raid place units v = record v { state = enlisted place units (Add place) v.state }

module _ (place units : ℕ) (v : Raid) (x : RackView) (may : MayBeNext place units v x) where
  pub next_left : (p : ℕ) → is_left (next_raid place units v) p ≡ true → (p ≡ place) ⊎ (is_left v p ≡ true)
  next_left p left =
      let current = (and_parts (is_current (next_raid place units v).state p) (not (gone_in (next_raid place units v) p)) left).0 in
      elim (cases_eq p place) [
        | inl same ↦ inl same
        | inr other ↦
            inr (heeded_left v p may.heeded
            (sym (current_next place units (Add place) v.state p may.next ∙ ap (λ b. b || is_current v.state p) (ne_eqb p place other)) ∙ current))
      ]

  pub next_heeded : IsHeeded (next_raid place units v)
  next_heeded n low = may.heeded n low

  pub next_set : IsSet (next_raid place units v) x
  next_set = record {
    fit = may.set.fit;
    lasting = may.set.lasting;
    disks = may.set.disks;
    few = let more = more_drives place units (Add place) v.state may.next in let next = may.next in let few = may.few in omega (arith, more, next, few);
    most = may.set.most;
    valid = λ p low.
        valid_next place units p v.state may.next may.few may.units_some may.units_most
        (let more = more_drives place units (Add place) v.state may.next in let next = may.next in omega (arith, more, next, low))
        (may.set.valid 0 (let next = may.next in let some = may.some in omega (arith, next, some)));
    logs = λ p left.
        elim (next_left p left) [
          | inl same ↦ ap (λ q. x.sectors (log_slice q)) same ∙ may.log
          | inr was ↦ may.set.logs p was
        ];
    arrays = λ n low. seated_next place units (Add place) v.state n (v.arrays n) x may.next (may.set.arrays n low);
    marked = λ n low is.
        elim (may.set.marked n low is) [
          | inl all ↦ inl all
          | inr lost ↦
              inr (lost.0, current_next place units (Add place) v.state lost.0 may.next ∙ ap (λ b. (lost.0 == place) || b) lost.1 ∙ or_true (lost.0 == place), lost.2)
        ];
  }
    where
      or_true : (b : Bool) → (b || true) ≡ true
      or_true true = refl
      or_true false = refl

  -- what was current is so
  pub next_current : (p : ℕ) → is_current v.state p ≡ true → is_current (next_raid place units v).state p ≡ true
  next_current p current =
      current_next place units (Add place) v.state p may.next ∙ ap (λ b. (p == place) || b) current ∙ or_true (p == place)
    where
      or_true : (b : Bool) → (b || true) ≡ true
      or_true true = refl
      or_true false = refl

  pub next_raises : RaisesBy 1 v (next_raid place units v)
  next_raises = record {
    number = omega arith;
    epoch = raised_up v.state.epoch;
    events = λ n low. omega arith;
  }

-- ---- a drive on a place of the list

-- it is what such a drive makes of the book
pub changed_listed : (place units : ℕ) (plan : Plan) (joining : ℕ → Bool) (v : Raid) → place < length v.state.drives.items
    → with_drive place units plan joining v ≡ changed (enlists place units plan joining) v
changed_listed place units plan joining v low =
    let s = v.state in
    let ds = s.drives.items in
    let d = new_drive units s in
    let apart : place ≢ length ds = λ same. omega (arith, same, low) in
    sym (ap (λ (b : Bool). record (with_drive place units plan joining v) {
      state = record (with_drive place units plan joining v).state { drives = record { items = if b then ds ++ d ∷ [] else slice_set ds place d } };
    }) (ne_eqb place (length ds) apart))

pub enlisted_takes : (place units : ℕ) (plan : Plan) (joining : ℕ → Bool) (v w : Raid) (a b : RackView) → place < length v.state.drives.items
    → IsEnlisted place units plan joining v w a b → TakesIn place units plan joining v w a b
enlisted_takes place units plan joining v w a b low is =
    let u = with_drive place units plan joining v in
    let loses : LosesBook u w = record {
      marks = is.book;
      plan = is.plan_is;
      arrays = is.arrays;
      number = is.number;
      events = λ n inside. let e = same (joining n) (v.arrays n) in let more = is.events n inside in omega (arith, e, more);
    } in
    let same_book = changed_listed place units plan joining v low in
    record {
      turns = record {
        mid = v;
        before = loses_same v;
        is_done = true;
        answer = λ done. refl;
        after = subst (λ (r : Raid). LosesBook r w) same_book loses;
        refused = λ not. both_ways true not refl;
      };
      caused = subst (λ (r : Raid). AreCaused r w a b) same_book is.caused;
      heeded = is.heeded;
    }
  where
    same : (b : Bool) (u : View) → (if b then renewed place (next_drive v.state) u else u).truth.events ≡ u.truth.events
    same true u = refl
    same false u = refl
