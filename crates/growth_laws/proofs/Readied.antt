-- A young array that is zeroed gets ready: the book is one of a pool still.
use Rattle.std.proofs.Common.{◌≡◌, ℕ, ◌+◌, ◌^◌, ◌<◌, ◌≤◌, Bool, true, false, ◌==◌, ◌&&◌, ◌⊎◌, not, nat_lt, nat_le, if◌then◌else◌, [], refl, sym, ap, subst, inl, inr, eqb-true, lt-ltb, ltb-true, arith}
use Rattle.std.proofs.lemmas.Bool.{cases_lt, both_ways, and_parts, and_from, le-leb, leb-true}
use Rattle.std.specs.List.{list_all}
use Rattle.rack.specs.Seen.{RackView}
use Rattle.pool_state.specs.Valid.{is_valid, is_drive, is_extent, has_arrays, has_epoch, has_places}
use Rattle.pool_state.specs.declared.contents.State.{State}
use Rattle.pool_state.specs.declared.contents.Work.TheVariants.{Ready}
use Rattle.array_image.specs.SoundArray.{first_unsynced}
use Rattle.array_model.specs.View.{View, is_whole_array, is_whole_seat, rows_of, sectors_of}
use Rattle.array_core.specs.Seats.{ready}
use Rattle.array_image.specs.States.{is_current}
use Rattle.array_image.specs.Supers.{is_reshaping}
use Rattle.raid_laws.specs.Raid.{Raid, gone_in}
use Rattle.raid_laws.specs.Missing.{raised}
use Rattle.raid_laws.specs.Moves.{IsHeeded, IsMarkedWhole, IsSeated, IsSet}
use Rattle.raid_laws.proofs.Committed.{raised_range}
use Rattle.raid_laws.proofs.Whole.{heeded_left, heeded_whole}
use Rattle.transition_laws.specs.Changes.{changed, readied}
use Rattle.growth_laws.specs.Growing.{is_due}

-- ---- the state

-- the state in which one more array is the volume's
abbrev pub readied_state : State → State
readied_state s = record s { epoch = raised s.epoch; joined = s.joined + 1 }

pub valid_readied : (s : State) (own : ℕ) → s.joined + 1 ≡ s.made → is_valid s own ≡ true → is_valid (readied_state s) own ≡ true
valid_readied s own last is =
    let one = and_parts (is_extent s.extent) (has_places s own && (has_arrays s && (list_all is_drive s.drives.items && has_epoch s))) is in
    let two = and_parts (has_places s own) (has_arrays s && (list_all is_drive s.drives.items && has_epoch s)) one.1 in
    let three = and_parts (has_arrays s) (list_all is_drive s.drives.items && has_epoch s) two.1 in
    let four = and_parts (list_all is_drive s.drives.items) (has_epoch s) three.1 in
    let five = and_parts (nat_le 1 s.epoch) (nat_lt s.epoch (2 ^ 63)) four.1 in
    let count = and_parts (nat_le 1 s.made && nat_le s.made 16) (nat_le 1 s.joined && (nat_le s.joined s.made && nat_le s.made (s.joined + 1))) three.0 in
    let low = raised_range s.epoch in
    and_from (is_extent s.extent) _ one.0
    (and_from (has_places s own) _ two.0
    (and_from (has_arrays (readied_state s)) _
    (and_from (nat_le 1 s.made && nat_le s.made 16) _ count.0
    (and_from (nat_le 1 (s.joined + 1)) _ (le-leb 1 (s.joined + 1) (omega arith))
    (and_from (nat_le (s.joined + 1) s.made) (nat_le s.made (s.joined + 1 + 1)) (le-leb (s.joined + 1) s.made (omega (arith, last)))
    (le-leb s.made (s.joined + 1 + 1) (omega (arith, last))))))
    (and_from (list_all is_drive s.drives.items) _ four.0
    (and_from (nat_le 1 (raised s.epoch)) (nat_lt (raised s.epoch) (2 ^ 63))
    (le-leb 1 (raised s.epoch) (let first = leb-true 1 s.epoch five.0 in let up = low.0 in omega (arith, first, up)))
    (lt-ltb (raised s.epoch) (2 ^ 63) (low.1 (ltb-true s.epoch (2 ^ 63) five.1)))))))

-- ---- the array

-- no row of it is left to zero
pub record IsZeroed (u : View) : Type 0 where
  pub young : u.young ≡ true
  pub rows : rows_of u ≤ first_unsynced u.truth

seated_other : (s : State) (n : ℕ) (u : View) (x : RackView) → IsSeated s n u x → IsSeated (readied_state s) n u x
seated_other s n u x seated =
    let pool = seated.is_of_pool in
    record {
      is_array = seated.is_array;
      number = seated.number;
      slices = seated.slices;
      marks = seated.marks;
      is_of_pool = record {
        set = pool.set;
        profile = pool.profile;
        events = pool.events;
        events_end = pool.events_end;
        row = pool.row;
        roles = pool.roles;
        unsynced = pool.unsynced;
        synced = pool.synced;
        zeroed = pool.zeroed;
        rows = pool.rows;
      };
    }

seated_ready : (s : State) (n : ℕ) (u : View) (x : RackView) → IsZeroed u → IsSeated s n u x → IsSeated (readied_state s) n (ready u) x
seated_ready s n u x zeroed seated =
    let a = seated.is_array in
    let pool = seated.is_of_pool in
    let all = zeroed.rows in
    let some = pool.unsynced in
    let most = a.synced in
    record {
      is_array = record {
        few = a.few;
        level = a.level;
        least = a.least;
        most = a.most;
        seats = a.seats;
        devices = a.devices;
        small = a.small;
        whole_rows = a.whole_rows;
        placed = a.placed;
        synced = a.synced;
        reshape = a.reshape;
      };
      number = seated.number;
      slices = record { fit = seated.slices.fit; lasting = seated.slices.lasting; disks = seated.slices.disks; sectors = seated.slices.sectors };
      marks = seated.marks;
      is_of_pool = record {
        set = pool.set;
        profile = pool.profile;
        events = pool.events;
        events_end = pool.events_end;
        row = pool.row;
        roles = pool.roles;
        unsynced = pool.unsynced;
        synced = λ old part. inl (omega (arith, all, some, most));
        zeroed = λ is. absurd (both_ways false refl is);
        rows = pool.rows;
      };
    }

-- ---- the book

pub record MayReady (v : Raid) (number : ℕ) : Type 0 where
  pub youngest : number ≡ v.state.joined
  pub last : v.state.joined + 1 ≡ v.state.made
  pub zeroed : IsZeroed (v.arrays v.state.joined)

pub may_ready : (v : Raid) (number : ℕ) → is_due v (Ready number) ≡ true → MayReady v number
may_ready v number due =
    let u = v.arrays number in
    let one = and_parts (number == v.state.joined) _ due in
    let two = and_parts (v.state.joined + 1 == v.state.made) (u.young && not (nat_lt (first_unsynced u.truth) (rows_of u))) one.1 in
    let three = and_parts u.young (not (nat_lt (first_unsynced u.truth) (rows_of u))) two.1 in
    let same = eqb-true number v.state.joined one.0 in
    record {
      youngest = same;
      last = eqb-true (v.state.joined + 1) v.state.made two.0;
      zeroed = subst (λ k. IsZeroed (v.arrays k)) same (record { young = three.0; rows = high three.1 });
    }
  where
    high : not (nat_lt (first_unsynced (v.arrays number).truth) (rows_of (v.arrays number))) ≡ true → rows_of (v.arrays number) ≤ first_unsynced (v.arrays number).truth
    high is = elim (cases_lt (first_unsynced (v.arrays number).truth) (rows_of (v.arrays number))) [
      | inl low ↦ absurd (both_ways (not (nat_lt (first_unsynced (v.arrays number).truth) (rows_of (v.arrays number)))) (ap not (lt-ltb (first_unsynced (v.arrays number).truth) (rows_of (v.arrays number)) low)) is)
      | inr past ↦ past
    ]

-- what holds of the array that gets ready and of each other one
abbrev readied_view : Raid → ℕ → View
readied_view v k = if k == v.state.joined then ready (v.arrays k) else v.arrays k

by_case : (P : View → Type 0) (v : Raid) (k : ℕ) → (k ≡ v.state.joined → P (ready (v.arrays k))) → P (v.arrays k) → P (readied_view v k)
by_case P v k own other = of (k == v.state.joined) refl
  where
    of : (b : Bool) → (k == v.state.joined) ≡ b → P (if b then ready (v.arrays k) else v.arrays k)
    of true is = own (eqb-true k v.state.joined is)
    of false is = other

pub readied_sectors : (v : Raid) (k : ℕ) → sectors_of ((changed readied v).arrays k) ≡ sectors_of (v.arrays k)
readied_sectors v k = by_case (λ u. sectors_of u ≡ sectors_of (v.arrays k)) v k (λ is. refl) refl

pub readied_events : (v : Raid) (k : ℕ) → ((changed readied v).arrays k).truth.events ≡ (v.arrays k).truth.events
readied_events v k = by_case (λ u. u.truth.events ≡ (v.arrays k).truth.events) v k (λ is. refl) refl

pub readied_heeded : (v : Raid) → IsHeeded v → IsHeeded (changed readied v)
readied_heeded v heeded n low = by_case (λ u. u.went ≡ []) v n (λ is. heeded n low) (heeded n low)

pub readied_set : (v : Raid) (number : ℕ) (x : RackView) → MayReady v number → IsHeeded v → IsSet v x → IsSet (changed readied v) x
readied_set v number x may heeded set = record {
  fit = set.fit;
  lasting = set.lasting;
  disks = set.disks;
  few = set.few;
  most = set.most;
  valid = λ p low. valid_readied v.state p may.last (set.valid p low);
  logs = λ p left. set.logs p (heeded_left v p heeded (and_parts (is_current v.state p) (not (gone_in (changed readied v) p)) left).0);
  arrays = λ n low.
      by_case (λ u. IsSeated (readied_state v.state) n u x) v n
      (λ is. seated_ready v.state n (v.arrays n) x (subst (λ k. IsZeroed (v.arrays k)) (sym is) may.zeroed) (set.arrays n low))
      (seated_other v.state n (v.arrays n) x (set.arrays n low));
  marked = λ n low. marks n low;
}
  where
    whole : (n : ℕ) → n < v.state.made → (v.arrays n).marked ≡ true → is_whole_array (v.arrays n) ≡ true
    whole n low = heeded_whole v n heeded (set.marked n low)

    young_part : (n : ℕ) → (v.arrays n).young ≡ true → is_whole_array (v.arrays n) ≡ true → ⊥
    young_part n young all =
        let u = v.arrays n in
        let rest = and_parts (list_all is_whole_seat u.seats) ((u.resync == rows_of u) && (not u.young && not (is_reshaping u.truth))) all in
        let more = and_parts (u.resync == rows_of u) (not u.young && not (is_reshaping u.truth)) rest.1 in
        both_ways (not u.young) (ap not young) (and_parts (not u.young) (not (is_reshaping u.truth)) more.1).0

    marks : (n : ℕ) → n < v.state.made → IsMarkedWhole (changed readied v) n
    marks n low =
        by_case (λ u. u.marked ≡ true → (is_whole_array u ≡ true) ⊎ ((place : ℕ) × (is_current v.state place ≡ true) × (gone_in (changed readied v) place ≡ true))) v n
        (λ is marked. absurd (young_part n (subst (λ k. (v.arrays k).young ≡ true) (sym is) may.zeroed.young) (whole n low marked)))
        (λ marked. inl (whole n low marked))
