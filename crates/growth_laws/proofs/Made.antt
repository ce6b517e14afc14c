-- A young array is made: the book is one of a pool still, and its arrays are short enough for a volume.
use Rattle.std.proofs.Common.{◌≡◌, ℕ, ◌+◌, ◌*◌, ◌^◌, ◌<◌, ◌≤◌, Bool, true, false, ◌&&◌, not, nat_lt, nat_le, if◌then◌else◌, [], refl, sym, ap, subst, inl, inr, eq-eqb, ne_eqb, lt-ltb, ltb-true, arith}
use Rattle.std.proofs.lemmas.Bool.{cases_eq, both_ways, and_parts, and_from, le-leb, leb-true}
use Rattle.std.specs.List.{list_all}
use Rattle.rack.specs.Seen.{RackView}
use Rattle.pool_state.specs.Valid.{is_valid, is_drive, is_extent, has_arrays, has_epoch, has_places}
use Rattle.pool_state.specs.declared.contents.State.{State}
use Rattle.array_image.specs.SoundArray.{first_unsynced}
use Rattle.array_image.specs.States.{is_current}
use Rattle.array_model.specs.View.{View, is_whole_array, sectors_of}
use Rattle.raid_laws.specs.Raid.{Raid, gone_in}
use Rattle.raid_laws.specs.Missing.{raised}
use Rattle.raid_laws.specs.Moves.{IsHeeded, IsSeated, IsSet, RaisesBy}
use Rattle.raid_laws.proofs.Committed.{raised_range}
use Rattle.raid_laws.proofs.Whole.{heeded_left, heeded_whole}
use Rattle.transition_laws.specs.Changes.{changed, makes}
use Rattle.growth_laws.specs.Growing.{GetsLonger, has_room}
use Rattle.growth_laws.proofs.Room.{sectors_few, short_enough}
use Rattle.growth_laws.proofs.Stating.{raised_up}

-- ---- the state

-- the state in which there is one array more
abbrev pub made_state : State → State
made_state s = record s { epoch = raised s.epoch; made = s.made + 1 }

pub valid_made : (s : State) (own : ℕ) → s.joined ≡ s.made → s.made < 16 → is_valid s own ≡ true → is_valid (made_state s) own ≡ true
valid_made s own all few is =
    let one = and_parts (is_extent s.extent) (has_places s own && (has_arrays s && (list_all is_drive s.drives.items && has_epoch s))) is in
    let two = and_parts (has_places s own) (has_arrays s && (list_all is_drive s.drives.items && has_epoch s)) one.1 in
    let three = and_parts (has_arrays s) (list_all is_drive s.drives.items && has_epoch s) two.1 in
    let four = and_parts (list_all is_drive s.drives.items) (has_epoch s) three.1 in
    let five = and_parts (nat_le 1 s.epoch) (nat_lt s.epoch (2 ^ 63)) four.1 in
    let count = and_parts (nat_le 1 s.made && nat_le s.made 16) (nat_le 1 s.joined && (nat_le s.joined s.made && nat_le s.made (s.joined + 1))) three.0 in
    let joined = and_parts (nat_le 1 s.joined) (nat_le s.joined s.made && nat_le s.made (s.joined + 1)) count.1 in
    let low = raised_range s.epoch in
    and_from (is_extent s.extent) _ one.0
    (and_from (has_places s own) _ two.0
    (and_from (has_arrays (made_state s)) _
    (and_from (nat_le 1 (s.made + 1) && nat_le (s.made + 1) 16) _
    (and_from (nat_le 1 (s.made + 1)) (nat_le (s.made + 1) 16) (le-leb 1 (s.made + 1) (omega arith)) (le-leb (s.made + 1) 16 (omega (arith, few))))
    (and_from (nat_le 1 s.joined) _ joined.0
    (and_from (nat_le s.joined (s.made + 1)) (nat_le (s.made + 1) (s.joined + 1)) (le-leb s.joined (s.made + 1) (omega (arith, all))) (le-leb (s.made + 1) (s.joined + 1) (omega (arith, all))))))
    (and_from (list_all is_drive s.drives.items) _ four.0
    (and_from (nat_le 1 (raised s.epoch)) (nat_lt (raised s.epoch) (2 ^ 63))
    (le-leb 1 (raised s.epoch) (let first = leb-true 1 s.epoch five.0 in let up = low.0 in omega (arith, first, up)))
    (lt-ltb (raised s.epoch) (2 ^ 63) (low.1 (ltb-true s.epoch (2 ^ 63) five.1)))))))

seated_still : (s : State) (n : ℕ) (u : View) (x : RackView) → IsSeated s n u x → IsSeated (made_state s) n u x
seated_still s n u x seated =
    let pool = seated.is_of_pool in
    record {
      is_array = seated.is_array;
      number = seated.number;
      slices = seated.slices;
      marks = seated.marks;
      is_of_pool = record {
        set = pool.set;
        profile = pool.profile;
        events = pool.events;
        events_end = pool.events_end;
        row = pool.row;
        roles = pool.roles;
        unsynced = pool.unsynced;
        synced = pool.synced;
        zeroed = pool.zeroed;
        rows = pool.rows;
      };
    }

-- ---- the book

-- There is room for one array more, and this one is of the pool once there is; nobody went in it, and no mark stands on it.
pub record MayCome (v : Raid) (next : View) (x : RackView) : Type 0 where
  pub joined : v.state.joined ≡ v.state.made
  pub few : v.state.made < 16
  pub seated : IsSeated (made_state v.state) v.state.made next x
  pub went : next.went ≡ []
  pub unmarked : next.marked ≡ false

-- It is young, and no row of it is zeroed.
pub record IsUnzeroed (next : View) : Type 0 where
  pub young : next.young ≡ true
  pub none : first_unsynced next.truth ≡ 0

-- what holds of the new array, and of each other one
pub by_made : (X : ℕ → View → Type 0) (v : Raid) (next : View) (n : ℕ) → n < v.state.made + 1 → X v.state.made next → (n < v.state.made → X n (v.arrays n))
    → X n ((changed (makes next) v).arrays n)
by_made X v next n low own other = elim (cases_eq n v.state.made) [
  | inl same ↦
      subst (λ k. X k ((changed (makes next) v).arrays k)) (sym same)
      (subst (X v.state.made) (sym (ap (λ (b : Bool). if b then next else v.arrays v.state.made) (eq-eqb v.state.made v.state.made refl))) own)
  | inr apart ↦ subst (X n) (sym (ap (λ (b : Bool). if b then next else v.arrays n) (ne_eqb n v.state.made apart))) (other (omega (arith, low, apart)))
]

pub made_heeded : (v : Raid) (next : View) → IsHeeded v → next.went ≡ [] → IsHeeded (changed (makes next) v)
made_heeded v next heeded went n low = by_made (λ k u. u.went ≡ []) v next n low went (λ below. heeded n below)

pub made_set : (v : Raid) (next : View) (x : RackView) → MayCome v next x → IsHeeded v → IsSet v x → IsSet (changed (makes next) v) x
made_set v next x may heeded set =
    let z : Raid = changed (makes next) v in
    record {
      fit = set.fit;
      lasting = set.lasting;
      disks = set.disks;
      few = set.few;
      most = let room = may.few in omega (arith, room);
      valid = λ p low. valid_made v.state p may.joined may.few (set.valid p low);
      logs = λ p left. set.logs p (heeded_left v p heeded (and_parts (is_current v.state p) (not (gone_in z p)) left).0);
      arrays = λ n low. by_made (λ k u. IsSeated (made_state v.state) k u x) v next n low may.seated (λ below. seated_still v.state n (v.arrays n) x (set.arrays n below));
      marked = λ n low marked.
          inl (by_made (λ k u. u.marked ≡ true → is_whole_array u ≡ true) v next n low (λ is. absurd (both_ways next.marked may.unmarked is))
          (λ below is. heeded_whole v n heeded (set.marked n below) is) marked);
    }

-- the arrays stay as long as they are, and all together are short enough
pub made_longer : (v : Raid) (next : View) (x : RackView) → MayCome v next x → IsSet v x → has_room (changed (makes next) v) ≡ true → GetsLonger v (changed (makes next) v)
made_longer v next x may set room =
    let z : Raid = changed (makes next) v in
    record {
      made = omega arith;
      sectors = λ n low. by_made (λ k u. n ≡ k → sectors_of (v.arrays n) ≤ sectors_of u) v next n (omega (arith, low)) (λ same. absurd (omega (arith, low, same))) (λ below same. omega arith) refl;
      small = λ small.
          short_enough z z room
          (λ n low. by_made (λ k u. sectors_of u ≤ 15 * u.truth.size) v next n low (sectors_few next may.seated.is_array) (λ below. sectors_few (v.arrays n) (set.arrays n below).is_array));
    }

-- one epoch more
pub made_raises : (v : Raid) (next : View) → RaisesBy 1 v (changed (makes next) v)
made_raises v next = record {
  number = omega arith;
  epoch = raised_up v.state.epoch;
  events = λ n low. by_made (λ k u. n ≡ k → u.truth.events ≤ (v.arrays n).truth.events + 1) v next n (omega (arith, low)) (λ same. absurd (omega (arith, low, same))) (λ below same. omega arith) refl;
}
