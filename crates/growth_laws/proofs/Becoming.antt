-- The array that a takeover, rows of a reshape or its end make is one of the pool as well.
use Rattle.std.proofs.Math.Nat.{mul-le-mul_right}
use Rattle.std.proofs.Common.{◌≡◌, ℕ, length, ◌+◌, ◌-◌, ◌*◌, ◌%◌, ◌/◌, ◌<◌, ◌≤◌, ◌^◌, Bool, true, false, ◌==◌, ◌&&◌, ◌||◌, not, nat_lt, refl, sym, ap, ap₂, subst, ◌∙◌, inl, inr, lt-ltb, eq-eqb, eqb-true, ltb-true, if◌then◌else◌, arith}
use Rattle.std.proofs.lemmas.Bool.{and_from, and_parts, both_ways, cases_Bool}
use Rattle.std.specs.List.{list_all}
use Rattle.rack.specs.Seen.{RackView}
use Rattle.md_super.specs.Profile.{is_height_of, is_mirror, is_raid5}
use Rattle.pool_state.specs.declared.contents.State.{State}
use Rattle.array_image.specs.Arrays.{final_layout}
use Rattle.array_image.specs.SoundArray.{first_unsynced}
use Rattle.array_image.specs.Stripes.{capacity, mirror, parity}
use Rattle.array_image.specs.Supers.{is_reshaping, new_row}
use Rattle.array_model.specs.View.{IsArray, View, is_whole_array, is_whole_seat, rows_of, sectors_of}
use Rattle.array_core.specs.Model.{is_truth}
use Rattle.array_core.specs.Superblocks.{raised}
use Rattle.array_core.proofs.Truths.{valid_truth}
use Rattle.reshape_laws.specs.Ahead.{ahead_by, finished, next_row, taken_over}
use Rattle.reshape_laws.proofs.Arrays.{ahead_by_array, finished_array, taken_array}
use Rattle.reshape_laws.proofs.Finishing.{no_mirror}
use Rattle.reshape_laws.proofs.Taking.{stands_still}
use Rattle.reshape_laws.proofs.Truths.{finished_profile, profile_from, profile_rules, taken_profile}
use Rattle.raid_laws.specs.Moves.{IsHeeded, IsSeated, IsSet}
use Rattle.raid_laws.specs.Raid.{Raid}
use Rattle.raid_laws.proofs.Calls.{raised_low}
use Rattle.raid_laws.proofs.Over.{not_true}
use Rattle.raid_laws.proofs.Whole.{heeded_whole, own_rows}
use Rattle.growth_laws.specs.Growing.{is_clean, is_synced}
use Rattle.growth_laws.proofs.Steps.{MayBecome}

-- An array of the volume that has all its rows, and whose superblocks leave none to resync: no mark of this run's writes stands on it.
pub record IsAtRest (v : Raid) (n : ℕ) : Type 0 where
  pub low : n < v.state.made
  pub grown : (v.arrays n).young ≡ false
  pub synced : (v.arrays n).resync ≡ rows_of (v.arrays n)
  pub rows : first_unsynced (v.arrays n).truth ≡ (v.arrays n).resync
  pub unmarked : (v.arrays n).marked ≡ false

-- ---- which arrays are

-- the parts of what is synced
pub record IsSynced (v : Raid) (n : ℕ) : Type 0 where
  pub low : n < v.state.made
  pub grown : (v.arrays n).young ≡ false
  pub synced : (v.arrays n).resync ≡ rows_of (v.arrays n)

pub synced_parts : (v : Raid) (n : ℕ) → is_synced v n ≡ true → IsSynced v n
synced_parts v n is =
    let one = and_parts (nat_lt n v.state.made) _ is in
    let two = and_parts (not (v.arrays n).young) _ one.1 in
    record {
      low = ltb-true n v.state.made one.0;
      grown = not_true (v.arrays n).young two.0;
      synced = eqb-true (v.arrays n).resync (rows_of (v.arrays n)) two.1;
    }

-- one that is reshaped isn't whole, so it isn't marked
pub reshaping_rests : (v : Raid) (x : RackView) (n : ℕ) → IsSet v x → IsHeeded v → IsSynced v n → is_reshaping (v.arrays n).truth ≡ true → IsAtRest v n
reshaping_rests v x n set heeded is reshaping =
    let u = v.arrays n in
    let part : is_whole_array u ≡ false =
    elim (cases_Bool (is_whole_array u)) [
      | inl whole ↦
          let one = and_parts (list_all is_whole_seat u.seats) _ whole in
          let two = and_parts (u.resync == rows_of u) _ one.1 in
          let three = and_parts (not u.young) (not (is_reshaping u.truth)) two.1 in
          absurd (both_ways (is_reshaping u.truth) (not_true (is_reshaping u.truth) three.1) reshaping)
      | inr part ↦ part
    ] in
    record {
      low = is.low;
      grown = is.grown;
      synced = is.synced;
      rows = (own_rows v x n set heeded is.low).rows is.grown part;
      unmarked = elim (cases_Bool u.marked) [
        | inl marked ↦ absurd (both_ways (is_whole_array u) part (heeded_whole v n heeded (set.marked n is.low) marked))
        | inr none ↦ none
      ];
    }

-- and so it is of one that was cleaned
pub clean_rests : (v : Raid) (x : RackView) (n : ℕ) → IsSet v x → IsSynced v n → is_clean (v.arrays n) ≡ true → IsAtRest v n
clean_rests v x n set is clean =
    let u = v.arrays n in
    let both = and_parts (u.truth.resync_offset == 2 ^ 64 - 1) (not u.marked) clean in
    let all : u.truth.resync_offset ≡ 2 ^ 64 - 1 = eqb-true u.truth.resync_offset (2 ^ 64 - 1) both.0 in
    let small = (set.arrays n is.low).is_array.small in
    record {
      low = is.low;
      grown = is.grown;
      synced = is.synced;
      rows = past u.truth.resync_offset u.truth.size (nat_lt u.truth.resync_offset u.truth.size) all small (λ below. ltb-true u.truth.resync_offset u.truth.size below) ∙ sym is.synced;
      unmarked = not_true u.marked both.1;
    }
  where
    past : (offset size : ℕ) (b : Bool) → offset ≡ 2 ^ 64 - 1 → size < 2 ^ 48 → (b ≡ true → offset < size) → (if b then offset / 128 else size / 128) ≡ size / 128
    past offset size false all small below = refl
    past offset size true all small below = absurd (let low = below refl in omega (arith, all, small, low))

-- ---- the truth of an array of the pool is one that it can go by

pub pool_truth : (s : State) (n : ℕ) (u : View) (x : RackView) → IsSeated s n u x → length s.drives.items ≤ 16 → is_truth u.truth ≡ true
pool_truth s n u x seated few =
    let pool = seated.is_of_pool in
    let was = profile_rules u.truth s.extent pool.profile in
    let size = and_parts (is_height_of s.extent u.truth.size) (u.truth.size == u.truth.data_size) was.size in
    let high = and_parts (nat_lt 2048 u.truth.size) _ size.0 in
    let long = ltb-true 2048 u.truth.size high.0 in
    let whole = seated.is_array.whole_rows in
    valid_truth u.truth 1 (length s.drives.items)
    (profile_from u.truth 128 (record {
      features = was.features;
      level = was.level;
      layout = was.layout;
      chunk = was.chunk;
      disks = was.disks;
      size = and_from (is_height_of 128 u.truth.size) (u.truth.size == u.truth.data_size)
          (and_from (nat_lt 2048 u.truth.size) _ high.0 (eq-eqb ((u.truth.size - 2048) % 128) 0 (omega (arith, long, whole)))) size.1;
      data_offset = was.data_offset;
      super_offset = was.super_offset;
      dev_number = was.dev_number;
      roles = was.roles;
    }))
    pool.row pool.roles few seated.is_array.small

-- ---- a takeover

pub taken_seated : (s : State) (n : ℕ) (u : View) (x : RackView) → IsSeated s n u x → is_mirror u.truth ≡ true → first_unsynced u.truth ≡ u.resync → u.young ≡ false
    → IsSeated s n (taken_over u (raised u.truth.events)) x
taken_seated s n u x seated is rows young =
    let a = seated.is_array in
    let pool = seated.is_of_pool in
    let events = raised_low u.truth.events pool.events pool.events_end in
    let still = stands_still u a is in
    record {
      is_array = taken_array u (raised u.truth.events) a still;
      number = seated.number;
      slices = record { fit = seated.slices.fit; lasting = seated.slices.lasting; disks = seated.slices.disks; sectors = seated.slices.sectors };
      marks = seated.marks;
      is_of_pool = record {
        set = pool.set;
        profile = taken_profile u (raised u.truth.events) s.extent a pool.profile;
        events = let more = events.0 in let some = pool.events in omega (arith, more, some);
        events_end = events.1;
        row = ap (λ (b : Bool). not b || (true && (nat_lt 2 u.truth.raid_disks && (u.truth.reshape_position % new_row u.truth == 0)))) still;
        roles = pool.roles;
        unsynced = pool.unsynced;
        synced = λ old part. inl rows;
        zeroed = λ yes. absurd (both_ways u.young young yes);
        rows = pool.rows;
      };
    }

-- one of two has as many sectors as a mirror
pub taken_sectors : (u : View) (events : ℕ) → IsArray u → is_mirror u.truth ≡ true → sectors_of (taken_over u events) ≡ sectors_of u
taken_sectors u events a is =
    let still = stands_still u a is in
    let least = a.least in
    let most : u.truth.raid_disks ≤ 2 = subst (λ (b : Bool). u.truth.raid_disks ≤ (if b then 2 else 16)) is a.most in
    let two : u.truth.raid_disks ≡ 2 = omega (arith, least, most) in
    ap (λ (b : Bool). capacity (if b then parity (u.truth.raid_disks - 1) else parity u.truth.raid_disks) u.truth.size) still
    ∙ ap (λ n. (n - 1) * u.truth.size) two
    ∙ (let one : (2 - 1) * u.truth.size ≡ u.truth.size = omega arith in one)
    ∙ sym (ap₂ (λ (b c : Bool). capacity (if b then parity (u.truth.raid_disks - 1) else if c then mirror u.truth.raid_disks else parity u.truth.raid_disks) u.truth.size) still is)

-- ---- rows

pub ahead_seated : (s : State) (n many : ℕ) (u : View) (x : RackView) → IsSeated s n u x → is_reshaping u.truth ≡ true
    → next_row u + many ≤ rows_of u → first_unsynced u.truth ≡ u.resync → u.young ≡ false
    → IsSeated s n (ahead_by u many (raised u.truth.events)) x
ahead_seated s n many u x seated reshaping left rows young =
    let a = seated.is_array in
    let pool = seated.is_of_pool in
    let events = raised_low u.truth.events pool.events pool.events_end in
    let array = ahead_by_array u many (raised u.truth.events) a reshaping left in
    let next = array.reshape reshaping in
    record {
      is_array = array;
      number = seated.number;
      slices = record { fit = seated.slices.fit; lasting = seated.slices.lasting; disks = seated.slices.disks; sectors = seated.slices.sectors };
      marks = seated.marks;
      is_of_pool = record {
        set = pool.set;
        profile = pool.profile;
        events = let more = events.0 in let some = pool.events in omega (arith, more, some);
        events_end = events.1;
        row = or_right (not (is_reshaping u.truth)) _
            (and_from (is_raid5 u.truth) _ next.0
            (and_from (nat_lt 2 u.truth.raid_disks) _ (lt-ltb 2 u.truth.raid_disks (let three = next.1 in omega (arith, three)))
            (eq-eqb ((u.truth.reshape_position + 128 * many * (u.truth.raid_disks - 1)) % new_row u.truth) 0 next.2)));
        roles = pool.roles;
        unsynced = pool.unsynced;
        synced = λ old part. inl rows;
        zeroed = λ yes. absurd (both_ways u.young young yes);
        rows = pool.rows;
      };
    }
  where
    or_right : (p q : Bool) → q ≡ true → (p || q) ≡ true
    or_right true q on = refl
    or_right false q on = on

-- ---- the end of a reshape

pub finished_seated : (s : State) (n : ℕ) (u : View) (x : RackView) → IsSeated s n u x → first_unsynced u.truth ≡ u.resync → u.young ≡ false
    → IsSeated s n (finished u (raised u.truth.events)) x
finished_seated s n u x seated rows young =
    let a = seated.is_array in
    let pool = seated.is_of_pool in
    let events = raised_low u.truth.events pool.events pool.events_end in
    record {
      is_array = finished_array u (raised u.truth.events) a;
      number = seated.number;
      slices = record { fit = seated.slices.fit; lasting = seated.slices.lasting; disks = seated.slices.disks; sectors = seated.slices.sectors };
      marks = seated.marks;
      is_of_pool = record {
        set = pool.set;
        profile = finished_profile u (raised u.truth.events) s.extent pool.profile;
        events = let more = events.0 in let some = pool.events in omega (arith, more, some);
        events_end = events.1;
        row = refl;
        roles = pool.roles;
        unsynced = pool.unsynced;
        synced = λ old part. inl rows;
        zeroed = λ yes. absurd (both_ways u.young young yes);
        rows = pool.rows;
      };
    }

-- it has the sectors of one data member more
pub finished_sectors : (u : View) (events : ℕ) → IsArray u → is_reshaping u.truth ≡ true → sectors_of u ≤ sectors_of (finished u events)
finished_sectors u events a reshaping =
    let plain = no_mirror u a reshaping in
    let was : sectors_of u ≡ (u.truth.raid_disks - 1 - 1) * u.truth.size =
    ap (λ (b : Bool). capacity (if b then parity (u.truth.raid_disks - 1) else final_layout u.truth) u.truth.size) reshaping in
    let now : sectors_of (finished u events) ≡ (u.truth.raid_disks - 1) * u.truth.size =
    ap (λ (b : Bool). capacity (if b then mirror u.truth.raid_disks else parity u.truth.raid_disks) u.truth.size) plain in
    let more : (u.truth.raid_disks - 1 - 1) * u.truth.size ≤ (u.truth.raid_disks - 1) * u.truth.size = mul-le-mul_right u.truth.size (omega arith) in
    omega (arith, was, now, more)

-- ---- each may become such

pub taken_may : (v : Raid) (x : RackView) (n : ℕ) → IsSet v x → IsHeeded v → IsAtRest v n → is_mirror (v.arrays n).truth ≡ true
    → MayBecome v n (taken_over (v.arrays n) (raised (v.arrays n).truth.events)) x
taken_may v x n set heeded rest is = record {
  low = rest.low;
  seated = taken_seated v.state n (v.arrays n) x (set.arrays n rest.low) is rest.rows rest.grown;
  went = heeded n rest.low;
  whole = λ marked. absurd (both_ways (v.arrays n).marked rest.unmarked marked);
}

pub ahead_may : (v : Raid) (x : RackView) (n many : ℕ) → IsSet v x → IsHeeded v → IsAtRest v n → is_reshaping (v.arrays n).truth ≡ true
    → next_row (v.arrays n) + many ≤ rows_of (v.arrays n)
    → MayBecome v n (ahead_by (v.arrays n) many (raised (v.arrays n).truth.events)) x
ahead_may v x n many set heeded rest reshaping left = record {
  low = rest.low;
  seated = ahead_seated v.state n many (v.arrays n) x (set.arrays n rest.low) reshaping left rest.rows rest.grown;
  went = heeded n rest.low;
  whole = λ marked. absurd (both_ways (v.arrays n).marked rest.unmarked marked);
}

pub finished_may : (v : Raid) (x : RackView) (n : ℕ) → IsSet v x → IsHeeded v → IsAtRest v n
    → MayBecome v n (finished (v.arrays n) (raised (v.arrays n).truth.events)) x
finished_may v x n set heeded rest = record {
  low = rest.low;
  seated = finished_seated v.state n (v.arrays n) x (set.arrays n rest.low) rest.rows rest.grown;
  went = heeded n rest.low;
  whole = λ marked. absurd (both_ways (v.arrays n).marked rest.unmarked marked);
}
