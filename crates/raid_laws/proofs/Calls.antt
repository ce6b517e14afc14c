-- Calls of one array that write nothing, as parts of a call of all.
use Rattle.std.proofs.Common.{◌≡◌, ℕ, ◌+◌, ◌-◌, ◌*◌, ◌/◌, ◌%◌, ◌^◌, ◌<◌, ◌≤◌, Bool, true, false, nat_lt, if◌then◌else◌, ◌⊎◌, refl, sym, ap, subst, ◌∙◌, inl, inr, eq-eqb, ltb-true, lt-ltb, le-ltb, arith}
use Rattle.std.proofs.lemmas.Bool.{cases_eq, cases_lt, both_ways, ltb-false}
use Rattle.rack.specs.Values.{Values}
use Rattle.rack.specs.Seen.{RackView, IsPick}
use Rattle.rack.specs.Moments.{Leaves}
use Rattle.rack.specs.Joins.{leaves_weaker}
use Rattle.rack.specs.Sequences.{OnlyReads}
use Rattle.pool_state.specs.declared.contents.State.{State}
use Rattle.array_image.specs.Arrays.{Shape}
use Rattle.array_image.specs.SoundArray.{first_unsynced}
use Rattle.array_image.specs.Supers.{is_unclean}
use Rattle.array_model.specs.View.{View, IsArray, rows_of, shape_of}
use Rattle.array_model.specs.ArrayCalls.{IncludesSpent, Keeping}
use Rattle.array_model.specs.Members.{Notes}
use Rattle.array_core.specs.Superblocks.{settled, settled_truth, left_offset, raised}
use Rattle.array_core.specs.Settling.{Settles}
use Rattle.array_core.proofs.Marking.{restated_array}
use Rattle.raid_laws.specs.Book.{after_same}
use Rattle.raid_laws.specs.Raid.{Raid, gone_in, is_left, is_failed, IsWritten}
use Rattle.raid_laws.specs.Moves.{IsOfPool, IsSet, SubCall, ChangesNoData}
use Rattle.raid_laws.proofs.Changed.{LosesOne, ViewsOne, further, keeps_arrays, marked_before, more_gone, same_shape, left_before, caused, part_if, views_counted, views_sectors, views_set, views_spent}
use Rattle.raid_laws.proofs.Views.{MayRestate, views_notes}
use Rattle.raid_laws.proofs.Rows.{KeepsClear, clear_same, clear_seats, clear_settled, left_old, rows_read, settled_just}
use Rattle.raid_laws.proofs.LackingRows.{lacking_read}
use Rattle.raid_laws.proofs.Over.{someone_left, over_still}
use Rattle.raid_laws.proofs.Reading.{part_read, part_unread}
use Rattle.raid_laws.proofs.Seated.{view_with}
use Rattle.raid_laws.proofs.Noted.{left_reach, with_arrays}
use Rattle.raid_laws.specs.Reach.{reach_then}

-- ---- a call of array m that writes nothing

pub record ReadsOne (v : Raid) (f : ℕ → View) (m : ℕ) (a b : RackView) : Type 0 where
  pub views : ViewsOne v f m a b
  pub loses : LosesOne v f m
  pub reads : OnlyReads a b
  pub clear : KeepsClear (v.arrays m) (f m)
  pub keeps : (s : State) (durable : Shape) (vals : ℕ → Values) (spent : ℕ → Bool) → IncludesSpent (f m) spent → Keeping s (v.arrays m) (f m) spent a b durable vals

module _ (v : Raid) (f : ℕ → View) (m : ℕ) (a b : RackView) (set : IsSet v a) (call : ReadsOne v f m a b) where
  views : ViewsOne v f m a b
  views = call.views

  read_leaves : a.traced → Leaves a b (λ c. Unit {0})
  read_leaves traced = leaves_weaker (IsPick a b a.held) (λ c. Unit {0}) (λ c pick. tt) (call.reads.keeps.stops traced)

  read_part : (n : ℕ) (vals : ℕ → Values) (spent : ℕ → Bool) → n < v.state.made → is_failed (with_arrays v f) n ≡ false → IncludesSpent (f n) spent
      → SubCall v (with_arrays v f) a b n vals vals spent
  read_part n vals spent low goes covers =
      let someone = someone_left (with_arrays v f) n goes in
      let more = more_gone v f m a b set views in
      part_if v (with_arrays v f) a b n vals vals spent call.reads.stays set.lasting read_leaves
      (λ amid. record {
        after = amid.durable;
        noted =
            reach_then (is_left v) (is_left (with_arrays v f)) amid.durable (shape_of (v.arrays n)) (shape_of (f n)) (left_before v f m a b set views) amid.noted
            (left_reach (with_arrays v f) n (v.arrays n) b low ((views_set v f m a b set views v.number).arrays n low) (keeps_arrays v f m a b set views call.loses n low));
        marked = λ are. amid.marked (marked_before v f m a b set views are) ∙ same_shape v f m a b set views call.loses are n;
        part = elim (cases_eq n m) [
          | inl same ↦
              part_read v.state amid.durable vals spent (gone_in v) (gone_in (with_arrays v f)) v (with_arrays v f) a b n set.lasting call.reads refl more someone
              (subst (λ k. IsWritten (v.arrays k) → IsWritten (f k)) (sym same) views.written)
              (subst (λ k. Keeping v.state (v.arrays k) (f k) spent a b amid.durable vals) (sym same)
              (call.keeps v.state amid.durable vals spent (subst (λ k. IncludesSpent (f k) spent) same covers)))
          | inr apart ↦
              part_unread v.state amid.durable vals spent (gone_in v) (gone_in (with_arrays v f)) v (with_arrays v f) a b n set.lasting call.reads refl (views.others n apart) more someone
        ];
      })

  each_clear : (n : ℕ) → KeepsClear (v.arrays n) (f n)
  each_clear n = elim (cases_eq n m) [
    | inl same ↦ subst (λ k. KeepsClear (v.arrays k) (f k)) (sym same) call.clear
    | inr apart ↦ clear_same (v.arrays n) (f n) (views.others n apart)
  ]

  pub moves_read : ChangesNoData v (with_arrays v f) a b
  moves_read =
      record {
        stays = call.reads.stays;
        set = views_set v f m a b set views v.number;
        book = after_same v.state;
        leaves = read_leaves;
        number = omega arith;
        events = (further v f m a b set views v.number (omega arith)).events;
        arrays = keeps_arrays v f m a b set views call.loses;
        plan = refl;
        sectors = views_sectors v f m a b set views;
        left = left_before v f m a b set views;
        cause = caused v f m a b set views;
        still = λ n low goes. over_still v (with_arrays v f) (further v f m a b set views v.number (omega arith)) n low goes;
        spent = λ n y low alive. views_spent v f m a b set views n y alive;
        counted = λ n k sector low among counts. views_counted v f m a b set views call.loses n k sector among counts;
        unwritten = λ d t live gone. call.reads.keeps.held d t live;
        kept = λ d t live apart other. call.reads.keeps.held d t live;
        parts = λ n vals spent joined low goes covers. read_part n vals spent low goes covers;
        rows = λ n vals spent joined low goes covers amid rows. rows_read v (with_arrays v f) a b n set.lasting call.reads (each_clear n) rows;
        lacking = λ n vals spent joined low goes covers amid leaves. lacking_read v (with_arrays v f) a b n set.lasting call.reads (each_clear n) leaves;
      }

pub reads_notes : (v : Raid) (f : ℕ → View) (m : ℕ) (a b : RackView) → IsSet v a → m < v.state.made → OnlyReads a b
    → ((n : ℕ) → (n ≡ m → ⊥) → f n ≡ v.arrays n) → Notes (v.arrays m) (f m) a b
    → ((s : State) (durable : Shape) (vals : ℕ → Values) (spent : ℕ → Bool) → IncludesSpent (f m) spent → Keeping s (v.arrays m) (f m) spent a b durable vals)
    → ReadsOne v f m a b
reads_notes v f m a b set low reads others notes keeps =
    let u = v.arrays m in
    let pool = (set.arrays m low).is_of_pool in
    let both = views_notes v f m a b u.truth.events u.truth.resync_offset u.marked set low reads.stays others
    (record { later = omega arith; some = pool.events; few = pool.events_end; whole = λ was. was; unsynced = pool.unsynced; synced = λ young part rows. rows })
    (λ marked. inl marked) notes in
    record {
      views = both.views;
      loses = both.loses;
      reads = reads;
      clear = clear_seats u (f m) notes.same;
      keeps = keeps;
    }

-- ---- a settling

-- rows left to resync by an offset
pub unsynced_by : (offset size resync : ℕ) → (offset < size → offset / 128 ≤ resync) → (size ≤ offset → size / 128 ≤ resync)
    → (if nat_lt offset size then offset / 128 else size / 128) ≤ resync
unsynced_by offset size resync less more =
    elim (cases_lt offset size) [
      | inl low ↦ subst (λ (b : Bool). (if b then offset / 128 else size / 128) ≤ resync) (sym (lt-ltb offset size low)) (less low)
      | inr high ↦ subst (λ (b : Bool). (if b then offset / 128 else size / 128) ≤ resync) (sym (le-ltb offset size high)) (more high)
    ]

offset_by : Bool → Bool → Bool → ℕ → ℕ → ℕ
offset_by young unclean less was resync = if young then (if unclean then was else 2 ^ 64 - 1) else if less then resync * 128 else 2 ^ 64 - 1

offset_rows : (young unclean less : Bool) (was resync size : ℕ) → size < 2 ^ 48
    → (if unclean then was / 128 else size / 128) ≤ resync
    → (less ≡ false → size / 128 ≤ resync)
    → (unclean ≡ true → was < size)
    → (if nat_lt (offset_by young unclean less was resync) size then offset_by young unclean less was resync / 128 else size / 128) ≤ resync
unfolding offset_by
offset_rows true true less was resync size small rows more low = unsynced_by was size resync (λ below. rows) (λ above. absurd (let b = low refl in omega (arith, b, above)))
offset_rows true false less was resync size small rows more low = unsynced_by (2 ^ 64 - 1) size resync (λ below. absurd (omega (arith, small, below))) (λ above. rows)
offset_rows false unclean true was resync size small rows more low = unsynced_by (resync * 128) size resync (λ below. omega arith) (λ above. omega (arith, above))
offset_rows false unclean false was resync size small rows more low = unsynced_by (2 ^ 64 - 1) size resync (λ below. absurd (omega (arith, small, below))) (λ above. more refl)

offset_whole : (young unclean less : Bool) (was resync : ℕ) → (was ≡ 2 ^ 64 - 1) ⊎ (was % 128 ≡ 0)
    → (offset_by young unclean less was resync ≡ 2 ^ 64 - 1) ⊎ (offset_by young unclean less was resync % 128 ≡ 0)
unfolding offset_by
offset_whole true true less was resync is = is
offset_whole true false less was resync is = inl refl
offset_whole false unclean true was resync is = inr (omega arith)
offset_whole false unclean false was resync is = inl refl

pub raised_low : (n : ℕ) → 0 < n → n < 2 ^ 63 → (n ≤ raised n) × (raised n < 2 ^ 63)
raised_low n some low = elim (cases_lt n (2 ^ 63 - 1)) [
  | inl room ↦
      let e : raised n ≡ n + 1 = ap (λ (b : Bool). if b then n + 1 else n) (lt-ltb n (2 ^ 63 - 1) room) in
      (omega (arith, e), omega (arith, e, room))
  | inr last ↦
      let e : raised n ≡ n = ap (λ (b : Bool). if b then n + 1 else n) (le-ltb n (2 ^ 63 - 1) last) in
      (omega (arith, e), omega (arith, e, low))
]

-- what settling makes of the truth is one of a pool
pub may_settle : (s : State) (z : View) → IsArray z → IsOfPool s z → MayRestate z (raised z.truth.events) (left_offset z)
unfolding offset_by
may_settle s z is_array pool =
    let events = raised_low z.truth.events pool.events pool.events_end in
    let less : first_unsynced (settled_truth z) ≤ z.resync =
    offset_rows z.young (is_unclean z.truth) (nat_lt z.resync (rows_of z)) z.truth.resync_offset z.resync z.truth.size is_array.small
    pool.unsynced
    (λ none. ltb-false z.resync (rows_of z) none)
    (λ unclean. ltb-true z.truth.resync_offset z.truth.size unclean) in
    record {
      later = events.0;
      some = let more = events.0 in let some = pool.events in omega (arith, more, some);
      few = events.1;
      whole = λ was. offset_whole z.young (is_unclean z.truth) (nat_lt z.resync (rows_of z)) z.truth.resync_offset z.resync was;
      unsynced = less;
      synced = λ young part rows.
          settled_just (settled z) (restated_array (raised z.truth.events) (left_offset z) false z is_array) young
          (eq-eqb (left_offset z) (left_offset (settled z)) (left_old z young ∙ sym (left_old (settled z) young))) less;
    }

-- places that went, where the array is settled as well
pub settled_notes : (u z : View) (a b : RackView) → Notes u z a b → Notes (settled u) (settled z) a b
settled_notes u z a b notes =
    let same = view_with u z notes.same in
    record {
      same = record {
        number = notes.same.number;
        truth = ap settled_truth same;
        devices = notes.same.devices;
        resync = notes.same.resync;
        young = notes.same.young;
        marked = refl;
      };
      lost = notes.lost;
      loses = record { seats = notes.loses.seats; went = notes.loses.went };
      cause = notes.cause;
    }

pub reads_settled : (v : Raid) (f : ℕ → View) (m : ℕ) (a b : RackView) → IsSet v a → m < v.state.made → OnlyReads a b
    → ((n : ℕ) → (n ≡ m → ⊥) → f n ≡ v.arrays n) → Settles (v.arrays m) (f m) a b
    → ((s : State) (durable : Shape) (vals : ℕ → Values) (spent : ℕ → Bool) → IncludesSpent (f m) spent → Keeping s (v.arrays m) (f m) spent a b durable vals)
    → ReadsOne v f m a b
reads_settled v f m a b set low reads others settles keeps =
    let u = v.arrays m in
    let z = settles.synced in
    let seated = set.arrays m low in
    let both = views_notes v f m a b (raised u.truth.events) (left_offset u) false set low reads.stays others
    (may_settle v.state u seated.is_array seated.is_of_pool) (λ marked. absurd (both_ways false refl marked))
    (subst (λ (k : View). Notes (settled u) k a b) (sym settles.truth) (settled_notes u z a b settles.notes)) in
    record {
      views = both.views;
      loses = both.loses;
      reads = reads;
      clear = subst (λ (k : View). KeepsClear u k) (sym settles.truth) (clear_settled u z settles.notes.same);
      keeps = keeps;
    }
