-- The code that resyncs a row of an array, as a part of a call of all.
use Rattle.std.proofs.Common.{◌≡◌, ◌⊎◌, ℕ, zero, suc, ◌+◌, ◌-◌, ◌*◌, ◌/◌, ◌%◌, ◌^◌, ◌<◌, ◌≤◌, Bool, true, false, ◌==◌, ◌&&◌, not, nat_lt, if◌then◌else◌, List, map, set, length, get_or, slice_get, Option, Result, Ok, Err, is_ok, IfOk, IfErr, refl, sym, ap, subst, ◌∙◌, inl, inr, eq-eqb, eqb-true, lt-ltb, le-ltb, ltb-true, arith}
use Rattle.std.proofs.lemmas.Bool.{both_ways, cases_Bool, cases_lt, and_parts, ltb-false}
use Rattle.std.specs.List.{list_all, range_with_len}
use Rattle.std.specs.Option.{option_map_or}
use Rattle.arrayvec.specs.ArrayVec.{ArrayVec}
use Rattle.rack.specs.Values.{Values}
use Rattle.rack.specs.Seen.{RackView}
use Rattle.pool_state.specs.declared.contents.State.{State}
use Rattle.array_image.specs.Spent.{wanting}
use Rattle.array_image.specs.States.{current_places, is_current}
use Rattle.array_image.specs.Supers.{is_reshaping}
use Rattle.log_laws.specs.View.{LogView, emptied, committed}
use Rattle.array_model.specs.declared.Seat.{Seat}
use Rattle.array_model.specs.View.{IsArray, View, has_gone, is_whole_seat, member_on, rows_of, seat_reach, shape_of}
use Rattle.array_model.specs.Members.{members_of}
use Rattle.array_model.specs.ArrayCalls.{IncludesSpent}
use Rattle.array_core.specs.Pool.{Goes}
use Rattle.array_core.specs.Superblocks.{is_settled, left_offset}
use Rattle.array_core.specs.Writing.{KeepsElsewhere}
use Rattle.sync_laws.specs.Rows.{lacks_row}
use Rattle.sync_laws.specs.Steps.{DoesRows, Stepped, Steps, as_it_was, done, offset_after, resynced}
use Rattle.raid_rack.specs.declared.arrays.Arrays.{Arrays}
use Rattle.raid_laws.specs.Raid.{Raid, is_failed}
use Rattle.raid_laws.specs.Reach.{KeepsReachOn, reach_same}
use Rattle.raid_laws.specs.Moves.{AreCaused, ChangesData, IsTrackedInCall, IsHeeded, IsSeated, OnlyFailures, Mends}
use Rattle.raid_laws.specs.Rows.{LeavesRows}
use Rattle.raid_rack.specs.RaidRack.{IsRunning, raid_by, no_array}
use Rattle.raid_laws.specs.Works.{StepsOne, stepped}
use Rattle.raid_rack.specs.declared.works.Stuck.{Stuck}
use Rattle.transition_laws.specs.Changes.{steps}
use Rattle.growth_laws.specs.Growing.{MakesTurn}
use Rattle.growth_laws.specs.Rows.{MakesStep}
use Rattle.raid_laws.proofs.Calls.{raised_low, unsynced_by}
use Rattle.raid_laws.proofs.Changed.{caused, left_before}
use Rattle.raid_laws.proofs.Committed.{next_later}
use Rattle.raid_laws.specs.Losing.{only_then}
use Rattle.raid_laws.proofs.Moving.{brings_then, caused_then}
use Rattle.raid_rack.proofs.Raises.{raised_up}
use Rattle.raid_laws.proofs.Rows.{left_old, settled_just}
use Rattle.raid_rack.proofs.Sent.{low_named}
use Rattle.raid_laws.proofs.Stepped.{StepCall, done_rows, step_arrays, step_brings, views}
use Rattle.raid_rack.proofs.Steps.{set_own, set_other, length_set}
use Rattle.raid_laws.proofs.Views.{IsNext}

-- ---- the array once its row is resynced

offset_whole : (v : View) (rows : ℕ) (b : Bool) → nat_lt (v.resync + rows) (rows_of v) ≡ b → (offset_after v (v.resync + rows) ≡ 2 ^ 64 - 1) ⊎ (offset_after v (v.resync + rows) % 128 ≡ 0)
offset_whole v rows true is =
    let at : offset_after v (v.resync + rows) ≡ (v.resync + rows) * 128 = ap (λ (t : Bool). if t then (v.resync + rows) * 128 else 2 ^ 64 - 1) is in
    inr (omega (arith, at))
offset_whole v rows false is = inl (ap (λ (t : Bool). if t then (v.resync + rows) * 128 else 2 ^ 64 - 1) is)

offset_rows : (v : View) (rows : ℕ) (b : Bool) → v.truth.size < 2 ^ 48 → v.resync + rows ≤ rows_of v → nat_lt (v.resync + rows) (rows_of v) ≡ b
    → (if nat_lt (offset_after v (v.resync + rows)) v.truth.size then offset_after v (v.resync + rows) / 128 else v.truth.size / 128) ≤ v.resync + rows
offset_rows v rows true small inside is =
    let at : offset_after v (v.resync + rows) ≡ (v.resync + rows) * 128 = ap (λ (t : Bool). if t then (v.resync + rows) * 128 else 2 ^ 64 - 1) is in
    let low = ltb-true (v.resync + rows) (rows_of v) is in
    unsynced_by (offset_after v (v.resync + rows)) v.truth.size (v.resync + rows) (λ below. omega (arith, at)) (λ above. omega (arith, at, above, low))
offset_rows v rows false small inside is =
    let at : offset_after v (v.resync + rows) ≡ 2 ^ 64 - 1 = ap (λ (t : Bool). if t then (v.resync + rows) * 128 else 2 ^ 64 - 1) is in
    let high = ltb-false (v.resync + rows) (rows_of v) is in
    unsynced_by (offset_after v (v.resync + rows)) v.truth.size (v.resync + rows) (λ below. absurd (omega (arith, at, small, below))) (λ above. omega (arith, high))

pub resynced_settled : (v : View) (rows : ℕ) → v.young ≡ false → is_settled (resynced v rows) ≡ true
resynced_settled v rows young =
    eq-eqb (offset_after v (v.resync + rows)) (left_offset (resynced v rows)) (sym (left_old (resynced v rows) young))

-- an array that has a row left isn't young
pub grown : (s : State) (m : ℕ) (u : View) (x : RackView) → IsSeated s m u x → u.resync < rows_of u → u.young ≡ false
grown s m u x seated row =
    elim (cases_Bool u.young) [
      | inl young ↦ absurd (let none = seated.is_of_pool.zeroed young in omega (arith, none, row))
      | inr not_young ↦ not_young
    ]

next_resynced : (s : State) (m rows : ℕ) (u : View) (x : RackView) → IsSeated s m u x → u.resync < rows_of u → u.resync + rows ≤ rows_of u → IsNext s m u (resynced u rows) x
next_resynced s m rows u x seated row inside =
    let a = seated.is_array in
    let pool = seated.is_of_pool in
    let events = raised_low u.truth.events pool.events pool.events_end in
    let young = grown s m u x seated row in
    let array : IsArray (resynced u rows) = record {
      few = a.few;
      level = a.level;
      least = a.least;
      most = a.most;
      seats = a.seats;
      devices = a.devices;
      small = a.small;
      whole_rows = a.whole_rows;
      placed = a.placed;
      synced = omega (arith, inside);
      reshape = a.reshape;
    } in
    let less = offset_rows u rows (nat_lt (u.resync + rows) (rows_of u)) a.small inside refl in
    record {
      seated = record {
        is_array = array;
        number = seated.number;
        slices = record { fit = seated.slices.fit; lasting = seated.slices.lasting; disks = seated.slices.disks; sectors = seated.slices.sectors };
        marks = seated.marks;
        is_of_pool = record {
          set = pool.set;
          profile = pool.profile;
          events = let more = events.0 in let some = pool.events in omega (arith, more, some);
          events_end = events.1;
          row = pool.row;
          roles = pool.roles;
          unsynced = less;
          synced = λ old part. inl (settled_just (resynced u rows) array young (resynced_settled u rows young) less);
          zeroed = λ is. absurd (both_ways u.young young is);
          rows = pool.rows;
        };
      };
      went = refl;
      sectors = refl;
      written = λ written. record {
        name = written.name;
        times = written.times;
        roles = written.roles;
        step = written.step;
        next_level = written.next_level;
        next_layout = written.next_layout;
        next_chunk = written.next_chunk;
        position = written.position;
        last_position = written.last_position;
        no_position = written.no_position;
        resync = offset_whole u rows (nat_lt (u.resync + rows) (rows_of u)) refl;
      };
      events = events.0;
      seats = omega arith;
      was = λ marked. absurd (both_ways false refl marked);
      whole = λ all.
          let parts = and_parts (list_all is_whole_seat u.seats) ((u.resync == rows_of u) && (not u.young && not (is_reshaping u.truth))) all in
          let same = eqb-true u.resync (rows_of u) (and_parts (u.resync == rows_of u) (not u.young && not (is_reshaping u.truth)) parts.1).0 in
          absurd (omega (arith, same, row));
    }

-- ---- members that are missing

-- whoever isn't lost counts as far as before
pub member_less : (u w : View) (k t : ℕ) → OnlyFailures u w → t < (member_on w k).reach → t < (member_on u k).reach
member_less u w k t only counts =
    elim (only.seats k) [
      | inl same ↦
          subst (λ (size : ℕ). t < option_map_or (seat_reach size) (slice_get u.seats k) 0) only.same.geometry.size
          (subst (λ (o : Option Seat). t < option_map_or (seat_reach w.truth.size) o 0) same counts)
      | inr lost ↦
          absurd (let none = subst (λ (o : Option Seat). t < option_map_or (seat_reach w.truth.size) o 0) lost counts in omega (arith, none))
    ]

pub wanting_less : (u w : View) (t a n : ℕ) → OnlyFailures u w → wanting t (map (member_on u) (range_with_len a n)) ≤ wanting t (map (member_on w) (range_with_len a n))
wanting_less u w t a zero only = omega arith
wanting_less u w t a (suc n) only =
    let rest = wanting_less u w t (a + 1) n only in
    elim (cases_lt t (member_on w a).reach) [
      | inl counts ↦
          let one = lt-ltb t (member_on w a).reach counts in
          let two = lt-ltb t (member_on u a).reach (member_less u w a t only counts) in
          let more : ℕ = wanting t (map (member_on w) (range_with_len (a + 1) n)) in
          let fewer : ℕ = wanting t (map (member_on u) (range_with_len (a + 1) n)) in
          subst (λ (b : Bool). (if b then fewer else suc fewer) ≤ (if nat_lt t (member_on w a).reach then more else suc more)) (sym two)
          (subst (λ (b : Bool). fewer ≤ (if b then more else suc more)) (sym one) rest)
      | inr wants ↦
          let one = le-ltb t (member_on w a).reach wants in
          let more : ℕ = wanting t (map (member_on w) (range_with_len (a + 1) n)) in
          let fewer : ℕ = wanting t (map (member_on u) (range_with_len (a + 1) n)) in
          subst (λ (b : Bool). (if nat_lt t (member_on u a).reach then fewer else suc fewer) ≤ (if b then more else suc more)) (sym one)
          (either (nat_lt t (member_on u a).reach) fewer more rest)
    ]
  where
    either : (b : Bool) (fewer more : ℕ) → fewer ≤ more → (if b then fewer else suc fewer) ≤ suc more
    either true fewer more rest = omega (arith, rest)
    either false fewer more rest = omega (arith, rest)

-- a row that lacks nobody after losses lacked nobody before them
pub lacks_less : (u w : View) (row : ℕ) → OnlyFailures u w → lacks_row w row ≡ false → lacks_row u row ≡ false
lacks_less u w row only lacks =
    let t = row * 128 + 127 in
    let less = subst (λ n. wanting t (members_of u) ≤ wanting t (map (member_on w) (range_with_len 0 n))) (sym only.same.geometry.disks) (wanting_less u w t 0 u.truth.raid_disks only) in
    let none : wanting t (members_of w) ≤ 0 = ltb-false 0 (wanting t (members_of w)) lacks in
    le-ltb 0 (wanting t (members_of u)) (omega (arith, less, none))

-- ---- the code

-- what the resync of rows says of the array, before it and after it
pub record ResyncedRows (old u : View) (rows number late : ℕ) (on : List ℕ) (x y : RackView) (answered : Bool) : Type 0 where
  pub inside : old.resync + rows ≤ rows_of old
  pub steps : Steps old (resynced old rows) u number late on x y answered
  pub elsewhere : KeepsElsewhere false old on x y
  pub refused : answered ≡ false → lacks_row u old.resync ≡ true

-- what a step says of all arrays, where it is refused of an array that lacks somebody
pub record HasStepped (a b : Arrays) (x y : RackView) (m : ℕ) (next : View) (lacks : View → Bool) (answered : Bool) : Type 0 where
  pub is_done : Bool
  pub refused : answered ≡ false → lacks ((raid_by b).arrays m) ≡ true
  pub answer : answered ≡ true → is_done ≡ true
  pub brings : ChangesData (raid_by a) (raid_by b) x y (λ n vals. vals)
  pub caused : AreCaused (raid_by a) (raid_by b) x y
  pub running : IsRunning b y
  pub arrays : (n : ℕ) → n < a.state.made → OnlyFailures (stepped (raid_by a) m next is_done n) ((raid_by b).arrays n)
  pub plan : b.state.plan ≡ a.state.plan
  pub durable :
      is_done ≡ true → is_settled next ≡ true → next.young ≡ false
      → (vals : ℕ → Values) (spent : ℕ → Bool) → is_failed (raid_by b) m ≡ false → IncludesSpent ((raid_by b).arrays m) spent
      → IsTrackedInCall (raid_by a) x m vals spent → LeavesRows (raid_by b) y m

-- rows that are resynced change no member
resynced_reach : (on : ℕ → Bool) (u : View) (rows : ℕ) → KeepsReachOn on (shape_of u) (shape_of (resynced u rows))
unfolding shape_of
resynced_reach on u rows = reach_same on (shape_of u)

-- a step of array n, in the arrays
pub has_called_step : (a : Arrays) (all : ArrayVec View) (log : LogView) (x y : RackView) (n : ℕ) (next : View) (lacks : View → Bool) (on : List ℕ) (u : View) (answered : Bool)
    → IsRunning a x → all.items ≡ set a.all.items n u → (answered ≡ false → lacks (get_or all.items n no_array) ≡ true)
    → StepCall (raid_by a) (λ k. get_or all.items k no_array) next log.number n x y on answered
    → HasStepped a (record a { all = all; log = log }) x y n next lacks answered
has_called_step a all log x y n next lacks on u answered running all_is refused call =
    let f : ℕ → View = λ k. get_or all.items k no_array in
    let v = raid_by a in
    let brings = step_brings v f next log.number n x y on answered running.set call in
    let seen = views v f next log.number n x y on answered running.set call in
    record {
      is_done = call.steps.is_done;
      refused = refused;
      answer = call.steps.answer;
      brings = brings;
      caused = record { left = left_before v f n x y running.set seen; cause = caused v f n x y running.set seen };
      running = record { count = ap length all_is ∙ length_set a.all.items n u ∙ running.count; set = brings.set };
      arrays = step_arrays v f next log.number n x y on answered running.set call;
      plan = refl;
      durable = λ is settled grown vals spent goes covers amid.
          done_rows v f next log.number n x y on answered running.set call is settled grown vals spent goes covers amid;
    }

-- the rows are array n's
resynced_own : (a : Arrays) (all : ArrayVec View) (log : LogView) (x y : RackView) (n rows : ℕ) (on : List ℕ) (number : ℕ) (old u : View) (answered : Bool)
    → get_or all.items n no_array ≡ u → old ≡ get_or a.all.items n no_array → number ≡ a.log.number → ResyncedRows old u rows number log.number on x y answered
    → ResyncedRows ((raid_by a).arrays n) (get_or all.items n no_array) rows a.log.number log.number on x y answered
resynced_own a all log x y n rows on number old u answered own old_is number_is resynced_rows =
    subst (λ (z : View). ResyncedRows z (get_or all.items n no_array) rows a.log.number log.number on x y answered) old_is
    (subst (λ (z : View). ResyncedRows old z rows a.log.number log.number on x y answered) (sym own)
    (subst (λ k. ResyncedRows old u rows k log.number on x y answered) number_is resynced_rows))

pub resynced_call : (a : Arrays) (all : ArrayVec View) (log : LogView) (x y : RackView) (n rows : ℕ) (on : List ℕ) (number : ℕ) (old u : View) (answered : Bool)
    → IsRunning a x → IsHeeded (raid_by a) → n < a.state.made → ((raid_by a).arrays n).resync < rows_of ((raid_by a).arrays n)
    → old ≡ get_or a.all.items n no_array → all.items ≡ set a.all.items n u → number ≡ a.log.number → number ≤ log.number
    → on ≡ current_places a.state → list_all (λ place. nat_lt place 16) u.went ≡ true → Goes x y
    → ResyncedRows old u rows number log.number on x y answered
    → StepCall (raid_by a) (λ k. get_or all.items k no_array) (resynced ((raid_by a).arrays n) rows) log.number n x y on answered
resynced_call a all log x y n rows on number old u answered running heeded low row old_is all_is number_is later on_is few goes resynced_rows =
    let f : ℕ → View = λ k. get_or all.items k no_array in
    let v = raid_by a in
    let own : f n ≡ u = ap (λ ys. get_or ys n no_array) all_is ∙ set_own a.all.items n u no_array (let count = running.count in omega (arith, low, count)) in
    let at = resynced_own a all log x y n rows on number old u answered own old_is number_is resynced_rows in
    let seated = running.set.arrays n low in
    record {
      heeded = heeded;
      low = low;
      others = λ k other. ap (λ ys. get_or ys k no_array) all_is ∙ set_other a.all.items n k u no_array other;
      goes = goes;
      later = subst (λ k. k ≤ log.number) number_is later;
      on_is = on_is;
      few = λ p is. low_named u.went p few (sym (ap (λ (z : View). has_gone z p) own) ∙ is);
      is_next = next_resynced a.state n rows (v.arrays n) x seated row at.inside;
      framed = refl;
      grows = resynced_reach (is_current a.state) (v.arrays n) rows;
      rows = omega arith;
      young = refl;
      whole = offset_whole (v.arrays n) rows (nat_lt ((v.arrays n).resync + rows) (rows_of (v.arrays n))) refl;
      settled = λ is was. resynced_settled (v.arrays n) rows is;
      steps = at.steps;
      elsewhere = at.elsewhere;
    }

pub has_resynced : (a : Arrays) (all : ArrayVec View) (log : LogView) (x y : RackView) (n rows : ℕ) (on : List ℕ) (number : ℕ) (old u : View) (answered : Bool)
    → IsRunning a x → IsHeeded (raid_by a) → n < a.state.made → ((raid_by a).arrays n).resync < rows_of ((raid_by a).arrays n)
    → old ≡ get_or a.all.items n no_array → all.items ≡ set a.all.items n u → number ≡ a.log.number → number ≤ log.number
    → on ≡ current_places a.state → list_all (λ place. nat_lt place 16) u.went ≡ true → Goes x y
    → ResyncedRows old u rows number log.number on x y answered
    → HasStepped a (record a { all = all; log = log }) x y n (resynced ((raid_by a).arrays n) rows) (λ u. lacks_row u ((raid_by a).arrays n).resync) answered
has_resynced a all log x y n rows on number old u answered running heeded low row old_is all_is number_is later on_is few goes resynced_rows =
    let f : ℕ → View = λ k. get_or all.items k no_array in
    let v = raid_by a in
    let own : f n ≡ u = ap (λ ys. get_or ys n no_array) all_is ∙ set_own a.all.items n u no_array (let count = running.count in omega (arith, low, count)) in
    let at = resynced_own a all log x y n rows on number old u answered own old_is number_is resynced_rows in
    has_called_step a all log x y n (resynced (v.arrays n) rows) (λ u. lacks_row u (v.arrays n).resync) on u answered running all_is at.refused
    (resynced_call a all log x y n rows on number old u answered running heeded low row old_is all_is number_is later on_is few goes resynced_rows)

-- a row that is resynced changes no member's size
pub stepped_rows : (v : Raid) (w : View) (n rows : ℕ) (is_done : Bool) → OnlyFailures (stepped v n (resynced (v.arrays n) rows) is_done n) w → rows_of w ≡ rows_of (v.arrays n)
stepped_rows v w n rows is_done only = ap (λ size. size / 128) only.same.geometry.size ∙ of ((n == n) && is_done)
  where
    of : (b : Bool) → rows_of (if b then resynced (v.arrays n) rows else v.arrays n) ≡ rows_of (v.arrays n)
    of true = refl
    of false = refl

-- a step's number is that before it, or the next one
pub step_later : (before after : LogView) → (after ≡ emptied before) ⊎ (after ≡ committed before) → before.number ≤ after.number
step_later before after (inl same) = let is = ap (λ (l : LogView). l.number) same in omega (arith, is)
step_later before after (inr next) = subst (λ (l : LogView). before.number ≤ l.number) (sym next) (next_later before.number)

pub step_raise : (before after : LogView) → (after ≡ emptied before) ⊎ (after ≡ committed before) → after.number ≤ before.number + 1
step_raise before after (inl same) = let is = ap (λ (l : LogView). l.number) same in omega (arith, is)
step_raise before after (inr next) = let is = ap (λ (l : LogView). l.number) next in let up = raised_up before.number in omega (arith, is, up)

pub resynced_raise : (old u : View) (rows : ℕ) (x y : RackView) (is_done : Bool) → Stepped old (resynced old rows) u x y is_done → u.truth.events ≤ old.truth.events + 1
resynced_raise old u rows x y false (as_it_was notes) = let e = ap (λ t. t.events) notes.same.truth in omega (arith, e)
resynced_raise old u rows x y true (done notes) = let e = ap (λ t. t.events) notes.same.truth in let up = raised_up old.truth.events in omega (arith, e, up)

-- a step, and the mending after it: what is answered after that to have been done was
pub step_mended : (a b c : Arrays) (x y z : RackView) (m : ℕ) (next : View) (lacks : View → Bool) (did answered : Bool) → m < a.state.made → HasStepped a b x y m next lacks did
    → Mends (raid_by b) (raid_by c) y z → (answered ≡ true → did ≡ true)
    → StepsOne (raid_by a) (raid_by c) x z m next answered
step_mended a b c x y z m next lacks did answered low one mends served =
    let made : (n : ℕ) → n < a.state.made → n < b.state.made = λ n below. subst (λ k. n < k) (sym one.brings.book.same.made) below in
    record {
      is_done = one.is_done;
      answer = λ ok. one.answer (served ok);
      brings = brings_then (raid_by a) (raid_by b) (raid_by c) x y z (λ n vals. vals) one.brings mends.moves;
      caused = caused_then (raid_by a) (raid_by b) (raid_by c) x y z one.brings.stays mends.moves.stays one.caused
          (record { left = mends.moves.left; cause = mends.moves.cause });
      heeded = mends.heeded;
      arrays = λ n below.
          only_then (stepped (raid_by a) m next one.is_done n) ((raid_by b).arrays n) ((raid_by c).arrays n) (one.arrays n below) (mends.moves.arrays n (made n below));
      plan = mends.moves.plan ∙ one.plan;
      durable = λ is settled young vals spent joined goes covers amid.
          let there = made m low in
          let mid_goes = mends.moves.still m there goes in
          let covered : IncludesSpent ((raid_by b).arrays m) spent = λ y alive. mends.moves.spent m y there (covers y alive) in
          (mends.moves.rows m vals spent (subst (λ k. m < k) (sym one.brings.book.same.joined) joined) there goes covers
          ((one.brings.parts m vals spent joined low mid_goes covered).holds amid)
          (one.durable is settled young vals spent mid_goes covered amid)).after;
    }

-- as many are answered as were done
pub told_rows : {E : Type 0} (did : Result ℕ E) (rows : ℕ) (r : Result ℕ Stuck) → IfOk did (λ k. k ≡ rows) → IfOk r (λ k. did ≡ Ok k) → IfOk r (λ k. k ≡ rows)
told_rows did rows (Ok k) number is = subst (λ d. IfOk d (λ n. n ≡ rows)) is number
told_rows did rows (Err e) number is = tt

-- Rows by a step, and the mending after it: what is answered once that is known. What lacks nobody after losses lacked nobody before them.
pub rows_mended : (a b c : Arrays) (x y z : RackView) (m left most : ℕ) (next : ℕ → View) (lacks : View → Bool) {E : Type 0} (did : Result ℕ E) (result : Result ℕ Stuck)
    → m < a.state.made → (rows : ℕ) → 0 < rows → rows ≤ most → rows ≤ left → IfOk did (λ k. k ≡ rows)
    → HasStepped a b x y m (next rows) lacks (is_ok did) → Mends (raid_by b) (raid_by c) y z
    → IfOk result (λ k. did ≡ Ok k)
    → DoesRows (λ rows. StepsOne (raid_by a) (raid_by c) x z m (next rows)) left most result
rows_mended a b c x y z m left most next lacks did result low rows some few inside number one mends told = record {
  rows = rows;
  some = some;
  few = few;
  left = inside;
  steps = step_mended a b c x y z m (next rows) lacks (is_ok did) (is_ok result) low one mends (served result told);
  answer = told_rows did rows result number told;
}
  where
    served : (r : Result ℕ Stuck) → IfOk r (λ k. did ≡ Ok k) → is_ok r ≡ true → is_ok did ≡ true
    served (Ok k) is ok = ap is_ok is
    served (Err e) is ok = absurd (both_ways false refl ok)

-- THE SAME WITH WHAT CONTENTS HOLD IN IT
pub rows_made : (a c : Arrays) (all : ArrayVec View) (log : LogView) (x y z : RackView) (m left most : ℕ) (next : ℕ → View) (on : List ℕ) (u : View) {E : Type 0} (did : Result ℕ E) (result : Result ℕ Stuck)
    → (rows : ℕ) → 0 < rows → rows ≤ most → rows ≤ left → IfOk did (λ k. k ≡ rows) → IsRunning a x → all.items ≡ set a.all.items m u
    → (call : StepCall (raid_by a) (λ k. get_or all.items k no_array) (next rows) log.number m x y on (is_ok did))
    → Mends (raid_by (record a { all = all; log = log })) (raid_by c) y z → IfOk result (λ k. did ≡ Ok k)
    → MakesTurn (steps m (next rows)) call.steps.is_done (λ vals. ((raid_by a).arrays m).young ≡ false) (raid_by a) (raid_by c) x z
    → DoesRows (λ rows. MakesStep m (next rows) (raid_by a) (raid_by c) x z) left most result
unfolding rows_mended step_mended has_called_step
rows_made a c all log x y z m left most next on u did result rows some few inside number running all_is call mends told turn =
    let one = has_called_step a all log x y m (next rows) (λ w. true) on u (is_ok did) running all_is (λ refused. refl) call in
    let does = rows_mended a (record a { all = all; log = log }) c x y z m left most next (λ w. true) did result call.low rows some few inside number one mends told in
    record { rows = rows; some = some; few = few; left = inside; steps = record { step = does.steps; contents = turn }; answer = does.answer }

-- what is answered to be done was
pub done_alone : {E : Type 0} (did : Result ℕ E) (stuck : Bool) (r : Result ℕ Stuck) → IfOk r (λ k. (did ≡ Ok k) × (stuck ≡ false)) → IfOk r (λ k. did ≡ Ok k)
done_alone did stuck (Ok k) is = is.0
done_alone did stuck (Err e) is = tt

-- a row that is lacking before losses is after them
pub lacks_then : (u w : View) (row : ℕ) → OnlyFailures u w → lacks_row u row ≡ true → lacks_row w row ≡ true
lacks_then u w row only lacks = elim (cases_Bool (lacks_row w row)) [
  | inl still ↦ still
  | inr none ↦ absurd (both_ways (lacks_row u row) (lacks_less u w row only none) lacks)
]

-- the answers of a row call
pub answered_refused : {T E : Type 0} (lacks : Bool) (P : E → Type 0) (r : Result T E) → IfErr r (λ e. P e × (lacks ≡ true)) → is_ok r ≡ false → lacks ≡ true
answered_refused lacks P (Ok x) refused is = absurd (both_ways true is refl)
answered_refused lacks P (Err e) refused is = refused.1
