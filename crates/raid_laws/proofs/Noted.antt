-- Parts of a call that call nothing: losses are noted in all arrays, and heeded once they are marked.
use Rattle.std.proofs.Common.{◌≡◌, ℕ, ◌<◌, ◌≤◌, Bool, true, false, ◌&&◌, ◌||◌, not, nat_lt, List, map, length, refl, sym, ap, subst, ◌∙◌, inl, inr, ltb-true, lt-ltb, arith}
use Rattle.std.proofs.lemmas.Bool.{cases_Bool, cases_eq, cases_lt, both_ways, and_parts, and_from}
use Rattle.std.proofs.lemmas.Option.{slice_get_past}
use Rattle.std.specs.Option.{option_map_or}
use Rattle.array_image.specs.Stripes.{sector_in}
use Rattle.array_image.specs.Spent.{wanting, spent_with}
use Rattle.std.specs.List.{list_any, range_with_len}
use Rattle.rack.specs.Values.{Values}
use Rattle.rack.specs.Seen.{Image, RackView, SameRack}
use Rattle.rack.specs.Joins.{stays_same, leaves_same, keeps_same}
use Rattle.rack.specs.Targets.{Target, look}
use Rattle.pool_state.specs.declared.contents.State.{State}
use Rattle.array_image.specs.Places.{log_slice, member_slice}
use Rattle.array_image.specs.States.{is_current}
use Rattle.array_image.specs.Arrays.{Shape, layout_at, replayed}
use Rattle.array_image.specs.Marks.{lower}
use Rattle.array_image.specs.Held.{Among, current_in}
use Rattle.array_image.proofs.Marked.{among_lowered}
use Rattle.array_image.specs.Left.{PicksLogs}
use Rattle.array_image.proofs.Replays.{replayed_as_is}
use Rattle.log_laws.specs.Kept.{LogInvariant}
use Rattle.log_laws.specs.Commits.{Stands}
use Rattle.log_laws.proofs.Kept.{kept_idle, live_on, live_after}
use Rattle.array_model.specs.View.{View, IsArray, has_gone, is_whole_array, present, sectors_of, shape_of, spent_in}
use Rattle.array_model.specs.ArrayCalls.{IncludesSpent}
use Rattle.array_model.proofs.Losses.{IsLosing}
use Rattle.array_model.proofs.Spared.{at_most_one, lost_value, wanting_more}
use Rattle.array_model.proofs.Noting.{laid_out, unspent_then}
use Rattle.array_core.specs.Seats.{names, gone, heeded}
use Rattle.array_core.specs.Superblocks.{is_settled}
use Rattle.raid_laws.specs.Book.{after_same}
use Rattle.raid_laws.specs.Frames.{frame_of}
use Rattle.raid_laws.specs.Raid.{Raid, AreLive, gone_in, is_left, is_failed, IsWritten}
use Rattle.raid_laws.specs.Moves.{IsSet, IsSeated, IsMarkedWhole, AreMarked, IsTrackedInCall, ChangesData, OnlyFailures, ChangesNoData}
use Rattle.raid_laws.specs.Reach.{KeepsReachOn, reach_fewer, reach_then}
use Rattle.raid_laws.proofs.Own.{look_nothing}
use Rattle.raid_laws.proofs.Ranges.{any_some, any_from}
use Rattle.raid_laws.proofs.Reach.{lost_reach}
use Rattle.raid_laws.proofs.Over.{someone_left, not_true, over_still, IsFurther}
use Rattle.raid_laws.proofs.Reading.{stood_noted, stood_heeded}
use Rattle.raid_laws.proofs.Losing.{only_gone, only_heeded}
use Rattle.raid_laws.proofs.Moving.{part_still}
use Rattle.raid_laws.proofs.Rows.{KeepsClear, rows_still}
use Rattle.raid_laws.proofs.LackingRows.{lacking_still}
use Rattle.raid_laws.proofs.Seated.{names_joined, or_last, gone_losing, gone_fewer, gone_seated, heeded_seated}

-- ---- places that went

-- a place that went in one of the arrays
pub gone_some : (v : Raid) (p : ℕ) → gone_in v p ≡ true → (p < 16) × ((n : ℕ) × (n < v.state.made) × (has_gone (v.arrays n) p ≡ true))
gone_some v p is =
    let both = and_parts (nat_lt p 16) (list_any (λ n. has_gone (v.arrays n) p) (range_with_len 0 v.state.made)) is in
    let at = any_some (λ n. has_gone (v.arrays n) p) 0 v.state.made both.1 in
    let below = at.2 in
    (ltb-true p 16 both.0, (at.0, omega (arith, below), at.3))

pub gone_from : (v : Raid) (p n : ℕ) → p < 16 → n < v.state.made → has_gone (v.arrays n) p ≡ true → gone_in v p ≡ true
gone_from v p n few low is =
    and_from (nat_lt p 16) (list_any (λ m. has_gone (v.arrays m) p) (range_with_len 0 v.state.made)) (lt-ltb p 16 few)
    (any_from (λ m. has_gone (v.arrays m) p) 0 v.state.made n (omega arith) (omega (arith, low)) is)

pub gone_not : (v : Raid) (p n : ℕ) → p < 16 → n < v.state.made → gone_in v p ≡ false → has_gone (v.arrays n) p ≡ false
gone_not v p n few low none =
    elim (cases_Bool (has_gone (v.arrays n) p)) [
      | inl is ↦ absurd (both_ways (gone_in v p) none (gone_from v p n few low is))
      | inr not ↦ not
    ]

pub bool_same : (b c : Bool) → (b ≡ true → c ≡ true) → (c ≡ true → b ≡ true) → b ≡ c
bool_same true c one two = sym (one refl)
bool_same false true one two = two refl
bool_same false false one two = refl

or_of : (b c : Bool) → (b || c) ≡ true → c ≡ false → b ≡ true
or_of true c e none = refl
or_of false c e none = absurd (both_ways c none e)

-- a current place is one of the pool
pub current_few : (s : State) (p : ℕ) → length s.drives.items ≤ 16 → is_current s p ≡ true → p < 16
current_few s p few current =
    elim (cases_lt p (length s.drives.items)) [
      | inl below ↦ omega (arith, below, few)
      | inr past ↦ absurd (both_ways (is_current s p) (ap (λ o. option_map_or (λ drive. not drive.missing) o false) (slice_get_past s.drives.items p past)) current)
    ]

-- an array that has lost members counts those on places that are left as before
pub left_reach : (w : Raid) (n : ℕ) (u : View) (x : RackView) → n < w.state.made → IsSeated w.state n (w.arrays n) x → OnlyFailures u (w.arrays n)
    → KeepsReachOn (is_left w) (shape_of u) (shape_of (w.arrays n))
left_reach w n u x low seated only =
    lost_reach (is_left w) w.state n u (w.arrays n) x seated only
    (λ p few left.
    let both = and_parts (is_current w.state p) (not (gone_in w p)) left in
    and_from (is_current w.state p) (not (has_gone (w.arrays n) p)) both.0 (ap not (gone_not w p n few low (not_true (gone_in w p) both.1))))

-- ---- they are noted

-- places are noted as lost in all arrays, one of them current
pub record IsNoting (lost : List ℕ) (v : Raid) (f : ℕ → View) : Type 0 where
  pub arrays : (n : ℕ) → n < v.state.made → f n ≡ gone lost (v.arrays n)
  pub one : ℕ
  pub named : names lost one ≡ true
  pub current : is_current v.state one ≡ true
  pub few : one < 16

abbrev pub with_arrays : Raid → (ℕ → View) → Raid
with_arrays v f = record v { arrays = f }

-- slices that are told are told still
pub live_later : (made : ℕ) (x y : RackView) → SameRack x y → x.lasting → AreLive made x → AreLive made y
live_later made x y stays lasting live n place t low few there =
    live_after stays (live_on lasting stays (live n place t low few (subst (λ k. t < k) (stays.sectors (member_slice place n)) there)))

-- whoever is noted has gone, in each array
pub noted_went : (lost : List ℕ) (v : Raid) (f : ℕ → View) → IsNoting lost v f → (n p : ℕ) → n < v.state.made → p < 16
    → has_gone (f n) p ≡ (has_gone (v.arrays n) p || names lost p)
noted_went lost v f noting n p low few =
    ap (λ (u : View). has_gone u p) (noting.arrays n low) ∙ names_joined (v.arrays n).went lost p few

noted_one : (lost : List ℕ) (v : Raid) (f : ℕ → View) (noting : IsNoting lost v f) (n : ℕ) → n < v.state.made → has_gone (f n) noting.one ≡ true
noted_one lost v f noting n low = noted_went lost v f noting n noting.one low noting.few ∙ or_last (has_gone (v.arrays n) noting.one) (names lost noting.one) noting.named

pub noted_more : (lost : List ℕ) (v : Raid) (f : ℕ → View) → IsNoting lost v f → (p : ℕ) → gone_in v p ≡ true → gone_in (with_arrays v f) p ≡ true
noted_more lost v f noting p is =
    let at = gone_some v p is in
    gone_from (with_arrays v f) p at.1.0 at.0 at.1.1
    (noted_went lost v f noting at.1.0 p at.1.1 at.0 ∙ ap (λ b. b || names lost p) at.1.2)

-- so an array that was whole is so, or somebody went who is current
pub noted_whole : (lost : List ℕ) (v : Raid) (f : ℕ → View) → IsNoting lost v f → (n : ℕ) → n < v.state.made → IsMarkedWhole (with_arrays v f) n
noted_whole lost v f noting n low marked =
    inr (noting.one, noting.current, gone_from (with_arrays v f) noting.one n noting.few low (noted_one lost v f noting n low))

pub noted_seated : (lost : List ℕ) (v : Raid) (f : ℕ → View) (x : RackView) → IsNoting lost v f → IsSet v x → (n : ℕ) → n < v.state.made → IsSeated v.state n (f n) x
noted_seated lost v f x noting set n low =
    subst (λ (u : View). IsSeated v.state n u x) (sym (noting.arrays n low)) (gone_seated v.state n (v.arrays n) lost x (stays_same x set.fit) (λ p current. current_few v.state p set.few current) (set.arrays n low))

noted_losing : (lost : List ℕ) (v : Raid) (f : ℕ → View) (n : ℕ) → IsNoting lost v f → n < v.state.made → IsArray (v.arrays n)
    → IsLosing (v.arrays n) (f n) (names lost)
noted_losing lost v f n noting low is_array =
    subst (λ (u : View). IsLosing (v.arrays n) u (names lost)) (sym (noting.arrays n low))
    (gone_losing (v.arrays n) lost is_array
    (λ none.
    absurd (both_ways (names (f n).went noting.one) (ap (λ (u : View). names u.went noting.one) (noting.arrays n low) ∙ ap (λ ps. names ps noting.one) none)
    (noted_one lost v f noting n low))))

pub noted_before : (lost : List ℕ) (v : Raid) (f : ℕ → View) → IsNoting lost v f → (p : ℕ) → is_left (with_arrays v f) p ≡ true → is_left v p ≡ true
noted_before lost v f noting p is =
    let both = and_parts (is_current v.state p) (not (gone_in (with_arrays v f) p)) is in
    and_from (is_current v.state p) (not (gone_in v p)) both.0
    (elim (cases_Bool (gone_in v p)) [
      | inl was ↦ absurd (both_ways (gone_in (with_arrays v f) p) (not_true (gone_in (with_arrays v f) p) both.1) (noted_more lost v f noting p was))
      | inr none ↦ ap not none
    ])

-- An array that stands does so still, its members on these places missing: with images as they were, and the values that it held.
pub noted_amid : (lost : List ℕ) (v : Raid) (f : ℕ → View) (x : RackView) (n : ℕ) (vals : ℕ → Values) (spent : ℕ → Bool)
    → IsSet v x → IsNoting lost v f → n < v.state.made → is_failed (with_arrays v f) n ≡ false → IncludesSpent (f n) spent
    → IsTrackedInCall v x n vals spent → IsTrackedInCall (with_arrays v f) x n vals spent
noted_amid lost v f x n vals spent set noting low goes covers amid =
    let losing = noted_losing lost v f n noting low (set.arrays n low).is_array in
    record {
      durable = amid.durable;
      stood = stood_noted v.state amid.durable vals spent (gone_in v) (gone_in (with_arrays v f)) (names lost) v (with_arrays v f) x n refl
          (noted_more lost v f noting)
          (someone_left (with_arrays v f) n goes)
          losing
          (λ is. subst IsWritten (sym (noting.arrays n low)) is)
          (λ y alive.
          lost_value (names lost) (shape_of (v.arrays n)) (v.arrays n).number (v.arrays n).resync (current_in x.held) y (laid_out (v.arrays n) (set.arrays n low).is_array)
          amid.stood.holds.shape.even amid.stood.holds.shape.sized
          (unspent_then (v.arrays n) (f n) (names lost) losing y (covers y alive)))
          amid.stood;
      slices = amid.slices;
      marked = λ are.
          absurd (both_ways (gone_in (with_arrays v f) noting.one) (are noting.one noting.current)
          (gone_from (with_arrays v f) noting.one n noting.few low (noted_one lost v f noting n low)));
      noted =
          reach_then (is_left v) (is_left (with_arrays v f)) amid.durable (shape_of (v.arrays n)) (shape_of (f n)) (noted_before lost v f noting) amid.noted
          (left_reach (with_arrays v f) n (v.arrays n) x low (noted_seated lost v f x noting set n low)
          (only_gone (v.arrays n) (f n) lost (set.arrays n low).is_array (noting.arrays n low)));
    }

-- ---- they are those that went in some array

abbrev pub HaveGone : List ℕ → Raid → Type 0
HaveGone lost v = (p : ℕ) → names lost p ≡ true → gone_in v p ≡ true

noted_gone : (lost : List ℕ) (v : Raid) (f : ℕ → View) → IsNoting lost v f → HaveGone lost v → (p : ℕ) → gone_in (with_arrays v f) p ≡ gone_in v p
noted_gone lost v f noting went p =
    bool_same (gone_in (with_arrays v f) p) (gone_in v p)
    (λ is.
    let at = gone_some (with_arrays v f) p is in
    let n = at.1.0 in
    elim (cases_Bool (names lost p)) [
      | inl lost_now ↦ went p lost_now
      | inr other ↦ gone_from v p n at.0 at.1.1 (or_of (has_gone (v.arrays n) p) (names lost p) (sym (noted_went lost v f noting n p at.1.1 at.0) ∙ at.1.2) other)
    ])
    (noted_more lost v f noting p)

noted_left : (lost : List ℕ) (v : Raid) (f : ℕ → View) → IsNoting lost v f → HaveGone lost v → (p : ℕ) → is_left (with_arrays v f) p ≡ is_left v p
noted_left lost v f noting went p = ap (λ b. is_current v.state p && not b) (noted_gone lost v f noting went p)

noted_further : (lost : List ℕ) (v : Raid) (f : ℕ → View) (x : RackView) → IsSet v x → IsNoting lost v f → HaveGone lost v → IsFurther v (with_arrays v f)
noted_further lost v f x set noting went = record {
  left = λ p is. sym (noted_left lost v f noting went p) ∙ is;
  number = omega arith;
  epoch = omega arith;
  made = refl;
  events = λ n low. subst (λ (u : View). (v.arrays n).truth.events ≤ u.truth.events) (sym (noting.arrays n low)) (omega arith);
  seats = λ n low. subst (λ (u : View). present u.seats ≤ present (v.arrays n).seats) (sym (noting.arrays n low)) (gone_fewer (v.arrays n) lost (set.arrays n low).is_array);
}

-- what is spent stays so
pub losing_spent : (u w : View) (lost : ℕ → Bool) → IsArray u → IsLosing u w lost → (y : ℕ) → spent_in w y ≡ false → spent_in u y ≡ false
losing_spent u w lost is_array losing y alive =
    let layout = layout_at (shape_of u) y in
    less_spent (wanting (sector_in layout y) (shape_of u).members) (wanting (sector_in layout y) (map (lower lost) (shape_of u).members))
    _
    (wanting_more lost (sector_in layout y) (shape_of u).members)
    (unspent_then u w lost losing y alive)
  where
    less_spent : (m n : ℕ) (b : Bool) → m ≤ n → spent_with n b ≡ false → spent_with m b ≡ false
    less_spent m n b less alive =
        elim (cases_eq m n) [
          | inl same ↦ ap (λ k. spent_with k b) same ∙ alive
          | inr other ↦
              let few = at_most_one n b alive in
              let none : m ≡ 0 = omega (arith, less, few, other) in
              ap (λ k. spent_with k b) none
        ]

pub set_noted : (lost : List ℕ) (v : Raid) (f : ℕ → View) (x : RackView) → IsSet v x → IsNoting lost v f → IsSet (with_arrays v f) x
set_noted lost v f x set noting = record {
  fit = set.fit;
  lasting = set.lasting;
  disks = set.disks;
  few = set.few;
  most = set.most;
  valid = set.valid;
  logs = λ p left. set.logs p (noted_before lost v f noting p left);
  arrays = noted_seated lost v f x noting set;
  marked = noted_whole lost v f noting;
}

-- what is noted and heeded isn't the truth
pub noted_clear : (lost : List ℕ) (u w : View) → w ≡ gone lost u → KeepsClear u w
noted_clear lost u w same = record { resync = ap (λ (z : View). z.resync) same; young = ap (λ (z : View). z.young) same; settled = λ young is. ap is_settled same ∙ is }

heeded_clear : (u w : View) → w ≡ heeded u → KeepsClear u w
heeded_clear u w same = record { resync = ap (λ (z : View). z.resync) same; young = ap (λ (z : View). z.young) same; settled = λ young is. ap is_settled same ∙ is }

pub moves_noted : (lost : List ℕ) (v : Raid) (f : ℕ → View) (x : RackView) → IsSet v x → IsNoting lost v f → HaveGone lost v
    → ((n : ℕ) → sectors_of (f n) ≡ sectors_of (v.arrays n)) → ChangesNoData v (with_arrays v f) x x
unfolding noted_amid
moves_noted lost v f x set noting went sectors =
    record {
      stays = stays_same x set.fit;
      set = set_noted lost v f x set noting;
      book = after_same v.state;
      leaves = λ traced. leaves_same x (λ c. Unit {0});
      number = omega arith;
      events = (noted_further lost v f x set noting went).events;
      arrays = λ n low. only_gone (v.arrays n) (f n) lost (set.arrays n low).is_array (noting.arrays n low);
      plan = refl;
      sectors = sectors;
      left = λ p is. sym (noted_left lost v f noting went p) ∙ is;
      cause = λ p was now. absurd (both_ways (is_left v p) (sym (noted_left lost v f noting went p) ∙ now) was);
      still = λ n low goes. over_still v (with_arrays v f) (noted_further lost v f x set noting went) n low goes;
      spent = λ n y low alive.
          losing_spent (v.arrays n) (f n) (names lost) (set.arrays n low).is_array (noted_losing lost v f n noting low (set.arrays n low).is_array) y alive;
      counted = λ n m sector low among counts.
          among_lowered (names lost) sector (shape_of (v.arrays n)).members m
          (subst (λ (shape : Shape). Among m shape.members) (noted_losing lost v f n noting low (set.arrays n low).is_array).shape among) counts;
      unwritten = λ d t live gone. keeps_same (x.held d t);
      kept = λ d t live apart other. keeps_same (x.held d t);
      parts = λ n vals spent joined low goes covers. part_still v (with_arrays v f) x n vals spent refl (ap (λ (u : View). frame_of u.truth) (noting.arrays n low)) (noted_amid lost v f x n vals spent set noting low goes covers)
          (λ amid. refl);
      rows = λ n vals spent joined low goes covers amid rows. rows_still v (with_arrays v f) x n (noted_clear lost (v.arrays n) (f n) (noting.arrays n low)) rows;
      lacking = λ n vals spent joined low goes covers amid leaves. lacking_still v (with_arrays v f) x n (noted_clear lost (v.arrays n) (f n) (noting.arrays n low)) leaves;
    }

-- so they move no value
pub noted_brings : (lost : List ℕ) (v : Raid) (f : ℕ → View) (x : RackView) → IsSet v x → IsNoting lost v f
    → ((n : ℕ) → sectors_of (f n) ≡ sectors_of (v.arrays n)) → ChangesData v (with_arrays v f) x x (λ n vals. vals)
unfolding noted_amid
noted_brings lost v f x set noting sectors =
    record {
      stays = stays_same x set.fit;
      set = set_noted lost v f x set noting;
      book = after_same v.state;
      leaves = λ traced. leaves_same x (λ c. Unit {0});
      number = omega arith;
      events = λ n low. let e = ap (λ (u : View). u.truth.events) (noting.arrays n low) in omega (arith, e);
      sectors = sectors;
      unwritten = λ d t live gone. keeps_same (x.held d t);
      still = λ n low goes. over_still v (with_arrays v f) (record {
        left = noted_before lost v f noting;
        number = omega arith;
        epoch = omega arith;
        made = refl;
        events = λ k below. subst (λ (u : View). (v.arrays k).truth.events ≤ u.truth.events) (sym (noting.arrays k below)) (omega arith);
        seats = λ k below. subst (λ (u : View). present u.seats ≤ present (v.arrays k).seats) (sym (noting.arrays k below)) (gone_fewer (v.arrays k) lost (set.arrays k below).is_array);
      }) n low goes;
      spent = λ n y low alive.
          losing_spent (v.arrays n) (f n) (names lost) (set.arrays n low).is_array (noted_losing lost v f n noting low (set.arrays n low).is_array) y alive;
      parts = λ n vals spent joined low goes covers. part_still v (with_arrays v f) x n vals spent refl (ap (λ (u : View). frame_of u.truth) (noting.arrays n low)) (noted_amid lost v f x n vals spent set noting low goes covers)
          (λ amid. refl);
      rows = λ n vals spent unwritten joined low goes covers amid rows. rows_still v (with_arrays v f) x n (noted_clear lost (v.arrays n) (f n) (noting.arrays n low)) rows;
      lacking = λ n vals spent joined low goes covers amid leaves. lacking_still v (with_arrays v f) x n (noted_clear lost (v.arrays n) (f n) (noting.arrays n low)) leaves;
    }

-- ---- they are heeded

-- where whoever went is marked, nothing is pending
pub idle_now : (s : State) (number : ℕ) (gone : ℕ → Bool) (x : RackView) → LogInvariant s number gone x → ((p : ℕ) → is_current s p ≡ true → gone p ≡ false)
    → (c : Image) → PicksLogs x c → (d t : ℕ) → replayed x.sectors c d t ≡ c d t
idle_now s number gone x kept all c picks d t =
    replayed_as_is x.sectors c d t
    (ap (λ (xs : List Target). look xs d t) (kept_idle s number gone x c kept picks all) ∙ look_nothing d t)

logs_stand : {x : RackView} (c : Image) → Stands x c → PicksLogs x c
logs_stand c stands = record { picks = λ p t live. stands.picks (log_slice p) t live; inside = λ p t out. stands.inside p t out }

-- so the places that went need be known no more
pub kept_marked : (s : State) (number : ℕ) (gone now : ℕ → Bool) (x : RackView) → ((p : ℕ) → is_current s p ≡ true → gone p ≡ false)
    → LogInvariant s number gone x → LogInvariant s number now x
kept_marked s number gone now x all kept =
    record {
      logs = kept.logs;
      few = kept.few;
      there = λ p current left. kept.there p current (all p current);
      copies = record { own = λ p u current left may. kept.copies.own p u current (all p current) may; others = kept.copies.others; earlier = kept.copies.earlier };
      numbers = kept.numbers;
      halves = kept.halves;
      whole = kept.whole;
      idle = λ c stand. inl (kept_idle s number gone x c kept stand all);
      closed = λ now_all. kept.closed all;
      quiet = λ c stands d t left. idle_now s number gone x kept all c (logs_stand c stands) d t;
      brought = λ c p copy stands few there is. kept.brought c p copy stands few there is;
    }

heeded_none : (v : Raid) (f : ℕ → View) → ((n : ℕ) → n < v.state.made → f n ≡ heeded (v.arrays n)) → (p : ℕ) → gone_in (with_arrays v f) p ≡ false
heeded_none v f arrays p =
    elim (cases_Bool (gone_in (with_arrays v f) p)) [
      | inl is ↦
          let at = gone_some (with_arrays v f) p is in
          absurd (both_ways (has_gone (f at.1.0) p) (ap (λ (u : View). has_gone u p) (arrays at.1.0 at.1.1)) at.1.2)
      | inr not ↦ not
    ]

-- the shape doesn't go by the places that went
pub heeded_shape : (u : View) → shape_of (heeded u) ≡ shape_of u
unfolding shape_of
heeded_shape u = refl

heeded_spent : (u : View) (y : ℕ) → spent_in (heeded u) y ≡ spent_in u y
unfolding shape_of
heeded_spent u y = refl

heeded_left : (v : Raid) (f : ℕ → View) → ((n : ℕ) → n < v.state.made → f n ≡ heeded (v.arrays n)) → AreMarked v → (p : ℕ) → is_left (with_arrays v f) p ≡ is_left v p
heeded_left v f arrays are p = of (is_current v.state p) (gone_in (with_arrays v f) p) (gone_in v p) (heeded_none v f arrays p) (are p)
  where
    of : (current now was : Bool) → now ≡ false → (current ≡ true → was ≡ false) → (current && not now) ≡ (current && not was)
    of true now was none all = ap (λ b. true && not b) (none ∙ sym (all refl))
    of false now was none all = refl

heeded_amid : (v : Raid) (f : ℕ → View) (x : RackView) (n : ℕ) (vals : ℕ → Values) (spent : ℕ → Bool)
    → IsSet v x → ((m : ℕ) → m < v.state.made → f m ≡ heeded (v.arrays m)) → AreMarked v → n < v.state.made
    → IsTrackedInCall v x n vals spent → IsTrackedInCall (with_arrays v f) x n vals spent
heeded_amid v f x n vals spent set arrays are low amid =
    let stood = stood_heeded v.state amid.durable vals spent (gone_in v) v (with_arrays v f) x n refl (arrays n low)
    (λ c picks place t. idle_now v.state v.number (gone_in v) x amid.stood.log are c picks (member_slice place n) t) amid.stood in
    record {
      durable = amid.durable;
      stood = record {
        joined = stood.joined;
        few = stood.few;
        number = stood.number;
        log = kept_marked v.state v.number (gone_in v) (gone_in (with_arrays v f)) x are stood.log;
        someone = (stood.someone.0, stood.someone.1, heeded_none v f arrays stood.someone.0);
        written = stood.written;
        holds = stood.holds;
      };
      slices = amid.slices;
      marked = λ now. amid.marked are ∙ sym (ap shape_of (arrays n low) ∙ heeded_shape (v.arrays n));
      noted =
          subst (λ (shape : Shape). KeepsReachOn (is_left (with_arrays v f)) amid.durable shape) (sym (ap shape_of (arrays n low) ∙ heeded_shape (v.arrays n)))
          (reach_fewer (is_left v) (is_left (with_arrays v f)) amid.durable (shape_of (v.arrays n)) (λ p is. sym (heeded_left v f arrays are p) ∙ is) amid.noted);
    }

heeded_whole : (v : Raid) (f : ℕ → View) (n : ℕ) → f n ≡ heeded (v.arrays n) → AreMarked v → IsMarkedWhole v n → IsMarkedWhole (with_arrays v f) n
heeded_whole v f n is are whole marked =
    elim (whole (ap (λ (u : View). u.marked) (sym is) ∙ marked)) [
      | inl all ↦ inl (ap is_whole_array is ∙ all)
      | inr some ↦ absurd (both_ways (gone_in v some.0) (are some.0 some.1) some.2)
    ]

pub moves_heeded : (v : Raid) (f : ℕ → View) (x : RackView) → IsSet v x
    → ((n : ℕ) → n < v.state.made → f n ≡ heeded (v.arrays n)) → ((n : ℕ) → sectors_of (f n) ≡ sectors_of (v.arrays n)) → AreMarked v
    → ChangesNoData v (with_arrays v f) x x
unfolding heeded_amid
moves_heeded v f x set arrays sectors are =
    record {
      stays = stays_same x set.fit;
      set = record {
        fit = set.fit;
        lasting = set.lasting;
        disks = set.disks;
        few = set.few;
        most = set.most;
        valid = set.valid;
        logs = λ p left. set.logs p (sym (heeded_left v f arrays are p) ∙ left);
        arrays = λ n low. subst (λ (u : View). IsSeated v.state n u x) (sym (arrays n low))
            (heeded_seated v.state n (v.arrays n) x (stays_same x set.fit) (set.arrays n low)
            (λ p current. gone_not v p n (current_few v.state p set.few current) low (are p current)));
        marked = λ n low. heeded_whole v f n (arrays n low) are (set.marked n low);
      };
      book = after_same v.state;
      leaves = λ traced. leaves_same x (λ c. Unit {0});
      number = omega arith;
      events = λ n low. let e = ap (λ (u : View). u.truth.events) (arrays n low) in omega (arith, e);
      arrays = λ n low. only_heeded (v.arrays n) (f n) (arrays n low);
      plan = refl;
      sectors = sectors;
      left = λ p is. sym (heeded_left v f arrays are p) ∙ is;
      cause = λ p was now. absurd (both_ways (is_left v p) (sym (heeded_left v f arrays are p) ∙ now) was);
      still = λ n low goes. over_still v (with_arrays v f) (record {
        left = λ p is. sym (heeded_left v f arrays are p) ∙ is;
        number = omega arith;
        epoch = omega arith;
        made = refl;
        events = λ m below. subst (λ (u : View). (v.arrays m).truth.events ≤ u.truth.events) (sym (arrays m below)) (omega arith);
        seats = λ m below. subst (λ (u : View). present u.seats ≤ present (v.arrays m).seats) (sym (arrays m below)) (omega arith);
      }) n low goes;
      spent = λ n y low alive. sym (ap (λ (u : View). spent_in u y) (arrays n low) ∙ heeded_spent (v.arrays n) y) ∙ alive;
      counted = λ n m sector low among counts.
          subst (λ (shape : Shape). Among m shape.members) (ap shape_of (arrays n low) ∙ heeded_shape (v.arrays n)) among;
      unwritten = λ d t live gone. keeps_same (x.held d t);
      kept = λ d t live apart other. keeps_same (x.held d t);
      parts = λ n vals spent joined low goes covers. part_still v (with_arrays v f) x n vals spent refl (ap (λ (u : View). frame_of u.truth) (arrays n low)) (heeded_amid v f x n vals spent set arrays are low)
          (λ amid. refl);
      rows = λ n vals spent joined low goes covers amid rows. rows_still v (with_arrays v f) x n (heeded_clear (v.arrays n) (f n) (arrays n low)) rows;
      lacking = λ n vals spent joined low goes covers amid leaves. lacking_still v (with_arrays v f) x n (heeded_clear (v.arrays n) (f n) (arrays n low)) leaves;
    }
