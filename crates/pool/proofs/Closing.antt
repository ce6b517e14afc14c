-- A plan goes on by works, or ends as the last of them.
use Rattle.std.specs.Option.{option_map_or}
use Rattle.std.proofs.Common.{◌≡◌, ℕ, ◌<◌, ◌≤◌, ◌==◌, ◌&&◌, Bool, true, false, nat_lt, if◌then◌else◌, [], ◌∷◌, length, slice_get, Option, Some, Result, Err, refl, sym, ap, subst, ◌∙◌, inl, inr, ne_eqb}
use Rattle.std.proofs.lemmas.Bool.{and_parts, both_ways, cases_Bool, cases_eq}
use Rattle.rack.specs.Seen.{RackView}
use Rattle.array_model.specs.declared.Seat.{Seat}
use Rattle.array_model.specs.View.{View as ArrayView, IsArray}
use Rattle.array_core.specs.Seats.{seat_of}
use Rattle.sync_laws.specs.Steps.{HasRowLeft, rebuilt, resynced, rows_left}
use Rattle.raid_laws.proofs.RowsRebuilt.{other_seat, own, own_before}
use Rattle.pool_state.specs.declared.contents.Work.{Work}
use Rattle.pool_state.specs.declared.contents.Work.TheVariants.{Resync, Rebuild, TakeOver, Begin, Reshape, Finish, Make, Zero, Ready, Extend, Close}
use Rattle.growth_plan.specs.Works.{works_left}
use Rattle.growth_plan.proofs.Last.{close_alone}
use Rattle.lvm_group.specs.Runs.{Linear}
use Rattle.raid_laws.specs.Book.{OnlyMarksSince, after_same, after_then}
use Rattle.raid_laws.specs.Losing.{only_same}
use Rattle.raid_laws.specs.Moves.{IsHeeded, IsSet, OnlyFailures}
use Rattle.raid_laws.specs.Raid.{Raid}
use Rattle.raid_laws.specs.Works.{Does, array_of, is_due, is_rebuilding_seat, is_whole_row, stepped}
use Rattle.raid_rack.proofs.Rebuilt.{row_left}
use Rattle.pool.specs.Keeping.{KeepsBook}
use Rattle.pool.specs.Works.{EndsPlan, KeepsAllMembers, KeepsMembers, KeepsPlan, progress_by, works_by}
use Rattle.pool.proofs.Booked.{book_same, book_seated, book_then}

-- ---- members

abbrev is_rebuilt_at : ArrayView → ℕ → Bool
is_rebuilt_at u k = option_map_or is_rebuilding_seat (slice_get u.seats k) false

members_then : (u v w : ArrayView) → KeepsMembers u v → KeepsMembers v w → KeepsMembers u w
members_then u v w one two = record {
  devices = two.devices ∙ one.devices;
  seats = λ k.
      let seat : Option Seat → Bool = λ o. option_map_or is_rebuilding_seat o false in
      elim (two.seats k) [
        | inr (inl lost) ↦ inr (inl lost)
        | inl same ↦ elim (one.seats k) [
          | inl before ↦ inl (same ∙ before)
          | inr (inl lost) ↦ inr (inl (same ∙ lost))
          | inr (inr was) ↦ inr (inr was)
        ]
        | inr (inr is) ↦ elim (one.seats k) [
          | inl before ↦ inr (inr (ap seat (sym before) ∙ is))
          | inr (inl lost) ↦ absurd (both_ways (is_rebuilt_at v k) (ap seat lost) is)
          | inr (inr was) ↦ inr (inr was)
        ]
      ];
}

members_lost : (u w : ArrayView) → OnlyFailures u w → KeepsMembers u w
members_lost u w only = record {
  devices = only.same.devices;
  seats = λ k. elim (only.seats k) [ inl same ↦ inl same | inr lost ↦ inr (inl lost) ];
}

members_rebuilt : (u : ArrayView) (place rows : ℕ) → IsArray u → HasRowLeft u place → rows ≤ rows_left u place → KeepsMembers u (rebuilt u place rows)
members_rebuilt u place rows is_array has left = record {
  devices = refl;
  seats = λ k.
      elim (cases_eq k (own u place rows is_array has left)) [
        | inl same ↦
            inr (inr (ap (is_rebuilt_at u) same ∙ ap (λ (o : Option Seat). option_map_or is_rebuilding_seat o false) (own_before u place rows is_array has left)))
        | inr other ↦ inl (other_seat u place rows is_array has left k other)
      ];
}

-- ---- arrays

pub members_same : (v : Raid) → KeepsAllMembers v v
members_same v n low = members_lost (v.arrays n) (v.arrays n) (only_same (v.arrays n) (v.arrays n) refl)

pub all_members_then : (v w z : Raid) → w.state.made ≡ v.state.made → KeepsAllMembers v w → KeepsAllMembers w z → KeepsAllMembers v z
all_members_then v w z made one two n low =
    members_then (v.arrays n) (w.arrays n) (z.arrays n) (one n low) (two n (subst (λ k. n < k) (sym made) low))

-- a step of array m
module _ (v w : Raid) (m : ℕ) (next : ArrayView) (is_done : Bool)
    (only : (n : ℕ) → n < v.state.made → OnlyFailures (stepped v m next is_done n) (w.arrays n)) where
  -- the other arrays lose members alone
  only_others : (n : ℕ) → n < v.state.made → (n ≡ m → ⊥) → OnlyFailures (v.arrays n) (w.arrays n)
  only_others n low other =
      subst (λ (u : ArrayView). OnlyFailures u (w.arrays n)) (ap (λ b. if b && is_done then next else v.arrays n) (ne_eqb n m other)) (only n low)

  members_stepped : (m < v.state.made → KeepsMembers (v.arrays m) next) → KeepsAllMembers v w
  members_stepped step n low =
      elim (cases_eq n m) [
        | inr other ↦ members_lost (v.arrays n) (w.arrays n) (only_others n low other)
        | inl same ↦ elim (cases_Bool ((n == m) && is_done)) [
          | inl done ↦
              members_then (v.arrays n) next (w.arrays n)
              (subst (λ k. KeepsMembers (v.arrays k) next) (sym same) (step (subst (λ k. k < v.state.made) same low)))
              (members_lost next (w.arrays n) (subst (λ (u : ArrayView). OnlyFailures u (w.arrays n)) (ap (λ b. if b then next else v.arrays n) done) (only n low)))
          | inr idle ↦
              members_lost (v.arrays n) (w.arrays n)
              (subst (λ (u : ArrayView). OnlyFailures u (w.arrays n)) (ap (λ b. if b then next else v.arrays n) idle) (only n low))
        ]
      ]

pub members_worked : (work : Work) (most : ℕ) (v w : Raid) (x y : RackView) {E : Type 0} (r : Result ℕ E) → IsSet v x → is_due v work ≡ true → Does work most v w x y r → KeepsAllMembers v w
members_worked (Resync m) most v w x y r set due does =
    members_stepped v w m (resynced (v.arrays m) does.rows.rows) does.rows.steps.is_done does.rows.steps.arrays (λ low. record { devices = refl; seats = λ k. inl refl })
members_worked (Rebuild m place) most v w x y r set due does =
    let u = v.arrays m in
    let rebuilds = option_map_or is_rebuilding_seat (seat_of u place) false in
    let parts = and_parts _ (rebuilds && is_whole_row u.truth.resync_offset) due in
    members_stepped v w m (rebuilt u place does.rows.rows) does.rows.steps.is_done does.rows.steps.arrays
    (λ low.
    members_rebuilt u place does.rows.rows (set.arrays m low).is_array
    (row_left v.state m u x place (set.arrays m low) (and_parts rebuilds (is_whole_row u.truth.resync_offset) parts.1).0) does.rows.left)
members_worked (TakeOver m) most v w x y r set due does = absurd does
members_worked (Begin m place) most v w x y r set due does = absurd does
members_worked (Reshape m) most v w x y r set due does = absurd does
members_worked (Finish m) most v w x y r set due does = absurd does
members_worked (Make m height) most v w x y r set due does = absurd does
members_worked (Zero m) most v w x y r set due does = absurd does
members_worked (Ready m) most v w x y r set due does = absurd does
members_worked Extend most v w x y r set due does = absurd does
members_worked Close most v w x y r set due does = λ n low. members_lost (v.arrays n) (w.arrays n) (does.1.arrays n low)

-- what a refused work leaves of the arrays that it isn't of, and of a plan
pub others_stuck : (work : Work) (most : ℕ) (v w : Raid) (x y : RackView) {E : Type 0} (e : E) → Does work most v w x y (Err e)
    → ((n : ℕ) → n < v.state.made → (n ≡ array_of work → ⊥) → OnlyFailures (v.arrays n) (w.arrays n)) × (w.state.plan ≡ v.state.plan)
others_stuck (Resync m) most v w x y e does = (only_others v w m (resynced (v.arrays m) does.rows.rows) does.rows.steps.is_done does.rows.steps.arrays, does.rows.steps.plan)
others_stuck (Rebuild m place) most v w x y e does = (only_others v w m (rebuilt (v.arrays m) place does.rows.rows) does.rows.steps.is_done does.rows.steps.arrays, does.rows.steps.plan)
others_stuck (TakeOver m) most v w x y e does = absurd does
others_stuck (Begin m place) most v w x y e does = absurd does
others_stuck (Reshape m) most v w x y e does = absurd does
others_stuck (Finish m) most v w x y e does = absurd does
others_stuck (Make m height) most v w x y e does = absurd does
others_stuck (Zero m) most v w x y e does = absurd does
others_stuck (Ready m) most v w x y e does = absurd does
others_stuck Extend most v w x y e does = absurd does
others_stuck Close most v w x y e does = absurd does.0

-- ---- a plan

-- where its end is the first work, it is the only one
last_work : (l : Linear) (v : Raid) → slice_get (works_by l v) 0 ≡ Some Close → works_by l v ≡ Close ∷ []
last_work l v = by (nat_lt 0 (length v.state.drives.items))
  where
    by : (some : Bool) → slice_get (if some then works_left v.state (progress_by l v) else []) 0 ≡ Some Close
        → (if some then works_left v.state (progress_by l v) else []) ≡ Close ∷ []
    by true first = close_alone v.state (progress_by l v) first
    by false first = absurd (cc first)

-- one work
pub plan_worked : (l : Linear) (work : Work) (most : ℕ) (v w : Raid) (x y : RackView) {E : Type 0} (r : Result ℕ E) → IsSet v x → IsHeeded v → slice_get (works_by l v) 0 ≡ Some work
    → KeepsBook v w → Does work most v w x y r → KeepsPlan l v w
plan_worked l (Resync m) most v w x y r set heeded first keeps does = inl does.rows.steps.plan
plan_worked l (Rebuild m place) most v w x y r set heeded first keeps does = inl does.rows.steps.plan
plan_worked l (TakeOver m) most v w x y r set heeded first keeps does = absurd does
plan_worked l (Begin m place) most v w x y r set heeded first keeps does = absurd does
plan_worked l (Reshape m) most v w x y r set heeded first keeps does = absurd does
plan_worked l (Finish m) most v w x y r set heeded first keeps does = absurd does
plan_worked l (Make m height) most v w x y r set heeded first keeps does = absurd does
plan_worked l (Zero m) most v w x y r set heeded first keeps does = absurd does
plan_worked l (Ready m) most v w x y r set heeded first keeps does = absurd does
plan_worked l Extend most v w x y r set heeded first keeps does = absurd does
plan_worked l Close most v w x y r set heeded first keeps does = inr (record {
  mid = v;
  marks = after_same v.state;
  done = book_same v;
  members = members_same v;
  seated = book_seated v x set heeded;
  before = refl;
  last = last_work l v first;
  losses = does.1.brings.book;
  left = keeps;
  ended = does.1.plan;
})

-- a plan that has ended stays so
ended_on : (l : Linear) (v w z : Raid) → OnlyMarksSince w.state z.state → KeepsBook w z → EndsPlan l v w → EndsPlan l v z
ended_on l v w z after keeps ends = record {
  mid = ends.mid;
  marks = ends.marks;
  done = ends.done;
  members = ends.members;
  seated = ends.seated;
  before = ends.before;
  last = ends.last;
  losses = after_then ends.mid.state w.state z.state ends.losses after;
  left = book_then ends.mid w z ends.losses.same.made after ends.left keeps;
  ended = elim after.same.plan [ inl same ↦ same ∙ ends.ended | inr none ↦ none ];
}

-- works before it
ended_late : (l : Linear) (v w z : Raid) → OnlyMarksSince v.state w.state → KeepsBook v w → KeepsAllMembers v w → w.state.plan ≡ v.state.plan → EndsPlan l w z → EndsPlan l v z
ended_late l v w z after keeps members same ends = record {
  mid = ends.mid;
  marks = after_then v.state w.state ends.mid.state after ends.marks;
  done = book_then v w ends.mid after.same.made ends.marks keeps ends.done;
  members = all_members_then v w ends.mid after.same.made members ends.members;
  seated = ends.seated;
  before = ends.before ∙ same;
  last = ends.last;
  losses = ends.losses;
  left = ends.left;
  ended = ends.ended;
}

-- works in a row
pub plan_then : (l : Linear) (v w z : Raid) → OnlyMarksSince v.state w.state → OnlyMarksSince w.state z.state → KeepsBook v w → KeepsBook w z → KeepsAllMembers v w
    → KeepsPlan l v w → KeepsPlan l w z → KeepsPlan l v z
plan_then l v w z one two keeps more members before later =
    elim before [
      | inr ends ↦ inr (ended_on l v w z two more ends)
      | inl same ↦ elim later [ inl still ↦ inl (still ∙ same) | inr ends ↦ inr (ended_late l v w z one keeps members same ends) ]
    ]
