-- What works say of what is left, and works in a row.
use Rattle.std.specs.Prelude.{IfErr, IfOk, Result, is_ok}
use Rattle.std.specs.Prelude.{min}
use Rattle.std.proofs.Common.{◌≡◌, ℕ, zero, suc, ◌+◌, ◌<◌, ◌≤◌, nat_le, nat_lt, Bool, true, false, if◌then◌else◌, not, List, [], ◌∷◌, drop, length, slice_get, Some, None, Ok, Err, refl, sym, ap, subst, ◌∙◌, inl, inr, arith, leb-true, leb-false, ltb-true}
use Rattle.std.proofs.lemmas.Bool.{both_ways, cases_Bool}
use Rattle.std.proofs.lemmas.List.{drop-drop, drop_all}
use Rattle.rack.specs.Joins.{rose_before, rose_since}
use Rattle.rack.specs.Seen.{RackView}
use Rattle.rack.specs.Shelf.{Shelf}
use Rattle.array_image.specs.States.{is_current}
use Rattle.growth_plan.specs.Works.{works_left}
use Rattle.lvm_group.proofs.Extended.{small_extents}
use Rattle.lvm_group.specs.Runs.{Linear}
use Rattle.lvm_group.specs.Volume.{linear}
use Rattle.pool_state.specs.declared.contents.Work.{Work}
use Rattle.pool_state.specs.declared.contents.Work.TheVariants.{Resync, Rebuild, TakeOver, Begin, Reshape, Finish, Make, Zero, Ready, Extend, Close}
use Rattle.raid_laws.specs.Losing.{only_same}
use Rattle.raid_laws.specs.Moves.{OnlyFailures}
use Rattle.raid_laws.specs.Raid.{Raid}
use Rattle.raid_rack.specs.RaidRack.{IsFit, arrays_in, raid_in, raid_seen, slices_seen}
use Rattle.raid_laws.specs.Works.{Does, array_of, is_due, is_stuck}
use Rattle.raid_rack.specs.declared.arrays.RaidRack.{RaidRack}
use Rattle.raid_rack.specs.declared.works.Stuck.{Stuck}
use Rattle.pool.specs.declared.Pool.{Pool}
use Rattle.pool.specs.View.{View, arrays_of, book, view, volume}
use Rattle.pool.specs.Works.{IsStuck, IsWorked, KeepsAllMembers, KeepsPlan, LacksRow, left_of, progress_by, works_by, works_of}
use Rattle.pool.specs.Keeping.{KeepsBook}
use Rattle.pool.specs.Calls.{DoesFirst, IsQuiet, Marks, CallFrame}
use Rattle.pool.proofs.Booked.{book_same, book_worked}
use Rattle.pool.proofs.Closing.{members_same, members_worked, others_stuck, plan_worked}
use Rattle.pool.proofs.Counted.{work_counted}
use Rattle.pool.proofs.Reached.{with_arrays}
use Rattle.pool.proofs.Serving.{KeepNames, Laws}
use Rattle.pool.proofs.Working.{worked_call}

-- ---- where no disk's faults rose

-- no drive comes to be marked
quiet_marks : (x y : View) → CallFrame x y → Marks x y → IsQuiet x y → (p : ℕ) → is_current (book y).state p ≡ is_current (book x).state p
quiet_marks x y passes marks quiet p =
    elim (cases_Bool (is_current (book x).state p)) [
      | inl was ↦
          elim (cases_Bool (is_current (book y).state p)) [
            | inl is ↦ is ∙ sym was
            | inr gone ↦ elim (marks p was gone) [ inl rose ↦ absurd (quiet _ rose) | inr none ↦ absurd none ]
          ]
      | inr not_was ↦
          elim (cases_Bool (is_current (book y).state p)) [
            | inl is ↦ absurd (both_ways (is_current (book x).state p) not_was (passes.marks.current p is))
            | inr not_is ↦ not_is ∙ sym not_was
          ]
    ]

-- ---- a work

-- where there is no first work none comes after it
pub none_left : (works : List Work) (n : ℕ) → slice_get works 0 ≡ None → works ≡ drop n works
none_left [] zero none = refl
none_left [] (suc n) none = refl
none_left (work ∷ works) n none = cc none

-- only a list of drives that has one has works
pub some_drive : (l : Linear) (v : Raid) (work : Work) → slice_get (works_by l v) 0 ≡ Some work → 0 < length v.state.drives.items
some_drive l v work first =
    elim (cases_Bool (nat_lt 0 (length v.state.drives.items))) [
      | inl some ↦ ltb-true 0 (length v.state.drives.items) some
      | inr none ↦
          let empty : works_by l v ≡ [] = ap (λ b. if b then works_left v.state (progress_by l v) else []) none in
          let no : None ≡ Some work = sym (ap (λ (ws : List Work). slice_get ws 0) empty) ∙ first in
          absurd (cc no)
    ]

-- a row that was refused can't be had
pub lacks_row : (v w : Raid) (a b : RackView) (work : Work) (most : ℕ) (e : Stuck) → Does work most v w a b (Err e) → LacksRow v w work
lacks_row v w a b (Resync m) most e does = not_false (is_stuck w m (v.arrays m).resync) does.answer
  where
    not_false : (t : Bool) → false ≡ not t → t ≡ true
    not_false true is = refl
    not_false false is = is
lacks_row v w a b (Rebuild m place) most e does = does.refused
lacks_row v w a b (TakeOver m) most e does = absurd does
lacks_row v w a b (Begin m place) most e does = absurd does
lacks_row v w a b (Reshape m) most e does = absurd does
lacks_row v w a b (Finish m) most e does = absurd does
lacks_row v w a b (Make m height) most e does = absurd does
lacks_row v w a b (Zero m) most e does = absurd does
lacks_row v w a b (Ready m) most e does = absurd does
lacks_row v w a b Extend most e does = absurd does
lacks_row v w a b Close most e does = absurd does.0

-- what the arrays say of it and of those after it, at most so many; `answer` is how many are done
pub record SaysOf {R : Type 0} (seen : R → RackView) (work : Work) (most : ℕ) {T : Type 0} (r : Result T Stuck) (answer : Result ℕ Stuck) (old new : RaidRack R) : Type 0 where
  pub idle : is_due (raid_in old) work ≡ false → (is_ok r ≡ false) × (new ≡ old)
  pub does : is_due (raid_in old) work ≡ true → Does work most (raid_in old) (raid_in new) (slices_seen seen old) (slices_seen seen new) answer
  pub named : IfErr r (λ e. e.array ≡ array_of work)

-- what it keeps of the book
pub work_book : {R : Type 0} (seen : R → RackView) (shelf : R → Shelf) (p : Pool R) (new : RaidRack R) (work : Work) (most : ℕ) → (volume (view seen shelf p)).fit → (r : Result ℕ Stuck)
    → IsFit (arrays_in new) (slices_seen seen new) → SaysOf seen work most r r (arrays_of p) new → KeepsBook (raid_in (arrays_of p)) (raid_in new)
work_book seen shelf p new work most fit r after says =
    let v = raid_in (arrays_of p) in
    elim (cases_Bool (is_due v work)) [
      | inl due ↦
          book_worked work most v (raid_in new) (slices_seen seen (arrays_of p)) (slices_seen seen new) r fit.0.running.set after.running.set after.heeded
          due (says.does due)
      | inr idle ↦ subst (λ (k : RaidRack _). KeepsBook v (raid_in k)) (sym (says.idle idle).1) (book_same v)
    ]

-- and of its members and its plan
pub work_plan : {R : Type 0} (seen : R → RackView) (shelf : R → Shelf) (p : Pool R) (new : RaidRack R) (work : Work) (most : ℕ) → (volume (view seen shelf p)).fit → (r : Result ℕ Stuck)
    → slice_get (works_of (view seen shelf p)) 0 ≡ Some work → KeepsBook (raid_in (arrays_of p)) (raid_in new) → SaysOf seen work most r r (arrays_of p) new
    → KeepsAllMembers (raid_in (arrays_of p)) (raid_in new) × KeepsPlan (linear p.volume) (raid_in (arrays_of p)) (raid_in new)
work_plan seen shelf p new work most fit r first keeps says =
    let v = raid_in (arrays_of p) in
    let w = raid_in new in
    let a = slices_seen seen (arrays_of p) in
    let b = slices_seen seen new in
    elim (cases_Bool (is_due v work)) [
      | inl due ↦ (
        members_worked work most v w a b r fit.0.running.set due (says.does due),
        plan_worked (linear p.volume) work most v w a b r fit.0.running.set fit.0.heeded first keeps (says.does due),
      )
      | inr idle ↦
          let still = ap raid_in (says.idle idle).1 in
          (subst (KeepsAllMembers v) (sym still) (members_same v), inl (ap (λ (k : Raid). k.state.plan) still))
    ]

module _ {R : Type 0} (seen : R → RackView) (shelf : R → Shelf) (runs : R → R → Type 0) (laws : Laws seen) (names : KeepNames shelf runs) (p : Pool R) (new : RaidRack R) (work : Work) (most : ℕ)
    (fit : (volume (view seen shelf p)).fit) (first : slice_get (works_of (view seen shelf p)) 0 ≡ Some work) where
  -- so many were asked for at most
  number : (work : Work) (v w : Raid) (a b : RackView) (k : ℕ) → 0 < most → Does work most v w a b {E = Stuck} (Ok k) → (0 < k) × (k ≤ most)
  number (Resync m) v w a b k any does = by_rows does.rows.rows k does.rows.some does.rows.few does.rows.answer
    where
      by_rows : (rows k : ℕ) → 0 < rows → rows ≤ most → k ≡ rows → (0 < k) × (k ≤ most)
      by_rows rows k some few is = (omega (arith, some, is), omega (arith, few, is))
  number (Rebuild m place) v w a b k any does = by_rows does.rows.rows k does.rows.some does.rows.few does.rows.answer
    where
      by_rows : (rows k : ℕ) → 0 < rows → rows ≤ most → k ≡ rows → (0 < k) × (k ≤ most)
      by_rows rows k some few is = (omega (arith, some, is), omega (arith, few, is))
  number (TakeOver m) v w a b k any does = absurd does
  number (Begin m place) v w a b k any does = absurd does
  number (Reshape m) v w a b k any does = absurd does
  number (Finish m) v w a b k any does = absurd does
  number (Make m height) v w a b k any does = absurd does
  number (Zero m) v w a b k any does = absurd does
  number (Ready m) v w a b k any does = absurd does
  number Extend v w a b k any does = absurd does
  number Close v w a b k any does = let is = does.0 in (omega (arith, is), omega (arith, is, any))

  pub some_done : 0 < most → (r : Result ℕ Stuck) → SaysOf seen work most r r (arrays_of p) new → IfOk r (λ k. (0 < k) × (k ≤ most))
  some_done any (Err e) says = tt
  some_done any (Ok k) says =
      elim (cases_Bool (is_due (raid_in (arrays_of p)) work)) [
        | inl due ↦ number work (raid_in (arrays_of p)) (raid_in new) (slices_seen seen (arrays_of p)) (slices_seen seen new) k any (says.does due)
        | inr idle ↦ absurd (both_ways true (says.idle idle).0 refl)
      ]

  -- they were the first ones
  pub first_done : (r : Result ℕ Stuck) → IsWorked seen runs 1 p (with_arrays p new) → SaysOf seen work most r r (arrays_of p) new
      → IfOk r (λ k. DoesFirst k (view seen shelf p) (view seen shelf (with_arrays p new)))
  first_done (Err e) worked says = tt
  first_done (Ok k) worked says =
      λ quiet alone.
      let x = view seen shelf p in
      let y = view seen shelf (with_arrays p new) in
      let call = worked_call seen shelf runs laws names 1 p (with_arrays p new) fit worked in
      elim (cases_Bool (is_due (book x) work)) [
        | inl due ↦
            let one = work_counted (linear p.volume) (book x) (book y) (slices_seen seen (arrays_of p)) (slices_seen seen new) work most k fit.0.running.set
            fit.0.heeded (some_drive (linear p.volume) (book x) work first)
            (small_extents (linear p.volume) (raid_seen seen (arrays_of p)) p.volume.orderly fit.1) alone first
            (quiet_marks x y call.passes call.marks quiet) due (says.does due) in
            (one.alone, subst (λ l. works_by l (book y) ≡ drop k (works_of x)) (sym worked.linear) one.rest)
        | inr idle ↦ absurd (both_ways true (says.idle idle).0 refl)
      ]

  -- or the array can't do it
  pub is_stuck_at : (r : Result ℕ Stuck) → SaysOf seen work most r r (arrays_of p) new
      → IfErr r (λ e. IsStuck (linear p.volume) (raid_in (arrays_of p)) (raid_in new) e.array)
  is_stuck_at (Ok u) says = tt
  is_stuck_at (Err e) says =
      let v = raid_in (arrays_of p) in
      let w = raid_in new in
      let a = slices_seen seen (arrays_of p) in
      let b = slices_seen seen new in
      let left : ((n : ℕ) → n < v.state.made → (n ≡ array_of work → ⊥) → OnlyFailures (v.arrays n) (w.arrays n)) × (w.state.plan ≡ v.state.plan) =
      elim (cases_Bool (is_due v work)) [
        | inl due ↦ others_stuck work most v w a b e (says.does due)
        | inr idle ↦
            let still = ap raid_in (says.idle idle).1 in
            (λ n low other. only_same (v.arrays n) (w.arrays n) (ap (λ (k : Raid). k.arrays n) still), ap (λ (k : Raid). k.state.plan) still)
      ] in
      record {
        work = work;
        first = first;
        named = says.named;
        why = elim (cases_Bool (is_due v work)) [
          | inl due ↦ inr (lacks_row v w a b work most e (says.does due))
          | inr idle ↦ inl (idle, ap raid_in (says.idle idle).1)
        ];
        others = λ n low other. left.0 n low (λ is. other (is ∙ sym says.named));
        plan = left.1;
      }

-- ---- works in a row

pub does_none : (x : View) → DoesFirst 0 x x
does_none x = λ quiet alone. (alone, refl)

pub does_then : (x y z : View) (n k : ℕ) → CallFrame x y → CallFrame y z → DoesFirst n x y → DoesFirst k y z → DoesFirst (n + k) x z
does_then x y z n k one two before more =
    λ quiet alone.
    let early = before (λ d rose. quiet d (rose_before (two.apart.stays.faults d) rose)) alone in
    let late = more (λ d rose. quiet d (rose_since (one.apart.stays.faults d) rose)) early.0 in
    (late.0, late.1 ∙ ap (drop k) early.1 ∙ drop-drop k n (works_of x))

-- all of them are, where more were asked for
pub does_all : (x y : View) (n count : ℕ) → min count (left_of x) ≡ n → DoesFirst n x y → DoesFirst count x y
does_all x y n count least does =
    λ quiet alone.
    let done = does quiet alone in (
      done.0,
      done.1 ∙ elim (cases_Bool (nat_le count (left_of x))) [
        | inl few ↦ ap (λ k. drop k (works_of x)) (let asked = leb-true count (left_of x) few in omega (arith, least, asked))
        | inr many ↦
            let past = leb-false count (left_of x) many in
            drop_all n (works_of x) (omega (arith, least, past)) ∙ sym (drop_all count (works_of x) (omega (arith, past)))
      ],
    )
