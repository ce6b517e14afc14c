-- The code that makes a young array, as a change of the book by a commit.
use Rattle.std.proofs.Common.{◌≡◌, ℕ, ◌+◌, ◌-◌, ◌≤◌, Bool, true, false, ◌==◌, ◌||◌, not, if◌then◌else◌, List, [], ◌∷◌, ◌++◌, get_or, length, refl, sym, ap, subst, ◌∙◌, inl, inr, arith}
use Rattle.std.proofs.lemmas.Bool.{cases_eq, cases_lt, eq-eqb, ne_eqb}
use Rattle.std.proofs.lemmas.List.{get_or-append_right, get_or_append_left, length-append}
use Rattle.arrayvec.specs.ArrayVec.{ArrayVec}
use Rattle.rack.specs.Seen.{RackView, SameRack}
use Rattle.rack.specs.Targets.{Target}
use Rattle.pool_state.specs.declared.contents.State.{State}
use Rattle.pool_state.specs.declared.contents.Work.TheVariants.{Make}
use Rattle.array_image.specs.Places.{member_slice}
use Rattle.array_image.specs.Record.{are_apart}
use Rattle.array_image.specs.States.{is_current}
use Rattle.array_model.specs.Stages.{AmongTargets}
use Rattle.array_model.specs.View.{IsArray, View}
use Rattle.array_core.specs.Seats.{names}
use Rattle.array_core.specs.Staging.{AddsSupersOf}
use Rattle.log_laws.specs.View.{LogView}
use Rattle.raid_laws.specs.Moves.{AreCaused, IsHeeded, IsSet, Mends, RaisesBy}
use Rattle.raid_laws.specs.Raid.{Raid}
use Rattle.raid_laws.specs.Settling.{IsSuperOf}
use Rattle.raid_laws.proofs.Over.{or_parts}
use Rattle.transition_laws.specs.Changes.{changed, makes}
use Rattle.transition_laws.specs.Losses.{IsRunOf, MakesLosses}
use Rattle.transition_laws.specs.Making.{FitsMake}
use Rattle.growth_laws.specs.Growing.{AnyValues, GrowsBy, Lacks, MakesTurn, is_due, is_ended, lacks_places}
use Rattle.growth_laws.specs.Losses.{LosesBook}
use Rattle.growth_laws.specs.Stating.{CommitsState}
use Rattle.growth_laws.specs.NewArrays.{new_size, new_view, reaching}
use Rattle.growth_laws.proofs.Made.{MayCome, made_heeded, made_longer, made_set, made_state}
use Rattle.growth_laws.proofs.MadeTurn.{made_turn}
use Rattle.growth_laws.proofs.OpenedNew.{CanMake, can_make, new_may_come, new_room, new_unzeroed}
use Rattle.growth_laws.proofs.Recorded.{recorded_grows}
use Rattle.growth_laws.proofs.Stating.{supers_of}
use Rattle.raid_rack.specs.declared.arrays.Arrays.{Arrays}
use Rattle.raid_rack.specs.RaidRack.{IsRunning, no_array, raid_by}
use Rattle.raid_rack.proofs.Committed.{committed_raises, current_left}
use Rattle.raid_rack.proofs.Mended.{get_past, not_of_false}

-- ---- in memory

-- a list with one element more
pushed_get : (xs : List View) (u : View) (n : ℕ) → get_or (xs ++ u ∷ []) n no_array ≡ (if n == length xs then u else get_or xs n no_array)
pushed_get xs u n = elim (cases_eq n (length xs)) [
  | inl same ↦
      get_or-append_right xs (u ∷ []) (length xs) n no_array refl (omega (arith, same))
      ∙ ap (λ k. get_or (u ∷ []) k no_array) (let none : n - length xs ≡ 0 = omega (arith, same) in none)
      ∙ sym (ap (λ (b : Bool). if b then u else get_or xs n no_array) (eq-eqb n (length xs) same))
  | inr apart ↦
      elim (cases_lt n (length xs)) [
        | inl low ↦ get_or_append_left xs (u ∷ []) no_array n low
        | inr past ↦
            get_past (xs ++ u ∷ []) n (let more = length-append xs (u ∷ []) in omega (arith, more, past, apart)) ∙ sym (get_past xs n past)
      ]
      ∙ sym (ap (λ (b : Bool). if b then u else get_or xs n no_array) (ne_eqb n (length xs) apart))
]

-- What is known where an array is made: it is due, one of its members is missing at most, and the others have their slices.
pub record IsMaking (a : Arrays) (height : ℕ) (x : RackView) : Type 0 where
  pub running : IsRunning a x
  pub heeded : IsHeeded (raid_by a)
  pub due : is_due (raid_by a) (Make a.state.made height) ≡ true
  pub some : (is_ended (raid_by a) || lacks_places (raid_by a) (reaching (raid_by a) height)) ≡ false
  pub slices :
      (p : ℕ) → names (reaching (raid_by a) height) p ≡ true → is_current a.state p ≡ true
      → 2048 + new_size (raid_by a) height ≤ x.sectors (member_slice p a.state.made)

-- what the code has before its commit: the state, the array and its superblocks
pub record HasMade (a : Arrays) (next : View) (t : State) (all : List View) (log : LogView) : Type 0 where
  pub state : t ≡ made_state a.state
  pub items : all ≡ a.all.items ++ next ∷ []
  pub number : log.number ≡ a.log.number
  pub supers : AddsSupersOf next [] log.added

module _ (a : Arrays) (height : ℕ) (x : RackView) (is : IsMaking a height x) where
  pub making_may : CanMake (raid_by a) height
  making_may =
      can_make (raid_by a) x height is.running.set is.due (or_parts (is_ended (raid_by a)) (lacks_places (raid_by a) (reaching (raid_by a) height)) is.some).1

  module _ (seconds : ℕ) (is_array : IsArray (new_view seconds (raid_by a) height)) where
    comes : MayCome (raid_by a) (new_view seconds (raid_by a) height) x
    comes = new_may_come (raid_by a) height seconds making_may x is.running.set is.slices is_array

    module _ (t : State) (all : ArrayVec View) (log : LogView) (made : HasMade a (new_view seconds (raid_by a) height) t all.items log) where
      abbrev z : Raid
      z = changed (makes (new_view seconds (raid_by a) height)) (raid_by a)

      abbrev b : Arrays
      b = record a { state = t; all = all; log = log }

      -- the book is changed
      whole : changed (makes (new_view seconds (raid_by a) height)) (raid_by a) ≡ raid_by (record a { state = t; all = all; log = log })
      whole =
          let next = new_view seconds (raid_by a) height in
          let back = sym made.state in
          let same = sym made.number in
          let each : (n : ℕ) → z.arrays n ≡ get_or all.items n no_array =
          λ n. sym (ap (λ xs. get_or xs n no_array) made.items ∙ pushed_get a.all.items next n
          ∙ ap (λ k. if n == k then next else get_or a.all.items n no_array) is.running.count) in
          λ i. record { state = back i; arrays = λ n. each n i; number = same i }

      pub making_running : IsRunning (record a { state = t; all = all; log = log }) x
      making_running = record {
        count =
            let more = ap length made.items ∙ length-append a.all.items (new_view seconds (raid_by a) height ∷ []) in
            let count = is.running.count in
            let same = ap (λ (s : State). s.made) made.state in
            omega (arith, more, count, same);
        set = subst (λ (w : Raid). IsSet w x) whole (made_set (raid_by a) (new_view seconds (raid_by a) height) x comes is.heeded is.running.set);
      }

      pub making_heeded : IsHeeded (raid_by (record a { state = t; all = all; log = log }))
      making_heeded = subst IsHeeded whole (made_heeded (raid_by a) (new_view seconds (raid_by a) height) is.heeded comes.went)

      pub making_left : (place : ℕ) × (is_current t place ≡ true)
      making_left =
          let one = current_left (raid_by a) (or_parts (is_ended (raid_by a)) (lacks_places (raid_by a) (reaching (raid_by a) height)) is.some).0 in
          (one.0, ap (λ (s : State). is_current s one.0) made.state ∙ one.1)

      -- the log has its superblocks
      pub making_supers : ((y : Target) → AmongTargets y log.added → IsSuperOf (raid_by (record a { state = t; all = all; log = log })) t.made y)
          × (are_apart log.added ≡ true) × (length log.added ≤ 16)
      making_supers =
          let next = new_view seconds (raid_by a) height in
          let own : next ≡ get_or all.items a.state.made no_array =
          sym (ap (λ xs. get_or xs a.state.made no_array) made.items ∙ pushed_get a.all.items next a.state.made
          ∙ ap (λ (b : Bool). if b then next else get_or a.all.items a.state.made no_array) (eq-eqb a.state.made (length a.all.items) (sym is.running.count))) in
          supers_of (raid_by (record a { state = t; all = all; log = log })) a.state.made log.added
          (let same = ap (λ (s : State). s.made) made.state in omega (arith, same))
          (subst IsArray own is_array) (subst (λ (u : View). AddsSupersOf u [] log.added) own made.supers)

      -- THE COMMIT AND THE MENDING AFTER IT
      pub make_grows : (c d : Arrays) (y w : RackView) (answered : Bool) → LosesBook (raid_by (record a { state = t; all = all; log = log })) (raid_by c)
          → AreCaused (raid_by (record a { state = t; all = all; log = log })) (raid_by c) x y → SameRack x y → Mends (raid_by c) (raid_by d) y w
          → answered ≡ not (is_ended (raid_by d) || lacks_places (raid_by d) (reaching (raid_by a) height))
          → GrowsBy (λ mid. makes (new_view seconds mid height)) (Lacks (Make a.state.made height)) (raid_by a) (raid_by d) x w answered
      make_grows c d y w answered loses caused stays mends answer =
          let v = raid_by a in
          let next = new_view seconds v height in
          recorded_grows (λ mid. makes (new_view seconds mid height)) (Lacks (Make a.state.made height)) v (raid_by c) (raid_by d) x y w answered is.heeded
          (made_heeded v next is.heeded comes.went) (λ p. refl) stays
          (subst (λ (u : Raid). LosesBook u (raid_by c)) (sym whole) loses)
          (subst (λ (u : Raid). AreCaused u (raid_by c) x y) (sym whole) caused) mends
          (made_longer v next x comes is.running.set (new_room v height seconds making_may))
          (λ none. not_of_false (is_ended (raid_by d) || lacks_places (raid_by d) (reaching v height)) (sym answer ∙ none))

      pub make_raises : (c d : Arrays) → c.state ≡ t → RaisesBy 1 (raid_by (record a { state = t; all = all; log = log })) (raid_by c) → RaisesBy 17 (raid_by c) (raid_by d)
          → RaisesBy 18 (raid_by a) (raid_by d)
      make_raises c d same commit mended =
          let v = raid_by a in
          let next = new_view seconds v height in
          committed_raises v (record a { state = t; all = all; log = log }) c d (let more = ap (λ (s : State). s.made) made.state in omega (arith, more)) made.number
          (ap (λ (s : State). s.epoch) made.state)
          (λ n low.
          ap (λ (u : View). u.truth.events)
          (sym (ap (λ (u : Raid). u.arrays n) whole) ∙ ap (λ (b : Bool). if b then next else v.arrays n) (ne_eqb n a.state.made (λ same. omega (arith, low, same)))))
          same commit mended

      -- this is all that it makes of the book
      pub make_contents : (c d : Arrays) (y w : RackView) → CommitsState (raid_by (record a { state = t; all = all; log = log })) (raid_by c) log.added x y
          → ((u : Raid) → IsRunOf u (raid_by c) → MakesLosses u (raid_by c) (raid_by d) y w) → FitsMake a.state a.state.made (new_view seconds (raid_by a) height) x
          → MakesTurn (makes (new_view seconds (raid_by a) height)) true AnyValues (raid_by a) (raid_by d) x w
      make_contents c d y w commits losses fits =
          made_turn (raid_by a) (raid_by c) (new_view seconds (raid_by a) height) log.added x y is.running.set is.heeded comes (new_unzeroed (raid_by a) height seconds making_may) made.supers
          (subst (λ (u : Raid). CommitsState u (raid_by c) log.added x y) (sym whole) commits) fits (raid_by d) w losses
