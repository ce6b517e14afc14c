-- The code that gives a young array to the volume, as a change of the book by a commit.
use Rattle.std.proofs.Common.{◌≡◌, ℕ, true, false, if◌then◌else◌, List, [], get_or, length, set, refl, sym, ap, subst, ◌∙◌, inl, inr, eq-eqb, ne_eqb, arith}
use Rattle.std.proofs.lemmas.Bool.{both_ways, cases_eq}
use Rattle.arrayvec.specs.ArrayVec.{ArrayVec}
use Rattle.rack.specs.Seen.{RackView, SameRack}
use Rattle.rack.specs.Targets.{Target}
use Rattle.pool_state.specs.declared.contents.State.{State}
use Rattle.pool_state.specs.declared.contents.Work.TheVariants.{Ready}
use Rattle.array_image.specs.States.{is_current}
use Rattle.array_model.specs.View.{View}
use Rattle.array_core.specs.Seats.{ready}
use Rattle.log_laws.specs.View.{LogView}
use Rattle.reshape_laws.specs.Reshapes.{lacks_two}
use Rattle.raid_laws.specs.Moves.{AreCaused, IsHeeded, IsSet, Mends, RaisesBy}
use Rattle.raid_laws.specs.Raid.{Raid}
use Rattle.raid_laws.proofs.Over.{or_parts}
use Rattle.transition_laws.specs.Changes.{changed, readied}
use Rattle.transition_laws.specs.Losses.{IsRunOf, MakesLosses}
use Rattle.transition_laws.specs.Readying.{FitsReady}
use Rattle.growth_laws.specs.Growing.{AnyValues, Grows, Lacks, MakesTurn, change_of, is_ended, lacks}
use Rattle.growth_laws.specs.Losses.{LosesBook}
use Rattle.growth_laws.specs.Stating.{CommitsState}
use Rattle.growth_laws.proofs.Losing.{as_long}
use Rattle.growth_laws.proofs.Readied.{MayReady, readied_events, readied_heeded, readied_sectors, readied_set, readied_state}
use Rattle.growth_laws.proofs.ReadyTurn.{ready_turn}
use Rattle.growth_laws.proofs.Recorded.{recorded_grows}
use Rattle.raid_rack.specs.declared.arrays.Arrays.{Arrays}
use Rattle.raid_rack.specs.RaidRack.{IsRunning, no_array, raid_by}
use Rattle.raid_rack.proofs.Committed.{committed_raises, current_left}
use Rattle.raid_rack.proofs.Steps.{length_set, set_other, set_own}

-- What is known where an array gets ready: it may, and somebody is left.
pub record IsReadying (a : Arrays) (n : ℕ) (x : RackView) : Type 0 where
  pub running : IsRunning a x
  pub heeded : IsHeeded (raid_by a)
  pub may : MayReady (raid_by a) n
  pub some : lacks (raid_by a) n ≡ false

-- what the code has before its commit: the state, and the array that is ready among the others
pub record HasReadied (a : Arrays) (n : ℕ) (t : State) (all : List View) (log : LogView) : Type 0 where
  pub state : t ≡ readied_state a.state
  pub items : all ≡ set a.all.items n (ready ((raid_by a).arrays n))
  pub number : log.number ≡ a.log.number

module _ (a : Arrays) (n : ℕ) (x : RackView) (is : IsReadying a n x) (t : State) (all : ArrayVec View) (log : LogView) (has : HasReadied a n t all.items log) where
  -- the arrays are those of the changed book
  each : (k : ℕ) → get_or all.items k no_array ≡ (changed readied (raid_by a)).arrays k
  each k =
      let v = raid_by a in
      let joined = a.state.joined in
      let last = is.may.last in
      let count = is.running.count in
      let at = is.may.youngest in
      ap (λ ys. get_or ys k no_array) has.items
      ∙ elim (cases_eq k n) [
        | inl same ↦
            ap (λ j. get_or (set a.all.items n (ready (v.arrays n))) j no_array) same
            ∙ set_own a.all.items n (ready (v.arrays n)) no_array (omega (arith, last, count, at))
            ∙ ap (λ j. ready (v.arrays j)) (sym same)
            ∙ sym (ap (λ b. if b then ready (v.arrays k) else v.arrays k) (eq-eqb k joined (same ∙ at)))
        | inr other ↦
            set_other a.all.items n k (ready (v.arrays n)) no_array other
            ∙ sym (ap (λ b. if b then ready (v.arrays k) else v.arrays k) (ne_eqb k joined (λ same. other (same ∙ sym at))))
      ]

  whole : changed readied (raid_by a) ≡ raid_by (record a { state = t; all = all; log = log })
  whole =
      let back = sym has.state in
      let same = sym has.number in
      λ i. record { state = back i; arrays = λ k. sym (each k) i; number = same i }

  pub readying_running : IsRunning (record a { state = t; all = all; log = log }) x
  readying_running = record {
    count = ap length has.items ∙ length_set a.all.items n (ready ((raid_by a).arrays n)) ∙ is.running.count ∙ sym (ap (λ (s : State). s.made) has.state);
    set = subst (λ (w : Raid). IsSet w x) whole (readied_set (raid_by a) n x is.may is.heeded is.running.set);
  }

  pub readying_heeded : IsHeeded (raid_by (record a { state = t; all = all; log = log }))
  readying_heeded = subst IsHeeded whole (readied_heeded (raid_by a) is.heeded)

  pub readying_left : (place : ℕ) × (is_current t place ≡ true)
  readying_left =
      let one = current_left (raid_by a) (or_parts (is_ended (raid_by a)) (lacks_two ((raid_by a).arrays n)) is.some).0 in
      (one.0, ap (λ (s : State). is_current s one.0) has.state ∙ one.1)

  -- THE COMMIT AND THE MENDING AFTER IT
  pub ready_grows : (b c : Arrays) (y z : RackView) → LosesBook (raid_by (record a { state = t; all = all; log = log })) (raid_by b)
      → AreCaused (raid_by (record a { state = t; all = all; log = log })) (raid_by b) x y → SameRack x y → Mends (raid_by b) (raid_by c) y z
      → Grows (Ready n) (Lacks (Ready n)) (raid_by a) (raid_by c) x z true
  ready_grows b c y z loses caused stays mends =
      let v = raid_by a in
      recorded_grows (change_of (Ready n)) (Lacks (Ready n)) v (raid_by b) (raid_by c) x y z true is.heeded (readied_heeded v is.heeded) (λ p. refl) stays
      (subst (λ (u : Raid). LosesBook u (raid_by b)) (sym whole) loses)
      (subst (λ (u : Raid). AreCaused u (raid_by b) x y) (sym whole) caused) mends
      (as_long v (changed readied v) refl (λ k low. readied_sectors v k))
      (λ none. absurd (both_ways true none refl))

  pub ready_raises : (b c : Arrays) → b.state ≡ t → RaisesBy 1 (raid_by (record a { state = t; all = all; log = log })) (raid_by b) → RaisesBy 17 (raid_by b) (raid_by c)
      → RaisesBy 18 (raid_by a) (raid_by c)
  ready_raises b c same commit mended =
      committed_raises (raid_by a) (record a { state = t; all = all; log = log }) b c (let more = ap (λ (s : State). s.made) has.state in omega (arith, more)) has.number
      (ap (λ (s : State). s.epoch) has.state) (λ k low. ap (λ (u : View). u.truth.events) (each k) ∙ readied_events (raid_by a) k) same commit mended

  -- this is all that it makes of the book
  pub ready_contents : (b c : Arrays) (y z : RackView) → CommitsState (raid_by (record a { state = t; all = all; log = log })) (raid_by b) log.added x y → log.added ≡ []
      → ((d : Raid) → IsRunOf d (raid_by b) → MakesLosses d (raid_by b) (raid_by c) y z) → FitsReady (raid_by a) n x → MakesTurn readied true AnyValues (raid_by a) (raid_by c) x z
  ready_contents b c y z commits none losses =
      ready_turn (raid_by a) (raid_by b) n x y is.running.set is.heeded is.may
      (subst (λ (xs : List Target). CommitsState (changed readied (raid_by a)) (raid_by b) xs x y) none
      (subst (λ (u : Raid). CommitsState u (raid_by b) log.added x y) (sym whole) commits))
      (raid_by c) z losses
