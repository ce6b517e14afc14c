-- The turns of a mending, and calls that end with one: superblocks that said an array's truth do so after them.
use Rattle.std.proofs.Common.{◌≡◌, ◌⊎◌, ℕ, ◌<◌, false, List, [], get_or, set, length, slice_get, option_map, sym, ap, subst, ◌∙◌, inl, inr, arith}
use Rattle.arrayvec.specs.ArrayVec.{ArrayVec}
use Rattle.rack.specs.Seen.{RackView, SameRack}
use Rattle.rack.specs.Sequences.{OnlyReads}
use Rattle.pool_state.specs.declared.contents.State.{State}
use Rattle.array_image.specs.Places.{super_sector}
use Rattle.array_image.specs.States.{current_places}
use Rattle.log_laws.specs.View.{LogView, names}
use Rattle.array_model.specs.View.{View}
use Rattle.array_model.specs.Members.{Notes}
use Rattle.array_core.specs.Seats.{gone as without, heeded}
use Rattle.array_core.specs.TruthHeld.{HasFewBits, HoldTruth}
use Rattle.array_core.specs.Writing.{KeepsElsewhere}
use Rattle.array_core.proofs.TruthHeld.{hold_noted, reads_supers}
use Rattle.raid_rack.specs.declared.arrays.Arrays.{Arrays}
use Rattle.raid_laws.specs.Losses.{newly_gone}
use Rattle.raid_laws.specs.Missing.{marked}
use Rattle.raid_laws.specs.Moves.{AreMarked, IsSeated, ChangesNoData}
use Rattle.raid_laws.specs.Raid.{Raid}
use Rattle.raid_rack.specs.RaidRack.{IsRunning, no_array, raid_by}
use Rattle.raid_laws.specs.Settling.{SettlesTo}
use Rattle.raid_laws.specs.Truths.{KeepsTruths, MakesTruths}
use Rattle.raid_laws.proofs.Added.{names_current}
use Rattle.raid_rack.proofs.Mended.{each_get}
use Rattle.raid_rack.proofs.Restating.{HasRestated, HasSettled, restates_alone, settles_from}
use Rattle.raid_rack.proofs.Rounds.{newly_unmarked}
use Rattle.raid_rack.proofs.Worked.{HasClosed}
use Rattle.raid_rack.proofs.Truths.{apart_kept, hold_gone, makes_after, makes_kept, makes_keeps, makes_nobody, pool_bits, truths_call, truths_then}

-- ---- turns

-- turns in a row: nothing was called, or the last one has written all where whoever went is marked
abbrev pub HasTruths : {R : Type 0} → (R → RackView) → Arrays → Arrays → R → R → Type 0
HasTruths seen a b r q = ((b ≡ a) × (q ≡ r)) ⊎ (AreMarked (raid_by b) → MakesTruths (raid_by a) (raid_by b) (seen r) (seen q))

pub turn_truths : (a b c : Raid) (x y z : RackView) → x.lasting → ChangesNoData a b x y → (AreMarked c → MakesTruths b c y z) → AreMarked c → MakesTruths a c x z
turn_truths a b c x y z lasting moves last are = makes_after a b c x y z lasting moves (last are)

pub done_truths : {R : Type 0} (seen : R → RackView) (a b : Arrays) (r q : R) → AreMarked (raid_by b) → HasTruths seen a b r q
    → ((b ≡ a) × (q ≡ r)) ⊎ MakesTruths (raid_by a) (raid_by b) (seen r) (seen q)
done_truths seen a b r q are (inl same) = inl same
done_truths seen a b r q are (inr makes) = inr (makes are)

-- and then whoever went is heeded
module _ {R : Type 0} (seen : R → RackView) (a b : Arrays) (all : ArrayVec View) (r q : R) (running : IsRunning b (seen q)) (made : b.state.made ≡ a.state.made)
    (are : AreMarked (raid_by b)) (each : (n : ℕ) → slice_get all.items n ≡ option_map heeded (slice_get b.all.items n))
    (done : ((b ≡ a) × (q ≡ r)) ⊎ MakesTruths (raid_by a) (raid_by b) (seen r) (seen q)) where
  heeded_is : (n : ℕ) → n < a.state.made → get_or all.items n no_array ≡ heeded ((raid_by b).arrays n)
  heeded_is n low = each_get heeded b.all.items all.items n each (let count = running.count in omega (arith, low, count, made))

  makes_heeded : MakesTruths (raid_by a) (raid_by b) (seen r) (seen q) → MakesTruths (raid_by a) (raid_by (record b { all = all })) (seen r) (seen q)
  makes_heeded makes n low tells = subst (λ (u : View). HoldTruth u (seen q)) (sym (heeded_is n low)) (makes n low tells)

  pub heeds_truths : KeepsTruths (raid_by a) (raid_by (record b { all = all })) (seen r) (seen q)
  heeds_truths n low held =
      elim done [
        | inl same ↦
            subst (λ (u : View). HoldTruth u (seen q)) (sym (heeded_is n low ∙ ap (λ (d : Arrays). heeded (get_or d.all.items n no_array)) same.0))
            (subst (λ (k : R). HoldTruth (heeded ((raid_by a).arrays n)) (seen k)) (sym same.1) held)
        | inr makes ↦ makes_keeps (raid_by a) (raid_by (record b { all = all })) (seen r) (seen q) (makes_heeded makes) n low held
      ]

  pub heeds_makes : (AreMarked (raid_by a) → ⊥) → MakesTruths (raid_by a) (raid_by (record b { all = all })) (seen r) (seen q)
  heeds_makes some =
      elim done [
        | inl same ↦ absurd (some (subst (λ (d : Arrays). AreMarked (raid_by d)) same.0 are))
        | inr makes ↦ makes_heeded makes
      ]

-- ---- a call of one array, and the mending after it

module _ (a c : Arrays) (all : ArrayVec View) (log : LogView) (n : ℕ) (old u : View) (x y z : RackView) (running : IsRunning a x) (low : n < a.state.made)
    (old_is : old ≡ get_or a.all.items n no_array) (all_is : all.items ≡ set a.all.items n u)
    (mends : KeepsTruths (raid_by (record a { all = all; log = log })) (raid_by c) y z) where
  seated : IsSeated a.state n old x
  seated = subst (λ (v : View). IsSeated a.state n v x) (sym old_is) (running.set.arrays n low)

  small : n < 16
  small = let most = running.set.most in omega (arith, low, most)

  -- one that reads
  pub truths_read : OnlyReads x y → Notes old u x y → KeepsTruths (raid_by a) (raid_by c) x z
  truths_read reads notes =
      truths_call a c all log n old u x y z running low old_is all_is reads.stays
      (hold_noted old u x y running.set.lasting seated.is_array.few reads.stays notes (reads_supers x y reads)) (λ d own other live. reads.keeps.held d super_sector live) mends

  -- one that writes
  pub truths_write : (on : List ℕ) → SameRack x y → (HoldTruth old x → HoldTruth u y) → KeepsElsewhere false old on x y → KeepsTruths (raid_by a) (raid_by c) x z
  truths_write on stays own elsewhere =
      truths_call a c all log n old u x y z running low old_is all_is stays own (apart_kept n old on x y seated.number small elsewhere) mends

  -- a step of maintenance
  pub truths_step : (on : List ℕ) → SameRack x y → (HasFewBits old.truth → HoldTruth old x → HoldTruth u y) → KeepsElsewhere false old on x y → KeepsTruths (raid_by a) (raid_by c) x z
  truths_step on stays own = truths_write on stays (own (pool_bits a.state old seated.is_of_pool))

-- ---- losses that are noted before a mending

pub noted_truths : (a c : Arrays) (all : ArrayVec View) (lost : List ℕ) (x y : RackView) → IsRunning a x
    → ((n : ℕ) → slice_get all.items n ≡ option_map (without lost) (slice_get a.all.items n))
    → KeepsTruths (raid_by (record a { all = all })) (raid_by c) x y → KeepsTruths (raid_by a) (raid_by c) x y
noted_truths a c all lost x y running each two n low held =
    let count = running.count in
    two n low
    (subst (λ (u : View). HoldTruth u x) (sym (each_get (without lost) a.all.items all.items n each (omega (arith, low, count))))
    (hold_gone ((raid_by a).arrays n) lost x (running.set.arrays n low).is_array held))

-- ---- superblocks that are written anew

-- somebody went while the arrays were settled
pub early_made : (a b c : Arrays) (log : LogView) (lost : List ℕ) (x y z : RackView) → x.lasting → log.number ≡ a.log.number
    → SettlesTo (raid_by (record a { log = log })) (raid_by b) x y a.state.made b.log.added → IsRunning b y
    → lost ≡ newly_gone b.state b.all.items → 0 < length lost → ((AreMarked (raid_by b) → ⊥) → MakesTruths (raid_by b) (raid_by c) y z)
    → MakesTruths (raid_by a) (raid_by c) x z
early_made a b c log lost x y z lasting number from running lost_is some makes =
    makes_after (raid_by a) (raid_by b) (raid_by c) x y z lasting (settles_from a b log x y number from).moves (makes (newly_unmarked b lost y running lost_is some))

-- nobody is left to write them on
pub alone_made : (a d : Arrays) (t : State) (lost on : List ℕ) (x y : RackView) → HasSettled a d x y → lost ≡ [] → t ≡ marked lost d.state
    → on ≡ current_places t → on ≡ [] → MakesTruths (raid_by a) (raid_by (record d { state = t })) x y
alone_made a d t lost on x y has none t_is on_is empty =
    let alone = restates_alone a d t lost on x y has none t_is on_is empty in
    makes_nobody (raid_by a) (raid_by (record d { state = t })) x y alone.1.set alone.0.mends.moves.book.same.made
    (λ p. sym (names_current t p) ∙ ap (λ ps. names ps p) (sym on_is ∙ empty))

-- whoever went in the commit is marked after it
pub restated_made : (a b c : Arrays) (x y z : RackView) → x.lasting → HasRestated a b x y → KeepsTruths (raid_by b) (raid_by c) y z → MakesTruths (raid_by a) (raid_by c) x z
restated_made a b c x y z lasting one kept = makes_kept (raid_by a) (raid_by b) (raid_by c) x y z one.moves.book.same.made (one.truths lasting) kept

-- ---- the end of a plan

pub closed_truths : (a b c : Arrays) (x y z : RackView) → HasClosed a b x y → KeepsTruths (raid_by b) (raid_by c) y z → KeepsTruths (raid_by a) (raid_by c) x z
closed_truths a b c x y z one kept = truths_then (raid_by a) (raid_by b) (raid_by c) x y z one.made one.truths kept
