-- A sync of one array, and the mending of losses after it.
use Rattle.std.proofs.Common.{◌≡◌, ℕ, ◌+◌, ◌<◌, Bool, true, false, List, [], set, length, get_or, refl, sym, ap, subst, ◌∙◌, arith}
use Rattle.std.proofs.lemmas.Bool.{both_ways}
use Rattle.arrayvec.specs.ArrayVec.{ArrayVec}
use Rattle.rack.specs.Values.{Values, only}
use Rattle.rack.specs.Seen.{RackView}
use Rattle.rack.specs.Sequences.{OnlyReads}
use Rattle.pool_state.specs.declared.contents.State.{State}
use Rattle.array_image.specs.Places.{member_slice, data_sector}
use Rattle.array_image.specs.Arrays.{Shape}
use Rattle.array_image.specs.Held.{IsSynced}
use Rattle.log_laws.proofs.Kept.{live_on}
use Rattle.array_model.specs.View.{View, shape_of}
use Rattle.array_model.specs.Says.{IsOpen}
use Rattle.array_model.specs.Members.{HasSlices, Notes}
use Rattle.array_model.specs.ArrayCalls.{IncludesSpent, ReadsArray, SyncsArray}
use Rattle.array_model.proofs.Keeping.{settled_kept}
use Rattle.raid_rack.specs.declared.arrays.Arrays.{Arrays}
use Rattle.raid_laws.specs.Raid.{Raid, is_failed}
use Rattle.raid_laws.specs.Moves.{IsTrackedInCall, IsSet, ChangesNoData, Mends, ReadsValue, SyncsOne}
use Rattle.raid_rack.specs.RaidRack.{IsRunning, raid_by, no_array}
use Rattle.raid_laws.proofs.Moving.{moves_then}
use Rattle.raid_laws.proofs.Calls.{reads_notes, moves_read}
use Rattle.raid_rack.proofs.Steps.{set_own, set_other, length_set}

-- the slices of an array
pub own_slices : (a : Arrays) (x : RackView) (n : ℕ) (u : View) → IsRunning a x → n < a.state.made → u ≡ get_or a.all.items n no_array → HasSlices u x
own_slices a x n u running low is = subst (λ z. HasSlices z x) (sym is) (running.set.arrays n low).slices

pub record HasSynced (a b : Arrays) (x y : RackView) (n : ℕ) : Type 0 where
  pub moves : ChangesNoData (raid_by a) (raid_by b) x y
  pub running : IsRunning b y
  pub settled :
      (vals : ℕ → Values) (spent : ℕ → Bool) → n < a.state.joined → is_failed (raid_by b) n ≡ false → IncludesSpent ((raid_by b).arrays n) spent
      → IsTrackedInCall (raid_by a) x n vals spent → IsSynced (shape_of ((raid_by b).arrays n)) n y.held

pub has_synced : (a : Arrays) (all : ArrayVec View) (x y : RackView) (n : ℕ) (old u : View) → IsRunning a x → n < a.state.made
    → old ≡ get_or a.all.items n no_array → all.items ≡ set a.all.items n u
    → ((s : State) (durable : Shape) (vals : ℕ → Values) (spent : ℕ → Bool) → IncludesSpent u spent → SyncsArray s old u spent x y durable vals)
    → OnlyReads x y → Notes old u x y
    → HasSynced a (record a { all = all }) x y n
has_synced a all x y n old u running low old_is all_is syncs reads notes =
    let f : ℕ → View = λ k. get_or all.items k no_array in
    let v = raid_by a in
    let own : f n ≡ u = ap (λ ys. get_or ys n no_array) all_is ∙ set_own a.all.items n u no_array (let count = running.count in omega (arith, low, count)) in
    let others : (k : ℕ) → (k ≡ n → ⊥) → f k ≡ v.arrays k = λ k other. ap (λ ys. get_or ys k no_array) all_is ∙ set_other a.all.items n k u no_array other in
    let synced : (s : State) (durable : Shape) (vals : ℕ → Values) (spent : ℕ → Bool) → IncludesSpent (f n) spent → SyncsArray s (v.arrays n) (f n) spent x y durable vals =
    λ s durable vals spent covers.
    subst (λ w. SyncsArray s w (f n) spent x y durable vals) old_is
    (subst (λ w. SyncsArray s old w spent x y durable vals) (sym own) (syncs s durable vals spent (subst (λ w. IncludesSpent w spent) own covers))) in
    let noted : Notes (v.arrays n) (f n) x y = subst (λ w. Notes w (f n) x y) old_is (subst (λ w. Notes old w x y) (sym own) notes) in
    let call = reads_notes v f n x y running.set low reads others noted (λ s durable vals spent covers. (synced s durable vals spent covers).acts) in
    let step = moves_read v f n x y running.set call in
    record {
      moves = step;
      running = record { count = ap length all_is ∙ length_set a.all.items n u ∙ running.count; set = step.set };
      settled = λ vals spent joined goes covers amid.
          subst (λ k. IsSynced (shape_of (f n)) k y.held) call.views.seated.number
          ((synced a.state amid.durable vals spent covers).settled amid.stood.holds);
    }

-- the members of an array that are left have one value in each sector after parts that move none
pub settled_moved : (v w : Raid) (y z : RackView) (n : ℕ) (vals : ℕ → Values) (spent : ℕ → Bool) → IsSet v y → ChangesNoData v w y z → n < v.state.made
    → IsTrackedInCall v y n vals spent → IsSynced (shape_of (v.arrays n)) n y.held → IsSynced (shape_of (w.arrays n)) n z.held
settled_moved v w y z n vals spent set moves made mid single =
    let is_open : IsOpen (shape_of (v.arrays n)) n y = subst (λ k. IsOpen (shape_of (v.arrays n)) k y) mid.stood.number mid.stood.holds.shape.open_left in
    settled_kept y.held z.held (shape_of (w.arrays n)) n
    (λ m sector among counts.
    moves.kept (member_slice m.place n) (data_sector + sector)
    (live_on set.lasting moves.stays (is_open m sector (moves.counted n m sector made among counts) counts))
    (λ none. absurd (let few = (set.arrays n made).is_array.few in let number = (set.arrays n made).number in omega (arith, none, few, number)))
    (λ head. absurd (omega (arith, head))))
    (λ m sector among counts. single m sector (moves.counted n m sector made among counts) counts)

pub syncs_one : (a b c : Arrays) (x y z : RackView) (n : ℕ) → n < a.state.made → HasSynced a b x y n → b.state ≡ a.state → Mends (raid_by b) (raid_by c) y z
    → SyncsOne (raid_by a) (raid_by c) x z n
syncs_one a b c x y z n low synced same mends =
    let made : n < b.state.made = subst (λ (s : State). n < s.made) (sym same) low in
    record {
      moves = moves_then (raid_by a) (raid_by b) (raid_by c) x y z synced.moves mends.moves;
      heeded = mends.heeded;
      settled = λ vals spent joined goes covers amid.
          let still = mends.moves.still n made goes in
          let covered : IncludesSpent ((raid_by b).arrays n) spent = λ s alive. mends.moves.spent n s made (covers s alive) in
          settled_moved (raid_by b) (raid_by c) y z n vals spent synced.running.set mends.moves made
          ((synced.moves.parts n vals spent joined low still covered).holds amid)
          (synced.settled vals spent joined still covered amid);
    }

-- ---- a read

pub record HasRead (a b : Arrays) (x y : RackView) (n sector : ℕ) (into : List ℕ) : Type 0 where
  pub moves : ChangesNoData (raid_by a) (raid_by b) x y
  pub running : IsRunning b y
  pub value :
      (vals : ℕ → Values) (spent : ℕ → Bool) → IncludesSpent ((raid_by b).arrays n) spent → spent sector ≡ false
      → IsTrackedInCall (raid_by a) x n vals spent → into ≡ (vals sector).current

pub has_read : (a : Arrays) (all : ArrayVec View) (x y : RackView) (n sector : ℕ) (into : List ℕ) (old u : View) → IsRunning a x → n < a.state.made
    → old ≡ get_or a.all.items n no_array → all.items ≡ set a.all.items n u
    → ((s : State) (durable : Shape) (vals : ℕ → Values) (spent : ℕ → Bool) → IncludesSpent u spent → ReadsArray s old u spent x y durable vals sector into)
    → OnlyReads x y → Notes old u x y
    → HasRead a (record a { all = all }) x y n sector into
has_read a all x y n sector into old u running low old_is all_is reads_one reads notes =
    let f : ℕ → View = λ k. get_or all.items k no_array in
    let v = raid_by a in
    let own : f n ≡ u = ap (λ ys. get_or ys n no_array) all_is ∙ set_own a.all.items n u no_array (let count = running.count in omega (arith, low, count)) in
    let others : (k : ℕ) → (k ≡ n → ⊥) → f k ≡ v.arrays k = λ k other. ap (λ ys. get_or ys k no_array) all_is ∙ set_other a.all.items n k u no_array other in
    let seen : (s : State) (durable : Shape) (vals : ℕ → Values) (spent : ℕ → Bool) → IncludesSpent (f n) spent → ReadsArray s (v.arrays n) (f n) spent x y durable vals sector into =
    λ s durable vals spent covers.
    subst (λ w. ReadsArray s w (f n) spent x y durable vals sector into) old_is
    (subst (λ w. ReadsArray s old w spent x y durable vals sector into) (sym own) (reads_one s durable vals spent (subst (λ w. IncludesSpent w spent) own covers))) in
    let noted : Notes (v.arrays n) (f n) x y = subst (λ w. Notes w (f n) x y) old_is (subst (λ w. Notes old w x y) (sym own) notes) in
    let call = reads_notes v f n x y running.set low reads others noted (λ s durable vals spent covers. (seen s durable vals spent covers).acts) in
    let step = moves_read v f n x y running.set call in
    record {
      moves = step;
      running = record { count = ap length all_is ∙ length_set a.all.items n u ∙ running.count; set = step.set };
      value = λ vals spent covers alive amid. (seen a.state amid.durable vals spent covers).value amid.stood.holds alive;
    }

pub reads_value : (a b c : Arrays) (x y z : RackView) (n sector : ℕ) (into : List ℕ) → n < a.state.made → HasRead a b x y n sector into → b.state ≡ a.state
    → Mends (raid_by b) (raid_by c) y z
    → ReadsValue (raid_by a) (raid_by c) x z n sector into
reads_value a b c x y z n sector into low read same mends =
    let made : n < b.state.made = subst (λ (s : State). n < s.made) (sym same) low in
    record {
      moves = moves_then (raid_by a) (raid_by b) (raid_by c) x y z read.moves mends.moves;
      heeded = mends.heeded;
      value = λ vals spent joined goes covers alive amid. read.value vals spent (λ s unspent. mends.moves.spent n s made (covers s unspent)) alive amid;
    }

-- a read writes nothing
pub read_only : (old u : View) (x y : RackView) (sector : ℕ) (into : List ℕ) (s : State)
    → ((s : State) (durable : Shape) (vals : ℕ → Values) (spent : ℕ → Bool) → IncludesSpent u spent → ReadsArray s old u spent x y durable vals sector into)
    → OnlyReads x y
read_only old u x y sector into s reads =
    let one = reads s (shape_of old) (λ k. only []) (λ k. true) (λ k alive. absurd (both_ways true alive refl)) in
    record { stays = one.acts.stays; keeps = one.keeps }
