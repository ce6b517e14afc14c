-- How far a call of one array and the mending after it raise the numbers that end.
use Rattle.std.proofs.Common.{◌≡◌, ◌⊎◌, ℕ, ◌+◌, ◌<◌, ◌≤◌, List, set, length, get_or, slice_get, option_map, refl, ap, ◌∙◌, inl, inr, arith}
use Rattle.arrayvec.specs.ArrayVec.{ArrayVec}
use Rattle.log_laws.specs.View.{LogView, committed}
use Rattle.array_model.specs.View.{View}
use Rattle.array_core.specs.Seats.{gone}
use Rattle.raid_rack.specs.declared.arrays.Arrays.{Arrays}
use Rattle.raid_laws.specs.Moves.{RaisesBy}
use Rattle.raid_rack.specs.RaidRack.{no_array, raid_by}
use Rattle.raid_laws.proofs.Changed.{called}
use Rattle.raid_rack.proofs.Mended.{each_get}
use Rattle.raid_rack.proofs.Raises.{raised_up, raises_one, raises_then}
use Rattle.raid_rack.proofs.Steps.{set_own, set_other}

pub logs_raise : (before after : LogView) → (after ≡ before) ⊎ (after ≡ committed before) → after.number ≤ before.number + 1
logs_raise before after (inl same) = let is = ap (λ (l : LogView). l.number) same in omega (arith, is)
logs_raise before after (inr next) = let is = ap (λ (l : LogView). l.number) next in let up = raised_up before.number in omega (arith, is, up)

-- a call of array n, and the mending after it
pub raises_call : (j k : ℕ) (a c : Arrays) (all : ArrayVec View) (log : LogView) (n : ℕ) (old u : View) → length a.all.items ≡ a.state.made → n < a.state.made
    → old ≡ get_or a.all.items n no_array → all.items ≡ set a.all.items n u → log.number ≤ a.log.number + j → u.truth.events ≤ old.truth.events + j
    → RaisesBy k (raid_by (record a { all = all; log = log })) (raid_by c) → RaisesBy (j + k) (raid_by a) (raid_by c)
raises_call j k a c all log n old u count low old_is all_is number events two =
    let f : ℕ → View = λ i. get_or all.items i no_array in
    let own : f n ≡ u = ap (λ ys. get_or ys n no_array) all_is ∙ set_own a.all.items n u no_array (omega (arith, low, count)) in
    let others : (i : ℕ) → (i ≡ n → ⊥) → f i ≡ (raid_by a).arrays i = λ i other. ap (λ ys. get_or ys i no_array) all_is ∙ set_other a.all.items n i u no_array other in
    raises_then j k (raid_by a) (called (raid_by a) f log.number) (raid_by c) refl
    (raises_one j (raid_by a) f log.number n others number
    (let e = ap (λ (z : View). z.truth.events) own in let o = ap (λ (z : View). z.truth.events) old_is in omega (arith, e, o, events)))
    two

-- places that are noted, and the mending after it
pub raises_noted : (k : ℕ) (a c : Arrays) (all : ArrayVec View) (lost : List ℕ) → length a.all.items ≡ a.state.made
    → ((n : ℕ) → slice_get all.items n ≡ option_map (gone lost) (slice_get a.all.items n)) → RaisesBy k (raid_by (record a { all = all })) (raid_by c)
    → RaisesBy k (raid_by a) (raid_by c)
raises_noted k a c all lost count each two =
    record {
      number = two.number;
      epoch = two.epoch;
      events = λ n low.
          let e = ap (λ (u : View). u.truth.events) (each_get (gone lost) a.all.items all.items n each (omega (arith, low, count))) in
          let up = two.events n low in
          omega (arith, e, up);
    }
