-- What a pool's volume holds, by what it carries along.
use Rattle.std.proofs.Common.{◌≡◌, ℕ, ◌<◌, ◌≤◌, refl, sym, subst, ◌∙◌, arith}
use Rattle.rack.specs.Seen.{Image, SameRack}
use Rattle.rack.specs.Calls.{KeepsAll}
use Rattle.rack.specs.Joins.{keeps_same, keeps_then}
use Rattle.rack.specs.Moments.{IsSound}
use Rattle.flat_array.specs.Array.{FlatArray}
use Rattle.raid_laws.specs.Truths.{KeepsTruths}
use Rattle.raid_rack.proofs.Truths.{truths_then}
use Rattle.pool.specs.View.{View, book, contents_in, slices_shown, volume}
use Rattle.pool.specs.Volume.{VolumeIs, Means}
use Rattle.pool.specs.Continuing.{Continues}
use Rattle.pool.specs.Taking.{AreTold, Carries}
use Rattle.pool.specs.Held.{KeepsHeld}
use Rattle.pool.proofs.Held.{held_same, held_then}
use Rattle.pool.proofs.Doing.{stopped_in}

pub carries_same : (x : View) → Carries x x
carries_same x = record {
  spent = λ s alive. alive;
  told = λ names all s low alive told. told;
  keeps = λ names all s low alive told. keeps_same ((volume x).held 0 s);
  made = refl;
  truths = λ names all n low held. held;
  held = λ names all. held_same (book x) (slices_shown x);
}

pub carries_then : (x y z : View) → Continues x y → Carries x y → Carries y z → Carries x z
carries_then x y z go one two = record {
  spent = λ s alive. one.spent s (two.spent s alive);
  told = λ names all s low alive told.
      two.told (go.proceeds.told names) (go.known names all) s (subst (λ n. s < n) (sym go.size) low) alive (one.told names all s low (two.spent s alive) told);
  keeps = λ names all s low alive told.
      let mid = two.spent s alive in
      keeps_then ((volume x).held 0 s) ((volume y).held 0 s) ((volume z).held 0 s) (one.keeps names all s low mid told)
      (two.keeps (go.proceeds.told names) (go.known names all) s (subst (λ n. s < n) (sym go.size) low) alive (one.told names all s low mid told));
  made = two.made ∙ one.made;
  truths = λ names all.
      truths_then (book x) (book y) (book z) (slices_shown x) (slices_shown y) (slices_shown z) one.made (one.truths names all) (two.truths (go.proceeds.told names) (go.known names all));
  held = λ names all.
      held_then (book x) (book y) (book z) (slices_shown x) (slices_shown y) (slices_shown z) one.made (one.held names all) (two.held (go.proceeds.told names) (go.known names all));
}

-- a call in which no value comes to the volume
pub carries_kept : (x y : View) → SameRack (volume x) (volume y) → KeepsAll (volume x) (volume y) → (book y).state.made ≡ (book x).state.made
    → (x.shelf.told → AreTold x → KeepsTruths (book x) (book y) (slices_shown x) (slices_shown y))
    → (x.shelf.told → AreTold x → KeepsHeld (book x) (book y) (slices_shown x) (slices_shown y)) → Carries x y
carries_kept x y stays keeps made truths held = record {
  spent = λ s alive. stays.spent 0 s alive;
  told = λ names all s low alive told. stays.told 0 told;
  keeps = λ names all s low alive told.
      keeps.held 0 s (record { disk = omega arith; sector = subst (λ n. s < n) (sym (stays.sectors 0)) low; is_told = told; unspent = alive });
  made = made;
  truths = truths;
  held = held;
}

-- the volume holds what it held
pub holds_of : (x y : View) → Continues x y → Carries x y → (a : FlatArray) → VolumeIs x a → VolumeIs y a
holds_of x y go carries a holds = record {
  told = λ s low alive.
      carries.told holds.shelf holds.disks s (subst (λ n. s < n) holds.size low) alive (holds.told s low (carries.spent s alive));
  shelf = go.proceeds.told holds.shelf;
  disks = go.known holds.shelf holds.disks;
  size = holds.size ∙ sym go.size;
  values = λ s low alive.
      let was = carries.spent s alive in
      keeps_then (a.values s) ((volume x).held 0 s) ((volume y).held 0 s) (holds.values s low was)
      (carries.keeps holds.shelf holds.disks s (subst (λ n. s < n) holds.size low) alive (holds.told s low was));
}

-- what a stop leaves when it has returned means that
pub ends_of : (y : View) → IsSound (volume y) → (a : FlatArray) → VolumeIs y a → (i : Image) → y.bay.stops y.bay.clock i → Means y a i
ends_of y sound a holds i stopped s low alive =
    (holds.values s low alive).within (contents_in y.slices y.linear i s)
    (sound.only_held (λ d t. contents_in y.slices y.linear i t) (here i stopped) 0 s
    (record { disk = omega arith; sector = subst (λ n. s < n) holds.size low; is_told = holds.told s low alive; unspent = alive }))
  where
    here : (i : Image) → y.bay.stops y.bay.clock i → (volume y).stops y.bay.clock (λ d t. contents_in y.slices y.linear i t)
    here i stopped = stopped_in y y.bay.clock i stopped

-- and what stops leave in a call in which no value comes to the volume
pub means_kept : (x y : View) → SameRack (volume x) (volume y) → KeepsAll (volume x) (volume y) → x.bay.traced → (a : FlatArray) → VolumeIs x a
    → (k : ℕ) (i : Image) → x.bay.clock < k → k ≤ y.bay.clock → y.bay.stops k i → Means y a i
means_kept x y stays keeps traced a holds k i since until stopped s low alive =
    let was = stays.spent 0 s alive in
    (holds.values s low was).within (contents_in y.slices y.linear i s)
    ((keeps.stops traced).new k (λ d t. contents_in y.slices y.linear i t) since until (stopped_in y k i stopped) 0 s
    (record {
      disk = omega arith;
      sector = subst (λ n. s < n) (holds.size ∙ sym (stays.sectors 0)) low;
      is_told = holds.told s low was;
      unspent = alive;
    }))
