-- What a call does to the array that a pool's volume holds, by what it does to the volume's sectors.
use Rattle.std.proofs.Common.{◌≡◌, ◌⊎◌, ℕ, ◌<◌, ◌==◌, if◌then◌else◌, Bool, true, false, List, refl, sym, ap, subst, ◌∙◌, inl, inr, arith}
use Rattle.std.proofs.lemmas.Bool.{both_ways}
use Rattle.rack.specs.Values.{Values, MayLeave, Keeps, append}
use Rattle.rack.specs.Seen.{Held, Image, IsLive, IsPick, appended}
use Rattle.rack.specs.Moments.{IsSound, Leaves}
use Rattle.rack.specs.Calls.{KeepsAll}
use Rattle.rack.specs.Joins.{keeps_append, keeps_same, keeps_then, leaves_same}
use Rattle.rack.proofs.Writing.{appended_elsewhere}
use Rattle.flat_array.specs.Array.{FlatArray, flushed, written}
use Rattle.slice_rack.specs.Slices.{sectors_of}
use Rattle.slice_rack.specs.Sliced.{sliced}
use Rattle.array_image.specs.Arrays.{arrays_in, replayed}
use Rattle.lvm_group.specs.Shown.{contents_of}
use Rattle.pool.specs.View.{View, contents_in, volume}
use Rattle.pool.specs.Volume.{Refines, VolumeIs, is_spent, unchanged}
use Rattle.pool.specs.Calls.{CallFrame}

-- What a call does to each array that the volume holds before it, in the volume's live sectors: `vals` are the values that stops inside
-- it leave there.
pub record Acts (x y : View) (vals : Held) (during after : FlatArray → FlatArray) : Type 0 where
  pub size_during : (a : FlatArray) → (during a).size ≡ a.size
  pub size_after : (a : FlatArray) → (after a).size ≡ a.size
  pub stops : x.bay.traced → Leaves (volume x) (volume y) (IsPick (volume x) (volume y) vals)
  pub held_during :
      (a : FlatArray) (s : ℕ) → IsLive (volume x) (volume y) 0 s → Keeps (a.values s) ((volume x).held 0 s) → Keeps ((during a).values s) (vals 0 s)
  pub held_after :
      (a : FlatArray) (s : ℕ) → IsLive (volume x) (volume y) 0 s → Keeps (a.values s) ((volume x).held 0 s)
      → Keeps ((after a).values s) ((volume y).held 0 s)

-- what contents of the bay's disks give of the volume
abbrev pub volume_in : View → Image → Image
volume_in y i d s = contents_of y.linear (arrays_in (replayed (sectors_of y.slices) (sliced y.slices i))) d s

-- a stop of the bay is one of the volume
pub stopped_in : (y : View) (k : ℕ) (i : Image) → y.bay.stops k i → (volume y).stops k (volume_in y i)
stopped_in y k i stopped = (
  arrays_in (replayed (sectors_of y.slices) (sliced y.slices i)),
  (sliced y.slices i, (i, stopped, λ d s. refl), λ n s. refl),
  λ d s. refl,
)

-- a sector of an array that the volume holds is live where it isn't spent
pub live_at : (x y : View) (a : FlatArray) → CallFrame x y → VolumeIs x a → (s : ℕ) → s < a.size → is_spent y s ≡ false → IsLive (volume x) (volume y) 0 s
live_at x y a passes holds s low alive = record {
  disk = omega arith;
  sector = subst (λ n. s < n) (holds.size ∙ sym (passes.stays.sectors 0)) low;
  is_told = holds.told s low (passes.stays.spent 0 s alive);
  unspent = alive;
}

pub becomes_of : (x y : View) (vals : Held) (during after : FlatArray → FlatArray) → CallFrame x y → Acts x y vals during after
    → (a : FlatArray) → VolumeIs x a → VolumeIs y (after a)
becomes_of x y vals during after passes acts a holds = record {
  told = λ s low alive. passes.stays.told 0 (holds.told s (subst (λ n. s < n) (acts.size_after a) low) (passes.stays.spent 0 s alive));
  shelf = passes.shelf.told holds.shelf;
  disks = λ d low. passes.apart.stays.told d (holds.disks d (subst (λ n. d < n) (passes.apart.stays.disks) low));
  size = acts.size_after a ∙ holds.size ∙ sym (passes.stays.sectors 0);
  values = λ s low alive.
      let inside : s < a.size = subst (λ n. s < n) (acts.size_after a) low in
      acts.held_after a s (live_at x y a passes holds s inside alive) (holds.values s inside (passes.stays.spent 0 s alive));
}

pub does_of : (x y : View) (vals : Held) (during after : FlatArray → FlatArray) → CallFrame x y → (y.bay.traced → IsSound (volume y))
    → Acts x y vals during after → Refines x y during after
does_of x y vals during after passes sound acts = record {
  becomes = becomes_of x y vals during after passes acts;
  leaves = λ traced a holds.
      let apart = passes.apart.stops traced in
      record {
        later = apart.later;
        kept = apart.kept;
        past = apart.past;
        new = λ k i since until stopped s low alive.
            let inside : s < a.size = subst (λ n. s < n) (acts.size_during a) low in
            let live = live_at x y a passes holds s inside alive in
            (acts.held_during a s live (holds.values s inside (passes.stays.spent 0 s alive))).within (contents_in y.slices y.linear i s)
            ((acts.stops traced).new k (volume_in y i) since until (stopped_in y k i stopped) 0 s live);
      };
  ends = λ traced a holds i stopped s low alive.
      let held = becomes_of x y vals during after passes acts a holds in
      (held.values s low alive).within (contents_in y.slices y.linear i s)
      ((sound (passes.stays.traced traced)).only_held (volume_in y i) (stopped_in y y.bay.clock i stopped) 0 s
      (record { disk = omega arith; sector = subst (λ n. s < n) held.size low; is_told = held.told s low alive; unspent = alive }));
}

-- ---- a call that brings no value

pub acts_kept : (x y : View) → KeepsAll (volume x) (volume y) → Acts x y (volume x).held unchanged unchanged
acts_kept x y keeps = record {
  size_during = λ a. refl;
  size_after = λ a. refl;
  stops = keeps.stops;
  held_during = λ a s live kept. kept;
  held_after = λ a s live kept. keeps_then (a.values s) ((volume x).held 0 s) ((volume y).held 0 s) kept (keeps.held 0 s live);
}

pub does_kept : (x y : View) → CallFrame x y → (y.bay.traced → IsSound (volume y)) → KeepsAll (volume x) (volume y) → Refines x y unchanged unchanged
does_kept x y passes sound keeps = does_of x y (volume x).held unchanged unchanged passes sound (acts_kept x y keeps)

-- no call
pub does_none : (x : View) → CallFrame x x → (x.bay.traced → IsSound (volume x)) → Refines x x unchanged unchanged
does_none x passes sound =
    does_kept x x passes sound
    (record {
      held = λ d s live. keeps_same ((volume x).held d s);
      stops = λ traced. leaves_same (volume x) (IsPick (volume x) (volume x) (volume x).held);
    })

-- ---- a flush

-- each live sector has one value when it returns
pub does_flush : (x y : View) → CallFrame x y → (y.bay.traced → IsSound (volume y)) → KeepsAll (volume x) (volume y)
    → ((s : ℕ) (v : List ℕ) → IsLive (volume x) (volume y) 0 s → MayLeave ((volume y).held 0 s) v → v ≡ ((volume y).held 0 s).current)
    → Refines x y unchanged flushed
does_flush x y passes sound keeps single =
    does_of x y (volume x).held unchanged flushed passes sound
    (record {
      size_during = λ a. refl;
      size_after = λ a. refl;
      stops = keeps.stops;
      held_during = λ a s live kept. kept;
      held_after = λ a s live kept.
          let one : Keeps (a.values s) ((volume y).held 0 s) = keeps_then (a.values s) ((volume x).held 0 s) ((volume y).held 0 s) kept (keeps.held 0 s live) in
          record { current = one.current; within = λ v left. inl (single s v live left ∙ one.current) };
    })

-- ---- a write

-- a value is appended to both, or to neither
both_appended : (b : Bool) (g h : Values) (v : List ℕ) → Keeps g h → Keeps (if b then append g v else g) (if b then append h v else h)
both_appended true g h v keeps = keeps_append g h v keeps
both_appended false g h v keeps = keeps

pub does_write : (x y : View) (sector : ℕ) (from : List ℕ) → CallFrame x y → (y.bay.traced → IsSound (volume y))
    → (x.bay.traced → Leaves (volume x) (volume y) (IsPick (volume x) (volume y) (appended (volume x).held 0 sector from)))
    → ((d s : ℕ) → IsLive (volume x) (volume y) d s → Keeps (appended (volume x).held 0 sector from d s) ((volume y).held d s))
    → Refines x y (λ a. written a sector from) (λ a. written a sector from)
does_write x y sector from passes sound stops done =
    let vals : Held = appended (volume x).held 0 sector from in
    let own : (a : FlatArray) (s : ℕ) → Keeps (a.values s) ((volume x).held 0 s) → Keeps ((written a sector from).values s) (vals 0 s) =
    λ a s kept. both_appended (s == sector) (a.values s) ((volume x).held 0 s) from kept in
    does_of x y vals (λ a. written a sector from) (λ a. written a sector from) passes sound
    (record {
      size_during = λ a. refl;
      size_after = λ a. refl;
      stops = stops;
      held_during = λ a s live kept. own a s kept;
      held_after = λ a s live kept. keeps_then ((written a sector from).values s) (vals 0 s) ((volume y).held 0 s) (own a s kept) (done 0 s live);
    })

-- a write that is refused brings no value to a sector that isn't spent
pub does_refused : (x y : View) (sector : ℕ) (from : List ℕ) → CallFrame x y → (y.bay.traced → IsSound (volume y))
    → is_spent y sector ≡ true
    → (x.bay.traced → Leaves (volume x) (volume y) (IsPick (volume x) (volume y) (appended (volume x).held 0 sector from)))
    → ((d s : ℕ) → IsLive (volume x) (volume y) d s
    → Keeps ((volume x).held d s) ((volume y).held d s) ⊎ Keeps (appended (volume x).held 0 sector from d s) ((volume y).held d s))
    → Refines x y unchanged unchanged
does_refused x y sector from passes sound spent stops failed =
    let vals : Held = appended (volume x).held 0 sector from in
    let same : (s : ℕ) → IsLive (volume x) (volume y) 0 s → vals 0 s ≡ (volume x).held 0 s =
    λ s live. appended_elsewhere (volume x).held 0 sector from 0 s (inr (λ is. both_ways (is_spent y s) live.unspent (ap (is_spent y) is ∙ spent))) in
    let kept_at : (s : ℕ) → IsLive (volume x) (volume y) 0 s → Keeps ((volume x).held 0 s) ((volume y).held 0 s) =
    λ s live.
    elim (failed 0 s live) [
      | inl kept ↦ kept
      | inr new ↦ subst (λ (h : Values). Keeps h ((volume y).held 0 s)) (same s live) new
    ] in
    does_of x y vals unchanged unchanged passes sound
    (record {
      size_during = λ a. refl;
      size_after = λ a. refl;
      stops = stops;
      held_during = λ a s live kept. subst (λ (h : Values). Keeps (a.values s) h) (sym (same s live)) kept;
      held_after = λ a s live kept. keeps_then (a.values s) ((volume x).held 0 s) ((volume y).held 0 s) kept (kept_at s live);
    })
