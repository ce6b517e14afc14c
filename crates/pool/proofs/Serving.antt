-- What a pool's calls are to the array that its volume holds, by what the calls of its parts say.
use Rattle.std.specs.Prelude.{Result}
use Rattle.std.proofs.Common.{◌≡◌, ℕ, ◌+◌, ◌<◌, ◌≤◌, Bool, true, false, List, Ok, Err, refl, sym, subst, ◌∙◌, arith}
use Rattle.std.proofs.lemmas.Bool.{both_ways}
use Rattle.rack.specs.declared.Gone.{Gone}
use Rattle.rack.specs.Seen.{RackView, SameRack}
use Rattle.rack.specs.Moments.{IsSound}
use Rattle.rack.specs.Shelf.{KeepsShelf, Shelf}
use Rattle.rack.specs.Calls.{Reads, Syncs, Writes}
use Rattle.rack.specs.Sequences.{WritesOnly}
use Rattle.slice_rack.specs.SliceRack.{below_of, tables}
use Rattle.slice_rack.specs.Laws as slices
use Rattle.lvm_group.specs.Laws as volumes
use Rattle.lvm_group.specs.Framed.{Frames, IsShown}
use Rattle.lvm_group.specs.Volume.{linear}
use Rattle.rack.specs.Several.{Several}
use Rattle.raid_rack.specs.AllRuns.{AreRuns, IsOneCall}
use Rattle.raid_laws.specs.Laws.{raid_sound, stops_inside}
use Rattle.raid_laws.specs.Losing.{arrays_same}
use Rattle.raid_laws.specs.Moves.{AreCaused, KeepsMarked}
use Rattle.raid_laws.specs.Book.{OnlyMarksSince}
use Rattle.raid_laws.specs.Runs.{CrashInvariant}
use Rattle.raid_laws.specs.Truths.{KeepsTruths}
use Rattle.raid_rack.specs.RaidRack.{SliceRuns, raid_in, raid_seen, slices_in, slices_seen}
use Rattle.pool.specs.declared.Pool.{Pool}
use Rattle.pool.specs.declared.calls.SectorFault.{SectorFault}
use Rattle.pool.specs.declared.calls.SectorFault.TheVariants.{Range, Spent}
use Rattle.pool.specs.View.{View, arrays_of, bay_in, book, view, volume}
use Rattle.pool.specs.Volume.{is_spent, size_of}
use Rattle.pool.specs.Keeping.{KeepsBook, KeepsWorks, Raises, most_raised}
use Rattle.pool.specs.Calls.{Flushes, HasFault, Marks, CallFrame, ReadsSector, WritesSector}
use Rattle.raid_rack.proofs.Raises.{raises_more, raises_none, several_raise}
use Rattle.pool.proofs.Booked.{book_lost}
use Rattle.pool.proofs.Keeping.{marks_of, marks_same, passes_of, passes_same}
use Rattle.pool.proofs.Doing.{does_flush, does_kept, does_none, does_refused, does_write}

-- ---- a call of the volume

-- what holds of a rack's stops at any moment
abbrev pub Laws : {R : Type 0} → (R → RackView) → Type 0
Laws {R} seen = (rack : R) → (seen rack).fit → (seen rack).traced → IsSound (seen rack)

-- runs keep a bay's names
abbrev pub KeepNames : {R : Type 0} → (R → Shelf) → (R → R → Type 0) → Type 0
KeepNames {R} shelf runs = (r s : R) → runs r s → KeepsShelf (shelf r) (shelf s)

pub sound_in : {R : Type 0} (seen : R → RackView) (shelf : R → Shelf) (laws : Laws seen) (pool : Pool R) → (volume (view seen shelf pool)).fit → (seen (bay_in pool)).traced
    → IsSound (volume (view seen shelf pool))
sound_in seen shelf laws pool fit traced =
    let raid = arrays_of pool in
    let rack = slices_in raid in
    let bay = seen (below_of rack) in
    let drives = fit.0.running.set.fit in
    volumes.is_sound (linear pool.volume) (raid_seen seen raid) pool.volume.orderly fit.1
    (raid_sound (raid_in raid) (slices_seen seen raid) (stops_inside (tables rack) bay)
    (slices.is_sound (tables rack) bay rack.orderly drives.1 (laws (bay_in pool) drives.0 traced)))

-- what each call keeps and marks, and what holds of the volume after it
pub record IsCall (calls : ℕ) (x y : View) : Type 0 where
  pub passes : CallFrame x y
  pub raises : Raises calls x y
  pub marks : Marks x y
  pub sound : y.bay.traced → IsSound (volume y)

pub is_call : {R : Type 0} (seen : R → RackView) (shelf : R → Shelf) (runs : R → R → Type 0) (laws : Laws seen) (names : KeepNames shelf runs) (calls : ℕ) (p q : Pool R)
    → (volume (view seen shelf p)).fit
    → SameRack (volume (view seen shelf p)) (volume (view seen shelf q)) → linear q.volume ≡ linear p.volume
    → SliceRuns seen runs (slices_in (arrays_of p)) (slices_in (arrays_of q))
    → OnlyMarksSince (raid_in (arrays_of p)).state (raid_in (arrays_of q)).state
    → AreCaused (raid_in (arrays_of p)) (raid_in (arrays_of q)) (slices_seen seen (arrays_of p)) (slices_seen seen (arrays_of q))
    → KeepsBook (raid_in (arrays_of p)) (raid_in (arrays_of q))
    → KeepsTruths (raid_in (arrays_of p)) (raid_in (arrays_of q)) (slices_seen seen (arrays_of p)) (slices_seen seen (arrays_of q))
    → CrashInvariant (raid_in (arrays_of p)) (raid_in (arrays_of q)) (slices_seen seen (arrays_of p)) (slices_seen seen (arrays_of q))
    → KeepsMarked (raid_in (arrays_of p)) (slices_seen seen (arrays_of p)) (slices_seen seen (arrays_of q))
    → WritesOnly (raid_seen seen (arrays_of p)) (raid_seen seen (arrays_of q)) (IsShown (linear p.volume))
    → Raises calls (view seen shelf p) (view seen shelf q)
    → IsCall calls (view seen shelf p) (view seen shelf q)
is_call seen shelf runs laws names calls p q fit stays same ran marks caused keeps truths moments unwritten arrays raises = record {
  passes = passes_of (view seen shelf p) (view seen shelf q) fit stays same ran marks keeps truths moments unwritten arrays
      (names (bay_in p) (bay_in q) ran.below);
  raises = raises;
  marks = marks_of (view seen shelf p) (view seen shelf q) fit ran.tables caused;
  sound = sound_in seen shelf laws q stays.fit;
}

-- such a call that keeps works too
pub record IsServing (x y : View) : Type 0 where
  pub call : IsCall 1 x y
  pub works : KeepsWorks (book x) (book y)

-- a call of the volume
pub volume_call : {R : Type 0} (seen : R → RackView) (shelf : R → Shelf) (runs : R → R → Type 0) (laws : Laws seen) (names : KeepNames shelf runs) (p q : Pool R)
    → (volume (view seen shelf p)).fit
    → SameRack (volume (view seen shelf p)) (volume (view seen shelf q)) → Frames (raid_seen seen) p.volume q.volume → AreRuns seen runs (arrays_of p) (arrays_of q)
    → Several (λ a b. IsOneCall (raid_in a) (raid_in b)) (1 + (linear p.volume).arrays) (arrays_of p) (arrays_of q)
    → IsServing (view seen shelf p) (view seen shelf q)
volume_call seen shelf runs laws names p q fit stays frames ran several =
    let v = raid_in (arrays_of p) in
    let w = raid_in (arrays_of q) in
    let running = stays.fit.0 in
    let disks = fit.1.arrays in
    let most = fit.0.running.set.most in
    record {
      call = is_call seen shelf runs laws names 1 p q fit stays frames.volume ran.0 ran.1.book ran.1.caused
          (book_lost v w (slices_seen seen (arrays_of q)) running.running.set running.heeded ran.1.book.same.made ran.2.arrays)
          ran.1.truths ran.1.moments ran.1.unwritten (frames.writes fit.0)
          (several_raise (1 + (linear p.volume).arrays) most_raised (arrays_of p) (arrays_of q) (omega (arith, disks, most)) several);
      works = record { arrays = ran.2.arrays; plan = ran.2.plan };
    }

-- no call
pub no_call : {R : Type 0} (seen : R → RackView) (shelf : R → Shelf) (laws : Laws seen) (p : Pool R) → (volume (view seen shelf p)).fit → IsServing (view seen shelf p) (view seen shelf p)
no_call seen shelf laws p fit = record {
  call = record {
    passes = passes_same (view seen shelf p) fit;
    raises = raises_more 0 most_raised (raid_in (arrays_of p)) (raid_in (arrays_of p)) (omega arith) (raises_none (raid_in (arrays_of p)));
    marks = marks_same (view seen shelf p) (λ place. ⊥);
    sound = sound_in seen shelf laws p fit;
  };
  works = record { arrays = arrays_same (raid_in (arrays_of p)); plan = refl };
}

-- ---- faults of a sector

never_fault : (e : SectorFault) → ◌≡◌ {A = Result (Unit {0}) SectorFault} (Ok tt) (Err e) → ⊥
never_fault e same = cc

same_fault : (e f : SectorFault) → ◌≡◌ {A = Result (Unit {0}) SectorFault} (Err e) (Err f) → e ≡ f
same_fault e f same = cc

range_spent : Range ≡ Spent → ⊥
range_spent same = cc

pub fault_range : (x : View) (sector : ℕ) → size_of x ≤ sector → HasFault x x sector {X = Unit {0}} (Err Range)
fault_range x sector past = record {
  range = (λ same. past, λ out. refl);
  served = tt;
  refused = λ same. absurd (range_spent (same_fault Range Spent same));
}

pub fault_none : (x y : View) (sector : ℕ) → sector < size_of x → is_spent y sector ≡ false → HasFault x y sector {X = Unit {0}} (Ok tt)
fault_none x y sector low alive = record {
  range = (λ same. absurd (never_fault Range same), λ out. absurd (omega (arith, low, out)));
  served = (low, alive);
  refused = λ same. absurd (never_fault Spent same);
}

pub fault_spent : (x y : View) (sector : ℕ) → sector < size_of x → is_spent y sector ≡ true → HasFault x y sector {X = Unit {0}} (Err Spent)
fault_spent x y sector low spent = record {
  range = (λ same. absurd (range_spent (sym (same_fault Spent Range same))), λ out. absurd (omega (arith, low, out)));
  served = tt;
  refused = λ same. (low, spent);
}

-- ---- a read

pub read_past : (x : View) (sector : ℕ) (into : List ℕ) → IsServing x x → size_of x ≤ sector → ReadsSector x x sector into {X = Unit {0}} (Err Range)
read_past x sector into serving past = record {
  passes = serving.call.passes;
  raises = serving.call.raises;
  works = serving.works;
  marks = serving.call.marks;
  fault = fault_range x sector past;
  value = tt;
  does = does_none x serving.call.passes serving.call.sound;
}

pub read_done : (x y : View) (sector : ℕ) (into : List ℕ) → IsServing x y → sector < size_of x
    → Reads (volume x) (volume y) 0 sector into {X = Unit {0}} (Ok tt) → ReadsSector x y sector into {X = Unit {0}} (Ok tt)
read_done x y sector into serving low reads = record {
  passes = serving.call.passes;
  raises = serving.call.raises;
  works = serving.works;
  marks = serving.call.marks;
  fault = fault_none x y sector low reads.cause.served;
  value = λ a holds.
      reads.value (holds.told sector (subst (λ n. sector < n) (sym holds.size) low) (reads.stays.spent 0 sector reads.cause.served))
      ∙ (holds.values sector (subst (λ n. sector < n) (sym holds.size) low) (reads.stays.spent 0 sector reads.cause.served)).current;
  does = does_kept x y serving.call.passes serving.call.sound reads.keeps;
}

pub read_spent : (x y : View) (sector : ℕ) (into : List ℕ) (gone : Gone) → IsServing x y → sector < size_of x
    → Reads (volume x) (volume y) 0 sector into {X = Unit {0}} (Err gone) → ReadsSector x y sector into {X = Unit {0}} (Err Spent)
read_spent x y sector into gone serving low reads = record {
  passes = serving.call.passes;
  raises = serving.call.raises;
  works = serving.works;
  marks = serving.call.marks;
  fault = fault_spent x y sector low (reads.cause.spent tt);
  value = tt;
  does = does_kept x y serving.call.passes serving.call.sound reads.keeps;
}

-- ---- a write

pub write_past : (x : View) (sector : ℕ) (from : List ℕ) → IsServing x x → size_of x ≤ sector → WritesSector x x sector from {X = Unit {0}} (Err Range)
write_past x sector from serving past = record {
  passes = serving.call.passes;
  raises = serving.call.raises;
  works = serving.works;
  marks = serving.call.marks;
  fault = fault_range x sector past;
  written = tt;
  kept = does_none x serving.call.passes serving.call.sound;
}

pub write_done : (x y : View) (sector : ℕ) (from : List ℕ) → IsServing x y → sector < size_of x
    → Writes (volume x) (volume y) 0 sector from {X = Unit {0}} (Ok tt) → WritesSector x y sector from {X = Unit {0}} (Ok tt)
write_done x y sector from serving low writes = record {
  passes = serving.call.passes;
  raises = serving.call.raises;
  works = serving.works;
  marks = serving.call.marks;
  fault = fault_none x y sector low writes.cause.served;
  written = does_write x y sector from serving.call.passes serving.call.sound writes.stops writes.done;
  kept = tt;
}

pub write_spent : (x y : View) (sector : ℕ) (from : List ℕ) (gone : Gone) → IsServing x y → sector < size_of x
    → Writes (volume x) (volume y) 0 sector from {X = Unit {0}} (Err gone) → WritesSector x y sector from {X = Unit {0}} (Err Spent)
write_spent x y sector from gone serving low writes =
    let spent = writes.cause.spent tt in
    record {
      passes = serving.call.passes;
      raises = serving.call.raises;
      works = serving.works;
      marks = serving.call.marks;
      fault = fault_spent x y sector low spent;
      written = tt;
      kept = does_refused x y sector from serving.call.passes serving.call.sound spent writes.stops writes.failed;
    }

-- ---- a flush

pub sync_done : (x y : View) (result : Result (Unit {0}) Gone) → IsServing x y → Syncs (volume x) (volume y) 0 result → Flushes x y
sync_done x y (Ok u) serving syncs = record {
  passes = serving.call.passes;
  raises = serving.call.raises;
  works = serving.works;
  marks = serving.call.marks;
  does = does_flush x y serving.call.passes serving.call.sound syncs.keeps (λ s v live left. syncs.done s v live left);
}
sync_done x y (Err gone) serving syncs = absurd (never (syncs.steady tt))
  where
    never : ◌≡◌ {A = Bool} false true → ⊥
    never same = both_ways false refl same
