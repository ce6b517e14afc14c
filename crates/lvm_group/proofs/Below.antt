-- What a call of the rack below is to the volume.
use Rattle.std.proofs.Common.{◌≡◌, ℕ, ◌+◌, ◌*◌, ◌/◌, ◌%◌, ◌≤◌, ◌<◌, ◌==◌, ◌&&◌, if◌then◌else◌, inl, inr, Bool, true, false, List, Ok, Err, refl, sym, ap, subst, ◌∙◌, arith}
use Rattle.std.proofs.lemmas.Bool.{eq-eqb, eqb-true}
use Rattle.std.proofs.lemmas.Nat.{same_from_place, mod_below, div-add-mod'}
use Rattle.rack.specs.declared.Gone.{Gone}
use Rattle.rack.specs.Values.{Values, MayLeave, Keeps, append}
use Rattle.rack.specs.Seen.{Image, Held, RackView, Rose, IsPick, SameRack, appended}
use Rattle.rack.specs.Moments.{Leaves}
use Rattle.rack.specs.Calls.{KeepsAll, Reads, Writes, Syncs}
use Rattle.lvm_group.specs.Runs.{Linear, IsOrderly, place_of, data_start, sectors_in, array_of, sector_of}
use Rattle.lvm_group.specs.Shown.{IsInside, contents_of, volume_of}
use Rattle.lvm_group.specs.Sequences.{SyncsAll}
use Rattle.lvm_group.specs.Laws.{extent_below, array_below, live_below, shows}
use Rattle.lvm_group.proofs.Totals.{total_grows, total_rose, total_same}

-- the extents still lie inside
pub inside_still : {l : Linear} {a b : RackView} → SameRack a b → IsInside l a → IsInside l b
inside_still {l} {a} {b} stays inside = record {
  small = rw (stays.disks, total_same a.sectors b.sectors a.disks stays.sectors) inside.small;
  arrays = subst (λ n. l.arrays ≤ n) (sym stays.disks) inside.arrays;
  placed = inside.placed;
  held = λ e below. subst (λ n. data_start + (place_of l.runs e).extent * l.extent + l.extent ≤ n) (sym (stays.sectors (place_of l.runs e).array)) (inside.held e below);
}

-- what no call changes
pub stays_volume : {l : Linear} {a b : RackView} → IsInside l a → SameRack a b → SameRack (volume_of l a) (volume_of l b)
stays_volume {l} {a} {b} inside stays = record {
  fit = (stays.fit, inside_still stays inside);
  disks = refl;
  sectors = λ d. refl;
  faults = λ d. rw stays.disks (total_grows a.faults b.faults a.disks stays.faults);
  spent = λ d s. stays.spent (array_of l s) (sector_of l s);
  lasting = stays.lasting;
  lasts = λ lasting d s. stays.lasts lasting (array_of l s) (sector_of l s);
  steady = stays.steady;
  told = λ d told array below. stays.told array (told array below);
  traced = stays.traced;
}

-- stops leave in the volume what they leave in the arrays
leaves_volume : {l : Linear} {a b : RackView} (P Q : Image → Type 0)
    → ((below c : Image) → ((d s : ℕ) → c d s ≡ contents_of l below d s) → P below → Q c)
    → Leaves a b P → Leaves (volume_of l a) (volume_of l b) Q
leaves_volume P Q shown leaves = record {
  later = leaves.later;
  kept = λ k c until left. (left.0, leaves.kept k left.0 until left.1, left.2);
  past = λ k c until left. (left.0, leaves.past k left.0 until left.1, left.2);
  new = λ k c after until left. shown left.0 c left.2 (leaves.new k left.0 after until left.1);
}

-- a pick of the arrays is a pick of the volume
pick_volume : {l : Linear} {a b : RackView} (held own : Held) → IsOrderly l → IsInside l b
    → ((d s : ℕ) → d < 1 → s < sectors_in l → held (array_of l s) (sector_of l s) ≡ own d s)
    → (below c : Image) → ((d s : ℕ) → c d s ≡ contents_of l below d s) → IsPick a b held below → IsPick (volume_of l a) (volume_of l b) own c
pick_volume {l} held own orderly inside same below c shown pick d s live =
    subst (λ h. MayLeave h (c d s)) (same d s live.disk live.sector)
    (subst (MayLeave (held (array_of l s) (sector_of l s))) (sym (shown d s ∙ shows l below d s live.sector))
    (pick (array_of l s) (sector_of l s) (live_below orderly inside live)))

-- no value comes, and no current value changes
pub keeps_volume : {l : Linear} {a b : RackView} → IsOrderly l → IsInside l b → KeepsAll a b → KeepsAll (volume_of l a) (volume_of l b)
keeps_volume {l} {a} {b} orderly inside keeps = record {
  held = λ d s live. keeps.held (array_of l s) (sector_of l s) (live_below orderly inside live);
  stops = λ traced. leaves_volume (IsPick a b a.held) (IsPick (volume_of l a) (volume_of l b) (volume_of l a).held)
      (pick_volume a.held (volume_of l a).held orderly inside (λ d s one within. refl)) (keeps.stops traced);
}

-- a refusal below raises the volume's count
rose_volume : (l : Linear) {a b : RackView} (disk array : ℕ) → SameRack a b → array < a.disks → Rose (a.faults array) (b.faults array)
    → Rose ((volume_of l a).faults disk) ((volume_of l b).faults disk)
rose_volume l {a} {b} disk array stays below rose = rw stays.disks (total_rose a.faults b.faults a.disks array stays.faults below rose)

-- ---- reads

pub read_volume : {l : Linear} {a b : RackView} (d s : ℕ) (into : List ℕ) → IsOrderly l → IsInside l a → s < sectors_in l
    → Reads a b (array_of l s) (sector_of l s) into {X = Unit {0}} (Ok tt)
    → Reads (volume_of l a) (volume_of l b) d s into {X = Unit {0}} (Ok tt)
read_volume {l} {a} {b} d s into orderly inside within r = record {
  stays = stays_volume inside r.stays;
  cause = record { served = r.cause.served; gone = tt; spent = r.cause.spent };
  keeps = keeps_volume orderly (inside_still r.stays inside) r.keeps;
  value = λ told. r.value (told (array_of l s) (array_below l a s orderly inside within));
}

pub unread_volume : {l : Linear} {a b : RackView} (d s : ℕ) (into : List ℕ) (gone : Gone) → IsOrderly l → IsInside l a → s < sectors_in l
    → Reads a b (array_of l s) (sector_of l s) into {X = Unit {0}} (Err gone)
    → Reads (volume_of l a) (volume_of l b) d s into {X = Unit {0}} (Err (record { disk = d }))
unread_volume {l} {a} {b} d s into gone orderly inside within r =
    let array = array_below l a s orderly inside within in
    let arrays = inside.arrays in
    record {
      stays = stays_volume inside r.stays;
      cause = record { served = tt; gone = (refl, rose_volume l d (array_of l s) r.stays (omega arith) r.cause.gone.1); spent = r.cause.spent };
      keeps = keeps_volume orderly (inside_still r.stays inside) r.keeps;
      value = tt;
    }

-- ---- writes

-- one sector below belongs to one sector of the volume alone
pub one_sector : (l : Linear) (s u : ℕ) → IsOrderly l → s < sectors_in l → u < sectors_in l
    → array_of l s ≡ array_of l u → sector_of l s ≡ sector_of l u → s ≡ u
one_sector l s u orderly within other same_array same_sector =
    let places = same_from_place (place_of l.runs (s / l.extent)).extent (s % l.extent) (place_of l.runs (u / l.extent)).extent (u % l.extent) l.extent
    (mod_below s l.extent orderly.sized) (mod_below u l.extent orderly.sized) (omega (arith, same_sector)) in
    let extent : s / l.extent ≡ u / l.extent =
    orderly.apart (s / l.extent) (u / l.extent) (extent_below l s orderly within) (extent_below l u orderly other) same_array places.0 in
    sym (div-add-mod' s l.extent) ∙ ap (λ q. q * l.extent + s % l.extent) extent ∙ ap (λ r. u / l.extent * l.extent + r) places.1 ∙ div-add-mod' u l.extent

-- two tests with the same answer
same_test : (p q : Bool) → (p ≡ true → q ≡ true) → (q ≡ true → p ≡ true) → p ≡ q
same_test true q there back = sym (there refl)
same_test false true there back = back refl
same_test false false there back = refl

both : (p q : Bool) → (p && q) ≡ true → (p ≡ true) × (q ≡ true)
both true q e = (refl, e)
both false q e = cc

and_both : (p q : Bool) → p ≡ true → q ≡ true → (p && q) ≡ true
and_both p q e f = rw (e, f) refl

-- a write to a sector of the volume is the write to its sector below, and to no other
appended_volume : (l : Linear) (a : RackView) (d s : ℕ) (value : List ℕ) → IsOrderly l → d < 1 → s < sectors_in l → (e u : ℕ) → e < 1 → u < sectors_in l
    → appended a.held (array_of l s) (sector_of l s) value (array_of l u) (sector_of l u) ≡ appended (volume_of l a).held d s value e u
appended_volume l a d s value orderly one within e u other_one other =
    let held : Values = a.held (array_of l u) (sector_of l u) in
    ap (λ test. if test then append held value else held)
    (same_test ((array_of l u == array_of l s) && (sector_of l u == sector_of l s)) ((e == d) && (u == s))
    (λ is.
    let tests : ((array_of l u == array_of l s) ≡ true) × ((sector_of l u == sector_of l s) ≡ true) = both _ _ is in
    and_both _ _ (eq-eqb e d (omega arith)) (eq-eqb u s (one_sector l u s orderly other within (eqb-true _ _ tests.0) (eqb-true _ _ tests.1))))
    (λ is.
    let tests : ((e == d) ≡ true) × ((u == s) ≡ true) = both _ _ is in
    let same : u ≡ s = eqb-true u s tests.1 in
    and_both _ _ (eq-eqb (array_of l u) (array_of l s) (ap (array_of l) same)) (eq-eqb (sector_of l u) (sector_of l s) (ap (sector_of l) same))))

-- the stops of a write
write_stops : {l : Linear} {a b : RackView} (d s : ℕ) (value : List ℕ) → IsOrderly l → IsInside l b → d < 1 → s < sectors_in l
    → Leaves a b (IsPick a b (appended a.held (array_of l s) (sector_of l s) value))
    → Leaves (volume_of l a) (volume_of l b) (IsPick (volume_of l a) (volume_of l b) (appended (volume_of l a).held d s value))
write_stops {l} {a} {b} d s value orderly inside one within =
    leaves_volume (IsPick a b (appended a.held (array_of l s) (sector_of l s) value)) (IsPick (volume_of l a) (volume_of l b) (appended (volume_of l a).held d s value))
    (pick_volume (appended a.held (array_of l s) (sector_of l s) value) (appended (volume_of l a).held d s value) orderly inside
    (λ e u other_one other. appended_volume l a d s value orderly one within e u other_one other))

pub write_volume : {l : Linear} {a b : RackView} (d s : ℕ) (value : List ℕ) → IsOrderly l → IsInside l a → d < 1 → s < sectors_in l
    → Writes a b (array_of l s) (sector_of l s) value {X = Unit {0}} (Ok tt)
    → Writes (volume_of l a) (volume_of l b) d s value {X = Unit {0}} (Ok tt)
write_volume {l} {a} {b} d s value orderly inside one within w = record {
  stays = stays_volume inside w.stays;
  cause = record { served = w.cause.served; gone = tt; spent = w.cause.spent };
  stops = λ traced. write_stops d s value orderly (inside_still w.stays inside) one within (w.stops traced);
  done = λ e u live.
      subst (λ h. Keeps h (b.held (array_of l u) (sector_of l u))) (appended_volume l a d s value orderly one within e u live.disk live.sector)
      (w.done (array_of l u) (sector_of l u) (live_below orderly (inside_still w.stays inside) live));
  failed = tt;
}

pub unwritten_volume : {l : Linear} {a b : RackView} (d s : ℕ) (value : List ℕ) (gone : Gone) → IsOrderly l → IsInside l a → d < 1 → s < sectors_in l
    → Writes a b (array_of l s) (sector_of l s) value {X = Unit {0}} (Err gone)
    → Writes (volume_of l a) (volume_of l b) d s value {X = Unit {0}} (Err (record { disk = d }))
unwritten_volume {l} {a} {b} d s value gone orderly inside one within w =
    let array = array_below l a s orderly inside within in
    let arrays = inside.arrays in
    record {
      stays = stays_volume inside w.stays;
      cause = record { served = tt; gone = (refl, rose_volume l d (array_of l s) w.stays (omega arith) w.cause.gone.1); spent = w.cause.spent };
      stops = λ traced. write_stops d s value orderly (inside_still w.stays inside) one within (w.stops traced);
      done = tt;
      failed = λ e u live.
          elim (w.failed (array_of l u) (sector_of l u) (live_below orderly (inside_still w.stays inside) live)) [
            | inl before ↦ inl before
            | inr after ↦
                inr (subst (λ h. Keeps h (b.held (array_of l u) (sector_of l u))) (appended_volume l a d s value orderly one within e u live.disk live.sector) after)
          ];
    }

-- ---- syncs

pub sync_volume : {l : Linear} {a b : RackView} (d : ℕ) → IsOrderly l → IsInside l a
    → SyncsAll a b l.arrays {X = Unit {0}} (Ok tt)
    → Syncs (volume_of l a) (volume_of l b) d {X = Unit {0}} (Ok tt)
sync_volume {l} {a} {b} d orderly inside y = record {
  stays = stays_volume inside y.stays;
  gone = tt;
  steady = y.steady;
  keeps = keeps_volume orderly (inside_still y.stays inside) y.keeps;
  done = λ s v live leaves.
      y.done (array_of l s) (sector_of l s) v (array_below l a s orderly inside live.sector) (live_below orderly (inside_still y.stays inside) live) leaves;
}

pub unsynced_volume : {l : Linear} {a b : RackView} (d : ℕ) (gone : Gone) → IsOrderly l → IsInside l a
    → SyncsAll a b l.arrays {X = Unit {0}} (Err gone)
    → Syncs (volume_of l a) (volume_of l b) d {X = Unit {0}} (Err (record { disk = d }))
unsynced_volume {l} {a} {b} d gone orderly inside y =
    let array = y.gone.0 in
    let arrays = inside.arrays in
    record {
      stays = stays_volume inside y.stays;
      gone = (refl, rose_volume l d gone.disk y.stays (omega arith) y.gone.1);
      steady = y.steady;
      keeps = keeps_volume orderly (inside_still y.stays inside) y.keeps;
      done = tt;
    }
