-- The flat array that a volume holds after calls in which its arrays, or its map, get longer.
use Rattle.std.proofs.Common.{◌≡◌, ℕ, ◌<◌, ◌≤◌, Bool, false, List, refl, sym, subst, ◌∙◌, inl, inr, arith, lt-ltb}
use Rattle.std.proofs.lemmas.Bool.{cases_lt, le-ltb}
use Rattle.rack.specs.Joins.{keeps_then}
use Rattle.rack.specs.Seen.{Image, RackView}
use Rattle.rack.specs.Values.{Keeps, MayLeave}
use Rattle.flat_array.specs.Array.{FlatArray}
use Rattle.lvm_group.specs.Laws.{shows}
use Rattle.lvm_group.specs.Runs.{array_of, Linear, sector_of, sectors_in}
use Rattle.lvm_group.specs.Shown.{contents_of, volume_of}
use Rattle.transition_laws.specs.Growth.{KeepsOldSectors}
use Rattle.volume_laws.specs.Lengthening.{GoesOn, HoldsArray, HoldsZeros, lengthened, PicksLive, TellsArrays}

-- ---- a disk that stays as long

-- It holds the array that it held,
pub holds_still : (x y : RackView) (f : FlatArray) → KeepsOldSectors 1 x y → y.sectors 0 ≡ x.sectors 0 → HoldsArray x f → HoldsArray y f
holds_still x y f keeps same holds = record {
  told = λ s low alive. keeps.told 0 (omega arith) (holds.told s low (keeps.spent 0 s (omega arith) (subst (λ n. s < n) holds.size low) alive));
  size = holds.size ∙ sym same;
  values = λ s low alive.
      let inside : s < x.sectors 0 = subst (λ n. s < n) holds.size low in
      let was = keeps.spent 0 s (omega arith) inside alive in
      keeps_then (f.values s) (x.held 0 s) (y.held 0 s) (holds.values s low was) (keeps.held 0 s (omega arith) (holds.told s low was) inside alive);
}

-- and what a stop in the calls leaves takes one of its values in each sector that isn't spent after them.
pub picks_still : (x y : RackView) (f : FlatArray) → KeepsOldSectors 1 x y → x.traced → HoldsArray x f → (k : ℕ) (c : Image) → x.clock < k → k ≤ y.clock → y.stops k c
    → PicksLive (y.spent 0) f (c 0)
picks_still x y f keeps traced holds k c since until stopped s low alive =
    let inside : s < x.sectors 0 = subst (λ n. s < n) holds.size low in
    let was = keeps.spent 0 s (omega arith) inside alive in
    (holds.values s low was).within (c 0 s) ((keeps.stops traced 0 s (omega arith) (holds.told s low was) inside alive).new k c since until stopped)

-- ---- calls in a row

-- an array that gets longer twice
pub lengthened_twice : (size most : ℕ) (f : FlatArray) → f.size ≤ size → lengthened most (lengthened size f) ≡ lengthened most f
lengthened_twice size most f more = λ i. record { size = most; values = λ s. value s i } where
  value : (s : ℕ) → (lengthened most (lengthened size f)).values s ≡ (lengthened most f).values s
  value s = elim (cases_lt s size) [
    | inl inside ↦ rw (lt-ltb s size inside) refl
    | inr past ↦ rw (le-ltb s size past, le-ltb s f.size (omega arith)) refl
  ]

-- contents that take values of a longer array take those of the array in its own sectors
pub picks_first : (spent : ℕ → Bool) (size : ℕ) (f : FlatArray) (contents : ℕ → List ℕ) → f.size ≤ size → PicksLive spent (lengthened size f) contents → PicksLive spent f contents
picks_first spent size f contents more picks s low alive = rw (lt-ltb s f.size low) at (picks s (omega arith) alive)

-- what a longer map shows of an old sector
shown_longer : (l m : Linear) (c : Image) → GoesOn l m → (s : ℕ) → s < sectors_in l → contents_of m c 0 s ≡ c (array_of l s) (sector_of l s)
shown_longer l m c goes s inside = let at = goes.places s inside in let long = goes.longer in shows m c 0 s (omega arith) ∙ rw (at.0, at.1) refl

-- Contents that take an array's values by a map take them by one that goes on with it.
pub picks_longer : (l m : Linear) (spent : ℕ → Bool) (f : FlatArray) (c : Image) → GoesOn l m → f.size ≤ sectors_in l → PicksLive spent f (contents_of l c 0)
    → PicksLive spent f (contents_of m c 0)
picks_longer l m spent f c goes small picks s low alive =
    let inside : s < sectors_in l = omega arith in
    subst (MayLeave (f.values s)) (shows l c 0 s inside ∙ sym (shown_longer l m c goes s inside)) (picks s low alive)

-- ---- a volume that goes on

-- All arrays of the longer map are told, where those that only it has are, and the others too once a new sector can be had.
pub tells_arrays : (l m : Linear) (a b : RackView) → KeepsOldSectors 1 (volume_of l a) (volume_of l b) → ((n : ℕ) → l.arrays ≤ n → n < m.arrays → b.told n)
    → ((s : ℕ) → sectors_in l ≤ s → s < sectors_in m → (volume_of m b).spent 0 s ≡ false → (volume_of l b).told 0) → TellsArrays l m a b
tells_arrays l m a b keeps more others = record {
  old = λ told. all (keeps.told 0 (omega arith) told);
  new = λ s past within alive. all (others s past within alive);
}
  where
    all : (volume_of l b).told 0 → (volume_of m b).told 0
    all told n low = elim (cases_lt n l.arrays) [ inl old ↦ told n old | inr new ↦ more n new low ]

module _ (l m : Linear) (a b : RackView) (f : FlatArray) (goes : GoesOn l m) (keeps : KeepsOldSectors 1 (volume_of l a) (volume_of l b)) (holds : HoldsArray (volume_of l a) f) where
  still : HoldsArray (volume_of l b) f
  still = holds_still (volume_of l a) (volume_of l b) f keeps refl holds

  -- an old sector can be had by the new map where it can by the old one
  alive_by : (s : ℕ) → s < sectors_in l → (volume_of m b).spent 0 s ≡ false → (volume_of l b).spent 0 s ≡ false
  alive_by s inside alive = let at = goes.places s inside in rw (at.0, at.1) at alive

  -- The longer volume holds the array with zeros behind it, where what it gets holds zeros.
  pub lengthens : TellsArrays l m a b → HoldsZeros (volume_of m b) 0 (sectors_in l) → HoldsArray (volume_of m b) (lengthened (sectors_in m) f)
  lengthens tells zero = record {
    told = λ s low alive. elim (cases_lt s (sectors_in l)) [
      | inl old ↦ tells.old (holds.told s (subst (λ n. s < n) (sym holds.size) old) (keeps.spent 0 s (omega arith) old (alive_by s old alive)))
      | inr new ↦ tells.new s new low alive
    ];
    size = refl;
    values = λ s low alive. elim (cases_lt s f.size) [
      | inl old ↦
          let inside : s < sectors_in l = subst (λ n. s < n) holds.size old in
          rw (lt-ltb s f.size old) (kept s old inside alive)
      | inr new ↦ rw (le-ltb s f.size new) (zero s (subst (λ n. n ≤ s) holds.size new) low alive)
    ];
  }
    where
      kept : (s : ℕ) → s < f.size → s < sectors_in l → (volume_of m b).spent 0 s ≡ false → Keeps (f.values s) ((volume_of m b).held 0 s)
      kept s old inside alive = let at = goes.places s inside in rw (at.0, at.1) (still.values s old (alive_by s inside alive))

  -- What a stop in the calls leaves of the arrays takes, by the new map, one of the array's values in each sector that it had.
  pub picks_old : a.traced → (k : ℕ) (c : Image) → a.clock < k → k ≤ b.clock → b.stops k c → PicksLive ((volume_of m b).spent 0) f (contents_of m c 0)
  picks_old traced k c since until stopped s low alive =
      let inside : s < sectors_in l = subst (λ n. s < n) holds.size low in
      picks_longer l m ((volume_of l b).spent 0) f c goes (omega (arith, holds.size))
      (picks_still (volume_of l a) (volume_of l b) f keeps traced holds k (contents_of l c) since until (c, stopped, λ d t. refl)) s low (alive_by s inside alive)
