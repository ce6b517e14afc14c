-- A call of the rack of slices writes a sector of a slice at most, and calls that only read the slices only read the disks.
use Rattle.std.proofs.Common.{◌≡◌, ◌≢◌, ◌⊎◌, ℕ, zero, suc, ◌+◌, ◌-◌, ◌<◌, ◌≤◌, if◌then◌else◌, List, [], Ok, Err, refl, sym, ap, subst, ◌∙◌, inl, inr, arith, lt-ltb}
use Rattle.std.proofs.lemmas.Bool.{cases_eq, cases_lt}
use Rattle.rack.specs.declared.Gone.{Gone}
use Rattle.rack.specs.Values.{MayLeave, Keeps}
use Rattle.rack.specs.Seen.{Image, RackView, IsLive, SameRack}
use Rattle.rack.specs.Calls.{KeepsAll, Writes}
use Rattle.rack.specs.Sequences.{OnlyReads, WritesOnly}
use Rattle.rack.proofs.Writing.{only_quiet, only_written, only_refused}
use Rattle.slice_rack.specs.Slices.{Slices, disk_of, first_of, sectors_of}
use Rattle.slice_rack.specs.Sliced.{sliced, slices_of}
use Rattle.slice_rack.specs.Runs.{IsSliced, Runs}

-- ---- one call

pub runs_quiet : (t : Slices) (a b : RackView) (own : Type 0) → own → SameRack a b → KeepsAll a b → Runs t t a b own
runs_quiet t a b own is stays keeps = record { tables = refl; below = is; apart = λ fit inside. only_quiet (IsSliced t) stays keeps }

pub runs_written : (t : Slices) (a b : RackView) (own : Type 0) (d s : ℕ) (v : List ℕ) → own → s < sectors_of t d
    → Writes a b (disk_of t d) (first_of t d + s) v {X = Unit {0}} (Ok tt) → Runs t t a b own
runs_written t a b own d s v is there writes = record {
  tables = refl;
  below = is;
  apart = λ fit inside.
      only_written (IsSliced t) (disk_of t d) (first_of t d + s) v (record { slice = d; at = s; within = there; disk_is = refl; sector_is = refl }) writes;
}

pub runs_refused : (t : Slices) (a b : RackView) (own : Type 0) (d s : ℕ) (v : List ℕ) (gone : Gone) → own → s < sectors_of t d
    → Writes a b (disk_of t d) (first_of t d + s) v {X = Unit {0}} (Err gone) → Runs t t a b own
runs_refused t a b own d s v gone is there writes = record {
  tables = refl;
  below = is;
  apart = λ fit inside.
      only_refused (IsSliced t) (disk_of t d) (first_of t d + s) v gone (record { slice = d; at = s; within = there; disk_is = refl; sector_is = refl }) writes;
}

-- ---- reads

-- a sector of a disk is one of a slice, or of none
abbrev IsIn : Slices → (d s k : ℕ) → Type 0
IsIn t d s k = (d ≡ disk_of t k) × (first_of t k ≤ s) × (s < first_of t k + sectors_of t k)

of_first : (t : Slices) (d s n : ℕ) → ((k : ℕ) × IsIn t d s k) ⊎ ((k : ℕ) → k < n → IsIn t d s k → ⊥)
of_first t d s zero = inr (λ k below here. absurd (omega (arith, below)))
of_first t d s (suc n) =
    elim (of_first t d s n) [
      | inl found ↦ inl found
      | inr none ↦ elim (here (cases_eq d (disk_of t n)) (cases_lt s (first_of t n)) (cases_lt s (first_of t n + sectors_of t n))) [
        | inl is ↦ inl (n, is)
        | inr not_here ↦ inr (λ k below is. elim (cases_lt k n) [
          | inl early ↦ none k early is
          | inr last ↦ let same : k ≡ n = omega (arith, below, last) in not_here (subst (λ j. IsIn t d s j) same is)
        ])
      ]
    ]
  where
    here : (d ≡ disk_of t n) ⊎ (d ≢ disk_of t n) → (s < first_of t n) ⊎ (first_of t n ≤ s)
        → (s < first_of t n + sectors_of t n) ⊎ (first_of t n + sectors_of t n ≤ s) → IsIn t d s n ⊎ (IsIn t d s n → ⊥)
    here (inr other) low high = inr (λ is. other is.0)
    here (inl disk) (inl before) high = inr (λ is. absurd (omega (arith, before, is.1)))
    here (inl disk) (inr from) (inl within) = inl (disk, from, within)
    here (inl disk) (inr from) (inr past) = inr (λ is. absurd (omega (arith, past, is.2)))

-- where there are no slices past the last one, it is decided
pub sliced_or : (t : Slices) (d s : ℕ) → ((k : ℕ) → 272 ≤ k → sectors_of t k ≡ 0)
    → ((is : (v : List ℕ) → IsSliced t d s v) × ((v : List ℕ) → (is v).slice < 272)) ⊎ ((v : List ℕ) → IsSliced t d s v → ⊥)
sliced_or t d s none_past =
    elim (of_first t d s 272) [
      | inl found ↦
          let is = found.1 in
          let low : found.0 < 272 =
          elim (cases_lt found.0 272) [ inl below ↦ below | inr past ↦ absurd (omega (arith, is.1, is.2, none_past found.0 past)) ] in
          inl (
            λ v. record { slice = found.0; at = s - first_of t found.0; within = omega (arith, is.1, is.2); disk_is = is.0; sector_is = omega (arith, is.1) },
            λ v. low,
          )
      | inr none ↦
          inr (λ v is. elim (cases_lt is.slice 272) [
            | inl early ↦ none is.slice early (is.disk_is, omega (arith, is.sector_is), omega (arith, is.sector_is, is.within))
            | inr past ↦ absurd (omega (arith, is.within, none_past is.slice past))
          ])
    ]

-- a live sector of a slice
live_above : (t : Slices) (a b : RackView) (d s : ℕ) (v : List ℕ) → (is : IsSliced t d s v) → is.slice < 272 → IsLive a b d s → IsLive (slices_of t a) (slices_of t b) is.slice is.at
live_above t a b d s v is few live = record {
  disk = few;
  sector = is.within;
  is_told = subst (λ n. a.told n) is.disk_is live.is_told;
  unspent = ap (λ n. b.spent n (first_of t is.slice + is.at)) (sym is.disk_is) ∙ ap (b.spent d) (sym is.sector_is) ∙ live.unspent;
}

-- calls that write slices alone, and none of these
pub only_reads_below : (t : Slices) (a b : RackView) → ((k : ℕ) → 272 ≤ k → sectors_of t k ≡ 0)
    → WritesOnly a b (IsSliced t) → OnlyReads (slices_of t a) (slices_of t b) → OnlyReads a b
only_reads_below t a b none_past only reads = record {
  stays = only.stays;
  keeps = record {
    held = λ d s live. elim (sliced_or t d s none_past) [
      | inr none ↦ only.others d s live none
      | inl some ↦ kept d s (some.0 (b.held d s).current) (some.1 (b.held d s).current) live
    ];
    stops = λ traced. record {
      later = (only.stops traced).later;
      kept = (only.stops traced).kept;
      past = (only.stops traced).past;
      new = λ k c after upto left d s live. elim (sliced_or t d s none_past) [
        | inr none ↦ elim ((only.stops traced).new k c after upto left d s live) [ inl old ↦ old | inr is ↦ absurd (none (c d s) is) ]
        | inl some ↦ picked k c d s traced after upto left (some.0 (c d s)) (some.1 (c d s)) live
      ];
    };
  };
}
  where
    kept : (d s : ℕ) → (is : IsSliced t d s (b.held d s).current) → is.slice < 272 → IsLive a b d s → Keeps (a.held d s) (b.held d s)
    kept d s is few live =
        subst (λ e. Keeps (a.held e s) (b.held e s)) (sym is.disk_is)
        (subst (λ u. Keeps (a.held (disk_of t is.slice) u) (b.held (disk_of t is.slice) u)) (sym is.sector_is)
        (reads.keeps.held is.slice is.at (live_above t a b d s (b.held d s).current is few live)))

    picked : (k : ℕ) (c : Image) (d s : ℕ) → a.traced → a.clock < k → k ≤ b.clock → b.stops k c → (is : IsSliced t d s (c d s)) → is.slice < 272 → IsLive a b d s
        → MayLeave (a.held d s) (c d s)
    picked k c d s traced after upto left is few live =
        let at : MayLeave (a.held (disk_of t is.slice) (first_of t is.slice + is.at)) (sliced t c is.slice is.at) =
        (reads.keeps.stops traced).new k (sliced t c) after upto (c, left, λ e u. refl) is.slice is.at (live_above t a b d s (c d s) is few live) in
        let shown : sliced t c is.slice is.at ≡ c (disk_of t is.slice) (first_of t is.slice + is.at) =
        ap (λ x. if x then c (disk_of t is.slice) (first_of t is.slice + is.at) else []) (lt-ltb is.at (sectors_of t is.slice) is.within) in
        subst (λ e. MayLeave (a.held e s) (c e s)) (sym is.disk_is)
        (subst (λ u. MayLeave (a.held (disk_of t is.slice) u) (c (disk_of t is.slice) u)) (sym is.sector_is)
        (subst (λ v. MayLeave (a.held (disk_of t is.slice) (first_of t is.slice + is.at)) v) shown at))
