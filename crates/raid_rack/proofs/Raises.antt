-- How far a call raises the numbers that end: those of the log, of states and of superblocks.
use Rattle.std.proofs.Common.{◌≡◌, ℕ, ◌+◌, ◌-◌, ◌*◌, ◌^◌, ◌<◌, ◌≤◌, Bool, if◌then◌else◌, List, [], ◌∷◌, length, sym, ap, subst, inl, inr, lt-ltb, le-ltb, arith}
use Rattle.std.proofs.lemmas.Bool.{cases_eq, cases_lt}
use Rattle.rack.specs.Seen.{RackView}
use Rattle.rack.specs.Several.{Several, Through}
use Rattle.array_model.specs.View.{View}
use Rattle.array_model.specs.Members.{Notes}
use Rattle.array_core.specs.Superblocks.{settled, raised}
use Rattle.array_core.specs.Settling.{Cleans as ArrayCleans, Settles}
use Rattle.array_core.specs.Writing.{WritesView, as_it_was, newly_marked}
use Rattle.raid_rack.specs.declared.arrays.RaidRack.{RaidRack}
use Rattle.raid_rack.specs.AllRuns.{IsOneCall}
use Rattle.raid_laws.specs.Raid.{Raid}
use Rattle.raid_rack.specs.RaidRack.{raid_in}
use Rattle.raid_laws.specs.Moves.{RaisesBy}
use Rattle.raid_laws.proofs.Changed.{called}

pub raises_none : (v : Raid) → RaisesBy 0 v v
raises_none v = record { number = omega arith; epoch = omega arith; events = λ n low. omega arith }

pub raises_more : (j k : ℕ) (v w : Raid) → j ≤ k → RaisesBy j v w → RaisesBy k v w
raises_more j k v w more one = record {
  number = let a = one.number in omega (arith, a, more);
  epoch = let a = one.epoch in omega (arith, a, more);
  events = λ n low. let a = one.events n low in omega (arith, a, more);
}

pub raises_then : (j k : ℕ) (v w z : Raid) → w.state.made ≡ v.state.made → RaisesBy j v w → RaisesBy k w z → RaisesBy (j + k) v z
raises_then j k v w z made one two = record {
  number = let a = one.number in let b = two.number in omega (arith, a, b);
  epoch = let a = one.epoch in let b = two.epoch in omega (arith, a, b);
  events = λ n low. let a = one.events n low in let b = two.events n (subst (λ i. n < i) (sym made) low) in omega (arith, a, b);
}

-- a call of array m alone
pub raises_one : (k : ℕ) (v : Raid) (f : ℕ → View) (number m : ℕ) → ((n : ℕ) → (n ≡ m → ⊥) → f n ≡ v.arrays n) → number ≤ v.number + k
    → (f m).truth.events ≤ (v.arrays m).truth.events + k → RaisesBy k v (called v f number)
raises_one k v f number m others more events = record {
  number = more;
  epoch = omega arith;
  events = λ n low.
      elim (cases_eq n m) [
        | inl same ↦ subst (λ j. (f j).truth.events ≤ (v.arrays j).truth.events + k) (sym same) events
        | inr apart ↦ let e = ap (λ (u : View). u.truth.events) (others n apart) in omega (arith, e)
      ];
}

-- one event more, or the last one
pub raised_up : (n : ℕ) → raised n ≤ n + 1
raised_up n = elim (cases_lt n (2 ^ 63 - 1)) [
  | inl room ↦ let e : raised n ≡ n + 1 = ap (λ (b : Bool). if b then n + 1 else n) (lt-ltb n (2 ^ 63 - 1) room) in omega (arith, e)
  | inr last ↦ let e : raised n ≡ n = ap (λ (b : Bool). if b then n + 1 else n) (le-ltb n (2 ^ 63 - 1) last) in omega (arith, e)
]

notes_events : (v w : View) (a b : RackView) → Notes v w a b → w.truth.events ≡ v.truth.events
notes_events v w a b notes = ap (λ t. t.events) notes.same.truth

pub notes_raise : (v w : View) (a b : RackView) → Notes v w a b → w.truth.events ≤ v.truth.events + 0
notes_raise v w a b notes = let e = notes_events v w a b notes in omega (arith, e)

pub settles_raise : (v w : View) (a b : RackView) → Settles v w a b → w.truth.events ≤ v.truth.events + 1
settles_raise v w a b settles =
    let e = ap (λ (u : View). u.truth.events) settles.truth in
    let f = notes_events v settles.synced a b settles.notes in
    let up = raised_up settles.synced.truth.events in
    omega (arith, e, f, up)

pub cleans_raise : (v w : View) (a b : RackView) → ArrayCleans v w a b → w.truth.events ≤ v.truth.events + 1
cleans_raise v w a b cleans =
    let first = notes_events v cleans.synced a b cleans.notes in
    elim cleans.either [
      | inl done ↦ let e = ap (λ (u : View). u.truth.events) done.same in omega (arith, e, first)
      | inr now ↦
          let e = notes_events (settled cleans.synced) w a b now.notes in
          let up = raised_up cleans.synced.truth.events in
          omega (arith, e, first, up)
    ]

pub writes_raise : (v w : View) (a b : RackView) → WritesView v w a b → w.truth.events ≤ v.truth.events + 1
writes_raise v w a b (as_it_was why notes) = let e = notes_events v w a b notes in omega (arith, e)
writes_raise v w a b (newly_marked whole fresh unmarked notes) =
    let e = ap (λ t. t.events) notes.same.truth in
    let up = raised_up v.truth.events in
    omega (arith, e, up)

-- ---- single calls

-- each raises by 18 at most
through_raises : {R : Type 0} (x : RaidRack R) (calls : List (RaidRack R)) (y : RaidRack R)
    → Through (λ a b. IsOneCall (raid_in a) (raid_in b)) x calls y
    → RaisesBy (18 * length calls) (raid_in x) (raid_in y)
through_raises x [] y same = subst (λ r. RaisesBy 0 (raid_in x) (raid_in r)) (sym same) (raises_none (raid_in x))
through_raises x (z ∷ calls) y through =
    let rest = through_raises z calls y through.1 in
    raises_more (18 + 18 * length calls) (18 * length (z ∷ calls)) (raid_in x) (raid_in y) (omega arith)
    (raises_then 18 (18 * length calls) (raid_in x) (raid_in z) (raid_in y) through.0.made through.0.raises rest)

-- so many at most, in a row
pub several_raise : {R : Type 0} (most k : ℕ) (x y : RaidRack R) → 18 * most ≤ k → Several (λ a b. IsOneCall (raid_in a) (raid_in b)) most x y
    → RaisesBy k (raid_in x) (raid_in y)
several_raise most k x y enough several =
    let few = several.few in
    raises_more (18 * length several.calls) k (raid_in x) (raid_in y) (omega (arith, few, enough)) (through_raises x several.calls y several.through)
