-- Targets written one after the other.
use Rattle.std.proofs.Common.{◌≡◌, ◌⊎◌, ℕ, zero, suc, ◌<◌, ◌≤◌, true, false, List, [], ◌∷◌, ◌++◌, Option, Some, None, Result, Ok, Err, refl, sym, subst, ◌∙◌, inl, inr, arith, append-nil}
use Rattle.std.specs.Prelude.{OnOk}
use Rattle.std.specs.Option.{option_or}
use Rattle.std.proofs.lemmas.Bool.{cases_eq, cases_lt, false≢true}
use Rattle.rack.specs.declared.Gone.{Gone}
use Rattle.rack.specs.Seen.{RackView, Rose, SameRack}
use Rattle.rack.specs.Calls.{Writes}
use Rattle.rack.specs.Joins.{live_first, live_second, rose_later}
use Rattle.rack.specs.Sequences.{IsPayload, WritesOnly}
use Rattle.rack.specs.Targets.{Target, target, look}
use Rattle.rack.proofs.Phases.{look-append, payload_first, payload_second, payload_none, phase_none, phase_write, phase_refused}
use Rattle.rack.proofs.Writing.{only_quiet, only_weaker, only_then}
use Rattle.lvm_group.specs.Sequences.{AreSingle, SyncsAll}
use Rattle.lvm_group.specs.Writing.{Puts, targets_to}

-- nothing was
pub puts_none : (a : RackView) → a.fit → Puts a a [] {X = Unit {0}} (Ok tt)
puts_none a fit =
    let phase = phase_none a (λ d. false) fit in
    record { only = phase.only; gone = tt; spent = λ steady. tt; done = λ d s w live at. phase.last d s w live refl at }

-- one was
pub puts_one : {a b : RackView} (disk sector : ℕ) (v : List ℕ) (result : Result (Unit {0}) Gone) → disk < a.disks → Writes a b disk sector v result → Puts a b (target disk sector v ∷ []) result
puts_one {a} {b} disk sector v (Ok done) below writes =
    let phase = phase_write (λ d. false) disk sector v writes in
    record { only = phase.only; gone = tt; spent = λ steady. tt; done = λ d s w live at. phase.last d s w live refl at }
puts_one {a} {b} disk sector v (Err gone) below writes =
    let phase = phase_refused (λ d. false) disk sector v gone writes in
    record {
      only = phase.only;
      gone = (subst (λ d. d < a.disks) (sym writes.cause.gone.0) below, subst (λ d. Rose (a.faults d) (b.faults d)) (sym writes.cause.gone.0) writes.cause.gone.1);
      spent = λ steady. (sector, subst (λ d. b.spent d sector ≡ true) (sym writes.cause.gone.0) (writes.cause.spent steady));
      done = tt;
    }

which : (second first : Option (List ℕ)) (w : List ℕ) → option_or second first ≡ Some w → (second ≡ Some w) ⊎ ((second ≡ None) × (first ≡ Some w))
which None first w is = inr (refl, is)
which (Some v) first w is = inl is

both_only : {a b c : RackView} (xs ys : List Target) → WritesOnly a b (IsPayload xs) → WritesOnly b c (IsPayload ys) → WritesOnly a c (IsPayload (xs ++ ys))
both_only xs ys one two =
    only_then (IsPayload (xs ++ ys)) (only_weaker (IsPayload xs) (IsPayload (xs ++ ys)) (λ d s v. payload_first xs ys d s v) one)
    (only_weaker (IsPayload ys) (IsPayload (xs ++ ys)) (λ d s v. payload_second xs ys d s v) two)

-- some, and then others
pub puts_then : {a b c : RackView} (xs ys : List Target) (result : Result (Unit {0}) Gone) → Puts a b xs {X = Unit {0}} (Ok tt) → Puts b c ys result → Puts a c (xs ++ ys) result
puts_then {a} {b} {c} xs ys (Ok done) one two = record {
  only = both_only xs ys one.only two.only;
  gone = tt;
  spent = λ steady. tt;
  done = λ d s w live at. elim (which (look ys d s) (look xs d s) w (sym (look-append xs ys d s) ∙ at)) [
    | inl second ↦ two.done d s w (live_second one.only.stays live) second
    | inr first ↦
        (two.only.others d s (live_second one.only.stays live) (payload_none ys d s first.0)).current ∙ one.done d s w (live_first two.only.stays live) first.1
  ];
}
puts_then {a} {b} {c} xs ys (Err gone) one two = record {
  only = both_only xs ys one.only two.only;
  gone = (subst (λ n. gone.disk < n) one.only.stays.disks two.gone.0, rose_later a b c gone.disk one.only.stays two.gone.1);
  spent = λ steady. two.spent (one.only.stays.steady steady);
  done = tt;
}

less_than : (some all : ℕ) → suc some ≤ suc all → (suc some ≡ suc all → ⊥) → suc some ≤ all
less_than some all below differ = elim (cases_lt some all) [
  | inl less ↦ omega arith
  | inr over ↦ absurd (differ (omega arith))
]

-- a refusal among the first ones
pub puts_cut : {a b : RackView} (xs ys : List Target) (gone : Gone) → Puts a b xs {X = Unit {0}} (Err gone) → Puts a b (xs ++ ys) {X = Unit {0}} (Err gone)
puts_cut xs ys gone one = record {
  only = only_weaker (IsPayload xs) (IsPayload (xs ++ ys)) (λ d s v. payload_first xs ys d s v) one.only;
  gone = one.gone;
  spent = one.spent;
  done = tt;
}

-- a sync of the first disks
pub puts_synced : {a b : RackView} (disks : ℕ) (result : Result (Unit {0}) Gone) → disks ≤ a.disks → SyncsAll a b disks result → Puts a b [] result
unfolding look
puts_synced disks (Ok done) below syncs = record { only = only_quiet (IsPayload []) syncs.stays syncs.keeps; gone = tt; spent = λ steady. tt; done = λ d s w live at. cc }
puts_synced disks (Err gone) below syncs = record {
  only = only_quiet (IsPayload []) syncs.stays syncs.keeps;
  gone = (let one = syncs.gone.0 in omega arith, syncs.gone.1);
  spent = λ steady. let fails : false ≡ true = syncs.steady steady in absurd (false≢true fails);
  done = tt;
}

-- what was to be written is more than what was
pub payload_some : (f : ℕ → List Target) (some all : ℕ) → some ≤ all → (d s : ℕ) (v : List ℕ) → IsPayload (targets_to f some) d s v → IsPayload (targets_to f all) d s v
unfolding targets_to
payload_some f zero all below d s v has = absurd has
payload_some f (suc some) zero below d s v has = absurd (omega arith)
payload_some f (suc some) (suc all) below d s v has = elim (cases_eq (suc some) (suc all)) [
  | inl same ↦ subst (λ n. IsPayload (targets_to f n) d s v) same has
  | inr less ↦ payload_first (targets_to f all) (f all) d s v (payload_some f (suc some) all (less_than some all below less) d s v has)
]

-- targets in a row of which the first ones were written, and one was refused
pub puts_refused : {a b c : RackView} (f : ℕ → List Target) (xs : List Target) (done all : ℕ) (gone : Gone) → done < all → xs ≡ f done → Puts a b (targets_to f done) {X = Unit {0}} (Ok tt)
    → Puts b c xs {X = Unit {0}} (Err gone) → Puts a c (targets_to f all) {X = Unit {0}} (Err gone)
unfolding targets_to
puts_refused {a} {b} {c} f xs done all gone less is one two =
    let whole : Puts a c (targets_to f done ++ f done) {X = Unit {0}} (Err gone) =
    puts_then (targets_to f done) (f done) (Err gone) one (subst (λ (ys : List Target). Puts b c ys {X = Unit {0}} (Err gone)) is two) in
    record {
      only = only_weaker (IsPayload (targets_to f (suc done))) (IsPayload (targets_to f all)) (λ d s v. payload_some f (suc done) all (omega arith) d s v) whole.only;
      gone = whole.gone;
      spent = whole.spent;
      done = tt;
    }

-- one more of them
pub puts_more : {a b c : RackView} (f : ℕ → List Target) (xs : List Target) (done more : ℕ) → more ≡ suc done → xs ≡ f done → Puts a b (targets_to f done) {X = Unit {0}} (Ok tt)
    → Puts b c xs {X = Unit {0}} (Ok tt) → Puts a c (targets_to f more) {X = Unit {0}} (Ok tt)
unfolding targets_to
puts_more {a} {b} {c} f xs done more next is one two =
    subst (λ n. Puts a c (targets_to f n) {X = Unit {0}} (Ok tt)) (sym next)
    (puts_then (targets_to f done) (f done) (Ok tt) one (subst (λ (ys : List Target). Puts b c ys {X = Unit {0}} (Ok tt)) is two))

pub puts_start : (a : RackView) (f : ℕ → List Target) → a.fit → Puts a a (targets_to f 0) {X = Unit {0}} (Ok tt)
unfolding targets_to
puts_start a f fit = puts_none a fit

-- all of them
pub puts_all : {a b : RackView} (f : ℕ → List Target) (done all : ℕ) → done ≡ all → Puts a b (targets_to f done) {X = Unit {0}} (Ok tt) → Puts a b (targets_to f all) {X = Unit {0}} (Ok tt)
puts_all {a} {b} f done all same puts = subst (λ n. Puts a b (targets_to f n) {X = Unit {0}} (Ok tt)) same puts

-- a sync behind targets
pub puts_quiet : {a b c : RackView} (xs : List Target) (disks : ℕ) (result : Result (Unit {0}) Gone) → disks ≤ a.disks → Puts a b xs {X = Unit {0}} (Ok tt) → SyncsAll b c disks result → Puts a c xs result
puts_quiet {a} {b} {c} xs disks result below one syncs =
    subst (λ (ys : List Target). Puts a c ys result) (append-nil xs)
    (puts_then xs [] result one (puts_synced disks result (subst (λ n. disks ≤ n) (sym one.only.stays.disks) below) syncs))

-- what is single after a later call
pub single_later : (a b c : RackView) (disks : ℕ) → SameRack a b → AreSingle b c disks → AreSingle a c disks
single_later a b c disks stays single = λ disk sector v below live may. single disk sector v below (live_second stays live) may

pub single_then : (a b c : RackView) (disks : ℕ) (result : Result (Unit {0}) Gone) → SameRack a b → OnOk result (AreSingle b c disks) → OnOk result (AreSingle a c disks)
single_then a b c disks (Ok done) stays single = single_later a b c disks stays single
single_then a b c disks (Err gone) stays single = tt
