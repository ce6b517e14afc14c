-- The answers of a row call, and which slices it leaves alone.
use Rattle.std.proofs.Common.{◌≡◌, ◌≢◌, ℕ, zero, suc, ◌<◌, ◌≤◌, Bool, true, false, not, List, [], ◌++◌, length, slice_get, Option, Result, Some, None, Ok, Err, is_ok, OnOk, IfErr, refl, sym, ap, subst, ◌∙◌, inl, inr, arith}
use Rattle.std.proofs.lemmas.Bool.{both_ways}
use Rattle.std.proofs.lemmas.List.{length-append}
use Rattle.std.specs.Option.{option_map_or}
use Rattle.rack.specs.Values.{Keeps}
use Rattle.rack.specs.Seen.{RackView, IsLive}
use Rattle.rack.specs.Targets.{Target, look}
use Rattle.rack.specs.Sequences.{OnlyReads}
use Rattle.array_image.specs.Places.{log_slice, place_of, slice_of}
use Rattle.log_laws.specs.View.{LogView, names}
use Rattle.log_laws.specs.Commits.{CommitCall}
use Rattle.array_model.specs.declared.Seat.{Seat}
use Rattle.array_model.specs.declared.Seat.TheVariants.{Whole, Missing, Rebuilding}
use Rattle.array_model.specs.View.{View, IsArray, is_missing_seat}
use Rattle.array_model.proofs.Looking.{look_payload}
use Rattle.array_core.specs.declared.Spent.{Spent}
use Rattle.array_core.specs.Staging.{AddsSupersOf}
use Rattle.array_core.specs.Writing.{KeepsElsewhere, was_there}
use Rattle.array_core.proofs.Elsewhere.{elsewhere_then, reads_elsewhere}
use Rattle.sync_laws.proofs.Logged.{AreOnMembers}
use Rattle.sync_laws.proofs.Owed.{none_or}
use Rattle.sync_laws.proofs.Supers.{supers_few}

-- an answer that is refused where a fact doesn't hold
pub not_ok : {X : Type 0} (lacks : Bool) (r : Result X Spent) → OnOk r (lacks ≡ false) → lacks ≡ true → is_ok r ≡ false
not_ok lacks (Ok x) served is = absurd (both_ways lacks served is)
not_ok lacks (Err e) served is = refl

pub served_by : {X : Type 0} (was now : Bool) (r : Result X Spent) → now ≡ was → OnOk r (was ≡ false) → OnOk r (now ≡ false)
served_by was now (Ok x) same served = same ∙ served
served_by was now (Err e) same served = tt

pub refused_by : {X : Type 0} (was now : Bool) (m n : ℕ) (r : Result X Spent) → now ≡ was → m ≡ n → IfErr r (λ e. (e.sector ≡ m) × (was ≡ true)) → IfErr r (λ e. (e.sector ≡ n) × (now ≡ true))
refused_by was now m n (Ok x) same sector refused = tt
refused_by was now m n (Err e) same sector refused = (refused.0 ∙ sector, same ∙ refused.1)

-- ---- slices that it leaves alone

seat_was : (v : View) (n : ℕ) → slice_get v.seats n ≢ Some Missing → was_there false v n ≡ true
seat_was v n other = by (slice_get v.seats n) other
  where
    by : (o : Option Seat) → o ≢ Some Missing → option_map_or (λ seat. not (is_missing_seat seat)) o true ≡ true
    by None other = refl
    by (Some Whole) other = refl
    by (Some Missing) other = absurd (other refl)
    by (Some (Rebuilding to)) other = refl

pub commit_leaves : (v : View) (l : LogView) (on lost : List ℕ) (a b : RackView) → v.number < 16 → AreOnMembers v l.added → CommitCall l on lost a b
    → KeepsElsewhere false v on a b
commit_leaves v l on lost a b few members commit d t live other =
    let none : look l.added d t ≡ None =
    none_or (look l.added d t)
    (λ u is.
    let at = members d t u (look_payload l.added d t u is) in
    let disk = at.disk in
    elim other [
      | inl log ↦ (let slice = log.0 in omega (arith, slice, disk, few))
      | inr apart ↦ apart.1 at.position at.low (seat_was v at.position at.there) at.disk
    ]) in
    elim other [
      | inr apart ↦ commit.apart d t live (λ part. apart.0 part.0) none
      | inl log ↦ by t refl log none
    ]
  where
    by : (i : ℕ) → t ≡ i → (slice_of d ≡ 0) × (names on (place_of d) ≡ false) → look l.added d t ≡ None → Keeps (a.held d t) (b.held d t)
    by zero first log none = commit.apart d t live (λ part. let later = part.1 in absurd (omega (arith, first, later))) none
    by (suc i) later log none =
        let own : log_slice (place_of d) ≡ d = (let slice = log.0 in omega (arith, slice)) in
        subst (λ e. Keeps (a.held e t) (b.held e t)) own
        (commit.around (place_of d) t (subst (λ e. IsLive a b e t) (sym own) live) (omega (arith, later)) (inl log.1))

pub row_elsewhere : (v : View) (l : LogView) (on lost : List ℕ) (a b c : RackView) → v.number < 16 → OnlyReads a b → AreOnMembers v l.added → CommitCall l on lost b c
    → KeepsElsewhere false v on a c
row_elsewhere v l on lost a b c few reads members commit =
    elsewhere_then false v on a b c reads.stays commit.stays (reads_elsewhere false v on a b reads) (commit_leaves v l on lost b c few members commit)

-- ---- the log's room

pub staged_length : (u : View) (added : List Target) → IsArray u → AddsSupersOf u [] added → length added ≤ u.truth.raid_disks
staged_length u added is_array adds =
    let few = supers_few u [] added is_array adds in
    let long : length added ≡ length adds.targets = ap length adds.appended in
    omega (arith, few, long)

pub staged_few : (u : View) (added : List Target) → IsArray u → u.truth.raid_disks ≤ 16 → AddsSupersOf u [] added → length added ≤ 16
staged_few u added is_array most adds = let few = staged_length u added is_array adds in omega (arith, few, most)

pub some_added : (supers data_targets : List Target) → 0 < length supers → 0 < length (supers ++ data_targets)
some_added supers data_targets some = let sum = length-append supers data_targets in omega (arith, some, sum)

pub lacking : (lacks : Bool) → not lacks ≡ false → lacks ≡ true
lacking true is = refl
lacking false is = absurd (both_ways true is refl)
