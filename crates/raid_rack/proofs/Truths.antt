-- Superblocks of arrays that say their truths, also after parts of a call in a row.
use Rattle.std.proofs.Common.{◌≡◌, ◌≢◌, ℕ, ◌+◌, ◌<◌, true, false, ◌&&◌, not, List, get_or, set, slice_get, Option, Some, None, option_map, unwrap_or, refl, sym, ap, ap₂, subst, ◌∙◌, inl, inr, eqb-true, arith}
use Rattle.std.proofs.lemmas.Bool.{both_ways, and_from, and_parts, cases_eq}
use Rattle.arrayvec.specs.ArrayVec.{ArrayVec}
use Rattle.rack.specs.Values.{Keeps}
use Rattle.rack.specs.Seen.{RackView, IsLive, SameRack}
use Rattle.rack.specs.Sequences.{OnlyReads}
use Rattle.rack.specs.Targets.{Target}
use Rattle.array_image.specs.Arrays.{place_with}
use Rattle.array_image.specs.Places.{member_slice, slice_of, super_sector}
use Rattle.array_image.specs.States.{is_current}
use Rattle.log_laws.specs.View.{LogView, names, next_number}
use Rattle.array_model.specs.declared.Seat.{Seat}
use Rattle.array_model.specs.declared.Seat.TheVariants.{Whole, Missing, Rebuilding}
use Rattle.array_model.specs.View.{View, IsArray, LosesPlaces, has_gone, is_missing_seat, place_at}
use Rattle.array_model.specs.Members.{slice_on}
use Rattle.array_model.specs.Stages.{AmongTargets}
use Rattle.array_model.proofs.Reading.{missing_before}
use Rattle.array_core.specs.Seats.{gone as without}
use Rattle.array_core.specs.TruthHeld.{HasFewBits, HoldTruth, TellSupers}
use Rattle.array_core.specs.Writing.{KeepsElsewhere}
use Rattle.array_core.proofs.Truths.{rule_holds}
use Rattle.array_core.proofs.TruthHeld.{has_kept, hold_supers, hold_tells, live_now, reads_supers}
use Rattle.array_core.proofs.TruthStaged.{hold_committed, left_there}
use Rattle.md_super.specs.Profile.{rules}
use Rattle.pool_state.specs.declared.contents.State.{State}
use Rattle.raid_rack.specs.declared.arrays.Arrays.{Arrays}
use Rattle.raid_laws.specs.Moves.{AreMarked, IsOfPool, IsSet, OnlyFailures, ChangesNoData}
use Rattle.raid_laws.specs.Raid.{Raid, gone_in, is_left}
use Rattle.raid_rack.specs.RaidRack.{IsRunning, no_array, raid_by}
use Rattle.raid_laws.specs.Truths.{KeepsTruths, MakesTruths}
use Rattle.raid_laws.proofs.Adding.{all_apart}
use Rattle.raid_laws.proofs.Committed.{IsCommitBy, raid_after}
use Rattle.raid_laws.proofs.Elements.{among_first, apart_found}
use Rattle.raid_laws.proofs.Seated.{listed, listed_loses}
use Rattle.raid_rack.proofs.Steps.{set_own, set_other}

-- ---- one array

place_same : (u w : View) (k : ℕ) → OnlyFailures u w → slice_on w k ≡ slice_on u k
place_same u w k only =
    ap₂ (λ (r : ArrayVec ℕ) (n : ℕ). member_slice (unwrap_or (place_with r.items k) 16) n) only.same.geometry.roles only.same.number

there_before : (u w : View) (k : ℕ) → OnlyFailures u w → slice_get w.seats k ≢ Some Missing → slice_get u.seats k ≢ Some Missing
there_before u w k only there gone = elim (only.seats k) [ inl same ↦ there (same ∙ gone) | inr lost ↦ there lost ]

-- what is told stays so in an array that loses members
pub tells_loses : (u w : View) (a b : RackView) → a.lasting → SameRack a b → OnlyFailures u w → TellSupers u a → TellSupers w b
tells_loses u w a b lasting stays only tells k low there =
    subst (λ d. IsLive b b d super_sector) (sym (place_same u w k only))
    (live_now a b (slice_on u k) super_sector lasting stays
    (tells k (subst (λ n. k < n) only.same.geometry.disks low) (there_before u w k only there)))

-- the truth of an array of the pool
pub pool_bits : (s : State) (v : View) → IsOfPool s v → HasFewBits v.truth
pool_bits s v pool = eqb-true _ 0 (rule_holds 0 (rules v.truth s.extent) pool.profile)

-- ---- parts in a row

pub truths_same : (v : Raid) (x : RackView) → KeepsTruths v v x x
truths_same v x n low held = held

pub truths_then : (v w z : Raid) (a b c : RackView) → w.state.made ≡ v.state.made → KeepsTruths v w a b → KeepsTruths w z b c → KeepsTruths v z a c
truths_then v w z a b c made one two n low held = two n (subst (λ k. n < k) (sym made) low) (one n low held)

-- all are written, and then kept
pub makes_kept : (v w z : Raid) (a b c : RackView) → w.state.made ≡ v.state.made → MakesTruths v w a b → KeepsTruths w z b c → MakesTruths v z a c
makes_kept v w z a b c made one two n low tells = two n (subst (λ k. n < k) (sym made) low) (one n low tells)

-- they are written in the second part
pub makes_after : (v w z : Raid) (a b c : RackView) → a.lasting → ChangesNoData v w a b → MakesTruths w z b c → MakesTruths v z a c
makes_after v w z a b c lasting moves two n low tells =
    two n (subst (λ k. n < k) (sym moves.book.same.made) low) (tells_loses (v.arrays n) (w.arrays n) a b lasting moves.stays (moves.arrays n low) tells)

pub makes_keeps : (v w : Raid) (a b : RackView) → MakesTruths v w a b → KeepsTruths v w a b
makes_keeps v w a b makes n low held = makes n low (hold_tells (v.arrays n) a held)

-- nothing was written
pub truths_reads : (v : Raid) (a b : RackView) → IsSet v a → OnlyReads a b → KeepsTruths v v a b
truths_reads v a b set reads n low = hold_supers (v.arrays n) a b set.lasting (set.arrays n low).is_array.few reads.stays (reads_supers a b reads)

-- ---- a call of one array

-- it keeps those of its array, and the others' slices as they were
pub truths_call : (a c : Arrays) (all : ArrayVec View) (log : LogView) (n : ℕ) (old u : View) (x y z : RackView) → IsRunning a x → n < a.state.made
    → old ≡ get_or a.all.items n no_array → all.items ≡ set a.all.items n u → SameRack x y
    → (HoldTruth old x → HoldTruth u y)
    → ((d : ℕ) → slice_of d ≢ 0 → slice_of d ≢ n + 1 → IsLive x y d super_sector → Keeps (x.held d super_sector) (y.held d super_sector))
    → KeepsTruths (raid_by (record a { all = all; log = log })) (raid_by c) y z → KeepsTruths (raid_by a) (raid_by c) x z
truths_call a c all log n old u x y z running low old_is all_is stays own others two m less held =
    two m less
    (elim (cases_eq m n) [
      | inl here ↦
          subst (λ (w : View). HoldTruth w y) (sym (ap (λ k. get_or all.items k no_array) here ∙ ap (λ ys. get_or ys n no_array) all_is ∙ set_own a.all.items n u no_array (let count = running.count in omega (arith, low, count))))
          (own (subst (λ (w : View). HoldTruth w x) (ap (λ k. get_or a.all.items k no_array) here ∙ sym old_is) held))
      | inr other ↦
          subst (λ (w : View). HoldTruth w y) (sym (ap (λ ys. get_or ys m no_array) all_is ∙ set_other a.all.items n m u no_array other))
          (kept other)
    ])
  where
    kept : (m ≡ n → ⊥) → HoldTruth ((raid_by a).arrays m) y
    kept other k inside there =
        let v = (raid_by a).arrays m in
        let number = (running.set.arrays m less).number in
        let most = running.set.most in
        has_kept v.truth v.truth x y (slice_on v k) running.set.lasting stays refl
        (others (slice_on v k) (λ is. absurd (omega (arith, is, number, less, most))) (λ is. other (omega (arith, is, number, less, most, low))))
        (held k inside there)

-- of another array's slices a call writes nothing
pub apart_kept : (n : ℕ) (v : View) (on : List ℕ) (x y : RackView) → v.number ≡ n → n < 16 → KeepsElsewhere false v on x y
    → (d : ℕ) → slice_of d ≢ 0 → slice_of d ≢ n + 1 → IsLive x y d super_sector → Keeps (x.held d super_sector) (y.held d super_sector)
apart_kept n v on x y number few elsewhere d some other live =
    elsewhere d super_sector live (inr (some, λ k low there at. other (omega (arith, at, number, few))))

-- ---- a commit of all superblocks

pub missing_none : (o : Option Seat) → option_map is_missing_seat o ≡ Some true → o ≡ Some Missing
missing_none None is = absurd (let bad : None ≡ Some true = is in cc)
missing_none (Some Missing) is = refl
missing_none (Some Whole) is = absurd (let bad : Some false ≡ Some true = is in cc)
missing_none (Some (Rebuilding to)) is = absurd (let bad : Some false ≡ Some true = is in cc)

-- where no place is current each member is missing
pub makes_nobody : (v w : Raid) (a b : RackView) → IsSet w b → w.state.made ≡ v.state.made → ((p : ℕ) → is_current w.state p ≡ false) → MakesTruths v w a b
makes_nobody v w a b set made nobody n less tells k low there =
    let seated = set.arrays n (subst (λ m. n < m) (sym made) less) in
    let p = place_at (w.arrays n) k in
    absurd (there (missing_none (slice_get (w.arrays n).seats k)
    (seated.marks k low ∙ ap (λ c. Some (not (c && not (has_gone (w.arrays n) p)))) (nobody p))))

-- the commit has the superblocks of all arrays, and who went in it is noted in each
pub makes_commit : (v : Raid) (lost on : List ℕ) {by : List ℕ} (gone : List ℕ) (l : LogView) (xs : List Target) (f : ℕ → View) (b c : RackView)
    → IsCommitBy v lost on by gone l xs f b c → MakesTruths v (raid_after v lost (next_number l.number) f) b c
unfolding listed
makes_commit v lost on {by} gone l xs f b c commit n low tells =
    let u = v.arrays n in
    let marking = commit.marking in
    let seated = marking.set.arrays n low in
    let has = marking.staged.each n low in
    let loses : LosesPlaces u (listed u gone) (names gone) = listed_loses u gone seated.is_array in
    subst (λ (w : View). HoldTruth w c) (sym (commit.arrays n low))
    (hold_committed u l has.before has.added has.adds seated.is_array
    (λ x among.
    apart_found l.added x (all_apart v lost on l xs b marking)
    (subst (AmongTargets x) (sym marking.copies.appended) (among_first x xs marking.copies.targets (has.among x among))))
    (without gone u) by gone b c marking.set.lasting (pool_bits v.state u seated.is_of_pool) commit.call refl refl
    (λ k inside there. (
      missing_before u (listed u gone) k (names gone) loses there,
      left_there u (listed u gone) (names gone) k seated.is_array loses inside there,
    ))
    tells)

-- ---- places that are noted or heeded

-- where nothing is called
pub hold_gone : (u : View) (lost : List ℕ) (x : RackView) → IsArray u → HoldTruth u x → HoldTruth (without lost u) x
unfolding listed
hold_gone u lost x is_array held k low there = held k low (missing_before u (listed u lost) k (names lost) (listed_loses u lost is_array) there)

-- ---- the turns of a mending

-- somebody who isn't marked is left to be marked
unmarked_early : (a b : Raid) (p : ℕ) → b.state ≡ a.state → is_left a p ≡ true → is_left b p ≡ false → AreMarked b → ⊥
unmarked_early a b p same was now are =
    let current = ap (λ (s : State). is_current s p) same ∙ (and_parts (is_current a.state p) (not (gone_in a p)) was).0 in
    both_ways (is_left b p) now (and_from (is_current b.state p) (not (gone_in b p)) current (ap not (are p current)))

pub early_truths : (a b : Raid) (x y : RackView) → b.state ≡ a.state → (p : ℕ) × (is_left a p ≡ true) × (is_left b p ≡ false) → AreMarked b → MakesTruths a b x y
early_truths a b x y same lost are = absurd (unmarked_early a b lost.0 same lost.1 lost.2 are)
