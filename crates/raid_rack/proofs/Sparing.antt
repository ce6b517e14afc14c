-- Calls of one array, and the mending after them, that spare the slices of the others where no drive refuses a call.
use Rattle.std.proofs.Common.{◌≡◌, ℕ, ◌+◌, ◌<◌, Bool, true, false, ◌&&◌, not, List, get_or, refl, sym, ap, subst, ◌∙◌, inl, inr, arith}
use Rattle.std.proofs.lemmas.Bool.{cases_Bool, both_ways}
use Rattle.rack.specs.Values.{Keeps}
use Rattle.rack.specs.Seen.{RackView, IsLive, SameRack}
use Rattle.rack.specs.Sequences.{OnlyReads}
use Rattle.pool_state.specs.declared.contents.State.{State}
use Rattle.array_image.specs.Places.{slice_of}
use Rattle.array_image.specs.States.{is_current}
use Rattle.array_model.specs.View.{View, place_at}
use Rattle.array_core.specs.Writing.{KeepsElsewhere}
use Rattle.raid_rack.specs.declared.arrays.Arrays.{Arrays}
use Rattle.raid_rack.specs.AllRuns.{Spares}
use Rattle.raid_laws.specs.Cleaning.{NoneFails}
use Rattle.raid_laws.specs.Moves.{AreCaused, AreMarked, IsHeeded, ChangesNoData}
use Rattle.raid_laws.specs.Raid.{Raid, gone_in}
use Rattle.raid_rack.specs.RaidRack.{IsRunning, no_array, raid_by}
use Rattle.raid_laws.proofs.Agreeing.{none_early}
use Rattle.raid_laws.proofs.Cleaned.{slice_own}
use Rattle.raid_laws.proofs.Whole.{heeded_left}

and_none : (b : Bool) → (b && false) ≡ false
and_none true = refl
and_none false = refl

-- then nobody goes
none_marked : (v w : Raid) (a b : RackView) → IsHeeded v → w.state ≡ v.state → AreCaused v w a b → NoneFails a b → AreMarked w
none_marked v w a b heeded same caused none p current =
    elim (cases_Bool (gone_in w p)) [
      | inl is ↦
          let was = heeded_left v p heeded (subst (λ (s : State). is_current s p ≡ true) same current) in
          absurd (none p (caused.cause p was (ap (λ g. is_current w.state p && not g) is ∙ and_none (is_current w.state p))))
      | inr not_gone ↦ not_gone
    ]

-- what a call spares, where the mending after it calls nothing
spares_mended : (written : ℕ → Bool) (v w : Raid) (a b c : RackView) → IsHeeded v → w.state ≡ v.state → AreCaused v w a b → SameRack b c → (AreMarked w → c ≡ b)
    → ((n d t : ℕ) → written n ≡ false → slice_of d ≡ n + 1 → IsLive a b d t → Keeps (a.held d t) (b.held d t))
    → Spares written a c
spares_mended written v w a b c heeded same caused stays idle kept none n d t unwritten own live =
    let is = idle (none_marked v w a b heeded same caused (none_early a b c stays none)) in
    subst (λ (x : RackView). IsLive a x d t → Keeps (a.held d t) (x.held d t)) (sym is) (kept n d t unwritten own) live

pub spares_read : (written : ℕ → Bool) (v w : Raid) (a b c : RackView) → IsHeeded v → w.state ≡ v.state → ChangesNoData v w a b → SameRack b c → (AreMarked w → c ≡ b) → OnlyReads a b
    → Spares written a c
spares_read written v w a b c heeded same moves stays idle reads =
    spares_mended written v w a b c heeded same (record { left = moves.left; cause = moves.cause }) stays idle (λ n d t unwritten own live. reads.keeps.held d t live)

-- a write goes to the slices of its own array
pub spares_write : (written : ℕ → Bool) (a : Arrays) (w : Raid) (m : ℕ) (old : View) (on : List ℕ) (x y z : RackView) → IsRunning a x → IsHeeded (raid_by a) → m < a.state.made
    → old ≡ get_or a.all.items m no_array → written m ≡ true → w.state ≡ a.state → AreCaused (raid_by a) w x y → SameRack y z → (AreMarked w → z ≡ y)
    → KeepsElsewhere false old on x y → Spares written x z
spares_write written a w m old on x y z running heeded low old_is noted same caused stays idle elsewhere =
    let seated = running.set.arrays m low in
    let few : old.number < 16 = subst (λ (u : View). u.number < 16) (sym old_is) seated.is_array.few in
    let number : old.number ≡ m = ap (λ (u : View). u.number) old_is ∙ seated.number in
    spares_mended written (raid_by a) w x y z heeded same caused stays idle
    (λ n d t unwritten own live.
    elsewhere d t live
    (inr (
      λ none. omega (arith, none, own),
      λ k inside there is.
          let mine = ap slice_of is ∙ slice_own (place_at old k) old.number few in
          let here : n ≡ m = omega (arith, mine, own, number) in
          both_ways (written n) unwritten (ap written here ∙ noted),
    )))
