-- A pool's arrays as they stand over the slices of its drives once gates are closed, before the places without a disk are marked.
use Rattle.std.proofs.Common.{◌≡◌, ℕ, ◌<◌, true, List, [], slice_get, Option, Some, None, inl, inr, refl, sym, ap, subst, ◌∙◌}
use Rattle.std.proofs.lemmas.Bool.{both_ways}
use Rattle.rack.specs.Seen.{Image, RackView}
use Rattle.rack.specs.Values.{MayLeave}
use Rattle.slice_rack.specs.Slices.{Slices, IsOrderly, seat_of}
use Rattle.slice_rack.specs.Sliced.{slices_of as slices_seen}
use Rattle.md_super.specs.declared.superblock.Super.{Super}
use Rattle.pool_state.specs.declared.contents.State.{State}
use Rattle.array_image.specs.Record.{pending}
use Rattle.array_image.specs.States.{current_places}
use Rattle.array_model.specs.View.{HasGeometry, IsArray, View}
use Rattle.array_core.specs.Seats.{gone, names, restarted}
use Rattle.log_laws.specs.Opening.{ReplayCall}
use Rattle.log_laws.specs.Standing.{LogsStand, deciding}
use Rattle.log_laws.specs.View.{LogView}
use Rattle.pool_image.specs.Drives.{Found}
use Rattle.pool_image.specs.Meaning.{arrays_held, truth_of}
use Rattle.pool_check.specs.declared.Checked.{Checked}
use Rattle.pool_check.specs.Checking.{IsChecked}
use Rattle.pool_check.specs.Refusing.{is_well}
use Rattle.raid_laws.specs.Losing.{arrays_same}
use Rattle.raid_laws.specs.Opening.{OpensRaid}
use Rattle.raid_laws.specs.Raid.{Raid, gone_in, held_in}
use Rattle.raid_laws.proofs.Opening.{IsAtRest}
use Rattle.assembler_laws.specs.Holding.{HoldPool, IsArrayOf, IsIdle, IsPoolOn}
use Rattle.assembler_laws.specs.Members.{AreMembers}
use Rattle.assembler_laws.proofs.Holding.{before, before_is, data_kept, founds, holds_closed, holds_still, log, m, not_gone, pool, rests, seated_here, value_held}
use Rattle.assembler_laws.proofs.Still.{none_pending}

-- Arrays stand over slices: each that is ready for the volume is that of its superblocks there, its sectors have the pool's values, and nothing is pending.
pub record StandOver (f : Found) (v : Raid) (b : RackView) : Type 0 where
  pub opens : OpensRaid v b
  pub arrays : (n : ℕ) (u : Super) → n < f.state.joined → truth_of f n ≡ Some u → IsArrayOf f n u (v.arrays n)
  pub values : (n y : ℕ) (u : List ℕ) → n < f.state.joined → MayLeave (held_in v b n y) u → u ≡ arrays_held f n y
  pub idle : (c : Image) → LogsStand b c → pending (deciding c) c ≡ []

module _ (f : Found) (s : State) (t : Slices) (x : RackView) (checked : Checked) (absent gone_now : List ℕ) (orderly : IsOrderly t) (l : LogView)
    (holds : HoldPool s t x l f) (found : IsChecked (is_well None) f checked) (members : AreMembers s t x checked absent)
    (rules : (n : ℕ) (v : View) → slice_get checked.arrays.items n ≡ Some v → IsArray v)
    (v : Raid) (state : v.state ≡ s) (number : v.number ≡ l.number)
    (are : (n : ℕ) (u : View) → slice_get checked.arrays.items n ≡ Some u → v.arrays n ≡ gone gone_now (restarted u)) (nobody : gone_now ≡ absent) where
  now : (n : ℕ) (u : View) → slice_get checked.arrays.items n ≡ Some u → v.arrays n ≡ gone absent (restarted u)
  now n u is = are n u is ∙ ap (λ ps. gone ps (restarted u)) nobody

  abbrev pub own : AreMembers f.state t x checked absent
  own = m f s t x checked absent gone_now orderly l holds found members rules v state number are

  abbrev pub on : IsPoolOn f.state t x f
  on = pool f s t x checked absent gone_now orderly l holds found members rules v state number are

  abbrev pub idle : IsIdle f.state t x l
  idle = log f s t x checked absent gone_now orderly l holds found members rules v state number are

  as_before : v ≡ before f s t x checked absent gone_now orderly l holds found members rules v state number are
  as_before = before_is f s t x checked absent gone_now orderly l holds found members rules v state number are

  -- whoever has gone has no disk
  pub gone_unseated : (p : ℕ) → gone_in v p ≡ true → seat_of t p ≡ None
  gone_unseated p is = by (seat_of t p) refl
    where
      by : (o : Option ℕ) → seat_of t p ≡ o → seat_of t p ≡ None
      by None seat = seat
      by (Some d) seat =
          absurd (both_ways (gone_in v p)
          (ap (λ (k : Raid). gone_in k p) as_before
          ∙ not_gone f t x checked absent orderly own holds.steady on found holds.sound rules v.arrays v.number now p
          (seated_here f t x checked absent orderly own holds.steady on found holds.sound rules v.arrays v.number now p d seat))
          is)

  -- an array is that of the pool's truth
  pub array_now : (n : ℕ) (u : Super) → n < f.state.joined → truth_of f n ≡ Some u → IsArrayOf f n u (v.arrays n)
  array_now n u less truth = founds f s t x checked absent gone_now orderly l holds found members rules v state number are nobody v (arrays_same v) n u less truth

  -- so it has the members and the size that the pool's has
  pub geometry_now : (n : ℕ) (u : Super) → n < f.state.joined → truth_of f n ≡ Some u → HasGeometry u (v.arrays n).truth
  geometry_now n u less truth = (array_now n u less truth).geometry

  -- the slices are at rest
  pub at_rest : IsAtRest (before f s t x checked absent gone_now orderly l holds found members rules v state number are) l idle.on (slices_seen t x)
  at_rest = rests f t x checked absent orderly own holds.steady on found holds.sound rules v.arrays v.number now l number idle

  -- where a place is absent nothing is done
  pub stand_still : (absent ≡ [] → ⊥) → StandOver f v (slices_seen t x)
  stand_still away =
      let opens = holds_still f t x checked absent orderly own holds.steady on found holds.sound rules v.arrays v.number now l number idle away in
      subst (λ (k : Raid). StandOver f k (slices_seen t x)) (sym as_before) (record {
        opens = opens;
        arrays = array_now;
        values = value_held f t x checked absent orderly own holds.steady on found holds.sound rules v.arrays v.number now (slices_seen t x) opens (λ n place k low live. refl);
        idle = none_pending f.state l idle.on (slices_seen t x) at_rest.opened idle.none;
      })

  -- where none is, gates are closed
  pub stand_closed : absent ≡ [] → (b : RackView) → ReplayCall l (current_places s) [] (slices_seen t x) b → StandOver f v b
  stand_closed none b replay =
      let call : ReplayCall l (current_places f.state) [] (slices_seen t x) b =
      subst (λ k. ReplayCall l (current_places k) [] (slices_seen t x) b) (sym holds.pool.state) replay in
      let opens = holds_closed f t x checked absent orderly own holds.steady on found holds.sound rules v.arrays v.number now l idle none number b call in
      let kept = data_kept f t x checked absent orderly own holds.steady on found holds.sound rules v.arrays v.number now l idle.none b call in
      subst (λ (k : Raid). StandOver f k b) (sym as_before) (record {
        opens = opens;
        arrays = array_now;
        values = value_held f t x checked absent orderly own holds.steady on found holds.sound rules v.arrays v.number now b opens kept;
        idle = λ c stand. elim (opens.log.idle c stand) [
          | inl nothing ↦ nothing
          | inr one ↦
              absurd (both_ways _
              (not_gone f t x checked absent orderly own holds.steady on found holds.sound rules v.arrays v.number now one.0 (ap (λ (ps : List ℕ). names ps one.0) none)) one.2)
        ];
      })
