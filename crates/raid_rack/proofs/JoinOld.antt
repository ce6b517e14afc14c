-- A drive joins an array that was cleaned, over slices that are laid for it: the arrays of the volume keep what they hold.
use Rattle.std.proofs.Common.{◌≡◌, ◌⊎◌, ℕ, ◌<◌, ◌≤◌, ◌==◌, ◌^◌, ◌-◌, Bool, true, false, not, None, if◌then◌else◌, sym, ap, subst, ◌∙◌, inl, inr, eqb-true, arith}
use Rattle.std.proofs.lemmas.Bool.{and_parts}
use Rattle.rack.specs.Seen.{RackView}
use Rattle.slice_rack.specs.Changes.{Adds}
use Rattle.slice_rack.specs.Sliced.{slices_of}
use Rattle.slice_rack.specs.Slices.{Slices, sectors_of}
use Rattle.pool_state.specs.declared.contents.Work.TheVariants.{Begin}
use Rattle.array_image.specs.Places.{member_slice}
use Rattle.array_image.specs.States.{current_places}
use Rattle.array_core.specs.Seats.{seat_of}
use Rattle.sync_laws.specs.Steps.{if_done}
use Rattle.reshape_laws.proofs.Beginning.{no_mirror_now}
use Rattle.raid_laws.specs.Moves.{IsHeeded, IsSet}
use Rattle.raid_laws.specs.Raid.{Raid, raid_of, StopsInside}
use Rattle.raid_laws.specs.Laws.{stops_inside}
use Rattle.transition_laws.specs.Changes.{changed}
use Rattle.transition_laws.specs.Growth.{AreReady, KeepsOldSectors}
use Rattle.transition_laws.specs.Reshaping.{FitsReshape}
use Rattle.transition_laws.proofs.OldSectors.{keeps_old}
use Rattle.transition_laws.proofs.OldThen.{old_then}
use Rattle.growth_laws.specs.Growing.{change_of, drive_id, is_clean, is_due, MakesReshape}
use Rattle.growth_laws.proofs.Due.{begin_parts}
use Rattle.growth_laws.proofs.KeepsOld.{begin_keeps, joined_few, made_changes, old_fit, turn_grows}
use Rattle.raid_rack.specs.BareSlices.{AreBare, is_member_slice}
use Rattle.raid_rack.proofs.LaidTables.{laid_old, old_still}

-- the arrays of the volume are as many
begun_joined : (v w : Raid) (x y : RackView) (n place : ℕ) (Lacking : Raid → Raid → Type 0) (answered : Bool) → MakesReshape (change_of (Begin n place)) Lacking n v w x y answered
    → w.state.joined ≡ v.state.joined
begun_joined v w x y n place Lacking answered makes = of makes.grows.turns.is_done makes.grows.turns.after.marks.same.joined
  where
    of : (d : Bool) → w.state.joined ≡ (if_done d makes.grows.turns.mid (changed (change_of (Begin n place) makes.grows.turns.mid) makes.grows.turns.mid)).state.joined → w.state.joined ≡ v.state.joined
    of true is = is ∙ makes.grows.turns.before.marks.same.joined
    of false is = is ∙ makes.grows.turns.before.marks.same.joined

-- the step
pub begun_old : {F G : Type 0} {r q : ℕ → ℕ} (v w : Raid) (x y : RackView) (n place : ℕ) (Lacking : Raid → Raid → Type 0) (answered : Bool) → IsSet v x → IsHeeded v → IsSet w y → StopsInside y
    → is_due v (Begin n place) ≡ true → is_clean (v.arrays n) ≡ true → MakesReshape (change_of (Begin n place)) Lacking n v w x y answered → AreReady v
    → KeepsOldSectors v.state.joined (raid_of F r v x) (raid_of G q w y)
begun_old v w x y n place Lacking answered set heeded set_after inside due clean makes ready =
    let u = v.arrays n in
    let parts = begin_parts v n place due in
    let low = parts.synced.low in
    let turns = makes.grows.turns in
    let mid = turns.mid in
    let change = change_of (Begin n place) mid in
    keeps_old (made_changes makes.contents.before change turns.is_done makes.contents.after) v w x y
    (turn_grows change turns.is_done (FitsReshape v n) v w x y makes.contents
    (old_fit v x n (inl (eqb-true u.truth.resync_offset (2 ^ 64 - 1) (and_parts (u.truth.resync_offset == 2 ^ 64 - 1) (not u.marked) clean).0)))
    (λ k is_low.
    begin_keeps v n k (mid.arrays n) (set.arrays n low).is_array parts.synced.grown (turns.before.arrays n low).same (current_places mid.state) place (drive_id mid.state place) parts.still
    (no_mirror_now u parts.raid5))
    (record {
      before = heeded;
      after = makes.grows.heeded;
      began = set;
      set = set_after;
      inside = inside;
      caused = makes.grows.caused;
      made = makes.grows.longer.made;
      joined = let same = begun_joined v w x y n place Lacking answered makes in omega (arith, same);
    }) ready)

-- The slice is laid, and the place joins by the step.
pub join_old : {F G : Type 0} {r q : ℕ → ℕ} (v w : Raid) (t t1 t2 t3 : Slices) (a b : RackView) (n place first sectors : ℕ) (Lacking : Raid → Raid → Type 0) (answered : Bool)
    → IsSet v (slices_of t a) → IsSet v (slices_of t1 a) → IsHeeded v → IsSet w (slices_of t2 b) → IsSet w (slices_of t3 b) → is_due v (Begin n place) ≡ true → is_clean (v.arrays n) ≡ true
    → (t1 ≡ t) ⊎ Adds t t1 (member_slice place n) first sectors → (t3 ≡ t2) ⊎ (Adds t2 t3 (member_slice place n) 0 0 × (seat_of (w.arrays n) place ≡ None)) → (a.traced → b.traced)
    → AreBare (is_member_slice place n) (slices_of t a) → AreBare (is_member_slice place n) (slices_of t1 a) → (seat_of (w.arrays n) place ≡ None → ⊥)
    → MakesReshape (change_of (Begin n place)) Lacking n v w (slices_of t1 a) (slices_of t2 b) answered → AreReady v
    → KeepsOldSectors v.state.joined (raid_of F r v (slices_of t a)) (raid_of G q w (slices_of t3 b))
join_old {F} {G} {r} {q} v w t t1 t2 t3 a b n place first sectors Lacking answered set set1 heeded set2 set3 due clean lays drops traced was laid joins makes ready =
    let parts = begin_parts v n place due in
    let low = parts.synced.low in
    let most = joined_few v (slices_of t a) n set low in
    let x0 = raid_of F r v (slices_of t a) in
    let x1 = raid_of F r v (slices_of t1 a) in
    let x2 = raid_of G q w (slices_of t2 b) in
    let x3 = raid_of G q w (slices_of t3 b) in
    let step = begun_old {F = F} {G = G} {r = r} {q = q} v w (slices_of t1 a) (slices_of t2 b) n place Lacking answered set1 heeded set2 (stops_inside t2 b) due clean makes ready in
    let grown : (d : ℕ) → d < v.state.joined → x0.sectors d ≤ x2.sectors d = λ d inside. makes.grows.longer.sectors d (omega (arith, inside, most)) in
    old_then v.state.joined w.state.joined x0 x2 x3 joined grown traced
    (old_then v.state.joined v.state.joined x0 x1 x2 (omega arith) (λ d inside. omega arith) (λ is. is)
    (laid_old {F = F} {G = F} {r = r} {q = r} v t t1 a place n first sectors lays low parts.joins set set1 heeded was laid) step)
    (dropped drops)
  where
    joined : v.state.joined ≤ w.state.joined
    joined = let same = begun_joined v w (slices_of t1 a) (slices_of t2 b) n place Lacking answered makes in omega (arith, same)

    dropped : (t3 ≡ t2) ⊎ (Adds t2 t3 (member_slice place n) 0 0 × (seat_of (w.arrays n) place ≡ None))
        → KeepsOldSectors w.state.joined (raid_of G q w (slices_of t2 b)) (raid_of G q w (slices_of t3 b))
    dropped (inl same) = subst (λ k. KeepsOldSectors w.state.joined (raid_of G q w (slices_of t2 b)) (raid_of G q w (slices_of k b))) (sym same) (old_still w.state.joined w (slices_of t2 b))
    dropped (inr at) = absurd (joins at.1)
