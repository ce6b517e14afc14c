-- The array of a change.
use Rattle.std.proofs.Common.{◌≡◌, ℕ, ◌/◌, ◌≤◌, Bool, true, false, ◌==◌, ◌&&◌, nat_lt, if◌then◌else◌, map, refl, ap, ap₂, subst, sym, ◌∙◌}
use Rattle.std.proofs.lemmas.Bool.{and_parts, eqb-true}
use Rattle.arrayvec.specs.ArrayVec.{ArrayVec}
use Rattle.md_super.specs.declared.superblock.Super.{Super}
use Rattle.array_image.specs.SoundArray.{first_unsynced}
use Rattle.array_core.specs.declared.slots.Slot.{Slot}
use Rattle.array_core.specs.declared.Change.{Change}
use Rattle.array_core.specs.declared.Array.TheInside.{Inside}
use Rattle.array_core.specs.Model.{view_of, IsMade, is_truth}
use Rattle.array_core.specs.Slots.{slots_of, places_by}
use Rattle.array_core.specs.Opening.{resync_by}
use Rattle.array_core.specs.Superblocks.{adopted_slot, keeps_rows, adopted_resync, adopted}
use Rattle.array_core.proofs.Lists.{map_back}
use Rattle.array_core.proofs.Truths.{unsynced_left, synced_few}
use Rattle.array_core.proofs.Seating.{slots_viewed}

-- what is left to resync lies between what the superblock leaves and the last row
record IsBetween (t : Super) (resync : ℕ) : Type 0 where
  unsynced : first_unsynced t ≤ resync
  synced : resync ≤ t.size / 128

kept_between : (old new : Super) (resync : ℕ) → keeps_rows old new ≡ true → IsBetween old resync → IsBetween new resync
kept_between old new resync keeps between =
    let parts = and_parts (new.resync_offset == old.resync_offset) _ keeps in
    let offset : old.resync_offset ≡ new.resync_offset = sym (eqb-true new.resync_offset old.resync_offset parts.0) in
    let size : old.size ≡ new.size = sym (eqb-true new.size old.size parts.1) in
    let first : first_unsynced old ≡ first_unsynced new = ap₂ (λ (o s : ℕ). if nat_lt o s then o / 128 else s / 128) offset size in
    record {
      unsynced = subst (λ (n : ℕ). n ≤ resync) first between.unsynced;
      synced = subst (λ (s : ℕ). resync ≤ s / 128) size between.synced;
    }

adopted_between : (young : Bool) (resync : ℕ) (old new : Super) → IsBetween old resync → IsBetween new (adopted_resync young resync old new)
adopted_between young resync old new between =
    let Goal : Bool → Type 0 = λ b. keeps_rows old new ≡ b → IsBetween new (if b then resync else resync_by young new) in
    let goal : Goal (keeps_rows old new) = elim (keeps_rows old new) as Goal [
      | true ↦ λ keeps. kept_between old new resync keeps between
      | false ↦ λ keeps. record { unsynced = unsynced_left young new; synced = synced_few young new }
    ] in
    goal refl

-- each row that a change leaves to resync is left
pub adopted_unsynced : (a : Inside) (c : Change) → IsMade a → first_unsynced c.truth ≤ adopted_resync a.young a.resync a.truth c.truth
adopted_unsynced a c made =
    (adopted_between a.young a.resync a.truth c.truth (record { unsynced = made.unsynced; synced = made.synced })).unsynced

module _ (a : Inside) (c : Change) (truth : Super) (slots : ArrayVec Slot) (resync : ℕ) (marked : Bool)
    (made : IsMade a)
    (is : truth ≡ c.truth)
    (changed : slots.items ≡ map (adopted_slot a.slots.items c) (places_by c.truth))
    (moved : resync ≡ adopted_resync a.young a.resync a.truth c.truth)
    (mark : marked ≡ (a.marked && keeps_rows a.truth c.truth)) where
  pub adopted_made : is_truth c.truth ≡ true → IsMade (record a { truth = truth; slots = slots; resync = resync; marked = marked })
  adopted_made holds =
      let before : IsBetween a.truth a.resync = record { unsynced = made.unsynced; synced = made.synced } in
      let between : IsBetween c.truth (adopted_resync a.young a.resync a.truth c.truth) = adopted_between a.young a.resync a.truth c.truth before in
      let now : IsBetween truth resync = subst (λ (t : Super). IsBetween t resync) (sym is) (subst (IsBetween c.truth) (sym moved) between) in
      record {
        few = made.few;
        truth = subst (λ (t : Super). is_truth t ≡ true) (sym is) holds;
        slots =
            ap (map (λ s. s.place)) changed ∙ map_back (adopted_slot a.slots.items c) (λ s. s.place) (λ place. refl) (places_by c.truth)
            ∙ ap places_by (sym is);
        unsynced = now.unsynced;
        synced = now.synced;
        went = made.went;
      }

  pub adopted_view : view_of (record a { truth = truth; slots = slots; resync = resync; marked = marked }) ≡ adopted c (view_of a)
  adopted_view =
      let seen : slots.items ≡ map (adopted_slot (slots_of (view_of a)) c) (places_by c.truth)
      = changed ∙ ap (λ ss. map (adopted_slot ss c) (places_by c.truth)) (sym (slots_viewed a made.slots)) in
      λ i. record (view_of a) {
        truth = is i;
        seats = map (λ s. s.seat) (seen i);
        devices = map (λ s. s.device) (seen i);
        resync = moved i;
        marked = mark i;
      }
