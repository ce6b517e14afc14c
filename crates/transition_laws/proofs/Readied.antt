-- The last array is ready for the volume: what shows a book shows it so.
use Rattle.transition_laws.proofs.ArraysFor.{grown_for}
use Rattle.std.proofs.Common.{◌≡◌, ◌⊎◌, ℕ, ◌/◌, ◌<◌, ◌≤◌, true, false, List, Some, None, refl, sym, ap, subst, ◌∙◌, inl, inr, arith, Bool, if◌then◌else◌}
use Rattle.rack.specs.Values.{Values}
use Rattle.rack.specs.Seen.{Image, RackView}
use Rattle.rack.specs.Targets.{look, put, Target}
use Rattle.md_super.specs.declared.superblock.Super.{Super}
use Rattle.pool_state.specs.declared.contents.State.{State}
use Rattle.array_image.specs.Arrays.{replayed, Shape, shape_by, shape_in}
use Rattle.array_image.specs.Even.{AreEven}
use Rattle.array_image.specs.Left.{Picks}
use Rattle.array_image.specs.Places.{member_slice}
use Rattle.array_image.specs.SoundArray.{first_unsynced, IsSoundArray}
use Rattle.array_image.specs.States.{current_places, is_current}
use Rattle.array_image.specs.Supers.{is_reshaping, super_in, truth_in}
use Rattle.array_image.proofs.Frames.{Agree}
use Rattle.array_core.proofs.Stripped.{some_same}
use Rattle.array_core.proofs.Truths.{synced_few}
use Rattle.array_model.specs.Says.{IsEarlier}
use Rattle.array_model.specs.View.{IsArray, may_vary, rows_of, shape_of, View}
use Rattle.transition_laws.specs.Changes.{changed, readied, with_ready}
use Rattle.transition_laws.specs.Holds.{HoldsMembers, Promise, RestsArray, spent_at}
use Rattle.raid_laws.specs.Raid.{gone_in, Raid}
use Rattle.transition_laws.specs.Stages.{Stages, StagesArray}
use Rattle.transition_laws.proofs.Closed.{idle_agrees}
use Rattle.transition_laws.proofs.SettledEven.{settled_even}
use Rattle.transition_laws.proofs.Shown.{rests_same}

-- ---- arrays that are ready

truth_readied : (s : State) (r : Image) (n : ℕ) → truth_in (with_ready s) r n ≡ truth_in s r n
unfolding truth_in current_places
truth_readied s r n = refl

shape_readied : (s : State) (r : Image) (n : ℕ) → shape_in (with_ready s) r n ≡ shape_in s r n
unfolding truth_in current_places shape_by
shape_readied s r n = refl

super_readied : (s : State) (r : Image) (n p : ℕ) → super_in (with_ready s) r n p ≡ super_in s r n p
super_readied s r n p = refl

sound_readied : (s : State) (r : Image) (n : ℕ) (u : Super) → ((shape : Shape) → shape_in s r n ≡ Some shape → AreEven shape n (first_unsynced u) r) → IsSoundArray s r n u → IsSoundArray (with_ready s) r n u
sound_readied s r n u even sound = record {
  two = sound.two;
  written = sound.written;
  same = sound.same;
  rebuilt = sound.rebuilt;
  even = λ joined shape is. even shape (sym (shape_readied s r n) ∙ is);
}

-- an array whose rows agree in these contents
rests_readied : (s : State) (u : View) (p : Promise) (n : ℕ) (vals : ℕ → Values) (r : Image)
    → ((t : Super) → truth_in s r n ≡ Some t → (shape : Shape) → shape_in s r n ≡ Some shape → AreEven shape n (first_unsynced t) r) → RestsArray s u p n vals r → RestsArray (with_ready s) u p n vals r
rests_readied s u p n vals r even shows =
    let was : (t : Super) → truth_in (with_ready s) r n ≡ Some t → truth_in s r n ≡ Some t = λ t is. sym (truth_readied s r n) ∙ is in
    record {
      shows = record {
        rows = λ old kept t is. shows.shows.rows old kept t (was t is);
        lacks = λ old wanted some t is. shows.shows.lacks old wanted some t (was t is);
        says = record {
          shape_is = shape_readied s r n ∙ shows.shows.says.shape_is;
          value = shows.shows.says.value;
          is_sound = λ t is. sound_readied s r n t (even t (was t is)) (shows.shows.says.is_sound t (was t is));
        };
      };
      truth = λ t is. shows.truth t (was t is);
      mark = λ marked t is. shows.mark marked t (was t is);
      alone = λ place current other. super_readied s r u.number place ∙ shows.alone place current other;
    }

-- ---- those that weren't

-- An array whose rows all agree, where no mark of a write stands on it.
pub record HasAllRows (u : View) : Type 0 where
  pub is_array : IsArray u
  pub steady : is_reshaping u.truth ≡ false
  pub unmarked : u.marked ≡ false
  pub grown : u.young ≡ false
  pub rows : rows_of u ≤ u.resync

-- what contents leave of its rows is no more than it has
few_rows : (t u : Super) → IsEarlier t u → first_unsynced t ≤ u.size / 128
few_rows t u earlier = let same = ap (λ (z : Super). z.size) earlier.fields in subst (λ k. first_unsynced t ≤ k / 128) same (synced_few false t)

-- The arrays of the run are no longer young in memory, the one that gets ready by this commit among them.
pub stages_readied : (v w : Raid) (vals : ℕ → ℕ → Values) (xs : List Target) (a b : RackView) (p : Promise) → ((n : ℕ) → (changed readied v).arrays n ≡ v.arrays n)
    → ((n : ℕ) → n < v.state.made → (n < v.state.joined) ⊎ HasAllRows (v.arrays n)) → ((q : ℕ) → is_current v.state q ≡ true → gone_in v q ≡ false)
    → ((n place u : ℕ) → n < 16 → look xs (member_slice place n) u ≡ None) → Stages readied v v w p vals xs a b
stages_readied v w vals xs a b p same ready none others = record {
  new = λ promised stands n live high low. absurd (omega (arith, high, low));
  old = λ promised stands n live low.
      let u = v.arrays n in
      let at = stands.arrays n live low in
      let agree : (c : Image) → Picks a c → Agree n (put a.sectors xs c) (replayed a.sectors c) = λ c picks. idle_agrees v v p vals xs a n c stands none (λ place t. others n place t at.few) picks in
      let even : (c : Image) → Picks a c → RestsArray v.state u p n (vals n) (put a.sectors xs c) → (t : Super) → truth_in v.state (put a.sectors xs c) n ≡ Some t → (shape : Shape)
      → shape_in v.state (put a.sectors xs c) n ≡ Some shape → AreEven shape n (first_unsynced t) (put a.sectors xs c) =
      λ c picks shows t is shape shape_is. elim (ready n low) [
        | inl old ↦ (shows.shows.says.is_sound t is).even old shape shape_is
        | inr all ↦
            let few = few_rows t u.truth (shows.truth t is) in
            subst (λ (sh : Shape). AreEven sh n (first_unsynced t) (put a.sectors xs c)) (some_same (shape_of u) shape (sym shows.shows.says.shape_is ∙ shape_is))
            (subst (λ k. AreEven (shape_of u) k (first_unsynced t) (put a.sectors xs c)) at.number
            (settled_even u (vals n) (spent_at p n u) a c (put a.sectors xs c) (first_unsynced t) all.is_array all.steady all.unmarked
            (subst (λ k. HoldsMembers k (shape_of u) (shape_of u) u.resync (may_vary u) (vals n) (spent_at p n u) a) (sym at.number)
            (subst (λ rows. HoldsMembers n (shape_of u) (shape_of u) rows (may_vary u) (vals n) (spent_at p n u) a)
            (ap (λ (b : Bool). if b then first_unsynced u.truth else u.resync) (grown_for p u all.grown)) at.members)) picks
            (λ place k. subst (λ m. put a.sectors xs c (member_slice place m) k ≡ replayed a.sectors c (member_slice place m) k) (sym at.number) (agree c picks place k))
            (let rows = all.rows in omega (arith, few, rows))))
      ] in
      let old : StagesArray v.state (with_ready v.state) u u v p n (vals n) xs a = record {
        shows = λ c picks shows.
            let now = rests_same v.state u p n (vals n) (put a.sectors xs c) (replayed a.sectors c) (agree c picks) at.book_number shows in
            rests_readied v.state u p n (vals n) (put a.sectors xs c) (even c picks now) now;
        number = at.book_number;
        shape = inl refl;
        truth = at.truth;
        mark = at.mark;
        same = λ marked. record { shape = refl; frame = refl; resync = refl; young = refl };
        roles = at.roles;
        disks = at.disks;
        sectors = at.sectors;
      } in
      subst (λ z. StagesArray v.state (with_ready v.state) u z v p n (vals n) xs a) (sym (same n)) old;
}
