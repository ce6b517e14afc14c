-- All superblocks are written anew, with marks of whoever has gone or without: what shows a book shows it so changed.
use Rattle.std.proofs.Common.{◌≡◌, ℕ, ◌<◌, ◌≤◌, true, false, List, Some, None, unwrap_or, refl, sym, ap, subst, ◌∙◌, inr, arith, ◌==◌, if◌then◌else◌}
use Rattle.std.proofs.lemmas.Bool.{both_ways}
use Rattle.std.proofs.lemmas.Nat.{and_assoc}
use Rattle.rack.specs.Values.{Values}
use Rattle.rack.specs.Seen.{Image, RackView}
use Rattle.rack.specs.Targets.{put, Target}
use Rattle.md_super.specs.declared.superblock.Super.{Super}
use Rattle.array_image.specs.Arrays.{place_with, Shape}
use Rattle.array_image.specs.Held.{IsSynced}
use Rattle.array_image.specs.Left.{Picks}
use Rattle.array_image.specs.SoundArray.{array_fields, first_unsynced}
use Rattle.array_image.specs.Supers.{super_in, truth_in}
use Rattle.array_model.specs.Says.{ImageShowsArray}
use Rattle.array_model.specs.View.{shape_of}
use Rattle.transition_laws.specs.Changes.{changed, failed}
use Rattle.transition_laws.specs.Holds.{has_sector, is_sector, moved_to, spent_at, IsPromised, Promise, Stands}
use Rattle.raid_laws.specs.Marking.{NoData, Restates}
use Rattle.raid_laws.specs.Missing.{marked}
use Rattle.raid_laws.specs.Raid.{Raid}
use Rattle.transition_laws.specs.Stages.{Stages, StagesArray}
use Rattle.raid_laws.proofs.Frames.{fields_frame}
use Rattle.raid_laws.proofs.Marking.{earlier_same, put_says}
use Rattle.transition_laws.proofs.Shown.{spent_other, stands_shape}

-- What is known of array n before the commit: its members are settled, its superblocks are among the targets, and the run has already the array that
-- the book will have.
pub record IsRestated (lost : List ℕ) (events : ℕ → ℕ) (d v : Raid) (n : ℕ) (xs : List Target) (a : RackView) : Type 0 where
  pub few : n < 16
  pub number : ((changed (failed lost events) d).arrays n).number ≡ n
  pub restates : Restates (marked lost d.state) (shape_of (v.arrays n)) false (v.arrays n) xs a n
  pub settled : IsSynced (shape_of (v.arrays n)) n a.held
  pub unmarked : (v.arrays n).marked ≡ false
  pub shape : shape_of ((changed (failed lost events) d).arrays n) ≡ shape_of (v.arrays n)
  pub fields : array_fields (v.arrays n).truth ≡ array_fields ((changed (failed lost events) d).arrays n).truth
  pub same_number : (v.arrays n).number ≡ n
  pub disks : (v.arrays n).truth.raid_disks ≡ ((changed (failed lost events) d).arrays n).truth.raid_disks
  pub roles : (v.arrays n).truth.roles.items ≡ ((changed (failed lost events) d).arrays n).truth.roles.items
  pub resync : (v.arrays n).resync ≡ (d.arrays n).resync
  pub young : (v.arrays n).young ≡ (d.arrays n).young
  pub rows : (v.arrays n).young ≡ false → (v.arrays n).resync ≤ first_unsynced (v.arrays n).truth

-- superblocks with the same fields are as far in a reshape
fields_moved : (t u : Super) → array_fields t ≡ array_fields u → moved_to t ≡ moved_to u
fields_moved t u same = sym (stripped t) ∙ ap moved_to same ∙ stripped u
  where
    stripped : (t : Super) → moved_to (array_fields t) ≡ moved_to t
    stripped t = ap (λ (k : ℕ). if k == 4 then t.reshape_position else 0) (and_assoc 4 t.feature_map 0xfffffffd)

stage_failed : (lost : List ℕ) (events : ℕ → ℕ) (d v : Raid) (p : Promise) (vals : ℕ → ℕ → Values) (xs : List Target) (a : RackView) (n : ℕ) → NoData xs → IsRestated lost events d v n xs a
    → Stands d v p vals a → p.live n ≡ true → n < d.state.made → StagesArray d.state (marked lost d.state) (d.arrays n) ((changed (failed lost events) d).arrays n) v p n (vals n) xs a
stage_failed lost events d v p vals xs a n none is stands live low =
    let held = stands_shape d v p vals a stands n live low in
    let e = changed (failed lost events) d in
    let run_sectors : (y : ℕ) → has_sector (v.arrays n) y ≡ has_sector (e.arrays n) y =
    λ y i. is_sector (fields_frame (v.arrays n).truth (e.arrays n).truth is.fields i) (fields_moved (v.arrays n).truth (e.arrays n).truth is.fields i) (is.young i) (ap first_unsynced is.fields i) y in
    let same_sectors : (y : ℕ) → has_sector (d.arrays n) y ≡ has_sector (e.arrays n) y =
    λ y. sym ((stands.arrays n live low).sectors y) ∙ run_sectors y in
    let rows : (d.arrays n).young ≡ false → (c : Image) → Picks a c → (u : Super) → truth_in (marked lost d.state) (put a.sectors xs c) n ≡ Some u → (d.arrays n).resync ≤ first_unsynced u =
    λ old c picks u at.
    let first = ap first_unsynced (is.restates.truth c picks u at) in
    let low = is.rows (is.young ∙ old) in
    let same = is.resync in
    omega (arith, first, low, same) in
    record {
      shows = λ c picks before. record {
        shows = record {
          says = subst (λ (shape : Shape). ImageShowsArray (marked lost d.state) n shape (vals n) (spent_at p n (e.arrays n)) (put a.sectors xs c)) (sym is.shape)
              (put_says (marked lost d.state) (shape_of (v.arrays n)) false (v.arrays n) (vals n) (spent_at p n (e.arrays n)) xs a n c is.few is.restates none picks is.settled held.open_left (λ y alive. held.current y (spent_other p n (d.arrays n) (e.arrays n) same_sectors y ∙ alive)));
          rows = λ old kept u at. rows old c picks u at;
          lacks = λ old wanted some u at. rows old c picks u at;
        };
        truth = λ u at. earlier_same u (e.arrays n).truth (is.restates.truth c picks u at ∙ is.fields);
        mark = λ marked. absurd (both_ways false refl marked);
        alone = λ place current other.
            subst (λ k. super_in (marked lost d.state) (put a.sectors xs c) k place ≡ None) (is.same_number ∙ sym is.number)
            (is.restates.alone c picks place current
            (λ k low here. other k (subst (λ m. k < m) is.disks low) (ap (λ roles. unwrap_or (place_with roles k) 16) (sym is.roles) ∙ here)));
      };
      number = is.number;
      shape = inr (is.shape, is.settled);
      truth = earlier_same (e.arrays n).truth (v.arrays n).truth (sym is.fields);
      mark = λ marked. absurd (both_ways (v.arrays n).marked is.unmarked marked);
      roles = is.roles;
      disks = is.disks;
      sectors = run_sectors;
      same = λ marked. record {
        shape = sym is.shape;
        frame = fields_frame (v.arrays n).truth (e.arrays n).truth is.fields;
        resync = is.resync;
        young = is.young;
      };
    }

pub stages_failed : (lost : List ℕ) (events : ℕ → ℕ) (d v w : Raid) (vals : ℕ → ℕ → Values) (xs : List Target) (a b : RackView) → NoData xs
    → (p : Promise) → (IsPromised p w → Stands d v p vals a → (n : ℕ) → p.live n ≡ true → n < d.state.made → IsRestated lost events d v n xs a) → Stages (failed lost events) d v w p vals xs a b
stages_failed lost events d v w vals xs a b none p are = record {
  old = λ promised stands n live low. stage_failed lost events d v p vals xs a n none (are promised stands n live low) stands live low;
  new = λ promised stands n live high low. absurd (omega (arith, high, low));
}
