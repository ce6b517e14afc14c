-- Contents of the same pool but for gates: each drive has its table where it had one, and no superblock of an array stands where none did.
use Rattle.std.proofs.Common.{◌≡◌, ◌⊎◌, ℕ, suc, ◌+◌, ◌<◌, ◌≤◌, ◌&&◌, ◌||◌, Bool, false, not, bytes_eq, List, Option, Some, sym, ap, ap₂, subst, ◌∙◌, refl, inl, inr, arith}
use Rattle.std.specs.Option.{option_map_or}
use Rattle.std.specs.List.{list_all, range_with_len}
use Rattle.rack.specs.Seen.{Image}
use Rattle.gpt_table.specs.declared.Table.{Table}
use Rattle.md_super.specs.declared.superblock.Super.{Super}
use Rattle.array_image.specs.States.{id_of}
use Rattle.pool_state.specs.declared.contents.State.{State}
use Rattle.array_image.specs.Places.{data_sector, super_sector}
use Rattle.array_image.specs.Supers.{is_named}
use Rattle.array_core.proofs.Stripped.{some_same}
use Rattle.pool_image.specs.Alike.{IsSamePool}
use Rattle.pool_image.specs.Disks.{Disks, Identity}
use Rattle.pool_image.specs.Drives.{Found, extent_of, first_of}
use Rattle.pool_image.specs.Meaning.{has_slice, has_table, is_member, kind_of, truth_of}
use Rattle.pool_image.specs.Replay.{Extent, extent_by}
use Rattle.pool_image.proofs.Founds.{first_behind, lies_same, truths_same}
use Rattle.pool_image.proofs.Truths.{extent_found}
use Rattle.pool_model.specs.Left.{NoStraySuperblock, HasNoSuper}
use Rattle.pool_model.specs.Openings.{HaveGoodTables}
use Rattle.pool_model.specs.Stopped.{HaveTables}
use Rattle.pool_model.proofs.Layers.{laid}

-- whether a table has a place's slices, by the extents of slices and the arrays that the place is a member of
abbrev is_table_by : (ℕ → Option Extent) → (ℕ → Bool) → Option (List ℕ) → ℕ → ℕ → Table → Bool
is_table_by ext mem id made sectors table =
    option_map_or (bytes_eq table.disk_id.0) id false
    && (option_map_or (has_slice sectors table (0 + 1) (kind_of 0)) (ext 0) false
    && list_all (λ n. not (mem n) || option_map_or (has_slice sectors table (n + 1 + 1) (kind_of (n + 1))) (ext (n + 1)) false) (range_with_len 0 made))

module _ (f g : Found) (same : IsSamePool f g) where
  member_same : (n p : ℕ) → is_member g n p ≡ is_member f n p
  member_same n p = ap (λ (o : Option Super). option_map_or (λ t. is_named t p) o false) (truths_same f g same n)

  -- ---- tables

  table_same : (p d : ℕ) → f.seats p ≡ Some d → has_table g p d ≡ has_table f p d
  table_same p d seat =
      ap₂ (λ (disks : Disks) (id : Identity). option_map_or (λ t. is_table_by (extent_of g) (λ n. is_member g n p) (id_of g.state p) g.state.made (disks.sectors d) t) id.table false) same.disks (same.identities p d seat)
      ∙ ap₂ (λ (ext : ℕ → Option Extent) (mem : ℕ → Bool). option_map_or (λ t. is_table_by ext mem (id_of g.state p) g.state.made (f.disks.sectors d) t) (f.identities d).table false)
      (λ i n. lies_same f g same n i) (λ i n. member_same n p i)
      ∙ ap (λ (s : State). option_map_or (λ t. is_table_by (extent_of f) (λ n. is_member f n p) (id_of s p) s.made (f.disks.sectors d) t) (f.identities d).table false) same.state

  pub good_same : HaveGoodTables f → HaveGoodTables g
  good_same good p d seat = (let was = sym (same.seats p) ∙ seat in table_same p d was ∙ good p d was)

  -- with the members' slices where the pool has them
  pub have_same : HaveTables f → HaveTables g
  have_same have n p d low seat member =
      let was = sym (same.seats p) ∙ seat in
      ap₂ (λ (disks : Disks) (id : Identity). extent_by (disks.sectors d) id.table (suc n)) same.disks (same.identities p d was)
      ∙ have n p d (subst (λ (s : State). n < s.made) same.state low) was (sym (member_same n p) ∙ member)
      ∙ sym (lies_same f g same (suc n))

  -- ---- superblocks

  module _ (few : f.state.made ≤ 16) (has : (n : ℕ) → n < f.state.made → (u : Super) × (truth_of f n ≡ Some u)) where
    -- an array's slices begin where they did
    begins_same : (n first : ℕ) → n < f.state.made → first_of g n ≡ Some first → first_of f n ≡ Some first
    begins_same n first low begins =
        let u = (has n low).0 in
        let small : n < 16 = omega (arith, low, few) in
        let one = laid f n u small (has n low).1 in
        let two = laid g n u small (truths_same f g same n ∙ (has n low).1) in
        let extents : Some (record { first = two.first; sectors = data_sector + u.size }) ≡ Some (record { first = one.first; sectors = data_sector + u.size }) =
        sym (extent_found g n two.first u two.begins two.is) ∙ lies_same f g same (suc n) ∙ extent_found f n one.first u one.begins one.is in
        one.begins
        ∙ ap Some (sym (ap (λ (o : Option Extent). option_map_or (λ e. e.first) o 0) extents) ∙ some_same two.first first (sym two.begins ∙ begins))

    made_same : g.state.made ≡ f.state.made
    made_same = ap (λ (s : State). s.made) same.state

    -- in any contents
    pub alone_same : (i : Image) → NoStraySuperblock f i → NoStraySuperblock g i
    alone_same i alone n p d first low seat none begins within =
        let less : n < f.state.made = subst (λ k. n < k) made_same low in
        subst (λ (s : State). HasNoSuper s.pool.0 n (i d (first + super_sector))) (sym same.state)
        (alone n p d first less (sym (same.seats p) ∙ seat) (sym (member_same n p) ∙ none) (begins_same n first less begins)
        (subst (λ (k : Disks). first + super_sector < k.sectors d) same.disks within))

    -- and in the pools' own
    pub own_alone : NoStraySuperblock f f.contents → NoStraySuperblock g g.contents
    own_alone alone n p d first low seat none begins within =
        let less : n < f.state.made = subst (λ k. n < k) made_same low in
        let was : f.seats p ≡ Some d = sym (same.seats p) ∙ seat in
        let begun = begins_same n first less begins in
        let behind = first_behind f n first begun in
        let inside : first + super_sector < f.disks.sectors d = subst (λ (k : Disks). first + super_sector < k.sectors d) same.disks within in
        subst (HasNoSuper g.state.pool.0 n) (sym (same.contents p d (first + super_sector) was inside (λ is. absurd (omega (arith, is, behind)))))
        (subst (λ (s : State). HasNoSuper s.pool.0 n (f.contents d (first + super_sector))) (sym same.state)
        (alone n p d first less was (sym (member_same n p) ∙ none) begun inside))

-- ---- contents in which other sectors have none

-- Contents in which each sector of the drives is as it was, or has no superblock of any array.
pub alone_but : (f : Found) (c i : Image)
    → ((p d u : ℕ) → f.seats p ≡ Some d → u < f.disks.sectors d → (i d u ≡ c d u) ⊎ ((n : ℕ) → HasNoSuper f.state.pool.0 n (i d u)))
    → NoStraySuperblock f c → NoStraySuperblock f i
alone_but f c i each alone n p d first low seat none begins within = elim (each p d (first + super_sector) seat within) [
  | inl same ↦ subst (HasNoSuper f.state.pool.0 n) (sym same) (alone n p d first low seat none begins within)
  | inr bare ↦ bare n
]

-- ---- the other way round

pub same_back : (f g : Found) → IsSamePool f g → IsSamePool g f
same_back f g same = record {
  disks = sym same.disks;
  state = sym same.state;
  seats = λ p. sym (same.seats p);
  all = λ d low. sym (same.all d (subst (λ (k : Disks). d < k.count) same.disks low));
  identities = λ p d seat. sym (same.identities p d (sym (same.seats p) ∙ seat));
  contents = λ p d u seat within no_gate. sym (same.contents p d u (sym (same.seats p) ∙ seat) (subst (λ (k : Disks). u < k.sectors d) same.disks within) no_gate);
  logs = λ p d seat. sym (same.logs p d (sym (same.seats p) ∙ seat));
}

pub same_self : (f : Found) → IsSamePool f f
same_self f = record {
  disks = refl;
  state = refl;
  seats = λ p. refl;
  all = λ d low. refl;
  identities = λ p d seat. refl;
  contents = λ p d u seat within no_gate. refl;
  logs = λ p d seat. refl;
}
