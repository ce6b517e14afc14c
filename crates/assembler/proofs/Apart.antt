-- The slices of a drive's table that a replay has are where the pool has them.
use Rattle.std.proofs.Common.{◌≡◌, ℕ, suc, ◌<◌, not, Bool, true, false, if◌then◌else◌, List, Some, None, inl, inr, refl, sym, ap, ◌∙◌, arith}
use Rattle.std.specs.Option.{option_and_then}
use Rattle.std.proofs.lemmas.Option.{none-some}
use Rattle.rack.specs.Seen.{Image, RackView}
use Rattle.slice_rack.specs.Slices.{Slices, IsOrderly}
use Rattle.pool_image.specs.Alike.{IsSamePool}
use Rattle.pool_image.specs.Disks.{Disks}
use Rattle.pool_image.specs.Drives.{Found, extent_of, found}
use Rattle.pool_image.specs.Meaning.{has_table, in_table}
use Rattle.pool_image.specs.Replay.{Extent}
use Rattle.pool_check.specs.declared.Checked.{Checked}
use Rattle.pool_check.specs.Checking.{IsChecked}
use Rattle.pool_check.specs.Refusing.{damage_by, damage_later, is_well}
use Rattle.pool_model.specs.Openings.{HaveGoodTables}
use Rattle.pool_model.specs.Stopped.{HaveTables}
use Rattle.pool_model.proofs.Found.{IsFound, found_is}
use Rattle.pool_model.proofs.Landing.{apart_tables, ruled_apart}
use Rattle.pool_model.proofs.Rereading.{same_apart}
use Rattle.pool_model.proofs.SameAlone.{have_same, same_back}
use Rattle.assembler_laws.specs.Holding.{AreSteady, IsPoolOn}
use Rattle.assembler_laws.specs.Members.{AreMembers}
use Rattle.assembler.specs.Sound.{LieApart, TargetsLand}
use Rattle.assembler_laws.proofs.Copied.{undamaged}
use Rattle.assembler_laws.proofs.Shows.{got}

-- where targets land the slices lie apart
pub lands_apart : (disks : Disks) (c : Image) (f : Found) → found disks c ≡ Some f → TargetsLand f → LieApart f
lands_apart disks c f is (inl rules) = ruled_apart f (found_is disks c f is).0 rules.0 rules.1
lands_apart disks c f is (inr apart) = apart

-- ---- a pool whose drives passed their check

module _ (f : Found) (t : Slices) (x : RackView) (checked : Checked) (absent : List ℕ) (orderly : IsOrderly t)
    (m : AreMembers f.state t x checked absent) (steady : AreSteady x) (pool : IsPoolOn f.state t x f)
    (found : IsChecked (is_well None) f checked) (is : IsFound f) where
  lies : (n : ℕ) → n < f.state.made → (b : Extent) × (extent_of f (suc n) ≡ Some b)
  lies n made =
      let e = got checked.extents.items n (let count = found.opened.lengths in omega (arith, made, count)) in
      (record { first = e.0.first; sectors = e.0.sectors }, found.opened.lies n e.0 e.1)

  good : HaveGoodTables f
  good p d seat =
      of_damage (has_table f p d)
      (sym (ap (option_and_then (damage_by (is_well None) f p)) seat) ∙ undamaged (is_well None) f found.sound p (m.current p d (sym (pool.seats p) ∙ seat)))
    where
      of_damage : (b : Bool) → (if not b then Some in_table else damage_later (is_well None) f p d) ≡ None → b ≡ true
      of_damage true none = refl
      of_damage false none = absurd (none-some in_table (sym none))

  -- so a replay finds the slices of the members where the pool has them, before and after the disks were brought to rest
  module _ (e : Found) (same : IsSamePool e f) where
    pub slices_landed : LieApart e → HaveTables f
    slices_landed apart = apart_tables f is good lies (same_apart e f same apart)

    pub tables_landed : LieApart e → HaveTables e
    tables_landed apart = have_same f e (same_back e f same) (slices_landed apart)
