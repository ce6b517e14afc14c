-- Where the slices of a pool's drives lie, by its contents.
use Rattle.std.proofs.Common.{◌≡◌, ℕ, suc, ◌<◌, Bool, false, ◌&&◌, nat_lt, List, is_some, if◌then◌else◌, slice_get, Option, Some, None, inl, inr, refl, sym, ap, ap₂, ◌∙◌, lt-ltb, arith}
use Rattle.std.specs.Option.{option_and_then, option_map_or}
use Rattle.std.proofs.lemmas.Bool.{cases_lt}
use Rattle.std.proofs.lemmas.Option.{slice_get_past}
use Rattle.rack.specs.Seen.{RackView}
use Rattle.slice_rack.specs.Slices.{Slices, IsOrderly, place_of, seat_of, sectors_of}
use Rattle.md_super.specs.declared.superblock.Super.{Super}
use Rattle.pool_state.specs.declared.contents.State.{State}
use Rattle.array_image.specs.Places.{log_slice, member_slice}
use Rattle.array_image.specs.Supers.{is_named}
use Rattle.array_model.specs.View.{View}
use Rattle.pool_image.specs.Alike.{IsSamePool}
use Rattle.pool_image.specs.Disks.{Disks}
use Rattle.pool_image.specs.Drives.{Found, extent_of}
use Rattle.pool_image.specs.Meaning.{is_member}
use Rattle.pool_image.specs.Volumes.{Arrays, first_bad, group_in, linear_of}
use Rattle.pool_image.proofs.Founds.{joined_same, lies_same, truths_same}
use Rattle.pool_check.specs.declared.Checked.{Checked}
use Rattle.pool_check.specs.declared.Extent.{Extent}
use Rattle.pool_check.specs.Layers.{AreOpened}
use Rattle.pool_check.proofs.Shown.{member_lies}
use Rattle.lvm_group.specs.Runs.{Linear}
use Rattle.pool_model.specs.Grouped.{IsVolumeOf}
use Rattle.assembler_laws.specs.Holding.{AreSteady, IsPoolOn}
use Rattle.assembler_laws.specs.Members.{AreMembers}
use Rattle.pool_model.specs.Pools.{AreSlicesOf, extent_in}
use Rattle.assembler_laws.proofs.Shows.{few_made, few_place, members, no_slice, slots}

module _ (f : Found) (t : Slices) (x : RackView) (checked : Checked) (absent : List ℕ) (orderly : IsOrderly t)
    (m : AreMembers f.state t x checked absent) (steady : AreSteady x) (pool : IsPoolOn f.state t x f)
    (opened : AreOpened f f.state.made checked.arrays.items checked.extents.items checked.stale.items) where
  few_seat : (p d : ℕ) → f.seats p ≡ Some d → p < 16
  few_seat p d seat = few_place f t x checked absent orderly m steady pool opened p (m.current p d (sym (pool.seats p) ∙ seat))

  log_lies : (p d : ℕ) → f.seats p ≡ Some d → extent_of f 0 ≡ Some (extent_in t (log_slice p))
  unfolding extent_of
  log_lies p d seat =
      let at = sym (pool.seats p) ∙ seat in
      ap₂ (λ first sectors. Some (record { first = first; sectors = sectors })) (sym (m.firsts p d at)) (sym (m.logs p d at))

  nobody : (k : ℕ) → f.seats (place_of k) ≡ None → sectors_of t k ≡ 0
  nobody k none = orderly.seated k (sym (pool.seats (place_of k)) ∙ none)

  no_other : (n p : ℕ) → n < 16 → (nat_lt n f.state.made && is_member f n p) ≡ false → sectors_of t (member_slice p n) ≡ 0
  no_other n p low other = by (f.seats p) refl
    where
      place : place_of (member_slice p n) ≡ p
      place = omega (arith, low)

      by : (o : Option ℕ) → f.seats p ≡ o → sectors_of t (member_slice p n) ≡ 0
      by None seat = nobody (member_slice p n) (ap f.seats place ∙ seat)
      by (Some d) seat = elim (cases_lt n f.state.made) [
        | inl made ↦
            no_slice f t x checked absent orderly m steady pool opened n p made (few_seat p d seat)
            (sym (ap (λ b. b && is_member f n p) (lt-ltb n f.state.made made)) ∙ other)
        | inr past ↦
            m.members.sectors n p low (few_seat p d seat)
            ∙ ap (λ (o : Option View). option_map_or (λ (e : Extent). e.sectors)
            (option_and_then (λ (v : View). if is_named v.truth p && is_some (seat_of t p) then slice_get checked.extents.items n else None) o) 0)
            (slice_get_past checked.arrays.items n (let count = opened.count in omega (arith, past, count)))
      ]

  pub slices_lie : AreSlicesOf f t
  slices_lie = record {
    seats = λ p. sym (pool.seats p);
    logs = log_lies;
    members = λ n p d made seat member.
        member_lies f x.sectors checked.arrays.items checked.extents.items t opened
        (slots f t x checked absent orderly m steady pool opened) (members f t x checked absent orderly m steady pool opened) (λ q. sym (pool.seats q))
        (λ q e at. ap (λ (disks : Disks). disks.sectors e) pool.disks) n p d made (few_made f t x checked absent orderly m steady pool opened n made)
        (few_seat p d seat) seat member;
    others = no_other;
    unseated = nobody;
  }

-- ---- by the contents of the same pool

module _ (f g : Found) (same : IsSamePool f g) where
  pub member_same : (n p : ℕ) → is_member g n p ≡ is_member f n p
  member_same n p = ap (λ (o : Option Super). option_map_or (λ t. is_named t p) o false) (truths_same f g same n)

  pub made_same : g.state.made ≡ f.state.made
  made_same = ap (λ (s : State). s.made) same.state

  pub slices_same : (t : Slices) → AreSlicesOf g t → AreSlicesOf f t
  slices_same t lie = record {
    seats = λ p. lie.seats p ∙ same.seats p;
    logs = λ p d seat. sym (lies_same f g same 0) ∙ lie.logs p d (same.seats p ∙ seat);
    members = λ n p d made seat member.
        sym (lies_same f g same (suc n))
        ∙ lie.members n p d (let equal = made_same in omega (arith, made, equal)) (same.seats p ∙ seat) (member_same n p ∙ member);
    others = λ n p low other.
        lie.others n p low (ap₂ (λ (k : ℕ) (b : Bool). nat_lt n k && b) made_same (member_same n p) ∙ other);
    unseated = λ k none. lie.unseated k (same.seats (place_of k) ∙ none);
  }

  pub volume_same : (l : Linear) → IsVolumeOf g l → IsVolumeOf f l
  volume_same l of =
      let arrays = joined_same f g same in
      record {
        group = of.group;
        group_is = sym (ap group_in arrays) ∙ of.group_is;
        sound = sym (ap first_bad arrays) ∙ of.sound;
        linear = of.linear ∙ ap (λ (a : Arrays). linear_of a of.group) arrays;
      }
