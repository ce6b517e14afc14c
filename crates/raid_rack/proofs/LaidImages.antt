-- Contents that differ on slices without a superblock say the same of all arrays.
use Rattle.std.proofs.Common.{◌≡◌, ℕ, ◌+◌, ◌<◌, Bool, true, false, if◌then◌else◌, List, [], ◌∷◌, length, map, take, Option, Some, None, option_map, unwrap_or, refl, sym, ap, subst, ◌∙◌, inl, inr, arith}
use Rattle.std.specs.List.{range_with_len}
use Rattle.std.specs.Option.{option_map_or}
use Rattle.std.proofs.lemmas.Bool.{cases_Bool}
use Rattle.rack.specs.Values.{Values, MayLeave}
use Rattle.rack.specs.Seen.{Image}
use Rattle.md_super.specs.declared.superblock.Super.{Super}
use Rattle.pool_state.specs.declared.contents.State.{State}
use Rattle.array_image.specs.Arrays.{Member, Shape, array_in, arrays_in, layout_at, member_in, reach_of, shape_by, shape_in, value_by, place_with}
use Rattle.array_image.specs.Even.{AreEven}
use Rattle.array_image.specs.Held.{Among}
use Rattle.array_image.specs.Places.{data_sector, member_slice, super_sector}
use Rattle.array_image.specs.SoundArray.{IsSoundArray, first_unsynced}
use Rattle.array_image.specs.States.{is_current, state_in}
use Rattle.array_image.specs.Stripes.{AgreeIn, sector_in, there, width}
use Rattle.array_image.specs.Supers.{is_super_of, only_if, super_in, truth_in}
use Rattle.array_image.proofs.Frames.{SameSupers, shape_by_supers, super_of_sector, truth_by_supers, value_by_data}
use Rattle.array_image.proofs.Settled.{among_take}
use Rattle.array_model.specs.Says.{ImageShowsArray}
use Rattle.array_model.proofs.DataFrames.{columns_same}
use Rattle.raid_rack.specs.BareSlices.{HasNoSuper}

-- Contents with the same valid superblocks of an array, and the same data of its members that count.
module _ (s : State) (m : ℕ) (r e : Image) (supers : SameSupers s m r e) (shape : Shape)
    (same : (k : Member) (z : ℕ) → Among k shape.members → z < k.reach → r (member_slice k.place m) (data_sector + z) ≡ e (member_slice k.place m) (data_sector + z)) where
  pub value_alike : (y : ℕ) → value_by shape r m y ≡ value_by shape e m y
  value_alike y = value_by_data shape r e m y (λ k among reached. same k (sector_in (layout_at shape y) y) among reached)

  even_alike : (resync : ℕ) → AreEven shape m resync e → AreEven shape m resync r
  even_alike resync even y inside synced all =
      let layout = layout_at shape y in
      let sector = sector_in layout y in
      subst (λ stripe. AgreeIn layout (there stripe))
      (sym (columns_same r e m sector (take (width layout) shape.members) (λ k among reached. same k sector (among_take (width layout) shape.members k among) reached)))
      (even y inside synced all)

  sound_alike : (t : Super) → shape_in s e m ≡ Some shape → IsSoundArray s e m t → IsSoundArray s r m t
  sound_alike t is sound = record {
    two = sound.two;
    written = sound.written;
    same = λ p q u v at_p at_q is_u is_v events. sound.same p q u v at_p at_q (sym (supers p) ∙ is_u) (sym (supers q) ∙ is_v) events;
    rebuilt = λ p u at_p is_u rebuilding. sound.rebuilt p u at_p (sym (supers p) ∙ is_u) rebuilding;
    even = λ joined other at.
        let before : shape_in s e m ≡ Some other = sym (shape_by_supers s r e m supers) ∙ at in
        let one : shape ≡ other = ap (λ o. unwrap_or o shape) (sym is ∙ before) in
        subst (λ z. AreEven z m (first_unsynced t) r) one
        (even_alike (first_unsynced t) (subst (λ z. AreEven z m (first_unsynced t) e) (sym one) (sound.even joined other before)));
  }

  pub says_alike : (vals : ℕ → Values) (spent : ℕ → Bool) → ImageShowsArray s m shape vals spent e → ImageShowsArray s m shape vals spent r
  says_alike vals spent says = record {
    shape_is = shape_by_supers s r e m supers ∙ says.shape_is;
    value = λ y alive. subst (MayLeave (vals y)) (sym (value_alike y)) (says.value y alive);
    is_sound = λ t is. sound_alike t says.shape_is (says.is_sound t (sym (truth_by_supers s r e m supers) ∙ is));
  }

-- ---- slices without a superblock

among_map : (f : ℕ → Member) (m : Member) (xs : List ℕ) → Among m (map f xs) → (k : ℕ) × (m ≡ f k)
among_map f m [] among = absurd among
among_map f m (x ∷ xs) (inl here) = (x, here)
among_map f m (x ∷ xs) (inr later) = among_map f m xs later

if_zero : (b : Bool) → ◌≡◌ {A = ℕ} (if b then 0 else 0) 0
if_zero true = refl
if_zero false = refl

module _ (own : ℕ → Bool) (r e : Image) (same : (d t : ℕ) → own d ≡ false → r d t ≡ e d t) (bare : HasNoSuper own r) (bare_too : HasNoSuper own e) where
  pub supers_alike : (s : State) (m : ℕ) → SameSupers s m r e
  supers_alike s m p =
      let d = member_slice p m in
      elim (cases_Bool (own d)) [
        | inl is ↦ ap (only_if (is_super_of s.pool.0 s.extent (length s.drives.items) m p)) (bare d is ∙ sym (bare_too d is))
        | inr other ↦ super_of_sector s r e m p (same d super_sector other)
      ]

  -- a member that counts isn't on them
  counts_off : (s : State) (m : ℕ) (t : Super) (k : Member) (z : ℕ) → Among k (shape_by s r m t).members → z < k.reach → own (member_slice k.place m) ≡ false
  unfolding shape_by
  counts_off s m t k z among reached =
      let at = among_map (member_in s r m t) k (range_with_len 0 t.raid_disks) among in
      let p = unwrap_or (place_with t.roles.items at.0) 16 in
      elim (cases_Bool (own (member_slice k.place m))) [
        | inr off ↦ off
        | inl is ↦
            let here : own (member_slice p m) ≡ true = subst (λ (o : Member). own (member_slice o.place m) ≡ true) at.1 is in
            let none : super_in s r m p ≡ None = ap (only_if (is_super_of s.pool.0 s.extent (length s.drives.items) m p)) (bare (member_slice p m) here) in
            let zero : k.reach ≡ 0 =
            ap (λ (o : Member). o.reach) at.1 ∙ ap (λ (o : Option Super). if is_current s p then option_map_or (reach_of t.size) o 0 else 0) none ∙ if_zero (is_current s p) in
            absurd (omega (arith, zero, reached))
      ]

  array_alike : (s : State) (m y : ℕ) → array_in s r m y ≡ array_in s e m y
  array_alike s m y = of (truth_in s r m) ∙ ap (λ (o : Option Shape). option_map_or (λ shape. value_by shape e m y) o []) (shape_by_supers s r e m (supers_alike s m))
    where
      of : (o : Option Super) → option_map_or (λ shape. value_by shape r m y) (option_map (shape_by s r m) o) [] ≡ option_map_or (λ shape. value_by shape e m y) (option_map (shape_by s r m) o) []
      of None = refl
      of (Some t) =
          value_alike s m r e (supers_alike s m) (shape_by s r m t)
          (λ k z among reached. same (member_slice k.place m) (data_sector + z) (counts_off s m t k z among reached)) y

  pub arrays_alike : state_in r ≡ state_in e → (m y : ℕ) → arrays_in r m y ≡ arrays_in e m y
  unfolding arrays_in
  arrays_alike state m y = of (state_in r) ∙ ap (λ (o : Option State). option_map_or (λ s. array_in s e m y) o []) state
    where
      of : (o : Option State) → option_map_or (λ s. array_in s r m y) o [] ≡ option_map_or (λ s. array_in s e m y) o []
      of None = refl
      of (Some s) = array_alike s m y
