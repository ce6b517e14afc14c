-- What contents say of an array goes by the current places alone.
use Rattle.std.proofs.Common.{◌≡◌, ℕ, ◌+◌, ◌<◌, Bool, true, if◌then◌else◌, List, [], ◌∷◌, map, filter, take, Option, Some, None, option_map, unwrap_or, refl, sym, ap, ap₂, subst, ◌∙◌, inl, inr}
use Rattle.std.specs.List.{range_with_len}
use Rattle.std.proofs.lemmas.Bool.{cases_Bool}
use Rattle.rack.specs.Values.{Values, MayLeave}
use Rattle.rack.specs.Seen.{Image}
use Rattle.md_super.specs.declared.superblock.Super.{Super}
use Rattle.pool_state.specs.declared.contents.State.{State}
use Rattle.array_image.specs.Foremost.{foremost}
use Rattle.array_image.specs.Arrays.{Member, Shape, layout_at, member_by, member_in, place_with, shape_by, shape_in}
use Rattle.array_image.specs.Even.{AreEven}
use Rattle.array_image.specs.Held.{Among}
use Rattle.array_image.specs.Places.{data_sector, member_slice, super_sector}
use Rattle.array_image.specs.SoundArray.{IsSoundArray, first_unsynced}
use Rattle.array_image.specs.States.{current_places, is_current}
use Rattle.array_image.specs.Stripes.{AgreeIn, sector_in, there, width}
use Rattle.array_image.specs.Supers.{super_in, truth_in}
use Rattle.array_image.proofs.Frames.{map_same, super_of_sector, value_by_data}
use Rattle.array_image.proofs.Settled.{among_take}
use Rattle.array_model.specs.Says.{ImageShowsArray}
use Rattle.array_model.proofs.DataFrames.{columns_same}

-- members that count stand on current places
abbrev pub CountsOn : State → Shape → Type 0
CountsOn s shape = (m : Member) (sector : ℕ) → Among m shape.members → sector < m.reach → is_current s m.place ≡ true

map_passing : {X Y : Type 0} (passes : X → Bool) (f g : X → Y) (xs : List X) → ((x : X) → passes x ≡ true → f x ≡ g x) → map f (filter passes xs) ≡ map g (filter passes xs)
map_passing passes f g [] same = refl
map_passing passes f g (x ∷ xs) same =
    elim (cases_Bool (passes x)) [
      | inl is ↦
          subst (λ b. map f (if b then x ∷ filter passes xs else filter passes xs) ≡ map g (if b then x ∷ filter passes xs else filter passes xs)) (sym is)
          (ap₂ (λ y ys. y ∷ ys) (same x is) (map_passing passes f g xs same))
      | inr not_it ↦
          subst (λ b. map f (if b then x ∷ filter passes xs else filter passes xs) ≡ map g (if b then x ∷ filter passes xs else filter passes xs)) (sym not_it)
          (map_passing passes f g xs same)
    ]

module _ (s : State) (n : ℕ) (r e : Image) (same : (p t : ℕ) → is_current s p ≡ true → r (member_slice p n) t ≡ e (member_slice p n) t) where
  pub super_still : (p : ℕ) → is_current s p ≡ true → super_in s r n p ≡ super_in s e n p
  super_still p current = super_of_sector s r e n p (same p super_sector current)

  pub truth_still : truth_in s r n ≡ truth_in s e n
  unfolding truth_in current_places
  truth_still =
      ap (λ (copies : List (Option Super)). foremost (λ t. t.events) copies)
      (map_passing (is_current s) (super_in s r n) (super_in s e n) _ super_still)

  member_still : (t : Super) (k : ℕ) → member_in s r n t k ≡ member_in s e n t k
  member_still t k =
      let p = unwrap_or (place_with t.roles.items k) 16 in
      elim (cases_Bool (is_current s p)) [
        | inl current ↦ ap (member_by t.size p (is_current s p)) (super_still p current)
        | inr gone ↦
            ap (λ b. member_by t.size p b (super_in s r n p)) gone
            ∙ sym (ap (λ b. member_by t.size p b (super_in s e n p)) gone)
      ]

  shape_by_still : (t : Super) → shape_by s r n t ≡ shape_by s e n t
  unfolding shape_by
  shape_by_still t =
      ap (λ (ms : List Member). record (shape_by s r n t) { members = ms })
      (map_same (member_in s r n t) (member_in s e n t) (range_with_len 0 t.raid_disks) (λ k. member_still t k))

  pub shape_still : shape_in s r n ≡ shape_in s e n
  shape_still = of (truth_in s r n) ∙ ap (λ (t : Option Super). option_map (shape_by s e n) t) truth_still
    where
      of : (o : Option Super) → option_map (shape_by s r n) o ≡ option_map (shape_by s e n) o
      of None = refl
      of (Some t) = ap Some (shape_by_still t)

  even_still : (shape : Shape) (resync : ℕ) → CountsOn s shape → AreEven shape n resync e → AreEven shape n resync r
  even_still shape resync counts even x inside synced all =
      let layout = layout_at shape x in
      let sector = sector_in layout x in
      subst (λ stripe. AgreeIn layout (there stripe))
      (sym (columns_same r e n sector (take (width layout) shape.members)
      (λ m among reached. same m.place (data_sector + sector) (counts m sector (among_take (width layout) shape.members m among) reached))))
      (even x inside synced all)

  sound_still : (shape : Shape) (t : Super) → shape_in s e n ≡ Some shape → CountsOn s shape → IsSoundArray s e n t → IsSoundArray s r n t
  sound_still shape t is counts sound = record {
    two = sound.two;
    written = sound.written;
    same = λ p q u v at_p at_q is_u is_v events.
        sound.same p q u v at_p at_q (sym (super_still p at_p) ∙ is_u) (sym (super_still q at_q) ∙ is_v) events;
    rebuilt = λ p u at_p is_u rebuilding. sound.rebuilt p u at_p (sym (super_still p at_p) ∙ is_u) rebuilding;
    even = λ joined other at.
        let before = sym shape_still ∙ at in
        even_still other (first_unsynced t) (subst (CountsOn s) (some_shape (sym is ∙ before)) counts) (sound.even joined other before);
  }
    where
      some_shape : {x y : Shape} → Some x ≡ Some y → x ≡ y
      some_shape {x} {y} both = ap (λ o. unwrap_or o x) both

  pub says_still : (shape : Shape) (vals : ℕ → Values) (spent : ℕ → Bool) → CountsOn s shape → ImageShowsArray s n shape vals spent e → ImageShowsArray s n shape vals spent r
  says_still shape vals spent counts says = record {
    shape_is = shape_still ∙ says.shape_is;
    value = λ y alive.
        subst (MayLeave (vals y))
        (sym (value_by_data shape r e n y (λ m among reached. same m.place (data_sector + sector_in (layout_at shape y) y) (counts m _ among reached))))
        (says.value y alive);
    is_sound = λ t is. sound_still shape t says.shape_is counts (says.is_sound t (sym truth_still ∙ is));
  }
