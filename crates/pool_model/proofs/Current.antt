-- What contents say of an array goes by its superblocks on current places, and by the data of members that have one there.
use Rattle.std.proofs.Common.{◌≡◌, ℕ, ◌+◌, ◌<◌, Bool, true, false, nat_lt, if◌then◌else◌, List, [], ◌∷◌, filter, map, take, length, Option, Some, None, option_map, unwrap_or, inl, inr, ltb-true, refl, sym, ap, ap₂, subst, ◌∙◌, arith}
use Rattle.std.specs.Option.{option_map_or}
use Rattle.std.specs.List.{range_with_len}
use Rattle.std.proofs.lemmas.Option.{none-some}
use Rattle.rack.specs.Seen.{Image}
use Rattle.md_super.specs.declared.superblock.Super.{Super}
use Rattle.pool_state.specs.declared.contents.State.{State}
use Rattle.array_image.specs.Arrays.{Member, Shape, array_in, column, layout_at, member_by, member_in, place_with, reach_of, shape_by, shape_in, value_by}
use Rattle.array_image.specs.Even.{AreEven}
use Rattle.array_image.specs.Foremost.{foremost}
use Rattle.array_image.specs.Held.{Among}
use Rattle.array_image.specs.Places.{data_sector, member_slice}
use Rattle.array_image.specs.SoundArray.{IsSoundArray, first_unsynced}
use Rattle.array_image.specs.States.{current_places, is_current}
use Rattle.array_image.specs.Stripes.{AgreeIn, sector_in, there, width}
use Rattle.array_image.specs.Supers.{super_in, truth_in}
use Rattle.array_image.proofs.Frames.{map_same, value_by_data}
use Rattle.array_image.proofs.Settled.{among_take}
use Rattle.array_core.proofs.Stripped.{some_same}

-- the same valid superblocks of an array on current places
abbrev pub SameCurrent : State → ℕ → Image → Image → Type 0
SameCurrent s n c e = (p : ℕ) → is_current s p ≡ true → super_in s c n p ≡ super_in s e n p

-- the same slices where a current place has one
abbrev pub SameMembers : State → ℕ → Image → Image → Type 0
SameMembers s n c e = (p : ℕ) (u : Super) → is_current s p ≡ true → super_in s e n p ≡ Some u → (t : ℕ) → c (member_slice p n) t ≡ e (member_slice p n) t

map_filtered : {X : Type 0} (f g : ℕ → X) (keep : ℕ → Bool) (xs : List ℕ) → ((x : ℕ) → keep x ≡ true → f x ≡ g x) → map f (filter keep xs) ≡ map g (filter keep xs)
map_filtered f g keep [] same = refl
map_filtered {X} f g keep (x ∷ xs) same = of (keep x) refl (map_filtered f g keep xs same)
  where
    of : (b : Bool) → keep x ≡ b → map f (filter keep xs) ≡ map g (filter keep xs)
        → map f (if b then x ∷ filter keep xs else filter keep xs) ≡ map g (if b then x ∷ filter keep xs else filter keep xs)
    of true is rest = ap₂ (λ y ys. y ∷ ys) (same x is) rest
    of false is rest = rest

-- the truth that a shape goes by
pub shape_truth : (s : State) (c : Image) (n : ℕ) (o : Option Super) (shape : Shape) → option_map (shape_by s c n) o ≡ Some shape
    → (t : Super) × (o ≡ Some t) × (shape ≡ shape_by s c n t)
shape_truth s c n None shape is = absurd (none-some shape is)
shape_truth s c n (Some t) shape is = (t, refl, some_same shape (shape_by s c n t) (sym is))

-- a member that counts somewhere is on a current place that has its superblock
among_map : (f : ℕ → Member) (m : Member) (xs : List ℕ) → Among m (map f xs) → (k : ℕ) × (m ≡ f k)
among_map f m [] among = absurd among
among_map f m (x ∷ xs) (inl here) = (x, here)
among_map f m (x ∷ xs) (inr later) = among_map f m xs later

counts_by : (size sector : ℕ) (current : Bool) (o : Option Super) → sector < (if current then option_map_or (reach_of size) o 0 else 0)
    → (current ≡ true) × (u : Super) × (o ≡ Some u)
counts_by size sector true (Some u) counts = (refl, u, refl)
counts_by size sector true None counts = absurd (omega (arith, counts))
counts_by size sector false o counts = absurd (omega (arith, counts))

pub counts_there : (s : State) (c : Image) (n : ℕ) (t : Super) (m : Member) (sector : ℕ) → Among m (shape_by s c n t).members → sector < m.reach
    → (is_current s m.place ≡ true) × (u : Super) × (super_in s c n m.place ≡ Some u)
unfolding shape_by
counts_there s c n t m sector among counts =
    let one = among_map (member_in s c n t) m (range_with_len 0 t.raid_disks) among in
    let place = unwrap_or (place_with t.roles.items one.0) 16 in
    let by = counts_by t.size sector (is_current s place) (super_in s c n place) (subst (λ (k : Member). sector < k.reach) one.1 counts) in
    let here : m.place ≡ place = ap (λ (k : Member). k.place) one.1 in
    (ap (is_current s) here ∙ by.0, by.1, ap (super_in s c n) here ∙ by.2)

module _ (s : State) (c e : Image) (n : ℕ) (same : SameCurrent s n c e) where
  pub truth_current : truth_in s c n ≡ truth_in s e n
  unfolding truth_in current_places
  truth_current =
      ap (λ (copies : List (Option Super)). foremost (λ t. t.events) copies)
      (map_filtered (super_in s c n) (super_in s e n) (is_current s) (range_with_len 0 (length s.drives.items)) same)

  member_current : (t : Super) (k : ℕ) → member_in s c n t k ≡ member_in s e n t k
  member_current t k = of (is_current s place) refl
    where
      place : ℕ
      place = unwrap_or (place_with t.roles.items k) 16

      of : (b : Bool) → is_current s place ≡ b → member_by t.size place b (super_in s c n place) ≡ member_by t.size place b (super_in s e n place)
      of true is = ap (member_by t.size place true) (same place is)
      of false is = refl

  shape_by_current : (t : Super) → shape_by s c n t ≡ shape_by s e n t
  unfolding shape_by
  shape_by_current t =
      ap (λ (ms : List Member). record (shape_by s c n t) { members = ms })
      (map_same (member_in s c n t) (member_in s e n t) (range_with_len 0 t.raid_disks) (member_current t))

  pub shape_current : shape_in s c n ≡ shape_in s e n
  shape_current = of (truth_in s c n) ∙ ap (λ (o : Option Super). option_map (shape_by s e n) o) truth_current
    where
      of : (o : Option Super) → option_map (shape_by s c n) o ≡ option_map (shape_by s e n) o
      of None = refl
      of (Some t) = ap Some (shape_by_current t)

  module _ (members : SameMembers s n c e) where
    data_current : (shape : Shape) → shape_in s e n ≡ Some shape → (m : Member) (sector : ℕ) → Among m shape.members → sector < m.reach
        → c (member_slice m.place n) (data_sector + sector) ≡ e (member_slice m.place n) (data_sector + sector)
    data_current shape is m sector among counts =
        let by = shape_truth s e n (truth_in s e n) shape is in
        let there = counts_there s e n by.0 m sector (subst (λ (z : Shape). Among m z.members) by.2 among) counts in
        members m.place there.1 there.0 there.2 (data_sector + sector)

    value_current : (shape : Shape) (x : ℕ) → shape_in s e n ≡ Some shape → value_by shape c n x ≡ value_by shape e n x
    value_current shape x is =
        value_by_data shape c e n x (λ m among counts. data_current shape is m (sector_in (layout_at shape x) x) among counts)

    pub array_current : (x : ℕ) → array_in s c n x ≡ array_in s e n x
    array_current x = ap (λ (o : Option Shape). option_map_or (λ shape. value_by shape c n x) o []) shape_current ∙ of (shape_in s e n) refl
      where
        of : (o : Option Shape) → shape_in s e n ≡ o → option_map_or (λ shape. value_by shape c n x) o [] ≡ option_map_or (λ shape. value_by shape e n x) o []
        of None is = refl
        of (Some shape) is = value_current shape x is

    columns_current : (sector : ℕ) (ms : List Member)
        → ((m : Member) → Among m ms → sector < m.reach → c (member_slice m.place n) (data_sector + sector) ≡ e (member_slice m.place n) (data_sector + sector))
        → map (column c n sector) ms ≡ map (column e n sector) ms
    columns_current sector [] agree = refl
    columns_current sector (m ∷ ms) agree =
        ap₂ (λ v vs. v ∷ vs) (of (nat_lt sector m.reach) refl) (columns_current sector ms (λ k among counts. agree k (inr among) counts))
      where
        of : (b : Bool) → nat_lt sector m.reach ≡ b
            → (if b then Some (c (member_slice m.place n) (data_sector + sector)) else None) ≡ (if b then Some (e (member_slice m.place n) (data_sector + sector)) else None)
        of true counts = ap Some (agree m (inl refl) (ltb-true sector m.reach counts))
        of false none = refl

    even_current : (shape : Shape) (left : ℕ) → shape_in s e n ≡ Some shape → AreEven shape n left e → AreEven shape n left c
    even_current shape left is even x small row all =
        let layout = layout_at shape x in
        subst (λ stripe. AgreeIn layout (there stripe))
        (sym (columns_current (sector_in layout x) (take (width layout) shape.members)
        (λ m among counts. data_current shape is m (sector_in layout x) (among_take (width layout) shape.members m among) counts)))
        (even x small row all)

    pub sound_current : (t : Super) → IsSoundArray s e n t → IsSoundArray s c n t
    sound_current t sound = record {
      two = sound.two;
      written = sound.written;
      same = λ p q u v p_is q_is u_is v_is events. sound.same p q u v p_is q_is (sym (same p p_is) ∙ u_is) (sym (same q q_is) ∙ v_is) events;
      rebuilt = λ p u p_is u_is rebuilds. sound.rebuilt p u p_is (sym (same p p_is) ∙ u_is) rebuilds;
      even = λ joined shape is.
          let there : shape_in s e n ≡ Some shape = sym shape_current ∙ is in
          even_current shape (first_unsynced t) there (sound.even joined shape there);
    }
