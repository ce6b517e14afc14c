-- An array's shape and superblocks go by its members' superblocks alone.
use Rattle.std.proofs.Common.{◌≡◌, ℕ, ◌+◌, ◌/◌, ◌<◌, ◌≤◌, inl, inr, [], ◌∷◌, Bool, true, false, nat_lt, if◌then◌else◌, List, map, Option, Some, None, unwrap_or, option_map, refl, sym, ap, ap₂, ◌∙◌, ltb-true, ltb-false, arith}
use Rattle.std.specs.List.{range_with_len}
use Rattle.rack.specs.Seen.{Image}
use Rattle.md_super.specs.declared.superblock.Super.{Super}
use Rattle.pool_state.specs.declared.contents.State.{State}
use Rattle.array_image.specs.Places.{member_slice, super_sector, data_sector}
use Rattle.array_image.specs.Arrays.{Member, Shape, column, member_by, member_in, place_with, shape_by, shape_in}
use Rattle.array_image.specs.States.{is_current}
use Rattle.array_image.specs.Supers.{super_in, truth_in, is_unclean}
use Rattle.array_image.specs.Even.{AreEven}
use Rattle.array_image.specs.SoundArray.{IsSoundArray, first_unsynced}
use Rattle.array_image.proofs.Frames.{super_of_sector, truth_by_supers}
use Rattle.array_image.specs.Held.{Among}
use Rattle.array_image.proofs.Frames.{map_same}

-- contents with the same superblocks' sectors of an array
abbrev pub SameSectors : ℕ → Image → Image → Type 0
SameSectors array c e = (place : ℕ) → c (member_slice place array) super_sector ≡ e (member_slice place array) super_sector

pub super_at : (s : State) (c e : Image) (array place : ℕ) → SameSectors array c e → super_in s c array place ≡ super_in s e array place
super_at s c e array place same = super_of_sector s c e array place (same place)

pub truth_at : (s : State) (c e : Image) (array : ℕ) → SameSectors array c e → truth_in s c array ≡ truth_in s e array
truth_at s c e array same = truth_by_supers s c e array (λ place. super_at s c e array place same)

shape_by_at : (s : State) (c e : Image) (array : ℕ) (t : Super) → SameSectors array c e → shape_by s c array t ≡ shape_by s e array t
unfolding shape_by
shape_by_at s c e array t same =
    ap (λ (ms : List Member). record (shape_by s c array t) { members = ms })
    (map_same (member_in s c array t) (member_in s e array t) (range_with_len 0 t.raid_disks)
    (λ n.
    let place = unwrap_or (place_with t.roles.items n) 16 in
    ap (member_by t.size place (is_current s place)) (super_at s c e array place same)))

map_at : (f g : Super → Shape) (o : Option Super) → ((t : Super) → f t ≡ g t) → option_map f o ≡ option_map g o
map_at f g None same = refl
map_at f g (Some t) same = ap Some (same t)

pub shape_at : (s : State) (c e : Image) (array : ℕ) → SameSectors array c e → shape_in s c array ≡ shape_in s e array
shape_at s c e array same =
    map_at (shape_by s c array) (shape_by s e array) (truth_in s c array) (λ t. shape_by_at s c e array t same)
    ∙ ap (λ (t : Option Super). option_map (shape_by s e array) t) (truth_at s c e array same)

-- superblocks that agree, where the rows do that they leave in sync
pub sound_with : (s : State) (c e : Image) (array : ℕ) (t : Super) → SameSectors array c e
    → ((shape : Shape) → shape_in s c array ≡ Some shape → AreEven shape array (first_unsynced t) c) → IsSoundArray s e array t → IsSoundArray s c array t
sound_with s c e array t same even sound =
    record {
      two = sound.two;
      written = sound.written;
      same = λ p q u v at_p at_q is_u is_v events.
          sound.same p q u v at_p at_q (sym (super_at s c e array p same) ∙ is_u) (sym (super_at s c e array q same) ∙ is_v) events;
      rebuilt = λ p u at_p is_u rebuilding. sound.rebuilt p u at_p (sym (super_at s c e array p same) ∙ is_u) rebuilding;
      even = λ joined. even;
    }

-- no row must agree where all are left to resync
pub even_unsynced : (shape : Shape) (array : ℕ) (t : Super) (c : Image) → t.resync_offset ≡ 0 → AreEven shape array (first_unsynced t) c
even_unsynced shape array t c marked x inside synced = absurd (no_row (is_unclean t) refl synced)
  where
    no_row : {k : ℕ} (b : Bool) → is_unclean t ≡ b → k < (if b then t.resync_offset / 128 else t.size / 128) → ⊥
    no_row true is below = omega (arith, marked, below)
    no_row false is below = let none : t.size ≤ t.resync_offset = ltb-false t.resync_offset t.size is in omega (arith, marked, none, below)

-- columns whose sectors are equal where they count are equal
pub columns_same : (c e : Image) (array sector : ℕ) (members : List Member)
    → ((m : Member) → Among m members → sector < m.reach → c (member_slice m.place array) (data_sector + sector) ≡ e (member_slice m.place array) (data_sector + sector))
    → map (column c array sector) members ≡ map (column e array sector) members
columns_same c e array sector [] same = refl
columns_same c e array sector (m ∷ others) same =
    let Goal : Bool → Type 0 = λ b. nat_lt sector m.reach ≡ b
    → (if b then Some (c (member_slice m.place array) (data_sector + sector)) else None) ≡ (if b then Some (e (member_slice m.place array) (data_sector + sector)) else None) in
    let goal : Goal (nat_lt sector m.reach) =
    elim (nat_lt sector m.reach) as Goal [
      | true ↦ λ counts. ap Some (same m (inl refl) (ltb-true sector m.reach counts))
      | false ↦ λ none. refl
    ] in
    ap₂ (λ v vs. v ∷ vs) (goal refl) (columns_same c e array sector others (λ o among. same o (inr among)))
