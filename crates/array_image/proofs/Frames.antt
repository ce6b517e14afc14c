-- What an array's shape and values go by: its own members' slices alone.
use Rattle.std.proofs.Common.{◌≡◌, ℕ, ◌+◌, ◌<◌, Bool, true, false, nat_lt, if◌then◌else◌, List, [], ◌∷◌, map, take, length, Option, Some, None, unwrap_or, inl, inr, ltb-true, refl, ap, ap₂, ◌∙◌, option_map}
use Rattle.std.specs.Result.{result_ok}
use Rattle.std.specs.List.{range_with_len}
use Rattle.rack.specs.Seen.{Image}
use Rattle.md_super.specs.declared.superblock.Super.{Super}
use Rattle.pool_state.specs.declared.contents.State.{State}
use Rattle.pool_state.specs.declared.contents.Copied.{Copied}
use Rattle.pool_state.specs.Sector.{decoded as state_decoded}
use Rattle.array_image.specs.Foremost.{foremost}
use Rattle.array_image.specs.Places.{log_slice, member_slice, super_sector, data_sector}
use Rattle.array_image.specs.Stripes.{width, sector_in, position_in, given}
use Rattle.array_image.specs.States.{epoch_of, copy_in, state_in, is_current, current_places}
use Rattle.array_image.specs.Supers.{is_super_of, only_if, super_of, super_in, truth_in}
use Rattle.array_image.specs.Held.{Among}
use Rattle.array_image.proofs.Settled.{among_take}
use Rattle.array_image.specs.Arrays.{Member, Shape, member_by, member_in, place_with, shape_by, shape_in, column, layout_at, value_by}

-- contents that agree on the slices of an array's members
abbrev pub Agree : ℕ → Image → Image → Type 0
Agree array c e = (place t : ℕ) → c (member_slice place array) t ≡ e (member_slice place array) t

-- lists of equal values are equal
pub map_same : {X Y : Type 0} (f g : X → Y) (xs : List X) → ((x : X) → f x ≡ g x) → map f xs ≡ map g xs
map_same f g [] same = refl
map_same f g (x ∷ xs) same = ap₂ (λ y ys. y ∷ ys) (same x) (map_same f g xs same)

-- the state goes by the first sectors of the log slices
pub state_same : (c e : Image) → ((place : ℕ) → c (log_slice place) 0 ≡ e (log_slice place) 0) → state_in c ≡ state_in e
unfolding state_in
state_same c e same =
    ap (λ (copies : List (Option Copied)). option_map (λ copy. copy.state) (foremost epoch_of copies))
    (map_same (copy_in c) (copy_in e) (range_with_len 0 16) (λ place. ap (λ block. result_ok (state_decoded block)) (same place)))

-- a superblock goes by its sector
pub super_of_sector : (s : State) (c e : Image) (array place : ℕ)
    → c (member_slice place array) super_sector ≡ e (member_slice place array) super_sector
    → super_in s c array place ≡ super_in s e array place
super_of_sector s c e array place same =
    ap (λ block. only_if (is_super_of s.pool.0 s.extent (length s.drives.items) array place) (super_of block)) same

-- contents that have the same valid superblocks of an array
abbrev pub SameSupers : State → ℕ → Image → Image → Type 0
SameSupers s array c e = (place : ℕ) → super_in s c array place ≡ super_in s e array place

pub supers_same : (s : State) (c e : Image) (array : ℕ) → Agree array c e → SameSupers s array c e
supers_same s c e array same place = super_of_sector s c e array place (same place super_sector)

-- the truth goes by the superblocks
pub truth_by_supers : (s : State) (c e : Image) (array : ℕ) → SameSupers s array c e → truth_in s c array ≡ truth_in s e array
unfolding truth_in
truth_by_supers s c e array same =
    ap (λ (copies : List (Option Super)). foremost (λ t. t.events) copies)
    (map_same (super_in s c array) (super_in s e array) (current_places s) same)

member_same : (s : State) (c e : Image) (array : ℕ) (t : Super) (n : ℕ) → SameSupers s array c e → member_in s c array t n ≡ member_in s e array t n
member_same s c e array t n same =
    let place = unwrap_or (place_with t.roles.items n) 16 in
    ap (member_by t.size place (is_current s place)) (same place)

shape_by_same : (s : State) (c e : Image) (array : ℕ) (t : Super) → SameSupers s array c e → shape_by s c array t ≡ shape_by s e array t
unfolding shape_by
shape_by_same s c e array t same =
    ap (λ (ms : List Member). record (shape_by s c array t) { members = ms })
    (map_same (member_in s c array t) (member_in s e array t) (range_with_len 0 t.raid_disks) (λ n. member_same s c e array t n same))

option_map_same : {X Y : Type 0} (f g : X → Y) (o : Option X) → ((x : X) → f x ≡ g x) → option_map f o ≡ option_map g o
option_map_same f g None same = refl
option_map_same f g (Some x) same = ap Some (same x)

-- and so does the shape
pub shape_by_supers : (s : State) (c e : Image) (array : ℕ) → SameSupers s array c e → shape_in s c array ≡ shape_in s e array
shape_by_supers s c e array same =
    option_map_same (shape_by s c array) (shape_by s e array) (truth_in s c array) (λ t. shape_by_same s c e array t same)
    ∙ ap (λ (t : Option Super). option_map (shape_by s e array) t) (truth_by_supers s c e array same)

pub shape_same : (s : State) (c e : Image) (array : ℕ) → Agree array c e → shape_in s c array ≡ shape_in s e array
shape_same s c e array same = shape_by_supers s c e array (supers_same s c e array same)

pub column_same : (c e : Image) (array sector : ℕ) (m : Member) → Agree array c e → column c array sector m ≡ column e array sector m
column_same c e array sector m same = ap (λ v. if nat_lt sector m.reach then Some v else None) (same m.place (data_sector + sector))

-- and each value
pub value_same : (shape : Shape) (c e : Image) (array x : ℕ) → Agree array c e → value_by shape c array x ≡ value_by shape e array x
unfolding value_by
value_same shape c e array x same =
    let layout = layout_at shape x in
    ap (λ stripe. given layout stripe (position_in layout x))
    (map_same (column c array (sector_in layout x)) (column e array (sector_in layout x)) (take (width layout) shape.members)
    (λ m. column_same c e array (sector_in layout x) m same))

-- a member's column goes by its sector, where it counts
column_by_data : (c e : Image) (array sector : ℕ) (m : Member)
    → (sector < m.reach → c (member_slice m.place array) (data_sector + sector) ≡ e (member_slice m.place array) (data_sector + sector))
    → column c array sector m ≡ column e array sector m
column_by_data c e array sector m same =
    let Same : Bool → Type 0 = λ b. nat_lt sector m.reach ≡ b → (if b then Some (c (member_slice m.place array) (data_sector + sector)) else None) ≡ (if b then Some (e (member_slice m.place array) (data_sector + sector)) else None) in
    let goal : Same (nat_lt sector m.reach) =
    elim (nat_lt sector m.reach) as Same [
      | true ↦ λ counts. ap Some (same (ltb-true sector m.reach counts))
      | false ↦ λ none. refl
    ] in
    goal refl

columns_by_data : (c e : Image) (array sector : ℕ) (members : List Member)
    → ((m : Member) → Among m members → sector < m.reach → c (member_slice m.place array) (data_sector + sector) ≡ e (member_slice m.place array) (data_sector + sector))
    → map (column c array sector) members ≡ map (column e array sector) members
columns_by_data c e array sector [] same = refl
columns_by_data c e array sector (m ∷ others) same =
    ap₂ (λ v vs. v ∷ vs) (column_by_data c e array sector m (same m (inl refl))) (columns_by_data c e array sector others (λ o among. same o (inr among)))

-- a value goes by the sectors of the members that count, at its sector of their data
pub value_by_data : (shape : Shape) (c e : Image) (array x : ℕ)
    → ((m : Member) → Among m shape.members → sector_in (layout_at shape x) x < m.reach
    → c (member_slice m.place array) (data_sector + sector_in (layout_at shape x) x) ≡ e (member_slice m.place array) (data_sector + sector_in (layout_at shape x) x))
    → value_by shape c array x ≡ value_by shape e array x
unfolding value_by
value_by_data shape c e array x same =
    let layout = layout_at shape x in
    ap (λ stripe. given layout stripe (position_in layout x))
    (columns_by_data c e array (sector_in layout x) (take (width layout) shape.members)
    (λ m among counts. same m (among_take (width layout) shape.members m among) counts))
