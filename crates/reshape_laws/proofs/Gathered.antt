-- The bytes that a call gathers for a new row: each piece is read when maybe others have gone, and the parity is their sum.
use Rattle.std.proofs.Common.{◌≡◌, ℕ, zero, suc, ◌+◌, ◌<◌, ◌≤◌, Bool, true, false, ◌==◌, if◌then◌else◌, List, ◌∷◌, map, length, refl, ap, ap₂, ◌∙◌, eq-eqb, arith}
use Rattle.std.proofs.lemmas.Bool.{both_ways}
use Rattle.std.specs.List.{range_with_len}
use Rattle.rack.specs.Seen.{Image, RackView}
use Rattle.raid_map.specs.LeftSymmetric.{parity_at}
use Rattle.parity.specs.Xor.{xor_all, zeros}
use Rattle.array_image.specs.Places.{member_slice, data_sector}
use Rattle.array_image.specs.Arrays.{Member, Shape, value_by}
use Rattle.array_image.specs.Even.{AreEven}
use Rattle.array_image.specs.Held.{Among}
use Rattle.array_model.specs.View.{View, IsArray, shape_of, spent_in}
use Rattle.array_model.specs.Members.{Notes}
use Rattle.array_model.proofs.Noting.{laid_out, losing_by, shape_noted, unspent_then}
use Rattle.array_model.proofs.Spared.{lost_value}
use Rattle.reshape_laws.specs.Ahead.{data_piece, row_parity, sector_on}

-- a sector that is read after losses, and isn't spent then, has the value that it had before them
pub read_before : (v u : View) (a b : RackView) (c : Image) (x : ℕ) → IsArray v → Notes v u a b
    → ((m : Member) (t : ℕ) → Among m (shape_of v).members → t < m.reach → length (c (member_slice m.place v.number) (data_sector + t)) ≡ 512)
    → AreEven (shape_of v) v.number v.resync c → spent_in u x ≡ false
    → value_by (shape_of u) c v.number x ≡ value_by (shape_of v) c v.number x
read_before v u a b c x is_array notes sized even unspent =
    ap (λ (shape : Shape). value_by shape c v.number x) (shape_noted v u a b notes)
    ∙ lost_value notes.lost (shape_of v) v.number v.resync c x (laid_out v is_array) even sized
    (unspent_then v u notes.lost (losing_by v u a b notes) x unspent)

map_below : (f g : ℕ → List ℕ) (b m k : ℕ) → b + m ≤ k → ((j : ℕ) → j < k → f j ≡ g j) → map f (range_with_len b m) ≡ map g (range_with_len b m)
map_below f g b zero k fits same = refl
map_below f g b (suc m) k fits same = ap₂ (λ x xs. x ∷ xs) (same b (omega (arith, fits))) (map_below f g (b + 1) m k (omega (arith, fits)) same)

-- the pieces' sum is the row's parity
pub parity_of_pieces : (f : Shape) (n : ℕ) (c : Image) (k t : ℕ) (pieces : ℕ → List ℕ) (sum : List ℕ)
    → ((j : ℕ) → j < k → (j ≡ parity_at k t → ⊥) → pieces j ≡ value_by f c n (sector_on k j t))
    → sum ≡ xor_all 512 (map (λ j. if j == parity_at k t then zeros 512 else pieces j) (range_with_len 0 k))
    → sum ≡ row_parity f n c k t
unfolding row_parity
parity_of_pieces f n c k t pieces sum are is =
    is ∙ ap (xor_all 512) (map_below (λ j. if j == parity_at k t then zeros 512 else pieces j) (data_piece f n c k t) 0 k k (omega arith) (λ j low. each j low (j == parity_at k t) refl))
  where
    each : (j : ℕ) → j < k → (b : Bool) → (j == parity_at k t) ≡ b → (if b then zeros 512 else pieces j) ≡ (if b then zeros 512 else value_by f c n (sector_on k j t))
    each j low true at = refl
    each j low false at = are j low (λ same. both_ways (j == parity_at k t) at (eq-eqb j (parity_at k t) same))
