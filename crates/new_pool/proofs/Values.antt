-- What the arrays of a new pool hold.
use Rattle.std.proofs.Common.{◌≡◌, ℕ, zero, suc, ◌+◌, ◌-◌, ◌*◌, ◌<◌, ◌≤◌, ◌==◌, ◌&&◌, not, Bool, true, false, List, [], ◌∷◌, map, length, slice_get, take, count_by, if◌then◌else◌, Option, Some, option_map, unwrap_or, refl, sym, ap, subst, ◌∙◌, inl, inr, eq-eqb, eqb-true, arith}
use Rattle.std.specs.Option.{option_map_or}
use Rattle.std.specs.List.{range_with_len}
use Rattle.std.proofs.Math.Nat.{mul_assoc, mul_comm}
use Rattle.std.proofs.lemmas.Bool.{both_ways, cases_lt}
use Rattle.std.proofs.lemmas.List.Sums.{sum_by-cons}
use Rattle.parity.specs.Xor.{xor_all}
use Rattle.rack.specs.Seen.{Image}
use Rattle.md_super.specs.declared.superblock.Super.{Super}
use Rattle.pool_state.specs.declared.contents.State.{State}
use Rattle.array_image.specs.Stripes.{Layout, at_position, capacity, first_there, given, position_in, sector_in, there, without}
use Rattle.array_image.specs.Supers.{is_rebuilding, super_in, truth_in}
use Rattle.array_image.specs.Arrays.{Member, Shape, column, member_in, place_with, sectors_by, shape_by, shape_in, stripe_in, value_by}
use Rattle.raid_map.specs.LeftSymmetric.{IsMemberCount, member_of, row_of, sector_of}
use Rattle.raid_map.proofs.Rows.{row_members_differ, rows_are_apart}
use Rattle.pool_image.specs.Disks.{Disks}
use Rattle.pool_image.specs.Drives.{Found, slices_of}
use Rattle.pool_image.specs.Meaning.{array_sectors, arrays_held, lacking_of}
use Rattle.pool_format.specs.declared.Birth.{Birth}
use Rattle.pool_format.specs.declared.planning.NewArray.{NewArray}
use Rattle.pool_format.specs.declared.planning.NewPool.{NewPool}
use Rattle.pool_format.specs.Data.{array_sector}
use Rattle.pool_format.specs.Parts.{new_state, new_super}
use Rattle.pool_format.specs.Plan.{has}
use Rattle.new_array.proofs.Extents.{extent_chunks}
use Rattle.pool_format.proofs.Founded.{drive_current}
use Rattle.pool_format.proofs.Opening.{members_few}
use Rattle.new_pool.specs.Contents.{IsNewPool}
use Rattle.new_pool.proofs.Founds.{shown}
use Rattle.new_pool.proofs.Rows.{columns}
use Rattle.new_pool.proofs.Sound.{among_at, column_at, data_at, layout_by, new_array, same_layout, super_at, value}
use Rattle.new_pool.proofs.Truths.{array_is, member_low}

-- the sector of a position among those that are all there
at_among : (h : ℕ → Option (List ℕ)) (a k j : ℕ) → j < k → at_position j (map h (range_with_len a k)) ≡ h (a + j)
unfolding at_position
at_among h a zero j low = absurd (omega (arith, low))
at_among h a (suc k) zero low = let same : a ≡ a + zero = omega arith in ap h same
at_among h a (suc k) (suc j) low = let next : a + 1 + j ≡ a + suc j = omega arith in at_among h (a + 1) k j (omega (arith, low)) ∙ ap h next

mapped : {X Y : Type 0} (f : X → Y) (g : ℕ → X) (a k : ℕ) → map f (take k (map g (range_with_len a k))) ≡ map (λ j. f (g j)) (range_with_len a k)
mapped f g a zero = refl
mapped f g a (suc k) = ap (λ xs. f (g a) ∷ xs) (mapped f g (a + 1) k)

-- how many aren't whole
abbrev lacking_in : List Member → ℕ
lacking_in members = count_by (λ m. not m.is_whole) members

none_counted : (h : ℕ → Member) (a k : ℕ) → ((j : ℕ) → a ≤ j → j < a + k → (h j).is_whole ≡ true) → lacking_in (map h (range_with_len a k)) ≡ 0
none_counted h a zero whole = refl
none_counted h a (suc k) whole =
    sum_by-cons (λ (m : Member). if not m.is_whole then 1 else 0) (h a) (map h (range_with_len (a + 1) k))
    ∙ ap (λ b. (if not b then 1 else 0) + lacking_in (map h (range_with_len (a + 1) k))) (whole a (omega arith) (omega arith))
    ∙ ap (λ m. 0 + m) (none_counted h (a + 1) k (λ j least low. whole j (omega (arith, least)) (omega (arith, low))))

first_of : (w : ℕ → List ℕ) (k : ℕ) → 0 < k → first_there (map w (range_with_len 0 k)) ≡ w 0
first_of w zero some = absurd (omega (arith, some))
first_of w (suc k) some = refl

swapped : (r m : ℕ) → r * m * 128 ≡ m * (r * 128)
swapped r m = ap (λ v. v * 128) (mul_comm r m) ∙ mul_assoc m r 128

module _ (plan : NewPool) (birth : Birth) (disks : Disks) (c : Image) (is : IsNewPool plan birth disks c) (n : ℕ) (a : NewArray) (at : slice_get plan.arrays.items n ≡ Some a) where
  abbrev f : Found
  f = shown plan birth disks c is

  abbrev s : State
  s = new_state plan birth

  abbrev slices : Image
  slices = slices_of f

  abbrev k : ℕ
  k = length a.members.items

  pub first : ℕ
  first = ((new_array plan birth disks c is n a at).1).is_new.place

  pub is_member : has a.members.items first ≡ true
  unfolding first
  is_member = ((new_array plan birth disks c is n a at).1).is_new.among

  abbrev u : Super
  u = new_super birth a n first

  pub truth_now : truth_in s slices n ≡ Some u
  unfolding first
  truth_now = ((new_array plan birth disks c is n a at).1).truth_is ∙ ap Some ((new_array plan birth disks c is n a at).1).is_new.is_new

  abbrev pub shape : Shape
  shape = shape_by s slices n u

  pub shape_is : shape_in s slices n ≡ Some shape
  shape_is = ap (option_map (shape_by s slices n)) truth_now

  whole_at : (j : ℕ) → j < k → (member_in s slices n u j).is_whole ≡ true
  whole_at j low =
      let place = unwrap_or (place_with u.roles.items j) 16 in
      let among = among_at plan birth disks c is n a at first is_member j low in
      let drive = member_low plan birth disks c is n a at place among in
      ap (λ b. b && option_map_or (λ (own : Super). not (is_rebuilding own)) (super_in s slices n place) false) (drive_current plan birth is.is_plan place (subst (λ m. place < m) is.count drive))
      ∙ ap (λ o. option_map_or (λ (own : Super). not (is_rebuilding own)) o false) (super_at plan birth disks c is n a at place among)

  pub none_lacks : lacking_of shape ≡ 0
  unfolding shape_by
  none_lacks = none_counted (member_in s slices n u) 0 k (λ j least low. whole_at j (omega (arith, low)))

  abbrev layout : Bool → Layout
  layout = layout_by plan birth disks c is n a at first is_member

  sectors_two : (b : Bool) → (k == 2) ≡ b → capacity (layout b) a.size ≡ (k - 1) * a.size
  sectors_two true two = let same = eqb-true k 2 two in let one : 1 * a.size ≡ a.size = omega arith in sym (ap (λ m. (m - 1) * a.size) same ∙ one)
  sectors_two false more = refl

  pub sectors_now : array_sectors f n ≡ (k - 1) * a.size
  unfolding shape_by
  sectors_now = ap (λ o. option_map_or sectors_by o 0) shape_is ∙ sectors_two (k == 2) refl

  value_two : (x : ℕ) → x < (k - 1) * a.size → (b : Bool) → (k == 2) ≡ b
      → given (layout b) (stripe_in slices n shape (layout b) (sector_in (layout b) x)) (position_in (layout b) x) ≡ array_sector plan birth n x
  unfolding given shape_by
  value_two x inside true two =
      let same = eqb-true k 2 two in
      let low : x < 1 * a.size = subst (λ m. x < (m - 1) * a.size) same inside in
      let small : x < a.size = omega (arith, low) in
      ap first_there (columns slices n x (member_in s slices n u) (value plan birth disks c is n a at first is_member x) 0 k
      (λ j least less. column_at plan birth disks c is n a at first is_member x j small (omega (arith, less))))
      ∙ first_of (value plan birth disks c is n a at first is_member x) k (omega (arith, same))
      ∙ (data_at plan birth disks c is n a at first is_member x 0 small (omega (arith, same))).mirror same
  value_two x inside false more =
      let one = array_is plan birth disks c is n a at in
      let least = one.least in
      let wide : 2 < k = elim (cases_lt 2 k) [ inl less ↦ less | inr few ↦ absurd (both_ways (k == 2) more (eq-eqb k 2 (omega (arith, least, few)))) ] in
      let many = members_few a plan.extent (length plan.units.items) one is.is_plan.most in
      let count : IsMemberCount k = record { least = least; most = many } in
      let chunks = extent_chunks plan.extent is.is_plan.extent in
      let r : ℕ = one.height * chunks.0 + 16 in
      let rows : a.size ≡ r * 128 = one.size_is ∙ ap (λ e. one.height * e + 2048) chunks.1 ∙ ap (λ v. v + 2048) (sym (mul_assoc one.height chunks.0 128)) ∙ omega arith in
      let apart = rows_are_apart k count in
      let row : row_of k x < r = (apart.array_end x r).1 (subst (λ v. x < v) (ap (λ v. (k - 1) * v) rows ∙ sym (swapped r (k - 1))) inside) in
      let t : ℕ = sector_of k x in
      let low : t < a.size = subst (λ v. t < v) (sym rows) ((apart.members_end t r).0 (subst (λ v. v < r) (sym (apart.row x)) row)) in
      let m : ℕ = member_of k x in
      let member : m < k = (row_members_differ k count).is_member x in
      ap (λ st. option_map_or (λ v. v) (at_position m st) (xor_all 512 (there (without m (map (column slices n t) (take k (map (member_in s slices n u) (range_with_len 0 k)))))))) (mapped (column slices n t) (member_in s slices n u) 0 k)
      ∙ ap (λ o. option_map_or (λ v. v) o (xor_all 512 (there (without m (map (column slices n t) (take k (map (member_in s slices n u) (range_with_len 0 k))))))))
      (at_among (λ j. column slices n t (member_in s slices n u j)) 0 k m member ∙ ap (λ j. column slices n t (member_in s slices n u j)) (let same : 0 + m ≡ m = omega arith in same)
      ∙ column_at plan birth disks c is n a at first is_member t m low member)
      ∙ (data_at plan birth disks c is n a at first is_member t m low member).own wide x (record { on_member = refl; at_sector = refl })

  pub value_now : (x : ℕ) → x < (k - 1) * a.size → arrays_held f n x ≡ array_sector plan birth n x
  unfolding value_by
  value_now x inside =
      ap (λ o. option_map_or (λ (sh : Shape). value_by sh slices n x) o []) shape_is
      ∙ ap (λ l. given l (stripe_in slices n shape l (sector_in l x)) (position_in l x)) (same_layout plan birth disks c is n a at first is_member x)
      ∙ value_two x inside (k == 2) refl
