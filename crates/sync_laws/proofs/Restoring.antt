-- A member's row that the others give: what is read, and the targets that are made of it.
use Rattle.std.proofs.Common.{◌≡◌, ℕ, zero, suc, ◌+◌, ◌-◌, ◌*◌, ◌<◌, ◌≤◌, Bool, true, false, ◌&&◌, ◌||◌, not, nat_lt, if◌then◌else◌, List, [], ◌∷◌, ◌++◌, map, take, length, refl, sym, ap, ap₂, subst, ◌∙◌, inl, inr, lt-ltb, ltb-true, arith}
use Rattle.std.proofs.lemmas.Bool.{both_ways, cases_eq, cases_lt}
use Rattle.std.specs.List.{range_with_len}
use Rattle.rack.specs.Seen.{Image, RackView}
use Rattle.rack.specs.Sequences.{OnlyReads}
use Rattle.rack.specs.Targets.{Target, target}
use Rattle.raid_map.specs.LeftSymmetric.{row_at}
use Rattle.array_image.specs.Places.{data_sector}
use Rattle.array_image.specs.Stripes.{Layout, width, given}
use Rattle.array_image.specs.Arrays.{Member, column}
use Rattle.array_image.specs.Held.{current_in}
use Rattle.array_image.specs.Marks.{unless_gone}
use Rattle.array_image.specs.Spent.{wanting, spent_with}
use Rattle.array_model.specs.View.{View, IsArray, LosesPlaces, member_on, place_at, shape_of}
use Rattle.array_model.specs.Says.{IsOpen}
use Rattle.array_model.specs.Members.{IsSameButSeats, Notes, member_spent, members_of, restored, row_layout, row_of, slice_on}
use Rattle.array_model.proofs.Firsts.{firsts, take_firsts}
use Rattle.array_model.proofs.Layouts.{row_layout_is}
use Rattle.array_model.proofs.Reading.{column_wanting, given_kept, open_calls, restored_others, row_layout_then}
use Rattle.array_model.proofs.Spared.{at_most_one, wanting_more}
use Rattle.array_model.proofs.Views.{member_then, members_then}
use Rattle.array_core.proofs.Seating.{map_made}
use Rattle.sync_laws.specs.Rows.{AddsCopies, IsGiven, OfMember, row_spent}
use Rattle.sync_laws.proofs.Copying.{copies_by, copies_then, one_target}
use Rattle.sync_laws.proofs.Others.{others_count, stays_lacking}
use Rattle.sync_laws.proofs.Summing.{wanting_later}

-- ---- rows by position

pub same_made : {X : Type 0} (f h : ℕ → X) (a n : ℕ) → ((j : ℕ) → a ≤ j → j < a + n → f j ≡ h j) → map f (range_with_len a n) ≡ map h (range_with_len a n)
same_made f h a zero same = refl
same_made f h a (suc n) same =
    ap₂ (λ x xs. x ∷ xs) (same a (omega arith) (omega arith)) (same_made f h (a + 1) n (λ j least most. same j (omega (arith, least)) (omega (arith, most))))

-- rows whose members' sectors are equal
pub same_row : (v w : View) (c e : Image) (n m t k : ℕ) → ((j : ℕ) → j < k → column c n t (member_on w j) ≡ column e m t (member_on v j))
    → map (column c n t) (firsts w k) ≡ map (column e m t) (firsts v k)
same_row v w c e n m t k same =
    map_made (member_on w) (column c n t) (λ j. column c n t (member_on w j)) (λ j. refl) (range_with_len 0 k)
    ∙ same_made (λ j. column c n t (member_on w j)) (λ j. column e m t (member_on v j)) 0 k (λ j least most. same j (omega (arith, most)))
    ∙ sym (map_made (member_on v) (column e m t) (λ j. column e m t (member_on v j)) (λ j. refl) (range_with_len 0 k))

-- the first members of an array
pub row_firsts : (v : View) (c : Image) (n t : ℕ) (layout : Layout) → width layout ≤ v.truth.raid_disks
    → map (column c n t) (take (width layout) (members_of v)) ≡ map (column c n t) (firsts v (width layout))
row_firsts v c n t layout most = ap (map (column c n t)) (take_firsts v (width layout) v.truth.raid_disks most)

-- ---- after losses

-- a row gives a position that doesn't count what it gave, where nobody else is wanting
given_left : (v w : View) (c : Image) (lost : ℕ → Bool) (p t : ℕ) → IsArray v → IsSameButSeats v w → LosesPlaces v w lost → p < v.truth.raid_disks
    → nat_lt t (member_on v p).reach ≡ false → wanting t (members_of w) ≤ 1
    → given (row_layout w t) (row_of w c t) p ≡ given (row_layout v t) (row_of v c t) p
given_left v w c lost p t is_array same loses low lacks few =
    let layout = row_layout v t in
    let most : width layout ≤ v.truth.raid_disks = (row_layout_is v t is_array).most in
    let count : w.truth.raid_disks ≡ v.truth.raid_disks = ap (λ u. u.raid_disks) same.truth in
    let most_w : width layout ≤ w.truth.raid_disks = omega (arith, most, count) in
    ap (λ (l : Layout). given l (map (column c w.number t) (take (width l) (members_of w))) p) (row_layout_then v w t same.truth)
    ∙ ap (λ stripe. given layout stripe p)
    (row_firsts w c w.number t layout most_w
    ∙ same_row v w c c w.number v.number t (width layout) (λ j inside. ap (λ n. column c n t (member_on w j)) same.number ∙ kept j (omega (arith, inside, most)) count)
    ∙ sym (row_firsts v c v.number t layout most))
  where
    unlost : (b : Bool) (m : Member) → t < (if b then 0 else m.reach) → unless_gone b m ≡ m
    unlost true m counts = absurd (omega (arith, counts))
    unlost false m counts = refl

    kept : (j : ℕ) → j < v.truth.raid_disks → w.truth.raid_disks ≡ v.truth.raid_disks → column c v.number t (member_on w j) ≡ column c v.number t (member_on v j)
    kept j inside count = elim (cases_eq j p) [
      | inl at ↦
          subst (λ (k : ℕ). column c v.number t (member_on w k) ≡ column c v.number t (member_on v k)) (sym at)
          (subst (λ (n : ℕ). column c n t (member_on w p) ≡ column c v.number t (member_on v p)) same.number
          (column_wanting w c p t (stays_lacking v w lost p t same.truth loses lacks) ∙ sym (column_wanting v c p t lacks)))
      | inr other ↦
          let counts = others_count w p t j (stays_lacking v w lost p t same.truth loses lacks) few (omega (arith, low, count)) (omega (arith, inside, count)) other in
          let is = member_then v w lost j same.truth loses in
          ap (column c v.number t) (is ∙ unlost (lost (place_at v j)) (member_on v j) (subst (λ (m : Member). t < m.reach) is counts))
    ]

-- ---- what is read

not_spent : (b : Bool) (rest : Bool) → b ≡ false → (not b && rest) ≡ false → rest ≡ false
not_spent true rest none is = absurd (both_ways true none refl)
not_spent false rest none is = is

is_spent : (b : Bool) (rest : Bool) → (not b && rest) ≡ true → rest ≡ true
is_spent true rest is = absurd (both_ways false refl is)
is_spent false rest is = is

-- where it was had no more than one is wanting
pub few_wanting : (v w : View) (a b : RackView) (p t : ℕ) → Notes v w a b → nat_lt t (member_on v p).reach ≡ false → member_spent w p t ≡ false → wanting t (members_of w) ≤ 1
few_wanting v w a b p t notes lacks unspent =
    at_most_one (wanting t (members_of w)) (nat_lt (row_at t) w.resync)
    (not_spent (nat_lt t (member_on w p).reach) (spent_with (wanting t (members_of w)) (nat_lt (row_at t) w.resync)) (stays_lacking v w notes.lost p t notes.same.truth notes.loses lacks) unspent)

-- what the others give after losses is what they gave
pub given_here : (v w : View) (a b : RackView) (p t : ℕ) (x : List ℕ) → IsArray v → Notes v w a b → p < v.truth.raid_disks → nat_lt t (member_on v p).reach ≡ false
    → member_spent w p t ≡ false
    → (IsOpen (shape_of v) v.number a → x ≡ restored (row_layout w t) (row_of w (current_in a.held) t) p)
    → IsGiven v a p t x
given_here v w a b p t x is_array notes low lacks unspent value opened inside =
    let layout = row_layout_then v w t notes.same.truth in
    let most = (row_layout_is v t is_array).most in
    let count : w.truth.raid_disks ≡ v.truth.raid_disks = ap (λ u. u.raid_disks) notes.same.truth in
    let low_w : p < width (row_layout w t) = subst (λ (l : Layout). p < width l) (sym layout) inside in
    let most_w : width (row_layout w t) ≤ w.truth.raid_disks = subst (λ (l : Layout). width l ≤ w.truth.raid_disks) (sym layout) (omega (arith, most, count)) in
    value opened
    ∙ sym (restored_others w (current_in a.held) (row_layout w t) t p (given (row_layout w t) (row_of w (current_in a.held) t) p) most_w low_w
    (stays_lacking v w notes.lost p t notes.same.truth notes.loses lacks) refl)
    ∙ given_left v w (current_in a.held) notes.lost p t is_array notes.same notes.loses low lacks (few_wanting v w a b p t notes lacks unspent)

pub spent_here : (w : View) (p t : ℕ) → member_spent w p t ≡ true → spent_with (wanting t (members_of w)) (nat_lt (row_at t) w.resync) ≡ true
spent_here w p t = is_spent (nat_lt t (member_on w p).reach) (spent_with (wanting t (members_of w)) (nat_lt (row_at t) w.resync))

-- and what they gave before calls that wrote nothing
pub given_before : (v u : View) (a b : RackView) (p t : ℕ) (x : List ℕ) → IsArray v → a.lasting → OnlyReads a b → Notes v u a b → p < v.truth.raid_disks
    → nat_lt t (member_on v p).reach ≡ false → (p < width (row_layout v t) → wanting t (members_of u) ≤ 1)
    → IsGiven u b p t x → IsGiven v a p t x
given_before v u a b p t x is_array lasting reads notes low lacks few is opened inside =
    let layout = row_layout_then v u t notes.same.truth in
    is (open_calls v u a b lasting reads notes opened) (subst (λ (l : Layout). p < width l) (sym layout) inside)
    ∙ given_kept v u a b (row_layout u t) t p lasting reads notes.same notes.lost notes.loses opened
    ∙ given_left v u (current_in a.held) notes.lost p t is_array notes.same notes.loses low lacks (few inside)

-- a row of which a sector can't be had, or one of a row before it
pub spent_at_last : (w : View) (row t : ℕ) → t < row * 128 + 128 → spent_with (wanting t (members_of w)) (nat_lt (row_at t) w.resync) ≡ true → row_spent w row ≡ true
spent_at_last w row t most is =
    let later = wanting_later t (row * 128 + 127) (members_of w) (omega (arith, most)) in
    by (nat_lt row w.resync) refl later
  where
    more : (n m : ℕ) (synced : Bool) → n ≤ m → spent_with n synced ≡ true → spent_with m synced ≡ true
    more n zero synced low is = let none : n ≡ 0 = omega (arith, low) in absurd (both_ways true (sym is ∙ ap (λ (k : ℕ). spent_with k synced) none) refl)
    more zero (suc m) synced low is = absurd (both_ways false refl is)
    more (suc n) (suc zero) synced low is = let none : n ≡ 0 = omega (arith, low) in subst (λ (k : ℕ). spent_with (suc k) synced ≡ true) none is
    more (suc n) (suc (suc m)) synced low is = ap (λ (b : Bool). b || (nat_lt 0 (suc (suc m)) && not synced)) (lt-ltb 1 (suc (suc m)) (omega arith))

    left : (n : ℕ) (synced : Bool) → spent_with n synced ≡ true → spent_with n false ≡ true
    left zero synced is = absurd (both_ways false refl is)
    left (suc zero) synced is = refl
    left (suc (suc n)) synced is = ap (λ (b : Bool). b || (nat_lt 0 (suc (suc n)) && not false)) (lt-ltb 1 (suc (suc n)) (omega arith))

    by : (b : Bool) → nat_lt row w.resync ≡ b → wanting t (members_of w) ≤ wanting (row * 128 + 127) (members_of w) → row_spent w row ≡ true
    by true synced later =
        let low = ltb-true row w.resync synced in
        more (wanting t (members_of w)) (wanting (row * 128 + 127) (members_of w)) (nat_lt row w.resync) later
        (subst (λ (b : Bool). spent_with (wanting t (members_of w)) b ≡ true) (lt-ltb (row_at t) w.resync (omega (arith, most, low)) ∙ sym synced) is)
    by false synced later =
        more (wanting t (members_of w)) (wanting (row * 128 + 127) (members_of w)) (nat_lt row w.resync) later
        (subst (λ (b : Bool). spent_with (wanting t (members_of w)) b ≡ true) (sym synced) (left (wanting t (members_of w)) (nat_lt (row_at t) w.resync) is))

-- ---- its targets

pub member_sector : (v : View) (a : RackView) (p t : ℕ) (from : List ℕ) (xs ys : List Target) → p < v.truth.raid_disks → length from ≡ 512 → IsGiven v a p t from
    → ys ≡ xs ++ target (slice_on v p) (data_sector + t) from ∷ [] → AddsCopies v (OfMember p t 1) (IsGiven v a p) 1 xs ys
member_sector v a p t from xs ys low long is added =
    one_target v (OfMember p t 1) (IsGiven v a p) t p from xs ys low long (omega arith, omega arith, refl)
    (λ s j inside. let least = inside.0 in let most = inside.1 in (omega (arith, least, most), inside.2))
    is added

-- the same, by a view before losses
pub sector_before : (v u : View) (a b : RackView) (p t : ℕ) (xs ys : List Target) → IsArray v → a.lasting → OnlyReads a b → Notes v u a b → p < v.truth.raid_disks
    → nat_lt t (member_on v p).reach ≡ false → (p < width (row_layout v t) → wanting t (members_of u) ≤ 1)
    → AddsCopies u (OfMember p t 1) (IsGiven u b p) 1 xs ys → AddsCopies v (OfMember p t 1) (IsGiven v a p) 1 xs ys
sector_before v u a b p t xs ys is_array lasting reads notes low lacks few =
    copies_by v u (OfMember p t 1) (OfMember p t 1) (IsGiven u b p) (IsGiven v a p) 1 1 xs ys notes.same (omega arith) (λ s j is. is) (λ s j is. is)
    (λ s j x inside bytes.
    let least = inside.0 in
    let most = inside.1 in
    let at : t ≡ s = omega (arith, least, most) in
    subst (λ (i : ℕ). IsGiven v a p i x) at (given_before v u a b p t x is_array lasting reads notes low lacks few (subst (λ (i : ℕ). IsGiven u b p i x) (sym at) bytes)))

-- one sector more of a member's row
pub member_next : (v u w : View) (a b c : RackView) (p first sector : ℕ) (xs ys zs : List Target) → IsArray v → a.lasting → OnlyReads a b → Notes v u a b → Notes u w b c
    → p < v.truth.raid_disks → nat_lt sector (member_on v p).reach ≡ false → first ≤ sector
    → (p < width (row_layout u sector) → wanting sector (members_of w) ≤ 1)
    → AddsCopies v (OfMember p first (sector - first)) (IsGiven v a p) (sector - first) xs ys
    → AddsCopies u (OfMember p sector 1) (IsGiven u b p) 1 ys zs
    → AddsCopies v (OfMember p first (sector + 1 - first)) (IsGiven v a p) (sector + 1 - first) xs zs
member_next v u w a b c p first sector xs ys zs is_array lasting reads notes later low lacks least few so_far one =
    let many = sector - first in
    let at : first + many ≡ sector = omega (arith, least) in
    let next : many + 1 ≡ sector + 1 - first = omega (arith, least) in
    let layout = row_layout_then v u sector notes.same.truth in
    let more : wanting sector (members_of u) ≤ wanting sector (members_of w) =
    subst (λ (ms : List Member). wanting sector (members_of u) ≤ wanting sector ms) (sym (members_then u w later.lost later.same.truth later.loses)) (wanting_more later.lost sector (members_of u)) in
    let here = sector_before v u a b p sector ys zs is_array lasting reads notes low lacks
    (λ inside. let most = few (subst (λ (l : Layout). p < width l) (sym layout) inside) in omega (arith, more, most)) one in
    subst (λ (n : ℕ). AddsCopies v (OfMember p first n) (IsGiven v a p) n xs zs) next
    (copies_then v (OfMember p first many) (OfMember p sector 1) (OfMember p first (many + 1)) (IsGiven v a p) many 1 xs ys zs is_array
    (λ t j is. let most = is.1 in (is.0, omega (arith, most), is.2))
    (λ t j is. let low_t = is.0 in let most = is.1 in (omega (arith, low_t, at), omega (arith, most, at), is.2))
    (λ t j is. elim (cases_lt t sector) [
      | inl less ↦ inl (is.0, omega (arith, less, at), is.2)
      | inr past ↦ (let most = is.1 in inr (past, omega (arith, most, at), is.2))
    ])
    (λ t j before now. let most = before.1 in let low_t = now.0 in omega (arith, most, low_t, at))
    so_far here)
