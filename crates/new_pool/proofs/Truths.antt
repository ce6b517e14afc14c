-- The superblocks of a new pool's arrays, and where their slices lie.
use Rattle.std.proofs.Common.{◌≡◌, ◌≢◌, ℕ, zero, suc, ◌+◌, ◌*◌, ◌<◌, ◌^◌, ◌==◌, ◌&&◌, nat_lt, bytes_eq, is_ok, Bool, true, false, List, [], ◌∷◌, map, length, slice_get, if◌then◌else◌, Option, Some, None, option_map, refl, sym, ap, subst, ◌∙◌, inl, inr, lt-ltb, eq-eqb, arith}
use Rattle.std.specs.Option.{option_and_then, option_map_or}
use Rattle.std.specs.Result.{result_ok}
use Rattle.std.proofs.lemmas.Bool.{and_from, both_ways, cases_lt}
use Rattle.std.proofs.lemmas.Option.{none-some, slice_get_within}
use Rattle.std.proofs.lemmas.Slice.Eq.{bytes_eq-Decides}
use Rattle.rack.specs.Seen.{Image}
use Rattle.shr_base.specs.Blocks.{bytes_at, number_at}
use Rattle.layer_plan.specs.declared.Layer.{Layer}
use Rattle.md_super.specs.declared.superblock.Super.{Super}
use Rattle.md_super.specs.Profile.{profiled}
use Rattle.pool_state.specs.declared.contents.State.{State}
use Rattle.array_image.specs.Foremost.{ahead, foremost}
use Rattle.array_image.specs.Places.{arrays_first, array_id, data_sector, member_slice, place_of, super_sector}
use Rattle.array_image.specs.States.{current_places, is_current}
use Rattle.array_image.specs.Supers.{has_roles, has_whole_row, is_super_of, only_if, super_in, super_of, truth_in}
use Rattle.array_model.proofs.Renewed.{InList, current_of, in_current, leads}
use Rattle.pool_image.specs.Disks.{Disks}
use Rattle.pool_image.specs.Drives.{Found, drive_sector, end_of, extent_from, extent_of, first_of, slices_from, slices_of, truth_from}
use Rattle.pool_image.proofs.Truths.{extent_found, slice_of_member, slice_sector, truth_found}
use Rattle.pool_format.specs.declared.Birth.{Birth}
use Rattle.pool_format.specs.declared.planning.NewArray.{NewArray}
use Rattle.pool_format.specs.declared.planning.NewPool.{NewPool}
use Rattle.pool_format.specs.Parts.{new_state, new_super}
use Rattle.pool_format.specs.Plan.{IsNewArray, array_with, arrays_from, has}
use Rattle.pool_format.proofs.Founded.{drive_current, state_drives}
use Rattle.new_array.proofs.Lists.{filtered}
use Rattle.pool_format.proofs.Lists.{first_has, no_element}
use Rattle.pool_format.proofs.Opening.{members_few}
use Rattle.pool_format.proofs.Supers.{profile_ok, roles_ok}
use Rattle.pool_format.proofs.Units.{extent_bounds}
use Rattle.new_pool.specs.Contents.{IsNewPool}
use Rattle.new_pool.proofs.Identities.{no_drive, seat_at}
use Rattle.new_pool.proofs.Founds.{shown}

-- one of some superblocks leads
some_leads : (g : ℕ → Option Super) (ps : List ℕ) (p : ℕ) (u : Super) → InList p ps → g p ≡ Some u → (t : Super) × (foremost (λ t. t.events) (map g ps) ≡ Some t)
unfolding foremost
some_leads g [] p u among is = absurd among
some_leads g (q ∷ qs) p u among is =
    let Goal : Option Super → Type 0 = λ o. g q ≡ o → (t : Super) × (foremost (λ t. t.events) (o ∷ map g qs) ≡ Some t) in
    let goal : Goal (g q) = elim (g q) as Goal [
      | None ↦ λ at. elim among [
        | inl here ↦ absurd (none-some u (sym at ∙ ap g (sym here) ∙ is))
        | inr later ↦ some_leads g qs p u later is
      ]
      | Some x ↦ λ at. some_ahead x (foremost (λ t. t.events) (map g qs))
    ] in
    goal refl
  where
    some_ahead : (x : Super) (o : Option Super) → (t : Super) × (ahead (λ t. t.events) x o ≡ Some t)
    some_ahead x None = (x, refl)
    some_ahead x (Some y) = by (nat_lt x.events y.events)
      where
        by : (b : Bool) → (t : Super) × ((if b then Some y else Some x) ≡ Some t)
        by true = (y, refl)
        by false = (x, refl)

-- ---- where slices begin

first_array : (first extent : ℕ) (layers : List Layer) (a : NewArray) → slice_get (arrays_from first extent layers) 0 ≡ Some a → a.first ≡ first
first_array first extent [] a is = absurd (no_element is)
first_array first extent (l ∷ layers) a is = ap (λ (o : Option NewArray). option_map_or (λ b. b.first) o first) (sym is)

-- an array behind another one begins where the slices of that end
next_array : (first extent : ℕ) (layers : List Layer) (n : ℕ) (b : NewArray) → slice_get (arrays_from first extent layers) (suc n) ≡ Some b
    → (a : NewArray) × (slice_get (arrays_from first extent layers) n ≡ Some a) × (b.first ≡ a.first + (data_sector + a.size))
next_array first extent [] n b is = absurd (no_element is)
next_array first extent (l ∷ layers) zero b is =
    (array_with first extent l, refl, let begins = first_array (first + (l.height * extent + 4096)) extent layers b is in omega (arith, begins))
next_array first extent (l ∷ layers) (suc n) b is = next_array (first + (l.height * extent + 4096)) extent layers n b is

none_there : super_of [] ≡ None
unfolding bytes_at number_at
none_there = refl

pub some_one : (t u : Super) → Some t ≡ Some u → t ≡ u
some_one t u same = (cc)

module _ (plan : NewPool) (birth : Birth) (disks : Disks) (c : Image) (is : IsNewPool plan birth disks c) where
  abbrev f : Found
  f = shown plan birth disks c is

  abbrev s : State
  s = new_state plan birth

  pub low_array : (n : ℕ) (a : NewArray) → slice_get plan.arrays.items n ≡ Some a → n < 16
  low_array n a at = let few = is.is_plan.few in let low = slice_get_within plan.arrays.items n a at in omega (arith, few, low)

  pub array_is : (n : ℕ) (a : NewArray) → slice_get plan.arrays.items n ≡ Some a → IsNewArray plan.extent (length plan.units.items) a
  array_is n a at = is.is_plan.each n a at

  -- a member is the drive of a place
  pub member_low : (n : ℕ) (a : NewArray) → slice_get plan.arrays.items n ≡ Some a → (p : ℕ) → has a.members.items p ≡ true → p < disks.count
  member_low n a at p among =
      let one = array_is n a at in
      let parts = filtered one.reaches 0 (length plan.units.items) p (subst (λ ps. has ps p ≡ true) one.members_are among) in
      let many = is.count in
      let low = parts.1 in
      omega (arith, many, low)

  -- ---- one array

  module _ (n : ℕ) (a : NewArray) (at : slice_get plan.arrays.items n ≡ Some a) where
    abbrev pub from : Image
    from = slices_from f a.first

    -- what stands of a slice on the drive of a place
    sector_from : (p t : ℕ) → p < disks.count → from (member_slice p n) t ≡ (if nat_lt (a.first + t) (disks.sectors p) then c p (a.first + t) else [])
    sector_from p t low =
        let inside = low_array n a at in
        let place : place_of (member_slice p n) ≡ p = omega (arith, inside) in
        ap (λ q. drive_sector f q (a.first + t)) place
        ∙ ap (λ o. option_map_or (λ d. if nat_lt (a.first + t) (disks.sectors d) then c d (a.first + t) else []) o []) (seat_at plan birth disks c is p low)

    -- of a member
    pub member_sector : (p t : ℕ) → has a.members.items p ≡ true → t < a.size + 2048 → from (member_slice p n) t ≡ c p (a.first + t)
    member_sector p t among inside =
        let low = member_low n a at p among in
        let room = is.members n p a at among low in
        sector_from p t low
        ∙ ap (λ b. if b then c p (a.first + t) else []) (lt-ltb (a.first + t) (disks.sectors p) (omega (arith, room, inside)))

    good_super : (p : ℕ) → has a.members.items p ≡ true → is_super_of birth.pool plan.extent (length s.drives.items) n p (new_super birth a n p) ≡ true
    good_super p among =
        let t : Super = new_super birth a n p in
        let one = array_is n a at in
        let most = is.is_plan.most in
        let many = is.count in
        let low = member_low n a at p among in
        let some = (extent_bounds plan.extent is.is_plan.extent).0 in
        let drives = state_drives plan birth in
        let few = members_few a plan.extent (length plan.units.items) one most in
        let low_place : p < 16 = omega (arith, low, many, most) in
        and_from (is_ok (profiled t plan.extent)) _ (profile_ok birth a n p plan.extent (length plan.units.items) most one low_place few plan.extent 1 (omega arith) (omega (arith, some)))
        (and_from (bytes_eq t.set_id.0 (array_id birth.pool n)) _ ((bytes_eq-Decides t.set_id.0 (array_id birth.pool n)).1 refl)
        (and_from (p == p) _ (eq-eqb p p refl)
        (and_from true _ refl
        (and_from true _ refl
        (and_from (has_whole_row t) _ refl
        (roles_ok birth a n p plan.extent (length plan.units.items) most one low_place few (length s.drives.items) (omega (arith, drives))))))))

    -- its superblock
    pub super_from : (p : ℕ) → has a.members.items p ≡ true → super_in s from n p ≡ Some (new_super birth a n p)
    super_from p among =
        let low = member_low n a at p among in
        ap (λ v. only_if (is_super_of birth.pool plan.extent (length s.drives.items) n p) (super_of v)) (member_sector p super_sector among (omega arith))
        ∙ ap (λ r. only_if (is_super_of birth.pool plan.extent (length s.drives.items) n p) (result_ok r)) ((is.drives p low).supers n a at among).says
        ∙ ap (λ b. if b then Some (new_super birth a n p) else None) (good_super p among)

    -- a drive that is no member has none
    pub no_super : (p : ℕ) → has a.members.items p ≡ false → is_current s p ≡ true → super_in s from n p ≡ None
    no_super p apart current = elim (cases_lt p disks.count) [
      | inr high ↦ absurd (both_ways (is_current s p) (no_drive plan birth disks c is p high) current)
      | inl low ↦
          ap (λ v. only_if (is_super_of birth.pool plan.extent (length s.drives.items) n p) (super_of v)) (sector_from p super_sector low)
          ∙ of_room low (nat_lt (a.first + super_sector) (disks.sectors p))
    ]
      where
        refused : (t : Super) → t.set_id.0 ≢ array_id birth.pool n → (b : Bool) → bytes_eq t.set_id.0 (array_id birth.pool n) ≡ b
            → (if is_ok (profiled t plan.extent) && (b && ((t.dev_number == p) && (nat_lt 0 t.events && (nat_lt t.events (2 ^ 63) && (has_whole_row t && has_roles (length s.drives.items) t))))) then Some t else None) ≡ None
        refused t differ true same = absurd (differ ((bytes_eq-Decides t.set_id.0 (array_id birth.pool n)).0 same))
        refused t differ false same = of_profile (is_ok (profiled t plan.extent))
          where
            of_profile : (b : Bool) → (if b && false then Some t else None) ≡ None
            of_profile true = refl
            of_profile false = refl

        of_block : (low : p < disks.count) (o : Option Super) → super_of (c p (a.first + super_sector)) ≡ o → only_if (is_super_of birth.pool plan.extent (length s.drives.items) n p) o ≡ None
        of_block low None here = refl
        of_block low (Some t) here =
            let differ = is.others n p a t at apart low here in
            ap (λ b. if is_ok (profiled t plan.extent) && (b && ((t.dev_number == p) && (nat_lt 0 t.events && (nat_lt t.events (2 ^ 63) && (has_whole_row t && has_roles (length s.drives.items) t))))) then Some t else None) refl
            ∙ refused t differ (bytes_eq t.set_id.0 (array_id birth.pool n)) refl

        of_room : (low : p < disks.count) (b : Bool) → only_if (is_super_of birth.pool plan.extent (length s.drives.items) n p) (super_of (if b then c p (a.first + super_sector) else [])) ≡ None
        of_room low true = of_block low (super_of (c p (a.first + super_sector))) refl
        of_room low false = ap (only_if (is_super_of birth.pool plan.extent (length s.drives.items) n p)) none_there

    -- the truth is that of a member
    pub record IsNewTruth (t : Super) : Type 0 where
      pub place : ℕ
      pub among : has a.members.items place ≡ true
      pub is_new : t ≡ new_super birth a n place

    pub truth_here : (t : Super) × (truth_from f n a.first ≡ Some t) × IsNewTruth t
    unfolding truth_in
    truth_here =
        let one = array_is n a at in
        let least = one.least in
        let first = first_has a.members.items (omega (arith, least)) in
        let low = member_low n a at first.0 first.1 in
        let current = drive_current plan birth is.is_plan first.0 (subst (λ m. first.0 < m) is.count low) in
        let some = some_leads (super_in s from n) (current_places s) first.0 (new_super birth a n first.0) (in_current s first.0 current) (super_from first.0 first.1) in
        let lead = leads (super_in s from n) (current_places s) some.0 some.1 in
        (some.0, some.1, of_member (has a.members.items lead.place) lead.place refl some.0 lead.is (current_of s lead.place lead.among))
      where
        of_member : (b : Bool) (p : ℕ) → has a.members.items p ≡ b → (t : Super) → super_in s from n p ≡ Some t → is_current s p ≡ true → IsNewTruth t
        of_member true p among t here current = record { place = p; among = among; is_new = some_one t (new_super birth a n p) (sym here ∙ super_from p among) }
        of_member false p apart t here current = absurd (none-some t (sym (no_super p apart current) ∙ here))

    pub truth_size : (truth_here.0).size ≡ a.size
    truth_size = ap (λ (t : Super). t.size) (truth_here.2).is_new

  -- ---- all arrays

  pub first_at : (n : ℕ) (a : NewArray) → slice_get plan.arrays.items n ≡ Some a → first_of f n ≡ Some a.first
  unfolding first_of
  first_at zero a at = ap Some (sym (first_array arrays_first is.extent is.planned.layers a (subst (λ xs. slice_get xs 0 ≡ Some a) is.planned.arrays_are at)))
  first_at (suc n) b at =
      let before = next_array arrays_first is.extent is.planned.layers n b (subst (λ xs. slice_get xs (suc n) ≡ Some b) is.planned.arrays_are at) in
      let at_a : slice_get plan.arrays.items n ≡ Some before.0 = subst (λ xs. slice_get xs n ≡ Some before.0) (sym is.planned.arrays_are) before.1 in
      let truth = truth_here n before.0 at_a in
      let size = truth_size n before.0 at_a in
      let begins = before.2 in
      ap (option_and_then (λ first. option_map end_of (extent_from f n first))) (first_at n before.0 at_a)
      ∙ ap (λ o. option_map end_of (option_map (λ (t : Super). record { first = (before.0).first; sectors = data_sector + t.size }) o)) truth.1
      ∙ ap Some (omega (arith, size, begins))

  module _ (n : ℕ) (a : NewArray) (at : slice_get plan.arrays.items n ≡ Some a) where
    -- its slices
    pub extent_at : extent_of f (suc n) ≡ Some (record { first = a.first; sectors = data_sector + a.size })
    extent_at =
        extent_found f n a.first (truth_here n a at).0 (first_at n a at) (truth_here n a at).1
        ∙ ap (λ size. Some (record { first = a.first; sectors = data_sector + size })) (truth_size n a at)

    pub truth_at : truth_in s (slices_of f) n ≡ Some (truth_here n a at).0
    truth_at = truth_found f n a.first (truth_here n a at).0 (low_array n a at) (first_at n a at) (truth_here n a at).1

    -- a sector of a member's slice is that of its drive
    pub slice_at : (p t : ℕ) → has a.members.items p ≡ true → t < data_sector + a.size → slices_of f (member_slice p n) t ≡ c p (a.first + t)
    slice_at p t among inside =
        slice_sector f (member_slice p n) t a.first (data_sector + a.size) (ap (extent_of f) (slice_of_member p n (low_array n a at)) ∙ extent_at) inside
        ∙ member_sector n a at p t among (omega (arith, inside))
