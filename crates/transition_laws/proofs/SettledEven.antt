-- The rows of an array that agree by what its members hold agree in contents that a stop leaves, where no mark of a write stands on it.
use Rattle.std.proofs.Common.{◌≡◌, ℕ, suc, ◌+◌, ◌<◌, ◌≤◌, Bool, true, false, ◌||◌, nat_le, List, [], ◌∷◌, take, length, slice_get, Some, sym, ap, subst, ◌∙◌, inl, inr, arith}
use Rattle.std.proofs.lemmas.Bool.{and_parts, cases_Bool, leb-true}
use Rattle.std.specs.Option.{option_map_or}
use Rattle.rack.specs.Values.{only, Values}
use Rattle.rack.specs.Seen.{Image, RackView}
use Rattle.md_super.specs.Profile.{is_mirror}
use Rattle.array_image.specs.Arrays.{layout_at, replayed}
use Rattle.array_image.specs.Even.{AreEven}
use Rattle.array_image.specs.Held.{Among, IsSynced}
use Rattle.array_image.specs.Left.{Picks}
use Rattle.array_image.specs.Places.{data_sector, member_slice}
use Rattle.array_image.specs.Stripes.{Layout, mirror, width}
use Rattle.array_image.specs.Supers.{is_reshaping}
use Rattle.array_model.specs.declared.Seat.{Seat}
use Rattle.array_model.specs.declared.Seat.TheVariants.{Missing, Rebuilding, Whole}
use Rattle.array_model.specs.Rows.{IsPlain}
use Rattle.array_model.specs.View.{IsArray, is_alone, may_vary, member_on, present, seat_reach, shape_of, View}
use Rattle.array_model.proofs.Firsts.{member_among}
use Rattle.array_model.proofs.Keeping.{even_kept}
use Rattle.array_model.proofs.Layouts.{final_by}
use Rattle.array_model.proofs.Parts.{plain_take}
use Rattle.array_model.proofs.RowWrites.{plain_shape}
use Rattle.array_model.proofs.Views.{shape_members}
use Rattle.transition_laws.specs.Holds.{HoldsMembers}

missing_one : (seats : List Seat) → present seats < length seats → (n : ℕ) × (n < length seats) × (slice_get seats n ≡ Some Missing)
missing_one [] low = absurd (omega (arith, low))
missing_one (Missing ∷ seats) low = (0, omega arith, λ i. Some Missing)
missing_one (Whole ∷ seats) low = let rest = missing_one seats (omega (arith, low)) in (suc rest.0, omega (arith, rest.1), rest.2)
missing_one (Rebuilding to ∷ seats) low = let rest = missing_one seats (omega (arith, low)) in (suc rest.0, omega (arith, rest.1), rest.2)

-- of a mirror with one member no row has all members
alone_even : (u : View) (rows : ℕ) (c : Image) → IsArray u → is_reshaping u.truth ≡ false → is_alone u ≡ true → AreEven (shape_of u) u.number rows c
alone_even u rows c is_array still alone x inside synced counts =
    let both = and_parts (is_mirror u.truth) (nat_le (present u.seats) 1) alone in
    let few = leb-true (present u.seats) 1 both.1 in
    let one = missing_one u.seats (omega (arith, few, is_array.seats, is_array.least)) in
    let plain : IsPlain (shape_of u) (mirror u.truth.raid_disks) = subst (λ (l : Layout). IsPlain (shape_of u) l) (final_by u true both.0) (plain_shape u is_array still) in
    let all : take (width (layout_at (shape_of u) x)) (shape_of u).members ≡ (shape_of u).members =
    ap (λ (l : Layout). take (width l) (shape_of u).members) (plain.layout_is x) ∙ plain_take (shape_of u) (mirror u.truth.raid_disks) plain in
    let among : Among (member_on u one.0) (shape_of u).members =
    subst (λ ms. Among (member_on u one.0) ms) (sym (shape_members u)) (member_among u one.0 u.truth.raid_disks (omega (arith, one.1, is_array.seats))) in
    let low = counts (member_on u one.0) (subst (λ ms. Among (member_on u one.0) ms) (sym all) among) in
    let none : (member_on u one.0).reach ≡ 0 = ap (λ o. option_map_or (seat_reach u.truth.size) o 0) one.2 in
    absurd (omega (arith, low, none))

-- contents e have the data of replayed ones
pub settled_even : (u : View) (vals : ℕ → Values) (spent : ℕ → Bool) (x : RackView) (c e : Image) (rows : ℕ) → IsArray u → is_reshaping u.truth ≡ false → u.marked ≡ false
    → HoldsMembers u.number (shape_of u) (shape_of u) u.resync (may_vary u) vals spent x → Picks x c → ((place t : ℕ) → e (member_slice place u.number) t ≡ replayed x.sectors c (member_slice place u.number) t)
    → rows ≤ u.resync → AreEven (shape_of u) u.number rows e
settled_even u vals spent x c e rows is_array still unmarked members picks same low = elim (cases_Bool (is_alone u)) [
  | inl alone ↦ alone_even u rows e is_array still alone
  | inr others ↦
      let synced : IsSynced (shape_of u) u.number x.held = members.settled (ap (λ b. b || is_alone u) unmarked ∙ others) in
      let even =
      even_kept x.held (λ d t. only (e d t)) (shape_of u) u.number u.resync
      (λ m sector among counts.
      let d = member_slice m.place u.number in
      let now : e d (data_sector + sector) ≡ (x.held d (data_sector + sector)).current =
      same m.place (data_sector + sector) ∙ members.still c picks m sector among counts
      ∙ synced m sector among counts (c d (data_sector + sector)) (picks.picks d (data_sector + sector) (members.open_left m sector among counts)) in
      record {
        current = now;
        within = λ w left. elim left [ inl is ↦ inl (is ∙ now) | inr older ↦ absurd older ];
      })
      members.even in
      λ y inside row counts. even y inside (omega (arith, row, low)) counts
]
