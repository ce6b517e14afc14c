-- Superblocks that agree in whatever a stop leaves, on an array's truth, say it durably.
use Rattle.std.proofs.Common.{◌≡◌, ◌≢◌, ℕ, ◌<◌, Bool, true, false, ◌==◌, ◌&&◌, not, if◌then◌else◌, is_ok, is_some, List, [], length, slice_get, Option, Some, None, option_map, unwrap_or, refl, sym, ap, subst, ◌∙◌, inl, inr, eqb-true, eq-eqb, lt-ltb, le-ltb, arith}
use Rattle.std.proofs.lemmas.Bool.{and_from, and_parts, both_ways, cases_Bool}
use Rattle.arrayvec.specs.ArrayVec.{ArrayVec}
use Rattle.rack.specs.Values.{MayLeave}
use Rattle.rack.specs.Seen.{Image, RackView, IsLive}
use Rattle.md_super.specs.declared.superblock.Super.{Super}
use Rattle.md_super.specs.Profile.{profiled, rules}
use Rattle.array_image.specs.Arrays.{place_with, replayed}
use Rattle.array_image.specs.Left.{IsLeft, Picks, reading}
use Rattle.array_image.specs.Places.{member_slice, super_sector}
use Rattle.array_image.specs.SoundArray.{array_fields}
use Rattle.array_image.specs.States.{is_current}
use Rattle.array_image.specs.Supers.{is_super_of, only_if, super_in, super_of, truth_in}
use Rattle.log_laws.specs.Commits.{Stands}
use Rattle.log_laws.proofs.Kept.{stands_of}
use Rattle.array_model.specs.declared.Seat.{Seat}
use Rattle.array_model.specs.declared.Seat.TheVariants.{Whole, Missing, Rebuilding}
use Rattle.array_model.specs.Members.{slice_on}
use Rattle.array_model.specs.View.{View, has_gone, is_missing_seat, place_at}
use Rattle.array_core.specs.TruthHeld.{HoldTruth, SaysTruth, TellSupers}
use Rattle.array_core.proofs.Opened.{super_passes, super_place}
use Rattle.array_core.proofs.TruthHeld.{slice_place}
use Rattle.array_core.proofs.Truths.{rule_holds}
use Rattle.raid_laws.specs.Agreeing.{SupersAgree}
use Rattle.raid_laws.specs.Moves.{IsSeated, IsSet}
use Rattle.raid_laws.specs.Raid.{AreLive, Raid}
use Rattle.raid_laws.proofs.Seated.{place_few}

-- the superblocks' sectors of an array whose slices are told are so
pub live_tells : (v : Raid) (x : RackView) (n : ℕ) → IsSet v x → AreLive v.state.made x → n < v.state.made → TellSupers (v.arrays n) x
live_tells v x n set live low k inside there =
    let u = v.arrays n in
    let seated = set.arrays n low in
    let long = seated.slices.sectors k inside there in
    subst (λ m. IsLive x x (member_slice (place_at u k) m) super_sector) (sym seated.number)
    (live n (place_at u k) super_sector low (place_few u k seated.is_array inside)
    (subst (λ m. super_sector < x.sectors (member_slice (place_at u k) m)) seated.number (omega (arith, long))))

-- contents that have a value in one sector, and read elsewhere
abbrev with_one : RackView → (d s : ℕ) → List ℕ → Image
with_one x d s value e t = if (e == d) && (t == s) then value else reading x e t

one_here : (x : RackView) (d s : ℕ) (value : List ℕ) → with_one x d s value d s ≡ value
one_here x d s value = ap (λ (b : Bool). if b then value else reading x d s) (and_from (d == d) (s == s) (eq-eqb d d refl) (eq-eqb s s refl))

pick_one : (x : RackView) (d s : ℕ) (value : List ℕ) → s < x.sectors d → MayLeave (x.held d s) value → Picks x (with_one x d s value)
pick_one x d s value there may = record {
  picks = λ e t live. elim (cases_Bool ((e == d) && (t == s))) [
    | inl here ↦
        let both = and_parts (e == d) (t == s) here in
        let disk = eqb-true e d both.0 in
        let sector = eqb-true t s both.1 in
        subst (λ w. MayLeave (x.held e t) w) (sym (ap (λ (b : Bool). if b then value else reading x e t) here))
        (subst (λ k. MayLeave (x.held k t) value) (sym disk) (subst (λ k. MayLeave (x.held d k) value) (sym sector) may))
    | inr other ↦
        inl (ap (λ (b : Bool). if b then value else reading x e t) other ∙ ap (λ (b : Bool). if b then (x.held e t).current else []) (lt-ltb t (x.sectors e) live.sector))
  ];
  inside = λ e t out. elim (cases_Bool ((e == d) && (t == s))) [
    | inl here ↦
        let both = and_parts (e == d) (t == s) here in
        let disk = ap x.sectors (eqb-true e d both.0) in
        let sector = eqb-true t s both.1 in
        absurd (omega (arith, out, there, disk, sector))
    | inr other ↦ ap (λ (b : Bool). if b then value else reading x e t) other ∙ ap (λ (b : Bool). if b then (x.held e t).current else []) (le-ltb t (x.sectors e) out)
  ];
}

not_false : (b : Bool) → not b ≡ false → b ≡ true
not_false true is = refl
not_false false is = absurd (both_ways true is refl)

-- a value that passes is there
if_some : (test : Super → Bool) (o : Option Super) (t : Super) → only_if test o ≡ Some t → o ≡ Some t
if_some test None t is = absurd (let bad : None ≡ Some t = is in cc)
if_some test (Some y) t is = by (test y) is
  where
    by : (b : Bool) → (if b then Some y else None) ≡ Some t → Some y ≡ Some t
    by true is = is
    by false is = absurd (let bad : None ≡ Some t = is in cc)

-- a member that isn't missing has a place that is current
seat_current : (o : Option Seat) (current gone : Bool) → o ≢ Some Missing → option_map is_missing_seat o ≡ Some (not (current && not gone)) → current ≡ true
seat_current None current gone there is = absurd (let bad : None ≡ Some (not (current && not gone)) = is in cc)
seat_current (Some Missing) current gone there is = absurd (there refl)
seat_current (Some Whole) current gone there is = (and_parts current (not gone) (not_false (current && not gone) (ap (λ (o : Option Bool). unwrap_or o true) (sym is)))).0
seat_current (Some (Rebuilding to)) current gone there is =
    (and_parts current (not gone) (not_false (current && not gone) (ap (λ (o : Option Bool). unwrap_or o true) (sym is)))).0

-- Slices that a replay leaves as they are, of an array whose superblocks agree on this truth in whatever a stop leaves.
module _ (v : Raid) (x : RackView) (n : ℕ) (set : IsSet v x) (low : n < v.state.made)
    (quiet : (c : Image) → Stands x c → (d t : ℕ) → replayed x.sectors c d t ≡ c d t)
    (z : Super) (fields : array_fields z ≡ array_fields (v.arrays n).truth)
    (agree : (r : Image) → IsLeft x r → SupersAgree v.state r n × (truth_in v.state r n ≡ Some z)) where
  abbrev u : View
  u = v.arrays n

  seated : IsSeated v.state n (v.arrays n) x
  seated = set.arrays n low

  -- the place of a member that isn't missing is current
  current_of_seat : (k : ℕ) → k < (v.arrays n).truth.raid_disks → slice_get (v.arrays n).seats k ≢ Some Missing → is_current v.state (place_at (v.arrays n) k) ≡ true
  current_of_seat k inside there =
      seat_current (slice_get u.seats k) (is_current v.state (place_at u k)) (has_gone u (place_at u k)) there (seated.marks k inside)

  module _ (k : ℕ) (inside : k < (v.arrays n).truth.raid_disks) (there : slice_get (v.arrays n).seats k ≢ Some Missing) (sector : List ℕ)
      (may : MayLeave (x.held (slice_on (v.arrays n) k) super_sector) sector) where
    abbrev image : Image
    image = with_one x (slice_on (v.arrays n) k) super_sector sector

    picked : Picks x image
    picked =
        let long = seated.slices.sectors k inside there in
        pick_one x (slice_on u k) super_sector sector (omega (arith, long)) may

    left : IsLeft x (replayed x.sectors image)
    left = (image, picked, λ e t. refl)

    read : replayed x.sectors image (slice_on (v.arrays n) k) super_sector ≡ sector
    read = quiet image (stands_of image picked) (slice_on u k) super_sector ∙ one_here x (slice_on u k) super_sector sector

    at : SupersAgree v.state (replayed x.sectors image) n
    at = (agree (replayed x.sectors image) left).0

    truth_fields : array_fields at.truth ≡ array_fields (v.arrays n).truth
    truth_fields = ap array_fields (some_super (sym at.leads ∙ (agree (replayed x.sectors image) left).1)) ∙ fields
      where
        some_super : {a b : Super} → Some a ≡ Some b → a ≡ b
        some_super same = cc

    is_there : is_some (super_in v.state (replayed x.sectors image) n (place_at (v.arrays n) k)) ≡ true
    is_there =
        let placed = seated.is_array.placed k inside in
        let here : place_at u k ≡ placed.0 = ap (λ (o : Option ℕ). unwrap_or o 16) placed.1 in
        at.there k (place_at u k) (subst (λ (m : ℕ). k < m) (sym (ap (λ (y : Super). y.raid_disks) truth_fields)) inside)
        (ap (λ (r : ArrayVec ℕ). place_with r.items k) (ap (λ (y : Super). y.roles) truth_fields) ∙ placed.1 ∙ ap Some (sym here))
        (current_of_seat k inside there)

    says_found : (o : Option Super) → super_in v.state (replayed x.sectors image) n (place_at (v.arrays n) k) ≡ o → SaysTruth (v.arrays n).truth (place_at (v.arrays n) k) sector
    says_found None none = absurd (both_ways false refl (sym (ap is_some none) ∙ is_there))
    says_found (Some own) is =
        let passes = super_passes v.state (replayed x.sectors image) n (place_at u k) own is in
        record {
          own = own;
          reads =
              ap super_of (sym read)
              ∙ ap (λ m. super_of (replayed x.sectors image (member_slice (place_at u k) m) super_sector)) seated.number
              ∙ if_some (is_super_of v.state.pool.0 v.state.extent (length v.state.drives.items) n (place_at u k)) (super_of (replayed x.sectors image (member_slice (place_at u k) n) super_sector)) own is;
          same = at.same (place_at u k) own (current_of_seat k inside there) is ∙ truth_fields;
          on = super_place v.state (replayed x.sectors image) n (place_at u k) own is;
          bits = eqb-true _ 0 (rule_holds 0 (rules own v.state.extent) (and_parts (is_ok (profiled own v.state.extent)) _ passes).0);
        }

  pub hold_agreed : AreLive v.state.made x → HoldTruth (v.arrays n) x
  hold_agreed live k inside there = record {
    live = live_tells v x n set live low k inside there;
    says = λ sector may.
        subst (λ p. SaysTruth u.truth p sector) (sym (slice_place u k seated.is_array.few)) (says_found k inside there sector may _ refl);
  }
