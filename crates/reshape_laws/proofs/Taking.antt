-- A takeover: the members of a mirror are synced first, so each sector of theirs has one value.
use Rattle.std.proofs.Common.{◌≡◌, ◌≢◌, ℕ, zero, suc, ◌-◌, ◌<◌, ◌≤◌, Bool, true, false, ◌&&◌, ◌||◌, nat_lt, nat_le, if◌then◌else◌, List, [], ◌∷◌, length, slice_get, Some, refl, sym, ap, subst, ◌∙◌, lt-ltb, le-ltb, arith}
use Rattle.std.proofs.lemmas.Bool.{both_ways}
use Rattle.std.specs.Option.{option_map_or}
use Rattle.rack.specs.Values.{Values, IsSingle}
use Rattle.rack.specs.Seen.{RackView}
use Rattle.md_super.specs.declared.superblock.Super.{Super}
use Rattle.md_super.specs.Profile.{is_mirror}
use Rattle.pool_state.specs.declared.contents.State.{State}
use Rattle.array_image.specs.Supers.{is_reshaping}
use Rattle.array_image.specs.SoundArray.{first_unsynced}
use Rattle.array_image.specs.Spent.{wanting}
use Rattle.array_image.specs.Arrays.{Member, Shape}
use Rattle.array_image.specs.Held.{Among, IsSynced, held_of}
use Rattle.array_image.specs.Marks.{unless_gone}
use Rattle.array_model.specs.declared.Seat.{Seat}
use Rattle.array_model.specs.declared.Seat.TheVariants.{Whole, Missing, Rebuilding}
use Rattle.array_model.specs.View.{View, IsArray, is_alone, member_on, place_at, present, rows_of, seat_reach, shape_of}
use Rattle.array_model.specs.Says.{ArrayInvariant}
use Rattle.array_model.specs.Members.{Notes, members_of}
use Rattle.array_model.specs.ArrayCalls.{IncludesSpent, SyncsArray}
use Rattle.array_model.proofs.Filled.{two_want}
use Rattle.array_model.proofs.Firsts.{member_among, position_of}
use Rattle.array_model.proofs.Noting.{length_members}
use Rattle.array_model.proofs.RowWrites.{part_on}
use Rattle.array_model.proofs.Views.{member_then, shape_members}
use Rattle.array_core.specs.Superblocks.{raised}
use Rattle.reshape_laws.specs.Ahead.{taken_over}
use Rattle.reshape_laws.specs.Reshapes.{lacks_two}
use Rattle.reshape_laws.proofs.Calling.{two_before}
use Rattle.reshape_laws.proofs.Committing.{Step}
use Rattle.reshape_laws.proofs.Held.{holds_fewer}
use Rattle.reshape_laws.proofs.StepsOf.{take_step}

-- what the call needs of an array, where u is the array after its sync
pub record IsTaking (v u : View) (a b : RackView) : Type 0 where
  pub is_array : IsArray v
  pub mirror : is_mirror v.truth ≡ true
  pub synced : v.resync ≡ rows_of v
  pub few : lacks_two u ≡ false
  pub unsynced : first_unsynced v.truth ≤ v.resync
  pub notes : Notes v u a b
  pub syncs : (s : State) (durable : Shape) (vals : ℕ → Values) (spent : ℕ → Bool) → IncludesSpent u spent → SyncsArray s v u spent a b durable vals

-- a mirror isn't reshaped
pub stands_still : (v : View) → IsArray v → is_mirror v.truth ≡ true → is_reshaping v.truth ≡ false
stands_still v is_array mirror = by (is_reshaping v.truth) refl
  where
    two : v.truth.raid_disks ≤ 2
    two = subst (λ (b : Bool). v.truth.raid_disks ≤ (if b then 2 else 16)) mirror is_array.most

    by : (b : Bool) → is_reshaping v.truth ≡ b → b ≡ false
    by true is = let three = (is_array.reshape is).1 in let most = two in absurd (omega (arith, three, most))
    by false is = refl

-- of two members of which one at most is there
other_missing : (seats : List Seat) (k j : ℕ) → length seats ≡ 2 → nat_le (present seats) 1 ≡ true → k < 2 → j < 2 → (k ≡ j → ⊥) → slice_get seats k ≢ Some Missing
    → slice_get seats j ≡ Some Missing
other_missing [] k j long one low other differ there = absurd (omega (arith, long))
other_missing (x ∷ []) k j long one low other differ there = absurd (omega (arith, long))
other_missing (x ∷ (y ∷ (z ∷ more))) k j long one low other differ there = absurd (omega (arith, long))
other_missing (x ∷ (y ∷ [])) zero zero long one low other differ there = absurd (differ refl)
other_missing (x ∷ (y ∷ [])) (suc zero) (suc zero) long one low other differ there = absurd (differ refl)
other_missing (x ∷ (y ∷ [])) zero (suc zero) long one low other differ there = second x y one there
  where
    second : (p q : Seat) → nat_le (present (p ∷ (q ∷ []))) 1 ≡ true → Some p ≢ Some Missing → Some q ≡ Some Missing
    second p Missing one there = refl
    second Missing q one there = absurd (there refl)
    second Whole Whole one there = absurd (both_ways false refl one)
    second Whole (Rebuilding n) one there = absurd (both_ways false refl one)
    second (Rebuilding m) Whole one there = absurd (both_ways false refl one)
    second (Rebuilding m) (Rebuilding n) one there = absurd (both_ways false refl one)
other_missing (x ∷ (y ∷ [])) (suc zero) zero long one low other differ there = first x y one there
  where
    first : (p q : Seat) → nat_le (present (p ∷ (q ∷ []))) 1 ≡ true → Some q ≢ Some Missing → Some p ≡ Some Missing
    first Missing q one there = refl
    first p Missing one there = absurd (there refl)
    first Whole Whole one there = absurd (both_ways false refl one)
    first Whole (Rebuilding n) one there = absurd (both_ways false refl one)
    first (Rebuilding m) Whole one there = absurd (both_ways false refl one)
    first (Rebuilding m) (Rebuilding n) one there = absurd (both_ways false refl one)
other_missing (x ∷ (y ∷ [])) (suc (suc k)) j long one low other differ there = absurd (omega (arith, low))
other_missing (x ∷ (y ∷ [])) k (suc (suc j)) long one low other differ there = absurd (omega (arith, other))

module _ (v u : View) (a b : RackView) (is : IsTaking v u a b) where
  disks : v.truth.raid_disks ≡ 2
  disks =
      let least = is.is_array.least in
      let most : v.truth.raid_disks ≤ 2 = subst (λ (c : Bool). v.truth.raid_disks ≤ (if c then 2 else 16)) is.mirror is.is_array.most in
      omega (arith, least, most)

  -- a member that counts is left, where it was the only one
  stays_there : is_alone v ≡ true → (k t : ℕ) → k < v.truth.raid_disks → t < (member_on v k).reach → is.notes.lost (place_at v k) ≡ false
  stays_there alone k t low counts = by (is.notes.lost (place_at v k)) refl
    where
      j : ℕ
      j = 1 - k

      two : v.truth.raid_disks ≡ 2
      two = disks

      other_low : 1 - k < v.truth.raid_disks
      other_low = let at = two in omega (arith, at)

      here : slice_get v.seats k ≢ Some Missing
      here gone =
          let none : (member_on v k).reach ≡ 0 = ap (λ o. option_map_or (seat_reach v.truth.size) o 0) gone in
          omega (arith, counts, none)

      few_there : nat_le (present v.seats) 1 ≡ true
      few_there = ap (λ (c : Bool). c && nat_le (present v.seats) 1) (sym is.mirror) ∙ alone

      none_other : slice_get v.seats (1 - k) ≡ Some Missing
      none_other =
          let at = two in
          other_missing v.seats k (1 - k) (is.is_array.seats ∙ two) few_there (omega (arith, low, at)) (omega arith) (λ same. omega (arith, same)) here

      wants_other : (s : ℕ) → nat_lt s (member_on v (1 - k)).reach ≡ false
      wants_other s = ap (λ o. nat_lt s (option_map_or (seat_reach v.truth.size) o 0)) none_other ∙ le-ltb s 0 (omega arith)

      by : (c : Bool) → is.notes.lost (place_at v k) ≡ c → c ≡ false
      by false at = refl
      by true at =
          let ending = v.truth.size - 1 in
          let gone : nat_lt (v.truth.size - 1) (member_on u k).reach ≡ false =
          ap (λ (m : Member). nat_lt (v.truth.size - 1) m.reach) (member_then v u is.notes.lost k is.notes.same.truth is.notes.loses)
          ∙ ap (λ (c : Bool). nat_lt (v.truth.size - 1) (if c then 0 else (member_on v k).reach)) at
          ∙ le-ltb (v.truth.size - 1) 0 (omega arith) in
          let gone_other : nat_lt (v.truth.size - 1) (member_on u (1 - k)).reach ≡ false =
          ap (λ (m : Member). nat_lt (v.truth.size - 1) m.reach) (member_then v u is.notes.lost (1 - k) is.notes.same.truth is.notes.loses)
          ∙ lowered_more (is.notes.lost (place_at v (1 - k))) (wants_other (v.truth.size - 1)) in
          let same : u.truth.raid_disks ≡ v.truth.raid_disks = ap (λ (s : Super). s.raid_disks) is.notes.same.truth in
          let count : length (shape_of u).members ≡ u.truth.raid_disks = ap length (shape_members u) ∙ length_members u in
          let of_two = two in
          let many : 1 < wanting (v.truth.size - 1) (members_of u) =
          subst (λ (ms : List Member). 1 < wanting (v.truth.size - 1) ms) (shape_members u)
          (two_want (v.truth.size - 1) k (1 - k) (shape_of u).members (omega (arith, low, same, count)) (omega (arith, of_two, same, count)) (λ equal. omega (arith, equal))
          (ap (λ (m : Member). nat_lt (v.truth.size - 1) m.reach) (part_on u k (omega (arith, low, same))) ∙ gone)
          (ap (λ (m : Member). nat_lt (v.truth.size - 1) m.reach) (part_on u (1 - k) (omega (arith, of_two, same))) ∙ gone_other)) in
          absurd (both_ways (lacks_two u) is.few
          (ap (λ (s : Super). nat_lt 1 (wanting (s.size - 1) (members_of u))) is.notes.same.truth ∙ lt-ltb 1 (wanting (v.truth.size - 1) (members_of u)) many))
        where
          lowered_more : (c : Bool) → nat_lt (v.truth.size - 1) (member_on v (1 - k)).reach ≡ false → nat_lt (v.truth.size - 1) (if c then 0 else (member_on v (1 - k)).reach) ≡ false
          lowered_more true wants = le-ltb (v.truth.size - 1) 0 (omega arith)
          lowered_more false wants = wants

  -- whoever counted has one value in each sector
  single : v.marked ≡ false → (s : State) (vals : ℕ → Values) (spent : ℕ → Bool) → ArrayInvariant s (shape_of v) v vals spent a → ArrayInvariant s (shape_of v) v vals spent b
      → IsSynced (shape_of v) v.number b.held
  single unmarked s vals spent before holds = by (is_alone v) refl
    where
      by : (c : Bool) → is_alone v ≡ c → IsSynced (shape_of v) v.number b.held
      by false apart = holds.shape.settled (ap (λ (c : Bool). c || is_alone v) unmarked ∙ apart)
      by true alone = λ m t among counts.
          let at = position_of v v.truth.raid_disks m (subst (λ (ms : List Member). Among m ms) (shape_members v) among) in
          let counts_at : t < (member_on v at.0).reach = subst (λ (o : Member). t < o.reach) at.2 counts in
          let stays = stays_there alone at.0 t at.1 counts_at in
          let same : member_on u at.0 ≡ member_on v at.0 =
          member_then v u is.notes.lost at.0 is.notes.same.truth is.notes.loses ∙ ap (λ (c : Bool). unless_gone c (member_on v at.0)) stays in
          let settled : IsSynced (shape_of u) u.number b.held =
          (is.syncs s (shape_of v) vals (λ y. true) (λ y none. absurd (both_ways true none refl))).settled
          (holds_fewer s (shape_of v) v vals spent (λ y. true) a (λ y none. absurd (both_ways true none refl)) before) in
          let disks_u : u.truth.raid_disks ≡ v.truth.raid_disks = ap (λ (x : Super). x.raid_disks) is.notes.same.truth in
          let low = at.1 in
          subst (λ (n : ℕ). IsSingle (held_of b.held n t m)) is.notes.same.number
          (settled m t
          (subst (λ (ms : List Member). Among m ms) (sym (shape_members u))
          (subst (λ (o : Member). Among o (members_of u)) (same ∙ sym at.2) (member_among u at.0 u.truth.raid_disks (omega (arith, low, disks_u)))))
          counts)

  pub taking_few : lacks_two v ≡ false
  taking_few = two_before v u a b is.notes is.few

  pub taking_step : Step v (taken_over v (raised v.truth.events)).truth v.seats v.devices v.resync (λ m. ⊥) [] a b
  taking_step = take_step v (raised v.truth.events) is.is_array is.mirror (stands_still v is.is_array is.mirror) taking_few is.synced is.unsynced a b single
