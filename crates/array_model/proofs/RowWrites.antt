-- A write of a sector of a whole array: its targets, and its clause.
use Rattle.std.proofs.Common.{◌≡◌, ◌⊎◌, ℕ, zero, suc, ◌+◌, ◌<◌, Bool, true, false, ◌==◌, ◌&&◌, ◌||◌, not, nat_lt, if◌then◌else◌, List, [], ◌∷◌, ◌++◌, map, length, slice_get, Some, option_map, unwrap_or, refl, sym, ap, ap₂, subst, ◌∙◌, inl, inr, eqb-true, lt-ltb, ltb-true, arith}
use Rattle.std.proofs.lemmas.Bool.{both_ways, and_parts}
use Rattle.std.proofs.lemmas.List.Quantifiers.{position-Some}
use Rattle.std.specs.Option.{option_map_or}
use Rattle.std.specs.List.{range_with_len, list_all, list_any}
use Rattle.rack.specs.Values.{Values, MayLeave, append}
use Rattle.rack.specs.Seen.{Image, RackView}
use Rattle.rack.specs.Joins.{leaves_weaker}
use Rattle.rack.specs.Targets.{Target, target}
use Rattle.pool_state.specs.declared.contents.State.{State}
use Rattle.md_super.specs.Profile.{is_mirror}
use Rattle.array_image.specs.Places.{slice_of, place_of, member_slice, data_sector}
use Rattle.array_image.specs.Stripes.{mirror, parity, width}
use Rattle.array_image.specs.Supers.{is_reshaping}
use Rattle.array_image.specs.Arrays.{Member, Shape, value_by, final_layout, place_with}
use Rattle.array_image.proofs.Losing.{map_join}
use Rattle.array_model.specs.declared.Seat.{Seat}
use Rattle.array_model.specs.declared.Seat.TheVariants.{Whole, Missing, Rebuilding}
use Rattle.array_model.specs.View.{View, IsArray, shape_of, spent_in, is_alone, is_whole_seat, is_whole_array, may_vary, seat_unless, seat_reach, has_gone, place_at, member_on, rows_of}
use Rattle.array_image.specs.Even.{AreEven}
use Rattle.array_image.specs.Left.{IsInside}
use Rattle.array_image.specs.SoundArray.{first_unsynced}
use Rattle.array_model.specs.Says.{ImageShowsArray, ArrayInvariant}
use Rattle.array_model.specs.ArrayCalls.{ImageInCall, Keeping, WritesArray, IncludesSpent, appended_at}
use Rattle.array_model.specs.Members.{slice_on, gone_slices, Notes, Works, IsKept}
use Rattle.array_model.specs.Rows.{IsPlain, part_at, source_at, target_on, copies, Owes, Wrote, row, refused}
use Rattle.array_model.proofs.DataFrames.{even_unsynced}
use Rattle.array_model.proofs.Moves.{KeepsOthers}
use Rattle.array_model.proofs.Views.{loses_nobody, same_view, shape_members}
use Rattle.array_model.proofs.Noting.{covers_before, losing_by, losing_of, noted_by, laid_out, length_members, read_acts, unspent_then}
use Rattle.array_model.proofs.Layouts.{layout_by}
use Rattle.array_model.proofs.Firsts.{firsts, firsts_more, position_of}
use Rattle.array_model.proofs.Reading.{slice_same}
use Rattle.array_model.proofs.Whole.{IsWhole, unspent_inside, whole_source}
use Rattle.array_model.proofs.WriteActs.{write_acts}
use Rattle.array_model.proofs.Writing.{works_then}

-- ---- a whole array

pub whole_parts : (v : View) → is_whole_array v ≡ true → (list_all is_whole_seat v.seats ≡ true) × (is_reshaping v.truth ≡ false)
whole_parts v whole =
    let parts = and_parts (list_all is_whole_seat v.seats) _ whole in
    let rest = and_parts (v.resync == rows_of v) _ parts.1 in
    let last = and_parts (not v.young) (not (is_reshaping v.truth)) rest.1 in
    (parts.0, not_true (is_reshaping v.truth) last.1)
  where
    not_true : (b : Bool) → not b ≡ true → b ≡ false
    not_true true is = absurd (both_ways false refl is)
    not_true false is = refl

all_at : (seats : List Seat) (n : ℕ) → list_all is_whole_seat seats ≡ true → n < length seats → slice_get seats n ≡ Some Whole
all_at [] n all low = absurd (omega (arith, low))
all_at (Whole ∷ seats) zero all low = refl
all_at (Missing ∷ seats) n all low = absurd (both_ways false refl all)
all_at (Rebuilding to ∷ seats) n all low = absurd (both_ways false refl all)
all_at (Whole ∷ seats) (suc n) all low = all_at seats n all (omega (arith, low))

pub whole_seat : (v : View) (n : ℕ) → IsArray v → is_whole_array v ≡ true → n < v.truth.raid_disks → slice_get v.seats n ≡ Some Whole
whole_seat v n is_array whole low = let count = is_array.seats in all_at v.seats n (whole_parts v whole).0 (omega (arith, low, count))

pub whole_reach : (v : View) (n : ℕ) → slice_get v.seats n ≡ Some Whole → (member_on v n).reach ≡ v.truth.size
whole_reach v n is = ap (λ o. option_map_or (seat_reach v.truth.size) o 0) is

pub whole_shape : (v : View) → IsArray v → is_whole_array v ≡ true → IsWhole (shape_of v)
unfolding shape_of
whole_shape v is_array whole m among =
    let found = position_of v v.truth.raid_disks m among in
    ap (λ (o : Member). o.reach) found.2 ∙ whole_reach v found.0 (whole_seat v found.0 is_array whole found.1)

pub gone_none : (v : View) → v.went ≡ [] → (place : ℕ) → has_gone v place ≡ false
gone_none v none place = ap (λ ps. list_any (λ p. p == place) ps) none

-- a member of it stays whole, or it and its place have gone
pub kept_then : (v w : View) (a b : RackView) (n : ℕ) → Notes v w a b → v.went ≡ [] → slice_get v.seats n ≡ Some Whole → IsKept w n
kept_then v w a b n notes fresh whole =
    let place : place_at w n ≡ place_at v n = ap (λ t. unwrap_or (place_with t.roles.items n) 16) notes.same.truth in
    let went : (l : Bool) → notes.lost (place_at v n) ≡ l → has_gone w (place_at w n) ≡ (l || false) =
    λ l is. ap (has_gone w) place ∙ notes.loses.went (place_at v n) ∙ ap₂ (λ (p q : Bool). p || q) is (gone_none v fresh (place_at v n)) in
    let seat : (l : Bool) → notes.lost (place_at v n) ≡ l → slice_get w.seats n ≡ Some (if l then Missing else Whole) =
    λ l is. notes.loses.seats n ∙ ap (option_map (seat_unless notes.lost (place_at v n))) whole ∙ ap (λ (g : Bool). Some (if g then Missing else Whole)) is in
    let Goal : Bool → Type 0 = λ l. notes.lost (place_at v n) ≡ l → IsKept w n in
    let goal : Goal (notes.lost (place_at v n)) = elim (notes.lost (place_at v n)) as Goal [
      | true ↦ λ is. inr (seat true is, went true is)
      | false ↦ λ is. inl (seat false is, went false is)
    ] in
    goal refl

-- one that doesn't count has gone
pub gone_uncounted : (w : View) (n sector : ℕ) → sector < w.truth.size → IsKept w n → nat_lt sector (member_on w n).reach ≡ false → has_gone w (place_at w n) ≡ true
gone_uncounted w n sector low (inr gone) none = gone.1
gone_uncounted w n sector low (inl whole) none =
    absurd (both_ways (nat_lt sector (member_on w n).reach) none (lt-ltb sector (member_on w n).reach (let reach = whole_reach w n whole.0 in omega (arith, low, reach))))

-- and one that counts hasn't
pub left_counted_on : (w : View) (n sector : ℕ) → IsKept w n → nat_lt sector (member_on w n).reach ≡ true → has_gone w (place_at w n) ≡ false
left_counted_on w n sector (inl whole) counts = whole.1
left_counted_on w n sector (inr gone) counts =
    let none : (member_on w n).reach ≡ 0 = ap (λ o. option_map_or (seat_reach w.truth.size) o 0) gone.0 in
    absurd (let low = ltb-true sector (member_on w n).reach counts in omega (arith, low, none))

-- ---- its members' places

same_role : (v : View) (j k place : ℕ) → place_with v.truth.roles.items j ≡ Some place → place_with v.truth.roles.items k ≡ Some place → j ≡ k
same_role v j k place at_j at_k =
    let one = position-Some (λ (role : ℕ). role == j) v.truth.roles.items place 0 at_j in
    let two = position-Some (λ (role : ℕ). role == k) v.truth.roles.items place 0 at_k in
    sym (eqb-true _ j one.1) ∙ eqb-true _ k two.1

pub places_apart : (v : View) (j k : ℕ) → IsArray v → j < v.truth.raid_disks → k < v.truth.raid_disks → place_at v j ≡ place_at v k → j ≡ k
places_apart v j k is_array low_j low_k same =
    let at_j = is_array.placed j low_j in
    let at_k = is_array.placed k low_k in
    let places : at_j.0 ≡ at_k.0 = sym (ap (λ o. unwrap_or o 16) at_j.1) ∙ same ∙ ap (λ o. unwrap_or o 16) at_k.1 in
    same_role v j k at_k.0 (at_j.1 ∙ ap Some places) at_k.1

part_range : (v : View) (a k n : ℕ) → k < n → part_at k (map (member_on v) (range_with_len a n)) ≡ member_on v (a + k)
part_range v a k zero low = absurd (omega (arith, low))
part_range v a zero (suc n) low = ap (member_on v) (omega arith)
part_range v a (suc k) (suc n) low = part_range v (a + 1) k n (omega (arith, low)) ∙ ap (member_on v) (omega arith)

pub part_on : (v : View) (k : ℕ) → k < v.truth.raid_disks → part_at k (shape_of v).members ≡ member_on v k
unfolding shape_of
part_on v k low = part_range v 0 k v.truth.raid_disks low ∙ ap (member_on v) (zero_more k)
  where
    zero_more : (k : ℕ) → 0 + k ≡ k
    zero_more k = omega arith

-- an array that doesn't reshape has one layout
pub plain_shape : (v : View) → IsArray v → is_reshaping v.truth ≡ false → IsPlain (shape_of v) (final_layout v.truth)
plain_shape v is_array still =
    let count : length (shape_of v).members ≡ v.truth.raid_disks = ap length (shape_members v) ∙ length_members v in
    record {
      layout_is = λ y. layout_by v y false (nat_lt y v.truth.reshape_position) still refl;
      count = count ∙ sym (wide (is_mirror v.truth));
      apart = λ j k low_j low_k same.
          let in_j : j < v.truth.raid_disks = omega (arith, low_j, count) in
          let in_k : k < v.truth.raid_disks = omega (arith, low_k, count) in
          places_apart v j k is_array in_j in_k
          (sym (ap (λ (m : Member). m.place) (part_on v j in_j)) ∙ same ∙ ap (λ (m : Member). m.place) (part_on v k in_k));
    }
  where
    wide : (b : Bool) → width (if b then mirror v.truth.raid_disks else parity v.truth.raid_disks) ≡ v.truth.raid_disks
    wide true = refl
    wide false = refl

-- ---- copies

pub copy_step : (v u w : View) (a b c : RackView) (sector k : ℕ) (from : List ℕ)
    → Works v u a b (map (target_on v.number sector from) (firsts v k))
    → Works u w b c (target (slice_on u k) (data_sector + sector) from ∷ [])
    → Works v w a c (map (target_on v.number sector from) (firsts v (k + 1)))
copy_step v u w a b c sector k from so_far one =
    subst (λ (xs : List Target). Works v w a c xs)
    (ap (λ (t : Target). map (target_on v.number sector from) (firsts v k) ++ t ∷ [])
    (ap (λ d. target d (data_sector + sector) from) (slice_same v u k so_far.notes.same))
    ∙ sym (ap (map (target_on v.number sector from)) (firsts_more v k) ∙ map_join (target_on v.number sector from) (firsts v k) (member_on v k ∷ [])))
    (works_then v u w a b c (map (target_on v.number sector from) (firsts v k)) (target (slice_on u k) (data_sector + sector) from ∷ []) so_far one)

pub copies_all : (v : View) (sector : ℕ) (from : List ℕ) → map (target_on v.number sector from) (firsts v v.truth.raid_disks) ≡ copies (shape_of v) v.number sector from
copies_all v sector from = ap (map (target_on v.number sector from)) (sym (shape_members v))

-- ---- the clause

-- What a write past the log needs of an array: members' sectors may have several values, no row must agree in images, and each
-- sector that isn't spent is a member's own.
pub record IsPastLog (v : View) : Type 0 where
  pub vary : may_vary v ≡ true
  pub agree : (v.marked ≡ true) ⊎ ((rows : ℕ) (c : Image) → AreEven (shape_of v) v.number rows c)
  pub sources : (y : ℕ) → spent_in v y ≡ false → (m : Member) × (source_at (shape_of v) y ≡ Some m)

-- a whole array whose mark is durable
pub whole_past : (v : View) → IsArray v → is_whole_array v ≡ true → v.marked ≡ true → IsPastLog v
whole_past v is_array whole marked = record {
  vary = ap (λ (m : Bool). m || is_alone v) marked;
  agree = inl marked;
  sources = λ y unspent.
      let laid = laid_out v is_array in
      let all = whole_shape v is_array whole in
      let nobody : ℕ → Bool = λ place. false in
      whole_source (shape_of v) v.resync y laid all
      (unspent_inside nobody (shape_of v) v.resync y laid all (unspent_then v v nobody (losing_of v v nobody (same_view v) (loses_nobody v)) y unspent));
}

-- a row that was written past the log
pub row_acts : (v w : View) (a b : RackView) (x : ℕ) (from : List ℕ) (xs : List Target)
    → a.lasting → IsArray v → IsPastLog v → v.went ≡ []
    → Works v w a b xs → Owes v a x from xs
    → (s : State) (vals : ℕ → Values) (spent : ℕ → Bool) → IncludesSpent w spent
    → WritesArray s v w spent a b (shape_of v) vals x from
row_acts v w a b x from xs lasting is_array past fresh works owes s vals spent covers =
    let notes = works.notes in
    let losing = losing_by v w a b notes in
    write_acts a b (gone_slices w) s v w vals spent notes.lost x from xs lasting works.puts
    (noted_by v w a b notes) losing (laid_out v is_array) (λ y alive. past.sources y (covers_before v w notes.lost losing spent covers y alive)) is_array.few
    (still_varies (may_vary w) (may_vary v) past.vary losing.vary) fresh
    (λ holds r left t is c. elim past.agree [ inl marked ↦ even_unsynced (shape_of v) v.number t c (holds.mark marked r left t is) | inr even ↦ even (first_unsynced t) c ])
    covers
    (λ m among here.
    ap₂ (λ (n : ℕ) (g : Bool). (slice_of (member_slice m.place v.number) == n + 1) && g) notes.same.number
    (ap (has_gone w) (place_is m.place is_array.few) ∙ notes.loses.went m.place ∙ ap₂ (λ p q. p || q) here (gone_none v fresh m.place))
    ∙ and_false (slice_of (member_slice m.place v.number) == v.number + 1))
    owes.row (λ holds. owes.even holds.open_slices holds.sized holds.even)
  where
    place_is : (p : ℕ) → v.number < 16 → place_of (member_slice p v.number) ≡ p
    place_is p few = omega (arith, few)

    and_false : (b : Bool) → (b && false) ≡ false
    and_false true = refl
    and_false false = refl

    still_varies : (now was : Bool) → was ≡ true → (now ≡ false → was ≡ false) → now ≡ true
    still_varies true was is steady = refl
    still_varies false was is steady = absurd (both_ways was (steady refl) is)

-- the values after a write to a spent sector are those before it, wherever they count
pub same_values : (x : ℕ) (from : List ℕ) (vals : ℕ → Values) (spent : ℕ → Bool) → spent x ≡ true → (y : ℕ) → spent y ≡ false → vals y ≡ appended_at x from vals y
same_values x from vals spent lost y alive =
    let Goal : Bool → Type 0 = λ b. (y == x) ≡ b → vals y ≡ (if b then append (vals y) from else vals y) in
    let goal : Goal (y == x) =
    elim (y == x) as Goal [
      | true ↦ λ same. absurd (both_ways (spent y) alive (ap spent (eqb-true y x same) ∙ lost))
      | false ↦ λ other. refl
    ] in
    goal refl

pub says_values : (s : State) (n : ℕ) (shape : Shape) (vals now : ℕ → Values) (spent : ℕ → Bool) (r : Image) → ((y : ℕ) → spent y ≡ false → vals y ≡ now y)
    → ImageShowsArray s n shape vals spent r → ImageShowsArray s n shape now spent r
says_values s n shape vals now spent r same says =
    record { shape_is = says.shape_is; value = λ y alive. subst (λ h. MayLeave h (value_by shape r n y)) (same y alive) (says.value y alive); is_sound = says.is_sound }

pub holds_values : (s : State) (durable : Shape) (w : View) (vals now : ℕ → Values) (spent : ℕ → Bool) (x : RackView) → ((y : ℕ) → spent y ≡ false → vals y ≡ now y)
    → ArrayInvariant s durable w vals spent x → ArrayInvariant s durable w now spent x
holds_values s durable w vals now spent x same holds =
    let h = holds.shape in
    record {
      shape = record {
        open_slices = h.open_slices;
        open_left = h.open_left;
        says = λ r left. says_values s w.number durable vals now spent r same (h.says r left);
        still = h.still;
        within = λ y alive u may keeps. subst (λ v. MayLeave v u) (same y alive) (h.within y alive u may keeps);
        current = λ y alive. h.current y alive ∙ ap (λ (v : Values). v.current) (same y alive);
        sized = h.sized;
        even = h.even;
        settled = h.settled;
      };
      mark = holds.mark;
      alone = holds.alone;
      closed = holds.closed;
      truth = holds.truth;
    }

-- a write that found its sector spent
pub spent_acts : (s : State) (v w : View) (spent : ℕ → Bool) (a b : RackView) (durable : Shape) (vals : ℕ → Values) (x : ℕ) (from : List ℕ) → spent x ≡ true
    → Keeping s v w spent a b durable vals
    → WritesArray s v w spent a b durable vals x from
spent_acts s v w spent a b durable vals x from lost kept =
    record {
      stays = kept.stays;
      noted = kept.noted;
      leaves = λ traced.
          leaves_weaker (λ c. IsInside a.sectors c → ImageInCall v.number a b (λ r. ArrayInvariant s durable v vals spent a → ImageShowsArray s v.number durable vals spent r) c)
          (λ c. IsInside a.sectors c → ImageInCall v.number a b (λ r. ArrayInvariant s durable v vals spent a → ImageShowsArray s v.number durable (appended_at x from vals) spent r) c)
          (λ c turns inside.
          let t = turns inside in
          record {
            before = t.before;
            left = t.left;
            others = t.others;
            own = λ holds. says_values s v.number durable vals (appended_at x from vals) spent _ (same_values x from vals spent lost) (t.own holds);
            whole = t.whole;
            calm = t.calm;
            bounded = t.bounded;
          })
          (kept.leaves traced);
      holds = λ holds. holds_values s durable w vals (appended_at x from vals) spent b (same_values x from vals spent lost) (kept.holds holds);
      apart = kept.apart;
      calm = kept.calm;
      bounded = kept.bounded;
    }

pub is_spent : (w : View) (spent : ℕ → Bool) (x : ℕ) → IncludesSpent w spent → spent_in w x ≡ true → spent x ≡ true
is_spent w spent x covers lost =
    let Goal : Bool → Type 0 = λ b. spent x ≡ b → b ≡ true in
    let goal : Goal (spent x) = elim (spent x) as Goal [ true ↦ λ is. refl | false ↦ λ is. absurd (both_ways (spent_in w x) (covers x is) lost) ] in
    goal refl

-- however it ended
pub wrote_acts : (v w : View) (a b : RackView) (x : ℕ) (from : List ℕ)
    → a.lasting → IsArray v → IsPastLog v → v.went ≡ [] → Wrote v w a b x from
    → (s : State) (vals : ℕ → Values) (spent : ℕ → Bool) → IncludesSpent w spent
    → WritesArray s v w spent a b (shape_of v) vals x from
wrote_acts v w a b x from lasting is_array past fresh (row xs works owes) s vals spent covers =
    row_acts v w a b x from xs lasting is_array past fresh works owes s vals spent covers
wrote_acts v w a b x from lasting is_array past fresh (refused reads notes lost) s vals spent covers =
    spent_acts s v w spent a b (shape_of v) vals x from (is_spent w spent x covers lost) (read_acts a b v w lasting reads is_array notes s (shape_of v) vals spent covers)

-- and it wrote to the array's own slices alone
pub wrote_others : (v w : View) (a b : RackView) (x : ℕ) (from : List ℕ) → v.number < 16 → Wrote v w a b x from → KeepsOthers v.number a b
wrote_others v w a b x from few (row xs works owes) d t live other =
    works.puts.only.others d t live (λ u is. let at = owes.row.own d t u is in other (omega (arith, few, at.2)))
wrote_others v w a b x from few (refused reads notes lost) d t live other = reads.keeps.held d t live

pub wrote_notes : (v w : View) (a b : RackView) (x : ℕ) (from : List ℕ) → Wrote v w a b x from → Notes v w a b
wrote_notes v w a b x from (row xs works owes) = works.notes
wrote_notes v w a b x from (refused reads notes lost) = notes
