-- Members that are synced one after the other.
use Rattle.std.proofs.Common.{◌≡◌, ◌⊎◌, ℕ, ◌+◌, ◌<◌, Bool, true, false, ◌==◌, if◌then◌else◌, List, slice_get, Some, refl, sym, ap, subst, ◌∙◌, inl, inr, eq-eqb, arith}
use Rattle.std.proofs.lemmas.Bool.{cases_lt}
use Rattle.std.specs.Option.{option_map_or}
use Rattle.rack.specs.Values.{Values, MayLeave, IsSingle}
use Rattle.rack.specs.Seen.{RackView, IsLive, SameRack}
use Rattle.rack.specs.Sequences.{OnlyReads}
use Rattle.pool_state.specs.declared.contents.State.{State}
use Rattle.array_image.specs.Places.{member_slice, data_sector}
use Rattle.array_image.specs.Arrays.{Member, Shape}
use Rattle.array_image.specs.Held.{Among}
use Rattle.array_image.specs.Marks.{unless_gone}
use Rattle.array_model.specs.declared.Seat.TheVariants.{Missing}
use Rattle.array_model.specs.View.{View, IsArray, LosesPlaces, place_at, member_on, shape_of, seat_reach}
use Rattle.array_model.specs.Says.{IsOpen}
use Rattle.array_model.specs.ArrayCalls.{IncludesSpent, SyncsArray}
use Rattle.array_model.specs.Members.{slice_on, IsSameButSeats, Notes, IsSingleOn}
use Rattle.array_model.proofs.Views.{member_then, shape_members}
use Rattle.array_model.proofs.Keeping.{live_on}
use Rattle.array_model.proofs.Noting.{read_acts}
use Rattle.array_model.proofs.Firsts.{member_among, position_of}
use Rattle.array_model.proofs.Reading.{slice_same, open_calls}

-- a missing member has no sector that counts
pub single_missing : (v : View) (x : RackView) (n : ℕ) → slice_get v.seats n ≡ Some Missing → IsSingleOn v x n
single_missing v x n is sector counts =
    let none : (member_on v n).reach ≡ 0 = ap (λ o. option_map_or (seat_reach v.truth.size) o 0) is in
    absurd (omega (arith, none, counts))

-- nor has one that has gone
pub single_gone : (v w : View) (x : RackView) (n : ℕ) → IsSameButSeats v w → LosesPlaces v w (λ p. p == place_at v n) → IsSingleOn w x n
single_gone v w x n same loses sector counts =
    let lost : member_on w n ≡ unless_gone true (member_on v n) =
    member_then v w (λ p. p == place_at v n) n same.truth loses ∙ ap (λ b. unless_gone b (member_on v n)) (eq-eqb (place_at v n) (place_at v n) refl) in
    let none : (member_on w n).reach ≡ 0 = ap (λ (m : Member). m.reach) lost in
    absurd (omega (arith, none, counts))

open_member : (v : View) (a : RackView) (n sector : ℕ) → n < v.truth.raid_disks → sector < (member_on v n).reach → IsOpen (shape_of v) v.number a
    → IsLive a a (slice_on v n) (data_sector + sector)
open_member v a n sector low counts opened =
    opened (member_on v n) sector (subst (λ ms. Among (member_on v n) ms) (sym (shape_members v)) (member_among v n v.truth.raid_disks low)) counts

-- one that was synced has one value in each sector
pub single_synced : (v : View) (a b : RackView) (n : ℕ) → a.lasting → SameRack a b → n < v.truth.raid_disks
    → ((t : ℕ) (u : List ℕ) → IsLive a b (slice_on v n) t → MayLeave (b.held (slice_on v n) t) u → u ≡ (b.held (slice_on v n) t).current)
    → IsOpen (shape_of v) v.number a → IsSingleOn v b n
single_synced v a b n lasting stays low done opened sector counts u may =
    done (data_sector + sector) u (live_on lasting stays (open_member v a n sector low counts opened)) may

-- whoever has one value keeps it
pub single_then : (v w : View) (a b : RackView) (n : ℕ) → a.lasting → OnlyReads a b → Notes v w a b → n < v.truth.raid_disks → IsOpen (shape_of v) v.number a
    → IsSingleOn v a n → IsSingleOn w b n
single_then v w a b n lasting reads notes low opened single sector counts =
    let left : sector < (member_on v n).reach = by (notes.lost (place_at v n)) (subst (λ (m : Member). sector < m.reach) (member_then v w notes.lost n notes.same.truth notes.loses) counts) in
    let keeps = reads.keeps.held (slice_on v n) (data_sector + sector) (live_on lasting reads.stays (open_member v a n sector low left opened)) in
    subst (λ d. IsSingle (b.held d (data_sector + sector))) (sym (slice_same v w n notes.same))
    (λ u may. single sector left u (keeps.within u may) ∙ sym keeps.current)
  where
    by : (b : Bool) → sector < (if b then 0 else (member_on v n).reach) → sector < (member_on v n).reach
    by true none = absurd (omega (arith, none))
    by false counts = counts

-- the members so far, and the next one
pub singles_next : (u v w : View) (a b c : RackView) (k : ℕ) → a.lasting → k < u.truth.raid_disks → OnlyReads a b → Notes u v a b → OnlyReads b c → Notes v w b c
    → (IsOpen (shape_of u) u.number a → (j : ℕ) → j < k → IsSingleOn v b j)
    → (IsOpen (shape_of v) v.number b → IsSingleOn w c k)
    → IsOpen (shape_of u) u.number a → (j : ℕ) → j < k + 1 → IsSingleOn w c j
singles_next u v w a b c k lasting inside one noted two noted_now before now opened j low =
    let opened_b : IsOpen (shape_of v) v.number b = open_calls u v a b lasting one noted opened in
    elim (lower_or j k low) [
      | inl less ↦ single_then v w b c j (one.stays.lasting lasting) two noted_now (subst (λ t. j < t.raid_disks) (sym noted.same.truth) (omega (arith, less, inside))) opened_b (before opened j less)
      | inr same ↦ subst (λ i. IsSingleOn w c i) (sym same) (now opened_b)
    ]
  where
    lower_or : (j k : ℕ) → j < k + 1 → (j < k) ⊎ (j ≡ k)
    lower_or j k low = elim (cases_lt j k) [ inl less ↦ inl less | inr more ↦ inr (omega (arith, low, more)) ]

-- the clause of a sync
pub syncs_array : (a b : RackView) (v w : View) → a.lasting → OnlyReads a b → IsArray v → Notes v w a b
    → (IsOpen (shape_of v) v.number a → (j : ℕ) → j < v.truth.raid_disks → IsSingleOn w b j)
    → (s : State) (durable : Shape) (vals : ℕ → Values) (spent : ℕ → Bool) → IncludesSpent w spent
    → SyncsArray s v w spent a b durable vals
syncs_array a b v w lasting reads is_array notes singles s durable vals spent covers =
    record {
      acts = read_acts a b v w lasting reads is_array notes s durable vals spent covers;
      keeps = reads.keeps;
      settled = λ holds m sector among counts.
          let found = position_of w w.truth.raid_disks m (subst (λ ms. Among m ms) (shape_members w) among) in
          let low : found.0 < v.truth.raid_disks = subst (λ t. found.0 < t.raid_disks) notes.same.truth found.1 in
          subst (λ (o : Member). IsSingle (b.held (member_slice o.place w.number) (data_sector + sector))) (sym found.2)
          (singles holds.shape.open_left found.0 low sector (subst (λ (o : Member). sector < o.reach) found.2 counts));
    }
