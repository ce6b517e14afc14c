-- Which slices a write leaves as they are: those of missing members, of other arrays, and the logs of places without a part in it.
use Rattle.std.proofs.Common.{◌≡◌, ◌≢◌, ℕ, zero, suc, ◌+◌, ◌<◌, Bool, true, false, not, List, [], ◌∷◌, slice_get, Option, Some, None, refl, sym, ap, subst, ◌∙◌, inl, inr, ltb-true, arith}
use Rattle.std.specs.Option.{option_map_or}
use Rattle.rack.specs.Values.{Keeps}
use Rattle.rack.specs.Seen.{RackView, IsLive, SameRack}
use Rattle.rack.specs.Joins.{keeps_then, live_first, live_second}
use Rattle.rack.specs.Targets.{Target, look, target}
use Rattle.rack.specs.Sequences.{IsPayload, OnlyReads}
use Rattle.md_super.specs.declared.superblock.Super.{Super}
use Rattle.array_image.specs.Places.{data_sector, log_slice, member_slice, place_of, slice_of}
use Rattle.array_image.specs.Arrays.{Member}
use Rattle.array_image.specs.Held.{Among}
use Rattle.log_laws.specs.View.{LogView, names}
use Rattle.log_laws.specs.Commits.{CommitCall}
use Rattle.array_model.specs.declared.Seat.{Seat}
use Rattle.array_model.specs.declared.Seat.TheVariants.{Missing, Rebuilding, Whole}
use Rattle.array_model.specs.View.{View, IsArray, is_missing_seat, is_whole_array, member_on, seat_reach}
use Rattle.array_model.specs.Members.{Notes, Works, slice_on}
use Rattle.array_model.specs.Rows.{Wrote, refused, row}
use Rattle.array_model.proofs.Firsts.{position_of}
use Rattle.array_model.proofs.Looking.{look_payload}
use Rattle.array_model.proofs.Parts.{at_is}
use Rattle.array_model.proofs.Reading.{missing_before, slice_same}
use Rattle.array_model.proofs.RowWrites.{whole_seat}
use Rattle.array_model.proofs.Views.{shape_members}
use Rattle.array_core.specs.Logging.{is_due}
use Rattle.array_core.specs.Superblocks.{settled}
use Rattle.array_core.specs.Settling.{Readies, WritesSupers, was_marked, now_marked, lost_one, not_whole}
use Rattle.array_core.specs.Writing.{IsElsewhere, KeepsElsewhere, was_there}
use Rattle.array_core.proofs.RowCommits.{no_look}
use Rattle.array_core.proofs.RowOwed.{RowList}
use Rattle.array_core.proofs.WriteCalls.{Viewed, viewed}

-- ---- members that were there

seat_there : (v : View) (n : ℕ) → slice_get v.seats n ≢ Some Missing → was_there false v n ≡ true
seat_there v n other = by (slice_get v.seats n) other
  where
    by : (o : Option Seat) → o ≢ Some Missing → option_map_or (λ seat. not (is_missing_seat seat)) o true ≡ true
    by None other = refl
    by (Some Whole) other = refl
    by (Some Missing) other = absurd (other refl)
    by (Some (Rebuilding to)) other = refl

whole_there : (v : View) (n : ℕ) → IsArray v → is_whole_array v ≡ true → n < v.truth.raid_disks → was_there false v n ≡ true
whole_there v n is_array whole low = ap (λ (o : Option Seat). option_map_or (λ seat. not (is_missing_seat seat)) o true) (whole_seat v n is_array whole low)

reach_there : (v : View) (n t : ℕ) → t < (member_on v n).reach → was_there false v n ≡ true
reach_there v n t counts =
    seat_there v n (λ gone. let none : (member_on v n).reach ≡ 0 = ap (λ o. option_map_or (seat_reach v.truth.size) o 0) gone in absurd (omega (arith, counts, none)))

due_there : (all : Bool) (v : View) (n t : ℕ) → is_due all v n t ≡ true → was_there all v n ≡ true
due_there true v n t due = refl
due_there false v n t due = reach_there v n t (ltb-true t (member_on v n).reach due)

-- ---- calls

-- a target on a member that was there
abbrev IsThere : Bool → View → ℕ → Type 0
IsThere all v d = (n : ℕ) × (n < v.truth.raid_disks) × (was_there all v n ≡ true) × (d ≡ slice_on v n)

not_there : (all : Bool) (v : View) (on : List ℕ) (d : ℕ) → v.number < 16 → IsElsewhere all v on d → IsThere all v d → ⊥
not_there all v on d few (inl log) at = let first = log.0 in omega (arith, few, first, at.3)
not_there all v on d few (inr other) at = other.1 at.0 at.1 at.2 at.3

pub reads_elsewhere : (all : Bool) (v : View) (on : List ℕ) (a b : RackView) → OnlyReads a b → KeepsElsewhere all v on a b
reads_elsewhere all v on a b reads d t live other = reads.keeps.held d t live

works_elsewhere : (all : Bool) (v w : View) (on : List ℕ) (a b : RackView) (xs : List Target) → v.number < 16 → Works v w a b xs
    → ((d t : ℕ) (u : List ℕ) → IsPayload xs d t u → IsThere all v d) → KeepsElsewhere all v on a b
works_elsewhere all v w on a b xs few works there d t live other = works.puts.only.others d t live (λ u is. not_there all v on d few other (there d t u is))

-- one member's sector
pub one_elsewhere : (v w : View) (on : List ℕ) (a b : RackView) (k x : ℕ) (from : List ℕ) → v.number < 16 → k < v.truth.raid_disks → x < (member_on v k).reach
    → Works v w a b (target (slice_on v k) (data_sector + x) from ∷ []) → KeepsElsewhere false v on a b
one_elsewhere v w on a b k x from few low counts works =
    works_elsewhere false v w on a b (target (slice_on v k) (data_sector + x) from ∷ []) few works there
  where
    there : (d t : ℕ) (u : List ℕ) → IsPayload (target (slice_on v k) (data_sector + x) from ∷ []) d t u → IsThere false v d
    there d t u (inl here) = (k, low, reach_there v k x counts, (at_is d t (target (slice_on v k) (data_sector + x) from) here.0).0)
    there d t u (inr none) = absurd none

-- the row of a whole array
pub wrote_elsewhere : (v w : View) (on : List ℕ) (a b : RackView) (x : ℕ) (from : List ℕ) → IsArray v → is_whole_array v ≡ true → Wrote v w a b x from → KeepsElsewhere false v on a b
wrote_elsewhere v w on a b x from is_array whole (refused reads notes lost) = reads_elsewhere false v on a b reads
wrote_elsewhere v w on a b x from is_array whole (row xs works owes) =
    works_elsewhere false v w on a b xs is_array.few works
    (λ d t u is.
    let at = owes.row.own d t u is in
    let found = position_of v v.truth.raid_disks at.0 (subst (λ ms. Among at.0 ms) (shape_members v) at.4) in
    (found.0, found.1, whole_there v found.0 is_array whole found.1, at.2 ∙ ap (λ (m : Member). member_slice m.place v.number) found.2))

-- a commit of a row
pub commit_elsewhere : (all : Bool) (v : View) (l : LogView) (on lost : List ℕ) (a b : RackView) → v.number < 16 → RowList all v l.added → CommitCall l on lost a b
    → KeepsElsewhere all v on a b
commit_elsewhere all v l on lost a b few list commit d t live other =
    let none : look l.added d t ≡ None =
    no_look l.added d t
    (λ u is.
    let at = list.on d t u (look_payload l.added d t u is) in
    not_there all v on d few other (at.position, at.low, due_there all v at.position list.sector at.own.0, at.disk)) in
    elim other [
      | inr apart ↦ commit.apart d t live (λ part. apart.0 part.0) none
      | inl log ↦ by t refl log none
    ]
  where
    by : (i : ℕ) → t ≡ i → (slice_of d ≡ 0) × (names on (place_of d) ≡ false) → look l.added d t ≡ None → Keeps (a.held d t) (b.held d t)
    by zero first log none = commit.apart d t live (λ part. let later = part.1 in absurd (omega (arith, first, later))) none
    by (suc i) later log none =
        let own : log_slice (place_of d) ≡ d = (let slice = log.0 in omega (arith, slice)) in
        subst (λ e. Keeps (a.held e t) (b.held e t)) own
        (commit.around (place_of d) t (subst (λ e. IsLive a b e t) (sym own) live) (omega (arith, later)) (inl log.1))

pub elsewhere_then : (all : Bool) (v : View) (on : List ℕ) (a b c : RackView) → SameRack a b → SameRack b c → KeepsElsewhere all v on a b → KeepsElsewhere all v on b c
    → KeepsElsewhere all v on a c
elsewhere_then all v on a b c first second one two d t live other = keeps_then _ _ _ (one d t (live_first second live) other) (two d t (live_second first live) other)

-- ---- a write

pub ready_elsewhere : (v u : View) (on : List ℕ) (a b : RackView) (r : Bool) → v.number < 16 → Readies v u a b r → KeepsElsewhere false v on a b
ready_elsewhere v u on a b r few (was_marked whole fresh marked same reads) = reads_elsewhere false v on a b reads
ready_elsewhere v u on a b r few (not_whole same reads why) = reads_elsewhere false v on a b reads
ready_elsewhere v u on a b r few (now_marked whole fresh unmarked marked marks) = λ d t live other.
    marks.writes.only.others d t live (λ x new. not_there false v on d few other (new.position, new.inside, seat_there v new.position new.there, new.disk))
ready_elsewhere v u on a b r few (lost_one whole fresh unmarked lost marks) = λ d t live other.
    marks.writes.only.others d t live (λ x new. not_there false v on d few other (new.position, new.inside, seat_there v new.position new.there, new.disk))

-- what is elsewhere for the call is so for its row
row_elsewhere : (v u : View) (on : List ℕ) (a b : RackView) (r all : Bool) (d : ℕ) → IsArray v → Readies v u a b r → (all ≡ true → is_whole_array v ≡ true)
    → IsElsewhere false v on d → IsElsewhere all u on d
row_elsewhere v u on a b r all d is_array readies whole_all (inl log) = inl log
row_elsewhere v u on a b r all d is_array readies whole_all (inr other) =
    inr (
      other.0,
      λ n low there at.
          let inside : n < v.truth.raid_disks = subst (λ k. n < k) (ap (λ (t : Super). t.raid_disks) view.notes.same.truth ∙ view.disks) low in
          other.1 n inside (of r n readies inside there) (at ∙ slice_same view.base u n view.notes.same ∙ view.same n),
    )
  where
    view : Viewed v u a b
    view = viewed v u a b r readies

    same_there : (n : ℕ) → u ≡ v → (b : Bool) → all ≡ b → (b ≡ true → was_there false v n ≡ true) → was_there all u n ≡ true → was_there false v n ≡ true
    same_there n same true is whole there = whole refl
    same_there n same false is whole there = ap (λ (w : View). was_there false w n) (sym same) ∙ ap (λ (c : Bool). was_there c u n) (sym is) ∙ there

    of : (q : Bool) (n : ℕ) → Readies v u a b q → n < v.truth.raid_disks → was_there all u n ≡ true → was_there false v n ≡ true
    of q n (was_marked whole fresh marked same reads) low there = whole_there v n is_array whole low
    of q n (now_marked whole fresh unmarked marked marks) low there = whole_there v n is_array whole low
    of q n (lost_one whole fresh unmarked lost marks) low there = whole_there v n is_array whole low
    of q n (not_whole same reads why) low there = same_there n same all refl (λ is. whole_there v n is_array (whole_all is) low) there

pub write_elsewhere : (v u : View) (on : List ℕ) (a b c : RackView) (r all : Bool) → IsArray v → Readies v u a b r → SameRack a b → SameRack b c → (all ≡ true → is_whole_array v ≡ true)
    → KeepsElsewhere all u on b c → KeepsElsewhere false v on a c
write_elsewhere v u on a b c r all is_array readies first second whole_all rest =
    elsewhere_then false v on a b c first second (ready_elsewhere v u on a b r is_array.few readies)
    (λ d t live other. rest d t live (row_elsewhere v u on a b r all d is_array readies whole_all other))

-- ---- a clean end

pub clean_elsewhere : (v u w : View) (on : List ℕ) (a b c : RackView) (many : ℕ) → v.number < 16 → OnlyReads a b → Notes v u a b → WritesSupers (settled u) w b c many
    → KeepsElsewhere false v on a c
clean_elsewhere v u w on a b c many few reads notes writes =
    elsewhere_then false v on a b c reads.stays writes.only.stays (reads_elsewhere false v on a b reads)
    (λ d t live other.
    writes.only.others d t live
    (λ x new.
    not_there false v on d few other (
      new.position,
      subst (λ k. new.position < k) (ap (λ (s : Super). s.raid_disks) notes.same.truth) new.inside,
      seat_there v new.position (missing_before v u new.position notes.lost notes.loses new.there),
      new.disk ∙ slice_same v u new.position notes.same,
    )))
