-- Superblocks that say an array's truth: after calls that keep them, and after calls that write them.
use Rattle.std.proofs.Common.{◌≡◌, ◌≢◌, ℕ, ◌+◌, ◌<◌, Bool, true, false, not, List, [], length, slice_get, Option, Some, eqb-true, sym, ap, ap₂, subst, ◌∙◌, inl, inr, unwrap_or, arith}
use Rattle.rack.specs.Values.{MayLeave, Keeps}
use Rattle.rack.specs.Seen.{RackView, IsLive, SameRack}
use Rattle.rack.specs.Joins.{keeps_then, live_first, live_second}
use Rattle.rack.specs.Sequences.{OnlyReads}
use Rattle.md_super.specs.declared.superblock.Super.{Super}
use Rattle.array_image.specs.Arrays.{place_with}
use Rattle.array_image.specs.Places.{data_sector, member_slice, place_of, slice_of, super_sector}
use Rattle.array_image.specs.SoundArray.{array_fields}
use Rattle.log_laws.specs.Commits.{CommitCall}
use Rattle.log_laws.specs.View.{LogView}
use Rattle.array_model.specs.declared.Seat.TheVariants.{Missing}
use Rattle.array_model.specs.Members.{Notes, slice_on}
use Rattle.array_model.specs.Rows.{Wrote, refused, row}
use Rattle.array_model.specs.View.{View, place_at}
use Rattle.array_model.proofs.Looking.{look_payload}
use Rattle.array_model.proofs.Reading.{missing_before}
use Rattle.array_model.proofs.Views.{notes_none}
use Rattle.array_core.specs.Model.{is_truth}
use Rattle.array_core.specs.declared.slots.Slot.{Slot}
use Rattle.array_core.specs.Settling.{Marks, Readies, WritesSupers, lost_one, not_whole, now_marked, unsynced, was_marked}
use Rattle.array_core.specs.Superblocks.{IsSectorOf, member_super}
use Rattle.array_core.specs.TruthHeld.{HasFewBits, HasTruth, HoldTruth, KeepsSupers, SaysTruth, TellSupers}
use Rattle.array_core.proofs.OwnSupers.{only_bits, own_array}
use Rattle.array_core.proofs.RowCommits.{no_look}
use Rattle.array_core.proofs.RowOwed.{RowList}
use Rattle.array_core.proofs.Truths.{truth_facts}

-- ---- sectors that are told

-- what is told is told after calls that take no sector away for good
pub live_on : (a b : RackView) (d t : ℕ) → a.lasting → SameRack a b → IsLive a a d t → IsLive a b d t
live_on a b d t lasting stays live = record {
  disk = subst (λ k. d < k) (sym stays.disks) live.disk;
  sector = subst (λ k. t < k) (sym (stays.sectors d)) live.sector;
  is_told = live.is_told;
  unspent = stays.lasts lasting d t live.unspent;
}

pub live_now : (a b : RackView) (d t : ℕ) → a.lasting → SameRack a b → IsLive a a d t → IsLive b b d t
live_now a b d t lasting stays live = live_second stays (live_on a b d t lasting stays live)

-- ---- calls that keep superblocks

truth_says : (t u : Super) (place : ℕ) (sector : List ℕ) → array_fields t ≡ array_fields u → SaysTruth t place sector → SaysTruth u place sector
truth_says t u place sector same says = record { own = says.own; reads = says.reads; same = says.same ∙ same; on = says.on; bits = says.bits }

-- a slice of which nothing was written
pub has_kept : (t u : Super) (a b : RackView) (d : ℕ) → a.lasting → SameRack a b → array_fields t ≡ array_fields u
    → (IsLive a b d super_sector → Keeps (a.held d super_sector) (b.held d super_sector)) → HasTruth t a d → HasTruth u b d
has_kept t u a b d lasting stays same keeps has = record {
  live = live_now a b d super_sector lasting stays has.live;
  says = λ sector leaves.
      truth_says t u (place_of d) sector same (has.says sector ((keeps (live_on a b d super_sector lasting stays has.live)).within sector leaves));
}

pub slices_same : (v w : View) (k : ℕ) → w.number ≡ v.number → w.truth ≡ v.truth → slice_on w k ≡ slice_on v k
slices_same v w k number truth = ap₂ (λ (t : Super) (n : ℕ). member_slice (unwrap_or (place_with t.roles.items k) 16) n) truth number

-- an array with the same truth, of which none came back
pub hold_kept : (v w : View) (a b : RackView) → a.lasting → SameRack a b → w.number ≡ v.number → w.truth ≡ v.truth
    → ((k : ℕ) → slice_get w.seats k ≢ Some Missing → slice_get v.seats k ≢ Some Missing)
    → ((k : ℕ) → k < v.truth.raid_disks → IsLive a b (slice_on v k) super_sector → Keeps (a.held (slice_on v k) super_sector) (b.held (slice_on v k) super_sector))
    → HoldTruth v a → HoldTruth w b
hold_kept v w a b lasting stays number truth seats keeps held k low there =
    let inside : k < v.truth.raid_disks = subst (λ (t : Super). k < t.raid_disks) truth low in
    subst (λ d. HasTruth w.truth b d) (sym (slices_same v w k number truth))
    (has_kept v.truth w.truth a b (slice_on v k) lasting stays (ap array_fields (sym truth)) (keeps k inside) (held k inside (seats k there)))

own_slice : (v : View) (k : ℕ) → v.number < 16 → slice_of (slice_on v k) ≢ 0
own_slice v k few is = omega (arith, few, is)

pub hold_noted : (v w : View) (a b : RackView) → a.lasting → v.number < 16 → SameRack a b → Notes v w a b → KeepsSupers a b → HoldTruth v a → HoldTruth w b
hold_noted v w a b lasting few stays notes keeps =
    hold_kept v w a b lasting stays notes.same.number notes.same.truth (λ k. missing_before v w k notes.lost notes.loses)
    (λ k low. keeps (slice_on v k) (own_slice v k few))

pub hold_supers : (v : View) (a b : RackView) → a.lasting → v.number < 16 → SameRack a b → KeepsSupers a b → HoldTruth v a → HoldTruth v b
hold_supers v a b lasting few stays = hold_noted v v a b lasting few stays (notes_none v a b)

pub reads_supers : (a b : RackView) → OnlyReads a b → KeepsSupers a b
reads_supers a b reads d own live = reads.keeps.held d super_sector live

pub supers_then : (a b c : RackView) → SameRack a b → SameRack b c → KeepsSupers a b → KeepsSupers b c → KeepsSupers a c
supers_then a b c first second one two d own live = keeps_then _ _ _ (one d own (live_first second live)) (two d own (live_second first live))

-- a row of members' data
pub wrote_supers : (v w : View) (a b : RackView) (x : ℕ) (from : List ℕ) → Wrote v w a b x from → KeepsSupers a b
wrote_supers v w a b x from (refused reads notes lost) = reads_supers a b reads
wrote_supers v w a b x from (row xs works owes) = λ d own live.
    works.puts.only.others d super_sector live (λ u is. let at = owes.row.own d super_sector u is in let place = at.3 in absurd (omega (arith, place)))

-- ---- calls that write them

pub few_bits : (t : Super) → is_truth t ≡ true → HasFewBits t
few_bits t holds = (truth_facts t holds).features

-- a member's superblock says the truth that it is of
pub sector_says : (t : Super) (slot : Slot) (place : ℕ) (sector : List ℕ) → slot.place ≡ place → HasFewBits t → IsSectorOf (member_super t slot) sector → SaysTruth t place sector
sector_says t slot place sector on bits is = record {
  own = member_super t slot;
  reads = is.reads;
  same = own_array t slot bits;
  on = on;
  bits = eqb-true _ 0 (only_bits t slot.seat);
}

pub slice_place : (v : View) (k : ℕ) → v.number < 16 → place_of (slice_on v k) ≡ place_at v k
slice_place v k few = omega (arith, few)

-- superblocks that were written, each durably unless its place went
pub hold_durable : (v w : View) (a b : RackView) → a.lasting → HasFewBits v.truth → SameRack a b → Notes v w a b
    → ((k : ℕ) → k < v.truth.raid_disks → slice_get w.seats k ≢ Some Missing → IsLive a b (slice_on v k) super_sector
    → (sector : List ℕ) → MayLeave (b.held (slice_on v k) super_sector) sector → SaysTruth v.truth (place_of (slice_on v k)) sector)
    → TellSupers v a → HoldTruth w b
hold_durable v w a b lasting bits stays notes durable tells k low there =
    let inside : k < v.truth.raid_disks = subst (λ (t : Super). k < t.raid_disks) notes.same.truth low in
    let told = tells k inside (missing_before v w k notes.lost notes.loses there) in
    subst (λ d. HasTruth w.truth b d) (sym (slices_same v w k notes.same.number notes.same.truth))
    (subst (λ (t : Super). HasTruth t b (slice_on v k)) (sym notes.same.truth)
    (record {
      live = live_now a b (slice_on v k) super_sector lasting stays told;
      says = durable k inside there (live_on a b (slice_on v k) super_sector lasting stays told);
    }))

pub hold_written : (v w : View) (a b : RackView) → a.lasting → v.number < 16 → HasFewBits v.truth → WritesSupers v w a b v.truth.raid_disks → TellSupers v a → HoldTruth w b
hold_written v w a b lasting few bits writes =
    hold_durable v w a b lasting bits writes.only.stays writes.notes
    (λ k low there live sector leaves.
    let own = writes.durable k low there live sector leaves in
    sector_says v.truth own.slot (place_of (slice_on v k)) sector (own.is.place ∙ sym (slice_place v k few)) bits own.bytes)

pub hold_tells : (v : View) (a : RackView) → HoldTruth v a → TellSupers v a
hold_tells v a held k low there = (held k low there).live

hold_marks : (v w : View) (a b : RackView) → a.lasting → v.number < 16 → HasFewBits v.truth → Marks v w a b → HoldTruth v a → HoldTruth w b
hold_marks v w a b lasting few bits marks held =
    let written = hold_written (unsynced v) marks.written a b lasting few bits marks.writes (hold_tells v a held) in
    elim marks.either [
      | inl all ↦ subst (λ (u : View). HoldTruth u b) (sym all.1) written
      | inr some ↦ subst (λ (u : View). HoldTruth u b) (sym some.1) written
    ]

pub hold_same : (v w : View) (a b : RackView) → a.lasting → v.number < 16 → w ≡ v → OnlyReads a b → HoldTruth v a → HoldTruth w b
hold_same v w a b lasting few same reads held =
    subst (λ (u : View). HoldTruth u b) (sym same) (hold_supers v a b lasting few reads.stays (reads_supers a b reads) held)

-- the mark that comes before rows are written past the log
hold_readies : (v w : View) (a b : RackView) (r : Bool) → a.lasting → v.number < 16 → HasFewBits v.truth → Readies v w a b r → HoldTruth v a → HoldTruth w b
hold_readies v w a b r lasting few bits (was_marked whole fresh marked same reads) = hold_same v w a b lasting few same reads
hold_readies v w a b r lasting few bits (now_marked whole fresh unmarked marked marks) = hold_marks v w a b lasting few bits marks
hold_readies v w a b r lasting few bits (lost_one whole fresh unmarked lost marks) = hold_marks v w a b lasting few bits marks
hold_readies v w a b r lasting few bits (not_whole same reads why) = hold_same v w a b lasting few same reads

-- a write of a row after it
pub hold_write : (v u w : View) (a b c : RackView) (r : Bool) → a.lasting → v.number < 16 → u.number < 16 → HasFewBits v.truth → SameRack a b → SameRack b c → Readies v u a b r → Notes u w b c
    → KeepsSupers b c → HoldTruth v a → HoldTruth w c
hold_write v u w a b c r lasting few_v few_u bits first second readies notes keeps held =
    hold_noted u w b c (first.lasting lasting) few_u second notes keeps (hold_readies v u a b r lasting few_v bits readies held)

-- a commit of a row
pub commit_supers : (all : Bool) (v : View) (l : LogView) (on lost : List ℕ) (a b : RackView) → RowList all v l.added → CommitCall l on lost a b → KeepsSupers a b
commit_supers all v l on lost a b list commit d own live =
    commit.apart d super_sector live (λ part. own part.0)
    (no_look l.added d super_sector
    (λ u is. let at = list.on d super_sector u (look_payload l.added d super_sector u is) in let place = at.sector in absurd (omega (arith, place))))
