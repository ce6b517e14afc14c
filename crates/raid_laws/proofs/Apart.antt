-- Writes to a disk that has no place leave the slices alone: to them they are reads.
use Rattle.std.proofs.Common.{◌≡◌, ◌≢◌, ℕ, ◌+◌, ◌*◌, ◌<◌, List, Option, Some, None, refl, sym, ap, subst, ◌∙◌, inl, inr, unwrap_or, arith}
use Rattle.rack.specs.Values.{MayLeave}
use Rattle.rack.specs.Seen.{Image, RackView, IsPick, SameRack}
use Rattle.rack.specs.Joins.{leaves_weaker}
use Rattle.rack.specs.Moments.{Leaves}
use Rattle.std.proofs.lemmas.Bool.{both_ways}
use Rattle.rack.specs.Sequences.{IsMix, MayBecome, OnlyReads, WritesOnly}
use Rattle.slice_rack.specs.Slices.{Slices, IsOrderly, seat_of, place_of, disk_of, first_of, sectors_of}
use Rattle.slice_rack.specs.Sliced.{IsInside, slices_of}
use Rattle.slice_rack.specs.Laws.{live_below, shows_inside}
use Rattle.slice_rack.specs.Runs.{inside_still}
use Rattle.slice_rack.proofs.Below.{stays_sliced}
use Rattle.raid_laws.specs.Book.{after_same}
use Rattle.raid_laws.specs.Losing.{only_same}
use Rattle.raid_laws.specs.Moves.{IsSet, ChangesNoData}
use Rattle.raid_laws.specs.Raid.{Raid, gone_in, is_left}
use Rattle.raid_laws.proofs.Changed.{part_if, seated_still}
use Rattle.raid_laws.proofs.Over.{someone_left}
use Rattle.raid_laws.proofs.Reading.{part_unread}
use Rattle.raid_laws.proofs.Rows.{clear_same, rows_read}
use Rattle.raid_laws.proofs.LackingRows.{lacking_read}

-- a slice with a sector is on the disk of its place
pub seat_is : (t : Slices) (d s : ℕ) → IsOrderly t → s < sectors_of t d → seat_of t (place_of d) ≡ Some (disk_of t d)
seat_is t d s orderly within = of (seat_of t (place_of d)) refl
  where
    of : (o : Option ℕ) → seat_of t (place_of d) ≡ o → seat_of t (place_of d) ≡ Some (disk_of t d)
    of None none = let empty = orderly.seated d none in absurd (omega (arith, within, empty))
    of (Some disk) is = is ∙ ap Some (sym (ap (λ o. unwrap_or o 0) is))

module _ (t : Slices) (a b : RackView) (disk : ℕ) (may : ℕ → ℕ → List ℕ → Type 0) (orderly : IsOrderly t) (inside : IsInside t a) (only : WritesOnly a b may)
    (there : (d s : ℕ) (v : List ℕ) → may d s v → d ≡ disk) (free : (p : ℕ) → seat_of t p ≢ Some disk) where
  never : (d s u : ℕ) (v : List ℕ) → s < sectors_of t d → may (disk_of t d) u v → ⊥
  never d s u v within writes = free (place_of d) (seat_is t d s orderly within ∙ ap Some (there (disk_of t d) u v writes))

  inside_after : IsInside t b
  inside_after = inside_still only.stays inside

  picked : (below c : Image) → IsMix a b may below → ((d s : ℕ) → s < sectors_of t d → c d s ≡ below (disk_of t d) (first_of t d + s)) → IsPick (slices_of t a) (slices_of t b) (slices_of t a).held c
  picked below c mix shows d s live =
      subst (MayLeave (a.held (disk_of t d) (first_of t d + s))) (sym (shows d s live.sector))
      (of (mix (disk_of t d) (first_of t d + s) (live_below orderly inside_after live)))
    where
      of : MayBecome a may (disk_of t d) (first_of t d + s) (below (disk_of t d) (first_of t d + s)) → MayLeave (a.held (disk_of t d) (first_of t d + s)) (below (disk_of t d) (first_of t d + s))
      of (inl old) = old
      of (inr new) = absurd (never d s (first_of t d + s) (below (disk_of t d) (first_of t d + s)) live.sector new)

  pub reads_apart : OnlyReads (slices_of t a) (slices_of t b)
  reads_apart = record {
    stays = stays_sliced inside only.stays;
    keeps = record {
      held = λ d s live. only.others (disk_of t d) (first_of t d + s) (live_below orderly inside_after live) (λ v writes. never d s (first_of t d + s) v live.sector writes);
      stops = λ traced.
          let leaves = only.stops traced in
          record {
            later = leaves.later;
            kept = λ k c early left. (left.0, leaves.kept k left.0 early left.1, left.2);
            past = λ k c early left. (left.0, leaves.past k left.0 early left.1, left.2);
            new = λ k c after before left.
                picked left.0 c (leaves.new k left.0 after before left.1) (λ d s within. shows_inside t left.0 c d s left.2 within);
          };
    };
  }

-- what holds of the arrays at each point of a call holds after calls that keep the rack
pub set_still : (v : Raid) (a b : RackView) → SameRack a b → IsSet v a → IsSet v b
set_still v a b stays set = record {
  fit = stays.fit;
  lasting = stays.lasting set.lasting;
  disks = stays.disks ∙ set.disks;
  few = set.few;
  most = set.most;
  valid = set.valid;
  logs = λ p left. stays.sectors (17 * p) ∙ set.logs p left;
  arrays = λ n low. seated_still v.state n (v.arrays n) a b stays (set.arrays n low);
  marked = set.marked;
}

-- calls that write nothing, and change no array, are a part of a call
pub moves_quiet : (v : Raid) (a b : RackView) → IsSet v a → OnlyReads a b → ChangesNoData v v a b
moves_quiet v a b set reads =
    let leaves : a.traced → Leaves a b (λ c. Unit {0}) = λ traced. leaves_weaker (IsPick a b a.held) (λ c. Unit {0}) (λ c pick. tt) (reads.keeps.stops traced) in
    record {
      stays = reads.stays;
      set = set_still v a b reads.stays set;
      book = after_same v.state;
      leaves = leaves;
      number = omega arith;
      events = λ n low. omega arith;
      arrays = λ n low. only_same (v.arrays n) (v.arrays n) refl;
      plan = refl;
      sectors = λ n. refl;
      left = λ place is. is;
      cause = λ place was now. absurd (both_ways (is_left v place) now was);
      still = λ n made over. over;
      spent = λ n y made alive. alive;
      counted = λ n m sector made among counts. among;
      unwritten = λ d t live gone. reads.keeps.held d t live;
      kept = λ d t live apart other. reads.keeps.held d t live;
      parts = λ n vals spent joined made goes covers.
          part_if v v a b n vals vals spent reads.stays set.lasting leaves
          (λ amid. record {
            after = amid.durable;
            marked = amid.marked;
            noted = amid.noted;
            part = part_unread v.state amid.durable vals spent (gone_in v) (gone_in v) v v a b n set.lasting reads refl refl (λ p is. is) (someone_left v n goes);
          });
      rows = λ n vals spent joined made goes covers amid rows. rows_read v v a b n set.lasting reads (clear_same (v.arrays n) (v.arrays n) refl) rows;
      lacking = λ n vals spent joined made goes covers amid leaves. lacking_read v v a b n set.lasting reads (clear_same (v.arrays n) (v.arrays n) refl) leaves;
    }
