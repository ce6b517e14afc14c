-- What holds of a rack of slices at any moment.
use Rattle.std.specs.Prelude.{◌≡◌, ℕ, ◌+◌, ◌<◌, if◌then◌else◌, [], Some, None, Option, refl, unwrap_or}
use Rattle.std.proofs.Common.{sym, subst, ap, ◌∙◌, lt-ltb, arith}
use Rattle.rack.specs.Values.{MayLeave}
use Rattle.rack.specs.Seen.{Image, RackView, IsLive}
use Rattle.rack.specs.Moments.{IsSound}
use Rattle.slice_rack.specs.Slices.{Slices, IsOrderly, seat_of, place_of, disk_of, first_of, sectors_of}
use Rattle.slice_rack.specs.Sliced.{IsInside, Shows, sliced, slices_of}

-- a slice with a sector has a disk below
pub disk_below : (t : Slices) (a : RackView) (d s : ℕ) → IsOrderly t → IsInside t a → s < sectors_of t d → disk_of t d < a.disks
disk_below t a d s orderly inside within =
    let Seat : Option ℕ → Type 0 = λ o. seat_of t (place_of d) ≡ o → unwrap_or o 0 < a.disks in
    let seat : Seat (seat_of t (place_of d)) =
    elim (seat_of t (place_of d)) as Seat [
      | None ↦ λ none. absurd (omega (arith, orderly.seated d none))
      | Some disk ↦ λ some. inside.seats (place_of d) disk some
    ] in
    seat refl

-- and its sectors lie inside that disk
pub sector_below : (t : Slices) (a : RackView) (d s : ℕ) → IsInside t a → s < sectors_of t d → first_of t d + s < a.sectors (disk_of t d)
sector_below t a d s inside within = omega (arith, inside.slices d (omega arith))

-- a sector of a slice is live where its sector below is
pub live_below : {t : Slices} {a b : RackView} {d s : ℕ} → IsOrderly t → IsInside t b → IsLive (slices_of t a) (slices_of t b) d s
    → IsLive a b (disk_of t d) (first_of t d + s)
live_below {t} {a} {b} {d} {s} orderly inside live = record {
  disk = disk_below t b d s orderly inside live.sector;
  sector = sector_below t b d s inside live.sector;
  is_told = live.is_told;
  unspent = live.unspent;
}

-- a sector inside a slice shows its sector below
pub shows_inside : (t : Slices) (below c : Image) (d s : ℕ) → Shows t below c → s < sectors_of t d → c d s ≡ below (disk_of t d) (first_of t d + s)
shows_inside t below c d s shows inside =
    shows d s ∙ ap (λ b. if b then below (disk_of t d) (first_of t d + s) else []) (lt-ltb s (sectors_of t d) inside)

-- a stop now leaves held values, and may leave the contents as they read
pub is_sound : (t : Slices) (a : RackView) → IsOrderly t → IsInside t a → IsSound a → IsSound (slices_of t a)
is_sound t a orderly inside sound = record {
  only_held = λ c left d s live.
      subst (MayLeave (a.held (disk_of t d) (first_of t d + s))) (sym (shows_inside t left.0 c d s left.2 live.sector))
      (sound.only_held left.0 left.1 (disk_of t d) (first_of t d + s) (live_below orderly inside live));
  now = (
    sliced t sound.now.0,
    (sound.now.0, sound.now.1, λ d s. refl),
    λ d s live.
        shows_inside t sound.now.0 (sliced t sound.now.0) d s (λ e u. refl) live.sector
        ∙ sound.now.2 (disk_of t d) (first_of t d + s) (live_below orderly inside live),
  );
}
