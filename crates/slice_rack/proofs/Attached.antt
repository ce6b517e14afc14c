-- Attaching a disk to the rack below, or its refusal, as slices on the other disks show it: nothing was called.
use Rattle.std.proofs.Common.{◌≡◌, ℕ, ◌+◌, ◌<◌, ◌≤◌, ◌^◌, nat_lt, if◌then◌else◌, false, List, [], Some, None, refl, sym, ◌∙◌, ap, subst, arith}
use Rattle.std.specs.Prelude.{Option, unwrap_or}
use Rattle.rack.specs.Values.{Keeps}
use Rattle.rack.specs.Seen.{Image, RackView}
use Rattle.rack.specs.Shelf.{Adds, IsSame, Shelf}
use Rattle.rack.specs.Sequences.{OnlyReads}
use Rattle.slice_rack.specs.Slices.{Slices, disk_of, first_of, place_of, seat_of, sectors_of}
use Rattle.slice_rack.specs.Sliced.{IsInside, Shows, sliced, slices_of}

-- a disk of some, or the first one
low_seat : (seat : Option ℕ) (disks : ℕ) → 0 < disks → ((disk : ℕ) → seat ≡ Some disk → disk < disks) → unwrap_or seat 0 < disks
low_seat (Some disk) disks some low = low disk refl
low_seat None disks some low = some

-- what contents of some sectors below say, equal ones do
shown_by : (t : Slices) (one two c : Image) → ((d s : ℕ) → two (disk_of t d) (first_of t d + s) ≡ one (disk_of t d) (first_of t d + s)) → Shows t one c → Shows t two c
shown_by t one two c same shows d s =
    shows d s ∙ ap (λ (v : List ℕ). if nat_lt s (sectors_of t d) then v else []) (sym (same d s))

pub attached_reads :
    (t : Slices) (a b : RackView) (s u : Shelf) (name : List ℕ) (number : ℕ)
    → Adds a b s u name number
    → s.told
    → 0 < a.disks
    → IsInside t a
    → b.fit
    → b.lasting
    → ((d k : ℕ) → a.spent d k ≡ false)
    → ((d k : ℕ) → b.spent d k ≡ false)
    → ((d : ℕ) → d < b.disks → b.sectors d < 2 ^ 48)
    → OnlyReads (slices_of t a) (slices_of t b)
attached_reads t a b s u name number adds told some inside fit lasting unspent still small =
    let low : (d : ℕ) → disk_of t d < a.disks =
    λ d. low_seat (seat_of t (place_of d)) a.disks some (λ disk is. inside.seats (place_of d) disk is) in
    record {
      stays = record {
        fit = (
          fit,
          record {
            small = small;
            seats = λ place disk is. let old = inside.seats place disk is in let more = adds.disks in omega (arith, old, more);
            slices = λ d has. subst (λ n. first_of t d + sectors_of t d ≤ n) (sym (adds.others (disk_of t d) (low d)).sectors) (inside.slices d has);
          },
        );
        disks = refl;
        sectors = λ d. refl;
        faults = λ d. let same = (adds.others (disk_of t d) (low d)).faults in omega (arith, same);
        spent = λ d k alive. unspent (disk_of t d) (first_of t d + k);
        lasting = λ _. lasting;
        lasts = λ _ d k alive. still (disk_of t d) (first_of t d + k);
        steady = adds.steady;
        told = λ d is. (adds.others (disk_of t d) (low d)).told is;
        traced = λ traced. adds.traced traced told;
      };
      keeps = record {
        held = λ d k live.
            subst (λ v. Keeps (a.held (disk_of t d) (first_of t d + k)) v) (sym ((adds.others (disk_of t d) (low d)).held (first_of t d + k)))
            (record { current = refl; within = λ v may. may });
        stops = λ traced. record {
          later = let same = adds.clock in omega (arith, same);
          kept = λ k c until left.
              let more = adds.kept traced told k left.0 until left.1 in
              (more.0, more.1, shown_by t left.0 more.0 c (λ d i. more.2 (disk_of t d) (first_of t d + i) (low d)) left.2);
          past = λ k c until left. (left.0, adds.past traced k left.0 until left.1, left.2);
          new = λ k c since until left. let same = adds.clock in absurd (omega (arith, same, since, until));
        };
      };
    }

-- a refusal
pub unattached_reads :
    (t : Slices) (a b : RackView) (s u : Shelf)
    → IsSame a b s u
    → IsInside t a
    → b.fit
    → b.lasting
    → ((d k : ℕ) → a.spent d k ≡ false)
    → ((d k : ℕ) → b.spent d k ≡ false)
    → OnlyReads (slices_of t a) (slices_of t b)
unattached_reads t a b s u same inside fit lasting unspent still =
    record {
      stays = record {
        fit = (
          fit,
          record {
            small = λ disk low. subst (λ n. n < 2 ^ 48) (sym (same.others disk).sectors) (inside.small disk (subst (λ n. disk < n) same.disks low));
            seats = λ place disk is. let old = inside.seats place disk is in let disks = same.disks in omega (arith, old, disks);
            slices = λ d has. subst (λ n. first_of t d + sectors_of t d ≤ n) (sym (same.others (disk_of t d)).sectors) (inside.slices d has);
          },
        );
        disks = refl;
        sectors = λ d. refl;
        faults = λ d. let equal = (same.others (disk_of t d)).faults in omega (arith, equal);
        spent = λ d k alive. unspent (disk_of t d) (first_of t d + k);
        lasting = λ _. lasting;
        lasts = λ _ d k alive. still (disk_of t d) (first_of t d + k);
        steady = same.steady;
        told = λ d is. (same.others (disk_of t d)).told is;
        traced = same.traced;
      };
      keeps = record {
        held = λ d k live.
            subst (λ v. Keeps (a.held (disk_of t d) (first_of t d + k)) v) (sym ((same.others (disk_of t d)).held (first_of t d + k)))
            (record { current = refl; within = λ v may. may });
        stops = λ traced. record {
          later = let clock = same.clock in omega (arith, clock);
          kept = λ k c until left. (left.0, same.kept k left.0 left.1, left.2);
          past = λ k c until left. (left.0, same.past k left.0 left.1, left.2);
          new = λ k c since until left. let clock = same.clock in absurd (omega (arith, clock, since, until));
        };
      };
    }
