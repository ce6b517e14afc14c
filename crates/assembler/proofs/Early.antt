-- What stops leave until the drives of a sound pool have passed their checks: amid the replay of the record that was pending, and in reads.
use Rattle.std.proofs.Common.{◌≡◌, ℕ, ◌<◌, Some, List, None, inl, inr, refl, ap, ◌∙◌}
use Rattle.rack.specs.Seen.{Image, IsPick, RackView}
use Rattle.rack.specs.Joins.{leaves_then, leaves_weaker, stays_then}
use Rattle.rack.specs.Moments.{Leaves}
use Rattle.rack.specs.Sequences.{OnlyReads}
use Rattle.rack.proofs.Reading.{only_reads_join}
use Rattle.slice_rack.specs.Slices.{IsOrderly, Slices, seat_of}
use Rattle.slice_rack.specs.Sliced.{sliced, slices_of}
use Rattle.slice_rack.specs.SliceRack.{below_of, tables}
use Rattle.array_image.specs.Left.{reading}
use Rattle.array_image.specs.States.{state_in}
use Rattle.log_laws.specs.View.{LogView}
use Rattle.pool_image.specs.Disks.{disks_of}
use Rattle.pool_image.specs.Drives.{Found}
use Rattle.pool_image.specs.Replay.{Standing, standing}
use Rattle.pool_scan.specs.Choosing.{seat_by}
use Rattle.pool_scan.specs.Scanning.{now_in}
use Rattle.pool_scan.proofs.Valid.{valid_arrays}
use Rattle.pool_rest.specs.declared.resting.AtRest.{AtRest}
use Rattle.pool_rest.specs.Moments.{AreOfDrives, BringsNoState, GivesNow, KeepsReplayed, TakesLower}
use Rattle.pool_rest.specs.Resting.{IsIdle as HasNoTargets}
use Rattle.pool_rest.proofs.Keeping.{inside_before}
use Rattle.pool_check.specs.declared.Checked.{Checked}
use Rattle.pool_check.specs.Checking.{IsChecked}
use Rattle.pool_check.specs.Refusing.{is_well}
use Rattle.assembler_laws.specs.Holding.{HoldPool}
use Rattle.assembler_laws.specs.Members.{AreMembers}
use Rattle.pool_model.specs.Pools.{AreSlicesOf}
use Rattle.pool_model.proofs.Found.{found_is}
use Rattle.assembler.specs.Sound.{HoldSound, MayStop}
use Rattle.assembler.proofs.Apart.{lands_apart, slices_landed}
use Rattle.assembler.proofs.Before.{stood_state}
use Rattle.assembler.proofs.Entry.{IsRested, f, pool_same, rest_found}
use Rattle.assembler.proofs.Leaving.{IsAsRead}
use Rattle.assembler.proofs.Moments.{read_replays, read_state, reads_leave}
use Rattle.assembler_laws.proofs.Shows.{few_place, none_past}
use Rattle.assembler_laws.proofs.Tables.{of_drives}

module _ {R : Type 0} (seen : R → RackView) (a : RackView) (rest : AtRest R) (e : Found) (sound : HoldSound a e) (rested : IsRested seen a rest)
    (t : Slices) (y : RackView) (checked : Checked) (absent : List ℕ) (orderly : IsOrderly t) (log : LogView)
    (m : AreMembers (f seen a rest e sound rested).state t y checked absent)
    (holds : HoldPool (f seen a rest e sound rested).state t y log (f seen a rest e sound rested))
    (opened : IsChecked (is_well None) (f seen a rest e sound rested) checked)
    (lie : AreSlicesOf (f seen a rest e sound rested) t) (reads : OnlyReads (seen (below_of rest.slices)) y) where
  abbrev x : RackView
  x = seen (below_of rest.slices)

  abbrev pool : Found
  pool = f seen a rest e sound rested

  abbrev pub HasRead : Image → Type 0
  HasRead = IsAsRead pool t y checked absent orderly m holds.steady holds.pool opened holds.sound log holds.log

  some : 0 < pool.state.joined
  some = (valid_arrays pool.state 0 m.valid).2

  read : (i : Image) → ((j k : ℕ) → sliced t i j k ≡ reading (slices_of t y) j k) → HasRead i
  read i same = read_replays pool t y checked absent orderly m holds.steady holds.pool opened holds.sound 0 some log holds.log (sliced t i) same

  still : (j k : ℕ) → sliced t (now_in x) j k ≡ reading (slices_of t y) j k
  still = reads_leave t x y orderly m.fit.1 reads (rest_found seen a rest e sound rested).steady (now_in x) (λ d s live. inl refl)

  pub early_leaves : pool.state ≡ rest.state
      → (HasNoTargets a → OnlyReads a x)
      → (BringsNoState a → (u : Slices) → AreOfDrives x (seat_by rest.state rest.scan.disks.items) u → state_in (sliced u (now_in x)) ≡ Some rest.state → KeepsReplayed a x u)
      → (TakesLower a → (u : Slices) → AreOfDrives x (seat_by rest.state rest.scan.disks.items) u
      → ((before : Standing) → standing (disks_of a) (now_in a) ≡ Some before → state_in (sliced u (now_in a)) ≡ Some before.state) → KeepsReplayed a x u)
      → MayStop a e → a.traced → Leaves a y HasRead
  early_leaves state idle keeps brought calm traced =
      elim calm [
        | inl none ↦
            let all = only_reads_join (idle none) reads in
            leaves_weaker (IsPick a y a.held) HasRead (λ i pick. read i (reads_leave t a y orderly m.fit.1 all sound.steady i pick)) (all.keeps.stops traced)
        | inr pending ↦
            let same = pool_same seen a rest e sound rested in
            let of =
            of_drives x rest.scan.disks.items rest.state (tables rest.slices) rest.on.items rest.log rest.pending rest.damaged pool (rest_found seen a rest e sound rested)
            t y checked absent orderly m lie (inside_before t x y reads.stays m.fit.1)
            (none_past pool t y checked absent orderly m holds.steady holds.pool opened.opened)
            (slices_landed pool t y checked absent orderly m holds.steady holds.pool opened (found_is (disks_of x) (now_in x) pool (rest_found seen a rest e sound rested).found_is).0 e same
            (lands_apart (disks_of a) (now_in a) e sound.found_is pending.0)) in
            let stands : state_in (sliced t (now_in x)) ≡ Some rest.state =
            read_state pool t y checked absent orderly m holds.steady holds.pool opened holds.sound 0 some log holds.log (sliced t (now_in x)) still ∙ ap Some state in
            let replayed : KeepsReplayed a x t =
            elim pending.1 [
              | inl none ↦ keeps none t of stands
              | inr brings ↦
                  let stood = brings.0 in
                  let seat : seat_of t stood.place ≡ Some stood.disk = lie.seats stood.place ∙ same.seats stood.place ∙ stood.seat in
                  let low = few_place pool t y checked absent orderly m holds.steady holds.pool opened.opened stood.place (m.current stood.place stood.disk seat) in
                  brought brings.1 t of
                  (λ before is.
                  stood_state a e sound.found_is stood t orderly (inside_before t a y (stays_then rested.stays reads.stays) m.fit.1)
                  (λ p. lie.seats p ∙ same.seats p) m.logs m.firsts before is low)
            ] in
            leaves_then HasRead
            (leaves_weaker (GivesNow t x) HasRead (λ i gives j k part. gives j k part ∙ read (now_in x) still j k part) (replayed.during traced))
            (leaves_weaker (IsPick x y x.held) HasRead (λ i pick. read i (reads_leave t x y orderly m.fit.1 reads (rest_found seen a rest e sound rested).steady i pick))
            (reads.keeps.stops (rested.stays.traced traced)))
      ]
