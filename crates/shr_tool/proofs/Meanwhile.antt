-- What a stop inside calls that take no disk leaves holds the pool, and means the run's volume.
use Rattle.std.proofs.Common.{◌≡◌, ℕ, ◌<◌, ◌≤◌, ◌^◌, false, Option, sym, subst, inl, inr, arith}
use Rattle.rack.specs.Seen.{Image}
use Rattle.slice_rack.specs.Slices.{Slices}
use Rattle.slice_rack.specs.Sliced.{IsInside, slices_of}
use Rattle.array_core.specs.TruthHeld.{HoldTruth}
use Rattle.array_model.specs.View.{sectors_of}
use Rattle.lvm_group.specs.Runs.{Linear}
use Rattle.raid_laws.specs.Raid.{IsTracked, is_failed}
use Rattle.raid_laws.specs.Runs.{CrashInvariant}
use Rattle.pool_image.specs.Disks.{Disks}
use Rattle.pool_image.specs.Drives.{Found}
use Rattle.pool_image.specs.Meaning.{array_sectors}
use Rattle.pool_model.specs.Alone.{HoldTabled}
use Rattle.pool_model.specs.Grouped.{AreHeadsLive, HoldGroup}
use Rattle.pool_model.specs.Reopening.{AreWholeSectors, HoldVolume}
use Rattle.pool_model.specs.Stopped.{AreSlicesNow, RecoversInCall}
use Rattle.pool_model.proofs.Amid.{inside_of}
use Rattle.pool_model.proofs.Reopening.{amid_volume}
use Rattle.pool_model.proofs.ReopeningAmid.{calls_reopen, vacant_lies}
use Rattle.pool_model.proofs.Said.{slices_by}
use Rattle.pool_model.proofs.Sizes.{sectors_kept}
use Rattle.pool.specs.Calls.{CallFrame}
use Rattle.pool.specs.View.{View, book, slices_shown, volume}
use Rattle.pool.proofs.Booked.{book_seated}
use Rattle.shr_tool.specs.Between.{HoldsMeanwhile}
use Rattle.shr_tool.specs.Service.{GoesBy, Lone}
use Rattle.shr_tool.proofs.Heads.{heads_amid, heads_passes}
use Rattle.shr_tool.proofs.Serviced.{goes_amid, own_now, say_now}

module _ {L G : Type 0} {o : Option Lone} (x y : View) (f : Found) (l : Linear) (fit : (volume x).fit) (passes : CallFrame x y) (goes : GoesBy L o f x) (lands : L)
    (told : (n : ℕ) → n < f.state.made → IsTracked (book x) (slices_shown x) n) (lasts : (n : ℕ) → n < f.state.made → is_failed (book y) n ≡ false)
    (truths : (n : ℕ) → n < f.state.made → HoldTruth ((book x).arrays n) (slices_shown x)) (group : G → AreHeadsLive (book x) → HoldGroup (book x) l (slices_shown x)) (traced : x.bay.traced) where
  inside : IsInside x.slices x.bay
  inside = fit.0.running.set.fit.1

  -- all arrays are ready for the volume
  low_made : (n : ℕ) → n < (book x).state.joined → n < f.state.made
  low_made n low = (let joined = goes.service.after.same.joined in let all = goes.service.joined in omega (arith, low, joined, all))

  made_now : (n : ℕ) → n < (book x).state.joined → n < (book x).state.made
  made_now n low = (let less = low_made n low in let made = goes.service.after.same.made in omega (arith, less, made))

  -- no sector before a first extent was spent that isn't
  live_before : AreHeadsLive (book y) → AreHeadsLive (book x)
  live_before heads n s low within first =
      let keeps = heads_passes x y passes in
      keeps.live n s (made_now n low)
      (heads n s (let joined = keeps.joined in omega (arith, low, joined)) (subst (λ k. s < k) (sym (keeps.sectors n)) within) first)

  sized : (n : ℕ) → n < (book x).state.joined → sectors_of ((book x).arrays n) ≡ array_sectors f n
  sized n low =
      let one = goes.service.arranged.truths n (low_made n low) in
      sectors_kept f n one.0 ((book x).arrays n) one.1 (goes.service.geometry n one.0 (low_made n low) one.1)

  moments : CrashInvariant (book x) (book y) (slices_of x.slices x.bay) (slices_of x.slices y.bay)
  moments = subst (λ (t : Slices). CrashInvariant (book x) (book y) (slices_of x.slices x.bay) (slices_of t y.bay)) passes.slices passes.moments

  -- the slices lie as those of current places, and these drives have their tables
  lies : AreSlicesNow f x.slices (book x).state × HoldTabled f (book x).state x.slices x.bay
  lies = elim goes.vacant [
    | inl same ↦
        subst (λ (t : Slices). AreSlicesNow f t (book x).state × HoldTabled f (book x).state t x.bay) (sym same)
        (slices_by f goes.tables (book x).state goes.service.slices, goes.tabled)
    | inr one ↦ vacant_lies f goes.tables x.slices (book x) x.bay one.0 goes.service one.2 goes.tabled
  ]

  pub meanwhile_passes : (k : ℕ) (i : Image) → x.bay.clock < k → k ≤ y.bay.clock → y.bay.stops k i → HoldsMeanwhile G f x.slices l (book x) (book y) i
  meanwhile_passes k i since until stopped =
      record {
        amid = amid;
        opens = λ says heads whole.
            calls_reopen f x.slices (book x) (book y) x.bay y.bay l goes.service.after (book_seated (book x) (slices_shown x) fit.0.running.set fit.0.heeded) lies.0
            (inside_of f x.slices x.bay goes.service.disks inside) lies.1 goes.lasting passes.apart moments told lasts
            (say_now x f fit goes told (λ n low. moments.still n (lasts n low)) truths) (own_now x f fit goes) traced k i since until stopped amid (volume_at says heads whole);
      }
    where
      amid : RecoversInCall f x.slices (book x).state (book y).state i
      amid = (goes_amid x y f inside passes goes lands told lasts traced).new k i since until stopped

      volume_at : G → AreHeadsLive (book y) → AreWholeSectors f.disks i → HoldVolume f x.slices l i
      volume_at says heads whole =
          amid_volume f x.slices amid.between.state i amid.between.still (inside_of f x.slices x.bay goes.service.disks inside)
          (subst (λ (k : Disks). (d : ℕ) → d < k.count → k.sectors d < 2 ^ 48) (sym goes.service.disks) inside.small) whole (book x) (slices_shown x) l amid.between.later
          (let joined = goes.service.after.same.joined in let all = goes.service.joined in omega (arith, joined, all)) (group says (live_before heads)) sized
          (heads_amid x y passes traced made_now (λ n low. told n (low_made n low)) heads k i since until stopped)
