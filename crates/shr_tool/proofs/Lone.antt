-- Disks that a run has left whole in which lines replaced drives: any one drive may be absent.
use Rattle.std.proofs.Common.{◌≡◌, ℕ, ◌<◌, ◌^◌, Bool, false, true, not, List, length, Some, refl, sym, ap, subst, ◌∙◌, inl, inr, arith}
use Rattle.std.proofs.lemmas.Bool.{both_ways}
use Rattle.rack.specs.Seen.{Image, IsPick, Rose}
use Rattle.slice_rack.specs.Slices.{Slices}
use Rattle.slice_rack.specs.Sliced.{IsInside}
use Rattle.flat_array.specs.Array.{FlatArray}
use Rattle.lvm_group.specs.Runs.{Linear}
use Rattle.array_image.specs.Left.{IsLeft}
use Rattle.array_image.specs.States.{is_current}
use Rattle.array_model.specs.View.{sectors_of}
use Rattle.assembler.specs.Sound.{TargetsLand}
use Rattle.pool_image.specs.Disks.{Disks}
use Rattle.pool_image.specs.Drives.{Found}
use Rattle.pool_model.specs.Absent.{AreOnly, HoldAbsent, IsWholeRaid}
use Rattle.pool_model.specs.Alone.{NoImpostor, LeaveOut}
use Rattle.pool_model.specs.Grouped.{HaveOwnAreas, HoldGroup}
use Rattle.pool_model.specs.InService.{RunInvariant}
use Rattle.pool_model.specs.Taken.{AreSerial}
use Rattle.pool_model.proofs.Away.{all_there}
use Rattle.pool_model.proofs.Grouped.{whole_unspent}
use Rattle.pool_model.proofs.ServiceWhole.{service_absent}
use Rattle.raid_laws.specs.Agreeing.{AgreeLeaving}
use Rattle.raid_laws.specs.Raid.{IsTracked, is_failed, spent_of}
use Rattle.raid_laws.proofs.Over.{or_from}
use Rattle.pool.specs.Calls.{Ends}
use Rattle.pool.specs.Moment.{moment_of}
use Rattle.pool.specs.View.{View, book, slices_shown}
use Rattle.shr_tool.specs.Events.{Event, any_takes, array_by}
use Rattle.shr_tool.specs.Heads.{KeepsHeads}
use Rattle.shr_tool.specs.Outcome.{HasWholeSectors, IsRunOn}
use Rattle.shr_tool.specs.Service.{AreFit, AreLone, AreUngiven, GoesBy, IsOut, IsServed, Lone, pool_by}
use Rattle.shr_tool.specs.Serving.{IsServing, Ran}
use Rattle.shr_tool.proofs.Absent.{agreed_at}
use Rattle.shr_tool.proofs.Heads.{heads_group, heads_passes, heads_then}
use Rattle.shr_tool.proofs.Serviced.{goes_calls, goes_lone}

-- of a pool by which a run goes, that stands alone on its disks and has ended whole
lone_absent :
    {L : Type 0} (l : Lone) (y : View) (h : Found) → GoesBy L (Some l) h y → IsInside y.slices y.bay
    → ((n : ℕ) → n < h.state.made → IsTracked (book y) (slices_shown y) n) → ((n : ℕ) → n < h.state.made → is_failed (book y) n ≡ false)
    → IsWholeRaid h.state.made (book y)
    → ((n : ℕ) (r : Image) → n < h.state.made → IsLeft (slices_shown y) r → AgreeLeaving ((book y).arrays n) (book y).state r n)
    → HoldGroup (book y) y.linear (slices_shown y)
    → ((n k : ℕ) → n < h.state.made → k < sectors_of ((book y).arrays n) → spent_of (book y) n k ≡ false)
    → (i j : Image) → IsPick y.bay y.bay y.bay.held i → LeaveOut h (IsOut l y.shelf.names) i j → HasWholeSectors y.bay j → HoldAbsent h y.slices (book y).state j
lone_absent l y h goes inside told lasts whole agree group alive i j pick leave sized = elim goes.vacant [
  | inr one ↦
      absurd (both_ways (not_missing one.0) one.2.missing (all_there (λ drive. not drive.missing) (book y).state.drives.items one.0 whole.drives one.1))
  | inl same ↦
      service_absent h l.bound (IsOut l y.shelf.names) y.slices (book y) y.bay (subst (λ (t : Slices). RunInvariant h t (book y) y.bay) (sym same) goes.service)
      (subst (λ (t : Slices). NoImpostor h l.bound (IsOut l y.shelf.names) (book y).state t y.bay) (sym same) (goes.alone l refl).alone) inside told lasts whole agree group alive i j
      pick leave
      (subst (λ (k : Disks). (d s : ℕ) → d < k.count → s < k.sectors d → length (j d s) ≡ 512) (sym goes.service.disks) sized)
      (subst (λ (k : Disks). (d : ℕ) → d < k.count → k.sectors d < 2 ^ 48) (sym goes.service.disks) inside.small)
]
  where
    not_missing : ℕ → Bool
    not_missing p = is_current (book y).state p

-- after the end of a run in which lines replaced drives
module _ (x m y : View) (a : FlatArray) (events : List Event) (unspent : (d s : ℕ) → y.bay.spent d s ≡ false) (ran : Ran x m events) (ends : Ends m y) (serving : IsServing x a)
    (served : IsServed (moment_of m) events) (quiet : (d : ℕ) → Rose (m.bay.faults d) (y.bay.faults d) → ⊥)
    (told : (n : ℕ) → n < x.linear.arrays → IsTracked (book y) (slices_shown y) n)
    (f : Found) (on : IsRunOn f (moment_of x) x.bay) (only : AreOnly f) (own : HaveOwnAreas f)
    (serials : any_takes events ≡ true → AreSerial f.state) (fit : AreFit f (moment_of x) events (moment_of m) ran.steps)
    (out : List (List ℕ)) (ungiven : AreUngiven f (record { bound = (book m).state.serial; out = out }) x.shelf.names) (lone : AreLone f (record { bound = (book m).state.serial; out = out }) (moment_of x) events (moment_of m) ran.steps) (whole : IsWholeRaid f.state.made (book y))
    (lasts : (n : ℕ) → n < f.state.made → is_failed (book y) n ≡ false) where
  abbrev h : Found
  h = pool_by f (moment_of x) events (moment_of m) ran.steps

  abbrev l : Lone
  l = record { bound = (book m).state.serial; out = out }

  goes : GoesBy (TargetsLand f) (Some l) h y
  goes =
      goes_calls m y h (array_by a events) unspent ran.continues.proceeds.fit (ran.holds a serving.0) ends.passes
      (ran.lone a serving.0 served f l (goes_lone x f a l ran.fit serving.0 on only ungiven) (omega arith) serials fit lone).goes

  mid : KeepsHeads (book x) (book m) (slices_shown x) (slices_shown m)
  mid = ran.heads serving.0.shelf serving.0.disks

  heads : KeepsHeads (book x) (book y) (slices_shown x) (slices_shown y)
  heads = heads_then (book x) (book m) (book y) (slices_shown x) (slices_shown m) (slices_shown y) mid (heads_passes m y ends.passes)

  linear : y.linear.arrays ≡ x.linear.arrays
  linear = ap (λ (k : Linear). k.arrays) (ends.passes.linear ∙ ran.continues.linear)

  before : (n : ℕ) → n < h.state.made → n < f.state.made
  before n low = (let made = goes.arrays in let arrays = on.arrays in let joined = on.joined in omega (arith, low, made, linear, arrays, joined))

  made_now : (n : ℕ) → n < f.state.made → n < (book y).state.made
  made_now n low = (let first = on.after.same.made in let later = heads.made in omega (arith, low, first, later))

  alive : (n k : ℕ) → n < f.state.made → k < sectors_of ((book y).arrays n) → spent_of (book y) n k ≡ false
  alive n k low inside =
      or_from (is_failed (book y) n) _ (lasts n low)
      (whole_unspent ((book y).arrays n) k (ends.passes.stays.fit.0.running.set.arrays n (made_now n low)).is_array (λ j less. whole.seats n j low less) inside)

  pub lone_at : (i j : Image) → IsPick y.bay y.bay y.bay.held i → LeaveOut h (IsOut l y.shelf.names) i j → HasWholeSectors y.bay j → HoldAbsent h y.slices (book y).state j
  lone_at i j pick leave sized =
      lone_absent l y h goes ends.passes.stays.fit.0.running.set.fit.1
      (λ n low. told n (let made = goes.arrays in omega (arith, low, made, linear)))
      (λ n low. lasts n (before n low))
      (record {
        drives = whole.drives;
        seats = λ n k low. whole.seats n k (before n low);
        old = λ n low. whole.old n (before n low);
        synced = λ n low. whole.synced n (before n low);
      })
      (λ n r low left. agreed_at x m y f mid ends quiet on told n (before n low) (lasts n (before n low)) r left)
      (subst (λ (k : Linear). HoldGroup (book y) k (slices_shown y)) (sym (ends.passes.linear ∙ ran.continues.linear))
      (heads_group (book x) (book y) x.linear (slices_shown x) (slices_shown y) heads
      (λ n low. let joined = on.after.same.joined in let made = on.after.same.made in let all = on.joined in omega (arith, low, joined, made, all))
      (λ n low. serving.1 n (let joined = on.after.same.joined in let arrays = on.arrays in omega (arith, low, joined, arrays)))
      (λ n s low within first.
      alive n s (let joined = on.after.same.joined in let last = heads.joined in let all = on.joined in omega (arith, low, joined, last, all)) within)
      (on.group own)))
      (λ n k low within. alive n k (before n low) within)
      i j pick leave sized
