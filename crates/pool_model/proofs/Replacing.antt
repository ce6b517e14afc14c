-- Each stop inside a call of a rack of arrays that gives a current place another drive leaves contents that hold the pool with the drive that it had, or with the new one.
use Rattle.std.proofs.Common.{◌≡◌, ◌≢◌, ◌⊎◌, ℕ, ◌+◌, ◌-◌, ◌<◌, ◌≤◌, ◌^◌, if◌then◌else◌, Bool, true, false, List, Some, refl, sym, ap, subst, ◌∙◌, inl, inr, lt-ltb, arith}
use Rattle.std.proofs.lemmas.Bool.{cases_lt}
use Rattle.rack.specs.Seen.{Image, RackView}
use Rattle.rack.specs.Sequences.{IsMix}
use Rattle.slice_rack.specs.Slices.{IsOrderly, Slices, sectors_of}
use Rattle.slice_rack.specs.Sliced.{IsInside, sliced, slices_of}
use Rattle.gpt_table.specs.declared.Table.{Table}
use Rattle.gpt_table.specs.declared.TableCopy.TheVariants.{Primary}
use Rattle.gpt_table.proofs.Tables.{first_says}
use Rattle.pool_state.specs.declared.contents.Copied.{Copied}
use Rattle.pool_state.specs.declared.contents.Plan.{Plan}
use Rattle.pool_state.specs.declared.contents.State.{State}
use Rattle.array_image.specs.Arrays.{replayed}
use Rattle.array_image.specs.States.{is_current, id_of}
use Rattle.array_core.proofs.Stripped.{some_same}
use Rattle.array_model.specs.View.{View}
use Rattle.log_laws.specs.Kept.{LogInvariant}
use Rattle.raid_laws.specs.Enlisting.{Enlists, IsWrittenBy, KeepsTold, SaysLatter, SaysReplacing, enlisted, new_table, next_drive}
use Rattle.raid_laws.specs.Frames.{frame_of}
use Rattle.raid_laws.specs.Losses.{has_other}
use Rattle.raid_laws.specs.Missing.{raised}
use Rattle.raid_laws.specs.Raid.{IsTracked, Raid, held_in, is_failed, spent_of}
use Rattle.raid_laws.proofs.Over.{number_room}
use Rattle.pool_image.specs.Disks.{disks_of, identities_of}
use Rattle.pool_image.specs.Drives.{Found}
use Rattle.pool_model.specs.Laid.{HaveOtherIds, IsFormerYet, IsJoinedOutsideSlices, SaysFormerly}
use Rattle.pool_model.specs.Stopped.{RecoversInCall}
use Rattle.pool_model.specs.Taken.{taken, views_of}
use Rattle.pool_model.proofs.Amid.{inside_of}
use Rattle.pool_model.proofs.FormerDrive.{former_below, former_own, former_yet}
use Rattle.pool_model.proofs.ReplacingEarly.{former_all, replacing_former, replacing_laid}
use Rattle.pool_model.proofs.TakingLate.{IsEntering, between_says, entering_late, entering_off}

-- What is known of a pool and of the disk when it takes the place of a drive that is there: t are the tables by which the pool goes, and u those with the new one. The disk is none of the
-- pool's drives, and the drive that goes has another id.
pub record IsReplacing (f : Found) (t u : Slices) (arrays : List View) (v : Raid) (place disk : ℕ) (x : RackView) : Type 0 where
  pub enters : IsEntering f t u arrays v place disk x
  pub was : is_current v.state place ≡ true
  pub orderly : IsOrderly t
  pub inside : IsInside t x
  pub apart : (p : ℕ) → f.seats p ≡ Some disk → ⊥
  pub renamed : id_of v.state place ≢ Some (next_drive v.state).0
  pub room : 10273 ≤ x.sectors disk

-- The arrays are told when the call begins, and none is over when it ends; a drive is left that the pool had.
module _ (f : Found) (t u : Slices) (v w : Raid) (place disk units : ℕ) (plan : Plan) (a b : RackView) (is : IsReplacing f t u (views_of v) v place disk a)
    (enlists : Enlists t u (views_of v) place disk units plan v w a b) (told : (n : ℕ) → n < f.state.made → IsTracked v (slices_of t a) n)
    (lasts : (n : ℕ) → n < f.state.made → is_failed w n ≡ false) (left : has_other w.state place ≡ true) (traced : a.traced) where
  abbrev next : State
  next = enlisted place units plan v.state

  abbrev table : Table
  table = new_table v.state (views_of v) place (a.sectors disk)

  first : 0 < f.state.made
  first = (let made = is.enters.service.arranged.made.0 in omega (arith, made))

  listed : (n : ℕ) → n < f.state.made → n < v.state.made
  listed n low = let made = is.enters.service.after.same.made in omega (arith, low, made)

  tells : (n : ℕ) → n < f.state.made → KeepsTold t u place disk units plan table v w a b enlists.mid n
  tells n low = enlists.told n (listed n low) (told n low) is.enters.opened left

  still : is_failed v 0 ≡ false
  still = enlists.is.still 0 (listed 0 first) left (lasts 0 first)

  log : LogInvariant v.state v.number (λ p. false) (slices_of t a)
  log = ((told 0 first).stood still).log

  -- the drive that goes
  former : (d : ℕ) × (f.seats place ≡ Some d)
  former = is.enters.present place is.was

  apart_former : former.0 ≢ disk
  apart_former same = is.apart place (former.1 ∙ ap Some same)

  joined_off : (i : Image) → IsMix a b (IsWrittenBy u disk table) i → IsJoinedOutsideSlices f u v place disk a i
  joined_off =
      entering_off f t u (views_of v) v place disk a b is.enters enlists.only
      (former_below f t u v place disk a is.enters.service is.enters.new is.orderly is.enters.orderly is.inside is.was (told 0 first) still)

  module _ (i : Image) (joined : IsJoinedOutsideSlices f u v place disk a i) where
    formerly : (d : ℕ) (copy : Copied) → f.seats place ≡ Some d → d ≢ disk → (identities_of (disks_of a) i d).copied ≡ Some copy → SaysFormerly v.state place copy
    formerly d copy seat other here =
        former_own f t u v place disk a i is.enters.service is.enters.new joined.others is.orderly is.enters.orderly is.inside log is.was d seat other copy here

  -- ---- at a moment once the slices of the disk were added

  module _ (k : ℕ) (i : Image) (late : enlists.mid < k) (until : k ≤ b.clock) (stopped : b.stops k i) where
    begun : a.clock < k
    begun = let from = (enlists.within traced).0 in omega (arith, late, from)

    each : (n : ℕ) → n < f.state.made → SaysReplacing t u place disk table next v w a n (held_in v (slices_of t a) n) i
    each n low = (tells n low).replacing is.was traced (lasts n low) k i late until stopped

    abbrev Latter : ℕ → Type 0
    Latter n = SaysLatter v.state next v.number w n (held_in v (slices_of t a) n) (spent_of w n) (frame_of (v.arrays n).truth) (sectors_of u) (sliced u i)

    up : v.state.epoch < next.epoch
    up =
        let e : raised v.state.epoch ≡ v.state.epoch + 1 =
        ap (λ (c : Bool). if c then v.state.epoch + 1 else v.state.epoch) (lt-ltb v.state.epoch (2 ^ 63 - 1) is.enters.new.room) in
        omega (arith, e)

    -- it is so of all arrays
    latter_all : Latter 0 → (n : ℕ) → n < f.state.made → Latter n
    latter_all one n low = elim (each n low).says [
      | inr latter ↦ latter.0
      | inl before ↦
          let says = one.says in
          let same : v.state ≡ says.state = some_same v.state says.state (sym before.2 ∙ says.is_state) in
          let epoch : v.state.epoch ≡ says.state.epoch = ap (λ (z : State). z.epoch) same in
          let from = says.later.epoch in
          let more = up in
          absurd (omega (arith, epoch, from, more))
    ]

    pub replacing_late : HaveOtherIds f v.state place disk i → Latter 0 → RecoversInCall (taken f (disks_of a) place disk next) u next w.state i
    replacing_late ids one =
        let joined = joined_off i ((enlists.only.stops traced).new k i begun until stopped) in
        let here = each 0 first in
        let tabled = first_says (a.sectors disk) (i disk) table (here.holds Primary).says in
        entering_late f t u (views_of v) v place disk a b is.enters enlists.only units plan w i joined (formerly i joined) left
        (let most = (number_room w 0 (lasts 0 first)).1 in omega (arith, most)) here.holds ids here.since one.logs
        (λ q at after now. elim (one.stands q at) [
          | inl since ↦ inl since
          | inr yet ↦
              inr (subst (λ (z : State). IsFormerYet (disks_of a) u z one.logs.state place i) (sym yet.before)
              (subst (λ (z : State). IsFormerYet (disks_of a) u v.state z place i) (some_same next one.logs.state (sym yet.brings ∙ one.logs.says.is_state))
              (former_yet f t u v place disk a i is.enters.service is.enters.new joined.others is.orderly is.enters.orderly is.inside log is.was former.0 former.1 apart_former joined
              units plan (formerly i joined) (inside_of (taken f (disks_of a) place disk next) u a refl is.enters.inside) here.since table refl tabled is.renamed yet.later)))
        ])
        (λ n low.
        between_says next w n (held_in v (slices_of t a) n) (spent_of w n) (replayed (sectors_of u) (sliced u i)) (latter_all one n low).says)
        (λ n low. (latter_all one n low).frame)

  -- What it holds after a stop: the pool that there was, with the drive that the place had, or the pool with the new one.
  pub replacing_amid : (k : ℕ) (i : Image) → a.clock < k → k ≤ b.clock → b.stops k i → (enlists.mid < k → HaveOtherIds f v.state place disk i)
      → RecoversInCall f t v.state v.state i ⊎ RecoversInCall (taken f (disks_of a) place disk next) u next w.state i
  replacing_amid k i since until stopped ids = elim (cases_lt enlists.mid k) [
    | inr early ↦
        inl (replacing_laid f t v place disk a is.enters.service is.apart is.orderly is.inside is.enters.tables is.enters.opened is.room is.enters.lasting traced u units plan table refl w b
        enlists.mid is.enters.new enlists.only tells lasts is.enters.present place is.was is.was k i since until stopped early)
    | inl late ↦ elim (each k i late until stopped 0 first).says [
      | inl before ↦
          inl (replacing_former f t v place disk a is.enters.service is.apart is.orderly is.inside is.enters.tables is.enters.opened is.room is.enters.lasting traced u units plan table refl w b
          enlists.mid is.enters.new enlists.only tells lasts is.enters.present place is.was is.was k i since until stopped
          (former_all f t v place disk a is.enters.service is.apart is.orderly is.inside is.enters.tables is.enters.opened is.room is.enters.lasting traced u units plan table refl w b
          enlists.mid is.enters.new enlists.only tells lasts is.enters.present place is.was is.was i (each k i late until stopped) before.2) before.1)
      | inr latter ↦ inr (replacing_late k i late until stopped (ids late) latter.0)
    ]
  ]
