-- Contents that show of a stop in which a new drive joins what the call tells of it hold the pool with the drive, once the record counts that brings the state with it.
use Rattle.std.proofs.Common.{◌≡◌, ◌≢◌, ◌⊎◌, ℕ, ◌-◌, ◌<◌, ◌^◌, ◌==◌, if◌then◌else◌, Bool, true, Some, refl, sym, ap, ap₂, subst, ◌∙◌, inl, inr, eq-eqb, arith}
use Rattle.std.proofs.lemmas.Bool.{cases_eq, ne_eqb}
use Rattle.std.proofs.lemmas.Option.{none-some}
use Rattle.rack.specs.Seen.{Image, RackView}
use Rattle.slice_rack.specs.Slices.{IsOrderly, Slices, seat_of, sectors_of}
use Rattle.slice_rack.specs.Sliced.{IsInside, sliced}
use Rattle.gpt_table.specs.declared.Table.{Table}
use Rattle.gpt_table.specs.Changes.{the_table}
use Rattle.pool_state.specs.declared.contents.Copied.{Copied}
use Rattle.pool_state.specs.declared.contents.Plan.{Plan}
use Rattle.pool_state.specs.declared.contents.State.{State}
use Rattle.array_image.specs.Arrays.{replayed}
use Rattle.array_image.specs.Places.{member_slice}
use Rattle.array_image.specs.States.{is_current, state_in}
use Rattle.array_core.proofs.Stripped.{some_same}
use Rattle.raid_laws.specs.Book.{OnlyMarksSince, after_same}
use Rattle.raid_laws.specs.Enlisting.{next_drive}
use Rattle.raid_laws.specs.Frames.{HasFrame, frame_of}
use Rattle.raid_laws.specs.Logs.{LogsBetween}
use Rattle.raid_laws.specs.Raid.{Raid}
use Rattle.raid_laws.specs.Runs.{IsBetween}
use Rattle.raid_laws.specs.Since.{AreTakenSince}
use Rattle.pool_image.specs.Disks.{disks_of, identities_of}
use Rattle.pool_image.specs.Drives.{Found}
use Rattle.pool_model.specs.InService.{RunInvariant}
use Rattle.pool_model.specs.Laid.{HaveOtherIds, IsCalledBy, IsFormerYet, IsJoinedOutsideSlices, NamesJoining, SaysFormerly, ShowsJoining, ShowsParts}
use Rattle.pool_model.specs.Stopped.{RecoversInCall, HoldTables, LieByTables, LieOn}
use Rattle.pool_model.specs.Taken.{SeatsNew}
use Rattle.pool_model.proofs.Alike.{slices_said, truth_same}
use Rattle.pool_model.proofs.Amid.{inside_of}
use Rattle.pool_model.proofs.Joined.{current_here, current_other}
use Rattle.pool_model.proofs.JoiningLate.{joining_late}
use Rattle.pool_model.proofs.JoiningNames.{arranged, h, joining_later, joining_names, joining_strangers, known, next, off_was, same_sectors, seat_new, seat_old, slices, was, was_other}
use Rattle.pool_model.proofs.JoiningSaid.{joined_alone, joined_said}
use Rattle.pool_model.proofs.JoiningSeats.{joining_seats}
use Rattle.pool_model.proofs.Said.{AreInside, slices_by}
use Rattle.pool_model.proofs.Tables.{lie_same, slice_apart}
use Rattle.pool_model.proofs.Taken.{IsKnownBefore, has_truths}

-- s are the tables by which the pool goes, and u those with the new drive. The drive that the place had says a state from before, or its own of the book's state.
module _ (f : Found) (s u : Slices) (v : Raid) (place disk units : ℕ) (plan : Plan) (x : RackView) (i : Image) (is : RunInvariant f s v x)
    (new : SeatsNew f s u v place disk (x.sectors disk)) (joined : IsJoinedOutsideSlices f u v place disk x i)
    (formerly : (d : ℕ) (copy : Copied) → f.seats place ≡ Some d → d ≢ disk → (identities_of (disks_of x) i d).copied ≡ Some copy → SaysFormerly v.state place copy) where
  abbrev coming : State
  coming = next f s u v place disk units plan x i is new joined formerly

  abbrev pool : Found
  pool = h f s u v place disk units plan x i is new joined formerly

  -- the book with the new state: the rest of it has stayed
  abbrev book : Raid
  book = record v { state = coming }

  known_is : IsKnownBefore f v
  known_is = known f s u v place disk units plan x i is new joined formerly

  here : pool.seats place ≡ Some disk
  here = seat_new f s u v place disk units plan x i is new joined formerly

  old : (p : ℕ) → p ≢ place → pool.seats p ≡ f.seats p
  old p other = seat_old f s u v place disk units plan x i is new joined formerly p other

  sectors : (d : ℕ) → d < f.disks.count → x.sectors d ≡ f.disks.sectors d
  sectors d low = same_sectors f s u v place disk units plan x i is new joined formerly d low

  -- ---- places

  current_still : (p : ℕ) → is_current v.state p ≡ true → is_current coming p ≡ true
  current_still p was_so = elim (cases_eq p place) [
    | inl same ↦ subst (λ q. is_current coming q ≡ true) (sym same) (current_here place units plan v.state new.listed)
    | inr other ↦ current_other place units plan v.state new.listed p other ∙ was_so
  ]

  module _ (present : (p : ℕ) → is_current v.state p ≡ true → (d : ℕ) × (f.seats p ≡ Some d)) where
    present_now : (p : ℕ) → is_current coming p ≡ true → (d : ℕ) × (pool.seats p ≡ Some d)
    present_now p now = elim (cases_eq p place) [
      | inl same ↦ (disk, ap pool.seats same ∙ here)
      | inr other ↦
          let one = present p (sym (current_other place units plan v.state new.listed p other) ∙ now) in
          (one.0, old p other ∙ one.1)
    ]

  -- ---- the pool by the tables

  module _ (orderly : IsOrderly u) (inside : IsInside u x) where
    within : AreInside pool u
    within = inside_of pool u x refl inside

    called : IsCalledBy pool u book
    called =
        let ready = arranged f s u v place disk units plan x i is new joined formerly in
        let lie = slices f s u v place disk units plan x i is new joined formerly in
        record {
          arranged = ready;
          after = after_same coming;
          joined = is.after.same.joined ∙ is.joined ∙ sym is.after.same.made;
          geometry = λ n q low truth.
              let less : n < f.state.made = (let made = is.after.same.made in omega (arith, low, made)) in
              is.geometry n q less
              (sym (truth_same f pool is.arranged.made.1 is.arranged.truths (has_truths f s u v (disks_of x) place disk units plan new known_is sectors) n less) ∙ truth);
          slices = λ e. slices_by (record pool { identities = e }) u coming (slices_said pool e ready.made.1 ready.truths u lie);
          orderly = orderly;
          inside = within;
        }

  -- ---- tables

  tables_now : HoldTables f s v.state x → LieOn u place (x.sectors disk) (i disk) → LieByTables pool u coming i
  tables_now tables own p d now seat = elim (cases_eq p place) [
    | inl same ↦
        let on : seat_of u p ≡ Some disk = new.seats.seats p ∙ ap (λ (b : Bool). if b then Some disk else seat_of s p) (eq-eqb p place same) in
        let at : d ≡ disk = some_same d disk (sym seat ∙ on) in
        subst (λ k. LieOn u p (x.sectors k) (i k)) (sym at) (subst (λ q. LieOn u q (x.sectors disk) (i disk)) (sym same) own)
    | inr other ↦
        let before : seat_of s p ≡ Some d = sym (new.seats.seats p ∙ ap (λ (b : Bool). if b then Some disk else seat_of s p) (ne_eqb p place other)) ∙ seat in
        let at : f.seats p ≡ Some d = sym (is.slices.seats p) ∙ before in
        lie_same s u p (x.sectors d) (i d)
        (λ n few.
        let apart = slice_apart p place n other few in
        ap₂ (λ (a b : ℕ). record { first = a; sectors = b }) (new.seats.firsts (member_slice p n) apart) (new.seats.others (member_slice p n) apart))
        (subst (LieOn s p (x.sectors d)) (was_other f s u v place disk units plan x i is new joined formerly d (new.others p d other at).1)
        (subst (λ k. LieOn s p k (was f s u v place disk units plan x i is new joined formerly d)) (sym (sectors d (is.arranged.seated p d at).1))
        (tables (was f s u v place disk units plan x i is new joined formerly) (off_was f s u v place disk units plan x i is new joined formerly) p d
        (sym (current_other place units plan v.state new.listed p other) ∙ now) before)))
  ]

  -- Each place that was current has its drive, another one of which is left, and numbers aren't at their end. No other disk has the new drive's id, and that has its table.
  -- While the state before stands, the place may have the drive that it had.
  pub joining_amid : (w : Raid) → IsOrderly u → IsInside u x → HoldTables f s v.state x
      → ((p : ℕ) → is_current v.state p ≡ true → (d : ℕ) × (f.seats p ≡ Some d))
      → (p : ℕ) × (p ≢ place) × (is_current v.state p ≡ true) × (is_current w.state p ≡ true) → w.state.epoch < 2 ^ 63 - 1
      → (table : Table) → table.disk_id.0 ≡ (next_drive v.state).0 → the_table (x.sectors disk) (i disk) ≡ Some table → LieOn u place (x.sectors disk) (i disk)
      → HaveOtherIds f v.state place disk i → AreTakenSince (λ p. p == place) v.state coming (sectors_of u) (sliced u i)
      → (logs : LogsBetween coming w.state (sectors_of u) (sliced u i))
      → ((q : State) → state_in (sliced u i) ≡ Some q → OnlyMarksSince v.state q → is_current q place ≡ true
      → OnlyMarksSince coming q ⊎ IsFormerYet (disks_of x) u q logs.state place i)
      → ((n : ℕ) → n < f.state.made → IsBetween coming w.state n (replayed (sectors_of u) (sliced u i)))
      → ((n : ℕ) → n < f.state.made → HasFrame (frame_of (v.arrays n).truth) n (replayed (sectors_of u) (sliced u i)))
      → RecoversInCall pool u coming w.state i
  joining_amid w orderly inside tables present left enough table drive tabled own ids since logs former arrays frames =
      let made = is.after.same.made in
      let parts : ShowsParts pool u book w i =
      record {
        said = joined_said f s u v place disk units plan x i is new joined;
        tables = tables_now tables own;
        alone = joined_alone f s u v place disk units plan x i is new joined;
        absent = λ p d now free low stands. let one = present_now present p now in none-some one.0 (sym free ∙ one.1);
        logs = logs;
        arrays = λ n low. arrays n (omega (arith, low, made));
        frames = λ n low. frames n (omega (arith, low, made));
      } in
      let said : Found = record pool { identities = parts.said.identities } in
      let names = joining_names f s u v place disk units plan x i is new joined formerly (within orderly inside) since table drive tabled ids in
      let naming : NamesJoining said v.state coming place i = record { own = names.own; apart = names.apart; before = names.before; behind = names.behind } in
      let shows : ShowsJoining said u v.state coming logs.state place i =
      record {
        state = refl;
        later = joining_later f s u v place disk units plan x i is new joined formerly;
        room = (let up = logs.sooner.epoch in omega (arith, enough, up));
        current = current_still;
        joining = since;
        present = present_now present;
        someone = (left.0, left.1, left.2, logs.sooner.current left.0 left.3);
        strangers = λ d copy never low said_it. joining_strangers f s u v place disk units plan x i is new joined formerly d copy never low said_it;
        seats = λ r p d after now seat. joining_seats said v.state coming place i parts.said.outset naming r p d after now seat;
        former = former;
      } in
      joining_late pool u v.state book w place i (called orderly inside) parts (left.0, left.2, left.3) shows
