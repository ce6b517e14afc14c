-- Whom disks stand for at a stop in which a new drive joins: the drives that the pool had for their places, by their copies, and the new one for its own, by its copy or, while it
-- says no state, by its table. So no other disk may have its id then.
use Rattle.std.proofs.Common.{◌≡◌, ◌≢◌, ◌⊎◌, ℕ, ◌+◌, ◌-◌, ◌<◌, ◌≤◌, ◌^◌, ◌==◌, if◌then◌else◌, Bool, true, bytes_eq, position, List, Option, Some, None, option_map, refl, sym, ap, subst, ◌∙◌, inl, inr, eq-eqb, lt-ltb, arith}
use Rattle.std.specs.Option.{option_and_then, option_map_or}
use Rattle.std.specs.Result.{result_ok}
use Rattle.std.proofs.lemmas.Bool.{cases_eq, ne_eqb}
use Rattle.std.proofs.lemmas.Option.{none-some}
use Rattle.rack.specs.Seen.{Image, RackView}
use Rattle.rack.specs.Values.{MayLeave}
use Rattle.slice_rack.specs.Runs.{IsSliced}
use Rattle.slice_rack.specs.Slices.{Slices, sectors_of}
use Rattle.slice_rack.specs.Sliced.{sliced}
use Rattle.gpt_table.specs.declared.Table.{Table}
use Rattle.gpt_table.specs.Changes.{the_table}
use Rattle.pool_state.specs.declared.contents.Copied.{Copied}
use Rattle.pool_state.specs.declared.contents.Drive.{Drive}
use Rattle.pool_state.specs.declared.contents.Plan.{Plan}
use Rattle.pool_state.specs.declared.contents.State.{State}
use Rattle.pool_state.specs.Sector.{decoded}
use Rattle.array_image.specs.Places.{log_slice}
use Rattle.array_image.specs.States.{epoch_of, is_current, id_of}
use Rattle.array_core.proofs.Stripped.{some_same}
use Rattle.log_laws.specs.Kept.{IsNoLater}
use Rattle.raid_laws.specs.Book.{OnlyMarksSince}
use Rattle.raid_laws.specs.Enlisting.{enlisted, next_drive}
use Rattle.raid_laws.specs.Raid.{Raid}
use Rattle.raid_laws.specs.Since.{AreTakenSince}
use Rattle.raid_laws.proofs.Noted.{current_few}
use Rattle.pool_image.specs.Disks.{Disks, Identities, Identity, disks_of, id_by, identities_of, stands_for}
use Rattle.pool_image.specs.Drives.{Found}
use Rattle.pool_model.specs.InService.{HasSeat, RunInvariant, IsArranged, IsSaid, epoch_at}
use Rattle.pool_model.specs.Laid.{GoesBy, HaveOtherIds, IsJoinedOutsideSlices, NamesJoining, SaysFormerly}
use Rattle.pool_model.specs.Left.{IsPickOutsideSlices}
use Rattle.pool_model.specs.Pools.{AreSlicesOf}
use Rattle.pool_model.specs.Taken.{SeatsNew, taken, views_of}
use Rattle.pool_model.proofs.Found.{ok_of}
use Rattle.pool_model.proofs.Joined.{current_here, id_here, id_other, names_here, names_other}
use Rattle.pool_model.proofs.Logs.{copied_in, there_in}
use Rattle.pool_model.proofs.Named.{IsNamed, id_same, same_position, stands_named}
use Rattle.pool_model.proofs.Outset.{no_later_epoch}
use Rattle.pool_model.proofs.Said.{AreInside}
use Rattle.pool_model.proofs.Staying.{sliced_seated}
use Rattle.pool_model.proofs.Taken.{IsKnownBefore, arranged_taken, seat_here, seat_other}
use Rattle.pool_model.proofs.TakenSlices.{slices_taken}

-- s are the tables by which the pool goes, and u those with the new drive. The drive that the place had says a state from before, or its own of the book's state.
module _ (f : Found) (s u : Slices) (v : Raid) (place disk units : ℕ) (plan : Plan) (x : RackView) (i : Image) (is : RunInvariant f s v x)
    (new : SeatsNew f s u v place disk (x.sectors disk)) (joined : IsJoinedOutsideSlices f u v place disk x i)
    (formerly : (d : ℕ) (copy : Copied) → f.seats place ≡ Some d → d ≢ disk → (identities_of (disks_of x) i d).copied ≡ Some copy → SaysFormerly v.state place copy) where
  pub known : IsKnownBefore f v
  known = record { outset = is.arranged; after = is.after; geometry = is.geometry }

  abbrev pub next : State
  next = enlisted place units plan v.state

  abbrev pub h : Found
  h = taken f (disks_of x) place disk next

  abbrev pub ids : Identities
  ids = identities_of (disks_of x) i

  pub count : f.disks.count ≡ x.disks
  count = ap (λ (q : Disks). q.count) is.disks

  pub same_sectors : (d : ℕ) → d < f.disks.count → x.sectors d ≡ f.disks.sectors d
  same_sectors d low = ap (λ (q : Disks). q.sectors d) (sym is.disks)

  pub joining_later : v.state.epoch < next.epoch
  joining_later =
      let up : next.epoch ≡ v.state.epoch + 1 = ap (λ (b : Bool). if b then v.state.epoch + 1 else v.state.epoch) (lt-ltb v.state.epoch (2 ^ 63 - 1) new.room) in
      omega (arith, up)

  pub arranged : IsArranged h
  arranged =
      arranged_taken f s u v (disks_of x) place disk units plan new known same_sectors (let same = count in let e : f.disks.count ≤ x.disks = omega (arith, same) in e) joined.low

  pub slices : AreSlicesOf h u
  slices = slices_taken f s u v (disks_of x) place disk units plan new known same_sectors is.slices

  pub seat_new : h.seats place ≡ Some disk
  seat_new = seat_here f s u v (disks_of x) place disk units plan new known same_sectors

  pub seat_old : (p : ℕ) → p ≢ place → h.seats p ≡ f.seats p
  seat_old p other = seat_other f s u v (disks_of x) place disk units plan new known same_sectors p 0 other

  -- ---- what the disks said

  -- the same contents but for the new drive
  abbrev pub was : Image
  was = λ d k. if d == disk then (x.held d k).current else i d k

  pub was_other : (d : ℕ) → d ≢ disk → was d ≡ i d
  was_other d other = let read : Bool → ℕ → List ℕ = λ b k. if b then (x.held d k).current else i d k in ap read (ne_eqb d disk other)

  pub off_by : (r : Slices) → ((d k : ℕ) (w : List ℕ) → d ≢ disk → IsSliced u d k w → IsSliced r d k w) → IsPickOutsideSlices r x was
  off_by r fewer d k live never = elim (cases_eq d disk) [
    | inl same ↦ subst (λ c. MayLeave (x.held d k) c) (sym (ap (λ (b : Bool). if b then (x.held d k).current else i d k) (eq-eqb d disk same))) (inl refl)
    | inr other ↦
        subst (λ c. MayLeave (x.held d k) c) (sym (ap (λ (b : Bool). if b then (x.held d k).current else i d k) (ne_eqb d disk other)))
        (joined.others d k other live (λ w at. never w (fewer d k w other at)))
  ]

  pub off_was : IsPickOutsideSlices s x was
  off_was = off_by s (sliced_seated (views_of v) place disk (x.sectors disk) s u new.seats)

  pub said : IsSaid f was
  said = is.held.said was off_was

  abbrev pub e : Identities
  e = said.identities

  pub says_was : (d : ℕ) → d ≢ disk → identities_of (disks_of x) was d ≡ ids d
  says_was d other = ap (λ (c : ℕ → List ℕ). identities_of (disks_of x) (λ k. c) d) (was_other d other)

  -- ---- disks that are no drives

  pub none_new : (d : ℕ) → ((p : ℕ) → h.seats p ≡ Some d → ⊥) → d ≢ disk
  none_new d never same = never place (seat_new ∙ ap Some (sym same))

  -- the place had it, or it was none before
  former_or : (d : ℕ) → ((p : ℕ) → h.seats p ≡ Some d → ⊥) → (f.seats place ≡ Some d) ⊎ ((p : ℕ) → f.seats p ≡ Some d → ⊥)
  former_or d never = by (f.seats place) refl
    where
      none : (f.seats place ≡ Some d → ⊥) → (p : ℕ) → f.seats p ≡ Some d → ⊥
      none lost p seat = elim (cases_eq p place) [ inl same ↦ lost (ap f.seats (sym same) ∙ seat) | inr other ↦ never p (seat_old p other ∙ seat) ]

      by : (o : Option ℕ) → f.seats place ≡ o → (f.seats place ≡ Some d) ⊎ ((p : ℕ) → f.seats p ≡ Some d → ⊥)
      by None free = inr (none (λ seat. none-some d (sym free ∙ seat)))
      by (Some k) has = elim (cases_eq k d) [
        | inl same ↦ inl (has ∙ ap Some same)
        | inr other ↦ inr (none (λ seat. other (some_same k d (sym has ∙ seat))))
      ]

  pub stranger_is : (d : ℕ) → ((p : ℕ) → f.seats p ≡ Some d → ⊥) → d ≢ disk → d < x.disks → ids d ≡ e d
  stranger_is d never other low =
      sym (says_was d other) ∙ sym (ap (λ (q : Disks). identities_of q was d) is.disks) ∙ said.elsewhere.others d never (let same = count in omega (arith, low, same))

  -- a state that is no later than the pool's is no later than the book's
  later_still : (copy : Copied) → IsNoLater f.state copy → IsNoLater v.state copy
  later_still copy most = elim most [
    | inl less ↦ inl (let up = is.after.epoch in omega (arith, less, up))
    | inr same ↦ elim is.after.raised [
      | inl still ↦ inr (same ∙ sym still)
      | inr (inl later) ↦ inl (subst (λ (z : State). z.epoch < v.state.epoch) (sym same) later)
      | inr (inr past) ↦ absurd (let room = new.room in omega (arith, room, past))
    ]
  ]

  -- they say no later states than the book before
  pub joining_strangers : (d : ℕ) (copy : Copied) → ((p : ℕ) → h.seats p ≡ Some d → ⊥) → d < h.disks.count → (ids d).copied ≡ Some copy → IsNoLater v.state copy
  joining_strangers d copy never low here = elim (former_or d never) [
    | inl lost ↦ elim (formerly d copy lost (none_new d never) here) [ inl less ↦ inl less | inr own ↦ own.0 ]
    | inr none ↦
        later_still copy
        (said.outset.copies d copy (let same = count in omega (arith, low, same))
        (sym (ap (λ (z : Identity). z.copied) (stranger_is d none (none_new d never) low)) ∙ here))
  ]

  pub stranger_low : (d : ℕ) → ((p : ℕ) → h.seats p ≡ Some d → ⊥) → d < x.disks → epoch_at (ids d) ≤ v.state.epoch
  stranger_low d never low = of (ids d).copied refl
    where
      of : (o : Option Copied) → (ids d).copied ≡ o → option_map_or epoch_of o 0 ≤ v.state.epoch
      of None none = omega arith
      of (Some copy) some = no_later_epoch v.state copy (joining_strangers d copy never low some)

  -- ---- ids of the other places

  module _ (p d : ℕ) (seat : f.seats p ≡ Some d) where
    pub had : HasSeat (record f { identities = e }) p d
    had = said.outset.seated p d seat

    pub named : IsNamed f.state (e d) p
    named = stands_named f.state (e d) p had.stands

    pub id_before : id_of v.state p ≡ Some named.id
    id_before = id_same f.state v.state is.after.same p ∙ named.place

    pub first_before : position (λ (k : Drive). bytes_eq k.id.0 named.id) v.state.drives.items ≡ Some p
    first_before = same_position named.id v.state.drives.items f.state.drives.items is.after.same.drives ∙ named.first

  -- places with drives have ids of their own
  pub apart_ids : (p q d y : ℕ) → f.seats p ≡ Some d → f.seats q ≡ Some y → id_of v.state p ≡ id_of v.state q → p ≡ q
  apart_ids p q d y one two same =
      let ids_same : (named p d one).id ≡ (named q y two).id =
      some_same (named p d one).id (named q y two).id (sym (id_before p d one) ∙ same ∙ id_before q y two) in
      some_same p q
      (sym (first_before p d one) ∙ ap (λ (id : List ℕ). position (λ (k : Drive). bytes_eq k.id.0 id) v.state.drives.items) ids_same ∙ first_before q y two)

  module _ (p d : ℕ) (other : p ≢ place) (seat : f.seats p ≡ Some d) where
    abbrev own_id : List ℕ
    own_id = (named p d seat).id

    module _ (r : State) (after : OnlyMarksSince v.state r ⊎ OnlyMarksSince next r) where
      id_now : id_of r p ≡ Some own_id
      id_now = elim after [
        | inl of ↦ id_same v.state r of.same p ∙ id_before p d seat
        | inr of ↦ id_same next r of.same p ∙ id_other place units plan v.state new.listed p other ∙ id_before p d seat
      ]

      first_now : position (λ (k : Drive). bytes_eq k.id.0 own_id) r.drives.items ≡ Some p
      first_now = elim after [
        | inl of ↦ same_position own_id r.drives.items v.state.drives.items of.same.drives ∙ first_before p d seat
        | inr of ↦
            same_position own_id r.drives.items next.drives.items of.same.drives
            ∙ names_other place units plan v.state new.listed new.fresh p own_id other (id_before p d seat) (first_before p d seat)
      ]

      -- another disk that stands for the place did so
      same_id : (y : ℕ) → (stands : stands_for r (ids y) ≡ Some p) → (stands_named r (ids y) p stands).id ≡ own_id
      same_id y stands = let one = stands_named r (ids y) p stands in some_same one.id own_id (sym one.place ∙ id_now)

      stood_for : (y : ℕ) → stands_for r (ids y) ≡ Some p → stands_for f.state (ids y) ≡ Some p
      stood_for y stands =
          let one = stands_named r (ids y) p stands in
          ap (option_and_then (λ id. position (λ (k : Drive). bytes_eq k.id.0 id) f.state.drives.items)) (one.says ∙ ap Some (same_id y stands)) ∙ (named p d seat).first

      -- where it is none and comes before the drive, it says an earlier state
      low_before : (y : ℕ) → ((k : ℕ) → h.seats k ≡ Some y → ⊥) → y < d → stands_for r (ids y) ≡ Some p → epoch_at (ids y) < v.state.epoch
      low_before y never less stands =
          let most = (had p d seat).low in
          let from = is.arranged.epoch in
          let up = is.after.epoch in
          elim (former_or y never) [
            | inl lost ↦ of lost (omega (arith, from, up)) (ids y).copied refl
            | inr none ↦
                let same = stranger_is y none (none_new y never) (let all = count in omega (arith, less, most, all)) in
                let early = (had p d seat).before y less none (ap (stands_for f.state) (sym same) ∙ stood_for y stands) in
                let here : epoch_at (ids y) ≡ epoch_at (e y) = ap epoch_at same in
                omega (arith, early, here, up)
          ]
        where
          of : f.seats place ≡ Some y → 0 < v.state.epoch → (o : Option Copied) → (ids y).copied ≡ o → option_map_or epoch_of o 0 < v.state.epoch
          of lost some None at = some
          of lost some (Some copy) at = elim (formerly y copy lost (none_new y never) at) [
            | inl less ↦ less
            | inr own ↦
                absurd (other
                (apart_ids p place d y seat lost
                (id_before p d seat ∙ sym (ap Some (same_id y stands)) ∙ sym (stands_named r (ids y) p stands).says ∙ ap (λ (k : Option Copied). id_by (ids y).table k) at ∙ own.1)))
          ]

  -- ---- the drives' own copies

  module _ (inside : AreInside h u) (since : AreTakenSince (λ p. p == place) v.state next (sectors_of u) (sliced u i)) where
    block_is : (p d : ℕ) → h.seats p ≡ Some d → (ids d).copied ≡ result_ok (decoded (sliced u i (log_slice p) 0))
    block_is p d seat = copied_in h u i inside p d (slices.seats p ∙ seat) (slices.logs p d seat)

    small : (p d : ℕ) → h.seats p ≡ Some d → p < 16
    small p d seat = current_few next p arranged.places (arranged.seated p d seat).0

    there : (p d : ℕ) → h.seats p ≡ Some d → 0 < sectors_of u (log_slice p)
    there p d seat = there_in h u i inside p d (slices.seats p ∙ seat) (slices.logs p d seat)

    record HasOwn (p d : ℕ) : Type 0 where
      copy : Copied
      says : (ids d).copied ≡ Some copy
      from : v.state.epoch ≤ copy.state.epoch
      drive : id_of copy.state copy.own ≡ id_of v.state p

    own_copy : (p d : ℕ) → p ≢ place → f.seats p ≡ Some d → HasOwn p d
    own_copy p d other seat =
        let here : h.seats p ≡ Some d = seat_old p other ∙ seat in
        elim ((since p (small p d here) (there p d here)).own (ne_eqb p place other) (new.others p d other seat).0) [
          | inl one ↦ record { copy = one.copy; says = block_is p d here ∙ ap result_ok one.is; from = one.after.epoch; drive = one.drive }
          | inr one ↦ record {
            copy = one.copy;
            says = block_is p d here ∙ ap result_ok one.is;
            from = (let up = joining_later in let more = one.after.epoch in omega (arith, up, more));
            drive = one.drive ∙ id_other place units plan v.state new.listed p other;
          }
        ]

    own_epoch : (p d : ℕ) → p ≢ place → f.seats p ≡ Some d → v.state.epoch ≤ epoch_at (ids d)
    own_epoch p d other seat =
        let one = own_copy p d other seat in
        let from = one.from in
        let same : epoch_at (ids d) ≡ one.copy.state.epoch = ap (λ (o : Option Copied). option_map_or epoch_of o 0) one.says in
        omega (arith, from, same)

    pub own_stands : (r : State) (p d : ℕ) → OnlyMarksSince v.state r ⊎ OnlyMarksSince next r → p ≢ place → f.seats p ≡ Some d → stands_for r (ids d) ≡ Some p
    own_stands r p d after other seat =
        let one = own_copy p d other seat in
        ap (λ (o : Option Copied). stands_for r (record { copied = o; table = (ids d).table })) one.says
        ∙ ap (option_and_then (λ id. position (λ (k : Drive). bytes_eq k.id.0 id) r.drives.items)) (one.drive ∙ id_before p d seat)
        ∙ first_now p d other seat r after

    -- ---- the new drive

    module _ (table : Table) (drive : table.disk_id.0 ≡ (next_drive v.state).0) (tabled : the_table (x.sectors disk) (i disk) ≡ Some table) where
      pub new_id : id_by (ids disk).table (ids disk).copied ≡ Some (next_drive v.state).0
      new_id = of (ids disk).copied refl
        where
          of : (o : Option Copied) → (ids disk).copied ≡ o → id_by (ids disk).table o ≡ Some (next_drive v.state).0
          of None none = ap (option_map (λ (k : Table). k.disk_id.0)) tabled ∙ ap Some drive
          of (Some copy) some =
              let block = ok_of (decoded (sliced u i (log_slice place) 0)) copy (sym (block_is place disk seat_new) ∙ some) in
              let one = (since place (small place disk seat_new) (there place disk seat_new)).joins copy (inl (eq-eqb place place refl)) (current_here place units plan v.state new.listed) block in
              let same : one.copy ≡ copy = some_same one.copy copy (sym (ap result_ok one.is) ∙ ap result_ok block) in
              ap (λ (k : Copied). id_of k.state k.own) (sym same) ∙ one.drive ∙ id_here place units plan v.state new.listed

      new_stands : (r : State) → OnlyMarksSince next r → stands_for r (ids disk) ≡ Some place
      new_stands r after =
          ap (option_and_then (λ id. position (λ (k : Drive). bytes_eq k.id.0 id) r.drives.items)) new_id
          ∙ same_position (next_drive v.state).0 r.drives.items next.drives.items after.same.drives
          ∙ names_here place units plan v.state new.listed new.fresh

      -- by states since it joined alone its place is to have it
      since_joined : (r : State) (p : ℕ) → GoesBy v.state next place r p → p ≡ place → OnlyMarksSince next r
      since_joined r p goes same = elim goes [ inl of ↦ absurd (of.1 same) | inr of ↦ of ]

      either : (r : State) (p : ℕ) → GoesBy v.state next place r p → OnlyMarksSince v.state r ⊎ OnlyMarksSince next r
      either r p goes = elim goes [ inl of ↦ inl of.0 | inr of ↦ inr of ]

      at_place : (d : ℕ) → h.seats place ≡ Some d → d ≡ disk
      at_place d seat = some_same d disk (sym seat ∙ seat_new)

      -- ---- all of them

      own_now : (r : State) (p d : ℕ) → GoesBy v.state next place r p → is_current r p ≡ true → h.seats p ≡ Some d → stands_for r (ids d) ≡ Some p
      own_now r p d after now seat = elim (cases_eq p place) [
        | inr other ↦ own_stands r p d (either r p after) other (sym (seat_old p other) ∙ seat)
        | inl same ↦
            ap (λ k. stands_for r (ids k)) (at_place d (ap h.seats (sym same) ∙ seat))
            ∙ new_stands r (since_joined r p after same) ∙ ap Some (sym same)
      ]

      apart_now : (r : State) (p k d : ℕ) → GoesBy v.state next place r p → h.seats k ≡ Some d → k ≢ p → stands_for r (ids d) ≡ Some p → ⊥
      apart_now r p k d after seat other stands = elim (cases_eq k place) [
        | inr apart ↦ other (some_same k p (sym (own_stands r k d (either r p after) apart (sym (seat_old k apart) ∙ seat)) ∙ stands))
        | inl same ↦ new_for (λ at. other (same ∙ sym at)) (ap (λ j. stands_for r (ids j)) (sym (at_place d (ap h.seats (sym same) ∙ seat))) ∙ stands)
      ]
        where
          new_for : p ≢ place → stands_for r (ids disk) ≡ Some p → ⊥
          new_for apart at = elim after [
            | inr of ↦ apart (some_same p place (sym at ∙ new_stands r of))
            | inl of ↦
                let one = stands_named r (ids disk) p at in
                new.fresh p apart (sym (id_same v.state r of.0.same p) ∙ one.place ∙ sym one.says ∙ new_id)
          ]

      module _ (ids_other : HaveOtherIds f v.state place disk i) where
        none_stands : (r : State) (d : ℕ) → OnlyMarksSince next r → ((k : ℕ) → h.seats k ≡ Some d → ⊥) → d < x.disks → stands_for r (ids d) ≡ Some place → ⊥
        none_stands r d after never low stands =
            let one = stands_named r (ids d) place stands in
            ids_other d (let same = count in omega (arith, low, same)) (none_new d never) (λ p other seat. never p (seat_old p other ∙ seat))
            (ap (λ (q : Disks). id_by (identities_of q i d).table (identities_of q i d).copied) is.disks ∙ one.says ∙ sym one.place ∙ id_same next r after.same place
            ∙ id_here place units plan v.state new.listed)

        pub joining_names : NamesJoining h v.state next place i
        joining_names = record {
          own = own_now;
          apart = λ r p k d after now seat other stands. apart_now r p k d after seat other stands;
          before = λ r p d y after now seat never less stands. elim (cases_eq p place) [
            | inl same ↦
                let low = (arranged.seated p d seat).1 in
                absurd
                (none_stands r y (since_joined r p after same) never (omega (arith, less, low)) (stands ∙ ap Some same))
            | inr other ↦
                let was_seat = sym (seat_old p other) ∙ seat in
                let early = low_before p d other was_seat r (either r p after) y never less stands in
                let from = own_epoch p d other was_seat in
                omega (arith, early, from)
          ];
          behind = λ r p d y after now seat never late low stands. elim (cases_eq p place) [
            | inl same ↦ absurd (none_stands r y (since_joined r p after same) never low (stands ∙ ap Some same))
            | inr other ↦
                let most = stranger_low y never low in
                let from = own_epoch p d other (sym (seat_old p other) ∙ seat) in
                omega (arith, most, from)
          ];
        }
