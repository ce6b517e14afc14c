-- A pool that took a new drive in: what its disks say outside the slices.
use Rattle.std.proofs.Common.{◌≡◌, ◌≢◌, ◌⊎◌, ℕ, ◌+◌, ◌-◌, ◌<◌, ◌^◌, ◌==◌, if◌then◌else◌, Bool, true, false, bytes_eq, position, List, Option, Some, None, unwrap_or, refl, sym, ap, ap₂, subst, ◌∙◌, inl, inr, eq-eqb, lt-ltb, arith}
use Rattle.std.specs.Option.{option_and_then, option_map_or}
use Rattle.std.proofs.lemmas.Bool.{cases_eq, cases_lt, ne_eqb}
use Rattle.std.proofs.lemmas.Option.{none-some}
use Rattle.rack.specs.Seen.{Image, RackView}
use Rattle.slice_rack.specs.Runs.{IsSliced}
use Rattle.slice_rack.specs.Slices.{Slices, place_of, seat_of}
use Rattle.gpt_table.specs.Changes.{the_table}
use Rattle.pool_state.specs.declared.contents.Copied.{Copied}
use Rattle.pool_state.specs.declared.contents.Drive.{Drive}
use Rattle.shr_base.specs.declared.Id.{Id}
use Rattle.pool_state.specs.declared.contents.Plan.{Plan}
use Rattle.pool_state.specs.declared.contents.State.{State}
use Rattle.array_image.specs.Places.{super_sector}
use Rattle.array_image.specs.States.{epoch_of, is_current}
use Rattle.array_model.specs.View.{View}
use Rattle.log_laws.specs.Kept.{IsNoLater}
use Rattle.pool_image.specs.Disks.{Disks, Identities, Identity, disks_of, identities_of, stands_for}
use Rattle.pool_image.specs.Drives.{Found, first_of}
use Rattle.pool_image.specs.Meaning.{is_member}
use Rattle.raid_laws.specs.Enlisting.{next_drive}
use Rattle.raid_laws.specs.NewDrive.{SeatsDrive}
use Rattle.raid_laws.specs.Raid.{Raid}
use Rattle.raid_laws.proofs.Noted.{current_few}
use Rattle.pool_model.specs.InService.{HasSeat, HoldSaid, IsArranged, IsOutset, IsSaid, epoch_at}
use Rattle.pool_model.specs.Left.{NoStraySuperblockBy, HasNoSuper, IsPickOutsideSlices}
use Rattle.pool_model.specs.Taken.{KeepsRest, SeatsNew, views_of}
use Rattle.pool_model.proofs.Alike.{first_same, member_same, outset_said}
use Rattle.pool_model.proofs.Before.{off_before, was as image_before, was_other as image_other}
use Rattle.pool_model.proofs.Found.{seated_below}
use Rattle.pool_model.proofs.Joined.{current_here, current_other, id_here, names_here, names_other}
use Rattle.pool_model.proofs.Named.{IsNamed, id_same, named_stands, same_position, stands_named}
use Rattle.pool_model.proofs.Outset.{no_later_epoch}
use Rattle.pool_model.proofs.Taken.{IsKnownBefore, arranged_taken, g, has_truths, made_same, next, places_same, seat_here, seat_other}

-- ---- a sector of a slice on another disk was one before

pub sliced_seated : (arrays : List View) (place disk sectors : ℕ) (t u : Slices) → SeatsDrive arrays place disk sectors t u → (d s : ℕ) (w : List ℕ) → d ≢ disk
    → IsSliced u d s w → IsSliced t d s w
sliced_seated arrays place disk sectors t u seats d s w other is = elim (cases_eq (place_of is.slice) place) [
  | inl same ↦
      absurd (other (is.disk_is
      ∙ ap (λ o. unwrap_or o 0) (seats.seats (place_of is.slice)
      ∙ ap (λ (b : Bool). if b then Some disk else seat_of t (place_of is.slice)) (eq-eqb (place_of is.slice) place same))))
  | inr apart ↦ record {
    slice = is.slice;
    at = is.at;
    within = subst (λ k. is.at < k) (seats.others is.slice apart) is.within;
    disk_is =
        is.disk_is
        ∙ ap (λ o. unwrap_or o 0) (seats.seats (place_of is.slice)
        ∙ ap (λ (b : Bool). if b then Some disk else seat_of t (place_of is.slice)) (ne_eqb (place_of is.slice) place apart));
    sector_is = is.sector_is ∙ ap (λ k. k + is.at) (seats.firsts is.slice apart);
  }
]

module _ (f : Found) (t u : Slices) (v : Raid) (x z : RackView) (place disk units : ℕ) (plan : Plan)
    (new : SeatsNew f t u v place disk (z.sectors disk)) (known : IsKnownBefore f v) (keeps : KeepsRest f t u v place disk x z) (held : HoldSaid f t v.state x) where
  abbrev pub disks : Disks
  disks = disks_of z

  abbrev pub h : Found
  h = g f t u v disks place disk units plan new known keeps.sectors

  abbrev fresh_state : State
  fresh_state = next f t u v disks place disk units plan new known keeps.sectors

  pub sliced_before : (d s : ℕ) (w : List ℕ) → d ≢ disk → IsSliced u d s w → IsSliced t d s w
  sliced_before d s w other is = sliced_seated (views_of v) place disk (z.sectors disk) t u new.seats d s w other is

  module _ (i : Image) (off : IsPickOutsideSlices u z i) where
    -- contents before
    abbrev was : Image
    was = image_before t u disk x z keeps.outside sliced_before i off

    was_other : (d : ℕ) → d ≢ disk → was d ≡ i d
    was_other d other = image_other t u disk x z keeps.outside sliced_before i off d other

    pub off_was : IsPickOutsideSlices t x was
    off_was = off_before t u disk x z keeps.outside sliced_before i off

    abbrev said : IsSaid f was
    said = held.said was off_was

    abbrev e : Identities
    e = said.identities

    -- ---- what its disks say

    abbrev own_identity : Identity
    own_identity = record { copied = Some (record { state = fresh_state; own = place }); table = the_table (z.sectors disk) (i disk) }

    abbrev other_identity : (d : ℕ) → ((p : ℕ) × (h.seats p ≡ Some d)) ⊎ ((p : ℕ) → p < 16 → h.seats p ≡ Some d → ⊥) → Identity
    other_identity d o = elim o [ inl one ↦ e d | inr none ↦ identities_of disks i d ]

    abbrev says : Identities
    says = λ d. if d == disk then own_identity else other_identity d (seated_below h.seats d 16)

    says_own : says disk ≡ own_identity
    says_own = ap (λ (b : Bool). if b then own_identity else other_identity disk (seated_below h.seats disk 16)) (eq-eqb disk disk refl)

    says_other : (d : ℕ) → d ≢ disk → says d ≡ other_identity d (seated_below h.seats d 16)
    says_other d other = ap (λ (b : Bool). if b then own_identity else other_identity d (seated_below h.seats d 16)) (ne_eqb d disk other)

    new_seat : h.seats place ≡ Some disk
    new_seat = seat_here f t u v disks place disk units plan new known keeps.sectors

    old_seat : (p : ℕ) → p ≢ place → h.seats p ≡ f.seats p
    old_seat p other = seat_other f t u v disks place disk units plan new known keeps.sectors p 0 other

    some_same : {X : Type 0} (a b : X) → Some a ≡ Some b → a ≡ b
    some_same a b same = cc

    place_few : place < 16
    place_few = let few = places_same f t u v disks place disk units plan new known keeps.sectors in
        current_few fresh_state place
        (let most = known.outset.places in omega (arith, few, most)) (current_here place units plan v.state new.listed)

    -- a seated disk has its seat in f, and a place below 16
    module _ (p d : ℕ) (other : p ≢ place) (seat : h.seats p ≡ Some d) where
      was_seat : f.seats p ≡ Some d
      was_seat = sym (old_seat p other) ∙ seat

      had : HasSeat (record f { identities = e }) p d
      had = said.outset.seated p d was_seat

      apart : d ≢ disk
      apart = (new.others p d other was_seat).1

      says_seated : says d ≡ e d
      says_seated = says_other d apart ∙ by (seated_below h.seats d 16) refl
        where
          by : (o : ((q : ℕ) × (h.seats q ≡ Some d)) ⊎ ((q : ℕ) → q < 16 → h.seats q ≡ Some d → ⊥)) → seated_below h.seats d 16 ≡ o → other_identity d o ≡ e d
          by (inl one) is = refl
          by (inr none) is = absurd (none p (current_few f.state p said.outset.places had.current) seat)

    says_unseated : (d : ℕ) → ((p : ℕ) → h.seats p ≡ Some d → ⊥) → says d ≡ identities_of disks i d
    says_unseated d never = says_other d (λ same. never place (new_seat ∙ ap Some (sym same))) ∙ by (seated_below h.seats d 16)
      where
        by : (o : ((q : ℕ) × (h.seats q ≡ Some d)) ⊎ ((q : ℕ) → q < 16 → h.seats q ≡ Some d → ⊥)) → other_identity d o ≡ identities_of disks i d
        by (inl one) = absurd (never one.0 one.1)
        by (inr none) = refl

    -- ---- their states are earlier than the new one

    epoch_up : fresh_state.epoch ≡ v.state.epoch + 1
    epoch_up = ap (λ (b : Bool). if b then v.state.epoch + 1 else v.state.epoch) (lt-ltb v.state.epoch (2 ^ 63 - 1) new.room)

    below_new : (copy : Copied) → IsNoLater f.state copy → copy.state.epoch < fresh_state.epoch
    below_new copy is =
        let most = no_later_epoch f.state copy is in
        let after = known.after.epoch in
        let up = epoch_up in
        omega (arith, most, after, up)

    was_said : (d : ℕ) → d ≢ disk → d < f.disks.count → identities_of f.disks was d ≡ identities_of disks i d
    was_said d other low =
        ap (λ c. identities_of f.disks (λ k. c) d) (was_other d other)
        ∙ ap (λ n. identities_of (record { count = f.disks.count; sectors = λ k. n }) i d) (sym (keeps.sectors d low))

    earlier : (d : ℕ) (copy : Copied) → d < z.disks → d ≢ disk → (says d).copied ≡ Some copy → copy.state.epoch < fresh_state.epoch
    earlier d copy low other here = by (seated_below h.seats d 16) (sym (ap (λ (k : Identity). k.copied) (says_other d other)) ∙ here)
      where
        none_before : (none : (p : ℕ) → p < 16 → h.seats p ≡ Some d → ⊥) → (f.seats place ≡ Some d → ⊥) → (p : ℕ) → f.seats p ≡ Some d → ⊥
        none_before none lost p seat = elim (cases_eq p place) [
          | inl same ↦ lost (ap f.seats (sym same) ∙ seat)
          | inr apart ↦ none p (current_few f.state p said.outset.places (said.outset.seated p d seat).current) (old_seat p apart ∙ seat)
        ]

        lost_or : (o : Option ℕ) → f.seats place ≡ o → (f.seats place ≡ Some d) ⊎ (f.seats place ≡ Some d → ⊥)
        lost_or None is = inr (λ at. none-some d (sym is ∙ at))
        lost_or (Some k) is = elim (cases_eq k d) [ inl same ↦ inl (is ∙ ap Some same) | inr apart ↦ inr (λ at. apart (some_same k d (sym is ∙ at))) ]

        by : (o : ((p : ℕ) × (h.seats p ≡ Some d)) ⊎ ((p : ℕ) → p < 16 → h.seats p ≡ Some d → ⊥)) → (other_identity d o).copied ≡ Some copy → copy.state.epoch < fresh_state.epoch
        by (inl one) at =
            let apart : one.0 ≢ place = λ same. other (some_same d disk (sym one.1 ∙ ap h.seats same ∙ new_seat)) in
            below_new copy (said.outset.copies d copy (had one.0 d apart one.1).low at)
        by (inr none) at = elim (cases_lt d f.disks.count) [
          | inr past ↦ keeps.earlier i off d low other (inl past) copy at
          | inl there ↦ elim (lost_or (f.seats place) refl) [
            | inl lost ↦ keeps.earlier i off d low other (inr lost) copy at
            | inr kept ↦
                below_new copy
                (said.outset.copies d copy there
                (sym (ap (λ (k : Identity). k.copied) (sym (was_said d other there) ∙ said.elsewhere.others d (none_before none kept) there)) ∙ at))
          ]
        ]

    epoch_below : (d : ℕ) → d < z.disks → d ≢ disk → epoch_at (says d) < fresh_state.epoch
    epoch_below d low other = of (says d).copied refl
      where
        of : (o : Option Copied) → (says d).copied ≡ o → option_map_or epoch_of o 0 < fresh_state.epoch
        of None none = let up = epoch_up in omega (arith, up)
        of (Some copy) some = earlier d copy low other some

    -- ---- its seats

    stands_new : stands_for fresh_state own_identity ≡ Some place
    stands_new =
        named_stands fresh_state own_identity.table place place (next_drive v.state).0 (names_here place units plan v.state new.listed new.fresh)
        (id_here place units plan v.state new.listed)

    stands_old : (p d : ℕ) → p ≢ place → stands_for f.state (e d) ≡ Some p → stands_for fresh_state (e d) ≡ Some p
    stands_old p d other stands =
        let named : IsNamed f.state (e d) p = stands_named f.state (e d) p stands in
        ap (option_and_then (λ id. position (λ (k : Drive). bytes_eq k.id.0 id) fresh_state.drives.items)) named.says
        ∙ names_other place units plan v.state new.listed new.fresh p named.id other
        (id_same f.state v.state known.after.same p ∙ named.place)
        (same_position named.id v.state.drives.items f.state.drives.items known.after.same.drives ∙ named.first)

    never_before : (q p : ℕ) → q < z.disks → ((r : ℕ) → h.seats r ≡ Some q → ⊥) → epoch_at (says q) < fresh_state.epoch
    never_before q p low never = epoch_below q low (λ same. never place (new_seat ∙ ap Some (sym same)))

    abbrev pub now : Found
    now = record h { identities = says }

    seated_now : (p d : ℕ) → h.seats p ≡ Some d → HasSeat now p d
    seated_now p d seat = elim (cases_eq p place) [
      | inl same ↦
          (let is : d ≡ disk = some_same d disk (sym seat ∙ ap h.seats same ∙ new_seat) in
          record {
            current = subst (λ q. is_current fresh_state q ≡ true) (sym same) (current_here place units plan v.state new.listed);
            low = subst (λ k. k < z.disks) (sym is) keeps.low;
            stands = ap (stands_for fresh_state) (ap says is ∙ says_own) ∙ stands_new ∙ ap Some (sym same);
            before = λ q less never stands. (let there = keeps.low in never_before q p (omega (arith, less, is, there)) never);
          })
      | inr other ↦
          (let one = had p d other seat in
          record {
            current = current_other place units plan v.state new.listed p other ∙ (new.others p d other (was_seat p d other seat)).0;
            low = (let there = one.low in let more = keeps.disks in omega (arith, there, more));
            stands = ap (stands_for fresh_state) (says_seated p d other seat) ∙ stands_old p d other one.stands;
            before = λ q less never stands. (let there = one.low in let more = keeps.disks in never_before q p (omega (arith, less, there, more)) never);
          })
    ]

    -- ---- all of it

    arranged : IsArranged h
    arranged = arranged_taken f t u v disks place disk units plan new known keeps.sectors keeps.disks keeps.low

    outset_now : IsOutset now
    outset_now =
        outset_said h says arranged.made.1 arranged.truths arranged
        (λ d copy low here. elim (cases_eq d disk) [
          | inr other ↦ inl (earlier d copy low other here)
          | inl same ↦
              inr (sym (ap (λ (k : Copied). k.state)
              (some_same (record { state = fresh_state; own = place }) copy (sym (ap (λ (k : Identity). k.copied) (ap says same ∙ says_own)) ∙ here))))
        ])
        seated_now

    table_now : (p d : ℕ) → h.seats p ≡ Some d → the_table (z.sectors d) (i d) ≡ (says d).table
    table_now p d seat = elim (cases_eq p place) [
      | inl same ↦
          (let is : d ≡ disk = some_same d disk (sym seat ∙ ap h.seats same ∙ new_seat) in
          ap (λ k. the_table (z.sectors k) (i k)) is ∙ sym (ap (λ (k : Identity). k.table) (ap says is ∙ says_own)))
      | inr other ↦
          (let one = had p d other seat in
          ap₂ (λ n c. the_table n c) (keeps.sectors d one.low) (sym (was_other d (apart p d other seat)))
          ∙ said.elsewhere.tables p d (was_seat p d other seat)
          ∙ sym (ap (λ (k : Identity). k.table) (says_seated p d other seat)))
    ]

    pub said_now : IsSaid h i
    said_now = record {
      identities = says;
      outset = outset_now;
      elsewhere = record { tables = table_now; others = λ d never low. sym (says_unseated d never) };
    }

    pub alone_now : NoStraySuperblockBy fresh_state h i
    alone_now n p d first low counts seat none begins within =
        let less : n < f.state.made = omega (arith, low, made_same f t u v disks place disk units plan new known keeps.sectors) in
        let truths = has_truths f t u v disks place disk units plan new known keeps.sectors in
        let member : is_member f n p ≡ false = sym (member_same f h known.outset.made.1 known.outset.truths truths n less p) ∙ none in
        let first_was : first_of f n ≡ Some first = sym (first_same f h known.outset.made.1 known.outset.truths truths n (omega (arith, less))) ∙ begins in
        subst (λ (z : Id). HasNoSuper z.0 n (i d (first + super_sector))) (sym known.after.same.pool)
        (elim (cases_eq p place) [
          | inl same ↦
              (let is : d ≡ disk = some_same d disk (sym seat ∙ ap h.seats same ∙ new_seat) in
              subst (λ k. HasNoSuper f.state.pool.0 n (i k (first + super_sector))) (sym is)
              (keeps.alone i off n first less (subst (λ q. is_member f n q ≡ false) same member) first_was (subst (λ k. first + super_sector < z.sectors k) is within)))
          | inr other ↦
              subst (λ (c : ℕ → List ℕ). HasNoSuper f.state.pool.0 n (c (first + super_sector))) (was_other d (apart p d other seat))
              (held.alone was off_was n p d first less (sym (current_other place units plan v.state new.listed p other) ∙ counts) (was_seat p d other seat) member first_was
              (subst (λ k. first + super_sector < k) (keeps.sectors d (had p d other seat).low) within))
        ])

  -- what the disks may be left with outside the slices
  pub held_taken : HoldSaid h u fresh_state z
  held_taken = record { said = λ i off. said_now i off; alone = λ i off. alone_now i off }
