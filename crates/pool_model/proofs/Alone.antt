-- The disks of a pool in service say, outside its slices, that it stands alone on them: from its opening on, after calls, and after disks were declined
-- or taken in.
--
-- `NoImpostor f bound Out s t x` (specs/Alone.antt) goes beside `RunInvariant f t v x`: `alone_begins` at the opening, `alone_calls` after calls that write slices alone,
-- `alone_attached` after a drive was declined and `alone_taken` after one was taken in. `HoldTabled f s t x` says of it the tables alone, without a word of other disks:
-- `tabled_begins`, `tabled_calls`, `tabled_declined` (proofs/Tables.antt) and `tabled_taken`, by lemmas on what contents have (`AreTabled`).
use Rattle.std.proofs.Common.{◌≡◌, ◌≢◌, ◌⊎◌, ℕ, ◌<◌, ◌≤◌, true, false, bytes_eq, position, List, Option, Some, None, option_map, refl, sym, ap, ap₂, subst, ◌∙◌, inl, inr, arith}
use Rattle.std.specs.Option.{option_and_then, option_map_or}
use Rattle.std.proofs.lemmas.Bool.{and_parts, both_ways, cases_eq, cases_lt}
use Rattle.std.proofs.lemmas.Option.{none-some}
use Rattle.std.proofs.lemmas.Slice.Eq.{bytes_eq-Decides}
use Rattle.rack.specs.Seen.{Image, RackView}
use Rattle.rack.specs.Sequences.{WritesOnly}
use Rattle.array_image.specs.States.{id_of, is_current}
use Rattle.slice_rack.specs.Runs.{IsSliced}
use Rattle.slice_rack.specs.Slices.{Slices}
use Rattle.gpt_table.specs.declared.Table.{Table}
use Rattle.gpt_table.specs.Changes.{the_table}
use Rattle.gpt_table.specs.Disk.{Contents}
use Rattle.md_super.specs.declared.superblock.Super.{Super}
use Rattle.shr_base.specs.declared.Id.{Id}
use Rattle.pool_state.specs.declared.contents.Copied.{Copied}
use Rattle.pool_state.specs.declared.contents.Drive.{Drive}
use Rattle.pool_state.specs.declared.contents.Plan.{Plan}
use Rattle.pool_state.specs.declared.contents.State.{State}
use Rattle.array_image.specs.Places.{drive_id}
use Rattle.array_core.proofs.Stripped.{some_same}
use Rattle.pool_image.specs.Disks.{Disks, Identities, Identity, disks_of, id_by, identities_of, stands_for}
use Rattle.pool_image.specs.Drives.{Found}
use Rattle.pool_image.specs.Meaning.{has_table, is_table, truth_of}
use Rattle.raid_laws.specs.Enlisting.{enlisted}
use Rattle.raid_laws.specs.Raid.{Raid}
use Rattle.pool_model.specs.Absent.{IsApart, StandsAlone}
use Rattle.pool_model.specs.Alone.{AreTabled, NoImpostor, HoldTabled, IsStranger, IsTabled, IsUngiven, SaysNoImpostor, TakesAlone}
use Rattle.pool_model.specs.InService.{RunInvariant, IsArranged}
use Rattle.pool_model.specs.Left.{AreElsewhere, HoldRest, IsPickOutsideSlices}
use Rattle.pool_model.specs.Taken.{AreDistinct, AreSerial, KeepsRest, SeatsNew, attached, taken}
use Rattle.pool_model.proofs.Again.{off_later}
use Rattle.pool_model.proofs.Alike.{HasTruths, extent_same, has_truths as said_truths, member_same}
use Rattle.pool_model.proofs.Before.{off_before, was as image_before, was_other as image_other}
use Rattle.pool_model.proofs.Declined.{truths_attached}
use Rattle.pool_model.proofs.Joined.{id_here, id_other}
use Rattle.pool_model.proofs.Named.{IsNamed, id_same, stands_named}
use Rattle.pool_model.proofs.Staying.{sliced_before as sliced_taken}
use Rattle.pool_model.proofs.Taken.{IsKnownBefore, has_truths, seat_here, seat_other}
use Rattle.pool_model.proofs.Undamaged.{members_alike}

-- a disk with the contents and the sectors that it had says what it said
said_same : (f : Found) (z : RackView) (was i : Image) (d : ℕ) → was d ≡ i d → z.sectors d ≡ f.disks.sectors d → identities_of f.disks was d ≡ identities_of (disks_of z) i d
said_same f z was i d same sectors =
    ap (λ c. identities_of f.disks (λ k. c) d) same ∙ ap (λ n. identities_of (record { count = f.disks.count; sectors = λ k. n }) i d) (sym sectors)

-- ---- tables

-- pools with the same truths want the same table of a place whose drive has the same id
module _ (f g : Found) (few : f.state.made ≤ 16) (has : (n : ℕ) → n < f.state.made → (u : Super) × (truth_of f n ≡ Some u)) (same : HasTruths f g)
    (made : g.state.made ≡ f.state.made) (p : ℕ) (id : id_of g.state p ≡ id_of f.state p) where
  pub tabled_same : (sectors : ℕ) (disk : Contents) → IsTabled f p sectors disk → IsTabled g p sectors disk
  tabled_same sectors disk is =
      members_alike f g p sectors id made (λ n low. member_same f g few has same n low p) (extent_same f g few has same) (the_table sectors disk) ∙ is

-- A disk that has a drive's table says its id, where its copy is the drive's own if it has one.
pub says_own : (f : Found) (place sectors : ℕ) (disk : Contents) (copied : Option Copied) → IsTabled f place sectors disk
    → ((copy : Copied) → copied ≡ Some copy → id_of copy.state copy.own ≡ id_of f.state place) → id_by (the_table sectors disk) copied ≡ id_of f.state place
says_own f place sectors disk (Some copy) tabled own = own copy refl
says_own f place sectors disk None tabled own = by (the_table sectors disk) tabled
  where
    named : (id : List ℕ) (o : Option (List ℕ)) → option_map_or (bytes_eq id) o false ≡ true → Some id ≡ o
    named id None is = absurd (both_ways false refl is)
    named id (Some other) is = ap Some ((bytes_eq-Decides id other).0 is)

    by : (o : Option Table) → option_map_or (is_table f place sectors) o false ≡ true → option_map (λ (t : Table). t.disk_id.0) o ≡ id_of f.state place
    by None is = absurd (both_ways false refl is)
    by (Some table) is = named table.disk_id.0 (id_of f.state place) (and_parts (option_map_or (bytes_eq table.disk_id.0) (id_of f.state place) false) _ is).0

-- ---- at the opening, and after calls

-- the drives have the tables that the pool goes by
tables_there : (f : Found) (Out : ℕ → Type 0) (s : State) (i : Image) → ((p d : ℕ) → f.seats p ≡ Some d → has_table f p d ≡ true) → AreElsewhere f i
    → AreTabled f Out s i
tables_there f Out s i good elsewhere p d seat why =
    ap (λ o. option_map_or (is_table f p (f.disks.sectors d)) o false) (elsewhere.tables p d seat) ∙ good p d seat

pub tabled_begins : (f : Found) (s : State) (t : Slices) (x : RackView) → ((p d : ℕ) → f.seats p ≡ Some d → has_table f p d ≡ true) → HoldRest f t x → HoldTabled f s t x
tabled_begins f s t x good rest i off = tables_there f (λ d. Unit {0}) s i good (rest.elsewhere i off)

-- disks on which a pool was found that stood alone, and no other one that stays had an id that it gives later
pub alone_begins : (f : Found) (bound : ℕ) (Out : ℕ → Type 0) (s : State) (t : Slices) (x : RackView) → StandsAlone f
    → ((d : ℕ) → ((p : ℕ) → f.seats p ≡ Some d → ⊥) → (Out d → ⊥) → d < f.disks.count → IsUngiven f.state bound (f.identities d))
    → HoldRest f t x → NoImpostor f bound Out s t x
alone_begins f bound Out s t x stands ungiven rest i off =
    let elsewhere = rest.elsewhere i off in
    record {
      tables = tables_there f Out s i stands.tables elsewhere;
      others = λ d never stays low.
          subst (IsStranger f bound) (sym (elsewhere.others d never low)) (record { apart = stands.others d never low; ungiven = ungiven d never stays low });
    }

-- marks make no place current
tables_marked : (f : Found) (Out : ℕ → Type 0) (s r : State) (i : Image) → ((p : ℕ) → is_current r p ≡ true → is_current s p ≡ true) → AreTabled f Out s i
    → AreTabled f Out r i
tables_marked f Out s r i marks tables p d seat why = tables p d seat (elim why [ inl now ↦ inl (marks p now) | inr stays ↦ inr stays ])

pub tabled_calls : (f : Found) (s r : State) (t : Slices) (x y : RackView) → ((p : ℕ) → is_current r p ≡ true → is_current s p ≡ true) → x.lasting
    → WritesOnly x y (IsSliced t) → HoldTabled f s t x → HoldTabled f r t y
tabled_calls f s r t x y marks lasting only tabled i off = tables_marked f (λ d. Unit {0}) s r i marks (tabled i (off_later t x y i lasting only off))

-- calls that write slices alone, while marks come to the state
pub alone_calls : (f : Found) (bound : ℕ) (Out : ℕ → Type 0) (s r : State) (t : Slices) (x y : RackView) → ((p : ℕ) → is_current r p ≡ true → is_current s p ≡ true) → x.lasting
    → WritesOnly x y (IsSliced t) → NoImpostor f bound Out s t x → NoImpostor f bound Out r t y
alone_calls f bound Out s r t x y marks lasting only alone i off =
    let says = alone i (off_later t x y i lasting only off) in
    record { tables = tables_marked f Out s r i marks says.tables; others = says.others }

-- a drive whose contents have its table has it by what they say
table_says : (f : Found) (e : Identities) (i : Image) → IsArranged f → (p d : ℕ) → the_table (f.disks.sectors d) (i d) ≡ (e d).table
    → IsTabled f p (f.disks.sectors d) (i d) → has_table (record f { identities = e }) p d ≡ true
table_says f e i arranged p d same tabled =
    let few = arranged.made.1 in
    let has = arranged.truths in
    ap (λ o. option_map_or (is_table (record f { identities = e }) p (f.disks.sectors d)) o false) (sym same)
    ∙ tabled_same f (record f { identities = e }) few has (said_truths f e few has) refl p refl (f.disks.sectors d) (i d) tabled

-- so have the drives of current places
pub tabled_says : (f : Found) (s : State) (e : Identities) (i : Image) → IsArranged f → AreTabled f (λ d. Unit {0}) s i
    → ((p d : ℕ) → f.seats p ≡ Some d → the_table (f.disks.sectors d) (i d) ≡ (e d).table)
    → (p d : ℕ) → is_current s p ≡ true → f.seats p ≡ Some d → has_table (record f { identities = e }) p d ≡ true
tabled_says f s e i arranged tabled tables p d now seat = table_says f e i arranged p d (tables p d seat) (tabled p d seat (inl now))

-- the pool with what contents say stands alone
pub says_stands : (f : Found) (bound : ℕ) (s : State) (e : Identities) (i : Image) → IsArranged f → SaysNoImpostor f bound (λ d. ⊥) s i
    → ((p d : ℕ) → f.seats p ≡ Some d → the_table (f.disks.sectors d) (i d) ≡ (e d).table)
    → ((d : ℕ) → ((p : ℕ) → f.seats p ≡ Some d → ⊥) → d < f.disks.count → identities_of f.disks i d ≡ e d)
    → StandsAlone (record f { identities = e })
says_stands f bound s e i arranged says tables others = record {
  tables = λ p d seat. table_says f e i arranged p d (tables p d seat) (says.tables p d seat (inr (λ none. none)));
  others = λ d never low.
      subst (IsApart (record f { identities = e })) (others d never low)
      (let one = (says.others d never (λ none. none) low).apart in record { stands = one.stands; pool = one.pool });
}

-- ---- a drive that was declined

-- contents of other disks of the same sectors have the tables
tables_attached : (f : Found) (Out : ℕ → Type 0) (s : State) (disks : Disks) (i : Image) → IsArranged f → f.disks.count ≤ disks.count
    → ((d : ℕ) → d < f.disks.count → disks.sectors d ≡ f.disks.sectors d) → AreTabled f Out s i → AreTabled (attached f disks) Out s i
tables_attached f Out s disks i arranged more sectors tables p d seat why =
    tabled_same f (attached f disks) arranged.made.1 arranged.truths (truths_attached f disks arranged more sectors) refl p refl (disks.sectors d) (i d)
    (subst (λ k. IsTabled f p k (i d)) (sym (sectors d (arranged.seated p d seat).1)) (tables p d seat why))

-- a stranger to a pool is one to it on other disks
stranger_attached : (f : Found) (bound : ℕ) (disks : Disks) (z : Identity) → IsStranger f bound z → IsStranger (attached f disks) bound z
stranger_attached f bound disks z is = record { apart = record { stands = is.apart.stands; pool = is.apart.pool }; ungiven = is.ungiven }

-- so it is after a line that laid nothing on the disk that it named: disks that came are strangers
pub alone_attached : (f : Found) (bound : ℕ) (Out : ℕ → Type 0) (s : State) (t : Slices) (x z : RackView) → IsArranged f → f.disks.count ≤ z.disks
    → ((d : ℕ) → d < f.disks.count → z.sectors d ≡ f.disks.sectors d) → ((i : Image) → IsPickOutsideSlices t z i → IsPickOutsideSlices t x i)
    → ((i : Image) → IsPickOutsideSlices t z i → (d : ℕ) → f.disks.count ≤ d → d < z.disks → (Out d → ⊥) → IsStranger f bound (identities_of (disks_of z) i d))
    → NoImpostor f bound Out s t x → NoImpostor (attached f (disks_of z)) bound Out s t z
alone_attached f bound Out s t x z arranged more sectors before came alone i off = record {
  tables = tables_attached f Out s (disks_of z) i arranged more sectors (alone i (before i off)).tables;
  others = λ d never stays low. stranger_attached f bound (disks_of z) (identities_of (disks_of z) i d) (other d never stays low);
}
  where
    other : (d : ℕ) → ((p : ℕ) → f.seats p ≡ Some d → ⊥) → (Out d → ⊥) → d < z.disks → IsStranger f bound (identities_of (disks_of z) i d)
    other d never stays low = elim (cases_lt d f.disks.count) [
      | inl old ↦ subst (IsStranger f bound) (said_same f z i i d refl (sectors d old)) ((alone i (before i off)).others d never stays old)
      | inr past ↦ came i off d past low stays
    ]

-- ---- a drive that was taken in

module _ (f : Found) (t u : Slices) (v : Raid) (x z : RackView) (place disk units : ℕ) (plan : Plan) (is : RunInvariant f t v x)
    (new : SeatsNew f t u v place disk (z.sectors disk)) (keeps : KeepsRest f t u v place disk x z) where
  abbrev next : State
  next = enlisted place units plan v.state

  abbrev h : Found
  h = taken f (disks_of z) place disk next

  known : IsKnownBefore f v
  known = record { outset = is.arranged; after = is.after; geometry = is.geometry }

  here : h.seats place ≡ Some disk
  here = seat_here f t u v (disks_of z) place disk units plan new known keeps.sectors

  module _ (i : Image) (off : IsPickOutsideSlices u z i) where
    fewer : (d s : ℕ) (w : List ℕ) → d ≢ disk → IsSliced u d s w → IsSliced t d s w
    fewer d s w apart at = sliced_taken f t u v x z place disk units plan new known keeps is.held d s w apart at

    abbrev was : Image
    was = image_before t u disk x z keeps.outside fewer i off

    was_other : (d : ℕ) → d ≢ disk → was d ≡ i d
    was_other d apart = image_other t u disk x z keeps.outside fewer i off d apart

    was_off : IsPickOutsideSlices t x was
    was_off = off_before t u disk x z keeps.outside fewer i off

    -- the new drive has its table, and the others have those that they had
    tables_taken : (Out : ℕ → Type 0) (r : State) → IsTabled h place (z.sectors disk) (i disk) → AreTabled f Out v.state was → AreTabled h Out r i
    tables_taken Out r own tables p d seat why = elim (cases_eq p place) [
      | inl same ↦
          (let at : d ≡ disk = some_same d disk (sym seat ∙ ap h.seats same ∙ here) in
          subst (λ k. IsTabled h p (z.sectors k) (i k)) (sym at) (subst (λ q. IsTabled h q (z.sectors disk) (i disk)) (sym same) own))
      | inr other ↦
          (let before : f.seats p ≡ Some d = sym (seat_other f t u v (disks_of z) place disk units plan new known keeps.sectors p 0 other) ∙ seat in
          tabled_same f h is.arranged.made.1 is.arranged.truths (has_truths f t u v (disks_of z) place disk units plan new known keeps.sectors) is.after.same.made p
          (id_other place units plan v.state new.listed p other ∙ id_same f.state v.state is.after.same p) (z.sectors d) (i d)
          (subst (IsTabled f p (z.sectors d)) (was_other d (new.others p d other before).1)
          (subst (λ k. IsTabled f p k (was d)) (sym (keeps.sectors d (is.arranged.seated p d before).1)) (tables p d before (inl (new.others p d other before).0)))))
    ]

  pub tabled_taken : (r : State) → ((i : Image) → IsPickOutsideSlices u z i → IsTabled h place (z.sectors disk) (i disk)) → HoldTabled f v.state t x → HoldTabled h r u z
  tabled_taken r own tabled i off = tables_taken i off (λ d. Unit {0}) r (own i off) (tabled (was i off) (was_off i off))

  module _ (bound : ℕ) (below : f.state.serial < bound) where
    -- a stranger before is one to the pool with the drive
    stranger_taken : (y : Identity) → IsStranger f bound y → IsStranger h bound y
    stranger_taken y is_stranger = record {
      apart = record { stands = stands; pool = λ copy here. is_stranger.apart.pool copy here ∙ sym is.after.same.pool };
      ungiven = λ serial later early same.
          (let given = is.after.same.serial in
          is_stranger.ungiven serial (omega (arith, later, given)) early (same ∙ ap (λ (pool : Id). Some (drive_id pool.0 serial)) is.after.same.pool));
    }
      where
        stands : (p d : ℕ) → h.seats p ≡ Some d → stands_for next y ≢ Some p
        stands p d seat stand =
            let named : IsNamed next y p = stands_named next y p stand in
            elim (cases_eq p place) [
              | inl same ↦
                  is_stranger.ungiven f.state.serial (omega arith) below
                  (named.says ∙ sym named.place ∙ ap (id_of next) same ∙ id_here place units plan v.state new.listed
                  ∙ ap₂ (λ (pool : Id) serial. Some (drive_id pool.0 serial)) is.after.same.pool is.after.same.serial)
              | inr other ↦
                  (let was : f.seats p ≡ Some d = sym (seat_other f t u v (disks_of z) place disk units plan new known keeps.sectors p 0 other) ∙ seat in
                  let said = is.held.said (λ e s. (x.held e s).current) (λ e s live never. inl refl) in
                  let before = stands_named f.state (said.identities d) p (said.outset.seated p d was).stands in
                  let id : before.id ≡ named.id =
                  some_same before.id named.id
                  (sym before.place ∙ sym (id_same f.state v.state is.after.same p) ∙ sym (id_other place units plan v.state new.listed p other) ∙ named.place) in
                  is_stranger.apart.stands p d was
                  (ap (option_and_then (λ k. position (λ (e : Drive). bytes_eq e.id.0 k) f.state.drives.items)) (named.says ∙ ap Some (sym id)) ∙ before.first))
            ]

    -- So is the drive that the place had, where its disk says its id still: the id has an earlier serial than the new drive's, and ids that are given before
    -- the bound differ.
    module _ (serials : AreSerial f.state) (distinct : AreDistinct f.state.pool.0 bound) (d : ℕ) (seat : f.seats place ≡ Some d) (y : Identity)
        (pool : (copy : Copied) → y.copied ≡ Some copy → copy.state.pool ≡ f.state.pool) (says : id_by y.table y.copied ≡ id_of f.state place) where
      seated : (p e : ℕ) → f.seats p ≡ Some e → (id : List ℕ) × (id_of f.state p ≡ Some id) × (position (λ (drive : Drive). bytes_eq drive.id.0 id) f.state.drives.items ≡ Some p)
      seated p e at =
          let said = is.held.said (λ k s. (x.held k s).current) (λ k s live never. inl refl) in
          let named = stands_named f.state (said.identities e) p (said.outset.seated p e at).stands in
          (named.id, named.place, named.first)

      own : (id : List ℕ) × (id_of f.state place ≡ Some id) × (position (λ (drive : Drive). bytes_eq drive.id.0 id) f.state.drives.items ≡ Some place)
      own = seated place d seat

      given : (serials.serial place < f.state.serial) × (own.0 ≡ drive_id f.state.pool.0 (serials.serial place))
      given = serials.ids place own.0 own.1

      names : id_by y.table y.copied ≡ Some own.0
      names = says ∙ own.1

      -- no id of a later serial is this one
      later_differs : (serial : ℕ) → f.state.serial ≤ serial → serial ≤ bound → own.0 ≢ drive_id f.state.pool.0 serial
      later_differs serial later early same =
          let low = given.0 in
          let e : serials.serial place ≡ serial = distinct (serials.serial place) serial (omega (arith, low, below)) early (sym given.1 ∙ same) in
          omega (arith, e, low, later)

      former_stands : (p e : ℕ) → h.seats p ≡ Some e → stands_for next y ≢ Some p
      former_stands p e at stand =
          let named : IsNamed next y p = stands_named next y p stand in
          let same : own.0 ≡ named.id = some_same own.0 named.id (sym names ∙ named.says) in
          elim (cases_eq p place) [
            | inl this ↦
                later_differs f.state.serial (omega arith) (omega (arith, below))
                (some_same own.0 (drive_id f.state.pool.0 f.state.serial)
                (ap Some same ∙ sym named.place ∙ ap (id_of next) this ∙ id_here place units plan v.state new.listed
                ∙ ap₂ (λ (k : Id) serial. Some (drive_id k.0 serial)) is.after.same.pool is.after.same.serial))
            | inr other ↦
                (let was : f.seats p ≡ Some e = sym (seat_other f t u v (disks_of z) place disk units plan new known keeps.sectors p 0 other) ∙ at in
                let one = seated p e was in
                let id : one.0 ≡ own.0 =
                some_same one.0 own.0
                (sym one.1 ∙ sym (id_same f.state v.state is.after.same p) ∙ sym (id_other place units plan v.state new.listed p other) ∙ named.place ∙ ap Some (sym same)) in
                other
                (some_same p place (sym one.2 ∙ ap (λ k. position (λ (drive : Drive). bytes_eq drive.id.0 k) f.state.drives.items) id ∙ own.2)))
          ]

      pub stranger_former : IsStranger h bound y
      stranger_former = record {
        apart = record {
          stands = former_stands;
          pool = λ copy here. pool copy here ∙ sym is.after.same.pool;
        };
        ungiven = λ serial later early same.
            later_differs serial (let same_serial = is.after.same.serial in omega (arith, later, same_serial)) (omega (arith, early))
            (some_same own.0 (drive_id f.state.pool.0 serial) (sym names ∙ same ∙ ap (λ (k : Id). Some (drive_id k.0 serial)) is.after.same.pool));
      }

    pub alone_taken : (Out : ℕ → Type 0) (r : State) → TakesAlone f h bound Out u place disk z → NoImpostor f bound Out v.state t x → NoImpostor h bound Out r u z
    alone_taken Out r takes alone i off = record { tables = tables_taken i off Out r (takes.own i off) says.tables; others = other }
      where
        says : SaysNoImpostor f bound Out v.state (was i off)
        says = alone (was i off) (was_off i off)

        -- a disk that is no drive of f was none of other places
        never_before : (d : ℕ) → ((p : ℕ) → h.seats p ≡ Some d → ⊥) → (f.seats place ≡ Some d → ⊥) → (p : ℕ) → f.seats p ≡ Some d → ⊥
        never_before d never lost p seat = elim (cases_eq p place) [
          | inl same ↦ lost (ap f.seats (sym same) ∙ seat)
          | inr other ↦ never p (seat_other f t u v (disks_of z) place disk units plan new known keeps.sectors p 0 other ∙ seat)
        ]

        lost_or : (d : ℕ) (o : Option ℕ) → f.seats place ≡ o → (f.seats place ≡ Some d) ⊎ (f.seats place ≡ Some d → ⊥)
        lost_or d None none = inr (λ at. none-some d (sym none ∙ at))
        lost_or d (Some k) some = elim (cases_eq k d) [ inl same ↦ inl (some ∙ ap Some same) | inr apart ↦ inr (λ at. apart (some_same k d (sym some ∙ at))) ]

        other : (d : ℕ) → ((p : ℕ) → h.seats p ≡ Some d → ⊥) → (Out d → ⊥) → d < z.disks → IsStranger h bound (identities_of (disks_of z) i d)
        other d never stays low =
            let apart : d ≢ disk = λ same. never place (here ∙ ap Some (sym same)) in
            elim (cases_lt d f.disks.count) [
              | inr past ↦ takes.strangers i off d low apart stays (inl past)
              | inl old ↦ elim (lost_or d (f.seats place) refl) [
                | inl lost ↦ takes.strangers i off d low apart stays (inr lost)
                | inr kept ↦
                    subst (IsStranger h bound) (said_same f z (was i off) i d (was_other i off d apart) (keeps.sectors d old))
                    (stranger_taken (identities_of f.disks (was i off) d) (says.others d (never_before d never kept) stays old))
              ]
            ]
