-- A pool that took a new drive in has the truths that it had.
use Rattle.std.proofs.Common.{◌≡◌, ◌≢◌, ℕ, ◌+◌, ◌-◌, ◌<◌, ◌≤◌, ◌^◌, ◌&&◌, nat_le, nat_lt, if◌then◌else◌, Bool, true, false, List, [], is_some, length, map, Option, Some, None, refl, sym, ap, ap₂, subst, ◌∙◌, inl, inr, eq-eqb, leb-true, lt-ltb, ltb-true, arith}
use Rattle.std.specs.List.{range_with_len}
use Rattle.std.specs.Option.{option_map_or}
use Rattle.std.proofs.lemmas.Bool.{and_parts, cases_eq, ne_eqb}
use Rattle.std.proofs.lemmas.Option.{none-some}
use Rattle.rack.specs.Seen.{Image}
use Rattle.slice_rack.specs.Slices.{Slices}
use Rattle.md_super.specs.declared.superblock.Super.{Super}
use Rattle.pool_state.specs.declared.contents.Plan.{Plan}
use Rattle.pool_state.specs.declared.contents.State.{State}
use Rattle.array_image.specs.Foremost.{foremost}
use Rattle.array_image.specs.Places.{member_slice, place_of, super_sector}
use Rattle.array_image.specs.States.{current_places, is_current}
use Rattle.array_image.specs.Supers.{is_named, is_super_of, only_if, super_in, super_of, truth_in}
use Rattle.array_core.proofs.Leading.{Leads, foremost_filtered, foremost_leads, leads_foremost}
use Rattle.array_core.proofs.Opened.{super_place}
use Rattle.array_core.specs.Seats.{seat_of as seat_in}
use Rattle.array_core.proofs.Stripped.{some_same}
use Rattle.array_model.specs.View.{HasGeometry, View}
use Rattle.pool_image.specs.Disks.{Disks}
use Rattle.pool_image.specs.Drives.{Found, drive_sector, first_of, slices_from, truth_from}
use Rattle.pool_image.specs.Meaning.{array_sectors, is_member, truth_of}
use Rattle.pool_image.proofs.Truths.{truth_found}
use Rattle.raid_laws.specs.Book.{OnlyMarksSince}
use Rattle.raid_laws.specs.Enlisting.{enlisted}
use Rattle.raid_laws.specs.NewDrive.{first_in, joins, slice_length}
use Rattle.raid_laws.specs.Raid.{Raid}
use Rattle.pool_model.specs.InService.{IsArranged}
use Rattle.pool_model.specs.Taken.{SeatsNew, taken, views_of}
use Rattle.pool_model.proofs.Alike.{HasTruths, sectors_same, truth_same}
use Rattle.pool_model.proofs.Beginnings.{first_is, view_at}
use Rattle.pool_model.proofs.Joined.{current_here, current_other, few_same}
use Rattle.pool_model.proofs.Layers.{none_there}
use Rattle.pool_model.proofs.Named.{same_length}

-- what is known of the pool before
pub record IsKnownBefore (f : Found) (v : Raid) : Type 0 where
  pub outset : IsArranged f
  pub after : OnlyMarksSince f.state v.state
  pub geometry : (n : ℕ) (u : Super) → n < f.state.made → truth_of f n ≡ Some u → HasGeometry u (v.arrays n).truth

module _ (f : Found) (t u : Slices) (v : Raid) (disks : Disks) (place disk units : ℕ) (plan : Plan)
    (new : SeatsNew f t u v place disk (disks.sectors disk)) (known : IsKnownBefore f v)
    (sectors : (d : ℕ) → d < f.disks.count → disks.sectors d ≡ f.disks.sectors d) where
  abbrev pub next : State
  next = enlisted place units plan v.state

  abbrev pub g : Found
  g = taken f disks place disk next

  pub made_same : v.state.made ≡ f.state.made
  made_same = known.after.same.made

  pub places_same : length next.drives.items ≡ length f.state.drives.items
  places_same = few_same place units plan v.state new.listed ∙ same_length v.state.drives.items f.state.drives.items known.after.same.drives

  -- ---- sectors of drives

  module _ (p s : ℕ) (other : p ≢ place) where
    pub seat_other : g.seats p ≡ f.seats p
    seat_other = ap (λ (b : Bool). if b then Some disk else f.seats p) (ne_eqb p place other)

    other_sector : drive_sector g p s ≡ drive_sector f p s
    other_sector = by (f.seats p) refl
      where
        by : (o : Option ℕ) → f.seats p ≡ o → drive_sector g p s ≡ drive_sector f p s
        by None none =
            ap (λ o. option_map_or (λ d. if nat_lt s (disks.sectors d) then g.contents d s else []) o []) (seat_other ∙ none)
            ∙ sym (ap (λ o. option_map_or (λ d. if nat_lt s (f.disks.sectors d) then f.contents d s else []) o []) none)
        by (Some d) some =
            ap (λ o. option_map_or (λ d. if nat_lt s (disks.sectors d) then g.contents d s else []) o []) (seat_other ∙ some)
            ∙ ap₂ (λ k (b : Bool). if nat_lt s k then (if b then drive_sector f place s else f.contents d s) else [])
            (sectors d (known.outset.seated p d some).1) (ne_eqb d disk (new.others p d other some).1)
            ∙ sym (ap (λ o. option_map_or (λ d. if nat_lt s (f.disks.sectors d) then f.contents d s else []) o []) some)

  pub seat_here : g.seats place ≡ Some disk
  seat_here = ap (λ (b : Bool). if b then Some disk else f.seats place) (eq-eqb place place refl)

  here_sector : (s : ℕ) → drive_sector g place s ≡ (if nat_lt s (disks.sectors disk) then drive_sector f place s else [])
  here_sector s =
      ap (λ o. option_map_or (λ d. if nat_lt s (disks.sectors d) then g.contents d s else []) o []) seat_here
      ∙ ap (λ (b : Bool). if nat_lt s (disks.sectors disk) then (if b then drive_sector f place s else f.contents disk s) else []) (eq-eqb disk disk refl)

  -- ---- the truth of an array

  module _ (n first : ℕ) (low : n < f.state.made) (begins : first_of f n ≡ Some first) where
    few : n < 16
    few = let most = known.outset.made.1 in omega (arith, low, most)

    place_is : (p : ℕ) → place_of (member_slice p n) ≡ p
    place_is p = omega (arith, few)

    abbrev block : Found → ℕ → List ℕ
    block h p = slices_from h first (member_slice p n) super_sector

    block_is : (h : Found) (p : ℕ) → block h p ≡ drive_sector h p (first + super_sector)
    block_is h p = ap (λ q. drive_sector h q (first + super_sector)) (place_is p)

    abbrev read : State → List ℕ → ℕ → Option Super
    read s b p = only_if (is_super_of s.pool.0 s.extent (length s.drives.items) n p) (super_of b)

    nothing_read : (s : State) (p : ℕ) → read s [] p ≡ None
    nothing_read s p = ap (only_if (is_super_of s.pool.0 s.extent (length s.drives.items) n p)) none_there

    -- the states judge superblocks alike
    read_same : (b : List ℕ) (p : ℕ) → read next b p ≡ read f.state b p
    read_same b p =
        ap (λ k. only_if (is_super_of next.pool.0 next.extent k n p) (super_of b)) places_same
        ∙ ap₂ (λ (pool : List ℕ) extent. only_if (is_super_of pool extent (length f.state.drives.items) n p) (super_of b)) (ap (λ k. k.0) known.after.same.pool) known.after.same.extent

    super_other : (p : ℕ) → p ≢ place → super_in next (slices_from g first) n p ≡ super_in f.state (slices_from f first) n p
    super_other p other =
        read_same (block g p) p
        ∙ ap (λ b. read f.state b p) (block_is g p ∙ other_sector p (first + super_sector) other ∙ sym (block_is f p))

    -- a place without a drive has none
    unseated_none : (p : ℕ) → f.seats p ≡ None → super_in f.state (slices_from f first) n p ≡ None
    unseated_none p none =
        ap (λ b. read f.state b p)
        (block_is f p ∙ ap (λ o. option_map_or (λ d. if nat_lt (first + super_sector) (f.disks.sectors d) then f.contents d (first + super_sector) else []) o []) none)
        ∙ nothing_read f.state p

    super_seated : (p : ℕ) (y : Super) → super_in f.state (slices_from f first) n p ≡ Some y → (d : ℕ) × (f.seats p ≡ Some d)
    super_seated p y is = by (f.seats p) refl
      where
        by : (o : Option ℕ) → f.seats p ≡ o → (d : ℕ) × (f.seats p ≡ Some d)
        by (Some d) some = (d, some)
        by None none = absurd (none-some y (sym (unseated_none p none) ∙ is))

    super_within : first + super_sector < disks.sectors disk → super_in next (slices_from g first) n place ≡ super_in f.state (slices_from f first) n place
    super_within within =
        read_same (block g place) place
        ∙ ap (λ b. read f.state b place)
        (block_is g place ∙ here_sector (first + super_sector)
        ∙ ap (λ (b : Bool). if b then drive_sector f place (first + super_sector) else []) (lt-ltb (first + super_sector) (disks.sectors disk) within)
        ∙ sym (block_is f place))

    -- where the new place has one, it is the one that the place had
    super_here : (y : Super) → super_in next (slices_from g first) n place ≡ Some y → super_in f.state (slices_from f first) n place ≡ Some y
    super_here y is = by (nat_lt (first + super_sector) (disks.sectors disk)) refl
      where
        by : (b : Bool) → nat_lt (first + super_sector) (disks.sectors disk) ≡ b → super_in f.state (slices_from f first) n place ≡ Some y
        by true within = sym (super_within (ltb-true (first + super_sector) (disks.sectors disk) within)) ∙ is
        by false past =
            absurd (none-some y
            (sym (ap (λ b. read next b place)
            (block_is g place ∙ here_sector (first + super_sector) ∙ ap (λ (b : Bool). if b then drive_sector f place (first + super_sector) else []) past)
            ∙ nothing_read next place) ∙ is))

    -- the superblocks on current places
    abbrev on : State → Image → ℕ → Option Super
    on s c p = if is_current s p then super_in s c n p else None

    on_parts : (s : State) (c : Image) (p : ℕ) (y : Super) → on s c p ≡ Some y → (is_current s p ≡ true) × (super_in s c n p ≡ Some y)
    on_parts s c p y is = by (is_current s p) refl is
      where
        by : (b : Bool) → is_current s p ≡ b → (if b then super_in s c n p else None) ≡ Some y → (is_current s p ≡ true) × (super_in s c n p ≡ Some y)
        by true current at = (current, at)
        by false former at = absurd (none-some y at)

    on_from : (s : State) (c : Image) (p : ℕ) (y : Super) → is_current s p ≡ true → super_in s c n p ≡ Some y → on s c p ≡ Some y
    on_from s c p y current is = ap (λ (b : Bool). if b then super_in s c n p else None) current ∙ is

    -- each that counts now counted before
    before : (p : ℕ) (y : Super) → on next (slices_from g first) p ≡ Some y → on f.state (slices_from f first) p ≡ Some y
    before p y is =
        let parts = on_parts next (slices_from g first) p y is in
        elim (cases_eq p place) [
          | inl same ↦ (
              let at = super_here y (subst (λ q. super_in next (slices_from g first) n q ≡ Some y) same parts.1) in
              let one = super_seated place y at in
              subst (λ q. on f.state (slices_from f first) q ≡ Some y) (sym same)
              (on_from f.state (slices_from f first) place y (known.outset.seated place one.0 one.1).0 at)
              )
          | inr other ↦
              on_from f.state (slices_from f first) p y
              (known.after.current p (sym (current_other place units plan v.state new.listed p other) ∙ parts.0)) (sym (super_other p other) ∙ parts.1)
        ]

    -- the truth counts still
    still : (p : ℕ) (y : Super) → truth_from f n first ≡ Some y → on f.state (slices_from f first) p ≡ Some y → on next (slices_from g first) p ≡ Some y
    still p y truth is =
        let parts = on_parts f.state (slices_from f first) p y is in
        elim (cases_eq p place) [
          | inr other ↦
              (let one = super_seated p y parts.1 in
              on_from next (slices_from g first) p y
              (current_other place units plan v.state new.listed p other ∙ (new.others p one.0 other one.1).0) (super_other p other ∙ parts.1))
          | inl same ↦
              (let at = truth_found f n first y few begins truth in
              let own : is_named y y.dev_number ≡ true = known.outset.own n y low at in
              let member : is_member f n place ≡ true =
              ap (λ (o : Option Super). option_map_or (λ z. is_named z place) o false) at
              ∙ ap (is_named y) (sym same ∙ sym (super_place f.state (slices_from f first) n p y parts.1)) ∙ own in
              let join : joins (views_of v) place (disks.sectors disk) n ≡ true = new.members n low ∙ member in
              let fits : (is_some (seat_in (v.arrays n) place) && nat_le (first_in (views_of v) n + slice_length (v.arrays n) + 33) (disks.sectors disk)) ≡ true =
              sym (ap (λ o. option_map_or (λ (z : View). is_some (seat_in z place) && nat_le (first_in (views_of v) n + slice_length z + 33) (disks.sectors disk)) o false)
              (view_at v n (omega (arith, low, made_same)))) ∙ join in
              let room = leb-true (first_in (views_of v) n + slice_length (v.arrays n) + 33) (disks.sectors disk) (and_parts (is_some (seat_in (v.arrays n) place)) _ fits).1 in
              let here : first ≡ first_in (views_of v) n =
              some_same first (first_in (views_of v) n) (sym begins ∙ first_is f v known.outset.made.1 made_same known.outset.truths known.geometry n (omega (arith, low))) in
              let within : first + super_sector < disks.sectors disk = omega (arith, room, here) in
              subst (λ q. on next (slices_from g first) q ≡ Some y) (sym same)
              (on_from next (slices_from g first) place y (current_here place units plan v.state new.listed)
              (super_within within ∙ subst (λ q. super_in f.state (slices_from f first) n q ≡ Some y) same parts.1)))
        ]

    truth_by : (s : State) (c : Image) → truth_in s c n ≡ foremost (λ z. z.events) (map (on s c) (range_with_len 0 (length s.drives.items)))
    unfolding truth_in current_places
    truth_by s c = foremost_filtered (λ z. z.events) (is_current s) (super_in s c n) (range_with_len 0 (length s.drives.items))

    pub truth_still : (y : Super) → truth_from f n first ≡ Some y → truth_from g n first ≡ Some y
    truth_still y is =
        let many = length f.state.drives.items in
        let leads : Leads (λ (z : Super). z.events) (on f.state (slices_from f first)) 0 many y =
        foremost_leads (λ z. z.events) (on f.state (slices_from f first)) 0 many y (sym (truth_by f.state (slices_from f first)) ∙ is) in
        let now : Leads (λ (z : Super). z.events) (on next (slices_from g first)) 0 many y =
        record {
          at = leads.at;
          least = leads.least;
          most = leads.most;
          here = still leads.at y is leads.here;
          before = λ q z from less at. leads.before q z from less (before q z at);
          after = λ q z late within at. leads.after q z late within (before q z at);
        } in
        truth_by next (slices_from g first)
        ∙ ap (λ k. foremost (λ z. z.events) (map (on next (slices_from g first)) (range_with_len 0 k))) places_same
        ∙ leads_foremost (λ z. z.events) (on next (slices_from g first)) 0 many y now

  pub has_truths : HasTruths f g
  has_truths n first y low begins is = truth_still n first low begins y is

  -- ---- the pool with the drive

  -- its arrays have the sectors that they had
  pub sectors_taken : (n : ℕ) → n < f.state.made → array_sectors g n ≡ array_sectors f n
  sectors_taken n low = sectors_same f g known.outset.made.1 known.outset.truths has_truths n low

  truth_is : (n : ℕ) → n < f.state.made → truth_of g n ≡ truth_of f n
  truth_is n low = truth_same f g known.outset.made.1 known.outset.truths has_truths n low

  -- the disk is one of the bay, which has the disks that it had
  pub arranged_taken : f.disks.count ≤ disks.count → disk < disks.count → IsArranged g
  arranged_taken more low =
      let first = known.outset.epoch in
      let after = known.after.epoch in
      let up : next.epoch ≡ v.state.epoch + 1 = ap (λ (b : Bool). if b then v.state.epoch + 1 else v.state.epoch) (lt-ltb v.state.epoch (2 ^ 63 - 1) new.room) in
      record {
        epoch = omega (arith, first, after, up);
        places = subst (λ k. k ≤ 16) (sym places_same) known.outset.places;
        made = subst (λ k. (1 ≤ k) × (k ≤ 16)) (sym made_same) known.outset.made;
        joined = subst (λ k. (1 ≤ k) × (k ≤ v.state.made)) (sym known.after.same.joined) (subst (λ k. (1 ≤ f.state.joined) × (f.state.joined ≤ k)) (sym made_same) known.outset.joined);
        seated = λ p d seat. elim (cases_eq p place) [
          | inl same ↦ (
            subst (λ q. is_current next q ≡ true) (sym same) (current_here place units plan v.state new.listed),
            subst (λ k. k < disks.count) (some_same disk d (sym seat_here ∙ ap g.seats (sym same) ∙ seat)) low,
          )
          | inr other ↦
              (let was : f.seats p ≡ Some d = sym (seat_other p 0 other) ∙ seat in
              let there = (known.outset.seated p d was).1 in (
                current_other place units plan v.state new.listed p other ∙ (new.others p d other was).0,
                (let e : d < disks.count = omega (arith, there, more) in e),
              ))
        ];
        truths = λ n at. let less : n < f.state.made = omega (arith, at, made_same) in let one = known.outset.truths n less in (one.0, truth_is n less ∙ one.1);
        own = λ n y at truth. let less : n < f.state.made = omega (arith, at, made_same) in known.outset.own n y less (sym (truth_is n less) ∙ truth);
      }
