-- The arrays of a whole pool: each has all of its members, and their data lie on their drives.
use Rattle.std.proofs.Common.{◌≡◌, ℕ, zero, suc, ◌+◌, ◌-◌, ◌*◌, ◌/◌, ◌<◌, ◌≤◌, ◌^◌, Bool, true, false, ◌==◌, ◌&&◌, ◌||◌, not, bytes_eq, is_ok, nat_lt, if◌then◌else◌, List, [], ◌∷◌, filter, map, length, is_some, Option, Some, None, option_map, unwrap_or, refl, sym, ap, ap₂, subst, ◌∙◌, inl, inr, eqb-true, lt-ltb, ltb-true, arith}
use Rattle.std.specs.Option.{option_map_or}
use Rattle.std.specs.List.{list_all, range_with_len}
use Rattle.std.proofs.lemmas.Bool.{and_parts, both_ways}
use Rattle.rack.specs.Seen.{Image}
use Rattle.gpt_table.specs.declared.Table.{Table}
use Rattle.md_super.specs.declared.superblock.Super.{Super}
use Rattle.md_super.specs.Profile.{is_height_of, profiled, rules}
use Rattle.pool_state.specs.declared.contents.State.{State}
use Rattle.array_image.specs.Arrays.{Member, Shape, shape_by}
use Rattle.array_image.specs.Held.{Among}
use Rattle.array_image.specs.Places.{array_id, data_sector, member_slice, place_of}
use Rattle.array_image.specs.SoundArray.{IsSoundArray, first_unsynced}
use Rattle.array_image.specs.States.{is_current, id_of}
use Rattle.array_image.specs.Supers.{has_roles, has_whole_row, is_named, is_rebuilding, is_unclean, named_places, super_in}
use Rattle.array_core.proofs.Opened.{current_is, named_place, super_passes, super_truth, truth_leads}
use Rattle.array_core.proofs.Rules.{placed}
use Rattle.array_core.proofs.Truths.{Truth, rule_holds, truth_facts, unsynced_few}
use Rattle.array_model.specs.View.{member_on, shape_of}
use Rattle.log_laws.specs.View.{names}
use Rattle.pool_image.specs.Book.{array_now, book_of, is_rebuilding_at, rebuilding_in, rows_of, rows_to_rebuild, unsynced}
use Rattle.pool_image.specs.Disks.{Disks, identities_of, newest}
use Rattle.pool_image.specs.Drives.{Found, drive_sector, extent_of, slices_of}
use Rattle.pool_image.specs.Meaning.{has_entry, has_slice, has_slice_of, is_member, is_table, kind_of, super_at, truth_of}
use Rattle.pool_image.proofs.Identities.{seat_inside}
use Rattle.pool_image.proofs.Truths.{extent_found, slice_of_member, slice_sector}
use Rattle.pool_model.specs.Absent.{IsWholePool}
use Rattle.pool_model.proofs.Found.{some_made}
use Rattle.pool_model.proofs.Layers.{IsLaid, laid}
use Rattle.pool_model.proofs.Roles.{all_range, named_listed}
use Rattle.pool_model.proofs.Spare.{HasAll, member_is, shape_whole, whole_view}
use Rattle.pool_model.proofs.Standing.{pool_at}
use Rattle.pool_model.proofs.Undamaged.{find_false}
use Rattle.pool_model.proofs.Away.{all_current, few_drives, find_passes, is_found, seat_there}
use Rattle.pool_model.proofs.Unrefused.{parts_of}

-- ---- lists

-- of those that pass one is there
some_pass : (test : ℕ → Bool) (xs : List ℕ) → 0 < length (filter test xs) → (x : ℕ) × (test x ≡ true)
some_pass test [] some = absurd (omega (arith, some))
some_pass test (x ∷ xs) some = of (test x) refl some (some_pass test xs)
  where
    of : (b : Bool) → test x ≡ b → 0 < length (if b then x ∷ filter test xs else filter test xs)
        → (0 < length (filter test xs) → (y : ℕ) × (test y ≡ true)) → (y : ℕ) × (test y ≡ true)
    of true is some others = (x, is)
    of false is some others = others some

all_named : (fine : ℕ → Bool) (ps : List ℕ) (p : ℕ) → list_all fine ps ≡ true → names ps p ≡ true → fine p ≡ true
all_named fine [] p all among = absurd (both_ways false refl among)
all_named fine (q ∷ ps) p all among = of (q == p) refl among (all_named fine ps p (and_parts (fine q) (list_all fine ps) all).1)
  where
    of : (b : Bool) → (q == p) ≡ b → (b || names ps p) ≡ true → (names ps p ≡ true → fine p ≡ true) → fine p ≡ true
    of true same here others = ap fine (sym (eqb-true q p same)) ∙ (and_parts (fine q) (list_all fine ps) all).0
    of false apart later others = others later

pub among_range : (f : ℕ → Member) (m : Member) (a n : ℕ) → Among m (map f (range_with_len a n)) → (k : ℕ) × (a ≤ k) × (k < a + n) × (m ≡ f k)
among_range f m a zero among = absurd among
among_range f m a (suc n) (inl here) = (a, omega arith, omega arith, here)
among_range f m a (suc n) (inr later) = let one = among_range f m (a + 1) n later in (one.0, (let least = one.1 in omega (arith, least)), (let most = one.2 in omega (arith, most)), one.3)

-- ---- one array

module _ (disks : Disks) (c : Image) (s : State) (newest_is : newest disks (identities_of disks c) ≡ Some s)
    (w : IsWholePool disks c (pool_at disks c s)) (chunks : ℕ) (extent_is : s.extent ≡ 128 * chunks) where
  abbrev f : Found
  f = pool_at disks c s

  module _ (n : ℕ) (low : n < s.made) where
    pub few : n < 16
    few = (let most = (some_made f (is_found disks c s newest_is w)).1 in omega (arith, low, most))

    abbrev pub t : Super
    t = (w.sound.arrays n low).0

    pub t_is : truth_of f n ≡ Some t
    t_is = (w.sound.arrays n low).1

    pub agrees : IsSoundArray s (slices_of f) n t
    agrees = (w.sound.arrays n low).2

    pub lie : IsLaid f n t
    lie = laid f n t few t_is

    pub lies : extent_of f (suc n) ≡ Some (record { first = lie.first; sectors = data_sector + t.size })
    lies = extent_found f n lie.first t lie.begins lie.is

    -- the truth is some current place's superblock
    stands : (q : ℕ) × (is_current s q ≡ true) × (super_in s (slices_of f) n q ≡ Some t)
    stands =
        let one = truth_leads s (slices_of f) n t t_is in
        let at = current_is s (slices_of f) n one.at t one.here in
        (one.at, at.0, at.1)

    pub roles : has_roles (length s.drives.items) t ≡ true
    roles =
        let one = and_parts (is_ok (profiled t s.extent)) _ (super_passes s (slices_of f) n stands.0 t stands.2) in
        let two = and_parts (bytes_eq t.set_id.0 (array_id s.pool.0 n)) _ one.1 in
        let three = and_parts (t.dev_number == stands.0) _ two.1 in
        let four = and_parts (nat_lt 0 t.events) _ three.1 in
        let five = and_parts (nat_lt t.events (2 ^ 63)) _ four.1 in
        (and_parts (has_whole_row t) (has_roles (length s.drives.items) t) five.1).1

    -- its members are long
    pub long : 2048 < t.size
    long =
        let one = and_parts (is_ok (profiled t s.extent)) _ (super_passes s (slices_of f) n stands.0 t stands.2) in
        let size = and_parts (is_height_of s.extent t.size) _ (rule_holds 5 (rules t s.extent) one.0) in
        ltb-true 2048 t.size (and_parts (nat_lt 2048 t.size) _ size.0).0

    pub listed : (q : ℕ) → is_named t q ≡ true → q < length s.drives.items
    listed q named =
        let of_roles = and_parts (length (named_places t) == t.raid_disks) _ roles in
        let of_list = and_parts (list_all (λ place. nat_lt place (length s.drives.items)) (named_places t)) _ of_roles.1 in
        ltb-true q (length s.drives.items)
        (all_named (λ place. nat_lt place (length s.drives.items)) (named_places t) q of_list.0
        (named_listed t q named))

    -- ---- a member of it

    module _ (q : ℕ) (named : is_named t q ≡ true) where
      counts : is_current s q ≡ true
      counts = all_current disks c s newest_is w q (listed q named)

      pub member : is_member f n q ≡ true
      member = ap (λ (o : Option Super). option_map_or (λ u. is_named u q) o false) t_is ∙ named

      pub own : (u : Super) × (super_in s (slices_of f) n q ≡ Some u)
      own =
          let one = seat_there disks c s newest_is w q counts in
          let all = (parts_of disks c s newest_is w q one.0 counts one.1).supers in
          of (super_at f n q) refl
          (sym (ap (λ b. not b || is_some (super_at f n q)) member) ∙ all_range (λ k. not (is_member f k q) || is_some (super_at f k q)) 0 s.made n all (omega arith) (omega (arith, low)))
        where
          of : (o : Option Super) → super_at f n q ≡ o → is_some o ≡ true → (u : Super) × (super_in s (slices_of f) n q ≡ Some u)
          of None is some = absurd (both_ways false refl some)
          of (Some u) is some = (u, is)

      -- its slice lies inside its drive
      pub room : (e : ℕ) → f.seats q ≡ Some e → lie.first + (data_sector + t.size) + 32 < disks.sectors e
      room e seat = of (f.identities e).table refl (parts_of disks c s newest_is w q e counts seat).table
        where
          of : (o : Option Table) → (f.identities e).table ≡ o → option_map_or (is_table f q (disks.sectors e)) o false ≡ true
              → lie.first + (data_sector + t.size) + 32 < disks.sectors e
          of None is at = absurd (both_ways false refl at)
          of (Some table) is at =
              let one = and_parts (option_map_or (bytes_eq table.disk_id.0) (id_of s q) false) _ at in
              let two = and_parts (has_slice_of f (disks.sectors e) table 0) _ one.1 in
              let next : n + 1 ≡ suc n = omega arith in
              let here : has_slice_of f (disks.sectors e) table (n + 1) ≡ true =
              sym (ap (λ b. not b || has_slice_of f (disks.sectors e) table (n + 1)) member)
              ∙ all_range (λ k. not (is_member f k q) || has_slice_of f (disks.sectors e) table (k + 1)) 0 s.made n two.1 (omega arith) (omega (arith, low)) in
              let there : has_slice (disks.sectors e) table (n + 1 + 1) (kind_of (n + 1)) (record { first = lie.first; sectors = data_sector + t.size }) ≡ true =
              sym (ap (λ o. option_map_or (has_slice (disks.sectors e) table (n + 1 + 1) (kind_of (n + 1))) o false) (ap (extent_of f) next ∙ lies)) ∙ here in
              ltb-true (lie.first + (data_sector + t.size) + 32) (disks.sectors e)
              (and_parts (has_entry table (n + 1 + 1) (kind_of (n + 1)) (record { first = lie.first; sectors = data_sector + t.size })) _ there).1

      pub data_sized : (sector : ℕ) → sector < t.size → length (slices_of f (member_slice q n) (data_sector + sector)) ≡ 512
      data_sized sector inside =
          let one = seat_there disks c s newest_is w q counts in
          let e = one.0 in
          let fits = room e one.1 in
          let at : place_of (member_slice q n) ≡ q = (let small = few in omega (arith, small)) in
          let k = lie.first + (data_sector + sector) in
          let within : k < disks.sectors e = omega (arith, fits, inside) in
          ap length
          (slice_sector f (member_slice q n) (data_sector + sector) lie.first (data_sector + t.size)
          (ap (extent_of f) (slice_of_member q n few) ∙ lies) (omega (arith, inside))
          ∙ ap (λ p. drive_sector f p k) at
          ∙ ap (λ o. option_map_or (λ d. if nat_lt k (disks.sectors d) then c d k else []) o []) one.1
          ∙ ap (λ (b : Bool). if b then c e k else []) (lt-ltb k (disks.sectors e) within))
          ∙ w.sectors e k (seat_inside s disks f.identities q e one.1) within

    -- ---- all of them

    pub small : t.size < 2 ^ 48
    small =
        let one = some_pass (is_named t) (range_with_len 0 (length t.roles.items)) (let two = agrees.two in omega (arith, two)) in
        let seat = seat_there disks c s newest_is w one.0 (counts one.0 one.1) in
        let fits = room one.0 one.1 seat.0 seat.1 in
        let most = w.small seat.0 (seat_inside s disks f.identities one.0 seat.0 seat.1) in
        omega (arith, fits, most)

    pub facts : Truth t
    facts = truth_facts t (super_truth s (slices_of f) n stands.0 chunks t stands.2 extent_is (few_drives disks c s newest_is w).1 small)

    now : (array_now f n t).resync ≡ 0 × ((array_now f n t).rebuild ≡ 0)
    unfolding book_of
    now =
        let all =
        w.whole.rows n (array_now f n t)
        (ap (λ (b : Bool). if b then option_map (array_now f n) (truth_of f n) else None) (lt-ltb n s.made low) ∙ ap (option_map (array_now f n)) t_is) in
        (all.0, all.1)

    -- no row is left to resync
    pub synced : n < s.joined → first_unsynced t ≡ t.size / 128
    synced joined =
        let none : rows_of t - first_unsynced t ≡ 0 = sym (ap (λ (b : Bool). if b then unsynced t else 0) (lt-ltb n s.joined joined)) ∙ now.0 in
        let most = unsynced_few t in
        omega (arith, none, most)

    pub clean : n < s.joined → is_unclean t ≡ false
    clean joined = of (is_unclean t) refl
      where
        of : (b : Bool) → is_unclean t ≡ b → b ≡ false
        of false is = refl
        of true is =
            let less = ltb-true t.resync_offset t.size is in
            let at : t.resync_offset / 128 ≡ t.size / 128 = sym (ap (λ (b : Bool). if b then t.resync_offset / 128 else t.size / 128) is) ∙ synced joined in
            let rows = facts.whole_rows in
            absurd (omega (arith, less, at, rows))

    -- none is rebuilding
    none_rebuilding : rebuilding_in f n t ≡ None
    none_rebuilding = of (rebuilding_in f n t) refl now.1
      where
        by : (r : ℕ) (b : Bool) → is_current s r ≡ b → (o : Option Super) → super_at f n r ≡ o → (b && option_map_or is_rebuilding o false) ≡ true
            → option_map_or (λ own. rows_of t - own.recovery_offset / 128) o 0 ≡ 0 → ⊥
        by r false current o is rebuilds none = both_ways false refl rebuilds
        by r true current None is rebuilds none = both_ways false refl rebuilds
        by r true current (Some u) is rebuilds none =
            let less = (agrees.rebuilt r u current is rebuilds).1 in
            let rows = facts.whole_rows in
            omega (arith, less, rows, none)

        of : (o : Option ℕ) → rebuilding_in f n t ≡ o → option_map_or (rows_to_rebuild f n t) o 0 ≡ 0 → o ≡ None
        of None is none = refl
        of (Some r) is none =
            absurd (by r (is_current s r) refl (super_at f n r) refl (find_passes (is_rebuilding_at f n) (named_places t) r is).0 none)

    pub has_all : HasAll n t few facts s (slices_of f)
    has_all = record {
      all = λ k q less at.
          let named = named_place t k q (let most = facts.few in omega (arith, less, most)) at in
          let here = counts q named in
          let its = own q named in
          let fails = find_false (is_rebuilding_at f n) (named_places t) q none_rebuilding (named_listed t q named) in
          (here, its.0, its.1, sym (ap₂ (λ b o. b && option_map_or is_rebuilding o false) here its.1) ∙ fails);
    }

    -- where a member counts its data have whole sectors
    pub sized : (m : Member) (sector : ℕ) → Among m (shape_by s (slices_of f) n t).members → sector < m.reach → length (slices_of f (member_slice m.place n) (data_sector + sector)) ≡ 512
    unfolding shape_of
    sized m sector among counts =
        let one = among_range (member_on (whole_view n t)) m 0 t.raid_disks
        (subst (λ (z : Shape). Among m z.members) (shape_whole n t few facts s (slices_of f) has_all) among) in
        let less : one.0 < t.raid_disks = (let most = one.2 in omega (arith, most)) in
        let whole = one.3 ∙ member_is n t few facts one.0 less in
        let pos = placed t one.0 facts.positions less in
        let at : m.place ≡ pos.0 = ap (λ (z : Member). z.place) whole ∙ ap (λ o. unwrap_or o 16) pos.1 in
        let named = named_place t one.0 pos.0 (let most = facts.few in omega (arith, less, most)) pos.1 in
        let within : sector < t.size = subst (λ (z : Member). sector < z.reach) whole counts in
        ap (λ q. length (slices_of f (member_slice q n) (data_sector + sector))) at ∙ data_sized pos.0 named sector within
