-- What holds a pool again as a stop inside an opening leaves it.
use Rattle.std.proofs.Common.{◌≡◌, ℕ, ◌<◌, ◌≤◌, ◌&&◌, ◌||◌, Bool, true, false, not, is_some, Option, Some, None, option_map, unwrap_or, refl, sym, ap, ap₂, subst, ◌∙◌, inl, inr, arith}
use Rattle.std.specs.Option.{option_map_or}
use Rattle.std.proofs.lemmas.Bool.{both_ways}
use Rattle.rack.specs.Seen.{Image}
use Rattle.slice_rack.specs.Slices.{Slices, sectors_of}
use Rattle.slice_rack.specs.Sliced.{sliced}
use Rattle.md_super.specs.declared.superblock.Super.{Super}
use Rattle.pool_state.specs.declared.contents.State.{State}
use Rattle.array_image.specs.Arrays.{Member, Shape, arrays_in, member_by, member_in, place_with, replayed, shape_by, shape_in}
use Rattle.array_image.specs.Held.{Among}
use Rattle.array_image.specs.States.{is_current, state_in}
use Rattle.raid_laws.specs.Book.{OnlyMarksSince, after_then, plan_between}
use Rattle.raid_laws.specs.Reach.{KeepsReach}
use Rattle.array_image.specs.Supers.{is_named, is_unclean}
use Rattle.raid_laws.specs.Since.{AreSince}
use Rattle.raid_laws.proofs.Noted.{current_few}
use Rattle.pool_image.specs.Alike.{IsSamePool}
use Rattle.pool_image.specs.Disks.{Disks, Identity, identities_of}
use Rattle.pool_image.specs.Drives.{Found, found, slices_of}
use Rattle.pool_image.specs.Meaning.{array_sectors, arrays_held, damage_of, has_supers, is_dirty_degraded, is_member, is_table, shape_of, super_at, truth_of}
use Rattle.pool_image.specs.Volumes.{Arrays}
use Rattle.pool_image.proofs.Founds.{damage_same, joined_same, shapes_same, truths_same}
use Rattle.pool_rest.specs.SoundLogs.{HasSoundLogs}
use Rattle.pool_model.specs.InService.{IsOutset}
use Rattle.pool_model.specs.Left.{AreElsewhere}
use Rattle.pool_model.specs.Openings.{HadOnePool, HaveOnePool, RecoversInOpening, IsUnsynced, MayReplay}
use Rattle.pool_model.specs.Pools.{AreSlicesOf}
use Rattle.pool_model.specs.Stopped.{RecoversBetween}
use Rattle.pool_model.proofs.Found.{found_is, seated_below}
use Rattle.pool_model.proofs.Members.{among_range}
use Rattle.pool_model.proofs.OnePool.{stood_as}
use Rattle.pool_model.proofs.ReopeningAmid.{between_own, between_whole}
use Rattle.pool_model.proofs.Roles.{all_range}
use Rattle.pool_model.proofs.Said.{AreInside, slices_by}
use Rattle.pool_model.proofs.Unrefused.{no_drive, undamaged}
use Rattle.pool_model.proofs.WereThere.{HadThere}

-- from a later sector on
unfoldable pub opened_from : (f : Found) (from later : ℕ) (i : Image) → from ≤ later → RecoversInOpening f from i → RecoversInOpening f later i
opened_from f from later i before holds = record {
  now = holds.now;
  found_is = holds.found_is;
  sound = holds.sound;
  logs = holds.logs;
  after = holds.after;
  plan = holds.plan;
  marks = holds.marks;
  seats = holds.seats;
  values = λ n x low behind inside. holds.values n x low (omega (arith, before, behind)) inside;
  apart = holds.apart;
  alone = holds.alone;
  stops = holds.stops;
  sectors = holds.sectors;
  reach = holds.reach;
  unsynced = holds.unsynced;
  parts = holds.parts;
  one_pool = holds.one_pool;
}

-- of the same pool, but for gates of its log, where no other pool stood if none did
pub opened_same : (e f : Found) (from : ℕ) (i : Image) → IsSamePool e f → (HadOnePool e → HadOnePool f) → RecoversInOpening f from i → RecoversInOpening e from i
opened_same e f from i same one holds = record {
  now = holds.now;
  found_is = ap (λ (d : Disks). found d i) (sym same.disks) ∙ holds.found_is;
  sound = holds.sound;
  logs = subst (λ (d : Disks). HasSoundLogs d i) same.disks holds.logs;
  after = subst (λ (s : State). OnlyMarksSince s holds.now.state) same.state holds.after;
  plan = holds.plan ∙ ap (λ (s : State). s.plan) same.state;
  marks = λ p counts past. sym (same.seats p) ∙ holds.marks p (ap (λ (s : State). is_current s p) same.state ∙ counts) past;
  seats = λ p counts. holds.seats p counts ∙ same.seats p;
  values = λ n x low behind inside.
      holds.values n x (subst (λ (s : State). n < s.made) (sym same.state) low) behind (subst (λ (k : Arrays). x < k.sectors n) (sym (joined_same e f same)) inside)
      ∙ ap (λ (k : Arrays). k.contents n x) (joined_same e f same);
  apart = holds.apart;
  alone = holds.alone;
  stops = subst (λ (d : Disks). MayReplay d i holds.now) same.disks holds.stops;
  sectors = λ n low. holds.sectors n (subst (λ (s : State). n < s.made) (sym same.state) low) ∙ ap (λ (k : Arrays). k.sectors n) (joined_same e f same);
  reach = λ n before left low was is. holds.reach n before left (subst (λ (s : State). n < s.made) (sym same.state) low) (shapes_same e f same n ∙ was) is;
  unsynced = λ n low dirty.
      sym (ap (λ (o : Option Super). option_map_or is_unclean o false) (truths_same e f same n)) ∙ holds.unsynced n (subst (λ (s : State). n < s.made) (sym same.state) low) dirty;
  parts = λ p now none. holds.parts p now (damage_same e f same p ∙ none);
  one_pool = λ had. holds.one_pool (one had);
}

-- By contents of slices the members of a pool's arrays, on places that are current by their state, count at least as far as in the pool.
abbrev pub CountFrom : Found → Image → Type 0
CountFrom f r =
    (n : ℕ) (s : State) (before left : Shape) → n < f.state.made → shape_of f n ≡ Some before → state_in r ≡ Some s → shape_in s r n ≡ Some left
    → KeepsReach s before left

-- a member of an array's shape is there where its place is current and has its superblock
member_there : (f : Found) (n p : ℕ) (t : Super) → is_current f.state p ≡ true → is_some (super_at f n p) ≡ true
    → (m : Member) → Among m (shape_by f.state (slices_of f) n t).members → m.place ≡ p → m.is_there ≡ true
unfolding shape_by
member_there f n p t current has m among place =
    let one = among_range (member_in f.state (slices_of f) n t) m 0 t.raid_disks among in
    let here : unwrap_or (place_with t.roles.items one.0) 16 ≡ p = ap (λ (z : Member). z.place) (sym one.3) ∙ place in
    ap (λ (z : Member). z.is_there) one.3
    ∙ ap (λ q. (member_by t.size q (is_current f.state q) (super_at f n q)).is_there) here
    ∙ ap₂ (λ a b. a && b) current has

-- What a stop inside a call of a pool in service leaves does so, where just the places without a disk are marked by the call's end, and the replayed slices
-- give what the pool's arrays held, with members that count as far as they did. Its disks have the drives' tables, and copies since the pool's state, and an array lacks a member and has
-- rows left to resync only where the pool's truth leaves such ones. No disk had another pool's state once the pool's record was replayed, if none did before.
pub amid_opened : (f : Found) (t : Slices) (s u : State) (from : ℕ) (i : Image) → OnlyMarksSince f.state s → u.plan ≡ f.state.plan
    → ((p : ℕ) → is_current u p ≡ (is_current f.state p && is_some (f.seats p)))
    → ((n x : ℕ) → n < f.state.made → from ≤ x → x < array_sectors f n → arrays_in (replayed (sectors_of t) (sliced t i)) n x ≡ arrays_held f n x)
    → CountFrom f (replayed (sectors_of t) (sliced t i)) → AreSlicesOf f t → AreInside f t → AreElsewhere f i → AreSince s (sectors_of t) (sliced t i)
    → IsOutset f → (HadOnePool f → HaveOnePool f)
    → (amid : RecoversBetween f t s u i) → ((n : ℕ) → n < f.state.made → is_dirty_degraded amid.still.now n ≡ true → IsUnsynced f n)
    → (holds : RecoversInOpening f from i) × (holds.now ≡ amid.still.now)
amid_opened f t s u from i begun plan marks values counted slices inside elsewhere since outset one amid unsynced =
    let still = amid.still in (
      record {
        now = still.now;
        found_is = still.found_is;
        sound = still.sound;
        logs = still.logs;
        after = subst (λ (z : State). OnlyMarksSince f.state z) (sym still.state) (after_then f.state s amid.state begun amid.later);
        plan = ap (λ (z : State). z.plan) still.state ∙ plan_between f.state amid.state u (after_then f.state s amid.state begun amid.later) amid.sooner plan;
        marks = λ p counts past. none p counts (sym (ap (λ (z : State). is_current z p) still.state) ∙ past) (f.seats p) refl;
        seats = λ p counts. still.seats p (current_now p counts);
        values = λ n x low behind inside. still.values n x low ∙ values n x low behind inside;
        apart = amid.apart;
        alone = still.alone;
        stops = inr (amid.stood, amid.lower);
        sectors = still.sectors;
        reach = reach_now;
        unsynced = unsynced;
        parts = λ p counts fine. parts p (current_now p counts) fine (f.seats p) refl;
        one_pool = own;
      },
      refl,
    )
  where
    current_now : (p : ℕ) → is_current amid.still.now.state p ≡ true → is_current amid.state p ≡ true
    current_now p counts = sym (ap (λ (z : State). is_current z p) amid.still.state) ∙ counts

    reach_now : (n : ℕ) (before left : Shape) → n < f.state.made → shape_of f n ≡ Some before → shape_of amid.still.now n ≡ Some left → KeepsReach amid.still.now.state before left
    reach_now n before left low was is =
        let still = amid.still in
        subst (λ (z : State). KeepsReach z before left) (sym still.state) (counted n amid.state before left low was still.is_state (sym (still.shapes n low) ∙ is))

    -- a drive of the pool keeps its place
    stays : (p d : ℕ) → f.seats p ≡ Some d → is_current amid.state p ≡ true
    stays p d seat =
        amid.sooner.current p (marks p ∙ ap₂ (λ (b : Bool) (o : Option ℕ). b && is_some o) (outset.seated p d seat).current seat)

    none : (p : ℕ) → is_current f.state p ≡ true → is_current amid.state p ≡ false → (o : Option ℕ) → f.seats p ≡ o → f.seats p ≡ None
    none p counts past None seat = seat
    none p counts past (Some d) seat = absurd (both_ways (is_current amid.state p) past (stays p d seat))

    -- a member that had its superblock was there
    stood : (p : ℕ) → is_current amid.state p ≡ true → has_supers f p ≡ true → (n : ℕ) → n < f.state.made → is_member f n p ≡ true → HadThere amid.still.now p n
    stood p counts supers n low member = of (truth_of f n) refl member
      where
        has : is_some (super_at f n p) ≡ true
        has =
            sym (ap (λ b. not b || is_some (super_at f n p)) member)
            ∙ all_range (λ k. not (is_member f k p) || is_some (super_at f k p)) 0 f.state.made n supers (omega arith) (omega (arith, low))

        of : (o : Option Super) → truth_of f n ≡ o → option_map_or (λ t. is_named t p) o false ≡ true → HadThere amid.still.now p n
        of None truth named = absurd (both_ways false refl named)
        of (Some t) truth named = record {
          was = shape_by f.state (slices_of f) n t;
          keeps = λ left is. reach_now n (shape_by f.state (slices_of f) n t) left low (ap (option_map (shape_by f.state (slices_of f) n)) truth) is;
          there = member_there f n p t (begun.current p (amid.later.current p counts)) has;
        }

    own : HadOnePool f → HadOnePool amid.still.now
    own had d copy low here = elim (seated_below f.seats d 16) [
      | inl at ↦ between_own f t s u i begun (slices_by f t s slices) inside since amid at.0 d copy (stays at.0 d at.1) at.1 said
      | inr none ↦
          one had d copy there
          (sym (ap (λ (z : Identity). z.copied) (elsewhere.others d (λ p seat. none p (current_few f.state p outset.places (outset.seated p d seat).current) seat) there)) ∙ said)
          ∙ sym (after_then f.state s amid.state begun amid.later).same.pool ∙ sym (ap (λ (z : State). z.pool) amid.still.state)
    ]
      where
        there : d < f.disks.count
        there = subst (λ (disks : Disks). d < disks.count) (found_is f.disks i amid.still.now amid.still.found_is).1 low

        said : (identities_of f.disks i d).copied ≡ Some copy
        said = sym (ap (λ (z : Identity). z.copied) (stood_as f.disks i amid.still.now amid.still.found_is d)) ∙ here

    parts : (p : ℕ) → is_current amid.state p ≡ true → damage_of f p ≡ None → (o : Option ℕ) → f.seats p ≡ o → damage_of amid.still.now p ≡ None
    parts p counts fine None free = no_drive amid.still.now p (amid.still.seats p counts ∙ free)
    parts p counts fine (Some d) seat =
        let whole = undamaged f p d seat fine in
        between_whole f t s u i begun (slices_by f t s slices) inside since amid p d counts seat
        (ap (λ o. option_map_or (is_table f p (f.disks.sectors d)) o false) (elsewhere.tables p d seat) ∙ whole.table) (stood p counts whole.supers)
