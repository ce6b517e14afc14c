-- What the mending of losses makes of a book: each turn of it, turns in a row, and the heeding after them.
use Rattle.transition_laws.proofs.ArraysFor.{restates_for}
use Rattle.std.proofs.Common.{◌≡◌, ℕ, ◌<◌, Bool, true, false, ◌&&◌, not, List, ◌∷◌, ◌++◌, None, refl, sym, ap, ap₂, subst, ◌∙◌, arith, []}
use Rattle.std.proofs.lemmas.Bool.{both_ways}
use Rattle.rack.specs.Values.{Values}
use Rattle.rack.specs.Seen.{Image, RackView}
use Rattle.rack.specs.Joins.{leaves_same, stays_same}
use Rattle.rack.specs.Targets.{put, Target}
use Rattle.md_super.specs.declared.superblock.Super.{Super}
use Rattle.pool_state.specs.declared.contents.State.{State}
use Rattle.array_image.specs.Arrays.{replayed}
use Rattle.array_image.specs.Left.{IsInside, Picks}
use Rattle.array_image.specs.Places.{member_slice, place_of, super_sector}
use Rattle.array_image.specs.SoundArray.{array_fields}
use Rattle.array_image.specs.States.{is_current}
use Rattle.array_image.specs.Supers.{super_in}
use Rattle.array_image.proofs.Frames.{super_of_sector}
use Rattle.array_image.proofs.Marked.{marked_super}
use Rattle.log_laws.specs.View.{LogView, names, next_number}
use Rattle.log_laws.proofs.Kept.{put_none, stands_of}
use Rattle.array_model.specs.Says.{HasNoOthers}
use Rattle.array_model.specs.View.{has_gone, View}
use Rattle.array_core.specs.Seats.{heeded}
use Rattle.array_core.specs.Superblocks.{left_offset}
use Rattle.raid_laws.specs.Losing.{only_same}
use Rattle.raid_laws.specs.Moves.{AreMarked, IsSet}
use Rattle.raid_laws.specs.Raid.{gone_in, is_failed, Raid}
use Rattle.raid_laws.specs.Settling.{state_after}
use Rattle.raid_laws.proofs.Committed.{after_further, IsCommit, raid_after}
use Rattle.raid_laws.proofs.Losing.{only_gone, only_heeded}
use Rattle.raid_laws.proofs.Noted.{with_arrays}
use Rattle.raid_laws.proofs.Over.{member_left, someone_left}
use Rattle.raid_laws.proofs.Restated.{IsStaged}
use Rattle.raid_laws.proofs.Staged.{staged_array}
use Rattle.transition_laws.specs.Changes.{by, by_joined, Change, failed}
use Rattle.transition_laws.specs.Holds.{HoldsBook, IsPromised, Promise, Stands}
use Rattle.transition_laws.specs.Losses.{AreLosses, IsRunOf, MakesLosses, SettlesBook}
use Rattle.transition_laws.specs.Makes.{Makes, makes_then}
use Rattle.transition_laws.proofs.Committing.{book_with}
use Rattle.transition_laws.proofs.HeededMakes.{heeded_makes}
use Rattle.transition_laws.proofs.MarkedMakes.{mark_makes}
use Rattle.transition_laws.proofs.OverMakes.{over_makes}
use Rattle.transition_laws.proofs.Rewritten.{IsRestated}
use Rattle.transition_laws.proofs.RunsOf.{marked_shape, run_loses, run_marked}
use Rattle.transition_laws.proofs.SettledMakes.{suits_none}
use Rattle.transition_laws.proofs.Shown.{stands_shape}
use Rattle.transition_laws.proofs.Standing.{holds_of}

-- ---- the commit of a turn

left_now : (b c : Bool) → (b && not c) ≡ true → (b ≡ true) × (c ≡ false)
left_now true false is = (refl, refl)
left_now true true is = absurd (both_ways false refl is)
left_now false c is = absurd (both_ways false refl is)

module _ (u v : Raid) (book_number : ℕ) (g : ℕ → View) (lost on gone : List ℕ) (l : LogView) (xs : List Target) (f : ℕ → View) (a b c : RackView)
    (commit : IsCommit v lost on gone l xs f b c) (run : IsRunOf (book_with v book_number g) v) (settles : SettlesBook u v u.state.made a b) (same : u.state ≡ v.state) where
  abbrev book : Raid
  book = book_with v book_number g

  abbrev events : ℕ → ℕ
  events n = (v.arrays n).truth.events

  module _ (p : Promise) (vals : ℕ → ℕ → Values) (promised : IsPromised p (raid_after v lost (next_number l.number) f)) (mid : IsPromised p v)
      (first : Stands (book_with v book_number g) u p vals a) (stands : Stands (book_with v book_number g) v p vals b) (n : ℕ) (live : p.live n ≡ true) (low : n < v.state.made) where
    settled : IsStaged v.state (state_after v lost) (gone_in v) (v.arrays n) l.added b n
    settled =
        staged_array v lost on l xs b commit.marking n low
        (let some = member_left (raid_after v lost (next_number l.number) f) n (promised.goes n live low) in
        let fewer = (after_further v lost on gone l xs f b c commit).seats n low in omega (arith, some, fewer))
        (stands.arrays n live low).written
        (settles.settled (book_with v book_number g) vals p same mid first n live low (subst (λ (s : State). n < s.made) (sym same) low))

    -- no place but its members' has a superblock of it then
    alone : (e : Image) → Picks b e → HasNoOthers (v.arrays n) (state_after v lost) (put b.sectors l.added e)
    alone e picks place current other =
        let disk = member_slice place n in
        let few = settled.few in
        let now = left_now (is_current v.state place) (gone_in v place) (sym (settled.marks.current place) ∙ current) in
        let as_left : put b.sectors l.added e (member_slice place n) super_sector ≡ replayed b.sectors e (member_slice place n) super_sector =
        put_none b.sectors l.added e (member_slice place n) super_sector (settled.no_other place other)
        ∙ sym (stands.log.quiet e (stands_of e picks) (member_slice place n) super_sector (ap (gone_in v) (let own : place_of (member_slice place n) ≡ place = omega (arith, few) in own) ∙ now.1)) in
        subst (λ k. super_in (state_after v lost) (put b.sectors l.added e) k place ≡ None) (sym settled.number)
        (super_of_sector (state_after v lost) (put b.sectors l.added e) (replayed b.sectors e) n place as_left
        ∙ marked_super v.state (state_after v lost) (gone_in v) (replayed b.sectors e) n place settled.marks
        ∙ subst (λ k. super_in v.state (replayed b.sectors e) k place ≡ None) settled.number
        ((holds_of (book_with v book_number g) v p vals b stands n live low).alone (replayed b.sectors e) (e, picks, λ i t. refl) place now.0 other))

    restated : IsRestated lost (λ k. (v.arrays k).truth.events) (book_with v book_number g) v n l.added b
    restated =
        let at = stands.arrays n live low in
        let one = run.arrays n low in
        let held = stands_shape (book_with v book_number g) v p vals b stands n live low in
        let offset : (v.arrays n).truth.resync_offset ≡ left_offset (g n) =
        settles.offset n (subst (λ (s : State). n < s.made) (sym same) low) (subst (λ (s : State). n < s.made) (sym same) low) ∙ one.left in
        record {
          few = at.few;
          number = at.book_number;
          restates = restates_for p v.state (state_after v lost) (gone_in v) (v.arrays n) l.added b n settled alone held.open_left held.even;
          settled = settled.settled;
          unmarked = settled.unmarked;
          shape = marked_shape (book_with v book_number g) v lost b commit.marking.set run commit.marking.lost_is commit.marking.noted n low (v.arrays n).truth.events;
          fields =
              sym (ap (λ (t : Super). record t { events = (v.arrays n).truth.events; resync_offset = (v.arrays n).truth.resync_offset }) at.truth.fields)
              ∙ ap (λ o. record (array_fields (g n).truth) { events = (v.arrays n).truth.events; resync_offset = o }) offset;
          same_number = at.number;
          disks = at.disks;
          roles = at.roles;
          resync = one.only.same.resync;
          young = one.only.same.young;
          rows = λ old. let e = (commit.marking.staged.each n low).unmarked.rows old in omega (arith, e);
        }

  abbrev after_it : Raid
  after_it = raid_after v lost (next_number l.number) f

  commit_makes : (vals : ℕ → ℕ → Values) → Makes (failed lost (λ k. (v.arrays k).truth.events) ∷ []) (book_with v book_number g) u (raid_after v lost (next_number l.number) f) vals vals a c
  commit_makes vals =
      mark_makes v book_number g (λ k. (v.arrays k).truth.events) lost on gone l xs f b c commit u vals a (settles.makes (book_with v book_number g) vals same)
      (λ p promised mid first stands n live low. restated p vals promised mid first stands n live low)

  book_losses : (AreMarked u → ⊥) → MakesLosses (book_with v book_number g) u (raid_after v lost (next_number l.number) f) a c
  book_losses some = record {
    changes = failed lost (λ k. (v.arrays k).truth.events) ∷ [];
    losses = (tt, tt);
    makes = commit_makes;
    run = run_marked (book_with v book_number g) v after_it lost (λ k. (v.arrays k).truth.events) b commit.marking.set run commit.marking.lost_is commit.marking.noted refl
        (λ n low. only_gone (v.arrays n) (f n) gone (commit.marking.set.arrays n low).is_array (commit.arrays n low))
        (λ n low. ap left_offset (commit.arrays n low));
    none = λ are. absurd (some are);
  }

-- The arrays are settled and one commit marks whoever went: this change is made of each book that the run has.
pub commit_losses : (d u v : Raid) (lost on gone : List ℕ) (l : LogView) (xs : List Target) (f : ℕ → View) (a b c : RackView) → IsCommit v lost on gone l xs f b c → IsRunOf d v
    → SettlesBook u v u.state.made a b → u.state ≡ v.state → (AreMarked u → ⊥) → MakesLosses d u (raid_after v lost (next_number l.number) f) a c
commit_losses d u v lost on gone l xs f a b c commit run settles same some =
    let whole : book_with v d.number d.arrays ≡ d = λ i. record { state = run.same i; arrays = d.arrays; number = d.number } in
    subst (λ (e : Raid). MakesLosses e u (raid_after v lost (next_number l.number) f) a c) whole
    (book_losses u v d.number d.arrays lost on gone l xs f a b c commit (subst (λ (e : Raid). IsRunOf e v) (sym whole) run) settles same some)

-- Where nobody is left, the marks are in the run alone: nothing is promised of it any more.
pub empty_losses : (d u v : Raid) (lost : List ℕ) (a b : RackView) → IsSet v b → IsRunOf d v → SettlesBook u v u.state.made a b → u.state ≡ v.state
    → ((p : ℕ) → names lost p ≡ (is_current v.state p && gone_in v p)) → ((n p : ℕ) → n < v.state.made → names lost p ≡ true → has_gone (v.arrays n) p ≡ true)
    → ((p : ℕ) → is_current (state_after v lost) p ≡ false) → (AreMarked u → ⊥) → MakesLosses d u (record v { state = state_after v lost }) a b
empty_losses d u v lost a b set run settles same lost_is noted nobody some = record {
  changes = failed lost (λ k. (v.arrays k).truth.events) ∷ [];
  losses = (tt, tt);
  makes = λ vals.
      over_makes (failed lost (λ k. (v.arrays k).truth.events) ∷ []) d u (record v { state = state_after v lost }) vals a b (tt, tt) (settles.makes d vals (same ∙ run.same)).stays
      (ap (λ (s : State). s.made) (same ∙ run.same)) (ap (λ (s : State). s.made) (sym same)) over;
  run = run_marked d v (record v { state = state_after v lost }) lost (λ k. (v.arrays k).truth.events) b set run lost_is noted refl (λ n low. only_same (v.arrays n) (v.arrays n) refl) (λ n low. refl);
  none = λ are. absurd (some are);
}
  where
    over : (n : ℕ) → is_failed (record v { state = state_after v lost }) n ≡ false → ⊥
    over n goes = let left = someone_left (record v { state = state_after v lost }) n goes in both_ways (is_current (state_after v lost) left.0) (nobody left.0) left.1

-- ---- calls that make none

-- losses that are noted before arrays are settled
pub settles_behind : (t u v : Raid) (k : ℕ) (a b c : RackView) → t.state ≡ u.state → ((d : Raid) (vals : ℕ → ℕ → Values) → t.state ≡ d.state → Makes [] d t u vals vals a b)
    → ((n : ℕ) → n < t.state.made → left_offset (u.arrays n) ≡ left_offset (t.arrays n)) → SettlesBook u v k b c → SettlesBook t v k a c
settles_behind t u v k a b c state early left settles = record {
  makes = λ d vals same. makes_then [] [] d t u v vals vals vals a b c (early d vals same) (settles.makes d vals (sym state ∙ same));
  settled = λ d vals p same promised stands n live low below.
      let mid = (settles.makes d vals (sym state ∙ same)).back p (suits_none p d) promised in
      settles.settled d vals p (sym state ∙ same) promised ((early d vals same).after p (suits_none p d) mid stands) n live low below;
  left = λ n low. settles.left n (subst (λ (s : State). n < s.made) state low) ∙ left n low;
  offset = λ n low below. settles.offset n (subst (λ (s : State). n < s.made) state low) below;
}

-- somebody else went while they were settled, and nothing is committed
pub early_losses : (d u v : Raid) (k : ℕ) (a b : RackView) → IsRunOf d v → u.state ≡ v.state → SettlesBook u v k a b → MakesLosses d u v a b
early_losses d u v k a b run same settles = record {
  changes = [];
  losses = tt;
  makes = λ vals. settles.makes d vals (same ∙ run.same);
  run = run;
  none = λ are. refl;
}

-- nothing is called
pub no_losses : (d v : Raid) (x : RackView) → x.fit → IsRunOf d v → MakesLosses d v v x x
no_losses d v x fit run = record {
  changes = [];
  losses = tt;
  makes = λ vals. record {
    due = tt;
    stays = stays_same x fit;
    back = λ p suits promised. promised;
    grows = λ n y u may. may;
    stops = λ p suits promised stands traced. leaves_same x (λ c. IsInside x.sectors c → HoldsBook d p vals x.sectors c);
    after = λ p suits promised stands. stands;
  };
  run = run;
  none = λ are. refl;
}

-- ---- turns in a row

losses_joined : (xs ys : List Change) → AreLosses xs → AreLosses ys → AreLosses (xs ++ ys)
losses_joined [] ys one two = two
losses_joined (x ∷ xs) ys one two = (one.0, losses_joined xs ys one.1 two)

pub losses_then : (d v w z : Raid) (a b c : RackView) (one : MakesLosses d v w a b) → MakesLosses (by one.changes d) w z b c → (AreMarked v → AreMarked w) → MakesLosses d v z a c
losses_then d v w z a b c one two still = record {
  changes = one.changes ++ two.changes;
  losses = losses_joined one.changes two.changes one.losses two.losses;
  makes = λ vals. makes_then one.changes two.changes d v w z vals vals vals a b c (one.makes vals) (two.makes vals);
  run = subst (λ (e : Raid). IsRunOf e z) (sym (by_joined one.changes two.changes d)) two.run;
  none = λ are. ap₂ (λ (xs ys : List Change). xs ++ ys) (one.none are) (two.none (still are));
}

-- and then nobody counts as gone
pub losses_heeded : (d v w : Raid) (f : ℕ → View) (a b : RackView) → b.fit → MakesLosses d v w a b → AreMarked w → ((n : ℕ) → n < w.state.made → f n ≡ heeded (w.arrays n))
    → MakesLosses d v (with_arrays w f) a b
losses_heeded d v w f a b fit one are arrays =
    let e : Raid = by one.changes d in
    losses_then d v w (with_arrays w f) a b b one
    (record {
      changes = [];
      losses = tt;
      makes = λ vals. heeded_makes e w f b fit arrays are one.run.same vals;
      run = run_loses e w (with_arrays w f) refl (λ n low. only_heeded (w.arrays n) (f n) (arrays n low)) (λ n low. ap left_offset (arrays n low)) one.run;
      none = λ marked. refl;
    })
    (λ marked. are)
