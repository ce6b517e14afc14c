-- The commit that makes a young array: what shows a book shows it with one array more, of which no sector is promised yet.
use Rattle.transition_laws.proofs.ArraysFor.{single_lowered, restates_for}
use Rattle.std.proofs.Common.{◌≡◌, ℕ, ◌+◌, ◌<◌, Bool, true, false, ◌&&◌, not, nat_lt, if◌then◌else◌, List, ◌∷◌, length, Some, None, refl, sym, ap, subst, ◌∙◌, inl, inr, eq-eqb, ne_eqb, le-ltb, arith, ◌||◌, []}
use Rattle.std.proofs.lemmas.Bool.{both_ways, cases_Bool}
use Rattle.rack.specs.Values.{Values}
use Rattle.rack.specs.Seen.{Image, RackView}
use Rattle.rack.specs.Targets.{look, put, Target}
use Rattle.md_super.specs.declared.superblock.Super.{Super}
use Rattle.pool_state.specs.declared.contents.State.{State}
use Rattle.raid_map.specs.LeftSymmetric.{row_at}
use Rattle.array_image.specs.Arrays.{first_layout, Member, replayed, Shape, shape_by, shape_in}
use Rattle.array_image.specs.Held.{Among, IsSynced}
use Rattle.array_image.specs.Left.{Picks}
use Rattle.array_image.specs.Marks.{lowered}
use Rattle.array_image.specs.Places.{member_slice, super_sector}
use Rattle.array_image.specs.SoundArray.{first_unsynced, IsSoundArray}
use Rattle.array_image.specs.States.{current_places, is_current}
use Rattle.array_image.specs.Stripes.{capacity, sector_in}
use Rattle.array_image.specs.Supers.{super_in, truth_in}
use Rattle.array_image.proofs.Marked.{among_lowered}
use Rattle.array_model.specs.Says.{IsOpen, HasNoOthers}
use Rattle.array_model.specs.View.{IsArray, may_vary, present, shape_of, View}
use Rattle.array_model.proofs.Keeping.{KeepsData, open_after, settled_kept}
use Rattle.array_model.proofs.Losses.{IsLosing}
use Rattle.array_core.specs.Seats.{gone as without}
use Rattle.log_laws.specs.View.{LogView, names}
use Rattle.log_laws.proofs.Kept.{put_none}
use Rattle.raid_laws.specs.Marking.{Restates}
use Rattle.raid_laws.specs.Missing.{raised}
use Rattle.raid_laws.specs.Moves.{AreMarked}
use Rattle.raid_laws.specs.Raid.{AreLive, gone_in, Raid}
use Rattle.raid_laws.proofs.Marking.{closed_after, data_kept, MarksCall, still_after}
use Rattle.raid_laws.proofs.Over.{member_left}
use Rattle.raid_laws.proofs.Restated.{IsStaged}
use Rattle.raid_laws.proofs.Seated.{gone_fewer, gone_losing, names_joined, none_listed}
use Rattle.transition_laws.specs.Changes.{changed, makes}
use Rattle.transition_laws.specs.Holds.{has_sector, HoldsMembers, IsPromised, IsSameArrayAs, moved_to, Promise, RestsArray, spent_at, Stands, StandsArray, rows_for}
use Rattle.transition_laws.specs.Makes.{Makes, Suits}
use Rattle.transition_laws.specs.Making.{FitsMake}
use Rattle.transition_laws.specs.Stages.{Commits, Stages, StagesArray, StagesNew}
use Rattle.transition_laws.proofs.Closed.{idle_agrees}
use Rattle.transition_laws.proofs.CommitMakes.{commit_called, commit_makes, lowered_none}
use Rattle.transition_laws.proofs.Shown.{rests_same}

-- the state with one array more
abbrev pub with_made : State → State
with_made s = record s { epoch = raised s.epoch; made = s.made + 1 }

-- ---- the arrays that there were

truth_made : (s : State) (r : Image) (n : ℕ) → truth_in (with_made s) r n ≡ truth_in s r n
unfolding truth_in current_places
truth_made s r n = refl

shape_made : (s : State) (r : Image) (n : ℕ) → shape_in (with_made s) r n ≡ shape_in s r n
unfolding truth_in current_places shape_by
shape_made s r n = refl

super_made : (s : State) (r : Image) (n p : ℕ) → super_in (with_made s) r n p ≡ super_in s r n p
super_made s r n p = refl

sound_made : (s : State) (r : Image) (n : ℕ) (u : Super) → IsSoundArray s r n u → IsSoundArray (with_made s) r n u
sound_made s r n u sound = record {
  two = sound.two;
  written = sound.written;
  same = sound.same;
  rebuilt = sound.rebuilt;
  even = λ joined shape is. sound.even joined shape (sym (shape_made s r n) ∙ is);
}

rests_made : (s : State) (u : View) (p : Promise) (n : ℕ) (vals : ℕ → Values) (r : Image) → RestsArray s u p n vals r → RestsArray (with_made s) u p n vals r
rests_made s u p n vals r shows =
    let was : (t : Super) → truth_in (with_made s) r n ≡ Some t → truth_in s r n ≡ Some t = λ t is. sym (truth_made s r n) ∙ is in
    record {
      shows = record {
        rows = λ old kept t is. shows.shows.rows old kept t (was t is);
        lacks = λ old wanted some t is. shows.shows.lacks old wanted some t (was t is);
        says = record {
          shape_is = shape_made s r n ∙ shows.shows.says.shape_is;
          value = shows.shows.says.value;
          is_sound = λ t is. sound_made s r n t (shows.shows.says.is_sound t (was t is));
        };
      };
      truth = λ t is. shows.truth t (was t is);
      mark = λ marked t is. shows.mark marked t (was t is);
      alone = λ place current other. super_made s r u.number place ∙ shows.alone place current other;
    }

-- ---- the new one

-- A young array that comes by a commit with its superblocks: none of its rows is zeroed.
pub record IsComing (v w : Raid) (next : View) (gone : List ℕ) (xs : List Target) (a : RackView) : Type 0 where
  pub few : v.state.made < 16
  pub number : next.number ≡ v.state.made
  pub young : next.young ≡ true
  pub unmarked : next.marked ≡ false
  pub went : next.went ≡ []
  pub none : first_unsynced next.truth ≡ 0
  pub is_array : IsArray next
  pub is_open : AreLive v.state.made a → IsOpen (shape_of next) v.state.made a
  pub after : w.arrays v.state.made ≡ without gone next
  pub called : (q : ℕ) → names gone q ≡ true → q < 16
  pub heeded : (q : ℕ) → is_current v.state q ≡ true → gone_in v q ≡ false
  pub staged : 0 < present next.seats → IsStaged v.state (with_made v.state) (gone_in v) next xs a v.state.made
  pub others : (n place u : ℕ) → n < v.state.made → look xs (member_slice place n) u ≡ None
  pub fits : FitsMake v.state v.state.made next a

and_none : (a b : Bool) → b ≡ false → (a && b) ≡ false
and_none true b is = is
and_none false b is = refl

module _ (v w : Raid) (next : View) (l : LogView) (on gone : List ℕ) (vals : ℕ → ℕ → Values) (a b : RackView) (commit : Commits (makes next) v v w l on gone a b)
    (coming : IsComing v w next gone l.added a) (p : Promise) (suits : Suits p (makes next ∷ []) v) (promised : IsPromised p w) (stands : Stands v v p vals a) (live : p.live v.state.made ≡ true) where
  abbrev N : ℕ
  N = v.state.made

  -- a member of it is left
  staged : IsStaged v.state (with_made v.state) (gone_in v) next l.added a v.state.made
  staged =
      coming.staged
      (let some = member_left w v.state.made (promised.goes v.state.made live (subst (λ (s : State). v.state.made < s.made) (sym commit.state) (omega arith))) in
      let fewer = gone_fewer next gone coming.is_array in
      let same = ap (λ (u : View). present u.seats) coming.after in
      omega (arith, some, fewer, same))

  growing : p.growing ≡ true
  growing = elim suits.growing [ inl is ↦ is | inr keeping ↦ absurd keeping.0 ]

  -- none of its rows is zeroed
  none_zeroed : rows_for p next ≡ 0
  none_zeroed = (λ i. if growing i && coming.young i then first_unsynced next.truth else next.resync) ∙ coming.none

  -- it has no sector yet
  spent : (y : ℕ) → spent_at p v.state.made next y ≡ true
  spent y =
      let none : has_sector next y ≡ false =
      and_none (nat_lt y (capacity (first_layout next.truth) next.truth.size) || nat_lt y (moved_to next.truth)) (not next.young || nat_lt (row_at (sector_in (first_layout next.truth) y)) (first_unsynced next.truth))
      (ap (λ b. not b || nat_lt (row_at (sector_in (first_layout next.truth) y)) (first_unsynced next.truth)) coming.young
      ∙ le-ltb (row_at (sector_in (first_layout next.truth) y)) (first_unsynced next.truth) (let zero = coming.none in omega (arith, zero))) in
      ap (λ g. (g && not (has_sector next y)) || p.spent v.state.made y) growing ∙ ap (λ h. not h || p.spent v.state.made y) none

  -- nothing of it is left to be said
  alive_none : {X : Type 0} (y : ℕ) → spent_at p v.state.made next y ≡ false → X
  alive_none y alive = absurd (both_ways (spent_at p v.state.made next y) alive (spent y))

  -- no other current place has a superblock of it
  alone : (c : Image) → Picks a c → HasNoOthers next (with_made v.state) (put a.sectors l.added c)
  alone c picks place current other =
      let d = member_slice place next.number in
      let unwritten : look l.added d super_sector ≡ None = subst (λ k. look l.added (member_slice place k) super_sector ≡ None) (sym coming.number) (staged.no_other place other) in
      super_alike next.number place (put a.sectors l.added c) c (put_none a.sectors l.added c d super_sector unwritten) ∙ coming.fits.alone c picks place current other
    where
      super_alike : (k q : ℕ) (e f : Image) → e (member_slice q k) super_sector ≡ f (member_slice q k) super_sector → super_in (with_made v.state) e k q ≡ super_in v.state f k q
      super_alike k q e f same = ap (λ sector. super_in v.state (λ d t. sector) k q) same

  open_before : IsOpen (shape_of next) v.state.made a
  open_before = coming.is_open stands.slices

  restates : Restates (with_made v.state) (shape_of next) false next l.added a v.state.made
  restates =
      restates_for p v.state (with_made v.state) (gone_in v) next l.added a v.state.made staged alone open_before (λ y inside row counts. absurd (omega (arith, row, none_zeroed)))

  shows : (c : Image) → Picks a c → RestsArray (with_made v.state) next p v.state.made (vals v.state.made) (put a.sectors l.added c)
  shows c picks = record {
    shows = record {
      says = record {
        shape_is = restates.shape_is c picks;
        value = λ y alive. alive_none y alive;
        is_sound = λ t is. restates.sound c picks t is;
      };
      rows = λ old kept t is. absurd (both_ways next.young old coming.young);
      lacks = λ old wanted some t is. absurd (both_ways next.young old coming.young);
    };
    truth = λ t is.
        let same = restates.truth c picks t is in
        record { fields = ap (λ (u : Super). record u { events = 0; resync_offset = 0 }) same; events = let e = ap (λ (u : Super). u.events) same in omega (arith, e) };
    mark = λ marked. absurd (both_ways next.marked coming.unmarked marked);
    alone = λ place current other. restates.alone c picks place current other;
  }

  -- ---- after the commit

  call : MarksCall v.state (with_made v.state) (gone_in v) l on gone a b
  call = commit_called (makes next) v v w vals l on gone a b commit p promised stands

  losing : IsLosing next (without gone next) (names gone)
  losing = gone_losing next gone coming.is_array (λ none. coming.went)

  keeps : KeepsData (shape_of next) v.state.made a.held b.held
  keeps = data_kept v.state (with_made v.state) (shape_of next) (gone_in v) l on gone a b v.state.made coming.few call open_before

  is_open : IsOpen (shape_of next) v.state.made b
  is_open = open_after commit.lasting commit.call.stays (shape_of next) v.state.made open_before

  among : (m : Member) (sector : ℕ) → Among m (lowered (names gone) (shape_of next)).members → sector < m.reach → Among m (shape_of next).members
  among m sector is counts = among_lowered (names gone) sector (shape_of next).members m is counts

  members : HoldsMembers v.state.made (shape_of next) (lowered (names gone) (shape_of next)) (rows_for p next) (may_vary (without gone next)) (vals v.state.made) (spent_at p v.state.made next) b
  members =
      let synced = settled_kept a.held b.held (shape_of next) v.state.made keeps coming.fits.synced in
      record {
        open_slices = is_open;
        open_left = λ m sector is counts. is_open m sector (among m sector is counts) counts;
        still = λ c picks m sector is counts. still_after v.state (with_made v.state) (gone_in v) l on gone a b v.state.made m.place sector c coming.few call picks;
        within = λ y alive. alive_none y alive;
        current = λ y alive. alive_none y alive;
        sized = λ m sector is counts. ap length (keeps m sector (among m sector is counts) counts).current ∙ coming.fits.sized m sector (among m sector is counts) counts;
        even = λ y inside row. absurd (omega (arith, row, none_zeroed));
        settled = λ steady m sector is counts. synced m sector (among m sector is counts) counts;
      }

  nobody : (without gone next).went ≡ [] → gone ≡ []
  nobody none =
      none_listed gone
      (λ q. elim (cases_Bool (names gone q)) [
        | inl is ↦ absurd (both_ways (names (without gone next).went q) (ap (λ ps. names ps q) none) (names_joined next.went gone q (coming.called q is) ∙ or_last (names next.went q) (names gone q) is))
        | inr other ↦ other
      ])
    where
      or_last : (c d : Bool) → d ≡ true → (c || d) ≡ true
      or_last true d is = refl
      or_last false d is = is

  stands_new : StandsArray next (without gone next) v.state.made (vals v.state.made) p b
  stands_new = record {
    number = coming.number;
    book_number = coming.number;
    few = coming.few;
    written = coming.fits.written;
    members = subst (λ (sh : Shape). HoldsMembers v.state.made (shape_of next) sh (rows_for p next) (may_vary (without gone next)) (vals v.state.made) (spent_at p v.state.made next) b) (sym losing.shape) members;
    single = λ young.
        subst (λ (sh : Shape). IsSynced sh v.state.made b.held) (sym losing.shape)
        (single_lowered (names gone) (shape_of next) v.state.made b.held (settled_kept a.held b.held (shape_of next) v.state.made keeps coming.fits.synced));
    closed = λ none. closed_after v.state (with_made v.state) (gone_in v) l on gone a b v.state.made call (nobody none);
    truth = record { fields = refl; events = omega arith };
    mark = λ marked. marked;
    roles = refl;
    disks = refl;
    sectors = λ y. refl;
  }

  same_new : AreMarked w → IsSameArrayAs next (without gone next)
  same_new are =
      let stay = (commit.marked p.one stands.one are).1 in
      let left : names gone ≡ (λ q. false) = λ i q. stay q i in
      record { shape = losing.shape ∙ ap (λ g. lowered g (shape_of next)) left ∙ lowered_none (shape_of next); frame = refl; resync = refl; young = refl }

  own : (changed (makes next) v).arrays v.state.made ≡ next
  own = ap (λ (t : Bool). if t then next else v.arrays v.state.made) (eq-eqb v.state.made v.state.made refl)

  new : StagesNew (makes next) v w p v.state.made (vals v.state.made) l.added a b
  new = record {
    few = coming.few;
    number = ap (λ (u : View). u.number) own ∙ coming.number;
    shows = λ c picks. subst (λ (u : View). RestsArray (with_made v.state) u p v.state.made (vals v.state.made) (put a.sectors l.added c)) (sym own) (shows c picks);
    stands = subst (λ (u : View). StandsArray u (w.arrays v.state.made) v.state.made (vals v.state.made) p b) (sym own)
        (subst (λ (z : View). StandsArray next z v.state.made (vals v.state.made) p b) (sym coming.after) stands_new);
    same = λ are. subst (λ (u : View). IsSameArrayAs u (w.arrays v.state.made)) (sym own) (subst (IsSameArrayAs next) (sym coming.after) (same_new are));
  }

-- what the commit owes
stages_made : (v w : Raid) (next : View) (l : LogView) (on gone : List ℕ) (vals : ℕ → ℕ → Values) (a b : RackView) → Commits (makes next) v v w l on gone a b
    → IsComing v w next gone l.added a → (p : Promise) → Suits p (makes next ∷ []) v → Stages (makes next) v v w p vals l.added a b
stages_made v w next l on gone vals a b commit coming p suits = record {
  new = λ promised stands n live high low.
      subst (λ k. StagesNew (makes next) v w p k (vals k) l.added a b) (let same : v.state.made ≡ n = omega (arith, high, low) in same)
      (new v w next l on gone vals a b commit coming p suits promised stands (subst (λ k. p.live k ≡ true) (let same : n ≡ v.state.made = omega (arith, high, low) in same) live));
  old = λ promised stands n live low.
      let u = v.arrays n in
      let at = stands.arrays n live low in
      let same : (changed (makes next) v).arrays n ≡ v.arrays n =
      ap (λ (t : Bool). if t then next else v.arrays n) (ne_eqb n v.state.made (λ is. omega (arith, is, low))) in
      let old : StagesArray v.state (with_made v.state) u u v p n (vals n) l.added a = record {
        shows = λ c picks shows.
            rests_made v.state u p n (vals n) (put a.sectors l.added c)
            (rests_same v.state u p n (vals n) (put a.sectors l.added c) (replayed a.sectors c)
            (idle_agrees v v p vals l.added a n c stands coming.heeded (λ place t. coming.others n place t low) picks) at.book_number shows);
        number = at.book_number;
        shape = inl refl;
        truth = at.truth;
        mark = at.mark;
        same = λ marked. record { shape = refl; frame = refl; resync = refl; young = refl };
        roles = at.roles;
        disks = at.disks;
        sectors = at.sectors;
      } in
      subst (λ z. StagesArray v.state (with_made v.state) u z v p n (vals n) l.added a) (sym same) old;
}

pub made_makes : (v w : Raid) (next : View) (l : LogView) (on gone : List ℕ) (vals : ℕ → ℕ → Values) (a b : RackView) → Commits (makes next) v v w l on gone a b
    → IsComing v w next gone l.added a → Makes (makes next ∷ []) v v w vals vals a b
made_makes v w next l on gone vals a b commit coming = commit_makes (makes next) v v w vals l on gone a b commit (stages_made v w next l on gone vals a b commit coming)
