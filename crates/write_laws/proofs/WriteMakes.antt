-- A write of one array makes its changes of the book.
use Rattle.std.proofs.Common.{◌≡◌, ◌≢◌, ◌⊎◌, ℕ, ◌<◌, Bool, true, false, ◌==◌, ◌&&◌, ◌||◌, not, if◌then◌else◌, List, [], ◌∷◌, None, Some, unwrap_or, refl, sym, ap, subst, ◌∙◌, inl, inr, eq-eqb, ne_eqb, arith}
use Rattle.std.proofs.lemmas.Bool.{both_ways, cases_Bool, cases_eq}
use Rattle.rack.specs.Values.{append, MayLeave, Values}
use Rattle.rack.specs.Seen.{Image, RackView}
use Rattle.rack.specs.Moments.{Leaves}
use Rattle.rack.specs.Joins.{leaves_weaker, may_leave-append}
use Rattle.md_super.specs.declared.superblock.Super.{Super}
use Rattle.array_image.specs.Arrays.{place_with, replayed, Shape}
use Rattle.array_image.specs.Left.{NothingPending, IsInside, IsLeft}
use Rattle.array_image.specs.Places.{member_slice}
use Rattle.array_image.specs.SoundArray.{first_unsynced}
use Rattle.array_image.specs.Supers.{super_in, truth_in}
use Rattle.log_laws.specs.Kept.{LogInvariant}
use Rattle.log_laws.proofs.KeptAfter.{kept_more}
use Rattle.array_model.specs.ArrayCalls.{appended_at, ArrayCall, ImageInCall, IncludesSpent}
use Rattle.array_model.specs.Members.{Notes}
use Rattle.array_model.specs.Says.{ArrayInvariant, IsEarlier, ImageShowsArray}
use Rattle.array_model.specs.View.{has_gone, is_whole_array, may_vary, shape_of, View}
use Rattle.array_model.proofs.Moves.{CallRefines as CallMoves}
use Rattle.array_core.specs.Contents.{lacking_in}
use Rattle.array_core.specs.Pool.{MayCommit}
use Rattle.array_core.specs.TruthLeft.{HasTruthOf}
use Rattle.array_core.specs.Writing.{WritesView, as_it_was, newly_marked}
use Rattle.raid_laws.specs.Frames.{frame_of}
use Rattle.raid_laws.specs.Moves.{AreMarked, IsSet}
use Rattle.raid_laws.specs.Raid.{gone_in, Raid}
use Rattle.raid_laws.proofs.Changed.{called, further}
use Rattle.raid_laws.proofs.LackingRows.{whole_lacks}
use Rattle.raid_laws.proofs.Noted.{gone_from}
use Rattle.raid_laws.proofs.Over.{over_still, someone_left}
use Rattle.raid_laws.proofs.Whole.{heeded_gone}
use Rattle.raid_laws.proofs.Written.{may_commit, WriteCall}
use Rattle.transition_laws.specs.Changes.{Change, soil, steps, with_view, wrote}
use Rattle.transition_laws.specs.Holds.{has_sector, HoldsBook, HoldsMembers, IsPromised, IsSameArrayAs, is_sector, moved_to, Promise, RestsArray, rows_for, ShowsArray, spent_at, Stands, StandsArray}
use Rattle.transition_laws.specs.Makes.{HoldsAlong, Makes}
use Rattle.transition_laws.proofs.ArraysFor.{grown_for, members_grown}
use Rattle.transition_laws.proofs.Shown.{leaves_both, rests_same, spent_other, spent_same}
use Rattle.transition_laws.proofs.Standing.{holds_grown}
use Rattle.transition_laws.proofs.SteppedMakes.{framed_sectors}
use Rattle.transition_laws.proofs.TurnMakes.{same_view, turn_after, turn_makes, turn_stops, Turning, TurnsOne}
use Rattle.write_laws.specs.Writes.{marks_first, values_with, with_mark, writing}

-- An array u of a book, which isn't young, is `next` after a write, where w is seen: it has other events and rows that its superblocks leave, and another
-- mark; and members that went are noted.
pub record WritesAs (u next w : View) (a b : RackView) : Type 0 where
  pub grown : u.young ≡ false
  pub number : next.number ≡ u.number
  pub shape : shape_of next ≡ shape_of u
  pub resync : next.resync ≡ u.resync
  pub young : next.young ≡ u.young
  pub sectors : (y : ℕ) → has_sector next y ≡ has_sector u y
  pub notes : Notes next w a b

or_first : (b c : Bool) → b ≡ true → (b || c) ≡ true
or_first true c is = refl
or_first false c is = absurd (both_ways false refl is)

or_second : (b c : Bool) → c ≡ true → (b || c) ≡ true
or_second true c is = refl
or_second false c is = is

module _ (v : Raid) (f : ℕ → View) (number m : ℕ) (a b : RackView) (on : List ℕ) (sector : ℕ) (from : List ℕ) (set : IsSet v a) (call : WriteCall v f number m a b on sector from)
    (next : View) (becomes : WritesAs (v.arrays m) next (f m) a b) (vals now : ℕ → ℕ → Values) (now_is : now ≡ values_with m sector from vals) where
  low : m < v.state.made
  low = call.views.low

  number_is : (v.arrays m).number ≡ m
  number_is = (set.arrays m low).number

  next_number : next.number ≡ m
  next_number = becomes.number ∙ number_is

  number_after : (f m).number ≡ m
  number_after = becomes.notes.same.number ∙ next_number

  grown_after : (p : Promise) → (p.growing && (f m).young) ≡ false
  grown_after p = grown_for p (f m) (becomes.notes.same.young ∙ becomes.young ∙ becomes.grown)

  sectors_after : (y : ℕ) → has_sector (f m) y ≡ has_sector next y
  sectors_after y =
      let same = becomes.notes.same in
      λ i. is_sector (frame_of (same.truth i)) (moved_to (same.truth i)) (same.young i) (first_unsynced (same.truth i)) y

  own_values : appended_at sector from (vals m) ≡ now m
  own_values =
      sym (ap (λ (h : ℕ → ℕ → Values). h m) now_is ∙ ap (λ (t : Bool). if t then appended_at sector from (vals m) else vals m) (eq-eqb m m refl))

  other_values : (n : ℕ) → (n ≡ m → ⊥) → now n ≡ vals n
  other_values n other =
      ap (λ (h : ℕ → ℕ → Values). h n) now_is ∙ ap (λ (t : Bool). if t then appended_at sector from (vals n) else vals n) (ne_eqb n m other)

  grows : (n y : ℕ) (x : List ℕ) → MayLeave (vals n y) x → MayLeave (now n y) x
  grows n y x may = subst (λ (h : ℕ → ℕ → Values). MayLeave (h n y) x) (sym now_is) (of (n == m) (y == sector))
    where
      of : (s t : Bool) → MayLeave ((if s then (λ z. if z == sector then append (vals n z) from else vals n z) else vals n) y) x
      of false t = may
      of true t = at (y == sector)
        where
          at : (d : Bool) → MayLeave (if d then append (vals n y) from else vals n y) x
          at true = may_leave-append (vals n y) from x may
          at false = may

  module _ (p : Promise) (promised : IsPromised p (called v f number)) (stands : Stands v v p vals a) where
    may : MayCommit v.state (v.arrays m) (f m) v.number on a
    may =
        may_commit v f number m p.one a b on set call.heeded call.views call.later call.on_is stands.one (promised.goes p.one promised.is_one stands.one) stands.slices
        (subst (λ g. LogInvariant v.state v.number g a) (λ i q. heeded_gone v call.heeded q i) stands.log)

    kept : LogInvariant v.state number (gone_in (called v f number)) b
    kept = kept_more v.state number (has_gone (f m)) (gone_in (called v f number)) b (λ q is. gone_from (called v f number) q m (call.few q is) low is) (call.kept may)

    abbrev Before : (ℕ → Bool) → Type 0
    Before spent = ArrayInvariant v.state (shape_of (v.arrays m)) (v.arrays m) (vals m) spent a

    abbrev After : (ℕ → Bool) → Type 0
    After spent = ArrayInvariant v.state (shape_of (v.arrays m)) (f m) (now m) spent b

    -- an array that isn't whole keeps its truth
    abbrev KeepsTruth : Image → Type 0
    KeepsTruth r = is_whole_array (v.arrays m) ≡ false → HasTruthOf v.state m a (λ t. ⊥) r

    acts : (spent : ℕ → Bool) → IncludesSpent (f m) spent
        → ArrayCall v.state (v.arrays m) (f m) spent a b (shape_of (v.arrays m)) (vals m) (ImageShowsArray v.state (v.arrays m).number (shape_of (v.arrays m)) (now m) spent)
        (shape_of (v.arrays m)) (now m)
    acts spent covers =
        subst (λ (h : ℕ → Values). ArrayCall v.state (v.arrays m) (f m) spent a b (shape_of (v.arrays m)) (vals m) (ImageShowsArray v.state (v.arrays m).number (shape_of (v.arrays m)) h spent) (shape_of (v.arrays m)) h)
        own_values (call.writes (vals m) spent covers may)

    truths : (spent : ℕ → Bool) → IncludesSpent (f m) spent → a.traced
        → Leaves a b (λ c. IsInside a.sectors c → Before spent → KeepsTruth (replayed a.sectors c))
    truths spent covers traced =
        let Goal : Image → Type 0 = λ c. IsInside a.sectors c → Before spent → KeepsTruth (replayed a.sectors c) in
        elim (cases_Bool (is_whole_array (v.arrays m))) [
          | inl whole ↦
              leaves_weaker
              (λ c. IsInside a.sectors c → ImageInCall (v.arrays m).number a b (λ r. Before spent → ImageShowsArray v.state (v.arrays m).number (shape_of (v.arrays m)) (now m) spent r) c)
              Goal (λ c turn inside holds part. absurd (both_ways (is_whole_array (v.arrays m)) part whole)) ((acts spent covers).leaves traced)
          | inr part ↦
              leaves_weaker (λ c. IsInside a.sectors c → Before spent → HasTruthOf v.state (v.arrays m).number a (λ t. ⊥) (replayed a.sectors c))
              Goal (λ c has inside holds is. subst (λ k. HasTruthOf v.state k a (λ t. ⊥) (replayed a.sectors c)) number_is (has inside holds))
              ((call.truths (vals m) spent covers may part).leaves traced)
        ]

    truth_after : (spent : ℕ → Bool) → IncludesSpent (f m) spent → Before spent → (r : Image) → IsLeft b r → KeepsTruth r
    truth_after spent covers holds r left part =
        subst (λ k. HasTruthOf v.state k a (λ t. ⊥) r) number_is ((call.truths (vals m) spent covers may part).after holds r left)

    moves : (spent : ℕ → Bool) → IncludesSpent (f m) spent
        → CallMoves m a b (Before spent) (λ r. ImageShowsArray v.state m (shape_of (v.arrays m)) (now m) spent r × KeepsTruth r) (After spent)
    moves spent covers =
        let act = acts spent covers in
        subst (λ k. CallMoves k a b (Before spent) (λ r. ImageShowsArray v.state k (shape_of (v.arrays m)) (now m) spent r × KeepsTruth r) (After spent)) number_is
        (record {
          stays = act.stays;
          leaves = λ traced.
              let First : Image → Type 0 = λ c. IsInside a.sectors c
              → ImageInCall (v.arrays m).number a b (λ r. Before spent → ImageShowsArray v.state (v.arrays m).number (shape_of (v.arrays m)) (now m) spent r) c in
              let Second : Image → Type 0 = λ c. IsInside a.sectors c → Before spent → KeepsTruth (replayed a.sectors c) in
              leaves_weaker (λ c. First c × Second c)
              (λ c. IsInside a.sectors c
              → ImageInCall (v.arrays m).number a b
              (λ r. Before spent → ImageShowsArray v.state (v.arrays m).number (shape_of (v.arrays m)) (now m) spent r × KeepsTruth r) c)
              (λ c both inside.
              let turns = both.0 inside in
              record {
                before = turns.before;
                left = turns.left;
                others = turns.others;
                own = λ holds. (turns.own holds, both.1 inside holds);
                whole = turns.whole;
                calm = turns.calm;
                bounded = turns.bounded;
              })
              (leaves_both First Second (act.leaves traced) (truths spent covers traced));
          holds = act.holds;
          apart = act.apart;
          calm = act.calm;
          bounded = act.bounded;
        })

    module _ (unkept : p.kept m ≡ true → ⊥) (live : p.live m ≡ true) where
      covers : IncludesSpent (f m) (spent_at p m (v.arrays m))
      covers y alive = promised.covers m live low y (spent_other p m (f m) (v.arrays m) (λ z. sectors_after z ∙ becomes.sectors z) y ∙ alive)

      holds : Before (spent_at p m (v.arrays m))
      holds = holds_grown v v p vals a stands m live low (grown_for p (v.arrays m) becomes.grown)

      after : After (spent_at p m (v.arrays m))
      after = (moves (spent_at p m (v.arrays m)) covers).holds holds

      before : (i : Image) → IsLeft a i → RestsArray v.state (v.arrays m) p m (vals m) i
      before i left =
          rests_same v.state (v.arrays m) p m (vals m) i (replayed a.sectors left.0) (λ place t. left.2 (member_slice place m) t) number_is (stands.images left.0 left.1 m live low)

      -- a whole array lacks no member
      shows : (r : Image) → ImageShowsArray v.state m (shape_of (v.arrays m)) (now m) (spent_at p m (v.arrays m)) r → KeepsTruth r → ShowsArray v.state (v.arrays m) p m (now m) r
      shows r says keeps = record {
        says = says;
        rows = λ old is. absurd (unkept is);
        lacks = λ old wanted some t is. elim (cases_Bool (is_whole_array (v.arrays m))) [
          | inl whole ↦ absurd (let whole_of = whole_lacks (v.arrays m) (set.arrays m low).is_array whole in omega (arith, some, whole_of))
          | inr part ↦ elim (keeps part t is) [ inl was ↦ (before was.0 was.1).shows.lacks old wanted some t was.2 | inr new ↦ absurd new ]
        ];
      }

      -- the array after it shows the same
      next_shows : (r : Image) → ShowsArray v.state (v.arrays m) p m (now m) r → ShowsArray v.state next p m (now m) r
      next_shows r it = record {
        says =
            subst (λ (spent : ℕ → Bool). ImageShowsArray v.state m (shape_of next) (now m) spent r) (sym (spent_same p m next (v.arrays m) becomes.sectors))
            (subst (λ (shape : Shape). ImageShowsArray v.state m shape (now m) (spent_at p m (v.arrays m)) r) (sym becomes.shape) it.says);
        rows = λ old is. absurd (unkept is);
        lacks = λ old wanted some t is.
            let least =
            it.lacks (sym becomes.young ∙ old) wanted (subst (λ (shape : Shape). 0 < lacking_in shape) becomes.shape some) t is in
            let same = becomes.resync in
            omega (arith, least, same);
      }

      images : (r : Image) → IsLeft b r → RestsArray v.state next p m (now m) r
      images r left =
          let own : (t : Super) → truth_in v.state r m ≡ Some t → truth_in v.state r (f m).number ≡ Some t = λ t is. subst (λ k. truth_in v.state r k ≡ Some t) (sym number_after) is in
          let same = becomes.notes.same in
          record {
            shows = next_shows r
                (shows r (subst (λ k. ImageShowsArray v.state k (shape_of (v.arrays m)) (now m) (spent_at p m (v.arrays m)) r) number_after (after.shape.says r left))
                (truth_after (spent_at p m (v.arrays m)) covers holds r left));
            truth = λ t is. subst (IsEarlier t) same.truth (after.truth r left t (own t is));
            mark = λ marked t is. after.mark (same.marked ∙ marked) r left t (own t is);
            alone = λ place current other.
                subst (λ k. super_in v.state r k place ≡ None) (number_after ∙ sym next_number)
                (after.alone r left place current
                (λ k few here. other k (subst (λ (t : Super). k < t.raid_disks) same.truth few) (ap (λ (t : Super). unwrap_or (place_with t.roles.items k) 16) (sym same.truth) ∙ here)));
          }

      array : StandsArray next (f m) m (now m) p b
      array =
          let same = becomes.notes.same in
          record {
            number = number_after;
            book_number = next_number;
            few = let most = set.most in let there = low in omega (arith, most, there);
            written = call.views.written (stands.arrays m live low).written;
            members =
                subst (λ (spent : ℕ → Bool). HoldsMembers m (shape_of next) (shape_of (f m)) (rows_for p (f m)) (may_vary (f m)) (now m) spent b)
                (sym (spent_same p m next (v.arrays m) becomes.sectors))
                (subst (λ (shape : Shape). HoldsMembers m shape (shape_of (f m)) (rows_for p (f m)) (may_vary (f m)) (now m) (spent_at p m (v.arrays m)) b) (sym becomes.shape)
                (members_grown v.state (shape_of (v.arrays m)) p (f m) m (now m) (spent_at p m (v.arrays m)) b number_after (grown_after p) after));
            single = λ young. absurd (both_ways (p.growing && (f m).young) (grown_after p) young);
            closed = λ empty. subst (λ k. NothingPending k b) number_after (after.closed empty);
            truth = subst (IsEarlier next.truth) (sym same.truth) (record { fields = refl; events = omega arith });
            mark = λ marked. sym same.marked ∙ marked;
            roles = ap (λ (t : Super). t.roles.items) same.truth;
            disks = ap (λ (t : Super). t.raid_disks) same.truth;
            sectors = sectors_after;
          }

    turning : (p.kept m ≡ true → ⊥) → Turning m next v (called v f number) p now a b
    turning unkept =
        let alike : AreMarked (called v f number) → IsSameArrayAs next (f m) = λ are. record {
          shape = sym (call.loses.shape are) ∙ sym becomes.shape;
          frame = ap frame_of becomes.notes.same.truth;
          resync = becomes.notes.same.resync;
          young = becomes.notes.same.young;
        } in
        elim (cases_Bool (p.live m)) [
          | inl live ↦ record {
            H = Before (spent_at p m (v.arrays m));
            Q = After (spent_at p m (v.arrays m));
            P = λ r. ImageShowsArray v.state m (shape_of (v.arrays m)) (now m) (spent_at p m (v.arrays m)) r × KeepsTruth r;
            moves = moves (spent_at p m (v.arrays m)) (covers unkept live);
            kept = kept;
            own = λ is. (holds unkept is, λ r there. inl (shows unkept is r there.0 there.1));
            images = images unkept;
            array = array unkept;
            alike = λ is are. alike are;
          }
          | inr dead ↦ record {
            H = Before (λ y. true);
            Q = After (λ y. true);
            P = λ r. ImageShowsArray v.state m (shape_of (v.arrays m)) (now m) (λ y. true) r × KeepsTruth r;
            moves = moves (λ y. true) (λ y alive. absurd (both_ways true alive refl));
            kept = kept;
            own = λ live. absurd (both_ways (p.live m) dead live);
            images = images unkept;
            array = array unkept;
            alike = λ is are. alike are;
          }
        ]

  -- a promise that can be kept until the run after it can be kept until the one before it
  back : (p : Promise) → IsPromised p (called v f number) → IsPromised p v
  back p promised = record {
    is_one = promised.is_one;
    goes = λ n live there. over_still v (called v f number) (further v f m a b set call.views number call.later) n there (promised.goes n live there);
    covers = λ n live there. elim (cases_eq n m) [
      | inl same ↦ subst (λ k. IncludesSpent (v.arrays k) (spent_at p k (v.arrays k))) (sym same) (λ y alive.
          call.views.spent y
          (promised.covers m (subst (λ k. p.live k ≡ true) same live) low y
          (spent_other p m (f m) (v.arrays m) (λ z. sectors_after z ∙ becomes.sectors z) y ∙ alive)))
      | inr other ↦ subst (λ (u : View). IncludesSpent u (spent_at p n u)) (call.views.others n other) (promised.covers n live there)
    ];
  }

  -- with changes that soil the array
  turns : (xs : List Change) → soil xs m ≡ true → TurnsOne xs m next v (called v f number) vals now a b
  turns xs soiled = record {
    grows = grows;
    values = other_values;
    few = let most = set.most in let there = low in omega (arith, most, there);
    low = low;
    lasting = set.lasting;
    stays = call.goes.stays;
    marked = λ q current. heeded_gone v call.heeded q;
    others = call.views.others;
    same = refl;
    back = λ p suits promised. back p promised;
    someone = λ n goes. someone_left (called v f number) n goes;
    turning = λ p suits promised stands. turning p promised stands (λ is. both_ways (soil xs m) (suits.free m is) soiled);
  }

  -- without a mark, and with one before it
  pub bare_makes : next ≡ v.arrays m → Makes (wrote m ∷ []) v v (called v f number) vals now a b
  bare_makes same =
      turn_makes (wrote m) m next v (called v f number) vals now a b tt (same_view v m ∙ ap (with_view v m) (sym same))
      (turns (wrote m ∷ []) (or_first (m == m) false (eq-eqb m m refl)))

  pub marking_makes : Makes (steps m next ∷ wrote m ∷ []) v v (called v f number) vals now a b
  marking_makes =
      let xs : List Change = steps m next ∷ wrote m ∷ [] in
      let one = turns xs (or_second (next.marked && (m == m)) ((m == m) || false) (or_first (m == m) false (eq-eqb m m refl))) in
      record {
        due = (low, (tt, tt));
        stays = one.stays;
        back = one.back;
        grows = grows;
        stops = λ p suits promised stands traced.
            leaves_weaker
            (λ c. IsInside a.sectors c → HoldsBook v p now a.sectors c ⊎ HoldsBook (with_view v m next) p now a.sectors c)
            (λ c. IsInside a.sectors c → HoldsAlong xs v p now a.sectors c)
            (λ c either inside. elim (either inside) [ inl was ↦ inl was | inr made ↦ inr (inl made) ])
            (turn_stops xs m next v (called v f number) vals now a b one p suits promised stands traced);
        after = λ p suits promised stands. turn_after xs m next v (called v f number) vals now a b one p suits promised stands;
      }

-- ---- the two ways of a write

same_as : (u w : View) (a b : RackView) → u.young ≡ false → Notes u w a b → WritesAs u u w a b
same_as u w a b grown notes =
    record { grown = grown; number = refl; shape = refl; resync = refl; young = refl; sectors = λ y. refl; notes = notes }

pub mark_shape : (u : View) (is_marked : Bool) → shape_of (with_mark u is_marked) ≡ shape_of u
unfolding shape_of
mark_shape u is_marked = refl

marked_as : (u w : View) (is_marked : Bool) (a b : RackView) → u.young ≡ false → Notes (with_mark u is_marked) w a b → WritesAs u (with_mark u is_marked) w a b
marked_as u w is_marked a b grown notes = record {
  grown = grown;
  number = refl;
  shape = mark_shape u is_marked;
  resync = refl;
  young = refl;
  sectors = λ y. sym (framed_sectors u (with_mark u is_marked) refl refl grown grown y);
  notes = notes;
}

-- by whether it is marked first
abbrev pub writing_if : Bool → ℕ → View → Bool → List Change
writing_if first n u is_marked = if first then steps n (with_mark u is_marked) ∷ wrote n ∷ [] else wrote n ∷ []

pub unmarked_first : (u : View) → u.went ≡ [] → (is_whole_array u ≡ false) ⊎ ((u.went ≢ []) ⊎ (u.marked ≡ true)) → marks_first u ≡ false
unmarked_first u heeded (inl part) = ap (λ b. b && not u.marked) part
unmarked_first u heeded (inr (inl went)) = absurd (went heeded)
unmarked_first u heeded (inr (inr marked)) = ap (λ b. is_whole_array u && not b) marked ∙ none (is_whole_array u)
  where
    none : (b : Bool) → (b && false) ≡ false
    none true = refl
    none false = refl

pub marked_first : (u : View) → is_whole_array u ≡ true → u.marked ≡ false → marks_first u ≡ true
marked_first u whole unmarked = ap (λ b. b && not u.marked) whole ∙ ap not unmarked

pub write_makes : (v : Raid) (f : ℕ → View) (number m : ℕ) (a b : RackView) (on : List ℕ) (sector : ℕ) (from : List ℕ) → IsSet v a → WriteCall v f number m a b on sector from
    → WritesView (v.arrays m) (f m) a b → (v.arrays m).young ≡ false → (vals : ℕ → ℕ → Values)
    → Makes (writing m (v.arrays m) (f m).marked) v v (called v f number) vals (values_with m sector from vals) a b
write_makes v f number m a b on sector from set call (as_it_was why notes) grown vals =
    subst (λ (t : Bool). Makes (writing_if t m (v.arrays m) (f m).marked) v v (called v f number) vals (values_with m sector from vals) a b)
    (sym (unmarked_first (v.arrays m) (call.heeded m call.views.low) why))
    (bare_makes v f number m a b on sector from set call (v.arrays m) (same_as (v.arrays m) (f m) a b grown notes) vals (values_with m sector from vals) refl refl)
write_makes v f number m a b on sector from set call (newly_marked whole fresh unmarked notes) grown vals =
    subst (λ (t : Bool). Makes (writing_if t m (v.arrays m) (f m).marked) v v (called v f number) vals (values_with m sector from vals) a b)
    (sym (marked_first (v.arrays m) whole unmarked))
    (marking_makes v f number m a b on sector from set call (with_mark (v.arrays m) (f m).marked) (marked_as (v.arrays m) (f m) (f m).marked a b grown notes) vals
    (values_with m sector from vals) refl)
