-- A write of one array makes no change of the book, but what it promises of rows.
use Rattle.transition_laws.proofs.ArraysFor.{grown_for, members_grown}
use Rattle.std.proofs.Common.{◌≡◌, ℕ, ◌<◌, Bool, true, false, ◌==◌, ◌∷◌, None, Some, unwrap_or, refl, sym, ap, subst, ◌∙◌, inl, inr, eq-eqb, arith, ◌&&◌, []}
use Rattle.std.proofs.lemmas.Bool.{both_ways, cases_Bool}
use Rattle.rack.specs.Values.{Values}
use Rattle.rack.specs.Seen.{Image, RackView, SameRack}
use Rattle.md_super.specs.declared.superblock.Super.{Super}
use Rattle.pool_state.specs.declared.contents.State.{State}
use Rattle.array_image.specs.Arrays.{place_with}
use Rattle.array_image.specs.Left.{NothingPending, IsLeft}
use Rattle.array_image.specs.States.{is_current}
use Rattle.array_image.specs.Supers.{super_in, truth_in}
use Rattle.log_laws.specs.Kept.{LogInvariant}
use Rattle.array_model.specs.ArrayCalls.{ArrayCall, IncludesSpent}
use Rattle.array_model.specs.Says.{ArrayInvariant, IsEarlier, ImageShowsArray}
use Rattle.array_model.specs.View.{shape_of}
use Rattle.array_model.proofs.Moves.{CallRefines as CallMoves}
use Rattle.array_core.specs.Contents.{lacking_in}
use Rattle.transition_laws.specs.Changes.{wrote}
use Rattle.transition_laws.specs.Holds.{has_sector, IsPromised, IsSameArrayAs, is_sector, moved_to, Promise, RestsArray, ShowsArray, spent_at, Stands, StandsArray}
use Rattle.transition_laws.specs.Makes.{Grows, Makes, Suits}
use Rattle.array_image.specs.SoundArray.{first_unsynced}
use Rattle.raid_laws.specs.Frames.{frame_of}
use Rattle.raid_laws.specs.Moves.{AreMarked}
use Rattle.raid_laws.specs.Raid.{gone_in, is_failed, IsWritten, Raid}
use Rattle.raid_laws.proofs.Over.{or_parts}
use Rattle.transition_laws.proofs.Shown.{spent_other}
use Rattle.transition_laws.proofs.Standing.{holds_grown}
use Rattle.transition_laws.proofs.TurnMakes.{same_view, turn_makes, Turning}

-- A write of array m, where its superblocks have the run's mark already or need none: its truth stays.
pub record WritesOnce (m : ℕ) (v w : Raid) (vals now : ℕ → ℕ → Values) (a b : RackView) : Type 0 where
  pub few : m < 16
  pub low : m < v.state.made
  pub lasting : a.lasting
  pub stays : SameRack a b
  pub grows : Grows vals now
  pub values : (n : ℕ) → (n ≡ m → ⊥) → now n ≡ vals n
  pub marked : AreMarked v
  pub others : (n : ℕ) → (n ≡ m → ⊥) → w.arrays n ≡ v.arrays n
  pub same : w.state ≡ v.state
  pub back : (p : Promise) → Suits p (wrote m ∷ []) v → IsPromised p w → IsPromised p v
  pub someone : (n : ℕ) → is_failed w n ≡ false → (place : ℕ) × (is_current v.state place ≡ true) × (gone_in w place ≡ false)
  -- the call
  pub acts :
      (spent : ℕ → Bool) → IncludesSpent (w.arrays m) spent
      → ArrayCall v.state (v.arrays m) (w.arrays m) spent a b (shape_of (v.arrays m)) (vals m) (ImageShowsArray v.state (v.arrays m).number (shape_of (v.arrays m)) (now m) spent) (shape_of (v.arrays m)) (now m)
  pub kept : LogInvariant v.state v.number (gone_in v) a → LogInvariant v.state w.number (gone_in w) b
  pub number : (v.arrays m).number ≡ m
  pub grown : (v.arrays m).young ≡ false
  pub number_after : (w.arrays m).number ≡ m
  pub truth : (w.arrays m).truth ≡ (v.arrays m).truth
  pub young : (w.arrays m).young ≡ (v.arrays m).young
  pub mark : (w.arrays m).marked ≡ (v.arrays m).marked
  pub written : IsWritten (v.arrays m) → IsWritten (w.arrays m)
  pub lost : AreMarked w → IsSameArrayAs (v.arrays m) (w.arrays m)
  -- it isn't promised of rows of an array that lacks a member: its writes go by the log, and array_core says so of superblocks elsewhere
  pub whole : 0 < lacking_in (shape_of (v.arrays m)) → ⊥

module _ (m : ℕ) (v w : Raid) (vals now : ℕ → ℕ → Values) (a b : RackView) (call : WritesOnce m v w vals now a b)
    (p : Promise) (suits : Suits p (wrote m ∷ []) v) (promised : IsPromised p w) (stands : Stands v v p vals a) where
  moves : (spent : ℕ → Bool) → IncludesSpent (w.arrays m) spent
      → CallMoves m a b (ArrayInvariant v.state (shape_of (v.arrays m)) (v.arrays m) (vals m) spent a) (ImageShowsArray v.state (v.arrays m).number (shape_of (v.arrays m)) (now m) spent)
      (ArrayInvariant v.state (shape_of (v.arrays m)) (w.arrays m) (now m) spent b)
  moves spent covers =
      let acts = call.acts spent covers in
      let H = ArrayInvariant v.state (shape_of (v.arrays m)) (v.arrays m) (vals m) spent a in
      let Q = ArrayInvariant v.state (shape_of (v.arrays m)) (w.arrays m) (now m) spent b in
      subst (λ k. CallMoves k a b H (ImageShowsArray v.state (v.arrays m).number (shape_of (v.arrays m)) (now m) spent) Q) call.number
      (record { stays = acts.stays; leaves = acts.leaves; holds = acts.holds; apart = acts.apart; calm = acts.calm; bounded = acts.bounded })

  grown_after : (p.growing && (w.arrays m).young) ≡ false
  grown_after = grown_for p (w.arrays m) (call.young ∙ call.grown)

  unkept : p.kept m ≡ true → ⊥
  unkept is = both_ways (m == m) (or_parts (m == m) false (suits.free m is)).0 (eq-eqb m m refl)

  shows : (r : Image) → ImageShowsArray v.state m (shape_of (v.arrays m)) (now m) (spent_at p m (v.arrays m)) r → ShowsArray v.state (v.arrays m) p m (now m) r
  shows r says = record { says = says; rows = λ old is. absurd (unkept is); lacks = λ old wanted some. absurd (call.whole some) }

  sectors : (y : ℕ) → has_sector (w.arrays m) y ≡ has_sector (v.arrays m) y
  sectors y = λ i. is_sector (frame_of (call.truth i)) (moved_to (call.truth i)) (call.young i) (first_unsynced (call.truth i)) y

  module _ (live : p.live m ≡ true) where
    covers : IncludesSpent (w.arrays m) (spent_at p m (v.arrays m))
    covers y alive =
        promised.covers m live (subst (λ (s : State). m < s.made) (sym call.same) call.low) y (spent_other p m (w.arrays m) (v.arrays m) sectors y ∙ alive)

    after : ArrayInvariant v.state (shape_of (v.arrays m)) (w.arrays m) (now m) (spent_at p m (v.arrays m)) b
    after = (moves (spent_at p m (v.arrays m)) covers).holds (holds_grown v v p vals a stands m live call.low (grown_for p (v.arrays m) call.grown))

    images : (r : Image) → IsLeft b r → RestsArray v.state (v.arrays m) p m (now m) r
    images r left =
        let own : (t : Super) → truth_in v.state r m ≡ Some t → truth_in v.state r (w.arrays m).number ≡ Some t = λ t is. subst (λ k. truth_in v.state r k ≡ Some t) (sym call.number_after) is in
        record {
          shows = shows r (subst (λ k. ImageShowsArray v.state k (shape_of (v.arrays m)) (now m) (spent_at p m (v.arrays m)) r) call.number_after (after.shape.says r left));
          truth = λ t is. subst (IsEarlier t) call.truth (after.truth r left t (own t is));
          mark = λ marked t is. after.mark (call.mark ∙ marked) r left t (own t is);
          alone = λ place current other.
              subst (λ k. super_in v.state r k place ≡ None) (call.number_after ∙ sym call.number)
              (after.alone r left place current
              (λ k low here. other k (subst (λ (u : Super). k < u.raid_disks) call.truth low) (ap (λ (u : Super). unwrap_or (place_with u.roles.items k) 16) (sym call.truth) ∙ here)));
        }

    array : StandsArray (v.arrays m) (w.arrays m) m (now m) p b
    array =
        let was = stands.arrays m live call.low in
        record {
          number = call.number_after;
          book_number = call.number;
          few = call.few;
          written = call.written was.written;
          members = members_grown v.state (shape_of (v.arrays m)) p (w.arrays m) m (now m) (spent_at p m (v.arrays m)) b call.number_after grown_after after;
          single = λ young. absurd (both_ways (p.growing && (w.arrays m).young) grown_after young);
          closed = λ none. subst (λ k. NothingPending k b) call.number_after (after.closed none);
          truth = subst (IsEarlier (v.arrays m).truth) (sym call.truth) (record { fields = refl; events = omega arith });
          mark = λ marked. sym call.mark ∙ marked;
          roles = ap (λ (u : Super). u.roles.items) call.truth;
          disks = ap (λ (u : Super). u.raid_disks) call.truth;
          sectors = sectors;
        }

  write_turning : Turning m (v.arrays m) v w p now a b
  write_turning = elim (cases_Bool (p.live m)) [
    | inl live ↦ record {
      H = ArrayInvariant v.state (shape_of (v.arrays m)) (v.arrays m) (vals m) (spent_at p m (v.arrays m)) a;
      Q = ArrayInvariant v.state (shape_of (v.arrays m)) (w.arrays m) (now m) (spent_at p m (v.arrays m)) b;
      P = ImageShowsArray v.state (v.arrays m).number (shape_of (v.arrays m)) (now m) (spent_at p m (v.arrays m));
      moves = moves (spent_at p m (v.arrays m)) (covers live);
      kept = call.kept stands.log;
      own = λ is. (holds_grown v v p vals a stands m is call.low (grown_for p (v.arrays m) call.grown), λ r says. inl (shows r (subst (λ k. ImageShowsArray v.state k (shape_of (v.arrays m)) (now m) (spent_at p m (v.arrays m)) r) call.number says)));
      images = images;
      array = array;
      alike = λ live marked. call.lost marked;
    }
    | inr none ↦ record {
      H = ArrayInvariant v.state (shape_of (v.arrays m)) (v.arrays m) (vals m) (λ y. true) a;
      Q = ArrayInvariant v.state (shape_of (v.arrays m)) (w.arrays m) (now m) (λ y. true) b;
      P = ImageShowsArray v.state (v.arrays m).number (shape_of (v.arrays m)) (now m) (λ y. true);
      moves = moves (λ y. true) (λ y alive. absurd (both_ways true alive refl));
      kept = call.kept stands.log;
      own = λ live. absurd (both_ways (p.live m) none live);
      images = images;
      array = array;
      alike = λ live marked. call.lost marked;
    }
  ]

pub write_makes : (m : ℕ) (v w : Raid) (vals now : ℕ → ℕ → Values) (a b : RackView) → WritesOnce m v w vals now a b → Makes (wrote m ∷ []) v v w vals now a b
write_makes m v w vals now a b call =
    turn_makes (wrote m) m (v.arrays m) v w vals now a b tt (same_view v m)
    (record {
      grows = call.grows;
      values = call.values;
      few = call.few;
      low = call.low;
      lasting = call.lasting;
      stays = call.stays;
      marked = call.marked;
      others = call.others;
      same = call.same;
      back = call.back;
      someone = call.someone;
      turning = λ p suits promised stands. write_turning m v w vals now a b call p suits promised stands;
    })
