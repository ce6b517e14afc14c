-- A call of one array that leaves its values, and has its superblocks as they were or anew, one after the other: it makes that change of the book, or none.
use Rattle.transition_laws.proofs.ArraysFor.{grown_for, members_grown}
use Rattle.std.proofs.Common.{◌≡◌, ℕ, ◌+◌, ◌-◌, ◌^◌, ◌<◌, ◌≤◌, Bool, true, false, nat_lt, if◌then◌else◌, List, ◌∷◌, None, unwrap_or, refl, sym, ap, subst, ◌∙◌, inl, inr, arith, ◌&&◌, []}
use Rattle.std.proofs.lemmas.Bool.{both_ways, cases_Bool}
use Rattle.rack.specs.Values.{Values}
use Rattle.rack.specs.Seen.{Image, RackView}
use Rattle.rack.specs.Joins.{leaves_weaker}
use Rattle.md_super.specs.declared.superblock.Super.{Super}
use Rattle.pool_state.specs.declared.contents.State.{State}
use Rattle.array_image.specs.Arrays.{place_with, replayed, Shape}
use Rattle.array_image.specs.Left.{NothingPending, IsInside, IsLeft}
use Rattle.array_image.specs.Places.{member_slice}
use Rattle.array_image.specs.SoundArray.{array_fields, first_unsynced}
use Rattle.array_image.specs.States.{is_current}
use Rattle.array_image.specs.Supers.{super_in}
use Rattle.array_image.proofs.Frames.{super_of_sector, truth_by_supers}
use Rattle.log_laws.specs.Kept.{LogInvariant}
use Rattle.array_model.specs.ArrayCalls.{IncludesSpent, Keeping, KeepsSupers, ImageInCall}
use Rattle.array_model.specs.Members.{IsSameButSeats}
use Rattle.array_model.specs.Says.{ArrayInvariant, IsEarlier, ImageShowsArray}
use Rattle.array_model.specs.View.{IsArray, may_vary, shape_of, View}
use Rattle.array_model.proofs.Moves.{CallRefines as CallMoves}
use Rattle.array_core.specs.Contents.{lacking_in}
use Rattle.array_core.specs.Superblocks.{raised, settled}
use Rattle.array_core.specs.TruthLeft.{HasTruthOf, LeavesSupers, LeavesTruth}
use Rattle.raid_laws.proofs.Marking.{earlier_same}
use Rattle.raid_laws.proofs.Rows.{left_rows}
use Rattle.raid_laws.specs.Frames.{frame_of}
use Rattle.raid_laws.specs.Moves.{AreMarked}
use Rattle.raid_laws.specs.Raid.{gone_in, is_failed, IsWritten, Raid}
use Rattle.transition_laws.specs.Holds.{has_sector, HoldsMembers, IsPromised, IsSameArrayAs, is_sector, moved_to, Promise, RestsArray, ShowsArray, spent_at, Stands, StandsArray, rows_for}
use Rattle.transition_laws.specs.Makes.{Makes}
use Rattle.transition_laws.proofs.Shown.{leaves_both, rests_same, spent_other, spent_same}
use Rattle.transition_laws.proofs.SettledMakes.{settled_sectors}
use Rattle.transition_laws.specs.Changes.{Change, steps}
use Rattle.transition_laws.proofs.Standing.{earlier_then, holds_grown}
use Rattle.transition_laws.proofs.TurnMakes.{act_makes, turn_makes, Turning, TurnsOne}
use Rattle.rack.specs.Seen.{SameRack}

-- The array with other events, and other rows that its superblocks leave: no fewer than are left in it, unless it is young.
pub record IsRenewed (u next : View) : Type 0 where
  pub number : next.number ≡ u.number
  pub shape : shape_of next ≡ shape_of u
  pub resync : next.resync ≡ u.resync
  pub young : next.young ≡ u.young
  pub sectors : (y : ℕ) → has_sector next y ≡ has_sector u y
  pub later : IsEarlier u.truth next.truth
  pub rows : u.young ≡ false → u.resync ≤ first_unsynced next.truth
  pub unmarked : next.marked ≡ false

-- A call of array m that may renew it: at each moment images have the truth that one had before it, or that of the renewed array.
pub record RenewsOne (m : ℕ) (next : View) (v w : Raid) (vals : ℕ → ℕ → Values) (a b : RackView) : Type 0 where
  pub few : m < 16
  pub low : m < v.state.made
  pub lasting : a.lasting
  pub stays : SameRack a b
  pub marked : AreMarked v
  pub others : (n : ℕ) → (n ≡ m → ⊥) → w.arrays n ≡ v.arrays n
  pub same : w.state ≡ v.state
  pub back : (p : Promise) → IsPromised p w → IsPromised p v
  pub someone : (n : ℕ) → is_failed w n ≡ false → (place : ℕ) × (is_current v.state place ≡ true) × (gone_in w place ≡ false)
  -- the call
  pub acts : (p : Promise) → IsPromised p w → Stands v v p vals a → (spent : ℕ → Bool) → IncludesSpent (w.arrays m) spent
      → Keeping v.state (v.arrays m) (w.arrays m) spent a b (shape_of (v.arrays m)) (vals m)
  pub truths : (p : Promise) → IsPromised p w → Stands v v p vals a → (spent : ℕ → Bool) → IncludesSpent (w.arrays m) spent
      → LeavesTruth v.state (v.arrays m).number (λ t. array_fields t ≡ array_fields next.truth)
      (ArrayInvariant v.state (shape_of (v.arrays m)) (v.arrays m) (vals m) spent a) a b
  pub kept : (p : Promise) → IsPromised p w → Stands v v p vals a → LogInvariant v.state w.number (gone_in w) b
  pub number : (v.arrays m).number ≡ m
  pub grown : (v.arrays m).young ≡ false
  pub renewed : IsRenewed (v.arrays m) next
  pub noted : IsSameButSeats next (w.arrays m)
  pub written : IsWritten (v.arrays m) → IsWritten (w.arrays m)
  pub lost : AreMarked w → IsSameArrayAs next (w.arrays m)

pub settled_shape : (u : View) → shape_of (settled u) ≡ shape_of u
unfolding shape_of
settled_shape u = refl

raised_by : (n : ℕ) → n ≤ raised n
raised_by n = by (nat_lt n (2 ^ 63 - 1))
  where
    by : (b : Bool) → n ≤ (if b then n + 1 else n)
    by true = omega arith
    by false = omega arith

module _ (m : ℕ) (next : View) (v w : Raid) (vals : ℕ → ℕ → Values) (a b : RackView) (call : RenewsOne m next v w vals a b) (p : Promise) (promised : IsPromised p w) (stands : Stands v v p vals a) where
  number_after : (w.arrays m).number ≡ m
  number_after = call.noted.number ∙ call.renewed.number ∙ call.number

  grown_after : (p.growing && (w.arrays m).young) ≡ false
  grown_after = grown_for p (w.arrays m) (call.noted.young ∙ call.renewed.young ∙ call.grown)

  book_number : next.number ≡ m
  book_number = call.renewed.number ∙ call.number

  abbrev IsNew : Super → Type 0
  IsNew t = array_fields t ≡ array_fields next.truth

  moves : (spent : ℕ → Bool) → IncludesSpent (w.arrays m) spent
      → CallMoves m a b (ArrayInvariant v.state (shape_of (v.arrays m)) (v.arrays m) (vals m) spent a)
      (λ r. ImageShowsArray v.state m (shape_of (v.arrays m)) (vals m) spent r × HasTruthOf v.state m a (λ t. array_fields t ≡ array_fields next.truth) r)
      (ArrayInvariant v.state (shape_of (v.arrays m)) (w.arrays m) (vals m) spent b)
  moves spent covers =
      let acts = call.acts p promised stands spent covers in
      let truths = call.truths p promised stands spent covers in
      let H = ArrayInvariant v.state (shape_of (v.arrays m)) (v.arrays m) (vals m) spent a in
      let Q = ArrayInvariant v.state (shape_of (v.arrays m)) (w.arrays m) (vals m) spent b in
      subst (λ k. CallMoves k a b H (λ r. ImageShowsArray v.state k (shape_of (v.arrays m)) (vals m) spent r × HasTruthOf v.state k a (λ t. array_fields t ≡ array_fields next.truth) r) Q) call.number
      (record {
        stays = acts.stays;
        leaves = λ traced.
            let First : Image → Type 0 = λ c. IsInside a.sectors c → ImageInCall (v.arrays m).number a b (λ r. H → ImageShowsArray v.state (v.arrays m).number (shape_of (v.arrays m)) (vals m) spent r) c in
            let Second : Image → Type 0 = λ c. IsInside a.sectors c → H → HasTruthOf v.state (v.arrays m).number a IsNew (replayed a.sectors c) in
            leaves_weaker (λ c. First c × Second c)
            (λ c. IsInside a.sectors c
            → ImageInCall (v.arrays m).number a b
            (λ r. H → ImageShowsArray v.state (v.arrays m).number (shape_of (v.arrays m)) (vals m) spent r × HasTruthOf v.state (v.arrays m).number a IsNew r) c)
            (λ c both inside.
            let turns = both.0 inside in
            record {
              before = turns.before;
              left = turns.left;
              others = turns.others;
              own = λ holds. (turns.own holds, both.1 inside holds);
              whole = turns.whole;
              calm = turns.calm;
              bounded = turns.bounded;
            })
            (leaves_both First Second (acts.leaves traced) (truths.leaves traced));
        holds = acts.holds;
        apart = acts.apart;
        calm = acts.calm;
        bounded = acts.bounded;
      })

  sectors : (y : ℕ) → has_sector next y ≡ has_sector (v.arrays m) y
  sectors = call.renewed.sectors

  sectors_after : (y : ℕ) → has_sector (w.arrays m) y ≡ has_sector (v.arrays m) y
  sectors_after y =
      (λ i. is_sector (frame_of (call.noted.truth i)) (moved_to (call.noted.truth i)) (call.noted.young i) (first_unsynced (call.noted.truth i)) y) ∙ sectors y

  module _ (live : p.live m ≡ true) where
    covers : IncludesSpent (w.arrays m) (spent_at p m (v.arrays m))
    covers y alive =
        promised.covers m live (subst (λ (s : State). m < s.made) (sym call.same) call.low) y (spent_other p m (w.arrays m) (v.arrays m) sectors_after y ∙ alive)

    holds : ArrayInvariant v.state (shape_of (v.arrays m)) (v.arrays m) (vals m) (spent_at p m (v.arrays m)) a
    holds = holds_grown v v p vals a stands m live call.low (grown_for p (v.arrays m) call.grown)

    after : ArrayInvariant v.state (shape_of (v.arrays m)) (w.arrays m) (vals m) (spent_at p m (v.arrays m)) b
    after = (moves (spent_at p m (v.arrays m)) covers).holds holds

    before : (i : Image) → IsLeft a i → RestsArray v.state (v.arrays m) p m (vals m) i
    before i left =
        rests_same v.state (v.arrays m) p m (vals m) i (replayed a.sectors left.0) (λ place t. left.2 (member_slice place m) t) call.number (stands.images left.0 left.1 m live call.low)

    -- an array that isn't young is left its rows by both truths
    rows : (v.arrays m).young ≡ false → (t : Super) → IsNew t → (v.arrays m).resync ≤ first_unsynced t
    rows old t new =
        let first = ap first_unsynced new in
        let low = call.renewed.rows old in
        omega (arith, first, low)

    shows : (r : Image) → ImageShowsArray v.state m (shape_of (v.arrays m)) (vals m) (spent_at p m (v.arrays m)) r → HasTruthOf v.state m a IsNew r → ShowsArray v.state (v.arrays m) p m (vals m) r
    shows r says truths = record {
      says = says;
      rows = λ old kept t is. elim (truths t is) [
        | inl was ↦ (before was.0 was.1).shows.rows old kept t was.2
        | inr new ↦ rows old t new
      ];
      lacks = λ old wanted some t is. elim (truths t is) [
        | inl was ↦ (before was.0 was.1).shows.lacks old wanted some t was.2
        | inr new ↦ rows old t new
      ];
    }

    -- the renewed array shows the same
    renewed_shows : (r : Image) → ShowsArray v.state (v.arrays m) p m (vals m) r → ShowsArray v.state next p m (vals m) r
    renewed_shows r it = record {
      says =
          subst (λ (spent : ℕ → Bool). ImageShowsArray v.state m (shape_of next) (vals m) spent r) (sym (spent_same p m next (v.arrays m) sectors))
          (subst (λ (shape : Shape). ImageShowsArray v.state m shape (vals m) (spent_at p m (v.arrays m)) r) (sym call.renewed.shape) it.says);
      rows = λ old kept t is. let low = it.rows (sym call.renewed.young ∙ old) kept t is in let same = call.renewed.resync in omega (arith, low, same);
      lacks = λ old wanted some t is.
          let low =
          it.lacks (sym call.renewed.young ∙ old) wanted (subst (λ (shape : Shape). 0 < lacking_in shape) call.renewed.shape some) t is in
          let same = call.renewed.resync in
          omega (arith, low, same);
    }

    images : (r : Image) → IsLeft b r → RestsArray v.state next p m (vals m) r
    images r left =
        let truths : HasTruthOf v.state m a IsNew r =
        subst (λ k. HasTruthOf v.state k a IsNew r) call.number ((call.truths p promised stands (spent_at p m (v.arrays m)) covers).after holds r left) in
        record {
          shows = renewed_shows r (shows r (subst (λ k. ImageShowsArray v.state k (shape_of (v.arrays m)) (vals m) (spent_at p m (v.arrays m)) r) number_after (after.shape.says r left)) truths);
          truth = λ t is. elim (truths t is) [
            | inl was ↦
                earlier_then t (v.arrays m).truth next.truth ((before was.0 was.1).truth t was.2)
                call.renewed.later
            | inr new ↦ earlier_same t next.truth new
          ];
          mark = λ marked. absurd (both_ways next.marked call.renewed.unmarked marked);
          alone = λ place current other.
              subst (λ k. super_in v.state r k place ≡ None) (number_after ∙ sym book_number)
              (after.alone r left place current
              (λ k low here. other k (subst (λ (u : Super). k < u.raid_disks) call.noted.truth low) (ap (λ (u : Super). unwrap_or (place_with u.roles.items k) 16) (sym call.noted.truth) ∙ here)));
        }

    array : StandsArray next (w.arrays m) m (vals m) p b
    array =
        let was = stands.arrays m live call.low in
        record {
          number = number_after;
          book_number = book_number;
          few = call.few;
          written = call.written was.written;
          members =
              subst (λ (spent : ℕ → Bool). HoldsMembers m (shape_of next) (shape_of (w.arrays m)) (rows_for p (w.arrays m)) (may_vary (w.arrays m)) (vals m) spent b)
              (sym (spent_same p m next (v.arrays m) sectors))
              (subst (λ (shape : Shape). HoldsMembers m shape (shape_of (w.arrays m)) (rows_for p (w.arrays m)) (may_vary (w.arrays m)) (vals m) (spent_at p m (v.arrays m)) b) (sym call.renewed.shape)
              (members_grown v.state (shape_of (v.arrays m)) p (w.arrays m) m (vals m) (spent_at p m (v.arrays m)) b number_after grown_after after));
          single = λ young. absurd (both_ways (p.growing && (w.arrays m).young) grown_after young);
          closed = λ none. subst (λ k. NothingPending k b) number_after (after.closed none);
          truth = subst (IsEarlier next.truth) (sym call.noted.truth) (record { fields = refl; events = omega arith });
          mark = λ marked. absurd (both_ways (w.arrays m).marked (call.noted.marked ∙ call.renewed.unmarked) marked);
          roles = ap (λ (u : Super). u.roles.items) call.noted.truth;
          disks = ap (λ (u : Super). u.raid_disks) call.noted.truth;
          sectors = λ y. sectors_after y ∙ sym (sectors y);
        }

  renew_turning : Turning m next v w p vals a b
  renew_turning = elim (cases_Bool (p.live m)) [
    | inl live ↦ record {
      H = ArrayInvariant v.state (shape_of (v.arrays m)) (v.arrays m) (vals m) (spent_at p m (v.arrays m)) a;
      Q = ArrayInvariant v.state (shape_of (v.arrays m)) (w.arrays m) (vals m) (spent_at p m (v.arrays m)) b;
      P = λ r. ImageShowsArray v.state m (shape_of (v.arrays m)) (vals m) (spent_at p m (v.arrays m)) r × HasTruthOf v.state m a IsNew r;
      moves = moves (spent_at p m (v.arrays m)) (covers live);
      kept = call.kept p promised stands;
      own = λ is. (holds is, λ r there. inl (shows is r there.0 there.1));
      images = images;
      array = array;
      alike = λ live marked. call.lost marked;
    }
    | inr none ↦ record {
      H = ArrayInvariant v.state (shape_of (v.arrays m)) (v.arrays m) (vals m) (λ y. true) a;
      Q = ArrayInvariant v.state (shape_of (v.arrays m)) (w.arrays m) (vals m) (λ y. true) b;
      P = λ r. ImageShowsArray v.state m (shape_of (v.arrays m)) (vals m) (λ y. true) r × HasTruthOf v.state m a IsNew r;
      moves = moves (λ y. true) (λ y alive. absurd (both_ways true alive refl));
      kept = call.kept p promised stands;
      own = λ live. absurd (both_ways (p.live m) none live);
      images = images;
      array = array;
      alike = λ live marked. call.lost marked;
    }
  ]

module _ (m : ℕ) (next : View) (v w : Raid) (vals : ℕ → ℕ → Values) (a b : RackView) (call : RenewsOne m next v w vals a b) where
  renew_turns : (xs : List Change) → TurnsOne xs m next v w vals vals a b
  renew_turns xs = record {
    grows = λ n y u may. may;
    values = λ n apart. refl;
    few = call.few;
    low = call.low;
    lasting = call.lasting;
    stays = call.stays;
    marked = call.marked;
    others = call.others;
    same = call.same;
    back = λ p suits promised. call.back p promised;
    someone = call.someone;
    turning = λ p suits promised stands. renew_turning m next v w vals a b call p promised stands;
  }

  pub renew_makes : Makes (steps m next ∷ []) v v w vals vals a b
  renew_makes = turn_makes (steps m next) m next v w vals vals a b call.low refl (renew_turns (steps m next ∷ []))

-- where its superblocks stay as they were, no change is made
pub undone_makes : (m : ℕ) (v w : Raid) (vals : ℕ → ℕ → Values) (a b : RackView) → RenewsOne m (v.arrays m) v w vals a b → Makes [] v v w vals vals a b
undone_makes m v w vals a b call = act_makes m v w vals vals a b (renew_turns m (v.arrays m) v w vals a b call [])

-- ---- arrays that are renewed

pub same_renewed : (u : View) → u.marked ≡ false → u.resync ≤ first_unsynced u.truth → IsRenewed u u
same_renewed u unmarked rows = record {
  number = refl;
  shape = refl;
  resync = refl;
  young = refl;
  sectors = λ y. refl;
  later = record { fields = refl; events = omega arith };
  rows = λ old. rows;
  unmarked = unmarked;
}

pub settled_renewed : (u : View) → IsArray u → IsRenewed u (settled u)
settled_renewed u is_array = record {
  number = refl;
  shape = settled_shape u;
  resync = refl;
  young = refl;
  sectors = settled_sectors u (let small = is_array.small in small);
  later = record { fields = refl; events = raised_by u.truth.events };
  rows = λ old. left_rows u (settled u).truth is_array old refl refl;
  unmarked = refl;
}

-- superblocks that stay as they were are those of a truth from before
pub supers_truths : (s : State) (n : ℕ) (new : Super → Type 0) (H : Type 0) (a b : RackView) → LeavesSupers n a b → LeavesTruth s n new H a b
supers_truths s n new H a b supers = record {
  leaves = λ traced.
      leaves_weaker (λ c. IsInside a.sectors c → KeepsSupers n a (replayed a.sectors c)) (λ c. IsInside a.sectors c → H → HasTruthOf s n a new (replayed a.sectors c))
      (λ c kept inside holds. of (replayed a.sectors c) (kept inside)) (supers.leaves traced);
  after = λ holds r left. of r (supers.after r left);
}
  where
    of : (r : Image) → KeepsSupers n a r → HasTruthOf s n a new r
    of r kept t is = inl (kept.0, kept.1, sym (truth_by_supers s r kept.0 n (λ place. super_of_sector s r kept.0 n place (kept.2 place))) ∙ is)
