-- A step of one array by one commit, of maintenance or of a reshape, makes that change of the book.
use Rattle.transition_laws.proofs.ArraysFor.{grown_for, members_grown}
use Rattle.std.proofs.Common.{◌≡◌, ◌⊎◌, ℕ, ◌<◌, ◌≤◌, Bool, true, false, List, ◌∷◌, None, Some, unwrap_or, refl, sym, ap, ap₂, subst, ◌∙◌, inl, inr, arith, ◌&&◌, not, [], ◌||◌}
use Rattle.std.proofs.lemmas.Bool.{both_ways, cases_Bool, cases_eq}
use Rattle.rack.specs.Values.{Values}
use Rattle.rack.specs.Seen.{Image, RackView, SameRack}
use Rattle.md_super.specs.declared.superblock.Super.{Super}
use Rattle.pool_state.specs.declared.contents.State.{State}
use Rattle.array_image.specs.Arrays.{place_with, replayed}
use Rattle.array_image.specs.Left.{NothingPending, IsLeft}
use Rattle.array_image.specs.Places.{member_slice}
use Rattle.array_image.specs.SoundArray.{first_unsynced}
use Rattle.array_image.specs.States.{is_current}
use Rattle.array_image.specs.Supers.{super_in, truth_in}
use Rattle.array_image.proofs.Frames.{super_of_sector, truth_by_supers}
use Rattle.log_laws.specs.Kept.{LogInvariant}
use Rattle.array_model.specs.ArrayCalls.{IncludesSpent, HasFields, KeepsSupers, StepRefines}
use Rattle.array_model.specs.Says.{ArrayInvariant, IsEarlier, ImageShowsArray}
use Rattle.array_model.specs.View.{has_gone, shape_of, spent_in, View}
use Rattle.array_model.proofs.Moves.{CallRefines as CallMoves}
use Rattle.sync_laws.specs.Steps.{if_done, MayStep, Steps}
use Rattle.reshape_laws.specs.Reshapes.{MayReshape, Reshapes}
use Rattle.raid_laws.specs.Frames.{frame_of}
use Rattle.transition_laws.specs.Changes.{Maintains, steps}
use Rattle.transition_laws.specs.Holds.{has_sector, IsPromised, IsSameArrayAs, is_sector, moved_to, Promise, RestsArray, ShowsArray, spent_at, Stands, StandsArray}
use Rattle.transition_laws.specs.Makes.{Makes, Suits}
use Rattle.raid_laws.specs.Moves.{AreMarked}
use Rattle.raid_laws.specs.Raid.{gone_in, is_failed, IsWritten, Raid}
use Rattle.raid_laws.proofs.Marking.{earlier_same}
use Rattle.transition_laws.proofs.Shown.{shows_same, spent_other, spent_same}
use Rattle.transition_laws.proofs.Standing.{holds_grown}
use Rattle.transition_laws.proofs.TurnMakes.{turn_makes, Turning}

-- contents say the array as it was, or as the step makes it
abbrev pub SaysEither : View → View → State → (ℕ → Values) → (ℕ → Bool) → RackView → Image → Type 0
SaysEither u next s vals spent a r =
    (ImageShowsArray s u.number (shape_of u) vals spent r × KeepsSupers u.number a r)
    ⊎ (ImageShowsArray s u.number (shape_of next) vals spent r × HasFields s u.number next.truth r)

-- A call makes `next` of an array, which was u and of which z is seen after it: its values stay, whichever aren't spent.
pub record Becomes (s : State) (u next z : View) (number : ℕ) (vals : ℕ → Values) (a b : RackView) : Type 0 where
  -- images go by the array before it or after it, and then the array holds what it held
  pub moving : (spent : ℕ → Bool) → IncludesSpent z spent → StepRefines s u next z spent a b vals (shape_of next) vals
  pub durable :
      (spent : ℕ → Bool) → IncludesSpent z spent → ArrayInvariant s (shape_of u) u vals spent a → (r : Image) → IsLeft b r → HasFields s u.number next.truth r
  -- the log is kept for the next commit
  pub kept : LogInvariant s number (has_gone z) b

-- so do a step of maintenance that is done, and a step of a reshape
pub steps_become : (s : State) (u next z : View) (number after : ℕ) (on : List ℕ) (answered : Bool) (vals : ℕ → Values) (a b : RackView) (call : Steps u next z number after on a b answered)
    → call.is_done ≡ true → MayStep s u next z number on a → Becomes s u next z after vals a b
steps_become s u next z number after on answered vals a b call done may = record {
  moving = λ spent covers.
      subst (λ d. StepRefines s u next z spent a b vals (if_done d (shape_of u) (shape_of next)) vals) done (call.moving s vals spent covers may);
  durable = λ spent covers. call.durable done s vals spent covers may;
  kept = call.kept s may;
}

pub reshapes_become : (s : State) (u next z : View) (number after : ℕ) (on : List ℕ) (answered : Bool) (vals : ℕ → Values) (a b : RackView) (call : Reshapes u next z number after on a b answered)
    → call.steps.is_done ≡ true → MayReshape s u next z number on a → Becomes s u next z after vals a b
reshapes_become s u next z number after on answered vals a b call done may = record {
  moving = λ spent covers.
      subst (λ d. StepRefines s u next z spent a b vals (if_done d (shape_of u) (shape_of next)) vals) done (call.moving s vals spent covers may);
  durable = λ spent covers. call.durable done s vals spent covers may;
  kept = call.kept s may;
}

pub record StepsOnce (m : ℕ) (next : View) (v w : Raid) (vals : ℕ → ℕ → Values) (a b : RackView) : Type 0 where
  pub few : m < 16
  pub low : m < v.state.made
  pub lasting : a.lasting
  pub stays : SameRack a b
  pub marked : AreMarked v
  pub others : (n : ℕ) → (n ≡ m → ⊥) → w.arrays n ≡ v.arrays n
  pub same : w.state ≡ v.state
  pub goes : (n : ℕ) → n < v.state.made → is_failed w n ≡ false → is_failed v n ≡ false
  pub someone : (n : ℕ) → is_failed w n ≡ false → (place : ℕ) × (is_current v.state place ≡ true) × (gone_in w place ≡ false)
  -- the step
  pub becomes : (p : Promise) → IsPromised p w → Stands v v p vals a → Becomes v.state (v.arrays m) next (w.arrays m) w.number (vals m) a b
  pub gone : LogInvariant v.state w.number (has_gone (w.arrays m)) b → LogInvariant v.state w.number (gone_in w) b
  -- the array once it is done, which isn't young
  pub grown : next.young ≡ false
  pub number : (v.arrays m).number ≡ m
  pub next_number : next.number ≡ m
  pub unmarked : next.marked ≡ false
  pub rows : next.young ≡ false → next.resync ≤ first_unsynced next.truth
  pub truth : (w.arrays m).truth ≡ next.truth
  pub young : (w.arrays m).young ≡ next.young
  pub number_after : (w.arrays m).number ≡ m
  pub unmarked_after : (w.arrays m).marked ≡ false
  pub written : IsWritten (v.arrays m) → IsWritten (w.arrays m)
  pub lost : AreMarked w → IsSameArrayAs next (w.arrays m)
  -- what was spent stays so: of the sectors that it had, and of all in a step of maintenance
  pub spares :
      (y : ℕ) → (has_sector (v.arrays m) y ≡ true) ⊎ Maintains v.state (v.arrays m) next → spent_in (w.arrays m) y ≡ false → spent_in (v.arrays m) y ≡ false
  -- it has the sectors that it had, and holds those that it gets (`holds_next`)
  pub sectors : (y : ℕ) → has_sector (v.arrays m) y ≡ true → has_sector next y ≡ true
  pub holds :
      (p : Promise) → IsPromised p w → Stands v v p vals a → p.live m ≡ true
      → ArrayInvariant v.state (shape_of (v.arrays m)) (v.arrays m) (vals m) (spent_at p m next) a

-- as it does where it gets none
pub holds_next : (m : ℕ) (next : View) (v : Raid) (p : Promise) (vals : ℕ → ℕ → Values) (a : RackView) → Stands v v p vals a → p.live m ≡ true → m < v.state.made → (v.arrays m).young ≡ false
    → ((y : ℕ) → has_sector (v.arrays m) y ≡ has_sector next y) → ArrayInvariant v.state (shape_of (v.arrays m)) (v.arrays m) (vals m) (spent_at p m next) a
holds_next m next v p vals a stands live low old same =
    subst (λ spent. ArrayInvariant v.state (shape_of (v.arrays m)) (v.arrays m) (vals m) spent a) (spent_same p m (v.arrays m) next same) (holds_grown v v p vals a stands m live low (grown_for p (v.arrays m) old))

-- what is spent by an array with more sectors is spent by one with fewer
spent_more : (growing spent was now : Bool) → (was ≡ true → now ≡ true) → ((growing && not was) || spent) ≡ false → ((growing && not now) || spent) ≡ false
spent_more false spent was now more is = is
spent_more true spent true now more is = ap (λ b. not b || spent) (more refl) ∙ is
spent_more true spent false now more is = absurd (let bad : true ≡ false = is in both_ways true bad refl)

-- what isn't spent, by whether the sectors alone are promised that an array has
pub unspent_parts : (growing has spent : Bool) → ((growing && not has) || spent) ≡ false → ((growing ≡ true) × (has ≡ true) × (spent ≡ false)) ⊎ ((growing ≡ false) × (spent ≡ false))
unspent_parts true true spent is = inl (refl, refl, is)
unspent_parts true false spent is = absurd (both_ways true is refl)
unspent_parts false has spent is = inr (refl, is)

-- A promise that can be kept until the run after it can be kept until the one before it.
module _ (m : ℕ) (next : View) (v w : Raid) (vals : ℕ → ℕ → Values) (a b : RackView) (call : StepsOnce m next v w vals a b)
    (p : Promise) (suits : Suits p (steps m next ∷ []) v) (promised : IsPromised p w) where
  low_in : (n : ℕ) → n < v.state.made → n < w.state.made
  low_in n low = subst (λ (s : State). n < s.made) (sym call.same) low

  had : (y : ℕ) → has_sector (v.arrays m) y ≡ true → has_sector (w.arrays m) y ≡ true
  had y has = (λ i. is_sector (frame_of (call.truth i)) (moved_to (call.truth i)) (call.young i) (first_unsynced (call.truth i)) y) ∙ call.sectors y has

  own_covers : p.live m ≡ true → IncludesSpent (v.arrays m) (spent_at p m (v.arrays m))
  own_covers live y alive = elim (unspent_parts p.growing (has_sector (v.arrays m) y) (p.spent m y) alive) [
    | inl at ↦
        call.spares y (inl at.1)
        (promised.covers m live (low_in m call.low) y (ap₂ (λ g h. (g && not h) || p.spent m y) at.0 (had y at.1) ∙ at.2))
    | inr at ↦
        elim suits.growing [
          | inl growing ↦ absurd (both_ways p.growing at.0 growing)
          | inr keeping ↦
              call.spares y (inr keeping.0)
              (promised.covers m live (low_in m call.low) y (ap (λ g. (g && not (has_sector (w.arrays m) y)) || p.spent m y) at.0 ∙ at.1))
        ]
  ]

  step_back : IsPromised p v
  step_back = record {
    is_one = promised.is_one;
    goes = λ n live low. call.goes n low (promised.goes n live (low_in n low));
    covers = λ n live low. elim (cases_eq n m) [
      | inl same ↦ subst (λ k. IncludesSpent (v.arrays k) (spent_at p k (v.arrays k))) (sym same) (own_covers (subst (λ k. p.live k ≡ true) same live))
      | inr apart ↦ subst (λ (u : View). IncludesSpent u (spent_at p n u)) (call.others n apart) (promised.covers n live (low_in n low))
    ];
  }

module _ (m : ℕ) (next : View) (v w : Raid) (vals : ℕ → ℕ → Values) (a b : RackView) (call : StepsOnce m next v w vals a b)
    (p : Promise) (promised : IsPromised p w) (stands : Stands v v p vals a) where
  low_after : m < w.state.made
  low_after = subst (λ (s : State). m < s.made) (sym call.same) call.low

  becomes : Becomes v.state (v.arrays m) next (w.arrays m) w.number (vals m) a b
  becomes = call.becomes p promised stands

  moves : (spent : ℕ → Bool) → IncludesSpent (w.arrays m) spent
      → CallMoves m a b (ArrayInvariant v.state (shape_of (v.arrays m)) (v.arrays m) (vals m) spent a) (SaysEither (v.arrays m) next v.state (vals m) spent a)
      (ArrayInvariant v.state (shape_of next) (w.arrays m) (vals m) spent b)
  moves spent covers =
      let moving = becomes.moving spent covers in
      let H = ArrayInvariant v.state (shape_of (v.arrays m)) (v.arrays m) (vals m) spent a in
      let Q = ArrayInvariant v.state (shape_of next) (w.arrays m) (vals m) spent b in
      subst (λ k. CallMoves k a b H (SaysEither (v.arrays m) next v.state (vals m) spent a) Q) call.number
      (record { stays = moving.stays; leaves = moving.leaves; holds = moving.holds; apart = moving.apart; calm = moving.calm; bounded = moving.bounded })

  kept : LogInvariant v.state w.number (gone_in w) b
  kept = call.gone becomes.kept

  sectors_after : (y : ℕ) → has_sector (w.arrays m) y ≡ has_sector next y
  sectors_after y = λ i. is_sector (frame_of (call.truth i)) (moved_to (call.truth i)) (call.young i) (first_unsynced (call.truth i)) y

  module _ (live : p.live m ≡ true) where
    holds : ArrayInvariant v.state (shape_of (v.arrays m)) (v.arrays m) (vals m) (spent_at p m next) a
    holds = call.holds p promised stands live

    covers : IncludesSpent (w.arrays m) (spent_at p m next)
    covers y alive = promised.covers m live low_after y (spent_other p m (w.arrays m) next sectors_after y ∙ alive)

    -- with the superblocks of a stop before it contents show the array as it was
    shows_old : (r : Image) → ImageShowsArray v.state m (shape_of (v.arrays m)) (vals m) (spent_at p m next) r → KeepsSupers m a r → ShowsArray v.state (v.arrays m) p m (vals m) r
    shows_old r says supers =
        let i = supers.0 in
        let left : IsLeft a i = supers.1 in
        let was = shows_same v.state (v.arrays m) p m (vals m) i (replayed a.sectors left.0) (λ place t. left.2 (member_slice place m) t) (stands.images left.0 left.1 m live call.low).shows in
        let truth : (t : Super) → truth_in v.state r m ≡ Some t → truth_in v.state i m ≡ Some t =
        λ t is. sym (truth_by_supers v.state r i m (λ place. super_of_sector v.state r i m place (supers.2 place))) ∙ is in
        record {
          says = record {
            shape_is = says.shape_is;
            value = λ y alive. says.value y (spent_more p.growing (p.spent m y) (has_sector (v.arrays m) y) (has_sector next y) (call.sectors y) alive);
            is_sound = says.is_sound;
          };
          rows = λ old is_kept t is. was.rows old is_kept t (truth t is);
          lacks = λ old wanted some t is. was.lacks old wanted some t (truth t is);
        }

    -- with these fields they show it once the step is done
    shows_new : (r : Image) → ImageShowsArray v.state m (shape_of next) (vals m) (spent_at p m next) r → HasFields v.state m next.truth r → ShowsArray v.state next p m (vals m) r
    shows_new r says fields =
        let rows : next.young ≡ false → (t : Super) → truth_in v.state r m ≡ Some t → next.resync ≤ first_unsynced t =
        λ old t is. let low = call.rows old in let at = ap first_unsynced (fields t is) in omega (arith, low, at) in
        record { says = says; rows = λ old is_kept. rows old; lacks = λ old wanted some. rows old }

    own : (r : Image) → SaysEither (v.arrays m) next v.state (vals m) (spent_at p m next) a r → ShowsArray v.state (v.arrays m) p m (vals m) r ⊎ ShowsArray v.state next p m (vals m) r
    own r either = elim either [
      | inl old ↦
          inl (shows_old r (subst (λ k. ImageShowsArray v.state k (shape_of (v.arrays m)) (vals m) (spent_at p m next) r) call.number old.0) (subst (λ k. KeepsSupers k a r) call.number old.1))
      | inr new ↦
          inr (shows_new r (subst (λ k. ImageShowsArray v.state k (shape_of next) (vals m) (spent_at p m next) r) call.number new.0) (subst (λ k. HasFields v.state k next.truth r) call.number new.1))
    ]

    after : ArrayInvariant v.state (shape_of next) (w.arrays m) (vals m) (spent_at p m next) b
    after = (moves (spent_at p m next) covers).holds holds

    images : (r : Image) → IsLeft b r → RestsArray v.state next p m (vals m) r
    images r left =
        let fields : HasFields v.state m next.truth r = subst (λ k. HasFields v.state k next.truth r) call.number (becomes.durable (spent_at p m next) covers holds r left) in
        let says : ImageShowsArray v.state m (shape_of next) (vals m) (spent_at p m next) r =
        subst (λ k. ImageShowsArray v.state k (shape_of next) (vals m) (spent_at p m next) r) call.number_after (after.shape.says r left) in
        record {
          shows = shows_new r says fields;
          truth = λ t is. earlier_same t next.truth (fields t is);
          mark = λ marked. absurd (both_ways next.marked call.unmarked marked);
          alone = λ place current other.
              subst (λ k. super_in v.state r k place ≡ None) (call.number_after ∙ sym call.next_number)
              (after.alone r left place current
              (λ k low here. other k (subst (λ (t : Super). k < t.raid_disks) call.truth low) (ap (λ (t : Super). unwrap_or (place_with t.roles.items k) 16) (sym call.truth) ∙ here)));
        }

    array : StandsArray next (w.arrays m) m (vals m) p b
    array =
        let was = stands.arrays m live call.low in
        record {
          number = call.number_after;
          book_number = call.next_number;
          few = call.few;
          written = call.written was.written;
          members = members_grown v.state (shape_of next) p (w.arrays m) m (vals m) (spent_at p m next) b call.number_after (grown_for p (w.arrays m) (call.young ∙ call.grown)) after;
          single = λ young. absurd (both_ways (p.growing && (w.arrays m).young) (grown_for p (w.arrays m) (call.young ∙ call.grown)) young);
          closed = λ none. subst (λ k. NothingPending k b) call.number_after (after.closed none);
          truth = subst (IsEarlier next.truth) (sym call.truth) (record { fields = refl; events = omega arith });
          mark = λ marked. absurd (both_ways (w.arrays m).marked call.unmarked_after marked);
          roles = ap (λ (t : Super). t.roles.items) call.truth;
          disks = ap (λ (t : Super). t.raid_disks) call.truth;
          sectors = sectors_after;
        }

  pub step_turning : Turning m next v w p vals a b
  step_turning = elim (cases_Bool (p.live m)) [
    | inl live ↦ record {
      H = ArrayInvariant v.state (shape_of (v.arrays m)) (v.arrays m) (vals m) (spent_at p m next) a;
      Q = ArrayInvariant v.state (shape_of next) (w.arrays m) (vals m) (spent_at p m next) b;
      P = SaysEither (v.arrays m) next v.state (vals m) (spent_at p m next) a;
      moves = moves (spent_at p m next) (covers live);
      kept = kept;
      own = λ is. (holds is, own is);
      images = images;
      array = array;
      alike = λ live marked. call.lost marked;
    }
    | inr none ↦ record {
      H = ArrayInvariant v.state (shape_of (v.arrays m)) (v.arrays m) (vals m) (λ y. true) a;
      Q = ArrayInvariant v.state (shape_of next) (w.arrays m) (vals m) (λ y. true) b;
      P = SaysEither (v.arrays m) next v.state (vals m) (λ y. true) a;
      moves = moves (λ y. true) (λ y alive. absurd (both_ways true alive refl));
      kept = kept;
      own = λ live. absurd (both_ways (p.live m) none live);
      images = images;
      array = array;
      alike = λ live marked. call.lost marked;
    }
  ]

pub step_makes : (m : ℕ) (next : View) (v w : Raid) (vals : ℕ → ℕ → Values) (a b : RackView)
    → StepsOnce m next v w vals a b → Makes (steps m next ∷ []) v v w vals vals a b
step_makes m next v w vals a b call =
    turn_makes (steps m next) m next v w vals vals a b call.low refl
    (record {
      grows = λ n y u may. may;
      values = λ n apart. refl;
      few = call.few;
      low = call.low;
      lasting = call.lasting;
      stays = call.stays;
      marked = call.marked;
      others = call.others;
      same = call.same;
      back = λ p suits promised. step_back m next v w vals a b call p suits promised;
      someone = call.someone;
      turning = λ p suits promised stands. step_turning m next v w vals a b call p promised stands;
    })
