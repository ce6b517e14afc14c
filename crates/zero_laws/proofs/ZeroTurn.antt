-- A call that zeroes rows of a young array makes that change of the book.
use Rattle.std.proofs.Common.{◌≡◌, ◌⊎◌, ℕ, ◌<◌, Bool, true, false, ◌&&◌, ◌||◌, not, if◌then◌else◌, List, [], ◌∷◌, None, Some, unwrap_or, refl, sym, ap, ap₂, subst, ◌∙◌, inl, inr, arith}
use Rattle.std.proofs.lemmas.Bool.{and_from, both_ways, cases_Bool}
use Rattle.rack.specs.Values.{Values}
use Rattle.rack.specs.Seen.{Image, RackView, SameRack}
use Rattle.md_super.specs.declared.superblock.Super.{Super}
use Rattle.parity.specs.Xor.{zeros}
use Rattle.pool_state.specs.declared.contents.State.{State}
use Rattle.array_image.specs.Arrays.{place_with, Shape, value_by}
use Rattle.array_image.specs.Held.{current_in, IsSynced}
use Rattle.array_image.specs.Left.{IsLeft, NothingPending}
use Rattle.array_image.specs.SoundArray.{first_unsynced}
use Rattle.array_image.specs.States.{is_current}
use Rattle.array_image.specs.Supers.{super_in, truth_in}
use Rattle.log_laws.specs.Kept.{LogInvariant}
use Rattle.array_model.specs.ArrayCalls.{HasFields, IncludesSpent, KeepsSupers, StepRefines}
use Rattle.array_model.specs.Members.{Notes}
use Rattle.array_model.specs.Says.{ArrayInvariant, ImageShowsArray, IsEarlier, ShapeInvariant}
use Rattle.array_model.specs.View.{has_gone, may_vary, shape_of, View}
use Rattle.array_model.proofs.Moves.{CallRefines as CallMoves}
use Rattle.sync_laws.specs.Steps.{HasZeros, if_done, MayZero, resynced, zeroed, zeroing}
use Rattle.sync_laws.proofs.Views.{next_shape}
use Rattle.sync_laws.proofs.ZeroStaged.{IsYoung, zeroed_array}
use Rattle.raid_laws.specs.Frames.{frame_of}
use Rattle.raid_laws.specs.Moves.{AreMarked}
use Rattle.raid_laws.specs.Raid.{gone_in, is_failed, IsWritten, Raid}
use Rattle.raid_laws.proofs.Marking.{earlier_same}
use Rattle.transition_laws.specs.Changes.{steps}
use Rattle.transition_laws.specs.Holds.{has_sector, HoldsMembers, IsPromised, IsSameArrayAs, is_sector, moved_to, Promise, RestsArray, spent_at, Stands, StandsArray}
use Rattle.transition_laws.specs.Makes.{Makes, Suits}
use Rattle.transition_laws.proofs.Shown.{members_of, spent_other}
use Rattle.transition_laws.proofs.StepMakes.{unspent_parts}
use Rattle.transition_laws.proofs.SteppedMakes.{step_noted}
use Rattle.transition_laws.proofs.TurnMakes.{turn_makes, Turning}
use Rattle.transition_laws.proofs.ZeroMakes.{may_zero, zero_back, zero_shows, zeroing_holds, ZeroesOnce}
use Rattle.zero_laws.specs.Zeroing.{FitsZero}
use Rattle.zero_laws.proofs.NewRows.{HoldsZeros, wider}
use Rattle.zero_laws.proofs.NextRows.{gets_next, zeroed_shape, zeroing_shape}

-- Such a call that is done, where nobody has gone before it, and of values that fit.
pub record ZeroesYoung (m rows : ℕ) (v w : Raid) (on : List ℕ) (vals : ℕ → ℕ → Values) (a b : RackView) (answered : Bool) : Type 0 where
  pub once : ZeroesOnce m rows v w on vals a b answered
  pub done : once.call.is_done ≡ true
  pub few : m < 16
  pub lasting : a.lasting
  pub stays : SameRack a b
  pub marked : AreMarked v
  pub someone : (n : ℕ) → is_failed w n ≡ false → (place : ℕ) × (is_current v.state place ≡ true) × (gone_in w place ≡ false)
  pub is_young : IsYoung (v.arrays m) rows
  pub gone : LogInvariant v.state w.number (has_gone (w.arrays m)) b → LogInvariant v.state w.number (gone_in w) b
  pub written : IsWritten (v.arrays m) → IsWritten (w.arrays m)
  pub lost : AreMarked w → IsSameArrayAs (zeroed (v.arrays m) rows) (w.arrays m)
  pub fits : FitsZero v m a vals

module _ (m rows : ℕ) (v w : Raid) (on : List ℕ) (vals : ℕ → ℕ → Values) (a b : RackView) (answered : Bool) (call : ZeroesYoung m rows v w on vals a b answered) where
  abbrev u : View
  u = v.arrays m

  abbrev z : View
  z = w.arrays m

  abbrev next : View
  next = zeroed (v.arrays m) rows

  noted : Notes (zeroed (v.arrays m) rows) (w.arrays m) a b
  noted = step_noted call.once.call.is_done u next z a b call.once.call.view call.done

  number_after : (w.arrays m).number ≡ m
  number_after = noted.same.number ∙ call.once.number

  sectors_after : (y : ℕ) → has_sector (w.arrays m) y ≡ has_sector (zeroed (v.arrays m) rows) y
  sectors_after y =
      λ i. is_sector (frame_of (noted.same.truth i)) (moved_to (noted.same.truth i)) (noted.same.young i) (first_unsynced (noted.same.truth i)) y

  -- what contents say meanwhile, with the superblocks from before or the new ones
  abbrev Says : (ℕ → Bool) → Image → Type 0
  Says spent r =
      (ImageShowsArray v.state (v.arrays m).number (shape_of (zeroing (v.arrays m))) (vals m) spent r × KeepsSupers (v.arrays m).number a r)
      ⊎ (ImageShowsArray v.state (v.arrays m).number (shape_of (resynced (zeroing (v.arrays m)) rows)) (vals m) spent r
      × HasFields v.state (v.arrays m).number (resynced (zeroing (v.arrays m)) rows).truth r)

  abbrev Held : (ℕ → Bool) → Type 0
  Held spent = ArrayInvariant v.state (shape_of (zeroing (v.arrays m))) (zeroing (v.arrays m)) (vals m) spent a

  abbrev HeldAfter : (ℕ → Bool) → Type 0
  HeldAfter spent = ArrayInvariant v.state (shape_of (resynced (zeroing (v.arrays m)) rows)) (zeroing (w.arrays m)) (vals m) spent b

  moves : (spent : ℕ → Bool) → MayZero v.state (v.arrays m) (w.arrays m) rows spent v.number on a → CallMoves m a b (Held spent) (Says spent) (HeldAfter spent)
  moves spent may =
      let g = zeroing u in
      let moving : StepRefines v.state g (resynced g rows) (zeroing z) spent a b (vals m) (shape_of (resynced g rows)) (vals m) =
      subst (λ d. StepRefines v.state g (resynced g rows) (zeroing z) spent a b (vals m) (if_done d (shape_of g) (shape_of (resynced g rows))) (vals m)) call.done
      (call.once.call.moving v.state (vals m) spent may) in
      subst (λ k. CallMoves k a b (Held spent) (Says spent) (HeldAfter spent)) call.once.number
      (record { stays = moving.stays; leaves = moving.leaves; holds = moving.holds; apart = moving.apart; calm = moving.calm; bounded = moving.bounded })

  module _ (p : Promise) (growing : p.growing ≡ true) (promised : IsPromised p w) (stands : Stands v v p vals a) where
    low_after : m < w.state.made
    low_after = subst (λ (s : State). m < s.made) (sym call.once.same) call.once.low

    kept : LogInvariant v.state w.number (gone_in w) b
    kept = call.gone (call.once.call.kept v.state (call.once.step p promised stands))

    -- what the call needs where nothing of the array is promised
    unpromised : MayZero v.state (v.arrays m) (w.arrays m) rows (λ y. true) v.number on a
    unpromised = record {
      step = call.once.step p promised stands;
      covers = λ y alive. absurd (both_ways true alive refl);
      aside = λ y alive. absurd (both_ways true alive refl);
      single = subst (λ (sh : Shape). IsSynced sh u.number a.held) (sym (zeroing_shape u)) (subst (λ k. IsSynced (shape_of u) k a.held) (sym call.once.number) call.fits.single);
    }

    module _ (live : p.live m ≡ true) where
      abbrev old : ℕ → Bool
      old = spent_at p m (v.arrays m)

      abbrev spent : ℕ → Bool
      spent = spent_at p m (zeroed (v.arrays m) rows)

      may : MayZero v.state (v.arrays m) (w.arrays m) rows (spent_at p m (v.arrays m)) v.number on a
      may = may_zero m rows v w on vals a b answered call.once p growing promised stands live

      holds : ArrayInvariant v.state (shape_of (zeroing (v.arrays m))) (zeroing (v.arrays m)) (vals m) (spent_at p m (v.arrays m)) a
      holds = zeroing_holds m rows v w on vals a b answered call.once p growing promised stands live

      after : HeldAfter (spent_at p m (v.arrays m))
      after = (moves old may).holds holds

      has_zeros : HasZeros v.state (v.arrays m) (w.arrays m) rows b
      has_zeros = call.once.call.row call.done v.state (vals m) old may holds

      covers : IncludesSpent (w.arrays m) (spent_at p m (zeroed (v.arrays m) rows))
      covers y alive = promised.covers m live low_after y (spent_other p m z next sectors_after y ∙ alive)

      single : IsSynced (shape_of (w.arrays m)) m b.held
      single =
          subst (λ (sh : Shape). IsSynced sh m b.held) (zeroing_shape z)
          (subst (λ k. IsSynced (shape_of (zeroing z)) k b.held) number_after has_zeros.single)

      -- the array is as long by each of these shapes
      durable : shape_of (resynced (zeroing (v.arrays m)) rows) ≡ shape_of (zeroed (v.arrays m) rows)
      durable = next_shape (zeroing u) rows ∙ zeroing_shape u ∙ sym (zeroed_shape u rows)

      -- a sector that isn't spent after it wasn't before it, or is of the rows that are zeroed
      either : (y : ℕ) → spent_at p m (zeroed (v.arrays m) rows) y ≡ false
          → (spent_at p m (v.arrays m) y ≡ false) ⊎ HoldsZeros m (shape_of (zeroed (v.arrays m) rows)) (shape_of (w.arrays m)) (vals m) b y
      either y alive = elim (unspent_parts p.growing (has_sector next y) (p.spent m y) alive) [
        | inr none ↦ absurd (both_ways p.growing none.0 growing)
        | inl at ↦ elim (cases_Bool (has_sector u y)) [
          | inl had ↦ inl (ap₂ (λ g h. (g && not h) || p.spent m y) at.0 had ∙ at.2)
          | inr lacks ↦
              let got = gets_next u rows call.is_young call.fits.steady y at.1 lacks in
              inr (record {
                value = call.fits.zeros y got.0 lacks;
                current =
                    subst (λ (sh : Shape). value_by sh (current_in b.held) m y ≡ zeros 512) (zeroing_shape z)
                    (subst (λ k. value_by (shape_of (zeroing z)) (current_in b.held) k y ≡ zeros 512) number_after (has_zeros.current y got.1));
                stops = λ r left.
                    subst (λ (sh : Shape). value_by sh r m y ≡ zeros 512) (zeroing_shape u ∙ sym (zeroed_shape u rows))
                    (subst (λ k. value_by (shape_of (zeroing u)) r k y ≡ zeros 512) call.once.number (has_zeros.zeros r left y got.1));
              })
        ]
      ]

      shape : ShapeInvariant v.state m (shape_of (zeroed (v.arrays m) rows)) (shape_of (w.arrays m)) (first_unsynced (w.arrays m).truth) (may_vary (w.arrays m)) (vals m)
          (spent_at p m (zeroed (v.arrays m) rows)) b
      shape =
          let first = first_unsynced z.truth in
          wider v.state m first (may_vary z) next z (vals m) old spent a b (zeroed_array u rows call.is_young) noted
          (subst (λ (sh : Shape). ShapeInvariant v.state m sh (shape_of z) first (may_vary z) (vals m) old b) durable
          (subst (λ (sh : Shape). ShapeInvariant v.state m (shape_of (resynced (zeroing u) rows)) sh first (may_vary z) (vals m) old b) (zeroing_shape z)
          (subst (λ k. ShapeInvariant v.state k (shape_of (resynced (zeroing u) rows)) (shape_of (zeroing z)) first (may_vary z) (vals m) old b) number_after after.shape)))
          covers single either

      images : (r : Image) → IsLeft b r → RestsArray v.state (zeroed (v.arrays m) rows) p m (vals m) r
      images r left = record {
        shows = record {
          says = shape.says r left;
          rows = λ grown. absurd (both_ways u.young grown call.once.young);
          lacks = λ grown. absurd (both_ways u.young grown call.once.young);
        };
        truth = λ t is. earlier_same t next.truth (has_zeros.durable r left t (subst (λ k. truth_in v.state r k ≡ Some t) (sym call.once.number) is));
        mark = λ marked. absurd (both_ways false refl marked);
        alone = λ place current other.
            subst (λ k. super_in v.state r k place ≡ None) noted.same.number
            (after.alone r left place current
            (λ k low here. other k (subst (λ (t : Super). k < t.raid_disks) noted.same.truth low) (ap (λ (t : Super). unwrap_or (place_with t.roles.items k) 16) (sym noted.same.truth) ∙ here)));
      }

      array : StandsArray (zeroed (v.arrays m) rows) (w.arrays m) m (vals m) p b
      array = record {
        number = number_after;
        book_number = call.once.number;
        few = call.few;
        written = call.written (stands.arrays m live call.once.low).written;
        members =
            subst (λ k. HoldsMembers m (shape_of next) (shape_of z) k (may_vary z) (vals m) spent b)
            (sym (ap (λ (t : Bool). if t then first_unsynced z.truth else z.resync) (and_from p.growing z.young growing call.once.young_after)))
            (members_of v.state m (shape_of next) (shape_of z) (first_unsynced z.truth) (may_vary z) (vals m) spent b shape);
        single = λ young. single;
        closed = λ none. subst (λ k. NothingPending k b) number_after (after.closed none);
        truth = subst (IsEarlier next.truth) (sym noted.same.truth) (record { fields = refl; events = omega arith });
        mark = λ marked. absurd (both_ways z.marked noted.same.marked marked);
        roles = ap (λ (t : Super). t.roles.items) noted.same.truth;
        disks = ap (λ (t : Super). t.raid_disks) noted.same.truth;
        sectors = sectors_after;
      }

    turning : Turning m (zeroed (v.arrays m) rows) v w p vals a b
    turning = elim (cases_Bool (p.live m)) [
      | inl live ↦ record {
        H = Held (spent_at p m u);
        Q = HeldAfter (spent_at p m u);
        P = Says (spent_at p m u);
        moves = moves (spent_at p m u) (may live);
        kept = kept;
        own = λ is. (holds is, λ r says. inl (zero_shows m rows v w on vals a b answered call.once p growing promised stands is r says));
        images = images;
        array = array;
        alike = λ is marked. call.lost marked;
      }
      | inr none ↦ record {
        H = Held (λ y. true);
        Q = HeldAfter (λ y. true);
        P = Says (λ y. true);
        moves = moves (λ y. true) unpromised;
        kept = kept;
        own = λ live. absurd (both_ways (p.live m) none live);
        images = images;
        array = array;
        alike = λ is marked. call.lost marked;
      }
    ]

-- THIS IS ALL THAT IT MAKES OF THE BOOK
pub zeroes_makes : (m rows : ℕ) (v w : Raid) (on : List ℕ) (vals : ℕ → ℕ → Values) (a b : RackView) (answered : Bool) → ZeroesYoung m rows v w on vals a b answered
    → Makes (steps m (zeroed (v.arrays m) rows) ∷ []) v v w vals vals a b
zeroes_makes m rows v w on vals a b answered call =
    let next = zeroed (v.arrays m) rows in
    let growing : (p : Promise) → Suits p (steps m next ∷ []) v → p.growing ≡ true = λ p suits. elim suits.growing [
      | inl growing ↦ growing
      | inr keeping ↦ absurd (both_ways (v.arrays m).young keeping.0.ready call.once.young)
    ] in
    turn_makes (steps m next) m next v w vals vals a b call.once.low refl
    (record {
      grows = λ n y x may. may;
      values = λ n apart. refl;
      few = call.few;
      low = call.once.low;
      lasting = call.lasting;
      stays = call.stays;
      marked = call.marked;
      others = call.once.others;
      same = call.once.same;
      back = λ p suits promised. zero_back m rows v w on vals a b answered call.once p (growing p suits) promised;
      someone = call.someone;
      turning = λ p suits promised stands. turning m rows v w on vals a b answered call p (growing p suits) promised stands;
    })
