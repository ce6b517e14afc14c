-- Slices that no array has come to the tables or go from them: the arrays keep what they have.
use Rattle.std.proofs.Common.{◌≡◌, ℕ, ◌+◌, ◌<◌, ◌≤◌, Bool, true, false, nat_lt, if◌then◌else◌, List, length, unwrap_or, refl, sym, ap, subst, ◌∙◌, inl, inr, arith}
use Rattle.std.proofs.lemmas.Bool.{cases_Bool}
use Rattle.rack.specs.Values.{Keeps, MayLeave, Values}
use Rattle.rack.specs.Seen.{Image, IsLive, RackView}
use Rattle.rack.specs.Joins.{keeps_same}
use Rattle.rack.specs.Targets.{Target, look}
use Rattle.pool_state.specs.Sector.{decoded}
use Rattle.pool_state.specs.declared.contents.State.{State}
use Rattle.array_image.specs.Arrays.{Member, arrays_in, replayed}
use Rattle.array_image.specs.Held.{Among}
use Rattle.array_image.specs.Left.{deciding, IsLeft, Picks, PicksLogs, reading}
use Rattle.array_image.specs.Places.{data_sector, log_slice, member_slice, super_sector}
use Rattle.array_image.specs.Record.{gate_sector, pending}
use Rattle.array_image.specs.Supers.{super_of}
use Rattle.array_image.proofs.Frames.{SameSupers, state_same, truth_by_supers}
use Rattle.array_image.proofs.Replays.{SameLogs, replayed_as_is, replayed_same, whole_same}
use Rattle.array_model.specs.Says.{ArrayInvariant, ShapeInvariant}
use Rattle.array_model.specs.View.{View, may_vary, place_at, shape_of}
use Rattle.array_model.proofs.Firsts.{position_of}
use Rattle.array_model.proofs.Keeping.{KeepsData, even_kept, held_kept, logs_of, reading_live, reading_outside, same_value, settled_kept}
use Rattle.array_model.proofs.Views.{shape_members}
use Rattle.log_laws.specs.Commits.{Stands}
use Rattle.log_laws.specs.Kept.{LogInvariant}
use Rattle.log_laws.proofs.Kept.{kept_idle}
use Rattle.raid_laws.specs.Laws.{live_parts}
use Rattle.raid_laws.specs.Moves.{IsHeeded, IsSet}
use Rattle.raid_laws.specs.Raid.{AreLive, held_in, InvariantInCall, is_failed, IsTracked, Raid, raid_of, spent_of}
use Rattle.raid_laws.proofs.Own.{look_nothing}
use Rattle.raid_laws.proofs.Whole.{stood_keeps, stood_own}
use Rattle.transition_laws.specs.Growth.{KeepsOldSectors}
use Rattle.growth_laws.proofs.KeepsOld.{joined_most}
use Rattle.raid_rack.specs.BareSlices.{AreBare, HasNoSuper}
use Rattle.raid_rack.proofs.LaidImages.{arrays_alike, says_alike, supers_alike}

-- All slices but these are the same, and so is what a stop left of them at each moment. None of these is a log slice.
pub record DiffersOn (own : ℕ → Bool) (x y : RackView) : Type 0 where
  pub clock : y.clock ≡ x.clock
  pub logs : (p : ℕ) → own (log_slice p) ≡ false
  pub sectors : (d : ℕ) → own d ≡ false → y.sectors d ≡ x.sectors d
  pub held : (d t : ℕ) → own d ≡ false → y.held d t ≡ x.held d t
  pub live : (d t : ℕ) → own d ≡ false → IsLive x x d t → IsLive y y d t
  pub earlier : (k : ℕ) (c : Image) → y.stops k c → (e : Image) × x.stops k e × ((d t : ℕ) → own d ≡ false → c d t ≡ e d t)
  pub later : (k : ℕ) (c : Image) → x.stops k c → (e : Image) × y.stops k e × ((d t : ℕ) → own d ≡ false → c d t ≡ e d t)

-- no member of an array is on these slices
abbrev pub HasNone : (ℕ → Bool) → View → Type 0
HasNone own v = (k : ℕ) → k < v.truth.raid_disks → own (member_slice (place_at v k) v.number) ≡ false

-- contents with these slices as they read before
abbrev back : (ℕ → Bool) → RackView → Image → Image
back own x c = λ d t. if own d then reading x d t else c d t

module _ (own : ℕ → Bool) (x y : RackView) (differs : DiffersOn own x y) where
  back_off : (c : Image) (d t : ℕ) → own d ≡ false → back own x c d t ≡ c d t
  back_off c d t off = ap (λ (b : Bool). if b then reading x d t else c d t) off

  back_on : (c : Image) (d t : ℕ) → own d ≡ true → back own x c d t ≡ reading x d t
  back_on c d t is = ap (λ (b : Bool). if b then reading x d t else c d t) is

  picked : (c : Image) (d t : ℕ) → IsLive x x d t → (IsLive y y d t → MayLeave (y.held d t) (c d t)) → MayLeave (x.held d t) (back own x c d t)
  picked c d t live left =
      elim (cases_Bool (own d)) [
        | inl is ↦ inl (back_on c d t is ∙ reading_live x d t live)
        | inr off ↦
            subst (MayLeave (x.held d t)) (sym (back_off c d t off))
            (subst (λ h. MayLeave h (c d t)) (differs.held d t off) (left (differs.live d t off live)))
      ]

  picks_back : (c : Image) → Picks y c → Picks x (back own x c)
  picks_back c picks = record {
    picks = λ d t live. picked c d t live (picks.picks d t);
    inside = λ d t past. elim (cases_Bool (own d)) [
      | inl is ↦ back_on c d t is ∙ reading_outside x d t past
      | inr off ↦ back_off c d t off ∙ picks.inside d t (subst (λ k. k ≤ t) (sym (differs.sectors d off)) past)
    ];
  }

  -- of the log slices it is the same
  old_log : (p t : ℕ) (u : List ℕ) → MayLeave (y.held (log_slice p) t) u → MayLeave (x.held (log_slice p) t) u
  old_log p t u left = subst (λ h. MayLeave h u) (differs.held (log_slice p) t (differs.logs p)) left

  old_size : (p t : ℕ) → t < y.sectors (log_slice p) → t < x.sectors (log_slice p)
  old_size p t there = subst (λ k. t < k) (differs.sectors (log_slice p) (differs.logs p)) there

  logs_back : (c : Image) → PicksLogs y c → PicksLogs x c
  logs_back c stand = record {
    picks = λ p t live. old_log p t (c (log_slice p) t) (stand.picks p t (differs.live (log_slice p) t (differs.logs p) live));
    inside = λ p t past. stand.inside p t (subst (λ k. k ≤ t) (sym (differs.sectors (log_slice p) (differs.logs p))) past);
  }

  stands_back : (c : Image) → Stands y c → Stands x (back own x c)
  stands_back c stand = record {
    picks = λ d t live. picked c d t live (stand.picks d t);
    inside = λ p t past.
        back_off c (log_slice p) t (differs.logs p) ∙ stand.inside p t (subst (λ k. k ≤ t) (sym (differs.sectors (log_slice p) (differs.logs p))) past);
  }

  module _ (s : State) (number : ℕ) (kept : LogInvariant s number (λ p. false) x) where
    as_was : (c : Image) (d t : ℕ) → PicksLogs x c → replayed x.sectors c d t ≡ c d t
    as_was c d t stand =
        replayed_as_is x.sectors c d t (ap (λ (xs : List Target). look xs d t) (kept_idle s number (λ p. false) x c kept stand (λ p current. refl)) ∙ look_nothing d t)

    as_is : (c : Image) (d t : ℕ) → PicksLogs y c → replayed y.sectors c d t ≡ c d t
    as_is c d t stand =
        replayed_as_is y.sectors c d t
        (ap (λ (xs : List Target). look xs d t) (kept_idle s number (λ p. false) x c kept (logs_back c stand) (λ p current. refl)) ∙ look_nothing d t)

    live_log : (p t : ℕ) → p < 16 → t < y.sectors (log_slice p) → IsLive y y (log_slice p) t
    live_log p t few within = differs.live (log_slice p) t (differs.logs p) (kept.logs p t few (old_size p t within))

    stands_logs : (c : Image) → Stands y c → PicksLogs y c
    stands_logs c stand = record { picks = λ p t live. stand.picks (log_slice p) t live; inside = stand.inside }

    logs_now : LogInvariant s number (λ p. false) y
    logs_now = record {
      logs = live_log;
      few = kept.few;
      there = λ p current left. subst (λ k. 0 < k) (sym (differs.sectors (log_slice p) (differs.logs p))) (kept.there p current left);
      copies = record {
        own = λ p u current left may. kept.copies.own p u current left (old_log p 0 u may);
        others = λ p u copy few there may is. kept.copies.others p u copy few (old_size p 0 there) (old_log p 0 u may) is;
        earlier = λ p u copy few current there may is. kept.copies.earlier p u copy few current (old_size p 0 there) (old_log p 0 u may) is;
      };
      numbers = λ p current there u may. kept.numbers p current (old_size p gate_sector there) u (old_log p gate_sector u may);
      halves = λ c stand. kept.halves c (logs_back c stand);
      whole = λ c stand. whole_same c (back own x c) (λ p t. sym (back_off c (log_slice p) t (differs.logs p))) (kept.whole (back own x c) (stands_back c stand));
      idle = λ c stand. kept.idle c (logs_back c stand);
      closed = λ all p current there u g may is. kept.closed all p current (old_size p gate_sector there) u g (old_log p gate_sector u may) is;
      quiet = λ c stand d t none. as_is c d t (stands_logs c stand);
      brought = λ c p copy stand few there is.
          kept.copies.others p (c (log_slice p) 0) copy few (old_size p 0 there) (old_log p 0 (c (log_slice p) 0) (stand.picks (log_slice p) 0 (live_log p 0 few there)))
          (sym (ap decoded (as_is c (log_slice p) 0 (stands_logs c stand))) ∙ is);
    }

    -- what a stop leaves is what one left, but for these slices
    left_same : (r : Image) → IsLeft y r → (e : Image) × IsLeft x e × ((d t : ℕ) → own d ≡ false → r d t ≡ e d t)
    left_same r left =
        let c = left.0 in
        let e = back own x c in
        let picks = picks_back c left.1 in (
          replayed x.sectors e,
          (e, picks, λ d t. refl),
          λ d t off. left.2 d t ∙ as_is c d t (logs_of c left.1) ∙ sym (back_off c d t off) ∙ sym (as_was e d t (logs_of e picks)),
        )

    -- none of them has a superblock there
    bare_now : (r : Image) → AreBare own y → IsLeft y r → HasNoSuper own r
    bare_now r bare left d is = ap super_of (left.2 d super_sector ∙ as_is left.0 d super_sector (logs_of left.0 left.1)) ∙ bare.now left.0 left.1 d is

    bare_was : (r : Image) → AreBare own x → IsLeft x r → HasNoSuper own r
    bare_was r bare left d is = ap super_of (left.2 d super_sector ∙ as_was left.0 d super_sector (logs_of left.0 left.1)) ∙ bare.now left.0 left.1 d is

    module _ (was : AreBare own x) (now : AreBare own y) (v : View) (none : HasNone own v) where
      abbrev m : ℕ
      m = v.number

      counts_off : (k : Member) → Among k (shape_of v).members → own (member_slice k.place m) ≡ false
      counts_off k among =
          let at = position_of v v.truth.raid_disks k (subst (Among k) (shape_members v) among) in
          subst (λ (o : Member). own (member_slice o.place m) ≡ false) (sym at.2) (none at.0 at.1)

      supers : (r : Image) (left : IsLeft y r) → SameSupers s m r (left_same r left).0
      supers r left =
          let at = left_same r left in
          supers_alike own r at.0 at.2 (bare_now r now left) (bare_was at.0 was at.1) s m

      alike : KeepsData (shape_of v) m x.held y.held
      alike k z among reached =
          let d = member_slice k.place m in
          subst (λ h. Keeps (x.held d (data_sector + z)) h) (sym (differs.held d (data_sector + z) (counts_off k among))) (keeps_same (x.held d (data_sector + z)))

      shape_now : (resync : ℕ) (vary : Bool) (vals : ℕ → Values) (spent : ℕ → Bool)
          → ShapeInvariant s m (shape_of v) (shape_of v) resync vary vals spent x → ShapeInvariant s m (shape_of v) (shape_of v) resync vary vals spent y
      shape_now resync vary vals spent holds = record {
        open_slices = λ k z among reached. differs.live (member_slice k.place m) (data_sector + z) (counts_off k among) (holds.open_slices k z among reached);
        open_left = λ k z among reached. differs.live (member_slice k.place m) (data_sector + z) (counts_off k among) (holds.open_left k z among reached);
        says = λ r left.
            let at = left_same r left in
            says_alike s m r at.0 (supers r left) (shape_of v) (λ k z among reached. at.2 (member_slice k.place m) (data_sector + z) (counts_off k among)) vals spent
            (holds.says at.0 at.1);
        still = λ c picks k z among reached. as_is c (member_slice k.place m) (data_sector + z) (logs_of c picks);
        within = λ z alive u left. holds.within z alive u (held_kept x.held y.held (shape_of v) m z alike u left);
        current = λ z alive. same_value x.held y.held (shape_of v) m z alike ∙ holds.current z alive;
        sized = λ k z among reached. ap length (alike k z among reached).current ∙ holds.sized k z among reached;
        even = even_kept x.held y.held (shape_of v) m resync alike holds.even;
        settled = λ steady. settled_kept x.held y.held (shape_of v) m alike (holds.settled steady);
      }

      holds_now : (vals : ℕ → Values) (spent : ℕ → Bool) → ArrayInvariant s (shape_of v) v vals spent x → ArrayInvariant s (shape_of v) v vals spent y
      holds_now vals spent holds = record {
        shape = shape_now v.resync (may_vary v) vals spent holds.shape;
        mark = λ marked r left t is.
            let at = left_same r left in
            holds.mark marked at.0 at.1 t (sym (truth_by_supers s r at.0 m (supers r left)) ∙ is);
        alone = λ r left p current foreign.
            let at = left_same r left in
            supers r left p ∙ holds.alone at.0 at.1 p current foreign;
        closed = λ idle c picks p t. as_is c (member_slice p m) t picks;
        truth = λ r left t is.
            let at = left_same r left in
            holds.truth at.0 at.1 t (sym (truth_by_supers s r at.0 m (supers r left)) ∙ is);
      }

  resized : (e : Image) (d t : ℕ) → x.sectors d ≡ y.sectors d → replayed x.sectors e d t ≡ replayed y.sectors e d t
  unfolding replayed
  resized e d t size = ap (λ k. if nat_lt t k then unwrap_or (look (pending (deciding e) e) d t) (e d t) else e d t) size

  -- a moment's contents of the arrays are the same by both
  moment_same : (c e : Image) → ((d t : ℕ) → own d ≡ false → c d t ≡ e d t) → HasNoSuper own (replayed x.sectors c) → HasNoSuper own (replayed y.sectors e)
      → (j z : ℕ) → arrays_in (replayed x.sectors c) j z ≡ arrays_in (replayed y.sectors e) j z
  moment_same c e same bare bare_too =
      let logs : SameLogs c e = λ p t. same (log_slice p) t (differs.logs p) in
      let off : (d t : ℕ) → own d ≡ false → replayed x.sectors c d t ≡ replayed y.sectors e d t =
      λ d t other. replayed_same x.sectors c e d t logs (same d t other) ∙ resized e d t (sym (differs.sectors d other)) in
      arrays_alike own (replayed x.sectors c) (replayed y.sectors e) off bare bare_too
      (state_same (replayed x.sectors c) (replayed y.sectors e) (λ p. off (log_slice p) 0 (differs.logs p)))

  module _ (v : Raid) (set : IsSet v x) (set_now : IsSet v y) (heeded : IsHeeded v) (was : AreBare own x) (now : AreBare own y)
      (none : (n : ℕ) → n < v.state.made → HasNone own (v.arrays n)) where
    module _ (n : ℕ) (told : IsTracked v x n) (goes : is_failed v n ≡ false) where
      low : n < v.state.made
      low = let some = (told.stood goes).someone in let most = joined_most v x some.0 set some.1 in let ready = told.joined in omega (arith, most, ready)

      stood : InvariantInCall v.state (shape_of (v.arrays n)) (held_in v x n) (spent_of v n) (λ place. false) v y n
      stood =
          let before = told.stood goes in
          record {
            joined = before.joined;
            few = before.few;
            number = before.number;
            log = logs_now v.state v.number before.log;
            someone = before.someone;
            written = before.written;
            holds = holds_now v.state v.number before.log was now (v.arrays n) (none n low) (held_in v x n) (spent_of v n) before.holds;
          }

      slices : AreLive v.state.made y
      slices j p t made few within = elim (cases_Bool (own (member_slice p j))) [
        | inl is ↦ now.live (member_slice p j) t is within
        | inr off ↦ differs.live (member_slice p j) t off (told.slices goes j p t made few (subst (λ k. t < k) (differs.sectors (member_slice p j) off) within))
      ]

    -- AS A RACK, THE ARRAYS KEEP WHAT THEY HAVE
    pub differs_old : {F G : Type 0} {r q : ℕ → ℕ} → KeepsOldSectors v.state.joined (raid_of F r v x) (raid_of G q v y)
    differs_old = record {
      told = λ n ready told. record {
        joined = told.joined;
        stood = λ goes. stood_own v y n (held_in v x n) heeded set_now (low n told goes) (stood n told goes);
        slices = λ goes. slices n told goes;
      };
      spent = λ n z ready inside alive. alive;
      held = λ n z ready told inside alive. stood_keeps v y n z (held_in v x n) (stood n told (live_parts v n z alive).0) alive;
      stops = λ traced n z ready told inside alive. record {
        later = let same = differs.clock in omega (arith, same);
        kept = λ k c until left.
            let e = differs.later k left.0 left.1 in
            (e.0, e.1, λ j w. left.2 j w ∙ moment_same left.0 e.0 e.2 (was.before k left.0 until left.1) (now.before k e.0 (let same = differs.clock in omega (arith, same, until)) e.1) j w);
        past = λ k c until left.
            let e = differs.earlier k left.0 left.1 in (
              e.0,
              e.1,
              λ j w. left.2 j w
                  ∙ sym (moment_same e.0 left.0 (λ d t off. sym (e.2 d t off)) (was.before k e.0 until e.1) (now.before k left.0 (let same = differs.clock in omega (arith, same, until)) left.1) j w),
            );
        new = λ k c after until left. absurd (let same = differs.clock in omega (arith, same, after, until));
      };
    }
