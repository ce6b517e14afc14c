-- What log slices say at each moment of a replay: the state that they say once it is whole.
use Rattle.std.proofs.Common.{◌≡◌, ◌⊎◌, ℕ, ◌<◌, ◌≤◌, ◌==◌, ◌&&◌, ◌||◌, not, Bool, true, false, nat_lt, bytes_eq, List, [], Option, Some, None, Ok, refl, sym, ap, subst, ◌∙◌, inl, inr, arith, eq-eqb, lt-ltb, le-ltb}
use Rattle.std.specs.Option.{option_map_or}
use Rattle.std.specs.Result.{result_ok}
use Rattle.std.proofs.lemmas.Bool.{and_from, and_parts, both_ways, cases_Bool, cases_lt, ne_eqb, or_parts}
use Rattle.std.proofs.lemmas.Option.{none-some}
use Rattle.std.proofs.lemmas.Slice.Eq.{bytes_eq-Decides}
use Rattle.rack.specs.Values.{MayLeave}
use Rattle.rack.specs.Moments.{Leaves}
use Rattle.rack.specs.Seen.{Image, IsLive, RackView}
use Rattle.rack.specs.Targets.{Target, look}
use Rattle.pool_state.specs.declared.contents.Copied.{Copied}
use Rattle.pool_state.specs.declared.contents.State.{State}
use Rattle.pool_state.specs.Sector.{decoded}
use Rattle.array_image.specs.Left.{TargetsInside}
use Rattle.array_image.specs.Places.{log_slice, place_of, slice_of}
use Rattle.array_image.specs.Record.{gate_of, gate_sector, pending, pending_at}
use Rattle.array_image.specs.States.{current_places, is_current, state_in}
use Rattle.array_image.specs.Arrays.{replayed}
use Rattle.array_image.proofs.Frames.{state_same}
use Rattle.log_laws.specs.View.{LogView}
use Rattle.log_laws.specs.Standing.{IsInside, IsWhole, deciding}
use Rattle.log_laws.specs.Commits.{Stands}
use Rattle.log_laws.specs.Kept.{IsCopyOf, IsNoLater}
use Rattle.log_laws.specs.Opening.{AreWritten, CanReplay, ReplayCall, Replays, StandsAmid, StandsReplaying}
use Rattle.log_laws.specs.Saying.{AreOwnCopies, CopiesIn, PendingInstalls, RecoversTo}
use Rattle.log_laws.proofs.Counting.{decides_small}
use Rattle.commit_log.proofs.Amid.{log_of_place, not_state, replayed_as, slice_of_log}
use Rattle.log_laws.proofs.Epochs.{state_either, state_latest}
use Rattle.log_laws.proofs.Kept.{NoneLater, later_yet}
use Rattle.commit_log.proofs.Replaying.{amid_of, put_done}
use Rattle.commit_log.proofs.Restored.{pending_at_by, restored, restored_inside, restored_picks, restored_there}
use Rattle.log_laws.proofs.HeldCopies.{copies_same, no_look}

-- what is pending meanwhile: the record yet, or nothing
pub replay_pends : (l : LogView) (a : RackView) (c : Image) → CanReplay l a → StandsReplaying l.pending a c
    → (pending (deciding c) c ≡ l.pending) ⊎ (pending (deciding c) c ≡ [])
replay_pends l a c can (inl amid) = inl (can.same c amid)
replay_pends l a c can (inr done) = done.pends

-- whether contents have a target's payload
abbrev is_new : LogView → Image → ℕ → ℕ → Bool
is_new l c d t = option_map_or (bytes_eq (c d t)) (look l.pending d t) false

-- the sectors but for logs', and copies that targets brought
abbrev of_targets : LogView → RackView → Image → ℕ → ℕ → Bool
of_targets l a c d t = nat_lt t (a.sectors d) && (not (slice_of d == 0) || ((t == 0) && is_new l c d t))

new_by : (o : Option (List ℕ)) (v : List ℕ) → option_map_or (bytes_eq v) o false ≡ true → o ≡ Some v
new_by None v is = absurd (both_ways false refl is)
new_by (Some w) v is = ap Some (sym ((bytes_eq-Decides v w).0 is))

has_new : (l : LogView) (c : Image) (d t : ℕ) → look l.pending d t ≡ Some (c d t) → is_new l c d t ≡ true
has_new l c d t is = ap (λ o. option_map_or (bytes_eq (c d t)) o false) is ∙ (bytes_eq-Decides (c d t) (c d t)).1 refl

not_false : (b : Bool) → not b ≡ false → b ≡ true
not_false true is = refl
not_false false is = absurd (both_ways true is refl)

is_zero : (n : ℕ) → (n == 0) ≡ true → n ≡ 0
is_zero n is = elim (cases_lt 0 n) [
  | inl more ↦ absurd (both_ways (n == 0) (ne_eqb n 0 (λ zero. omega (arith, more, zero))) is)
  | inr none ↦ omega (arith, none)
]

module _ (t : State) (l : LogView) (a : RackView) (can : CanReplay l a) (says : (c : Image) → Stands a c → RecoversTo t a.sectors c) where
  -- ---- all targets are written

  module _ (c : Image) (same : (p : ℕ) → replayed a.sectors c (log_slice p) 0 ≡ c (log_slice p) 0) (state : state_in (replayed a.sectors c) ≡ Some t)
      (copies : CopiesIn t a.sectors (replayed a.sectors c)) (whole : IsWhole c) (own : AreOwnCopies t (pending (deciding c) c)) (inside : TargetsInside a.sectors c) where
    says_done : RecoversTo t a.sectors c
    says_done = record {
      whole = whole;
      is_state = state;
      copies = copies;
      stood = t;
      stood_is = state_same c (replayed a.sectors c) (λ p. sym (same p)) ∙ state;
      latest = λ p copy few is. copies.others p copy few (ap decoded (same p) ∙ is);
      next = inl refl;
      brings = own;
      inside = inside;
    }

  -- what is pending is what was, or nothing
  own_by : (c : Image) → (pending (deciding c) c ≡ l.pending) ⊎ (pending (deciding c) c ≡ []) → (e : Image) → Stands a e → AreOwnCopies t (pending (deciding c) c)
  own_by c (inl is) e stands p u at =
      (says e stands).brings p u (ap (λ (xs : List Target). look xs (log_slice p) 0) (can.same e (amid_of l.pending a e stands) ∙ sym is) ∙ at)
  own_by c (inr none) e stands p u at = absurd (no_look (log_slice p) 0 u (ap (λ (xs : List Target). look xs (log_slice p) 0) (sym none) ∙ at))

  inside_by : (c : Image) → (pending (deciding c) c ≡ l.pending) ⊎ (pending (deciding c) c ≡ []) → (e : Image) → Stands a e → TargetsInside a.sectors c
  inside_by c (inl is) e stands d u v at =
      (says e stands).inside d u v (ap (λ (xs : List Target). look xs d u) (can.same e (amid_of l.pending a e stands) ∙ sym is) ∙ at)
  inside_by c (inr none) e stands d u v at = absurd (no_look d u v (ap (λ (xs : List Target). look xs d u) (sym none) ∙ at))

  written_same : (c : Image) → AreWritten l.pending a c → (p : ℕ) → replayed a.sectors c (log_slice p) 0 ≡ c (log_slice p) 0
  unfolding look
  written_same c done p = elim done.pends [
    | inl is ↦ replayed_as a c l.pending (log_slice p) 0 is ∙ put_done a l.pending c (log_slice p) 0 (λ w at there. done.all (log_slice p) 0 w at there)
    | inr none ↦ replayed_as a c [] (log_slice p) 0 none ∙ put_done a [] c (log_slice p) 0 (λ w at there. absurd (none-some w at))
  ]

  -- ---- gates are as they were

  module _ (c : Image) (amid : StandsAmid l.pending a c) (state : state_in (replayed a.sectors c) ≡ Some t) (copies : CopiesIn t a.sectors (replayed a.sectors c))
      (whole : IsWhole c) where
    -- the same contents with the copies from before
    abbrev e : Image
    e = restored (of_targets l a c) a c

    stays_there : (d u : ℕ) → slice_of d ≡ 0 → 0 < u → e d u ≡ c d u
    stays_there d u slice more =
        restored_there (of_targets l a c) a c d u
        (off (nat_lt u (a.sectors d)) (ap (λ b. not b || ((u == 0) && is_new l c d u)) (eq-eqb (slice_of d) 0 slice) ∙ ap (λ b. b && is_new l c d u) (ne_eqb u 0 (λ zero. omega (arith, more, zero)))))
      where
        off : (b : Bool) {r : Bool} → r ≡ false → (b && r) ≡ false
        off true is = is
        off false is = refl

    pick : (d u : ℕ) → IsLive a a d u → of_targets l a c d u ≡ false → MayLeave (a.held d u) (c d u)
    pick d u live free =
        let parts = or_parts (not (slice_of d == 0)) ((u == 0) && is_new l c d u)
        (sym (ap (λ b. b && (not (slice_of d == 0) || ((u == 0) && is_new l c d u))) (lt-ltb u (a.sectors d) live.sector)) ∙ free) in
        let slice : slice_of d ≡ 0 = is_zero (slice_of d) (not_false (slice_of d == 0) parts.0) in
        let log : log_slice (place_of d) ≡ d = log_of_place d slice in
        subst (λ k. MayLeave (a.held k u) (c k u)) log
        (elim (cases_lt 0 u) [
          | inl more ↦ amid.parts (place_of d) u more (subst (λ k. IsLive a a k u) (sym log) live)
          | inr none ↦
              let zero : u ≡ 0 = omega (arith, none) in
              subst (λ k. MayLeave (a.held (log_slice (place_of d)) k) (c (log_slice (place_of d)) k)) (sym zero)
              (elim (amid.states.picks (place_of d) (subst (λ k. IsLive a a k 0) (sym log) (subst (λ k. IsLive a a d k) zero live))) [
                | inl held ↦ held
                | inr new ↦
                    absurd (both_ways ((u == 0) && is_new l c d u) parts.1
                    (and_from (u == 0) (is_new l c d u) (eq-eqb u 0 zero)
                    (subst (λ k. is_new l c k u ≡ true) log (subst (λ k. is_new l c (log_slice (place_of d)) k ≡ true) (sym zero) (has_new l c (log_slice (place_of d)) 0 new)))))
              ])
        ])

    stands : Stands a e
    stands = record {
      picks = restored_picks (of_targets l a c) a c pick;
      inside = restored_inside (of_targets l a c) a c
          (λ p u past. ap (λ b. b && (not (slice_of (log_slice p) == 0) || ((u == 0) && is_new l c (log_slice p) u))) (le-ltb u (a.sectors (log_slice p)) past)) amid.inside;
    }

    old : RecoversTo t a.sectors e
    old = says e stands

    abbrev s : State
    s = old.stood

    -- what is pending is the record, in both
    at_c : pending (deciding c) c ≡ l.pending
    at_c = can.same c amid

    at_e : pending (deciding e) e ≡ l.pending
    at_e = can.same e (amid_of l.pending a e stands)

    -- each copy is from before, or the new state's
    each : (p : ℕ) → (c (log_slice p) 0 ≡ e (log_slice p) 0) ⊎ (decoded (c (log_slice p) 0) ≡ Ok (record { state = t; own = p }))
    each p = elim (cases_Bool (of_targets l a c (log_slice p) 0)) [
      | inr free ↦ inl (sym (restored_there (of_targets l a c) a c (log_slice p) 0 free))
      | inl chosen ↦
          let half = (and_parts (nat_lt 0 (a.sectors (log_slice p))) _ chosen).1 in
          let is : is_new l c (log_slice p) 0 ≡ true = sym (ap (λ b. not b || is_new l c (log_slice p) 0) (eq-eqb (slice_of (log_slice p)) 0 (slice_of_log p))) ∙ half in
          inr (old.brings p (c (log_slice p) 0) (ap (λ (xs : List Target). look xs (log_slice p) 0) at_e ∙ new_by (look l.pending (log_slice p) 0) (c (log_slice p) 0) is))
    ]

    new_copy : (p : ℕ) → decoded (c (log_slice p) 0) ≡ Ok (record { state = t; own = p }) → IsCopyOf t p (c (log_slice p) 0)
    new_copy p is = record { own = p; copy = is; drive = refl }

    new_state : (p : ℕ) (copy : Copied) → decoded (c (log_slice p) 0) ≡ Ok (record { state = t; own = p }) → decoded (c (log_slice p) 0) ≡ Ok copy → copy.state ≡ t
    new_state p copy is at = ap (λ r. option_map_or (λ k. k.state) (result_ok r) copy.state) (sym at ∙ is)

    up : s.epoch ≤ t.epoch
    up = elim old.next [ inl same ↦ (let epoch = ap (λ (u : State). u.epoch) same in omega (arith, epoch)) | inr brought ↦ (let later = brought.later in omega (arith, later)) ]

    either : (state_in c ≡ Some s) ⊎ (state_in c ≡ Some t)
    either = state_either s t c e old.stood_is up (λ p few. elim (each p) [ inl same ↦ inl same | inr new ↦ inr (new_copy p new) ])

    -- where the new state stands
    latest_new : NoneLater t c
    latest_new p copy few is = elim (each p) [
      | inr new ↦ inr (new_state p copy new is)
      | inl same ↦
          let before : IsNoLater s copy = old.latest p copy few (ap decoded (sym same) ∙ is) in
          elim old.next [
            | inl equal ↦ subst (λ u. IsNoLater u copy) (sym equal) before
            | inr brought ↦ later_yet s t copy brought.later before
          ]
    ]

    says_new : state_in c ≡ Some t → RecoversTo t a.sectors c
    says_new is = record {
      whole = whole;
      is_state = state;
      copies = copies;
      stood = t;
      stood_is = is;
      latest = latest_new;
      next = inl refl;
      brings = own_by c (inl at_c) e stands;
      inside = inside_by c (inl at_c) e stands;
    }

    -- where the state from before does, no copy is new that is later
    not_new : s.epoch < t.epoch → state_in c ≡ Some s → (p : ℕ) → p < 16 → decoded (c (log_slice p) 0) ≡ Ok (record { state = t; own = p }) → ⊥
    not_new later is p few new = let low = state_latest s c p (record { state = t; own = p }) is few (ap result_ok new) in omega (arith, later, low)

    brought_yet : state_in c ≡ Some s → PendingInstalls s t e → PendingInstalls s t c
    brought_yet is brought =
        let places_c : deciding c ≡ current_places s = ap (λ o. option_map_or current_places o []) is in
        let places_e : deciding e ≡ current_places s = ap (λ o. option_map_or current_places o []) old.stood_is in
        let gates : (p : ℕ) → c (log_slice p) gate_sector ≡ e (log_slice p) gate_sector = λ p. sym (stays_there (log_slice p) gate_sector (slice_of_log p) (omega arith)) in
        let ats : pending_at (current_places s) e ≡ pending_at (current_places s) c = sym (pending_at_by c e (current_places s) (λ p among. gates p)) in
        let same : pending (current_places s) e ≡ pending (current_places s) c =
        ap (λ ps. pending ps e) (sym places_e) ∙ at_e ∙ sym at_c ∙ ap (λ ps. pending ps c) places_c in
        record {
          later = brought.later;
          pool = brought.pool;
          source = λ g at.
              let found = brought.source g (ats ∙ at) in
              (found.0, (found.1.0, ap (λ (xs : List Target). look xs (log_slice g.place) 0) (sym same) ∙ found.1.1));
          joining = λ g p at joins.
              let lower = brought.joining g p (ats ∙ at) joins in
              (lower.0, ap gate_of (gates p) ∙ lower.1, lower.2);
          copy =
              let has = brought.copy in (
                has.0,
                has.1,
                elim (each has.0) [
                  | inl equal ↦ subst (IsCopyOf s has.0) (sym equal) has.2
                  | inr new ↦ absurd (not_new brought.later is has.0 (small has.0 has.1.was) new)
                ],
              );
        }
      where
        small : (p : ℕ) → is_current s p ≡ true → p < 16
        small p current = decides_small e p (s, old.stood_is, current)

    says_old : state_in c ≡ Some s → PendingInstalls s t e → RecoversTo t a.sectors c
    says_old is brought = record {
      whole = whole;
      is_state = state;
      copies = copies;
      stood = s;
      stood_is = is;
      latest = λ p copy few at. elim (each p) [
        | inl same ↦ old.latest p copy few (ap decoded (sym same) ∙ at)
        | inr new ↦ absurd (not_new brought.later is p few new)
      ];
      next = inr (brought_yet is brought);
      brings = own_by c (inl at_c) e stands;
      inside = inside_by c (inl at_c) e stands;
    }

    says_amid : RecoversTo t a.sectors c
    says_amid = elim either [
      | inr new ↦ says_new new
      | inl was ↦ elim old.next [
        | inl same ↦ says_new (was ∙ ap Some (sym same))
        | inr brought ↦ says_old was brought
      ]
    ]

  replaying_says : (c : Image) → Replays a c → StandsReplaying l.pending a c → RecoversTo t a.sectors c
  replaying_says c replays stand =
      let was = says replays.before replays.stands in
      let same : (p : ℕ) → replayed a.sectors c (log_slice p) 0 ≡ replayed a.sectors replays.before (log_slice p) 0 = λ p. replays.same (log_slice p) 0 (not_state p) in
      let state : state_in (replayed a.sectors c) ≡ Some t = state_same (replayed a.sectors c) (replayed a.sectors replays.before) same ∙ was.is_state in
      let copies = copies_same t a.sectors (replayed a.sectors c) (replayed a.sectors replays.before) same was.copies in
      elim stand [
        | inl amid ↦ says_amid c amid state copies replays.whole
        | inr done ↦
            says_done c (written_same c done) state copies replays.whole (own_by c done.pends replays.before replays.stands)
            (inside_by c done.pends replays.before replays.stands)
      ]

  -- At each moment of a replay the log slices say the state that they said.
  pub replay_says : (on lost : List ℕ) (b : RackView) → ReplayCall l on lost a b → a.traced → Leaves a b (λ c. IsInside a.sectors c → RecoversTo t a.sectors c)
  replay_says on lost b call traced =
      let stops = call.stops traced can in
      let midway = call.midway traced can in
      record {
        later = stops.later;
        kept = stops.kept;
        past = stops.past;
        new = λ k c after until stopped inside. replaying_says c (stops.new k c after until stopped inside) (midway.new k c after until stopped inside);
      }
