-- What contents of slices at rest say of the arrays at each moment, while gates that are open are closed.
use Rattle.std.proofs.Common.{◌≡◌, ℕ, ◌<◌, ◌≤◌, Bool, if◌then◌else◌, List, [], Some, unwrap_or, inl, inr, refl, sym, ap, subst, ◌∙◌, le-ltb, arith}
use Rattle.std.specs.Option.{option_map_or}
use Rattle.std.proofs.lemmas.Bool.{cases_lt}
use Rattle.rack.specs.Values.{Values, IsSingle, MayLeave}
use Rattle.rack.specs.Seen.{Image, RackView, IsLive}
use Rattle.rack.specs.Joins.{leaves_weaker}
use Rattle.rack.specs.Moments.{Leaves}
use Rattle.rack.specs.Targets.{look}
use Rattle.md_super.specs.declared.superblock.Super.{Super}
use Rattle.pool_state.specs.declared.contents.State.{State}
use Rattle.array_image.specs.Places.{log_slice, member_slice, slice_of}
use Rattle.array_image.specs.Record.{pending}
use Rattle.array_image.specs.States.{current_places, state_in}
use Rattle.array_image.specs.Arrays.{replayed, shape_in, value_by}
use Rattle.array_image.specs.Left.{IsInside, LogsInside, reading}
use Rattle.array_image.specs.Supers.{truth_in}
use Rattle.array_image.specs.SoundArray.{IsSoundArray}
use Rattle.array_image.proofs.Frames.{Agree, shape_same, state_same, supers_same, truth_by_supers, value_same}
use Rattle.array_image.proofs.SoundFrames.{sound_same}
use Rattle.log_laws.specs.View.{LogView}
use Rattle.log_laws.specs.Standing.{LogsStand}
use Rattle.log_laws.specs.Opening.{ReplayCall, Replays}
use Rattle.commit_log.proofs.Replayable.{opened_can_replay}
use Rattle.array_model.specs.View.{shape_of}
use Rattle.array_model.proofs.Keeping.{reading_live, reading_outside}
use Rattle.raid_laws.specs.Book.{OnlyMarksSince, after_same}
use Rattle.raid_laws.specs.Marking.{SaysBetween}
use Rattle.raid_laws.specs.Raid.{Raid}
use Rattle.raid_laws.proofs.Opening.{IsAtRest}
use Rattle.assembler_laws.proofs.Still.{replays_nothing}

-- where there is no sector nothing is replayed
replayed_outside : (sectors : ℕ → ℕ) (c : Image) (d k : ℕ) → sectors d ≤ k → replayed sectors c d k ≡ c d k
unfolding replayed
replayed_outside sectors c d k past =
    ap (λ (b : Bool). if b then unwrap_or (look (pending (option_map_or current_places (state_in c) []) c) d k) (c d k) else c d k) (le-ltb k (sectors d) past)

module _ (v : Raid) (l : LogView) (on : List ℕ) (a : RackView) (at : IsAtRest v l on a) (n : ℕ) (joined : n < v.state.joined) where
  -- contents that a stop leaves in the middle, replayed, are as the slices read
  module _ (c : Image) (inside : IsInside a.sectors c) (replays : Replays a c) where
    abbrev r : Image
    r = replayed a.sectors c

    logs : LogsStand a replays.before
    logs = record { picks = λ p k live. replays.stands.picks (log_slice p) k live; inside = replays.stands.inside }

    as_read : (d k : ℕ) → (slice_of d ≡ 0 → k ≡ 0) → (IsLive a a d k → IsSingle (a.held d k)) → r d k ≡ reading a d k
    as_read d k part single = elim (cases_lt k (a.sectors d)) [
      | inr past ↦ replayed_outside a.sectors c d k past ∙ inside d k past ∙ sym (reading_outside a d k past)
      | inl there ↦
          let low : d < 272 = elim (cases_lt d 272) [ inl low ↦ low | inr high ↦ (let none = at.none d high in absurd (omega (arith, there, none))) ] in
          let live = at.opened.rest.live d k low there in
          replays.same d k (λ is. let none = part is.0 in let some = is.1 in absurd (omega (arith, none, some)))
          ∙ replays_nothing v.state l on a at.opened at.idle replays.before d k logs
          ∙ single live (replays.before d k) (replays.stands.picks d k live) ∙ sym (reading_live a d k live)
    ]

    state_is : state_in r ≡ Some v.state
    state_is =
        state_same r (reading a)
        (λ p. as_read (log_slice p) 0 (λ is. refl) (λ live. at.opened.rest.single p 0 (place_low p live.sector) live.sector))
        ∙ at.opened.rest.state
      where
        place_low : (p : ℕ) → 0 < a.sectors (log_slice p) → p < 16
        place_low p some = elim (cases_lt p 16) [ inl low ↦ low | inr high ↦ (let none = at.none (log_slice p) (omega (arith, high)) in absurd (omega (arith, some, none))) ]

    few : n < 16
    few = let made = at.made in let ready = at.ready in omega (arith, joined, made, ready)

    same : Agree n r (reading a)
    same place k =
        as_read (member_slice place n) k (λ is. absurd (omega (arith, is, few)))
        (λ live. subst (λ j. IsLive a a (member_slice place j) k → IsSingle (a.held (member_slice place j) k)) (at.numbers n joined)
        (λ here. (at.arrays n joined).single place k here) live)

    says_read : (w : State) (vals : ℕ → Values) (spent : ℕ → Bool) → OnlyMarksSince v.state w
        → ((y : ℕ) → MayLeave (vals y) (value_by (shape_of (v.arrays n)) (reading a) n y)) → SaysBetween v.state w n vals spent r
    says_read w vals spent after values =
        let number = at.numbers n joined in
        let array = at.arrays n joined in
        record {
          state = v.state;
          is_state = state_is;
          later = after_same v.state;
          sooner = after;
          shape = shape_of (v.arrays n);
          says = record {
            shape_is = shape_same v.state r (reading a) n same ∙ subst (λ k. shape_in v.state (reading a) k ≡ Some (shape_of (v.arrays n))) number array.shape_is;
            value = λ y alive. subst (MayLeave (vals y)) (sym (value_same (shape_of (v.arrays n)) r (reading a) n y same)) (values y);
            is_sound = λ u is.
                let truth = subst (λ k. truth_in v.state (reading a) k ≡ Some (v.arrays n).truth) number array.truth_is in
                let own : (v.arrays n).truth ≡ u =
                of_some (v.arrays n).truth u (sym truth ∙ sym (truth_by_supers v.state r (reading a) n (supers_same v.state r (reading a) n same)) ∙ is) in
                subst (IsSoundArray v.state r n) own
                (sound_same v.state r (reading a) n (v.arrays n).truth same (subst (λ k. IsSoundArray v.state (reading a) k (v.arrays n).truth) number array.sound));
          };
        }
      where
        of_some : (y z : Super) → Some y ≡ Some z → y ≡ z
        of_some y z is = cc

  -- so they say the arrays at each moment
  pub closing_leaves : (b : RackView) → ReplayCall l on [] a b → (w : State) (vals : ℕ → Values) (spent : ℕ → Bool) → OnlyMarksSince v.state w
      → ((y : ℕ) → MayLeave (vals y) (value_by (shape_of (v.arrays n)) (reading a) n y)) → a.traced
      → Leaves a b (λ c. IsInside a.sectors c → SaysBetween v.state w n vals spent (replayed a.sectors c))
  closing_leaves b replay w vals spent after values traced =
      leaves_weaker (λ c. LogsInside a.sectors c → Replays a c)
      (λ c. IsInside a.sectors c → SaysBetween v.state w n vals spent (replayed a.sectors c))
      (λ c replays inside. says_read c inside (replays (λ p k past. inside (log_slice p) k past)) w vals spent after values)
      (replay.stops traced (opened_can_replay v.state v.state l on a at.opened))

-- values that are all one are that one
pub says_only : (s t : State) (n : ℕ) (vals now : ℕ → Values) (spent : ℕ → Bool) (r : Image)
    → ((y : ℕ) (u : List ℕ) → MayLeave (vals y) u → MayLeave (now y) u) → SaysBetween s t n vals spent r → SaysBetween s t n now spent r
says_only s t n vals now spent r more says = record {
  state = says.state;
  is_state = says.is_state;
  later = says.later;
  sooner = says.sooner;
  shape = says.shape;
  says = record {
    shape_is = says.says.shape_is;
    value = λ y alive. more y (value_by says.shape r n y) (says.says.value y alive);
    is_sound = says.says.is_sound;
  };
}
