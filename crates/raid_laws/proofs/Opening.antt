-- A pool that is opened on slices at rest.
use Rattle.std.proofs.Common.{◌≡◌, ℕ, ◌<◌, ◌≤◌, Bool, true, false, nat_lt, List, [], refl, sym, ap, subst, ◌∙◌, inl, inr, lt-ltb, arith}
use Rattle.std.proofs.lemmas.Bool.{cases_lt, and_from}
use Rattle.rack.specs.Values.{Values, Keeps}
use Rattle.rack.specs.Seen.{RackView, IsLive}
use Rattle.rack.specs.Targets.{look}
use Rattle.rack.specs.Joins.{leaves_weaker}
use Rattle.array_image.specs.Places.{log_slice, member_slice}
use Rattle.array_image.specs.States.{is_current}
use Rattle.array_image.specs.Arrays.{replayed}
use Rattle.array_image.specs.Left.{IsInside}
use Rattle.array_image.specs.Held.{held_by}
use Rattle.log_laws.specs.View.{LogView, names}
use Rattle.log_laws.specs.Opening.{ReplayCall}
use Rattle.log_laws.specs.Kept.{LogInvariant}
use Rattle.log_laws.specs.AtRest.{CopiesAgree, Opened}
use Rattle.commit_log.proofs.KeptReplayed.{replayed_same}
use Rattle.commit_log.proofs.Replayable.{opened_can_replay, opened_someone}
use Rattle.commit_log.proofs.RestKept.{rest_kept}
use Rattle.array_model.specs.View.{shape_of}
use Rattle.array_model.specs.Opened.{OpensOn}
use Rattle.array_model.proofs.Keeping.{live_on, live_after}
use Rattle.array_model.proofs.OpenedKept.{opens_kept}
use Rattle.array_model.specs.Says.{ArrayInvariant}
use Rattle.array_model.proofs.Opening.{opens_holds}
use Rattle.raid_laws.specs.Raid.{Raid, gone_in, held_in, is_left, is_failed, spent_of, IsTracked}
use Rattle.raid_laws.specs.Reach.{reach_same}
use Rattle.raid_laws.specs.Laws.{live_parts}
use Rattle.raid_laws.specs.Marking.{SaysBetween}
use Rattle.raid_laws.specs.Moves.{IsTrackedInCall, IsHeeded, IsSet, Mends}
use Rattle.raid_laws.specs.Opening.{OpensRaid, OpenedRaid}
use Rattle.raid_laws.proofs.Moving.{part_says}
use Rattle.raid_laws.proofs.Sourced.{sourced}
use Rattle.raid_laws.proofs.Told.{own_holds, own_keeps}
use Rattle.raid_laws.proofs.Whole.{amid_stood, heeded_whole}

-- each array stands, whoever is absent
pub opened_amid : (v : Raid) (x : RackView) (n : ℕ) (spent : ℕ → Bool) → OpensRaid v x → n < v.state.joined → IsTrackedInCall v x n (held_in v x n) spent
opened_amid v x n spent opens joined =
    let u = v.arrays n in
    let array = opens.arrays n joined in
    let number = opens.numbers n joined in
    record {
      durable = shape_of u;
      stood = record {
        joined = joined;
        few = opens.few;
        number = number;
        log = opens.log;
        someone = opens.someone;
        written = array.sound.written;
        holds = subst (λ k. ArrayInvariant v.state (shape_of u) u (held_by (shape_of u) x.held k) spent x) number (opens_holds v.state u x array spent);
      };
      slices = opens.slices;
      marked = λ are. refl;
      noted = reach_same (is_left v) (shape_of u);
    }

-- What an opening knows of slices at rest, before it closes the gates that are open: nothing is pending, each current place that isn't
-- noted as gone has its log slice with this state, one of them is left, and each array that is ready for the volume is that of its
-- superblocks.
pub record IsAtRest (v : Raid) (l : LogView) (on : List ℕ) (a : RackView) : Type 0 where
  pub opened : Opened v.state v.state l on a
  pub idle : l.pending ≡ []
  -- no slice is past those of the places
  pub none : (d : ℕ) → 272 ≤ d → a.sectors d ≡ 0
  pub number : v.number ≡ l.number
  pub there : (p : ℕ) → is_current v.state p ≡ true → gone_in v p ≡ false → 0 < a.sectors (log_slice p)
  pub copies : CopiesAgree v.state (gone_in v) a
  pub someone : (place : ℕ) × (is_current v.state place ≡ true) × (gone_in v place ≡ false)
  pub few : v.state.joined < 17
  pub made : v.state.made ≤ 16
  pub ready : v.state.joined ≤ v.state.made
  pub numbers : (n : ℕ) → n < v.state.joined → (v.arrays n).number ≡ n
  pub arrays : (n : ℕ) → n < v.state.joined → OpensOn v.state (v.arrays n) a

-- Once the gates are closed the slices hold the arrays.
pub opens_raid : (v : Raid) (l : LogView) (on : List ℕ) (a b : RackView) → IsAtRest v l on a → ReplayCall l on [] a b → OpensRaid v b
unfolding look
opens_raid v l on a b at replay =
    let s = v.state in
    let rest = at.opened.rest in
    let can = opened_can_replay s s l on a at.opened in
    let one = at.someone.0 in
    let named : names on one ≡ true =
    rest.places one ∙ and_from (is_current s one) (nat_lt 0 (a.sectors (log_slice one))) at.someone.1
    (lt-ltb 0 (a.sectors (log_slice one)) (at.there one at.someone.1 at.someone.2)) in
    let some = opened_someone s s l on a one at.opened named in
    let low : (n : ℕ) → n < s.joined → n < 16 = λ n joined. (let ready = at.ready in let made = at.made in omega (arith, joined, ready, made)) in
    let live : (n place t : ℕ) → n < 16 → place < 16 → t < a.sectors (member_slice place n) → IsLive a a (member_slice place n) t =
    λ n place t few small inside. rest.live (member_slice place n) t (omega (arith, few, small)) inside in
    record {
      few = at.few;
      log = subst (λ k. LogInvariant s k (gone_in v) b) (sym at.number) (rest_kept s (gone_in v) l on one a b at.opened at.idle named replay at.there at.copies);
      someone = at.someone;
      slices = λ n place t below small inside.
          let made = at.made in
          live_after replay.stays (live_on rest.lasting replay.stays
          (live n place t (omega (arith, below, made)) small (subst (λ k. t < k) (replay.stays.sectors (member_slice place n)) inside)));
      numbers = at.numbers;
      arrays = λ n joined.
          let u = v.arrays n in
          let few : u.number < 16 = let number = at.numbers n joined in let below = low n joined in omega (arith, number, below) in
          opens_kept s u a b few rest.lasting replay.stays
          (λ place t inside.
          elim (cases_lt place 16) [
            | inl small ↦ live u.number place t few small inside
            | inr past ↦
                let nothing = at.none (member_slice place u.number) (omega (arith, past)) in
                absurd (omega (arith, inside, nothing))
          ])
          (λ place t both.
          replay.apart (member_slice place u.number) t both
          (λ shutting. let slice = shutting.slice in absurd (omega (arith, slice, few)))
          (ap (λ xs. look xs (member_slice place u.number) t) at.idle))
          (λ c picks place t. replayed_same l on a b c (member_slice place u.number) t replay can some picks)
          (at.arrays n joined);
    }

-- an array between calls, where whoever went is heeded
pub amid_told : (w : Raid) (b : RackView) (n : ℕ) (vals : ℕ → Values) → IsHeeded w → IsSet w b → n < w.state.joined → n < w.state.made
    → (is_failed w n ≡ false → IsTrackedInCall w b n vals (spent_of w n)) → IsTracked w b n
amid_told w b n vals heeded set joined low amid =
    record {
      joined = joined;
      stood = λ goes.
          let stood = amid_stood w b n vals (spent_of w n) heeded (amid goes) in
          let source = sourced (w.arrays n) (spent_of w n) b (set.arrays n low).is_array (heeded_whole w n heeded (set.marked n low))
          (λ y alive. (live_parts w n y alive).1) stood.holds.shape.settled in
          record {
            joined = stood.joined;
            few = stood.few;
            number = stood.number;
            log = stood.log;
            someone = stood.someone;
            written = stood.written;
            holds = subst (λ k. ArrayInvariant w.state (shape_of (w.arrays n)) (w.arrays n) (held_by (shape_of (w.arrays n)) b.held k) (spent_of w n) b) stood.number
                (own_holds w.state (w.arrays n) vals (spent_of w n) b source stood.holds);
          };
      slices = λ goes. (amid goes).slices;
    }

pub opened_raid : (v w : Raid) (a b : RackView) → OpensRaid v a → v.state.joined ≤ v.state.made → Mends v w a b → OpenedRaid v w a b
opened_raid v w a b opens ready mends =
    let moves = mends.moves in
    let made : w.state.made ≡ v.state.made = moves.book.same.made in
    let joined_is : w.state.joined ≡ v.state.joined = moves.book.same.joined in
    let part = λ (n : ℕ) (joined : n < v.state.joined) (goes : is_failed w n ≡ false).
    moves.parts n (held_in v a n) (spent_of w n) joined (omega (arith, joined, ready)) goes (λ y alive. (live_parts w n y alive).1) in
    let before = λ (n : ℕ) (joined : n < v.state.joined). opened_amid v a n (spent_of w n) opens joined in
    record {
      told = λ n joined.
          amid_told w b n (held_in v a n) mends.heeded moves.set (omega (arith, joined, joined_is)) (omega (arith, joined, ready, made))
          (λ goes. (part n joined goes).holds (before n joined));
      keeps = λ n y joined alive.
          let goes = (live_parts w n y alive).0 in
          let stood = amid_stood w b n (held_in v a n) (spent_of w n) mends.heeded ((part n joined goes).holds (before n joined)) in
          subst (λ k. Keeps (held_in v a n y) (held_by (shape_of (w.arrays n)) b.held k y)) stood.number
          (own_keeps w.state (w.arrays n) (held_in v a n) (spent_of w n) b y stood.holds.shape alive);
      leaves = λ n joined goes traced.
          leaves_weaker
          (λ c. IsInside a.sectors c → IsTrackedInCall v a n (held_in v a n) (spent_of w n) → SaysBetween v.state w.state n (held_in v a n) (spent_of w n) (replayed a.sectors c))
          (λ c. IsInside a.sectors c → SaysBetween v.state w.state n (held_in v a n) (spent_of w n) (replayed a.sectors c))
          (λ c says inside. says inside (before n joined))
          (part_says v w a b n (held_in v a n) (held_in v a n) (spent_of w n) (part n joined goes) traced);
      agree = λ agree none n joined goes.
          agree none n (held_in v a n) (spent_of w n) joined (omega (arith, joined, ready)) goes (λ y alive. (live_parts w n y alive).1) (before n joined);
    }
