-- A young array that stands with zeros is tracked once it is the volume's, and holds zeros in each of its sectors.
use Rattle.std.proofs.Common.{◌≡◌, ℕ, ◌+◌, ◌<◌, ◌==◌, ◌&&◌, ◌||◌, not, nat_lt, if◌then◌else◌, Bool, true, false, ◌∷◌, ◌++◌, refl, sym, ap, subst, ◌∙◌, arith, eqb-true, eq-eqb}
use Rattle.std.proofs.lemmas.Bool.{and_parts, both_ways}
use Rattle.rack.specs.Joins.{keeps_then}
use Rattle.rack.specs.Seen.{RackView}
use Rattle.rack.specs.Values.{Keeps, only, Values}
use Rattle.parity.specs.Xor.{zeros}
use Rattle.pool_state.specs.declared.contents.State.{State}
use Rattle.pool_state.specs.declared.contents.Work.TheVariants.{Ready}
use Rattle.array_image.specs.Arrays.{Shape}
use Rattle.array_image.specs.Held.{held_by}
use Rattle.array_image.specs.SoundArray.{first_unsynced}
use Rattle.array_image.proofs.Sources.{held_current, picked_value}
use Rattle.array_model.specs.Says.{ArrayInvariant}
use Rattle.array_model.specs.View.{rows_of, shape_of}
use Rattle.array_model.proofs.Losses.{left_picks}
use Rattle.raid_laws.specs.Laws.{live_parts}
use Rattle.raid_laws.specs.Moves.{IsHeeded, IsSet}
use Rattle.raid_laws.specs.Raid.{AreLive, held_in, InvariantInCall, IsTracked, live_of, Raid, spent_of}
use Rattle.raid_laws.proofs.Sourced.{sourced}
use Rattle.raid_laws.proofs.Told.{IsSourced, own_keeps}
use Rattle.raid_laws.proofs.Whole.{heeded_gone, heeded_whole}
use Rattle.transition_laws.specs.Changes.{by, changed, readied}
use Rattle.transition_laws.specs.Growth.{HasZerosFrom}
use Rattle.transition_laws.specs.Holds.{has_sector, IsPromised, IsSameArrayAs, Promise, spent_at, Stands}
use Rattle.transition_laws.specs.Makes.{Suits}
use Rattle.transition_laws.proofs.ArraysFor.{grown_for}
use Rattle.transition_laws.proofs.Standing.{stood_of}
use Rattle.sync_laws.specs.Steps.{if_done}
use Rattle.array_core.specs.Seats.{ready}
use Rattle.growth_laws.specs.Losses.{LosesBook}
use Rattle.growth_laws.specs.Growing.{AnyValues, Grows, is_due, Lacks, MakesTurn}

-- ---- an array of a run that stands, where nobody has gone who isn't heeded

module _ (d w : Raid) (p : Promise) (vals : ℕ → ℕ → Values) (x : RackView) (stands : Stands d w p vals x) (heeded : IsHeeded w) (set : IsSet w x) (n : ℕ) (live : p.live n ≡ true)
    (low : n < w.state.made) (joined : n < w.state.joined) (grown : (w.arrays n).young ≡ false) where
  low_in : n < d.state.made
  low_in = subst (λ (s : State). n < s.made) stands.same low

  same : IsSameArrayAs (d.arrays n) (w.arrays n)
  same = stands.alike (λ q current. heeded_gone w heeded q) n live low_in

  stood : InvariantInCall w.state (shape_of (w.arrays n)) (vals n) (spent_at p n (d.arrays n)) (λ place. false) w x n
  stood =
      let spent = spent_at p n (d.arrays n) in
      subst (λ (s : State). InvariantInCall s (shape_of (w.arrays n)) (vals n) spent (λ place. false) w x n) (sym stands.same)
      (subst (λ (sh : Shape). InvariantInCall d.state sh (vals n) spent (λ place. false) w x n) (sym same.shape)
      (subst (λ g. InvariantInCall d.state (shape_of (d.arrays n)) (vals n) spent g w x n) (λ i q. heeded_gone w heeded q i)
      (stood_of d w p vals x stands n live low_in (grown_for p (w.arrays n) grown) (subst (λ (s : State). n < s.joined) stands.same joined))))

  source : IsSourced (w.arrays n) (spent_of w n) x
  source =
      sourced (w.arrays n) (spent_of w n) x (set.arrays n low).is_array (heeded_whole w n heeded (set.marked n low)) (λ y alive. (live_parts w n y alive).1) stood.holds.shape.settled

  -- it stands with what it holds, in whichever sectors
  own : InvariantInCall w.state (shape_of (w.arrays n)) (held_in w x n) (spent_of w n) (λ place. false) w x n
  own =
      let shape = shape_of (w.arrays n) in
      let was = stood.holds in
      let held = was.shape in
      record {
        joined = stood.joined;
        few = stood.few;
        number = stood.number;
        log = stood.log;
        someone = stood.someone;
        written = stood.written;
        holds = subst (λ k. ArrayInvariant w.state shape (w.arrays n) (held_by shape x.held k) (spent_of w n) x) stood.number
            (record {
              shape = record {
                open_slices = held.open_slices;
                open_left = held.open_left;
                says = λ r left.
                    let says = held.says r left in
                    record {
                      shape_is = says.shape_is;
                      value = λ y alive. picked_value shape (w.arrays n).number x.held r y (left_picks (w.arrays n).number shape x held.open_left held.still r left) (source y alive);
                      is_sound = says.is_sound;
                    };
                still = held.still;
                within = λ y alive u may keeps. may;
                current = λ y alive. sym (held_current shape (w.arrays n).number x.held y);
                sized = held.sized;
                even = held.even;
                settled = held.settled;
              };
              mark = was.mark;
              alone = was.alone;
              closed = was.closed;
              truth = was.truth;
            });
      }

  pub stands_tracked : IsTracked w x n
  stands_tracked = record { joined = joined; stood = λ goes. own; slices = λ goes. subst (λ (s : State). AreLive s.made x) (sym stands.same) stands.slices }

  -- and what it holds are values of which something is promised
  pub stands_keeps : (y : ℕ) → has_sector (w.arrays n) y ≡ true → p.spent n y ≡ false → Keeps (vals n y) (held_in w x n y)
  stands_keeps y has alive =
      subst (λ k. Keeps (vals n y) (held_by (shape_of (w.arrays n)) x.held k y)) stood.number
      (own_keeps w.state (w.arrays n) (vals n) (spent_at p n (d.arrays n)) x y stood.holds.shape (unspent p.growing (has_sector (d.arrays n) y) (sym ((stands.arrays n live low_in).sectors y) ∙ has)))
    where
      unspent : (growing has : Bool) → has ≡ true → ((growing && not has) || p.spent n y) ≡ false
      unspent true true is = alive
      unspent false true is = alive
      unspent growing false is = absurd (both_ways false refl is)

-- ---- a young array that gets ready

-- The readiness of array n is done, over slices on which a run stands that promises each of its sectors that can be had in the end, with zeros for values.
pub record ReadiesZeros (v w : Raid) (n : ℕ) (p : Promise) (vals : ℕ → ℕ → Values) (a b : RackView) : Type 0 where
  pub due : is_due v (Ready n) ≡ true
  pub grows : Grows (Ready n) (Lacks (Ready n)) v w a b true
  pub turn : MakesTurn readied true AnyValues v w a b
  pub set : IsSet w b
  pub stands : Stands v v p vals a
  pub live : p.live n ≡ true
  pub suits : Suits p (turn.before ++ (readied ∷ turn.after)) v
  pub promised : IsPromised p w
  pub spared : (y : ℕ) → live_of w n y → p.spent n y ≡ false
  pub zeros : (y : ℕ) → Keeps (only (zeros 512)) (vals n y)

module _ (v w : Raid) (n : ℕ) (p : Promise) (vals : ℕ → ℕ → Values) (a b : RackView) (call : ReadiesZeros v w n p vals a b) where
  is_next : (n ≡ v.state.joined) × (v.state.joined + 1 ≡ v.state.made)
  is_next =
      let u = v.arrays n in
      let rest = u.young && not (nat_lt (first_unsynced u.truth) (rows_of u)) in
      let first = and_parts (n == v.state.joined) ((v.state.joined + 1 == v.state.made) && rest) call.due in
      (eqb-true n v.state.joined first.0, eqb-true (v.state.joined + 1) v.state.made (and_parts (v.state.joined + 1 == v.state.made) rest first.1).0)

  -- it is one of the volume's after it, and isn't young
  after : LosesBook (changed readied call.grows.turns.mid) w
  after = subst (λ (b : Bool). LosesBook (if_done b call.grows.turns.mid (changed readied call.grows.turns.mid)) w) (call.grows.turns.answer refl) call.grows.turns.after

  made : w.state.made ≡ v.state.made
  made = after.marks.same.made ∙ call.grows.turns.before.marks.same.made

  joined : w.state.joined ≡ v.state.joined + 1
  joined = after.marks.same.joined ∙ ap (λ k. k + 1) call.grows.turns.before.marks.same.joined

  low : n < w.state.made
  low = let same = made in let next = is_next in omega (arith, same, next)

  grown : (w.arrays n).young ≡ false
  grown =
      let mid = call.grows.turns.mid in
      let count = call.grows.turns.before.marks.same.made in
      let own : n ≡ mid.state.joined = is_next.0 ∙ sym call.grows.turns.before.marks.same.joined in
      let there : n < mid.state.made = let next = is_next in omega (arith, count, next) in
      (after.arrays n there).same.young ∙ ap (λ (b : Bool). (if b then ready (mid.arrays n) else mid.arrays n).young) (eq-eqb n mid.state.joined own)

  stands_after : Stands (by (call.turn.before ++ (readied ∷ call.turn.after)) v) w p vals b
  stands_after = (call.turn.makes vals tt).after p call.suits call.promised call.stands

  pub ready_tracked : IsTracked w b n
  ready_tracked =
      stands_tracked (by (call.turn.before ++ (readied ∷ call.turn.after)) v) w p vals b stands_after call.grows.heeded call.set n call.live low
      (let more = joined in let next = is_next in omega (arith, more, next)) grown

  pub ready_zeros : HasZerosFrom w b n 0
  ready_zeros y past has alive =
      keeps_then (only (zeros 512)) (vals n y) (held_in w b n y) (call.zeros y)
      (stands_keeps (by (call.turn.before ++ (readied ∷ call.turn.after)) v) w p vals b stands_after call.grows.heeded call.set n call.live low
      (let more = joined in let next = is_next in omega (arith, more, next)) grown y has (call.spared y alive))
