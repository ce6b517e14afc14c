-- Calls that change the book keep the arrays of the volume tracked, and what these hold in the sectors that they had.
use Rattle.std.proofs.Common.{◌≡◌, ℕ, ◌<◌, ◌≤◌, ◌==◌, ◌&&◌, not, Bool, true, false, nat_lt, if◌then◌else◌, List, refl, sym, ap, subst, inl, inr, arith, eq-eqb, eqb-true, lt-ltb, ◌∙◌, ◌||◌}
use Rattle.std.proofs.lemmas.Bool.{both_ways, cases_Bool}
use Rattle.rack.specs.Values.{Keeps, MayLeave, only, Values}
use Rattle.rack.specs.Seen.{RackView}
use Rattle.rack.specs.Moments.{Leaves}
use Rattle.parity.specs.Xor.{zeros}
use Rattle.pool_state.specs.declared.contents.State.{State}
use Rattle.array_image.specs.SoundArray.{first_unsynced}
use Rattle.array_image.specs.Stripes.{sector_in}
use Rattle.raid_map.specs.LeftSymmetric.{row_at}
use Rattle.raid_laws.specs.Frames.{frame_of}
use Rattle.array_image.specs.Arrays.{arrays_in, replayed, Shape}
use Rattle.array_image.specs.Held.{held_by}
use Rattle.array_image.specs.Left.{IsInside}
use Rattle.array_image.proofs.Sources.{held_current, picked_value}
use Rattle.array_model.specs.ArrayCalls.{IncludesSpent}
use Rattle.array_model.specs.Says.{ArrayInvariant, ShapeInvariant}
use Rattle.array_model.specs.View.{may_vary, sectors_of, shape_of, spent_in, View}
use Rattle.array_model.proofs.Losses.{left_picks}
use Rattle.raid_laws.specs.Laws.{live_parts, says_value}
use Rattle.raid_laws.specs.Moves.{IsHeeded, IsSet}
use Rattle.raid_laws.specs.Raid.{AreLive, held_in, InvariantInCall, is_failed, IsTracked, live_of, Raid, raid_of, spent_of, StopsInside}
use Rattle.raid_laws.proofs.Over.{or_from, or_parts}
use Rattle.raid_laws.proofs.Raid.{leaves_raid}
use Rattle.raid_laws.proofs.Sourced.{sourced}
use Rattle.raid_laws.proofs.Told.{IsSourced, own_keeps}
use Rattle.raid_laws.proofs.Whole.{heeded_gone, heeded_whole}
use Rattle.transition_laws.specs.Changes.{by, Change}
use Rattle.transition_laws.specs.Growth.{AreReady, KeepsOldSectors}
use Rattle.transition_laws.specs.Holds.{has_sector, HoldsBook, IsPromised, moved_to, Promise, spent_at, Stands}
use Rattle.transition_laws.specs.Makes.{Makes, Suits}
use Rattle.transition_laws.proofs.AnyOrigin.{any_origin, any_owned, from_any}
use Rattle.transition_laws.proofs.LongerBooks.{AllKeepOld, along_old, HasOldSectors, last_old}
use Rattle.transition_laws.proofs.Standing.{stood_of}
use Rattle.transition_laws.proofs.Tracked.{IsTrackedFor, tracked_stands}

-- what arrays hold, and zeros past their ends
abbrev pub old_values : Raid → RackView → ℕ → ℕ → Values
old_values v x n y = if nat_lt y (sectors_of (v.arrays n)) then held_in v x n y else only (zeros 512)

-- of array n alone, what it has before calls and what isn't spent after them
abbrev old_promise : (v w : Raid) → ℕ → Promise
old_promise v w n = record {
  live = λ k. k == n;
  one = n;
  spent = λ k y. spent_of w k y || not (nat_lt y (sectors_of (v.arrays k)));
  growing = true;
  kept = λ k. false;
  lacks = λ k. false;
  origin = any_origin v.state;
}

-- Calls between which nobody has gone who isn't marked, and that make changes of the book by which its arrays keep the sectors that they have.
pub record IsGrowing (xs : List Change) (v w : Raid) (a b : RackView) : Type 0 where
  pub makes : Makes xs v v w (old_values v a) (old_values v a) a b
  pub old : (n : ℕ) → n < v.state.joined → AllKeepOld v n xs
  pub before : IsHeeded v
  pub after : IsHeeded w
  pub began : IsSet v a
  pub set : IsSet w b
  pub inside : StopsInside b
  pub made : v.state.made ≤ w.state.made
  pub joined : v.state.joined ≤ w.state.joined
  pub joined_made : (n : ℕ) → is_failed w n ≡ false → v.state.joined ≤ v.state.made
  pub ready : AreReady v

has_first : (low moved young zeroed : Bool) → low ≡ true → young ≡ false → ((low || moved) && (not young || zeroed)) ≡ true
has_first true moved false zeroed is old = refl
has_first true moved true zeroed is old = absurd (both_ways true old refl)
has_first false moved young zeroed is old = absurd (both_ways false refl is)

-- an array that stands with some values stands with what it holds, in whichever sectors
own_shape : (s : State) (v : View) (vals : ℕ → Values) (spent now : ℕ → Bool) (x : RackView) → IsSourced v now x
    → ShapeInvariant s v.number (shape_of v) (shape_of v) v.resync (may_vary v) vals spent x
    → ShapeInvariant s v.number (shape_of v) (shape_of v) v.resync (may_vary v) (held_by (shape_of v) x.held v.number) now x
own_shape s v vals spent now x sourced holds =
    let n = v.number in
    let shape = shape_of v in
    record {
      open_slices = holds.open_slices;
      open_left = holds.open_left;
      says = λ r left.
          let says = holds.says r left in
          record {
            shape_is = says.shape_is;
            value = λ y alive. picked_value shape n x.held r y (left_picks n shape x holds.open_left holds.still r left) (sourced y alive);
            is_sound = says.is_sound;
          };
      still = holds.still;
      within = λ y alive u left keeps. left;
      current = λ y alive. sym (held_current shape n x.held y);
      sized = holds.sized;
      even = holds.even;
      settled = holds.settled;
    }

own_stood : (w : Raid) (x : RackView) (n : ℕ) (vals : ℕ → Values) (spent : ℕ → Bool) → IsSourced (w.arrays n) (spent_of w n) x
    → InvariantInCall w.state (shape_of (w.arrays n)) vals spent (λ place. false) w x n
    → InvariantInCall w.state (shape_of (w.arrays n)) (held_in w x n) (spent_of w n) (λ place. false) w x n
own_stood w x n vals spent sourced stood = record {
  joined = stood.joined;
  few = stood.few;
  number = stood.number;
  log = stood.log;
  someone = stood.someone;
  written = stood.written;
  holds = subst (λ k. ArrayInvariant w.state (shape_of (w.arrays n)) (w.arrays n) (held_by (shape_of (w.arrays n)) x.held k) (spent_of w n) x) stood.number
      (record {
        shape = own_shape w.state (w.arrays n) vals spent (spent_of w n) x sourced stood.holds.shape;
        mark = stood.holds.mark;
        alone = stood.holds.alone;
        closed = stood.holds.closed;
        truth = stood.holds.truth;
      });
}

module _ (xs : List Change) (v w : Raid) (a b : RackView) (calls : IsGrowing xs v w a b) (n : ℕ) (ready : n < v.state.joined) (goes : is_failed w n ≡ false) where
  abbrev p : Promise
  p = old_promise v w n

  abbrev vals : ℕ → ℕ → Values
  vals = old_values v a

  own : (P : ℕ → Type 0) (k : ℕ) → (k == n) ≡ true → P n → P k
  own P k is at = subst P (sym (eqb-true k n is)) at

  low : n < v.state.made
  low = let most = calls.joined_made n goes in omega (arith, ready, most)

  -- a sector that isn't spent by the promise is one that the array had, and isn't spent after the calls
  parts : (u : View) (y : ℕ) → spent_at p n u y ≡ false → (spent_of w n y ≡ false) × (nat_lt y (sectors_of (v.arrays n)) ≡ true)
  parts u y alive =
      let rest = (or_parts (not (has_sector u y)) (spent_of w n y || not (nat_lt y (sectors_of (v.arrays n)))) alive).1 in
      let both = or_parts (spent_of w n y) (not (nat_lt y (sectors_of (v.arrays n)))) rest in
      (both.0, elim (cases_Bool (nat_lt y (sectors_of (v.arrays n)))) [ inl is ↦ is | inr not_is ↦ absurd (both_ways (not (nat_lt y (sectors_of (v.arrays n)))) both.1 (ap not not_is)) ])

  promised : IsPromised p w
  promised = record {
    is_one = eq-eqb n n refl;
    goes = λ k is low. own (λ j. is_failed w j ≡ false) k is goes;
    covers = λ k is low. own (λ j. IncludesSpent (w.arrays j) (spent_at (old_promise v w n) j (w.arrays j))) k is (λ y alive. (live_parts w n y (parts (w.arrays n) y alive).0).1);
  }

  suits : Suits p xs v
  suits = record { free = λ k is. absurd (both_ways false refl is); owned = any_owned v.state p xs v refl; growing = inl refl }

  early : IsPromised p v
  early = calls.makes.back p suits promised

  live : p.live n ≡ true
  live = eq-eqb n n refl

  old : HasOldSectors v n v
  old = record { made = low; small = (calls.began.arrays n low).is_array.small; young = calls.ready n ready; sectors = λ y has. has }

  end : HasOldSectors v n (by xs v)
  end = last_old v n xs v (calls.old n ready) old

  -- a sector that the array had is promised of each book on the way
  alive_in : (u : Raid) (y : ℕ) → HasOldSectors v n u → y < sectors_of (v.arrays n) → live_of w n y → spent_at p n (u.arrays n) y ≡ false
  alive_in u y longer inside alive =
      let lt : nat_lt y (sectors_of (v.arrays n)) ≡ true = lt-ltb y (sectors_of (v.arrays n)) inside in
      let has : has_sector (v.arrays n) y ≡ true = has_first (nat_lt y (sectors_of (v.arrays n))) (nat_lt y (moved_to (v.arrays n).truth)) (v.arrays n).young (nat_lt (row_at (sector_in (frame_of (v.arrays n).truth).layout y)) (first_unsynced (v.arrays n).truth)) lt (calls.ready n ready) in
      or_from (not (has_sector (u.arrays n) y)) (spent_of w n y || not (nat_lt y (sectors_of (v.arrays n)))) (ap not (longer.sectors y has))
      (or_from (spent_of w n y) (not (nat_lt y (sectors_of (v.arrays n)))) alive (ap not lt))

  pub spent_before : (y : ℕ) → y < sectors_of (v.arrays n) → live_of w n y → live_of v n y
  spent_before y inside alive = or_from (is_failed v n) (spent_in (v.arrays n) y) (early.goes n live low) (early.covers n live low y (alive_in v y old inside alive))

  -- ---- where it is told

  tracked : IsTracked v a n → IsTrackedFor v p vals a
  tracked told = record {
    marked = λ q current. heeded_gone v calls.before q;
    few = λ k is low. let most = calls.began.most in omega (arith, low, most);
    live = live;
    one = low;
    goes = λ k is low. early.goes k is low;
    grown = λ k is low. own (λ j. (v.arrays j).young ≡ false) k is (calls.ready n ready);
    tracked = λ k is low. own (λ j. IsTracked v a j) k is told;
    covers = λ k y is low alive. or_from (is_failed v k) (spent_in (v.arrays k) y) (early.goes k is low) (early.covers k is low y alive);
    values = λ k y is low alive. own (λ j. spent_at p j (v.arrays j) y ≡ false → vals j y ≡ held_in v a j y) k is
        (λ alive. ap (λ (t : Bool). if t then held_in v a n y else only (zeros 512)) (parts (v.arrays n) y alive).1) alive;
    since = λ q u few there may. from_any v.state q u;
    rows = λ k is low kept. absurd (both_ways false refl kept);
    lacks = λ k is low wanted. absurd (both_ways false refl wanted);
  }

  stands : IsTracked v a n → Stands v v p vals a
  stands told = tracked_stands v p vals a (tracked told)

  after : IsTracked v a n → Stands (by xs v) w p vals b
  after told = calls.makes.after p suits promised (stands told)

  stood : IsTracked v a n → InvariantInCall w.state (shape_of (w.arrays n)) (vals n) (spent_at p n ((by xs v).arrays n)) (λ place. false) w b n
  stood told =
      let now = after told in
      let e = by xs v in
      let joined : n < e.state.joined = subst (λ (s : State). n < s.joined) now.same (let more = calls.joined in omega (arith, ready, more)) in
      subst (λ (s : State). InvariantInCall s (shape_of (w.arrays n)) (vals n) (spent_at p n (e.arrays n)) (λ place. false) w b n) (sym now.same)
      (subst (λ (s : Shape). InvariantInCall e.state s (vals n) (spent_at p n (e.arrays n)) (λ place. false) w b n) (sym ((now.alike (λ q current. heeded_gone w calls.after q) n live end.made).shape))
      (subst (λ g. InvariantInCall e.state (shape_of (e.arrays n)) (vals n) (spent_at p n (e.arrays n)) g w b n) (λ i q. heeded_gone w calls.after q i)
      (stood_of e w p vals b now n live end.made ((now.alike (λ q current. heeded_gone w calls.after q) n live end.made).young ∙ end.young) joined)))

  source : IsTracked v a n → IsSourced (w.arrays n) (spent_of w n) b
  source told =
      let low_after : n < w.state.made = let more = calls.made in omega (arith, low, more) in
      sourced (w.arrays n) (spent_of w n) b (calls.set.arrays n low_after).is_array (heeded_whole w n calls.after (calls.set.marked n low_after))
      (λ y alive. (live_parts w n y alive).1) (stood told).holds.shape.settled

  pub own_after : IsTracked v a n → InvariantInCall w.state (shape_of (w.arrays n)) (held_in w b n) (spent_of w n) (λ place. false) w b n
  own_after told = own_stood w b n (vals n) (spent_at p n ((by xs v).arrays n)) (source told) (stood told)

  pub slices_after : IsTracked v a n → AreLive w.state.made b
  slices_after told = subst (λ (s : State). AreLive s.made b) (sym (after told).same) (after told).slices

  old_value : (y : ℕ) → y < sectors_of (v.arrays n) → vals n y ≡ held_in v a n y
  old_value y inside = ap (λ (t : Bool). if t then held_in v a n y else only (zeros 512)) (lt-ltb y (sectors_of (v.arrays n)) inside)

  pub keeps_held : IsTracked v a n → (y : ℕ) → y < sectors_of (v.arrays n) → live_of w n y → Keeps (held_in v a n y) (held_in w b n y)
  keeps_held told y inside alive =
      subst (λ (z : Values). Keeps z (held_in w b n y)) (old_value y inside)
      (subst (λ k. Keeps (vals n y) (held_by (shape_of (w.arrays n)) b.held k y)) (stood told).number
      (own_keeps w.state (w.arrays n) (vals n) (spent_at p n ((by xs v).arrays n)) b y (stood told).holds.shape (alive_in (by xs v) y end inside alive)))

  -- what a stop leaves, replayed
  pub leaves_value : IsTracked v a n → a.traced → (y : ℕ) → y < sectors_of (v.arrays n) → live_of w n y → Leaves a b (λ c. MayLeave (held_in v a n y) (arrays_in (replayed a.sectors c) n y))
  leaves_value told traced y inside alive =
      let all = calls.makes.stops p suits promised (stands told) traced in
      record {
        later = all.later;
        kept = all.kept;
        past = all.past;
        new = λ k c since until stopped.
            let inside_c : IsInside a.sectors c = λ d t out. calls.inside k c stopped d t (subst (λ m. m ≤ t) (sym (calls.makes.stays.sectors d)) out) in
            let at = along_old v n xs v (λ u. HoldsBook u p vals a.sectors c) (calls.old n ready) old (all.new k c since until stopped inside_c) in
            let u = at.0 in
            let shows = at.2.arrays n live at.1.made in
            subst (λ (z : Values). MayLeave z (arrays_in (replayed a.sectors c) n y)) (old_value y inside)
            (says_value u.state n (shape_of (u.arrays n)) (vals n) (spent_at p n (u.arrays n)) (replayed a.sectors c) y at.2.log.is_state shows.says (alive_in u y at.1 inside alive));
      }

-- AS A RACK, THE ARRAYS KEEP WHAT THEY HAD
pub keeps_old : {F G : Type 0} {r q : ℕ → ℕ} (xs : List Change) (v w : Raid) (a b : RackView) → IsGrowing xs v w a b → KeepsOldSectors v.state.joined (raid_of F r v a) (raid_of G q w b)
keeps_old {F = F} {G = G} {r = r} {q = q} xs v w a b calls = record {
  told = λ n ready told. record {
    joined = let more = calls.joined in omega (arith, ready, more);
    stood = λ goes. own_after xs v w a b calls n ready goes told;
    slices = λ goes. slices_after xs v w a b calls n ready goes told;
  };
  spent = λ n y ready inside alive. spent_before xs v w a b calls n ready (live_parts w n y alive).0 y inside alive;
  held = λ n y ready told inside alive. keeps_held xs v w a b calls n ready (live_parts w n y alive).0 told y inside alive;
  stops = λ traced n y ready told inside alive.
      leaves_raid {F = F} {G = G} {r = r} {q = q} v w a b (λ c. MayLeave (held_in v a n y) (arrays_in (replayed a.sectors c) n y)) (λ c. MayLeave (held_in v a n y) (c n y)) calls.makes.stays
      (leaves_value xs v w a b calls n ready (live_parts w n y alive).0 told traced y inside alive)
      (λ below c given is. subst (MayLeave (held_in v a n y)) (sym (is n y)) given);
}
