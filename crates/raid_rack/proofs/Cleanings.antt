-- Cleanings in a row, and the mending of losses after each.
use Rattle.std.proofs.Common.{◌≡◌, ℕ, ◌+◌, ◌<◌, ◌≤◌, Bool, true, false, ◌==◌, ◌||◌, nat_lt, List, [], set, length, get_or, refl, sym, ap, subst, ◌∙◌, inl, inr, eq-eqb, eqb-true, ne_eqb, lt-ltb, le-ltb, ltb-true, arith}
use Rattle.std.proofs.lemmas.Bool.{cases_Bool, cases_lt, cases_eq, both_ways}
use Rattle.arrayvec.specs.ArrayVec.{ArrayVec}
use Rattle.rack.specs.Values.{Values, Keeps}
use Rattle.rack.specs.Seen.{RackView, IsLive, SameRack}
use Rattle.rack.specs.Joins.{keeps_same, keeps_then, live_first, live_second}
use Rattle.pool_state.specs.declared.contents.State.{State}
use Rattle.array_image.specs.Places.{slice_of, super_sector}
use Rattle.array_image.specs.Arrays.{Shape}
use Rattle.array_image.specs.Held.{IsSynced}
use Rattle.array_image.specs.SoundArray.{array_fields}
use Rattle.log_laws.specs.Kept.{LogInvariant}
use Rattle.array_model.specs.View.{View, place_at, shape_of}
use Rattle.array_model.specs.Says.{ArrayInvariant}
use Rattle.array_model.specs.ArrayCalls.{IncludesSpent, Keeping}
use Rattle.array_model.specs.Members.{slice_on}
use Rattle.array_core.specs.Superblocks.{is_settled, settled}
use Rattle.array_core.specs.Settling.{Cleans as ArrayCleans, KeepsOthers}
use Rattle.array_core.specs.Pool.{Goes, MayRenew}
use Rattle.array_core.specs.TruthLeft.{LeavesTruth}
use Rattle.array_core.specs.Writing.{KeepsElsewhere}
use Rattle.raid_rack.specs.declared.arrays.Arrays.{Arrays}
use Rattle.raid_laws.specs.Raid.{Raid}
use Rattle.raid_laws.specs.Moves.{AreMarked, IsHeeded, IsSet, Mends}
use Rattle.raid_laws.specs.Cleaning.{Cleans, CleansAll, Ends, IsEnded, IsIdle, as_it_was, restated}
use Rattle.raid_rack.specs.RaidRack.{IsRunning, raid_by, no_array}
use Rattle.raid_laws.proofs.Agreeing.{none_early, none_later}
use Rattle.raid_laws.proofs.Changed.{called}
use Rattle.raid_laws.proofs.Cleaned.{CleanCall, ends_clean, moves_clean, none_gone, settled_clean, slice_own}
use Rattle.raid_laws.proofs.Moving.{moves_same, moves_then}
use Rattle.raid_rack.proofs.Steps.{set_own, set_other, length_set}
use Rattle.raid_rack.proofs.Synced.{settled_moved}

-- ---- one array

pub cleans_one : (v w : Raid) (f : ℕ → View) (m : ℕ) (a b c : RackView) → IsSet v a → CleanCall v f m a b → Mends (called v f v.number) w b c
    → (AreMarked (called v f v.number) → IsIdle (called v f v.number) w × (Ends (λ n. n == m) v w a b → Ends (λ n. n == m) v w a c))
    → Cleans (λ n. n == m) v w a c
cleans_one v w f m a b c set call mends idle =
    let step = moves_clean v f m a b set call in
    record {
      moves = moves_then v (called v f v.number) w a b c step mends.moves;
      heeded = mends.heeded;
      settled = λ n vals spent on joined low goes covers amid.
          let still = mends.moves.still n low goes in
          let covered : IncludesSpent (f n) spent = λ s alive. mends.moves.spent n s low (covers s alive) in
          settled_moved (called v f v.number) w b c n vals spent step.set mends.moves low
          ((step.parts n vals spent joined low still covered).holds amid)
          (settled_clean v f m a b set call n vals spent (eqb-true n m on) covered amid);
      ends = λ none.
          let early = none_early a b c mends.moves.stays none in
          let after = idle (none_gone v f m a b set call early) in
          after.1 (ends_clean v f m a b set call w after.0 early);
    }

-- ---- in a row

pub cleans_none : (on : ℕ → Bool) (v : Raid) (x : RackView) → ((n : ℕ) → on n ≡ false) → IsSet v x → IsHeeded v → Cleans on v v x x
cleans_none on v x none set heeded =
    record {
      moves = moves_same v x set;
      heeded = heeded;
      settled = λ n vals spent is joined low goes covers amid. absurd (both_ways (on n) (none n) is);
      ends = λ fails. record {
        state = refl;
        ended = λ n low is. absurd (both_ways (on n) (none n) is);
        others = λ n low off. refl;
        kept = λ d t live apart. keeps_same (x.held d t);
      };
    }

ended_early : (u w : View) (n : ℕ) (a b c : RackView) → w.number ≡ n → n < 16 → SameRack b c
    → ((d t : ℕ) → slice_of d ≡ n + 1 → IsLive b c d t → Keeps (b.held d t) (c.held d t)) → SameRack a b
    → IsEnded u w a b → IsEnded u w a c
ended_early u w n a b c number few later keeps first (as_it_was was same) = as_it_was was same
ended_early u w n a b c number few later keeps first (restated was same on) =
    restated was same
    (λ k low left live x may.
    on k low left (live_first later live) x
    ((keeps (slice_on w k) super_sector
    (slice_own (place_at w k) w.number (subst (λ j. j < 16) (sym number) few) ∙ ap (λ j. j + 1) number) (live_second first live)).within x may))

ended_late : (u w : View) (a b c : RackView) → SameRack a b → IsEnded u w b c → IsEnded u w a c
ended_late u w a b c first (as_it_was was same) = as_it_was was same
ended_late u w a b c first (restated was same on) = restated was same (λ k low left live x may. on k low left (live_second first live) x may)

-- arrays that are cleaned one after the other
pub cleans_then : (first late on : ℕ → Bool) (v w z : Raid) (a b c : RackView) → ((n : ℕ) → on n ≡ (first n || late n)) → ((n : ℕ) → first n ≡ true → late n ≡ false)
    → Cleans first v w a b → Cleans late w z b c → Cleans on v z a c
cleans_then first late on v w z a b c either apart one two =
    record {
      moves = moves_then v w z a b c one.moves two.moves;
      heeded = two.heeded;
      settled = λ n vals spent is joined low goes covers amid.
          let made = still n low in
          let goes_w = two.moves.still n made goes in
          let covered : IncludesSpent (w.arrays n) spent = λ s alive. two.moves.spent n s made (covers s alive) in
          let mid = (one.moves.parts n vals spent joined low goes_w covered).holds amid in
          elim (cases_Bool (first n)) [
            | inl early ↦
                settled_moved w z b c n vals spent one.moves.set two.moves made mid (one.settled n vals spent early joined low goes_w covered amid)
            | inr not ↦
                two.settled n vals spent (late_of n is not) (subst (λ k. n < k) (sym one.moves.book.same.joined) joined) made goes covers mid
          ];
      ends = λ none. both (one.ends (none_early a b c two.moves.stays none)) (two.ends (none_later a b c one.moves.stays none));
    }
  where
    still : (n : ℕ) → n < v.state.made → n < w.state.made
    still n low = subst (λ k. n < k) (sym one.moves.book.same.made) low

    late_of : (n : ℕ) → on n ≡ true → first n ≡ false → late n ≡ true
    late_of n is not = ap (λ (t : Bool). t || late n) (sym not) ∙ sym (either n) ∙ is

    neither : (n : ℕ) → on n ≡ false → (first n ≡ false) × (late n ≡ false)
    neither n off = parts (first n) (late n) (sym (either n) ∙ off)
      where
        parts : (p q : Bool) → (p || q) ≡ false → (p ≡ false) × (q ≡ false)
        parts true q is = absurd (both_ways true is refl)
        parts false q is = (refl, is)

    some_on : (n : ℕ) → first n ≡ true → on n ≡ true
    some_on n is = either n ∙ ap (λ (t : Bool). t || late n) is

    late_on : (n : ℕ) → late n ≡ true → on n ≡ true
    late_on n is = either n ∙ ap (λ (t : Bool). first n || t) is ∙ or_true (first n)
      where
        or_true : (t : Bool) → (t || true) ≡ true
        or_true true = refl
        or_true false = refl

    not_first : (n : ℕ) → late n ≡ true → first n ≡ false
    not_first n is = elim (cases_Bool (first n)) [ inl early ↦ absurd (both_ways (late n) (apart n early) is) | inr not ↦ not ]

    both : Ends first v w a b → Ends late w z b c → Ends on v z a c
    both here there =
        record {
          state = there.state ∙ here.state;
          ended = λ n low is.
              elim (cases_Bool (first n)) [
                | inl early ↦
                    let seated = one.moves.set.arrays n (still n low) in
                    subst (λ (u : View). IsEnded (v.arrays n) u a c) (sym (there.others n (still n low) (apart n early)))
                    (ended_early (v.arrays n) (w.arrays n) n a b c seated.number (subst (λ k. k < 16) seated.number seated.is_array.few) two.moves.stays
                    (λ d t at live.
                    there.kept d t live
                    (λ k made on_k settled same.
                    let here_k : k ≡ n = omega (arith, at, same) in
                    both_ways (late n) (apart n early) (subst (λ j. late j ≡ true) here_k on_k)))
                    one.moves.stays (here.ended n low early))
                | inr not ↦
                    ended_late (v.arrays n) (z.arrays n) a b c one.moves.stays
                    (subst (λ (u : View). IsEnded u (z.arrays n) b c) (here.others n low not) (there.ended n (still n low) (late_of n is not)))
              ];
          others = λ n low off.
              let none = neither n off in
              there.others n (still n low) none.1 ∙ here.others n low none.0;
          kept = λ d t live apart_on.
              keeps_then (a.held d t) (b.held d t) (c.held d t)
              (here.kept d t (live_first two.moves.stays live) (λ n low is unsettled. apart_on n low (some_on n is) unsettled))
              (there.kept d t (live_second one.moves.stays live)
              (λ n low is unsettled.
              let made : n < v.state.made = subst (λ k. n < k) one.moves.book.same.made low in
              apart_on n made (late_on n is) (sym (ap is_settled (here.others n made (not_first n is))) ∙ unsettled)));
        }

pub first_more : (n i : ℕ) → nat_lt n (i + 1) ≡ (nat_lt n i || (n == i))
first_more n i =
    elim (cases_lt n i) [
      | inl less ↦ lt-ltb n (i + 1) (omega (arith, less)) ∙ sym (ap (λ (t : Bool). t || (n == i)) (lt-ltb n i less))
      | inr more ↦
          elim (cases_eq n i) [
            | inl same ↦
                lt-ltb n (i + 1) (omega (arith, same))
                ∙ sym (ap (λ (t : Bool). t || (n == i)) (le-ltb n i more) ∙ eq-eqb n i same)
            | inr other ↦
                le-ltb n (i + 1) (omega (arith, more, other))
                ∙ sym (ap (λ (t : Bool). t || (n == i)) (le-ltb n i more) ∙ ne_eqb n i other)
          ]
    ]

pub first_apart : (n i : ℕ) → nat_lt n i ≡ true → (n == i) ≡ false
first_apart n i is = let low = ltb-true n i is in ne_eqb n i (λ same. absurd (omega (arith, low, same)))

pub cleans_all : (v w : Raid) (a b : RackView) (k : ℕ) → v.state.made ≤ k → Cleans (λ n. nat_lt n k) v w a b → CleansAll v w a b
cleans_all v w a b k past cleans =
    record {
      moves = cleans.moves;
      heeded = cleans.heeded;
      settled = λ n vals spent is joined low goes covers amid. cleans.settled n vals spent (on n low) joined low goes covers amid;
      ends = λ none.
          let ends = cleans.ends none in
          record {
            state = ends.state;
            ended = λ n low is. ends.ended n low (on n low);
            others = λ n low off. absurd (both_ways (nat_lt n v.state.made) off (lt-ltb n v.state.made low));
            kept = λ d t live apart. ends.kept d t live (λ n low is unsettled. apart n low (lt-ltb n v.state.made low) unsettled);
          };
    }
  where
    on : (n : ℕ) → n < v.state.made → nat_lt n k ≡ true
    on n low = lt-ltb n k (omega (arith, low, past))

-- ---- the code

-- what the cleaning of an array says of it, before it and after it
pub record CleansArray (old u : View) (x y : RackView) : Type 0 where
  pub cleans :
      (s : State) (vals : ℕ → Values) (spent : ℕ → Bool) → IncludesSpent u spent → MayRenew s old x → Keeping s old u spent x y (shape_of old) vals
  pub truths :
      (s : State) (vals : ℕ → Values) (spent : ℕ → Bool) → IncludesSpent u spent → MayRenew s old x
      → LeavesTruth s old.number (λ t. array_fields t ≡ array_fields (settled old).truth) (ArrayInvariant s (shape_of old) old vals spent x) x y
  pub view : ArrayCleans old u x y
  pub goes : Goes x y
  pub elsewhere : (on : List ℕ) → KeepsElsewhere false old on x y
  pub supers : KeepsOthers x y
  pub settled :
      (s : State) (durable : Shape) (vals : ℕ → Values) (spent : ℕ → Bool) → IncludesSpent u spent → ArrayInvariant s durable old vals spent x
      → IsSynced (shape_of u) u.number y.held
  pub kept : (s : State) (number : ℕ) → LogInvariant s number (λ place. false) x → LogInvariant s number (λ place. false) y

pub clean_call : (a : Arrays) (all : ArrayVec View) (x y : RackView) (n : ℕ) (old u : View) → IsRunning a x → IsHeeded (raid_by a) → n < a.state.made
    → old ≡ get_or a.all.items n no_array → all.items ≡ set a.all.items n u → CleansArray old u x y
    → CleanCall (raid_by a) (λ k. get_or all.items k no_array) n x y
clean_call a all x y n old u running heeded low old_is all_is cleaned =
    let f : ℕ → View = λ k. get_or all.items k no_array in
    let v = raid_by a in
    let own : f n ≡ u = ap (λ ys. get_or ys n no_array) all_is ∙ set_own a.all.items n u no_array (let count = running.count in omega (arith, low, count)) in
    let others : (k : ℕ) → (k ≡ n → ⊥) → f k ≡ v.arrays k = λ k other. ap (λ ys. get_or ys k no_array) all_is ∙ set_other a.all.items n k u no_array other in
    let at : CleansArray (v.arrays n) (f n) x y =
    subst (λ (z : View). CleansArray z (f n) x y) old_is (subst (λ (z : View). CleansArray old z x y) (sym own) cleaned) in
    record {
      heeded = heeded;
      low = low;
      others = others;
      goes = at.goes;
      view = at.view;
      cleans = λ vals spent covers may. at.cleans a.state vals spent covers may;
      truths = λ vals spent covers may. at.truths a.state vals spent covers may;
      kept = λ log. at.kept a.state a.log.number log;
      elsewhere = at.elsewhere [];
      supers = at.supers;
      settled = λ durable vals spent covers holds. at.settled a.state durable vals spent covers holds;
    }

pub clean_running : (a : Arrays) (all : ArrayVec View) (x y : RackView) (n : ℕ) (u : View) → IsRunning a x → all.items ≡ set a.all.items n u
    → CleanCall (raid_by a) (λ k. get_or all.items k no_array) n x y → IsRunning (record a { all = all }) y
clean_running a all x y n u running all_is call = record {
  count = ap length all_is ∙ length_set a.all.items n u ∙ running.count;
  set = (moves_clean (raid_by a) (λ k. get_or all.items k no_array) n x y running.set call).set;
}
