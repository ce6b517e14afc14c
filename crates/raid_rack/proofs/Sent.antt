-- The code that writes a sector of an array, as a part of a call of all.
use Rattle.std.proofs.Common.{◌≡◌, ◌⊎◌, ℕ, ◌<◌, ◌≤◌, Bool, true, false, ◌==◌, ◌||◌, nat_lt, List, [], ◌∷◌, set, length, get_or, refl, sym, ap, subst, ◌∙◌, inl, inr, eqb-true, ltb-true, arith}
use Rattle.std.proofs.lemmas.Bool.{cases_Bool, both_ways, and_parts}
use Rattle.std.specs.List.{list_any, list_all}
use Rattle.arrayvec.specs.ArrayVec.{ArrayVec}
use Rattle.rack.specs.Values.{Values}
use Rattle.rack.specs.Seen.{RackView, SameRack}
use Rattle.pool_state.specs.declared.contents.State.{State}
use Rattle.array_image.specs.States.{current_places}
use Rattle.log_laws.specs.View.{LogView, committed}
use Rattle.log_laws.specs.Kept.{LogInvariant}
use Rattle.array_model.specs.View.{View, has_gone, is_whole_array, shape_of}
use Rattle.array_model.specs.Says.{ArrayInvariant}
use Rattle.array_model.specs.ArrayCalls.{IncludesSpent, WritesArray}
use Rattle.array_core.specs.Pool.{Goes, MayCommit}
use Rattle.array_core.specs.Superblocks.{raised}
use Rattle.array_core.specs.TruthLeft.{LeavesTruth}
use Rattle.array_core.specs.Writing.{KeepsElsewhere, WritesView, as_it_was, newly_marked}
use Rattle.raid_rack.specs.declared.arrays.Arrays.{Arrays}
use Rattle.raid_laws.specs.Raid.{Raid}
use Rattle.raid_laws.specs.Moves.{AreCaused, ChangesData, IsHeeded, IsSet, KeepsArrays, Mends, WritesOne, written_at}
use Rattle.raid_rack.specs.RaidRack.{IsRunning, raid_by, no_array}
use Rattle.raid_laws.proofs.Calls.{raised_low, unsynced_by}
use Rattle.raid_laws.proofs.Changed.{caused, keeps_arrays, left_before}
use Rattle.raid_laws.proofs.Committed.{next_later}
use Rattle.raid_laws.specs.Losing.{arrays_then}
use Rattle.raid_laws.proofs.Moving.{brings_then, caused_then}
use Rattle.raid_rack.proofs.Steps.{set_own, set_other, length_set}
use Rattle.raid_laws.proofs.Views.{NotesOne, views_notes}
use Rattle.raid_laws.proofs.Written.{WriteCall, write_brings}

-- what it makes of the array
views_write : (v : Raid) (f : ℕ → View) (m : ℕ) (a b : RackView) → IsSet v a → m < v.state.made → SameRack a b
    → ((n : ℕ) → (n ≡ m → ⊥) → f n ≡ v.arrays n) → WritesView (v.arrays m) (f m) a b → NotesOne v f m a b
views_write v f m a b set low stays others (as_it_was why notes) =
    let u = v.arrays m in
    let pool = (set.arrays m low).is_of_pool in
    views_notes v f m a b u.truth.events u.truth.resync_offset u.marked set low stays others
    (record { later = omega arith; some = pool.events; few = pool.events_end; whole = λ was. was; unsynced = pool.unsynced; synced = λ young part rows. rows })
    (λ marked. inl marked) notes
views_write v f m a b set low stays others (newly_marked whole fresh unmarked notes) =
    let u = v.arrays m in
    let pool = (set.arrays m low).is_of_pool in
    let events = raised_low u.truth.events pool.events pool.events_end in
    views_notes v f m a b (raised u.truth.events) 0 (f m).marked set low stays others
    (record {
      later = events.0;
      some = let more = events.0 in let some = pool.events in omega (arith, more, some);
      few = events.1;
      whole = λ was. inr refl;
      unsynced = unsynced_by 0 u.truth.size u.resync (λ below. omega arith) (λ above. omega (arith, above));
      synced = λ young part rows. absurd (both_ways (is_whole_array u) part whole);
    })
    (λ marked. inr whole) notes

-- places below 16
pub low_named : (ps : List ℕ) (p : ℕ) → list_all (λ place. nat_lt place 16) ps ≡ true → list_any (λ q. q == p) ps ≡ true → p < 16
low_named [] p all is = absurd (both_ways false refl is)
low_named (q ∷ ps) p all is =
    let both = and_parts (nat_lt q 16) (list_all (λ place. nat_lt place 16) ps) all in
    elim (cases_Bool (q == p)) [
      | inl here ↦ let same = eqb-true q p here in let low = ltb-true q 16 both.0 in omega (arith, same, low)
      | inr other ↦ low_named ps p both.1 (sym (ap (λ b. b || list_any (λ q. q == p) ps) other) ∙ is)
    ]

-- what the write of an array says of it, before it and after it
pub record WroteArray (old u : View) (number late : ℕ) (on : List ℕ) (x y : RackView) (sector : ℕ) (from : List ℕ) : Type 0 where
  pub writes :
      (s : State) (vals : ℕ → Values) (spent : ℕ → Bool) → IncludesSpent u spent → MayCommit s old u number on x
      → WritesArray s old u spent x y (shape_of old) vals sector from
  pub kept : (s : State) → MayCommit s old u number on x → LogInvariant s late (has_gone u) y
  pub truths :
      (s : State) (vals : ℕ → Values) (spent : ℕ → Bool) → IncludesSpent u spent → MayCommit s old u number on x → is_whole_array old ≡ false
      → LeavesTruth s old.number (λ t. ⊥) (ArrayInvariant s (shape_of old) old vals spent x) x y
  pub view : WritesView old u x y
  pub elsewhere : KeepsElsewhere false old on x y

pub record HasWritten (a b : Arrays) (x y : RackView) (n sector : ℕ) (from : List ℕ) : Type 0 where
  pub brings : ChangesData (raid_by a) (raid_by b) x y (written_at n sector from)
  pub arrays : KeepsArrays (raid_by a) (raid_by b)
  pub plan : b.state.plan ≡ a.state.plan
  pub caused : AreCaused (raid_by a) (raid_by b) x y
  pub running : IsRunning b y

pub has_written : (a : Arrays) (all : ArrayVec View) (log : LogView) (x y : RackView) (n sector : ℕ) (from on : List ℕ) (number : ℕ) (old u : View)
    → IsRunning a x → IsHeeded (raid_by a) → n < a.state.made
    → old ≡ get_or a.all.items n no_array → all.items ≡ set a.all.items n u → number ≡ a.log.number → number ≤ log.number
    → on ≡ current_places a.state → list_all (λ place. nat_lt place 16) u.went ≡ true → Goes x y
    → WroteArray old u number log.number on x y sector from
    → HasWritten a (record a { all = all; log = log }) x y n sector from
has_written a all log x y n sector from on number old u running heeded low old_is all_is number_is later on_is few goes wrote =
    let f : ℕ → View = λ k. get_or all.items k no_array in
    let v = raid_by a in
    let own : f n ≡ u = ap (λ ys. get_or ys n no_array) all_is ∙ set_own a.all.items n u no_array (let count = running.count in omega (arith, low, count)) in
    let others : (k : ℕ) → (k ≡ n → ⊥) → f k ≡ v.arrays k = λ k other. ap (λ ys. get_or ys k no_array) all_is ∙ set_other a.all.items n k u no_array other in
    let at : WroteArray (v.arrays n) (f n) v.number log.number on x y sector from =
    subst (λ (z : View). WroteArray z (f n) v.number log.number on x y sector from) old_is
    (subst (λ (z : View). WroteArray old z v.number log.number on x y sector from) (sym own)
    (subst (λ k. WroteArray old u k log.number on x y sector from) number_is wrote)) in
    let both = views_write v f n x y running.set low goes.stays others at.view in
    let call : WriteCall v f log.number n x y on sector from = record {
      heeded = heeded;
      views = both.views;
      loses = both.loses;
      goes = goes;
      later = subst (λ k. k ≤ log.number) number_is later;
      on_is = on_is;
      few = λ p is. low_named u.went p few (sym (ap (λ (z : View). has_gone z p) own) ∙ is);
      writes = λ vals spent covers may. at.writes a.state vals spent covers may;
      kept = λ may. at.kept a.state may;
      truths = λ vals spent covers may part. at.truths a.state vals spent covers may part;
      elsewhere = at.elsewhere;
    } in
    let brings = write_brings v f log.number n x y on sector from running.set call in
    record {
      brings = brings;
      arrays = keeps_arrays v f n x y running.set both.views both.loses;
      plan = refl;
      caused = record {
        left = left_before v f n x y running.set call.views;
        cause = caused v f n x y running.set call.views;
      };
      running = record { count = ap length all_is ∙ length_set a.all.items n u ∙ running.count; set = brings.set };
    }

-- a write's number is that before it, or the next one
pub later_number : (before after : LogView) → (after ≡ before) ⊎ (after ≡ committed before) → before.number ≤ after.number
later_number before after (inl same) = let is = ap (λ (l : LogView). l.number) same in omega (arith, is)
later_number before after (inr next) = subst (λ (l : LogView). before.number ≤ l.number) (sym next) (next_later before.number)

pub writes_one : (a b c : Arrays) (x y z : RackView) (n sector : ℕ) (from : List ℕ) → HasWritten a b x y n sector from → Mends (raid_by b) (raid_by c) y z
    → WritesOne (raid_by a) (raid_by c) x z n sector from
writes_one a b c x y z n sector from wrote mends =
    record {
      brings = brings_then (raid_by a) (raid_by b) (raid_by c) x y z (written_at n sector from) wrote.brings mends.moves;
      arrays = arrays_then (raid_by a) (raid_by b) (raid_by c) wrote.brings.book.same.made wrote.arrays mends.moves.arrays;
      plan = mends.moves.plan ∙ wrote.plan;
      caused = caused_then (raid_by a) (raid_by b) (raid_by c) x y z wrote.brings.stays mends.moves.stays wrote.caused
          (record { left = mends.moves.left; cause = mends.moves.cause });
      heeded = mends.heeded;
    }
