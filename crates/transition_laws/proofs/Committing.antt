-- A commit of a rack of arrays, whatever change of the book its log brings: whoever goes in it is noted in all arrays.
use Rattle.std.proofs.Common.{◌≡◌, ◌⊎◌, ℕ, ◌-◌, ◌^◌, ◌<◌, ◌≤◌, Bool, true, false, ◌&&◌, ◌||◌, not, List, [], ◌∷◌, Some, refl, sym, ap, subst, ◌∙◌, inl, inr, arith}
use Rattle.std.proofs.lemmas.Bool.{and_from, and_parts, both_ways, cases_Bool, cases_lt}
use Rattle.rack.specs.Values.{Values}
use Rattle.rack.specs.Seen.{IsLive, RackView}
use Rattle.rack.specs.Targets.{look}
use Rattle.pool_state.specs.declared.contents.State.{State}
use Rattle.array_image.specs.Places.{log_slice}
use Rattle.array_image.specs.States.{is_current}
use Rattle.log_laws.specs.Commits.{CommitCall}
use Rattle.log_laws.specs.Kept.{CarriesState as BringsState}
use Rattle.log_laws.specs.Saying.{AreOwnCopies, KeepsDrives}
use Rattle.log_laws.specs.View.{LogView, names, next_number}
use Rattle.log_laws.proofs.Kept.{brings_to}
use Rattle.array_model.specs.View.{has_gone, present, View}
use Rattle.array_model.proofs.Losses.{IsLosing}
use Rattle.array_core.specs.Seats.{gone as without}
use Rattle.transition_laws.specs.Changes.{Change, changed, is_due}
use Rattle.transition_laws.specs.Holds.{Promise, spent_at}
use Rattle.transition_laws.specs.Makes.{Makes, Suits}
use Rattle.raid_laws.specs.Marking.{NoData}
use Rattle.raid_laws.specs.Moves.{AreMarked, IsSet}
use Rattle.raid_laws.specs.Raid.{AreLive, gone_in, Raid}
use Rattle.transition_laws.specs.Stages.{Commits, Stages}
use Rattle.transition_laws.proofs.CommitMakes.{commit_makes}
use Rattle.raid_laws.proofs.Committed.{next_later}
use Rattle.raid_laws.proofs.Noted.{bool_same, current_few, gone_from, gone_not, gone_some, losing_spent}
use Rattle.raid_laws.proofs.Over.{not_true, number_room, or_parts, someone_left}
use Rattle.transition_laws.proofs.MoreArrays.{GoesOn, over_before}
use Rattle.raid_laws.proofs.Seated.{gone_fewer, gone_losing, names_joined, none_listed, or_last}

but_left : (c g n k : Bool) → n ≡ (c && not g) → (g || k) ≡ ((g && not n) || k)
but_left true true n k is = ap (λ b. not b || k) (sym is)
but_left false true n k is = ap (λ b. not b || k) (sym is)
but_left c false n k is = refl

-- the book by which images go, whose arrays are g and whose number isn't known, and the run after the commit
abbrev pub book_with : Raid → ℕ → (ℕ → View) → Raid
book_with v book_number g = record v { number = book_number; arrays = g }

abbrev pub run_after : Raid → State → ℕ → (ℕ → View) → Raid
run_after v t number f = record v { state = t; number = number; arrays = f }

pub record IsCommitting (x : Change) (v : Raid) (book_number : ℕ) (g : ℕ → View) (on gone : List ℕ) (l : LogView) (f : ℕ → View) (b c : RackView) : Type 0 where
  pub due : is_due x (book_with v book_number g)
  pub set : IsSet v b
  pub call : CommitCall l on gone b c
  pub number : l.number ≡ v.number
  pub arrays : (n : ℕ) → n < v.state.made → f n ≡ without gone (v.arrays n)
  pub fresh : (n : ℕ) → n < v.state.made → (without gone (v.arrays n)).went ≡ [] → (v.arrays n).went ≡ []
  -- by the new state just those places are current that are left, and these are written
  pub current : (q : ℕ) → is_current (changed x (book_with v book_number g)).state q ≡ (is_current v.state q && not (gone_in v q))
  pub on_is : (q : ℕ) → names on q ≡ is_current (changed x (book_with v book_number g)).state q
  pub called : (q : ℕ) → names gone q ≡ true → is_current (changed x (book_with v book_number g)).state q ≡ true
  -- arrays may come to be: their slices are told, and whoever went in the commit alone has gone of them
  pub made : v.state.made ≤ (changed x (book_with v book_number g)).state.made
  pub new : (n : ℕ) → v.state.made ≤ n → n < (changed x (book_with v book_number g)).state.made → (q : ℕ) → has_gone (f n) q ≡ true → names gone q ≡ true
  pub slices : AreLive v.state.made b → AreLive (changed x (book_with v book_number g)).state.made b
  pub few : v.state.joined < 17 → (changed x (book_with v book_number g)).state.joined < 17
  pub epoch : v.state.epoch ≤ (changed x (book_with v book_number g)).state.epoch
  pub later : v.state.epoch < 2 ^ 63 - 1 → v.state.epoch < (changed x (book_with v book_number g)).state.epoch
  pub last : (changed x (book_with v book_number g)).state.epoch < 2 ^ 63 - 1 → v.state.epoch < 2 ^ 63 - 1
  pub drives : KeepsDrives v.state (changed x (book_with v book_number g)).state on
  pub brings : v.state.epoch < 2 ^ 63 - 1 → BringsState v.state (changed x (book_with v book_number g)).state l.added on
  pub own : AreOwnCopies (changed x (book_with v book_number g)).state l.added
  pub none : NoData l.added
  pub live :
      AreLive v.state.made b → ((q u : ℕ) → q < 16 → u < b.sectors (log_slice q) → IsLive b b (log_slice q) u)
      → (e u : ℕ) (y : List ℕ) → look l.added e u ≡ Some y → IsLive b b e u

module _ (x : Change) (v : Raid) (book_number : ℕ) (g : ℕ → View) (on gone : List ℕ) (l : LogView) (f : ℕ → View) (b c : RackView) (commit : IsCommitting x v book_number g on gone l f b c) where
  abbrev t : State
  t = (changed x (book_with v book_number g)).state

  abbrev w : Raid
  w = run_after v (changed x (book_with v book_number g)).state (next_number l.number) f

  was : (q : ℕ) → is_current (changed x (book_with v book_number g)).state q ≡ true → (is_current v.state q ≡ true) × (gone_in v q ≡ false)
  was q is =
      let both = and_parts (is_current v.state q) (not (gone_in v q)) (sym (commit.current q) ∙ is) in
      (both.0, not_true (gone_in v q) both.1)

  few : (q : ℕ) → names gone q ≡ true → q < 16
  few q is = current_few v.state q commit.set.few (was q (commit.called q is)).0

  -- a place has gone after it that had gone before, or went in it
  went : (n q : ℕ) → n < v.state.made → q < 16 → has_gone (f n) q ≡ (has_gone (v.arrays n) q || names gone q)
  went n q low small = ap (λ (u : View). has_gone u q) (commit.arrays n low) ∙ names_joined (v.arrays n).went gone q small

  pub run_gone : (n q : ℕ) → n < v.state.made → gone_in (run_after v (changed x (book_with v book_number g)).state (next_number l.number) f) q ≡ (gone_in v q || names gone q)
  run_gone n q low =
      bool_same (gone_in (run_after v (changed x (book_with v book_number g)).state (next_number l.number) f) q) (gone_in v q || names gone q) (λ is. into is) (λ is. out (cases_Bool (gone_in v q)) is)
    where
      into : gone_in (run_after v (changed x (book_with v book_number g)).state (next_number l.number) f) q ≡ true → (gone_in v q || names gone q) ≡ true
      into is =
          let at = gone_some (run_after v (changed x (book_with v book_number g)).state (next_number l.number) f) q is in
          elim (cases_Bool (gone_in v q)) [
            | inl had ↦ ap (λ z. z || names gone q) had
            | inr none ↦
                elim (cases_lt at.1.0 v.state.made) [
                  | inl old ↦
                      ap (λ z. z || names gone q) none
                      ∙ sym (ap (λ z. z || names gone q) (gone_not v q at.1.0 at.0 old none)) ∙ sym (went at.1.0 q old at.0) ∙ at.1.2
                  | inr new ↦ or_last (gone_in v q) (names gone q) (commit.new at.1.0 new at.1.1 q at.1.2)
                ]
          ]

      now : (k : ℕ) → k < v.state.made → k < (changed x (book_with v book_number g)).state.made
      now k low = let more = commit.made in omega (arith, low, more)

      from : q < 16 → (has_gone (v.arrays n) q || names gone q) ≡ true → gone_in (run_after v (changed x (book_with v book_number g)).state (next_number l.number) f) q ≡ true
      from small is =
          gone_from (run_after v (changed x (book_with v book_number g)).state (next_number l.number) f) q n small (now n low) (went n q low small ∙ is)

      out : (gone_in v q ≡ true) ⊎ (gone_in v q ≡ false) → (gone_in v q || names gone q) ≡ true → gone_in (run_after v (changed x (book_with v book_number g)).state (next_number l.number) f) q ≡ true
      out (inl had) is =
          let at = gone_some v q had in
          gone_from (run_after v (changed x (book_with v book_number g)).state (next_number l.number) f) q at.1.0 at.0 (now at.1.0 at.1.1)
          (went at.1.0 q at.1.1 at.0 ∙ ap (λ z. z || names gone q) at.1.2)
      out (inr none) is =
          let named : names gone q ≡ true = sym (ap (λ z. z || names gone q) none) ∙ is in
          from (few q named) (or_last (has_gone (v.arrays n) q) (names gone q) named)

  losing : (n : ℕ) → n < v.state.made → IsLosing (v.arrays n) (f n) (names gone)
  losing n low =
      subst (λ (u : View). IsLosing (v.arrays n) u (names gone)) (sym (commit.arrays n low)) (gone_losing (v.arrays n) gone (commit.set.arrays n low).is_array (commit.fresh n low))

  further : GoesOn v (run_after v (changed x (book_with v book_number g)).state (next_number l.number) f)
  further = record {
    left = λ q is.
        let at = was q (and_parts (is_current (changed x (book_with v book_number g)).state q) (not (gone_in (run_after v (changed x (book_with v book_number g)).state (next_number l.number) f) q)) is).0 in
        and_from (is_current v.state q) (not (gone_in v q)) at.0 (ap not at.1);
    number = let more = next_later l.number in let same = commit.number in omega (arith, more, same);
    epoch = commit.epoch;
    made = commit.made;
    events = λ n low. subst (λ (u : View). (v.arrays n).truth.events ≤ u.truth.events) (sym (commit.arrays n low)) (omega arith);
    seats = λ n low. subst (λ (u : View). present u.seats ≤ present (v.arrays n).seats) (sym (commit.arrays n low)) (gone_fewer (v.arrays n) gone (commit.set.arrays n low).is_array);
  }

  nobody : (n : ℕ) → n < v.state.made → AreMarked (run_after v (changed x (book_with v book_number g)).state (next_number l.number) f) → (q : ℕ) → names gone q ≡ false
  nobody n low are q = elim (cases_Bool (names gone q)) [
    | inl is ↦
        absurd (both_ways (gone_in (run_after v (changed x (book_with v book_number g)).state (next_number l.number) f) q) (are q (commit.called q is))
        (run_gone n q low ∙ or_last (gone_in v q) (names gone q) is))
    | inr none ↦ none
  ]

  listed : (n : ℕ) → n < v.state.made → (f n).went ≡ [] → gone ≡ []
  listed n low none =
      none_listed gone
      (λ q. elim (cases_Bool (names gone q)) [
        | inl is ↦
            absurd (both_ways (names (f n).went q) (ap (λ ps. names ps q) none) (went n q low (few q is) ∙ or_last (has_gone (v.arrays n) q) (names gone q) is))
        | inr not_there ↦ not_there
      ])

  pub commits : Commits x (book_with v book_number g) v (run_after v (changed x (book_with v book_number g)).state (next_number l.number) f) l on gone b c
  commits = record {
    due = commit.due;
    call = commit.call;
    lasting = commit.set.lasting;
    number = commit.number;
    number_after = refl;
    takes = on;
    brings = λ room. brings_to v.state (changed x (book_with v book_number g)).state l.number b l.added on (commit.brings room);
    later = commit.later;
    slices = commit.slices;
    few = commit.few;
    more = commit.made;
    are_left = λ q. commit.on_is q ∙ commit.current q;
    drives = commit.drives;
    own = commit.own;
    none = commit.none;
    live = commit.live;
    is_array = λ n low. (commit.set.arrays n low).is_array;
    losing = losing;
    fresh = listed;
    gone = λ n low q. run_gone n q low ∙ but_left (is_current v.state q) (gone_in v q) (names on q) (names gone q) (commit.on_is q ∙ commit.current q);
    back = λ p suits promised.
        let now : (n : ℕ) → n < v.state.made → n < (changed x (book_with v book_number g)).state.made = λ n low. let more = commit.made in omega (arith, low, more) in
        record {
          is_one = promised.is_one;
          goes = λ n is low. over_before v (run_after v (changed x (book_with v book_number g)).state (next_number l.number) f) further n low (promised.goes n is (now n low));
          covers = λ n is low y alive. losing_spent (v.arrays n) (f n) (names gone) (commit.set.arrays n low).is_array (losing n low) y
              (promised.covers n is (now n low) y (ap (λ (u : View). spent_at p n u y) (commit.arrays n low) ∙ alive));
        };
    state = refl;
    young = λ n low. ap (λ (u : View). u.young) (commit.arrays n low);
    marked = λ n low are. (λ q is. (was q is).1, nobody n low are);
    room = λ n goes.
        let ends = number_room (run_after v (changed x (book_with v book_number g)).state (next_number l.number) f) n goes in
        let number = ends.0 in
        let epoch = ends.1 in
        let more = next_later l.number in
        (omega (arith, number, more), commit.last (omega (arith, epoch)));
    someone = λ n low goes.
        let left = someone_left (run_after v (changed x (book_with v book_number g)).state (next_number l.number) f) n goes in
        let at = was left.0 left.1 in
        (left.0, at.0, at.1, left.1, (or_parts (gone_in v left.0) (names gone left.0) (sym (run_gone n left.0 low) ∙ left.2)).1);
  }

  pub committing_makes : (vals : ℕ → ℕ → Values)
      → ((p : Promise) → Suits p (x ∷ []) (book_with v book_number g) → Stages x (book_with v book_number g) v (run_after v (changed x (book_with v book_number g)).state (next_number l.number) f) p vals l.added b c)
      → Makes (x ∷ []) (book_with v book_number g) v (run_after v (changed x (book_with v book_number g)).state (next_number l.number) f) vals vals b c
  committing_makes vals stages =
      commit_makes x (book_with v book_number g) v (run_after v (changed x (book_with v book_number g)).state (next_number l.number) f) vals l on gone b c commits stages
