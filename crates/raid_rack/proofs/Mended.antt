-- The code that marks losses, step by step.
use Rattle.std.proofs.Common.{◌≡◌, ◌⊎◌, ℕ, zero, suc, ◌+◌, ◌<◌, ◌≤◌, Bool, true, false, ◌==◌, ◌&&◌, ◌||◌, not, List, [], ◌∷◌, length, get_or, slice_get, Some, None, option_map, unwrap_or, refl, sym, ap, subst, ◌∙◌, inl, inr, eq-eqb, arith}
use Rattle.std.proofs.lemmas.Bool.{cases_Bool, cases_lt, both_ways, and_parts, and_from}
use Rattle.std.proofs.lemmas.Option.{slice_get-get_or, slice_get_past}
use Rattle.std.specs.List.{list_any}
use Rattle.std.specs.Option.{option_map_or}
use Rattle.std.proofs.lemmas.List.{length-append}
use Rattle.arrayvec.specs.ArrayVec.{ArrayVec, with_items}
use Rattle.arrayvec.proofs.ArrayVecLemmas.{items-with_items}
use Rattle.rack.specs.Seen.{RackView}
use Rattle.rack.specs.Targets.{Target}
use Rattle.pool_state.specs.Valid.{is_valid}
use Rattle.pool_state.specs.declared.contents.State.{State}
use Rattle.array_image.specs.Places.{log_slice, log_sectors}
use Rattle.array_image.specs.States.{is_current, current_places}
use Rattle.log_laws.specs.View.{LogView, names, next_number}
use Rattle.log_laws.specs.Commits.{CommitCall}
use Rattle.array_model.specs.View.{View, sectors_of, has_gone}
use Rattle.array_core.specs.Seats.{gone as without}
use Rattle.raid_rack.specs.declared.arrays.Arrays.{Arrays}
use Rattle.raid_laws.specs.Raid.{Raid, gone_in, is_left}
use Rattle.raid_laws.specs.Missing.{marked, raised as raised_epoch}
use Rattle.raid_laws.specs.Losses.{newly_gone, AreCopiesOn, AddsCopies}
use Rattle.raid_laws.specs.Moves.{IsSet, AreMarked, ChangesNoData, RaisesBy}
use Rattle.raid_laws.specs.Settling.{SettlesTo, HasStaged, IsMarking, state_after}
use Rattle.raid_rack.specs.RaidRack.{IsRunning, EndsTurn, raid_by, no_array}
use Rattle.raid_laws.proofs.Missing.{current_marked}
use Rattle.raid_laws.proofs.Added.{names_current}
use Rattle.raid_laws.proofs.Moving.{moves_then}
use Rattle.raid_rack.proofs.Raises.{raised_up}
use Rattle.raid_laws.proofs.Noted.{IsNoting, with_arrays, moves_noted, noted_went, current_few, gone_some}
use Rattle.raid_laws.proofs.Seated.{names_joined}
use Rattle.raid_laws.proofs.Committed.{IsCommit, raid_after, valid_marked}
use Rattle.raid_laws.specs.Agreeing.{MakesAgree}
use Rattle.raid_laws.proofs.Agreeing.{agree_then}
use Rattle.raid_laws.proofs.Over.{someone_left}
use Rattle.raid_laws.proofs.Turns.{agrees_commit, moves_commit, commit_progress}
use Rattle.raid_rack.proofs.Turned.{newly_named, newly_other, moves_emptied}
use Rattle.raid_laws.specs.Truths.{MakesTruths}
use Rattle.array_core.specs.Superblocks.{left_offset}
use Rattle.rack.specs.Values.{Values}
use Rattle.transition_laws.specs.Losses.{IsRunOf, MakesLosses, SettlesBook}
use Rattle.transition_laws.specs.Makes.{Makes}
use Rattle.transition_laws.proofs.LossesMade.{commit_losses, early_losses, empty_losses, settles_behind}
use Rattle.transition_laws.proofs.NotedMakes.{noted_makes}
use Rattle.transition_laws.proofs.RunsOf.{run_loses}
use Rattle.raid_rack.proofs.Truths.{early_truths, makes_after, makes_commit, makes_nobody}
use Rattle.raid_laws.specs.Unlost.{KeepsUnlost}
use Rattle.raid_laws.proofs.Unlost.{unlost_commit, unlost_marked, unlost_reads}

-- ---- lists of which each element is changed

each_length : {X : Type 0} (g : X → X) (xs ys : List X) → ((n : ℕ) → slice_get ys n ≡ option_map g (slice_get xs n)) → length ys ≡ length xs
each_length g [] [] same = refl
each_length g [] (y ∷ ys) same = absurd (let bad : Some y ≡ None = same 0 in cc)
each_length g (x ∷ xs) [] same = absurd (let bad : None ≡ Some (g x) = same 0 in cc)
each_length g (x ∷ xs) (y ∷ ys) same = ap suc (each_length g xs ys (λ n. same (suc n)))

pub each_items : (all : ArrayVec View) (before after : List View) (g : View → View) → before ≡ all.items
    → ((n : ℕ) → slice_get after n ≡ option_map g (slice_get before n))
    → ((n : ℕ) → slice_get (with_items all after).items n ≡ option_map g (slice_get all.items n)) × (length (with_items all after).items ≡ length all.items)
each_items all before after g same each =
    let count : length after ≡ length all.items = each_length g before after each ∙ ap length same in
    let items = items-with_items all after count in
    (λ n. ap (λ xs. slice_get xs n) items ∙ each n ∙ ap (λ xs. option_map g (slice_get xs n)) same, ap length items ∙ count)

pub each_get : (g : View → View) (xs ys : List View) (n : ℕ) → ((k : ℕ) → slice_get ys k ≡ option_map g (slice_get xs k)) → n < length xs
    → get_or ys n no_array ≡ g (get_or xs n no_array)
each_get g xs ys n each low =
    ap (λ o. unwrap_or o no_array)
    (sym (slice_get-get_or ys n no_array (let same = each_length g xs ys each in omega (arith, low, same))) ∙ each n ∙ ap (option_map g) (slice_get-get_or xs n no_array low))

pub get_past : (xs : List View) (n : ℕ) → length xs ≤ n → get_or xs n no_array ≡ no_array
get_past [] n past = refl
get_past (x ∷ xs) zero past = absurd (omega (arith, past))
get_past (x ∷ xs) (suc n) past = get_past xs n (omega (arith, past))

pub each_sectors : (g : View → View) (xs ys : List View) (n : ℕ) → ((u : View) → sectors_of (g u) ≡ sectors_of u)
    → ((k : ℕ) → slice_get ys k ≡ option_map g (slice_get xs k))
    → sectors_of (get_or ys n no_array) ≡ sectors_of (get_or xs n no_array)
each_sectors g xs ys n kept each =
    elim (cases_lt n (length xs)) [
      | inl low ↦ ap sectors_of (each_get g xs ys n each low) ∙ kept (get_or xs n no_array)
      | inr past ↦
          ap sectors_of (get_past ys n (let same = each_length g xs ys each in omega (arith, past, same)) ∙ sym (get_past xs n past))
    ]

-- ---- the places are noted

pub record IsTurn (a : Arrays) (lost : List ℕ) (x : RackView) : Type 0 where
  pub running : IsRunning a x
  pub lost_are : lost ≡ newly_gone a.state a.all.items
  pub some : 0 < length lost

pub first_named : (xs : List ℕ) → 0 < length xs → (p : ℕ) × (names xs p ≡ true)
first_named [] some = absurd (omega (arith, some))
first_named (p ∷ xs) some = (p, ap (λ b. b || list_any (λ q. q == p) xs) (eq-eqb p p refl))

-- what is known once they are
pub record HasNoted (a b : Arrays) (lost : List ℕ) (x : RackView) : Type 0 where
  pub moves : ChangesNoData (raid_by a) (raid_by b) x x
  pub running : IsRunning b x
  pub same : b.state ≡ a.state
  pub raises : RaisesBy 0 (raid_by a) (raid_by b)
  pub noted : (n p : ℕ) → n < a.state.made → names lost p ≡ true → has_gone ((raid_by b).arrays n) p ≡ true
  pub one : ℕ
  pub named : names lost one ≡ true
  pub unmarked : AreMarked (raid_by a) → ⊥
  pub makes : (d : Raid) (vals : ℕ → ℕ → Values) → a.state ≡ d.state → Makes [] d (raid_by a) (raid_by b) vals vals x x
  pub left : (n : ℕ) → n < a.state.made → left_offset ((raid_by b).arrays n) ≡ left_offset ((raid_by a).arrays n)

or_last : (b c : Bool) → c ≡ true → (b || c) ≡ true
or_last true c is = refl
or_last false c is = is

pub has_noted : (a : Arrays) (all : ArrayVec View) (log : LogView) (lost : List ℕ) (x : RackView) → IsTurn a lost x
    → ((n : ℕ) → slice_get all.items n ≡ option_map (without lost) (slice_get a.all.items n)) → length all.items ≡ length a.all.items
    → log.number ≡ a.log.number
    → HasNoted a (record a { all = all; log = log }) lost x
has_noted a all log lost x turn each count number =
    let f : ℕ → View = λ n. get_or all.items n no_array in
    let named : (p : ℕ) → names lost p ≡ (is_current a.state p && gone_in (raid_by a) p) =
    λ p. ap (λ ps. names ps p) turn.lost_are ∙ newly_named a p turn.running.count turn.running.set.few in
    let one = first_named lost turn.some in
    let had : (p : ℕ) → names lost p ≡ true → (is_current a.state p ≡ true) × (gone_in (raid_by a) p ≡ true) =
    λ p is. and_parts (is_current a.state p) (gone_in (raid_by a) p) (sym (named p) ∙ is) in
    let noting : IsNoting lost (raid_by a) f = record {
      arrays = λ n low. each_get (without lost) a.all.items all.items n each (let same = turn.running.count in omega (arith, low, same));
      one = one.0;
      named = one.1;
      current = (had one.0 one.1).0;
      few = current_few a.state one.0 turn.running.set.few (had one.0 one.1).0;
    } in
    let step = moves_noted lost (raid_by a) f x turn.running.set noting (λ p is. (had p is).1)
    (λ n. each_sectors (without lost) a.all.items all.items n (λ u. refl) each) in
    let number_back = sym number in
    let whole : with_arrays (raid_by a) f ≡ raid_by (record a { all = all; log = log }) =
    λ i. record { state = a.state; arrays = f; number = number_back i } in
    record {
      moves = subst (λ (w : Raid). ChangesNoData (raid_by a) w x x) whole step;
      running = record { count = count ∙ turn.running.count; set = subst (λ (w : Raid). IsSet w x) whole step.set };
      same = refl;
      raises = record {
        number = omega (arith, number);
        epoch = omega arith;
        events = λ n low. let e = ap (λ (u : View). u.truth.events) (noting.arrays n low) in omega (arith, e);
      };
      noted = λ n p low is.
          noted_went lost (raid_by a) f noting n p low (current_few a.state p turn.running.set.few (had p is).0)
          ∙ or_last (has_gone ((raid_by a).arrays n) p) (names lost p) is;
      one = one.0;
      named = one.1;
      unmarked = λ are. let at = had one.0 one.1 in both_ways (gone_in (raid_by a) one.0) (are one.0 at.0) at.1;
      makes = λ d vals same.
          subst (λ (w : Raid). Makes [] d (raid_by a) w vals vals x x) whole (noted_makes lost d (raid_by a) f x turn.running.set noting same vals);
      left = λ n low. ap left_offset (noting.arrays n low);
    }

-- the arrays are settled once they are noted
pub settles_noted : (a b c : Arrays) (lost : List ℕ) (x y : RackView) → HasNoted a b lost x → SettlesBook (raid_by b) (raid_by c) b.state.made x y → SettlesBook (raid_by a) (raid_by c) a.state.made x y
settles_noted a b c lost x y noted book =
    settles_behind (raid_by a) (raid_by b) (raid_by c) a.state.made x x y (sym noted.same) noted.makes noted.left
    (subst (λ k. SettlesBook (raid_by b) (raid_by c) k x y) (ap (λ (s : State). s.made) noted.same) book)

-- they are a run of each book that they were one of
pub settled_run : (d : Raid) (a b c : Arrays) (lost : List ℕ) (x y : RackView) → HasNoted a b lost x → SettlesTo (raid_by b) (raid_by c) x y b.state.made c.log.added
    → SettlesBook (raid_by b) (raid_by c) b.state.made x y → IsRunOf d (raid_by a) → IsRunOf d (raid_by c)
settled_run d a b c lost x y noted settles book run =
    run_loses d (raid_by b) (raid_by c) settles.same settles.moves.arrays book.left
    (run_loses d (raid_by a) (raid_by b) noted.same noted.moves.arrays noted.left run)

-- ---- what is to be committed

pub marking_of : (a b c : Arrays) (lost on : List ℕ) (l : LogView) (t : State) (x y : RackView) → HasNoted a b lost x
    → SettlesTo (raid_by b) (raid_by c) x y b.state.made c.log.added → IsRunning c y
    → newly_gone c.state c.all.items ≡ lost → t ≡ marked lost c.state → on ≡ current_places t
    → AddsCopies t on c.log.added l.added → l.number ≡ c.log.number
    → IsMarking (raid_by c) lost on l c.log.added y
marking_of a b c lost on l t x y noted settles running same t_is on_is copies number =
    record {
      set = running.set;
      staged = subst (λ k. HasStaged (raid_by c) k c.log.added) (sym (ap (λ (s : State). s.made) settles.same)) settles.staged;
      copies = subst (λ (s : State). AddsCopies s on c.log.added l.added) t_is copies;
      number = number;
      lost_is = lost_is;
      noted = was_noted;
      fresh = λ n gone low none.
          let q = noted.one in
          let both = and_parts (is_current c.state q) (gone_in (raid_by c) q) (sym (lost_is q) ∙ noted.named) in
          let u = (raid_by c).arrays n in
          absurd (both_ways (names (without gone u).went q) (ap (λ ps. names ps q) none)
          (names_joined u.went gone q (gone_some (raid_by c) q both.1).0 ∙ ap (λ (b : Bool). b || names gone q) (was_noted n q low noted.named)));
      on_is = on_is ∙ ap current_places t_is;
    }
  where
    lost_is : (p : ℕ) → names lost p ≡ (is_current c.state p && gone_in (raid_by c) p)
    lost_is p = ap (λ ps. names ps p) (sym same) ∙ newly_named c p running.count running.set.few

    was_noted : (n p : ℕ) → n < c.state.made → names lost p ≡ true → has_gone ((raid_by c).arrays n) p ≡ true
    was_noted n p low is =
        let made : n < b.state.made = subst (λ (s : State). n < s.made) settles.same low in
        settles.went n p made (noted.noted n p (subst (λ (s : State). n < s.made) noted.same made) is)

-- ---- what the code asks on the way

pub on_named : (t : State) (on : List ℕ) (j p : ℕ) → on ≡ current_places t → slice_get on j ≡ Some p → is_current t p ≡ true
on_named t on j p on_is at = sym (names_current t p) ∙ ap (λ ps. names ps p) (sym on_is) ∙ named on j at
  where
    named : (xs : List ℕ) (j : ℕ) → slice_get xs j ≡ Some p → names xs p ≡ true
    named [] j at = absurd (let bad : None ≡ Some p = at in cc)
    named (q ∷ xs) zero at = ap (λ b. b || names xs p) (eq-eqb q p (ap (λ o. unwrap_or o p) at))
    named (q ∷ xs) (suc j) at = or_last (q == p) (names xs p) (named xs j at)

pub on_few : (lost : List ℕ) (s t : State) (p : ℕ) → t ≡ marked lost s → length s.drives.items ≤ 16 → is_current t p ≡ true → (is_current s p ≡ true) × (p < 16)
on_few lost s t p t_is few current =
    let was = (and_parts (is_current s p) (not (names lost p)) (sym (current_marked lost s p) ∙ ap (λ (u : State). is_current u p) (sym t_is) ∙ current)).0 in
    (was, current_few s p few was)

-- ---- all of a turn

next_up : (n : ℕ) → next_number n ≤ n + 1
next_up n = raised_up n

epoch_up : (n : ℕ) → raised_epoch n ≤ n + 1
epoch_up n = raised_up n

made_still : (a b : Arrays) {lost : List ℕ} {x : RackView} → HasNoted a b lost x → (n : ℕ) → n < a.state.made → n < b.state.made
made_still a b noted n low = subst (λ (s : State). n < s.made) (sym noted.same) low

pub ends_turn : (a b c : Arrays) (all : ArrayVec View) (log l : LogView) (t : State) (lost on gone : List ℕ) (x y z : RackView)
    → HasNoted a b lost x → SettlesTo (raid_by b) (raid_by c) x y b.state.made c.log.added → SettlesBook (raid_by b) (raid_by c) b.state.made x y → IsRunning c y
    → t ≡ marked lost c.state → IsMarking (raid_by c) lost on l c.log.added y → CommitCall l on gone y z
    → ((n : ℕ) → slice_get all.items n ≡ option_map (without gone) (slice_get c.all.items n)) → length all.items ≡ length c.all.items
    → log.number ≡ next_number l.number
    → EndsTurn a (record c { state = t; all = all; log = log }) x z
ends_turn a b c all log l t lost on gone x y z noted settles book running t_is marking call each count number =
    let f : ℕ → View = λ n. get_or all.items n no_array in
    let v = raid_by c in
    let commit : IsCommit v lost on gone l c.log.added f y z = record {
      marking = marking;
      call = call;
      fewer = λ p named. named;
      arrays = λ n low. each_get (without gone) c.all.items all.items n each (let same = running.count in omega (arith, low, same));
      sectors = λ n. each_sectors (without gone) c.all.items all.items n (λ u. refl) each;
    } in
    let settled : SettlesTo (raid_by b) v x y v.state.made c.log.added =
    subst (λ k. SettlesTo (raid_by b) v x y k c.log.added) (sym (ap (λ (s : State). s.made) settles.same)) settles in
    let back = sym t_is in
    let same_number = sym number in
    let whole : raid_after v lost (next_number l.number) f ≡ raid_by (record c { state = t; all = all; log = log }) =
    λ i. record { state = back i; arrays = f; number = same_number i } in
    let last = moves_commit (raid_by b) v lost on gone l c.log.added f x y z settled commit in
    let step = moves_then (raid_by a) (raid_by b) (raid_after v lost (next_number l.number) f) x x z noted.moves last in
    record {
      losses = λ d run.
          subst (λ (w : Raid). MakesLosses d (raid_by a) w x z) whole
          (commit_losses d (raid_by a) v lost on gone l c.log.added f x y z commit (settled_run d a b c lost x y noted settles book run) (settles_noted a b c lost x y noted book)
          (sym (settles.same ∙ noted.same)) noted.unmarked);
      supers = subst (λ (w : Raid). MakesAgree (raid_by a) w x z) whole
          (agree_then (raid_by a) (raid_by b) (raid_after v lost (next_number l.number) f) x x z noted.moves last
          (agrees_commit (raid_by b) v lost on gone l c.log.added f x y z settled commit));
      truths = λ are.
          subst (λ (w : Raid). MakesTruths (raid_by a) w x z) whole
          (makes_after (raid_by a) (raid_by b) (raid_after v lost (next_number l.number) f) x x z noted.running.set.lasting noted.moves
          (makes_after (raid_by b) v (raid_after v lost (next_number l.number) f) x y z noted.running.set.lasting settled.moves
          (makes_commit v lost on gone l c.log.added f y z commit)));
      unlost =
          subst (λ (w : Raid). KeepsUnlost a.state w.state x z) whole
          (unlost_commit a.state v lost on gone l c.log.added f noted.one x y z (settles.same ∙ noted.same) settles.reads commit noted.named);
      moves = subst (λ (w : Raid). ChangesNoData (raid_by a) w x z) whole step;
      progress =
          subst (λ (w : Raid). AreMarked w ⊎ ((p : ℕ) × (is_left (raid_by a) p ≡ true) × (is_left w p ≡ false))) whole
          (elim (commit_progress v lost on gone l c.log.added f y z commit noted.one noted.named) [
            | inl are ↦ inl are
            | inr some ↦ inr (some.0, noted.moves.left some.0 (settled.moves.left some.0 some.1), some.2)
          ]);
      raises =
          let next = next_up l.number in
          let was = marking.number in
          let stays = settles.number in
          let first = noted.raises in
          record {
            number = let one = first.number in omega (arith, one, stays, was, next, number);
            epoch =
                let up = epoch_up c.state.epoch in
                let is = ap (λ (s : State). s.epoch) t_is in
                let same = ap (λ (s : State). s.epoch) settles.same in
                let one = first.epoch in
                omega (arith, up, is, same, one);
            events = λ n low.
                let made = made_still a b noted n low in
                let e = ap (λ (u : View). u.truth.events) (commit.arrays n (subst (λ (s : State). n < s.made) (sym settles.same) made)) in
                let up = settles.raised n made in
                let one = first.events n low in
                omega (arith, e, up, one);
          };
      running = record {
        count = count ∙ running.count ∙ sym (ap (λ (s : State). s.made) t_is);
        set = subst (λ (w : Raid). IsSet w z) whole step.set;
      };
    }

-- nobody is left: the marks are in this run alone
pub ends_empty : (a b c : Arrays) (t : State) (lost on : List ℕ) (x y : RackView)
    → HasNoted a b lost x → SettlesTo (raid_by b) (raid_by c) x y b.state.made c.log.added → SettlesBook (raid_by b) (raid_by c) b.state.made x y → IsRunning c y
    → newly_gone c.state c.all.items ≡ lost → t ≡ marked lost c.state → on ≡ current_places t → length on ≡ 0
    → EndsTurn a (record c { state = t }) x y
ends_empty a b c t lost on x y noted settles book running same t_is on_is empty =
    let v = raid_by c in
    let none : on ≡ [] = nothing on empty in
    let nobody : (p : ℕ) → is_current (state_after v lost) p ≡ false =
    λ p. ap (λ (s : State). is_current s p) (sym t_is) ∙ sym (names_current t p) ∙ ap (λ ps. names ps p) (sym on_is ∙ none) in
    let lost_is : (p : ℕ) → names lost p ≡ (is_current c.state p && gone_in v p) =
    λ p. ap (λ ps. names ps p) (sym same) ∙ newly_named c p running.count running.set.few in
    let went : (n p : ℕ) → n < c.state.made → names lost p ≡ true → has_gone ((raid_by c).arrays n) p ≡ true =
    λ n p low is.
    let made : n < b.state.made = subst (λ (s : State). n < s.made) settles.same low in
    settles.went n p made (noted.noted n p (subst (λ (s : State). n < s.made) noted.same made) is) in
    let step = moves_emptied v lost y running.set lost_is went nobody
    (λ n low. (settles.staged.each n (subst (λ (s : State). n < s.made) settles.same low)).unmarked) in
    let back = sym t_is in
    let whole : record v { state = state_after v lost } ≡ raid_by (record c { state = t }) =
    λ i. record { state = back i; arrays = v.arrays; number = v.number } in
    let joined = moves_then (raid_by a) v (record v { state = state_after v lost }) x y y (moves_then (raid_by a) (raid_by b) v x x y noted.moves settles.moves) step in
    let over : (p : ℕ) → is_current t p ≡ true → ⊥ = λ p current.
    both_ways (is_current t p) (sym (names_current t p) ∙ ap (λ ps. names ps p) (sym on_is ∙ none)) current in
    record {
      losses = λ d run.
          subst (λ (w : Raid). MakesLosses d (raid_by a) w x y) whole
          (empty_losses d (raid_by a) v lost x y running.set (settled_run d a b c lost x y noted settles book run) (settles_noted a b c lost x y noted book)
          (sym (settles.same ∙ noted.same)) lost_is went nobody noted.unmarked);
      supers = λ unfaulted n vals spent low made goes.
          let one = someone_left (raid_by (record c { state = t })) n goes in
          absurd (over one.0 one.1);
      truths = λ are.
          subst (λ (w : Raid). MakesTruths (raid_by a) w x y) whole
          (makes_nobody (raid_by a) (record v { state = state_after v lost }) x y joined.set joined.book.same.made nobody);
      unlost =
          let one = noted.one in
          subst (λ (s : State). KeepsUnlost s t x y) (settles.same ∙ noted.same)
          (unlost_marked c.state t lost one x y t_is (and_parts (is_current c.state one) (gone_in v one) (sym (lost_is one) ∙ noted.named)).0 noted.named
          (λ p unmarked live. settles.reads.keeps.held (log_slice p) 0 live));
      moves = subst (λ (w : Raid). ChangesNoData (raid_by a) w x y) whole joined;
      progress = inl (λ p current. absurd (over p current));
      raises =
          let stays = settles.number in
          let first = noted.raises in
          record {
            number = let one = first.number in omega (arith, one, stays);
            epoch =
                let up = epoch_up c.state.epoch in
                let is = ap (λ (s : State). s.epoch) t_is in
                let same = ap (λ (s : State). s.epoch) settles.same in
                let one = first.epoch in
                omega (arith, up, is, same, one);
            events = λ n low. let up = settles.raised n (made_still a b noted n low) in let one = first.events n low in omega (arith, up, one);
          };
      running = record { count = running.count ∙ sym (ap (λ (s : State). s.made) t_is); set = subst (λ (w : Raid). IsSet w y) whole joined.set };
    }
  where
    nothing : (xs : List ℕ) → length xs ≡ 0 → xs ≡ []
    nothing [] is = refl
    nothing (x ∷ xs) is = absurd (omega (arith, is))

-- somebody else went while the arrays were settled
pub ends_early : (a b c : Arrays) (lost : List ℕ) (x y : RackView) → IsTurn a lost x
    → HasNoted a b lost x → SettlesTo (raid_by b) (raid_by c) x y b.state.made c.log.added → SettlesBook (raid_by b) (raid_by c) b.state.made x y → IsRunning c y
    → (newly_gone c.state c.all.items ≡ lost → ⊥) → EndsTurn a c x y
ends_early a b c lost x y turn noted settles book running other =
    let joined = moves_then (raid_by a) (raid_by b) (raid_by c) x x y noted.moves settles.moves in
    let lost_one = newly_other a c (sym (settles.same ∙ noted.same)) turn.running.count running.count turn.running.set.few
    (λ p was current.
    elim (cases_Bool (gone_in (raid_by c) p)) [
      | inl is ↦ is
      | inr not_yet ↦
          let before = joined.left p (and_from (is_current c.state p) (not (gone_in (raid_by c) p)) current (ap not not_yet)) in
          absurd (both_ways true (sym (and_parts (is_current a.state p) (not (gone_in (raid_by a) p)) before).1 ∙ ap not was) refl)
    ])
    (λ same. other (same ∙ sym turn.lost_are)) in
    record {
      moves = joined;
      losses = λ d run.
          early_losses d (raid_by a) (raid_by c) a.state.made x y (settled_run d a b c lost x y noted settles book run) (sym (settles.same ∙ noted.same)) (settles_noted a b c lost x y noted book);
      progress = inr lost_one;
      supers = λ unfaulted. absurd (unfaulted lost_one.0 (joined.cause lost_one.0 lost_one.1 lost_one.2));
      truths = early_truths (raid_by a) (raid_by c) x y (settles.same ∙ noted.same) lost_one;
      unlost = unlost_reads a.state c.state x y (settles.same ∙ noted.same) settles.reads;
      raises =
          let stays = settles.number in
          let first = noted.raises in
          record {
            number = let one = first.number in omega (arith, one, stays);
            epoch = let same = ap (λ (s : State). s.epoch) settles.same in let one = first.epoch in omega (arith, same, one);
            events = λ n low. let up = settles.raised n (made_still a b noted n low) in let one = first.events n low in omega (arith, up, one);
          };
      running = running;
    }

-- a state that marks losses is valid on the places that are left
pub on_valid : (lost : List ℕ) (c : Arrays) (t : State) (on : List ℕ) (j p : ℕ) (y : RackView) → IsRunning c y → t ≡ marked lost c.state → on ≡ current_places t
    → slice_get on j ≡ Some p → (is_valid t p ≡ true) × (p < 16)
on_valid lost c t on j p y running t_is on_is at =
    let current = on_named t on j p on_is at in
    let was = on_few lost c.state t p t_is running.set.few current in
    (ap (λ (s : State). is_valid s p) t_is ∙ valid_marked lost c.state p (running.set.valid p (current_low c.state p was.0)), was.1)
  where
    current_low : (s : State) (q : ℕ) → is_current s q ≡ true → q < length s.drives.items
    current_low s q current =
        elim (cases_lt q (length s.drives.items)) [
          | inl below ↦ below
          | inr past ↦ absurd (both_ways (is_current s q) (ap (λ o. option_map_or (λ drive. not drive.missing) o false) (slice_get_past s.drives.items q past)) current)
        ]

-- their log slices are there
pub on_logs : (lost : List ℕ) (c : Arrays) (t : State) (p : ℕ) (y : RackView) → IsRunning c y → newly_gone c.state c.all.items ≡ lost → t ≡ marked lost c.state
    → is_current t p ≡ true → y.sectors (log_slice p) ≡ log_sectors
on_logs lost c t p y running same t_is current =
    let both = and_parts (is_current c.state p) (not (names lost p)) (sym (current_marked lost c.state p) ∙ ap (λ (u : State). is_current u p) (sym t_is) ∙ current) in
    running.set.logs p (and_from (is_current c.state p) (not (gone_in (raid_by c) p)) both.0
    (elim (cases_Bool (gone_in (raid_by c) p)) [
      | inl is ↦
          let named : names lost p ≡ true =
          ap (λ ps. names ps p) (sym same) ∙ newly_named c p running.count running.set.few
          ∙ and_from (is_current c.state p) (gone_in (raid_by c) p) both.0 is in
          absurd (both_ways (not (names lost p)) (ap not named) both.1)
      | inr none ↦ ap not none
    ]))

-- copies on some place are some
pub some_copies : (t : State) (on : List ℕ) (before added : List Target) → AddsCopies t on before added → (length on ≡ 0 → ⊥) → 0 < length added
some_copies t on before added copies some =
    let sum : length added ≡ length before + length copies.targets = ap length copies.appended ∙ length-append before copies.targets in
    let more = count on copies.targets copies.copies some in
    omega (arith, sum, more)
  where
    count : (ps : List ℕ) (xs : List Target) → AreCopiesOn t ps xs → (length ps ≡ 0 → ⊥) → 0 < length xs
    count [] xs are some = absurd (some refl)
    count (p ∷ ps) [] are some = absurd are
    count (p ∷ ps) (x ∷ xs) are some = omega arith

pub not_of_true : (b : Bool) → not b ≡ true → b ≡ false
not_of_true true is = absurd (both_ways false refl is)
not_of_true false is = refl

pub not_of_false : (b : Bool) → not b ≡ false → b ≡ true
not_of_false true is = refl
not_of_false false is = sym is
