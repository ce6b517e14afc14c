-- The pool of contents none of whose gates is open: nothing is pending, and it is by the contents as they are.
use Rattle.std.proofs.Common.{◌≡◌, ℕ, ◌||◌, not, Bool, true, false, if◌then◌else◌, List, [], Option, Some, None, option_map, refl, sym, ap, ap₂, subst, ◌∙◌, eq-eqb}
use Rattle.std.specs.Option.{option_and_then}
use Rattle.std.specs.List.{list_all}
use Rattle.std.proofs.lemmas.Bool.{both_ways}
use Rattle.std.proofs.lemmas.Option.{none-some}
use Rattle.rack.specs.Seen.{Image}
use Rattle.pool_state.specs.declared.contents.State.{State}
use Rattle.array_image.specs.Record.{Gate, GateAt, decisive, gate_in, gates_in, is_open_if_of, pending_at}
use Rattle.array_image.specs.States.{current_places}
use Rattle.array_core.proofs.Stripped.{some_same}
use Rattle.log_laws.specs.View.{names}
use Rattle.commit_log.proofs.Deciding.{all_at, gate_at}
use Rattle.commit_log.proofs.Replayable.{pending_named}
use Rattle.raid_laws.proofs.Added.{names_current}
use Rattle.pool_image.specs.Disks.{Disks, identities_of, newest, seat_of}
use Rattle.pool_image.specs.Drives.{Found, found, found_by}
use Rattle.pool_image.specs.Replay.{Standing, standing, standing_by, written}
use Rattle.pool_image.proofs.Rested.{none_pending, stood_by, written_none}
use Rattle.pool_model.specs.Absent.{AreClosed}

-- all gates of the pending number are open
all_open : (ps : List ℕ) (c : Image) (a : GateAt) → pending_at ps c ≡ Some a → list_all (is_open_if_of a.gate.number) (gates_in ps c) ≡ true
unfolding pending_at
all_open ps c a is = of (decisive ps c) is
  where
    test : GateAt → Bool
    test x = list_all (is_open_if_of x.gate.number) (gates_in ps c)

    of_test : (x : GateAt) (b : Bool) → test x ≡ b → (if b then Some x else None) ≡ Some a → test a ≡ true
    of_test x true all at = subst (λ (z : GateAt). test z ≡ true) (some_same x a at) all
    of_test x false all at = absurd (none-some a at)

    of : (o : Option GateAt) → option_and_then (λ x. if test x then Some x else None) o ≡ Some a → test a ≡ true
    of None at = absurd (none-some a at)
    of (Some x) at = of_test x (test x) refl at

-- where no gate is open nothing is pending
pub closed_none : (ps : List ℕ) (c : Image) → ((p : ℕ) (g : Gate) → names ps p ≡ true → gate_in c p ≡ Some g → g.is_open ≡ false) → pending_at ps c ≡ None
closed_none ps c closed = of (pending_at ps c) refl
  where
    of : (o : Option GateAt) → pending_at ps c ≡ o → o ≡ None
    of None is = refl
    of (Some a) is =
        let named = pending_named ps c a is in
        let test : is_open_if_of a.gate.number (gate_at c a.place) ≡ true = all_at (is_open_if_of a.gate.number) (gate_at c) ps a.place (all_open ps c a is) named.0 in
        let shut : is_open_if_of a.gate.number (gate_at c a.place) ≡ false =
        ap (λ (o : Option Gate). is_open_if_of a.gate.number (option_map (λ g. record { place = a.place; gate = g }) o)) named.1
        ∙ ap₂ (λ x y. not x || y) (eq-eqb a.gate.number a.gate.number refl) (closed a.place a.gate named.0 named.1) in
        absurd (both_ways (is_open_if_of a.gate.number (gate_at c a.place)) shut test)

-- the pool of contents in which nothing is pending, by its state
abbrev pub pool_at : Disks → Image → State → Found
pool_at disks c s = record {
  disks = disks;
  before = standing_by disks c s;
  contents = c;
  identities = identities_of disks c;
  state = s;
  seats = seat_of s disks (identities_of disks c);
}

abbrev by_state : Disks → Standing → Image → State → Found
by_state disks before c s =
    record { disks = disks; before = before; contents = c; identities = identities_of disks c; state = s; seats = seat_of s disks (identities_of disks c) }

pub found_at : (disks : Disks) (c : Image) (s : State) → newest disks (identities_of disks c) ≡ Some s
    → pending_at (current_places s) (standing_by disks c s).logs ≡ None → found disks c ≡ Some (pool_at disks c s)
unfolding found standing
found_at disks c s newest_is none =
    let stood = standing_by disks c s in
    ap (λ o. option_and_then (λ before. found_by disks before (written disks before c)) (option_map (standing_by disks c) o)) newest_is
    ∙ ap (found_by disks stood) (written_none disks stood c (none_pending (current_places s) stood.logs none))
    ∙ ap (option_map (by_state disks stood c)) newest_is

-- contents without an open gate are of that form
pub record IsAt (disks : Disks) (c : Image) (f : Found) : Type 0 where
  pub state : State
  pub newest_is : newest disks (identities_of disks c) ≡ Some state
  pub is : f ≡ pool_at disks c state

pub closed_at : (disks : Disks) (c : Image) (f : Found) → found disks c ≡ Some f → AreClosed f → IsAt disks c f
unfolding found
closed_at disks c f is closed = of (standing disks c) refl is
  where
    by : (before : Standing) (e : Image) (o : Option State) → newest disks (identities_of disks e) ≡ o → option_map (by_state disks before e) o ≡ Some f
        → (z : State) × (newest disks (identities_of disks e) ≡ Some z) × (f ≡ by_state disks before e z)
    by before e None newest_is at = absurd (none-some f at)
    by before e (Some z) newest_is at = (z, newest_is, sym (some_same (by_state disks before e z) f at))

    none : (before : Standing) → f.before ≡ before → pending_at (current_places before.state) before.logs ≡ None
    none before same =
        subst (λ (z : Standing). pending_at (current_places z.state) z.logs ≡ None) same
        (closed_none (current_places f.before.state) f.before.logs (λ p g among. closed p g (sym (names_current f.before.state p) ∙ among)))

    of : (o : Option Standing) → standing disks c ≡ o → option_and_then (λ before. found_by disks before (written disks before c)) o ≡ Some f → IsAt disks c f
    of None stands at = absurd (none-some f at)
    of (Some before) stands at =
        let stood = stood_by disks c before stands in
        let first = by before (written disks before c) (newest disks (identities_of disks (written disks before c))) refl at in
        let idle : before.targets ≡ [] =
        ap (λ (z : Standing). z.targets) stood.2
        ∙ none_pending (current_places stood.0) (standing_by disks c stood.0).logs (none (standing_by disks c stood.0) (ap (λ (z : Found). z.before) first.2 ∙ stood.2)) in
        let same = written_none disks before c idle in
        let now = by before c (newest disks (identities_of disks c)) refl (sym (ap (found_by disks before) same) ∙ at) in
        let state : now.0 ≡ stood.0 = some_same now.0 stood.0 (sym now.1 ∙ stood.1) in
        record {
          state = stood.0;
          newest_is = stood.1;
          is = now.2 ∙ ap (by_state disks before c) state ∙ ap (λ (z : Standing). by_state disks z c stood.0) stood.2;
        }
