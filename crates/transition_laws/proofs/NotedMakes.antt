-- Places that went in some array are noted in all: no change of the book is made.
use Rattle.array_image.specs.Arrays.{Shape}
use Rattle.transition_laws.proofs.ArraysFor.{array_for, losing_for, covers_for, IsLaid, laid_of, members_for, single_lowered}
use Rattle.std.proofs.Common.{◌≡◌, ℕ, ◌<◌, ◌≤◌, true, ◌&&◌, List, sym, ap, subst, ◌∙◌, arith, []}
use Rattle.std.proofs.lemmas.Bool.{both_ways}
use Rattle.rack.specs.Values.{Values}
use Rattle.rack.specs.Seen.{RackView}
use Rattle.rack.specs.Joins.{leaves_same, stays_same}
use Rattle.md_super.specs.declared.superblock.Super.{Super}
use Rattle.pool_state.specs.declared.contents.State.{State}
use Rattle.array_image.specs.Held.{IsSynced}
use Rattle.array_image.specs.Left.{NothingPending, IsInside}
use Rattle.array_image.specs.States.{is_current}
use Rattle.log_laws.specs.View.{names}
use Rattle.log_laws.proofs.KeptAfter.{kept_more}
use Rattle.array_model.specs.Says.{IsEarlier}
use Rattle.array_model.specs.View.{present, shape_of, View}
use Rattle.array_model.proofs.Losses.{IsLosing}
use Rattle.array_model.proofs.Noting.{holds_lost}
use Rattle.raid_laws.specs.Moves.{IsSet}
use Rattle.raid_laws.specs.Raid.{gone_in, IsWritten, Raid}
use Rattle.raid_laws.proofs.Noted.{gone_from, IsNoting, losing_spent, noted_before, noted_more, noted_went, with_arrays}
use Rattle.raid_laws.proofs.Over.{someone_left}
use Rattle.raid_laws.proofs.Seated.{gone_fewer, gone_losing, or_last}
use Rattle.transition_laws.specs.Holds.{has_sector, HoldsBook, IsPromised, Promise, spent_at, Stands, StandsArray, view_for}
use Rattle.transition_laws.specs.Makes.{Makes}
use Rattle.transition_laws.proofs.MoreArrays.{GoesOn, over_before}
use Rattle.transition_laws.proofs.Shown.{spent_other}
use Rattle.transition_laws.proofs.Standing.{holds_of}

module _ (lost : List ℕ) (d v : Raid) (f : ℕ → View) (x : RackView) (set : IsSet v x) (noting : IsNoting lost v f) (same : v.state ≡ d.state)
    (vals : ℕ → ℕ → Values) where
  has_gone_one : (n : ℕ) → n < v.state.made → names (f n).went noting.one ≡ true
  has_gone_one n low = noted_went lost v f noting n noting.one low noting.few ∙ or_last (names (v.arrays n).went noting.one) (names lost noting.one) noting.named

  losing : (n : ℕ) → n < v.state.made → IsLosing (v.arrays n) (f n) (names lost)
  losing n low =
      subst (λ (u : View). IsLosing (v.arrays n) u (names lost)) (sym (noting.arrays n low))
      (gone_losing (v.arrays n) lost (set.arrays n low).is_array
      (λ none.
      absurd (both_ways (names (f n).went noting.one) (ap (λ (u : View). names u.went noting.one) (noting.arrays n low) ∙ ap (λ ps. names ps noting.one) none) (has_gone_one n low))))

  goes_on : GoesOn v (with_arrays v f)
  goes_on = record {
    left = noted_before lost v f noting;
    number = omega arith;
    epoch = omega arith;
    made = omega arith;
    events = λ n low. subst (λ (u : View). (v.arrays n).truth.events ≤ u.truth.events) (sym (noting.arrays n low)) (omega arith);
    seats = λ n low. subst (λ (u : View). present u.seats ≤ present (v.arrays n).seats) (sym (noting.arrays n low)) (gone_fewer (v.arrays n) lost (set.arrays n low).is_array);
  }

  sectors : (n : ℕ) → n < v.state.made → (y : ℕ) → has_sector (f n) y ≡ has_sector (v.arrays n) y
  sectors n low y = ap (λ (u : View). has_sector u y) (noting.arrays n low)

  young : (n : ℕ) → n < v.state.made → (f n).young ≡ (v.arrays n).young
  young n low = ap (λ (u : View). u.young) (noting.arrays n low)

  low_here : (n : ℕ) → n < d.state.made → n < v.state.made
  low_here n low = subst (λ (s : State). n < s.made) (sym same) low

  module _ (p : Promise) (promised : IsPromised p (with_arrays v f)) where
    back : IsPromised p v
    back = record {
      is_one = promised.is_one;
      goes = λ n live low. over_before v (with_arrays v f) goes_on n low (promised.goes n live low);
      covers = λ n live low y alive.
          losing_spent (v.arrays n) (f n) (names lost) (set.arrays n low).is_array (losing n low) y
          (promised.covers n live low y (ap (λ (u : View). spent_at p n u y) (noting.arrays n low) ∙ alive));
    }

    module _ (stands : Stands d v p vals x) where
      array : (n : ℕ) → p.live n ≡ true → n < d.state.made → StandsArray (d.arrays n) (f n) n (vals n) p x
      array n live below =
          let low = low_here n below in
          let at = stands.arrays n live below in
          let is = losing n low in
          let was = holds_of d v p vals x stands n live below in
          let alike : (y : ℕ) → has_sector (f n) y ≡ has_sector (d.arrays n) y = λ y. sectors n low y ∙ at.sectors y in
          let own : (y : ℕ) → spent_at p n (f n) y ≡ spent_at p n (d.arrays n) y = λ y. spent_other p n (f n) (d.arrays n) alike y in
          let number : (f n).number ≡ n = is.number ∙ at.number in
          let after =
          holds_lost (view_for p (v.arrays n)) (view_for p (f n)) (names lost) x (array_for p (v.arrays n) (set.arrays n low).is_array)
          (losing_for p (v.arrays n) (f n) (names lost) is (young n low)) d.state (shape_of (d.arrays n)) (vals n) (spent_at p n (d.arrays n))
          (covers_for p n (f n) (spent_at p n (d.arrays n)) (subst IsLaid (sym is.truth) (laid_of (v.arrays n) (set.arrays n low).is_array)) (λ y alive. own y ∙ alive)
          (λ y alive. promised.covers n live low y (own y ∙ alive)))
          was in
          record {
            number = number;
            book_number = at.book_number;
            few = at.few;
            written = subst IsWritten (sym (noting.arrays n low)) at.written;
            members = members_for d.state (shape_of (d.arrays n)) p (f n) n (vals n) (spent_at p n (d.arrays n)) x number after;
            single = λ is_young.
                subst (λ (sh : Shape). IsSynced sh n x.held) (sym is.shape)
                (single_lowered (names lost) (shape_of (v.arrays n)) n x.held (at.single (ap (λ y. p.growing && y) (sym (young n low)) ∙ is_young)));
            closed = λ none. subst (λ k. NothingPending k x) number (after.closed none);
            truth = subst (IsEarlier (d.arrays n).truth) (sym is.truth) at.truth;
            mark = λ marked. at.mark (is.marked marked);
            roles = ap (λ (t : Super). t.roles.items) is.truth ∙ at.roles;
            disks = ap (λ (t : Super). t.raid_disks) is.truth ∙ at.disks;
            sectors = alike;
          }

      after : Stands d (with_arrays v f) p vals x
      after = record {
        few = stands.few;
        one = stands.one;
        log = kept_more d.state v.number (gone_in v) (gone_in (with_arrays v f)) x (noted_more lost v f noting) stands.log;
        someone =
            let left = someone_left (with_arrays v f) p.one (promised.goes p.one promised.is_one (low_here p.one stands.one)) in
            (left.0, subst (λ (s : State). is_current s left.0 ≡ true) same left.1, left.2);
        copies = stands.copies;
        since = stands.since;
        same = same;
        images = stands.images;
        arrays = array;
        alike = λ marked n live below.
            absurd (both_ways (gone_in (with_arrays v f) noting.one) (marked noting.one noting.current)
            (gone_from (with_arrays v f) noting.one n noting.few (low_here n below) (has_gone_one n (low_here n below))));
        slices = stands.slices;
      }

  pub noted_makes : Makes [] d v (with_arrays v f) vals vals x x
  noted_makes = record {
    due = tt;
    stays = stays_same x set.fit;
    back = λ p suits promised. back p promised;
    grows = λ n y u may. may;
    stops = λ p suits promised stands traced. leaves_same x (λ c. IsInside x.sectors c → HoldsBook d p vals x.sectors c);
    after = λ p suits promised stands. after p promised stands;
  }
