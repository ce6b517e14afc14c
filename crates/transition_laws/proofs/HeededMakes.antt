-- Once whoever went is marked, nobody counts as gone: no change of the book is made.
use Rattle.array_image.specs.Held.{IsSynced}
use Rattle.std.proofs.Common.{◌≡◌, ℕ, ◌<◌, ◌≤◌, true, false, not, sym, ap, subst, ◌∙◌, arith, []}
use Rattle.std.proofs.lemmas.Bool.{and_from, and_parts}
use Rattle.rack.specs.Values.{Values}
use Rattle.rack.specs.Seen.{RackView}
use Rattle.rack.specs.Joins.{leaves_same, stays_same}
use Rattle.pool_state.specs.declared.contents.State.{State}
use Rattle.array_image.specs.Arrays.{Shape}
use Rattle.array_image.specs.Left.{IsInside}
use Rattle.array_image.specs.Places.{member_slice}
use Rattle.array_image.specs.States.{is_current}
use Rattle.array_model.specs.ArrayCalls.{IncludesSpent}
use Rattle.array_model.specs.View.{may_vary, present, shape_of, View}
use Rattle.array_core.specs.Seats.{heeded}
use Rattle.raid_laws.specs.Moves.{AreMarked}
use Rattle.raid_laws.specs.Raid.{gone_in, Raid}
use Rattle.raid_laws.proofs.Noted.{heeded_shape, idle_now, kept_marked, with_arrays}
use Rattle.raid_laws.proofs.Over.{someone_left}
use Rattle.transition_laws.specs.Holds.{HoldsBook, HoldsMembers, IsPromised, IsSameArrayAs, Promise, spent_at, Stands, StandsArray, rows_for}
use Rattle.transition_laws.specs.Makes.{Makes}
use Rattle.transition_laws.proofs.MoreArrays.{GoesOn, over_before}

covers_heeded : (p : Promise) (n : ℕ) (u : View) → IncludesSpent (heeded u) (spent_at p n (heeded u)) → IncludesSpent u (spent_at p n u)
unfolding shape_of
covers_heeded p n u covers = covers

module _ (d v : Raid) (f : ℕ → View) (x : RackView) (fit : x.fit) (arrays : (n : ℕ) → n < v.state.made → f n ≡ heeded (v.arrays n)) (marked : AreMarked v) (same : v.state ≡ d.state)
    (vals : ℕ → ℕ → Values) where
  goes_on : GoesOn v (with_arrays v f)
  goes_on = record {
    left = λ q is.
        let current = (and_parts (is_current v.state q) (not (gone_in (with_arrays v f) q)) is).0 in
        and_from (is_current v.state q) (not (gone_in v q)) current (ap not (marked q current));
    number = omega arith;
    epoch = omega arith;
    made = omega arith;
    events = λ n low. subst (λ (u : View). (v.arrays n).truth.events ≤ u.truth.events) (sym (arrays n low)) (omega arith);
    seats = λ n low. subst (λ (u : View). present u.seats ≤ present (v.arrays n).seats) (sym (arrays n low)) (omega arith);
  }

  low_here : (n : ℕ) → n < d.state.made → n < v.state.made
  low_here n low = subst (λ (s : State). n < s.made) (sym same) low

  left_by_book : (q : ℕ) → is_current d.state q ≡ true → gone_in v q ≡ false
  left_by_book q current = marked q (subst (λ (s : State). is_current s q ≡ true) (sym same) current)

  module _ (p : Promise) (promised : IsPromised p (with_arrays v f)) where
    back : IsPromised p v
    back = record {
      is_one = promised.is_one;
      goes = λ n live low. over_before v (with_arrays v f) goes_on n low (promised.goes n live low);
      covers = λ n live low. covers_heeded p n (v.arrays n) (subst (λ (u : View). IncludesSpent u (spent_at p n u)) (arrays n low) (promised.covers n live low));
    }

    module _ (stands : Stands d v p vals x) where
      array : (n : ℕ) → p.live n ≡ true → n < d.state.made → StandsArray (d.arrays n) (f n) n (vals n) p x
      array n live below =
          let at = stands.arrays n live below in
          subst (λ u. StandsArray (d.arrays n) u n (vals n) p x) (sym (arrays n (low_here n below)))
          (record {
            number = at.number;
            book_number = at.book_number;
            few = at.few;
            written = at.written;
            members = subst (λ (shape : Shape). HoldsMembers n (shape_of (d.arrays n)) shape (rows_for p (v.arrays n)) (may_vary (v.arrays n)) (vals n) (spent_at p n (d.arrays n)) x)
                (sym (heeded_shape (v.arrays n))) at.members;
            single = λ young. subst (λ (shape : Shape). IsSynced shape n x.held) (sym (heeded_shape (v.arrays n))) (at.single young);
            closed = λ none c picks place t. idle_now d.state v.number (gone_in v) x stands.log left_by_book c picks (member_slice place n) t;
            truth = at.truth;
            mark = at.mark;
            roles = at.roles;
            disks = at.disks;
            sectors = at.sectors;
          })

      after : Stands d (with_arrays v f) p vals x
      after = record {
        few = stands.few;
        one = stands.one;
        log = kept_marked d.state v.number (gone_in v) (gone_in (with_arrays v f)) x left_by_book stands.log;
        someone =
            let left = someone_left (with_arrays v f) p.one (promised.goes p.one promised.is_one (low_here p.one stands.one)) in
            (left.0, subst (λ (s : State). is_current s left.0 ≡ true) same left.1, left.2);
        copies = stands.copies;
        since = stands.since;
        same = same;
        images = stands.images;
        arrays = array;
        alike = λ now n live below.
            let one = stands.alike marked n live below in
            subst (λ u. IsSameArrayAs (d.arrays n) u) (sym (arrays n (low_here n below)))
            (record { shape = heeded_shape (v.arrays n) ∙ one.shape; frame = one.frame; resync = one.resync; young = one.young });
        slices = stands.slices;
      }

  pub heeded_makes : Makes [] d v (with_arrays v f) vals vals x x
  heeded_makes = record {
    due = tt;
    stays = stays_same x fit;
    back = λ p suits promised. back p promised;
    grows = λ n y u may. may;
    stops = λ p suits promised stands traced. leaves_same x (λ c. IsInside x.sectors c → HoldsBook d p vals x.sectors c);
    after = λ p suits promised stands. after p promised stands;
  }
