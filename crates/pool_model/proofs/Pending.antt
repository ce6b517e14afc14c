-- What is pending at a stop inside a call may be replayed by an opening, wherever that is stopped.
use Rattle.std.proofs.Common.{◌≡◌, ℕ, suc, ◌+◌, ◌<◌, true, Option, Some, sym, ap, ◌∙◌, inl, inr, add-one, arith}
use Rattle.std.specs.Option.{option_map_or}
use Rattle.std.proofs.lemmas.Bool.{cases_Bool}
use Rattle.std.proofs.lemmas.Option.{none-some}
use Rattle.rack.specs.Seen.{Image}
use Rattle.slice_rack.specs.Slices.{Slices, sectors_of}
use Rattle.gpt_table.specs.declared.Table.{Table}
use Rattle.pool_state.specs.declared.contents.Copied.{Copied}
use Rattle.pool_state.specs.declared.contents.State.{State}
use Rattle.array_image.specs.Places.{data_sector, member_slice}
use Rattle.array_image.specs.States.{is_current}
use Rattle.array_core.proofs.Stripped.{some_same}
use Rattle.log_laws.specs.Kept.{IsNoLater}
use Rattle.pool_image.specs.Drives.{Found}
use Rattle.pool_image.specs.Meaning.{is_member}
use Rattle.pool_image.specs.Replay.{Extent, extent_by, standing_by}
use Rattle.pool_image.proofs.Truths.{extent_found}
use Rattle.pool_rest.specs.Moments.{TakesLowerIn}
use Rattle.pool_rest.proofs.Extents.{extents_apart}
use Rattle.pool_model.specs.Pools.{extent_in}
use Rattle.pool_model.specs.Stopped.{LieApart, SaysStopped, StandFor, StoodInLog}
use Rattle.pool_model.proofs.Extents.{lies_now, member_same}
use Rattle.pool_model.proofs.Inside.{now, says_pool, table_same}
use Rattle.pool_model.proofs.Layers.{IsLaid, laid}
use Rattle.pool_model.proofs.Seats.{nowhere}
use Rattle.pool_model.proofs.Stopped.{ids, later_base, on_place}

module _ (f : Found) (t : Slices) (base s : State) (i : Image) (stop : SaysStopped f t base s i) (st : StandFor f t s i) where
  -- the pool that the contents have
  abbrev g : Found
  g = now f t base s i stop st

  record IsSeated (p d : ℕ) : Type 0 where
    current : is_current s p ≡ true
    seat : f.seats p ≡ Some d

  -- a place that has a disk by it is current
  seat_now : (p d : ℕ) → g.seats p ≡ Some d → IsSeated p d
  seat_now p d seat = elim (cases_Bool (is_current s p)) [
    | inl now ↦ record { current = now; seat = sym ((says_pool f t base s i stop st).seats p now) ∙ seat }
    | inr past ↦ absurd (none-some d (sym (nowhere s f.disks g.identities p past) ∙ seat))
  ]

  latest_now : (p d : ℕ) (other : Copied) → g.seats p ≡ Some d → (ids f t base s i stop d).copied ≡ Some other → IsNoLater st.stood other
  latest_now p d other seat here = st.latest d other (stop.is.seated p d (seat_now p d seat).seat).low here

  -- ---- what stands

  -- A drive has the state that stands and a log slice, and none has a later state.
  pub stood_in_log : StoodInLog g
  stood_in_log = record {
    stood = record {
      place = st.leader.place;
      disk = st.leader.disk;
      own = st.leader.own;
      seat = (says_pool f t base s i stop st).seats st.leader.place st.leader.current ∙ st.leader.seat;
      copy = st.leader.copy;
      latest = latest_now;
    };
    room = st.leader.room;
  }

  -- Drives that are taken in have gates of lower numbers.
  pub lower_now : TakesLowerIn f.disks i
  lower_now = st.lower

  -- ---- where it lands

  -- The slices by the drives' tables share no sector.
  pub apart_now : LieApart g
  apart_now m n p d a b low made seat none member one two =
      let at = seat_now p d seat in
      let was = stop.after.current p at.current in
      let less : n < f.state.made = (let same = (later_base f t base s i stop).same.made in omega (arith, made, same)) in
      let small : n < 16 = (let most = stop.is.made.1 in omega (arith, less, most)) in
      let of : is_member f n p ≡ true = sym (member_same f t s g.contents (standing_by f.disks i st.stood) (says_pool f t base s i stop st) n less p) ∙ member in
      let lies = stop.slices.members n p d less was at.seat of in
      let truth = stop.is.truths n less in
      let lie : IsLaid f n truth.0 = laid f n truth.0 small truth.1 in
      let size : sectors_of t (member_slice p n) ≡ data_sector + truth.0.size =
      ap (λ (o : Option Extent). option_map_or (λ x. x.sectors) o 0) (sym lies ∙ extent_found f n lie.first truth.0 lie.begins lie.is) in
      let here : extent_in t (member_slice p n) ≡ b =
      some_same (extent_in t (member_slice p n)) b (sym lies ∙ sym (lies_now f t s g.contents (standing_by f.disks i st.stood) (says_pool f t base s i stop st) n less) ∙ two) in
      let own : extent_by (f.disks.sectors d) (ids f t base s i stop d).table (suc n) ≡ Some b =
      ap (extent_by (f.disks.sectors d) (ids f t base s i stop d).table) (sym (add-one n))
      ∙ stop.tables p d at.current (on_place f t base s i stop p d at.seat was) n small (omega (arith, size)) ∙ ap Some here in
      let other : extent_by (f.disks.sectors d) (ids f t base s i stop d).table (suc m) ≡ Some a =
      ap (λ (o : Option Table). extent_by (f.disks.sectors d) o (suc m)) (sym (table_same f t base s i stop st d)) ∙ one in
      extents_apart (f.disks.sectors d) (ids f t base s i stop d).table m n a b low other own
