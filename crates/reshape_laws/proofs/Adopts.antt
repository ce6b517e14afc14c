-- The array that the change of a step makes, and the states that its marks fit.
use Rattle.std.proofs.Common.{◌≡◌, ℕ, ◌+◌, ◌-◌, ◌≤◌, ◌<◌, ◌^◌, Bool, true, false, ◌==◌, ◌&&◌, if◌then◌else◌, None, refl, sym, ap, subst, ◌∙◌, eq-eqb, arith}
use Rattle.std.proofs.lemmas.Bool.{and_from}
use Rattle.md_super.specs.declared.superblock.Super.{Super}
use Rattle.pool_state.specs.declared.contents.State.{State}
use Rattle.array_image.specs.Supers.{is_reshaping}
use Rattle.array_model.specs.View.{View, IsArray, rows_of}
use Rattle.array_model.specs.Members.{IsSameButSeats}
use Rattle.array_model.specs.Stages.{IsStateOf}
use Rattle.array_core.specs.declared.Change.{Change}
use Rattle.array_core.specs.Model.{is_truth}
use Rattle.array_core.specs.Opening.{resync_by}
use Rattle.array_core.specs.Slots.{places_by}
use Rattle.array_core.specs.Superblocks.{adopted, adopted_resync, keeps_rows, raised}
use Rattle.array_core.proofs.Cleaning.{raised_more}
use Rattle.sync_laws.proofs.Adopted.{adopted_kept}
use Rattle.reshape_laws.specs.Ahead.{ahead_by, changed, finished, next_row, taken_over}
use Rattle.reshape_laws.proofs.Truths.{ahead_truth, finished_profile, parts_of, taken_profile, taken_truth}

-- a truth with the members and the rows of another one
pub record KeepsMembers (t u : Super) : Type 0 where
  pub places : places_by u ≡ places_by t
  pub roles : u.roles ≡ t.roles
  pub disks : u.raid_disks ≡ t.raid_disks
  pub offset : u.resync_offset ≡ t.resync_offset
  pub size : u.size ≡ t.size

-- the array of a change to it, once some places have gone
pub adopted_next : (v z : View) (u : Super) → IsArray z → IsSameButSeats v z → KeepsMembers v.truth u → adopted (record { truth = u; place = None; to = 0 }) z ≡ record z { truth = u }
adopted_next v z u z_array same keeps =
    let c : Change = record { truth = u; place = None; to = 0 } in
    let kept = adopted_kept c z z_array (keeps.places ∙ ap places_by (sym same.truth)) refl in
    let rows : keeps_rows z.truth u ≡ true =
    ap (λ (t : Super). keeps_rows t u) same.truth
    ∙ and_from (u.resync_offset == v.truth.resync_offset) (u.size == v.truth.size) (eq-eqb u.resync_offset v.truth.resync_offset keeps.offset) (eq-eqb u.size v.truth.size keeps.size) in
    let resync : adopted_resync z.young z.resync z.truth u ≡ z.resync = ap (λ (b : Bool). if b then z.resync else resync_by z.young u) rows in
    let mark : (z.marked && keeps_rows z.truth u) ≡ z.marked = ap (λ (b : Bool). z.marked && b) rows ∙ and_true z.marked in
    λ i. record z { truth = u; seats = kept.0 i; devices = kept.1 i; resync = resync i; marked = mark i }
  where
    and_true : (b : Bool) → (b && true) ≡ b
    and_true true = refl
    and_true false = refl

-- what is lost in it, and that nothing else is other
pub next_same : (v z w : View) (u : Super) → IsArray z → IsSameButSeats v z → KeepsMembers v.truth u → w ≡ adopted (record { truth = u; place = None; to = 0 }) z
    → IsSameButSeats (changed v u v.seats v.devices v.resync v.marked) w
next_same v z w u z_array same keeps is =
    subst (λ (x : View). IsSameButSeats (changed v u v.seats v.devices v.resync v.marked) x) (sym (is ∙ adopted_next v z u z_array same keeps))
    (record { number = same.number; truth = refl; devices = same.devices; resync = same.resync; young = same.young; marked = same.marked })

-- ---- the marks

pub ahead_state : (s : State) (v : View) (many : ℕ) → IsArray v → is_reshaping v.truth ≡ true → next_row v + many ≤ rows_of v → is_truth v.truth ≡ true
    → IsStateOf v s → v.truth.events < 2 ^ 63 - 1 → IsStateOf (ahead_by v many (raised v.truth.events)) s
ahead_state s v many is_array reshaping left truth state room =
    let raise = raised_more v.truth.events room in
    record {
      set = state.set;
      profile = state.profile;
      events = let more = raise.0 in omega (arith, more);
      events_end = raise.1;
      row = (parts_of (ahead_by v many (raised v.truth.events)).truth (ahead_truth v many (raised v.truth.events) is_array reshaping left truth)).1.0;
      roles = state.roles;
      marks = state.marks;
    }

pub taken_state : (s : State) (v : View) → IsArray v → is_reshaping v.truth ≡ false → is_truth v.truth ≡ true
    → IsStateOf v s → v.truth.events < 2 ^ 63 - 1 → IsStateOf (taken_over v (raised v.truth.events)) s
taken_state s v is_array still truth state room =
    let raise = raised_more v.truth.events room in
    record {
      set = state.set;
      profile = taken_profile v (raised v.truth.events) s.extent is_array state.profile;
      events = let more = raise.0 in omega (arith, more);
      events_end = raise.1;
      row = (parts_of (taken_over v (raised v.truth.events)).truth (taken_truth v (raised v.truth.events) is_array still truth)).1.0;
      roles = state.roles;
      marks = state.marks;
    }

pub finished_state : (s : State) (v : View) → IsStateOf v s → v.truth.events < 2 ^ 63 - 1 → IsStateOf (finished v (raised v.truth.events)) s
finished_state s v state room =
    let raise = raised_more v.truth.events room in
    record {
      set = state.set;
      profile = finished_profile v (raised v.truth.events) s.extent state.profile;
      events = let more = raise.0 in omega (arith, more);
      events_end = raise.1;
      row = refl;
      roles = state.roles;
      marks = state.marks;
    }
