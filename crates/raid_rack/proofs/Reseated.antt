-- Slices of which those of one place alone differ, where the place isn't current and nobody went: arrays stand over them as they did.
use Rattle.std.proofs.Common.{◌≡◌, ◌≢◌, ℕ, ◌+◌, ◌<◌, Bool, true, false, List, length, slice_get, Some, unwrap_or, refl, sym, ap, subst, ◌∙◌, arith}
use Rattle.std.specs.Option.{option_map_or}
use Rattle.std.proofs.lemmas.Bool.{both_ways}
use Rattle.rack.specs.Values.{Values, Keeps, MayLeave}
use Rattle.rack.specs.Seen.{Image, RackView}
use Rattle.rack.specs.Joins.{keeps_same}
use Rattle.pool_state.specs.declared.contents.State.{State}
use Rattle.array_image.specs.Arrays.{Member, Shape, replayed}
use Rattle.array_image.specs.Held.{Among, IsSynced}
use Rattle.array_image.specs.Left.{IsLeft, Picks}
use Rattle.array_image.specs.Places.{data_sector, log_slice, member_slice, place_of}
use Rattle.array_image.specs.States.{is_current, state_in}
use Rattle.array_image.specs.Supers.{truth_in}
use Rattle.array_image.proofs.Frames.{state_same}
use Rattle.log_laws.specs.Kept.{LogInvariant}
use Rattle.log_laws.proofs.Kept.{kept_idle, kept_state}
use Rattle.array_image.proofs.Replays.{replayed_as_is}
use Rattle.array_model.specs.Says.{ArrayInvariant, ShapeInvariant, IsOpen}
use Rattle.array_model.specs.View.{View, may_vary, seat_reach, shape_of}
use Rattle.array_model.proofs.Firsts.{position_of}
use Rattle.array_model.proofs.Keeping.{KeepsData, even_kept, held_kept, logs_of, same_value, settled_kept}
use Rattle.array_model.proofs.Views.{shape_members}
use Rattle.raid_laws.specs.Vacated.{DiffersAt}
use Rattle.raid_laws.specs.Moves.{IsTrackedInCall, IsHeeded, IsSeated, IsSet}
use Rattle.raid_laws.specs.NewDrive.{no_state}
use Rattle.raid_laws.specs.Raid.{Raid, InvariantInCall, gone_in, is_left}
use Rattle.raid_laws.specs.Reach.{reach_same}
use Rattle.raid_laws.specs.Rows.{LeavesFrom, LeavesRows}
use Rattle.raid_laws.proofs.Own.{look_nothing}
use Rattle.raid_laws.proofs.ReseatedLogs.{as_is_now, live_now, logs_kept, picks_back, put_back, put_back_off, state_now}
use Rattle.raid_laws.proofs.SaysStill.{CountsOn, says_still, super_still, truth_still}
use Rattle.raid_rack.proofs.Seating.{current_seat}
use Rattle.raid_laws.proofs.Whole.{heeded_gone}
use Rattle.rack.specs.Targets.{Target, look}

-- a member that counts is on a current place
pub counts_current : (s : State) (n : ℕ) (v : View) (x : RackView) → IsSeated s n v x → CountsOn s (shape_of v)
counts_current s n v x seated m sector among counts =
    let at = position_of v v.truth.raid_disks m (subst (Among m) (shape_members v) among) in
    let k = at.0 in
    let reach : sector < option_map_or (seat_reach v.truth.size) (slice_get v.seats k) 0 = subst (λ (o : Member). sector < o.reach) at.2 counts in
    subst (λ (o : Member). is_current s o.place ≡ true) (sym at.2)
    (current_seat s n v x k seated at.1
    (λ missing. let none = ap (λ o. option_map_or (seat_reach v.truth.size) o 0) missing in omega (arith, none, reach)))

-- its mirror image: those of a member on a place that isn't current don't
module _ (place : ℕ) (x y : RackView) (differs : DiffersAt place x y) (s : State) (missing : is_current s place ≡ false) where
  off_place : (p : ℕ) → is_current s p ≡ true → p ≢ place
  off_place p current same = both_ways (is_current s p) (subst (λ q. is_current s q ≡ false) (sym same) missing) current

  member_off : (p n : ℕ) → n < 16 → is_current s p ≡ true → place_of (member_slice p n) ≢ place
  member_off p n few current same = off_place p current (omega (arith, same, few))

  -- the data of members that count is the same
  pub data_same : (n : ℕ) (shape : Shape) → n < 16 → CountsOn s shape → KeepsData shape n x.held y.held
  data_same n shape few counts m sector among reached =
      let d = member_slice m.place n in
      subst (λ h. Keeps (x.held d (data_sector + sector)) h) (sym (differs.held d (data_sector + sector) (member_off m.place n few (counts m sector among reached))))
      (keeps_same (x.held d (data_sector + sector)))

  open_same : (n : ℕ) (shape : Shape) → n < 16 → CountsOn s shape → IsOpen shape n x → IsOpen shape n y
  open_same n shape few counts is_open m sector among reached =
      differs.live (member_slice m.place n) (data_sector + sector) (member_off m.place n few (counts m sector among reached)) (is_open m sector among reached)

  module _ (number : ℕ) (gone : ℕ → Bool) (kept : LogInvariant s number gone x) (someone : (p : ℕ) × (is_current s p ≡ true) × (gone p ≡ false))
      (all : (p : ℕ) → is_current s p ≡ true → gone p ≡ false) (cleared : 0 < y.sectors (log_slice place) → (v : List ℕ) → MayLeave (y.held (log_slice place) 0) v → v ≡ no_state) where
    -- replaying changes nothing, neither before nor after
    as_was : (c : Image) (d t : ℕ) → Picks x c → replayed x.sectors c d t ≡ c d t
    as_was c d t picks =
        replayed_as_is x.sectors c d t (ap (λ (xs : List Target). look xs d t) (kept_idle s number gone x c kept (logs_of c picks) all) ∙ look_nothing d t)

    as_is : (c : Image) (d t : ℕ) → Picks y c → replayed y.sectors c d t ≡ c d t
    as_is c d t picks = as_is_now place x y differs s number gone kept missing someone all cleared c d t (logs_of c picks)

    -- what a stop leaves is what one left, but for the place
    left_same : (n : ℕ) → n < 16 → (r : Image) → IsLeft y r
        → (e : Image) × IsLeft x e × ((p t : ℕ) → is_current s p ≡ true → r (member_slice p n) t ≡ e (member_slice p n) t)
    left_same n few r left =
        let c = left.0 in
        let picks = picks_back place x y differs c left.1 in (
          replayed x.sectors (put_back place x c),
          (put_back place x c, picks, λ d t. refl),
          λ p t current.
              let d = member_slice p n in
              left.2 d t ∙ as_is c d t left.1 ∙ sym (put_back_off place x c d t (member_off p n few current)) ∙ sym (as_was (put_back place x c) d t picks),
        )

    shape_same : (n : ℕ) (shape : Shape) (resync : ℕ) (vary : Bool) (vals : ℕ → Values) (spent : ℕ → Bool) → n < 16 → CountsOn s shape
        → ShapeInvariant s n shape shape resync vary vals spent x → ShapeInvariant s n shape shape resync vary vals spent y
    shape_same n shape resync vary vals spent few counts holds =
        let alike = data_same n shape few counts in
        record {
          open_slices = open_same n shape few counts holds.open_slices;
          open_left = open_same n shape few counts holds.open_left;
          says = λ r left.
              let at = left_same n few r left in
              says_still s n r at.0 at.2 shape vals spent counts (holds.says at.0 at.1);
          still = λ c picks m sector among reached. as_is c (member_slice m.place n) (data_sector + sector) picks;
          within = λ z unspent u left. holds.within z unspent u (held_kept x.held y.held shape n z alike u left);
          current = λ z unspent. same_value x.held y.held shape n z alike ∙ holds.current z unspent;
          sized = λ m sector among reached. ap length (alike m sector among reached).current ∙ holds.sized m sector among reached;
          even = even_kept x.held y.held shape n resync alike holds.even;
          settled = λ steady. settled_kept x.held y.held shape n alike (holds.settled steady);
        }

    pub holds_same : (v : View) (vals : ℕ → Values) (spent : ℕ → Bool) → v.number < 16 → CountsOn s (shape_of v)
        → ArrayInvariant s (shape_of v) v vals spent x → ArrayInvariant s (shape_of v) v vals spent y
    holds_same v vals spent few counts holds = record {
      shape = shape_same v.number (shape_of v) v.resync (may_vary v) vals spent few counts holds.shape;
      mark = λ marked r left t is.
          let at = left_same v.number few r left in
          holds.mark marked at.0 at.1 t (sym (truth_still s v.number r at.0 at.2) ∙ is);
      alone = λ r left p current foreign.
          let at = left_same v.number few r left in
          super_still s v.number r at.0 at.2 p current ∙ holds.alone at.0 at.1 p current foreign;
      closed = λ none c picks p t. as_is_now place x y differs s number gone kept missing someone all cleared c (member_slice p v.number) t picks;
      truth = λ r left t is.
          let at = left_same v.number few r left in
          holds.truth at.0 at.1 t (sym (truth_still s v.number r at.0 at.2) ∙ is);
    }

    -- nor do they leave it more rows to resync
    pub rows_same : (n row : ℕ) → n < 16 → ((e : Image) → IsLeft x e → LeavesFrom row n e) → (r : Image) → IsLeft y r → LeavesFrom row n r
    rows_same n row few before r left q t state truth =
        let at = left_same n few r left in
        let e = at.0 in
        let c = left.0 in
        let d = at.1.0 in
        let state_now_is : state_in r ≡ Some s =
        state_same r c (λ p. left.2 (log_slice p) 0 ∙ as_is c (log_slice p) 0 left.1)
        ∙ state_now place x y differs s number gone kept missing someone all cleared c (logs_of c left.1) in
        let state_was : state_in e ≡ Some s =
        state_same e d (λ p. at.1.2 (log_slice p) 0 ∙ as_was d (log_slice p) 0 at.1.1)
        ∙ kept_state s number gone x d someone.0 kept (logs_of d at.1.1) someone.1 someone.2 in
        let same : q ≡ s = ap (λ o. unwrap_or o q) (sym state ∙ state_now_is) in
        before e at.1 s t state_was (sym (truth_still s n r e at.2) ∙ subst (λ k. truth_in k r n ≡ Some t) same truth)

    pub log_same : LogInvariant s number gone y
    log_same = logs_kept place x y differs s number gone kept missing someone all cleared

-- An array that stands between calls stands so.
pub reseated_amid : (v : Raid) (x y : RackView) (place n : ℕ) (vals : ℕ → Values) (spent : ℕ → Bool) → DiffersAt place x y → IsSet v x → IsHeeded v
    → is_current v.state place ≡ false → (0 < y.sectors (log_slice place) → (u : List ℕ) → MayLeave (y.held (log_slice place) 0) u → u ≡ no_state) → n < v.state.made
    → IsTrackedInCall v x n vals spent → IsTrackedInCall v y n vals spent
reseated_amid v x y place n vals spent differs set heeded missing cleared low amid =
    let s = v.state in
    let u = v.arrays n in
    let all : (p : ℕ) → is_current s p ≡ true → gone_in v p ≡ false = λ p current. heeded_gone v heeded p in
    let shape_is : amid.durable ≡ shape_of u = amid.marked all in
    let stood = subst (λ (shape : Shape). InvariantInCall s shape vals spent (gone_in v) v x n) shape_is amid.stood in
    let seated = set.arrays n low in
    let few : u.number < 16 = seated.is_array.few in
    record {
      durable = shape_of u;
      stood = record {
        joined = stood.joined;
        few = stood.few;
        number = stood.number;
        log = log_same place x y differs s missing v.number (gone_in v) stood.log stood.someone all cleared;
        someone = stood.someone;
        written = stood.written;
        holds = holds_same place x y differs s missing v.number (gone_in v) stood.log stood.someone all cleared u vals spent few (counts_current s n u x seated) stood.holds;
      };
      slices = λ m p t made low_place within.
          live_now place x y differs (member_slice p m) t (λ was. amid.slices m p t made low_place was) within;
      marked = λ are. refl;
      noted = reach_same (is_left v) (shape_of u);
    }

-- and its members are settled
pub reseated_settled : (v : Raid) (x y : RackView) (place n : ℕ) → DiffersAt place x y → IsSet v x → is_current v.state place ≡ false → n < v.state.made
    → IsSynced (shape_of (v.arrays n)) n x.held → IsSynced (shape_of (v.arrays n)) n y.held
reseated_settled v x y place n differs set missing low settled =
    let seated = set.arrays n low in
    let few : n < 16 = let most = set.most in omega (arith, low, most) in
    settled_kept x.held y.held (shape_of (v.arrays n)) n
    (data_same place x y differs v.state missing n (shape_of (v.arrays n)) few (counts_current v.state n (v.arrays n) x seated)) settled

-- and images leave it the rows that they left
pub reseated_rows : (v : Raid) (x y : RackView) (place n : ℕ) (vals : ℕ → Values) (spent : ℕ → Bool) → DiffersAt place x y → IsSet v x → IsHeeded v
    → is_current v.state place ≡ false → (0 < y.sectors (log_slice place) → (u : List ℕ) → MayLeave (y.held (log_slice place) 0) u → u ≡ no_state) → n < v.state.made
    → IsTrackedInCall v x n vals spent → LeavesRows v x n → LeavesRows v y n
reseated_rows v x y place n vals spent differs set heeded missing cleared low amid rows = record {
  settled = rows.settled;
  young = rows.young;
  images =
      rows_same place x y differs v.state missing v.number (gone_in v) amid.stood.log amid.stood.someone (λ p current. heeded_gone v heeded p) cleared n (v.arrays n).resync
      (let most = set.most in omega (arith, low, most)) rows.images;
}
