-- Slices of which those of one place alone differ, where the place is current and is to get another drive: what a commit that gives it one finds of an
-- array that stands over the slices before. Of images by the slices after nothing is said.
use Rattle.std.proofs.Common.{◌≡◌, ◌≢◌, ℕ, ◌+◌, ◌<◌, ◌==◌, ◌&&◌, ◌||◌, not, Bool, true, false, List, [], ◌∷◌, length, map, None, refl, sym, ap, subst, ◌∙◌, inl, inr, eq-eqb, arith}
use Rattle.std.proofs.lemmas.Bool.{both_ways, ne_eqb}
use Rattle.rack.specs.Values.{Values, Keeps}
use Rattle.rack.specs.Seen.{Image, RackView}
use Rattle.rack.specs.Joins.{keeps_same}
use Rattle.array_image.specs.Arrays.{Member, Shape, replayed}
use Rattle.array_image.specs.Held.{Among, IsSynced, current_in}
use Rattle.array_image.specs.Left.{Picks}
use Rattle.array_image.specs.Marks.{lower, lowered, unless_gone}
use Rattle.array_image.specs.Places.{data_sector, member_slice, place_of, super_sector}
use Rattle.array_image.specs.Spent.{spent_by}
use Rattle.array_image.specs.States.{is_current}
use Rattle.array_image.specs.Supers.{is_super_of, only_if, super_in, super_of}
use Rattle.array_image.proofs.Frames.{super_of_sector}
use Rattle.array_image.proofs.Marked.{among_lowered}
use Rattle.array_image.proofs.Replays.{replayed_as_is}
use Rattle.array_model.specs.ArrayCalls.{IncludesSpent}
use Rattle.array_model.specs.Says.{HoldsData}
use Rattle.array_model.specs.View.{View, may_vary, place_at, shape_of}
use Rattle.array_model.proofs.Keeping.{KeepsData, even_kept, logs_of, same_value, settled_kept}
use Rattle.array_model.proofs.Losses.{IsLosing, data_of, noted_holds}
use Rattle.array_model.proofs.Noting.{laid_out, unspent_then}
use Rattle.array_model.proofs.Spared.{lost_value}
use Rattle.array_core.specs.Seats.{gone, losing}
use Rattle.log_laws.specs.View.{names}
use Rattle.log_laws.proofs.Kept.{kept_idle}
use Rattle.rack.specs.Targets.{Target, look}
use Rattle.raid_laws.specs.Enlisting.{IsNewLog}
use Rattle.raid_laws.specs.Moves.{IsTrackedInCall, IsHeeded, IsSet}
use Rattle.raid_laws.specs.Raid.{Raid, gone_in}
use Rattle.raid_laws.specs.Vacated.{DiffersAt, FindsArray, vacated}
use Rattle.raid_laws.proofs.Missing.{current_marked, id_marked, length_marked}
use Rattle.raid_laws.proofs.Own.{look_nothing}
use Rattle.raid_laws.proofs.ReseatedLogs.{live_now, picks_back, put_back, put_back_off}
use Rattle.raid_laws.proofs.RetiredLogs.{retired_logs}
use Rattle.raid_laws.proofs.Seated.{gone_losing}
use Rattle.raid_laws.proofs.Whole.{heeded_gone}

-- members that count aren't lost
lowered_away : (lost : ℕ → Bool) (sector : ℕ) (members : List Member) (m : Member) → Among m (map (lower lost) members) → sector < m.reach → lost m.place ≡ false
lowered_away lost sector [] m among counts = absurd among
lowered_away lost sector (first ∷ others) m (inr later) counts = lowered_away lost sector others m later counts
lowered_away lost sector (first ∷ others) m (inl here) counts =
    let Goal : Bool → Type 0 = λ b. lost first.place ≡ b → m ≡ unless_gone b first → sector < m.reach → lost m.place ≡ false in
    let goal : Goal (lost first.place) =
    elim (lost first.place) as Goal [
      | true ↦ λ at is counts. absurd (omega (arith, subst (λ (o : Member). sector < o.reach) is counts))
      | false ↦ λ at is counts. ap (λ (o : Member). lost o.place) is ∙ at
    ] in
    goal refl here counts

-- those that count stand on other places
abbrev pub CountsOff : ℕ → Shape → Type 0
CountsOff place shape = (m : Member) (sector : ℕ) → Among m shape.members → sector < m.reach → m.place ≢ place

-- the shape goes by the seats alone
pub losing_shape : (places : List ℕ) (u : View) → shape_of (losing places u) ≡ shape_of (gone places u)
unfolding shape_of
losing_shape places u = refl

module _ (place : ℕ) (x y : RackView) (differs : DiffersAt place x y) where
  member_off : (p n : ℕ) → n < 16 → p ≢ place → place_of (member_slice p n) ≢ place
  member_off p n few away same = away (omega (arith, same, few))

  -- their data is the same
  pub data_away : (n : ℕ) (shape : Shape) → n < 16 → CountsOff place shape → KeepsData shape n x.held y.held
  data_away n shape few off m sector among reached =
      let d = member_slice m.place n in
      subst (λ h. Keeps (x.held d (data_sector + sector)) h) (sym (differs.held d (data_sector + sector) (member_off m.place n few (off m sector among reached))))
      (keeps_same (x.held d (data_sector + sector)))

  pub holds_away : (n : ℕ) (shape : Shape) (resync : ℕ) (vals : ℕ → Values) (spent : ℕ → Bool) → n < 16 → CountsOff place shape
      → HoldsData n shape resync vals spent x → HoldsData n shape resync vals spent y
  holds_away n shape resync vals spent few off holds =
      let alike = data_away n shape few off in
      record {
        open_left = λ m sector among reached.
            differs.live (member_slice m.place n) (data_sector + sector) (member_off m.place n few (off m sector among reached)) (holds.open_left m sector among reached);
        current = λ k alive. same_value x.held y.held shape n k alike ∙ holds.current k alive;
        sized = λ m sector among reached. ap length (alike m sector among reached).current ∙ holds.sized m sector among reached;
        even = even_kept x.held y.held shape n resync alike holds.even;
      }

  module _ (v : Raid) (n : ℕ) (vals : ℕ → Values) (spent : ℕ → Bool) (set : IsSet v x) (heeded : IsHeeded v) (low : n < v.state.made)
      (was : is_current v.state place ≡ true) (someone : (p : ℕ) × (is_current v.state p ≡ true) × (p ≢ place)) (new_log : IsNewLog place y)
      (covers : IncludesSpent (losing (place ∷ []) (v.arrays n)) spent) (amid : IsTrackedInCall v x n vals spent) (settled : IsSynced (shape_of (v.arrays n)) n x.held) where
    few : n < 16
    few = let most = set.most in omega (arith, low, most)

    nobody : (p : ℕ) → gone_in v p ≡ false
    nobody p = heeded_gone v heeded p

    is_losing : IsLosing (v.arrays n) (gone (place ∷ []) (v.arrays n)) (names (place ∷ []))
    is_losing = gone_losing (v.arrays n) (place ∷ []) (set.arrays n low).is_array (λ none. heeded n low)

    shape_now : shape_of (losing (place ∷ []) (v.arrays n)) ≡ lowered (names (place ∷ [])) (shape_of (v.arrays n))
    shape_now = losing_shape (place ∷ []) (v.arrays n) ∙ is_losing.shape

    off : CountsOff place (lowered (names (place ∷ [])) (shape_of (v.arrays n)))
    off m sector among reached here =
        both_ways (names (place ∷ []) m.place)
        (lowered_away (names (place ∷ [])) sector (shape_of (v.arrays n)).members m among reached)
        (ap (λ (b : Bool). b || false) (eq-eqb place m.place (sym here)))

    unspent : (k : ℕ) → spent k ≡ false → spent_by (lowered (names (place ∷ [])) (shape_of (v.arrays n))) (v.arrays n).resync k ≡ false
    unspent k alive =
        unspent_then (v.arrays n) (losing (place ∷ []) (v.arrays n)) (names (place ∷ []))
        (record {
          number = refl;
          truth = refl;
          resync = refl;
          shape = shape_now;
          vary = is_losing.vary;
          marked = is_losing.marked;
          went = λ none. heeded n low;
        })
        k (covers k alive)

    members_before : HoldsData n (lowered (names (place ∷ [])) (shape_of (v.arrays n))) (v.arrays n).resync vals spent x
    members_before =
        subst (λ k. HoldsData k (lowered (names (place ∷ [])) (shape_of (v.arrays n))) (v.arrays n).resync vals spent x) amid.stood.number
        (data_of
        (noted_holds v.state (v.arrays n).number amid.durable (shape_of (v.arrays n)) (v.arrays n).resync (may_vary (v.arrays n)) vals spent spent x (names (place ∷ []))
        amid.stood.holds.shape (λ k alive. alive)
        (λ k alive.
        lost_value (names (place ∷ [])) (shape_of (v.arrays n)) (v.arrays n).number (v.arrays n).resync (current_in x.held) k
        (laid_out (v.arrays n) (set.arrays n low).is_array) amid.stood.holds.shape.even amid.stood.holds.shape.sized (unspent k alive))))

    members_now : HoldsData n (shape_of (losing (place ∷ []) (v.arrays n))) (v.arrays n).resync vals spent y
    members_now =
        subst (λ (shape : Shape). HoldsData n shape (v.arrays n).resync vals spent y) (sym shape_now)
        (holds_away n (lowered (names (place ∷ [])) (shape_of (v.arrays n))) (v.arrays n).resync vals spent few off members_before)

    settled_now : IsSynced (shape_of (losing (place ∷ []) (v.arrays n))) n y.held
    settled_now =
        subst (λ (shape : Shape). IsSynced shape n y.held) (sym shape_now)
        (settled_kept x.held y.held (lowered (names (place ∷ [])) (shape_of (v.arrays n))) n
        (data_away n (lowered (names (place ∷ [])) (shape_of (v.arrays n))) few off)
        (λ m sector among reached. settled m sector (among_lowered (names (place ∷ [])) sector (shape_of (v.arrays n)).members m among reached) reached))

    -- no other current place has a superblock of it
    alone_now : (c : Image) (p : ℕ) → Picks y c → p ≢ place → is_current (vacated place v).state p ≡ true
        → ((k : ℕ) → k < (v.arrays n).truth.raid_disks → place_at (v.arrays n) k ≡ p → ⊥) → super_in (vacated place v).state c n p ≡ None
    alone_now c p picks away current foreign =
        let e : Image = put_back place x c in
        let back = picks_back place x y differs c picks in
        let d = member_slice p n in
        let as_is : replayed x.sectors e d super_sector ≡ e d super_sector =
        replayed_as_is x.sectors e d super_sector
        (ap (λ (xs : List Target). look xs d super_sector) (kept_idle v.state v.number (gone_in v) x e amid.stood.log (logs_of e back) (λ q is. nobody q)) ∙ look_nothing d super_sector) in
        super_of_sector (vacated place v).state c (replayed x.sectors e) n p (sym (put_back_off place x c d super_sector (member_off p n few away)) ∙ sym as_is)
        ∙ ap (λ k. only_if (is_super_of v.state.pool.0 v.state.extent k n p) (super_of (replayed x.sectors e d super_sector))) (length_marked (place ∷ []) 0 v.state.drives.items)
        ∙ subst (λ k. super_in v.state (replayed x.sectors e) k p ≡ None) amid.stood.number
        (amid.stood.holds.alone (replayed x.sectors e) (e, back, λ q i. refl) p
        (in_first (is_current v.state p) (not (names (place ∷ []) p)) (sym (current_marked (place ∷ []) v.state p) ∙ current)) foreign)
      where
        in_first : (b c : Bool) → (b && c) ≡ true → b ≡ true
        in_first true c is = refl
        in_first false c is = is

    pub retired_finds : FindsArray v.state (λ p. p == place) place (vacated place v) y n vals spent
    retired_finds = record {
      epoch = refl;
      pool = refl;
      ids = λ p away. sym (id_marked (place ∷ []) v.state p);
      current = λ p away.
          sym (current_marked (place ∷ []) v.state p
          ∙ ap (λ (b : Bool). is_current v.state p && not (b || false)) (ne_eqb place p (λ same. away (sym same))) ∙ and_true (is_current v.state p));
      nobody = λ p away. ne_eqb p place away;
      out = ap (λ b. is_current v.state place && not b) (eq-eqb place place refl) ∙ and_false (is_current v.state place);
      log = retired_logs place x y differs v.state v.number (gone_in v) (λ p. p == place) amid.stood.log was (λ p is. nobody p) (eq-eqb place place refl) (λ p stays. nobody p)
          (someone.0, someone.1, ne_eqb someone.0 place someone.2) new_log;
      few = amid.stood.few;
      written = amid.stood.written;
      slices = λ m p t made low_place within.
          live_now place x y differs (member_slice p m) t (λ there. amid.slices m p t made low_place there) within;
      members = members_now;
      settled = settled_now;
      alone = alone_now;
    }
      where
        and_true : (b : Bool) → (b && true) ≡ b
        and_true true = refl
        and_true false = refl

        and_false : (b : Bool) → (b && false) ≡ false
        and_false true = refl
        and_false false = refl
