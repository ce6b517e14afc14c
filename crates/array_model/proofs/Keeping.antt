-- Calls of the slices that bring no value: an array says and holds what it did.
use Rattle.std.proofs.Common.{◌≡◌, ℕ, ◌+◌, ◌<◌, Bool, true, false, nat_lt, if◌then◌else◌, List, [], ◌∷◌, map, take, length, Option, Some, None, refl, sym, ap, ap₂, subst, ◌∙◌, inl, inr, ltb-true, lt-ltb, le-ltb, ◌≤◌}
use Rattle.std.proofs.lemmas.Bool.{both_ways}
use Rattle.std.specs.Option.{option_map_or}
use Rattle.rack.specs.Values.{Values, MayLeave, Keeps, only}
use Rattle.rack.specs.Seen.{Image, Held, RackView, IsLive, IsPick, SameRack}
use Rattle.rack.specs.Calls.{KeepsAll}
use Rattle.rack.specs.Joins.{leaves_weaker}
use Rattle.pool_state.specs.declared.contents.State.{State}
use Rattle.array_image.specs.Places.{log_slice, member_slice, data_sector}
use Rattle.array_image.specs.Stripes.{Layout, width, position_in, sector_in, there, given, AgreeIn}
use Rattle.array_image.specs.Arrays.{Member, Shape, column, layout_at, stripe_in, value_by, replayed}
use Rattle.array_image.specs.Held.{Among, current_in, held_of, held_by, IsSynced}
use Rattle.array_image.specs.Even.{AreEven}
use Rattle.array_image.proofs.Settled.{among_take}
use Rattle.array_image.proofs.Sources.{source_of, source_counts}
use Rattle.array_model.specs.View.{View, shape_of, may_vary}
use Rattle.array_image.specs.Left.{reading, TargetsExist, IsInside, Picks, PicksLogs, IsLeft, NothingPending, TargetsInside}
use Rattle.array_model.proofs.Views.{loses_nobody, same_array}
use Rattle.array_model.specs.Says.{ImageShowsArray, IsOpen, ShapeInvariant, ArrayInvariant}
use Rattle.array_model.specs.ArrayCalls.{Keeping, ImageInCall}

-- a sector that can be called before calls can be called after them, where no call spends one
pub live_on : {a b : RackView} {d t : ℕ} → a.lasting → SameRack a b → IsLive a a d t → IsLive a b d t
live_on {a} {b} {d} {t} lasting stays live =
    record {
      disk = subst (λ n. d < n) (sym stays.disks) live.disk;
      sector = subst (λ n. t < n) (sym (stays.sectors d)) live.sector;
      is_told = live.is_told;
      unspent = stays.lasts lasting d t live.unspent;
    }

pub live_after : {a b : RackView} {d t : ℕ} → SameRack a b → IsLive a b d t → IsLive b b d t
live_after {a} {b} {d} {t} stays live =
    record { disk = live.disk; sector = live.sector; is_told = stays.told d live.is_told; unspent = live.unspent }

-- what a sector reads is the current value of one that can be called, and nothing where there is none
pub reading_live : (x : RackView) (d t : ℕ) → IsLive x x d t → reading x d t ≡ (x.held d t).current
reading_live x d t live = ap (λ b. if b then (x.held d t).current else []) (lt-ltb t (x.sectors d) live.sector)

pub reading_outside : (x : RackView) (d t : ℕ) → x.sectors d ≤ t → reading x d t ≡ []
reading_outside x d t out = ap (λ b. if b then (x.held d t).current else []) (le-ltb t (x.sectors d) out)

-- no values came
abbrev pub KeepsHeld : RackView → RackView → Type 0
KeepsHeld a b = (d t : ℕ) → IsLive a b d t → Keeps (a.held d t) (b.held d t)

pub inside_before : {a b : RackView} → SameRack a b → (c : Image) → IsInside b.sectors c → IsInside a.sectors c
inside_before {a} {b} stays c inside d t out = inside d t (subst (λ n. n ≤ t) (sym (stays.sectors d)) out)

picks_before : {a b : RackView} → a.lasting → SameRack a b → KeepsHeld a b → (c : Image) → Picks b c → Picks a c
picks_before {a} {b} lasting stays keeps c picks =
    record {
      picks = λ d t live.
          let over = live_on lasting stays live in
          (keeps d t over).within (c d t) (picks.picks d t (live_after stays over));
      inside = inside_before stays c picks.inside;
    }

-- the log slices keep their values
abbrev pub KeepsLogs : RackView → RackView → Type 0
KeepsLogs a b = (place t : ℕ) → IsLive a b (log_slice place) t → Keeps (a.held (log_slice place) t) (b.held (log_slice place) t)

pub logs_before : {a b : RackView} → a.lasting → SameRack a b → KeepsLogs a b → (c : Image) → PicksLogs b c → PicksLogs a c
logs_before {a} {b} lasting stays keeps c picks =
    record {
      picks = λ place t live.
          let over = live_on lasting stays live in
          (keeps place t over).within (c (log_slice place) t) (picks.picks place t (live_after stays over));
      inside = λ place t out. picks.inside place t (subst (λ n. n ≤ t) (sym (stays.sectors (log_slice place))) out);
    }

-- so what isn't pending stays so
pub closed_after : {a b : RackView} (n : ℕ) → a.lasting → SameRack a b → KeepsLogs a b → NothingPending n a → NothingPending n b
closed_after n lasting stays keeps closed c picks place t =
    ap (λ (sectors : ℕ → ℕ). replayed sectors c (member_slice place n) t) (λ i e. stays.sectors e i)
    ∙ closed c (logs_before lasting stays keeps c picks) place t

-- and what is pending is for sectors that slices have
pub bounded_after : {a b : RackView} → a.lasting → SameRack a b → KeepsLogs a b → TargetsExist a → TargetsExist b
bounded_after lasting stays keeps bounded c picks =
    subst (λ (sectors : ℕ → ℕ). TargetsInside sectors c) (sym (λ i e. stays.sectors e i)) (bounded c (logs_before lasting stays keeps c picks))

-- what a stop after the calls may leave, one before them might
pub left_before : {a b : RackView} → a.lasting → SameRack a b → KeepsHeld a b → (r : Image) → IsLeft b r → IsLeft a r
left_before {a} {b} lasting stays keeps r left = (
  left.0,
  picks_before lasting stays keeps left.0 left.1,
  λ d t. left.2 d t ∙ ap (λ (sectors : ℕ → ℕ). replayed sectors left.0 d t) (λ i e. stays.sectors e i),
)

-- and so do images in the middle of them
pub pick_before : {a b : RackView} → a.lasting → SameRack a b → (c : Image) → IsInside a.sectors c → IsPick a b a.held c → Picks a c
pick_before {a} {b} lasting stays c inside pick = record { picks = λ d t live. pick d t (live_on lasting stays live); inside = inside }

-- the logs of contents
pub logs_of : {x : RackView} → (c : Image) → Picks x c → PicksLogs x c
logs_of c picks = record { picks = λ place t live. picks.picks (log_slice place) t live; inside = λ place t out. picks.inside (log_slice place) t out }

-- no values came to the members' data that counts
abbrev pub KeepsData : Shape → ℕ → Held → Held → Type 0
KeepsData shape array g h =
    (m : Member) (sector : ℕ) → Among m shape.members → sector < m.reach
    → Keeps (g (member_slice m.place array) (data_sector + sector)) (h (member_slice m.place array) (data_sector + sector))

-- the members' current values stay
same_current : (g h : Held) (shape : Shape) (array sector : ℕ) → KeepsData shape array g h
    → (members : List Member) → ((m : Member) → Among m members → Among m shape.members)
    → map (column (current_in h) array sector) members ≡ map (column (current_in g) array sector) members
same_current g h shape array sector keeps [] inside = refl
same_current g h shape array sector keeps (m ∷ others) inside =
    let Goal : Bool → Type 0 = λ t. nat_lt sector m.reach ≡ t
    → (if t then Some (current_in h (member_slice m.place array) (data_sector + sector)) else None)
    ≡ (if t then Some (current_in g (member_slice m.place array) (data_sector + sector)) else None) in
    let goal : Goal (nat_lt sector m.reach) =
    elim (nat_lt sector m.reach) as Goal [
      | true ↦ λ counts. ap Some (keeps m sector (inside m (inl refl)) (ltb-true sector m.reach counts)).current
      | false ↦ λ none. refl
    ] in
    ap₂ (λ v vs. v ∷ vs) (goal refl) (same_current g h shape array sector keeps others (λ o among. inside o (inr among)))

pub same_stripe : (g h : Held) (shape : Shape) (array sector : ℕ) (layout : Layout) → KeepsData shape array g h
    → stripe_in (current_in h) array shape layout sector ≡ stripe_in (current_in g) array shape layout sector
same_stripe g h shape array sector layout keeps =
    same_current g h shape array sector keeps (take (width layout) shape.members) (λ m among. among_take (width layout) shape.members m among)

pub same_value : (g h : Held) (shape : Shape) (array x : ℕ) → KeepsData shape array g h
    → value_by shape (current_in h) array x ≡ value_by shape (current_in g) array x
unfolding value_by
same_value g h shape array x keeps =
    let layout = layout_at shape x in
    ap (λ stripe. given layout stripe (position_in layout x)) (same_stripe g h shape array (sector_in layout x) layout keeps)

-- no value comes to the array's sectors
pub held_kept : (g h : Held) (shape : Shape) (array x : ℕ) → KeepsData shape array g h
    → (u : List ℕ) → MayLeave (held_by shape h array x) u → MayLeave (held_by shape g array x) u
unfolding held_by
held_kept g h shape array x keeps u left =
    let sector = sector_in (layout_at shape x) x in
    let Goal : Option Member → Type 0 = λ o. source_of shape x ≡ o
    → MayLeave (option_map_or (held_of h array sector) o (only (value_by shape (current_in h) array x))) u
    → MayLeave (option_map_or (held_of g array sector) o (only (value_by shape (current_in g) array x))) u in
    let goal : Goal (source_of shape x) =
    elim (source_of shape x) as Goal [
      | None ↦ λ none now. elim now [ inl is ↦ inl (is ∙ same_value g h shape array x keeps) | inr older ↦ absurd older ]
      | Some m ↦ λ is now.
          let found = source_counts shape x m is in
          (keeps m sector found.among found.counts).within u now
    ] in
    goal refl left

pub open_after : {a b : RackView} → a.lasting → SameRack a b → (shape : Shape) (array : ℕ) → IsOpen shape array a → IsOpen shape array b
open_after lasting stays shape array is_open m sector among counts = live_after stays (live_on lasting stays (is_open m sector among counts))

keeps_data : {a b : RackView} → a.lasting → SameRack a b → KeepsHeld a b → (shape : Shape) (array : ℕ) → IsOpen shape array a → KeepsData shape array a.held b.held
keeps_data lasting stays keeps shape array is_open m sector among counts =
    keeps (member_slice m.place array) (data_sector + sector) (live_on lasting stays (is_open m sector among counts))

pub even_kept : (g h : Held) (shape : Shape) (array resync : ℕ) → KeepsData shape array g h → AreEven shape array resync (current_in g) → AreEven shape array resync (current_in h)
even_kept g h shape array resync keeps even x inside synced counts =
    subst (λ stripe. AgreeIn (layout_at shape x) (there stripe))
    (sym (same_stripe g h shape array (sector_in (layout_at shape x) x) (layout_at shape x) keeps))
    (even x inside synced counts)

pub settled_kept : (g h : Held) (shape : Shape) (array : ℕ) → KeepsData shape array g h → IsSynced shape array g → IsSynced shape array h
settled_kept g h shape array keeps settled m sector among counts u left =
    let k = keeps m sector among counts in
    settled m sector among counts u (k.within u left) ∙ sym k.current

-- the array holds what it held
pub holds_kept : {a b : RackView} → a.lasting → SameRack a b → KeepsHeld a b
    → (s : State) (n : ℕ) (durable noted : Shape) (resync : ℕ) (marked : Bool) (vals : ℕ → Values) (spent : ℕ → Bool)
    → ShapeInvariant s n durable noted resync marked vals spent a → ShapeInvariant s n durable noted resync marked vals spent b
holds_kept {a} {b} lasting stays keeps s n durable noted resync marked vals spent holds =
    let all = keeps_data lasting stays keeps durable n holds.open_slices in
    let left = keeps_data lasting stays keeps noted n holds.open_left in
    record {
      open_slices = open_after lasting stays durable n holds.open_slices;
      open_left = open_after lasting stays noted n holds.open_left;
      says = λ r left. holds.says r (left_before lasting stays keeps r left);
      still = λ c picks m sector among counts.
          ap (λ (sectors : ℕ → ℕ). replayed sectors c (member_slice m.place n) (data_sector + sector)) (λ i e. stays.sectors e i)
          ∙ holds.still c (picks_before lasting stays keeps c picks) m sector among counts;
      within = λ y unspent u left. holds.within y unspent u (held_kept a.held b.held durable n y all u left);
      current = λ y unspent. same_value a.held b.held noted n y left ∙ holds.current y unspent;
      sized = λ m sector among counts. ap length (left m sector among counts).current ∙ holds.sized m sector among counts;
      even = even_kept a.held b.held noted n resync left holds.even;
      settled = λ unmarked. settled_kept a.held b.held noted n left (holds.settled unmarked);
    }

-- Any run of calls that brings no value keeps the array, whatever it says and holds: reads, syncs, a look at a member.
pub keeping_calls : (a b : RackView) → a.lasting → SameRack a b → KeepsAll a b
    → (s : State) (durable : Shape) (v : View) (vals : ℕ → Values) (spent : ℕ → Bool)
    → Keeping s v v spent a b durable vals
keeping_calls a b lasting stays keeps s durable v vals spent =
    record {
      stays = stays;
      noted = record { same = same_array v; lost = λ place. false; loses = loses_nobody v; cause = λ place none. absurd (both_ways false refl none) };
      leaves = λ traced.
          leaves_weaker (IsPick a b a.held) (λ c. IsInside a.sectors c → ImageInCall v.number a b (λ r. ArrayInvariant s durable v vals spent a → ImageShowsArray s v.number durable vals spent r) c)
          (λ c pick inside. let picks = pick_before lasting stays c inside pick in record {
            before = replayed a.sectors c;
            left = (c, picks, λ d t. refl);
            others = λ d t apart. refl;
            own = λ holds. holds.shape.says (replayed a.sectors c) (c, picks, λ d t. refl);
            whole = λ whole. whole;
            calm = λ calm. calm c (logs_of c picks);
            bounded = λ bounded. bounded c (logs_of c picks);
          })
          (keeps.stops traced);
      holds = λ holds.
          record {
            shape = holds_kept lasting stays keeps.held s v.number durable (shape_of v) v.resync (may_vary v) vals spent holds.shape;
            mark = λ marked r left. holds.mark marked r (left_before lasting stays keeps.held r left);
            truth = λ r left. holds.truth r (left_before lasting stays keeps.held r left);
            alone = λ r left. holds.alone r (left_before lasting stays keeps.held r left);
            closed = λ none. closed_after v.number lasting stays (λ place t live. keeps.held (log_slice place) t live) (holds.closed none);
          };
      apart = λ d t live apart. keeps.held d t live;
      calm = λ calm c picks. calm c (logs_before lasting stays (λ place u live. keeps.held (log_slice place) u live) c picks);
      bounded = bounded_after lasting stays (λ place u live. keeps.held (log_slice place) u live);
    }
