-- What a rack of arrays does, as a rack.
use Rattle.std.specs.Prelude.{Result, OnOk, IfErr}
use Rattle.std.proofs.Common.{◌≡◌, ℕ, ◌≤◌, true, List, Ok, Err, refl, sym, ap, subst, ◌∙◌, inl}
use Rattle.rack.specs.Values.{MayLeave, Keeps, IsSingle}
use Rattle.rack.specs.Seen.{Image, Held, RackView, IsPick, SameRack, Rose, appended}
use Rattle.rack.specs.Moments.{Leaves}
use Rattle.rack.specs.declared.Gone.{Gone}
use Rattle.rack.specs.Calls.{KeepsAll, Reads, Writes, Syncs}
use Rattle.array_image.specs.Arrays.{arrays_in, replayed}
use Rattle.raid_laws.specs.Raid.{Raid, live_of, spent_of, held_in, IsTracked, Stops, raid_of}
use Rattle.raid_laws.specs.Acts.{GiveThese, RaidActs}

-- slices of as many sectors are replayed alike
sizes_same : {a b : RackView} → SameRack a b → b.sectors ≡ a.sectors
sizes_same stays = λ i d. stays.sectors d i

-- the same contents of the arrays stand for the same slices, before a call and after it
stop_kept : {a b : RackView} → SameRack a b → (k : ℕ) (c : Image)
    → ((below : Image) → a.stops k below → b.stops k below)
    → Stops a k c → Stops b k c
stop_kept {a} {b} stays k c kept left =
    (left.0, kept left.0 left.1, λ n y. left.2 n y ∙ ap (λ (sectors : ℕ → ℕ). arrays_in (replayed sectors left.0) n y) (sym (sizes_same stays)))

stop_past : {a b : RackView} → SameRack a b → (k : ℕ) (c : Image)
    → ((below : Image) → b.stops k below → a.stops k below)
    → Stops b k c → Stops a k c
stop_past {a} {b} stays k c past left =
    (left.0, past left.0 left.1, λ n y. left.2 n y ∙ ap (λ (sectors : ℕ → ℕ). arrays_in (replayed sectors left.0) n y) (sizes_same stays))

-- The past of the arrays is that of the slices, whatever the run's arrays become: more of them, larger ones, other members, marks.
pub leaves_raid : {F G : Type 0} {r q : ℕ → ℕ} (v w : Raid) (a b : RackView) (P Q : Image → Type 0)
    → SameRack a b
    → Leaves a b P
    → ((below c : Image) → P below → ((n y : ℕ) → c n y ≡ arrays_in (replayed a.sectors below) n y) → Q c)
    → Leaves (raid_of F r v a) (raid_of G q w b) Q
leaves_raid v w a b P Q stays leaves shown =
    record {
      later = leaves.later;
      kept = λ k c until left. stop_kept stays k c (λ below stopped. leaves.kept k below until stopped) left;
      past = λ k c until left. stop_past stays k c (λ below stopped. leaves.past k below until stopped) left;
      new = λ k c after until left.
          shown left.0 c (leaves.new k left.0 after until left.1)
          (λ n y. left.2 n y ∙ ap (λ (sectors : ℕ → ℕ). arrays_in (replayed sectors left.0) n y) (sizes_same stays));
    }

-- what no call changes
pub stays_raid : {F G : Type 0} {r q : ℕ → ℕ} (v w : Raid) (a b : RackView) (vals : Held) → G → ((n : ℕ) → r n ≤ q n) → RaidActs v w a b vals → SameRack (raid_of F r v a) (raid_of G q w b)
stays_raid v w a b vals fit more acts =
    record {
      fit = fit;
      disks = acts.stays.made;
      sectors = acts.stays.sectors;
      faults = more;
      spent = acts.stays.spent;
      lasting = λ none. none;
      lasts = λ none d s unspent. absurd none;
      steady = λ unit. unit;
      told = acts.told;
      traced = acts.stays.below.traced;
    }

-- at each moment of a call, a stop leaves values that the sectors hold since
pub picks_raid : {F G : Type 0} {r q : ℕ → ℕ} (v w : Raid) (a b : RackView) (vals : Held)
    → RaidActs v w a b vals
    → a.traced
    → Leaves (raid_of F r v a) (raid_of G q w b) (IsPick (raid_of F r v a) (raid_of G q w b) vals)
picks_raid {F = F} {G = G} {r = r} {q = q} v w a b vals acts traced =
    leaves_raid v w a b (GiveThese v w a vals) (IsPick (raid_of F r v a) (raid_of G q w b) vals) acts.stays.below (acts.leaves traced)
    (λ below c these is n y live. subst (MayLeave (vals n y)) (sym (is n y)) (these n y live.is_told live.unspent))

-- a read or a sync of such a rack
pub keeps_raid : {F G : Type 0} {r q : ℕ → ℕ} (v w : Raid) (a b : RackView)
    → RaidActs v w a b (held_in v a)
    → KeepsAll (raid_of F r v a) (raid_of G q w b)
keeps_raid v w a b acts =
    record {
      held = λ n y live. acts.held n y live.is_told live.unspent;
      stops = λ traced. picks_raid v w a b (held_in v a) acts traced;
    }

-- a write, answered
pub writes_raid : {F G : Type 0} {r q : ℕ → ℕ} (v w : Raid) (a b : RackView) (n y : ℕ) (from : List ℕ) (u : Unit {0})
    → G → ((m : ℕ) → r m ≤ q m) → RaidActs v w a b (appended (held_in v a) n y from)
    → live_of w n y
    → Writes (raid_of F r v a) (raid_of G q w b) n y from {X = Unit {0}} (Ok u)
writes_raid v w a b n y from u fit more acts unspent =
    record {
      stays = stays_raid v w a b _ fit more acts;
      cause = record { served = unspent; gone = tt; spent = λ steady. tt };
      stops = λ traced. picks_raid v w a b (appended (held_in v a) n y from) acts traced;
      done = λ m z live. acts.held m z live.is_told live.unspent;
      failed = tt;
    }

-- a read: the answer is refused exactly where the sector is spent
pub reads_raid : {F G : Type 0} {r q : ℕ → ℕ} (v w : Raid) (a b : RackView) (n y : ℕ) (into : List ℕ) (result : Result (Unit {0}) Gone)
    → G → ((m : ℕ) → r m ≤ q m) → RaidActs v w a b (held_in v a)
    → (IsTracked v a n → live_of w n y → into ≡ (held_in v a n y).current)
    → OnOk result (live_of w n y)
    → IfErr result (λ e. (e.disk ≡ n) × (spent_of w n y ≡ true) × Rose (r n) (q n))
    → Reads (raid_of F r v a) (raid_of G q w b) n y into result
reads_raid v w a b n y into (Ok u) fit more acts value served refused =
    record {
      stays = stays_raid v w a b _ fit more acts;
      cause = record { served = served; gone = tt; spent = λ steady. tt };
      keeps = keeps_raid v w a b acts;
      value = λ told. value told served;
    }
reads_raid v w a b n y into (Err e) fit more acts value served refused =
    record {
      stays = stays_raid v w a b _ fit more acts;
      cause = record { served = tt; gone = (refused.0, refused.2); spent = λ steady. refused.1 };
      keeps = keeps_raid v w a b acts;
      value = tt;
    }

-- a sync, answered; whoever was synced has one value in each sector
pub syncs_raid : {F G : Type 0} {r q : ℕ → ℕ} (v w : Raid) (a b : RackView) (n : ℕ)
    → G → ((m : ℕ) → r m ≤ q m) → RaidActs v w a b (held_in v a)
    → ((y : ℕ) → IsTracked v a n → live_of w n y → IsSingle (held_in w b n y))
    → Syncs (raid_of F r v a) (raid_of G q w b) n {X = Unit {0}} (Ok tt)
syncs_raid v w a b n fit more acts single =
    record {
      stays = stays_raid v w a b _ fit more acts;
      gone = tt;
      steady = λ steady. refl;
      keeps = keeps_raid v w a b acts;
      done = λ y u live left. single y live.is_told live.unspent u left;
    }

-- a write that is refused: its sector is spent, and all others are as they were
pub refused_raid : {F G : Type 0} {r q : ℕ → ℕ} (v w : Raid) (a b : RackView) (n y : ℕ) (from : List ℕ) (e : Gone) → e.disk ≡ n
    → G → ((m : ℕ) → r m ≤ q m) → RaidActs v w a b (appended (held_in v a) n y from)
    → ((m z : ℕ) → IsTracked v a m → live_of w m z → Keeps (held_in v a m z) (held_in w b m z))
    → spent_of w n y ≡ true
    → Rose (r n) (q n)
    → Writes (raid_of F r v a) (raid_of G q w b) n y from {X = Unit {0}} (Err e)
refused_raid v w a b n y from e is fit more acts same spent rose =
    record {
      stays = stays_raid v w a b _ fit more acts;
      cause = record { served = tt; gone = (is, rose); spent = λ steady. spent };
      stops = λ traced. picks_raid v w a b (appended (held_in v a) n y from) acts traced;
      done = tt;
      failed = λ m z live. inl (same m z live.is_told live.unspent);
    }
