-- What holds of a bay with offline disks at any moment.
use Rattle.std.specs.Prelude.{◌≡◌, ℕ, ◌<◌, ◌≤◌, ◌^◌, List, Bool, true, false, if◌then◌else◌, refl}
use Rattle.std.proofs.Common.{arith, inl, inr, subst, sym, ◌∙◌}
use Rattle.std.proofs.lemmas.Bool.{cases_lt}
use Rattle.rack.specs.Seen.{Image, RackView, IsLive}
use Rattle.rack.specs.Joins.{keeps_same, keeps_then}
use Rattle.rack.specs.Moments.{IsSound}
use Rattle.rack.specs.Shelf.{Shelf}
use Rattle.rack.specs.Untouched.{KeepsDisk}
use Rattle.online_bay.specs.Online.{KeepsOffline, is_offline, online_of}

-- a sector of a disk that is online, or has none, is one of the bay below
pub sector_below : (offline : Bool) (s sectors : ℕ) → s < (if offline then 0 else sectors) → s < sectors
sector_below true s sectors below = absurd (omega (arith, below))
sector_below false s sectors below = below

-- and is live there
pub live_below : (offline : List Bool) {a b : RackView} {d s : ℕ} → IsLive (online_of offline a) (online_of offline b) d s → IsLive a b d s
live_below offline {a} {b} {d} {s} live = record {
  disk = live.disk;
  sector = sector_below (is_offline offline d) s (b.sectors d) live.sector;
  is_told = live.is_told;
  unspent = live.unspent;
}

-- a stop now leaves held values, and may leave the contents as they read
pub is_sound : (offline : List Bool) (x : RackView) → IsSound x → IsSound (online_of offline x)
is_sound offline x sound = record {
  only_held = λ c left d s live. sound.only_held c left d s (live_below offline live);
  now = (sound.now.0, sound.now.1, λ d s live. sound.now.2 d s (live_below offline live));
}

-- no disk has more sectors than below
pub stays_bounded : (offline : List Bool) (x : RackView) → ((d : ℕ) → d < x.disks → x.sectors d < 2 ^ 48)
    → (d : ℕ) → d < x.disks → (online_of offline x).sectors d < 2 ^ 48
stays_bounded offline x bounded d below = fewer (is_offline offline d) (bounded d below) where
  fewer : (flag : Bool) {n : ℕ} → n < 2 ^ 48 → (if flag then 0 else n) < 2 ^ 48
  fewer true few = omega arith
  fewer false few = few

-- no call leaves all disks alone
pub offline_same : (offline : List Bool) (x : RackView) (s : Shelf) → KeepsOffline offline offline x x s s
offline_same offline x s = record {
  disks = omega arith;
  flags = λ d below. refl;
  sectors = λ d below. refl;
  tells = λ d below told. told;
  told = λ told. told;
  traced = λ told traced. traced;
  later = λ told traced. omega arith;
  past = λ told traced k i upto left. left;
  kept = λ d below off. record { held = λ n inside told. keeps_same (x.held d n); stops = λ told traced k i after upto left. absurd (omega (arith, after, upto)) };
}

-- a disk that is left alone twice is left alone
disk_then : (s t : Shelf) {a b c : RackView} (d : ℕ)
    → (s.told → t.told) → (s.told → a.traced → b.traced) → (b.sectors d ≡ a.sectors d) → (a.told d → b.told d)
    → (s.told → a.traced → (k : ℕ) (i : Image) → k ≤ b.clock → c.stops k i → b.stops k i)
    → KeepsDisk s.told a b d → KeepsDisk t.told b c d → KeepsDisk s.told a c d
disk_then s t {a} {b} {c} d known traced sectors tells past one two = record {
  held = λ n inside told. keeps_then _ _ _ (one.held n inside told) (two.held n (reaches n inside) (tells told));
  stops = λ told tr k i after upto left n inside is_told.
      elim (cases_lt b.clock k) [
        | inr before ↦ one.stops told tr k i after before (past told tr k i before left) n inside is_told
        | inl since ↦
            (one.held n inside is_told).within (i d n)
            (two.stops (known told) (traced told tr) k i since upto left n (reaches n inside) (tells is_told))
      ];
} where
  reaches : (n : ℕ) → n < a.sectors d → n < b.sectors d
  reaches n inside = subst (λ m. n < m) (sym sectors) inside

-- and so do calls in a row
pub offline_then : {f g h : List Bool} {a b c : RackView} {s t u : Shelf}
    → KeepsOffline f g a b s t → KeepsOffline g h b c t u → KeepsOffline f h a c s u
offline_then {f} {g} {h} {a} {b} {c} {s} {t} {u} one two = record {
  disks = omega (arith, one.disks, two.disks);
  flags = λ d below. two.flags d (within d below) ∙ one.flags d below;
  sectors = λ d below. two.sectors d (within d below) ∙ one.sectors d below;
  tells = λ d below told. two.tells d (within d below) (one.tells d below told);
  told = λ told. two.told (one.told told);
  traced = λ told tr. two.traced (one.told told) (one.traced told tr);
  later = λ told tr. omega (arith, one.later told tr, two.later (one.told told) (one.traced told tr));
  past = λ told tr k i upto left.
      one.past told tr k i upto (two.past (one.told told) (one.traced told tr) k i (omega (arith, upto, one.later told tr)) left);
  kept = λ d below off.
      disk_then s t d one.told one.traced (one.sectors d below) (one.tells d below)
      (λ told tr. two.past (one.told told) (one.traced told tr))
      (one.kept d below off) (two.kept d (within d below) (one.flags d below ∙ off));
} where
  within : (d : ℕ) → d < a.disks → d < b.disks
  within d below = omega (arith, below, one.disks)
