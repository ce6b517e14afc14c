-- A pool that disks hold at rest they hold after reads, whose slices are those of the same drives.
use Rattle.std.proofs.Common.{◌≡◌, ℕ, ◌+◌, ◌<◌, Bool, true, false, ◌&&◌, nat_lt, is_none, is_some, if◌then◌else◌, List, [], length, Option, Some, None, unwrap_or, inl, inr, refl, sym, ap, ap₂, subst, ◌∙◌, ltb-true, arith}
use Rattle.rack.specs.Values.{Keeps}
use Rattle.rack.specs.Seen.{Image, RackView}
use Rattle.rack.specs.Sequences.{OnlyReads}
use Rattle.slice_rack.specs.Slices.{Slices, IsOrderly, disk_of, first_of, place_of, seat_of, sectors_of}
use Rattle.slice_rack.specs.Sliced.{IsInside, slices_of as slices_seen}
use Rattle.slice_rack.specs.Laws.{disk_below, sector_below}
use Rattle.pool_state.specs.declared.contents.State.{State}
use Rattle.array_image.specs.Places.{log_slice}
use Rattle.array_image.specs.Record.{GateAt, gate_of, gate_in, is_there, pending_at, record_in, record_of}
use Rattle.array_image.specs.States.{is_current}
use Rattle.array_image.specs.Left.{reading}
use Rattle.array_image.proofs.Replays.{SameLogs}
use Rattle.log_laws.specs.View.{LogView, left_of, names}
use Rattle.log_laws.specs.Opening.{Finds}
use Rattle.commit_log.proofs.Restored.{pending_at_by, pending_by}
use Rattle.commit_log.proofs.Undamaged.{whole_by}
use Rattle.pool_image.specs.Disks.{disks_of}
use Rattle.pool_image.specs.Drives.{Found}
use Rattle.assembler_laws.specs.Holding.{AreSteady, HoldPool}

-- what a log finds goes by the log slices
finds_logs : (l : LogView) (on places : List ℕ) (is_pending : Bool) (c e : Image) → SameLogs c e → Finds l on places is_pending None e → Finds l on places is_pending None c
finds_logs l on places is_pending c e same finds =
    let gates : (p : ℕ) → names places p ≡ true → c (log_slice p) 1 ≡ e (log_slice p) 1 = λ p named. same p 1 in
    let records : (a : GateAt) → pending_at places e ≡ Some a → record_in c a.place a.gate.number ≡ record_in e a.place a.gate.number =
    λ a is. ap (record_of a.gate.number) (λ i k. same a.place k i) in
    let gate : (p : ℕ) → gate_in c p ≡ gate_in e p = λ p. ap gate_of (same p 1) in
    record {
      damaged_is = sym (whole_by c e places gates records (sym finds.damaged_is));
      is_pending_is = finds.is_pending_is ∙ ap (λ (o : Option GateAt). is_some o) (sym (pending_at_by c e places gates));
      targets = finds.targets ∙ sym (pending_by c e places gates records);
      each = λ p named. subst (λ (block : List ℕ). (is_there block && is_none (gate_of block)) ≡ is_none (gate_of block)) (sym (same p 1)) (finds.each p named);
      above = λ p g named is. finds.above p g named (sym (gate p) ∙ is);
      number = elim finds.number [
        | inl none ↦ inl none
        | inr some ↦ inr (some.0, some.1, some.2, gate some.0 ∙ some.3, some.4)
      ];
      open_is = λ p g named is. finds.open_is p g named (sym (gate p) ∙ is);
      opened = λ is. let some = finds.opened is in (some.0, some.1, some.2, gate some.0 ∙ some.3, some.4);
    }

module _ (s : State) (t w : Slices) (x y : RackView) (orderly : IsOrderly t) (now_orderly : IsOrderly w) (reads : OnlyReads x y) (inside : IsInside t x)
    (seats : (p : ℕ) → seat_of w p ≡ seat_of t p)
    (sizes : (p d : ℕ) → seat_of t p ≡ Some d → sectors_of w (log_slice p) ≡ sectors_of t (log_slice p))
    (firsts : (p d : ℕ) → seat_of t p ≡ Some d → first_of w (log_slice p) ≡ first_of t (log_slice p))
    (steady : AreSteady x) where
  kept : (d u : ℕ) → d < x.disks → u < x.sectors d → Keeps (x.held d u) (y.held d u)
  kept d u disk sector = reads.keeps.held d u (record {
    disk = subst (λ n. d < n) (sym reads.stays.disks) disk;
    sector = subst (λ n. u < n) (sym (reads.stays.sectors d)) sector;
    is_told = steady.told d disk;
    unspent = reads.stays.lasts steady.lasts.lasting d u (steady.lasts.unspent d u);
  })

  had : (d : ℕ) → d < y.disks → d < x.disks
  had d = subst (λ n. d < n) reads.stays.disks

  within : (d u : ℕ) → u < y.sectors d → u < x.sectors d
  within d u = subst (λ n. u < n) (reads.stays.sectors d)

  steady_later : AreSteady y
  steady_later = record {
    told = λ d disk. reads.stays.told d (steady.told d (had d disk));
    lasts = record { lasting = reads.stays.lasting steady.lasts.lasting; unspent = λ d u. reads.stays.lasts steady.lasts.lasting d u (steady.lasts.unspent d u) };
    single = λ d u disk sector v may.
        let keep = kept d u (had d disk) (within d u sector) in
        steady.single d u (had d disk) (within d u sector) v (keep.within v may) ∙ sym keep.current;
    sized = λ d u disk sector. ap length (kept d u (had d disk) (within d u sector)).current ∙ steady.sized d u (had d disk) (within d u sector);
  }

  -- ---- log slices

  log_place : (p : ℕ) → place_of (log_slice p) ≡ p
  log_place p = omega arith

  size_same : (p : ℕ) → sectors_of w (log_slice p) ≡ sectors_of t (log_slice p)
  size_same p = by (seat_of t p) refl
    where
      by : (o : Option ℕ) → seat_of t p ≡ o → sectors_of w (log_slice p) ≡ sectors_of t (log_slice p)
      by (Some d) seat = sizes p d seat
      by None seat =
          now_orderly.seated (log_slice p) (ap (seat_of w) (log_place p) ∙ seats p ∙ seat)
          ∙ sym (orderly.seated (log_slice p) (ap (seat_of t) (log_place p) ∙ seat))

  logs_same : SameLogs (reading (slices_seen w y)) (reading (slices_seen t x))
  logs_same p u =
      ap (λ n. if nat_lt u n then (y.held (disk_of w (log_slice p)) (first_of w (log_slice p) + u)).current else []) (size_same p)
      ∙ by (nat_lt u (sectors_of t (log_slice p))) refl
    where
      of_seat : (o : Option ℕ) → seat_of t p ≡ o → u < sectors_of t (log_slice p)
          → (y.held (disk_of w (log_slice p)) (first_of w (log_slice p) + u)).current ≡ (x.held (disk_of t (log_slice p)) (first_of t (log_slice p) + u)).current
      of_seat None seat there = absurd (let none = orderly.seated (log_slice p) (ap (seat_of t) (log_place p) ∙ seat) in omega (arith, there, none))
      of_seat (Some d) seat there =
          let disk : disk_of w (log_slice p) ≡ disk_of t (log_slice p) = ap (λ (o : Option ℕ). unwrap_or o 0) (seats (place_of (log_slice p))) in
          ap₂ (λ k first. (y.held k (first + u)).current) disk (firsts p d seat)
          ∙ (kept (disk_of t (log_slice p)) (first_of t (log_slice p) + u) (disk_below t x (log_slice p) u orderly inside there) (sector_below t x (log_slice p) u inside there)).current

      by : (b : Bool) → nat_lt u (sectors_of t (log_slice p)) ≡ b
          → (if b then (y.held (disk_of w (log_slice p)) (first_of w (log_slice p) + u)).current else [])
          ≡ (if b then (x.held (disk_of t (log_slice p)) (first_of t (log_slice p) + u)).current else [])
      by false out = refl
      by true is = of_seat (seat_of t p) refl (ltb-true u (sectors_of t (log_slice p)) is)

  -- ---- the pool

  disks_same : disks_of x ≡ disks_of y
  disks_same = ap₂ (λ count sectors. record { count = count; sectors = sectors }) (sym reads.stays.disks) (λ i d. sym (reads.stays.sectors d) i)

  pub holds_later : (l : LogView) (f : Found) → HoldPool s t x l f → HoldPool s w y l f
  holds_later l f holds =
      let pool = holds.pool in
      let log = holds.log in
      record {
        steady = steady_later;
        pool = record {
          state = pool.state;
          seats = λ p. pool.seats p ∙ sym (seats p);
          chosen = pool.chosen;
          disks = pool.disks ∙ disks_same;
          contents = λ p d u seat sector.
              let there = within d u sector in
              pool.contents p d u seat there ∙ sym (kept d u (inside.seats p d (sym (pool.seats p) ∙ seat)) there).current;
          identities = pool.identities;
        };
        log = record {
          on = log.on;
          places = λ p. log.places p ∙ ap (λ n. is_current s p && nat_lt 0 n) (sym (size_same p));
          is_pending = log.is_pending;
          finds = finds_logs l log.on (left_of log.on []) log.is_pending (reading (slices_seen w y)) (reading (slices_seen t x)) logs_same log.finds;
          none = log.none;
        };
        sound = holds.sound;
      }
