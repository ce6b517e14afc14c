-- What a scan's list says is what the identities of its disks say.
use Rattle.std.proofs.Common.{◌≡◌, ◌∙◌, ℕ, zero, suc, ◌+◌, ◌<◌, ◌≤◌, ◌==◌, ◌||◌, not, Bool, true, false, if◌then◌else◌, List, [], ◌∷◌, slice_get, subst, length, map, position, bytes_eq, Option, Some, None, option_map, refl, sym, ap, ap₂, arith}
use Rattle.std.specs.List.{list_any, range_with_len}
use Rattle.std.specs.Option.{option_and_then, option_map_or, option_copied}
use Rattle.std.specs.Borrow.{Bor}
use Rattle.pool_state.specs.declared.contents.Copied.{Copied}
use Rattle.pool_state.specs.declared.contents.State.{State}
use Rattle.array_image.specs.Foremost.{foremost}
use Rattle.array_image.specs.States.{epoch_of, is_current}
use Rattle.pool_image.specs.Disks.{Disks, Identities, candidate, newest, seat_of}
use Rattle.pool_scan.specs.declared.Known.{Known}
use Rattle.rack.specs.Seen.{RackView}
use Rattle.pool_image.specs.Disks.{disks_of, id_by, identities_of}
use Rattle.pool_scan.specs.Scanning.{AllTold, IsScan, as_read, copied_at, id_in, now_in, table_in}
use Rattle.pool_scan.specs.Choosing.{AreOf, epoch_at, has_pool_other_than, id_at, is_of_other, standing}
use Rattle.pool_scan.proofs.Ranges.{chosen, disk_of, foremost_with, map_same, of_disk, with_epoch}

module _ (disks : Disks) (identities : Identities) (known : List Known) (are : AreOf disks identities known) where
  pub newest_is :
      option_map (λ (copy : Copied). copy.state) (foremost epoch_of (map (copied_at known) (range_with_len 0 (length known)))) ≡ newest disks identities
  newest_is =
      ap (λ n. option_map (λ (copy : Copied). copy.state) (foremost epoch_of (map (copied_at known) (range_with_len 0 n)))) are.count
      ∙ ap (λ cs. option_map (λ (copy : Copied). copy.state) (foremost epoch_of cs))
      (map_same (copied_at known) (λ d. (identities d).copied) 0 disks.count (λ d least most. sym (are.copied d (omega (arith, most)))))

  module _ (s : State) (place : ℕ) where
    -- a disk stands for the place
    abbrev stands : ℕ → Bool
    stands d = option_map_or (λ p. p == place) (option_and_then (λ id. position (λ drive. bytes_eq drive.id.0 id) s.drives.items) (id_at known d)) false

    same : (d : ℕ) → d < disks.count → of_disk (epoch_at known) stands d ≡ candidate s identities place d
    same d inside = rw (are.id d inside, are.copied d inside) refl

    pub seat_is :
        is_current s place ≡ true
        → foremost (epoch_at known) (map (standing s known place) (range_with_len 0 (length known))) ≡ seat_of s disks identities place
    unfolding seat_of foremost
    seat_is current =
        let all = range_with_len 0 disks.count in
        let here : foremost (λ k. k.epoch) (map (candidate s identities place) all) ≡ option_map (with_epoch (epoch_at known)) (foremost (epoch_at known) (map (chosen stands) all)) =
        ap (foremost (λ k. k.epoch)) (sym (map_same (of_disk (epoch_at known) stands) (candidate s identities place) 0 disks.count (λ d least most. same d (omega (arith, most)))))
        ∙ foremost_with (epoch_at known) stands all in
        ap (λ n. foremost (epoch_at known) (map (standing s known place) (range_with_len 0 n))) are.count
        ∙ sym (disk_of (epoch_at known) (foremost (epoch_at known) (map (chosen stands) all)))
        ∙ sym (ap (option_map (λ k. k.disk)) here)
        ∙ sym (ap (λ (b : Bool). if b then option_map (λ k. k.disk) (foremost (λ k. k.epoch) (map (candidate s identities place) all)) else None) current)

    pub no_seat : is_current s place ≡ false → None ≡ seat_of s disks identities place
    unfolding seat_of foremost
    no_seat gone =
        sym (ap (λ (b : Bool). if b then option_map (λ k. k.disk) (foremost (λ k. k.epoch) (map (candidate s identities place) (range_with_len 0 disks.count))) else None) gone)

pub copied_map : (o : Option (Bor Copied)) → option_map (λ (copy : Copied). copy.state) (option_copied o) ≡ option_map (λ (b : Bor Copied). b.now.state) o
copied_map None = refl
copied_map (Some b) = refl

any_from : (p : Known → Bool) (known : List Known) (a : ℕ) (q : ℕ → Bool) → ((k : ℕ) → q (a + k) ≡ option_map_or p (slice_get known k) false)
    → list_any p known ≡ list_any q (range_with_len a (length known))
any_from p [] a q same = refl
any_from p (k ∷ known) a q same =
    ap₂ (λ x y. x || y) (sym (subst (λ n. q n ≡ p k) (omega arith) (same 0)))
    (any_from p known (a + 1) q (λ n. subst (λ m. q m ≡ option_map_or p (slice_get known n) false) (omega arith) (same (suc n))))

-- the copy of a disk is of another pool
pub other_is : (pool : List ℕ) (disks : Disks) (identities : Identities) (known : List Known) → AreOf disks identities known
    → list_any (is_of_other pool) known ≡ has_pool_other_than pool disks identities
other_is pool disks identities known are =
    any_from (is_of_other pool) known 0 (λ d. option_map_or (λ copy. not (bytes_eq copy.state.pool.0 pool)) (copied_at known d) false)
    (λ k.
    let start : k ≡ 0 + k = omega arith in
    subst (λ n. option_map_or (λ copy. not (bytes_eq copy.state.pool.0 pool)) (copied_at known n) false ≡ option_map_or (is_of_other pool) (slice_get known k) false) start
    (of_known (slice_get known k)))
    ∙ ap (λ n. list_any (λ d. option_map_or (λ copy. not (bytes_eq copy.state.pool.0 pool)) (copied_at known d) false) (range_with_len 0 n)) are.count
    ∙ any_same _ _ 0 disks.count (λ d least most. ap (λ o. option_map_or (λ (copy : Copied). not (bytes_eq copy.state.pool.0 pool)) o false) (sym (are.copied d (omega (arith, most)))))
  where
    of_known : (o : Option Known) → option_map_or (λ copy. not (bytes_eq copy.state.pool.0 pool)) (option_and_then (λ k. k.copied) o) false ≡ option_map_or (is_of_other pool) o false
    of_known None = refl
    of_known (Some k) = refl

    any_same : (f g : ℕ → Bool) (a n : ℕ) → ((d : ℕ) → a ≤ d → d < a + n → f d ≡ g d) → list_any f (range_with_len a n) ≡ list_any g (range_with_len a n)
    any_same f g a zero agree = refl
    any_same f g a (suc n) agree =
        ap₂ (λ x y. x || y) (agree a (omega arith) (omega arith)) (any_same f g (a + 1) n (λ d least most. agree d (omega (arith, least)) (omega (arith, most))))

-- the list of a scan says what was read
pub scan_says : (x y : RackView) (known : List Known) → IsScan x y known → AllTold x → AreOf (disks_of x) (as_read x known) known
scan_says x y known scan told = record {
  count = scan.count;
  copied = λ d inside. refl;
  id = λ d inside. by d inside (slice_get known d) refl;
}
  where
    by : (d : ℕ) → d < x.disks → (o : Option Known) → slice_get known d ≡ o
        → id_by (option_and_then (table_in (identities_of (disks_of x) (now_in x) d).table) o) (option_and_then (λ k. k.copied) o) ≡ option_and_then id_in o
    by d inside None is = refl
    by d inside (Some k) is = sym ((scan.each d k is).sees (told d inside)).named.id
