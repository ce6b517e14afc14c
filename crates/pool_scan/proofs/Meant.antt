-- Where no disk refused a call, what was read is what the disks say.
use Rattle.std.proofs.Common.{◌≡◌, ◌∙◌, ℕ, ◌<◌, List, slice_get, Option, Some, None, refl, sym, ap, inl, inr, arith}
use Rattle.std.specs.Option.{option_and_then}
use Rattle.std.proofs.lemmas.Option.{none-some, slice_get_cases}
use Rattle.rack.specs.Seen.{RackView}
use Rattle.pool_image.specs.Disks.{disks_of, id_by, identities_of, newest}
use Rattle.pool_scan.specs.declared.Known.{Known}
use Rattle.pool_scan.specs.Scanning.{AllTold, IsUnfaulted, IsReadOr, IsScan, as_read, id_in, now_in}
use Rattle.pool_scan.specs.Choosing.{AreOf, has_pool_other_than}
use Rattle.pool_scan.proofs.Chosen.{newest_is, other_is, scan_says}

was_read : {X : Type 0} {shown read : Option X} (x y : RackView) (d : ℕ) → IsUnfaulted x y → IsReadOr x y d shown read → read ≡ shown
was_read x y d free (inl same) = same
was_read x y d free (inr refused) = absurd (free d refused.1)

-- the list says what the disks hold
pub scan_meant : (x y : RackView) (known : List Known) → IsScan x y known → AllTold x → IsUnfaulted x y
    → AreOf (disks_of x) (identities_of (disks_of x) (now_in x)) known
scan_meant x y known scan told free = record {
  count = scan.count;
  copied = λ d inside. copied d inside (slice_get known d) refl;
  id = λ d inside. id d inside (slice_get known d) refl;
}
  where
    listed : (d : ℕ) → d < x.disks → slice_get known d ≡ None → ⊥
    listed d inside none =
        elim ((slice_get_cases known d).1) [
          | inl found ↦ none-some found.0 (sym none ∙ found.2)
          | inr past ↦ absurd (omega (arith, past.0, scan.count, inside))
        ]

    copied : (d : ℕ) → d < x.disks → (o : Option Known) → slice_get known d ≡ o
        → (identities_of (disks_of x) (now_in x) d).copied ≡ option_and_then (λ s. s.copied) o
    copied d inside None is = absurd (listed d inside is)
    copied d inside (Some k) is = sym (was_read x y d free ((scan.each d k is).sees (told d inside)).copied)

    id : (d : ℕ) → d < x.disks → (o : Option Known) → slice_get known d ≡ o
        → id_by (identities_of (disks_of x) (now_in x) d).table (identities_of (disks_of x) (now_in x) d).copied ≡ option_and_then id_in o
    id d inside None is = absurd (listed d inside is)
    id d inside (Some k) is =
        let sees = (scan.each d k is).sees (told d inside) in
        ap (id_by (identities_of (disks_of x) (now_in x) d).table) (sym (was_read x y d free sees.copied))
        ∙ ap (λ t. id_by t k.copied) (sym (was_read x y d free sees.named.table))
        ∙ sym sees.named.id

-- so what was read has the newest state of the disks, and of the same pools
pub newest_meant : (x y : RackView) (known : List Known) → IsScan x y known → AllTold x → IsUnfaulted x y
    → newest (disks_of x) (as_read x known) ≡ newest (disks_of x) (identities_of (disks_of x) (now_in x))
newest_meant x y known scan told free =
    sym (newest_is (disks_of x) (as_read x known) known (scan_says x y known scan told))
    ∙ newest_is (disks_of x) (identities_of (disks_of x) (now_in x)) known (scan_meant x y known scan told free)

pub other_meant : (x y : RackView) (pool : List ℕ) (known : List Known) → IsScan x y known → AllTold x → IsUnfaulted x y
    → has_pool_other_than pool (disks_of x) (as_read x known) ≡ has_pool_other_than pool (disks_of x) (identities_of (disks_of x) (now_in x))
other_meant x y pool known scan told free =
    sym (other_is pool (disks_of x) (as_read x known) known (scan_says x y known scan told))
    ∙ other_is pool (disks_of x) (identities_of (disks_of x) (now_in x)) known (scan_meant x y known scan told free)
