-- The slices that the partition table of a pool's drive has end before the last 33 sectors of its disk.
use Rattle.std.proofs.Common.{◌≡◌, ℕ, suc, ◌+◌, ◌<◌, ◌||◌, Bool, true, false, ◌&&◌, bytes_eq, nat_lt, not, Option, Some, None, refl, sym, ap, ◌∙◌, add-one, ltb-true, arith}
use Rattle.std.specs.Option.{option_map_or}
use Rattle.std.specs.List.{list_all}
use Rattle.std.proofs.lemmas.Bool.{and_parts, both_ways}
use Rattle.gpt_table.specs.declared.Table.{Table}
use Rattle.array_image.specs.Places.{arrays_first}
use Rattle.array_image.specs.States.{id_of}
use Rattle.pool_image.specs.Drives.{Found, end_of, extent_of}
use Rattle.pool_image.specs.Meaning.{arrays_of, has_entry, has_slice, has_slice_of, has_table, is_member, is_table, kind_of}
use Rattle.pool_image.specs.Replay.{Extent}
use Rattle.pool_model.proofs.Roles.{all_range}

-- what a drive's table has
pub record HasSlices (f : Found) (p d : ℕ) : Type 0 where
  pub table : Table
  pub is : (f.identities d).table ≡ Some table
  pub log : has_slice_of f (f.disks.sectors d) table 0 ≡ true
  pub members : (n : ℕ) → n < f.state.made → is_member f n p ≡ true → has_slice_of f (f.disks.sectors d) table (n + 1) ≡ true

ends_before : (sectors : ℕ) (table : Table) (number n : ℕ) (e : Extent) → has_slice sectors table number (kind_of n) e ≡ true → end_of e + 32 < sectors
ends_before sectors table number n e is =
    ltb-true (end_of e + 32) sectors (and_parts (has_entry table number (kind_of n) e) (nat_lt (end_of e + 32) sectors) is).1

module _ (f : Found) (p d : ℕ) (has : has_table f p d ≡ true) where
  pub slices : HasSlices f p d
  slices = of (f.identities d).table refl has
    where
      of : (o : Option Table) → (f.identities d).table ≡ o → option_map_or (is_table f p (f.disks.sectors d)) o false ≡ true → HasSlices f p d
      of None here is = absurd (both_ways false refl is)
      of (Some table) here is =
          let rest : Bool = list_all (λ n. not (is_member f n p) || has_slice_of f (f.disks.sectors d) table (n + 1)) (arrays_of f) in
          let one = and_parts (option_map_or (bytes_eq table.disk_id.0) (id_of f.state p) false) (has_slice_of f (f.disks.sectors d) table 0 && rest) is in
          let two = and_parts (has_slice_of f (f.disks.sectors d) table 0) rest one.1 in
          record {
            table = table;
            is = here;
            log = two.0;
            members = λ n low member.
                sym (ap (λ b. not b || has_slice_of f (f.disks.sectors d) table (n + 1)) member)
                ∙ all_range (λ k. not (is_member f k p) || has_slice_of f (f.disks.sectors d) table (k + 1)) 0 f.state.made n two.1 (omega arith) (omega (arith, low));
          }

  -- there is room for the log slice, and for the arrays' first sector
  pub log_room : arrays_first + 32 < f.disks.sectors d
  unfolding extent_of
  log_room = (let end = ends_before (f.disks.sectors d) slices.table (0 + 1) 0 (record { first = 2048; sectors = 8192 }) slices.log in omega (arith, end))

  -- and for a member's slice
  pub member_room : (n : ℕ) (e : Extent) → n < f.state.made → is_member f n p ≡ true → extent_of f (suc n) ≡ Some e → end_of e + 32 < f.disks.sectors d
  member_room n e low member lies =
      ends_before (f.disks.sectors d) slices.table (n + 1 + 1) (n + 1) e
      (sym (ap (λ o. option_map_or (has_slice (f.disks.sectors d) slices.table (n + 1 + 1) (kind_of (n + 1))) o false) (ap (extent_of f) (add-one n) ∙ lies))
      ∙ slices.members n low member)
