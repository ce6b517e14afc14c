-- A pool that stands alone without disks that are left out, by the names of these.
use Rattle.std.proofs.Common.{◌≡◌, ◌⊎◌, ℕ, ◌+◌, ◌<◌, nat_lt, bytes_eq, true, false, List, slice_get, Option, Some, None, refl, ap, subst, ◌∙◌, inl, inr, ltb-true, arith}
use Rattle.std.specs.Option.{option_map_or}
use Rattle.std.proofs.lemmas.Bool.{and_parts, both_ways}
use Rattle.rack.specs.Seen.{Image, RackView}
use Rattle.slice_rack.specs.Slices.{Slices}
use Rattle.gpt_table.specs.declared.Table.{Table}
use Rattle.gpt_table.specs.Changes.{the_table}
use Rattle.gpt_table.specs.Disk.{Contents}
use Rattle.pool_state.specs.declared.contents.State.{State}
use Rattle.array_image.specs.Places.{log_slice, state_sector}
use Rattle.array_image.specs.States.{id_of, is_current}
use Rattle.pool_image.specs.Disks.{Disks}
use Rattle.pool_image.specs.Drives.{Found, extent_of}
use Rattle.pool_image.specs.Meaning.{has_slice, has_slice_of, is_table, kind_of}
use Rattle.pool_image.specs.Replay.{Extent}
use Rattle.pool_model.specs.Alone.{NoImpostor, IsTabled}
use Rattle.pool_model.specs.Pools.{AreSlicesOf, extent_in}
use Rattle.pool_model.proofs.Lost.{log_lies}
use Rattle.pool.specs.View.{View, book}
use Rattle.shr_tool.specs.Service.{GoesBy, IsOut, Lone}

-- disks keep their names, so one that is left out stays so
pub out_later : (l : Lone) (names later : List (List ℕ)) → ((d : ℕ) (name : List ℕ) → slice_get names d ≡ Some name → slice_get later d ≡ Some name)
    → (d : ℕ) → IsOut l names d → IsOut l later d
out_later l names later keep d out = (out.0, out.1, out.2, keep d out.1 out.3)

-- nothing more is said then, by a state to which marks alone came
pub alone_later : (f : Found) (l : Lone) (names later : List (List ℕ)) → ((d : ℕ) (name : List ℕ) → slice_get names d ≡ Some name → slice_get later d ≡ Some name)
    → (s r : State) (t : Slices) (x : RackView) → ((p : ℕ) → is_current r p ≡ true → is_current s p ≡ true)
    → NoImpostor f l.bound (IsOut l names) s t x → NoImpostor f l.bound (IsOut l later) r t x
alone_later f l names later keep s r t x marks alone i off = record {
  tables = λ p d seat why.
      (alone i off).tables p d seat (elim why [ inl now ↦ inl (marks p now) | inr stays ↦ inr (λ out. stays (out_later l names later keep d out)) ]);
  others = λ d never stays low. (alone i off).others d never (λ out. stays (out_later l names later keep d out)) low;
}

-- A disk that has a drive's table has the sector of its state.
pub tabled_sector : (f : Found) (t : Slices) (x : RackView) (p d sectors : ℕ) (disk : Contents) → AreSlicesOf f t → f.seats p ≡ Some d → IsTabled f p sectors disk → state_sector < sectors
tabled_sector f t x p d sectors disk slices seat tabled = by (the_table sectors disk) tabled
  where
    within : (table : Table) (o : Option Extent) → o ≡ Some (extent_in t (log_slice p)) → option_map_or (has_slice sectors table 1 (kind_of 0)) o false ≡ true
        → state_sector < sectors
    within table None some is = absurd (both_ways false refl is)
    within table (Some e) some is =
        let room : e.first + e.sectors + 32 < sectors = ltb-true (e.first + e.sectors + 32) sectors (and_parts _ (nat_lt (e.first + e.sectors + 32) sectors) is).1 in
        let first : e.first ≡ state_sector = ap (λ (c : Option Extent). option_map_or (λ k. k.first) c 0) some ∙ (log_lies f t x p d slices seat).0 in
        omega (arith, room, first)

    by : (o : Option Table) → option_map_or (is_table f p sectors) o false ≡ true → state_sector < sectors
    by None is = absurd (both_ways false refl is)
    by (Some table) is =
        within table (extent_of f 0) (slices.logs p d seat)
        (and_parts (has_slice_of f sectors table 0) _ (and_parts (option_map_or (bytes_eq table.disk_id.0) (id_of f.state p) false) _ is).1).0

-- So have the disks of which it is said that they have the tables of their drives.
pub lone_sector : {L : Type 0} {o : Option Lone} (x : View) (f : Found) (goes : GoesBy L o f x) (l : Lone) → o ≡ Some l → (p d : ℕ) → f.seats p ≡ Some d
    → (is_current (book x).state p ≡ true) ⊎ (IsOut l x.shelf.names d → ⊥) → state_sector < x.bay.sectors d
lone_sector x f goes l so p d seat why =
    let i : Image = λ e s. (x.bay.held e s).current in
    subst (λ (k : Disks). state_sector < k.sectors d) goes.service.disks
    (tabled_sector f goes.tables x.bay p d (f.disks.sectors d) (i d) goes.service.slices seat (((goes.alone l so).alone i (λ e s live never. inl refl)).tables p d seat why))
