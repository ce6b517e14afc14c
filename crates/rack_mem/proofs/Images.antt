-- The image that a stop leaves, built from the writes before it.
use Rattle.std.proofs.Common.{◌≡◌, ℕ, zero, suc, ◌+◌, ◌<◌, ◌⊎◌, ◌==◌, ◌&&◌, if◌then◌else◌, inl, inr, Bool, true, false, List, [], ◌∷◌, length, Option, Some, None, refl, sym, ap, subst, ◌∙◌, arith, add-one}
use Rattle.std.specs.Prelude.{slice_get, unwrap_or, All}
use Rattle.std.specs.Option.{option_map_or}
use Rattle.std.proofs.lemmas.Bool.{cases_lt, eq-eqb, eqb-true}
use Rattle.std.proofs.lemmas.Bool.Decides.{nat_tests}
use Rattle.std.proofs.lemmas.Option.{slice_get_cases, slice_get-map, slice_get-get_or}
use Rattle.rack.specs.Values.{Values, Has, MayLeave, all_of, only, append}
use Rattle.rack.specs.Joins.{has_shorter}
use Rattle.rack_mem.specs.declared.DiskSpec.{DiskSpec}
use Rattle.rack_mem.specs.declared.Pick.{Pick}
use Rattle.rack_mem.specs.declared.Pick.TheVariants.{Oldest, Newest, Seeded}
use Rattle.rack_mem.specs.declared.calls.Call.{Call}
use Rattle.rack_mem.specs.declared.calls.Call.TheVariants.{Quiet, Write, Sync}
use Rattle.rack_mem.specs.declared.memory.Attached.{Attached}
use Rattle.rack_mem.specs.History.{after_call, value_of, IsOn}
use Rattle.rack_mem.specs.Memory.{Memory, IsLeft, IsNew, sectors_of, AllDiffer, names_of, name_of, number_of, values_of}
use Rattle.rack_mem.specs.declared.table.SectorTable.{SectorTable}
use Rattle.rack_mem.specs.declared.table.Sector.{Sector}
use Rattle.rack_mem.specs.Zeros.{zeros}
use Rattle.rack_mem.specs.Table.{value_at, stored}
use Rattle.rack_mem.specs.Picked.{picked, picked_number, Takes, TakesSoFar, KeepsOthers, IsImage}

-- an element of a list stands in it
has_at : (xs : List (List ℕ)) (i : ℕ) (x : List ℕ) → slice_get xs i ≡ Some x → Has xs x
has_at [] i x e = cc
has_at (y ∷ ys) zero x e = inl (cc)
has_at (y ∷ ys) (suc i) x e = inr (has_at ys i x e)

-- a stop may leave the value that is taken
picked_left : (pick : Pick) (d s : ℕ) (v : Values) → MayLeave v (picked pick d s v)
picked_left pick d s v =
    let i : ℕ = picked_number pick d s (length v.older) in
    let At : Option (List ℕ) → Type 0 = λ o. slice_get (all_of v) i ≡ o → MayLeave v (unwrap_or o v.current) in
    let at : At (slice_get (all_of v) i) =
    elim (slice_get (all_of v) i) as At [
      | None ↦ λ e. inl refl
      | Some x ↦ λ e. has_shorter v.older v.current x (has_at (all_of v) i x e)
    ] in
    at refl

single : (x : List ℕ) (i : ℕ) → unwrap_or (slice_get (x ∷ []) i) x ≡ x
single x zero = refl
single x (suc i) = refl

-- of one value that one is taken
picked-only : (pick : Pick) (d s : ℕ) (x : List ℕ) → picked pick d s (only x) ≡ x
picked-only Oldest d s x = refl
picked-only Newest d s x = refl
picked-only (Seeded seed) d s x = single x _

-- so a stop may leave an image whose sectors have the values that are taken
pub image_is_left : (a : Memory) (moment : ℕ) (pick : Pick) (contents : ℕ → ℕ → List ℕ) → Takes a moment pick contents
    → IsLeft a moment (λ d s. contents (number_of a.attached d) s)
image_is_left a moment pick contents taken d s disk sector =
    subst (MayLeave (values_of a d s moment)) (sym (taken d s disk)) (picked_left pick d s (values_of a d s moment))

-- attached disks have numbers of their own on the shelf
name_at : (shelf : List DiskSpec) (xs : List Attached) (d : ℕ) → d < length xs → slice_get (names_of shelf xs) d ≡ Some (name_of shelf (number_of xs d))
name_at shelf xs d within =
    elim (slice_get_cases xs d).1 [
      | inl (x, _, at, _) ↦ slice_get-map (λ (disk : Attached). name_of shelf disk.number) xs d ∙ rw at refl
      | inr (past, _) ↦ absurd (omega arith)
    ]

numbers_differ : (a : Memory) (d e : ℕ) → AllDiffer (names_of a.shelf a.attached) → d < length a.attached → e < length a.attached
    → number_of a.attached d ≡ number_of a.attached e → d ≡ e
numbers_differ a d e differ d_within e_within same =
    differ d e (name_of a.shelf (number_of a.attached d)) (name_at a.shelf a.attached d d_within)
    (name_at a.shelf a.attached e e_within ∙ ap (λ n. Some (name_of a.shelf n)) (sym same))

-- before the first call nothing was written
pub takes_none : (a : Memory) (moment : ℕ) (pick : Pick) (contents : ℕ → ℕ → List ℕ) → ((n s : ℕ) → contents n s ≡ a.contents n s)
    → TakesSoFar a moment pick 0 contents
takes_none a moment pick contents same d s within = inr (same (number_of a.attached d) s, refl)

-- after all calls before the moment, all values are those taken
pub takes_all : (a : Memory) (moment : ℕ) (pick : Pick) (contents : ℕ → ℕ → List ℕ) → TakesSoFar a moment pick moment contents → Takes a moment pick contents
takes_all a moment pick contents so_far d s within =
    elim (so_far d s within) [
      | inl taken ↦ taken
      | inr (same, untouched) ↦ rw untouched (same ∙ sym (picked-only pick d s _))
    ]

-- a call that writes nothing
still_only : (call : Call) (d s : ℕ) (x : List ℕ) → value_of call ≡ None → after_call call d s (only x) ≡ only x
still_only Quiet d s x quiet = refl
still_only (Write disk sector value) d s x quiet = cc
still_only (Sync disk) d s x quiet = elim (d == disk) as (λ test. (if test then only x else only x) ≡ only x) [ true ↦ refl | false ↦ refl ]

next : (a : Memory) (d s number : ℕ) (call : Call) → slice_get a.calls number ≡ Some call → values_of a d s (number + 1) ≡ after_call call d s (values_of a d s number)
next a d s number call at = rw (add-one, at) refl

pub takes_quiet : (a : Memory) (moment : ℕ) (pick : Pick) (number : ℕ) (contents : ℕ → ℕ → List ℕ) (call : Call) → slice_get a.calls number ≡ Some call → value_of call ≡ None
    → TakesSoFar a moment pick number contents → TakesSoFar a moment pick (number + 1) contents
takes_quiet a moment pick number contents call at quiet so_far d s within =
    elim (so_far d s within) [
      | inl taken ↦ inl taken
      | inr (same, untouched) ↦ inr (same, next a d s number call at ∙ ap (after_call call d s) untouched ∙ still_only call d s _ quiet)
    ]

-- the contents after one sector of a disk was put in
abbrev pub Puts : (ℕ → ℕ → List ℕ) → ℕ → ℕ → List ℕ → (ℕ → ℕ → List ℕ) → Type 0
Puts contents n sector value after = (m s : ℕ) → after m s ≡ (if (m == n) && (s == sector) then value else contents m s)

both : (a b : Bool) → (a && b) ≡ true → (a ≡ true) × (b ≡ true)
both true b e = (refl, e)
both false b e = cc

-- another sector isn't written
other_sector : (d s disk sector : ℕ) (value : List ℕ) (v : Values) → ((d ≡ disk) → (s ≡ sector) → ⊥) → after_call (Write disk sector value) d s v ≡ v
other_sector d s disk sector value v apart =
    elim ((d == disk) && (s == sector)) as (λ test. (test ≡ true → ((d == disk) ≡ true) × ((s == sector) ≡ true)) → (if test then append v value else v) ≡ v) [
      | true ↦ λ is. let h : ((d == disk) ≡ true) × ((s == sector) ≡ true) = is refl in absurd (apart (eqb-true d disk h.0) (eqb-true s sector h.1))
      | false ↦ λ is. refl
    ] (both (d == disk) (s == sector))

-- a call that writes, whose sector gets the value that is taken
pub takes_write : (a : Memory) (moment : ℕ) (pick : Pick) (number : ℕ) (contents after : ℕ → ℕ → List ℕ) (disk sector : ℕ) (value : List ℕ)
    → slice_get a.calls number ≡ Some (Write disk sector value) → disk < length a.attached → AllDiffer (names_of a.shelf a.attached)
    → Puts contents (number_of a.attached disk) sector (picked pick disk sector (values_of a disk sector moment)) after
    → TakesSoFar a moment pick number contents → TakesSoFar a moment pick (number + 1) after
takes_write a moment pick number contents after disk sector value at known differ puts so_far d s within =
    let n : ℕ = number_of a.attached d in
    let taken : List ℕ = picked pick disk sector (values_of a disk sector moment) in
    let Goal : List ℕ → Type 0 = λ held.
    (held ≡ picked pick d s (values_of a d s moment))
    ⊎ ((held ≡ a.contents n s) × (values_of a d s (number + 1) ≡ only (a.contents n s))) in
    let here : (n ≡ number_of a.attached disk) → s ≡ sector → Goal taken = λ same_disk same_sector.
    let is : disk ≡ d = sym (numbers_differ a d disk differ within known same_disk) in
    inl (ap (λ t. picked pick disk t (values_of a disk t moment)) (sym same_sector) ∙ ap (λ e. picked pick e s (values_of a e s moment)) is) in
    let elsewhere : ((n ≡ number_of a.attached disk) → s ≡ sector → ⊥) → Goal (contents n s) = λ apart.
    elim (so_far d s within) [
      | inl was ↦ inl was
      | inr (same, untouched) ↦ inr (
        same,
        next a d s number (Write disk sector value) at ∙ other_sector d s disk sector value (values_of a d s number) (λ e f. apart (ap (number_of a.attached) e) f) ∙ untouched,
      )
    ] in
    subst Goal (sym (puts n s))
    (elim ((n == number_of a.attached disk) && (s == sector)) as
    (λ test. (test ≡ true → ((n == number_of a.attached disk) ≡ true) × ((s == sector) ≡ true)) → (test ≡ false → (n == number_of a.attached disk) && (s == sector) ≡ false)
    → Goal (if test then taken else contents n s)) [
      | true ↦ λ is not. let h : ((n == number_of a.attached disk) ≡ true) × ((s == sector) ≡ true) = is refl in
          here (eqb-true n (number_of a.attached disk) h.0) (eqb-true s sector h.1)
      | false ↦ λ is not. elsewhere (λ e f.
          let h : ((n == number_of a.attached disk) && (s == sector)) ≡ false = not refl in
          let j : (n == number_of a.attached disk) ≡ true = eq-eqb n (number_of a.attached disk) e in
          let k : (s == sector) ≡ true = eq-eqb s sector f in
          let no : true ≡ false = rw (j, k) at h in
          cc)
    ] (both (n == number_of a.attached disk) (s == sector)) (λ e. e))

-- a call that isn't a write writes nothing
pub quiet_unless : (call : Call) → ((disk sector : ℕ) (value : List ℕ) → call ≡ Write disk sector value → ⊥) → value_of call ≡ None
quiet_unless Quiet other = refl
quiet_unless (Write disk sector value) other = absurd (other disk sector value refl)
quiet_unless (Sync disk) other = refl

-- the disk of a write on the first disks is one of them
pub write_below : (disk sector : ℕ) (value : List ℕ) (disks : ℕ) → IsOn (Write disk sector value) disks → disk < disks
write_below disk sector value disks on =
    elim (cases_lt disk disks) [
      | inl below ↦ below
      | inr from ↦
          let one : (disk == disk) ≡ true = eq-eqb disk disk refl in
          let other : (disk == disk) ≡ false = on disk from in
          cc
    ]

-- what a table holds after a value was put in
pub set_puts : (table after : SectorTable Sector) (n sector : ℕ) (value : Sector)
    → ((m s : ℕ) → value_at after m s ≡ (if (m == n) && (s == sector) then Some value else value_at table m s))
    → Puts (stored table) n sector value.bytes (stored after)
set_puts table after n sector value set m s =
    rw (set m s)
    (elim ((m == n) && (s == sector)) as
    (λ test. option_map_or (λ (b : Sector). b.bytes) (if test then Some value else value_at table m s) zeros ≡ (if test then value.bytes else stored table m s)) [
      | true ↦ refl
      | false ↦ refl
    ])

differs : (a b : ℕ) → (a ≡ b → ⊥) → (a == b) ≡ false
differs a b apart = grind (arith, nat_tests)

-- a disk that isn't attached isn't written
pub others_write : (a : Memory) (contents after : ℕ → ℕ → List ℕ) (disk sector : ℕ) (value : List ℕ) → disk < length a.attached
    → Puts contents (number_of a.attached disk) sector value after → KeepsOthers a contents → KeepsOthers a after
others_write a contents after disk sector value known puts kept n s apart =
    let not_it : (n == number_of a.attached disk) ≡ false = differs n (number_of a.attached disk) (λ e. apart disk known (sym e)) in
    puts n s ∙ rw not_it (kept n s apart)

-- a shelf of small disks, by its elements
pub all_small : (shelf : List DiskSpec) (limit : ℕ) → ((n : ℕ) → sectors_of shelf n < limit) → All (λ disk. disk.sectors < limit) shelf
all_small shelf limit small k d within =
    subst (λ o. option_map_or (λ (disk : DiskSpec). disk.sectors) o 0 < limit) (slice_get-get_or shelf k d within) (small k)

-- a new bay over the contents that were taken
pub image_of : (a fresh b : Memory) (moment : ℕ) (pick : Pick) (contents : ℕ → ℕ → List ℕ) → IsNew fresh a.shelf [] a.room
    → Takes a moment pick contents → KeepsOthers a contents → b ≡ record fresh { contents = contents } → IsImage a moment pick b
image_of a fresh b moment pick contents new taken others is =
    subst (IsImage a moment pick) (sym is) (record {
      shelf = new.shelf_is;
      attached = new.attached;
      calls = new.calls;
      failing = new.failing_are;
      room = new.room_is;
      faults = new.faults;
      taken = taken;
      others = others;
      left = image_is_left a moment pick contents taken;
    })
