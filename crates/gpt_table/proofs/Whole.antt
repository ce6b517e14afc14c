-- A whole table: the backup, the protective MBR, the primary.
use Rattle.std.proofs.Common.{◌≡◌, ℕ, ◌-◌, ◌<◌, ◌≤◌, ◌⊎◌, ◌==◌, false, cond, Bool, List, Option, Some, None, Result, Ok, Err, refl, sym, ap, subst, ◌∙◌, inl, inr, ⊎_elim, arith, eqb-true}
use Rattle.std.proofs.lemmas.Bool.{cases_Bool, cond-false, ne_eqb}
use Rattle.std.proofs.lemmas.Option.{none-some}
use Rattle.rack.specs.declared.Gone.{Gone}
use Rattle.rack.specs.Seen.{RackView, IsLive, SameRack}
use Rattle.rack.specs.Calls.{Writes}
use Rattle.rack.specs.Joins.{live_first, live_second, stays_then, rose_later}
use Rattle.gpt_table.specs.declared.Table.{Table}
use Rattle.gpt_table.specs.declared.TableCopy.{TableCopy}
use Rattle.gpt_table.specs.declared.TableCopy.TheVariants.{Primary, Backup}
use Rattle.gpt_table.specs.Format.{mbr_of}
use Rattle.gpt_table.specs.Disk.{IsOfCopy, IsAmong, HoldsCopy, now_on}
use Rattle.gpt_table.specs.Calls.{Plan, IsPlanned, Follows}
use Rattle.gpt_table.specs.Plans.{IsInCopy, IsInTable, IsOfTable, WritesCopy, WritesTable}
use Rattle.gpt_table.proofs.Copies.{copy_is_on_disk}
use Rattle.rack.proofs.Writing.{only_weaker, only_then}
use Rattle.gpt_table.proofs.Planned.{in_copy, write_keeps, write_sets, follows_served, follows_refused}

some_same : {X : Type 0} (a b : X) → Some a ≡ Some b → a ≡ b
some_same a b same = cc

-- one value, or else another
abbrev pub or_else : Option (List ℕ) → Option (List ℕ) → Option (List ℕ)
or_else None other = other
or_else (Some v) other = Some v

-- the plan of all three
abbrev pub whole_plan : List ℕ → Plan → Plan → Plan
whole_plan mbr backup primary s = cond (s == 0) (Some mbr) (or_else (backup s) (primary s))

or_else_cases : (o p : Option (List ℕ)) (v : List ℕ) → or_else o p ≡ Some v → (o ≡ Some v) ⊎ (p ≡ Some v)
or_else_cases None p v is = inr is
or_else_cases (Some w) p v is = inl is

or_else_left : (o p : Option (List ℕ)) (v : List ℕ) → o ≡ Some v → or_else o p ≡ Some v
or_else_left None p v is = absurd (none-some v is)
or_else_left (Some w) p v is = is

or_else_right : (o p : Option (List ℕ)) (v : List ℕ) → ((w : List ℕ) → o ≡ Some w → ⊥) → p ≡ Some v → or_else o p ≡ Some v
or_else_right None p v none is = is
or_else_right (Some w) p v none is = absurd (none w refl)

-- where the copies lie
above_start : (copy : TableCopy) (sectors s : ℕ) → 67 ≤ sectors → IsOfCopy copy sectors s → s ≡ 0 → ⊥
above_start Primary sectors s room of zero_is =
    ⊎_elim (λ (e : s ≡ 1). omega arith) (λ (h : IsAmong 2 32 s). omega (arith, h.0)) of
above_start Backup sectors s room of zero_is =
    ⊎_elim (λ (e : s ≡ sectors - 1). omega arith) (λ (h : IsAmong (sectors - 33) 32 s). omega (arith, h.0)) of

pub copies_apart : (sectors s : ℕ) → 67 ≤ sectors → IsOfCopy Primary sectors s → IsOfCopy Backup sectors s → ⊥
copies_apart sectors s room primary backup =
    let low : s < 34 = ⊎_elim (λ (e : s ≡ 1). omega arith) (λ (h : IsAmong 2 32 s). omega (arith, h.1)) primary in
    ⊎_elim (λ (e : s ≡ sectors - 1). omega arith) (λ (h : IsAmong (sectors - 33) 32 s). omega (arith, h.0)) backup

-- plans for the two copies, each inside its sectors
pub record Parts (sectors : ℕ) (backup primary : Plan) : Type 0 where
  pub room : 67 ≤ sectors
  pub backup_within : (s : ℕ) (v : List ℕ) → backup s ≡ Some v → IsOfCopy Backup sectors s
  pub primary_within : (s : ℕ) (v : List ℕ) → primary s ≡ Some v → IsOfCopy Primary sectors s

whole_at_zero : (mbr : List ℕ) (backup primary : Plan) → whole_plan mbr backup primary 0 ≡ Some mbr
whole_at_zero mbr backup primary = refl

whole_elsewhere : (mbr : List ℕ) (backup primary : Plan) (s : ℕ) → (s ≡ 0 → ⊥) → whole_plan mbr backup primary s ≡ or_else (backup s) (primary s)
whole_elsewhere mbr backup primary s other =
    cond-false (s == 0) (Some mbr) (or_else (backup s) (primary s)) (ne_eqb s 0 other)

backup_is_part : (sectors : ℕ) (mbr : List ℕ) (backup primary : Plan) (parts : Parts sectors backup primary) (s : ℕ) (v : List ℕ) →
    backup s ≡ Some v → whole_plan mbr backup primary s ≡ Some v
backup_is_part sectors mbr backup primary parts s v is =
    whole_elsewhere mbr backup primary s (above_start Backup sectors s parts.room (parts.backup_within s v is))
    ∙ or_else_left (backup s) (primary s) v is

primary_is_part : (sectors : ℕ) (mbr : List ℕ) (backup primary : Plan) (parts : Parts sectors backup primary) (s : ℕ) (v : List ℕ) →
    primary s ≡ Some v → whole_plan mbr backup primary s ≡ Some v
primary_is_part sectors mbr backup primary parts s v is =
    whole_elsewhere mbr backup primary s (above_start Primary sectors s parts.room (parts.primary_within s v is))
    ∙ or_else_right (backup s) (primary s) v
    (λ w both. copies_apart sectors s parts.room (parts.primary_within s v is) (parts.backup_within s w both)) is

-- a value that is planned of a copy is what its sector holds on a disk with all of them
planned_in : (a b : RackView) (disk : ℕ) (copy : TableCopy) (table : Table) (r : Result (Unit {0}) Gone) (writes : WritesCopy a b disk copy table r) (s : ℕ) (v : List ℕ)
    → writes.plan s ≡ Some v → IsInCopy copy table s v
planned_in a b disk copy table r writes s v is = in_copy copy table writes.plan writes.within writes.sized writes.says s v is

-- so it is of the whole plan
pub whole_within : (table : Table) (mbr : List ℕ) (backup primary : Plan) → mbr ≡ mbr_of table.sectors → ((s : ℕ) (v : List ℕ) → backup s ≡ Some v → IsInCopy Backup table s v)
    → ((s : ℕ) (v : List ℕ) → primary s ≡ Some v → IsInCopy Primary table s v) → (s : ℕ) (v : List ℕ) → whole_plan mbr backup primary s ≡ Some v → IsInTable table s v
whole_within table mbr backup primary first second third s v is = elim (cases_Bool (s == 0)) [
  | inl here ↦ inl (eqb-true s 0 here, some_same v mbr (sym is ∙ ap (λ (c : Bool). cond c (Some mbr) (or_else (backup s) (primary s))) here) ∙ first)
  | inr there ↦ elim (or_else_cases (backup s) (primary s) v (sym (cond-false (s == 0) (Some mbr) (or_else (backup s) (primary s)) there) ∙ is)) [
    | inl b ↦ inr (inr (second s v b))
    | inr p ↦ inr (inl (third s v p))
  ]
]

-- the backup was refused
pub whole_gone_first : (a b : RackView) (disk : ℕ) (table : Table) (gone : Gone) → WritesCopy a b disk Backup table {X = Unit {0}} (Err gone) →
    WritesTable a b disk table {X = Unit {0}} (Err gone)
whole_gone_first a b disk table gone first = record {
  plan = first.plan;
  within = λ s v planned. inr (inr (planned_in a b disk Backup table (Err gone) first s v planned));
  follows = first.writes.follows;
  both = tt;
  mbr = tt;
  durable = tt;
  gone = first.writes.gone;
}

-- the backup and the MBR
begun : (a m n : RackView) (disk : ℕ) (table : Table) (mbr : List ℕ) (primary : Plan) →
    (first : WritesCopy a m disk Backup table {X = Unit {0}} (Ok tt)) → Parts table.sectors first.plan primary →
    Follows a m disk (whole_plan mbr first.plan primary)
begun a m n disk table mbr primary first parts =
    only_weaker (IsPlanned disk first.plan) (IsPlanned disk (whole_plan mbr first.plan primary))
    (λ d s v planned. (planned.0, backup_is_part table.sectors mbr first.plan primary parts s v planned.1)) first.writes.follows

-- the MBR was refused
pub whole_gone_second : (a m n : RackView) (disk : ℕ) (table : Table) (mbr : List ℕ) (gone : Gone) → 67 ≤ table.sectors → mbr ≡ mbr_of table.sectors →
    WritesCopy a m disk Backup table {X = Unit {0}} (Ok tt) → Writes m n disk 0 mbr {X = Unit {0}} (Err gone) →
    WritesTable a n disk table {X = Unit {0}} (Err gone)
whole_gone_second a m n disk table mbr gone room is first second =
    let none : Plan = λ s. None in
    let parts : Parts table.sectors first.plan none = record {
      room = room;
      backup_within = first.within;
      primary_within = λ s v is. absurd (none-some v is);
    } in
    let refused = follows_refused a m n disk 0 mbr (whole_plan mbr first.plan none) gone (begun a m n disk table mbr none first parts) second (whole_at_zero mbr first.plan none) in
    record {
      plan = whole_plan mbr first.plan none;
      within = whole_within table mbr first.plan none is (planned_in a m disk Backup table (Ok tt) first) (λ s v planned. absurd (none-some v planned));
      follows = refused.follows;
      both = tt;
      mbr = tt;
      durable = tt;
      gone = refused.gone;
    }

-- all three, as far as they follow the plan
all_follow : (a m n b : RackView) (disk : ℕ) (table : Table) (mbr : List ℕ) (primary : Plan) →
    (first : WritesCopy a m disk Backup table {X = Unit {0}} (Ok tt)) → Parts table.sectors first.plan primary →
    Writes m n disk 0 mbr {X = Unit {0}} (Ok tt) → Follows n b disk primary → Follows a b disk (whole_plan mbr first.plan primary)
all_follow a m n b disk table mbr primary first parts second third =
    let plan : Plan = whole_plan mbr first.plan primary in
    only_then (IsPlanned disk plan)
    (follows_served a m n disk 0 mbr plan (begun a m n disk table mbr primary first parts) second (whole_at_zero mbr first.plan primary))
    (only_weaker (IsPlanned disk primary) (IsPlanned disk plan)
    (λ d s v planned. (planned.0, primary_is_part table.sectors mbr first.plan primary parts s v planned.1)) third)

-- the primary was refused
pub whole_gone_third : (a m n b : RackView) (disk : ℕ) (table : Table) (mbr : List ℕ) (gone : Gone) → 67 ≤ table.sectors → mbr ≡ mbr_of table.sectors →
    WritesCopy a m disk Backup table {X = Unit {0}} (Ok tt) → Writes m n disk 0 mbr {X = Unit {0}} (Ok tt) →
    WritesCopy n b disk Primary table {X = Unit {0}} (Err gone) → WritesTable a b disk table {X = Unit {0}} (Err gone)
whole_gone_third a m n b disk table mbr gone room is first second third =
    let parts : Parts table.sectors first.plan third.plan = record { room = room; backup_within = first.within; primary_within = third.within } in
    record {
      plan = whole_plan mbr first.plan third.plan;
      within = whole_within table mbr first.plan third.plan is (planned_in a m disk Backup table (Ok tt) first) (planned_in n b disk Primary table (Err gone) third);
      follows = all_follow a m n b disk table mbr third.plan first parts second third.writes.follows;
      both = tt;
      mbr = tt;
      durable = tt;
      gone = (third.writes.gone.0, rose_later a n b disk (stays_then first.writes.follows.stays second.stays) third.writes.gone.1);
    }

-- all three were served
pub whole_written : (a m n b : RackView) (disk : ℕ) (table : Table) (mbr : List ℕ) → 67 ≤ table.sectors → disk < a.disks → table.sectors ≡ a.sectors disk → mbr ≡ mbr_of table.sectors →
    WritesCopy a m disk Backup table {X = Unit {0}} (Ok tt) → Writes m n disk 0 mbr {X = Unit {0}} (Ok tt) →
    WritesCopy n b disk Primary table {X = Unit {0}} (Ok tt) → WritesTable a b disk table {X = Unit {0}} (Ok tt)
whole_written a m n b disk table mbr room has size is first second third =
    let parts : Parts table.sectors first.plan third.plan = record { room = room; backup_within = first.within; primary_within = third.within } in
    let early : SameRack a n = stays_then first.writes.follows.stays second.stays in
    record {
      plan = whole_plan mbr first.plan third.plan;
      within = whole_within table mbr first.plan third.plan is (planned_in a m disk Backup table (Ok tt) first) (planned_in n b disk Primary table (Ok tt) third);
      follows = all_follow a m n b disk table mbr third.plan first parts second third.writes.follows;
      both = λ told unspent copy. says told unspent copy;
      mbr = λ live.
          let late : IsLive n b disk 0 = live_second early live in
          (third.writes.follows.others disk 0 late (λ w of. above_start Primary table.sectors 0 room (third.within 0 w of.1) refl)).current
          ∙ write_sets m n disk 0 mbr second (live_second first.writes.follows.stays (live_first third.writes.follows.stays live)) ∙ is;
      durable = λ s live. third.writes.durable s (live_second early live);
      gone = tt;
    } where
      all : SameRack a b
      all = stays_then (stays_then first.writes.follows.stays second.stays) third.writes.follows.stays

      live_at : (copy : TableCopy) → a.told disk → ((s : ℕ) → IsOfTable table.sectors s → b.spent disk s ≡ false) → (s : ℕ) → IsOfCopy copy table.sectors s → IsLive a b disk s
      live_at Primary told unspent s of = record {
        disk = subst (λ k. disk < k) (sym all.disks) has;
        sector = subst (λ k. s < k) (size ∙ sym (all.sectors disk)) (copy_is_on_disk Primary table.sectors s room of);
        is_told = told;
        unspent = unspent s (inr (inl of));
      }
      live_at Backup told unspent s of = record {
        disk = subst (λ k. disk < k) (sym all.disks) has;
        sector = subst (λ k. s < k) (size ∙ sym (all.sectors disk)) (copy_is_on_disk Backup table.sectors s room of);
        is_told = told;
        unspent = unspent s (inr (inr of));
      }

      says : a.told disk → ((s : ℕ) → IsOfTable table.sectors s → b.spent disk s ≡ false) → (copy : TableCopy) → HoldsCopy copy table (now_on b disk)
      says told unspent Primary =
          third.says (now_on b disk)
          (λ s v planned.
          third.writes.written s v planned
          (live_second (stays_then first.writes.follows.stays second.stays) (live_at Primary told unspent s (third.within s v planned))))
      says told unspent Backup =
          first.says (now_on b disk)
          (λ s v planned.
          let of : IsOfCopy Backup table.sectors s = first.within s v planned in
          let live : IsLive a b disk s = live_at Backup told unspent s of in
          let late : IsLive n b disk s = live_second (stays_then first.writes.follows.stays second.stays) live in
          (third.writes.follows.others disk s late (λ w both. copies_apart table.sectors s room (third.within s w both.1) of)).current
          ∙ write_keeps m n disk 0 mbr s second (above_start Backup table.sectors s room of)
          (live_second first.writes.follows.stays (live_first third.writes.follows.stays live))
          ∙ first.writes.written s v planned (live_first second.stays (live_first third.writes.follows.stays live)))
