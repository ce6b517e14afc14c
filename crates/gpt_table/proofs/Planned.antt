-- The sectors of one copy, written one after the other.
use Rattle.std.proofs.Common.{◌≡◌, ℕ, ◌+◌, ◌-◌, ◌*◌, ◌<◌, ◌≤◌, ◌⊎◌, ◌==◌, ◌&&◌, nat_le, nat_lt, true, false, List, Some, Result, Ok, Err, OnOk, refl, sym, ap, subst, subst₂, ◌∙◌, inl, inr, ⊎_elim, arith, eqb-true, zero, suc, ◌++◌, length, length-drop, take, drop, replicate, Option, None, unwrap_or, add-one, take-add, take_all}
use Rattle.gpt_table.specs.declared.Table.{Table}
use Rattle.gpt_table.specs.declared.TableCopy.{TableCopy}
use Rattle.gpt_table.specs.declared.TableCopy.TheVariants.{Primary, Backup}
use Rattle.gpt_table.specs.Format.{header_sector, entries_sector, IsWritten}
use Rattle.gpt_table.specs.Disk.{Contents, IsOfCopy, HoldsCopy, joined, entries_bytes}
use Rattle.gpt_table.proofs.Joined.{joined_more}
use Rattle.std.proofs.lemmas.Bool.{cases_Bool, cases_lt, cases_eq, and_parts, and_from, and_right, cond-true, cond-false, eq-eqb, ne_eqb, le-leb, lt-ltb, leb-true, ltb-true}
use Rattle.std.proofs.lemmas.List.{length-take-le}
use Rattle.std.proofs.lemmas.Option.{cond_some, same_Some}
use Rattle.rack.specs.declared.Gone.{Gone}
use Rattle.rack.specs.Values.{IsSector, Values, append}
use Rattle.rack.specs.Seen.{RackView, IsLive, SameRack}
use Rattle.rack.specs.Calls.{Writes, Syncs}
use Rattle.rack.specs.Joins.{live_first, live_second, rose_later}
use Rattle.shr_base.specs.Blocks.{bytes_at}
use Rattle.rack.specs.Sequences.{WritesDurably}
use Rattle.rack.proofs.Writing.{only_quiet, only_written, only_refused, only_weaker, only_then}
use Rattle.rack.proofs.Durably.{durable_only}
use Rattle.gpt_table.specs.Calls.{Plan, IsPlanned, Follows}
use Rattle.gpt_table.specs.Plans.{IsInCopy, sector_plan, entries_plan, copy_plan, WritesPlan, WritesSectors}

-- what is planned for the entries
pub entries_planned : (first : ℕ) (bytes : List ℕ) (k : ℕ) → k < 32 → entries_plan first bytes (first + k) ≡ Some (bytes_at (512 * k) 512 bytes)
entries_planned first bytes k inside =
    let among : (nat_le first (first + k) && nat_lt (first + k) (first + 32)) ≡ true =
    and_from _ _ (le-leb first (first + k) (omega arith)) (lt-ltb (first + k) (first + 32) (omega arith)) in
    let place : (first + k) - first ≡ k = omega arith in
    rw (among, place)

-- nothing else is
pub entries_cases : (first : ℕ) (bytes : List ℕ) (s : ℕ) (v : List ℕ) → entries_plan first bytes s ≡ Some v →
    (first ≤ s) × (s < first + 32) × (bytes_at (512 * (s - first)) 512 bytes ≡ v)
entries_cases first bytes s v planned =
    let rest = cond_some (nat_le first s && nat_lt s (first + 32)) (bytes_at (512 * (s - first)) 512 bytes) v planned in
    let both = and_parts (nat_le first s) (nat_lt s (first + 32)) rest.0 in
    (leb-true first s both.0, ltb-true s (first + 32) both.1, rest.1)

-- what is planned for one sector
pub sector_planned : (own : ℕ) (value : List ℕ) → sector_plan own value own ≡ Some value
sector_planned own value = let same : (own == own) ≡ true = eq-eqb own own refl in rw same

pub sector_cases : (own : ℕ) (value : List ℕ) (s : ℕ) (v : List ℕ) → sector_plan own value s ≡ Some v → (s ≡ own) × (value ≡ v)
sector_cases own value s v planned =
    let both = cond_some (s == own) value v planned in (eqb-true s own both.0, both.1)

-- in a copy the header stands in its sector
pub plan_own : (own : ℕ) (header : List ℕ) (first : ℕ) (bytes : List ℕ) → copy_plan own header first bytes own ≡ Some header
plan_own own header first bytes = let same : (own == own) ≡ true = eq-eqb own own refl in rw same

-- elsewhere the entries stand
plan_elsewhere : (own : ℕ) (header : List ℕ) (first : ℕ) (bytes : List ℕ) (s : ℕ) → (s ≡ own → ⊥) →
    copy_plan own header first bytes s ≡ entries_plan first bytes s
plan_elsewhere own header first bytes s other = cond-false (s == own) (Some header) (entries_plan first bytes s) (ne_eqb s own other)

entries_apart : (own first s : ℕ) → (own < first) ⊎ (first + 32 ≤ own) → first ≤ s → s < first + 32 → s ≡ own → ⊥
entries_apart own first s apart low high same = ⊎_elim (λ (l : own < first). omega arith) (λ (l : first + 32 ≤ own). omega arith) apart

pub plan_entry : (own : ℕ) (header : List ℕ) (first : ℕ) (bytes : List ℕ) (k : ℕ) → (own < first) ⊎ (first + 32 ≤ own) → k < 32 →
    copy_plan own header first bytes (first + k) ≡ Some (bytes_at (512 * k) 512 bytes)
plan_entry own header first bytes k apart inside =
    plan_elsewhere own header first bytes (first + k) (entries_apart own first (first + k) apart (omega arith) (omega arith))
    ∙ entries_planned first bytes k inside

-- nothing else is
pub plan_cases : (own : ℕ) (header : List ℕ) (first : ℕ) (bytes : List ℕ) (s : ℕ) (v : List ℕ) → copy_plan own header first bytes s ≡ Some v →
    ((s ≡ own) × (header ≡ v)) ⊎ ((first ≤ s) × (s < first + 32) × (bytes_at (512 * (s - first)) 512 bytes ≡ v))
plan_cases own header first bytes s v planned =
    ⊎_elim
    (λ (here : (s == own) ≡ true).
    inl (eqb-true s own here, same_Some header v (sym (cond-true (s == own) (Some header) _ here) ∙ planned)))
    (λ (there : (s == own) ≡ false).
    inr (entries_cases first bytes s v (sym (cond-false (s == own) (Some header) _ there) ∙ planned)))
    (cases_Bool (s == own))

-- writes of entries follow the plan of their copy
pub entries_wider : (a b : RackView) (disk own first : ℕ) (header bytes : List ℕ) → (own < first) ⊎ (first + 32 ≤ own) →
    Follows a b disk (entries_plan first bytes) → Follows a b disk (copy_plan own header first bytes)
entries_wider a b disk own first header bytes apart follows =
    only_weaker (IsPlanned disk (entries_plan first bytes)) (IsPlanned disk (copy_plan own header first bytes))
    (λ d s v planned.
    let at = entries_cases first bytes s v planned.1 in
    (planned.0, plan_elsewhere own header first bytes s (entries_apart own first s apart at.0 at.1) ∙ planned.1))
    follows

-- a write that was served changes no other sector
pub write_keeps : (b c : RackView) (disk t : ℕ) (value : List ℕ) (s : ℕ) → Writes b c disk t value {X = Unit {0}} (Ok tt) → (s ≡ t → ⊥) → IsLive b c disk s →
    (c.held disk s).current ≡ (b.held disk s).current
write_keeps b c disk t value s wrote other live =
    let apart : ((disk == disk) && (s == t)) ≡ false = and_right (disk == disk) (s == t) (ne_eqb s t other) in
    (wrote.done disk s live).current ∙ ap (λ (h : Values). h.current) (cond-false _ (append (b.held disk s) value) (b.held disk s) apart)

-- and leaves its value
pub write_sets : (b c : RackView) (disk t : ℕ) (value : List ℕ) → Writes b c disk t value {X = Unit {0}} (Ok tt) → IsLive b c disk t →
    (c.held disk t).current ≡ value
write_sets b c disk t value wrote live =
    let here : ((disk == disk) && (t == t)) ≡ true = and_from _ _ (eq-eqb disk disk refl) (eq-eqb t t refl) in
    (wrote.done disk t live).current ∙ ap (λ (h : Values). h.current) (cond-true _ (append (b.held disk t) value) (b.held disk t) here)

-- a served write follows the plan
pub follows_served : (a b c : RackView) (disk t : ℕ) (value : List ℕ) (plan : Plan) → Follows a b disk plan → Writes b c disk t value {X = Unit {0}} (Ok tt) →
    plan t ≡ Some value → Follows a c disk plan
follows_served a b c disk t value plan first wrote planned =
    only_then (IsPlanned disk plan) first (only_written (IsPlanned disk plan) disk t value (refl, planned) wrote)

-- and so does a refused one
pub follows_refused : (a b c : RackView) (disk t : ℕ) (value : List ℕ) (plan : Plan) (gone : Gone) → Follows a b disk plan →
    Writes b c disk t value {X = Unit {0}} (Err gone) → plan t ≡ Some value → WritesSectors a c disk plan {X = Unit {0}} (Err gone)
follows_refused a b c disk t value plan gone first wrote planned = record {
  follows = only_then (IsPlanned disk plan) first (only_refused (IsPlanned disk plan) disk t value gone (refl, planned) wrote);
  written = tt;
  durable = tt;
  gone = (wrote.cause.gone.0, rose_later a b c disk first.stays wrote.cause.gone.1);
}

below_other : (k n : ℕ) → k < n + 1 → (k ≡ n → ⊥) → k < n
below_other k n inside other = ⊎_elim (λ (l : k < n). l) (λ (l : n ≤ k). absurd (other (omega arith))) (cases_lt k n)

-- the entries up to one, one further
pub one_more : (a b c : RackView) (disk first place : ℕ) (bytes value : List ℕ) → SameRack a b →
    Writes b c disk (first + place) value {X = Unit {0}} (Ok tt) → value ≡ bytes_at (512 * place) 512 bytes →
    ((k : ℕ) → k < place → IsLive a b disk (first + k) → (b.held disk (first + k)).current ≡ bytes_at (512 * k) 512 bytes) →
    (k : ℕ) → k < place + 1 → IsLive a c disk (first + k) → (c.held disk (first + k)).current ≡ bytes_at (512 * k) 512 bytes
one_more a b c disk first place bytes value stays wrote is before k inside live =
    ⊎_elim
    (λ (here : k ≡ place).
    subst (λ (n : ℕ). IsLive a c disk (first + n) → (c.held disk (first + n)).current ≡ bytes_at (512 * n) 512 bytes) (sym here)
    (λ at. write_sets b c disk (first + place) value wrote (live_second stays at) ∙ is) live)
    (λ (other : k ≡ place → ⊥).
    write_keeps b c disk (first + place) value (first + k) wrote (λ e. other (omega arith)) (live_second stays live)
    ∙ before k (below_other k place inside other) (live_first wrote.stays live))
    (cases_eq k place)

-- a refused write of a plan
pub plan_refused : (a b c : RackView) (disk t : ℕ) (value : List ℕ) (plan : Plan) (gone : Gone) → Follows a b disk plan →
    Writes b c disk t value {X = Unit {0}} (Err gone) → plan t ≡ Some value → WritesPlan a c disk plan {X = Unit {0}} (Err gone)
plan_refused a b c disk t value plan gone first wrote planned =
    let refused = follows_refused a b c disk t value plan gone first wrote planned in
    record { follows = refused.follows; written = tt; gone = refused.gone }

-- entries that were refused
pub entries_refused : (a b : RackView) (disk own first : ℕ) (header bytes : List ℕ) (gone : Gone) → (own < first) ⊎ (first + 32 ≤ own) →
    WritesPlan a b disk (entries_plan first bytes) {X = Unit {0}} (Err gone) →
    WritesSectors a b disk (copy_plan own header first bytes) {X = Unit {0}} (Err gone)
entries_refused a b disk own first header bytes gone apart wrote = record {
  follows = entries_wider a b disk own first header bytes apart wrote.follows;
  written = tt;
  durable = tt;
  gone = wrote.gone;
}

-- all entries were written
pub entries_written : (a b : RackView) (disk first : ℕ) (bytes : List ℕ) → Follows a b disk (entries_plan first bytes) →
    ((k : ℕ) → k < 32 → IsLive a b disk (first + k) → (b.held disk (first + k)).current ≡ bytes_at (512 * k) 512 bytes) →
    WritesPlan a b disk (entries_plan first bytes) {X = Unit {0}} (Ok tt)
entries_written a b disk first bytes follows each = record {
  follows = follows;
  written = λ s v planned live.
      let at = entries_cases first bytes s v planned in
      let is : first + (s - first) ≡ s = omega (arith, at.0) in
      subst (λ (t : ℕ). IsLive a b disk t → (b.held disk t).current ≡ bytes_at (512 * (s - first)) 512 bytes) is
      (each (s - first) (omega (arith, at.0, at.1))) live
      ∙ at.2;
  gone = tt;
}

written_there : (a b : RackView) (disk t : ℕ) (value : List ℕ) (r : Result (Unit {0}) Gone) → WritesDurably a b disk t value r →
    OnOk r ((s : ℕ) (v : List ℕ) → sector_plan t value s ≡ Some v → IsLive a b disk s → (b.held disk s).current ≡ v)
written_there a b disk t value (Err e) wrote = tt
written_there a b disk t value (Ok done) wrote = λ s v planned live.
    let at = sector_cases t value s v planned in
    subst (λ (u : ℕ). IsLive a b disk u → (b.held disk u).current ≡ value) (sym at.0)
    (λ here. wrote.durable here (b.held disk t).current (inl refl)) live
    ∙ at.1

-- one sector was written and made durable, or refused
pub sector_durable : (a b : RackView) (disk t : ℕ) (value : List ℕ) (r : Result (Unit {0}) Gone) → WritesDurably a b disk t value r →
    WritesSectors a b disk (sector_plan t value) r
sector_durable a b disk t value r wrote = record {
  follows = only_weaker (λ d s v. (d ≡ disk) × (s ≡ t) × (v ≡ value)) (IsPlanned disk (sector_plan t value))
      (λ d s v at. (at.0, rw (at.1, at.2) (sector_planned t value))) (durable_only r wrote);
  written = written_there a b disk t value r wrote;
  durable = wrote.synced;
  gone = wrote.gone;
}

-- a plan that was refused
pub refused_plan : (a b : RackView) (disk : ℕ) (plan : Plan) (gone : Gone) → WritesPlan a b disk plan {X = Unit {0}} (Err gone) →
    WritesSectors a b disk plan {X = Unit {0}} (Err gone)
refused_plan a b disk plan gone wrote = record { follows = wrote.follows; written = tt; durable = tt; gone = wrote.gone }

-- a plan that was written and synced is durable
pub then_synced : (a b c : RackView) (disk : ℕ) (plan : Plan) → WritesPlan a b disk plan {X = Unit {0}} (Ok tt) →
    Syncs b c disk {X = Unit {0}} (Ok tt) → WritesSectors a c disk plan {X = Unit {0}} (Ok tt)
then_synced a b c disk plan wrote synced = record {
  follows = only_then (IsPlanned disk plan) wrote.follows (only_quiet (IsPlanned disk plan) synced.stays synced.keeps);
  written = λ s v planned live.
      (synced.keeps.held disk s (live_second wrote.follows.stays live)).current ∙ wrote.written s v planned (live_first synced.stays live);
  durable = λ s live v may. synced.done s v (live_second wrote.follows.stays live) may;
  gone = tt;
}

-- the sync was refused
pub then_refused : (a b c : RackView) (disk : ℕ) (plan : Plan) (gone : Gone) → WritesPlan a b disk plan {X = Unit {0}} (Ok tt) →
    Syncs b c disk {X = Unit {0}} (Err gone) → WritesSectors a c disk plan {X = Unit {0}} (Err gone)
then_refused a b c disk plan gone wrote synced = record {
  follows = only_then (IsPlanned disk plan) wrote.follows (only_quiet (IsPlanned disk plan) synced.stays synced.keeps);
  written = tt;
  durable = tt;
  gone = (synced.gone.0, rose_later a b c disk wrote.follows.stays synced.gone.1);
}

-- all sectors and a sync
pub all_written : (a b c d : RackView) (disk own first : ℕ) (header bytes : List ℕ) → (own < first) ⊎ (first + 32 ≤ own) →
    Follows a b disk (copy_plan own header first bytes) →
    ((k : ℕ) → k < 32 → IsLive a b disk (first + k) → (b.held disk (first + k)).current ≡ bytes_at (512 * k) 512 bytes) →
    Writes b c disk own header {X = Unit {0}} (Ok tt) → Syncs c d disk {X = Unit {0}} (Ok tt) →
    WritesSectors a d disk (copy_plan own header first bytes) {X = Unit {0}} (Ok tt)
all_written a b c d disk own first header bytes apart follows entries wrote synced =
    let plan : Plan = copy_plan own header first bytes in
    let one : Follows a c disk plan = follows_served a b c disk own header plan follows wrote (plan_own own header first bytes) in
    let after_sync : (s : ℕ) → IsLive a d disk s → (d.held disk s).current ≡ (c.held disk s).current =
    λ s live. (synced.keeps.held disk s (live_second one.stays live)).current in
    record {
      follows = only_then (IsPlanned disk plan) one (only_quiet (IsPlanned disk plan) synced.stays synced.keeps);
      written = λ s v planned live.
          ⊎_elim
          (λ (here : (s ≡ own) × (header ≡ v)).
          after_sync s live
          ∙ subst (λ (t : ℕ). IsLive a d disk t → (c.held disk t).current ≡ header) (sym here.0)
          (λ at. write_sets b c disk own header wrote (live_second follows.stays (live_first synced.stays at))) live
          ∙ here.1)
          (λ (there : (first ≤ s) × (s < first + 32) × (bytes_at (512 * (s - first)) 512 bytes ≡ v)).
          let is : first + (s - first) ≡ s = omega (arith, there.0) in
          let read : (b.held disk s).current ≡ bytes_at (512 * (s - first)) 512 bytes =
          subst (λ (t : ℕ). IsLive a b disk t → (b.held disk t).current ≡ bytes_at (512 * (s - first)) 512 bytes) is
          (entries (s - first) (omega (arith, there.0, there.1))) (live_first wrote.stays (live_first synced.stays live)) in
          after_sync s live
          ∙ write_keeps b c disk own header s wrote (λ e. ⊎_elim (λ (l : own < first). omega (arith, there.0)) (λ (l : first + 32 ≤ own). omega (arith, there.1)) apart)
          (live_second follows.stays (live_first synced.stays live))
          ∙ read ∙ there.2)
          (plan_cases own header first bytes s v planned);
      durable = λ s live v may. synced.done s v (live_second one.stays live) may;
      gone = tt;
    }

-- a refused sync
pub sync_refused : (a b c d : RackView) (disk own first : ℕ) (header bytes : List ℕ) (gone : Gone) →
    Follows a b disk (copy_plan own header first bytes) →
    Writes b c disk own header {X = Unit {0}} (Ok tt) → Syncs c d disk {X = Unit {0}} (Err gone) →
    WritesSectors a d disk (copy_plan own header first bytes) {X = Unit {0}} (Err gone)
sync_refused a b c d disk own first header bytes gone follows wrote synced =
    let plan : Plan = copy_plan own header first bytes in
    let one : Follows a c disk plan = follows_served a b c disk own header plan follows wrote (plan_own own header first bytes) in
    record {
      follows = only_then (IsPlanned disk plan) one (only_quiet (IsPlanned disk plan) synced.stays synced.keeps);
      written = tt;
      durable = tt;
      gone = (synced.gone.0, rose_later a c d disk one.stays synced.gone.1);
    }

-- sectors that hold the pieces of some bytes hold these bytes
pieces_join : (d : Contents) (first : ℕ) (bytes : List ℕ) (n : ℕ) → ((k : ℕ) → k < n → d (first + k) ≡ bytes_at (512 * k) 512 bytes) →
    joined d first n ≡ take (512 * n) bytes
unfolding bytes_at
pieces_join d first bytes zero each = refl
pieces_join d first bytes (suc n) each =
    let size : 512 * suc n ≡ 512 * n + 512 = omega arith in
    ap (joined d first) (sym (add-one n)) ∙ joined_more d first n
    ∙ ap (λ (front : List ℕ). front ++ d (first + n)) (pieces_join d first bytes n (λ k below. each k (omega arith)))
    ∙ ap (λ (last : List ℕ). take (512 * n) bytes ++ last) (each n (omega arith))
    ∙ sym (take-add (512 * n) 512 bytes) ∙ ap (λ (m : ℕ). take m bytes) (sym size)

-- the header of a copy lies apart from its entries
pub parts_apart : (copy : TableCopy) (sectors : ℕ) → 67 ≤ sectors →
    (header_sector copy sectors < entries_sector copy sectors) ⊎ (entries_sector copy sectors + 32 ≤ header_sector copy sectors)
parts_apart Primary sectors room = inl (omega arith)
parts_apart Backup sectors room = inr (omega arith)

-- where a copy's planned values stand, the copy is the one that is written
pub plan_holds : (copy : TableCopy) (table : Table) (header bytes : List ℕ) (contents : Contents) → 67 ≤ table.sectors → length bytes ≡ 16384 →
    IsWritten copy table header bytes →
    ((s : ℕ) (v : List ℕ) → copy_plan (header_sector copy table.sectors) header (entries_sector copy table.sectors) bytes s ≡ Some v → contents s ≡ v) →
    HoldsCopy copy table contents
unfolding entries_bytes
plan_holds copy table header bytes contents room long written holds =
    let sectors = table.sectors in
    let own = header_sector copy sectors in
    let first = entries_sector copy sectors in
    let start : contents own ≡ header = holds own header (plan_own own header first bytes) in
    let rest : joined contents first 32 ≡ bytes =
    pieces_join contents first bytes 32
    (λ k below. holds (first + k) (bytes_at (512 * k) 512 bytes) (plan_entry own header first bytes k (parts_apart copy sectors room) below))
    ∙ take_all 16384 bytes (omega arith) in
    subst₂ (IsWritten copy table) (sym start) (sym rest) written

-- only the sectors of the copy are planned
pub plan_within : (copy : TableCopy) (sectors : ℕ) (header bytes : List ℕ) (s : ℕ) (v : List ℕ) →
    copy_plan (header_sector copy sectors) header (entries_sector copy sectors) bytes s ≡ Some v → IsOfCopy copy sectors s
plan_within copy sectors header bytes s v planned =
    ⊎_elim (λ (here : (s ≡ header_sector copy sectors) × (header ≡ v)). inl here.0)
    (λ (there : (entries_sector copy sectors ≤ s) × (s < entries_sector copy sectors + 32) × (bytes_at (512 * (s - entries_sector copy sectors)) 512 bytes ≡ v)). inr (there.0, there.1))
    (plan_cases (header_sector copy sectors) header (entries_sector copy sectors) bytes s v planned)

sector_of : (offset : ℕ) (bytes : List ℕ) → offset + 512 ≤ length bytes → IsSector (bytes_at offset 512 bytes)
unfolding bytes_at
sector_of offset bytes within = length-take-le 512 (drop offset bytes) (omega (arith, length-drop offset bytes))

-- each planned value is a sector
pub plan_sized : (copy : TableCopy) (sectors : ℕ) (header bytes : List ℕ) → length header ≡ 512 → length bytes ≡ 16384 → (s : ℕ) (v : List ℕ)
    → copy_plan (header_sector copy sectors) header (entries_sector copy sectors) bytes s ≡ Some v → IsSector v
plan_sized copy sectors header bytes own all s v planned =
    let first = entries_sector copy sectors in
    ⊎_elim (λ (here : (s ≡ header_sector copy sectors) × (header ≡ v)). subst IsSector here.1 own)
    (λ (there : (first ≤ s) × (s < first + 32) × (bytes_at (512 * (s - first)) 512 bytes ≡ v)). subst IsSector there.2 (sector_of (512 * (s - first)) bytes (omega (arith, there.0, there.1, all))))
    (plan_cases (header_sector copy sectors) header first bytes s v planned)

sized_or : (planned : Option (List ℕ)) (blank : List ℕ) → IsSector blank → ((v : List ℕ) → planned ≡ Some v → IsSector v) → IsSector (unwrap_or planned blank)
sized_or None blank sized each = sized
sized_or (Some v) blank sized each = each v refl

-- a value that is planned of a copy is what its sector holds on a disk of whole sectors with all of them
pub in_copy : (copy : TableCopy) (table : Table) (plan : Plan) → ((s : ℕ) (v : List ℕ) → plan s ≡ Some v → IsOfCopy copy table.sectors s)
    → ((s : ℕ) (v : List ℕ) → plan s ≡ Some v → IsSector v)
    → ((contents : Contents) → ((s : ℕ) (v : List ℕ) → plan s ≡ Some v → contents s ≡ v) → HoldsCopy copy table contents) → (s : ℕ) (v : List ℕ)
    → plan s ≡ Some v → IsInCopy copy table s v
in_copy copy table plan within sized says s v is =
    let blank : List ℕ = replicate 512 0 in
    let all : Contents = λ k. unwrap_or (plan k) blank in
    record {
      within = within s v is;
      disk = all;
      sized = λ k. sized_or (plan k) blank refl (sized k);
      holds = says all (λ k w at. ap (λ o. unwrap_or o blank) at);
      here = ap (λ o. unwrap_or o blank) is;
    }

-- so it is what its sector holds in the copy that is written of a table
pub planned_copy : (copy : TableCopy) (table : Table) (header bytes : List ℕ) → 67 ≤ table.sectors → length header ≡ 512 → length bytes ≡ 16384
    → IsWritten copy table header bytes → (s : ℕ) (v : List ℕ)
    → copy_plan (header_sector copy table.sectors) header (entries_sector copy table.sectors) bytes s ≡ Some v → IsInCopy copy table s v
planned_copy copy table header bytes room own all written s v planned =
    let plan : Plan = copy_plan (header_sector copy table.sectors) header (entries_sector copy table.sectors) bytes in
    in_copy copy table plan (plan_within copy table.sectors header bytes) (plan_sized copy table.sectors header bytes own all)
    (λ contents holds. plan_holds copy table header bytes contents room all written holds) s v planned
