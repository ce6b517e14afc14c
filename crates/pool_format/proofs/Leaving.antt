-- What calls in a row leave on a drive stands after later ones that write elsewhere.
use Rattle.std.proofs.Common.{◌≡◌, ◌≢◌, ◌⊎◌, ℕ, ◌+◌, ◌<◌, false, List, length, slice_get, unwrap_or, Some, Result, Ok, Err, OnOk, refl, sym, ap, subst, ◌∙◌, inl, inr, arith}
use Rattle.std.proofs.lemmas.Bool.{both_ways, cases_lt}
use Rattle.rack.specs.declared.Gone.{Gone}
use Rattle.rack.specs.Values.{Values, IsSingle, Keeps}
use Rattle.rack.specs.Seen.{RackView, IsLive, SameRack}
use Rattle.rack.specs.Calls.{Syncs, Writes}
use Rattle.rack.specs.Joins.{live_first, live_second}
use Rattle.rack.specs.Sequences.{WritesDurably, WritesOnly}
use Rattle.rack.proofs.Writing.{appended_here, only_quiet}
use Rattle.gpt_table.specs.declared.Table.{Table}
use Rattle.gpt_table.specs.declared.TableCopy.{TableCopy}
use Rattle.gpt_table.specs.declared.TableCopy.TheVariants.{Primary, Backup}
use Rattle.gpt_table.specs.Disk.{Contents, HoldsCopy, IsOfCopy, entries_bytes, joined, now_on}
use Rattle.gpt_table.specs.Format.{IsWritten, entries_sector, header_sector}
use Rattle.gpt_table.specs.Plans.{IsOfTable, WritesTable}
use Rattle.gpt_table.proofs.Joined.{joined_agrees}
use Rattle.array_image.specs.Places.{data_sector, state_sector, super_sector}
use Rattle.pool_format.specs.declared.Birth.{Birth}
use Rattle.pool_format.specs.declared.planning.NewArray.{NewArray}
use Rattle.pool_format.specs.declared.planning.NewPool.{NewPool}
use Rattle.new_array.specs.Supers.{role_of}
use Rattle.pool_format.specs.Parts.{new_super, new_table}
use Rattle.pool_format.specs.Plan.{HasRoom, IsPlan, has}
use Rattle.pool_format.specs.Data.{IsDataOf, IsMemberData, LeavesData, array_sector}
use Rattle.pool_format.specs.Drives.{HoldsTable, IsBlockOf, IsCopyOf, IsSuperOf, LeavesClosed, LeavesCleared, LeavesLaid, LeavesSingle, LeavesState, LeavesSuper, LeavesTable, gate_at, no_state}
use Rattle.pool_format.specs.Writing.{InCleared, InClosing, InClosings, InFilling, InLaying, InLayings, InStates, IsOfSlice, IsPart}
use Rattle.pool_format.proofs.Laying.{data_slice, log_part, member_part, table_apart}

-- ---- answers

-- what holds however a call ended
pub on_any : {X : Type 0} (r : Result (Unit {0}) Gone) → X → OnOk r X
on_any (Ok done) x = x
on_any (Err gone) x = tt

pub on_made : {X Y : Type 0} (r : Result (Unit {0}) Gone) → (X → Y) → OnOk r X → OnOk r Y
on_made (Ok done) more x = more x
on_made (Err gone) more x = tt

pub on_both : {X Y Z : Type 0} (r : Result (Unit {0}) Gone) → (X → Y → Z) → OnOk r X → OnOk r Y → OnOk r Z
on_both (Ok done) more x y = more x y
on_both (Err gone) more x y = tt

pub on_all : {P Q : ℕ → Type 0} (n : ℕ) (r : Result (Unit {0}) Gone) → ((d : ℕ) → P d → Q d) → OnOk r ((d : ℕ) → d < n → P d) → OnOk r ((d : ℕ) → d < n → Q d)
on_all n (Ok done) more all = λ d below. more d (all d below)
on_all n (Err gone) more all = tt

-- ---- one sector

-- a sector that isn't written holds what it held
pub stands : {a b : RackView} (may : ℕ → ℕ → List ℕ → Type 0) (d s : ℕ) → WritesOnly a b may → IsLive a b d s → ((v : List ℕ) → may d s v → ⊥)
    → now_on b d s ≡ now_on a d s
stands may d s only live never = (only.others d s live never).current

-- a sync writes none
pub sync_only : {a b : RackView} {disk : ℕ} {r : Result (Unit {0}) Gone} → Syncs a b disk r → WritesOnly a b (λ d s v. ⊥)
sync_only syncs = only_quiet (λ d s v. ⊥) syncs.stays syncs.keeps

-- a sector that was written holds this
pub written : {a b : RackView} (d s : ℕ) (v : List ℕ) → Writes a b d s v {X = Unit {0}} (Ok tt) → IsLive a b d s → now_on b d s ≡ v
written {a} d s v writes live = (writes.done d s live).current ∙ appended_here a.held d s v

-- one value stays one
single_kept : {g h : Values} → Keeps g h → IsSingle g → IsSingle h
single_kept keeps single = λ v left. single v (keeps.within v left) ∙ sym keeps.current

-- ---- tables

copy_agrees : (copy : TableCopy) (table : Table) (d e : Contents) → ((s : ℕ) → IsOfCopy copy table.sectors s → d s ≡ e s) → HoldsCopy copy table d → HoldsCopy copy table e
unfolding entries_bytes
copy_agrees copy table d e same holds =
    let start = entries_sector copy table.sectors in
    let entries = joined_agrees d e start 32 (λ k below. same (start + k) (inr (omega arith, omega (arith, below)))) in
    subst (IsWritten copy table (e (header_sector copy table.sectors))) entries
    (subst (λ h. IsWritten copy table h (joined d start 32)) (same (header_sector copy table.sectors) (inl refl)) holds)

module _ (plan : NewPool) (birth : Birth) (d : ℕ) where
  pub table_agrees : (n : ℕ) (c e : Contents) → ((s : ℕ) → IsOfTable n s → c s ≡ e s) → HoldsTable plan birth d n c → HoldsTable plan birth d n e
  table_agrees n c e same holds = record { mbr = sym (same 0 (inl refl)) ∙ holds.mbr; copies = λ copy. of copy }
    where
      of : (copy : TableCopy) → HoldsCopy copy (new_table plan birth d n) e
      of Primary = copy_agrees Primary (new_table plan birth d n) c e (λ s among. same s (inr (inl among))) (holds.copies Primary)
      of Backup = copy_agrees Backup (new_table plan birth d n) c e (λ s among. same s (inr (inr among))) (holds.copies Backup)

  pub table_written : (a b : RackView) (r : Result (Unit {0}) Gone) → WritesTable a b d (new_table plan birth d (a.sectors d)) r → OnOk r (LeavesTable plan birth d a b)
  table_written a b (Err e) writes = tt
  table_written a b (Ok done) writes = λ live. record {
    mbr = writes.mbr (live 0 (inl refl));
    copies = λ copy. writes.both (live 0 (inl refl)).is_told (λ s of. (live s of).unspent) copy;
  }

  pub table_still : {a b c : RackView} (may : ℕ → ℕ → List ℕ → Type 0) → SameRack a b → WritesOnly b c may → ((s : ℕ) (v : List ℕ) → IsOfTable (a.sectors d) s → may d s v → ⊥)
      → LeavesTable plan birth d a b → LeavesTable plan birth d a c
  table_still {a} {b} {c} may stays only never leaves = λ live.
      table_agrees (a.sectors d) (now_on b d) (now_on c d) (λ s of. sym (stands may d s only (live_second stays (live s of)) (λ v. never s v of)))
      (leaves (λ s of. live_first only.stays (live s of)))

  pub table_later : {a b c : RackView} → SameRack a b → LeavesTable plan birth d b c → LeavesTable plan birth d a c
  table_later {a} {b} {c} stays leaves = λ live.
      subst (λ n. HoldsTable plan birth d n (now_on c d)) (stays.sectors d)
      (leaves (λ s of. live_second stays (live s (subst (λ n. IsOfTable n s) (stays.sectors d) of))))

  -- ---- data

  pub no_data : (n : ℕ) (e : NewArray) (a b : RackView) → slice_get plan.arrays.items n ≡ Some e → has e.members.items d ≡ false → LeavesData plan birth d n a b
  no_data n e a b at other = λ f here among s below live.
      let same : e ≡ f = ap (λ o. unwrap_or o e) (sym at ∙ here) in
      absurd (both_ways (has f.members.items d) (subst (λ (g : NewArray). has g.members.items d ≡ false) same other) among)

  pub data_still : (n : ℕ) {a b c : RackView} (may : ℕ → ℕ → List ℕ → Type 0) → SameRack a b → WritesOnly b c may → ((s : ℕ) (v : List ℕ) → IsDataOf plan d n s → may d s v → ⊥)
      → LeavesData plan birth d n a b → LeavesData plan birth d n a c
  data_still n may stays only never leaves = λ e at among s below live.
      let sector : ℕ = e.first + data_sector + s in
      let datum : IsDataOf plan d n sector = record { array = e; at = at; among = among; row = s; within = below; sector_is = refl } in
      subst (IsMemberData (length e.members.items) (array_sector plan birth n) (role_of e.members.items d) s)
      (sym (stands may d sector only (live_second stays live) (λ v. never sector v datum))) (leaves e at among s below (live_first only.stays live))

  pub data_later : (n : ℕ) {a b c : RackView} → SameRack a b → LeavesData plan birth d n b c → LeavesData plan birth d n a c
  data_later n stays leaves = λ e at among s below live. leaves e at among s below (live_second stays live)

  -- ---- drives that are laid

  pub laid_still : {a b c : RackView} (may : ℕ → ℕ → List ℕ → Type 0) → SameRack a b → WritesOnly b c may
      → ((s : ℕ) (v : List ℕ) → IsOfTable (a.sectors d) s ⊎ ((n : ℕ) × IsDataOf plan d n s) → may d s v → ⊥) → LeavesLaid plan birth d a b → LeavesLaid plan birth d a c
  laid_still may stays only never leaves = record {
    table = table_still may stays only (λ s v of. never s v (inl of)) leaves.table;
    members = λ n. data_still n may stays only (λ s v datum. never s v (inr (n, datum))) (leaves.members n);
  }

  pub laid_later : {a b c : RackView} → SameRack a b → LeavesLaid plan birth d b c → LeavesLaid plan birth d a c
  laid_later stays leaves = record { table = table_later stays leaves.table; members = λ n. data_later n stays (leaves.members n) }

  -- ---- superblocks

  pub super_written : (n : ℕ) (e : NewArray) (a b : RackView) (v : List ℕ) (r : Result (Unit {0}) Gone) → slice_get plan.arrays.items n ≡ Some e → IsBlockOf (new_super birth e n d) v
      → Writes a b d (e.first + super_sector) v r → OnOk r (LeavesSuper plan birth d n a b)
  super_written n e a b v (Err gone) at block writes = tt
  super_written n e a b v (Ok done) at block writes = λ f here among live.
      let same : e ≡ f = ap (λ o. unwrap_or o e) (sym at ∙ here) in
      subst (λ (g : NewArray). IsLive a b d (g.first + super_sector) → IsBlockOf (new_super birth g n d) (now_on b d (g.first + super_sector))) same
      (λ alive. subst (IsBlockOf (new_super birth e n d)) (sym (written d (e.first + super_sector) v writes alive)) block) live

  pub no_super : (n : ℕ) (e : NewArray) (a b : RackView) → slice_get plan.arrays.items n ≡ Some e → has e.members.items d ≡ false → LeavesSuper plan birth d n a b
  no_super n e a b at other = λ f here among live.
      let same : e ≡ f = ap (λ o. unwrap_or o e) (sym at ∙ here) in
      absurd (both_ways (has f.members.items d) (subst (λ (g : NewArray). has g.members.items d ≡ false) same other) among)

  pub super_still : (n : ℕ) {a b c : RackView} (may : ℕ → ℕ → List ℕ → Type 0) → SameRack a b → WritesOnly b c may → ((s : ℕ) (v : List ℕ) → IsSuperOf plan d n s → may d s v → ⊥)
      → LeavesSuper plan birth d n a b → LeavesSuper plan birth d n a c
  super_still n may stays only never leaves = λ e at among live.
      subst (IsBlockOf (new_super birth e n d))
      (sym (stands may d (e.first + super_sector) only (live_second stays live) (λ v. never (e.first + super_sector) v (record { array = e; at = at; among = among; sector_is = refl }))))
      (leaves e at among (live_first only.stays live))

  pub super_later : (n : ℕ) {a b c : RackView} → SameRack a b → LeavesSuper plan birth d n b c → LeavesSuper plan birth d n a c
  super_later n stays leaves = λ e at among live. leaves e at among (live_second stays live)

  -- ---- drives that are closed

  pub closed_still : {a b c : RackView} (may : ℕ → ℕ → List ℕ → Type 0) → SameRack a b → WritesOnly b c may
      → ((s : ℕ) (v : List ℕ) → (s ≡ gate_at) ⊎ ((n : ℕ) × IsSuperOf plan d n s) → may d s v → ⊥) → LeavesClosed plan birth d a b → LeavesClosed plan birth d a c
  closed_still may stays only never leaves = record {
    gate = λ live. stands may d gate_at only (live_second stays live) (λ v. never gate_at v (inl refl)) ∙ leaves.gate (live_first only.stays live);
    supers = λ n. super_still n may stays only (λ s v super. never s v (inr (n, super))) (leaves.supers n);
  }

  pub closed_later : {a b c : RackView} → SameRack a b → LeavesClosed plan birth d b c → LeavesClosed plan birth d a c
  closed_later stays leaves = record { gate = λ live. leaves.gate (live_second stays live); supers = λ n. super_later n stays (leaves.supers n) }

  -- ---- states

  pub state_written : (a b : RackView) (v : List ℕ) (r : Result (Unit {0}) Gone) → IsCopyOf plan birth d v → WritesDurably a b d state_sector v r → OnOk r (LeavesState plan birth d a b)
  state_written a b v (Err gone) copy writes = tt
  state_written a b v (Ok done) copy writes = record {
    state = λ live. subst (IsCopyOf plan birth d) (sym (writes.durable live (now_on b d state_sector) (inl refl))) copy;
    single = λ s live. writes.synced s live;
  }

  pub state_still : {a b c : RackView} (may : ℕ → ℕ → List ℕ → Type 0) → SameRack a b → WritesOnly b c may → ((s : ℕ) (v : List ℕ) → may d s v → ⊥)
      → LeavesState plan birth d a b → LeavesState plan birth d a c
  state_still may stays only never leaves = record {
    state = λ live. subst (IsCopyOf plan birth d) (sym (stands may d state_sector only (live_second stays live) (never state_sector))) (leaves.state (live_first only.stays live));
    single = λ s live. single_kept (only.others d s (live_second stays live) (never s)) (leaves.single s (live_first only.stays live));
  }

  pub state_later : {a b c : RackView} → SameRack a b → LeavesState plan birth d b c → LeavesState plan birth d a c
  state_later stays leaves = record { state = λ live. leaves.state (live_second stays live); single = λ s live. leaves.single s (live_second stays live) }

-- ---- copies that are cleared, and one value a sector

pub cleared_written : (d : ℕ) (a b : RackView) (r : Result (Unit {0}) Gone) → WritesDurably a b d state_sector no_state r → OnOk r (LeavesCleared d a b)
cleared_written d a b (Err gone) writes = tt
cleared_written d a b (Ok done) writes = λ live v left. writes.durable live v left

pub cleared_still : (d : ℕ) {a b c : RackView} (may : ℕ → ℕ → List ℕ → Type 0) → SameRack a b → WritesOnly b c may → ((v : List ℕ) → may d state_sector v → ⊥)
    → LeavesCleared d a b → LeavesCleared d a c
cleared_still d may stays only never cleared = λ live v left.
    cleared (live_first only.stays live) v ((only.others d state_sector (live_second stays live) never).within v left)

pub cleared_later : (d : ℕ) {a b c : RackView} → SameRack a b → LeavesCleared d b c → LeavesCleared d a c
cleared_later d stays cleared = λ live. cleared (live_second stays live)

pub single_synced : (d : ℕ) (a b c : RackView) (r : Result (Unit {0}) Gone) → SameRack a b → Syncs b c d r → OnOk r (LeavesSingle d a c)
single_synced d a b c (Err gone) stays syncs = tt
single_synced d a b c (Ok done) stays syncs = λ s live v left. syncs.done s v (live_second stays live) left

pub single_still : (d : ℕ) {a b c : RackView} (may : ℕ → ℕ → List ℕ → Type 0) → SameRack a b → WritesOnly b c may → ((s : ℕ) (v : List ℕ) → may d s v → ⊥)
    → LeavesSingle d a b → LeavesSingle d a c
single_still d may stays only never single = λ s live. single_kept (only.others d s (live_second stays live) (never s)) (single s (live_first only.stays live))

pub single_later : (d : ℕ) {a b c : RackView} → SameRack a b → LeavesSingle d b c → LeavesSingle d a c
single_later d stays single = λ s live. single s (live_second stays live)

-- ---- superblocks of other arrays

-- superblocks of two arrays stand in two sectors
pub supers_apart : (plan : NewPool) → IsPlan plan → (d k n s : ℕ) → k ≢ n → IsSuperOf plan d k s → IsSuperOf plan d n s → ⊥
supers_apart plan is d k n s other one two = elim (cases_lt k n) [
  | inl before ↦
      let order = is.ordered k n one.array two.array before one.at two.at in
      let first = one.sector_is in
      let second = two.sector_is in
      omega (arith, order, first, second)
  | inr least ↦
      elim (cases_lt n k) [
        | inl after ↦
            let order = is.ordered n k two.array one.array after two.at one.at in
            let first = one.sector_is in
            let second = two.sector_is in
            omega (arith, order, first, second)
        | inr most ↦ other (omega (arith, least, most))
      ]
]

-- so does the data of two arrays
pub datas_apart : (plan : NewPool) → IsPlan plan → (d k n s : ℕ) → k ≢ n → IsDataOf plan d k s → IsDataOf plan d n s → ⊥
datas_apart plan is d k n s other one two =
    let first = one.sector_is in
    let second = two.sector_is in
    let one_end = one.within in
    let two_end = two.within in
    elim (cases_lt k n) [
      | inl before ↦ let order = is.ordered k n one.array two.array before one.at two.at in omega (arith, order, first, second, one_end)
      | inr least ↦
          elim (cases_lt n k) [
            | inl after ↦ let order = is.ordered n k two.array one.array after two.at one.at in omega (arith, order, first, second, two_end)
            | inr most ↦ other (omega (arith, least, most))
          ]
    ]

-- and a superblock and data
super_apart : (plan : NewPool) → IsPlan plan → (d k n s : ℕ) → IsSuperOf plan d k s → IsDataOf plan d n s → ⊥
super_apart plan is d k n s super datum =
    let first = super.sector_is in
    let second = datum.sector_is in
    let end = datum.within in
    elim (cases_lt k n) [
      | inl before ↦ let order = is.ordered k n super.array datum.array before super.at datum.at in omega (arith, order, first, second)
      | inr least ↦
          elim (cases_lt n k) [
            | inl after ↦ let order = is.ordered n k datum.array super.array after datum.at super.at in omega (arith, order, first, second, end)
            | inr most ↦
                let same : k ≡ n = omega (arith, least, most) in
                let array : super.array ≡ datum.array = ap (λ o. unwrap_or o super.array) (sym (subst (λ j. slice_get plan.arrays.items j ≡ Some super.array) same super.at) ∙ datum.at) in
                let begins = ap (λ (e : NewArray). e.first) array in
                omega (arith, first, second, begins)
          ]
    ]

data_behind : (plan : NewPool) → IsPlan plan → (d n s : ℕ) → IsDataOf plan d n s → 10240 < s
data_behind plan is d n s datum = let first = (is.each n datum.array datum.at).first in let at = datum.sector_is in omega (arith, first, at)

-- they stand behind the log slices
pub super_behind : (plan : NewPool) → IsPlan plan → (d n s : ℕ) → IsSuperOf plan d n s → 10240 < s
super_behind plan is d n s super = let first = (is.each n super.array super.at).first in let at = super.sector_is in omega (arith, first, at)

-- ---- what is written to fill drives

pub closing_any : (plan : NewPool) (place d s : ℕ) (v : List ℕ) → InClosing plan place d s v → InClosings plan d s v
closing_any plan place d s v may = subst (λ k. InClosing plan k d s v) (sym may.0) may

pub laying_any : (plan : NewPool) (a b : RackView) (place : ℕ) → SameRack a b → (d s : ℕ) (v : List ℕ) → InLaying plan b.sectors place d s v → InLayings plan a.sectors d s v
laying_any plan a b place stays d s v may = (
  refl,
  elim may.1 [
    | inl table ↦ inl (subst (λ n. IsOfTable n s) (stays.sectors d) table)
    | inr datum ↦ inr (subst (λ k. (n : ℕ) × IsDataOf plan k n s) (sym may.0) datum)
  ],
)

-- they are sectors of tables and slices, and none is that of the state
module _ (plan : NewPool) (is : IsPlan plan) where
  closing_slices : (d s : ℕ) (v : List ℕ) → InClosings plan d s v → IsOfSlice plan d s
  closing_slices d s v may = elim may.2 [
    | inl gate ↦ subst (IsOfSlice plan d) (sym gate) (log_part plan d 1 may.1 (omega arith))
    | inr super ↦
        subst (IsOfSlice plan d) (sym super.1.sector_is) (member_part plan is super.0 d super_sector super.1.array super.1.at super.1.among (omega arith))
  ]

  pub states_slices : (d s : ℕ) (v : List ℕ) → InStates plan d s v → IsOfSlice plan d s
  states_slices d s v may = subst (IsOfSlice plan d) (sym may.1) (log_part plan d 0 may.0 (omega arith))

  pub stated_part : (x : RackView) (d s : ℕ) (v : List ℕ) → InStates plan d s v → IsPart plan x.sectors d s v
  stated_part x d s v may = inr (states_slices d s v may)

  pub cleared_part : (x : RackView) (d s : ℕ) (v : List ℕ) → InCleared plan d s v → IsPart plan x.sectors d s v
  cleared_part x d s v may = stated_part x d s v may.0

  pub filled_part : (a b : RackView) → SameRack a b → (d s : ℕ) (v : List ℕ) → InFilling plan b.sectors d s v → IsPart plan a.sectors d s v
  filled_part a b stays d s v (inl laying) = elim laying.1 [
    | inl table ↦ inl (subst (λ n. IsOfTable n s) (stays.sectors d) table)
    | inr datum ↦ inr (data_slice plan is d datum.0 s datum.1)
  ]
  filled_part a b stays d s v (inr closing) = inr (closing_slices d s v closing)

  -- gates and superblocks stand apart from tables and data
  pub closing_apart : (x : RackView) → HasRoom plan x → (d s : ℕ) (v : List ℕ) → IsOfTable (x.sectors d) s ⊎ ((n : ℕ) × IsDataOf plan d n s) → InClosings plan d s v → ⊥
  closing_apart x room d s v (inl table) may = table_apart plan x is room d s table (closing_slices d s v may)
  closing_apart x room d s v (inr datum) may = elim may.2 [
    | inl gate ↦ let behind = data_behind plan is d datum.0 s datum.1 in omega (arith, behind, gate)
    | inr super ↦ super_apart plan is d super.0 datum.0 s super.1 datum.1
  ]

  pub filling_unstated : (x : RackView) → HasRoom plan x → (d : ℕ) (v : List ℕ) → d < length plan.units.items → InFilling plan x.sectors d state_sector v → ⊥
  filling_unstated x room d v low (inl laying) = elim laying.1 [
    | inl table ↦ table_apart plan x is room d state_sector table (states_slices d state_sector v (low, refl))
    | inr datum ↦ let behind = data_behind plan is d datum.0 state_sector datum.1 in omega (arith, behind)
  ]
  filling_unstated x room d v low (inr closing) = elim closing.2 [
    | inl gate ↦ omega (arith, gate)
    | inr super ↦ let behind = super_behind plan is d super.0 state_sector super.1 in omega (arith, behind)
  ]
