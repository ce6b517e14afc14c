-- Tables of disks are settled one after the other.
use Rattle.std.proofs.Common.{◌≡◌, ◌≢◌, ◌⊎◌, ℕ, ◌+◌, ◌<◌, ◌≤◌, Bool, true, List, Result, Ok, Err, Option, Some, None, option_map, inl, inr, refl, sym, ap, ap₂, subst, ◌∙◌, arith}
use Rattle.std.proofs.lemmas.Bool.{cases_eq}
use Rattle.std.proofs.lemmas.Option.{none-some}
use Rattle.rack.specs.Values.{IsSingle, Keeps}
use Rattle.rack.specs.Seen.{Image, IsLive, IsPick, Rose, RackView, SameRack}
use Rattle.rack.specs.Moments.{Leaves}
use Rattle.rack.specs.Joins.{leaves_same, leaves_then, leaves_weaker, live_first, live_second, rose_later}
use Rattle.rack.specs.Sequences.{IsMix, OnlyReads, WritesOnly}
use Rattle.rack.proofs.Reading.{only_reads_start}
use Rattle.rack.proofs.Writing.{only_none}
use Rattle.gpt_table.specs.declared.Table.{Table}
use Rattle.gpt_table.specs.declared.TableFault.{TableFault}
use Rattle.gpt_table.specs.declared.TableFault.TheVariants.{NoTable, Gone}
use Rattle.gpt_table.specs.declared.TableCopy.{TableCopy}
use Rattle.gpt_table.specs.declared.TableCopy.TheVariants.{Primary, Backup}
use Rattle.gpt_table.specs.Changes.{AreSingle, BothLive, BothSay, Changes, IsInSettled, IsKeptOrWritten, IsLeftover, IsOfCopies, IsPickOf, SettlesTable, the_table}
use Rattle.gpt_table.specs.Disk.{Contents, CopiesAgree, first_of, first_table, now_on, table_at}
use Rattle.gpt_table.proofs.Changed.{changes_read, live_both}
use Rattle.gpt_table.proofs.Joined.{table_at_agrees}
use Rattle.gpt_table.proofs.Tables.{first_says}
use Rattle.pool_image.specs.Disks.{Seats}
use Rattle.pool_check.specs.Drives.{Goes, flag_by}
use Rattle.pool_check.specs.Settling.{AreDistinct, AreSettled, IsAgreement, IsLeftOn, IsSettled, IsTableSector, IsTrueOf, KeepsTable, SettlesDisk, SettlesPlace}
use Rattle.pool_check.proofs.AfterReads.{goes_early}
use Rattle.pool_check.proofs.TableSectors.{live_of, of_one}
use Rattle.pool_check.proofs.SettledValues.{only_more, only_same}
use Rattle.pool_check.proofs.Losing.{IsWithout, without_here, without_other}

-- ---- one table

-- contents that agree in the sectors of both copies have one table
tables_agree : (n : ℕ) (x y : Contents) → ((s : ℕ) → IsOfCopies n s → x s ≡ y s) → the_table n x ≡ the_table n y
tables_agree n x y same =
    ap₂ (λ (p q : Option Table). option_map (λ found. found.table) (first_of p q))
    (table_at_agrees Primary n x y (λ s is. same s (inl is)))
    (table_at_agrees Backup n x y (λ s is. same s (inr is)))

single_in : (a : RackView) (d n : ℕ) → AreSingle a d n → (s : ℕ) → IsOfCopies n s → IsSingle (a.held d s)
single_in a d n single s (inl is) = single Primary s is
single_in a d n single s (inr is) = single Backup s is

keeps_start : (a : RackView) (d : ℕ) → KeepsTable a a d
keeps_start a d = record {
  stops = λ traced live single. leaves_same a (λ c. the_table (a.sectors d) (c d) ≡ the_table (a.sectors d) (now_on a d));
  held = λ live single contents left. tables_agree (a.sectors d) contents (now_on a d) (λ s is. single_in a d (a.sectors d) single s is (contents s) (left s is));
}

module _ {a b c : RackView} (stays : SameRack a b) (e : ℕ) (after : SameRack b c) where
  abbrev n : ℕ
  n = a.sectors e

  live_before : BothLive a c e n → BothLive a b e n
  live_before live copy s is = live_first after (live copy s is)

  live_after : BothLive a c e n → (s : ℕ) → IsOfCopies n s → IsLive b c e s
  live_after live s is = live_second stays (live_of a c e n s live is)

  -- calls that bring no value to the disk's table
  keeps_by : ((s : ℕ) → IsOfCopies n s → IsLive b c e s → Keeps (b.held e s) (c.held e s))
      → (b.traced → BothLive a c e n → Leaves b c (λ i. IsLeftOn b e n (i e)))
      → KeepsTable a b e → KeepsTable a c e
  keeps_by kept moments old = record {
    stops = λ traced live single.
        let Q : Image → Type 0 = λ i. the_table n (i e) ≡ the_table n (now_on a e) in
        leaves_then Q (old.stops traced (live_before live) single)
        (leaves_weaker (λ i. IsLeftOn b e n (i e)) Q (λ i left. old.held (live_before live) single (i e) left) (moments (stays.traced traced) live));
    held = λ live single contents left.
        old.held (live_before live) single contents (λ s is. (kept s is (live_after live s is)).within (contents s) (left s is));
  }

  keeps_read : OnlyReads b c → KeepsTable a b e → KeepsTable a c e
  keeps_read reads =
      keeps_by (λ s is live. reads.keeps.held e s live)
      (λ traced live.
      leaves_weaker (IsPick b c b.held) (λ i. IsLeftOn b e n (i e)) (λ i pick s is. pick e s (live_after live s is)) (reads.keeps.stops traced))

  -- another disk's table was settled
  keeps_other : (d m : ℕ) (P : Contents → Type 0) → (e ≡ d → ⊥) → Changes b c d (IsOfCopies m) P → KeepsTable a b e → KeepsTable a c e
  keeps_other d m P apart changes =
      keeps_by (λ s is live. changes.others e s live (inl apart))
      (λ traced live.
      leaves_weaker (IsLeftover b c d (IsOfCopies m) P) (λ i. IsLeftOn b e n (i e)) (λ i left s is. left.0 e s (live_after live s is) (inl apart))
      (changes.stops traced))

  -- what calls before didn't touch is as it was
  module _ (untouched : (s : ℕ) → IsOfCopies n s → IsLive a b e s → Keeps (a.held e s) (b.held e s)) where
    single_still : BothLive a c e n → AreSingle a e n → AreSingle b e n
    single_still live single copy s is v left =
        let keeps = untouched s (of_one copy n s is) (live_before live copy s is) in single copy s is v (keeps.within v left) ∙ sym keeps.current

    table_still : BothLive a c e n → the_table n (now_on b e) ≡ the_table n (now_on a e)
    table_still live =
        tables_agree n (now_on b e) (now_on a e) (λ s is. (untouched s is (live_of a b e n s (live_before live) is)).current)

    live_then : BothLive a c e n → BothLive b c e n
    live_then live copy s is = live_after live s (of_one copy n s is)

    -- the disk's own table was settled
    keeps_here : Changes b c e (IsOfCopies n) (λ contents. AreSingle b e n → the_table n contents ≡ the_table n (now_on b e))
        → KeepsTable a b e → KeepsTable a c e
    keeps_here changes old = record {
      stops = λ traced live single.
          let P : Contents → Type 0 = λ contents. AreSingle b e n → the_table n contents ≡ the_table n (now_on b e) in
          let Q : Image → Type 0 = λ i. the_table n (i e) ≡ the_table n (now_on a e) in
          leaves_then Q (old.stops traced (live_before live) single)
          (leaves_weaker (IsLeftover b c e (IsOfCopies n) P) Q
          (λ i left. left.1 (λ s is. live_after live s is) (single_still live single) ∙ table_still live)
          (changes.stops (stays.traced traced)));
      held = λ live single contents left.
          changes.held (λ s is. live_after live s is) contents left (single_still live single) ∙ table_still live;
    }

    says_still : BothLive a c e n → (contents : Contents) → BothSay b e n contents → BothSay a e n contents
    says_still live contents says = (says.0, sym (table_still live) ∙ says.1, says.2)

    pub settled_since : b.sectors e ≡ n → IsSettled b c e → IsSettled a c e
    settled_since same settled = record {
      now = λ had live. says_still live (now_on c e) (moved.0 (λ none. had (sym (table_still live) ∙ none)) (live_then live));
      durable = λ had live single contents left.
          says_still live contents
          (moved.1 (λ none. had (sym (table_still live) ∙ none)) (live_then live) (single_still live single) contents left);
      written = λ had live copy contents picks.
          before live copy contents (moved.2 (λ none. had (sym (table_still live) ∙ none)) (live_then live) copy contents picks);
    }
      where
        -- by the sectors that the disk has
        moved : (the_table n (now_on b e) ≢ None → BothLive b c e n → BothSay b e n (now_on c e))
            × (the_table n (now_on b e) ≢ None → BothLive b c e n → AreSingle b e n → (contents : Contents) → IsLeftOn c e n contents → BothSay b e n contents)
            × (the_table n (now_on b e) ≢ None → BothLive b c e n → (copy : TableCopy) (contents : Contents) → IsPickOf c e copy n contents
            → IsKeptOrWritten b e n copy contents)
        moved = (
          subst (λ m. the_table m (now_on b e) ≢ None → BothLive b c e m → BothSay b e m (now_on c e)) same settled.now,
          subst (λ m. the_table m (now_on b e) ≢ None → BothLive b c e m → AreSingle b e m → (contents : Contents) → IsLeftOn c e m contents → BothSay b e m contents) same settled.durable,
          subst (λ m. the_table m (now_on b e) ≢ None → BothLive b c e m → (copy : TableCopy) (contents : Contents) → IsPickOf c e copy m contents → IsKeptOrWritten b e m copy contents) same settled.written,
        )

        before : BothLive a c e n → (copy : TableCopy) (contents : Contents) → IsKeptOrWritten b e n copy contents → IsKeptOrWritten a e n copy contents
        before live copy contents (inl picks) =
            inl (λ s is. (untouched s (of_one copy n s is) (live_before live copy s is)).within (contents s) (picks s is))
        before live copy contents (inr made) = inr made

    -- and so is the table at each moment, where later calls keep it
    keeps_since : b.sectors e ≡ n → (a.traced → BothLive a c e n → Leaves a b (λ i. IsLeftOn a e n (i e))) → KeepsTable b c e → KeepsTable a c e
    keeps_since same moments old = record {
      stops = λ traced live single.
          let Q : Image → Type 0 = λ i. the_table n (i e) ≡ the_table n (now_on a e) in
          leaves_then Q
          (leaves_weaker (λ i. IsLeftOn a e n (i e)) Q (λ i left. tables_agree n (i e) (now_on a e) (λ s is. single_in a e n single s is (i e s) (left s is))) (moments traced live))
          (leaves_weaker (λ i. the_table n (i e) ≡ the_table n (now_on b e)) Q (λ i kept. kept ∙ table_still live)
          (by.0 (stays.traced traced) (live_then live) (single_still live single)));
      held = λ live single contents left. by.1 (live_then live) (single_still live single) contents left ∙ table_still live;
    }
      where
        -- by the sectors that the disk has
        by : (b.traced → BothLive b c e n → AreSingle b e n → Leaves b c (λ i. the_table n (i e) ≡ the_table n (now_on b e)))
            × (BothLive b c e n → AreSingle b e n → (contents : Contents) → IsLeftOn c e n contents → the_table n contents ≡ the_table n (now_on b e))
        by = (
          subst (λ m. b.traced → BothLive b c e m → AreSingle b e m → Leaves b c (λ i. the_table m (i e) ≡ the_table m (now_on b e))) same old.stops,
          subst (λ m. BothLive b c e m → AreSingle b e m → (contents : Contents) → IsLeftOn c e m contents → the_table m contents ≡ the_table m (now_on b e)) same old.held,
        )

  -- a table that is settled stays so
  pub settled_by : ((s : ℕ) → IsOfCopies n s → IsLive b c e s → Keeps (b.held e s) (c.held e s)) → IsSettled a b e → IsSettled a c e
  settled_by kept old = record {
    now = λ had live.
        let says = old.now had (live_before live) in (
          says.0,
          says.1,
          λ copy.
              table_at_agrees copy n (now_on c e) (now_on b e)
              (λ s is. (kept s (of_one copy n s is) (live_after live s (of_one copy n s is))).current)
              ∙ says.2 copy,
        );
    durable = λ had live single contents left.
        old.durable had (live_before live) single contents (λ s is. (kept s is (live_after live s is)).within (contents s) (left s is));
    written = λ had live copy contents picks.
        old.written had (live_before live) copy contents
        (λ s is. let of = of_one copy n s is in (kept s of (live_after live s of)).within (contents s) (picks s is));
  }

-- ---- what flags say

-- a table is settled where it is if its disk is told
pub settled_told : (a c : RackView) (d : ℕ) → (a.told d → IsSettled a c d) → IsSettled a c d
settled_told a c d settled = record {
  now = λ had live. (settled (told live)).now had live;
  durable = λ had live single contents left. (settled (told live)).durable had live single contents left;
  written = λ had live copy contents picks. (settled (told live)).written had live copy contents picks;
}
  where
    told : BothLive a c d (a.sectors d) → a.told d
    told live = (live Primary 1 (inl refl)).is_told

-- a flag is true of a disk that it speaks of
pub true_told : (x : RackView) (d : ℕ) (flag : Bool) → x.told d → IsAgreement x d flag → IsTrueOf x d flag
true_told x d flag told agrees is live = (agrees told (now_on x d) (λ s below unspent. refl)).0 is

-- and is so after calls that don't touch its table
pub true_since : (a b : RackView) (d : ℕ) (flag : Bool) → SameRack a b → a.told d
    → ((s : ℕ) → IsOfCopies (a.sectors d) s → IsLive a b d s → Keeps (a.held d s) (b.held d s)) → IsTrueOf a d flag → IsTrueOf b d flag
true_since a b d flag stays told untouched was is live =
    subst (λ m. CopiesAgree m (now_on b d)) (sym (stays.sectors d)) (both.0, still Primary ∙ both.1, still Backup ∙ both.2)
  where
    here : BothLive a b d (a.sectors d)
    here copy s of = live_both told (subst (BothLive b b d) (stays.sectors d) live copy s of)

    both : CopiesAgree (a.sectors d) (now_on a d)
    both = was is (λ copy s of. live_first stays (here copy s of))

    still : (copy : TableCopy) → table_at copy (a.sectors d) (now_on b d) ≡ table_at copy (a.sectors d) (now_on a d)
    still copy =
        table_at_agrees copy (a.sectors d) (now_on b d) (now_on a d)
        (λ s of. (untouched s (of_one copy (a.sectors d) s of) (here copy s of)).current)

-- ---- calls that write no table

module _ {a b : RackView} (may : ℕ → ℕ → List ℕ → Type 0) (e n : ℕ) (only : WritesOnly a b may) (never : (s : ℕ) (v : List ℕ) → IsOfCopies n s → may e s v → ⊥) where
  kept_tables : (s : ℕ) → IsOfCopies n s → IsLive a b e s → Keeps (a.held e s) (b.held e s)
  kept_tables s is live = only.others e s live (λ v. never s v is)

  left_tables : a.traced → BothLive a b e n → Leaves a b (λ i. IsLeftOn a e n (i e))
  left_tables traced live =
      leaves_weaker (IsMix a b may) (λ i. IsLeftOn a e n (i e))
      (λ i mix s is. elim (mix e s (live_of a b e n s live is)) [ inl old ↦ old | inr new ↦ absurd (never s (i e s) is new) ]) (only.stops traced)

-- before others that keep a disk's table they keep it too, and so they do after them
pub keeps_before : (a b c : RackView) (may : ℕ → ℕ → List ℕ → Type 0) (e : ℕ) → WritesOnly a b may → SameRack b c
    → ((s : ℕ) (v : List ℕ) → IsOfCopies (a.sectors e) s → may e s v → ⊥) → KeepsTable b c e → KeepsTable a c e
keeps_before a b c may e only after never old =
    keeps_since only.stays e after (kept_tables may e (a.sectors e) only never) (only.stays.sectors e)
    (λ traced live. left_tables may e (a.sectors e) only never traced (live_before only.stays e after live)) old

pub keeps_after : (a b c : RackView) (may : ℕ → ℕ → List ℕ → Type 0) (e : ℕ) → SameRack a b → WritesOnly b c may
    → ((s : ℕ) (v : List ℕ) → IsOfCopies (a.sectors e) s → may e s v → ⊥) → KeepsTable a b e → KeepsTable a c e
keeps_after a b c may e stays only never old =
    keeps_by stays e only.stays (kept_tables may e (a.sectors e) only never)
    (λ traced live. left_tables may e (a.sectors e) only never traced (λ copy s is. live_second stays (live copy s is))) old

-- ---- one place

-- a table was settled, or there was none
settled_table : (a b : RackView) (d : ℕ) (result : Result (Unit {0}) TableFault) → SettlesTable a b d (a.sectors d) result
    → (result ≡ Err NoTable → a.told d → first_table (a.sectors d) (now_on a d) ≡ None)
    → (result ≡ Err Gone → ⊥) → IsSettled a b d
settled_table a b d (Ok u) settles none gone = record {
  now = λ had live. settles.both live;
  durable = λ had live single contents left. settles.durable live single contents (λ copy s is. left s (of_one copy (a.sectors d) s is));
  written = λ had live copy contents picks. settles.written live copy contents picks;
}
settled_table a b d (Err Gone) settles none gone = absurd (gone refl)
settled_table a b d (Err NoTable) settles none gone = record {
  now = λ had live. absurd (had (no_table live));
  durable = λ had live single contents left. absurd (had (no_table live));
  written = λ had live copy contents picks. absurd (had (no_table live));
}
  where
    no_table : BothLive a b d (a.sectors d) → the_table (a.sectors d) (now_on a d) ≡ None
    no_table live = ap (option_map (λ found. found.table)) (none refl (live Primary 1 (inl refl)).is_told)

-- both copies agree already
agreed_settled : (a : RackView) (d : ℕ) → (BothLive a a d (a.sectors d) → CopiesAgree (a.sectors d) (now_on a d)) → IsSettled a a d
agreed_settled a d agree = record {
  now = λ had live. says live (now_on a d) (λ s is. refl);
  durable = λ had live single contents left. says live contents (λ s is. single_in a d (a.sectors d) single s is (contents s) (left s is));
  written = λ had live copy contents picks. inl picks;
}
  where
    says : BothLive a a d (a.sectors d) → (contents : Contents) → ((s : ℕ) → IsOfCopies (a.sectors d) s → contents s ≡ now_on a d s)
        → BothSay a d (a.sectors d) contents
    says live contents same = (both.0, first_says (a.sectors d) (now_on a d) both.0 both.1, each)
      where
        both : CopiesAgree (a.sectors d) (now_on a d)
        both = agree live

        each : (copy : TableCopy) → table_at copy (a.sectors d) contents ≡ Some both.0
        each Primary = table_at_agrees Primary (a.sectors d) contents (now_on a d) (λ s is. same s (inl is)) ∙ both.1
        each Backup = table_at_agrees Backup (a.sectors d) contents (now_on a d) (λ s is. same s (inr is)) ∙ both.2

-- nothing is called where a flag says so
pub place_agreed : (a : RackView) (seats : Seats) (place : ℕ) (flag : Bool) → a.fit → flag ≡ true → SettlesPlace a a seats seats place flag
place_agreed a seats place flag fit is = record {
  others = λ p other. refl;
  empty = λ none. (only_reads_start a fit, none);
  changes = λ d seat.
      changes_read a a d (IsOfCopies (a.sectors d))
      (λ contents. AreSingle a d (a.sectors d) → the_table (a.sectors d) contents ≡ the_table (a.sectors d) (now_on a d)) (only_reads_start a fit)
      (λ live contents pick single.
      tables_agree (a.sectors d) contents (now_on a d) (λ s of. single_in a d (a.sectors d) single s of (contents s) (pick s of)));
  only = λ d seat. only_none a (λ e s v. (e ≡ d) × IsInSettled a d (a.sectors d) s v) fit;
  settles = λ d seat. inl (seat, λ says. agreed_settled a d (says is));
}

pub place_empty : (a : RackView) (seats : Seats) (place : ℕ) (flag : Bool) → a.fit → seats place ≡ None → SettlesPlace a a seats seats place flag
place_empty a seats place flag fit none = record {
  others = λ p other. refl;
  empty = λ is. (only_reads_start a fit, none);
  changes = λ d seat. absurd (none-some d (sym none ∙ seat));
  only = λ d seat. absurd (none-some d (sym none ∙ seat));
  settles = λ d seat. absurd (none-some d (sym none ∙ seat));
}

-- the place keeps its disk
pub place_kept : (a b : RackView) (seats : Seats) (place d : ℕ) (flag : Bool) (result : Result (Unit {0}) TableFault) → seats place ≡ Some d
    → SettlesTable a b d (a.sectors d) result
    → (result ≡ Err NoTable → a.told d → first_table (a.sectors d) (now_on a d) ≡ None)
    → (result ≡ Err Gone → ⊥) → SettlesPlace a b seats seats place flag
place_kept a b seats place d flag result seat settles none gone = record {
  others = λ p other. refl;
  empty = λ is. absurd (none-some d (sym is ∙ seat));
  changes = λ e at.
      subst (λ k. Changes a b k (IsOfCopies (a.sectors k))
      (λ contents. AreSingle a k (a.sectors k) → the_table (a.sectors k) contents ≡ the_table (a.sectors k) (now_on a k)))
      (same e at) settles.changes;
  only = λ e at. subst (λ k. WritesOnly a b (λ f s v. (f ≡ k) × IsInSettled a k (a.sectors k) s v)) (same e at) settles.only;
  settles = λ e at. inl (at, λ says. subst (IsSettled a b) (same e at) (settled_table a b d result settles none gone));
}
  where
    same : (e : ℕ) → seats place ≡ Some e → d ≡ e
    same e at = let both : Some d ≡ Some e = sym seat ∙ at in cc

-- the place loses it
pub place_lost : (a b : RackView) (before after : Seats) (place d : ℕ) (flag : Bool) (result : Result (Unit {0}) TableFault) → before place ≡ Some d
    → IsWithout before after place → SettlesTable a b d (a.sectors d) result → Rose (a.faults d) (b.faults d) → SettlesPlace a b before after place flag
place_lost a b before after place d flag result seat without settles rose = record {
  others = λ p other. without_other before after place p without other;
  empty = λ is. absurd (none-some d (sym is ∙ seat));
  changes = λ e at.
      subst (λ k. Changes a b k (IsOfCopies (a.sectors k))
      (λ contents. AreSingle a k (a.sectors k) → the_table (a.sectors k) contents ≡ the_table (a.sectors k) (now_on a k)))
      (same e at) settles.changes;
  only = λ e at. subst (λ k. WritesOnly a b (λ f s v. (f ≡ k) × IsInSettled a k (a.sectors k) s v)) (same e at) settles.only;
  settles = λ e at. inr (without_here before after place without, subst (λ k. Rose (a.faults k) (b.faults k)) (same e at) rose);
}
  where
    same : (e : ℕ) → before place ≡ Some e → d ≡ e
    same e at = let both : Some d ≡ Some e = sym seat ∙ at in cc

-- ---- all places

pub settled_none : (a : RackView) (seats : Seats) (agreed : List Bool) → a.fit → AreSettled a a seats seats agreed 0
settled_none a seats agreed fit = record {
  only = only_none a (IsTableSector a a seats 0) fit;
  seats = λ place. inl refl;
  later = λ p least. refl;
  tables = λ d. keeps_start a d;
  settled = λ p d below seat. absurd (omega (arith, below));
}

module _ (a b c : RackView) (first before after : Seats) (agreed : List Bool) (place : ℕ) (low : place < 16) (distinct : AreDistinct first)
    (old : AreSettled a b first before agreed place) (settles : SettlesPlace b c before after place (flag_by agreed place)) where
  -- a place that has a disk had it from the first
  had : (p d : ℕ) → before p ≡ Some d → first p ≡ Some d
  had p d seat = by (old.seats p)
    where
      by : (before p ≡ first p) ⊎ ((before p ≡ None) × Goes a b first p) → first p ≡ Some d
      by (inl same) = sym same ∙ seat
      by (inr gone) = absurd (none-some d (sym gone.0 ∙ seat))

  stays : SameRack a b
  stays = old.only.stays

  other_seats : SameRack b c → (p : ℕ) → (p ≡ place → ⊥) → (after p ≡ first p) ⊎ ((after p ≡ None) × Goes a c first p)
  other_seats later p other = by (old.seats p)
    where
      by : (before p ≡ first p) ⊎ ((before p ≡ None) × Goes a b first p) → (after p ≡ first p) ⊎ ((after p ≡ None) × Goes a c first p)
      by (inl same) = inl (settles.others p other ∙ same)
      by (inr gone) = inr (settles.others p other ∙ gone.0, goes_early a b c first p later gone.1)

  later_seats : (p : ℕ) → place + 1 ≤ p → after p ≡ first p
  later_seats p least = settles.others p (λ same. omega (arith, least, same)) ∙ old.later p (omega (arith, least))

  -- the place has no disk
  empty_more : before place ≡ None → AreSettled a c first after agreed (place + 1)
  empty_more none =
      let is = settles.empty none in
      let reads = is.0 in record {
        only = only_same a b c reads.stays first place old.only reads;
        seats = λ p. elim (cases_eq p place) [
          | inl same ↦
              subst (λ q. (after q ≡ first q) ⊎ ((after q ≡ None) × Goes a c first q)) (sym same)
              (inl (is.1 ∙ sym none ∙ old.later place (omega arith)))
          | inr other ↦ other_seats reads.stays p other
        ];
        later = later_seats;
        tables = λ d. keeps_read stays d reads.stays reads (old.tables d);
        settled = λ p d below seat says. elim (cases_eq p place) [
          | inl same ↦ absurd (none-some d (sym is.1 ∙ ap after (sym same) ∙ seat))
          | inr other ↦
              settled_by stays d reads.stays (λ s of live. reads.keeps.held d s live)
              (old.settled p d (omega (arith, below, other)) (sym (settles.others p other) ∙ seat) says)
        ];
      }

  -- or one
  module _ (d : ℕ) (seat : before place ≡ Some d) where
    abbrev P : Contents → Type 0
    P contents = AreSingle b d (b.sectors d) → the_table (b.sectors d) contents ≡ the_table (b.sectors d) (now_on b d)

    changes : Changes b c d (IsOfCopies (b.sectors d)) P
    changes = settles.changes d seat

    untouched : (s : ℕ) → IsOfCopies (a.sectors d) s → IsLive a b d s → Keeps (a.held d s) (b.held d s)
    untouched s is live =
        old.only.others d s live
        (λ v may.
        let below = may.below in
        let same = distinct may.place place d (omega (arith, below, low)) low may.seat (had place d seat) in
        omega (arith, same, below))

    here_seats : SettlesDisk b c after place (flag_by agreed place) d → (after place ≡ first place) ⊎ ((after place ≡ None) × Goes a c first place)
    here_seats (inl kept) = inl (kept.0 ∙ sym (had place d seat))
    here_seats (inr gone) = inr (gone.0, (d, had place d seat, rose_later a b c d stays gone.1))

    here_settled : (e : ℕ) → after place ≡ Some e → SettlesDisk b c after place (flag_by agreed place) d → IsTrueOf a e (flag_by agreed place)
        → IsSettled a c e
    here_settled e now (inl kept) says =
        let same : Some d ≡ Some e = sym kept.0 ∙ now in
        let is : d ≡ e = cc in
        subst (IsSettled a c) is
        (settled_told a c d
        (λ told.
        settled_since stays d changes.stays untouched (stays.sectors d)
        (kept.1 (true_since a b d (flag_by agreed place) stays told untouched (subst (λ k. IsTrueOf a k (flag_by agreed place)) (sym is) says)))))
    here_settled e now (inr gone) says = absurd (none-some e (sym gone.0 ∙ now))

    seated_more : AreSettled a c first after agreed (place + 1)
    seated_more = record {
      only = only_more a b c changes.stays first place d (had place d seat) (old.tables d) old.only (settles.only d seat);
      seats = λ p. elim (cases_eq p place) [
        | inl same ↦
            subst (λ q. (after q ≡ first q) ⊎ ((after q ≡ None) × Goes a c first q)) (sym same) (here_seats (settles.settles d seat))
        | inr other ↦ other_seats changes.stays p other
      ];
      later = later_seats;
      tables = λ e. elim (cases_eq e d) [
        | inl same ↦
            subst (KeepsTable a c) (sym same)
            (keeps_here stays d changes.stays untouched
            (subst (λ m. Changes b c d (IsOfCopies m) (λ contents. AreSingle b d m → the_table m contents ≡ the_table m (now_on b d))) (stays.sectors d) changes)
            (old.tables d))
        | inr other ↦ keeps_other stays e changes.stays d (b.sectors d) P other changes (old.tables e)
      ];
      settled = λ p e below now says. elim (cases_eq p place) [
        | inl same ↦
            here_settled e (ap after (sym same) ∙ now) (settles.settles d seat) (subst (λ q. IsTrueOf a e (flag_by agreed q)) same says)
        | inr other ↦
            let was = sym (settles.others p other) ∙ now in
            let apart : e ≡ d → ⊥ = λ same. other (distinct p place d (omega (arith, below, low)) low (had p e was ∙ ap Some same) (had place d seat)) in
            settled_by stays e changes.stays (λ s of live. changes.others e s live (inl apart)) (old.settled p e (omega (arith, below, other)) was says)
      ];
    }

  pub settled_more : AreSettled a c first after agreed (place + 1)
  settled_more = by (before place) refl
    where
      by : (o : Option ℕ) → before place ≡ o → AreSettled a c first after agreed (place + 1)
      by None none = empty_more none
      by (Some d) seat = seated_more d seat
