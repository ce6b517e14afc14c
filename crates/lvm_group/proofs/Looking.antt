-- Reads in a row, and what they give.
use Rattle.std.proofs.Common.{◌≡◌, ℕ, ◌<◌, ◌≤◌, Bool, true, false, List, [], Ok, Err, Result, inl, inr, refl, sym, ◌∙◌, subst, arith}
use Rattle.std.specs.Prelude.{if◌then◌else◌, ◌==◌, ◌≢◌}
use Rattle.std.proofs.lemmas.Bool.{cases_lt, cases_eq, lt-ltb, le-ltb, eq-eqb, eqb-true}
use Rattle.rack.specs.declared.Gone.{Gone}
use Rattle.rack.specs.Seen.{RackView, Rose}
use Rattle.rack.specs.Calls.{Reads}
use Rattle.rack.specs.Joins.{stays_same, stays_then, keeps_all_then, keeps_same, leaves_same, rose_since}
use Rattle.lvm_group.specs.Parts.{Array}
use Rattle.rack.specs.Sequences.{OnlyReads}
use Rattle.lvm_group.specs.Reading.{IsNow, IsRead, AreRead, held_on}

-- no call
pub looks_same : (a : RackView) → a.fit → OnlyReads a a
looks_same a fit = record {
  stays = stays_same a fit;
  keeps = record { held = λ d s live. keeps_same (a.held d s); stops = λ traced. leaves_same a _ };
}

pub looks_then : {a b c : RackView} → OnlyReads a b → OnlyReads b c → OnlyReads a c
looks_then first second = record { stays = stays_then first.stays second.stays; keeps = keeps_all_then first.stays second.stays first.keeps second.keeps }

-- a read
pub looks_read : {a b : RackView} (array sector : ℕ) (into : List ℕ) (result : Result (Unit {0}) Gone) → Reads a b array sector into result → OnlyReads a b
looks_read array sector into result r = record { stays = r.stays; keeps = r.keeps }

-- contents stay what they are
pub now_later : {a b : RackView} (array : ℕ) (now : Array) → array < a.disks → OnlyReads a b → IsNow a array now → IsNow b array now
now_later {a} {b} array now there looks is = record {
  told = looks.stays.told array is.told;
  current = λ sector within unspent.
      let inside : sector < a.sectors array = subst (λ n. sector < n) (looks.stays.sectors array) within in
      (looks.keeps.held array sector (record {
        disk = subst (λ n. array < n) (sym looks.stays.disks) there;
        sector = within;
        is_told = is.told;
        unspent = unspent;
      })).current
      ∙ is.current sector inside (looks.stays.spent array sector unspent);
}

-- a sector that was answered
pub read_ok : {a b : RackView} (array sector : ℕ) (into : List ℕ) (now : Array) → sector < a.sectors array → IsNow a array now → Reads a b array sector into {X = Unit {0}} (Ok tt)
    → IsRead a b array now sector into
read_ok {a} {b} array sector into now within is r = record {
  within = λ inside. inl (r.value is.told ∙ is.current sector inside (r.stays.spent array sector r.cause.served));
  past = λ over. absurd (omega arith);
}

-- that was refused
pub read_gone : {a b : RackView} (array sector : ℕ) (into : List ℕ) (gone : Gone) (now : Array) → sector < a.sectors array → Reads a b array sector into {X = Unit {0}} (Err gone)
    → IsRead a b array now sector []
read_gone {a} {b} array sector into gone now within r = record {
  within = λ inside. inr (refl, r.cause.gone.1);
  past = λ over. refl;
}

-- that isn't there
pub read_past : (a : RackView) (array sector : ℕ) (now : Array) → a.sectors array ≤ sector → IsRead a a array now sector []
read_past a array sector now past = record { within = λ inside. absurd (omega arith); past = λ over. refl }

-- ---- several reads

rose_until : {a b c : ℕ} → b ≤ c → Rose a b → Rose a c
rose_until after (inl rose) = inl (omega arith)
rose_until after (inr stands) = inr (omega arith)

-- what was read was so over a longer time
pub read_longer : {a b c d : RackView} (array : ℕ) (now : Array) (sector : ℕ) (bytes : List ℕ) → OnlyReads a b → OnlyReads c d → IsRead b c array now sector bytes → IsRead a d array now sector bytes
read_longer {a} {b} {c} {d} array now sector bytes before after is = record {
  within = λ inside. elim (is.within (subst (λ n. sector < n) (sym (before.stays.sectors array)) inside)) [
    | inl same ↦ inl same
    | inr none ↦ inr (none.0, rose_until (after.stays.faults array) (rose_since (before.stays.faults array) none.1))
  ];
  past = λ over. is.past (subst (λ n. n ≤ sector) (sym (before.stays.sectors array)) over);
}

pub held_read : (a b : RackView) (array : ℕ) (now : Array) → AreRead a b array now (held_on a array now)
held_read a b array now = λ sector. elim (cases_lt sector (a.sectors array)) [
  | inl inside ↦ record { within = λ within. inl (rw (lt-ltb sector (a.sectors array) inside) refl); past = λ over. absurd (omega arith) }
  | inr past ↦ record { within = λ within. absurd (omega arith); past = λ over. rw (le-ltb sector (a.sectors array) past) refl }
]

-- the contents with one sector read
abbrev pub with_sector : Array → ℕ → List ℕ → Array
with_sector c sector bytes = λ s. if s == sector then bytes else c s

not_there : (b : Bool) → (b ≡ true → ⊥) → b ≡ false
not_there true never = absurd (never refl)
not_there false never = refl

pub differs : (m n : ℕ) → m ≢ n → (m == n) ≡ false
differs m n other = not_there (m == n) (λ same. other (eqb-true m n same))

pub sector_read : {a b : RackView} (array : ℕ) (now c : Array) (sector : ℕ) (bytes : List ℕ) → AreRead a b array now c → IsRead a b array now sector bytes → AreRead a b array now (with_sector c sector bytes)
sector_read {a} {b} array now c sector bytes all is = λ s. elim (cases_eq s sector) [
  | inl here ↦ rw (here, eq-eqb sector sector refl) is
  | inr other ↦ rw (differs s sector other) (all s)
]
