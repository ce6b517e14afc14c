-- Calls of a pool in a row that may attach disks.
use Rattle.std.proofs.Common.{◌≡◌, ◌⊎◌, ℕ, ◌<◌, false, List, slice_get, refl, sym, ap, subst, ◌∙◌, inl, inr, arith}
use Rattle.std.proofs.lemmas.Bool.{cases_lt}
use Rattle.rack.specs.Joins.{keeps_then}
use Rattle.rack.specs.Seen.{IsLive, RackView}
use Rattle.rack.specs.Sequences.{WritesOnly}
use Rattle.slice_rack.specs.Runs.{IsSliced}
use Rattle.slice_rack.specs.Slices.{IsOrderly, Slices}
use Rattle.pool.specs.View.{View, volume}
use Rattle.pool.specs.Calls.{CallFrame}
use Rattle.pool.specs.Continuing.{Continues, IsOutside, KeepsOutside}
use Rattle.pool.specs.Proceeding.{Proceeds}

-- no call
pub proceeds_same : (x : View) → (volume x).fit → Proceeds x x
proceeds_same x fit = record {
  fit = fit;
  disks = record {
    disks = omega arith;
    sectors = λ d low. refl;
    faults = λ d low. omega arith;
    names = λ d name is. is;
    waits = λ name. inl refl;
  };
  told = λ told. told;
  traced = λ told traced. traced;
  later = λ told traced. omega arith;
  past = λ told traced k i until stopped. stopped;
}

-- calls in a row
pub proceeds_then : (x y z : View) → Proceeds x y → Proceeds y z → Proceeds x z
proceeds_then x y z one two =
    let more = one.disks.disks in
    record {
      fit = two.fit;
      disks = record {
        disks = let rest = two.disks.disks in omega (arith, more, rest);
        sectors = λ d low. two.disks.sectors d (omega (arith, low, more)) ∙ one.disks.sectors d low;
        faults = λ d low. let first = one.disks.faults d low in let second = two.disks.faults d (omega (arith, low, more)) in omega (arith, first, second);
        names = λ d name is. two.disks.names d name (one.disks.names d name is);
        waits = λ name.
            elim (two.disks.waits name) [
              | inl still ↦ elim (one.disks.waits name) [
                | inl same ↦ inl (still ∙ same)
                | inr taken ↦ inr (still ∙ taken.0, (taken.1.0, taken.1.1, two.disks.names taken.1.0 name taken.1.2))
              ]
              | inr taken ↦ inr (taken.0, (taken.1.0, (let past = taken.1.1 in omega (arith, past, more)), taken.1.2))
            ];
      };
      told = λ told. two.told (one.told told);
      traced = λ told traced. two.traced (one.told told) (one.traced told traced);
      later = λ told traced.
          let first = one.later told traced in
          let second = two.later (one.told told) (one.traced told traced) in
          omega (arith, first, second);
      past = λ told traced k i until stopped.
          let first = one.later told traced in
          one.past told traced k i until (two.past (one.told told) (one.traced told traced) k i (omega (arith, first, until)) stopped);
    }

-- ---- calls that keep the volume where it lies

-- no call
pub continues_same : (x : View) → (volume x).fit → Continues x x
continues_same x fit = record {
  proceeds = proceeds_same x fit;
  orderly = λ orderly. orderly;
  linear = refl;
  size = refl;
  unattached = omega arith;
  tells = λ d low told. told;
  known = λ told all. all;
  lasting = λ lasting. lasting;
  lasts = λ lasting d s low alive. alive;
}

-- a call that attaches none
pub continues_of : (x y : View) → CallFrame x y → Continues x y
continues_of x y passes =
    let bay = passes.apart.stays in
    record {
      proceeds = record {
        fit = passes.stays.fit;
        disks = record {
          disks = let same = bay.disks in omega (arith, same);
          sectors = λ d low. bay.sectors d;
          faults = λ d low. bay.faults d;
          names = λ d name is. ap (λ names. slice_get names d) passes.shelf.names ∙ is;
          waits = λ name. inl (passes.shelf.ready name);
        };
        told = passes.shelf.told;
        traced = λ told traced. bay.traced traced;
        later = λ told traced. (passes.apart.stops traced).later;
        past = λ told traced k i until stopped. (passes.apart.stops traced).past k i until stopped;
      };
      orderly = subst IsOrderly (sym passes.slices);
      linear = passes.linear;
      size = passes.stays.sectors 0;
      unattached = let same = passes.shelf.faults in omega (arith, same);
      tells = λ d low told. bay.told d told;
      known = λ told all d low. bay.told d (all d (subst (λ n. d < n) bay.disks low));
      lasting = bay.lasting;
      lasts = λ lasting d s low alive. bay.lasts lasting d s alive;
    }

-- calls in a row
pub continues_then : (x y z : View) → Continues x y → Continues y z → Continues x z
continues_then x y z one two =
    let more = one.proceeds.disks.disks in
    record {
      proceeds = proceeds_then x y z one.proceeds two.proceeds;
      orderly = λ orderly. two.orderly (one.orderly orderly);
      linear = two.linear ∙ one.linear;
      size = two.size ∙ one.size;
      unattached = let first = one.unattached in let second = two.unattached in omega (arith, first, second);
      tells = λ d low told. two.tells d (omega (arith, low, more)) (one.tells d low told);
      known = λ told all. two.known (one.proceeds.told told) (one.known told all);
      lasting = λ lasting. two.lasting (one.lasting lasting);
      lasts = λ lasting d s low alive. two.lasts (one.lasting lasting) d s (omega (arith, low, more)) (one.lasts lasting d s low alive);
    }

-- ---- sectors outside slices

-- calls that write sectors of slices and of these disks alone
pub outside_writes : (t u : Slices) (named : ℕ → Type 0) (Told : Type 0) (a b : RackView) (may : ℕ → ℕ → List ℕ → Type 0)
    → WritesOnly a b may → ((d s : ℕ) → b.spent d s ≡ false)
    → ((d s : ℕ) (v : List ℕ) → may d s v → IsSliced t d s v ⊎ named d)
    → ((d s : ℕ) (v : List ℕ) → IsSliced u d s v → IsSliced t d s v ⊎ named d)
    → KeepsOutside t u named Told a b
outside_writes t u named Told a b may only unspent inside slices = record {
  slices = slices;
  held = λ d s out. only.others d s (live d s out) (never d s out);
  stops = λ told traced k i since until stopped d s out.
      elim ((only.stops traced).new k i since until stopped d s (live d s out)) [
        | inl before ↦ before
        | inr written ↦ absurd (never d s out (i d s) written)
      ];
}
  where
    live : (d s : ℕ) → IsOutside t named a d s → IsLive a b d s
    live d s out = record {
      disk = subst (λ n. d < n) (sym only.stays.disks) out.disk;
      sector = subst (λ n. s < n) (sym (only.stays.sectors d)) out.sector;
      is_told = out.is_told;
      unspent = unspent d s;
    }

    never : (d s : ℕ) → IsOutside t named a d s → (v : List ℕ) → may d s v → ⊥
    never d s out v written = elim (inside d s v written) [ inl sliced ↦ out.unsliced v sliced | inr is ↦ out.unnamed is ]

-- a call that attaches none
pub outside_of : (x y : View) (named : ℕ → Type 0) → CallFrame x y → ((d s : ℕ) → y.bay.spent d s ≡ false)
    → KeepsOutside x.slices y.slices named x.shelf.told x.bay y.bay
outside_of x y named passes unspent =
    outside_writes x.slices y.slices named x.shelf.told x.bay y.bay (IsSliced x.slices) passes.apart unspent (λ d s v is. inl is)
    (λ d s v is. inl (subst (λ t. IsSliced t d s v) passes.slices is))

-- of fewer disks
pub outside_fewer : (t u : Slices) (few named : ℕ → Type 0) (Told : Type 0) (a b : RackView) → ((d : ℕ) → few d → named d)
    → KeepsOutside t u few Told a b → KeepsOutside t u named Told a b
outside_fewer t u few named Told a b among keeps = record {
  slices = λ d s v is. elim (keeps.slices d s v is) [ inl before ↦ inl before | inr one ↦ inr (among d one) ];
  held = λ d s out. keeps.held d s (less d s out);
  stops = λ told traced k i since until stopped d s out. keeps.stops told traced k i since until stopped d s (less d s out);
}
  where
    less : (d s : ℕ) → IsOutside t named a d s → IsOutside t few a d s
    less d s out = record { disk = out.disk; sector = out.sector; is_told = out.is_told; unnamed = λ is. out.unnamed (among d is); unsliced = out.unsliced }

-- calls in a row
pub outside_then : (x y z : View) (first second : ℕ → Type 0) → Continues x y → Continues y z
    → KeepsOutside x.slices y.slices first x.shelf.told x.bay y.bay → KeepsOutside y.slices z.slices second y.shelf.told y.bay z.bay
    → KeepsOutside x.slices z.slices (λ d. first d ⊎ second d) x.shelf.told x.bay z.bay
outside_then x y z first second before after one two = record {
  slices = λ d s v is.
      elim (two.slices d s v is) [
        | inl mid ↦ elim (one.slices d s v mid) [ inl old ↦ inl old | inr named ↦ inr (inl named) ]
        | inr named ↦ inr (inr named)
      ];
  held = λ d s out. keeps_then (x.bay.held d s) (y.bay.held d s) (z.bay.held d s) (one.held d s (early d s out)) (two.held d s (late d s out));
  stops = λ told traced k i since until stopped d s out.
      elim (cases_lt y.bay.clock k) [
        | inl now ↦
            (one.held d s (early d s out)).within (i d s)
            (two.stops (before.proceeds.told told) (before.proceeds.traced told traced) k i now until stopped d s (late d s out))
        | inr past ↦
            one.stops told traced k i since past (after.proceeds.past (before.proceeds.told told) (before.proceeds.traced told traced) k i past stopped) d s (early d s out)
      ];
}
  where
    Both : ℕ → Type 0
    Both = λ d. first d ⊎ second d

    early : (d s : ℕ) → IsOutside x.slices Both x.bay d s → IsOutside x.slices first x.bay d s
    early d s out = record { disk = out.disk; sector = out.sector; is_told = out.is_told; unnamed = λ is. out.unnamed (inl is); unsliced = out.unsliced }

    late : (d s : ℕ) → IsOutside x.slices Both x.bay d s → IsOutside y.slices second y.bay d s
    late d s out = record {
      disk = let low = out.disk in let more = before.proceeds.disks.disks in omega (arith, low, more);
      sector = subst (λ n. s < n) (sym (before.proceeds.disks.sectors d out.disk)) out.sector;
      is_told = before.tells d out.disk out.is_told;
      unnamed = λ is. out.unnamed (inr is);
      unsliced = λ v is. elim (one.slices d s v is) [ inl old ↦ out.unsliced v old | inr named ↦ out.unnamed (inl named) ];
    }
