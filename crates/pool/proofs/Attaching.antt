-- The disk of a name is attached, or the attaching refused: nothing was called.
use Rattle.std.proofs.Common.{◌≡◌, ◌⊎◌, ◌↔◌, ℕ, zero, suc, ◌+◌, ◌<◌, ◌≤◌, ◌^◌, bytes_eq, if◌then◌else◌, false, List, [], ◌∷◌, ◌++◌, length, slice_get, Some, None, refl, sym, ap, subst, ◌∙◌, inl, inr, arith, lt-ltb, le-ltb}
use Rattle.std.specs.Prelude.{Result, Ok, Err, IfErr, IfOk}
use Rattle.std.proofs.lemmas.Bool.{both_ways, cases_Bool, cases_lt}
use Rattle.std.proofs.lemmas.Option.{slice_get_within}
use Rattle.std.proofs.lemmas.Slice.Eq.{bytes_eq-Decides}
use Rattle.rack.specs.declared.AttachFault.{AttachFault}
use Rattle.rack.specs.declared.AttachFault.TheVariants.{Failed, Twice as TwiceAt, Memory as NoMemory}
use Rattle.rack.specs.Joins.{keeps_same}
use Rattle.rack.specs.Values.{Keeps, Values, only}
use Rattle.rack.specs.Seen.{RackView}
use Rattle.rack.specs.Shelf.{Adds, Attaches, IsSame, Shelf}
use Rattle.slice_rack.specs.Slices.{IsOrderly, disk_of, first_of, place_of, sectors_of}
use Rattle.slice_rack.specs.Sliced.{IsInside, slices_of}
use Rattle.slice_rack.proofs.Attached.{attached_reads, unattached_reads}
use Rattle.lvm_group.specs.Runs.{IsOrderly as IsOrderlyVolume}
use Rattle.raid_rack.specs.RaidRack.{IsFit}
use Rattle.raid_laws.proofs.Apart.{seat_is}
use Rattle.pool.specs.declared.replacing.GrowFault.{GrowFault}
use Rattle.pool.specs.declared.replacing.GrowFault.TheVariants.{Attach, Twice, Memory}
use Rattle.pool.specs.Continuing.{Continues, KeepsOutside, NoDisk}
use Rattle.pool.specs.Moment.{IsImage, IsNamed, moment_of}
use Rattle.pool.specs.Replaced.{IsOfDrive, faults_before}
use Rattle.pool.specs.Taking.{AreTold, AttachesDisk, Carries, IsOfPlace}
use Rattle.pool.specs.View.{View, book, slices_shown, volume}
use Rattle.pool.specs.Volume.{is_spent}
use Rattle.pool.proofs.Carrying.{carries_kept}
use Rattle.pool.specs.Held.{KeepsHeld}
use Rattle.pool.proofs.Held.{held_reads, live_disk}
use Rattle.raid_laws.specs.Raid.{live_of}
use Rattle.pool.proofs.Later.{disks_fit, inside_later, later, only_read, some_disk}
use Rattle.rack.specs.Sequences.{OnlyReads}
use Rattle.array_model.specs.Members.{slice_on}
use Rattle.raid_laws.specs.Truths.{KeepsTruths}
use Rattle.raid_rack.proofs.Truths.{truths_reads}

-- what a bay promises of its disks
pub record IsBay (b : RackView) (s : Shelf) : Type 0 where
  pub fit : b.fit
  pub lasting : b.lasting
  pub unspent : (d k : ℕ) → b.spent d k ≡ false
  pub small : (d : ℕ) → d < b.disks → b.sectors d < 2 ^ 48
  pub numbered : length s.names ≡ b.disks

never_named : {A : Type 0} (d : ℕ) (a : A) → ◌≡◌ {A = Result A AttachFault} (Ok a) (Err (TwiceAt d)) → ⊥
never_named d a same = cc

same_named : (d e : ℕ) → ◌≡◌ {A = Result ℕ AttachFault} (Err (TwiceAt d)) (Err (TwiceAt e)) → d ≡ e
same_named d e same = cc

-- one more at the end of a list
got_old : {X : Type 0} (xs : List X) (y : X) (k : ℕ) → k < length xs → slice_get (xs ++ y ∷ []) k ≡ slice_get xs k
got_old [] y k low = absurd (omega (arith, low))
got_old (x ∷ xs) y zero low = refl
got_old (x ∷ xs) y (suc k) low = got_old xs y k (omega (arith, low))

got_new : {X : Type 0} (xs : List X) (y : X) → slice_get (xs ++ y ∷ []) (length xs) ≡ Some y
got_new [] y = refl
got_new (x ∷ xs) y = got_new xs y

module _ (x : View) (b : RackView) (s : Shelf) (name : List ℕ) (raw : Result ℕ AttachFault) (was : IsBay x.bay x.shelf) (now : IsBay b s)
    (orderly : IsOrderly x.slices) (linear : IsOrderlyVolume x.linear) (fit : (volume x).fit) (attaches : Attaches x.bay b x.shelf s name raw) where
  abbrev m : View
  m = later x b s x.slices x.arrays

  inside : IsInside x.slices x.bay
  inside = fit.0.running.set.fit.1

  -- a disk has one name
  one_named : (d e : ℕ) → slice_get x.shelf.names d ≡ Some name → slice_get x.shelf.names e ≡ Some name → d ≡ e
  one_named d e first second = same_named d e (sym ((attaches.twice d).1 first) ∙ (attaches.twice e).1 second)

  -- ---- the disk is added

  module _ (number : ℕ) (adds : Adds x.bay b x.shelf s name number) where
    old_disk : (d : ℕ) → 0 < sectors_of x.slices d → disk_of x.slices d < x.bay.disks
    old_disk d has = inside.seats (place_of d) (disk_of x.slices d) (seat_is x.slices d 0 orderly has)

    added_fit : (slices_of x.slices b).fit
    added_fit = (
      now.fit,
      record {
        small = now.small;
        seats = λ place disk is. let old = inside.seats place disk is in let more = adds.disks in omega (arith, old, more);
        slices = λ d has. subst (λ n. first_of x.slices d + sectors_of x.slices d ≤ n) (sym (adds.others (disk_of x.slices d) (old_disk d has)).sectors) (inside.slices d has);
      },
    )

    added_arrays : IsFit x.arrays (slices_of x.slices b)
    added_arrays = disks_fit x.arrays x.slices x.bay b fit.0 added_fit now.lasting

    all_told : x.shelf.told → AreTold x → (d : ℕ) → d < b.disks → b.told d
    all_told names all d low =
        elim (cases_lt d x.bay.disks) [
          | inl old ↦ (adds.others d old).told (all d old)
          | inr new ↦
              let waited = (adds.waited names).2 in
              let more = adds.disks in
              let own = adds.number in
              let same : number ≡ d = omega (arith, low, new, more, own) in
              subst (λ e. b.told e) same waited.told
        ]

    -- its name is the last one
    pub named : slice_get s.names number ≡ Some name
    named =
        ap (λ names. slice_get names number) adds.names
        ∙ subst (λ k. slice_get (x.shelf.names ++ name ∷ []) k ≡ Some name) (was.numbered ∙ sym adds.number) (got_new x.shelf.names name)

    pub added_continues : Continues x m
    added_continues = record {
      proceeds = record {
        fit = (added_arrays, inside_later x b s x.slices x.arrays fit refl (λ n. refl));
        disks = record {
          disks = let more = adds.disks in omega (arith, more);
          sectors = λ d low. (adds.others d low).sectors;
          faults = λ d low. let same = (adds.others d low).faults in omega (arith, same);
          names = λ d own is. ap (λ names. slice_get names d) adds.names ∙ got_old x.shelf.names name d (slice_get_within x.shelf.names d own is) ∙ is;
          waits = λ n.
              elim (cases_Bool (bytes_eq n name)) [
                | inl is ↦
                    (let same = (bytes_eq-Decides n name).0 is in
                    inr (
                      subst (λ k. s.ready k ≡ None) (sym same) adds.gone,
                      (number, (let at = adds.number in omega (arith, at)), subst (λ k. slice_get s.names number ≡ Some k) (sym same) named),
                    ))
                | inr other ↦ inl (adds.ready n (λ same. both_ways (bytes_eq n name) other ((bytes_eq-Decides n name).1 same)))
              ];
        };
        told = adds.told;
        traced = λ told traced. adds.traced traced told;
        later = λ told traced. let same = adds.clock in omega (arith, same);
        past = λ told traced k i until stopped. adds.past traced k i until stopped;
      };
      orderly = λ orderly. orderly;
      linear = refl;
      size = refl;
      unattached = attaches.faults;
      tells = λ d low told. (adds.others d low).told told;
      known = all_told;
      lasting = λ _. now.lasting;
      lasts = λ _ d k low alive. now.unspent d k;
    }

    pub added_carries : Carries x m
    added_carries = record {
      spent = λ k alive. alive;
      told = λ names all k low alive told. (kept names k alive).told names all k low alive told;
      keeps = λ names all k low alive told. (kept names k alive).keeps names all k low alive told;
      made = refl;
      truths = truths_kept;
      held = held_kept;
    }
      where
        reads : x.shelf.told → 0 < x.bay.disks → OnlyReads (slices_of x.slices x.bay) (slices_of x.slices b)
        reads names some = attached_reads x.slices x.bay b x.shelf s name number adds names some inside now.fit now.lasting was.unspent now.unspent now.small

        truths_kept : x.shelf.told → AreTold x → KeepsTruths (book x) (book m) (slices_shown x) (slices_shown m)
        truths_kept names all n low held k within there =
            let d = slice_on ((book x).arrays n) k in
            let long = (held k within there).live.sector in
            let disk = old_disk d (omega (arith, long)) in
            truths_reads (book x) (slices_of x.slices x.bay) (slices_of x.slices b) fit.0.running.set (reads names (omega (arith, disk))) n low held k within there

        held_at : x.shelf.told → (n k : ℕ) → live_of (book x) n k → KeepsHeld (book x) (book m) (slices_shown x) (slices_shown m)
        held_at names n k alive = held_reads x b fit added_arrays (reads names (live_disk x n k orderly fit alive))

        held_kept : x.shelf.told → AreTold x → KeepsHeld (book x) (book m) (slices_shown x) (slices_shown m)
        held_kept names all = record {
          sectors = λ n. refl;
          live = λ n k low alive. alive;
          told = λ n k low alive told. (held_at names n k alive).told n k low alive told;
          keeps = λ n k low within alive told. (held_at names n k alive).keeps n k low within alive told;
        }

        kept : x.shelf.told → (k : ℕ) → is_spent m k ≡ false → Carries x m
        kept names k alive =
            let both = only_read x b s linear fit added_arrays (reads names (some_disk x k orderly fit alive)) in
            carries_kept x m both.0 both.1 refl truths_kept held_kept

    pub added_outside : KeepsOutside x.slices x.slices NoDisk x.shelf.told x.bay b
    added_outside = record {
      slices = λ d k v is. inl is;
      held = λ d k out. subst (λ h. Keeps (x.bay.held d k) h) (sym ((adds.others d out.disk).held k)) (keeps_same (x.bay.held d k));
      stops = λ told traced k i since until stopped. let same = adds.clock in absurd (omega (arith, since, until, same));
    }

    added_faults : (d : ℕ) → d < b.disks → b.faults d ≡ faults_before (moment_of x) d
    added_faults d low =
        elim (cases_lt d x.bay.disks) [
          | inl old ↦ (adds.others d old).faults ∙ sym (ap (λ t. if t then x.bay.faults d else 0) (lt-ltb d x.bay.disks old))
          | inr new ↦
              let more = adds.disks in
              let own = adds.number in
              let same : d ≡ number = omega (arith, low, new, more, own) in
              ap b.faults same ∙ adds.unfaulted ∙ sym (ap (λ t. if t then x.bay.faults d else 0) (le-ltb d x.bay.disks new))
        ]

  -- ---- nothing is added

  module _ (same : IsSame x.bay b x.shelf s) where
    same_fit : (slices_of x.slices b).fit
    same_fit = (
      now.fit,
      record {
        small = now.small;
        seats = λ place disk is. subst (λ n. disk < n) (sym same.disks) (inside.seats place disk is);
        slices = λ d has. subst (λ n. first_of x.slices d + sectors_of x.slices d ≤ n) (sym (same.others (disk_of x.slices d)).sectors) (inside.slices d has);
      },
    )

    same_arrays : IsFit x.arrays (slices_of x.slices b)
    same_arrays = disks_fit x.arrays x.slices x.bay b fit.0 same_fit now.lasting

    pub same_continues : Continues x m
    same_continues = record {
      proceeds = record {
        fit = (same_arrays, inside_later x b s x.slices x.arrays fit refl (λ n. refl));
        disks = record {
          disks = let equal = same.disks in omega (arith, equal);
          sectors = λ d low. (same.others d).sectors;
          faults = λ d low. let equal = (same.others d).faults in omega (arith, equal);
          names = λ d own is. ap (λ names. slice_get names d) same.names ∙ is;
          waits = λ n. inl (same.ready n);
        };
        told = same.told;
        traced = λ told traced. same.traced traced;
        later = λ told traced. let equal = same.clock in omega (arith, equal);
        past = λ told traced k i until stopped. same.past k i stopped;
      };
      orderly = λ orderly. orderly;
      linear = refl;
      size = refl;
      unattached = attaches.faults;
      tells = λ d low told. (same.others d).told told;
      known = λ names all d low. (same.others d).told (all d (subst (λ n. d < n) same.disks low));
      lasting = λ _. now.lasting;
      lasts = λ _ d k low alive. now.unspent d k;
    }

    pub same_carries : Carries x m
    same_carries =
        let reads = unattached_reads x.slices x.bay b x.shelf s same inside now.fit now.lasting was.unspent now.unspent in
        let both = only_read x b s linear fit same_arrays reads in
        carries_kept x m both.0 both.1 refl (λ names all. truths_reads (book x) (slices_of x.slices x.bay) (slices_of x.slices b) fit.0.running.set reads)
        (λ names all. held_reads x b fit same_arrays reads)

    pub same_outside : KeepsOutside x.slices x.slices NoDisk x.shelf.told x.bay b
    same_outside = record {
      slices = λ d k v is. inl is;
      held = λ d k out. subst (λ h. Keeps (x.bay.held d k) h) (sym ((same.others d).held k)) (keeps_same (x.bay.held d k));
      stops = λ told traced k i since until stopped. let equal = same.clock in absurd (omega (arith, since, until, equal));
    }

    same_faults : (d : ℕ) → d < b.disks → b.faults d ≡ faults_before (moment_of x) d
    same_faults d low = (same.others d).faults ∙ sym (ap (λ t. if t then x.bay.faults d else 0) (lt-ltb d x.bay.disks (subst (λ n. d < n) same.disks low)))

    one_still : (d e : ℕ) → IsNamed (moment_of m) name d → IsNamed (moment_of m) name e → d ≡ e
    one_still d e first second = one_named d e (old d first) (old e second)
      where
        old : (d : ℕ) → slice_get s.names d ≡ Some name → slice_get x.shelf.names d ≡ Some name
        old d is = ap (λ names. slice_get names d) (sym same.names) ∙ is

    -- it stays as it is, by what the answer is
    pub unattached : (result : Result ℕ GrowFault) → IfOk result (λ d. IsNamed (moment_of m) name d × (d < b.disks) × (IsOfPlace (moment_of x) d → ⊥))
        → IfErr result (λ e. (e ≡ Attach) ⊎ ((e ≡ Memory) ⊎ (e ≡ Twice)))
        → (result ≡ Err Attach → raw ≡ Err Failed) → (result ≡ Err Memory → raw ≡ Err NoMemory)
        → (result ≡ Err Twice) ↔ IsOfDrive (moment_of x) name → AttachesDisk x m name result
    unattached result ok err failed memory twice = record {
      continues = same_continues;
      carries = same_carries;
      outside = same_outside;
      clock = same.clock;
      held = λ d low k. (same.others d).held k;
      faults = same_faults;
      ok = ok;
      names = record {
        one = one_still;
        there = λ d named. let low = slice_get_within s.names d name named in let count = now.numbered in omega (arith, low, count);
        came = λ d past low. let equal = same.disks in absurd (omega (arith, past, low, equal));
        old = λ d low named. ap (λ names. slice_get names d) (sym same.names) ∙ named;
        others = λ d n is. inl (ap (λ names. slice_get names d) (sym same.names) ∙ is);
      };
      image = λ told d named. (
        x.bay.held d,
        inl (
          d,
          (let low = slice_get_within s.names d name named in let count = now.numbered in let equal = same.disks in omega (arith, low, count, equal)),
          ap (λ names. slice_get names d) (sym same.names) ∙ named,
          (same.others d).sectors,
          refl,
        ),
        λ k within. (same.others d).held k,
      );
      err = err;
      attach = λ is. attaches.failed (failed is);
      none = λ why. let equal = same.disks in omega (arith, equal);
      used = λ d named.
          let found = (attaches.twice d).1 named in (
            λ is. not_failed d (sym (failed is) ∙ found),
            λ is. not_memory d (sym (memory is) ∙ found),
          );
      twice = twice;
    }
      where
        not_failed : (d : ℕ) → ◌≡◌ {A = Result ℕ AttachFault} (Err Failed) (Err (TwiceAt d)) → ⊥
        not_failed d same = cc

        not_memory : (d : ℕ) → ◌≡◌ {A = Result ℕ AttachFault} (Err NoMemory) (Err (TwiceAt d)) → ⊥
        not_memory d same = cc

  -- a disk that is added is nobody's
  pub attached : (number : ℕ) → raw ≡ Ok number → Adds x.bay b x.shelf s name number → AttachesDisk x m name (Ok number)
  attached number is adds = record {
    continues = added_continues number adds;
    carries = added_carries number adds;
    outside = added_outside number adds;
    clock = adds.clock;
    held = λ d low k. (adds.others d low).held k;
    faults = added_faults number adds;
    ok = (
      own,
      let more = adds.disks in let at = adds.number in omega (arith, more, at),
      λ of. let old = inside.seats of.0 number of.1 in let at = adds.number in omega (arith, old, at),
    );
    names = record {
      one = λ d e first second. last d first ∙ sym (last e second);
      there = λ d named. let low = slice_get_within s.names d name named in let count = now.numbered in omega (arith, low, count);
      came = λ d past low.
          let more = adds.disks in
          let at = adds.number in
          let same : number ≡ d = omega (arith, past, low, more, at) in
          subst (λ e. slice_get s.names e ≡ Some name) same own;
      old = λ d low named. let at = last d named in let new = adds.number in absurd (omega (arith, low, at, new));
      others = λ d n is.
          elim (cases_lt d (length x.shelf.names)) [
            | inl low ↦ inl (sym (got_old x.shelf.names name d low) ∙ ap (λ names. slice_get names d) (sym adds.names) ∙ is)
            | inr past ↦ inr (same_name n name (sym is ∙ ap (slice_get s.names) (end_of d n past is) ∙ own))
          ];
    };
    image = λ told d named. subst (λ (e : ℕ). HasImage e) (sym (last d named)) (waited told);
    err = tt;
    attach = λ same. absurd (never_fault Attach number same);
    none = λ why. elim why [ inl same ↦ absurd (never_fault Attach number same) | inr same ↦ absurd (never_fault Memory number same) ];
    used = λ d named. absurd (none d named);
    twice = (λ same. absurd (never_fault Twice number same), λ of. absurd (none of.0 of.2));
  }
    where
      never_fault : (e : GrowFault) (d : ℕ) → ◌≡◌ {A = Result ℕ GrowFault} (Ok d) (Err e) → ⊥
      never_fault e d same = cc

      none : (d : ℕ) → slice_get x.shelf.names d ≡ Some name → ⊥
      none d named = never_named d number (sym is ∙ (attaches.twice d).1 named)

      long : length x.shelf.names ≡ number
      long = was.numbered ∙ sym adds.number

      own : slice_get s.names number ≡ Some name
      own = named number adds

      HasImage : ℕ → Type 0
      HasImage d = (held : ℕ → Values) × IsImage (moment_of x) name (b.sectors d) held × ((k : ℕ) → k < b.sectors d → b.held d k ≡ held k)

      -- it has what waited
      waited : x.shelf.told → HasImage number
      waited told =
          let one = adds.waited told in
          let w = one.0 in
          let from = one.2 in (
            λ k. only (w.contents k),
            inr (none, (w, one.1, from.sectors, refl)),
            λ k within. from.held k (subst (λ n. k < n) from.sectors within),
          )

      same_name : (a b : List ℕ) → Some a ≡ Some b → a ≡ b
      same_name a b same = cc

      end_of : (d : ℕ) (n : List ℕ) → length x.shelf.names ≤ d → slice_get s.names d ≡ Some n → d ≡ number
      end_of d n past is =
          let inside_now = slice_get_within s.names d n is in
          let more : length s.names ≡ b.disks = now.numbered in
          let disks = adds.disks in
          let count = was.numbered in
          omega (arith, inside_now, more, disks, past, long, count)

      last : (d : ℕ) → slice_get s.names d ≡ Some name → d ≡ number
      last d named =
          elim (cases_lt d (length x.shelf.names)) [
            | inl old ↦
                absurd
                (none d (sym (got_old x.shelf.names name d old) ∙ ap (λ names. slice_get names d) (sym adds.names) ∙ named))
            | inr new ↦ end_of d name new named
          ]
