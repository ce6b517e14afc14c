-- Where a pool was refused for its volume alone, or not at all, the pool that is found again is refused for the same.
use Rattle.std.proofs.Common.{◌≡◌, ℕ, zero, suc, ◌+◌, ◌<◌, Bool, true, false, ◌&&◌, ◌||◌, not, nat_lt, bytes_eq, is_none, is_some, if◌then◌else◌, List, [], ◌∷◌, filter, find, length, Option, Some, None, option_map, inl, inr, refl, sym, ap, ap₂, subst, ◌∙◌, lt-ltb, arith}
use Rattle.std.specs.List.{list_all, list_any, range_with_len}
use Rattle.std.specs.Option.{option_and_then, option_map_or, option_or}
use Rattle.std.proofs.lemmas.Bool.{both_ways, cases_Bool}
use Rattle.std.proofs.lemmas.Slice.Eq.{bytes_eq-Decides}
use Rattle.std.proofs.lemmas.Option.{none-some}
use Rattle.rack.specs.Seen.{Image, RackView}
use Rattle.shr_base.specs.declared.Id.{Id}
use Rattle.slice_rack.specs.Slices.{Slices}
use Rattle.md_super.specs.declared.superblock.Super.{Super}
use Rattle.pool_state.specs.declared.contents.Copied.{Copied}
use Rattle.pool_state.specs.declared.contents.State.{State}
use Rattle.array_image.specs.Arrays.{Shape}
use Rattle.array_image.specs.Left.{IsLeft}
use Rattle.array_image.specs.States.{current_places, is_current}
use Rattle.array_image.specs.Supers.{is_unclean, super_in}
use Rattle.log_laws.specs.View.{names}
use Rattle.log_laws.proofs.Naming.{names_range}
use Rattle.raid_laws.proofs.Added.{names_current}
use Rattle.raid_laws.specs.Raid.{Raid}
use Rattle.pool_image.specs.Disks.{Identity}
use Rattle.pool_image.specs.Drives.{Found, found}
use Rattle.pool_image.specs.Meaning.{Part, Refusal, absent, absent_count, arrays_of, bad_volume, damage_of, damage_on, damaged, dirty_degraded, first_damaged, has_log, has_other_pool, has_supers, has_table, in_log, in_state, in_superblock, in_table, is_dirty_degraded, is_member, is_too_few, joined_arrays, lacking_of, no_pool, refusal_of, refused_at, refused_by, shape_of, super_at, too_few, truth_of, two_pools}
use Rattle.pool_image.specs.Volumes.{first_bad}
use Rattle.pool_image.specs.Replay.{Standing}
use Rattle.pool_model.specs.Left.{LeavesClean}
use Rattle.pool_model.proofs.Copies.{ahead_of, c, copied_now, current_before, ids, IsKnown, other_same, s, seat_there, seated_or, seats_now}
use Rattle.pool_model.proofs.Extents.{is, is_is, made_same, member_same, truth_is, was, was_is}
use Rattle.pool_model.proofs.Known.{left, says_pool}
use Rattle.pool_model.proofs.Rested.{found_now, now, stands_so, stood}
use Rattle.pool_model.proofs.Said.{SaysPool}
use Rattle.pool_model.proofs.Still.{same}
use Rattle.pool_model.proofs.Undamaged.{find_false, present_now, sound_parts}
use Rattle.pool_model.proofs.Values.{HoldValues, bad_same, shape_same}

-- ---- lists

find_none : (p : ℕ → Bool) (a m : ℕ) → ((n : ℕ) → n < a + m → p n ≡ false) → find p (range_with_len a m) ≡ None
find_none p a zero none = refl
find_none p a (suc m) none =
    ap (λ (b : Bool). if b then Some a else find p (range_with_len (a + 1) m)) (none a (omega arith))
    ∙ find_none p (a + 1) m (λ n low. none n (omega (arith, low)))

find_kept : (p keep : ℕ → Bool) (xs : List ℕ) → ((x : ℕ) → keep x ≡ true → p x ≡ false) → find p (filter keep xs) ≡ None
find_kept p keep [] each = refl
find_kept p keep (x ∷ xs) each = of (keep x) refl (find_kept p keep xs each)
  where
    of : (b : Bool) → keep x ≡ b → find p (filter keep xs) ≡ None → find p (if b then x ∷ filter keep xs else filter keep xs) ≡ None
    of true is rest = ap (λ b. if b then Some x else find p (filter keep xs)) (each x is) ∙ rest
    of false is rest = rest

find_passes : (p : ℕ → Bool) (xs : List ℕ) (x : ℕ) → find p xs ≡ Some x → p x ≡ true
find_passes p [] x is = absurd (none-some x is)
find_passes p (y ∷ ys) x is = of (p y) refl (find_passes p ys x) is
  where
    alike : {a b : ℕ} → Some a ≡ Some b → a ≡ b
    alike e = cc

    of : (b : Bool) → p y ≡ b → (find p ys ≡ Some x → p x ≡ true) → (if b then Some y else find p ys) ≡ Some x → p x ≡ true
    of true passes later at = subst (λ k. p k ≡ true) (alike at) passes
    of false fails later at = later at

pub all_range : (p : ℕ → Bool) (a m : ℕ) → ((n : ℕ) → n < a + m → p n ≡ true) → list_all p (range_with_len a m) ≡ true
all_range p a zero each = refl
all_range p a (suc m) each = ap₂ (λ b rest. b && rest) (each a (omega arith)) (all_range p (a + 1) m (λ n low. each n (omega (arith, low))))

none_range : (p : ℕ → Bool) (a m : ℕ) → ((n : ℕ) → n < a + m → p n ≡ false) → list_any p (range_with_len a m) ≡ false
none_range p a zero each = refl
none_range p a (suc m) each = ap₂ (λ b rest. b || rest) (each a (omega arith)) (none_range p (a + 1) m (λ n low. each n (omega (arith, low))))

none_of : {X : Type 0} (o : Option X) → is_some o ≡ false → o ≡ None
none_of None none = refl
none_of (Some x) none = absurd (both_ways true none refl)

-- ---- a pool that isn't refused but for its volume

is_volume : Refusal → Bool
is_volume no_pool = false
is_volume two_pools = false
is_volume (absent count) = false
is_volume (damaged place part) = false
is_volume (too_few array) = false
is_volume (dirty_degraded array) = false
is_volume (bad_volume array) = true

abbrev maybe : Option Refusal → Bool
maybe o = option_map_or is_volume o true

of_volume : (b : Option ℕ) → maybe (option_map bad_volume b) ≡ true
unfolding is_volume
of_volume None = refl
of_volume (Some array) = refl

-- the parts of such a refusal
refusal_parts : (a : Bool) (k : ℕ) (d : Option Refusal) (t u : Option ℕ) (b : Option Refusal)
    → maybe (if a then Some (absent k) else option_or d (option_or (option_map too_few t) (option_or (option_map dirty_degraded u) b))) ≡ true
    → (maybe d ≡ true) × (d ≡ None → (t ≡ None) × (u ≡ None))
unfolding is_volume
refusal_parts true k d t u b passes = absurd (both_ways false refl passes)
refusal_parts false k (Some why) t u b passes = (passes, λ none. absurd (none-some why (sym none)))
refusal_parts false k None (Some n) u b passes = absurd (both_ways false refl passes)
refusal_parts false k None None (Some n) b passes = absurd (both_ways false refl passes)
refusal_parts false k None None None b passes = (refl, λ none. (refl, refl))

module _ (f : Found) (passes : refused_by f ≡ option_map bad_volume (first_bad (joined_arrays f))) where
  parts : (maybe (first_damaged f) ≡ true) × (first_damaged f ≡ None → (find (is_too_few f) (arrays_of f) ≡ None) × (find (is_dirty_degraded f) (arrays_of f) ≡ None))
  unfolding refused_by
  parts =
      refusal_parts (nat_lt 1 (absent_count f)) (absent_count f) (first_damaged f) (find (is_too_few f) (arrays_of f)) (find (is_dirty_degraded f) (arrays_of f))
      (option_map bad_volume (first_bad (joined_arrays f)))
      (ap maybe passes ∙ of_volume (first_bad (joined_arrays f)))

  none_damaged : find (λ place. is_some (damage_of f place)) (current_places f.state) ≡ None
  unfolding is_volume
  none_damaged = by (find (λ place. is_some (damage_of f place)) (current_places f.state)) refl
    where
      of : (place : ℕ) → (o : Option Part) → is_some o ≡ true → maybe (option_map (damaged place) o) ≡ true → ⊥
      of place None some passes = both_ways false refl some
      of place (Some part) some passes = both_ways false refl passes

      by : (o : Option ℕ) → find (λ place. is_some (damage_of f place)) (current_places f.state) ≡ o → o ≡ None
      by None none = refl
      by (Some place) some =
          absurd (of place (damage_of f place) (find_passes (λ place. is_some (damage_of f place)) (current_places f.state) place some)
          (sym (ap (λ o. maybe (option_and_then (λ place. option_map (damaged place) (damage_of f place)) o)) some) ∙ parts.0))

  -- a drive of it has its table
  pub table_there : (p d : ℕ) → is_current f.state p ≡ true → f.seats p ≡ Some d → has_table f p d ≡ true
  unfolding damage_of
  table_there p d current seat =
      let whole : damage_of f p ≡ None =
      none_of (damage_of f p) (find_false (λ place. is_some (damage_of f place)) (current_places f.state) p none_damaged (names_current f.state p ∙ current)) in
      by (has_table f p d) refl (sym (ap (option_and_then (damage_on f p)) seat) ∙ whole)
    where
      by : (b : Bool) → has_table f p d ≡ b
          → (if not b then Some in_table
          else if is_none (f.identities d).copied then Some in_state
          else if not (has_log f p) then Some in_log
          else if not (has_supers f p) then Some in_superblock
          else None) ≡ None → has_table f p d ≡ true
      by true is none = is
      by false is none = absurd (none-some in_table (sym none))

  rest : (find (is_too_few f) (arrays_of f) ≡ None) × (find (is_dirty_degraded f) (arrays_of f) ≡ None)
  rest = parts.1 (ap (option_and_then (λ place. option_map (damaged place) (damage_of f place))) none_damaged)

  listed : (n : ℕ) → n < f.state.made → names (arrays_of f) n ≡ true
  listed n low = names_range 0 f.state.made n (omega arith) (omega (arith, low))

  pub enough : (n : ℕ) → n < f.state.made → is_too_few f n ≡ false
  enough n low = find_false (is_too_few f) (arrays_of f) n rest.0 (listed n low)

  pub not_dirty : (n : ℕ) → n < f.state.made → is_dirty_degraded f n ≡ false
  not_dirty n low = find_false (is_dirty_degraded f) (arrays_of f) n rest.1 (listed n low)

-- ---- the pool that is found again

-- Each current member of an array that is ready for the volume has a superblock, in whatever a stop leaves of the slices, and its truth leaves no row to
-- resync where that of the pool leaves none.
pub record HoldSupers (f : Found) (v : Raid) (y : RackView) : Type 0 where
  pub there : (n p : ℕ) (r : Image) → n < f.state.joined → is_current v.state p ≡ true → is_member f n p ≡ true → IsLeft y r → is_some (super_in v.state r n p) ≡ true
  pub clean : (n : ℕ) (r : Image) → n < f.state.joined → IsLeft y r → LeavesClean f v.state n r

-- each disk that says a pool says this one
abbrev pub IsOnlyPool : Found → Type 0
IsOnlyPool f = (d : ℕ) (copy : Copied) → d < f.disks.count → (f.identities d).copied ≡ Some copy → bytes_eq copy.state.pool.0 f.state.pool.0 ≡ true

module _ (f : Found) (t : Slices) (v : Raid) (y : RackView) (i : Image) (known : IsKnown f t v y i) (holds : HoldValues f v y) (supers : HoldSupers f v y)
    (all : f.state.joined ≡ f.state.made) (passes : refused_by f ≡ option_map bad_volume (first_bad (joined_arrays f))) where
  abbrev book : State
  book = s f t v y i known

  abbrev held : Image
  held = c f t v y i known

  abbrev g : Found
  g = now f t v y i known

  abbrev at_rest : Standing
  at_rest = stood f t v y i known

  abbrev said : SaysPool f t v.state i
  said = says_pool f t v y i known

  ready : (n : ℕ) → n < f.state.made → n < f.state.joined
  ready n low = omega (arith, low, all)

  -- ---- its drives

  module _ (p : ℕ) (here : is_current book p ≡ true) where
    supers_now : has_supers g p ≡ true
    supers_now =
        ap (λ m. list_all (λ n. not (is_member g n p) || is_some (super_at g n p)) (range_with_len 0 m)) (made_same f t v.state i at_rest said)
        ∙ all_range (λ n. not (is_member g n p) || is_some (super_at g n p)) 0 f.state.made (λ n low. each n (omega (arith, low)))
      where
        each : (n : ℕ) → n < f.state.made → (not (is_member g n p) || is_some (super_at g n p)) ≡ true
        each n low = elim (cases_Bool (is_member f n p)) [
          | inr none ↦ ap (λ b. not b || is_some (super_at g n p)) (member_same f t v.state i at_rest said n low p ∙ none)
          | inl member ↦
              ap₂ (λ b o. not b || o) (member_same f t v.state i at_rest said n low p ∙ member)
              (ap is_some (same f t v.state i at_rest said n low p here) ∙ supers.there n p held (ready n low) here member (left f t v y i known))
        ]

    undamaged : damage_of g p ≡ None
    unfolding damage_of
    undamaged =
        let one = seat_there f t v y i known p here in
        let parts = sound_parts f t v y i known p one.0 here one.1 in
        let table : has_table g p one.0 ≡ true = parts.table ∙ table_there f passes p one.0 (current_before f t v y i known p here) one.1 in
        ap (option_and_then (damage_on g p)) (seats_now f t v y i known p here ∙ one.1)
        ∙ ap (λ b. if not b then Some in_table
        else if is_none (g.identities one.0).copied then Some in_state
        else if not (has_log g p) then Some in_log
        else if not (has_supers g p) then Some in_superblock
        else None) table
        ∙ ap (λ (o : Option Copied). if is_none o then Some in_state else if not (has_log g p) then Some in_log else if not (has_supers g p) then Some in_superblock else None)
        (copied_now f t v y i known p one.0 one.1 here)
        ∙ ap₂ (λ l b. if not l then Some in_log else if not b then Some in_superblock else None) parts.log supers_now

  whole_now : first_damaged g ≡ None
  unfolding current_places
  whole_now =
      ap (option_and_then (λ place. option_map (damaged place) (damage_of g place)))
      (find_kept (λ p. is_some (damage_of g p)) (is_current book) (range_with_len 0 (length book.drives.items)) (λ p here. ap is_some (undamaged p here)))

  -- ---- its arrays

  enough_now : find (is_too_few g) (arrays_of g) ≡ None
  enough_now =
      find_none (is_too_few g) 0 book.made
      (λ n low.
      let less : n < f.state.made = (let made = made_same f t v.state i at_rest said in omega (arith, low, made)) in
      ap (λ (o : Option Shape). option_map_or (λ shape. nat_lt 1 (lacking_of shape)) o true) (shape_same f t v y i known holds n (ready n less)) ∙ enough f passes n less)

  clean_now : find (is_dirty_degraded g) (arrays_of g) ≡ None
  clean_now =
      find_none (is_dirty_degraded g) 0 book.made
      (λ n low. each n (let made = made_same f t v.state i at_rest said in omega (arith, low, made)))
    where
      either : (a b u w : Bool) → (a && (b && u)) ≡ false → a ≡ true → (u ≡ false → w ≡ false) → (a && (b && w)) ≡ false
      either true true u w none on clean = clean none
      either true false u w none on clean = refl
      either false b u w none on clean = refl

      each : (n : ℕ) → n < f.state.made → is_dirty_degraded g n ≡ false
      each n low =
          let less = ready n low in
          let joined : g.state.joined ≡ f.state.joined = known.served.after.same.joined in
          let before : Super = was f t v.state i at_rest said n low in
          let after : Super = is f t v.state i at_rest said n low in
          ap₂ (λ (k : ℕ) (o : Option Shape). nat_lt n k && (option_map_or (λ shape. nat_lt 0 (lacking_of shape)) o false && option_map_or is_unclean (truth_of g n) false)) joined
          (shape_same f t v y i known holds n less)
          ∙ ap (λ (o : Option Super). nat_lt n f.state.joined && (option_map_or (λ shape. nat_lt 0 (lacking_of shape)) (shape_of f n) false && option_map_or is_unclean o false))
          (truth_is f t v.state i at_rest said n low)
          ∙ either (nat_lt n f.state.joined) (option_map_or (λ shape. nat_lt 0 (lacking_of shape)) (shape_of f n) false) (option_map_or is_unclean (truth_of f n) false) (is_unclean after)
          (not_dirty f passes n low) (lt-ltb n f.state.joined less)
          (λ clean.
          supers.clean n held less (left f t v y i known) before after (was_is f t v.state i at_rest said n low)
          (sym (ap (λ (o : Option Super). option_map_or is_unclean o false) (was_is f t v.state i at_rest said n low)) ∙ clean) (is_is f t v.state i at_rest said n low))

  -- ---- its refusal

  refused_now : refused_by g ≡ option_map bad_volume (first_bad (joined_arrays f))
  unfolding refused_by
  refused_now =
      ap (λ k. if nat_lt 1 k then Some (absent k)
      else option_or (first_damaged g)
      (option_or (option_map too_few (find (is_too_few g) (arrays_of g)))
      (option_or (option_map dirty_degraded (find (is_dirty_degraded g) (arrays_of g))) (option_map bad_volume (first_bad (joined_arrays g)))))) (present_now f t v y i known)
      ∙ ap (λ (d : Option Refusal). option_or d
      (option_or (option_map too_few (find (is_too_few g) (arrays_of g)))
      (option_or (option_map dirty_degraded (find (is_dirty_degraded g) (arrays_of g))) (option_map bad_volume (first_bad (joined_arrays g)))))) whole_now
      ∙ ap₂ (λ (a b : Option ℕ). option_or (option_map too_few a) (option_or (option_map dirty_degraded b) (option_map bad_volume (first_bad (joined_arrays g))))) enough_now clean_now
      ∙ ap (option_map bad_volume) (bad_same f t v y i known holds)

  module _ (single : IsOnlyPool f) (marks : (p : ℕ) → is_current book p ≡ (is_current f.state p && is_some (f.seats p))) where
    pool_same : book.pool ≡ f.state.pool
    pool_same = known.served.after.same.pool

    -- no disk says another pool
    own_pool : (d : ℕ) (copy : Copied) → d < f.disks.count → (ids f t v y i known d).copied ≡ Some copy → bytes_eq copy.state.pool.0 book.pool.0 ≡ true
    own_pool d copy low here = elim (seated_or f t v y i known d) [
      | inr none ↦
          subst (λ (k : Id). bytes_eq copy.state.pool.0 k.0 ≡ true) (sym pool_same)
          (single d copy low (sym (ap (λ (k : Identity). k.copied) (other_same f t v y i known d none low)) ∙ here))
      | inl one ↦
          let seat : is_some (f.seats one.0) ≡ true = ap is_some one.1 in
          let counts : is_current book one.0 ≡ true = marks one.0 ∙ ap₂ (λ a b. a && b) (ahead_of f t v y i known one.0 d one.1).current seat in
          let said : copy.state ≡ book = ap (λ (o : Option Copied). option_map_or (λ k. k.state) o book) (sym here ∙ copied_now f t v y i known one.0 d one.1 counts) in
          (bytes_eq-Decides copy.state.pool.0 book.pool.0).1 (ap (λ (k : State). k.pool.0) said)
    ]

    alone_now : has_other_pool f.disks (stood f t v y i known) ≡ false
    alone_now =
        none_range (λ d. option_map_or (λ (copy : Copied). not (bytes_eq copy.state.pool.0 book.pool.0)) (ids f t v y i known d).copied false) 0 f.disks.count
        (λ d low. by d (omega (arith, low)) (ids f t v y i known d).copied refl)
      where
        by : (d : ℕ) → d < f.disks.count → (o : Option Copied) → (ids f t v y i known d).copied ≡ o
            → option_map_or (λ (copy : Copied). not (bytes_eq copy.state.pool.0 book.pool.0)) o false ≡ false
        by d low None none = refl
        by d low (Some copy) some = ap not (own_pool d copy low some)

    pub refusal_now : refusal_of f.disks i ≡ option_map bad_volume (first_bad (joined_arrays f))
    unfolding refusal_of
    refusal_now =
        ap (λ o. option_map_or (refused_at f.disks i) o (Some no_pool)) (stands_so f t v y i known)
        ∙ ap (λ (b : Bool). if b then Some two_pools else option_map_or refused_by (found f.disks i) (Some no_pool)) alone_now
        ∙ ap (λ o. option_map_or refused_by o (Some no_pool)) (found_now f t v y i known)
        ∙ refused_now
