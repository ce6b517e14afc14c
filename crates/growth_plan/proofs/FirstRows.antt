-- The first rows that are left are done, as many as are of one array and of one kind: so many works of the list are gone, and the next is
-- one of them until the last of them is done.
use Rattle.std.proofs.Common.{◌≡◌, ℕ, zero, suc, ◌-◌, ◌<◌, ◌≤◌, ◌==◌, nat_lt, Bool, true, false, if◌then◌else◌, List, [], ◌∷◌, ◌++◌, drop, length, replicate, slice_get, Option, Some, None, inl, inr, refl, sym, ap, subst, ◌∙◌, arith, append_assoc}
use Rattle.std.specs.List.{flat_map}
use Rattle.std.specs.Option.{option_map_or}
use Rattle.std.proofs.lemmas.Bool.{both_ways, cases_Bool, eqb-true}
use Rattle.pool_state.specs.declared.contents.State.{State}
use Rattle.pool_state.specs.declared.contents.Work.{Work}
use Rattle.pool_state.specs.declared.contents.Work.TheVariants.{Resync, Rebuild, TakeOver, Begin, Reshape, Finish, Make, Zero, Ready, Extend, Close}
use Rattle.growth_plan.specs.declared.ArrayNow.{ArrayNow}
use Rattle.growth_plan.specs.declared.Progress.{Progress}
use Rattle.growth_plan.specs.Book.{Standing, standing}
use Rattle.growth_plan.specs.Target.{joining, new_layer}
use Rattle.growth_plan.specs.Works.{resyncs, rebuilt, rebuilds, rebuilds_on, reshapes, is_mirror, joins, growths, rows_of, zeros, makes, extends, closes, works_left}
use Rattle.growth_plan.specs.Doing.{change, rows_rebuilt, rows_reshaped, rows_resynced}
use Rattle.growth_plan.proofs.Beginning.{BeginsNot, both_early, copies_early, each_early, either_early, growths_early, is_growing, makes_early, maybe_early, none_early, one_early}
use Rattle.growth_plan.proofs.Heads.{first_copy, first_part}
use Rattle.growth_plan.proofs.OneArray.{put}
use Rattle.growth_plan.proofs.Parts.{above_it, at, field-at, first_at, head_gone, swapped}
use Rattle.std.proofs.lemmas.List.{drop-append-le, drop-replicate, length-replicate}
use Rattle.growth_plan.proofs.RowsDone.{change_at, first_rebuild, rebuilds_done, rebuilds_of, resyncs_done}

-- ---- rows of maintenance

abbrev is_row : Work → Bool
is_row (Resync n) = true
is_row (Rebuild n place) = true
is_row (TakeOver n) = false
is_row (Begin n place) = false
is_row (Reshape n) = false
is_row (Finish n) = false
is_row (Make n height) = false
is_row (Zero n) = false
is_row (Ready n) = false
is_row Extend = false
is_row Close = false

abbrev is_resync : Work → Bool
is_resync (Resync n) = true
is_resync (Rebuild n place) = false
is_resync (TakeOver n) = false
is_resync (Begin n place) = false
is_resync (Reshape n) = false
is_resync (Finish n) = false
is_resync (Make n height) = false
is_resync (Zero n) = false
is_resync (Ready n) = false
is_resync Extend = false
is_resync Close = false

growth_no_row : (w : Work) → is_growing w ≡ true → is_row w ≡ false
growth_no_row (Resync n) growing = cc growing
growth_no_row (Rebuild n place) growing = cc growing
growth_no_row (TakeOver n) growing = refl
growth_no_row (Begin n place) growing = refl
growth_no_row (Reshape n) growing = refl
growth_no_row (Finish n) growing = refl
growth_no_row (Make n height) growing = refl
growth_no_row (Zero n) growing = refl
growth_no_row (Ready n) growing = refl
growth_no_row Extend growing = cc growing
growth_no_row Close growing = cc growing

-- works but for rows don't begin with one
later_no_row : (s : State) (p : Progress) → BeginsNot is_row (flat_map (growths s) (standing p.arrays.items) ++ (makes s p.arrays.items ++ (extends s p ++ closes s)))
later_no_row s p =
    both_early is_row (flat_map (growths s) (standing p.arrays.items)) (makes s p.arrays.items ++ (extends s p ++ closes s))
    (each_early is_row (growths s) (standing p.arrays.items) (λ x. growths_early is_row growth_no_row (joining s x) x))
    (both_early is_row (makes s p.arrays.items) (extends s p ++ closes s) (makes_early is_row growth_no_row s p.arrays.items)
    (both_early is_row (extends s p) (closes s)
    (either_early is_row _ (Extend ∷ []) [] (one_early is_row Extend [] refl) (none_early is_row))
    (either_early is_row _ (Close ∷ []) [] (one_early is_row Close [] refl) (none_early is_row))))

-- rows to rebuild are none to resync
rebuilds_no_resync : (place : Option ℕ) (x : Standing) → BeginsNot is_resync (rebuilds_on place x)
rebuilds_no_resync place x =
    maybe_early is_resync (λ p. if x.now.rebuilding == p then replicate x.now.rebuild (Rebuild x.number p) else []) place
    (λ p.
    either_early is_resync (x.now.rebuilding == p) (replicate x.now.rebuild (Rebuild x.number p)) []
    (copies_early is_resync x.now.rebuild (Rebuild x.number p) refl) (none_early is_resync))

-- ---- the first work

-- all works, by the first
pub begins : (works : List Work) (w : Work) → slice_get works 0 ≡ Some w → works ≡ w ∷ drop 1 works
begins [] w first = cc first
begins (v ∷ works) w first = let same : v ≡ w = cc first in ap (λ (u : Work). u ∷ works) same

-- ---- the array of the first row

-- the lowest array that has such works, and its number
record FirstRow (f : Standing → List Work) (arrays : List ArrayNow) (m : ℕ) : Type 0 where
  pub below : List ArrayNow
  pub now : ArrayNow
  pub above : List ArrayNow
  pub arrays_are : arrays ≡ below ++ now ∷ above
  pub quiet : flat_map f (standing below) ≡ []
  pub at : m ≡ length below

-- works of all arrays by those of that one
row_works : (f : Standing → List Work) (arrays : List ArrayNow) (m k : ℕ) (own : Work) (one : FirstRow f arrays m) → f (at one.below one.now) ≡ replicate k own →
    flat_map f (standing arrays) ≡ replicate k own ++ flat_map f (above_it one.below one.now one.above)
row_works f arrays m k own one is =
    ap (λ (xs : List ArrayNow). flat_map f (standing xs)) one.arrays_are
    ∙ head_gone f one.below one.above one.now one.now (replicate k own) refl one.quiet is

-- a number of that array
row_number : (f : Standing → List Work) (arrays : List ArrayNow) (m : ℕ) (one : FirstRow f arrays m) (n : ArrayNow → ℕ) →
    option_map_or n (slice_get arrays m) 0 ≡ n one.now
row_number f arrays m one n =
    ap (λ (i : ℕ). option_map_or n (slice_get arrays i) 0) one.at
    ∙ ap (λ (xs : List ArrayNow). option_map_or n (slice_get xs (length one.below)) 0) one.arrays_are
    ∙ field-at n one.below one.above one.now

copies_first : (k : ℕ) (w : Work) (back : List Work) → 0 < k → slice_get (replicate k w ++ back) 0 ≡ Some w
copies_first zero w back some = absurd (omega (arith, some))
copies_first (suc k) w back some = refl

-- fewer than all copies are gone
copies_gone : (rows k : ℕ) (w : Work) (back : List Work) → rows < k → slice_get (drop rows (replicate k w ++ back)) 0 ≡ Some w
copies_gone rows k w back few =
    ap (λ (ws : List Work). slice_get ws 0)
    (drop-append-le rows (replicate k w) back (omega (arith, few, length-replicate k w)) ∙ ap (λ (ws : List Work). ws ++ back) (drop-replicate rows k w))
    ∙ copies_first (k - rows) w back (omega (arith, few))

-- ---- rows to resync

resync_first : (s : State) (p : Progress) (m : ℕ) → slice_get (works_left s p) 0 ≡ Some (Resync m) → FirstRow resyncs p.arrays.items m
resync_first s p m first =
    let w = Resync m in
    let rest = drop 1 (works_left s p) in
    let b = flat_map (rebuilds s) (standing p.arrays.items) in
    let later = flat_map (growths s) (standing p.arrays.items) ++ (makes s p.arrays.items ++ (extends s p ++ closes s)) in
    elim (first_part w rest (flat_map resyncs (standing p.arrays.items)) (b ++ later) (begins (works_left s p) w first)) [
      | inr here ↦
          let found = first_at resyncs p.arrays.items w here.more here.here in
          let copy = first_copy found.now.resync (Resync (length found.below)) w found.more found.here in
          record { below = found.below; now = found.now; above = found.above; arrays_are = found.arrays_are; quiet = found.quiet; at = cc (copy.0) }
      | inl none ↦
          elim (first_part w rest b later none.1) [
            | inr here ↦
                absurd (both_ways (is_resync w)
                (each_early is_resync (rebuilds s) (standing p.arrays.items) (rebuilds_no_resync (rebuilt s)) w (ap (λ (ws : List Work). slice_get ws 0) here.here)) refl)
            | inl past ↦ absurd (both_ways (is_row w) (later_no_row s p w (ap (λ (ws : List Work). slice_get ws 0) past.1)) refl)
          ]
    ]

-- where rows to resync come first
pub first_resyncs : (s : State) (p : Progress) (m rows : ℕ) → slice_get (works_left s p) 0 ≡ Some (Resync m) →
    rows ≤ option_map_or (λ (a : ArrayNow). a.resync) (slice_get p.arrays.items m) 0 →
    works_left s (put p (change m (rows_resynced rows) p.arrays.items)) ≡ drop rows (works_left s p)
first_resyncs s p m rows first few =
    let one = resync_first s p m first in
    ap (λ (i : ℕ). works_left s (put p (change i (rows_resynced rows) p.arrays.items))) one.at
    ∙ resyncs_done s p rows one.below one.above one.now one.arrays_are one.quiet
    (subst (λ k. rows ≤ k) (row_number resyncs p.arrays.items m one (λ a. a.resync)) few)

-- and until the last of the array's is done they do so still
pub resync_stays : (s : State) (p : Progress) (m rows : ℕ) → slice_get (works_left s p) 0 ≡ Some (Resync m) →
    rows < option_map_or (λ (a : ArrayNow). a.resync) (slice_get p.arrays.items m) 0 →
    slice_get (works_left s (put p (change m (rows_resynced rows) p.arrays.items))) 0 ≡ Some (Resync m)
resync_stays s p m rows first few =
    let one = resync_first s p m first in
    let own = Resync (length one.below) in
    let rest = flat_map (rebuilds s) (standing p.arrays.items) ++ (flat_map (growths s) (standing p.arrays.items)
    ++ (makes s p.arrays.items ++ (extends s p ++ closes s))) in
    let back = flat_map resyncs (above_it one.below one.now one.above) in
    let less = subst (λ k. rows < k) (row_number resyncs p.arrays.items m one (λ a. a.resync)) few in
    let all : works_left s p ≡ replicate one.now.resync own ++ (back ++ rest) =
    ap (λ (ws : List Work). ws ++ rest) (row_works resyncs p.arrays.items m one.now.resync own one refl) ∙ append_assoc (replicate one.now.resync own) back rest in
    ap (λ (ws : List Work). slice_get ws 0) (first_resyncs s p m rows first (omega (arith, few)))
    ∙ ap (λ (ws : List Work). slice_get (drop rows ws) 0) all ∙ copies_gone rows one.now.resync own (back ++ rest) less
    ∙ ap (λ (i : ℕ). Some (Resync i)) (sym one.at)

-- ---- rows to rebuild

-- nothing is left to resync, and it is the place that is rebuilt
record RebuildFirst (s : State) (p : Progress) (m place : ℕ) : Type 0 where
  pub one : FirstRow (rebuilds s) p.arrays.items m
  pub synced : flat_map resyncs (standing p.arrays.items) ≡ []
  pub on : rebuilt s ≡ Some place
  pub own : (one.now.rebuilding == place) ≡ true

rebuild_first : (s : State) (p : Progress) (m place : ℕ) → slice_get (works_left s p) 0 ≡ Some (Rebuild m place) → RebuildFirst s p m place
rebuild_first s p m place first =
    let w = Rebuild m place in
    let rest = drop 1 (works_left s p) in
    let r = flat_map resyncs (standing p.arrays.items) in
    let b = flat_map (rebuilds s) (standing p.arrays.items) in
    let later = flat_map (growths s) (standing p.arrays.items) ++ (makes s p.arrays.items ++ (extends s p ++ closes s)) in
    elim (first_part w rest r (b ++ later) (begins (works_left s p) w first)) [
      | inr here ↦
          let found = first_at resyncs p.arrays.items w here.more here.here in
          let copy = first_copy found.now.resync (Resync (length found.below)) w found.more found.here in
          absurd (both_ways (is_resync w) refl (ap is_resync copy.0))
      | inl none ↦
          elim (first_part w rest b later none.1) [
            | inr here ↦
                let found = first_at (rebuilds s) p.arrays.items w here.more here.here in
                let row = first_rebuild (rebuilt s) found.below found.now w found.more found.here in
                let same : row.0 ≡ place = cc (row.1) in
                record {
                  one = record { below = found.below; now = found.now; above = found.above; arrays_are = found.arrays_are; quiet = found.quiet; at = cc (row.1) };
                  synced = none.0;
                  on = row.2 ∙ ap (λ (k : ℕ). Some k) same;
                  own = subst (λ k. (found.now.rebuilding == k) ≡ true) same row.3;
                }
            | inl past ↦ absurd (both_ways (is_row w) (later_no_row s p w (ap (λ (ws : List Work). slice_get ws 0) past.1)) refl)
          ]
    ]

-- the array of that row is rebuilding its place
pub rebuilds_place : (s : State) (p : Progress) (m place : ℕ) → slice_get (works_left s p) 0 ≡ Some (Rebuild m place) →
    option_map_or (λ (a : ArrayNow). a.rebuilding) (slice_get p.arrays.items m) 0 ≡ place
rebuilds_place s p m place first =
    let it = rebuild_first s p m place first in
    row_number (rebuilds s) p.arrays.items m it.one (λ a. a.rebuilding) ∙ eqb-true it.one.now.rebuilding place it.own

-- where rows to rebuild come first
pub first_rebuilds : (s : State) (p : Progress) (m place rows : ℕ) → slice_get (works_left s p) 0 ≡ Some (Rebuild m place) →
    rows ≤ option_map_or (λ (a : ArrayNow). a.rebuild) (slice_get p.arrays.items m) 0 →
    works_left s (put p (change m (rows_rebuilt rows) p.arrays.items)) ≡ drop rows (works_left s p)
first_rebuilds s p m place rows first few =
    let it = rebuild_first s p m place first in
    let one = it.one in
    let rest = flat_map (rebuilds s) (standing p.arrays.items) ++ (flat_map (growths s) (standing p.arrays.items)
    ++ (makes s p.arrays.items ++ (extends s p ++ closes s))) in
    ap (λ (i : ℕ). works_left s (put p (change i (rows_rebuilt rows) p.arrays.items))) one.at
    ∙ rebuilds_done s p rows place one.below one.above one.now one.arrays_are one.quiet it.on it.own
    (subst (λ k. rows ≤ k) (row_number (rebuilds s) p.arrays.items m one (λ a. a.rebuild)) few)
    ∙ ap (λ (ws : List Work). ws ++ drop rows rest) it.synced
    ∙ sym (ap (λ (ws : List Work). drop rows (ws ++ rest)) it.synced)

pub rebuild_stays : (s : State) (p : Progress) (m place rows : ℕ) → slice_get (works_left s p) 0 ≡ Some (Rebuild m place) →
    rows < option_map_or (λ (a : ArrayNow). a.rebuild) (slice_get p.arrays.items m) 0 →
    slice_get (works_left s (put p (change m (rows_rebuilt rows) p.arrays.items))) 0 ≡ Some (Rebuild m place)
rebuild_stays s p m place rows first few =
    let it = rebuild_first s p m place first in
    let one = it.one in
    let own = Rebuild (length one.below) place in
    let b = flat_map (rebuilds s) (standing p.arrays.items) in
    let rest = flat_map (growths s) (standing p.arrays.items) ++ (makes s p.arrays.items ++ (extends s p ++ closes s)) in
    let back = flat_map (rebuilds s) (above_it one.below one.now one.above) in
    let less = subst (λ k. rows < k) (row_number (rebuilds s) p.arrays.items m one (λ a. a.rebuild)) few in
    let all : works_left s p ≡ replicate one.now.rebuild own ++ (back ++ rest) =
    ap (λ (ws : List Work). ws ++ (b ++ rest)) it.synced
    ∙ ap (λ (ws : List Work). ws ++ rest) (row_works (rebuilds s) p.arrays.items m one.now.rebuild own one (rebuilds_of s place one.below one.now it.on it.own))
    ∙ append_assoc (replicate one.now.rebuild own) back rest in
    ap (λ (ws : List Work). slice_get ws 0) (first_rebuilds s p m place rows first (omega (arith, few)))
    ∙ ap (λ (ws : List Work). slice_get (drop rows ws) 0) all ∙ copies_gone rows one.now.rebuild own (back ++ rest) less
    ∙ ap (λ (i : ℕ). Some (Rebuild i place)) (sym one.at)

-- ---- rows to move

abbrev is_reshape : Work → Bool
is_reshape (Resync n) = false
is_reshape (Rebuild n place) = false
is_reshape (TakeOver n) = false
is_reshape (Begin n place) = false
is_reshape (Reshape n) = true
is_reshape (Finish n) = false
is_reshape (Make n height) = false
is_reshape (Zero n) = false
is_reshape (Ready n) = false
is_reshape Extend = false
is_reshape Close = false

zeros_no_move : (number rows : ℕ) → BeginsNot is_reshape (zeros number rows)
zeros_no_move number rows =
    both_early is_reshape (replicate rows (Zero number)) (Ready number ∷ []) (copies_early is_reshape rows (Zero number) refl)
    (one_early is_reshape (Ready number) [] refl)

-- works behind those of the arrays that stand don't begin with one
later_no_move : (s : State) (p : Progress) → BeginsNot is_reshape (makes s p.arrays.items ++ (extends s p ++ closes s))
later_no_move s p =
    both_early is_reshape (makes s p.arrays.items) (extends s p ++ closes s)
    (either_early is_reshape (nat_lt s.joined s.made) (zeros s.joined (option_map_or (λ array. array.zero) (slice_get p.arrays.items s.joined) 0))
    (option_map_or (λ layer. Make s.made layer.height ∷ zeros s.made (rows_of s layer.height)) (new_layer s p.arrays.items) [])
    (zeros_no_move s.joined (option_map_or (λ array. array.zero) (slice_get p.arrays.items s.joined) 0))
    (maybe_early is_reshape (λ layer. Make s.made layer.height ∷ zeros s.made (rows_of s layer.height)) (new_layer s p.arrays.items)
    (λ layer. one_early is_reshape (Make s.made layer.height) (zeros s.made (rows_of s layer.height)) refl)))
    (both_early is_reshape (extends s p) (closes s)
    (either_early is_reshape _ (Extend ∷ []) [] (one_early is_reshape Extend [] refl) (none_early is_reshape))
    (either_early is_reshape _ (Close ∷ []) [] (one_early is_reshape Close [] refl) (none_early is_reshape)))

-- what takes a drive into an array doesn't begin with one
joins_no_move : (below : List ArrayNow) (x : ArrayNow) (place : Option ℕ) → BeginsNot is_reshape (option_map_or (joins (at below x)) place [])
joins_no_move below x place =
    maybe_early is_reshape (joins (at below x)) place
    (λ p.
    both_early is_reshape (if is_mirror x then TakeOver (length below) ∷ [] else []) (Begin (length below) p ∷ reshapes (length below) x.rows)
    (either_early is_reshape (is_mirror x) (TakeOver (length below) ∷ []) [] (one_early is_reshape (TakeOver (length below)) [] refl) (none_early is_reshape))
    (one_early is_reshape (Begin (length below) p) (reshapes (length below) x.rows) refl))

-- an array whose works begin with one is reshaping, and it is one of its own
begins_reshaping : (reshaping : Bool) (n rows m : ℕ) (others more : List Work) → BeginsNot is_reshape others →
    (if reshaping then reshapes n rows else []) ++ others ≡ Reshape m ∷ more → (reshaping ≡ true) × (m ≡ n)
begins_reshaping true n zero m others more early is = absurd (let bad : Finish n ≡ Reshape m = cc is in cc bad)
begins_reshaping true n (suc rows) m others more early is =
    let same : Reshape n ≡ Reshape m = cc is in
    (refl, cc same)
begins_reshaping false n rows m others more early is =
    absurd (both_ways (is_reshape (Reshape m)) (early (Reshape m) (ap (λ (ws : List Work). slice_get ws 0) is)) refl)

-- array m is reshaping, nothing is left to resync or to rebuild, and no array below it has to grow
record FirstMove (s : State) (p : Progress) (m : ℕ) : Type 0 where
  pub one : FirstRow (growths s) p.arrays.items m
  pub synced : flat_map resyncs (standing p.arrays.items) ≡ []
  pub whole : flat_map (rebuilds s) (standing p.arrays.items) ≡ []
  pub on : one.now.reshaping ≡ true

move_first : (s : State) (p : Progress) (m : ℕ) → slice_get (works_left s p) 0 ≡ Some (Reshape m) → FirstMove s p m
move_first s p m first =
    let w = Reshape m in
    let rest = drop 1 (works_left s p) in
    let b = flat_map (rebuilds s) (standing p.arrays.items) in
    let g = flat_map (growths s) (standing p.arrays.items) in
    let later = makes s p.arrays.items ++ (extends s p ++ closes s) in
    elim (first_part w rest (flat_map resyncs (standing p.arrays.items)) (b ++ (g ++ later)) (begins (works_left s p) w first)) [
      | inr here ↦
          let found = first_at resyncs p.arrays.items w here.more here.here in
          let copy = first_copy found.now.resync (Resync (length found.below)) w found.more found.here in
          absurd (both_ways (is_reshape w) (ap is_reshape copy.0) refl)
      | inl none ↦
          elim (first_part w rest b (g ++ later) none.1) [
            | inr here ↦
                let found = first_at (rebuilds s) p.arrays.items w here.more here.here in
                let row = first_rebuild (rebuilt s) found.below found.now w found.more found.here in
                absurd (both_ways (is_reshape w) (ap is_reshape row.1) refl)
            | inl past ↦
                elim (first_part w rest g later past.1) [
                  | inr here ↦
                      let found = first_at (growths s) p.arrays.items w here.more here.here in
                      let x = found.now in
                      let own = begins_reshaping x.reshaping (length found.below) x.reshape m
                      (option_map_or (joins (at found.below x)) (joining s (at found.below x)) []) found.more
                      (joins_no_move found.below x (joining s (at found.below x))) found.here in
                      record {
                        one = record { below = found.below; now = x; above = found.above; arrays_are = found.arrays_are; quiet = found.quiet; at = own.1 };
                        synced = none.0;
                        whole = past.0;
                        on = own.0;
                      }
                  | inl gone ↦ absurd (both_ways (is_reshape w) (later_no_move s p w (ap (λ (ws : List Work). slice_get ws 0) gone.1)) refl)
                ]
          ]
    ]

move_is_first : (reshaping : Bool) (n rows : ℕ) (others back rest : List Work) → reshaping ≡ true → 0 < rows →
    slice_get ((((if reshaping then reshapes n rows else []) ++ others) ++ back) ++ rest) 0 ≡ Some (Reshape n)
move_is_first true n zero others back rest on some = absurd (omega (arith, some))
move_is_first true n (suc rows) others back rest on some = refl
move_is_first false n rows others back rest on some = absurd (both_ways false refl on)

-- until the last row of the array is moved they do so still
pub reshape_stays : (s : State) (p : Progress) (m rows : ℕ) → slice_get (works_left s p) 0 ≡ Some (Reshape m) →
    rows < option_map_or (λ (a : ArrayNow). a.reshape) (slice_get p.arrays.items m) 0 →
    slice_get (works_left s (put p (change m (rows_reshaped rows) p.arrays.items))) 0 ≡ Some (Reshape m)
reshape_stays s p m rows first few =
    let it = move_first s p m first in
    let one = it.one in
    let x = one.now in
    let y = rows_reshaped rows x in
    let ys = one.below ++ y ∷ one.above in
    let less = subst (λ k. rows < k) (row_number (growths s) p.arrays.items m one (λ a. a.reshape)) few in
    let others = option_map_or (joins (at one.below y)) (joining s (at one.below y)) [] in
    let mine = (if x.reshaping then reshapes (length one.below) (x.reshape - rows) else []) ++ others in
    let back = flat_map (growths s) (above_it one.below x one.above) in
    let later = makes s ys ++ (extends s (put p ys) ++ closes s) in
    let synced : flat_map resyncs (standing ys) ≡ [] =
    swapped resyncs one.below one.above x y refl refl ∙ ap (λ (xs : List ArrayNow). flat_map resyncs (standing xs)) (sym one.arrays_are) ∙ it.synced in
    let whole : flat_map (rebuilds s) (standing ys) ≡ [] =
    swapped (rebuilds s) one.below one.above x y refl refl ∙ ap (λ (xs : List ArrayNow). flat_map (rebuilds s) (standing xs)) (sym one.arrays_are) ∙ it.whole in
    let grown : flat_map (growths s) (standing ys) ≡ mine ++ back = head_gone (growths s) one.below one.above x y mine refl one.quiet refl in
    ap (λ (i : ℕ). slice_get (works_left s (put p (change i (rows_reshaped rows) p.arrays.items))) 0) one.at
    ∙ ap (λ (xs : List ArrayNow). slice_get (works_left s (put p xs)) 0) (change_at (rows_reshaped rows) p.arrays.items one.below one.above x one.arrays_are)
    ∙ ap (λ (ws : List Work). slice_get (ws ++ (flat_map (rebuilds s) (standing ys) ++ (flat_map (growths s) (standing ys) ++ later))) 0) synced
    ∙ ap (λ (ws : List Work). slice_get (ws ++ (flat_map (growths s) (standing ys) ++ later)) 0) whole
    ∙ ap (λ (ws : List Work). slice_get (ws ++ later) 0) grown
    ∙ move_is_first x.reshaping (length one.below) (x.reshape - rows) others back later it.on (omega (arith, less))
    ∙ ap (λ (i : ℕ). Some (Reshape i)) (sym one.at)
