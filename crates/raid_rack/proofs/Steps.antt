-- Steps of the code, as parts of a call.
use Rattle.std.proofs.Common.{◌≡◌, ℕ, zero, suc, ◌+◌, ◌<◌, Bool, List, [], ◌∷◌, set, length, slice_set, get_or, unwrap_or, refl, sym, ap, subst, ◌∙◌, arith}
use Rattle.std.proofs.lemmas.Option.{slice_get-get_or}
use Rattle.arrayvec.specs.ArrayVec.{ArrayVec, with_items}
use Rattle.arrayvec.proofs.ArrayVecLemmas.{items-with_items}
use Rattle.rack.specs.Values.{Values}
use Rattle.rack.specs.Seen.{RackView}
use Rattle.rack.specs.Sequences.{OnlyReads}
use Rattle.pool_state.specs.declared.contents.State.{State}
use Rattle.array_image.specs.Arrays.{Shape}
use Rattle.log_laws.specs.View.{LogView}
use Rattle.array_model.specs.View.{View}
use Rattle.array_model.specs.Members.{HasSlices}
use Rattle.array_model.specs.ArrayCalls.{IncludesSpent, SyncsArray}
use Rattle.array_core.specs.Settling.{Settles}
use Rattle.array_core.specs.Staging.{AddsSupersOf}
use Rattle.array_core.specs.Superblocks.{left_offset}
use Rattle.raid_rack.specs.declared.arrays.Arrays.{Arrays}
use Rattle.raid_laws.specs.Raid.{Raid}
use Rattle.raid_laws.specs.Settling.{SettlesTo}
use Rattle.transition_laws.specs.Losses.{SettlesBook}
use Rattle.transition_laws.proofs.SettledMakes.{settles_book_more}
use Rattle.raid_rack.specs.RaidRack.{IsRunning, raid_by, no_array}
use Rattle.raid_laws.proofs.Noted.{with_arrays}
use Rattle.raid_laws.proofs.Calls.{reads_settled}
use Rattle.raid_rack.proofs.Raises.{settles_raise}
use Rattle.raid_laws.proofs.Seated.{view_with}
use Rattle.raid_laws.proofs.Settling.{settles_more}

-- ---- lists

pub length_set : {X : Type 0} (xs : List X) (n : ℕ) (v : X) → length (set xs n v) ≡ length xs
length_set [] n v = refl
length_set (x ∷ xs) zero v = refl
length_set (x ∷ xs) (suc n) v = ap suc (length_set xs n v)

pub set_own : {X : Type 0} (xs : List X) (n : ℕ) (v d : X) → n < length xs → get_or (set xs n v) n d ≡ v
set_own [] n v d low = absurd (omega (arith, low))
set_own (x ∷ xs) zero v d low = refl
set_own (x ∷ xs) (suc n) v d low = set_own xs n v d (omega (arith, low))

pub set_other : {X : Type 0} (xs : List X) (n k : ℕ) (v d : X) → (k ≡ n → ⊥) → get_or (set xs n v) k d ≡ get_or xs k d
set_other [] n k v d other = refl
set_other (x ∷ xs) zero zero v d other = absurd (other refl)
set_other (x ∷ xs) zero (suc k) v d other = refl
set_other (x ∷ xs) (suc n) zero v d other = refl
set_other (x ∷ xs) (suc n) (suc k) v d other = set_other xs n k v d (λ same. other (ap suc same))

-- an element, whatever is taken where there is none
pub same_element : {X : Type 0} (xs ys : List X) (n : ℕ) (d e : X) → xs ≡ ys → n < length ys → get_or xs n d ≡ get_or ys n e
same_element xs ys n d e same low =
    ap (λ zs. get_or zs n d) same
    ∙ ap (λ o. unwrap_or o d) (sym (slice_get-get_or ys n d low) ∙ slice_get-get_or ys n e low)

pub items_set : (v : ArrayVec View) (xs : List View) (n : ℕ) (u : View) → xs ≡ v.items → (with_items v (slice_set xs n u)).items ≡ set v.items n u
items_set v xs n u same =
    items-with_items v (set xs n u) (length_set xs n u ∙ ap length same) ∙ ap (λ ys. set ys n u) same

-- ---- settling

pub settle_slices : (a b : Arrays) (x y : RackView) (n : ℕ) (u : View) → IsRunning a x → SettlesTo (raid_by a) (raid_by b) x y n b.log.added
    → n < a.state.made → u ≡ get_or b.all.items n no_array → HasSlices u y
settle_slices a b x y n u running settles low is =
    subst (λ z. HasSlices z y) (sym is) (settles.moves.set.arrays n (subst (λ (s : State). n < s.made) (sym settles.same) low)).slices

pub settle_step : (a b : Arrays) (all : ArrayVec View) (log : LogView) (x y z : RackView) (n : ℕ) (old u : View)
    → IsRunning a x → SettlesTo (raid_by a) (raid_by b) x y n b.log.added → SettlesBook (raid_by a) (raid_by b) n x y → length b.all.items ≡ a.state.made
    → n < a.state.made → old ≡ get_or b.all.items n no_array → all.items ≡ set b.all.items n u
    → ((s : State) (durable : Shape) (vals : ℕ → Values) (spent : ℕ → Bool) → IncludesSpent u spent → SyncsArray s old u spent y z durable vals)
    → OnlyReads y z → Settles old u y z → AddsSupersOf u b.log.added log.added → log ≡ record b.log { added = log.added }
    → SettlesTo (raid_by a) (raid_by (record b { all = all; log = log })) x z (n + 1) log.added × SettlesBook (raid_by a) (raid_by (record b { all = all; log = log })) (n + 1) x z
settle_step a b all log x y z n old u running settles book count low old_is all_is syncs reads view adds log_is =
    let f : ℕ → View = λ k. get_or all.items k no_array in
    let v = raid_by b in
    let own : f n ≡ u = ap (λ ys. get_or ys n no_array) all_is ∙ set_own b.all.items n u no_array (omega (arith, low, count)) in
    let others : (k : ℕ) → (k ≡ n → ⊥) → f k ≡ v.arrays k = λ k other. ap (λ ys. get_or ys k no_array) all_is ∙ set_other b.all.items n k u no_array other in
    let made : n < v.state.made = subst (λ (s : State). n < s.made) (sym settles.same) low in
    let synced : (s : State) (durable : Shape) (vals : ℕ → Values) (spent : ℕ → Bool) → IncludesSpent (f n) spent → SyncsArray s (v.arrays n) (f n) spent y z durable vals =
    λ s durable vals spent covers.
    subst (λ w. SyncsArray s w (f n) spent y z durable vals) old_is
    (subst (λ w. SyncsArray s old w spent y z durable vals) (sym own) (syncs s durable vals spent (subst (λ w. IncludesSpent w spent) own covers))) in
    let settled : Settles (v.arrays n) (f n) y z = subst (λ w. Settles w (f n) y z) old_is (subst (λ w. Settles old w y z) (sym own) view) in
    let call = reads_settled v f n y z settles.moves.set made reads others settled (λ s durable vals spent covers. (synced s durable vals spent covers).acts) in
    let number : v.number ≡ log.number = sym (ap (λ (m : LogView). m.number) log_is) in
    let whole : with_arrays v f ≡ raid_by (record b { all = all; log = log }) = λ i. record { state = v.state; arrays = f; number = number i } in
    subst (λ (w : Raid). SettlesTo (raid_by a) w x z (n + 1) log.added × SettlesBook (raid_by a) w (n + 1) x z) whole (
      settles_more (raid_by a) v f x y z n b.log.added log.added settles.moves.set.most settles call synced
          (subst (λ w. AddsSupersOf w b.log.added log.added) (sym own) adds)
          (ap (λ (w : View). w.marked) settled.truth)
          (settles_raise (v.arrays n) (f n) y z settled)
          (ap (λ (w : View). w.truth.resync_offset) settled.truth ∙ ap left_offset (view_with (v.arrays n) settled.synced settled.notes.same)),
      settles_book_more (raid_by a) v f n x y z settles.same book settles.moves.set call settled synced,
    )
