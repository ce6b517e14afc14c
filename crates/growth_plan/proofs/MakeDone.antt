-- A new array is made.
use Rattle.std.proofs.Common.{Contains, subst, ◌≡◌, ℕ, zero, suc, ◌+◌, ◌-◌, ◌*◌, ◌<◌, ◌≤◌, ◌||◌, ◌&&◌, not, List, [], ◌∷◌, ◌++◌, length, map, filter, sum, replicate, Option, Some, None, is_some, slice_index, Bool, true, false, nat_lt, nat_le, ◌==◌, if◌then◌else◌, refl, sym, ap, ◌∙◌, arith, add-zero, append-nil, ⊎_elim}
use Rattle.std.specs.Bool.{then_some}
use Rattle.std.specs.List.{flat_map, range_with_len}
use Rattle.std.specs.Option.{option_map_or, option_and_then}
use Rattle.std.proofs.lemmas.Bool.{cases_Bool, cases_lt, cond_both, cond-true, lt-ltb, leb-true, eq-eqb, or_left, or_right, and_left, and_right, not_from_true}
use Rattle.std.proofs.lemmas.List.Concat.{flat_map_single}
use Rattle.std.proofs.lemmas.List.{get_or_past}
use Rattle.layer_plan.specs.declared.Layer.{Layer}
use Rattle.layer_plan.specs.Layering.{places_reaching}
use Rattle.layer_plan.specs.Slicing.{has}
use Rattle.pool_state.specs.declared.contents.State.{State}
use Rattle.pool_state.specs.declared.contents.Work.{Work}
use Rattle.pool_state.specs.declared.contents.Work.TheVariants.{Rebuild, Make, Extend}
use Rattle.growth_plan.specs.declared.ArrayNow.{ArrayNow}
use Rattle.growth_plan.specs.declared.Progress.{Progress}
use Rattle.growth_plan.specs.Book.{IsBook, Standing, standing, units_of, height_of}
use Rattle.growth_plan.specs.Target.{planned, joining, extents_at_end, least_above, layer_above, new_layer, targets}
use Rattle.growth_plan.specs.Works.{resyncs, rebuilt, rebuilds_on, rebuilds, joins, growths, rows_of, zeros, makes, extends, closes}
use Rattle.growth_plan.specs.Doing.{new_array}
use Rattle.growth_plan.proofs.Books.{few_arrays}
use Rattle.growth_plan.proofs.Heads.{in_order-same}
use Rattle.growth_plan.proofs.Parts.{at, parted, field-at}
use Rattle.growth_plan.proofs.NewLayer.{layer_is, new_layer_is}
use Rattle.growth_plan.proofs.RowsDone.{left_after}
use Rattle.growth_plan.proofs.ZerosDone.{zero_at, after_makes}

-- a place of a range that passes a test is among those that do
has_passing : (q : ℕ → Bool) (a n place : ℕ) → a ≤ place → place < a + n → q place ≡ true → has (filter q (range_with_len a n)) place ≡ true
has_passing q a zero place low high e = absurd (omega arith)
has_passing q a (suc n) place low high e =
    ⊎_elim
    (λ (l : a < place).
    let rest = has_passing q (a + 1) n place (omega arith) (omega arith) e in
    cond_both (q a) (a ∷ filter q (range_with_len (a + 1) n)) (filter q (range_with_len (a + 1) n)) (λ t. has t place ≡ true)
    (λ h. or_right (a == place) (has (filter q (range_with_len (a + 1) n)) place) rest) (λ h. rest))
    (λ (l : place ≤ a).
    let same : a ≡ place = omega arith in
    let here : q a ≡ true = ap q same ∙ e in
    rw here (or_left (a == place) (has (filter q (range_with_len (a + 1) n)) place) (eq-eqb a place same)))
    (cases_lt a place)

-- a drive that reaches a level above 0 is in the list
reaches_inside : (units : List ℕ) (place level : ℕ) → 0 < level → level ≤ slice_index units place → place < length units
reaches_inside units place level above reaches =
    ⊎_elim (λ (l : place < length units). l)
    (λ (l : length units ≤ place). absurd (omega (arith, reaches, get_or_past units place 0 l)))
    (cases_lt place (length units))

-- the plan's drive is a member of the new array where it reaches it
none_joins : (units : List ℕ) (level : ℕ) (place : Option ℕ) → 0 < level →
    option_and_then (λ q. then_some (nat_le level (slice_index units q) && not (has (places_reaching units level) q)) q) place ≡ None
none_joins units level None above = refl
none_joins units level (Some q) above =
    ⊎_elim
    (λ (reaches : nat_le level (slice_index units q) ≡ true).
    let inside = reaches_inside units q level above (leb-true level (slice_index units q) reaches) in
    let member : has (places_reaching units level) q ≡ true =
    has_passing (λ place. nat_le level (slice_index units place)) 0 (length units) q (omega arith) (omega arith) reaches in
    ap (λ (b : Bool). then_some b q)
    (and_right (nat_le level (slice_index units q)) (not (has (places_reaching units level) q)) (not_from_true (has (places_reaching units level) q) member)))
    (λ (short : nat_le level (slice_index units q) ≡ false).
    ap (λ (b : Bool). then_some b q) (and_left (nat_le level (slice_index units q)) (not (has (places_reaching units level) q)) short))
    (cases_Bool (nat_le level (slice_index units q)))

none_rebuilt : (place : Option ℕ) (x : Standing) → x.now.rebuild ≡ 0 → rebuilds_on place x ≡ []
none_rebuilt None x none = refl
none_rebuilt (Some p) x none =
    cond_both (x.now.rebuilding == p) (replicate x.now.rebuild (Rebuild x.number p)) [] (λ ws. ws ≡ [])
    (λ e. ap (λ (n : ℕ). replicate n (Rebuild x.number p)) none) (λ e. refl)

-- an array at the end that brings nothing
brings_none : (f : Standing → List Work) (arrays : List ArrayNow) (x : ArrayNow) → f (at arrays x) ≡ [] →
    flat_map f (standing (arrays ++ x ∷ [])) ≡ flat_map f (standing arrays)
brings_none f arrays x e =
    parted f arrays [] x ∙ ap (λ (ws : List Work). flat_map f (standing arrays) ++ (ws ++ [])) e ∙ append-nil (flat_map f (standing arrays))

-- a layer that is still to be made stands right above all arrays
pub record IsNewLayer (s : State) (arrays : List ArrayNow) (layer : Layer) : Type 0 where
  pub cut : ℕ
  pub least : least_above (height_of arrays) (units_of s) ≡ Some cut
  pub above : height_of arrays < cut
  pub among : Contains (units_of s) cut
  pub top : height_of arrays + layer.height ≡ cut
  pub pair : 2 ≤ length (places_reaching (units_of s) cut)
  pub extents : layer.extents ≡ (length (places_reaching (units_of s) cut) - 1) * layer.height

pub cut_is : (s : State) (arrays : List ArrayNow) (layer : Layer) → new_layer s arrays ≡ Some layer → IsNewLayer s arrays layer
cut_is s arrays layer found =
    let is = layer_is (units_of s) (height_of arrays) layer (new_layer_is s arrays layer found).2 in
    let height : layer.height ≡ is.cut - height_of arrays = ap (λ (l : Layer). l.height) is.is in
    record {
      cut = is.cut;
      least = is.least;
      above = is.above;
      among = is.among;
      top = omega (arith, height, is.above);
      pair = subst (λ (l : Layer). 2 ≤ length l.members.items) is.is is.pair;
      extents = ap (λ (l : Layer). l.extents) is.is ∙ ap (λ (h : ℕ). (length (places_reaching (units_of s) is.cut) - 1) * h) (sym height);
    }

-- no drive has still to join the new array
pub make_idle : (s : State) (arrays : List ArrayNow) (layer : Layer) → new_layer s arrays ≡ Some layer →
    joining (record s { made = s.made + 1 }) (at arrays (new_array s arrays layer.height)) ≡ None
make_idle s arrays layer found =
    let cut = cut_is s arrays layer found in
    none_joins (units_of s) (height_of arrays + layer.height) (planned s.plan) (omega (arith, cut.top, cut.above))

-- no layer is made while it isn't ready
make_none : (s : State) (arrays news : List ArrayNow) → s.joined < s.made + 1 → new_layer (record s { made = s.made + 1 }) news ≡ None
make_none s arrays news young =
    cond-true (nat_lt s.joined (s.made + 1) || nat_le 16 (s.made + 1)) None (layer_above (units_of s) (height_of news))
    (or_left (nat_lt s.joined (s.made + 1)) (nat_le 16 (s.made + 1)) (lt-ltb s.joined (s.made + 1) young))

-- The new array offers what its layer did.
pub make_targets : (s : State) (p : Progress) (layer : Layer) → IsBook s p → new_layer s p.arrays.items ≡ Some layer →
    targets (record s { made = s.made + 1 }) (p.arrays.items ++ new_array s p.arrays.items layer.height ∷ []) ≡ targets s p.arrays.items
make_targets s p layer book found =
    let arrays = p.arrays.items in
    let units = units_of s in
    let made : State = record s { made = s.made + 1 } in
    let x = new_array s arrays layer.height in
    let news = arrays ++ x ∷ [] in
    let cut = cut_is s arrays layer found in
    let idle = make_idle s arrays layer found in
    let offered : extents_at_end made (at arrays x) ≡ layer.extents =
    ap (λ (o : Option ℕ). (length (places_reaching units (height_of arrays + layer.height)) + (if is_some o then 1 else 0) - 1) * layer.height) idle
    ∙ ap (λ (level : ℕ). (length (places_reaching units level) + 0 - 1) * layer.height) cut.top
    ∙ ap (λ (n : ℕ). (n - 1) * layer.height) (add-zero (length (places_reaching units cut.cut)))
    ∙ sym cut.extents in
    let ends : map (extents_at_end made) (standing news) ≡ map (extents_at_end s) (standing arrays) ++ layer.extents ∷ [] =
    sym (flat_map_single (extents_at_end made) (standing news)) ∙ parted (λ z. extents_at_end made z ∷ []) arrays [] x
    ∙ ap (λ (e : ℕ). flat_map (λ z. extents_at_end made z ∷ []) (standing arrays) ++ e ∷ []) offered
    ∙ ap (λ (es : List ℕ). es ++ layer.extents ∷ []) (flat_map_single (extents_at_end s) (standing arrays)) in
    ap (λ (o : Option Layer). map (extents_at_end made) (standing news) ++ option_map_or (λ l. l.extents ∷ []) o [])
    (make_none s arrays news (omega (arith, (few_arrays s book.valid).1)))
    ∙ append-nil (map (extents_at_end made) (standing news)) ∙ ends
    ∙ sym (ap (λ (o : Option Layer). map (extents_at_end s) (standing arrays) ++ option_map_or (λ l. l.extents ∷ []) o []) found)

pub make_done : (s : State) (p : Progress) (layer : Layer) → IsBook s p → new_layer s p.arrays.items ≡ Some layer →
    left_after (Make s.made layer.height) s p ≡ after_makes s p (zeros s.made (rows_of s layer.height))
make_done s p layer book found =
    let arrays = p.arrays.items in
    let room = new_layer_is s arrays layer found in
    let joined : s.joined ≡ s.made = omega (arith, room.0, (few_arrays s book.valid).1) in
    let made : State = record s { made = s.made + 1 } in
    let x = new_array s arrays layer.height in
    let news = arrays ++ x ∷ [] in
    let young : nat_lt s.joined (s.made + 1) ≡ true = lt-ltb s.joined (s.made + 1) (omega arith) in
    let grown : growths made (at arrays x) ≡ [] = ap (λ (o : Option ℕ). option_map_or (joins (at arrays x)) o []) (make_idle s arrays layer found) in
    let rows : zero_at news s.joined ≡ rows_of s layer.height =
    ap (λ (i : ℕ). zero_at news i) (joined ∙ sym book.made) ∙ field-at (λ (a : ArrayNow). a.zero) arrays [] x in
    let makes_are : makes made news ≡ zeros s.made (rows_of s layer.height) =
    cond-true (nat_lt s.joined (s.made + 1)) (zeros s.joined (zero_at news s.joined)) _ young
    ∙ ap (λ (n : ℕ). zeros s.joined n) rows ∙ ap (λ (i : ℕ). zeros i (rows_of s layer.height)) joined in
    let extended : extends made (record p { arrays = record { items = news } }) ≡ extends s p =
    ap (λ (ts : List ℕ). if nat_lt p.extents (sum ts) then Extend ∷ [] else []) (make_targets s p layer book found) in
    in_order-same _ _ _ (zeros s.made (rows_of s layer.height)) (extends s p) (closes s)
    (flat_map resyncs (standing news)) (flat_map (rebuilds made) (standing news))
    (flat_map (growths made) (standing news)) (makes made news) (extends made (record p { arrays = record { items = news } })) (closes made)
    (brings_none resyncs arrays x refl) (brings_none (rebuilds made) arrays x (none_rebuilt (rebuilt s) (at arrays x) refl)) (brings_none (growths made) arrays x grown)
    makes_are extended refl
