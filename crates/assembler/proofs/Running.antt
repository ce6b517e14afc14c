-- The arrays of a pool's drives run as a rack over their slices.
use Rattle.std.proofs.Common.{◌≡◌, ℕ, suc, ◌+◌, ◌<◌, true, false, not, is_some, List, [], ◌∷◌, length, slice_get, Option, Some, None, option_map, refl, sym, ap, subst, ◌∙◌, ◌==◌, eq-eqb}
use Rattle.std.specs.List.{slice_index}
use Rattle.std.proofs.lemmas.Bool.{both_ways}
use Rattle.std.proofs.lemmas.List.Folds.{list_any_at}
use Rattle.std.proofs.lemmas.Option.{get_or_from_slice_get}
use Rattle.rack.specs.Seen.{RackView, SameRack}
use Rattle.slice_rack.specs.Slices.{Slices, seat_of, sectors_of}
use Rattle.slice_rack.specs.Sliced.{slices_of}
use Rattle.slice_rack.specs.Runs.{inside_still}
use Rattle.pool_state.specs.declared.contents.State.{State}
use Rattle.array_image.specs.Places.{arrays_first}
use Rattle.array_image.specs.States.{current_places, is_current}
use Rattle.log_laws.specs.Phases.{AreLogs}
use Rattle.log_laws.specs.View.{names}
use Rattle.array_model.specs.View.{View, IsArray}
use Rattle.array_core.specs.Seats.{gone, restarted}
use Rattle.pool_check.specs.declared.Checked.{Checked}
use Rattle.pool_check.specs.Slots.{AreSlots}
use Rattle.raid_rack.specs.declared.arrays.Arrays.{Arrays}
use Rattle.raid_rack.specs.RaidRack.{IsRunning, no_array, raid_by}
use Rattle.raid_laws.proofs.Added.{names_current}
use Rattle.assembler_laws.specs.Members.{AreMembers}
use Rattle.assembler_laws.proofs.Seating.{few_place, members_set, seated}

-- what members are goes by the sizes of disks
pub members_later : (s : State) (t : Slices) (x y : RackView) (checked : Checked) (absent : List ℕ) → SameRack x y → AreMembers s t x checked absent → AreMembers s t y checked absent
members_later s t x y checked absent stays m = record {
  valid = m.valid;
  fit = (stays.fit, inside_still stays m.fit.1);
  lasting = stays.lasting m.lasting;
  current = m.current;
  absent_is = m.absent_is;
  listed = m.listed;
  room = λ p d seat. subst (λ n. arrays_first + 32 < n) (sym (stays.sectors d)) (m.room p d seat);
  logs = m.logs;
  firsts = m.firsts;
  founded = m.founded;
  slots = subst (λ f. AreSlots f (seat_of t) checked.arrays.items checked.extents.items) (λ i d. sym (stays.sectors d) i) m.slots;
  members = m.members;
}

same_length : {X Y : Type 0} (ws : List Y) (vs : List X) (f : X → Y) → ((n : ℕ) → slice_get ws n ≡ option_map f (slice_get vs n)) → length ws ≡ length vs
same_length [] [] f same = refl
same_length [] (v ∷ vs) f same = absurd (let bad : None ≡ Some (f v) = same 0 in cc)
same_length (w ∷ ws) [] f same = absurd (let bad : Some w ≡ None = same 0 in cc)
same_length (w ∷ ws) (v ∷ vs) f same = ap suc (same_length ws vs f (λ n. same (suc n)))

-- two changes of an element are one
pub twice : (places : List ℕ) (o : Option View) → option_map (gone places) (option_map restarted o) ≡ option_map (λ v. gone places (restarted v)) o
twice places None = refl
twice places (Some v) = refl

module _ (s : State) (t : Slices) (x : RackView) (checked : Checked) (absent : List ℕ) (m : AreMembers s t x checked absent)
    (rules : (n : ℕ) (v : View) → slice_get checked.arrays.items n ≡ Some v → IsArray v) where
  module _ (gone_now : List ℕ) (more : (p : ℕ) → names absent p ≡ true → names gone_now p ≡ true) where
    pub array_now : (items : List View) → ((n : ℕ) → slice_get items n ≡ option_map (λ v. gone gone_now (restarted v)) (slice_get checked.arrays.items n))
        → (n : ℕ) (u : View) → slice_get checked.arrays.items n ≡ Some u → slice_get items n ≡ Some (gone gone_now (restarted u))
    array_now items are n u is = are n ∙ ap (option_map (λ v. gone gone_now (restarted v))) is

    pub rack_running : (a : Arrays) → a.state ≡ s
        → ((n : ℕ) → slice_get a.all.items n ≡ option_map (λ v. gone gone_now (restarted v)) (slice_get checked.arrays.items n))
        → IsRunning a (slices_of t x)
    rack_running a state are = record {
      count = same_length a.all.items checked.arrays.items (λ v. gone gone_now (restarted v)) are ∙ m.founded.count ∙ ap (λ (r : State). r.made) (sym state);
      set = members_set s t x checked absent m rules gone_now more (raid_by a) state
          (λ n u is. get_or_from_slice_get a.all.items n (gone gone_now (restarted u)) no_array (array_now a.all.items are n u is));
    }

  -- where no place is absent each current place has its log slice
  pub current_logs : absent ≡ [] → AreLogs (sectors_of t) (current_places s)
  current_logs none j low =
      let p = slice_index (current_places s) j in
      let named : names (current_places s) p ≡ true = named_at (current_places s) j low in
      let current : is_current s p ≡ true = sym (names_current s p) ∙ named in
      let seat = some_seat (seat_of t p) (sym (seated s t x checked absent m rules [] (λ q is. sym (ap (λ ps. names ps q) none) ∙ is) p current) ∙ ap (λ ps. names ps p) none) in
      (few_place s t x checked absent m rules [] (λ q is. sym (ap (λ ps. names ps q) none) ∙ is) p current, m.logs p seat.0 seat.1)
    where
      some_seat : (o : Option ℕ) → not (is_some o) ≡ false → (d : ℕ) × (o ≡ Some d)
      some_seat None is = absurd (both_ways true is refl)
      some_seat (Some d) is = (d, refl)

      named_at : (ps : List ℕ) (k : ℕ) → k < length ps → names ps (slice_index ps k) ≡ true
      named_at ps k below = list_any_at (λ q. q == slice_index ps k) ps k 0 below (eq-eqb (slice_index ps k) (slice_index ps k) refl)
