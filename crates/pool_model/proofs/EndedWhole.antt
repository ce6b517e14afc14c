-- Contents that a pool leaves that has ended whole: they aren't refused, and any one of its drives may be absent.
use Rattle.std.proofs.Common.{◌≡◌, ℕ, ◌<◌, ◌^◌, Bool, false, nat_lt, if◌then◌else◌, length, Some, None, option_map, refl, sym, ap, ap₂, subst, ◌∙◌, inl, inr, le-ltb, lt-ltb, arith}
use Rattle.std.specs.Option.{option_map_or}
use Rattle.std.proofs.lemmas.Bool.{cases_Bool, cases_lt}
use Rattle.std.proofs.lemmas.Option.{none-some}
use Rattle.rack.specs.Seen.{Image, IsPick, RackView}
use Rattle.slice_rack.specs.Slices.{Slices}
use Rattle.slice_rack.specs.Sliced.{IsInside, slices_of as slices_shown}
use Rattle.pool_state.specs.declared.contents.State.{State}
use Rattle.array_image.specs.States.{is_current}
use Rattle.array_core.proofs.Stripped.{some_same}
use Rattle.array_model.specs.View.{sectors_of as sectors_in}
use Rattle.raid_laws.specs.Raid.{Raid, spent_of}
use Rattle.lvm_group.specs.Runs.{Linear}
use Rattle.pool_image.specs.Book.{ArrayNow, IsWhole, array_now, book_of}
use Rattle.pool_image.specs.Disks.{Disks, Identity, disks_of}
use Rattle.pool_image.specs.Drives.{Found, found}
use Rattle.pool_image.specs.Meaning.{has_other_pool, is_dirty_degraded, is_too_few, joined_arrays, no_pool, refusal_of, refused_at, refused_by, truth_of, two_pools}
use Rattle.pool_image.specs.Volumes.{first_bad}
use Rattle.pool_image.specs.Replay.{Standing}
use Rattle.pool_model.specs.Absent.{EndsWhole, HoldAbsent, IsWholePool}
use Rattle.pool_model.specs.Grouped.{HoldGroup}
use Rattle.pool_model.specs.Left.{HoldRest, IsServed}
use Rattle.pool_model.specs.Pools.{IsSoundPool}
use Rattle.pool_model.proofs.Again.{known_again, left_known}
use Rattle.pool_model.proofs.Copies.{copy_pool, IsKnown, other_same, s, seats_now}
use Rattle.pool_model.proofs.Extents.{truth_is}
use Rattle.pool_model.proofs.Known.{says_pool}
use Rattle.pool_model.proofs.Reopening.{sound_known, undamaged_known}
use Rattle.pool_model.proofs.Rested.{found_now, now, stands_so, stood}
use Rattle.pool_model.proofs.Said.{SaysPool}
use Rattle.pool_model.proofs.Still.{same, sound_now}
use Rattle.pool_model.proofs.Undamaged.{present_now}
use Rattle.pool_model.proofs.Unrefused.{no_damages, not_refused, other_pool}
use Rattle.pool_model.proofs.Absent.{find_none, safe_in_absence}
use Rattle.pool_model.proofs.Ended.{closed_now, done, enough, in_sync, level_now, low_before, none_gone, only_now, w}

module _ (f : Found) (t : Slices) (v : Raid) (y : RackView) (i : Image) (known : IsKnown f t v y i) (ends : EndsWhole f v y) where
  abbrev book : State
  book = s f t v y i known

  abbrev g : Found
  g = now f t v y i known

  abbrev rest : Standing
  rest = stood f t v y i known

  abbrev said : SaysPool f t v.state i
  said = says_pool f t v y i known

  -- no disk is of another pool
  own_pool : has_other_pool f.disks rest ≡ false
  own_pool = elim (cases_Bool (has_other_pool f.disks rest)) [
    | inr none ↦ none
    | inl is ↦
        let other = other_pool g refl (copy_pool f t v y i known) is in
        let d = other.disk in
        let unseated : (p : ℕ) → f.seats p ≡ Some d → ⊥ =
        λ p seat. elim (cases_Bool (is_current book p)) [
          | inl counts ↦ other.unseated p (seats_now f t v y i known p counts ∙ seat)
          | inr gone ↦ none_gone f t v y i known ends p d seat gone
        ] in
        absurd (other.other
        ((ends.alone.others d unseated other.low).pool other.copy (sym (ap (λ (z : Identity). z.copied) (other_same f t v y i known d unseated other.low)) ∙ other.says)
        ∙ sym known.served.after.same.pool))
  ]

  module _ (small : (d : ℕ) → d < f.disks.count → f.disks.sectors d < 2 ^ 48) (sectors : (d k : ℕ) → d < f.disks.count → k < f.disks.sectors d → length (i d k) ≡ 512)
      (good : first_bad (joined_arrays g) ≡ None) where
    refused_none : refused_by g ≡ None
    refused_none =
        not_refused g (let none = present_now f t v y i known in omega (arith, none))
        (no_damages g
        (undamaged_known f t v y i known small (λ n r low left. (ends.agree n r low left).agree) (λ p d counts seat. ends.alone.tables p d seat)))
        (find_none (is_too_few g) 0 book.made (λ n low. enough f t v y i known ends small n (low_before f t v y i known ends n (omega (arith, low)))))
        (find_none (is_dirty_degraded g) 0 book.made (λ n low. in_sync f t v y i known ends small n (low_before f t v y i known ends n (omega (arith, low)))))
        good

    refusal_none : refusal_of f.disks i ≡ None
    unfolding refusal_of
    refusal_none =
        ap (λ o. option_map_or (refused_at f.disks i) o (Some no_pool)) (stands_so f t v y i known)
        ∙ ap₂ (λ b o. if b then Some two_pools else option_map_or refused_by o (Some no_pool))
        own_pool
        (found_now f t v y i known)
        ∙ refused_none

    whole_now : IsWhole (book_of g)
    unfolding book_of
    whole_now = record { drives = ends.book.drives; rows = rows }
      where
        rows : (n : ℕ) (at : ArrayNow) → (if nat_lt n book.made then option_map (array_now g n) (truth_of g n) else None) ≡ Some at
            → (at.resync ≡ 0) × (at.rebuild ≡ 0) × (at.zero_rows ≡ 0)
        rows n at found_at = elim (cases_lt n book.made) [
          | inl inside ↦
              let low = low_before f t v y i known ends n inside in
              subst (λ (z : ArrayNow). (z.resync ≡ 0) × (z.rebuild ≡ 0) × (z.zero_rows ≡ 0))
              (some_same (array_now g n (w f t v y i known ends small n low)) at
              (sym (ap (λ (b : Bool). if b then option_map (array_now g n) (truth_of g n) else None) (lt-ltb n book.made inside)
              ∙ ap (option_map (array_now g n)) (truth_is f t v.state i rest said n low)) ∙ found_at))
              (done f t v y i known ends small n low)
          | inr past ↦
              absurd (none-some at (sym (ap (λ (b : Bool). if b then option_map (array_now g n) (truth_of g n) else None) (le-ltb n book.made past)) ∙ found_at))
        ]

    pub ended_whole : IsWholePool f.disks i g
    ended_whole = record {
      sectors = sectors;
      small = small;
      means = refusal_none;
      is_found = found_now f t v y i known;
      sound = (sound_now f t v.state i rest said).rules;
      whole = whole_now;
      present = present_now f t v y i known;
      only = only_now f t v y i known ends;
      closed = closed_now f t v y i known ends;
      level = level_now f t v y i known ends;
    }

-- Of what a pool that has ended whole leaves, and whose arrays hold a volume's group, the meaning without any one drive is the meaning with it.
unfoldable pub known_absent : {l : Linear} (f : Found) (t : Slices) (v : Raid) (y : RackView) (i : Image) → IsKnown f t v y i → EndsWhole f v y
    → ((d k : ℕ) → d < f.disks.count → k < f.disks.sectors d → length (i d k) ≡ 512)
    → ((d : ℕ) → d < f.disks.count → f.disks.sectors d < 2 ^ 48)
    → HoldGroup v l y
    → ((n k : ℕ) → n < f.state.made → k < sectors_in (v.arrays n) → spent_of v n k ≡ false)
    → HoldAbsent f t v.state i
unfolding known_again
known_absent {l} f t v y i known ends sectors small group alive = record {
  again = known_again f t v y i known;
  safe =
      safe_in_absence f.disks i (now f t v y i known)
      (ended_whole f t v y i known ends small sectors
      (sound_known f t v y i known small l group
      (λ n x low within first. alive n x (let joined = known.served.after.same.joined in let all = known.served.joined in omega (arith, low, joined, all)) within) sectors));
}

-- Disks of a served pool that has ended whole, which outside its slices are as they were, and whose arrays hold a volume's group: of what they may be
-- left with the meaning without any one drive is the meaning with it.
pub left_absent : {l : Linear} (f : Found) (t : Slices) (x : RackView) (v : Raid) → IsServed f t v (slices_shown t x) → IsInside t x
    → (disks : Disks) (before i : Image) → found disks before ≡ Some f → disks ≡ disks_of x → IsSoundPool f → HoldRest f t x → IsPick x x x.held i
    → EndsWhole f v (slices_shown t x)
    → ((d k : ℕ) → d < f.disks.count → k < f.disks.sectors d → length (i d k) ≡ 512)
    → ((d : ℕ) → d < f.disks.count → f.disks.sectors d < 2 ^ 48)
    → HoldGroup v l (slices_shown t x)
    → ((n k : ℕ) → n < f.state.made → k < sectors_in (v.arrays n) → spent_of v n k ≡ false)
    → HoldAbsent f t v.state i
left_absent f t x v served inside disks before i found_before same sound rest pick ends sectors small group alive =
    known_absent f t v (slices_shown t x) i
    (left_known f t x v served inside disks before i found_before same sound (rest.elsewhere i (λ d u live never. pick d u live)) (rest.alone i (λ d u live never. pick d u live)) pick)
    ends sectors small group alive
