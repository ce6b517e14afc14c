-- Each current place has the drive that it had, where disks say so.
use Rattle.std.proofs.Common.{◌≡◌, ◌⊎◌, ℕ, zero, suc, ◌+◌, ◌<◌, ◌≤◌, ◌==◌, ◌∷◌, Bool, true, false, bytes_eq, if◌then◌else◌, map, position, Option, Some, None, option_map, refl, sym, ap, subst, ◌∙◌, inl, inr, eqb-true, arith}
use Rattle.std.specs.Option.{option_and_then, option_map_or}
use Rattle.std.specs.List.{range_with_len}
use Rattle.std.proofs.lemmas.Bool.{cases_Bool}
use Rattle.rack.specs.Seen.{Image}
use Rattle.pool_state.specs.declared.contents.Copied.{Copied}
use Rattle.pool_state.specs.declared.contents.State.{State}
use Rattle.array_image.specs.Foremost.{foremost}
use Rattle.array_image.specs.States.{epoch_of, is_current}
use Rattle.array_core.proofs.Leading.{Leads, leads_foremost}
use Rattle.array_core.proofs.Stripped.{some_same}
use Rattle.raid_laws.proofs.Noted.{current_few}
use Rattle.pool_image.specs.Disks.{Candidate, Disks, Identities, Identity, candidate, identities_of, seat_of, stands_for}
use Rattle.pool_image.specs.Drives.{Found}
use Rattle.pool_model.specs.InService.{HasSeat, epoch_at}
use Rattle.pool_model.proofs.Found.{seated_below}
use Rattle.pool_model.proofs.Named.{IsNamed, candidate_is, id_same, is_candidate, same_position, stands_named, stands_same}
use Rattle.pool_model.proofs.Outset.{no_later_epoch}
use Rattle.pool_model.proofs.Said.{SaysSeats}

-- where there is nothing, nothing is foremost
none_foremost : {X : Type 0} (measure : X → ℕ) (h : ℕ → Option X) (a n : ℕ) → ((k : ℕ) → a ≤ k → k < a + n → h k ≡ None) → foremost measure (map h (range_with_len a n)) ≡ None
unfolding foremost
none_foremost measure h a zero none = refl
none_foremost {X} measure h a (suc n) none =
    ap (λ (o : Option X). foremost measure (o ∷ map h (range_with_len (a + 1) n))) (none a (omega arith) (omega arith))
    ∙ none_foremost measure h (a + 1) n (λ k from below. none k (omega (arith, from)) (omega (arith, below)))

-- a disk that doesn't stand for a place is no candidate
no_candidate : (s : State) (ids : Identities) (p d : ℕ) → (stands_for s (ids d) ≡ Some p → ⊥) → candidate s ids p d ≡ None
no_candidate s ids p d never = of (stands_for s (ids d)) refl
  where
    of_test : (q : ℕ) → stands_for s (ids d) ≡ Some q → (b : Bool) → (q == p) ≡ b
        → (if b then Some (let k : Candidate = record { disk = d; epoch = option_map_or epoch_of (ids d).copied 0 } in k) else None) ≡ None
    of_test q stands false other = refl
    of_test q stands true same = absurd (never (stands ∙ ap Some (eqb-true q p same)))

    of : (o : Option ℕ) → stands_for s (ids d) ≡ o
        → (if option_map_or (λ q. q == p) o false then Some (let k : Candidate = record { disk = d; epoch = option_map_or epoch_of (ids d).copied 0 } in k) else None) ≡ None
    of None stands = refl
    of (Some q) stands = of_test q stands (q == p) refl

-- The disk that stands for a current place, where those before it that do so say earlier states, and those behind it no later ones.
pub seat_leads : (s : State) (disks : Disks) (ids : Identities) (p d : ℕ) → is_current s p ≡ true → d < disks.count → stands_for s (ids d) ≡ Some p
    → ((q : ℕ) → q < d → stands_for s (ids q) ≡ Some p → epoch_at (ids q) < epoch_at (ids d))
    → ((q : ℕ) → d < q → q < disks.count → stands_for s (ids q) ≡ Some p → epoch_at (ids q) ≤ epoch_at (ids d)) → seat_of s disks ids p ≡ Some d
unfolding seat_of
seat_leads s disks ids p d now low stands before behind =
    let here : Candidate = record { disk = d; epoch = epoch_at (ids d) } in
    let leads : Leads (λ (k : Candidate). k.epoch) (candidate s ids p) 0 disks.count here =
    record {
      at = d;
      least = omega arith;
      most = omega (arith, low);
      here = candidate_is s ids p d stands;
      before = λ q z from less at.
          let one = is_candidate s ids p q z at in
          let epoch = one.epoch in
          let earlier = before q less one.stands in
          omega (arith, epoch, earlier);
      after = λ q z late within at.
          let one = is_candidate s ids p q z at in
          let epoch = one.epoch in
          let most = behind q late (omega (arith, within)) one.stands in
          omega (arith, epoch, most);
    } in
    ap (λ b. if b then option_map (λ (k : Candidate). k.disk) (foremost (λ (k : Candidate). k.epoch) (map (candidate s ids p) (range_with_len 0 disks.count))) else None) now
    ∙ ap (option_map (λ (k : Candidate). k.disk)) (leads_foremost (λ (k : Candidate). k.epoch) (candidate s ids p) 0 disks.count here leads)

module _ (f : Found) (book : State) (i : Image) (said : SaysSeats f book i) where
  abbrev says : ℕ → Identity
  says = identities_of f.disks i

  abbrev ahead_of : (p d : ℕ) → f.seats p ≡ Some d → HasSeat f p d
  ahead_of p d seat = said.is.seated p d seat

  low_place : (p d : ℕ) → f.seats p ≡ Some d → p < 16
  low_place p d seat = current_few f.state p said.is.places (ahead_of p d seat).current

  -- a disk of the pool is some place's, or none's
  seated_or : (d : ℕ) → ((p : ℕ) × (f.seats p ≡ Some d)) ⊎ ((p : ℕ) → f.seats p ≡ Some d → ⊥)
  seated_or d = elim (seated_below f.seats d 16) [
    | inl one ↦ inl one
    | inr none ↦ inr (λ p seat. none p (low_place p d seat) seat)
  ]

  -- a current place's drive stands for it
  pub stands_now : (p d : ℕ) → is_current book p ≡ true → f.seats p ≡ Some d → stands_for book (says d) ≡ Some p
  stands_now p d now seat =
      let copy = said.copies p d now seat in
      let named : IsNamed f.state (f.identities d) p = stands_named f.state (f.identities d) p (ahead_of p d seat).stands in
      ap (λ o. stands_for book (record { copied = o; table = (says d).table })) copy.is
      ∙ ap (option_and_then (λ id. position (λ drive. bytes_eq drive.id.0 id) book.drives.items)) (copy.drive ∙ id_same f.state book said.after.same p ∙ named.place)
      ∙ same_position named.id book.drives.items f.state.drives.items said.after.same.drives ∙ named.first

  epoch_now : (p d : ℕ) → is_current book p ≡ true → f.seats p ≡ Some d → f.state.epoch ≤ epoch_at (says d)
  epoch_now p d now seat =
      let copy = said.copies p d now seat in
      let since = copy.since in
      let same : epoch_at (says d) ≡ copy.copy.state.epoch = ap (λ (o : Option Copied). option_map_or epoch_of o 0) copy.is in
      omega (arith, since, same)

  -- a disk that is none of the pool's says no later state than the pool's
  other_low : (q : ℕ) → ((p : ℕ) → f.seats p ≡ Some q → ⊥) → q < f.disks.count → epoch_at (says q) ≤ f.state.epoch
  other_low q none low = subst (λ (z : Identity). epoch_at z ≤ f.state.epoch) (sym (said.others q none low)) (of (f.identities q).copied refl)
    where
      of : (o : Option Copied) → (f.identities q).copied ≡ o → option_map_or epoch_of o 0 ≤ f.state.epoch
      of None none = omega arith
      of (Some copy) some = no_later_epoch f.state copy (said.is.copies q copy low some)

  -- a seated disk that stands for a place is its drive, or says an earlier state
  seated_there : (p d q r : ℕ) → is_current book p ≡ true → f.seats p ≡ Some d → f.seats r ≡ Some q → stands_for book (says q) ≡ Some p
      → (q ≡ d) ⊎ (epoch_at (says q) < epoch_at (says d))
  seated_there p d q r now seat other stands = elim (cases_Bool (is_current book r)) [
    | inr former ↦ inr (said.former r q p d other former seat now stands)
    | inl counts ↦
        let same : r ≡ p = some_same r p (sym (stands_now r q counts other) ∙ stands) in
        inl (some_same q d (sym other ∙ ap f.seats same ∙ seat))
  ]

  -- of the disks that stand for it those before its drive have earlier states
  before_it : (p d q : ℕ) (z : Candidate) → is_current book p ≡ true → f.seats p ≡ Some d → q < d → candidate book says p q ≡ Some z → z.epoch < epoch_at (says d)
  before_it p d q z now seat less at =
      let ahead = ahead_of p d seat in
      let there = ahead.low in
      let low : q < f.disks.count = omega (arith, there, less) in
      let one = is_candidate book says p q z at in
      let epoch = one.epoch in
      elim (seated_or q) [
        | inr none ↦
            let same : says q ≡ f.identities q = said.others q none low in
            let stands : stands_for f.state (f.identities q) ≡ Some p =
            sym (stands_same f.state book said.after.same (f.identities q)) ∙ ap (stands_for book) (sym same) ∙ one.stands in
            let earlier = ahead.before q less none stands in
            let from = epoch_now p d now seat in
            let was : epoch_at (says q) ≡ epoch_at (f.identities q) = ap (λ (k : Identity). option_map_or epoch_of k.copied 0) same in
            omega (arith, epoch, earlier, from, was)
        | inl other ↦ elim (seated_there p d q other.0 now seat other.1 one.stands) [
          | inl same ↦ absurd (omega (arith, less, same))
          | inr below ↦ omega (arith, epoch, below)
        ]
      ]

  -- and those after it no later ones
  after_it : (p d q : ℕ) (z : Candidate) → is_current book p ≡ true → f.seats p ≡ Some d → d < q → q < f.disks.count → candidate book says p q ≡ Some z
      → z.epoch ≤ epoch_at (says d)
  after_it p d q z now seat late low at =
      let one = is_candidate book says p q z at in
      let epoch = one.epoch in
      elim (seated_or q) [
        | inr none ↦
            let most = other_low q none low in
            let from = epoch_now p d now seat in
            omega (arith, epoch, most, from)
        | inl other ↦ elim (seated_there p d q other.0 now seat other.1 one.stands) [
          | inl same ↦ absurd (omega (arith, late, same))
          | inr below ↦ omega (arith, epoch, below)
        ]
      ]

  pub seats_now : (p : ℕ) → is_current book p ≡ true → seat_of book f.disks says p ≡ f.seats p
  unfolding seat_of
  seats_now p now = by (f.seats p) refl
    where
      none_stands : f.seats p ≡ None → foremost (λ (k : Candidate). k.epoch) (map (candidate book says p) (range_with_len 0 f.disks.count)) ≡ None
      none_stands free = none_foremost (λ (k : Candidate). k.epoch) (candidate book says p) 0 f.disks.count (λ d from low. no_candidate book says p d (said.absent p d now free (omega (arith, low))))

      by : (o : Option ℕ) → f.seats p ≡ o
          → (if is_current book p then option_map (λ (k : Candidate). k.disk) (foremost (λ (k : Candidate). k.epoch) (map (candidate book says p) (range_with_len 0 f.disks.count))) else None) ≡ f.seats p
      by None free =
          ap (λ b. if b then option_map (λ (k : Candidate). k.disk) (foremost (λ (k : Candidate). k.epoch) (map (candidate book says p) (range_with_len 0 f.disks.count))) else None) now
          ∙ ap (option_map (λ (k : Candidate). k.disk)) (none_stands free) ∙ sym free
      by (Some d) seat =
          let low = (ahead_of p d seat).low in
          let here : Candidate = record { disk = d; epoch = epoch_at (says d) } in
          let leads : Leads (λ (k : Candidate). k.epoch) (candidate book says p) 0 f.disks.count here =
          record {
            at = d;
            least = omega arith;
            most = omega (arith, low);
            here = candidate_is book says p d (stands_now p d now seat);
            before = λ q z from less at. before_it p d q z now seat less at;
            after = λ q z late within at. after_it p d q z now seat late (omega (arith, within)) at;
          } in
          ap (λ b. if b then option_map (λ (k : Candidate). k.disk) (foremost (λ (k : Candidate). k.epoch) (map (candidate book says p) (range_with_len 0 f.disks.count))) else None) now
          ∙ ap (option_map (λ (k : Candidate). k.disk)) (leads_foremost (λ (k : Candidate). k.epoch) (candidate book says p) 0 f.disks.count here leads)
          ∙ sym seat

-- a place that isn't current has no drive
pub nowhere : (s : State) (disks : Disks) (ids : Identities) (p : ℕ) → is_current s p ≡ false → seat_of s disks ids p ≡ None
unfolding seat_of
nowhere s disks ids p former =
    ap (λ b. if b then option_map (λ (k : Candidate). k.disk) (foremost (λ (k : Candidate). k.epoch) (map (candidate s ids p) (range_with_len 0 disks.count))) else None) former
