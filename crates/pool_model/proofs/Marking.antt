-- What a stop leaves inside the commit that marks a pool's places without a drive, before the pool is in service, holds it still.
use Rattle.std.proofs.Common.{◌≡◌, ℕ, ◌-◌, ◌<◌, ◌^◌, Bool, true, bytes_eq, if◌then◌else◌, map, position, Option, Some, None, option_map, refl, sym, ap, ◌∙◌, inl, inr, arith}
use Rattle.std.specs.List.{range_with_len}
use Rattle.std.specs.Option.{option_and_then, option_map_or}
use Rattle.std.specs.Result.{result_ok}
use Rattle.std.proofs.lemmas.Option.{none-some}
use Rattle.rack.specs.Joins.{leaves_weaker}
use Rattle.rack.specs.Moments.{Leaves}
use Rattle.rack.specs.Seen.{Image, RackView}
use Rattle.rack.specs.Sequences.{WritesOnly}
use Rattle.rack.specs.Values.{Values}
use Rattle.slice_rack.specs.Runs.{IsSliced}
use Rattle.slice_rack.specs.Slices.{IsOrderly, Slices, sectors_of}
use Rattle.slice_rack.specs.Sliced.{IsInside, sliced, slices_of}
use Rattle.pool_state.specs.declared.contents.State.{State}
use Rattle.array_image.specs.Arrays.{replayed}
use Rattle.array_image.specs.Foremost.{foremost}
use Rattle.array_image.specs.Left.{IsInside as HasNothing}
use Rattle.array_image.specs.States.{epoch_of, is_current}
use Rattle.array_core.proofs.Leading.{none_leads}
use Rattle.array_core.proofs.Stripped.{some_same}
use Rattle.log_laws.specs.Saying.{HoldsCopies}
use Rattle.raid_laws.specs.Book.{OnlyMarksSince, after_same}
use Rattle.raid_laws.specs.Frames.{frame_of}
use Rattle.raid_laws.specs.Marking.{SaysBetween}
use Rattle.raid_laws.specs.Moves.{IsTrackedInCall, SubCall}
use Rattle.raid_laws.specs.Raid.{Raid}
use Rattle.raid_laws.specs.Runs.{IsBetween}
use Rattle.raid_laws.specs.Since.{AreSince, HoldsSince}
use Rattle.raid_laws.proofs.Moving.{part_says}
use Rattle.raid_laws.proofs.Noted.{current_few}
use Rattle.pool_image.specs.Disks.{Candidate, candidate, identities_of, seat_of, stands_for}
use Rattle.pool_image.specs.Drives.{Found}
use Rattle.pool_model.specs.InService.{IsOutset}
use Rattle.pool_model.specs.Left.{NoStraySuperblockBy, AreElsewhere}
use Rattle.pool_model.specs.Pools.{AreSlicesOf}
use Rattle.pool_model.specs.Stopped.{RecoversBetween, LieByTables, TellsStops}
use Rattle.pool_model.proofs.Amid.{IsReady, found_tells}
use Rattle.pool_model.proofs.Found.{IsFound, seated_below}
use Rattle.pool_model.proofs.Logs.{copied_in, there_in}
use Rattle.pool_model.proofs.Named.{IsNamed, candidate_is, id_same, same_position, stands_named, stands_same}
use Rattle.pool_model.proofs.Said.{AreInside}

-- ---- what the commit tells

-- Parts of a call tell of their stops, where the log slices hold all copies of the state before it.
pub parts_tell : (made : ℕ) (v w : Raid) (a b : RackView) (vals : ℕ → ℕ → Values) (spent : ℕ → ℕ → Bool) → 0 < made
    → ((n : ℕ) → n < made → SubCall v w a b n (vals n) (vals n) (spent n)) → ((n : ℕ) → n < made → IsTrackedInCall v a n (vals n) (spent n))
    → HoldsCopies v.state a → HoldsSince v.state a → a.traced → TellsStops made v w a b
parts_tell made v w a b vals spent some parts amid copies since traced =
    let logs = (parts 0 some).logs copies (amid 0 some) in
    record {
      logs = logs.leaves traced;
      since = (logs.since v.state (after_same v.state) since).leaves traced;
      arrays = λ n low.
          leaves_weaker (λ c. HasNothing a.sectors c → IsTrackedInCall v a n (vals n) (spent n) → SaysBetween v.state w.state n (vals n) (spent n) (replayed a.sectors c))
          (λ c. HasNothing a.sectors c → IsBetween v.state w.state n (replayed a.sectors c))
          (λ c says none.
          let at = says none (amid n low) in
          record {
            state = at.state;
            is_state = at.is_state;
            later = at.later;
            sooner = at.sooner;
            shape = at.shape;
            shape_is = at.says.shape_is;
            is_sound = at.says.is_sound;
          })
          (part_says v w a b n (vals n) (vals n) (spent n) (parts n low) traced);
      frames = λ n low. ((parts n low).frame (frame_of (v.arrays n).truth) refl (amid n low)).leaves traced;
    }

-- ---- a place without a drive

-- No disk stands for it, where the pool's drives have copies since its state that name them, and other disks say what they said.
module _ (f : Found) (found : IsFound f) (t : Slices) (s : State) (i : Image) (outset : IsOutset f) (slices : AreSlicesOf f t) (within : AreInside f t)
    (same : s ≡ f.state) (after : OnlyMarksSince f.state s) (elsewhere : AreElsewhere f i) (since : AreSince s (sectors_of t) (sliced t i)) where
  -- a drive stands for its own place
  own_stands : (q d : ℕ) → f.seats q ≡ Some d → stands_for s (identities_of f.disks i d) ≡ Some q
  own_stands q d seat =
      let ahead = outset.seated q d seat in
      let now : is_current s q ≡ true = ap (λ (z : State). is_current z q) same ∙ ahead.current in
      let on = slices.seats q ∙ seat in
      let lies = slices.logs q d seat in
      let own = (since q (current_few f.state q outset.places ahead.current) (there_in f t i within q d on lies)).own now in
      let named : IsNamed f.state (f.identities d) q = stands_named f.state (f.identities d) q ahead.stands in
      ap (λ o. stands_for s (record { copied = o; table = (identities_of f.disks i d).table })) (copied_in f t i within q d on lies ∙ ap result_ok own.is)
      ∙ ap (option_and_then (λ id. position (λ drive. bytes_eq drive.id.0 id) s.drives.items)) (own.drive ∙ id_same f.state s after.same q ∙ named.place)
      ∙ same_position named.id s.drives.items f.state.drives.items after.same.drives ∙ named.first

  -- a place without one had no candidate
  no_other : (p d : ℕ) → is_current f.state p ≡ true → f.seats p ≡ None → d < f.disks.count → stands_for f.state (f.identities d) ≡ Some p → ⊥
  unfolding seat_of
  no_other p d now free low stands =
      of (foremost (λ (k : Candidate). k.epoch) (map (candidate f.state f.identities p) (range_with_len 0 f.disks.count))) refl
      (sym (ap (λ b. if b then option_map (λ (k : Candidate). k.disk) (foremost (λ (k : Candidate). k.epoch) (map (candidate f.state f.identities p) (range_with_len 0 f.disks.count))) else None) now)
      ∙ sym (found.seats p) ∙ free)
    where
      of : (o : Option Candidate) → foremost (λ (k : Candidate). k.epoch) (map (candidate f.state f.identities p) (range_with_len 0 f.disks.count)) ≡ o
          → option_map (λ (k : Candidate). k.disk) o ≡ None → ⊥
      of None none at =
          none-some (let k : Candidate = record { disk = d; epoch = option_map_or epoch_of (f.identities d).copied 0 } in k)
          (sym (none_leads (λ (k : Candidate). k.epoch) (candidate f.state f.identities p) 0 f.disks.count none d (omega arith) (omega (arith, low)))
          ∙ candidate_is f.state f.identities p d stands)
      of (Some k) some at = none-some k.disk (sym at)

  pub nobody_stands : (p d : ℕ) → is_current s p ≡ true → f.seats p ≡ None → d < f.disks.count → stands_for s (identities_of f.disks i d) ≡ Some p → ⊥
  nobody_stands p d now free low stands = elim (seated_below f.seats d 16) [
    | inl one ↦
        let place : one.0 ≡ p = some_same one.0 p (sym (own_stands one.0 d one.1) ∙ stands) in
        none-some d (sym free ∙ ap f.seats (sym place) ∙ one.1)
    | inr none ↦
        no_other p d (ap (λ (z : State). is_current z p) (sym same) ∙ now) free low
        (sym (stands_same f.state s after.same (f.identities d))
        ∙ ap (stands_for s) (sym (elsewhere.others d (λ q seat. none q (current_few f.state q outset.places (outset.seated q d seat).current) seat) low)) ∙ stands)
  ]

-- ---- the pool

-- Where the book's state is the pool's, each stop inside calls that tell of their stops, which leaves no superblock where none is to be, leaves contents that
-- hold the pool still.
pub marking_amid : (f : Found) (t : Slices) (v w : Raid) (x y : RackView) → IsFound f → IsReady f t v x → v.state ≡ f.state
    → IsOrderly t → IsInside t x → x.lasting → WritesOnly x y (IsSliced t) → (x.traced → TellsStops f.state.made v w (slices_of t x) (slices_of t y))
    → w.state.epoch < 2 ^ 63 - 1 → ((s : State) → OnlyMarksSince v.state s → OnlyMarksSince s w.state → (p d : ℕ) × (is_current s p ≡ true) × (f.seats p ≡ Some d))
    → x.traced → Leaves x y (λ i. LieByTables f t v.state i → NoStraySuperblockBy v.state f i → RecoversBetween f t v.state w.state i)
marking_amid f t v w x y found is same orderly inside lasting only tells enough someone =
    found_tells f t v w x y is orderly inside lasting only tells
    (λ within i off since.
    nobody_stands f found t v.state i is.outset is.slices within same is.after (is.elsewhere i off) since)
    enough someone
