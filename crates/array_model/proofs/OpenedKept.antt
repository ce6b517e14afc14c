-- An array that slices hold at rest is theirs after calls that kept all but log slices.
use Rattle.std.proofs.Common.{◌≡◌, ℕ, ◌+◌, ◌<◌, ◌≤◌, Bool, List, [], nat_lt, if◌then◌else◌, length, refl, sym, ap, subst, ◌∙◌, inl, inr, lt-ltb, le-ltb, arith}
use Rattle.std.proofs.lemmas.Bool.{cases_lt}
use Rattle.rack.specs.Values.{Keeps}
use Rattle.rack.specs.Seen.{RackView, IsLive, SameRack}
use Rattle.pool_state.specs.declared.contents.State.{State}
use Rattle.array_image.specs.Places.{slice_of, member_slice, super_sector, data_sector}
use Rattle.array_image.specs.Left.{reading, NothingPending}
use Rattle.array_image.proofs.Frames.{Agree, super_of_sector, supers_same, truth_by_supers, shape_same}
use Rattle.array_image.proofs.SoundFrames.{sound_same}
use Rattle.array_model.specs.View.{View}
use Rattle.array_model.specs.Opened.{OpensOn}
use Rattle.array_model.proofs.Keeping.{live_on, live_after}

module _ (s : State) (v : View) (a b : RackView) (few : v.number < 16) (lasting : a.lasting) (stays : SameRack a b)
    (live : (place t : ℕ) → t < a.sectors (member_slice place v.number) → IsLive a a (member_slice place v.number) t)
    (keeps : (place t : ℕ) → IsLive a b (member_slice place v.number) t → Keeps (a.held (member_slice place v.number) t) (b.held (member_slice place v.number) t)) where
  abbrev n : ℕ
  n = v.number

  -- what the members' slices read as
  same_reading : Agree n (reading b) (reading a)
  same_reading place t =
      let d = member_slice place n in
      let sectors = stays.sectors d in
      elim (cases_lt t (a.sectors d)) [
        | inl inside ↦
            ap (λ (k : Bool). if k then (b.held d t).current else []) (lt-ltb t (b.sectors d) (subst (λ m. t < m) (sym sectors) inside))
            ∙ (keeps place t (live_on lasting stays (live place t inside))).current
            ∙ sym (ap (λ (k : Bool). if k then (a.held d t).current else []) (lt-ltb t (a.sectors d) inside))
        | inr past ↦
            ap (λ (k : Bool). if k then (b.held d t).current else []) (le-ltb t (b.sectors d) (subst (λ m. m ≤ t) (sym sectors) past))
            ∙ sym (ap (λ (k : Bool). if k then (a.held d t).current else []) (le-ltb t (a.sectors d) past))
      ]

  had : (place t : ℕ) → t < b.sectors (member_slice place n) → t < a.sectors (member_slice place n)
  had place t = subst (λ m. t < m) (stays.sectors (member_slice place n))

  pub opens_kept : NothingPending n b → OpensOn s v a → OpensOn s v b
  opens_kept closed opens = record {
    few = opens.few;
    joined = opens.joined;
    shape_is = shape_same s (reading b) (reading a) n same_reading ∙ opens.shape_is;
    truth_is = truth_by_supers s (reading b) (reading a) n (supers_same s (reading b) (reading a) n same_reading) ∙ opens.truth_is;
    sound = sound_same s (reading b) (reading a) n v.truth same_reading opens.sound;
    alone = λ place current other.
        super_of_sector s (reading b) (reading a) n place (same_reading place super_sector) ∙ opens.alone place current other;
    resync = opens.resync;
    unmarked = opens.unmarked;
    closed = closed;
    single = λ place t at x may.
        let before = live place t (had place t at.sector) in
        let keep = keeps place t (live_on lasting stays before) in
        opens.single place t before x (keep.within x may) ∙ sym keep.current;
    open_slices = λ m t among counts. live_after stays (live_on lasting stays (opens.open_slices m t among counts));
    supers = λ place small inside. live_after stays (live_on lasting stays (opens.supers place small (had place super_sector inside)));
    sized = λ m t among counts.
        ap length (keeps m.place (data_sector + t) (live_on lasting stays (opens.open_slices m t among counts))).current ∙ opens.sized m t among counts;
  }
