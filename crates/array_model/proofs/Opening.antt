-- An array that is opened on slices at rest holds what they say.
use Rattle.std.proofs.Common.{◌≡◌, ℕ, suc, ◌+◌, ◌<◌, Bool, true, take, Some, unwrap_or, refl, sym, ap, subst, ◌∙◌, inl, inr, arith}
use Rattle.std.proofs.lemmas.Bool.{both_ways, cases_lt}
use Rattle.rack.specs.Values.{MayLeave}
use Rattle.rack.specs.Seen.{Image, RackView, IsLive}
use Rattle.md_super.specs.declared.superblock.Super.{Super}
use Rattle.pool_state.specs.declared.contents.State.{State}
use Rattle.array_image.specs.Places.{member_slice, super_sector, data_sector}
use Rattle.array_image.specs.Stripes.{width, sector_in, there, AgreeIn}
use Rattle.array_image.specs.States.{is_current}
use Rattle.array_image.specs.Supers.{super_in, truth_in}
use Rattle.array_image.specs.SoundArray.{IsSoundArray, first_unsynced}
use Rattle.array_image.specs.Arrays.{Member, Shape, layout_at}
use Rattle.array_image.specs.Even.{AreEven}
use Rattle.array_image.specs.Held.{Among, IsSynced, PicksData, current_in, held_by}
use Rattle.array_image.specs.Left.{reading, IsLeft}
use Rattle.array_image.proofs.Frames.{super_of_sector}
use Rattle.array_image.proofs.Settled.{among_take, settled_value}
use Rattle.array_image.proofs.Sources.{held_current}
use Rattle.array_model.specs.View.{View, shape_of}
use Rattle.array_model.specs.Says.{ImageShowsArray, ArrayInvariant, IsEarlier}
use Rattle.array_model.specs.Opened.{OpensOn}
use Rattle.array_model.specs.Rows.{AgreeAt}
use Rattle.array_model.proofs.DataFrames.{columns_same}
use Rattle.array_model.proofs.Keeping.{reading_live, reading_outside, logs_of}
use Rattle.array_model.proofs.Renewed.{Renews, AreNewer, old, renewed, new_truth, shape_kept, sound_renewed}

-- members that agree in contents agree in others with the same data where members count
pub agree_counted : (shape : Shape) (n y : ℕ) (c e : Image)
    → ((m : Member) (t : ℕ) → Among m shape.members → t < m.reach → c (member_slice m.place n) (data_sector + t) ≡ e (member_slice m.place n) (data_sector + t))
    → AgreeAt shape n e y → AgreeAt shape n c y
agree_counted shape n y c e same agree =
    let layout = layout_at shape y in
    subst (λ stripe. AgreeIn layout (there stripe))
    (sym (columns_same c e n (sector_in layout y) (take (width layout) shape.members)
    (λ m among counted. same m (sector_in layout y) (among_take (width layout) shape.members m among) counted)))
    agree

-- and so do rows
pub even_counted : (shape : Shape) (n resync : ℕ) (c e : Image)
    → ((m : Member) (t : ℕ) → Among m shape.members → t < m.reach → c (member_slice m.place n) (data_sector + t) ≡ e (member_slice m.place n) (data_sector + t))
    → AreEven shape n resync e → AreEven shape n resync c
even_counted shape n resync c e same even x inside synced counts = agree_counted shape n x c e same (even x inside synced counts)

module _ (s : State) (v : View) (x : RackView) (opens : OpensOn s v x) where
  abbrev n : ℕ
  n = v.number

  abbrev shape : Shape
  shape = shape_of v

  abbrev e : Image
  e = reading x

  settled : IsSynced shape n x.held
  settled m t among counts = opens.single m.place (data_sector + t) (opens.open_slices m t among counts)

  module _ (r : Image) (left : IsLeft x r) where
    abbrev c : Image
    c = left.0

    own : (place t : ℕ) → r (member_slice place n) t ≡ c (member_slice place n) t
    own place t = left.2 (member_slice place n) t ∙ opens.closed c (logs_of c left.1) place t

    live_same : (place t : ℕ) → IsLive x x (member_slice place n) t → c (member_slice place n) t ≡ e (member_slice place n) t
    live_same place t live =
        opens.single place t live (c (member_slice place n) t) (left.1.picks (member_slice place n) t live) ∙ sym (reading_live x (member_slice place n) t live)

    picks : PicksData shape n x.held r
    picks m t among counts =
        let live = opens.open_slices m t among counts in
        subst (MayLeave (x.held (member_slice m.place n) (data_sector + t))) (sym (own m.place (data_sector + t))) (left.1.picks (member_slice m.place n) (data_sector + t) live)

    counted : (m : Member) (t : ℕ) → Among m shape.members → t < m.reach → r (member_slice m.place n) (data_sector + t) ≡ e (member_slice m.place n) (data_sector + t)
    counted m t among counts = own m.place (data_sector + t) ∙ live_same m.place (data_sector + t) (opens.open_slices m t among counts)

    super_same : (place : ℕ) → is_current s place ≡ true → super_in s r n place ≡ super_in s e n place
    super_same place current =
        super_of_sector s r e n place
        (own place super_sector
        ∙ elim (cases_lt super_sector (x.sectors (member_slice place n))) [
          | inl inside ↦ live_same place super_sector (opens.supers place (opens.few place current) inside)
          | inr outside ↦ left.1.inside (member_slice place n) super_sector outside ∙ sym (reading_outside x (member_slice place n) super_sector outside)
        ])

    renews : Renews s n e r (λ p t. ⊥)
    renews = record { either = λ p current. inl (super_same p current) }

    newer : AreNewer s n e v.truth (record v.truth { events = suc v.truth.events }) (λ p t. ⊥)
    newer = record {
      later = omega arith;
      fields = λ p t none. absurd none;
      layout = λ p t none. absurd none;
      member = λ p t current none. absurd none;
      rebuilt = λ p t none. absurd none;
    }

    pub truth_now : truth_in s r n ≡ Some v.truth
    truth_now = elim (new_truth s n e r v.truth (record v.truth { events = suc v.truth.events }) (λ p t. ⊥) opens.truth_is newer renews) [
      | old now same ↦ now
      | renewed t p now current none ↦ absurd none
    ]

    says : (spent : ℕ → Bool) → ImageShowsArray s n shape (held_by shape x.held n) spent r
    says spent = record {
      shape_is = shape_kept s n e r v.truth (record v.truth { events = suc v.truth.events }) (λ p t. ⊥) opens.truth_is newer renews ∙ opens.shape_is;
      value = λ y alive. inl (settled_value shape n x.held r settled picks y ∙ sym (held_current shape n x.held y));
      is_sound = λ t is.
          let same : v.truth ≡ t = ap (λ o. unwrap_or o t) (sym truth_now ∙ is) in
          subst (λ (u : Super). IsSoundArray s r n u) same
          (sound_renewed s n e r v.truth (record v.truth { events = suc v.truth.events }) (λ p u. ⊥) v.truth opens.truth_is newer renews opens.sound truth_now opens.sound.written refl refl
          (λ joined f at.
          let here = shape_kept s n e r v.truth (record v.truth { events = suc v.truth.events }) (λ p u. ⊥) opens.truth_is newer renews ∙ opens.shape_is in
          let f_is : shape ≡ f = ap (λ o. unwrap_or o f) (sym here ∙ at) in
          subst (λ (g : Shape). AreEven g n (first_unsynced v.truth) r) f_is
          (even_counted shape n (first_unsynced v.truth) r e counted (opens.sound.even joined shape opens.shape_is))));
    }

  -- It holds what its members hold, whatever is spent.
  pub opens_holds : (spent : ℕ → Bool) → ArrayInvariant s shape v (held_by shape x.held n) spent x
  opens_holds spent = record {
    shape = record {
      open_slices = opens.open_slices;
      open_left = opens.open_slices;
      says = λ r left. says r left spent;
      still = λ c picks m t among counts. opens.closed c (logs_of c picks) m.place (data_sector + t);
      within = λ y alive u may keeps. may;
      current = λ y alive. sym (held_current shape n x.held y);
      sized = opens.sized;
      even = λ y inside synced counts.
          let resync = opens.resync in
          even_counted shape n (first_unsynced v.truth) (current_in x.held) e
          (λ m t among counted. sym (reading_live x (member_slice m.place n) (data_sector + t) (opens.open_slices m t among counted)))
          (opens.sound.even opens.joined shape opens.shape_is) y inside (omega (arith, synced, resync)) counts;
      settled = λ steady. settled;
    };
    mark = λ marked. absurd (both_ways v.marked opens.unmarked marked);
    alone = λ r left place current other. super_same r left place current ∙ opens.alone place current other;
    closed = λ none. opens.closed;
    truth = λ r left t is.
        let same : v.truth ≡ t = ap (λ o. unwrap_or o t) (sym (truth_now r left) ∙ is) in
        subst (λ (u : Super). IsEarlier u v.truth) same (record { fields = refl; events = omega arith });
  }
