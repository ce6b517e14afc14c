-- What contents between calls say of the pool that is served.
use Rattle.std.proofs.Common.{◌≡◌, ℕ, ◌<◌, Some, refl, sym, ap, subst, ◌∙◌}
use Rattle.rack.specs.Seen.{Image, RackView}
use Rattle.slice_rack.specs.Slices.{Slices}
use Rattle.md_super.specs.declared.superblock.Super.{Super}
use Rattle.array_image.specs.Left.{IsLeft}
use Rattle.array_image.specs.Supers.{is_named, truth_in}
use Rattle.array_model.specs.Says.{IsEarlier, ImageShowsArray}
use Rattle.array_model.specs.View.{shape_of}
use Rattle.raid_laws.specs.Frames.{Frame, frame_of}
use Rattle.raid_laws.specs.Raid.{Raid, held_in, spent_of}
use Rattle.raid_laws.proofs.Frames.{earlier_frame, geometry_frame}
use Rattle.pool_image.specs.Drives.{Found}
use Rattle.pool_image.specs.Meaning.{truth_of}
use Rattle.pool_model.specs.Stopped.{SaysArray}
use Rattle.pool_model.proofs.Copies.{IsKnown, c, copied_now, copy_now, kept, newest_now, no_later, seats_now, stands, stood}
use Rattle.pool_model.proofs.Current.{shape_truth}
use Rattle.pool_model.proofs.Said.{SaysPool}

module _ (f : Found) (t : Slices) (v : Raid) (y : RackView) (i : Image) (known : IsKnown f t v y i) where
  abbrev held : Image
  held = c f t v y i known

  pub left : IsLeft y held
  left = (held, known.left.picks, λ d u. sym ((kept f t v y i known).quiet held (stands f t v y i known) d u refl))

  module _ (n : ℕ) (low : n < f.state.made) where
    -- what the slices say of the array
    pub says : ImageShowsArray v.state n (shape_of (v.arrays n)) (held_in v y n) (spent_of v n) held
    says =
        subst (λ k. ImageShowsArray v.state k (shape_of (v.arrays n)) (held_in v y n) (spent_of v n) held) (stood f t v y i known n low).number
        ((stood f t v y i known n low).holds.shape.says held left)

    pub earlier : (u : Super) → truth_in v.state held n ≡ Some u → IsEarlier u (v.arrays n).truth
    earlier u at =
        (stood f t v y i known n low).holds.truth held left u
        (subst (λ k. truth_in v.state held k ≡ Some u) (sym (stood f t v y i known n low).number) at)

    says_array : SaysArray f v.state held n
    says_array =
        let one = shape_truth v.state held n (truth_in v.state held n) (shape_of (v.arrays n)) says.shape_is in
        let fields = (earlier one.0 one.1).fields in
        let framed : (u : Super) → truth_of f n ≡ Some u → frame_of one.0 ≡ frame_of u =
        λ u at. earlier_frame one.0 (v.arrays n).truth (earlier one.0 one.1) ∙ geometry_frame u (v.arrays n).truth (known.served.geometry n u low at) in
        record {
          truth = one.0;
          is_truth = one.1;
          sound = says.is_sound one.0 one.1;
          size = λ u at. ap (λ (g : Frame). g.size) (framed u at);
          layout = λ u at. ap (λ (g : Frame). g.layout) (framed u at);
          named = λ u p at. ap (λ roles. is_named (record one.0 { roles = roles }) p) (ap (λ (z : Super). z.roles) fields ∙ (known.served.geometry n u low at).roles);
        }

  pub says_pool : SaysPool f t v.state i
  says_pool = record {
    is = known.is;
    after = known.served.after;
    joined = known.served.joined;
    slices = known.served.slices;
    inside = known.left.inside;
    newest_is = newest_now f t v y i known;
    seats = seats_now f t v y i known;
    own = λ p d now seat. ((copy_now f t v y i known p d seat now).own, copied_now f t v y i known p d seat now);
    latest = no_later f t v y i known;
    arrays = says_array;
    alone = known.left.alone;
  }
