-- A pool that is the same but for gates is sound where the other one is.
use Rattle.std.proofs.Common.{◌≡◌, ℕ, ◌+◌, ◌<◌, nat_lt, is_none, if◌then◌else◌, List, map, take, Option, Some, None, sym, ap, subst, ◌∙◌, arith}
use Rattle.md_super.specs.declared.superblock.Super.{Super}
use Rattle.array_image.specs.Places.{member_slice, data_sector}
use Rattle.array_image.specs.Stripes.{AgreeIn, there, sector_in, width}
use Rattle.array_image.specs.Arrays.{Member, Shape, column, layout_at}
use Rattle.array_image.specs.Even.{AreEven}
use Rattle.array_image.specs.SoundArray.{IsSoundArray, first_unsynced}
use Rattle.array_image.proofs.Frames.{shape_by_supers}
use Rattle.pool_image.specs.Disks.{Disks}
use Rattle.pool_image.specs.Book.{planned}
use Rattle.pool_image.specs.Drives.{Found, slices_of}
use Rattle.pool_image.specs.Sound.{IsSoundState}
use Rattle.pool_image.specs.Alike.{IsSamePool}
use Rattle.pool_image.proofs.Founds.{slices_same, supers_same, truths_same}

module _ (f g : Found) (same : IsSamePool f g) where
  columns_same : (n sector : ℕ) → column (slices_of g) n sector ≡ column (slices_of f) n sector
  columns_same n sector =
      λ i m. ap (λ (v : List ℕ). if nat_lt sector m.reach then Some v else None) (slices_same f g same (member_slice m.place n) (data_sector + sector) (omega arith)) i

  even_same : (n : ℕ) (shape : Shape) (left : ℕ) → AreEven shape n left (slices_of f) → AreEven shape n left (slices_of g)
  even_same n shape left even x small row all =
      let layout = layout_at shape x in
      subst (λ (read : Member → Option (List ℕ)). AgreeIn layout (there (map read (take (width layout) shape.members))))
      (sym (columns_same n (sector_in layout x))) (even x small row all)

  array_same : (n : ℕ) (t : Super) → IsSoundArray f.state (slices_of f) n t → IsSoundArray f.state (slices_of g) n t
  array_same n t sound =
      let supers = supers_same f g same n in
      record {
        two = sound.two;
        written = sound.written;
        same = λ p q u v p_is q_is u_is v_is events. sound.same p q u v p_is q_is (sym (supers p) ∙ u_is) (sym (supers q) ∙ v_is) events;
        rebuilt = λ p u p_is u_is rebuilds. sound.rebuilt p u p_is (sym (supers p) ∙ u_is) rebuilds;
        even = λ joined shape is.
            even_same n shape (first_unsynced t) (sound.even joined shape (sym (shape_by_supers f.state (slices_of g) (slices_of f) n supers) ∙ is));
      }

  pub sound_same : IsSoundState f → IsSoundState g
  sound_same sound = record {
    arrays = λ n low.
        let one = sound.arrays n (subst (λ s. n < s.made) same.state low) in (
          one.0,
          truths_same f g same n ∙ one.1,
          subst (λ s. IsSoundArray s (slices_of g) n one.0) (sym same.state) (array_same n one.0 one.2),
        );
    joined = λ none.
        ap (λ s. s.joined) same.state ∙ sound.joined (sym (ap (λ s. is_none (planned s.plan)) same.state) ∙ none) ∙ sym (ap (λ s. s.made) same.state);
    copies = λ d copy inside is epoch.
        let there : d < f.disks.count = subst (λ (disks : Disks). d < disks.count) same.disks inside in
        sound.copies d copy there (sym (ap (λ id. id.copied) (same.all d there)) ∙ is) (epoch ∙ ap (λ s. s.epoch) same.state) ∙ sym same.state;
    epochs = λ place d copy seat is.
        let at = sym (same.seats place) ∙ seat in
        sound.epochs place d copy at (sym (ap (λ id. id.copied) (same.identities place d at)) ∙ is) ∙ sym (ap (λ s. s.epoch) same.state);
  }
