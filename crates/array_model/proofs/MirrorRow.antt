-- A mirror's row: all copies are written.
use Rattle.std.proofs.Common.{◌≡◌, ℕ, ◌+◌, Bool, true, false, ◌==◌, List, [], ◌∷◌, map, take, length, Option, Some, unwrap_or, refl, sym, ap, subst, ◌∙◌, inl, inr, eqb-true, eq-eqb, arith}
use Rattle.std.proofs.lemmas.Bool.{both_ways}
use Rattle.rack.specs.Seen.{Image}
use Rattle.array_image.specs.Places.{member_slice, data_sector}
use Rattle.rack.specs.Targets.{look}
use Rattle.array_image.specs.Stripes.{Layout, mirror, width, sector_in, there, AreAll, AgreeIn}
use Rattle.array_image.specs.Arrays.{Member, Shape, layout_at, stripe_in}
use Rattle.array_image.specs.Held.{Among}
use Rattle.array_image.specs.Even.{AreEven}
use Rattle.array_image.proofs.Settled.{among_take}
use Rattle.array_image.proofs.Sources.{source_counts}
use Rattle.array_image.proofs.Losing.{data_of}
use Rattle.array_image.proofs.Lost.{there_all}
use Rattle.array_image.proofs.Noted.{columns_all}
use Rattle.array_model.specs.Rows.{written, copies, IsRow, sector_at, IsPlain}
use Rattle.array_model.proofs.Looking.{no_target}
use Rattle.array_model.proofs.DataFrames.{columns_same}
use Rattle.array_model.proofs.Parts.{payload_among, among_payload, look_one, plain_sector}

copy_look : (shape : Shape) (n x : ℕ) (from : List ℕ) (m : Member) → Among m shape.members → look (copies shape n x from) (member_slice m.place n) (data_sector + x) ≡ Some from
copy_look shape n x from m among =
    look_one (copies shape n x from) (member_slice m.place n) (data_sector + x) from
    (among_payload n x from shape.members m among)
    (λ u is. (payload_among n x from shape.members (member_slice m.place n) (data_sector + x) u is).4)

pub mirror_row : (shape : Shape) (k n x : ℕ) (from : List ℕ) → IsPlain shape (mirror k) → length from ≡ 512 → IsRow shape n x from (copies shape n x from)
mirror_row shape k n x from plain sized =
    record {
      own = λ d t u is. let at = payload_among n x from shape.members d t u is in (at.0, x, at.2, at.3, at.1);
      sized = λ d t u is. let at = payload_among n x from shape.members d t u is in ap length at.4 ∙ sized;
      alone = λ y m u source is.
          let at = payload_among n x from shape.members (member_slice m.place n) (data_sector + sector_at shape y) u is in
          let y_is : sector_at shape y ≡ y = plain_sector shape (mirror k) y plain in
          (omega (arith, at.3, y_is), at.4);
      change = λ m source.
          subst (λ t. look (copies shape n x from) (member_slice m.place n) (data_sector + t) ≡ Some from) (sym (plain_sector shape (mirror k) x plain))
          (copy_look shape n x from m (source_counts shape x m source).among);
    }

all_one : (v : List ℕ) (array sector : ℕ) (c : Image) (members : List Member) → ((m : Member) → Among m members → data_of c array sector m ≡ v)
    → AreAll v (map (data_of c array sector) members)
all_one v array sector c [] same = tt
all_one v array sector c (m ∷ others) same = (same m (inl refl), all_one v array sector c others (λ o among. same o (inr among)))

pub agree_one : (v : List ℕ) (array sector k : ℕ) (c : Image) (members : List Member) → ((m : Member) → Among m members → data_of c array sector m ≡ v)
    → AgreeIn (mirror k) (map (data_of c array sector) members)
agree_one v array sector k c [] same = tt
agree_one v array sector k c (m ∷ others) same =
    subst (λ u. AreAll u (map (data_of c array sector) (m ∷ others))) (sym (same m (inl refl))) (all_one v array sector c (m ∷ others) same)

pub mirror_even : (shape : Shape) (k n x resync : ℕ) (from : List ℕ) (c : Image) → IsPlain shape (mirror k)
    → AreEven shape n resync c → AreEven shape n resync (written (copies shape n x from) c)
mirror_even shape k n x resync from c plain even y inside synced count =
    let xs = copies shape n x from in
    let f : Image = written xs c in
    let layout = layout_at shape y in
    let sector = sector_in layout y in
    let y_is : sector ≡ y = plain_sector shape (mirror k) y plain in
    let Goal : Bool → Type 0 = λ b. (y == x) ≡ b → AgreeIn layout (there (stripe_in f n shape layout sector)) in
    let goal : Goal (y == x) =
    elim (y == x) as Goal [
      | true ↦ λ same.
          let x_is : sector ≡ x = y_is ∙ eqb-true y x same in
          subst (λ (l : Layout). AgreeIn l (there (stripe_in f n shape layout sector))) (sym (plain.layout_is y))
          (subst (λ stripe. AgreeIn (mirror k) (there stripe)) (sym (columns_all f n sector (take (width layout) shape.members) (λ m among. count m among)))
          (subst (λ vs. AgreeIn (mirror k) vs) (sym (there_all (map (data_of f n sector) (take (width layout) shape.members))))
          (agree_one from n sector k f (take (width layout) shape.members)
          (λ m among.
          let of : Among m shape.members = among_take (width layout) shape.members m among in
          subst (λ t. f (member_slice m.place n) (data_sector + t) ≡ from) (sym x_is)
          (ap (λ (o : Option (List ℕ)). unwrap_or o (c (member_slice m.place n) (data_sector + x))) (copy_look shape n x from m of))))))
      | false ↦ λ other.
          subst (λ stripe. AgreeIn layout (there stripe))
          (sym (columns_same f c n sector (take (width layout) shape.members)
          (λ m among counts.
          ap (λ (o : Option (List ℕ)). unwrap_or o (c (member_slice m.place n) (data_sector + sector)))
          (no_target xs (member_slice m.place n) (data_sector + sector)
          (λ u is.
          let at = payload_among n x from shape.members (member_slice m.place n) (data_sector + sector) u is in
          both_ways (y == x) other (eq-eqb y x (omega (arith, at.3, y_is))))))))
          (even y inside synced count)
    ] in
    goal refl
