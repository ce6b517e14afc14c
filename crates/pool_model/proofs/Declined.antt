-- Disks were attached to a pool, or one that is no drive of it was written: what its disks say outside the slices.
use Rattle.std.proofs.Common.{◌≡◌, ◌≢◌, ◌⊎◌, ℕ, ◌<◌, ◌≤◌, ◌+◌, ◌==◌, ◌&&◌, nat_lt, if◌then◌else◌, Bool, true, false, List, [], Option, Some, None, refl, sym, ap, ap₂, subst, ◌∙◌, inl, inr, eq-eqb, eqb-true, lt-ltb, le-ltb, arith}
use Rattle.std.specs.Option.{option_map_or}
use Rattle.std.specs.Result.{result_ok}
use Rattle.std.proofs.lemmas.Bool.{cases_eq, cases_lt, ne_eqb}
use Rattle.rack.specs.Seen.{Image, RackView}
use Rattle.rack.specs.Values.{MayLeave}
use Rattle.slice_rack.specs.Slices.{Slices}
use Rattle.gpt_table.specs.declared.Table.{Table}
use Rattle.gpt_table.specs.Changes.{the_table}
use Rattle.pool_state.specs.declared.contents.Copied.{Copied}
use Rattle.pool_state.specs.declared.contents.State.{State}
use Rattle.pool_state.specs.Sector.{decoded}
use Rattle.log_laws.specs.Kept.{IsNoLater}
use Rattle.array_image.specs.Places.{member_slice, state_sector, super_sector, place_of}
use Rattle.array_image.specs.States.{epoch_of}
use Rattle.array_image.proofs.Frames.{super_of_sector, truth_by_supers}
use Rattle.pool_image.specs.Disks.{Disks, Identities, Identity, disks_of, identities_of, stands_for}
use Rattle.pool_image.specs.Drives.{Found, drive_sector, first_of, slices_from}
use Rattle.pool_image.specs.Meaning.{is_member}
use Rattle.pool_model.specs.InService.{HasSeat, HoldSaid, IsArranged, IsSaid, epoch_at}
use Rattle.pool_model.specs.Left.{NoStraySuperblockBy, HasNoSuper, IsPickOutsideSlices}
use Rattle.pool_model.specs.Taken.{KeepsOthers, attached}
use Rattle.pool_model.proofs.Alike.{HasTruths, first_same, member_same, outset_said, truth_same}
use Rattle.pool_model.proofs.Before.{off_before, was as image_before, was_other as image_other}
use Rattle.pool_model.proofs.Named.{named_stands, stands_named}

module _ (f : Found) (disks : Disks) (arranged : IsArranged f) (more : f.disks.count ≤ disks.count)
    (sectors : (d : ℕ) → d < f.disks.count → disks.sectors d ≡ f.disks.sectors d) where
  abbrev pub g : Found
  g = attached f disks

  -- a sector of a place's drive is what it was
  pub sector_same : (p s : ℕ) → drive_sector g p s ≡ drive_sector f p s
  sector_same p s = by (f.seats p) refl
    where
      by : (o : Option ℕ) → f.seats p ≡ o
          → option_map_or (λ d. if nat_lt s (disks.sectors d) then f.contents d s else []) (f.seats p) [] ≡ option_map_or (λ d. if nat_lt s (f.disks.sectors d) then f.contents d s else []) (f.seats p) []
      by None none = ap (λ o. option_map_or (λ d. if nat_lt s (disks.sectors d) then f.contents d s else []) o []) none
          ∙ sym (ap (λ o. option_map_or (λ d. if nat_lt s (f.disks.sectors d) then f.contents d s else []) o []) none)
      by (Some d) some =
          ap (λ o. option_map_or (λ d. if nat_lt s (disks.sectors d) then f.contents d s else []) o []) some
          ∙ ap (λ k. if nat_lt s k then f.contents d s else []) (sectors d (arranged.seated p d some).1)
          ∙ sym (ap (λ o. option_map_or (λ d. if nat_lt s (f.disks.sectors d) then f.contents d s else []) o []) some)

  pub truths_attached : HasTruths f g
  truths_attached n first u low begins is =
      truth_by_supers f.state (slices_from g first) (slices_from f first) n
      (λ p. super_of_sector f.state (slices_from g first) (slices_from f first) n p (sector_same (place_of (member_slice p n)) (first + super_sector)))
      ∙ is

  pub arranged_attached : IsArranged g
  arranged_attached = record {
    epoch = arranged.epoch;
    places = arranged.places;
    made = arranged.made;
    joined = arranged.joined;
    seated = λ p d seat. let one = arranged.seated p d seat in (one.0, (let low = one.1 in let e : d < disks.count = omega (arith, low, more) in e));
    truths = λ n low. let one = arranged.truths n low in (one.0, truth_same f g arranged.made.1 arranged.truths truths_attached n low ∙ one.1);
    own = λ n u low truth. arranged.own n u low (sym (truth_same f g arranged.made.1 arranged.truths truths_attached n low) ∙ truth);
  }

module _ (f : Found) (t : Slices) (s : State) (disk : ℕ) (x z : RackView) (arranged : IsArranged f) (keeps : KeepsOthers f t s disk x z) (held : HoldSaid f t s x) where
  abbrev h : Found
  h = attached f (disks_of z)

  module _ (i : Image) (off : IsPickOutsideSlices t z i) where
    -- contents before
    abbrev was : Image
    was = image_before t t disk x z keeps.outside (λ d s w other is. is) i off

    was_other : (d : ℕ) → d ≢ disk → was d ≡ i d
    was_other d other = image_other t t disk x z keeps.outside (λ d s w other is. is) i off d other

    pub off_was : IsPickOutsideSlices t x was
    off_was = off_before t t disk x z keeps.outside (λ d s w other is. is) i off

    abbrev said : IsSaid f was
    said = held.said was off_was

    abbrev e : Identities
    e = said.identities

    abbrev now_says : Identities
    now_says = identities_of (disks_of z) i

    abbrev own_identity : ℕ → Identity
    own_identity p = record { copied = Some (record { state = f.state; own = p }); table = the_table (z.sectors disk) (i disk) }

    abbrev own_says : ((p : ℕ) → f.seats p ≢ Some disk) ⊎ ((p : ℕ) × (f.seats p ≡ Some disk)) → Identity
    own_says o = elim o [ inl none ↦ now_says disk | inr one ↦ own_identity one.0 ]

    -- the disks that there were say what they said, but for that one
    abbrev says : Identities
    says = λ d. if d == disk then own_says keeps.drive else if nat_lt d f.disks.count then e d else now_says d

    says_disk : says disk ≡ own_says keeps.drive
    says_disk = ap (λ (b : Bool). if b then own_says keeps.drive else if nat_lt disk f.disks.count then e disk else now_says disk) (eq-eqb disk disk refl)

    says_old : (d : ℕ) → d ≢ disk → d < f.disks.count → says d ≡ e d
    says_old d other low =
        ap₂ (λ (a b : Bool). if a then own_says keeps.drive else if b then e d else now_says d) (ne_eqb d disk other) (lt-ltb d f.disks.count low)

    says_new : (d : ℕ) → d ≢ disk → f.disks.count ≤ d → says d ≡ now_says d
    says_new d other past =
        ap₂ (λ (a b : Bool). if a then own_says keeps.drive else if b then e d else now_says d) (ne_eqb d disk other) (le-ltb d f.disks.count past)

    was_said : (d : ℕ) → d ≢ disk → d < f.disks.count → identities_of f.disks was d ≡ now_says d
    was_said d other low =
        ap (λ c. identities_of f.disks (λ k. c) d) (was_other d other)
        ∙ ap (λ n. identities_of (record { count = f.disks.count; sectors = λ k. n }) i d) (sym (keeps.sectors d low))

    -- how a disk is told
    data Kind (d : ℕ) : Type 0 where
      written : d ≡ disk → ((p : ℕ) → f.seats p ≢ Some disk) → says d ≡ now_says d → Kind d
      driven : (p : ℕ) → d ≡ disk → f.seats p ≡ Some disk → says d ≡ own_identity p → Kind d
      came : f.disks.count ≤ d → says d ≡ now_says d → Kind d
      stayed : d ≢ disk → d < f.disks.count → says d ≡ e d → Kind d

    kind : (d : ℕ) → Kind d
    kind d = elim (cases_eq d disk) [
      | inl same ↦ by same keeps.drive refl
      | inr other ↦ elim (cases_lt d f.disks.count) [
        | inl low ↦ stayed other low (says_old d other low)
        | inr past ↦ came past (says_new d other past)
      ]
    ]
      where
        by : d ≡ disk → (o : ((p : ℕ) → f.seats p ≢ Some disk) ⊎ ((p : ℕ) × (f.seats p ≡ Some disk))) → keeps.drive ≡ o → Kind d
        by same (inl none) is = written same none (ap says same ∙ says_disk ∙ ap own_says is ∙ ap now_says (sym same))
        by same (inr one) is = driven one.0 same one.1 (ap says same ∙ says_disk ∙ ap own_says is)

    -- what came says an earlier state
    low_copy : (d : ℕ) → d < z.disks → f.disks.count ≤ d → says d ≡ now_says d → (copy : Copied) → (says d).copied ≡ Some copy
        → copy.state.epoch < f.state.epoch
    low_copy d low past is copy here = keeps.earlier i off d low past copy (sym (ap (λ (k : Identity). k.copied) is) ∙ here)

    low_epoch : (d : ℕ) → says d ≡ now_says d → ((copy : Copied) → (now_says d).copied ≡ Some copy → copy.state.epoch < f.state.epoch)
        → epoch_at (says d) < f.state.epoch
    low_epoch d is each = of (says d).copied refl
      where
        of : (o : Option Copied) → (says d).copied ≡ o → option_map_or epoch_of o 0 < f.state.epoch
        of None none = let first = arranged.epoch in omega (arith, first)
        of (Some copy) some = each copy (sym (ap (λ (k : Identity). k.copied) is) ∙ some)

    -- what was written and is no drive says what it may have said
    module _ (none : (p : ℕ) → f.seats p ≢ Some disk) (old : disk < f.disks.count) (copy : Copied) (here : (now_says disk).copied ≡ Some copy) where
      abbrev read : Bool → (d s : ℕ) → List ℕ
      read b d s = if b then i disk state_sector else was d s

      abbrev former : Image
      former = λ d s. read ((d == disk) && (s == state_sector)) d s

      former_is : former disk state_sector ≡ i disk state_sector
      former_is = ap₂ (λ a b. read (a && b) disk state_sector) (eq-eqb disk disk refl) (eq-eqb state_sector state_sector refl)

      off_by : (d s : ℕ) (a b : Bool) → (d == disk) ≡ a → (s == state_sector) ≡ b → MayLeave (x.held d s) (was d s) → MayLeave (x.held d s) (read (a && b) d s)
      off_by d s true true one two left =
          subst (λ k. MayLeave (x.held k s) (i disk state_sector)) (sym (eqb-true d disk one))
          (subst (λ k. MayLeave (x.held disk k) (i disk state_sector)) (sym (eqb-true s state_sector two)) (keeps.stranger i off none old copy here))
      off_by d s true false one two left = left
      off_by d s false b one two left = left

      off_former : IsPickOutsideSlices t x former
      off_former d s live never = off_by d s (d == disk) (s == state_sector) refl refl (off_was d s live never)

      said_former : IsSaid f former
      said_former = held.said former off_former

      copied_former : (said_former.identities disk).copied ≡ Some copy
      copied_former =
          sym (ap (λ (k : Identity). k.copied) (said_former.elsewhere.others disk (λ p. none p) old))
          ∙ ap₂ (λ n block. if nat_lt state_sector n then result_ok (decoded block) else None) (sym (keeps.sectors disk old)) former_is
          ∙ here

      no_later : IsNoLater f.state copy
      no_later = said_former.outset.copies disk copy old copied_former

      stands_former : stands_for f.state (said_former.identities disk) ≡ stands_for f.state (now_says disk)
      stands_former =
          let by = λ (t : Option Table) (o : Option Copied). stands_for f.state (record { copied = o; table = t }) in
          ap (by (said_former.identities disk).table) copied_former ∙ sym (ap (by (now_says disk).table) here)

      before_former : (p d : ℕ) → f.seats p ≡ Some d → disk < d → stands_for f.state (now_says disk) ≡ Some p → copy.state.epoch < f.state.epoch
      before_former p d seat less stands =
          subst (λ o. option_map_or epoch_of o 0 < f.state.epoch) copied_former
          ((said_former.outset.seated p d seat).before disk less (λ r. none r) (stands_former ∙ stands))

    abbrev pub now : Found
    now = record h { identities = says }

    some_same : {X : Type 0} (a b : X) → Some a ≡ Some b → a ≡ b
    some_same a b same = cc

    -- a disk of a seat stands for its place
    stands_still : (p d : ℕ) → f.seats p ≡ Some d → Kind d → stands_for f.state (says d) ≡ Some p
    stands_still p d seat (written same none is) = absurd (none p (seat ∙ ap Some same))
    stands_still p d seat (came past is) = (let low = (arranged.seated p d seat).1 in absurd (omega (arith, past, low)))
    stands_still p d seat (stayed other low is) = ap (stands_for f.state) is ∙ (said.outset.seated p d seat).stands
    stands_still p d seat (driven q same drive is) =
        let here : stands_for f.state (e disk) ≡ Some p = ap (λ k. stands_for f.state (e k)) (sym same) ∙ (said.outset.seated p d seat).stands in
        let place : q ≡ p = some_same q p (sym (said.outset.seated q disk drive).stands ∙ here) in
        let named = stands_named f.state (e disk) q (said.outset.seated q disk drive).stands in
        ap (stands_for f.state) is ∙ named_stands f.state (own_identity q).table q q named.id named.first named.place ∙ ap Some place

    before_still : (p q d : ℕ) → f.seats p ≡ Some d → q < d → q < z.disks → ((r : ℕ) → f.seats r ≡ Some q → ⊥) → stands_for f.state (says q) ≡ Some p
        → (q < f.disks.count → stands_for f.state (e q) ≡ Some p → epoch_at (e q) < f.state.epoch) → Kind q → epoch_at (says q) < f.state.epoch
    before_still p q d seat less low never stands old (written same none is) =
        low_epoch q is
        (λ copy here.
        let there = (arranged.seated p d seat).1 in
        before_former none (omega (arith, same, less, there)) copy (ap (λ k. (now_says k).copied) (sym same) ∙ here) p d seat (omega (arith, same, less))
        (ap (λ k. stands_for f.state (now_says k)) (sym same) ∙ ap (stands_for f.state) (sym is) ∙ stands))
    before_still p q d seat less low never stands old (came past is) = low_epoch q is (λ copy here. keeps.earlier i off q low past copy here)
    before_still p q d seat less low never stands old (driven r same drive is) = absurd (never r (drive ∙ ap Some (sym same)))
    before_still p q d seat less low never stands old (stayed other there is) =
        subst (λ k. epoch_at k < f.state.epoch) (sym is) (old there (ap (stands_for f.state) (sym is) ∙ stands))

    seated_now : (p d : ℕ) → f.seats p ≡ Some d → HasSeat now p d
    seated_now p d seat =
        let one = said.outset.seated p d seat in
        let there = one.low in
        let more = keeps.disks in
        record {
          current = one.current;
          low = omega (arith, there, more);
          stands = stands_still p d seat (kind d);
          before = λ q less never stands.
              before_still p q d seat less (omega (arith, less, there, more)) never stands (λ low was. one.before q less never was) (kind q);
        }

    copies_now : (d : ℕ) (copy : Copied) → d < z.disks → (says d).copied ≡ Some copy → Kind d → IsNoLater f.state copy
    copies_now d copy low here (written same none is) =
        (let says_it : (now_says d).copied ≡ Some copy = sym (ap (λ (k : Identity). k.copied) is) ∙ here in
        elim (cases_lt d f.disks.count) [
          | inl old ↦ no_later none (subst (λ k. k < f.disks.count) same old) copy (ap (λ k. (now_says k).copied) (sym same) ∙ says_it)
          | inr past ↦ inl (low_copy d low past is copy here)
        ])
    copies_now d copy low here (came past is) = inl (low_copy d low past is copy here)
    copies_now d copy low here (stayed other there is) = said.outset.copies d copy there (sym (ap (λ (k : Identity). k.copied) is) ∙ here)
    copies_now d copy low here (driven p same drive is) =
        inr (sym (ap (λ (k : Copied). k.state) (some_same (record { state = f.state; own = p }) copy (sym (ap (λ (k : Identity). k.copied) is) ∙ here))))

    table_now : (p d : ℕ) → f.seats p ≡ Some d → Kind d → the_table (z.sectors d) (i d) ≡ (says d).table
    table_now p d seat (written same none is) = absurd (none p (seat ∙ ap Some same))
    table_now p d seat (came past is) = sym (ap (λ (k : Identity). k.table) is)
    table_now p d seat (driven q same drive is) = ap (λ k. the_table (z.sectors k) (i k)) same ∙ sym (ap (λ (k : Identity). k.table) is)
    table_now p d seat (stayed other low is) =
        ap₂ (λ n c. the_table n c) (keeps.sectors d low) (sym (was_other d other)) ∙ said.elsewhere.tables p d seat ∙ sym (ap (λ (k : Identity). k.table) is)

    other_now : (d : ℕ) → ((p : ℕ) → f.seats p ≡ Some d → ⊥) → Kind d → now_says d ≡ says d
    other_now d never (written same none is) = sym is
    other_now d never (came past is) = sym is
    other_now d never (driven p same drive is) = absurd (never p (drive ∙ ap Some (sym same)))
    other_now d never (stayed other low is) = sym (was_said d other low) ∙ said.elsewhere.others d never low ∙ sym is

    pub said_now : IsSaid h i
    said_now = record {
      identities = says;
      outset =
          (let all = arranged_attached f (disks_of z) arranged keeps.disks keeps.sectors in
          outset_said h says all.made.1 all.truths all (λ d copy low here. copies_now d copy low here (kind d)) seated_now);
      elsewhere = record {
        tables = λ p d seat. table_now p d seat (kind d);
        others = λ d never low. other_now d never (kind d);
      };
    }

    pub alone_now : NoStraySuperblockBy s h i
    alone_now n p d first low counts seat none begins within =
        let truths = truths_attached f (disks_of z) arranged keeps.disks keeps.sectors in
        let member : is_member f n p ≡ false = sym (member_same f h arranged.made.1 arranged.truths truths n low p) ∙ none in
        let first_was : first_of f n ≡ Some first = sym (first_same f h arranged.made.1 arranged.truths truths n (omega (arith, low))) ∙ begins in
        elim (cases_eq d disk) [
          | inl same ↦
              subst (λ k. HasNoSuper f.state.pool.0 n (i k (first + super_sector))) (sym same)
              (keeps.alone i off n p first low counts (seat ∙ ap Some same) member first_was (subst (λ k. first + super_sector < z.sectors k) same within))
          | inr other ↦
              subst (λ (c : ℕ → List ℕ). HasNoSuper f.state.pool.0 n (c (first + super_sector))) (was_other d other)
              (held.alone was off_was n p d first low counts seat member first_was
              (subst (λ k. first + super_sector < k) (keeps.sectors d (arranged.seated p d seat).1) within))
        ]

  pub held_attached : HoldSaid h t s z
  held_attached = record { said = λ i off. said_now i off; alone = λ i off. alone_now i off }
