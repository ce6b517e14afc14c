-- Which place a disk stands for goes by the drives' ids alone.
use Rattle.std.proofs.Common.{◌≡◌, ℕ, zero, suc, ◌+◌, ◌<◌, ◌==◌, not, nat_lt, bytes_eq, if◌then◌else◌, Bool, true, false, List, [], ◌∷◌, map, length, position, slice_get, get_or, Option, Some, None, option_map, refl, sym, ap, ap₂, subst, ◌∙◌, eq-eqb, eqb-true, arith}
use Rattle.std.specs.Option.{option_and_then, option_map_or}
use Rattle.std.specs.List.{position_or_len, range_with_len}
use Rattle.std.proofs.lemmas.List.Quantifiers.{position-Some}
use Rattle.std.proofs.lemmas.Option.{none-some}
use Rattle.std.proofs.lemmas.Slice.Eq.{bytes_eq-Decides}
use Rattle.gpt_table.specs.declared.Table.{Table}
use Rattle.pool_state.specs.declared.contents.Copied.{Copied}
use Rattle.pool_state.specs.declared.contents.Drive.{Drive}
use Rattle.pool_state.specs.declared.contents.State.{State}
use Rattle.array_image.specs.Foremost.{foremost}
use Rattle.array_image.specs.States.{epoch_of, is_current, id_of}
use Rattle.array_core.proofs.Leading.{Leads, foremost_leads}
use Rattle.array_core.proofs.Stripped.{some_same}
use Rattle.pool_image.specs.Disks.{Candidate, Disks, Identities, Identity, candidate, id_by, seat_of, stands_for}
use Rattle.raid_laws.specs.Book.{IsSameBook, drive_of}

abbrev has_id : List ℕ → Drive → Bool
has_id id drive = bytes_eq drive.id.0 id

-- ---- lists of drives with the same ids

pub same_length : (ds es : List Drive) → map drive_of ds ≡ map drive_of es → length ds ≡ length es
same_length [] [] same = refl
same_length [] (e ∷ es) same = absurd (let no : [] ≡ (drive_of e ∷ map drive_of es) = same in cc)
same_length (d ∷ ds) [] same = absurd (let no : (drive_of d ∷ map drive_of ds) ≡ [] = same in cc)
same_length (d ∷ ds) (e ∷ es) same = ap suc (same_length ds es (let both : (drive_of d ∷ map drive_of ds) ≡ (drive_of e ∷ map drive_of es) = same in cc))

head_id : (d e : Drive) (ds es : List Drive) → map drive_of (d ∷ ds) ≡ map drive_of (e ∷ es) → d.id.0 ≡ e.id.0
head_id d e ds es same = ap (λ (z : List ℕ × ℕ). z.0) (let both : (drive_of d ∷ map drive_of ds) ≡ (drive_of e ∷ map drive_of es) = same in let head : drive_of d ≡ drive_of e = cc in head)

tail_ids : (d e : Drive) (ds es : List Drive) → map drive_of (d ∷ ds) ≡ map drive_of (e ∷ es) → map drive_of ds ≡ map drive_of es
tail_ids d e ds es same = let both : (drive_of d ∷ map drive_of ds) ≡ (drive_of e ∷ map drive_of es) = same in cc

same_first : (id : List ℕ) (ds es : List Drive) → map drive_of ds ≡ map drive_of es → position_or_len (has_id id) ds ≡ position_or_len (has_id id) es
same_first id [] [] same = refl
same_first id [] (e ∷ es) same = absurd (let no : [] ≡ (drive_of e ∷ map drive_of es) = same in cc)
same_first id (d ∷ ds) [] same = absurd (let no : (drive_of d ∷ map drive_of ds) ≡ [] = same in cc)
same_first id (d ∷ ds) (e ∷ es) same =
    ap₂ (λ (b : Bool) (k : ℕ). if not b then 1 + k else 0) (ap (λ v. bytes_eq v id) (head_id d e ds es same)) (same_first id ds es (tail_ids d e ds es same))

pub same_position : (id : List ℕ) (ds es : List Drive) → map drive_of ds ≡ map drive_of es → position (has_id id) ds ≡ position (has_id id) es
same_position id ds es same =
    ap₂ (λ (k n : ℕ). if nat_lt k n then Some k else None) (same_first id ds es same) (same_length ds es same)

same_at : (ds es : List Drive) (k : ℕ) → map drive_of ds ≡ map drive_of es
    → option_map (λ (d : Drive). d.id.0) (slice_get ds k) ≡ option_map (λ (d : Drive). d.id.0) (slice_get es k)
same_at [] [] k same = refl
same_at [] (e ∷ es) k same = absurd (let no : [] ≡ (drive_of e ∷ map drive_of es) = same in cc)
same_at (d ∷ ds) [] k same = absurd (let no : (drive_of d ∷ map drive_of ds) ≡ [] = same in cc)
same_at (d ∷ ds) (e ∷ es) zero same = ap Some (head_id d e ds es same)
same_at (d ∷ ds) (e ∷ es) (suc k) same = same_at ds es k (tail_ids d e ds es same)

-- states with the same drives name the same ids
module _ (p q : State) (same : IsSameBook p q) where
  pub id_same : (k : ℕ) → id_of q k ≡ id_of p k
  id_same k = same_at q.drives.items p.drives.items k same.drives

  pub stands_same : (i : Identity) → stands_for q i ≡ stands_for p i
  stands_same i = of (id_by i.table i.copied)
    where
      of : (o : Option (List ℕ)) → option_and_then (λ id. position (has_id id) q.drives.items) o ≡ option_and_then (λ id. position (has_id id) p.drives.items) o
      of None = refl
      of (Some id) = same_position id q.drives.items p.drives.items same.drives

-- ---- the id of a disk that stands for a place

there_or : (ds : List Drive) (k : ℕ) (d : Drive) → k < length ds → slice_get ds k ≡ Some (get_or ds k d)
there_or [] k d low = absurd (omega (arith, low))
there_or (e ∷ ds) zero d low = refl
there_or (e ∷ ds) (suc k) d low = there_or ds k d (omega (arith, low))

any_drive : Drive
any_drive = record { id = record { 0 = [] }; units = 0; missing = false }

-- the id that a disk is known by is that of the place
pub record IsNamed (s : State) (i : Identity) (p : ℕ) : Type 0 where
  pub id : List ℕ
  pub says : id_by i.table i.copied ≡ Some id
  pub place : id_of s p ≡ Some id
  pub first : position (has_id id) s.drives.items ≡ Some p

pub stands_named : (s : State) (i : Identity) (p : ℕ) → stands_for s i ≡ Some p → IsNamed s i p
stands_named s i p is = of (id_by i.table i.copied) refl is
  where
    of : (o : Option (List ℕ)) → id_by i.table i.copied ≡ o → option_and_then (λ id. position (has_id id) s.drives.items) o ≡ Some p → IsNamed s i p
    of None says at = absurd (none-some p at)
    of (Some id) says at =
        let first = position-Some (has_id id) s.drives.items p any_drive at in
        record {
          id = id;
          says = says;
          place =
              ap (option_map (λ (d : Drive). d.id.0)) (there_or s.drives.items p any_drive first.0)
              ∙ ap Some ((bytes_eq-Decides (get_or s.drives.items p any_drive).id.0 id).0 first.1);
          first = at;
        }

-- a disk whose copy names that id stands for the place too
pub named_stands : (s : State) (table : Option Table) (own p : ℕ) (id : List ℕ) → position (has_id id) s.drives.items ≡ Some p → id_of s own ≡ Some id
    → stands_for s (record { copied = Some (record { state = s; own = own }); table = table }) ≡ Some p
named_stands s table own p id first is = ap (option_and_then (λ id. position (has_id id) s.drives.items)) is ∙ first

-- ---- the disk that a place has

-- of which candidate a disk is
pub record IsCandidate (s : State) (ids : Identities) (p q : ℕ) (y : Candidate) : Type 0 where
  pub stands : stands_for s (ids q) ≡ Some p
  pub disk : y.disk ≡ q
  pub epoch : y.epoch ≡ option_map_or epoch_of (ids q).copied 0

pub is_candidate : (s : State) (ids : Identities) (p q : ℕ) (y : Candidate) → candidate s ids p q ≡ Some y → IsCandidate s ids p q y
is_candidate s ids p q y is = of (stands_for s (ids q)) refl is
  where
    by : (k : ℕ) (b : Bool) → (k == p) ≡ b → stands_for s (ids q) ≡ Some k
        → (if b then Some (record { disk = q; epoch = option_map_or epoch_of (ids q).copied 0 }) else None) ≡ Some y → IsCandidate s ids p q y
    by k true same stands at = record {
      stands = stands ∙ ap Some (eqb-true k p same);
      disk = sym (ap (λ (o : Option Candidate). option_map_or (λ c. c.disk) o q) at);
      epoch = sym (ap (λ (o : Option Candidate). option_map_or (λ c. c.epoch) o (option_map_or epoch_of (ids q).copied 0)) at);
    }
    by k false same stands at = absurd (none-some y at)

    of : (o : Option ℕ) → stands_for s (ids q) ≡ o
        → (if option_map_or (λ k. k == p) o false then Some (record { disk = q; epoch = option_map_or epoch_of (ids q).copied 0 }) else None) ≡ Some y → IsCandidate s ids p q y
    of None stands at = absurd (none-some y at)
    of (Some k) stands at = by k (k == p) refl stands at

pub candidate_is : (s : State) (ids : Identities) (p q : ℕ) → stands_for s (ids q) ≡ Some p
    → candidate s ids p q ≡ Some (record { disk = q; epoch = option_map_or epoch_of (ids q).copied 0 })
candidate_is s ids p q stands =
    ap (λ o. if option_map_or (λ k. k == p) o false then Some (record { disk = q; epoch = option_map_or epoch_of (ids q).copied 0 }) else None) stands
    ∙ ap (λ b. if b then Some (record { disk = q; epoch = option_map_or epoch_of (ids q).copied 0 }) else None) (eq-eqb p p refl)

-- the disk of a seat stands for its place, and is ahead of all others that do
pub record IsAhead (s : State) (disks : Disks) (ids : Identities) (p d : ℕ) : Type 0 where
  pub current : is_current s p ≡ true
  pub low : d < disks.count
  pub stands : stands_for s (ids d) ≡ Some p
  pub before : (q : ℕ) (y : Candidate) → q < d → candidate s ids p q ≡ Some y → y.epoch < option_map_or epoch_of (ids d).copied 0

pub seat_ahead : (s : State) (disks : Disks) (ids : Identities) (p d : ℕ) → seat_of s disks ids p ≡ Some d → IsAhead s disks ids p d
unfolding seat_of
seat_ahead s disks ids p d is = of (is_current s p) refl is
  where
    from : (y : Candidate) → is_current s p ≡ true → y.disk ≡ d
        → Leads (λ (k : Candidate). k.epoch) (candidate s ids p) 0 disks.count y → IsAhead s disks ids p d
    from y current disk leads =
        let one = is_candidate s ids p leads.at y leads.here in
        let here : leads.at ≡ d = sym one.disk ∙ disk in
        let most = leads.most in
        record {
          current = current;
          low = omega (arith, most, here);
          stands = subst (λ k. stands_for s (ids k) ≡ Some p) here one.stands;
          before = λ q z early at.
              let less = leads.before q z (omega arith) (omega (arith, early, here)) at in
              let epoch : y.epoch ≡ option_map_or epoch_of (ids d).copied 0 = one.epoch ∙ ap (λ k. option_map_or epoch_of (ids k).copied 0) here in
              omega (arith, less, epoch);
        }

    by : (o : Option Candidate) → is_current s p ≡ true
        → foremost (λ (k : Candidate). k.epoch) (map (candidate s ids p) (range_with_len 0 disks.count)) ≡ o
        → option_map (λ (k : Candidate). k.disk) o ≡ Some d → IsAhead s disks ids p d
    by None current leads at = absurd (none-some d at)
    by (Some y) current leads at = from y current (some_same y.disk d at) (foremost_leads (λ (k : Candidate). k.epoch) (candidate s ids p) 0 disks.count y leads)

    of : (b : Bool) → is_current s p ≡ b
        → (if b then option_map (λ (k : Candidate). k.disk) (foremost (λ (k : Candidate). k.epoch) (map (candidate s ids p) (range_with_len 0 disks.count))) else None) ≡ Some d
        → IsAhead s disks ids p d
    of false current at = absurd (none-some d at)
    of true current at = by (foremost (λ (k : Candidate). k.epoch) (map (candidate s ids p) (range_with_len 0 disks.count))) current refl at

-- the copy of a disk that stands for a place names the place's id
pub copy_names : (s : State) (i : Identity) (p : ℕ) (copy : Copied) → stands_for s i ≡ Some p → i.copied ≡ Some copy → id_of copy.state copy.own ≡ id_of s p
copy_names s i p copy stands is =
    let named = stands_named s i p stands in
    sym (ap (id_by i.table) is) ∙ named.says ∙ sym named.place
