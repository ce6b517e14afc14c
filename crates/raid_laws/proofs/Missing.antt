-- States that mark places missing.
use Rattle.std.proofs.Common.{◌≡◌, ℕ, zero, suc, ◌+◌, ◌<◌, Bool, true, false, ◌&&◌, ◌||◌, not, if◌then◌else◌, cond, List, [], ◌∷◌, ◌++◌, get_or, length, slice_get, Option, Some, None, option_map, refl, sym, ap, ◌∙◌, arith}
use Rattle.std.proofs.lemmas.Option.{slice_get-get_or}
use Rattle.std.specs.Option.{option_map_or}
use Rattle.pool_state.specs.declared.contents.Drive.{Drive}
use Rattle.pool_state.specs.declared.contents.State.{State}
use Rattle.array_image.specs.States.{is_current, id_of}
use Rattle.array_image.specs.Marks.{Marks}
use Rattle.log_laws.specs.View.{names}
use Rattle.raid_laws.specs.Missing.{missing_if, marked_from, marked}

-- ---- lists of drives

pub marked_more : (places : List ℕ) (n : ℕ) (drives : List Drive) (last : Drive)
    → marked_from places n (drives ++ last ∷ []) ≡ marked_from places n drives ++ missing_if (names places (n + length drives)) last ∷ []
unfolding marked_from
marked_more places n [] last = ap (λ k. missing_if (names places k) last ∷ []) (omega arith)
marked_more places n (drive ∷ others) last =
    ap (λ ds. missing_if (names places n) drive ∷ ds)
    (marked_more places (n + 1) others last
    ∙ ap (λ k. marked_from places (n + 1) others ++ missing_if (names places k) last ∷ []) (omega arith))

pub length_marked : (places : List ℕ) (n : ℕ) (drives : List Drive) → length (marked_from places n drives) ≡ length drives
unfolding marked_from
length_marked places n [] = refl
length_marked places n (drive ∷ others) = ap suc (length_marked places (n + 1) others)

pub get_marked : (places : List ℕ) (n p : ℕ) (drives : List Drive)
    → slice_get (marked_from places n drives) p ≡ option_map (missing_if (names places (n + p))) (slice_get drives p)
unfolding marked_from
get_marked places n p [] = refl
get_marked places n zero (drive ∷ others) = ap (λ k. Some (missing_if (names places k) drive)) (omega arith)
get_marked places n (suc p) (drive ∷ others) =
    get_marked places (n + 1) p others ∙ ap (λ k. option_map (missing_if (names places k)) (slice_get others p)) (omega arith)

-- ---- which places are current

pub current_marked : (places : List ℕ) (s : State) (p : ℕ) → is_current (marked places s) p ≡ (is_current s p && not (names places p))
current_marked places s p =
    ap (λ o. option_map_or (λ drive. not drive.missing) o false) (get_marked places 0 p s.drives.items)
    ∙ ap (λ k. option_map_or (λ drive. not drive.missing) (option_map (missing_if (names places k)) (slice_get s.drives.items p)) false) (omega arith)
    ∙ by (slice_get s.drives.items p)
  where
    of : (missing lost : Bool) → not (missing || lost) ≡ (not missing && not lost)
    of true lost = refl
    of false lost = refl

    by : (o : Option Drive) → option_map_or (λ drive. not drive.missing) (option_map (missing_if (names places p)) o) false
        ≡ (option_map_or (λ drive. not drive.missing) o false && not (names places p))
    by None = refl
    by (Some drive) = of drive.missing (names places p)

-- marks change no id
pub id_marked : (places : List ℕ) (s : State) (p : ℕ) → id_of (marked places s) p ≡ id_of s p
id_marked places s p =
    ap (option_map (λ (d : Drive). d.id.0)) (get_marked places 0 p s.drives.items) ∙ same (slice_get s.drives.items p)
  where
    same : (o : Option Drive) → option_map (λ (d : Drive). d.id.0) (option_map (missing_if (names places (0 + p))) o) ≡ option_map (λ (d : Drive). d.id.0) o
    same None = refl
    same (Some d) = refl

-- nor units
pub units_marked : (places : List ℕ) (s : State) (p : ℕ)
    → option_map (λ (d : Drive). d.units) (slice_get (marked_from places 0 s.drives.items) p) ≡ option_map (λ (d : Drive). d.units) (slice_get s.drives.items p)
units_marked places s p =
    ap (option_map (λ (d : Drive). d.units)) (get_marked places 0 p s.drives.items) ∙ same (slice_get s.drives.items p)
  where
    same : (o : Option Drive) → option_map (λ (d : Drive). d.units) (option_map (missing_if (names places (0 + p))) o) ≡ option_map (λ (d : Drive). d.units) o
    same None = refl
    same (Some d) = refl

-- a drive appended where it isn't missing
pub current_here : (s : State) (n : ℕ) (d : Drive) → n < length s.drives.items
    → (if (get_or s.drives.items n d).missing then [] else n ∷ []) ≡ cond (is_current s n) (n ∷ []) []
current_here s n d below =
    by (get_or s.drives.items n d).missing
    ∙ ap (λ o. cond (option_map_or (λ drive. not drive.missing) o false) (n ∷ []) []) (sym (slice_get-get_or s.drives.items n d below))
  where
    by : (missing : Bool) → (if missing then [] else n ∷ []) ≡ cond (not missing) (n ∷ []) []
    by true = refl
    by false = refl

-- a mark changes nothing else that arrays go by
pub marks_marked : (places : List ℕ) (s : State) → Marks s (names places) (marked places s)
marks_marked places s =
    record {
      current = λ p. current_marked places s p;
      pool = refl;
      extent = refl;
      drives = length_marked places 0 s.drives.items;
    }
