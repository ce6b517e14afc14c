-- Disks that were only read mean what they meant, whatever is pending there.
use Rattle.std.proofs.Common.{◌≡◌, ℕ, ◌<◌, ◌&&◌, not, Bool, true, false, nat_lt, if◌then◌else◌, List, [], Option, Some, None, option_map, refl, sym, ap, ap₂, subst, ◌∙◌, ltb-true}
use Rattle.std.specs.Option.{option_map_or, option_and_then}
use Rattle.std.proofs.lemmas.Option.{none-some}
use Rattle.rack.specs.Seen.{Image, RackView}
use Rattle.rack.specs.Sequences.{OnlyReads}
use Rattle.rack.specs.Targets.{Target}
use Rattle.pool_state.specs.declared.contents.State.{State}
use Rattle.array_image.specs.Record.{is_bad_gate, is_bad_log, pending}
use Rattle.array_image.specs.States.{current_places}
use Rattle.pool_image.specs.Disks.{Disks, disks_of, identities_of, newest, seat_of}
use Rattle.pool_image.specs.Replay.{Standing, standing, standing_by, written}
use Rattle.pool_image.specs.Drives.{Found, found_by, found, slices_of}
use Rattle.pool_image.specs.Meaning.{Refusal, Volume, meaning, no_pool, refusal_of, refused_at, refused_by, two_pools, volumes_of}
use Rattle.pool_image.specs.Alike.{Agree, IsSamePool, MeansTheSame, drive_gate, is_bad_block}
use Rattle.pool_image.proofs.Founds.{refused_same, volumes_same}
use Rattle.pool_image.proofs.Identities.{agree_identities, newest_same, other_same, seat_inside, seat_same}
use Rattle.pool_image.proofs.Rested.{gate_block, stood_by}
use Rattle.pool_scan.specs.Scanning.{AllTold, now_in}
use Rattle.pool_rest.specs.Standing.{IsLasting}
use Rattle.pool_rest.specs.Resting.{replayed_on, seated_state}
use Rattle.pool_rest.proofs.Agreeing.{logs_agree, reads_agree, replayed_agree, stands_agree}

some_newest : (f : Found) (g : State → Found) (o : Option State) → option_map g o ≡ Some f → (z : State) × (o ≡ Some z)
some_newest f g None has = absurd (none-some f has)
some_newest f g (Some z) has = (z, refl)

-- a pool stands by its newest state, and has one once its record is written
found_stands : (disks : Disks) (c : Image) (f : Found) → found disks c ≡ Some f
    → (s z : State) × (standing disks c ≡ Some (standing_by disks c s)) × (newest disks (identities_of disks (written disks (standing_by disks c s) c)) ≡ Some z)
unfolding found
found_stands disks c f is = of (standing disks c) refl is
  where
    of : (o : Option Standing) → standing disks c ≡ o → option_and_then (λ x. found_by disks x (written disks x c)) o ≡ Some f
        → (s z : State) × (standing disks c ≡ Some (standing_by disks c s)) × (newest disks (identities_of disks (written disks (standing_by disks c s) c)) ≡ Some z)
    of None at has = absurd (none-some f has)
    of (Some x) at has =
        let by = stood_by disks c x at in
        let new = some_newest f _ (newest disks (identities_of disks (written disks x c))) has in
        (by.0, new.0, at ∙ ap Some by.2, subst (λ (y : Standing). newest disks (identities_of disks (written disks y c)) ≡ Some new.0) by.2 new.1)

module _ (disks : Disks) (c e : Image) (s z : State) (stands : standing disks c ≡ Some (standing_by disks c s))
    (newest_is : newest disks (identities_of disks (written disks (standing_by disks c s) c)) ≡ Some z) (agree : Agree disks e c) where
  abbrev before_at : Image
  before_at = written disks (standing_by disks c s) c

  abbrev after_at : Image
  after_at = written disks (standing_by disks e s) e

  abbrev early : Found
  early = record { disks = disks; before = standing_by disks c s; contents = before_at; identities = identities_of disks before_at; state = z; seats = seat_of z disks (identities_of disks before_at) }

  abbrev late : Found
  late = record { disks = disks; before = standing_by disks e s; contents = after_at; identities = identities_of disks after_at; state = z; seats = seat_of z disks (identities_of disks after_at) }

  logs : (standing_by disks e s).logs ≡ (standing_by disks c s).logs
  logs = logs_agree disks e c s agree

  agree_at : Agree disks after_at before_at
  agree_at d t there within =
      ap (λ (xs : List Target). replayed_on disks (seated_state xs s) xs e d t) (ap (pending (current_places s)) logs)
      ∙ replayed_agree disks e c (seated_state (standing_by disks c s).targets s) (standing_by disks c s).targets agree d t there within

  ids : (d : ℕ) → d < disks.count → identities_of disks after_at d ≡ identities_of disks before_at d
  ids = agree_identities disks after_at before_at agree_at

  seats : (p : ℕ) → seat_of z disks (identities_of disks after_at) p ≡ seat_of z disks (identities_of disks before_at) p
  seats p = seat_same disks (identities_of disks after_at) (identities_of disks before_at) ids z p

  block : (p d : ℕ) → early.seats p ≡ Some d → is_bad_gate (slices_of late) p ≡ is_bad_gate (slices_of early) p
  block p d seat =
      ap is_bad_block (gate_block late p)
      ∙ ap (λ o. is_bad_block (option_map_or (λ d. if nat_lt drive_gate (disks.sectors d) then after_at d drive_gate else []) o [])) (seats p ∙ seat)
      ∙ of_room (nat_lt drive_gate (disks.sectors d)) refl
      ∙ sym (ap is_bad_block (gate_block early p) ∙ ap (λ o. is_bad_block (option_map_or (λ d. if nat_lt drive_gate (disks.sectors d) then before_at d drive_gate else []) o [])) seat)
    where
      of_room : (b : Bool) → nat_lt drive_gate (disks.sectors d) ≡ b
          → is_bad_block (if b then after_at d drive_gate else []) ≡ is_bad_block (if b then before_at d drive_gate else [])
      of_room true room = ap is_bad_block (agree_at d drive_gate (seat_inside z disks (identities_of disks before_at) p d seat) (ltb-true drive_gate (disks.sectors d) room))
      of_room false room = refl

  pool : IsSamePool early late
  pool = record {
    disks = refl;
    state = refl;
    seats = seats;
    all = ids;
    identities = λ p d seat. ids d (seat_inside z disks (identities_of disks before_at) p d seat);
    contents = λ p d t seat within no_gate. agree_at d t (seat_inside z disks (identities_of disks before_at) p d seat) within;
    logs = λ p d seat. ap₂ (λ b (l : Image). not b && not (is_bad_log (current_places s) l p)) (block p d seat) logs;
  }

  stands_late : standing disks e ≡ Some (standing_by disks e s)
  stands_late = stands_agree disks c e s agree stands

  early_found : found disks c ≡ Some early
  unfolding found
  early_found =
      ap (option_and_then (λ x. found_by disks x (written disks x c))) stands
      ∙ ap (option_map (λ (y : State). record {
        disks = disks;
        before = standing_by disks c s;
        contents = before_at;
        identities = identities_of disks before_at;
        state = y;
        seats = seat_of y disks (identities_of disks before_at);
      })) newest_is

  late_found : found disks e ≡ Some late
  unfolding found
  late_found =
      ap (option_and_then (λ x. found_by disks x (written disks x e))) stands_late
      ∙ ap (option_map (λ (y : State). record {
        disks = disks;
        before = standing_by disks e s;
        contents = after_at;
        identities = identities_of disks after_at;
        state = y;
        seats = seat_of y disks (identities_of disks after_at);
      })) (newest_same disks (identities_of disks after_at) (identities_of disks before_at) ids ∙ newest_is)

  refusal : refusal_of disks e ≡ refusal_of disks c
  unfolding refusal_of
  refusal =
      ap (λ o. option_map_or (refused_at disks e) o (Some no_pool)) stands_late
      ∙ ap₂ (λ b (o : Option Refusal). if b then Some two_pools else o)
      (other_same disks (identities_of disks e) (identities_of disks c) (agree_identities disks e c agree) s.pool.0)
      (ap (λ o. option_map_or refused_by o (Some no_pool)) late_found ∙ refused_same early late pool ∙ sym (ap (λ o. option_map_or refused_by o (Some no_pool)) early_found))
      ∙ sym (ap (λ o. option_map_or (refused_at disks c) o (Some no_pool)) stands)

  means : meaning disks e ≡ meaning disks c
  unfolding meaning
  means =
      ap₂ (λ (why : Option Refusal) (volumes : Option (List Volume)). option_map_or (λ w. None) why volumes) refusal
      (ap (option_map volumes_of) late_found ∙ ap Some (volumes_same early late pool) ∙ sym (ap (option_map volumes_of) early_found))

  pub agreeing_mean : MeansTheSame disks c e
  agreeing_mean = record {
    before = early;
    now = late;
    found_before = early_found;
    found_now = late_found;
    pool = pool;
    refusal = refusal;
    meaning = means;
  }

pub reads_mean : (a b : RackView) (f : Found) → OnlyReads a b → AllTold a → IsLasting a → found (disks_of a) (now_in a) ≡ Some f
    → MeansTheSame (disks_of a) (now_in a) (now_in b)
reads_mean a b f reads told lasts is =
    let by = found_stands (disks_of a) (now_in a) f is in
    agreeing_mean (disks_of a) (now_in a) (now_in b) by.0 by.1 by.2 by.3 (reads_agree a b reads told lasts)

-- ---- one step after another

some_found : (f g : Found) → Some f ≡ Some g → f ≡ g
some_found f g is = (cc)

pool_then : (f g h : Found) → IsSamePool f g → IsSamePool g h → IsSamePool f h
pool_then f g h one two = record {
  disks = two.disks ∙ one.disks;
  state = two.state ∙ one.state;
  seats = λ p. two.seats p ∙ one.seats p;
  all = λ d there. two.all d (subst (λ (k : Disks). d < k.count) (sym one.disks) there) ∙ one.all d there;
  identities = λ p d seat. two.identities p d (one.seats p ∙ seat) ∙ one.identities p d seat;
  contents = λ p d t seat within no_gate.
      two.contents p d t (one.seats p ∙ seat) (subst (λ (k : Disks). t < k.sectors d) (sym one.disks) within) no_gate ∙ one.contents p d t seat within no_gate;
  logs = λ p d seat. two.logs p d (one.seats p ∙ seat) ∙ one.logs p d seat;
}

pub means_then : (disks : Disks) (c e h : Image) → MeansTheSame disks c e → MeansTheSame disks e h → MeansTheSame disks c h
means_then disks c e h one two = record {
  before = one.before;
  now = two.now;
  found_before = one.found_before;
  found_now = two.found_now;
  pool =
      pool_then one.before one.now two.now one.pool
      (subst (λ (k : Found). IsSamePool k two.now) (some_found two.before one.now (sym two.found_before ∙ one.found_now)) two.pool);
  refusal = two.refusal ∙ one.refusal;
  meaning = two.meaning ∙ one.meaning;
}
