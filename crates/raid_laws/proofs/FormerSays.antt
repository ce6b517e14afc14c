-- A current place is to get another drive: while the record of the commit doesn't count, contents say each array that stood by the slices before and the state
-- before, as at a stop before the call.
use Rattle.std.proofs.Common.{◌≡◌, ◌≢◌, ℕ, ◌<◌, ◌==◌, Bool, true, false, List, Some, refl, sym, ap, subst, ◌∙◌, inl, eq-eqb, arith}
use Rattle.std.proofs.lemmas.Bool.{ne_eqb}
use Rattle.rack.specs.Values.{Values}
use Rattle.rack.specs.Seen.{Image, RackView}
use Rattle.rack.specs.Targets.{Target, look}
use Rattle.pool_state.specs.declared.contents.State.{State}
use Rattle.array_image.specs.Arrays.{replayed}
use Rattle.array_image.specs.Left.{Picks}
use Rattle.array_image.specs.Places.{log_sectors, log_slice}
use Rattle.array_image.specs.Record.{gate_sector, pending}
use Rattle.array_image.specs.States.{is_current, state_in}
use Rattle.log_laws.specs.Kept.{LogInvariant}
use Rattle.log_laws.specs.Saying.{CopiesIn}
use Rattle.log_laws.specs.Standing.{IsAlike, deciding}
use Rattle.commit_log.proofs.Amid.{not_state}
use Rattle.log_laws.proofs.Kept.{stands_of}
use Rattle.log_laws.proofs.HeldCopies.{copies_same, kept_holds, no_look}
use Rattle.raid_laws.specs.Book.{after_same}
use Rattle.raid_laws.specs.Enlisting.{HasNoCopy, IsNewLog, SaysBy, SaysFormer}
use Rattle.raid_laws.specs.Frames.{frame_of}
use Rattle.raid_laws.specs.Laws.{stood_left}
use Rattle.raid_laws.specs.Moves.{IsTrackedInCall, IsHeeded, IsSet}
use Rattle.raid_laws.specs.Raid.{Raid, gone_in}
use Rattle.raid_laws.specs.Since.{AreSince}
use Rattle.raid_laws.specs.Vacated.{AgreesOff, DiffersAt, IsFormerly}
use Rattle.raid_laws.proofs.Frames.{frame_same, left_frame}
use Rattle.raid_laws.proofs.Marking.{alike_agree, alike_state}
use Rattle.raid_laws.proofs.Own.{says_same}
use Rattle.raid_laws.proofs.RetiredMoments.{as_is_c, bare_e, idle_c, replayed_e, retired_before, state_c, whole_c}
use Rattle.raid_laws.proofs.Rows.{from_same}
use Rattle.raid_laws.proofs.Whole.{heeded_gone, heeded_left}

-- copies that agree are such as calls leave them that began with their state
copies_since : (s : State) (sectors : ℕ → ℕ) (c : Image) → CopiesIn s sectors c → AreSince s sectors c
copies_since s sectors c copies p few there = record {
  own = λ now.
      let copy = copies.own p now there in
      record { copy = record { state = s; own = copy.own }; is = copy.copy; after = after_same s; drive = copy.drive };
  former = λ copy past is. copies.earlier p copy few past is;
}

module _ (place : ℕ) (x y : RackView) (differs : DiffersAt place x y) (v : Raid) (n : ℕ) (vals : ℕ → Values) (spent : ℕ → Bool) (set : IsSet v x) (heeded : IsHeeded v)
    (low : n < v.state.made) (was : is_current v.state place ≡ true) (someone : (p : ℕ) × (is_current v.state p ≡ true) × (p ≢ place)) (new_log : IsNewLog place y)
    (size : y.sectors (log_slice place) ≡ log_sectors) (amid : IsTrackedInCall v x n vals spent)
    (c e : Image) (agrees : AgreesOff place x c e) (former : IsFormerly place y e) where
  small : n < 16
  small = let most = set.most in omega (arith, low, most)

  all : (p : ℕ) → is_current v.state p ≡ true → gone_in v p ≡ false
  all p is = heeded_gone v heeded p

  apart : (p : ℕ) × (is_current v.state p ≡ true) × ((p == place) ≡ false)
  apart = (someone.0, someone.1, ne_eqb someone.0 place someone.2)

  room : gate_sector < x.sectors (log_slice place)
  room = let long = set.logs place (heeded_left v place heeded was) in omega (arith, long)

  room_now : gate_sector < y.sectors (log_slice place)
  room_now = let long = size in omega (arith, long)

  at : (i : Image) × Picks x i × IsAlike (replayed x.sectors c) (replayed x.sectors i)
  at =
      retired_before place x y differs v.state v.number (gone_in v) (λ p. p == place) amid.stood.log was all (eq-eqb place place refl) (λ p stays. heeded_gone v heeded p) apart new_log
      room room_now c e agrees former

  stood_is : state_in c ≡ Some v.state
  stood_is =
      state_c place x y differs v.state v.number (gone_in v) (λ p. p == place) amid.stood.log was all (eq-eqb place place refl) (λ p stays. heeded_gone v heeded p) apart new_log
      room room_now c e agrees former

  as_is : (d k : ℕ) → replayed x.sectors c d k ≡ c d k
  as_is =
      as_is_c place x y differs v.state v.number (gone_in v) (λ p. p == place) amid.stood.log was all (eq-eqb place place refl) (λ p stays. heeded_gone v heeded p) apart new_log
      room room_now c e agrees former

  none : (d k : ℕ) (u : List ℕ) → look (pending (deciding c) c) d k ≡ Some u → ⊥
  none d k u is =
      no_look d k u
      (ap (λ (xs : List Target). look xs d k)
      (sym (idle_c place x y differs v.state v.number (gone_in v) (λ p. p == place) amid.stood.log was all (eq-eqb place place refl) (λ p stays. heeded_gone v heeded p) apart new_log
      room room_now c e agrees former)) ∙ is)

  copies : CopiesIn v.state x.sectors (replayed x.sectors c)
  copies =
      let log : LogInvariant v.state v.number (λ p. false) x = subst (λ g. LogInvariant v.state v.number g x) (λ i p. heeded_gone v heeded p i) amid.stood.log in
      copies_same v.state x.sectors (replayed x.sectors c) (replayed x.sectors at.0) (λ p. at.2 (log_slice p) 0 (not_state p))
      ((kept_holds v.state v.number x log).copies at.0 (stands_of at.0 at.1))

  copies_c : CopiesIn v.state x.sectors c
  copies_c = copies_same v.state x.sectors c (replayed x.sectors c) (λ p. sym (as_is (log_slice p) 0)) copies

  says : SaysBy v.state n vals spent (replayed x.sectors c)
  says =
      let left = stood_left v.state amid.durable vals spent (gone_in v) v x n at.0 amid.stood at.1 in
      record {
        is_state = alike_state (replayed x.sectors c) (replayed x.sectors at.0) at.2 ∙ left.0;
        shape = amid.durable;
        says =
            says_same v.state n amid.durable vals spent (replayed x.sectors c) (replayed x.sectors at.0)
            (alike_agree n (replayed x.sectors c) (replayed x.sectors at.0) small at.2) left.1;
      }

  pub former_says : SaysFormer v x n vals spent x.sectors c × HasNoCopy place e × (state_in (replayed y.sectors e) ≡ Some v.state)
  former_says = (
    record {
      says = says;
      rows = λ rows.
          from_same (v.arrays n).resync n (replayed x.sectors c) (replayed x.sectors at.0) (alike_state (replayed x.sectors c) (replayed x.sectors at.0) at.2)
          (alike_agree n (replayed x.sectors c) (replayed x.sectors at.0) small at.2) (rows.images (replayed x.sectors at.0) (at.0, at.1, λ d k. refl));
      logs = record {
        whole =
            whole_c place x y differs v.state v.number (gone_in v) (λ p. p == place) amid.stood.log was all (eq-eqb place place refl) (λ p stays. heeded_gone v heeded p) apart new_log
            room room_now c e agrees former;
        is_state = says.is_state;
        copies = copies;
        stood = v.state;
        stood_is = stood_is;
        latest = λ p copy few is. copies_c.others p copy few is;
        next = inl refl;
        brings = λ p u is. absurd (none (log_slice p) 0 u is);
        inside = λ d k u is. absurd (none d k u is);
      };
      since = copies_since v.state x.sectors c copies_c;
      frame =
          frame_same (frame_of (v.arrays n).truth) n (replayed x.sectors c) (replayed x.sectors at.0) (alike_state (replayed x.sectors c) (replayed x.sectors at.0) at.2)
          (alike_agree n (replayed x.sectors c) (replayed x.sectors at.0) small at.2)
          (left_frame (frame_of (v.arrays n).truth) v.state amid.durable vals spent (gone_in v) v x n at.0 refl amid.stood at.1);
    },
    bare_e place x y differs v.state v.number (gone_in v) (λ p. p == place) amid.stood.log was all (eq-eqb place place refl) (λ p stays. heeded_gone v heeded p) apart new_log
        room room_now c e agrees former,
    replayed_e place x y differs v.state v.number (gone_in v) (λ p. p == place) amid.stood.log was all (eq-eqb place place refl) (λ p stays. heeded_gone v heeded p) apart new_log
        room room_now c e agrees former,
  )
