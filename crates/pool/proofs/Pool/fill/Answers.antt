use Rattle.std.specs.Prelude.{Ok, Err}
use Rattle.std.proofs.Common.{◌≡◌, ◌≢◌, ◌<◌, ◌^◌, ◌==◌, ℕ, true, Some, None, length, if◌then◌else◌, sym, ap, subst, ◌∙◌, inl, inr, arith}
use Rattle.std.proofs.lemmas.Bool.{both_ways, cases_Bool, cases_eq, ne_eqb, eq-eqb}
use Rattle.array_image.specs.States.{is_current}
use Rattle.slice_rack.specs.declared.SliceRack.{SliceRack}
use Rattle.slice_rack.specs.Changes.{Seats}
use Rattle.slice_rack.specs.Sliced.{slices_of}
use Rattle.slice_rack.specs.Slices.{seat_of}
use Rattle.slice_rack.specs.SliceRack.{below_of, tables}
use Rattle.pool_state.specs.declared.contents.Plan.TheVariants.{Replace}
use Rattle.raid_rack.specs.declared.arrays.Arrays.{Arrays}
use Rattle.raid_rack.specs.declared.arrays.RaidRack.{RaidRack}
use Rattle.raid_laws.specs.Enlisting.{Enlists, IsNotWhole, IsRefused, new_table}
use Rattle.raid_laws.specs.NewDrive.{ReachesAll, SeatsDrive, reaches_all}
use Rattle.raid_rack.specs.RaidRack.{IsFit, arrays_in, arrays_of as arrays_by_number, raid_in, refused_in, slices_in, slices_seen}
use Rattle.pool.specs.declared.replacing.GrowFault.TheVariants.{Gone, NotWhole}
use Rattle.pool.specs.Replaced.{is_vacant}
use Rattle.pool.specs.Taking.{TakesBy}
use Rattle.pool.specs.View.{arrays_of, bay_in, view}
use Rattle.pool.proofs.Admitted.{others_current, reaches_each, vacant_listed}
use Rattle.pool.proofs.Entered.{taken_in}
use Rattle.pool.proofs.Later.{later}
use Rattle.pool.proofs.Shown.{views_are}
use Rattle.pool.proofs.Taken.{taken_gone, taken_lost}
use Rattle.pool.proofs.Pool.fill.Goals as goal

pub vacate-requires-clause-fit : goal.vacate-requires-clause-fit
vacate-requires-clause-fit g c = subst (λ r. IsFit (arrays_in r) (slices_seen g.R.Rack.seen r)) (sym c.inner-raid.ensures.value) c.requires.fit.0

pub enlist-requires-clause-others : goal.enlist-requires-clause-others
enlist-requires-clause-others g c p low other =
    let x = view g.R.Rack.seen g.R.Bay.shelf c.args.self.now in
    let same : arrays_in c.vacate.new.self ≡ x.arrays = ap arrays_in c.vacate.ensures.rest ∙ ap arrays_in c.inner-raid.ensures.value in
    let free = c.requires.admitted in
    subst (λ (a : Arrays). is_current a.state p ≡ true) (sym same)
    (others_current x.arrays.state c.args.place free.whole p (subst (λ (a : Arrays). p < length a.state.drives.items) same low) other)

pub enlist-requires-clause-serial : goal.enlist-requires-clause-serial
enlist-requires-clause-serial g c =
    let x = view g.R.Rack.seen g.R.Bay.shelf c.args.self.now in
    let same : arrays_in c.vacate.new.self ≡ x.arrays = ap arrays_in c.vacate.ensures.rest ∙ ap arrays_in c.inner-raid.ensures.value in
    let free = c.requires.admitted in
    let low : x.arrays.state.serial < 2 ^ 32 = subst (λ n. n < 2 ^ 32) c.serial.ensures c.serial.type_inv in
    let other : x.arrays.state.serial ≢ 4294967295 = λ last. both_ways (x.arrays.state.serial == 4294967295) free.serial (eq-eqb x.arrays.state.serial 4294967295 last) in
    subst (λ (a : Arrays). a.state.serial < 4294967295) (sym same) (omega (arith, low, other))

pub enlist-requires-clause-free : goal.enlist-requires-clause-free
enlist-requires-clause-free g c p seated =
    let x = view g.R.Rack.seen g.R.Bay.shelf c.args.self.now in
    let free = c.requires.admitted in
    let old = c.vacate.ensures.seats.seats p in
    let t = ap (λ r. seat_of (tables (slices_in r)) p) c.inner-raid.ensures.value in
    elim (cases_eq p c.args.place) [
      | inl same ↦
          absurd (none_some (sym (ap (λ b. if b then None else seat_of (tables (slices_in c.inner-raid.result.now)) p) (eq-eqb p c.args.place same)) ∙ (sym old ∙ seated)))
      | inr other ↦
          let was : seat_of x.slices p ≡ Some c.args.disk =
          sym t ∙ (sym (ap (λ b. if b then None else seat_of (tables (slices_in c.inner-raid.result.now)) p) (ne_eqb p c.args.place other)) ∙ (sym old ∙ seated)) in
          elim (cases_Bool (is_vacant x.arrays.state p)) [
            | inl vacant ↦
                let listed = vacant_listed x.arrays.state p vacant in
                absurd (both_ways (is_current x.arrays.state p) listed.1 (others_current x.arrays.state c.args.place free.whole p listed.0 other))
            | inr not_vacant ↦ absurd (c.requires.other (p, was, not_vacant))
          ]
    ]
  where
    none_some : {d : ℕ} → None ≡ Some d → ⊥
    none_some e = cc

pub enlist-requires-clause-reaches : goal.enlist-requires-clause-reaches
enlist-requires-clause-reaches g c =
    let x = view g.R.Rack.seen g.R.Bay.shelf c.args.self.now in
    let sectors = (g.R.Rack.seen (bay_in c.args.self.now)).sectors c.args.disk in
    let free = c.requires.admitted in
    let same : arrays_in c.vacate.new.self ≡ x.arrays = ap arrays_in c.vacate.ensures.rest ∙ ap arrays_in c.inner-raid.ensures.value in
    let at = (reaches_each x.arrays.all.items c.args.place sectors
    (subst (λ vs. reaches_all vs c.args.place sectors ≡ true) (views_are x.arrays c.requires.fit.0.running.count) free.reaches)).1 in
    let below : (g.R.Rack.seen (below_of (slices_in c.vacate.new.self))).sectors c.args.disk ≡ sectors =
    ap (λ r. (g.R.Rack.seen r).sectors c.args.disk) (c.vacate.ensures.below ∙ ap (λ r. below_of (slices_in r)) c.inner-raid.ensures.value) in
    subst (λ n. ReachesAll (arrays_by_number c.vacate.new.self) c.args.place n) (sym below)
    (subst (λ (a : Arrays). ReachesAll a.all.items c.args.place sectors) (sym same) at)

-- ---- what the call leaves

pub returns-in-Err-Gone-clause-takes : goal.returns-in-Err-Gone-clause-takes
returns-in-Err-Gone-clause-takes g c =
    let seen = g.R.Rack.seen in
    let shelf = g.R.Bay.shelf in
    let p = c.args.self.now in
    let x = view seen shelf p in
    let one = c.vacate.new.self in
    let two = c.enlist.new.self in
    let t = tables (slices_in one) in
    let last = below_of (slices_in two) in
    let b = seen last in
    let s = shelf last in
    let made : (k : SliceRack _) → (r : _) → RaidRack _ = λ k r. record (arrays_of p) { slices = record k { rack = r } } in
    let below : below_of (slices_in one) ≡ bay_in p = c.vacate.ensures.below ∙ ap (λ r. below_of (slices_in r)) c.inner-raid.ensures.value in
    let same : one ≡ made (slices_in one) (bay_in p) =
    c.vacate.ensures.rest ∙ ap (λ (r : RaidRack _). record r { slices = slices_in one }) c.inner-raid.ensures.value ∙ ap (made (slices_in one)) below in
    let vacated = subst (λ r. Seats (tables (slices_in r)) t c.args.place None) c.inner-raid.ensures.value c.vacate.ensures.seats in
    let empty = subst (λ r. IsFit (arrays_in r) (slices_seen seen r)) same c.vacate.ensures.fit in
    let names = g.met.R.Bay.runs_shelf (bay_in p) last (subst (λ r. g.R.Rack.runs r last) below c.enlist.ensures.runs) in
    let refused : refused_in two ≡ x.refused = λ i n. (c.enlist.ensures.refused n ∙ ap (λ r. refused_in r n) same) i in
    let is = c.in-Err-Gone.ensures in
    let kept = is.kept (ap Err c.in-Err-Gone.field-0-is) ∙ ap arrays_in same in
    let tables_now : tables (slices_in two) ≡ t = is.tables in
    let gone = subst (λ r. IsRefused (tables (slices_in r)) c.args.disk (new_table (raid_in r).state (arrays_by_number r) c.args.place ((seen (below_of (slices_in r))).sectors c.args.disk)) (raid_in r) (seen (below_of (slices_in r))) b) same (is.gone (ap Err c.in-Err-Gone.field-0-is)) in
    let after =
    subst (λ (a : Arrays). IsFit a (slices_of t b)) kept (subst (λ k. IsFit (arrays_in two) (slices_of k b)) tables_now c.enlist.ensures.fit) in
    subst (λ f. TakesBy x (record { bays = x.bays; bay = b; shelf = s; slices = tables (slices_in two); arrays = arrays_in two; refused = f; linear = x.linear }) c.args.place c.args.disk (Err Gone))
    (sym refused)
    (subst (λ (a : Arrays). TakesBy x (later x b s (tables (slices_in two)) a) c.args.place c.args.disk (Err Gone)) (sym kept)
    (subst (λ k. TakesBy x (later x b s k x.arrays) c.args.place c.args.disk (Err Gone)) (sym tables_now)
    (taken_gone x b s c.args.place c.args.disk t p.volume.orderly c.requires.fit (inl (c.requires.missing, vacated)) empty (record { fit = g.met.R.Bay.always_fit last; lasting = g.met.R.Bay.lasting last; unspent = g.met.R.Bay.unspent last; small = g.met.R.Bay.bounded last; numbered = g.met.R.Bay.numbered last }) names (slices_in (arrays_of p)).orderly (slices_in one).orderly c.requires.admitted gone
    (λ k at. enlist-requires-clause-free g c.before.before.before k at) after)))

pub returns-in-Err-NotWhole-clause-takes : goal.returns-in-Err-NotWhole-clause-takes
returns-in-Err-NotWhole-clause-takes g c =
    let seen = g.R.Rack.seen in
    let shelf = g.R.Bay.shelf in
    let p = c.args.self.now in
    let x = view seen shelf p in
    let one = c.vacate.new.self in
    let two = c.enlist.new.self in
    let t = tables (slices_in one) in
    let last = below_of (slices_in two) in
    let b = seen last in
    let s = shelf last in
    let made : (k : SliceRack _) → (r : _) → RaidRack _ = λ k r. record (arrays_of p) { slices = record k { rack = r } } in
    let below : below_of (slices_in one) ≡ bay_in p = c.vacate.ensures.below ∙ ap (λ r. below_of (slices_in r)) c.inner-raid.ensures.value in
    let same : one ≡ made (slices_in one) (bay_in p) =
    c.vacate.ensures.rest ∙ ap (λ (r : RaidRack _). record r { slices = slices_in one }) c.inner-raid.ensures.value ∙ ap (made (slices_in one)) below in
    let vacated = subst (λ r. Seats (tables (slices_in r)) t c.args.place None) c.inner-raid.ensures.value c.vacate.ensures.seats in
    let empty = subst (λ r. IsFit (arrays_in r) (slices_seen seen r)) same c.vacate.ensures.fit in
    let names = g.met.R.Bay.runs_shelf (bay_in p) last (subst (λ r. g.R.Rack.runs r last) below c.enlist.ensures.runs) in
    let refused : refused_in two ≡ x.refused = λ i n. (c.enlist.ensures.refused n ∙ ap (λ r. refused_in r n) same) i in
    let is = c.in-Err-NotWhole.ensures in
    let tables_now : tables (slices_in two) ≡ t = is.tables in
    let lost = subst (λ r. IsNotWhole (tables (slices_in r)) c.args.disk (new_table (raid_in r).state (arrays_by_number r) c.args.place ((seen (below_of (slices_in r))).sectors c.args.disk)) (raid_in r) (raid_in two) (seen (below_of (slices_in r))) b) same (is.not_whole (ap Err c.in-Err-NotWhole.field-0-is)) in
    let after = subst (λ k. IsFit (arrays_in two) (slices_of k b)) tables_now c.enlist.ensures.fit in
    subst (λ f. TakesBy x (record { bays = x.bays; bay = b; shelf = s; slices = tables (slices_in two); arrays = arrays_in two; refused = f; linear = x.linear }) c.args.place c.args.disk (Err NotWhole))
    (sym refused)
    (subst (λ k. TakesBy x (later x b s k (arrays_in two)) c.args.place c.args.disk (Err NotWhole)) (sym tables_now)
    (taken_lost x b s c.args.place c.args.disk t p.volume.orderly c.requires.fit (inl (c.requires.missing, vacated)) empty (record { fit = g.met.R.Bay.always_fit last; lasting = g.met.R.Bay.lasting last; unspent = g.met.R.Bay.unspent last; small = g.met.R.Bay.bounded last; numbered = g.met.R.Bay.numbered last }) names (slices_in (arrays_of p)).orderly (slices_in one).orderly c.requires.admitted (arrays_in two) lost after))

pub returns-in-Ok-clause-takes : goal.returns-in-Ok-clause-takes
returns-in-Ok-clause-takes g c =
    let seen = g.R.Rack.seen in
    let shelf = g.R.Bay.shelf in
    let p = c.args.self.now in
    let x = view seen shelf p in
    let one = c.vacate.new.self in
    let two = c.enlist.new.self in
    let t = tables (slices_in one) in
    let last = below_of (slices_in two) in
    let b = seen last in
    let s = shelf last in
    let made : (k : SliceRack _) → (r : _) → RaidRack _ = λ k r. record (arrays_of p) { slices = record k { rack = r } } in
    let below : below_of (slices_in one) ≡ bay_in p = c.vacate.ensures.below ∙ ap (λ r. below_of (slices_in r)) c.inner-raid.ensures.value in
    let same : one ≡ made (slices_in one) (bay_in p) =
    c.vacate.ensures.rest ∙ ap (λ (r : RaidRack _). record r { slices = slices_in one }) c.inner-raid.ensures.value ∙ ap (made (slices_in one)) below in
    let vacated = subst (λ r. Seats (tables (slices_in r)) t c.args.place None) c.inner-raid.ensures.value c.vacate.ensures.seats in
    let empty = subst (λ r. IsFit (arrays_in r) (slices_seen seen r)) same c.vacate.ensures.fit in
    let names = g.met.R.Bay.runs_shelf (bay_in p) last (subst (λ r. g.R.Rack.runs r last) below c.enlist.ensures.runs) in
    let refused : refused_in two ≡ x.refused = λ i n. (c.enlist.ensures.refused n ∙ ap (λ r. refused_in r n) same) i in
    let is = c.in-Ok.ensures in
    let u = tables (slices_in two) in
    let seats = subst (λ r. SeatsDrive (arrays_by_number r) c.args.place c.args.disk ((seen (below_of (slices_in r))).sectors c.args.disk) (tables (slices_in r)) u) same is.seats in
    let enlists =
    subst (λ r. Enlists (tables (slices_in r)) u (arrays_by_number r) c.args.place c.args.disk c.units_of-units.result (Replace c.args.place) (raid_in r) (raid_in two)
    (seen (below_of (slices_in r))) b) same is.enlists in
    subst (λ f. TakesBy x (record { bays = x.bays; bay = b; shelf = s; slices = u; arrays = arrays_in two; refused = f; linear = x.linear }) c.args.place c.args.disk (Ok tt))
    (sym refused)
    (taken_in x b s c.args.place c.args.disk c.units_of-units.result t u (arrays_in two) p.volume.orderly c.requires.fit (inl (c.requires.missing, vacated)) empty (record { fit = g.met.R.Bay.always_fit (bay_in p); lasting = g.met.R.Bay.lasting (bay_in p); unspent = g.met.R.Bay.unspent (bay_in p); small = g.met.R.Bay.bounded (bay_in p); numbered = g.met.R.Bay.numbered (bay_in p) }) (record { fit = g.met.R.Bay.always_fit last; lasting = g.met.R.Bay.lasting last; unspent = g.met.R.Bay.unspent last; small = g.met.R.Bay.bounded last; numbered = g.met.R.Bay.numbered last }) names
    (slices_in (arrays_of p)).orderly (slices_in one).orderly (slices_in two).orderly c.requires.admitted c.requires.disk c.requires.listed seats enlists c.enlist.ensures.fit c.units_of-units.ensures)

pub returns-in-Err-Gone-clause-runs : goal.returns-in-Err-Gone-clause-runs
returns-in-Err-Gone-clause-runs g c =
    subst (λ r. g.R.Rack.runs r (below_of (slices_in c.enlist.new.self))) (c.vacate.ensures.below ∙ ap (λ r. below_of (slices_in r)) c.inner-raid.ensures.value) c.enlist.ensures.runs

pub returns-in-Err-NotWhole-clause-runs : goal.returns-in-Err-NotWhole-clause-runs
returns-in-Err-NotWhole-clause-runs g c =
    subst (λ r. g.R.Rack.runs r (below_of (slices_in c.enlist.new.self))) (c.vacate.ensures.below ∙ ap (λ r. below_of (slices_in r)) c.inner-raid.ensures.value) c.enlist.ensures.runs

pub returns-in-Ok-clause-runs : goal.returns-in-Ok-clause-runs
returns-in-Ok-clause-runs g c =
    subst (λ r. g.R.Rack.runs r (below_of (slices_in c.enlist.new.self))) (c.vacate.ensures.below ∙ ap (λ r. below_of (slices_in r)) c.inner-raid.ensures.value) c.enlist.ensures.runs
