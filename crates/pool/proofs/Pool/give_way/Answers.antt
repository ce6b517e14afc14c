use Rattle.std.proofs.Common.{sym, subst, ◌∙◌, inl, inr}
use Rattle.std.specs.Prelude.{Ok, Err}
use Rattle.std.proofs.lemmas.Bool.{cases_Bool}
use Rattle.raid_rack.specs.RaidRack.{arrays_in, refused_in, slices_in}
use Rattle.pool.specs.declared.replacing.GrowFault.TheVariants.{NotWhole}
use Rattle.pool.specs.Entering.{Cleaned, meanwhile}
use Rattle.pool.specs.Replacing.{has_other_missing}
use Rattle.pool.specs.Taking.{Carries, ReplacesBy, TakesBy}
use Rattle.pool.specs.View.{arrays_of, bay_in, book, view}
use Rattle.pool.proofs.Attaching.{IsBay}
use Rattle.pool.proofs.Giving.{ready_clean, ready_lost}
use Rattle.pool.proofs.Late.{never_fault}
use Rattle.pool.proofs.Ways.{cleaned_short, cleaned_whole, free, lost_out, lost_short, lost_whole, next_admitted, next_disk, next_listed, next_other, to_mean}
use Rattle.pool.proofs.Pool.give_way.Goals as goal

pub lacks_other-requires : goal.lacks_other-requires
lacks_other-requires g c =
    let seen = g.R.Rack.seen in
    let shelf = g.R.Bay.shelf in
    let p = c.args.self.now in
    let q = c.clean.new.self in
    let x = view seen shelf p in
    let m = view seen shelf q in
    let place = c.args.place in
    let disk = c.args.disk in
    let ordered = (slices_in (arrays_of p)).orderly in
    let cleaned = c.clean.ensures.cleaned in
    let carries = c.clean.ensures.carries in
    let now : IsBay m.bay m.shelf = record { fit = g.met.R.Bay.always_fit (bay_in q); lasting = g.met.R.Bay.lasting (bay_in q); unspent = g.met.R.Bay.unspent (bay_in q); small = g.met.R.Bay.bounded (bay_in q); numbered = g.met.R.Bay.numbered (bay_in q) } in
    let ready = ready_clean x m place disk now c.requires.current cleaned carries in
    next_listed x place disk c.requires.fit ordered c.requires.current c.requires.listed c.requires.disk c.requires.other c.requires.admitted m 288 ready

pub returns-then-lacks_other-clause-replaces : goal.returns-then-lacks_other-clause-replaces
returns-then-lacks_other-clause-replaces g c =
    let seen = g.R.Rack.seen in
    let shelf = g.R.Bay.shelf in
    let p = c.args.self.now in
    let q = c.clean.new.self in
    let x = view seen shelf p in
    let m = view seen shelf q in
    let place = c.args.place in
    let disk = c.args.disk in
    let ordered = (slices_in (arrays_of p)).orderly in
    let cleaned = c.clean.ensures.cleaned in
    let carries = c.clean.ensures.carries in
    let now : IsBay m.bay m.shelf = record { fit = g.met.R.Bay.always_fit (bay_in q); lasting = g.met.R.Bay.lasting (bay_in q); unspent = g.met.R.Bay.unspent (bay_in q); small = g.met.R.Bay.bounded (bay_in q); numbered = g.met.R.Bay.numbered (bay_in q) } in
    let ready = ready_clean x m place disk now c.requires.current cleaned carries in
    cleaned_short x place disk c.requires.fit ordered c.requires.current c.requires.listed c.requires.disk c.requires.other c.requires.admitted m now cleaned carries (sym c.lacks_other.ensures ∙ c.if-lacks_other.true)

pub fill-requires-clause-fit : goal.fill-requires-clause-fit
fill-requires-clause-fit g c = c.clean.ensures.cleaned.ends.passes.stays.fit

pub fill-requires-clause-listed : goal.fill-requires-clause-listed
fill-requires-clause-listed g c =
    let seen = g.R.Rack.seen in
    let shelf = g.R.Bay.shelf in
    let p = c.args.self.now in
    let q = c.clean.new.self in
    let x = view seen shelf p in
    let m = view seen shelf q in
    let place = c.args.place in
    let disk = c.args.disk in
    let ordered = (slices_in (arrays_of p)).orderly in
    let cleaned = c.clean.ensures.cleaned in
    let carries = c.clean.ensures.carries in
    let now : IsBay m.bay m.shelf = record { fit = g.met.R.Bay.always_fit (bay_in q); lasting = g.met.R.Bay.lasting (bay_in q); unspent = g.met.R.Bay.unspent (bay_in q); small = g.met.R.Bay.bounded (bay_in q); numbered = g.met.R.Bay.numbered (bay_in q) } in
    let ready = ready_clean x m place disk now c.requires.current cleaned carries in
    next_listed x place disk c.requires.fit ordered c.requires.current c.requires.listed c.requires.disk c.requires.other c.requires.admitted m 288 ready

pub fill-requires-clause-disk : goal.fill-requires-clause-disk
fill-requires-clause-disk g c =
    let seen = g.R.Rack.seen in
    let shelf = g.R.Bay.shelf in
    let p = c.args.self.now in
    let q = c.clean.new.self in
    let x = view seen shelf p in
    let m = view seen shelf q in
    let place = c.args.place in
    let disk = c.args.disk in
    let ordered = (slices_in (arrays_of p)).orderly in
    let cleaned = c.clean.ensures.cleaned in
    let carries = c.clean.ensures.carries in
    let now : IsBay m.bay m.shelf = record { fit = g.met.R.Bay.always_fit (bay_in q); lasting = g.met.R.Bay.lasting (bay_in q); unspent = g.met.R.Bay.unspent (bay_in q); small = g.met.R.Bay.bounded (bay_in q); numbered = g.met.R.Bay.numbered (bay_in q) } in
    let ready = ready_clean x m place disk now c.requires.current cleaned carries in
    next_disk x place disk c.requires.fit ordered c.requires.current c.requires.listed c.requires.disk c.requires.other c.requires.admitted m 288 ready

pub fill-requires-clause-other : goal.fill-requires-clause-other
fill-requires-clause-other g c =
    let seen = g.R.Rack.seen in
    let shelf = g.R.Bay.shelf in
    let p = c.args.self.now in
    let q = c.clean.new.self in
    let x = view seen shelf p in
    let m = view seen shelf q in
    let place = c.args.place in
    let disk = c.args.disk in
    let ordered = (slices_in (arrays_of p)).orderly in
    let cleaned = c.clean.ensures.cleaned in
    let carries = c.clean.ensures.carries in
    let now : IsBay m.bay m.shelf = record { fit = g.met.R.Bay.always_fit (bay_in q); lasting = g.met.R.Bay.lasting (bay_in q); unspent = g.met.R.Bay.unspent (bay_in q); small = g.met.R.Bay.bounded (bay_in q); numbered = g.met.R.Bay.numbered (bay_in q) } in
    let ready = ready_clean x m place disk now c.requires.current cleaned carries in
    next_other x place disk c.requires.fit ordered c.requires.current c.requires.listed c.requires.disk c.requires.other c.requires.admitted m 288 ready

pub fill-requires-clause-admitted : goal.fill-requires-clause-admitted
fill-requires-clause-admitted g c =
    let seen = g.R.Rack.seen in
    let shelf = g.R.Bay.shelf in
    let p = c.args.self.now in
    let q = c.clean.new.self in
    let x = view seen shelf p in
    let m = view seen shelf q in
    let place = c.args.place in
    let disk = c.args.disk in
    let ordered = (slices_in (arrays_of p)).orderly in
    let cleaned = c.clean.ensures.cleaned in
    let carries = c.clean.ensures.carries in
    let now : IsBay m.bay m.shelf = record { fit = g.met.R.Bay.always_fit (bay_in q); lasting = g.met.R.Bay.lasting (bay_in q); unspent = g.met.R.Bay.unspent (bay_in q); small = g.met.R.Bay.bounded (bay_in q); numbered = g.met.R.Bay.numbered (bay_in q) } in
    let ready = ready_clean x m place disk now c.requires.current cleaned carries in
    next_admitted x place disk c.requires.fit ordered c.requires.current c.requires.listed c.requires.disk c.requires.other c.requires.admitted m 288 ready (sym c.lacks_other.ensures ∙ c.if-lacks_other.false)

pub exchange-requires-clause-fit : goal.exchange-requires-clause-fit
exchange-requires-clause-fit g c = c.clean.ensures.cleaned.ends.passes.stays.fit

pub exchange-requires-clause-listed : goal.exchange-requires-clause-listed
exchange-requires-clause-listed g c =
    let seen = g.R.Rack.seen in
    let shelf = g.R.Bay.shelf in
    let p = c.args.self.now in
    let q = c.clean.new.self in
    let x = view seen shelf p in
    let m = view seen shelf q in
    let place = c.args.place in
    let disk = c.args.disk in
    let ordered = (slices_in (arrays_of p)).orderly in
    let cleaned = c.clean.ensures.cleaned in
    let carries = c.clean.ensures.carries in
    let now : IsBay m.bay m.shelf = record { fit = g.met.R.Bay.always_fit (bay_in q); lasting = g.met.R.Bay.lasting (bay_in q); unspent = g.met.R.Bay.unspent (bay_in q); small = g.met.R.Bay.bounded (bay_in q); numbered = g.met.R.Bay.numbered (bay_in q) } in
    let ready = ready_clean x m place disk now c.requires.current cleaned carries in
    next_listed x place disk c.requires.fit ordered c.requires.current c.requires.listed c.requires.disk c.requires.other c.requires.admitted m 288 ready

pub exchange-requires-clause-disk : goal.exchange-requires-clause-disk
exchange-requires-clause-disk g c =
    let seen = g.R.Rack.seen in
    let shelf = g.R.Bay.shelf in
    let p = c.args.self.now in
    let q = c.clean.new.self in
    let x = view seen shelf p in
    let m = view seen shelf q in
    let place = c.args.place in
    let disk = c.args.disk in
    let ordered = (slices_in (arrays_of p)).orderly in
    let cleaned = c.clean.ensures.cleaned in
    let carries = c.clean.ensures.carries in
    let now : IsBay m.bay m.shelf = record { fit = g.met.R.Bay.always_fit (bay_in q); lasting = g.met.R.Bay.lasting (bay_in q); unspent = g.met.R.Bay.unspent (bay_in q); small = g.met.R.Bay.bounded (bay_in q); numbered = g.met.R.Bay.numbered (bay_in q) } in
    let ready = ready_clean x m place disk now c.requires.current cleaned carries in
    next_disk x place disk c.requires.fit ordered c.requires.current c.requires.listed c.requires.disk c.requires.other c.requires.admitted m 288 ready

pub exchange-requires-clause-other : goal.exchange-requires-clause-other
exchange-requires-clause-other g c =
    let seen = g.R.Rack.seen in
    let shelf = g.R.Bay.shelf in
    let p = c.args.self.now in
    let q = c.clean.new.self in
    let x = view seen shelf p in
    let m = view seen shelf q in
    let place = c.args.place in
    let disk = c.args.disk in
    let ordered = (slices_in (arrays_of p)).orderly in
    let cleaned = c.clean.ensures.cleaned in
    let carries = c.clean.ensures.carries in
    let now : IsBay m.bay m.shelf = record { fit = g.met.R.Bay.always_fit (bay_in q); lasting = g.met.R.Bay.lasting (bay_in q); unspent = g.met.R.Bay.unspent (bay_in q); small = g.met.R.Bay.bounded (bay_in q); numbered = g.met.R.Bay.numbered (bay_in q) } in
    let ready = ready_clean x m place disk now c.requires.current cleaned carries in
    next_other x place disk c.requires.fit ordered c.requires.current c.requires.listed c.requires.disk c.requires.other c.requires.admitted m 288 ready

pub exchange-requires-clause-admitted : goal.exchange-requires-clause-admitted
exchange-requires-clause-admitted g c =
    let seen = g.R.Rack.seen in
    let shelf = g.R.Bay.shelf in
    let p = c.args.self.now in
    let q = c.clean.new.self in
    let x = view seen shelf p in
    let m = view seen shelf q in
    let place = c.args.place in
    let disk = c.args.disk in
    let ordered = (slices_in (arrays_of p)).orderly in
    let cleaned = c.clean.ensures.cleaned in
    let carries = c.clean.ensures.carries in
    let now : IsBay m.bay m.shelf = record { fit = g.met.R.Bay.always_fit (bay_in q); lasting = g.met.R.Bay.lasting (bay_in q); unspent = g.met.R.Bay.unspent (bay_in q); small = g.met.R.Bay.bounded (bay_in q); numbered = g.met.R.Bay.numbered (bay_in q) } in
    let ready = ready_clean x m place disk now c.requires.current cleaned carries in
    next_admitted x place disk c.requires.fit ordered c.requires.current c.requires.listed c.requires.disk c.requires.other c.requires.admitted m 288 ready (sym c.lacks_other.ensures ∙ c.if-lacks_other.false)

pub returns-then-not-has_drive-clause-replaces : goal.returns-then-not-has_drive-clause-replaces
returns-then-not-has_drive-clause-replaces g c =
    let seen = g.R.Rack.seen in
    let shelf = g.R.Bay.shelf in
    let p = c.args.self.now in
    let q = c.clean.new.self in
    let x = view seen shelf p in
    let m = view seen shelf q in
    let place = c.args.place in
    let disk = c.args.disk in
    let ordered = (slices_in (arrays_of p)).orderly in
    let cleaned = c.clean.ensures.cleaned in
    let carries = c.clean.ensures.carries in
    let now : IsBay m.bay m.shelf = record { fit = g.met.R.Bay.always_fit (bay_in q); lasting = g.met.R.Bay.lasting (bay_in q); unspent = g.met.R.Bay.unspent (bay_in q); small = g.met.R.Bay.bounded (bay_in q); numbered = g.met.R.Bay.numbered (bay_in q) } in
    let ready = ready_clean x m place disk now c.requires.current cleaned carries in
    let same = cleaned.ends.passes.slices in
    let volumes = cleaned.ends.passes.linear in
    let cleaned_mean = to_mean seen shelf p q (λ k. Cleaned x k) same volumes cleaned in
    let carries_mean = to_mean seen shelf p q (λ k. Carries x k) same volumes carries in
    let y = view seen shelf c.fill.new.self in
    cleaned_whole x place disk c.requires.fit ordered c.requires.current c.requires.listed c.requires.disk c.requires.other c.requires.admitted (bay_in q) (arrays_in (arrays_of q)) (refused_in (arrays_of q)) now cleaned_mean carries_mean y c.fill.result
    (sym c.lacks_other.ensures ∙ c.if-lacks_other.false) (λ same. inl (sym c.has_drive.ensures ∙ c.if-not-has_drive.true))
    (to_mean seen shelf p q (λ k. TakesBy k y place disk c.fill.result) same volumes c.fill.ensures.takes)

pub returns-in-Ok-clause-replaces : goal.returns-in-Ok-clause-replaces
returns-in-Ok-clause-replaces g c =
    let seen = g.R.Rack.seen in
    let shelf = g.R.Bay.shelf in
    let p = c.args.self.now in
    let q = c.clean.new.self in
    let x = view seen shelf p in
    let m = view seen shelf q in
    let place = c.args.place in
    let disk = c.args.disk in
    let ordered = (slices_in (arrays_of p)).orderly in
    let cleaned = c.clean.ensures.cleaned in
    let carries = c.clean.ensures.carries in
    let now : IsBay m.bay m.shelf = record { fit = g.met.R.Bay.always_fit (bay_in q); lasting = g.met.R.Bay.lasting (bay_in q); unspent = g.met.R.Bay.unspent (bay_in q); small = g.met.R.Bay.bounded (bay_in q); numbered = g.met.R.Bay.numbered (bay_in q) } in
    let ready = ready_clean x m place disk now c.requires.current cleaned carries in
    let same = cleaned.ends.passes.slices in
    let volumes = cleaned.ends.passes.linear in
    let cleaned_mean = to_mean seen shelf p q (λ k. Cleaned x k) same volumes cleaned in
    let carries_mean = to_mean seen shelf p q (λ k. Carries x k) same volumes carries in
    let y = view seen shelf c.exchange.new.self in
    let by = to_mean seen shelf p q (λ k. TakesBy k y place disk (Ok tt)) same volumes c.in-Ok.ensures.takes in
    cleaned_whole x place disk c.requires.fit ordered c.requires.current c.requires.listed c.requires.disk c.requires.other c.requires.admitted (bay_in q) (arrays_in (arrays_of q)) (refused_in (arrays_of q)) now cleaned_mean carries_mean y (Ok tt)
    (sym c.lacks_other.ensures ∙ c.if-lacks_other.false) (λ same. absurd (never_fault NotWhole same)) by

pub returns-then-has_drive-clause-replaces : goal.returns-then-has_drive-clause-replaces
returns-then-has_drive-clause-replaces g c =
    let seen = g.R.Rack.seen in
    let shelf = g.R.Bay.shelf in
    let p = c.args.self.now in
    let q = c.clean.new.self in
    let x = view seen shelf p in
    let m = view seen shelf q in
    let place = c.args.place in
    let disk = c.args.disk in
    let ordered = (slices_in (arrays_of p)).orderly in
    let cleaned = c.clean.ensures.cleaned in
    let carries = c.clean.ensures.carries in
    let now : IsBay m.bay m.shelf = record { fit = g.met.R.Bay.always_fit (bay_in q); lasting = g.met.R.Bay.lasting (bay_in q); unspent = g.met.R.Bay.unspent (bay_in q); small = g.met.R.Bay.bounded (bay_in q); numbered = g.met.R.Bay.numbered (bay_in q) } in
    let ready = ready_clean x m place disk now c.requires.current cleaned carries in
    let same = cleaned.ends.passes.slices in
    let volumes = cleaned.ends.passes.linear in
    let cleaned_mean = to_mean seen shelf p q (λ k. Cleaned x k) same volumes cleaned in
    let carries_mean = to_mean seen shelf p q (λ k. Carries x k) same volumes carries in
    let y = view seen shelf c.exchange.new.self in
    let by = to_mean seen shelf p q (λ k. TakesBy k y place disk (Err c.in-Err.fault)) same volumes c.in-Err.ensures.takes in
    cleaned_whole x place disk c.requires.fit ordered c.requires.current c.requires.listed c.requires.disk c.requires.other c.requires.admitted (bay_in q) (arrays_in (arrays_of q)) (refused_in (arrays_of q)) now cleaned_mean carries_mean y (Err c.in-Err.fault)
    (sym c.lacks_other.ensures ∙ c.if-lacks_other.false) (λ same. inr (sym c.has_drive-in-Err.ensures ∙ c.if-has_drive.true)) by

pub fill_alone-requires-clause-fit : goal.fill_alone-requires-clause-fit
fill_alone-requires-clause-fit g c = c.in-Err.ensures.takes.takes.continues.proceeds.fit

pub fill_alone-requires-clause-listed : goal.fill_alone-requires-clause-listed
fill_alone-requires-clause-listed g c =
    let seen = g.R.Rack.seen in
    let shelf = g.R.Bay.shelf in
    let p = c.args.self.now in
    let q = c.clean.new.self in
    let x = view seen shelf p in
    let m = view seen shelf q in
    let place = c.args.place in
    let disk = c.args.disk in
    let ordered = (slices_in (arrays_of p)).orderly in
    let cleaned = c.clean.ensures.cleaned in
    let carries = c.clean.ensures.carries in
    let now : IsBay m.bay m.shelf = record { fit = g.met.R.Bay.always_fit (bay_in q); lasting = g.met.R.Bay.lasting (bay_in q); unspent = g.met.R.Bay.unspent (bay_in q); small = g.met.R.Bay.bounded (bay_in q); numbered = g.met.R.Bay.numbered (bay_in q) } in
    let ready = ready_clean x m place disk now c.requires.current cleaned carries in
    let n = view seen shelf c.exchange.new.self in
    let after = ready_lost x m place disk 288 c.requires.fit ordered c.requires.current c.requires.listed c.requires.disk (free x place disk c.requires.fit ordered c.requires.current c.requires.listed c.requires.disk c.requires.other c.requires.admitted) c.requires.admitted ready n c.in-Err.fault (sym c.has_drive.ensures ∙ c.if-not-has_drive.false) c.in-Err.ensures.takes (lost_out m n place disk c.in-Err.fault (sym c.has_drive.ensures ∙ c.if-not-has_drive.false) c.in-Err.ensures.takes (sym c.has_drive-in-Err.ensures ∙ c.if-has_drive.false)) in
    next_listed x place disk c.requires.fit ordered c.requires.current c.requires.listed c.requires.disk c.requires.other c.requires.admitted n 306 after

pub fill_alone-requires-clause-disk : goal.fill_alone-requires-clause-disk
fill_alone-requires-clause-disk g c =
    let seen = g.R.Rack.seen in
    let shelf = g.R.Bay.shelf in
    let p = c.args.self.now in
    let q = c.clean.new.self in
    let x = view seen shelf p in
    let m = view seen shelf q in
    let place = c.args.place in
    let disk = c.args.disk in
    let ordered = (slices_in (arrays_of p)).orderly in
    let cleaned = c.clean.ensures.cleaned in
    let carries = c.clean.ensures.carries in
    let now : IsBay m.bay m.shelf = record { fit = g.met.R.Bay.always_fit (bay_in q); lasting = g.met.R.Bay.lasting (bay_in q); unspent = g.met.R.Bay.unspent (bay_in q); small = g.met.R.Bay.bounded (bay_in q); numbered = g.met.R.Bay.numbered (bay_in q) } in
    let ready = ready_clean x m place disk now c.requires.current cleaned carries in
    let n = view seen shelf c.exchange.new.self in
    let after = ready_lost x m place disk 288 c.requires.fit ordered c.requires.current c.requires.listed c.requires.disk (free x place disk c.requires.fit ordered c.requires.current c.requires.listed c.requires.disk c.requires.other c.requires.admitted) c.requires.admitted ready n c.in-Err.fault (sym c.has_drive.ensures ∙ c.if-not-has_drive.false) c.in-Err.ensures.takes (lost_out m n place disk c.in-Err.fault (sym c.has_drive.ensures ∙ c.if-not-has_drive.false) c.in-Err.ensures.takes (sym c.has_drive-in-Err.ensures ∙ c.if-has_drive.false)) in
    next_disk x place disk c.requires.fit ordered c.requires.current c.requires.listed c.requires.disk c.requires.other c.requires.admitted n 306 after

pub fill_alone-requires-clause-other : goal.fill_alone-requires-clause-other
fill_alone-requires-clause-other g c =
    let seen = g.R.Rack.seen in
    let shelf = g.R.Bay.shelf in
    let p = c.args.self.now in
    let q = c.clean.new.self in
    let x = view seen shelf p in
    let m = view seen shelf q in
    let place = c.args.place in
    let disk = c.args.disk in
    let ordered = (slices_in (arrays_of p)).orderly in
    let cleaned = c.clean.ensures.cleaned in
    let carries = c.clean.ensures.carries in
    let now : IsBay m.bay m.shelf = record { fit = g.met.R.Bay.always_fit (bay_in q); lasting = g.met.R.Bay.lasting (bay_in q); unspent = g.met.R.Bay.unspent (bay_in q); small = g.met.R.Bay.bounded (bay_in q); numbered = g.met.R.Bay.numbered (bay_in q) } in
    let ready = ready_clean x m place disk now c.requires.current cleaned carries in
    let n = view seen shelf c.exchange.new.self in
    let after = ready_lost x m place disk 288 c.requires.fit ordered c.requires.current c.requires.listed c.requires.disk (free x place disk c.requires.fit ordered c.requires.current c.requires.listed c.requires.disk c.requires.other c.requires.admitted) c.requires.admitted ready n c.in-Err.fault (sym c.has_drive.ensures ∙ c.if-not-has_drive.false) c.in-Err.ensures.takes (lost_out m n place disk c.in-Err.fault (sym c.has_drive.ensures ∙ c.if-not-has_drive.false) c.in-Err.ensures.takes (sym c.has_drive-in-Err.ensures ∙ c.if-has_drive.false)) in
    next_other x place disk c.requires.fit ordered c.requires.current c.requires.listed c.requires.disk c.requires.other c.requires.admitted n 306 after

pub fill_alone-requires-clause-alone : goal.fill_alone-requires-clause-alone
fill_alone-requires-clause-alone g c none =
    let seen = g.R.Rack.seen in
    let shelf = g.R.Bay.shelf in
    let p = c.args.self.now in
    let q = c.clean.new.self in
    let x = view seen shelf p in
    let m = view seen shelf q in
    let place = c.args.place in
    let disk = c.args.disk in
    let ordered = (slices_in (arrays_of p)).orderly in
    let cleaned = c.clean.ensures.cleaned in
    let carries = c.clean.ensures.carries in
    let now : IsBay m.bay m.shelf = record { fit = g.met.R.Bay.always_fit (bay_in q); lasting = g.met.R.Bay.lasting (bay_in q); unspent = g.met.R.Bay.unspent (bay_in q); small = g.met.R.Bay.bounded (bay_in q); numbered = g.met.R.Bay.numbered (bay_in q) } in
    let ready = ready_clean x m place disk now c.requires.current cleaned carries in
    let n = view seen shelf c.exchange.new.self in
    let after = ready_lost x m place disk 288 c.requires.fit ordered c.requires.current c.requires.listed c.requires.disk (free x place disk c.requires.fit ordered c.requires.current c.requires.listed c.requires.disk c.requires.other c.requires.admitted) c.requires.admitted ready n c.in-Err.fault (sym c.has_drive.ensures ∙ c.if-not-has_drive.false) c.in-Err.ensures.takes (lost_out m n place disk c.in-Err.fault (sym c.has_drive.ensures ∙ c.if-not-has_drive.false) c.in-Err.ensures.takes (sym c.has_drive-in-Err.ensures ∙ c.if-has_drive.false)) in
    ((sym c.has_drive-in-Err.ensures ∙ c.if-has_drive.false), next_admitted x place disk c.requires.fit ordered c.requires.current c.requires.listed c.requires.disk c.requires.other c.requires.admitted n 306 after none)

pub returns-else-has_drive-clause-replaces : goal.returns-else-has_drive-clause-replaces
returns-else-has_drive-clause-replaces g c =
    let seen = g.R.Rack.seen in
    let shelf = g.R.Bay.shelf in
    let p = c.args.self.now in
    let q = c.clean.new.self in
    let x = view seen shelf p in
    let m = view seen shelf q in
    let place = c.args.place in
    let disk = c.args.disk in
    let ordered = (slices_in (arrays_of p)).orderly in
    let cleaned = c.clean.ensures.cleaned in
    let carries = c.clean.ensures.carries in
    let now : IsBay m.bay m.shelf = record { fit = g.met.R.Bay.always_fit (bay_in q); lasting = g.met.R.Bay.lasting (bay_in q); unspent = g.met.R.Bay.unspent (bay_in q); small = g.met.R.Bay.bounded (bay_in q); numbered = g.met.R.Bay.numbered (bay_in q) } in
    let ready = ready_clean x m place disk now c.requires.current cleaned carries in
    let same = cleaned.ends.passes.slices in
    let volumes = cleaned.ends.passes.linear in
    let cleaned_mean = to_mean seen shelf p q (λ k. Cleaned x k) same volumes cleaned in
    let carries_mean = to_mean seen shelf p q (λ k. Carries x k) same volumes carries in
    let n = view seen shelf c.exchange.new.self in
    let r = c.exchange.new.self in
    let y = view seen shelf c.fill_alone.new.self in
    let by = to_mean seen shelf p q (λ k. TakesBy k n place disk (Err c.in-Err.fault)) same volumes c.in-Err.ensures.takes in
    let after = ready_lost x m place disk 288 c.requires.fit ordered c.requires.current c.requires.listed c.requires.disk (free x place disk c.requires.fit ordered c.requires.current c.requires.listed c.requires.disk c.requires.other c.requires.admitted) c.requires.admitted ready n c.in-Err.fault (sym c.has_drive.ensures ∙ c.if-not-has_drive.false) c.in-Err.ensures.takes (lost_out m n place disk c.in-Err.fault (sym c.has_drive.ensures ∙ c.if-not-has_drive.false) c.in-Err.ensures.takes (sym c.has_drive-in-Err.ensures ∙ c.if-has_drive.false)) in
    elim (cases_Bool (has_other_missing (book n).state place)) [
      | inl lacks ↦
          let kept = c.fill_alone.ensures.kept lacks in
          subst (λ e. ReplacesBy x y place disk e) (sym kept.0)
          (subst (λ k. ReplacesBy x (view seen shelf k) place disk (Err NotWhole)) (sym kept.1)
          (lost_short x place disk c.requires.fit ordered c.requires.current c.requires.listed c.requires.disk c.requires.other c.requires.admitted (bay_in q) (arrays_in (arrays_of q)) (refused_in (arrays_of q)) now cleaned_mean carries_mean (sym c.has_drive.ensures ∙ c.if-not-has_drive.false) (sym c.lacks_other.ensures ∙ c.if-lacks_other.false) n c.in-Err.fault by (sym c.has_drive-in-Err.ensures ∙ c.if-has_drive.false) lacks))
      | inr none ↦
          let first = to_mean seen shelf p r (λ k. TakesBy (meanwhile x (bay_in q) (arrays_in (arrays_of q)) (refused_in (arrays_of q))) k place disk (Err c.in-Err.fault)) after.slices
          after.continues.linear by in
          lost_whole x place disk c.requires.fit ordered c.requires.current c.requires.listed c.requires.disk c.requires.other c.requires.admitted (bay_in q) (arrays_in (arrays_of q)) (refused_in (arrays_of q)) now cleaned_mean carries_mean (sym c.has_drive.ensures ∙ c.if-not-has_drive.false) (sym c.lacks_other.ensures ∙ c.if-lacks_other.false) (bay_in r) (arrays_in (arrays_of r)) (refused_in (arrays_of r)) c.in-Err.fault first (sym c.has_drive-in-Err.ensures ∙ c.if-has_drive.false) none y c.fill_alone.result
          (to_mean seen shelf p r (λ k. TakesBy k y place disk c.fill_alone.result) after.slices after.continues.linear (c.fill_alone.ensures.takes none))
    ]

pub returns-then-not-has_drive-clause-runs : goal.returns-then-not-has_drive-clause-runs
returns-then-not-has_drive-clause-runs g c = g.met.R.Rack.runs_then _ _ _ c.clean.ensures.runs c.fill.ensures.runs

pub returns-in-Ok-clause-runs : goal.returns-in-Ok-clause-runs
returns-in-Ok-clause-runs g c = g.met.R.Rack.runs_then _ _ _ c.clean.ensures.runs c.exchange.ensures.runs

pub returns-then-has_drive-clause-runs : goal.returns-then-has_drive-clause-runs
returns-then-has_drive-clause-runs g c = g.met.R.Rack.runs_then _ _ _ c.clean.ensures.runs c.exchange.ensures.runs

pub returns-else-has_drive-clause-runs : goal.returns-else-has_drive-clause-runs
returns-else-has_drive-clause-runs g c =
    g.met.R.Rack.runs_then _ _ _ (g.met.R.Rack.runs_then _ _ _ c.clean.ensures.runs c.exchange.ensures.runs) c.fill_alone.ensures.runs
