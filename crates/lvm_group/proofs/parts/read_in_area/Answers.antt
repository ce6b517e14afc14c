use Rattle.std.proofs.Common.{◌∙◌, sym, arith}
use Rattle.rack.proofs.Calling.{several_fewer}
use Rattle.lvm_group.proofs.Calls.{several_join, several_same}
use Rattle.lvm_group.proofs.Looking.{now_later}
use Rattle.lvm_group.proofs.AreaRead.{no_area, odd_area, no_header_there, no_location, area_group}
use Rattle.lvm_group.proofs.parts.read_in_area.Goals as goal

pub returns-in_default-clause-found : goal.returns-in_default-clause-found
returns-in_default-clause-found g c now is =
    no_area (g.R.Rack.seen c.args.rack.now) (g.R.Rack.seen c.args.rack.now) c.args.array now c.args.area c.in_default.is

pub returns-then-area-ne0-clause-found : goal.returns-then-area-ne0-clause-found
returns-then-area-ne0-clause-found g c now is =
    odd_area (g.R.Rack.seen c.args.rack.now) (g.R.Rack.seen c.args.rack.now) c.args.array now c.args.area c.in-Some.area c.in-Some.is c.if-area-ne0.true

pub returns-in_default-read_header-clause-found : goal.returns-in_default-read_header-clause-found
returns-in_default-read_header-clause-found g c now is =
    let read = c.read_header.ensures.value now is in
    no_header_there c.args.array now read.0 c.args.area c.in-Some.area c.in-Some.is c.if-area-ne0.false read.1 (sym c.in_default-read_header.is ∙ read.2)

pub returns-in_default-location-clause-found : goal.returns-in_default-location-clause-found
returns-in_default-location-clause-found g c now is =
    let read = c.read_header.ensures.value now is in
    no_location c.args.array now read.0 c.args.area c.in-Some.area c.in-Some-read_header.header c.in-Some.is c.if-area-ne0.false read.1
    (sym c.in-Some-read_header.is ∙ read.2) (sym c.location_in-location.ensures ∙ c.in_default-location.is)

pub returns-clause-found : goal.returns-clause-found
returns-clause-found g c now is =
    let read = c.read_header.ensures.value now is in
    let looks = c.read_header.ensures.looks in
    let group = c.in_ok-found.ensures.group now (now_later c.args.array now c.requires.array looks is) in
    area_group c.args.array now read.0 group.0 c.args.area c.in-Some.area c.in-Some-read_header.header c.in-Some-location.location c.in_ok-found.field-0
    c.in-Some.is c.if-area-ne0.false looks c.in_ok-found.ensures.looks c.requires.fit read.1 group.1
    (sym c.in-Some-read_header.is ∙ read.2) (sym c.location_in-location.ensures ∙ c.in-Some-location.is) group.2

pub returns-in_default-clause-several : goal.returns-in_default-clause-several
returns-in_default-clause-several g c =
    several_same g.R.Rack.once 517 _

pub returns-then-area-ne0-clause-several : goal.returns-then-area-ne0-clause-several
returns-then-area-ne0-clause-several g c =
    several_same g.R.Rack.once 517 _

pub returns-in_default-read_header-clause-several : goal.returns-in_default-read_header-clause-several
returns-in_default-read_header-clause-several g c =
    several_fewer g.R.Rack.once 1 517 _ _ (omega arith) c.read_header.ensures.several

pub returns-in_default-location-clause-several : goal.returns-in_default-location-clause-several
returns-in_default-location-clause-several g c =
    several_fewer g.R.Rack.once 1 517 _ _ (omega arith) c.read_header.ensures.several

pub returns-in_err-found-clause-several : goal.returns-in_err-found-clause-several
returns-in_err-found-clause-several g c =
    several_join g.R.Rack.once 1 516 517 _ _ _ (omega arith) c.read_header.ensures.several c.in_err-found.ensures.several

pub returns-clause-several : goal.returns-clause-several
returns-clause-several g c =
    several_join g.R.Rack.once 1 516 517 _ _ _ (omega arith) c.read_header.ensures.several c.in_ok-found.ensures.several
