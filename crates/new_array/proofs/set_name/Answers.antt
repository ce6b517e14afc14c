use Rattle.std.proofs.Common.{◌≡◌, sym, ap, arith}
use Rattle.std.specs.Fmt.{digits}
use Rattle.new_array.specs.Supers.{set_name}
use Rattle.new_array.proofs.set_name.Goals as goal

pub returns-in-0 : goal.returns-in-0
unfolding digits
returns-in-0 c = sym (ap set_name c.in-0.is)

pub returns-in-1 : goal.returns-in-1
unfolding digits
returns-in-1 c = sym (ap set_name c.in-1.is)

pub returns-in-2 : goal.returns-in-2
unfolding digits
returns-in-2 c = sym (ap set_name c.in-2.is)

pub returns-in-3 : goal.returns-in-3
unfolding digits
returns-in-3 c = sym (ap set_name c.in-3.is)

pub returns-in-4 : goal.returns-in-4
unfolding digits
returns-in-4 c = sym (ap set_name c.in-4.is)

pub returns-in-5 : goal.returns-in-5
unfolding digits
returns-in-5 c = sym (ap set_name c.in-5.is)

pub returns-in-6 : goal.returns-in-6
unfolding digits
returns-in-6 c = sym (ap set_name c.in-6.is)

pub returns-in-7 : goal.returns-in-7
unfolding digits
returns-in-7 c = sym (ap set_name c.in-7.is)

pub returns-in-8 : goal.returns-in-8
unfolding digits
returns-in-8 c = sym (ap set_name c.in-8.is)

pub returns-in-9 : goal.returns-in-9
unfolding digits
returns-in-9 c = sym (ap set_name c.in-9.is)

pub returns-in-10 : goal.returns-in-10
unfolding digits
returns-in-10 c = sym (ap set_name c.in-10.is)

pub returns-in-11 : goal.returns-in-11
unfolding digits
returns-in-11 c = sym (ap set_name c.in-11.is)

pub returns-in-12 : goal.returns-in-12
unfolding digits
returns-in-12 c = sym (ap set_name c.in-12.is)

pub returns-in-13 : goal.returns-in-13
unfolding digits
returns-in-13 c = sym (ap set_name c.in-13.is)

pub returns-in-14 : goal.returns-in-14
unfolding digits
returns-in-14 c = sym (ap set_name c.in-14.is)

pub returns-in_default : goal.returns-in_default
unfolding digits
returns-in_default c = let last : c.args.number ≡ 15 = omega (arith, c.requires, c.in_default) in sym (ap set_name last)
