-- What holds of a result, from what held of it.
use Rattle.std.proofs.Common.{Result, Ok, Err}
use Rattle.std.specs.Prelude.{IfOk, IfErr, OnErr}

pub if_ok : {X E : Type 0} {P Q : X → Type 0} (r : Result X E) → ((x : X) → P x → Q x) → IfOk r P → IfOk r Q
if_ok (Ok x) says holds = says x holds
if_ok (Err e) says holds = tt

pub if_err : {X E : Type 0} {P Q : E → Type 0} (r : Result X E) → ((e : E) → P e → Q e) → IfErr r P → IfErr r Q
if_err (Ok x) says holds = tt
if_err (Err e) says holds = says e holds

pub on_err : {X E : Type 0} {P : E → Type 0} {Q : Type 0} (r : Result X E) → ((e : E) → P e → Q) → IfErr r P → OnErr r Q
on_err (Ok x) says holds = tt
on_err (Err e) says holds = says e holds
