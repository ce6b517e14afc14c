use Rattle.std.proofs.Common.{◌≡◌, ℕ, List, [], ◌∷◌, ◌++◌, Ok, Err, Result, ap, subst, ◌∙◌, arith}
use Rattle.lvm_label.specs.Label.{label_bytes}
use Rattle.rack.specs.declared.Gone.{Gone}
use Rattle.rack.specs.Seen.{RackView}
use Rattle.rack.specs.Targets.{target}
use Rattle.lvm_group.specs.declared.starts.TextStart.{TextStart}
use Rattle.lvm_group.specs.Writing.{Puts, blank_targets, label_targets, own_label, start_at, text_targets}
use Rattle.rack.proofs.Calling.{several_fewer}
use Rattle.lvm_group.proofs.Calls.{several_join}
use Rattle.lvm_group.proofs.Putting.{puts_cut, puts_then}
use Rattle.lvm_group.proofs.writing.put_first.Goals as goal

-- the label that is written is the array's
label_put : {a b : RackView} (pool label : List ℕ) (array sectors : ℕ) (result : Result (Unit {0}) Gone) → sectors ≡ a.sectors array → label ≡ label_bytes (own_label pool array sectors) → Puts a b (target array 1 label ∷ []) result
    → Puts a b (label_targets pool array (a.sectors array)) result
label_put {a} {b} pool label array sectors result number is puts =
    subst (λ (bytes : List ℕ). Puts a b (target array 1 bytes ∷ []) result) (is ∙ ap (λ n. label_bytes (own_label pool array n)) number) puts

blank_put : {a b : RackView} (array : ℕ) (start : TextStart) (starts : List TextStart) (result : Result (Unit {0}) Gone) → start ≡ start_at starts array → Puts a b (blank_targets array start.blank) result
    → Puts a b (blank_targets array (start_at starts array).blank) result
blank_put {a} {b} array start starts result is puts = subst (λ (start : TextStart). Puts a b (blank_targets array start.blank) result) is puts

text_put : {a b : RackView} (array : ℕ) (text : List ℕ) (start : TextStart) (starts : List TextStart) (result : Result (Unit {0}) Gone) → start ≡ start_at starts array → Puts a b (text_targets array start.sector text) result
    → Puts a b (text_targets array (start_at starts array).sector text) result
text_put {a} {b} array text start starts result is puts = subst (λ (start : TextStart). Puts a b (text_targets array start.sector text) result) is puts

pub returns-in-Err-clause-puts : goal.returns-in-Err-clause-puts
returns-in-Err-clause-puts g c =
    let label = label_targets c.args.pool.now.0 c.args.array ((g.R.Rack.seen c.args.rack.now).sectors c.args.array) in
    let blank = blank_targets c.args.array (start_at c.args.starts.now c.args.array).blank in
    puts_cut (label ++ blank) (text_targets c.args.array (start_at c.args.starts.now c.args.array).sector c.args.text.now) c.in-Err.gone
    (puts_cut label blank c.in-Err.gone
    (label_put c.args.pool.now.0 c.label_sector.result c.args.array c.sectors-sectors.result (Err c.in-Err.gone) c.sectors-sectors.ensures.number c.label_sector.ensures.bytes c.in-Err.ensures.puts))

pub returns-in-Err-put_blank-clause-puts : goal.returns-in-Err-put_blank-clause-puts
returns-in-Err-put_blank-clause-puts g c =
    let label = label_targets c.args.pool.now.0 c.args.array ((g.R.Rack.seen c.args.rack.now).sectors c.args.array) in
    let blank = blank_targets c.args.array (start_at c.args.starts.now c.args.array).blank in
    puts_cut (label ++ blank) (text_targets c.args.array (start_at c.args.starts.now c.args.array).sector c.args.text.now) c.in-Err-put_blank.gone
    (puts_then label blank (Err c.in-Err-put_blank.gone)
    (label_put c.args.pool.now.0 c.label_sector.result c.args.array c.sectors-sectors.result (Ok tt) c.sectors-sectors.ensures.number c.label_sector.ensures.bytes c.in_default.ensures.puts)
    (blank_put c.args.array c.start_at-start.result c.args.starts.now (Err c.in-Err-put_blank.gone) c.start_at-start.ensures c.in-Err-put_blank.ensures.puts))

pub returns-clause-puts : goal.returns-clause-puts
returns-clause-puts g c =
    let label = label_targets c.args.pool.now.0 c.args.array ((g.R.Rack.seen c.args.rack.now).sectors c.args.array) in
    let blank = blank_targets c.args.array (start_at c.args.starts.now c.args.array).blank in
    puts_then (label ++ blank) (text_targets c.args.array (start_at c.args.starts.now c.args.array).sector c.args.text.now) c.put_text.result
    (puts_then label blank (Ok tt)
    (label_put c.args.pool.now.0 c.label_sector.result c.args.array c.sectors-sectors.result (Ok tt) c.sectors-sectors.ensures.number c.label_sector.ensures.bytes c.in_default.ensures.puts)
    (blank_put c.args.array c.start_at-start.result c.args.starts.now (Ok tt) c.start_at-start.ensures c.in_default-put_blank.ensures.puts))
    (text_put c.args.array c.args.text.now c.start_at-start.result c.args.starts.now c.put_text.result c.start_at-start.ensures c.put_text.ensures.puts)

pub returns-in-Err-clause-several : goal.returns-in-Err-clause-several
returns-in-Err-clause-several g c =
    several_fewer g.R.Rack.once 1 514 _ _ (omega arith) c.in-Err.ensures.several

pub returns-in-Err-put_blank-clause-several : goal.returns-in-Err-put_blank-clause-several
returns-in-Err-put_blank-clause-several g c =
    several_join g.R.Rack.once 1 1 514 _ _ _ (omega arith) c.in_default.ensures.several c.in-Err-put_blank.ensures.several

pub returns-clause-several : goal.returns-clause-several
returns-clause-several g c =
    several_join g.R.Rack.once 2 512 514 _ _ _ (omega arith) (several_join g.R.Rack.once 1 1 2 _ _ _ (omega arith) c.in_default.ensures.several c.in_default-put_blank.ensures.several) c.put_text.ensures.several
