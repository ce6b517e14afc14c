use Rattle.std.proofs.Common.{◌≡◌, ℕ, ◌+◌, ◌*◌, ◌<◌, List, [], ◌∷◌, ap, subst, ◌∙◌, inl, inr, arith}
use Rattle.std.proofs.lemmas.Bool.{cases_lt}
use Rattle.lvm_label.specs.Header.{IsLocation, header_bytes}
use Rattle.rack.specs.Targets.{target}
use Rattle.lvm_group.specs.declared.starts.TextStart.{TextStart}
use Rattle.lvm_group.specs.Writing.{header_target, own_header, own_location, start_at}
use Rattle.lvm_group.proofs.Calls.{several_join, several_same}
use Rattle.lvm_group.proofs.Putting.{puts_start, puts_more, puts_refused, puts_all}
use Rattle.lvm_group.proofs.writing.put_headers.Goals as goal

-- the header that is written is the array's
is_target : (starts : List TextStart) (text bytes : List ℕ) (array : ℕ) (start : TextStart) → start ≡ start_at starts array → bytes ≡ header_bytes (own_header (own_location (512 * start.sector) text ∷ []))
    → (target array 8 bytes ∷ []) ≡ header_target starts text array
is_target starts text bytes array start start_is is =
    ap (λ (bytes : List ℕ). target array 8 bytes ∷ []) (is ∙ ap (λ (start : TextStart). header_bytes (own_header (own_location (512 * start.sector) text ∷ []))) start_is)

one_location : (starts : List TextStart) (text : List ℕ) (n array : ℕ) (start : TextStart) → start ≡ start_at starts n → ((k : ℕ) → k < n → IsLocation (own_location (512 * (start_at starts k).sector) text))
    → IsLocation (own_location (512 * start.sector) text) → array < n + 1 → IsLocation (own_location (512 * (start_at starts array).sector) text)
one_location starts text n array start start_is before here below = elim (cases_lt array n) [
  | inl less ↦ before array less
  | inr last ↦
      let same : n ≡ array = omega arith in
      subst (λ k. IsLocation (own_location (512 * (start_at starts k).sector) text)) same (subst (λ (start : TextStart). IsLocation (own_location (512 * start.sector) text)) start_is here)
]

pub loop-array-init : goal.loop-array-init
loop-array-init g c = record {
  puts = puts_start (g.R.Rack.seen c.args.rack.now) (header_target c.args.starts.now c.args.text.now) c.requires.fit;
  locations = λ array below. absurd (omega arith);
  several = several_same g.R.Rack.once 0 c.args.rack.now;
  runs = g.met.R.Rack.runs_same c.args.rack.now;
}

pub returns-in-Err-clause-puts : goal.returns-in-Err-clause-puts
returns-in-Err-clause-puts g c =
    puts_refused (header_target c.args.starts.now c.args.text.now) (target c.loop-array.array 8 c.text_header-header.result ∷ []) c.loop-array.array c.args.arrays c.in-Err.gone c.loop-array-test.true
    (is_target c.args.starts.now c.args.text.now c.text_header-header.result c.loop-array.array c.start_at-start.result c.start_at-start.ensures c.text_header-header.ensures.bytes) c.loop-array.invariant.puts c.in-Err.ensures.puts

pub loop-array-preserved : goal.loop-array-preserved
loop-array-preserved g c = record {
  puts = puts_more (header_target c.args.starts.now c.args.text.now) (target c.loop-array.array 8 c.text_header-header.result ∷ []) c.loop-array.array (c.loop-array.array + 1) (omega arith)
      (is_target c.args.starts.now c.args.text.now c.text_header-header.result c.loop-array.array c.start_at-start.result c.start_at-start.ensures c.text_header-header.ensures.bytes) c.loop-array.invariant.puts
      c.in_default.ensures.puts;
  locations = λ array below. one_location c.args.starts.now c.args.text.now c.loop-array.array array c.start_at-start.result c.start_at-start.ensures c.loop-array.invariant.locations c.text_header-header.ensures.is_location below;
  several = several_join g.R.Rack.once c.loop-array.array 1 (c.loop-array.array + 1) _ _ _ (omega arith) c.loop-array.invariant.several c.in_default.ensures.several;
  runs = g.met.R.Rack.runs_then _ _ _ c.loop-array.invariant.runs c.in_default.ensures.runs;
}

pub returns-clause-puts : goal.returns-clause-puts
returns-clause-puts g c = puts_all (header_target c.args.starts.now c.args.text.now) c.loop-array.array c.args.arrays (let b = c.loop-array-test.false in omega arith) c.loop-array.invariant.puts

pub returns-in-Err-clause-several : goal.returns-in-Err-clause-several
returns-in-Err-clause-several g c =
    let test = c.loop-array-test.true in
    several_join g.R.Rack.once c.loop-array.array 1 c.args.arrays _ _ _ (omega arith) c.loop-array.invariant.several c.in-Err.ensures.several
