-- A gate's sector reads back.
use Rattle.std.proofs.Common.{◌≡◌, ℕ, ◌<◌, ◌^◌, Bool, true, false, ◌==◌, bytes_eq, if◌then◌else◌, List, [], ◌∷◌, length, replicate, codes, Some, None, refl, sym, ap, ◌∙◌, arith, eq-eqb, lit<}
use Rattle.std.proofs.lemmas.Bool.{and_from, cond-true, cond-false}
use Rattle.byteorder.specs.Endian.{little_bytes}
use Rattle.shr_base.specs.Blocks.{bytes_at, number_at, put_at, put_all, Write}
use Rattle.shr_base.specs.Crc.{crc32_of}
use Rattle.shr_base.proofs.Blocks.{is_apart, AreWide, bytes_at-put_all, bytes_at-field, number_at-field, length-put_all, put_at-put_at}
use Rattle.array_image.specs.Record.{gate_of}
use Rattle.log_laws.specs.Bytes.{is_gate}
use Rattle.log_laws.proofs.Records.{sum_field, number_same}

-- whether a flag is raised
abbrev pub flag_of : Bool → ℕ
flag_of raised = if raised then 1 else 0

abbrev pub gate_fields : ℕ → ℕ → List Write
gate_fields flag number =
    record { offset = 0; width = 8; bytes = codes "SHRGATE1" }
    ∷ record { offset = 8; width = 4; bytes = little_bytes 4 0 }
    ∷ record { offset = 12; width = 4; bytes = little_bytes 4 flag }
    ∷ record { offset = 16; width = 8; bytes = little_bytes 8 number }
    ∷ []

pub gate_reads : (bytes : List ℕ) (flag number sum : ℕ) → length bytes ≡ 512 → number < 2 ^ 64 → flag < 2 ^ 32 → sum < 2 ^ 32
    → sum ≡ crc32_of (put_all (gate_fields flag number) bytes)
    → gate_of (put_all (sum_field sum) (put_all (gate_fields flag number) bytes)) ≡ Some (record { is_open = flag == 1; number = number })
unfolding gate_of
gate_reads bytes flag number sum long fits small short is =
    let fields : List Write = gate_fields flag number in
    let wide : AreWide fields = (refl, (refl, (refl, (refl, tt)))) in
    let block : List ℕ = put_all fields bytes in
    let last : List ℕ = put_all (sum_field sum) block in
    let long_block : length block ≡ 512 = length-put_all 512 fields bytes long refl wide in
    let kept : (at size : ℕ) → is_apart at size (sum_field sum) ≡ true → bytes_at at size last ≡ bytes_at at size block =
    λ at size apart. bytes_at-put_all 512 at size (sum_field sum) block long_block apart refl (refl, tt) in
    let word : bytes_at 0 8 last ≡ codes "SHRGATE1" = kept 0 8 refl ∙ bytes_at-field 0 512 fields bytes long refl wide in
    let zeros : bytes_at 8 4 block ≡ replicate 4 0 = bytes_at-field 1 512 fields bytes long refl wide in
    let plain : put_at 8 4 (replicate 4 0) last ≡ block = put_at-put_at 8 4 (little_bytes 4 sum) (replicate 4 0) block (omega arith) refl zeros in
    let summed : number_at 8 4 last ≡ crc32_of (put_at 8 4 (replicate 4 0) last) =
    number_at-field 0 512 sum (sum_field sum) block long_block refl (refl, tt) refl short ∙ is ∙ ap crc32_of (sym plain) in
    let flag_is : number_at 12 4 last ≡ flag = number_same 12 4 last block (kept 12 4 refl) ∙ number_at-field 2 512 flag fields bytes long refl wide refl small in
    let number_is : number_at 16 8 last ≡ number = number_same 16 8 last block (kept 16 8 refl) ∙ number_at-field 3 512 number fields bytes long refl wide refl fits in
    cond-true _ (Some (record { is_open = number_at 12 4 last == 1; number = number_at 16 8 last })) None
    (and_from _ _ (ap (λ (xs : List ℕ). bytes_eq xs (codes "SHRGATE1")) word) (eq-eqb _ _ summed))
    ∙ (λ i. Some (record { is_open = flag_is i == 1; number = number_is i }))

-- a gate by its tests
pub gate_there : (block : List ℕ) → is_gate block ≡ true → gate_of block ≡ Some (record { is_open = number_at 12 4 block == 1; number = number_at 16 8 block })
unfolding gate_of
gate_there block is = cond-true _ (Some (record { is_open = number_at 12 4 block == 1; number = number_at 16 8 block })) None is

pub no_gate : (block : List ℕ) → is_gate block ≡ false → gate_of block ≡ None
unfolding gate_of
no_gate block is = cond-false _ (Some (record { is_open = number_at 12 4 block == 1; number = number_at 16 8 block })) None is

-- a flag tells whether it is raised
pub flag_says : (b : Bool) → (flag_of b == 1) ≡ b
flag_says true = refl
flag_says false = refl

pub flag_small : (b : Bool) → flag_of b < 2 ^ 32
flag_small true = lit< tt
flag_small false = lit< tt
