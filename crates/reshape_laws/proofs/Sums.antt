-- XOR of a row whose parity is put in its place. These stand in array_sync (proofs/Agreeing, Summing): the crate takes them from there.
use Rattle.std.proofs.Common.{◌≡◌, ◌⊎◌, ℕ, zero, suc, ◌+◌, ◌<◌, ◌≤◌, List, [], ◌∷◌, ◌++◌, map, length, refl, sym, ap, ap₂, ◌∙◌, inl, inr, append-nil, arith}
use Rattle.std.proofs.lemmas.Bool.{cases_eq}
use Rattle.std.specs.List.{range_with_len}
use Rattle.parity.specs.Xor.{xor, xor_all, zeros}
use Rattle.parity.proofs.Laws.{xor_is_a_group, parity_restores}
use Rattle.array_image.proofs.Losing.{map_join}
use Rattle.array_model.proofs.Filled.{long_zeros, xor_zeros}
use Rattle.array_model.proofs.ParityRow.{long_xor}

range_more : (k : ℕ) → range_with_len 0 (k + 1) ≡ range_with_len 0 k ++ k ∷ []
range_more k = more 0 k ∙ ap (λ (j : ℕ). range_with_len 0 k ++ j ∷ []) (zero_more k)
  where
    zero_more : (k : ℕ) → 0 + k ≡ k
    zero_more k = omega arith

    one_more : (k : ℕ) → k + 1 ≡ suc k
    one_more k = omega arith

    more : (a k : ℕ) → range_with_len a (k + 1) ≡ range_with_len a k ++ (a + k) ∷ []
    more a zero = ap (λ (j : ℕ). j ∷ []) (omega arith)
    more a (suc k) =
        ap (range_with_len a) (one_more (suc k)) ∙ ap (λ xs. a ∷ xs) (ap (range_with_len (a + 1)) (sym (one_more k)) ∙ more (a + 1) k ∙ ap (λ (j : ℕ). range_with_len (a + 1) k ++ j ∷ []) (omega arith))

pub total_more : (f : ℕ → List ℕ) (k : ℕ) → xor_all 512 (map f (range_with_len 0 (k + 1))) ≡ xor (xor_all 512 (map f (range_with_len 0 k))) (f k)
total_more f k =
    let vs : List (List ℕ) = map f (range_with_len 0 k) in
    ap (λ js. xor_all 512 (map f js)) (range_more k)
    ∙ ap (xor_all 512) (map_join f (range_with_len 0 k) (k ∷ []))
    ∙ parity_restores.any_order 512 vs (f k) []
    ∙ ap (λ ws. xor (f k) (xor_all 512 ws)) (append-nil vs)
    ∙ xor_is_a_group.commutes (f k) (xor_all 512 vs)

pub total_none : (f : ℕ → List ℕ) → xor_all 512 (map f (range_with_len 0 0)) ≡ zeros 512
unfolding xor_all
total_none f = refl

to_suc : (f : ℕ → List ℕ) (k : ℕ) → xor_all 512 (map f (range_with_len 0 (suc k))) ≡ xor (xor_all 512 (map f (range_with_len 0 k))) (f k)
to_suc f k = ap (λ j. xor_all 512 (map f (range_with_len 0 j))) (let e : suc k ≡ k + 1 = omega arith in e) ∙ total_more f k

pub total_long : (f : ℕ → List ℕ) (k : ℕ) → ((j : ℕ) → j < k → length (f j) ≡ 512) → length (xor_all 512 (map f (range_with_len 0 k))) ≡ 512
total_long f zero long = ap length (total_none f) ∙ long_zeros
total_long f (suc k) long = ap length (to_suc f k) ∙ long_xor _ (f k) (total_long f k (λ j low. long j (omega (arith, low)))) (long k (omega arith))

one_put : (f h : ℕ → List ℕ) (q k : ℕ) → ((j : ℕ) → j < k → length (f j) ≡ 512) → f q ≡ zeros 512 → ((j : ℕ) → j < k → (j ≡ q → ⊥) → h j ≡ f j)
    → ((k ≤ q) × (xor_all 512 (map h (range_with_len 0 k)) ≡ xor_all 512 (map f (range_with_len 0 k))))
    ⊎ ((q < k) × (xor_all 512 (map h (range_with_len 0 k)) ≡ xor (xor_all 512 (map f (range_with_len 0 k))) (h q)))
one_put f h q zero long blank same = inl (omega arith, total_none h ∙ sym (total_none f))
one_put f h q (suc k) long blank same =
    let before : (j : ℕ) → j < k → length (f j) ≡ 512 = λ j low. long j (omega (arith, low)) in
    let sum : List ℕ = xor_all 512 (map f (range_with_len 0 k)) in
    let wide : length sum ≡ 512 = total_long f k before in
    elim (one_put f h q k before blank (λ j low other. same j (omega (arith, low)) other)) [
      | inr past ↦
          let later = past.0 in
          inr (
            omega (arith, later),
            to_suc h k ∙ ap₂ xor past.1 (same k (omega arith) (λ is. omega (arith, is, later)))
                ∙ xor_is_a_group.associates sum (h q) (f k) ∙ ap (xor sum) (xor_is_a_group.commutes (h q) (f k)) ∙ sym (xor_is_a_group.associates sum (f k) (h q))
                ∙ ap (λ u. xor u (h q)) (sym (to_suc f k)),
          )
      | inl early ↦ elim (cases_eq k q) [
        | inl is ↦ inr (
          omega (arith, is),
          to_suc h k ∙ ap₂ xor early.1 (ap h is) ∙ ap (λ u. xor u (h q)) (sym (xor_zeros sum wide) ∙ ap (xor sum) (sym (ap f is ∙ blank)) ∙ sym (to_suc f k)),
        )
        | inr other ↦
            let least = early.0 in
            inl (omega (arith, least, other), to_suc h k ∙ ap₂ xor early.1 (same k (omega arith) other) ∙ sym (to_suc f k))
      ]
    ]

-- the sum in its place makes zeros of the row
pub sum_put : (f h : ℕ → List ℕ) (q k : ℕ) → q < k → ((j : ℕ) → j < k → length (f j) ≡ 512) → f q ≡ zeros 512 → ((j : ℕ) → j < k → (j ≡ q → ⊥) → h j ≡ f j)
    → h q ≡ xor_all 512 (map f (range_with_len 0 k))
    → xor_all 512 (map h (range_with_len 0 k)) ≡ zeros 512
sum_put f h q k low long blank same is =
    elim (one_put f h q k long blank same) [
      | inl early ↦ absurd (let least = early.0 in omega (arith, least, low))
      | inr past ↦
          past.1 ∙ ap (xor (xor_all 512 (map f (range_with_len 0 k)))) is
          ∙ xor_is_a_group.own_inverse (xor_all 512 (map f (range_with_len 0 k))) ∙ ap zeros (total_long f k long)
    ]
