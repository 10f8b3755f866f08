-- What was received without damage is decoded as it was sent: where the first symbol of each step is known,
-- and tells the newest bit from the state, the word follows step by step.
-- Assumes nothing.
use mathlib.Core.Path.{◌≡◌, refl, sym, ap, ap₂, ◌∙◌, subst}
use mathlib.Core.List.{List, [], ◌∷◌}
use Prim.Native.Nat.{ℕ, zero, suc, ◌+◌, ◌*◌, ◌/◌, ◌≤◌, ◌<◌}
use native.Mathlib.Nat.{mul-suc, mul-zero}
use native.Mathlib.Omega.{arith}
use lib.ListN.{length, drop, get_or, length-drop}
use lib.Seq.{get_or-drop}
use Rattle.base.specs.Bits.{Bits}
use Rattle.base.proofs.BitLaws.{bits_at}
use Rattle.trellis.specs.Nearest.{encode, distance, nearest, Candidate}
use Rattle.trellis.proofs.Encoding.{distance_split}
use Rattle.trellis.proofs.Winners.{sole_zero}

first_zero : {A : Type 0} (m : A → ℕ → ℕ) (r : List A) (y : List ℕ) (d : A) → 0 < length r → 0 < length y → distance m r y ≡ 0 → m (get_or r 0 d) (get_or y 0 0) ≡ 0
first_zero m [] y d h k e = absurd (omega arith)
first_zero m (r ∷ rs) [] d h k e = absurd (omega arith)
first_zero m (r ∷ rs) (y ∷ ys) d h k e = omega arith

module _ {A : Type 0} (m : A → ℕ → ℕ) (d : A) (Known : A → Type 0)
    (tells : (a : A) (y z : ℕ) → Known a → y < 2 → z < 2 → m a y ≡ 0 → m a z ≡ 0 → y ≡ z)
    (out : ℕ → List ℕ) (k : ℕ) (some : 0 < k) (wide : (x : ℕ) → length (out x) ≡ k) (plain : (x : ℕ) → Bits (out x))
    (leads : (s b c : ℕ) → s < 16 → b < 2 → c < 2 → get_or (out (16 * b + s)) 0 0 ≡ get_or (out (16 * c + s)) 0 0 → b ≡ c) where
  -- the first step of a word at distance 0, and the rest
  splits : (r : List A) (s b : ℕ) (w : List ℕ) → k ≤ length r → distance m r (encode out s (b ∷ w)) ≡ 0
      → (m (get_or r 0 d) (get_or (out (16 * b + s)) 0 0) ≡ 0) × (distance m (drop k r) (encode out (8 * b + s / 2) w) ≡ 0)
  splits r s b w h e =
      let x = 16 * b + s in
      let j = distance_split m r k (out x) (encode out (8 * b + s / 2) w) h (wide x) in
      (first_zero m r (out x) d (omega arith) (omega (arith, wide x)) (omega arith), omega arith)

  -- two words at distance 0 from the same state are one
  pub told_apart : (n s : ℕ) (w v : List ℕ) (r : List A) → s < 16 → length w ≡ n → length v ≡ n → Bits w → Bits v → k * n ≤ length r
      → ((i : ℕ) → i < n → Known (get_or r (k * i) d)) → distance m r (encode out s w) ≡ 0 → distance m r (encode out s v) ≡ 0 → w ≡ v
  told_apart zero s [] [] r hs ew ev bw bv h kn zw zv = refl
  told_apart zero s [] (c ∷ v) r hs ew ev bw bv h kn zw zv = absurd (omega arith)
  told_apart zero s (b ∷ w) v r hs ew ev bw bv h kn zw zv = absurd (omega arith)
  told_apart (suc n) s [] v r hs ew ev bw bv h kn zw zv = absurd (omega arith)
  told_apart (suc n) s (b ∷ w) [] r hs ew ev bw bv h kn zw zv = absurd (omega arith)
  told_apart (suc n) s (b ∷ w) (c ∷ v) r hs ew ev bw bv h kn zw zv =
      ap₂ (λ (x : ℕ) (l : List ℕ). x ∷ l) same
      (told_apart n (8 * b + s / 2) w v (drop k r) (omega (arith, bw.0)) (omega arith) (omega arith) bw.1 bv.1
      (omega (arith, length-drop k r, mul-suc k n))
      (λ i l. subst Known (ap (λ (j : ℕ). get_or r j d) (up i) ∙ sym (get_or-drop k r (k * i) d)) (kn (suc i) (omega arith)))
      sw.1 (ap (λ (x : ℕ). distance m (drop k r) (encode out (8 * x + s / 2) v)) same ∙ sv.1))
    where
      room : k ≤ length r
      room = omega (arith, mul-suc k n)

      sw : (m (get_or r 0 d) (get_or (out (16 * b + s)) 0 0) ≡ 0) × (distance m (drop k r) (encode out (8 * b + s / 2) w) ≡ 0)
      sw = splits r s b w room zw

      sv : (m (get_or r 0 d) (get_or (out (16 * c + s)) 0 0) ≡ 0) × (distance m (drop k r) (encode out (8 * c + s / 2) v) ≡ 0)
      sv = splits r s c v room zv

      same : b ≡ c
      same =
          leads s b c hs bw.0 bv.0
          (tells (get_or r 0 d) (get_or (out (16 * b + s)) 0 0) (get_or (out (16 * c + s)) 0 0)
          (subst Known (ap (λ (j : ℕ). get_or r j d) (mul-zero k)) (kn 0 (omega arith)))
          (bits_at (out (16 * b + s)) (plain (16 * b + s)) 0) (bits_at (out (16 * c + s)) (plain (16 * c + s)) 0) sw.0 sv.0)

      up : (i : ℕ) → k * suc i ≡ k + k * i
      up i = omega (arith, mul-suc k i)

  pub undamaged : (n : ℕ) (w : List ℕ) (r : List A) → Candidate n w → k * n ≤ length r → ((i : ℕ) → i < n → Known (get_or r (k * i) d))
      → distance m r (encode out 0 w) ≡ 0 → nearest (λ v. distance m r (encode out 0 v)) n ≡ w
  undamaged n w r c h kn z =
      sole_zero (λ v. distance m r (encode out 0 v)) n w c z
      (λ v e y. told_apart n 0 v w r (omega arith) e.len c.len e.bits c.bits h kn y z)
