-- Where only 1 divides both, the one number has an inverse modulo the other: by Euclid's step.
-- Assumes nothing.
use mathlib.Core.Path.{◌≡◌, refl, sym, ap, subst, ◌∙◌}
use Prim.Native.Nat.{ℕ, zero, suc, ◌+◌, ◌*◌, ◌-◌, ◌/◌, ◌%◌, ◌∣◌, ◌≤◌, ◌<◌}
use native.Mathlib.Nat.{div-add-mod, mod-lt, mod-one, add-mul, mul-add, mul_assoc, one-mul, mul-one, add-mod_right, mul-add-mod_self_left, mod-eq_of_lt, dvd-mod_iff, dvd_of_mod-eq-zero, dvd_refl}
use native.Mathlib.Omega.{arith}

abbrev pub Coprime : ℕ → ℕ → Type 0
Coprime a k = (d : ℕ) → d ∣ a → d ∣ k → d ≡ 1

abbrev pub Inverse : ℕ → ℕ → Type 0
Inverse a k = (b : ℕ) × (a * b % k ≡ 1 % k)

-- an inverse of k modulo r, a's remainder by k, gives one of a modulo k = m + 1
back : (a k m r c e : ℕ) → k ≡ m + 1 → r ≡ a % k → k * c ≡ r * e + 1 → a * (e * m) % k ≡ 1 % k
back a k m r c e hk hr hc =
    let b = e * m in
    let q = a / k in
    let x = q * b + c * m in
    let h0 : k * q + r ≡ a = omega (arith, div-add-mod a k) in
    let h1 : a * b ≡ k * (q * b) + r * e * m =
    ap (λ (n : ℕ). n * b) (sym h0) ∙ (add-mul (k * q) r b ∙ (ap (λ (n : ℕ). n + r * b) (mul_assoc k q b) ∙ ap (λ (n : ℕ). k * (q * b) + n) (sym (mul_assoc r e m)))) in
    let h2 : k * c * m ≡ r * e * m + m = ap (λ (n : ℕ). n * m) hc ∙ (add-mul (r * e) 1 m ∙ ap (λ (n : ℕ). r * e * m + n) (one-mul m)) in
    let h3 : k * c * m ≡ k * (c * m) = mul_assoc k c m in
    let h4 : k * x ≡ k * (q * b) + k * (c * m) = mul-add k (q * b) (c * m) in
    let h5 : a * b + k ≡ k * x + 1 = omega arith in
    sym (add-mod_right (a * b) k) ∙ (ap (λ (n : ℕ). n % k) h5 ∙ mul-add-mod_self_left k x 1)

step : (a k : ℕ) → 0 < k → Coprime a k → ((r : ℕ) → r < k → 0 < r → Coprime k r → Inverse k r) → (r : ℕ) → r ≡ a % k → Inverse a k
step a k p co rec zero e =
    let one : k ≡ 1 = co k (dvd_of_mod-eq-zero k (sym e)) (dvd_refl k) in
    (0, ap (λ (m : ℕ). a * 0 % m) one ∙ (mod-one (a * 0) ∙ (sym (mod-one 1) ∙ ap (λ (m : ℕ). 1 % m) (sym one))))
step a k p co rec (suc zero) e =
    let small : 1 < k = omega (arith, mod-lt a p) in
    (1, ap (λ (n : ℕ). n % k) (mul-one a) ∙ (sym e ∙ sym (mod-eq_of_lt small)))
step a k p co rec (suc (suc s)) e =
    let r = suc (suc s) in
    let small : r < k = omega (arith, mod-lt a p) in
    let c = rec r small (omega arith) (λ d x y. co d ((dvd-mod_iff d x).0 (subst (λ (n : ℕ). d ∣ n) e y)) x) in
    let h : k * c.0 % r ≡ 1 = c.1 ∙ mod-eq_of_lt (omega arith) in
    let w : k * c.0 ≡ r * (k * c.0 / r) + 1 = omega (arith, h, div-add-mod (k * c.0) r) in
    (k * c.0 / r * (k - 1), back a k (k - 1) r c.0 (k * c.0 / r) (omega arith) e w)

inverse_within : (bound a k : ℕ) → k ≤ bound → 0 < k → Coprime a k → Inverse a k
inverse_within zero a k h p co = absurd (omega arith)
inverse_within (suc n) a k h p co = step a k p co (λ r s q co'. inverse_within n k r (omega arith) q co') (a % k) refl

pub inverse : (a k : ℕ) → 0 < k → Coprime a k → Inverse a k
inverse a k p co = inverse_within k a k (omega arith) p co
