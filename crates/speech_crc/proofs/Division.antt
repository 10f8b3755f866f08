-- Long division by a register of seven coefficients, which stands for its sum with what is still to come.
-- Assumes nothing.
use mathlib.Core.Path.{◌≡◌, refl, sym, ap, ap₂, ◌∙◌}
use mathlib.Core.List.{List, [], ◌∷◌}
use Prim.Native.Nat.{ℕ, zero, suc, ◌+◌, ◌-◌, ◌*◌, ◌%◌, ◌≤◌, ◌<◌}
use native.Mathlib.Nat.{add_assoc, zero-add, one-mul}
use native.Mathlib.Omega.{arith}
use lib.Bits.{bit_xor}
use lib.ListN.{length, drop, get_or, replicate, length-drop}
use lib.Seq.{drop-cons}
use Rattle.base.specs.Bits.{Bits}
use Rattle.base.proofs.Xor.{xor_odd, odd_r}
use Rattle.speech_crc.specs.Check.{divisor, added, divided, data_bits, dividend, remainder}
use Rattle.speech_crc.proofs.Dividend.{dividend_bits, dividend_length, dividend_at, dividend_end}

-- ---- a coefficient that a step keeps, adds the lead to, or takes in
kept : (u lead : ℕ) → (u % 2 + lead * 0) % 2 ≡ u % 2
kept u lead = omega arith

changed : (c e t u lead : ℕ) → u % 2 ≡ (e + t) % 2 → t % 2 ≡ lead % 2 → ((c + 1 * e) % 2 + lead * 1) % 2 ≡ (c + 1 * u) % 2
changed c e t u lead p q =
    let sums : ((c + 1 * e) % 2 + lead * 1) % 2 ≡ (c + e + lead) % 2 = omega arith in
    sums ∙ sym (odd_r t lead (c + e) q) ∙ ap (λ (n : ℕ). n % 2) (add_assoc c e t) ∙ sym (odd_r u (e + t) c p)
    ∙ ap (λ (n : ℕ). (c + n) % 2) (sym (one-mul u))

entered : (c t lead : ℕ) → t % 2 ≡ lead % 2 → (c + lead * 1) % 2 ≡ (c + 1 * t) % 2
entered c t lead q = omega arith

-- ---- a turn of the loop
module _ (a b c d e f g x : ℕ) where
  abbrev lead : ℕ
  lead = bit_xor a x

  abbrev taken : ℕ
  taken = (x % 2 + 1 * a) % 2

  same_lead : lead % 2 ≡ taken % 2
  same_lead = omega (arith, xor_odd a x)

  shifted : (w : List ℕ) → 7 ≤ length w
      → added taken divisor (added 1 (b ∷ c ∷ d ∷ e ∷ f ∷ g ∷ []) w) ≡ added 1 (b ∷ c ∷ d ∷ bit_xor e lead ∷ f ∷ g ∷ lead ∷ []) w
  shifted [] h = absurd (omega arith)
  shifted (c₀ ∷ []) h = absurd (omega arith)
  shifted (c₀ ∷ c₁ ∷ []) h = absurd (omega arith)
  shifted (c₀ ∷ c₁ ∷ c₂ ∷ []) h = absurd (omega arith)
  shifted (c₀ ∷ c₁ ∷ c₂ ∷ c₃ ∷ []) h = absurd (omega arith)
  shifted (c₀ ∷ c₁ ∷ c₂ ∷ c₃ ∷ c₄ ∷ []) h = absurd (omega arith)
  shifted (c₀ ∷ c₁ ∷ c₂ ∷ c₃ ∷ c₄ ∷ c₅ ∷ []) h = absurd (omega arith)
  shifted (c₀ ∷ c₁ ∷ c₂ ∷ c₃ ∷ c₄ ∷ c₅ ∷ c₆ ∷ w) h =
      ap₂ (λ (y : ℕ) (l : List ℕ). y ∷ l) (kept (c₀ + 1 * b) taken)
      (ap₂ (λ (y : ℕ) (l : List ℕ). y ∷ l) (kept (c₁ + 1 * c) taken)
      (ap₂ (λ (y : ℕ) (l : List ℕ). y ∷ l) (kept (c₂ + 1 * d) taken)
      (ap₂ (λ (y : ℕ) (l : List ℕ). y ∷ l) (changed c₃ e lead (bit_xor e lead) taken (xor_odd e lead) same_lead)
      (ap₂ (λ (y : ℕ) (l : List ℕ). y ∷ l) (kept (c₄ + 1 * f) taken)
      (ap₂ (λ (y : ℕ) (l : List ℕ). y ∷ l) (kept (c₅ + 1 * g) taken)
      (ap (λ (y : ℕ). y ∷ w) (entered c₆ lead taken same_lead)))))))

  divided_once : (n : ℕ) (w : List ℕ) → 7 ≤ length w
      → divided (suc n) (added 1 (a ∷ b ∷ c ∷ d ∷ e ∷ f ∷ g ∷ []) (x % 2 ∷ w)) ≡ divided n (added 1 (b ∷ c ∷ d ∷ bit_xor e lead ∷ f ∷ g ∷ lead ∷ []) w)
  unfolding divided
  divided_once n w h = ap (divided n) (shifted w h)

pub turn : (src : List ℕ) (i a b c d e f g : ℕ) → 0 < i → i ≤ 60
    → divided (i - 1)
    (added 1 (b ∷ c ∷ d ∷ bit_xor e (bit_xor a (get_or src (i - 1) 0)) ∷ f ∷ g ∷ bit_xor a (get_or src (i - 1) 0) ∷ []) (drop (60 - (i - 1)) (dividend (data_bits src))))
    ≡ divided i (added 1 (a ∷ b ∷ c ∷ d ∷ e ∷ f ∷ g ∷ []) (drop (60 - i) (dividend (data_bits src))))
turn src i a b c d e f g more h =
    let w = dividend (data_bits src) in
    let k = i - 1 in
    let long : length w ≡ 67 = dividend_length (data_bits src) in
    let here : get_or w (60 - i) 0 ≡ get_or src k 0 % 2 = dividend_at src (60 - i) (omega arith) ∙ ap (λ (n : ℕ). get_or src n 0 % 2) (omega arith) in
    let next : suc (60 - i) ≡ 60 - k = omega arith in
    sym (divided_once a b c d e f g (get_or src k 0) k (drop (60 - k) w) (omega (arith, length-drop (60 - k) w)))
    ∙ ap₂ (λ (n : ℕ) (l : List ℕ). divided n (added 1 (a ∷ b ∷ c ∷ d ∷ e ∷ f ∷ g ∷ []) l)) (omega arith)
    (ap₂ (λ (y n : ℕ). y ∷ drop n w) (sym here) (sym next) ∙ sym (drop-cons w (60 - i) 0 (omega arith)))

-- ---- before the first turn and after the last
added_zeros : (n : ℕ) (w : List ℕ) → Bits w → added 1 (replicate n 0) w ≡ w
added_zeros zero w h = refl
added_zeros (suc n) [] h = refl
added_zeros (suc n) (c ∷ w) h =
    let e : (c + 1 * 0) % 2 ≡ c = omega (arith, h.0) in
    ap₂ (λ (x : ℕ) (l : List ℕ). x ∷ l) e (added_zeros n w h.1)

pub turn_none : (src : List ℕ) → divided 60 (added 1 (replicate 7 0) (dividend (data_bits src))) ≡ remainder (data_bits src)
turn_none src = ap (divided 60) (added_zeros 7 (dividend (data_bits src)) (dividend_bits src))

pub turn_all : (src : List ℕ) (a b c d e f g : ℕ)
    → divided 0 (added 1 (a ∷ b ∷ c ∷ d ∷ e ∷ f ∷ g ∷ []) (drop 60 (dividend (data_bits src)))) ≡ a % 2 ∷ b % 2 ∷ c % 2 ∷ d % 2 ∷ e % 2 ∷ f % 2 ∷ g % 2 ∷ []
unfolding divided
turn_all src a b c d e f g = rw (dividend_end (data_bits src)) (simp (zero-add, one-mul))
