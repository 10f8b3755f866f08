-- Encoded words and their distances.
-- Assumes nothing.
use mathlib.Core.Path.{◌≡◌, refl, sym, ap, ap₂, ◌∙◌}
use mathlib.Core.List.{List, [], ◌∷◌, ◌++◌, append_assoc}
use Prim.Native.Nat.{ℕ, zero, suc, ◌+◌, ◌*◌, ◌/◌, ◌≤◌, ◌<◌}
use native.Mathlib.Nat.{mul-suc, mul-zero}
use native.Mathlib.Omega.{arith}
use lib.ListN.{length, take, drop, length-append, take-append-drop}
use lib.Seq.{length-take-le}
use Rattle.base.specs.Bits.{Bits}
use Rattle.base.proofs.BitLaws.{bits_append}
use Rattle.trellis.specs.Nearest.{encode, distance, total}
use Rattle.trellis.specs.private.Nearest.{after}

-- ---- distances
pub distance_append : {A : Type 0} (m : A → ℕ → ℕ) (r s : List A) (y z : List ℕ) → length r ≡ length y
    → distance m (r ++ s) (y ++ z) ≡ distance m r y + distance m s z
distance_append m [] s [] z e = omega arith
distance_append m [] s (y ∷ ys) z e = absurd (omega arith)
distance_append m (r ∷ rs) s [] z e = absurd (omega arith)
distance_append m (r ∷ rs) s (y ∷ ys) z e = omega (arith, distance_append m rs s ys z (omega arith))

-- symbols past the end of the word do not count
pub distance_take : {A : Type 0} (m : A → ℕ → ℕ) (j : ℕ) (r : List A) (y : List ℕ) → length y ≤ j → distance m (take j r) y ≡ distance m r y
distance_take m zero [] y h = refl
distance_take m zero (r ∷ rs) [] h = refl
distance_take m zero (r ∷ rs) (y ∷ ys) h = absurd (omega arith)
distance_take m (suc j) [] y h = refl
distance_take m (suc j) (r ∷ rs) [] h = refl
distance_take m (suc j) (r ∷ rs) (y ∷ ys) h = omega (arith, distance_take m j rs ys (omega arith))

-- a word in two pieces
pub distance_split : {A : Type 0} (m : A → ℕ → ℕ) (r : List A) (j : ℕ) (y z : List ℕ) → j ≤ length r → length y ≡ j
    → distance m r (y ++ z) ≡ distance m r y + distance m (drop j r) z
distance_split {A} m r j y z h e =
    ap (λ (l : List A). distance m l (y ++ z)) (sym (take-append-drop j r))
    ∙ distance_append m (take j r) (drop j r) y z (length-take-le j r h ∙ sym e)
    ∙ ap (λ (x : ℕ). x + distance m (drop j r) z) (distance_take m j r y (omega arith))

-- what holds of each symbol
abbrev pub Each : {A : Type 0} → (A → Type 0) → List A → Type 0
Each P [] = Unit {0}
Each P (r ∷ rs) = P r × Each P rs

-- no word is further than the symbols can cost
pub distance_most : {A : Type 0} (m : A → ℕ → ℕ) (most : A → ℕ) (r : List A) (y : List ℕ) → Each (λ a. (b : ℕ) → b < 2 → m a b ≤ most a) r → Bits y
    → distance m r y ≤ total most r
distance_most m most [] y h b = omega arith
distance_most m most (r ∷ rs) [] h b = omega arith
distance_most m most (r ∷ rs) (y ∷ ys) h b = omega (arith, h.0 y b.0, distance_most m most rs ys h.1 b.1)

-- ---- a code whose every window gives bits
pub encode_bits : (out : ℕ → List ℕ) → ((x : ℕ) → Bits (out x)) → (s : ℕ) (w : List ℕ) → Bits (encode out s w)
encode_bits out plain s [] = tt
encode_bits out plain s (b ∷ w) =
    bits_append (out (16 * b + s)) (encode out (8 * b + s / 2) w) (plain (16 * b + s)) (encode_bits out plain (8 * b + s / 2) w)

-- ---- a code whose every window gives k symbols
pub encode_length : (out : ℕ → List ℕ) (k : ℕ) → ((x : ℕ) → length (out x) ≡ k) → (s : ℕ) (w : List ℕ) → length (encode out s w) ≡ k * length w
encode_length out k wide s [] = sym (mul-zero k)
encode_length out k wide s (b ∷ w) =
    omega (
      arith,
      length-append (out (16 * b + s)) (encode out (8 * b + s / 2) w),
      wide (16 * b + s),
      encode_length out k wide (8 * b + s / 2) w,
      mul-suc k (length w),
    )

-- ---- a word in two pieces
pub encode_append : (out : ℕ → List ℕ) (s : ℕ) (w v : List ℕ) → encode out s (w ++ v) ≡ encode out s w ++ encode out (after s w) v
encode_append out s [] v = refl
encode_append out s (b ∷ w) v =
    ap (λ (l : List ℕ). out (16 * b + s) ++ l) (encode_append out (8 * b + s / 2) w v)
    ∙ sym (append_assoc (out (16 * b + s)) (encode out (8 * b + s / 2) w) (encode out (after (8 * b + s / 2) w) v))

-- ---- two codes that agree on every window
pub encode_same : (f g : ℕ → List ℕ) → ((x : ℕ) → x < 32 → f x ≡ g x) → (s : ℕ) (w : List ℕ) → s < 16 → Bits w → encode f s w ≡ encode g s w
encode_same f g e s [] h b = refl
encode_same f g e s (x ∷ w) h b =
    ap₂ (λ (y z : List ℕ). y ++ z) (e (16 * x + s) (omega (arith, b.0))) (encode_same f g e (8 * x + s / 2) w (omega (arith, b.0)) b.1)
