-- Laws of linear maps: they keep sums, a single set bit gives its column, two in a row are one, and a loop makes them column by column.
-- Assumes nothing.
use mathlib.Core.Path.{◌≡◌, refl, sym, ap, ap₂, ◌∙◌}
use mathlib.Core.List.{List, [], ◌∷◌, ◌++◌, map}
use Prim.Native.Nat.{ℕ, zero, suc, ◌+◌, ◌-◌, ◌*◌, ◌/◌, ◌%◌, ◌^◌, ◌≤◌, ◌<◌}
use native.Mathlib.Nat.{add-zero, zero-mul, mul-zero, one-mul, mul_assoc, div_self, div-eq_of_lt, mul-mod_left, zero-div, mod-lt, mod-one, mod-eq_of_lt}
use native.Mathlib.Numerals.{add-one, one-add}
use native.Mathlib.Omega.{arith}
use lib.Bits.{bit_and, bit_xor, and_mask, xor_shr, xor_zero_r, xor_self, xor_lt, xor_shifted, xor_block}
use lib.ListN.{length, get_or, drop, length-drop, length-append, length-map, replicate}
use lib.Pow.{pow-lt, pow_pos, shr-shr, field, mod-mod-pow, mod-pow-add}
use lib.Seq.{drop-cons, drop-length}
use Rattle.base.specs.Digits.{digits, dot}
use Rattle.base.proofs.Xor.{xor_odd, xor_assoc, xor_swap}
use Rattle.linear.specs.Linear.{image}
use Rattle.linear.specs.private.Linear.{units}

-- ---- bits
bit_lt : (n k : ℕ) → n / 2 ^ k % 2 < 2
bit_lt n k = omega arith

-- a bit of a sum is the sum of the bits
pub xor_bit_at : (a b k : ℕ) → bit_xor a b / 2 ^ k % 2 ≡ (a / 2 ^ k % 2 + b / 2 ^ k % 2) % 2
xor_bit_at a b k = ap (λ (x : ℕ). x % 2) (xor_shr a b k) ∙ xor_odd (a / 2 ^ k) (b / 2 ^ k) ∙ parts (a / 2 ^ k) (b / 2 ^ k)
  where
    parts : (x y : ℕ) → (x + y) % 2 ≡ (x % 2 + y % 2) % 2
    parts x y = omega arith

-- two numbers whose sum is 0 are the same
pub xor_nothing : (a b : ℕ) → bit_xor a b ≡ 0 → a ≡ b
xor_nothing a b e =
    sym (xor_zero_r a) ∙ ap (bit_xor a) (sym (xor_self b)) ∙ sym (xor_assoc a b b) ∙ ap (λ (x : ℕ). bit_xor x b) e

-- the lower n bits keep each bit below n
pub low_bit : (w n k : ℕ) → k < n → w % 2 ^ n / 2 ^ k % 2 ≡ w / 2 ^ k % 2
low_bit w n k h =
    let e : n ≡ (n - k - 1 + 1) + k = omega arith in
    ap (λ (m : ℕ). w % 2 ^ m / 2 ^ k % 2) e ∙ ap (λ (x : ℕ). x % 2) (field w (n - k - 1 + 1) k) ∙ mod-mod-pow (w / 2 ^ k) (n - k - 1) 1

-- one bit more
pub mod_more : (w n : ℕ) → w % 2 ^ suc n ≡ w / 2 ^ n % 2 * 2 ^ n + w % 2 ^ n
mod_more w n = ap (λ (k : ℕ). w % 2 ^ k) (sym (one-add n)) ∙ mod-pow-add w 1 n

-- ---- a column times its bit
abbrev chosen : ℕ → ℕ → ℕ
chosen b column = b * column

chosen_xor : (x y c : ℕ) → x < 2 → y < 2 → chosen ((x + y) % 2) c ≡ bit_xor (chosen x c) (chosen y c)
chosen_xor zero zero c h k = simp zero-mul
chosen_xor zero (suc zero) c h k = simp (zero-mul, one-mul)
chosen_xor zero (suc (suc y)) c h k = absurd (omega arith)
chosen_xor (suc zero) zero c h k = simp (zero-mul, one-mul, xor_zero_r)
chosen_xor (suc zero) (suc zero) c h k = simp (zero-mul, one-mul, xor_self)
chosen_xor (suc zero) (suc (suc y)) c h k = absurd (omega arith)
chosen_xor (suc (suc x)) y c h k = absurd (omega arith)

chosen_lt : (b c m : ℕ) → b < 2 → c < m → chosen b c < m
chosen_lt zero c m l h = omega arith
chosen_lt (suc zero) c m l h = omega arith
chosen_lt (suc (suc b)) c m l h = absurd (omega arith)

-- what holds of 0 and of a column holds of the column times its bit
chosen_by : (P : ℕ → ℕ → Type 0) (c d b : ℕ) → b < 2 → P 0 0 → P c d → P (chosen b c) (chosen b d)
chosen_by P c d zero l z h = rw (zero-mul c, zero-mul d) z
chosen_by P c d (suc zero) l z h = rw (one-mul c, one-mul d) h
chosen_by P c d (suc (suc b)) l z h = absurd (omega arith)

-- ---- the map
pub image_xor : (cs : List ℕ) (a b : ℕ) → image cs (bit_xor a b) ≡ bit_xor (image cs a) (image cs b)
image_xor [] a b = refl
image_xor (c ∷ cs) a b =
    let n = length cs in
    ap₂ bit_xor (ap (λ (x : ℕ). chosen x c) (xor_bit_at a b n) ∙ chosen_xor (a / 2 ^ n % 2) (b / 2 ^ n % 2) c (bit_lt a n) (bit_lt b n)) (image_xor cs a b)
    ∙ xor_swap (chosen (a / 2 ^ n % 2) c) (chosen (b / 2 ^ n % 2) c) (image cs a) (image cs b)

-- only the bits that have a column count
pub image_mod : (cs : List ℕ) (n w : ℕ) → length cs ≤ n → image cs w ≡ image cs (w % 2 ^ n)
image_mod [] n w h = refl
image_mod (c ∷ cs) n w h =
    ap₂ (λ (b x : ℕ). bit_xor (chosen b c) x) (sym (low_bit w n (length cs) (omega arith))) (image_mod cs n w (omega arith))

pub image_zero : (cs : List ℕ) → image cs 0 ≡ 0
image_zero [] = refl
image_zero (c ∷ cs) =
    ap₂ (λ (b x : ℕ). bit_xor (chosen (b % 2) c) x) (zero-div (2 ^ length cs)) (image_zero cs) ∙ ap (λ (x : ℕ). bit_xor x 0) (zero-mul c)

-- a single set bit gives its column
pub image_one : (cs : List ℕ) (i : ℕ) → i < length cs → image cs (2 ^ (length cs - suc i)) ≡ get_or cs i 0
image_one [] i h = absurd (omega arith)
image_one (c ∷ cs) zero h =
    let n = length cs in
    let e : suc n - 1 ≡ n = omega arith in
    let z : 2 ^ n % 2 ^ n ≡ 0 = ap (λ (x : ℕ). x % 2 ^ n) (sym (one-mul (2 ^ n))) ∙ mul-mod_left 1 (2 ^ n) in
    ap (image (c ∷ cs)) (ap (λ (x : ℕ). 2 ^ x) e)
    ∙ ap₂ (λ (b x : ℕ). bit_xor (chosen (b % 2) c) x) (div_self (pow_pos n)) (image_mod cs n (2 ^ n) (omega arith) ∙ ap (image cs) z ∙ image_zero cs)
    ∙ xor_zero_r (1 * c) ∙ one-mul c
image_one (c ∷ cs) (suc i) h =
    let n = length cs in
    let e : suc n - suc (suc i) ≡ n - suc i = omega arith in
    ap (image (c ∷ cs)) (ap (λ (x : ℕ). 2 ^ x) e)
    ∙ ap₂ (λ (b x : ℕ). bit_xor (chosen (b % 2) c) x) (div-eq_of_lt (pow-lt {i = n - suc i} {j = n} (omega arith))) (image_one cs i (omega arith))
    ∙ ap (λ (x : ℕ). bit_xor x (get_or cs i 0)) (zero-mul c)

pub image_append : (ps qs : List ℕ) (w : ℕ) → image (ps ++ qs) w ≡ bit_xor (image ps (w / 2 ^ length qs)) (image qs w)
image_append [] qs w = refl
image_append (c ∷ ps) qs w =
    let e : length (ps ++ qs) ≡ length qs + length ps = omega (arith, length-append ps qs) in
    let d : w / 2 ^ length (ps ++ qs) ≡ w / 2 ^ length qs / 2 ^ length ps = ap (λ (x : ℕ). w / 2 ^ x) e ∙ sym (shr-shr w (length qs) (length ps)) in
    ap₂ (λ (b x : ℕ). bit_xor (chosen (b % 2) c) x) d (image_append ps qs w)
    ∙ sym (xor_assoc (chosen (w / 2 ^ length qs / 2 ^ length ps % 2) c) (image ps (w / 2 ^ length qs)) (image qs w))

pub image_lt : (k : ℕ) (cs : List ℕ) → ((i : ℕ) → i < length cs → get_or cs i 0 < 2 ^ k) → (w : ℕ) → image cs w < 2 ^ k
image_lt k [] h w = pow_pos k
image_lt k (c ∷ cs) h w =
    xor_lt k (chosen (w / 2 ^ length cs % 2) c) (image cs w) (chosen_lt (w / 2 ^ length cs % 2) c (2 ^ k) (bit_lt w (length cs)) (h 0 (omega arith)))
    (image_lt k cs (λ i l. h (suc i) (omega arith)) w)

-- ---- two maps
-- one after the other they are one map
pub image_image : (ps qs : List ℕ) (w : ℕ) → image ps (image qs w) ≡ image (map (image ps) qs) w
image_image ps [] w = image_zero ps
image_image ps (c ∷ qs) w =
    image_xor ps (chosen (w / 2 ^ length qs % 2) c) (image qs w)
    ∙ ap₂ bit_xor
    (chosen_by (λ x y. image ps x ≡ y) c (image ps c) (w / 2 ^ length qs % 2) (bit_lt w (length qs)) (image_zero ps) refl ∙ ap (λ (n : ℕ). chosen (w / 2 ^ n % 2) (image ps c)) (sym (length-map qs (image ps))))
    (image_image ps qs w)

-- each column the sum of two columns
abbrev pub sums : List ℕ → List ℕ → List ℕ
sums [] qs = []
sums (p ∷ ps) [] = []
sums (p ∷ ps) (q ∷ qs) = bit_xor p q ∷ sums ps qs

pub image_sums : (ps qs : List ℕ) (w : ℕ) → length ps ≡ length qs → image (sums ps qs) w ≡ bit_xor (image ps w) (image qs w)
image_sums [] [] w e = refl
image_sums [] (q ∷ qs) w e = absurd (omega arith)
image_sums (p ∷ ps) [] w e = absurd (omega arith)
image_sums (p ∷ ps) (q ∷ qs) w e =
    let f : length ps ≡ length qs = omega arith in
    ap₂ bit_xor
    (ap (λ (n : ℕ). chosen (w / 2 ^ n % 2) (bit_xor p q)) (len ps qs f) ∙ both (w / 2 ^ length ps % 2) (bit_lt w (length ps))
    ∙ ap (λ (n : ℕ). bit_xor (chosen (w / 2 ^ length ps % 2) p) (chosen (w / 2 ^ n % 2) q)) f)
    (image_sums ps qs w f)
    ∙ xor_swap (chosen (w / 2 ^ length ps % 2) p) (chosen (w / 2 ^ length qs % 2) q) (image ps w) (image qs w)
  where
    len : (ps qs : List ℕ) → length ps ≡ length qs → length (sums ps qs) ≡ length ps
    len [] qs e = refl
    len (p ∷ ps) [] e = absurd (omega arith)
    len (p ∷ ps) (q ∷ qs) e = ap suc (len ps qs (omega arith))

    both : (x : ℕ) → x < 2 → chosen x (bit_xor p q) ≡ bit_xor (chosen x p) (chosen x q)
    both zero h = simp zero-mul
    both (suc zero) h = simp one-mul
    both (suc (suc x)) h = absurd (omega arith)

-- the units leave a word as it is
pub image_units : (n w : ℕ) → image (units n) w ≡ w % 2 ^ n
image_units zero w = sym (mod-one w)
image_units (suc n) w =
    ap₂ bit_xor (ap (λ (l : ℕ). chosen (w / 2 ^ l % 2) (2 ^ n)) (len n)) (image_units n w)
    ∙ xor_shifted (w / 2 ^ n % 2) n (w % 2 ^ n) (mod-lt w (pow_pos n)) ∙ sym (mod_more w n)
  where
    len : (n : ℕ) → length (units n) ≡ n
    len zero = refl
    len (suc n) = ap suc (len n)

-- columns moved up move the image up
pub image_raised : (k : ℕ) (cs : List ℕ) (w : ℕ) → image (map (λ (c : ℕ). c * 2 ^ k) cs) w ≡ image cs w * 2 ^ k
image_raised k [] w = sym (zero-mul (2 ^ k))
image_raised k (c ∷ cs) w =
    let b = w / 2 ^ length cs % 2 in
    ap₂ bit_xor (ap (λ (n : ℕ). chosen (w / 2 ^ n % 2) (c * 2 ^ k)) (length-map cs (λ (c : ℕ). c * 2 ^ k)) ∙ sym (mul_assoc b c (2 ^ k))) (image_raised k cs w)
    ∙ up (chosen b c) (image cs w)
  where
    up : (x y : ℕ) → bit_xor (x * 2 ^ k) (y * 2 ^ k) ≡ bit_xor x y * 2 ^ k
    up x y =
        ap₂ bit_xor (sym (add-zero (x * 2 ^ k))) (sym (add-zero (y * 2 ^ k))) ∙ xor_block k x y 0 0 (pow_pos k) (pow_pos k)
        ∙ add-zero (bit_xor x y * 2 ^ k)

-- a map that another undoes keeps words apart
pub image_undone : (ps qs : List ℕ) (n : ℕ) → map (image ps) qs ≡ units n → (w : ℕ) → w < 2 ^ n → image ps (image qs w) ≡ w
image_undone ps qs n e w h =
    image_image ps qs w ∙ ap (λ (cs : List ℕ). image cs w) e ∙ image_units n w ∙ mod-eq_of_lt h

-- a map all of whose columns are 0
pub image_nothing : (n w : ℕ) → image (replicate n 0) w ≡ 0
image_nothing zero w = refl
image_nothing (suc n) w = ap₂ bit_xor (mul-zero (w / 2 ^ length (replicate n 0) % 2)) (image_nothing n w)

-- ---- bit by bit
-- bit j of the image is the sum mod 2, over the word's bits, of the bit times bit j of its column
pub image_bit : (cs : List ℕ) (w j : ℕ) → image cs w / 2 ^ j % 2 ≡ dot (digits (length cs) w) (map (λ (c : ℕ). c / 2 ^ j % 2) cs) % 2
image_bit [] w j = ap (λ (x : ℕ). x % 2) (zero-div (2 ^ j))
image_bit (c ∷ cs) w j =
    let b = w / 2 ^ length cs % 2 in
    let d = dot (digits (length cs) w) (map (λ (c : ℕ). c / 2 ^ j % 2) cs) in
    xor_bit_at (chosen b c) (image cs w) j
    ∙ ap₂ (λ (x y : ℕ). (x + y) % 2) (through b (bit_lt w (length cs))) (image_bit cs w j) ∙ parts (b * (c / 2 ^ j % 2)) d
  where
    through : (b : ℕ) → b < 2 → chosen b c / 2 ^ j % 2 ≡ b * (c / 2 ^ j % 2)
    through zero h = simp (zero-mul, zero-div)
    through (suc zero) h = simp one-mul
    through (suc (suc b)) h = absurd (omega arith)

    parts : (x y : ℕ) → (x + y % 2) % 2 ≡ (x + y) % 2
    parts x y = omega arith

-- ---- a loop that adds column i where bit i from the left is set: what is done and what is left make the whole
image_more : (cs : List ℕ) (i w done whole : ℕ) → i < length cs → bit_xor done (image (drop i cs) w) ≡ whole
    → bit_xor (bit_xor done (chosen (w / 2 ^ (length cs - 1 - i) % 2) (get_or cs i 0))) (image (drop (i + 1) cs) w) ≡ whole
image_more cs i w done whole h e =
    let l : length cs - 1 - i ≡ length (drop (suc i) cs) = omega (arith, length-drop (suc i) cs) in
    rw add-one
    (xor_assoc done (chosen (w / 2 ^ (length cs - 1 - i) % 2) (get_or cs i 0)) (image (drop (suc i) cs) w)
    ∙ ap (bit_xor done)
    (ap (λ (n : ℕ). bit_xor (chosen (w / 2 ^ n % 2) (get_or cs i 0)) (image (drop (suc i) cs) w)) l
    ∙ ap (λ (rest : List ℕ). image rest w) (sym (drop-cons cs i 0 h)))
    ∙ e)

chosen_set : (x c : ℕ) → bit_and x 1 ≡ 1 → c ≡ chosen (x % 2) c
chosen_set x c e = sym (one-mul c) ∙ ap (λ (b : ℕ). chosen b c) (sym (sym (and_mask x 1) ∙ e))

chosen_clear : (x c : ℕ) → (bit_and x 1 ≡ 1 → ⊥) → 0 ≡ chosen (x % 2) c
chosen_clear x c n =
    let z : 0 ≡ x % 2 = omega (arith, and_mask x 1, n) in
    sym (zero-mul c) ∙ ap (λ (b : ℕ). chosen b c) z

pub image_set : (cs : List ℕ) (i w done whole : ℕ) → i < length cs → bit_xor done (image (drop i cs) w) ≡ whole
    → bit_and (w / 2 ^ (length cs - 1 - i)) 1 ≡ 1 → bit_xor (bit_xor done (get_or cs i 0)) (image (drop (i + 1) cs) w) ≡ whole
image_set cs i w done whole h e b =
    ap (λ (c : ℕ). bit_xor (bit_xor done c) (image (drop (i + 1) cs) w)) (chosen_set (w / 2 ^ (length cs - 1 - i)) (get_or cs i 0) b)
    ∙ image_more cs i w done whole h e

pub image_clear : (cs : List ℕ) (i w done whole : ℕ) → i < length cs → bit_xor done (image (drop i cs) w) ≡ whole
    → (bit_and (w / 2 ^ (length cs - 1 - i)) 1 ≡ 1 → ⊥) → bit_xor done (image (drop (i + 1) cs) w) ≡ whole
image_clear cs i w done whole h e b =
    ap (λ (x : ℕ). bit_xor x (image (drop (i + 1) cs) w)) (sym (xor_zero_r done))
    ∙ ap (λ (c : ℕ). bit_xor (bit_xor done c) (image (drop (i + 1) cs) w)) (chosen_clear (w / 2 ^ (length cs - 1 - i)) (get_or cs i 0) b)
    ∙ image_more cs i w done whole h e

pub image_all : (cs : List ℕ) (w done whole : ℕ) → bit_xor done (image (drop (length cs) cs) w) ≡ whole → done ≡ whole
image_all cs w done whole e =
    sym (xor_zero_r done) ∙ ap (λ (rest : List ℕ). bit_xor done (image rest w)) (sym (drop-length cs)) ∙ e
