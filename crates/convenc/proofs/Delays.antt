-- Laws of the four delays: one bit more, two inputs in a row, and the number that they say.
-- Assumes nothing.
use mathlib.Core.Path.{◌≡◌, refl, sym, ap, subst, ◌∙◌}
use mathlib.Core.List.{List, [], ◌∷◌, ◌++◌, append_assoc, reverse, reverse-append}
use mathlib.Core.Bool.{Bool, true, false}
use Prim.Native.Nat.{ℕ, zero, suc, ◌+◌, ◌-◌, ◌*◌, ◌/◌, ◌≤◌, ◌<◌}
use native.Mathlib.Numerals.{add-one}
use native.Mathlib.Omega.{arith}
use lib.ListN.{length, take, get_or}
use lib.Dec.{ltb}
use lib.Seq.{take_all, take-take, take-suc, take-length}
use borrow.Author.Tests.{ltb-true, ltb-false}
use Rattle.base.specs.Bits.{Bits, bits_only}
use Rattle.base.proofs.BitLaws.{bits_at, bits_only_bits}
use Rattle.trellis.specs.private.Nearest.{after}
use Rattle.base.specs.Digits.{number}
use Rattle.convenc.specs.Generators.{delays}
use Rattle.convenc.specs.private.Tapping.{newest}

-- four delays that are bits
pub record Four (d : List ℕ) : Type 0 where
  pub len : length d ≡ 4
  pub bits : Bits d

pub four_bits : (d : List ℕ) → length d ≡ 4 → bits_only 4 d ≡ true → Four d
four_bits d h t = record { len = h; bits = subst Bits (take_all 4 d (omega arith)) (bits_only_bits 4 d t) }

pub delays_none : (d : List ℕ) → length d ≡ 4 → delays d [] ≡ d
delays_none d h = take_all 4 d (omega arith)

take_append_take : (n m : ℕ) (v w : List ℕ) → n ≤ m → take n (v ++ take m w) ≡ take n (v ++ w)
take_append_take n m [] w h = take-take n m w h
take_append_take zero m (x ∷ v) w h = refl
take_append_take (suc n) m (x ∷ v) w h = ap (λ (l : List ℕ). x ∷ l) (take_append_take n m v w (omega arith))

-- the delays after two inputs in a row are those after the two joined
pub delays_append : (d v w : List ℕ) → delays (delays d v) w ≡ delays d (v ++ w)
delays_append d v w =
    take_append_take 4 4 (reverse w) (reverse v ++ d) (omega arith)
    ∙ ap (λ (l : List ℕ). take 4 l) (sym (append_assoc (reverse w) (reverse v) d) ∙ ap (λ (l : List ℕ). l ++ d) (sym (reverse-append v w)))

-- four entries, by their places
pub four : (d : List ℕ) → length d ≡ 4 → d ≡ get_or d 0 0 ∷ get_or d 1 0 ∷ get_or d 2 0 ∷ get_or d 3 0 ∷ []
four [] h = absurd (omega arith)
four (p ∷ []) h = absurd (omega arith)
four (p ∷ q ∷ []) h = absurd (omega arith)
four (p ∷ q ∷ r ∷ []) h = absurd (omega arith)
four (p ∷ q ∷ r ∷ s ∷ []) h = refl
four (p ∷ q ∷ r ∷ s ∷ t ∷ d) h = absurd (omega arith)

-- ---- one bit more
pub delays_one : (d : List ℕ) (b : ℕ) → length d ≡ 4 → delays d (b ∷ []) ≡ b ∷ get_or d 0 0 ∷ get_or d 1 0 ∷ get_or d 2 0 ∷ []
delays_one d b h = ap (λ (l : List ℕ). b ∷ take 3 l) (four d h)

four_one : (d : List ℕ) (b : ℕ) → Four d → b < 2 → Four (delays d (b ∷ []))
four_one d b f h =
    rw (delays_one d b f.len)
    (record { len = refl; bits = (h, (bits_at d f.bits 0, (bits_at d f.bits 1, (bits_at d f.bits 2, tt)))) })

held_one : (d : List ℕ) (b : ℕ) → Four d → number (delays d (b ∷ [])) ≡ 8 * b + number d / 2
held_one d b f =
    ap number (delays_one d b f.len)
    ∙ shift (get_or d 0 0) (get_or d 1 0) (get_or d 2 0) (get_or d 3 0) (bits_at d f.bits 3)
    ∙ ap (λ (l : List ℕ). 8 * b + number l / 2) (sym (four d f.len))
  where
    shift : (p q r s : ℕ) → s < 2 → number (b ∷ p ∷ q ∷ r ∷ []) ≡ 8 * b + number (p ∷ q ∷ r ∷ s ∷ []) / 2
    shift p q r s h = omega arith

-- ---- the delays that an input holds itself
pub newest_front : (d src : List ℕ) → 4 ≤ length src → newest src 4 ≡ delays d (take 4 src)
newest_front d [] h = absurd (omega arith)
newest_front d (p ∷ []) h = absurd (omega arith)
newest_front d (p ∷ q ∷ []) h = absurd (omega arith)
newest_front d (p ∷ q ∷ r ∷ []) h = absurd (omega arith)
newest_front d (p ∷ q ∷ r ∷ s ∷ src) h = refl

pub newest_more : (src : List ℕ) (i : ℕ) → newest src (i + 1) ≡ delays (newest src i) (get_or src i 0 ∷ [])
newest_more src i = rw (last, back 1, back 2, back 3)
  where
    last : i + 1 - 1 ≡ i
    last = omega arith

    back : (k : ℕ) → i + 1 - (k + 1) ≡ i - k
    back k = omega arith

-- the four entries before place i are the delays after the entries before it
pub newest_after : (d src : List ℕ) (i : ℕ) → 4 ≤ i → i ≤ length src → newest src i ≡ delays d (take i src)
newest_after d src zero p h = absurd (omega arith)
newest_after d src (suc i) p h = go (newest_after d src i) (ltb i 4) refl
  where
    go : (4 ≤ i → i ≤ length src → newest src i ≡ delays d (take i src)) → (t : Bool) → ltb i 4 ≡ t → newest src (suc i) ≡ delays d (take (suc i) src)
    go ih true e =
        let first : 4 ≡ suc i = omega (arith, ltb-true i 4 e) in
        subst (λ (n : ℕ). newest src n ≡ delays d (take n src)) first (newest_front d src (omega arith))
    go ih false e =
        ap (newest src) (sym (add-one i)) ∙ newest_more src i
        ∙ ap (λ (l : List ℕ). delays l (get_or src i 0 ∷ [])) (ih (ltb-false i 4 e) (omega arith))
        ∙ delays_append d (take i src) (get_or src i 0 ∷ []) ∙ ap (delays d) (sym (take-suc src i 0 (omega arith)))

pub newest_last : (d src : List ℕ) → 4 ≤ length src → newest src (length src) ≡ delays d src
newest_last d src h = newest_after d src (length src) h (omega arith) ∙ ap (delays d) (take-length src)

-- ---- after an input
pub four_after : (d w : List ℕ) → Four d → Bits w → Four (delays d w)
four_after d [] f k = rw (delays_none d f.len) f
four_after d (b ∷ w) f k = subst Four (delays_append d (b ∷ []) w) (four_after (delays d (b ∷ [])) w (four_one d b f k.0) k.1)

-- the delays say the number that the encoder goes on from
pub held_after : (d w : List ℕ) → Four d → Bits w → number (delays d w) ≡ after (number d) w
held_after d [] f k = ap number (delays_none d f.len)
held_after d (b ∷ w) f k =
    ap number (sym (delays_append d (b ∷ []) w))
    ∙ held_after (delays d (b ∷ [])) w (four_one d b f k.0) k.1
    ∙ ap (λ (s : ℕ). after s w) (held_one d b f)
