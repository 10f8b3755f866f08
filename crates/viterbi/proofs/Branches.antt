-- Branch scores: what each class of symbols adds, and the sum over a step's symbols.
-- Assumes nothing.
use mathlib.Core.Path.{◌≡◌, refl, ap, ap₂, ◌∙◌, subst⁻¹}
use mathlib.Core.Bool.{Bool, true, false}
use mathlib.Core.List.{List, []}
use Prim.Native.Nat.{ℕ, zero, suc, ◌+◌, ◌-◌, ◌<◌}
use native.Mathlib.Omega.{arith}
use borrow.Author.Tests.{ltb-true, ltb-false}
use lib.Dec.{ltb}
use lib.IntN.{ℤ, pos, negsuc, neg_ℤ, ◌+ℤ◌, ◌-ℤ◌}
use lib.Signed.{mag}
use lib.ListN.{length, get_or, set, replicate, length-set, get_or-replicate}
use lib.Seq.{get_or-set_same, get_or-set_other}
use mir.Syntax.{w8, w16}
use mir.Val.{SFits, to_z, of_z}
use mir.Facts.{to_z-of_z}
use Rattle.viterbi.specs.private.Scores.{Sixteen, Trit, Sign, Table, sign_at, score_of, class_of, Classes, Rows, branch_of}
use Rattle.viterbi.proofs.Signed.{fits, reads, neg_up, neg_down, mag_add}
use Rattle.viterbi.proofs.Sixteen.{filled_more}

-- ---- signs
trit_mag : (e : ℤ) → Trit e → mag e < 2
trit_mag (pos n) h = omega (arith, h.0)
trit_mag (negsuc n) h = omega (arith, h.1)

trit_neg : (e : ℤ) → Trit e → Trit (neg_ℤ e)
trit_neg e h = (omega (arith, neg_up e, h.1), omega (arith, neg_down e, h.0))

score_trit : (r : ℕ) (e : ℤ) → Trit e → Trit (score_of r e)
score_trit zero e h = h
score_trit (suc zero) e h = trit_neg e h
score_trit (suc (suc r)) e h = (omega arith, omega arith)

-- a sign is -1 or 1
pub by_sign : (P : ℤ → Type 0) → P (negsuc 0) → P (pos 1) → (e : ℤ) → Sign e → P e
by_sign P a b (pos zero) h = absurd (omega arith)
by_sign P a b (pos (suc zero)) h = b
by_sign P a b (pos (suc (suc n))) h = absurd (omega arith)
by_sign P a b (negsuc zero) h = a
by_sign P a b (negsuc (suc n)) h = absurd (omega arith)

sign_trit : (e : ℤ) → Sign e → Trit e
sign_trit = by_sign Trit (omega arith, omega arith) (omega arith, omega arith)

pub table_trit : (k : ℕ) (t : List (List ℤ)) → Table k t → (j : ℕ) → j < 4 → Sixteen Trit (get_or t j [])
table_trit k t h j p s q = go (ltb j k) refl
  where
    go : (b : Bool) → ltb j k ≡ b → Trit (sign_at t j s)
    go true e = sign_trit (sign_at t j s) (h.signs j s (ltb-true j k e) q)
    go false e = subst⁻¹ Trit (h.rest j s (ltb-false j k e) p q) (omega arith, omega arith)

-- ---- a sign made wider, and turned
minus_neg : (e : ℤ) → Trit e → pos 0 -ℤ e ≡ neg_ℤ e
minus_neg (pos zero) h = refl
minus_neg (pos (suc zero)) h = refl
minus_neg (pos (suc (suc n))) h = absurd (omega (arith, h.0))
minus_neg (negsuc zero) h = refl
minus_neg (negsuc (suc n)) h = absurd (omega (arith, h.1))

module _ (e : ℤ) (h : Trit e) where
  wide : SFits w16 e
  wide = fits e 2 (trit_mag e h) (omega arith)

  read : to_z w8 (of_z w8 e) ≡ e
  read = to_z-of_z {w = w8} (record { sfits = omega (arith, trit_mag e h) })

  pub wide_fits : SFits w16 (to_z w8 (of_z w8 e))
  wide_fits = rw read wide

  pub wide_is : to_z w16 (of_z w16 (to_z w8 (of_z w8 e))) ≡ e
  wide_is = rw read (to_z-of_z wide)

  minus : SFits w16 (pos 0 -ℤ e)
  minus = rw (minus_neg e h) (fits (neg_ℤ e) 2 (trit_mag (neg_ℤ e) (trit_neg e h)) (omega arith))

  pub minus_fits : SFits w16 (pos 0 -ℤ to_z w16 (of_z w16 (to_z w8 (of_z w8 e))))
  minus_fits = rw wide_is minus

  pub minus_is : to_z w16 (of_z w16 (pos 0 -ℤ to_z w16 (of_z w16 (to_z w8 (of_z w8 e))))) ≡ neg_ℤ e
  minus_is = rw wide_is (to_z-of_z minus ∙ minus_neg e h)

-- ---- the rows, made state by state
pub record Made (e : List ℤ) (s : ℕ) (rows : List (List ℤ)) : Type 0 where
  pub three : length rows ≡ 3
  pub plain_long : length (get_or rows 0 []) ≡ 16
  pub turned_long : length (get_or rows 1 []) ≡ 16
  pub plain : (j : ℕ) → j < s → get_or (get_or rows 0 []) j (pos 0) ≡ get_or e j (pos 0)
  pub turned : (j : ℕ) → j < s → get_or (get_or rows 1 []) j (pos 0) ≡ neg_ℤ (get_or e j (pos 0))
  pub erased : get_or rows 2 [] ≡ replicate 16 (pos 0)

pub made_none : (e : List ℤ) → Made e 0 (replicate 3 (replicate 16 (pos 0)))
made_none e =
    record {
      three = refl;
      plain_long = refl;
      turned_long = refl;
      plain = λ j h. absurd (omega arith);
      turned = λ j h. absurd (omega arith);
      erased = refl;
    }

pub made_more : (e : List ℤ) (s : ℕ) (rows : List (List ℤ)) (x y : ℤ) → s < 16 → Made e s rows → x ≡ get_or e s (pos 0) → y ≡ neg_ℤ (get_or e s (pos 0))
    → Made e (s + 1) (set (set rows 0 (set (get_or rows 0 []) s x)) 1 (set (get_or (set rows 0 (set (get_or rows 0 []) s x)) 1 []) s y))
made_more e s rows x y h m p q =
    record {
      three = length-set once 1 _ ∙ length-set rows 0 _ ∙ m.three;
      plain_long = ap length first ∙ length-set (get_or rows 0 []) s x ∙ m.plain_long;
      turned_long = ap length other ∙ length-set (get_or rows 1 []) s y ∙ m.turned_long;
      plain = λ j l. ap (λ (r : List ℤ). get_or r j (pos 0)) first
          ∙ filled_more (λ j. get_or e j (pos 0)) (get_or rows 0 []) s x (omega (arith, m.plain_long)) m.plain p j l;
      turned = λ j l. ap (λ (r : List ℤ). get_or r j (pos 0)) other
          ∙ filled_more (λ j. neg_ℤ (get_or e j (pos 0))) (get_or rows 1 []) s y (omega (arith, m.turned_long)) m.turned q j l;
      erased = get_or-set_other once 1 2 _ [] (omega arith) ∙ get_or-set_other rows 0 2 _ [] (omega arith) ∙ m.erased;
    }
  where
    once : List (List ℤ)
    once = set rows 0 (set (get_or rows 0 []) s x)

    twice : List (List ℤ)
    twice = set once 1 (set (get_or once 1 []) s y)

    first : get_or twice 0 [] ≡ set (get_or rows 0 []) s x
    first = get_or-set_other once 1 0 (set (get_or once 1 []) s y) [] (omega arith) ∙ get_or-set_same rows 0 (set (get_or rows 0 []) s x) [] (omega (arith, m.three))

    other : get_or twice 1 [] ≡ set (get_or rows 1 []) s y
    other =
        get_or-set_same once 1 (set (get_or once 1 []) s y) [] (omega (arith, length-set rows 0 (set (get_or rows 0 []) s x), m.three))
        ∙ ap (λ (r : List ℤ). set r s y) (get_or-set_other rows 0 1 (set (get_or rows 0 []) s x) [] (omega arith))

pub made_all : (e : List ℤ) (rows : List (List ℤ)) → Made e 16 rows → Rows e rows
made_all e rows m zero s h l = m.plain s l
made_all e rows m (suc zero) s h l = m.turned s l
made_all e rows m (suc (suc zero)) s h l = ap (λ (r : List ℤ). get_or r s (pos 0)) m.erased ∙ get_or-replicate 16 s (pos 0) (pos 0) l
made_all e rows m (suc (suc (suc c))) s h l = absurd (omega arith)

pub rows_trit : (e : List ℤ) (rows : List (List ℤ)) → Sixteen Trit e → Rows e rows → (c : ℕ) → c < 3 → Sixteen Trit (get_or rows c [])
rows_trit e rows h r c l s q = subst⁻¹ Trit (r c s l q) (score_trit c (get_or e s (pos 0)) (h s q))

-- ---- classes
pub classes_all : Classes (set (set (replicate 256 2) 0 0) 1 1)
classes_all zero h = refl
classes_all (suc zero) h = refl
classes_all (suc (suc r)) h = get_or-replicate 254 r 2 0 (omega arith)

pub class_lt : (r : ℕ) → class_of r < 3
class_lt zero = omega arith
class_lt (suc zero) = omega arith
class_lt (suc (suc r)) = omega arith

class_score : (r : ℕ) (e : ℤ) → score_of (class_of r) e ≡ score_of r e
class_score zero e = refl
class_score (suc zero) e = refl
class_score (suc (suc r)) e = refl

-- ---- the sum of four
module _ (a b c d : ℤ) (ha : Trit a) (hb : Trit b) (hc : Trit c) (hd : Trit d) where
  two : mag (a +ℤ b) < 4
  two = mag_add a b 2 2 (trit_mag a ha) (trit_mag b hb)

  three : mag (a +ℤ b +ℤ c) < 6
  three = mag_add (a +ℤ b) c 4 2 two (trit_mag c hc)

  four : mag (a +ℤ b +ℤ c +ℤ d) < 8
  four = mag_add (a +ℤ b +ℤ c) d 6 2 three (trit_mag d hd)

  ra : to_z w16 (of_z w16 a) ≡ a
  ra = reads a 2 (trit_mag a ha) (omega arith)

  rb : to_z w16 (of_z w16 b) ≡ b
  rb = reads b 2 (trit_mag b hb) (omega arith)

  rc : to_z w16 (of_z w16 c) ≡ c
  rc = reads c 2 (trit_mag c hc) (omega arith)

  rd : to_z w16 (of_z w16 d) ≡ d
  rd = reads d 2 (trit_mag d hd) (omega arith)

  pub two_fits : SFits w16 (to_z w16 (of_z w16 a) +ℤ to_z w16 (of_z w16 b))
  two_fits = rw (ra, rb) (fits (a +ℤ b) 4 two (omega arith))

  two_is : to_z w16 (of_z w16 (to_z w16 (of_z w16 a) +ℤ to_z w16 (of_z w16 b))) ≡ a +ℤ b
  two_is = to_z-of_z two_fits ∙ ap₂ ◌+ℤ◌ ra rb

  pub three_fits : SFits w16 (to_z w16 (of_z w16 (to_z w16 (of_z w16 a) +ℤ to_z w16 (of_z w16 b))) +ℤ to_z w16 (of_z w16 c))
  three_fits = rw (two_is, rc) (fits (a +ℤ b +ℤ c) 6 three (omega arith))

  three_is : to_z w16 (of_z w16 (to_z w16 (of_z w16 (to_z w16 (of_z w16 a) +ℤ to_z w16 (of_z w16 b))) +ℤ to_z w16 (of_z w16 c))) ≡ a +ℤ b +ℤ c
  three_is = to_z-of_z three_fits ∙ ap₂ ◌+ℤ◌ two_is rc

  pub four_fits : SFits w16 (to_z w16 (of_z w16 (to_z w16 (of_z w16 (to_z w16 (of_z w16 a) +ℤ to_z w16 (of_z w16 b))) +ℤ to_z w16 (of_z w16 c))) +ℤ to_z w16 (of_z w16 d))
  four_fits = rw (three_is, rd) (fits (a +ℤ b +ℤ c +ℤ d) 8 four (omega arith))

  pub four_is : to_z w16 (of_z w16 (to_z w16 (of_z w16 (to_z w16 (of_z w16 (to_z w16 (of_z w16 a) +ℤ to_z w16 (of_z w16 b))) +ℤ to_z w16 (of_z w16 c))) +ℤ to_z w16 (of_z w16 d)))
      ≡ a +ℤ b +ℤ c +ℤ d
  four_is = to_z-of_z four_fits ∙ ap₂ ◌+ℤ◌ three_is rd

-- ---- the branch scores of a step
module _ (k : ℕ) (t : List (List ℤ)) (src : List ℕ) (at s : ℕ) (hs : s < 16) where
  pub branch_small : Table k t → mag (branch_of t k src at s) < 8
  branch_small table =
      four (score_of (get_or src at 0) (sign_at t 0 s)) (score_of (get_or src (at + 1) 0) (sign_at t 1 s)) (score_of (get_or src (at + 2) 0) (sign_at t 2 s))
      (score_of (get_or src (at + (k - 1)) 0) (sign_at t 3 s)) (score_trit (get_or src at 0) (sign_at t 0 s) (table_trit k t table 0 (omega arith) s hs))
      (score_trit (get_or src (at + 1) 0) (sign_at t 1 s) (table_trit k t table 1 (omega arith) s hs))
      (score_trit (get_or src (at + 2) 0) (sign_at t 2 s) (table_trit k t table 2 (omega arith) s hs))
      (score_trit (get_or src (at + (k - 1)) 0) (sign_at t 3 s) (table_trit k t table 3 (omega arith) s hs))

  row_is : (r j c : ℕ) (rows : List (List ℤ)) → c ≡ class_of r → Rows (get_or t j []) rows → get_or (get_or rows c []) s (pos 0) ≡ score_of r (sign_at t j s)
  row_is r j c rows e h = ap (λ (c : ℕ). get_or (get_or rows c []) s (pos 0)) e ∙ h (class_of r) s (class_lt r) hs ∙ class_score r (sign_at t j s)

  pub rows_branch : (a b c d : List (List ℤ)) (p q r o : ℕ) → p ≡ class_of (get_or src at 0) → q ≡ class_of (get_or src (at + 1) 0)
      → r ≡ class_of (get_or src (at + 2) 0) → o ≡ class_of (get_or src (at + (k - 1)) 0)
      → Rows (get_or t 0 []) a → Rows (get_or t 1 []) b → Rows (get_or t 2 []) c → Rows (get_or t 3 []) d
      → get_or (get_or a p []) s (pos 0) +ℤ get_or (get_or b q []) s (pos 0) +ℤ get_or (get_or c r []) s (pos 0) +ℤ get_or (get_or d o []) s (pos 0) ≡ branch_of t k src at s
  rows_branch a b c d p q r o ep eq er eo ha hb hc hd =
      ap₂ ◌+ℤ◌ (ap₂ ◌+ℤ◌ (ap₂ ◌+ℤ◌ (row_is (get_or src at 0) 0 p a ep ha) (row_is (get_or src (at + 1) 0) 1 q b eq hb)) (row_is (get_or src (at + 2) 0) 2 r c er hc))
      (row_is (get_or src (at + (k - 1)) 0) 3 o d eo hd)
