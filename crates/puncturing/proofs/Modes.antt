-- Laws of the puncturing modes: the kept positions rise strictly, and the code's table holds them.
-- Assumes nothing.
use mathlib.Core.Path.{◌≡◌, refl, sym, ap, subst, ◌∙◌}
use mathlib.Core.List.{List, []}
use mathlib.Core.Bool.{Bool, true, false}
use Prim.Native.Nat.{ℕ, zero, suc, ◌+◌, ◌-◌, ◌*◌, ◌/◌, ◌%◌, ◌≤◌, ◌<◌}
use native.Mathlib.Nat.{mul-add, mul-one, mul-add-div, mul-add-mod_self_left, div-eq_of_lt, mod-eq_of_lt, mod-lt, div-add-mod}
use native.Mathlib.Numerals.{add-one}
use native.Mathlib.Omega.{arith}
use lib.Dec.{T, leb, ltb, eqb, eqb→eq, ltb→lt, leb→le}
use lib.ListN.{length, get_or}
use borrow.Author.Tests.{ltb-true, ltb-false, lt-leb}
use Rattle.base.specs.Bits.{either}
use Rattle.base.specs.Places.{Apart}
use Rattle.base.specs.private.Places.{Within}
use Rattle.base.proofs.Table.{below, at}
use Rattle.puncturing.specs.private.Tables.{runs, rows}
use Rattle.puncturing.specs.Puncturing.{periods, kept, index, position, position_of, kept_place, needed}

-- a rule of the seven modes
pub by_mode : (P : ℕ → Type 0) → P 0 → P 1 → P 2 → P 3 → P 4 → P 5 → P 6 → (mode : ℕ) → mode ≤ 6 → P mode
by_mode P a b c d e f g zero h = a
by_mode P a b c d e f g (suc zero) h = b
by_mode P a b c d e f g (suc (suc zero)) h = c
by_mode P a b c d e f g (suc (suc (suc zero))) h = d
by_mode P a b c d e f g (suc (suc (suc (suc zero)))) h = e
by_mode P a b c d e f g (suc (suc (suc (suc (suc zero))))) h = f
by_mode P a b c d e f g (suc (suc (suc (suc (suc (suc zero)))))) h = g
by_mode P a b c d e f g (suc (suc (suc (suc (suc (suc (suc mode))))))) h = absurd (omega arith)

abbrev pub t_of : ℕ → ℕ
t_of mode = length (get_or kept mode [])

abbrev pub period_of : ℕ → ℕ
period_of mode = get_or periods mode 0

abbrev pub kept_of : ℕ → List ℕ
kept_of mode = get_or kept mode []

-- ---- positions by the number of entries of P that are behind
-- the position after x entries of P
unfoldable pub entry : ℕ → ℕ → List ℕ → ℕ → ℕ
entry t period p x = period * (x / t) + get_or p (x % t) 0

pub position_entry : (mode j x : ℕ) → index mode (j + 1) ≡ x + 1 → position mode (j + 1) ≡ entry (t_of mode) (period_of mode) (kept_of mode) x
unfolding position entry
position_entry mode j x e =
    let same : x + 1 - 1 ≡ x = omega arith in
    let rest : x + 1 - t_of mode * (x / t_of mode) - 1 ≡ x % t_of mode = omega (arith, div-add-mod x (t_of mode)) in
    ap (λ (i : ℕ). position_of (period_of mode) (kept_of mode) i) e
    ∙ ap (λ (b : ℕ). period_of mode * (b / t_of mode) + get_or (kept_of mode) (x + 1 - t_of mode * (b / t_of mode) - 1) 0) same
    ∙ ap (λ (r : ℕ). period_of mode * (x / t_of mode) + get_or (kept_of mode) r 0) rest

-- ---- one entry on
pub quotient : (t q r : ℕ) → r < t → (t * q + r) / t ≡ q
quotient t q r h = mul-add-div (omega arith) q r ∙ omega (arith, div-eq_of_lt h)

pub remainder : (t q r : ℕ) → r < t → (t * q + r) % t ≡ r
remainder t q r h = mul-add-mod_self_left t q r ∙ mod-eq_of_lt h

-- quotient and remainder k later, within the same period or past its end
pub stays : (t x k : ℕ) → x % t + k < t → ((x + k) / t ≡ x / t) × ((x + k) % t ≡ x % t + k)
stays t x k h =
    let e : x + k ≡ t * (x / t) + (x % t + k) = omega (arith, div-add-mod x t) in
    (ap (λ (y : ℕ). y / t) e ∙ quotient t (x / t) (x % t + k) h, ap (λ (y : ℕ). y % t) e ∙ remainder t (x / t) (x % t + k) h)

pub wraps : (t x k : ℕ) → t ≤ x % t + k → x % t + k < t + t → ((x + k) / t ≡ x / t + 1) × ((x + k) % t ≡ x % t + k - t)
wraps t x k h l =
    let m : t * (x / t + 1) ≡ t * (x / t) + t = mul-add t (x / t) 1 ∙ ap (λ (y : ℕ). t * (x / t) + y) (mul-one t) in
    let e : x + k ≡ t * (x / t + 1) + (x % t + k - t) = omega (arith, div-add-mod x t) in
    let r : x % t + k - t < t = omega arith in
    (ap (λ (y : ℕ). y / t) e ∙ quotient t (x / t + 1) (x % t + k - t) r, ap (λ (y : ℕ). y % t) e ∙ remainder t (x / t + 1) (x % t + k - t) r)

-- ---- the kept positions rise
-- positions that rise within a period, and from its end to the next one's begin
pub record Climbs (t period : ℕ) (p : List ℕ) : Type 0 where
  pub some : 0 < t
  pub within : (r : ℕ) → r + 1 < t → get_or p r 0 < get_or p (r + 1) 0
  pub over : get_or p (t - 1) 0 < period + get_or p 0 0

pub entry_rises : (t period : ℕ) (p : List ℕ) → Climbs t period p → (x : ℕ) → entry t period p x < entry t period p (x + 1)
unfolding entry
entry_rises t period p c x = go (ltb (x % t + 1) t) refl
  where
    go : (b : Bool) → ltb (x % t + 1) t ≡ b → period * (x / t) + get_or p (x % t) 0 < period * ((x + 1) / t) + get_or p ((x + 1) % t) 0
    go true e =
        let l = ltb-true (x % t + 1) t e in
        let s = stays t x 1 l in
        rw (s.0, s.1) (omega (arith, c.within (x % t) l))
    go false e =
        let l = ltb-false (x % t + 1) t e in
        let m = mod-lt x {m = t} c.some in
        let s = wraps t x 1 l (omega arith) in
        let first : x % t + 1 - t ≡ 0 = omega arith in
        let last : x % t ≡ t - 1 = omega arith in
        rw (s.0, s.1, first, last, mul-add period (x / t) 1, mul-one period) (omega (arith, c.over))

-- what rises at each step rises
pub rises : (f : ℕ → ℕ) → ((x : ℕ) → f x < f (x + 1)) → (i j : ℕ) → i < j → f i < f j
rises f h i zero l = absurd (omega arith)
rises f h i (suc j) l = go (ltb i j) refl (rises f h i j) (subst (λ (n : ℕ). f j < f n) (add-one j) (h j))
  where
    go : (b : Bool) → ltb i j ≡ b → (i < j → f i < f j) → f j < f (suc j) → f i < f (suc j)
    go true e ih s = omega (arith, ih (ltb-true i j e))
    go false e ih s =
        let same : i ≡ j = omega (arith, ltb-false i j e) in
        subst (λ (n : ℕ). f n < f (suc j)) (sym same) s

-- a test of each mode, and of each of a mode's entries, says the rule
pub modes : (f : ℕ → Bool) → T (below f 7) → (mode : ℕ) → mode ≤ 6 → T (f mode)
modes f t mode h = at f 7 t mode (omega arith)

pub modes_le : (f g : ℕ → ℕ) → T (below (λ m. leb (f m) (g m)) 7) → (mode : ℕ) → mode ≤ 6 → f mode ≤ g mode
modes_le f g t mode h = leb→le (f mode) (g mode) (modes (λ m. leb (f m) (g m)) t mode h)

abbrev inside : (ℕ → ℕ → Bool) → ℕ → ℕ → Bool
inside f mode i = either (leb (t_of mode) i) (f mode i)

pub second : (a b : Bool) → a ≡ false → T (either a b) → T b
second a b e t = subst (λ (c : Bool). T (either c b)) e t

pub entries : (f : ℕ → ℕ → Bool) → T (below (λ m. below (inside f m) 17) 7) → (mode i : ℕ) → mode ≤ 6 → i < t_of mode → T (f mode i)
entries f t mode i h l =
    let most = modes_le t_of (λ m. 17) tt mode h in
    second (leb (t_of mode) i) (f mode i) (lt-leb (t_of mode) i l) (at (inside f mode) 17 (modes (λ m. below (inside f m) 17) t mode h) i (omega (arith, most)))

climbs : (mode : ℕ) → mode ≤ 6 → Climbs (t_of mode) (period_of mode) (kept_of mode)
climbs mode h = record {
  some = modes_le (λ m. 1) t_of tt mode h;
  within = λ r l.
      ltb→lt (get_or (kept_of mode) r 0) (get_or (kept_of mode) (r + 1) 0)
      (second (leb (t_of mode) (r + 1)) (ltb (get_or (kept_of mode) r 0) (get_or (kept_of mode) (r + 1) 0)) (lt-leb (t_of mode) (r + 1) l)
      (entries (λ m i. either (leb (t_of m) (i + 1)) (ltb (get_or (kept_of m) i 0) (get_or (kept_of m) (i + 1) 0))) tt mode r h (omega arith)));
  over =
      modes_le (λ m. suc (get_or (kept_of m) (t_of m - 1) 0)) (λ m. period_of m + get_or (kept_of m) 0 0) tt mode h;
}

-- i(j) rises
index_rises : (mode : ℕ) → mode ≤ 6 → (i j : ℕ) → i < j → index mode (i + 1) < index mode (j + 1)
index_rises mode h i j l =
    by_mode (λ m. index m (i + 1) < index m (j + 1)) (omega arith) (omega arith) (omega arith) (omega arith) (omega arith) (omega arith) (omega arith) mode h

index_some : (mode : ℕ) → mode ≤ 6 → (j : ℕ) → index mode (j + 1) ≡ index mode (j + 1) - 1 + 1
index_some mode h j =
    by_mode (λ m. index m (j + 1) ≡ index m (j + 1) - 1 + 1) (omega arith) (omega arith) (omega arith) (omega arith) (omega arith) (omega arith) (omega arith) mode h

-- k(j) is strictly rising, in each mode and for all j
pub position_rises : (mode : ℕ) → mode ≤ 6 → (i j : ℕ) → i < j → position mode (i + 1) < position mode (j + 1)
position_rises mode h i j l =
    let x = index mode (i + 1) - 1 in
    let y = index mode (j + 1) - 1 in
    let a = position_entry mode i x (index_some mode h i) in
    let b = position_entry mode j y (index_some mode h j) in
    let e = rises (entry (t_of mode) (period_of mode) (kept_of mode)) (entry_rises (t_of mode) (period_of mode) (kept_of mode) (climbs mode h)) x y
    (omega (arith, index_rises mode h i j l, index_some mode h i, index_some mode h j)) in
    omega (arith, a, b, e)

-- positions are counted from 1
pub position_some : (mode : ℕ) → mode ≤ 6 → (j : ℕ) → 1 ≤ position mode (j + 1)
unfolding entry
position_some mode h j =
    let x = index mode (j + 1) - 1 in
    let r = mod-lt x {m = t_of mode} (climbs mode h).some in
    let e = leb→le 1 (get_or (kept_of mode) (x % t_of mode) 0) (entries (λ m i. leb 1 (get_or (kept_of m) i 0)) tt mode (x % t_of mode) h r) in
    omega (arith, position_entry mode j x (index_some mode h j), e)

-- position j is at most three times j
pub position_most : (mode j : ℕ) → mode ≤ 6 → position mode (j + 1) ≤ 3 * (j + 1)
unfolding entry
position_most mode j h =
    let x = index mode (j + 1) - 1 in
    let r = mod-lt x {m = t_of mode} (climbs mode h).some in
    let e = leb→le (get_or (kept_of mode) (x % t_of mode) 0) (2 * (x % t_of mode) + 1)
    (entries (λ m i. leb (get_or (kept_of m) i 0) (2 * i + 1)) tt mode (x % t_of mode) h r) in
    omega (arith, position_entry mode j x (index_some mode h j), e, spread mode x h (index_some mode h j))
  where
    spread : (mode x : ℕ) → mode ≤ 6 → index mode (j + 1) ≡ x + 1 → period_of mode * (x / t_of mode) + (2 * (x % t_of mode) + 1) ≤ 3 * (j + 1)
    spread mode x h =
        by_mode (λ m. index m (j + 1) ≡ x + 1 → period_of m * (x / t_of m) + (2 * (x % t_of m) + 1) ≤ 3 * (j + 1))
        (λ e. omega arith) (λ e. omega arith) (λ e. omega arith) (λ e. omega arith) (λ e. omega arith) (λ e. omega arith) (λ e. omega arith) mode h

-- ---- places
pub kept_rises : (mode : ℕ) → mode ≤ 6 → (i j : ℕ) → i < j → kept_place mode i < kept_place mode j
kept_rises mode h i j l = omega (arith, position_rises mode h i j l, position_some mode h i)

-- no two outputs are kept from one place
pub kept_apart : (mode : ℕ) → mode ≤ 6 → (n : ℕ) → Apart (kept_place mode) n
kept_apart mode h n i j p q e = go (ltb i j) refl (ltb j i) refl
  where
    go : (a : Bool) → ltb i j ≡ a → (b : Bool) → ltb j i ≡ b → i ≡ j
    go true a b c = absurd (omega (arith, e, kept_rises mode h i j (ltb-true i j a)))
    go false a true c = absurd (omega (arith, e, kept_rises mode h j i (ltb-true j i c)))
    go false a false c = omega (arith, ltb-false i j a, ltb-false j i c)

-- the first n outputs are kept from places below k(n)
pub kept_within : (mode : ℕ) → mode ≤ 6 → (n : ℕ) → Within (kept_place mode) n (needed mode n)
unfolding needed
kept_within mode h zero i l = absurd (omega arith)
kept_within mode h (suc n) i l = subst (λ (m : ℕ). kept_place mode i < position mode m) (add-one n) (go (ltb i n) refl)
  where
    go : (a : Bool) → ltb i n ≡ a → kept_place mode i < position mode (n + 1)
    go true a = omega (arith, position_rises mode h i n (ltb-true i n a))
    go false a =
        let same : i ≡ n = omega (arith, ltb-false i n a) in
        subst (λ (m : ℕ). kept_place mode m < position mode (n + 1)) (sym same) (omega (arith, position_some mode h n))

pub needed_none : (mode n : ℕ) → n ≡ 0 → needed mode n ≡ 0
unfolding needed
needed_none mode zero h = refl
needed_none mode (suc n) h = absurd (omega arith)

pub needed_some : (mode n : ℕ) → (n ≡ 0 → ⊥) → needed mode n ≡ position mode (n - 1 + 1)
unfolding needed
needed_some mode zero h = absurd (h refl)
needed_some mode (suc n) h =
    let e : suc n ≡ suc n - 1 + 1 = omega arith in
    ap (position mode) e

-- ---- what the code holds
pub rows_kept : (mode i : ℕ) → mode ≤ 6 → i < t_of mode → get_or (get_or rows mode []) i 0 ≡ get_or (kept_of mode) i 0
rows_kept mode i h l =
    eqb→eq (get_or (get_or rows mode []) i 0) (get_or (kept_of mode) i 0)
    (entries (λ m i. eqb (get_or (get_or rows m []) i 0) (get_or (kept_of m) i 0)) tt mode i h l)

-- as many entries of P are behind as there were outputs and positions passed over
pub index_run : (mode : ℕ) → mode ≤ 6 → (j : ℕ) → j < 4096 → index mode (j + 1) ≡ j + j / get_or runs mode 0 + 1
index_run mode h j l =
    by_mode (λ m. index m (j + 1) ≡ j + j / get_or runs m 0 + 1) (omega arith) (omega arith) (omega arith) (omega arith) (omega arith) (omega arith) (omega arith) mode h
