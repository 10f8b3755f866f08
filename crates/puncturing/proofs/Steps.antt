-- Which outputs of a step survive puncturing: in all modes but 292_432 and 148_432, whose counts skip, the first one of every step.
-- Assumes nothing.
use mathlib.Core.Path.{◌≡◌, sym, ap, ap₂, ◌∙◌}
use mathlib.Core.List.{List, [], ◌∷◌}
use mathlib.Core.Bool.{Bool}
use Prim.Native.Nat.{ℕ, zero, suc, ◌+◌, ◌-◌, ◌*◌, ◌/◌, ◌%◌, ◌≤◌, ◌<◌}
use native.Mathlib.Nat.{mul-add, mul_comm, mul_assoc, mod-lt, div-add-mod, mul-add-div}
use native.Mathlib.Omega.{arith}
use lib.Dec.{T, leb, ltb, eqb, eqb→eq, leb→le, ltb→lt}
use lib.ListN.{get_or}
use borrow.Author.Tests.{lt-leb}
use Rattle.base.specs.Bits.{both, either}
use Rattle.base.specs.private.Places.{Within}
use Rattle.base.proofs.Table.{below, at, both_left, both_right}
use Rattle.puncturing.specs.Puncturing.{index, position, kept_place}
use Rattle.puncturing.proofs.Modes.{by_mode, modes, modes_le, t_of, period_of, kept_of, entry, position_entry, quotient, remainder, kept_rises, second}

-- how many outputs a step has, by mode: four of the control code, three of the speech code
abbrev pub rates : List ℕ
rates = 4 ∷ 4 ∷ 4 ∷ 4 ∷ 3 ∷ 3 ∷ 3 ∷ []

-- how many steps a period has, by mode
abbrev pub steps : List ℕ
steps = 2 ∷ 2 ∷ 2 ∷ 2 ∷ 2 ∷ 4 ∷ 8 ∷ []

-- the modes in which i(j) is j
abbrev pub plain : ℕ → Bool
plain mode = both (leb mode 6) (either (ltb mode 2) (ltb 3 mode))

-- the output that is the first of step s
abbrev pub first : ℕ → ℕ → ℕ
first mode s = (t_of mode * s + (get_or steps mode 1 - 1)) / get_or steps mode 1

plain_index : (mode : ℕ) → T (plain mode) → (j : ℕ) → index mode (j + 1) ≡ j + 1
plain_index zero t j = omega arith
plain_index (suc zero) t j = omega arith
plain_index (suc (suc zero)) t j = absurd t
plain_index (suc (suc (suc zero))) t j = absurd t
plain_index (suc (suc (suc (suc mode)))) t j = omega arith

pub plain_mode : (mode : ℕ) → T (plain mode) → mode ≤ 6
plain_mode mode t = leb→le mode 6 (both_left (leb mode 6) (either (ltb mode 2) (ltb 3 mode)) t)

leads : ℕ → ℕ → Bool
leads mode r =
    either (leb (get_or steps mode 1) r)
    (both (ltb (first mode r) (t_of mode)) (eqb (get_or (kept_of mode) (first mode r) 0) (get_or rates mode 0 * r + 1)))

-- within a period
leading : (mode r : ℕ) → mode ≤ 6 → r < get_or steps mode 1 → (first mode r < t_of mode) × (get_or (kept_of mode) (first mode r) 0 ≡ get_or rates mode 0 * r + 1)
unfolding leads
leading mode r h l = (
  ltb→lt (first mode r) (t_of mode) (both_left a b test),
  eqb→eq (get_or (kept_of mode) (first mode r) 0) (get_or rates mode 0 * r + 1) (both_right a b test),
)
  where
    a : Bool
    a = ltb (first mode r) (t_of mode)

    b : Bool
    b = eqb (get_or (kept_of mode) (first mode r) 0) (get_or rates mode 0 * r + 1)

    test : T (both a b)
    test =
        second (leb (get_or steps mode 1) r) (both a b) (lt-leb (get_or steps mode 1) r l)
        (at (leads mode) 8 (modes (λ m. below (leads m) 8) tt mode h) r (omega (arith, modes_le (λ m. get_or steps m 1) (λ m. 8) tt mode h)))

swap : (t c q : ℕ) → t * (c * q) ≡ c * (t * q)
swap t c q = sym (mul_assoc t c q) ∙ ap (λ (n : ℕ). n * q) (mul_comm t c) ∙ mul_assoc c t q

-- after q whole periods
later : (t c q r s : ℕ) → 0 < c → s ≡ c * q + r → (t * s + (c - 1)) / c ≡ t * q + (t * r + (c - 1)) / c
later t c q r s some e =
    let m : t * s + (c - 1) ≡ c * (t * q) + (t * r + (c - 1)) = omega (arith, ap (λ (n : ℕ). t * n) e, mul-add t (c * q) r, swap t c q) in
    ap (λ (n : ℕ). n / c) m ∙ mul-add-div some (t * q) (t * r + (c - 1))

-- the first output of every step is kept
pub kept_first : (mode s : ℕ) → T (plain mode) → kept_place mode (first mode s) ≡ get_or rates mode 0 * s
unfolding entry
kept_first mode s plainly = omega (arith, kept_at, whole)
  where
    h : mode ≤ 6
    h = plain_mode mode plainly

    c : ℕ
    c = get_or steps mode 1

    some : 0 < c
    some = modes_le (λ m. 1) (λ m. get_or steps m 1) tt mode h

    lead : (first mode (s % c) < t_of mode) × (get_or (kept_of mode) (first mode (s % c)) 0 ≡ get_or rates mode 0 * (s % c) + 1)
    lead = leading mode (s % c) h (mod-lt s {m = c} some)

    here : first mode s ≡ t_of mode * (s / c) + first mode (s % c)
    here = later (t_of mode) c (s / c) (s % c) s some (sym (div-add-mod s c))

    kept_at : position mode (first mode s + 1) ≡ period_of mode * (s / c) + (get_or rates mode 0 * (s % c) + 1)
    kept_at =
        position_entry mode (first mode s) (first mode s) (plain_index mode plainly (first mode s))
        ∙ ap (λ (x : ℕ). period_of mode * (x / t_of mode) + get_or (kept_of mode) (x % t_of mode) 0) here
        ∙ ap₂ (λ (x y : ℕ). period_of mode * x + get_or (kept_of mode) y 0) (quotient (t_of mode) (s / c) (first mode (s % c)) lead.0)
        (remainder (t_of mode) (s / c) (first mode (s % c)) lead.0)
        ∙ ap (λ (x : ℕ). period_of mode * (s / c) + x) lead.1

    period : period_of mode ≡ get_or rates mode 0 * c
    period = eqb→eq (period_of mode) (get_or rates mode 0 * c) (modes (λ m. eqb (period_of m) (get_or rates m 0 * get_or steps m 1)) tt mode h)

    whole : get_or rates mode 0 * s ≡ period_of mode * (s / c) + get_or rates mode 0 * (s % c)
    whole =
        ap (λ (x : ℕ). get_or rates mode 0 * x) (sym (div-add-mod s c)) ∙ mul-add (get_or rates mode 0) (c * (s / c)) (s % c)
        ∙ ap (λ (x : ℕ). x + get_or rates mode 0 * (s % c)) (sym (mul_assoc (get_or rates mode 0) c (s / c)) ∙ ap (λ (x : ℕ). x * (s / c)) (sym period))

-- n outputs that reach over m steps have those of each of them; n outputs within m steps come before what follows
first_below : (mode n m s : ℕ) → mode ≤ 6 → t_of mode * m ≤ get_or steps mode 1 * n → s < m → first mode s < n
first_below mode n m s h =
    by_mode (λ k. t_of k * m ≤ get_or steps k 1 * n → s < m → first k s < n)
    (λ a b. omega arith) (λ a b. omega arith) (λ a b. omega arith) (λ a b. omega arith) (λ a b. omega arith) (λ a b. omega arith) (λ a b. omega arith) mode h

first_over : (mode n m : ℕ) → mode ≤ 6 → get_or steps mode 1 * n ≤ t_of mode * m → n ≤ first mode m
first_over mode n m h =
    by_mode (λ k. get_or steps k 1 * n ≤ t_of k * m → n ≤ first k m)
    (λ a. omega arith) (λ a. omega arith) (λ a. omega arith) (λ a. omega arith) (λ a. omega arith) (λ a. omega arith) (λ a. omega arith) mode h

-- of n outputs that reach over m steps, one is the first of step s
pub kept_first_of : (mode n m s : ℕ) → T (plain mode) → t_of mode * m ≤ get_or steps mode 1 * n → s < m
    → (j : ℕ) × (j < n) × (kept_place mode j ≡ get_or rates mode 0 * s)
kept_first_of mode n m s plainly h l = (first mode s, first_below mode n m s (plain_mode mode plainly) h l, kept_first mode s plainly)

-- n outputs within m steps are all kept from those steps
pub kept_steps : (mode n m : ℕ) → T (plain mode) → get_or steps mode 1 * n ≤ t_of mode * m → Within (kept_place mode) n (get_or rates mode 0 * m)
kept_steps mode n m plainly h j l =
    let k = plain_mode mode plainly in
    omega (arith, kept_rises mode k j (first mode m) (omega (arith, first_over mode n m k h)), kept_first mode m plainly)
