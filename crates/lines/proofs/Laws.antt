-- Laws of numbers as text.
-- Assumes nothing.
use mathlib.Core.Path.{◌≡◌, refl, sym, ap, ◌∙◌}
use mathlib.Core.Bool.{Bool, true, false}
use mathlib.Core.List.{List, [], ◌∷◌, ◌++◌, append_assoc}
use Prim.Native.Nat.{ℕ, zero, suc, ◌+◌, ◌-◌, ◌^◌, ◌/◌, ◌%◌, ◌≤◌, ◌<◌}
use native.Mathlib.Omega.{arith}
use native.Mathlib.Numerals.{add-one}
use native.Mathlib.Nat.{pow-suc}
use borrow.Author.Tests.{ltb-true, ltb-false, lt-ltb, le-ltb}
use lib.Dec.{ltb}
use lib.ListN.{length, length-append, drop, set}
use Rattle.std.proofs.lemmas.List.{drop-set}
use Rattle.lines.specs.Lines.{counted, judged}
use Rattle.lines.specs.private.Widths.{SAID, heading}
use Rattle.lines.specs.Text.{sign, hex, decimal_within, decimal}

pub sign_low : (d : ℕ) → d < 10 → 48 + d ≡ sign d
unfolding sign
sign_low d h = simp (lt-ltb d 10 h)

pub sign_high : (d : ℕ) → 10 ≤ d → 87 + d ≡ sign d
unfolding sign
sign_high d h = simp (le-ltb d 10 h)

pub hex_length : (k n : ℕ) → length (hex k n) ≡ k
hex_length zero n = refl
hex_length (suc k) n = omega (arith, length-append (hex k (n / 16)) (sign (n % 16) ∷ []), hex_length k (n / 16))

-- ---- decimal digits
within_low : (t n : ℕ) → n < 10 → decimal_within t n ≡ sign (n % 10) ∷ []
unfolding decimal_within
within_low zero n h = refl
within_low (suc t) n h = simp (lt-ltb n 10 h)

within_high : (t n : ℕ) → 10 ≤ n → decimal_within (suc t) n ≡ decimal_within t (n / 10) ++ (sign (n % 10) ∷ [])
unfolding decimal_within
within_high t n h = simp (le-ltb n 10 h)

-- where the tenths are enough, more of them change nothing
enough : (t u n : ℕ) → n ≤ t → n ≤ u → decimal_within t n ≡ decimal_within u n
enough zero u n h k = within_low zero n (omega arith) ∙ sym (within_low u n (omega arith))
enough (suc t) zero n h k = within_low (suc t) n (omega arith) ∙ sym (within_low zero n (omega arith))
enough (suc t) (suc u) n h k = go (enough t u (n / 10)) (ltb n 10) refl
  where
    go : (n / 10 ≤ t → n / 10 ≤ u → decimal_within t (n / 10) ≡ decimal_within u (n / 10)) → (b : Bool) → ltb n 10 ≡ b → decimal_within (suc t) n ≡ decimal_within (suc u) n
    go ih true e = within_low (suc t) n (ltb-true n 10 e) ∙ sym (within_low (suc u) n (ltb-true n 10 e))
    go ih false e =
        let m = ltb-false n 10 e in
        within_high t n m ∙ ap (λ (l : List ℕ). l ++ (sign (n % 10) ∷ [])) (ih (omega arith) (omega arith)) ∙ sym (within_high u n m)

pub decimal_low : (n : ℕ) → n < 10 → decimal n ≡ sign (n % 10) ∷ []
decimal_low n h = within_low n n h

pub decimal_high : (n : ℕ) → 10 ≤ n → decimal n ≡ decimal (n / 10) ++ (sign (n % 10) ∷ [])
decimal_high zero h = absurd (omega arith)
decimal_high (suc n) h =
    within_high n (suc n) h ∙ ap (λ (l : List ℕ). l ++ (sign (suc n % 10) ∷ [])) (enough n (suc n / 10) (suc n / 10) (omega arith) (omega arith))

-- a number below 10 to the k has at most k digits
pub decimal_length : (k n : ℕ) → n < 10 ^ suc k → length (decimal n) ≤ suc k
decimal_length zero n h = omega (arith, ap length (decimal_low n (omega arith)))
decimal_length (suc k) n h = go (decimal_length k (n / 10)) (ltb n 10) refl
  where
    go : (n / 10 < 10 ^ suc k → length (decimal (n / 10)) ≤ suc k) → (b : Bool) → ltb n 10 ≡ b → length (decimal n) ≤ suc (suc k)
    go ih true e = omega (arith, ap length (decimal_low n (ltb-true n 10 e)))
    go ih false e =
        omega (
          arith,
          ap length (decimal_high n (ltb-false n 10 e)),
          length-append (decimal (n / 10)) (sign (n % 10) ∷ []),
          ih (omega (arith, pow-suc 10 (suc k))),
        )

-- ---- digits written from the last on
-- a digit stands before the others, and a tenth of the number is left
pub decimal_turn : (n rest at : ℕ) (digits : List ℕ) → 10 ≤ rest → rest < 10 ^ suc at → at < length digits → decimal n ≡ decimal rest ++ drop (suc at) digits
    → (rest / 10 < 10 ^ suc (at - 1)) × (decimal n ≡ decimal (rest / 10) ++ drop (suc (at - 1)) (set digits at (sign (rest % 10))))
decimal_turn n rest zero digits h l k e = absurd (omega arith)
decimal_turn n rest (suc at) digits h l k e =
    let one : suc at - 1 ≡ at = omega arith in
    let less : rest / 10 < 10 ^ suc at = omega (arith, pow-suc 10 (suc at)) in
    let more : decimal n ≡ decimal (rest / 10) ++ drop (suc at) (set digits (suc at) (sign (rest % 10))) =
    e ∙ ap (λ (t : List ℕ). t ++ drop (suc (suc at)) digits) (decimal_high rest h)
    ∙ append_assoc (decimal (rest / 10)) (sign (rest % 10) ∷ []) (drop (suc (suc at)) digits)
    ∙ ap (λ (j : ℕ). decimal (rest / 10) ++ sign (rest % 10) ∷ drop j digits) (sym (add-one (suc at)))
    ∙ ap (λ (t : List ℕ). decimal (rest / 10) ++ t) (sym (drop-set digits (suc at) (sign (rest % 10)) k)) in
    rw one (less, more)

-- the first digit
pub decimal_end : (n rest at : ℕ) (digits : List ℕ) → rest < 10 → at < length digits → decimal n ≡ decimal rest ++ drop (suc at) digits
    → drop at (set digits at (sign (rest % 10))) ≡ decimal n
decimal_end n rest at digits h k e =
    drop-set digits at (sign (rest % 10)) k
    ∙ ap (λ (j : ℕ). sign (rest % 10) ∷ drop j digits) (add-one at)
    ∙ ap (λ (t : List ℕ). t ++ drop (suc at) digits) (sym (decimal_low rest h)) ∙ sym e

-- ---- how long the texts are
pub counted_length : (word : List ℕ) (n : ℕ) → length (counted word n) ≡ length word + 1 + length (decimal n)
unfolding counted
counted_length word n = simp length-append

pub judged_length : (word : List ℕ) (place contents : ℕ) → length (judged word place contents) ≡ length (counted word place) + 1 + 4
unfolding judged
judged_length word place contents = simp length-append (omega (arith, hex_length 4 contents))

pub heading_length : (number kind : ℕ) → length (heading number kind) ≡ length (decimal number) + 1 + 2 + 1
unfolding heading
heading_length number kind = simp length-append (omega (arith, hex_length 2 kind))

-- a number of 64 bits has at most 20 digits
pub decimal_most : (n : ℕ) → n < 2 ^ 64 → length (decimal n) ≤ 20
decimal_most n h = decimal_length 19 n (omega arith)

pub heading_most : (number kind : ℕ) → number < 2 ^ 64 → length (heading number kind) ≤ 24
heading_most number kind h = omega (arith, heading_length number kind, decimal_most number h)

pub counted_most : (word : List ℕ) (n : ℕ) → length word ≤ 7 → n < 2 ^ 64 → length (counted word n) ≤ SAID
counted_most word n h k = omega (arith, counted_length word n, decimal_most n k)

pub judged_most : (word : List ℕ) (place contents : ℕ) → length word ≤ 7 → place < 2 ^ 64 → length (judged word place contents) ≤ SAID
judged_most word place contents h k =
    omega (arith, judged_length word place contents, counted_length word place, decimal_most place k)

-- how long the texts of a line are
pub ruleset sizes = (length-append, append_assoc, hex_length, counted_length, judged_length, heading_length, decimal_most, heading_most, counted_most, judged_most)
