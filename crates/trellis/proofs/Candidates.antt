-- The list of candidates holds each candidate and nothing else, in the order of the tie rule.
-- Assumes nothing.
use mathlib.Core.Path.{◌≡◌, refl, sym, ap, ◌∙◌, subst, subst₂}
use mathlib.Core.List.Memᴰ
use mathlib.Core.List.{List, [], ◌∷◌, ◌++◌, map, reverse, reverse-append, reverse-reverse, Memᴰ}
use mathlib.Core.Logic.{inl, inr, ⊎_elim}
use mathlib.Core.Bool.{Bool, true, false}
use Prim.Native.Nat.{ℕ, zero, suc, ◌+◌, ◌-◌, ◌<◌, min}
use native.Mathlib.Omega.{arith}
use lib.Dec.{ltb}
use borrow.Author.Tests.{ltb-true, ltb-false}
use lib.ListN.{length, take, drop, get_or, replicate, length-append, length-reverse, length-take, length-drop, take-append-drop, get_or-replicate, get_or-append, get_or-eq_default}
use lib.Seq.{ext_get_or, get_or-take}
use Rattle.base.specs.Bits.{Bits}
use Rattle.base.proofs.BitLaws.{bits_append}
use Rattle.trellis.specs.Nearest.{backwards, candidates, Lex, Candidate}
use Rattle.trellis.proofs.Order.{Sorted, sorted_append, sorted_map, lex_prefix}
use Rattle.trellis.proofs.Words.{bits_reverse, bits_drop, zeros_length, zeros_bits, zeros_at, zeros_reverse}

-- ---- all words of n bits
backwards_in : (w : List ℕ) → Bits w → Memᴰ w (backwards (length w))
backwards_in [] b = Memᴰ.head refl
backwards_in (zero ∷ w) b = Memᴰ.append_left (map (λ (v : List ℕ). 1 ∷ v) (backwards (length w))) (Memᴰ.map (λ (v : List ℕ). 0 ∷ v) (backwards_in w b.1))
backwards_in (suc zero ∷ w) b = Memᴰ.append_right (map (λ (v : List ℕ). 0 ∷ v) (backwards (length w))) (Memᴰ.map (λ (v : List ℕ). 1 ∷ v) (backwards_in w b.1))
backwards_in (suc (suc x) ∷ w) b = absurd (omega (arith, b.0))

abbrev Word : ℕ → List ℕ → Type 0
Word n w = (length w ≡ n) × Bits w

led_by : (b n : ℕ) (w : List ℕ) → b < 2 → ((v : List ℕ) → Memᴰ v (backwards n) → Word n v)
    → Memᴰ w (map (λ (v : List ℕ). b ∷ v) (backwards n)) → Word (suc n) w
led_by b n w h ih m =
    let (v, k, e) = Memᴰ.of_map (λ (v : List ℕ). b ∷ v) (backwards n) m in
    subst (Word (suc n)) e (ap suc (ih v k).0, (h, (ih v k).1))

backwards_of : (n : ℕ) (w : List ℕ) → Memᴰ w (backwards n) → Word n w
backwards_of zero w m = subst (Word 0) (sym (Memᴰ.eq_of_singleton m)) (refl, tt)
backwards_of (suc n) w m =
    ⊎_elim (led_by 0 n w (omega arith) (backwards_of n)) (led_by 1 n w (omega arith) (backwards_of n))
    (Memᴰ.append_cases (map (λ (v : List ℕ). 0 ∷ v) (backwards n)) m)

backwards_sorted : (n : ℕ) → Sorted Lex (backwards n)
backwards_sorted zero = ((λ v m. tt), tt)
backwards_sorted (suc n) =
    let ih = backwards_sorted n in
    sorted_append Lex (map (λ (v : List ℕ). 0 ∷ v) (backwards n)) (map (λ (v : List ℕ). 1 ∷ v) (backwards n)) (led 0 ih) (led 1 ih) apart
  where
    led : (b : ℕ) → Sorted Lex (backwards n) → Sorted Lex (map (λ (v : List ℕ). b ∷ v) (backwards n))
    led b ih = sorted_map Lex Lex (λ (v : List ℕ). b ∷ v) (backwards n) (λ u v p. inr (refl, p)) ih

    apart : (u v : List ℕ) → Memᴰ u (map (λ (v : List ℕ). 0 ∷ v) (backwards n)) → Memᴰ v (map (λ (v : List ℕ). 1 ∷ v) (backwards n)) → Lex u v
    apart u v p q =
        let (x, i, d) = Memᴰ.of_map (λ (v : List ℕ). 0 ∷ v) (backwards n) p in
        let (y, j, e) = Memᴰ.of_map (λ (v : List ℕ). 1 ∷ v) (backwards n) q in
        subst₂ Lex d e (inl (omega arith))

-- ---- with the zeros that end them
abbrev ended : ℕ → List ℕ → List ℕ
ended n w = reverse (replicate (min 4 n) 0 ++ w)

ended_is : (n : ℕ) (w : List ℕ) → Word (n - 4) w → Candidate n (ended n w)
ended_is n w p =
    record {
      len = omega (arith, length-reverse v, length-append (replicate (min 4 n) 0) w, zeros_length (min 4 n), p.0);
      bits = bits_reverse v (bits_append (replicate (min 4 n) 0) w (zeros_bits (min 4 n)) p.1);
      tail = λ i h. ap (λ (l : List ℕ). get_or l i 0) (reverse-reverse v) ∙ tail i h (ltb i n) refl;
    }
  where
    v : List ℕ
    v = replicate (min 4 n) 0 ++ w

    tail : (i : ℕ) → i < 4 → (t : Bool) → ltb i n ≡ t → get_or v i 0 ≡ 0
    tail i h true e =
        let l : i < min 4 n = omega (arith, ltb-true i n e) in
        get_or-append (replicate (min 4 n) 0) w 0 i (omega (arith, zeros_length (min 4 n))) ∙ get_or-replicate (min 4 n) i 0 0 l
    tail i h false e =
        get_or-eq_default v 0 (omega (arith, ltb-false i n e, length-append (replicate (min 4 n) 0) w, zeros_length (min 4 n), p.0))

-- a word that ends in zeros is one of these
of_ended : (n : ℕ) (v : List ℕ) → Candidate n v → v ≡ ended n (drop 4 (reverse v))
of_ended n v c = sym (reverse-reverse v) ∙ ap reverse (sym (take-append-drop 4 (reverse v)) ∙ ap (λ (l : List ℕ). l ++ drop 4 (reverse v)) front)
  where
    r : length (reverse v) ≡ n
    r = length-reverse v ∙ c.len

    l : length (take 4 (reverse v)) ≡ min 4 n
    l = length-take 4 (reverse v) ∙ ap (min 4) r

    front : take 4 (reverse v) ≡ replicate (min 4 n) 0
    front =
        ext_get_or 0 (take 4 (reverse v)) (replicate (min 4 n) 0) (l ∙ sym (zeros_length (min 4 n)))
        (λ i h. get_or-take 4 (reverse v) i 0 (omega (arith, l)) ∙ c.tail i (omega (arith, l)) ∙ sym (get_or-replicate (min 4 n) i 0 0 (omega (arith, l))))

pub candidates_of : (n : ℕ) (v : List ℕ) → Memᴰ v (candidates n) → Candidate n v
unfolding candidates
candidates_of n v m =
    let (w, k, e) = Memᴰ.of_map (ended n) (backwards (n - 4)) m in
    subst (Candidate n) e (ended_is n w (backwards_of (n - 4) w k))

pub candidates_in : (n : ℕ) (v : List ℕ) → Candidate n v → Memᴰ v (candidates n)
unfolding candidates
candidates_in n v c =
    Memᴰ.cast (of_ended n v c)
    (Memᴰ.map (ended n)
    (subst (λ (k : ℕ). Memᴰ (drop 4 (reverse v)) (backwards k)) (length-drop 4 (reverse v) ∙ ap (λ (k : ℕ). k - 4) (length-reverse v ∙ c.len))
    (backwards_in (drop 4 (reverse v)) (bits_drop 4 (reverse v) (bits_reverse v c.bits)))))

pub candidates_sorted : (n : ℕ) → Sorted (λ u v. Lex (reverse u) (reverse v)) (candidates n)
unfolding candidates
candidates_sorted n =
    sorted_map (λ u v. Lex (reverse u) (reverse v)) Lex (ended n) (backwards (n - 4))
    (λ u v p. subst₂ Lex (sym (reverse-reverse (replicate (min 4 n) 0 ++ u))) (sym (reverse-reverse (replicate (min 4 n) 0 ++ v)))
    (lex_prefix (replicate (min 4 n) 0) u v p))
    (backwards_sorted (n - 4))

pub zeros_candidate : (n : ℕ) → Candidate n (replicate n 0)
zeros_candidate n =
    record { len = zeros_length n; bits = zeros_bits n; tail = λ i h. ap (λ (l : List ℕ). get_or l i 0) (zeros_reverse n) ∙ zeros_at n i }

-- bits with four zeros behind them
pub tailed_candidate : (front : List ℕ) (n : ℕ) → Bits front → length front + 4 ≡ n → Candidate n (front ++ replicate 4 0)
tailed_candidate front n b e =
    record {
      len = length-append front (replicate 4 0) ∙ e;
      bits = bits_append front (replicate 4 0) b (zeros_bits 4);
      tail = λ i h. ap (λ (l : List ℕ). get_or l i 0) (reverse-append front (replicate 4 0)) ∙ get_or-append (replicate 4 0) (reverse front) 0 i h ∙ zeros_at 4 i;
    }
