-- The walk back: what is written and cleared behind it.
-- Assumes nothing.
use mathlib.Core.Path.{◌≡◌, refl, sym, ap, ap₂, ◌∙◌, subst}
use mathlib.Core.List.{List, [], ◌∷◌, ◌++◌, append_assoc, reverse, reverse_aux}
use Prim.Native.Nat.{ℕ, zero, suc, ◌+◌, ◌*◌, ◌/◌, ◌%◌, ◌^◌, ◌-◌, ◌≤◌, ◌<◌}
use native.Mathlib.Omega.{arith}
use lib.ListN.{length, get_or, take, drop, set, replicate, length-set, take-append-drop, get_or-append}
use lib.Seq.{take-suc, set_at, length-take-le, get_or-take}
use Rattle.viterbi.specs.private.Scores.{walk, Back}

-- with i steps to go, in state s
pub record Walked (n i s : ℕ) (trellis trellis' target target' : List ℕ) : Type 0 where
  pub low : s < 16
  pub clears : trellis' ≡ take i trellis ++ (replicate (n - i) 0 ++ drop n trellis)
  -- the bits that were met, the first first
  pub done : List ℕ
  pub long : length done ≡ n - i
  pub word : reverse_aux (walk trellis i s) done ≡ reverse (walk trellis n 0)
  pub writes : target' ≡ take i target ++ (done ++ drop n target)
  pub trellis_long : length trellis' ≡ length trellis
  pub target_long : length target' ≡ length target

pub walked_none : (n : ℕ) (trellis target : List ℕ) → Walked n n 0 trellis trellis target target
walked_none n trellis target =
    record {
      low = omega arith;
      clears = whole trellis ∙ ap (λ (x : ℕ). take n trellis ++ (replicate x 0 ++ drop n trellis)) z;
      done = [];
      long = z;
      word = refl;
      writes = whole target;
      trellis_long = refl;
      target_long = refl;
    }
  where
    z : 0 ≡ n - n
    z = omega arith

    whole : (l : List ℕ) → l ≡ take n l ++ drop n l
    whole l = sym (take-append-drop n l)

-- a store just before what is done
put_before : (l rest : List ℕ) (i x : ℕ) → i < length l → set (take (suc i) l ++ rest) i x ≡ take i l ++ (x ∷ rest)
put_before l rest i x h =
    ap (λ (q : List ℕ). set q i x) (ap (λ (q : List ℕ). q ++ rest) (take-suc l i 0 h) ∙ append_assoc (take i l) (get_or l i 0 ∷ []) rest)
    ∙ set_at (take i l) (get_or l i 0) rest x i (length-take-le i l (omega arith))

module _ (n i s : ℕ) (trellis trellis' target target' : List ℕ) (w : Walked n (suc i) s trellis trellis' target target')
    (hi : suc i ≤ n) (room : n ≤ length trellis) (fits : n ≤ length target) where
  choice_is : get_or trellis' i 0 ≡ get_or trellis i 0
  choice_is =
      ap (λ (l : List ℕ). get_or l i 0) w.clears
      ∙ get_or-append (take (suc i) trellis) (replicate (n - suc i) 0 ++ drop n trellis) 0 i (omega (arith, length-take-le (suc i) trellis (omega arith)))
      ∙ get_or-take (suc i) trellis i 0 (omega arith)

  walked_more : Walked n i (s / 2 + 8 * (get_or trellis i 0 / 2 ^ s % 2)) trellis (set trellis' i 0) target (set target' i (s % 2))
  walked_more =
      record {
        low = omega arith;
        clears = ap (λ (l : List ℕ). set l i 0) w.clears ∙ put_before trellis (replicate (n - suc i) 0 ++ drop n trellis) i 0 (omega arith)
            ∙ ap (λ (x : ℕ). take i trellis ++ (replicate x 0 ++ drop n trellis)) (sym e);
        done = s % 2 ∷ w.done;
        long = omega (arith, w.long);
        word = w.word;
        writes = ap (λ (l : List ℕ). set l i (s % 2)) w.writes ∙ put_before target (w.done ++ drop n target) i (s % 2) (omega arith);
        trellis_long = length-set trellis' i 0 ∙ w.trellis_long;
        target_long = length-set target' i (s % 2) ∙ w.target_long;
      }
    where
      e : n - i ≡ suc (n - suc i)
      e = omega arith

  walked_on : Walked n i (s / 2 + 8 * (get_or trellis' i 0 / 2 ^ s % 2)) trellis (set trellis' i 0) target (set target' i (s % 2))
  walked_on = subst (λ (x : ℕ). Walked n i (s / 2 + 8 * (x / 2 ^ s % 2)) trellis (set trellis' i 0) target (set target' i (s % 2))) (sym choice_is) walked_more

-- a turn of the loop
pub walked_back : (n i s : ℕ) (trellis trellis' target target' : List ℕ) → Walked n i s trellis trellis' target target' → 0 < i → i ≤ n → n ≤ length trellis → n ≤ length target
    → Walked n (i - 1) (s / 2 + 8 * (get_or trellis' (i - 1) 0 / 2 ^ s % 2)) trellis (set trellis' (i - 1) 0) target (set target' (i - 1) (s % 2))
walked_back n zero s trellis trellis' target target' w h l p q = absurd (omega arith)
walked_back n (suc i) s trellis trellis' target target' w h l p q =
    let e : suc i - 1 ≡ i = omega arith in
    rw e (walked_on n i s trellis trellis' target target' w l p q)

pub walked_all : (n s : ℕ) (trellis trellis' target target' : List ℕ) → Walked n 0 s trellis trellis' target target' → Back n trellis trellis' target target'
walked_all n s trellis trellis' target target' w =
    record {
      word = w.writes ∙ ap₂ (λ (l : List ℕ) (x : ℕ). l ++ drop x target) w.word long;
      clears = w.clears ∙ ap (λ (x : ℕ). replicate x 0 ++ drop n trellis) z;
    }
  where
    z : n - 0 ≡ n
    z = omega arith

    long : n ≡ length (reverse (walk trellis n 0))
    long = sym z ∙ sym w.long ∙ ap length w.word
