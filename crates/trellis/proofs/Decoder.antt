-- The walk back from state 0 gives the winner, and the score of state 0 is its distance.
-- Assumes nothing.
use mathlib.Core.Path.{◌≡◌, refl, sym, ap, ◌∙◌, subst}
use mathlib.Core.List.{List, [], ◌∷◌, ◌++◌, append-nil, reverse, reverse-cons, reverse-reverse}
use mathlib.Core.Logic.{inl, inr}
use mathlib.Core.Option.{some}
use mathlib.Core.Bool.{Bool, true, false}
use Prim.Native.Nat.{ℕ, zero, suc, ◌+◌, ◌*◌, ◌≤◌, ◌<◌}
use native.Mathlib.Nat.{mul-suc}
use native.Mathlib.Omega.{arith}
use lib.Dec.{ltb}
use borrow.Author.Tests.{ltb-true, ltb-false}
use lib.ListN.{length, take, drop, get_or, length-reverse, length-take}
use Rattle.base.specs.Bits.{Bits}
use Rattle.trellis.specs.Nearest.{encode, distance, nearest, Lex, Candidate, Before, Winner}
use Rattle.trellis.specs.private.Nearest.{after}
use Rattle.trellis.specs.Walk.{branch, steps, bits_back, score, best_way}
use Rattle.trellis.specs.Trellis.{state, cost, metric, trace, begin, Bounded, decode}
use Rattle.trellis.proofs.Words.{bits_reverse, after_state}
use Rattle.trellis.proofs.Paths.{trace_length, trace_bits, trace_ends, trace_costs, least, first, state_lt}
use Rattle.trellis.proofs.Encoding.{distance_take, distance_split, Each, encode_length, encode_append}
use Rattle.trellis.proofs.Winners.{winner_nearest}
use Rattle.trellis.proofs.SameWalk.{starts_at_zero, walk_traced, score_kept}

pub steps_length : {A : Type 0} (m : A → ℕ → ℕ) (out : ℕ → List ℕ) (k : ℕ) (r : List A) (n : ℕ) → length (steps m out k r n) ≡ n
steps_length m out k r zero = refl
steps_length m out k r (suc n) = ap suc (steps_length m out k r n)

each_take : {A : Type 0} (P : A → Type 0) (k : ℕ) (r : List A) → Each P r → Each P (take k r)
each_take P zero r h = tt
each_take P (suc k) [] h = tt
each_take P (suc k) (a ∷ r) h = (h.0, each_take P k r h.1)

each_drop : {A : Type 0} (P : A → Type 0) (k : ℕ) (r : List A) → Each P r → Each P (drop k r)
each_drop P zero r h = h
each_drop P (suc k) [] h = tt
each_drop P (suc k) (a ∷ r) h = each_drop P k r h.1

-- what the symbols of a step can cost bounds each branch
pub steps_bounded : {A : Type 0} (m : A → ℕ → ℕ) (out : ℕ → List ℕ) (k most : ℕ) (P : A → Type 0)
    → ((l : List A) → length l ≤ k → Each P l → (x : ℕ) → x < 32 → distance m l (out x) ≤ most)
    → (r : List A) → Each P r → (n : ℕ) → Bounded most (steps m out k r n)
steps_bounded m out k most P cap r e zero = tt
steps_bounded m out k most P cap r e (suc n) = (
  λ x h. cap (take k (drop (k * n) r)) (omega (arith, length-take k (drop (k * n) r))) (each_take P k (drop (k * n) r) (each_drop P (k * n) r e)) x h,
  steps_bounded m out k most P cap r e n,
)

-- ---- a word's cost, from its last bit on, is its distance to what was received
cost_is : {A : Type 0} (m : A → ℕ → ℕ) (out : ℕ → List ℕ) (k : ℕ) → ((x : ℕ) → length (out x) ≡ k)
    → (start : ℕ → ℕ) (r : List A) (n : ℕ) (w : List ℕ) → length w ≡ n → k * n ≤ length r
    → cost start 0 (steps m out k r n) w ≡ start 0 + distance m r (encode out 0 (reverse w))
cost_is m out k wide start [] zero [] e h = omega arith
cost_is m out k wide start (r ∷ rs) zero [] e h = omega arith
cost_is m out k wide start r zero (b ∷ w) e h = absurd (omega arith)
cost_is m out k wide start r (suc n) [] e h = absurd (omega arith)
cost_is m out k wide start r (suc n) (b ∷ w) e h =
    let y = encode out 0 (reverse w) in
    let z = out (16 * b + after 0 (reverse w)) in
    let l : length w ≡ n = omega arith in
    omega (
      arith,
      cost_is m out k wide start r n w l (omega (arith, mul-suc k n)),
      ap (λ (s : ℕ). branch m out k r n (16 * b + s)) (after_state 0 w),
      distance_take m k (drop (k * n) r) z (omega (arith, wide (16 * b + after 0 (reverse w)))),
      distance_split m r (k * n) y z (omega (arith, mul-suc k n)) (encode_length out k wide 0 (reverse w) ∙ ap (λ (x : ℕ). k * x) (length-reverse w ∙ l)),
      ap (distance m r) (ap (encode out 0) (reverse-cons b w) ∙ encode_append out 0 (reverse w) (b ∷ []) ∙ ap (λ (q : List ℕ). y ++ q) (append-nil z)),
    )

-- ---- words that lead to state 0
-- those whose last four bits are 0
tail_state : (w : List ℕ) → Bits w → ((i : ℕ) → i < 4 → get_or w i 0 ≡ 0) → state 0 w ≡ 0
tail_state [] b t = refl
tail_state (w₀ ∷ []) b t = omega (arith, t 0 (omega arith))
tail_state (w₀ ∷ w₁ ∷ []) b t = omega (arith, t 0 (omega arith), t 1 (omega arith))
tail_state (w₀ ∷ w₁ ∷ w₂ ∷ []) b t = omega (arith, t 0 (omega arith), t 1 (omega arith), t 2 (omega arith))
tail_state (w₀ ∷ w₁ ∷ w₂ ∷ w₃ ∷ w) b t =
    omega (
      arith,
      t 0 (omega arith),
      t 1 (omega arith),
      t 2 (omega arith),
      t 3 (omega arith),
      state_lt 0 w (omega arith) b.1.1.1.1,
    )

state_tail : (w : List ℕ) → state 0 w ≡ 0 → (i : ℕ) → i < 4 → get_or w i 0 ≡ 0
state_tail [] e i h = refl
state_tail (b ∷ w) e zero h = omega arith
state_tail (b ∷ []) e (suc i) h = refl
state_tail (b ∷ c ∷ w) e (suc zero) h = omega arith
state_tail (b ∷ c ∷ []) e (suc (suc i)) h = refl
state_tail (b ∷ c ∷ d ∷ w) e (suc (suc zero)) h = omega arith
state_tail (b ∷ c ∷ d ∷ []) e (suc (suc (suc i))) h = refl
state_tail (b ∷ c ∷ d ∷ f ∷ w) e (suc (suc (suc zero))) h = omega arith
state_tail (b ∷ c ∷ d ∷ f ∷ w) e (suc (suc (suc (suc i)))) h = absurd (omega arith)

-- ---- the decoder's word
module _ {A : Type 0} (m : A → ℕ → ℕ) (out : ℕ → List ℕ) (k : ℕ) (wide : (x : ℕ) → length (out x) ≡ k)
    (start : ℕ → ℕ) (r : List A) (n : ℕ) (enough : k * n ≤ length r)
    (zeroth : start 0 ≡ 0) (starts : begin start (steps m out k r n) 0 ≡ 0) where
  abbrev far : List ℕ → ℕ
  far v = distance m r (encode out 0 v)

  abbrev path : List ℕ
  path = trace start (steps m out k r n) 0

  far_back : (v : List ℕ) → length v ≡ n → cost start 0 (steps m out k r n) (reverse v) ≡ far v
  far_back v e =
      omega (arith, cost_is m out k wide start r n (reverse v) (length-reverse v ∙ e) enough, ap far (reverse-reverse v))

  -- no candidate is nearer than the score of state 0
  low : (v : List ℕ) → length v ≡ n → Bits v → state 0 (reverse v) ≡ 0 → metric start (steps m out k r n) 0 ≤ far v
  low v e b s =
      omega (
        arith,
        far_back v e,
        ap (metric start (steps m out k r n)) s,
        least start (steps m out k r n) 0 (reverse v) (omega arith) (bits_reverse v b) (omega (arith, length-reverse v, steps_length m out k r n)),
      )

  path_length : length path ≡ n
  path_length = trace_length start (steps m out k r n) 0 ∙ steps_length m out k r n

  path_state : state 0 path ≡ 0
  path_state = ap (λ (s : ℕ). state s path) (sym starts) ∙ trace_ends start (steps m out k r n) 0 (omega arith)

  path_far : far (reverse path) ≡ metric start (steps m out k r n) 0
  path_far =
      omega (
        arith,
        cost_is m out k wide start r n path path_length enough,
        ap (λ (s : ℕ). cost start s (steps m out k r n) path) starts,
        trace_costs start (steps m out k r n) 0 (omega arith),
      )

  path_before : (v : List ℕ) → Candidate n v → state 0 (reverse v) ≡ 0 → (t : Bool) → ltb (far (reverse path)) (far v) ≡ t → Before far (reverse path) v
  path_before v c s true e = inl (ltb-true (far (reverse path)) (far v) e)
  path_before v c s false e =
      let l = low v c.len c.bits s in
      let f = ltb-false (far (reverse path)) (far v) e in
      inr (
        omega (arith, f, l, path_far),
        subst (λ (l : List ℕ). Lex l (reverse v)) (sym (reverse-reverse path))
            (subst (λ (x : ℕ). Lex (trace start (steps m out k r n) x) (reverse v)) s
            (first start (steps m out k r n) 0 (reverse v) (omega arith) (bits_reverse v c.bits)
            (omega (arith, length-reverse v, c.len, steps_length m out k r n))
            (omega (arith, ap (metric start (steps m out k r n)) s, far_back v c.len, f, l, path_far)))),
      )

  -- it wins
  pub decode_wins : Winner (λ v. distance m r (encode out 0 v)) n (decode m out k start r n)
  unfolding decode
  decode_wins =
      record {
        candidate = record {
          len = length-reverse path ∙ path_length;
          bits = bits_reverse path (trace_bits start (steps m out k r n) 0 (omega arith));
          tail = state_tail (reverse (reverse path)) (ap (state 0) (reverse-reverse path) ∙ path_state);
        };
        wins = λ v c. path_before v c (tail_state (reverse v) (bits_reverse v c.bits) c.tail) (ltb (far (reverse path)) (far v)) refl;
      }

  pub decode_nearest : decode m out k start r n ≡ nearest (λ v. distance m r (encode out 0 v)) n
  decode_nearest = winner_nearest (λ v. distance m r (encode out 0 v)) n (decode m out k start r n) decode_wins

  -- the score of state 0 is its distance
  pub decode_distance : distance m r (encode out 0 (decode m out k start r n)) ≡ metric start (steps m out k r n) 0
  unfolding decode
  decode_distance = path_far

-- ---- the walk of Walk.antt
-- scores for all states to begin with, far enough from that of state 0
apart : ℕ → ℕ → ℕ
apart most zero = 0
apart most (suc s) = suc (4 * most)

apart_enough : (most s : ℕ) → 0 < s → 4 * most < apart most s
unfolding apart
apart_enough most zero h = absurd (omega arith)
apart_enough most (suc s) h = omega arith

module _ {A : Type 0} (m : A → ℕ → ℕ) (out : ℕ → List ℕ) (k : ℕ) (wide : (x : ℕ) → length (out x) ≡ k) (most : ℕ) (r : List A) (n : ℕ)
    (enough : k * n ≤ length r) (bounded : Bounded most (steps m out k r n)) where
  zeroth : apart most 0 ≡ 0
  unfolding apart
  zeroth = refl

  starts : begin (apart most) (steps m out k r n) 0 ≡ 0
  starts = starts_at_zero (apart most) most zeroth (apart_enough most) (steps m out k r n) bounded

  -- it gives the nearest word
  pub walk_nearest : reverse (bits_back best_way (steps m out k r n) 0) ≡ nearest (λ v. distance m r (encode out 0 v)) n
  unfolding decode
  walk_nearest =
      ap reverse (walk_traced (apart most) most zeroth (apart_enough most) (steps m out k r n) bounded)
      ∙ decode_nearest m out k wide (apart most) r n enough zeroth starts

  -- and the score of state 0 is that word's distance
  pub walk_score : score (steps m out k r n) 0 ≡ some (distance m r (encode out 0 (nearest (λ v. distance m r (encode out 0 v)) n)))
  walk_score =
      score_kept (apart most) most zeroth (apart_enough most) (steps m out k r n) bounded
      ∙ ap some (sym (decode_distance m out k wide (apart most) r n enough zeroth starts)
      ∙ ap (λ (w : List ℕ). distance m r (encode out 0 w)) (decode_nearest m out k wide (apart most) r n enough zeroth starts))
