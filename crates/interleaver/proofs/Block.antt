-- The block interleaver's places: a permutation exactly where nothing above 1 divides both numbers, so that each way undoes the other.
-- Assumes nothing.
use mathlib.Core.Path.{◌≡◌, refl, sym, ap, ◌∙◌}
use mathlib.Core.List.{List}
use mathlib.Core.Bool.{Bool, true, false, cond}
use Prim.Native.Nat.{ℕ, zero, suc, ◌+◌, ◌*◌, ◌-◌, ◌/◌, ◌%◌, ◌≤◌, ◌<◌}
use native.Mathlib.Nat.{mod-lt, mod-le, mod-mod, mod-add-mod, add-mod, add-mod_right, mod-eq_of_lt, mod-eq-sub-mod, mul_assoc, mul_comm, mul-one, mul-zero, mul-add, mul-le-mul, mul-mod_left, mul-add-mod_self_left, div-add-mod, mul-div_cancel', le_refl}
use native.Mathlib.Omega.{arith}
use lib.Dec.{ltb}
use borrow.Author.Tests.{ltb-true, ltb-false, le-ltb}
use lib.ListN.{length, take}
use Rattle.base.specs.declared.Refusal.TheVariants as refusals
use Rattle.base.specs.Refusal.{LIMIT, SHORT, ROOM, SHUFFLE, accepted, when}
use Rattle.base.specs.Places.{written, gather, scatter, Apart}
use Rattle.base.specs.private.Places.{Within}
use Rattle.base.proofs.Moves.{Onto, gather_same, scatter_same, gather_scatter, scatter_gather}
use Rattle.interleaver.specs.Interleaving.{place, shared, block_refusal, interleaved, deinterleaved}
use Rattle.interleaver.specs.private.Walk.{onward, walk, Ready}
use Rattle.base.proofs.Refusals.{passed}
use Rattle.interleaver.proofs.Divisors.{shared_by, only_one}
use Rattle.interleaver.proofs.Inverse.{Inverse, inverse}
use Rattle.interleaver.proofs.Walk.{walk_along}

-- ---- what no refusal says
pub record BlockFits (k a src dst : ℕ) : Type 0 where
  pub count : k ≤ 4096
  pub number : a ≤ 65535
  pub unshared : shared k a ≡ false
  pub long : k ≤ src
  pub room : k ≤ dst

pub block_accepted : (k a src dst : ℕ) → block_refusal k a src dst ≡ accepted → BlockFits k a src dst
block_accepted k a src dst h =
    let room = when (ltb dst k) ROOM accepted in
    let long = when (ltb src k) SHORT room in
    let shuffle = when (shared k a) SHUFFLE long in
    let p = passed (ltb 4096 k) refusals.Limit (when (ltb 65535 a) LIMIT shuffle) h in
    let q = passed (ltb 65535 a) refusals.Limit shuffle p.1 in
    let r = passed (shared k a) refusals.Shuffle long q.1 in
    let s = passed (ltb src k) refusals.Short room r.1 in
    let t = passed (ltb dst k) refusals.Room accepted s.1 in
    record {
      count = ltb-false 4096 k p.0;
      number = ltb-false 65535 a q.0;
      unshared = r.0;
      long = ltb-false src k s.0;
      room = ltb-false dst k t.0;
    }

-- ---- the places by adding
pub block_within : (k a : ℕ) → Within (place k a) k k
block_within k a i h = mod-lt (a * (i + 1)) (omega arith)

wrapped : (k u v : ℕ) → u < k → v < k → (t : Bool) → ltb (u + v) k ≡ t → cond t (u + v) (u + v - k) ≡ (u + v) % k
wrapped k u v p q true e = sym (mod-eq_of_lt (ltb-true (u + v) k e))
wrapped k u v p q false e =
    let h : k ≤ u + v = ltb-false (u + v) k e in
    let l : u + v - k < k = omega arith in
    sym (mod-eq-sub-mod h ∙ mod-eq_of_lt l)

place_next : (k a i : ℕ) → 0 < k → onward (a % k) k (place k a i) ≡ place k a (i + 1)
place_next k a i p =
    wrapped k (place k a i) (a % k) (mod-lt (a * (i + 1)) p) (mod-lt a p) (ltb (place k a i + a % k) k) refl
    ∙ sym (add-mod (a * (i + 1)) a k)
    ∙ ap (λ (n : ℕ). n % k) (sym (mul-add a (i + 1) 1 ∙ ap (λ (n : ℕ). a * (i + 1) + n) (mul-one a)))

pub block_walk : (k a step i : ℕ) → step ≡ a % k → i < k → walk step step k i ≡ place k a i
block_walk k a step i e h =
    ap (λ (s : ℕ). walk s s k i) e
    ∙ walk_along (place k a) (a % k) (a % k) k (λ _. ap (λ (n : ℕ). n % k) (sym (mul-one a))) (λ j l. place_next k a j (omega arith)) i h

-- ---- what the loops ask and leave
-- the three numbers of a block's walk
abbrev pub WalksBlock : ℕ → ℕ → ℕ → ℕ → ℕ → Type 0
WalksBlock k a start step count = (start ≡ a % k) × (step ≡ a % k) × (count ≡ k)

pub block_ready : (k a start step count src dst : ℕ) → WalksBlock k a start step count → block_refusal k a src dst ≡ accepted → Ready start step count src dst
block_ready k a start step count src dst w h =
    let fits = block_accepted k a src dst h in
    rw (w.0, w.1, w.2) (record {
      small_step = omega (arith, mod-le a k, fits.number);
      small_count = fits.count;
      long = fits.long;
      room = fits.room;
      stays = λ i l. omega (arith, block_walk k a (a % k) i refl l, block_within k a i l);
    })

pub block_spread : (k a start step count : ℕ) (src dst : List ℕ) → WalksBlock k a start step count
    → scatter (walk start step count) count src dst ≡ interleaved k a src dst
block_spread k a start step count src dst w =
    rw (w.0, w.1, w.2) (scatter_same (walk (a % k) (a % k) k) (place k a) k src dst (λ i l. block_walk k a (a % k) i refl l))

pub block_collect : (k a start step count : ℕ) (src dst : List ℕ) → WalksBlock k a start step count
    → written (gather (walk start step count) count src) dst ≡ written (deinterleaved k a src) dst
block_collect k a start step count src dst w =
    rw (w.0, w.1, w.2) (ap (λ (l : List ℕ). written l dst) (gather_same (walk (a % k) (a % k) k) (place k a) k src (λ i l. block_walk k a (a % k) i refl l)))

-- ---- a permutation where nothing is shared
times_remainder : (x y k : ℕ) → x * (y % k) % k ≡ x * y % k
times_remainder x y k =
    let h1 : x * (k * (y / k)) ≡ k * (x * (y / k)) = sym (mul_assoc x k (y / k)) ∙ (ap (λ (n : ℕ). n * (y / k)) (mul_comm x k) ∙ mul_assoc k x (y / k)) in
    let h2 : x * y ≡ k * (x * (y / k)) + x * (y % k) =
    ap (λ (n : ℕ). x * n) (sym (div-add-mod y k)) ∙ (mul-add x (k * (y / k)) (y % k) ∙ ap (λ (n : ℕ). n + x * (y % k)) h1) in
    sym (ap (λ (n : ℕ). n % k) h2 ∙ mul-add-mod_self_left k (x * (y / k)) (x * (y % k)))

module _ (k a : ℕ) (p : 0 < k) (v : Inverse a k) where
  abbrev b : ℕ
  b = v.0

  -- b undoes a, modulo k
  cancel : (n : ℕ) → b * (a * n) % k ≡ n % k
  cancel n =
      ap (λ (x : ℕ). x % k) (sym (mul_assoc b a n) ∙ (ap (λ (x : ℕ). x * n) (mul_comm b a) ∙ mul_comm (a * b) n))
      ∙ sym (times_remainder n (a * b) k) ∙ ap (λ (x : ℕ). n * x % k) v.1 ∙ times_remainder n 1 k ∙ ap (λ (x : ℕ). x % k) (mul-one n)

  -- the entry that goes to place j
  abbrev from : ℕ → ℕ
  from j = (b * j % k + (k - 1)) % k

  from_place : (i : ℕ) → i < k → from (place k a i) ≡ i
  from_place i h =
      let s : i + 1 + (k - 1) ≡ i + k = omega arith in
      ap (λ (n : ℕ). (n + (k - 1)) % k) (times_remainder b (a * (i + 1)) k ∙ cancel (i + 1))
      ∙ mod-add-mod (i + 1) k (k - 1) ∙ ap (λ (n : ℕ). n % k) s ∙ add-mod_right i k ∙ mod-eq_of_lt h

  place_from : (j : ℕ) → j < k → place k a (from j) ≡ j
  place_from j h =
      let s : b * j % k + (k - 1) + 1 ≡ b * j % k + k = omega arith in
      let up : (from j + 1) % k ≡ b * j % k = mod-add-mod (b * j % k + (k - 1)) k 1 ∙ ap (λ (n : ℕ). n % k) s ∙ add-mod_right (b * j % k) k ∙ mod-mod (b * j) k in
      sym (times_remainder a (from j + 1) k) ∙ ap (λ (n : ℕ). a * n % k) up ∙ times_remainder a (b * j) k
      ∙ ap (λ (x : ℕ). x % k) (sym (mul_assoc a b j) ∙ (ap (λ (x : ℕ). x * j) (mul_comm a b) ∙ mul_assoc b a j)) ∙ cancel j ∙ mod-eq_of_lt h

inverse_of : (k a : ℕ) → 0 < k → shared k a ≡ false → Inverse a k
inverse_of k a p h = inverse a k p (only_one k a p h)

pub block_apart : (k a : ℕ) → shared k a ≡ false → Apart (place k a) k
block_apart k a h i j p q e =
    let l : 0 < k = omega arith in
    let v = inverse_of k a l h in
    sym (from_place k a l v i p) ∙ ap (from k a l v) e ∙ from_place k a l v j q

pub block_onto : (k a : ℕ) → shared k a ≡ false → Onto (place k a) k
block_onto k a h x p =
    let l : 0 < k = omega arith in
    let v = inverse_of k a l h in
    (from k a l v x, mod-lt _ l, place_from k a l v x p)

-- ---- no permutation where something is shared
factor_positive : (d q k : ℕ) → 0 < k → d * q ≡ k → 0 < q
factor_positive d zero k p e = absurd (omega (arith, mul-zero d))
factor_positive d (suc q) k p e = omega arith

-- two entries go to one place
abbrev pub Clash : (ℕ → ℕ) → ℕ → Type 0
Clash place n = (i : ℕ) × (j : ℕ) × (i < j) × (j < n) × (place i ≡ place j)

meet : (k a d q e : ℕ) → 0 < k → 1 < d → d * q ≡ k → d * e ≡ a → Clash (place k a) k
meet k a d q e p l f g =
    let one = factor_positive d q k p f in
    let two : 2 * q ≤ d * q = mul-le-mul l (le_refl q) in
    let i : q - 1 + 1 ≡ q = omega arith in
    let j : k - 1 + 1 ≡ k = omega arith in
    let product : a * q ≡ e * k = ap (λ (n : ℕ). n * q) (sym g ∙ mul_comm d e) ∙ mul_assoc e d q ∙ ap (λ (n : ℕ). e * n) f in
    let early : place k a (q - 1) ≡ 0 = ap (λ (n : ℕ). a * n % k) i ∙ ap (λ (n : ℕ). n % k) product ∙ mul-mod_left e k in
    let late : place k a (k - 1) ≡ 0 = ap (λ (n : ℕ). a * n % k) j ∙ mul-mod_left a k in
    (q - 1, k - 1, omega arith, omega arith, early ∙ sym late)

pub block_clash : (k a : ℕ) → shared k a ≡ true → Clash (place k a) k
block_clash k a h =
    let s = shared_by k a h in
    let d = s.1.0 in
    meet k a d (k / d) (a / d) s.0 s.1.1 (mul-div_cancel' d s.1.2) (mul-div_cancel' d s.1.3)

-- SHUFFLE is given only when the places are no permutation
pub shuffle_given : (k a src dst : ℕ) → block_refusal k a src dst ≡ SHUFFLE → Clash (place k a) k
shuffle_given k a src dst h = go (ltb 4096 k) (ltb 65535 a) (shared k a) (ltb src k) (ltb dst k) refl h
  where
    go : (p q s l r : Bool) → shared k a ≡ s → when p LIMIT (when q LIMIT (when s SHUFFLE (when l SHORT (when r ROOM accepted)))) ≡ SHUFFLE → Clash (place k a) k
    go true q s l r e h = absurd cc
    go false true s l r e h = absurd cc
    go false false true l r e h = block_clash k a e
    go false false false true r e h = absurd cc
    go false false false false true e h = absurd cc
    go false false false false false e h = absurd cc

-- and always then, where the numbers are within their limits
pub shuffle_always : (k a src dst : ℕ) → k ≤ 4096 → a ≤ 65535 → Clash (place k a) k → block_refusal k a src dst ≡ SHUFFLE
shuffle_always k a src dst p q c = go (shared k a) refl
  where
    go : (s : Bool) → shared k a ≡ s → block_refusal k a src dst ≡ SHUFFLE
    go true e = simp (le-ltb 4096 k p, le-ltb 65535 a q, e)
    go false e = absurd (omega (arith, c.2, block_apart k a e c.0 c.1 (omega (arith, c.2, c.3)) c.3 c.4))

-- ---- each undoes the other
module _ (k a : ℕ) (src dst : List ℕ) (h : shared k a ≡ false) (long : k ≤ length src) (room : k ≤ length dst) where
  -- what was interleaved is deinterleaved back
  pub deinterleaved_interleaved : deinterleaved k a (interleaved k a src dst) ≡ take k src
  deinterleaved_interleaved = gather_scatter (place k a) k src dst (block_apart k a h) (λ i l. omega (arith, block_within k a i l)) long

  -- what was deinterleaved is interleaved back
  pub interleaved_deinterleaved : interleaved k a (deinterleaved k a src) dst ≡ written (take k src) dst
  interleaved_deinterleaved = scatter_gather (place k a) k src dst (block_apart k a h) (block_within k a) (block_onto k a h) long room
