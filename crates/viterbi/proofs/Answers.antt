-- The parts put together: the word, its count, and what is left in target and trellis.
-- Assumes nothing.
use mathlib.Core.Path.{◌≡◌, refl, sym, ap, ap₂, ◌∙◌}
use mathlib.Core.List.{List, ◌∷◌, ◌++◌, reverse}
use Prim.Native.Nat.{ℕ, zero, suc, ◌+◌, ◌*◌, ◌/◌, ◌%◌, ◌^◌, ◌-◌, ◌≤◌, ◌<◌}
use native.Mathlib.Omega.{arith}
use lib.IntN.{ℤ, pos, negsuc}
use lib.Signed.{mag}
use lib.ListN.{length, get_or, take, drop, replicate, length-drop}
use lib.Seq.{ext_get_or, get_or-drop}
use mir.Syntax.{w16}
use mir.Val.{to_z, of_z}
use Rattle.base.specs.Bits.{disagrees, known}
use Rattle.base.specs.Places.{written}
use Rattle.std.specs.Prelude.{Result, Ok, Err}
use Rattle.base.proofs.Lists.{tabulate_length}
use Rattle.trellis.specs.Nearest.{encode, distance, total, Candidate}
use Rattle.trellis.specs.Walk.{before, branch}
use Rattle.trellis.specs.Trellis.{metric, choice, trace, begin, decode}
use Rattle.trellis.proofs.SameWalk.{starts_at_zero}
use Rattle.trellis.proofs.Encoding.{encode_same}
use Rattle.trellis.proofs.Winners.{nearest_same, nearest_wins}
use Rattle.trellis.proofs.Decoder.{decode_nearest, decode_distance}
use Rattle.convenc.specs.Generators.{outputs}
use Rattle.base.specs.declared.Refusal.{Refusal}
use Rattle.base.specs.Refusal.{accepted}
use Rattle.viterbi.specs.Decoding.{disagreements, decoded, decode_refusal, Decodes}
use Rattle.viterbi.specs.private.Scores.{down, Marks, Stands, mirrored, earlier, Table, told, Tells, handicap, received, Forward, walk, walk_end, Back}
use Rattle.viterbi.specs.private.Finding.{Finds}
use Rattle.viterbi.proofs.Signed.{reads}
use Rattle.viterbi.proofs.States.{mirrored_back, mirrored_newest, mirrored_earlier}
use Rattle.viterbi.proofs.Windows.{told_bits}
use Rattle.viterbi.proofs.Walking.{few, far_used}
use Rattle.viterbi.proofs.Pass.{scores_small, knowns_le}

-- ---- an answer with no refusal, and with one
pub answered : {code : List (List ℕ)} {n : ℕ} {src target target' trellis trellis' : List ℕ} {count : ℕ}
    → decode_refusal code n (length src) (length trellis) (length target) ≡ accepted
    → Finds code n src target target' trellis trellis' count → Decodes code n src target target' trellis trellis' (Ok count)
answered z f = record { answers = rw z (ap Ok f.counts); writes = rw z f.writes; clears = rw z f.clears }

pub refused : {code : List (List ℕ)} {n : ℕ} {src target trellis : List ℕ} {why : Refusal} {r : Result ℕ Refusal}
    → decode_refusal code n (length src) (length trellis) (length target) ≡ Err why → r ≡ Err why
    → Decodes code n src target target trellis trellis r
refused e z = record { answers = rw (e, z) refl; writes = rw e refl; clears = rw e refl }

-- ---- the walk over the choices is the trellis's own
module _ (k : ℕ) (t : List (List ℤ)) (src trellis : List ℕ) where
  abbrev Chosen : ℕ → Type 0
  Chosen n = (i : ℕ) → i < n → Marks (λ s. choice handicap (branch disagrees (told k t) k src i) (received k t src i) (mirrored s)) (get_or trellis i 0)

  -- the state that a step back leads to
  abbrev step : ℕ → ℕ → ℕ
  step i s = earlier (get_or trellis i 0 / 2 ^ s % 2) s

  step_is : (n s : ℕ) → s < 16 → Chosen (suc n)
      → mirrored (step n s) ≡ before (choice handicap (branch disagrees (told k t) k src n) (received k t src n) (mirrored s)) (mirrored s)
  step_is n s h d =
      mirrored_earlier (get_or trellis n 0 / 2 ^ s % 2) s (omega arith) h
      ∙ ap (λ (x : ℕ). before x (mirrored s)) (d n (omega arith) s h)

  walk_is : (n s : ℕ) → s < 16 → Chosen n → walk trellis n s ≡ trace handicap (received k t src n) (mirrored s)
  walk_is zero s h d = refl
  walk_is (suc n) s h d =
      ap₂ (λ (x : ℕ) (l : List ℕ). x ∷ l) (mirrored_newest s h)
      (walk_is n (step n s) (omega arith) (λ i p. d i (omega arith)) ∙ ap (trace handicap (received k t src n)) (step_is n s h d))

  end_is : (n s : ℕ) → s < 16 → Chosen n → walk_end trellis n s ≡ mirrored (begin handicap (received k t src n) (mirrored s))
  end_is zero s h d = sym (mirrored_back s h)
  end_is (suc n) s h d =
      end_is n (step n s) (omega arith) (λ i p. d i (omega arith))
      ∙ ap (λ (y : ℕ). mirrored (begin handicap (received k t src n) y)) (step_is n s h d)

-- ---- the walk ends in state 0
others : (s : ℕ) → 0 < s → 4 * 4 < handicap s
others zero h = absurd (omega arith)
others (suc s) h = omega arith

module _ (k : ℕ) (t : List (List ℤ)) (table : Table k t) (src : List ℕ) (n : ℕ) where
  starts : begin handicap (received k t src n) 0 ≡ 0
  starts = starts_at_zero handicap k refl (λ s h. omega (arith, others s h, table.most)) (received k t src n) (few (told k t) k (told_bits k t table) src n)

  -- so does the decoder's own walk, over the choices that its pass wrote
  pub own_walk_ends : (m : List ℤ) (was now : List ℕ) → Forward k t src n m was now → walk_end now n 0 ≡ 0
  unfolding mirrored
  own_walk_ends m was now f = end_is k t src now n 0 (omega arith) f.choices ∙ ap mirrored starts

  -- what was passed over, and the walk back over its choices
  module _ (hn : n ≤ 864) (room : k * n ≤ length src) (m : List ℤ) (was now now' target target' : List ℕ)
      (f : Forward k t src n m was now) (b : Back n now now' target target') where
    -- ---- what the count asks
    small : mag (get_or m 0 (pos 0)) < 20000
    small = scores_small k t table src n m was now hn room f 0 (omega arith)

    read : to_z w16 (of_z w16 (get_or m 0 (pos 0))) ≡ get_or m 0 (pos 0)
    read = reads (get_or m 0 (pos 0)) 20000 small (omega arith)

    down_le : (z : ℤ) (x y : ℕ) → Stands z x y → down z ≤ y
    down_le (pos a) x y h = omega arith
    down_le (negsuc a) x y h = omega arith

    pub count_asks : (symbols : ℕ) → symbols ≡ total known (take (k * n) src)
        → (mag (to_z w16 (of_z w16 (get_or m 0 (pos 0)))) < 20000) × (symbols ≤ 3456) × (down (to_z w16 (of_z w16 (get_or m 0 (pos 0)))) ≤ symbols)
    unfolding mirrored
    count_asks symbols e =
        rw read (
          small,
          omega (arith, knowns_le k t table src n hn),
          omega (arith, down_le (get_or m 0 (pos 0)) (metric handicap (received k t src n) 0) (total known (take (k * n) src)) (f.scores 0 (omega arith))),
        )

    -- ---- the answer
    module _ (code : List (List ℕ)) (tells : Tells code k t) where
      abbrev far : List ℕ → ℕ
      far v = distance disagrees src (encode (told k t) 0 v)

      far_is : (v : List ℕ) → Candidate n v → far v ≡ disagreements code n src v
      far_is v c =
          ap (distance disagrees src) (encode_same (told k t) (outputs code) tells.says 0 v (omega arith) c.bits)
          ∙ far_used code n src v c

      wide : (x : ℕ) → length (told k t x) ≡ k
      wide x = tabulate_length _ k

      decode_is : decode disagrees (told k t) k handicap src n ≡ decoded code n src
      decode_is = decode_nearest disagrees (told k t) k wide handicap src n room refl starts ∙ nearest_same far (disagreements code n src) n far_is

      word_is : reverse (walk now n 0) ≡ decoded code n src
      unfolding decode mirrored
      word_is = ap reverse (walk_is k t src now n 0 (omega arith) f.choices) ∙ decode_is

      count_is : metric handicap (received k t src n) 0 ≡ disagreements code n src (decoded code n src)
      count_is =
          sym (decode_distance disagrees (told k t) k wide handicap src n room refl starts)
          ∙ ap far decode_is ∙ far_is (decoded code n src) (nearest_wins (disagreements code n src) n).candidate

      rest : drop n now ≡ drop n was
      rest =
          ext_get_or 0 (drop n now) (drop n was) (length-drop n now ∙ ap (λ (x : ℕ). x - n) f.long ∙ sym (length-drop n was))
          (λ i h. get_or-drop n now i 0 ∙ f.rest (n + i) (omega arith) ∙ sym (get_or-drop n was i 0))

      pub found : (symbols count : ℕ) → symbols ≡ total known (take (k * n) src)
          → ((x : ℕ) → Stands (to_z w16 (of_z w16 (get_or m 0 (pos 0)))) x symbols → count ≡ x)
          → Finds code n src target target' was now' count
      unfolding mirrored
      found symbols count e h =
          record {
            counts = h (metric handicap (received k t src n) 0) (rw (read, e) (f.scores 0 (omega arith))) ∙ count_is;
            writes = b.word ∙ ap (λ (w : List ℕ). written w target) word_is;
            clears = b.clears ∙ ap (λ (l : List ℕ). replicate n 0 ++ l) rest;
          }
