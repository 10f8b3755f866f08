-- What was found in the fronts of longer slices is found in the slices.
-- Assumes nothing.
use mathlib.Core.Path.{◌≡◌, sym, ap, ap₂, ◌∙◌, subst}
use mathlib.Core.List.{List, [], ◌++◌, append-nil}
use Prim.Native.Nat.{ℕ, ◌*◌, ◌≤◌}
use native.Mathlib.Omega.{arith}
use lib.ListN.{length, take, drop, replicate}
use lib.Seq.{take_all, length-take-le, drop-length}
use Rattle.base.specs.Bits.{disagrees}
use Rattle.trellis.specs.Nearest.{encode, distance, nearest}
use Rattle.trellis.proofs.Winners.{nearest_length}
use Rattle.convenc.specs.Generators.{outputs}
use Rattle.viterbi.specs.Decoding.{used, disagreements, decoded}
use Rattle.viterbi.specs.private.Finding.{Finds}

module _ (code : List (List ℕ)) (n : ℕ) (src target trellis : List ℕ) (long : length code * n ≤ length src) (steps : n ≤ length trellis) (room : n ≤ length target) where
  front_used : used code n (take (length code * n) src) ≡ used code n src
  front_used = take_all (length code * n) (take (length code * n) src) (omega (arith, length-take-le (length code * n) src long))

  front_decoded : decoded code n (take (length code * n) src) ≡ decoded code n src
  front_decoded = ap (λ (u : List ℕ). nearest (λ w. distance disagrees u (encode (outputs code) 0 w)) n) front_used

  front_disagreements : disagreements code n (take (length code * n) src) (decoded code n (take (length code * n) src)) ≡ disagreements code n src (decoded code n src)
  front_disagreements = ap₂ (λ (u w : List ℕ). distance disagrees u (encode (outputs code) 0 w)) front_used front_decoded

  rest_none : (l : List ℕ) → n ≤ length l → drop n (take n l) ≡ []
  rest_none l h = ap (λ (m : ℕ). drop m (take n l)) (sym (length-take-le n l h)) ∙ drop-length (take n l)

  pub found_in_front : {m : ℕ} {target' trellis' : List ℕ} {count : ℕ} → m ≡ n
      → Finds code m (take (length code * n) src) (take n target) target' (take n trellis) trellis' count
      → Finds code n src target (target' ++ drop n target) trellis (trellis' ++ drop n trellis) count
  found_in_front {target'} {trellis'} {count} e f =
      let g = subst (λ (m : ℕ). Finds code m (take (length code * n) src) (take n target) target' (take n trellis) trellis' count) e f in
      let size : length (decoded code n (take (length code * n) src)) ≡ n = nearest_length (disagreements code n (take (length code * n) src)) n in
      let word : target' ≡ decoded code n src =
      g.writes ∙ ap (λ (m : ℕ). decoded code n (take (length code * n) src) ++ drop m (take n target)) size
      ∙ ap (λ (l : List ℕ). decoded code n (take (length code * n) src) ++ l) (rest_none target room) ∙ append-nil (decoded code n (take (length code * n) src)) ∙ front_decoded in
      let blank : trellis' ≡ replicate n 0 =
      g.clears ∙ ap (λ (l : List ℕ). replicate n 0 ++ l) (rest_none trellis steps) ∙ append-nil (replicate n 0) in
      record {
        counts = g.counts ∙ front_disagreements;
        writes = ap₂ (λ (w : List ℕ) (m : ℕ). w ++ drop m target) word (sym (nearest_length (disagreements code n src) n));
        clears = ap (λ (l : List ℕ). l ++ drop n trellis) blank;
      }
