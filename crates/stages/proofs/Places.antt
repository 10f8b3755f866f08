-- Where a symbol stands after each stage: moved to its place and scrambled, fetched and descrambled, kept and put back among erasures.
-- Assumes nothing.
use mathlib.Core.Path.{◌≡◌, ap, ◌∙◌}
use mathlib.Core.List.{List}
use mathlib.Core.Bool.{false}
use Prim.Native.Nat.{ℕ, ◌+◌, ◌*◌, ◌%◌, ◌≤◌, ◌<◌}
use native.Mathlib.Omega.{arith}
use lib.ListN.{length, take, get_or, replicate, length-replicate, get_or-replicate}
use lib.Seq.{length-take-le, get_or-take, take_all}
use Rattle.base.specs.Bits.{Bits, ERASED}
use Rattle.base.specs.Places.{gather, scatter, Apart}
use Rattle.base.specs.private.Places.{Within}
use Rattle.base.proofs.Moves.{gather_at, scatter_length, scatter_hit, scatter_miss, gather_scatter}
use Rattle.trellis.specs.Nearest.{encode}
use Rattle.trellis.proofs.Words.{zeros_bits}
use Rattle.air.proofs.Moved.{scatter_bits}
use Rattle.stages.proofs.Route.{Missed}
use Rattle.convenc.specs.Generators.{outputs}
use Rattle.puncturing.specs.Puncturing.{kept_place, punctured, depunctured}
use Rattle.puncturing.proofs.Modes.{kept_apart}
use Rattle.interleaver.specs.Interleaving.{place, shared, interleaved, deinterleaved}
use Rattle.interleaver.proofs.Block.{block_apart, block_within}
use Rattle.scrambler.specs.Scrambling.{scrambled, descrambled, descrambled_symbol, output}
use Rattle.scrambler.proofs.Blocks.{scrambled_at, scrambled_length, scrambled_bits, descrambled_at, descrambled_scrambled}
use Rattle.stages.proofs.Passage.{Passage, Arrival}

-- ---- moved and scrambled, through any places
abbrev moved : (ℕ → ℕ) → ℕ → List ℕ → List ℕ
moved p n src = scatter p n src (replicate n 0)

moved_length : (p : ℕ → ℕ) (n : ℕ) (src : List ℕ) → length (moved p n src) ≡ n
moved_length p n src = scatter_length p n src (replicate n 0) ∙ length-replicate n 0

pub sent_length : (p : ℕ → ℕ) (n start : ℕ) (src : List ℕ) → length (scrambled start (moved p n src)) ≡ n
sent_length p n start src = scrambled_length start (moved p n src) ∙ moved_length p n src

module _ (p : ℕ → ℕ) (n start : ℕ) (apart : Apart p n) (within : Within p n n) where
  inside : Within p n (length (replicate {A = ℕ} n 0))
  inside i h = omega (arith, within i h, length-replicate {A = ℕ} n 0)

  pub sent_at : (src : List ℕ) (j : ℕ) → j < n → get_or (scrambled start (moved p n src)) (p j) 0 ≡ (get_or src j 0 + output start (p j)) % 2
  sent_at src j h =
      scrambled_at start (moved p n src) (p j) (omega (arith, moved_length p n src, within j h))
      ∙ ap (λ (y : ℕ). (y + output start (p j)) % 2) (scatter_hit p n src (replicate n 0) apart inside j h)

  pub heard_at : (air : List ℕ) → n ≤ length air → (j : ℕ) → j < n
      → get_or (gather p n (descrambled start (take n air))) j 0 ≡ descrambled_symbol (get_or air (p j) 0) (output start (p j))
  heard_at air long j h =
      gather_at p n (descrambled start (take n air)) j h ∙ descrambled_at start (take n air) (p j) (omega (arith, within j h, length-take-le n air long))
      ∙ ap (λ (r : ℕ). descrambled_symbol r (output start (p j))) (get_or-take n air (p j) 0 (within j h))

  -- what was sent is fetched as it was
  pub moved_back : (src : List ℕ) → Bits src → length src ≡ n → gather p n (descrambled start (scrambled start (moved p n src))) ≡ src
  moved_back src plain long =
      ap (gather p n) (descrambled_scrambled start (moved p n src) (scatter_bits p n src (replicate n 0) plain (zeros_bits n)))
      ∙ gather_scatter p n src (replicate n 0) apart inside (omega arith) ∙ take_all n src (omega arith)

-- ---- kept of m mother symbols, and put back among as many erasures
module _ (mode k m : ℕ) (known : mode ≤ 6) (within : Within (kept_place mode) k m) (coded : List ℕ) where
  abbrev blank : List ℕ
  blank = replicate m ERASED

  pub put_length : length (depunctured mode k coded blank) ≡ m
  put_length = scatter_length (kept_place mode) k coded blank ∙ length-replicate m ERASED

  pub put_at : (j : ℕ) → j < k → get_or (depunctured mode k coded blank) (kept_place mode j) 0 ≡ get_or coded j 0
  put_at = scatter_hit (kept_place mode) k coded blank (kept_apart mode known k) (λ i h. omega (arith, within i h, length-replicate m ERASED))

  pub put_missed : (x : ℕ) → x < m → Missed (kept_place mode) k x → get_or (depunctured mode k coded blank) x 0 ≡ ERASED
  put_missed x h miss = scatter_miss (kept_place mode) k coded blank x miss ∙ get_or-replicate m x ERASED 0 h

-- ---- one mode and the block interleaver
module _ (code : List (List ℕ)) (mode n k a start : ℕ) (known : mode ≤ 6) (alone : shared k a ≡ false) (within : Within (kept_place mode) k (length code * n)) where
  pub block_passage : Passage code n start k (kept_place mode) (place k a) (λ w. scrambled start (interleaved k a (punctured mode k (encode (outputs code) 0 w)) (replicate k 0)))
  block_passage =
      record {
        apart = kept_apart mode known k;
        within = within;
        plain = λ w. scrambled_bits start (interleaved k a (punctured mode k (encode (outputs code) 0 w)) (replicate k 0));
        sends = λ w e j h. sent_at (place k a) k start (block_apart k a alone) (block_within k a) (punctured mode k (encode (outputs code) 0 w)) j h
            ∙ ap (λ (y : ℕ). (y + output start (place k a j)) % 2) (gather_at (kept_place mode) k (encode (outputs code) 0 w) j h);
      }

  pub block_arrival : (air : List ℕ) → k ≤ length air
      → Arrival code n start k (kept_place mode) (place k a) air (depunctured mode k (deinterleaved k a (descrambled start (take k air))) (replicate (length code * n) ERASED))
  block_arrival air long =
      record {
        long = put_length mode k (length code * n) known within fetched;
        given = λ j h. put_at mode k (length code * n) known within fetched j h ∙ heard_at (place k a) k start (block_apart k a alone) (block_within k a) air long j h;
        missed = put_missed mode k (length code * n) known within fetched;
      }
    where
      fetched : List ℕ
      fetched = deinterleaved k a (descrambled start (take k air))
