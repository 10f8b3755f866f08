-- Four symbols at a time.
-- Assumes nothing.
use mathlib.Core.Path.{◌≡◌, sym, ap, ap₂, subst, ◌∙◌}
use mathlib.Core.List.{List, [], ◌∷◌}
use mathlib.Core.Bool.{Bool}
use Prim.Native.Nat.{ℕ, ◌+◌, ◌*◌, ◌/◌, ◌%◌, ◌^◌, ◌≤◌, ◌<◌}
use native.Mathlib.Omega.{arith}
use lib.Dec.{eqb, eqb→eq}
use lib.ListN.{length, get_or, set, length-set}
use Rattle.base.specs.Places.{tabulate, written}
use Rattle.base.proofs.Lists.{tabulate_length, write_more, written_whole}
use Rattle.base.proofs.Table.{below, at}
use Rattle.scrambler.specs.Scrambling.{output, descrambled_symbol, descrambled}
use Rattle.scrambler.specs.private.Scrambling.{nexts}
use Rattle.scrambler.specs.private.Fours.{Spreads, Taken, Begun}
use Rattle.scrambler.proofs.AtOnce.{low_bit, register_more, register_next, register_fourth, register_output, register_outputs}
use Rattle.scrambler.proofs.Blocks.{write_ahead}

-- ---- the table of four bits
abbrev pub rows : List (List ℕ)
rows = (0 ∷ 0 ∷ 0 ∷ 0 ∷ []) ∷ (1 ∷ 0 ∷ 0 ∷ 0 ∷ []) ∷ (0 ∷ 1 ∷ 0 ∷ 0 ∷ []) ∷ (1 ∷ 1 ∷ 0 ∷ 0 ∷ []) ∷ (0 ∷ 0 ∷ 1 ∷ 0 ∷ []) ∷ (1 ∷ 0 ∷ 1 ∷ 0 ∷ []) ∷ (0 ∷ 1 ∷ 1 ∷ 0 ∷ []) ∷ (1 ∷ 1 ∷ 1 ∷ 0 ∷ []) ∷ (0 ∷ 0 ∷ 0 ∷ 1 ∷ []) ∷ (1 ∷ 0 ∷ 0 ∷ 1 ∷ []) ∷ (0 ∷ 1 ∷ 0 ∷ 1 ∷ []) ∷ (1 ∷ 1 ∷ 0 ∷ 1 ∷ []) ∷ (0 ∷ 0 ∷ 1 ∷ 1 ∷ []) ∷ (1 ∷ 0 ∷ 1 ∷ 1 ∷ []) ∷ (0 ∷ 1 ∷ 1 ∷ 1 ∷ []) ∷ (1 ∷ 1 ∷ 1 ∷ 1 ∷ []) ∷ []

told : ℕ → ℕ → Bool
told n e = eqb (get_or (get_or rows n []) e 0) (n / 2 ^ e % 2)

all_told : ℕ → Bool
all_told n = below (told n) 4

pub rows_spread : Spreads rows
unfolding told all_told
rows_spread n e h k = eqb→eq (get_or (get_or rows n []) e 0) (n / 2 ^ e % 2) (at (told n) 4 (at all_told 16 tt n h) e k)

pub spread_bits : (rows : List (List ℕ)) (n e : ℕ) → Spreads rows → e < 4 → get_or (get_or rows (n % 16) []) e 0 ≡ n / 2 ^ e % 2
spread_bits rows n e s h = s (n % 16) e (omega arith) h ∙ low_bit n 4 e h

-- ---- a symbol more
pub taken_more : (outputs : List ℕ) (k at v : ℕ) (b b' : List ℕ) → k < 4 → at + 4 ≤ length b → Taken outputs k at b b'
    → v ≡ descrambled_symbol (get_or b' (at + k) 0) (get_or outputs k 0) → Taken outputs (k + 1) at b (set b' (at + k) v)
taken_more outputs k at v b b' h m t e = (length-set b' (at + k) v ∙ t.0, more)
  where
    more : (f : ℕ → ℕ) (d : List ℕ) → b ≡ written (tabulate f at) d → length d ≡ length b
        → ((e : ℕ) → e < 4 → f (at + e) ≡ descrambled_symbol (get_or d (at + e) 0) (get_or outputs e 0)) → set b' (at + k) v ≡ written (tabulate f (at + (k + 1))) d
    more f d p l q =
        let w = t.1 f d p l q in
        let g = ap (λ (s : List ℕ). get_or s (at + k) 0) w ∙ write_ahead f (at + k) d in
        let u = e ∙ ap (λ (y : ℕ). descrambled_symbol y (get_or outputs k 0)) g ∙ sym (q k h) in
        let r : at + k + 1 ≡ at + (k + 1) = omega arith in
        ap₂ (λ (s : List ℕ) (y : ℕ). set s (at + k) y) w u ∙ write_more f (at + k) d (omega arith) ∙ ap (λ (i : ℕ). written (tabulate f i) d) r

-- ---- four symbols more
pub begun_more : (x i j lfsr r : ℕ) (outputs b b' b'' : List ℕ) → x < 2 ^ 32 → i % 4 ≡ 0 → j ≡ i + 4 → Begun x i lfsr b b' → (i % 32 ≡ 0 → r ≡ nexts lfsr 32) → ((i % 32 ≡ 0 → ⊥) → r ≡ lfsr)
    → ((e : ℕ) → e < 4 → get_or outputs e 0 ≡ r / 2 ^ (i % 32) / 2 ^ e % 2) → Taken outputs 4 i b' b'' → Begun x j r b b''
begun_more x i j lfsr r outputs b b' b'' h k n g p q o t = subst (λ (j : ℕ). Begun x j r b b'') (sym n) (record {
  register = new ∙ register_fourth x i k;
  long = t.0 ∙ g.long;
  entries = t.1 (λ j. descrambled_symbol (get_or b j 0) (output x j)) b g.entries (sym g.long) (λ e l. ap (descrambled_symbol (get_or b (i + e) 0)) (sym (out e l)));
})
  where
    new : r ≡ nexts x (i / 32 * 32 + 32)
    new = register_more x lfsr r i g.register p q

    out : (e : ℕ) → e < 4 → get_or outputs e 0 ≡ output x (i + e)
    out e l = o e l ∙ ap (λ (y : ℕ). y / 2 ^ (i % 32) / 2 ^ e % 2) new ∙ register_outputs x i e h k l

-- what was written is as long as it was, so it is counted by that
pub begun_long : (x r : ℕ) (b b' : List ℕ) → Begun x (length b / 4 * 4) r b b' → Begun x (length b' / 4 * 4) r b b'
begun_long x r b b' g = subst (λ (n : ℕ). Begun x (n / 4 * 4) r b b') (sym g.long) g

-- one symbol more
pub begun_one : (x i lfsr r v : ℕ) (b b' : List ℕ) → x < 2 ^ 32 → i < length b → Begun x i lfsr b b' → (i % 32 ≡ 0 → r ≡ nexts lfsr 32) → ((i % 32 ≡ 0 → ⊥) → r ≡ lfsr)
    → v ≡ descrambled_symbol (get_or b' i 0) (r / 2 ^ (i % 32) % 2) → Begun x (i + 1) r b (set b' i v)
begun_one x i lfsr r v b b' h k g p q e = record {
  register = new ∙ register_next x i;
  long = length-set b' i v ∙ g.long;
  entries = ap₂ (λ (s : List ℕ) (y : ℕ). set s i y) g.entries value ∙ write_more f i b k;
}
  where
    f : ℕ → ℕ
    f j = descrambled_symbol (get_or b j 0) (output x j)

    new : r ≡ nexts x (i / 32 * 32 + 32)
    new = register_more x lfsr r i g.register p q

    value : v ≡ f i
    value =
        e ∙ ap₂ descrambled_symbol (ap (λ (s : List ℕ). get_or s i 0) g.entries ∙ write_ahead f i b)
        (ap (λ (y : ℕ). y / 2 ^ (i % 32) % 2) new ∙ register_output x i h)

-- the whole block
pub begun_done : (x i r : ℕ) (b b' : List ℕ) → i ≡ length b → Begun x i r b b' → b' ≡ descrambled x b
begun_done x i r b b' e g =
    g.entries ∙ ap (λ (i : ℕ). written (tabulate f i) b) e ∙ written_whole (tabulate f (length b)) b (tabulate_length f (length b))
  where
    f : ℕ → ℕ
    f j = descrambled_symbol (get_or b j 0) (output x j)
