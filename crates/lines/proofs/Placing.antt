-- Laws of texts written into a target one after the other.
-- Assumes nothing.
use mathlib.Core.Path.{◌≡◌, sym, ap, ap₂, subst, ◌∙◌}
use mathlib.Core.List.{List, ◌++◌, append_assoc}
use Prim.Native.Nat.{ℕ, ◌+◌, ◌-◌, ◌≤◌}
use native.Mathlib.Omega.{arith}
use borrow.Rule.Slice.PartMut.{put_mid, Post-is}
use lib.ListN.{length, take, drop, length-append}
use lib.Seq.{take_at, drop_at, drop-drop, length-take-le}
use Rattle.lines.specs.private.Placing.{placed, Put}

-- a text that is the same
pub put_same : {a b old new : List ℕ} {at next : ℕ} → a ≡ b → Put a at old new next → Put b at old new next
put_same {a} {b} {old} {new} {at} {next} e p = subst (λ (text : List ℕ). Put text at old new next) e p

-- the part from the place on was overwritten
pub put_part : {text part old : List ℕ} {at n : ℕ} → part ≡ text → n ≡ length text → Put text at old (put_mid at (at + n - at) old part) (at + n)
unfolding placed
put_part {text} {part} {old} {at} {n} p e = record {
  is = ap₂ (λ (x y : List ℕ). take at old ++ (x ++ y)) p (Post-is at (at + n) old (omega arith) ∙ ap (λ (k : ℕ). drop (at + k) old) e);
  ends = ap (λ (k : ℕ). at + k) e;
}

-- the front of what was written, and what follows it
front : (at : ℕ) (text old : List ℕ) → at ≤ length old → take (at + length text) (placed at text old) ≡ take at old ++ text
unfolding placed
front at text old h =
    ap (λ (l : List ℕ). take (at + length text) l) (sym (append_assoc (take at old) text (drop (at + length text) old)))
    ∙ take_at (take at old ++ text) (drop (at + length text) old) (at + length text)
    (length-append (take at old) text ∙ ap (λ (k : ℕ). k + length text) (length-take-le at old h))

rest : (at : ℕ) (text old : List ℕ) → at ≤ length old → drop (at + length text) (placed at text old) ≡ drop (at + length text) old
unfolding placed
rest at text old h =
    ap (λ (l : List ℕ). drop (at + length text) l) (sym (append_assoc (take at old) text (drop (at + length text) old)))
    ∙ drop_at (take at old ++ text) (drop (at + length text) old) (at + length text)
    (length-append (take at old) text ∙ ap (λ (k : ℕ). k + length text) (length-take-le at old h))

-- a text and then another
pub placed_then :
    (at : ℕ) (a b old : List ℕ) → at ≤ length old → placed (at + length a) b (placed at a old) ≡ placed at (a ++ b) old
unfolding placed
placed_then at a b old h =
    let m : at + length a + length b ≡ at + length (a ++ b) = omega (arith, length-append a b) in
    ap₂ (λ (x y : List ℕ). x ++ (b ++ y)) (front at a old h)
    (sym (drop-drop (length b) (at + length a) (placed at a old)) ∙ ap (λ (l : List ℕ). drop (length b) l) (rest at a old h)
    ∙ drop-drop (length b) (at + length a) old ∙ ap (λ (k : ℕ). drop k old) m)
    ∙ simp append_assoc

pub put_then :
    {a b : List ℕ} {at m r : ℕ} {old mid new : List ℕ} → at ≤ length old → Put a at old mid m → Put b m mid new r → Put (a ++ b) at old new r
put_then {a} {b} {at} {m} {r} {old} {mid} {new} h p q = record {
  is = q.is ∙ ap₂ (λ (k : ℕ) (l : List ℕ). placed k b l) p.ends p.is ∙ placed_then at a b old h;
  ends = omega (arith, q.ends, p.ends, length-append a b);
}

-- ---- what a text written at a place leaves before and in it
pub put_front : {text old new : List ℕ} {at next : ℕ} → at ≤ length old → Put text at old new next → take next new ≡ take at old ++ text
put_front {text} {old} {new} {at} {next} h p = ap₂ take p.ends p.is ∙ front at text old h

-- a text written behind the front, which then is longer by it
pub pushed : (text part old : List ℕ) (at n : ℕ) → at ≤ length old → part ≡ text → n ≡ length text
    → take (at + n) (put_mid at (at + n - at) old part) ≡ take at old ++ text
pushed text part old at n h p e = put_front h (put_part p e)
