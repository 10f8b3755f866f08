-- Laws of what is moved to a buffer's front.
-- Assumes nothing.
use mathlib.Core.Path.{◌≡◌, sym, ap, subst, ◌∙◌}
use mathlib.Core.Bool.{false}
use mathlib.Core.List.{List, [], append_assoc}
use Prim.Native.Nat.{ℕ, ◌+◌, ◌-◌, ◌*◌, ◌≤◌, ◌<◌}
use native.Mathlib.Omega.{arith}
use lib.ListN.{length, take, drop, length-drop, take-append-drop}
use lib.Seq.{take-length, take_at, paste}
use Rattle.records.specs.Recording.{item_at}
use Rattle.lines.specs.Lines.{LINE}
use Rattle.streaming.specs.Runner.{State, holding, feed}
use Rattle.streaming.specs.Limits.{LARGEST}
use Rattle.streaming.specs.private.Stepping.{Waits, came_to, Steps}
use Rattle.streaming.specs.private.Advancing.{Advances}
use Rattle.streaming.specs.declared.inner.Stepped.{Stepped}
use Rattle.streaming.proofs.Feeding.{feed_append}
use Rattle.streaming.proofs.Waiting.{waits_less, waits_drop}

-- what was not taken is moved to the front
pub kept :
    (bytes : List ℕ) (taken : ℕ) {new : List ℕ} → new ≡ paste bytes 0 (drop taken bytes) (length bytes - taken)
    → take (length bytes - taken) new ≡ drop taken bytes
kept bytes taken {new} e =
    let n : length bytes - taken ≡ length (drop taken bytes) = sym (length-drop taken bytes) in
    let all : take (length bytes - taken) (drop taken bytes) ≡ drop taken bytes = ap (λ (k : ℕ). take k (drop taken bytes)) n ∙ take-length (drop taken bytes) in
    ap (λ (l : List ℕ). take (length bytes - taken) l) (e ∙ append_assoc [] (take (length bytes - taken) (drop taken bytes)) _)
    ∙ take_at (take (length bytes - taken) (drop taken bytes)) _ (length bytes - taken) (ap length all ∙ sym n) ∙ all

-- ---- a step and what it keeps
module _ (bytes : List ℕ) (count : ℕ) {p : Stepped} {new : List ℕ} (s : Steps bytes count p new) where
  waits_left : p.stopped ≡ false → 3 * length bytes + LINE ≤ length new → p.count < LARGEST → Waits (item_at bytes p.taken)
  waits_left z h m =
      s.settled (record { reads = z; line = omega (arith, s.reached.thrice z, s.reached.taken_in); number = m })

  module _ (buf : List ℕ) (left : take (length bytes - p.taken) buf ≡ drop p.taken bytes) where
    came : (text : List ℕ) → feed (holding [] text count) bytes ≡ feed (came_to text p.written new p.count p.stopped) (take (length bytes - p.taken) buf)
    came text =
        let taken : List ℕ = take p.taken bytes in
        let over : List ℕ = drop p.taken bytes in
        ap (λ (l : List ℕ). feed (holding [] text count) l) (sym (take-append-drop p.taken bytes))
        ∙ feed_append (holding [] text count) taken over
        ∙ ap (λ (z : State). feed z over) (s.reached.fed text)
        ∙ ap (λ (l : List ℕ). feed (came_to text p.written new p.count p.stopped) l) (sym left)

    pub advanced : {old : List ℕ} → length new ≡ length old → Advances bytes count old p buf new
    advanced {old} l = record {
      fed = came;
      moves = s.reached.moves;
      numbered = s.reached.numbered;
      waits = λ z m. subst (λ (x : List ℕ). Waits (item_at x 0)) (sym left) (waits_drop bytes p.taken (waits_left z (omega (arith, l, m.lines)) m.number));
      less = λ z m. waits_less bytes p.taken (waits_left z (omega (arith, l, m.lines)) m.number);
      taken_in = s.reached.taken_in;
      written_in = omega (arith, l, s.reached.written_in);
      thrice_and_line = omega (arith, s.reached.thrice_and_line, s.reached.taken_in);
    }
