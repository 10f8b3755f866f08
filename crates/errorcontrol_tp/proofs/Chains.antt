-- The stages put together: what each leaves where nothing is refused, and what no refusal says.
-- Assumes nothing.
use mathlib.Core.Path.{◌≡◌, refl, sym, ap, ap₂, ◌∙◌, subst}
use mathlib.Core.List.{List, [], ◌∷◌, ◌++◌, map, append_assoc, append-nil}
use Prim.Native.Nat.{ℕ, ◌+◌, ◌*◌, ◌≤◌}
use native.Mathlib.Omega.{arith}
use borrow.Rule.Slice.PartMut.{put_mid, Post-is}
use Rattle.std.proofs.lemmas.List.{take-replicate}
use lib.ListN.{length, take, drop, replicate, length-append, length-drop, length-replicate}
use lib.Seq.{length-take-le, take_all, take_at, drop_at, drop-length}
use Rattle.base.specs.Refusal.{accepted}
use Rattle.base.specs.Bits.{Bits, ERASED}
use Rattle.base.specs.Places.{written}
use Rattle.base.proofs.BitLaws.{bits_append}
use Rattle.base.proofs.Moves.{gather_length, scatter_length, scatter_over}
use Rattle.base.proofs.Lists.{written_whole}
use Rattle.trellis.specs.Nearest.{encode}
use Rattle.trellis.specs.private.Nearest.{after}
use Rattle.convenc.specs.Generators.{outputs, speech, encode_refusal}
use Rattle.convenc.specs.private.Generators.{InTurn}
use Rattle.puncturing.specs.Puncturing.{punctured, depunctured, kept_place, needed, position}
use Rattle.convenc.proofs.Calls.{encode_accepts}
use Rattle.convenc.proofs.Encoding.{encoded_length}
use Rattle.trellis.proofs.Encoding.{encode_append}
use Rattle.trellis.proofs.Words.{bits_drop, zeros_bits}
use Rattle.tch_reorder.specs.Order.{channel_of, codec_of, codec_place}
use Rattle.tch_reorder.proofs.Permutation.{codec_within, codec_apart, codec_onto}
use Rattle.speech_crc.specs.Check.{speech_check}
use Rattle.speech_crc.proofs.Shape.{check_bits}
use Rattle.base.specs.declared.Received.{Received}
use Rattle.base.specs.Refusal.{checked}
use Rattle.trellis.proofs.Winners.{nearest_length}
use Rattle.viterbi.specs.Decoding.{decoded, disagreements}
use Rattle.viterbi.specs.private.Finding.{Finds}
use Rattle.interleaver.specs.Interleaving.{matrix_deinterleaved}
use Rattle.scrambler.specs.Scrambling.{descrambled}
use Rattle.stages.proofs.Entries.{receives_done}
use Rattle.errorcontrol_tp.specs.Sending.{word_of, coded, on_air, slot}
use Rattle.errorcontrol_tp.specs.Receiving.{slot_of, block_of, mother_of, word_from, counts_of, good, read_bit, codec_bits, receive_refusal, Receives}
use Rattle.errorcontrol_tp.specs.declared.Heard.{Heard}
use Rattle.errorcontrol_tp.specs.private.Settling.{word_in, HeardOf}
use Rattle.errorcontrol_tp.proofs.Refusals.{receive_accepted}
use Rattle.errorcontrol_tp.proofs.Air.{slot_long}
use Rattle.std.specs.Prelude.{Ok}
use Prim.Native.Nat.{◌-◌}
use Rattle.errorcontrol_tp.proofs.Mother.{bits_take}

-- ---- an array written in parts
pub two_parts : (p z q : List ℕ) (a b : ℕ) → length p ≡ a → length z ≡ b → put_mid a b (p ++ z) q ≡ p ++ q
two_parts p z q a b e f =
    ap₂ (λ (x y : List ℕ). x ++ (q ++ drop b y)) (take_at p z a e) (drop_at p z a e)
    ∙ ap (λ (y : List ℕ). p ++ (q ++ y)) (ap (λ (n : ℕ). drop n z) (sym f) ∙ drop-length z) ∙ ap (λ (y : List ℕ). p ++ y) (append-nil q)

pub first_part : (p z q : List ℕ) (a b : ℕ) → length p ≡ a → put_mid a b (p ++ z) q ≡ (p ++ q) ++ drop b z
first_part p z q a b e =
    ap₂ (λ (x y : List ℕ). x ++ (q ++ drop b y)) (take_at p z a e) (drop_at p z a e) ∙ sym (append_assoc p q (drop b z))

spare_is : (p z : List ℕ) (a b : ℕ) → length p ≡ a → length z ≡ b → take b (drop a (p ++ z)) ≡ z
spare_is p z a b e f = ap (take b) (drop_at p z a e) ∙ take_all b z (omega arith)

-- ---- the mother code by one encoder
module _ (channel class2 : List ℕ) (long : length channel ≡ 274) (plain : Bits channel) (wide : length class2 ≡ 72) (bits : Bits class2) where
  abbrev first : List ℕ
  first = take 112 (drop 102 channel)

  first_long : length first ≡ 112
  first_long = length-take-le 112 (drop 102 channel) (omega (arith, length-drop 102 channel))

  pub both_accepted : (room other : ℕ) → 336 ≤ room → 216 ≤ other
      → (encode_refusal 3 (0 ∷ 0 ∷ 0 ∷ 0 ∷ []) first room ≡ accepted) × (encode_refusal 3 (0 ∷ 0 ∷ 0 ∷ 0 ∷ []) class2 other ≡ accepted)
  both_accepted room other h k = (
    encode_accepts 3 (replicate 4 0) first room (omega (arith, first_long)) (omega (arith, first_long)) (bits_take 112 (drop 102 channel) (bits_drop 102 channel plain)) (zeros_bits 4),
    encode_accepts 3 (replicate 4 0) class2 other (omega arith) (omega arith) bits (zeros_bits 4),
  )

  pub mother_is : (x x' y y' : List ℕ) → length x ≡ 336 → length y ≡ 216 → InTurn first class2 x x' y y'
      → x' ++ y' ≡ encode (outputs speech) 0 (first ++ class2)
  mother_is x x' y y' e f call =
      ap₂ (λ (l m : List ℕ). l ++ m)
      (call.before ∙ written_whole (encode (outputs speech) 0 first) x (encoded_length speech 0 first ∙ ap (λ (n : ℕ). 3 * n) first_long ∙ sym e))
      (call.beyond ∙ written_whole (encode (outputs speech) (after 0 first) class2) y (encoded_length speech (after 0 first) class2 ∙ ap (λ (n : ℕ). 3 * n) wide ∙ sym f))
      ∙ sym (encode_append (outputs speech) 0 first class2)

-- ---- how far the two modes reach
needed_first : needed 4 168 ≤ 336
unfolding needed position
needed_first = omega arith

needed_second : needed 5 162 ≤ 216
unfolding needed position
needed_second = omega arith

-- ---- the block that is sent
module _ (channel one two p q r : List ℕ) (long : length channel ≡ 274) (wide : length one ≡ 336) (wider : length two ≡ 216) (front : p ≡ take 102 channel) where
  pub front_long : length p ≡ 102
  front_long = ap length front ∙ length-take-le 102 channel (omega arith)

  pub front_room : length (p ++ replicate 330 0) ≡ 432
  front_room = length-append p (replicate 330 0) ∙ ap (λ (n : ℕ). n + 330) front_long

  abbrev gap : List ℕ
  gap = take 168 (drop 102 (p ++ replicate 330 0))

  pub gap_long : length gap ≡ 168
  gap_long = length-take-le 168 (drop 102 (p ++ replicate 330 0)) (omega (arith, length-drop 102 (p ++ replicate 330 0), front_room))

  -- the first mode's part is as long as it must be
  pub gap_needs : needed 4 (length gap) ≤ length one
  gap_needs = subst (λ (n : ℕ). needed 4 n ≤ length one) (sym gap_long) (omega (arith, needed_first))

  module _ (second : q ≡ punctured 4 (length gap) one) where
    q_is : q ≡ punctured 4 168 one
    q_is = second ∙ ap (λ (n : ℕ). punctured 4 n one) gap_long

    pub q_long : length q ≡ 168
    q_long = ap length q_is ∙ gather_length (kept_place 4) 168 one

    pub then : put_mid 102 168 (p ++ replicate 330 0) q ≡ (p ++ q) ++ replicate 162 0
    then = first_part p (replicate 330 0) q 102 168 front_long

    pub both_long : length (p ++ q) ≡ 270
    both_long = length-append p q ∙ ap₂ (λ (x y : ℕ). x + y) front_long q_long

    pub then_room : length (put_mid 102 168 (p ++ replicate 330 0) q) ≡ 432
    then_room = ap length then ∙ length-append (p ++ q) (replicate 162 0) ∙ ap (λ (n : ℕ). n + 162) both_long

    abbrev rest : List ℕ
    rest = take 162 (drop 270 (put_mid 102 168 (p ++ replicate 330 0) q))

    pub rest_long : length rest ≡ 162
    rest_long = length-take-le 162 (drop 270 (put_mid 102 168 (p ++ replicate 330 0) q)) (omega (arith, length-drop 270 (put_mid 102 168 (p ++ replicate 330 0) q), then_room))

    pub rest_needs : needed 5 (length rest) ≤ length two
    rest_needs = subst (λ (n : ℕ). needed 5 n ≤ length two) (sym rest_long) (omega (arith, needed_second))

    pub block_made : r ≡ punctured 5 (length rest) two
        → put_mid 270 162 (put_mid 102 168 (p ++ replicate 330 0) q) r ≡ take 102 channel ++ (punctured 4 168 one ++ punctured 5 162 two)
    block_made third =
        ap (λ (x : List ℕ). put_mid 270 162 x r) then ∙ two_parts (p ++ q) (replicate 162 0) r 270 162 both_long refl
        ∙ append_assoc p q r
        ∙ ap₂ (λ (x y : List ℕ). x ++ y) front (ap₂ (λ (x y : List ℕ). x ++ y) q_is (third ∙ ap (λ (n : ℕ). punctured 5 n two) rest_long))

-- ---- the mother symbols of a received block
module _ (block p q : List ℕ) (long : length block ≡ 432)
    (first : p ≡ depunctured 4 (length (take 168 (drop 102 block))) (take 168 (drop 102 block)) (replicate 336 ERASED)) where
  one_long : length (take 168 (drop 102 block)) ≡ 168
  one_long = length-take-le 168 (drop 102 block) (omega (arith, length-drop 102 block))

  two_long : length (take 162 (drop 270 block)) ≡ 162
  two_long = length-take-le 162 (drop 270 block) (omega (arith, length-drop 270 block))

  symbols_first : p ≡ depunctured 4 168 (take 168 (drop 102 block)) (replicate 336 ERASED)
  symbols_first = first ∙ ap (λ (n : ℕ). depunctured 4 n (take 168 (drop 102 block)) (replicate 336 ERASED)) one_long

  pub symbols_long : length p ≡ 336
  symbols_long = ap length symbols_first ∙ scatter_length (kept_place 4) 168 (take 168 (drop 102 block)) (replicate 336 ERASED)

  abbrev spare : List ℕ
  spare = take 216 (drop 336 (p ++ replicate 216 ERASED))

  spared : spare ≡ replicate 216 ERASED
  spared = spare_is p (replicate 216 ERASED) 336 216 symbols_long refl

  pub spare_needs : (length (take 162 (drop 270 block)) ≤ 4096) × (needed 5 (length (take 162 (drop 270 block))) ≤ length spare)
  spare_needs = (
    omega (arith, two_long),
    subst (λ (n : ℕ). needed 5 n ≤ length spare) (sym two_long) (omega (arith, needed_second, ap length spared)),
  )

  pub symbols_made : q ≡ depunctured 5 (length (take 162 (drop 270 block))) (take 162 (drop 270 block)) spare
      → put_mid 336 216 (p ++ replicate 216 ERASED) q ≡ mother_of block
  unfolding mother_of
  symbols_made e =
      two_parts p (replicate 216 ERASED) q 336 216 symbols_long refl
      ∙ ap₂ (λ (x y : List ℕ). x ++ y) symbols_first (e ∙ ap₂ (λ (n : ℕ) (l : List ℕ). depunctured 5 n (take 162 (drop 270 block)) l) two_long spared)

pub first_needs : (block : List ℕ) → length block ≡ 432
    → (length (take 168 (drop 102 block)) ≤ 4096) × (needed 4 (length (take 168 (drop 102 block))) ≤ 336)
first_needs block long =
    let size = length-take-le 168 (drop 102 block) (omega (arith, length-drop 102 block)) in
    (omega (arith, size), subst (λ (n : ℕ). needed 4 n ≤ 336) (sym size) needed_first)

-- ---- the slot from its stages
pub class2_plain : (channel class2 : List ℕ) → Bits channel → class2 ≡ take 60 (drop 214 channel) ++ speech_check (take 60 (drop 214 channel)) ++ replicate 4 0 → Bits class2
class2_plain channel class2 b e =
    subst (λ (l : List ℕ). Bits l) (sym e)
    (bits_append (bits ++ speech_check bits) (replicate 4 0) (bits_append bits (speech_check bits) (bits_take 60 (drop 214 channel) (bits_drop 214 channel b)) (check_bits bits)) (zeros_bits 4))
  where
    bits : List ℕ
    bits = take 60 (drop 214 channel)

pub word_joined : (channel class2 : List ℕ) → class2 ≡ take 60 (drop 214 channel) ++ speech_check (take 60 (drop 214 channel)) ++ replicate 4 0
    → take 112 (drop 102 channel) ++ class2 ≡ word_of channel
unfolding word_of
word_joined channel class2 e =
    ap (λ (l : List ℕ). take 112 (drop 102 channel) ++ l) e
    ∙ sym (append_assoc first (bits ++ speech_check bits) (replicate 4 0)) ∙ ap (λ (l : List ℕ). l ++ replicate 4 0) (sym (append_assoc first bits (speech_check bits)))
  where
    first : List ℕ
    first = take 112 (drop 102 channel)

    bits : List ℕ
    bits = take 60 (drop 214 channel)

pub block_is : (channel class2 one two block : List ℕ) → length one ≡ 336 → class2 ≡ take 60 (drop 214 channel) ++ speech_check (take 60 (drop 214 channel)) ++ replicate 4 0
    → one ++ two ≡ encode (outputs speech) 0 (take 112 (drop 102 channel) ++ class2)
    → block ≡ take 102 channel ++ (punctured 4 168 one ++ punctured 5 162 two)
    → block ≡ take 102 channel ++ coded (word_of channel)
unfolding coded
block_is channel class2 one two block l e f g =
    g ∙ ap₂ (λ (x y : List ℕ). take 102 channel ++ (punctured 4 168 x ++ punctured 5 162 y))
    (sym (take_at one two 336 l) ∙ ap (take 336) joined) (sym (drop_at one two 336 l) ∙ ap (drop 336) joined)
  where
    joined : one ++ two ≡ encode (outputs speech) 0 (word_of channel)
    joined = f ∙ ap (encode (outputs speech) 0) (word_joined channel class2 e)

-- the codec bits over a target
pub codec_over : (channel codec : List ℕ) → 274 ≤ length codec → codec_of channel codec ≡ written (codec_of channel (replicate 274 0)) codec
codec_over channel codec h =
    scatter_over codec_place 274 channel (replicate 274 0) codec codec_apart codec_within codec_onto (length-replicate {A = ℕ} 274 0) h

-- ---- the slot that is sent
pub slot_is : (start : ℕ) (codec channel class2 one two block air : List ℕ) → length one ≡ 336 → channel ≡ channel_of codec
    → class2 ≡ take 60 (drop 214 channel) ++ speech_check (take 60 (drop 214 channel)) ++ replicate 4 0
    → one ++ two ≡ encode (outputs speech) 0 (take 112 (drop 102 channel) ++ class2)
    → block ≡ take 102 channel ++ (punctured 4 168 one ++ punctured 5 162 two)
    → air ≡ on_air start block → air ≡ slot start codec
unfolding slot
slot_is start codec channel class2 one two block air l c e f g h =
    h ∙ ap (on_air start) (block_is channel class2 one two block l e f g) ∙ ap (λ (x : List ℕ). on_air start (take 102 x ++ coded (word_of x))) c

-- symbols copied over the front of a target
pub copied_over : (count start : ℕ) (codec symbols air q : List ℕ) → count ≤ 432 → symbols ≡ slot start codec → q ≡ take (432 - (432 - count)) (drop (432 - count) symbols)
    → q ++ drop count air ≡ written (drop (432 - count) (slot start codec)) air
copied_over count start codec symbols air q most s e =
    let whole = take_all (432 - (432 - count)) (drop (432 - count) symbols) (omega (arith, length-drop (432 - count) symbols, ap length s, slot_long start codec)) in
    let made : q ≡ drop (432 - count) (slot start codec) = e ∙ whole ∙ ap (drop (432 - count)) s in
    let long : count ≡ length (drop (432 - count) (slot start codec)) = omega (arith, length-drop (432 - count) (slot start codec), slot_long start codec) in
    ap₂ (λ (x : List ℕ) (k : ℕ). x ++ drop k air) made long

-- ---- the slot that is received
pub block_came : (start : ℕ) (air block : List ℕ) → length air ≡ 432 → block ≡ matrix_deinterleaved 24 18 (descrambled start (take 432 air)) → block ≡ block_of start air
unfolding block_of
block_came start air block e p = p ∙ ap (λ (l : List ℕ). matrix_deinterleaved 24 18 (descrambled start l)) (take_all 432 air (omega arith))

-- the word of a block, and what was counted
pub heard_of : (block mother blank word trellis trellis' : List ℕ) (value : ℕ) → mother ≡ mother_of block → length blank ≡ 184
    → Finds speech 184 mother blank word trellis trellis' value → (word ≡ word_in block) × (value ≡ disagreements speech 184 (mother_of block) (word_in block))
heard_of block mother blank word trellis trellis' value m room does = (
  does.writes ∙ written_whole (decoded speech 184 mother) blank (nearest_length (disagreements speech 184 mother) 184 ∙ sym room) ∙ ap (decoded speech 184) m,
  does.counts ∙ ap (λ (s : List ℕ). disagreements speech 184 s (decoded speech 184 s)) m,
)

-- what is heard and delivered of a slot is what its entry owes
pub received_slot : (count start : ℕ) (air slot block codec trellis : List ℕ) (heard : Heard) (answer : Received) (codec' trellis' : List ℕ)
    → receive_refusal count (length air) (length codec) (length trellis) ≡ accepted → slot ≡ slot_of count air → block ≡ block_of start slot
    → HeardOf block trellis trellis' heard → answer ≡ checked (good heard.word) (record { disagreements = heard.disagreements })
    → codec' ≡ codec_of (map read_bit (take 102 block) ++ take 172 heard.word) codec
    → Receives count start air codec trellis (Ok answer) codec' trellis'
unfolding word_from counts_of codec_bits
received_slot count start air slot block codec trellis heard answer codec' trellis' none is off f a l =
    let came : block ≡ block_of start (slot_of count air) = off ∙ ap (block_of start) is in
    let word : heard.word ≡ word_in (block_of start (slot_of count air)) = f.word_is ∙ ap word_in came in
    let counts = f.counts ∙ ap (λ (s : List ℕ). disagreements speech 184 (mother_of s) (word_in s)) came in
    receives_done (good (word_from count start air)) (counts_of count start air) none (
      a ∙ ap₂ (λ (v : List ℕ) (k : ℕ). checked (good v) (record { disagreements = k })) word counts,
      l ∙ codec_over (map read_bit (take 102 block) ++ take 172 heard.word) codec (receive_accepted count (length air) (length codec) (length trellis) none).room
          ∙ ap₂ (λ (b v : List ℕ). written (codec_of (map read_bit (take 102 b) ++ take 172 v) (replicate 274 0)) codec) came word,
      f.clears,
    )

-- ---- a slot's last symbols, behind the erasures that are supplied
pub last_made : (count : ℕ) (air q : List ℕ) → count ≤ 432 → q ≡ take count air
    → put_mid (432 - count) (432 - (432 - count)) (replicate 432 ERASED) q ≡ slot_of count air
last_made count air q h e =
    ap₂ (λ (x y : List ℕ). x ++ (q ++ y)) (take-replicate (432 - count) 432 ERASED (omega arith)) (Post-is (432 - count) 432 (replicate 432 ERASED) (omega arith))
    ∙ ap (λ (l : List ℕ). replicate (432 - count) ERASED ++ l) (append-nil q ∙ e)
