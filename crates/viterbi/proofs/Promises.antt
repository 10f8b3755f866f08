-- What the decoded word and its count promise a reader, for every code of generators.
-- Assumes nothing.
use mathlib.Core.Path.{◌≡◌, refl, sym, ap, ◌∙◌, subst}
use mathlib.Core.List.{List, [], ◌∷◌}
use Prim.Native.Nat.{ℕ, zero, suc, ◌+◌, ◌*◌, ◌/◌, ◌%◌, ◌≤◌, ◌<◌}
use native.Mathlib.Nat.{mul-suc, mul-le-mul_left}
use native.Mathlib.Omega.{arith}
use lib.ListN.{length, get_or}
use lib.Seq.{get_or-take, length-take-le}
use Rattle.base.specs.Bits.{disagrees, known}
use Rattle.base.specs.Digits.{digits, dot}
use Rattle.base.specs.Places.{written}
use Rattle.base.specs.Refusal.{Owed, accepted, unless}
use Rattle.base.proofs.BitLaws.{bits_at}
use Rattle.trellis.specs.Nearest.{encode, Candidate}
use Rattle.trellis.proofs.Encoding.{distance_most, distance_take, encode_bits, encode_length}
use Rattle.trellis.proofs.Undamaged.{undamaged}
use Rattle.air.specs.Channel.{sum}
use Rattle.air.specs.Demand.{HeardRight, itself}
use Rattle.air.proofs.Sums.{distance_sum}
use Rattle.air.proofs.Symbols.{disagrees_tells}
use Rattle.air.proofs.Channel.{Weighs, Decoder, heard_right}
use Rattle.air.proofs.Hard.{Any, hard_lawful}
use Rattle.convenc.specs.Generators.{tapped, outputs, control, speech}
use Rattle.std.specs.Prelude.{Ok, Err}
use Rattle.base.specs.Refusal.{valued}
use Rattle.viterbi.specs.Decoding.{used, disagreements, decoded, unerased, decode_refusal}
use Rattle.viterbi.specs.Hearing.{mother_code, AnsweredWord}
use Rattle.viterbi.specs.Walking.{WalksBack}
use Rattle.viterbi.proofs.Codes.{outputs_length, outputs_bits}
use Rattle.viterbi.proofs.Counts.{each_known}
use Rattle.viterbi.proofs.Refusals.{accepts}
use Rattle.viterbi.proofs.Walking.{walks_back}

-- ---- the count is at most the number of unerased symbols
pub count_le : (code : List (List ℕ)) (n : ℕ) (src : List ℕ) → disagreements code n src (decoded code n src) ≤ unerased code n src
count_le code n src =
    distance_most disagrees known (used code n src) (encode (outputs code) 0 (decoded code n src)) (each_known (used code n src))
    (encode_bits (outputs code) (outputs_bits code) 0 (decoded code n src))

-- ---- demand 3
pub mother_weighs : (code : List (List ℕ)) (n : ℕ) (src : List ℕ) → length code * n ≤ length src → Weighs (mother_code code n) src (disagreements code n src)
mother_weighs code n src room w e =
    distance_take disagrees (length code * n) src sent (omega (arith, long)) ∙ distance_sum disagrees 0 src sent (omega (arith, long))
    ∙ ap (sum (λ i. disagrees (get_or src i 0) (get_or sent i 0))) long
  where
    sent : List ℕ
    sent = encode (outputs code) 0 w

    long : length sent ≡ length code * n
    long = encode_length (outputs code) (length code) (outputs_length code) 0 w ∙ ap (λ (k : ℕ). length code * k) e

-- a value says that nothing was refused
pub word_accepted : (refusal : Owed) (count least : ℕ) → Ok count ≡ valued refusal least → (refusal ≡ accepted) × (count ≡ least)
word_accepted (Ok tt) count least e = (refl, cc)
word_accepted (Err why) count least e = absurd cc

-- what a call that answered a value says of its input
module _ {code : List (List ℕ)} {n : ℕ} {src : List ℕ} {count : ℕ} {target target' : List ℕ} (u : AnsweredWord code n src count target target') where
  said : (decode_refusal code n (length src) (length u.trellis) (length target) ≡ accepted) × (count ≡ disagreements code n src (decoded code n src))
  said =
      word_accepted (decode_refusal code n (length src) (length u.trellis) (length target)) count (disagreements code n src (decoded code n src)) u.call.answers

  enough : length code * n ≤ length src
  enough = (accepts n (length src) (length u.trellis) (length target) code said.0).1

  -- the walk back ends in state 0, gives the word, and its score is the count
  pub answered_walks_back : WalksBack code n src
  answered_walks_back = walks_back code n src enough

decoder : (code : List (List ℕ)) (n : ℕ) → Decoder (mother_code code n) Any (AnsweredWord code n) itself (disagreements code n)
decoder code n =
    record {
      lawful = hard_lawful n (length code * n) (λ j. j) (λ w x. get_or (encode (outputs code) 0 w) x 0) (λ (src : List ℕ) x. get_or src x 0)
          (λ w j h. bits_at (encode (outputs code) 0 w) (encode_bits (outputs code) (outputs_bits code) 0 w) j);
      fits = λ src count target target' u j h. tt;
      weighs = λ src count target target' u. mother_weighs code n src (enough u);
      writes = λ src count target target' u. u.call.writes ∙ ap (λ (k : Owed). unless k (written (decoded code n src) target) target) (said u).0;
      counts = λ src count target target' u. (said u).1;
    }

pub dec_sb1_right : (n : ℕ) (src : List ℕ) (count : ℕ) (target target' : List ℕ) → AnsweredWord control n src count target target'
    → HeardRight (mother_code control n) (AnsweredWord control n) itself src count target target'
dec_sb1_right n = heard_right (decoder control n)

pub dec_speech_right : (n : ℕ) (src : List ℕ) (count : ℕ) (target target' : List ℕ) → AnsweredWord speech n src count target target'
    → HeardRight (mother_code speech n) (AnsweredWord speech n) itself src count target target'
dec_speech_right n = heard_right (decoder speech n)

-- ---- an undamaged word is decoded as it was sent
-- the first generator has the coefficient 1 at D^0
abbrev pub Leading : List (List ℕ) → Type 0
Leading [] = ⊥
Leading ([] ∷ gs) = ⊥
Leading ((zero ∷ g) ∷ gs) = ⊥
Leading ((suc zero ∷ g) ∷ gs) = Unit {0}
Leading ((suc (suc a) ∷ g) ∷ gs) = ⊥

-- so its output tells the newest bit from the four before it
low_digits : (b s : ℕ) → s < 16 → digits 4 (16 * b + s) ≡ digits 4 s
low_digits b s h =
    let p : (16 * b + s) / 8 % 2 ≡ s / 8 % 2 = omega arith in
    let q : (16 * b + s) / 4 % 2 ≡ s / 4 % 2 = omega arith in
    let r : (16 * b + s) / 2 % 2 ≡ s / 2 % 2 = omega arith in
    let o : (16 * b + s) / 1 % 2 ≡ s / 1 % 2 = omega arith in
    rw (p, q, r, o)

tapped_lead : (g : List ℕ) (b s : ℕ) → b < 2 → s < 16 → tapped (1 ∷ g) (16 * b + s) ≡ (b + dot g (digits 4 s)) % 2
unfolding tapped
tapped_lead g b s h k =
    let p : (16 * b + s) / 16 % 2 ≡ b = omega arith in
    rw (p, low_digits b s k) (omega arith)

leads : (code : List (List ℕ)) → Leading code → (s b c : ℕ) → s < 16 → b < 2 → c < 2
    → get_or (outputs code (16 * b + s)) 0 0 ≡ get_or (outputs code (16 * c + s)) 0 0 → b ≡ c
leads [] l s b c hs hb hc e = absurd l
leads ([] ∷ gs) l s b c hs hb hc e = absurd l
leads ((zero ∷ g) ∷ gs) l s b c hs hb hc e = absurd l
leads ((suc zero ∷ g) ∷ gs) l s b c hs hb hc e = omega (arith, e, tapped_lead g b s hb hs, tapped_lead g c s hc hs)
leads ((suc (suc a) ∷ g) ∷ gs) l s b c hs hb hc e = absurd l

some : (code : List (List ℕ)) → Leading code → 0 < length code
some [] l = absurd l
some (g ∷ gs) l = omega arith

pub decoded_undamaged : (code : List (List ℕ)) → Leading code → (n : ℕ) (src w : List ℕ) → Candidate n w → length code * n ≤ length src
    → ((i : ℕ) → i < n → get_or src (length code * i) 0 < 2) → disagreements code n src w ≡ 0 → decoded code n src ≡ w
decoded_undamaged code l n src w c room first zero-far =
    undamaged disagrees 0 (λ a. a < 2) disagrees_tells (outputs code) (length code) (some code l) (outputs_length code) (outputs_bits code) (leads code l) n w (used code n src) c
    (omega (arith, length-take-le (length code * n) src room))
    (λ i h. subst (λ (a : ℕ). a < 2) (sym (get_or-take (length code * n) src (length code * i) 0 (place i h))) (first i h)) zero-far
  where
    place : (i : ℕ) → i < n → length code * i < length code * n
    place i h = omega (arith, some code l, mul-suc (length code) i, mul-le-mul_left (length code) h)
