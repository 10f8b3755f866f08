-- The order of the speech bits by sensitivity class (EN 300 395-2, table 4).
-- Assumes nothing.
use Rattle.std.specs.Prelude.{List, [], ◌∷◌, ◌++◌, ℕ, ◌+◌, ◌-◌, ◌*◌, ◌/◌, ◌%◌, get_or}
use Rattle.base.specs.Refusal.{Owed, accepted, sized}
use Rattle.base.specs.Places.{gather, scatter}

-- class 0, as positions in a subframe of 137, counted from 1
abbrev pub class0 : List ℕ
class0 =
    35 ∷ 36 ∷ 37 ∷ 38 ∷ 39 ∷ 40 ∷ 41 ∷ 42 ∷ 43 ∷ 47 ∷ 48 ∷ 56 ∷ 61 ∷ 62 ∷ 63 ∷ 64 ∷ 65 ∷ 66 ∷ 67 ∷ 68 ∷ 69 ∷ 70 ∷ 74 ∷ 75 ∷ 83 ∷ 88 ∷ 89
    ∷ 90 ∷ 91 ∷ 92 ∷ 93 ∷ 94 ∷ 95 ∷ 96 ∷ 97 ∷ 101 ∷ 102 ∷ 110 ∷ 115 ∷ 116 ∷ 117 ∷ 118 ∷ 119 ∷ 120 ∷ 121 ∷ 122 ∷ 123 ∷ 124 ∷ 128 ∷ 129 ∷ 137 ∷ []

-- class 1, likewise
abbrev pub class1 : List ℕ
class1 =
    58 ∷ 85 ∷ 112 ∷ 54 ∷ 81 ∷ 108 ∷ 135 ∷ 50 ∷ 77 ∷ 104 ∷ 131 ∷ 45 ∷ 72 ∷ 99 ∷ 126 ∷ 55 ∷ 82 ∷ 109 ∷ 136 ∷ 5 ∷ 13 ∷ 34 ∷ 8 ∷ 16 ∷ 17 ∷ 22 ∷ 23
    ∷ 24 ∷ 25 ∷ 26 ∷ 6 ∷ 14 ∷ 7 ∷ 15 ∷ 60 ∷ 87 ∷ 114 ∷ 46 ∷ 73 ∷ 100 ∷ 127 ∷ 44 ∷ 71 ∷ 98 ∷ 125 ∷ 33 ∷ 49 ∷ 76 ∷ 103 ∷ 130 ∷ 59 ∷ 86 ∷ 113 ∷ 57
    ∷ 84 ∷ 111 ∷ []

-- class 2, likewise
abbrev pub class2 : List ℕ
class2 =
    18 ∷ 19 ∷ 20 ∷ 21 ∷ 31 ∷ 32 ∷ 53 ∷ 80 ∷ 107 ∷ 134 ∷ 1 ∷ 2 ∷ 3 ∷ 4 ∷ 9 ∷ 10 ∷ 11 ∷ 12 ∷ 27 ∷ 28 ∷ 29 ∷ 30 ∷ 52 ∷ 79 ∷ 106 ∷ 133 ∷ 51 ∷ 78
    ∷ 105 ∷ 132 ∷ []

-- the classes one after the other
unfoldable pub order : List ℕ
order = class0 ++ class1 ++ class2

-- where channel entry x stands in codec order, from 0: for each position in table order subframe 0's bit, then subframe 1's
unfoldable pub codec_place : ℕ → ℕ
codec_place x = 137 * (x % 2) + get_or order (x / 2) 0 - 1

-- what is refused for src entries of source and dst of target
abbrev pub reorder_refusal : ℕ → ℕ → Owed
reorder_refusal src dst = sized src 274 dst 274 accepted

-- the 274 entries in channel order
abbrev pub channel_of : List ℕ → List ℕ
channel_of codec = gather codec_place 274 codec

-- the target with 274 entries in codec order
abbrev pub codec_of : List ℕ → List ℕ → List ℕ
codec_of channel dst = scatter codec_place 274 channel dst
