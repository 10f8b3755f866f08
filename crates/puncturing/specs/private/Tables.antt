-- What the code's tables hold, by mode. No promise to a caller needs this file.
-- Assumes nothing.
use Rattle.std.specs.Prelude.{◌≡◌, List, [], ◌∷◌, ℕ, ◌≤◌, length, get_or}
use Rattle.puncturing.specs.Puncturing.{periods, kept}

-- after how many outputs a mode passes one position over; 4096 stands for never, since no more outputs are made
abbrev pub runs : List ℕ
runs = 4096 ∷ 4096 ∷ 65 ∷ 35 ∷ 4096 ∷ 4096 ∷ 4096 ∷ []

-- the kept positions of a period, by mode, each list filled up with zeros
abbrev pub rows : List (List ℕ)
rows =
    (1 ∷ 2 ∷ 5 ∷ 0 ∷ 0 ∷ 0 ∷ 0 ∷ 0 ∷ 0 ∷ 0 ∷ 0 ∷ 0 ∷ 0 ∷ 0 ∷ 0 ∷ 0 ∷ 0 ∷ [])
    ∷ (1 ∷ 2 ∷ 3 ∷ 5 ∷ 6 ∷ 7 ∷ 0 ∷ 0 ∷ 0 ∷ 0 ∷ 0 ∷ 0 ∷ 0 ∷ 0 ∷ 0 ∷ 0 ∷ 0 ∷ [])
    ∷ (1 ∷ 2 ∷ 5 ∷ 0 ∷ 0 ∷ 0 ∷ 0 ∷ 0 ∷ 0 ∷ 0 ∷ 0 ∷ 0 ∷ 0 ∷ 0 ∷ 0 ∷ 0 ∷ 0 ∷ [])
    ∷ (1 ∷ 2 ∷ 3 ∷ 5 ∷ 6 ∷ 7 ∷ 0 ∷ 0 ∷ 0 ∷ 0 ∷ 0 ∷ 0 ∷ 0 ∷ 0 ∷ 0 ∷ 0 ∷ 0 ∷ [])
    ∷ (1 ∷ 2 ∷ 4 ∷ 0 ∷ 0 ∷ 0 ∷ 0 ∷ 0 ∷ 0 ∷ 0 ∷ 0 ∷ 0 ∷ 0 ∷ 0 ∷ 0 ∷ 0 ∷ 0 ∷ [])
    ∷ (1 ∷ 2 ∷ 3 ∷ 4 ∷ 5 ∷ 7 ∷ 8 ∷ 10 ∷ 11 ∷ 0 ∷ 0 ∷ 0 ∷ 0 ∷ 0 ∷ 0 ∷ 0 ∷ 0 ∷ [])
    ∷ (1 ∷ 2 ∷ 3 ∷ 4 ∷ 5 ∷ 7 ∷ 8 ∷ 10 ∷ 11 ∷ 13 ∷ 14 ∷ 16 ∷ 17 ∷ 19 ∷ 20 ∷ 22 ∷ 23 ∷ [])
    ∷ []

-- what the tables say of a mode, and how small it is
pub record Parameters (mode : ℕ) (row : List ℕ) (t period run : ℕ) : Type 0 where
  pub kind : mode ≤ 6
  pub entries : row ≡ get_or rows mode []
  pub outputs : t ≡ length (get_or kept mode [])
  pub positions : period ≡ get_or periods mode 0
  pub before : run ≡ get_or runs mode 0
  pub t_least : 2 ≤ t
  pub t_most : t ≤ 17
  pub period_most : period ≤ 24
  pub run_least : 1 ≤ run
  pub run_most : run ≤ 4096
