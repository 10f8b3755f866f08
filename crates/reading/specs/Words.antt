-- The word for each way to go on or to end.
-- Assumes nothing.
use Rattle.std.specs.Prelude.{List, ℕ, codes}
use Rattle.reading.specs.declared.Next.{Next}
use Rattle.reading.specs.declared.Next.TheVariants.{Goes, Whole, Cut, Unknown, Unread, Unwritten, Full}

abbrev pub word_of : Next → List ℕ
word_of Goes = codes "goes"
word_of Whole = codes "whole"
word_of Cut = codes "cut"
word_of Unknown = codes "unknown"
word_of Unread = codes "unread"
word_of Unwritten = codes "unwritten"
word_of Full = codes "full"
