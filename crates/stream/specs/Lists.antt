-- The words that stand in a part one after the other, and words that are all 0.
use Rattle.std.specs.Prelude.{ℕ, ◌*◌, List, Bool, ◌==◌, map}
use Rattle.std.specs.List.{list_all, range_with_len}
use Rattle.rules.specs.Image.{le64}

-- The first n words.
abbrev pub words_of : List ℕ → ℕ → List ℕ
words_of s n = map (λ k. le64 s (k * 8)) (range_with_len 0 n)

abbrev pub all_zero : List ℕ → Bool
all_zero words = list_all (λ w. w == 0) words
