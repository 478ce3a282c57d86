-- The head of a run in a stream, how long the run is, and what the rest of a stream begins with.
use Rattle.std.specs.Prelude.{ℕ, ◌+◌, ◌*◌, ◌≤◌, List, Bool, cond, ◌&&◌, length, eqb, leb, Option, Some, None, Result, Ok, Err}
use Rattle.rules.specs.Image.{le16, le64}
use Rattle.stream.specs.declared.head.Head.{Head}
use Rattle.stream.specs.declared.head.BadStream.{BadStream}

-- The direction is 1 where it is inverse.
abbrev pub head_of : List ℕ → Head
head_of s = record {
  image = le16 s 0;
  name = le16 s 2;
  inverse = eqb (le16 s 4) 1;
  lengths = le16 s 6;
  cells = le16 s 8;
  works = le16 s 10;
  room = le16 s 12;
  budget = le64 s 14;
}

-- The head, the name, the image, the lengths and the store.
abbrev pub size_of : Head → ℕ
size_of h = 22 + h.name + h.image + h.lengths * 8 + h.cells * 8

-- Room for what is lent.
pub record Fits (h : Head) : Type 0 where
  pub few_lengths : h.lengths ≤ 32
  pub few_cells : h.cells ≤ 4096
  pub few_works : h.works ≤ 8448
  pub short_trace : h.room ≤ 64

unfoldable pub fitting : Head → Bool
fitting h = leb h.lengths 32 && (leb h.cells 4096 && (leb h.works 8448 && leb h.room 64))

-- What stands at the front is a direction and a budget.
abbrev pub ordered : List ℕ → Bool
ordered s = leb (le16 s 4) 1 && leb (le64 s 14) 4294967295

-- An image length of 0 ends the stream, where its two bytes are the last. Any other run has to fit, and to stand there whole.
unfoldable pub next_of : List ℕ → Result (Option Head) BadStream
next_of s =
    cond (eqb (le16 s 0) 0) (cond (eqb (length s) 2) (Ok None) (Err (record {})))
    (cond (ordered s && (fitting (head_of s) && leb (size_of (head_of s)) (length s))) (Ok (Some (head_of s))) (Err (record {})))
