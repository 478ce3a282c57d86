-- What the public functions promise of their answers and of every lent slice afterwards, for every input.
use Rattle.std.specs.Prelude.{ℕ, ◌≡◌, Bool, true, false, List, [], ◌∷◌, length}
use Rattle.rules.specs.Words.{Direction, forward, inverse}
use Rattle.rules.specs.Check.{verdict}
use Rattle.rules.specs.Run.{Given, run, fitted, trace_after, work_after}

-- check: "a number and a place"
pub record Checked (image : List ℕ) (number place : ℕ) : Type 0 where
  pub number_is : number ≡ (verdict image).number
  pub place_is : place ≡ (verdict image).place

-- run: "number, place, steps, trace entries", the store, the work words and the trace slice
pub record Ran (g : Given) (number place steps entries : ℕ) (storeAfter work trace : List ℕ) : Type 0 where
  pub number_is : number ≡ (run g).number
  pub place_is : place ≡ (run g).place
  pub steps_are : steps ≡ (run g).steps
  pub entries_are : entries ≡ length (run g).events
  pub store_is : storeAfter ≡ (run g).store
  pub work_is : work ≡ work_after g
  pub trace_is : trace ≡ trace_after g

-- the exported functions: the answer slice gets the numbers as far as they fit, then zeros
pub record CheckedInto (image : List ℕ) (room : ℕ) (answer : List ℕ) : Type 0 where
  pub answer-is : answer ≡ fitted room ((verdict image).number ∷ (verdict image).place ∷ [])

pub record RanInto (g : Given) (room : ℕ) (storeAfter work trace answer : List ℕ) : Type 0 where
  pub store_is : storeAfter ≡ (run g).store
  pub work_is : work ≡ work_after g
  pub trace_is : trace ≡ trace_after g
  pub answer-is : answer ≡ fitted room ((run g).number ∷ (run g).place ∷ (run g).steps ∷ length (run g).events ∷ [])

-- The exported run takes a bool: true is inverse.
unfoldable pub direction_of : Bool → Direction
direction_of true = inverse
direction_of false = forward
