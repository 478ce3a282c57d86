-- Refusals 19 to 22 in order, and what they ask of an image.
use Rattle.std.specs.Prelude.{ℕ, ◌+◌, ◌≤◌, List}
use Rattle.rules.specs.Image.{Header, Parts}
use Rattle.rules.specs.Form.{Verdict, ◌then◌}
use Rattle.rules.specs.Run.{last_of, work_refusal, store_refusal, room_refusal}

-- What the tests ask of the procedure that is run, the last one. Every accepted image has it.
pub record Called (h : Header) (s : Parts) : Type 0 where
  pub some : 1 ≤ h.procedures
  pub few : (last_of h s).parameters ≤ 16
  pub inside : (last_of h s).first + (last_of h s).parameters ≤ 1024

-- "then 19 to 22 in order"
abbrev pub entry_tests : Header → Parts → ℕ → List ℕ → List ℕ → Verdict
entry_tests h s works lengths store = work_refusal works then store_refusal h s lengths store then room_refusal h s store
