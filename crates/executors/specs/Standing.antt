-- The rows of the names: what a statement keeps, and where a called procedure's names live.
use Rattle.std.specs.Prelude.{ℕ, ◌+◌, ◌-◌, ◌≤◌, ◌<◌, ◌≡◌, List, length, get_or}
use Rattle.std.proofs.Common.{ap, ◌∙◌, inl, inr, arith, lt-ltb, le-ltb}
use Rattle.std.proofs.Math.Logic.{dite}
use Rattle.std.proofs.Math.Decide.{dec_lt}
use Rattle.rules.specs.Image.{procedure_of}
use Rattle.rules.specs.Machine.{Slot, no_slot, Env}
use Rattle.rules.specs.Run.{env_of}
use Rattle.expressions.specs.Relations.{Table, slot_of, Good, Apart, Rows}
use Rattle.executors.specs.World.{parameters_of, low_of, high_of, locals_of, World, Stands, Untouched, Kept}

pub kept_both : {procedures : List ℕ} {p : ℕ} {a b c : Table} → Kept procedures p a b → Kept procedures p b c → Kept procedures p a c
kept_both k l = record { row = λ y u. l.row y u ∙ k.row y u }

-- What a called procedure keeps, its caller keeps.
pub kept_below : {procedures : List ℕ} {p q : ℕ} {a b : Table} → q < p → Kept procedures q a b → Kept procedures p a b
kept_below l k = record { row = λ y u. k.row y (λ r lr. u r (omega arith)) }

-- Every name of a procedure is a parameter, which lives where its argument does, or a local, which is at home.
pub each_name : (homes : Env) (procedures : List ℕ) (q : ℕ) (xs : List Slot) → length xs ≡ parameters_of procedures q
    → (P : Slot → Type 0) (y : ℕ) → low_of procedures q ≤ y → y < high_of procedures q
    → (y - low_of procedures q < length xs → P (get_or xs (y - low_of procedures q) no_slot)) → (locals_of procedures q ≤ y → P (homes y))
    → P (env_of homes (procedure_of procedures q) xs y)
unfolding env_of
each_name homes procedures q xs as_many P y l u a b =
    dite (dec_lt (y - low_of procedures q) (length xs))
    (λ o. rw (le-ltb y (low_of procedures q) l, lt-ltb (y - low_of procedures q) (length xs) o) (a o))
    (λ no. rw (le-ltb y (low_of procedures q) l, le-ltb (y - low_of procedures q) (length xs) (omega arith), lt-ltb y (high_of procedures q) u) (b (omega arith)))

module _ {nodes procedures variables constants : List ℕ} (w : World nodes procedures variables constants) where
  own-untouched : (p y : ℕ) → p < w.h.procedures → low_of procedures p ≤ y → Untouched procedures p y
  own-untouched p y m l q lq a b = omega (arith, w.apart q p lq m, w.parameters q (omega arith))

  local_untouched : (p q y : ℕ) → p < w.h.procedures → q < p → locals_of procedures q ≤ y → y < high_of procedures q → Untouched procedures p y
  local_untouched p q y m lq a b r lr c e =
      dite (dec_lt r q) (λ o. omega (arith, w.apart r q o (omega arith), w.parameters r (omega arith)))
      (λ no. dite (dec_lt q r) (λ o. omega (arith, w.apart q r o (omega arith))) (λ no'. let same : r ≡ q = omega arith in omega (arith, ap (locals_of procedures) same)))

  module _ {p : ℕ} {slots : Table} {ρ : Env} (st : Stands w p slots ρ) (slots' : Table) where
    -- The names live where they did after rows that are kept.
    pub stands_on : Kept procedures p slots slots' → length slots' ≡ length slots → Stands w p slots' ρ
    stands_on k e = record {
      mine = st.mine;
      agree = record {
        rows = λ y l u. k.row y (own-untouched p y st.mine l) ∙ st.agree.rows y l u;
        good = st.agree.good;
        room = rw e st.agree.room;
      };
      home = λ q y lq l u. k.row y (local_untouched p q y st.mine lq l u) ∙ st.home q y lq l u;
    }

    -- A called procedure's parameters live where its arguments do, its locals at home.
    module _ (q : ℕ) (lq : q < p) (xs : List Slot) (as_many : length xs ≡ parameters_of procedures q)
        (apart : Apart slots slots' (low_of procedures q) (length xs)) (rows : Rows slots' (low_of procedures q) xs)
        (good : (j : ℕ) → j < length xs → Good (get_or xs j no_slot)) (long : length slots' ≡ length slots) where
      pub called_stands : Stands w q slots' (env_of w.homes (procedure_of procedures q) xs)
      called_stands = record {
        mine = omega (arith, st.mine);
        agree = record {
          rows = λ y l u. each_name w.homes procedures q xs as_many (λ x. slot_of slots' y ≡ x) y l u
              (λ o. let e : low_of procedures q + (y - low_of procedures q) ≡ y = omega arith in rw e at (rows (y - low_of procedures q) o))
              (λ o. apart y (inr (omega arith)) ∙ st.home q y lq o u);
          good = λ y l u. each_name w.homes procedures q xs as_many Good y l u (λ o. good (y - low_of procedures q) o) (λ o. w.good q y (omega (arith, st.mine)) o u);
          room = omega (arith, st.agree.room, w.apart q p lq st.mine);
        };
        home = λ r y lr l u. apart y (inl (omega (arith, w.apart r q lr (omega (arith, st.mine))))) ∙ st.home r y (omega arith) l u;
      }

    pub called_kept : (q : ℕ) → q < p → Apart slots slots' (low_of procedures q) (parameters_of procedures q) → Kept procedures p slots slots'
    called_kept q lq apart = record {
      row = λ y u. apart y
          (dite (dec_lt y (low_of procedures q)) (λ o. inl o) (λ no. dite (dec_lt y (locals_of procedures q)) (λ o. absurd (u q lq (omega arith) o)) (λ no'. inr (omega arith))));
    }
