-- The procedures of an accepted image without unsafe look-ups, called with safe slots, end alike.
-- A cell is as secret as the variable that lives there.
use Prim.Native.Nat.{ℕ, zero, suc, ◌+◌, ◌-◌, ◌≤◌, ◌<◌}
use Rattle.std.specs.Prelude.{List, ◌≡◌, refl, Bool, not, length, get_or, T, ltb}
use Rattle.std.proofs.Common.{◌∙◌, ap, arith}
use Rattle.std.proofs.Math.Bool.{true, false}
use Rattle.std.proofs.Math.Logic.{dite}
use Rattle.std.proofs.Math.Decide.{dec_lt}
use Rattle.std.proofs.Math.Dec.{eqb, eqb→eq, ltb→lt, not_T}
use Rattle.rules.specs.Words.{Binary, divides}
use Rattle.rules.specs.Image.{Header, Parts, Procedure, procedure_of, is_array}
use Rattle.rules.specs.Tree.{body_of}
use Rattle.rules.specs.Walk.{type_of}
use Rattle.rules.specs.Machine.{Slot, Env, Command, choose}
use Rattle.rules.specs.Run.{home, store_slots, env_of, calls_below, last_of, sum}
use Rattle.laws.specs.Records.{Single, Sound, parameter_is}
use Rattle.laws.specs.Cells.{In, env_parameter, env_local, env_each, room_one, store_count, store_cells, store_hidden, of_cell, of_cell-store, of_cell-home}
use Rattle.laws.specs.Growth.{grows_calls_below}
use Rattle.laws.specs.Alike.{Alike, done_alike}
use Rattle.laws.specs.SecrecyRules.{secret_name}
use Rattle.laws.specs.PlainTrees.{Safe, PlainStmt}
use Rattle.laws.specs.SafeWalk.{safe_body}
use Rattle.laws.specs.AlikeReadings.{SafeSlots, slot_at, slots_each, SafeEnv}
use Rattle.laws.specs.AlikeStatements.{CallsAlike, exec-alike}

-- The cells that are secret.
abbrev pub hidden_cell : Header → Parts → List ℕ → ℕ → Bool
hidden_cell h s lengths i = eqb (of_cell (λ v. v.secrecy) h s lengths i) 1

module _ (forbidden : Binary → Bool) (covers : (o : Binary) → T (divides o) → T (forbidden o)) (h : Header) (s : Parts) (S : Sound forbidden h s)
    (plain : (p : ℕ) → PlainStmt s Safe (body_of h s p)) (lengths : List ℕ) where
  abbrev procedure : ℕ → Procedure
  procedure p = procedure_of s.procedures p

  abbrev is_hidden : ℕ → Bool
  is_hidden = hidden_cell h s lengths

  abbrev homes : Env
  homes = home h s (sum lengths)

  home-secrecy : (x i : ℕ) → x < h.variables → In (homes x) i → (is_hidden i ≡ secret_name s x) × ((homes x).hidden ≡ secret_name s x)
  unfolding home
  home-secrecy x i l a = (ap (λ z. eqb z 1) (of_cell-home (λ v. v.secrecy) h s lengths x i l a), refl)

  home-single : (p x : ℕ) → p < h.procedures → Single s (procedure p) x → (procedure p).first + (procedure p).parameters ≤ x → (homes x).cells ≡ 1
  unfolding home
  home-single p x l k m = room_one h s x
      (rw (parameter_is h s S.procedure p x l k.2 k.3)
      (not_T (ltb x ((procedure p).first + (procedure p).parameters)) (λ t. let r = ltb→lt x ((procedure p).first + (procedure p).parameters) t in omega arith)))
      k.1 k.0

  safe_env : (p : ℕ) → p < h.procedures → (xs : List Slot) → length xs ≡ (procedure p).parameters → SafeSlots is_hidden s (procedure p).first xs
      → SafeEnv is_hidden s (procedure p) (env_of homes (procedure p) xs)
  safe_env p l xs e X =
      let q = procedure p in
      let end = (S.procedure p l).end in
      record {
        secrecy = λ x i. env_each homes q xs x (λ y. In y i → (is_hidden i ≡ secret_name s x) × (y.hidden ≡ secret_name s x)) (λ a. absurd (omega arith))
            (λ a b. let r : q.first + (x - q.first) ≡ x = omega arith in rw r at ((slot_at is_hidden s q.first xs X (x - q.first) b).secrecy i))
            (λ a b. home-secrecy x i (omega arith));
        single = λ x k. dite (dec_lt (x - q.first) (length xs))
            (λ b. let r : q.first + (x - q.first) ≡ x = omega arith in rw (env_parameter homes q xs x k.2 b) ((rw r at (slot_at is_hidden s q.first xs X (x - q.first) b).single) k.0))
            (λ b. let m : q.first + length xs ≤ x = omega arith in rw (env_local homes q xs x m k.3) (home-single p x l k (omega arith)));
      }

  chosen : (b : Bool) (f g : Command) → (T b → Alike is_hidden f f) → Alike is_hidden g g → Alike is_hidden (choose b f g) (choose b f g)
  unfolding choose
  chosen true f g F G = F tt
  chosen false f g F G = G

  pub calls_alike : (p : ℕ) → p ≤ h.procedures → CallsAlike is_hidden s (calls_below h s homes p)
  unfolding calls_below
  calls_alike zero l q d xs e X = done_alike is_hidden
  calls_alike (suc p) l q d xs e X = chosen (eqb q p) _ _
      (λ t. let r : q ≡ p = eqb→eq q p t in
      exec-alike is_hidden s (procedure p) (env_of homes (procedure p) xs) (safe_env p (omega arith) xs (rw r at e) (rw r at X))
      (calls_below h s homes p) (grows_calls_below h s homes p) (calls_alike p (omega arith)) (body_of h s p)
      (safe_body forbidden covers s p h (S.procedure p (omega arith)) S.variable (body_of h s p) (plain p) (S.walked p (omega arith))) d)
      (calls_alike p (omega arith) q d xs e X)

  -- The slots of a store in which every scalar has length 1.
  pub store_safe : ((j : ℕ) → j < length lengths → T (not (is_array (type_of s ((last_of h s).first + j)))) → get_or lengths j 0 ≡ 1)
      → SafeSlots is_hidden s (last_of h s).first (store_slots s (last_of h s).first 0 lengths)
  store_safe scalar = slots_each is_hidden s (last_of h s).first (store_slots s (last_of h s).first 0 lengths) (λ j l.
      let m : j < length lengths = rw (store_count s (last_of h s).first 0 lengths) at l in
      record {
        secrecy = λ i a. (ap (λ z. eqb z 1) (of_cell-store (λ v. v.secrecy) h s lengths j i a), store_hidden s (last_of h s).first 0 lengths j m);
        single = λ k. store_cells s (last_of h s).first 0 lengths j m ∙ scalar j m k;
      })
