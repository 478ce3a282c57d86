-- One law for each way out of `value`: what its node is decoded into says what the tree is, and the answer is the rules' for that tree.
use Prim.Native.Nat.{ℕ, ◌-◌, ◌^◌, ◌<◌}
use mathlib.Core.Path.{◌≡◌, sym, ap, ◌∙◌}
use mathlib.Core.List.{List, []}
use mathlib.Core.Bool.{cond}
use native.Mathlib.Nat.{mod-eq_of_lt}
use native.Mathlib.Omega.{arith}
use Rattle.rules.specs.Words.{binary_of, complement, operate1}
use Rattle.rules.specs.Image.{Header, Parts, variable_of, constant_of, is_constant, is_expression}
use Rattle.rules.specs.Tree as tree
use Rattle.rules.specs.Tree.{reading_at}
use Rattle.rules.specs.Machine.{Env, Found, found, and_then, inside, load, divided, eval}
use Rattle.records.specs.declared.LValue.{LValue}
use Rattle.records.specs.declared.LValue.TheVariants.{Variable}
use Rattle.records.specs.declared.Node.{Node}
use Rattle.records.specs.declared.Node.TheVariants.{Constant, Value, Size, Binary, Not}
use Rattle.std.specs.Prelude.{Ok}
use Rattle.records.specs.Decode.{decoded_at}
use Rattle.records.specs.Fits.{Child}
use Rattle.records.specs.Cases.{Means, Refers}
use Rattle.expressions.specs.Relations.{Valued, Program, bare, Readable, answer, Gets}
use Rattle.expressions.specs.Laws.{then_then}
use Rattle.expressions.specs.Meaning.{program-means, inside_of, readable_refers, readable_child}
use Rattle.expressions.proofs.Laws.{found_plain}
use Rattle.expressions.proofs.Targets.{Entry}
use Rattle.expressions.proofs.Cases.{case_expressed}

module _ {nodes : List ℕ} {n : ℕ} (r : Readable is_expression nodes n) where
  -- A node that is referred to is nearer the last number, and can be read.
  pub child_falls : {x : Node} (e : decoded_at nodes n ≡ Ok x) {m : ℕ} → (Refers r.header (bare nodes) n x → Child r.header nodes n is_expression m)
      → {t : ℕ} → 65535 - n ≡ t → (65535 - m < t) × Readable is_expression nodes m
  child_falls e {m} child at =
      let x = child (readable_refers r _ e) in
      (omega (arith, x.behind, x.inside, r.few, at), readable_child r is_expression m x)

  pub index-falls : (l : LValue) {m x i : ℕ} → Entry l m x i → decoded_at nodes n ≡ Ok (Value l) → {t : ℕ} → 65535 - n ≡ t → (65535 - i < t) × Readable is_expression nodes i
  index-falls l y e = child_falls e (λ q. rw (sym y.here ∙ case_expressed r _ e) at (y.child r.header (bare nodes) q))

  -- The answers, in a program of these nodes.
  module _ (ρ : Env) (σ : List ℕ) (h : Header) (s : Parts) {variables constants : List ℕ} (p : Program h s nodes variables constants) where
    abbrev at : ℕ → Found ℕ
    at m = eval ρ σ (reading_at h s m).as_expr

    meant : (x : Node) → decoded_at nodes n ≡ Ok x → Means h s n x
    meant = program-means h s p n (inside_of r h s p)

    module _ {trace : List ℕ} {entries : ℕ} where
      pub value_number : (k v : ℕ) → decoded_at nodes n ≡ Ok (Constant k) → v ≡ constant_of constants k → v < 2 ^ 64 → Gets (at n) trace entries trace (answer v 0 0 entries)
      unfolding eval
      value_number k v e q small =
          let same : constant_of s.constants k ≡ v = ap (λ c. constant_of c k) p.constants-are ∙ sym q in
          rw (meant _ e ∙ ap (λ v. tree.number n v) same) (rw (mod-eq_of_lt small) (found_plain v))

      pub value_named : (m x : ℕ) → decoded_at nodes n ≡ Ok (Value (Variable m x)) → {trace' : List ℕ} {v : Valued}
          → Gets (eval ρ σ (cond (is_constant (variable_of variables x)) (tree.constant m x (constant_of constants (variable_of variables x).extra)) (tree.variable m x))) trace entries trace' v
          → Gets (at n) trace entries trace' v
      value_named m x e g = rw (meant _ e, p.variables-are, p.constants-are) g

      -- An element's cell is found, and what it has fetched.
      pub value_entry : (l : LValue) {m x i : ℕ} → Entry l m x i → decoded_at nodes n ≡ Ok (Value l) → {trace' : List ℕ} {v : Valued}
          → Gets (and_then (and_then (at i) (inside m (ρ x))) (load σ)) trace entries trace' v → Gets (at n) trace entries trace' v
      unfolding eval
      value_entry l {m} {x} {i} y e g = rw (meant _ e ∙ y.value h s) (rw (then_then (at i) (inside m (ρ x)) (load σ)) at g)

      pub value_size : (x : ℕ) → decoded_at nodes n ≡ Ok (Size x) → Gets (at n) trace entries trace (answer (ρ x).cells 0 0 entries)
      unfolding eval
      value_size x e = rw (meant _ e) (found_plain _)

      pub value_binary : (o a b : ℕ) → decoded_at nodes n ≡ Ok (Binary o a b) → {trace' : List ℕ} {v : Valued}
          → Gets (and_then (at a) (λ v. and_then (at b) (divided n (binary_of o) v))) trace entries trace' v → Gets (at n) trace entries trace' v
      unfolding eval
      value_binary o a b e g = rw (meant _ e) g

      pub value_not : (a : ℕ) → decoded_at nodes n ≡ Ok (Not a) → {trace' : List ℕ} {v : Valued}
          → Gets (and_then (at a) (λ a. found (operate1 complement a) [])) trace entries trace' v → Gets (at n) trace entries trace' v
      unfolding eval
      value_not a e g = rw (meant _ e) g
