-- The cases of a node that is an expression: no statement, and an L-value carries the node's own number.
use Prim.Native.Nat.{ℕ}
use mathlib.Core.Path.{◌≡◌, refl}
use mathlib.Core.List.{List, [], ◌∷◌}
use mathlib.Core.Bool.{true}
use lib.Dec.{eqb}
use types.Run.{OneOf, miss}
use denote.Enum.Declared.{tag_of}
use Rattle.rules.specs.Image as rules
use Rattle.rules.specs.Image.{is_expression, node_of}
use Rattle.records.specs.declared.Node.{Node}
use Rattle.records.specs.declared.Node.TheVariants.{Constant, Value, Size, Binary, Not}
use Rattle.std.specs.Prelude.{Ok, Err}
use Rattle.std.proofs.lemmas.Bool.{cond_both}
use Rattle.records.specs.contracts.Node.{the_type}
use Rattle.records.specs.Decode.{Decoded, lvalue_by, expression_by, decoded_by, decoded_at, with_target}
use Rattle.records.specs.Expressions.{decoded_expression}
use Rattle.records.specs.Cases.{node_of_lvalue}
use Rattle.expressions.specs.Relations.{Readable}

abbrev pub Expressed : ℕ → Decoded → Type 0
Expressed n (Ok (Constant k)) = Unit {0}
Expressed n (Ok (Value l)) = node_of_lvalue l ≡ n
Expressed n (Ok (Size x)) = Unit {0}
Expressed n (Ok (Binary o a b)) = Unit {0}
Expressed n (Ok (Not a)) = Unit {0}
Expressed n (Ok _) = ⊥
Expressed n (Err r) = Unit {0}

module _ (n : ℕ) (r : rules.Node) where
  abbrev here : Decoded → Type 0
  here = Expressed n

  lvalue-expressed : here (with_target (lvalue_by n r) n (λ l. Ok (Value l)))
  unfolding lvalue_by
  lvalue-expressed =
      cond_both (eqb r.kind 21) _ _ (λ t. here (with_target t n (λ l. Ok (Value l)))) (λ e. refl)
      (λ e. cond_both (eqb r.kind 22) _ _ (λ t. here (with_target t n (λ l. Ok (Value l)))) (λ e. refl)
      (λ e. cond_both (eqb r.kind 23) _ _ (λ t. here (with_target t n (λ l. Ok (Value l)))) (λ e. refl) (λ e. tt)))

  expression-expressed : here (expression_by n r)
  unfolding expression_by
  expression-expressed =
      cond_both (eqb r.kind 20) _ _ here (λ e. tt)
      (λ e. cond_both (eqb r.kind 24) _ _ here (λ e. tt)
      (λ e. cond_both (eqb r.kind 25) _ _ here (λ e. tt)
      (λ e. cond_both (eqb r.kind 26) _ _ here (λ e. tt) (λ e. lvalue-expressed))))

  expressed : (s : List ℕ) → is_expression r.kind ≡ true → here (decoded_by s n r)
  expressed s i = rw (decoded_expression n r s i) expression-expressed

-- The tags of the cases that are no expression.
abbrev pub others : List ℕ
others = 0 ∷ 1 ∷ 2 ∷ 3 ∷ 4 ∷ 5 ∷ 6 ∷ 7 ∷ 8 ∷ 14 ∷ []

no_other : (n : ℕ) (x : Node) → Expressed n (Ok x) → OneOf others (tag_of the_type x) → ⊥
no_other n (Constant k) e o = miss others 9 tt o
no_other n (Value l) e o = miss others 10 tt o
no_other n (Size x) e o = miss others 11 tt o
no_other n (Binary b l r) e o = miss others 12 tt o
no_other n (Not a) e o = miss others 13 tt o
no_other n _ e o = e

module _ {nodes : List ℕ} {n : ℕ} (r : Readable is_expression nodes n) (x : Node) (e : decoded_at nodes n ≡ Ok x) where
  pub case_expressed : Expressed n (Ok x)
  case_expressed = rw e at (expressed n (node_of nodes n) nodes r.classed)

  pub case_no_other : OneOf others (tag_of the_type x) → ⊥
  case_no_other = no_other n x case_expressed
