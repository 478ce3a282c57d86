-- What the walk's functions promise: a verdict that is the definition's, for every list of names that the marks stand for.
use Rattle.std.specs.Prelude.{ℕ, zero, suc, ◌-◌, ◌<◌, ◌≡◌, refl, List, Bool, true, false, not, cond, ◌&&◌, ◌||◌, eqb, get_or, Some, None, Result, Ok, Err, ⊤}
use Rattle.std.proofs.Common.{sym, ap, ◌∙◌, ⊎_elim, arith}
use Rattle.std.specs.Bool.{beq}
use Rattle.std.specs.Result.{IsErrAnd}
use Rattle.std.proofs.lemmas.Result.{err_from_is_err_and}
use Rattle.std.proofs.lemmas.Bool.{ne_eqb, eqb-true, cases_eq, cond_both}
use Rattle.rules.specs.Words.{binaries, binary_of, plus, divides}
use Rattle.rules.specs.Image.{Header, Parts, variable_of, is_array, is_constant, is_secret}
use Rattle.rules.specs.Form as form
use Rattle.rules.specs.Form.{accepted, refused, given, ◌then◌}
use Rattle.rules.specs.Tree as tree
use Rattle.rules.specs.Tree.{root, reading_at}
use Rattle.rules.specs.Walk.{type_of, same_type, same, passes_array, secret, named, element_refusal, expr_refusal, target_refusal, argument_refusal}
use Rattle.rules.specs.Check.{slow}
use Rattle.records.specs.Refusals.{number_of, as_verdict, then-stops}
pub use Rattle.records.specs.Refusals.{then-on}
use Rattle.records.specs.LValues.{node_of_lvalue, root_of, index_of}
use Rattle.records.specs.Cases.{place_of, value_of}
use Rattle.records.specs.declared.refusal.Refusal.{Refusal}
use Rattle.records.specs.Records.{as_variable}
use Rattle.records.specs.declared.Variable.{Variable}
use Rattle.records.specs.declared.LValue.{LValue}
use Rattle.records.specs.declared.LValue.TheVariants as lvalue
use Rattle.names.specs.declared.marks.Names.{Names}
use Rattle.names.specs.Marks.{Marks}
use Rattle.names.specs.Chains.{Naming}
use Rattle.walker.specs.declared.Walk.{Walk}

-- The nodes that the walk reads.
abbrev pub nodes_of : Walk → List ℕ
nodes_of w = w.parts.nodes.now

-- The walk's variables and the marks of the names in scope, of these parts and these names.
pub record Scope (w : Walk) (scope : Names) (s : Parts) (Γ : List ℕ) : Type 0 where
  pub own : s.variables ≡ w.parts.variables.now
  pub marks : Marks scope Γ

-- What refuses, or nothing.
abbrev pub judged : Result Bool Refusal → form.Verdict
judged (Ok x) = accepted
judged (Err r) = refused (number_of r.rule) r.place

-- The secrecy that a result has, where it has one.
abbrev pub Valued : Result Bool Refusal → Bool → Type 0
Valued r x = (y : Bool) → r ≡ Ok y → y ≡ x

-- An expression's refusal, or its secrecy.
pub record Judges (s : Parts) (Γ : List ℕ) (e : tree.Expr) (r : Result Bool Refusal) : Type 0 where
  pub is : judged r ≡ expr_refusal slow s Γ e
  pub type : Valued r (secret s e)

abbrev pub AsValue : List ℕ → LValue → (Parts → tree.Expr → Type 0) → Type 0
AsValue nodes l holds = (h : Header) (s : Parts) → Naming nodes h s l → holds s (value_of h s l)

-- An argument may be a whole array, another target may not.
unfoldable pub place_refusal : Bool → Parts → List ℕ → tree.LValue → form.Verdict
place_refusal arrays s Γ l = cond arrays (argument_refusal slow s Γ l) (target_refusal slow s Γ l)

-- ---- one test after the other

-- What a test refuses for is handed on as it is.
module _ {x : form.Verdict} (y : form.Verdict) where
  pub stops : (r : Result ⊤ Refusal) (e : Refusal) → IsErrAnd r (λ z. z ≡ e) → refused (number_of e.rule) e.place ≡ x → as_verdict r ≡ (x then y)
  stops r e f g = let p = err_from_is_err_and r f in rw (p.1, p.2) (then-stops e x y g)

  pub halts : (r : Result Bool Refusal) (e : Refusal) → IsErrAnd r (λ z. z ≡ e) → refused (number_of e.rule) e.place ≡ x → judged r ≡ (x then y)
  halts r e f g = let p = err_from_is_err_and r f in rw (p.1, p.2) (then-stops e x y g)

-- The same of a refusal by itself.
pub stops-on : (e : Refusal) {x : form.Verdict} (y : form.Verdict) → refused (number_of e.rule) e.place ≡ x → refused (number_of e.rule) e.place ≡ (x then y)
stops-on e {x} y g = then-stops e x y g

-- ---- results

pub valued : (x : Bool) → Valued (Ok x) x
valued x y e = cc

module _ (r : Result Bool Refusal) (e : Refusal) (f : IsErrAnd r (λ z. z ≡ e)) where
  pub not_valued : (x : Bool) → Valued r x
  not_valued x y q = let p = err_from_is_err_and r f in let k : r ≡ Err p.0 = p.1 in absurd cc

  pub refuses : {v : form.Verdict} → refused (number_of e.rule) e.place ≡ v → judged r ≡ v
  refuses g = let p = err_from_is_err_and r f in rw (p.1, p.2) g

pub refuses_with : (r : Result ⊤ Refusal) (e : Refusal) → IsErrAnd r (λ z. z ≡ e) → {v : form.Verdict} → refused (number_of e.rule) e.place ≡ v → as_verdict r ≡ v
refuses_with r e f g = let p = err_from_is_err_and r f in rw (p.1, p.2) g

-- Two tests that stand one after the other in a row of tests.
chosen_on : (t : Bool) (x y z : form.Verdict) → eqb x.number 0 ≡ t → cond (eqb (cond t y x).number 0) z (cond t y x) ≡ cond t (cond (eqb y.number 0) z y) x
chosen_on true x y z e = refl
chosen_on false x y z e = rw e

pub row : {w : form.Verdict} (x y z : form.Verdict) → w ≡ ((x then y) then z) → w ≡ (x then (y then z))
unfolding ◌then◌
row x y z e = e ∙ chosen_on (eqb x.number 0) x y z refl

-- ---- 13: the operators that divide

divides-only : (i : ℕ) → (i ≡ 3 → ⊥) → (i ≡ 4 → ⊥) → divides (get_or binaries i plus) ≡ false
unfolding divides
divides-only zero a b = refl
divides-only (suc zero) a b = refl
divides-only (suc (suc zero)) a b = refl
divides-only (suc (suc (suc zero))) a b = absurd (a refl)
divides-only (suc (suc (suc (suc zero)))) a b = absurd (b refl)
divides-only (suc (suc (suc (suc (suc zero))))) a b = refl
divides-only (suc (suc (suc (suc (suc (suc zero)))))) a b = refl
divides-only (suc (suc (suc (suc (suc (suc (suc zero))))))) a b = refl
divides-only (suc (suc (suc (suc (suc (suc (suc (suc zero)))))))) a b = refl
divides-only (suc (suc (suc (suc (suc (suc (suc (suc (suc zero))))))))) a b = refl
divides-only (suc (suc (suc (suc (suc (suc (suc (suc (suc (suc zero)))))))))) a b = refl
divides-only (suc (suc (suc (suc (suc (suc (suc (suc (suc (suc (suc zero))))))))))) a b = refl
divides-only (suc (suc (suc (suc (suc (suc (suc (suc (suc (suc (suc (suc zero)))))))))))) a b = refl
divides-only (suc (suc (suc (suc (suc (suc (suc (suc (suc (suc (suc (suc (suc zero))))))))))))) a b = refl
divides-only (suc (suc (suc (suc (suc (suc (suc (suc (suc (suc (suc (suc (suc (suc zero)))))))))))))) a b = refl
divides-only (suc (suc (suc (suc (suc (suc (suc (suc (suc (suc (suc (suc (suc (suc (suc zero))))))))))))))) a b = refl
divides-only (suc (suc (suc (suc (suc (suc (suc (suc (suc (suc (suc (suc (suc (suc (suc (suc i)))))))))))))))) a b = refl

pub slow-operator : (o : ℕ) → (eqb o 4 || eqb o 5) ≡ slow (binary_of o)
unfolding slow divides
slow-operator zero = refl
slow-operator (suc i) =
    ⊎_elim
    (λ (e : i ≡ 3). rw e)
    (λ (e : i ≡ 3 → ⊥). ⊎_elim
    (λ (f : i ≡ 4). rw f)
    (λ (f : i ≡ 4 → ⊥).
    let j : suc i - 1 ≡ i = omega arith in
    let a : eqb (suc i) 4 ≡ false = ne_eqb (suc i) 4 (λ z. e (omega (arith, z))) in
    let b : eqb (suc i) 5 ≡ false = ne_eqb (suc i) 5 (λ z. f (omega (arith, z))) in
    rw (a, b, j) (sym (divides-only i e f))) (cases_eq i 4)) (cases_eq i 3)

-- ---- the leaves of an expression

abbrev pub free_of : LValue → Bool
free_of (lvalue.Variable n x) = false
free_of (lvalue.Element n x i) = false
free_of (lvalue.Unsafe n x i) = true

pub record ElementJudged (w : Walk) (scope : Names) (l : LValue) (hidden : Bool) (r : Result Bool Refusal) : Type 0 where
  pub is : (s : Parts) (Γ : List ℕ) → Scope w scope s Γ → root_of l < 1024 → (e : tree.Expr) → hidden ≡ secret s e
      → judged r ≡ element_refusal s Γ (node_of_lvalue l) (free_of l) (root_of l) e
  pub type : (s : Parts) → s.variables ≡ w.parts.variables.now → Valued r (is_secret (type_of s (root_of l)))

pub record VariableJudged (w : Walk) (scope : Names) (n x : ℕ) (r : Result Bool Refusal) : Type 0 where
  pub is : (s : Parts) (Γ : List ℕ) → Scope w scope s Γ → x < 1024 → (k : ℕ) → Judges s Γ (cond (is_constant (type_of s x)) (tree.constant n x k) (tree.variable n x)) r

pub record SizeJudged (w : Walk) (scope : Names) (n x : ℕ) (r : Result Bool Refusal) : Type 0 where
  pub is : (s : Parts) (Γ : List ℕ) → Scope w scope s Γ → x < 1024 → Judges s Γ (tree.size n x) r

pub record BinaryJudged (n operator : ℕ) (left right : Bool) (r : Result Bool Refusal) : Type 0 where
  pub is : judged r ≡ given 13 n (slow (binary_of operator) && (left || right))
  pub type : Valued r (left || right)

-- A variable that is a value: a constant is no array, and public.
module _ (s : Parts) (Γ : List ℕ) (n x k : ℕ) where
  pub variable_refusal : named Γ n x (is_array (type_of s x)) ≡ expr_refusal slow s Γ (cond (is_constant (type_of s x)) (tree.constant n x k) (tree.variable n x))
  unfolding expr_refusal
  variable_refusal =
      cond_both (is_constant (type_of s x)) _ _ (λ t. named Γ n x (is_array (type_of s x)) ≡ expr_refusal slow s Γ t)
      (λ z. let y : (type_of s x).kind ≡ 2 = eqb-true (type_of s x).kind 2 z in rw y)
      (λ z. refl)

  pub variable_secret : (not (is_constant (type_of s x)) && is_secret (type_of s x)) ≡ secret s (cond (is_constant (type_of s x)) (tree.constant n x k) (tree.variable n x))
  unfolding secret
  variable_secret =
      cond_both (is_constant (type_of s x)) _ _ (λ t. (not (is_constant (type_of s x)) && is_secret (type_of s x)) ≡ secret s t)
      (λ z. rw z)
      (λ z. rw z)

-- ---- a variable's record, as the code reads it

pub read : (s : Parts) {vs : List ℕ} → s.variables ≡ vs → (x : ℕ) {v : Variable} → as_variable v ≡ variable_of vs x → as_variable v ≡ type_of s x
read s own x e = e ∙ ap (λ (a : List ℕ). variable_of a x) (sym own)

-- ---- elements

-- The element that an L-value with an index is.
abbrev pub element_of : Header → Parts → LValue → ℕ → tree.Expr
element_of h s l i = tree.element (node_of_lvalue l) (free_of l) (root_of l) (reading_at h s i).as_expr

pub record ElementWalked (w : Walk) (scope : Names) (l : LValue) (i : ℕ) (r : Result Bool Refusal) : Type 0 where
  pub is : (h : Header) (s : Parts) → Naming w.parts.nodes.now h s l → (Γ : List ℕ) → Scope w scope s Γ → Judges s Γ (element_of h s l i) r

module _ (h : Header) (s : Parts) where
  pub value_element : (l : LValue) {i : ℕ} → index_of l ≡ Some i → value_of h s l ≡ element_of h s l i
  value_element (lvalue.Variable n x) e = absurd cc
  value_element (lvalue.Element n x j) {i} e = let k : j ≡ i = cc in rw k
  value_element (lvalue.Unsafe n x j) {i} e = let k : j ≡ i = cc in rw k

  pub value_variable : (l : LValue) → index_of l ≡ None
      → (k : ℕ) × (value_of h s l ≡ cond (is_constant (type_of s (root_of l))) (tree.constant (node_of_lvalue l) (root_of l) k) (tree.variable (node_of_lvalue l) (root_of l)))
  value_variable (lvalue.Variable n x) e = (_, refl)
  value_variable (lvalue.Element n x j) e = absurd cc
  value_variable (lvalue.Unsafe n x j) e = absurd cc

  pub place_element : (arrays : Bool) (Γ : List ℕ) (l : LValue) {i : ℕ} → index_of l ≡ Some i → place_refusal arrays s Γ (place_of h s l) ≡ expr_refusal slow s Γ (element_of h s l i)
  unfolding place_refusal target_refusal argument_refusal expr_refusal
  place_element arrays Γ (lvalue.Variable n x) e = absurd cc
  place_element true Γ (lvalue.Element n x j) {i} e = let k : j ≡ i = cc in rw k
  place_element false Γ (lvalue.Element n x j) {i} e = let k : j ≡ i = cc in rw k
  place_element true Γ (lvalue.Unsafe n x j) {i} e = let k : j ≡ i = cc in rw k
  place_element false Γ (lvalue.Unsafe n x j) {i} e = let k : j ≡ i = cc in rw k

  pub place_whole : (arrays : Bool) (Γ : List ℕ) (l : LValue) → index_of l ≡ None
      → place_refusal arrays s Γ (place_of h s l)
      ≡ named Γ (node_of_lvalue l) (root_of l) ((not arrays && is_array (type_of s (root_of l))) || is_constant (type_of s (root_of l)))
  unfolding place_refusal target_refusal argument_refusal
  place_whole true Γ (lvalue.Variable n x) e = refl
  place_whole false Γ (lvalue.Variable n x) e = refl
  place_whole arrays Γ (lvalue.Element n x j) e = absurd cc
  place_whole arrays Γ (lvalue.Unsafe n x j) e = absurd cc

-- ---- arguments

pub record Passes (w : Walk) (l : LValue) (r : Bool) : Type 0 where
  pub is : (h : Header) (s : Parts) → s.variables ≡ w.parts.variables.now → r ≡ passes_array s (place_of h s l)

pub record ArgumentFits (w : Walk) (l : LValue) (y : ℕ) (r : Bool) : Type 0 where
  pub is : (h : Header) (s : Parts) → s.variables ≡ w.parts.variables.now
      → r ≡ (same_type (type_of s (root (place_of h s l))) (type_of s y) && same (passes_array s (place_of h s l)) (is_array (type_of s y)))

pub same_bits : (a b : Bool) → beq a b ≡ same a b
unfolding same
same_bits true true = refl
same_bits true false = refl
same_bits false true = refl
same_bits false false = refl

module _ (h : Header) (s : Parts) where
  pub passes_element : (l : LValue) {i : ℕ} → index_of l ≡ Some i → passes_array s (place_of h s l) ≡ false
  unfolding passes_array
  passes_element (lvalue.Variable n x) e = absurd cc
  passes_element (lvalue.Element n x i) e = refl
  passes_element (lvalue.Unsafe n x i) e = refl

  pub passes_whole : (l : LValue) → index_of l ≡ None → passes_array s (place_of h s l) ≡ is_array (type_of s (root_of l))
  unfolding passes_array
  passes_whole (lvalue.Variable n x) e = refl
  passes_whole (lvalue.Element n x i) e = absurd cc
  passes_whole (lvalue.Unsafe n x i) e = absurd cc
