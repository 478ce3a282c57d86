-- The laws of L-values: the cell of each case, and its root.
use Prim.Native.Nat.{ℕ}
use mathlib.Core.Path.{◌≡◌, refl}
use mathlib.Core.Bool.{Bool, true, false}
use mathlib.Core.List.{List}
use mathlib.Core.Logic.{◌⊎◌, ⊎_elim}
use Rattle.rules.specs.Image.{Header, Parts, is_expression}
use Rattle.rules.specs.Tree as tree
use Rattle.rules.specs.Tree.{root, reading_at}
use Rattle.rules.specs.Words.{Direction, Update, changed_by, going}
use Rattle.rules.specs.Machine.{Env, and_then, inside, eval, address, change}
use Rattle.records.specs.declared.LValue.{LValue}
use Rattle.records.specs.declared.LValue.TheVariants.{Variable, Element, Unsafe}
use Rattle.records.specs.Cases.{place_of, root-place, value_of, node_of_lvalue, Named}
use Rattle.records.specs.Fits.{Child}
use Rattle.expressions.specs.Relations.{Run, Valued, Readable, Indexed, root_of, Good, answer, Gets, Does}
use Rattle.expressions.proofs.Laws.{found_plain}

-- An element, safe or not: entry i of array x at node n. What holds of one holds of the other.
pub record Entry (l : LValue) (n x i : ℕ) : Type 0 where
  pub unsafe : Bool
  pub place : (h : Header) (s : Parts) → place_of h s l ≡ tree.entry n unsafe x (reading_at h s i).as_expr
  pub value : (h : Header) (s : Parts) → value_of h s l ≡ tree.element n unsafe x (reading_at h s i).as_expr
  pub here : node_of_lvalue l ≡ n
  pub root : root_of l ≡ x
  pub index : (nodes : List ℕ) → Indexed nodes l → Readable is_expression nodes i
  pub child : (h : Header) (s : Parts) → Named h s l → Child h s.nodes n is_expression i

element-entry : (n x i : ℕ) {l : LValue} → l ≡ Element n x i → Entry l n x i
unfolding Indexed
element-entry n x i e =
    rw e (record { unsafe = false; place = λ h s. refl; value = λ h s. refl; here = refl; root = refl; index = λ nodes r. r; child = λ h s q. q.1 })

unsafe_entry : (n x i : ℕ) {l : LValue} → l ≡ Unsafe n x i → Entry l n x i
unfolding Indexed
unsafe_entry n x i e =
    rw e (record { unsafe = true; place = λ h s. refl; value = λ h s. refl; here = refl; root = refl; index = λ nodes r. r; child = λ h s q. q.1 })

pub entry_of : (n x i : ℕ) {l : LValue} → (l ≡ Element n x i) ⊎ (l ≡ Unsafe n x i) → Entry l n x i
entry_of n x i = ⊎_elim (element-entry n x i) (unsafe_entry n x i)

-- The same where its fields have no names.
pub some_entry : {l : LValue} → ((n : ℕ) × (x : ℕ) × (i : ℕ) × (l ≡ Element n x i)) ⊎ ((n : ℕ) × (x : ℕ) × (i : ℕ) × (l ≡ Unsafe n x i)) → (n : ℕ) × (x : ℕ) × (i : ℕ) × Entry l n x i
some_entry = ⊎_elim (λ t. (t.0, t.1, t.2, element-entry _ _ _ t.3)) (λ t. (t.0, t.1, t.2, unsafe_entry _ _ _ t.3))

-- The cell of each case.
module _ (ρ : Env) (σ : List ℕ) (h : Header) (s : Parts) (l : LValue) {trace : List ℕ} {entries : ℕ} where
  pub address-whole : (n x : ℕ) → l ≡ Variable n x → Gets (address ρ σ (place_of h s l)) trace entries trace (answer (ρ x).base 0 0 entries)
  unfolding address
  address-whole n x e = rw e (found_plain _)

  pub address-entry : {n x i : ℕ} → Entry l n x i → {trace' : List ℕ} {v : Valued}
      → Gets (and_then (eval ρ σ (reading_at h s i).as_expr) (inside n (ρ x))) trace entries trace' v → Gets (address ρ σ (place_of h s l)) trace entries trace' v
  unfolding address
  address-entry y g = rw (y.place h s) g

-- The change of an update's cell, whose size is that of the root's slot, in the direction that it goes.
pub update_as : (ρ : Env) (h : Header) (s : Parts) (l : LValue) (d : Direction) (o u : Update) (x z v i : ℕ) {cells cells' trace trace' : List ℕ} {run run' : Run}
    → x ≡ root_of l → Good (ρ (root_of l)) → (Good (ρ x) → z ≡ (ρ x).width) → u ≡ going d o
    → Does (change (changed_by u z v) i) cells trace run cells' trace' run'
    → Does (change (changed_by (going d o) (ρ (root (place_of h s l))).width v) i) cells trace run cells' trace' run'
update_as ρ h s l d o u x z v i at-root good sized turned done =
    let here : Good (ρ x) = rw at-root good in
    rw (root-place h s l, ← at-root, ← sized here, ← turned) done
