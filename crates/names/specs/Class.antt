-- A node of a class is decoded into a case of the class: the arms of a match that are of the other class are never taken.
use Rattle.std.specs.Prelude.{ℕ, ◌≤◌, ◌≡◌, List, Bool, true, false, eqb, leb, Option, Some, None, Ok, Err}
use Rattle.std.proofs.Math.Path.{refl, sym}
use Rattle.std.proofs.Common.{ap, ◌∙◌, arith}
use borrow.Author.Tests.{leb-true, eqb-true}
use Rattle.std.proofs.lemmas.Bool.{and_parts, cond_both, false≢true}
use Rattle.rules.specs.Image as rules
use Rattle.rules.specs.Image.{is_statement, is_expression}
use Rattle.records.specs.Decode.{Decoded, lvalue_by, lvalue_at, with_target, expression_by, decoded_by}
use Rattle.records.specs.Cases.{node_of_lvalue}
use Rattle.records.specs.declared.LValue.{LValue}
use Rattle.records.specs.declared.Node.{Node}
use Rattle.records.specs.declared.Node.TheVariants.{Empty, Update, Swap, ConditionalSwap, If, For, Call, Uncall, Block, Constant, Value, Size, Binary, Not, Argument}
use Rattle.records.specs.Truth.{past}

abbrev pub statement_case : Node → Bool
statement_case Empty = true
statement_case (Update l v o) = true
statement_case (Swap l m) = true
statement_case (ConditionalSwap l m e) = true
statement_case (If e y z) = true
statement_case (For x a b c) = true
statement_case (Call p a) = true
statement_case (Uncall p a) = true
statement_case (Block x c a) = true
statement_case (Constant k) = false
statement_case (Value l) = false
statement_case (Size x) = false
statement_case (Binary o a b) = false
statement_case (Not a) = false
statement_case (Argument l m) = false

abbrev pub expression_case : Node → Bool
expression_case Empty = false
expression_case (Update l v o) = false
expression_case (Swap l m) = false
expression_case (ConditionalSwap l m e) = false
expression_case (If e y z) = false
expression_case (For x a b c) = false
expression_case (Call p a) = false
expression_case (Uncall p a) = false
expression_case (Block x c a) = false
expression_case (Constant k) = true
expression_case (Value l) = true
expression_case (Size x) = true
expression_case (Binary o a b) = true
expression_case (Not a) = true
expression_case (Argument l m) = false

-- Of a decoded node; a refusal is none of either class, and never comes.
abbrev pub decoded_as : (Node → Bool) → Decoded → Bool
decoded_as class (Ok x) = class x
decoded_as class (Err r) = true

pub record Classed (class : Node → Bool) (d : Decoded) : Type 0 where
  pub is : decoded_as class d ≡ true

placed : (class : Node → Bool) (t : Option LValue) (n : ℕ) (made : LValue → Decoded)
    → ((l : LValue) → Classed class (made l)) → Classed class (with_target t n made)
placed class (Some l) n made go = go l
placed class None n made go = record { is = refl }

module _ (s : List ℕ) (n : ℕ) (r : rules.Node) where
  as_expression : Classed expression_case (expression_by n r)
  unfolding expression_by
  as_expression =
      cond_both (eqb r.kind 20) _ _ (Classed expression_case) (λ e. record { is = refl })
      (λ _. cond_both (eqb r.kind 24) _ _ (Classed expression_case) (λ e. record { is = refl })
      (λ _. cond_both (eqb r.kind 25) _ _ (Classed expression_case) (λ e. record { is = refl })
      (λ _. cond_both (eqb r.kind 26) _ _ (Classed expression_case) (λ e. record { is = refl })
      (λ _. placed expression_case (lvalue_by n r) n _ (λ l. record { is = refl })))))

  pub expression_case_lem : is_expression r.kind ≡ true → Classed expression_case (decoded_by s n r)
  unfolding decoded_by
  expression_case_lem i =
      let low : 20 ≤ r.kind = leb-true _ _ (and_parts (leb 20 r.kind) _ i).0 in
      cond_both (eqb r.kind 1) _ _ (Classed expression_case) (λ e. absurd (omega (arith, eqb-true r.kind 1 e)))
      (λ _. cond_both (eqb r.kind 2) _ _ (Classed expression_case) (λ e. absurd (omega (arith, eqb-true r.kind 2 e)))
      (λ _. cond_both (eqb r.kind 3) _ _ (Classed expression_case) (λ e. absurd (omega (arith, eqb-true r.kind 3 e)))
      (λ _. cond_both (eqb r.kind 4) _ _ (Classed expression_case) (λ e. absurd (omega (arith, eqb-true r.kind 4 e)))
      (λ _. cond_both (eqb r.kind 5) _ _ (Classed expression_case) (λ e. absurd (omega (arith, eqb-true r.kind 5 e)))
      (λ _. cond_both (eqb r.kind 6) _ _ (Classed expression_case) (λ e. absurd (omega (arith, eqb-true r.kind 6 e)))
      (λ _. cond_both (eqb r.kind 7) _ _ (Classed expression_case) (λ e. absurd (omega (arith, eqb-true r.kind 7 e)))
      (λ _. cond_both (eqb r.kind 8) _ _ (Classed expression_case) (λ e. absurd (omega (arith, eqb-true r.kind 8 e)))
      (λ _. cond_both (eqb r.kind 9) _ _ (Classed expression_case) (λ e. absurd (omega (arith, eqb-true r.kind 9 e)))
      (λ _. as_expression)))))))))

  pub statement_case_lem : is_statement r.kind ≡ true → Classed statement_case (decoded_by s n r)
  unfolding decoded_by
  statement_case_lem i =
      let low : 1 ≤ r.kind = leb-true _ _ (and_parts (leb 1 r.kind) _ i).0 in
      let high : r.kind ≤ 9 = leb-true _ _ (and_parts (leb 1 r.kind) _ i).1 in
      cond_both (eqb r.kind 1) _ _ (Classed statement_case) (λ e. record { is = refl })
      (λ n₁. cond_both (eqb r.kind 2) _ _ (Classed statement_case) (λ e. placed statement_case (lvalue_at s r.a) n _ (λ l. record { is = refl }))
      (λ n₂. cond_both (eqb r.kind 3) _ _ (Classed statement_case) (λ e. placed statement_case (lvalue_at s r.a) n _ (λ l. placed statement_case (lvalue_at s r.b) n _ (λ m. record { is = refl })))
      (λ n₃. cond_both (eqb r.kind 4) _ _ (Classed statement_case) (λ e. placed statement_case (lvalue_at s r.b) n _ (λ l. placed statement_case (lvalue_at s r.c) n _ (λ m. record { is = refl })))
      (λ n₄. cond_both (eqb r.kind 5) _ _ (Classed statement_case) (λ e. record { is = refl })
      (λ n₅. cond_both (eqb r.kind 6) _ _ (Classed statement_case) (λ e. record { is = refl })
      (λ n₆. cond_both (eqb r.kind 7) _ _ (Classed statement_case) (λ e. record { is = refl })
      (λ n₇. cond_both (eqb r.kind 8) _ _ (Classed statement_case) (λ e. record { is = refl })
      (λ n₈. cond_both (eqb r.kind 9) _ _ (Classed statement_case) (λ e. record { is = refl })
      (λ n₉.
      let over : 10 ≤ r.kind = past 9 _ (past 8 _ (past 7 _ (past 6 _ (past 5 _ (past 4 _ (past 3 _ (past 2 _ (past 1 _ low n₁) n₂) n₃) n₄) n₅) n₆) n₇) n₈) n₉ in
      absurd (omega arith))))))))))

-- The node of an L-value that is read as a value.
abbrev case_node : ℕ → Node → ℕ
case_node n Empty = n
case_node n (Update l v o) = n
case_node n (Swap l m) = n
case_node n (ConditionalSwap l m e) = n
case_node n (If e y z) = n
case_node n (For x a b c) = n
case_node n (Call p a) = n
case_node n (Uncall p a) = n
case_node n (Block x c a) = n
case_node n (Constant k) = n
case_node n (Value l) = node_of_lvalue l
case_node n (Size x) = n
case_node n (Binary o a b) = n
case_node n (Not a) = n
case_node n (Argument l m) = n

abbrev node_in : ℕ → Decoded → ℕ
node_in n (Ok x) = case_node n x
node_in n (Err r) = n

module _ (s : List ℕ) (n : ℕ) (r : rules.Node) where
  own_value : node_in n (expression_by n r) ≡ n
  unfolding expression_by lvalue_by
  own_value =
      cond_both (eqb r.kind 20) _ _ (λ d. node_in n d ≡ n) (λ e. refl)
      (λ _. cond_both (eqb r.kind 24) _ _ (λ d. node_in n d ≡ n) (λ e. refl)
      (λ _. cond_both (eqb r.kind 25) _ _ (λ d. node_in n d ≡ n) (λ e. refl)
      (λ _. cond_both (eqb r.kind 26) _ _ (λ d. node_in n d ≡ n) (λ e. refl)
      (λ _. cond_both (eqb r.kind 21) _ _ (λ t. node_in n (with_target t n (λ l. Ok (Value l))) ≡ n) (λ e. refl)
      (λ _. cond_both (eqb r.kind 22) _ _ (λ t. node_in n (with_target t n (λ l. Ok (Value l))) ≡ n) (λ e. refl)
      (λ _. cond_both (eqb r.kind 23) _ _ (λ t. node_in n (with_target t n (λ l. Ok (Value l))) ≡ n) (λ e. refl) (λ _. refl)))))))

  -- It is the node's own.
  pub own-node : is_expression r.kind ≡ true → (l : LValue) → decoded_by s n r ≡ Ok (Value l) → node_of_lvalue l ≡ n
  unfolding decoded_by
  own-node i l d = sym (ap (node_in n) d) ∙ (
      let low : 20 ≤ r.kind = leb-true _ _ (and_parts (leb 20 r.kind) _ i).0 in
      cond_both (eqb r.kind 1) _ _ (λ d. node_in n d ≡ n) (λ e. refl)
      (λ _. cond_both (eqb r.kind 2) _ _ (λ d. node_in n d ≡ n) (λ e. absurd (omega (arith, eqb-true r.kind 2 e)))
      (λ _. cond_both (eqb r.kind 3) _ _ (λ d. node_in n d ≡ n) (λ e. absurd (omega (arith, eqb-true r.kind 3 e)))
      (λ _. cond_both (eqb r.kind 4) _ _ (λ d. node_in n d ≡ n) (λ e. absurd (omega (arith, eqb-true r.kind 4 e)))
      (λ _. cond_both (eqb r.kind 5) _ _ (λ d. node_in n d ≡ n) (λ e. refl)
      (λ _. cond_both (eqb r.kind 6) _ _ (λ d. node_in n d ≡ n) (λ e. refl)
      (λ _. cond_both (eqb r.kind 7) _ _ (λ d. node_in n d ≡ n) (λ e. refl)
      (λ _. cond_both (eqb r.kind 8) _ _ (λ d. node_in n d ≡ n) (λ e. refl)
      (λ _. cond_both (eqb r.kind 9) _ _ (λ d. node_in n d ≡ n) (λ e. refl)
      (λ _. own_value))))))))))

-- A case of expressions that is none of these.
pub no_expression : (x : Node) → expression_case x ≡ true → ((k : ℕ) → x ≡ Constant k → ⊥) → ((l : LValue) → x ≡ Value l → ⊥) → ((y : ℕ) → x ≡ Size y → ⊥)
    → ((o a b : ℕ) → x ≡ Binary o a b → ⊥) → ((a : ℕ) → x ≡ Not a → ⊥) → ⊥
no_expression Empty e nc nv ns nb nn = false≢true e
no_expression (Update l v o) e nc nv ns nb nn = false≢true e
no_expression (Swap l m) e nc nv ns nb nn = false≢true e
no_expression (ConditionalSwap l m c) e nc nv ns nb nn = false≢true e
no_expression (If c y z) e nc nv ns nb nn = false≢true e
no_expression (For x a b c) e nc nv ns nb nn = false≢true e
no_expression (Call p a) e nc nv ns nb nn = false≢true e
no_expression (Uncall p a) e nc nv ns nb nn = false≢true e
no_expression (Block x c a) e nc nv ns nb nn = false≢true e
no_expression (Constant k) e nc nv ns nb nn = nc k refl
no_expression (Value l) e nc nv ns nb nn = nv l refl
no_expression (Size x) e nc nv ns nb nn = ns x refl
no_expression (Binary o a b) e nc nv ns nb nn = nb o a b refl
no_expression (Not a) e nc nv ns nb nn = nn a refl
no_expression (Argument l m) e nc nv ns nb nn = false≢true e

-- A case of statements that is none of these.
pub no_statement : (x : Node) → statement_case x ≡ true → (x ≡ Empty → ⊥) → ((l : LValue) (v o : ℕ) → x ≡ Update l v o → ⊥) → ((l m : LValue) → x ≡ Swap l m → ⊥)
    → ((l m : LValue) (c : ℕ) → x ≡ ConditionalSwap l m c → ⊥) → ((c y z : ℕ) → x ≡ If c y z → ⊥) → ((v a b c : ℕ) → x ≡ For v a b c → ⊥)
    → ((p a : ℕ) → x ≡ Call p a → ⊥) → ((p a : ℕ) → x ≡ Uncall p a → ⊥) → ((v c a : ℕ) → x ≡ Block v c a → ⊥) → ⊥
no_statement Empty e ne nu ns nc ni nf na nv nb = ne refl
no_statement (Update l v o) e ne nu ns nc ni nf na nv nb = nu l v o refl
no_statement (Swap l m) e ne nu ns nc ni nf na nv nb = ns l m refl
no_statement (ConditionalSwap l m c) e ne nu ns nc ni nf na nv nb = nc l m c refl
no_statement (If c y z) e ne nu ns nc ni nf na nv nb = ni c y z refl
no_statement (For x a b c) e ne nu ns nc ni nf na nv nb = nf x a b c refl
no_statement (Call p a) e ne nu ns nc ni nf na nv nb = na p a refl
no_statement (Uncall p a) e ne nu ns nc ni nf na nv nb = nv p a refl
no_statement (Block x c a) e ne nu ns nc ni nf na nv nb = nb x c a refl
no_statement (Constant c) e ne nu ns nc ni nf na nv nb = false≢true e
no_statement (Value l) e ne nu ns nc ni nf na nv nb = false≢true e
no_statement (Size x) e ne nu ns nc ni nf na nv nb = false≢true e
no_statement (Binary o a b) e ne nu ns nc ni nf na nv nb = false≢true e
no_statement (Not a) e ne nu ns nc ni nf na nv nb = false≢true e
no_statement (Argument l m) e ne nu ns nc ni nf na nv nb = false≢true e
