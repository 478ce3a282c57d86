-- What a node's record is taken apart into. "A target that turns out to be no L-value is answered on the spot": 5, at the node that refers.
use Rattle.std.specs.Prelude.{ℕ, List, ◌≡◌, cond, eqb, Option, Some, None, Result, Ok, Err}
use Rattle.std.proofs.Common.{sym, ap, ◌∙◌}
use Rattle.rules.specs.Image as rules
use Rattle.rules.specs.Image.{node_of}
use Rattle.records.specs.declared.LValue.{LValue}
use Rattle.records.specs.declared.LValue.TheVariants.{Variable, Element, Unsafe}
use Rattle.records.specs.declared.Node.TheVariants.{Empty, Update, Swap, ConditionalSwap, If, For, Call, Uncall, Block, Constant, Value, Size, Binary, Not, Argument}
use Rattle.records.specs.declared.Node.{Node}
use Rattle.records.specs.declared.refusal.Refusal.{Refusal}
use Rattle.records.specs.declared.refusal.Rule.TheVariants.{NodeRecord}

-- What a node is taken apart into: its case, or its refusal.
abbrev pub Decoded : Type 0
Decoded = Result Node Refusal

-- 5 at node n.
abbrev pub unfit : ℕ → Refusal
unfit n = record { rule = NodeRecord; place = n }

-- "Kinds 21 to 23 are L-values."
unfoldable pub lvalue_by : ℕ → rules.Node → Option LValue
lvalue_by n r =
    cond (eqb r.kind 21) (Some (Variable n r.a))
    (cond (eqb r.kind 22) (Some (Element n r.a r.b))
    (cond (eqb r.kind 23) (Some (Unsafe n r.a r.b)) None))

abbrev pub lvalue_at : List ℕ → ℕ → Option LValue
lvalue_at s n = lvalue_by n (node_of s n)

-- What is made of an L-value, or the refusal at the node that refers to it.
abbrev pub with_target : Option LValue → ℕ → (LValue → Decoded) → Decoded
with_target (Some l) n made = made l
with_target None n made = Err (unfit n)

unfoldable pub expression_by : ℕ → rules.Node → Decoded
expression_by n r =
    cond (eqb r.kind 20) (Ok (Constant r.a))
    (cond (eqb r.kind 24) (Ok (Size r.a))
    (cond (eqb r.kind 25) (Ok (Binary r.operator r.a r.b))
    (cond (eqb r.kind 26) (Ok (Not r.a)) (with_target (lvalue_by n r) n (λ l. Ok (Value l))))))

abbrev pub update_by : List ℕ → ℕ → rules.Node → Decoded
update_by s n r = with_target (lvalue_at s r.a) n (λ l. Ok (Update l r.b r.operator))

abbrev pub swap_by : List ℕ → ℕ → rules.Node → Decoded
swap_by s n r = with_target (lvalue_at s r.a) n (λ l. with_target (lvalue_at s r.b) n (λ m. Ok (Swap l m)))

abbrev pub conditional_swap_by : List ℕ → ℕ → rules.Node → Decoded
conditional_swap_by s n r = with_target (lvalue_at s r.b) n (λ l. with_target (lvalue_at s r.c) n (λ m. Ok (ConditionalSwap l m r.a)))

unfoldable pub decoded_by : List ℕ → ℕ → rules.Node → Decoded
decoded_by s n r =
    cond (eqb r.kind 1) (Ok Empty)
    (cond (eqb r.kind 2) (update_by s n r)
    (cond (eqb r.kind 3) (swap_by s n r)
    (cond (eqb r.kind 4) (conditional_swap_by s n r)
    (cond (eqb r.kind 5) (Ok (If r.a r.b r.c))
    (cond (eqb r.kind 6) (Ok (For r.a r.b r.c r.d))
    (cond (eqb r.kind 7) (Ok (Call r.a r.b))
    (cond (eqb r.kind 8) (Ok (Uncall r.a r.b))
    (cond (eqb r.kind 9) (Ok (Block r.a r.b r.c)) (expression_by n r)))))))))

-- Node n as its case.
abbrev pub decoded_at : List ℕ → ℕ → Decoded
decoded_at s n = decoded_by s n (node_of s n)

-- What a decoder answered, and what was found in it.
pub decoded : {d r : Decoded} {x y : Node} → r ≡ d → r ≡ Ok x → x ≡ y → d ≡ Ok y
decoded e f g = sym e ∙ f ∙ ap Ok g

-- Node n as an argument, with what follows it.
abbrev pub argument_at : List ℕ → ℕ → ℕ → Decoded
argument_at s by n = with_target (lvalue_at s n) by (λ l. Ok (Argument l (node_of s n).next))
