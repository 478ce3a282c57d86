-- An L-value's node, the variable that it names, and the node of its index.
use Rattle.std.specs.Prelude.{ℕ, Bool, true, false, Option, Some, None}
use Rattle.records.specs.declared.LValue.{LValue}
use Rattle.records.specs.declared.LValue.TheVariants.{Variable, Element, Unsafe}

abbrev pub node_of_lvalue : LValue → ℕ
node_of_lvalue (Variable n x) = n
node_of_lvalue (Element n x i) = n
node_of_lvalue (Unsafe n x i) = n

abbrev pub root_of : LValue → ℕ
root_of (Variable n x) = x
root_of (Element n x i) = x
root_of (Unsafe n x i) = x

abbrev pub index_of : LValue → Option ℕ
index_of (Variable n x) = None
index_of (Element n x i) = Some i
index_of (Unsafe n x i) = Some i

-- Whether an L-value is a name by itself.
abbrev pub whole_of : LValue → Bool
whole_of (Variable n x) = true
whole_of (Element n x i) = false
whole_of (Unsafe n x i) = false
