-- The verdict, numbers 1 to 5: layout, records, the table of fields.
use Rattle.std.specs.Prelude.{ℕ, zero, suc, ◌+◌, ◌*◌, List, [], ◌∷◌, Bool, true, not, cond, ◌&&◌, ◌||◌, length, get_or, eqb, leb, ltb}
use Rattle.rules.specs.Image.{missing, Header, header_of, Parts, procedure_of, Variable, variable_of, is_array, is_constant, Node, node_of, is_statement, is_expression, is_lvalue}

-- "Answer: a number and a place, 0 and 0 when accepted."
pub record Verdict : Type 0 where
  pub number : ℕ
  pub place : ℕ

abbrev pub refused : ℕ → ℕ → Verdict
refused number place = record { number = number; place = place }

abbrev pub accepted : Verdict
accepted = refused 0 0

-- The refusal of this number at this place, "given exactly when" the condition holds.
unfoldable pub given : ℕ → ℕ → Bool → Verdict
given number place broken = cond broken (refused number place) accepted

-- The first refusal of two tests.
infixr 20 ◌then◌
unfoldable pub ◌then◌ : Verdict → Verdict → Verdict
◌then◌ v w = cond (eqb v.number 0) w v

-- The lowest of the count places from i on that fails the test, or i + count.
unfoldable pub search : (ℕ → Bool) → ℕ → ℕ → ℕ
search passes i zero = i
search passes i (suc count) = cond (passes i) (search passes (suc i) count) i

-- "lowest place first": the refusal at the lowest of the count places from i on that fails the test.
unfoldable pub lowest : ℕ → (ℕ → Bool) → ℕ → ℕ → Verdict
lowest number passes i count = given number (search passes i count) (not (eqb (search passes i count) (i + count)))

-- 1: "under 20 or over 65,535 bytes, or format not 1"
unfoldable pub format_refusal : List ℕ → Verdict
format_refusal image = given 1 0 (ltb (length image) 20 || (ltb 65535 (length image) || not (eqb (header_of image).format 1)))

-- 2: "a count, offset or total breaks the layout". "Parts follow the header and each other without gaps; the total is the slice's length."
unfoldable pub counts_fit : Header → Bool
counts_fit h = (leb 1 h.procedures && leb h.procedures 32) && (leb h.variables 1024 && ((leb 1 h.nodes && leb h.nodes 4096) && leb h.constants 512))

unfoldable pub parts_follow : Header → ℕ → Bool
parts_follow h bytes =
    eqb h.procedure_part 20
    && (eqb h.variable_part (h.procedure_part + h.procedures * 8)
    && (eqb h.node_part (h.variable_part + h.variables * 6)
    && (eqb h.constant_part (h.node_part + h.nodes * 12)
    && (eqb h.total (h.constant_part + h.constants * 8) && eqb h.total bytes))))

unfoldable pub layout_refusal : List ℕ → Verdict
layout_refusal image = given 2 0 (not (counts_fit (header_of image) && parts_follow (header_of image) (length image)))

-- 3: "a procedure record does (left-over variables: the last)"
-- "Variables are shared out in procedure order, none left over": how many are shared out before procedure p.
unfoldable pub shared_before : List ℕ → ℕ → ℕ
shared_before s zero = 0
shared_before s (suc p) = shared_before s p + (procedure_of s p).count

-- "parameter count (at most 16 and at most the variable count), body node (below N). No range passes V."
unfoldable pub procedure_fits : Header → List ℕ → ℕ → Bool
procedure_fits h s p =
    eqb (procedure_of s p).first (shared_before s p)
    && (leb ((procedure_of s p).first + (procedure_of s p).count) h.variables
    && (leb (procedure_of s p).parameters 16
    && (leb (procedure_of s p).parameters (procedure_of s p).count
    && (ltb (procedure_of s p).body h.nodes
    && (ltb (p + 1) h.procedures || eqb ((procedure_of s p).first + (procedure_of s p).count) h.variables)))))

unfoldable pub procedure_refusal : Header → Parts → Verdict
procedure_refusal h s = lowest 3 (procedure_fits h s.procedures) 0 h.procedures

-- 4: "a variable record does"
-- Whose variable x is: the lowest procedure whose range ends behind it.
unfoldable pub owner : Header → List ℕ → ℕ → ℕ
owner h s x = search (λ p. leb ((procedure_of s p).first + (procedure_of s p).count) x) 0 h.procedures

-- "parameters come first"
unfoldable pub is_parameter : Header → List ℕ → ℕ → Bool
is_parameter h s x = ltb x ((procedure_of s (owner h s x)).first + (procedure_of s (owner h s x)).parameters)

-- "Extra is a local array's length, 1 to 4,096; a constant's number, below K; else 0, array parameters included."
unfoldable pub extra_fits : Header → Bool → Variable → Bool
extra_fits h parameter v =
    cond (is_array v && not parameter) (leb 1 v.extra && leb v.extra 4096)
    (cond (is_constant v) (ltb v.extra h.constants) (eqb v.extra 0))

unfoldable pub size_fits : ℕ → Bool
size_fits z = eqb z 8 || (eqb z 16 || (eqb z 32 || eqb z 64))

-- "Constants and counters are public, 64. Parameters are kind 0 or 1."
unfoldable pub variable_fits : Header → Bool → Variable → Bool
variable_fits h parameter v =
    leb v.kind 3
    && (leb v.secrecy 1
    && (size_fits v.size
    && (eqb v.zero_byte 0
    && (extra_fits h parameter v
    && ((leb v.kind 1 || (eqb v.secrecy 0 && eqb v.size 64))
    && (not parameter || leb v.kind 1))))))

unfoldable pub variable_refusal : Header → Parts → Verdict
variable_refusal h s = lowest 4 (λ x. variable_fits h (is_parameter h s.procedures x) (variable_of s.variables x)) 0 h.variables

-- 5: "a node's kind, operator, field, reference order or referred class does"
-- What a field is.
abbrev pub unused : ℕ
unused = 0

abbrev pub expression : ℕ
expression = 1

abbrev pub lvalue : ℕ
lvalue = 2

abbrev pub statement : ℕ
statement = 3

-- a call's first argument or missing, a block's first statement or missing
abbrev pub first_argument : ℕ
first_argument = 4

abbrev pub first_statement : ℕ
first_statement = 5

abbrev pub procedure_number : ℕ
procedure_number = 6

abbrev pub variable_number : ℕ
variable_number = 7

abbrev pub constant_number : ℕ
constant_number = 8

-- a block's first declared variable, and how many
abbrev pub first_declared : ℕ
first_declared = 9

abbrev pub how_many : ℕ
how_many = 10

-- "Only statements and L-values use next, each for its own class."
abbrev pub next_statement : ℕ
next_statement = 11

abbrev pub next_lvalue : ℕ
next_lvalue = 12

abbrev pub no_next : ℕ
no_next = 13

-- The row of a kind that is no node's.
abbrev pub no_kind : List ℕ
no_kind = unused ∷ unused ∷ unused ∷ unused ∷ unused ∷ unused ∷ []

-- "One table says what each field of each kind is": for each kind how many operators it has, then what a, b, c, d and next are.
unfoldable pub fields : List (List ℕ)
fields =
    no_kind
    ∷ (0 ∷ unused ∷ unused ∷ unused ∷ unused ∷ next_statement ∷ [])
    ∷ (5 ∷ lvalue ∷ expression ∷ unused ∷ unused ∷ next_statement ∷ [])
    ∷ (0 ∷ lvalue ∷ lvalue ∷ unused ∷ unused ∷ next_statement ∷ [])
    ∷ (0 ∷ expression ∷ lvalue ∷ lvalue ∷ unused ∷ next_statement ∷ [])
    ∷ (0 ∷ expression ∷ statement ∷ statement ∷ unused ∷ next_statement ∷ [])
    ∷ (0 ∷ variable_number ∷ expression ∷ expression ∷ statement ∷ next_statement ∷ [])
    ∷ (0 ∷ procedure_number ∷ first_argument ∷ unused ∷ unused ∷ next_statement ∷ [])
    ∷ (0 ∷ procedure_number ∷ first_argument ∷ unused ∷ unused ∷ next_statement ∷ [])
    ∷ (0 ∷ first_declared ∷ how_many ∷ first_statement ∷ unused ∷ next_statement ∷ [])
    ∷ no_kind ∷ no_kind ∷ no_kind ∷ no_kind ∷ no_kind ∷ no_kind ∷ no_kind ∷ no_kind ∷ no_kind ∷ no_kind
    ∷ (0 ∷ constant_number ∷ unused ∷ unused ∷ unused ∷ no_next ∷ [])
    ∷ (0 ∷ variable_number ∷ unused ∷ unused ∷ unused ∷ next_lvalue ∷ [])
    ∷ (0 ∷ variable_number ∷ expression ∷ unused ∷ unused ∷ next_lvalue ∷ [])
    ∷ (0 ∷ variable_number ∷ expression ∷ unused ∷ unused ∷ next_lvalue ∷ [])
    ∷ (0 ∷ variable_number ∷ unused ∷ unused ∷ unused ∷ no_next ∷ [])
    ∷ (16 ∷ expression ∷ expression ∷ unused ∷ unused ∷ no_next ∷ [])
    ∷ (0 ∷ expression ∷ unused ∷ unused ∷ unused ∷ no_next ∷ [])
    ∷ []

-- What the operator (0), a to d (1 to 4) or next (5) of a kind is.
abbrev pub class_of : ℕ → ℕ → ℕ
class_of kind field = get_or (get_or fields kind []) field 0

-- "References, next too, go to a larger node number."
unfoldable pub refers : Header → List ℕ → ℕ → (ℕ → Bool) → ℕ → Bool
refers h s n class v = ltb n v && (ltb v h.nodes && class (node_of s v).kind)

-- Whether v can stand in a field of this class of node n; count is the node's field b, which says how many variables a block declares.
unfoldable pub field_fits : Header → List ℕ → ℕ → ℕ → ℕ → ℕ → Bool
field_fits h s n count class v =
    cond (eqb class unused) (eqb v 0)
    (cond (eqb class expression) (refers h s n is_expression v)
    (cond (eqb class lvalue) (refers h s n is_lvalue v)
    (cond (eqb class statement) (refers h s n is_statement v)
    (cond (eqb class first_argument) (eqb v missing || refers h s n is_lvalue v)
    (cond (eqb class first_statement) (eqb v missing || refers h s n is_statement v)
    (cond (eqb class procedure_number) (ltb v h.procedures)
    (cond (eqb class variable_number) (ltb v h.variables)
    (cond (eqb class constant_number) (ltb v h.constants)
    (cond (eqb class first_declared) (cond (eqb count 0) (eqb v 0) (leb (v + count) h.variables))
    (cond (eqb class how_many) true
    (cond (eqb class next_statement) (eqb v missing || refers h s n is_statement v)
    (cond (eqb class next_lvalue) (eqb v missing || refers h s n is_lvalue v)
    (eqb v missing)))))))))))))

-- The operator is one of 1 to how many the kind has, or 0 where it has none.
unfoldable pub operator_fits : ℕ → ℕ → Bool
operator_fits operators o = cond (eqb operators 0) (eqb o 0) (leb 1 o && leb o operators)

unfoldable pub record_fits : Header → List ℕ → ℕ → Node → Bool
record_fits h s n r =
    (is_statement r.kind || is_expression r.kind)
    && (operator_fits (class_of r.kind 0) r.operator
    && (field_fits h s n r.b (class_of r.kind 1) r.a
    && (field_fits h s n r.b (class_of r.kind 2) r.b
    && (field_fits h s n r.b (class_of r.kind 3) r.c
    && (field_fits h s n r.b (class_of r.kind 4) r.d
    && field_fits h s n r.b (class_of r.kind 5) r.next)))))

unfoldable pub node_refusal : Header → Parts → Verdict
node_refusal h s = lowest 5 (λ n. record_fits h s.nodes n (node_of s.nodes n)) 0 h.nodes
