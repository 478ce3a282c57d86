-- The image: its header and its four parts, read where they stand.
use Rattle.std.specs.Prelude.{ℕ, ◌+◌, ◌-◌, ◌*◌, List, Bool, ◌&&◌, get_or, take, drop, eqb, leb}

-- "All numbers little-endian; 16 bits unless said."
abbrev pub le16 : List ℕ → ℕ → ℕ
le16 s at = get_or s at 0 + get_or s (at + 1) 0 * 256

unfoldable pub le32 : List ℕ → ℕ → ℕ
le32 s at = le16 s at + le16 s (at + 2) * 65536

unfoldable pub le64 : List ℕ → ℕ → ℕ
le64 s at = le32 s at + le32 s (at + 4) * 4294967296

-- "A missing reference is 65,535"
abbrev pub missing : ℕ
missing = 65535

-- "Header, 20 bytes: format (1); procedures P, 1 to 32; variables V, 0 to 1,024; nodes N, 1 to 4,096; constants K, 0 to 512;
-- offsets of these four parts in that order; total length."
pub record Header : Type 0 where
  pub format : ℕ
  pub procedures : ℕ
  pub variables : ℕ
  pub nodes : ℕ
  pub constants : ℕ
  pub procedure_part : ℕ
  pub variable_part : ℕ
  pub node_part : ℕ
  pub constant_part : ℕ
  pub total : ℕ

abbrev pub header_of : List ℕ → Header
header_of image = record {
  format = le16 image 0;
  procedures = le16 image 2;
  variables = le16 image 4;
  nodes = le16 image 6;
  constants = le16 image 8;
  procedure_part = le16 image 10;
  variable_part = le16 image 12;
  node_part = le16 image 14;
  constant_part = le16 image 16;
  total = le16 image 18;
}

-- "Parts are read where they stand in the image."
abbrev pub part : List ℕ → ℕ → ℕ → List ℕ
part image from end = take (end - from) (drop from image)

-- The four parts, each as its bytes.
pub record Parts : Type 0 where
  pub procedures : List ℕ
  pub variables : List ℕ
  pub nodes : List ℕ
  pub constants : List ℕ

abbrev pub parts_of : List ℕ → Parts
parts_of image = record {
  procedures = part image (header_of image).procedure_part (header_of image).variable_part;
  variables = part image (header_of image).variable_part (header_of image).node_part;
  nodes = part image (header_of image).node_part (header_of image).constant_part;
  constants = part image (header_of image).constant_part (header_of image).total;
}

-- "Procedure, 8 bytes: first variable, variable count, parameter count, body node"
pub record Procedure : Type 0 where
  pub first : ℕ
  pub count : ℕ
  pub parameters : ℕ
  pub body : ℕ

abbrev pub procedure_of : List ℕ → ℕ → Procedure
procedure_of s p = record {
  first = le16 s (p * 8);
  count = le16 s (p * 8 + 2);
  parameters = le16 s (p * 8 + 4);
  body = le16 s (p * 8 + 6);
}

-- "Variable, 6 bytes: kind (0 scalar, 1 array, 2 constant, 3 loop counter), secrecy (0 public, 1 secret), size (8, 16, 32, 64), a zero, one byte each; extra."
pub record Variable : Type 0 where
  pub kind : ℕ
  pub secrecy : ℕ
  pub size : ℕ
  pub zero_byte : ℕ
  pub extra : ℕ

abbrev pub variable_of : List ℕ → ℕ → Variable
variable_of s x = record {
  kind = get_or s (x * 6) 0;
  secrecy = get_or s (x * 6 + 1) 0;
  size = get_or s (x * 6 + 2) 0;
  zero_byte = get_or s (x * 6 + 3) 0;
  extra = le16 s (x * 6 + 4);
}

abbrev pub is_scalar : Variable → Bool
is_scalar v = eqb v.kind 0

abbrev pub is_array : Variable → Bool
is_array v = eqb v.kind 1

abbrev pub is_constant : Variable → Bool
is_constant v = eqb v.kind 2

abbrev pub is_counter : Variable → Bool
is_counter v = eqb v.kind 3

abbrev pub is_secret : Variable → Bool
is_secret v = eqb v.secrecy 1

-- "Node, 12 bytes: kind and operator (a byte each), a, b, c, d, next."
pub record Node : Type 0 where
  pub kind : ℕ
  pub operator : ℕ
  pub a : ℕ
  pub b : ℕ
  pub c : ℕ
  pub d : ℕ
  pub next : ℕ

abbrev pub node_of : List ℕ → ℕ → Node
node_of s n = record {
  kind = get_or s (n * 12) 0;
  operator = get_or s (n * 12 + 1) 0;
  a = le16 s (n * 12 + 2);
  b = le16 s (n * 12 + 4);
  c = le16 s (n * 12 + 6);
  d = le16 s (n * 12 + 8);
  next = le16 s (n * 12 + 10);
}

-- "Constant, 8 bytes."
abbrev pub constant_of : List ℕ → ℕ → ℕ
constant_of s k = le64 s (k * 8)

-- "Statements: 1 .. 9", "Expressions: 20 .. 26", "Kinds 21 to 23 are L-values."
abbrev pub is_statement : ℕ → Bool
is_statement k = leb 1 k && leb k 9

abbrev pub is_expression : ℕ → Bool
is_expression k = leb 20 k && leb k 26

abbrev pub is_lvalue : ℕ → Bool
is_lvalue k = leb 21 k && leb k 23
