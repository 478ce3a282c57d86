-- What the place of an answer names, by the column "Place" of document 01's two tables.
use Rattle.std.specs.Prelude.{ℕ, List, Option, Some, None, cond, ◌&&◌, ◌||◌, eqb, leb}
use Rattle.rules.specs.Image as rules
use Rattle.rules.specs.Image.{parts_of, procedure_of, variable_of, node_of}
use Rattle.records.specs.Records.{as_procedure, as_variable, as_node}
use Rattle.reader.specs.declared.Blamed.{Blamed}
use Rattle.reader.specs.declared.Blamed.TheVariants.{Procedure, Variable, Node}

-- The record that is blamed, as the rules read it.
pub data Blame : Type 0 where
  procedure : rules.Procedure → Blame
  variable : rules.Variable → Blame
  node : rules.Node → Blame
  nothing : Blame

abbrev pub as_blame : Option Blamed → Blame
as_blame (Some (Procedure p)) = procedure (as_procedure p)
as_blame (Some (Variable v)) = variable (as_variable v)
as_blame (Some (Node n)) = node (as_node n)
as_blame None = nothing

-- The record that an answer's number and place blame, by the column "Place" of both tables: a procedure, a variable, a node, or none
-- where the place is 0 or a cell.
abbrev pub blame_of : List ℕ → ℕ → ℕ → Blame
blame_of image number place =
    cond (eqb number 3) (procedure (procedure_of (parts_of image).procedures place))
    (cond (eqb number 4 || eqb number 8) (variable (variable_of (parts_of image).variables place))
    (cond ((leb 5 number && leb number 13) || (leb 23 number && leb number 28)) (node (node_of (parts_of image).nodes place)) nothing))
