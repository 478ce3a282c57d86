-- The code's records as those of the rules.
use Rattle.rules.specs.Image as rules
use Rattle.records.specs.declared.Header.{Header}
use Rattle.records.specs.declared.Procedure.{Procedure}
use Rattle.records.specs.declared.Variable.{Variable}
use Rattle.records.specs.declared.RawNode.{RawNode}

abbrev pub as_header : Header → rules.Header
as_header h = record {
  format = h.format;
  procedures = h.procedures;
  variables = h.variables;
  nodes = h.nodes;
  constants = h.constants;
  procedure_part = h.procedure_part;
  variable_part = h.variable_part;
  node_part = h.node_part;
  constant_part = h.constant_part;
  total = h.total;
}

abbrev pub as_procedure : Procedure → rules.Procedure
as_procedure p = record { first = p.first; count = p.count; parameters = p.parameters; body = p.body }

abbrev pub as_variable : Variable → rules.Variable
as_variable v = record { kind = v.kind; secrecy = v.secrecy; size = v.size; zero_byte = v.zero; extra = v.extra }

abbrev pub as_node : RawNode → rules.Node
as_node r = record { kind = r.kind; operator = r.operator; a = r.a; b = r.b; c = r.c; d = r.d; next = r.next }

-- An expression or L-value has a kind, an operator, a and b: the rest of its record decides nothing.
abbrev pub headed : rules.Node → rules.Node
headed r = record { kind = r.kind; operator = r.operator; a = r.a; b = r.b; c = 0; d = 0; next = 0 }
