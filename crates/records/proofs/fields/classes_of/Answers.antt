-- A field's class, by its place in the row.
use Rattle.std.proofs.Common.{sym, ◌∙◌}
use Rattle.std.proofs.Math.ListN.{get_or-map}
use Rattle.records.specs.Fields.{class_number}
use Rattle.records.specs.declared.fields.Class.TheVariants.{Unused}
use Rattle.records.proofs.fields.classes_of.Goals as goal

pub returns : goal.returns
returns c = record {
  operators = c.row_of.ensures 0;
  a = sym (get_or-map class_number c.row_of.result.1 0 Unused) ∙ c.row_of.ensures 1;
  b = sym (get_or-map class_number c.row_of.result.1 1 Unused) ∙ c.row_of.ensures 2;
  c = sym (get_or-map class_number c.row_of.result.1 2 Unused) ∙ c.row_of.ensures 3;
  d = sym (get_or-map class_number c.row_of.result.1 3 Unused) ∙ c.row_of.ensures 4;
  next = sym (get_or-map class_number c.row_of.result.1 4 Unused) ∙ c.row_of.ensures 5;
}
