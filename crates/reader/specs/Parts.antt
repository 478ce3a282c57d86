-- The four offsets as the header has them, and the four parts of an image by offsets.
use Rattle.std.specs.Prelude.{ℕ, List}
use Rattle.rules.specs.Image.{Parts, header_of, part}
use Rattle.reader.specs.declared.Offsets.{Offsets}

-- "offsets of these four parts in that order"
abbrev pub offsets_of : List ℕ → Offsets
offsets_of image = record {
  procedures = (header_of image).procedure_part;
  variables = (header_of image).variable_part;
  nodes = (header_of image).node_part;
  constants = (header_of image).constant_part;
}

-- "Parts follow the header and each other without gaps": each ends where the next begins, the last at the total.
abbrev pub parts_by : List ℕ → Offsets → Parts
parts_by image o = record {
  procedures = part image o.procedures o.variables;
  variables = part image o.variables o.nodes;
  nodes = part image o.nodes o.constants;
  constants = part image o.constants (header_of image).total;
}
