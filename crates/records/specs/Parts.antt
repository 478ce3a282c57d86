-- The code's four parts as those of the rules.
use Rattle.rules.specs.Image as rules
use Rattle.records.specs.declared.parts.Parts.{Parts}

abbrev pub as_parts : Parts → rules.Parts
as_parts p = record { procedures = p.procedures.now; variables = p.variables.now; nodes = p.nodes.now; constants = p.constants.now }
