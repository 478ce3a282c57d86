-- The classes of the code as those of the rules.
use Rattle.std.specs.Prelude.{ℕ, List, ◌∷◌, map}
use Rattle.rules.specs.Form.{unused, expression, lvalue, statement, first_argument, first_statement, procedure_number, variable_number, constant_number, first_declared, how_many, next_statement, next_lvalue, no_next}
use Rattle.records.specs.declared.fields.Class.{Class}
use Rattle.records.specs.declared.fields.Class.TheVariants.{Unused, Expression, LValue, Statement, FirstArgument, FirstStatement, Procedure, Variable, Constant, FirstDeclared, HowMany, NextStatement, NextLValue, NoNext}

-- What the rules call each class.
abbrev pub class_number : Class → ℕ
class_number Unused = unused
class_number Expression = expression
class_number LValue = lvalue
class_number Statement = statement
class_number FirstArgument = first_argument
class_number FirstStatement = first_statement
class_number Procedure = procedure_number
class_number Variable = variable_number
class_number Constant = constant_number
class_number FirstDeclared = first_declared
class_number HowMany = how_many
class_number NextStatement = next_statement
class_number NextLValue = next_lvalue
class_number NoNext = no_next

-- A row of the table by its numbers: how many operators, then the classes.
abbrev pub row_numbers : ℕ × List Class → List ℕ
row_numbers row = row.0 ∷ map class_number row.1
