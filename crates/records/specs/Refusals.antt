-- The code's verdict as the rules' number and place.
use Rattle.std.specs.Prelude.{ℕ, ◌≡◌, refl, Result, Ok, Err, ⊤, false, eqb}
use Rattle.rules.specs.Form.{accepted, refused, given, ◌then◌}
use Rattle.rules.specs.Form as verdict
use Rattle.records.specs.declared.refusal.Refusal.{Refusal}
use Rattle.records.specs.declared.refusal.Rule.{Rule}
use Rattle.records.specs.declared.refusal.Rule.TheVariants.{Format, Layout, ProcedureRecord, VariableRecord, NodeRecord, Tree, Scope, Undeclared, Kind, Secrecy, Clash, Mismatch, Slow, Work, Lengths, WideCell, Room, Budget, Index, ZeroDivisor, PublicLeft, SecretLeft, LoopBack}

-- The number of each rule, in the order of the tables.
abbrev pub number_of : Rule → ℕ
number_of Format = 1
number_of Layout = 2
number_of ProcedureRecord = 3
number_of VariableRecord = 4
number_of NodeRecord = 5
number_of Tree = 6
number_of Scope = 7
number_of Undeclared = 8
number_of Kind = 9
number_of Secrecy = 10
number_of Clash = 11
number_of Mismatch = 12
number_of Slow = 13
number_of Work = 19
number_of Lengths = 20
number_of WideCell = 21
number_of Room = 22
number_of Budget = 23
number_of Index = 24
number_of ZeroDivisor = 25
number_of PublicLeft = 26
number_of SecretLeft = 27
number_of LoopBack = 28

-- "Answer: a number and a place, 0 and 0 when accepted."
abbrev pub as_verdict : Result ⊤ Refusal → verdict.Verdict
as_verdict (Ok x) = accepted
as_verdict (Err r) = refused (number_of r.rule) r.place

-- A refusal's number is never 0: what follows it is not asked.
pub counted : (r : Rule) → eqb (number_of r) 0 ≡ false
counted Format = refl
counted Layout = refl
counted ProcedureRecord = refl
counted VariableRecord = refl
counted NodeRecord = refl
counted Tree = refl
counted Scope = refl
counted Undeclared = refl
counted Kind = refl
counted Secrecy = refl
counted Clash = refl
counted Mismatch = refl
counted Slow = refl
counted Work = refl
counted Lengths = refl
counted WideCell = refl
counted Room = refl
counted Budget = refl
counted Index = refl
counted ZeroDivisor = refl
counted PublicLeft = refl
counted SecretLeft = refl
counted LoopBack = refl

-- The first of two tests decides where it refuses, and the second where it does not.
pub then-stops : (r : Refusal) (v w : verdict.Verdict) → as_verdict (Err r) ≡ v → as_verdict (Err r) ≡ v then w
unfolding ◌then◌
then-stops r v w e = rw (← e) (rw (counted r.rule))

-- What follows a test that accepts decides.
pub then-on : {v w x : verdict.Verdict} → accepted ≡ v → x ≡ w → x ≡ v then w
unfolding ◌then◌
then-on e f = rw (← e) f

pub then-goes : (x : ⊤) (v w : verdict.Verdict) → as_verdict (Ok x) ≡ v → v then w ≡ w
unfolding ◌then◌
then-goes x v w e = rw (← e)
