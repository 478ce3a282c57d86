-- The verdict: "Numbers 1 to 6 are tested in that order, lowest place first. .. Then procedures are walked in order".
use Rattle.std.specs.Prelude.{ℕ, List, Bool, not, eqb}
use Rattle.rules.specs.Words.{Binary, divides}
use Rattle.rules.specs.Image.{Header, header_of, Parts, parts_of, node_of}
use Rattle.rules.specs.Form.{Verdict, ◌then◌, search, format_refusal, layout_refusal, procedure_refusal, variable_refusal, node_refusal}
use Rattle.rules.specs.Tree.{tree_refusal}
use Rattle.rules.specs.Walk.{walk_refusal}

unfoldable pub form_refusal : Header → Parts → Verdict
form_refusal h s = procedure_refusal h s then variable_refusal h s then node_refusal h s then tree_refusal h s

-- The verdict where the operators of the set are forbidden on secrets.
unfoldable pub verdict_for : (Binary → Bool) → List ℕ → Verdict
verdict_for forbidden image =
    format_refusal image
    then layout_refusal image
    then form_refusal (header_of image) (parts_of image)
    then walk_refusal forbidden (header_of image) (parts_of image) 0 (header_of image).procedures

-- 13: "/ or % with a secret operand": document 01's set is the operators that divide.
unfoldable pub slow : Binary → Bool
slow o = divides o

unfoldable pub verdict : List ℕ → Verdict
verdict image = verdict_for slow image

-- "without unsafe look-ups": no node of kind 23
unfoldable pub without_unsafe : List ℕ → Bool
without_unsafe image = eqb (search (λ n. not (eqb (node_of (parts_of image).nodes n).kind 23)) 0 (header_of image).nodes) (header_of image).nodes
