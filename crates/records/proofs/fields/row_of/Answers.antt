-- The code's table, row by row, is the rules'; past its end no field is used.
use Rattle.std.proofs.Common.{sym, ap, rules, map, length, ◌∙◌, ◌∙◌, ◌≡◌, ℕ, zero, suc, List, [], ◌<◌, get_or, refl}
use Rattle.std.proofs.lemmas.List.{get_or-map}
use lib.ListN.{get_or-eq_default}
use Rattle.rules.specs.Form.{fields, no_kind, class_of}
use Rattle.records.specs.Fields.{row_numbers}
use Rattle.records.specs.declared.fields.Class.{Class}
use Rattle.records.proofs.fields.row_of.Goals as goal

unused_by : (field : ℕ) → get_or no_kind field 0 ≡ get_or [] field 0
unused_by zero = refl
unused_by (suc zero) = refl
unused_by (suc (suc zero)) = refl
unused_by (suc (suc (suc zero))) = refl
unused_by (suc (suc (suc (suc zero)))) = refl
unused_by (suc (suc (suc (suc (suc zero))))) = refl
unused_by (suc (suc (suc (suc (suc (suc field)))))) = refl

same_row : (rows : List (ℕ × List Class)) (k kind : ℕ) (d : ℕ × List Class) (field : ℕ) → map row_numbers rows ≡ fields → k ≡ kind → k < length rows
    → get_or (row_numbers (get_or rows k d)) field 0 ≡ class_of kind field
same_row rows k kind d field e is inside =
    ap (λ (row : List ℕ). get_or row field 0) (sym (get_or-map row_numbers rows k d [] inside))
    ∙ rw (e, is)

pub returns-then-k-lt27 : goal.returns-then-k-lt27
unfolding fields
returns-then-k-lt27 c field = search (rules, same_row)

pub returns-else-k-lt27 : goal.returns-else-k-lt27
unfolding fields
returns-else-k-lt27 c field = rw (get_or-eq_default fields [] (rw c.from-k.ensures at c.if-k-lt27.false)) (unused_by field)
