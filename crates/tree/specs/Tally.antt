-- How often each node is referred to, counted as never, once or more: 0, 1 or 2.
use Rattle.std.specs.Prelude.{◌≡◌, refl, List, [], ◌∷◌, ◌++◌, cond, ℕ, suc, ◌+◌, ◌≤◌, ◌<◌, eqb, ltb, length, get_or, set, Option, unwrap_or, is_some}
use Rattle.std.proofs.Common.{sym, ◌∙◌, ⊎_elim, arith, add-zero, zero-add, eqb-true, length-set, get_or-set_same, get_or-set_other}
use Rattle.std.specs.List.{fold}
use Rattle.std.proofs.lemmas.Bool.{eqb-false, cases_Bool}
use Rattle.std.proofs.lemmas.Bool.Decides.{nat_tests}
use Rattle.std.proofs.lemmas.List.Sums.{fold-append}
use Rattle.rules.specs.Image.{Header, Parts, Node, node_of, procedure_of}
use Rattle.rules.specs.Form.{class_of, given}
use Rattle.rules.specs.Tree.{occurrences, reference, references_of, node_references, bodies, reference_refusal}
use Rattle.tree.specs.Turns.{Steps}
use Rattle.tree.specs.Search.{found, lowest-is, found-same}

unfoldable pub one_more : ℕ → ℕ
one_more x = cond (ltb x 2) (x + 1) 2

unfoldable pub bumped : List ℕ → ℕ → List ℕ
bumped counts n = set counts n (one_more (get_or counts n 0))

unfoldable pub tally : List ℕ → List ℕ → List ℕ
tally ms counts = fold bumped counts ms

-- Once is once, whether it is counted to two or on.
once_more : (x more : ℕ) → x ≤ 2 → eqb (one_more x + more) 1 ≡ eqb (x + suc more) 1
unfolding one_more
once_more x more l = grind (arith, nat_tests)

one_more-within : (x : ℕ) → one_more x ≤ 2
unfolding one_more
one_more-within x = grind (arith, nat_tests)

-- After a tally a node's count is 1 just where it was referred to once.
pub tally-once : (ms counts : List ℕ) (n : ℕ) → n < length counts → get_or counts n 0 ≤ 2
    → eqb (get_or (tally ms counts) n 0) 1 ≡ eqb (get_or counts n 0 + occurrences n ms) 1
unfolding tally occurrences bumped
tally-once [] counts n l w = rw add-zero
tally-once (m ∷ ms) counts n l w =
    let long : n < length (bumped counts m) = simp length-set l in
    ⊎_elim
    (λ t.
    let here : m ≡ n = sym (eqb-true n m t) in
    let same : get_or (bumped counts m) n 0 ≡ one_more (get_or counts n 0) = rw here (get_or-set_same counts n (one_more (get_or counts n 0)) 0 l) in
    tally-once ms (bumped counts m) n long (rw same (one_more-within (get_or counts n 0))) ∙ rw (same, t) (once_more (get_or counts n 0) (occurrences n ms) w))
    (λ f.
    let other : get_or (bumped counts m) n 0 ≡ get_or counts n 0 = get_or-set_other counts m n (one_more (get_or counts m 0)) 0 (eqb-false n m f) in
    tally-once ms (bumped counts m) n long (rw other w) ∙ rw (other, f)) (cases_Bool (eqb n m))

-- The counts of one node, field by field.
pub node-tally : (r : Node) (k₁ k₂ k₃ k₄ : ℕ) → k₁ ≡ class_of r.kind 1 → k₂ ≡ class_of r.kind 2 → k₃ ≡ class_of r.kind 3 → k₄ ≡ class_of r.kind 4
    → (c₀ c₁ c₂ c₃ c₄ c₅ : List ℕ) → c₁ ≡ tally (reference k₁ r.a) c₀ → c₂ ≡ tally (reference k₂ r.b) c₁ → c₃ ≡ tally (reference k₃ r.c) c₂
    → c₄ ≡ tally (reference k₄ r.d) c₃ → c₅ ≡ bumped c₄ r.next → c₅ ≡ tally (references_of r) c₀
unfolding references_of tally
node-tally r k₁ k₂ k₃ k₄ h₁ h₂ h₃ h₄ c₀ c₁ c₂ c₃ c₄ c₅ e₁ e₂ e₃ e₄ e₅ =
    rw (fold-append, fold-append, fold-append, fold-append, ← h₁, ← h₂, ← h₃, ← h₄, ← e₁, ← e₂, ← e₃, ← e₄) e₅

-- The counts of what the nodes refer to, and of the bodies, node by node and procedure by procedure.
abbrev pub counted_nodes : List ℕ → ℕ → ℕ → List ℕ → List ℕ
counted_nodes s n count counts = tally (node_references s n count) counts

pub nodes_steps : (s : List ℕ) → Steps (counted_nodes s) (λ n counts. tally (references_of (node_of s n)) counts)
unfolding tally node_references
nodes_steps s = record { none = λ n x. refl; one = λ n count x. fold-append bumped x (references_of (node_of s n)) (node_references s (suc n) count) }

abbrev pub counted_bodies : List ℕ → ℕ → ℕ → List ℕ → List ℕ
counted_bodies s p count counts = tally (bodies s p count) counts

pub bodies-steps : (s : List ℕ) → Steps (counted_bodies s) (λ p counts. bumped counts (procedure_of s p).body)
unfolding tally bodies
bodies-steps s = record { none = λ p x. refl; one = λ p count x. refl }

-- The lowest node that is not counted once is the lowest that is not referred to exactly once.
pub references_refused : (h : Header) (s : Parts) (zeros : List ℕ) → ((i : ℕ) → get_or zeros i 0 ≡ 0) → h.nodes ≤ length zeros
    → (c₁ c₂ : List ℕ) → c₁ ≡ tally (bodies s.procedures 0 h.procedures) zeros → c₂ ≡ tally (node_references s.nodes 0 h.nodes) c₁
    → (place : Option ℕ) → place ≡ found (λ n. eqb (get_or c₂ n 0) 1) 0 h.nodes
    → given 6 (unwrap_or place 0) (is_some place) ≡ reference_refusal h s
unfolding reference_refusal tally
references_refused h s zeros z long c₁ c₂ e₁ e₂ place e =
    let refs = bodies s.procedures 0 h.procedures ++ node_references s.nodes 0 h.nodes in
    let whole : c₂ ≡ tally refs zeros = e₂ ∙ rw e₁ (sym (fold-append bumped zeros (bodies s.procedures 0 h.procedures) (node_references s.nodes 0 h.nodes))) in
    lowest-is 6 (λ n. eqb (occurrences n refs) 1) h.nodes place
    (e ∙ found-same (λ n. eqb (get_or c₂ n 0) 1) (λ n. eqb (occurrences n refs) 1) 0 h.nodes
    (λ k low high.
    let zero_at : get_or zeros k 0 ≡ 0 = z k in
    let small : get_or zeros k 0 ≤ 2 = omega arith in
    rw whole (tally-once refs zeros k (omega arith) small ∙ rw zero_at (rw (zero-add (occurrences k refs))))))
