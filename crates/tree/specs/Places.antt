-- Where the nodes stand: what their places begin with, how they are handed down, and that no depth outgrows the nodes passed.
use Rattle.std.specs.Prelude.{◌≡◌, refl, List, [], ◌∷◌, Bool, true, false, not, cond, ◌&&◌, ◌||◌, ℕ, zero, suc, ◌+◌, ◌≤◌, ◌<◌, eqb, leb, length, get_or, map, take, set, replicate, Option, unwrap_or, is_some}
use Rattle.std.proofs.Common.{lit≤, sym, ap, ◌∙◌, ⊎_elim, arith, eqb-true, length-set, get_or-set_same, get_or-set_other}
use Rattle.std.proofs.Math.Bool.{or-true, or-false}
use Rattle.std.proofs.Math.ListN.{get_or-map}
use Rattle.std.specs.List.{All}
use Rattle.std.proofs.lemmas.Bool.{eqb-false, cases_Bool, cases_lt, cond_both}
use Rattle.std.proofs.lemmas.List.Elements.{All-get_or, All-set, All-weaker, All-replicate}
use lib.LanesLaws.{map-replicate}
use Rattle.std.proofs.lemmas.List.{get_or_past, length-replicate, map-set, take-replicate}
use Rattle.std.proofs.Math.Seq.{map-set_same}
use Rattle.rules.specs.Image.{missing, Header, Parts, is_statement, Node, node_of, procedure_of}
use Rattle.rules.specs.Form.{first_argument, first_statement, class_of, given}
use Rattle.rules.specs.Tree.{bodies, member, marked, handed, handed_on, handed_down, deeper, begins, is_reference, depths, chained, stands_in_tree, place_refusal}
use Rattle.tree.specs.declared.Place.{Place}
use Rattle.tree.specs.Turns.{Steps}
use Rattle.tree.specs.Search.{found, lowest-is, found-same}

-- The place of a node that nothing has placed.
abbrev pub nowhere : Place
nowhere = record { body = false; depth = 0; chained = false }

-- The three lists of marks that the places hold.
abbrev pub bodies_of : List Place → List ℕ
bodies_of places = map (λ p. cond p.body 1 0) places

abbrev pub depths_of : List Place → List ℕ
depths_of places = map (λ p. p.depth) places

abbrev pub chains_of : List Place → List ℕ
chains_of places = map (λ p. cond p.chained 1 0) places

module _ (places : List Place) (n : ℕ) where
  body-at : get_or (bodies_of places) n 0 ≡ cond (get_or places n nowhere).body 1 0
  body-at = get_or-map {B = ℕ} (λ (p : Place). cond p.body 1 0) places n nowhere

  depth-at : get_or (depths_of places) n 0 ≡ (get_or places n nowhere).depth
  depth-at = get_or-map {B = ℕ} (λ (p : Place). p.depth) places n nowhere

  chain-at : get_or (chains_of places) n 0 ≡ cond (get_or places n nowhere).chained 1 0
  chain-at = get_or-map {B = ℕ} (λ (p : Place). cond p.chained 1 0) places n nowhere

-- ---- what the code does to the places

unfoldable pub placed : List Place → ℕ → ℕ → Bool → List Place
placed places n depth chained = set places n (record { body = (get_or places n nowhere).body; depth = depth; chained = chained })

unfoldable pub body_placed : List Place → ℕ → List Place
body_placed places n = set places n (record { body = true; depth = 1; chained = (get_or places n nowhere).chained })

unfoldable pub bodies_placed : List ℕ → ℕ → ℕ → List Place → List Place
bodies_placed s p zero places = places
bodies_placed s p (suc count) places = bodies_placed s (suc p) count (body_placed places (procedure_of s p).body)

-- Whether a field of this class begins a chain.
abbrev pub begins_chain : ℕ → Bool
begins_chain class = eqb class first_argument || eqb class first_statement

unfoldable pub child_placed : Place → ℕ → ℕ → List Place → List Place
child_placed own class v places = cond (is_reference class) (placed places v (own.depth + 1) (begins_chain class)) places

unfoldable pub children_placed : Place → Node → List Place → List Place
children_placed own r places =
    placed
    (child_placed own (class_of r.kind 4) r.d
    (child_placed own (class_of r.kind 3) r.c
    (child_placed own (class_of r.kind 2) r.b
    (child_placed own (class_of r.kind 1) r.a places))))
    r.next own.depth own.chained

unfoldable pub all_placed : List ℕ → ℕ → ℕ → List Place → List Place
all_placed s n zero places = places
all_placed s n (suc count) places = all_placed s (suc n) count (children_placed (get_or places n nowhere) (node_of s n) places)

-- ---- the same, mark by mark

module _ (places : List Place) (n depth : ℕ) (own : Bool) where
  depths-placed : depths_of (placed places n depth own) ≡ set (depths_of places) n depth
  unfolding placed
  depths-placed = map-set (λ p. p.depth) places n _

  chains-placed : chains_of (placed places n depth own) ≡ set (chains_of places) n (cond own 1 0)
  unfolding placed
  chains-placed = map-set (λ p. cond p.chained 1 0) places n _

  bodies-placed : bodies_of (placed places n depth own) ≡ bodies_of places
  unfolding placed
  bodies-placed = map-set_same (λ (p : Place). cond p.body 1 0) places n _ nowhere refl

module _ (places : List Place) (n : ℕ) where
  depths-body : depths_of (body_placed places n) ≡ set (depths_of places) n 1
  unfolding body_placed
  depths-body = map-set (λ p. p.depth) places n _

  chains-body : chains_of (body_placed places n) ≡ chains_of places
  unfolding body_placed
  chains-body = map-set_same (λ (p : Place). cond p.chained 1 0) places n _ nowhere refl

  bodies-body : bodies_of (body_placed places n) ≡ set (bodies_of places) n 1
  unfolding body_placed
  bodies-body = map-set (λ p. cond p.body 1 0) places n _

depths-bodies : (s : List ℕ) (p count : ℕ) (places : List Place) → depths_of (bodies_placed s p count places) ≡ marked 1 (bodies s p count) (depths_of places)
unfolding bodies_placed marked bodies
depths-bodies s p zero places = refl
depths-bodies s p (suc count) places = depths-bodies s (suc p) count (body_placed places (procedure_of s p).body) ∙ rw (depths-body places (procedure_of s p).body)

chains-bodies : (s : List ℕ) (p count : ℕ) (places : List Place) → chains_of (bodies_placed s p count places) ≡ chains_of places
unfolding bodies_placed
chains-bodies s p zero places = refl
chains-bodies s p (suc count) places = chains-bodies s (suc p) count (body_placed places (procedure_of s p).body) ∙ chains-body places (procedure_of s p).body

bodies-bodies : (s : List ℕ) (p count : ℕ) (places : List Place) → bodies_of (bodies_placed s p count places) ≡ marked 1 (bodies s p count) (bodies_of places)
unfolding bodies_placed marked bodies
bodies-bodies s p zero places = refl
bodies-bodies s p (suc count) places = bodies-bodies s (suc p) count (body_placed places (procedure_of s p).body) ∙ rw (bodies-body places (procedure_of s p).body)

module _ (own : Place) (class v : ℕ) (places : List Place) where
  depths-child : depths_of (child_placed own class v places) ≡ handed deeper own.depth class v (depths_of places)
  unfolding child_placed handed deeper
  depths-child =
      ⊎_elim (λ t. rw t (depths-placed places v (own.depth + 1) (begins_chain class) ∙ (let e : own.depth + 1 ≡ suc own.depth = omega arith in rw e)))
      (λ f. rw f) (cases_Bool (is_reference class))

  chains-child : chains_of (child_placed own class v places) ≡ handed begins (cond own.chained 1 0) class v (chains_of places)
  unfolding child_placed handed begins
  chains-child = ⊎_elim (λ t. rw t (chains-placed places v (own.depth + 1) (begins_chain class))) (λ f. rw f) (cases_Bool (is_reference class))

  bodies-child : bodies_of (child_placed own class v places) ≡ bodies_of places
  unfolding child_placed
  bodies-child = ⊎_elim (λ t. rw t (bodies-placed places v (own.depth + 1) (begins_chain class))) (λ f. rw f) (cases_Bool (is_reference class))

module _ (own : Place) (r : Node) (places : List Place) where
  abbrev p₁ : List Place
  p₁ = child_placed own (class_of r.kind 1) r.a places

  abbrev p₂ : List Place
  p₂ = child_placed own (class_of r.kind 2) r.b p₁

  abbrev p₃ : List Place
  p₃ = child_placed own (class_of r.kind 3) r.c p₂

  abbrev p₄ : List Place
  p₄ = child_placed own (class_of r.kind 4) r.d p₃

  pub depths-children : depths_of (children_placed own r places) ≡ handed_on deeper r own.depth (depths_of places)
  unfolding children_placed handed_on
  depths-children =
      depths-placed p₄ r.next own.depth own.chained
      ∙ rw (depths-child own (class_of r.kind 4) r.d p₃, depths-child own (class_of r.kind 3) r.c p₂, depths-child own (class_of r.kind 2) r.b p₁, depths-child own (class_of r.kind 1) r.a places)

  chains-children : chains_of (children_placed own r places) ≡ handed_on begins r (cond own.chained 1 0) (chains_of places)
  unfolding children_placed handed_on
  chains-children =
      chains-placed p₄ r.next own.depth own.chained
      ∙ rw (chains-child own (class_of r.kind 4) r.d p₃, chains-child own (class_of r.kind 3) r.c p₂, chains-child own (class_of r.kind 2) r.b p₁, chains-child own (class_of r.kind 1) r.a places)

  bodies-children : bodies_of (children_placed own r places) ≡ bodies_of places
  unfolding children_placed
  bodies-children =
      bodies-placed p₄ r.next own.depth own.chained
      ∙ bodies-child own (class_of r.kind 4) r.d p₃ ∙ bodies-child own (class_of r.kind 3) r.c p₂
      ∙ bodies-child own (class_of r.kind 2) r.b p₁ ∙ bodies-child own (class_of r.kind 1) r.a places

depths-all : (s : List ℕ) (n count : ℕ) (places : List Place) → depths_of (all_placed s n count places) ≡ handed_down deeper s n count (depths_of places)
unfolding all_placed handed_down
depths-all s n zero places = refl
depths-all s n (suc count) places =
    depths-all s (suc n) count (children_placed (get_or places n nowhere) (node_of s n) places)
    ∙ rw (depths-children (get_or places n nowhere) (node_of s n) places, ← depth-at places n)

chains-all : (s : List ℕ) (n count : ℕ) (places : List Place) → chains_of (all_placed s n count places) ≡ handed_down begins s n count (chains_of places)
unfolding all_placed handed_down
chains-all s n zero places = refl
chains-all s n (suc count) places =
    chains-all s (suc n) count (children_placed (get_or places n nowhere) (node_of s n) places)
    ∙ rw (chains-children (get_or places n nowhere) (node_of s n) places, ← chain-at places n)

bodies-all : (s : List ℕ) (n count : ℕ) (places : List Place) → bodies_of (all_placed s n count places) ≡ bodies_of places
unfolding all_placed
bodies-all s n zero places = refl
bodies-all s n (suc count) places =
    bodies-all s (suc n) count (children_placed (get_or places n nowhere) (node_of s n) places) ∙ bodies-children (get_or places n nowhere) (node_of s n) places

-- After the bodies are marked, a mark tells whether a node is one.
pub marked-member : (ms marks : List ℕ) (n : ℕ) → n < length marks → eqb (get_or (marked 1 ms marks) n 0) 1 ≡ eqb (get_or marks n 0) 1 || member n ms
unfolding marked member
marked-member [] marks n l = sym (or-false (eqb (get_or marks n 0) 1))
marked-member (m ∷ ms) marks n l =
    let long : n < length (set marks m 1) = simp length-set l in
    marked-member ms (set marks m 1) n long
    ∙ ⊎_elim
    (λ t.
    let here : m ≡ n = sym (eqb-true n m t) in
    let same : get_or (set marks m 1) n 0 ≡ 1 = rw here (get_or-set_same marks n 1 0 l) in
    rw (same, t) (sym (or-true (eqb (get_or marks n 0) 1))))
    (λ f. rw (get_or-set_other marks m n 1 0 (eqb-false n m f), f)) (cases_Bool (eqb n m))

-- A place that is at most so deep.
abbrev pub AtMost : ℕ → Place → Type 0
AtMost k p = p.depth ≤ k

pub depth-within : (n k : ℕ) (places : List Place) → All (AtMost k) places → (get_or places n nowhere).depth ≤ k
depth-within n k places h =
    ⊎_elim (λ inside. All-get_or (AtMost k) places n nowhere inside h) (λ past. rw (get_or_past places n nowhere past) (omega arith)) (cases_lt n (length places))

placed-at-most : (places : List Place) (n depth : ℕ) (chained : Bool) (k : ℕ) → depth ≤ k → All (AtMost k) places → All (AtMost k) (placed places n depth chained)
unfolding placed
placed-at-most places n depth chained k l h = All-set (AtMost k) places n _ l h

child-at-most : (own : Place) (class v : ℕ) (places : List Place) (k : ℕ) → own.depth + 1 ≤ k → All (AtMost k) places → All (AtMost k) (child_placed own class v places)
unfolding child_placed
child-at-most own class v places k l h =
    cond_both (is_reference class) _ places (λ x. All (AtMost k) x) (λ t. placed-at-most places v (own.depth + 1) (begins_chain class) k l h) (λ f. h)

-- One turn more, and the bound that it leaves.
pub at-most-next : (r : Node) (n : ℕ) (places : List Place) → All (AtMost (n + 1)) places → All (AtMost (n + 1 + 1)) (children_placed (get_or places n nowhere) r places)
unfolding children_placed
at-most-next r n places h =
    let own = get_or places n nowhere in
    let shallow : own.depth ≤ n + 1 + 1 = omega (arith, depth-within n (n + 1) places h) in
    let deep : own.depth + 1 ≤ n + 1 + 1 = omega (arith, depth-within n (n + 1) places h) in
    placed-at-most _ r.next own.depth own.chained _ shallow
    (child-at-most own (class_of r.kind 4) r.d _ _ deep
    (child-at-most own (class_of r.kind 3) r.c _ _ deep
    (child-at-most own (class_of r.kind 2) r.b _ _ deep
    (child-at-most own (class_of r.kind 1) r.a _ _ deep
    (All-weaker (AtMost (n + 1)) (AtMost (n + 1 + 1)) (λ p q. omega arith) places h)))))

-- ---- the loops, one turn at a time

pub bodies-steps : (s : List ℕ) → Steps (bodies_placed s) (λ p places. body_placed places (procedure_of s p).body)
unfolding bodies_placed
bodies-steps s = record { none = λ p x. refl; one = λ p count x. refl }

pub all-steps : (s : List ℕ) → Steps (all_placed s) (λ n places. children_placed (get_or places n nowhere) (node_of s n) places)
unfolding all_placed
all-steps s = record { none = λ n x. refl; one = λ n count x. refl }

-- What one node places, field by field.
pub node-placed : (own : Place) (r : Node) (k₁ k₂ k₃ k₄ : ℕ) → k₁ ≡ class_of r.kind 1 → k₂ ≡ class_of r.kind 2 → k₃ ≡ class_of r.kind 3 → k₄ ≡ class_of r.kind 4
    → (m₀ m₁ m₂ m₃ m₄ m₅ : List Place) → m₁ ≡ child_placed own k₁ r.a m₀ → m₂ ≡ child_placed own k₂ r.b m₁
    → m₃ ≡ child_placed own k₃ r.c m₂ → m₄ ≡ child_placed own k₄ r.d m₃ → m₅ ≡ placed m₄ r.next own.depth own.chained
    → m₅ ≡ children_placed own r m₀
unfolding children_placed
node-placed own r k₁ k₂ k₃ k₄ h₁ h₂ h₃ h₄ m₀ m₁ m₂ m₃ m₄ m₅ e₁ e₂ e₃ e₄ e₅ = rw (← h₁, ← h₂, ← h₃, ← h₄, ← e₁, ← e₂, ← e₃, ← e₄) e₅

-- ---- what stands

-- Whether a node stands in the tree, by its place.
abbrev pub stands_by : Place → Node → Bool
stands_by place r = (not place.body || is_statement r.kind) && (leb place.depth 32 && (eqb r.next missing || place.chained))

abbrev pub stands_at : List ℕ → List Place → ℕ → Bool
stands_at nodes places n = stands_by (get_or places n nowhere) (node_of nodes n)

-- Marks that begin at 0.
pub zeros-at : (n i : ℕ) → get_or {A = ℕ} (replicate n 0) i 0 ≡ 0
zeros-at zero i = refl
zeros-at (suc n) zero = refl
zeros-at (suc n) (suc i) = zeros-at n i

all_bodies-at-most : (s : List ℕ) (p count : ℕ) (places : List Place) → All (AtMost 1) places → All (AtMost 1) (bodies_placed s p count places)
unfolding bodies_placed body_placed
all_bodies-at-most s p zero places h = h
all_bodies-at-most s p (suc count) places h = all_bodies-at-most s (suc p) count _ (All-set (AtMost 1) places (procedure_of s p).body _ (lit≤ tt) h)

pub bodies-at-most : (n : ℕ) (s : List ℕ) (count : ℕ) (start places : List Place) → start ≡ replicate n nowhere → places ≡ bodies_placed s 0 count start → All (AtMost 1) places
bodies-at-most n s count start places z e = rw (e, z) (all_bodies-at-most s 0 count (replicate n nowhere) (All-replicate (AtMost 1) n nowhere (omega arith)))

pub nowhere-cut : (k n room : ℕ) (p : Place) → k ≡ n → n ≤ room → p ≡ nowhere → take {A = Place} k (replicate room p) ≡ replicate n nowhere
nowhere-cut k n room p e l is = rw (e, is) (take-replicate n room nowhere l)

one_if : (b : Bool) → eqb (cond b 1 0) 1 ≡ b
one_if true = refl
one_if false = refl

-- The lowest node that does not stand by its place is the lowest that does not stand in the tree.
pub places_refused : (h : Header) (s : Parts) (start middle places : List Place) → start ≡ replicate h.nodes nowhere
    → middle ≡ bodies_placed s.procedures 0 h.procedures start → places ≡ all_placed s.nodes 0 h.nodes middle
    → (place : Option ℕ) → place ≡ found (stands_at s.nodes places) 0 h.nodes
    → given 6 (unwrap_or place 0) (is_some place) ≡ place_refusal h s
unfolding place_refusal stands_in_tree depths chained
places_refused h s start middle places z m e place is =
    let in_tree = stands_in_tree (bodies s.procedures 0 h.procedures) (depths h s) (chained h s) in
    let deep : depths_of places ≡ depths h s =
    rw e (depths-all s.nodes 0 h.nodes middle ∙ rw (m, depths-bodies s.procedures 0 h.procedures start, z, map-replicate {B = ℕ})) in
    let chain : chains_of places ≡ chained h s =
    rw e (chains-all s.nodes 0 h.nodes middle ∙ rw (m, chains-bodies s.procedures 0 h.procedures start, z, map-replicate {B = ℕ})) in
    let body : bodies_of places ≡ marked 1 (bodies s.procedures 0 h.procedures) (replicate h.nodes 0) =
    rw e (bodies-all s.nodes 0 h.nodes middle ∙ rw (m, bodies-bodies s.procedures 0 h.procedures start, z, map-replicate {B = ℕ})) in
    lowest-is 6 (λ n. in_tree n (node_of s.nodes n)) h.nodes place
    (is ∙ found-same (stands_at s.nodes places) (λ n. in_tree n (node_of s.nodes n)) 0 h.nodes
    (λ k low high.
    let long : k < length (replicate {A = ℕ} h.nodes 0) = rw (length-replicate {A = ℕ} h.nodes 0) (omega arith) in
    let d : (get_or places k nowhere).depth ≡ get_or (depths h s) k 0 = sym (depth-at places k) ∙ rw deep in
    let c : (get_or places k nowhere).chained ≡ eqb (get_or (chained h s) k 0) 1 =
    sym (one_if (get_or places k nowhere).chained) ∙ ap (λ x. eqb x 1) (sym (chain-at places k) ∙ rw chain) in
    let b : (get_or places k nowhere).body ≡ member k (bodies s.procedures 0 h.procedures) =
    sym (one_if (get_or places k nowhere).body) ∙ ap (λ x. eqb x 1) (sym (body-at places k) ∙ rw body)
    ∙ marked-member (bodies s.procedures 0 h.procedures) (replicate h.nodes 0) k long ∙ rw (zeros-at h.nodes k) in
    rw (b, d, c)))
