-- The statements that hold others: if, for, block, list.
use Prim.Native.Nat.{ℕ, ◌+◌, ◌≤◌, ◌<◌}
use Rattle.std.specs.Prelude.{◌≡◌, List, [], ◌∷◌, ◌++◌, Bool, true, false, not, ◌&&◌, ◌||◌, ◌⊎◌, leb, ltb, Result, Ok, Err, ⊤, MatchBool, length}
use Rattle.std.proofs.Math.Path.{refl}
use Rattle.std.proofs.Math.Bool.{and_assoc}
use Rattle.std.proofs.Common.{sym, ap, subst, ⊎_elim, ◌∙◌}
use native.Mathlib.Omega.{arith}
use Rattle.std.specs.Result.{IsErrAnd}
use Rattle.std.proofs.lemmas.Result.{err_from_is_err_and}
use Rattle.std.specs.Ordering.{is_le, is_lt, nat_cmp}
use Rattle.std.proofs.lemmas.Bool.Decides.{nat_tests}
use Rattle.std.specs.List.{range_with_len, AllWithin, HoldsAt}
use Rattle.records.specs.Truth.{range_same}
use Rattle.std.proofs.lemmas.List.FromFn.{length-range_with_len, get_or-range_with_len}
use Rattle.std.proofs.lemmas.List.Recursion.{and_from_places, and_fails_at}
use Rattle.rules.specs.Image.{missing, Header, Parts, procedure_of, node_of, is_counter, is_statement, is_expression}
use Rattle.rules.specs.Form.{refused, given, ◌then◌}
use Rattle.rules.specs.Tree as tree
use Rattle.rules.specs.Tree.{member, range, reading_at, variables, changed, declared}
use Rattle.rules.specs.Walk.{type_of, share, every, declarable, stmt_refusal}
use Rattle.rules.specs.Check.{slow}
use Rattle.records.specs.Refusals.{as_verdict, number_of}
use Rattle.records.specs.declared.refusal.Refusal.{Refusal}
use Rattle.names.specs.Marks.{most, Marks, Adds, Touches, same-marks, member-regroup, adds_alone, adds_both, share-comm}
use Rattle.records.specs.Fits.{Child}
use Rattle.records.specs.Cases.{Refers}
use Rattle.records.specs.Records.{as_procedure}
use Rattle.records.specs.declared.Procedure.{Procedure}
use Rattle.records.specs.Decode.{decoded_at}
use Rattle.records.specs.declared.Node.{Node}
use Rattle.records.specs.declared.Node.TheVariants.{Call, Uncall}
use Rattle.names.specs.Sound.{Standing, Known, Chain, refers, standing_child}
use Rattle.names.specs.Chains.{chain_standing, later_statements, statement-ahead}
use Rattle.names.specs.Statements.{begun}
use Rattle.names.specs.declared.marks.Names.{Names}
use Rattle.walker.specs.declared.Walk.{Walk}
use Rattle.walker.specs.Simple.{Callable, CallAt, call_at}
use Rattle.walker.specs.Judge.{Scope, Judges, then-on, row, refuses_with}

-- ---- own rules

pub record IfRules (w : Walk) (n : ℕ) (hidden : Bool) (e y z : ℕ) (r : Result ⊤ Refusal) : Type 0 where
  pub is : (h : Header) (s : Parts) → Standing is_expression w.parts.nodes.now h s e → Standing is_statement w.parts.nodes.now h s y → Standing is_statement w.parts.nodes.now h s z
      → as_verdict r ≡ (given 10 n hidden then given 11 n (share (variables (reading_at h s e).as_expr) (changed (reading_at h s y).as_stmt ++ changed (reading_at h s z).as_stmt)))

pub record ForRules (w : Walk) (n : ℕ) (hidden : Bool) (a b c : ℕ) (r : Result ⊤ Refusal) : Type 0 where
  pub is : (h : Header) (s : Parts) → Standing is_expression w.parts.nodes.now h s a → Standing is_expression w.parts.nodes.now h s b → Standing is_statement w.parts.nodes.now h s c
      → as_verdict r ≡ (given 10 n hidden then given 11 n (share (variables (reading_at h s a).as_expr ++ variables (reading_at h s b).as_expr) (changed (reading_at h s c).as_stmt)))

pub record EitherChanges (w : Walk) (y z : ℕ) (used : Names) (r : Bool) : Type 0 where
  pub is : (h : Header) (s : Parts) → Standing is_statement w.parts.nodes.now h s y → Standing is_statement w.parts.nodes.now h s z
      → Touches used (changed (reading_at h s y).as_stmt ++ changed (reading_at h s z).as_stmt) r

pub if_clash : {before after : Names} {names changes : List ℕ} {a : Bool} → Marks before [] → Adds before after names → Touches after changes a → a ≡ share names changes
if_clash {names = names} {changes = changes} m f g = g.over names (adds_alone m f) ∙ share-comm changes names

pub for_clash : {before between after : Names} {first second body : List ℕ} {a : Bool} → Marks before [] → Adds before between first → Adds between after second → Touches after body a
    → a ≡ share (first ++ second) body
for_clash {before} {between} {after} {first} {second} {body} m f g k = k.over (first ++ second) (adds_alone m (adds_both f g)) ∙ share-comm body (first ++ second)

-- ---- the walk of a statement

-- The parts and marks that the walk is given, of these parts and these names.
pub record Setting (w : Walk) (scope before : Names) (s : Parts) (Γ D : List ℕ) : Type 0 where
  pub names : Scope w scope s Γ
  pub own : s.procedures ≡ w.parts.procedures.now
  pub marks : Marks before D

-- A statement's refusal; where there is none, its names are marked as declared.
pub record Walked (w : Walk) (scope before after : Names) (s : Parts) (t : tree.Stmt) (r : Result ⊤ Refusal) : Type 0 where
  pub is : (Γ D : List ℕ) → Setting w scope before s Γ D → as_verdict r ≡ stmt_refusal slow s w.procedure Γ D t
  pub left : (Γ D : List ℕ) → Setting w scope before s Γ D → {x : ⊤} → r ≡ Ok x → Marks after (declared t ++ D)

-- More is declared; or a statement's names come into scope.
module _ {w : Walk} {scope before between : Names} {s : Parts} {Γ D : List ℕ} (g : Setting w scope before s Γ D) where
  pub later : {t : tree.Stmt} {x : ⊤} → Walked w scope before between s t (Ok x) → Setting w scope between s Γ (declared t ++ D)
  later f = record { names = g.names; own = g.own; marks = f.left Γ D g refl }

  pub inside : {inner : Names} {xs : List ℕ} → Adds scope inner xs → Adds before between xs → Setting w inner between s (xs ++ Γ) (xs ++ D)
  inside m o = record { names = record { own = g.names.own; marks = m.over Γ g.names.marks }; own = g.own; marks = o.over D g.marks }

module _ {w : Walk} {scope before : Names} {s : Parts} where
  -- A statement that is refused; what it has marked by then is not asked.
  pub walked_stops : {after : Names} {t : tree.Stmt} (r : Result ⊤ Refusal) (e : Refusal) → IsErrAnd r (λ z. z ≡ e)
      → ((Γ D : List ℕ) → Setting w scope before s Γ D → refused (number_of e.rule) e.place ≡ stmt_refusal slow s w.procedure Γ D t) → Walked w scope before after s t r
  walked_stops r e f g = record {
    is = λ Γ D k. refuses_with r e f (g Γ D k);
    left = λ Γ D k q. let p = err_from_is_err_and r f in let n : r ≡ Err p.0 = p.1 in absurd cc;
  }

  -- A statement that declares nothing.
  pub walked_plain : {t : tree.Stmt} {r : Result ⊤ Refusal} → declared t ≡ []
      → ((Γ D : List ℕ) → Setting w scope before s Γ D → as_verdict r ≡ stmt_refusal slow s w.procedure Γ D t) → Walked w scope before before s t r
  walked_plain e f = record { is = f; left = λ Γ D g _. rw e g.marks }

  pub if_goes : {n : ℕ} {e : tree.Expr} {y z : tree.Stmt} {hidden : Bool} {between after : Names} {x x' : ⊤} {r : Result ⊤ Refusal}
      → ((Γ : List ℕ) → Scope w scope s Γ → Judges s Γ e (Ok hidden)) → Walked w scope before between s y (Ok x) → Walked w scope between after s z (Ok x')
      → as_verdict r ≡ (given 10 n hidden then given 11 n (share (variables e) (changed y ++ changed z))) → Walked w scope before after s (tree.branch n e y z) r
  unfolding stmt_refusal declared
  if_goes {y = y} {z = z} {after = after} c f k q = record {
    is = λ Γ D g. let j = c Γ g.names in then-on j.is (then-on (f.is Γ D g) (then-on (k.is Γ (declared y ++ D) (later g f)) (q ∙ rw (j.type _ refl))));
    left = λ Γ D g _. same-marks after (declared z ++ (declared y ++ D)) (k.left Γ (declared y ++ D) (later g f) refl) ((declared y ++ declared z) ++ D) (λ x. member-regroup x (declared y) (declared z) D);
  }

  pub for_goes : {n x : ℕ} {a b : tree.Expr} {t : tree.Stmt} {i j : Bool} {inner between after : Names} {v v' : ⊤} {r : Result ⊤ Refusal}
      → ((Γ : List ℕ) → Scope w scope s Γ → Judges s Γ a (Ok i)) → ((Γ : List ℕ) → Scope w scope s Γ → Judges s Γ b (Ok j))
      → ((Γ D : List ℕ) → Setting w scope before s Γ D → as_verdict (Ok v) ≡ (given 7 n (not (declarable (procedure_of s.procedures w.procedure) D x)) then given 9 n (not (is_counter (type_of s x)))))
      → Adds scope inner (x ∷ []) → Adds before between (x ∷ []) → Walked w inner between after s t (Ok v')
      → as_verdict r ≡ (given 10 n (i || j) then given 11 n (share (variables a ++ variables b) (changed t))) → Walked w scope before after s (tree.loop n x a b t) r
  unfolding stmt_refusal declared
  for_goes {x = x} {t = t} {after = after} c d k m o f q = record {
    is = λ Γ D g.
        let p = c Γ g.names in
        let p' = d Γ g.names in
        then-on p.is (then-on p'.is (row _ _ _ (then-on (k Γ D g) (then-on (f.is (x ∷ Γ) (x ∷ D) (inside g m o)) (q ∙ rw (p.type _ refl, p'.type _ refl))))));
    left = λ Γ D g _. same-marks after (declared t ++ (x ∷ D)) (f.left (x ∷ Γ) (x ∷ D) (inside g m o) refl) ((x ∷ declared t) ++ D) (λ y. member-regroup y (x ∷ []) (declared t) D);
  }

  pub block_goes : {n : ℕ} {xs : List ℕ} {t : tree.Stmt} {inner between after : Names} {v : ⊤} {r : Result ⊤ Refusal}
      → ((Γ D : List ℕ) → Setting w scope before s Γ D
      → as_verdict (Ok v) ≡ (given 7 n (not (every (declarable (procedure_of s.procedures w.procedure) D) xs)) then given 9 n (not (every (λ x. not (is_counter (type_of s x))) xs))))
      → Adds scope inner xs → Adds before between xs → Walked w inner between after s t r → Walked w scope before after s (tree.block n xs t) r
  unfolding stmt_refusal declared
  block_goes {xs = xs} {t = t} {after = after} k m o f = record {
    is = λ Γ D g. row _ _ _ (then-on (k Γ D g) (f.is (xs ++ Γ) (xs ++ D) (inside g m o)));
    left = λ Γ D g q. same-marks after (declared t ++ (xs ++ D)) (f.left (xs ++ Γ) (xs ++ D) (inside g m o) q) ((xs ++ declared t) ++ D) (λ y. member-regroup y xs (declared t) D);
  }

  pub list_none : {x : ⊤} → Walked w scope before before s tree.nothing (Ok x)
  unfolding stmt_refusal declared
  list_none = record { is = λ Γ D g. refl; left = λ Γ D g _. g.marks }

  pub list_goes : {t u : tree.Stmt} {between after : Names} {x : ⊤} {r : Result ⊤ Refusal} → Walked w scope before between s t (Ok x) → Walked w scope between after s u r
      → Walked w scope before after s (tree.list t u) r
  unfolding stmt_refusal declared
  list_goes {t} {u} {after = after} f k = record {
    is = λ Γ D g. then-on (f.is Γ D g) (k.is Γ (declared t ++ D) (later g f));
    left = λ Γ D g q. same-marks after (declared u ++ (declared t ++ D)) (k.left Γ (declared t ++ D) (later g f) q) ((declared t ++ declared u) ++ D) (λ y. member-regroup y (declared t) (declared u) D);
  }

-- ---- names that are declared

pub read_own : (s : Parts) {ps : List ℕ} → s.procedures ≡ ps → (p : ℕ) {q : Procedure} → as_procedure q ≡ procedure_of ps p → as_procedure q ≡ procedure_of s.procedures p
read_own s own p e = e ∙ ap (λ (z : List ℕ). procedure_of z p) (sym own)

-- What the library's test of every name of a range says, where it is asked of names that there can be.
pub every_is : (holds : ℕ → Bool) (x count : ℕ) (r : Bool) → x + count ≤ most
    → MatchBool r (AllWithin (λ y. y < most → holds y ≡ true) (range_with_len x count) 0 (length (range_with_len x count)))
    ((k : ℕ) × (k < length (range_with_len x count)) × HoldsAt (λ y. y < most → holds y ≡ false) (range_with_len x count) k)
    → r ≡ every holds (range x count)
unfolding every
every_is holds x count true low h =
    rw (← range_same x count)
    (sym (and_from_places (every holds) holds refl (λ _ _. refl) (range_with_len x count) 0
    (λ i l. let k : i < count = rw length-range_with_len at l in h i 0 (omega arith) l (rw (get_or-range_with_len x count i 0 k) (omega arith)))))
every_is holds x count false low h =
    rw (← range_same x count)
    (sym (and_fails_at (every holds) holds refl (λ _ _. refl) (range_with_len x count) h.0 0 h.1
    (let k : h.0 < count = rw length-range_with_len at h.1 in h.2 0 (rw (get_or-range_with_len x count h.0 0 k) (omega arith)))))

le-same : (a b : ℕ) → is_le (nat_cmp a b) ≡ leb a b
le-same a b = grind (arith, nat_tests)

lt-same : (a b : ℕ) → is_lt (nat_cmp a b) ≡ ltb a b
lt-same a b = grind (arith, nat_tests)

-- A name of the procedure's range behind its parameters, that is not declared yet.
module _ (q : Procedure) (D : List ℕ) (x : ℕ) {locals end x' : ℕ} (a : locals ≡ q.first + q.parameters) (b : end ≡ q.first + q.count) (c : x' ≡ x)
    {own : Bool} (f : own ≡ (is_le (nat_cmp locals x') && is_lt (nat_cmp x' end))) where
  declarable_by : (own && not (member x D)) ≡ declarable (as_procedure q) D x
  unfolding declarable
  declarable_by = rw (f, a, b, c, le-same (q.first + q.parameters) x, lt-same x (q.first + q.count)) (and_assoc (leb (q.first + q.parameters) x) (ltb x (q.first + q.count)) (not (member x D)))

  pub declarable_own : {fresh : Bool} → fresh ≡ not (member x D) → own ≡ true → fresh ≡ declarable (as_procedure q) D x
  declarable_own g t = g ∙ rw t at declarable_by

  pub declarable_other : own ≡ false → own ≡ declarable (as_procedure q) D x
  declarable_other t = t ∙ rw t at declarable_by

pub record CounterRules (w : Walk) (before : Names) (n x : ℕ) (r : Result ⊤ Refusal) : Type 0 where
  pub is : (s : Parts) (D : List ℕ) → s.variables ≡ w.parts.variables.now → s.procedures ≡ w.parts.procedures.now → Marks before D → x < 1024
      → as_verdict r ≡ (given 7 n (not (declarable (procedure_of s.procedures w.procedure) D x)) then given 9 n (not (is_counter (type_of s x))))

pub record BlockRules (w : Walk) (before : Names) (n x count : ℕ) (r : Result ⊤ Refusal) : Type 0 where
  pub is : (s : Parts) (D : List ℕ) → s.variables ≡ w.parts.variables.now → s.procedures ≡ w.parts.procedures.now → Marks before D
      → as_verdict r
      ≡ (given 7 n (not (every (declarable (procedure_of s.procedures w.procedure) D) (range x count))) then given 9 n (not (every (λ y. not (is_counter (type_of s y))) (range x count))))

pub record NoCounters (w : Walk) (x count : ℕ) (r : Bool) : Type 0 where
  pub is : (s : Parts) → s.variables ≡ w.parts.variables.now → r ≡ every (λ y. not (is_counter (type_of s y))) (range x count)

-- ---- what the walk needs to know

pub record Walkable (w : Walk) (n : ℕ) : Type 0 where
  pub header : Header
  pub parts : Parts
  pub standing : Standing is_statement w.parts.nodes.now header parts n
  pub own : parts.procedures ≡ w.parts.procedures.now

pub record WalkableChain (w : Walk) (n : ℕ) : Type 0 where
  pub header : Header
  pub parts : Parts
  pub chain : Chain is_statement w.parts.nodes.now header parts n
  pub own : parts.procedures ≡ w.parts.procedures.now

module _ {w : Walk} {n : ℕ} where
  pub known_of : Walkable w n → Known is_statement w.parts.nodes.now n
  known_of k = record { header = k.header; parts = k.parts; standing = k.standing }

  pub walkable_first : WalkableChain w n → (n ≡ missing → ⊥) → Walkable w n
  walkable_first k ne = record { header = k.header; parts = k.parts; standing = chain_standing k.chain ne; own = k.own }

  pub walkable_next : WalkableChain w n → (n ≡ missing → ⊥) → {m : ℕ} → m ≡ (node_of w.parts.nodes.now n).next → WalkableChain w m
  walkable_next k ne e = record { header = k.header; parts = k.parts; chain = later_statements (chain_standing k.chain ne) e; own = k.own }

  pub walkable_ahead : WalkableChain w n → (n ≡ missing → ⊥) → {m : ℕ} → m ≡ (node_of w.parts.nodes.now n).next → (n < m) × (m ≤ missing)
  walkable_ahead k ne e = statement-ahead (record { header = k.header; parts = k.parts; chain = k.chain }) ne e

  module _ (k : Walkable w n) where
    callable_by : {q : ℕ} {y : Node} → decoded_at w.parts.nodes.now n ≡ Ok y → ((h : Header) (s : Parts) → Refers h s n y → q < h.procedures) → Callable w q
    callable_by {q} d which =
        let l = which k.header k.parts (refers k.standing d) in
        let a = k.standing.sound.ranges q l in
        let b = k.standing.sound.parameters q l in
        let c = k.standing.sound.names in
        record { room = subst (λ (z : List ℕ). (procedure_of z q).first + (procedure_of z q).parameters ≤ 1024) k.own (omega arith) }

  module _ (k : Walkable w n) {x : Node} (d : decoded_at w.parts.nodes.now n ≡ Ok x) where
    pub walkable_child : {m : ℕ} → ((h : Header) (s : Parts) → Refers h s n x → Child h s.nodes n is_statement m) → Walkable w m
    walkable_child which =
        record { header = k.header; parts = k.parts; standing = standing_child k.standing (which k.header k.parts (refers k.standing d)); own = k.own }

    pub walkable_begun : {m : ℕ} → ((h : Header) (s : Parts) → Refers h s n x → (m ≡ missing) ⊎ Child h s.nodes n is_statement m) → WalkableChain w m
    walkable_begun which =
        record { header = k.header; parts = k.parts; chain = begun k.standing (which k.header k.parts (refers k.standing d)); own = k.own }

    pub call_ready : {q a : ℕ} → (x ≡ Call q a) ⊎ (x ≡ Uncall q a) → CallAt w.parts.nodes.now n q a × Callable w q
    call_ready {q} {a} o = (
      call_at (known_of k) d o,
      ⊎_elim
          (λ (e : x ≡ Call q a). callable_by k (d ∙ ap Ok e) (λ h s r. r.0))
          (λ (e : x ≡ Uncall q a). callable_by k (d ∙ ap Ok e) (λ h s r. r.0)) o,
    )

    pub range_small : (y c : ℕ) → ((h : Header) (s : Parts) → Refers h s n x → y + c ≤ h.variables) → y + c ≤ 1024
    range_small y c which = let l = which k.header k.parts (refers k.standing d) in let c = k.standing.sound.names in omega arith
