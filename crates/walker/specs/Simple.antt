-- The statements that hold no other: update, swap, conditional swap, call.
use Rattle.std.specs.Prelude.{ℕ, ◌+◌, ◌-◌, ◌≤◌, ◌≡◌, List, [], ◌∷◌, ◌++◌, Bool, true, false, ◌&&◌, ◌||◌, ◌⊎◌, ltb, Result, Ok, ⊤}
use Rattle.std.proofs.Math.Bool.{or-false}
use Rattle.std.proofs.Common.{sym, ap, ◌∙◌, inl, inr, ⊎_elim, arith}
use Rattle.rules.specs.Words as words
use Rattle.rules.specs.Image as rules
use Rattle.rules.specs.Image.{Header, Parts, procedure_of, is_secret, is_statement, is_expression, is_lvalue}
use Rattle.rules.specs.Tree as tree
use Rattle.rules.specs.Tree.{member, reading_at, variables, root, index}
use Rattle.rules.specs.Walk.{type_of, same_type, secret_root, share, swap_clash, call_fits, stmt_refusal}
use Rattle.rules.specs.Check.{slow}
use Rattle.records.specs.Refusals.{as_verdict}
use Rattle.records.specs.Records.{as_procedure}
use Rattle.records.specs.LValues.{root_of}
use Rattle.records.specs.Decode.{decoded_at}
use Rattle.records.specs.Cases.{place_of, root-place}
use Rattle.records.specs.declared.refusal.Refusal.{Refusal}
use Rattle.records.specs.declared.Procedure.{Procedure}
use Rattle.records.specs.declared.LValue.{LValue}
use Rattle.records.specs.declared.Node.{Node}
use Rattle.records.specs.declared.Node.TheVariants.{Update, Swap, ConditionalSwap, Call, Uncall}
use Rattle.names.specs.Marks.{share-append, share-comm}
use Rattle.names.specs.declared.marks.Names.{Names}
use Rattle.names.specs.Sound.{Standing, Known, Chain, KnownChain, means, refers}
use Rattle.names.specs.Statements.{begun, known_begun}
use Rattle.names.specs.Chains.{Naming}
use Rattle.walker.specs.declared.Walk.{Walk}
use Rattle.walker.specs.Judge.{Scope}
use Rattle.walker.specs.Ways.{fitting}

-- A node that is known to be of a case.
pub record UpdateAt (nodes : List ℕ) (n : ℕ) (l : LValue) (v : ℕ) : Type 0 where
  pub known : Known is_statement nodes n
  pub operator : ℕ
  pub is : decoded_at nodes n ≡ Ok (Update l v operator)

pub record SwapAt (nodes : List ℕ) (n : ℕ) (l m : LValue) : Type 0 where
  pub known : Known is_statement nodes n
  pub is : decoded_at nodes n ≡ Ok (Swap l m)

pub record ConditionalAt (nodes : List ℕ) (n e : ℕ) (l m : LValue) : Type 0 where
  pub known : Known is_statement nodes n
  pub is : decoded_at nodes n ≡ Ok (ConditionalSwap l m e)

pub record CallAt (nodes : List ℕ) (n q a : ℕ) : Type 0 where
  pub known : Known is_statement nodes n
  pub is : (decoded_at nodes n ≡ Ok (Call q a)) ⊎ (decoded_at nodes n ≡ Ok (Uncall q a))

-- The parameters of procedure q are variables of the image.
pub record Callable (w : Walk) (q : ℕ) : Type 0 where
  pub room : (procedure_of w.parts.procedures.now q).first + (procedure_of w.parts.procedures.now q).parameters ≤ 1024

-- A statement that declares nothing: its refusal, whatever is declared so far, and in whatever procedure.
pub record Plain (w : Walk) (scope : Names) (s : Parts) (t : tree.Stmt) (r : Result ⊤ Refusal) : Type 0 where
  pub is : (p : ℕ) (Γ D : List ℕ) → Scope w scope s Γ → as_verdict r ≡ stmt_refusal slow s p Γ D t

pub record Called (w : Walk) (scope : Names) (s : Parts) (t : tree.Stmt) (r : Result ⊤ Refusal) : Type 0 where
  pub is : (Γ D : List ℕ) → Scope w scope s Γ → s.procedures ≡ w.parts.procedures.now → as_verdict r ≡ stmt_refusal slow s w.procedure Γ D t

pub record SameType (w : Walk) (x y : ℕ) (r : Bool) : Type 0 where
  pub is : (s : Parts) → s.variables ≡ w.parts.variables.now → r ≡ same_type (type_of s x) (type_of s y)

-- What 11 asks of an update, of the targets of a swap, and of a condition before them.
pub record UpdateClash (w : Walk) (l : LValue) (v : ℕ) (r : Bool) : Type 0 where
  pub is : (h : Header) (s : Parts) → Naming w.parts.nodes.now h s l → Standing is_expression w.parts.nodes.now h s v
      → r ≡ member (root (place_of h s l)) (variables (reading_at h s v).as_expr ++ index (place_of h s l))

pub record SwapClash (w : Walk) (l m : LValue) (r : Bool) : Type 0 where
  pub is : (h : Header) (s : Parts) → Naming w.parts.nodes.now h s l → Naming w.parts.nodes.now h s m → r ≡ swap_clash (place_of h s l) (place_of h s m)

pub record ConditionClash (w : Walk) (e : ℕ) (l m : LValue) (r : Bool) : Type 0 where
  pub is : (h : Header) (s : Parts) → Standing is_expression w.parts.nodes.now h s e → Naming w.parts.nodes.now h s l → Naming w.parts.nodes.now h s m
      → r ≡ (swap_clash (place_of h s l) (place_of h s m) || share (root (place_of h s l) ∷ root (place_of h s m) ∷ []) (variables (reading_at h s e).as_expr))

-- ---- the tests

pub secret-target : (h : Header) (s : Parts) (l : LValue) {x : ℕ} {b : Bool} → x ≡ root_of l → b ≡ is_secret (type_of s x) → b ≡ secret_root s (place_of h s l)
secret-target h s l e f = f ∙ rw (root-place h s l, e)

-- Two names, one after the other.
module _ (x y : ℕ) (ys : List ℕ) {a : Bool} (f : a ≡ member x ys) where
  pub share-first : a ≡ true → a ≡ share (x ∷ y ∷ []) ys
  unfolding share
  share-first e = e ∙ rw (← f, e)

  pub share-second : a ≡ false → {b : Bool} → b ≡ member y ys → b ≡ share (x ∷ y ∷ []) ys
  unfolding share
  share-second e k = k ∙ rw (← f, e, or-false (member y ys))

share-later : (a b c : List ℕ) → share a (b ++ c) ≡ (share a b || share a c)
share-later a b c = share-comm a (b ++ c) ∙ share-append b c a ∙ rw (share-comm b a, share-comm c a)

module _ (h : Header) (s : Parts) (l m : LValue) {x y : ℕ} {a : Bool} (e : x ≡ root_of l) (f : y ≡ root_of m) (g : a ≡ share (x ∷ y ∷ []) (index (place_of h s l))) where
  pub swap_clash_first : a ≡ true → a ≡ swap_clash (place_of h s l) (place_of h s m)
  unfolding swap_clash
  swap_clash_first t =
      t ∙ rw (root-place h s l, root-place h s m, ← e, ← f, share-later (x ∷ y ∷ []) (index (place_of h s l)) (index (place_of h s m)), ← g, t)

  pub swap_clash_second : a ≡ false → {b : Bool} → b ≡ share (x ∷ y ∷ []) (index (place_of h s m)) → b ≡ swap_clash (place_of h s l) (place_of h s m)
  unfolding swap_clash
  swap_clash_second t k =
      k ∙ rw (root-place h s l, root-place h s m, ← e, ← f, share-later (x ∷ y ∷ []) (index (place_of h s l)) (index (place_of h s m)), ← g, t)

pub same-roots : (h : Header) (s : Parts) (l m : LValue) {x y : ℕ} {r : Bool} → x ≡ root_of l → y ≡ root_of m
    → r ≡ same_type (type_of s x) (type_of s y) → r ≡ same_type (type_of s (root (place_of h s l))) (type_of s (root (place_of h s m)))
same-roots h s l m f g a = rw (root-place h s l, root-place h s m, ← f, ← g) a

pub call_fit : (w : Walk) (q : ℕ) {x : Procedure} → as_procedure x ≡ procedure_of w.parts.procedures.now q → (s : Parts) (ls : List tree.LValue) → s.procedures ≡ w.parts.procedures.now
    → (ltb q w.procedure && fitting s x.first (x.first + x.parameters) ls) ≡ call_fits s w.procedure q ls
unfolding call_fits fitting
call_fit w q {x} g s ls own =
    let k : (x.first + x.parameters) - x.first ≡ x.parameters = omega arith in
    let e : as_procedure x ≡ procedure_of s.procedures q = g ∙ ap (λ (z : List ℕ). procedure_of z q) (sym own) in
    rw (k, ← ap (λ (z : rules.Procedure). z.first) e, ← ap (λ (z : rules.Procedure). z.parameters) e)

-- ---- a call or an uncall, alike

pub call_at : {nodes : List ℕ} {n q a : ℕ} {x : Node} → Known is_statement nodes n → decoded_at nodes n ≡ Ok x → (x ≡ Call q a) ⊎ (x ≡ Uncall q a) → CallAt nodes n q a
call_at k d o = record { known = k; is = ⊎_elim (λ e. inl (d ∙ ap Ok e)) (λ e. inr (d ∙ ap Ok e)) o }

module _ {nodes : List ℕ} {n q a : ℕ} (c : CallAt nodes n q a) where
  pub call_known : KnownChain is_lvalue nodes a
  call_known =
      ⊎_elim (λ (d : decoded_at nodes n ≡ Ok (Call q a)). known_begun c.known d (λ h s r. r.1)) (λ (d : decoded_at nodes n ≡ Ok (Uncall q a)). known_begun c.known d (λ h s r. r.1)) c.is

  module _ {h : Header} {s : Parts} (st : Standing is_statement nodes h s n) where
    pub call_chain : Chain is_lvalue nodes h s a
    call_chain = ⊎_elim (λ (d : decoded_at nodes n ≡ Ok (Call q a)). begun st (refers st d).1) (λ (d : decoded_at nodes n ≡ Ok (Uncall q a)). begun st (refers st d).1) c.is

    pub call_means : (d : words.Direction) × ((reading_at h s n).as_stmt ≡ tree.call n d q (reading_at h s a).as_arguments)
    call_means =
        ⊎_elim (λ (d : decoded_at nodes n ≡ Ok (Call q a)). (words.forward, means st d)) (λ (d : decoded_at nodes n ≡ Ok (Uncall q a)). (words.inverse, means st d)) c.is
