-- What an accepted image says of its records: where each procedure's variables stand, what each variable is, and that each body was walked.
use Rattle.std.specs.Prelude.{ℕ, zero, suc, ◌+◌, ◌-◌, ◌*◌, ◌≤◌, ◌<◌, List, ◌≡◌, Bool, true, false, not, cond, ◌&&◌, ◌||◌, length, drop, T, eqb, leb, ltb}
use Rattle.std.proofs.Common.{⊎_elim, arith, eqb→eq, leb→le, ltb→lt, le→leb, T_not, lit<, length-drop, length-take-le}
use Rattle.std.proofs.Math.Logic.{dite}
use Rattle.std.proofs.Math.Decide.{ℕ_discrete}
use Rattle.std.proofs.Math.Dec.{not_T}
use Rattle.rules.specs.Words.{Binary}
use Rattle.rules.specs.Image.{Header, header_of, Parts, part, parts_of, Procedure, procedure_of, variable_of, node_of, is_array, is_constant, is_statement}
use Rattle.rules.specs.Form.{given, format_refusal, counts_fit, parts_follow, layout_refusal, shared_before, procedure_fits, procedure_refusal, owner, is_parameter, extra_fits, size_fits, variable_fits, variable_refusal, node_refusal}
use Rattle.rules.specs.Tree.{bodies, member, reference_refusal, depths, chained, stands_in_tree, place_refusal, body_of, tree_refusal}
use Rattle.rules.specs.Walk.{type_of, body_refusal, walk_refusal}
use Rattle.rules.specs.Check.{form_refusal, verdict_for}
use Rattle.laws.specs.Verdicts.{Accepted, and_iff, or_cases, given_holds, then_both, lowest-passed, search_is, member-here, member-there}

-- The procedure's own names, and those of them that have one cell: scalars and counters.
abbrev pub Own : Procedure → ℕ → Type 0
Own q x = (q.first ≤ x) × (x < q.first + q.count)

abbrev pub Single : Parts → Procedure → ℕ → Type 0
Single s q x = T (not (is_array (type_of s x))) × T (not (is_constant (type_of s x))) × (q.first ≤ x) × (x < q.first + q.count)

-- ---- the layout

-- Each count is in its range. "Parts follow the header and each other without gaps; the total is the slice's length."
pub record Laid (h : Header) (bytes : ℕ) : Type 0 where
  pub some_procedures : 1 ≤ h.procedures
  pub few_procedures : h.procedures ≤ 32
  pub few_variables : h.variables ≤ 1024
  pub some_nodes : 1 ≤ h.nodes
  pub few_nodes : h.nodes ≤ 4096
  pub few_constants : h.constants ≤ 512
  pub procedures_from : h.procedure_part ≡ 20
  pub variables-from : h.variable_part ≡ h.procedure_part + h.procedures * 8
  pub nodes_from : h.node_part ≡ h.variable_part + h.variables * 6
  pub constants-from : h.constant_part ≡ h.node_part + h.nodes * 12
  pub ends : h.total ≡ h.constant_part + h.constants * 8
  pub whole : h.total ≡ bytes

pub laid : (h : Header) (bytes : ℕ) → Accepted (given 2 0 (not (counts_fit h && parts_follow h bytes))) → Laid h bytes
unfolding counts_fit parts_follow
laid h bytes e =
    let t : T (counts_fit h && parts_follow h bytes) = given_holds 2 0 (counts_fit h && parts_follow h bytes) (lit< tt) e in
    let r = simp and_iff at t in
    record {
      some_procedures = leb→le _ _ r.0.0.0;
      few_procedures = leb→le _ _ r.0.0.1;
      few_variables = leb→le _ _ r.0.1.0;
      some_nodes = leb→le _ _ r.0.1.1.0.0;
      few_nodes = leb→le _ _ r.0.1.1.0.1;
      few_constants = leb→le _ _ r.0.1.1.1;
      procedures_from = eqb→eq _ _ r.1.0;
      variables-from = eqb→eq _ _ r.1.1.0;
      nodes_from = eqb→eq _ _ r.1.1.1.0;
      constants-from = eqb→eq _ _ r.1.1.1.1.0;
      ends = eqb→eq _ _ r.1.1.1.1.1.0;
      whole = eqb→eq _ _ r.1.1.1.1.1.1;
    }

-- A part is as long as its two offsets say.
pub part_long : (image : List ℕ) (from end : ℕ) → end ≤ length image → length (part image from end) ≡ end - from
part_long image from end l =
    let d : length (drop from image) ≡ length image - from = length-drop from image in
    length-take-le (end - from) (drop from image) (omega arith)

-- ---- procedures

-- "Variables are shared out in procedure order": where the variables of procedure p stand.
pub record Placed (h : Header) (s : Parts) (p : ℕ) : Type 0 where
  pub start : (procedure_of s.procedures p).first ≡ shared_before s.procedures p
  pub end : (procedure_of s.procedures p).first + (procedure_of s.procedures p).count ≤ h.variables
  pub few : (procedure_of s.procedures p).parameters ≤ 16
  pub parameters : (procedure_of s.procedures p).parameters ≤ (procedure_of s.procedures p).count
  pub body : (procedure_of s.procedures p).body < h.nodes

pub placed : (h : Header) (s : Parts) → Accepted (procedure_refusal h s) → (p : ℕ) → p < h.procedures → Placed h s p
unfolding procedure_refusal procedure_fits
placed h s e p l =
    let t : T (procedure_fits h s.procedures p) = lowest-passed 3 (procedure_fits h s.procedures) 0 h.procedures (lit< tt) e p (omega arith) (omega arith) in
    let a = simp and_iff at t in
    record {
      start = eqb→eq _ _ a.0;
      end = leb→le _ _ a.1.0;
      few = leb→le _ _ a.1.1.0;
      parameters = leb→le _ _ a.1.1.1.0;
      body = ltb→lt _ _ a.1.1.1.1.0;
    }

shared_grows : (s : List ℕ) (p q : ℕ) → p ≤ q → shared_before s p ≤ shared_before s q
unfolding shared_before
shared_grows s zero zero l = omega arith
shared_grows s (suc p) zero l = absurd (omega arith)
shared_grows s p (suc q) l = dite (ℕ_discrete p (suc q)) (λ e. rw e (omega arith)) (λ ne. let h = shared_grows s p q (omega arith) in omega arith)

-- The range of an earlier procedure ends before a later one's begins.
pub ranges_ordered : (h : Header) (s : Parts) → ((p : ℕ) → p < h.procedures → Placed h s p) → (p q : ℕ) → p < q → q < h.procedures
    → (procedure_of s.procedures p).first + (procedure_of s.procedures p).count ≤ (procedure_of s.procedures q).first
unfolding shared_before
ranges_ordered h s all p q l m =
    let P = (all p (omega arith)).start in
    let Q = (all q m).start in
    let g = shared_grows s.procedures (suc p) q l in
    omega arith

-- A variable in the range of procedure p is p's, and a parameter if it is one of the first.
pub owner-is : (h : Header) (s : Parts) → ((p : ℕ) → p < h.procedures → Placed h s p) → (p x : ℕ) → p < h.procedures
    → (procedure_of s.procedures p).first ≤ x → x < (procedure_of s.procedures p).first + (procedure_of s.procedures p).count
    → owner h s.procedures x ≡ p
unfolding owner
owner-is h s all p x l from to =
    search_is (λ q. leb ((procedure_of s.procedures q).first + (procedure_of s.procedures q).count) x) 0 h.procedures p (omega arith) (omega arith)
    (λ q a b. let r = ranges_ordered h s all q p b l in le→leb _ x (omega arith))
    (not_T (leb ((procedure_of s.procedures p).first + (procedure_of s.procedures p).count) x) (λ t. let r = leb→le ((procedure_of s.procedures p).first + (procedure_of s.procedures p).count) x t in omega arith))

pub parameter_is : (h : Header) (s : Parts) → ((p : ℕ) → p < h.procedures → Placed h s p) → (p x : ℕ) → p < h.procedures
    → (procedure_of s.procedures p).first ≤ x → x < (procedure_of s.procedures p).first + (procedure_of s.procedures p).count
    → is_parameter h s.procedures x ≡ ltb x ((procedure_of s.procedures p).first + (procedure_of s.procedures p).parameters)
unfolding is_parameter
parameter_is h s all p x l from to = rw (owner-is h s all p x l from to)

-- ---- variables

pub record Typed (h : Header) (s : Parts) (x : ℕ) : Type 0 where
  pub some : 0 < (type_of s x).size
  pub word : (type_of s x).size ≤ 64
  pub kinds : (type_of s x).kind ≤ 3
  pub secrecies : (type_of s x).secrecy ≤ 1
  -- "Constants and counters are public, 64."
  pub plain : 2 ≤ (type_of s x).kind → ((type_of s x).secrecy ≡ 0) × ((type_of s x).size ≡ 64)
  -- "Parameters are kind 0 or 1."
  pub lent : T (is_parameter h s.procedures x) → (type_of s x).kind ≤ 1
  -- "a local array's length, 1 to 4,096"
  pub length : T (not (is_parameter h s.procedures x)) → T (is_array (type_of s x)) → (1 ≤ (type_of s x).extra) × ((type_of s x).extra ≤ 4096)

sizes-fit : (z : ℕ) → T (size_fits z) → (0 < z) × (z ≤ 64)
unfolding size_fits
sizes-fit z t = ⊎_elim (λ a. let e = eqb→eq z 8 a in omega arith) (λ r.
    ⊎_elim (λ a. let e = eqb→eq z 16 a in omega arith) (λ r.
    ⊎_elim (λ a. let e = eqb→eq z 32 a in omega arith) (λ a. let e = eqb→eq z 64 a in omega arith) (or_cases (eqb z 32) (eqb z 64) r))
    (or_cases (eqb z 16) (eqb z 32 || eqb z 64) r)) (or_cases (eqb z 8) (eqb z 16 || (eqb z 32 || eqb z 64)) t)

length_fits : (array parameter : Bool) (inside other : Bool) → T (cond (array && not parameter) inside other) → T (not parameter) → T array → T inside
length_fits true true inside other t p a = absurd p
length_fits true false inside other t p a = t
length_fits false parameter inside other t p a = absurd a

pub typed : (h : Header) (s : Parts) → Accepted (variable_refusal h s) → (x : ℕ) → x < h.variables → Typed h s x
unfolding variable_refusal variable_fits extra_fits
typed h s e x l =
    let t : T (variable_fits h (is_parameter h s.procedures x) (variable_of s.variables x)) =
    lowest-passed 4 (λ x. variable_fits h (is_parameter h s.procedures x) (variable_of s.variables x)) 0 h.variables (lit< tt) e x (omega arith) (omega arith) in
    let a = simp and_iff at t in
    let z = sizes-fit (type_of s x).size a.1.1.0 in
    record {
      some = z.0;
      word = z.1;
      kinds = leb→le _ _ a.0;
      secrecies = leb→le _ _ a.1.0;
      plain = λ k. ⊎_elim (λ c. let m = leb→le (type_of s x).kind 1 c in absurd (omega arith)) (λ c. let b = simp and_iff at c in (eqb→eq (type_of s x).secrecy 0 b.0, eqb→eq (type_of s x).size 64 b.1))
          (or_cases (leb (type_of s x).kind 1) (eqb (type_of s x).secrecy 0 && eqb (type_of s x).size 64) a.1.1.1.1.1.0);
      lent = λ p. ⊎_elim (λ c. absurd (T_not (is_parameter h s.procedures x) c p)) (λ c. leb→le (type_of s x).kind 1 c) (or_cases (not (is_parameter h s.procedures x)) (leb (type_of s x).kind 1) a.1.1.1.1.1.1);
      length = λ p q. let b = simp and_iff at (length_fits (is_array (type_of s x)) (is_parameter h s.procedures x) _ _ a.1.1.1.1.0 p q) in
          (leb→le 1 (type_of s x).extra b.0, leb→le (type_of s x).extra 4096 b.1);
    }

-- ---- the whole verdict

walk_each : (forbidden : Binary → Bool) (h : Header) (s : Parts) (p count : ℕ) → Accepted (walk_refusal forbidden h s p count)
    → (q : ℕ) → p ≤ q → q < p + count → Accepted (body_refusal forbidden s q (body_of h s q))
unfolding walk_refusal
walk_each forbidden h s p zero e q l m = absurd (omega arith)
walk_each forbidden h s p (suc count) e q l m =
    let b = then_both (body_refusal forbidden s p (body_of h s p)) (walk_refusal forbidden h s (suc p) count) e in
    dite (ℕ_discrete q p) (λ k. rw k b.0) (λ k. walk_each forbidden h s (suc p) count b.1 q (omega arith) (omega arith))

-- What an accepted image, with these header and parts, is known to hold.
pub record Sound (forbidden : Binary → Bool) (h : Header) (s : Parts) : Type 0 where
  pub some : 1 ≤ h.procedures
  pub few : h.nodes ≤ 4096
  pub narrow : h.variables ≤ 1024
  pub nodes : Accepted (node_refusal h s)
  pub tree : Accepted (tree_refusal h s)
  pub procedure : (p : ℕ) → p < h.procedures → Placed h s p
  pub variable : (x : ℕ) → x < h.variables → Typed h s x
  pub walked : (p : ℕ) → p < h.procedures → Accepted (body_refusal forbidden s p (body_of h s p))

pub sound : (forbidden : Binary → Bool) (image : List ℕ) → Accepted (verdict_for forbidden image) → Sound forbidden (header_of image) (parts_of image)
unfolding verdict_for layout_refusal form_refusal
sound forbidden image e =
    let a = then_both (format_refusal image) _ e in
    let b = then_both (layout_refusal image) _ a.1 in
    let c = then_both (form_refusal (header_of image) (parts_of image)) _ b.1 in
    let d = then_both (procedure_refusal (header_of image) (parts_of image)) _ c.0 in
    let f = then_both (variable_refusal (header_of image) (parts_of image)) _ d.1 in
    let i = then_both (node_refusal (header_of image) (parts_of image)) _ f.1 in
    let l = laid (header_of image) (length image) b.0 in
    record {
      some = l.some_procedures;
      few = l.few_nodes;
      narrow = l.few_variables;
      nodes = i.0;
      tree = i.1;
      procedure = placed (header_of image) (parts_of image) d.0;
      variable = typed (header_of image) (parts_of image) f.0;
      walked = λ p l. walk_each forbidden (header_of image) (parts_of image) 0 (header_of image).procedures c.1 p (omega arith) (omega arith);
    }

-- A procedure's body is one of the bodies.
pub body_member : (s : List ℕ) (p count q : ℕ) → p ≤ q → q < p + count → T (member (procedure_of s q).body (bodies s p count))
unfolding bodies
body_member s p zero q l m = absurd (omega arith)
body_member s p (suc count) q l m = dite (ℕ_discrete q p) (λ e. rw e (member-here (procedure_of s p).body (bodies s (suc p) count)))
    (λ ne. member-there (procedure_of s q).body (procedure_of s p).body (bodies s (suc p) count) (body_member s (suc p) count q (omega arith) (omega arith)))

-- "a body that is no statement" is refused.
pub body_statement : {forbidden : Binary → Bool} {h : Header} {s : Parts} → Sound forbidden h s → (p : ℕ) → p < h.procedures → T (is_statement (node_of s.nodes (procedure_of s.procedures p).body).kind)
unfolding tree_refusal place_refusal stands_in_tree
body_statement {h = h} {s = s} S p l =
    let starts = bodies s.procedures 0 h.procedures in
    let n = (procedure_of s.procedures p).body in
    let t = then_both (reference_refusal h s) (place_refusal h s) S.tree in
    let stands = lowest-passed 6 (λ n. stands_in_tree starts (depths h s) (chained h s) n (node_of s.nodes n)) 0 h.nodes (lit< tt) t.1 n (omega arith) (omega (arith, (S.procedure p l).body)) in
    let a = simp and_iff at stands in
    ⊎_elim (λ out. absurd (T_not (member n starts) out (body_member s.procedures 0 h.procedures p (omega arith) (omega arith)))) (λ is. is)
    (or_cases (not (member n starts)) (is_statement (node_of s.nodes n).kind) a.0)
