-- The calls of a lawful image are taken back: by recursion on the procedure's number, each body with the calls below it.
use Prim.Native.Nat.{ℕ, zero, suc, ◌+◌, ◌-◌, ◌^◌, ◌≤◌, ◌<◌}
use Rattle.std.specs.Prelude.{List, ◌≡◌, refl, not, length, get_or, T, eqb, ltb}
use Rattle.std.proofs.Common.{◌∙◌, ap, ⊎_elim, ltb→lt}
use Rattle.std.proofs.Math.Logic.{dite}
use native.Mathlib.Omega.{arith}
use Rattle.std.proofs.Math.Decide.{dec_lt}
use Rattle.std.proofs.Math.Dec.{eqb→eq, not_T, lit<}
use Rattle.rules.specs.Words.{Direction, opposite}
use Rattle.rules.specs.Image.{Header, Parts, Procedure, procedure_of}
use Rattle.rules.specs.Form.{shared_before, is_parameter}
use Rattle.rules.specs.Tree.{member, Stmt, body_of, declared}
use Rattle.rules.specs.Walk.{type_of}
use Rattle.rules.specs.Machine.{Slot, no_slot, Env, Calls, exec}
use Rattle.rules.specs.Run.{room_before, room_of, home, env_of, calls_below, last_of, sum}
use Rattle.laws.specs.Records.{Single, Placed, Typed, parameter_is}
use Rattle.laws.specs.Cells.{In, env_parameter, env_local, env_each, env_cases, homes-apart, homes-inside, room_one, room_short, of_cell, of_cell-home, of_cell-each}
use Rattle.laws.specs.Spec.{Cells, Spec, spec_done, spec_choose, spec_wider}
use Rattle.laws.specs.Rules.{outward, Lawful}
use Rattle.laws.specs.Undo.{Passed, Housed, CallsUndone, exec-undone}

-- What the static rules say of a procedure's body.
pub record LawfulBody (s : Parts) (q : Procedure) (t : Stmt) : Type 0 where
  pub lawful : Lawful s (Single s q) t
  pub declares : (x : ℕ) → T (member x (declared t)) → (q.first + q.parameters ≤ x) × (x < q.first + q.count)
  pub changes : (x : ℕ) → T (outward x t) → (q.first ≤ x) × (x < q.first + q.parameters)

module _ (h : Header) (s : Parts) (lengths : List ℕ) where
  abbrev pub homes : Env
  homes = home h s (sum lengths)

  abbrev pub cell_count : ℕ
  cell_count = sum lengths + room_before h s h.variables

  abbrev pub cell_size : ℕ → ℕ
  cell_size = of_cell (λ v. v.size) h s lengths

  -- The cells of the locals below n.
  abbrev pub Locals : ℕ → Cells
  Locals n i = (x : ℕ) × (x < n) × In (homes x) i

  module _ (procedure : (p : ℕ) → p < h.procedures → Placed h s p) (variable : (x : ℕ) → x < h.variables → Typed h s x)
      (bodies : (p : ℕ) → p < h.procedures → LawfulBody s (procedure_of s.procedures p) (body_of h s p))
      (lent : (last_of h s).first + length lengths ≤ h.variables) where
    words : (i : ℕ) → i < cell_count → (0 < cell_size i) × (cell_size i ≤ 64)
    words = of_cell-each (λ v. v.size) h s lengths (λ z. (0 < z) × (z ≤ 64)) (λ x l. ((variable x l).some, (variable x l).word)) lent

    local_below : (x : ℕ) → room_of h s x ≤ 4096 → (homes x).cells < 2 ^ 64
    unfolding home
    local_below x l = let m : 4096 < 2 ^ 64 = lit< tt in omega arith

    local_width : (x i : ℕ) → x < h.variables → In (homes x) i → (cell_size i ≡ (homes x).width) × ((homes x).width ≡ (type_of s x).size)
    unfolding home
    local_width x i l a = (of_cell-home (λ v. v.size) h s lengths x i l a, refl)

    local_cells : (x : ℕ) → room_of h s x ≡ 1 → (homes x).cells ≡ 1
    unfolding home
    local_cells x e = e

    module _ (p : ℕ) (l : p < h.procedures) (xs : List Slot) (Z : Cells) (S : Passed cell_count cell_size s p xs Z) where
      abbrev q : Procedure
      q = procedure_of s.procedures p

      abbrev ρ : Env
      ρ = env_of homes q xs

      housed : ((i : ℕ) → Locals (q.first + q.count) i → Z i) → Housed cell_count cell_size s (Single s q) ρ (Locals q.first)
      housed KZ = record {
        apart = λ x y i a b. ⊎_elim
            (λ f. ⊎_elim (λ g. let e = S.apart (x - q.first) (y - q.first) i f.2 g.2 in omega arith)
            (λ g. absurd (S.free (x - q.first) i f.2 (KZ i (y, g.1, g.2)))) (env_cases homes q xs y i b))
            (λ f. ⊎_elim (λ g. absurd (S.free (y - q.first) i g.2 (KZ i (x, f.1, f.2))))
            (λ g. homes-apart h s (sum lengths) x y i f.2 g.2) (env_cases homes q xs y i b))
            (env_cases homes q xs x i a);
        width = λ x i a. ⊎_elim
            (λ f. let e : q.first + (x - q.first) ≡ x = omega arith in
            rw (env_parameter homes q xs x f.0 f.1) (let r = S.width (x - q.first) i f.2 in (r.0, r.1 ∙ ap (λ y. (type_of s y).size) e)))
            (λ f. rw (env_local homes q xs x f.0 f.1) (local_width x i (omega (arith, (procedure p l).end)) f.2))
            (env_cases homes q xs x i a);
        bound = λ x i a. ⊎_elim (λ f. S.bound (x - q.first) i f.2) (λ f. (homes-inside h s (sum lengths) x i (omega (arith, (procedure p l).end)) f.2).1) (env_cases homes q xs x i a);
        short = λ x. env_each homes q xs x (λ y. y.cells < 2 ^ 64) (lit< tt) (λ _ _. S.short (x - q.first))
            (λ _ m. local_below x (room_short h s x (variable x (omega (arith, (procedure p l).end)))));
        one = λ x v. dite (dec_lt (x - q.first) (length xs))
            (λ m. let e : q.first + (x - q.first) ≡ x = omega arith in
            rw (env_parameter homes q xs x v.2 m) (S.one (x - q.first) m (rw e v.0)))
            (λ k. let m : q.first + length xs ≤ x = omega arith in
            rw (env_local homes q xs x m v.3) (local_cells x (room_one h s x (no_parameter x v.2 v.3 (omega (arith, S.count))) v.1 v.0)));
        below = λ x i a k. ⊎_elim (λ f. S.free (x - q.first) i f.2 (KZ i (k.0, omega arith, k.2)))
            (λ f. let e = homes-apart h s (sum lengths) x k.0 i f.2 k.2 in omega arith) (env_cases homes q xs x i a);
      }
        where
          no_parameter : (x : ℕ) → q.first ≤ x → x < q.first + q.count → q.first + q.parameters ≤ x → T (not (is_parameter h s.procedures x))
          no_parameter x from to m = rw (parameter_is h s procedure p x l from to) (not_T (ltb x (q.first + q.parameters)) (λ t. let k = ltb→lt x (q.first + q.parameters) t in omega arith))

      body_undone : (calls : Calls) (d : Direction) → ((i : ℕ) → Locals (q.first + q.count) i → Z i) → CallsUndone cell_count cell_size s calls (Locals q.first)
          → Spec cell_count cell_size (exec calls d ρ (body_of h s p)) (exec calls (opposite d) ρ (body_of h s p)) Z (λ i. (j : ℕ) × In (get_or xs j no_slot) i)
      body_undone calls d KZ C =
          spec_wider cell_count cell_size _ _ Z _ _
          (λ i w. let r = B.changes w.0 w.1 in ⊎_elim (λ f. (w.0 - q.first, f.2)) (λ f. absurd (omega (arith, S.count))) (env_cases homes q xs w.0 i w.2))
          (exec-undone cell_count cell_size s words (Single s q) calls (Locals q.first) C ρ (housed KZ) (body_of h s p) B.lawful Z
          (λ i k. KZ i (k.0, omega arith, k.2)) (
            (λ x t i a. let r = B.declares x t in ⊎_elim (λ f. absurd (omega (arith, S.count))) (λ f. KZ i (x, f.1, f.2)) (env_cases homes q xs x i a)),
            (λ x t i a. let r = B.changes x t in ⊎_elim (λ f. S.free (x - q.first) i f.2) (λ f. absurd (omega (arith, S.count))) (env_cases homes q xs x i a)),
          ) d)
        where
          B : LawfulBody s q (body_of h s p)
          B = bodies p l

    pub calls_undone : (p : ℕ) → p ≤ h.procedures → CallsUndone cell_count cell_size s (calls_below h s homes p) (Locals (shared_before s.procedures p))
    unfolding calls_below shared_before
    calls_undone zero l n d xs Z S KZ = spec_done cell_count cell_size Z _
    calls_undone (suc p) l n d xs Z S KZ =
        let P = (procedure p l).start in
        spec_choose cell_count cell_size (eqb n p) _ _ _ _ Z _
        (λ t. let e : n ≡ p = eqb→eq n p t in
        body_undone p l xs Z (rw e at S) (calls_below h s homes p) d (λ i k. KZ i (k.0, omega arith, k.2))
        (λ n d xs Z S KZ'. calls_undone p (omega arith) n d xs Z S (λ i k. KZ' i (k.0, omega arith, k.2))))
        (λ t. calls_undone p (omega arith) n d xs Z S (λ i k. KZ i (k.0, omega arith, k.2)))
