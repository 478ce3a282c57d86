-- A run has few events: a step and what is read for it write no more than a fixed number, the allowance.
-- So the trace's length and the allowance of every step that is left, together, never grow.
use Prim.Native.Nat.{ℕ, zero, suc, ◌+◌, ◌-◌, ◌*◌, ◌^◌, ◌≤◌, ◌<◌}
use mathlib.Core.List.{List, [], ◌∷◌, ◌++◌}
use Rattle.std.specs.Prelude.{◌≡◌, refl, Bool, true, false, ◌&&◌, length, get_or, replicate, eqb, ltb}
use Rattle.std.proofs.Common.{eqb→eq, lit<}
use native.Mathlib.Omega.{arith}
use Rattle.std.proofs.Math.ListN.{length-append}
use Rattle.rules.specs.Words.{Direction, forward, inverse, turned, Binary, divides}
use Rattle.rules.specs.Image.{Header, header_of, Parts, parts_of, procedure_of, node_of}
use Rattle.rules.specs.Form.{record_fits, node_refusal}
use Rattle.rules.specs.Tree.{node_references, bodies, occurrences, reference_refusal, stands_in_tree, place_refusal, tree_refusal, Expr, number, constant, variable, element, size, binary, unary, LValue, whole, entry, Stmt, empty, update, swap, conditional_swap, branch, loop, call, block, nothing, list, body_of, variables, index, indices}
use Rattle.rules.specs.Check.{slow, verdict}
use Rattle.rules.specs.Machine.{Slot, Env, State, Out, done, stop, Command, Found, found, fault, cell_event, noted, holding, after, and_then, inside, load, divided, eval, address, arguments, step_from, step, on_found, reading, next, both, in_order, choose, change, exchange, put, left_first, turns_of, counted, block_end, Calls, first_bound, exec}
use Rattle.rules.specs.Run.{Given, Outcome, room_before, home, store_slots, last_of, env_of, calls_below, entry_refusal, execution, outcome_of, refused_run, run}
use Rattle.laws.specs.Verdicts.{either, then_both, then_first, lowest-passed}
use Rattle.laws.specs.Records.{Sound, sound, body_statement}
use Rattle.laws.specs.Growth.{last}
use Rattle.laws.specs.EntriesForest.{occurrences-append}
use Rattle.laws.specs.EntriesReadings.{Forest, most_reads, Brief, brief_bodies}

-- ---- expressions: no more events than variables

unfoldable written : {A : Type 0} → Found A → ℕ
written (found v t) = length t
written (fault k n t) = length t

written_after : {A : Type 0} (t : List ℕ) (x : Found A) → written (after t x) ≡ length t + written x
unfolding written after
written_after t (found v u) = length-append t u
written_after t (fault k n u) = length-append t u

written_then : {A B : Type 0} (j k m : ℕ) (x : Found A) (f : A → Found B) → j + k ≤ m → written x ≤ j → ((v : A) → written (f v) ≤ k) → written (and_then x f) ≤ m
unfolding written and_then
written_then j k m (found v t) f l X F = let a = F v in rw (written_after t (f v)) (omega arith)
written_then j k m (fault i n t) f l X F = omega arith

written-inside : (n : ℕ) (x : Slot) (v : ℕ) → written (inside n x v) ≤ 0
unfolding written inside
written-inside n x v = either (λ (o : Found ℕ). written o ≤ 0) (ltb v x.cells) _ _ (λ _. omega arith) (λ _. omega arith)

written-divided : (n : ℕ) (o : Binary) (v w : ℕ) → written (divided n o v w) ≤ 0
unfolding written divided
written-divided n o v w = either (λ (x : Found ℕ). written x ≤ 0) (divides o && eqb w 0) _ _ (λ _. omega arith) (λ _. omega arith)

module _ (ρ : Env) (σ : List ℕ) where
  written-eval : (e : Expr) → written (eval ρ σ e) ≤ length (variables e)
  unfolding eval variables written load
  written-eval (number n v) = omega arith
  written-eval (constant n x v) = omega arith
  written-eval (variable n x) = omega arith
  written-eval (element n u x e) =
      written_then (length (variables e)) 1 _ _ _ (omega arith) (written-eval e) (λ v. written_then 0 1 1 _ _ (omega arith) (written-inside n (ρ x) v) (λ i. omega arith))
  written-eval (size n x) = omega arith
  written-eval (binary n o a b) = rw (length-append (variables a) (variables b))
      (written_then (length (variables a)) (length (variables b)) _ _ _ (omega arith) (written-eval a)
      (λ v. written_then (length (variables b)) 0 _ _ _ (omega arith) (written-eval b) (λ w. written-divided n o v w)))
  written-eval (unary n o a) = written_then (length (variables a)) 0 _ _ _ (omega arith) (written-eval a) (λ v. omega arith)

  written-address : (l : LValue) → written (address ρ σ l) ≤ length (index l)
  unfolding address index written
  written-address (whole n x) = omega arith
  written-address (entry n u x e) = written_then (length (variables e)) 0 _ _ _ (omega arith) (written-eval e) (λ v. written-inside n (ρ x) v)

  written-arguments : (ls : List LValue) → written (arguments ρ σ ls) ≤ length (indices ls)
  unfolding arguments indices written
  written-arguments [] = omega arith
  written-arguments (l ∷ ls) = rw (length-append (index l) (indices ls))
      (written_then (length (index l)) (length (indices ls)) _ _ _ (omega arith) (written-address l)
      (λ i. written_then (length (indices ls)) 0 _ _ _ (omega arith) (written-arguments ls) (λ xs. omega arith)))

-- ---- commands

-- The most that a step writes, with its own number, its readings and the cells that it changes.
abbrev allowance : ℕ
allowance = 2 * most_reads

-- How long the trace is and can still grow.
abbrev reach : State → ℕ
reach c = length c.events + allowance * c.left

-- A command that writes at most k events beyond the allowance of the steps it takes.
abbrev Within : ℕ → Command → Type 0
Within k f = (c : State) → reach (last (f c)) ≤ reach c + k

within_done : Within 0 done
unfolding last
within_done c = omega arith

within_stop : (j n : ℕ) → Within 0 (stop j n)
unfolding last
within_stop j n c = omega arith

within_next : (o : Out) (g : Command) → Within 0 g → reach (last (next o g)) ≤ reach (last o)
unfolding next last
within_next (done c) g G = let a = G c in omega arith
within_next (stop k n c) g G = omega arith

within_both : (f g : Command) → Within 0 f → Within 0 g → Within 0 (both f g)
unfolding both
within_both f g F G c = let a = F c in let b = within_next (f c) g G in omega arith

within_choose : (b : Bool) (f g : Command) → Within 0 f → Within 0 g → Within 0 (choose b f g)
unfolding choose
within_choose true f g F G = F
within_choose false f g F G = G

within_step : (n : ℕ) (f : Command) (k : ℕ) → suc k ≤ allowance → Within k f → Within 0 (step n f)
unfolding step
within_step n f k m F c = go c.left refl
  where
    go : (left : ℕ) → c.left ≡ left → reach (last (step_from left n f c)) ≤ reach c + 0
    go zero e = unfold step_from last in omega arith
    go (suc left) e = unfold step_from in
        let a = F (record { memory = c.memory; left = left; events = c.events ++ (n ∷ []) }) in
        let b = length-append c.events (n ∷ []) in
        omega arith

reach-noted : (t : List ℕ) (c : State) → reach (noted t c) ≡ reach c + length t
unfolding noted
reach-noted t c = let a = length-append c.events t in omega arith

within_reading : {A : Type 0} (a : List ℕ → Found A) (f : A → Command) (j k : ℕ) → ((σ : List ℕ) → written (a σ) ≤ j) → ((v : A) → Within k (f v)) → Within (j + k) (reading a f)
unfolding reading
within_reading {A} a f j k W F c = go (a c.memory) (W c.memory)
  where
    go : (x : Found A) → written x ≤ j → reach (last (on_found x f c)) ≤ reach c + (j + k)
    go (found v t) l = unfold on_found written in let b = F v (noted t c) in let d = reach-noted t c in omega arith
    go (fault i n t) l = unfold on_found written last in let d = reach-noted t c in omega arith

within_change : (f : ℕ → ℕ) (i : ℕ) → Within 1 (change f i)
unfolding change noted holding last
within_change f i c = let a = length-append c.events (cell_event i ∷ []) in omega arith

within_exchange : (condition i j : ℕ) → Within 2 (exchange condition i j)
unfolding exchange noted holding last
within_exchange condition i j c = let a = length-append c.events (cell_event i ∷ cell_event j ∷ []) in omega arith

within_put : (i v : ℕ) → Within 0 (put i v)
unfolding put holding last
within_put i v c = omega arith

within_left_first : (n i first : ℕ) (f : Command) → Within 0 f → Within 0 (left_first n i first f)
unfolding left_first
within_left_first n i first f F c = within_choose (eqb (get_or c.memory i 0) first) (stop 28 n) f (within_stop 28 n) F c

within_turns_of : (turns n i first second : ℕ) (f : Command) → Within 0 f → Within 0 (turns_of turns n i first second f)
unfolding turns_of
within_turns_of zero n i first second f F c = within_choose _ done (stop 23 n) within_done (within_stop 23 n) c
within_turns_of (suc turns) n i first second f F c =
    within_choose _ done _ within_done
    (within_step n _ 0 (omega arith) (within_both f _ F (within_left_first n i first _ (within_turns_of turns n i first second f F)))) c

within_counted : (n i first second : ℕ) (f : Command) → Within 0 f → Within 0 (counted n i first second f)
unfolding counted
within_counted n i first second f F = within_both _ _ (within_put i first) (within_both _ _ (λ c. within_turns_of c.left n i first second f F c) (within_put i 0))

within_block_end : (n : ℕ) (ρ : Env) (xs : List ℕ) → Within 0 (block_end n ρ xs)
unfolding block_end
within_block_end n ρ xs c = within_choose _ _ _ (within_choose _ _ _ within_done (within_stop 27 n)) (within_stop 26 n) c

-- ---- statements and procedures

abbrev CallsWithin : Calls → Type 0
CallsWithin calls = (q : ℕ) (d : Direction) (xs : List Slot) → Within 0 (calls q d xs)

module _ (calls : Calls) (G : CallsWithin calls) (ρ : Env) where
  evaluating : (e : Expr) (f : ℕ → Command) (k : ℕ) → ((v : ℕ) → Within k (f v)) → Within (length (variables e) + k) (reading (λ σ. eval ρ σ e) f)
  evaluating e f k F = within_reading (λ σ. eval ρ σ e) f (length (variables e)) k (λ σ. written-eval ρ σ e) F

  addressing : (l : LValue) (f : ℕ → Command) (k : ℕ) → ((v : ℕ) → Within k (f v)) → Within (length (index l) + k) (reading (λ σ. address ρ σ l) f)
  addressing l f k F = within_reading (λ σ. address ρ σ l) f (length (index l)) k (λ σ. written-address ρ σ l) F

  within_exec : (s : Stmt) → Brief s → (d : Direction) → Within 0 (exec calls d ρ s)
  unfolding exec in_order first_bound Brief
  within_exec (empty n) b d = within_step n done 0 (omega arith) within_done
  within_exec (update n o l e) b d = within_step n _ _ (omega arith) (addressing l _ _ (λ i. evaluating e _ _ (λ v. within_change _ i)))
  within_exec (swap n l m) b d = within_step n _ _ (omega arith) (addressing l _ _ (λ i. addressing m _ _ (λ j. within_exchange 1 i j)))
  within_exec (conditional_swap n e l m) b d = within_step n _ _ (omega arith) (evaluating e _ _ (λ v. addressing l _ _ (λ i. addressing m _ _ (λ j. within_exchange v i j))))
  within_exec (branch n e s t) b d = within_step n _ _ (omega arith) (evaluating e _ _ (λ v. within_choose (eqb v 0) _ _ (within_exec t b.2 d) (within_exec s b.1 d)))
  within_exec (loop n x a z s) b forward = within_step n _ _ (omega arith) (evaluating a _ _ (λ v. evaluating z _ _ (λ w. within_counted n _ v w _ (within_exec s b.1 forward))))
  within_exec (loop n x a z s) b inverse = within_step n _ _ (omega arith) (evaluating z _ _ (λ v. evaluating a _ _ (λ w. within_counted n _ v w _ (within_exec s b.1 inverse))))
  within_exec (call n k q ls) b d = within_step n _ _ (omega arith) (within_reading _ _ (length (indices ls)) 0 (λ σ. written-arguments ρ σ ls) (λ xs. G q (turned d k) xs))
  within_exec (block n xs s) b d = within_step n _ 0 (omega arith) (within_both _ _ (within_exec s b d) (within_block_end n ρ xs))
  within_exec nothing b d = within_done
  within_exec (list s t) b forward = within_both _ _ (within_exec s b.0 forward) (within_exec t b.1 forward)
  within_exec (list s t) b inverse = within_both _ _ (within_exec t b.1 inverse) (within_exec s b.0 inverse)

module _ (h : Header) (s : Parts) (F : Forest h s) (homes : Env) where
  within_calls_below : (p : ℕ) → p ≤ h.procedures → CallsWithin (calls_below h s homes p)
  unfolding calls_below
  within_calls_below zero l q d xs = within_done
  within_calls_below (suc p) l q d xs = within_choose (eqb q p) _ _
      (within_exec _ (within_calls_below p (omega arith)) (env_of homes (procedure_of s.procedures p) xs) (body_of h s p) (brief_bodies h s F p (omega arith)) d)
      (within_calls_below p (omega arith) q d xs)

-- ---- the theorem

-- The nodes of an accepted image form a forest whose bodies are statements.
forest : (forbidden : Binary → Bool) (h : Header) (s : Parts) → Sound forbidden h s → Forest h s
unfolding node_refusal tree_refusal reference_refusal place_refusal stands_in_tree
forest forbidden h s S =
    let t = then_both (reference_refusal h s) (place_refusal h s) S.tree in
    let starts = bodies s.procedures 0 h.procedures in
    let referred = node_references s.nodes 0 h.nodes in
    record {
      few = S.few;
      fits = λ n l. lowest-passed 5 (λ n. record_fits h s.nodes n (node_of s.nodes n)) 0 h.nodes (lit< tt) S.nodes n (omega arith) (omega arith);
      once = λ n l.
          let e = eqb→eq (occurrences n (starts ++ referred)) 1 (lowest-passed 6 (λ n. eqb (occurrences n (starts ++ referred)) 1) 0 h.nodes (lit< tt) t.0 n (omega arith) (omega arith)) in
          omega (arith, occurrences-append n starts referred);
      body = body_statement S;
    }

execution-short : (h : Header) (s : Parts) → Forest h s → (g : Given) → reach (last (execution h s g)) ≤ allowance * g.budget
unfolding execution
execution-short h s F g =
    let a = within_calls_below h s F (home h s (length g.store)) h.procedures (omega arith) (h.procedures - 1) g.direction (store_slots s (last_of h s).first 0 g.lengths)
    (record { memory = g.store ++ replicate (room_before h s h.variables) 0; left = g.budget; events = [] }) in
    omega arith

outcome-short : (g : Given) (o : Out) (k : ℕ) → reach (last o) ≤ k → length (outcome_of g o).events ≤ k
unfolding outcome_of last
outcome-short g (done c) k l = omega arith
outcome-short g (stop j n c) k l = omega arith

-- Every run whose budget is "0 to 2^32-1" writes fewer than 2^64 events, so their number fits a 64-bit word.
pub few_events : (g : Given) → g.budget < 2 ^ 32 → length (run g).events < 2 ^ 64
unfolding run refused_run verdict entry_refusal
few_events g l = either (λ (o : Outcome). length o.events < 2 ^ 64) (eqb (entry_refusal g).number 0) _ _
    (λ t. let h = header_of g.image in
    let s = parts_of g.image in
    let F = forest slow h s (sound slow g.image (then_first (verdict g.image) _ (eqb→eq (entry_refusal g).number 0 t))) in
    let a = outcome-short g (execution h s g) (allowance * g.budget) (execution-short h s F g) in
    omega arith)
    (λ t. omega arith)
