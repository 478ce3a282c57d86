-- Whatever a run meets has a number from 23 to 28: so a run whose number is 0 was done.
use Rattle.std.specs.Prelude.{ℕ, zero, suc, ◌+◌, ◌≤◌, List, [], ◌∷◌, Bool, true, false, cond, ◌&&◌, get_or, eqb, ltb}
use Rattle.std.proofs.Common.{lit≤}
use Rattle.rules.specs.Words.{Direction, forward, inverse, turned, Binary, operate, divides}
use Rattle.rules.specs.Image.{Header, Parts}
use Rattle.rules.specs.Tree.{Expr, number, constant, variable, element, size, binary, unary, LValue, whole, entry, Stmt, empty, update, swap, conditional_swap, branch, loop, call, block, nothing, list}
use Rattle.rules.specs.Machine.{Slot, Env, State, Out, done, stop, Command, Found, found, fault, after, and_then, inside, load, divided, eval, address, arguments, step_from, step, on_found, reading, next, both, in_order, choose, change, exchange, put, left_first, turns_of, counted, cleared, block_end, Calls, first_bound, exec}
use Rattle.rules.specs.Run.{calls_below}

abbrev pub Late : ℕ → Type 0
Late k = (23 ≤ k) × (k ≤ 28)

-- What is found, if it is a fault, has such a number; and so has what a command refuses with.
unfoldable pub Faults : {A : Type 0} → Found A → Type 0
Faults (found v t) = Unit {0}
Faults (fault k n t) = Late k

unfoldable pub Stops : Out → Type 0
Stops (done c) = Unit {0}
Stops (stop k n c) = Late k

abbrev pub Refuses : Command → Type 0
Refuses f = (c : State) → Stops (f c)

-- ---- findings

faults_then : {A B : Type 0} (a : Found A) (f : A → Found B) → Faults a → ((v : A) → Faults (f v)) → Faults (and_then a f)
unfolding and_then after Faults
faults_then {A} {B} (found v t) f h g = later (f v) (g v)
  where
    later : (b : Found B) → Faults b → Faults (after t b)
    later (found w u) k = tt
    later (fault k n u) l = l
faults_then (fault k n t) f h g = h

faults_inside : (n : ℕ) (x : Slot) (v : ℕ) → Faults (inside n x v)
unfolding inside Faults
faults_inside n x v = go (ltb v x.cells) x.base
  where
    go : (b : Bool) (base : ℕ) → Faults (cond b (found (base + v) []) (fault 24 n []))
    go true base = tt
    go false base = (lit≤ tt, lit≤ tt)

faults_divided : (n : ℕ) (o : Binary) (v w : ℕ) → Faults (divided n o v w)
unfolding divided Faults
faults_divided n o v w = go (divides o && eqb w 0)
  where
    go : (b : Bool) → Faults (cond b (fault 25 n []) (found (operate o v w) []))
    go true = (lit≤ tt, lit≤ tt)
    go false = tt

faults_eval : (ρ : Env) (σ : List ℕ) (e : Expr) → Faults (eval ρ σ e)
unfolding eval load Faults
faults_eval ρ σ (number n v) = tt
faults_eval ρ σ (constant n x v) = tt
faults_eval ρ σ (variable n x) = tt
faults_eval ρ σ (element n u x e) = faults_then (eval ρ σ e) _ (faults_eval ρ σ e) (λ v. faults_then (inside n (ρ x) v) (load σ) (faults_inside n (ρ x) v) (λ i. tt))
faults_eval ρ σ (size n x) = tt
faults_eval ρ σ (binary n o a b) = faults_then (eval ρ σ a) _ (faults_eval ρ σ a) (λ v. faults_then (eval ρ σ b) (divided n o v) (faults_eval ρ σ b) (faults_divided n o v))
faults_eval ρ σ (unary n o a) = faults_then (eval ρ σ a) _ (faults_eval ρ σ a) (λ v. tt)

faults_address : (ρ : Env) (σ : List ℕ) (l : LValue) → Faults (address ρ σ l)
unfolding address Faults
faults_address ρ σ (whole n x) = tt
faults_address ρ σ (entry n u x e) = faults_then (eval ρ σ e) (inside n (ρ x)) (faults_eval ρ σ e) (faults_inside n (ρ x))

faults_arguments : (ρ : Env) (σ : List ℕ) (ls : List LValue) → Faults (arguments ρ σ ls)
unfolding arguments Faults
faults_arguments ρ σ [] = tt
faults_arguments ρ σ (l ∷ ls) = faults_then (address ρ σ l) _ (faults_address ρ σ l) (λ i. faults_then (arguments ρ σ ls) _ (faults_arguments ρ σ ls) (λ xs. tt))

-- ---- commands

refuses_step : (n : ℕ) (f : Command) → Refuses f → Refuses (step n f)
unfolding step step_from Stops
refuses_step n f h c = go c.left
  where
    go : (l : ℕ) → Stops (step_from l n f c)
    go zero = (lit≤ tt, lit≤ tt)
    go (suc l) = h _

refuses_reading : {A : Type 0} (a : List ℕ → Found A) (f : A → Command) → ((σ : List ℕ) → Faults (a σ)) → ((v : A) → Refuses (f v)) → Refuses (reading a f)
unfolding reading on_found Faults Stops
refuses_reading {A} a f h g c = go (a c.memory) (h c.memory)
  where
    go : (r : Found A) → Faults r → Stops (on_found r f c)
    go (found v t) k = g v _
    go (fault k n t) l = l

refuses_both : (f g : Command) → Refuses f → Refuses g → Refuses (both f g)
unfolding both next Stops
refuses_both f g h k c = go (f c) (h c)
  where
    go : (o : Out) → Stops o → Stops (next o g)
    go (done c') l = k c'
    go (stop m n c') l = l

refuses_choose : (b : Bool) (f g : Command) → Refuses f → Refuses g → Refuses (choose b f g)
unfolding choose
refuses_choose true f g h k = h
refuses_choose false f g h k = k

refuses_turns : (turns n i first second : ℕ) (f : Command) → Refuses f → Refuses (turns_of turns n i first second f)
unfolding turns_of left_first Stops
refuses_turns zero n i first second f h c = refuses_choose (eqb (get_or c.memory i 0) second) done (stop 23 n) (λ _. tt) (λ _. (lit≤ tt, lit≤ tt)) c
refuses_turns (suc turns) n i first second f h c =
    refuses_choose (eqb (get_or c.memory i 0) second) done _ (λ _. tt)
    (refuses_step n (both f (left_first n i first (turns_of turns n i first second f))) (refuses_both f (left_first n i first (turns_of turns n i first second f)) h
    (λ d. refuses_choose (eqb (get_or d.memory i 0) first) (stop 28 n) (turns_of turns n i first second f) (λ _. (lit≤ tt, lit≤ tt)) (refuses_turns turns n i first second f h) d))) c

refuses_counted : (n i first second : ℕ) (f : Command) → Refuses f → Refuses (counted n i first second f)
unfolding counted put Stops
refuses_counted n i first second f h =
    refuses_both (put i first) _ (λ _. tt) (refuses_both (λ c. turns_of c.left n i first second f c) (put i 0) (λ c. refuses_turns c.left n i first second f h c) (λ _. tt))

refuses_block_end : (n : ℕ) (ρ : Env) (xs : List ℕ) → Refuses (block_end n ρ xs)
unfolding block_end Stops
refuses_block_end n ρ xs c =
    refuses_choose (cleared false ρ xs c.memory) (choose (cleared true ρ xs c.memory) done (stop 27 n)) (stop 26 n)
    (refuses_choose (cleared true ρ xs c.memory) done (stop 27 n) (λ _. tt) (λ _. (lit≤ tt, lit≤ tt))) (λ _. (lit≤ tt, lit≤ tt)) c

module _ (calls : Calls) (called : (q : ℕ) (d : Direction) (xs : List Slot) → Refuses (calls q d xs)) where
  refuses_exec : (d : Direction) (ρ : Env) (t : Stmt) → Refuses (exec calls d ρ t)
  unfolding exec change exchange in_order Stops
  refuses_exec d ρ (empty n) = refuses_step n done (λ _. tt)
  refuses_exec d ρ (update n o l e) = refuses_step n _ (refuses_reading (λ σ. address ρ σ l) _ (λ σ. faults_address ρ σ l) (λ i.
      refuses_reading (λ σ. eval ρ σ e) _ (λ σ. faults_eval ρ σ e) (λ v _. tt)))
  refuses_exec d ρ (swap n l m) = refuses_step n _ (refuses_reading (λ σ. address ρ σ l) _ (λ σ. faults_address ρ σ l) (λ i.
      refuses_reading (λ σ. address ρ σ m) _ (λ σ. faults_address ρ σ m) (λ j _. tt)))
  refuses_exec d ρ (conditional_swap n e l m) = refuses_step n _ (refuses_reading (λ σ. eval ρ σ e) _ (λ σ. faults_eval ρ σ e) (λ v.
      refuses_reading (λ σ. address ρ σ l) _ (λ σ. faults_address ρ σ l) (λ i. refuses_reading (λ σ. address ρ σ m) _ (λ σ. faults_address ρ σ m) (λ j _. tt))))
  refuses_exec d ρ (branch n e t u) = refuses_step n _ (refuses_reading (λ σ. eval ρ σ e) _ (λ σ. faults_eval ρ σ e) (λ v.
      refuses_choose (eqb v 0) (exec calls d ρ u) (exec calls d ρ t) (refuses_exec d ρ u) (refuses_exec d ρ t)))
  refuses_exec d ρ (loop n x a b t) = refuses_step n _ (refuses_reading (λ σ. eval ρ σ (first_bound d a b)) _ (λ σ. faults_eval ρ σ (first_bound d a b)) (λ v.
      refuses_reading (λ σ. eval ρ σ (first_bound d b a)) _ (λ σ. faults_eval ρ σ (first_bound d b a)) (λ w. refuses_counted n (ρ x).base v w (exec calls d ρ t) (refuses_exec d ρ t))))
  refuses_exec d ρ (call n k q ls) = refuses_step n _ (refuses_reading (λ σ. arguments ρ σ ls) _ (λ σ. faults_arguments ρ σ ls) (called q (turned d k)))
  refuses_exec d ρ (block n xs t) = refuses_step n _ (refuses_both (exec calls d ρ t) (block_end n ρ xs) (refuses_exec d ρ t) (refuses_block_end n ρ xs))
  refuses_exec d ρ nothing = λ _. tt
  refuses_exec forward ρ (list t u) = refuses_both (exec calls forward ρ t) (exec calls forward ρ u) (refuses_exec forward ρ t) (refuses_exec forward ρ u)
  refuses_exec inverse ρ (list t u) = refuses_both (exec calls inverse ρ u) (exec calls inverse ρ t) (refuses_exec inverse ρ u) (refuses_exec inverse ρ t)

pub refuses_calls : (h : Header) (s : Parts) (homes : Env) (p q : ℕ) (d : Direction) (xs : List Slot) → Refuses (calls_below h s homes p q d xs)
unfolding calls_below Stops
refuses_calls h s homes zero q d xs = λ _. tt
refuses_calls h s homes (suc p) q d xs = refuses_choose (eqb q p) _ _ (refuses_exec (calls_below h s homes p) (refuses_calls h s homes p) d _ _) (refuses_calls h s homes p q d xs)
