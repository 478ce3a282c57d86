-- The turns of a for: one law for each way out of a turn, and what the loop over them keeps: the loop is its own tail.
use Prim.Native.Nat.{ℕ, zero, suc, ◌-◌, ◌≤◌, ◌<◌}
use Rattle.std.specs.Prelude.{◌≡◌, refl, List, get_or, length}
use Rattle.std.proofs.Math.Path.{sym, ap}
use Rattle.std.proofs.Common.{◌∙◌, arith, eq-eqb, ne_eqb, lit<}
use Rattle.std.proofs.Math.ListN.{set}
use Rattle.std.proofs.Math.Logic.{dite}
use Rattle.std.proofs.Math.Decide.{ℕ_discrete}
use Rattle.rules.specs.Words.{Direction}
use Rattle.rules.specs.Machine.{Env, State, done, stop, Command, holding, step, step_from, next, both, choose, put, left_first, turns_of, counted}
use Rattle.expressions.specs.Relations.{Table, Run, Holds, Matches, is_stopped, Does}
use Rattle.expressions.specs.Laws.{next-refused, step-refused}
use Rattle.executors.specs.World.{World, Stands, Kept, Ended, Ran, Reaches}
use Rattle.executors.specs.Standing.{kept_both, stands_on}
use Rattle.executors.specs.Doing.{goes, both-reaches, step-leads, put-does}
use Rattle.executors.specs.Ways.{stmt_at, Fine, running, looping}
use Rattle.executors.specs.declared.Counting.{Counting}

-- ---- the definition, way by way
module _ (n i first second : ℕ) (f : Command) where
  turns-end : (k : ℕ) (c : State) → get_or c.memory i 0 ≡ second → turns_of k n i first second f c ≡ done c
  unfolding turns_of choose
  turns-end zero c e = rw (eq-eqb _ _ e)
  turns-end (suc k) c e = rw (eq-eqb _ _ e)

  turns-out : (c : State) → (get_or c.memory i 0 ≡ second → ⊥) → turns_of 0 n i first second f c ≡ stop 23 n c
  unfolding turns_of choose
  turns-out c e = rw (ne_eqb _ _ e)

  turns-turn : (k : ℕ) (c : State) → (get_or c.memory i 0 ≡ second → ⊥)
      → turns_of (suc k) n i first second f c ≡ step n (both f (left_first n i first (turns_of k n i first second f))) c
  unfolding turns_of choose
  turns-turn k c e = rw (ne_eqb _ _ e)

left_met : (n i first : ℕ) (g : Command) (c : State) → get_or c.memory i 0 ≡ first → left_first n i first g c ≡ stop 28 n c
unfolding left_first choose
left_met n i first g c e = rw (eq-eqb _ _ e)

left_on : (n i first : ℕ) (g : Command) (c : State) → (get_or c.memory i 0 ≡ first → ⊥) → left_first n i first g c ≡ g c
unfolding left_first choose
left_on n i first g c e = rw (ne_eqb _ _ e)

-- The cells tell the counter of a state that they stand for.
counter-in : (i : ℕ) {c : State} {cells trace : List ℕ} {run : Run} → Holds c cells trace run → get_or c.memory i 0 ≡ get_or cells i 0
counter-in i h = ap (λ σ. get_or σ i 0) h.memory_is

refused : (k n : ℕ) → 0 < k → {c : State} {cells cells' trace : List ℕ} {run : Run} → Holds c cells trace run
    → Matches (stop k n c) cells' trace (record { number = k; place = n; left = run.left; entries = run.entries })
refused k n some h = is_stopped (record { number_is = refl; refusal = some; place_is = refl; left_is = h.left_is; traced = h.traced })

-- Without a step left, no step is taken.
no_step : (n : ℕ) (c : State) → c.left ≡ 0 → step n done c ≡ stop 23 n c
unfolding step step_from
no_step n c e = rw e

-- ---- a turn, from a state in which the counter is not the second bound

-- So many turns at most; and what follows the body in a turn.
abbrev pub turning : Counting → Command → ℕ → Command
turning it body k = turns_of k it.node it.cell it.first it.second body

abbrev rest : Counting → Command → ℕ → Command
rest it body k = left_first it.node it.cell it.first (turning it body k)

module _ (procedures : List ℕ) (p : ℕ) (it : Counting) (body : Command)
    (turns : ℕ) (cells : List ℕ) (slots : Table) (trace : List ℕ) (run : Run) (go : get_or cells it.cell 0 ≡ it.second → ⊥) (c : State) (h : Holds c cells trace run) where
  goes_round : get_or c.memory it.cell 0 ≡ it.second → ⊥
  goes_round e = go (sym (counter-in it.cell h) ∙ e)

  module _ (trace₁ : List ℕ) (run₁ : Run) (begun : Does (step it.node done) cells trace run cells trace₁ run₁) where
    turn_is : (turns ≡ 0 → ⊥) → turning it body turns c ≡ step it.node (both body (rest it body (turns - 1))) c
    turn_is some = let e : turns ≡ suc (turns - 1) = omega arith in
        ap (λ k. turning it body k c) e ∙ turns-turn it.node it.cell it.first it.second body (turns - 1) c goes_round

    -- The budget leaves no turn, or no step.
    pub turn_refused : run.left ≤ turns → (run₁.number ≡ 0 → ⊥) → Ended procedures p (turning it body turns c) slots cells slots trace₁ run₁
    turn_refused enough ne = record {
      is = dite (ℕ_discrete turns 0)
          (λ z. rw (z, turns-out it.node it.cell it.first it.second body c goes_round, ← no_step it.node c (omega (arith, h.left_is, enough, z))) (begun c h))
          (λ some. rw (turn_is some) (step-refused it.node (both body (rest it body (turns - 1))) begun ne c h));
      kept = record { row = λ y u. refl };
    }

    module _ (some : turns ≡ 0 → ⊥) (z : run₁.number ≡ 0) (cells₂ : List ℕ) (slots₂ : Table) (trace₂ : List ℕ) (run₂ : Run) (ran : Ran procedures p body cells slots trace₁ run₁ cells₂ slots₂ trace₂ run₂) where
      reached : Reaches (step it.node (both body (rest it body (turns - 1)))) c (both body (rest it body (turns - 1))) cells trace₁ run₁
      reached = step-leads it.node (both body (rest it body (turns - 1))) begun z c h

      ended : Ended procedures p (body reached.to) slots cells₂ slots₂ trace₂ run₂
      ended = ran reached.to reached.holds

      pub body_refused : (run₂.number ≡ 0 → ⊥) → Ended procedures p (turning it body turns c) slots cells₂ slots₂ trace₂ run₂
      unfolding both
      body_refused ne = record { is = rw (turn_is some ∙ reached.same) (next-refused (rest it body (turns - 1)) ended.is ne); kept = ended.kept }

      module _ (y : run₂.number ≡ 0) where
        behind : Reaches (both body (rest it body (turns - 1))) reached.to (rest it body (turns - 1)) cells₂ trace₂ run₂
        behind = both-reaches body (rest it body (turns - 1)) (goes ended.is y)

        -- 28: the counter has met its first bound.
        pub met_first : get_or cells₂ it.cell 0 ≡ it.first
            → Ended procedures p (turning it body turns c) slots cells₂ slots₂ trace₂ (record { number = 28; place = it.node; left = run₂.left; entries = run₂.entries })
        met_first e = record {
          is = rw (turn_is some ∙ reached.same ∙ behind.same
              ∙ left_met it.node it.cell it.first (turning it body (turns - 1)) behind.to (counter-in it.cell behind.holds ∙ e))
              (refused 28 it.node (lit< tt) behind.holds);
          kept = ended.kept;
        }

        pub record Again : Type 0 where
          pub state : State
          pub holds : Holds state cells₂ trace₂ run₂
          pub kept : Kept procedures p slots slots₂
          pub same : turning it body turns c ≡ turning it body (turns - 1) state

        -- One turn less is left.
        pub turn_on : (get_or cells₂ it.cell 0 ≡ it.first → ⊥) → Again
        turn_on ne = record {
          state = behind.to;
          holds = behind.holds;
          kept = ended.kept;
          same = turn_is some ∙ reached.same ∙ behind.same
              ∙ left_on it.node it.cell it.first (turning it body (turns - 1)) behind.to (λ e. ne (sym (counter-in it.cell behind.holds) ∙ e));
        }

-- ---- the loop over the turns

module _ {nodes procedures variables constants : List ℕ} (w : World nodes procedures variables constants) (p : ℕ) (d : Direction) (ρ : Env) (it : Counting) where
  -- The turns of the for.
  abbrev pub turns_from : ℕ → Command
  turns_from k = turning it (running w p d ρ (stmt_at w it.body)) k

  -- All turns from the state c are the turns that are left from a state that the numbers now stand for.
  pub record Turning (c : State) (slots₀ : Table) (turns : ℕ) (cells : List ℕ) (slots : Table) (trace : List ℕ) (run : Run) : Type 0 where
    pub state : State
    pub holds : Holds state cells trace run
    pub kept : Kept procedures p slots₀ slots
    pub same : turns_from c.left c ≡ turns_from turns state

-- What the loop keeps, whatever the program is and wherever its names live.
abbrev pub Turned : List ℕ → List ℕ → List ℕ → List ℕ → Direction → ℕ → Counting → List ℕ → Table → List ℕ → Run → ℕ → List ℕ → Table → List ℕ → Run → Type 0
Turned nodes procedures variables constants d p it cells₀ slots₀ trace₀ run₀ turns cells slots trace run =
    (w : World nodes procedures variables constants) (ρ : Env) → Stands w p slots₀ ρ → Fine w p (stmt_at w it.body)
    → (c : State) → Holds c cells₀ trace₀ run₀ → Turning w p d ρ it c slots₀ turns cells slots trace run

-- The loop's invariant: no fewer turns than steps are left, the rows are as many, and the loop is its own tail.
pub record Keeps (nodes procedures variables constants : List ℕ) (d : Direction) (p : ℕ) (it : Counting) (cells₀ : List ℕ) (slots₀ : Table) (trace₀ : List ℕ) (run₀ : Run)
    (cells : List ℕ) (slots : Table) (trace : List ℕ) (run : Run) : Type 0 where
  pub turns : ℕ
  pub enough : run.left ≤ turns
  pub slots_long : length slots ≡ length slots₀
  pub turned : Turned nodes procedures variables constants d p it cells₀ slots₀ trace₀ run₀ turns cells slots trace run

module _ {nodes procedures variables constants : List ℕ} (d : Direction) (p : ℕ) (it : Counting) where
  pub turned-starts : (cells : List ℕ) (slots : Table) (trace : List ℕ) (run : Run) → Turned nodes procedures variables constants d p it cells slots trace run run.left cells slots trace run
  turned-starts cells slots trace run w ρ st fine c h = record { state = c; holds = h; kept = record { row = λ y u. refl }; same = ap (λ k. turns_from w p d ρ it k c) h.left_is }

  module _ {cells₀ : List ℕ} {slots₀ : Table} {trace₀ : List ℕ} {run₀ : Run} (turns : ℕ) (cells : List ℕ) (slots : Table) (trace : List ℕ) (run : Run)
      (inv : Turned nodes procedures variables constants d p it cells₀ slots₀ trace₀ run₀ turns cells slots trace run)
      (long : length slots ≡ length slots₀) where
    -- A turn that goes round leaves one turn less.
    pub turned_on : (go : get_or cells it.cell 0 ≡ it.second → ⊥) (some : turns ≡ 0 → ⊥)
        (trace₁ : List ℕ) (run₁ : Run) → Does (step it.node done) cells trace run cells trace₁ run₁ → run₁.number ≡ 0
        → (cells₂ : List ℕ) (slots₂ : Table) (trace₂ : List ℕ) (run₂ : Run)
        → ((w : World nodes procedures variables constants) (ρ : Env) → Stands w p slots ρ → Fine w p (stmt_at w it.body)
        → Ran procedures p (running w p d ρ (stmt_at w it.body)) cells slots trace₁ run₁ cells₂ slots₂ trace₂ run₂)
        → run₂.number ≡ 0 → (get_or cells₂ it.cell 0 ≡ it.first → ⊥)
        → Turned nodes procedures variables constants d p it cells₀ slots₀ trace₀ run₀ (turns - 1) cells₂ slots₂ trace₂ run₂
    turned_on go some trace₁ run₁ begun z cells₂ slots₂ trace₂ run₂ ran y ne w ρ st fine c h =
        let x = inv w ρ st fine c h in
        let a = turn_on procedures p it (running w p d ρ (stmt_at w it.body)) turns cells slots trace run go x.state x.holds trace₁ run₁ begun some z
        cells₂ slots₂ trace₂ run₂ (ran w ρ (stands_on w st slots x.kept long) fine) y ne in
        record { state = a.state; holds = a.holds; kept = kept_both x.kept a.kept; same = x.same ∙ a.same }

    module _ (cells' : List ℕ) (start : cells₀ ≡ set cells' it.cell it.first) (w : World nodes procedures variables constants) (ρ : Env)
        (st : Stands w p slots₀ ρ) (fine : Fine w p (stmt_at w it.body)) where
      abbrev starting : State → State
      starting c = holding (set c.memory it.cell it.first) c

      starts : (c : State) → Holds c cells' trace₀ run₀ → Holds (starting c) cells₀ trace₀ run₀
      unfolding holding
      starts c h = record { going = h.going; memory_is = ap (λ σ. set σ it.cell it.first) h.memory_is ∙ sym start; left_is = h.left_is; traced = h.traced }

      turning-at : (c : State) → Holds c cells' trace₀ run₀ → Turning w p d ρ it (starting c) slots₀ turns cells slots trace run
      turning-at c h = inv w ρ st fine (starting c) (starts c h)

      -- The for, once its turns are begun, is the turns that are left, and the counter's reset.
      loop_is : (c : State) (h : Holds c cells' trace₀ run₀) → looping w p d ρ it c ≡ next (turns_from w p d ρ it turns (turning-at c h).state) (put it.cell 0)
      unfolding counted both put next holding
      loop_is c h = ap (λ o. next o (put it.cell 0)) (turning-at c h).same

      -- A refusal in a turn is the for's.
      pub loop_stops : (cells₂ : List ℕ) (slots₂ : Table) (trace₂ : List ℕ) (run₂ : Run) → (run₂.number ≡ 0 → ⊥)
          → (Stands w p slots ρ → (c : State) → Holds c cells trace run → Ended procedures p (turns_from w p d ρ it turns c) slots cells₂ slots₂ trace₂ run₂)
          → Ran procedures p (looping w p d ρ it) cells' slots₀ trace₀ run₀ cells₂ slots₂ trace₂ run₂
      loop_stops cells₂ slots₂ trace₂ run₂ ne stops c h =
          let x = turning-at c h in
          let e = stops (stands_on w st slots x.kept long) x.state x.holds in
          record { is = rw (loop_is c h) (next-refused (put it.cell 0) e.is ne); kept = kept_both x.kept e.kept }

      -- "while it differs from the second": the turns end, and the counter "is set to 0".
      pub loop_ends : get_or cells it.cell 0 ≡ it.second → (cells₂ : List ℕ) → cells₂ ≡ set cells it.cell 0
          → Ran procedures p (looping w p d ρ it) cells' slots₀ trace₀ run₀ cells₂ slots trace run
      unfolding next
      loop_ends e cells₂ reset c h =
          let x = turning-at c h in
          let t = turns-end it.node it.cell it.first it.second (running w p d ρ (stmt_at w it.body)) turns x.state (counter-in it.cell x.holds ∙ e) in
          record { is = rw (loop_is c h, t) (put-does it.cell 0 reset x.state x.holds); kept = x.kept }
