-- A call: what its arguments lend, and the body that runs with it.
use Prim.Native.Nat.{ℕ, zero, suc, ◌+◌, ◌≤◌, ◌<◌}
use Rattle.std.specs.Prelude.{◌≡◌, refl, length, get_or, ltb}
use Rattle.std.proofs.Math.Path.{sym, ap}
use Rattle.std.proofs.Common.{ap₂, ◌∙◌, arith}
use mathlib.Core.List.{List, [], ◌∷◌}
use Rattle.std.proofs.Math.Logic.{dite}
use Rattle.std.proofs.Math.Decide.{ℕ_discrete}
use borrow.Author.Tests.{eq-eqb, ne_eqb, ltb-true}
use Rattle.std.proofs.lemmas.Bool.{cond_both}
use Rattle.rules.specs.Words.{Direction}
use Rattle.rules.specs.Image.{Header, Parts, Procedure, procedure_of}
use Rattle.rules.specs.Tree.{LValue, whole, entry, Stmt, body_of}
use Rattle.rules.specs.Machine.{Slot, no_slot, Env, Found, inside, eval, address, lent, arguments, noted, on_found, reading, choose, exec}
use Rattle.rules.specs.Run.{env_of, calls_below}
use Rattle.expressions.specs.Relations.{Table, Run, Traced, Good, Answers, finding, failing, After, Holds, Rows, Apart, Lends}
use Rattle.expressions.specs.Each.{Each, each_then, each_any}
use Rattle.expressions.specs.Names.{WithinL, WithinLs}
use Rattle.expressions.specs.Laws.{reading-refused}
use Rattle.executors.specs.World.{low_of, high_of, World, Stands, Ended, Ran}
use Rattle.executors.specs.Standing.{kept_both, kept_below, called_stands, called_kept}
use Rattle.executors.specs.Ways.{arguments_at, stmt_at, Fine, FineCall, running, calling}

-- A call of a smaller procedure runs its body, with its own names.
pub calls_at : (h : Header) (s : Parts) (homes : Env) (p q : ℕ) → q < p → (d : Direction) (xs : List Slot)
    → calls_below h s homes p q d xs ≡ exec (calls_below h s homes q) d (env_of homes (procedure_of s.procedures q) xs) (body_of h s q)
unfolding calls_below choose
calls_at h s homes zero q l d xs = absurd (omega arith)
calls_at h s homes (suc p) q l d xs =
    dite (ℕ_discrete q p) (λ e. rw (e, eq-eqb p p refl)) (λ ne. rw (ne_eqb q p ne) (calls_at h s homes p q (omega arith) d xs))

-- ---- what the arguments lend

-- As many as there are arguments, and all of them good.
pub record Lent (count : ℕ) (xs : List Slot) : Type 0 where
  pub as_many : length xs ≡ count
  pub good_each : (j : ℕ) → j < length xs → Good (get_or xs j no_slot)

module _ (ρ : Env) (σ : List ℕ) (lo hi : ℕ) (good : (y : ℕ) → lo ≤ y → y < hi → Good (ρ y)) where
  lent-good : (l : LValue) → WithinL lo hi l → Each (λ i. Good (lent ρ l i)) (address ρ σ l)
  unfolding address lent inside WithinL Each
  lent-good (whole n x) w = good x w.low w.high
  lent-good (entry n u x e) w =
      each_then (λ v. Unit {0}) (λ i. Good (lent ρ (entry n u x e) i)) (eval ρ σ e) (inside n (ρ x)) (each_any (eval ρ σ e)) (λ v any. within v)
    where
      within : (v : ℕ) → Each (λ i. Good (lent ρ (entry n u x e) i)) (inside n (ρ x) v)
      within v = cond_both (ltb v (ρ x).cells) _ _ (Each (λ i. Good (lent ρ (entry n u x e) i)))
          (λ t. let g = good x w.0.low w.0.high in record { some = g.some; most = g.most; placed = omega (arith, g.placed, ltb-true v (ρ x).cells t) })
          (λ t. tt)

  pub arguments-lent : (ls : List LValue) → WithinLs lo hi ls → Each (Lent (length ls)) (arguments ρ σ ls)
  unfolding arguments WithinLs Each
  arguments-lent [] w = record { as_many = refl; good_each = λ j l. absurd (omega arith) }
  arguments-lent (l ∷ ls) w =
      each_then (λ i. Good (lent ρ l i)) (Lent (suc (length ls))) (address ρ σ l) _ (lent-good l w.0)
      (λ i g. each_then (Lent (length ls)) (Lent (suc (length ls))) (arguments ρ σ ls) _ (arguments-lent ls w.1)
      (λ xs r. record { as_many = ap suc r.as_many; good_each = each (lent ρ l i) g r }))
    where
      each : (x : Slot) {xs : List Slot} → Good x → Lent (length ls) xs → (j : ℕ) → j < suc (length xs) → Good (get_or (x ∷ xs) j no_slot)
      each x g r zero b = g
      each x g r (suc j) b = r.good_each j (omega arith)

-- ---- the ways through a call

-- The rows of the called procedure's parameters stand before the caller's own.
pub rows_below : {nodes procedures variables constants : List ℕ} (w : World nodes procedures variables constants) {p : ℕ} {slots : Table} {ρ : Env} → Stands w p slots ρ
    → (q a : ℕ) → FineCall w p q a → (y : ℕ) → y ≡ low_of procedures q → y + length (arguments_at w a) ≤ low_of procedures p
rows_below w {p} st q a fine y e = omega (arith, e, fine.as_many, w.apart q p fine.smaller st.mine, w.parameters q (omega (arith, fine.smaller, st.mine)))

module _ {nodes procedures variables constants : List ℕ} (w : World nodes procedures variables constants) {p : ℕ} {slots : Table} {ρ : Env} (st : Stands w p slots ρ)
    (q a : ℕ) (fine : FineCall w p q a) (y : ℕ) (own : y ≡ low_of procedures q)
    (slots₁ : Table) (rows_apart : Apart slots slots₁ y (length (arguments_at w a)))
    (cells trace trace₁ : List ℕ) (run run₁ : Run) (left : run₁.left ≡ run.left)
    (rows-lent : (events : List ℕ) → Traced trace run.entries events → Lends (arguments ρ cells (arguments_at w a)) y events slots₁ trace₁ run₁)
    (d : Direction) where
  as_answered : After run run₁.number run₁.place run₁.entries run₁
  as_answered = record { number_is = refl; place_is = refl; left_is = left; entries_are = refl }

  apart : Apart slots slots₁ (low_of procedures q) (length (arguments_at w a))
  apart = rw own at rows_apart

  lends : (events : List ℕ) → Traced trace run.entries events → Lends (arguments ρ cells (arguments_at w a)) (low_of procedures q) events slots₁ trace₁ run₁
  lends = rw own at rows-lent

  pub call_refused : (run₁.number ≡ 0 → ⊥) → Ran procedures p (calling w p d ρ q a) cells slots trace run cells slots₁ trace₁ run₁
  call_refused ne c h = record {
    is = reading-refused _ c h (λ σ. arguments ρ σ (arguments_at w a)) (lends c.events h.traced) ne as_answered;
    kept = called_kept w st slots₁ q fine.smaller (rw fine.as_many at apart);
  }

  module _ (z : run₁.number ≡ 0) (cells₂ : List ℕ) (slots₂ : Table) (trace₂ : List ℕ) (run₂ : Run) (b : ℕ) (body : b ≡ (procedure_of procedures q).body) (long : length slots₁ ≡ length slots)
      (ran : (ρ' : Env) → Stands w q slots₁ ρ' → Fine w q (stmt_at w b) → Ran procedures q (running w q d ρ' (stmt_at w b)) cells slots₁ trace₁ run₁ cells₂ slots₂ trace₂ run₂) where
    body_is : body_of w.h w.s q ≡ stmt_at w b
    unfolding body_of
    body_is = ap (λ n. stmt_at w n) (ap (λ x. (procedure_of x q).body) w.procedures_are ∙ sym body)

    called_body : (xs : List Slot) → calls_below w.h w.s w.homes p q d xs ≡ running w q d (env_of w.homes (procedure_of procedures q) xs) (stmt_at w b)
    called_body xs =
        calls_at w.h w.s w.homes p q fine.smaller d xs
        ∙ ap₂ (λ (r : Procedure) (t : Stmt). running w q d (env_of w.homes r xs) t) (ap (λ x. procedure_of x q) w.procedures_are) body_is

    pub call_on : Ran procedures p (calling w p d ρ q a) cells slots trace run cells₂ slots₂ trace₂ run₂
    unfolding reading on_found noted Each
    call_on c h =
        let e = go (lends c.events h.traced) (arguments-lent ρ cells (low_of procedures p) (high_of procedures p) st.agree.good (arguments_at w a) fine.within) in
        record {
          is = rw (ap (λ σ. arguments ρ σ (arguments_at w a)) h.memory_is) e.is;
          kept = e.kept;
        }
      where
        go : {F : Found (List Slot)} → Answers (λ xs. Rows slots₁ (low_of procedures q) xs) F c.events trace₁ run₁.number run₁.place run₁.entries
            → Each (Lent (length (arguments_at w a))) F → Ended procedures p (on_found F (calls_below w.h w.s w.homes p q d) c) slots cells₂ slots₂ trace₂ run₂
        go (failing r) e = absurd (omega (arith, z, r.number_is, r.refusal))
        go (finding {v} {t} r) e =
            let here = called_stands w st slots₁ q fine.smaller v (e.as_many ∙ fine.as_many) (rw (← e.as_many) at apart) r.is e.good_each long in
            let holds : Holds (noted t c) cells trace₁ run₁ = record { going = z; memory_is = h.memory_is; left_is = h.left_is ∙ sym left; traced = r.traced } in
            let x = ran _ here (rw (← body_is) (w.within q here.mine)) (noted t c) holds in
            record {
              is = rw (called_body v) x.is;
              kept = kept_both (called_kept w st slots₁ q fine.smaller (rw fine.as_many at apart)) (kept_below fine.smaller x.kept);
            }
