-- How what the code does is put together: a step, what is worked out, one command after another.
use Rattle.std.specs.Prelude.{ℕ, zero, suc, ◌≡◌, refl, List, set}
use Rattle.std.proofs.Common.{sym, ap, ◌∙◌, arith}
use Rattle.rules.specs.Machine.{State, Out, done, Command, Found, noted, holding, step, step_from, on_found, reading, next, both, put}
use Rattle.expressions.specs.Relations.{Table, Run, Valued, Answers, finding, failing, Gets, After, Holds, Matches, goes_on, is_stopped, Does}
use Rattle.executors.specs.World.{Ran, Reaches, Leads}

module _ {procedures : List ℕ} {p : ℕ} where
  -- What writes no rows.
  pub finished : {f : Command} {cells : List ℕ} {slots : Table} {trace cells' trace' : List ℕ} {run run' : Run} → Does f cells trace run cells' trace' run'
      → Ran procedures p f cells slots trace run cells' slots trace' run'
  finished d c h = record { is = d c h; kept = record { row = λ y u. refl } }

  pub led : {f g : Command} {cells : List ℕ} {slots : Table} {trace cells₁ trace₁ cells' : List ℕ} {slots' : Table} {trace' : List ℕ} {run run₁ run' : Run}
      → Leads f cells trace run g cells₁ trace₁ run₁ → Ran procedures p g cells₁ slots trace₁ run₁ cells' slots' trace' run'
      → Ran procedures p f cells slots trace run cells' slots' trace' run'
  led l r c h = let x = l c h in let e = r x.to x.holds in record { is = rw x.same e.is; kept = e.kept }

  pub ran-same : {f g : Command} {cells : List ℕ} {slots : Table} {trace cells' : List ℕ} {slots' : Table} {trace' : List ℕ} {run run' : Run} → f ≡ g
      → Ran procedures p g cells slots trace run cells' slots' trace' run' → Ran procedures p f cells slots trace run cells' slots' trace' run'
  ran-same e r c h = let x = r c h in record { is = rw (ap (λ k. k c) e) x.is; kept = x.kept }

-- One way after another.
pub leads_on : {f g k : Command} {cells trace cells₁ trace₁ cells₂ trace₂ : List ℕ} {run run₁ run₂ : Run}
    → Leads f cells trace run g cells₁ trace₁ run₁ → Leads g cells₁ trace₁ run₁ k cells₂ trace₂ run₂ → Leads f cells trace run k cells₂ trace₂ run₂
leads_on l m c h = let x = l c h in let y = m x.to x.holds in record { to = y.to; holds = y.holds; same = x.same ∙ y.same }

-- Where a run goes on, its state is known.
pub record On (o : Out) (cells trace : List ℕ) (run : Run) : Type 0 where
  pub state : State
  pub holds : Holds state cells trace run
  pub is : o ≡ done state

pub goes : {o : Out} {cells trace : List ℕ} {run : Run} → Matches o cells trace run → run.number ≡ 0 → On o cells trace run
goes (goes_on h) z = record { state = _; holds = h; is = refl }
goes (is_stopped r) z = absurd (omega (arith, z, r.number_is, r.refusal))

-- Once the first of two is done.
pub both-reaches : (f g : Command) {c : State} {cells trace : List ℕ} {run : Run} → On (f c) cells trace run → Reaches (both f g) c g cells trace run
unfolding both next
both-reaches f g x = record { to = x.state; holds = x.holds; same = rw x.is }

step_from_lem : (n : ℕ) (f : Command) (c : State) (left : ℕ) (c₁ : State) → step_from left n done c ≡ done c₁ → step_from left n f c ≡ f c₁
unfolding step_from
step_from_lem n f c zero c₁ e = cc
step_from_lem n f c (suc left) c₁ e = cc

-- Once the step is taken.
pub step-leads : (n : ℕ) (f : Command) {cells trace trace₁ : List ℕ} {run run₁ : Run} → Does (step n done) cells trace run cells trace₁ run₁ → run₁.number ≡ 0
    → Leads (step n f) cells trace run f cells trace₁ run₁
unfolding step
step-leads n f d z c h = let x = goes (d c h) z in record { to = x.state; holds = x.holds; same = step_from_lem n f c c.left x.state x.is }

-- Once a value is known.
pub value_leads : (F : List ℕ → Found ℕ) (f : ℕ → Command) {cells trace trace₁ : List ℕ} {run run₁ : Run} (v : Valued)
    → Gets (F cells) trace run.entries trace₁ v → After run v.number v.place v.entries run₁ → v.number ≡ 0
    → Leads (reading F f) cells trace run (f v.value) cells trace₁ run₁
unfolding reading on_found noted
value_leads F f {cells} {trace} {trace₁} {run} {run₁} v g a z c h =
    let x = go (g c.events h.traced) in record { to = x.to; holds = x.holds; same = ap (λ σ. on_found (F σ) f c) h.memory_is ∙ x.same }
  where
    go : {A : Found ℕ} → Answers (λ w. v.value ≡ w) A c.events trace₁ v.number v.place v.entries → Reaches (on_found A f) c (f v.value) cells trace₁ run₁
    go (finding {t} r) = record {
      to = noted t c;
      holds = record { going = a.number_is ∙ z; memory_is = h.memory_is; left_is = h.left_is ∙ sym a.left_is; traced = rw a.entries_are r.traced };
      same = rw r.is;
    }
    go (failing r) = absurd (omega (arith, z, r.number_is, r.refusal))

-- A value put into a cell.
pub put-does : (i v : ℕ) {cells trace cells' : List ℕ} {run : Run} → cells' ≡ set cells i v → Does (put i v) cells trace run cells' trace run
unfolding put holding
put-does i v e c m = goes_on (record { going = m.going; memory_is = ap (λ x. set x i v) m.memory_is ∙ sym e; left_is = m.left_is; traced = m.traced })
