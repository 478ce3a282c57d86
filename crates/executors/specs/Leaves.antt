-- One law for each case of a node, once its step is taken: what is done, or what is left to do.
use Rattle.std.specs.Prelude.{ℕ, ◌≡◌, refl, List, Bool, true, false, not, eqb, Ok, Err}
use Rattle.std.proofs.Common.{sym, ap, ◌∙◌, eq-eqb, ne_eqb}
use Rattle.rules.specs.Words.{Direction, forward, inverse, opposite, turned, update_of}
use Rattle.rules.specs.Tree.{Expr, range}
use Rattle.rules.specs.Machine.{Slot, Env, Command, eval, reading, choose, counted, first_bound}
use Rattle.records.specs.Cases.{place_of, Means}
use Rattle.records.specs.declared.LValue as case
use Rattle.records.specs.declared.LValue.TheVariants.{Variable, Element, Unsafe}
use Rattle.records.specs.declared.Node.TheVariants.{Empty, Update, Swap, ConditionalSwap, If, For, Call, Uncall, Block}
use Rattle.expressions.specs.Relations.{Table, Run, Valued, slot_of, Good, root_of, Gets, goes_on, Does, direction_of}
use Rattle.expressions.specs.Names.{In, WithinE, WithinL, WithinXs, Within}
use Rattle.expressions.specs.Commands.{updating, exchanging, exchanging_if}
use Rattle.expressions.specs.Results.{reads_refused}
use Rattle.expressions.specs.Standing.{valued, ran}
use Rattle.records.specs.declared.refusal.Refusal.{Refusal}
use Rattle.expressions.specs.Agreement.{eval-same, updating-same, exchanging-same, exchanging_if-same}
use Rattle.executors.specs.World.{low_of, high_of, World, Stands, Leads}
use Rattle.executors.specs.Doing.{value_leads, leads_on}
use Rattle.executors.specs.Ways.{performing, expr_at, stmt_at, stmts_at, Fine, FineCall, running, performed, calling, looping, deciding, bounding, closing}

-- An uncall turns the direction.
pub direction_kept : (b : Bool) → direction_of b ≡ turned (direction_of b) forward
unfolding direction_of turned opposite
direction_kept true = refl
direction_kept false = refl

pub direction_turned : (b : Bool) → direction_of (not b) ≡ turned (direction_of b) inverse
unfolding direction_of turned opposite
direction_turned true = refl
direction_turned false = refl

module _ {nodes procedures variables constants : List ℕ} (w : World nodes procedures variables constants) {p : ℕ} {slots : Table} {ρ : Env} (st : Stands w p slots ρ) where
  abbrev lo : ℕ
  lo = low_of procedures p

  abbrev hi : ℕ
  hi = high_of procedures p

  root_in : (l : case.LValue) → WithinL lo hi (place_of w.h w.s l) → In lo hi (root_of l)
  unfolding WithinL
  root_in (Variable n x) i = i
  root_in (Element n x e) i = i.0
  root_in (Unsafe n x e) i = i.0

  -- What an update changes lies in a good slot.
  root-good : (l : case.LValue) → WithinL lo hi (place_of w.h w.s l) → Good (slot_of slots (root_of l))
  root-good l i = let x = root_in l i in rw (st.agree.rows (root_of l) x.low x.high) (st.agree.good (root_of l) x.low x.high)

  eval-agrees : (e : Expr) → WithinE lo hi e → (σ : List ℕ) → eval (slot_of slots) σ e ≡ eval ρ σ e
  eval-agrees e i σ = eval-same (slot_of slots) ρ lo hi st.agree.rows σ e i

  -- ---- what is done

  module _ (d : Direction) (n : ℕ) (fine : Fine w p (stmt_at w n)) {cells trace : List ℕ} {run : Run} where
    pub empty-done : Means w.h w.s n Empty → Does (performed w p d ρ (stmt_at w n)) cells trace run cells trace run
    unfolding performing
    empty-done m = rw m (λ c h. goes_on h)

    module _ {cells' trace' : List ℕ} {run' : Run} where
      pub update_done : (l : case.LValue) (v o : ℕ) → Means w.h w.s n (Update l v o)
          → (Good (slot_of slots (root_of l)) → Does (updating (slot_of slots) d (update_of o) (place_of w.h w.s l) (expr_at w v)) cells trace run cells' trace' run')
          → Does (performed w p d ρ (stmt_at w n)) cells trace run cells' trace' run'
      unfolding performing Within
      update_done l v o m leaf =
          let i = rw m at fine in
          rw (m, ← updating-same (slot_of slots) ρ lo hi st.agree.rows d (update_of o) (place_of w.h w.s l) (expr_at w v) i.0 i.1) (leaf (root-good l i.0))

      pub swap_done : (l k : case.LValue) → Means w.h w.s n (Swap l k)
          → Does (exchanging (slot_of slots) 1 (place_of w.h w.s l) (place_of w.h w.s k)) cells trace run cells' trace' run'
          → Does (performed w p d ρ (stmt_at w n)) cells trace run cells' trace' run'
      unfolding performing Within
      swap_done l k m leaf =
          let i = rw m at fine in
          rw (m, ← exchanging-same (slot_of slots) ρ lo hi st.agree.rows (place_of w.h w.s l) (place_of w.h w.s k) i.0 i.1 1) leaf

      pub conditional_done : (l k : case.LValue) (e : ℕ) → Means w.h w.s n (ConditionalSwap l k e)
          → Does (exchanging_if (slot_of slots) (expr_at w e) (place_of w.h w.s l) (place_of w.h w.s k)) cells trace run cells' trace' run'
          → Does (performed w p d ρ (stmt_at w n)) cells trace run cells' trace' run'
      unfolding performing Within
      conditional_done l k e m leaf =
          let i = rw m at fine in
          rw (m, ← exchanging_if-same (slot_of slots) ρ lo hi st.agree.rows (expr_at w e) (place_of w.h w.s l) (place_of w.h w.s k) i.0 i.1 i.2) leaf

    -- ---- what is left

    same-leads : (f : Command) → f ≡ performed w p d ρ (stmt_at w n) → Leads (performed w p d ρ (stmt_at w n)) cells trace run f cells trace run
    same-leads f e c h = record { to = c; holds = h; same = ap (λ g. g c) (sym e) }

  module _ (b : Bool) (n : ℕ) (fine : Fine w p (stmt_at w n)) {cells trace : List ℕ} {run : Run} (q a : ℕ) where
    pub call_left : Means w.h w.s n (Call q a) → FineCall w p q a × Leads (performed w p (direction_of b) ρ (stmt_at w n)) cells trace run (calling w p (direction_of b) ρ q a) cells trace run
    unfolding performing Within
    call_left m = (rw m at fine, same-leads (direction_of b) n fine _ (rw (m, ← direction_kept b)))

    pub uncall_left : Means w.h w.s n (Uncall q a) → FineCall w p q a × Leads (performed w p (direction_of b) ρ (stmt_at w n)) cells trace run (calling w p (direction_of (not b)) ρ q a) cells trace run
    unfolding performing Within
    uncall_left m = (rw m at fine, same-leads (direction_of b) n fine _ (rw (m, ← direction_turned b)))

  module _ (d : Direction) (n : ℕ) (fine : Fine w p (stmt_at w n)) {cells trace : List ℕ} {run : Run} where
    pub block-left : (x count m : ℕ) → Means w.h w.s n (Block x count m)
        → (WithinXs lo hi (range x count) × Fine w p (stmts_at w m)) × Leads (performed w p d ρ (stmt_at w n)) cells trace run (closing w p d ρ n x count m) cells trace run
    unfolding performing Within
    block-left x count m e = (rw e at fine, same-leads d n fine _ (rw e))

  module _ (d : Direction) (n : ℕ) (fine : Fine w p (stmt_at w n)) where
    pub if_left : (e chosen otherwise : ℕ) → Means w.h w.s n (If e chosen otherwise)
        → (WithinE lo hi (expr_at w e) × Fine w p (stmt_at w chosen) × Fine w p (stmt_at w otherwise)) × (performed w p d ρ (stmt_at w n) ≡ deciding w p d ρ e chosen otherwise)
    unfolding performing Within
    if_left e chosen otherwise m = (rw m at fine, rw m)

  -- A for works out its second bound first where it is inverse.
  module _ (b : Bool) (n : ℕ) (fine : Fine w p (stmt_at w n)) (x first second m : ℕ) (means : Means w.h w.s n (For x first second m)) where
    pub for_within : In lo hi x × WithinE lo hi (expr_at w first) × WithinE lo hi (expr_at w second) × Fine w p (stmt_at w m)
    unfolding Within
    for_within = rw means at fine

    pub for_forward : b ≡ false → performed w p (direction_of b) ρ (stmt_at w n) ≡ bounding w p (direction_of b) ρ n x first second m
    unfolding performing direction_of first_bound
    for_forward e = rw (means, e)

    pub for_inverse : b ≡ true → performed w p (direction_of b) ρ (stmt_at w n) ≡ bounding w p (direction_of b) ρ n x second first m
    unfolding performing direction_of first_bound
    for_inverse e = rw (means, e)

  -- ---- an if, once its condition is known

  module _ (cells : List ℕ) (e : ℕ) (within : WithinE lo hi (expr_at w e)) where
    agrees : {trace trace' : List ℕ} {entries : ℕ} {v : Valued} → Gets (eval (slot_of slots) cells (expr_at w e)) trace entries trace' v → Gets (eval ρ cells (expr_at w e)) trace entries trace' v
    agrees g = rw (← eval-agrees (expr_at w e) within cells) g

    -- What is worked out first, refused.
    pub first_refused : {trace trace' : List ℕ} {left entries entries' : ℕ} (r : Refusal) → Gets (eval (slot_of slots) cells (expr_at w e)) trace entries trace' (valued (Err r) entries') → (f : ℕ → Command)
        → Does (reading (λ σ. eval ρ σ (expr_at w e)) f) cells trace (ran (Ok tt) left entries) cells trace' (ran (Err r) left entries')
    first_refused r g f = reads_refused (λ σ. eval ρ σ (expr_at w e)) f r (agrees g)

    module _ {trace trace' : List ℕ} {left entries entries' : ℕ} (v : ℕ) (g : Gets (eval (slot_of slots) cells (expr_at w e)) trace entries trace' (valued (Ok v) entries')) where
      pub first_known : (f : ℕ → Command)
          → Leads (reading (λ σ. eval ρ σ (expr_at w e)) f) cells trace (ran (Ok tt) left entries) (f v) cells trace' (ran (Ok tt) left entries')
      first_known f =
          value_leads (λ σ. eval ρ σ (expr_at w e)) f (valued (Ok v) entries') (agrees g) (record { number_is = refl; place_is = refl; left_is = refl; entries_are = refl }) refl

      module _ (d : Direction) (chosen otherwise : ℕ) where
        pub if_not : v ≡ 0
            → Leads (deciding w p d ρ e chosen otherwise) cells trace (ran (Ok tt) left entries) (running w p d ρ (stmt_at w otherwise)) cells trace' (ran (Ok tt) left entries')
        unfolding choose
        if_not o = rw (eq-eqb v 0 o) at (first_known (λ u. choose (eqb u 0) (running w p d ρ (stmt_at w otherwise)) (running w p d ρ (stmt_at w chosen))))

        pub if_so : (v ≡ 0 → ⊥)
            → Leads (deciding w p d ρ e chosen otherwise) cells trace (ran (Ok tt) left entries) (running w p d ρ (stmt_at w chosen)) cells trace' (ran (Ok tt) left entries')
        unfolding choose
        if_so o = rw (ne_eqb v 0 o) at (first_known (λ u. choose (eqb u 0) (running w p d ρ (stmt_at w otherwise)) (running w p d ρ (stmt_at w chosen))))

  -- ---- a for, once its bounds are known

  module _ (d : Direction) (n x : ℕ) (mine : In lo hi x) (a b m : ℕ) (within_a : WithinE lo hi (expr_at w a)) (within_b : WithinE lo hi (expr_at w b))
      (cells : List ℕ) where
    abbrev turning : ℕ → ℕ → Command
    turning v u = counted n (ρ x).base v u (running w p d ρ (stmt_at w m))

    abbrev rest : ℕ → Command
    rest v = reading (λ σ. eval ρ σ (expr_at w b)) (turning v)

    module _ {trace trace₁ trace₂ : List ℕ} {left entries entries₁ entries₂ : ℕ} (v : ℕ) (g : Gets (eval (slot_of slots) cells (expr_at w a)) trace entries trace₁ (valued (Ok v) entries₁)) where
      pub second_refused : (r : Refusal) → Gets (eval (slot_of slots) cells (expr_at w b)) trace₁ entries₁ trace₂ (valued (Err r) entries₂)
          → Does (bounding w p d ρ n x a b m) cells trace (ran (Ok tt) left entries) cells trace₂ (ran (Err r) left entries₂)
      second_refused r g' c h =
          let y = first_known cells a within_a v g rest c h in
          rw y.same (first_refused cells b within_b r g' (turning v) y.to y.holds)

      pub bounds_known : (u : ℕ) → Gets (eval (slot_of slots) cells (expr_at w b)) trace₁ entries₁ trace₂ (valued (Ok u) entries₂) → (i : ℕ) → i ≡ (slot_of slots x).base
          → Leads (bounding w p d ρ n x a b m) cells trace (ran (Ok tt) left entries) (looping w p d ρ (record { node = n; cell = i; first = v; second = u; body = m }))
          cells trace₂ (ran (Ok tt) left entries₂)
      bounds_known u g' i e =
          let q : i ≡ (ρ x).base = e ∙ ap (λ (k : Slot). k.base) (st.agree.rows x mine.low mine.high) in
          rw q (leads_on (first_known cells a within_a v g rest) (first_known cells b within_b u g' (turning v)))
